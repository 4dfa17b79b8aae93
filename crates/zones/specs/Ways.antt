-- What lies behind a border, the way between two zones, and the net positions that flows leave; `up` tells each zone's parent.
use Rattle.std.specs.Prelude.{◌≡◌, ℕ, zero, suc, ◌+◌, ◌<◌, ◌≤◌, Bool, true, false, cond, not, ◌&&◌, ◌||◌, List, [], ◌∷◌, ◌++◌, map, reverse, ℤ, ◌-ℤ◌, neg_ℤ, filter, ◌==◌}
use Rattle.equations.specs.declared.capacity.Direction.TheVariants.{Forward, Backward}
use Rattle.zones.specs.declared.way.Step.{Step}
use Rattle.zones.specs.Sums.{part, total}

-- every zone above 0 has a parent with a smaller number
abbrev pub Ordered : (ℕ → ℕ) → Type 0
Ordered up = (z : ℕ) → 1 ≤ z → up z < z

-- z, its parent, the parent's parent and so on, for that many steps or until zone 0
unfoldable pub climbed : ℕ → (ℕ → ℕ) → ℕ → List ℕ
climbed zero up z = z ∷ []
climbed (suc steps) up z = z ∷ cond (z == 0) [] (climbed steps up (up z))

-- the chain of zone z: z, its parent, the parent's parent and so on to zone 0. Numbers fall along it, so z steps are enough
unfoldable pub chain : (ℕ → ℕ) → ℕ → List ℕ
chain up z = climbed z up z

-- c is in the list
unfoldable pub meets : List ℕ → ℕ → Bool
meets [] c = false
meets (x ∷ xs) c = x == c || meets xs c

-- behind border c lies each zone whose chain meets c. (Every chain ends at 0: all zones lie behind 0, which is no border.)
unfoldable pub behind : (ℕ → ℕ) → ℕ → ℕ → Bool
behind up c z = meets (chain up z) c

abbrev pub just_one : Bool → Bool → Bool
just_one true b = not b
just_one false b = b

-- on the way between two zones is each border with just one of them behind it
abbrev pub on_way : (ℕ → ℕ) → ℕ → ℕ → ℕ → Bool
on_way up s b c = just_one (behind up c s) (behind up c b)

-- the borders of the way on one zone's side: those of its chain that the other zone does not lie behind
unfoldable pub side : (ℕ → ℕ) → ℕ → ℕ → List ℕ
side up z other = filter (λ c. not (behind up c other)) (chain up z)

-- the borders of the way from seller to buyer in order: up the seller's side, then down the buyer's
abbrev pub crossed : (ℕ → ℕ) → ℕ → ℕ → List ℕ
crossed up s b = side up s b ++ reverse (side up b s)

-- a border is crossed forward if the buyer lies behind it, else backward
abbrev pub towards : (ℕ → ℕ) → ℕ → ℕ → Step
towards up b c = record { border = c; direction = cond (behind up c b) Forward Backward }

-- the way from seller to buyer
abbrev pub way_along : (ℕ → ℕ) → ℕ → ℕ → List Step
way_along up s b = map (towards up b) (crossed up s b)

-- how often border c is crossed
unfoldable pub crossings : List Step → ℕ → ℕ
crossings [] c = 0
crossings (x ∷ xs) c = cond (x.border == c) 1 0 + crossings xs c

-- each border with just one of the two zones behind it is crossed once, and no other
abbrev pub EachOnce : (ℕ → ℕ) → ℕ → ℕ → List Step → Type 0
EachOnce up s b steps = (c : ℕ) → crossings steps c ≡ cond (on_way up s b c) 1 0

-- where a step starts and where it ends: a border joins its own zone and the parent
abbrev pub starts : (ℕ → ℕ) → Step → ℕ
starts up x = elim x.direction [ Forward ↦ up x.border | Backward ↦ x.border ]

abbrev pub ends : (ℕ → ℕ) → Step → ℕ
ends up x = elim x.direction [ Forward ↦ x.border | Backward ↦ up x.border ]

-- the steps lead from zone s to zone b, each from where the one before it ends
abbrev pub Leads : (ℕ → ℕ) → ℕ → List Step → ℕ → Type 0
Leads up s [] b = s ≡ b
Leads up s (x ∷ xs) b = (starts up x ≡ s) × Leads up (ends up x) xs b

-- border d leads from zone z to a zone below
abbrev pub leads_from : (ℕ → ℕ) → ℕ → ℕ → Bool
leads_from up z d = not (d == 0) && up d == z

-- the net position that the flows of n zones' borders leave zone z: what goes out to the zones below, less what comes in by its own border
abbrev pub net_of_flows : ℕ → (ℕ → ℕ) → (ℕ → ℤ) → ℕ → ℤ
net_of_flows n up flow z = total n (λ d. part (leads_from up z d) (flow d)) -ℤ part (not (z == 0)) (flow z)

-- the sum of the net positions behind border c
abbrev pub sum_behind : ℕ → (ℕ → ℕ) → ℕ → (ℕ → ℤ) → ℤ
sum_behind n up c net = total n (λ z. part (behind up c z) (net z))

-- flows follow net positions: each border's is minus the sum of those behind it
abbrev pub FlowsFollow : ℕ → (ℕ → ℕ) → (ℕ → ℤ) → (ℕ → ℤ) → Type 0
FlowsFollow n up flow net = (c : ℕ) → 1 ≤ c → c < n → flow c ≡ neg_ℤ (sum_behind n up c net)
