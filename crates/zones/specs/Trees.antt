-- The tree of zones as it is made, asked and refused.
use Rattle.std.specs.Prelude.{◌≡◌, ℕ, ◌+◌, ◌<◌, ◌≤◌, Bool, cond, ◌&&◌, List, [], ◌∷◌, length, take, ℤ, pos, ◌+ℤ◌, ◌≤ℤ◌, Some, None, Option, Result, MatchResult, nat_lt, slice_index, slice_index_or}
use Rattle.equations.specs.Grounds.{tells}
use Rattle.equations.specs.declared.fault.Told.{Told}
use Rattle.equations.specs.declared.capacity.Direction.{Direction}
use Rattle.zones.specs.declared.tree.Tree.{Tree}
use Rattle.zones.specs.declared.tree.TreeFault.{TreeFault}
use Rattle.zones.specs.declared.tree.TreeFault.TheVariants.{Count, Parent}
use Rattle.zones.specs.declared.way.Step.{Step}
use Rattle.zones.specs.declared.way.Way.{Way}
use Rattle.zones.specs.Ways.{behind, way_along, net_of_flows}

-- how many zones there are, and the parent of each
abbrev pub zones : Tree → ℕ
zones t = t.count

abbrev pub up : Tree → ℕ → ℕ
up t z = slice_index t.parents z

abbrev pub is_zone : Tree → ℕ → Bool
is_zone t z = nat_lt z (zones t)

-- zone 0 has no border of its own
abbrev pub is_border : Tree → ℕ → Bool
is_border t c = nat_lt 0 c && is_zone t c

-- the parent of zone z, as given in a list of the parents of zones 1, 2 and so on
abbrev pub parent_in : List ℕ → ℕ → ℕ
parent_in given z = slice_index (0 ∷ given) z

abbrev pub CountAllowed : List ℕ → Type 0
CountAllowed given = (2 ≤ length given + 1) × (length given + 1 ≤ 16)

abbrev pub ParentAllowed : List ℕ → ℕ → Type 0
ParentAllowed given z = parent_in given z < z

-- all zones from 1 as far as, but without, zone n have an allowed parent
abbrev pub AllowedBelow : List ℕ → ℕ → Type 0
AllowedBelow given n = (z : ℕ) → 1 ≤ z → z < n → ParentAllowed given z

-- what each fault tells: ground 8
abbrev pub told : TreeFault → Told
told Count = tells 8 (pos 0) (pos 0)
told (Parent z) = tells 8 (pos z) (pos 0)

-- when each fault is told, and what it tells: the count of zones is judged first, then the parents, of which the lowest zone's is told
abbrev pub RefusedAs : List ℕ → TreeFault → Type 0
RefusedAs given Count = (CountAllowed given → ⊥) × (told Count ≡ tells 8 (pos 0) (pos 0))
RefusedAs given (Parent z) =
    CountAllowed given × (1 ≤ z) × (z ≤ length given) × (ParentAllowed given z → ⊥) × AllowedBelow given z × (told (Parent z) ≡ tells 8 (pos z) (pos 0))

-- the tree of the given parents, if the count and all parents are allowed, else the refusal
abbrev pub Made : List ℕ → Result Tree TreeFault → Type 0
Made given r = MatchResult r
    (λ t. CountAllowed given × AllowedBelow given (length given + 1) × (zones t ≡ length given + 1) × ((z : ℕ) → up t z ≡ parent_in given z))
    (RefusedAs given)

-- within 2 ^ 36 of 0, as far as a sum of the flows of a zone's borders can reach
abbrev pub InReach : ℤ → Type 0
InReach x = (pos 0 ≤ℤ (x +ℤ pos 68719476736)) × (x ≤ℤ pos 68719476736)

-- the parent of a zone that has one
abbrev pub parent_of : Tree → ℕ → Option ℕ
parent_of t z = cond (is_border t z) (Some (up t z)) None

-- zone z lies behind border c, and both exist
abbrev pub lies_behind_lem : Tree → ℕ → ℕ → Bool
lies_behind_lem t c z = is_border t c && (is_zone t z && behind (up t) c z)

abbrev pub both_zones : Tree → ℕ → ℕ → Bool
both_zones t s b = is_zone t s && is_zone t b

-- the way from seller to buyer; none where one of them does not exist
abbrev pub way_of : Tree → ℕ → ℕ → List Step
way_of t s b = cond (both_zones t s b) (way_along (up t) s b) []

-- border c crossed in a direction
abbrev pub crossing : Direction → ℕ → Step
crossing d c = record { border = c; direction = d }

-- the steps of a way: the first of its memory
abbrev pub steps_of : Way → List Step
steps_of w = take w.count w.steps

-- the flow of border c in a list of the flows of borders 1, 2 and so on; 0 where there is none
abbrev pub flow_in : List ℤ → ℕ → ℤ
flow_in flows c = slice_index_or (pos 0 ∷ flows) c (pos 0)

-- the net position that the flows leave a zone; 0 where there is no such zone
abbrev pub net_position_lem : Tree → List ℤ → ℕ → ℤ
net_position_lem t flows z = cond (is_zone t z) (net_of_flows (zones t) (up t) (flow_in flows) z) (pos 0)
