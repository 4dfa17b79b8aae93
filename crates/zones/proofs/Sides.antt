-- The two sides of a way: how a climb walks them, that each border is crossed once, and that the steps lead from the seller to the buyer.
use Rattle.std.proofs.Common.{◌≡◌, ℕ, zero, suc, ◌+◌, ◌<◌, ◌≤◌, Bool, true, false, cond, not, eqb, List, [], ◌∷◌, ◌++◌, map, reverse, filter, sym, refl, ap, ◌∙◌, subst, ⊎_elim, arith}
use mathlib.Core.List.{reverse-cons}
use Rattle.std.specs.List.{AllByRecursion as All}
use Rattle.std.proofs.ByRecursion.{All-weaker, All-push, kept_by_passes, all_kept_by}
use Rattle.std.proofs.lemmas.List.{map-append, append_assoc}
use Rattle.std.proofs.lemmas.Bool.{cases_eq, cases_order, eq-eqb, ne_eqb, not-true, or_right}
use Rattle.equations.specs.declared.capacity.Direction.TheVariants.{Forward, Backward}
use Rattle.zones.specs.declared.way.Step.{Step}
use Rattle.zones.specs.Ways.{Ordered, chain, behind, just_one, on_way, side, towards, way_along, crossings, EachOnce, ends, Leads}
use Rattle.zones.specs.Trees.{crossing}
use Rattle.zones.proofs.Behind.{by_parents, chain_of_0, chain_goes_on, chain_falls, behind_by_parent, not_behind, behind_itself, behind_as_parent}

kept_alike : (p q : ℕ → Bool) (xs : List ℕ) → All (λ x. p x ≡ q x) xs → filter p xs ≡ filter q xs
kept_alike p q [] h = refl
kept_alike p q (x ∷ xs) h = rw (h.0, kept_alike p q xs h.1) refl

kept_none : (p : ℕ → Bool) (xs : List ℕ) → All (λ x. p x ≡ false) xs → filter p xs ≡ []
kept_none p [] h = refl
kept_none p (x ∷ xs) h = rw (h.0, kept_none p xs h.1) refl

map_alike : {Y : Type 0} (f g : ℕ → Y) (xs : List ℕ) → All (λ x. f x ≡ g x) xs → map f xs ≡ map g xs
map_alike f g [] h = refl
map_alike f g (x ∷ xs) h = rw (h.0, map_alike f g xs h.1) refl

all_reverse : (P : ℕ → Type 0) (xs : List ℕ) → All P xs → All P (reverse xs)
all_reverse P [] h = tt
all_reverse P (x ∷ xs) h = subst (All P) (sym (reverse-cons x xs)) (All-push P (reverse xs) x (all_reverse P xs h.1) h.0)

-- the way, written as its two sides: backward up the seller's, then forward down the buyer's
abbrev pub by_sides : (ℕ → ℕ) → ℕ → ℕ → List Step
by_sides up s b = map (crossing Backward) (side up s b) ++ map (crossing Forward) (reverse (side up b s))

module _ (up : ℕ → ℕ) (ordered : Ordered up) where
  -- one step of the climb, where the higher zone a moves to its parent: its border joins its own side, and the other side stays
  pub side_goes_on : (a b : ℕ) → b < a → side up a b ≡ a ∷ side up (up a) b
  unfolding side
  side_goes_on a b l =
      ap (filter (λ c. not (behind up c b))) (chain_goes_on up ordered a (omega arith))
      ∙ ap (λ t. cond (not t) (a ∷ side up (up a) b) (side up (up a) b)) (not_behind up ordered a b l)

  pub other_side_stays : (a b : ℕ) → b < a → side up b a ≡ side up b (up a)
  unfolding side
  other_side_stays a b l =
      kept_alike _ _ (chain up b)
      (All-weaker (λ c. c ≤ b) _ (λ c k. ap not (behind_as_parent up ordered c a (omega arith) (λ e. omega arith))) (chain up b) (chain_falls up ordered b))

  -- where the two meet nothing is left
  chain_behind : (z : ℕ) → All (λ c. behind up c z ≡ true) (chain up z)
  chain_behind = by_parents up ordered (λ z. All (λ c. behind up c z ≡ true) (chain up z))
      (subst (All (λ c. behind up c 0 ≡ true)) (sym (chain_of_0 up ordered)) (behind_itself up ordered 0, tt))
      (λ z l h.
      subst (All (λ c. behind up c z ≡ true)) (sym (chain_goes_on up ordered z l))
      (behind_itself up ordered z, All-weaker (λ c. behind up c (up z) ≡ true) (λ c. behind up c z ≡ true) (λ c k. behind_by_parent up ordered c z l ∙ or_right (eqb z c) (behind up c (up z)) k) (chain up (up z)) h))

  pub none_left : (a : ℕ) → side up a a ≡ []
  unfolding side
  none_left a = kept_none _ (chain up a) (All-weaker _ _ (λ c k. ap not k) (chain up a) (chain_behind a))

  -- the buyer lies behind no border on the seller's side, and behind all on its own
  seller_side : (s b : ℕ) → All (λ c. behind up c b ≡ false) (side up s b)
  unfolding side
  seller_side s b = All-weaker _ _ (λ c k. not-true (behind up c b) k) (side up s b) (kept_by_passes (λ c. not (behind up c b)) (chain up s))

  buyer_side : (s b : ℕ) → All (λ c. behind up c b ≡ true) (side up b s)
  unfolding side
  buyer_side s b = all_kept_by (λ c. not (behind up c s)) (λ c. behind up c b ≡ true) (chain up b) (chain_behind b)

  -- so the way goes backward on the seller's side and forward on the buyer's
  pub way_by_sides : (s b : ℕ) → by_sides up s b ≡ way_along up s b
  way_by_sides s b =
      let up_side = map_alike (crossing Backward) (towards up b) (side up s b) (All-weaker _ _ (λ c k. rw k refl) (side up s b) (seller_side s b)) in
      let down_side = map_alike (crossing Forward) (towards up b) (reverse (side up b s)) (all_reverse _ (side up b s) (All-weaker _ _ (λ c k. rw k refl) (side up b s) (buyer_side s b))) in
      rw (up_side, down_side) (sym (map-append (towards up b) (side up s b) (reverse (side up b s))))

  -- where the seller climbs, the way begins at its border; where the buyer does, it ends there
  pub seller_first : (s b : ℕ) → b < s → by_sides up s b ≡ crossing Backward s ∷ by_sides up (up s) b
  seller_first s b l = rw (side_goes_on s b l, other_side_stays s b l) refl

  pub buyer_last : (s b : ℕ) → s < b → by_sides up s b ≡ by_sides up s (up b) ++ crossing Forward b ∷ []
  buyer_last s b l = rw (other_side_stays b s l, side_goes_on b s l, reverse-cons) (simp (map-append, append_assoc))

  -- between equal zones there is no border
  pub none_between : (s b : ℕ) → s ≡ b → by_sides up s b ≡ []
  none_between s b e = rw (e, none_left b) refl

-- what holds of a way, shown along the climb
crossings_append : (c : ℕ) (xs ys : List Step) → crossings (xs ++ ys) c ≡ crossings xs c + crossings ys c
unfolding crossings
crossings_append c [] ys = omega arith
crossings_append c (x ∷ xs) ys = let h = crossings_append c xs ys in omega arith

-- steps that follow one another
leads_on : (up : ℕ → ℕ) (s m b : ℕ) (xs ys : List Step) → Leads up s xs m → Leads up m ys b → Leads up s (xs ++ ys) b
leads_on up s m b [] ys h k = subst (λ (z : ℕ). Leads up z ys b) (sym h) k
leads_on up s m b (x ∷ xs) ys h k = (h.0, leads_on up (ends up x) m b xs ys h.1 k)

just_one_turned : (p q : Bool) → just_one p q ≡ just_one q p
just_one_turned true true = refl
just_one_turned true false = refl
just_one_turned false true = refl
just_one_turned false false = refl

just_one_same : (p : Bool) → just_one p p ≡ false
just_one_same true = refl
just_one_same false = refl

module _ (up : ℕ → ℕ) (ordered : Ordered up) where
  -- what holds of two zones that have met, and of two others where it holds after the higher one has moved to its parent, holds of any two
  by_climb : (P : ℕ → ℕ → Type 0) → ((s b : ℕ) → s ≡ b → P s b) → ((s b : ℕ) → b < s → P (up s) b → P s b) → ((s b : ℕ) → s < b → P s (up b) → P s b) →
      (s b : ℕ) → P s b
  by_climb P met seller buyer s b = in_steps (s + b) s b (omega arith)
    where
      in_steps : (f s b : ℕ) → s + b ≤ f → P s b
      in_steps zero s b l = met s b (omega arith)
      in_steps (suc f) s b l = ⊎_elim (met s b)
          (⊎_elim
          (λ (k : s < b). let o = ordered b (omega arith) in buyer s b k (in_steps f s (up b) (omega arith)))
          (λ (k : b < s). let o = ordered s (omega arith) in seller s b k (in_steps f (up s) b (omega arith))))
          (cases_order s b)

  -- the border of a zone is on the way to a lower one; every other border is so exactly if it is on the way from the parent
  on_way_by_parent : (z other c : ℕ) → other < z → cond {A = ℕ} (on_way up z other c) 1 0 ≡ cond {A = ℕ} (eqb z c) 1 0 + cond {A = ℕ} (on_way up (up z) other c) 1 0
  on_way_by_parent z other c l = ⊎_elim
      (λ (e : z ≡ c).
      let o = ordered z (omega arith) in
      let t : eqb z c ≡ true = eq-eqb z c e in
      let p : behind up c z ≡ true = subst (λ (k : ℕ). behind up c k ≡ true) (sym e) (behind_itself up ordered c) in
      let q : behind up c (up z) ≡ false = not_behind up ordered c (up z) (omega arith) in
      let r : behind up c other ≡ false = not_behind up ordered c other (omega arith) in
      rw (t, p, q, r) refl)
      (λ (ne : z ≡ c → ⊥).
      let t : eqb z c ≡ false = ne_eqb z c ne in
      let p : behind up c z ≡ behind up c (up z) = behind_as_parent up ordered c z (omega arith) ne in
      rw (t, p) (omega arith))
      (cases_eq z c)

  crossed_by_sides : (c s b : ℕ) → crossings (by_sides up s b) c ≡ cond (on_way up s b c) 1 0
  unfolding crossings
  crossed_by_sides c = by_climb (λ s b. crossings (by_sides up s b) c ≡ cond (on_way up s b c) 1 0)
      (λ s b e.
      ap (λ xs. crossings xs c) (none_between up ordered s b e)
      ∙ sym (ap (λ z. cond (on_way up z b c) 1 0) e ∙ ap (λ t. cond t 1 0) (just_one_same (behind up c b))))
      (λ s b l h.
      let a = ap (λ xs. crossings xs c) (seller_first up ordered s b l) in
      let w = on_way_by_parent s b c l in
      omega arith)
      (λ s b l h.
      let a = ap (λ xs. crossings xs c) (buyer_last up ordered s b l) in
      let d = crossings_append c (by_sides up s (up b)) (crossing Forward b ∷ []) in
      let w = on_way_by_parent b s c l in
      let t = ap (λ v. cond {A = ℕ} v 1 0) (just_one_turned (behind up c s) (behind up c b)) in
      let u = ap (λ v. cond {A = ℕ} v 1 0) (just_one_turned (behind up c s) (behind up c (up b))) in
      omega arith)

  leads_by_sides : (s b : ℕ) → Leads up s (by_sides up s b) b
  leads_by_sides = by_climb (λ s b. Leads up s (by_sides up s b) b)
      (λ s b e. subst (λ (xs : List Step). Leads up s xs b) (sym (none_between up ordered s b e)) e)
      (λ s b l h. subst (λ (xs : List Step). Leads up s xs b) (sym (seller_first up ordered s b l)) (refl, h))
      (λ s b l h.
      subst (λ (xs : List Step). Leads up s xs b) (sym (buyer_last up ordered s b l)) (leads_on up s (up b) b (by_sides up s (up b)) (crossing Forward b ∷ []) h (refl, refl)))

  -- each border with one of the two zones behind it is crossed once, and no other
  pub crossed_once : (s b : ℕ) → EachOnce up s b (way_along up s b)
  crossed_once s b = subst (EachOnce up s b) (way_by_sides up ordered s b) (λ c. crossed_by_sides c s b)

  -- the way leads from the seller to the buyer
  pub way_leads : (s b : ℕ) → Leads up s (way_along up s b) b
  way_leads s b = subst (λ (xs : List Step). Leads up s xs b) (way_by_sides up ordered s b) (leads_by_sides s b)

-- how often c is in the list; steps over borders are counted as these
unfoldable pub times : List ℕ → ℕ → ℕ
times [] c = 0
times (x ∷ xs) c = cond (eqb x c) 1 0 + times xs c

pub crossings_over : (f : ℕ → Step) → ((c : ℕ) → (f c).border ≡ c) → (c : ℕ) (xs : List ℕ) → crossings (map f xs) c ≡ times xs c
unfolding times crossings
crossings_over f same c [] = refl
crossings_over f same c (x ∷ xs) = ap (λ y. cond (eqb y c) 1 0 + crossings (map f xs) c) (same x) ∙ ap (λ n. cond (eqb x c) 1 0 + n) (crossings_over f same c xs)
