-- What lies behind a border follows from the parents.
use Rattle.std.proofs.Common.{◌≡◌, ℕ, zero, suc, ◌<◌, ◌≤◌, true, false, cond, ◌||◌, eqb, List, [], ◌∷◌, ℤ, pos, ◌+ℤ◌, sym, refl, ap, ◌∙◌, subst, ⊎_elim, arith}
use Rattle.std.proofs.lemmas.Int.{ints}
use Rattle.std.proofs.lemmas.Bool.{cases_eq, eq-eqb, ne_eqb, cond-true, cond-false, or_left, or_right}
use Rattle.std.specs.List.{AllByRecursion as All}
use Rattle.std.proofs.ByRecursion.{All-weaker}
use Rattle.std.proofs.Math.Bool.{or-false}
use Rattle.zones.specs.Sums.{part}
use Rattle.zones.specs.Ways.{Ordered, climbed, chain, meets, behind}

-- a list of numbers up to z does not meet a higher one
meets_none : (z c : ℕ) (xs : List ℕ) → All (λ x. x ≤ z) xs → z < c → meets xs c ≡ false
unfolding meets
meets_none z c [] h l = refl
meets_none z c (x ∷ xs) h l =
    let a = h.0 in
    let t : eqb x c ≡ false = ne_eqb x c (λ e. omega arith) in
    rw t (meets_none z c xs h.1 l)

module _ (up : ℕ → ℕ) (ordered : Ordered up) where
  -- more steps than the zone's number lead no further
  climbed_enough : (f g z : ℕ) → z ≤ f → z ≤ g → climbed f up z ≡ climbed g up z
  unfolding climbed
  climbed_enough zero zero z l m = refl
  climbed_enough zero (suc g) z l m =
      let e : z ≡ 0 = omega arith in
      let t : eqb z 0 ≡ true = eq-eqb z 0 e in
      rw t refl
  climbed_enough (suc f) zero z l m =
      let e : z ≡ 0 = omega arith in
      let t : eqb z 0 ≡ true = eq-eqb z 0 e in
      rw t refl
  climbed_enough (suc f) (suc g) z l m =
      ⊎_elim
      (λ (e : z ≡ 0). let t : eqb z 0 ≡ true = eq-eqb z 0 e in rw t refl)
      (λ (ne : z ≡ 0 → ⊥).
      let o : up z < z = ordered z (omega arith) in
      ap (λ xs. z ∷ cond (eqb z 0) [] xs) (climbed_enough f g (up z) (omega arith) (omega arith)))
      (cases_eq z 0)

  pub chain_of_0 : chain up 0 ≡ 0 ∷ []
  unfolding chain climbed
  chain_of_0 = refl

  -- the chain of a zone goes on as that of its parent
  pub chain_goes_on : (z : ℕ) → 1 ≤ z → chain up z ≡ z ∷ chain up (up z)
  unfolding chain climbed
  chain_goes_on zero l = absurd (omega arith)
  chain_goes_on (suc z) l =
      let o : up (suc z) < suc z = ordered (suc z) l in
      let t : eqb (suc z) 0 ≡ false = ne_eqb (suc z) 0 (λ e. omega arith) in
      let u : climbed z up (up (suc z)) ≡ climbed (up (suc z)) up (up (suc z)) = climbed_enough z (up (suc z)) (up (suc z)) (omega arith) (omega arith) in
      ap (λ b. suc z ∷ cond b [] (climbed z up (up (suc z)))) t ∙ ap (λ xs. suc z ∷ xs) u

  -- what holds of zone 0, and of a zone where it holds of its parent, holds of every zone
  pub by_parents : (P : ℕ → Type 0) → P 0 → ((z : ℕ) → 1 ≤ z → P (up z) → P z) → (z : ℕ) → P z
  by_parents P first next z = as_far_as z z (omega arith)
    where
      as_far_as : (f z : ℕ) → z ≤ f → P z
      as_far_as f zero l = first
      as_far_as zero (suc z) l = absurd (omega arith)
      as_far_as (suc f) (suc z) l = let o = ordered (suc z) (omega arith) in next (suc z) (omega arith) (as_far_as f (up (suc z)) (omega arith))

  -- numbers fall along a chain
  pub chain_falls : (z : ℕ) → All (λ c. c ≤ z) (chain up z)
  chain_falls = by_parents (λ z. All (λ c. c ≤ z) (chain up z))
      (subst (All (λ c. c ≤ 0)) (sym chain_of_0) ((omega arith), tt))
      (λ z l h.
      let o = ordered z l in
      subst (All (λ c. c ≤ z)) (sym (chain_goes_on z l)) (omega arith, All-weaker (λ c. c ≤ up z) (λ c. c ≤ z) (λ c k. omega arith) (chain up (up z)) h))

  pub behind_of_0 : (c : ℕ) → behind up c 0 ≡ eqb 0 c
  unfolding behind meets
  behind_of_0 c = ap (λ xs. meets xs c) chain_of_0 ∙ or-false (eqb 0 c)

  -- a zone above 0 is behind a border exactly if it is that border's zone or its parent is behind it
  pub behind_by_parent : (c d : ℕ) → 1 ≤ d → behind up c d ≡ (eqb d c || behind up c (up d))
  unfolding behind meets
  behind_by_parent c d l = ap (λ xs. meets xs c) (chain_goes_on d l)

  -- what lies behind a border has no smaller number
  pub not_behind : (c z : ℕ) → z < c → behind up c z ≡ false
  unfolding behind
  not_behind c z l = meets_none z c (chain up z) (chain_falls z) l

  -- and it is never both
  pub parent_not_behind : (d : ℕ) → 1 ≤ d → behind up d (up d) ≡ false
  parent_not_behind d l = not_behind d (up d) (ordered d l)

  pub behind_itself : (c : ℕ) → behind up c c ≡ true
  behind_itself zero = behind_of_0 0
  behind_itself (suc c) = behind_by_parent (suc c) (suc c) (omega arith) ∙ or_left _ _ (eq-eqb (suc c) (suc c) refl)

  -- a border other than that of the zone has the zone behind it as it has the parent
  pub behind_as_parent : (c d : ℕ) → 1 ≤ d → (d ≡ c → ⊥) → behind up c d ≡ behind up c (up d)
  behind_as_parent c d l ne = behind_by_parent c d l ∙ ap (λ t. t || behind up c (up d)) (ne_eqb d c ne)

  pub all_behind_0 : (z : ℕ) → behind up 0 z ≡ true
  all_behind_0 = by_parents (λ z. behind up 0 z ≡ true) (behind_of_0 0) (λ z l h. behind_by_parent 0 z l ∙ or_right (eqb z 0) (behind up 0 (up z)) h)

  -- counted as a share of m
  pub part_behind : (c d : ℕ) (m : ℤ) → 1 ≤ d → part (behind up c d) m ≡ part (eqb d c) m +ℤ part (behind up c (up d)) m
  part_behind c d m l =
      ⊎_elim
      (λ (e : d ≡ c).
      let t : eqb d c ≡ true = eq-eqb d c e in
      let b : behind up c d ≡ true = subst (λ (k : ℕ). behind up c k ≡ true) (sym e) (behind_itself c) in
      let n : behind up c (up d) ≡ false = subst (λ (k : ℕ). behind up k (up d) ≡ false) e (parent_not_behind d l) in
      let x = cond-true (behind up c d) m (pos 0) b in
      let y = cond-true (eqb d c) m (pos 0) t in
      let z = cond-false (behind up c (up d)) m (pos 0) n in
      omega (arith, ints))
      (λ (ne : d ≡ c → ⊥).
      let x : part (behind up c d) m ≡ part (behind up c (up d)) m = ap (λ v. part v m) (behind_as_parent c d l ne) in
      let y = cond-false (eqb d c) m (pos 0) (ne_eqb d c ne) in
      omega (arith, ints))
      (cases_eq d c)

  -- a climb that has come to no more than the border has met it or never will
  pub meeting : (c z : ℕ) → z ≤ c → eqb z c ≡ behind up c z
  meeting c z l =
      ⊎_elim
      (λ (e : z ≡ c). eq-eqb z c e ∙ sym (subst (λ (k : ℕ). behind up c k ≡ true) (sym e) (behind_itself c)))
      (λ (ne : z ≡ c → ⊥). ne_eqb z c ne ∙ sym (not_behind c z (omega arith)))
      (cases_eq z c)
