-- An accepted take enlarges no overrun, over a ramp.
use Rattle.std.specs.Prelude.{◌≡◌, ℕ, Bool, cond, ◌⊎◌, length, ℤ, pos, ◌+ℤ◌, ◌-ℤ◌, neg_ℤ, ◌≤ℤ◌, ◌<ℤ◌, refl}
use Rattle.std.proofs.Common.{ap, ◌∙◌, subst, inl, inr, arith}
use Rattle.std.specs.Int.{int_max}
use Rattle.std.proofs.lemmas.Int.{ints, clamps}
use Rattle.borders.specs.Day.{Period, in_day, Schedule, figure_in, moved}
use Rattle.borders.specs.Limits.{capped_by, lifted_by, ramped_upper, ramped_lower}
use Rattle.borders.specs.Border.{Meaning, CanTake, overrun, took, ramped, top, bottom, days_length, flow_of}
use Rattle.borders.specs.Days.{by_day, day_true, same_or_not, changed_here, changed_other, moved_long}
use Rattle.borders.specs.Ramps.{capped_day, lifted_day, capped_most, lifted_least, upper_less, lower_more, capped_above, lifted_below, ≤ℤ_trans}

-- ---- what a take in period p says of p and of a neighbour n
can_in : (n : ℕ) (p f b m : ℤ) → ((pos 0 <ℤ m) × (m ≤ℤ cond (in_day n p) f (pos 0))) ⊎ ((m <ℤ pos 0) × (neg_ℤ m ≤ℤ cond (in_day n p) b (pos 0))) → Period n p
can_in n p f b m =
    by_day n p (λ t. ((pos 0 <ℤ m) × (m ≤ℤ cond t f (pos 0))) ⊎ ((m <ℤ pos 0) × (neg_ℤ m ≤ℤ cond t b (pos 0))) → Period n p)
    (λ day h. day)
    (λ out h. elim h [ inl x ↦ absurd (omega (arith, ints)) | inr x ↦ absurd (omega (arith, ints)) ])

pub can_period : (b : Meaning) (p m : ℤ) → CanTake b p m → Period (days_length b) p
can_period b p m can = can_in (days_length b) p (top b p -ℤ flow_of b p) (flow_of b p -ℤ bottom b p) m can

-- with limits u and l at p, a take stays within them
pub can_room : (n : ℕ) (p f u l m : ℤ) → Period n p → ((pos 0 <ℤ m) × (m ≤ℤ cond (in_day n p) (u -ℤ f) (pos 0))) ⊎ ((m <ℤ pos 0) × (neg_ℤ m ≤ℤ cond (in_day n p) (f -ℤ l) (pos 0))) → ((pos 0 <ℤ m) × ((f +ℤ m) ≤ℤ u)) ⊎ ((m <ℤ pos 0) × (l ≤ℤ (f +ℤ m)))
can_room n p f u l m day (inl x) = let e = ap (λ (t : Bool). cond t (u -ℤ f) (pos 0)) (day_true n p day) in inl (x.0, omega (arith, ints))
can_room n p f u l m day (inr x) = let e = ap (λ (t : Bool). cond t (f -ℤ l) (pos 0)) (day_true n p day) in inr (x.0, omega (arith, ints))

-- a limit of the ramp at p lies within the reach of its neighbour n
reach_upper : (R : ℤ) (s : Schedule) (p n limit : ℤ) → (n ≡ p +ℤ pos 1) ⊎ (n ≡ p -ℤ pos 1) → Period (length s) n → ramped_upper R s p limit ≤ℤ (figure_in s n +ℤ R)
reach_upper R s p n limit (inl e) day =
    let cu = capped_day R s (p +ℤ pos 1) (capped_by R s (p -ℤ pos 1) limit) (rw e at day) in
    let f : figure_in s n ≡ figure_in s (p +ℤ pos 1) = ap (figure_in s) e in
    omega (arith, ints, clamps)
reach_upper R s p n limit (inr e) day =
    let cu = capped_day R s (p -ℤ pos 1) limit (rw e at day) in
    let most = capped_most R s (p +ℤ pos 1) (capped_by R s (p -ℤ pos 1) limit) in
    let f : figure_in s n ≡ figure_in s (p -ℤ pos 1) = ap (figure_in s) e in
    omega (arith, ints, clamps)

reach_lower : (R : ℤ) (s : Schedule) (p n limit : ℤ) → (n ≡ p +ℤ pos 1) ⊎ (n ≡ p -ℤ pos 1) → Period (length s) n → (figure_in s n -ℤ R) ≤ℤ ramped_lower R s p limit
reach_lower R s p n limit (inl e) day =
    let cl = lifted_day R s (p +ℤ pos 1) (lifted_by R s (p -ℤ pos 1) limit) (rw e at day) in
    let f : figure_in s n ≡ figure_in s (p +ℤ pos 1) = ap (figure_in s) e in
    omega (arith, ints, clamps)
reach_lower R s p n limit (inr e) day =
    let cl = lifted_day R s (p -ℤ pos 1) limit (rw e at day) in
    let least = lifted_least R s (p +ℤ pos 1) (lifted_by R s (p -ℤ pos 1) limit) in
    let f : figure_in s n ≡ figure_in s (p -ℤ pos 1) = ap (figure_in s) e in
    omega (arith, ints, clamps)

-- ---- a step from period q to its neighbour n exceeds the rate by no more than before
other_way : (p n : ℤ) → (n ≡ p +ℤ pos 1) ⊎ (n ≡ p -ℤ pos 1) → (p ≡ n +ℤ pos 1) ⊎ (p ≡ n -ℤ pos 1)
other_way p n (inl e) = inr (omega (arith, ints))
other_way p n (inr e) = inl (omega (arith, ints))

module _ (R : ℤ) (b : Meaning) (p m : ℤ) (can : CanTake (ramped R b) p m) where
  pub room : (n : ℤ) → (n ≡ p +ℤ pos 1) ⊎ (n ≡ p -ℤ pos 1) → Period (days_length b) n → ((pos 0 <ℤ m) × ((figure_in b.schedule p +ℤ m) ≤ℤ (figure_in b.schedule n +ℤ R))) ⊎ ((m <ℤ pos 0) × ((figure_in b.schedule n -ℤ R) ≤ℤ (figure_in b.schedule p +ℤ m)))
  room n side day =
      let u = reach_upper R b.schedule p n (b.upper b.schedule p) side day in
      let l = reach_lower R b.schedule p n (b.lower b.schedule p) side day in
      elim (can_room (days_length b) p (figure_in b.schedule p) ((ramped R b).upper b.schedule p) ((ramped R b).lower b.schedule p) m (can_period (ramped R b) p m can) can)
      [ inl x ↦ inl (x.0, omega (arith, ints)) | inr x ↦ inr (x.0, omega (arith, ints)) ]

  step_eased : (q n X : ℤ) → (n ≡ q +ℤ pos 1) ⊎ (n ≡ q -ℤ pos 1) → Period (days_length b) q → Period (days_length b) n → pos 0 ≤ℤ X
      → (figure_in b.schedule q -ℤ figure_in b.schedule n) ≤ℤ (X +ℤ R)
      → (figure_in (moved b.schedule p m) q -ℤ figure_in (moved b.schedule p m) n) ≤ℤ (X +ℤ R)
  step_eased q n X side dq dn zero h =
      let dp = can_period (ramped R b) p m can in
      elim (same_or_not q p) [
        | inl e ↦
            let fq : figure_in (moved b.schedule p m) q ≡ figure_in b.schedule p +ℤ m = ap (figure_in (moved b.schedule p m)) e ∙ changed_here b.schedule p (figure_in b.schedule p +ℤ m) dp in
            let sq : figure_in b.schedule q ≡ figure_in b.schedule p = ap (figure_in b.schedule) e in
            let fn : figure_in (moved b.schedule p m) n ≡ figure_in b.schedule n = changed_other b.schedule p (figure_in b.schedule p +ℤ m) dp n (λ x. elim side [ inl y ↦ omega (arith, ints) | inr y ↦ omega (arith, ints) ]) in
            let side' : (n ≡ p +ℤ pos 1) ⊎ (n ≡ p -ℤ pos 1) = elim side [ inl y ↦ inl (omega (arith, ints)) | inr y ↦ inr (omega (arith, ints)) ] in
            elim (room n side' dn) [ inl x ↦ omega (arith, ints) | inr x ↦ omega (arith, ints) ]
        | inr ne ↦
            let fq : figure_in (moved b.schedule p m) q ≡ figure_in b.schedule q = changed_other b.schedule p (figure_in b.schedule p +ℤ m) dp q ne in
            elim (same_or_not n p) [
              | inl e ↦
                  let fn : figure_in (moved b.schedule p m) n ≡ figure_in b.schedule p +ℤ m = ap (figure_in (moved b.schedule p m)) e ∙ changed_here b.schedule p (figure_in b.schedule p +ℤ m) dp in
                  let sn : figure_in b.schedule n ≡ figure_in b.schedule p = ap (figure_in b.schedule) e in
                  let side' : (q ≡ p +ℤ pos 1) ⊎ (q ≡ p -ℤ pos 1) = elim side [ inl y ↦ inr (omega (arith, ints)) | inr y ↦ inl (omega (arith, ints)) ] in
                  elim (room q side' dq) [ inl x ↦ omega (arith, ints) | inr x ↦ omega (arith, ints) ]
              | inr no_n ↦
                  let fn : figure_in (moved b.schedule p m) n ≡ figure_in b.schedule n = changed_other b.schedule p (figure_in b.schedule p +ℤ m) dp n no_n in
                  omega (arith, ints)
            ]
      ]

-- ---- an overrun by its parts
pub over_in : (f u l X : ℤ) → pos 0 ≤ℤ X → (f -ℤ X) ≤ℤ u → l ≤ℤ (f +ℤ X) → int_max (pos 0) (int_max (f -ℤ u) (l -ℤ f)) ≤ℤ X
over_in f u l X z a c = omega (arith, ints, clamps)

pub over_out : (f u l X : ℤ) → int_max (pos 0) (int_max (f -ℤ u) (l -ℤ f)) ≤ℤ X → (pos 0 ≤ℤ X) × ((f -ℤ X) ≤ℤ u) × (l ≤ℤ (f +ℤ X))
over_out f u l X h = (omega (arith, ints, clamps), omega (arith, ints, clamps), omega (arith, ints, clamps))

pub le_self : (x : ℤ) → x ≤ℤ x
le_self x = omega (arith, ints)

-- X is a bound of the ramp's overrun before the take
module _ (R : ℤ) (b : Meaning) (p m q X : ℤ) (can : CanTake (ramped R b) p m) (day : Period (days_length b) q)
    (below : overrun (took b p m) q ≤ℤ overrun b q)
    (zero : pos 0 ≤ℤ X) (high : (figure_in b.schedule q -ℤ X) ≤ℤ (ramped R b).upper b.schedule q) (low : (ramped R b).lower b.schedule q ≤ℤ (figure_in b.schedule q +ℤ X)) where
  under_X : overrun b q ≤ℤ X
  unfolding overrun
  under_X =
      over_in (figure_in b.schedule q) (b.upper b.schedule q) (b.lower b.schedule q) X zero
      (≤ℤ_trans _ _ _ high (upper_less R b.schedule q (b.upper b.schedule q)))
      (≤ℤ_trans _ _ _ (lower_more R b.schedule q (b.lower b.schedule q)) low)

  parts : (pos 0 ≤ℤ X) × ((figure_in (moved b.schedule p m) q -ℤ X) ≤ℤ b.upper (moved b.schedule p m) q) × (b.lower (moved b.schedule p m) q ≤ℤ (figure_in (moved b.schedule p m) q +ℤ X))
  unfolding overrun
  parts = over_out (figure_in (moved b.schedule p m) q) (b.upper (moved b.schedule p m) q) (b.lower (moved b.schedule p m) q) X (≤ℤ_trans (overrun (took b p m) q) (overrun b q) X below under_X)

  step_up : (n : ℤ) → (n ≡ q +ℤ pos 1) ⊎ (n ≡ q -ℤ pos 1) → Period (days_length b) n → (figure_in (moved b.schedule p m) q -ℤ X) ≤ℤ (figure_in (moved b.schedule p m) n +ℤ R)
  step_up n side dn =
      let r = reach_upper R b.schedule q n (b.upper b.schedule q) side dn in
      let e = step_eased R b p m can q n X side day dn zero (omega (arith, ints)) in
      omega (arith, ints)

  step_down : (n : ℤ) → (n ≡ q +ℤ pos 1) ⊎ (n ≡ q -ℤ pos 1) → Period (days_length b) n → (figure_in (moved b.schedule p m) n -ℤ R) ≤ℤ (figure_in (moved b.schedule p m) q +ℤ X)
  step_down n side dn =
      let r = reach_lower R b.schedule q n (b.lower b.schedule q) side dn in
      let e = step_eased R b p m can n q X (other_way q n side) dn day zero (omega (arith, ints)) in
      omega (arith, ints)

  own : (n : ℤ) → Period (length (moved b.schedule p m)) n → Period (days_length b) n
  own n h = subst (λ (k : ℕ). Period k n) (moved_long b.schedule p m) h

  still : overrun (took (ramped R b) p m) q ≤ℤ X
  unfolding overrun
  still =
      over_in (figure_in (moved b.schedule p m) q) (ramped_upper R (moved b.schedule p m) q (b.upper (moved b.schedule p m) q)) (ramped_lower R (moved b.schedule p m) q (b.lower (moved b.schedule p m) q)) X zero
      (capped_above R (moved b.schedule p m) (q +ℤ pos 1) _ _ (capped_above R (moved b.schedule p m) (q -ℤ pos 1) _ _ parts.1 (λ h. step_up (q -ℤ pos 1) (inr refl) (own _ h))) (λ h. step_up (q +ℤ pos 1) (inl refl) (own _ h)))
      (lifted_below R (moved b.schedule p m) (q +ℤ pos 1) _ _ (lifted_below R (moved b.schedule p m) (q -ℤ pos 1) _ _ parts.2 (λ h. step_down (q -ℤ pos 1) (inr refl) (own _ h))) (λ h. step_down (q +ℤ pos 1) (inl refl) (own _ h)))

pub ramp_eased : (R : ℤ) (b : Meaning) (p m q : ℤ) → CanTake (ramped R b) p m → Period (days_length b) q → overrun (took b p m) q ≤ℤ overrun b q → overrun (took (ramped R b) p m) q ≤ℤ overrun (ramped R b) q
unfolding overrun
ramp_eased R b p m q can day below =
    let X : ℤ = overrun (ramped R b) q in
    let o = over_out (figure_in b.schedule q) ((ramped R b).upper b.schedule q) ((ramped R b).lower b.schedule q) X (le_self X) in
    still R b p m q X can day below o.0 o.1 o.2
