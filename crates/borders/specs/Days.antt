-- Periods of the day, and figures by period.
use Rattle.std.specs.Prelude.{◌≡◌, ℕ, ◌<◌, Bool, true, false, cond, ◌≢◌, ◌⊎◌, length, ℤ, pos, slice_index_or, slice_set, refl}
use Rattle.std.proofs.Common.{sym, ap, ◌∙◌, subst, inl, inr, arith, length-set, get_or-set_same, get_or-set_other}
use Rattle.std.proofs.lemmas.Int.{ints, by_lt_z}
use Rattle.borders.specs.Day.{Schedule, Period, in_day, place, figure_in, moved}

pub day_true : (n : ℕ) (p : ℤ) → Period n p → in_day n p ≡ true
day_true n p h = grind (arith, ints)

pub day_false : (n : ℕ) (p : ℤ) → (Period n p → ⊥) → in_day n p ≡ false
day_false n p h = by_lt_z p (pos 1) (λ k. grind (arith, ints)) (λ k. by_lt_z (pos n) p (λ l. grind (arith, ints)) (λ l. absurd (h (k, l))))

pub day_period : (n : ℕ) (p : ℤ) → in_day n p ≡ true → Period n p
day_period n p h = grind (arith, ints)

by_bool : (t : Bool) (P : Bool → Type 0) → (t ≡ true → P true) → (t ≡ false → P false) → P t
by_bool true P f g = f refl
by_bool false P f g = g refl

not_true : (t : Bool) → t ≡ true → t ≢ false
not_true t e f = let z : ◌≡◌ {A = Bool} true false = sym e ∙ f in let k : ◌≡◌ {A = ℕ} 0 1 = cc in omega arith

-- by whether p is one of the periods
pub by_day : (n : ℕ) (p : ℤ) (P : Bool → Type 0) → (Period n p → P true) → ((Period n p → ⊥) → P false) → P (in_day n p)
by_day n p P f g = by_bool (in_day n p) P (λ e. f (day_period n p e)) (λ e. g (λ h. not_true (in_day n p) (day_true n p h) e))

pub day_or_not : (n : ℕ) (p : ℤ) → Period n p ⊎ (Period n p → ⊥)
day_or_not n p = by_lt_z p (pos 1) (λ k. inr (λ h. omega (arith, ints))) (λ k. by_lt_z (pos n) p (λ l. inr (λ h. omega (arith, ints))) (λ l. inl (k, l)))

-- a figure, in the day and outside it
pub figure_day : (s : Schedule) (p : ℤ) → Period (length s) p → figure_in s p ≡ slice_index_or s (place p) (pos 0)
unfolding figure_in
figure_day s p day = ap (λ (t : Bool). cond t (slice_index_or s (place p) (pos 0)) (pos 0)) (day_true (length s) p day)

pub figure_out : (s : Schedule) (p : ℤ) → (Period (length s) p → ⊥) → figure_in s p ≡ pos 0
unfolding figure_in
figure_out s p out = ap (λ (t : Bool). cond t (slice_index_or s (place p) (pos 0)) (pos 0)) (day_false (length s) p out)

pub same_or_not : (q p : ℤ) → (q ≡ p) ⊎ (q ≢ p)
same_or_not q p = by_lt_z q p (λ h. inr (λ e. omega (arith, ints))) (λ h. by_lt_z p q (λ k. inr (λ e. omega (arith, ints))) (λ k. inl (omega (arith, ints))))

place_below : (n : ℕ) (p : ℤ) → Period n p → place p < n
place_below n p day = omega (arith, ints)

place_apart : (n : ℕ) (p q : ℤ) → Period n p → Period n q → (q ≢ p) → place q ≢ place p
place_apart n p q day dayq apart = λ e. apart (omega (arith, ints))

-- one figure changed
module _ (s : Schedule) (p x : ℤ) (day : Period (length s) p) where
  pub changed_here : figure_in (slice_set s (place p) x) p ≡ x
  changed_here =
      let lt : place p < length s = place_below (length s) p day in
      figure_day (slice_set s (place p) x) p (subst (λ (n : ℕ). Period n p) (sym (length-set s (place p) x)) day) ∙ (rw get_or-set_same)

  pub changed_other : (q : ℤ) → (q ≢ p) → figure_in (slice_set s (place p) x) q ≡ figure_in s q
  changed_other q apart = elim (day_or_not (length s) q) [
    | inl dayq ↦
        let ne : place q ≢ place p = place_apart (length s) p q day dayq apart in
        figure_day (slice_set s (place p) x) q (subst (λ (n : ℕ). Period n q) (sym (length-set s (place p) x)) dayq) ∙ (rw get_or-set_other) ∙ sym (figure_day s q dayq)
    | inr out ↦ figure_out (slice_set s (place p) x) q (λ h. out (subst (λ (n : ℕ). Period n q) (length-set s (place p) x) h)) ∙ sym (figure_out s q out)
  ]

pub moved_long : (s : Schedule) (p m : ℤ) → length (moved s p m) ≡ length s
moved_long s p m = length-set s (place p) _
