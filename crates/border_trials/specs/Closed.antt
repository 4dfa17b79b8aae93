-- A border over which nothing flows keeps the laws of a border.
use Rattle.std.specs.Prelude.{◌≡◌, ℕ, zero, suc, Bool, true, false, cond, ◌⊎◌, [], ◌∷◌, length, get_or, ℤ, pos, ◌-ℤ◌, neg_ℤ, ◌≤ℤ◌, ◌<ℤ◌, FitsSigned, ◌==◌, int_lt, slice_index_or, refl}
use Rattle.std.proofs.Common.{sym, ap, subst, ◌∙◌, inl, inr, arith, of_z}
use Rattle.std.specs.Int.{w32}
use Rattle.std.proofs.lemmas.Bool.{eqb-true}
use Rattle.std.proofs.lemmas.Int.{ints}
use Rattle.equations.specs.declared.capacity.Direction.{Direction}
use Rattle.equations.specs.declared.capacity.Direction.TheVariants.{Forward, Backward}
use Rattle.borders.specs.Day.{Schedule, Period, in_day, place, figure_in}
use Rattle.borders.specs.declared.BorderFault.TheVariants.{Take}
use Rattle.borders.specs.Border.{margin_in, margin_met, CanTake, Admitted, forward_of, backward_of, flow_of}
use Rattle.borders.specs.Laws.{Known}
use Rattle.borders.specs.Days.{day_or_not, figure_day, figure_out}
use Rattle.border_trials.specs.Shut.{closed}

zeros : (k : ℕ) → slice_index_or (pos 0 ∷ []) k (pos 0) ≡ pos 0
zeros zero = refl
zeros (suc k) = refl

pub still : (p : ℤ) → figure_in (pos 0 ∷ []) p ≡ pos 0
still p = elim (day_or_not 1 p) [ inl day ↦ figure_day (pos 0 ∷ []) p day ∙ zeros (place p) | inr out ↦ figure_out (pos 0 ∷ []) p out ]

told_none : (t : Bool) (x : ℤ) → x ≡ pos 0 → cond t x (pos 0) ≡ pos 0
told_none true x e = e
told_none false x e = refl

pub forward_none : (p : ℤ) → forward_of closed p ≡ pos 0
forward_none p = told_none (in_day 1 p) (pos 0 -ℤ flow_of closed p) (ap (λ (x : ℤ). pos 0 -ℤ x) (still p))

pub backward_none : (p : ℤ) → backward_of closed p ≡ pos 0
backward_none p = told_none (in_day 1 p) (flow_of closed p -ℤ pos 0) (ap (λ (x : ℤ). x -ℤ pos 0) (still p))

pub margin_none : (to : Direction) (p : ℤ) → margin_in closed to p ≡ pos 0
margin_none Forward p = forward_none p
margin_none Backward p = backward_none p

no_move : (f b m : ℤ) → f ≡ pos 0 → b ≡ pos 0 → ((pos 0 <ℤ m) × (m ≤ℤ f)) ⊎ ((m <ℤ pos 0) × (neg_ℤ m ≤ℤ b)) → ⊥
no_move f b m e d (inl h) = omega (arith, ints)
no_move f b m e d (inr h) = omega (arith, ints)

pub takes_none : (p m : ℤ) → CanTake closed p m → ⊥
takes_none p m can = no_move (forward_of closed p) (backward_of closed p) m (forward_none p) (backward_none p) can

near : (x : ℤ) → x ≡ pos 0 → (neg_ℤ (pos 30000) ≤ℤ x) × (x ≤ℤ pos 30000)
near x e = (omega (arith, ints), omega (arith, ints))

pub closed_known : Known closed
closed_known = record {
  day_some = omega arith;
  day_short = omega arith;
  flows_within = record { least = λ p. (near _ (still p)).0; most = λ p. (near _ (still p)).1 };
  limits_within = λ s p w day. record { top_most = omega (arith, ints); top_least = omega (arith, ints); bottom_least = omega (arith, ints); bottom_most = omega (arith, ints) };
  take_eases = λ p m q can day. absurd (takes_none p m can);
  test_stated = λ t s p. tt;
}

-- ---- the one schedule that it admits
pub only_zero : (s : Schedule) → length s ≡ 1 → slice_index_or s 0 (pos 0) ≡ pos 0 → s ≡ pos 0 ∷ []
only_zero [] long e = absurd (omega arith)
only_zero (x ∷ []) long e = ap (λ (y : ℤ). y ∷ []) e
only_zero (x ∷ (y ∷ s)) long e = absurd (omega arith)

pub zero_admitted : Admitted closed (pos 0 ∷ [])
zero_admitted = record {
  some = omega arith;
  as_long = refl;
  within = closed_known.flows_within;
  under = λ p day. le _ _ (still p);
  over = λ p day. ge _ _ (still p);
}
  where
    le : (x y : ℤ) → x ≡ y → x ≤ℤ y
    le x y e = omega (arith, ints)

    ge : (x y : ℤ) → x ≡ y → y ≤ℤ x
    ge x y e = omega (arith, ints)

pub admitted_zero : (s : Schedule) → Admitted closed s → slice_index_or s 0 (pos 0) ≡ pos 0
admitted_zero s a =
    let day : Period 1 (pos 1) = (omega (arith, ints), omega (arith, ints)) in
    let own : Period (length s) (pos 1) = subst (λ (n : ℕ). Period n (pos 1)) (sym a.as_long) day in
    let f : figure_in s (pos 1) ≡ get_or s 0 (pos 0) = figure_day s (pos 1) own in
    between _ _ f (a.under (pos 1) day) (a.over (pos 1) day)
  where
    between : (x y : ℤ) → x ≡ y → x ≤ℤ pos 0 → pos 0 ≤ℤ x → y ≡ pos 0
    between x y e h k = omega (arith, ints)

-- a number is compared by its bits
pub bits_zero : (x : ℤ) → FitsSigned w32 x → (of_z w32 x == 0) ≡ true → x ≡ pos 0
bits_zero x f e = omega (arith, ints, eqb-true (of_z w32 x) 0 e)

pub zero_bits : (x : ℤ) → x ≡ pos 0 → (of_z w32 x == 0) ≡ true
zero_bits x e = rw e refl

pub met_none : (p m : ℤ) → Take (pos 0) ≡ Take (margin_met closed p m)
met_none p m = ap Take (sym (either (int_lt m (pos 0)) (backward_of closed p) (forward_of closed p) (backward_none p) (forward_none p)))
  where
    either : (t : Bool) (x y : ℤ) → x ≡ pos 0 → y ≡ pos 0 → cond t x y ≡ pos 0
    either true x y e d = e
    either false x y e d = d
