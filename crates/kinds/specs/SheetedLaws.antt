-- A border of our kinds keeps the laws of a border.
use Rattle.std.specs.Prelude.{◌≡◌, ℕ, zero, suc, ◌≤◌, cond, List, [], ◌∷◌, map, length, slice_index_or, ℤ, pos, ◌+ℤ◌, ◌-ℤ◌, neg_ℤ, ◌≤ℤ◌, ◌<ℤ◌, ◌⊎◌, refl}
use Rattle.std.proofs.Common.{sym, ◌∙◌, subst, inl, inr, arith}
use Rattle.std.specs.Int.{int_max}
use Rattle.std.proofs.lemmas.Int.{ints, clamps}
use Rattle.std.proofs.lemmas.List.{length-map}
use Rattle.borders.specs.Day.{Schedule, Period, place, figure_in, moved}
use Rattle.borders.specs.Days.{by_day, same_or_not, changed_here, changed_other}
use Rattle.borders.specs.Eased.{can_period, can_room}
use Rattle.borders.specs.Limits.{Limited}
use Rattle.borders.specs.Border.{Stated, CanTake, overrun, took}
use Rattle.borders.specs.Laws.{Known}
use Rattle.kinds.specs.declared.sheeted.Sheeted.{Sheeted}
use Rattle.kinds.specs.declared.limits.Limits.{Limits}
use Rattle.kinds.specs.Sheets.{lowers, uppers, sheeted}

-- what a border of ours keeps
pub record Kept (flows lower upper : Schedule) : Type 0 where
  pub long : length flows ≡ 24
  pub rows : (length lower ≡ 24) × (length upper ≡ 24)
  pub least : (p : ℤ) → neg_ℤ (pos 30000) ≤ℤ figure_in flows p
  pub most : (p : ℤ) → figure_in flows p ≤ℤ pos 30000
  pub top : (p : ℤ) → (neg_ℤ (pos 50000) ≤ℤ figure_in upper p) × (figure_in upper p ≤ℤ pos 30000)
  pub bottom : (p : ℤ) → (neg_ℤ (pos 30000) ≤ℤ figure_in lower p) × (figure_in lower p ≤ℤ pos 50000)

-- what holds of each entry of a row, and of 0, holds of the figure of each period
pub figures_keep : {X : Type 0} (P : ℤ → Type 0) (f : X → ℤ) → P (pos 0) → ((x : X) → P (f x)) → (xs : List X) (p : ℤ) → P (figure_in (map f xs) p)
unfolding figure_in
figures_keep {X} P f zero_holds holds xs p =
    by_day (length (map f xs)) p (λ t. P (cond t (slice_index_or (map f xs) (place p) (pos 0)) (pos 0))) (λ _. at xs (place p)) (λ _. zero_holds)
  where
    at : (ys : List X) (k : ℕ) → P (slice_index_or (map f ys) k (pos 0))
    at [] k = zero_holds
    at (y ∷ ys) zero = holds y
    at (y ∷ ys) (suc k) = at ys k

pub kept_of : {K : Type 0} (b : Sheeted K) → Kept b.flows (lowers b.limits) (uppers b.limits)
kept_of b =
    record {
      long = b.long;
      rows = (length-map b.limits (λ (l : Limits). l.lower) ∙ b.rows, length-map b.limits (λ (l : Limits). l.upper) ∙ b.rows);
      least = b.within.least;
      most = b.within.most;
      top = figures_keep (λ x. (neg_ℤ (pos 50000) ≤ℤ x) × (x ≤ℤ pos 30000)) (λ (l : Limits). l.upper) (omega (arith, ints), omega (arith, ints)) (λ l. (l.limited.top_least, l.limited.top_most)) b.limits;
      bottom = figures_keep (λ x. (neg_ℤ (pos 30000) ≤ℤ x) × (x ≤ℤ pos 50000)) (λ (l : Limits). l.lower) (omega (arith, ints), omega (arith, ints)) (λ l. (l.limited.bottom_least, l.limited.bottom_most)) b.limits;
    }

pub limited : (flows lower upper : Schedule) → Kept flows lower upper → (p : ℤ) → Limited (figure_in lower p) (figure_in upper p)
limited flows lower upper k p = record { top_most = (k.top p).1; top_least = (k.top p).0; bottom_least = (k.bottom p).0; bottom_most = (k.bottom p).1 }

over_moved : (f g u l m : ℤ) → g ≡ f +ℤ m → ((pos 0 <ℤ m) × ((f +ℤ m) ≤ℤ u)) ⊎ ((m <ℤ pos 0) × (l ≤ℤ (f +ℤ m))) → int_max (pos 0) (int_max (g -ℤ u) (l -ℤ g)) ≤ℤ int_max (pos 0) (int_max (f -ℤ u) (l -ℤ f))
over_moved f g u l m e (inl x) = omega (arith, ints, clamps)
over_moved f g u l m e (inr x) = omega (arith, ints, clamps)

le_self : (x : ℤ) → x ≤ℤ x
le_self x = omega (arith, ints)

module _ (kind : Stated) (flows lower upper : Schedule) (p m : ℤ) (kept : Kept flows lower upper) (can : CanTake (sheeted kind flows lower upper) p m) where
  pub day_of : Period (length flows) p
  day_of = can_period (sheeted kind flows lower upper) p m can

  pub room : ((pos 0 <ℤ m) × ((figure_in flows p +ℤ m) ≤ℤ figure_in upper p)) ⊎ ((m <ℤ pos 0) × (figure_in lower p ≤ℤ (figure_in flows p +ℤ m)))
  room = can_room (length flows) p (figure_in flows p) (figure_in upper p) (figure_in lower p) m day_of can

  pub take_eased : (q : ℤ) → overrun (took (sheeted kind flows lower upper) p m) q ≤ℤ overrun (sheeted kind flows lower upper) q
  unfolding overrun
  take_eased q = elim (same_or_not q p) [
    | inl e ↦
        subst (λ (r : ℤ). overrun (took (sheeted kind flows lower upper) p m) r ≤ℤ overrun (sheeted kind flows lower upper) r) (sym e)
        (over_moved (figure_in flows p) (figure_in (moved flows p m) p) (figure_in upper p) (figure_in lower p) m (changed_here flows p (figure_in flows p +ℤ m) day_of) room)
    | inr ne ↦
        subst (λ (f : ℤ). int_max (pos 0) (int_max (f -ℤ figure_in upper q) (figure_in lower q -ℤ f)) ≤ℤ overrun (sheeted kind flows lower upper) q) (sym (changed_other flows p (figure_in flows p +ℤ m) day_of q ne))
        (le_self (overrun (sheeted kind flows lower upper) q))
  ]

day_bounds : (n : ℕ) → n ≡ 24 → (1 ≤ n) × (n ≤ 100)
day_bounds n e = (omega arith, omega arith)

pub sheeted_known : (kind : Stated) (flows lower upper : Schedule) → Kept flows lower upper → Known (sheeted kind flows lower upper)
sheeted_known kind flows lower upper kept =
    record {
      day_some = (day_bounds (length flows) kept.long).0;
      day_short = (day_bounds (length flows) kept.long).1;
      flows_within = record { least = kept.least; most = kept.most };
      limits_within = λ s p w day. limited flows lower upper kept p;
      take_eases = λ p m q can day. take_eased kind flows lower upper p m kept can q;
      test_stated = λ t s p. refl;
    }
