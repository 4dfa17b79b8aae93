-- A figure that is told of a period; what a take that is refused answers, and how large a margin is.
use Rattle.std.proofs.Common.{◌≡◌, Bool, true, false, cond, ◌⊎◌, ℤ, pos, ◌-ℤ◌, neg_ℤ, ◌≤ℤ◌, ◌<ℤ◌, ap, ◌∙◌, inl, inr, arith, w32, SFits}
use lib.Signed.{lt_z}
use Rattle.std.proofs.lemmas.Int.{ints}
use Rattle.borders.specs.declared.BorderFault.TheVariants.{Take}
use Rattle.borders.specs.Day.{Period, Within, in_day}
use Rattle.borders.specs.Limits.{Limited}
use Rattle.borders.specs.Border.{Meaning, CanTake, forward_of, backward_of, margin_met, top, bottom, days_length, flow_of}
use Rattle.borders.specs.Days.{by_day, day_true}

pub told_day : (b : Meaning) (p x : ℤ) → Period (days_length b) p → cond (in_day (days_length b) p) x (pos 0) ≡ x
told_day b p x day = ap (λ (t : Bool). cond t x (pos 0)) (day_true (days_length b) p day)

-- a move below 0 is judged by the backward margin, every other by the forward one
below_zero : (m x y : ℤ) → m <ℤ pos 0 → x ≡ cond (lt_z m (pos 0)) x y
below_zero m x y h = grind (arith, ints)

not_below : (m x y : ℤ) → pos 0 ≤ℤ m → y ≡ cond (lt_z m (pos 0)) x y
not_below m x y h = grind (arith, ints)

no_back : (f b m : ℤ) → m <ℤ pos 0 → m <ℤ neg_ℤ b → ((pos 0 <ℤ m) × (m ≤ℤ f)) ⊎ ((m <ℤ pos 0) × (neg_ℤ m ≤ℤ b)) → ⊥
no_back f b m n h (inl x) = omega (arith, ints)
no_back f b m n h (inr x) = omega (arith, ints)

no_front : (f b m : ℤ) → pos 0 ≤ℤ m → (m ≡ pos 0) ⊎ (f <ℤ m) → ((pos 0 <ℤ m) × (m ≤ℤ f)) ⊎ ((m <ℤ pos 0) × (neg_ℤ m ≤ℤ b)) → ⊥
no_front f b m n (inl h) (inl x) = omega (arith, ints)
no_front f b m n (inl h) (inr x) = omega (arith, ints)
no_front f b m n (inr h) (inl x) = omega (arith, ints)
no_front f b m n (inr h) (inr x) = omega (arith, ints)

-- the two ways in which a move is refused, with the margin x that it met
pub refused_back : (was : Meaning) (p m x : ℤ) → x ≡ backward_of was p → m <ℤ pos 0 → m <ℤ neg_ℤ x → (CanTake was p m → ⊥) × (Take x ≡ Take (margin_met was p m))
refused_back was p m x e n h = (no_back (forward_of was p) (backward_of was p) m n (rw e at h), ap Take (e ∙ below_zero m (backward_of was p) (forward_of was p) n))

pub refused_front : (was : Meaning) (p m x : ℤ) → x ≡ forward_of was p → pos 0 ≤ℤ m → (m ≡ pos 0) ⊎ (x <ℤ m) → (CanTake was p m → ⊥) × (Take x ≡ Take (margin_met was p m))
refused_front was p m x e n h = (no_front (forward_of was p) (backward_of was p) m n (rw e at h), ap Take (e ∙ not_below m (backward_of was p) (forward_of was p) n))

-- a margin lies within ±80,000
pub margin_small : (b : Meaning) (p : ℤ) → Within b.schedule → (Period (days_length b) p → Limited (bottom b p) (top b p)) → ((neg_ℤ (pos 80000) ≤ℤ backward_of b p) × (backward_of b p ≤ℤ pos 80000)) × ((neg_ℤ (pos 80000) ≤ℤ forward_of b p) × (forward_of b p ≤ℤ pos 80000))
margin_small b p w lim =
    by_day (days_length b) p (λ t. ((neg_ℤ (pos 80000) ≤ℤ cond t (flow_of b p -ℤ bottom b p) (pos 0)) × (cond t (flow_of b p -ℤ bottom b p) (pos 0) ≤ℤ pos 80000)) × ((neg_ℤ (pos 80000) ≤ℤ cond t (top b p -ℤ flow_of b p) (pos 0)) × (cond t (top b p -ℤ flow_of b p) (pos 0) ≤ℤ pos 80000)))
    (λ day. small (flow_of b p) (top b p) (bottom b p) (w.least p) (w.most p) (lim day))
    (λ out. ((omega (arith, ints), omega (arith, ints)), (omega (arith, ints), omega (arith, ints))))
  where
    small : (f u l : ℤ) → neg_ℤ (pos 30000) ≤ℤ f → f ≤ℤ pos 30000 → Limited l u → ((neg_ℤ (pos 80000) ≤ℤ (f -ℤ l)) × ((f -ℤ l) ≤ℤ pos 80000)) × ((neg_ℤ (pos 80000) ≤ℤ (u -ℤ f)) × ((u -ℤ f) ≤ℤ pos 80000))
    small f u l a z h = ((omega (arith, ints), omega (arith, ints)), (omega (arith, ints), omega (arith, ints)))

-- so minus a margin fits a machine number
pub near_fits : (x : ℤ) → neg_ℤ (pos 80000) ≤ℤ x → x ≤ℤ pos 80000 → SFits w32 (pos 0 -ℤ x)
near_fits x h k = omega (arith, ints)

-- a move below 0, but not below minus the backward margin x, can be taken
pub taken_back : (f x m : ℤ) → lt_z m (pos 0) ≡ true → lt_z m (pos 0 -ℤ x) ≡ false → ((pos 0 <ℤ m) × (m ≤ℤ f)) ⊎ ((m <ℤ pos 0) × (neg_ℤ m ≤ℤ x))
taken_back f x m h k = inr (omega (arith, ints), omega (arith, ints))
