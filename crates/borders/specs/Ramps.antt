-- What a ramp keeps of the border below.
use Rattle.std.specs.Prelude.{◌≡◌, ℕ, ◌+◌, ◌-◌, ◌<◌, ◌≤◌, Bool, true, false, cond, length, get_or, ℤ, pos, ◌+ℤ◌, ◌-ℤ◌, neg_ℤ, ◌≤ℤ◌, IfSome, Some, None, Ok, Err, Option, Result, FitsSigned, int_lt, slice_index_or, refl}
use Rattle.std.proofs.Common.{sym, ap, ◌∙◌, subst, inl, inr, arith}
use Rattle.std.proofs.Math.Path.{fun_ext}
use Rattle.std.specs.Int.{int_max, int_min, w32}
use Rattle.std.proofs.lemmas.Int.{ints, clamps}
use Rattle.borders.specs.declared.Sheet.{Sheet}
use Rattle.borders.specs.declared.BorderFault.{BorderFault}
use Rattle.borders.specs.Day.{Period, Schedule, figure_in, Within, place}
use Rattle.borders.specs.Limits.{Limited, capped_by, lifted_by, ramped_upper, ramped_lower}
use Rattle.borders.specs.Border.{Meaning, Rule, Stated, ramped_stated, Admitted, CanTake, forward_of, backward_of, flow_of, top, bottom, days_length, ramped}
use Rattle.borders.specs.Answers.{TakeAnswer, AdoptAnswer, ReassessAnswer, same_period, with_limit, with_limits}
use Rattle.std.specs.Option.{option_map}
use Rattle.borders.specs.Days.{by_day, day_true, day_false, figure_day}

pub capped_most : (R : ℤ) (s : Schedule) (q limit : ℤ) → capped_by R s q limit ≤ℤ limit
unfolding capped_by
capped_most R s q limit =
    by_day (length s) q (λ t. cond t (int_min limit (figure_in s q +ℤ R)) limit ≤ℤ limit) (λ _. omega (arith, ints, clamps)) (λ _. omega (arith, ints))

pub capped_least : (R : ℤ) (s : Schedule) (q limit : ℤ) → pos 1 ≤ℤ R → Within s → neg_ℤ (pos 50000) ≤ℤ limit → neg_ℤ (pos 50000) ≤ℤ capped_by R s q limit
unfolding capped_by
capped_least R s q limit r w h =
    by_day (length s) q (λ t. neg_ℤ (pos 50000) ≤ℤ cond t (int_min limit (figure_in s q +ℤ R)) limit) (λ _. omega (arith, ints, clamps, w.least q)) (λ _. h)

pub lifted_least : (R : ℤ) (s : Schedule) (q limit : ℤ) → limit ≤ℤ lifted_by R s q limit
unfolding lifted_by
lifted_least R s q limit =
    by_day (length s) q (λ t. limit ≤ℤ cond t (int_max limit (figure_in s q -ℤ R)) limit) (λ _. omega (arith, ints, clamps)) (λ _. omega (arith, ints))

pub lifted_most : (R : ℤ) (s : Schedule) (q limit : ℤ) → pos 1 ≤ℤ R → Within s → limit ≤ℤ pos 50000 → lifted_by R s q limit ≤ℤ pos 50000
unfolding lifted_by
lifted_most R s q limit r w h =
    by_day (length s) q (λ t. cond t (int_max limit (figure_in s q -ℤ R)) limit ≤ℤ pos 50000) (λ _. omega (arith, ints, clamps, w.most q)) (λ _. h)

pub ramped_limited : (R : ℤ) (s : Schedule) (p lo hi : ℤ) → pos 1 ≤ℤ R → Within s → Limited lo hi → Limited (ramped_lower R s p lo) (ramped_upper R s p hi)
ramped_limited R s p lo hi r w h =
    record {
      top_most = omega (arith, ints, capped_most R s (p +ℤ pos 1) (capped_by R s (p -ℤ pos 1) hi), capped_most R s (p -ℤ pos 1) hi, h.top_most);
      top_least = capped_least R s (p +ℤ pos 1) (capped_by R s (p -ℤ pos 1) hi) r w (capped_least R s (p -ℤ pos 1) hi r w h.top_least);
      bottom_least = omega (arith, ints, lifted_least R s (p +ℤ pos 1) (lifted_by R s (p -ℤ pos 1) lo), lifted_least R s (p -ℤ pos 1) lo, h.bottom_least);
      bottom_most = lifted_most R s (p +ℤ pos 1) (lifted_by R s (p -ℤ pos 1) lo) r w (lifted_most R s (p -ℤ pos 1) lo r w h.bottom_most);
    }

pub capped_day : (R : ℤ) (s : Schedule) (q limit : ℤ) → Period (length s) q → capped_by R s q limit ≡ int_min limit (figure_in s q +ℤ R)
unfolding capped_by
capped_day R s q limit day = ap (λ (t : Bool). cond t (int_min limit (figure_in s q +ℤ R)) limit) (day_true (length s) q day)

pub lifted_day : (R : ℤ) (s : Schedule) (q limit : ℤ) → Period (length s) q → lifted_by R s q limit ≡ int_max limit (figure_in s q -ℤ R)
unfolding lifted_by
lifted_day R s q limit day = ap (λ (t : Bool). cond t (int_max limit (figure_in s q -ℤ R)) limit) (day_true (length s) q day)

pub capped_out : (R : ℤ) (s : Schedule) (q limit : ℤ) → (Period (length s) q → ⊥) → capped_by R s q limit ≡ limit
unfolding capped_by
capped_out R s q limit out = ap (λ (t : Bool). cond t (int_min limit (figure_in s q +ℤ R)) limit) (day_false (length s) q out)

pub lifted_out : (R : ℤ) (s : Schedule) (q limit : ℤ) → (Period (length s) q → ⊥) → lifted_by R s q limit ≡ limit
unfolding lifted_by
lifted_out R s q limit out = ap (λ (t : Bool). cond t (int_max limit (figure_in s q -ℤ R)) limit) (day_false (length s) q out)

-- ---- the margins of a ramp, and those below
pub upper_less : (R : ℤ) (s : Schedule) (p hi : ℤ) → ramped_upper R s p hi ≤ℤ hi
upper_less R s p hi = omega (arith, ints, capped_most R s (p +ℤ pos 1) (capped_by R s (p -ℤ pos 1) hi), capped_most R s (p -ℤ pos 1) hi)

pub lower_more : (R : ℤ) (s : Schedule) (p lo : ℤ) → lo ≤ℤ ramped_lower R s p lo
lower_more R s p lo = omega (arith, ints, lifted_least R s (p +ℤ pos 1) (lifted_by R s (p -ℤ pos 1) lo), lifted_least R s (p -ℤ pos 1) lo)

pub forward_less : (R : ℤ) (b : Meaning) (p : ℤ) → forward_of (ramped R b) p ≤ℤ forward_of b p
forward_less R b p =
    by_day (days_length b) p (λ t. cond t (top (ramped R b) p -ℤ flow_of b p) (pos 0) ≤ℤ cond t (top b p -ℤ flow_of b p) (pos 0))
    (λ _. less (top (ramped R b) p) (top b p) (flow_of b p) (upper_less R b.schedule p (top b p)))
    (λ _. omega (arith, ints))
  where
    less : (x y f : ℤ) → x ≤ℤ y → (x -ℤ f) ≤ℤ (y -ℤ f)
    less x y f h = omega (arith, ints)

pub backward_less : (R : ℤ) (b : Meaning) (p : ℤ) → backward_of (ramped R b) p ≤ℤ backward_of b p
backward_less R b p =
    by_day (days_length b) p (λ t. cond t (flow_of b p -ℤ bottom (ramped R b) p) (pos 0) ≤ℤ cond t (flow_of b p -ℤ bottom b p) (pos 0))
    (λ _. less (bottom (ramped R b) p) (bottom b p) (flow_of b p) (lower_more R b.schedule p (bottom b p)))
    (λ _. omega (arith, ints))
  where
    less : (x y f : ℤ) → y ≤ℤ x → (f -ℤ x) ≤ℤ (f -ℤ y)
    less x y f h = omega (arith, ints)

pub ≤ℤ_trans : (a b c : ℤ) → a ≤ℤ b → b ≤ℤ c → a ≤ℤ c
≤ℤ_trans a b c h k = omega (arith, ints)

pub can_below : (R : ℤ) (b : Meaning) (p m : ℤ) → CanTake (ramped R b) p m → CanTake b p m
can_below R b p m (inl h) = inl (h.0, ≤ℤ_trans m (forward_of (ramped R b) p) (forward_of b p) h.1 (forward_less R b p))
can_below R b p m (inr h) = inr (h.0, ≤ℤ_trans (neg_ℤ m) (backward_of (ramped R b) p) (backward_of b p) h.1 (backward_less R b p))

-- what the border below answers, once the ramp allows the call, is what the ramp answers
pub take_below : (R : ℤ) (was : Meaning) (p m : ℤ) (r : Result (Unit {0}) BorderFault) (new : Meaning) → CanTake (ramped R was) p m → TakeAnswer was p m r new → TakeAnswer (ramped R was) p m r (ramped R new)
take_below R was p m (Ok x) new can h = (can, ap (ramped R) h.1)
take_below R was p m (Err e) new can h = absurd (h.0 (can_below R was p m can))

-- ---- the schedules that a ramp admits: those below, with no step above the rate
pub record Step (R : ℤ) (s : Schedule) (j : ℕ) : Type 0 where
  pub rise : get_or s j (pos 0) ≤ℤ (slice_index_or s (j - 1) (pos 0) +ℤ R)
  pub fall : get_or s (j - 1) (pos 0) ≤ℤ (slice_index_or s j (pos 0) +ℤ R)

pub capped_above : (R : ℤ) (s : Schedule) (q limit x : ℤ) → x ≤ℤ limit → (Period (length s) q → x ≤ℤ (figure_in s q +ℤ R)) → x ≤ℤ capped_by R s q limit
unfolding capped_by
capped_above R s q limit x h k =
    by_day (length s) q (λ t. x ≤ℤ cond t (int_min limit (figure_in s q +ℤ R)) limit) (λ day. let e = k day in omega (arith, ints, clamps)) (λ _. h)

pub lifted_below : (R : ℤ) (s : Schedule) (q limit x : ℤ) → limit ≤ℤ x → (Period (length s) q → (figure_in s q -ℤ R) ≤ℤ x) → lifted_by R s q limit ≤ℤ x
unfolding lifted_by
lifted_below R s q limit x h k =
    by_day (length s) q (λ t. cond t (int_max limit (figure_in s q -ℤ R)) limit ≤ℤ x) (λ day. let e = k day in omega (arith, ints, clamps)) (λ _. h)

-- two neighbours p and p + 1, by places
between : (R : ℤ) (s : Schedule) (p : ℤ) → Period (length s) p → Period (length s) (p +ℤ pos 1) → Step R s (place (p +ℤ pos 1)) → (figure_in s p ≤ℤ (figure_in s (p +ℤ pos 1) +ℤ R)) × (figure_in s (p +ℤ pos 1) ≤ℤ (figure_in s p +ℤ R))
between R s p day next st =
    let e : get_or s (place (p +ℤ pos 1) - 1) (pos 0) ≡ get_or s (place p) (pos 0) = ap (λ (i : ℕ). get_or s i (pos 0)) (places p day.0) in
    let f = figure_day s p day in
    let g = figure_day s (p +ℤ pos 1) next in
    both (figure_in s p) (figure_in s (p +ℤ pos 1)) _ _ _ R f g e st.rise st.fall
  where
    places : (p : ℤ) → pos 1 ≤ℤ p → place (p +ℤ pos 1) - 1 ≡ place p
    places p h = omega (arith, ints)

    both : (x y a b c R : ℤ) → x ≡ a → y ≡ b → c ≡ a → b ≤ℤ (c +ℤ R) → c ≤ℤ (b +ℤ R) → (x ≤ℤ (y +ℤ R)) × (y ≤ℤ (x +ℤ R))
    both x y a b c R e f g h k = (omega (arith, ints), omega (arith, ints))

module _ (R : ℤ) (s : Schedule) (steps : (j : ℕ) → j < length s → 1 ≤ j → Step R s j) where
  next_rise : (p : ℤ) → Period (length s) p → Period (length s) (p +ℤ pos 1) → (figure_in s p ≤ℤ (figure_in s (p +ℤ pos 1) +ℤ R)) × (figure_in s (p +ℤ pos 1) ≤ℤ (figure_in s p +ℤ R))
  next_rise p day next = between R s p day next (steps (place (p +ℤ pos 1)) (omega (arith, ints)) (omega (arith, ints)))

  before_rise : (p : ℤ) → Period (length s) p → Period (length s) (p -ℤ pos 1) → (figure_in s (p -ℤ pos 1) ≤ℤ (figure_in s p +ℤ R)) × (figure_in s p ≤ℤ (figure_in s (p -ℤ pos 1) +ℤ R))
  before_rise p day before =
      let e : (p -ℤ pos 1) +ℤ pos 1 ≡ p = omega (arith, ints) in
      subst (λ (q : ℤ). (figure_in s (p -ℤ pos 1) ≤ℤ (figure_in s q +ℤ R)) × (figure_in s q ≤ℤ (figure_in s (p -ℤ pos 1) +ℤ R))) e (next_rise (p -ℤ pos 1) before (subst (Period (length s)) (sym e) day))

down : (x y R : ℤ) → x ≤ℤ (y +ℤ R) → (x -ℤ R) ≤ℤ y
down x y R h = omega (arith, ints)

pub admitted_over : (R : ℤ) (b : Meaning) (s : Schedule) → Admitted b s → ((j : ℕ) → j < length s → 1 ≤ j → Step R s j) → Admitted (ramped R b) s
admitted_over R b s a steps =
    let own : (p : ℤ) → Period (days_length b) p → Period (length s) p = λ p day. subst (λ (n : ℕ). Period n p) (sym a.as_long) day in
    record {
      some = a.some;
      as_long = a.as_long;
      within = a.within;
      under = λ p day. capped_above R s (p +ℤ pos 1) (capped_by R s (p -ℤ pos 1) (b.upper s p)) (figure_in s p) (capped_above R s (p -ℤ pos 1) (b.upper s p) (figure_in s p) (a.under p day) (λ q. (before_rise R s steps p (own p day) q).1)) (λ q. (next_rise R s steps p (own p day) q).0);
      over = λ p day. lifted_below R s (p +ℤ pos 1) (lifted_by R s (p -ℤ pos 1) (b.lower s p)) (figure_in s p) (lifted_below R s (p -ℤ pos 1) (b.lower s p) (figure_in s p) (a.over p day) (λ q. down _ _ R (before_rise R s steps p (own p day) q).0)) (λ q. down _ _ R (next_rise R s steps p (own p day) q).1);
    }

pub admitted_below : (R : ℤ) (b : Meaning) (s : Schedule) → Admitted (ramped R b) s → Admitted b s
admitted_below R b s a =
    record {
      some = a.some;
      as_long = a.as_long;
      within = a.within;
      under = λ p day. ≤ℤ_trans (figure_in s p) (ramped_upper R s p (b.upper s p)) (b.upper s p) (a.under p day) (upper_less R s p (b.upper s p));
      over = λ p day. ≤ℤ_trans (b.lower s p) (ramped_lower R s p (b.lower s p)) (figure_in s p) (lower_more R s p (b.lower s p)) (a.over p day);
    }

-- the step to place j, from the limits of the period before it
pub admitted_step : (R : ℤ) (b : Meaning) (s : Schedule) → Admitted (ramped R b) s → (j : ℕ) → j < length s → 1 ≤ j → Step R s j
admitted_step R b s a j h k =
    let p : ℤ = pos j in
    let day : Period (length s) p = (omega (arith, ints), omega (arith, ints)) in
    let next : Period (length s) (p +ℤ pos 1) = (omega (arith, ints), omega (arith, ints)) in
    let mine : Period (days_length b) p = subst (λ (n : ℕ). Period n p) a.as_long day in
    let f : figure_in s p ≡ get_or s (j - 1) (pos 0) = figure_day s p day in
    let g : figure_in s (p +ℤ pos 1) ≡ get_or s j (pos 0) = figure_day s (p +ℤ pos 1) next ∙ ap (λ (i : ℕ). get_or s i (pos 0)) (omega arith) in
    let cu = capped_day R s (p +ℤ pos 1) (capped_by R s (p -ℤ pos 1) (b.upper s p)) next in
    let cl = lifted_day R s (p +ℤ pos 1) (lifted_by R s (p -ℤ pos 1) (b.lower s p)) next in
    record {
      rise = rises (figure_in s p) (figure_in s (p +ℤ pos 1)) _ _ _ _ R f g cl (a.over p mine);
      fall = falls (figure_in s p) (figure_in s (p +ℤ pos 1)) _ _ _ _ R f g cu (a.under p mine);
    }
  where
    rises : (x y a b l lo R : ℤ) → x ≡ a → y ≡ b → l ≡ int_max lo (y -ℤ R) → l ≤ℤ x → b ≤ℤ (a +ℤ R)
    rises x y a b l lo R e f g h = omega (arith, ints, clamps)

    falls : (x y a b u hi R : ℤ) → x ≡ a → y ≡ b → u ≡ int_min hi (y +ℤ R) → x ≤ℤ u → a ≤ℤ (b +ℤ R)
    falls x y a b u hi R e f g h = omega (arith, ints, clamps)

pub adopt_below : (R : ℤ) (was : Meaning) (s : Schedule) (r : Result (Unit {0}) BorderFault) (new : Meaning) → Admitted (ramped R was) s → AdoptAnswer was s r new → AdoptAnswer (ramped R was) s r (ramped R new)
adopt_below R was s (Ok x) new can h = (can, ap (ramped R) h.1)
adopt_below R was s (Err e) new can h = absurd (h.0 (admitted_below R was s can))

-- ---- a sheet accepted below is accepted by the ramp
same_true : (q p : ℤ) → same_period q p ≡ true → q ≡ p
same_true q p e = grind (arith, ints)

by_same : (q p : ℤ) (P : Bool → Type 0) → (q ≡ p → P true) → P false → P (same_period q p)
by_same q p P f g = by_bool (same_period q p) P (λ e. f (same_true q p e)) g
  where
    by_bool : (t : Bool) (P : Bool → Type 0) → (t ≡ true → P true) → P false → P t
    by_bool true P f g = f refl
    by_bool false P f g = g

upper_at : (R : ℤ) (rule : Rule) (p : ℤ) (hi : Schedule → ℤ) (s : Schedule) (q : ℤ) → ramped_upper R s q (with_limit rule p hi s q) ≡ with_limit (λ d r. ramped_upper R d r (rule d r)) p (λ d. ramped_upper R d p (hi d)) s q
upper_at R rule p hi s q =
    by_same q p (λ t. ramped_upper R s q (cond t (hi s) (rule s q)) ≡ cond t (ramped_upper R s p (hi s)) (ramped_upper R s q (rule s q)))
    (λ e. ap (λ (r : ℤ). ramped_upper R s r (hi s)) e) refl

lower_at : (R : ℤ) (rule : Rule) (p : ℤ) (lo : Schedule → ℤ) (s : Schedule) (q : ℤ) → ramped_lower R s q (with_limit rule p lo s q) ≡ with_limit (λ d r. ramped_lower R d r (rule d r)) p (λ d. ramped_lower R d p (lo d)) s q
lower_at R rule p lo s q =
    by_same q p (λ t. ramped_lower R s q (cond t (lo s) (rule s q)) ≡ cond t (ramped_lower R s p (lo s)) (ramped_lower R s q (rule s q)))
    (λ e. ap (λ (r : ℤ). ramped_lower R s r (lo s)) e) refl

with_rules : Meaning → Rule → Rule → Meaning
with_rules b lo hi = record { schedule = b.schedule; lower = lo; upper = hi; passes = b.passes; stated = b.stated }

ramped_limits : (R : ℤ) (b : Meaning) (p : ℤ) (lo hi : Schedule → ℤ) → ramped R (with_limits b p lo hi) ≡ with_limits (ramped R b) p (λ s. ramped_lower R s p (lo s)) (λ s. ramped_upper R s p (hi s))
unfolding with_rules
ramped_limits R b p lo hi =
    ap (λ (l : Rule). with_rules (ramped R b) l (λ s q. ramped_upper R s q (with_limit b.upper p hi s q))) (fun_ext (λ s. fun_ext (λ q. lower_at R b.lower p lo s q)))
    ∙ ap (λ (u : Rule). with_rules (ramped R b) (with_limit (λ s q. ramped_lower R s q (b.lower s q)) p (λ s. ramped_lower R s p (lo s))) u) (fun_ext (λ s. fun_ext (λ q. upper_at R b.upper p hi s q)))

follows_over : (R : ℤ) (was new : Meaning) (sheet : Sheet) (p : ℤ) (o : Option Stated)
    → IfSome o (λ t. new ≡ with_limits was p (λ s. t.lower sheet (flow_of was p) s p) (λ s. t.upper sheet (flow_of was p) s p))
    → IfSome (option_map (ramped_stated R) o) (λ t. ramped R new ≡ with_limits (ramped R was) p (λ s. t.lower sheet (flow_of was p) s p) (λ s. t.upper sheet (flow_of was p) s p))
follows_over R was new sheet p None h = tt
follows_over R was new sheet p (Some t) h = ap (ramped R) h ∙ ramped_limits R was p (λ s. t.lower sheet (flow_of was p) s p) (λ s. t.upper sheet (flow_of was p) s p)

pub reassess_below : (R : ℤ) (was : Meaning) (sheet : Sheet) (p : ℤ) (r : Result (Unit {0}) BorderFault) (new : Meaning) → ReassessAnswer was sheet p r new → ReassessAnswer (ramped R was) sheet p r (ramped R new)
reassess_below R was sheet p (Ok x) new h = (
  h.0,
  record {
    schedule = h.1.schedule;
    passes = h.1.passes;
    stated = ap (option_map (ramped_stated R)) h.1.stated;
    upper = λ s q other. ap (ramped_upper R s q) (h.1.upper s q other);
    lower = λ s q other. ap (ramped_lower R s q) (h.1.lower s q other);
    follows = follows_over R was new sheet p was.stated h.1.follows;
  },
)
reassess_below R was sheet p (Err e) new h = (h.0, h.1, ap (ramped R) h.2)

pub test_over : (R : ℤ) (b : Meaning) (t : Sheet) (s : Schedule) (p : ℤ) (o : Option Stated)
    → IfSome o (λ rule. b.passes t s p ≡ rule.test t (figure_in s p))
    → IfSome (option_map (ramped_stated R) o) (λ rule. b.passes t s p ≡ rule.test t (figure_in s p))
test_over R b t s p None h = tt
test_over R b t s p (Some rule) h = h

abbrev pub Near30 : ℤ → Type 0
Near30 f = (neg_ℤ (pos 30000) ≤ℤ f) × (f ≤ℤ pos 30000)

-- ---- the tests of a neighbour, and sums with a rate
pub early : (n : ℕ) (q : ℤ) → int_lt q (pos 1) ≡ true → Period n q → ⊥
early n q e h = omega (arith, ints)

pub late : (n : ℕ) (q k : ℤ) → k ≡ pos n → int_lt k q ≡ true → Period n q → ⊥
late n q k e f h = omega (arith, ints)

pub inside : (n : ℕ) (q k : ℤ) → k ≡ pos n → int_lt q (pos 1) ≡ false → int_lt k q ≡ false → Period n q
inside n q k e f g = (omega (arith, ints), omega (arith, ints))

pub raised_fits : (x R : ℤ) → neg_ℤ (pos 30000) ≤ℤ x → x ≤ℤ pos 30000 → pos 1 ≤ℤ R → R ≤ℤ pos 20000 → FitsSigned w32 (x +ℤ R) × FitsSigned w32 (x -ℤ R)
raised_fits x R a b c d = (omega (arith, ints), omega (arith, ints))

pub rate_fits : (R : ℤ) → pos 1 ≤ℤ R → R ≤ℤ pos 20000 → FitsSigned w32 R
rate_fits R a b = omega (arith, ints)

-- a limit above or below the flow, and what a margin of a ramp is
pub limit_sum : (f u l m : ℤ) → Near30 f → Limited l u → (m ≡ u -ℤ f → FitsSigned w32 (m +ℤ f) × (m +ℤ f ≡ u)) × (m ≡ f -ℤ l → FitsSigned w32 (f -ℤ m) × (f -ℤ m ≡ l))
limit_sum f u l m near lim = ((λ e. (omega (arith, ints), omega (arith, ints))), (λ e. (omega (arith, ints), omega (arith, ints))))

pub margin_fits : (f u l : ℤ) → Near30 f → Limited l u → FitsSigned w32 (u -ℤ f) × FitsSigned w32 (f -ℤ l) × FitsSigned w32 u × FitsSigned w32 l
margin_fits f u l near lim = (omega (arith, ints), omega (arith, ints), omega (arith, ints), omega (arith, ints))

pub neighbours : (n : ℕ) (p : ℤ) → n ≤ 100 → Period n p → FitsSigned w32 (p +ℤ pos 1) × FitsSigned w32 (p -ℤ pos 1)
neighbours n p h day = (omega (arith, ints), omega (arith, ints))

pub near30_fits : (x : ℤ) → Near30 x → FitsSigned w32 x
near30_fits x h = omega (arith, ints)

pub lt_before : (k n : ℕ) → k < n → k - 1 < n
lt_before k n h = omega arith

-- a schedule within ±30,000, by places
pub by_place : (s : Schedule) (j : ℕ) → j < length s → Within s → Near30 (slice_index_or s j (pos 0))
by_place s j h w =
    let p : ℤ = pos (j + 1) in
    let day : Period (length s) p = (omega (arith, ints), omega (arith, ints)) in
    let e : figure_in s p ≡ get_or s j (pos 0) = figure_day s p day ∙ ap (λ (i : ℕ). get_or s i (pos 0)) (omega arith) in
    subst Near30 e (w.least p, w.most p)
