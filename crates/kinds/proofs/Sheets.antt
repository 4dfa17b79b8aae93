-- A border whose limits follow the last sheet accepted for each period.
use Rattle.std.proofs.Common.{◌≡◌, ℕ, zero, suc, ◌+◌, ◌<◌, ◌≤◌, Bool, true, false, cond, ◌&&◌, ◌⊎◌, List, [], ◌∷◌, length, get_or, set, replicate, ℤ, pos, ◌+ℤ◌, ◌-ℤ◌, neg_ℤ, ◌≤ℤ◌, ◌<ℤ◌, IsErrAnd, IsSome, MatchOption, None, Some, Option, Ok, Err, Result, sym, refl, ap, ◌∙◌, subst, inl, inr, arith, length-set, w32, w64, SFits, to_z, of_z}
use Rattle.std.specs.Prelude.{map}
use Rattle.std.specs.List.{list_all, zip}
use mathlib.Core.Path.{fun_ext}
use lib.Signed.{lt_z}
use Rattle.std.proofs.lemmas.Bool.{and_parts}
use Rattle.std.proofs.lemmas.List.{get_or-map, length-map}
use Rattle.std.proofs.lemmas.Int.{ints, to_z-of_z}
use Rattle.equations.specs.Ranges.{between, Near}
use Rattle.equations.specs.declared.capacity.Direction.{Direction}
use Rattle.equations.specs.declared.capacity.Direction.TheVariants.{Forward, Backward}
use Rattle.borders.specs.declared.Sheet.{Sheet}
use Rattle.borders.specs.declared.BorderFault.{BorderFault}
use Rattle.borders.specs.declared.BorderFault.TheVariants.{Take}
use Rattle.borders.specs.Day.{Schedule, Period, Within, place, figure_in, moved}
use Rattle.borders.specs.Limits.{Limited}
use Rattle.borders.specs.Border.{Meaning, Rule, Stated, Admitted, CanTake, margin_met, margin_in, forward_of, backward_of, passing}
use Rattle.borders.specs.Answers.{TakeAnswer, Reassessed, same_period, with_limit, with_limits}
use Rattle.borders.specs.Days.{day_true, day_or_not, figure_day, figure_out, same_or_not, changed_here, changed_other, moved_long}
use Rattle.borders.proofs.Takes.{told_day}
use Rattle.borders.specs.Ramps.{Near30}
use Rattle.kinds.specs.declared.limits.Limits.{Limits}
use Rattle.kinds.specs.Kinds.{within_of}
use Rattle.kinds.specs.Sheets.{lowers, uppers, stated_by, sheeted, idle}
use Rattle.kinds.specs.SheetedLaws.{Kept, limited, day_of, room}

pub in_own_day : (s : Schedule) (p : ℤ) → length s ≡ 24 → Period 24 p → Period (length s) p
in_own_day s p long day = subst (λ (n : ℕ). Period n p) (sym long) day

-- ---- what stands at the place k of a period, read back from its bits
abbrev pub Slot : ℕ → ℤ → Type 0
Slot k p = Period 24 p × (k ≡ place p)

abbrev pub told : ℤ → ℤ
told x = to_z w32 (of_z w32 x)

pub slot_of : (p : ℤ) (k : ℕ) → SFits w32 p → Slot k (told p) → Slot k p
slot_of p k f h = simp to_z-of_z at h

-- a period of the day has a slot
pub slot_there : (p : ℤ) (r : Option ℕ) → SFits w32 p → Period 24 p → MatchOption r (Period 24 (told p) → ⊥) (λ k. Slot k (told p)) → IsSome r
slot_there p None f day none = absurd ((simp to_z-of_z at none) day)
slot_there p (Some k) f day there = refl

read : (s : Schedule) (k : ℕ) (p : ℤ) → length s ≡ 24 → Slot k p → get_or s k (pos 0) ≡ figure_in s p
read s k p long slot = ap (λ (i : ℕ). get_or s i (pos 0)) slot.1 ∙ sym (figure_day s p (in_own_day s p long slot.0))

near_fits : (x : ℤ) → Near 50000 x → SFits w32 x
near_fits x h = omega (arith, ints)

near30 : (x : ℤ) → Near30 x → Near 50000 x
near30 x h = (omega (arith, ints), omega (arith, ints))

pub low_near : (lo hi : ℤ) → Limited lo hi → Near 50000 lo × Near 50000 hi
low_near lo hi h = ((omega (arith, ints), omega (arith, ints)), (omega (arith, ints), omega (arith, ints)))

-- the figure at the place k of a row, through bits
abbrev pub bits_at : Schedule → ℕ → ℤ
bits_at s k = to_z w32 (of_z w32 (get_or s k (pos 0)))

bits_read : (s : Schedule) (k : ℕ) (p : ℤ) → length s ≡ 24 → Slot k p → Near 50000 (figure_in s p) → bits_at s k ≡ figure_in s p
bits_read s k p long slot h = let r = read s k p long slot in to_z-of_z w32 (get_or s k (pos 0)) (subst (SFits w32) (sym r) (near_fits (figure_in s p) h)) ∙ r

-- a flow, and the limits, at the place of a period
pub flow_read : (flows : Schedule) (k : ℕ) (p : ℤ) → length flows ≡ 24 → Within flows → Slot k p → told (get_or flows k (pos 0)) ≡ figure_in flows p
flow_read flows k p long w slot = bits_read flows k p long slot (near30 (figure_in flows p) (w.least p, w.most p))

pub row_read : (f : Limits → ℤ) (ls : List Limits) (k : ℕ) (p : ℤ) (d : Limits) → length ls ≡ 24 → Slot k p → f (get_or ls k d) ≡ figure_in (map f ls) p
row_read f ls k p d long slot =
    sym (get_or-map f ls k d (pos 0) (slot_below (length ls) k p long slot)) ∙ read (map f ls) k p (length-map ls f ∙ long) slot
  where
    slot_below : (n k : ℕ) (p : ℤ) → n ≡ 24 → Slot k p → k < n
    slot_below n k p e slot = omega (arith, ints)

pub out_zero : (s : Schedule) (p : ℤ) → length s ≡ 24 → (Period 24 p → ⊥) → figure_in s p ≡ pos 0
out_zero s p long out = figure_out s p (λ h. out (subst (λ (n : ℕ). Period n p) long h))

-- in rows that a border of ours keeps: each figure at its place, and how far the flow lies within each limit, a machine number
pub record At (flows lower upper : Schedule) (k : ℕ) (p : ℤ) : Type 0 where
  pub flow : bits_at flows k ≡ figure_in flows p
  pub low : bits_at lower k ≡ figure_in lower p
  pub high : bits_at upper k ≡ figure_in upper p
  pub forward : SFits w32 (bits_at upper k -ℤ bits_at flows k)
  pub backward : SFits w32 (bits_at flows k -ℤ bits_at lower k)

differ_fits : (x y a b : ℤ) → x ≡ a → y ≡ b → Near 50000 a → Near 50000 b → SFits w32 (x -ℤ y)
differ_fits x y a b e f ha hb = omega (arith, ints)

pub at_slot : (flows lower upper : Schedule) (k : ℕ) (p : ℤ) → Kept flows lower upper → Period 24 p × (k ≡ place p) → At flows lower upper k p
at_slot flows lower upper k p kept slot =
    let f = near30 (figure_in flows p) (kept.least p, kept.most p) in
    let limits = low_near (figure_in lower p) (figure_in upper p) (limited flows lower upper kept p) in
    let ef = bits_read flows k p kept.long slot f in
    let el = bits_read lower k p kept.rows.0 slot limits.0 in
    let eh = bits_read upper k p kept.rows.1 slot limits.1 in
    record {
      flow = ef;
      low = el;
      high = eh;
      forward = differ_fits (bits_at upper k) (bits_at flows k) (figure_in upper p) (figure_in flows p) eh ef limits.1 f;
      backward = differ_fits (bits_at flows k) (bits_at lower k) (figure_in flows p) (figure_in lower p) ef el f limits.0;
    }

less_same : (x y a b : ℤ) → x ≡ a → y ≡ b → x -ℤ y ≡ a -ℤ b
less_same x y a b e f = cc

-- so these are the margins, each way
pub forward_is : (kind : Stated) (flows lower upper : Schedule) (k : ℕ) (p : ℤ) → Kept flows lower upper → Period 24 p × (k ≡ place p) → to_z w32 (of_z w32 (bits_at upper k -ℤ bits_at flows k)) ≡ forward_of (sheeted kind flows lower upper) p
forward_is kind flows lower upper k p kept slot =
    let a = at_slot flows lower upper k p kept slot in
    to_z-of_z w32 (bits_at upper k -ℤ bits_at flows k) a.forward
    ∙ less_same (bits_at upper k) (bits_at flows k) (figure_in upper p) (figure_in flows p) a.high a.flow
    ∙ sym (told_day (sheeted kind flows lower upper) p (figure_in upper p -ℤ figure_in flows p) (in_own_day flows p kept.long slot.0))

pub backward_is : (kind : Stated) (flows lower upper : Schedule) (k : ℕ) (p : ℤ) → Kept flows lower upper → Period 24 p × (k ≡ place p) → to_z w32 (of_z w32 (bits_at flows k -ℤ bits_at lower k)) ≡ backward_of (sheeted kind flows lower upper) p
backward_is kind flows lower upper k p kept slot =
    let a = at_slot flows lower upper k p kept slot in
    to_z-of_z w32 (bits_at flows k -ℤ bits_at lower k) a.backward
    ∙ less_same (bits_at flows k) (bits_at lower k) (figure_in flows p) (figure_in lower p) a.flow a.low
    ∙ sym (told_day (sheeted kind flows lower upper) p (figure_in flows p -ℤ figure_in lower p) (in_own_day flows p kept.long slot.0))

-- the margin of a period in the day, from its limits and its flow x
pub margin_is : (kind : Stated) (flows : Schedule) (ls : List Limits) (k : ℕ) (p x : ℤ) (d : Limits) (to : Direction) → length flows ≡ 24 → length ls ≡ 24 → Slot k p → x ≡ figure_in flows p
    → within_of (get_or ls k d).lower (get_or ls k d).upper to x ≡ margin_in (sheeted kind flows (lowers ls) (uppers ls)) to p
margin_is kind flows ls k p x d Forward long rows slot e =
    less_same _ _ _ _ (row_read (λ l. l.upper) ls k p d rows slot) e ∙ sym (told_day (sheeted kind flows (lowers ls) (uppers ls)) p _ (in_own_day flows p long slot.0))
margin_is kind flows ls k p x d Backward long rows slot e =
    less_same _ _ _ _ e (row_read (λ l. l.lower) ls k p d rows slot) ∙ sym (told_day (sheeted kind flows (lowers ls) (uppers ls)) p _ (in_own_day flows p long slot.0))

-- a sheet's test, in the day, at its flow x
pub passing_in : (kind : Stated) (flows lower upper : Schedule) (p x : ℤ) (t : Sheet) → length flows ≡ 24 → Period 24 p → x ≡ figure_in flows p → kind.test t x ≡ passing (sheeted kind flows lower upper) t p
passing_in kind flows lower upper p x t long day e =
    ap (kind.test t) e ∙ sym (ap (λ (y : Bool). y && kind.test t (figure_in flows p)) (day_true (length flows) p (in_own_day flows p long day)))

-- the same at the place k of the period, through bits
pub passing_at : (kind : Stated) (flows lower upper : Schedule) (k : ℕ) (p : ℤ) (t : Sheet) → Kept flows lower upper → Period 24 p × (k ≡ place p) → kind.test t (bits_at flows k) ≡ passing (sheeted kind flows lower upper) t p
passing_at kind flows lower upper k p t kept slot = passing_in kind flows lower upper p (bits_at flows k) t kept.long slot.0 (at_slot flows lower upper k p kept slot).flow

-- ---- the schedules that are admitted
pub record Inside (lower upper s : Schedule) (j : ℕ) : Type 0 where
  pub least : neg_ℤ (pos 30000) ≤ℤ get_or s j (pos 0)
  pub most : get_or s j (pos 0) ≤ℤ pos 30000
  pub over : get_or lower j (pos 0) ≤ℤ get_or s j (pos 0)
  pub under : get_or s j (pos 0) ≤ℤ get_or upper j (pos 0)

place_small : (p : ℤ) → Period 24 p → place p < 24
place_small p day = omega (arith, ints)

zero_near : (x : ℤ) → x ≡ pos 0 → Near30 x
zero_near x e = (omega (arith, ints), omega (arith, ints))

at_zero : (n : ℕ) → n ≡ 24 → 1 ≤ n
at_zero n e = omega arith

module _ (kind : Stated) (flows lower upper s : Schedule) (kept : Kept flows lower upper) where
  pub admitted_inside : length s ≡ 24 → ((j : ℕ) → j < 24 → Inside lower upper s j) → Admitted (sheeted kind flows lower upper) s
  admitted_inside long inside =
      let here : (p : ℤ) → Period 24 p → Inside lower upper s (place p) = λ p day. inside (place p) (place_small p day) in
      let fig : (p : ℤ) (x : Schedule) → length x ≡ 24 → Period 24 p → get_or x (place p) (pos 0) ≡ figure_in x p = λ p x l day. read x (place p) p l (day, refl) in
      let day_of : (p : ℤ) → Period (length flows) p → Period 24 p = λ p day. subst (λ (n : ℕ). Period n p) kept.long day in
      let near : (p : ℤ) → Near30 (figure_in s p) = λ p. elim (day_or_not 24 p) [
        | inl day ↦ subst Near30 (fig p s long day) ((here p day).least, (here p day).most)
        | inr out ↦ zero_near (figure_in s p) (out_zero s p long out)
      ] in
      record {
        some = at_zero (length s) long;
        as_long = long ∙ sym kept.long;
        within = record { least = λ p. (near p).0; most = λ p. (near p).1 };
        under = λ p d. let day = day_of p d in subst (λ (x : ℤ). x ≤ℤ figure_in upper p) (fig p s long day) (subst (λ (x : ℤ). get_or s (place p) (pos 0) ≤ℤ x) (fig p upper kept.rows.1 day) (here p day).under);
        over = λ p d. let day = day_of p d in subst (λ (x : ℤ). figure_in lower p ≤ℤ x) (fig p s long day) (subst (λ (x : ℤ). x ≤ℤ get_or s (place p) (pos 0)) (fig p lower kept.rows.0 day) (here p day).over);
      }

  pub inside_admitted : Admitted (sheeted kind flows lower upper) s → (j : ℕ) → j < 24 → Inside lower upper s j
  inside_admitted a j h =
      let p : ℤ = pos (j + 1) in
      let day : Period 24 p = (omega (arith, ints), omega (arith, ints)) in
      let e : j ≡ place p = omega (arith, ints) in
      let long : length s ≡ 24 = a.as_long ∙ kept.long in
      let mine : Period (length flows) p = in_own_day flows p kept.long day in
      let fs = read s j p long (day, e) in
      let fl = read lower j p kept.rows.0 (day, e) in
      let fu = read upper j p kept.rows.1 (day, e) in
      record {
        least = subst (λ (x : ℤ). neg_ℤ (pos 30000) ≤ℤ x) (sym fs) (a.within.least p);
        most = subst (λ (x : ℤ). x ≤ℤ pos 30000) (sym fs) (a.within.most p);
        over = subst (λ (x : ℤ). x ≤ℤ get_or s j (pos 0)) (sym fl) (subst (λ (x : ℤ). figure_in lower p ≤ℤ x) (sym fs) (a.over p mine));
        under = subst (λ (x : ℤ). get_or s j (pos 0) ≤ℤ x) (sym fu) (subst (λ (x : ℤ). x ≤ℤ figure_in upper p) (sym fs) (a.under p mine));
      }

-- what the test of each flow beside its limits says of each place
abbrev pub flow_fits : ℤ × Limits → Bool
flow_fits h = between (neg_ℤ (pos 30000)) h.0 (pos 30000) && between h.1.lower h.0 h.1.upper

in_between : (a x b : ℤ) → between a x b ≡ true → (a ≤ℤ x) × (x ≤ℤ b)
in_between a x b e = grind (arith, ints)

between_in : (a x b : ℤ) → a ≤ℤ x → x ≤ℤ b → between a x b ≡ true
between_in a x b h k = grind (arith, ints)

both : (x y : Bool) → x ≡ true → y ≡ true → (x && y) ≡ true
both x y e f = cc

pub all_inside : (s : Schedule) (ls : List Limits) → list_all flow_fits (zip s ls) ≡ true → (j : ℕ) → j < length s → j < length ls → Inside (lowers ls) (uppers ls) s j
all_inside [] ls e j h k = absurd (omega arith)
all_inside (x ∷ s) [] e j h k = absurd (omega arith)
all_inside (x ∷ s) (l ∷ ls) e zero h k =
    let here = and_parts (between (neg_ℤ (pos 30000)) x (pos 30000)) (between l.lower x l.upper) (and_parts (flow_fits (x, l)) (list_all flow_fits (zip s ls)) e).0 in
    let wide = in_between (neg_ℤ (pos 30000)) x (pos 30000) here.0 in
    let own = in_between l.lower x l.upper here.1 in
    record { least = wide.0; most = wide.1; over = own.0; under = own.1 }
all_inside (x ∷ s) (l ∷ ls) e (suc j) h k =
    let r = all_inside s ls (and_parts (flow_fits (x, l)) (list_all flow_fits (zip s ls)) e).1 j (omega arith) (omega arith) in
    record { least = r.least; most = r.most; over = r.over; under = r.under }

pub inside_all : (s : Schedule) (ls : List Limits) → ((j : ℕ) → j < length s → j < length ls → Inside (lowers ls) (uppers ls) s j) → list_all flow_fits (zip s ls) ≡ true
inside_all [] ls f = refl
inside_all (x ∷ s) [] f = refl
inside_all (x ∷ s) (l ∷ ls) f =
    let r = f zero (omega arith) (omega arith) in
    both (flow_fits (x, l)) (list_all flow_fits (zip s ls))
    (both (between (neg_ℤ (pos 30000)) x (pos 30000)) (between l.lower x l.upper) (between_in (neg_ℤ (pos 30000)) x (pos 30000) r.least r.most) (between_in l.lower x l.upper r.over r.under))
    (inside_all s ls (λ j h k. let i = f (suc j) (omega arith) (omega arith) in record { least = i.least; most = i.most; over = i.over; under = i.under }))

-- by the tests of a flow
pub lt_not : (a b : ℤ) → lt_z a b ≡ true → b ≤ℤ a → ⊥
lt_not a b e h = omega (arith, ints)

pub not_lt : (a b : ℤ) → lt_z a b ≡ false → b ≤ℤ a
not_lt a b e = omega (arith, ints)

-- a row's figures are machine numbers
place_of : (j : ℕ) → j < 24 → Slot j (pos (j + 1))
place_of j h = ((omega (arith, ints), omega (arith, ints)), omega (arith, ints))

pub row_fits : (s : Schedule) (j : ℕ) → length s ≡ 24 → ((p : ℤ) → (neg_ℤ (pos 50000) ≤ℤ figure_in s p) × (figure_in s p ≤ℤ pos 50000)) → j < 24 → SFits w32 (get_or s j (pos 0))
row_fits s j long near h = subst (SFits w32) (sym (read s j (pos (j + 1)) long (place_of j h))) (near_fits (figure_in s (pos (j + 1))) (near (pos (j + 1))))

pub lower_fits : (flows lower upper : Schedule) → Kept flows lower upper → (j : ℕ) → j < 24 → SFits w32 (get_or lower j (pos 0))
lower_fits flows lower upper kept j h = row_fits lower j kept.rows.0 (λ p. (low_near (figure_in lower p) (figure_in upper p) (limited flows lower upper kept p)).0) h

pub upper_fits : (flows lower upper : Schedule) → Kept flows lower upper → (j : ℕ) → j < 24 → SFits w32 (get_or upper j (pos 0))
upper_fits flows lower upper kept j h = row_fits upper j kept.rows.1 (λ p. (low_near (figure_in lower p) (figure_in upper p) (limited flows lower upper kept p)).1) h

-- ---- one figure put in
put_keeps : (P : ℤ → Type 0) (s : Schedule) (p x : ℤ) → Period (length s) p → P x → ((q : ℤ) → P (figure_in s q)) → (q : ℤ) → P (figure_in (set s (place p) x) q)
put_keeps P s p x day new old q = elim (same_or_not q p) [
  | inl e ↦ subst P (sym (ap (figure_in (set s (place p) x)) e ∙ changed_here s p x day)) new
  | inr ne ↦ subst P (sym (changed_other s p x day q ne)) (old q)
]

put_near : (s : Schedule) (p x : ℤ) → Period (length s) p → Near30 x → ((q : ℤ) → Near30 (figure_in s q)) → (q : ℤ) → Near30 (figure_in (set s (place p) x) q)
put_near = put_keeps Near30

-- ---- a take
moved_near : (f u l m : ℤ) → neg_ℤ (pos 30000) ≤ℤ f → f ≤ℤ pos 30000 → Limited l u → ((pos 0 <ℤ m) × ((f +ℤ m) ≤ℤ u)) ⊎ ((m <ℤ pos 0) × (l ≤ℤ (f +ℤ m))) → (neg_ℤ (pos 30000) ≤ℤ (f +ℤ m)) × ((f +ℤ m) ≤ℤ pos 30000)
moved_near f u l m a b lim (inl x) = (omega (arith, ints), omega (arith, ints))
moved_near f u l m a b lim (inr x) = (omega (arith, ints), omega (arith, ints))

sum_fits : (x y f m : ℤ) → x ≡ f → y ≡ m → (neg_ℤ (pos 30000) ≤ℤ (f +ℤ m)) × ((f +ℤ m) ≤ℤ pos 30000) → SFits w32 (x +ℤ y)
sum_fits x y f m e g h = omega (arith, ints)

sum_same : (x y f m : ℤ) → x ≡ f → y ≡ m → x +ℤ y ≡ f +ℤ m
sum_same x y f m e g = cc

-- the flow at the place k and a move m, added through bits
abbrev pub summed : Schedule → ℕ → ℤ → ℤ
summed flows k m = bits_at flows k +ℤ to_z w32 (of_z w32 m)

pub record Written (flows lower upper : Schedule) (k : ℕ) (p m : ℤ) : Type 0 where
  pub sum : SFits w32 (told (get_or flows k (pos 0)) +ℤ told m)
  pub same : set flows k (told (told (get_or flows k (pos 0)) +ℤ told m)) ≡ moved flows p m
  pub within : Within (moved flows p m)

module _ (kind : Stated) (flows lower upper : Schedule) (p m : ℤ) (kept : Kept flows lower upper) (can : CanTake (sheeted kind flows lower upper) p m) where
  near : Near30 (figure_in flows p +ℤ m)
  near = moved_near (figure_in flows p) (figure_in upper p) (figure_in lower p) m (kept.least p) (kept.most p) (limited flows lower upper kept p) (room kind flows lower upper p m kept can)

  moved_within : Within (moved flows p m)
  moved_within = let both = put_near flows p (figure_in flows p +ℤ m) (day_of kind flows lower upper p m kept can) near (λ q. (kept.least q, kept.most q)) in record { least = λ q. (both q).0; most = λ q. (both q).1 }

  -- what a border of ours keeps, it keeps after the take
  pub moved_kept : Kept (moved flows p m) lower upper
  moved_kept = record { long = moved_long flows p m ∙ kept.long; rows = kept.rows; least = moved_within.least; most = moved_within.most; top = kept.top; bottom = kept.bottom }

  pub take_written : (k : ℕ) → SFits w32 m → Slot k p → Written flows lower upper k p m
  take_written k fm slot =
      let f : ℤ = told (get_or flows k (pos 0)) in
      let ef = flow_read flows k p kept.long (record { least = kept.least; most = kept.most }) slot in
      let em = to_z-of_z w32 m fm in
      let fits = sum_fits f (told m) (figure_in flows p) m ef em near in
      let ev : told (f +ℤ told m) ≡ figure_in flows p +ℤ m = to_z-of_z w32 (f +ℤ told m) fits ∙ sum_same f (told m) (figure_in flows p) m ef em in
      record { sum = fits; same = ap (λ (i : ℕ). set flows i (told (f +ℤ told m))) slot.1 ∙ ap (set flows (place p)) ev; within = moved_within }

-- what a refused move answers, passed on by `?`
pub refused_by : (was : Meaning) (p m : ℤ) (e : BorderFault) (r : Result (Unit {0}) BorderFault) → IsErrAnd r (λ y. y ≡ e) → (CanTake was p m → ⊥) × (e ≡ Take (margin_met was p m)) → TakeAnswer was p m r was
refused_by was p m e (Ok x) h not = absurd h
refused_by was p m e (Err y) h not = (not.0, h ∙ not.1, refl)

-- ---- nothing flows
zeros : (n i : ℕ) → get_or (replicate n (pos 0)) i (pos 0) ≡ pos 0
zeros zero i = refl
zeros (suc n) zero = refl
zeros (suc n) (suc i) = zeros n i

pub idle_zero : (p : ℤ) → figure_in idle p ≡ pos 0
idle_zero p = elim (day_or_not 24 p) [
  | inl day ↦ figure_day idle p day ∙ zeros 24 (place p)
  | inr out ↦ figure_out idle p out
]

zero_near30 : (x : ℤ) → x ≡ pos 0 → Near30 x
zero_near30 x e = (omega (arith, ints), omega (arith, ints))

pub idle_within : Within idle
idle_within = record { least = λ p. (zero_near30 (figure_in idle p) (idle_zero p)).0; most = λ p. (zero_near30 (figure_in idle p) (idle_zero p)).1 }

pub idle_kept : Kept idle idle idle
idle_kept =
    let z : (p : ℤ) → Near30 (figure_in idle p) = λ p. zero_near30 (figure_in idle p) (idle_zero p) in
    record {
      long = refl;
      rows = (refl, refl);
      least = idle_within.least;
      most = idle_within.most;
      top = λ p. ((near30 (figure_in idle p) (z p)).0, (z p).1);
      bottom = λ p. ((z p).0, (near30 (figure_in idle p) (z p)).1);
    }

-- ---- the limits of a sheet put in
same_true : (q p : ℤ) → same_period q p ≡ true → q ≡ p
same_true q p e = grind (arith, ints)

same_false : (q p : ℤ) → same_period q p ≡ false → q ≡ p → ⊥
same_false q p e h = grind (arith, ints)

by_same : (q p : ℤ) (P : Bool → Type 0) → (q ≡ p → P true) → ((q ≡ p → ⊥) → P false) → P (same_period q p)
by_same q p P f g = by_bool (same_period q p) P (λ e. f (same_true q p e)) (λ e. g (same_false q p e))
  where
    by_bool : (t : Bool) (P : Bool → Type 0) → (t ≡ true → P true) → (t ≡ false → P false) → P t
    by_bool true P f g = f refl
    by_bool false P f g = g refl

put_rule : (row : Schedule) (p x : ℤ) → Period (length row) p → ◌≡◌ {A = Rule} (λ s q. figure_in (set row (place p) x) q) (with_limit (λ s q. figure_in row q) p (λ s. x))
put_rule row p x day =
    fun_ext (λ s. fun_ext (λ q. by_same q p (λ t. figure_in (set row (place p) x) q ≡ cond t x (figure_in row q))
    (λ e. ap (figure_in (set row (place p) x)) e ∙ changed_here row p x day)
    (λ ne. changed_other row p x day q ne)))

with_rules : Meaning → Rule → Rule → Meaning
with_rules b lo hi = record { schedule = b.schedule; lower = lo; upper = hi; passes = b.passes; stated = b.stated }

module _ (kind : Stated) (flows lower upper : Schedule) (p l h : ℤ) (rows : (length lower ≡ 24) × (length upper ≡ 24)) (day : Period 24 p) where
  put_both : sheeted kind flows (set lower (place p) l) (set upper (place p) h) ≡ with_limits (sheeted kind flows lower upper) p (λ s. l) (λ s. h)
  unfolding with_rules
  put_both =
      ap (λ (x : Rule). with_rules (sheeted kind flows lower upper) x (λ s q. figure_in (set upper (place p) h) q)) (put_rule lower p l (in_own_day lower p rows.0 day))
      ∙ ap (λ (x : Rule). with_rules (sheeted kind flows lower upper) (with_limit (λ s q. figure_in lower q) p (λ s. l)) x) (put_rule upper p h (in_own_day upper p rows.1 day))

-- limits that a sheet may give, put in, keep what a border of ours keeps
module _ (kind : Stated) (flows lower upper : Schedule) (p l h : ℤ) (kept : Kept flows lower upper) (day : Period 24 p) where
  pub put_kept : Limited l h → Kept flows (set lower (place p) l) (set upper (place p) h)
  put_kept lim =
      record {
        long = kept.long;
        rows = (length-set lower (place p) l ∙ kept.rows.0, length-set upper (place p) h ∙ kept.rows.1);
        least = kept.least;
        most = kept.most;
        top = put_keeps (λ x. (neg_ℤ (pos 50000) ≤ℤ x) × (x ≤ℤ pos 30000)) upper p h (in_own_day upper p kept.rows.1 day) (lim.top_least, lim.top_most) kept.top;
        bottom = put_keeps (λ x. (neg_ℤ (pos 30000) ≤ℤ x) × (x ≤ℤ pos 50000)) lower p l (in_own_day lower p kept.rows.0 day) (lim.bottom_least, lim.bottom_most) kept.bottom;
      }

-- the limits l and h that a sheet gives, put in the place of its period
module _ (test : Sheet → ℤ → Bool) (lo hi : Sheet → ℤ → ℤ) (flows lower upper : Schedule) (k : ℕ) (p : ℤ) (sheet : Sheet) (rows : (length lower ≡ 24) × (length upper ≡ 24)) (slot : Slot k p) where
  given : Reassessed (sheeted (stated_by test lo hi) flows lower upper) (sheeted (stated_by test lo hi) flows (set lower (place p) (lo sheet (figure_in flows p))) (set upper (place p) (hi sheet (figure_in flows p)))) sheet p
  given =
      record {
        schedule = refl;
        passes = refl;
        stated = refl;
        upper = λ s q ne. changed_other upper p (hi sheet (figure_in flows p)) (in_own_day upper p rows.1 slot.0) q ne;
        lower = λ s q ne. changed_other lower p (lo sheet (figure_in flows p)) (in_own_day lower p rows.0 slot.0) q ne;
        follows = put_both (stated_by test lo hi) flows lower upper p (lo sheet (figure_in flows p)) (hi sheet (figure_in flows p)) rows slot.0;
      }

  pub reassessed : (l h : ℤ) → l ≡ lo sheet (figure_in flows p) → h ≡ hi sheet (figure_in flows p) → Reassessed (sheeted (stated_by test lo hi) flows lower upper) (sheeted (stated_by test lo hi) flows (set lower k l) (set upper k h)) sheet p
  reassessed l h el eh =
      subst (λ (x : Schedule). Reassessed (sheeted (stated_by test lo hi) flows lower upper) (sheeted (stated_by test lo hi) flows x (set upper k h)) sheet p) (sym (ap (λ (i : ℕ). set lower i l) slot.1 ∙ ap (set lower (place p)) el))
      (subst (λ (x : Schedule). Reassessed (sheeted (stated_by test lo hi) flows lower upper) (sheeted (stated_by test lo hi) flows (set lower (place p) (lo sheet (figure_in flows p))) x) sheet p) (sym (ap (λ (i : ℕ). set upper i h) slot.1 ∙ ap (set upper (place p)) eh)) given)

-- the same in rows that a border of ours keeps, at the place of the period
module _ (test : Sheet → ℤ → Bool) (lo hi : Sheet → ℤ → ℤ) (flows lower upper : Schedule) (p : ℤ) (sheet : Sheet) (kept : Kept flows lower upper) (day : Period 24 p) where
  pub reassessed_by : Reassessed (sheeted (stated_by test lo hi) flows lower upper) (sheeted (stated_by test lo hi) flows (set lower (place p) (lo sheet (figure_in flows p))) (set upper (place p) (hi sheet (figure_in flows p)))) sheet p
  reassessed_by = given test lo hi flows lower upper (place p) p sheet kept.rows (day, refl)

-- a limit of a sheet that passes is a machine number of either width
abbrev pub narrowed : ℤ → ℤ
narrowed x = to_z w32 (of_z w32 (to_z w64 (of_z w64 x)))

narrow_fits : (x y : ℤ) → SFits w64 x → x ≡ y → Near 50000 y → SFits w32 (to_z w64 (of_z w64 x))
narrow_fits x y f e h = subst (SFits w32) (sym (to_z-of_z w64 x f ∙ e)) (near_fits y h)

pub narrow : (x y : ℤ) → SFits w64 x → x ≡ y → Near 50000 y → told (to_z w64 (of_z w64 x)) ≡ y
narrow x y f e h = to_z-of_z w32 (to_z w64 (of_z w64 x)) (narrow_fits x y f e h) ∙ to_z-of_z w64 x f ∙ e

-- the limits of a sheet that passes, put in through bits at the place k of the period
module _ (test : Sheet → ℤ → Bool) (lo hi : Sheet → ℤ → ℤ) (law : (t : Sheet) (a : ℤ) → Near 30000 a → test t a ≡ true → Limited (lo t a) (hi t a))
    (flows lower upper : Schedule) (k : ℕ) (p : ℤ) (sheet : Sheet) (kept : Kept flows lower upper) (slot : Period 24 p × (k ≡ place p)) (pass : test sheet (bits_at flows k) ≡ true) where
  flow_at : bits_at flows k ≡ figure_in flows p
  flow_at = (at_slot flows lower upper k p kept slot).flow

  gives : Limited (lo sheet (figure_in flows p)) (hi sheet (figure_in flows p))
  gives = law sheet (figure_in flows p) (kept.least p, kept.most p) (subst (λ (a : ℤ). test sheet a ≡ true) flow_at pass)

  near_limits : Near 50000 (lo sheet (figure_in flows p)) × Near 50000 (hi sheet (figure_in flows p))
  near_limits = low_near (lo sheet (figure_in flows p)) (hi sheet (figure_in flows p)) gives

  pub lower_put : (l : ℤ) → SFits w64 l → l ≡ lo sheet (bits_at flows k) → SFits w32 (to_z w64 (of_z w64 l)) × (set lower k (narrowed l) ≡ set lower (place p) (lo sheet (figure_in flows p)))
  lower_put l f e =
      let here : l ≡ lo sheet (figure_in flows p) = e ∙ ap (lo sheet) flow_at in (
        narrow_fits l (lo sheet (figure_in flows p)) f here near_limits.0,
        ap (λ (i : ℕ). set lower i (narrowed l)) slot.1 ∙ ap (set lower (place p)) (narrow l (lo sheet (figure_in flows p)) f here near_limits.0),
      )

  pub upper_put : (h : ℤ) → SFits w64 h → h ≡ hi sheet (bits_at flows k) → SFits w32 (to_z w64 (of_z w64 h)) × (set upper k (narrowed h) ≡ set upper (place p) (hi sheet (figure_in flows p)))
  upper_put h f e =
      let here : h ≡ hi sheet (figure_in flows p) = e ∙ ap (hi sheet) flow_at in (
        narrow_fits h (hi sheet (figure_in flows p)) f here near_limits.1,
        ap (λ (i : ℕ). set upper i (narrowed h)) slot.1 ∙ ap (set upper (place p)) (narrow h (hi sheet (figure_in flows p)) f here near_limits.1),
      )

  pub kept_put : (l h : ℤ) → SFits w64 l → l ≡ lo sheet (bits_at flows k) → SFits w64 h → h ≡ hi sheet (bits_at flows k) → Kept flows (set lower k (narrowed l)) (set upper k (narrowed h))
  kept_put l h fl el fh eh =
      subst (λ (x : Schedule). Kept flows x (set upper k (narrowed h))) (sym (lower_put l fl el).1)
      (subst (λ (x : Schedule). Kept flows (set lower (place p) (lo sheet (figure_in flows p))) x) (sym (upper_put h fh eh).1)
      (put_kept (stated_by test lo hi) flows lower upper p (lo sheet (figure_in flows p)) (hi sheet (figure_in flows p)) kept slot.0 gives))

  pub reassessed_put : (l h : ℤ) → SFits w64 l → l ≡ lo sheet (bits_at flows k) → SFits w64 h → h ≡ hi sheet (bits_at flows k) → (passing (sheeted (stated_by test lo hi) flows lower upper) sheet p ≡ true) × Reassessed (sheeted (stated_by test lo hi) flows lower upper) (sheeted (stated_by test lo hi) flows (set lower k (narrowed l)) (set upper k (narrowed h))) sheet p
  reassessed_put l h fl el fh eh = (
    sym (passing_at (stated_by test lo hi) flows lower upper k p sheet kept slot) ∙ pass,
    reassessed test lo hi flows lower upper k p sheet kept.rows slot (narrowed l) (narrowed h)
        (narrow l (lo sheet (figure_in flows p)) fl (el ∙ ap (lo sheet) flow_at) near_limits.0)
        (narrow h (hi sheet (figure_in flows p)) fh (eh ∙ ap (hi sheet) flow_at) near_limits.1),
  )
