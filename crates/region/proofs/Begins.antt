-- How a region begins.
use Rattle.std.proofs.Common.{◌≡◌, ℕ, ◌+◌, ◌-◌, ◌<◌, ◌≤◌, min, Bool, true, false, MatchBool, List, length, replicate, ℤ, pos, ◌≢◌, refl, ap, ◌∙◌, subst, arith}
use Rattle.std.proofs.lemmas.Int.{ints}
use Rattle.std.specs.Int.{int_gap}
use Rattle.std.specs.List.{HoldsAt, AllWithin}
use Rattle.std.specs.Range.{range_inclusive_start, range_inclusive_end, range_inclusive_exhausted, range_inclusive_len}
use Rattle.std.specs.declared.ops.RangeInclusive.{RangeInclusive}
use mathlib.Core.Path.{fun_ext}
use Rattle.borders.specs.Border.{Meaning, flow_of}
use Rattle.borders.specs.Bank.{border_at}
use Rattle.zones.specs.Trees.{parent_in, CountAllowed, AllowedBelow}
use Rattle.book.specs.declared.ZoneRecord.{ZoneRecord}
use Rattle.book.specs.declared.Deal.{Deal}
use Rattle.book.specs.declared.AcceptedSheet.{AcceptedSheet}
use Rattle.book.specs.declared.state.State.TheVariants.{Drafting}
use Rattle.book.specs.Views.{View, Logged, blank}
use Rattle.region.proofs.Periods.{numbers, get_or-numbers, left_of}
use Rattle.book.specs.declared.fault.MakingFault.TheVariants.{Flow}
use Rattle.book.specs.Making.{Fit, UnfitAs, HasFlow, WithoutFlow, FlowTold, as_made}

pub fits : (given : List ℕ) (bs : List Meaning) (n : ℕ) → length given ≡ min 100 (length bs) → CountAllowed given → AllowedBelow given (length given + 1) → n ≡ length given + 1 →
    ((c : ℕ) → 1 ≤ c → c < n → WithoutFlow (border_at bs c)) → Fit given bs
fits given bs n many counts parents e none =
    let few = counts.1 in
    record { counts = (counts, omega arith); parents = parents; flows = λ c a b. none c a (omega arith) }

abbrev view : ℕ → (ℕ → ℕ) → List Meaning → List ZoneRecord → Logged Deal → Logged AcceptedSheet → View
view n up bs rs deals sheets = record { zones = n; up = up; borders = bs; records = rs; state = Drafting; deals = deals; sheets = sheets }

pub begins : (given : List ℕ) (bs : List Meaning) (n : ℕ) (up : ℕ → ℕ) (rs : List ZoneRecord) (deals : Logged Deal) (sheets : Logged AcceptedSheet) →
    n ≡ length given + 1 → ((z : ℕ) → up z ≡ parent_in given z) → rs ≡ replicate 384 blank →
    view n up bs rs deals sheets ≡ as_made given bs deals sheets
begins given bs n up rs deals sheets en eu er =
    ap (λ k. view k up bs rs deals sheets) en
    ∙ ap (λ f. view (length given + 1) f bs rs deals sheets) (fun_ext eu)
    ∙ ap (λ xs. view (length given + 1) (parent_in given) bs xs deals sheets) er

-- what is told of a border's flows, where each period was looked at
flow_told : (b : Meaning) (r : Bool) → MatchBool r ((k : ℕ) × (k < length (numbers (pos 1) 24)) × HoldsAt (λ p. flow_of b p ≢ pos 0) (numbers (pos 1) 24) k) (AllWithin (λ p. flow_of b p ≡ pos 0) (numbers (pos 1) 24) 0 (length (numbers (pos 1) 24))) →
    FlowTold r b
flow_told b true some = (some.0 + 1, omega arith, (let l = some.1 in omega arith), subst (λ (p : ℤ). flow_of b p ≢ pos 0) (get_or-numbers (pos 1) (pos 0) 24 some.0 some.1 ∙ omega (arith, ints)) (some.2 (pos 0)))
flow_told b false none = λ p low high.
    subst (λ (q : ℤ). flow_of b q ≡ pos 0) (get_or-numbers (pos 1) (pos 0) 24 (p - 1) (omega arith) ∙ omega (arith, ints)) (none (p - 1) (pos 0) (omega arith) (omega arith))

-- and where those of a range were
pub range_told : (b : Meaning) (r : Bool) (s : RangeInclusive ℤ) → range_inclusive_start s ≡ pos 1 → range_inclusive_end s ≡ pos 24 → range_inclusive_exhausted s ≡ false →
    MatchBool r ((k : ℕ) × (k < length (left_of s)) × HoldsAt (λ p. flow_of b p ≢ pos 0) (left_of s) k) (AllWithin (λ p. flow_of b p ≡ pos 0) (left_of s) 0 (length (left_of s))) → FlowTold r b
range_told b r s start end fresh looked =
    flow_told b r (subst (λ (ps : List ℤ). MatchBool r ((k : ℕ) × (k < length ps) × HoldsAt (λ p. flow_of b p ≢ pos 0) ps k) (AllWithin (λ p. flow_of b p ≡ pos 0) ps 0 (length ps))) (whole _ _ _ start end fresh) looked)
  where
    whole : (a z : ℤ) (spent : Bool) → a ≡ pos 1 → z ≡ pos 24 → spent ≡ false → numbers a (range_inclusive_len int_gap a z spent) ≡ numbers (pos 1) 24
    whole a z spent e f h = rw (e, f, h) refl

-- the lowest border with a flow
pub unfit : (given : List ℕ) (bs : List Meaning) (n c : ℕ) → length given ≡ min 100 (length bs) → CountAllowed given → AllowedBelow given (length given + 1) → n ≡ length given + 1 →
    (1 ≤ c) × (c < n) × HasFlow (border_at bs c) × ((d : ℕ) → 1 ≤ d → d < c → WithoutFlow (border_at bs d)) → UnfitAs given bs (Flow c)
unfit given bs n c many counts parents e h =
    let few = counts.1 in
    let below = h.1 in
    ((counts, omega arith), parents, record { from = h.0; below = omega arith; holds = h.2; first = λ d a b flow. flow.3 (h.3 d a b flow.0 flow.1 flow.2) }, refl)
