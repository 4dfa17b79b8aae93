-- How far the lines of a file were read.
use Rattle.std.proofs.Common.{◌≡◌, ℕ, ◌+◌, ◌-◌, ◌<◌, Bool, true, false, List, [], ◌∷◌, length, get_or, take, ℤ, Some, None, Option, sym, refl, ap, ◌∙◌, min, add-one, arith}
use Rattle.margin_file.specs.declared.fault.SampleFault.{SampleFault}
use Rattle.margin_file.specs.declared.fault.SampleFault.TheVariants.{Unreadable, Refused, Memory}
use Rattle.margin_file.specs.Faults.{no_number, told_at}
use Rattle.margin_file.specs.Samples.{Written, Added, LineFault, FaultOf}
use Rattle.text.specs.Lines.{HandsOut, lines, too_long}
use Rattle.text.specs.Numbers.{Writes}
use Rattle.std.proofs.lemmas.Iterator.{YieldsList, YieldsList-from_zip, zips}
use Rattle.std.proofs.lemmas.Iterator.Consumers.{YieldsList-at, YieldsList-end, YieldsList-from_shown, YieldsList-turn}
use Rattle.std.proofs.lemmas.List.{get_or_default, get_or-take, length-take, take_all, take_more}
use Rattle.std.proofs.lemmas.List.FromFn.{get_or-range_with_len, length-range_with_len}
use Rattle.std.proofs.lemmas.Slice.Zip.{all_zipped_more, get_or-zip, length-zip}
use Rattle.std.specs.Borrow.{Bor}
use Rattle.std.specs.Iterator.{Yields}
use Rattle.std.specs.List.{range_with_len, zip}
use Rattle.std.specs.Range.{range_inclusive_end, range_inclusive_exhausted, range_inclusive_left, range_inclusive_len, range_inclusive_start, range_inclusive_steps}
use Rattle.std.specs.declared.iter.Zip.{Zip}
use Rattle.std.specs.declared.ops.RangeInclusive.{RangeInclusive}

-- the numbers from a to b, as a loop over them counts
abbrev gap : ℕ → ℕ → ℕ
gap a b = b - a

abbrev pub Counts : RangeInclusive ℕ → Option ℕ → RangeInclusive ℕ → Type 0
Counts = range_inclusive_steps gap (λ a b. b ≡ a + 1)

numbers_left : RangeInclusive ℕ → List ℕ
numbers_left s = range_with_len (range_inclusive_start s) (range_inclusive_left gap s)

number_next : (a b e n : ℕ) (done : Bool) → range_inclusive_len gap b e done + 1 ≡ n → (done ≡ false → b ≡ a + 1) → range_with_len a n ≡ a ∷ range_with_len b (range_inclusive_len gap b e done)
number_next a b e n true is next = rw (← is) refl
number_next a b e n false is next = rw (← is, next refl) (ap (range_with_len a) (add-one _))

counted : (s : RangeInclusive ℕ) → YieldsList Counts (λ n. n) s (numbers_left s)
unfolding numbers_left
counted s =
    YieldsList-from_shown Counts (λ n. n) numbers_left
    (λ s t h. rw (length-range_with_len, h.1.0) refl)
    (λ s x t h. rw h.1.0 (number_next _ _ (range_inclusive_end t) _ (range_inclusive_exhausted t) h.1.1 h.1.2))
    s

-- a file's lines, as they are handed out
handed : (content : List ℕ) → YieldsList HandsOut (λ line. line.now) content (lines content)
handed content =
    YieldsList-from_shown HandsOut (λ line. line.now) lines
    (λ s t h. ap length h.next.0)
    (λ s line t h. h.next)
    content

-- a loop over the numbers from 1 to most and the lines of the file has begun
pub record Begun (s : Zip (RangeInclusive ℕ) (List ℕ)) (most : ℕ) (content : List ℕ) : Type 0 where
  pub first : range_inclusive_start s.a ≡ 1
  pub last : range_inclusive_end s.a ≡ most
  pub fresh : range_inclusive_exhausted s.a ≡ false
  pub bytes : s.b ≡ content

abbrev pub Steps : Zip (RangeInclusive ℕ) (List ℕ) → Option (ℕ × Bor (List ℕ)) → Zip (RangeInclusive ℕ) (List ℕ) → Type 0
Steps = zips Counts HandsOut

numbered : (s : Zip (RangeInclusive ℕ) (List ℕ)) (most : ℕ) (content : List ℕ) → Begun s most content → YieldsList {B = ℕ × List ℕ} Steps (λ p. (p.0, p.1.now)) s (zip (range_with_len 1 most) (lines content))
unfolding numbers_left
numbered s most content b =
    let numbers : numbers_left s.a ≡ range_with_len 1 most = rw (b.first, b.last, b.fresh) (ap (range_with_len 1) (omega arith)) in
    YieldsList-from_zip (rw numbers at (counted s.a)) (YieldsList-at b.bytes (handed content))

as_many : (most : ℕ) (ls : List (List ℕ)) → length (zip (range_with_len 1 most) ls) ≡ length (take most ls)
as_many most ls = length-zip (range_with_len 1 most) ls ∙ ap (λ n. min n (length ls)) (length-range_with_len 1 most) ∙ sym (length-take most ls)

-- a turn of it, behind the items xs: the next line, with its number
pub record Turn (ls : List (List ℕ)) (n at : ℕ) (line : List ℕ) : Type 0 where
  pub within : n < length ls
  pub number : at ≡ n + 1
  pub stands : line ≡ get_or ls n []

pub turned : (s t u : Zip (RangeInclusive ℕ) (List ℕ)) (most : ℕ) (content : List ℕ) (xs : List (ℕ × Bor (List ℕ))) (r : Option (ℕ × Bor (List ℕ))) (at : ℕ) (line : Bor (List ℕ)) → Begun s most content → Yields Steps s xs t → r ≡ Some (at, line) → Steps t r u → Turn (take most (lines content)) (length xs) at line.now
turned s t u most content xs r at line b y is step =
    let turn = YieldsList-turn (numbered s most content b) xs t y r u (at, line) is step in
    let below : length xs < length (take most (lines content)) = omega (arith, as_many most (lines content)) in
    let few : length xs < most = omega (arith, length-take most (lines content)) in
    let inside : length xs < length (lines content) = omega (arith, length-take most (lines content)) in
    let pair = turn.1 ∙ get_or-zip (range_with_len 1 most) (lines content) (length xs) (at, line.now) (omega (arith, length-range_with_len 1 most)) inside in
    record {
      within = below;
      number = omega (arith, ap (λ (p : ℕ × List ℕ). p.0) pair, get_or-range_with_len 1 most (length xs) at few);
      stands = ap (λ (p : ℕ × List ℕ). p.1) pair ∙ get_or_default (lines content) (length xs) line.now [] inside ∙ sym (get_or-take most (lines content) (length xs) [] few);
    }

-- its end, behind the items xs: no line is left to read
pub ended : (s t u : Zip (RangeInclusive ℕ) (List ℕ)) (most : ℕ) (content : List ℕ) (xs : List (ℕ × Bor (List ℕ))) (r : Option (ℕ × Bor (List ℕ))) → Begun s most content → Yields Steps s xs t → r ≡ None → Steps t r u → length xs ≡ length (take most (lines content))
ended s t u most content xs r b y is step = (YieldsList-end (numbered s most content b) xs t y r u is step).1 ∙ as_many most (lines content)

-- ---- what was read

pub read_more : (ls : List (List ℕ)) (ds es : List ℤ) (n at : ℕ) (line : List ℕ) → Turn ls n at line → Written (take n ls) ds → Added ds line es → Written (take (n + 1) ls) es
read_more ls ds es n at line t w (d, here, more) =
    rw (take_more ls n [] t.within, ← t.stands, more) (all_zipped_more Writes (take n ls) ds line d w here)

pub read_all : (ls : List (List ℕ)) (ds : List ℤ) (n : ℕ) → n ≡ length ls → Written (take n ls) ds → Written ls ds
read_all ls ds n end w = rw (take_all n ls (omega arith)) at w

pub read_refused : (ls : List (List ℕ)) (ds : List ℤ) (n at : ℕ) (line : List ℕ) (e : SampleFault) → Turn ls n at line → Written (take n ls) ds → LineFault at line e → FaultOf ls e
read_refused ls ds n at line (Unreadable m over) t w (bad, is, size) =
    (n, record { within = t.within; earlier = (ds, w); unreadable = rw t.stands at bad }, rw (is, t.number, size, t.stands) (ap (λ k. Some (told_at k (no_number (too_long (get_or ls n []))))) (add-one n)))
read_refused ls ds n at line (Refused f) t w none = absurd none
read_refused ls ds n at line Memory t w any = tt
