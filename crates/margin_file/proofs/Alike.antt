-- Lists of lines that are the same up to a line of more than 200 bytes have the same answers.
use Rattle.std.proofs.Common.{◌≡◌, ℕ, zero, suc, ◌<◌, true, ◌⊎◌, List, [], ◌∷◌, length, get_or, take, ℤ, Some, Ok, Err, Result, sym, refl, ap, ◌∙◌, inl, inr, arith}
use Rattle.margin_file.specs.declared.fault.SampleFault.{SampleFault}
use Rattle.margin_file.specs.declared.fault.SampleFault.TheVariants.{Unreadable, Refused, Memory}
use Rattle.margin_file.specs.declared.sample.Sample.{Sample}
use Rattle.margin_file.specs.Faults.{no_number, told_at}
use Rattle.margin_file.specs.Samples.{Written, FirstUnreadable, FaultOf, Answer}
use Rattle.std.proofs.lemmas.List.{get_or-take, length-take, take-take}
use Rattle.std.proofs.lemmas.Bool.{cases_order, lt-ltb}
use Rattle.text.proofs.NumberLaws.{writes_short}
use Rattle.text.specs.Lines.{too_long}
use Rattle.text.specs.Numbers.{Writes}

-- the first k lines are the same, and the next is long in both
pub record PartsAt (ls ms : List (List ℕ)) (k : ℕ) : Type 0 where
  pub left_within : k < length ls
  pub right_within : k < length ms
  pub same : take k ls ≡ take k ms
  pub left_long : 200 < length (get_or ls k [])
  pub right_long : 200 < length (get_or ms k [])

abbrev pub Alike : List (List ℕ) → List (List ℕ) → Type 0
Alike ls ms = (ls ≡ ms) ⊎ ((k : ℕ) × PartsAt ls ms k)

turned : (ls ms : List (List ℕ)) (k : ℕ) → PartsAt ls ms k → PartsAt ms ls k
turned ls ms k p = record { left_within = p.right_within; right_within = p.left_within; same = sym p.same; left_long = p.right_long; right_long = p.left_long }

pub alike_turned : (ls ms : List (List ℕ)) → Alike ls ms → Alike ms ls
alike_turned ls ms (inl e) = inl (sym e)
alike_turned ls ms (inr p) = inr (p.0, turned ls ms p.0 p.1)

pub alike_cons : (l : List ℕ) (ls ms : List (List ℕ)) → Alike ls ms → Alike (l ∷ ls) (l ∷ ms)
alike_cons l ls ms (inl e) = inl (ap (λ x. l ∷ x) e)
alike_cons l ls ms (inr p) =
    let q = p.1 in
    inr (suc p.0, record { left_within = omega (arith, q.left_within); right_within = omega (arith, q.right_within); same = ap (λ x. l ∷ x) q.same; left_long = q.left_long; right_long = q.right_long })

-- two long lines
pub alike_long : (l m : List ℕ) (ls ms : List (List ℕ)) → 200 < length l → 200 < length m → Alike (l ∷ ls) (m ∷ ms)
alike_long l m ls ms p q = inr (0, record { left_within = omega arith; right_within = omega arith; same = refl; left_long = p; right_long = q })

-- a long line writes no number
long_unreadable : (l : List ℕ) (n : ℤ) → 200 < length l → Writes l n → ⊥
long_unreadable l n long w = omega (arith, writes_short l n w)

-- a list of lines that are all written has none that is long
none_long : (ls : List (List ℕ)) (ds : List ℤ) (k : ℕ) → k < length ls → 200 < length (get_or ls k []) → Written ls ds → ⊥
none_long [] ds k within long w = absurd (omega arith)
none_long (l ∷ ls) [] k within long w = w
none_long (l ∷ ls) (d ∷ ds) zero within long w = long_unreadable l d long w.0
none_long (l ∷ ls) (d ∷ ds) (suc k) within long w = none_long ls ds k (omega arith) long w.1

long_too_long : (l : List ℕ) → 200 < length l → too_long l ≡ true
long_too_long l long = lt-ltb 200 (length l) long

module _ (ls ms : List (List ℕ)) (k : ℕ) (p : PartsAt ls ms k) where
  -- so the lines are not all written
  none_written : (ds : List ℤ) → Written ls ds → ⊥
  none_written ds w = none_long ls ds k p.left_within p.left_long w

  -- and the first that writes no number comes no later
  no_later : (j : ℕ) → FirstUnreadable ls j → k < j → ⊥
  no_later j f h =
      none_long (take j ls) f.earlier.0 k (simp length-take (omega (arith, p.left_within))) (rw (get_or-take j ls k [] h) p.left_long) f.earlier.1

  moved_before : (j : ℕ) → j < k → FirstUnreadable ls j → FirstUnreadable ms j × (too_long (get_or ls j []) ≡ too_long (get_or ms j []))
  moved_before j h f =
      let lines_same : take j ls ≡ take j ms = sym (take-take j k ls (omega arith)) ∙ ap (take j) p.same ∙ take-take j k ms (omega arith) in
      let line_same : get_or ls j [] ≡ get_or ms j [] = sym (get_or-take k ls j [] h) ∙ ap (λ (x : List (List ℕ)). get_or x j []) p.same ∙ get_or-take k ms j [] h in (
        record {
          within = omega (arith, p.right_within);
          earlier = (f.earlier.0, rw lines_same at f.earlier.1);
          unreadable = rw line_same at f.unreadable;
        },
        ap too_long line_same,
      )

  moved_here : FirstUnreadable ls k → FirstUnreadable ms k × (too_long (get_or ls k []) ≡ too_long (get_or ms k []))
  moved_here f = (
    record {
      within = p.right_within;
      earlier = (f.earlier.0, rw p.same at f.earlier.1);
      unreadable = λ n w. long_unreadable (get_or ms k []) n p.right_long w;
    },
    long_too_long (get_or ls k []) p.left_long ∙ sym (long_too_long (get_or ms k []) p.right_long),
  )

  moved : (j : ℕ) → FirstUnreadable ls j → FirstUnreadable ms j × (too_long (get_or ls j []) ≡ too_long (get_or ms j []))
  moved j f = elim (cases_order j k) [
    | inl e ↦ rw e (moved_here (rw e at f))
    | inr o ↦ elim o [ inl h ↦ moved_before j h f | inr h ↦ absurd (no_later j f h) ]
  ]

  fault_moved : (e : SampleFault) → FaultOf ls e → FaultOf ms e
  fault_moved (Unreadable n over) (j, f, t) = let m = moved j f in (j, m.0, t ∙ ap (λ b. Some (told_at (suc j) (no_number b))) m.1)
  fault_moved (Refused e) (ds, w, q) = absurd (none_written ds w)
  fault_moved Memory t = tt

pub same_answer : (ls ms : List (List ℕ)) (r : Result Sample SampleFault) → Alike ls ms → Answer ls r → Answer ms r
same_answer ls ms r (inl e) a = rw e at a
same_answer ls ms (Ok s) (inr p) a = absurd (none_written ls ms p.0 p.1 a.0 a.1)
same_answer ls ms (Err e) (inr p) a = fault_moved ls ms p.0 p.1 e a
