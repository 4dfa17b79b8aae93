-- A file that is cut where its lines must have ended, or one of them is long.
use Rattle.std.proofs.Common.{◌≡◌, ℕ, zero, suc, ◌+◌, ◌-◌, ◌*◌, ◌<◌, ◌≤◌, eqb, List, [], ◌∷◌, length, get_or, take, drop, Result, sym, refl, ap, ◌∙◌, inl, inr, arith, lit≤}
use Rattle.margin_file.specs.declared.fault.SampleFault.{SampleFault}
use Rattle.margin_file.specs.declared.sample.Sample.{Sample}
use Rattle.margin_file.specs.Cuts.{Enough}
use Rattle.margin_file.specs.Samples.{Answer}
use Rattle.margin_file.proofs.Alike.{Alike, alike_cons, alike_long, alike_turned, same_answer}
use Rattle.std.proofs.lemmas.List.{drop-take, get_or-take, length-take, length-take-le, take-take}
use Rattle.std.proofs.lemmas.Bool.{cases_lt, eqb-false, eqb-true}
use Rattle.std.proofs.lemmas.List.Sums.{fails_before_first, passes_at_first, prefix_len-le-length}
use Rattle.std.specs.List.{position_or_len}
use Rattle.text.proofs.LineLaws.{lines_first}
use Rattle.text.specs.Lines.{lines}

-- the first line has n bytes
record Ends (bs : List ℕ) (n : ℕ) : Type 0 where
  within : n ≤ length bs
  before : (k : ℕ) → k < n → get_or bs k 0 ≡ 10 → ⊥
  found : n < length bs → get_or bs n 0 ≡ 10

ends : (bs : List ℕ) → Ends bs (position_or_len (λ b. eqb b 10) bs)
ends bs = record {
  within = prefix_len-le-length _ bs;
  before = λ k below. eqb-false _ 10 (fails_before_first (λ b. eqb b 10) bs k 0 below);
  found = λ short. eqb-true _ 10 (passes_at_first (λ b. eqb b 10) bs 0 short);
}

ends_first : (bs : List ℕ) (n : ℕ) → 0 < length bs → Ends bs n → lines bs ≡ take n bs ∷ lines (drop (suc n) bs)
ends_first bs n some e = lines_first bs n some e.within e.before e.found

module _ (bs : List ℕ) (n cut : ℕ) (e : Ends bs n) where
  -- the cut lies behind the line, or in it
  ends_cut : n < cut → Ends (take cut bs) n
  ends_cut h = record {
    within = simp length-take (omega (arith, e.within));
    before = λ k below is. e.before k below (sym (get_or-take cut bs k 0 (omega arith)) ∙ is);
    found = λ short. get_or-take cut bs n 0 h ∙ e.found (omega (arith, length-take cut bs));
  }

  ends_inside : cut ≤ n → Ends (take cut bs) cut
  ends_inside h = record {
    within = omega (arith, length-take-le cut bs (omega (arith, e.within)));
    before = λ k below is. e.before k (omega arith) (sym (get_or-take cut bs k 0 below) ∙ is);
    found = λ short. absurd (omega (arith, length-take-le cut bs (omega (arith, e.within))));
  }

drop_cut : (bs : List ℕ) (n cut : ℕ) → n < cut → drop (suc n) (take cut bs) ≡ take (cut - suc n) (drop (suc n) bs)
drop_cut bs n cut h =
    let e : cut ≡ suc n + (cut - suc n) = omega arith in
    ap (λ c. drop (suc n) (take c bs)) e ∙ drop-take (suc n) (cut - suc n) bs

-- the first line of a file and of the cut file, which has room for m lines more
module _ (m cut : ℕ) (bs : List ℕ) (n : ℕ) (some : 0 < length bs) (room : 201 * suc m ≤ cut) (e : Ends bs n) where
  cut_some : 0 < length (take cut bs)
  cut_some = simp length-take (omega arith)

  whole : lines bs ≡ take n bs ∷ lines (drop (suc n) bs)
  whole = ends_first bs n some e

  short : n < cut → lines (take cut bs) ≡ take n bs ∷ lines (take (cut - suc n) (drop (suc n) bs))
  short h =
      let first : take n (take cut bs) ≡ take n bs = take-take n cut bs (omega arith) in
      let rest = drop_cut bs n cut h in
      ends_first (take cut bs) n cut_some (ends_cut bs n cut e h) ∙ (λ i. first i ∷ lines (rest i))

  inside : cut ≤ n → lines (take cut bs) ≡ take cut (take cut bs) ∷ lines (drop (suc cut) (take cut bs))
  inside h = ends_first (take cut bs) cut cut_some (ends_inside bs n cut e h)

  n_long : 200 < n → 200 < length (take n bs)
  n_long h = omega (arith, length-take-le n bs e.within)

  cut_long : cut ≤ n → 200 < length (take cut (take cut bs))
  cut_long h =
      let same = take-take cut cut bs (omega arith) in
      rw same (omega (arith, length-take-le cut bs (omega (arith, e.within))))

  alike_step : ((ds : List ℕ) (c : ℕ) → 201 * m ≤ c → Alike (take m (lines (take c ds))) (take m (lines ds))) → Alike (take (suc m) (lines (take cut bs))) (take (suc m) (lines bs))
  alike_step more = elim (cases_lt n cut) [
    | inl h ↦ elim (cases_lt 200 n) [
      | inl long ↦ rw (short h, whole) (alike_long _ _ _ _ (n_long long) (n_long long))
      | inr few ↦ rw (short h, whole) (alike_cons (take n bs) _ _ (more (drop (suc n) bs) (cut - suc n) (omega arith)))
    ]
    | inr h ↦ rw (inside h, whole) (alike_long _ _ _ _ (cut_long h) (n_long (omega arith)))
  ]

-- of m lines, cut where m lines of 200 bytes have ended
alike_cut : (m : ℕ) (bs : List ℕ) (cut : ℕ) → 201 * m ≤ cut → Alike (take m (lines (take cut bs))) (take m (lines bs))
alike_cut zero bs cut room = inl refl
alike_cut (suc m) [] zero room = inl refl
alike_cut (suc m) [] (suc cut) room = inl refl
alike_cut (suc m) (b ∷ bs) cut room =
    alike_step m cut (b ∷ bs) _ (omega arith) room (ends (b ∷ bs)) (λ ds c h. alike_cut m ds c h)

both_ways : (m cut : ℕ) → 201 * m ≤ cut → (bs : List ℕ) (r : Result Sample SampleFault) → (Answer (take m (lines (take cut bs))) r → Answer (take m (lines bs)) r) × (Answer (take m (lines bs)) r → Answer (take m (lines (take cut bs))) r)
both_ways m cut room bs r =
    let a = alike_cut m bs cut room in
    (same_answer _ _ r a, same_answer _ _ r (alike_turned _ _ a))

pub enough_bytes : Enough 20100000
enough_bytes = both_ways 100000 20100000 (lit≤ tt)
