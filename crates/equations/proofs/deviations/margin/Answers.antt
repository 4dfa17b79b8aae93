use Rattle.std.proofs.Common.{◌≡◌, ℕ, ◌+◌, ◌<◌, ◌≤◌, true, List, length, get_or, take, ℤ, pos, negsuc, ◌+ℤ◌, ◌*ℤ◌, neg_ℤ, ◌≤ℤ◌, sym, ap, ◌∙◌, arith, w32, w64, SFits, to_z}
use Rattle.std.proofs.lemmas.List.{take_all}
use Rattle.std.proofs.lemmas.Int.{ints, to_z-of_z, to_z_pos}
use Rattle.std.proofs.lemmas.List.Sums.{prefix_len-drop_yes, prefix_len-drop_no}
use Rattle.std.proofs.lemmas.Bool.Decides.{nat_tests}
use Rattle.std.specs.List.{prefix_len}
use Rattle.equations.specs.Margins.{AllowedSums, MarginOf, sum_of, squares_of, deviation_allowed, count_allowed}
use Rattle.equations.proofs.Judging.{judged_entry}
use Rattle.equations.proofs.Products.{near_product}
use Rattle.equations.proofs.Ranged.{tells, within, within_count}
use Rattle.equations.proofs.Fitting.{square_least}
use Rattle.equations.proofs.Totals.{total_none, total_more, square_covered}
use Rattle.equations.proofs.deviations.margin.Goals as goal

few_enough : (n : ℕ) → (2 ≤ n) × (n ≤ 44640) → count_allowed n ≡ true
few_enough n h = let a = h.0 in let b = h.1 in grind (arith, nat_tests)

-- a turn of the loop, at a deviation x within its bounds
record Turn (i : ℕ) (S Q x : ℤ) : Type 0 where
  small : SFits w32 x
  fits : SFits w64 x
  square : SFits w64 (x *ℤ x)
  sum : SFits w64 (S +ℤ x)
  squares : SFits w64 (Q +ℤ x *ℤ x)
  sum_least : neg_ℤ (pos 2000 *ℤ pos (i + 1)) ≤ℤ (S +ℤ x)
  sum_most : (S +ℤ x) ≤ℤ (pos 2000 *ℤ pos (i + 1))
  squares_least : pos 0 ≤ℤ (Q +ℤ x *ℤ x)
  squares_most : (Q +ℤ x *ℤ x) ≤ℤ (pos 4000000 *ℤ pos (i + 1))

module _ (i : ℕ) (S Q x : ℤ) (few : i ≤ 44640) (a : neg_ℤ (pos 2000 *ℤ pos i) ≤ℤ S) (b : S ≤ℤ (pos 2000 *ℤ pos i)) (c : pos 0 ≤ℤ Q) (d : Q ≤ℤ (pos 4000000 *ℤ pos i)) (near : (negsuc 1999 ≤ℤ x) × (x ≤ℤ pos 2000)) where
  grown : (y : ℤ) → pos 0 ≤ℤ y → y ≤ℤ pos 4000000 → SFits w64 y × SFits w64 (Q +ℤ y) × (pos 0 ≤ℤ (Q +ℤ y)) × ((Q +ℤ y) ≤ℤ (pos 4000000 *ℤ pos (i + 1)))
  grown y h k = (omega (arith, ints), omega (arith, ints), omega (arith, ints), omega (arith, ints))

  turn : Turn i S Q x
  turn =
      let g = grown (x *ℤ x) (square_least x) (near_product 2000 2000 x x near near).1 in
      record { small = omega (arith, ints); fits = omega (arith, ints); square = g.0; sum = omega (arith, ints); squares = g.1; sum_least = omega (arith, ints); sum_most = omega (arith, ints); squares_least = g.2; squares_most = g.3 }

this_turn : (c : goal.After-from-d) → Turn c.loop-i.i (to_z w64 c.loop-i.sum-bits) (to_z w64 c.loop-i.squares-bits) (get_or c.args.deviations.now c.loop-i.i (pos 0))
this_turn c =
    let n = within_count _ _ _ _ (length c.args.deviations.now) _ c.new.ensures.start c.new.ensures.end c.new.ensures.exhausted c.if-not-contains.ensures.value in
    let x = within _ _ _ _ (get_or c.args.deviations.now c.loop-i.i (pos 0)) _ c.new-in-loop-i.ensures.start c.new-in-loop-i.ensures.end c.new-in-loop-i.ensures.exhausted c.if-not-contains-2.ensures.value in
    turn _ _ _ _ (omega arith) c.loop-i.invariant.3 c.loop-i.invariant.4 c.loop-i.invariant.5 c.loop-i.invariant.6 x

pub returns-then-not-contains-2 : goal.returns-then-not-contains-2
returns-then-not-contains-2 c =
    let ds : List ℤ = c.args.deviations.now in
    let i : ℕ = c.loop-i.i in
    let h : i < length ds = c.loop-i-test.true in
    let out = tells _ _ _ _ (get_or ds i (pos 0)) _ _ c.new-in-loop-i.ensures.start c.new-in-loop-i.ensures.end c.new-in-loop-i.ensures.exhausted c.contains-in-loop-i.ensures.value ∙ c.if-not-contains-2.true in
    let l : prefix_len deviation_allowed ds ≡ i = omega (arith, prefix_len-drop_no deviation_allowed ds i (pos 0) h out) in
    judged_entry (MarginOf ds) (count_allowed (length ds)) deviation_allowed ds i (few_enough (length ds) (within_count _ _ _ _ _ _ c.new.ensures.start c.new.ensures.end c.new.ensures.exhausted c.if-not-contains.ensures.value)) l h

pub overflow_add-squares : goal.overflow_add-squares
overflow_add-squares c =
    let t = this_turn c in
    simp (to_z-of_z, c.from-d.ensures, t.small, t.fits, t.square) t.squares

pub loop-i-preserved : goal.loop-i-preserved
loop-i-preserved c =
    let ds : List ℤ = c.args.deviations.now in
    let i : ℕ = c.loop-i.i in
    let h : i < length ds = c.loop-i-test.true in
    let t = this_turn c in
    let a : to_z w64 c.loop-i.sum-bits +ℤ get_or ds i (pos 0) ≡ sum_of (take (i + 1) ds) = cc (total_more (λ d. d) ds i (pos 0) h) in
    let b : to_z w64 c.loop-i.squares-bits +ℤ get_or ds i (pos 0) *ℤ get_or ds i (pos 0) ≡ squares_of (take (i + 1) ds) = cc (total_more (λ d. d *ℤ d) ds i (pos 0) h) in
    let ok = tells _ _ _ _ (get_or ds i (pos 0)) _ _ c.new-in-loop-i.ensures.start c.new-in-loop-i.ensures.end c.new-in-loop-i.ensures.exhausted c.contains-in-loop-i.ensures.value ∙ c.if-not-contains-2.false in
    let l = prefix_len-drop_yes deviation_allowed ds i (pos 0) h ok in
    simp (to_z-of_z, c.from-d.ensures, t.small, t.fits, t.square, t.sum, t.squares) (a, b, omega arith, t.sum_least, t.sum_most, t.squares_least, t.squares_most)

-- deviations within their bounds have sums that are allowed
allowed_sums : (ds : List ℤ) (i : ℕ) (n S Q : ℤ) → (2 ≤ length ds) × (length ds ≤ 44640) → i ≡ length ds → n ≡ pos (length ds) → S ≡ sum_of ds → Q ≡ squares_of ds → neg_ℤ (pos 2000 *ℤ pos i) ≤ℤ S → S ≤ℤ (pos 2000 *ℤ pos i) → pos 0 ≤ℤ Q → Q ≤ℤ (pos 4000000 *ℤ pos i) → AllowedSums n S Q
allowed_sums ds i n S Q count ei en es eq a b c d = record {
  in_range = record {
    few = omega (arith, ints);
    many = omega (arith, ints);
    sum_least = omega (arith, ints);
    sum_most = omega (arith, ints);
    squares_least = c;
    squares_most = omega (arith, ints);
  };
  covered = rw (en, es, eq) (square_covered ds);
}

pub invariant_of-margin : goal.invariant_of-margin
invariant_of-margin c =
    let ds : List ℤ = c.args.deviations.now in
    let v = c.loop-i.invariant in
    let all = take_all c.loop-i.i ds c.loop-i-test.false in
    let n = within_count _ _ _ _ (length ds) _ c.new.ensures.start c.new.ensures.end c.new.ensures.exhausted c.if-not-contains.ensures.value in
    record { kept = allowed_sums ds c.loop-i.i _ _ _ n (omega arith) (to_z_pos w64 (length ds) (omega arith)) (v.0 ∙ ap sum_of all) (v.1 ∙ ap squares_of all) v.3 v.4 v.5 v.6 }

pub loop-i-init : goal.loop-i-init
loop-i-init c = (sym (total_none (λ d. d)), sym (total_none (λ d. d *ℤ d)), omega arith, record { le = tt }, record { le = tt }, record { le = tt }, record { le = tt })
