use Rattle.std.proofs.Common.{◌*◌, ℤ, pos, ◌-ℤ◌, ◌*ℤ◌, arith, lit<, w32, w64, SFits, refl}
use Rattle.std.proofs.lemmas.Int.{ints, to_z-of_z}
use Rattle.equations.specs.Ranges.{Near}
use Rattle.equations.specs.Margins.{SumsInRange, excess}
use Rattle.equations.proofs.Products.{near_product, near_fits}
use Rattle.equations.proofs.deviations.Allowed.excess.Goals as goal

-- every part of the code's expression fits its type
record Fitting (n S t : ℤ) : Type 0 where
  count : SFits w64 n
  sum : SFits w64 S
  small : SFits w32 (pos 2 *ℤ t -ℤ pos 1)
  edge : SFits w64 (pos 2 *ℤ t -ℤ pos 1)
  scaled : SFits w64 ((pos 2 *ℤ t -ℤ pos 1) *ℤ n)
  doubled : SFits w64 (pos 2 *ℤ S)
  whole : SFits w64 (excess n S t)
  near : Near 2000000000 (excess n S t)

fitting : (n S Q t : ℤ) → SumsInRange n S Q → Near 10000 t → Fitting n S t
fitting n S Q t s ht =
    let hc : Near 44640 n = (omega (arith, ints), omega (arith, ints)) in
    let hs : Near 100000000 S = (omega (arith, ints), omega (arith, ints)) in
    let odd : Near 20001 (pos 2 *ℤ t -ℤ pos 1) = (omega (arith, ints), omega (arith, ints)) in
    let p : Near (20001 * 44640) ((pos 2 *ℤ t -ℤ pos 1) *ℤ n) = near_product 20001 44640 (pos 2 *ℤ t -ℤ pos 1) n odd hc in
    let w : Near 2000000000 (excess n S t) = between ((pos 2 *ℤ t -ℤ pos 1) *ℤ n) S p hs in
    record {
      count = omega (arith, ints);
      sum = omega (arith, ints);
      small = omega (arith, ints);
      edge = omega (arith, ints);
      scaled = near_fits _ (20001 * 44640) (lit< tt) p;
      doubled = omega (arith, ints);
      whole = near_fits _ 2000000000 (lit< tt) w;
      near = w;
    }
  where
    between : (x y : ℤ) → Near (20001 * 44640) x → Near 100000000 y → Near 2000000000 (x -ℤ pos 2 *ℤ y)
    between x y hx hy = (omega (arith, ints), omega (arith, ints))

pub overflow_mul-result : goal.overflow_mul-result
overflow_mul-result c =
    let f = fitting _ _ _ _ c.args.self.now.kept.in_range c.requires in
    simp (to_z-of_z, c.from.ensures, c.doubled_edge.ensures, c.ranges.t, f.count, f.small, f.edge) f.scaled

pub overflow_sub-result : goal.overflow_sub-result
overflow_sub-result c =
    let f = fitting _ _ _ _ c.args.self.now.kept.in_range c.requires in
    simp (to_z-of_z, c.from.ensures, c.doubled_edge.ensures, c.ranges.t, f.count, f.sum, f.small, f.edge, f.scaled, f.doubled) f.whole

pub returns : goal.returns
returns c =
    let f = fitting _ _ _ _ c.args.self.now.kept.in_range c.requires in
    simp (to_z-of_z, c.from.ensures, c.doubled_edge.ensures, c.ranges.t, f.count, f.sum, f.small, f.edge, f.scaled, f.doubled, f.whole) record { value = refl; near = f.near }
