use Rattle.std.proofs.Common.{◌≡◌, ℕ, ◌<◌, true, List, get_or, ℤ, pos, ◌*ℤ◌, ◌≤ℤ◌, sym, ap, subst, arith, w32, SFits}
use Rattle.std.proofs.lemmas.Int.{ints, to_z-of_z}
use Rattle.std.proofs.lemmas.List.Sums.{prefix_len_passes}
use Rattle.std.specs.List.{prefix_len}
use Rattle.equations.specs.declared.sources.Source.{Source}
use Rattle.equations.specs.declared.sources.Row.{Row}
use Rattle.equations.specs.Reserves.{source_allowed, coefficient}
use Rattle.equations.proofs.Sourced.{blank, power_between, coefficient_between, product_between}
use Rattle.equations.proofs.Totals.{total_none, total_more}
use Rattle.equations.proofs.sources.weigh.Goals as goal

pub loop-source-init : goal.loop-source-init
loop-source-init c = (sym (total_none (λ (s : Source). coefficient c.args.row s *ℤ s.power)), omega (arith, ints), omega (arith, ints))

-- the source of a turn: its coefficient, its power and their product
record Turn (row : Row) (s : Source) (k : ℤ) : Type 0 where
  same : k ≡ coefficient row s
  small : SFits w32 k
  power : SFits w32 s.power
  product : SFits w32 (k *ℤ s.power)
  least : pos 0 ≤ℤ (k *ℤ s.power)
  most : (k *ℤ s.power) ≤ℤ pos 500000

turn : (row : Row) (s : Source) (k : ℤ) → source_allowed s ≡ true → k ≡ coefficient row s → Turn row s k
turn row s k ok e =
    let p = power_between s ok in
    let q = subst (λ (x : ℤ). (pos 0 ≤ℤ x) × (x ≤ℤ pos 100)) (sym e) (coefficient_between row s ok) in
    let b = product_between k s.power 100 5000 q p in
    record { same = e; small = omega (arith, ints); power = omega (arith, ints); product = within (k *ℤ s.power) b.0 b.1; least = b.0; most = b.1 }
  where
    within : (x : ℤ) → pos 0 ≤ℤ x → x ≤ℤ pos 500000 → SFits w32 x
    within x h l = omega (arith, ints)

this_turn : (c : goal.After-sum-1) → Turn c.args.row (get_or c.args.sources.now c.loop-source.source-index blank) c.coefficient.result
this_turn c =
    let h : c.loop-source.source-index < prefix_len source_allowed c.args.sources.now = omega (arith, c.requires.allowed) in
    turn c.args.row _ _ (prefix_len_passes source_allowed c.args.sources.now c.loop-source.source-index blank h) c.coefficient.ensures

pub overflow_mul-sum : goal.overflow_mul-sum
overflow_mul-sum c = let t = this_turn c in simp (to_z-of_z, t.small, t.power) t.product

pub overflow_add-sum : goal.overflow_add-sum
overflow_add-sum c = let t = this_turn c in simp (to_z-of_z, t.small, t.power, t.product) (omega (arith, ints))

pub loop-source-preserved : goal.loop-source-preserved
loop-source-preserved c =
    let ss : List Source = c.args.sources.now in
    let i : ℕ = c.loop-source.source-index in
    let t = this_turn c in
    let m = total_more (λ (s : Source). coefficient c.args.row s *ℤ s.power) ss i blank c.loop-source-test.true in
    let e = ap (λ (k : ℤ). k *ℤ (get_or ss i blank).power) t.same in
    simp (to_z-of_z, t.small, t.power, t.product) (omega (arith, ints), omega (arith, ints), omega (arith, ints))
