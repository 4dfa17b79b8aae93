use Rattle.std.proofs.Common.{◌≡◌, ℤ, ◌-ℤ◌, sym, subst, w32, w64, SFits}
use Rattle.std.proofs.lemmas.Int.{to_z-of_z}
use Rattle.equations.specs.Capacities.{available, limit_of}
use Rattle.equations.specs.declared.capacity.Side.{Side}
use Rattle.equations.specs.declared.capacity.Formula.{Formula}
use Rattle.equations.specs.declared.capacity.Direction.{Direction}
use Rattle.equations.specs.declared.capacity.Direction.TheVariants.{Forward, Backward}
use Rattle.equations.proofs.Available.{backward_fits}
use Rattle.equations.proofs.capacity.OneWay.limit.Goals as goal

backward_is : (f : Formula) (to : Direction) (t : Side) (a p x y : ℤ) → to ≡ Backward → x ≡ a → y ≡ available f to t a p → x -ℤ y ≡ limit_of f to t a p
backward_is f Forward t a p x y i e d = cc
backward_is f Backward t a p x y i e d = cc

pub returns-in-Backward : goal.returns-in-Backward
returns-in-Backward c =
    let t = c.args.self.now in
    let f1 = c.ranges.flow in
    let f2 = c.ranges.power_flow in
    let r1 : SFits w64 c.from-in-Backward.result = record { sfits = c.from-in-Backward.type_inv } in
    let r2 : SFits w64 c.left-available.result = record { sfits = c.left-available.type_inv } in
    let e : c.from-in-Backward.result ≡ c.args.flow = simp to_z-of_z at c.from-in-Backward.ensures in
    let k = backward_fits c.from-in-Backward.result c.left-available.result (subst (SFits w32) (sym e) f1) c.left-available.ensures.near in
    simp to_z-of_z (backward_is t.formula t.direction t.side c.args.flow c.args.power_flow _ _ c.in-Backward.is e (simp to_z-of_z at c.left-available.ensures.value))
