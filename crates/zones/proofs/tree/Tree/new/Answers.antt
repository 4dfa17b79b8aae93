use Rattle.std.proofs.Common.{◌-◌, ◌+◌, length, refl, arith}
use Rattle.zones.proofs.Table.{parents_stand, parents_ordered}
use Rattle.zones.proofs.tree.Tree.new.Goals as goal

pub invariant_of-result : goal.invariant_of-result
invariant_of-result c =
    let given = c.args.parents.now in
    let checked = c.in_ok-check.ensures in
    record {
      some = checked.0.0;
      few = checked.0.1;
      ordered = λ z l.
          let e = parents_stand given c.copy_from_slice.new.self (length given + 1 - 1) z c.copy_from_slice.ensures.after in
          let o = parents_ordered given checked.1 z l in
          omega arith;
    }

pub returns : goal.returns
returns c =
    let checked = c.in_ok-check.ensures in
    (checked.0, checked.1, refl, λ z. parents_stand c.args.parents.now c.copy_from_slice.new.self _ z c.copy_from_slice.ensures.after)
