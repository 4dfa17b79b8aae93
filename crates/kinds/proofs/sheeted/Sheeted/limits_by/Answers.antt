use Rattle.std.proofs.lemmas.Int.{to_z-of_z}
use Rattle.kinds.proofs.Sheets.{narrow, low_near}
use Rattle.kinds.proofs.sheeted.Sheeted.limits_by.Goals as goal

pub returns-clause-lower : goal.returns-clause-lower
returns-clause-lower g c =
    let f = c.ranges.flow in
    let lim = g.met.K.Kind.bounded c.args.sheet.now c.args.flow c.requires.near c.requires.passes in
    narrow _ _ (record { sfits = c.limit.type_inv }) (simp to_z-of_z at c.limit.ensures) (low_near _ _ lim).0

pub returns-clause-upper : goal.returns-clause-upper
returns-clause-upper g c =
    let f = c.ranges.flow in
    let lim = g.met.K.Kind.bounded c.args.sheet.now c.args.flow c.requires.near c.requires.passes in
    narrow _ _ (record { sfits = c.limit-2.type_inv }) (simp to_z-of_z at c.limit-2.ensures) (low_near _ _ lim).1

pub invariant_of-result : goal.invariant_of-result
invariant_of-result g c =
    let f = c.ranges.flow in
    let lim = g.met.K.Kind.bounded c.args.sheet.now c.args.flow c.requires.near c.requires.passes in
    let low = narrow _ _ (record { sfits = c.limit.type_inv }) (simp to_z-of_z at c.limit.ensures) (low_near _ _ lim).0 in
    let high = narrow _ _ (record { sfits = c.limit-2.type_inv }) (simp to_z-of_z at c.limit-2.ensures) (low_near _ _ lim).1 in
    record { limited = rw (low, high) lim }
