use Rattle.std.proofs.Common.{◌≡◌, true, false, ℤ, pos, ◌≤ℤ◌, ◌<ℤ◌, sym, ◌∙◌, arith, w64, SFits}
use lib.Signed.{lt_z}
use Rattle.std.proofs.lemmas.Int.{ints, to_z-of_z}
use Rattle.equations.proofs.Available.{with_the_flow, against_the_flow, lefts_fit, line_near}
use Rattle.equations.proofs.capacity.line_left.Goals as goal

positive : (a : ℤ) → lt_z (pos 0) a ≡ true → pos 0 <ℤ a
positive a e = omega (arith, ints)

not_positive : (a : ℤ) → lt_z (pos 0) a ≡ false → a ≤ℤ pos 0
not_positive a e = omega (arith, ints)

pub returns-then-flow-gt0 : goal.returns-then-flow-gt0
returns-then-flow-gt0 c =
    let r = c.ranges in
    let h = c.requires in
    let k = lefts_fit _ _ _ _ h.0 h.1 h.2 h.3 in
    let m : SFits w64 c.min.result = record { sfits = c.min.type_inv } in
    let v = simp (to_z-of_z, r.capacity, r.margin, r.flow, r.power_flow, k.0, k.1, k.2) at c.min.ensures.value in
    let e = v ∙ sym (with_the_flow _ _ _ _ (positive _ (simp (to_z-of_z, r.flow) at c.if-flow-gt0.true))) in
    simp to_z-of_z record { value = e; near = rw e (line_near _ _ _ _ h.0 h.1 h.2 h.3) }

pub returns-else-flow-gt0 : goal.returns-else-flow-gt0
returns-else-flow-gt0 c =
    let r = c.ranges in
    let h = c.requires in
    let k = lefts_fit _ _ _ _ h.0 h.1 h.2 h.3 in
    let e = sym (against_the_flow _ _ _ _ (not_positive _ (simp (to_z-of_z, r.flow) at c.if-flow-gt0.false))) in
    simp (to_z-of_z, r.capacity, r.power_flow, k.0) record { value = e; near = rw e (line_near _ _ _ _ h.0 h.1 h.2 h.3) }
