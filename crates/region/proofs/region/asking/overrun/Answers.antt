use Rattle.std.proofs.Common.{◌≡◌, ℤ, pos, ◌-ℤ◌, neg_ℤ, ◌∙◌, arith, w32, w64, SFits, rules}
use Rattle.std.specs.Int.{int_max}
use Rattle.std.proofs.lemmas.Int.{ints, clamps, to_z-of_z}
use Rattle.region.proofs.region.asking.overrun.Goals as goal

-- the larger of both distances, or 0
beyond : (n e i m r : ℤ) → m ≡ int_max (n -ℤ e) ((pos 0 -ℤ i) -ℤ n) → r ≡ int_max m (pos 0) → r ≡ int_max (pos 0) (int_max (n -ℤ e) (neg_ℤ i -ℤ n))
beyond n e i m r d f = omega (arith, ints, clamps)

pub returns-in-Some : goal.returns-in-Some
returns-in-Some c =
    let l = c.in-Some.limit in
    let n = c.args.net in
    let fn = c.ranges.net in
    let fe : SFits w32 l.export = search rules in
    let fi : SFits w32 l.import = search rules in
    let export : c.from.result ≡ l.export = c.from.ensures ∙ to_z-of_z w32 l.export fe in
    let import : c.from-in-Some.result ≡ l.import = c.from-in-Some.ensures ∙ to_z-of_z w32 l.import fi in
    let lo = c.requires.0 in
    let hi = c.requires.1 in
    let f1 : SFits w64 c.from.result = record { sfits = c.from.type_inv } in
    let f2 : SFits w64 c.from-in-Some.result = record { sfits = c.from-in-Some.type_inv } in
    let f3 : SFits w64 (pos 0 -ℤ c.from-in-Some.result) = omega (arith, ints) in
    let f4 : SFits w64 (n -ℤ c.from.result) = omega (arith, ints) in
    let f5 : SFits w64 ((pos 0 -ℤ c.from-in-Some.result) -ℤ n) = omega (arith, ints) in
    let fm : SFits w64 c.max.result = record { sfits = c.max.type_inv } in
    let fr : SFits w64 c.max-in-Some.result = record { sfits = c.max-in-Some.type_inv } in
    let most = simp to_z-of_z at c.max.ensures.value in
    let found = simp to_z-of_z at c.max-in-Some.ensures.value in
    let turned = beyond n l.export l.import c.max.result c.max-in-Some.result (rw (export, import) at most) found in
    rw c.in-Some.is (to_z-of_z w64 c.max-in-Some.result fr ∙ turned)
