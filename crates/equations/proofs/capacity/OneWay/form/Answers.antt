use Rattle.std.proofs.Common.{◌≡◌, ◌+ℤ◌, ◌-ℤ◌, w32, w64, SFits, rules}
use Rattle.std.specs.Int.{int_min}
use Rattle.std.proofs.lemmas.Int.{to_z-of_z}
use Rattle.equations.proofs.Available.{line_small, line_fits}
use Rattle.equations.proofs.capacity.OneWay.form.Goals as goal

pub returns-in-Settlement-clause-value : goal.returns-in-Settlement-clause-value
returns-in-Settlement-clause-value c =
    let t = c.args.self.now.side in
    let f1 : SFits w32 t.first = search rules in
    let f2 : SFits w32 t.second = search rules in
    let f3 : SFits w32 c.in-Settlement.circuits = search rules in
    let r1 : SFits w32 c.settled.result = record { sfits = c.settled.type_inv } in
    let r2 : SFits w32 c.settled-in-Settlement.result = record { sfits = c.settled-in-Settlement.type_inv } in
    let r3 : SFits w32 c.min-in-Settlement.result = record { sfits = c.min-in-Settlement.type_inv } in
    let r4 : SFits w32 c.cap_of-cap.result = record { sfits = c.cap_of-cap.type_inv } in
    let r5 : SFits w32 c.min-in-Settlement-2.result = record { sfits = c.min-in-Settlement-2.type_inv } in
    let e1 = simp to_z-of_z at c.settled.ensures in
    let e2 = simp to_z-of_z at c.settled-in-Settlement.ensures in
    let e3 = simp to_z-of_z at c.cap_of-cap.ensures in
    let e4 = simp to_z-of_z at c.min-in-Settlement.ensures.value in
    let e5 = simp to_z-of_z at c.min-in-Settlement-2.ensures.value in
    let e6 = simp to_z-of_z at c.from-in-Settlement.ensures in
    let r6 : SFits w64 c.from-in-Settlement.result = record { sfits = c.from-in-Settlement.type_inv } in
    rw (c.in-Settlement.is, to_z-of_z w64 c.from-in-Settlement.result r6) (cc)

pub returns-in-Line : goal.returns-in-Line
returns-in-Line c =
    let t = c.args.self.now.side in
    let f1 : SFits w32 t.first = search rules in
    let f2 : SFits w32 t.second = search rules in
    let f3 : SFits w32 t.margin = search rules in
    let f4 : SFits w32 t.reserve = search rules in
    let k = line_fits t.first t.second t.margin t.reserve f1 f2 f3 f4 in
    let r : SFits w64 c.min-in-Line.result = record { sfits = c.min-in-Line.type_inv } in
    let e1 : c.from-in-Line.result ≡ t.first = simp to_z-of_z at c.from-in-Line.ensures in
    let e2 : c.from-in-Line-2.result ≡ t.reserve = simp to_z-of_z at c.from-in-Line-2.ensures in
    let e3 : c.from-in-Line-3.result ≡ t.second = simp to_z-of_z at c.from-in-Line-3.ensures in
    let e4 : c.from-margin.result ≡ t.margin = simp to_z-of_z at c.from-margin.ensures in
    let v = simp (e1, e2, e3, e4) at c.min-in-Line.ensures.value in
    let e : c.min-in-Line.result ≡ int_min (t.first +ℤ t.reserve -ℤ t.margin) (t.second -ℤ t.margin) = simp (to_z-of_z, k.first, k.second, k.margin, k.reserve, k.lifted, k.first_left, k.second_left) at v in
    rw (c.in-Line.is, to_z-of_z w64 c.min-in-Line.result r) record { value = e; near = rw e (line_small t.first t.second t.margin t.reserve f1 f2 f3 f4) }
