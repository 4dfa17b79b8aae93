use Rattle.std.proofs.Common.{◌≡◌, ◌-ℤ◌, sym, ◌∙◌, w64, SFits}
use Rattle.std.proofs.lemmas.Int.{to_z-of_z}
use Rattle.equations.specs.Capacities.{net_capacity, counted}
use Rattle.equations.proofs.Available.{plain_available, less_near}
use Rattle.equations.proofs.capacity.OneWay.left.Goals as goal

pub returns-in-Cable : goal.returns-in-Cable
returns-in-Cable c =
    let t = c.args.self.now in
    let f = c.ranges.flow in
    let r1 : SFits w64 c.net-capacity.result = record { sfits = c.net-capacity.type_inv } in
    let r2 : SFits w64 c.counted-flow.result = record { sfits = c.counted-flow.type_inv } in
    let n = less_near c.net-capacity.result c.counted-flow.result c.net-capacity.ensures.near c.counted-flow.ensures.near in
    let r3 = n.0 in
    let e = simp to_z-of_z at c.counted-flow.ensures.value in
    let d : c.net-capacity.result -ℤ c.counted-flow.result ≡ net_capacity t.formula t.direction t.side -ℤ counted t.direction c.args.flow = cc c.net-capacity.ensures.value in
    simp to_z-of_z record { value = d ∙ sym (plain_available t.formula t.direction t.side c.args.flow c.args.power_flow c.in-Cable.is); near = n.1 }
