use Rattle.std.proofs.Common.{◌≡◌, sym, ◌∙◌, arith, rules}
use Rattle.std.proofs.lemmas.Int.{ints}
use Rattle.zones.specs.Trees.{up}
use Rattle.zones.proofs.Leads.{none_summed, led_summed, other_summed, net_summed}
use Rattle.zones.proofs.tree.Tree.net_position.Goals as goal
use Rattle.zones.proofs.tree.Tree.net_position.Goals.{then-up-zone, else-up-zone}

pub loop-border-init : goal.loop-border-init
loop-border-init c = none_summed (up c.args.self.now) c.args.flows.now c.args.zone

pub loop-border-preserved : goal.loop-border-preserved
loop-border-preserved c =
    let so_far = c.loop-border.invariant in
    elim c.if-up-zone.branch [
      | then-up-zone w ↦
          let flow = w.flow_of-sum.ensures in
          led_summed so_far (search rules) (sym c.up.ensures.value ∙ w.if-up-zone.true) flow.value flow.low flow.high (omega (arith, ints))
      | else-up-zone w ↦ other_summed so_far (search rules) (λ e. w.if-up-zone.false (c.up.ensures.value ∙ e)) (search rules)
    ]

pub returns-clause-value : goal.returns-clause-value
returns-clause-value c =
    let t = c.args.self.now in
    let end : c.loop-border.border ≡ t.count = (let e = t.some in omega arith) in
    rw (sym c.if-not-has.ensures, sym end) (net_summed c.loop-border.invariant c.flow_of.ensures.value (omega (arith, ints)))
