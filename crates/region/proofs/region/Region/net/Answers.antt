use Rattle.std.proofs.Common.{◌≡◌, ℕ, ◌∙◌, subst, arith, w32, w64, SFits, rules}
use Rattle.std.proofs.lemmas.Int.{to_z-of_z}
use Rattle.zones.specs.Trees.{zones}
use Rattle.borders.specs.Border.{flow_of}
use Rattle.borders.specs.Bank.{border_at}
use Rattle.region.proofs.Nets.{Collected, none_collected, collected_more, net_collected}
use Rattle.region.proofs.region.Region.net.Goals as goal

pub loop-border-init : goal.loop-border-init
loop-border-init g c = none_collected _ _ (search rules)

pub loop-border-preserved : goal.loop-border-preserved
loop-border-preserved g c =
    let few = c.count-border-end.ensures.range.1 in
    collected_more _ c.loop-border.flows c.loop-border.border _ c.loop-border.auto.border (omega arith) (to_z-of_z w32 c.flow.result (record { sfits = c.flow.type_inv }) ∙ c.flow.ensures) c.loop-border.invariant

pub returns : goal.returns
returns g c =
    let t = c.args.self.now.kept.tree in
    let end : c.loop-border.border ≡ zones t = (let few = c.count-border-end.ensures.range.0 in omega arith) in
    let fp = c.ranges.period in
    let fr : SFits w64 c.net_position.result = record { sfits = c.net_position.type_inv } in
    let flow = λ (k : ℕ). flow_of (border_at (g.B.Bank.borders c.args.self.now.bank) k) c.args.period in
    let all : Collected flow c.loop-border.flows c.loop-border.border = simp to_z-of_z at c.loop-border.invariant in
    record {
      value = to_z-of_z w64 c.net_position.result fr ∙ c.net_position.ensures.value
          ∙ net_collected t flow c.loop-border.flows c.args.zone (subst (λ (k : ℕ). Collected flow c.loop-border.flows k) end all) c.requires;
      range = search rules;
    }
