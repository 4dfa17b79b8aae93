use Rattle.borders.specs.Border.{flow_of}
use Rattle.borders.specs.Bank.{border_at}
use Rattle.region.proofs.Nets.{Collected}
use Rattle.region.proofs.region.Region.net.Given as goal

abbrev pub invariant-loop-border : goal.invariant-loop-border
invariant-loop-border g l = Collected (λ c. flow_of (border_at (g.B.Bank.borders l.self.bank) c) l.period) l.flows l.border
