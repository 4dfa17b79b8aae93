use Rattle.std.proofs.Common.{◌≡◌, pos, ◌≢◌, rules, tests}
use Rattle.std.proofs.lemmas.Iterator.{cases_from_any}
use Rattle.borders.specs.Border.{flow_of}
use Rattle.borders.specs.Bank.{border_at}
use Rattle.region.proofs.Periods.{numbers_come}
use Rattle.region.proofs.Begins.{range_told}
use Rattle.region.proofs.region.making.has_flow.Goals as goal

pub returns : goal.returns
returns g c =
    let b = border_at (g.B.Bank.borders c.args.bank.now) c.args.border in
    let looked = cases_from_any _ _ _ (λ p. flow_of b p ≢ pos 0) (λ p. flow_of b p ≡ pos 0) c.any.ensures.ran (numbers_come c.new.result) (λ x q k. search (rules, tests)) (λ x q k. search (rules, tests)) in
    range_told b c.any.result c.new.result c.new.ensures.start c.new.ensures.end c.new.ensures.exhausted looked
