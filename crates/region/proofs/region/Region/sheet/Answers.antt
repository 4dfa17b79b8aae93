use Rattle.std.proofs.Common.{◌≡◌, true, refl, w32, SFits, rules}
use Rattle.std.proofs.lemmas.Int.{to_z-of_z}
use Rattle.std.proofs.lemmas.Bool.{false≢true}
use Rattle.std.proofs.lemmas.Result.{MatchResult-weaker}
use Rattle.borders.specs.Border.{passing}
use Rattle.borders.specs.Bank.{border_at}
use Rattle.book.specs.Grounds.{FlowsEarly}
use Rattle.region.specs.Seen.{seen, sheet_call}
use Rattle.region.proofs.Refusals.{border_refused}
use Rattle.region.proofs.Assessing.{test_refused, state_refused, flow_refused, log_refused, sheet_accepted, accepts_passing}
use Rattle.region.proofs.region.Region.sheet.Goals as goal

pub returns-in_err-at-clause-did : goal.returns-in_err-at-clause-did
returns-in_err-at-clause-did g c deals =
    let fc = c.ranges.border in
    let fp = c.ranges.period in
    let v = seen g.B.Bank.borders c.args.self.now deals c.args.sheets.now in
    border_refused v (sheet_call c.args.border c.args.period c.args.sheet) c.args.border c.args.period _ refl _ _ c.from_residual.ensures.1 (simp to_z-of_z at c.in_err-at.ensures)

pub returns-in_err-may_reassess-clause-did : goal.returns-in_err-may_reassess-clause-did
returns-in_err-may_reassess-clause-did g c deals =
    let fc = c.ranges.border in
    let fp = c.ranges.period in
    let v = seen g.B.Bank.borders c.args.self.now deals c.args.sheets.now in
    let found = simp to_z-of_z at c.in_ok-at.ensures in
    let own = simp to_z-of_z at c.in_err-may_reassess.ensures.own in
    let named = simp to_z-of_z at c.in_err-may_reassess.ensures.named in
    test_refused v c.args.border c.args.period c.args.sheet _ found _ _ c.from_residual-in_err-may_reassess.ensures.1 own named

pub returns-in_err-allows-clause-did : goal.returns-in_err-allows-clause-did
returns-in_err-allows-clause-did g c deals =
    let fc = c.ranges.border in
    let fp = c.ranges.period in
    let v = seen g.B.Bank.borders c.args.self.now deals c.args.sheets.now in
    let found = simp to_z-of_z at c.in_ok-at.ensures in
    let passes : passing (border_at v.borders c.in_ok-at.at) c.args.sheet c.args.period ≡ true = search (rules, to_z-of_z) in
    state_refused v c.args.border c.args.period c.args.sheet _ found passes _ _ c.from_residual-in_err-allows.ensures.1 (simp to_z-of_z at c.in_err-allows.ensures)

pub returns-then-flows_early-clause-did : goal.returns-then-flows_early-clause-did
returns-then-flows_early-clause-did g c deals =
    let fc = c.ranges.border in
    let fp = c.ranges.period in
    let v = seen g.B.Bank.borders c.args.self.now deals c.args.sheets.now in
    let found = simp to_z-of_z at c.in_ok-at.ensures in
    let passes = simp to_z-of_z at c.in_ok-may_reassess.ensures.own in
    rw (to_z-of_z w32 c.args.border fc, to_z-of_z w32 c.args.period fp)
    (flow_refused v c.args.border c.args.period c.args.sheet _ found passes c.in_ok-allows.field-0 c.in_ok-allows.ensures (c.if-flows_early.ensures.0 refl))

pub returns-in_err-map_err-clause-did : goal.returns-in_err-map_err-clause-did
returns-in_err-map_err-clause-did g c deals =
    let fc = c.ranges.border in
    let fp = c.ranges.period in
    let v = seen g.B.Bank.borders c.args.self.now deals c.args.sheets.now in
    let found = simp to_z-of_z at c.in_ok-at.ensures in
    let passes = simp to_z-of_z at c.in_ok-may_reassess.ensures.own in
    let in_time : FlowsEarly c.args.sheet c.args.self.now.state → ⊥ = λ h. false≢true (c.if-flows_early.ensures.1 h) in
    log_refused v c.args.border c.args.period c.args.sheet _ found passes c.in_ok-allows.field-0 c.in_ok-allows.ensures in_time _ _ c.args.sheets.now c.enter.new.self refl c.enter.ensures.answer _ _ c.from_residual-in_err-map_err.ensures.1
    (MatchResult-weaker c.enter.result c.in_err-map_err.ensures.cases (λ n e. e) (λ e k. search rules))

pub returns-clause-did : goal.returns-clause-did
returns-clause-did g c deals =
    let fc = c.ranges.border in
    let fp = c.ranges.period in
    let v = seen g.B.Bank.borders c.args.self.now deals c.args.sheets.now in
    let found = simp to_z-of_z at c.in_ok-at.ensures in
    let passes = simp to_z-of_z at c.in_ok-may_reassess.ensures.own in
    let in_time : FlowsEarly c.args.sheet c.args.self.now.state → ⊥ = λ h. false≢true (c.if-flows_early.ensures.1 h) in
    let ff : SFits w32 c.flow-flow.result = record { sfits = c.flow-flow.type_inv } in
    let own = accepts_passing (border_at (g.B.Bank.borders c.args.self.now.bank) c.in_ok-at.at) (border_at (g.B.Bank.borders c.reassess.new.self) c.in_ok-at.at) c.args.sheet c.args.period c.reassess.result passes (simp to_z-of_z at c.reassess.ensures.own) in
    sheet_accepted v c.args.border c.args.period c.args.sheet _ found passes c.in_ok-allows.field-0 c.in_ok-allows.ensures in_time _ _ c.args.sheets.now c.enter.new.self refl c.enter.ensures.answer c.in_ok-map_err.ensures.variant c.flow-flow.result (simp to_z-of_z) (simp to_z-of_z at c.flow-flow.ensures) (g.B.Bank.borders c.reassess.new.self) own.1 c.reassess.ensures.others

pub unwrap-requires : goal.unwrap-requires
unwrap-requires g c =
    let fp = c.ranges.period in
    let passes = simp to_z-of_z at c.in_ok-may_reassess.ensures.own in
    (accepts_passing (border_at (g.B.Bank.borders c.args.self.now.bank) c.in_ok-at.at) (border_at (g.B.Bank.borders c.reassess.new.self) c.in_ok-at.at) c.args.sheet c.args.period c.reassess.result passes (simp to_z-of_z at c.reassess.ensures.own)).0
