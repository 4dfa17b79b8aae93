use Rattle.std.proofs.Common.{◌≡◌, sym, ◌∙◌, rules, tests, refl}
use Rattle.std.proofs.lemmas.Iterator.{YieldsList-from_slice, YieldsList-from_zip}
use Rattle.std.proofs.lemmas.Iterator.Adapters.{YieldsList-from_skip}
use Rattle.std.proofs.lemmas.Iterator.Search.{all_from_yields_List}
use mathlib.Core.Bool.{false≢true}
use Rattle.borders.specs.Limits.{step_within}
use Rattle.borders.specs.Ramps.{admitted_over, admitted_below, admitted_step}
use Rattle.borders.proofs.Steps.{steps_within, steps_of, all_steps}
use Rattle.borders.proofs.ramp.RampBorder.admits.Goals as goal

pub returns-then-admits : goal.returns-then-admits
returns-then-admits g c =
    let s = c.args.schedule.now in
    let R = c.args.self.now.rate in
    let below = g.B.Border.meaning c.args.self.now.below in
    let chain = YieldsList-from_zip (YieldsList-from_slice s (search rules)) (YieldsList-from_skip 1 (YieldsList-from_slice s (search rules)) (search rules)) in
    let all_is : c.all.result ≡ steps_within R s = all_from_yields_List (λ p. step_within R p.0 p.1) c.all.new.self _ _ c.all.ensures.ran chain (λ x r q k. search (rules, tests)) in
    (λ e. admitted_over R below s (c.if-admits.ensures.0 refl) (steps_of R s (sym all_is ∙ e)), λ a. all_is ∙ all_steps R s (admitted_step R below s a))

pub returns-else-admits : goal.returns-else-admits
returns-else-admits g c =
    let R = c.args.self.now.rate in
    let below = g.B.Border.meaning c.args.self.now.below in
    (λ e. absurd (false≢true (sym c.if-admits.false ∙ e)), λ a. c.if-admits.false ∙ c.if-admits.ensures.1 (admitted_below R below c.args.schedule.now a))
