use Rattle.std.proofs.Common.{◌≡◌, sym, ◌∙◌, arith, rules, tests}
use Rattle.std.specs.List.{list_all, zip}
use Rattle.std.proofs.lemmas.Iterator.{YieldsList-from_slice, YieldsList-from_zip}
use Rattle.std.proofs.lemmas.Iterator.Search.{all_from_yields_List}
use Rattle.kinds.specs.Sheets.{stated_by, lowers, uppers}
use Rattle.kinds.specs.SheetedLaws.{kept_of}
use Rattle.kinds.proofs.Sheets.{flow_fits, all_inside, inside_all, admitted_inside, inside_admitted}
use Rattle.kinds.proofs.sheeted.SheetedBorder.admits.Goals as goal

pub returns-then-schedule-eq-PERIODS : goal.returns-then-schedule-eq-PERIODS
returns-then-schedule-eq-PERIODS g c =
    let b = c.args.self.now in
    let s = c.args.schedule.now in
    let chain = YieldsList-from_zip (YieldsList-from_slice s (search rules)) (YieldsList-from_slice b.limits (search rules)) in
    let told : c.all.result ≡ list_all flow_fits (zip s b.limits) = all_from_yields_List flow_fits c.all.new.self _ _ c.all.ensures.ran chain (λ x r q k. search (rules, tests)) in
    let kind = stated_by g.K.Kind.test g.K.Kind.lowest g.K.Kind.highest in
    let kept = kept_of b in (
      λ e. admitted_inside kind b.flows (lowers b.limits) (uppers b.limits) s kept c.if-schedule-eq-PERIODS.true (λ j h. all_inside s b.limits (sym told ∙ e) j (omega (arith, c.if-schedule-eq-PERIODS.true)) (omega (arith, b.rows))),
      λ a. told ∙ inside_all s b.limits (λ j h k. inside_admitted kind b.flows (lowers b.limits) (uppers b.limits) s kept a j (omega (arith, b.rows))),
    )
