use Rattle.std.proofs.Common.{◌≡◌, slice_index_or, length, set, refl, ap, ◌∙◌, arith, rules}
use Rattle.std.proofs.lemmas.List.{get_or_default}
use Rattle.book.specs.Views.{blank}
use Rattle.region.proofs.table.ZoneTable.change.Goals as goal

pub returns-clause-changed : goal.returns-clause-changed
returns-clause-changed g c =
    let rs = c.args.self.now.records in
    let many : length rs ≡ 384 = search rules in
    let at = c.index-i.ensures.value in
    let shows = get_or_default rs c.index-i.result _ blank (omega arith) ∙ ap (λ i. slice_index_or rs i blank) at in
    (c.f.new.arg2, record { shown = _; shows = shows; left = _; met = c.f.ensures; leaves = refl }, ap (λ i. set rs i c.f.new.arg2) at)
