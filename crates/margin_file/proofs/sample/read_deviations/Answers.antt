-- A turn of the loop adds the next line's deviation or ends at it; after the last turn all lines have been read.
use Rattle.std.proofs.Common.{rules}
use Rattle.std.proofs.lemmas.List.{length_push}
use Rattle.std.proofs.lemmas.Result.{err_from_is_err_and}
use Rattle.margin_file.proofs.Reading.{Begun, ended, read_all, read_more, read_refused, turned}
use Rattle.margin_file.proofs.sample.read_deviations.Goals as goal

pub loop-line-preserved : goal.loop-line-preserved
loop-line-preserved c =
    let begun : Begun c.into_iter-line-iterator.result 100000 c.args.file.now = search rules in
    let turn = turned _ _ _ _ _ _ _ _ _ begun c.loop-line.yielded_by c.in-Some.is c.next.ensures.steps in
    rw length_push (read_more _ _ _ _ _ _ turn c.loop-line.invariant c.in_ok-add_line.ensures)

pub returns-in_err-add_line : goal.returns-in_err-add_line
returns-in_err-add_line c =
    let begun : Begun c.into_iter-line-iterator.result 100000 c.args.file.now = search rules in
    let turn = turned _ _ _ _ _ _ _ _ _ begun c.loop-line.yielded_by c.in-Some.is c.next.ensures.steps in
    let p = err_from_is_err_and c.from_residual.result c.from_residual.ensures.1 in
    rw (p.1, p.2) (read_refused _ _ _ _ _ _ turn c.loop-line.invariant c.in_err-add_line.ensures)

pub returns : goal.returns
returns c =
    let begun : Begun c.into_iter-line-iterator.result 100000 c.args.file.now = search rules in
    read_all _ _ _ (ended _ _ _ _ _ _ _ begun c.loop-line.yielded_by c.in-None.is c.next.ensures.steps) c.loop-line.invariant
