-- The lines so far write the deviations so far.
use Rattle.std.proofs.Common.{length, take, vec_items}
use Rattle.margin_file.specs.Samples.{read_lines, Written}
use Rattle.margin_file.proofs.sample.read_deviations.Given as goal

abbrev pub invariant-loop-line : goal.invariant-loop-line
invariant-loop-line l = Written (take (length l.yielded) (read_lines l.file)) (vec_items l.deviations)
