use Rattle.std.proofs.Common.{refl}
use Rattle.kinds.proofs.Sheets.{idle_within}
use Rattle.kinds.proofs.sheeted.Sheeted.new.Goals as goal

pub invariant_of-result : goal.invariant_of-result
invariant_of-result g c = record { long = refl; rows = refl; within = idle_within }
