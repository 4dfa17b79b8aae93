use Rattle.std.proofs.Common.{sym}
use Rattle.borders.proofs.Banked.{no_figure}
use Rattle.borders.proofs.bank.NoBordersBank.flow.Goals as goal

pub returns : goal.returns
returns c = sym (no_figure _)
