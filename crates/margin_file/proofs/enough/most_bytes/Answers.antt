-- 100,000 lines of 200 bytes have ended by then, or one of them is longer.
use Rattle.std.proofs.Common.{refl}
use Rattle.margin_file.proofs.Cutting.{enough_bytes}
use Rattle.margin_file.proofs.enough.most_bytes.Goals as goal

pub returns : goal.returns
returns c = record { value = refl; enough = enough_bytes }
