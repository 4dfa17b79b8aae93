use Rattle.std.proofs.Common.{refl}
use Rattle.figures.proofs.Margined.{figures_follow}
use Rattle.figures.proofs.worked.Goals as goal

pub returns : goal.returns
returns c =
    let m = c.margins.ensures in
    let r = c.reserves.ensures in
    let s = c.settlements.ensures in
    let l = c.line_figures.ensures in
    let b = c.derated_cable.ensures in
    let k = c.beside_a_take.ensures in
    simp (m, r, s, l, b, k) (figures_follow, refl)
