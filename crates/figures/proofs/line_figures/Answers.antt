use Rattle.std.proofs.Common.{◌≡◌, ℤ, pos, refl, ap, ◌∙◌, w64, to_z, of_z}
use Rattle.equations.specs.Capacities.{line_available, cut_at_0}
use Rattle.figures.proofs.line_figures.Goals as goal

pub returns : goal.returns
unfolding line_available
returns c =
    let e1 : c.cut.result ≡ pos 887 = c.cut.ensures ∙ ap (λ (x : ℤ). cut_at_0 (to_z w64 (of_z w64 x))) c.uncut_ntc.ensures in
    let e2 : c.atc.result ≡ pos 537 = c.atc.ensures in
    let e3 : c.atc-2.result ≡ pos 647 = c.atc-2.ensures in
    rw (e1, e2, e3) refl
