use Rattle.std.proofs.Common.{◌≡◌, ℤ, pos, refl, ap, ◌∙◌, w32, to_z, of_z}
use Rattle.std.proofs.lemmas.Result.{MatchResult-at_ok}
use Rattle.equations.specs.Sums.{total}
use Rattle.figures.proofs.reserves.Goals as goal

pub returns : goal.returns
unfolding total
returns c =
    let s1 = c.full_source.ensures in
    let s2 = c.full_source-2.ensures in
    let s3 = c.full_source-3.ensures in
    let r1 : c.unwrap.result ≡ pos 247 = MatchResult-at_ok _ _ _ c.unwrap.ensures (simp (s1, s2) at c.reserve.ensures) in
    let r2 : c.unwrap-2.result ≡ pos 62 = MatchResult-at_ok _ _ _ c.unwrap-2.ensures (simp s3 at c.reserve-2.ensures) in
    let f1 : c.from.result ≡ pos 247 = c.from.ensures ∙ ap (λ (x : ℤ). to_z w32 (of_z w32 x)) r1 in
    let f2 : c.from-2.result ≡ pos 62 = c.from-2.ensures ∙ ap (λ (x : ℤ). to_z w32 (of_z w32 x)) r2 in
    rw (f1, f2) refl
