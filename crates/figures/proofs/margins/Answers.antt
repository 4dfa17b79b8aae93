use Rattle.std.proofs.Common.{◌≡◌, ℤ, pos, neg_ℤ, refl, ap, ◌∙◌, w32, to_z, of_z}
use Rattle.std.proofs.lemmas.Result.{MatchResult-at_ok}
use Rattle.equations.proofs.Reaching.{greatest_once}
use Rattle.figures.proofs.Margined.{margin_1, margin_2, margin_3, margin_4}
use Rattle.figures.proofs.margins.Goals as goal

pub returns : goal.returns
returns c =
    let e1 = greatest_once _ _ _ _ _ (MatchResult-at_ok _ _ _ c.unwrap.ensures c.margin.ensures) margin_1 in
    let e2 = greatest_once _ _ _ _ _ (MatchResult-at_ok _ _ _ c.unwrap-2.ensures c.margin-2.ensures) margin_2 in
    let e3 = greatest_once _ _ _ _ _ (MatchResult-at_ok _ _ _ c.unwrap-3.ensures c.margin-3.ensures) margin_3 in
    let e4 = greatest_once _ _ _ _ _ (MatchResult-at_ok _ _ _ c.unwrap-4.ensures c.margin-4.ensures) margin_4 in
    let f1 : c.from.result ≡ pos 30 = c.from.ensures ∙ ap (λ (x : ℤ). to_z w32 (of_z w32 x)) e1 in
    let f2 : c.from-2.result ≡ pos 2 = c.from-2.ensures ∙ ap (λ (x : ℤ). to_z w32 (of_z w32 x)) e2 in
    let f3 : c.from-3.result ≡ pos 2 = c.from-3.ensures ∙ ap (λ (x : ℤ). to_z w32 (of_z w32 x)) e3 in
    let f4 : c.from-4.result ≡ neg_ℤ (pos 5) = c.from-4.ensures ∙ ap (λ (x : ℤ). to_z w32 (of_z w32 x)) e4 in
    rw (f1, f2, f3, f4) refl
