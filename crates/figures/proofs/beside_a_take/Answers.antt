use Rattle.std.proofs.Common.{◌≡◌, pos, refl, ap, ◌∙◌}
use Rattle.std.proofs.lemmas.Result.{MatchResult-at_ok}
use Rattle.borders.specs.Border.{Meaning, took, ramped}
use Rattle.kinds.specs.Sheets.{lowers, uppers, sheeted}
use Rattle.figures.specs.Worked.{given_kind, new, resheeted, ramped_border, wide_sheet_lem}
use Rattle.figures.proofs.Bordered.{sheeted_again, wide_border, ramp_takes, take_accepted, ramped_forward, ramped_backward}
use Rattle.figures.proofs.beside_a_take.Goals as goal

pub returns : goal.returns
returns c =
    let e1 : sheeted given_kind c.reassess.new.self.flows (lowers c.reassess.new.self.limits) (uppers c.reassess.new.self.limits) ≡ resheeted given_kind (new given_kind) wide_sheet_lem (pos 4) = sheeted_again given_kind (pos 4) _ _ (new given_kind) _ _ (MatchResult-at_ok _ _ _ c.unwrap.ensures c.reassess.ensures).1.follows c.make-below.ensures c.wide_sheet-wide.ensures in
    let e2 : sheeted given_kind c.reassess-2.new.self.flows (lowers c.reassess-2.new.self.limits) (uppers c.reassess-2.new.self.limits) ≡ wide_border = sheeted_again given_kind (pos 5) _ _ (resheeted given_kind (new given_kind) wide_sheet_lem (pos 4)) _ _ (MatchResult-at_ok _ _ _ c.unwrap-2.ensures c.reassess-2.ensures).1.follows e1 c.wide_sheet-wide.ensures in
    let e3 : ramped c.unwrap-border.result.rate (sheeted given_kind c.unwrap-border.result.below.flows (lowers c.unwrap-border.result.below.limits) (uppers c.unwrap-border.result.below.limits)) ≡ ramped (pos 200) wide_border = (MatchResult-at_ok _ _ _ c.unwrap-border.ensures c.new.ensures).1 ∙ ap (ramped (pos 200)) e2 in
    let e4 : ramped c.take.new.self.rate (sheeted given_kind c.take.new.self.below.flows (lowers c.take.new.self.below.limits) (uppers c.take.new.self.below.limits)) ≡ ramped_border = (MatchResult-at_ok _ _ _ c.unwrap-3.ensures c.take.ensures).1 ∙ ap (λ (b : Meaning). took b (pos 5) (pos 200)) e3 in
    let f : c.margin.result ≡ pos 200 = c.margin.ensures ∙ ramped_forward _ e4 in
    let g : c.margin-2.result ≡ pos 0 = c.margin-2.ensures ∙ ramped_backward _ e4 in
    simp (c.tradable.ensures, c.tradable-2.ensures, f, g) refl

pub unwrap-requires-3 : goal.unwrap-requires-3
unwrap-requires-3 c =
    let e1 : sheeted given_kind c.reassess.new.self.flows (lowers c.reassess.new.self.limits) (uppers c.reassess.new.self.limits) ≡ resheeted given_kind (new given_kind) wide_sheet_lem (pos 4) = sheeted_again given_kind (pos 4) _ _ (new given_kind) _ _ (MatchResult-at_ok _ _ _ c.unwrap.ensures c.reassess.ensures).1.follows c.make-below.ensures c.wide_sheet-wide.ensures in
    let e2 : sheeted given_kind c.reassess-2.new.self.flows (lowers c.reassess-2.new.self.limits) (uppers c.reassess-2.new.self.limits) ≡ wide_border = sheeted_again given_kind (pos 5) _ _ (resheeted given_kind (new given_kind) wide_sheet_lem (pos 4)) _ _ (MatchResult-at_ok _ _ _ c.unwrap-2.ensures c.reassess-2.ensures).1.follows e1 c.wide_sheet-wide.ensures in
    let e3 : ramped c.unwrap-border.result.rate (sheeted given_kind c.unwrap-border.result.below.flows (lowers c.unwrap-border.result.below.limits) (uppers c.unwrap-border.result.below.limits)) ≡ ramped (pos 200) wide_border = (MatchResult-at_ok _ _ _ c.unwrap-border.ensures c.new.ensures).1 ∙ ap (ramped (pos 200)) e2 in
    take_accepted (ramped c.unwrap-border.result.rate (sheeted given_kind c.unwrap-border.result.below.flows (lowers c.unwrap-border.result.below.limits) (uppers c.unwrap-border.result.below.limits))) (ramped c.take.new.self.rate (sheeted given_kind c.take.new.self.below.flows (lowers c.take.new.self.below.limits) (uppers c.take.new.self.below.limits))) (pos 5) (pos 200) c.take.result (ramp_takes _ e3) c.take.ensures
