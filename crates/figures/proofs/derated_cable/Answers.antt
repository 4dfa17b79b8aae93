use Rattle.std.proofs.Common.{◌≡◌, pos, neg_ℤ, refl, ap, ◌∙◌}
use Rattle.std.proofs.lemmas.Result.{MatchResult-at_ok}
use Rattle.borders.specs.Border.{Meaning, took}
use Rattle.kinds.specs.Sheets.{lowers, uppers, sheeted}
use Rattle.figures.specs.Worked.{cable_kind, new, derated_cable_lem}
use Rattle.figures.proofs.Bordered.{sheeted_again, full_cable, cable_takes, take_accepted, derated_forward, derated_backward}
use Rattle.figures.proofs.derated_cable.Goals as goal

pub returns : goal.returns
returns c =
    let e1 : sheeted cable_kind c.reassess.new.self.flows (lowers c.reassess.new.self.limits) (uppers c.reassess.new.self.limits) ≡ full_cable = sheeted_again cable_kind (pos 1) _ _ (new cable_kind) _ _ (MatchResult-at_ok _ _ _ c.unwrap.ensures c.reassess.ensures).1.follows c.make-border.ensures c.cable_sheet.ensures in
    let e2 : sheeted cable_kind c.take.new.self.flows (lowers c.take.new.self.limits) (uppers c.take.new.self.limits) ≡ took full_cable (pos 1) (pos 400) = (MatchResult-at_ok _ _ _ c.unwrap-2.ensures c.take.ensures).1 ∙ ap (λ (b : Meaning). took b (pos 1) (pos 400)) e1 in
    let e3 : sheeted cable_kind c.reassess-2.new.self.flows (lowers c.reassess-2.new.self.limits) (uppers c.reassess-2.new.self.limits) ≡ derated_cable_lem = sheeted_again cable_kind (pos 1) _ _ (took full_cable (pos 1) (pos 400)) _ _ (MatchResult-at_ok _ _ _ c.unwrap-3.ensures c.reassess-2.ensures).1.follows e2 c.cable_sheet-2.ensures in
    let f : c.margin-forward.result ≡ neg_ℤ (pos 100) = c.margin-forward.ensures ∙ derated_forward _ e3 in
    let g : c.margin-backward.result ≡ pos 900 = c.margin-backward.ensures ∙ derated_backward _ e3 in
    simp (c.beyond.ensures, c.tradable.ensures, c.tradable-2.ensures, f, g) refl

pub unwrap-requires-2 : goal.unwrap-requires-2
unwrap-requires-2 c =
    let e : sheeted cable_kind c.reassess.new.self.flows (lowers c.reassess.new.self.limits) (uppers c.reassess.new.self.limits) ≡ full_cable = sheeted_again cable_kind (pos 1) _ _ (new cable_kind) _ _ (MatchResult-at_ok _ _ _ c.unwrap.ensures c.reassess.ensures).1.follows c.make-border.ensures c.cable_sheet.ensures in
    take_accepted (sheeted cable_kind c.reassess.new.self.flows (lowers c.reassess.new.self.limits) (uppers c.reassess.new.self.limits)) (sheeted cable_kind c.take.new.self.flows (lowers c.take.new.self.limits) (uppers c.take.new.self.limits)) (pos 1) (pos 400) c.take.result (cable_takes _ e) c.take.ensures
