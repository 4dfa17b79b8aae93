-- The borders of the worked figures: what each is after its calls.
use Rattle.std.proofs.Common.{◌≡◌, ℤ, pos, neg_ℤ, IsOk, Ok, Err, Result, refl, ap, ◌∙◌, inl, arith}
use Rattle.std.proofs.lemmas.Int.{ints}
use Rattle.borders.specs.declared.Sheet.{Sheet}
use Rattle.borders.specs.Day.{figure_in}
use Rattle.borders.specs.Limits.{capped_by, lifted_by}
use Rattle.borders.specs.Answers.{TakeAnswer}
use Rattle.borders.specs.declared.BorderFault.{BorderFault}
use Rattle.borders.specs.Border.{Meaning, Stated, CanTake, forward_of, backward_of, ramped}
use Rattle.figures.specs.Worked.{cable_kind, given_kind, new, resheeted, cable_sheet_lem, wide_sheet_lem, derated_cable_lem, ramped_border}

pub sheeted_again : (kind : Stated) (p : ℤ) (was new known : Meaning) (t u : Sheet) → new ≡ resheeted kind was t p → was ≡ known → t ≡ u → new ≡ resheeted kind known u p
sheeted_again kind p was new known t u e d f = e ∙ ap (λ (b : Meaning). resheeted kind b t p) d ∙ ap (λ (s : Sheet). resheeted kind known s p) f

-- a move that can be taken is
pub take_accepted : (b after : Meaning) (p m : ℤ) (r : Result (Unit {0}) BorderFault) → CanTake b p m → TakeAnswer b p m r after → IsOk r
take_accepted b after p m (Ok u) can answer = refl
take_accepted b after p m (Err e) can answer = absurd (answer.0 can)

-- the cable before it is derated
abbrev pub full_cable : Meaning
full_cable = resheeted cable_kind (new cable_kind) (cable_sheet_lem (pos 500) (pos 500)) (pos 1)

-- the given border with wide limits in periods 4 and 5
abbrev pub wide_border : Meaning
wide_border = resheeted given_kind (resheeted given_kind (new given_kind) wide_sheet_lem (pos 4)) wide_sheet_lem (pos 5)

pub cable_takes : (b : Meaning) → b ≡ full_cable → CanTake b (pos 1) (pos 400)
unfolding figure_in
cable_takes b e =
    let f : forward_of b (pos 1) ≡ pos 500 = ap (λ (x : Meaning). forward_of x (pos 1)) e in
    inl (omega (arith, ints), omega (arith, ints))

pub ramp_takes : (b : Meaning) → b ≡ ramped (pos 200) wide_border → CanTake b (pos 5) (pos 200)
unfolding figure_in capped_by
ramp_takes b e =
    let f : forward_of b (pos 5) ≡ pos 200 = ap (λ (x : Meaning). forward_of x (pos 5)) e in
    inl (omega (arith, ints), omega (arith, ints))

pub derated_forward : (b : Meaning) → b ≡ derated_cable_lem → forward_of b (pos 1) ≡ neg_ℤ (pos 100)
unfolding figure_in
derated_forward b e = ap (λ (x : Meaning). forward_of x (pos 1)) e

pub derated_backward : (b : Meaning) → b ≡ derated_cable_lem → backward_of b (pos 1) ≡ pos 900
unfolding figure_in
derated_backward b e = ap (λ (x : Meaning). backward_of x (pos 1)) e

pub ramped_forward : (b : Meaning) → b ≡ ramped_border → forward_of b (pos 4) ≡ pos 200
unfolding figure_in capped_by
ramped_forward b e = ap (λ (x : Meaning). forward_of x (pos 4)) e

pub ramped_backward : (b : Meaning) → b ≡ ramped_border → backward_of b (pos 4) ≡ pos 0
unfolding figure_in lifted_by
ramped_backward b e = ap (λ (x : Meaning). backward_of x (pos 4)) e
