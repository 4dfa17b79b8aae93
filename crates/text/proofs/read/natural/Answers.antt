-- Each refusal names what the digits of a number never are; the rest follows the loop's digits to the end.
use Rattle.std.proofs.Common.{◌≡◌, ◌<◌, length, get_or, sym, ◌∙◌, inl, inr, arith, rules}
use Rattle.std.proofs.lemmas.Bool.{eqb-false, eqb-true}
use Rattle.text.proofs.DigitLaws.{came_all, came_below, came_more, came_none, no_decimal_empty, no_decimal_large, no_decimal_long, no_decimal_other, no_decimal_zero}
use Rattle.text.proofs.read.natural.Goals as goal

pub returns-then-is_empty : goal.returns-then-is_empty
returns-then-is_empty c n small e =
    elim c.then-is_empty.either [
      | inl h ↦ no_decimal_empty _ n (eqb-true _ 0 (sym c.is_empty.ensures ∙ h)) small e
      | inr h ↦ no_decimal_long _ n h.1 small e
    ]

pub returns-then-digits-gt1 : goal.returns-then-digits-gt1
returns-then-digits-gt1 c n small e = no_decimal_zero _ n c.if-digits-eq48.true c.if-digits-gt1.true small e

pub returns-then-not-is_ascii_digit : goal.returns-then-not-is_ascii_digit
returns-then-not-is_ascii_digit c n small e =
    no_decimal_other _ n c.loop-d.d-index c.loop-d-test.true (search (rules, c.if-not-is_ascii_digit.ensures.cases)) small e

pub loop-d-init : goal.loop-d-init
loop-d-init c = came_none _

pub overflow_mul-value : goal.overflow_mul-value
overflow_mul-value c =
    let small = came_below _ _ _ c.loop-d.auto.d-index-end c.if-digits-gt-MOST_DIGITS.false c.loop-d.invariant in
    search rules

pub overflow_add-value : goal.overflow_add-value
overflow_add-value c =
    let small = came_below _ _ _ c.loop-d.auto.d-index-end c.if-digits-gt-MOST_DIGITS.false c.loop-d.invariant in
    search rules

pub loop-d-preserved : goal.loop-d-preserved
loop-d-preserved c = rw c.from.ensures (came_more _ _ _ c.loop-d-test.true c.if-not-is_ascii_digit.ensures.cases c.loop-d.invariant)

pub returns-then-value-gt-LARGEST : goal.returns-then-value-gt-LARGEST
returns-then-value-gt-LARGEST c n small e =
    no_decimal_large _ c.loop-d.d-index c.loop-d.value n c.loop-d-test.false (omega arith) c.loop-d.invariant small e

pub returns : goal.returns
returns c =
    let some : 0 < length c.args.digits.now = omega (arith, eqb-false _ 0 (sym c.if-is_empty.ensures)) in
    let lead : get_or c.args.digits.now 0 0 ≡ 48 → length c.args.digits.now ≡ 1 = λ h. omega (arith, c.else-digits-eq48.either) in
    (omega arith, came_all _ _ _ c.loop-d-test.false some c.if-digits-gt-MOST_DIGITS.false lead c.loop-d.invariant)
