-- The bytes that the loop has passed are digits, and `value` is the number that they write.
use Rattle.text.proofs.DigitLaws.{Came}
use Rattle.text.proofs.read.natural.Given as goal

abbrev pub invariant-loop-d : goal.invariant-loop-d
invariant-loop-d l = Came l.digits l.d-index l.value
