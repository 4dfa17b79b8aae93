-- A day of a region as a relation: it begins as made, and each call did what it does to what was seen before it. (No contract cites it yet: deals and cancels are yet to come.)
use Rattle.std.specs.Prelude.{ℕ, List, [], ◌∷◌, Result}
use Rattle.borders.specs.Border.{Meaning}
use Rattle.book.specs.declared.fault.RegionFault.{RegionFault}
use Rattle.book.specs.declared.Answer.{Answer}
use Rattle.book.specs.declared.Call.{Call}
use Rattle.book.specs.declared.Deal.{Deal}
use Rattle.book.specs.declared.AcceptedSheet.{AcceptedSheet}
use Rattle.book.specs.Views.{View, Logged}
use Rattle.book.specs.Making.{Fit, as_made}
use Rattle.book.specs.Calls.{CallDid}
use Rattle.book.specs.Book.{Book, new_book, book_after}

-- a moment of a day: a call, its answer, and what is seen of the region and both logs after it
pub record Moment : Type 0 where
  pub call : Call
  pub answer : Result Answer RegionFault
  pub after : View

-- the moments follow one another from what is seen at first
abbrev pub Follows : View → List Moment → Type 0
Follows v [] = Unit {0}
Follows v (m ∷ ms) = CallDid v m.call m.answer m.after × Follows m.after ms

-- a day of a region as made of these parents and borders
pub record Day (given : List ℕ) (bs : List Meaning) (deals : Logged Deal) (sheets : Logged AcceptedSheet) (moments : List Moment) : Type 0 where
  pub fit : Fit given bs
  pub follows : Follows (as_made given bs deals sheets) moments

-- what is seen at the end
abbrev pub at_end : View → List Moment → View
at_end v [] = v
at_end v (m ∷ ms) = at_end m.after ms

-- the plain book at the end, in a region of n zones with these parents
abbrev pub book_from : ℕ → (ℕ → ℕ) → Book → List Moment → Book
book_from n up b [] = b
book_from n up b (m ∷ ms) = book_from n up (book_after n up b m.call m.answer) ms

abbrev pub book_at_end : ℕ → (ℕ → ℕ) → List Moment → Book
book_at_end n up ms = book_from n up new_book ms
