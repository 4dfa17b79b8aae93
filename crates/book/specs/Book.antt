-- The plain book of a day: it knows the region as made, and after that sees only the calls and their answers. (No contract cites it yet: deals and cancels, which are yet to come, enter it too.)
use Rattle.std.specs.Prelude.{ℕ, Bool, cond, ◌&&◌, nat_eq, List, [], ◌∷◌, ◌++◌, ℤ, pos, ◌+ℤ◌, ◌-ℤ◌, neg_ℤ, Some, None, Option, Ok, Err, Result, int_le, unsigned_abs}
use Rattle.borders.specs.declared.Sheet.{Sheet}
use Rattle.zones.specs.Sums.{part}
use Rattle.zones.specs.Ways.{sum_behind}
use Rattle.book.specs.declared.fault.RegionFault.{RegionFault}
use Rattle.book.specs.declared.Answer.{Answer}
use Rattle.book.specs.declared.Call.{Call}
use Rattle.book.specs.declared.Call.TheVariants as call
use Rattle.book.specs.declared.Deal.{Deal}
use Rattle.book.specs.declared.AcceptedSheet.{AcceptedSheet}
use Rattle.book.specs.declared.ZoneLimit.{ZoneLimit}
use Rattle.book.specs.Limits.{judged_position, zone_overrun}

-- the deals and sheets in order of entry; of each zone and period the limit if one was given, and the staged and the adopted position
pub record Book : Type 0 where
  pub deals : List Deal
  pub sheets : List AcceptedSheet
  pub limits : ℕ → ℤ → Option ZoneLimit
  pub staged : ℕ → ℤ → ℤ
  pub adopted : ℕ → ℤ → ℤ

-- a new book has no deals, sheets or zone limits, and every position in it is 0
abbrev pub new_book : Book
new_book = record { deals = []; sheets = []; limits = λ _ _. None; staged = λ _ _. pos 0; adopted = λ _ _. pos 0 }

abbrev pub same : ℤ → ℤ → Bool
same x y = int_le x y && int_le y x

-- what a deal moves in zone z in period p while it stands: what is sold there leaves it, what is bought comes in
abbrev pub dealt : Deal → ℕ → ℤ → ℤ
dealt d z p = part (d.standing && same d.period p) (part (same d.seller (pos z)) d.mw -ℤ part (same d.buyer (pos z)) d.mw)

unfoldable pub dealt_in_all : List Deal → ℕ → ℤ → ℤ
dealt_in_all [] z p = pos 0
dealt_in_all (d ∷ ds) z p = dealt d z p +ℤ dealt_in_all ds z p

-- the net position of zone z by the book: its adopted position and the standing deals
abbrev pub booked_position : Book → ℕ → ℤ → ℤ
booked_position b z p = b.adopted z p +ℤ dealt_in_all b.deals z p

-- the overrun of zone z by the book follows from its limit and its net position
abbrev pub booked_overrun : Book → ℕ → ℤ → ℤ
booked_overrun b z p = zone_overrun (b.limits z p) (judged_position (booked_position b z p))

-- the flow of border c by the book, in a region of n zones with these parents: minus the net positions behind it
abbrev pub booked_flow : ℕ → (ℕ → ℕ) → Book → ℕ → ℤ → ℤ
booked_flow n up b c p = neg_ℤ (sum_behind n up c (λ z. booked_position b z p))

-- a figure of each zone and period, with another for zone z and period p
abbrev pub with_figure : {X : Type 0} → (ℕ → ℤ → X) → ℕ → ℤ → X → ℕ → ℤ → X
with_figure f z p x = λ y q. cond (nat_eq y z && same q p) x (f y q)

-- the sheet as the book enters it, with the flow that the book has then
abbrev pub booked_sheet : ℕ → (ℕ → ℕ) → Book → ℤ → ℤ → Sheet → AcceptedSheet
booked_sheet n up b c p x = record { border = c; period = p; flow = booked_flow n up b (unsigned_abs c) p; sheet = x }

-- the book after an accepted call; offer, gate, end and asks change nothing in it
abbrev pub entered : ℕ → (ℕ → ℕ) → Book → Call → Book
entered n up b (call.Sheet c p x) = record { deals = b.deals; sheets = b.sheets ++ (booked_sheet n up b c p x ∷ []); limits = b.limits; staged = b.staged; adopted = b.adopted }
entered n up b (call.Limit z p i e) =
    record { deals = b.deals; sheets = b.sheets; limits = with_figure b.limits (unsigned_abs z) p (Some (record { import = i; export = e })); staged = b.staged; adopted = b.adopted }
entered n up b (call.Position z p m) = record { deals = b.deals; sheets = b.sheets; limits = b.limits; staged = with_figure b.staged (unsigned_abs z) p m; adopted = b.adopted }
entered n up b call.Adopt = record { deals = b.deals; sheets = b.sheets; limits = b.limits; staged = b.staged; adopted = b.staged }
entered n up b call.Offer = b
entered n up b call.Gate = b
entered n up b call.End = b
entered n up b (call.AskBorder c p) = b
entered n up b (call.AskZone z p) = b

-- the book after a call: a refused one changes nothing in it
abbrev pub book_after : ℕ → (ℕ → ℕ) → Book → Call → Result Answer RegionFault → Book
book_after n up b c (Ok a) = entered n up b c
book_after n up b c (Err f) = b
