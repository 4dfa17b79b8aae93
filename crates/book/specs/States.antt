-- The states of a day, and which calls they allow.
use Rattle.std.specs.Prelude.{◌≡◌, ◌⊎◌, ℤ, pos, Some, None, Option}
use Rattle.std.specs.Int.{int_max}
use Rattle.book.specs.declared.state.State.{State}
use Rattle.book.specs.declared.state.State.TheVariants.{Drafting, Offered, Matched, Waiting, Trading, Closed}
use Rattle.book.specs.declared.Call.{Call}
use Rattle.book.specs.declared.Call.TheVariants as call

-- sheets and limits: every state but Offered and Closed
abbrev pub after_sheet : State → Option State
after_sheet Drafting = Some Drafting
after_sheet Offered = None
after_sheet Matched = Some Matched
after_sheet Waiting = Some Waiting
after_sheet Trading = Some Trading
after_sheet Closed = None

abbrev pub after_offer : State → Option State
after_offer Drafting = Some Offered
after_offer Offered = None
after_offer Matched = None
after_offer Waiting = None
after_offer Trading = None
after_offer Closed = None

abbrev pub after_position : State → Option State
after_position Drafting = None
after_position Offered = Some Offered
after_position Matched = None
after_position Waiting = Some Waiting
after_position Trading = None
after_position Closed = None

abbrev pub after_adopt : State → Option State
after_adopt Drafting = None
after_adopt Offered = Some Matched
after_adopt Matched = None
after_adopt Waiting = Some Trading
after_adopt Trading = None
after_adopt Closed = None

abbrev pub after_gate : State → Option State
after_gate Drafting = None
after_gate Offered = Some Waiting
after_gate Matched = Some Trading
after_gate Waiting = None
after_gate Trading = None
after_gate Closed = None

abbrev pub after_end : State → Option State
after_end Drafting = None
after_end Offered = None
after_end Matched = None
after_end Waiting = Some Closed
after_end Trading = Some Closed
after_end Closed = None

-- the state after a call, if the call is allowed; asks always are
abbrev pub state_after : State → Call → Option State
state_after s (call.Sheet c p x) = after_sheet s
state_after s (call.Limit z p i e) = after_sheet s
state_after s call.Offer = after_offer s
state_after s (call.Position z p m) = after_position s
state_after s call.Adopt = after_adopt s
state_after s call.Gate = after_gate s
state_after s call.End = after_end s
state_after s (call.AskBorder c p) = Some s
state_after s (call.AskZone z p) = Some s

-- a day-ahead result has been adopted, and the day is open
abbrev pub OpenWithResult : State → Type 0
OpenWithResult s = (s ≡ Matched) ⊎ (s ≡ Trading)

-- what may be traded of a margin: 0 if it is negative, and nothing in Waiting and Closed
abbrev pub open_capacity : State → ℤ → ℤ
open_capacity Drafting m = int_max m (pos 0)
open_capacity Offered m = int_max m (pos 0)
open_capacity Matched m = int_max m (pos 0)
open_capacity Waiting m = pos 0
open_capacity Trading m = int_max m (pos 0)
open_capacity Closed m = pos 0

-- the call's own period; 0 where it has none
abbrev pub own_period : Call → ℤ
own_period (call.Sheet c p x) = p
own_period (call.Limit z p i e) = p
own_period call.Offer = pos 0
own_period (call.Position z p m) = p
own_period call.Adopt = pos 0
own_period call.Gate = pos 0
own_period call.End = pos 0
own_period (call.AskBorder c p) = p
own_period (call.AskZone z p) = p
