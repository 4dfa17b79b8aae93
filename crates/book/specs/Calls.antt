-- What a call on a region answers and does.
use Rattle.std.specs.Prelude.{◌≡◌, ℕ, ◌+◌, ◌<◌, ◌≤◌, List, [], ◌∷◌, length, ℤ, pos, Some, Result, MatchResult, slice_set, unsigned_abs, refl}
use Rattle.borders.specs.Border.{Meaning, flow_of, forward_of, backward_of, Admitted, with_schedule}
use Rattle.borders.specs.Answers.{Reassessed}
use Rattle.borders.specs.Bank.{border_at, OthersStay}
use Rattle.borders.specs.declared.Sheet.{Sheet}
use Rattle.book.specs.declared.fault.RegionFault.{RegionFault}
use Rattle.book.specs.declared.state.State.{State}
use Rattle.book.specs.declared.Answer.{Answer}
use Rattle.book.specs.declared.Answer.TheVariants as answer
use Rattle.book.specs.declared.AcceptedSheet.{AcceptedSheet}
use Rattle.book.specs.declared.ZoneRecord.{ZoneRecord}
use Rattle.book.specs.declared.Call.{Call}
use Rattle.book.specs.declared.Call.TheVariants as call
use Rattle.book.specs.States.{state_after, own_period, open_capacity}
use Rattle.book.specs.Limits.{LimitAllowed, PositionAllowed, judged_position, zone_overrun, staged_anew, limited_anew}
use Rattle.book.specs.Views.{View, Logged, Period, border_of, record_of, limit_of, net_of, with_state, with_records, with_borders, with_sheets}
use Rattle.book.specs.Grounds.{Ground, FirstHolds, AllClear, no_period, no_zone, no_border, bad_amount, fails_test, wrong_state, early_power_flow, full_log, uneven, target, not_admitting, limit_passed}

-- the grounds of each call in the order in which they are judged
abbrev pub grounds : View → Call → List Ground
grounds v (call.Sheet c p x) =
    no_period p ∷ no_border v.zones c p ∷ fails_test v c p x ∷ wrong_state v (call.Sheet c p x) (own_period (call.Sheet c p x)) ∷ early_power_flow v c p x ∷ full_log v.sheets p ∷ []
grounds v (call.Limit z p i e) =
    no_period p ∷ no_zone v.zones z p ∷ bad_amount (LimitAllowed i × LimitAllowed e) p ∷ wrong_state v (call.Limit z p i e) (own_period (call.Limit z p i e)) ∷ []
grounds v (call.Position z p m) =
    no_period p ∷ no_zone v.zones z p ∷ bad_amount (PositionAllowed m) p ∷ wrong_state v (call.Position z p m) (own_period (call.Position z p m)) ∷ []
grounds v call.Adopt =
    wrong_state v call.Adopt (own_period call.Adopt) ∷ uneven v.zones v.records ∷ not_admitting v.zones v.up v.borders v.records ∷ limit_passed v.zones v.records ∷ []
grounds v call.Offer = wrong_state v call.Offer (own_period call.Offer) ∷ []
grounds v call.Gate = wrong_state v call.Gate (own_period call.Gate) ∷ []
grounds v call.End = wrong_state v call.End (own_period call.End) ∷ []
grounds v (call.AskBorder c p) = no_period p ∷ no_border v.zones c p ∷ []
grounds v (call.AskZone z p) = no_period p ∷ no_zone v.zones z p ∷ []

-- of all that is kept of zones only the record of zone z in period p is another, r
pub record OnlyRecord (v w : View) (z : ℕ) (p : ℤ) (r : ZoneRecord) : Type 0 where
  pub this : record_of w z p ≡ r
  pub others : (y : ℕ) (q : ℤ) → Period q → ((y ≡ z) × (q ≡ p) → ⊥) → record_of w y q ≡ record_of v y q
  pub many : length w.records ≡ length v.records
  pub rest : w ≡ with_records v w.records

-- a record joins a log as the last: it takes the first free place of the memory, and all other memory stays
abbrev pub joined : {X : Type 0} → Logged X → X → Logged X
joined l x = record { memory = slice_set l.memory l.count x; count = l.count + 1 }

-- the sheet as it joins the log, with the flow of its border then
abbrev pub accepted_sheet : View → ℤ → ℤ → Sheet → AcceptedSheet
accepted_sheet v c p x = record { border = c; period = p; flow = flow_of (border_of v c) p; sheet = x }

-- an accepted sheet: its border reassesses, all others stay, and it joins the log
pub record Assessed (v w : View) (c p : ℤ) (x : Sheet) : Type 0 where
  pub reassessed : Reassessed (border_of v c) (border_of w c) x p
  pub others : OthersStay (unsigned_abs c) v.borders w.borders
  pub rest : w ≡ with_sheets (with_borders v w.borders) (joined v.sheets (accepted_sheet v c p x))

-- an adoption: every border admits and has the schedule that the staged positions give, and is as before otherwise
pub record Adopted (n : ℕ) (up : ℕ → ℕ) (rs : List ZoneRecord) (was new : List Meaning) : Type 0 where
  pub admits : (c : ℕ) → 1 ≤ c → c < n → Admitted (border_at was c) (target n up rs c)
  pub many : length new ≡ length was
  pub each : (c : ℕ) → 1 ≤ c → c < n → border_at new c ≡ with_schedule (border_at was c) (target n up rs c)
  pub none_else : (c : ℕ) → n ≤ c → border_at new c ≡ border_at was c

-- the state after the call is the one that the call leads to
abbrev pub InNextState : View → Call → View → View → Type 0
InNextState v call but_for_state w = (s : State) × (state_after v.state call ≡ Some s) × (w ≡ with_state but_for_state s)

-- what is told of a border: what may be traded each way, and the flow; and of a zone: its net position and overrun
abbrev pub open_forward : View → ℤ → ℤ → ℤ
open_forward v c p = open_capacity v.state (forward_of (border_of v c) p)

abbrev pub open_backward : View → ℤ → ℤ → ℤ
open_backward v c p = open_capacity v.state (backward_of (border_of v c) p)

abbrev pub overrun_of : View → ℕ → ℤ → ℤ
overrun_of v z p = zone_overrun (limit_of v z p) (judged_position (net_of v z p))

abbrev pub border_told : View → ℤ → ℤ → Answer
border_told v c p = answer.Border (open_forward v c p) (open_backward v c p) (flow_of (border_of v c) p)

abbrev pub zone_told : View → ℤ → ℤ → Answer
zone_told v z p = answer.Zone (net_of v (unsigned_abs z) p) (overrun_of v (unsigned_abs z) p)

-- the numbers of an answer in their order
abbrev pub values : Answer → List ℤ
values answer.Done = []
values (answer.Border forward backward flow) = forward ∷ backward ∷ flow ∷ []
values (answer.Zone net overrun) = net ∷ overrun ∷ []

-- the answer, with its numbers
abbrev pub Answers : (b : Answer) (xs : List ℤ) → values b ≡ xs → Answer → Type 0
Answers b xs has a = a ≡ b

-- what an accepted call answers, and the region and logs after it
abbrev pub Accepted : View → Call → Answer → View → Type 0
Accepted v (call.Sheet c p x) a w = Answers answer.Done [] refl a × Assessed v w c p x
Accepted v (call.Limit z p i e) a w = Answers answer.Done [] refl a × OnlyRecord v w (unsigned_abs z) p (limited_anew (record_of v (unsigned_abs z) p) (record { import = i; export = e }))
Accepted v (call.Position z p m) a w = Answers answer.Done [] refl a × OnlyRecord v w (unsigned_abs z) p (staged_anew (record_of v (unsigned_abs z) p) m)
Accepted v call.Adopt a w = Answers answer.Done [] refl a × Adopted v.zones v.up v.records v.borders w.borders × InNextState v call.Adopt (with_borders v w.borders) w
Accepted v call.Offer a w = Answers answer.Done [] refl a × InNextState v call.Offer v w
Accepted v call.Gate a w = Answers answer.Done [] refl a × InNextState v call.Gate v w
Accepted v call.End a w = Answers answer.Done [] refl a × InNextState v call.End v w
Accepted v (call.AskBorder c p) a w = Answers (border_told v c p) (open_forward v c p ∷ open_backward v c p ∷ flow_of (border_of v c) p ∷ []) refl a × (w ≡ v)
Accepted v (call.AskZone z p) a w = Answers (zone_told v z p) (net_of v (unsigned_abs z) p ∷ overrun_of v (unsigned_abs z) p ∷ []) refl a × (w ≡ v)

-- what a call did: accepted exactly if no ground holds, and then as defined; else the first ground that holds is told and nothing is altered
abbrev pub CallDid : View → Call → Result Answer RegionFault → View → Type 0
CallDid v call r w =
    MatchResult r
    (λ a. AllClear (grounds v call) × Accepted v call a w)
    (λ f. FirstHolds (grounds v call) f × (w ≡ v))

-- a call of which only the state is judged, and which does nothing but move on to the next
abbrev pub OnlyStateJudged : View → Call → Result Answer RegionFault → View → Type 0
OnlyStateJudged v call r w =
    MatchResult r
    (λ a. AllClear (wrong_state v call (pos 0) ∷ []) × (Answers answer.Done [] refl a × InNextState v call v w))
    (λ f. FirstHolds (wrong_state v call (pos 0) ∷ []) f × (w ≡ v))
