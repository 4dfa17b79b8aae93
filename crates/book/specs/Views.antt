-- A region and its logs at one moment, as plain mathematics.
use Rattle.std.specs.Prelude.{ℕ, ◌+◌, ◌*◌, List, ℤ, pos, ◌≤ℤ◌, ◌<ℤ◌, None, Option, slice_index_or, unsigned_abs}
use Rattle.borders.specs.Day.{place, Period as DayPeriod}
use Rattle.borders.specs.Border.{Meaning, flow_of}
use Rattle.borders.specs.Bank.{border_at}
use Rattle.zones.specs.Ways.{net_of_flows}
use Rattle.book.specs.declared.state.State.{State}
use Rattle.book.specs.declared.Deal.{Deal}
use Rattle.book.specs.declared.AcceptedSheet.{AcceptedSheet}
use Rattle.book.specs.declared.ZoneLimit.{ZoneLimit}
use Rattle.book.specs.declared.ZoneRecord.{ZoneRecord}

-- how many periods a day has
abbrev pub periods : ℕ
periods = 24

-- a log: the memory lent to it, and how many records it holds
pub record Logged (X : Type 0) : Type 0 where
  pub memory : List X
  pub count : ℕ

abbrev pub log_of : {X : Type 0} → List X → ℕ → Logged X
log_of xs n = record { memory = xs; count = n }

-- a region and both logs
pub record View : Type 0 where
  pub zones : ℕ
  pub up : ℕ → ℕ
  pub borders : List Meaning
  pub records : List ZoneRecord
  pub state : State
  pub deals : Logged Deal
  pub sheets : Logged AcceptedSheet

-- p is one of the day's periods
abbrev pub Period : ℤ → Type 0
Period p = DayPeriod periods p

abbrev pub Zone : ℕ → ℤ → Type 0
Zone n z = (pos 0 ≤ℤ z) × (z <ℤ pos n)

-- zone 0 has no border of its own
abbrev pub Border : ℕ → ℤ → Type 0
Border n c = (pos 1 ≤ℤ c) × (c <ℤ pos n)

abbrev pub border_of : View → ℤ → Meaning
border_of v c = border_at v.borders (unsigned_abs c)

-- where the record of a zone and period stands
abbrev pub slot : ℕ → ℤ → ℕ
slot z p = z * periods + place p

-- a zone's record before any call
abbrev pub blank : ZoneRecord
blank = record { staged = pos 0; limit = None }

abbrev pub record_in : List ZoneRecord → ℕ → ℤ → ZoneRecord
record_in rs z p = slice_index_or rs (slot z p) blank

abbrev pub record_of : View → ℕ → ℤ → ZoneRecord
record_of v z p = record_in v.records z p

abbrev pub limit_of : View → ℕ → ℤ → Option ZoneLimit
limit_of v z p = (record_of v z p).limit

-- the net position of zone z as the flows of the borders leave it
abbrev pub net_of : View → ℕ → ℤ → ℤ
net_of v z p = net_of_flows v.zones v.up (λ c. flow_of (border_at v.borders c) p) z

-- the same region and logs but for one part
abbrev pub with_state : View → State → View
with_state v s = record { zones = v.zones; up = v.up; borders = v.borders; records = v.records; state = s; deals = v.deals; sheets = v.sheets }

abbrev pub with_records : View → List ZoneRecord → View
with_records v rs = record { zones = v.zones; up = v.up; borders = v.borders; records = rs; state = v.state; deals = v.deals; sheets = v.sheets }

abbrev pub with_borders : View → List Meaning → View
with_borders v bs = record { zones = v.zones; up = v.up; borders = bs; records = v.records; state = v.state; deals = v.deals; sheets = v.sheets }

abbrev pub with_sheets : View → Logged AcceptedSheet → View
with_sheets v l = record { zones = v.zones; up = v.up; borders = v.borders; records = v.records; state = v.state; deals = v.deals; sheets = l }
