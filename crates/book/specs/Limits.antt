-- Amounts that calls may bring, and limits of zones.
use Rattle.std.specs.Prelude.{Bool, true, ◌&&◌, ℤ, pos, ◌-ℤ◌, neg_ℤ, ◌≤ℤ◌, Some, None, Option, int_le}
use Rattle.std.specs.Int.{int_max}
use Rattle.book.specs.declared.ZoneLimit.{ZoneLimit}
use Rattle.book.specs.declared.ZoneRecord.{ZoneRecord}

-- an import or export limit is 0 to 30,000
abbrev pub LimitAllowed : ℤ → Type 0
LimitAllowed m = (pos 0 ≤ℤ m) × (m ≤ℤ pos 30000)

-- a position lies within ±30,000
abbrev pub PositionAllowed : ℤ → Type 0
PositionAllowed m = (neg_ℤ (pos 30000) ≤ℤ m) × (m ≤ℤ pos 30000)

-- the position on which a zone's limit is judged: its exchange inside the region
abbrev pub judged_position : ℤ → ℤ
judged_position inside = inside

-- a position lies between −import and export; without a limit, anywhere
abbrev pub within_limit : Option ZoneLimit → ℤ → Bool
within_limit None x = true
within_limit (Some l) x = int_le (neg_ℤ l.import) x && int_le x l.export

-- how far a position lies beyond the limit, as for a border; 0 without one
abbrev pub zone_overrun : Option ZoneLimit → ℤ → ℤ
zone_overrun None x = pos 0
zone_overrun (Some l) x = int_max (pos 0) (int_max (x -ℤ l.export) (neg_ℤ l.import -ℤ x))

-- a zone's record with another staged position, and with another limit
abbrev pub staged_anew : ZoneRecord → ℤ → ZoneRecord
staged_anew r m = record { staged = m; limit = r.limit }

abbrev pub limited_anew : ZoneRecord → ZoneLimit → ZoneRecord
limited_anew r l = record { staged = r.staged; limit = Some l }
