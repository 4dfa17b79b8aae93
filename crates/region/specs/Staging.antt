-- What is staged in the zones of a region, and the grounds that it gives.
use Rattle.std.specs.Prelude.{ℕ, ◌<◌, ◌≤◌, List, ℤ}
use Rattle.borders.specs.Day.{Schedule}
use Rattle.borders.specs.Border.{Meaning, Admitted}
use Rattle.borders.specs.Bank.{border_at}
use Rattle.zones.specs.Trees.{zones, up}
use Rattle.book.specs.Grounds.{Ground, staged_in_all_lem, staged_behind_lem, target, uneven, not_admitting, limit_passed}
use Rattle.region.specs.declared.kept.KeptZones.{KeptZones}

-- c is one of the borders
abbrev pub HasBorder : KeptZones → ℕ → Type 0
HasBorder k c = (1 ≤ c) × (c < zones k.tree)

-- what is staged in all zones together in period p, and behind border c
abbrev pub sum_in_all : KeptZones → ℤ → ℤ
sum_in_all k p = staged_in_all_lem (zones k.tree) k.table.records p

abbrev pub sum_behind_border : KeptZones → ℕ → ℤ → ℤ
sum_behind_border k c p = staged_behind_lem (zones k.tree) (up k.tree) k.table.records c p

-- the schedule that adoption gives border c
abbrev pub schedule_of : KeptZones → ℕ → Schedule
schedule_of k c = target (zones k.tree) (up k.tree) k.table.records c

-- 23 and 25: the grounds on which staged positions are refused, and 24: on which borders refuse them
abbrev pub uneven_in : KeptZones → Ground
uneven_in k = uneven (zones k.tree) k.table.records

abbrev pub passed_in : KeptZones → Ground
passed_in k = limit_passed (zones k.tree) k.table.records

abbrev pub not_admitting_in : KeptZones → List Meaning → Ground
not_admitting_in k bs = not_admitting (zones k.tree) (up k.tree) bs k.table.records

-- every border admits its schedule
abbrev pub AllAdmit : KeptZones → List Meaning → Type 0
AllAdmit k bs = (c : ℕ) → 1 ≤ c → c < zones k.tree → Admitted (border_at bs c) (schedule_of k c)
