-- A region as seen, with both logs.
use Rattle.std.specs.Prelude.{List, ℤ, Result}
use Rattle.borders.specs.Border.{Meaning}
use Rattle.zones.specs.Trees.{zones, up}
use Rattle.logs.specs.declared.Log.{Log}
use Rattle.book.specs.declared.Deal.{Deal}
use Rattle.book.specs.declared.AcceptedSheet.{AcceptedSheet}
use Rattle.book.specs.declared.ZoneLimit.{ZoneLimit}
use Rattle.book.specs.declared.Answer.{Answer}
use Rattle.book.specs.declared.fault.RegionFault.{RegionFault}
use Rattle.book.specs.declared.Call.{Call}
use Rattle.book.specs.declared.Call.TheVariants.{Sheet as SheetOf, Limit, Position, Adopt, AskBorder, AskZone}
use Rattle.borders.specs.declared.Sheet.{Sheet}
use Rattle.book.specs.Views.{View, Logged, log_of}
use Rattle.book.specs.Calls.{CallDid, OnlyStateJudged}
use Rattle.region.specs.declared.region.Region.{Region}

abbrev pub logged : {X : Type 0} → Log X → Logged X
logged l = log_of l.slots.now l.count

abbrev pub seen : {B : Type 0} → (B → List Meaning) → Region B → Log Deal → Log AcceptedSheet → View
seen borders r deals sheets = record {
  zones = zones r.kept.tree;
  up = up r.kept.tree;
  borders = borders r.bank;
  records = r.kept.table.records;
  state = r.state;
  deals = logged deals;
  sheets = logged sheets;
}

-- what a call did that touches neither log, whatever the logs hold; and one of which only the state is judged
abbrev pub DidWithoutLogs : {B : Type 0} → (B → List Meaning) → Region B → Call → Result Answer RegionFault → Region B → Type 0
DidWithoutLogs borders was call r new = (deals : Log Deal) (sheets : Log AcceptedSheet) → CallDid (seen borders was deals sheets) call r (seen borders new deals sheets)

abbrev pub MovedWithoutLogs : {B : Type 0} → (B → List Meaning) → Region B → Call → Result Answer RegionFault → Region B → Type 0
MovedWithoutLogs borders was call r new = (deals : Log Deal) (sheets : Log AcceptedSheet) → OnlyStateJudged (seen borders was deals sheets) call r (seen borders new deals sheets)

-- the calls as they are written
abbrev pub sheet_call : ℤ → ℤ → Sheet → Call
sheet_call c p x = SheetOf c p x

abbrev pub adopt_call : Call
adopt_call = Adopt

abbrev pub limit_call : ℤ → ℤ → ℤ → ℤ → Call
limit_call z p i e = Limit z p i e

abbrev pub position_call : ℤ → ℤ → ℤ → Call
position_call z p m = Position z p m

abbrev pub ask_border_lem : ℤ → ℤ → Call
ask_border_lem c p = AskBorder c p

abbrev pub ask_zone_lem : ℤ → ℤ → Call
ask_zone_lem z p = AskZone z p

-- a limit of these two
abbrev pub limit_with : ℤ → ℤ → ZoneLimit
limit_with i e = record { import = i; export = e }
