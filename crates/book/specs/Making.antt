-- When a region can be made, and how it begins.
use Rattle.std.specs.Prelude.{◌≡◌, ℕ, ◌+◌, ◌*◌, ◌≤◌, Bool, true, false, List, length, replicate, pos, ◌≢◌}
use Rattle.borders.specs.Border.{Meaning, flow_of}
use Rattle.borders.specs.Bank.{border_at}
use Rattle.zones.specs.Trees.{parent_in, CountAllowed, ParentAllowed, AllowedBelow}
use Rattle.equations.specs.Grounds.{tells}
use Rattle.book.specs.Faults.{unmade_told}
use Rattle.book.specs.declared.fault.MakingFault.{MakingFault}
use Rattle.book.specs.declared.fault.MakingFault.TheVariants.{Count, Parent, Flow}
use Rattle.book.specs.declared.state.State.TheVariants.{Drafting}
use Rattle.book.specs.declared.Deal.{Deal}
use Rattle.book.specs.declared.AcceptedSheet.{AcceptedSheet}
use Rattle.book.specs.Views.{View, Logged, periods, blank}
use Rattle.book.specs.Grounds.{First}

-- 2 to 16 zones, one more than borders
abbrev pub CountsFit : List ℕ → List Meaning → Type 0
CountsFit given bs = CountAllowed given × (length given ≡ length bs)

-- the border has a flow in some period of the region's day
abbrev pub HasFlow : Meaning → Type 0
HasFlow b = (p : ℕ) × (1 ≤ p) × (p ≤ periods) × (flow_of b (pos p) ≢ pos 0)

abbrev pub WithoutFlow : Meaning → Type 0
WithoutFlow b = (p : ℕ) → 1 ≤ p → p ≤ periods → flow_of b (pos p) ≡ pos 0

-- what an answer says of a border's flows
abbrev pub FlowTold : Bool → Meaning → Type 0
FlowTold true b = HasFlow b
FlowTold false b = WithoutFlow b

-- when each fault is told, and what it tells: both counts are judged first, then the parents, then the borders, of which the lowest are told
abbrev pub UnfitAs : List ℕ → List Meaning → MakingFault → Type 0
UnfitAs given bs Count = (CountsFit given bs → ⊥) × (unmade_told Count ≡ tells 8 (pos 0) (pos 0))
UnfitAs given bs (Parent z) =
    CountsFit given bs × (1 ≤ z) × (z ≤ length given) × (ParentAllowed given z → ⊥) × AllowedBelow given z × (unmade_told (Parent z) ≡ tells 8 (pos z) (pos 0))
UnfitAs given bs (Flow c) =
    CountsFit given bs × AllowedBelow given (length given + 1) × First (λ d. HasFlow (border_at bs d)) 1 (length given + 1) c × (unmade_told (Flow c) ≡ tells 8 (pos c) (pos 0))

-- a region as made: nothing staged, no limits, in Drafting
abbrev pub as_made : List ℕ → List Meaning → Logged Deal → Logged AcceptedSheet → View
as_made given bs deals sheets = record {
  zones = length given + 1;
  up = parent_in given;
  borders = bs;
  records = replicate (16 * periods) blank;
  state = Drafting;
  deals = deals;
  sheets = sheets;
}

-- what must hold for a region to be made
pub record Fit (given : List ℕ) (bs : List Meaning) : Type 0 where
  pub counts : CountsFit given bs
  pub parents : AllowedBelow given (length given + 1)
  pub flows : (c : ℕ) → 1 ≤ c → c ≤ length given → WithoutFlow (border_at bs c)
