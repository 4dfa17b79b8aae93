-- What each fault of a region tells, by case.
use Rattle.std.specs.Prelude.{◌≡◌, ℕ, min, ℤ, pos, refl}
use Rattle.equations.specs.Grounds.{tells}
use Rattle.equations.specs.declared.fault.Told.{Told}
use Rattle.borders.specs.declared.BorderFault.{BorderFault}
use Rattle.borders.specs.declared.BorderFault.TheVariants.{Take, Adopt, Reassess}
use Rattle.borders.specs.declared.bank.BankFault.{BankFault}
use Rattle.zones.specs.Trees.{told as tree_told}
use Rattle.zones.specs.declared.tree.TreeFault.{TreeFault}
use Rattle.zones.specs.declared.tree.TreeFault.TheVariants.{Count as TreeCount, Parent as TreeParent}
use Rattle.book.specs.declared.fault.MakingFault.{MakingFault}
use Rattle.book.specs.declared.fault.MakingFault.TheVariants.{Count, Parent, Flow}
use Rattle.book.specs.declared.fault.RegionFault.{RegionFault}
use Rattle.book.specs.declared.fault.RegionFault.TheVariants as fault

-- a border's own refusal inside the region's
abbrev pub of_border : BankFault → RegionFault
of_border f = fault.Border f

-- the refusal of a call that the state does not allow
abbrev pub of_state : ℤ → RegionFault
of_state p = fault.State p

-- the ground of a border's own refusal
abbrev pub ground_of_lem : BorderFault → ℕ
ground_of_lem Reassess = 6
ground_of_lem (Take m) = 24
ground_of_lem Adopt = 24

-- the number of a border as a place (as far as a machine number reaches: no region has so many borders)
abbrev pub place_of : ℕ → ℤ
place_of c = pos (min c 2147483647)

-- number, place (0 where none is named) and period of each fault: every promise about a refusal is made with this
abbrev pub told : RegionFault → Told
told (fault.Period p) = tells 2 (pos 0) p
told (fault.Missing k p) = tells 3 k p
told (fault.SameZone z p) = tells 4 z p
told (fault.Amount p) = tells 5 (pos 0) p
told (fault.Border f) = tells (ground_of_lem f.cause) (place_of f.border) f.period
told (fault.State p) = tells 20 (pos 0) p
told (fault.PowerFlow c p) = tells 21 c p
told (fault.Deal k) = tells 22 k (pos 0)
told (fault.Uneven p) = tells 23 (pos 0) p
told (fault.Limit z p) = tells 25 z p
told (fault.Full p) = tells 26 (pos 0) p

-- a refused tree inside the refusal of a region
abbrev pub of_tree : TreeFault → MakingFault
of_tree TreeCount = Count
of_tree (TreeParent z) = Parent z

-- what the refusal of a region tells: ground 8, with the zone or border
abbrev pub unmade_told : MakingFault → Told
unmade_told Count = tells 8 (pos 0) (pos 0)
unmade_told (Parent z) = tells 8 (pos z) (pos 0)
unmade_told (Flow c) = tells 8 (pos c) (pos 0)

-- a refused tree tells the same inside the refusal of a region
pub lifting_keeps_what_is_told : (f : TreeFault) → unmade_told (of_tree f) ≡ tree_told f
lifting_keeps_what_is_told TreeCount = refl
lifting_keeps_what_is_told (TreeParent z) = refl
