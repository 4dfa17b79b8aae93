-- The grounds on which calls are refused, as conditions on what is seen, with the fault that each tells.
use Rattle.std.specs.Prelude.{◌≡◌, ℕ, ◌+◌, ◌<◌, ◌≤◌, false, ◌⊎◌, List, [], ◌∷◌, map, ℤ, pos, neg_ℤ, None, ◌≢◌, unsigned_abs, refl}
use Rattle.std.specs.List.{range_with_len}
use Rattle.borders.specs.Day.{Schedule}
use Rattle.borders.specs.Border.{Meaning, passing, Admitted}
use Rattle.borders.specs.Bank.{border_at}
use Rattle.borders.specs.declared.Sheet.{Sheet}
use Rattle.borders.specs.declared.BorderFault.{BorderFault}
use Rattle.borders.specs.declared.BorderFault.TheVariants.{Adopt, Reassess}
use Rattle.zones.specs.Sums.{total}
use Rattle.zones.specs.Ways.{sum_behind}
use Rattle.logs.specs.Entries.{capacity_of}
use Rattle.equations.specs.Grounds.{tells}
use Rattle.equations.specs.declared.fault.Told.{Told}
use Rattle.book.specs.Faults.{told, place_of}
use Rattle.book.specs.declared.fault.RegionFault.{RegionFault}
use Rattle.book.specs.declared.fault.RegionFault.TheVariants as fault
use Rattle.book.specs.declared.state.State.{State}
use Rattle.book.specs.declared.Call.{Call}
use Rattle.book.specs.declared.ZoneRecord.{ZoneRecord}
use Rattle.book.specs.States.{state_after, OpenWithResult}
use Rattle.book.specs.Limits.{within_limit, judged_position}
use Rattle.book.specs.Views.{View, Logged, Period, Zone, Border, periods, border_of, record_in}

-- a ground: the faults that it tells where it holds
abbrev pub Ground : Type 1
Ground = RegionFault → Type 0

-- the fault f, which tells the ground's number, the place and the period
abbrev pub ToldAs : (f : RegionFault) (t : Told) → told f ≡ t → Ground
ToldAs f t tells_so g = g ≡ f

-- a ground of one condition, with the fault that it tells
abbrev pub told_when : Type 0 → (f : RegionFault) (t : Told) → told f ≡ t → Ground
told_when holds f t tells_so = λ g. holds × ToldAs f t tells_so g

-- the ground does not hold
abbrev pub Clear : Ground → Type 0
Clear g = (f : RegionFault) → g f → ⊥

-- the fault is told by the first ground of the list that holds
abbrev pub FirstHolds : List Ground → RegionFault → Type 0
FirstHolds [] f = ⊥
FirstHolds (g ∷ gs) f = g f ⊎ (Clear g × FirstHolds gs f)

abbrev pub AllClear : List Ground → Type 0
AllClear [] = Unit {0}
AllClear (g ∷ gs) = Clear g × AllClear gs

-- 2: the period, and 3: the zone or border, must exist
abbrev pub no_period : ℤ → Ground
no_period p = told_when (Period p → ⊥) (fault.Period p) (tells 2 (pos 0) p) refl

abbrev pub no_zone : ℕ → ℤ → ℤ → Ground
no_zone n z p = told_when (Zone n z → ⊥) (fault.Missing z p) (tells 3 z p) refl

abbrev pub no_border : ℕ → ℤ → ℤ → Ground
no_border n c p = told_when (Border n c → ⊥) (fault.Missing c p) (tells 3 c p) refl

-- 5: the amount must be allowed
abbrev pub bad_amount : Type 0 → ℤ → Ground
bad_amount allowed p = told_when (allowed → ⊥) (fault.Amount p) (tells 5 (pos 0) p) refl

-- a border's own refusal, with its number and the period
abbrev pub refused_by : ℕ → ℤ → BorderFault → RegionFault
refused_by c p cause = fault.Border (record { border = c; period = p; cause = cause })

-- 6: the border's test must say yes to the sheet now
abbrev pub fails_test : View → ℤ → ℤ → Sheet → Ground
fails_test v c p x = told_when (passing (border_of v c) x p ≡ false) (refused_by (unsigned_abs c) p Reassess) (tells 6 (place_of (unsigned_abs c)) p) refl

-- 20: the state must allow the call
abbrev pub wrong_state : View → Call → ℤ → Ground
wrong_state v call p = told_when (state_after v.state call ≡ None) (fault.State p) (tells 20 (pos 0) p) refl

-- 21: a power flow other than 0 needs an adopted result
abbrev pub FlowsEarly : Sheet → State → Type 0
FlowsEarly x s = (x.power_flow ≢ pos 0) × (OpenWithResult s → ⊥)

abbrev pub early_power_flow : View → ℤ → ℤ → Sheet → Ground
early_power_flow v c p x = told_when (FlowsEarly x v.state) (fault.PowerFlow c p) (tells 21 c p) refl

-- 26: the log that the record would join must have a place left
abbrev pub full_log : {X : Type 0} → Logged X → ℤ → Ground
full_log l p = told_when (capacity_of l.memory ≤ l.count) (fault.Full p) (tells 26 (pos 0) p) refl

-- k is the first number from low, below high, of which P holds
pub record First (P : ℕ → Type 0) (low high k : ℕ) : Type 0 where
  pub from : low ≤ k
  pub below : k < high
  pub holds : P k
  pub first : (j : ℕ) → low ≤ j → j < k → P j → ⊥

-- what is staged for zone z in period p, in all n zones together, and behind border c
abbrev pub staged_in : List ZoneRecord → ℕ → ℤ → ℤ
staged_in rs z p = (record_in rs z p).staged

unfoldable pub staged_in_all_lem : ℕ → List ZoneRecord → ℤ → ℤ
staged_in_all_lem n rs p = total n (λ z. staged_in rs z p)

unfoldable pub staged_behind_lem : ℕ → (ℕ → ℕ) → List ZoneRecord → ℕ → ℤ → ℤ
staged_behind_lem n up rs c p = sum_behind n up c (λ z. staged_in rs z p)

-- the schedule that adoption gives border c: minus what is staged behind it, period by period
unfoldable pub target : ℕ → (ℕ → ℕ) → List ZoneRecord → ℕ → Schedule
target n up rs c = map (λ k. neg_ℤ (staged_behind_lem n up rs c (pos (k + 1)))) (range_with_len 0 periods)

-- 23: the staged positions of every period must sum to 0; the first period in which they do not is told
abbrev pub uneven : ℕ → List ZoneRecord → Ground
uneven n rs f = (p : ℕ) × First (λ q. staged_in_all_lem n rs (pos q) ≢ pos 0) 1 (periods + 1) p × ToldAs (fault.Uneven (pos p)) (tells 23 (pos 0) (pos p)) refl f

-- 24: every border must admit its schedule; the lowest that does not is told, with its own refusal
abbrev pub not_admitting : ℕ → (ℕ → ℕ) → List Meaning → List ZoneRecord → Ground
not_admitting n up bs rs f = (c : ℕ) × First (λ d. Admitted (border_at bs d) (target n up rs d) → ⊥) 1 n c × ToldAs (refused_by c (pos 0) Adopt) (tells 24 (place_of c) (pos 0)) refl f

-- a zone's staged position lies outside its limit
abbrev pub Outside : List ZoneRecord → ℕ → ℕ → Type 0
Outside rs p z = within_limit (record_in rs z (pos p)).limit (judged_position (staged_in rs z (pos p))) ≡ false

-- 25: every staged position must lie within its zone's limit; told is the first by period, then by number
abbrev pub limit_passed : ℕ → List ZoneRecord → Ground
limit_passed n rs f =
    (p : ℕ) × (z : ℕ)
    × First (λ q. (y : ℕ) × (y < n) × Outside rs q y) 1 (periods + 1) p
    × First (Outside rs p) 0 n z
    × ToldAs (fault.Limit (pos z) (pos p)) (tells 25 (pos z) (pos p)) refl f
