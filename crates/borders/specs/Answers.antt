-- What the calls on a border answer, with its meaning before and after.
use Rattle.std.specs.Prelude.{◌≡◌, Bool, true, false, cond, ◌&&◌, ℤ, IfSome, Result, MatchResult, ◌≢◌, int_le}
use Rattle.borders.specs.declared.Sheet.{Sheet}
use Rattle.borders.specs.declared.BorderFault.{BorderFault}
use Rattle.borders.specs.declared.BorderFault.TheVariants.{Take, Adopt, Reassess}
use Rattle.borders.specs.Day.{Schedule}
use Rattle.borders.specs.Border.{Meaning, Rule, flow_of, passing, CanTake, margin_met, Admitted, with_schedule, took}

abbrev pub same_period : ℤ → ℤ → Bool
same_period q p = int_le q p && int_le p q

-- a rule with another limit in period p
abbrev pub with_limit : Rule → ℤ → (Schedule → ℤ) → Rule
with_limit rule p limit = λ s q. cond (same_period q p) (limit s) (rule s q)

-- the border with other limits in period p
abbrev pub with_limits : Meaning → ℤ → (Schedule → ℤ) → (Schedule → ℤ) → Meaning
with_limits b p lo hi = record { schedule = b.schedule; lower = with_limit b.lower p lo; upper = with_limit b.upper p hi; passes = b.passes; stated = b.stated }

-- after an accepted sheet for period p: schedule, test, statement and the rules for other periods stay, and where the limits are stated, the limits in p are those that the sheet gives at the present flow
pub record Reassessed (was new : Meaning) (sheet : Sheet) (p : ℤ) : Type 0 where
  pub schedule : new.schedule ≡ was.schedule
  pub passes : new.passes ≡ was.passes
  pub stated : new.stated ≡ was.stated
  pub upper : (s : Schedule) (q : ℤ) → (q ≢ p) → new.upper s q ≡ was.upper s q
  pub lower : (s : Schedule) (q : ℤ) → (q ≢ p) → new.lower s q ≡ was.lower s q
  pub follows : IfSome was.stated (λ t. new ≡ with_limits was p (λ s. t.lower sheet (flow_of was p) s p) (λ s. t.upper sheet (flow_of was p) s p))

-- whether m may be taken, or the refusal that a take meets
abbrev pub MayTake : Meaning → ℤ → ℤ → Result (Unit {0}) BorderFault → Type 0
MayTake b p m r = MatchResult r (λ _. CanTake b p m) (λ e. (CanTake b p m → ⊥) × (e ≡ Take (margin_met b p m)))

-- whether a schedule would be adopted, and a sheet be accepted, or the refusal that it would meet
abbrev pub MayAdopt : Meaning → Schedule → Result (Unit {0}) BorderFault → Type 0
MayAdopt b s r = MatchResult r (λ _. Admitted b s) (λ e. (Admitted b s → ⊥) × (e ≡ Adopt))

abbrev pub MayReassess : Meaning → Sheet → ℤ → Result (Unit {0}) BorderFault → Type 0
MayReassess b sheet p r = MatchResult r (λ _. passing b sheet p ≡ true) (λ e. (passing b sheet p ≡ false) × (e ≡ Reassess))

-- take, adopt and reassess: accepted exactly if, and what is then; else refused by name, and nothing is altered
abbrev pub TakeAnswer : Meaning → ℤ → ℤ → Result (Unit {0}) BorderFault → Meaning → Type 0
TakeAnswer was p m r new =
    MatchResult r
    (λ _. CanTake was p m × (new ≡ took was p m))
    (λ e. (CanTake was p m → ⊥) × (e ≡ Take (margin_met was p m)) × (new ≡ was))

abbrev pub AdoptAnswer : Meaning → Schedule → Result (Unit {0}) BorderFault → Meaning → Type 0
AdoptAnswer was s r new =
    MatchResult r
    (λ _. Admitted was s × (new ≡ with_schedule was s))
    (λ e. (Admitted was s → ⊥) × (e ≡ Adopt) × (new ≡ was))

abbrev pub ReassessAnswer : Meaning → Sheet → ℤ → Result (Unit {0}) BorderFault → Meaning → Type 0
ReassessAnswer was sheet p r new =
    MatchResult r
    (λ _. (passing was sheet p ≡ true) × Reassessed was new sheet p)
    (λ e. (passing was sheet p ≡ false) × (e ≡ Reassess) × (new ≡ was))
