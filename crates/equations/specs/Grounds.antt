-- What a fault tells, by case, and when ground 7 applies.
use Rattle.std.specs.Prelude.{◌≡◌, ℕ, zero, suc, Bool, cond, List, length, ℤ, pos, Some, None, Option, Result, MatchResult, nat_lt}
use Rattle.std.specs.List.{prefix_len}
use Rattle.equations.specs.declared.fault.Told.{Told}
use Rattle.equations.specs.declared.fault.FigureFault.{FigureFault}
use Rattle.equations.specs.declared.fault.FigureFault.TheVariants.{Overall, Entry}

-- a fault with its ground, place and period
abbrev pub tells : ℕ → ℤ → ℤ → Told
tells k where_found when = record { number = k; place = where_found; period = when }

-- ground 7 at a place: 0 for a count or the down-regulation, else that of the first entry out of bounds, from 1
abbrev pub out_of_bounds : ℕ → Told
out_of_bounds at_place = tells 7 (pos at_place) (pos 0)

-- what each fault tells: every promise about a refusal is made with this
abbrev pub told : FigureFault → Told
told Overall = out_of_bounds 0
told (Entry n) = out_of_bounds n

-- the fault that is meant at a place
abbrev pub fault_at : ℕ → FigureFault
fault_at zero = Overall
fault_at (suc n) = Entry (suc n)

-- the place at which ground 7 applies, if it does: the whole is judged first, then the entries in order
abbrev pub refused_at : {X : Type 0} → Bool → (X → Bool) → List X → Option ℕ
refused_at whole_allowed allowed xs = cond whole_allowed (cond (nat_lt (prefix_len allowed xs) (length xs)) (Some (suc (prefix_len allowed xs))) None) (Some 0)

-- where ground 7 does not apply the answer is as promised, and where it does the refusal is the one of that place and tells so
abbrev pub Judged : {R : Type 0} → Option ℕ → (R → Type 0) → Result R FigureFault → Type 0
Judged None P r = MatchResult r P (λ _. ⊥)
Judged (Some at_place) P r = MatchResult r (λ _. ⊥) (λ e. (e ≡ fault_at at_place) × (told e ≡ out_of_bounds at_place))
