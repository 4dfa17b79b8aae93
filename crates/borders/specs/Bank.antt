-- Borders told by number from 1.
use Rattle.std.specs.Prelude.{◌≡◌, ℕ, ◌-◌, false, cond, List, [], ◌∷◌, length, ℤ, pos, IfErr, None, Ok, Err, Result, ◌==◌, ◌≢◌}
use Rattle.borders.specs.declared.BorderFault.{BorderFault}
use Rattle.borders.specs.declared.bank.BankFault.{BankFault}
use Rattle.borders.specs.Border.{Meaning}

-- no border: it has no period, and takes and admits nothing
abbrev pub nothing : Meaning
nothing = record { schedule = []; lower = λ _ _. pos 0; upper = λ _ _. pos 0; passes = λ _ _ _. false; stated = None }

-- the border with the number k, the first being 1; none beyond them, or at 0
abbrev pub border_at : List Meaning → ℕ → Meaning
border_at [] k = nothing
border_at (b ∷ bs) k = cond (k == 1) b (border_at bs (k - 1))

-- only border k may be another than before
pub record OthersStay (k : ℕ) (was new : List Meaning) : Type 0 where
  pub many : length new ≡ length was
  pub others : (c : ℕ) → (c ≢ k) → border_at new c ≡ border_at was c

-- the border's own answer inside the bank's
abbrev pub own_answer : Result (Unit {0}) BankFault → Result (Unit {0}) BorderFault
own_answer (Ok x) = Ok x
own_answer (Err e) = Err e.cause

-- a refusal names the border and the period
abbrev pub Named : ℕ → ℤ → Result (Unit {0}) BankFault → Type 0
Named k p r = IfErr r (λ e. (e.border ≡ k) × (e.period ≡ p))
