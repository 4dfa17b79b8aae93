-- A border over which nothing flows: one period, and limits 0.
use Rattle.std.specs.Prelude.{false, [], ◌∷◌, pos, None}
use Rattle.borders.specs.Border.{Meaning}

abbrev pub closed : Meaning
closed = record { schedule = pos 0 ∷ []; lower = λ _ _. pos 0; upper = λ _ _. pos 0; passes = λ _ _ _. false; stated = None }
