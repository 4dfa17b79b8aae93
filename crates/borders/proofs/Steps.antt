-- The steps of a schedule, from each flow to the next.
use Rattle.std.proofs.Common.{◌≡◌, ℕ, zero, suc, ◌-◌, ◌<◌, ◌≤◌, Bool, true, ◌&&◌, [], ◌∷◌, length, get_or, drop, ℤ, pos, ◌+ℤ◌, ◌≤ℤ◌, refl, arith}
use Rattle.std.specs.List.{list_all, zip}
use Rattle.std.proofs.lemmas.Int.{ints}
use Rattle.std.proofs.lemmas.Bool.{and_parts}
use Rattle.borders.specs.Day.{Schedule}
use Rattle.borders.specs.Limits.{step_within}
use Rattle.borders.specs.Ramps.{Step}

-- whether no step of a schedule is larger than R, up or down
abbrev pub steps_within : ℤ → Schedule → Bool
steps_within R s = list_all (λ p. step_within R p.0 p.1) (zip s (drop 1 s))

within_parts : (R x y : ℤ) → step_within R x y ≡ true → (y ≤ℤ (x +ℤ R)) × (x ≤ℤ (y +ℤ R))
within_parts R x y e = (grind (arith, ints), grind (arith, ints))

parts_within : (R x y : ℤ) → y ≤ℤ (x +ℤ R) → x ≤ℤ (y +ℤ R) → step_within R x y ≡ true
parts_within R x y h k = grind (arith, ints)

both : (x y : Bool) → x ≡ true → y ≡ true → (x && y) ≡ true
both x y e f = cc

-- the flow at the place after j
abbrev Next : ℤ → Schedule → ℕ → Type 0
Next R s j = (get_or s (suc j) (pos 0) ≤ℤ (get_or s j (pos 0) +ℤ R)) × (get_or s j (pos 0) ≤ℤ (get_or s (suc j) (pos 0) +ℤ R))

next_of : (R : ℤ) (s : Schedule) → steps_within R s ≡ true → (j : ℕ) → suc j < length s → Next R s j
next_of R [] e j h = absurd (omega arith)
next_of R (x ∷ []) e j h = absurd (omega arith)
next_of R (x ∷ (y ∷ s)) e zero h = within_parts R x y (and_parts (step_within R x y) (steps_within R (y ∷ s)) e).0
next_of R (x ∷ (y ∷ s)) e (suc j) h = next_of R (y ∷ s) (and_parts (step_within R x y) (steps_within R (y ∷ s)) e).1 j (omega arith)

all_next : (R : ℤ) (s : Schedule) → ((j : ℕ) → suc j < length s → Next R s j) → steps_within R s ≡ true
all_next R [] f = refl
all_next R (x ∷ []) f = refl
all_next R (x ∷ (y ∷ s)) f =
    let h = f zero (omega arith) in
    both (step_within R x y) (steps_within R (y ∷ s)) (parts_within R x y h.0 h.1) (all_next R (y ∷ s) (λ j k. f (suc j) (omega arith)))

pub steps_of : (R : ℤ) (s : Schedule) → steps_within R s ≡ true → (j : ℕ) → j < length s → 1 ≤ j → Step R s j
steps_of R s e zero h k = absurd (omega arith)
steps_of R s e (suc j) h k =
    let n = next_of R s e j h in
    let back : suc j - 1 ≡ j = omega arith in
    record { rise = rw back n.0; fall = rw back n.1 }

pub all_steps : (R : ℤ) (s : Schedule) → ((j : ℕ) → j < length s → 1 ≤ j → Step R s j) → steps_within R s ≡ true
all_steps R s f =
    all_next R s
    (λ j h. let st = f (suc j) h (omega arith) in
    let back : suc j - 1 ≡ j = omega arith in
    (rw back at st.rise, rw back at st.fall))
