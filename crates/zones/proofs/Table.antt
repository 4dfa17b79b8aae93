-- The table of parents: those given stand behind the parent of zone 0, and zones beyond them have 0.
use Rattle.std.proofs.Common.{◌≡◌, ℕ, ◌+◌, ◌-◌, ◌<◌, ◌≤◌, List, [], ◌∷◌, ◌++◌, length, get_or, drop, replicate, sym, refl, ap, ◌∙◌, ⊎_elim, arith}
use Rattle.std.proofs.lemmas.List.{get_or_append_left, get_or-append_right, get_or-append-add, get_or_past, get_or-replicate, length-replicate, drop-replicate}
use Rattle.std.proofs.lemmas.Bool.{cases_lt}
use Rattle.zones.specs.Trees.{parent_in, AllowedBelow}

zero_in_zeros : (n k : ℕ) → get_or {A = ℕ} (replicate n 0) k 0 ≡ 0
zero_in_zeros n k = ⊎_elim
    (λ (l : k < n). get_or-replicate n k 0 0 l)
    (λ (l : n ≤ k). get_or_past (replicate n 0) k 0 (omega (arith, length-replicate {A = ℕ} n 0)))
    (cases_lt k n)

zeros_behind : (xs : List ℕ) (n k : ℕ) → get_or (xs ++ replicate n 0) k 0 ≡ get_or xs k 0
zeros_behind xs n k = ⊎_elim
    (λ (l : k < length xs). get_or_append_left xs (replicate n 0) 0 k l)
    (λ (l : length xs ≤ k). get_or-append_right xs (replicate n 0) (length xs) k 0 refl l ∙ zero_in_zeros n (k - length xs) ∙ sym (get_or_past xs k 0 l))
    (cases_lt k (length xs))

-- n of the 15 places behind that of zone 0 are overwritten by the parents given
pub parents_stand : (given written : List ℕ) (n z : ℕ) → written ≡ given → get_or (0 ∷ (written ++ drop n (replicate 15 0))) z 0 ≡ parent_in given z
parents_stand given written n z e =
    ap (λ xs. get_or (0 ∷ (written ++ xs)) z 0) (drop-replicate n 15 0)
    ∙ zeros_behind (0 ∷ written) (15 - n) z
    ∙ ap (λ xs. parent_in xs z) e

-- all have a smaller number, those beyond the parents given too
pub parents_ordered : (given : List ℕ) → AllowedBelow given (length given + 1) → (z : ℕ) → 1 ≤ z → parent_in given z < z
parents_ordered given allowed z l = ⊎_elim
    (λ (k : z < length given + 1). allowed z l k)
    (λ (k : length given + 1 ≤ z). let e = get_or_past (0 ∷ given) z 0 (omega arith) in omega arith)
    (cases_lt z (length given + 1))

-- the parent of zone i + 1 stands at place i
pub parent_next : (given : List ℕ) (i : ℕ) → parent_in given (i + 1) ≡ get_or given i 0
parent_next given i = ap (λ k. get_or (0 ∷ given) k 0) (omega arith) ∙ get_or-append-add (0 ∷ []) given i 0
