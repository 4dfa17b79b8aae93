-- Sums over lists: one entry more, and the square of a sum against the sum of squares.
use Rattle.std.proofs.Common.{◌≡◌, ℕ, zero, suc, ◌+◌, ◌-◌, ◌*◌, ◌<◌, ◌≤◌, List, [], ◌∷◌, ◌++◌, length, get_or, take, ℤ, pos, negsuc, ◌+ℤ◌, ◌*ℤ◌, ◌≤ℤ◌, sym, refl, ap, ◌∙◌, subst, arith}
use lib.IntN.{suc_ℤ-*ℤ, pred_ℤ-*ℤ, *ℤ_comm}
use Rattle.std.proofs.lemmas.List.{take_more}
use Rattle.std.proofs.lemmas.Int.{ints, by_lt_z}
use Rattle.equations.specs.Sums.{total}
use Rattle.equations.specs.Margins.{sum_of, squares_of}

pub total_none : {X : Type 0} (f : X → ℤ) → total f [] ≡ pos 0
unfolding total
total_none f = refl

total_push : {X : Type 0} (f : X → ℤ) (xs : List X) (x : X) → total f (xs ++ (x ∷ [])) ≡ total f xs +ℤ f x
unfolding total
total_push f [] x = omega (arith, ints)
total_push f (y ∷ xs) x = let e = total_push f xs x in omega (arith, ints)

pub total_more : {X : Type 0} (f : X → ℤ) (xs : List X) (i : ℕ) (d : X) → i < length xs → total f (take (i + 1) xs) ≡ total f (take i xs) +ℤ f (get_or xs i d)
total_more f xs i d h = ap (total f) (take_more xs i d h) ∙ total_push f (take i xs) (get_or xs i d)

-- ---- products of sums
times_sum : (d e s : ℤ) → d *ℤ (e +ℤ s) ≡ d *ℤ e +ℤ d *ℤ s
times_sum (pos zero) e s = omega (arith, ints)
times_sum (pos (suc n)) e s =
    let i = times_sum (pos n) e s in
    let p = suc_ℤ-*ℤ (pos n) (e +ℤ s) in
    let q = suc_ℤ-*ℤ (pos n) e in
    let r = suc_ℤ-*ℤ (pos n) s in
    omega (arith, ints)
times_sum (negsuc zero) e s =
    let p = pred_ℤ-*ℤ (pos zero) (e +ℤ s) in
    let q = pred_ℤ-*ℤ (pos zero) e in
    let r = pred_ℤ-*ℤ (pos zero) s in
    omega (arith, ints)
times_sum (negsuc (suc n)) e s =
    let i = times_sum (negsuc n) e s in
    let p = pred_ℤ-*ℤ (negsuc n) (e +ℤ s) in
    let q = pred_ℤ-*ℤ (negsuc n) e in
    let r = pred_ℤ-*ℤ (negsuc n) s in
    omega (arith, ints)

square_of_sum : (d s : ℤ) → (d +ℤ s) *ℤ (d +ℤ s) ≡ d *ℤ d +ℤ pos 2 *ℤ (d *ℤ s) +ℤ s *ℤ s
square_of_sum d s =
    joined ((d +ℤ s) *ℤ (d +ℤ s)) ((d +ℤ s) *ℤ d) ((d +ℤ s) *ℤ s) (d *ℤ d) (d *ℤ s) (s *ℤ d) (s *ℤ s)
    (times_sum (d +ℤ s) d s) (*ℤ_comm (d +ℤ s) d ∙ times_sum d d s) (*ℤ_comm (d +ℤ s) s ∙ times_sum s d s) (*ℤ_comm s d)
  where
    joined : (w p q dd ds sd ss : ℤ) → w ≡ p +ℤ q → p ≡ dd +ℤ ds → q ≡ sd +ℤ ss → sd ≡ ds → w ≡ dd +ℤ pos 2 *ℤ ds +ℤ ss
    joined w p q dd ds sd ss e f g h = omega (arith, ints)

twice_product : (a b : ℕ) → 2 * (a * b) ≤ a * a + b * b
twice_product a b = by_lt_z (pos a) (pos b) (λ h. ordered a b (omega (arith, ints))) (λ h. let o = ordered b a (omega (arith, ints)) in omega arith)
  where
    ordered : (a b : ℕ) → a ≤ b → 2 * (a * b) ≤ a * a + b * b
    ordered a b h = let e : b ≡ a + (b - a) = omega arith in subst (λ (n : ℕ). 2 * (a * n) ≤ a * a + n * n) (sym e) (omega arith)

pair : (d e : ℤ) → (pos 2 *ℤ (d *ℤ e)) ≤ℤ (d *ℤ d +ℤ e *ℤ e)
pair (pos a) (pos b) = let h = twice_product a b in omega (arith, ints)
pair (pos a) (negsuc b) = omega (arith, ints)
pair (negsuc a) (pos b) = omega (arith, ints)
pair (negsuc a) (negsuc b) = let h = twice_product (suc a) (suc b) in omega (arith, ints)

cross : (d : ℤ) (ds : List ℤ) → (pos 2 *ℤ (d *ℤ sum_of ds)) ≤ℤ (squares_of ds +ℤ pos (length ds) *ℤ (d *ℤ d))
unfolding total
cross d [] = let z = times_sum d (pos 0) (pos 0) in omega (arith, ints)
cross d (e ∷ ds) =
    let i = cross d ds in
    let p = pair d e in
    let q = times_sum d e (sum_of ds) in
    let r = suc_ℤ-*ℤ (pos (length ds)) (d *ℤ d) in
    omega (arith, ints)

-- S S ≤ n Q
pub square_covered : (ds : List ℤ) → (sum_of ds *ℤ sum_of ds) ≤ℤ (pos (length ds) *ℤ squares_of ds)
unfolding total
square_covered [] = omega (arith, ints)
square_covered (d ∷ ds) =
    let i = square_covered ds in
    let x = cross d ds in
    let s = square_of_sum d (sum_of ds) in
    let r = suc_ℤ-*ℤ (pos (length ds)) (d *ℤ d +ℤ squares_of ds) in
    let t = times_sum (pos (length ds)) (d *ℤ d) (squares_of ds) in
    omega (arith, ints)
