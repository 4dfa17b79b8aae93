-- What is reached below the margin, and where nothing is reached any more.
use Rattle.std.proofs.Common.{◌≡◌, ℕ, zero, suc, ◌*◌, ◌≤◌, ℤ, pos, negsuc, ◌+ℤ◌, ◌-ℤ◌, ◌*ℤ◌, neg_ℤ, nat_abs, ◌≤ℤ◌, refl, ap, ◌∙◌, inl, inr, mul-le-mul, arith}
use lib.IntN.{+ℤ_idr, +ℤ-suc_ℤ, suc_ℤ-*ℤ}
use lib.Signed.{quot_z}
use Rattle.std.proofs.lemmas.Int.{ints, by_lt_z}
use Rattle.equations.proofs.Fitting.{square_least, spreading, quotient_between}
use Rattle.equations.specs.Margins.{excess, square_bound_lem, spread, Reached, Greatest, AllowedSums}

square_grows : (a b : ℤ) → pos 0 ≤ℤ a → a ≤ℤ b → (a *ℤ a) ≤ℤ (b *ℤ b)
square_grows (pos a) (pos b) h k = let l : a ≤ b = omega (arith, ints) in let p = mul-le-mul l l in omega (arith, ints)
square_grows (pos a) (negsuc b) h k = absurd k.le
square_grows (negsuc a) b h k = absurd h.le

-- a product grows with its first factor
more_of : (a : ℤ) (k n : ℕ) → (a +ℤ pos k) *ℤ pos n ≡ a *ℤ pos n +ℤ pos (k * n)
more_of a zero n = ap (λ (x : ℤ). x *ℤ pos n) (+ℤ_idr a) ∙ omega (arith, ints)
more_of a (suc k) n =
    ap (λ (x : ℤ). x *ℤ pos n) (+ℤ-suc_ℤ a (pos k))
    ∙ suc_ℤ-*ℤ (a +ℤ pos k) (pos n)
    ∙ (let e = more_of a k n in omega (arith, ints))

excess_more : (n k : ℕ) (S u : ℤ) → excess (pos n) S (u +ℤ pos k) ≡ excess (pos n) S u +ℤ pos (2 * k * n)
excess_more n k S u =
    let e : pos 2 *ℤ (u +ℤ pos k) -ℤ pos 1 ≡ (pos 2 *ℤ u -ℤ pos 1) +ℤ pos (2 * k) = omega (arith, ints) in
    ap (λ (x : ℤ). x *ℤ pos n -ℤ pos 2 *ℤ S) e ∙ (let m = more_of (pos 2 *ℤ u -ℤ pos 1) (2 * k) n in omega (arith, ints))

excess_grows : (n S t u : ℤ) → pos 0 ≤ℤ n → u ≤ℤ t → excess n S u ≤ℤ excess n S t
excess_grows (pos n) S t u h k =
    let d : ℕ = nat_abs (t -ℤ u) in
    let e : t ≡ u +ℤ pos d = omega (arith, ints) in
    let m = excess_more n d S u in
    rw e (omega (arith, ints))
excess_grows (negsuc n) S t u h k = absurd h.le

pub reached_below : (n S B t u : ℤ) → pos 0 ≤ℤ n → u ≤ℤ t → Reached n S B t → Reached n S B u
reached_below n S B t u h k (inl low) = let g = excess_grows n S t u h k in inl (omega (arith, ints))
reached_below n S B t u h k (inr under) =
    let g = excess_grows n S t u h k in
    by_lt_z (pos 0) (excess n S u)
    (λ p. let q = square_grows (excess n S u) (excess n S t) (omega (arith, ints)) g in inr (omega (arith, ints)))
    (λ p. inl p)

-- no margin is below −2,000
pub low_reached : (n S B : ℤ) → neg_ℤ (pos 2000 *ℤ n) ≤ℤ S → pos 0 ≤ℤ n → Reached n S B (negsuc 1999)
low_reached n S B h k = inl (omega (arith, ints))

-- the last one that is reached is the greatest
pub last_reached : (n S B t : ℤ) → pos 0 ≤ℤ n → Reached n S B t → (Reached n S B (t +ℤ pos 1) → ⊥) → Greatest n S B t
last_reached n S B t h here beyond =
    record { reached = here; greatest = λ u r. by_lt_z t u (λ p. absurd (beyond (reached_below n S B u (t +ℤ pos 1) h (omega (arith, ints)) r))) (λ p. p) }

-- what is reached at most, in products of naturals
beyond : (k q : ℕ) (S : ℤ) → 2 ≤ k → q ≤ 4000000 * k → S ≤ℤ pos (2000 * k) → (v w x : ℤ) → v ≤ℤ pos (4 * (k * q)) → w ≤ℤ v → x ≡ pos (12383 * k) -ℤ pos 2 *ℤ S → (x *ℤ x) ≤ℤ (v +ℤ w) → ⊥
beyond k q S few most high v w x hv hw e under =
    let g : pos (8383 * k) ≤ℤ x = omega (arith, ints) in
    let s = square_grows (pos (8383 * k)) x (omega (arith, ints)) g in
    let p : k * q ≤ k * (4000000 * k) = mul-le-mul (omega arith) most in
    let z : 2 * 2 ≤ k * k = mul-le-mul few few in
    omega (arith, ints)

spread_most : (p q : ℤ) → pos 0 ≤ℤ q → (pos 4 *ℤ (p -ℤ q)) ≤ℤ (pos 4 *ℤ p)
spread_most p q h = omega (arith, ints)

-- no margin comes to 6,192
pub top_missed : (n S Q : ℤ) → AllowedSums n S Q → Reached n S (square_bound_lem n S Q) (pos 6192) → ⊥
top_missed (pos k) S (pos q) s (inl low) =
    let a = s.in_range.sum_most in let b = s.in_range.few in omega (arith, ints)
top_missed (pos k) S (pos q) s (inr under) =
    let f = spreading (pos k) S (pos q) s in
    let d = quotient_between (spread (pos k) S (pos q)) (pos k -ℤ pos 1) f.least (omega (arith, ints, s.in_range.few)) in
    beyond k q S (omega (arith, ints, s.in_range.few)) (omega (arith, ints, s.in_range.squares_most)) s.in_range.sum_most (spread (pos k) S (pos q)) (quot_z (spread (pos k) S (pos q)) (pos k -ℤ pos 1)) (excess (pos k) S (pos 6192)) (spread_most (pos (k * q)) (S *ℤ S) (square_least S)) d.1 refl under
top_missed (pos k) S (negsuc q) s r = absurd s.in_range.squares_least.le
top_missed (negsuc k) S Q s r = absurd s.in_range.few.le

-- there is one margin
pub greatest_once : (n S B t u : ℤ) → Greatest n S B t → Greatest n S B u → t ≡ u
greatest_once n S B t u a b =
    let h = a.greatest u b.reached in
    let k = b.greatest t a.reached in
    same t u h k
  where
    same : (t u : ℤ) → u ≤ℤ t → t ≤ℤ u → t ≡ u
    same t u h k = omega (arith, ints)
