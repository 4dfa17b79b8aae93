-- How sums over the first n numbers combine.
use Rattle.std.proofs.Common.{◌≡◌, ℕ, zero, suc, ◌+◌, ◌<◌, ◌≤◌, Bool, true, false, ◌&&◌, eqb, ℤ, pos, ◌+ℤ◌, neg_ℤ, sym, refl, ap, ◌∙◌, ⊎_elim, add-one, arith}
use Rattle.std.proofs.lemmas.Int.{ints}
use Rattle.std.proofs.lemmas.Bool.{cases_eq, eq-eqb, ne_eqb, cond-true, cond-false}
use Rattle.zones.specs.Sums.{part, total}

pub part_add : (b : Bool) (x y : ℤ) → part b (x +ℤ y) ≡ part b x +ℤ part b y
part_add true x y = refl
part_add false x y = refl

pub part_neg : (b : Bool) (x : ℤ) → part b (neg_ℤ x) ≡ neg_ℤ (part b x)
part_neg true x = refl
part_neg false x = refl

pub part_and : (b c : Bool) (x : ℤ) → part (b && c) x ≡ part b (part c x)
part_and true c x = refl
part_and false c x = refl

pub part_swap : (b c : Bool) (x : ℤ) → part b (part c x) ≡ part c (part b x)
part_swap true true x = refl
part_swap true false x = refl
part_swap false true x = refl
part_swap false false x = refl

pub total_zero : (n : ℕ) → total n (λ _. pos 0) ≡ pos 0
unfolding total
total_zero zero = refl
total_zero (suc n) = omega (arith, ints, total_zero n)

pub total_start : (f : ℕ → ℤ) → total 0 f ≡ pos 0
unfolding total
total_start f = refl

pub total_more : (n : ℕ) (f : ℕ → ℤ) → total (n + 1) f ≡ total n f +ℤ f n
unfolding total
total_more n f = rw add-one refl

pub total_same : (n : ℕ) (f g : ℕ → ℤ) → ((k : ℕ) → k < n → f k ≡ g k) → total n f ≡ total n g
unfolding total
total_same zero f g e = refl
total_same (suc n) f g e =
    let a : total n f ≡ total n g = total_same n f g (λ k l. e k (omega arith)) in
    let b : f n ≡ g n = e n (omega arith) in
    omega (arith, ints)

pub total_add : (n : ℕ) (f g : ℕ → ℤ) → total n (λ k. f k +ℤ g k) ≡ total n f +ℤ total n g
unfolding total
total_add zero f g = refl
total_add (suc n) f g = let h = total_add n f g in omega (arith, ints)

pub total_neg : (n : ℕ) (f : ℕ → ℤ) → total n (λ k. neg_ℤ (f k)) ≡ neg_ℤ (total n f)
unfolding total
total_neg zero f = refl
total_neg (suc n) f = let h = total_neg n f in omega (arith, ints)

pub total_part : (n : ℕ) (b : Bool) (f : ℕ → ℤ) → total n (λ k. part b (f k)) ≡ part b (total n f)
total_part n true f = refl
total_part n false f = total_zero n

pub total_none : (n i : ℕ) (g : ℕ → ℤ) → n ≤ i → total n (λ k. part (eqb k i) (g k)) ≡ pos 0
total_none n i g l =
    total_same n _ (λ _. pos 0) (λ k m. cond-false (eqb k i) (g k) (pos 0) (ne_eqb k i (λ e. omega arith)))
    ∙ total_zero n

pub total_pick : (n i : ℕ) (g : ℕ → ℤ) → i < n → total n (λ k. part (eqb k i) (g k)) ≡ g i
unfolding total
total_pick zero i g l = absurd (omega arith)
total_pick (suc n) i g l =
    ⊎_elim
    (λ (e : n ≡ i).
    let a = total_none n i g (omega arith) in
    let b = cond-true (eqb n i) (g n) (pos 0) (eq-eqb n i e) in
    let d = ap g e in
    omega (arith, ints))
    (λ (ne : n ≡ i → ⊥).
    let a = total_pick n i g (omega arith) in
    let b = cond-false (eqb n i) (g n) (pos 0) (ne_eqb n i ne) in
    omega (arith, ints))
    (cases_eq n i)

pub total_swap : (n m : ℕ) (f : ℕ → ℕ → ℤ) → total n (λ i. total m (λ j. f i j)) ≡ total m (λ j. total n (λ i. f i j))
unfolding total
total_swap zero m f = sym (total_zero m)
total_swap (suc n) m f =
    let h = total_swap n m f in
    let a = total_add m (λ j. total n (λ i. f i j)) (λ j. f n j) in
    omega (arith, ints)
