-- Ground 7: which answer is right where it applies, and where it does not.
use Rattle.std.proofs.Common.{◌≡◌, ℕ, suc, ◌+◌, ◌<◌, Bool, true, false, cond, ltb, List, length, Some, None, Ok, Err, refl, add-one, arith, ltb-false}
use Rattle.std.proofs.lemmas.List.Sums.{prefix_len-le-length}
use Rattle.std.proofs.lemmas.Bool.{lt-ltb, le-ltb}
use Rattle.std.specs.List.{prefix_len}
use Rattle.equations.specs.declared.fault.FigureFault.TheVariants.{Entry}
use Rattle.equations.specs.Grounds.{refused_at, Judged}

module _ {X R : Type 0} (P : R → Type 0) (whole : Bool) (allowed : X → Bool) (xs : List X) where
  pub judged_entry : (i : ℕ) → whole ≡ true → prefix_len allowed xs ≡ i → i < length xs → Judged (refused_at whole allowed xs) P (Err (Entry (i + 1)))
  judged_entry i e l h = let t = lt-ltb i (length xs) h in rw (e, l, t, add-one i) (refl, refl)

  pub judged_answer : (x : R) → whole ≡ true → prefix_len allowed xs ≡ length xs → P x → Judged (refused_at whole allowed xs) P (Ok x)
  judged_answer x e l p = let t : ltb (length xs) (length xs) ≡ false = le-ltb (length xs) (length xs) (omega arith) in rw (e, l, t) p

  -- where the answer is no refusal, every entry is allowed and it is as promised
  pub judged_ok : (x : R) → whole ≡ true → Judged (refused_at whole allowed xs) P (Ok x) → (prefix_len allowed xs ≡ length xs) × P x
  judged_ok x e j = by_test (ltb (prefix_len allowed xs) (length xs)) refl (rw e at j)
    where
      by_test : (t : Bool) → ltb (prefix_len allowed xs) (length xs) ≡ t → Judged (cond t (Some (suc (prefix_len allowed xs))) None) P (Ok x) → (prefix_len allowed xs ≡ length xs) × P x
      by_test true f k = absurd k
      by_test false f k = (omega (arith, ltb-false, prefix_len-le-length allowed xs), k)
