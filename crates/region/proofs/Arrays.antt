-- An array made by a closure.
use Rattle.std.proofs.Common.{◌≡◌, ℕ, ◌+◌, ◌<◌, ◌≤◌, zero, suc, List, map, get_or, sym, refl, ap, ◌∙◌, subst, ⊎_elim, arith}
use Rattle.std.proofs.lemmas.Bool.{cases_eq}
use Rattle.std.proofs.lemmas.List.FromFn.{fill_by_all}
use Rattle.std.specs.List.{range_with_len}
use Rattle.std.specs.Array.{IsFromFnResult, IsFromFnResultFrom}
use Rattle.std.specs.Fn.{Called}
use denote.Param.Members.{Mut}

-- where each call gives h of its index and leaves the closure as it was, the array is h at each index
module _ {F B : Type 0} (g : Mut F (ℕ × Unit {0}) B) (f : F) (h : ℕ → B) (most : ℕ) (gives : (i : ℕ) (y : B) (q : F) → i < most → Called g f (i, tt) y q → (q ≡ f) × (y ≡ h i)) (ys : List B) (d : B) where
  along : (n i : ℕ) (p : F) → p ≡ f → i + n ≤ most → IsFromFnResultFrom g p ys i n → (k : ℕ) → i ≤ k → k < i + n → get_or ys k d ≡ h k
  along zero i p e l calls k a b = absurd (omega arith)
  along (suc n) i p e l calls k a b =
      let one = gives i calls.1 calls.0 (omega arith) (subst (λ (x : F). Called g x (i, tt) calls.1 calls.0) e calls.3) in
      ⊎_elim
      (λ (is : k ≡ i). ap (λ j. get_or ys j d) is ∙ calls.2.1 d ∙ one.1 ∙ ap h (sym is))
      (λ (ne : k ≡ i → ⊥). along n (i + 1) calls.0 one.0 (omega arith) calls.4 k (omega arith) (omega arith))
      (cases_eq k i)

  pub made : IsFromFnResult g f ys most → ys ≡ map h (range_with_len 0 most)
  made r = fill_by_all h ys most d r.long (λ k l. along most 0 f refl (omega arith) r.each k (omega arith) (omega arith))
