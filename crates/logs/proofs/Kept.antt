-- How the records follow the memory: the first n of it; and the records that stay where one of them is changed.
use Rattle.std.proofs.Common.{◌≡◌, ℕ, ◌-◌, ◌<◌, ◌≤◌, true, ltb, ◌⊎◌, List, length, get_or, set, Some, None, sym, ap, ◌∙◌, ⊎_elim, arith}
use Rattle.std.proofs.Math.Seq.{take-set-lt}
use Rattle.std.proofs.lemmas.Bool.{lt-ltb}
use Rattle.std.proofs.lemmas.Grind.{common_steps}
use Rattle.std.proofs.lemmas.List.{length-take, get_or-take}
use Rattle.std.proofs.lemmas.Option.{slice_get-get_or, slice_get_past}
use Rattle.logs.specs.Entries.{entries, Numbered, record_at}

pub ruleset kept = (common_steps, take-set-lt)

-- the records of any memory, by their numbers
module _ {T : Type 0} (xs : List T) (n : ℕ) where
  -- of a memory that holds n entries, n are entered
  pub entries_many : n ≤ length xs → length (entries xs n) ≡ n
  entries_many l = let e = length-take n xs in omega arith

  pub numbered : (k : ℕ) → n ≤ length xs → 1 ≤ k → k ≤ n → Numbered (entries xs n) k
  numbered k l a b = let e = entries_many l in (a, omega arith)

  pub record_read : (k : ℕ) (x : T) → n ≤ length xs → 1 ≤ k → k ≤ n → x ≡ get_or xs (k - 1) x → Some x ≡ record_at (entries xs n) k
  record_read k x l a b e =
      let many = entries_many l in
      let t : ltb 0 k ≡ true = lt-ltb 0 k (omega arith) in
      rw t (ap Some (e ∙ sym (get_or-take n xs (k - 1) x (omega arith))) ∙ sym (slice_get-get_or (entries xs n) (k - 1) x (omega arith)))

  pub no_record : (k : ℕ) → n ≤ length xs → (k ≡ 0) ⊎ (n < k) → None ≡ record_at (entries xs n) k
  no_record k l none =
      let many = entries_many l in
      ⊎_elim
      (λ (e : k ≡ 0). ap (record_at (entries xs n)) (sym e))
      (λ (m : n < k).
      let t : ltb 0 k ≡ true = lt-ltb 0 k (omega arith) in
      rw t (sym (slice_get_past (entries xs n) (k - 1) (omega arith))))
      none

  -- the entries with another in place i
  pub entries_with : (i : ℕ) (x : T) → i < n → entries (set xs i x) n ≡ set (entries xs n) i x
  entries_with i x l = take-set-lt n xs i x l
