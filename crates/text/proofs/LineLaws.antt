-- Laws of `lines`, for the handing out of lines and for the crates above.
use Rattle.std.proofs.Common.{◌≡◌, ℕ, suc, ◌+◌, ◌<◌, ◌≤◌, eqb, List, [], ◌∷◌, ◌++◌, length, get_or, take, drop, sym, refl, ap, ◌∙◌, inl, inr, add-one, arith}
use lib.Seq.{split_at}
use Rattle.std.proofs.lemmas.Grind.{common_steps}
use Rattle.std.proofs.lemmas.Bool.{cases_lt, cond_both, ne_eqb}
use Rattle.std.proofs.lemmas.List.{drop-drop}
use Rattle.text.specs.Lines.{begins, lines, LineCut}

pub lines_nil : lines [] ≡ []
unfolding lines
lines_nil = refl

-- a file with no byte has no line
pub lines_empty : (bs : List ℕ) → length bs ≡ 0 → lines bs ≡ []
lines_empty [] none = lines_nil
lines_empty (b ∷ bs) none = absurd (omega arith)

pub lines_break : (bs : List ℕ) → lines (10 ∷ bs) ≡ [] ∷ lines bs
unfolding lines
lines_break bs = refl

pub lines_byte : (b : ℕ) (bs : List ℕ) → (b ≡ 10 → ⊥) → lines (b ∷ bs) ≡ begins b (lines bs)
unfolding lines
lines_byte b bs h = rw (ne_eqb b 10 h)

-- a line that was cut off the front is the first, and what is left has the others
lines_unbroken : (line rest : List ℕ) → ((k : ℕ) → k < length line → get_or line k 0 ≡ 10 → ⊥) → lines (line ++ (10 ∷ rest)) ≡ line ∷ lines rest
lines_unbroken [] rest unbroken = lines_break rest
lines_unbroken (b ∷ line) rest unbroken =
    lines_byte b (line ++ (10 ∷ rest)) (unbroken 0 (omega arith)) ∙ ap (begins b) (lines_unbroken line rest (λ k h. unbroken (suc k) (omega arith)))

lines_last : (line : List ℕ) → 0 < length line → ((k : ℕ) → k < length line → get_or line k 0 ≡ 10 → ⊥) → lines line ≡ line ∷ []
lines_last [] some unbroken = absurd (omega arith)
lines_last (b ∷ []) some unbroken = lines_byte b [] (unbroken 0 (omega arith)) ∙ ap (begins b) lines_nil
lines_last (b ∷ (c ∷ cs)) some unbroken =
    lines_byte b (c ∷ cs) (unbroken 0 (omega arith)) ∙ ap (begins b) (lines_last (c ∷ cs) (omega arith) (λ k h. unbroken (suc k) (omega arith)))

pub lines_cut : (bs line rest : List ℕ) → 0 < length bs → LineCut bs line rest → lines bs ≡ line ∷ lines rest
lines_cut bs line rest some cut = elim cut.parts [
  | inl e ↦ rw e (lines_unbroken line rest cut.unbroken)
  | inr e ↦ rw (e.0, e.1) (lines_last line (rw e.0 at some) cut.unbroken ∙ ap (λ ls. line ∷ ls) (sym lines_nil))
]

-- the bytes before the first byte 10, or all of them if there is none, are a line cut off the front
pub cut_at : (bs : List ℕ) (n : ℕ) → n ≤ length bs → ((k : ℕ) → k < n → get_or bs k 0 ≡ 10 → ⊥) → (n < length bs → get_or bs n 0 ≡ 10) → LineCut bs (take n bs) (drop (suc n) bs)
cut_at bs n within before found = record {
  unbroken = λ k h. grind (arith, common_steps);
  parts = elim (cases_lt n (length bs)) [ inl h ↦ inl (rw (found h) at (split_at bs n 0 h)) | inr h ↦ inr (grind (arith, common_steps), grind (arith, common_steps)) ];
}

-- the first line has n bytes, and the next one begins behind the byte that ends it
pub lines_first : (bs : List ℕ) (n : ℕ) → 0 < length bs → n ≤ length bs → ((k : ℕ) → k < n → get_or bs k 0 ≡ 10 → ⊥) → (n < length bs → get_or bs n 0 ≡ 10) → lines bs ≡ take n bs ∷ lines (drop (suc n) bs)
lines_first bs n some within before found = lines_cut bs _ _ some (cut_at bs n within before found)

begins_length : (b : ℕ) (ls : List (List ℕ)) → (0 < length (begins b ls)) × (length (begins b ls) ≤ 1 + length ls)
begins_length b [] = (omega arith, omega arith)
begins_length b (l ∷ ls) = (omega arith, omega arith)

-- a file with a byte has a line
pub lines_some : (bs : List ℕ) → 0 < length bs → 0 < length (lines bs)
unfolding lines
lines_some [] some = absurd (omega arith)
lines_some (b ∷ bs) some =
    cond_both (eqb b 10) ([] ∷ lines bs) (begins b (lines bs)) (λ ls. 0 < length ls) (λ _. omega arith) (λ _. (begins_length b (lines bs)).0)

-- a file with no line has no byte
pub lines_none : (bs : List ℕ) → lines bs ≡ [] → bs ≡ []
lines_none [] none = refl
lines_none (b ∷ bs) none = absurd (omega (arith, lines_some (b ∷ bs) (omega arith), ap length none))

-- no more lines than bytes
pub length_lines_le : (bs : List ℕ) → length (lines bs) ≤ length bs
unfolding lines
length_lines_le [] = omega arith
length_lines_le (b ∷ bs) =
    let shorter = length_lines_le bs in
    cond_both (eqb b 10) ([] ∷ lines bs) (begins b (lines bs)) (λ ls. length ls ≤ suc (length bs)) (λ _. omega arith) (λ _. omega (arith, (begins_length b (lines bs)).1))

-- where what stands behind the first n bytes is given as parts: what stands behind the byte that ends the line
parts_at : (bs after behind : List ℕ) (n : ℕ) → after ≡ drop n bs → behind ≡ drop 1 after → behind ≡ drop (suc n) bs
parts_at bs after behind n back next = next ∙ ap (drop 1) back ∙ drop-drop 1 n bs ∙ ap (λ k. drop k bs) (add-one n)

-- the parts of what is left, where a line of n bytes is cut off its front
pub cut_parts : (bs line after behind : List ℕ) (n : ℕ) → n ≤ length bs → ((k : ℕ) → k < n → get_or bs k 0 ≡ 10 → ⊥) → (n < length bs → get_or bs n 0 ≡ 10) → line ≡ take n bs → after ≡ drop n bs → behind ≡ drop 1 after → LineCut bs line behind
cut_parts bs line after behind n within before stop front back next =
    let e = parts_at bs after behind n back next in
    rw (front, e) (cut_at bs n within before stop)

-- and the lines that they make up
pub lines_cut_at : (bs line after behind : List ℕ) (n : ℕ) → 0 < length bs → n ≤ length bs → ((k : ℕ) → k < n → get_or bs k 0 ≡ 10 → ⊥) → (n < length bs → get_or bs n 0 ≡ 10) → line ≡ take n bs → after ≡ drop n bs → behind ≡ drop 1 after → lines bs ≡ line ∷ lines behind
lines_cut_at bs line after behind n some within before found front back next =
    lines_cut bs line behind some (cut_parts bs line after behind n within before found front back next)
