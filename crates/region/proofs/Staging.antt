-- Staged positions, summed zone by zone.
use Rattle.std.proofs.Common.{◌≡◌, ℕ, ◌+◌, ◌*◌, ◌<◌, ◌≤◌, true, false, ltb, List, length, get_or, set, ℤ, pos, ◌+ℤ◌, ◌≤ℤ◌, Ok, Err, Result, sym, refl, ap, ◌∙◌, subst, ⊎_elim, arith, w16, SFits}
use Rattle.std.proofs.lemmas.Int.{ints}
use Rattle.std.proofs.lemmas.Bool.{cond-true, cond-false, cases_eq, lt-ltb}
use Rattle.std.proofs.lemmas.List.{get_or-set_same, get_or-set_other}
use Rattle.borders.specs.Day.{Schedule}
use Rattle.borders.specs.Border.{Meaning, Admitted, with_schedule}
use Rattle.borders.specs.Answers.{AdoptAnswer}
use Rattle.borders.specs.Bank.{border_at, OthersStay}
use Rattle.borders.specs.declared.BorderFault.{BorderFault}
use Rattle.zones.specs.Sums.{part, total}
use Rattle.zones.specs.Ways.{behind}
use Rattle.zones.specs.declared.tree.Tree.{Tree}
use Rattle.zones.specs.Trees.{zones, up, lies_behind_lem}
use Rattle.zones.proofs.Totals.{total_start, total_more}
use Rattle.book.specs.declared.ZoneRecord.{ZoneRecord}
use Rattle.book.specs.Grounds.{staged_in, staged_in_all_lem, staged_behind_lem, target}

-- the sum so far over k zones, with the bounds that positions of 16 bits keep
pub record Added (k : ℕ) (sum so_far : ℤ) : Type 0 where
  pub value : sum ≡ so_far
  pub low : pos 0 ≤ℤ (sum +ℤ pos (32768 * k))
  pub high : sum ≤ℤ pos (32768 * k)

none_added : (so_far : ℤ) → so_far ≡ pos 0 → Added 0 (pos 0) so_far
none_added so_far e = record { value = sym e; low = omega (arith, ints); high = omega (arith, ints) }

more_added : (k : ℕ) (sum so_far x more more_so_far : ℤ) → SFits w16 x → more ≡ sum +ℤ x → more_so_far ≡ so_far +ℤ x → Added k sum so_far → Added (k + 1) more more_so_far
more_added k sum so_far x more more_so_far f e e' a =
    let v = a.value in
    let lo = a.low in
    let hi = a.high in
    record { value = omega (arith, ints); low = omega (arith, ints); high = omega (arith, ints) }

same_added : (k : ℕ) (sum so_far same more_so_far : ℤ) → same ≡ sum → more_so_far ≡ so_far → Added k sum so_far → Added (k + 1) same more_so_far
same_added k sum so_far same more_so_far e e' a =
    let v = a.value in
    let lo = a.low in
    let hi = a.high in
    record { value = omega (arith, ints); low = omega (arith, ints); high = omega (arith, ints) }

module _ (rs : List ZoneRecord) (p : ℤ) where
  pub none_in_all : Added 0 (pos 0) (staged_in_all_lem 0 rs p)
  unfolding staged_in_all_lem
  none_in_all = none_added _ (total_start _)

  pub more_in_all : (k : ℕ) (sum x more : ℤ) → SFits w16 x → x ≡ staged_in rs k p → more ≡ sum +ℤ x → Added k sum (staged_in_all_lem k rs p) → Added (k + 1) more (staged_in_all_lem (k + 1) rs p)
  unfolding staged_in_all_lem
  more_in_all k sum x more f is e a = more_added k sum _ x more _ f e (total_more k _ ∙ ap (λ y. total k (λ z. staged_in rs z p) +ℤ y) (sym is)) a

  module _ (up : ℕ → ℕ) (c : ℕ) where
    pub none_behind : Added 0 (pos 0) (staged_behind_lem 0 up rs c p)
    unfolding staged_behind_lem
    none_behind = none_added _ (total_start _)

    pub more_behind : (k : ℕ) (sum x more : ℤ) → SFits w16 x → x ≡ staged_in rs k p → behind up c k ≡ true → more ≡ sum +ℤ x → Added k sum (staged_behind_lem k up rs c p) → Added (k + 1) more (staged_behind_lem (k + 1) up rs c p)
    unfolding staged_behind_lem
    more_behind k sum x more f is t e a =
        more_added k sum _ x more _ f e
        (total_more k _ ∙ ap (λ y. total k (λ z. part (behind up c z) (staged_in rs z p)) +ℤ y) (cond-true (behind up c k) (staged_in rs k p) (pos 0) t ∙ sym is)) a

    pub none_more : (k : ℕ) (sum same : ℤ) → behind up c k ≡ false → same ≡ sum → Added k sum (staged_behind_lem k up rs c p) → Added (k + 1) same (staged_behind_lem (k + 1) up rs c p)
    unfolding staged_behind_lem
    none_more k sum same t e a =
        same_added k sum _ same _ e
        (total_more k _ ∙ ap (λ y. total k (λ z. part (behind up c z) (staged_in rs z p)) +ℤ y) (cond-false (behind up c k) (staged_in rs k p) (pos 0) t) ∙ omega (arith, ints)) a

-- between a border and a zone that exist, the tree's answer is that of the chains
pub behind_told : (t : Tree) (c z : ℕ) → 1 ≤ c → c < zones t → z < zones t → lies_behind_lem t c z ≡ behind (up t) c z
behind_told t c z a b l =
    let one : ltb 0 c ≡ true = lt-ltb 0 c a in
    let two : ltb c (zones t) ≡ true = lt-ltb c (zones t) b in
    let three : ltb z (zones t) ≡ true = lt-ltb z (zones t) l in
    rw (one, two, three) refl

-- a list filled by a rule, one place after another
pub fill_more : (f : ℕ → ℤ) (xs : List ℤ) (i : ℕ) (x : ℤ) → i < length xs → x ≡ f i → ((j : ℕ) → j < i → get_or xs j (pos 0) ≡ f j) → (j : ℕ) → j < i + 1 → get_or (set xs i x) j (pos 0) ≡ f j
fill_more f xs i x l e h j m =
    ⊎_elim
    (λ (q : j ≡ i). ap (λ t. get_or (set xs i x) t (pos 0)) q ∙ get_or-set_same xs i x (pos 0) l ∙ e ∙ ap f (sym q))
    (λ (ne : j ≡ i → ⊥). get_or-set_other xs i j x (pos 0) ne ∙ h j (omega arith))
    (cases_eq j i)

-- the borders after those below k have adopted their schedules
pub record Settling (n : ℕ) (up : ℕ → ℕ) (rs : List ZoneRecord) (was new : List Meaning) (k : ℕ) : Type 0 where
  pub many : length new ≡ length was
  pub done : (c : ℕ) → 1 ≤ c → c < k → border_at new c ≡ with_schedule (border_at was c) (target n up rs c)
  pub ahead : (c : ℕ) → k ≤ c → border_at new c ≡ border_at was c

pub none_settled : (n : ℕ) (up : ℕ → ℕ) (rs : List ZoneRecord) (was : List Meaning) → Settling n up rs was was 1
none_settled n up rs was = record { many = refl; done = λ c l m. absurd (omega arith); ahead = λ c l. refl }

-- one more adopts: it admits its schedule, which is still the one asked for
pub one_settled : (n : ℕ) (up : ℕ → ℕ) (rs : List ZoneRecord) (was mid new : List Meaning) (k : ℕ) (s : Schedule) (r : Result (Unit {0}) BorderFault) →
    1 ≤ k → s ≡ target n up rs k → Admitted (border_at was k) (target n up rs k) → AdoptAnswer (border_at mid k) s r (border_at new k) → OthersStay k mid new →
    Settling n up rs was mid k → Settling n up rs was new (k + 1)
one_settled n up rs was mid new k s r l e admits answer others so_far =
    let same : border_at mid k ≡ border_at was k = so_far.ahead k (omega arith) in
    record {
      many = others.many ∙ so_far.many;
      done = λ c a b. ⊎_elim
          (λ (q : c ≡ k).
          subst (λ (j : ℕ). border_at new j ≡ with_schedule (border_at was j) (target n up rs j)) (sym q)
          (adopted r answer (subst (λ (m : Meaning). Admitted m s) (sym same) (subst (λ (t : Schedule). Admitted (border_at was k) t) (sym e) admits))
          ∙ ap (λ m. with_schedule m s) same ∙ ap (with_schedule (border_at was k)) e))
          (λ (ne : c ≡ k → ⊥). others.others c ne ∙ so_far.done c a (omega arith))
          (cases_eq c k);
      ahead = λ c a. others.others c (λ q. omega arith) ∙ so_far.ahead c (omega arith);
    }
  where
    adopted : {m m' : Meaning} {s : Schedule} (r : Result (Unit {0}) BorderFault) → AdoptAnswer m s r m' → Admitted m s → m' ≡ with_schedule m s
    adopted (Ok x) h yes' = h.1
    adopted (Err x) h yes' = absurd (h.0 yes')
