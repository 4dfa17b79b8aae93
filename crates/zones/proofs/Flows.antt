-- Flows that follow net positions give these positions back.
use Rattle.std.proofs.Common.{◌≡◌, ℕ, ◌<◌, ◌≤◌, Bool, true, false, not, ◌&&◌, eqb, ℤ, pos, ◌+ℤ◌, ◌-ℤ◌, neg_ℤ, sym, refl, ap, ◌∙◌, subst, ⊎_elim, arith}
use Rattle.std.proofs.lemmas.Int.{ints}
use Rattle.std.proofs.lemmas.Bool.{cases_eq, eq-eqb, ne_eqb, cond-false}
use Rattle.zones.specs.Sums.{part, total}
use Rattle.zones.specs.Ways.{Ordered, behind, leads_from, net_of_flows, sum_behind, FlowsFollow}
use Rattle.zones.proofs.Totals.{part_add, part_neg, part_swap, total_zero, total_same, total_add, total_neg, total_part, total_pick, total_swap}
use Rattle.zones.proofs.Behind.{by_parents, behind_of_0, not_behind, all_behind_0, part_behind}

eqb_turn : (a b : ℕ) → eqb a b ≡ eqb b a
eqb_turn a b =
    ⊎_elim
    (λ (e : a ≡ b). eq-eqb a b e ∙ sym (eq-eqb b a (sym e)))
    (λ (ne : a ≡ b → ⊥). ne_eqb a b ne ∙ sym (ne_eqb b a (λ e. ne (sym e))))
    (cases_eq a b)

minus : (x y : ℤ) → x -ℤ y ≡ x +ℤ neg_ℤ y
minus x y = omega (arith, ints)

moved_part : (t p q : Bool) (m x : ℤ) → part t (x +ℤ (part p m -ℤ part q m)) ≡ part t x +ℤ (part p (part t m) +ℤ neg_ℤ (part q (part t m)))
moved_part true p q m x = omega (arith, ints)
moved_part false true true m x = refl
moved_part false true false m x = refl
moved_part false false true m x = refl
moved_part false false false m x = refl

-- the share of m at border d that leads from z, if w lies behind it
abbrev below : (ℕ → ℕ) → ℕ → ℕ → ℤ → ℕ → ℤ
below up z w m d = part (leads_from up z d) (part (behind up d w) m)

module _ (up : ℕ → ℕ) (ordered : Ordered up) where
  none_below : (z d : ℕ) (m : ℤ) → below up z 0 m d ≡ pos 0
  none_below z d m =
      ⊎_elim
      (λ (e : d ≡ 0). ap (λ v. part (not v && eqb (up d) z) (part (behind up d 0) m)) (eq-eqb d 0 e))
      (λ (ne : d ≡ 0 → ⊥).
      ap (λ v. part (leads_from up z d) (part v m)) (not_behind up ordered d 0 (omega arith)) ∙ part_swap (leads_from up z d) false m)
      (cases_eq d 0)

  below_by_parent : (z w d : ℕ) (m : ℤ) → 1 ≤ w → below up z w m d ≡ part (eqb d w) (part (leads_from up z d) m) +ℤ below up z (up w) m d
  below_by_parent z w d m l =
      ap (λ v. part (leads_from up z d) v) (part_behind up ordered d w m l)
      ∙ part_add (leads_from up z d) (part (eqb w d) m) (part (behind up d (up w)) m)
      ∙ ap (λ v. v +ℤ below up z (up w) m d) (part_swap (leads_from up z d) (eqb w d) m ∙ ap (λ v. part v (part (leads_from up z d) m)) (eqb_turn w d))

  -- w lies behind just one of the borders that lead from z if it lies behind z and is not z, else behind none
  counted_below : (n z : ℕ) (m : ℤ) (w : ℕ) → w < n → total n (below up z w m) ≡ part (behind up z w) m -ℤ part (eqb w z) m
  counted_below n z m = by_parents up ordered
      (λ w. w < n → total n (below up z w m) ≡ part (behind up z w) m -ℤ part (eqb w z) m)
      (λ l.
      let a : total n (below up z 0 m) ≡ pos 0 = total_same n _ (λ _. pos 0) (λ d _. none_below z d m) ∙ total_zero n in
      let b : part (behind up z 0) m ≡ part (eqb 0 z) m = ap (λ v. part v m) (behind_of_0 up ordered z) in
      omega (arith, ints))
      (λ w p before l.
      let o = ordered w p in
      let a : total n (below up z w m) ≡ total n (λ d. part (eqb d w) (part (leads_from up z d) m) +ℤ below up z (up w) m d) =
      total_same n _ _ (λ d _. below_by_parent z w d m p) in
      let b = total_add n (λ d. part (eqb d w) (part (leads_from up z d) m)) (below up z (up w) m) in
      let s = total_pick n w (λ d. part (leads_from up z d) m) l in
      let h = part_behind up ordered z w m p in
      let i = before (omega arith) in
      let q : part (leads_from up z w) m ≡ part (eqb (up w) z) m = ap (λ v. part (not v && eqb (up w) z) m) (ne_eqb w 0 (λ e. omega arith)) in
      omega (arith, ints))

  module _ (n : ℕ) (flow net : ℕ → ℤ) (follow : FlowsFollow n up flow net) where
    led : (z d : ℕ) → d < n → part (leads_from up z d) (flow d) ≡ neg_ℤ (total n (λ w. below up z w (net w) d))
    led z d k =
        ⊎_elim
        (λ (e : d ≡ 0).
        let t : leads_from up z d ≡ false = ap (λ v. not v && eqb (up d) z) (eq-eqb d 0 e) in
        let x = cond-false (leads_from up z d) (flow d) (pos 0) t in
        let y : total n (λ w. below up z w (net w) d) ≡ pos 0 = ap (λ v. total n (λ w. part v (part (behind up d w) (net w)))) t ∙ total_zero n in
        omega (arith, ints))
        (λ (ne : d ≡ 0 → ⊥).
        ap (λ v. part (leads_from up z d) v) (follow d (omega arith) k)
        ∙ part_neg (leads_from up z d) (sum_behind n up d net)
        ∙ ap neg_ℤ (sym (total_part n (leads_from up z d) (λ w. part (behind up d w) (net w)))))
        (cases_eq d 0)

    own : total n net ≡ pos 0 → (z : ℕ) → z < n → part (not (eqb z 0)) (flow z) ≡ neg_ℤ (sum_behind n up z net)
    own even z l =
        ⊎_elim
        (λ (e : z ≡ 0).
        let a : part (not (eqb z 0)) (flow z) ≡ pos 0 = ap (λ v. part (not v) (flow z)) (eq-eqb z 0 e) in
        let b : sum_behind n up z net ≡ total n net =
        total_same n _ _ (λ w _. ap (λ v. part v (net w)) (subst (λ (k : ℕ). behind up k w ≡ true) (sym e) (all_behind_0 up ordered w))) in
        omega (arith, ints))
        (λ (ne : z ≡ 0 → ⊥). ap (λ v. part (not v) (flow z)) (ne_eqb z 0 ne) ∙ follow z (omega arith) l)
        (cases_eq z 0)

    -- flows that are minus the sums of the positions behind them, with positions that sum to zero, give back those positions
    pub flows_give_positions_back : total n net ≡ pos 0 → (z : ℕ) → z < n → net_of_flows n up flow z ≡ net z
    flows_give_positions_back even z l =
        let a : total n (λ d. part (leads_from up z d) (flow d)) ≡ total n (λ d. neg_ℤ (total n (λ w. below up z w (net w) d))) =
        total_same n _ _ (λ d k. led z d k) in
        let b = total_neg n (λ d. total n (λ w. below up z w (net w) d)) in
        let s = total_swap n n (λ d w. below up z w (net w) d) in
        let e : total n (λ w. total n (below up z w (net w))) ≡ total n (λ w. part (behind up z w) (net w) +ℤ neg_ℤ (part (eqb w z) (net w))) =
        total_same n _ _ (λ w k. counted_below n z (net w) w k ∙ minus (part (behind up z w) (net w)) (part (eqb w z) (net w))) in
        let f = total_add n (λ w. part (behind up z w) (net w)) (λ w. neg_ℤ (part (eqb w z) (net w))) in
        let g = total_neg n (λ w. part (eqb w z) (net w)) in
        let h = total_pick n z net l in
        let i = own even z l in
        omega (arith, ints)

  moved_at : (c s b z : ℕ) (m x y : ℤ) → y ≡ x +ℤ (part (eqb z s) m -ℤ part (eqb z b) m) →
      part (behind up c z) y ≡ part (behind up c z) x +ℤ (part (eqb z s) (part (behind up c z) m) +ℤ neg_ℤ (part (eqb z b) (part (behind up c z) m)))
  moved_at c s b z m x y e = ap (λ v. part (behind up c z) v) e ∙ moved_part (behind up c z) (eqb z s) (eqb z b) m x

  -- a deal of m moves the sum of the positions behind a border by m where the seller lies behind it, less m where the buyer does
  pub deal_moves_sums : (n c s b : ℕ) (m : ℤ) (net net' : ℕ → ℤ) → s < n → b < n →
      ((z : ℕ) → z < n → net' z ≡ net z +ℤ (part (eqb z s) m -ℤ part (eqb z b) m)) →
      sum_behind n up c net' ≡ sum_behind n up c net +ℤ (part (behind up c s) m -ℤ part (behind up c b) m)
  deal_moves_sums n c s b m net net' ls lb e =
      let a : sum_behind n up c net' ≡ total n (λ z. part (behind up c z) (net z) +ℤ (part (eqb z s) (part (behind up c z) m) +ℤ neg_ℤ (part (eqb z b) (part (behind up c z) m)))) =
      total_same n _ _ (λ z l. moved_at c s b z m (net z) (net' z) (e z l)) in
      let f = total_add n (λ z. part (behind up c z) (net z)) (λ z. part (eqb z s) (part (behind up c z) m) +ℤ neg_ℤ (part (eqb z b) (part (behind up c z) m))) in
      let g = total_add n (λ z. part (eqb z s) (part (behind up c z) m)) (λ z. neg_ℤ (part (eqb z b) (part (behind up c z) m))) in
      let h = total_neg n (λ z. part (eqb z b) (part (behind up c z) m)) in
      let i = total_pick n s (λ z. part (behind up c z) m) ls in
      let j = total_pick n b (λ z. part (behind up c z) m) lb in
      omega (arith, ints)
