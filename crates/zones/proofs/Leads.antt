-- The flows of the borders that lead from a zone, summed one by one.
use Rattle.std.proofs.Common.{◌≡◌, ℕ, ◌+◌, ◌-◌, ◌*◌, ◌<◌, ◌≤◌, true, false, not, ◌&&◌, eqb, ◌⊎◌, List, [], ◌∷◌, length, get_or, ℤ, pos, ◌+ℤ◌, ◌-ℤ◌, ◌≤ℤ◌, sym, ap, ◌∙◌, ⊎_elim, arith}
use Rattle.std.proofs.lemmas.List.{get_or_past, get_or-append-add}
use Rattle.std.proofs.lemmas.Int.{ints}
use Rattle.std.proofs.lemmas.Bool.{cases_eq, eq-eqb, ne_eqb, cond-true, cond-false}
use Rattle.zones.specs.Sums.{part, total}
use Rattle.zones.specs.Ways.{leads_from, net_of_flows}
use Rattle.zones.specs.Trees.{flow_in}
use Rattle.zones.proofs.Totals.{total_start, total_more}

-- the flow of a zone's own border: zone 0 has none, and no flow is told for it
own_flow : (flows : List ℤ) (z : ℕ) → part (not (eqb z 0)) (flow_in flows z) ≡ flow_in flows z
own_flow flows z = ⊎_elim
    (λ (e : z ≡ 0). ap (λ k. part (not (eqb k 0)) (flow_in flows k)) e ∙ sym (ap (flow_in flows) e))
    (λ (ne : z ≡ 0 → ⊥). ap (λ b. part (not b) (flow_in flows z)) (ne_eqb z 0 ne))
    (cases_eq z 0)

module _ (up : ℕ → ℕ) (flows : List ℤ) (z : ℕ) where
  abbrev led : ℕ → ℤ
  led d = part (leads_from up z d) (flow_in flows d)

  -- the sum over the borders below k, with bounds that a sum of machine numbers keeps
  pub record Summed (k : ℕ) (sum : ℤ) : Type 0 where
    pub value : sum ≡ total k led
    pub low : pos 0 ≤ℤ (sum +ℤ pos (2147483648 * k))
    pub high : sum ≤ℤ pos (2147483648 * k)

  pub none_summed : Summed 1 (pos 0)
  none_summed = record { value = sym (let a = total_start led in let b = total_more 0 led in omega (arith, ints)); low = omega (arith, ints); high = omega (arith, ints) }

module _ {up : ℕ → ℕ} {flows : List ℤ} {z k : ℕ} {sum : ℤ} (summed : Summed up flows z k sum) where
  pub led_summed : {flow more : ℤ} → 1 ≤ k → up k ≡ z → flow ≡ flow_in flows k → pos 0 ≤ℤ (flow +ℤ pos 2147483648) → flow ≤ℤ pos 2147483648 → more ≡ sum +ℤ flow →
      Summed up flows z (k + 1) more
  led_summed l e is low high added =
      let t : leads_from up z k ≡ true = ap (λ b. not b && eqb (up k) z) (ne_eqb k 0 (λ q. omega arith)) ∙ eq-eqb (up k) z e in
      let a = total_more k (led up flows z) in
      let b = cond-true (leads_from up z k) (flow_in flows k) (pos 0) t in
      let v = summed.value in
      let lo = summed.low in
      let hi = summed.high in
      record { value = omega (arith, ints); low = omega (arith, ints); high = omega (arith, ints) }

  pub other_summed : {same : ℤ} → 1 ≤ k → (up k ≡ z → ⊥) → same ≡ sum → Summed up flows z (k + 1) same
  other_summed l ne is =
      let t : leads_from up z k ≡ false = ap (λ b. not b && eqb (up k) z) (ne_eqb k 0 (λ q. omega arith)) ∙ ne_eqb (up k) z ne in
      let a = total_more k (led up flows z) in
      let b = cond-false (leads_from up z k) (flow_in flows k) (pos 0) t in
      let v = summed.value in
      let lo = summed.low in
      let hi = summed.high in
      record { value = omega (arith, ints); low = omega (arith, ints); high = omega (arith, ints) }

  -- less the flow of its own border it is the net position
  pub net_summed : {flow less : ℤ} → flow ≡ flow_in flows z → less ≡ sum -ℤ flow → less ≡ net_of_flows k up (flow_in flows) z
  net_summed is taken_off =
      let b = own_flow flows z in
      let v = summed.value in
      omega (arith, ints)

-- flows are told for borders from 1: where there is none it is 0, and that of border c stands at place c - 1
pub flow_past : (flows : List ℤ) (c : ℕ) → (c ≡ 0) ⊎ (length flows < c) → pos 0 ≡ flow_in flows c
flow_past flows c none = ⊎_elim
    (λ (e : c ≡ 0). ap (flow_in flows) (sym e))
    (λ (l : length flows < c). sym (get_or_past (pos 0 ∷ flows) c (pos 0) (let e = length_cons (pos 0) flows in omega arith)))
    none
  where
    length_cons : (x : ℤ) (xs : List ℤ) → length (x ∷ xs) ≡ length xs + 1
    length_cons x xs = omega arith

pub flow_at : (flows : List ℤ) (c : ℕ) (flow : ℤ) → 1 ≤ c → flow ≡ get_or flows (c - 1) (pos 0) → flow ≡ flow_in flows c
flow_at flows c flow l e = e ∙ sym (get_or-append-add (pos 0 ∷ []) flows (c - 1) (pos 0)) ∙ ap (λ k. get_or (pos 0 ∷ flows) k (pos 0)) (omega arith)
