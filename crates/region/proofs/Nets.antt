-- The net position of a zone from the flows of the borders, collected one by one.
use Rattle.std.proofs.Common.{◌≡◌, ℕ, ◌+◌, ◌-◌, ◌<◌, ◌≤◌, true, not, ◌&&◌, eqb, List, [], ◌∷◌, length, map, get_or, set, ℤ, pos, ◌-ℤ◌, nat_abs, sym, ap, ◌∙◌, ⊎_elim, arith, w16, SFits}
use Rattle.std.proofs.lemmas.Int.{ints}
use Rattle.std.proofs.lemmas.List.{length-map, length-set, get_or-set_same, get_or-set_other, get_or-append-add}
use Rattle.std.proofs.lemmas.List.FromFn.{get_or-map-range_with_len}
use Rattle.std.specs.List.{range_with_len}
use Rattle.std.proofs.lemmas.Bool.{cases_eq, eq-eqb, lt-ltb}
use Rattle.book.specs.declared.ZoneRecord.{ZoneRecord}
use Rattle.book.specs.declared.Answer.TheVariants.{Zone}
use Rattle.book.specs.Limits.{PositionAllowed, zone_overrun}
use Rattle.book.specs.Views.{View, net_of, record_of, limit_of}
use Rattle.book.specs.Calls.{zone_told}
use Rattle.zones.specs.Sums.{part, total}
use Rattle.zones.specs.Ways.{leads_from, net_of_flows}
use Rattle.zones.specs.declared.tree.Tree.{Tree}
use Rattle.zones.specs.Trees.{zones, up, flow_in, is_zone, net_position_lem}
use Rattle.zones.proofs.Totals.{total_same}

-- the flows of borders 1 to k - 1 are collected
pub record Collected (flow : ℕ → ℤ) (flows : List ℤ) (k : ℕ) : Type 0 where
  pub memory : length flows ≡ 15
  pub each : (c : ℕ) → 1 ≤ c → c < k → get_or flows (c - 1) (pos 0) ≡ flow c

pub none_collected : (flow : ℕ → ℤ) (flows : List ℤ) → length flows ≡ 15 → Collected flow flows 1
none_collected flow flows e = record { memory = e; each = λ c l m. absurd (omega arith) }

pub collected_more : (flow : ℕ → ℤ) (flows : List ℤ) (k : ℕ) (x : ℤ) → 1 ≤ k → k ≤ 15 → x ≡ flow k → Collected flow flows k → Collected flow (set flows (k - 1) x) (k + 1)
collected_more flow flows k x l m e so_far =
    let many = so_far.memory in
    record {
      memory = length-set flows (k - 1) x ∙ many;
      each = λ c a b. ⊎_elim
          (λ (q : c ≡ k). ap (λ j. get_or (set flows (k - 1) x) (j - 1) (pos 0)) q ∙ get_or-set_same flows (k - 1) x (pos 0) (omega arith) ∙ e ∙ ap flow (sym q))
          (λ (q : c ≡ k → ⊥). get_or-set_other flows (k - 1) (c - 1) x (pos 0) (λ r. omega arith) ∙ so_far.each c a (omega arith))
          (cases_eq c k);
    }

-- flows made one by one are those of borders 1 to 15
abbrev pub collected : (ℕ → ℤ) → List ℤ
collected flow = map (λ k. flow (k + 1)) (range_with_len 0 15)

pub all_collected : (flow : ℕ → ℤ) (flows : List ℤ) (k : ℕ) → k ≤ 16 → flows ≡ collected flow → Collected flow flows k
all_collected flow flows k few all = record {
  memory = ap length all ∙ length-map (range_with_len 0 15) (λ k. flow (k + 1));
  each = λ c l m. ap (λ xs. get_or xs (c - 1) (pos 0)) all ∙ get_or-map-range_with_len (λ k. flow (k + 1)) 0 15 (c - 1) (c - 1) (pos 0) (omega arith) (omega arith) ∙ ap flow (omega arith);
}

told : (flow : ℕ → ℤ) (flows : List ℤ) (n : ℕ) → Collected flow flows n → (c : ℕ) → 1 ≤ c → c < n → flow_in flows c ≡ flow c
told flow flows n all c l m = ap (λ k. get_or (pos 0 ∷ flows) k (pos 0)) (omega arith) ∙ get_or-append-add (pos 0 ∷ []) flows (c - 1) (pos 0) ∙ all.each c l m

-- they give a zone's net position
pub net_collected : (t : Tree) (flow : ℕ → ℤ) (flows : List ℤ) (z : ℕ) → Collected flow flows (zones t) → z < zones t → net_position_lem t flows z ≡ net_of_flows (zones t) (up t) flow z
net_collected t flow flows z all l =
    let there : is_zone t z ≡ true = lt-ltb z (zones t) l in
    let outs : total (zones t) (λ d. part (leads_from (up t) z d) (flow_in flows d)) ≡ total (zones t) (λ d. part (leads_from (up t) z d) (flow d)) =
    total_same (zones t) _ _ (λ d m. ⊎_elim
    (λ (e : d ≡ 0). none e)
    (λ (ne : d ≡ 0 → ⊥). ap (λ x. part (leads_from (up t) z d) x) (told flow flows (zones t) all d (omega arith) m))
    (cases_eq d 0)) in
    let own : part (not (eqb z 0)) (flow_in flows z) ≡ part (not (eqb z 0)) (flow z) = ⊎_elim
    (λ (e : z ≡ 0). ap (λ b. part (not b) (flow_in flows z)) (eq-eqb z 0 e) ∙ sym (ap (λ b. part (not b) (flow z)) (eq-eqb z 0 e)))
    (λ (ne : z ≡ 0 → ⊥). ap (λ x. part (not (eqb z 0)) x) (told flow flows (zones t) all z (omega arith) l))
    (cases_eq z 0) in
    rw there (ap (λ x. x -ℤ part (not (eqb z 0)) (flow_in flows z)) outs ∙ ap (λ x. total (zones t) (λ d. part (leads_from (up t) z d) (flow d)) -ℤ x) own)
  where
    none : {d : ℕ} → d ≡ 0 → part (leads_from (up t) z d) (flow_in flows d) ≡ part (leads_from (up t) z d) (flow d)
    none {d} e = ap (λ b. part (not b && eqb (up t d) z) (flow_in flows d)) (eq-eqb d 0 e) ∙ sym (ap (λ b. part (not b && eqb (up t d) z) (flow d)) (eq-eqb d 0 e))

-- a position fits an i16
pub position_fits : (m : ℤ) → PositionAllowed m → SFits w16 m
position_fits m h = let lo = h.0 in let hi = h.1 in omega (arith, ints)

-- what is told of a zone
pub zone_told_is : (v : View) (z p : ℤ) (k : ℕ) (net over : ℤ) (r : ZoneRecord) → k ≡ nat_abs z → net ≡ net_of v k p → r ≡ record_of v k p → over ≡ zone_overrun r.limit net →
    Zone net over ≡ zone_told v z p
zone_told_is v z p k net over r at_k is kept beyond =
    ap (Zone net) (beyond ∙ ap (λ l. zone_overrun l net) (ap (λ (x : ZoneRecord). x.limit) kept))
    ∙ ap (λ n. Zone n (zone_overrun (limit_of v k p) n)) is
    ∙ ap (λ j. Zone (net_of v j p) (zone_overrun (limit_of v j p) (net_of v j p))) at_k
