use Rattle.std.proofs.Common.{◌≡◌, ℕ, ◌≤◌, true, ◌&&◌, leb, List, length, ℤ, pos, ◌≤ℤ◌, refl, ap, ◌∙◌, arith, w32, SFits, rules}
use lib.Signed.{quot_z}
use Rattle.std.proofs.lemmas.Int.{ints, to_z-of_z}
use Rattle.std.proofs.lemmas.Bool.Decides.{nat_tests}
use Rattle.equations.specs.declared.sources.Source.{Source}
use Rattle.equations.specs.declared.sources.Row.{Row}
use Rattle.equations.specs.Ranges.{between}
use Rattle.equations.specs.Reserves.{source_allowed, total_power_lem, serving, weighed, reserve_of}
use Rattle.equations.proofs.Judging.{judged_answer, judged_ok}
use Rattle.equations.proofs.Ranged.{within}
use Rattle.equations.proofs.sources.reserve.Goals as goal

whole_allowed : (n : ℕ) (D : ℤ) → n ≤ 8 → (pos 0 ≤ℤ D) × (D ≤ℤ pos 5000) → (leb n 8 && between (pos 0) D (pos 5000)) ≡ true
whole_allowed n D h k = let a = k.0 in let b = k.1 in grind (arith, ints, nat_tests)

pub weigh-requires-clause-allowed : goal.weigh-requires-clause-allowed
weigh-requires-clause-allowed c = (judged_ok (λ (p : ℤ). p ≡ total_power_lem c.args.sources.now) true source_allowed c.args.sources.now c.in_ok-power.power refl c.in_ok-power.ensures).0

pub returns : goal.returns
returns c =
    let ss : List Source = c.args.sources.now in
    let D : ℤ = c.args.regulation in
    let f1 = c.ranges.regulation in
    let f2 : SFits w32 c.in_ok-power.power = search rules in
    let f3 : SFits w32 c.weigh.result = record { sfits = c.weigh.type_inv } in
    let f4 : SFits w32 (quot_z c.weigh.result (pos 100)) = omega (arith, ints, c.weigh.ensures.least) in
    let j = judged_ok (λ (p : ℤ). p ≡ total_power_lem ss) true source_allowed ss c.in_ok-power.power refl c.in_ok-power.ensures in
    let row : c.row_for-row.result ≡ serving c.in_ok-power.power D = simp to_z-of_z at c.row_for-row.ensures in
    let e : c.weigh.result ≡ weighed (serving (total_power_lem ss) D) ss = c.weigh.ensures.value ∙ ap (λ (r : Row). weighed r ss) (row ∙ ap (λ (p : ℤ). serving p D) j.1) in
    let b = within _ _ _ _ D _ c.new.ensures.start c.new.ensures.end c.new.ensures.exhausted (simp to_z-of_z at c.if-not-contains.ensures.value) in
    simp to_z-of_z (judged_answer (λ (x : ℤ). x ≡ reserve_of ss D) (leb (length ss) 8 && between (pos 0) D (pos 5000)) source_allowed ss (quot_z c.weigh.result (pos 100)) (whole_allowed (length ss) D (omega arith) b) j.0 (ap (λ (x : ℤ). quot_z x (pos 100)) e))
