use Rattle.std.proofs.Common.{◌≡◌, ℕ, ◌<◌, true, List, length, get_or, sym, ◌∙◌, arith, w32, SFits}
use Rattle.std.proofs.lemmas.Int.{ints, to_z-of_z}
use Rattle.std.proofs.lemmas.List.Sums.{prefix_len-drop_yes}
use Rattle.equations.specs.declared.sources.Source.{Source}
use Rattle.equations.specs.Reserves.{source_allowed}
use Rattle.equations.proofs.Sourced.{blank, power_between}
use Rattle.equations.proofs.Totals.{total_none, total_more}
use Rattle.equations.proofs.sources.total_power.Goals as goal

pub loop-i-init : goal.loop-i-init
loop-i-init c = (sym (total_none (λ (s : Source). s.power)), omega arith, omega (arith, ints), omega (arith, ints))

pub loop-i-preserved : goal.loop-i-preserved
loop-i-preserved c =
    let ss : List Source = c.args.sources.now in
    let i : ℕ = c.loop-i.i in
    let h : i < length ss = omega arith in
    let ok : source_allowed (get_or ss i blank) ≡ true = sym c.in_bounds.ensures ∙ c.if-not-in_bounds.false in
    let b = power_between (get_or ss i blank) ok in
    let f : SFits w32 (get_or ss i blank).power = omega (arith, ints) in
    let a = total_more (λ (s : Source). s.power) ss i blank h in
    let l = prefix_len-drop_yes source_allowed ss i blank h ok in
    simp to_z-of_z (omega (arith, ints), omega arith, omega (arith, ints), omega (arith, ints))
