use Rattle.std.proofs.Common.{◌+◌, pos, neg_ℤ, rules}
use Rattle.std.proofs.lemmas.Int.{to_z-of_z}
use Rattle.book.specs.Grounds.{target}
use Rattle.region.specs.Staging.{sum_behind_border}
use Rattle.region.proofs.Arrays.{made}
use Rattle.region.proofs.kept.KeptZones.schedule_for.Goals as goal

pub returns : goal.returns
unfolding target
returns c =
    made _ _ (λ k. neg_ℤ (sum_behind_border c.args.self.now c.args.border (pos (k + 1)))) 24 (λ i y q l k. search (rules, to_z-of_z)) _ (pos 0) c.from_fn.ensures.items
