-- How the steps of a way are read from its memory.
use Rattle.std.proofs.Common.{◌≡◌, ℕ, ◌<◌, ◌≤◌, length, get_or, Some, None, sym, ap, ◌∙◌, arith}
use Rattle.std.specs.List.{slice_get}
use Rattle.std.proofs.lemmas.List.{length-take, get_or-take}
use Rattle.std.proofs.lemmas.Option.{slice_get-get_or, slice_get_past}
use Rattle.zones.specs.declared.way.Step.{Step}
use Rattle.zones.specs.declared.way.Way.{Way}
use Rattle.zones.specs.Trees.{steps_of}

module _ (w : Way) (memory : length w.steps ≡ 15) where
  pub steps_many : w.count ≡ length (steps_of w)
  steps_many = let e = length-take w.count w.steps in let h = w.within in omega arith

  -- the seller's and the buyer's alike: the step with the number i is the one in place i
  pub step_at : (i : ℕ) (x : Step) → i < w.count → x ≡ get_or w.steps i x → Some x ≡ slice_get (steps_of w) i
  step_at i x l e =
      let s = steps_many in
      ap Some (e ∙ sym (get_or-take w.count w.steps i x l)) ∙ sym (slice_get-get_or (steps_of w) i x (omega arith))

  pub no_step : (i : ℕ) → w.count ≤ i → None ≡ slice_get (steps_of w) i
  no_step i l = sym (slice_get_past (steps_of w) i (let s = steps_many in omega arith))
