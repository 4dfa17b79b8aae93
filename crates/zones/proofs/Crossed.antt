-- What holds of the steps of a way, wherever they stand: each border is crossed once, and they lead from the seller to the buyer.
use Rattle.std.proofs.Common.{◌≡◌, ℕ, List, sym, subst}
use Rattle.zones.specs.declared.way.Step.{Step}
use Rattle.zones.specs.Ways.{Ordered, way_along, EachOnce, Leads}
use Rattle.zones.proofs.Sides.{crossed_once as way_crossed_once, way_leads as whole_way_leads}

module _ (up : ℕ → ℕ) (ordered : Ordered up) where
  pub crossed_once : (s b : ℕ) (steps : List Step) → steps ≡ way_along up s b → EachOnce up s b steps
  crossed_once s b steps e = subst (EachOnce up s b) (sym e) (way_crossed_once up ordered s b)

  pub way_leads : (s b : ℕ) (steps : List Step) → steps ≡ way_along up s b → Leads up s steps b
  way_leads s b steps e = subst (λ (xs : List Step). Leads up s xs b) (sym e) (whole_way_leads up ordered s b)
