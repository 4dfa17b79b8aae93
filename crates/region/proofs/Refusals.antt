-- Refusals on the grounds that come first: the period, and the zone or border.
use Rattle.std.proofs.Common.{◌≡◌, List, [], ◌∷◌, ◌++◌, ℤ, IsErrAnd, Result, sym, subst}
use Rattle.book.specs.declared.fault.RegionFault.{RegionFault}
use Rattle.book.specs.declared.Answer.{Answer}
use Rattle.book.specs.declared.Call.{Call}
use Rattle.book.specs.Views.{View}
use Rattle.book.specs.Grounds.{Ground, FirstHolds, no_period, no_zone, no_border}
use Rattle.book.specs.Calls.{grounds, CallDid}
use Rattle.book.proofs.Orders.{refused, refused_early}

module _ (v : View) (call : Call) where
  first_refused : (front rest : List Ground) → grounds v call ≡ front ++ rest → (r : Result Answer RegionFault) (f : RegionFault) → IsErrAnd r (λ y. y ≡ f) → FirstHolds front f → CallDid v call r v
  first_refused front rest e r f is holds = refused v call r f is (subst (λ (gs : List Ground). FirstHolds gs f) (sym e) (refused_early front rest f holds))

  pub zone_refused : (z p : ℤ) (rest : List Ground) → grounds v call ≡ no_period p ∷ no_zone v.zones z p ∷ rest → (r : Result Answer RegionFault) (f : RegionFault) → IsErrAnd r (λ y. y ≡ f) →
      FirstHolds (no_period p ∷ no_zone v.zones z p ∷ []) f → CallDid v call r v
  zone_refused z p rest e r f is holds = first_refused (no_period p ∷ no_zone v.zones z p ∷ []) rest e r f is holds

  pub border_refused : (c p : ℤ) (rest : List Ground) → grounds v call ≡ no_period p ∷ no_border v.zones c p ∷ rest → (r : Result Answer RegionFault) (f : RegionFault) → IsErrAnd r (λ y. y ≡ f) →
      FirstHolds (no_period p ∷ no_border v.zones c p ∷ []) f → CallDid v call r v
  border_refused c p rest e r f is holds = first_refused (no_period p ∷ no_border v.zones c p ∷ []) rest e r f is holds
