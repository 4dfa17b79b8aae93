-- How grounds judged one after another make up the list of a call's grounds.
use Rattle.std.proofs.Common.{◌≡◌, ℕ, List, [], ◌∷◌, ◌++◌, ℤ, IsErrAnd, Some, None, Ok, Err, Result, sym, refl, ◌∙◌, subst, inl, inr, ⊎_elim, arith}
use Rattle.book.specs.declared.fault.RegionFault.{RegionFault}
use Rattle.book.specs.declared.state.State.{State}
use Rattle.book.specs.declared.Answer.{Answer}
use Rattle.book.specs.declared.Call.{Call}
use Rattle.book.specs.States.{state_after}
use Rattle.book.specs.Views.{View, Period, Zone, Border}
use Rattle.book.specs.Grounds.{Ground, Clear, FirstHolds, AllClear, no_period, no_zone, no_border, bad_amount, wrong_state}
use Rattle.book.specs.Calls.{grounds, CallDid}

-- grounds that come after do not matter to a refusal
pub refused_early : (gs hs : List Ground) (f : RegionFault) → FirstHolds gs f → FirstHolds (gs ++ hs) f
refused_early [] hs f h = absurd h
refused_early (g ∷ gs) hs f h = ⊎_elim {C = FirstHolds (g ∷ (gs ++ hs)) f} inl (λ (k : Clear g × FirstHolds gs f). inr (k.0, refused_early gs hs f k.1)) h

-- grounds that come before are clear
pub refused_after : (gs hs : List Ground) (f : RegionFault) → AllClear gs → FirstHolds hs f → FirstHolds (gs ++ hs) f
refused_after [] hs f c h = h
refused_after (g ∷ gs) hs f c h = inr (c.0, refused_after gs hs f c.1 h)

pub clear_after : (gs hs : List Ground) → AllClear gs → AllClear hs → AllClear (gs ++ hs)
clear_after [] hs c d = d
clear_after (g ∷ gs) hs c d = (c.0, clear_after gs hs c.1 d)

-- a ground of one condition
pub clear : (holds : Type 0) (f : RegionFault) → (holds → ⊥) → Clear (λ g. holds × (g ≡ f))
clear holds f none g h = none h.0

module _ (v : View) (call : Call) where
  -- a refusal that a callee passes up, and one that the call itself tells
  pub refused : (r : Result Answer RegionFault) (f : RegionFault) → IsErrAnd r (λ y. y ≡ f) → FirstHolds (grounds v call) f → CallDid v call r v
  refused (Ok x) f h holds = absurd h
  refused (Err y) f h holds = (subst (FirstHolds (grounds v call)) (sym h) holds, refl)

-- what a judged zone or border clears
pub zone_clear : (n : ℕ) (z p : ℤ) → Period p → Zone n z → AllClear (no_period p ∷ no_zone n z p ∷ [])
zone_clear n z p day there = (clear (Period p → ⊥) _ (λ h. h day), (clear (Zone n z → ⊥) _ (λ h. h there), tt))

pub border_clear : (n : ℕ) (c p : ℤ) → Period p → Border n c → AllClear (no_period p ∷ no_border n c p ∷ [])
border_clear n c p day there = (clear (Period p → ⊥) _ (λ h. h day), (clear (Border n c → ⊥) _ (λ h. h there), tt))

-- a state that allows a call
pub state_clear : (v : View) (call : Call) (p : ℤ) (s : State) → state_after v.state call ≡ Some s → Clear (wrong_state v call p)
state_clear v call p s e = clear (state_after v.state call ≡ None) _ (λ h. some_none s (sym e ∙ h))
  where
    some_none : (s : State) → Some s ≡ None → ⊥
    some_none s h = grind arith

pub amount_clear : (allowed : Type 0) (p : ℤ) → allowed → Clear (bad_amount allowed p)
amount_clear allowed p yes' = clear (allowed → ⊥) _ (λ h. h yes')
