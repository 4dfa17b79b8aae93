use Rattle.std.proofs.Common.{◌≡◌, ◌⊎◌, Result, sym, subst, ⊎_elim, w32, SFits, rules}
use Rattle.std.proofs.lemmas.Int.{to_z-of_z}
use Rattle.book.specs.declared.Answer.{Answer}
use Rattle.book.specs.declared.fault.RegionFault.{RegionFault}
use Rattle.book.specs.declared.Call.{Call}
use Rattle.book.specs.Views.{View}
use Rattle.book.specs.declared.Call.TheVariants.{Offer, Gate, End}
use Rattle.book.specs.Calls.{CallDid, OnlyStateJudged}
use Rattle.region.proofs.region.Region.call.Goals as goal

-- what is known of the call as it was taken apart holds of the call
of_call : (v w : View) (r : Result Answer RegionFault) (call given : Call) → call ≡ given → CallDid v given r w → CallDid v call r w
of_call v w r call given e did = subst (λ (x : Call). CallDid v x r w) (sym e) did

pub returns-in-Sheet-clause-did : goal.returns-in-Sheet-clause-did
returns-in-Sheet-clause-did g c =
    let f_border : SFits w32 c.in-Sheet.border = search rules in
    let f_period : SFits w32 c.in-Sheet.period = search rules in
    of_call _ _ _ _ _ c.in-Sheet.is (simp to_z-of_z at (c.sheet.ensures.did c.args.deals.now))

pub returns-in-Limit-clause-did : goal.returns-in-Limit-clause-did
returns-in-Limit-clause-did g c =
    let f_zone : SFits w32 c.in-Limit.zone = search rules in
    let f_period : SFits w32 c.in-Limit.period = search rules in
    let f_import : SFits w32 c.in-Limit.import = search rules in
    let f_export : SFits w32 c.in-Limit.export = search rules in
    of_call _ _ _ _ _ c.in-Limit.is (simp to_z-of_z at (c.limit.ensures c.args.deals.now c.args.sheets.now))

pub returns-in-Position-clause-did : goal.returns-in-Position-clause-did
returns-in-Position-clause-did g c =
    let f_zone : SFits w32 c.in-Position.zone = search rules in
    let f_period : SFits w32 c.in-Position.period = search rules in
    let f_mw : SFits w32 c.in-Position.mw = search rules in
    of_call _ _ _ _ _ c.in-Position.is (simp to_z-of_z at (c.position.ensures c.args.deals.now c.args.sheets.now))

pub returns-in-AskBorder-clause-did : goal.returns-in-AskBorder-clause-did
returns-in-AskBorder-clause-did g c =
    let f_border : SFits w32 c.in-AskBorder.border = search rules in
    let f_period : SFits w32 c.in-AskBorder.period = search rules in
    of_call _ _ _ _ _ c.in-AskBorder.is (simp to_z-of_z at (c.ask_border.ensures c.args.deals.now c.args.sheets.now))

pub returns-in-AskZone-clause-did : goal.returns-in-AskZone-clause-did
returns-in-AskZone-clause-did g c =
    let f_zone : SFits w32 c.in-AskZone.zone = search rules in
    let f_period : SFits w32 c.in-AskZone.period = search rules in
    of_call _ _ _ _ _ c.in-AskZone.is (simp to_z-of_z at (c.ask_zone.ensures c.args.deals.now c.args.sheets.now))

-- a call of which only the state is judged
moved_on : (v w : View) (r : Result Answer RegionFault) (call : Call) → (call ≡ Offer) ⊎ ((call ≡ Gate) ⊎ (call ≡ End)) → OnlyStateJudged v call r w → CallDid v call r w
moved_on v w r call which did =
    ⊎_elim
    (λ (e : call ≡ Offer). of_call v w r call Offer e (subst (λ (x : Call). OnlyStateJudged v x r w) e did))
    (⊎_elim
    (λ (e : call ≡ Gate). of_call v w r call Gate e (subst (λ (x : Call). OnlyStateJudged v x r w) e did))
    (λ (e : call ≡ End). of_call v w r call End e (subst (λ (x : Call). OnlyStateJudged v x r w) e did)))
    which

pub returns-in-Offer-clause-did : goal.returns-in-Offer-clause-did
returns-in-Offer-clause-did g c = moved_on _ _ _ c.args.call c.in-Offer.is (c.move_on.ensures c.args.deals.now c.args.sheets.now)
