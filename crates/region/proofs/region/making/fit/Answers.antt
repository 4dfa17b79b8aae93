use Rattle.std.proofs.Common.{ℕ, ◌∙◌, arith, rules}
use Rattle.std.proofs.lemmas.Iterator.{first_from_Range}
use Rattle.std.proofs.lemmas.Option.{MatchOption-at_some, MatchOption-at_none}
use Rattle.borders.specs.Bank.{border_at}
use Rattle.book.specs.Making.{HasFlow, WithoutFlow}
use Rattle.region.proofs.Begins.{fits, unfit}
use Rattle.region.proofs.region.making.fit.Goals as goal

pub overflow_cast-result : goal.overflow_cast-result
overflow_cast-result g c =
    let bs = g.B.Bank.borders c.args.bank.now in
    let looked = first_from_Range _ _ _ _ (λ (b : ℕ). HasFlow (border_at bs b)) (λ (b : ℕ). WithoutFlow (border_at bs b)) c.find.ensures.ran (λ x q k. search rules) (λ x q k. search rules) in
    let below = (MatchOption-at_some _ _ c.in-Some.border c.in-Some.is looked).1 in
    omega arith

pub returns-in-None : goal.returns-in-None
returns-in-None g c =
    let given = c.args.parents.now in
    let bs = g.B.Bank.borders c.args.bank.now in
    let made = c.in_ok-tree.ensures in
    let looked = first_from_Range _ _ _ _ (λ (b : ℕ). HasFlow (border_at bs b)) (λ (b : ℕ). WithoutFlow (border_at bs b)) c.find.ensures.ran (λ x q k. search rules) (λ x q k. search rules) in
    (fits given bs c.count-2.result (c.if-parents-count.false ∙ c.count.ensures) made.0 made.1 (c.count-2.ensures.value ∙ made.2) (MatchOption-at_none _ _ c.in-None.is looked), made.2, made.3)

pub returns-in-Some : goal.returns-in-Some
returns-in-Some g c =
    let given = c.args.parents.now in
    let bs = g.B.Bank.borders c.args.bank.now in
    let made = c.in_ok-tree.ensures in
    let looked = first_from_Range _ _ _ _ (λ (b : ℕ). HasFlow (border_at bs b)) (λ (b : ℕ). WithoutFlow (border_at bs b)) c.find.ensures.ran (λ x q k. search rules) (λ x q k. search rules) in
    unfit given bs c.count-2.result c.in-Some.border (c.if-parents-count.false ∙ c.count.ensures) made.0 made.1 (c.count-2.ensures.value ∙ made.2) (MatchOption-at_some _ _ c.in-Some.border c.in-Some.is looked)
