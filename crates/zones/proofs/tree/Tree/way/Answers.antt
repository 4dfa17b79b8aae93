use Rattle.std.proofs.Common.{◌≡◌, true, sym, refl, arith}
use Rattle.zones.specs.Trees.{up as parent_of, is_zone}
use Rattle.zones.proofs.Crossed.{crossed_once, way_leads}
use Rattle.zones.proofs.Climb.{seller_climbs, buyer_climbs, climb_ends}
use Rattle.zones.proofs.tree.Tree.way.Goals as goal

pub loop-from-preserved-then-from-to : goal.loop-from-preserved-then-from-to
loop-from-preserved-then-from-to c = rw c.up-from.ensures.value (seller_climbs c.args.self.now.ordered c.loop-from.invariant c.if-from-to.true)

pub loop-from-preserved : goal.loop-from-preserved
loop-from-preserved c =
    let r = c.loop-from.invariant.room_for_buyer in
    rw c.up-to.ensures.value (buyer_climbs c.args.self.now.ordered c.loop-from.invariant (omega arith) (omega arith))

pub returns : goal.returns
returns c =
    let t = c.args.self.now in
    let s = c.args.seller in
    let b = c.args.buyer in
    let found = climb_ends t.ordered c.loop-from.invariant (omega arith) refl c.copy_within.ensures.after in
    let one : is_zone t s ≡ true = sym c.if-not-has.ensures in
    let other : is_zone t b ≡ true = sym c.if-not-has-2.ensures in
    record {
      steps = rw (one, other) found;
      once = λ _. crossed_once (parent_of t) t.ordered s b _ found;
      leads = λ _. way_leads (parent_of t) t.ordered s b _ found;
    }
