use Rattle.std.proofs.Common.{refl, ap, ◌∙◌, w64, SFits}
use Rattle.std.proofs.lemmas.Int.{to_z-of_z}
use Rattle.zones.specs.Trees.{zones}
use Rattle.book.specs.Views.{record_of}
use Rattle.book.proofs.Orders.{zone_clear}
use Rattle.region.proofs.Nets.{zone_told_is}
use Rattle.region.specs.Seen.{seen}
use Rattle.region.proofs.region.Region.ask_zone.Goals as goal

pub returns : goal.returns
returns g c deals sheets =
    let fz = c.ranges.zone in
    let fp = c.ranges.period in
    let fn : SFits w64 c.net-net.result = record { sfits = c.net-net.type_inv } in
    let fo : SFits w64 c.overrun-overrun.result = record { sfits = c.overrun-overrun.type_inv } in
    let there = simp to_z-of_z at c.in_ok-slot.ensures in
    let v = seen g.B.Bank.borders c.args.self.now deals sheets in
    let net = simp to_z-of_z at c.net-net.ensures.value in
    let kept = c.at.ensures ∙ ap (record_of v c.in_ok-slot.slot.zone) there.4 in
    let over = simp to_z-of_z at c.overrun-overrun.ensures in (
      zone_clear (zones c.args.self.now.kept.tree) c.args.zone c.args.period there.0 there.1,
      (
        rw (to_z-of_z w64 c.net-net.result fn, to_z-of_z w64 c.overrun-overrun.result fo)
            (zone_told_is v c.args.zone c.args.period c.in_ok-slot.slot.zone c.net-net.result c.overrun-overrun.result c.at.result there.2 net kept over),
        refl,
      ),
    )
