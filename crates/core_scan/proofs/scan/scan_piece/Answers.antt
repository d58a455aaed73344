use Rattle.std.proofs.Common.{◌≡◌, sym, subst}
use Rattle.blk_device.specs.declared.device.Region.TheVariants.{Image}
use Rattle.geom.specs.Places.{layout}
use Rattle.core_scan.specs.Equation.{IsUntied, core_at}
use Rattle.core_scan.proofs.Begun.{if_told}
use Rattle.core_scan.proofs.scan.scan_piece.Goals as goal

pub returns-in_err-make_room-clause-kept : goal.returns-in_err-make_room-clause-kept
returns-in_err-make_room-clause-kept g c = λ m e a at calm untied k. c.make_room.ensures.kept a (m Image) k

pub returns-clause-kept : goal.returns-clause-kept
returns-clause-kept g c =
    λ m e a at calm untied k.
    c.deliver.ensures.delivered a (m Image) at calm (subst (IsUntied a) (sym c.make_room.ensures.group) untied)
    (if_told (g.D.Device.content c.args.dev.now) (λ x. c.args.core.now ≡ core_at (layout c.args.geo.now) (x Image) c.args.held.now.ino) m e c.requires.core)
    (c.in_ok-piece.ensures.exact m e) c.in_ok-piece.ensures.size.behind (c.make_room.ensures.kept a (m Image) k)
