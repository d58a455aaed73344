use Rattle.std.proofs.Common.{ℕ, ◌+◌, Some, ap, length, sym, subst}
use Rattle.dinode_core.specs.declared.mapping.Fork.TheVariants as forks
use Rattle.geom.specs.Places.{layout}
use Rattle.core_scan.specs.Moves.{Delivers}
use Rattle.core_scan.proofs.Begun.{delivers_all, delivers_data, delivers_more}
use Rattle.core_scan.proofs.scan.deliver.Goals as goal

pub returns-in-Some-clause-delivered : goal.returns-in-Some-clause-delivered
returns-in-Some-clause-delivered c =
    subst (λ (k : ℕ). Delivers (layout c.args.geo.now) c.args.core.now c.args.held.now c.args.piece.now c.args.scan.now (record c.args.scan.now { held = Some (record c.args.held.now { next = c.in-Some.next; own = c.args.held.now.own + k; given = c.args.held.now.given + k }); shadow = c.give_piece.new.shadow })) (sym (ap length c.as_slice-mappings.ensures.value))
    (delivers_more c.piece_gives.ensures (layout c.args.geo.now) c.args.core.now c.args.held.now c.args.piece.now c.args.scan.now c.give_piece.new.shadow c.requires.held c.give_piece.ensures.gains c.requires.number c.in-Some.next c.in-Some.is)

pub returns-in-Data-clause-delivered : goal.returns-in-Data-clause-delivered
returns-in-Data-clause-delivered c =
    subst (λ (k : ℕ). Delivers (layout c.args.geo.now) c.args.core.now c.args.held.now c.args.piece.now c.args.scan.now (record c.args.scan.now { held = Some (record c.args.held.now { fork = forks.Attr; next = 0; own = 0; given = c.args.held.now.given + k }); shadow = c.give_piece.new.shadow })) (sym (ap length c.as_slice-mappings.ensures.value))
    (delivers_data c.piece_gives.ensures (layout c.args.geo.now) c.args.core.now c.args.held.now c.args.piece.now c.args.scan.now c.give_piece.new.shadow c.requires.held c.give_piece.ensures.gains c.requires.number c.in-Data.is c.in_default.is)

pub returns-in-Attr-clause-delivered : goal.returns-in-Attr-clause-delivered
returns-in-Attr-clause-delivered c =
    delivers_all c.piece_gives.ensures (layout c.args.geo.now) c.args.core.now c.args.held.now c.args.piece.now c.args.scan.now c.give_piece.new.shadow c.requires.held c.give_piece.ensures.gains c.requires.number c.in-Attr.is c.in_default.is
