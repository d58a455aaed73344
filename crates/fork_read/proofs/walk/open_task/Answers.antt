use Rattle.std.proofs.Common.{◌≡◌, true, sym, ◌∙◌, arith}
use Rattle.geom.specs.Places.{layout}
use Rattle.geom.proofs.ApartLemmas.{lies_inside}
use Rattle.fork_read.specs.Walk.{entry_of, last_in}
use Rattle.fork_read.proofs.WalkLemmas.{sound_count, sound_some}
use Rattle.fork_read.proofs.walk.open_task.Goals as goal

pub load-requires : goal.load-requires
load-requires g c =
    let place = c.in-Some.ensures.place in
    let inside = lies_inside (layout c.args.geo.now) c.args.geo.now.fitting c.in-Some.place.0 c.in-Some.place.1 place.group place.block in
    omega (arith, inside, c.device_block-at.ensures, c.requires.room)

pub returns-clause-most : goal.returns-clause-most
returns-clause-most g c =
    let sound : c.is_sound_at.result ≡ true = c.if-not-is_sound_at.false in
    sound_count (layout c.args.geo.now) c.args.core.now c.args.from c.args.task.now.level (last_in c.args.seen.now.lasts c.args.task.now.level) (entry_of c.args.task.now) (c.in-Some.place.0, c.in-Some.place.1) c.in_ok-block.block.bytes (sym c.is_sound_at.ensures ∙ sound)

pub returns-clause-some : goal.returns-clause-some
returns-clause-some g c =
    let sound : c.is_sound_at.result ≡ true = c.if-not-is_sound_at.false in
    sound_some (layout c.args.geo.now) c.args.core.now c.args.from c.args.task.now.level (last_in c.args.seen.now.lasts c.args.task.now.level) (entry_of c.args.task.now) (c.in-Some.place.0, c.in-Some.place.1) c.in_ok-block.block.bytes (sym c.is_sound_at.ensures ∙ sound)
