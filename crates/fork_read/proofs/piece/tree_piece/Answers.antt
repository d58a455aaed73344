use Rattle.std.proofs.Common.{◌≡◌, None, map, refl, ◌∙◌, ap, arith}
use Rattle.std.proofs.lemmas.Result.{IfOk-weaker, err_from_is_err_and}
use Rattle.blk_device.specs.declared.device.Region.TheVariants.{Image}
use Rattle.geom.specs.Places.{layout}
use Rattle.dinode_core.specs.Inline.{key_room, root_level}
use Rattle.dinode_core.specs.Shape.{area_of, size_of}
use Rattle.fork_read.specs.Answers.{IsPiece, judged, next_of}
use Rattle.fork_read.specs.Walk.{trail_of}
use Rattle.fork_read.proofs.PieceLemmas.{ends_of, numbers_same, tree_answered, tree_outside}
use Rattle.fork_read.proofs.RangeLemmas.{tree_ranged}
use Rattle.fork_read.proofs.RootLemmas.{first_pushed, low_first, root_facts}
use Rattle.fork_read.proofs.SizeLemmas.{sized}
use Rattle.fork_read.proofs.SpendLemmas.{both_ok, nothing_spent, tree_paid, tree_spent}
use Rattle.fork_read.proofs.piece.tree_piece.Goals as goal

pub fork_area-area-requires : goal.fork_area-area-requires
fork_area-area-requires g c = let root = root_facts c.args.core.now c.args.fork c.requires.form c.requires.tree in omega (arith, root.inside)

pub root_room-room-requires : goal.root_room-room-requires
root_room-room-requires g c = (root_facts c.args.core.now c.args.fork c.requires.form c.requires.tree).size

pub push_root-requires-clause-low : goal.push_root-requires-clause-low
push_root-requires-clause-low g c = rw (c.fork_area-area.ensures.bytes) (root_facts c.args.core.now c.args.fork c.requires.form c.requires.tree).low

pub push_root-requires-clause-high : goal.push_root-requires-clause-high
push_root-requires-clause-high g c = rw (c.fork_area-area.ensures.bytes) (root_facts c.args.core.now c.args.fork c.requires.form c.requires.tree).high

pub push_root-requires-clause-keys : goal.push_root-requires-clause-keys
push_root-requires-clause-keys g c = rw (c.fork_area-area.ensures.bytes, c.root_room-room.ensures) (root_facts c.args.core.now c.args.fork c.requires.form c.requires.tree).room

pub push_root-requires-clause-long : goal.push_root-requires-clause-long
push_root-requires-clause-long g c =
    let root = root_facts c.args.core.now c.args.fork c.requires.form c.requires.tree in
    let room : c.root_room-room.result ≡ key_room (size_of c.args.core.now c.args.fork) = c.root_room-room.ensures in
    omega (arith, room, root.size, c.fork_area-area.ensures.long)

pub walk_piece-requires-clause-low : goal.walk_piece-requires-clause-low
walk_piece-requires-clause-low g c =
    let root = root_facts c.args.core.now c.args.fork c.requires.form c.requires.tree in
    low_first c.args.core.now c.args.fork c.args.from c.fork_area-area.result.now c.root_room-room.result c.push_root.new.tasks.items c.new-tasks.result.items root.low root.high c.fork_area-area.ensures.bytes c.root_room-room.ensures c.new-tasks.ensures.items c.in_ok-level.ensures.pushed

pub answer-requires : goal.answer-requires
answer-requires g c =
    let root = root_facts c.args.core.now c.args.fork c.requires.form c.requires.tree in
    rw (c.in_ok-level.ensures.level, c.fork_area-area.ensures.bytes) root.high

pub returns-in_err-stop-clause-exact : goal.returns-in_err-stop-clause-exact
returns-in_err-stop-clause-exact g c = λ m e.
    let p = err_from_is_err_and c.from_residual-in_err-stop.result c.from_residual-in_err-stop.ensures.1 in rw (p.1, p.2) (tree_outside (layout c.args.geo.now) (m Image) c.args.core.now c.args.fork c.args.from c.in_err-stop.field-0.0 c.in_err-stop.ensures.outside)

pub returns-clause-exact : goal.returns-clause-exact
returns-clause-exact g c = λ m e.
    let first = first_pushed c.args.core.now c.args.fork c.args.from c.fork_area-area.result.now c.root_room-room.result c.push_root.new.tasks.items c.new-tasks.result.items c.fork_area-area.ensures.bytes c.root_room-room.ensures c.new-tasks.ensures.items c.in_ok-level.ensures.pushed in
    let level : c.in_ok-level.level ≡ root_level (area_of c.args.core.now c.args.fork) = c.in_ok-level.ensures.level ∙ ap root_level c.fork_area-area.ensures.bytes in
    let walked = ends_of (layout c.args.geo.now) (m Image) c.args.core.now c.args.fork c.args.from c.push_root.new.tasks.items c.walk_piece.new.tasks.items (trail_of c.fresh_seen-seen.result) (trail_of c.walk_piece.new.seen) c.in_ok-stop.stop first c.fresh_seen-seen.ensures (c.in_ok-stop.ensures.reached m e) (c.in_ok-stop.ensures.stopped m e) in
    tree_answered (layout c.args.geo.now) (m Image) c.args.core.now c.args.fork c.args.from c.in_ok-stop.stop (trail_of c.walk_piece.new.seen) c.in_ok-level.level (map (λ b. b.block) c.walk_piece.new.seen.blocks.items) c.answer.result walked level (numbers_same c.walk_piece.new.seen.blocks.items) c.answer.ensures.good c.answer.ensures.piece c.answer.ensures.fault

pub returns-clause-size : goal.returns-clause-size
returns-clause-size g c = sized (layout c.args.geo.now) c.args.fork c.in_ok-level.level c.args.from (trail_of c.walk_piece.new.seen) (map (λ b. b.block) c.walk_piece.new.seen.blocks.items) c.walk_piece.new.tasks.items c.in_ok-stop.stop c.answer.result c.answer.ensures.good c.in_ok-stop.ensures.leaves c.answer.ensures.piece

pub returns-clause-range : goal.returns-clause-range
returns-clause-range g c =
    tree_ranged (layout c.args.geo.now) c.args.fork c.in_ok-level.level c.args.from c.in_ok-stop.stop (trail_of c.walk_piece.new.seen) (map (λ b. b.block) c.walk_piece.new.seen.blocks.items) (next_of c.in_ok-stop.stop) c.answer.result c.answer.ensures.good c.answer.ensures.piece

pub returns-in_err-level-clause-spent : goal.returns-in_err-level-clause-spent
returns-in_err-level-clause-spent g c = λ m e. nothing_spent (layout c.args.geo.now) (m Image) c.args.core.now c.args.fork c.args.from c.args.steps.now.reads c.args.steps.now.reads refl

pub returns-in_err-stop-clause-spent : goal.returns-in_err-stop-clause-spent
returns-in_err-stop-clause-spent g c = λ m e.
    let first = first_pushed c.args.core.now c.args.fork c.args.from c.fork_area-area.result.now c.root_room-room.result c.push_root.new.tasks.items c.new-tasks.result.items c.fork_area-area.ensures.bytes c.root_room-room.ensures c.new-tasks.ensures.items c.in_ok-level.ensures.pushed in
    tree_spent (layout c.args.geo.now) (m Image) c.args.core.now c.args.fork c.args.from c.push_root.new.tasks.items (trail_of c.fresh_seen-seen.result) c.args.steps.now.reads c.walk_piece.new.steps.reads first c.fresh_seen-seen.ensures c.requires.tree (c.walk_piece.ensures.spent m e)

pub returns-clause-spent : goal.returns-clause-spent
returns-clause-spent g c = λ m e.
    let first = first_pushed c.args.core.now c.args.fork c.args.from c.fork_area-area.result.now c.root_room-room.result c.push_root.new.tasks.items c.new-tasks.result.items c.fork_area-area.ensures.bytes c.root_room-room.ensures c.new-tasks.ensures.items c.in_ok-level.ensures.pushed in
    tree_spent (layout c.args.geo.now) (m Image) c.args.core.now c.args.fork c.args.from c.push_root.new.tasks.items (trail_of c.fresh_seen-seen.result) c.args.steps.now.reads c.walk_piece.new.steps.reads first c.fresh_seen-seen.ensures c.requires.tree (c.walk_piece.ensures.spent m e)

pub returns-clause-paid : goal.returns-clause-paid
returns-clause-paid g c =
    let good = both_ok (λ _. judged (layout c.args.geo.now) c.args.fork c.in_ok-level.level c.in_ok-stop.stop (trail_of c.walk_piece.new.seen) ≡ None) (λ piece. IsPiece c.args.from c.walk_piece.new.seen.mappings.items (map (λ b. b.block) c.walk_piece.new.seen.blocks.items) (next_of c.in_ok-stop.stop) piece) c.answer.result c.answer.ensures.good c.answer.ensures.piece in
    let first = first_pushed c.args.core.now c.args.fork c.args.from c.fork_area-area.result.now c.root_room-room.result c.push_root.new.tasks.items c.new-tasks.result.items c.fork_area-area.ensures.bytes c.root_room-room.ensures c.new-tasks.ensures.items c.in_ok-level.ensures.pushed in
    IfOk-weaker c.answer.result _ _ (λ piece h m e.
    tree_paid (layout c.args.geo.now) (m Image) c.args.core.now c.args.fork c.args.from c.requires.form c.requires.tree c.push_root.new.tasks.items c.walk_piece.new.tasks.items (trail_of c.fresh_seen-seen.result) c.walk_piece.new.seen c.in_ok-stop.stop c.in_ok-level.level c.args.steps.now.reads c.walk_piece.new.steps.reads piece first c.fresh_seen-seen.ensures h.0 h.1 (c.in_ok-stop.ensures.paid m e)) good
