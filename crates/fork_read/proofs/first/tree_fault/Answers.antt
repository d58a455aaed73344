use Rattle.std.proofs.Common.{◌≡◌, ℕ, ◌-◌, List, ap, sym, ◌∙◌, arith}
use Rattle.std.proofs.lemmas.Result.{err_from_is_err_and}
use Rattle.blk_device.specs.declared.device.Region.TheVariants.{Image}
use Rattle.geom.specs.Places.{layout}
use Rattle.dinode_core.specs.Inline.{key_room, root_keys, root_level}
use Rattle.dinode_core.specs.Shape.{area_of, size_of}
use Rattle.fork_read.specs.Answers.{judged}
use Rattle.fork_read.specs.First.{reads_of}
use Rattle.fork_read.specs.Walk.{trail_of}
use Rattle.fork_read.specs.declared.walk.Stop.{Stop}
use Rattle.fork_read.proofs.EachLemmas.{fault_found, few_met, outside_first, tree_started}
use Rattle.fork_read.proofs.RootLemmas.{root_facts}
use Rattle.fork_read.proofs.first.tree_fault.Goals as goal

pub fork_area-area-requires : goal.fork_area-area-requires
fork_area-area-requires g c = let root = root_facts c.args.core.now c.args.fork c.requires.form c.requires.tree in omega (arith, root.inside)

pub root_room-room-requires : goal.root_room-room-requires
root_room-room-requires g c = (root_facts c.args.core.now c.args.fork c.requires.form c.requires.tree).size

pub root_table-table-requires : goal.root_table-table-requires
root_table-table-requires g c =
    let root = root_facts c.args.core.now c.args.fork c.requires.form c.requires.tree in
    let room : c.root_room-room.result ≡ key_room (size_of c.args.core.now c.args.fork) = c.root_room-room.ensures in
    omega (arith, room, root.size, c.fork_area-area.ensures.long)

pub level_in-level-requires-clause-high : goal.level_in-level-requires-clause-high
level_in-level-requires-clause-high g c = rw (c.fork_area-area.ensures.bytes) (root_facts c.args.core.now c.args.fork c.requires.form c.requires.tree).high

pub level_in-level-requires-clause-long : goal.level_in-level-requires-clause-long
level_in-level-requires-clause-long g c =
    let root = root_facts c.args.core.now c.args.fork c.requires.form c.requires.tree in
    omega (arith, root.size, c.fork_area-area.ensures.long)

pub top_in-top-requires-clause-low : goal.top_in-top-requires-clause-low
top_in-top-requires-clause-low g c = rw (c.fork_area-area.ensures.bytes) (root_facts c.args.core.now c.args.fork c.requires.form c.requires.tree).low

pub top_in-top-requires-clause-high : goal.top_in-top-requires-clause-high
top_in-top-requires-clause-high g c = rw (c.fork_area-area.ensures.bytes) (root_facts c.args.core.now c.args.fork c.requires.form c.requires.tree).high

pub top_in-top-requires-clause-long : goal.top_in-top-requires-clause-long
top_in-top-requires-clause-long g c =
    let root = root_facts c.args.core.now c.args.fork c.requires.form c.requires.tree in
    omega (arith, root.size, c.fork_area-area.ensures.long)

pub walk_entries-requires-clause-low : goal.walk_entries-requires-clause-low
walk_entries-requires-clause-low g c =
    let root = root_facts c.args.core.now c.args.fork c.requires.form c.requires.tree in
    let top : c.top_in-top.result ≡ root_level (area_of c.args.core.now c.args.fork) - 1 = c.top_in-top.ensures ∙ ap (λ (xs : List ℕ). root_level xs - 1) c.fork_area-area.ensures.bytes in
    omega (arith, top, root.high)

pub walk_entries-requires-clause-keys : goal.walk_entries-requires-clause-keys
walk_entries-requires-clause-keys g c =
    let root = root_facts c.args.core.now c.args.fork c.requires.form c.requires.tree in
    let room : c.root_room-room.result ≡ key_room (size_of c.args.core.now c.args.fork) = c.root_room-room.ensures in
    let keys : root_keys c.fork_area-area.result.now ≡ root_keys (area_of c.args.core.now c.args.fork) = ap root_keys c.fork_area-area.ensures.bytes in
    rw (c.root_table-table.ensures) (omega (arith, room, keys, root.room, root.size, c.fork_area-area.ensures.long))

pub walk_entries-requires-clause-small : goal.walk_entries-requires-clause-small
walk_entries-requires-clause-small g c =
    let root = root_facts c.args.core.now c.args.fork c.requires.form c.requires.tree in
    let room : c.root_room-room.result ≡ key_room (size_of c.args.core.now c.args.fork) = c.root_room-room.ensures in
    let keys : root_keys c.fork_area-area.result.now ≡ root_keys (area_of c.args.core.now c.args.fork) = ap root_keys c.fork_area-area.ensures.bytes in
    rw (c.root_table-table.ensures) (omega (arith, room, keys, root.room, root.size, c.fork_area-area.ensures.long))

pub judge-requires : goal.judge-requires
judge-requires g c =
    let root = root_facts c.args.core.now c.args.fork c.requires.form c.requires.tree in
    let level : c.level_in-level.result ≡ root_level (area_of c.args.core.now c.args.fork) = c.level_in-level.ensures ∙ ap root_level c.fork_area-area.ensures.bytes in
    omega (arith, level, root.high)

pub returns-in_err-whole-clause-exact : goal.returns-in_err-whole-clause-exact
returns-in_err-whole-clause-exact g c = λ m e. let p = err_from_is_err_and c.from_residual.result c.from_residual.ensures.1 in rw (p.1, p.2) (outside_first (layout c.args.geo.now) (m Image) c.args.core.now c.args.fork c.in_err-whole.field-0.0 c.in_err-whole.ensures.outside)

pub returns-in_err-whole-clause-each : goal.returns-in_err-whole-clause-each
returns-in_err-whole-clause-each g c = λ m e.
    let started = tree_started (layout c.args.geo.now) (m Image) c.args.core.now c.args.fork c.fork_area-area.result.now c.root_table-table.result c.root_room-room.result c.top_in-top.result (trail_of c.fresh_seen-seen.result) c.fork_area-area.ensures.bytes c.root_table-table.ensures c.root_room-room.ensures c.top_in-top.ensures c.fresh_seen-seen.ensures in
    let reads = ap reads_of started in
    let few = few_met (layout c.args.geo.now) (m Image) c.args.core.now c.args.fork c.requires.tree in
    omega (arith, c.walk_entries.ensures.each m e, reads, few)

pub returns-clause-exact : goal.returns-clause-exact
returns-clause-exact g c = λ m e.
    let started = tree_started (layout c.args.geo.now) (m Image) c.args.core.now c.args.fork c.fork_area-area.result.now c.root_table-table.result c.root_room-room.result c.top_in-top.result (trail_of c.fresh_seen-seen.result) c.fork_area-area.ensures.bytes c.root_table-table.ensures c.root_room-room.ensures c.top_in-top.ensures c.fresh_seen-seen.ensures in
    let level : c.level_in-level.result ≡ root_level (area_of c.args.core.now c.args.fork) = c.level_in-level.ensures ∙ ap root_level c.fork_area-area.ensures.bytes in
    let t = trail_of c.walk_entries.new.seen in
    let is = c.judge.ensures ∙ ap (λ (n : ℕ). judged (layout c.args.geo.now) c.args.fork n c.stop_of.result t) level ∙ ap (λ (s : Stop). judged (layout c.args.geo.now) c.args.fork (root_level (area_of c.args.core.now c.args.fork)) s t) c.stop_of.ensures in
    fault_found (layout c.args.geo.now) (m Image) c.args.core.now c.args.fork c.in_ok-whole.whole t c.judge.result c.requires.form c.requires.tree (sym started ∙ c.in_ok-whole.ensures.walked m e) is

pub returns-clause-each : goal.returns-clause-each
returns-clause-each g c = λ m e.
    let started = tree_started (layout c.args.geo.now) (m Image) c.args.core.now c.args.fork c.fork_area-area.result.now c.root_table-table.result c.root_room-room.result c.top_in-top.result (trail_of c.fresh_seen-seen.result) c.fork_area-area.ensures.bytes c.root_table-table.ensures c.root_room-room.ensures c.top_in-top.ensures c.fresh_seen-seen.ensures in
    let reads = ap reads_of started in
    let few = few_met (layout c.args.geo.now) (m Image) c.args.core.now c.args.fork c.requires.tree in
    omega (arith, c.walk_entries.ensures.each m e, reads, few)
