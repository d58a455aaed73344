use Rattle.std.proofs.Common.{◌+◌, ◌-◌, [], ◌∷◌, map, Option, refl, ap, subst, ◌∙◌, arith}
use Rattle.blk_device.specs.ReadingLaws.{read_on}
use Rattle.blk_device.specs.declared.device.Region.TheVariants.{Image}
use Rattle.fs_state.specs.Contradiction.{bad_fork}
use Rattle.fs_state.specs.Lists.{numbers}
use Rattle.fs_model.specs.declared.claim.Evidence.{Evidence}
use Rattle.geom.proofs.ApartLemmas.{splits_in}
use Rattle.geom.specs.Layout.{inode_at}
use Rattle.geom.specs.Places.{layout}
use Rattle.inode_pass.specs.Units.{opened_state}
use Rattle.fork_pass.specs.Passed.{InodesPassed, block_inodes}
use Rattle.fork_pass.specs.Pieces.{inode_pieces}
use Rattle.fork_pass.specs.Counted.{block_most}
use Rattle.fork_pass.proofs.CountLemmas.{block_begun, slot_on}
use Rattle.fork_pass.proofs.PassLemmas.{left_end, left_first, left_found, left_on, row_end, row_first, slot_passed}
use Rattle.fork_pass.proofs.block.pass_block.Goals as goal

pub loop-slot-init : goal.loop-slot-init
loop-slot-init g c =
    record {
      left = λ m e p. let a = opened_state (layout c.args.geo.now) (m Image) in left_first (bad_fork a) (inode_pieces a) (block_inodes (layout c.args.geo.now) c.args.g c.args.b) (map (inode_at (layout c.args.geo.now) c.args.g c.args.b) (numbers (0) (8 - (0)))) c.args.sets.now (refl);
      each = λ m e. block_begun (layout c.args.geo.now) (m Image) c.args.g c.args.b c.args.steps.now.reads c.read_block.new.steps.reads (omega (arith, c.read_block.ensures.one));
      groups = refl;
      reading = c.in_ok-read_block.ensures.reading;
      calm = c.in_ok-read_block.ensures.cause;
    }

pub returns-in_err-see_slot-clause-reading : goal.returns-in_err-see_slot-clause-reading
returns-in_err-see_slot-clause-reading g c =
    read_on g.D.Device g.met.D.Device.only_now g.met.D.Device.counts_now c.args.dev.now c.loop-slot.dev c.see_slot.new.dev c.args.steps.now c.loop-slot.steps c.see_slot.new.steps c.loop-slot.invariant.reading c.see_slot.ensures.reading

pub returns-in-Some-clause-reading : goal.returns-in-Some-clause-reading
returns-in-Some-clause-reading g c =
    read_on g.D.Device g.met.D.Device.only_now g.met.D.Device.counts_now c.args.dev.now c.loop-slot.dev c.see_slot.new.dev c.args.steps.now c.loop-slot.steps c.see_slot.new.steps c.loop-slot.invariant.reading c.see_slot.ensures.reading

pub returns-in-Some-clause-exact : goal.returns-in-Some-clause-exact
returns-in-Some-clause-exact g c =
    λ m e p.
    let a = opened_state (layout c.args.geo.now) (m Image) in
    let passed = subst (λ (o : Option Evidence). InodesPassed a (inode_at (layout c.args.geo.now) c.args.g c.args.b c.loop-slot.slot ∷ []) c.loop-slot.sets c.see_slot.new.sets o) c.in-Some.is (slot_passed (layout c.args.geo.now) (m Image) (splits_in (layout c.args.geo.now) c.args.geo.now.fitting) c.args.g c.args.b c.loop-slot.slot c.number_of-ino.result c.read_block.new.into.bytes c.loop-slot.sets c.see_slot.new.sets c.in_ok-see_slot.field-0 c.requires.group c.requires.block c.loop-slot-test.true p c.number_of-ino.ensures (c.in_ok-read_block.ensures.told m e ∙ ap (m Image) c.device_block-at.ensures) (c.in_ok-see_slot.ensures.exact m (c.loop-slot.invariant.reading.same ∙ e))) in
    left_found (bad_fork a) (inode_pieces a) (block_inodes (layout c.args.geo.now) c.args.g c.args.b) (map (inode_at (layout c.args.geo.now) c.args.g c.args.b) (numbers c.loop-slot.slot (8 - c.loop-slot.slot))) (inode_at (layout c.args.geo.now) c.args.g c.args.b c.loop-slot.slot ∷ []) (map (inode_at (layout c.args.geo.now) c.args.g c.args.b) (numbers (c.loop-slot.slot + 1) (8 - (c.loop-slot.slot + 1)))) c.args.sets.now c.loop-slot.sets c.see_slot.new.sets c.in-Some.found (row_first (inode_at (layout c.args.geo.now) c.args.g c.args.b) c.loop-slot.slot 8 c.loop-slot-test.true) (c.loop-slot.invariant.left m e p) passed

pub loop-slot-preserved : goal.loop-slot-preserved
loop-slot-preserved g c =
    record {
      left = λ m e p.
          let a = opened_state (layout c.args.geo.now) (m Image) in
          let passed = subst (λ (o : Option Evidence). InodesPassed a (inode_at (layout c.args.geo.now) c.args.g c.args.b c.loop-slot.slot ∷ []) c.loop-slot.sets c.see_slot.new.sets o) c.in-None.is (slot_passed (layout c.args.geo.now) (m Image) (splits_in (layout c.args.geo.now) c.args.geo.now.fitting) c.args.g c.args.b c.loop-slot.slot c.number_of-ino.result c.read_block.new.into.bytes c.loop-slot.sets c.see_slot.new.sets c.in_ok-see_slot.field-0 c.requires.group c.requires.block c.loop-slot-test.true p c.number_of-ino.ensures (c.in_ok-read_block.ensures.told m e ∙ ap (m Image) c.device_block-at.ensures) (c.in_ok-see_slot.ensures.exact m (c.loop-slot.invariant.reading.same ∙ e))) in
          left_on (bad_fork a) (inode_pieces a) (block_inodes (layout c.args.geo.now) c.args.g c.args.b) (map (inode_at (layout c.args.geo.now) c.args.g c.args.b) (numbers c.loop-slot.slot (8 - c.loop-slot.slot))) (inode_at (layout c.args.geo.now) c.args.g c.args.b c.loop-slot.slot ∷ []) (map (inode_at (layout c.args.geo.now) c.args.g c.args.b) (numbers (c.loop-slot.slot + 1) (8 - (c.loop-slot.slot + 1)))) c.args.sets.now c.loop-slot.sets c.see_slot.new.sets (row_first (inode_at (layout c.args.geo.now) c.args.g c.args.b) c.loop-slot.slot 8 c.loop-slot-test.true) (c.loop-slot.invariant.left m e p) passed;
      each = λ m e. slot_on (layout c.args.geo.now) (m Image) c.args.g c.args.b c.loop-slot.slot c.loop-slot.steps.reads c.see_slot.new.steps.reads (c.args.steps.now.reads + block_most (layout c.args.geo.now) (m Image) c.args.g c.args.b) c.read_block.new.into.bytes c.loop-slot-test.true (c.in_ok-read_block.ensures.told m e ∙ ap (m Image) c.device_block-at.ensures) (c.loop-slot.invariant.each m e) (c.see_slot.ensures.each m (c.loop-slot.invariant.reading.same ∙ e));
      groups = c.see_slot.ensures.groups ∙ c.loop-slot.invariant.groups;
      reading = read_on g.D.Device g.met.D.Device.only_now g.met.D.Device.counts_now c.args.dev.now c.loop-slot.dev c.see_slot.new.dev c.args.steps.now c.loop-slot.steps c.see_slot.new.steps c.loop-slot.invariant.reading c.see_slot.ensures.reading;
      calm = c.in_ok-see_slot.ensures.cause ∙ c.loop-slot.invariant.calm;
    }

pub returns-clause-exact : goal.returns-clause-exact
returns-clause-exact g c =
    λ m e p. let a = opened_state (layout c.args.geo.now) (m Image) in left_end (bad_fork a) (inode_pieces a) (block_inodes (layout c.args.geo.now) c.args.g c.args.b) (map (inode_at (layout c.args.geo.now) c.args.g c.args.b) (numbers c.loop-slot.slot (8 - c.loop-slot.slot))) c.args.sets.now c.loop-slot.sets (row_end (inode_at (layout c.args.geo.now) c.args.g c.args.b) c.loop-slot.slot 8 (omega (arith, c.loop-slot-test.false))) (c.loop-slot.invariant.left m e p)

pub returns-in_err-read_block-clause-each : goal.returns-in_err-read_block-clause-each
returns-in_err-read_block-clause-each g c = λ m e.
    let begun = block_begun (layout c.args.geo.now) (m Image) c.args.g c.args.b c.args.steps.now.reads c.read_block.new.steps.reads (omega (arith, c.read_block.ensures.one)) in
    omega (arith, begun)

pub returns-in_err-see_slot-clause-each : goal.returns-in_err-see_slot-clause-each
returns-in_err-see_slot-clause-each g c = λ m e.
    let on = slot_on (layout c.args.geo.now) (m Image) c.args.g c.args.b c.loop-slot.slot c.loop-slot.steps.reads c.see_slot.new.steps.reads (c.args.steps.now.reads + block_most (layout c.args.geo.now) (m Image) c.args.g c.args.b) c.read_block.new.into.bytes c.loop-slot-test.true (c.in_ok-read_block.ensures.told m e ∙ ap (m Image) c.device_block-at.ensures) (c.loop-slot.invariant.each m e) (c.see_slot.ensures.each m (c.loop-slot.invariant.reading.same ∙ e)) in
    omega (arith, on)

pub returns-in-Some-clause-each : goal.returns-in-Some-clause-each
returns-in-Some-clause-each g c = λ m e.
    let on = slot_on (layout c.args.geo.now) (m Image) c.args.g c.args.b c.loop-slot.slot c.loop-slot.steps.reads c.see_slot.new.steps.reads (c.args.steps.now.reads + block_most (layout c.args.geo.now) (m Image) c.args.g c.args.b) c.read_block.new.into.bytes c.loop-slot-test.true (c.in_ok-read_block.ensures.told m e ∙ ap (m Image) c.device_block-at.ensures) (c.loop-slot.invariant.each m e) (c.see_slot.ensures.each m (c.loop-slot.invariant.reading.same ∙ e)) in
    omega (arith, on)

pub returns-clause-each : goal.returns-clause-each
returns-clause-each g c = λ m e. omega (arith, c.loop-slot.invariant.each m e)
