use Rattle.std.proofs.Common.{◌≡◌, ◌+◌, ◌-◌, List, Option, refl, ap, sym, subst, ◌∙◌, arith}
use Rattle.blk_device.specs.ReadingLaws.{nothing_read, read_on}
use Rattle.blk_device.specs.declared.device.Region.TheVariants.{Image}
use Rattle.fs_model.specs.declared.claim.Evidence.{Evidence}
use Rattle.fs_state.specs.Contradiction.{bad_fork}
use Rattle.geom.specs.Places.{layout}
use Rattle.inode_pass.specs.Notes.{AreFit}
use Rattle.inode_pass.specs.Units.{opened_state}
use Rattle.inode_pass.specs.declared.note.ForkNote.{ForkNote}
use Rattle.fork_pass.specs.Passed.{InodesPassed, group_inodes, inodes_from, notes_at, units_at}
use Rattle.fork_pass.specs.Pieces.{inode_pieces}
use Rattle.fork_pass.specs.Counted.{forks_most}
use Rattle.fork_pass.proofs.CountLemmas.{forks_begun, group_on}
use Rattle.fork_pass.proofs.KeptLemmas.{group_told}
use Rattle.fork_pass.proofs.PassLemmas.{left_end, left_first, left_found, left_on, spread_end, spread_first}
use Rattle.fork_pass.proofs.pass.pass_groups.Goals as goal

pub loop-g-init : goal.loop-g-init
loop-g-init g c =
    record {
      left = λ m e p n.
          let a = opened_state (layout c.args.geo.now) (m Image) in
          let zero : c.args.geo.now.agcount - 0 ≡ c.args.geo.now.agcount = omega arith in
          left_first (bad_fork a) (inode_pieces a) (inodes_from (layout c.args.geo.now) c.args.inodes.now 0 c.args.geo.now.agcount) (inodes_from (layout c.args.geo.now) c.args.inodes.now 0 (c.args.geo.now.agcount - 0)) c.args.sets.now (ap (inodes_from (layout c.args.geo.now) c.args.inodes.now 0) zero);
      each = λ m e. forks_begun (layout c.args.geo.now) (m Image) (notes_at c.args.inodes.now) c.args.steps.now.reads;
      others = λ h le. refl;
      units = refl;
      all = refl;
      groups = refl;
      reading = nothing_read g.D.Device g.met.D.Device.only_now g.met.D.Device.counts_now c.args.dev.now c.args.steps.now;
      calm = refl;
    }

pub pass_group-requires-clause-fit : goal.pass_group-requires-clause-fit
pass_group-requires-clause-fit g c =
    subst (λ (ns : List ForkNote). AreFit (layout c.args.geo.now) c.loop-g.g ns) (sym (c.loop-g.invariant.others c.loop-g.g (omega arith))) (c.requires.fit c.loop-g.g c.loop-g-test.true)

pub returns-in_err-pass_group-clause-reading : goal.returns-in_err-pass_group-clause-reading
returns-in_err-pass_group-clause-reading g c =
    read_on g.D.Device g.met.D.Device.only_now g.met.D.Device.counts_now c.args.dev.now c.loop-g.dev c.pass_group.new.dev c.args.steps.now c.loop-g.steps c.pass_group.new.steps c.loop-g.invariant.reading c.pass_group.ensures.reading

pub returns-in-Some-clause-reading : goal.returns-in-Some-clause-reading
returns-in-Some-clause-reading g c =
    read_on g.D.Device g.met.D.Device.only_now g.met.D.Device.counts_now c.args.dev.now c.loop-g.dev c.pass_group.new.dev c.args.steps.now c.loop-g.steps c.pass_group.new.steps c.loop-g.invariant.reading c.pass_group.ensures.reading

pub returns-in-Some-clause-exact : goal.returns-in-Some-clause-exact
returns-in-Some-clause-exact g c =
    λ m e p n.
    let a = opened_state (layout c.args.geo.now) (m Image) in
    let told = group_told (layout c.args.geo.now) (m Image) c.loop-g.g c.args.inodes.now c.loop-g.inodes c.loop-g.sets c.pass_group.new.sets c.in_ok-pass_group.field-0 (c.loop-g.invariant.others c.loop-g.g (omega arith)) c.loop-g.invariant.units (p c.loop-g.g c.loop-g-test.true) (n c.loop-g.g c.loop-g-test.true) (c.in_ok-pass_group.ensures.exact m (c.loop-g.invariant.reading.same ∙ e)) in
    let passed = subst (λ (o : Option Evidence). InodesPassed a (group_inodes (layout c.args.geo.now) c.loop-g.g (units_at c.args.inodes.now c.loop-g.g)) c.loop-g.sets c.pass_group.new.sets o) c.in-Some.is told in
    left_found (bad_fork a) (inode_pieces a) (inodes_from (layout c.args.geo.now) c.args.inodes.now 0 c.args.geo.now.agcount) (inodes_from (layout c.args.geo.now) c.args.inodes.now c.loop-g.g (c.args.geo.now.agcount - c.loop-g.g)) (group_inodes (layout c.args.geo.now) c.loop-g.g (units_at c.args.inodes.now c.loop-g.g)) (inodes_from (layout c.args.geo.now) c.args.inodes.now (c.loop-g.g + 1) (c.args.geo.now.agcount - (c.loop-g.g + 1))) c.args.sets.now c.loop-g.sets c.pass_group.new.sets c.in-Some.found (spread_first (λ h. group_inodes (layout c.args.geo.now) h (units_at c.args.inodes.now h)) c.loop-g.g c.args.geo.now.agcount c.loop-g-test.true) (c.loop-g.invariant.left m e p n) passed

pub loop-g-preserved : goal.loop-g-preserved
loop-g-preserved g c =
    record {
      left = λ m e p n.
          let a = opened_state (layout c.args.geo.now) (m Image) in
          let told = group_told (layout c.args.geo.now) (m Image) c.loop-g.g c.args.inodes.now c.loop-g.inodes c.loop-g.sets c.pass_group.new.sets c.in_ok-pass_group.field-0 (c.loop-g.invariant.others c.loop-g.g (omega arith)) c.loop-g.invariant.units (p c.loop-g.g c.loop-g-test.true) (n c.loop-g.g c.loop-g-test.true) (c.in_ok-pass_group.ensures.exact m (c.loop-g.invariant.reading.same ∙ e)) in
          let passed = subst (λ (o : Option Evidence). InodesPassed a (group_inodes (layout c.args.geo.now) c.loop-g.g (units_at c.args.inodes.now c.loop-g.g)) c.loop-g.sets c.pass_group.new.sets o) c.in-None.is told in
          left_on (bad_fork a) (inode_pieces a) (inodes_from (layout c.args.geo.now) c.args.inodes.now 0 c.args.geo.now.agcount) (inodes_from (layout c.args.geo.now) c.args.inodes.now c.loop-g.g (c.args.geo.now.agcount - c.loop-g.g)) (group_inodes (layout c.args.geo.now) c.loop-g.g (units_at c.args.inodes.now c.loop-g.g)) (inodes_from (layout c.args.geo.now) c.args.inodes.now (c.loop-g.g + 1) (c.args.geo.now.agcount - (c.loop-g.g + 1))) c.args.sets.now c.loop-g.sets c.pass_group.new.sets (spread_first (λ h. group_inodes (layout c.args.geo.now) h (units_at c.args.inodes.now h)) c.loop-g.g c.args.geo.now.agcount c.loop-g-test.true) (c.loop-g.invariant.left m e p n) passed;
      each = λ m e. group_on (layout c.args.geo.now) (m Image) (notes_at c.args.inodes.now) c.loop-g.g c.loop-g.steps.reads c.pass_group.new.steps.reads (c.args.steps.now.reads + forks_most (layout c.args.geo.now) (m Image) (notes_at c.args.inodes.now)) (notes_at c.loop-g.inodes c.loop-g.g) c.loop-g-test.true (c.loop-g.invariant.others c.loop-g.g (omega arith)) (c.loop-g.invariant.each m e) (c.pass_group.ensures.each m (c.loop-g.invariant.reading.same ∙ e));
      others = λ h le. c.pass_group.ensures.others h (omega (arith, le)) ∙ c.loop-g.invariant.others h (omega (arith, le));
      units = c.pass_group.ensures.units ∙ c.loop-g.invariant.units;
      all = c.pass_group.ensures.all ∙ c.loop-g.invariant.all;
      groups = c.pass_group.ensures.groups ∙ c.loop-g.invariant.groups;
      reading = read_on g.D.Device g.met.D.Device.only_now g.met.D.Device.counts_now c.args.dev.now c.loop-g.dev c.pass_group.new.dev c.args.steps.now c.loop-g.steps c.pass_group.new.steps c.loop-g.invariant.reading c.pass_group.ensures.reading;
      calm = c.in_ok-pass_group.ensures.cause ∙ c.loop-g.invariant.calm;
    }

pub returns-clause-exact : goal.returns-clause-exact
returns-clause-exact g c =
    λ m e p n.
    let a = opened_state (layout c.args.geo.now) (m Image) in
    left_end (bad_fork a) (inode_pieces a) (inodes_from (layout c.args.geo.now) c.args.inodes.now 0 c.args.geo.now.agcount) (inodes_from (layout c.args.geo.now) c.args.inodes.now c.loop-g.g (c.args.geo.now.agcount - c.loop-g.g)) c.args.sets.now c.loop-g.sets (spread_end (λ h. group_inodes (layout c.args.geo.now) h (units_at c.args.inodes.now h)) c.loop-g.g c.args.geo.now.agcount (omega (arith, c.loop-g-test.false))) (c.loop-g.invariant.left m e p n)

pub returns-in_err-pass_group-clause-each : goal.returns-in_err-pass_group-clause-each
returns-in_err-pass_group-clause-each g c = λ m e.
    let on = group_on (layout c.args.geo.now) (m Image) (notes_at c.args.inodes.now) c.loop-g.g c.loop-g.steps.reads c.pass_group.new.steps.reads (c.args.steps.now.reads + forks_most (layout c.args.geo.now) (m Image) (notes_at c.args.inodes.now)) (notes_at c.loop-g.inodes c.loop-g.g) c.loop-g-test.true (c.loop-g.invariant.others c.loop-g.g (omega arith)) (c.loop-g.invariant.each m e) (c.pass_group.ensures.each m (c.loop-g.invariant.reading.same ∙ e)) in
    omega (arith, on)

pub returns-in-Some-clause-each : goal.returns-in-Some-clause-each
returns-in-Some-clause-each g c = λ m e.
    let on = group_on (layout c.args.geo.now) (m Image) (notes_at c.args.inodes.now) c.loop-g.g c.loop-g.steps.reads c.pass_group.new.steps.reads (c.args.steps.now.reads + forks_most (layout c.args.geo.now) (m Image) (notes_at c.args.inodes.now)) (notes_at c.loop-g.inodes c.loop-g.g) c.loop-g-test.true (c.loop-g.invariant.others c.loop-g.g (omega arith)) (c.loop-g.invariant.each m e) (c.pass_group.ensures.each m (c.loop-g.invariant.reading.same ∙ e)) in
    omega (arith, on)

pub returns-clause-each : goal.returns-clause-each
returns-clause-each g c = λ m e. omega (arith, c.loop-g.invariant.each m e)
