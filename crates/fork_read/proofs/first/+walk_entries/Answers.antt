use Rattle.std.proofs.Common.{◌≡◌, ◌+◌, ◌-◌, ◌≤◌, Bool, length, Result, Ok, refl, ap, sym, subst, ◌∙◌, arith}
use Rattle.blk_device.specs.ReadingLaws.{nothing_read, read_on}
use Rattle.blk_device.specs.declared.device.Region.TheVariants.{Image}
use Rattle.geom.specs.Places.{layout}
use Rattle.dinode_core.specs.ForkTree.{Trail, node_entries}
use Rattle.fork_read.specs.Answers.{bytes_of}
use Rattle.fork_read.specs.First.{ended, entries_in, reads_of, walk_below}
use Rattle.fork_read.specs.Walk.{trail_of}
use Rattle.fork_read.proofs.EachLemmas.{all_walked, bad_below, bad_entry, below_reads, entry_reads, first_left, leaf_entry, node_entry, one_taken}
use Rattle.fork_read.proofs.first.+walk_entries.Goals as goal

pub loop-i-init : goal.loop-i-init
loop-i-init g t c =
    record {
      all = refl;
      goes_on = λ m e. first_left (layout c.args.geo.now) (m Image) c.args.core.now c.args.level c.args.table.now c.args.bytes.now (trail_of c.args.seen.now);
      each = λ m e. omega arith;
      reading = nothing_read g.D.Device g.met.D.Device.only_now g.met.D.Device.counts_now c.args.dev.now c.args.steps.now;
      calm = refl;
    }

pub returns-in_err-found-clause-each : goal.returns-in_err-found-clause-each
returns-in_err-found-clause-each g t c =
    λ m e. omega (arith, c.loop-i.invariant.each m e, c.open_task.ensures.few, entry_reads (layout c.args.geo.now) (m Image) c.args.core.now c.args.level c.args.table.now c.loop-i.i c.args.bytes.now (trail_of c.loop-i.seen) (walk_below (layout c.args.geo.now) (m Image) c.args.core.now c.args.level (entries_in c.args.table.now c.args.bytes.now) (trail_of c.args.seen.now)) (omega (arith, c.loop-i-test.true, c.loop-i.invariant.all)) (c.loop-i.invariant.goes_on m e))

pub returns-in_err-found-clause-reading : goal.returns-in_err-found-clause-reading
returns-in_err-found-clause-reading g t c =
    read_on g.D.Device g.met.D.Device.only_now g.met.D.Device.counts_now c.args.dev.now c.loop-i.dev c.open_task.new.dev c.args.steps.now c.loop-i.steps c.open_task.new.steps c.loop-i.invariant.reading c.open_task.ensures.reading

pub returns-in_default-clause-each : goal.returns-in_default-clause-each
returns-in_default-clause-each g t c =
    λ m e. omega (arith, c.loop-i.invariant.each m e, c.open_task.ensures.few, entry_reads (layout c.args.geo.now) (m Image) c.args.core.now c.args.level c.args.table.now c.loop-i.i c.args.bytes.now (trail_of c.loop-i.seen) (walk_below (layout c.args.geo.now) (m Image) c.args.core.now c.args.level (entries_in c.args.table.now c.args.bytes.now) (trail_of c.args.seen.now)) (omega (arith, c.loop-i-test.true, c.loop-i.invariant.all)) (c.loop-i.invariant.goes_on m e))

pub returns-in_default-clause-reading : goal.returns-in_default-clause-reading
returns-in_default-clause-reading g t c =
    read_on g.D.Device g.met.D.Device.only_now g.met.D.Device.counts_now c.args.dev.now c.loop-i.dev c.open_task.new.dev c.args.steps.now c.loop-i.steps c.open_task.new.steps c.loop-i.invariant.reading c.open_task.ensures.reading

pub returns-in_default-clause-walked : goal.returns-in_default-clause-walked
returns-in_default-clause-walked g t c =
    λ m e. bad_entry (layout c.args.geo.now) (m Image) c.args.core.now c.args.level c.args.table.now c.loop-i.i c.args.bytes.now c.entry_at-task.result (trail_of c.loop-i.seen) (walk_below (layout c.args.geo.now) (m Image) c.args.core.now c.args.level (entries_in c.args.table.now c.args.bytes.now) (trail_of c.args.seen.now)) (omega (arith, c.loop-i-test.true, c.loop-i.invariant.all)) c.entry_at-task.ensures (c.loop-i.invariant.goes_on m e) (c.in_ok-found.ensures.found m (c.loop-i.invariant.reading.same ∙ e) ∙ ap bytes_of c.in_default.is)

pub returns-in_err-take_block-clause-each : goal.returns-in_err-take_block-clause-each
returns-in_err-take_block-clause-each g t c =
    λ m e. omega (arith, c.loop-i.invariant.each m e, c.open_task.ensures.few, entry_reads (layout c.args.geo.now) (m Image) c.args.core.now c.args.level c.args.table.now c.loop-i.i c.args.bytes.now (trail_of c.loop-i.seen) (walk_below (layout c.args.geo.now) (m Image) c.args.core.now c.args.level (entries_in c.args.table.now c.args.bytes.now) (trail_of c.args.seen.now)) (omega (arith, c.loop-i-test.true, c.loop-i.invariant.all)) (c.loop-i.invariant.goes_on m e))

pub returns-in_err-take_block-clause-reading : goal.returns-in_err-take_block-clause-reading
returns-in_err-take_block-clause-reading g t c =
    read_on g.D.Device g.met.D.Device.only_now g.met.D.Device.counts_now c.args.dev.now c.loop-i.dev c.open_task.new.dev c.args.steps.now c.loop-i.steps c.open_task.new.steps c.loop-i.invariant.reading c.open_task.ensures.reading

pub loop-i-preserved-then-level-eq0 : goal.loop-i-preserved-then-level-eq0
loop-i-preserved-then-level-eq0 g t c =
    record {
      all = c.loop-i.invariant.all;
      goes_on = λ m e. leaf_entry (layout c.args.geo.now) (m Image) c.args.core.now c.args.level c.args.table.now c.loop-i.i c.args.bytes.now c.entry_at-task.result (trail_of c.loop-i.seen) (trail_of c.take_block.new.seen) c.in-Some.block.bytes (walk_below (layout c.args.geo.now) (m Image) c.args.core.now c.args.level (entries_in c.args.table.now c.args.bytes.now) (trail_of c.args.seen.now)) (omega (arith, c.loop-i-test.true, c.loop-i.invariant.all)) c.entry_at-task.ensures (c.loop-i.invariant.goes_on m e) (c.in_ok-found.ensures.found m (c.loop-i.invariant.reading.same ∙ e) ∙ ap bytes_of c.in-Some.is) c.in_ok-take_block.ensures.taken c.if-level-eq0.true;
      each = λ m e. let one = (ap (λ (v : Trail). length v.blocks) c.in_ok-take_block.ensures.taken ∙ one_taken c.entry_at-task.result.level _ c.in-Some.block.bytes (trail_of c.loop-i.seen)) in omega (arith, c.loop-i.invariant.each m e, c.open_task.ensures.few, one);
      reading = read_on g.D.Device g.met.D.Device.only_now g.met.D.Device.counts_now c.args.dev.now c.loop-i.dev c.open_task.new.dev c.args.steps.now c.loop-i.steps c.open_task.new.steps c.loop-i.invariant.reading c.open_task.ensures.reading;
      calm = c.in_ok-found.ensures.cause ∙ c.loop-i.invariant.calm;
    }

pub returns-in_err-whole-clause-each : goal.returns-in_err-whole-clause-each
returns-in_err-whole-clause-each g t c =
    λ m e.
    let one = (ap (λ (v : Trail). length v.blocks) c.in_ok-take_block.ensures.taken ∙ one_taken c.entry_at-task.result.level _ c.in-Some.block.bytes (trail_of c.loop-i.seen)) in
    let told = (subst (λ (r : Result Trail Trail). c.walk_entries.new.steps.reads + length (trail_of c.take_block.new.seen).blocks ≤ c.open_task.new.steps.reads + reads_of r) (ap (λ tb. walk_below (layout c.args.geo.now) (m Image) c.args.core.now (c.args.level - 1) (entries_in tb c.in-Some.block.bytes) (trail_of c.take_block.new.seen)) c.node_table-below.ensures) (c.walk_entries.ensures.each m ((read_on g.D.Device g.met.D.Device.only_now g.met.D.Device.counts_now c.args.dev.now c.loop-i.dev c.open_task.new.dev c.args.steps.now c.loop-i.steps c.open_task.new.steps c.loop-i.invariant.reading c.open_task.ensures.reading).same ∙ e))) in
    let part = below_reads (layout c.args.geo.now) (m Image) c.args.core.now c.args.level c.args.table.now c.loop-i.i c.args.bytes.now c.entry_at-task.result (trail_of c.loop-i.seen) (trail_of c.take_block.new.seen) c.in-Some.block.bytes (walk_below (layout c.args.geo.now) (m Image) c.args.core.now c.args.level (entries_in c.args.table.now c.args.bytes.now) (trail_of c.args.seen.now)) (omega (arith, c.loop-i-test.true, c.loop-i.invariant.all)) c.entry_at-task.ensures (c.loop-i.invariant.goes_on m e) (c.in_ok-found.ensures.found m (c.loop-i.invariant.reading.same ∙ e) ∙ ap bytes_of c.in-Some.is) c.in_ok-take_block.ensures.taken (omega (arith, c.if-level-eq0.false)) in
    omega (arith, c.loop-i.invariant.each m e, c.open_task.ensures.few, one, told, part)

pub returns-in_err-whole-clause-reading : goal.returns-in_err-whole-clause-reading
returns-in_err-whole-clause-reading g t c =
    read_on g.D.Device g.met.D.Device.only_now g.met.D.Device.counts_now c.args.dev.now c.open_task.new.dev c.walk_entries.new.dev c.args.steps.now c.open_task.new.steps c.walk_entries.new.steps (read_on g.D.Device g.met.D.Device.only_now g.met.D.Device.counts_now c.args.dev.now c.loop-i.dev c.open_task.new.dev c.args.steps.now c.loop-i.steps c.open_task.new.steps c.loop-i.invariant.reading c.open_task.ensures.reading) c.walk_entries.ensures.reading

pub returns-then-not-whole-clause-each : goal.returns-then-not-whole-clause-each
returns-then-not-whole-clause-each g t c =
    λ m e.
    let one = (ap (λ (v : Trail). length v.blocks) c.in_ok-take_block.ensures.taken ∙ one_taken c.entry_at-task.result.level _ c.in-Some.block.bytes (trail_of c.loop-i.seen)) in
    let told = (subst (λ (r : Result Trail Trail). c.walk_entries.new.steps.reads + length (trail_of c.take_block.new.seen).blocks ≤ c.open_task.new.steps.reads + reads_of r) (ap (λ tb. walk_below (layout c.args.geo.now) (m Image) c.args.core.now (c.args.level - 1) (entries_in tb c.in-Some.block.bytes) (trail_of c.take_block.new.seen)) c.node_table-below.ensures) (c.walk_entries.ensures.each m ((read_on g.D.Device g.met.D.Device.only_now g.met.D.Device.counts_now c.args.dev.now c.loop-i.dev c.open_task.new.dev c.args.steps.now c.loop-i.steps c.open_task.new.steps c.loop-i.invariant.reading c.open_task.ensures.reading).same ∙ e))) in
    let part = below_reads (layout c.args.geo.now) (m Image) c.args.core.now c.args.level c.args.table.now c.loop-i.i c.args.bytes.now c.entry_at-task.result (trail_of c.loop-i.seen) (trail_of c.take_block.new.seen) c.in-Some.block.bytes (walk_below (layout c.args.geo.now) (m Image) c.args.core.now c.args.level (entries_in c.args.table.now c.args.bytes.now) (trail_of c.args.seen.now)) (omega (arith, c.loop-i-test.true, c.loop-i.invariant.all)) c.entry_at-task.ensures (c.loop-i.invariant.goes_on m e) (c.in_ok-found.ensures.found m (c.loop-i.invariant.reading.same ∙ e) ∙ ap bytes_of c.in-Some.is) c.in_ok-take_block.ensures.taken (omega (arith, c.if-level-eq0.false)) in
    omega (arith, c.loop-i.invariant.each m e, c.open_task.ensures.few, one, told, part)

pub returns-then-not-whole-clause-reading : goal.returns-then-not-whole-clause-reading
returns-then-not-whole-clause-reading g t c =
    read_on g.D.Device g.met.D.Device.only_now g.met.D.Device.counts_now c.args.dev.now c.open_task.new.dev c.walk_entries.new.dev c.args.steps.now c.open_task.new.steps c.walk_entries.new.steps (read_on g.D.Device g.met.D.Device.only_now g.met.D.Device.counts_now c.args.dev.now c.loop-i.dev c.open_task.new.dev c.args.steps.now c.loop-i.steps c.open_task.new.steps c.loop-i.invariant.reading c.open_task.ensures.reading) c.walk_entries.ensures.reading

pub returns-then-not-whole-clause-walked : goal.returns-then-not-whole-clause-walked
returns-then-not-whole-clause-walked g t c =
    λ m e. bad_below (layout c.args.geo.now) (m Image) c.args.core.now c.args.level c.args.table.now c.loop-i.i c.args.bytes.now c.entry_at-task.result (trail_of c.loop-i.seen) (trail_of c.take_block.new.seen) (trail_of c.walk_entries.new.seen) c.in-Some.block.bytes (walk_below (layout c.args.geo.now) (m Image) c.args.core.now c.args.level (entries_in c.args.table.now c.args.bytes.now) (trail_of c.args.seen.now)) (omega (arith, c.loop-i-test.true, c.loop-i.invariant.all)) c.entry_at-task.ensures (c.loop-i.invariant.goes_on m e) (c.in_ok-found.ensures.found m (c.loop-i.invariant.reading.same ∙ e) ∙ ap bytes_of c.in-Some.is) c.in_ok-take_block.ensures.taken (omega (arith, c.if-level-eq0.false)) (sym (ap (λ tb. walk_below (layout c.args.geo.now) (m Image) c.args.core.now (c.args.level - 1) (entries_in tb c.in-Some.block.bytes) (trail_of c.take_block.new.seen)) c.node_table-below.ensures) ∙ c.in_ok-whole.ensures.walked m ((read_on g.D.Device g.met.D.Device.only_now g.met.D.Device.counts_now c.args.dev.now c.loop-i.dev c.open_task.new.dev c.args.steps.now c.loop-i.steps c.open_task.new.steps c.loop-i.invariant.reading c.open_task.ensures.reading).same ∙ e) ∙ ap (λ (b : Bool). ended b (trail_of c.walk_entries.new.seen)) c.if-not-whole.true)

pub loop-i-preserved : goal.loop-i-preserved
loop-i-preserved g t c =
    record {
      all = c.loop-i.invariant.all;
      goes_on = λ m e. node_entry (layout c.args.geo.now) (m Image) c.args.core.now c.args.level c.args.table.now c.loop-i.i c.args.bytes.now c.entry_at-task.result (trail_of c.loop-i.seen) (trail_of c.take_block.new.seen) (trail_of c.walk_entries.new.seen) c.in-Some.block.bytes (walk_below (layout c.args.geo.now) (m Image) c.args.core.now c.args.level (entries_in c.args.table.now c.args.bytes.now) (trail_of c.args.seen.now)) (omega (arith, c.loop-i-test.true, c.loop-i.invariant.all)) c.entry_at-task.ensures (c.loop-i.invariant.goes_on m e) (c.in_ok-found.ensures.found m (c.loop-i.invariant.reading.same ∙ e) ∙ ap bytes_of c.in-Some.is) c.in_ok-take_block.ensures.taken (omega (arith, c.if-level-eq0.false)) (sym (ap (λ tb. walk_below (layout c.args.geo.now) (m Image) c.args.core.now (c.args.level - 1) (entries_in tb c.in-Some.block.bytes) (trail_of c.take_block.new.seen)) c.node_table-below.ensures) ∙ c.in_ok-whole.ensures.walked m ((read_on g.D.Device g.met.D.Device.only_now g.met.D.Device.counts_now c.args.dev.now c.loop-i.dev c.open_task.new.dev c.args.steps.now c.loop-i.steps c.open_task.new.steps c.loop-i.invariant.reading c.open_task.ensures.reading).same ∙ e) ∙ ap (λ (b : Bool). ended b (trail_of c.walk_entries.new.seen)) c.if-not-whole.false);
      each = λ m e.
          let one = (ap (λ (v : Trail). length v.blocks) c.in_ok-take_block.ensures.taken ∙ one_taken c.entry_at-task.result.level _ c.in-Some.block.bytes (trail_of c.loop-i.seen)) in
          let told = (subst (λ (r : Result Trail Trail). c.walk_entries.new.steps.reads + length (trail_of c.take_block.new.seen).blocks ≤ c.open_task.new.steps.reads + reads_of r) (ap (λ tb. walk_below (layout c.args.geo.now) (m Image) c.args.core.now (c.args.level - 1) (entries_in tb c.in-Some.block.bytes) (trail_of c.take_block.new.seen)) c.node_table-below.ensures) (c.walk_entries.ensures.each m ((read_on g.D.Device g.met.D.Device.only_now g.met.D.Device.counts_now c.args.dev.now c.loop-i.dev c.open_task.new.dev c.args.steps.now c.loop-i.steps c.open_task.new.steps c.loop-i.invariant.reading c.open_task.ensures.reading).same ∙ e))) in
          let walked : (walk_below (layout c.args.geo.now) (m Image) c.args.core.now (c.args.level - 1) (node_entries c.in-Some.block.bytes) (trail_of c.take_block.new.seen)) ≡ Ok (trail_of c.walk_entries.new.seen) = sym (ap (λ tb. walk_below (layout c.args.geo.now) (m Image) c.args.core.now (c.args.level - 1) (entries_in tb c.in-Some.block.bytes) (trail_of c.take_block.new.seen)) c.node_table-below.ensures) ∙ c.in_ok-whole.ensures.walked m ((read_on g.D.Device g.met.D.Device.only_now g.met.D.Device.counts_now c.args.dev.now c.loop-i.dev c.open_task.new.dev c.args.steps.now c.loop-i.steps c.open_task.new.steps c.loop-i.invariant.reading c.open_task.ensures.reading).same ∙ e) ∙ ap (λ (b : Bool). ended b (trail_of c.walk_entries.new.seen)) c.if-not-whole.false in
          let reads = ap reads_of walked in
          omega (arith, c.loop-i.invariant.each m e, c.open_task.ensures.few, one, told, reads);
      reading = read_on g.D.Device g.met.D.Device.only_now g.met.D.Device.counts_now c.args.dev.now c.open_task.new.dev c.walk_entries.new.dev c.args.steps.now c.open_task.new.steps c.walk_entries.new.steps (read_on g.D.Device g.met.D.Device.only_now g.met.D.Device.counts_now c.args.dev.now c.loop-i.dev c.open_task.new.dev c.args.steps.now c.loop-i.steps c.open_task.new.steps c.loop-i.invariant.reading c.open_task.ensures.reading) c.walk_entries.ensures.reading;
      calm = c.in_ok-whole.ensures.cause ∙ (c.in_ok-found.ensures.cause ∙ c.loop-i.invariant.calm);
    }

pub returns-clause-walked : goal.returns-clause-walked
returns-clause-walked g t c =
    λ m e. all_walked (layout c.args.geo.now) (m Image) c.args.core.now c.args.level c.args.table.now c.loop-i.i c.args.bytes.now (trail_of c.loop-i.seen) (walk_below (layout c.args.geo.now) (m Image) c.args.core.now c.args.level (entries_in c.args.table.now c.args.bytes.now) (trail_of c.args.seen.now)) (omega (arith, c.loop-i-test.false, c.loop-i.invariant.all)) (c.loop-i.invariant.goes_on m e)

pub returns-clause-each : goal.returns-clause-each
returns-clause-each g t c =
    λ m e.
    let walked = all_walked (layout c.args.geo.now) (m Image) c.args.core.now c.args.level c.args.table.now c.loop-i.i c.args.bytes.now (trail_of c.loop-i.seen) (walk_below (layout c.args.geo.now) (m Image) c.args.core.now c.args.level (entries_in c.args.table.now c.args.bytes.now) (trail_of c.args.seen.now)) (omega (arith, c.loop-i-test.false, c.loop-i.invariant.all)) (c.loop-i.invariant.goes_on m e) in
    let reads = ap reads_of walked in
    omega (arith, c.loop-i.invariant.each m e, reads)
