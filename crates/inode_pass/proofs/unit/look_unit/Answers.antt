use Rattle.std.proofs.Common.{◌≡◌, ◌∙◌, ◌*◌, ◌++◌, ap, refl, arith, length}
use Rattle.blk_device.specs.ReadingLaws.{nothing_read, read_on}
use Rattle.blk_device.specs.declared.device.Region.TheVariants.{Image}
use Rattle.geom.specs.Places.{layout}
use Rattle.inode_pass.specs.Cores.{blocks_looks}
use Rattle.inode_pass.specs.Notes.{blocks_notes}
use Rattle.inode_pass.proofs.CoreLemmas.{block_on, no_block}
use Rattle.inode_pass.proofs.NoteLemmas.{blocks_more, no_blocks}
use Rattle.inode_pass.proofs.unit.look_unit.Goals as goal

pub loop-j-init : goal.loop-j-init
loop-j-init g c = record {
  told = λ m e. c.in_ok-looks.ensures.items ∙ no_block (layout c.args.geo.now) (m Image) c.args.g (8 * c.args.unit);
  noted = λ m e. no_blocks (layout c.args.geo.now) (m Image) c.args.g (8 * c.args.unit) c.args.notes.now.items;
  fit = λ fit. fit;
  counted = ap (λ xs. length xs) c.in_ok-looks.ensures.items;
  reading = nothing_read g.D.Device g.met.D.Device.only_now g.met.D.Device.counts_now c.args.dev.now c.args.steps.now;
  calm = refl;
  few = omega arith;
}

pub returns-in_err-look_read-clause-reading : goal.returns-in_err-look_read-clause-reading
returns-in_err-look_read-clause-reading g c =
    read_on g.D.Device g.met.D.Device.only_now g.met.D.Device.counts_now c.args.dev.now c.loop-j.dev c.look_read.new.dev c.args.steps.now c.loop-j.steps c.look_read.new.steps c.loop-j.invariant.reading c.in_err-look_read.ensures.reading

pub loop-j-preserved : goal.loop-j-preserved
loop-j-preserved g c = record {
  told = λ m e. block_on (layout c.args.geo.now) (m Image) c.args.g (8 * c.args.unit) c.loop-j.j c.loop-j.looks.items c.look_read.new.looks.items (c.loop-j.invariant.told m e) (c.in_ok-look_read.ensures.exact m (c.loop-j.invariant.reading.same ∙ e));
  noted = λ m e. blocks_more (layout c.args.geo.now) (m Image) c.args.g (8 * c.args.unit) c.loop-j.j c.args.notes.now.items c.loop-j.notes.items c.look_read.new.notes.items (c.loop-j.invariant.noted m e) (c.in_ok-look_read.ensures.noted m (c.loop-j.invariant.reading.same ∙ e));
  fit = λ fit. c.in_ok-look_read.ensures.fit (c.loop-j.invariant.fit fit);
  counted = let a = c.in_ok-look_read.ensures.eight in let b = c.loop-j.invariant.counted in omega (arith, a, b);
  reading = read_on g.D.Device g.met.D.Device.only_now g.met.D.Device.counts_now c.args.dev.now c.loop-j.dev c.look_read.new.dev c.args.steps.now c.loop-j.steps c.look_read.new.steps c.loop-j.invariant.reading c.in_ok-look_read.ensures.reading;
  calm = c.in_ok-look_read.ensures.cause ∙ c.loop-j.invariant.calm;
  few = let a = c.in_ok-look_read.ensures.one in let b = c.loop-j.invariant.few in omega (arith, a, b);
}

pub returns-clause-exact : goal.returns-clause-exact
returns-clause-exact g c = λ m e.
    let all : c.loop-j.j ≡ 8 = omega (arith, c.loop-j-test.false, c.loop-j.auto.j-end) in
    c.loop-j.invariant.told m e ∙ ap (blocks_looks (layout c.args.geo.now) (m Image) c.args.g (8 * c.args.unit)) all

pub returns-clause-noted : goal.returns-clause-noted
returns-clause-noted g c = λ m e.
    let all : c.loop-j.j ≡ 8 = omega (arith, c.loop-j-test.false, c.loop-j.auto.j-end) in
    c.loop-j.invariant.noted m e ∙ ap (λ n. c.args.notes.now.items ++ blocks_notes (layout c.args.geo.now) (m Image) c.args.g (8 * c.args.unit) n) all
