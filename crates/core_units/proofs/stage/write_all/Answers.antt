use Rattle.std.proofs.Common.{ℕ, List, ◌+◌, ◌≡◌, ◌<◌, ◌∙◌, ap, sym, subst, refl}
use Rattle.byte_fields.specs.declared.block.Block.{Block}
use Rattle.blk_device.specs.Contents.{map_told, put}
use Rattle.blk_device.specs.declared.device.Region.{Region}
use Rattle.blk_device.specs.declared.device.Region.TheVariants.{Image}
use Rattle.blk_device.specs.Moments.{no_call, then_keeps, write_keeps}
use Rattle.blk_device.proofs.Told.{map_twice}
use Rattle.core_units.specs.Staged.{IsKept, with_blocks}
use Rattle.core_units.proofs.StageLemmas.{first_on, first_out, kept_on, kept_self, not_kept}
use Rattle.core_units.proofs.stage.write_all.Goals as goal

pub write_one-requires-clause-inside : goal.write_one-requires-clause-inside
write_one-requires-clause-inside g c =
    let s = c.loop-block in
    let p = c.in-Some.field-0-0.now in
    let on = first_on c.args.first _ p c.in-Some.later.now s.rest.now c.in-Some.ensures.cases.0 s.invariant.inside in
    let d = g.D.Device in
    let same : d.blocks s.dev Image ≡ d.blocks c.args.dev.now Image = ap (λ (f : Region → ℕ). f Image) s.invariant.sizes in
    subst (λ (k : ℕ). c.args.first + p.0 < k) (sym same) on.0

pub returns-in_err-write_one-clause-moments : goal.returns-in_err-write_one-clause-moments
returns-in_err-write_one-clause-moments g c =
    let d = g.D.Device in
    let met = g.met.D.Device in
    let s = c.loop-block in
    let p = c.in-Some.field-0-0.now in
    λ keep out.
    let first = first_out c.args.first keep p c.in-Some.later.now s.rest.now c.in-Some.ensures.cases.0 (s.invariant.out keep out) in
    then_keeps d.clock d.may_have_held_since d.may_hold_now met.only_now met.counts_now (IsKept keep) _ _ _ (s.invariant.moments keep out)
    (write_keeps d.clock d.may_have_held_since d.may_hold_now met.only_now met.counts_now (IsKept keep) Image (c.args.first + p.0) _ _ (not_kept keep (c.args.first + p.0) first.0) c.write_one.ensures.crash c.write_one.ensures.time)

pub returns-in_err-write_one-clause-kept : goal.returns-in_err-write_one-clause-kept
returns-in_err-write_one-clause-kept g c =
    let s = c.loop-block in
    let p = c.in-Some.field-0-0.now in
    λ keep out.
    let first = first_out c.args.first keep p c.in-Some.later.now s.rest.now c.in-Some.ensures.cases.0 (s.invariant.out keep out) in
    kept_on keep (c.args.first + p.0) _ _ _ first.0 (s.invariant.kept keep out) c.write_one.ensures.doubt

pub loop-block-preserved : goal.loop-block-preserved
loop-block-preserved g c =
    let d = g.D.Device in
    let met = g.met.D.Device in
    let s = c.loop-block in
    let f = c.args.first in
    let p = c.in-Some.field-0-0.now in
    let later = c.in-Some.later.now in
    let is = c.in-Some.ensures.cases.0 in
    let told = d.content s.dev in
    record {
      inside = (first_on f (d.blocks c.args.dev.now Image) p later s.rest.now is s.invariant.inside).1;
      content = ap (map_told (with_blocks f later)) c.in_ok-write_one.ensures.written
          ∙ map_twice (with_blocks f later) (put Image (f + p.0) p.1.bytes) told
          ∙ ap (λ (l : List (ℕ × Block)). map_told (with_blocks f l) told) (sym is)
          ∙ s.invariant.content;
      out = λ keep out. (first_out f keep p later s.rest.now is (s.invariant.out keep out)).1;
      moments = λ keep out. then_keeps d.clock d.may_have_held_since d.may_hold_now met.only_now met.counts_now (IsKept keep) _ _ _ (s.invariant.moments keep out)
          (write_keeps d.clock d.may_have_held_since d.may_hold_now met.only_now met.counts_now (IsKept keep) Image (f + p.0) _ _ (not_kept keep (f + p.0) (first_out f keep p later s.rest.now is (s.invariant.out keep out)).0) c.write_one.ensures.crash c.write_one.ensures.time);
      kept = λ keep out. kept_on keep (f + p.0) _ _ _ (first_out f keep p later s.rest.now is (s.invariant.out keep out)).0 (s.invariant.kept keep out) c.write_one.ensures.doubt;
      agrees = λ m agreed. let i = s.invariant.agrees m agreed in (put Image (f + p.0) p.1.bytes i.0, c.note_one.ensures i.0 i.1, ap (λ (l : List (ℕ × Block)). with_blocks f l i.0) (sym is) ∙ i.2);
      sizes = c.write_one.ensures.sizes ∙ s.invariant.sizes;
      faults = c.in_ok-write_one.ensures.cause ∙ s.invariant.faults;
      reads = c.write_one.ensures.reads ∙ s.invariant.reads;
    }

pub loop-block-init : goal.loop-block-init
loop-block-init g c =
    let d = g.D.Device in
    let met = g.met.D.Device in
    record {
      inside = c.requires.inside;
      content = refl;
      out = λ keep out. out;
      moments = λ keep out. no_call d.clock d.may_have_held_since d.may_hold_now met.only_now met.counts_now (IsKept keep) c.args.dev.now;
      kept = λ keep out. kept_self keep (d.content c.args.dev.now);
      agrees = λ m agreed. (m, agreed, refl);
      sizes = refl;
      faults = refl;
      reads = refl;
    }
