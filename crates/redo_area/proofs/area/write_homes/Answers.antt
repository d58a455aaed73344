use Rattle.std.proofs.Common.{ℕ, List, ◌+◌, ◌∷◌, ◌≡◌, ◌<◌, ◌∙◌, ap, sym, subst}
use Rattle.byte_fields.specs.declared.block.Block.{Block}
use Rattle.blk_device.specs.Contents.{map_told, put}
use Rattle.blk_device.specs.declared.device.Region.{Region}
use Rattle.blk_device.specs.declared.device.Region.TheVariants.{Image}
use Rattle.blk_device.proofs.Moments.{write_keeps, then_keeps}
use Rattle.blk_device.proofs.Told.{map_twice}
use Rattle.redo_area.specs.Area.{put_homes, homes_of, bytes_of, AllButHomes, Misses}
use Rattle.redo_area.specs.Table.{places}
use Rattle.redo_area.proofs.AreaLaws.{homes_of_bytes}
use Rattle.redo_area.proofs.TableLemmas.{rises_first, hits_first}
use Rattle.redo_area.proofs.ToldLemmas.{told_doubted, told_mapped, told_on}
use Rattle.redo_area.proofs.area.write_homes.Goals as goal

pub write-requires : goal.write-requires
write-requires g c =
    let d = g.D.Device in
    let s = c.loop-number in
    let p = c.in-Some.field-0-0.now in
    let is : places s.rest.now ≡ p.0 ∷ places c.in-Some.later.now = ap places c.in-Some.ensures.cases.0 in
    let first = rises_first s.invariant.rise.0 (d.blocks c.args.dev.now Image) p.0 (places c.in-Some.later.now) _ is s.invariant.rise.1 in
    let same : d.blocks s.dev Image ≡ d.blocks c.args.dev.now Image = ap (λ (f : Region → ℕ). f Image) s.invariant.sizes in
    subst (λ (k : ℕ). p.0 < k) (sym same) first.1

pub returns-in_err-write-clause-moments : goal.returns-in_err-write-clause-moments
returns-in_err-write-clause-moments g c =
    let d = g.D.Device in
    let met = g.met.D.Device in
    let s = c.loop-number in
    let p = c.in-Some.field-0-0.now in
    let is : places s.rest.now ≡ p.0 ∷ places c.in-Some.later.now = ap places c.in-Some.ensures.cases.0 in
    let K = AllButHomes (homes_of (bytes_of c.args.batch.now)) in
    then_keeps d.clock d.may_have_held_since d.may_hold_now met.only_now met.counts_now K _ _ _ s.invariant.moments
    (write_keeps d.clock d.may_have_held_since d.may_hold_now met.only_now met.counts_now K Image p.0 _ _ (λ missed. hits_first p.0 (places c.in-Some.later.now) _ is (subst (λ (l : List ℕ). Misses l p.0) (homes_of_bytes s.rest.now) (s.invariant.among p.0 missed))) c.write.ensures.crash c.write.ensures.time)

pub loop-number-preserved : goal.loop-number-preserved
loop-number-preserved g c =
    let d = g.D.Device in
    let met = g.met.D.Device in
    let s = c.loop-number in
    let p = c.in-Some.field-0-0.now in
    let later = c.in-Some.later.now in
    let is = c.in-Some.ensures.cases.0 in
    let places_is : places s.rest.now ≡ p.0 ∷ places later = ap places is in
    let told = d.content s.dev in
    let K = AllButHomes (homes_of (bytes_of c.args.batch.now)) in
    let first = rises_first s.invariant.rise.0 (d.blocks c.args.dev.now Image) p.0 (places later) _ places_is s.invariant.rise.1 in
    record {
      rise = (p.0 + 1, first.2);
      among = λ b missed. (subst (λ (l : List ℕ). Misses l b) (ap (λ (l : List (ℕ × Block)). homes_of (bytes_of l)) is) (s.invariant.among b missed)).1;
      content = ap (map_told (put_homes (bytes_of later))) c.in_ok-write.ensures.written
          ∙ map_twice (put_homes (bytes_of later)) (put Image p.0 p.1.bytes) told
          ∙ ap (λ (l : List (ℕ × Block)). map_told (put_homes (bytes_of l)) told) (sym is)
          ∙ s.invariant.content;
      moments = then_keeps d.clock d.may_have_held_since d.may_hold_now met.only_now met.counts_now K _ _ _ s.invariant.moments
          (write_keeps d.clock d.may_have_held_since d.may_hold_now met.only_now met.counts_now K Image p.0 _ _ (λ missed. hits_first p.0 (places later) _ places_is (subst (λ (l : List ℕ). Misses l p.0) (homes_of_bytes s.rest.now) (s.invariant.among p.0 missed))) c.write.ensures.crash c.write.ensures.time);
      sizes = c.write.ensures.sizes ∙ s.invariant.sizes;
      faults = c.in_ok-write.ensures.cause ∙ s.invariant.faults;
      reads = c.write.ensures.reads ∙ s.invariant.reads;
    }

pub returns-in_err-write-clause-told : goal.returns-in_err-write-clause-told
returns-in_err-write-clause-told g c =
    let d = g.D.Device in
    let s = c.loop-number in
    told_on (d.content c.args.dev.now) (d.content s.dev) (d.content c.write.new.self) (told_mapped (put_homes (bytes_of s.rest.now)) (put_homes (bytes_of c.args.batch.now)) (d.content c.args.dev.now) (d.content s.dev) s.invariant.content)
    (told_doubted Image c.in-Some.field-0-0.now.0 (d.content s.dev) (d.content c.write.new.self) c.write.ensures.doubt)
