use Rattle.std.proofs.Common.{◌≡◌, ◌<◌, ◌+◌, ◌-◌, ◌∙◌, ℕ, List, ◌∷◌, ap, sym, subst, drop, arith}
use Rattle.blk_device.specs.declared.device.Region.{Region}
use Rattle.blk_device.specs.declared.device.Region.TheVariants.{Image}
use Rattle.blk_device.specs.Contents.{put, map_told}
use Rattle.blk_device.proofs.Moments.{write_keeps, sync_keeps, then_keeps}
use Rattle.redo_area.specs.Area.{AllButHomes, Misses, put_waiting}
use Rattle.redo_area.specs.Table.{numbers, table_numbers}
use Rattle.redo_area.proofs.Steps.{copied, raised_more}
use Rattle.redo_area.proofs.TableLemmas.{numbers_more, rises_first, hits_first}
use Rattle.redo_area.proofs.ToldLemmas.{told_doubted, told_mapped, told_on, told_same}
use Rattle.redo_area.proofs.recovery.write_waiting.Goals as goal

pub returns-in_err-read-clause-moments : goal.returns-in_err-read-clause-moments
returns-in_err-read-clause-moments g c =
    let d = g.D.Device in
    let met = g.met.D.Device in
    let s = c.loop-left in
    let K = AllButHomes (table_numbers c.args.table.now.bytes) in
    then_keeps d.clock d.may_have_held_since d.may_hold_now met.only_now met.counts_now K c.args.dev.now s.dev c.read.new.self s.invariant.moments
    (sync_keeps d.clock d.may_have_held_since d.may_hold_now met.only_now met.counts_now K s.dev c.read.new.self c.read.ensures.crash c.read.ensures.time)

pub write-requires : goal.write-requires
write-requires g c =
    let d = g.D.Device in
    let s = c.loop-left in
    let bytes = c.args.table.now.bytes in
    let ns = numbers (s.left - 1) (drop (s.at + 8) bytes) in
    let xs = numbers s.left (drop s.at bytes) in
    let n = c.get_u64-number.result in
    let is : xs ≡ n ∷ ns = numbers_more s.left s.at bytes (omega arith) ∙ ap (λ (k : ℕ). k ∷ ns) (sym c.get_u64-number.ensures) in
    let first = rises_first s.invariant.rise.0 (d.blocks c.args.dev.now Image) n ns xs is s.invariant.rise.1 in
    let same : d.blocks c.read.new.self Image ≡ d.blocks c.args.dev.now Image = ap (λ (f : Region → ℕ). f Image) (c.read.ensures.sizes ∙ s.invariant.sizes) in
    subst (λ (k : ℕ). n < k) (sym same) first.1

pub returns-in_err-write-clause-moments : goal.returns-in_err-write-clause-moments
returns-in_err-write-clause-moments g c =
    let d = g.D.Device in
    let met = g.met.D.Device in
    let s = c.loop-left in
    let bytes = c.args.table.now.bytes in
    let K = AllButHomes (table_numbers bytes) in
    let ns = numbers (s.left - 1) (drop (s.at + 8) bytes) in
    let xs = numbers s.left (drop s.at bytes) in
    let n = c.get_u64-number.result in
    let is : xs ≡ n ∷ ns = numbers_more s.left s.at bytes (omega arith) ∙ ap (λ (k : ℕ). k ∷ ns) (sym c.get_u64-number.ensures) in
    then_keeps d.clock d.may_have_held_since d.may_hold_now met.only_now met.counts_now K c.args.dev.now c.read.new.self c.write.new.self
    (then_keeps d.clock d.may_have_held_since d.may_hold_now met.only_now met.counts_now K c.args.dev.now s.dev c.read.new.self s.invariant.moments
    (sync_keeps d.clock d.may_have_held_since d.may_hold_now met.only_now met.counts_now K s.dev c.read.new.self c.read.ensures.crash c.read.ensures.time))
    (write_keeps d.clock d.may_have_held_since d.may_hold_now met.only_now met.counts_now K Image n c.read.new.self c.write.new.self (λ missed. hits_first n ns xs is (s.invariant.among n missed)) c.write.ensures.crash c.write.ensures.time)

pub loop-left-preserved : goal.loop-left-preserved
loop-left-preserved g c =
    let d = g.D.Device in
    let met = g.met.D.Device in
    let s = c.loop-left in
    let bytes = c.args.table.now.bytes in
    let K = AllButHomes (table_numbers bytes) in
    let ns = numbers (s.left - 1) (drop (s.at + 8) bytes) in
    let xs = numbers s.left (drop s.at bytes) in
    let n = c.get_u64-number.result in
    let is : xs ≡ n ∷ ns = numbers_more s.left s.at bytes (omega arith) ∙ ap (λ (k : ℕ). k ∷ ns) (sym c.get_u64-number.ensures) in
    let first = rises_first s.invariant.rise.0 (d.blocks c.args.dev.now Image) n ns xs is s.invariant.rise.1 in
    let copy = c.read.new.into.bytes in
    record {
      room = omega arith;
      count = omega arith;
      rise = (n + 1, first.2);
      among = λ b missed. (subst (λ (l : List ℕ). Misses l b) is (s.invariant.among b missed)).1;
      content = ap (map_told (put_waiting ns (s.place + 1))) (c.in_ok-write.ensures.written ∙ ap (map_told (put Image n copy)) c.read.ensures.same)
          ∙ copied n s.place ns xs copy (d.content s.dev) is c.in_ok-read.ensures.bytes
          ∙ s.invariant.content;
      moments = then_keeps d.clock d.may_have_held_since d.may_hold_now met.only_now met.counts_now K c.args.dev.now c.read.new.self c.write.new.self
          (then_keeps d.clock d.may_have_held_since d.may_hold_now met.only_now met.counts_now K c.args.dev.now s.dev c.read.new.self s.invariant.moments
          (sync_keeps d.clock d.may_have_held_since d.may_hold_now met.only_now met.counts_now K s.dev c.read.new.self c.read.ensures.crash c.read.ensures.time))
          (write_keeps d.clock d.may_have_held_since d.may_hold_now met.only_now met.counts_now K Image n c.read.new.self c.write.new.self (λ missed. hits_first n ns xs is (s.invariant.among n missed)) c.write.ensures.crash c.write.ensures.time);
      sizes = c.write.ensures.sizes ∙ c.read.ensures.sizes ∙ s.invariant.sizes;
      faults = c.in_ok-write.ensures.cause ∙ c.in_ok-read.ensures.cause ∙ s.invariant.faults;
      reads = (s.invariant.reads.0 + 1, omega (arith, s.invariant.reads.1), c.write.ensures.reads ∙ raised_more (d.reads c.args.dev.now) s.invariant.reads.0 (d.reads s.dev) (d.reads c.read.new.self) s.invariant.reads.2 c.read.ensures.reads);
    }

pub returns-in_err-read-clause-reads : goal.returns-in_err-read-clause-reads
returns-in_err-read-clause-reads g c =
    let s = c.loop-left in
    (s.invariant.reads.0 + 1, omega (arith, s.invariant.reads.1, s.invariant.count, c.requires.few, c.loop-left-test.true), raised_more (g.D.Device.reads c.args.dev.now) s.invariant.reads.0 (g.D.Device.reads s.dev) (g.D.Device.reads c.read.new.self) s.invariant.reads.2 c.read.ensures.reads)

pub returns-in_err-write-clause-reads : goal.returns-in_err-write-clause-reads
returns-in_err-write-clause-reads g c =
    let s = c.loop-left in
    (s.invariant.reads.0 + 1, omega (arith, s.invariant.reads.1, s.invariant.count, c.requires.few, c.loop-left-test.true), c.write.ensures.reads ∙ raised_more (g.D.Device.reads c.args.dev.now) s.invariant.reads.0 (g.D.Device.reads s.dev) (g.D.Device.reads c.read.new.self) s.invariant.reads.2 c.read.ensures.reads)

pub returns-in_err-read-clause-told : goal.returns-in_err-read-clause-told
returns-in_err-read-clause-told g c =
    let d = g.D.Device in
    let s = c.loop-left in
    let old = d.content c.args.dev.now in
    told_on old (d.content s.dev) (d.content c.read.new.self) (told_mapped (put_waiting (numbers s.left (drop s.at c.args.table.now.bytes)) s.place) (put_waiting (table_numbers c.args.table.now.bytes) 2) old (d.content s.dev) s.invariant.content)
    (told_same (d.content s.dev) (d.content c.read.new.self) c.read.ensures.same)

pub returns-in_err-write-clause-told : goal.returns-in_err-write-clause-told
returns-in_err-write-clause-told g c =
    let d = g.D.Device in
    let s = c.loop-left in
    let old = d.content c.args.dev.now in
    told_on old (d.content c.read.new.self) (d.content c.write.new.self)
    (told_on old (d.content s.dev) (d.content c.read.new.self) (told_mapped (put_waiting (numbers s.left (drop s.at c.args.table.now.bytes)) s.place) (put_waiting (table_numbers c.args.table.now.bytes) 2) old (d.content s.dev) s.invariant.content)
    (told_same (d.content s.dev) (d.content c.read.new.self) c.read.ensures.same))
    (told_doubted Image c.get_u64-number.result (d.content c.read.new.self) (d.content c.write.new.self) c.write.ensures.doubt)
