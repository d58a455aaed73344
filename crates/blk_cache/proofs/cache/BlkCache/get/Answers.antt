use Rattle.std.proofs.Common.{subst, sym, Option, IfSome}
use Rattle.blk_device.specs.Contents.{Contents}
use Rattle.blk_cache.specs.Cache.{entries_of, capacity_of}
use Rattle.blk_cache.specs.Entries.{Entries, AgreesIn}
use Rattle.blk_cache.proofs.AgreeLemmas.{told_read, told_hit}
use Rattle.blk_cache.proofs.cache.BlkCache.get.Goals as goal

pub returns-in-Some-clause-agrees : goal.returns-in-Some-clause-agrees
returns-in-Some-clause-agrees g c =
    let told : Option Contents = g.D.Device.content c.args.dev.now in
    let old = c.args.self.now in
    told_read c.args.at c.in-Some.block (capacity_of old) (entries_of old) (entries_of c.copy_kept.new.self) told c.in-Some.ensures.found.1
    (told_hit c.args.at c.in-Some.block (entries_of old) told (sym c.in-Some.ensures.value) c.requires.agreed) c.requires.agreed

pub returns-clause-agrees : goal.returns-clause-agrees
returns-clause-agrees g c =
    let told : Option Contents = g.D.Device.content c.args.dev.now in
    let old = c.copy_kept.new.self in
    subst (λ (t : Option Contents). IfSome t (AgreesIn (entries_of c.note_written.new.self))) (sym c.read.ensures.same)
    (told_read c.args.at c.read.new.into (capacity_of old) (entries_of old) (entries_of c.note_written.new.self) told c.note_written.ensures.keeps.1 c.in_ok-read.ensures.bytes
    (subst (λ (es : Entries). IfSome told (AgreesIn es)) (sym c.in_default.ensures.missed.1) c.requires.agreed))
