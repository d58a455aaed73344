use Rattle.std.proofs.Common.{◌≡◌, ◌-◌, arith, refl, sym, ap, ◌∙◌}
use Rattle.ino_recs.specs.Chunks.{ino_at}
use Rattle.sblock.specs.Blocks.{numrecs, records_of}
use Rattle.inode_scan.specs.Chunk.{first_of}
use Rattle.inode_scan.proofs.ChunkLemmas.{chunk_found, chunk_missed, chunk_nowhere}
use Rattle.inode_scan.proofs.chunk.first_in_leaf.Goals as goal

pub loop-i-init : goal.loop-i-init
unfolding records_of
loop-i-init c =
    let count : c.count_of-i-end.result ≡ numrecs c.args.block.now.bytes = c.count_of-i-end.ensures in
    let all : c.count_of-i-end.result - 0 ≡ numrecs c.args.block.now.bytes = omega (arith, count) in
    let few = c.requires in
    (rw (all, c.data_area-area.ensures.shows) refl, omega (arith, count, few))

pub returns-then-is_some-clause-value : goal.returns-then-is_some-clause-value
returns-then-is_some-clause-value c =
    let area = c.data_area-area.result.now in
    chunk_found c.args.from c.args.end (ino_at area) c.count_of-i-end.result c.loop-i.i (omega arith) c.first_of-found.result
    (c.first_of-found.ensures.value ∙ ap (first_of c.args.from c.args.end) c.record_at-rec.ensures) (sym c.is_some.ensures ∙ c.if-is_some.true)
    ∙ c.loop-i.invariant.0

pub loop-i-preserved : goal.loop-i-preserved
loop-i-preserved c =
    let area = c.data_area-area.result.now in (
      sym (chunk_missed c.args.from c.args.end (ino_at area) c.count_of-i-end.result c.loop-i.i (omega arith) c.first_of-found.result
          (c.first_of-found.ensures.value ∙ ap (first_of c.args.from c.args.end) c.record_at-rec.ensures) (sym c.is_some.ensures ∙ c.if-is_some.false))
          ∙ c.loop-i.invariant.0,
      c.loop-i.invariant.1,
    )

pub returns-clause-value : goal.returns-clause-value
returns-clause-value c = sym (chunk_nowhere c.args.from c.args.end (ino_at c.data_area-area.result.now) c.count_of-i-end.result c.loop-i.i (omega arith)) ∙ c.loop-i.invariant.0
