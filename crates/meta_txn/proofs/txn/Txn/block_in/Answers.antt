use Rattle.std.proofs.Common.{◌≡◌, ◌<◌, ◌^◌, length, refl, ◌∙◌, ap, arith}
use Rattle.redo_area.specs.Area.{Batch, bytes_of}
use Rattle.redo_area.specs.Table.{rises}
use Rattle.meta_txn.specs.Joined.{Joined}
use Rattle.meta_txn.specs.Places.{bytes_in, set_bytes}
use Rattle.meta_txn.proofs.ListLemmas.{bytes_in_is, length_bytes_of, same_places, set_is}
use Rattle.meta_txn.proofs.txn.Txn.block_in.Goals as goal

pub index_mut-pair-requires : goal.index_mut-pair-requires
index_mut-pair-requires c = omega (arith, c.requires, ap (λ (t : Joined). length t.blocks) c.self.view_is, length_bytes_of c.self.inside.blocks.items, c.self.inside.blocks.ok.0)

pub invariant_of-self-lent : goal.invariant_of-self-lent
invariant_of-self-lent c = λ w.
    let kept = c.self.invariant.0 in (
      record {
        few = kept.few;
        room = kept.room;
        rise = ap (rises 0 (2 ^ 64)) (same_places c.self.inside.blocks.items c.args.i c.index_mut-pair.result.now w c.index_mut-pair.ensures.value) ∙ kept.rise;
      },
      c.self.invariant.1,
    )

pub returns : goal.returns
returns c =
    let items = c.self.inside.blocks.items in
    let p = c.index_mut-pair.result.now in
    let is = c.index_mut-pair.ensures.value in
    let blocks : bytes_of items ≡ c.args.self.now.blocks = ap (λ (t : Joined). t.blocks) c.self.view_is in
    let marked : bytes_of c.self.inside.marked.items ≡ c.args.self.now.marked = ap (λ (t : Joined). t.marked) c.self.view_is in
    let inside : c.args.i < length items = omega (arith, c.requires, ap (λ (ps : Batch). length ps) blocks, length_bytes_of items) in (
      (refl, λ w. λ j. record { blocks = (set_is items c.args.i p w is ∙ ap (set_bytes c.args.i w.bytes) blocks) j; marked = marked j }),
      record { lends = tt; value = bytes_in_is items c.args.i p inside is ∙ ap (bytes_in c.args.i) blocks },
    )
