use Rattle.std.proofs.Common.{◌≡◌, ◌<◌, ◌+◌, ◌^◌, Bool, true, false, length, ap, arith, vec_len, vec_capacity}
use Rattle.std.specs.Prelude.{is_ok, if◌then◌else◌}
use Rattle.std.specs.List.{insert}
use Rattle.meta_txn.specs.Joined.{Joined}
use Rattle.meta_txn.proofs.ListLemmas.{inserted, inserted_rises, length_bytes_of, place_bound}
use Rattle.meta_txn.proofs.txn.Txn.insert.Goals as goal

pub insert-requires : goal.insert-requires
insert-requires c = omega (arith, c.requires.absent.place, place_bound c.args.at c.args.self.now.blocks, ap (λ (t : Joined). length t.blocks) c.self.view_is, length_bytes_of c.self.inside.blocks.items, c.self.inside.blocks.ok.0)

chosen : {A : Type 0} (t : Bool) (x y z : A) → t ≡ true → z ≡ (if t then x else y) → z ≡ x
chosen true x y z sure same = same
chosen false x y z sure same = cc sure

pub invariant_of-self : goal.invariant_of-self
invariant_of-self c =
    let kept = c.self.invariant.0 in
    let list = c.self.inside.blocks in
    let items = list.items in
    let has_room : vec_len list < vec_capacity list = omega (arith, kept.room, c.requires.few, ap (λ (t : Joined). length t.blocks) c.self.view_is, length_bytes_of items, list.ok.0) in
    let done = c.insert.ensures.succeeds has_room in
    let put = chosen (is_ok c.insert.result) (insert items c.args.i (c.args.at, c.args.block)) items c.insert.new.self.items done c.insert.ensures.items in
    let longer = chosen (is_ok c.insert.result) (vec_len list + 1) (vec_len list) (vec_len c.insert.new.self) done c.insert.ensures.len in (
      record {
        few = omega (arith, longer, c.requires.few, ap (λ (t : Joined). length t.blocks) c.self.view_is, length_bytes_of items, list.ok.0);
        room = omega (arith, kept.room, c.insert.ensures.capacity);
        rise = inserted_rises (2 ^ 64) c.args.at items c.args.self.now.blocks (ap (λ (t : Joined). t.blocks) c.self.view_is) kept.rise c.args.i c.args.block c.insert.new.self.items put c.requires.absent c.ranges.at.fits;
      },
      c.self.invariant.1,
    )

pub returns : goal.returns
returns c =
    let kept = c.self.invariant.0 in
    let list = c.self.inside.blocks in
    let items = list.items in
    let has_room : vec_len list < vec_capacity list = omega (arith, kept.room, c.requires.few, ap (λ (t : Joined). length t.blocks) c.self.view_is, length_bytes_of items, list.ok.0) in
    let put = chosen (is_ok c.insert.result) (insert items c.args.i (c.args.at, c.args.block)) items c.insert.new.self.items (c.insert.ensures.succeeds has_room) c.insert.ensures.items in
    let blocks = inserted (2 ^ 64) c.args.at items c.args.self.now.blocks (ap (λ (t : Joined). t.blocks) c.self.view_is) kept.rise c.args.i c.args.block c.insert.new.self.items put c.requires.absent in
    let marked = ap (λ (t : Joined). t.marked) c.self.view_is in
    λ j. record { blocks = blocks j; marked = marked j }
