use Rattle.std.proofs.Common.{ℕ, List, drop, refl, ap, ◌∙◌, arith}
use Rattle.ag_headers.specs.Ring.{entries}
use Rattle.byte_fields.specs.declared.block.Block.{Block}
use Rattle.join_blocks.specs.Joins.{count_of, placed_in, with_all}
use Rattle.join_blocks.proofs.CountLemmas.{counts_joined}
use Rattle.edit_place.proofs.PlaceLemmas.{limbo_so, listed_so}
use Rattle.edit_place.proofs.place.put.Goals as goal

pub returns-clause-placed : goal.returns-clause-placed
returns-clause-placed g c =
    let first = c.args.first in
    let draft = c.args.draft.now in
    let old = c.args.txn.now.blocks in
    let rest = drop draft.taken (entries c.args.list.now) in
    let many = counts_joined first (placed_in c.deref.result.now) old c.join_put.new.txn.blocks c.in_ok-join_put.ensures.count in
    let same = ap (λ (es : List (ℕ × Block)). count_of old first (placed_in es)) c.deref.ensures.value in
    let few = c.requires.few in
    record {
      root = refl {a = c.args.draft.now.root};
      levels = refl {a = c.args.draft.now.levels};
      joined = ◌∙◌ {b = with_all first c.deref.result.now old} c.in_ok-join_put.ensures.put (ap (λ (es : List (ℕ × Block)). with_all first es old) c.deref.ensures.value);
      marked = c.join_put.ensures.marked;
      room = omega (arith, many, same, few);
      list = listed_so (entries c.give_back.new.list) (entries c.take_from.new.list) rest c.deref-2.result.now draft.freed.items c.give_back.ensures.list c.take_from.ensures.rest c.deref-2.ensures.value;
      limbo = limbo_so c.give_back.new.limbo.items c.args.limbo.now.items (entries c.take_from.new.list) rest c.deref-2.result.now draft.freed.items c.give_back.ensures.limbo c.take_from.ensures.rest c.deref-2.ensures.value;
    }
