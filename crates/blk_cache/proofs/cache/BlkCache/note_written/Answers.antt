use Rattle.std.proofs.Common.{◌≡◌, ◌≤◌, ℕ, length, true, nat_lt, subst, sym, ◌∙◌, ap, ltb-true, Option}
use Rattle.byte_fields.specs.declared.block.Block.{Block}
use Rattle.lru.specs.LruCache.{LruCache}
use Rattle.blk_cache.specs.Entries.{entries_in, AgreesIn}
use Rattle.blk_cache.proofs.AgreeLemmas.{agrees_written}
use Rattle.blk_cache.proofs.EntryLemmas.{few_kept, some_room, few_there}
use Rattle.blk_cache.proofs.cache.BlkCache.note_written.Goals as goal

pub invariant_of-self : goal.invariant_of-self
invariant_of-self c =
    let room : true ≡ nat_lt 0 c.in-Some.blocks.cap = some_room _ c.in-Some.blocks c.in-Some.is c.args.self.now.room in
    let few = few_there _ c.in-Some.blocks c.in-Some.is c.args.self.now.few in
    record {
      room = room ∙ ap (λ (n : ℕ). nat_lt 0 n) (sym c.keep.ensures.capacity);
      few = subst (λ (n : ℕ). length c.keep.new.blocks.entries ≤ n) (sym c.keep.ensures.capacity)
          (few_kept c.args.at c.args.block.now c.in-Some.blocks.cap c.in-Some.blocks.entries c.keep.new.blocks.entries
          (ltb-true 0 c.in-Some.blocks.cap (sym room)) few c.keep.ensures.front);
    }

pub returns-in-Some-clause-agrees : goal.returns-in-Some-clause-agrees
returns-in-Some-clause-agrees c = λ contents agrees.
    agrees_written c.args.at c.args.block.now c.in-Some.blocks.cap c.in-Some.blocks.entries c.keep.new.blocks.entries contents c.keep.ensures.front
    (subst (λ (o : Option (LruCache ℕ Block)). AgreesIn (entries_in o) contents) c.in-Some.is agrees)
