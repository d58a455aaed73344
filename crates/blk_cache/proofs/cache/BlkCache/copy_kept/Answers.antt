use Rattle.std.proofs.Common.{◌≡◌, ◌≤◌, ℕ, length, true, nat_lt, subst, sym, ◌∙◌, ap, ltb-true}
use Rattle.blk_cache.proofs.EntryLemmas.{few_found, some_room, few_there}
use Rattle.blk_cache.proofs.cache.BlkCache.copy_kept.Goals as goal

pub invariant_of-self : goal.invariant_of-self
invariant_of-self c =
    let room : true ≡ nat_lt 0 c.in-Some.blocks.cap = some_room _ c.in-Some.blocks c.in-Some.is c.args.self.now.room in
    let few = few_there _ c.in-Some.blocks c.in-Some.is c.args.self.now.few in
    record {
      room = room ∙ ap (λ (n : ℕ). nat_lt 0 n) (sym c.copy_kept.ensures.capacity);
      few = subst (λ (n : ℕ). length c.copy_kept.new.blocks.entries ≤ n) (sym c.copy_kept.ensures.capacity)
          (few_found c.copy_kept.result c.args.at c.in-Some.blocks.cap c.in-Some.blocks.entries c.copy_kept.new.blocks.entries
          (ltb-true 0 c.in-Some.blocks.cap (sym room)) few c.copy_kept.ensures.front c.copy_kept.ensures.none);
    }
