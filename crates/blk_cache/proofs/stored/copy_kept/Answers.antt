use Rattle.std.proofs.Common.{◌≡◌, ℕ, nat_eq, Option, Some, None, IfSome, IfNone, sym, ◌∙◌, ap}
use Rattle.std.specs.Map.{lookup}
use Rattle.byte_fields.specs.declared.block.Block.{Block}
use Rattle.lru.specs.LruCache.{LruCache, promoted}
use Rattle.blk_cache.specs.Entries.{Entries, in_front}
use Rattle.blk_cache.proofs.EntryLemmas.{promoted_found, promoted_none}
use Rattle.blk_cache.proofs.stored.copy_kept.Goals as goal

-- a block that was found is in front
found : (o : Option Block) (at capacity : ℕ) (old new : Entries) → o ≡ lookup (nat_eq at) old → new ≡ promoted (nat_eq at) old → IfSome o (λ block. new ≡ in_front at block capacity old)
found None at capacity old new is ends = tt
found (Some block) at capacity old new is ends = ends ∙ promoted_found at capacity old block (sym is)

missed : (o : Option Block) (at : ℕ) (old new : Entries) → o ≡ lookup (nat_eq at) old → new ≡ promoted (nat_eq at) old → IfNone o (new ≡ old)
missed None at old new is ends = ends ∙ promoted_none at old (sym is)
missed (Some block) at old new is ends = tt

pub returns-clause-front : goal.returns-clause-front
returns-clause-front c = found c.copied.result c.args.at c.args.blocks.now.cap c.args.blocks.now.entries _ (c.copied.ensures ∙ c.get.ensures.value)
    (ap (λ (e : LruCache ℕ Block). e.entries) c.get.follows.holds-at-none)

pub returns-clause-none : goal.returns-clause-none
returns-clause-none c = missed c.copied.result c.args.at c.args.blocks.now.entries _ (c.copied.ensures ∙ c.get.ensures.value)
    (ap (λ (e : LruCache ℕ Block). e.entries) c.get.follows.holds-at-none)
