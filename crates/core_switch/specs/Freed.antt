-- Blocks that edits freed, as they wait in limbo.
use Rattle.std.specs.Prelude.{ℕ, Bool, ◌||◌}
use Rattle.block_reap.specs.Limbo.{has}
use Rattle.core_edit.specs.declared.open.Freed.{Freed}
use Rattle.core_units.specs.Released.{block_runs}
use Rattle.rmap_recs.specs.Owners.{number_of}
use Rattle.rmap_recs.specs.declared.owner.Owner.TheVariants.{Ag, Inobt, Refc}

-- the block was freed by a btree of this owner
abbrev pub has_freed : Freed → ℕ → ℕ → Bool
has_freed f b o = has (block_runs (number_of Ag) f.ag.items) b o || (has (block_runs (number_of Inobt) f.inobt.items) b o || has (block_runs (number_of Refc) f.refc.items) b o)
