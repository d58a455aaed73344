-- A core put into the open edit of a group.
use Rattle.std.proofs.Common.{◌≡◌, ◌∙◌, ℕ, Bool, true, false, refl, sym, ap, subst}
use Rattle.std.specs.Prelude.{List, Some, is_some, ◌==◌, if◌then◌else◌}
use Rattle.blk_cache.specs.declared.cache.BlkCache.{BlkCache}
use Rattle.blk_device.specs.declared.device.Device.{Ghosts}
use Rattle.blk_device.specs.declared.device.Region.{Region}
use Rattle.blk_device.specs.declared.device.Region.TheVariants.{Image}
use Rattle.core_edit.specs.Open.{AtMark, IsMarked}
use Rattle.core_edit.specs.declared.open.OpenEdit.{OpenEdit}
use Rattle.core_files.proofs.first.WriteLemmas.{with_below}
use Rattle.core_edit.specs.declared.store.Store.{Store}
use Rattle.file_cores.specs.Puts.{PutsOne}
use Rattle.geom.specs.Places.{device_block}
use Rattle.join_blocks.specs.Joins.{is_joined}
use Rattle.meta_txn.proofs.JoinedLaws.{bytes_at_with}
use Rattle.meta_txn.specs.Joined.{AreBelow, bytes_at, with_block}
use Rattle.redo_area.specs.Area.{Batch}
use Rattle.core_edit.specs.Opened.{IsOpen}

-- a number that is joined stays so
stays_joined : (at n : ℕ) (bytes : List ℕ) (ps : Batch) → is_joined ps n ≡ true → is_joined (with_block at bytes ps) n ≡ true
stays_joined at n bytes ps there =
    ap is_some (bytes_at_with n at bytes ps)
    ∙ (elim (n == at) as (λ t. is_some (if t then Some bytes else bytes_at n ps) ≡ true) [ true ↦ refl | false ↦ there ])

module _ {D : Type 0} (d : Ghosts D) where
  -- a core is put into an open edit, which is marked then
  pub put_open : (g : ℕ) (s : Store D) (dev : D) (cache : BlkCache) (mid edit : OpenEdit) → IsOpen d g s → d.blocks dev ≡ d.blocks s.dev → mid.group ≡ s.edit.group → PutsOne (d.blocks s.dev Image) s.edit.txn.blocks mid.txn.blocks → IsMarked mid edit → AtMark edit → IsOpen d g (record s { dev = dev; cache = cache; edit = edit })
  put_open g s dev cache mid edit o sizes group put kept marked =
      let same : edit.txn.blocks ≡ with_block put.at put.bytes s.edit.txn.blocks = kept.joined ∙ put.put in
      record {
        group = kept.group ∙ (group ∙ o.group);
        marked = marked;
        joined = subst (λ (b : Batch). is_joined b (device_block s.geo g 0) ≡ true) (sym same) (stays_joined put.at (device_block s.geo g 0) put.bytes s.edit.txn.blocks o.joined);
        below = subst (λ (f : Region → ℕ). AreBelow (f Image) edit.txn.blocks) (sym sizes) (subst (AreBelow (d.blocks s.dev Image)) (sym same) (with_below (d.blocks s.dev Image) put.at put.bytes s.edit.txn.blocks put.inside o.below));
      }
