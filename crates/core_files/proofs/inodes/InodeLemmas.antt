-- What calls of these events keep of the desk.
use Rattle.std.proofs.Common.{◌≡◌, ◌∙◌, ℕ, zero, suc, refl, sym, ap, subst, arith, append-nil, Vec, Global}
use Rattle.std.specs.Prelude.{List, [], ◌∷◌, Result, Ok, Err, length, slice_set}
use Rattle.blk_device.specs.declared.device.Device.{Ghosts}
use Rattle.core_parts.proofs.common.AskLemmas.{steady_on, steady_self}
use Rattle.core_parts.specs.Common.Asks.{IsUsable}
use Rattle.core_parts.specs.Keeps.{IsSteady}
use Rattle.core_parts.specs.declared.desk.Desk.{Desk}
use Rattle.core_parts.specs.declared.groups.GroupKept.{GroupKept}
use Rattle.core_chains.specs.Refill.Halts.{Halts, HaltsWell, IsMemory}
use Rattle.core_chains.specs.declared.refill.halts.Halt.{Halt}
use Rattle.core_chains.specs.Write.Writes.{IsGivenAll, IsLeftAll}
use Rattle.geom.specs.declared.geometry.Geometry.{Geometry}
use Rattle.inode_scan.specs.Cursor.{AllInoTrees, IsInoTree}
use Rattle.intent_drain.specs.Drains.{gates_of}
use Rattle.intent_drain.specs.declared.drain.Drain.{Drain}
use Rattle.intent_drain.specs.declared.gates.Gate.{Gate}
use Rattle.tree_blocks.specs.declared.tree.TreeAt.{TreeAt}

memory_well : {D : Type 0} (k : Desk D) (halt : Halt) → IsMemory halt → HaltsWell k halt
memory_well k halt is = subst (HaltsWell k) (sym is) tt

-- ---- inode btrees

pub trees_set : (n : ℕ) (ts : List TreeAt) (g : ℕ) (t : TreeAt) → AllInoTrees n ts → IsInoTree n t → AllInoTrees n (slice_set ts g t)
trees_set n [] g t all is = tt
trees_set n (x ∷ xs) zero t all is = (is, all.1)
trees_set n (x ∷ xs) (suc g) t all is = (all.0, trees_set n xs g t all.1 is)

module _ {D : Type 0} (d : Ghosts D) where
  -- ---- changes in memory alone

  pub drain_usable : (k : Desk D) (drain : Drain) → length (gates_of drain) ≡ k.store.geo.agcount → IsUsable d k → IsUsable d (record k { drain = drain })
  drain_usable k drain gates u = record {
    desk = record { room = u.desk.room; agreed = u.desk.agreed; later = u.desk.later; cause = u.desk.cause; gates = gates; trees = u.desk.trees };
    unshut = u.unshut;
  }

  pub gates_usable : (k : Desk D) (drain : Drain) → gates_of drain ≡ gates_of k.drain → IsUsable d k → IsUsable d (record k { drain = drain })
  gates_usable k drain same u = drain_usable k drain (ap (λ (gs : List Gate). length gs) same ∙ u.desk.gates) u

  pub drain_steady : (k : Desk D) (drain : Drain) → IsSteady d k (record k { drain = drain })
  drain_steady k drain = record { geometry = refl; sizes = refl; later = omega arith; begun = refl; added = []; journal = sym (append-nil k.book.journal.items) }

  pub trees_usable : (k : Desk D) (trees : Vec TreeAt Global) → AllInoTrees k.store.geo.agcount trees.items → IsUsable d k → IsUsable d (record k { ino_trees = trees })
  trees_usable k trees all u = record {
    desk = record { room = u.desk.room; agreed = u.desk.agreed; later = u.desk.later; cause = u.desk.cause; gates = u.desk.gates; trees = all };
    unshut = u.unshut;
  }

  pub trees_steady : (k : Desk D) (trees : Vec TreeAt Global) → IsSteady d k (record k { ino_trees = trees })
  trees_steady k trees = record { geometry = refl; sizes = refl; later = omega arith; begun = refl; added = []; journal = sym (append-nil k.book.journal.items) }

  pub left_self : (k : Desk D) (ks : List GroupKept) → IsGivenAll d k ks → IsLeftAll d k k ks ks
  left_self k ks given = record { desk = given.usable.desk; steady = steady_self d k; groups = refl; kept = given.kept }

  -- ---- what an event answers

  -- a number that is that of the groups
  pub count_stays : (n : ℕ) (old new : Desk D) → IsSteady d old new → n ≡ old.store.geo.agcount → n ≡ new.store.geo.agcount
  count_stays n old new steady is = is ∙ sym (ap (λ (y : Geometry). y.agcount) steady.geometry)

  -- it is written, and what follows is done
  pub ended_halts : {S T : Type 0} (old mid new : Desk D) (x : S) (y : T) → Halts d old mid (Ok x) → IsUsable d new → IsSteady d mid new → Halts d old new (Ok y)
  ended_halts old mid new x y h u steady = record { desk = u.desk; steady = steady_on d old mid new h.steady steady; ends = u.unshut }

  -- memory is wanting after a call
  pub memory_after : {S T : Type 0} (old new : Desk D) (x : S) (halt : Halt) → Halts d old new (Ok x) → IsMemory halt → Halts {T = T} d old new (Err halt)
  memory_after old new x halt h is = record { desk = h.desk; steady = h.steady; ends = memory_well new halt is }
