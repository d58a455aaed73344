-- What calls of an event keep of the desk, one after the other.
use Rattle.std.proofs.Common.{◌≡◌, ◌≤◌, ◌∙◌, ℕ, refl, sym, ap, subst, arith, append_assoc, append-nil, Vec, Global}
use Rattle.std.specs.Prelude.{◌++◌, ◌∷◌, [], Bool, true, false, List, None, Some, Option, length}
use Rattle.blk_cache.specs.Cache.{AgreesTold}
use Rattle.blk_device.specs.Causes.{Rose}
use Rattle.blk_device.specs.declared.device.Device.{Ghosts}
use Rattle.blk_device.specs.declared.device.Region.{Region}
use Rattle.blk_device.specs.declared.device.Region.TheVariants.{Image, Redo}
use Rattle.core_parts.specs.Common.Asks.{Adds, IsSame, IsStopped, IsUsable}
use Rattle.core_parts.specs.Keeps.{IsAsked, IsShaken, IsSteady}
use Rattle.core_parts.specs.Safe.{IsDesk}
use Rattle.core_parts.specs.declared.book.Book.{Book}
use Rattle.core_parts.specs.declared.desk.Desk.{Desk}
use Rattle.core_edit.specs.Ready.{HasRoom}
use Rattle.core_edit.specs.declared.store.Store.{Store}
use Rattle.fs_model.specs.declared.entry.Entry.{Entry}
use Rattle.geom.specs.declared.geometry.Geometry.{Geometry}
use Rattle.inode_scan.specs.Cursor.{AllInoTrees}
use Rattle.intent_drain.specs.Drains.{gates_of}
use Rattle.intent_drain.specs.declared.drain.Drain.{Drain}
use Rattle.redo_area.specs.declared.TheConstants.{REDO_BLOCKS}
use Rattle.tree_blocks.specs.declared.tree.TreeAt.{TreeAt}

none_shut : (n : ℕ) → ◌≡◌ {A = Option ℕ} None (Some n) → ⊥
none_shut n e = cc

rose_from : (begun old now : ℕ) → begun ≤ old → Rose old now → Rose begun now
rose_from begun old now later rose = grind (arith, later, rose)

module _ {D : Type 0} (d : Ghosts D) where
  -- a journal that is longer by some entries, and by some more
  pub steady_on : (old mid new : Desk D) → IsSteady d old mid → IsSteady d mid new → IsSteady d old new
  steady_on old mid new a b = record {
    geometry = b.geometry ∙ a.geometry;
    sizes = b.sizes ∙ a.sizes;
    later = omega (arith, a.later, b.later);
    begun = b.begun ∙ a.begun;
    added = a.added ++ b.added;
    journal = b.journal ∙ (ap (λ (es : List Entry). es ++ b.added) a.journal ∙ append_assoc old.book.journal.items a.added b.added);
  }

  pub steady_self : (k : Desk D) → IsSteady d k k
  steady_self k = record { geometry = refl; sizes = refl; later = omega arith; begun = refl; added = []; journal = sym (append-nil k.book.journal.items) }

  -- ---- all but the journal's room stays

  pub same_steady : (old new : Desk D) → IsSame old new → IsSteady d old new
  same_steady old new m = record {
    geometry = ap (λ (s : Store D). s.geo) m.store;
    sizes = ap (λ (s : Store D). d.blocks s.dev) m.store;
    later = subst (λ (s : Store D). d.faults old.store.dev ≤ d.faults s.dev) (sym m.store) (omega arith);
    begun = m.begun;
    added = [];
    journal = m.items ∙ sym (append-nil old.book.journal.items);
  }

  -- what isn't of the journal stays
  stays_desk : (old new : Desk D) → new.store ≡ old.store → new.book.begun ≡ old.book.begun → new.book.shut ≡ old.book.shut → new.drain ≡ old.drain → new.ino_trees ≡ old.ino_trees → IsDesk d old → IsDesk d new
  stays_desk old new store begun shut drain trees k = record {
    room = subst (λ (s : Store D). HasRoom d s) (sym store) k.room;
    agreed = λ none. subst (λ (s : Store D). AgreesTold s.cache (d.content s.dev)) (sym store) (k.agreed (sym shut ∙ none));
    later = subst (λ (s : Store D). new.book.begun ≤ d.faults s.dev) (sym store) (subst (λ (n : ℕ). n ≤ d.faults old.store.dev) (sym begun) k.later);
    cause = λ n some. subst (λ (s : Store D). Rose new.book.begun (d.faults s.dev)) (sym store) (subst (λ (b : ℕ). Rose b (d.faults old.store.dev)) (sym begun) (k.cause n (sym shut ∙ some)));
    gates = ap (λ (x : Drain). length (gates_of x)) drain ∙ (k.gates ∙ sym (ap (λ (s : Store D). s.geo.agcount) store));
    trees = subst (λ (s : Store D). AllInoTrees s.geo.agcount new.ino_trees.items) (sym store) (subst (λ (ts : List TreeAt). AllInoTrees old.store.geo.agcount ts) (sym (ap (λ (v : Vec TreeAt Global). v.items) trees)) k.trees);
  }

  pub same_desk : (old new : Desk D) → IsSame old new → IsDesk d old → IsDesk d new
  same_desk old new m k = stays_desk old new m.store m.begun m.shut m.drain m.trees k

  pub same_usable : (old new : Desk D) → IsSame old new → IsUsable d old → IsUsable d new
  same_usable old new m u = record { desk = same_desk old new m u.desk; unshut = m.shut ∙ u.unshut }

  -- ---- an entry came

  pub adds_steady : (old new : Desk D) → (e : Entry) → Adds e old new → IsSteady d old new
  adds_steady old new e m = record {
    geometry = ap (λ (s : Store D). s.geo) m.store;
    sizes = ap (λ (s : Store D). d.blocks s.dev) m.store;
    later = subst (λ (s : Store D). d.faults old.store.dev ≤ d.faults s.dev) (sym m.store) (omega arith);
    begun = m.begun;
    added = e ∷ [];
    journal = m.items;
  }

  pub adds_desk : (old new : Desk D) → (e : Entry) → Adds e old new → IsDesk d old → IsDesk d new
  adds_desk old new e m k = stays_desk old new m.store m.begun m.shut m.drain m.trees k

  pub adds_usable : (old new : Desk D) → (e : Entry) → Adds e old new → IsUsable d old → IsUsable d new
  adds_usable old new e m u = record { desk = adds_desk old new e m u.desk; unshut = m.shut ∙ u.unshut }

  -- ---- a call on the device

  pub asked_steady : (failed : Bool) → (old new : Desk D) → IsAsked d failed old new → IsSteady d old new
  asked_steady failed old new a = record {
    geometry = a.geometry;
    sizes = a.sizes;
    later = a.later;
    begun = ap (λ (b : Book). b.begun) a.book;
    added = [];
    journal = ap (λ (b : Book). b.journal.items) a.book ∙ sym (append-nil old.book.journal.items);
  }

  asked_room : (failed : Bool) → (old new : Desk D) → IsAsked d failed old new → HasRoom d old.store → HasRoom d new.store
  asked_room failed old new a room = record {
    image = subst (λ (n : ℕ). n ≤ d.blocks new.store.dev Image) (sym (ap (λ (x : Geometry). x.dblocks) a.geometry)) (subst (λ (f : Region → ℕ). old.store.geo.dblocks ≤ f Image) (sym a.sizes) room.image);
    redo = subst (λ (f : Region → ℕ). REDO_BLOCKS ≤ f Redo) (sym a.sizes) room.redo;
  }

  asked_gates : (failed : Bool) → (old new : Desk D) → IsAsked d failed old new → IsDesk d old → length (gates_of new.drain) ≡ new.store.geo.agcount
  asked_gates failed old new a k = ap (λ (x : Drain). length (gates_of x)) a.drain ∙ (k.gates ∙ sym (ap (λ (x : Geometry). x.agcount) a.geometry))

  asked_trees : (failed : Bool) → (old new : Desk D) → IsAsked d failed old new → IsDesk d old → AllInoTrees new.store.geo.agcount new.ino_trees.items
  asked_trees failed old new a k = subst (λ (x : Geometry). AllInoTrees x.agcount new.ino_trees.items) (sym a.geometry) (subst (λ (ts : List TreeAt). AllInoTrees old.store.geo.agcount ts) (sym (ap (λ (v : Vec TreeAt Global). v.items) a.trees)) k.trees)

  begun_first : (old new : Desk D) → IsAsked d true old new → IsDesk d old → new.book.begun ≤ d.faults old.store.dev
  begun_first old new a k = subst (λ (b : Book). b.begun ≤ d.faults old.store.dev) (sym a.book) k.later

  asked_later : (failed : Bool) → (old new : Desk D) → IsAsked d failed old new → IsDesk d old → new.book.begun ≤ d.faults new.store.dev
  asked_later failed old new a k = subst (λ (b : Book). b.begun ≤ d.faults new.store.dev) (sym a.book) (omega (arith, k.later, a.later))

  pub asked_usable : (old new : Desk D) → IsAsked d false old new → IsUsable d old → IsUsable d new
  asked_usable old new a u = record {
    desk = record {
      room = asked_room false old new a u.desk.room;
      agreed = λ none. a.agreed refl;
      later = asked_later false old new a u.desk;
      cause = λ n some. absurd (none_shut n (sym (ap (λ (b : Book). b.shut) a.book ∙ u.unshut) ∙ some));
      gates = asked_gates false old new a u.desk;
      trees = asked_trees false old new a u.desk;
    };
    unshut = ap (λ (b : Book). b.shut) a.book ∙ u.unshut;
  }

  pub asked_shaken : (old new : Desk D) → IsAsked d true old new → IsUsable d old → IsShaken d new
  asked_shaken old new a u = record {
    room = asked_room true old new a u.desk.room;
    later = asked_later true old new a u.desk;
    rose = rose_from new.book.begun (d.faults old.store.dev) (d.faults new.store.dev) (begun_first old new a u.desk) (a.rose refl);
    gates = asked_gates true old new a u.desk;
    trees = asked_trees true old new a u.desk;
  }

  pub asked_stopped : (failed : Bool) → (old new : Desk D) → IsAsked d failed old new → IsUsable d old → IsStopped d failed new
  asked_stopped true old new a u = asked_shaken old new a u
  asked_stopped false old new a u = asked_usable old new a u
