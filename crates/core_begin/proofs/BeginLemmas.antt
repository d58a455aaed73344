-- What the first events of a unit keep.
use Rattle.std.proofs.Common.{◌≡◌, ◌<◌, ◌≤◌, ◌∙◌, ℕ, zero, suc, ◌+◌, refl, sym, ap, subst, arith, ◌∷◌, [], Vec, Global}
use Rattle.std.specs.Prelude.{Bool, true, false, List, None, Some, Option, Result, Ok, Err, length, slice_set}
use Rattle.std.specs.List.{slice_get}
use Rattle.std.proofs.Math.ListN.{set}
use Rattle.blk_cache.specs.Cache.{AgreesTold}
use Rattle.blk_device.specs.Causes.{HasCause, MovesOnly, Rose}
use Rattle.blk_device.specs.Reading.{OnlyRead}
use Rattle.blk_device.specs.declared.device.Device.{Ghosts}
use Rattle.byte_fields.specs.Steps.{StepCount}
use Rattle.core_begin.specs.Early.{IsEarly, IsTaken, WhereScanned}
use Rattle.core_calls.specs.declared.answers.ScrubFault.{ScrubFault}
use Rattle.core_parts.proofs.common.AskLemmas.{asked_steady, asked_usable, steady_on, steady_self}
use Rattle.core_parts.specs.Common.Asks.{Answers, IsUsable}
use Rattle.core_edit.specs.declared.heads.EditHeads.{EditHeads}
use Rattle.core_parts.specs.Opens.Inodes.{are_trees, tree_of}
use Rattle.core_parts.specs.Keeps.{IsAsked, IsGiven, IsLeft, IsSteady, failed_by}
use Rattle.core_parts.specs.Reasons.{HasReason}
use Rattle.core_parts.specs.Safe.{AreKept, AreUnits, IsDesk, IsKept, IsSafe, IsUnit, IsWork}
use Rattle.core_parts.specs.declared.desk.Desk.{Desk}
use Rattle.core_parts.specs.declared.groups.GroupKept.{GroupKept}
use Rattle.core_parts.specs.declared.parts.Parts.{Parts}
use Rattle.core_parts.specs.declared.units.UnitState.{UnitState}
use Rattle.core_parts.specs.declared.units.Work.{Work}
use Rattle.core_parts.specs.declared.units.Work.TheVariants as works
use Rattle.fs_model.specs.declared.unit.Unit.{Unit as ScrubUnit}
use Rattle.fs_model.specs.declared.unit.Unit.TheVariants as units
use Rattle.geom.specs.Layout.{Layout}
use Rattle.geom.specs.Places.{layout}
use Rattle.geom.specs.declared.geometry.Geometry.{Geometry}
use Rattle.sblock.specs.declared.kind.Kind.TheVariants.{Ino}
use Rattle.tree_blocks.specs.declared.tree.TreeAt.{TreeAt}

-- ---- a call on the device that only reads

moves_rose : (t : Bool) (before now : ℕ) → MovesOnly t before now → t ≡ true → Rose before now
moves_rose true before now moves is = moves.1
moves_rose false before now moves is = cc

moves_later : (t : Bool) (before now : ℕ) → MovesOnly t before now → before ≤ now
moves_later true before now moves = moves.0
moves_later false before now moves = omega (arith, moves)

cause_rose : {T E : Type 0} (is_devices : E → Bool) (before now : ℕ) (result : Result T E) → HasCause is_devices before now result → failed_by is_devices result ≡ true → Rose before now
cause_rose is_devices before now (Ok x) cause is = cc
cause_rose is_devices before now (Err e) cause is = moves_rose (is_devices e) before now cause is

module _ {D : Type 0} (d : Ghosts D) where
  pub read_asked : {T E : Type 0} (is_devices : E → Bool) (result : Result T E) (old new : Desk D) (before after : StepCount) → OnlyRead d old.store.dev new.store.dev before after → HasCause is_devices (d.faults old.store.dev) (d.faults new.store.dev) result
      → AgreesTold new.store.cache (d.content new.store.dev) → new.store.geo ≡ old.store.geo → new.book ≡ old.book → new.drain ≡ old.drain → new.ino_trees ≡ old.ino_trees → IsAsked d (failed_by is_devices result) old new
  read_asked is_devices result old new before after read cause agrees geometry book drain trees = record {
    geometry = geometry;
    sizes = read.sizes;
    later = read.later;
    agreed = λ _. agrees;
    rose = cause_rose is_devices (d.faults old.store.dev) (d.faults new.store.dev) result cause;
    book = book;
    drain = drain;
    trees = trees;
  }

-- ---- what a call answers

module _ {D : Type 0} (d : Ghosts D) where
  pub usable_ok : {T : Type 0} (k : Desk D) (x : T) → IsUsable d k → Answers d k k (Ok x)
  usable_ok k x u = record { desk = u.desk; steady = steady_self d k; reason = tt; unshut = u.unshut }

  pub usable_err : {T : Type 0} (k : Desk D) (fault : ScrubFault) → IsUsable d k → HasReason k fault → Answers {T = T} d k k (Err fault)
  usable_err k fault u reason = record { desk = u.desk; steady = steady_self d k; reason = reason; unshut = tt }

  pub refused : {T : Type 0} (old new : Desk D) (fault : ScrubFault) → IsDesk d new → IsSteady d old new → HasReason new fault → Answers {T = T} d old new (Err fault)
  refused old new fault desk steady reason = record { desk = desk; steady = steady; reason = reason; unshut = tt }

  pub answers_usable : {T : Type 0} (old new : Desk D) (x : T) → Answers d old new (Ok x) → IsUsable d new
  answers_usable old new x a = record { desk = a.desk; unshut = a.unshut }

  -- a call after a call
  pub answers_on : {T : Type 0} (old mid new : Desk D) (r : Result T ScrubFault) → IsSteady d old mid → Answers d mid new r → Answers d old new r
  answers_on old mid new r steady a = record { desk = a.desk; steady = steady_on d old mid new steady a.steady; reason = a.reason; unshut = a.unshut }

  pub asked_ok : {T : Type 0} (old new : Desk D) (x : T) → IsAsked d false old new → IsUsable d old → Answers d old new (Ok x)
  asked_ok old new x a u =
      let now = asked_usable d old new a u in
      record { desk = now.desk; steady = asked_steady d false old new a; reason = tt; unshut = now.unshut }

-- ---- units

pub early_works : (at : Layout) (g : ℕ) (w : Work) → IsEarly w → IsWork at g w
early_works at g (works.Scanning s) early = tt
early_works at g (works.Open o) early = tt
early_works at g (works.Closed o) early = tt
early_works at g (works.Gathering x) early = absurd early
early_works at g (works.Gathered j) early = absurd early
early_works at g (works.Chosen j) early = absurd early
early_works at g (works.Building r) early = absurd early
early_works at g (works.Reserved r s) early = absurd early
early_works at g (works.Staged r s) early = absurd early
early_works at g (works.Spent r) early = absurd early
early_works at g works.Judged early = tt

module _ {D : Type 0} (d : Ghosts D) where
  pub given_usable : (k : Desk D) (p : GroupKept) (u : UnitState) → IsGiven d k p u → IsUsable d k
  given_usable k p u given = record { desk = given.desk; unshut = given.unshut }

  -- nothing is done
  pub left_same : (k : Desk D) (p : GroupKept) (was u : UnitState) → IsGiven d k p was → u ≡ was → IsLeft d k k p was u
  left_same k p was u given same = record {
    desk = given.desk;
    steady = steady_self d k;
    kept = given.kept;
    unit = subst (λ (x : UnitState). IsUnit (layout k.store.geo) x) (sym same) given.unit;
    group = ap (λ (x : UnitState). x.group) same;
  }

  -- the work is early before and after
  pub left_early : {T : Type 0} (old new : Desk D) (p : GroupKept) (was mid u : UnitState) (answer : Result T ScrubFault) → IsGiven d old p was → Answers d old new answer → IsTaken was mid → u.group ≡ mid.group → IsEarly u.work → IsLeft d old new p was u
  left_early old new p was mid u answer given answers taken group early = record {
    desk = answers.desk;
    steady = answers.steady;
    kept = given.kept;
    unit = record {
      inside = subst (λ (n : ℕ). n < new.store.geo.agcount) (sym (group ∙ taken.group)) (subst (λ (x : Geometry). was.group < x.agcount) (sym answers.steady.geometry) given.unit.inside);
      work = early_works (layout new.store.geo) u.group u.work early;
    };
    group = group ∙ taken.group;
  }

-- ---- lists of all groups

-- what holds of each element, where one is put in
get_set : {X : Type 0} (P : ℕ → X → Type 0) (xs : List X) (g h : ℕ) (y : X) → P g y → ((z : X) → slice_get xs h ≡ Some z → P h z) → (x : X) → slice_get (set xs g y) h ≡ Some x → P h x
get_set P [] g h y put others x there = others x there
get_set P (z ∷ zs) zero zero y put others x there = let same : y ≡ x = cc in subst (P zero) same put
get_set P (z ∷ zs) zero (suc h) y put others x there = others x there
get_set P (z ∷ zs) (suc g) zero y put others x there = others x there
get_set P (z ∷ zs) (suc g) (suc h) y put others x there = get_set (λ (n : ℕ). P (suc n)) zs g h y put others x there

pub kept_set : (ks : List GroupKept) (g : ℕ) (k : GroupKept) → AreKept ks → IsKept k → AreKept (slice_set ks g k)
kept_set ks g k all here = λ h x there. get_set (λ (n : ℕ) (z : GroupKept). IsKept z) ks g h k here (λ z e. all h z e) x there

unit_there : (at : Layout) (u v : UnitState) → IsUnit at u → Some u ≡ Some v → (v.group ≡ u.group) × IsUnit at v
unit_there at u v here is = let same : u ≡ v = cc in subst (λ (x : UnitState). (x.group ≡ u.group) × IsUnit at x) same (refl, here)

pub units_set : (at : Layout) (us : List (Option UnitState)) (u : UnitState) → AreUnits at us → IsUnit at u → AreUnits at (slice_set us u.group (Some u))
units_set at us u all here = λ h v there.
    get_set (λ (n : ℕ) (o : Option UnitState). (w : UnitState) → o ≡ Some w → (w.group ≡ n) × IsUnit at w) us u.group h (Some u) (λ w is. unit_there at u w here is) (λ z e w is. all h w (e ∙ ap (λ (o : Option UnitState). Some o) is)) (Some v) there v refl

-- the inode btrees by heads alone
tree_by : ℕ → EditHeads → TreeAt
tree_by n h = record { kind = Ino; group = n; root = h.agi.root; levels = h.agi.level; lsn = h.agf.lsn }

tree_same : (n : ℕ) (k z : GroupKept) → k.heads ≡ z.heads → tree_of n k ≡ tree_of n z
unfolding tree_by
tree_same n k z same = ap (tree_by n) same

pub trees_set : (n : ℕ) (ks : List GroupKept) (g : ℕ) (k : GroupKept) → ((x : GroupKept) → slice_get ks g ≡ Some x → k.heads ≡ x.heads) → are_trees n (slice_set ks g k) ≡ are_trees n ks
trees_set n [] g k same = refl
trees_set n (z ∷ zs) zero k same = ap (λ (t : TreeAt). t ∷ are_trees (n + 1) zs) (tree_same n k z (same z refl))
trees_set n (z ∷ zs) (suc g) k same = ap (λ (ts : List TreeAt). tree_of n z ∷ ts) (trees_set (n + 1) zs g k same)

-- ---- units that begin with a scan

pub where_on : {P Q : Type 0} (u : ScrubUnit) → (P → Q) → WhereScanned u P → WhereScanned u Q
where_on units.Inode f p = tt
where_on units.Rmap f p = f p
where_on units.Free f p = tt
where_on units.Refc f p = tt

-- ---- all parts

module _ {D : Type 0} (d : Ghosts D) where
  pub safe_usable : (p : Parts D) → IsSafe d p → p.desk.book.shut ≡ None → IsUsable d p.desk
  safe_usable p safe unshut = record { desk = safe.desk; unshut = unshut }

  pub safe_on : (old new : Parts D) → IsSafe d old → IsDesk d new.desk → IsSteady d old.desk new.desk → length new.groups.items ≡ length old.groups.items → length new.units.items ≡ length old.units.items
      → AreUnits (layout old.desk.store.geo) new.units.items → AreKept new.groups.items → IsSafe d new
  safe_on old new safe desk steady groups units works limbos =
      let count = sym (ap (λ (x : Geometry). x.agcount) steady.geometry) in
      record {
        desk = desk;
        groups = groups ∙ (safe.groups ∙ count);
        units = units ∙ (safe.units ∙ count);
        works = subst (λ (x : Geometry). AreUnits (layout x) new.units.items) (sym steady.geometry) works;
        limbos = limbos;
      }

  -- the desk alone has changed
  pub safe_desk : (old new : Parts D) → IsSafe d old → IsDesk d new.desk → IsSteady d old.desk new.desk → new.groups ≡ old.groups → new.units ≡ old.units → IsSafe d new
  safe_desk old new safe desk steady groups units =
      let count = sym (ap (λ (x : Geometry). x.agcount) steady.geometry) in
      record {
        desk = desk;
        groups = ap (λ (v : Vec GroupKept Global). length v.items) groups ∙ (safe.groups ∙ count);
        units = ap (λ (v : Vec (Option UnitState) Global). length v.items) units ∙ (safe.units ∙ count);
        works = subst (λ (x : Geometry). AreUnits (layout x) new.units.items) (sym steady.geometry) (subst (λ (v : Vec (Option UnitState) Global). AreUnits (layout old.desk.store.geo) v.items) (sym units) safe.works);
        limbos = subst (λ (v : Vec GroupKept Global). AreKept v.items) (sym groups) safe.limbos;
      }
