-- The parts of a core right after opening.
use Rattle.std.proofs.Common.{◌≡◌, ℕ, ◌+◌, zero, suc, sym, ap, subst, arith, length-append}
use Rattle.std.specs.Global.{Vec}
use Rattle.std.specs.Prelude.{◌++◌, List, [], ◌∷◌, Option, Some, None, Result, Ok, Err, IfErr, IfOk, length}
use Rattle.std.specs.List.{slice_get}
use Rattle.blk_device.specs.Contents.{Contents}
use Rattle.blk_device.specs.declared.device.Device.{Ghosts}
use Rattle.blk_device.specs.declared.device.Region.TheVariants.{Image}
use Rattle.block_reap.specs.Limbo.{IsLimbo}
use Rattle.block_reap.specs.declared.runs.LimboRun.{LimboRun}
use Rattle.core_parts.specs.Opens.Groups.{IsBegun as IsGroupBegun, IsFresh}
use Rattle.core_calls.specs.declared.answers.OpenRefused.{OpenRefused}
use Rattle.core_calls.specs.declared.answers.OpenRefused.TheVariants.{Memory}
use Rattle.core_parts.specs.Opens.Heads.{Each, IsFirstRefused}
use Rattle.core_parts.specs.Safe.{AreKept, IsKept, IsSafe}
use Rattle.core_parts.specs.declared.groups.GroupKept.{GroupKept}
use Rattle.core_parts.specs.declared.units.UnitState.{UnitState}
use Rattle.core_edit.specs.Ready.{IsReady}
use Rattle.core_edit.specs.declared.store.Store.{Store}
use Rattle.fs_model.specs.declared.entry.Entry.{Entry}
use Rattle.fsck_core.proofs.Places.{none_some, some_same}
use Rattle.fsck_core.specs.Opens.{AreBeside, NoneOpen, RefusesFirst}
use Rattle.fsck_core.specs.declared.opened.Beside.{Beside}
use Rattle.geom.specs.Layout.{Layout}
use Rattle.geom.specs.Places.{layout}
use Rattle.geom.specs.declared.geometry.Geometry.{Geometry}
use Rattle.unit_trust.specs.Laws.{AllFresh}

pub one_longer : {X : Type 0} (xs ys : List X) (x : X) (n : ℕ) → ys ≡ xs ++ x ∷ [] → length xs ≡ n → length ys ≡ n + 1
one_longer xs ys x n is all = let longer : length ys ≡ length (xs ++ x ∷ []) = ap length is in omega (arith, longer, all, length-append xs (x ∷ []))

pub one_none_more : (us vs : List (Option UnitState)) → vs ≡ us ++ None ∷ [] → NoneOpen us → NoneOpen vs
one_none_more us vs is none = subst NoneOpen (sym is) (more us none)
  where
    more : (us : List (Option UnitState)) → NoneOpen us → NoneOpen (us ++ None ∷ [])
    more [] none = tt
    more (None ∷ us) none = more us none
    more (Some u ∷ us) none = absurd none

no_open : (us : List (Option UnitState)) → NoneOpen us → (g : ℕ) (u : UnitState) → slice_get us g ≡ Some (Some u) → ⊥
no_open [] none g u is = none_some (Some u) is
no_open (None ∷ us) none zero u is = none_some u (some_same None (Some u) is)
no_open (None ∷ us) none (suc g) u is = no_open us none g u is
no_open (Some v ∷ us) none g u is = none

limbo_none : (rs : List LimboRun) → rs ≡ [] → IsLimbo rs
limbo_none rs is = subst IsLimbo (sym is) tt

pub all_kept : (at : Layout) (g : ℕ) (ks : List GroupKept) → Each (IsGroupBegun at) g ks → AreKept ks
all_kept at g [] are h k is = absurd (none_some k is)
all_kept at g (x ∷ xs) are zero k is = subst IsKept (some_same x k is) (limbo_none x.limbo.items are.0.fresh.limbo)
all_kept at g (x ∷ xs) are (suc h) k is = all_kept at (g + 1) xs are.1 h k is

pub all_fresh : (at : Layout) (g : ℕ) (ks : List GroupKept) → Each (IsGroupBegun at) g ks → AllFresh ks
all_fresh at g [] are h k is = absurd (none_some k is)
all_fresh at g (x ∷ xs) are zero k is = subst IsFresh (some_same x k is) are.0.fresh
all_fresh at g (x ∷ xs) are (suc h) k is = all_fresh at (g + 1) xs are.1 h k is

pub fresh_ok : {E : Type 0} (at : Layout) (r : Result (Vec GroupKept) E) → IfOk r (λ groups. Each (IsGroupBegun at) 0 groups.items) → IfOk r (λ groups. AllFresh groups.items)
fresh_ok at (Ok groups) are = all_fresh at 0 groups.items are
fresh_ok at (Err refused) are = tt

pub begun_safe : {D : Type 0} (d : Ghosts D) (store : Store D) (b : Beside) (journal : Vec Entry) (begun : ℕ) → IsReady d store → AreBeside store.geo.agcount b → begun ≡ d.faults store.dev
    → IsSafe d (record { desk = record { store = store; book = record { journal = journal; begun = begun; shut = None }; drain = b.drain; ino_trees = b.trees }; groups = b.groups; units = b.units })
begun_safe d store b journal begun ready are calm = record {
  desk = record {
    room = ready.room;
    agreed = λ none. ready.agreed;
    later = omega (arith, calm);
    cause = λ n is. absurd (none_some n is);
    gates = are.gates;
    trees = are.trees;
  };
  groups = are.groups;
  units = are.units;
  works = λ g u is. absurd (no_open b.units.items are.none g u is);
  limbos = are.kept;
}

-- want of memory refuses no head
pub memory_first : {T : Type 0} (content : Option Contents) (geo : Geometry) (r : Result T OpenRefused) → IfErr r (λ stop. stop ≡ Memory) → IfErr r (RefusesFirst content geo)
memory_first content geo (Ok done) is = tt
memory_first content geo (Err stop) is = λ c told. subst (IsFirstRefused (layout geo) (c Image)) (sym is) tt
