-- What is known of the first intent of a chain, and of a desk that gets another chain.
use Rattle.std.proofs.Common.{◌≡◌, ◌∙◌, Bool, true, refl, sym, ap, subst, arith, append-nil}
use Rattle.std.proofs.lemmas.Bool.{and_parts, false≢true}
use Rattle.std.specs.Prelude.{◌&&◌, ◌++◌, List, [], ◌∷◌, Option, None, Some, length, nat_le, option_to_list, if◌then◌else◌}
use Rattle.std.specs.List.{list_all, slice_get}
use Rattle.blk_device.specs.declared.device.Device.{Ghosts}
use Rattle.core_parts.specs.Common.Asks.{IsUsable}
use Rattle.core_parts.specs.Keeps.{IsSteady}
use Rattle.core_parts.specs.declared.desk.Desk.{Desk}
use Rattle.core_chains.specs.Write.Chains.{IsFirst, IsIdle, IsNext}
use Rattle.defer_chain.specs.Owed.{owed}
use Rattle.defer_chain.specs.Steps.{front_fits, has_run, in_order, is_count, is_free, is_ref, is_rmap, step_of, steps_in}
use Rattle.defer_chain.specs.declared.chain.Chain.{Chain}
use Rattle.defer_chain.specs.declared.kinds.StepKind.{StepKind}
use Rattle.fs_state.specs.declared.intent.Intent.{Intent}
use Rattle.fs_state.specs.declared.intent.IntentKind.{IntentKind}
use Rattle.fs_state.specs.declared.intent.IntentKind.TheVariants.{RmapAdd, RmapRemove, RmapChange, RefMore, RefLess, Free}
use Rattle.intent_drain.specs.Drains.{SameGates}
use Rattle.intent_drain.specs.declared.drain.Drain.{Drain}
use Rattle.intent_drain.specs.declared.gates.Gate.{Gate}

some_none : {X : Type 0} (x : X) → Some x ≡ None → ⊥
some_none x is = cc

-- ---- a list by its first intent

empty_of : (is : List Intent) → slice_get is 0 ≡ None → is ≡ []
empty_of [] none = refl
empty_of (i ∷ is) none = absurd (some_none i none)

pub none_owed : (c : Chain) → None ≡ slice_get (owed c) 0 → IsIdle c
none_owed c none = empty_of (owed c) (sym none)

is_first : (k : IntentKind) (kind : StepKind) (is : List Intent) (i : Intent) → i.kind ≡ k → step_of k ≡ kind → IsFirst kind (i ∷ is)
is_first RmapAdd kind is i at e = subst (λ (s : StepKind). IsFirst s (i ∷ is)) e (ap is_rmap at)
is_first RmapRemove kind is i at e = subst (λ (s : StepKind). IsFirst s (i ∷ is)) e (ap is_rmap at)
is_first RmapChange kind is i at e = subst (λ (s : StepKind). IsFirst s (i ∷ is)) e (ap is_rmap at)
is_first RefMore kind is i at e = subst (λ (s : StepKind). IsFirst s (i ∷ is)) e (ap is_ref at)
is_first RefLess kind is i at e = subst (λ (s : StepKind). IsFirst s (i ∷ is)) e (ap is_ref at)
is_first Free kind is i at e = subst (λ (s : StepKind). IsFirst s (i ∷ is)) e (ap is_free at)

-- ---- the first of what is owed has a run

run_by : (k : IntentKind) (run order counts : Bool) → (if is_rmap k then run && order else (is_ref k && run) && counts) ≡ true → run ≡ true
run_by RmapAdd run order counts h = (and_parts run order h).0
run_by RmapRemove run order counts h = (and_parts run order h).0
run_by RmapChange run order counts h = (and_parts run order h).0
run_by RefMore run order counts h = (and_parts run counts h).0
run_by RefLess run order counts h = (and_parts run counts h).0
run_by Free run order counts h = absurd (false≢true h)

order_run : (i : Intent) (is : List Intent) → in_order (i ∷ is) ≡ true → has_run i ≡ true
unfolding in_order
order_run i is h = run_by i.kind (has_run i) (in_order is) (list_all is_count is) h

-- the first of these passes as one with a run
abbrev FirstRuns : List Intent → Type 0
FirstRuns [] = Unit {0}
FirstRuns (i ∷ is) = has_run i ≡ true

order_first : (is : List Intent) → in_order is ≡ true → FirstRuns is
order_first [] h = tt
order_first (i ∷ is) h = order_run i is h

front_first : (free : Option Intent) (is : List Intent) → front_fits free is ≡ true → FirstRuns (option_to_list free ++ is)
front_first None is h = order_first is h
front_first (Some f) is h = (and_parts (has_run f) (list_all is_count is) ((and_parts (is_free f.kind) (has_run f && list_all is_count is) h).1)).0

owed_first : (c : Chain) → FirstRuns (owed c)
owed_first c =
    let inner : (nat_le c.end 5 && front_fits c.free (steps_in c.steps c.done c.end)) ≡ true = (and_parts (nat_le c.done c.end) (nat_le c.end 5 && front_fits c.free (steps_in c.steps c.done c.end)) c.fits).1 in
    front_first c.free (steps_in c.steps c.done c.end) ((and_parts (nat_le c.end 5) (front_fits c.free (steps_in c.steps c.done c.end)) inner).1)

some_same : {X : Type 0} (x y : X) → Some x ≡ Some y → x ≡ y
some_same x y is = cc

none_some : {X : Type 0} (x : X) → None ≡ Some x → ⊥
none_some x is = cc

next_of : (is : List Intent) (i : Intent) (kind : StepKind) → FirstRuns is → slice_get is 0 ≡ Some i → step_of i.kind ≡ kind → IsNext kind is i
next_of [] i kind runs at e = absurd (none_some i at)
next_of (j ∷ is) i kind runs at e =
    let same : j ≡ i = some_same j i at in
    subst (λ (x : Intent). IsNext kind (x ∷ is) i) (sym same) (record {
      first = refl;
      kind_is = e;
      fits = is_first i.kind kind is i refl e;
      count = refl;
      less = refl;
      run = subst (λ (x : Intent). has_run x ≡ true) same runs;
    })

pub next_is : (c : Chain) (i : Intent) (next kind : StepKind) → slice_get (owed c) 0 ≡ Some i → next ≡ step_of i.kind → next ≡ kind → IsNext kind (owed c) i
next_is c i next kind at is same = next_of (owed c) i kind (owed_first c) at (sym is ∙ same)

-- ---- another chain

module _ {D : Type 0} (d : Ghosts D) where
  pub put_usable : (k : Desk D) (drain : Drain) → SameGates k.drain drain → IsUsable d k → IsUsable d (record k { drain = drain })
  put_usable k drain gates u = record {
    desk = record {
      room = u.desk.room;
      agreed = u.desk.agreed;
      later = u.desk.later;
      cause = u.desk.cause;
      gates = ap (λ (gs : List Gate). length gs) gates ∙ u.desk.gates;
      trees = u.desk.trees;
    };
    unshut = u.unshut;
  }

  pub put_steady : (k : Desk D) (drain : Drain) → IsSteady d k (record k { drain = drain })
  put_steady k drain = record { geometry = refl; sizes = refl; later = omega arith; begun = refl; added = []; journal = sym (append-nil k.book.journal.items) }
