-- What a refill says, behind calls that add no entry.
use Rattle.std.proofs.Common.{◌≡◌, ◌∙◌, ◌≤◌, ℕ, ap, subst, sym, append-nil, append_assoc}
use Rattle.std.specs.Prelude.{◌++◌, ◌∷◌, [], List, Result, Ok, Err, IfOk, OnOk, Some, length, map}
use Rattle.std.specs.List.{slice_get}
use Rattle.core_parts.specs.declared.groups.GroupKept.{GroupKept}
use Rattle.ag_headers.specs.Ring.{entries as listed}
use Rattle.core_chains.specs.Refill.Entries.{SaysGoal, SaysRefilled, goal_of, trimmed, with_blocks}
use Rattle.fs_model.specs.declared.entry.Entry.{Entry}
use Rattle.fs_model.specs.declared.entry.Entry.TheVariants as entries
use Rattle.free_space.specs.declared.list.ListGoal.{ListGoal}
use Rattle.free_space.specs.declared.list.ListGoal.TheVariants as goals
use Rattle.run_sets.specs.declared.run.Run.{Run}
use Rattle.span_recs.specs.declared.span.SpanRec.{SpanRec}

-- the same goal
pub goal_as : {E : Type 0} (a b : ListGoal) (g : ℕ) (r : Result ℕ E) (was now : List Entry) → a ≡ b → IfOk r (λ n. SaysGoal a g n was now) → IfOk r (λ n. SaysGoal b g n was now)
goal_as a b g r was now is says = subst (λ (x : ListGoal). IfOk r (λ n. SaysGoal x g n was now)) is says

-- a run came to the list
run_filled : (wanted g count start n : ℕ) (was mid now : List Entry) → count ≤ wanted → mid ≡ was → n ≡ count → now ≡ mid ++ entries.Refilled (record { group = g; block = start; count = count }) ∷ [] → SaysGoal (goals.Take wanted) g n was now
run_filled wanted g count start n was mid now few same is said =
    let entry : Entry = entries.Refilled (record { group = g; block = start; count = count }) in
    subst (λ (m : ℕ). SaysGoal (goals.Take wanted) g m was now) (sym is) (start, few, said ∙ ap (λ (es : List Entry). es ++ entry ∷ []) same)

pub filled_said : {E : Type 0} (wanted g : ℕ) (run : SpanRec) (r : Result ℕ E) (was mid now : List Entry) → run.count ≤ wanted → mid ≡ was → IfOk r (λ n. n ≡ run.count) → OnOk r (now ≡ mid ++ entries.Refilled (record { group = g; block = run.start; count = run.count }) ∷ []) → IfOk r (λ n. SaysGoal (goals.Take wanted) g n was now)
filled_said wanted g run (Ok n) was mid now few same is said = run_filled wanted g run.count run.start n was mid now few same is said
filled_said wanted g run (Err e) was mid now few same is said = tt

-- runs left it
pub trimmed_said : (most g n : ℕ) (runs : List Run) (was mid now : List Entry) → n ≡ with_blocks 0 runs → mid ≡ was → now ≡ mid ++ map (trimmed g) runs → SaysGoal (goals.Give most) g n was now
trimmed_said most g n runs was mid now is same said = (runs, is, said ∙ ap (λ (es : List Entry). es ++ map (trimmed g) runs) same)

pub refilled_on : {E : Type 0} (ks : List GroupKept) (g : ℕ) (r : Result ℕ E) (was mid now : List Entry) → mid ≡ was → IfOk r (λ n. SaysRefilled ks g n mid now) → IfOk r (λ n. SaysRefilled ks g n was now)
refilled_on ks g r was mid now same says = subst (λ (es : List Entry). IfOk r (λ n. SaysRefilled ks g n es now)) same says

-- of the list that is kept of the group
pub group_refilled : {E : Type 0} (ks : List GroupKept) (g : ℕ) (p : GroupKept) (r : Result ℕ E) (was now : List Entry) → slice_get ks g ≡ Some p → IfOk r (λ n. SaysGoal (goal_of (length (listed p.heads.list))) g n was now) → IfOk r (λ n. SaysRefilled ks g n was now)
group_refilled ks g p (Ok n) was now at says = record { kept = p; there = at; goal = says }
group_refilled ks g p (Err e) was now at says = tt

-- ---- runs that are said one after the other: what is said, with what is left to say, is all

pub run_said : (g : ℕ) (r : Run) (rest later : List Run) (old mid all : List Entry) → rest ≡ r ∷ later → mid ≡ old ++ trimmed g r ∷ [] → old ++ map (trimmed g) rest ≡ all → mid ++ map (trimmed g) later ≡ all
run_said g r rest later old mid all is one said =
    ap (λ (es : List Entry). es ++ map (trimmed g) later) one ∙ (append_assoc old (trimmed g r ∷ []) (map (trimmed g) later) ∙ (ap (λ (rs : List Run). old ++ map (trimmed g) rs) (sym is) ∙ said))

pub all_said : (g : ℕ) (rest : List Run) (now all : List Entry) → rest ≡ [] → now ++ map (trimmed g) rest ≡ all → now ≡ all
all_said g rest now all none said = sym (append-nil now) ∙ (ap (λ (rs : List Run). now ++ map (trimmed g) rs) (sym none) ∙ said)
