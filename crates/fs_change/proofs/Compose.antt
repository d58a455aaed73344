-- Journals and sessions one after the other.
use Rattle.std.proofs.Common.{◌≡◌, ℕ, ◌==◌, ◌||◌, ◌&&◌, Bool, true, false, List, [], ◌∷◌, ◌++◌, subst, refl, ap, ap₂, eq-eqb}
use Rattle.std.specs.List.{list_all}
use Rattle.tree_defs.specs.Lists.{is_in}
use Rattle.fs_model.specs.declared.entry.Entry.{Entry}
use Rattle.fs_state.specs.State.{State, Group, Reading, Readable, Unreadable}
use Rattle.fs_change.specs.Laws.{LeadsCompose, SessionsBegin, SessionsCompose}
use Rattle.fs_change.specs.Forget.{KeepsReading, GroupForgets, Forget, forgotten, forgotten_group}
use Rattle.fs_change.specs.Marks.{Due, dues}
use Rattle.fs_change.specs.Run.{LeadsOn, Leads, RunAll}

-- whatever marks are due at first
compose_on : (ds : List Due) (a b c : State) (js ks : List Entry) → LeadsOn ds a js b → Leads b ks c → LeadsOn ds a (js ++ ks) c
compose_on [] a b c [] ks l m = subst (λ x. Leads x ks c) l m
compose_on (d ∷ ds) a b c [] ks l m = absurd l
compose_on [] a b c (e ∷ js) ks l m = (l.0, l.1, l.2, l.3, compose_on (dues a l.0 e l.2.decided l.1) l.1 b c js ks l.4 m)
compose_on (d ∷ ds) a b c (e ∷ js) ks l m = (l.0, l.1, l.2, compose_on ds l.1 b c js ks l.3 m)

pub leads_compose : LeadsCompose
leads_compose a b c js ks l m = compose_on [] a b c js ks l m

pub sessions_compose : SessionsCompose
sessions_compose a b c [] ks l m = subst (λ x. RunAll x ks c) l m
sessions_compose a b c (j ∷ js) ks l m = (l.0, l.1, l.2, l.3, sessions_compose l.1 b c js ks l.4 m)

-- ---- what a new session may begin with

passes_still : (x y : Bool) → y ≡ true → (x || y) ≡ true
passes_still true y h = refl
passes_still false y h = h

-- all blocks of a list are in another that has them
all_in : (bs cs : List ℕ) → ((b : ℕ) → is_in b bs ≡ true → is_in b cs ≡ true) → list_all (λ b. is_in b cs) bs ≡ true
all_in [] cs h = refl
all_in (b ∷ bs) cs h = ap₂ (λ x y. x && y) (h b (ap (λ x. x || is_in b bs) (eq-eqb b b refl))) (all_in bs cs (λ c i. h c (passes_still (b == c) (is_in c bs) i)))

pub same_reading : {R : Type 0} (r : Reading R) → KeepsReading r r
same_reading (Readable recs blocks) = refl
same_reading (Unreadable block fault claims) = all_in claims claims (λ b i. i)

group_forgets : (p : Group) → GroupForgets p (forgotten_group p)
group_forgets p = record {
  list = refl;
  counters = refl;
  trees = λ k. record { reading = same_reading (p.tree k).reading; trust = refl };
  reserve = refl;
  limbo = refl;
}

pub session_begins : (a : State) → Forget a (forgotten a)
session_begins a = record {
  geometry = refl;
  groups = λ g. group_forgets (a.group g);
  cores = λ ino out. refl;
  forks = λ ino f list is same. same;
  chains = λ c. refl;
}

pub sessions_begin : SessionsBegin
sessions_begin a = (session_begins a, session_begins (forgotten a))
