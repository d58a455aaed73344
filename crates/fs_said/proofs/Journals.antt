-- Journals that say what is so, in a row.
use Rattle.std.proofs.Common.{List, [], ◌∷◌, ◌++◌, subst}
use Rattle.fs_model.specs.declared.entry.Entry.{Entry}
use Rattle.fs_state.specs.State.{State}
use Rattle.sblock.specs.declared.kind.Kind.{Kind}
use Rattle.fs_state.specs.declared.plan.Plan.{Plan}
use Rattle.fs_change.specs.Marks.{Due, dues}
use Rattle.fs_change.specs.Run.{LeadsOn}
use Rattle.fs_change.specs.Step.{Step}
use Rattle.fs_said.specs.Laws.{TrulyLeads, SaysCompose}
use Rattle.fs_said.specs.Said.{Told, nothing_told, told_after, IsSaid, SaysOn}

leads_on : (plan : Plan) (ds : List Due) (t u : Told) (a b : State) (es : List Entry) → SaysOn plan ds t a es u b → LeadsOn ds a es b
leads_on plan [] t u a b [] h = h.1
leads_on plan (d ∷ ds) t u a b [] h = absurd h
leads_on plan [] t u a b (e ∷ es) h = (h.1, h.2, h.3, h.4, leads_on plan (dues a h.1 e h.3.decided h.2) (told_after a e t) u h.2 b es h.5)
leads_on plan (d ∷ ds) t u a b (e ∷ es) h = (h.1, h.2, h.3, leads_on plan ds (told_after a e t) u h.2 b es h.4)

pub truly_leads : TrulyLeads
truly_leads plan a b es l = leads_on plan [] nothing_told l.0 a b es l.1

compose_on : (plan : Plan) (ds : List Due) (t u v : Told) (a b c : State) (js ks : List Entry) → SaysOn plan ds t a js u b → SaysOn plan [] u b ks v c → SaysOn plan ds t a (js ++ ks) v c
compose_on plan [] t u v a b c [] ks h i = subst (λ x. SaysOn plan [] t x ks v c) h.1 (subst (λ x. SaysOn plan [] x b ks v c) h.0 i)
compose_on plan (d ∷ ds) t u v a b c [] ks h i = absurd h
compose_on plan [] t u v a b c (e ∷ js) ks h i = (h.0, h.1, h.2, h.3, h.4, compose_on plan (dues a h.1 e h.3.decided h.2) (told_after a e t) u v h.2 b c js ks h.5 i)
compose_on plan (d ∷ ds) t u v a b c (e ∷ js) ks h i = (h.0, h.1, h.2, h.3, compose_on plan ds (told_after a e t) u v h.2 b c js ks h.4 i)

pub says_compose : SaysCompose
says_compose plan t u v a b c js ks h i = compose_on plan [] t u v a b c js ks h i

-- what is said first, whatever marks are due, and what the others are said behind it
pub record Goes (plan : Plan) (t u : Told) (a b : State) (e : Entry) (es : List Entry) : Type 0 where
  pub said : IsSaid plan a t e
  pub left : List Kind
  pub next : State
  pub step : Step a left e next
  pub due : List Due
  pub rest : SaysOn plan due (told_after a e t) next es u b

pub goes : {plan : Plan} {t u : Told} {a b : State} {e : Entry} {es : List Entry} (ds : List Due) → SaysOn plan ds t a (e ∷ es) u b → Goes plan t u a b e es
goes {a = a} {e = e} [] h = record { said = h.0; left = h.1; next = h.2; step = h.3; due = dues a h.1 e h.3.decided h.2; rest = h.5 }
goes (d ∷ ds) h = record { said = h.0; left = []; next = h.2; step = h.3; due = ds; rest = h.4 }
