-- Two parts in a row lead through what each of them leads through.
use Rattle.std.proofs.Common.{List, [], ◌∷◌, ◌++◌, subst}
use Rattle.fs_change.specs.Marks.{Due, dues}
use Rattle.fs_state.specs.declared.plan.Plan.{Plan}
use Rattle.fs_model.specs.declared.entry.Entry.{Entry}
use Rattle.fs_said.specs.Said.{Told, told_after}
use Rattle.fs_state.specs.State.{State}
use Rattle.law_said.specs.Through.{IsOfImage, PassesCompose, SaysThrough}

compose_on : (P : State → Type 0) (plan : Plan) (ds : List Due) (t u v : Told) (a b c : State) (js ks : List Entry) → SaysThrough P plan ds t a js u b → SaysThrough P plan [] u b ks v c
    → SaysThrough P plan ds t a (js ++ ks) v c
compose_on P plan [] t u v a b c [] ks h i = subst (λ (x : Told). SaysThrough P plan [] x a ks v c) h.0.0 (subst (λ (x : State). SaysThrough P plan [] u x ks v c) h.0.1 i)
compose_on P plan (d ∷ ds) t u v a b c [] ks h i = absurd h.0
compose_on P plan [] t u v a b c (e ∷ js) ks h i =
    let s = h.0 in
    let rest = compose_on P plan (dues a s.1 e s.3.decided s.2) (told_after a e t) u v s.2 b c js ks (s.5, h.1.1) i in
    ((s.0, s.1, s.2, s.3, s.4, rest.0), (h.1.0, rest.1))
compose_on P plan (d ∷ ds) t u v a b c (e ∷ js) ks h i =
    let s = h.0 in
    let rest = compose_on P plan ds (told_after a e t) u v s.2 b c js ks (s.4, h.1.1) i in
    ((s.0, s.1, s.2, s.3, rest.0), (h.1.0, rest.1))

pub passes_compose : PassesCompose
passes_compose at plan ds t u v a b c js ks h i = compose_on (IsOfImage at) plan ds t u v a b c js ks h i
