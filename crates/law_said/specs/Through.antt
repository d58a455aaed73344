-- Which states a journal leads through.
use Rattle.std.specs.Prelude.{◌≡◌, List, [], ◌∷◌, ◌++◌}
use Rattle.fs_change.specs.Marks.{Due, dues}
use Rattle.fs_state.specs.declared.plan.Plan.{Plan}
use Rattle.fs_model.specs.declared.entry.Entry.{Entry}
use Rattle.fs_said.specs.Said.{SaysOn, Told, told_after}
use Rattle.fs_state.specs.Kinds.{Image}
use Rattle.fs_state.specs.Read.{state_of}
use Rattle.fs_state.specs.State.{Kept, State}
use Rattle.geom.specs.Layout.{Layout}
use Rattle.law_repairs.specs.Memory.Memory.{IsFit}

-- Is the state behind each entry one of these?
abbrev pub Passes : (P : State → Type 0) (plan : Plan) (ds : List Due) (t : Told) (a : State) (es : List Entry) (u : Told)
    → (b : State) → SaysOn plan ds t a es u b → Type 0
Passes P plan ds t a [] u b s = Unit {0}
Passes P plan [] t a (e ∷ es) u b s =
    P s.2 × Passes P plan (dues a s.1 e s.3.decided s.2) (told_after a e t) s.2 es u b s.5
Passes P plan (d ∷ ds) t a (e ∷ es) u b s = P s.2 × Passes P plan ds (told_after a e t) s.2 es u b s.4

-- a journal that tells the truth, and leads through such states
abbrev pub SaysThrough : (State → Type 0) → Plan → List Due → Told → State → List Entry → Told → State → Type 0
SaysThrough P plan ds t a es u b = (s : SaysOn plan ds t a es u b) × Passes P plan ds t a es u b s

-- what an image stands for, with what is kept in memory: no block of metadata has a second claim, heads are bytes, and lists
-- are accepted
abbrev pub IsOfImage : Layout → State → Type 0
IsOfImage at x = (image : Image) × (kept : Kept) × (x ≡ state_of at image kept) × IsFit at image kept

-- two parts in a row lead through states of images where each does
abbrev pub PassesCompose : Type 0
PassesCompose = (at : Layout) (plan : Plan) (ds : List Due) (t u v : Told) (a b c : State) (js ks : List Entry)
    → SaysThrough (IsOfImage at) plan ds t a js u b → SaysThrough (IsOfImage at) plan [] u b ks v c
    → SaysThrough (IsOfImage at) plan ds t a (js ++ ks) v c
