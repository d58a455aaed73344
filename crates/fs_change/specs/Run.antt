-- Whole journals: the states that they lead through.
use Rattle.std.specs.Prelude.{◌≡◌, ℕ, ◌+◌, ◌==◌, Bool, false, List, [], ◌∷◌, if◌then◌else◌}
use Rattle.fs_model.specs.declared.entry.Entry.{Entry}
use Rattle.fs_model.specs.declared.entry.Entry.TheVariants as entries
use Rattle.sblock.specs.declared.kind.Kind.{Kind}
use Rattle.fs_state.specs.State.{State}
use Rattle.fs_change.specs.Forget.{Forget}
use Rattle.fs_change.specs.Marks.{Due, IsDue, dues, MayStandAlone}
use Rattle.fs_change.specs.Step.{Step}

-- the entries lead from the first state to the last, where these marks stand first; what an entry left as it was is marked
-- right behind it, and every other mark has a cause of its own
abbrev pub LeadsOn : List Due → State → List Entry → State → Type 0
LeadsOn [] a [] b = b ≡ a
LeadsOn (d ∷ ds) a [] b = ⊥
LeadsOn [] a (e ∷ es) b = (left : List Kind) × (next : State) × (s : Step a left e next) × MayStandAlone a e × LeadsOn (dues a left e s.decided next) next es b
LeadsOn (d ∷ ds) a (e ∷ es) b = IsDue d e × (next : State) × Step a [] e next × LeadsOn ds next es b

abbrev pub Leads : State → List Entry → State → Type 0
Leads a es b = LeadsOn [] a es b

-- ---- replies

abbrev pub only_of : ℕ → ℕ → ℕ → ℕ
only_of writer other n = if other == writer then n else 0

-- how many blocks of this writer an entry did
abbrev pub done_by : ℕ → Entry → ℕ
done_by writer (entries.Mapped m) = only_of writer m.writer m.count
done_by writer (entries.Unmapped m) = only_of writer m.writer m.count
done_by writer (entries.Converted m) = only_of writer m.writer m.count
done_by writer (entries.Shared m) = only_of writer m.writer m.count
done_by writer e = 0

abbrev pub is_reply_to : ℕ → Entry → Bool
is_reply_to writer (entries.Reply other line code done refused begun) = other == writer
is_reply_to writer e = false

-- of a journal whose last entry comes first: what the writer did since its last reply
unfoldable pub done_since : ℕ → List Entry → ℕ
done_since writer [] = 0
done_since writer (e ∷ es) = if is_reply_to writer e then 0 else done_by writer e + done_since writer es

abbrev pub FitsReply : List Entry → Entry → Type 0
FitsReply past (entries.Reply writer line code done refused begun) = done ≡ done_since writer past
FitsReply past e = Unit {0}

abbrev pub RepliesFit : List Entry → List Entry → Type 0
RepliesFit past [] = Unit {0}
RepliesFit past (e ∷ es) = FitsReply past e × RepliesFit (e ∷ past) es

-- Does a journal lead from one state to another? Step by step, and each reply says what its writer did since the one
-- before it.
pub record Run (a : State) (journal : List Entry) (b : State) : Type 0 where
  pub leads : Leads a journal b
  pub replies : RepliesFit [] journal

-- ---- sessions

-- Do these journals, one after the other, lead from one state to another? Each begins with what a new session keeps.
abbrev pub RunAll : State → List (List Entry) → State → Type 0
RunAll a [] b = b ≡ a
RunAll a (journal ∷ rest) b = (last : State) × (begun : State) × Run a journal last × Forget last begun × RunAll begun rest b
