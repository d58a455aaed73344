-- Entries of one group without a verdict, and with one at their end.
use Rattle.std.proofs.Common.{◌≡◌, ◌∙◌, ℕ, Bool, true, false, refl, sym, ap, subst}
use Rattle.std.specs.Prelude.{List, [], ◌∷◌, ◌++◌, if◌then◌else◌}
use Rattle.fs_model.specs.declared.entry.Entry.{Entry}
use Rattle.fs_model.specs.declared.entry.Entry.TheVariants as entries
use Rattle.fs_model.specs.declared.unit.Unit.{Unit as ScrubUnit}
use Rattle.fs_model.specs.declared.verdict.Verdict.{Verdict}
use Rattle.fs_state.specs.Faults.{kind_of_fault}
use Rattle.fs_state.specs.Records.{unit_of}
use Rattle.fs_state.specs.Session.{FitsVerdict, VerdictsFit, is_at, is_passed, stands, verdict_places}
use Rattle.fs_state.specs.declared.plan.Plan.{Plan}
use Rattle.scrub_order.specs.Laws.{behind}
use Rattle.unit_trust.specs.Laws.{AreOfFallen, AreOfGroup}

-- it is no verdict, and where it tells of trust it is of this group
abbrev pub IsPlain : ℕ → Entry → Type 0
IsPlain g (entries.Fault h unit fault) = h ≡ g
IsPlain g (entries.Marked h kind cause) = h ≡ g
IsPlain g (entries.Verdict h unit verdict) = ⊥
IsPlain g e = Unit {0}

abbrev pub ArePlain : ℕ → List Entry → Type 0
ArePlain g [] = Unit {0}
ArePlain g (e ∷ es) = IsPlain g e × ArePlain g es

pub plain_on : (g : ℕ) (xs ys : List Entry) → ArePlain g xs → ArePlain g ys → ArePlain g (xs ++ ys)
plain_on g [] ys ps qs = qs
plain_on g (x ∷ xs) ys ps qs = (ps.0, plain_on g xs ys ps.1 qs)

-- ---- without a verdict

pub plain_places : (g : ℕ) (es : List Entry) → ArePlain g es → verdict_places es ≡ []
unfolding verdict_places
plain_places g [] ps = refl
plain_places g (entries.Verdict h unit verdict ∷ es) ps = absurd ps.0
plain_places g (e ∷ es) ps = plain_places g es ps.1

pub plain_group : (g : ℕ) (es : List Entry) → ArePlain g es → AreOfGroup g es
plain_group g [] ps = tt
plain_group g (entries.Fault h unit fault ∷ es) ps = (ps.0, plain_group g es ps.1)
plain_group g (entries.Marked h kind cause ∷ es) ps = (ps.0, plain_group g es ps.1)
plain_group g (entries.Verdict h unit verdict ∷ es) ps = absurd ps.0
plain_group g (e ∷ es) ps = (tt, plain_group g es ps.1)

pub plain_fallen : (g : ℕ) (past es : List Entry) → ArePlain g es → AreOfFallen past es
plain_fallen g past [] ps = tt
plain_fallen g past (entries.Verdict h unit verdict ∷ es) ps = absurd ps.0
plain_fallen g past (e ∷ es) ps = (tt, plain_fallen g (e ∷ past) es ps.1)

if_false : (b x : Bool) → x ≡ false → (if b then false else x) ≡ false
if_false true x is = refl
if_false false x is = is

-- a unit that doesn't stand doesn't stand behind them either
pub plain_stands : (g : ℕ) (h : ℕ) (unit : ScrubUnit) (past es : List Entry) → ArePlain g es → stands h unit past ≡ false → stands h unit (behind past es) ≡ false
unfolding stands
plain_stands g h unit past [] ps is = is
plain_stands g h unit past (entries.Fault f u fault ∷ es) ps is = plain_stands g h unit (entries.Fault f u fault ∷ past) es ps.1 (if_false (is_at h unit f (unit_of (kind_of_fault fault))) (stands h unit past) is)
plain_stands g h unit past (entries.Marked f kind cause ∷ es) ps is = plain_stands g h unit (entries.Marked f kind cause ∷ past) es ps.1 (if_false (is_at h unit f (unit_of kind)) (stands h unit past) is)
plain_stands g h unit past (entries.Verdict f u verdict ∷ es) ps is = absurd ps.0
plain_stands g h unit past (e ∷ es) ps is = plain_stands g h unit (e ∷ past) es ps.1 is

-- ---- with one at their end

abbrev pub ended_by : List Entry → ℕ → ScrubUnit → Verdict → List Entry
ended_by es g unit verdict = es ++ entries.Verdict g unit verdict ∷ []

pub end_places : (g h : ℕ) (unit : ScrubUnit) (verdict : Verdict) (es : List Entry) → ArePlain g es → verdict_places (ended_by es h unit verdict) ≡ (h, unit) ∷ []
unfolding verdict_places
end_places g h unit verdict [] ps = refl
end_places g h unit verdict (entries.Verdict f u v ∷ es) ps = absurd ps.0
end_places g h unit verdict (e ∷ es) ps = end_places g h unit verdict es ps.1

pub end_group : (g : ℕ) (unit : ScrubUnit) (verdict : Verdict) (es : List Entry) → ArePlain g es → AreOfGroup g (ended_by es g unit verdict)
end_group g unit verdict [] ps = (refl, tt)
end_group g unit verdict (entries.Fault h u fault ∷ es) ps = (ps.0, end_group g unit verdict es ps.1)
end_group g unit verdict (entries.Marked h kind cause ∷ es) ps = (ps.0, end_group g unit verdict es ps.1)
end_group g unit verdict (entries.Verdict h u v ∷ es) ps = absurd ps.0
end_group g unit verdict (e ∷ es) ps = (tt, end_group g unit verdict es ps.1)

pub end_fits : (plan : Plan) (turns n : ℕ) (g h : ℕ) (unit : ScrubUnit) (verdict : Verdict) (past es : List Entry) → ArePlain g es → FitsVerdict plan turns n (behind past es) h unit verdict → VerdictsFit plan turns n past (ended_by es h unit verdict)
end_fits plan turns n g h unit verdict past [] ps fits = (fits, tt)
end_fits plan turns n g h unit verdict past (entries.Verdict f u v ∷ es) ps fits = absurd ps.0
end_fits plan turns n g h unit verdict past (e ∷ es) ps fits = (tt, end_fits plan turns n g h unit verdict (e ∷ past) es ps.1 fits)

pub end_fallen : (g h : ℕ) (unit : ScrubUnit) (verdict : Verdict) (past es : List Entry) → ArePlain g es → stands h unit past ≡ false → AreOfFallen past (ended_by es h unit verdict)
unfolding stands
end_fallen g h unit verdict past [] ps is = ((λ fails. is), tt)
end_fallen g h unit verdict past (entries.Fault f u fault ∷ es) ps is = (tt, end_fallen g h unit verdict (entries.Fault f u fault ∷ past) es ps.1 (if_false (is_at h unit f (unit_of (kind_of_fault fault))) (stands h unit past) is))
end_fallen g h unit verdict past (entries.Marked f kind cause ∷ es) ps is = (tt, end_fallen g h unit verdict (entries.Marked f kind cause ∷ past) es ps.1 (if_false (is_at h unit f (unit_of kind)) (stands h unit past) is))
end_fallen g h unit verdict past (entries.Verdict f u v ∷ es) ps is = absurd ps.0
end_fallen g h unit verdict past (e ∷ es) ps is = (tt, end_fallen g h unit verdict (e ∷ past) es ps.1 is)
