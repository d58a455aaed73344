-- What entries of a group make of its units, beside what the journal says of them.
use Rattle.std.proofs.Common.{◌≡◌, ℕ, ◌&&◌, ◌||◌, not, Bool, true, false, List, [], ◌∷◌, refl, ap, sym, ◌∙◌}
use Rattle.std.specs.Prelude.{if◌then◌else◌}
use Rattle.core_parts.specs.Common.Kinds.{has_passed, is_sick, is_unit_sick, with_pass, with_trust, with_unit}
use Rattle.core_parts.specs.declared.groups.Passed.{Passed}
use Rattle.core_parts.specs.declared.groups.Trusts.{Trusts}
use Rattle.fs_model.specs.declared.entry.Entry.{Entry}
use Rattle.fs_model.specs.declared.entry.Entry.TheVariants as entries
use Rattle.fs_model.specs.declared.unit.Trust.TheVariants.{Good, Sick}
use Rattle.fs_model.specs.declared.unit.Unit.{Unit as ScrubUnit}
use Rattle.fs_model.specs.declared.unit.Unit.TheVariants as units
use Rattle.fs_state.specs.Faults.{kind_of_fault}
use Rattle.fs_state.specs.Records.{unit_of}
use Rattle.fs_state.specs.Session.{is_at, is_passed, is_same_unit, stands}
use Rattle.sblock.specs.declared.kind.Kind.{Kind}
use Rattle.sblock.specs.declared.kind.Kind.TheVariants.{Bno, Cnt, Rmap, Refc, Ino, Fino}
use Rattle.scrub_order.specs.Laws.{behind}
use Rattle.unit_trust.proofs.Places.{at_none, at_own, at_place, falls_if, on_false}
use Rattle.unit_trust.specs.Laws.{AreOfFallen, AreOfGroup, IsOfFallen, IsOfGroup}
use Rattle.unit_trust.specs.Trusts.{passed_after, passed_by, trust_after, trust_by}

-- a unit stands by what is known of its group
abbrev pub holds : Trusts → Passed → ScrubUnit → Bool
holds t p u = has_passed p u && not (is_unit_sick t u)

abbrev pub AgreesAt : List Entry → ℕ → Trusts → Passed → Type 0
AgreesAt past g t p = (u : ScrubUnit) → holds t p u ≡ stands g u past

-- ---- what is known, changed in one place

none_by_first : (x y : Bool) → (x && not (true || y)) ≡ false
none_by_first true y = refl
none_by_first false y = refl

none_by_second : (x y : Bool) → (x && not (y || true)) ≡ false
none_by_second true true = refl
none_by_second true false = refl
none_by_second false y = refl

none_by_one : (x : Bool) → (x && false) ≡ false
none_by_one true = refl
none_by_one false = refl

-- a sick btree takes its own unit
sick_at : (t : Trusts) (p : Passed) (kind : Kind) (u : ScrubUnit) → holds (with_trust t kind Sick) p u ≡ (if is_same_unit u (unit_of kind) then false else holds t p u)
sick_at t p Bno units.Free = none_by_first p.free (is_sick t.cnt)
sick_at t p Cnt units.Free = none_by_second p.free (is_sick t.bno)
sick_at t p Rmap units.Rmap = none_by_one p.rmap
sick_at t p Refc units.Refc = none_by_one p.refc
sick_at t p Ino units.Inode = none_by_first p.inode (is_sick t.fino)
sick_at t p Fino units.Inode = none_by_second p.inode (is_sick t.ino)
sick_at t p kind u = refl

-- a unit that passes stands
good_at : (t : Trusts) (p : Passed) (v u : ScrubUnit) → holds (with_unit t v Good) (with_pass p v true) u ≡ (if is_same_unit u v then true else holds t p u)
good_at t p units.Inode units.Inode = refl
good_at t p units.Rmap units.Rmap = refl
good_at t p units.Free units.Free = refl
good_at t p units.Refc units.Refc = refl
good_at t p v u = refl

-- a unit that is opened doesn't
opened_at : (t : Trusts) (p : Passed) (v u : ScrubUnit) → holds t (with_pass p v false) u ≡ (if is_same_unit u v then false else holds t p u)
opened_at t p units.Inode units.Inode = refl
opened_at t p units.Rmap units.Rmap = refl
opened_at t p units.Free units.Free = refl
opened_at t p units.Refc units.Refc = refl
opened_at t p v u = refl

-- ---- one entry

-- a test of the unit is one of unit and group
by_place : (g h : ℕ) (u v : ScrubUnit) (b x y : Bool) → h ≡ g → x ≡ y → (if is_same_unit u v then b else x) ≡ (if is_at g u h v then b else y)
by_place g h u v b x y is same = ap (λ (z : Bool). if is_same_unit u v then b else z) same ∙ ap (λ (t : Bool). if t then b else y) (sym (at_own g h u v is))

-- a unit that hadn't stood still doesn't
by_fallen : (g h : ℕ) (u v : ScrubUnit) (past : List Entry) → stands h v past ≡ false → stands g u past ≡ (if is_at g u h v then false else stands g u past)
by_fallen g h u v past fallen = falls_if (is_at g u h v) (stands g u past) (λ at. at_place (λ i w. stands i w past ≡ false) g u h v at fallen)

pub by_opening : (g : ℕ) (v : ScrubUnit) (past : List Entry) (t : Trusts) (p : Passed) → stands g v past ≡ false → AgreesAt past g t p
    → (u : ScrubUnit) → holds t (with_pass p v false) u ≡ stands g u past
by_opening g v past t p fallen agrees u =
    opened_at t p v u ∙ by_place g g u v false (holds t p u) (stands g u past) refl (agrees u) ∙ sym (by_fallen g g u v past fallen)

by_verdict : (b : Bool) (g h : ℕ) (v : ScrubUnit) (past : List Entry) (t : Trusts) (p : Passed) → h ≡ g → (b ≡ false → stands h v past ≡ false) → AgreesAt past g t p
    → (u : ScrubUnit) → holds (if b then with_unit t v Good else t) (if b then with_pass p v true else p) u ≡ (if is_at g u h v then b else stands g u past)
by_verdict true g h v past t p is fallen agrees u = good_at t p v u ∙ by_place g h u v true (holds t p u) (stands g u past) is (agrees u)
by_verdict false g h v past t p is fallen agrees u = agrees u ∙ by_fallen g h u v past (fallen refl)

by_sick : (g h : ℕ) (kind : Kind) (past : List Entry) (t : Trusts) (p : Passed) → h ≡ g → AgreesAt past g t p
    → (u : ScrubUnit) → holds (with_trust t kind Sick) p u ≡ (if is_at g u h (unit_of kind) then false else stands g u past)
by_sick g h kind past t p is agrees u = sick_at t p kind u ∙ by_place g h u (unit_of kind) false (holds t p u) (stands g u past) is (agrees u)

by_entry : (g : ℕ) (past : List Entry) (e : Entry) (t : Trusts) (p : Passed) → IsOfGroup g e → IsOfFallen past e → AgreesAt past g t p → AgreesAt (e ∷ past) g (trust_by e t) (passed_by e p)
unfolding stands
by_entry g past (entries.Fault h v fault) t p is fallen agrees u = by_sick g h (kind_of_fault fault) past t p is agrees u
by_entry g past (entries.Marked h kind cause) t p is fallen agrees u = by_sick g h kind past t p is agrees u
by_entry g past (entries.Verdict h v verdict) t p is fallen agrees u = by_verdict (is_passed verdict) g h v past t p is fallen agrees u
by_entry g past e t p is fallen agrees u = agrees u

-- an entry of another group says nothing of a unit
elsewhere : (g h : ℕ) (u : ScrubUnit) (past : List Entry) (e : Entry) → (h ≡ g → ⊥) → IsOfGroup g e → stands h u (e ∷ past) ≡ stands h u past
unfolding stands
elsewhere g h u past (entries.Fault i v fault) away is = on_false (is_at h u i (unit_of (kind_of_fault fault))) false (stands h u past) (at_none h i u (unit_of (kind_of_fault fault)) (λ same. away (sym same ∙ is)))
elsewhere g h u past (entries.Marked i kind cause) away is = on_false (is_at h u i (unit_of kind)) false (stands h u past) (at_none h i u (unit_of kind) (λ same. away (sym same ∙ is)))
elsewhere g h u past (entries.Verdict i v verdict) away is = on_false (is_at h u i v) (is_passed verdict) (stands h u past) (at_none h i u v (λ same. away (sym same ∙ is)))
elsewhere g h u past e away is = refl

-- ---- entries of one group

pub by_entries : (g : ℕ) (past es : List Entry) (t : Trusts) (p : Passed) → AreOfGroup g es → AreOfFallen past es → AgreesAt past g t p
    → AgreesAt (behind past es) g (trust_after es t) (passed_after es p)
by_entries g past [] t p of fallen agrees = agrees
by_entries g past (e ∷ es) t p of fallen agrees =
    by_entries g (e ∷ past) es (trust_by e t) (passed_by e p) of.1 fallen.1 (by_entry g past e t p of.0 fallen.0 agrees)

pub all_elsewhere : (g h : ℕ) (u : ScrubUnit) (past es : List Entry) → (h ≡ g → ⊥) → AreOfGroup g es → stands h u (behind past es) ≡ stands h u past
all_elsewhere g h u past [] away of = refl
all_elsewhere g h u past (e ∷ es) away of = all_elsewhere g h u (e ∷ past) es away of.1 ∙ elsewhere g h u past e away of.0
