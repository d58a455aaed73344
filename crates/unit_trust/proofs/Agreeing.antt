-- What is known of all groups is what the journal says: at the opening, behind entries of a group, and where a unit is
-- opened.
use Rattle.std.proofs.Common.{◌≡◌, ◌&&◌, not, Bool, false, refl, ap, sym, ◌∙◌}
use Rattle.core_parts.specs.Common.Kinds.{has_passed, is_unit_sick, with_pass}
use Rattle.core_parts.specs.declared.groups.Passed.{Passed}
use Rattle.core_parts.specs.declared.groups.Trusts.{Trusts}
use Rattle.fs_model.specs.declared.unit.Unit.{Unit as ScrubUnit}
use Rattle.fs_model.specs.declared.unit.Unit.TheVariants as units
use Rattle.fs_state.specs.Session.{stands}
use Rattle.scrub_order.specs.Laws.{behind}
use Rattle.unit_trust.proofs.Places.{all_set}
use Rattle.unit_trust.proofs.Standing.{all_elsewhere, by_entries, by_opening, holds}
use Rattle.unit_trust.specs.Laws.{EntriesAgree, FreshAgree, OpeningAgrees}
use Rattle.unit_trust.specs.Trusts.{is_stood, passed_after, trust_after}

-- a group of which the same is known
same_known : (t s : Trusts) (p q : Passed) (u : ScrubUnit) → t ≡ s → p ≡ q → holds t p u ≡ holds s q u
same_known t s p q u trust passed = ap (λ (x : Trusts). holds x p u) trust ∙ ap (λ (x : Passed). holds s x u) passed

none_passed : (u : ScrubUnit) (b : Bool) → (has_passed (record { inode = false; rmap = false; free = false; refc = false }) u && b) ≡ false
none_passed units.Inode b = refl
none_passed units.Rmap b = refl
none_passed units.Free b = refl
none_passed units.Refc b = refl

pub fresh_agree : FreshAgree
unfolding stands
fresh_agree ks fresh g kept u is =
    ap (λ (p : Passed). has_passed p u && not (is_unit_sick kept.trust u)) (fresh g kept is).passed ∙ none_passed u (not (is_unit_sick kept.trust u))

pub entries_agree : EntriesAgree
entries_agree past es g ks old new agrees of fallen at known h kept unit is =
    all_set (λ i k. (u : ScrubUnit) → is_stood k u ≡ stands i u (behind past es)) ks g new
    (λ u. same_known new.trust (trust_after es old.trust) new.passed (passed_after es old.passed) u known.trust known.passed
    ∙ by_entries g past es old.trust old.passed of fallen (λ v. agrees g old v at) u)
    (λ i k away there u. agrees i k u there ∙ sym (all_elsewhere g i u past es away of))
    h kept is unit

pub opening_agrees : OpeningAgrees
opening_agrees past g unit ks old new agrees fallen at trust passed h kept v is =
    all_set (λ i k. (u : ScrubUnit) → is_stood k u ≡ stands i u past) ks g new
    (λ u. same_known new.trust old.trust new.passed (with_pass old.passed unit false) u trust passed
    ∙ by_opening g unit past old.trust old.passed fallen (λ w. agrees g old w at) u)
    (λ i k away there u. agrees i k u there)
    h kept is v
