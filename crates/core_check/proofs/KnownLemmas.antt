-- What entries make of what is known of a group, one piece of them after the other.
use Rattle.std.proofs.Common.{◌≡◌, ◌∙◌, ℕ, ◌+◌, ◌<◌, refl, sym, ap, subst, get_or, take}
use Rattle.std.proofs.lemmas.List.{append_cancel_left, map-append, take_more}
use Rattle.std.specs.Prelude.{◌++◌, ◌∷◌, [], List, length, map}
use Rattle.core_parts.specs.Common.Entries.{HasMore}
use Rattle.core_parts.specs.Common.Kinds.{with_trust}
use Rattle.core_parts.specs.declared.desk.Desk.{Desk}
use Rattle.core_parts.specs.declared.groups.GroupKept.{GroupKept}
use Rattle.core_parts.specs.declared.groups.Passed.{Passed}
use Rattle.core_parts.specs.declared.groups.Trusts.{Trusts}
use Rattle.fs_model.specs.declared.entry.Entry.{Entry}
use Rattle.fs_model.specs.declared.fault.Fault.{Fault}
use Rattle.fs_model.specs.declared.unit.Trust.TheVariants.{Sick}
use Rattle.fs_model.specs.declared.unit.Unit.{Unit as ScrubUnit}
use Rattle.fs_state.specs.Faults.{kind_of_fault}
use Rattle.sblock.specs.declared.kind.Kind.{Kind}
use Rattle.unit_trust.specs.Trusts.{KnownBy, passed_after, passed_by, trust_after, trust_by}
use Rattle.core_check.specs.Told.{IsKnown, entry_of}

pub trust_append : (xs ys : List Entry) (t : Trusts) → trust_after (xs ++ ys) t ≡ trust_after ys (trust_after xs t)
trust_append [] ys t = refl
trust_append (x ∷ xs) ys t = trust_append xs ys (trust_by x t)

pub passed_append : (xs ys : List Entry) (p : Passed) → passed_after (xs ++ ys) p ≡ passed_after ys (passed_after xs p)
passed_append [] ys p = refl
passed_append (x ∷ xs) ys p = passed_append xs ys (passed_by x p)

pub known_append : (xs ys : List Entry) (old mid new : GroupKept) → KnownBy xs old mid → KnownBy ys mid new → KnownBy (xs ++ ys) old new
known_append xs ys old mid new first then = record {
  trust = then.trust ∙ (ap (trust_after ys) first.trust ∙ sym (trust_append xs ys old.trust));
  passed = then.passed ∙ (ap (passed_after ys) first.passed ∙ sym (passed_append xs ys old.passed));
}

-- one fault more, in a loop over them
pub known_next : (g : ℕ) (unit : ScrubUnit) (fs : List Fault) (i : ℕ) (none : Fault) (kind : Kind) (old mid new : GroupKept) → i < length fs → kind ≡ kind_of_fault (get_or fs i none)
    → new.trust ≡ with_trust mid.trust kind Sick → new.passed ≡ mid.passed → KnownBy (map (entry_of g unit) (take i fs)) old mid → KnownBy (map (entry_of g unit) (take (i + 1) fs)) old new
known_next g unit fs i none kind old mid new within of trust passed known =
    let told = map (entry_of g unit) (take i fs) in
    let one = entry_of g unit (get_or fs i none) ∷ [] in
    subst (λ (es : List Entry). KnownBy es old new)
    (sym (ap (map (entry_of g unit)) (take_more fs i none within) ∙ map-append (entry_of g unit) (take i fs) (get_or fs i none ∷ [])))
    (known_append told one old mid new known (record { trust = trust ∙ ap (λ (k : Kind). with_trust mid.trust k Sick) of; passed = passed }))

module _ {D : Type 0} where
  -- by the entries that came, and no others did
  pub known_by_more : (old new : Desk D) (told : List Entry) (was now : GroupKept) → HasMore old new told → KnownBy told was now → IsKnown old new was now
  known_by_more old new told was now more known = λ es has. subst (λ (xs : List Entry). KnownBy xs was now) (append_cancel_left old.book.journal.items told es (sym more ∙ has)) known

  -- after a call that added no entry
  pub known_after : (old mid new : Desk D) (was now : GroupKept) → mid.book.journal.items ≡ old.book.journal.items → IsKnown mid new was now → IsKnown old new was now
  known_after old mid new was now same known = λ es has. known es (has ∙ ap (λ (xs : List Entry). xs ++ es) (sym same))
