-- Which refusals come behind the door.
use Rattle.std.proofs.Common.{◌≡◌, ◌∙◌, ℕ, zero, suc, ◌+◌, ◌<◌, ◌≤◌, List, Option, Some, None, IfSome, refl, sym, ap, subst, inl, inr, arith}
use Rattle.std.specs.Option.{option_map}
use Rattle.ag_headers.specs.declared.fault.HeadFault.{HeadFault}
use Rattle.blk_device.specs.Contents.{Contents, map_told}
use Rattle.blk_device.specs.declared.device.Region.TheVariants.{Image}
use Rattle.core_calls.specs.declared.answers.OpenRefused.{OpenRefused}
use Rattle.core_calls.specs.declared.answers.OpenRefused.TheVariants as opens
use Rattle.core_parts.specs.Opens.Heads.{IsFirstRefused}
use Rattle.fs_model.specs.declared.unit.Head.{Head}
use Rattle.fs_model.specs.declared.unit.Head.TheVariants.{Agf, Agi, Agfl}
use Rattle.geom.specs.Layout.{Layout}
use Rattle.geom.specs.Places.{layout}
use Rattle.geom.specs.declared.geometry.Geometry.{Geometry}
use Rattle.group_trees.specs.Heads.{IsRefusal}
use Rattle.group_trees.specs.declared.accept.HeadsStop.TheVariants as stops
use Rattle.quiet_repair.specs.Refusals.{HeadsPass, IsEnded, LeavesRefused, RefusesAs, RefusesLate, StaysRefused, late_entry}
use Rattle.quiet_repair.specs.declared.repair.Repair.{Repair}
use Rattle.quiet_repair.specs.declared.repair.Repair.TheVariants.{Refused, Ended}
use Rattle.redo_area.specs.Area.{after_recovery}
use Rattle.repair_door.specs.Doors.{IsDecided, Leaves, head_entry, heads_refusal}
use Rattle.repair_door.specs.declared.no_entry.NoEntry.{NoEntry}
use Rattle.repair_door.specs.declared.no_entry.NoEntry.TheVariants as entries
use Rattle.space_check.specs.Checked.{bad_head, bad_head_from, heads_at}

some_none : {A : Type 0} {x : A} → Some x ≡ None → ⊥
some_none e = cc

none_some : {A : Type 0} {x : A} → None ≡ Some x → ⊥
none_some e = cc

-- ---- no head is refused where all pass

is_bad : (at : Layout) (g : ℕ) (block : List ℕ) (head : Head) (fault : HeadFault) → IsRefusal at g block (stops.Refused head fault) → bad_head at g block ≡ Some (head, fault)
unfolding bad_head
is_bad at g block Agf fault is = rw (is, bad_head) refl
is_bad at g block Agi fault is = rw (is.0, is.1, bad_head) refl
is_bad at g block Agfl fault is = rw (is.0, is.1, is.2, bad_head) refl

module _ (at : Layout) (image : ℕ → List ℕ) where
  stops_here : (g n : ℕ) (bad : Head × HeadFault) → bad_head at g (heads_at at image g) ≡ Some bad → bad_head_from at image g (suc n) ≡ Some (g, bad)
  unfolding bad_head_from
  stops_here g n bad h = rw (h, bad_head_from) refl

  passes_on : (g n : ℕ) → bad_head at g (heads_at at image g) ≡ None → bad_head_from at image g (suc n) ≡ bad_head_from at image (g + 1) n
  unfolding bad_head_from
  passes_on g n h = rw (h, bad_head_from) refl

  here : (g n : ℕ) (first : Option (Head × HeadFault)) → bad_head at g (heads_at at image g) ≡ first → bad_head_from at image g (suc n) ≡ None → bad_head at g (heads_at at image g) ≡ None
  here g n None e none = e
  here g n (Some bad) e none = absurd (some_none (sym (stops_here g n bad e) ∙ none))

  none_bad : (n g j : ℕ) → bad_head_from at image g n ≡ None → j < n → bad_head at (g + j) (heads_at at image (g + j)) ≡ None
  none_bad zero g j none lt = let no : ⊥ = omega (arith, lt) in absurd no
  none_bad (suc n) g zero none lt =
      let is : g ≡ g + 0 = omega arith in
      subst (λ (i : ℕ). bad_head at i (heads_at at image i) ≡ None) is (here g n (bad_head at g (heads_at at image g)) refl none)
  none_bad (suc n) g (suc j) none lt =
      let is : (g + 1) + j ≡ g + suc j = omega arith in
      let first : bad_head at g (heads_at at image g) ≡ None = here g n (bad_head at g (heads_at at image g)) refl none in
      subst (λ (i : ℕ). bad_head at i (heads_at at image i) ≡ None) is (none_bad n (g + 1) j (sym (passes_on g n first) ∙ none) (omega (arith, lt)))

  no_head : heads_refusal at image ≡ None → bad_head_from at image 0 at.agcount ≡ None
  no_head none = of_map (bad_head_from at image 0 at.agcount) none
    where
      of_map : (bad : Option (ℕ × (Head × HeadFault))) → option_map head_entry bad ≡ None → bad ≡ None
      of_map None none = refl
      of_map (Some bad) none = absurd (some_none none)

  pub not_refused : (g : ℕ) (head : Head) (fault : HeadFault) → heads_refusal at image ≡ None → g < at.agcount → IsRefusal at g (heads_at at image g) (stops.Refused head fault) → ⊥
  not_refused g head fault none lt is =
      let from : 0 + g ≡ g = omega arith in
      let pass : bad_head at g (heads_at at image g) ≡ None = subst (λ (i : ℕ). bad_head at i (heads_at at image i) ≡ None) from (none_bad at.agcount 0 g (no_head none) lt) in
      some_none (sym (is_bad at g (heads_at at image g) head fault is) ∙ pass)

-- ---- a device that isn't opened

late_decides : (content : Option Contents) (geo : Geometry) (why : OpenRefused) → HeadsPass content geo → ((c : Contents) → content ≡ Some c → IsFirstRefused (layout geo) (c Image) why) → IfSome content (λ m. IsDecided None (late_entry why))
late_decides None geo why pass first = tt
late_decides (Some m) geo (opens.Group g head fault) pass first =
    let refused = first m refl in
    absurd (not_refused (layout geo) (m Image) g head fault (pass m refl) refused.0 refused.2)
late_decides (Some m) geo opens.Failed pass first = tt
late_decides (Some m) geo opens.Memory pass first = tt

pub not_opened : (old new : Option Contents) (geo : Geometry) (why : OpenRefused) (e : NoEntry) → e ≡ late_entry why → new ≡ old → HeadsPass old geo → ((c : Contents) → old ≡ Some c → IsFirstRefused (layout geo) (c Image) why) → RefusesLate old new (Refused e)
not_opened old new geo why e is same pass first = record {
  by = subst (λ (x : NoEntry). IfSome old (λ m. IsDecided None x)) (sym is) (late_decides old geo why pass first);
  stays = same;
}

-- what was begun
pub begun_late : (old new : Option Contents) (repair : Repair) → IsEnded repair → RefusesLate old new repair
begun_late None new (Ended repaired) is = record { by = tt; stays = tt }
begun_late (Some m) new (Ended repaired) is = record { by = refl; stays = tt }
begun_late old new (Refused why) is = absurd is

-- what failed before it was opened
pub failed_late : (old new : Option Contents) → new ≡ old → RefusesLate old new (Refused entries.Failed)
failed_late None new same = record { by = tt; stays = same }
failed_late (Some m) new same = record { by = tt; stays = same }

-- ---- behind the door

leaves_late : (old new : Option Contents) (why : NoEntry) → new ≡ map_told after_recovery old → IfSome (map_told after_recovery old) (λ m. IsDecided None why) → Leaves old new why
leaves_late None new entries.Short same by = same
leaves_late None new entries.Count same by = same
leaves_late None new entries.Size same by = same
leaves_late None new entries.Place same by = same
leaves_late (Some m) new entries.Short same by = absurd (none_some by)
leaves_late (Some m) new entries.Count same by = absurd (none_some by)
leaves_late (Some m) new entries.Size same by = absurd (none_some by)
leaves_late (Some m) new entries.Place same by = absurd (none_some by)
leaves_late old new (entries.Image fault) same by = same
leaves_late old new (entries.Head g head fault) same by = same
leaves_late old new entries.Failed same by = tt
leaves_late old new entries.Memory same by = same

refuses_none : (decided : Option NoEntry) (repair : Repair) → decided ≡ None → RefusesAs None repair → RefusesAs decided repair
refuses_none decided repair none by = subst (λ (x : Option NoEntry). RefusesAs x repair) (sym none) by

-- of a repair that has passed the door
pub late_refuses : (old new back : Option Contents) (decided : Contents → Option NoEntry) (repair : Repair) → new ≡ map_told after_recovery old → IfSome old (λ m. decided m ≡ None) → RefusesLate new back repair
    → IfSome old (λ m. RefusesAs (decided m) repair)
late_refuses None new back decided repair is none late = tt
late_refuses (Some m) new back decided repair is none late = refuses_none (decided m) repair none (subst (λ (t : Option Contents). IfSome t (λ n. RefusesAs None repair)) is late.by)

pub late_leaves : (old new back : Option Contents) (repair : Repair) → new ≡ map_told after_recovery old → RefusesLate new back repair → LeavesRefused old back repair
late_leaves old new back (Refused why) is late = leaves_late old back why (late.stays ∙ is) (subst (λ (t : Option Contents). IfSome t (λ m. IsDecided None why)) is late.by)
late_leaves old new back (Ended repaired) is late = tt
