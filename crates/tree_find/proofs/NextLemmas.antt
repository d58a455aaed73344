-- What reading the next leaf meets, block by block.
use Rattle.std.proofs.Common.{◌≡◌, ℕ, zero, suc, ◌+◌, ◌-◌, ◌*◌, ◌<◌, ◌≤◌, Bool, true, false, List, [], ◌∷◌, Option, Some, None, Result, Ok, Err, Vec, refl, sym, ◌∙◌, ap, arith}
use Rattle.std.specs.Prelude.{◌&&◌, nat_le, nat_lt, if◌then◌else◌, IfOk, IfErr, IfSome, IfNone}
use Rattle.std.proofs.lemmas.Bool.{and_parts, leb-true}
use Rattle.std.proofs.lemmas.Bool.Decides.{nat_tests}
use Rattle.sblock.specs.Area.{area_of, child_of}
use Rattle.sblock.specs.Blocks.{numrecs, records_of}
use Rattle.sblock.specs.Form.{Form}
use Rattle.sblock.specs.declared.block.BlockFault.{BlockFault}
use Rattle.sblock.specs.declared.block.BlockFault.TheVariants.{Range}
use Rattle.sblock.specs.declared.block.Bounds.{Bounds}
use Rattle.tree_defs.specs.Claims.{lone_fault}
use Rattle.tree_defs.specs.Tree.{top_of}
use Rattle.tree_defs.specs.declared.site.Site.{Site}
use Rattle.tree_blocks.specs.Meets.{Refuses, RefusesBlock, IsMemory}
use Rattle.tree_blocks.specs.declared.tree.WalkFault.{WalkFault}
use Rattle.tree_blocks.specs.declared.tree.WalkFault.TheVariants.{Bad, Failed, Memory}
use Rattle.tree_find.specs.Find.{way_of}
use Rattle.tree_find.specs.Meets.{MeetsRecords, MeetsFound}
use Rattle.tree_find.proofs.Facts.{same_some, same_ok}
use Rattle.tree_find.proofs.FindLemmas.{lies_not, does_lie}
use Rattle.tree_find.specs.Next.{some_of, or_then, as_found, or_empty, records_above, start_of, first_below, leaf_behind, next_below, next_in, AreAbove}

pub less : (i n : ℕ) → i < n → nat_lt i n ≡ true
less i n h = grind (arith, nat_tests)

pub not_less : (i n : ℕ) → n ≤ i → nat_lt i n ≡ false
not_less i n h = grind (arith, nat_tests)

-- what holds of the records that are told holds of the answer
pub on_records : {R Z E : Type 0} (P : List R → Type 0) (result : Result (Vec R Z) E) (rs : List R) → IfOk result (λ recs. recs.items ≡ rs) → ((xs : List R) → xs ≡ rs → P xs) → IfOk result (λ recs. P recs.items)
on_records P (Ok v) rs h all = all v.items h
on_records P (Err f) rs h all = tt

same_records : {R : Type 0} (rs xs : List R) → some_of rs ≡ Some xs → rs ≡ xs
same_records [] xs h = cc
same_records (r ∷ rs) xs h = same_some h

-- of a leaf's records, if there are any
pub sound_some : {R K Z : Type 0} (form : Form R K) (bounds : Bounds) (after : Option K) (rs : List R) (result : Result (Option (Vec R Z)) WalkFault) → MeetsFound (Ok (some_of rs)) result → AreAbove form bounds after rs → IfOk result (λ found. IfSome found (λ v. AreAbove form bounds after v.items))
sound_some form bounds after rs (Ok None) met sound = tt
sound_some form bounds after rs (Ok (Some v)) met sound = rw (← (same_records rs v.items (same_ok met))) sound
sound_some form bounds after rs (Err f) met sound = tt

module _ {R K : Type 0} (form : Form R K) (site : Site) (m : ℕ → List ℕ) (after : Option K) where
  first_fails : (level p : ℕ) (fault : BlockFault) → lone_fault form site level false p (m p) ≡ Some fault → first_below form site m after level p ≡ Err (p, fault)
  unfolding first_below
  first_fails zero p fault h = rw h refl
  first_fails (suc level) p fault h = rw h refl

  pub first_refused : (level p : ℕ) (fault : WalkFault) → RefusesBlock p (lone_fault form site level false p (m p)) fault → Refuses (first_below form site m after level p) fault
  first_refused level p (Bad q f) h = first_fails level p f h.1 ∙ rw (h.0) refl
  first_refused level p Failed h = h
  first_refused level p Memory h = h

  first_leaf : (level p : ℕ) (bytes : List ℕ) → level ≡ 0 → bytes ≡ m p → lone_fault form site level false p bytes ≡ None → first_below form site m after level p ≡ Ok (records_above form after (records_of form bytes))
  unfolding first_below
  first_leaf zero p bytes z e h = rw e (rw (rw e at h) refl)
  first_leaf (suc level) p bytes z e h = absurd (omega arith)

  pub first_at_leaf : {Z : Type 0} (level p : ℕ) (bytes : List ℕ) (result : Result (Vec R Z) WalkFault) → level ≡ 0 → bytes ≡ m p → lone_fault form site level false p bytes ≡ None → IfOk result (λ recs. recs.items ≡ records_above form after (records_of form bytes)) → IfErr result IsMemory → MeetsRecords (first_below form site m after level p) result
  first_at_leaf level p bytes (Ok v) z e h a b = first_leaf level p bytes z e h ∙ rw a refl
  first_at_leaf level p bytes (Err f) z e h a b = rw b tt

  first_node : (level p q : ℕ) (bytes : List ℕ) → 0 < level → bytes ≡ m p → lone_fault form site level false p bytes ≡ None → q ≡ child_of form.kind (area_of bytes) 0 → first_below form site m after level p ≡ first_below form site m after (level - 1) q
  unfolding first_below
  first_node zero p q bytes pos e h c = absurd (omega arith)
  first_node (suc level) p q bytes pos e h c = let s : suc level - 1 ≡ level = omega arith in rw (c, e, s) (rw (rw e at h) refl)

  pub first_by_child : {Z : Type 0} (level p q : ℕ) (bytes : List ℕ) (result : Result (Vec R Z) WalkFault) → 0 < level → bytes ≡ m p → lone_fault form site level false p bytes ≡ None → q ≡ child_of form.kind (area_of bytes) 0 → MeetsRecords (first_below form site m after (level - 1) q) result → MeetsRecords (first_below form site m after level p) result
  first_by_child level p q bytes result pos e h c met = rw (first_node level p q bytes pos e h c) met

  module _ (level i : ℕ) (bytes : List ℕ) where
    pub none_behind : numrecs bytes ≤ i → leaf_behind form site m after level bytes i ≡ Ok None
    unfolding leaf_behind
    none_behind le = rw (not_less i (numrecs bytes) le) refl

    some_behind : (q : ℕ) → i < numrecs bytes → q ≡ child_of form.kind (area_of bytes) i → leaf_behind form site m after level bytes i ≡ as_found (first_below form site m after level q)
    unfolding leaf_behind
    some_behind q lt c = rw (less i (numrecs bytes) lt, c) refl

    pub found_behind : (q : ℕ) (rs : List R) → i < numrecs bytes → q ≡ child_of form.kind (area_of bytes) i → first_below form site m after level q ≡ Ok rs → leaf_behind form site m after level bytes i ≡ Ok (Some rs)
    found_behind q rs lt c h = some_behind q lt c ∙ rw h refl

    pub bad_behind : (q : ℕ) (fault : WalkFault) → i < numrecs bytes → q ≡ child_of form.kind (area_of bytes) i → Refuses (first_below form site m after level q) fault → Refuses (leaf_behind form site m after level bytes i) fault
    bad_behind q (Bad x f) lt c h = some_behind q lt c ∙ rw h refl
    bad_behind q Failed lt c h = h
    bad_behind q Memory lt c h = h

  next_fails : (level : ℕ) (root : Bool) (p : ℕ) (fault : BlockFault) → lone_fault form site level root p (m p) ≡ Some fault → next_below form site m after level root p ≡ Err (p, fault)
  unfolding next_below
  next_fails zero root p fault h = rw h refl
  next_fails (suc level) root p fault h = rw h refl

  pub next_refused : (level : ℕ) (root : Bool) (p : ℕ) (fault : WalkFault) → RefusesBlock p (lone_fault form site level root p (m p)) fault → Refuses (next_below form site m after level root p) fault
  next_refused level root p (Bad q f) h = next_fails level root p f h.1 ∙ rw (h.0) refl
  next_refused level root p Failed h = h
  next_refused level root p Memory h = h

  next_leaf : (level : ℕ) (root : Bool) (p : ℕ) (bytes : List ℕ) → level ≡ 0 → bytes ≡ m p → lone_fault form site level root p bytes ≡ None → next_below form site m after level root p ≡ Ok (some_of (records_above form after (records_of form bytes)))
  unfolding next_below
  next_leaf zero root p bytes z e h = rw e (rw (rw e at h) refl)
  next_leaf (suc level) root p bytes z e h = absurd (omega arith)

  pub next_at_leaf : {Z : Type 0} (level : ℕ) (root : Bool) (p : ℕ) (bytes : List ℕ) (result : Result (Option (Vec R Z)) WalkFault) → level ≡ 0 → bytes ≡ m p → lone_fault form site level root p bytes ≡ None → MeetsFound (Ok (some_of (records_above form after (records_of form bytes)))) result → MeetsFound (next_below form site m after level root p) result
  next_at_leaf level root p bytes result z e h met = rw (next_leaf level root p bytes z e h) met

  next_node : (level : ℕ) (root : Bool) (p start q : ℕ) (bytes : List ℕ) → 0 < level → bytes ≡ m p → lone_fault form site level root p bytes ≡ None → start ≡ start_of form after bytes → q ≡ child_of form.kind (area_of bytes) start → next_below form site m after level root p ≡ or_then (next_below form site m after (level - 1) false q) (leaf_behind form site m after (level - 1) bytes (start + 1))
  unfolding next_below
  next_node zero root p start q bytes pos e h b c = absurd (omega arith)
  next_node (suc level) root p start q bytes pos e h b c = let s : suc level - 1 ≡ level = omega arith in rw (c, b, e, s) (rw (rw e at h) refl)

  module _ (level : ℕ) (root : Bool) (p start q : ℕ) (bytes : List ℕ) (pos : 0 < level) (is : bytes ≡ m p) (pass : lone_fault form site level root p bytes ≡ None) (begins : start ≡ start_of form after bytes) (child : q ≡ child_of form.kind (area_of bytes) start) where
    pub next_found : {Z : Type 0} (found : Option (Vec R Z)) (v : Vec R Z) → MeetsFound (next_below form site m after (level - 1) false q) (Ok found) → found ≡ Some v → next_below form site m after level root p ≡ Ok (Some v.items)
    next_found {Z} (Some u) v met e = next_node level root p start q bytes pos is pass begins child ∙ rw met (ap (λ (w : Vec R Z). Ok (Some w.items)) (same_some e))
    next_found None v met e = cc

    pub next_bad : (fault : WalkFault) → Refuses (next_below form site m after (level - 1) false q) fault → Refuses (next_below form site m after level root p) fault
    next_bad (Bad x f) h = next_node level root p start q bytes pos is pass begins child ∙ rw h refl
    next_bad Failed h = h
    next_bad Memory h = h

    pub next_behind : {Z : Type 0} (found : Option (Vec R Z)) (result : Result (Option (Vec R Z)) WalkFault) → MeetsFound (next_below form site m after (level - 1) false q) (Ok found) → found ≡ None → MeetsFound (leaf_behind form site m after (level - 1) bytes (start + 1)) result → MeetsFound (next_below form site m after level root p) result
    next_behind None result met e h = rw (next_node level root p start q bytes pos is pass begins child, met) h
    next_behind (Some u) result met e h = cc

-- two ways are no longer than two blocks a level
abbrev pub two_ways : ℕ → ℕ
two_ways level = if nat_le level 8 then 2 * level + 1 else 1

are_two : (level : ℕ) → level ≤ 8 → two_ways level ≡ 2 * level + 1
are_two level h = let t : nat_le level 8 ≡ true = grind (arith, nat_tests) in rw t refl

way_most : (levels : ℕ) (b : Bool) → b ≡ (nat_le 1 levels && nat_le levels 9) → two_ways (if b then levels - 1 else 9) ≤ 2 * (if b then levels else 1)
way_most levels true e =
    let parts = and_parts _ _ (sym e) in
    let some : 1 ≤ levels = leb-true 1 levels parts.0 in
    let few : levels ≤ 9 = leb-true levels 9 parts.1 in
    rw (are_two (levels - 1) (omega arith)) (omega arith)
way_most levels false e = omega arith

pub one_way : (level before between after : ℕ) → 0 < level → level ≤ 8 → between ≡ before + 1 → after ≤ between + two_ways (level - 1) → after ≤ before + two_ways level
one_way level before between after pos low e h =
    let k : after ≤ between + (2 * (level - 1) + 1) = rw (are_two (level - 1) (omega arith)) at h in
    rw (are_two level low) (omega (arith, k))

pub other_way : {A : Type 0} (level before between mid after : ℕ) (found : Option A) → 0 < level → level ≤ 8 → between ≡ before + 1 → IfNone found (mid ≤ between + (level - 1) + 1) → found ≡ None → after ≤ mid + (level - 1) + 1 → after ≤ before + two_ways level
other_way level before between mid after None pos low e h n k = rw (are_two level low) (omega (arith, h, k))
other_way level before between mid after (Some x) pos low e h n k = cc

-- two ways from the root
pub both_ways : (levels level before after : ℕ) → level ≡ top_of levels → after ≤ before + two_ways level → after ≤ before + 2 * way_of levels
both_ways levels level before after e h =
    let most = way_most levels (nat_le 1 levels && nat_le levels 9) refl in
    let k : after ≤ before + two_ways (top_of levels) = rw e at h in
    omega (arith, k, most)

-- what was found, as a list
pub sound_list : {R K Z : Type 0} (form : Form R K) (bounds : Bounds) (after : Option K) (found : Option (Vec R Z)) (recs : Vec R Z) → IfSome found (λ v. AreAbove form bounds after v.items) → IfSome found (λ v. recs.items ≡ v.items) → IfNone found (recs.items ≡ []) → AreAbove form bounds after recs.items
sound_list form bounds after None recs sound some none = rw none (record { rising = tt; above = tt; inside = tt; supported = tt })
sound_list form bounds after (Some v) recs sound some none = rw some sound

module _ {R K : Type 0} (form : Form R K) (site : Site) (m : ℕ → List ℕ) (after : Option K) (root levels : ℕ) where
  pub next_outside : (1 ≤ root → root < site.bounds.length → ⊥) → next_in form site m root levels after ≡ Err (root, Range)
  unfolding next_in
  next_outside h = rw (lies_not root site.bounds.length h) refl

  in_group : (level : ℕ) → 1 ≤ root → root < site.bounds.length → level ≡ top_of levels → next_in form site m root levels after ≡ or_empty (next_below form site m after level true root)
  unfolding next_in
  in_group level some below e = rw (does_lie root site.bounds.length some below, e) refl

  pub next_given : {Z : Type 0} (level : ℕ) (found : Option (Vec R Z)) (recs : Vec R Z) → 1 ≤ root → root < site.bounds.length → level ≡ top_of levels → MeetsFound (next_below form site m after level true root) (Ok found) → IfSome found (λ v. recs.items ≡ v.items) → IfNone found (recs.items ≡ []) → next_in form site m root levels after ≡ Ok recs.items
  next_given level None recs some below e met has none = in_group level some below e ∙ rw (met, none) refl
  next_given level (Some v) recs some below e met has none = in_group level some below e ∙ rw (met, has) refl

  pub next_given_bad : (level : ℕ) (fault : WalkFault) → 1 ≤ root → root < site.bounds.length → level ≡ top_of levels → Refuses (next_below form site m after level true root) fault → Refuses (next_in form site m root levels after) fault
  next_given_bad level (Bad x f) some below e h = in_group level some below e ∙ rw h refl
  next_given_bad level Failed some below e h = h
  next_given_bad level Memory some below e h = h
