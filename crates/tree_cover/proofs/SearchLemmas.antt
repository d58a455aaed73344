-- What a search meets, block by block.
use Rattle.std.proofs.Common.{◌≡◌, ℕ, zero, suc, ◌-◌, ◌<◌, Bool, false, List, Option, Some, None, Result, Ok, Err, refl, sym, ◌∙◌, arith}
use Rattle.std.specs.Prelude.{IfSome}
use Rattle.run_sets.specs.declared.run.Run.{Run}
use Rattle.sblock.specs.Area.{area_of}
use Rattle.sblock.specs.Blocks.{numrecs, records_of}
use Rattle.sblock.specs.Form.{Form}
use Rattle.sblock.specs.Lists.{items_from}
use Rattle.sblock.specs.declared.block.BlockFault.{BlockFault}
use Rattle.tree_defs.specs.Claims.{lone_fault}
use Rattle.tree_defs.specs.Tree.{entry_at, entries_from}
use Rattle.tree_defs.specs.declared.site.Site.{Site}
use Rattle.tree_blocks.specs.Meets.{Refuses, RefusesBlock}
use Rattle.tree_blocks.specs.declared.tree.WalkFault.{WalkFault}
use Rattle.tree_blocks.specs.declared.tree.WalkFault.TheVariants.{Bad, Failed, Memory}
use Rattle.tree_cover.specs.Covers.{first_met, IsSought}
use Rattle.tree_cover.specs.Covering.{Search, found_or, search_or, choice_or, spare_of, first_in, choice_in, spare_in, resumed, cover_in}
use Rattle.tree_defs.proofs.LoneFacts.{child_inside, leaf_inside, leaf_supported}
use Rattle.tree_cover.specs.Found.{MeetsSearch, IsChild, IsSpare}
use Rattle.tree_cover.specs.declared.entry.Choice.{Choice}
use Rattle.tree_cover.specs.declared.search.Spare.{Spare}
use Rattle.tree_cover.proofs.MeetLemmas.{sought}

none_there : {R : Type 0} (search other : Search R) (below : ℕ → Search R) (found : Option ℕ) → search ≡ search_or other below found → None ≡ found → search ≡ other
none_there search other below found h e = h ∙ rw (sym e) refl

one_there : {R : Type 0} (search other : Search R) (below : ℕ → Search R) (found : Option ℕ) (p : ℕ) → search ≡ search_or other below found → Some p ≡ found → search ≡ below p
one_there search other below found p h e = h ∙ rw (sym e) refl

rec_found : {R : Type 0} (search other : Search R) (found : Option R) (r : R) → search ≡ found_or other found → Some r ≡ found → search ≡ Ok (Some r)
rec_found search other found r h e = h ∙ rw (sym e) refl

rec_missed : {R : Type 0} (search other : Search R) (found : Option R) → search ≡ found_or other found → None ≡ found → search ≡ other
rec_missed search other found h e = h ∙ rw (sym e) refl

none_chosen : {R : Type 0} (search other : Search R) (below : Choice → Search R) (found : Option Choice) → search ≡ choice_or other below found → None ≡ found → search ≡ other
none_chosen search other below found h e = h ∙ rw (sym e) refl

one_chosen : {R : Type 0} (search other : Search R) (below : Choice → Search R) (found : Option Choice) (c : Choice) → search ≡ choice_or other below found → Some c ≡ found → search ≡ below c
one_chosen search other below found c h e = h ∙ rw (sym e) refl

-- what an equal search meets, this one does
pub meets_same : {R : Type 0} (search other : Search R) (result : Result (Option R) WalkFault) → search ≡ other → MeetsSearch other result → MeetsSearch search result
meets_same search other result e h = rw e h

module _ {R K : Type 0} (form : Form R K) (site : Site) (m : ℕ → List ℕ) (run : Run) (after : Option K) where
  spare_fails : (level p : ℕ) (fault : BlockFault) → lone_fault form site level false p (m p) ≡ Some fault → spare_in form site m run after level p ≡ Err (p, fault)
  unfolding spare_in
  spare_fails zero p fault h = rw h refl
  spare_fails (suc level) p fault h = rw h refl

  pub spare_refused : (level p : ℕ) (fault : WalkFault) → RefusesBlock p (lone_fault form site level false p (m p)) fault → Refuses (spare_in form site m run after level p) fault
  spare_refused level p (Bad q f) h = spare_fails level p f h.1 ∙ rw (h.0) refl
  spare_refused level p Failed h = h
  spare_refused level p Memory h = h

  spare_leaf : (level p n : ℕ) (bytes : List ℕ) → level ≡ 0 → bytes ≡ m p → lone_fault form site level false p bytes ≡ None → n ≡ numrecs bytes → spare_in form site m run after level p ≡ Ok (first_met form run after (items_from (form.record_at (area_of bytes)) n 0))
  unfolding spare_in records_of
  spare_leaf zero p n bytes z e h c = rw (c, e) (rw (rw e at h) refl)
  spare_leaf (suc level) p n bytes z e h c = absurd (omega arith)

  spare_node : (level p n : ℕ) (bytes : List ℕ) → 0 < level → bytes ≡ m p → lone_fault form site level false p bytes ≡ None → n ≡ numrecs bytes → spare_in form site m run after level p ≡ search_or (Ok None) (spare_in form site m run after (level - 1)) (first_in form run after (items_from (entry_at form (area_of bytes)) n 0))
  unfolding spare_in entries_from
  spare_node zero p n bytes pos e h c = absurd (omega arith)
  spare_node (suc level) p n bytes pos e h c = let s : suc level - 1 ≡ level = omega arith in rw (c, e, s) (rw (rw e at h) refl)

  cover_fails : (level : ℕ) (root : Bool) (p : ℕ) (spare : Option Spare) (fault : BlockFault) → lone_fault form site level root p (m p) ≡ Some fault → cover_in form site m run after level root p spare ≡ Err (p, fault)
  unfolding cover_in
  cover_fails zero root p spare fault h = rw h refl
  cover_fails (suc level) root p spare fault h = rw h refl

  pub cover_refused : (level : ℕ) (root : Bool) (p : ℕ) (spare : Option Spare) (fault : WalkFault) → RefusesBlock p (lone_fault form site level root p (m p)) fault → Refuses (cover_in form site m run after level root p spare) fault
  cover_refused level root p spare (Bad q f) h = cover_fails level root p spare f h.1 ∙ rw (h.0) refl
  cover_refused level root p spare Failed h = h
  cover_refused level root p spare Memory h = h

  cover_leaf : (level : ℕ) (root : Bool) (p n : ℕ) (spare : Option Spare) (bytes : List ℕ) → level ≡ 0 → bytes ≡ m p → lone_fault form site level root p bytes ≡ None → n ≡ numrecs bytes → cover_in form site m run after level root p spare ≡ found_or (resumed form site m run after spare) (first_met form run after (items_from (form.record_at (area_of bytes)) n 0))
  unfolding cover_in records_of
  cover_leaf zero root p n spare bytes z e h c = rw (c, e) (rw (rw e at h) refl)
  cover_leaf (suc level) root p n spare bytes z e h c = absurd (omega arith)

  cover_node : (level : ℕ) (root : Bool) (p n : ℕ) (spare : Option Spare) (bytes : List ℕ) → 0 < level → bytes ≡ m p → lone_fault form site level root p bytes ≡ None → n ≡ numrecs bytes → cover_in form site m run after level root p spare ≡ choice_or (resumed form site m run after spare) (λ c. cover_in form site m run after (level - 1) false c.first (spare_of (level - 1) spare c.next)) (choice_in form run after (items_from (entry_at form (area_of bytes)) n 0))
  unfolding cover_in entries_from
  cover_node zero root p n spare bytes pos e h c = absurd (omega arith)
  cover_node (suc level) root p n spare bytes pos e h c = let s : suc level - 1 ≡ level = omega arith in rw (c, e, s) (rw (rw e at h) refl)

  -- The same where the area behind the header was read, and what was found there.
  module _ (level p n : ℕ) (bytes area : List ℕ) (is : bytes ≡ m p) (count : n ≡ numrecs bytes) (shows : area ≡ area_of bytes) where
    pub spare_met : level ≡ 0 → lone_fault form site level false p bytes ≡ None → (found : Option R) → found ≡ first_met form run after (items_from (form.record_at area) n 0) → spare_in form site m run after level p ≡ Ok found
    spare_met z pass found e = rw (e, shows) (spare_leaf level p n bytes z is pass count)

    pub spare_none : 0 < level → lone_fault form site level false p bytes ≡ None → None ≡ first_in form run after (items_from (entry_at form area) (n - 0) 0) → spare_in form site m run after level p ≡ Ok None
    spare_none pos pass e = let all : n - 0 ≡ n = omega arith in none_there _ _ _ _ (spare_node level p n bytes pos is pass count) (rw (shows, all) at e)

    pub spare_one : 0 < level → lone_fault form site level false p bytes ≡ None → (q : ℕ) → Some q ≡ first_in form run after (items_from (entry_at form area) (n - 0) 0) → (result : Result (Option R) WalkFault) → MeetsSearch (spare_in form site m run after (level - 1) q) result → MeetsSearch (spare_in form site m run after level p) result
    spare_one pos pass q e result h = let all : n - 0 ≡ n = omega arith in meets_same _ _ result (one_there _ _ _ _ q (spare_node level p n bytes pos is pass count) (rw (shows, all) at e)) h

    module _ (root : Bool) (spare : Option Spare) (pass : lone_fault form site level root p bytes ≡ None) where
      pub cover_met : level ≡ 0 → (r : R) → Some r ≡ first_met form run after (items_from (form.record_at area) n 0) → cover_in form site m run after level root p spare ≡ Ok (Some r)
      cover_met z r e = rec_found _ _ _ r (cover_leaf level root p n spare bytes z is pass count) (rw shows at e)

      pub cover_missed : level ≡ 0 → None ≡ first_met form run after (items_from (form.record_at area) n 0) → (result : Result (Option R) WalkFault) → MeetsSearch (resumed form site m run after spare) result → MeetsSearch (cover_in form site m run after level root p spare) result
      cover_missed z e result h = meets_same _ _ result (rec_missed _ _ _ (cover_leaf level root p n spare bytes z is pass count) (rw shows at e)) h

      pub cover_none : 0 < level → None ≡ choice_in form run after (items_from (entry_at form area) n 0) → (result : Result (Option R) WalkFault) → MeetsSearch (resumed form site m run after spare) result → MeetsSearch (cover_in form site m run after level root p spare) result
      cover_none pos e result h = meets_same _ _ result (none_chosen _ _ _ _ (cover_node level root p n spare bytes pos is pass count) (rw shows at e)) h

      pub cover_one : 0 < level → (c : Choice) → Some c ≡ choice_in form run after (items_from (entry_at form area) n 0) → (behind : Option Spare) → behind ≡ spare_of (level - 1) spare c.next → (result : Result (Option R) WalkFault) → MeetsSearch (cover_in form site m run after (level - 1) false c.first behind) result → MeetsSearch (cover_in form site m run after level root p spare) result
      cover_one pos c e behind b result h = meets_same _ _ result (one_chosen _ _ _ _ c (cover_node level root p n spare bytes pos is pass count) (rw shows at e)) (rw b at h)

-- a child of a node that passes lies in the group
pub below_node : {R K : Type 0} (form : Form R K) (site : Site) (level : ℕ) (root : Bool) (p : ℕ) (bytes : List ℕ) → lone_fault form site level root p bytes ≡ None → 0 < level → (n : ℕ) (area : List ℕ) (child : ℕ) → n ≡ numrecs bytes → area ≡ area_of bytes → IsChild form.kind area n child → child < site.bounds.length
below_node form site level root p bytes pass pos n area child count shows (k, lt, is) =
    rw (is, shows) (child_inside form site level root p bytes pass pos k (omega (arith, lt, count)))

pub next_below : {R K : Type 0} (form : Form R K) (site : Site) (level : ℕ) (root : Bool) (p : ℕ) (bytes : List ℕ) → lone_fault form site level root p bytes ≡ None → 0 < level → (n : ℕ) (area : List ℕ) (next : Option ℕ) → n ≡ numrecs bytes → area ≡ area_of bytes → IfSome next (IsChild form.kind area n) → IfSome next (λ q. q < site.bounds.length)
next_below form site level root p bytes pass pos n area None count shows h = tt
next_below form site level root p bytes pass pos n area (Some q) count shows h = below_node form site level root p bytes pass pos n area q count shows h

-- a spare of the child's level, or the old one
pub spare_below : (len level : ℕ) (spare : Option Spare) (next : Option ℕ) → 0 < level → IsSpare len level spare → IfSome next (λ q. q < len) → IsSpare len (level - 1) (spare_of (level - 1) spare next)
spare_below len level spare (Some q) pos old new = (new, omega arith)
spare_below len level None None pos old new = tt
spare_below len level (Some s) None pos old new = (old.0, omega (arith, old.1))

-- the record that is found in a leaf that passes
pub leaf_sought : {R K : Type 0} (form : Form R K) (site : Site) (run : Run) (after : Option K) (level : ℕ) (root : Bool) (p : ℕ) (bytes : List ℕ) → lone_fault form site level root p bytes ≡ None → level ≡ 0 → (n : ℕ) (area : List ℕ) (found : Option R) → n ≡ numrecs bytes → area ≡ area_of bytes → found ≡ first_met form run after (items_from (form.record_at area) n 0) → IfSome found (IsSought form site.bounds run after)
unfolding records_of
leaf_sought form site run after level root p bytes pass z n area found count shows e =
    rw (e, shows, count) (sought form site.bounds run after (records_of form bytes) (leaf_inside form site level root p bytes pass z) (leaf_supported form site level root p bytes pass z))
