-- A tree by its rows.
use Rattle.std.proofs.Common.{◌≡◌, ℕ, zero, suc, ◌+◌, ◌-◌, ◌<◌, ◌≤◌, Bool, true, false, List, [], ◌∷◌, ◌++◌, None, refl, sym, ap, subst, ◌∙◌, arith}
use Rattle.std.specs.Prelude.{◌==◌, ◌&&◌, nat_le, if◌then◌else◌}
use Rattle.std.proofs.lemmas.Bool.Decides.{nat_tests}
use Rattle.std.proofs.lemmas.Bool.{and_parts, leb-true}
use Rattle.byte_fields.proofs.TestLemmas.{all_pass, none_fails}
use Rattle.sblock.specs.Blocks.{numrecs, least_of, most_of, count_fits, block_tests, block_fault, IsRising}
use Rattle.sblock.specs.Form.{Form}
use Rattle.sblock.specs.Headers.{no_block, left_of}
use Rattle.sblock.specs.Spans.{span_of}
use Rattle.sblock.specs.declared.kind.Kind.{Kind}
use Rattle.sblock.specs.declared.kind.Kind.TheVariants.{Bno, Cnt, Rmap, Refc, Ino, Fino}
use Rattle.tree_defs.specs.Levels.{over, AllEntries, here, IsChain, last_right, IsRight, IsSound, IsTree, entries, recs_of, blocks_of, row}
use Rattle.tree_defs.specs.Lists.{spread}
use Rattle.tree_defs.specs.Tree.{Entry, want_of, agrees}
use Rattle.tree_defs.specs.declared.site.Site.{Site}
use Rattle.place_laws.specs.Forest.{AllBlocks, children, IsLinked, entries_over, below, recs_over, blocks_over, IsKeyed, IsForest, AreFull, AreFullBelow, Stands, TreesStand, StandingAreTrees}
use Rattle.place_laws.proofs.ForestLemmas.{all_left, all_right, all_join}

append_twice : {A : Type 0} (xs ys zs : List A) → (xs ++ ys) ++ zs ≡ xs ++ (ys ++ zs)
append_twice [] ys zs = refl
append_twice (x ∷ xs) ys zs = ap (λ (t : List _). x ∷ t) (append_twice xs ys zs)

append_none : {A : Type 0} (xs : List A) → xs ++ [] ≡ xs
append_none [] = refl
append_none (x ∷ xs) = ap (λ (t : List _). x ∷ t) (append_none xs)

spread_join : (f : ℕ → List ℕ) (xs ys : List ℕ) → spread f (xs ++ ys) ≡ spread f xs ++ spread f ys
spread_join f [] ys = refl
spread_join f (x ∷ xs) ys = ap (λ (t : List ℕ). f x ++ t) (spread_join f xs ys) ∙ sym (append_twice (f x) (spread f xs) (spread f ys))

-- a root has no greater least number
least_root : (kind : Kind) (leaf : Bool) → least_of kind leaf true ≤ least_of kind leaf false
least_root Bno true = omega arith
least_root Bno false = omega arith
least_root Cnt true = omega arith
least_root Cnt false = omega arith
least_root Rmap true = omega arith
least_root Rmap false = omega arith
least_root Refc true = omega arith
least_root Refc false = omega arith
least_root Ino true = omega arith
least_root Ino false = omega arith
least_root Fino true = omega arith
least_root Fino false = omega arith

both_le : (a b n c : ℕ) → b ≤ a → (nat_le a n && nat_le n c) ≡ true → (nat_le b n && nat_le n c) ≡ true
both_le a b n c le h = grind (arith, nat_tests)

count_loosens : (kind : Kind) (leaf : Bool) (n : ℕ) → count_fits kind leaf false n ≡ true → count_fits kind leaf true n ≡ true
unfolding count_fits
count_loosens kind leaf n h = both_le (least_of kind leaf false) (least_of kind leaf true) n (most_of kind leaf) (least_root kind leaf) h

module _ {R K : Type 0} (form : Form R K) (m : ℕ → List ℕ) (site : Site) where
  pub loosens : (level p : ℕ) → IsRight form m site level false p → IsRight form m site level true p
  unfolding block_fault
  loosens level p h =
      let all = all_pass (block_tests form (m p) (want_of form.kind site level false (left_of (m p)) p)) h in
      none_fails (block_tests form (m p) (want_of form.kind site level true (left_of (m p)) p)) (all.0, (all.1.0, (count_loosens form.kind (level == 0) (numrecs (m p)) all.1.1.0, all.1.1.1)))

  -- ---- rows

  over_spread : (f : ℕ → List ℕ) (es : List (Entry K)) → over f es ≡ spread f (children es)
  over_spread f [] = refl
  over_spread f (e ∷ es) = ap (λ (t : List ℕ). f e.child ++ t) (over_spread f es)

  children_both : (xs ys : List (Entry K)) → children (xs ++ ys) ≡ children xs ++ children ys
  children_both [] ys = refl
  children_both (x ∷ xs) ys = ap (λ (cs : List ℕ). x.child ∷ cs) (children_both xs ys)

  over_none : (f : ℕ → List ℕ) → ((q : ℕ) → f q ≡ []) → (es : List (Entry K)) → over f es ≡ []
  over_none f none [] = refl
  over_none f none (e ∷ es) = rw (none e.child) (over_none f none es)

  no_row : (level j : ℕ) → level < j → (p : ℕ) → row form m level j p ≡ []
  unfolding row
  no_row zero j lt p = let e : (j == 0) ≡ false = grind (arith, nat_tests) in rw e refl
  no_row (suc level) j lt p =
      let e : (j == suc level) ≡ false = grind (arith, nat_tests) in
      rw e (over_none (row form m level j) (no_row level j (omega (arith, lt))) (entries form m p))

  own_row : (level p : ℕ) → row form m level level p ≡ p ∷ []
  unfolding row
  own_row zero p = refl
  own_row (suc level) p =
      let e : (suc level == suc level) ≡ true = grind (arith, nat_tests) in
      rw e (ap (λ (t : List ℕ). p ∷ t) (over_none (row form m level (suc level)) (no_row level (suc level) (omega arith)) (entries form m p)))

  pub own_rows : (level : ℕ) (ps : List ℕ) → spread (row form m level level) ps ≡ ps
  own_rows level [] = refl
  own_rows level (p ∷ ps) = rw (own_row level p) (ap (λ (t : List ℕ). p ∷ t) (own_rows level ps))

  lower_row : (level j p : ℕ) → j ≤ level → row form m (suc level) j p ≡ spread (row form m level j) (children (entries form m p))
  unfolding row
  lower_row level j p le =
      let e : (j == suc level) ≡ false = grind (arith, nat_tests) in
      rw e (over_spread (row form m level j) (entries form m p))

  pub lower_rows : (level j : ℕ) → j ≤ level → (ps : List ℕ) → spread (row form m (suc level) j) ps ≡ spread (row form m level j) (below form m ps)
  lower_rows level j le [] = refl
  lower_rows level j le (p ∷ ps) =
      ap (λ (t : List ℕ). t ++ spread (row form m (suc level) j) ps) (lower_row level j p le)
      ∙ (ap (λ (t : List ℕ). spread (row form m level j) (children (entries form m p)) ++ t) (lower_rows level j le ps)
      ∙ (sym (spread_join (row form m level j) (children (entries form m p)) (below form m ps))
      ∙ ap (spread (row form m level j)) (sym (children_both (entries form m p) (entries_over form m ps)))))

  -- ---- from a tree to its rows

  abbrev Child : ℕ → Entry K → Type 0
  Child level e = IsSound form m site level false e.child × (agrees form e (span_of form (recs_of form m level e.child)) ≡ true)

  each_child : (level : ℕ) (xs ys : List (Entry K)) → AllEntries (Child level) xs → AllBlocks (IsSound form m site level false) (children ys) → AllBlocks (IsSound form m site level false) (children (xs ++ ys))
  each_child level [] ys h rest = rest
  each_child level (x ∷ xs) ys h rest = (h.0.0, each_child level xs ys h.1 rest)

  each_keyed : (level : ℕ) (xs ys : List (Entry K)) → AllEntries (Child level) xs → AllEntries (IsKeyed form m level) ys → AllEntries (IsKeyed form m level) (xs ++ ys)
  each_keyed level [] ys h rest = rest
  each_keyed level (x ∷ xs) ys h rest = (h.0.1, each_keyed level xs ys h.1 rest)

  module _ (root : Bool) (loose : (level p : ℕ) → IsRight form m site level root p → IsRight form m site level true p) where
    rights : (ps : List ℕ) → AllBlocks (IsSound form m site 0 root) ps → AllBlocks (IsRight form m site 0 true) ps
    unfolding IsSound
    rights [] h = tt
    rights (p ∷ ps) h = (loose 0 p h.0, rights ps h.1)

    node_rights : (level : ℕ) (ps : List ℕ) → AllBlocks (IsSound form m site (suc level) root) ps → AllBlocks (IsRight form m site (suc level) true) ps
    unfolding IsSound
    node_rights level [] h = tt
    node_rights level (p ∷ ps) h = (loose (suc level) p h.0.0, node_rights level ps h.1)

    lower_sound : (level : ℕ) (ps : List ℕ) → AllBlocks (IsSound form m site (suc level) root) ps → AllBlocks (IsSound form m site level false) (below form m ps)
    unfolding IsSound
    lower_sound level [] h = tt
    lower_sound level (p ∷ ps) h = each_child level (entries form m p) (entries_over form m ps) h.0.1 (lower_sound level ps h.1)

    all_keyed : (level : ℕ) (ps : List ℕ) → AllBlocks (IsSound form m site (suc level) root) ps → AllEntries (IsKeyed form m level) (entries_over form m ps)
    unfolding IsSound
    all_keyed level [] h = tt
    all_keyed level (p ∷ ps) h = each_keyed level (entries form m p) (entries_over form m ps) h.0.1 (all_keyed level ps h.1)

  abbrev Rows : ℕ → List ℕ → Type 0
  Rows level ps = (j : ℕ) → j ≤ level → IsLinked m (spread (row form m level j) ps)

  own_linked : (level : ℕ) (ps : List ℕ) → Rows level ps → IsLinked m ps
  own_linked level ps rows = subst (IsLinked m) (own_rows level ps) (rows level (omega arith))

  lower_linked : (level : ℕ) (ps : List ℕ) → Rows (suc level) ps → Rows level (below form m ps)
  lower_linked level ps rows j le = subst (IsLinked m) (lower_rows level j le ps) (rows j (omega (arith, le)))

  forest_of : (level : ℕ) (ps : List ℕ) → AllBlocks (IsSound form m site level false) ps → Rows level ps → IsForest form m site level ps
  unfolding IsForest
  forest_of zero ps sound rows = (rights false loosens ps sound, own_linked 0 ps rows)
  forest_of (suc level) ps sound rows =
      (node_rights false loosens level ps sound, own_linked (suc level) ps rows, all_keyed false loosens level ps sound, forest_of level (below form m ps) (lower_sound false loosens level ps sound) (lower_linked level ps rows))

  full_rights : (ps : List ℕ) → AllBlocks (IsSound form m site 0 false) ps → AllBlocks (IsRight form m site 0 false) ps
  unfolding IsSound
  full_rights [] h = tt
  full_rights (p ∷ ps) h = (h.0, full_rights ps h.1)

  full_node_rights : (level : ℕ) (ps : List ℕ) → AllBlocks (IsSound form m site (suc level) false) ps → AllBlocks (IsRight form m site (suc level) false) ps
  unfolding IsSound
  full_node_rights level [] h = tt
  full_node_rights level (p ∷ ps) h = (h.0.0, full_node_rights level ps h.1)

  full_of : (level : ℕ) (ps : List ℕ) → AllBlocks (IsSound form m site level false) ps → AreFull form m site level ps
  unfolding AreFull
  full_of zero ps sound = full_rights ps sound
  full_of (suc level) ps sound = (full_node_rights level ps sound, full_of level (below form m ps) (lower_sound false loosens level ps sound))

  top_forest : (level root : ℕ) → IsSound form m site level true root → Rows level (root ∷ []) → IsForest form m site level (root ∷ [])
  unfolding IsForest
  top_forest zero root sound rows = (rights true (λ l p h. h) (root ∷ []) (sound, tt), own_linked 0 (root ∷ []) rows)
  top_forest (suc level) root sound rows = (
    node_rights true (λ l p h. h) level (root ∷ []) (sound, tt),
    own_linked (suc level) (root ∷ []) rows,
    all_keyed true (λ l p h. h) level (root ∷ []) (sound, tt),
    forest_of level (below form m (root ∷ [])) (lower_sound true (λ l p h. h) level (root ∷ []) (sound, tt)) (lower_linked level (root ∷ []) rows),
  )

  top_full : (level root : ℕ) → IsSound form m site level true root → AreFullBelow form m site level (root ∷ [])
  top_full zero root sound = tt
  top_full (suc level) root sound = full_of level (below form m (root ∷ [])) (lower_sound true (λ l p h. h) level (root ∷ []) (sound, tt))

  -- ---- and back

  node_sound : (level : ℕ) (es rest : List (Entry K)) → AllBlocks (IsSound form m site level false) (children (es ++ rest)) → AllEntries (IsKeyed form m level) (es ++ rest)
      → AllEntries (Child level) es × AllBlocks (IsSound form m site level false) (children rest) × AllEntries (IsKeyed form m level) rest
  node_sound level [] rest sound keyed = (tt, sound, keyed)
  node_sound level (e ∷ es) rest sound keyed =
      let more = node_sound level es rest sound.1 keyed.1 in
      (((sound.0, keyed.0), more.0), more.1, more.2)

  nodes_sound : (root : Bool) (level : ℕ) (ps : List ℕ) → AllBlocks (IsRight form m site (suc level) root) ps → AllBlocks (IsSound form m site level false) (below form m ps) → AllEntries (IsKeyed form m level) (entries_over form m ps)
      → AllBlocks (IsSound form m site (suc level) root) ps
  unfolding IsSound
  nodes_sound root level [] right sound keyed = tt
  nodes_sound root level (p ∷ ps) right sound keyed =
      let parts = node_sound level (entries form m p) (entries_over form m ps) sound keyed in
      ((right.0, parts.0), nodes_sound root level ps right.1 parts.1 parts.2)

  leaves_sound : (root : Bool) (ps : List ℕ) → AllBlocks (IsRight form m site 0 root) ps → AllBlocks (IsSound form m site 0 root) ps
  unfolding IsSound
  leaves_sound root [] right = tt
  leaves_sound root (p ∷ ps) right = (right.0, leaves_sound root ps right.1)

  sound_of : (level : ℕ) (ps : List ℕ) → IsForest form m site level ps → AreFull form m site level ps → AllBlocks (IsSound form m site level false) ps
  unfolding IsForest AreFull
  sound_of zero ps forest full = leaves_sound false ps full
  sound_of (suc level) ps forest full = nodes_sound false level ps full.0 (sound_of level (below form m ps) forest.3 full.1) forest.2

  top_sound : (level root : ℕ) → IsForest form m site level (root ∷ []) → AreFullBelow form m site level (root ∷ []) → IsSound form m site level true root
  unfolding IsForest
  top_sound zero root forest full = (leaves_sound true (root ∷ []) forest.0).0
  top_sound (suc level) root forest full = (nodes_sound true level (root ∷ []) forest.0 (sound_of level (below form m (root ∷ [])) forest.3 full) forest.2).0

  rows_of : (level : ℕ) (ps : List ℕ) → IsForest form m site level ps → (k j : ℕ) → k + j ≡ level → IsLinked m (spread (row form m level j) ps)
  unfolding IsForest
  rows_of zero ps forest k j e = let z : 0 ≡ j = omega (arith, e) in subst (λ (i : ℕ). IsLinked m (spread (row form m 0 i) ps)) z (subst (IsLinked m) (sym (own_rows 0 ps)) forest.1)
  rows_of (suc level) ps forest zero j e = let z : suc level ≡ j = omega (arith, e) in subst (λ (i : ℕ). IsLinked m (spread (row form m (suc level) i) ps)) z (subst (IsLinked m) (sym (own_rows (suc level) ps)) forest.1)
  rows_of (suc level) ps forest (suc k) j e =
      subst (IsLinked m) (sym (lower_rows level j (omega (arith, e)) ps)) (rows_of level (below form m ps) forest.3 k j (omega (arith, e)))

  one_row : (level j root : ℕ) → spread (row form m level j) (root ∷ []) ≡ row form m level j root
  one_row level j root = append_none (row form m level j root)

  link_of : (c : Bool) (level root j : ℕ) → nat_le j level ≡ c → IsForest form m site level (root ∷ []) → IsLinked m (row form m level j root)
  link_of true level root j e forest =
      let le : j ≤ level = leb-true j level e in
      subst (IsLinked m) (one_row level j root) (rows_of level (root ∷ []) forest (level - j) j (omega (arith, le)))
  link_of false level root j e forest =
      let gt : level < j = grind (arith, nat_tests) in
      rw (no_row level j gt root) (record { chain = tt; end = refl })

pub standing_are_trees_lem : {R K : Type 0} (form : Form R K) → StandingAreTrees form
standing_are_trees_lem form site m root level stands =
    let e : suc level - 1 ≡ level = omega arith in
    record {
      root_lies = stands.lies;
      has_levels = (omega arith, omega (arith, stands.few));
      sound = subst (λ (k : ℕ). IsSound form m site k true root) (sym e) (top_sound form m site level root stands.forest stands.full);
      links = λ j lt. subst (λ (k : ℕ). IsChain m no_block no_block (row form m k j root)) (sym e) (link_of form m site (nat_le j level) level root j refl stands.forest).chain;
      ends = λ j lt. subst (λ (k : ℕ). last_right m no_block (row form m k j root) ≡ no_block) (sym e) (link_of form m site (nat_le j level) level root j refl stands.forest).end;
      rises = stands.rises;
      recs_are = ap (λ (k : ℕ). recs_of form m k root) (sym e);
      blocks_are = ap (λ (k : ℕ). blocks_of form m k root) (sym e);
    }

pub trees_stand_lem : {R K : Type 0} (form : Form R K) → TreesStand form
trees_stand_lem form site m root level recs blocks tree =
    let e : suc level - 1 ≡ level = omega arith in
    let sound : IsSound form m site level true root = subst (λ (k : ℕ). IsSound form m site k true root) e tree.sound in
    let few : level ≤ 8 = omega (arith, tree.has_levels.1) in
    let recs_are : recs ≡ recs_of form m level root = tree.recs_are ∙ ap (λ (k : ℕ). recs_of form m k root) e in
    let rows : (j : ℕ) → j ≤ level → IsLinked m (spread (row form m level j) (root ∷ [])) =
    λ j le. subst (IsLinked m) (sym (append_none (row form m level j root))) (record {
      chain = subst (λ (k : ℕ). IsChain m no_block no_block (row form m k j root)) e (tree.links j (omega (arith, le, few)));
      end = subst (λ (k : ℕ). last_right m no_block (row form m k j root) ≡ no_block) e (tree.ends j (omega (arith, le)));
    }) in (
      record {
        lies = tree.root_lies;
        few = few;
        forest = top_forest form m site level root sound rows;
        full = top_full form m site level root sound;
        rises = subst (IsRising form) recs_are tree.rises;
      },
      recs_are,
      tree.blocks_are ∙ ap (λ (k : ℕ). blocks_of form m k root) e,
    )
