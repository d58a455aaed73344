-- Where all inode btrees are readable, the next inode is the least allocated one above the cursor.
use Rattle.std.proofs.Common.{◌≡◌, ℕ, zero, suc, ◌+◌, ◌-◌, ◌*◌, ◌^◌, ◌<◌, ◌≤◌, Bool, true, false, List, [], ◌∷◌, ◌++◌, Contains, Option, Some, None, Result, Ok, Err, refl, sym, ap, subst, ◌∙◌, inl, inr, arith}
use Rattle.std.specs.Prelude.{nat_lt, if◌then◌else◌, MatchOption, ◌==◌}
use Rattle.std.proofs.Math.Nat.{mul-le-mul_left}
use Rattle.std.proofs.lemmas.Bool.Decides.{nat_tests}
use Rattle.geom.specs.Layout.{Layout, group_len_of}
use Rattle.geom.specs.Numbers.{Fitting}
use Rattle.ino_recs.specs.Chunks.{ino_form}
use Rattle.ino_recs.specs.ChunkLaws.{lawful_ino}
use Rattle.ino_recs.specs.declared.chunk.InoRec.{InoRec}
use Rattle.sblock.specs.Blocks.{numrecs, AllInside}
use Rattle.sblock.specs.Lists.{Each, Rises, items_from}
use Rattle.tree_blocks.specs.declared.tree.TreeAt.{TreeAt}
use Rattle.tree_blocks.specs.declared.tree.WalkFault.{WalkFault}
use Rattle.tree_blocks.specs.declared.tree.WalkFault.TheVariants.{Bad, Failed, Memory}
use Rattle.tree_defs.specs.Levels.{over, AllEntries, recs_of, IsSound, IsTree}
use Rattle.tree_defs.specs.Sites.{site_of, group_blocks}
use Rattle.tree_defs.specs.Tree.{entry_at, entries_from}
use Rattle.tree_defs.specs.declared.site.Site.{Site}
use Rattle.tree_defs.proofs.LoneFacts.{leaf_inside}
use Rattle.tree_defs.proofs.Trees.{reads_trees_lem}
use Rattle.tree_find.specs.Laws.{Holds}
use Rattle.tree_find.specs.Meets.{Meets}
use Rattle.tree_find.proofs.FindLaw.{opens_right}
use Rattle.tree_find.proofs.NodeLemmas.{Fits}
use Rattle.inode_scan.specs.Chunk.{first_in}
use Rattle.inode_scan.specs.Cursor.{first_number, numbers_in, start_in, next_in_tree, next_in_trees, AllInoTrees}
use Rattle.inode_scan.specs.Least.{IsAllocatedIn, IsLeast, IsNone}
use Rattle.inode_scan.specs.NextInode.{IsAllocated, GivesNext, AreAllGroups, AreReadable}
use Rattle.inode_scan.proofs.CursorLemmas.{start_is, all_passed, told_none, told_some, trees_found, trees_none}
use Rattle.inode_scan.proofs.FirstLaw.{finds_first}
use Rattle.inode_scan.proofs.LeastLaw.{nothing_in, in_front, in_rest, in_either, before_rest, first_is_least}

-- ---- the chunks of a readable tree are in range

each_append : {A : Type 0} (test : A → Bool) (xs ys : List A) → Each test xs → Each test ys → Each test (xs ++ ys)
each_append test [] ys h k = k
each_append test (x ∷ xs) ys h k = (h.0, each_append test xs ys h.1 k)

module _ (site : Site) (m : ℕ → List ℕ) where
  over_inside : (level : ℕ) (bytes : List ℕ) → ((q : ℕ) → IsSound ino_form m site level false q → AllInside ino_form site.bounds (recs_of ino_form m level q)) → (n i : ℕ)
      → AllEntries (Fits ino_form lawful_ino site m level) (items_from (entry_at ino_form bytes) n i) → AllInside ino_form site.bounds (over (recs_of ino_form m level) (items_from (entry_at ino_form bytes) n i))
  over_inside level bytes go zero i fits = tt
  over_inside level bytes go (suc n) i fits =
      each_append (ino_form.is_in_range site.bounds) (recs_of ino_form m level (entry_at ino_form bytes i).child) (over (recs_of ino_form m level) (items_from (entry_at ino_form bytes) n (i + 1)))
      (go (entry_at ino_form bytes i).child fits.0.0) (over_inside level bytes go n (i + 1) fits.1)

  recs_inside : (level : ℕ) (root : Bool) (p : ℕ) → IsSound ino_form m site level root p → AllInside ino_form site.bounds (recs_of ino_form m level p)
  unfolding recs_of IsSound entries_from
  recs_inside zero root p sound = leaf_inside ino_form site 0 root p (m p) (opens_right ino_form lawful_ino site m 0 root p sound) refl
  recs_inside (suc level) root p sound = over_inside level _ (λ q s. recs_inside level false q s) (numrecs (m p)) 0 sound.1

  pub tree_of : (root levels : ℕ) (recs : List InoRec) (h : Holds ino_form site m root levels recs) → IsTree ino_form site m root levels recs h.0
  tree_of root levels recs h = (reads_trees_lem ino_form lawful_ino site m root levels recs h.0).0 h.1

  pub tree_inside : (root levels : ℕ) (recs : List InoRec) → Holds ino_form site m root levels recs → AllInside ino_form site.bounds recs
  tree_inside root levels recs h =
      let t = tree_of root levels recs h in
      subst (AllInside ino_form site.bounds) (sym t.recs_are) (recs_inside (levels - 1) true root t.sound)

-- ---- one group

not_below : (a b : ℕ) → None ≡ (if nat_lt a b then Some a else None) → b ≤ a
not_below a b h = by_test (nat_lt a b) refl h
  where
    by_test : (t : Bool) → nat_lt a b ≡ t → None ≡ (if t then Some a else None) → b ≤ a
    by_test true e h = cc
    by_test false e h = grind (arith, nat_tests)

passed_all : (c first end : ℕ) → None ≡ start_in c first end → end ≤ (c + 1) - first
unfolding start_in
passed_all c first end h = not_below ((c + 1) - first) end h

module _ (at : Layout) (image : ℕ → List ℕ) (chunks : ℕ → List InoRec) (c : ℕ) where
  -- what the next inode of one group is
  abbrev TreeGives : TreeAt → Option ℕ → Type 0
  TreeGives t None = (n : ℕ) → n < numbers_in at t.group → IsAllocatedIn (chunks t.group) n → c < first_number at t.group + n → ⊥
  TreeGives t (Some i) =
      (n : ℕ) × (n < numbers_in at t.group) × IsAllocatedIn (chunks t.group) n × (first_number at t.group + n ≡ i) × (c < i)
      × ((k : ℕ) → k < numbers_in at t.group → IsAllocatedIn (chunks t.group) k → c < first_number at t.group + k → n ≤ k)

  record Tree (t : TreeAt) : Type 0 where
    found : Option ℕ
    read : next_in_tree at image c t ≡ Ok found
    gives : TreeGives t found

  module _ (t : TreeAt) (h : Holds ino_form (site_of at t.group) (group_blocks (site_of at t.group) image) t.root t.levels (chunks t.group)) where
    abbrev first : ℕ
    first = first_number at t.group

    abbrev end : ℕ
    end = numbers_in at t.group

    by_found : (from : ℕ) → Some from ≡ start_in c first end → (o : Option ℕ) → first_in from end (chunks t.group) ≡ o → MatchOption o (IsNone from end (chunks t.group)) (λ n. IsLeast from end (chunks t.group) n) → Tree t
    by_found from s None e none =
        let is = start_is c first end from s in
        let read = finds_first (site_of at t.group) (group_blocks (site_of at t.group) image) from end t.root t.levels (chunks t.group) h ∙ ap Ok e in
        record {
          found = None;
          read = told_none at image c t first end refl refl from s read;
          gives = λ n below there above. none n there (omega (arith, is, above)) below;
        }
    by_found from s (Some n) e least =
        let is = start_is c first end from s in
        let low = least.low in
        let read = finds_first (site_of at t.group) (group_blocks (site_of at t.group) image) from end t.root t.levels (chunks t.group) h ∙ ap Ok e in
        record {
          found = Some (first + n);
          read = told_some at image c t first end refl refl from s n n refl read;
          gives = (n, least.high, least.there, refl, omega (arith, is, low), λ k below there above. least.least k there (omega (arith, is, above)) below);
        }

    by_start : (o : Option ℕ) → o ≡ start_in c first end → Tree t
    by_start None s =
        let far = passed_all c first end s in
        record {
          found = None;
          read = all_passed at image c t first end refl refl s;
          gives = λ n below there above. omega (arith, far, below, above);
        }
    by_start (Some from) s =
        let tree = tree_of (site_of at t.group) (group_blocks (site_of at t.group) image) t.root t.levels (chunks t.group) h in
        by_found from s (first_in from end (chunks t.group)) refl
        (first_is_least (site_of at t.group).bounds from end (chunks t.group) tree.rises (tree_inside (site_of at t.group) (group_blocks (site_of at t.group) image) t.root t.levels (chunks t.group) h))

    tree_next : Tree t
    tree_next = by_start (start_in c first end) refl

  -- ---- all groups

  module _ (fits : Fitting at.agblocks at.agcount at.dblocks at.agblklog) where
    short : (g : ℕ) → group_len_of at g ≤ 2 ^ at.agblklog
    short g = by_last (g + 1 == at.agcount)
      where
        by_last : (b : Bool) → (if b then at.dblocks - (at.agcount - 1) * at.agblocks else at.agblocks) ≤ 2 ^ at.agblklog
        by_last true = let a = fits.last_short in let b = fits.covered in omega (arith, a, b)
        by_last false = fits.covered

    -- a later group's numbers are greater
    later : (g h n : ℕ) → g < h → n < numbers_in at g → first_number at g + n < first_number at h
    unfolding first_number
    later g h n lt below =
        let room = short g in
        let step : 2 ^ at.agblklog * (g + 1) ≤ 2 ^ at.agblklog * h = mul-le-mul_left (2 ^ at.agblklog) (omega (arith, lt)) in
        omega (arith, room, step, below)

    abbrev IsThere : List TreeAt → ℕ → Type 0
    IsThere ts j = (t : TreeAt) × (n : ℕ) × Contains ts t × (n < numbers_in at t.group) × IsAllocatedIn (chunks t.group) n × (first_number at t.group + n ≡ j)

    abbrev TreesGive : List TreeAt → Option ℕ → Type 0
    TreesGive ts None = (j : ℕ) → IsThere ts j → c < j → ⊥
    TreesGive ts (Some i) = IsThere ts i × (c < i) × ((j : ℕ) → IsThere ts j → c < j → i ≤ j)

    record Trees (ts : List TreeAt) : Type 0 where
      found : Option ℕ
      read : next_in_trees at image c ts ≡ Ok found
      gives : TreesGive ts found

    along : (a b x : TreeAt) → nat_lt a.group b.group ≡ true → nat_lt b.group x.group ≡ true → nat_lt a.group x.group ≡ true
    along a b x h i = grind (arith, nat_tests)

    is_less : (a b : ℕ) → nat_lt a b ≡ true → a < b
    is_less a b h = grind (arith, nat_tests)

    module _ (t : TreeAt) (ts : List TreeAt) (order : Rises (λ a b. nat_lt a.group b.group) (t ∷ ts)) where
      with_first : (i : ℕ) → next_in_tree at image c t ≡ Ok (Some i) → TreeGives t (Some i) → Trees (t ∷ ts)
      with_first i read (n, below, there, is, above, least) = record {
        found = Some i;
        read = trees_found at image c t (t ∷ ts) ts refl i read;
        gives = (
          (t, n, in_front t ts, below, there, is),
          above,
          λ j (u, k, has, low, have, at_j) up. elim (in_either t ts u has) [
            | inl same ↦
                let own : first_number at t.group + k ≡ j = subst (λ (x : TreeAt). first_number at x.group + k ≡ j) (sym same) at_j in
                let mine = least k (subst (λ (x : TreeAt). k < numbers_in at x.group) (sym same) low) (subst (λ (x : TreeAt). IsAllocatedIn (chunks x.group) k) (sym same) have) (omega (arith, own, up)) in
                omega (arith, own, is, mine)
            | inr behind ↦
                let far = later t.group u.group n (is_less t.group u.group (before_rest (λ a b. nat_lt a.group b.group) along t ts order u behind)) below in
                omega (arith, far, is, at_j)
          ],
        );
      }

      none_own : TreeGives t None → (j : ℕ) (u : TreeAt) (k : ℕ) → t ≡ u → k < numbers_in at u.group → IsAllocatedIn (chunks u.group) k → first_number at u.group + k ≡ j → c < j → ⊥
      none_own none j u k same low have at_j up =
          let own : first_number at t.group + k ≡ j = subst (λ (x : TreeAt). first_number at x.group + k ≡ j) (sym same) at_j in
          none k (subst (λ (x : TreeAt). k < numbers_in at x.group) (sym same) low) (subst (λ (x : TreeAt). IsAllocatedIn (chunks x.group) k) (sym same) have) (omega (arith, own, up))

      with_rest : next_in_tree at image c t ≡ Ok None → TreeGives t None → (o : Option ℕ) → next_in_trees at image c ts ≡ Ok o → TreesGive ts o → Trees (t ∷ ts)
      with_rest read none None rest gives = record {
        found = None;
        read = trees_none at image c t (t ∷ ts) ts refl read ∙ rest;
        gives = λ j (u, k, has, low, have, at_j) up. elim (in_either t ts u has) [
          | inl same ↦ none_own none j u k same low have at_j up
          | inr behind ↦ gives j (u, k, behind, low, have, at_j) up
        ];
      }
      with_rest read none (Some i) rest gives = record {
        found = Some i;
        read = trees_none at image c t (t ∷ ts) ts refl read ∙ rest;
        gives = (
          (let (u, k, has, low, have, at_i) = gives.0 in (u, k, in_rest t ts u has, low, have, at_i)),
          gives.1,
          λ j (u, k, has, low, have, at_j) up. elim (in_either t ts u has) [
            | inl same ↦ absurd (none_own none j u k same low have at_j up)
            | inr behind ↦ gives.2 j (u, k, behind, low, have, at_j) up
          ],
        );
      }

      by_tree : (o : Option ℕ) → next_in_tree at image c t ≡ Ok o → TreeGives t o → Trees ts → Trees (t ∷ ts)
      by_tree None read gives rest = with_rest read gives rest.found rest.read rest.gives
      by_tree (Some i) read gives rest = with_first i read gives

    trees_next : (ts : List TreeAt) → Rises (λ a b. nat_lt a.group b.group) ts → AreReadable at image chunks ts → Trees ts
    unfolding next_in_trees
    trees_next [] order readable = record { found = None; read = refl; gives = λ j (u, k, has, low, have, at_j) up. nothing_in u has }
    trees_next (t ∷ ts) order readable =
        let tree = tree_next t (readable t (in_front t ts)) in
        by_tree t ts order tree.found tree.read tree.gives (trees_next ts order.1 (λ u has. readable u (in_rest t ts u has)))

    module _ (ts : List TreeAt) (groups : AreAllGroups at.agcount ts) (below : (t : TreeAt) → Contains ts t → t.group < at.agcount) where
      to_list : (j : ℕ) → IsAllocated at chunks j → IsThere ts j
      to_list j (g, n, lt, low, have, is) =
          let t = groups.all g lt in
          let same : g ≡ t.0.group = sym t.2 in
          (t.0, n, t.1, subst (λ (h : ℕ). n < numbers_in at h) same low, subst (λ (h : ℕ). IsAllocatedIn (chunks h) n) same have, subst (λ (h : ℕ). first_number at h + n ≡ j) same is)

      from_list : (j : ℕ) → IsThere ts j → IsAllocated at chunks j
      from_list j (t, n, has, low, have, is) = (t.group, n, below t has, low, have, is)

      by_trees : (o : Option ℕ) → TreesGive ts o → (result : Result (Option ℕ) WalkFault) → Meets (Ok o) result → GivesNext at chunks c result
      by_trees None gives (Ok found) met = subst (λ (o : Option ℕ). GivesNext at chunks c (Ok o)) (let e : None ≡ found = cc in e) (λ j there up. gives j (to_list j there) up)
      by_trees (Some i) gives (Ok found) met =
          subst (λ (o : Option ℕ). GivesNext at chunks c (Ok o)) (let e : Some i ≡ found = cc in e)
          (record { there = from_list i gives.0; above = gives.1; least = λ j there up. gives.2 j (to_list j there) up })
      by_trees o gives (Err (Bad b x)) met = cc
      by_trees o gives (Err Failed) met = tt
      by_trees o gives (Err Memory) met = tt

      pub gives_next : (result : Result (Option ℕ) WalkFault) → Meets (next_in_trees at image c ts) result → AreReadable at image chunks ts → GivesNext at chunks c result
      gives_next result met readable =
          let trees = trees_next ts groups.order readable in
          by_trees trees.found trees.gives result (rw trees.read at met)

pub all_below : (agcount : ℕ) (ts : List TreeAt) → AllInoTrees agcount ts → (t : TreeAt) → Contains ts t → t.group < agcount
all_below agcount [] all t has = absurd (nothing_in t has)
all_below agcount (u ∷ us) all t has = elim (in_either u us t has) [
  | inl same ↦ subst (λ (x : TreeAt). x.group < agcount) same all.0.group
  | inr later ↦ all_below agcount us all.1 t later
]
