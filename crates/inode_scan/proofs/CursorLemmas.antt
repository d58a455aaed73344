-- The next inode group by group.
use Rattle.std.proofs.Common.{◌≡◌, ℕ, ◌+◌, ◌-◌, ◌<◌, ◌≤◌, Bool, true, false, List, [], ◌∷◌, length, Option, Some, None, Ok, refl, sym, ap, subst, ◌∙◌, arith}
use Rattle.std.specs.Prelude.{◌/◌, nat_lt, if◌then◌else◌, is_some, IfSome}
use Rattle.geom.proofs.ApartLemmas.{splits_in}
use Rattle.geom.specs.Apart.{HasFitting}
use Rattle.geom.specs.Layout.{Layout, fs_block_of, group_len_of, split_of}
use Rattle.tree_blocks.specs.Meets.{Refuses}
use Rattle.tree_blocks.specs.declared.tree.TreeAt.{TreeAt}
use Rattle.tree_blocks.specs.declared.tree.WalkFault.{WalkFault}
use Rattle.tree_blocks.specs.declared.tree.WalkFault.TheVariants.{Bad, Failed, Memory}
use Rattle.tree_defs.specs.Sites.{site_of, group_blocks}
use Rattle.inode_scan.specs.Cursor.{first_number, numbers_in, start_in, numbered, next_in_tree, next_in_trees, reads_in_tree, reads_in_trees}
use Rattle.inode_scan.specs.Search.{Search, then_next, then_reads, search_in, reads_in}

pub start_is : (c first end from : ℕ) → Some from ≡ start_in c first end → from ≡ (c + 1) - first
unfolding start_in
start_is c first end from h = by_test (nat_lt ((c + 1) - first) end) h
  where
    by_test : (b : Bool) → Some from ≡ (if b then Some ((c + 1) - first) else None) → from ≡ (c + 1) - first
    by_test true h = cc
    by_test false h = cc

module _ (at : Layout) (image : ℕ → List ℕ) (c : ℕ) (t : TreeAt) (first end : ℕ) (f : first ≡ first_number at t.group) (e : end ≡ numbers_in at t.group) where
  pub all_passed : None ≡ start_in c first end → next_in_tree at image c t ≡ Ok None
  unfolding next_in_tree
  all_passed h = rw (← e, ← f, ← h) refl

  pub none_reads : None ≡ start_in c first end → reads_in_tree at image c t ≡ 0
  unfolding reads_in_tree
  none_reads h = rw (← e, ← f, ← h) refl

  module _ (from : ℕ) (h : Some from ≡ start_in c first end) where
    abbrev below : Search
    below = search_in (site_of at t.group) (group_blocks (site_of at t.group) image) from end t.root t.levels

    going : next_in_tree at image c t ≡ numbered first below
    unfolding next_in_tree
    going = rw (← e, ← f, ← h) refl

    pub going_reads : reads_in_tree at image c t ≡ reads_in (site_of at t.group) (group_blocks (site_of at t.group) image) from end t.root t.levels
    unfolding reads_in_tree
    going_reads = rw (← e, ← f, ← h) refl

    pub told_none : below ≡ Ok None → next_in_tree at image c t ≡ Ok None
    told_none is = going ∙ ap (numbered first) is

    pub told_some : (n k : ℕ) → k ≡ n → below ≡ Ok (Some n) → next_in_tree at image c t ≡ Ok (Some (first + k))
    told_some n k same is = going ∙ ap (numbered first) is ∙ ap (λ (j : ℕ). Ok (Some (first + j))) (sym same)

    pub told_fault : (fault : WalkFault) → Refuses below fault → Refuses (next_in_tree at image c t) fault
    told_fault (Bad b x) is = going ∙ ap (numbered first) is
    told_fault Failed is = is
    told_fault Memory is = is

module _ (at : Layout) (image : ℕ → List ℕ) (c : ℕ) (t : TreeAt) (rest later : List TreeAt) (split : rest ≡ t ∷ later) where
  step : next_in_trees at image c rest ≡ then_next (next_in_tree at image c t) (next_in_trees at image c later)
  unfolding next_in_trees
  step = ap (next_in_trees at image c) split

  reads_step : reads_in_trees at image c rest ≡ then_reads (next_in_tree at image c t) (reads_in_tree at image c t) (reads_in_trees at image c later)
  unfolding reads_in_trees
  reads_step = ap (reads_in_trees at image c) split

  pub found_reads : (n : ℕ) → next_in_tree at image c t ≡ Ok (Some n) → reads_in_trees at image c rest ≡ reads_in_tree at image c t
  found_reads n is = reads_step ∙ ap (λ (s : Search). then_reads s (reads_in_tree at image c t) (reads_in_trees at image c later)) is

  pub more_reads : next_in_tree at image c t ≡ Ok None → reads_in_trees at image c rest ≡ reads_in_tree at image c t + reads_in_trees at image c later
  more_reads is = reads_step ∙ ap (λ (s : Search). then_reads s (reads_in_tree at image c t) (reads_in_trees at image c later)) is

  pub trees_found : (n : ℕ) → next_in_tree at image c t ≡ Ok (Some n) → next_in_trees at image c rest ≡ Ok (Some n)
  trees_found n is = step ∙ ap (λ (s : Search). then_next s (next_in_trees at image c later)) is

  pub trees_none : next_in_tree at image c t ≡ Ok None → next_in_trees at image c rest ≡ next_in_trees at image c later
  trees_none is = step ∙ ap (λ (s : Search). then_next s (next_in_trees at image c later)) is

  pub trees_fault : (fault : WalkFault) → Refuses (next_in_tree at image c t) fault → Refuses (next_in_trees at image c rest) fault
  trees_fault (Bad b x) is = step ∙ ap (λ (s : Search). then_next s (next_in_trees at image c later)) is
  trees_fault Failed is = is
  trees_fault Memory is = is

pub range_of : (from end n : ℕ) (o : Option ℕ) → o ≡ Some n → IfSome o (λ k. (from ≤ k) × (k < end)) → (from ≤ n) × (n < end)
range_of from end n o is h = subst (λ (p : Option ℕ). IfSome p (λ k. (from ≤ k) × (k < end))) is h

-- a number below those of a group is that of an inode with a place
pub has_place : (at : Layout) → HasFitting at → (g first end n k : ℕ) → g < at.agcount → first ≡ first_number at g → end ≡ numbers_in at g → n < end → k ≡ n → is_some (split_of at ((first + k) / 8)) ≡ true
unfolding first_number
has_place at fits g first end n k inside f e below same =
    let block : (first + k) / 8 ≡ fs_block_of at g (n / 8) = omega (arith, f, same) in
    let lies : n / 8 < group_len_of at g = omega (arith, e, below) in
    ap (λ m. is_some (split_of at m)) block ∙ ap is_some (splits_in at fits g (n / 8) inside lies)

pub no_reads : (at : Layout) (image : ℕ → List ℕ) (c : ℕ) (rest : List TreeAt) → length rest ≡ 0 → reads_in_trees at image c rest ≡ 0
unfolding reads_in_trees
no_reads at image c [] none = refl
no_reads at image c (t ∷ ts) none = absurd (omega (arith, none))

pub no_trees : (at : Layout) (image : ℕ → List ℕ) (c : ℕ) (rest : List TreeAt) → length rest ≡ 0 → next_in_trees at image c rest ≡ Ok None
unfolding next_in_trees
no_trees at image c [] none = refl
no_trees at image c (t ∷ ts) none = absurd (omega (arith, none))

pub count_by : (old mid new rest all one : ℕ) → mid + rest ≡ old + all → rest ≡ one → new ≡ mid + one → new ≡ old + all
count_by old mid new rest all one sum here read = omega (arith, sum, here, read)

pub count_end : (old mid rest all : ℕ) → mid + rest ≡ old + all → rest ≡ 0 → mid ≡ old + all
count_end old mid rest all sum none = omega (arith, sum, none)

pub count_one : (old new all one : ℕ) → all ≡ one → new ≡ old + one → new ≡ old + all
count_one old new all one same read = omega (arith, same, read)

pub count_none : (old all : ℕ) → all ≡ 0 → old ≡ old + all
count_none old all none = omega (arith, none)
