-- How a tree is searched for the first record above a key that meets a run of blocks. Of a node
-- the first entry that may hold it is searched, and the first one behind that is kept as a spare.
-- Where the search ends with no record, that of the lowest spare is the answer: there only the
-- first entry of each node that may hold the record is searched. So at most two blocks of each
-- level are read.
use Rattle.std.specs.Prelude.{ℕ, zero, suc, nat_lt, nat_le, Bool, true, false, ◌&&◌, if◌then◌else◌, List, [], ◌∷◌, Option, Some, None, Result, Ok, Err}
use Rattle.run_sets.specs.declared.run.Run.{Run}
use Rattle.sblock.specs.Blocks.{records_of}
use Rattle.sblock.specs.Form.{Form}
use Rattle.sblock.specs.Kinds.{has_high_keys_of}
use Rattle.sblock.specs.declared.block.BlockFault.{BlockFault}
use Rattle.sblock.specs.declared.block.BlockFault.TheVariants.{Range}
use Rattle.tree_defs.specs.Claims.{lone_fault}
use Rattle.tree_defs.specs.Levels.{entries}
use Rattle.tree_defs.specs.Tree.{Entry, tested, top_of}
use Rattle.tree_defs.specs.declared.site.Site.{Site}
use Rattle.tree_cover.specs.Covers.{ends_behind, is_above, first_met}
use Rattle.tree_cover.specs.declared.entry.Choice.{Choice}
use Rattle.tree_cover.specs.declared.search.Spare.{Spare}

-- what a search of a subtree answers: a record, none, or the first block that fails its tests
abbrev pub Search : Type 0 → Type 0
Search R = Result (Option R) (ℕ × BlockFault)

-- a record that was found, or else the answer of another search
abbrev pub found_or : {R : Type 0} → Search R → Option R → Search R
found_or other None = other
found_or other (Some r) = Ok (Some r)

-- the search of a block where there is one
abbrev pub search_or : {R : Type 0} → Search R → (ℕ → Search R) → Option ℕ → Search R
search_or other search None = other
search_or other search (Some p) = search p

abbrev pub choice_or : {R : Type 0} → Search R → (Choice → Search R) → Option Choice → Search R
choice_or other search None = other
choice_or other search (Some c) = search c

-- a block of this level is the spare, or else the old one stays
abbrev pub spare_of : ℕ → Option Spare → Option ℕ → Option Spare
spare_of level spare None = spare
spare_of level spare (Some p) = Some (record { level = level; block = p })

module _ {R K : Type 0} (form : Form R K) where
  -- the entries end, or the next one begins behind the run's first block
  unfoldable pub next_begins_behind : Run → List (Entry K) → Bool
  next_begins_behind run [] = true
  next_begins_behind run (e ∷ es) = nat_lt run.start (form.block_of e.low)

  -- the entries end, or the next one begins above the key
  unfoldable pub is_next_above : Option K → List (Entry K) → Bool
  is_next_above after [] = true
  is_next_above after (e ∷ es) = is_above form after e.low

  -- By its keys, and without high keys by those of the next one, the entry may have a record below
  -- that ends behind the run's first block or is the last one to begin there or before it.
  unfoldable pub may_reach : Run → Entry K → List (Entry K) → Bool
  may_reach run e es = if has_high_keys_of form.kind then nat_le run.start (form.block_of e.high) else next_begins_behind run es

  -- the entry, with those behind it, may hold the record that is asked for
  unfoldable pub may_hold : Run → Option K → Entry K → List (Entry K) → Bool
  may_hold run after e es = ends_behind run (form.block_of e.low) && may_reach run e es && is_next_above after es

  -- the block of the first of these entries that may hold the record
  unfoldable pub first_in : Run → Option K → List (Entry K) → Option ℕ
  first_in run after [] = None
  first_in run after (e ∷ es) = if may_hold run after e es then Some e.child else first_in run after es

  -- that block, and that of the next such entry
  unfoldable pub choice_in : Run → Option K → List (Entry K) → Option Choice
  choice_in run after [] = None
  choice_in run after (e ∷ es) = if may_hold run after e es then Some (record { first = e.child; next = first_in run after es }) else choice_in run after es

  module _ (site : Site) (m : ℕ → List ℕ) (run : Run) (after : Option K) where
    -- the subtree of a spare
    unfoldable pub spare_in : ℕ → ℕ → Search R
    spare_in zero p = tested (lone_fault form site 0 false p (m p)) p (Ok (first_met form run after (records_of form (m p))))
    spare_in (suc level) p =
        tested (lone_fault form site (suc level) false p (m p)) p (search_or (Ok None) (spare_in level) (first_in run after (entries form m p)))

    abbrev pub resumed : Option Spare → Search R
    resumed None = Ok None
    resumed (Some spare) = spare_in spare.level spare.block

    -- the subtree of a block, and where it gives none, that of the spare
    unfoldable pub cover_in : ℕ → Bool → ℕ → Option Spare → Search R
    cover_in zero root p spare =
        tested (lone_fault form site 0 root p (m p)) p (found_or (resumed spare) (first_met form run after (records_of form (m p))))
    cover_in (suc level) root p spare =
        tested (lone_fault form site (suc level) root p (m p)) p (choice_or (resumed spare) (λ c. cover_in level false c.first (spare_of level spare c.next)) (choice_in run after (entries form m p)))

    -- a tree with this root and so many levels
    unfoldable pub covering_in : ℕ → ℕ → Search R
    covering_in root levels =
        if nat_le 1 root && nat_lt root site.bounds.length then cover_in (top_of levels) true root None else Err (root, Range)
