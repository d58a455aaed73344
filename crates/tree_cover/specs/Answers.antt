-- What a search of a readable tree answers.
use Rattle.std.specs.Prelude.{◌≡◌, ◌⊎◌, ℕ, ◌+◌, ◌^◌, ◌<◌, ◌≤◌, ◌↔◌, true, false, ◌&&◌, List, Option, Result, Ok, find}
use Rattle.run_sets.specs.Runs.{is_within}
use Rattle.run_sets.specs.declared.run.Run.{Run}
use Rattle.sblock.specs.Form.{Form}
use Rattle.sblock.specs.Kinds.{has_high_keys_of}
use Rattle.span_recs.specs.Refcounts.{refc_form, is_shared}
use Rattle.span_recs.specs.declared.refcount.RefcRec.{RefcRec}
use Rattle.tree_defs.specs.Tree.{read_tree}
use Rattle.tree_defs.specs.declared.site.Site.{Site}
use Rattle.tree_cover.specs.Covers.{start_of, meets, is_above, first_met, AreApart}
use Rattle.tree_blocks.specs.declared.tree.WalkFault.{WalkFault}
use Rattle.tree_cover.specs.Covering.{covering_in}
use Rattle.tree_cover.specs.Found.{MeetsSearch}

module _ {R K : Type 0} (form : Form R K) where
  -- the first record above the key that meets the run
  abbrev pub first_meeting : Run → Option K → List R → Option R
  first_meeting run after recs = find (λ r. is_above form after (form.key_of r) && meets form run r) recs

  -- The search of a readable tree gives the first of its records, above the key, that is looked at
  -- and meets the run.
  abbrev pub SearchesTrees : Type 0
  SearchesTrees = (site : Site) (m : ℕ → List ℕ) (run : Run) (after : Option K) (root levels : ℕ) (recs : List R) (blocks : List ℕ) → site.bounds.length < 2 ^ 32 → read_tree form site m root levels ≡ Ok (recs, blocks) → covering_in form site m run after root levels ≡ Ok (first_met form run after recs)

  -- Where nodes have high keys, or no record has a block of the next one, all records are looked
  -- at that could be the answer.
  abbrev pub LooksAtAll : Type 0
  LooksAtAll = (run : Run) (after : Option K) (recs : List R) → (has_high_keys_of form.kind ≡ true) ⊎ AreApart form recs → first_met form run after recs ≡ first_meeting run after recs

  -- A record meets a run where they have a block in common.
  abbrev pub MeetsByBlock : Type 0
  MeetsByBlock = (run : Run) (r : R) → (meets form run r ≡ true) ↔ ((b : ℕ) × (is_within b run ≡ true) × (start_of form r ≤ b) × (b < start_of form r + form.length_of r))

  -- what a search answers of a tree with these records
  pub record AnswersTree (run : Run) (after : Option K) (recs : List R) (result : Result (Option R) WalkFault) : Type 0 where
    pub looked_at : MeetsSearch (Ok (first_met form run after recs)) result
    pub first : (has_high_keys_of form.kind ≡ true) ⊎ AreApart form recs → MeetsSearch (Ok (first_meeting run after recs)) result

  -- where the tree is readable, it answers that
  abbrev pub AnswersReadable : Site → (ℕ → List ℕ) → Run → Option K → ℕ → ℕ → Result (Option R) WalkFault → Type 0
  AnswersReadable site m run after root levels result = (recs : List R) (blocks : List ℕ) → read_tree form site m root levels ≡ Ok (recs, blocks) → AnswersTree run after recs result

-- In a group's blocks, which lie below 2^31, no record of copy-on-write staging has one.
abbrev pub StagingMeetsNone : Type 0
StagingMeetsNone = (run : Run) (r : RefcRec) → run.start + run.count ≤ 2 ^ 31 → is_shared r ≡ false → meets refc_form run r ≡ false
