-- Who has blocks of a run, record by record in the order of their keys.
use Rattle.std.proofs.Common.{◌≡◌, ℕ, Bool, true, false, cond, List, [], ◌∷◌, find, refl, sym, ap, subst, ◌∙◌, inl, inr, Some, None, Option, Result, Ok, Err}
use Rattle.std.proofs.lemmas.Bool.{false≢true}
use Rattle.std.specs.Prelude.{◌&&◌, ◌⊎◌, IfOk, OnOk}
use Rattle.blk_device.specs.Contents.{Contents}
use Rattle.block_reap.specs.declared.runs.LimboRun.{LimboRun}
use Rattle.fs_model.specs.declared.fault.Cause.{Cause}
use Rattle.geom.specs.Layout.{Layout}
use Rattle.rmap_recs.specs.Rmap.{rmap_form}
use Rattle.rmap_recs.specs.RmapLaws.{lawful_rmap}
use Rattle.rmap_recs.specs.declared.records.Key.{Key}
use Rattle.rmap_recs.specs.declared.records.RmapRec.{RmapRec}
use Rattle.sblock.specs.declared.block.BlockFault.{BlockFault}
use Rattle.tree_blocks.specs.Told.{OfTree}
use Rattle.tree_blocks.specs.declared.tree.TreeAt.{TreeAt}
use Rattle.tree_blocks.specs.declared.tree.WalkFault.{WalkFault}
use Rattle.tree_cover.proofs.ListFacts.{AllOf, Ordered, either, in_order}
use Rattle.tree_cover.specs.Answers.{AnswersReadable, first_meeting}
use Rattle.tree_cover.specs.Covers.{is_above, meets}
use Rattle.tree_defs.proofs.Trees.{reads_trees_lem}
use Rattle.tree_defs.specs.declared.site.Site.{Site}
use Rattle.tree_defs.specs.Tree.{read_tree}
use Rattle.core_edit.specs.Owned.{AreOwn, AreOwnBelow, IsAlone, IsFirstOver, IsOwned, OfRecords, Shows, ShowsOver, WhereAlone, WhereFreed, blocks_in, rmap_in}
use Rattle.core_edit.specs.declared.owners.Over.{Over}
use Rattle.core_edit.specs.declared.owners.Over.TheVariants.{GoesOn, Known}
use Rattle.core_edit.specs.declared.owners.Owners.{Owners}
use Rattle.core_edit.specs.declared.owners.Owners.TheVariants.{Alone, Met, Other}
use Rattle.core_edit.specs.declared.place.EditPlace.{EditPlace}
use Rattle.core_edit.specs.declared.place.Reap.{Reap}
use Rattle.core_edit.specs.declared.place.Reap.TheVariants as reaps
use Rattle.core_edit.specs.declared.stop.Stop.{Stop}

-- ---- one list

-- the record is above the key and has a block of the run
abbrev next_by : LimboRun → Option Key → RmapRec → Bool
next_by run after r = is_above rmap_form after (rmap_form.key_of r) && meets rmap_form (blocks_in run) r

found_or : (b : Bool) (r s : RmapRec) (rest : Option RmapRec) → cond b (Some r) rest ≡ Some s → ((b ≡ true) × (r ≡ s)) ⊎ ((b ≡ false) × (rest ≡ Some s))
found_or true r s rest h = inl (refl, ap (λ o. elim o [ None ↦ r | Some x ↦ x ]) h)
found_or false r s rest h = inr (refl, h)

none_or : (b : Bool) (r : RmapRec) (rest : Option RmapRec) → cond b (Some r) rest ≡ None → (b ≡ false) × (rest ≡ None)
none_or true r rest h = cc
none_or false r rest h = (refl, h)

both_false : (a b : Bool) → (a && b) ≡ false → b ≡ true → a ≡ false
both_false true b h k = absurd (false≢true (sym h ∙ k))
both_false false b h k = refl

-- of a record that isn't the next one, and has a block of the run
own_before : (run : LimboRun) (after : Option Key) (r : RmapRec) → (is_above rmap_form after (rmap_form.key_of r) ≡ false → meets rmap_form (blocks_in run) r ≡ true → r.owner ≡ run.owner) → next_by run after r ≡ false → meets rmap_form (blocks_in run) r ≡ true → r.owner ≡ run.owner
own_before run after r below isnt met = below (both_false (is_above rmap_form after (rmap_form.key_of r)) (meets rmap_form (blocks_in run) r) isnt met) met

-- no record is next, so all are the owner's
pub all_own : (run : LimboRun) (after : Option Key) (recs : List RmapRec) → AreOwnBelow run after recs → first_meeting rmap_form (blocks_in run) after recs ≡ None → AreOwn run recs
all_own run after [] below none = tt
all_own run after (r ∷ rs) below none =
    let split = none_or (next_by run after r) r (find (next_by run after) rs) none in
    (own_before run after r below.0 split.0, all_own run after rs below.1 split.1)

-- after the key that comes first, each is above it
above_first : (run : LimboRun) (s : RmapRec) (rs : List RmapRec) → AllOf (λ r. rmap_form.is_before (rmap_form.key_of s) (rmap_form.key_of r) ≡ true) rs → AreOwnBelow run (Some (rmap_form.key_of s)) rs
unfolding is_above
above_first run s [] later = tt
above_first run s (r ∷ rs) later = ((λ isnt met. absurd (false≢true (sym isnt ∙ later.0))), above_first run s rs later.1)

-- the next record is the owner's too
pub own_on : (run : LimboRun) (after : Option Key) (s : RmapRec) (recs : List RmapRec) → Ordered rmap_form recs → AreOwnBelow run after recs → first_meeting rmap_form (blocks_in run) after recs ≡ Some s → s.owner ≡ run.owner → AreOwnBelow run (Some (rmap_form.key_of s)) recs
own_on run after s [] ordered below found own = tt
own_on run after s (r ∷ rs) ordered below found own = elim (found_or (next_by run after r) r s (find (next_by run after) rs) found) [
  | inl here ↦ ((λ _ _. subst (λ (x : RmapRec). x.owner ≡ run.owner) (sym here.1) own), above_first run s rs (subst (λ (x : RmapRec). AllOf (λ y. rmap_form.is_before (rmap_form.key_of x) (rmap_form.key_of y) ≡ true) rs) here.1 ordered.0))
  | inr later ↦ ((λ _ met. own_before run after r below.0 later.0 met), own_on run after s rs ordered.1 below.1 later.1 own)
]

pub none_below : (run : LimboRun) (recs : List RmapRec) → AreOwnBelow run None recs
unfolding is_above
none_below run [] = tt
none_below run (r ∷ rs) = ((λ isnt met. absurd (false≢true (sym isnt))), none_below run rs)

-- ---- all records of a tree

of_two : (at : Layout) (place : EditPlace) (told : Option Contents) (P Q S : List RmapRec → Type 0) → ((recs : List RmapRec) → Ordered rmap_form recs → P recs → Q recs → S recs) → OfRecords at place told P → OfRecords at place told Q → OfRecords at place told S
of_two at place None P Q S f h k = tt
of_two at place (Some c) P Q S f h k = λ recs blocks read. f recs (in_order rmap_form lawful_rmap recs ((reads_trees_lem rmap_form lawful_rmap _ _ _ _ recs blocks).0 read).rises) (h recs blocks read) (k recs blocks read)

abbrev unwrap : Result (Option RmapRec) (ℕ × BlockFault) → Option RmapRec
unwrap (Ok found) = found
unwrap (Err e) = None

pub first_over : (at : Layout) (place : EditPlace) (run : LimboRun) (after : Option Key) (told : Option Contents) (tree : TreeAt) (result : Result (Option RmapRec) WalkFault) → tree ≡ rmap_in place → OfTree at tree told (λ s m r n. AnswersReadable rmap_form s m (blocks_in run) after r n result)
    → IfOk result (IsFirstOver at place run after told)
first_over at place run after told tree (Err e) same h = tt
first_over at place run after None tree (Ok found) same h = tt
first_over at place run after (Some c) tree (Ok found) same h = λ recs blocks read.
    let k = subst (λ (t : TreeAt). OfTree at t (Some c) (λ s m r n. AnswersReadable rmap_form s m (blocks_in run) after r n (Ok found))) same h in
    ap unwrap ((k recs blocks read).first (inl refl))

pub shows_over : (at : Layout) (place : EditPlace) (run : LimboRun) (after : Option Key) (told : Option Contents) (found : Option RmapRec) (over : Over) → IsFirstOver at place run after told found → Shows run over found → ShowsOver at place run after told over
shows_over at place run after None found over first shows = tt
shows_over at place run after (Some c) found over first shows = λ recs blocks read. subst (λ (x : Option RmapRec). Shows run over x) (sym (first recs blocks read)) shows

pub below_none : (at : Layout) (place : EditPlace) (run : LimboRun) (told : Option Contents) → OfRecords at place told (AreOwnBelow run None)
below_none at place run None = tt
below_none at place run (Some c) = λ recs blocks read. none_below run recs

-- layout and content are as they were
pub of_before : (at at' : Layout) (place : EditPlace) (told told' : Option Contents) (P : List RmapRec → Type 0) → at' ≡ at → told' ≡ told → OfRecords at' place told' P → OfRecords at place told P
of_before at at' place told told' P same_at same h = subst (λ (x : Layout). OfRecords x place told P) same_at (subst (λ (x : Option Contents). OfRecords at' place x P) same h)

-- the search goes on
pub below_on : (at : Layout) (place : EditPlace) (run : LimboRun) (after : Option Key) (told : Option Contents) (key : Key) → OfRecords at place told (AreOwnBelow run after)
    → OfRecords at place told (λ recs. (s : RmapRec) × (first_meeting rmap_form (blocks_in run) after recs ≡ Some s) × (s.owner ≡ run.owner) × (key ≡ rmap_form.key_of s)) → OfRecords at place told (AreOwnBelow run (Some key))
below_on at place run after told key below over =
    of_two at place told (AreOwnBelow run after) (λ recs. (s : RmapRec) × (first_meeting rmap_form (blocks_in run) after recs ≡ Some s) × (s.owner ≡ run.owner) × (key ≡ rmap_form.key_of s)) (AreOwnBelow run (Some key)) (λ recs ordered b o. subst (λ (k : Key). AreOwnBelow run (Some k) recs) (sym o.3) (own_on run after o.0 recs ordered b o.1 o.2)) below over

-- the search ends
pub alone_by : (at : Layout) (place : EditPlace) (run : LimboRun) (after : Option Key) (told : Option Contents) → OfRecords at place told (AreOwnBelow run after) → OfRecords at place told (λ recs. first_meeting rmap_form (blocks_in run) after recs ≡ None) → IsAlone at place run told
alone_by at place run after told below none = of_two at place told (AreOwnBelow run after) (λ recs. first_meeting rmap_form (blocks_in run) after recs ≡ None) (AreOwn run) (λ recs ordered b n. all_own run after recs b n) below none

-- a step of the search, over a store that was only read since the search began
pub goes_on : (at at' : Layout) (place : EditPlace) (run : LimboRun) (after : Option Key) (told told' : Option Contents) (over : Over) (key : Key) → at' ≡ at → told' ≡ told → over ≡ GoesOn key → OfRecords at place told (AreOwnBelow run after) → ShowsOver at' place run after told' over → OfRecords at place told (AreOwnBelow run (Some key))
goes_on at at' place run after told told' over key same_at same is below shows =
    below_on at place run after told key below
    (subst (λ (x : Over). ShowsOver at place run after told x) is
    (of_before at at' place told told' (λ recs. Shows run over (first_meeting rmap_form (blocks_in run) after recs)) same_at same shows))

pub alone_known : (at at' : Layout) (place : EditPlace) (run : LimboRun) (after : Option Key) (told told' : Option Contents) (over : Over) (owners : Owners) → at' ≡ at → told' ≡ told → over ≡ Known owners → OfRecords at place told (AreOwnBelow run after) → ShowsOver at' place run after told' over → WhereAlone (IsAlone at place run told) owners
alone_known at at' place run after told told' over Alone same_at same is below shows =
    alone_by at place run after told below
    (subst (λ (x : Over). ShowsOver at place run after told x) is
    (of_before at at' place told told' (λ recs. Shows run over (first_meeting rmap_form (blocks_in run) after recs)) same_at same shows))
alone_known at at' place run after told told' over Other same_at same is below shows = tt
alone_known at at' place run after told told' over (Met cause) same_at same is below shows = tt

-- ---- a run that is reaped

pub owned_freed : (P : Type 0) (result : Result Reap Stop) → IfOk result IsOwned → IfOk result (WhereFreed P)
owned_freed P (Ok (reaps.Done left true)) h = λ isnt. absurd (false≢true (sym isnt))
owned_freed P (Ok (reaps.Done left false)) h = absurd (false≢true h)
owned_freed P (Ok (reaps.Met cause)) h = tt
owned_freed P (Err e) h = tt

pub alone_freed : (P : Type 0) (result : Result Reap Stop) → P → IfOk result (WhereFreed P)
alone_freed P (Ok (reaps.Done left is_owned)) h = λ isnt. h
alone_freed P (Ok (reaps.Met cause)) h = tt
alone_freed P (Err e) h = tt

pub met_over : (at : Layout) (place : EditPlace) (run : LimboRun) (after : Option Key) (told : Option Contents) (cause : Cause) → ShowsOver at place run after told (Known (Met cause))
met_over at place run after None cause = tt
met_over at place run after (Some c) cause = λ recs blocks read. tt

-- nobody else was found, before the run was reaped
pub alone_at : (at at' : Layout) (place : EditPlace) (run : LimboRun) (told told' : Option Contents) (owners : Owners) → at' ≡ at → told' ≡ told → owners ≡ Alone → WhereAlone (IsAlone at' place run told') owners → IsAlone at place run told
alone_at at at' place run told told' owners same_at same is says =
    of_before at at' place told told' (AreOwn run) same_at same (subst (λ (o : Owners). WhereAlone (IsAlone at' place run told') o) is says)
