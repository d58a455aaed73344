-- What three edits leave alone.
use Rattle.std.proofs.Common.{◌≡◌, ◌≤◌, ◌+◌, ℕ, zero, suc, true, false, List, [], ◌∷◌, ◌++◌, take, refl, sym, ap, subst, ◌∙◌, inl, inr, arith, eqb-true, Result, Ok, Err}
use Rattle.std.specs.Prelude.{◌⊎◌, ◌==◌, if◌then◌else◌, Option, Some, unwrap_or, OnOk}
use Rattle.byte_fields.specs.Steps.{StepCount}
use Rattle.blk_device.specs.Contents.{Contents}
use Rattle.blk_device.specs.Reading.{EachBlock}
use Rattle.blk_device.specs.ReadingLaws.{keeps_on}
use Rattle.blk_device.specs.declared.device.Device.{Ghosts}
use Rattle.blk_device.specs.declared.device.Region.TheVariants.{Image}
use Rattle.ag_headers.specs.Ring.{FreeRing, entries}
use Rattle.redo_area.specs.Area.{Batch, Blocks}
use Rattle.meta_txn.specs.Joined.{Joined, empty, bytes_at, written}
use Rattle.sblock.specs.Form.{Form, IsLawful}
use Rattle.sblock.specs.declared.block.BlockFault.{BlockFault}
use Rattle.span_recs.specs.SpanLaws.{lawful_bno, lawful_cnt}
use Rattle.span_recs.specs.RefcountLaws.{lawful_refc}
use Rattle.span_recs.specs.Spans.{bno_form, cnt_form}
use Rattle.span_recs.specs.Refcounts.{refc_form}
use Rattle.span_recs.specs.declared.span.SpanRec.{SpanRec}
use Rattle.rmap_recs.specs.Rmap.{rmap_form}
use Rattle.rmap_recs.specs.RmapLaws.{lawful_rmap}
use Rattle.rmap_recs.specs.declared.records.RmapRec.{RmapRec}
use Rattle.ino_recs.specs.ChunkLaws.{lawful_ino, lawful_fino}
use Rattle.ino_recs.specs.Chunks.{ino_form, fino_form}
use Rattle.tree_defs.specs.Lists.{In, times}
use Rattle.geom.specs.Layout.{Layout}
use Rattle.tree_defs.specs.Sites.{group_blocks, site_of}
use Rattle.tree_defs.specs.Tree.{read_tree}
use Rattle.tree_defs.specs.declared.site.Site.{Site}
use Rattle.tree_defs.proofs.Stays.{stays_readable_lem}
use Rattle.tree_blocks.specs.declared.tree.TreeAt.{TreeAt}
use Rattle.edit_blocks.specs.Choice.{for_list}
use Rattle.list_edit.specs.declared.edits.Edit.{Edit}
use Rattle.list_edit.specs.declared.edits.Edit.TheVariants.{Insert, Remove}
use Rattle.tree_edit.specs.Device.{IsLeft}
use Rattle.tree_edit.specs.Edited.{IsEdited}
use Rattle.tree_edit.specs.Prepared.{Held}
use Rattle.test_three_trees.specs.Given.{AreApart, AreChanged, AreSpread, IsTouched, Stays}

-- ---- lists of blocks

met : (x : ℕ) → ◌≡◌ {A = ℕ} (if x == x then 1 else 0) 1
met x = grind arith

counted : (b : ℕ) (bs : List ℕ) → In b bs → 1 ≤ times b bs
counted b [] there = absurd there
counted b (c ∷ cs) (inl same) = let one : ◌≡◌ {A = ℕ} (if c == b then 1 else 0) 1 = subst (λ (n : ℕ). ◌≡◌ {A = ℕ} (if c == n then 1 else 0) 1) same (met c) in omega (arith, one)
counted b (c ∷ cs) (inr there) = let some = counted b cs there in omega (arith, some)

stands : (b : ℕ) (bs : List ℕ) → 1 ≤ times b bs → In b bs
stands b [] some = absurd (omega (arith, some))
stands b (c ∷ cs) some = (elim (c == b) as (λ t. (c == b) ≡ t → 1 ≤ (if t then 1 else 0) + times b cs → (c ≡ b) ⊎ In b cs) [
  | true ↦ λ is h. inl (eqb-true c b is)
  | false ↦ λ isnt h. inr (stands b cs (omega (arith, h)))
]) refl some

in_either : (b : ℕ) (xs ys : List ℕ) → In b (xs ++ ys) → In b xs ⊎ In b ys
in_either b [] ys there = inr there
in_either b (x ∷ xs) ys (inl same) = inl (inl same)
in_either b (x ∷ xs) ys (inr there) = on (in_either b xs ys there) where
  on : In b xs ⊎ In b ys → In b (x ∷ xs) ⊎ In b ys
  on (inl mine) = inl (inr mine)
  on (inr other) = inr other

in_first : (b : ℕ) (xs ys : List ℕ) → In b xs → In b (xs ++ ys)
in_first b [] ys there = absurd there
in_first b (x ∷ xs) ys (inl same) = inl same
in_first b (x ∷ xs) ys (inr there) = inr (in_first b xs ys there)

in_rest : (b : ℕ) (xs ys : List ℕ) → In b ys → In b (xs ++ ys)
in_rest b [] ys there = there
in_rest b (x ∷ xs) ys there = inr (in_rest b xs ys there)

in_taken : (b k : ℕ) (xs : List ℕ) → In b (take k xs) → In b xs
in_taken b zero xs there = absurd there
in_taken b (suc k) [] there = absurd there
in_taken b (suc k) (x ∷ xs) (inl same) = inl same
in_taken b (suc k) (x ∷ xs) (inr there) = inr (in_taken b k xs there)

-- a block that is left over was the tree's or is one that it took
from_either : (b : ℕ) (after left before taken : List ℕ) → times b after + times b left ≡ times b before + times b taken → In b left → In b before ⊎ In b taken
from_either b after left before taken once there = split (times b before) refl where
  split : (n : ℕ) → times b before ≡ n → In b before ⊎ In b taken
  split zero e = let some = counted b left there in inr (stands b taken (omega (arith, some, once, e)))
  split (suc n) e = inl (stands b before (omega (arith, e)))

-- ---- one edit more

-- only blocks of T are joined, or have other bytes
abbrev pub OnlyIn : ℕ → (ℕ → Type 0) → Batch → Batch → Type 0
OnlyIn first T old new = (at : ℕ) → ((b : ℕ) → T b → first + b ≡ at → ⊥) → bytes_at at new ≡ bytes_at at old

abbrev blocks_in : {R : Type 0} → Result (List R × List ℕ) (ℕ × BlockFault) → List ℕ
blocks_in (Ok read) = read.1
blocks_in (Err fault) = []

-- no joined block has another's bytes
same_at : (image : Blocks) (old new : Joined) (at : ℕ) → bytes_at at new.blocks ≡ bytes_at at old.blocks → written image new at ≡ written image old at
same_at image old new at same = ap (λ (o : Option (List ℕ)). unwrap_or o (image at)) same

module _ {R K : Type 0} (form : Form R K) (law : IsLawful form) (site : Site) (image : Blocks) (T : ℕ → Type 0) (start old new : Joined) (only : OnlyIn site.first T start.blocks old.blocks) where
  -- a tree with none of these blocks is read as before
  pub reads_on : (root levels : ℕ) (recs : List R) (blocks : List ℕ) → read_tree form site (group_blocks site (written image start)) root levels ≡ Ok (recs, blocks) → AreApart (λ b. In b blocks) T → read_tree form site (group_blocks site (written image old)) root levels ≡ Ok (recs, blocks)
  reads_on root levels recs blocks read apart =
      stays_readable_lem form law site (group_blocks site (written image start)) (group_blocks site (written image old)) root levels recs blocks read
      (λ p there. same_at image start old (site.first + p) (only (site.first + p) (λ b touched same. let is : b ≡ p = omega (arith, same) in apart p there (subst T is touched))))

module _ {R K : Type 0} (form : Form R K) (law : IsLawful form) (site : Site) (how : Edit) (rec : R) (lsn : ℕ) (c : Contents) (T : ℕ → Type 0) (start : Joined) (old new : Held) (edit : IsEdited form site how rec lsn (Some c) old new) where
  module _ (only : OnlyIn site.first T start.blocks old.joined.blocks) (listed : (b : ℕ) → In b old.listed → T b) (recs : List R) (blocks : List ℕ) (read : read_tree form site (group_blocks site (written (c Image) start)) old.root old.levels ≡ Ok (recs, blocks)) (apart : AreApart (λ b. In b blocks) T) where
    before_is : edit.before ≡ blocks
    before_is = ap (λ (r : Result (List R × List ℕ) (ℕ × BlockFault)). blocks_in r) (sym edit.was ∙ reads_on form law site (c Image) T start old.joined old.joined only old.root old.levels recs blocks read apart)

    taken_in : (b : ℕ) → In b edit.taken → T b
    taken_in b there = listed b (subst (In b) (sym edit.front) (in_first b edit.taken edit.kept there))

    either_in : (b : ℕ) → In b edit.before ⊎ In b edit.taken → T b ⊎ In b blocks
    either_in b (inl mine) = inr (subst (In b) before_is mine)
    either_in b (inr there) = inl (taken_in b there)

    pub only_on : OnlyIn site.first (λ b. T b ⊎ In b blocks) start.blocks new.joined.blocks
    only_on at none = edit.others at (λ b there same. none b (either_in b there) same) ∙ only at (λ b touched same. none b (inl touched) same)

    pub listed_on : (b : ℕ) → In b new.listed → T b ⊎ In b blocks
    listed_on b there = by_part (in_either b edit.kept (for_list edit.kept edit.left) (subst (In b) edit.list there)) where
      by_part : In b edit.kept ⊎ In b (for_list edit.kept edit.left) → T b ⊎ In b blocks
      by_part (inl kept) = inl (listed b (subst (In b) (sym edit.front) (in_rest b edit.taken edit.kept kept)))
      by_part (inr left) = either_in b (from_either b edit.after edit.left edit.before edit.taken (edit.once b) (in_taken b _ edit.left left))

-- ---- all three

module _ (site : Site) (run : SpanRec) (owned : RmapRec) (c : Contents) (bno cnt rmap : TreeAt) (list : FreeRing) (txn : Joined) (changed : AreChanged site run owned (Some c) bno cnt rmap empty list txn) (spread : AreSpread site (c Image) bno cnt rmap (entries list)) where
  abbrev T0 : ℕ → Type 0
  T0 b = In b (entries list)

  abbrev T1 : ℕ → Type 0
  T1 b = T0 b ⊎ In b spread.by_start

  abbrev T2 : ℕ → Type 0
  T2 b = T1 b ⊎ In b spread.by_count

  only0 : OnlyIn site.first T0 empty.blocks empty.blocks
  only0 at none = refl

  only1 : OnlyIn site.first T1 empty.blocks changed.first.joined.blocks
  only1 = only_on bno_form lawful_bno site _ run bno.lsn c T0 empty _ changed.first changed.by_start.1 only0 (λ b there. there) spread.bno_has.0 spread.by_start spread.bno_has.1 spread.bno_apart

  listed1 : (b : ℕ) → In b changed.first.listed → T1 b
  listed1 = listed_on bno_form lawful_bno site _ run bno.lsn c T0 empty _ changed.first changed.by_start.1 only0 (λ b there. there) spread.bno_has.0 spread.by_start spread.bno_has.1 spread.bno_apart

  only2 : OnlyIn site.first T2 empty.blocks changed.second.joined.blocks
  only2 = only_on cnt_form lawful_cnt site _ run cnt.lsn c T1 empty _ changed.second changed.by_count.1 only1 listed1 spread.cnt_has.0 spread.by_count spread.cnt_has.1 spread.cnt_apart

  listed2 : (b : ℕ) → In b changed.second.listed → T2 b
  listed2 = listed_on cnt_form lawful_cnt site _ run cnt.lsn c T1 empty _ changed.second changed.by_count.1 only1 listed1 spread.cnt_has.0 spread.by_count spread.cnt_has.1 spread.cnt_apart

  only3 : OnlyIn site.first (IsTouched site spread) empty.blocks changed.third.joined.blocks
  only3 = only_on rmap_form lawful_rmap site _ owned rmap.lsn c T2 empty _ changed.third changed.owners.1 only2 listed2 spread.rmap_has.0 spread.owners spread.rmap_has.1 spread.rmap_apart

  only : OnlyIn site.first (IsTouched site spread) empty.blocks txn.blocks
  only at none = ap (λ (t : Joined). bytes_at at t.blocks) changed.joined ∙ only3 at none

  pub stays : Stays site (c Image) (written (c Image) txn) (IsTouched site spread)
  stays = record {
    others = λ at none. same_at (c Image) empty txn at (only at none);
    counts = reads_on refc_form lawful_refc site (c Image) (IsTouched site spread) empty txn txn only;
    inodes = reads_on ino_form lawful_ino site (c Image) (IsTouched site spread) empty txn txn only;
    free_inodes = reads_on fino_form lawful_fino site (c Image) (IsTouched site spread) empty txn txn only;
  }

-- an image that isn't changed
pub stays_same : (site : Site) (image : Blocks) (Touched : ℕ → Type 0) → Stays site image image Touched
stays_same site image Touched = record {
  others = λ at none. refl;
  counts = λ root levels recs blocks read apart. read;
  inodes = λ root levels recs blocks read apart. read;
  free_inodes = λ root levels recs blocks read apart. read;
}

-- what two runs of calls leave of the device
pub left_then : {D : Type 0} (g : Ghosts D) (only_now : (d : D) (c : Contents) → g.may_have_held_since d (g.clock d) c → g.may_hold_now d c) (counts_now : (d : D) (t : ℕ) (c : Contents) → t ≤ g.clock d → g.may_hold_now d c → g.may_have_held_since d t c) (old mid new : D) (before between after : StepCount)
    → IsLeft g old mid before between → IsLeft g mid new between after → IsLeft g old new before after
left_then g only_now counts_now old mid new before between after first second = record {
  same = second.same ∙ first.same;
  sizes = second.sizes ∙ first.sizes;
  later = omega (arith, first.later, second.later);
  crash = keeps_on g only_now counts_now EachBlock old mid new first.crash second.crash;
  counted = omega (arith, first.counted, second.counted);
  writes = omega (arith, first.writes, second.writes);
  moves = second.moves ∙ first.moves;
}

-- an edit of the same group and content, told with other names
pub edit_at : {R K : Type 0} (form : Form R K) (at : Layout) (how : Edit) (rec : R) (lsn g g' : ℕ) (told told' : Option Contents) (old new : Held) → g ≡ g' → told ≡ told' → IsEdited form (site_of at g) how rec lsn told old new → IsEdited form (site_of at g') how rec lsn told' old new
edit_at form at how rec lsn g g' told told' old new same kept edit =
    subst (λ (t : Option Contents). IsEdited form (site_of at g') how rec lsn t old new) kept
    (subst (λ (n : ℕ). IsEdited form (site_of at n) how rec lsn told old new) same edit)

pub are_changed : (site : Site) (run : SpanRec) (owned : RmapRec) (told : Option Contents) (bno cnt rmap : TreeAt) (txn : Joined) (list : FreeRing) (limbo : List ℕ) (first second third : Held) (by_count owners : List ℕ)
    → IsEdited bno_form site Remove run bno.lsn told (record { root = bno.root; levels = bno.levels; joined = txn; listed = entries list; limbo = limbo }) first
    → IsEdited cnt_form site Remove run cnt.lsn told (record { root = cnt.root; levels = cnt.levels; joined = first.joined; listed = first.listed; limbo = by_count }) second
    → IsEdited rmap_form site Insert owned rmap.lsn told (record { root = rmap.root; levels = rmap.levels; joined = second.joined; listed = second.listed; limbo = owners }) third
    → AreChanged site run owned told bno cnt rmap txn list third.joined
are_changed site run owned told bno cnt rmap txn list limbo first second third by_count owners one two three = record {
  first = first;
  second = second;
  third = third;
  by_start = (limbo, one);
  by_count = (by_count, two);
  owners = (owners, three);
  joined = refl;
}

pub on_ok : {T E : Type 0} {P Q : Type 0} (result : Result T E) → (P → Q) → OnOk result P → OnOk result Q
on_ok (Ok x) f p = f p
on_ok (Err e) f p = tt
