-- Why an edit isn't prepared.
use Rattle.std.proofs.Common.{◌≡◌, ◌+◌, ◌∙◌, ℕ, List, length, Ok, Err, ap, subst, inl, inr}
use Rattle.byte_fields.specs.Steps.{StepCount}
use Rattle.std.specs.Prelude.{Option, Some, None, IfSome, Result, IfOk}
use Rattle.blk_device.specs.Contents.{Contents}
use Rattle.sblock.specs.Form.{Form}
use Rattle.tree_defs.specs.declared.site.Site.{Site}
use Rattle.list_edit.specs.Edits.{edited}
use Rattle.list_edit.specs.declared.edits.Edit.{Edit}
use Rattle.tree_defs.specs.Sites.{group_blocks}
use Rattle.tree_defs.specs.Tree.{read_tree}
use Rattle.blk_device.specs.declared.device.Region.TheVariants.{Image}
use Rattle.meta_txn.specs.Joined.{written}
use Rattle.tree_walk.specs.Trails.{AreSound, LieInside}
use Rattle.tree_edit.specs.Making.{IsReady, RefusesMaking}
use Rattle.tree_edit.specs.Plans.{RefusesList}
use Rattle.tree_edit.specs.Prepared.{Held, ReadsTo, IsPrepared, RefusesPrepared}
use Rattle.tree_edit.specs.declared.make.Made.{Made}
use Rattle.tree_edit.specs.Reads.{RefusesWalk, IsOfWalk}
use Rattle.tree_edit.specs.declared.fault.EditFault.{EditFault}
use Rattle.tree_edit.specs.declared.fault.EditFault.TheVariants.{Bad, Missing, Overlap, Short, TooLarge, Failed, Memory}

-- what holds of each content that is told
pub on_told : {P Q : Contents → Type 0} (told : Option Contents) → IfSome told P → ((c : Contents) → P c → Q c) → IfSome told Q
on_told None p f = tt
on_told (Some c) p f = f c p

module _ {R K : Type 0} (form : Form R K) (site : Site) (how : Edit) (rec : R) (told : Option Contents) (h : Held) where
  pub walk_refused : (fault : EditFault) → IsOfWalk fault → IfSome told (λ c. RefusesWalk (read_tree form site (group_blocks site (written (c Image) h.joined)) h.root h.levels) fault) → RefusesPrepared form site how rec told h fault
  walk_refused (Bad block fault) of why = on_told told why (λ c p. inl p)
  walk_refused Missing of why = absurd of
  walk_refused Overlap of why = absurd of
  walk_refused (Short have need) of why = absurd of
  walk_refused (TooLarge n) of why = absurd of
  walk_refused Failed of why = tt
  walk_refused Memory of why = tt

  module _ (recs : List R) (blocks : List ℕ) (was : IfSome told (λ c. ReadsTo form site c h recs blocks)) where
    pub list_refused : (fault : EditFault) → RefusesList (edited form how rec recs) fault → RefusesPrepared form site how rec told h fault
    list_refused (Bad block fault) why = absurd why
    list_refused Missing why = on_told told was (λ c p. (recs, blocks, p, why))
    list_refused Overlap why = on_told told was (λ c p. (recs, blocks, p, why))
    list_refused (Short have need) why = absurd why
    list_refused (TooLarge n) why = absurd why
    list_refused Failed why = absurd why
    list_refused Memory why = tt

    pub make_refused : (records : List R) → edited form how rec recs ≡ Ok records → (fault : EditFault) → RefusesMaking form site.bounds.length (length records) blocks h.listed fault → RefusesPrepared form site how rec told h fault
    make_refused records edits (Bad block fault) why = on_told told was (λ c p. inr (recs, records, blocks, p, edits, why))
    make_refused records edits Missing why = absurd why
    make_refused records edits Overlap why = absurd why
    make_refused records edits (Short have need) why = on_told told was (λ c p. (recs, records, blocks, p, edits, why))
    make_refused records edits (TooLarge n) why = absurd why
    make_refused records edits Failed why = absurd why
    make_refused records edits Memory why = tt

-- what was made is ready
pub is_prepared : {R K : Type 0} (form : Form R K) (site : Site) (how : Edit) (rec : R) (lsn : ℕ) (told : Option Contents) (h : Held) (recs records : List R) (before : List ℕ) (made_of : List R) (blocks : List ℕ) → made_of ≡ records → blocks ≡ before → IfSome told (λ c. ReadsTo form site c h recs before) → edited form how rec recs ≡ Ok records
    → AreSound form site.bounds records → LieInside site.bounds.length before → (start mid end : StepCount) → mid.reads ≡ start.reads + length before → mid.writes ≡ start.writes → mid.moves ≡ start.moves
    → (result : Result Made EditFault) → IfOk result (IsReady form site lsn made_of blocks h.listed) → IfOk result (λ made. end ≡ record mid { writes = mid.writes + length made.placed.items }) → IfOk result (IsPrepared form site how rec lsn told h start end)
is_prepared form site how rec lsn told h recs records before made_of blocks same_recs same_blocks was edits sound lie start mid end each unwritten unmoved (Err fault) ready counted = tt
is_prepared {R} form site how rec lsn told h recs records before made_of blocks same_recs same_blocks was edits sound lie start mid end each unwritten unmoved (Ok made) ready counted = record {
  recs = recs;
  records = records;
  before = before;
  was = was;
  edits = edits;
  sound = sound;
  lie = lie;
  ready = subst (λ (bs : List ℕ). IsReady form site lsn records bs h.listed made) same_blocks (subst (λ (rs : List R). IsReady form site lsn rs blocks h.listed made) same_recs ready);
  reads = ap (λ (s : StepCount). s.reads) counted ∙ each;
  writes = ap (λ (s : StepCount). s.writes) counted ∙ ap (λ (n : ℕ). n + length made.placed.items) unwritten;
  moves = ap (λ (s : StepCount). s.moves) counted ∙ unmoved;
}
