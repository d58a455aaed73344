-- A tree that is written anew is changed.
use Rattle.std.proofs.Common.{◌≡◌, ℕ, true, ◌++◌, ap, subst, ◌∙◌, inl, inr, arith}
use Rattle.std.specs.Prelude.{Option, is_some}
use Rattle.blk_device.specs.Contents.{Contents}
use Rattle.join_blocks.specs.Joins.{is_joined}
use Rattle.list_edit.specs.declared.edits.Edit.{Edit}
use Rattle.sblock.specs.Form.{Form}
use Rattle.tree_defs.specs.declared.site.Site.{Site}
use Rattle.tree_edit.specs.Edited.{IsEdited}
use Rattle.tree_edit.specs.Prepared.{Held}
use Rattle.tree_edit.proofs.BlockLemmas.{in_either, in_first, in_rest}
use Rattle.edit_place.specs.Changed.{IsChanged, IsSettled}
use Rattle.edit_place.proofs.NumberLemmas.{where_in, moved_back}

module _ {R K : Type 0} (form : Form R K) (site : Site) (how : Edit) (rec : R) (lsn : ℕ) (told : Option Contents) (old new : Held) (edit : IsEdited form site how rec lsn told old new) where
  -- what was joined is joined still
  stays : (at : ℕ) → is_joined old.joined.blocks at ≡ true → is_joined new.joined.blocks at ≡ true
  stays at was =
      elim (where_in site.first at (edit.before ++ edit.taken)) [
        | inl w ↦ subst (λ (x : ℕ). is_joined new.joined.blocks x ≡ true) w.2 (edit.joined w.0 (moved_back w.0 edit.after edit.left edit.before edit.taken (edit.once w.0) (in_either w.0 edit.before edit.taken w.1)))
        | inr none ↦ ap is_some (edit.others at (λ b there same. elim there [ inl x ↦ none b (in_first b edit.before edit.taken x) same | inr y ↦ none b (in_rest b edit.before edit.taken y) same ])) ∙ was
      ]

  anew_is_settled : IsSettled old new
  anew_is_settled = record {
    taken = edit.taken;
    kept = edit.kept;
    left = edit.left;
    front = edit.front;
    list = edit.list;
    limbo = edit.limbo;
    marked = edit.marked;
    stay = stays;
    room = omega (arith, edit.count, edit.room);
  }

  pub anew_is_changed : IsChanged form site how rec lsn told old new
  unfolding anew_is_settled
  anew_is_changed = record {
    settled = anew_is_settled;
    recs = edit.recs;
    records = edit.records;
    before = edit.before;
    after = edit.after;
    edits = edit.edits;
    was = edit.was;
    is = edit.is;
    once = edit.once;
    others = edit.others;
    stamped = edit.stamped;
    left_stays = edit.left_stays;
  }
