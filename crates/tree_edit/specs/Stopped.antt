-- What a refused edit counts of its steps.
use Rattle.std.specs.Prelude.{◌≡◌, ◌⊎◌, ℕ, ◌+◌, ◌-◌, ◌≤◌, List, length, Option, IfSome, Ok}
use Rattle.byte_fields.specs.Steps.{StepCount}
use Rattle.blk_device.specs.Contents.{Contents}
use Rattle.blk_device.specs.declared.device.Region.TheVariants.{Image}
use Rattle.meta_txn.specs.Joined.{written}
use Rattle.sblock.specs.Form.{Form}
use Rattle.tree_defs.specs.Sites.{group_blocks}
use Rattle.tree_defs.specs.Walked.{walked}
use Rattle.tree_defs.specs.declared.site.Site.{Site}
use Rattle.list_edit.specs.Edits.{edited}
use Rattle.list_edit.specs.declared.edits.Edit.{Edit}
use Rattle.tree_edit.specs.Plans.{HasSize}
use Rattle.tree_edit.specs.Prepared.{Held, ReadsTo}
use Rattle.tree_edit.specs.declared.fault.EditFault.{EditFault}
use Rattle.tree_edit.specs.declared.fault.EditFault.TheVariants.{Bad, Missing, Overlap, Short, TooLarge, Failed, Memory}

module _ {R K : Type 0} (form : Form R K) (site : Site) where
  -- how many blocks of the tree a walk reads through the transaction: all, or those up to the first fault
  abbrev pub walk_of : Contents → Held → ℕ
  walk_of c h = walked form site (group_blocks site (written (c Image) h.joined)) h.root h.levels

  -- the tree was walked, and so many blocks were counted as read; or no more, where the walk was cut off
  abbrev pub HasWalked : Option Contents → Held → StepCount → StepCount → Type 0
  HasWalked told h before after = IfSome told (λ c. after.reads ≡ before.reads + walk_of c h)

  abbrev pub WalkedAtMost : Option Contents → Held → StepCount → StepCount → Type 0
  WalkedAtMost told h before after = IfSome told (λ c. after.reads ≤ before.reads + walk_of c h)

  module _ (how : Edit) (rec : R) where
    -- The tree was read and its list edited: each of its blocks was counted as read once, each that is to be joined at
    -- most once more, and no more blocks as written than the edited tree has.
    pub record IsLaid (told : Option Contents) (h : Held) (before after : StepCount) : Type 0 where
      pub recs : List R
      pub records : List R
      pub blocks : List ℕ
      pub levels : ℕ
      pub many : ℕ
      pub was : IfSome told (λ c. ReadsTo form site c h recs blocks)
      pub edits : edited form how rec recs ≡ Ok records
      pub size : HasSize form.kind (length records) levels many
      pub reads : after.reads ≤ before.reads + length blocks + (many + (length blocks - many))
      pub writes : after.writes ≤ before.writes + many

    -- What is counted, by the refusal: a bad tree is walked up to its fault, and the other refusals come after a whole
    -- walk; before the new tree is laid nothing is counted as written.
    abbrev pub CountsRefused : Option Contents → Held → StepCount → StepCount → EditFault → Type 0
    CountsRefused told h before after (Bad block fault) = HasWalked told h before after × (after.writes ≡ before.writes)
    CountsRefused told h before after Missing = HasWalked told h before after × (after.writes ≡ before.writes)
    CountsRefused told h before after Overlap = HasWalked told h before after × (after.writes ≡ before.writes)
    CountsRefused told h before after (Short have need) = HasWalked told h before after × (after.writes ≡ before.writes)
    CountsRefused told h before after (TooLarge n) = HasWalked told h before after × IsLaid told h before after
    CountsRefused told h before after Failed = (WalkedAtMost told h before after × (after.writes ≡ before.writes)) ⊎ IsLaid told h before after
    CountsRefused told h before after Memory = WalkedAtMost told h before after × ((after.writes ≡ before.writes) ⊎ IsLaid told h before after)

-- What joining counts as read, by its refusal: nothing before the first block, and then each block at most once.
abbrev pub StopsJoin : ℕ → ℕ → ℕ → EditFault → Type 0
StopsJoin most before after (Bad block fault) = ⊥
StopsJoin most before after Missing = ⊥
StopsJoin most before after Overlap = ⊥
StopsJoin most before after (Short have need) = ⊥
StopsJoin most before after (TooLarge n) = after ≡ before
StopsJoin most before after Failed = after ≤ before + most
StopsJoin most before after Memory = after ≡ before
