-- A btree that is read leaf by leaf: what was read so far, and what the leaves that are left make of it.
use Rattle.std.specs.Prelude.{◌≡◌, ⊤, ℕ, ◌<◌, List, ◌++◌, length, Option, None, Result, Ok, Err, IfOk}
use Rattle.sblock.specs.Form.{Form}
use Rattle.tree_blocks.specs.declared.tree.TreeRead.{TreeRead}
use Rattle.tree_defs.specs.Tree.{read_tree}
use Rattle.tree_defs.specs.declared.site.Site.{Site}
use Rattle.tree_find.specs.Next.{records_above}
use Rattle.tree_pieces.specs.Pieces.{AreInSum, key_behind}
use Rattle.inode_pass.specs.declared.stop.PassStop.{PassStop}
use Rattle.core_units.specs.declared.leaf.Leaf.{Leaf}
use Rattle.core_units.specs.declared.leaf.Leaf.TheVariants.{More, Last, Bad}

module _ {R K : Type 0} (form : Form R K) where
  -- the records that were read are the first ones of the list, up to their last key
  abbrev pub IsFront : List R → List R → Type 0
  IsFront recs read = recs ≡ read ++ records_above form (key_behind form None read) recs

  module _ (site : Site) (m : ℕ → List ℕ) (root levels : ℕ) where
    -- the pieces behind what was read, put behind it, are pieces of the whole from its first leaf on
    abbrev pub GoesOn : List R → List ℕ → Type 0
    GoesOn recs blocks =
        (n : ℕ) (more : List R) (others : List ℕ) → AreInSum form site m root levels n (key_behind form None recs) more others
        → (k : ℕ) × AreInSum form site m root levels k None (recs ++ more) (blocks ++ others)

    -- what one leaf more makes of a front of a tree with these records and blocks: a front again, or all of it
    abbrev pub MakesFront : List R → List ℕ → TreeRead R → Leaf → Type 0
    MakesFront recs blocks new More = GoesOn new.recs.items new.blocks.items
    MakesFront recs blocks new Last = (new.recs.items ≡ recs) × (new.blocks.items ≡ blocks)
    MakesFront recs blocks new (Bad block fault) = ⊥

    abbrev pub GathersLeaf : TreeRead R → TreeRead R → Result Leaf PassStop → Type 0
    GathersLeaf old new result =
        (recs : List R) (blocks : List ℕ) → read_tree form site m root levels ≡ Ok (recs, blocks) → GoesOn old.recs.items old.blocks.items
        → IfOk result (MakesFront recs blocks new)

-- the tree as it was read is the same
abbrev pub StaysRead : {R : Type 0} → TreeRead R → TreeRead R → Type 0
StaysRead old new = (new.recs.items ≡ old.recs.items) × (new.blocks.items ≡ old.blocks.items)

-- where more may be left, there is a record more
abbrev pub Grows : {R : Type 0} → TreeRead R → TreeRead R → Leaf → Type 0
Grows old new More = length old.recs.items < length new.recs.items
Grows old new Last = ⊤
Grows old new (Bad block fault) = ⊤
