-- One part of a state put in place of what it was.
use Rattle.std.specs.Prelude.{ℕ, Bool, true, false, ◌==◌, nat_le, nat_lt, ◌+◌, ◌&&◌, ◌/◌, List, [], ◌∷◌, Option, Some, None, Result, Ok, if◌then◌else◌}
use Rattle.dinode_core.specs.declared.mapping.Fork.{Fork}
use Rattle.dinode_core.specs.declared.mapping.Fork.TheVariants as forks
use Rattle.dinode_core.specs.declared.mapping.ForkFault.{ForkFault}
use Rattle.fs_model.specs.declared.unit.Trust.{Trust}
use Rattle.fs_model.specs.declared.unit.Trust.TheVariants.{Unknown, Good, Sick}
use Rattle.geom.specs.Layout.{split_of}
use Rattle.sblock.specs.declared.kind.Kind.{Kind}
use Rattle.sblock.specs.declared.kind.Kind.TheVariants.{Bno, Cnt, Rmap, Refc, Ino, Fino}
use Rattle.fs_state.specs.Group.{is_among}
use Rattle.fs_state.specs.Kinds.{RecOf}
use Rattle.fs_state.specs.State.{State, Group, Index, Reading, Readable, Unreadable, CoreState, ForkList, recs_of}
use Rattle.fs_state.specs.declared.intent.Intent.{Intent}

-- the function, but x at k
abbrev pub at_only : {X : Type 0} → ℕ → X → (ℕ → X) → ℕ → X
at_only k x f i = if i == k then x else f i

abbrev pub in_group : ℕ → (Group → Group) → State → State
in_group g f a = record a { group = at_only g (f (a.group g)) a.group }

abbrev pub set_chain : ℕ → List Intent → State → State
set_chain c intents a = record a { chains = at_only c intents a.chains }

abbrev pub set_core : ℕ → Option CoreState → State → State
set_core ino core a = record a { core = at_only ino core a.core }

abbrev pub data_only : Result ForkList ForkFault → (Fork → Result ForkList ForkFault) → Fork → Result ForkList ForkFault
data_only list f forks.Data = list
data_only list f forks.Attr = f forks.Attr

abbrev pub set_data : ℕ → Result ForkList ForkFault → State → State
set_data ino list a = record a { fork = at_only ino (data_only list (a.fork ino)) a.fork }

-- ---- trees

-- the six trees, but this one at its kind
abbrev pub tree_only : (k : Kind) → Index (RecOf k) → ((j : Kind) → Index (RecOf j)) → (j : Kind) → Index (RecOf j)
tree_only Bno i f Bno = i
tree_only Cnt i f Cnt = i
tree_only Rmap i f Rmap = i
tree_only Refc i f Refc = i
tree_only Ino i f Ino = i
tree_only Fino i f Fino = i
tree_only k i f j = f j

abbrev pub change_tree : (k : Kind) → (Index (RecOf k) → Index (RecOf k)) → Group → Group
change_tree k f p = record p { tree = tree_only k (f (p.tree k)) p.tree }

-- the same tree with these records, and in these blocks
abbrev pub with_recs : {R : Type 0} → List R → Reading R → Reading R
with_recs recs (Readable old blocks) = Readable recs blocks
with_recs recs (Unreadable block fault claims) = Unreadable block fault claims

abbrev pub in_blocks : {R : Type 0} → List ℕ → Reading R → Reading R
in_blocks blocks (Readable recs old) = Readable recs blocks
in_blocks blocks (Unreadable block fault claims) = Unreadable block fault blocks

abbrev pub set_blocks : Kind → List ℕ → Group → Group
set_blocks k blocks p = change_tree k (λ i. record i { reading = in_blocks blocks i.reading }) p

-- these trees in these blocks
abbrev pub in_trees : (Kind → List ℕ) → List Kind → Group → Group
in_trees blocks [] p = p
in_trees blocks (k ∷ ks) p = set_blocks k (blocks k) (in_trees blocks ks p)

abbrev pub set_trust : Trust → Kind → Group → Group
set_trust t k p = change_tree k (λ i. record i { trust = t }) p

abbrev pub set_trusts : Trust → List Kind → Group → Group
set_trusts t [] p = p
set_trusts t (k ∷ ks) p = set_trust t k (set_trusts t ks p)

abbrev pub is_sick : Trust → Bool
is_sick Sick = true
is_sick Unknown = false
is_sick Good = false

abbrev pub sick_in : Group → Kind → Bool
sick_in p k = is_sick (p.tree k).trust

abbrev pub records_in : Group → (k : Kind) → List (RecOf k)
records_in p k = recs_of (p.tree k).reading

-- Does an event edit the tree? A sick one is left as it is, and so is one whose edit met a fault.
abbrev pub is_edited : List Kind → Group → Kind → Bool
is_edited left p k = if sick_in p k then false else if is_among k left then false else true

-- the tree's records changed so, where it is edited
abbrev pub edit : List Kind → (k : Kind) → (List (RecOf k) → List (RecOf k)) → Group → Group
edit left k f p = if is_edited left p k then change_tree k (λ i. record i { reading = with_recs (f (recs_of i.reading)) i.reading }) p else p

-- ---- the cores of some blocks

abbrev pub is_place : ℕ → ℕ → ℕ → Option (ℕ × ℕ) → Bool
is_place g b n None = false
is_place g b n (Some p) = (p.0 == g) && (nat_le b p.1 && nat_lt p.1 (b + n))

-- the inode's place is in one of the n blocks of the group from b on
abbrev pub stands_in : State → ℕ → ℕ → ℕ → ℕ → Bool
stands_in a g b n ino = is_place g b n (split_of a.geometry (ino / 8))

abbrev pub no_forks : Fork → Result ForkList ForkFault
no_forks f = Ok (record { mappings = []; blocks = [] })

-- all inodes there have this core, and no mappings
abbrev pub set_cores : ℕ → ℕ → ℕ → Option CoreState → State → State
set_cores g b n core a = record a {
  core = λ ino. if stands_in a g b n ino then core else a.core ino;
  fork = λ ino. if stands_in a g b n ino then no_forks else a.fork ino;
}
