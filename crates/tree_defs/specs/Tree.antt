-- What a walk of a tree reads: its records and blocks, or the first fault in walk order with its
-- block. Blocks are group-relative, and an image of a group gives the bytes of each.
use Rattle.std.specs.Prelude.{ℕ, zero, suc, ◌+◌, ◌-◌, ◌*◌, ◌==◌, nat_lt, nat_le, Bool, true, false, ◌&&◌, ◌||◌, not, if◌then◌else◌, List, [], ◌∷◌, ◌++◌, length, replicate, slice_index, slice_set, slice_get, Option, Some, None, Result, Ok, Err}
use Rattle.sblock.specs.Area.{area_of, child_of}
use Rattle.sblock.specs.Blocks.{numrecs, block_fault, records_of}
use Rattle.sblock.specs.Form.{Form, same_key}
use Rattle.sblock.specs.Headers.{no_block, right_of}
use Rattle.sblock.specs.Kinds.{has_high_keys_of}
use Rattle.sblock.specs.Lists.{items_from}
use Rattle.sblock.specs.Spans.{join, span_of}
use Rattle.sblock.specs.declared.block.BlockFault.{BlockFault}
use Rattle.sblock.specs.declared.block.BlockFault.TheVariants as faults
use Rattle.sblock.specs.declared.block.BlockFault.TheVariants.{Magic, Level, Count, Sibling, Place, Owner, Uuid, Checksum, Order, Key, Range, Later}
use Rattle.sblock.specs.declared.block.Want.{Want}
use Rattle.sblock.specs.declared.kind.Kind.{Kind}
use Rattle.tree_defs.specs.declared.site.Site.{Site}
use Rattle.sblock.specs.declared.spans.Span.{Span}

-- what a block of a group is to be
abbrev pub want_of : Kind → Site → ℕ → Bool → ℕ → ℕ → Want
want_of kind site level root left p = record {
  kind = kind;
  level = level;
  root = root;
  left = left;
  place = 8 * (site.first + p);
  group = site.group;
  bounds = site.bounds;
  uuid = site.uuid;
}

-- What a walk has read so far; on each level, the block that was read last and its right sibling.
pub record Trail (R : Type 0) : Type 0 where
  pub before : List ℕ
  pub next : List ℕ
  pub recs : List R
  pub blocks : List ℕ

abbrev pub fresh : {R : Type 0} → Trail R
fresh = record { before = replicate 9 no_block; next = replicate 9 no_block; recs = []; blocks = [] }

-- a block was read, and then these records of it
unfoldable pub noted : {R : Type 0} → Trail R → ℕ → ℕ → List ℕ → Trail R
noted t level p bytes = record { before = slice_set t.before level p; next = slice_set t.next level (right_of bytes); recs = t.recs; blocks = t.blocks ++ p ∷ [] }

unfoldable pub with_recs : {R : Type 0} → Trail R → List R → Trail R
with_recs t rs = record { before = t.before; next = t.next; recs = t.recs ++ rs; blocks = t.blocks }

-- where the tests of a block stand in their order
abbrev pub turn_of : BlockFault → ℕ
turn_of Magic = 1
turn_of Level = 2
turn_of Count = 3
turn_of Sibling = 4
turn_of Place = 5
turn_of Owner = 6
turn_of Uuid = 7
turn_of Checksum = 8
turn_of Order = 9
turn_of Key = 10
turn_of Range = 11
turn_of Later = 12

-- the fault whose test comes first
abbrev pub sooner : Option BlockFault → Option BlockFault → Option BlockFault
sooner None b = b
sooner (Some a) None = Some a
sooner (Some a) (Some b) = if nat_lt (turn_of b) (turn_of a) then Some b else Some a

-- the block read before on this level, if any, names this one as its right sibling
unfoldable pub sibling_fault : {R : Type 0} → Trail R → ℕ → ℕ → Option BlockFault
sibling_fault t level p =
    if slice_index t.before level == no_block || slice_index t.next level == p then None else Some faults.Sibling

-- the last block of the lowest level that has a right sibling there; n levels are asked
unfoldable pub open_end : {R : Type 0} → Trail R → ℕ → ℕ → Option ℕ
open_end t level zero = None
open_end t level (suc n) =
    if slice_index t.next level == no_block then open_end t (level + 1) n else Some (slice_index t.before level)

-- The level of a root by the head's count of levels. One of no tree is a level that no block has.
abbrev pub top_of : ℕ → ℕ
top_of levels = if nat_le 1 levels && nat_le levels 9 then levels - 1 else 9

-- an entry of a node: what its keys are to be, and its block
pub record Entry (K : Type 0) : Type 0 where
  pub low : K
  pub high : K
  pub child : ℕ

-- a subtree: what is read with it, and its keys; or the first fault with its block
abbrev pub Read : Type 0 → Type 0 → Type 0
Read R K = Result (Trail R × Option (Span K)) (ℕ × BlockFault)

-- a block's own tests come first
abbrev pub tested : {A : Type 0} → Option BlockFault → ℕ → Result A (ℕ × BlockFault) → Result A (ℕ × BlockFault)
tested (Some fault) p read = Err (p, fault)
tested None p read = read

-- at the end no level's last block has a right sibling
abbrev pub closed : {R K : Type 0} → ℕ → Read R K → Result (List R × List ℕ) (ℕ × BlockFault)
closed levels (Err fault) = Err fault
closed levels (Ok read) =
    elim (open_end read.0 0 levels) [
      | Some p ↦ Err (p, faults.Sibling)
      | None ↦ Ok (read.0.recs, read.0.blocks)
    ]

module _ {R K : Type 0} (form : Form R K) where
  -- the record comes after the last one
  abbrev pub comes_after : Option R → R → Bool
  comes_after None r = true
  comes_after (Some q) r = form.is_before (form.key_of q) (form.key_of r)

  -- a leaf's first record comes after the last one of the leaf read before
  unfoldable pub order_fault : Trail R → ℕ → List ℕ → Option BlockFault
  order_fault t level bytes =
      if level == 0 && nat_le 1 (numrecs bytes) && not (comes_after (slice_get t.recs (length t.recs - 1)) (form.record_at (area_of bytes) 0)) then Some faults.Order else None

  -- the first test of a block, in its place in the tree, that fails
  unfoldable pub fault_here : Site → Trail R → ℕ → Bool → ℕ → List ℕ → Option BlockFault
  fault_here site t level root p bytes =
      sooner (block_fault form bytes (want_of form.kind site level root (slice_index t.before level) p)) (sooner (sibling_fault t level p) (order_fault t level bytes))

  abbrev pub entry_at : List ℕ → ℕ → Entry K
  entry_at area i = record { low = form.key_at area i; high = form.high_key_at area i; child = child_of form.kind area i }

  -- n entries of a node, from number i on
  unfoldable pub entries_from : List ℕ → ℕ → ℕ → List (Entry K)
  entries_from bytes i n = items_from (entry_at (area_of bytes)) n i

  -- an entry's keys are its subtree's: the low one, and the high one where the kind has it
  abbrev pub agrees : Entry K → Option (Span K) → Bool
  agrees e None = false
  agrees e (Some s) = same_key form e.low s.low && (not (has_high_keys_of form.kind) || same_key form e.high s.high)

  -- The subtrees of a node p one after another, each followed by the test of its keys. What is
  -- read of this node so far has the keys span.
  unfoldable pub read_children : (ℕ → Trail R → Read R K) → ℕ → List (Entry K) → Trail R → Option (Span K) → Read R K
  read_children below p [] t span = Ok (t, span)
  read_children below p (e ∷ es) t span =
      elim (below e.child t) [
        | Err fault ↦ Err fault
        | Ok read ↦ if agrees e read.1 then read_children below p es read.0 (join form span read.1) else Err (p, faults.Key)
      ]

  -- the subtree of a block
  unfoldable pub read_node : Site → (ℕ → List ℕ) → ℕ → Bool → ℕ → Trail R → Read R K
  read_node site m zero root p t =
      tested (fault_here site t 0 root p (m p)) p (Ok (with_recs (noted t 0 p (m p)) (records_of form (m p)), span_of form (records_of form (m p))))
  read_node site m (suc level) root p t =
      tested (fault_here site t (suc level) root p (m p)) p (read_children (read_node site m level false) p (entries_from (m p) 0 (numrecs (m p))) (noted t (suc level) p (m p)) None)

  -- a tree with this root and so many levels
  unfoldable pub read_tree : Site → (ℕ → List ℕ) → ℕ → ℕ → Result (List R × List ℕ) (ℕ × BlockFault)
  read_tree site m root levels =
      if nat_le 1 root && nat_lt root site.bounds.length then closed levels (read_node site m (top_of levels) true root fresh) else Err (root, faults.Range)
