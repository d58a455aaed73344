-- A tree leaf by leaf: the records above a key of the first leaf that has some, and with them those
-- of the leaf itself and of the nodes above it below which no record lies that isn't above the key.
use Rattle.std.specs.Prelude.{◌≡◌, ℕ, zero, suc, ◌+◌, ◌&&◌, ◌==◌, nat_le, nat_lt, Bool, true, false, if◌then◌else◌, List, [], ◌∷◌, ◌++◌, Option, Some, None, Result, Ok, Err, unwrap_or}
use Rattle.sblock.specs.Area.{area_of, child_of}
use Rattle.sblock.specs.Blocks.{numrecs, records_of}
use Rattle.sblock.specs.Form.{Form}
use Rattle.sblock.specs.declared.block.BlockFault.{BlockFault}
use Rattle.sblock.specs.declared.block.BlockFault.TheVariants as faults
use Rattle.tree_defs.specs.Claims.{lone_fault}
use Rattle.tree_defs.specs.Levels.{over, entries, recs_of}
use Rattle.tree_defs.specs.Tree.{tested, top_of, read_tree}
use Rattle.tree_defs.specs.declared.site.Site.{Site}
use Rattle.tree_find.specs.Next.{some_of, is_above, records_above, place_above, start_of}

-- the records of a leaf, if one was found, and the blocks that were met
abbrev pub Met : Type 0 → Type 0
Met R = Result (Option (List R) × List ℕ) (ℕ × BlockFault)

-- a block is met, or was met before
abbrev pub met_with : Bool → ℕ → List ℕ → List ℕ
met_with true p met = met ++ p ∷ []
met_with false p met = met

abbrev pub found_or : {R : Type 0} → Option (List R) → List ℕ → (List ℕ → Met R) → Met R
found_or None met go = go met
found_or (Some rs) met go = Ok (Some rs, met)

-- where no leaf was found, it goes on behind
abbrev pub then_behind : {R : Type 0} → Met R → (List ℕ → Met R) → Met R
then_behind (Err fault) go = Err fault
then_behind (Ok read) go = found_or read.0 read.1 go

abbrev pub as_met : {R : Type 0} → Result (List R × List ℕ) (ℕ × BlockFault) → Met R
as_met (Err fault) = Err fault
as_met (Ok read) = Ok (Some read.0, read.1)

abbrev pub or_no_records : {R : Type 0} → Met R → Result (List R × List ℕ) (ℕ × BlockFault)
or_no_records (Err fault) = Err fault
or_no_records (Ok read) = Ok (unwrap_or read.0 [], read.1)

-- of a leaf that is first met, all; else what lies above the key, if anything
abbrev pub leaf_piece : {R : Type 0} → Bool → List R → Option (List R)
leaf_piece true rs = Some rs
leaf_piece false rs = some_of rs

module _ {R K : Type 0} (form : Form R K) where
  -- no key of the block is at the key or before it
  abbrev pub is_first : Option K → Bool → List ℕ → Bool
  is_first after leaf bytes = place_above form after leaf (area_of bytes) (numrecs bytes) == 0

  -- the first leaf below a block of this level that isn't the root, with all blocks on the way
  unfoldable pub first_piece : Site → (ℕ → List ℕ) → Option K → ℕ → ℕ → List ℕ → Result (List R × List ℕ) (ℕ × BlockFault)
  first_piece site m after zero p met =
      tested (lone_fault form site zero false p (m p)) p (Ok (records_above form after (records_of form (m p)), met ++ p ∷ []))
  first_piece site m after (suc level) p met =
      tested (lone_fault form site (suc level) false p (m p)) p (first_piece site m after level (child_of form.kind (area_of (m p)) 0) (met ++ p ∷ []))

  -- the first leaf below a node's entry of this number, if it has one; its children are of this level
  unfoldable pub piece_behind : Site → (ℕ → List ℕ) → Option K → ℕ → List ℕ → ℕ → List ℕ → Met R
  piece_behind site m after level bytes i met =
      if nat_lt i (numrecs bytes) then as_met (first_piece site m after level (child_of form.kind (area_of bytes) i) met) else Ok (None, met)

  -- the leaf below this block
  unfoldable pub piece_below : Site → (ℕ → List ℕ) → Option K → ℕ → Bool → ℕ → List ℕ → Met R
  piece_below site m after zero root p met =
      tested (lone_fault form site zero root p (m p)) p (Ok (leaf_piece (is_first after true (m p)) (records_above form after (records_of form (m p))), met_with (is_first after true (m p)) p met))
  piece_below site m after (suc level) root p met =
      tested (lone_fault form site (suc level) root p (m p)) p (then_behind (piece_below site m after level false (child_of form.kind (area_of (m p)) (start_of form after (m p))) (met_with (is_first after false (m p)) p met)) (piece_behind site m after level (m p) (start_of form after (m p) + 1)))

  -- in a tree with this root and so many levels
  unfoldable pub piece_in : Site → (ℕ → List ℕ) → ℕ → ℕ → Option K → Result (List R × List ℕ) (ℕ × BlockFault)
  piece_in site m root levels after =
      if nat_le 1 root && nat_lt root site.bounds.length then or_no_records (piece_below site m after (top_of levels) true root []) else Err (root, faults.Range)

  -- ---- what the pieces are of a readable tree

  -- the key of the last of these records; where there are none, the key before
  abbrev pub key_behind : Option K → List R → Option K
  key_behind after [] = after
  key_behind after (r ∷ rs) = key_behind (Some (form.key_of r)) rs

  abbrev pub are_above : Option K → List R → Bool
  are_above after [] = true
  are_above after (r ∷ rs) = is_above form after r && are_above after rs

  -- The blocks below a block of this level, itself first, that lie over records above the key alone:
  -- those that no leaf up to the key has met.
  unfoldable pub unmet : (ℕ → List ℕ) → Option K → ℕ → ℕ → List ℕ
  unmet m after zero p = met_with (are_above after (records_of form (m p))) p []
  unmet m after (suc level) p = met_with (are_above after (recs_of form m (suc level) p)) p [] ++ over (unmet m after level) (entries form m p)

  -- Of these records the piece has the first ones above the key, and of the blocks that aren't met
  -- the first ones; what is left is what is left behind the last of its records.
  pub record IsPiece (m : ℕ → List ℕ) (level root : ℕ) (after : Option K) (recs rs : List R) (blocks : List ℕ) : Type 0 where
    pub records : records_above form after recs ≡ rs ++ records_above form (key_behind after rs) recs
    pub met : (rs ≡ [] → ⊥) → unmet m after level root ≡ blocks ++ unmet m (key_behind after rs) level root
    pub ended : rs ≡ [] → (records_above form after recs ≡ []) × (unmet m after level root ≡ blocks)

  abbrev pub PieceIn : Site → (ℕ → List ℕ) → ℕ → ℕ → Option K → List R → Type 0
  PieceIn site m root levels after recs =
      (rs : List R) × (blocks : List ℕ) × (piece_in site m root levels after ≡ Ok (rs, blocks)) × IsPiece m (top_of levels) root after recs rs blocks

  abbrev pub GivesPieces : Type 0
  GivesPieces = (site : Site) (m : ℕ → List ℕ) (root levels : ℕ) (recs : List R) (blocks : List ℕ) → read_tree form site m root levels ≡ Ok (recs, blocks) → (after : Option K) → PieceIn site m root levels after recs

  -- The pieces from a key on, n and a last one without records, in sum.
  abbrev pub AreInSum : Site → (ℕ → List ℕ) → ℕ → ℕ → ℕ → Option K → List R → List ℕ → Type 0
  AreInSum site m root levels zero after recs blocks = (recs ≡ []) × (piece_in site m root levels after ≡ Ok ([], blocks))
  AreInSum site m root levels (suc n) after recs blocks =
      (rs : List R) × (bs : List ℕ) × (more : List R) × (others : List ℕ) × (piece_in site m root levels after ≡ Ok (rs, bs)) × (rs ≡ [] → ⊥) × AreInSum site m root levels n (key_behind after rs) more others × (recs ≡ rs ++ more) × (blocks ≡ bs ++ others)

  -- From the first leaf on they are what a walk reads.
  abbrev pub SumsToWalk : Type 0
  SumsToWalk = (site : Site) (m : ℕ → List ℕ) (root levels : ℕ) (recs : List R) (blocks : List ℕ) → read_tree form site m root levels ≡ Ok (recs, blocks) → (n : ℕ) (rs : List R) (bs : List ℕ) → AreInSum site m root levels n None rs bs → (rs ≡ recs) × (bs ≡ blocks)
