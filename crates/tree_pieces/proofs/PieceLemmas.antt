-- What reading a piece meets, block by block.
use Rattle.std.proofs.Common.{◌≡◌, ℕ, zero, suc, ◌+◌, ◌-◌, ◌<◌, ◌≤◌, Bool, true, false, List, [], ◌∷◌, ◌++◌, Option, Some, None, Result, Ok, Err, Vec, refl, subst, ◌∙◌, ap, arith}
use Rattle.std.specs.Prelude.{◌==◌, OnOk, IfOk, IfErr, IfSome, IfNone}
use Rattle.sblock.specs.Area.{area_of, child_of}
use Rattle.sblock.specs.Blocks.{numrecs, records_of}
use Rattle.sblock.specs.Form.{Form}
use Rattle.sblock.specs.declared.block.BlockFault.{BlockFault}
use Rattle.sblock.specs.declared.block.BlockFault.TheVariants.{Range}
use Rattle.sblock.specs.declared.block.Bounds.{Bounds}
use Rattle.tree_defs.specs.Claims.{lone_fault}
use Rattle.tree_defs.specs.Tree.{top_of}
use Rattle.tree_defs.specs.declared.site.Site.{Site}
use Rattle.tree_blocks.specs.Meets.{Refuses, RefusesBlock, IsMemory}
use Rattle.tree_blocks.specs.declared.tree.WalkFault.{WalkFault}
use Rattle.tree_blocks.specs.declared.tree.WalkFault.TheVariants.{Bad, Failed, Memory}
use Rattle.tree_pieces.specs.Meets.{MeetsFirst, MeetsMet, MeetsPiece, GivesPiece}
use Rattle.tree_pieces.specs.Pieces.{met_with, then_behind, as_met, or_no_records, leaf_piece, is_first, first_piece, piece_behind, piece_below, piece_in, IsPiece}
use Rattle.tree_find.proofs.Facts.{same_some}
use Rattle.tree_find.proofs.FindLemmas.{lies_not, does_lie}
use Rattle.tree_find.specs.Next.{records_above, place_above, start_of, AreAbove}
use Rattle.tree_find.proofs.NextLemmas.{less, not_less}
use Rattle.tree_pieces.proofs.PieceLaw.{gives_pieces_lem}
use Rattle.tree_find.specs.Laws.{Holds}
use Rattle.sblock.specs.Form.{IsLawful}
use Rattle.tree_blocks.specs.declared.tree.TreeRead.{TreeRead}
use Rattle.tree_defs.proofs.Parts.{both_same}

pub sound_piece : {R K Z : Type 0} (form : Form R K) (bounds : Bounds) (after : Option K) (rs : List R) (result : Result (Option (Vec R Z)) WalkFault) → IfOk result (λ found. IfSome found (λ v. v.items ≡ rs)) → AreAbove form bounds after rs → IfOk result (λ found. IfSome found (λ v. AreAbove form bounds after v.items))
sound_piece form bounds after rs (Ok None) e sound = tt
sound_piece form bounds after rs (Ok (Some v)) e sound = rw e sound
sound_piece form bounds after rs (Err f) e sound = tt

-- a block is met by the place of the key among its own
pub is_met_by : {R K : Type 0} (form : Form R K) (after : Option K) (leaf : Bool) (p place : ℕ) (area : List ℕ) (n : ℕ) (bytes met now : List ℕ) → place ≡ place_above form after leaf area n → area ≡ area_of bytes → n ≡ numrecs bytes → now ≡ met_with (place == 0) p met → now ≡ met_with (is_first form after leaf bytes) p met
is_met_by form after leaf p place area n bytes met now e a c h =
    let same : place ≡ place_above form after leaf (area_of bytes) (numrecs bytes) = rw (a, c) at e in
    rw same at h

module _ {R K : Type 0} (form : Form R K) (site : Site) (m : ℕ → List ℕ) (after : Option K) where
  first_fails : (level p : ℕ) (met : List ℕ) (fault : BlockFault) → lone_fault form site level false p (m p) ≡ Some fault → first_piece form site m after level p met ≡ Err (p, fault)
  unfolding first_piece
  first_fails zero p met fault h = rw h refl
  first_fails (suc level) p met fault h = rw h refl

  pub first_refused : (level p : ℕ) (met : List ℕ) (fault : WalkFault) → RefusesBlock p (lone_fault form site level false p (m p)) fault → Refuses (first_piece form site m after level p met) fault
  first_refused level p met (Bad q f) h = first_fails level p met f h.1 ∙ rw (h.0) refl
  first_refused level p met Failed h = h
  first_refused level p met Memory h = h

  first_leaf : (level p : ℕ) (met now : List ℕ) (bytes : List ℕ) → level ≡ 0 → bytes ≡ m p → lone_fault form site level false p bytes ≡ None → now ≡ met ++ p ∷ [] → first_piece form site m after level p met ≡ Ok (records_above form after (records_of form bytes), now)
  unfolding first_piece
  first_leaf zero p met now bytes z e h n = rw (e, n) (rw (rw e at h) refl)
  first_leaf (suc level) p met now bytes z e h n = absurd (omega (arith, z))

  pub first_at_leaf : {Z : Type 0} (level p : ℕ) (met now : List ℕ) (bytes : List ℕ) (result : Result (Vec R Z) WalkFault) → level ≡ 0 → bytes ≡ m p → lone_fault form site level false p bytes ≡ None → now ≡ met ++ p ∷ [] → IfOk result (λ recs. recs.items ≡ records_above form after (records_of form bytes)) → IfErr result IsMemory → MeetsFirst (first_piece form site m after level p met) result now
  first_at_leaf level p met now bytes (Ok v) z e h n a b = first_leaf level p met now bytes z e h n ∙ rw a refl
  first_at_leaf level p met now bytes (Err f) z e h n a b = rw b tt

  first_node : (level p q : ℕ) (met now : List ℕ) (bytes : List ℕ) → 0 < level → bytes ≡ m p → lone_fault form site level false p bytes ≡ None → now ≡ met ++ p ∷ [] → q ≡ child_of form.kind (area_of bytes) 0 → first_piece form site m after level p met ≡ first_piece form site m after (level - 1) q now
  unfolding first_piece
  first_node zero p q met now bytes pos e h n c = absurd (omega (arith, pos))
  first_node (suc level) p q met now bytes pos e h n c = let s : suc level - 1 ≡ level = omega arith in rw (c, n, e, s) (rw (rw e at h) refl)

  pub first_by_child : {Z : Type 0} (level p q : ℕ) (met now end : List ℕ) (bytes : List ℕ) (result : Result (Vec R Z) WalkFault) → 0 < level → bytes ≡ m p → lone_fault form site level false p bytes ≡ None → now ≡ met ++ p ∷ [] → q ≡ child_of form.kind (area_of bytes) 0 → MeetsFirst (first_piece form site m after (level - 1) q now) result end → MeetsFirst (first_piece form site m after level p met) result end
  first_by_child level p q met now end bytes result pos e h n c below = rw (first_node level p q met now bytes pos e h n c) below

  module _ (level i : ℕ) (bytes : List ℕ) (met : List ℕ) where
    pub none_behind : numrecs bytes ≤ i → piece_behind form site m after level bytes i met ≡ Ok (None, met)
    unfolding piece_behind
    none_behind le = rw (not_less i (numrecs bytes) le) refl

    some_behind : (q : ℕ) → i < numrecs bytes → q ≡ child_of form.kind (area_of bytes) i → piece_behind form site m after level bytes i met ≡ as_met (first_piece form site m after level q met)
    unfolding piece_behind
    some_behind q lt c = rw (less i (numrecs bytes) lt, c) refl

    pub found_behind : (q : ℕ) (rs : List R) (end : List ℕ) → i < numrecs bytes → q ≡ child_of form.kind (area_of bytes) i → first_piece form site m after level q met ≡ Ok (rs, end) → piece_behind form site m after level bytes i met ≡ Ok (Some rs, end)
    found_behind q rs end lt c h = some_behind q lt c ∙ rw h refl

    pub bad_behind : (q : ℕ) (fault : WalkFault) → i < numrecs bytes → q ≡ child_of form.kind (area_of bytes) i → Refuses (first_piece form site m after level q met) fault → Refuses (piece_behind form site m after level bytes i met) fault
    bad_behind q (Bad x f) lt c h = some_behind q lt c ∙ rw h refl
    bad_behind q Failed lt c h = h
    bad_behind q Memory lt c h = h

  piece_fails : (level : ℕ) (root : Bool) (p : ℕ) (met : List ℕ) (fault : BlockFault) → lone_fault form site level root p (m p) ≡ Some fault → piece_below form site m after level root p met ≡ Err (p, fault)
  unfolding piece_below
  piece_fails zero root p met fault h = rw h refl
  piece_fails (suc level) root p met fault h = rw h refl

  pub piece_refused : (level : ℕ) (root : Bool) (p : ℕ) (met : List ℕ) (fault : WalkFault) → RefusesBlock p (lone_fault form site level root p (m p)) fault → Refuses (piece_below form site m after level root p met) fault
  piece_refused level root p met (Bad q f) h = piece_fails level root p met f h.1 ∙ rw (h.0) refl
  piece_refused level root p met Failed h = h
  piece_refused level root p met Memory h = h

  piece_leaf : (level : ℕ) (root : Bool) (p : ℕ) (met now : List ℕ) (bytes : List ℕ) → level ≡ 0 → bytes ≡ m p → lone_fault form site level root p bytes ≡ None → now ≡ met_with (is_first form after true bytes) p met → piece_below form site m after level root p met ≡ Ok (leaf_piece (is_first form after true bytes) (records_above form after (records_of form bytes)), now)
  unfolding piece_below
  piece_leaf zero root p met now bytes z e h n = rw (n, e) (rw (rw e at h) refl)
  piece_leaf (suc level) root p met now bytes z e h n = absurd (omega (arith, z))

  pub piece_at_leaf : {Z : Type 0} (level : ℕ) (root : Bool) (p : ℕ) (met now : List ℕ) (bytes : List ℕ) (result : Result (Option (Vec R Z)) WalkFault) → level ≡ 0 → bytes ≡ m p → lone_fault form site level root p bytes ≡ None → OnOk result (now ≡ met_with (is_first form after true bytes) p met) → IfOk result (λ found. IfNone found (leaf_piece (is_first form after true bytes) (records_above form after (records_of form bytes)) ≡ None)) → IfOk result (λ found. IfSome found (λ recs. leaf_piece (is_first form after true bytes) (records_above form after (records_of form bytes)) ≡ Some recs.items)) → IfErr result IsMemory → MeetsMet (piece_below form site m after level root p met) result now
  piece_at_leaf level root p met now bytes (Ok None) z e h n none some b = piece_leaf level root p met now bytes z e h n ∙ rw none refl
  piece_at_leaf level root p met now bytes (Ok (Some v)) z e h n none some b = piece_leaf level root p met now bytes z e h n ∙ rw some refl
  piece_at_leaf level root p met now bytes (Err f) z e h n none some b = rw b tt

  piece_node : (level : ℕ) (root : Bool) (p start q : ℕ) (met now : List ℕ) (bytes : List ℕ) → 0 < level → bytes ≡ m p → lone_fault form site level root p bytes ≡ None → now ≡ met_with (is_first form after false bytes) p met → start ≡ start_of form after bytes → q ≡ child_of form.kind (area_of bytes) start → piece_below form site m after level root p met ≡ then_behind (piece_below form site m after (level - 1) false q now) (piece_behind form site m after (level - 1) bytes (start + 1))
  unfolding piece_below
  piece_node zero root p start q met now bytes pos e h n b c = absurd (omega (arith, pos))
  piece_node (suc level) root p start q met now bytes pos e h n b c = let s : suc level - 1 ≡ level = omega arith in rw (c, b, n, e, s) (rw (rw e at h) refl)

  module _ (level : ℕ) (root : Bool) (p start q : ℕ) (met now : List ℕ) (bytes : List ℕ) (pos : 0 < level) (is : bytes ≡ m p) (pass : lone_fault form site level root p bytes ≡ None) (is_met : now ≡ met_with (is_first form after false bytes) p met) (begins : start ≡ start_of form after bytes) (child : q ≡ child_of form.kind (area_of bytes) start) where
    pub piece_found : {Z : Type 0} (found : Option (Vec R Z)) (v : Vec R Z) (end : List ℕ) → MeetsMet (piece_below form site m after (level - 1) false q now) (Ok found) end → found ≡ Some v → piece_below form site m after level root p met ≡ Ok (Some v.items, end)
    piece_found {Z} (Some u) v end below e = piece_node level root p start q met now bytes pos is pass is_met begins child ∙ rw below (ap (λ (w : Vec R Z). Ok (Some w.items, end)) (same_some e))
    piece_found None v end below e = cc

    pub piece_bad : (fault : WalkFault) → Refuses (piece_below form site m after (level - 1) false q now) fault → Refuses (piece_below form site m after level root p met) fault
    piece_bad (Bad x f) h = piece_node level root p start q met now bytes pos is pass is_met begins child ∙ rw h refl
    piece_bad Failed h = h
    piece_bad Memory h = h

    pub piece_next : {Z : Type 0} (found : Option (Vec R Z)) (result : Result (Option (Vec R Z)) WalkFault) (mid end : List ℕ) → MeetsMet (piece_below form site m after (level - 1) false q now) (Ok found) mid → found ≡ None → MeetsMet (piece_behind form site m after (level - 1) bytes (start + 1) mid) result end → MeetsMet (piece_below form site m after level root p met) result end
    piece_next None result mid end below e h = rw (piece_node level root p start q met now bytes pos is pass is_met begins child, below) h
    piece_next (Some u) result mid end below e h = cc

module _ {R K : Type 0} (form : Form R K) (site : Site) (m : ℕ → List ℕ) (after : Option K) (root levels : ℕ) where
  pub piece_outside : (1 ≤ root → root < site.bounds.length → ⊥) → piece_in form site m root levels after ≡ Err (root, Range)
  unfolding piece_in
  piece_outside h = rw (lies_not root site.bounds.length h) refl

  in_group : (level : ℕ) → 1 ≤ root → root < site.bounds.length → level ≡ top_of levels → piece_in form site m root levels after ≡ or_no_records (piece_below form site m after level true root [])
  unfolding piece_in
  in_group level some below e = rw (does_lie root site.bounds.length some below, e) refl

  pub piece_given : {Z : Type 0} (level : ℕ) (found : Option (Vec R Z)) (recs : Vec R Z) (met end : List ℕ) → 1 ≤ root → root < site.bounds.length → level ≡ top_of levels → met ≡ [] → MeetsMet (piece_below form site m after level true root met) (Ok found) end → IfSome found (λ v. recs.items ≡ v.items) → IfNone found (recs.items ≡ []) → piece_in form site m root levels after ≡ Ok (recs.items, end)
  piece_given level None recs met end some below e z read has none = in_group level some below e ∙ rw (rw z at read, none) refl
  piece_given level (Some v) recs met end some below e z read has none = in_group level some below e ∙ rw (rw z at read, has) refl

  pub piece_given_bad : (level : ℕ) (fault : WalkFault) (met : List ℕ) → 1 ≤ root → root < site.bounds.length → level ≡ top_of levels → met ≡ [] → Refuses (piece_below form site m after level true root met) fault → Refuses (piece_in form site m root levels after) fault
  piece_given_bad level (Bad x f) met some below e z h = in_group level some below e ∙ rw (rw z at h) refl
  piece_given_bad level Failed met some below e z h = h
  piece_given_bad level Memory met some below e z h = h

given_piece : {R K : Type 0} (form : Form R K) (m : ℕ → List ℕ) (root levels : ℕ) (after : Option K) (recs rs : List R) (bs : List ℕ) (result : Result (TreeRead R) WalkFault) → IsPiece form m (top_of levels) root after recs rs bs → MeetsPiece (Ok (rs, bs)) result → GivesPiece form m root levels after result recs
given_piece {R} form m root levels after recs rs bs (Ok v) piece met =
    let e = both_same {E = ℕ × BlockFault} rs v.recs.items bs v.blocks.items met in
    let P : List R → Type 0 = λ x. IsPiece form m (top_of levels) root after recs x v.blocks.items in
    let Q : List ℕ → Type 0 = λ y. IsPiece form m (top_of levels) root after recs rs y in
    subst P e.0 (subst Q e.1 piece)
given_piece form m root levels after recs rs bs (Err (Bad x f)) piece met = cc
given_piece form m root levels after recs rs bs (Err Failed) piece met = tt
given_piece form m root levels after recs rs bs (Err Memory) piece met = tt

-- an answer that meets the definition is right on a readable tree
pub right_piece : {R K : Type 0} (form : Form R K) → IsLawful form → (site : Site) (m : ℕ → List ℕ) (root levels : ℕ) (after : Option K) (result : Result (TreeRead R) WalkFault) → MeetsPiece (piece_in form site m root levels after) result → (recs : List R) → Holds form site m root levels recs → GivesPiece form m root levels after result recs
right_piece form law site m root levels after result met recs h =
    let g = gives_pieces_lem form law site m root levels recs h.0 h.1 after in
    given_piece form m root levels after recs g.0 g.1 result g.3 (rw g.2 at met)
