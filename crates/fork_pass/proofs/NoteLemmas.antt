-- What the notes of a chunk's cores stand for: the forks of its inodes.
use Rattle.std.proofs.Common.{◌≡◌, ℕ, zero, suc, ◌+◌, ◌*◌, ◌/◌, ◌<◌, ◌≤◌, Bool, true, false, List, [], ◌∷◌, ◌++◌, length, get_or, map, filter, Option, Some, None, Ok, refl, ap, sym, subst, ◌∙◌, arith}
use Rattle.std.specs.List.{AllByRecursion}
use Rattle.std.specs.Option.{is_some, option_or}
use Rattle.std.specs.Prelude.{All, flat_map, not, ◌&&◌, ◌==◌, if◌then◌else◌}
use Rattle.std.proofs.lemmas.Bool.{and_parts, false≢true}
use Rattle.std.proofs.lemmas.Grind.{flat_map-append}
use Rattle.std.proofs.lemmas.List.{append-nil}
use Rattle.std.proofs.lemmas.List.Elements.{All-from_recursion, All-get_or}
use Rattle.dinode_core.specs.Core.{core_fault, core_of}
use Rattle.dinode_core.specs.ForkTree.{Image, fork_fault, is_tree, met_of, walk_fault}
use Rattle.dinode_core.specs.Frame.{fork_in}
use Rattle.dinode_core.specs.Inline.{first_bad, form_fault, inline_fault, inline_mappings}
use Rattle.dinode_core.specs.declared.inode.Core3.{Core3}
use Rattle.dinode_core.specs.declared.mapping.Fork.{Fork}
use Rattle.dinode_core.specs.declared.mapping.Fork.TheVariants as forks
use Rattle.dinode_core.specs.declared.mapping.ForkFault.{ForkFault}
use Rattle.dinode_core.specs.declared.mapping.Mapping.{Mapping}
use Rattle.fork_read.proofs.WholeLemmas.{else_parts}
use Rattle.fs_state.specs.Chunks.{chunks}
use Rattle.fs_state.specs.Contradiction.{bad_fork, bad_fork_of}
use Rattle.fs_state.specs.Lists.{first_of_all, numbers}
use Rattle.fs_model.specs.declared.claim.Evidence.{Evidence}
use Rattle.fs_state.specs.Apart.{is_chunk, is_listed, unit_verifies}
use Rattle.fs_state.specs.Inodes.{no_fork, slot_in}
use Rattle.fs_state.specs.State.{State}
use Rattle.geom.specs.Apart.{Splits}
use Rattle.geom.specs.Layout.{Layout, device_block_of, group_len_of, inode_at}
use Rattle.inode_pass.specs.Units.{opened_state}
use Rattle.inode_pass.specs.Notes.{block_notes, both_notes, blocks_notes, core_notes, fork_notes, joined_notes, notes_of, notes_or_block, shows, slot_notes, unit_notes}
use Rattle.inode_pass.specs.declared.note.ForkNote.{ForkNote}
use Rattle.inode_pass.specs.declared.note.ForkNote.TheVariants.{Mapping as MappingNote, Block}
use Rattle.unit_plan.specs.declared.claims.ClaimSet.{ClaimSet}
use Rattle.unit_plan.specs.declared.piece.Piece.{Piece}
use Rattle.fork_pass.specs.Passed.{InodesPassed, IsInChunk, NotesPassed, all_pieces, block_inodes, group_inodes, note_bad, note_pieces, unit_inodes}
use Rattle.fork_pass.specs.Pieces.{inode_pieces, mapping_pieces}
use Rattle.fork_pass.specs.Read.{slot_fork}
use Rattle.fork_pass.proofs.ForkLemmas.{core_number}
use Rattle.fork_pass.proofs.PassLemmas.{first_both, first_of_one}
use Rattle.fork_pass.proofs.SetLemmas.{adds_same}
use Rattle.fork_pass.proofs.StateLemmas.{fork_there, verified}

-- these notes show the same evidence and the same pieces as these inodes, and their blocks lie in chunks
record StandFor (a : State) (g : ℕ) (notes : List ForkNote) (inos : List ℕ) : Type 0 where
  pub bad : first_of_all (map (note_bad a g) notes) ≡ first_of_all (map (bad_fork a) inos)
  pub pieces : (h : ℕ) → flat_map (note_pieces a g h) notes ≡ all_pieces a inos h
  pub inside : AllByRecursion (IsInChunk a g) notes

module _ (a : State) (g : ℕ) where
  inside_both : (ms ns : List ForkNote) → AllByRecursion (IsInChunk a g) ms → AllByRecursion (IsInChunk a g) ns → AllByRecursion (IsInChunk a g) (ms ++ ns)
  inside_both [] ns own more = more
  inside_both (m ∷ ms) ns own more = (own.0, inside_both ms ns own.1 more)

  pub one_inside : (notes : List ForkNote) (i : ℕ) (d : ForkNote) → i < length notes → All (IsInChunk a g) notes → All (IsInChunk a g) (get_or notes i d ∷ [])
  one_inside notes i d lt all = All-from_recursion (IsInChunk a g) (get_or notes i d ∷ []) (All-get_or (IsInChunk a g) notes i d lt all, tt)

  stand_none : StandFor a g [] []
  stand_none = record { bad = refl; pieces = λ h. refl; inside = tt }

  stand_both : (ms ns : List ForkNote) (is js : List ℕ) → StandFor a g ms is → StandFor a g ns js → StandFor a g (ms ++ ns) (is ++ js)
  stand_both ms ns is js own more = record {
    bad = first_both (note_bad a g) ms ns ∙ (λ i. option_or (own.bad i) (more.bad i)) ∙ sym (first_both (bad_fork a) is js);
    pieces = λ h. flat_map-append (note_pieces a g h) ms ns ∙ (λ i. own.pieces h i ++ more.pieces h i) ∙ sym (flat_map-append (inode_pieces a h) is js);
    inside = inside_both ms ns own.inside more.inside;
  }

  -- so do those of a row of blocks
  stand_row : (f : ℕ → List ForkNote) (k : ℕ → List ℕ) (i n : ℕ) → ((j : ℕ) → i ≤ j → j < i + n → StandFor a g (f j) (k j)) → StandFor a g (flat_map f (numbers i n)) (flat_map k (numbers i n))
  stand_row f k i zero each = stand_none
  stand_row f k i (suc n) each =
      stand_both (f i) (flat_map f (numbers (i + 1) n)) (k i) (flat_map k (numbers (i + 1) n)) (each i (omega arith) (omega arith))
      (stand_row f k (i + 1) n (λ j le lt. each j (omega (arith, le)) (omega (arith, lt))))

  -- and of those units of a row that pass a test
  stand_some : (p : ℕ → Bool) (f : ℕ → List ForkNote) (k : ℕ → List ℕ) (i n : ℕ) → ((j : ℕ) → p j ≡ true → j < i + n → StandFor a g (f j) (k j)) → StandFor a g (flat_map f (filter p (numbers i n))) (flat_map k (filter p (numbers i n)))
  stand_some p f k i zero each = stand_none
  stand_some p f k i (suc n) each = by_test (p i) refl (stand_some p f k (i + 1) n (λ j kept lt. each j kept (omega (arith, lt))))
    where
      by_test : (b : Bool) → p i ≡ b → StandFor a g (flat_map f (filter p (numbers (i + 1) n))) (flat_map k (filter p (numbers (i + 1) n))) → StandFor a g (flat_map f (filter p (numbers i (suc n)))) (flat_map k (filter p (numbers i (suc n))))
      by_test true kept rest = rw kept (stand_both (f i) (flat_map f (filter p (numbers (i + 1) n))) (k i) (flat_map k (filter p (numbers (i + 1) n))) (each i kept (omega arith)) rest)
      by_test false out rest = rw out rest

  -- a block of a chunk stands for its inodes
  stand_block : (b : ℕ) → is_chunk a g (b / 8) ≡ true → StandFor a g (Block b ∷ []) (block_inodes a.geometry g b)
  stand_block b chunk = record {
    bad = first_of_one (first_of_all (map (bad_fork a) (block_inodes a.geometry g b)));
    pieces = λ h. append-nil (all_pieces a (block_inodes a.geometry g b) h);
    inside = (chunk, tt);
  }

  -- where its inodes are passed, so is the note
  pub block_passed : (b : ℕ) (d : ForkNote) (old new : List ClaimSet) (found : Option Evidence) → (is_chunk a g (b / 8) ≡ true → InodesPassed a (block_inodes a.geometry g b) old new found) → All (IsInChunk a g) (Block b ∷ []) → NotesPassed a g (Block b ∷ []) old new found
  block_passed b d old new found passed inside =
      let got = passed (All-get_or (IsInChunk a g) (Block b ∷ []) 0 d (omega arith) inside) in
      record {
        first = got.first ∙ sym (first_of_one (first_of_all (map (bad_fork a) (block_inodes a.geometry g b))));
        put = λ none. adds_same old new (all_pieces a (block_inodes a.geometry g b)) (λ h. flat_map (note_pieces a g h) (Block b ∷ [])) (λ h. sym (append-nil (all_pieces a (block_inodes a.geometry g b) h))) (got.put none);
      }

  -- ---- mappings of one inode

  mappings_claim : (ino h : ℕ) (f : Fork) (ms : List Mapping) → flat_map (note_pieces a g h) (map (MappingNote ino f) ms) ≡ mapping_pieces a.geometry f ino ms h
  mappings_claim ino h f [] = refl
  mappings_claim ino h f (m ∷ ms) = λ i. note_pieces a g h (MappingNote ino f m) ++ mappings_claim ino h f ms i

  mappings_good : (ino : ℕ) (f : Fork) (ms : List Mapping) → first_of_all (map (note_bad a g) (map (MappingNote ino f) ms)) ≡ None
  mappings_good ino f [] = refl
  mappings_good ino f (m ∷ ms) = mappings_good ino f ms

  mappings_inside : (ino : ℕ) (f : Fork) (ms : List Mapping) → AllByRecursion (IsInChunk a g) (map (MappingNote ino f) ms)
  mappings_inside ino f [] = tt
  mappings_inside ino f (m ∷ ms) = (tt, mappings_inside ino f ms)

  -- an inode whose forks have these mappings and no blocks
  stand_mappings : (ino : ℕ) (own attr : List Mapping) → a.fork ino forks.Data ≡ Ok (record { mappings = own; blocks = [] }) → a.fork ino forks.Attr ≡ Ok (record { mappings = attr; blocks = [] }) → StandFor a g (map (MappingNote ino forks.Data) own ++ map (MappingNote ino forks.Attr) attr) (ino ∷ [])
  stand_mappings ino own attr data_is attr_is = record {
    bad = first_both (note_bad a g) (map (MappingNote ino forks.Data) own) (map (MappingNote ino forks.Attr) attr)
        ∙ (λ i. option_or (mappings_good ino forks.Data own i) (mappings_good ino forks.Attr attr i))
        ∙ sym (first_of_one (bad_fork a ino) ∙ (λ i. option_or (bad_fork_of ino (data_is i)) (bad_fork_of ino (attr_is i))));
    pieces = λ h. flat_map-append (note_pieces a g h) (map (MappingNote ino forks.Data) own) (map (MappingNote ino forks.Attr) attr)
        ∙ (λ i. mappings_claim ino h forks.Data own i ++ mappings_claim ino h forks.Attr attr i)
        ∙ sym (append-nil (inode_pieces a h ino) ∙ rw (data_is, attr_is) (ap (λ (ps : List Piece). mapping_pieces a.geometry forks.Data ino own h ++ ps) (append-nil (mapping_pieces a.geometry forks.Attr ino attr h))));
    inside = inside_both (map (MappingNote ino forks.Data) own) (map (MappingNote ino forks.Attr) attr) (mappings_inside ino forks.Data own) (mappings_inside ino forks.Attr attr);
  }

-- ---- a fork that the inode shows

shown_whole : (at : Layout) (image : Image) (core : Core3) (f : Fork) → is_tree core f ≡ false → inline_fault at core f ≡ None → fork_in at image core f ≡ Ok (record { mappings = inline_mappings core f; blocks = [] })
unfolding fork_in fork_fault walk_fault met_of inline_fault
shown_whole at image core f own good =
    let parts = else_parts (form_fault core f) (first_bad at f (inline_mappings core f)) good in
    rw (own, parts.0, parts.1) refl

none_is : (o : Option ForkFault) → not (is_some o) ≡ true → o ≡ None
none_is None h = refl
none_is (Some fault) h = absurd (false≢true h)

not_is : (b : Bool) → not b ≡ true → b ≡ false
not_is true h = absurd (false≢true h)
not_is false h = refl

shown_list : (at : Layout) (image : Image) (core : Core3) (f : Fork) → shows at core f ≡ true → fork_in at image core f ≡ Ok (record { mappings = inline_mappings core f; blocks = [] })
unfolding shows
shown_list at image core f shown =
    let parts = and_parts (not (is_tree core f)) (not (is_some (inline_fault at core f))) shown in
    shown_whole at image core f (not_is (is_tree core f) parts.0) (none_is (inline_fault at core f) parts.1)

none_some : (ns : List ForkNote) → ◌≡◌ {A = Option (List ForkNote)} None (Some ns) → ⊥
none_some ns e = cc

some_same : (ms ns : List ForkNote) → ◌≡◌ {A = Option (List ForkNote)} (Some ms) (Some ns) → ms ≡ ns
some_same ms ns e = cc

module _ (at : Layout) (image : Image) (g : ℕ) where
  abbrev a : State
  a = opened_state at image

  free_stands : (ino : ℕ) (notes : List ForkNote) → a.fork ino forks.Data ≡ Ok no_fork → a.fork ino forks.Attr ≡ Ok no_fork → ◌≡◌ {A = Option (List ForkNote)} (Some []) (Some notes) → StandFor a g notes (ino ∷ [])
  free_stands ino notes data_is attr_is noted = subst (λ (ns : List ForkNote). StandFor a g ns (ino ∷ [])) (some_same [] notes noted) (stand_mappings a g ino [] [] data_is attr_is)

  used_stands : (ino : ℕ) (core : Core3) (notes : List ForkNote) → core.ino ≡ ino → ((f : Fork) → a.fork ino f ≡ fork_in at image core f) → core_notes at core ≡ Some notes → StandFor a g notes (ino ∷ [])
  unfolding core_notes
  used_stands ino core notes number forks_are noted = by_test (shows at core forks.Data && shows at core forks.Attr) refl
    where
      by_test : (b : Bool) → (shows at core forks.Data && shows at core forks.Attr) ≡ b → StandFor a g notes (ino ∷ [])
      by_test false h = absurd (none_some notes (rw h at noted))
      by_test true h =
          let parts = and_parts (shows at core forks.Data) (shows at core forks.Attr) h in
          let stands = stand_mappings a g ino (inline_mappings core forks.Data) (inline_mappings core forks.Attr) (forks_are forks.Data ∙ shown_list at image core forks.Data parts.0) (forks_are forks.Attr ∙ shown_list at image core forks.Attr parts.1) in
          let here = subst (λ (n : ℕ). StandFor a g (map (MappingNote n forks.Data) (inline_mappings core forks.Data) ++ map (MappingNote n forks.Attr) (inline_mappings core forks.Attr)) (ino ∷ [])) (sym number) stands in
          subst (λ (ns : List ForkNote). StandFor a g ns (ino ∷ [])) (some_same (fork_notes core forks.Data ++ fork_notes core forks.Attr) notes (rw h at noted)) here

  slot_stands : (ino : ℕ) (bytes : List ℕ) (notes : List ForkNote) → core_fault bytes ino at.uuid ≡ None → ((f : Fork) → a.fork ino f ≡ slot_fork at image bytes f) → slot_notes at ino bytes ≡ Some notes → StandFor a g notes (ino ∷ [])
  unfolding slot_notes
  slot_stands ino bytes notes whole forks_are noted = by_mode ((core_of bytes).mode == 0) refl (rw whole at noted)
    where
      by_mode : (b : Bool) → ((core_of bytes).mode == 0) ≡ b → (if (core_of bytes).mode == 0 then Some [] else core_notes at (core_of bytes)) ≡ Some notes → StandFor a g notes (ino ∷ [])
      by_mode true free noted =
          let none : (f : Fork) → slot_fork at image bytes f ≡ Ok no_fork = λ f. rw free refl in
          free_stands ino notes (forks_are forks.Data ∙ none forks.Data) (forks_are forks.Attr ∙ none forks.Attr) (rw free at noted)
      by_mode false used noted =
          let own : (f : Fork) → slot_fork at image bytes f ≡ fork_in at image (core_of bytes) f = λ f. rw used refl in
          used_stands ino (core_of bytes) notes (core_number ino bytes at.uuid whole) (λ f. forks_are f ∙ own f) (rw used at noted)

  -- the slots of a row, of which all are noted
  slots_stand : (f : ℕ → Option (List ForkNote)) (k : ℕ → ℕ) (i n : ℕ) (notes : List ForkNote) → ((s : ℕ) (ns : List ForkNote) → s < i + n → f s ≡ Some ns → StandFor a g ns (k s ∷ [])) → joined_notes (map f (numbers i n)) ≡ Some notes → StandFor a g notes (map k (numbers i n))
  slots_stand f k i zero notes each noted = subst (λ (ns : List ForkNote). StandFor a g ns []) (some_same [] notes noted) (stand_none a g)
  slots_stand f k i (suc n) notes each noted =
      by_parts (f i) (joined_notes (map f (numbers (i + 1) n))) refl refl (λ ns rest. slots_stand f k (i + 1) n ns (λ s xs lt. each s xs (omega (arith, lt))) rest) noted
    where
      by_parts : (o p : Option (List ForkNote)) → f i ≡ o → joined_notes (map f (numbers (i + 1) n)) ≡ p → ((ns : List ForkNote) → joined_notes (map f (numbers (i + 1) n)) ≡ Some ns → StandFor a g ns (map k (numbers (i + 1) n))) → both_notes (f i) (joined_notes (map f (numbers (i + 1) n))) ≡ Some notes → StandFor a g notes (k i ∷ map k (numbers (i + 1) n))
      by_parts None p own rest stand h = absurd (none_some notes (rw own at h))
      by_parts (Some ms) None own rest stand h = absurd (none_some notes (rw (own, rest) at h))
      by_parts (Some ms) (Some ns) own rest stand h =
          subst (λ (xs : List ForkNote). StandFor a g xs (k i ∷ map k (numbers (i + 1) n))) (some_same (ms ++ ns) notes (rw (own, rest) at h))
          (stand_both a g ms ns (k i ∷ []) (map k (numbers (i + 1) n)) (each i ms (omega arith) own) (stand ns rest))

  module _ (splits : Splits at) (gl : g < at.agcount) where
    block_stands : (b : ℕ) → b < group_len_of at g → is_chunk a g (b / 8) ≡ true → StandFor a g (block_notes at (image (device_block_of at g b)) g b) (block_inodes at g b)
    unfolding block_notes
    block_stands b bl chunk = by_notes (joined_notes (map slot (numbers 0 8))) refl
      where
        slot : ℕ → Option (List ForkNote)
        slot s = slot_notes at (inode_at at g b s) (slot_in (image (device_block_of at g b)) s)

        by_notes : (o : Option (List ForkNote)) → joined_notes (map slot (numbers 0 8)) ≡ o → StandFor a g (notes_or_block b (joined_notes (map slot (numbers 0 8)))) (block_inodes at g b)
        by_notes None h = rw h (stand_block a g b chunk)
        by_notes (Some notes) h =
            rw h (slots_stand slot (inode_at at g b) 0 8 notes (λ s ns lt noted. slot_stands (inode_at at g b s) (slot_in (image (device_block_of at g b)) s) ns (verified at image splits g b s gl bl lt chunk) (fork_there at image splits g b s gl bl lt chunk) noted) h)

    unit_stands : (u : ℕ) → 8 * u + 7 < group_len_of at g → is_chunk a g u ≡ true → StandFor a g (unit_notes at image g u) (unit_inodes at g u)
    unfolding unit_notes blocks_notes is_chunk
    unit_stands u ul chunk =
        let all = (and_parts (is_listed a g u) (unit_verifies at a.core g u) chunk).1 in
        rw all (stand_row a g (λ j. block_notes at (image (device_block_of at g (8 * u + j))) g (8 * u + j)) (λ j. block_inodes at g (8 * u + j)) 0 8
        (λ j le lt. let same : (8 * u + j) / 8 ≡ u = omega (arith, lt) in block_stands (8 * u + j) (omega (arith, ul, lt)) (ap (is_chunk a g) same ∙ chunk)))

    units_stand : StandFor a g (notes_of at image g (chunks a g)) (group_inodes at g (chunks a g))
    unfolding chunks
    units_stand =
        stand_some a g (is_chunk a g) (unit_notes at image g) (unit_inodes at g) 0 (group_len_of at g / 8) (λ u chunk lt. unit_stands u (omega (arith, lt)) chunk)

    -- where the notes of the chunks of a group are passed, so are their inodes
    pub group_passed : (units : List ℕ) (notes : List ForkNote) (old new : List ClaimSet) (found : Option Evidence) → units ≡ chunks a g → notes ≡ notes_of at image g units → (All (IsInChunk a g) notes → NotesPassed a g notes old new found) → InodesPassed a (group_inodes at g units) old new found
    group_passed units notes old new found are noted passed =
        let stands = subst (λ (us : List ℕ). StandFor a g (notes_of at image g us) (group_inodes at g us)) (sym are) units_stand in
        let here = subst (λ (ns : List ForkNote). StandFor a g ns (group_inodes at g units)) (sym noted) stands in
        let got = passed (All-from_recursion (IsInChunk a g) notes here.inside) in
        record {
          first = got.first ∙ here.bad;
          put = λ none. adds_same old new (λ h. flat_map (note_pieces a g h) notes) (all_pieces a (group_inodes at g units)) here.pieces (got.put none);
        }
