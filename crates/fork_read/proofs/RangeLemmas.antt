-- Each mapping of a piece is in range, and what is known once a piece is refused.
use Rattle.std.proofs.Common.{◌≡◌, ℕ, true, List, [], ◌∷◌, filter, Option, Some, None, Result, Ok, Err, refl, ap, sym, subst, ◌∙◌, inl, inr}
use Rattle.std.specs.Prelude.{All, IfOk, nat_le}
use Rattle.std.specs.List.{AllByRecursion}
use Rattle.std.proofs.lemmas.Bool.{cases_Bool}
use Rattle.std.proofs.lemmas.List.Elements.{All-from_recursion}
use Rattle.byte_fields.proofs.TestLemmas.{all_pass}
use Rattle.geom.specs.Layout.{Layout}
use Rattle.dinode_core.specs.declared.inode.Core3.{Core3}
use Rattle.dinode_core.specs.declared.mapping.Fork.{Fork}
use Rattle.dinode_core.specs.declared.mapping.ForkFault.{ForkFault}
use Rattle.dinode_core.specs.declared.mapping.Mapping.{Mapping}
use Rattle.dinode_core.specs.ForkTree.{Image, Trail, walk_fault}
use Rattle.dinode_core.specs.Inline.{first_bad, form_fault, in_range, inline_fault, inline_mappings, mapping_fault, mapping_tests}
use Rattle.fork_read.specs.declared.fault.ForkPiece.{ForkPiece}
use Rattle.fork_read.specs.declared.fault.ReadFault.{ReadFault}
use Rattle.fork_read.specs.declared.walk.Stop.{Stop}
use Rattle.fork_read.specs.Answers.{IsPiece, judged, stop_fault}
use Rattle.fork_read.specs.Pieces.{AreInRange, IsForkFault}
use Rattle.fork_read.specs.Whole.{Follow, HasFault}
use Rattle.fork_read.proofs.LawLemmas.{refused_first}
use Rattle.fork_read.proofs.WholeLemmas.{else_parts}

each_in_range : (at : Layout) (fork : Fork) (ms : List Mapping) → first_bad at fork ms ≡ None → AllByRecursion (λ m. in_range at fork m ≡ true) ms
unfolding first_bad mapping_fault
each_in_range at fork [] good = tt
each_in_range at fork (m ∷ ms) good =
    let parts = else_parts (mapping_fault at fork m ms) (first_bad at fork ms) good in
    ((all_pass (mapping_tests at fork m ms) parts.0).1.1.0, each_in_range at fork ms parts.1)

still_kept : (P : Mapping → Type 0) (from : ℕ) (ms : List Mapping) → AllByRecursion P ms → AllByRecursion P (filter (λ m. nat_le from m.offset) ms)
still_kept P from [] all = tt
still_kept P from (m ∷ ms) all =
    elim (cases_Bool (nat_le from m.offset)) [
      | inl kept ↦ rw kept (all.0, still_kept P from ms all.1)
      | inr out ↦ rw out (still_kept P from ms all.1)
    ]

ranged : (at : Layout) (fork : Fork) (from : ℕ) (ms : List Mapping) (blocks : List ℕ) (next : Option ℕ) (piece : ForkPiece) → first_bad at fork ms ≡ None → IsPiece from ms blocks next piece → AreInRange at fork piece
ranged at fork from ms blocks next piece good given =
    subst (λ (xs : List Mapping). All (λ m. in_range at fork m ≡ true) xs) (sym given.mappings)
    (All-from_recursion (λ m. in_range at fork m ≡ true) (filter (λ m. nat_le from m.offset) ms) (still_kept (λ m. in_range at fork m ≡ true) from ms (each_in_range at fork ms good)))

pub tree_ranged : (at : Layout) (fork : Fork) (levels from : ℕ) (stop : Stop) (t : Trail) (blocks : List ℕ) (next : Option ℕ) (result : Result ForkPiece ReadFault) → IfOk result (λ _. judged at fork levels stop t ≡ None) → IfOk result (λ piece. IsPiece from t.mappings blocks next piece) → IfOk result (AreInRange at fork)
tree_ranged at fork levels from stop t blocks next (Ok piece) good given =
    ranged at fork from t.mappings blocks next piece (else_parts (first_bad at fork t.mappings) (stop_fault levels stop t) good).0 given
tree_ranged at fork levels from stop t blocks next (Err error) good given = tt

pub inline_ranged : (at : Layout) (core : Core3) (fork : Fork) (from : ℕ) (ms items : List Mapping) (blocks : List ℕ) (next : Option ℕ) (result : Result ForkPiece ReadFault) → inline_fault at core fork ≡ None → items ≡ inline_mappings core fork → ms ≡ items → IfOk result (λ piece. IsPiece from ms blocks next piece) → IfOk result (AreInRange at fork)
unfolding inline_fault
inline_ranged at core fork from ms items blocks next (Ok piece) good is same given =
    let own = (else_parts (form_fault core fork) (first_bad at fork (inline_mappings core fork)) good).1 in
    ranged at fork from ms blocks next piece (ap (first_bad at fork) (same ∙ is) ∙ own) given
inline_ranged at core fork from ms items blocks next (Err error) good is same given = tt

-- so is each that the inode itself holds, where that shows no fault
pub inline_in_range : (at : Layout) (core : Core3) (fork : Fork) → inline_fault at core fork ≡ None → All (λ m. in_range at fork m ≡ true) (inline_mappings core fork)
unfolding inline_fault
inline_in_range at core fork good =
    let own = (else_parts (form_fault core fork) (first_bad at fork (inline_mappings core fork)) good).1 in
    All-from_recursion (λ m. in_range at fork m ≡ true) (inline_mappings core fork) (each_in_range at fork (inline_mappings core fork) own)

-- a fork of which a piece is refused has a first fault
pub refused_has : (at : Layout) (image : Image) (core : Core3) (fork : Fork) (pieces : List ForkPiece) (from : ℕ) (fault : ForkFault) → Follow at image core fork (Some 0) pieces (Some from) → IsForkFault at image core fork from fault → HasFault (walk_fault at image core fork)
refused_has at image core fork pieces from fault follow refused =
    elim (refused_first at image core fork pieces from fault follow refused) [
      | inl first ↦ (fault, first)
      | inr cut ↦ some_fault (walk_fault at image core fork) cut.bad
    ]
  where
    some_fault : (o : Option ForkFault) → (o ≡ None → ⊥) → HasFault o
    some_fault None bad = absurd (bad refl)
    some_fault (Some first) bad = (first, refl)
