-- What is kept of one group.
use Rattle.std.proofs.Common.{◌≡◌, List, [], ◌∷◌, ◌++◌, ap, ◌∙◌, sym, subst}
use Rattle.std.proofs.lemmas.List.Elements.{All-from_recursion}
use Rattle.geom.specs.Layout.{Layout}
use Rattle.inode_pass.specs.Notes.{AreFit, IsFit}
use Rattle.inode_pass.specs.declared.note.ForkNote.{ForkNote}
use Rattle.inode_pass.specs.declared.note.GroupInodes.{GroupInodes}
use Rattle.fork_pass.specs.Passed.{notes_at}

-- where nothing was noted before, what the cores show fits
pub kept_fits : (at : Layout) (first : List ForkNote) (inodes : List GroupInodes) (kept : GroupInodes) → first ≡ [] → inodes ≡ kept ∷ [] → (AreFit at 0 first → AreFit at 0 kept.notes.items) → AreFit at 0 (notes_at inodes 0)
unfolding notes_at
kept_fits at first inodes kept none is fit =
    let empty = subst (λ (ns : List ForkNote). AreFit at 0 ns) (sym none) (All-from_recursion (IsFit at 0) [] tt) in
    subst (λ (xs : List GroupInodes). AreFit at 0 (notes_at xs 0)) (sym is) (fit empty)

-- one is put into none
pub one_more : (old new : List GroupInodes) (kept : GroupInodes) → old ≡ [] → new ≡ old ++ kept ∷ [] → new ≡ kept ∷ []
one_more old new kept none is = is ∙ ap (λ (xs : List GroupInodes). xs ++ kept ∷ []) none
