-- What is kept of the inodes of groups, one group after the other.
use Rattle.std.proofs.Common.{◌≡◌, ℕ, zero, suc, ◌<◌, List, [], ◌∷◌, length, get_or, set, Option, refl, ap, sym, subst, ◌∙◌, arith}
use Rattle.fs_state.specs.Chunks.{chunks}
use Rattle.fs_model.specs.declared.claim.Evidence.{Evidence}
use Rattle.fs_state.specs.Kinds.{Image}
use Rattle.geom.specs.Layout.{Layout}
use Rattle.inode_pass.specs.Notes.{notes_of}
use Rattle.inode_pass.specs.Units.{opened_state}
use Rattle.inode_pass.specs.declared.note.GroupInodes.{GroupInodes}
use Rattle.unit_plan.specs.declared.claims.ClaimSet.{ClaimSet}
use Rattle.fork_pass.specs.Passed.{InodesPassed, group_inodes, notes_at, units_at}

pub units_there : (kept : List GroupInodes) (g : ℕ) (d : GroupInodes) → g < length kept → units_at kept g ≡ (get_or kept g d).chunks.items
unfolding units_at
units_there [] g d lt = absurd (omega (arith, lt))
units_there (v ∷ vs) zero d lt = refl
units_there (v ∷ vs) (suc g) d lt = units_there vs g d (omega (arith, lt))

pub notes_there : (kept : List GroupInodes) (g : ℕ) (d : GroupInodes) → g < length kept → (get_or kept g d).notes.items ≡ notes_at kept g
unfolding notes_at
notes_there [] g d lt = absurd (omega (arith, lt))
notes_there (v ∷ vs) zero d lt = refl
notes_there (v ∷ vs) (suc g) d lt = notes_there vs g d (omega (arith, lt))

-- where other notes are put in the place of a group's, those behind it and all units stay
pub others_stay : (kept : List GroupInodes) (g h : ℕ) (v : GroupInodes) → g < h → notes_at (set kept g v) h ≡ notes_at kept h
unfolding notes_at
others_stay [] g h v lt = refl
others_stay (x ∷ xs) zero zero v lt = absurd (omega (arith, lt))
others_stay (x ∷ xs) zero (suc h) v lt = refl
others_stay (x ∷ xs) (suc g) zero v lt = absurd (omega (arith, lt))
others_stay (x ∷ xs) (suc g) (suc h) v lt = others_stay xs g h v (omega (arith, lt))

units_each : (kept : List GroupInodes) (g : ℕ) (v d : GroupInodes) → g < length kept → v.chunks.items ≡ (get_or kept g d).chunks.items → (h : ℕ) → units_at (set kept g v) h ≡ units_at kept h
unfolding units_at
units_each [] g v d lt same h = refl
units_each (x ∷ xs) zero v d lt same zero = same
units_each (x ∷ xs) zero v d lt same (suc h) = refl
units_each (x ∷ xs) (suc g) v d lt same zero = refl
units_each (x ∷ xs) (suc g) v d lt same (suc h) = units_each xs g v d (omega (arith, lt)) same h

pub units_stay : (kept : List GroupInodes) (g : ℕ) (v d : GroupInodes) → g < length kept → v.chunks.items ≡ (get_or kept g d).chunks.items → units_at (set kept g v) ≡ units_at kept
units_stay kept g v d lt same = λ i h. units_each kept g v d lt same h i

-- what is told of a group whose notes and units are those at the front
pub group_told : (at : Layout) (image : Image) (g : ℕ) (first kept : List GroupInodes) (old new : List ClaimSet) (found : Option Evidence) → notes_at kept g ≡ notes_at first g → units_at kept ≡ units_at first → units_at first g ≡ chunks (opened_state at image) g → notes_at first g ≡ notes_of at image g (units_at first g) → (units_at kept g ≡ chunks (opened_state at image) g → notes_at kept g ≡ notes_of at image g (units_at kept g) → InodesPassed (opened_state at image) (group_inodes at g (units_at kept g)) old new found) → InodesPassed (opened_state at image) (group_inodes at g (units_at first g)) old new found
group_told at image g first kept old new found notes units are noted passed =
    let same : units_at kept g ≡ units_at first g = λ i. units i g in
    subst (λ (us : List ℕ). InodesPassed (opened_state at image) (group_inodes at g us) old new found) same
    (passed (same ∙ are) (notes ∙ noted ∙ sym (ap (notes_of at image g) same)))
