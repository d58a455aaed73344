-- The trees that can't be read are those of the state that the image stands for right after it was opened.
use Rattle.std.proofs.Common.{◌≡◌, ℕ, List, Option, Ok, Err, refl, sym, ap, subst, ◌∙◌}
use Rattle.fs_state.specs.Kinds.{Image, RecOf}
use Rattle.fs_state.specs.Read.{Read, bad_in, claimed, group_of, known, opened, walked}
use Rattle.fs_state.specs.Read.{reading_of as reading_in}
use Rattle.fs_state.specs.State.{Bad, Reading}
use Rattle.geom.specs.Layout.{Layout}
use Rattle.group_trees.specs.Group.{AreTrees}
use Rattle.group_trees.specs.Trees.{reading_of}
use Rattle.group_trees.specs.declared.group.GroupTrees.{GroupTrees}
use Rattle.inode_pass.specs.Units.{opened_state}
use Rattle.sblock.specs.declared.kind.Kind.{Kind}
use Rattle.sblock.specs.declared.kind.Kind.TheVariants.{Bno, Cnt, Rmap, Refc, Ino, Fino}
use Rattle.core_parts.specs.Opens.Groups.{AreBadOf, bad_said}
use Rattle.core_units.specs.Trees.{AreKnown, IsKnown}
use Rattle.core_units.specs.declared.trees.BadTree.{BadTree}
use Rattle.core_units.specs.declared.trees.BadTrees.{BadTrees}

said_as : {R : Type 0} (r : Read R) (cs : List ℕ) → bad_said (known (bad_in r cs) r cs) ≡ bad_in r cs
said_as (Ok read) cs = refl
said_as (Err fault) cs = refl

module _ (at : Layout) (image : Image) (g : ℕ) where
  bad_kept : (k : Kind) → bad_said (((opened_state at image).group g).tree k).reading ≡ (opened at image).bad g k
  unfolding group_of reading_in opened
  bad_kept k = said_as (walked at image g k) (claimed at image g k)

  one_known : (k : Kind) (bad : Option BadTree) (seen : Reading (RecOf k)) → (((opened_state at image).group g).tree k).reading ≡ seen → IsKnown bad (bad_said seen) → IsKnown bad ((opened at image).bad g k)
  one_known k bad seen is known = subst (IsKnown bad) (sym (ap bad_said is) ∙ bad_kept k) known

  pub are_known : (trees : GroupTrees) (bad : BadTrees) → AreTrees at image g trees → AreBadOf trees bad → AreKnown (opened at image) g bad
  are_known trees bad are of = record {
    bno = one_known Bno bad.bno (reading_of trees.bno) are.bno of.bno;
    cnt = one_known Cnt bad.cnt (reading_of trees.cnt) are.cnt of.cnt;
    rmap = one_known Rmap bad.rmap (reading_of trees.rmap) are.rmap of.rmap;
    refc = one_known Refc bad.refc (reading_of trees.refc) are.refc of.refc;
    ino = one_known Ino bad.ino (reading_of trees.ino) are.ino of.ino;
    fino = one_known Fino bad.fino (reading_of trees.fino) are.fino of.fino;
  }
