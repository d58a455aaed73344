use Rattle.std.proofs.Common.{◌≡◌, ◌+◌, ◌++◌, ◌∷◌, [], suc, List, length, ◌∙◌, sym, ap, refl, subst, arith, length-append}
use Rattle.inode_scan.specs.Cursor.{AllInoTrees}
use Rattle.tree_blocks.specs.declared.tree.TreeAt.{TreeAt}
use Rattle.core_parts.specs.declared.groups.GroupKept.{GroupKept}
use Rattle.core_parts.specs.Opens.Inodes.{are_trees, tree_of}
use Rattle.core_parts.proofs.opens.Trees.{trees_end, trees_inside, trees_more}
use Rattle.core_parts.proofs.opens.inodes.ino_trees.Goals as goal

pub loop-kept-init : goal.loop-kept-init
loop-kept-init c = record {
  left = ap (λ (ts : List TreeAt). ts ++ are_trees 0 c.args.groups.now) c.new-trees.ensures.items;
  inside = subst (λ (ts : List TreeAt). AllInoTrees (length c.args.groups.now) ts) (sym c.new-trees.ensures.items) tt;
  here = omega arith;
  long = ap (λ (ts : List TreeAt). length ts) c.new-trees.ensures.items;
}

pub loop-kept-preserved : goal.loop-kept-preserved
loop-kept-preserved c =
    let split = c.in-Some.ensures.cases.0 in
    let put = c.in_ok-push.ensures.items ∙ ap (λ (t : TreeAt). c.loop-kept.trees.items ++ t ∷ []) c.ino_tree-tree.ensures in
    let long : length c.loop-kept.rest.now ≡ suc (length c.in-Some.later.now) = ap (λ (ks : List GroupKept). length ks) split in
    let grown : length c.push.new.self.items ≡ length c.loop-kept.trees.items + 1 = ap (λ (ts : List TreeAt). length ts) put ∙ length-append c.loop-kept.trees.items (tree_of c.loop-kept.g c.in-Some.kept.now ∷ []) in
    let here : (c.loop-kept.g + 1) + length c.in-Some.later.now ≡ length c.args.groups.now = omega (arith, long, c.loop-kept.invariant.here) in
    record {
      left = trees_more c.loop-kept.trees.items c.push.new.self.items (are_trees 0 c.args.groups.now) c.loop-kept.g c.in-Some.kept.now c.loop-kept.rest.now c.in-Some.later.now split put c.loop-kept.invariant.left;
      inside = trees_inside (length c.args.groups.now) c.loop-kept.g c.in-Some.kept.now c.loop-kept.trees.items c.push.new.self.items (omega (arith, long, c.loop-kept.invariant.here)) put c.loop-kept.invariant.inside;
      here = here;
      long = omega (arith, grown, c.loop-kept.invariant.long);
    }

pub returns-clause-exact : goal.returns-clause-exact
returns-clause-exact c = trees_end c.loop-kept.trees.items (are_trees 0 c.args.groups.now) c.loop-kept.g c.loop-kept.rest.now c.in_default.ensures.cases c.loop-kept.invariant.left
