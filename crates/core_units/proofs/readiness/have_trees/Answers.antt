use Rattle.std.proofs.Common.{◌≡◌, ℕ, length, rules, sym, subst}
use Rattle.sblock.specs.declared.kind.Kind.TheVariants.{Bno, Cnt, Fino, Ino, Refc, Rmap}
use Rattle.core_units.specs.declared.lists.Lists.{Lists}
use Rattle.core_units.specs.Staged.{HaveTrees}
use Rattle.core_units.proofs.RebuildLemmas.{tree_as, two_as}
use Rattle.core_units.proofs.readiness.have_trees.Goals as goal

pub returns-in-Inode : goal.returns-in-Inode
returns-in-Inode c = λ e.
    let n : c.len.result ≡ length c.in-Inode.ino.items = search rules in
    let m : c.len-in-Inode.result ≡ length c.in-Inode.fino.items = search rules in
    subst (λ (l : Lists). HaveTrees l c.args.many) (sym c.in-Inode.is)
    (two_as Ino Fino c.len.result c.len-in-Inode.result (length c.in-Inode.ino.items) (length c.in-Inode.fino.items) c.args.many n m (c.have_two.ensures e))

pub returns-in-Free : goal.returns-in-Free
returns-in-Free c = λ e.
    let n : c.len-in-Free.result ≡ length c.in-Free.bno.items = search rules in
    let m : c.len-in-Free-2.result ≡ length c.in-Free.cnt.items = search rules in
    subst (λ (l : Lists). HaveTrees l c.args.many) (sym c.in-Free.is)
    (two_as Bno Cnt c.len-in-Free.result c.len-in-Free-2.result (length c.in-Free.bno.items) (length c.in-Free.cnt.items) c.args.many n m (c.have_two-in-Free.ensures e))

pub returns-in-Rmap : goal.returns-in-Rmap
returns-in-Rmap c = λ e.
    let n : c.len-in-Rmap.result ≡ length c.in-Rmap.rmap.items = search rules in
    subst (λ (l : Lists). HaveTrees l c.args.many) (sym c.in-Rmap.is) (tree_as Rmap c.len-in-Rmap.result (length c.in-Rmap.rmap.items) c.args.many n (c.has_tree.ensures e))

pub returns-in-Refc : goal.returns-in-Refc
returns-in-Refc c = λ e.
    let n : c.len-in-Refc.result ≡ length c.in-Refc.refc.items = search rules in
    subst (λ (l : Lists). HaveTrees l c.args.many) (sym c.in-Refc.is) (tree_as Refc c.len-in-Refc.result (length c.in-Refc.refc.items) c.args.many n (c.has_tree-in-Refc.ensures e))
