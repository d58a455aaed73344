use Rattle.std.proofs.Common.{ℕ, List, length, sym, subst}
use Rattle.std.specs.Prelude.{IfOk, IfSome}
use Rattle.ino_recs.specs.declared.chunk.InoRec.{InoRec}
use Rattle.rmap_recs.specs.declared.records.RmapRec.{RmapRec}
use Rattle.span_recs.specs.declared.refcount.RefcRec.{RefcRec}
use Rattle.span_recs.specs.declared.span.SpanRec.{SpanRec}
use Rattle.sblock.specs.declared.kind.Kind.TheVariants.{Bno, Ino, Refc, Rmap}
use Rattle.core_units.specs.declared.lists.Lists.{Lists}
use Rattle.core_units.specs.Staged.{HasTree, HaveTrees, IsInFirst, IsUnder}
use Rattle.core_units.proofs.stage.stage_first.Goals as goal

pub stage_tree-requires-clause-enough : goal.stage_tree-requires-clause-enough
stage_tree-requires-clause-enough g c =
    let many = length c.args.reserve.now in
    let h = subst (λ (l : Lists). HaveTrees l many) c.in-Inode.is c.requires.enough in
    subst (λ (l : List InoRec). HasTree Ino (length l) many) (sym c.as_slice.ensures.value) h.0

pub stage_tree-requires-clause-begins : goal.stage_tree-requires-clause-begins
stage_tree-requires-clause-begins g c =
    let h = subst (λ (l : Lists). IsInFirst l c.args.from) c.in-Inode.is c.requires.begins in
    subst (λ (l : List InoRec). IsUnder Ino (length l) c.args.from) (sym c.as_slice.ensures.value) h

pub returns-in-Inode-clause-next : goal.returns-in-Inode-clause-next
returns-in-Inode-clause-next g c =
    let r = c.stage_tree.result in
    subst (λ (l : Lists). IfOk r (λ next. IfSome next (IsInFirst l))) (sym c.in-Inode.is)
    (subst (λ (l : List InoRec). IfOk r (λ next. IfSome next (IsUnder Ino (length l)))) c.as_slice.ensures.value c.stage_tree.ensures.next)

pub stage_tree-requires-in-Rmap-clause-enough : goal.stage_tree-requires-in-Rmap-clause-enough
stage_tree-requires-in-Rmap-clause-enough g c =
    let many = length c.args.reserve.now in
    let h = subst (λ (l : Lists). HaveTrees l many) c.in-Rmap.is c.requires.enough in
    subst (λ (l : List RmapRec). HasTree Rmap (length l) many) (sym c.as_slice-in-Rmap.ensures.value) h

pub stage_tree-requires-in-Rmap-clause-begins : goal.stage_tree-requires-in-Rmap-clause-begins
stage_tree-requires-in-Rmap-clause-begins g c =
    let h = subst (λ (l : Lists). IsInFirst l c.args.from) c.in-Rmap.is c.requires.begins in
    subst (λ (l : List RmapRec). IsUnder Rmap (length l) c.args.from) (sym c.as_slice-in-Rmap.ensures.value) h

pub returns-in-Rmap-clause-next : goal.returns-in-Rmap-clause-next
returns-in-Rmap-clause-next g c =
    let r = c.stage_tree-in-Rmap.result in
    subst (λ (l : Lists). IfOk r (λ next. IfSome next (IsInFirst l))) (sym c.in-Rmap.is)
    (subst (λ (l : List RmapRec). IfOk r (λ next. IfSome next (IsUnder Rmap (length l)))) c.as_slice-in-Rmap.ensures.value c.stage_tree-in-Rmap.ensures.next)

pub stage_tree-requires-in-Free-clause-enough : goal.stage_tree-requires-in-Free-clause-enough
stage_tree-requires-in-Free-clause-enough g c =
    let many = length c.args.reserve.now in
    let h = subst (λ (l : Lists). HaveTrees l many) c.in-Free.is c.requires.enough in
    subst (λ (l : List SpanRec). HasTree Bno (length l) many) (sym c.as_slice-in-Free.ensures.value) h.0

pub stage_tree-requires-in-Free-clause-begins : goal.stage_tree-requires-in-Free-clause-begins
stage_tree-requires-in-Free-clause-begins g c =
    let h = subst (λ (l : Lists). IsInFirst l c.args.from) c.in-Free.is c.requires.begins in
    subst (λ (l : List SpanRec). IsUnder Bno (length l) c.args.from) (sym c.as_slice-in-Free.ensures.value) h

pub returns-in-Free-clause-next : goal.returns-in-Free-clause-next
returns-in-Free-clause-next g c =
    let r = c.stage_tree-in-Free.result in
    subst (λ (l : Lists). IfOk r (λ next. IfSome next (IsInFirst l))) (sym c.in-Free.is)
    (subst (λ (l : List SpanRec). IfOk r (λ next. IfSome next (IsUnder Bno (length l)))) c.as_slice-in-Free.ensures.value c.stage_tree-in-Free.ensures.next)

pub stage_tree-requires-in-Refc-clause-enough : goal.stage_tree-requires-in-Refc-clause-enough
stage_tree-requires-in-Refc-clause-enough g c =
    let many = length c.args.reserve.now in
    let h = subst (λ (l : Lists). HaveTrees l many) c.in-Refc.is c.requires.enough in
    subst (λ (l : List RefcRec). HasTree Refc (length l) many) (sym c.as_slice-in-Refc.ensures.value) h

pub stage_tree-requires-in-Refc-clause-begins : goal.stage_tree-requires-in-Refc-clause-begins
stage_tree-requires-in-Refc-clause-begins g c =
    let h = subst (λ (l : Lists). IsInFirst l c.args.from) c.in-Refc.is c.requires.begins in
    subst (λ (l : List RefcRec). IsUnder Refc (length l) c.args.from) (sym c.as_slice-in-Refc.ensures.value) h

pub returns-in-Refc-clause-next : goal.returns-in-Refc-clause-next
returns-in-Refc-clause-next g c =
    let r = c.stage_tree-in-Refc.result in
    subst (λ (l : Lists). IfOk r (λ next. IfSome next (IsInFirst l))) (sym c.in-Refc.is)
    (subst (λ (l : List RefcRec). IfOk r (λ next. IfSome next (IsUnder Refc (length l)))) c.as_slice-in-Refc.ensures.value c.stage_tree-in-Refc.ensures.next)
