use Rattle.std.proofs.Common.{◌≡◌, ◌+◌, ℕ, false, List, length, sym, subst}
use Rattle.std.proofs.lemmas.List.Elements.{All-drop}
use Rattle.std.specs.Prelude.{IfOk, IfSome}
use Rattle.blk_device.specs.declared.device.Region.TheVariants.{Image}
use Rattle.geom.specs.Layout.{device_block_of}
use Rattle.geom.specs.Places.{layout}
use Rattle.ino_recs.specs.declared.chunk.InoRec.{InoRec}
use Rattle.sblock.specs.declared.kind.Kind.TheVariants.{Bno, Cnt, Fino, Ino}
use Rattle.span_recs.specs.declared.span.SpanRec.{SpanRec}
use Rattle.core_units.specs.declared.lists.Lists.{Lists}
use Rattle.core_units.specs.Staged.{HasTree, HaveTrees, HaveTwo, IsInSecond, IsUnder, NoneKept}
use Rattle.core_units.proofs.StageLemmas.{second_in}
use Rattle.core_units.proofs.stage.stage_second.Goals as goal

pub behind-after_inos-requires : goal.behind-after_inos-requires
behind-after_inos-requires g c =
    let many = length c.args.reserve.now in
    let h = subst (λ (l : Lists). HaveTrees l many) c.in-Inode.is c.requires.enough in
    let firsts : HaveTwo Ino Fino (length c.as_slice-inos.result.now) (length c.in-Inode.fino.items) many = subst (λ (l : List InoRec). HaveTwo Ino Fino (length l) (length c.in-Inode.fino.items) many) (sym c.as_slice-inos.ensures.value) h in
    let both : HaveTwo Ino Fino (length c.as_slice-inos.result.now) (length c.as_slice-free_inos.result.now) many = subst (λ (l : List InoRec). HaveTwo Ino Fino (length c.as_slice-inos.result.now) (length l) many) (sym c.as_slice-free_inos.ensures.value) firsts in
    both.0

pub stage_tree-requires-clause-enough : goal.stage_tree-requires-clause-enough
stage_tree-requires-clause-enough g c =
    let many = length c.args.reserve.now in
    let h = subst (λ (l : Lists). HaveTrees l many) c.in-Inode.is c.requires.enough in
    let firsts : HaveTwo Ino Fino (length c.as_slice-inos.result.now) (length c.in-Inode.fino.items) many = subst (λ (l : List InoRec). HaveTwo Ino Fino (length l) (length c.in-Inode.fino.items) many) (sym c.as_slice-inos.ensures.value) h in
    let both : HaveTwo Ino Fino (length c.as_slice-inos.result.now) (length c.as_slice-free_inos.result.now) many = subst (λ (l : List InoRec). HaveTwo Ino Fino (length c.as_slice-inos.result.now) (length l) many) (sym c.as_slice-free_inos.ensures.value) firsts in
    let b = c.behind-after_inos.ensures in
    second_in Ino Fino (length c.as_slice-inos.result.now) (length c.as_slice-free_inos.result.now) c.args.reserve.now c.behind-after_inos.result.now both b.0 b.1 b.2

pub stage_tree-requires-clause-begins : goal.stage_tree-requires-clause-begins
stage_tree-requires-clause-begins g c =
    let h = subst (λ (l : Lists). IsInSecond l c.args.from) c.in-Inode.is c.requires.begins in
    subst (λ (l : List InoRec). IsUnder Fino (length l) c.args.from) (sym c.as_slice-free_inos.ensures.value) h

pub returns-in-Inode-clause-next : goal.returns-in-Inode-clause-next
returns-in-Inode-clause-next g c =
    let r = c.stage_tree.result in
    subst (λ (l : Lists). IfOk r (λ next. IfSome next (IsInSecond l))) (sym c.in-Inode.is)
    (subst (λ (l : List InoRec). IfOk r (λ next. IfSome next (IsUnder Fino (length l)))) c.as_slice-free_inos.ensures.value c.stage_tree.ensures.next)

pub returns-in-Inode-clause-moments : goal.returns-in-Inode-clause-moments
returns-in-Inode-clause-moments g c = λ keep none.
    let b = c.behind-after_inos.ensures in
    let first = device_block_of (layout c.args.geo.now) c.args.g 0 in
    c.stage_tree.ensures.moments keep (subst (λ (l : List ℕ). NoneKept first keep l) (sym b.2) (All-drop (λ (x : ℕ). keep Image (first + x) ≡ false) b.0 c.args.reserve.now none))

pub behind-after_starts-requires : goal.behind-after_starts-requires
behind-after_starts-requires g c =
    let many = length c.args.reserve.now in
    let h = subst (λ (l : Lists). HaveTrees l many) c.in-Free.is c.requires.enough in
    let firsts : HaveTwo Bno Cnt (length c.as_slice-starts.result.now) (length c.in-Free.cnt.items) many = subst (λ (l : List SpanRec). HaveTwo Bno Cnt (length l) (length c.in-Free.cnt.items) many) (sym c.as_slice-starts.ensures.value) h in
    let both : HaveTwo Bno Cnt (length c.as_slice-starts.result.now) (length c.as_slice-counts.result.now) many = subst (λ (l : List SpanRec). HaveTwo Bno Cnt (length c.as_slice-starts.result.now) (length l) many) (sym c.as_slice-counts.ensures.value) firsts in
    both.0

pub stage_tree-requires-in-Free-clause-enough : goal.stage_tree-requires-in-Free-clause-enough
stage_tree-requires-in-Free-clause-enough g c =
    let many = length c.args.reserve.now in
    let h = subst (λ (l : Lists). HaveTrees l many) c.in-Free.is c.requires.enough in
    let firsts : HaveTwo Bno Cnt (length c.as_slice-starts.result.now) (length c.in-Free.cnt.items) many = subst (λ (l : List SpanRec). HaveTwo Bno Cnt (length l) (length c.in-Free.cnt.items) many) (sym c.as_slice-starts.ensures.value) h in
    let both : HaveTwo Bno Cnt (length c.as_slice-starts.result.now) (length c.as_slice-counts.result.now) many = subst (λ (l : List SpanRec). HaveTwo Bno Cnt (length c.as_slice-starts.result.now) (length l) many) (sym c.as_slice-counts.ensures.value) firsts in
    let b = c.behind-after_starts.ensures in
    second_in Bno Cnt (length c.as_slice-starts.result.now) (length c.as_slice-counts.result.now) c.args.reserve.now c.behind-after_starts.result.now both b.0 b.1 b.2

pub stage_tree-requires-in-Free-clause-begins : goal.stage_tree-requires-in-Free-clause-begins
stage_tree-requires-in-Free-clause-begins g c =
    let h = subst (λ (l : Lists). IsInSecond l c.args.from) c.in-Free.is c.requires.begins in
    subst (λ (l : List SpanRec). IsUnder Cnt (length l) c.args.from) (sym c.as_slice-counts.ensures.value) h

pub returns-in-Free-clause-next : goal.returns-in-Free-clause-next
returns-in-Free-clause-next g c =
    let r = c.stage_tree-in-Free.result in
    subst (λ (l : Lists). IfOk r (λ next. IfSome next (IsInSecond l))) (sym c.in-Free.is)
    (subst (λ (l : List SpanRec). IfOk r (λ next. IfSome next (IsUnder Cnt (length l)))) c.as_slice-counts.ensures.value c.stage_tree-in-Free.ensures.next)

pub returns-in-Free-clause-moments : goal.returns-in-Free-clause-moments
returns-in-Free-clause-moments g c = λ keep none.
    let b = c.behind-after_starts.ensures in
    let first = device_block_of (layout c.args.geo.now) c.args.g 0 in
    c.stage_tree-in-Free.ensures.moments keep (subst (λ (l : List ℕ). NoneKept first keep l) (sym b.2) (All-drop (λ (x : ℕ). keep Image (first + x) ≡ false) b.0 c.args.reserve.now none))
