-- What the events of a rebuild keep.
use Rattle.std.proofs.Common.{◌≡◌, ℕ, zero, suc, ◌+◌, ◌-◌, ◌<◌, ◌≤◌, ◌^◌, Bool, true, false, List, [], ◌∷◌, ◌++◌, map, length, All, refl, arith, sym, subst, ap, ◌∙◌, Vec, Global}
use Rattle.std.proofs.lemmas.List.Elements.{All-head, All-tail}
use Rattle.std.specs.Prelude.{◌||◌, drop, IfSome, OnOk, Option, Some, None, Result, Ok, Err}
use Rattle.block_reap.specs.Limbo.{has}
use Rattle.block_reap.specs.declared.runs.LimboRun.{LimboRun}
use Rattle.bulk_load.specs.Shapes.{IsShape}
use Rattle.fs_model.specs.declared.unit.Unit.{Unit as ScrubUnit}
use Rattle.fs_state.specs.State.{recs_of}
use Rattle.geom.specs.Layout.{Layout, group_len_of}
use Rattle.group_trees.specs.Trees.{reading_of}
use Rattle.group_trees.specs.declared.group.GroupTrees.{GroupTrees}
use Rattle.run_sets.specs.Runs.{AreMaximal, EndWithin}
use Rattle.run_sets.specs.declared.run.Run.{Run}
use Rattle.sblock.specs.declared.kind.Kind.{Kind}
use Rattle.sblock.specs.declared.kind.Kind.TheVariants.{Bno, Cnt, Rmap, Refc, Ino, Fino}
use Rattle.span_recs.specs.declared.span.SpanRec.{SpanRec}
use Rattle.unit_plan.specs.Sets.{pieces_of}
use Rattle.unit_plan.specs.Spans.{span_run}
use Rattle.unit_plan.specs.declared.piece.Piece.{Piece}
use Rattle.unit_plan.specs.declared.spare.SpaceTrust.{SpaceTrust}
use Rattle.core_units.specs.TreesFit.{AreLoadable, CanSpareBy, CanTake, EndInGroup}
use Rattle.core_units.specs.Trees.{AreSeenSound}
use Rattle.core_units.specs.declared.lists.Lists.{Lists}
use Rattle.core_units.specs.declared.lists.Lists.TheVariants as lists
use Rattle.core_units.specs.Choices.{is_spare_for}
use Rattle.core_units.specs.Rebuilt.{IsNext, IsReady, IsRebuilding, IsSpareBelow, IsSteady, KeepsRest}
use Rattle.core_units.specs.Released.{BlocksEnd, IsLimboAfter, block_runs, lost_runs, owner_in}
use Rattle.core_units.specs.Reserved.{IsBuilding, StaysAs}
use Rattle.core_units.specs.Staged.{HasTree, HaveTwo, IsAt, IsInFirst, behind_first}
use Rattle.core_units.specs.Taken.{IsSettled}
use Rattle.core_units.specs.Tested.{AreRising, FreeEnds, RunsWithin, SpansEnd}
use Rattle.core_units.specs.declared.rebuild.Next.{Next}
use Rattle.core_units.specs.declared.rebuild.Next.TheVariants.{Met, GaveUp, Listed, Spare}
use Rattle.core_units.specs.declared.rebuild.Rebuild.{Rebuild}
use Rattle.core_units.specs.declared.reserve.Building.{Building}
use Rattle.core_units.specs.declared.stage.Staging.TheVariants.{First}
use Rattle.core_units.proofs.StageLemmas.{one_tree, starts_under}
use Rattle.core_units.proofs.TakenLemmas.{listed_below, spare_listed}

-- ---- what always holds

pub stays_built : (old new : Building) → StaysAs old new → IsBuilding old → IsBuilding new
stays_built old new s b =
    let many : length new.reserve.items ≡ length old.reserve.items = ap (λ (v : Vec ℕ Global). length v.items) s.behind in
    let left = s.as_many in
    let few = b.few in
    record { lists = subst CanTake (sym s.lists) b.lists; few = omega (arith, many, left, few) }

pub steady_with : (old new : Rebuild) → KeepsRest old new → IsBuilding new.building → FreeEnds old.length new.building.lists → All (λ b. b < old.length) new.building.reserve.items → IsSteady old → IsSteady new
steady_with old new k built ends inside s = record {
  built = built;
  spare = subst CanSpareBy (sym k.trees) s.spare;
  within = subst (λ (n : ℕ). EndInGroup n new.trees) (sym k.length) (subst (EndInGroup old.length) (sym k.trees) s.within);
  ends = subst (λ (n : ℕ). FreeEnds n new.building.lists) (sym k.length) ends;
  inside = subst (λ (n : ℕ). All (λ b. b < n) new.building.reserve.items) (sym k.length) inside;
  short = subst (λ (n : ℕ). n ≤ 268435456) (sym k.length) s.short;
  lost = subst (λ (v : Vec Run Global). AreMaximal 0 v.items × RunsWithin new.length v.items) (sym k.lost) (s.lost.0, subst (λ (n : ℕ). RunsWithin n old.lost.items) (sym k.length) s.lost.1);
}

pub stays_steady : (old new : Rebuild) → KeepsRest old new → StaysAs old.building new.building → IsSteady old → IsSteady new
stays_steady old new k stays s =
    steady_with old new k (stays_built old.building new.building stays s.built) (subst (FreeEnds old.length) (sym stays.lists) s.ends)
    (subst (λ (v : Vec ℕ Global). All (λ b. b < old.length) v.items) (sym stays.behind) s.inside) s

pub rebuilding_with : (old new : Rebuild) → KeepsRest old new → IsSteady new → (at : Layout) (g : ℕ) → IsRebuilding at g old → IsRebuilding at g new
rebuilding_with old new k steady at g h = record {
  group = k.group ∙ h.group;
  length = k.length ∙ h.length;
  trees = subst (λ (t : GroupTrees). AreSeenSound at g t) (sym k.trees) h.trees;
  steady = steady;
}

-- ---- a spare block lies in the group

spans_within : (limit : ℕ) (rs : List SpanRec) → SpansEnd limit rs → EndWithin limit (map span_run rs)
spans_within limit [] h = tt
spans_within limit (r ∷ rs) h = (h.0, spans_within limit rs h.1)

spare_below : (unit : ScrubUnit) (t : SpaceTrust) (trees : GroupTrees) (l : Lists) (ps : List Piece) (limit b : ℕ) → EndInGroup limit trees → FreeEnds limit l → is_spare_for unit t trees l ps b ≡ true → b < limit
spare_below unit t trees (lists.Inode ino fino) ps limit b within ends e = listed_below limit (recs_of (reading_of trees.bno)) b within.free (spare_listed unit t (recs_of (reading_of trees.bno)) (recs_of (reading_of trees.rmap)) ps b e)
spare_below unit t trees (lists.Rmap rmap) ps limit b within ends e = listed_below limit (recs_of (reading_of trees.bno)) b within.free (spare_listed unit t (recs_of (reading_of trees.bno)) (recs_of (reading_of trees.rmap)) ps b e)
spare_below unit t trees (lists.Free bno cnt) ps limit b within ends e = listed_below limit bno.items b (spans_within limit bno.items ends) (spare_listed unit t bno.items [] ps b e)
spare_below unit t trees (lists.Refc refc) ps limit b within ends e = listed_below limit (recs_of (reading_of trees.bno)) b within.free (spare_listed unit t (recs_of (reading_of trees.bno)) (recs_of (reading_of trees.rmap)) ps b e)

pub next_below : (limit : ℕ) (t : SpaceTrust) (list : List ℕ) (trees : GroupTrees) (b : Building) (next : Next) → EndInGroup limit trees → FreeEnds limit b.lists → IsNext t list trees b next → IsSpareBelow limit next
next_below limit t list trees b Met within ends h = tt
next_below limit t list trees b (GaveUp reason) within ends h = tt
next_below limit t list trees b (Listed block) within ends h = tt
next_below limit t list trees b (Spare block) within ends h = spare_below b.unit t trees b.lists (pieces_of b.set) limit block within ends h.2.1.0

-- ---- the lists as they will be loaded

pub settled_take : (old new : Lists) → IsSettled old new → CanTake old → CanTake new
settled_take (lists.Inode ino fino) new e h = subst CanTake (sym e) h
settled_take (lists.Rmap rmap) new e h = subst CanTake (sym e) h
settled_take (lists.Refc refc) new e h = subst CanTake (sym e) h
settled_take (lists.Free bno cnt) (lists.Inode ino fino) e h = subst CanTake (sym e) h
settled_take (lists.Free bno cnt) (lists.Rmap rmap) e h = subst CanTake (sym e) h
settled_take (lists.Free bno cnt) (lists.Refc refc) e h = subst CanTake (sym e) h
settled_take (lists.Free bno cnt) (lists.Free bno2 cnt2) e h = subst (λ (v : Vec SpanRec Global). CanTake (lists.Free v cnt2)) (sym e.0) h

pub settled_ends : (limit : ℕ) (old new : Lists) → IsSettled old new → FreeEnds limit old → FreeEnds limit new
settled_ends limit (lists.Inode ino fino) new e h = subst (FreeEnds limit) (sym e) h
settled_ends limit (lists.Rmap rmap) new e h = subst (FreeEnds limit) (sym e) h
settled_ends limit (lists.Refc refc) new e h = subst (FreeEnds limit) (sym e) h
settled_ends limit (lists.Free bno cnt) (lists.Inode ino fino) e h = subst (FreeEnds limit) (sym e) h
settled_ends limit (lists.Free bno cnt) (lists.Rmap rmap) e h = subst (FreeEnds limit) (sym e) h
settled_ends limit (lists.Free bno cnt) (lists.Refc refc) e h = subst (FreeEnds limit) (sym e) h
settled_ends limit (lists.Free bno cnt) (lists.Free bno2 cnt2) e h = subst (λ (v : Vec SpanRec Global). SpansEnd limit v.items) (sym e.0) h

pub loadable : (l : Lists) → CanTake l → AreRising l → AreLoadable l
loadable (lists.Inode ino fino) take h = ((h.0, λ k d lt. refl), (h.1, λ k d lt. refl))
loadable (lists.Rmap rmap) take h = (h, λ k d lt. (take.1 k d lt).0)
loadable (lists.Free bno cnt) take h = ((h.0, λ k d lt. refl), (h.1, λ k d lt. refl))
loadable (lists.Refc refc) take h = (h, λ k d lt. refl)

pub begins_at : (l : Lists) → IsAt l (First 0)
begins_at (lists.Inode ino fino) = starts_under Ino (length ino.items)
begins_at (lists.Rmap rmap) = starts_under Rmap (length rmap.items)
begins_at (lists.Free bno cnt) = starts_under Bno (length bno.items)
begins_at (lists.Refc refc) = starts_under Refc (length refc.items)

-- ---- trees on so many blocks

pub tree_in : (kind : Kind) (n levels blocks many : ℕ) → IsShape kind n levels blocks → blocks ≤ many → HasTree kind n many
tree_in kind n levels blocks many shape le c other = let same = one_tree kind n blocks c (levels, shape) other in omega (arith, le, same)

pub two_in : (first second : Kind) (n m levels blocks many : ℕ) → IsShape first n levels blocks → blocks ≤ many → HasTree second m (many - blocks) → HaveTwo first second n m many
two_in first second n m levels blocks many shape le rest =
    (tree_in first n levels blocks many shape le, λ c other. subst (λ (k : ℕ). HasTree second m (many - k)) (one_tree first n blocks c (levels, shape) other) rest)

pub tree_as : (kind : Kind) (n n2 many : ℕ) → n ≡ n2 → HasTree kind n many → HasTree kind n2 many
tree_as kind n n2 many e h = subst (λ (k : ℕ). HasTree kind k many) e h

pub two_as : (first second : Kind) (n m n2 m2 many : ℕ) → n ≡ n2 → m ≡ m2 → HaveTwo first second n m many → HaveTwo first second n2 m2 many
two_as first second n m n2 m2 many e f h = subst (λ (k : ℕ). HaveTwo first second k m2 many) e (subst (λ (k : ℕ). HaveTwo first second n k many) f h)

-- where the staging of the first tree ends, that of the second begins
pub at_behind : (l : Lists) (o : Option ℕ) → IfSome o (IsInFirst l) → IsAt l (behind_first l o)
at_behind l (Some k) h = h
at_behind (lists.Inode ino fino) None h = starts_under Fino (length fino.items)
at_behind (lists.Rmap rmap) None h = tt
at_behind (lists.Free bno cnt) None h = starts_under Cnt (length cnt.items)
at_behind (lists.Refc refc) None h = tt

-- ---- blocks of a group have numbers after them

pub number_after : (limit b : ℕ) → limit ≤ 268435456 → b < limit → b + 1 < 2 ^ 32
number_after limit b short lt = omega (arith, short, lt)

pub blocks_end : (limit : ℕ) (bs : List ℕ) → limit ≤ 268435456 → All (λ b. b < limit) bs → BlocksEnd bs
blocks_end limit [] le h = tt
blocks_end limit (b ∷ bs) le h = (number_after limit b le (All-head (λ (x : ℕ). x < limit) b bs h), blocks_end limit bs le (All-tail (λ (x : ℕ). x < limit) b bs h))

pub runs_short : (limit : ℕ) (rs : List Run) → limit ≤ 268435456 → RunsWithin limit rs → RunsWithin 268435456 rs
runs_short limit [] le h = tt
runs_short limit (r ∷ rs) le h = ((let e = h.0 in omega (arith, e, le)), runs_short limit rs le h.1)

pub drop_end : (k : ℕ) (bs : List ℕ) → BlocksEnd bs → BlocksEnd (drop k bs)
drop_end zero bs h = h
drop_end (suc k) [] h = tt
drop_end (suc k) (b ∷ bs) h = drop_end k bs h.1

-- ---- limbo after the switch

pub after_is : (r : Rebuild) (used : ℕ) (limbo mid new : List LimboRun) (owner : ℕ) (left : List ℕ) → owner ≡ owner_in r → left ≡ drop used r.building.reserve.items → ((b o : ℕ) → has mid b o ≡ (has limbo b o || has (lost_runs owner r.lost.items) b o)) → ((b o : ℕ) → has new b o ≡ (has mid b o || has (block_runs owner left) b o)) → IsLimboAfter r used limbo new
after_is r used limbo mid new owner left own is first second b o =
    second b o
    ∙ ap (λ (x : Bool). x || has (block_runs owner left) b o) (first b o)
    ∙ ap (λ (l : List ℕ). (has limbo b o || has (lost_runs owner r.lost.items) b o) || has (block_runs owner l) b o) is
    ∙ ap (λ (w : ℕ). (has limbo b o || has (lost_runs w r.lost.items) b o) || has (block_runs w (drop used r.building.reserve.items)) b o) own

-- ---- what holds on success

pub on_ok : {A E S : Type 0} → (r : Result A E) → S → OnOk r S
on_ok (Ok x) s = s
on_ok (Err e) s = tt

pub on_one : {A E P S : Type 0} → (r : Result A E) → (P → S) → OnOk r P → OnOk r S
on_one (Ok x) f p = f p
on_one (Err e) f p = tt

pub on_three : {A E P Q R S : Type 0} → (r : Result A E) → (P → Q → R → S) → OnOk r P → OnOk r Q → OnOk r R → OnOk r S
on_three (Ok x) f p q k = f p q k
on_three (Err e) f p q k = tt
