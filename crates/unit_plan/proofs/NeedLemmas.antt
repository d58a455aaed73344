-- The blocks of new btrees.
use Rattle.std.proofs.Common.{◌≡◌, ℕ, suc, ◌+◌, ◌-◌, ◌<◌, ◌≤◌, ◌^◌, refl, ap, sym, ◌∙◌, inl, inr, arith}
use Rattle.std.proofs.lemmas.Bool.{cases_order}
use Rattle.bulk_load.specs.Shapes.{IsRow, IsShape, items, start, width}
use Rattle.bulk_load.proofs.ShapeLemmas.{row_small, start_on}
use Rattle.fs_model.specs.declared.unit.Unit.TheVariants as units
use Rattle.sblock.specs.declared.kind.Kind.{Kind}
use Rattle.sblock.specs.declared.kind.Kind.TheVariants.{Bno, Cnt, Rmap, Refc, Ino, Fino}
use Rattle.unit_plan.specs.Need.{IsTreeOf, AreTreesOf, OneNeed}

pub tree_small : (kind : Kind) (n levels blocks : ℕ) → n < 2 ^ 64 → IsShape kind n levels blocks → blocks < 2 ^ 59
tree_small kind n levels blocks fits h =
    let some = h.some in
    let top : ℕ = levels - 1 in
    let last : levels ≡ suc top = omega (arith, some) in
    let all : blocks ≡ start kind n top + width kind n top = h.all ∙ ap (start kind n) last ∙ start_on kind n top in
    let row : IsRow kind n top (record { items = items kind n top; width = width kind n top; start = start kind n top }) = record { holds = refl; wide = refl; starts = refl } in
    let small : start kind n top + width kind n top < 2 ^ 58 = row_small kind n top (record { items = items kind n top; width = width kind n top; start = start kind n top }) fits h.below row in
    omega (arith, all, small)

no_more : (kind : Kind) (n l m b c : ℕ) → IsShape kind n l b → IsShape kind n m c → l < m → ⊥
no_more kind n l m b c h k lt =
    let some = h.some in
    let wide : 2 ≤ width kind n (l - 1) = k.below (l - 1) (omega (arith, lt, some)) in
    let top = h.top in
    omega (arith, wide, top)

one_tree : (kind : Kind) (n b c : ℕ) → IsTreeOf kind n b → IsTreeOf kind n c → b ≡ c
one_tree kind n b c h k =
    let same : h.0 ≡ k.0 = elim (cases_order h.0 k.0) [
      | inl is ↦ is
      | inr (inl below) ↦ absurd (no_more kind n h.0 k.0 b c h.1 k.1 below)
      | inr (inr above) ↦ absurd (no_more kind n k.0 h.0 c b k.1 h.1 above)
    ] in
    h.1.all ∙ ap (start kind n) same ∙ sym k.1.all

two_trees : (kind other : Kind) (n m b c : ℕ) → AreTreesOf kind other n m b → AreTreesOf kind other n m c → b ≡ c
two_trees kind other n m b c h k =
    let one = one_tree kind n h.first k.first h.one k.one in
    let two = one_tree other m h.second k.second h.two k.two in
    let left = h.sum in
    let right = k.sum in
    omega (arith, one, two, left, right)

pub one_need_lem : OneNeed
one_need_lem units.Inode n m b c h k = two_trees Ino Fino n m b c h k
one_need_lem units.Rmap n m b c h k = one_tree Rmap n b c h k
one_need_lem units.Free n m b c h k = two_trees Bno Cnt n m b c h k
one_need_lem units.Refc n m b c h k = one_tree Refc n b c h k
