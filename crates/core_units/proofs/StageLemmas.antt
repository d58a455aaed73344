-- What the staging of blocks writes, and keeps.
use Rattle.std.proofs.Common.{◌≡◌, ℕ, suc, ◌+◌, ◌-◌, ◌<◌, ◌≤◌, inl, inr, List, [], ◌∷◌, length, All, Option, Some, None, sym, subst, refl, ◌∙◌, ap, arith, Bool, true, false, true≢false}
use Rattle.std.specs.Prelude.{slice_index}
use Rattle.blk_device.specs.Contents.{Becomes, Contents, Doubts, map_told}
use Rattle.blk_device.specs.declared.device.Region.{Region}
use Rattle.blk_device.specs.declared.device.Region.TheVariants.{Image}
use Rattle.bulk_load.proofs.ShapeLemmas.{start_on}
use Rattle.bulk_load.specs.Loaded.{AreLaid, IsLoaded}
use Rattle.bulk_load.specs.Shapes.{IsShape, start, width}
use Rattle.byte_fields.specs.declared.block.Block.{Block}
use Rattle.sblock.specs.Form.{Form}
use Rattle.sblock.specs.declared.block.Frame.{Frame}
use Rattle.sblock.specs.declared.kind.Kind.{Kind}
use Rattle.std.proofs.lemmas.Bool.{cases_order}
use Rattle.geom.specs.Layout.{Layout, device_block_of, group_len_of}
use Rattle.std.proofs.lemmas.List.Elements.{All-take}
use Rattle.std.proofs.lemmas.List.{length-drop}
use Rattle.std.specs.Prelude.{drop, min, take}
use Rattle.tree_defs.specs.Sites.{site_of}
use Rattle.tree_defs.specs.declared.site.Site.{Site}
use Rattle.unit_plan.specs.Need.{IsTreeOf}
use Rattle.core_units.specs.Staged.{HasTree, HaveTwo, IsStaged, IsUnder, end_of, frame_at, AreOut, IsKept, KeepsBytes, LieOn, NoneKept, with_blocks}

pub kept_self : (keep : Region → ℕ → Bool) (told : Option Contents) → Becomes told told (KeepsBytes keep)
kept_self keep None = tt
kept_self keep (Some m) = λ s b k. refl

pub not_kept : (keep : Region → ℕ → Bool) (at : ℕ) → keep Image at ≡ false → IsKept keep Image at → ⊥
not_kept keep at out kept = true≢false (sym kept ∙ out)

-- one write more, outside of what is kept
pub kept_on : (keep : Region → ℕ → Bool) (at : ℕ) (old mid new : Option Contents) → keep Image at ≡ false → Becomes old mid (KeepsBytes keep) → Doubts Image at mid new → Becomes old new (KeepsBytes keep)
kept_on keep at None None None out first second = tt
kept_on keep at None None (Some n) out first second = second
kept_on keep at None (Some x) new out first second = absurd first
kept_on keep at (Some m) None new out first second = absurd first
kept_on keep at (Some m) (Some x) None out first second = second
kept_on keep at (Some m) (Some x) (Some n) out first second = λ s b k. second s b (λ here. not_kept keep at out (subst (λ (p : ℕ). keep Image p ≡ true) here.1 (subst (λ (q : Region). keep q b ≡ true) here.0 k))) ∙ first s b k

-- the first of them
pub first_on : (first limit : ℕ) (p : ℕ × Block) (ps xs : List (ℕ × Block)) → xs ≡ p ∷ ps → LieOn first limit xs → (first + p.0 < limit) × LieOn first limit ps
first_on first limit p ps xs is lie = subst (LieOn first limit) is lie

pub first_out : (first : ℕ) (keep : Region → ℕ → Bool) (p : ℕ × Block) (ps xs : List (ℕ × Block)) → xs ≡ p ∷ ps → AreOut first keep xs → (keep Image (first + p.0) ≡ false) × AreOut first keep ps
first_out first keep p ps xs is out = subst (AreOut first keep) is out

module _ {R K : Type 0} (form : Form R K) (list : List R) (claimed : List ℕ) (frame : Frame) where
  -- blocks in claimed ones lie where those do
  pub laid_on : (first limit len : ℕ) (k : ℕ) (es : List (ℕ × Block)) → first + len ≤ limit → All (λ b. b < len) claimed → k + length es ≤ length claimed → AreLaid form list claimed frame k es → LieOn first limit es
  laid_on first limit len k [] fits inside most laid = tt
  laid_on first limit len k (e ∷ es) fits inside most laid =
      let lt : slice_index claimed k < len = inside k 0 (omega (arith, most)) in
      let is = laid.0 in
      (omega (arith, fits, lt, is), laid_on first limit len (k + 1) es fits inside (omega (arith, most)) laid.2)

  pub laid_out : (first : ℕ) (keep : Region → ℕ → Bool) (k : ℕ) (es : List (ℕ × Block)) → NoneKept first keep claimed → k + length es ≤ length claimed → AreLaid form list claimed frame k es → AreOut first keep es
  laid_out first keep k [] out most laid = tt
  laid_out first keep k (e ∷ es) out most laid =
      (ap (λ (b : ℕ). keep Image (first + b)) laid.0 ∙ out k 0 (omega (arith, most)), laid_out first keep (k + 1) es out (omega (arith, most)) laid.2)

-- ---- trees of so many records

no_more : (kind : Kind) (n l m b c : ℕ) → IsShape kind n l b → IsShape kind n m c → l < m → ⊥
no_more kind n l m b c h k lt =
    let some = h.some in
    let wide : 2 ≤ width kind n (l - 1) = k.below (l - 1) (omega (arith, lt, some)) in
    let top = h.top in
    omega (arith, wide, top)

-- a tree of so many records has only one number of blocks
pub one_tree : (kind : Kind) (n b c : ℕ) → IsTreeOf kind n b → IsTreeOf kind n c → b ≡ c
one_tree kind n b c h k =
    let same : h.0 ≡ k.0 = elim (cases_order h.0 k.0) [
      | inl is ↦ is
      | inr (inl below) ↦ absurd (no_more kind n h.0 k.0 b c h.1 k.1 below)
      | inr (inr above) ↦ absurd (no_more kind n k.0 h.0 c b k.1 h.1 above)
    ] in
    h.1.all ∙ ap (start kind n) same ∙ sym k.1.all

pub some_blocks : (kind : Kind) (n b : ℕ) → IsTreeOf kind n b → 0 < b
some_blocks kind n b h =
    let some = h.1.some in
    let top : ℕ = h.0 - 1 in
    let last : h.0 ≡ suc top = omega (arith, some) in
    let all : b ≡ start kind n top + width kind n top = h.1.all ∙ ap (start kind n) last ∙ start_on kind n top in
    let one = h.1.top in
    omega (arith, all, one)

-- a number below those of one tree is one of each
pub is_under : (kind : Kind) (n b k : ℕ) → IsTreeOf kind n b → k < b → IsUnder kind n k
is_under kind n b k h lt c other = let same = one_tree kind n b c h other in omega (arith, lt, same)

pub starts_under : (kind : Kind) (n : ℕ) → IsUnder kind n 0
starts_under kind n b h = some_blocks kind n b h

-- ---- a piece of a tree

heads_as : ℕ → ℕ → Site → Frame
heads_as g lsn site = record { group = g; first = site.first; uuid = site.uuid; lsn = lsn }

pub frame_is : (at : Layout) (g lsn : ℕ) (site : Site) → site ≡ site_of at g → ◌≡◌ {A = Frame} (record { group = g; first = site.first; uuid = site.uuid; lsn = lsn }) (frame_at at g lsn)
unfolding site_of heads_as
frame_is at g lsn site e = ap (heads_as g lsn) e

pub first_is : (at : Layout) (g : ℕ) (site : Site) → site ≡ site_of at g → site.first ≡ device_block_of at g 0
unfolding site_of
first_is at g site e = ap (λ (s : Site). s.first) e

pub length_is : (at : Layout) (g : ℕ) (site : Site) → site ≡ site_of at g → site.bounds.length ≡ group_len_of at g
unfolding site_of
length_is at g site e = ap (λ (s : Site). s.bounds.length) e

module _ {R K : Type 0} (form : Form R K) (list : List R) (reserve claimed : List ℕ) (blocks : ℕ) (front : claimed ≡ take blocks reserve) (frame : Frame) (from to : ℕ) (placed : List (ℕ × Block)) (loaded : IsLoaded form list claimed frame from to [] placed) (within : to ≤ length claimed) where
  more_is : ◌≡◌ {A = List (ℕ × Block)} placed (loaded.more)
  more_is = loaded.behind

  as_many : from + length (loaded.more) ≤ length claimed
  as_many = let many = loaded.many in omega (arith, many, within)

  pub piece_on : (limit len : ℕ) → frame.first + len ≤ limit → All (λ b. b < len) reserve → LieOn frame.first limit placed
  piece_on limit len fits inside =
      let all = subst (λ (l : List ℕ). All (λ b. b < len) l) (sym front) (All-take (λ b. b < len) blocks reserve inside) in
      subst (LieOn frame.first limit) (sym more_is) (laid_on form list claimed frame frame.first limit len from loaded.more fits all as_many loaded.laid)

  pub piece_out : (keep : Region → ℕ → Bool) → NoneKept frame.first keep reserve → AreOut frame.first keep placed
  piece_out keep none =
      let all = subst (λ (l : List ℕ). NoneKept frame.first keep l) (sym front) (All-take (λ b. keep Image (frame.first + b) ≡ false) blocks reserve none) in
      subst (AreOut frame.first keep) (sym more_is) (laid_out form list claimed frame frame.first keep from loaded.more all as_many loaded.laid)

-- ---- what a piece of a tree is

min_few : (a : ℕ) → min a 64 ≤ 64
min_few a = omega arith

module _ {R K : Type 0} (form : Form R K) (list : List R) (reserve claimed : List ℕ) (blocks levels : ℕ) (shape : IsShape form.kind (length list) levels blocks) (front : claimed ≡ take blocks reserve) (head wanted : Frame) (same : ◌≡◌ {A = Frame} head wanted) (from to : ℕ) (placed : List (ℕ × Block)) (loaded : IsLoaded form list claimed head from to [] placed) (next : to ≡ from + min (blocks - from) 64) (old new : Option Contents) (written : new ≡ map_told (with_blocks head.first placed) old) where
  few_placed : length placed ≤ 64
  few_placed =
      let all : length placed ≡ length (loaded.more) = ap (λ (l : List (ℕ × Block)). length l) loaded.behind in
      let many = loaded.many in
      let few = min_few (blocks - from) in
      omega (arith, all, many, next, few)

  as_wanted : (o : Option ℕ) → to ≡ end_of blocks o → IsLoaded form list (take blocks reserve) wanted from (end_of blocks o) [] placed
  as_wanted o end =
      subst (λ (h : Frame). IsLoaded form list (take blocks reserve) h from (end_of blocks o) [] placed) same
      (subst (λ (n : ℕ). IsLoaded form list (take blocks reserve) head from n [] placed) end
      (subst (λ (l : List ℕ). IsLoaded form list l head from to [] placed) front loaded))

  pub staged_as : (o : Option ℕ) → to ≡ end_of blocks o → IsStaged form list reserve wanted from o old new
  staged_as o end = record {
    blocks = blocks;
    tree = (levels, shape);
    placed = placed;
    loaded = as_wanted o end;
    few = few_placed;
    written = subst (λ (h : Frame). new ≡ map_told (with_blocks h.first placed) old) same written;
  }

-- what is left for the second tree
pub second_in : (first second : Kind) (n m : ℕ) (reserve rest : List ℕ) → HaveTwo first second n m (length reserve) → (blocks : ℕ) → IsTreeOf first n blocks → rest ≡ drop blocks reserve → HasTree second m (length rest)
second_in first second n m reserve rest h blocks tree is =
    subst (λ (k : ℕ). HasTree second m k) (sym (ap (λ (l : List ℕ). length l) is ∙ length-drop blocks reserve)) (h.1 blocks tree)
