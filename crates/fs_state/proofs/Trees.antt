-- A tree that can be read is read alike where its blocks, its root and its level stay.
use Rattle.std.proofs.Common.{◌≡◌, ℕ, ◌+◌, ◌-◌, ◌≤◌, true, List, [], ◌∷◌, Option, Some, None, Ok, Err, is_ok, refl, ap, sym, subst, ◌∙◌, inl, inr, arith}
use Rattle.std.proofs.lemmas.Bool.{false≢true}
use Rattle.std.proofs.lemmas.Bool.Decides.{nat_tests}
use Rattle.geom.specs.Layout.{Layout, device_block_of}
use Rattle.sblock.specs.Form.{Form, IsLawful}
use Rattle.sblock.specs.declared.kind.Kind.{Kind}
use Rattle.sblock.specs.declared.kind.Kind.TheVariants.{Bno, Cnt, Rmap, Refc, Ino, Fino}
use Rattle.span_recs.specs.SpanLaws.{lawful_bno, lawful_cnt}
use Rattle.span_recs.specs.RefcountLaws.{lawful_refc}
use Rattle.rmap_recs.specs.RmapLaws.{lawful_rmap}
use Rattle.ino_recs.specs.ChunkLaws.{lawful_ino, lawful_fino}
use Rattle.tree_defs.specs.Frame.{SameAt}
use Rattle.tree_defs.specs.Levels.{blocks_of as all_blocks}
use Rattle.tree_defs.specs.Sites.{site_of, group_blocks}
use Rattle.tree_defs.specs.Tree.{top_of, read_tree}
use Rattle.tree_defs.specs.declared.site.Site.{Site}
use Rattle.tree_defs.proofs.Frames.{reads_own_blocks_lem}
use Rattle.tree_defs.proofs.Trees.{reads_trees_lem}
use Rattle.fs_state.specs.Apart.{In}
use Rattle.fs_state.specs.Kinds.{form_of, Image, heads_of, root_of, level_of}
use Rattle.fs_state.specs.Read.{Read, known, walked, claimed, reading_of}
use Rattle.fs_state.specs.State.{Bad, Kept, blocks_of}

pub lawful_of : (k : Kind) → IsLawful (form_of k)
unfolding form_of
lawful_of Bno = lawful_bno
lawful_of Cnt = lawful_cnt
lawful_of Rmap = lawful_rmap
lawful_of Refc = lawful_refc
lawful_of Ino = lawful_ino
lawful_of Fino = lawful_fino

same_all : (m n : ℕ → List ℕ) (ps : List ℕ) → ((p : ℕ) → In p ps → n p ≡ m p) → SameAt m n ps
same_all m n [] h = tt
same_all m n (p ∷ ps) h = (sym (h p (inl refl)), same_all m n ps (λ q i. h q (inr i)))

top_is : (levels : ℕ) → 1 ≤ levels → levels ≤ 9 → top_of levels ≡ levels - 1
top_is levels lo hi = grind (arith, nat_tests)

-- the law of one tree, in any form
pub tree_stays : {R K : Type 0} (form : Form R K) → IsLawful form → (site : Site) (m n : ℕ → List ℕ) (root levels : ℕ) (x : List R × List ℕ) → read_tree form site m root levels ≡ Ok x → ((p : ℕ) → In p x.1 → n p ≡ m p) → read_tree form site n root levels ≡ Ok x
tree_stays form law site m n root levels x read same =
    let t = (reads_trees_lem form law site m root levels x.0 x.1).0 read in
    let top : top_of levels ≡ levels - 1 = top_is levels t.has_levels.0 t.has_levels.1 in
    let bs : x.1 ≡ all_blocks form m (top_of levels) root = t.blocks_are ∙ ap (λ l. all_blocks form m l root) (sym top) in
    reads_own_blocks_lem form site m n root levels (subst (SameAt m n) bs (same_all m n x.1 same)) ∙ read

known_stays : {R : Type 0} (bad bad' : Option Bad) (read read' : Read R) (cs cs' : List ℕ) → bad' ≡ bad → (bad ≡ None → is_ok read ≡ true) → ((x : List R × List ℕ) → bad ≡ None → read ≡ Ok x → read' ≡ Ok x) → known bad' read' cs' ≡ known bad read cs
known_stays (Some b) bad' read read' cs cs' e ok step = rw e refl
known_stays None bad' (Ok x) read' cs cs' e ok step = rw (e, step x refl refl) refl
known_stays None bad' (Err f) read' cs cs' e ok step = absurd (false≢true (ok refl))

pub first_is : (at : Layout) (g p : ℕ) → (site_of at g).first + p ≡ device_block_of at g p
unfolding site_of
first_is at g p = omega arith

-- what is read of a tree that the heads still name, and whose blocks stay
pub reading_stays : (at : Layout) (image image' : Image) (kept kept' : Kept) (g : ℕ) (k : Kind) → kept'.bad g k ≡ kept.bad g k → (kept.bad g k ≡ None → is_ok (walked at image g k) ≡ true) → root_of (heads_of at image' g) k ≡ root_of (heads_of at image g) k → level_of (heads_of at image' g) k ≡ level_of (heads_of at image g) k → ((p : ℕ) → In p (blocks_of (reading_of at image kept g k)) → image' (device_block_of at g p) ≡ image (device_block_of at g p)) → reading_of at image' kept' g k ≡ reading_of at image kept g k
unfolding reading_of walked
reading_stays at image image' kept kept' g k bad ok root level same =
    known_stays (kept.bad g k) (kept'.bad g k) (walked at image g k) (walked at image' g k) (claimed at image g k) (claimed at image' g k) bad ok (λ x none read.
    let at_blocks : (p : ℕ) → In p x.1 → group_blocks (site_of at g) image' p ≡ group_blocks (site_of at g) image p = λ p i. rw (first_is at g p) (same p (rw (none, read) i)) in
    rw (root, level) (tree_stays (form_of k) (lawful_of k) (site_of at g) (group_blocks (site_of at g) image) (group_blocks (site_of at g) image') (root_of (heads_of at image g) k) (level_of (heads_of at image g) k) x read at_blocks))
