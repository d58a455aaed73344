-- The faults of a group's free space and reference counts, and the evidence that stands before them, are those of the
-- state that the image stands for.
use Rattle.std.proofs.Common.{◌≡◌, ℕ, ◌+◌, ◌%◌, ◌^◌, ◌<◌, ◌≤◌, List, [], ◌∷◌, ◌++◌, length, refl, ap, sym, subst, ◌∙◌, arith, append_assoc, Option, Some, Ok, Err}
use Rattle.std.specs.Prelude.{⊤, ◌-◌}
use Rattle.std.proofs.lemmas.List.{append-nil}
use Rattle.ag_headers.specs.declared.agf.Agf.{Agf}
use Rattle.derive_defs.specs.ByCount.{greatest, ordered_by_count}
use Rattle.derive_defs.specs.Free.{block_count, free_space}
use Rattle.derive_defs.specs.Shared.{shared_space}
use Rattle.fs_state.specs.Contradiction.{evidence, first_contradiction, first_later, later_in}
use Rattle.fs_state.specs.Derive.{bno_of, cnt_of, derive, refc_of}
use Rattle.fs_state.specs.Faults.{blocks_counted, faults, faults_of_counter, faults_of_kind, wanted}
use Rattle.fs_state.specs.Faults.{beside_roots as beside_in, counter_fault as counter_in, index_faults as index_in}
use Rattle.fs_state.specs.Lists.{first_of_all}
use Rattle.fs_model.specs.declared.claim.Evidence.{Evidence}
use Rattle.fs_model.specs.declared.fault.Counter.{Counter}
use Rattle.fs_model.specs.declared.fault.Counter.TheVariants.{Freeblks, Longest, Btreeblks, RefcountBlocks}
use Rattle.fs_model.specs.declared.fault.Fault.{Fault}
use Rattle.fs_model.specs.declared.unit.Unit.TheVariants as units
use Rattle.fs_state.specs.Kinds.{Image, form_of}
use Rattle.fs_state.specs.Read.{Read, group_of}
use Rattle.fs_state.specs.State.{Reading, Readable, recs_of}
use Rattle.geom.specs.Apart.{HasFitting}
use Rattle.geom.specs.Layout.{Layout, group_len_of}
use Rattle.group_trees.proofs.ReadLemmas.{group_short}
use Rattle.group_trees.proofs.StateLemmas.{bno_said, cnt_said, refc_said, rmap_said}
use Rattle.group_trees.specs.Trees.{read_as, tree_by, tree_claimed, tree_walked}
use Rattle.inode_pass.specs.Units.{opened_state}
use Rattle.quiet_check.proofs.FaultLemmas.{counter_same}
use Rattle.quiet_check.specs.Judged.{Decided, IsJudged}
use Rattle.quiet_check.specs.Space.{IsFreeDecided, IsMapped, IsSharedDecided, free_evidence, later_read, shared_evidence}
use Rattle.quiet_check.specs.declared.judge.Judged.{Judged}
use Rattle.rmap_recs.specs.Rmap.{rmap_form}
use Rattle.rmap_recs.specs.RmapLaws.{lawful_rmap}
use Rattle.rmap_recs.specs.declared.records.RmapRec.{RmapRec}
use Rattle.sblock.specs.Form.{Form, IsLawful}
use Rattle.sblock.specs.Headers.{no_block}
use Rattle.sblock.specs.declared.kind.Kind.{Kind}
use Rattle.sblock.specs.declared.kind.Kind.TheVariants.{Bno, Cnt, Rmap, Refc}
use Rattle.space_check.specs.Faults.{beside_roots, blocks_fault, blocks_of, counter_fault, free_faults, index_faults, shared_faults}
use Rattle.space_check.specs.Groups.{tree_of}
use Rattle.space_check.specs.Reads.{reading_of}
use Rattle.space_check.specs.declared.reads.IndexRead.{IndexRead}
use Rattle.span_recs.specs.RefcountLaws.{lawful_refc}
use Rattle.span_recs.specs.Refcounts.{refc_form}
use Rattle.span_recs.specs.SpanLaws.{lawful_bno, lawful_cnt}
use Rattle.span_recs.specs.Spans.{bno_form, cnt_form}
use Rattle.span_recs.specs.declared.refcount.RefcRec.{RefcRec}
use Rattle.span_recs.specs.declared.span.SpanRec.{SpanRec}
use Rattle.tree_blocks.specs.declared.tree.TreeRead.{TreeRead}
use Rattle.tree_defs.proofs.Rows.{blocks_differ_lem}
use Rattle.tree_defs.proofs.Trees.{reads_trees_lem}
use Rattle.tree_defs.specs.Sites.{site_of, group_blocks}
use Rattle.tree_defs.specs.Tree.{read_tree}
use Rattle.xref_scrub.specs.Shown.{bno_shown, cnt_shown, refc_shown}

-- ---- a tree has fewer blocks than its group

abbrev HasFew : {R : Type 0} → ℕ → Read R → Type 0
HasFew n (Ok read) = length read.1 < n
HasFew n (Err bad) = ⊤

few_by : {R : Type 0} (n : ℕ) (r : Read R) → ((recs : List R) (blocks : List ℕ) → r ≡ Ok (recs, blocks) → length blocks < n) → HasFew n r
few_by n (Ok read) h = h read.0 read.1 refl
few_by n (Err bad) h = tt

few_blocks : {R K : Type 0} (form : Form R K) (at : Layout) (image : Image) (g root levels : ℕ) → IsLawful form → HasFitting at → HasFew (group_len_of at g) (tree_of at image g form root levels)
unfolding tree_of site_of
few_blocks form at image g root levels law fit =
    let site = site_of at g in
    let short = group_short at g fit in
    let bound : site.bounds.length ≤ no_block = omega (arith, short) in
    few_by (group_len_of at g) (read_tree form site (group_blocks site image) root levels)
    (λ recs blocks is. (blocks_differ_lem form site (group_blocks site image) root levels recs blocks bound ((reads_trees_lem form law site (group_blocks site image) root levels recs blocks).0 is)).1)

-- ---- the parts

index_bno : (d : List SpanRec) (r : Read SpanRec) (cs : List ℕ) → index_faults bno_form bno_shown d r ≡ index_in Bno d (read_as r cs)
unfolding form_of
index_bno d (Ok read) cs = refl
index_bno d (Err bad) cs = refl

index_cnt : (d : List SpanRec) (r : Read SpanRec) (cs : List ℕ) → index_faults cnt_form cnt_shown d r ≡ index_in Cnt d (read_as r cs)
unfolding form_of
index_cnt d (Ok read) cs = refl
index_cnt d (Err bad) cs = refl

index_refc : (d : List RefcRec) (r : Read RefcRec) (cs : List ℕ) → index_faults refc_form refc_shown d r ≡ index_in Refc d (read_as r cs)
unfolding form_of
index_refc d (Ok read) cs = refl
index_refc d (Err bad) cs = refl

later_as : {R : Type 0} (k : Kind) (r : Read R) (cs : List ℕ) → later_read k r ≡ later_in k (read_as r cs)
later_as k (Ok read) cs = refl
later_as k (Err bad) cs = refl

low_is : (n : ℕ) → n < 2 ^ 32 → n % 2 ^ 32 ≡ n
low_is n lt = omega (arith, lt)

blocks_same : {R : Type 0} (name : Counter) (found len : ℕ) (r : Read R) (cs : List ℕ) → len ≤ 2 ^ 28 → HasFew len r → blocks_fault name found (blocks_of r) ≡ counter_in name found (blocks_counted (read_as r cs))
blocks_same name found len (Ok read) cs short few = counter_same name found (length read.1 % 2 ^ 32) ∙ ap (λ n. counter_in name found (Some n)) (low_is (length read.1) (omega (arith, short, few)))
blocks_same name found len (Err bad) cs short few = refl

beside_same : {R S : Type 0} (name : Counter) (found len m : ℕ) (r : Read R) (s : Read S) (cs ds : List ℕ) → len ≤ 2 ^ 28 → HasFew len r → HasFew len s → m < len
    → blocks_fault name found (beside_roots r s m) ≡ counter_in name found (beside_in (blocks_counted (read_as r cs)) (blocks_counted (read_as s ds)) (Some m))
beside_same name found len m (Ok r) (Ok s) cs ds short few_r few_s few_m =
    counter_same name found ((length r.1 + length s.1 + m - 3) % 2 ^ 32) ∙ ap (λ n. counter_in name found (Some n)) (low_is (length r.1 + length s.1 + m - 3) (omega (arith, short, few_r, few_s, few_m)))
beside_same name found len m (Ok r) (Err bad) cs ds short few_r few_s few_m = refl
beside_same name found len m (Err bad) s cs ds short few_r few_s few_m = refl

shape : (x y c d e : List Fault) → (((x ++ y) ++ c) ++ d) ++ e ≡ (x ++ (y ++ [])) ++ (c ++ (d ++ (e ++ [])))
shape x y c d e =
    append_assoc ((x ++ y) ++ c) d e ∙ append_assoc (x ++ y) c (d ++ e)
    ∙ (λ i. (x ++ sym (append-nil y) i) ++ (c ++ (d ++ sym (append-nil e) i)))

pair_shape : (x c : List Fault) → x ++ c ≡ (x ++ []) ++ (c ++ [])
pair_shape x c = λ i. sym (append-nil x) i ++ sym (append-nil c) i

decided_as : (o p : Option Evidence) (fs gs : List Fault) (j : Judged) → o ≡ p → fs ≡ gs → Decided o fs j → Decided p gs j
decided_as o p fs gs j same is h = subst (λ (x : Option Evidence). Decided x gs j) same (subst (λ (x : List Fault). Decided o x j) is h)

module _ (at : Layout) (image : Image) (g : ℕ) (agf : Agf) (mapped : TreeRead RmapRec) (fit : HasFitting at) (is : IsMapped at image g agf mapped) where
  abbrev pub read_bno : Read SpanRec
  read_bno = tree_of at image g bno_form agf.bno_root agf.bno_level

  abbrev pub read_cnt : Read SpanRec
  read_cnt = tree_of at image g cnt_form agf.cnt_root agf.cnt_level

  abbrev pub read_refc : Read RefcRec
  read_refc = tree_of at image g refc_form agf.refcount_root agf.refcount_level

  bno_is : (((opened_state at image).group g).tree Bno).reading ≡ read_as read_bno (tree_claimed bno_form at image g agf.bno_root agf.bno_level)
  unfolding tree_by tree_walked tree_of
  bno_is = bno_said at image g ∙ (λ i. tree_by_head (sym is.named i)) where
    tree_by_head : Agf → Reading SpanRec
    tree_by_head h = read_as (tree_of at image g bno_form h.bno_root h.bno_level) (tree_claimed bno_form at image g h.bno_root h.bno_level)

  cnt_is : (((opened_state at image).group g).tree Cnt).reading ≡ read_as read_cnt (tree_claimed cnt_form at image g agf.cnt_root agf.cnt_level)
  unfolding tree_by tree_walked tree_of
  cnt_is = cnt_said at image g ∙ (λ i. tree_by_head (sym is.named i)) where
    tree_by_head : Agf → Reading SpanRec
    tree_by_head h = read_as (tree_of at image g cnt_form h.cnt_root h.cnt_level) (tree_claimed cnt_form at image g h.cnt_root h.cnt_level)

  refc_is : (((opened_state at image).group g).tree Refc).reading ≡ read_as read_refc (tree_claimed refc_form at image g agf.refcount_root agf.refcount_level)
  unfolding tree_by tree_walked tree_of
  refc_is = refc_said at image g ∙ (λ i. tree_by_head (sym is.named i)) where
    tree_by_head : Agf → Reading RefcRec
    tree_by_head h = read_as (tree_of at image g refc_form h.refcount_root h.refcount_level) (tree_claimed refc_form at image g h.refcount_root h.refcount_level)

  rmap_by : (((opened_state at image).group g).tree Rmap).reading ≡ read_as (tree_of at image g rmap_form agf.rmap_root agf.rmap_level) (tree_claimed rmap_form at image g agf.rmap_root agf.rmap_level)
  unfolding tree_by tree_walked tree_of
  rmap_by = rmap_said at image g ∙ (λ i. tree_by_head (sym is.named i)) where
    tree_by_head : Agf → Reading RmapRec
    tree_by_head h = read_as (tree_of at image g rmap_form h.rmap_root h.rmap_level) (tree_claimed rmap_form at image g h.rmap_root h.rmap_level)

  rmap_is : (((opened_state at image).group g).tree Rmap).reading ≡ Readable mapped.recs.items mapped.blocks.items
  rmap_is = rmap_by ∙ ap (λ (r : Read RmapRec). read_as r (tree_claimed rmap_form at image g agf.rmap_root agf.rmap_level)) is.mapped_is

  few_mapped : length mapped.blocks.items < group_len_of at g
  few_mapped = subst (HasFew (group_len_of at g)) is.mapped_is (few_blocks rmap_form at image g agf.rmap_root agf.rmap_level lawful_rmap fit)

  short : group_len_of at g ≤ 2 ^ 28
  short = group_short at g fit

  maps_are : recs_of (((opened_state at image).group g).tree Rmap).reading ≡ mapped.recs.items
  maps_are = ap recs_of rmap_is

  -- ---- free space

  free_same : free_faults (group_len_of at g) agf mapped.recs.items (length mapped.blocks.items) read_bno read_cnt ≡ faults (opened_state at image) g units.Free
  unfolding faults free_faults derive bno_of cnt_of wanted group_of
  free_same =
      let a = opened_state at image in
      let len = group_len_of at g in
      let maps = mapped.recs.items in
      let cb = tree_claimed bno_form at image g agf.bno_root agf.bno_level in
      let cd = tree_claimed cnt_form at image g agf.cnt_root agf.cnt_level in
      let x : index_faults bno_form bno_shown (free_space len maps) read_bno ≡ faults_of_kind a g Bno =
      index_bno (free_space len maps) read_bno cb ∙ (λ i. index_in Bno (free_space len (sym maps_are i)) (sym bno_is i)) in
      let y : index_faults cnt_form cnt_shown (ordered_by_count (free_space len maps)) read_cnt ≡ faults_of_kind a g Cnt =
      index_cnt (ordered_by_count (free_space len maps)) read_cnt cd ∙ (λ i. index_in Cnt (ordered_by_count (free_space len (sym maps_are i))) (sym cnt_is i)) in
      let c : counter_fault Freeblks agf.freeblks (block_count (free_space len maps)) ≡ faults_of_counter a g Freeblks =
      counter_same Freeblks agf.freeblks (block_count (free_space len maps)) ∙ (λ i. counter_in Freeblks (is.named i).freeblks (Some (block_count (free_space len (sym maps_are i))))) in
      let d : counter_fault Longest agf.longest (greatest (ordered_by_count (free_space len maps))) ≡ faults_of_counter a g Longest =
      counter_same Longest agf.longest (greatest (ordered_by_count (free_space len maps))) ∙ (λ i. counter_in Longest (is.named i).longest (Some (greatest (ordered_by_count (free_space len (sym maps_are i)))))) in
      let e : blocks_fault Btreeblks agf.btreeblks (beside_roots read_bno read_cnt (length mapped.blocks.items)) ≡ faults_of_counter a g Btreeblks =
      beside_same Btreeblks agf.btreeblks len (length mapped.blocks.items) read_bno read_cnt cb cd short
      (few_blocks bno_form at image g agf.bno_root agf.bno_level lawful_bno fit) (few_blocks cnt_form at image g agf.cnt_root agf.cnt_level lawful_cnt fit) few_mapped
      ∙ (λ i. counter_in Btreeblks (is.named i).btreeblks (beside_in (blocks_counted (sym bno_is i)) (blocks_counted (sym cnt_is i)) (blocks_counted (sym rmap_is i)))) in
      (λ i. (((x i ++ y i) ++ c i) ++ d i) ++ e i) ∙ shape (faults_of_kind a g Bno) (faults_of_kind a g Cnt) (faults_of_counter a g Freeblks) (faults_of_counter a g Longest) (faults_of_counter a g Btreeblks)

  free_later : free_evidence read_bno read_cnt ≡ evidence (opened_state at image) g units.Free
  unfolding evidence first_contradiction first_later
  free_later =
      let b : later_read Bno read_bno ≡ later_in Bno (((opened_state at image).group g).tree Bno).reading = later_as Bno read_bno (tree_claimed bno_form at image g agf.bno_root agf.bno_level) ∙ ap (later_in Bno) (sym bno_is) in
      let c : later_read Cnt read_cnt ≡ later_in Cnt (((opened_state at image).group g).tree Cnt).reading = later_as Cnt read_cnt (tree_claimed cnt_form at image g agf.cnt_root agf.cnt_level) ∙ ap (later_in Cnt) (sym cnt_is) in
      λ i. first_of_all (b i ∷ c i ∷ [])

  pub free_judged : (bno cnt : IndexRead SpanRec) (j : Judged) → read_bno ≡ reading_of bno → read_cnt ≡ reading_of cnt → IsFreeDecided (group_len_of at g) agf mapped bno cnt j → IsJudged (opened_state at image) g units.Free j
  free_judged bno cnt j b c h =
      decided_as (free_evidence (reading_of bno) (reading_of cnt)) (evidence (opened_state at image) g units.Free)
      (free_faults (group_len_of at g) agf mapped.recs.items (length mapped.blocks.items) (reading_of bno) (reading_of cnt)) (faults (opened_state at image) g units.Free) j
      ((λ i. free_evidence (sym b i) (sym c i)) ∙ free_later)
      ((λ i. free_faults (group_len_of at g) agf mapped.recs.items (length mapped.blocks.items) (sym b i) (sym c i)) ∙ free_same)
      h

  -- ---- reference counts

  shared_same : shared_faults agf mapped.recs.items read_refc ≡ faults (opened_state at image) g units.Refc
  unfolding faults shared_faults derive refc_of wanted group_of
  shared_same =
      let a = opened_state at image in
      let maps = mapped.recs.items in
      let cs = tree_claimed refc_form at image g agf.refcount_root agf.refcount_level in
      let x : index_faults refc_form refc_shown (shared_space maps) read_refc ≡ faults_of_kind a g Refc =
      index_refc (shared_space maps) read_refc cs ∙ (λ i. index_in Refc (shared_space (sym maps_are i)) (sym refc_is i)) in
      let c : blocks_fault RefcountBlocks agf.refcount_blocks (blocks_of read_refc) ≡ faults_of_counter a g RefcountBlocks =
      blocks_same RefcountBlocks agf.refcount_blocks (group_len_of at g) read_refc cs short (few_blocks refc_form at image g agf.refcount_root agf.refcount_level lawful_refc fit)
      ∙ (λ i. counter_in RefcountBlocks (is.named i).refcount_blocks (blocks_counted (sym refc_is i))) in
      (λ i. x i ++ c i) ∙ pair_shape (faults_of_kind a g Refc) (faults_of_counter a g RefcountBlocks)

  shared_later : shared_evidence read_refc ≡ evidence (opened_state at image) g units.Refc
  unfolding evidence first_contradiction first_later
  shared_later =
      let c : later_read Refc read_refc ≡ later_in Refc (((opened_state at image).group g).tree Refc).reading = later_as Refc read_refc (tree_claimed refc_form at image g agf.refcount_root agf.refcount_level) ∙ ap (later_in Refc) (sym refc_is) in
      λ i. first_of_all (c i ∷ [])

  pub shared_judged : (refc : IndexRead RefcRec) (j : Judged) → read_refc ≡ reading_of refc → IsSharedDecided agf mapped.recs.items refc j → IsJudged (opened_state at image) g units.Refc j
  shared_judged refc j r h =
      decided_as (shared_evidence (reading_of refc)) (evidence (opened_state at image) g units.Refc)
      (shared_faults agf mapped.recs.items (reading_of refc)) (faults (opened_state at image) g units.Refc) j
      ((λ i. shared_evidence (sym r i)) ∙ shared_later)
      ((λ i. shared_faults agf mapped.recs.items (sym r i)) ∙ shared_same)
      h
