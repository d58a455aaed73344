-- A run that leaves both indexes of free space.
use Rattle.std.proofs.Common.{◌≡◌, ◌≤◌, ◌<◌, ◌+◌, ◌-◌, ◌^◌, ℕ, Bool, true, false, List, [], ◌∷◌, ◌++◌, Ok, refl, sym, ap, subst, ◌∙◌, arith, eqb-true, leb-true, find, reverse}
use Rattle.std.specs.Prelude.{◌&&◌, ◌==◌, nat_le, nat_lt, if◌then◌else◌, Option, Some, None, option_map, option_to_list}
use Rattle.std.specs.Option.{option_map_or}
use Rattle.std.proofs.lemmas.Bool.{and_parts}
use Rattle.std.proofs.lemmas.Bool.Decides.{nat_tests}
use Rattle.blk_device.specs.Contents.{Contents}
use Rattle.blk_device.specs.declared.device.Region.TheVariants as regions
use Rattle.free_space.specs.Spans.{IsInside, before_in, behind_in, count_in, does_meet, start_in}
use Rattle.free_space.specs.declared.spans.Rest.{Rest}
use Rattle.geom.specs.Layout.{Layout}
use Rattle.kind_laws.specs.Laws.{WritesEach}
use Rattle.list_edit.specs.Edits.{inserted}
use Rattle.list_edit.specs.declared.edits.Edit.{Edit}
use Rattle.meta_txn.specs.Joined.{written}
use Rattle.redo_area.specs.Area.{Batch}
use Rattle.sblock.specs.Blocks.{IsRising}
use Rattle.sblock.specs.Form.{IsLawful}
use Rattle.sblock.specs.Lists.{Each, Rises}
use Rattle.sblock.specs.declared.block.Bounds.{Bounds}
use Rattle.sblock.specs.declared.kind.Kind.{Kind}
use Rattle.sblock.specs.declared.kind.Kind.TheVariants.{Bno, Cnt}
use Rattle.span_recs.specs.Spans.{is_before_by_count, is_before_by_start, is_span_in_range, span_form}
use Rattle.span_recs.specs.declared.span.SpanRec.{SpanRec}
use Rattle.tree_defs.specs.Sites.{site_of, group_blocks}
use Rattle.tree_defs.proofs.Trees.{reads_trees_lem}
use Rattle.fs_model.specs.declared.fault.Cause.{Cause}
use Rattle.fs_model.specs.declared.record.AnyRec.{AnyRec}
use Rattle.fs_change.specs.Changes.{by_count}
use Rattle.fs_change.specs.Records.{before_run, behind_run, by_start, end_of, give_span, holder_of, joined_run, last_at, only_where, rest_of, span, swap_spans, take_span}
use Rattle.fs_state.specs.Lists.{only_if}
use Rattle.ag_headers.specs.Ring.{entries}
use Rattle.tree_defs.specs.Lists.{times}
use Rattle.fs_state.specs.Edits.{Now, Among, EditLaw, Edits, held}
use Rattle.core_edit.specs.Open.{freed_blocks}
use Rattle.core_edit.specs.declared.open.Freed.{Freed}
use Rattle.fs_state.specs.Kinds.{RecOf, form_of}
use Rattle.fs_state.proofs.Trees.{lawful_of}
use Rattle.core_edit.specs.Edited.{EditsRow, FitRow, FitsMaybe, Row, StepsRow, any_of, edited_row, row_of}
use Rattle.core_edit.specs.Gains.{goes, maybe_comes}
use Rattle.core_edit.specs.One.{SameEdit}
use Rattle.core_edit.specs.Space.{EditsIndex, HoldsRun, KnowsSpans, MakesSpace, is_done, give_row, only, piece_before, piece_behind, take_row}
use Rattle.core_edit.specs.Stands.{About, Stands}
use Rattle.core_edit.specs.declared.heads.EditHeads.{EditHeads}
use Rattle.core_edit.specs.declared.open.OpenEdit.{OpenEdit}
use Rattle.core_edit.specs.declared.space.SpaceKinds.{SpaceKinds}
use Rattle.core_edit.specs.declared.space.SpaceLeft.{SpaceLeft}
use Rattle.core_edit.proofs.AddLemmas.{recs_stand}
use Rattle.core_edit.proofs.RmapLemmas.{find_passes}
use Rattle.core_edit.proofs.RowLemmas.{makes_row, stands_marked}
use Rattle.core_edit.proofs.SpanLemmas.{join_is, last_is, last_or, puts_by_count, puts_by_start, swap_is}

-- ---- what stands, where nothing was done

-- with limbo of another edit
of_held : OpenEdit → ℕ → EditHeads → Batch → Freed → OpenEdit
of_held e g h blocks f = record e { group = g; heads = h; txn = record e.txn { blocks = blocks }; freed = f }

same_freed : (f f' : Freed) → f'.ag.items ≡ f.ag.items → f'.inobt.items ≡ f.inobt.items → f'.refc.items ≡ f.refc.items → freed_blocks f' ≡ freed_blocks f
same_freed f f' a i r =
    ap (λ (l : List ℕ). l ++ (f'.inobt.items ++ f'.refc.items)) a
    ∙ ap (λ (l : List ℕ). f.ag.items ++ (l ++ f'.refc.items)) i
    ∙ ap (λ (l : List ℕ). f.ag.items ++ (f.inobt.items ++ l)) r

module _ (a : About) (now : (k : Kind) → Now k) where
  Here : OpenEdit → Type 0
  Here e = Stands a now e

  -- the same numbers in limbo
  stands_freed : (e : OpenEdit) (f : Freed) → freed_blocks f ≡ freed_blocks e.freed → Stands a now e → Stands a now (record e { freed = f })
  stands_freed e f same st =
      let outs = ap (λ (l : List ℕ). entries e.heads.list ++ l) (sym same) in
      record {
        group = st.group;
        distinct = st.distinct;
        are_of = st.are_of;
        edits = subst (λ (l : List ℕ). Edits a.at (written a.image e.txn) a.group a.kinds now l) outs st.edits;
        named = st.named;
        moved = λ p. ap (λ (l : List ℕ). times p (held a.kinds now l)) (sym outs) ∙ st.moved p;
        lie = st.lie;
        fares = st.fares;
        roots = st.roots;
        counts = st.counts;
        tallies = st.tallies;
      }

  pub stands_same : (e e' : OpenEdit) → SameEdit e e' → Stands a now e → Stands a now e'
  unfolding Here of_held
  stands_same e e' s st =
      let x1 : Here (of_held e' e.group e.heads e.txn.blocks e.freed) = record { group = st.group; distinct = st.distinct; are_of = st.are_of; edits = st.edits; named = st.named; moved = st.moved; lie = st.lie; fares = st.fares; roots = st.roots; counts = st.counts; tallies = st.tallies } in
      let x2 = subst (λ (x : ℕ). Here (of_held e' x e.heads e.txn.blocks e.freed)) (sym s.mark.group) x1 in
      let x3 = subst (λ (x : EditHeads). Here (of_held e' e'.group x e.txn.blocks e.freed)) (sym s.heads) x2 in
      let x4 : Stands a now (record e' { freed = e.freed }) = subst (λ (x : Batch). Here (of_held e' e'.group e'.heads x e.freed)) (sym s.joined) x3 in
      stands_freed (record e' { freed = e.freed }) e'.freed (same_freed e.freed e'.freed s.ag s.inobt s.refc) x4

  -- the records of a tree that stands rise
  pub rises_of : (e : OpenEdit) → Stands a now e → (k : Kind) → Among k a.kinds → IsRising (form_of k) (now k).recs
  rises_of e st k among = ((reads_trees_lem (form_of k) (lawful_of k) (site_of a.at a.group) (group_blocks (site_of a.at a.group) (written a.image e.txn)) (now k).root (now k).levels (now k).recs (now k).blocks).0 (st.edits.reads k among)).rises

-- a row of places that are all empty
AllNone : Row → Type 0
AllNone [] = Unit {0}
AllNone (None ∷ xs) = AllNone xs
AllNone (Some x ∷ xs) = ⊥

stay_all : (at : Layout) (told : Option Contents) (xs : Row) → AllNone xs → (e last : OpenEdit) → StepsRow at told xs e last → last ≡ e
unfolding AllNone
stay_all at told [] none e last s = s
stay_all at told (None ∷ xs) none e last s = stay_all at told xs none s.0 last s.2 ∙ s.1
stay_all at told (Some x ∷ xs) none e last s = absurd none

-- ---- one index

module _ (at : Layout) (c : Contents) (law : EditLaw) (k : Kind) (writes : WritesEach (form_of k)) (kind_is : (form_of k).kind ≡ k) (xs : List (Option (Edit × RecOf k))) (f : List (RecOf k) → List (RecOf k)) (a : About) (now : (j : Kind) → Now j) (at_is : a.at ≡ at) (image_is : a.image ≡ c regions.Image) (e e' : OpenEdit) (st : Stands a now e) where
  abbrev After : Bool → Option Cause → Type 0
  After on left = (next : (j : Kind) → Now j) × ((next k).recs ≡ (if is_done on left then f (now k).recs else (now k).recs)) × ((j : Kind) → (j ≡ k → ⊥) → next j ≡ now j) × Stands a next e'

  index_stands : (on : Bool) (left : Option Cause) → (on ≡ true → Among k a.kinds) → (on ≡ true → (old new : List (RecOf k)) → IsRising (form_of k) old → edited_row (form_of k) xs old ≡ Ok new → new ≡ f old) → (on ≡ false → AllNone (row_of k xs))
      → EditsIndex at (Some c) (row_of k xs) left e e' → After on left
  index_stands true None among does none s =
      let i = among refl in
      let done = makes_row at (Some c) k xs e e' law writes kind_is s a now at_is image_is i st in
      (done.2.next, done.2.recs_are ∙ does refl (now k).recs done.0 (rises_of a now e st k i) done.1, done.2.others, done.2.stands)
  index_stands true (Some cause) among does none s = (now, refl, λ j ne. refl, stands_same a now e e' s st)
  index_stands false None among does none s = (now, refl, λ j ne. refl, stands_marked a now s.0 e' s.2 (subst (Stands a now) (sym (stay_all at (Some c) (row_of k xs) (none refl) e s.0 s.1)) st))
  index_stands false (Some cause) among does none s = (now, refl, λ j ne. refl, stands_same a now e e' s st)

-- ---- both

opt_if : (b : Bool) (x : SpanRec) → option_to_list (if b then Some x else None) ≡ only_if b x
opt_if true x = refl
opt_if false x = refl

pieces_are : (o : Option SpanRec) (run : SpanRec) → option_to_list (piece_before o run) ++ option_to_list (piece_behind o run) ≡ option_map_or (rest_of run) o []
pieces_are None run = refl
pieces_are (Some r) run =
    ap (λ (l : List SpanRec). l ++ option_to_list (behind_in r run)) (opt_if (nat_lt r.start run.start) (span r.start (run.start - r.start)))
    ∙ ap (λ (l : List SpanRec). only_if (nat_lt r.start run.start) (span r.start (run.start - r.start)) ++ l) (opt_if (nat_lt (end_of run) (end_of r)) (span (end_of run) (end_of r - end_of run)))

takes : (k : Kind) (before : SpanRec → SpanRec → Bool) (law : IsLawful (span_form k before)) (put : SpanRec → List SpanRec → List SpanRec) → ((r : SpanRec) (xs : List SpanRec) → inserted (span_form k before) r xs ≡ put r xs) → (recs : List SpanRec) (run : SpanRec) (old new : List SpanRec) → Rises before old
    → edited_row (span_form k before) (take_row true recs run) old ≡ Ok new → new ≡ take_span put recs run old
unfolding take_span
takes k before law put puts recs run old new rise h =
    swap_is k before law put puts (holder_of recs run) (piece_before (holder_of recs run) run) (piece_behind (holder_of recs run) run) old new rise h
    ∙ ap (λ (l : List SpanRec). swap_spans put (option_to_list (holder_of recs run)) l old) (pieces_are (holder_of recs run) run)

takes_bno : (recs : List SpanRec) (run : SpanRec) (old new : List (RecOf Bno)) → IsRising (form_of Bno) old → edited_row (form_of Bno) (take_row true recs run) old ≡ Ok new → new ≡ take_span by_start recs run old
unfolding form_of
takes_bno recs run old new rise h = takes Bno is_before_by_start (lawful_of Bno) by_start puts_by_start recs run old new rise h

takes_cnt : (recs : List SpanRec) (run : SpanRec) (old new : List (RecOf Cnt)) → IsRising (form_of Cnt) old → edited_row (form_of Cnt) (take_row true recs run) old ≡ Ok new → new ≡ take_span by_count recs run old
unfolding form_of
takes_cnt recs run old new rise h = takes Cnt is_before_by_count (lawful_of Cnt) by_count puts_by_count recs run old new rise h

module _ (at : Layout) (c : Contents) (law : EditLaw) (writes_bno : WritesEach (form_of Bno)) (writes_cnt : WritesEach (form_of Cnt)) (bno_is : (form_of Bno).kind ≡ Bno) (cnt_is : (form_of Cnt).kind ≡ Cnt) (run : SpanRec) (a : About) (now : (j : Kind) → Now j) (at_is : a.at ≡ at) (image_is : a.image ≡ c regions.Image) (e e1 e2 : OpenEdit) (st : Stands a now e) where
  abbrev Known : Bool → List SpanRec
  Known bno = if bno then (now Bno).recs else []

  known_is : (bno : Bool) (recs : List SpanRec) → (bno ≡ true → Among Bno a.kinds) → KnowsSpans at (Some c) bno e recs → recs ≡ Known bno
  unfolding form_of
  known_is true recs among known = recs_stand at Bno c e recs a now at_is image_is (among refl) st known
  known_is false recs among known = known

  abbrev Result : Bool → Bool → Option Cause → Option Cause → Type 0
  Result bno cnt lb lc =
      (next : (j : Kind) → Now j)
      × ((next Bno).recs ≡ (if is_done bno lb then take_span by_start (now Bno).recs run (now Bno).recs else (now Bno).recs))
      × ((next Cnt).recs ≡ (if is_done cnt lc then take_span by_count (Known bno) run (now Cnt).recs else (now Cnt).recs))
      × ((j : Kind) → (j ≡ Bno → ⊥) → (j ≡ Cnt → ⊥) → next j ≡ now j)
      × Stands a next e2

  own_recs : (bno : Bool) (lb : Option Cause) (rs : List SpanRec) → (if is_done bno lb then take_span by_start (if bno then rs else []) run rs else rs) ≡ (if is_done bno lb then take_span by_start rs run rs else rs)
  own_recs true lb rs = refl
  own_recs false lb rs = refl

  takes_both : (bno cnt : Bool) (lb lc : Option Cause) (recs : List SpanRec) → (bno ≡ true → Among Bno a.kinds) → (cnt ≡ true → Among Cnt a.kinds) → KnowsSpans at (Some c) bno e recs
      → EditsIndex at (Some c) (row_of Bno (take_row bno recs run)) lb e e1 → EditsIndex at (Some c) (row_of Cnt (take_row cnt recs run)) lc e1 e2 → Result bno cnt lb lc
  unfolding AllNone
  takes_both bno cnt lb lc recs among_bno among_cnt known one two =
      let same = known_is bno recs among_bno known in
      let one' = subst (λ (l : List SpanRec). EditsIndex at (Some c) (row_of Bno (take_row bno l run)) lb e e1) same one in
      let two' = subst (λ (l : List SpanRec). EditsIndex at (Some c) (row_of Cnt (take_row cnt l run)) lc e1 e2) same two in
      let x = index_stands at c law Bno writes_bno bno_is (take_row bno (Known bno) run) (take_span by_start (Known bno) run) a now at_is image_is e e1 st bno lb among_bno
      (λ on old new rise h. takes_bno (Known bno) run old new rise (subst (λ (b : Bool). edited_row (form_of Bno) (take_row b (Known bno) run) old ≡ Ok new) on h))
      (λ off. subst (λ (b : Bool). AllNone (row_of Bno (take_row b (Known bno) run))) (sym off) tt) one' in
      let y = index_stands at c law Cnt writes_cnt cnt_is (take_row cnt (Known bno) run) (take_span by_count (Known bno) run) a x.0 at_is image_is e1 e2 x.3 cnt lc among_cnt
      (λ on old new rise h. takes_cnt (Known bno) run old new rise (subst (λ (b : Bool). edited_row (form_of Cnt) (take_row b (Known bno) run) old ≡ Ok new) on h))
      (λ off. subst (λ (b : Bool). AllNone (row_of Cnt (take_row b (Known bno) run))) (sym off) tt) two' in
      let cnt_was : x.0 Cnt ≡ now Cnt = x.2 Cnt (λ (s : Cnt ≡ Bno). cc s) in
      let bno_now : y.0 Bno ≡ x.0 Bno = y.2 Bno (λ (s : Bno ≡ Cnt). cc s) in (
        y.0,
        ap (λ (n : Now Bno). n.recs) bno_now ∙ x.1 ∙ own_recs bno lb (now Bno).recs,
        subst (λ (n : Now Cnt). (y.0 Cnt).recs ≡ (if is_done cnt lc then take_span by_count (Known bno) run n.recs else n.recs)) cnt_was y.1,
        λ j not_bno not_cnt. y.2 j not_cnt ∙ x.2 j not_bno,
        y.3,
      )

pub takes_space : (at : Layout) (told : Option Contents) → EditLaw → WritesEach (form_of Bno) → WritesEach (form_of Cnt) → (form_of Bno).kind ≡ Bno → (form_of Cnt).kind ≡ Cnt → (kinds : SpaceKinds) (run : SpanRec) (left : SpaceLeft) (recs : List SpanRec) (e e1 e2 : OpenEdit) → KnowsSpans at told kinds.bno e recs
    → EditsIndex at told (row_of Bno (take_row kinds.bno recs run)) left.bno e e1 → EditsIndex at told (row_of Cnt (take_row kinds.cnt recs run)) left.cnt e1 e2 → MakesSpace at told take_span kinds run left e e2
takes_space at None law writes_bno writes_cnt bno_is cnt_is kinds run left recs e e1 e2 known one two = tt
takes_space at (Some c) law writes_bno writes_cnt bno_is cnt_is kinds run left recs e e1 e2 known one two = λ a now at_is image_is among_bno among_cnt st.
    takes_both at c law writes_bno writes_cnt bno_is cnt_is run a now at_is image_is e e1 e2 st kinds.bno kinds.cnt left.bno left.cnt recs among_bno among_cnt known one two

-- ---- range

span_parts : (bounds : Bounds) (r : SpanRec) → is_span_in_range bounds r ≡ true → (1 ≤ r.start) × (1 ≤ r.count) × (r.start + r.count ≤ bounds.length)
unfolding is_span_in_range
span_parts bounds r h =
    let one = and_parts (nat_le 1 r.start && nat_le 1 r.count) (nat_le (r.start + r.count) bounds.length) h in
    let two = and_parts (nat_le 1 r.start) (nat_le 1 r.count) one.0 in
    (leb-true 1 r.start two.0, leb-true 1 r.count two.1, leb-true (r.start + r.count) bounds.length one.1)

span_from : (bounds : Bounds) (b n : ℕ) → 1 ≤ b → 1 ≤ n → b + n ≤ bounds.length → is_span_in_range bounds (span b n) ≡ true
unfolding is_span_in_range
span_from bounds b n low some high = grind (arith, nat_tests, low, some, high)

last_in : {R : Type 0} (p t : R → Bool) (acc : Option R) (xs : List R) (r : R) → Each p xs → ((y : R) → acc ≡ Some y → p y ≡ true) → last_or t acc xs ≡ Some r → p r ≡ true
last_in p t acc [] r each ok h = ok r h
last_in {R = R} p t acc (x ∷ xs) r each ok h = last_in p t (if t x then Some x else acc) xs r each.1 (on (t x)) h
  where
    on : (b : Bool) (y : R) → (if b then Some x else acc) ≡ Some y → p y ≡ true
    on true y e = let same : x ≡ y = cc e in subst (λ (z : R). p z ≡ true) same each.0
    on false y e = ok y e

only_is : (t : SpanRec → Bool) (o : Option SpanRec) (r : SpanRec) → only_where t o ≡ Some r → (o ≡ Some r) × (t r ≡ true)
only_is t None r h = cc h
only_is t (Some y) r h =
    (elim (t y) as (λ b. t y ≡ b → ◌≡◌ {A = Option SpanRec} (if b then Some y else None) (Some r) → (◌≡◌ {A = Option SpanRec} (Some y) (Some r)) × (t r ≡ true)) [
      | true ↦ λ is e. let same : y ≡ r = cc e in (e, subst (λ (q : SpanRec). t q ≡ true) same is)
      | false ↦ λ is e. cc e
    ]) refl h

module _ (bounds : Bounds) (run : SpanRec) (recs : List SpanRec) (each : Each (is_span_in_range bounds) recs) where
  holds : (r : SpanRec) → holder_of recs run ≡ Some r → (is_span_in_range bounds r ≡ true) × IsInside run r
  holds r h =
      let k = only_is (λ q. nat_le (end_of run) (end_of q)) (last_at (λ q. q.start) run.start recs) r h in
      let low = find_passes (λ q. nat_le q.start run.start) (reverse recs) r k.0 in
      let range = last_in (is_span_in_range bounds) (λ q. nat_le q.start run.start) None recs r each (λ y e. cc e) (last_is (λ q. nat_le q.start run.start) recs ∙ k.0) in
      (range, record { starts = leb-true r.start run.start low; ends = leb-true (end_of run) (end_of r) k.1 })

  pub holds_run : bounds.length ≤ 2 ^ 28 → HoldsRun (holder_of recs run) run
  holds_run short = on (holder_of recs run) refl
    where
      on : (o : Option SpanRec) → holder_of recs run ≡ o → HoldsRun o run
      on None e = tt
      on (Some r) e = let p = holds r e in let s = span_parts bounds r p.0 in (p.1, omega (arith, s.2, short))

  abbrev InRange : Option SpanRec → Type 0
  InRange None = Unit {0}
  InRange (Some r) = is_span_in_range bounds r ≡ true

  before_range : InRange (piece_before (holder_of recs run) run)
  before_range = on (holder_of recs run) refl
    where
      on : (o : Option SpanRec) → holder_of recs run ≡ o → InRange (piece_before o run)
      on None e = tt
      on (Some r) e =
          let p = holds r e in
          let s = span_parts bounds r p.0 in
          (elim (nat_lt r.start run.start) as (λ b. nat_lt r.start run.start ≡ b → InRange (if b then Some (span r.start (run.start - r.start)) else None)) [
            | true ↦ λ is. let lt : r.start < run.start = grind (arith, nat_tests, is) in span_from bounds r.start (run.start - r.start) s.0 (omega (arith, lt)) (omega (arith, lt, p.1.ends, s.2))
            | false ↦ λ is. tt
          ]) refl

  behind_range : InRange (piece_behind (holder_of recs run) run)
  behind_range = on (holder_of recs run) refl
    where
      on : (o : Option SpanRec) → holder_of recs run ≡ o → InRange (piece_behind o run)
      on None e = tt
      on (Some r) e =
          let p = holds r e in
          let s = span_parts bounds r p.0 in
          (elim (nat_lt (end_of run) (end_of r)) as (λ b. nat_lt (end_of run) (end_of r) ≡ b → InRange (if b then Some (span (end_of run) (end_of r - end_of run)) else None)) [
            | true ↦ λ is. let lt : end_of run < end_of r = grind (arith, nat_tests, is) in span_from bounds (end_of run) (end_of r - end_of run) (omega (arith, s.0, p.1.starts)) (omega (arith, lt)) (omega (arith, lt, s.2))
            | false ↦ λ is. tt
          ]) refl

abbrev tagged : (k : Kind) → Option (Edit × RecOf k) → Option (Edit × AnyRec)
tagged k o = option_map (λ x. (x.0, any_of k x.1)) o

module _ (at : Layout) (g : ℕ) where
  InRangeAt : Option SpanRec → Type 0
  InRangeAt None = Unit {0}
  InRangeAt (Some r) = is_span_in_range (site_of at g).bounds r ≡ true

  goes_bno : (asked : Bool) (o : Option SpanRec) → FitsMaybe at g (tagged Bno (goes (only asked o)))
  goes_bno true None = tt
  goes_bno true (Some r) = ((λ h. absurd h), tt)
  goes_bno false o = tt

  goes_cnt : (asked : Bool) (o : Option SpanRec) → FitsMaybe at g (tagged Cnt (goes (only asked o)))
  goes_cnt true None = tt
  goes_cnt true (Some r) = ((λ h. absurd h), tt)
  goes_cnt false o = tt

  comes_bno : (asked : Bool) (o : Option SpanRec) → InRangeAt o → FitsMaybe at g (tagged Bno (maybe_comes (only asked o)))
  unfolding form_of InRangeAt
  comes_bno true None range = tt
  comes_bno true (Some r) range = ((λ h. (range, refl)), tt)
  comes_bno false o range = tt

  comes_cnt : (asked : Bool) (o : Option SpanRec) → InRangeAt o → FitsMaybe at g (tagged Cnt (maybe_comes (only asked o)))
  unfolding form_of InRangeAt
  comes_cnt true None range = tt
  comes_cnt true (Some r) range = ((λ h. (range, refl)), tt)
  comes_cnt false o range = tt

  range_at : (o : Option SpanRec) (run : SpanRec) (recs : List SpanRec) (each : Each (is_span_in_range (site_of at g).bounds) recs) → InRange (site_of at g).bounds run recs each o → InRangeAt o
  unfolding InRangeAt
  range_at None run recs each h = tt
  range_at (Some r) run recs each h = h

  pub fits_bno : (asked : Bool) (run : SpanRec) (recs : List SpanRec) → Each (is_span_in_range (site_of at g).bounds) recs → FitRow at g (row_of Bno (take_row asked recs run))
  fits_bno asked run recs each = (
    goes_bno asked (holder_of recs run),
    (
      comes_bno asked (piece_behind (holder_of recs run) run) (range_at (piece_behind (holder_of recs run) run) run recs each (behind_range (site_of at g).bounds run recs each)),
      (comes_bno asked (piece_before (holder_of recs run) run) (range_at (piece_before (holder_of recs run) run) run recs each (before_range (site_of at g).bounds run recs each)), tt),
    ),
  )

  pub fits_cnt : (asked : Bool) (run : SpanRec) (recs : List SpanRec) → Each (is_span_in_range (site_of at g).bounds) recs → FitRow at g (row_of Cnt (take_row asked recs run))
  fits_cnt asked run recs each = (
    goes_cnt asked (holder_of recs run),
    (
      comes_cnt asked (piece_behind (holder_of recs run) run) (range_at (piece_behind (holder_of recs run) run) run recs each (behind_range (site_of at g).bounds run recs each)),
      (comes_cnt asked (piece_before (holder_of recs run) run) (range_at (piece_before (holder_of recs run) run) run recs each (before_range (site_of at g).bounds run recs each)), tt),
    ),
  )

-- ---- rows as they are built

rows_same : (x y z x' y' z' : Option (Edit × AnyRec)) → x ≡ x' → y ≡ y' → z ≡ z' → ◌≡◌ {A = Row} (x ∷ y ∷ z ∷ []) (x' ∷ y' ∷ z' ∷ [])
rows_same x y z x' y' z' a b d =
    ap (λ (o : Option (Edit × AnyRec)). o ∷ y ∷ z ∷ []) a
    ∙ ap (λ (o : Option (Edit × AnyRec)). x' ∷ o ∷ z ∷ []) b
    ∙ ap (λ (o : Option (Edit × AnyRec)). x' ∷ y' ∷ o ∷ []) d

module _ (tag : Option (Edit × SpanRec) → Option (Edit × AnyRec)) (asked : Bool) (recs : List SpanRec) (run : SpanRec) (out : Option SpanRec) (rest : Rest) (o p q : Option SpanRec) (x y z : Option (Edit × AnyRec)) where
  pub take_row_is : out ≡ holder_of recs run → rest ≡ record { before = piece_before out run; behind = piece_behind out run } → o ≡ only asked out → p ≡ only asked rest.behind → q ≡ only asked rest.before → x ≡ tag (goes o) → y ≡ tag (maybe_comes p) → z ≡ tag (maybe_comes q)
      → ◌≡◌ {A = Row} (x ∷ y ∷ z ∷ []) (tag (goes (only asked (holder_of recs run))) ∷ tag (maybe_comes (only asked (piece_behind (holder_of recs run) run))) ∷ tag (maybe_comes (only asked (piece_before (holder_of recs run) run))) ∷ [])
  take_row_is e_out e_rest e_o e_p e_q e_x e_y e_z =
      rows_same x y z _ _ _
      (e_x ∙ ap (λ (t : Option SpanRec). tag (goes t)) (e_o ∙ ap (only asked) e_out))
      (e_y ∙ ap (λ (t : Option SpanRec). tag (maybe_comes t)) (e_p ∙ ap (λ (r : Rest). only asked r.behind) e_rest ∙ ap (λ (h : Option SpanRec). only asked (piece_behind h run)) e_out))
      (e_z ∙ ap (λ (t : Option SpanRec). tag (maybe_comes t)) (e_q ∙ ap (λ (r : Rest). only asked r.before) e_rest ∙ ap (λ (h : Option SpanRec). only asked (piece_before h run)) e_out))

-- ---- a run that joins free space

gives : (k : Kind) (before : SpanRec → SpanRec → Bool) (law : IsLawful (span_form k before)) (put : SpanRec → List SpanRec → List SpanRec) → ((r : SpanRec) (xs : List SpanRec) → inserted (span_form k before) r xs ≡ put r xs) → (recs : List SpanRec) (run : SpanRec) (old new : List SpanRec) → Rises before old
    → edited_row (span_form k before) (give_row true recs run) old ≡ Ok new → new ≡ give_span put recs run old
unfolding give_span
gives k before law put puts recs run old new rise h = join_is k before law put puts (before_run recs run) (behind_run recs run) (joined_run recs run) old new rise h

gives_bno : (recs : List SpanRec) (run : SpanRec) (old new : List (RecOf Bno)) → IsRising (form_of Bno) old → edited_row (form_of Bno) (give_row true recs run) old ≡ Ok new → new ≡ give_span by_start recs run old
unfolding form_of
gives_bno recs run old new rise h = gives Bno is_before_by_start (lawful_of Bno) by_start puts_by_start recs run old new rise h

gives_cnt : (recs : List SpanRec) (run : SpanRec) (old new : List (RecOf Cnt)) → IsRising (form_of Cnt) old → edited_row (form_of Cnt) (give_row true recs run) old ≡ Ok new → new ≡ give_span by_count recs run old
unfolding form_of
gives_cnt recs run old new rise h = gives Cnt is_before_by_count (lawful_of Cnt) by_count puts_by_count recs run old new rise h

module _ (at : Layout) (c : Contents) (law : EditLaw) (writes_bno : WritesEach (form_of Bno)) (writes_cnt : WritesEach (form_of Cnt)) (bno_is : (form_of Bno).kind ≡ Bno) (cnt_is : (form_of Cnt).kind ≡ Cnt) (run : SpanRec) (a : About) (now : (j : Kind) → Now j) (at_is : a.at ≡ at) (image_is : a.image ≡ c regions.Image) (e e1 e2 : OpenEdit) (st : Stands a now e) where
  abbrev KnownThen : Bool → List SpanRec
  KnownThen bno = if bno then (now Bno).recs else []

  known_then : (bno : Bool) (recs : List SpanRec) → (bno ≡ true → Among Bno a.kinds) → KnowsSpans at (Some c) bno e recs → recs ≡ KnownThen bno
  unfolding form_of
  known_then true recs among known = recs_stand at Bno c e recs a now at_is image_is (among refl) st known
  known_then false recs among known = known

  abbrev ResultThen : Bool → Bool → Option Cause → Option Cause → Type 0
  ResultThen bno cnt lb lc =
      (next : (j : Kind) → Now j)
      × ((next Bno).recs ≡ (if is_done bno lb then give_span by_start (now Bno).recs run (now Bno).recs else (now Bno).recs))
      × ((next Cnt).recs ≡ (if is_done cnt lc then give_span by_count (KnownThen bno) run (now Cnt).recs else (now Cnt).recs))
      × ((j : Kind) → (j ≡ Bno → ⊥) → (j ≡ Cnt → ⊥) → next j ≡ now j)
      × Stands a next e2

  own_then : (bno : Bool) (lb : Option Cause) (rs : List SpanRec) → (if is_done bno lb then give_span by_start (if bno then rs else []) run rs else rs) ≡ (if is_done bno lb then give_span by_start rs run rs else rs)
  own_then true lb rs = refl
  own_then false lb rs = refl

  gives_both : (bno cnt : Bool) (lb lc : Option Cause) (recs : List SpanRec) → (bno ≡ true → Among Bno a.kinds) → (cnt ≡ true → Among Cnt a.kinds) → KnowsSpans at (Some c) bno e recs
      → EditsIndex at (Some c) (row_of Bno (give_row bno recs run)) lb e e1 → EditsIndex at (Some c) (row_of Cnt (give_row cnt recs run)) lc e1 e2 → ResultThen bno cnt lb lc
  unfolding AllNone
  gives_both bno cnt lb lc recs among_bno among_cnt known one two =
      let same = known_then bno recs among_bno known in
      let one' = subst (λ (l : List SpanRec). EditsIndex at (Some c) (row_of Bno (give_row bno l run)) lb e e1) same one in
      let two' = subst (λ (l : List SpanRec). EditsIndex at (Some c) (row_of Cnt (give_row cnt l run)) lc e1 e2) same two in
      let x = index_stands at c law Bno writes_bno bno_is (give_row bno (KnownThen bno) run) (give_span by_start (KnownThen bno) run) a now at_is image_is e e1 st bno lb among_bno
      (λ on old new rise h. gives_bno (KnownThen bno) run old new rise (subst (λ (b : Bool). edited_row (form_of Bno) (give_row b (KnownThen bno) run) old ≡ Ok new) on h))
      (λ off. subst (λ (b : Bool). AllNone (row_of Bno (give_row b (KnownThen bno) run))) (sym off) tt) one' in
      let y = index_stands at c law Cnt writes_cnt cnt_is (give_row cnt (KnownThen bno) run) (give_span by_count (KnownThen bno) run) a x.0 at_is image_is e1 e2 x.3 cnt lc among_cnt
      (λ on old new rise h. gives_cnt (KnownThen bno) run old new rise (subst (λ (b : Bool). edited_row (form_of Cnt) (give_row b (KnownThen bno) run) old ≡ Ok new) on h))
      (λ off. subst (λ (b : Bool). AllNone (row_of Cnt (give_row b (KnownThen bno) run))) (sym off) tt) two' in
      let cnt_was : x.0 Cnt ≡ now Cnt = x.2 Cnt (λ (s : Cnt ≡ Bno). cc s) in
      let bno_now : y.0 Bno ≡ x.0 Bno = y.2 Bno (λ (s : Bno ≡ Cnt). cc s) in (
        y.0,
        ap (λ (n : Now Bno). n.recs) bno_now ∙ x.1 ∙ own_then bno lb (now Bno).recs,
        subst (λ (n : Now Cnt). (y.0 Cnt).recs ≡ (if is_done cnt lc then give_span by_count (KnownThen bno) run n.recs else n.recs)) cnt_was y.1,
        λ j not_bno not_cnt. y.2 j not_cnt ∙ x.2 j not_bno,
        y.3,
      )

pub gives_space : (at : Layout) (told : Option Contents) → EditLaw → WritesEach (form_of Bno) → WritesEach (form_of Cnt) → (form_of Bno).kind ≡ Bno → (form_of Cnt).kind ≡ Cnt → (kinds : SpaceKinds) (run : SpanRec) (left : SpaceLeft) (recs : List SpanRec) (e e1 e2 : OpenEdit) → KnowsSpans at told kinds.bno e recs
    → EditsIndex at told (row_of Bno (give_row kinds.bno recs run)) left.bno e e1 → EditsIndex at told (row_of Cnt (give_row kinds.cnt recs run)) left.cnt e1 e2 → MakesSpace at told give_span kinds run left e e2
gives_space at None law writes_bno writes_cnt bno_is cnt_is kinds run left recs e e1 e2 known one two = tt
gives_space at (Some c) law writes_bno writes_cnt bno_is cnt_is kinds run left recs e e1 e2 known one two = λ a now at_is image_is among_bno among_cnt st.
    gives_both at c law writes_bno writes_cnt bno_is cnt_is run a now at_is image_is e e1 e2 st kinds.bno kinds.cnt left.bno left.cnt recs among_bno among_cnt known one two

-- ---- range of what it becomes

find_in : {R : Type 0} (p t : R → Bool) (xs : List R) (r : R) → Each p xs → find t xs ≡ Some r → p r ≡ true
find_in p t [] r each h = cc h
find_in p t (x ∷ xs) r each h =
    (elim (t x) as (λ b. (if b then Some x else find t xs) ≡ Some r → p r ≡ true) [
      | true ↦ λ e. let same : x ≡ r = cc e in subst (λ z. p z ≡ true) same each.0
      | false ↦ λ e. find_in p t xs r each.1 e
    ]) h

module _ (bounds : Bounds) (run : SpanRec) (recs : List SpanRec) (each : Each (is_span_in_range bounds) recs) (range : is_span_in_range bounds run ≡ true) where
  record Left (o : Option SpanRec) : Type 0 where
    low : 1 ≤ option_map_or (λ r. r.start) o run.start
    meets : option_map_or (λ r. r.start) o run.start + option_map_or (λ r. r.count) o 0 ≡ run.start
    ends : option_map_or end_of o run.start ≡ run.start

  record Right (o : Option SpanRec) : Type 0 where
    high : end_of run + option_map_or (λ r. r.count) o 0 ≤ bounds.length
    begins : option_map_or (λ r. r.start) o (end_of run) ≡ end_of run

  left_is : Left (before_run recs run)
  left_is = on (before_run recs run) refl
    where
      on : (o : Option SpanRec) → before_run recs run ≡ o → Left o
      on None e = let s = span_parts bounds run range in record { low = s.0; meets = omega arith; ends = refl }
      on (Some r) e =
          let k = only_is (λ q. end_of q == run.start) (find (λ q. nat_lt q.start run.start) (reverse recs)) r e in
          let mine = last_in (is_span_in_range bounds) (λ q. nat_lt q.start run.start) None recs r each (λ y h. cc h) (last_is (λ q. nat_lt q.start run.start) recs ∙ k.0) in
          let s = span_parts bounds r mine in
          let same : end_of r ≡ run.start = eqb-true (end_of r) run.start k.1 in
          record { low = s.0; meets = same; ends = same }

  right_is : Right (behind_run recs run)
  right_is = on (behind_run recs run) refl
    where
      on : (o : Option SpanRec) → behind_run recs run ≡ o → Right o
      on None e = let s = span_parts bounds run range in record { high = omega (arith, s.2); begins = refl }
      on (Some r) e =
          let mine = find_in (is_span_in_range bounds) (λ q. q.start == end_of run) recs r each e in
          let s = span_parts bounds r mine in
          let same : r.start ≡ end_of run = eqb-true r.start (end_of run) (find_passes (λ q. q.start == end_of run) recs r e) in
          record { high = omega (arith, s.2, same); begins = same }

  pub joins_meet : does_meet (before_run recs run) run (behind_run recs run)
  joins_meet = (left_is.ends, right_is.begins)

  pub joins_fit : bounds.length ≤ 2 ^ 28 → count_in (before_run recs run) + run.count + count_in (behind_run recs run) < 2 ^ 32
  joins_fit short = let l = left_is.meets in let r = right_is.high in omega (arith, l, r, short)

  pub joined_range : is_span_in_range bounds (joined_run recs run) ≡ true
  joined_range =
      let s = span_parts bounds run range in
      let l = left_is.meets in
      let r = right_is.high in
      span_from bounds (option_map_or (λ q. q.start) (before_run recs run) run.start) (option_map_or (λ q. q.count) (before_run recs run) 0 + run.count + option_map_or (λ q. q.count) (behind_run recs run) 0) left_is.low (omega (arith, s.1)) (omega (arith, l, r))

module _ (at : Layout) (g : ℕ) where
  pub fits_give_bno : (asked : Bool) (run : SpanRec) (recs : List SpanRec) → Each (is_span_in_range (site_of at g).bounds) recs → is_span_in_range (site_of at g).bounds run ≡ true → FitRow at g (row_of Bno (give_row asked recs run))
  unfolding InRangeAt
  fits_give_bno asked run recs each range = (goes_bno at g asked (behind_run recs run), (goes_bno at g asked (before_run recs run), (comes_bno at g asked (Some (joined_run recs run)) (joined_range (site_of at g).bounds run recs each range), tt)))

  pub fits_give_cnt : (asked : Bool) (run : SpanRec) (recs : List SpanRec) → Each (is_span_in_range (site_of at g).bounds) recs → is_span_in_range (site_of at g).bounds run ≡ true → FitRow at g (row_of Cnt (give_row asked recs run))
  unfolding InRangeAt
  fits_give_cnt asked run recs each range = (goes_cnt at g asked (behind_run recs run), (goes_cnt at g asked (before_run recs run), (comes_cnt at g asked (Some (joined_run recs run)) (joined_range (site_of at g).bounds run recs each range), tt)))

module _ (tag : Option (Edit × SpanRec) → Option (Edit × AnyRec)) (asked : Bool) (recs : List SpanRec) (run : SpanRec) (b h : Option SpanRec) (whole : SpanRec) (o p q : Option SpanRec) (x y z : Option (Edit × AnyRec)) where
  pub give_row_is : b ≡ before_run recs run → h ≡ behind_run recs run → whole ≡ record { start = start_in b run; count = count_in b + run.count + count_in h } → o ≡ only asked h → p ≡ only asked b → q ≡ only asked (Some whole) → x ≡ tag (goes o) → y ≡ tag (goes p) → z ≡ tag (maybe_comes q)
      → ◌≡◌ {A = Row} (x ∷ y ∷ z ∷ []) (tag (goes (only asked (behind_run recs run))) ∷ tag (goes (only asked (before_run recs run))) ∷ tag (maybe_comes (only asked (Some (joined_run recs run)))) ∷ [])
  give_row_is e_b e_h e_whole e_o e_p e_q e_x e_y e_z =
      let w : whole ≡ joined_run recs run =
      e_whole
      ∙ ap (λ (t : Option SpanRec). span (start_in t run) (count_in t + run.count + count_in h)) e_b
      ∙ ap (λ (t : Option SpanRec). span (start_in (before_run recs run) run) (count_in (before_run recs run) + run.count + count_in t)) e_h in
      rows_same x y z _ _ _
      (e_x ∙ ap (λ (t : Option SpanRec). tag (goes t)) (e_o ∙ ap (only asked) e_h))
      (e_y ∙ ap (λ (t : Option SpanRec). tag (goes t)) (e_p ∙ ap (only asked) e_b))
      (e_z ∙ ap (λ (t : Option SpanRec). tag (maybe_comes t)) (e_q ∙ ap (λ (r : SpanRec). only asked (Some r)) w))
