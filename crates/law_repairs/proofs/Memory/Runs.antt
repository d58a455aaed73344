-- A run of free space that fills the list lies in its group: records of a btree that can be read do.
use Rattle.std.proofs.Common.{◌≡◌, ◌⊎◌, ℕ, zero, suc, ◌+◌, ◌-◌, ◌<◌, ◌≤◌, ◌==◌, ◌&&◌, Bool, true, false, List, [], ◌∷◌, find, reverse, Option, Some, None, Ok, Err, refl, ap, sym, subst, ◌∙◌, inl, inr, arith}
use Rattle.std.specs.Prelude.{min, nat_le, option_map, if◌then◌else◌}
use Rattle.std.specs.Option.{option_or}
use Rattle.std.proofs.lemmas.Bool.{and_parts, cases_eq, leb-true, ne_eqb}
use Rattle.std.proofs.lemmas.List.{reverse-append}
use Rattle.fs_change.specs.Choice.{chosen_of, extent, first_in, fitting, front_in, last_of}
use Rattle.fs_change.specs.Parts.{records_in}
use Rattle.fs_state.specs.Lists.{numbers}
use Rattle.fs_model.specs.declared.entry.Extent.{Extent}
use Rattle.fs_state.proofs.Trees.{lawful_of}
use Rattle.fs_state.specs.Kinds.{Image, form_of, heads_of, level_of, root_of}
use Rattle.fs_state.specs.Read.{Read, claimed, group_of, known, reading_of, state_of, walked}
use Rattle.fs_state.specs.State.{Bad, Kept, State, recs_of}
use Rattle.geom.specs.Layout.{Layout, group_len_of}
use Rattle.sblock.proofs.BlockLemmas.{records_lie_inside}
use Rattle.sblock.specs.declared.block.Bounds.{Bounds}
use Rattle.sblock.specs.Form.{Form}
use Rattle.sblock.specs.Headers.{left_of}
use Rattle.sblock.specs.Lists.{Each}
use Rattle.sblock.specs.Spans.{span_of}
use Rattle.sblock.specs.declared.kind.Kind.TheVariants.{Cnt}
use Rattle.span_recs.specs.Spans.{is_span_in_range}
use Rattle.span_recs.specs.declared.span.SpanRec.{SpanRec}
use Rattle.tree_defs.proofs.EachLemmas.{each_append}
use Rattle.tree_defs.proofs.Trees.{reads_trees_lem}
use Rattle.tree_defs.specs.Levels.{AllEntries, IsSound, IsTree, entries, over, recs_of as tree_recs}
use Rattle.tree_defs.specs.Lists.{times}
use Rattle.tree_defs.specs.Sites.{group_blocks, site_of}
use Rattle.tree_defs.specs.Tree.{Entry, agrees, want_of}
use Rattle.tree_defs.specs.declared.site.Site.{Site}

-- ---- the records of a sound tree

module _ {R K : Type 0} (form : Form R K) (site : Site) (m : ℕ → List ℕ) where
  over_inside : (level : ℕ) → ((q : ℕ) → IsSound form m site level false q → Each (form.is_in_range site.bounds) (tree_recs form m level q)) → (es : List (Entry K))
      → AllEntries (λ (e : Entry K). IsSound form m site level false e.child × (agrees form e (span_of form (tree_recs form m level e.child)) ≡ true)) es → Each (form.is_in_range site.bounds) (over (tree_recs form m level) es)
  over_inside level each [] sound = tt
  over_inside level each (e ∷ es) sound = each_append (form.is_in_range site.bounds) (tree_recs form m level e.child) (over (tree_recs form m level) es) (each e.child sound.0.0) (over_inside level each es sound.1)

  all_inside : (level : ℕ) (root : Bool) (p : ℕ) → IsSound form m site level root p → Each (form.is_in_range site.bounds) (tree_recs form m level p)
  unfolding tree_recs IsSound
  all_inside zero root p sound = records_lie_inside form (m p) (want_of form.kind site zero root (left_of (m p)) p) sound refl
  all_inside (suc level) root p sound = over_inside level (λ q s. all_inside level false q s) (entries form m p) sound.1

  tree_inside : (root levels : ℕ) (recs : List R) (blocks : List ℕ) → IsTree form site m root levels recs blocks → Each (form.is_in_range site.bounds) recs
  tree_inside root levels recs blocks t = subst (Each (form.is_in_range site.bounds)) (sym t.recs_are) (all_inside (levels - 1) true root t.sound)

-- ---- of an image

recs_by : {R : Type 0} (P : List R → Type 0) (bad : Option Bad) (read : Read R) (claims : List ℕ) → P [] → ((x : List R × List ℕ) → read ≡ Ok x → P x.0) → P (recs_of (known bad read claims))
recs_by P (Some b) read claims none now = none
recs_by P None (Ok x) claims none now = now x refl
recs_by P None (Err f) claims none now = none

module _ (at : Layout) (image : Image) (kept : Kept) (g : ℕ) where
  read_inside : (x : List SpanRec × List ℕ) → walked at image g Cnt ≡ Ok x → Each (is_span_in_range (site_of at g).bounds) x.0
  unfolding walked form_of
  read_inside x read =
      tree_inside (form_of Cnt) (site_of at g) (group_blocks (site_of at g) image) (root_of (heads_of at image g) Cnt) (level_of (heads_of at image g) Cnt) x.0 x.1
      ((reads_trees_lem (form_of Cnt) (lawful_of Cnt) (site_of at g) (group_blocks (site_of at g) image) (root_of (heads_of at image g) Cnt) (level_of (heads_of at image g) Cnt) x.0 x.1).0 read)

  pub records_inside : Each (is_span_in_range (site_of at g).bounds) (records_in ((state_of at image kept).group g) Cnt)
  unfolding group_of reading_of
  records_inside = recs_by (Each (is_span_in_range (site_of at g).bounds)) (kept.bad g Cnt) (walked at image g Cnt) (claimed at image g Cnt) tt read_inside

-- ---- the one that is chosen

none_is : {A : Type 0} (x : A) → ◌≡◌ {A = Option A} None (Some x) → ⊥
none_is x e = cc

some_is : {A : Type 0} (x y : A) → ◌≡◌ {A = Option A} (Some x) (Some y) → x ≡ y
some_is x y e = cc

pub each_reversed : (test : SpanRec → Bool) (rs : List SpanRec) → Each test rs → Each test (reverse rs)
each_reversed test [] h = tt
each_reversed test (r ∷ rs) h = subst (Each test) (sym (reverse-append (r ∷ []) rs)) (each_append test (reverse rs) (r ∷ []) (each_reversed test rs h.1) (h.0, tt))

-- what is found passes, and is one of the list
pub found_each : (P test : SpanRec → Bool) (rs : List SpanRec) (r : SpanRec) → Each P rs → ◌≡◌ {A = Option SpanRec} (find test rs) (Some r) → (P r ≡ true) × (test r ≡ true)
found_each P test [] r h e = absurd (none_is r e)
found_each P test (s ∷ rs) r h e = (elim (test s) as (λ t. test s ≡ t → ◌≡◌ {A = Option SpanRec} (if t then Some s else find test rs) (Some r) → (P r ≡ true) × (test r ≡ true)) [
  | true ↦ λ passes is. let same = some_is s r is in (ap P (sym same) ∙ h.0, ap test (sym same) ∙ passes)
  | false ↦ λ fails is. found_each P test rs r h.1 is
]) refl e

either_is : {A : Type 0} (x y : Option A) (v : A) → option_or x y ≡ Some v → (x ≡ Some v) ⊎ (y ≡ Some v)
either_is None y v e = inr e
either_is (Some u) y v e = inl e

-- a run lies below
abbrev pub EndsBelow : ℕ → Extent → Type 0
EndsBelow len e = e.block + e.count ≤ len

module _ (bounds : Bounds) where
  front_ends : (g count : ℕ) (o : Option SpanRec) (e : Extent) → ((r : SpanRec) → o ≡ Some r → is_span_in_range bounds r ≡ true)
      → ◌≡◌ {A = Option Extent} (option_map (λ r. extent g r.start (min count r.count)) o) (Some e) → EndsBelow bounds.length e
  unfolding is_span_in_range
  front_ends g count None e inside is = absurd (none_is e is)
  front_ends g count (Some r) e inside is =
      let same : extent g r.start (min count r.count) ≡ e = some_is (extent g r.start (min count r.count)) e is in
      let ends : r.start + r.count ≤ bounds.length = leb-true (r.start + r.count) bounds.length (and_parts (nat_le 1 r.start && nat_le 1 r.count) (nat_le (r.start + r.count) bounds.length) (inside r refl)).1 in
      subst (EndsBelow bounds.length) same (omega (arith, ends))

  pub chosen_ends : (a : State) (g count : ℕ) (e : Extent) → Each (is_span_in_range bounds) (records_in (a.group g) Cnt) → chosen_of a count (g ∷ []) ≡ Some e → EndsBelow bounds.length e
  unfolding chosen_of
  chosen_ends a g count e each chosen =
      let rs : List SpanRec = records_in (a.group g) Cnt in
      elim (either_is (first_in (front_in a count (fitting count)) (g ∷ [])) (first_in (front_in a count last_of) (g ∷ [])) e chosen) [
        | inl first ↦ front_ends g count (fitting count rs) e (λ r is. (found_each (is_span_in_range bounds) (λ s. nat_le count s.count) rs r each is).0) (alone (front_in a count (fitting count) g) first)
        | inr last ↦ front_ends g count (last_of rs) e (λ r is. (found_each (is_span_in_range bounds) (λ s. true) (reverse rs) r (each_reversed (is_span_in_range bounds) rs each) is).0) (alone (front_in a count last_of g) last)
      ]
    where
      alone : (o : Option Extent) → option_or o None ≡ Some e → o ≡ Some e
      alone None is = is
      alone (Some x) is = is

pub refill_ends : (at : Layout) (image : Image) (kept : Kept) (count : ℕ) (e : Extent) → chosen_of (state_of at image kept) count (e.group ∷ []) ≡ Some e → e.block + e.count ≤ group_len_of at e.group
unfolding site_of
refill_ends at image kept count e chosen = chosen_ends (site_of at e.group).bounds (state_of at image kept) e.group count e (records_inside at image kept e.group) chosen

-- ---- its blocks

pub in_run : (from n b : ℕ) → 1 ≤ times b (numbers from n) → (from ≤ b) × (b < from + n)
in_run from zero b h = absurd (omega (arith, h))
in_run from (suc n) b h = elim (cases_eq from b) [
  | inl e ↦ (omega (arith, e), omega (arith, e))
  | inr ne ↦
      let none : ◌≡◌ {A = ℕ} (if from == b then 1 else 0) 0 = rw (ne_eqb from b ne) refl in
      let rest = in_run (from + 1) n b (omega (arith, h, none)) in
      let low = rest.0 in
      let high = rest.1 in
      (omega (arith, low), omega (arith, high))
]
