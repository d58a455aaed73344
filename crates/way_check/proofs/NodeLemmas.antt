-- A node that was made of the old one's entries, with one entry's keys anew; and the keys of a block.
use Rattle.std.proofs.Common.{◌≡◌, ◌≢◌, ℕ, zero, suc, ◌+◌, ◌-◌, ◌<◌, ◌≤◌, Bool, true, false, List, [], ◌∷◌, ◌++◌, Option, Some, None, refl, sym, ap, subst, ◌∙◌, inl, inr, arith}
use Rattle.std.specs.Prelude.{◌⊎◌, ◌==◌, ◌&&◌, ◌||◌, not, nat_lt, if◌then◌else◌}
use Rattle.std.proofs.lemmas.Bool.{cases_lt}
use Rattle.sblock.specs.Area.{area_of, child_of}
use Rattle.sblock.specs.Blocks.{numrecs, records_of}
use Rattle.sblock.specs.Form.{Form, IsLawful, same_key}
use Rattle.sblock.specs.Kinds.{has_high_keys_of}
use Rattle.sblock.specs.Lists.{items_from}
use Rattle.sblock.specs.Spans.{span_of, span_over, span_of_one, join}
use Rattle.sblock.specs.declared.spans.Span.{Span}
use Rattle.sblock.proofs.SpanLemmas.{record_taken, subtree_taken}
use Rattle.tree_defs.specs.Levels.{AllEntries}
use Rattle.tree_defs.specs.Tree.{Entry, agrees, entry_at, entries_from}
use Rattle.tree_defs.specs.declared.site.Site.{Site}
use Rattle.place_cells.specs.Cells.{item_at}
use Rattle.place_cells.specs.Entries.{cell_in, cell_both, HasCell}
use Rattle.place_cells.specs.declared.node.Cell.{Cell}
use Rattle.place_laws.specs.Keys.{spans_in}
use Rattle.place_laws.specs.Turns.{SameEntries}
use Rattle.place_ways.specs.Cuts.{puts, as_entries}
use Rattle.place_ways.specs.Fills.{entry_of}
use Rattle.place_ways.specs.Ways.{way_in, front_on, back_on}
use Rattle.place_ways.proofs.CutLemmas.{items_join_lem, node_cuts_put_lem}
use Rattle.place_ways.proofs.ServeLemmas.{cells_serve_lem}
use Rattle.way_check.specs.Checks.{cell_over, IsCellOver, HasChild}
use Rattle.way_check.specs.Way.{block_span}
use Rattle.way_check.proofs.LeafLemmas.{less, in_front, put_here, put_behind}

not_self : (a : Bool) → a ≡ false → (not a && not a) ≡ true
not_self true h = cc
not_self false h = refl

-- one item more
one_more : (I : Type 0) (item : ℕ → I) (i : ℕ) → items_from item (i + 1) 0 ≡ items_from item i 0 ++ item i ∷ []
one_more I item i = let z : 0 + i ≡ i = omega arith in items_join_lem I item i 1 0 ∙ ap (λ (j : ℕ). items_from item i 0 ++ item j ∷ []) z

spans_join : {K : Type 0} (xs : List (Entry K)) (e : Entry K) → spans_in (xs ++ e ∷ []) ≡ spans_in xs ++ record { low = e.low; high = e.high } ∷ []
spans_join [] e = refl
spans_join (x ∷ xs) e = ap (λ (t : List (Span _)). record { low = x.low; high = x.high } ∷ t) (spans_join xs e)

module _ {R K : Type 0} (form : Form R K) (law : IsLawful form) where
  -- ---- the keys of a block, record by record or entry by entry

  pub leaf_taken : (area : List ℕ) (i : ℕ) → span_of form (items_from (form.record_at area) (i + 1) 0) ≡ join form (span_of form (items_from (form.record_at area) i 0)) (Some (span_of_one form (form.record_at area i)))
  leaf_taken area i = ap (span_of form) (one_more R (form.record_at area) i) ∙ record_taken form law (items_from (form.record_at area) i 0) (form.record_at area i)

  pub node_taken : (area : List ℕ) (i : ℕ) → span_over form (spans_in (items_from (entry_at form area) (i + 1) 0)) ≡ join form (span_over form (spans_in (items_from (entry_at form area) i 0))) (Some (record { low = form.key_at area i; high = form.high_key_at area i }))
  node_taken area i =
      ap (λ (es : List (Entry K)). span_over form (spans_in es)) (one_more (Entry K) (entry_at form area) i)
      ∙ (ap (span_over form) (spans_join (items_from (entry_at form area) i 0) (entry_at form area i))
      ∙ subtree_taken form law (spans_in (items_from (entry_at form area) i 0)) (record { low = form.key_at area i; high = form.high_key_at area i }))

  -- ---- one entry in the place of another

  one_key : (a : K) → same_key form a a ≡ true
  one_key a = not_self (form.is_before a a) (law.strict a)

  pub cell_at_place : (old new : List ℕ) (at k : ℕ) → k ≡ at → IsCellOver form old new at k
  cell_at_place old new at k is =
      subst (λ (c : Cell K). HasCell form (area_of new) k c) (sym (put_here (cell_in form old) (cell_in form new at) at k 1 is))
      (subst (λ (i : ℕ). HasCell form (area_of new) i (cell_in form new at)) (sym is)
      (record { child = refl; low = one_key (form.key_at (area_of new) at); high = λ has. one_key (form.high_key_at (area_of new) at) }))

  beyond : (at k : ℕ) → at ≤ k → k ≢ at → at < k
  beyond at k behind other = elim (cases_lt at k) [ inl past ↦ past | inr near ↦ absurd (other (omega (arith, behind, near))) ]

  behind_is : (k : ℕ) → 1 ≤ k → k - 1 + 1 ≡ k
  behind_is k some = omega (arith, some)

  pub cell_elsewhere : (old new : List ℕ) (at k : ℕ) → k ≢ at → child_of form.kind (area_of new) k ≡ child_of form.kind (area_of old) k → same_key form (form.key_at (area_of new) k) (form.key_at (area_of old) k) ≡ true
      → same_key form (form.high_key_at (area_of new) k) (form.high_key_at (area_of old) k) ≡ true → IsCellOver form old new at k
  cell_elsewhere old new at k other child low high =
      let has : HasCell form (area_of new) k (cell_in form old k) = record { child = child; low = low; high = λ h. high } in
      elim (cases_lt k at) [
        | inl front ↦ subst (λ (c : Cell K). HasCell form (area_of new) k c) (sym (in_front (cell_in form old) (cell_over (cell_in form new at) at) k front)) has
        | inr behind ↦
            let past = beyond at k behind other in
            let e : item_at (cell_in form old) (cell_over (cell_in form new at) at) k ≡ cell_in form old k = put_behind (cell_in form old) (cell_in form new at) at k 1 past ∙ ap (cell_in form old) (behind_is k (omega (arith, past))) in
            subst (λ (c : Cell K). HasCell form (area_of new) k c) (sym e) has
      ]

  both_is : (bytes : List ℕ) (i : ℕ) → i < numrecs bytes → cell_both form bytes bytes i ≡ cell_in form bytes i
  both_is bytes i lt = let t = less i (numrecs bytes) lt in rw t refl

  cells_both : (old : List ℕ) (cell : Cell K) (at k : ℕ) → at < numrecs old → k < numrecs old → item_at (cell_in form old) (cell_over cell at) k ≡ item_at (cell_both form old old) (cell_over cell at) k
  cells_both old cell at k inside lt =
      elim (cases_lt k at) [
        | inl front ↦ in_front (cell_in form old) (cell_over cell at) k front ∙ sym (in_front (cell_both form old old) (cell_over cell at) k front ∙ both_is old k lt)
        | inr behind ↦ elim (cases_lt at k) [
          | inr near ↦ let is : k ≡ at = omega (arith, behind, near) in put_here (cell_in form old) cell at k 1 is ∙ sym (put_here (cell_both form old old) cell at k 1 is)
          | inl past ↦
              put_behind (cell_in form old) cell at k 1 past ∙ sym (put_behind (cell_both form old old) cell at k 1 past ∙ both_is old (k - 1 + 1) (omega (arith, lt, past)))
        ]
      ]

  -- the new node's entries, in three parts
  pub entries_are : (site : Site) (level : ℕ) (r : R) (old new below : List ℕ) → HasChild form level old new below (way_in form r old)
      → SameEntries form site (front_on form r old ++ ((entry_at form (area_of new) (way_in form r old) ∷ []) ++ back_on form r old)) (entries_from form new 0 (numrecs new))
  entries_are site level r old new below has =
      let at = way_in form r old in
      let cell = cell_in form new at in
      let rest = numrecs old - at - 1 in
      let all : at + (1 + rest) ≡ numrecs new = omega (arith, has.inside, has.count) in
      let in_old : (at + 1) + rest ≡ numrecs old = omega (arith, has.inside) in
      let cells : (k : ℕ) → k < numrecs new → HasCell form (area_of new) k (item_at (cell_both form old old) (cell_over cell at) (0 + k)) =
      λ k lt. let z : k ≡ 0 + k = omega arith in subst (λ (c : Cell K). HasCell form (area_of new) k c) (cells_both old cell at k has.inside (omega (arith, lt, has.count)) ∙ ap (item_at (cell_both form old old) (cell_over cell at)) z) (has.cells k lt) in
      let same = cells_serve_lem form site new (numrecs new) 0 (item_at (cell_both form old old) (cell_over cell at)) cells in
      let parts = node_cuts_put_lem form old old (cell_over cell at) rest in_old in
      let so : items_from (λ i. entry_of (item_at (cell_both form old old) (cell_over cell at) i)) (numrecs new) 0 ≡ front_on form r old ++ ((entry_at form (area_of new) at ∷ []) ++ back_on form r old) =
      subst (λ (n : ℕ). items_from (λ i. entry_of (item_at (cell_both form old old) (cell_over cell at) i)) n 0 ≡ front_on form r old ++ ((entry_at form (area_of new) at ∷ []) ++ back_on form r old)) all parts in
      subst (λ (es : List (Entry K)). SameEntries form site es (entries_from form new 0 (numrecs new))) so same
