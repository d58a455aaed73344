-- Free space that holds what it should, where a run leaves it or joins it with its mapping.
use Rattle.std.proofs.Common.{◌≡◌, ℕ, ◌+◌, ◌^◌, ◌<◌, ◌≤◌, Bool, true, false, List, [], ◌∷◌, refl, ap, ap₂, sym, subst, ◌∙◌, arith, Option, Some, None}
use Rattle.std.specs.Prelude.{is_some, sum_by, if◌then◌else◌}
use Rattle.derive_defs.specs.ByCount.{greatest, ordered_by_count}
use Rattle.derive_defs.specs.Free.{block_count, free_space}
use Rattle.derive_defs.proofs.SpaceLemmas.{free_fit}
use Rattle.fs_change.specs.Changes.{by_count, follow, last_count, span_sum}
use Rattle.fs_change.specs.Parts.{is_edited, records_in, with_recs}
use Rattle.fs_change.specs.Records.{by_start, give_span, holder_of, span, take_span}
use Rattle.fs_state.specs.Derive.{bno_of, cnt_of, derive, mappings}
use Rattle.fs_state.specs.Faults.{beside_roots, blocks_counted, wanted}
use Rattle.fs_state.specs.Laws.{IsGood, IsGoodCounter, IsGoodTree}
use Rattle.fs_model.specs.declared.entry.Extent.{Extent}
use Rattle.fs_model.specs.declared.fault.Counter.TheVariants.{Freeblks, Longest, Btreeblks}
use Rattle.fs_model.specs.declared.unit.Unit.TheVariants as units
use Rattle.fs_state.specs.State.{State, Group, Readable, Reading, recs_of}
use Rattle.geom.specs.Apart.{HasFitting}
use Rattle.geom.specs.Layout.{Layout, group_len_of}
use Rattle.rmap_recs.specs.declared.records.RmapRec.{RmapRec}
use Rattle.sblock.specs.declared.kind.Kind.{Kind}
use Rattle.sblock.specs.declared.kind.Kind.TheVariants.{Bno, Cnt, Rmap}
use Rattle.span_recs.specs.declared.span.SpanRec.{SpanRec}
use Rattle.std.proofs.lemmas.Bool.Decides.{nat_tests}
use Rattle.law_accounts.proofs.Edit.Orders.{count_given, count_taken, longest_last}
use Rattle.law_accounts.proofs.Edit.Spaces.{free_given, free_taken}
use Rattle.law_accounts.specs.Edit.Space.{AreBare, CoverMore}
use Rattle.law_repairs.proofs.Repair.Same.{bno_same}
use Rattle.law_repairs.proofs.Move.Edits.{SpaceEdit, changed_index, freeblks_is, longest_is, space_by_count, space_by_start, spaced_group}
use Rattle.law_repairs.proofs.Move.Kept.{follows, some_out}
use Rattle.law_repairs.proofs.Move.Steps.{Steady}

-- a group has less than 2 ^ 32 blocks
pub short_group : (at : Layout) (g : ℕ) → HasFitting at → group_len_of at g < 2 ^ 32
short_group at g fit = grind (arith, nat_tests)

-- what should be in both, and what the counters should be
pub derived_space : (s : State) (g : ℕ) → (derive s g Bno ≡ free_space (group_len_of s.geometry g) (mappings s g)) × (derive s g Cnt ≡ ordered_by_count (free_space (group_len_of s.geometry g) (mappings s g)))
unfolding derive cnt_of bno_of
derived_space s g = (refl, refl)

pub wanted_space : (s : State) (g : ℕ) → (wanted s g Freeblks ≡ Some (block_count (free_space (group_len_of s.geometry g) (mappings s g)))) × (wanted s g Longest ≡ Some (greatest (ordered_by_count (free_space (group_len_of s.geometry g) (mappings s g)))))
unfolding wanted cnt_of bno_of
wanted_space s g = (refl, refl)

pub wanted_trees : (s : State) (g : ℕ) → wanted s g Btreeblks ≡ beside_roots (blocks_counted ((s.group g).tree Bno).reading) (blocks_counted ((s.group g).tree Cnt).reading) (blocks_counted ((s.group g).tree Rmap).reading)
unfolding wanted
wanted_trees s g = refl

-- an edit of free space by either order, that makes of free space `old` the free space `new`
module _ (f : SpaceEdit) (a x : State) (g : ℕ) (left : List Kind) (e : Extent) (s : Group) (fit : HasFitting a.geometry) (at : x.geometry ≡ a.geometry) where
  abbrev len : ℕ
  len = group_len_of a.geometry g

  abbrev run : SpanRec
  run = span e.block e.count

  abbrev old : List SpanRec
  old = free_space len (mappings a g)

  abbrev new : List SpanRec
  new = free_space len (mappings x g)

  -- s has the trees of free space of a, and x those that the edit makes of s
  pub record FromEdit : Type 0 where
    pub bno_was : s.tree Bno ≡ (a.group g).tree Bno
    pub cnt_was : s.tree Cnt ≡ (a.group g).tree Cnt
    pub bno_now : (x.group g).tree Bno ≡ (spaced_group f left e s).tree Bno
    pub cnt_now : (x.group g).tree Cnt ≡ (spaced_group f left e s).tree Cnt
    pub freeblks_was : s.counters Freeblks ≡ (a.group g).counters Freeblks
    pub freeblks_now : (x.group g).counters Freeblks ≡ (spaced_group f left e s).counters Freeblks
    pub longest_now : (x.group g).counters Longest ≡ (spaced_group f left e s).counters Longest
    pub roots_same : (x.group g).counters Btreeblks ≡ (a.group g).counters Btreeblks
    pub counted : (k : Kind) → blocks_counted ((x.group g).tree k).reading ≡ blocks_counted ((a.group g).tree k).reading
    pub bno_edited : is_edited left s Bno ≡ true
    pub cnt_edited : is_edited left s Cnt ≡ true

  module _ (d : FromEdit) (starts : f by_start old run old ≡ new) (counts : f by_count old run (ordered_by_count old) ≡ ordered_by_count new) (good : IsGood a g units.Free) where
    bno_read : ((a.group g).tree Bno).reading ≡ Readable old good.0.0.0
    bno_read = good.0.0.1 ∙ ap (λ (rs : List SpanRec). Readable rs good.0.0.0) (derived_space a g).0

    cnt_read : ((a.group g).tree Cnt).reading ≡ Readable (ordered_by_count old) good.0.1.0.0
    cnt_read = good.0.1.0.1 ∙ ap (λ (rs : List SpanRec). Readable rs good.0.1.0.0) (derived_space a g).1

    was_listed : records_in s Bno ≡ old
    was_listed = ap (λ i. recs_of i.reading) d.bno_was ∙ ap recs_of bno_read

    bno_then : ((x.group g).tree Bno).reading ≡ Readable new good.0.0.0
    bno_then =
        ap (λ i. i.reading) (d.bno_now ∙ space_by_start f left e s d.bno_edited d.cnt_edited)
        ∙ (λ i. with_recs (f by_start (was_listed i) run (recs_of (d.bno_was i).reading)) (d.bno_was i).reading)
        ∙ (λ i. with_recs (f by_start old run (recs_of (bno_read i))) (bno_read i))
        ∙ ap (λ (rs : List SpanRec). Readable rs good.0.0.0) starts

    cnt_then : ((x.group g).tree Cnt).reading ≡ Readable (ordered_by_count new) good.0.1.0.0
    cnt_then =
        ap (λ i. i.reading) (d.cnt_now ∙ space_by_count f left e s d.bno_edited d.cnt_edited)
        ∙ (λ i. with_recs (f by_count (was_listed i) run (recs_of (d.cnt_was i).reading)) (d.cnt_was i).reading)
        ∙ (λ i. with_recs (f by_count old run (recs_of (cnt_read i))) (cnt_read i))
        ∙ ap (λ (rs : List SpanRec). Readable rs good.0.1.0.0) counts

    same_len : group_len_of x.geometry g ≡ len
    same_len = ap (λ (y : Layout). group_len_of y g) at

    new_is : free_space (group_len_of x.geometry g) (mappings x g) ≡ new
    new_is = ap (λ (n : ℕ). free_space n (mappings x g)) same_len

    few : (rs : List RmapRec) → block_count (free_space len rs) < 2 ^ 32
    few rs = let fits = free_fit len rs (free_space len rs) refl in let short = short_group a.geometry g fit in omega (arith, fits, short)

    was_counted : (a.group g).counters Freeblks ≡ block_count old
    was_counted = good.1.0 (block_count old) (wanted_space a g).0

    bno_of_edit : records_in (spaced_group f left e s) Bno ≡ new
    bno_of_edit = ap (λ i. recs_of i.reading) (sym d.bno_now) ∙ ap recs_of bno_then

    cnt_of_edit : records_in (spaced_group f left e s) Cnt ≡ ordered_by_count new
    cnt_of_edit = ap (λ i. recs_of i.reading) (sym d.cnt_now) ∙ ap recs_of cnt_then

    free_counted : (x.group g).counters Freeblks ≡ block_count new
    free_counted =
        d.freeblks_now ∙ freeblks_is f left e s
        ∙ (λ i. follow (d.freeblks_was i) (block_count (was_listed i)) (block_count (bno_of_edit i)))
        ∙ follows ((a.group g).counters Freeblks) (block_count old) (block_count new) was_counted (few (mappings a g)) (few (mappings x g))

    longest_counted : (x.group g).counters Longest ≡ greatest (ordered_by_count new)
    longest_counted = d.longest_now ∙ longest_is f left e s d.bno_edited d.cnt_edited ∙ ap last_count cnt_of_edit ∙ longest_last new

    pub space_edited : IsGood x g units.Free
    space_edited = (
      (
        (good.0.0.0, bno_then ∙ ap (λ (rs : List SpanRec). Readable rs good.0.0.0) (sym new_is ∙ sym (derived_space x g).0)),
        ((good.0.1.0.0, cnt_then ∙ ap (λ (rs : List SpanRec). Readable rs good.0.1.0.0) (ap ordered_by_count (sym new_is) ∙ sym (derived_space x g).1)), tt),
      ),
      (
        λ n h. free_counted ∙ some_out (block_count new) n (sym (ap (λ (rs : List SpanRec). Some (block_count rs)) new_is) ∙ sym (wanted_space x g).0 ∙ h),
        (
          λ n h. longest_counted ∙ some_out (greatest (ordered_by_count new)) n (sym (ap (λ (rs : List SpanRec). Some (greatest (ordered_by_count rs))) new_is) ∙ sym (wanted_space x g).1 ∙ h),
          (
            λ n h. d.roots_same ∙ good.1.1.1.0 n (wanted_trees a g ∙ (λ i. beside_roots (sym (d.counted Bno) i) (sym (d.counted Cnt) i) (sym (d.counted Rmap) i)) ∙ sym (wanted_trees x g) ∙ h),
            tt,
          ),
        ),
      ),
    )

-- where neither changes, and mappings cover the same blocks
pub space_unchanged : (a x : State) (g : ℕ) → x.geometry ≡ a.geometry → (x.group g).tree Bno ≡ (a.group g).tree Bno → (x.group g).tree Cnt ≡ (a.group g).tree Cnt
    → (x.group g).counters Freeblks ≡ (a.group g).counters Freeblks → (x.group g).counters Longest ≡ (a.group g).counters Longest → (x.group g).counters Btreeblks ≡ (a.group g).counters Btreeblks
    → ((k : Kind) → blocks_counted ((x.group g).tree k).reading ≡ blocks_counted ((a.group g).tree k).reading)
    → free_space (group_len_of a.geometry g) (mappings x g) ≡ free_space (group_len_of a.geometry g) (mappings a g) → IsGood a g units.Free → IsGood x g units.Free
space_unchanged a x g at bno cnt freeblks longest roots counted same good =
    let all : free_space (group_len_of x.geometry g) (mappings x g) ≡ free_space (group_len_of a.geometry g) (mappings a g) = ap (λ (y : Layout). free_space (group_len_of y g) (mappings x g)) at ∙ same in (
      (
        (good.0.0.0, ap (λ i. i.reading) bno ∙ good.0.0.1 ∙ ap (λ (rs : List SpanRec). Readable rs good.0.0.0) ((derived_space a g).0 ∙ sym all ∙ sym (derived_space x g).0)),
        ((good.0.1.0.0, ap (λ i. i.reading) cnt ∙ good.0.1.0.1 ∙ ap (λ (rs : List SpanRec). Readable rs good.0.1.0.0) ((derived_space a g).1 ∙ ap ordered_by_count (sym all) ∙ sym (derived_space x g).1)), tt),
      ),
      (
        λ n h. freeblks ∙ good.1.0 n ((wanted_space a g).0 ∙ ap (λ (rs : List SpanRec). Some (block_count rs)) (sym all) ∙ sym (wanted_space x g).0 ∙ h),
        (
          λ n h. longest ∙ good.1.1.0 n ((wanted_space a g).1 ∙ ap (λ (rs : List SpanRec). Some (greatest (ordered_by_count rs))) (sym all) ∙ sym (wanted_space x g).1 ∙ h),
          (
            λ n h. roots ∙ good.1.1.1.0 n (wanted_trees a g ∙ (λ i. beside_roots (sym (counted Bno) i) (sym (counted Cnt) i) (sym (counted Rmap) i)) ∙ sym (wanted_trees x g) ∙ h),
            tt,
          ),
        ),
      ),
    )
