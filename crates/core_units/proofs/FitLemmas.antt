-- What was gathered is in order and within its group, and what is derived can be loaded.
use Rattle.std.proofs.Common.{◌≡◌, ℕ, ◌+◌, ◌<◌, ◌≤◌, ◌^◌, All, List, [], ◌∷◌, map, arith, refl, subst, sym, true}
use Rattle.std.specs.List.{sum_by}
use Rattle.std.specs.Prelude.{filter, nat_lt}
use Rattle.std.proofs.lemmas.Bool.{ltb-true}
use Rattle.std.proofs.lemmas.Bool.Decides.{nat_tests}
use Rattle.std.proofs.lemmas.List.Sorted.{sum_by-IsPermutation}
use Rattle.std.specs.Global.{Vec}
use Rattle.core_units.specs.TreesFit.{AreFit, CanSpareBy, EndInGroup, LieApart}
use Rattle.core_units.specs.Trees.{AreSeenSound}
use Rattle.core_units.specs.declared.lists.Lists.{Lists}
use Rattle.core_units.specs.declared.lists.Lists.TheVariants as lists
use Rattle.derive_defs.specs.ByCount.{AreByCount}
use Rattle.derive_defs.specs.Free.{AreFree, block_count, is_free, run_of}
use Rattle.derive_defs.specs.Mappings.{StartsRise, blocks_of}
use Rattle.fs_model.specs.declared.unit.Unit.{Unit as ScrubUnit}
use Rattle.fs_model.specs.declared.unit.Unit.TheVariants as units
use Rattle.fs_state.specs.State.{recs_of}
use Rattle.geom.specs.Layout.{Layout, group_len_of}
use Rattle.group_trees.specs.Trees.{IsSound, reading_of}
use Rattle.group_trees.specs.declared.group.GroupTrees.{GroupTrees}
use Rattle.group_trees.specs.declared.reads.TreeSeen.{TreeSeen}
use Rattle.group_trees.specs.declared.reads.TreeSeen.TheVariants as trees
use Rattle.ino_recs.specs.Chunks.{fino_form, ino_form}
use Rattle.ino_recs.specs.declared.chunk.InoRec.{InoRec}
use Rattle.quiet_check.proofs.ChunkLemmas.{ends_below}
use Rattle.quiet_check.proofs.FaultLemmas.{free_rise}
use Rattle.quiet_check.proofs.JudgeLemmas.{maps_rise, rises_if_read}
use Rattle.rmap_recs.specs.Rmap.{rmap_form}
use Rattle.rmap_recs.specs.declared.records.RmapRec.{RmapRec}
use Rattle.run_edits.proofs.SortLemmas.{rises_sorted}
use Rattle.run_edits.specs.Edits.{HasRoom}
use Rattle.run_sets.proofs.OnlyRunsLemmas.{only_runs_below}
use Rattle.run_sets.specs.Runs.{AreMaximal, EndWithin, most}
use Rattle.run_sets.specs.declared.run.Run.{Run}
use Rattle.sblock.specs.Blocks.{AllInside, IsRising}
use Rattle.sblock.specs.declared.block.Bounds.{Bounds}
use Rattle.span_recs.specs.Refcounts.{refc_form}
use Rattle.span_recs.specs.Spans.{bno_form, cnt_form, is_span_in_range}
use Rattle.span_recs.specs.declared.refcount.RefcRec.{RefcRec}
use Rattle.span_recs.specs.declared.span.SpanRec.{SpanRec}
use Rattle.tree_defs.specs.Sites.{bounds_of}
use Rattle.unit_plan.specs.Spans.{BeginAt, RunsRise, SpansFit, span_run}
use Rattle.core_units.proofs.MappedLemmas.{maps_within}
use Rattle.core_units.specs.Compared.{AreComparable}
use Rattle.core_units.specs.Judging.{AreDerived, AreFewAll, IsFirst, IsJudging}
use Rattle.core_units.specs.declared.compare.Place.TheVariants.{First}
use Rattle.core_units.specs.declared.gather.Gathered.{Gathered}
use Rattle.core_units.specs.declared.judging.Judging.{Judging}

-- ---- btrees

spans_begin : (r : SpanRec) (s : ℕ) (rs : List SpanRec) → s ≤ r.start → IsRising bno_form (r ∷ rs) → BeginAt s (map span_run rs)
spans_begin r s [] le h = tt
spans_begin r s (q ∷ rs) le h =
    let lt = ltb-true r.start q.start h.0 in
    (omega (arith, le, lt), spans_begin q s rs (omega (arith, le, lt)) h.1)

spans_rise : (rs : List SpanRec) → IsRising bno_form rs → RunsRise (map span_run rs)
spans_rise [] h = tt
spans_rise (r ∷ rs) h = (spans_begin r r.start rs (omega arith) h, spans_rise rs h.1)

span_ends : (bounds : Bounds) (r : SpanRec) → is_span_in_range bounds r ≡ true → r.start + r.count ≤ bounds.length
unfolding is_span_in_range
span_ends bounds r h = grind (arith, nat_tests)

spans_end : (bounds : Bounds) (n : ℕ) (rs : List SpanRec) → bounds.length ≤ n → AllInside bno_form bounds rs → EndWithin n (map span_run rs)
spans_end bounds n [] le h = tt
spans_end bounds n (r ∷ rs) le h = (let k = span_ends bounds r h.0 in omega (arith, le, k), spans_end bounds n rs le h.1)

seen_spans : (bounds : Bounds) (n : ℕ) (seen : TreeSeen SpanRec) → bounds.length ≤ n → IsSound bno_form bounds seen → RunsRise (map span_run (recs_of (reading_of seen))) × EndWithin n (map span_run (recs_of (reading_of seen)))
seen_spans bounds n (trees.Whole read) le sound = (spans_rise read.recs.items sound.rising, spans_end bounds n read.recs.items le sound.inside)
seen_spans bounds n (trees.Bad block fault claims) le sound = (tt, tt)

maps_begin : (r : RmapRec) (s : ℕ) (rs : List RmapRec) → s ≤ r.start → StartsRise (r ∷ rs) → BeginAt s (map blocks_of rs)
maps_begin r s [] le h = tt
maps_begin r s (q ∷ rs) le h = let k = h.0 in (omega (arith, le, k), maps_begin q s rs (omega (arith, le, k)) h.1)

maps_as_runs : (rs : List RmapRec) → StartsRise rs → RunsRise (map blocks_of rs)
maps_as_runs [] h = tt
maps_as_runs (r ∷ []) h = (tt, tt)
maps_as_runs (r ∷ s ∷ rs) h = (maps_begin r r.start (s ∷ rs) (omega arith) h, maps_as_runs (s ∷ rs) h.1)

pub can_spare : (at : Layout) (g : ℕ) (trees : GroupTrees) → group_len_of at g ≤ most → AreSeenSound at g trees → CanSpareBy trees
can_spare at g trees short sound = (seen_spans (bounds_of at g) most trees.bno short sound.bno, maps_as_runs (recs_of (reading_of trees.rmap)) (maps_rise (bounds_of at g) trees.rmap sound.rmap))

pub end_in_group : (at : Layout) (g : ℕ) (trees : GroupTrees) → AreSeenSound at g trees → EndInGroup (group_len_of at g) trees
end_in_group at g trees sound = record {
  free = (seen_spans (bounds_of at g) (group_len_of at g) trees.bno (omega arith) sound.bno).1;
  mappings = maps_within (bounds_of at g) trees.rmap sound.rmap;
}

-- ---- lists

maximal_apart : (from to : ℕ) (rs : List SpanRec) → from ≤ to → AreMaximal to (map run_of rs) → EndWithin most (map run_of rs) → LieApart from rs
maximal_apart from to [] le h e = tt
maximal_apart from to (r ∷ rs) le h e = (let k = h.0 in omega (arith, le, k), h.1, e.0, maximal_apart (r.start + r.count) (r.start + r.count + 1) rs (omega arith) h.2 e.1)

ends_further : (n m : ℕ) (rs : List Run) → n ≤ m → EndWithin n rs → EndWithin m rs
ends_further n m [] le h = tt
ends_further n m (r ∷ rs) le h = (let k = h.0 in omega (arith, le, k), ends_further n m rs le h.1)

pub space_derived : (length : ℕ) (mapped : List RmapRec) (bno cnt : Vec SpanRec) → length ≤ most → AreFree length mapped bno.items → IsRising bno_form bno.items → block_count bno.items ≤ length → AreByCount bno.items cnt.items → AreDerived units.Free (lists.Free bno cnt)
space_derived length mapped bno cnt short free rising fits sorted =
    let runs = map run_of bno.items in
    let ends = ends_further length most runs short (ends_below (is_free mapped) length runs (only_runs_below (is_free mapped) length runs free)) in
    let same = sum_by-IsPermutation (λ (r : SpanRec). r.count) bno.items cnt.items sorted.same in
    record {
      suits = tt;
      fit = record {
        take = maximal_apart 0 0 bno.items (omega arith) free.maximal ends;
        loadable = ((rising, λ k d within. refl), (sorted.rising, λ k d within. refl));
        totals = omega (arith, same, fits, short);
      };
      few = omega (arith, fits, short);
    }

pub inodes_derived : (ino fino : Vec InoRec) → IsRising ino_form ino.items → fino.items ≡ filter (λ r. nat_lt 0 r.freecount) ino.items → sum_by (λ r. r.count) ino.items < 2 ^ 32 → sum_by (λ r. r.freecount) ino.items < 2 ^ 32 → AreDerived units.Inode (lists.Inode ino fino)
inodes_derived ino fino rising are count free = record {
  suits = tt;
  fit = record {
    take = tt;
    loadable = ((rising, λ k d within. refl), (subst (IsRising fino_form) (sym are) (free_rise ino.items rising), λ k d within. refl));
    totals = (count, free);
  };
  few = tt;
}

pub mappings_derived : (rmap : Vec RmapRec) → IsRising rmap_form rmap.items → All HasRoom rmap.items → AreDerived units.Rmap (lists.Rmap rmap)
mappings_derived rmap rising room = record {
  suits = tt;
  fit = record {
    take = (rises_sorted rmap.items rising, room);
    loadable = (rising, λ k d within. (room k d within).0);
    totals = tt;
  };
  few = tt;
}

pub counts_derived : (refc : Vec RefcRec) → IsRising refc_form refc.items → AreDerived units.Refc (lists.Refc refc)
counts_derived refc rising = record {
  suits = tt;
  fit = record { take = tt; loadable = (rising, λ k d within. refl); totals = tt };
  few = tt;
}

-- ---- both

pub comparable : (at : Layout) (g : ℕ) (trees : GroupTrees) (unit : ScrubUnit) (list : Lists) → AreSeenSound at g trees → AreDerived unit list → AreFewAll trees list → AreComparable trees list
comparable at g trees unit (lists.Inode ino fino) sound is few = (
  record { derived_rises = is.fit.loadable.0.0; index_rises = rises_if_read ino_form (bounds_of at g) trees.ino sound.ino; few = few.0 },
  record { derived_rises = is.fit.loadable.1.0; index_rises = rises_if_read fino_form (bounds_of at g) trees.fino sound.fino; few = few.1 },
)
comparable at g trees unit (lists.Rmap rmap) sound is few = record { derived_rises = is.fit.loadable.0; index_rises = rises_if_read rmap_form (bounds_of at g) trees.rmap sound.rmap; few = few }
comparable at g trees unit (lists.Free bno cnt) sound is few = (
  record { derived_rises = is.fit.loadable.0.0; index_rises = rises_if_read bno_form (bounds_of at g) trees.bno sound.bno; few = few.0 },
  record { derived_rises = is.fit.loadable.1.0; index_rises = rises_if_read cnt_form (bounds_of at g) trees.cnt sound.cnt; few = few.1 },
  is.few,
)
comparable at g trees unit (lists.Refc refc) sound is few = record { derived_rises = is.fit.loadable.0; index_rises = rises_if_read refc_form (bounds_of at g) trees.refc sound.refc; few = few }

-- the unit before its first comparison
abbrev pub first_of : ScrubUnit → Gathered → Lists → Vec ℕ → Judging
first_of unit gathered list us = record { unit = unit; trees = gathered.trees; lists = list; chunks = us; owners = gathered.owners; at = First 0; found = 0 }

pub judged_now : (at : Layout) (g : ℕ) (unit : ScrubUnit) (gathered : Gathered) (list : Lists) (us : Vec ℕ) → group_len_of at g ≤ most → AreSeenSound at g gathered.trees → AreDerived unit list × AreFewAll gathered.trees list × All (λ u. u < 2 ^ 26) us.items
    → IsJudging at g (first_of unit gathered list us) × IsFirst unit (first_of unit gathered list us)
judged_now at g unit gathered list us short sound is = (
  record {
    trees = sound;
    spare = can_spare at g gathered.trees short sound;
    within = end_in_group at g gathered.trees sound;
    unit = is.0.suits;
    comparable = comparable at g gathered.trees unit list sound is.0 is.1;
    fit = is.0.fit;
    chunks = is.2;
  },
  record { named = refl; at = refl; found = refl },
)
