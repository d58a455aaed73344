-- Blocks that the parts of a check read, where the device tells its content.
use Rattle.std.proofs.Common.{◌≡◌, ℕ, ◌+◌, ◌-◌, ◌<◌, ◌≤◌, Bool, List, [], ◌∷◌, ◌++◌, length, map, Option, Some, None, Result, Ok, Err, refl, sym, ◌∙◌, ap, subst, arith}
use Rattle.std.specs.Prelude.{flat_map}
use Rattle.ag_headers.specs.declared.agf.Agf.{Agf}
use Rattle.blk_device.specs.Contents.{Contents}
use Rattle.blk_device.specs.declared.device.Region.TheVariants as regions
use Rattle.fs_state.specs.Lists.{numbers}
use Rattle.fs_state.specs.Session.{Place}
use Rattle.fs_model.specs.declared.entry.Entry.{Entry}
use Rattle.fs_model.specs.declared.unit.Unit.{Unit as ScrubUnit}
use Rattle.fs_model.specs.declared.unit.Unit.TheVariants as units
use Rattle.fs_state.specs.Kinds.{Image, heads_of}
use Rattle.fs_state.specs.State.{State}
use Rattle.geom.specs.Layout.{Layout}
use Rattle.inode_pass.specs.Units.{opened_state}
use Rattle.quiet_check.proofs.EntryLemmas.{entries_said}
use Rattle.quiet_check.specs.Counted.{inodes_most, shared_reads}
use Rattle.quiet_check.specs.Entries.{entries_after, entries_of as entries_by}
use Rattle.quiet_check.specs.Judged.{IsJudged}
use Rattle.quiet_check.specs.Space.{IsMapped}
use Rattle.quiet_check.specs.declared.judge.Judged.{Judged}
use Rattle.rmap_recs.specs.declared.records.RmapRec.{RmapRec}
use Rattle.space_check.specs.Events.{Event, Moment, StopsIn, entries_of, most_entries}
use Rattle.space_check.specs.Groups.{event, free_reads}
use Rattle.space_check.specs.Progress.{Adds}
use Rattle.space_check.specs.declared.halt.Halt.{Halt}
use Rattle.space_check.specs.declared.halt.Halt.TheVariants as halts
use Rattle.tree_blocks.specs.declared.tree.TreeRead.{TreeRead}
use Rattle.check_phases.specs.Checks.{Checks}
use Rattle.check_phases.specs.Kept.{KeepsEvents, KeepsBoth, KeepsCounts, KeepsFree, KeepsGroup, KeepsTold, StopsKept, come, group_kept, kept_event, mapped_reads, most_in, phase_kept, unit_kept}
use Rattle.check_phases.specs.Phases.{Inodes, Phase, Space, group_events, lacks_nothing, phase_events, unit_event, units_in}
use Rattle.check_phases.specs.declared.tally.Tally.{Tally}
use Rattle.check_phases.proofs.KeptLemmas.{cut_kept, groups_begun, groups_ended, groups_go_on, groups_stop, none_begun, one_kept, stops_early, then_keeps}

-- ---- events that read nothing

-- events with the same entries, whatever is read for them
abbrev pub AreAlike : (es fs : List Event) → Type 0
AreAlike [] [] = Unit {0}
AreAlike [] (f ∷ fs) = ⊥
AreAlike (e ∷ es) [] = ⊥
AreAlike (e ∷ es) (f ∷ fs) = (f.entries ≡ e.entries) × AreAlike es fs

alike_entries : (es fs : List Event) → AreAlike es fs → entries_of es ≡ entries_of fs
alike_entries [] [] h = refl
alike_entries [] (f ∷ fs) h = absurd h
alike_entries (e ∷ es) [] h = absurd h
alike_entries (e ∷ es) (f ∷ fs) h = λ i. sym h.0 i ++ alike_entries es fs h.1 i

alike_both : (es fs ds gs : List Event) → AreAlike es fs → AreAlike ds gs → AreAlike (es ++ ds) (fs ++ gs)
alike_both [] [] ds gs h k = k
alike_both [] (f ∷ fs) ds gs h k = absurd h
alike_both (e ∷ es) [] ds gs h k = absurd h
alike_both (e ∷ es) (f ∷ fs) ds gs h k = (h.0, alike_both es fs ds gs h.1 k)

alike_parts : (done rest fs : List Event) → AreAlike (done ++ rest) fs → (first : List Event) × (last : List Event) × (fs ≡ first ++ last) × AreAlike done first
alike_parts [] rest fs h = ([], fs, refl, tt)
alike_parts (d ∷ done) rest [] h = absurd h
alike_parts (d ∷ done) rest (f ∷ fs) h = let more = alike_parts done rest fs h.1 in (f ∷ more.0, more.1, ap (λ (x : List Event). f ∷ x) more.2, (h.0, more.3))

module _ (most : ℕ → ScrubUnit → ℕ) (a : State) (lacks : ℕ → Option Place) where
  units_alike : (g : ℕ) (us : List ScrubUnit) → AreAlike (map (unit_event a g (lacks g)) us) (map (kept_event most a g (lacks g)) us)
  units_alike g [] = tt
  units_alike g (u ∷ us) = (refl, units_alike g us)

  groups_alike : (phase : Phase) (hs : List ℕ) → AreAlike (flat_map (group_events a phase lacks) hs) (flat_map (group_kept most a phase lacks) hs)
  groups_alike phase [] = tt
  groups_alike phase (h ∷ hs) =
      alike_both (group_events a phase lacks h) (group_kept most a phase lacks h) (flat_map (group_events a phase lacks) hs) (flat_map (group_kept most a phase lacks) hs) (units_alike h (units_in phase)) (groups_alike phase hs)

  pub phase_alike : (phase : Phase) (g n : ℕ) → AreAlike (phase_events a phase lacks g n) (phase_kept most a phase lacks g n)
  unfolding phase_events phase_kept
  phase_alike phase g n = groups_alike phase (numbers g n)

  pub group_alike : (phase : Phase) (g : ℕ) → AreAlike (group_events a phase lacks g) (group_kept most a phase lacks g)
  group_alike phase g = units_alike g (units_in phase)

unread_front : (halt : Halt) (es fs : List Event) (a b : Tally) (reads : ℕ) → AreAlike es fs → (s : StopsIn halt es (come a 0) (come b 0)) → b.journal.entries.items ≡ s.reached.journal → StopsKept fs (come a reads) (come b reads)
unread_front halt es fs a b reads alike s same =
    let parts = alike_parts s.done (s.next ∷ s.rest) fs (subst (λ (x : List Event). AreAlike x fs) s.whole alike) in
    record {
      done = parts.0;
      rest = parts.1;
      whole = parts.2;
      entries = same ∙ s.front.added ∙ ap (λ (x : List Entry). a.journal.entries.items ++ x) (alike_entries s.done parts.0 parts.3);
      read = omega arith;
    }

-- nothing was read for them
pub unread : {T : Type 0} (es fs : List Event) (ps : List Bool) (a b : Tally) (reads : ℕ) (result : Result T Halt) → AreAlike es fs → Checks es ps a b result → KeepsEvents fs (come a reads) (come b reads) result
unread es fs ps a b reads (Ok done) alike h = record { entries = h.0.added ∙ ap (λ (x : List Entry). a.journal.entries.items ++ x) (alike_entries es fs alike); read = omega arith }
unread es fs ps a b reads (Err (halts.Head g head fault)) alike h = absurd h.ended
unread es fs ps a b reads (Err halts.Full) alike h = unread_front halts.Full es fs a b reads alike h (ap (λ (m : Moment). m.journal) h.ended.1)
unread es fs ps a b reads (Err halts.Failed) alike h = unread_front halts.Failed es fs a b reads alike h h.ended.none
unread es fs ps a b reads (Err halts.Memory) alike h = unread_front halts.Memory es fs a b reads alike h h.ended.none

-- ---- one unit

module _ (a : State) (g : ℕ) (unit : ScrubUnit) (most : ℕ) where
  abbrev here : Event
  here = event most (entries_after a g unit None)

  pub unit_keeps : {T : Type 0} (before after : Tally) (first reads : ℕ) (result : Result T Halt) (j : Judged) → IsJudged a g unit j → length before.journal.entries.items < most_entries → Adds before.journal.entries.items (entries_by g unit j) after.journal.entries.items result → reads ≤ first + most → KeepsEvents (here ∷ []) (come before first) (come after reads) result
  unit_keeps before after first reads result j is room added read =
      one_kept here (come before first) (come after reads) result room (subst (λ (es : List Entry). Adds before.journal.entries.items es after.journal.entries.items result) (entries_said a g unit j is) added) read

  pub unit_cut : (rest : List Event) (t : Tally) (first reads : ℕ) → length t.journal.entries.items < most_entries → reads ≤ first + most → StopsKept (here ∷ rest) (come t first) (come t reads)
  unit_cut rest t first reads room read = cut_kept here rest (come t first) (come t reads) room refl read

module _ (at : Layout) (told : Option Contents) where
  -- nothing began
  pub none_keeps : (T : Type 0) (events : Image → List Event) (t : Tally) (reads : ℕ) (halt : Halt) → KeepsTold {T = T} told events t reads t reads (Err halt)
  none_keeps T events t reads halt = λ m e. none_begun (events (m regions.Image)) (come t reads)

  pub group_none : (T : Type 0) (phase : Phase) (lacks : ℕ → Option Place) (g : ℕ) (t : Tally) (reads : ℕ) (halt : Halt) → KeepsGroup {T = T} at told phase lacks g t reads t reads (Err halt)
  group_none T phase lacks g t reads halt = λ m e. none_begun (group_kept (most_in at (m regions.Image)) (opened_state at (m regions.Image)) phase lacks g) (come t reads)

  -- ---- inodes

  pub inode_cut : (T : Type 0) (g : ℕ) (t : Tally) (reads reads' : ℕ) (halt : Halt) → length t.journal.entries.items < most_entries → ((c : Contents) → told ≡ Some c → reads' ≤ reads + inodes_most at (c regions.Image) g) → KeepsGroup {T = T} at told Inodes lacks_nothing g t reads t reads' (Err halt)
  unfolding most_in
  inode_cut T g t reads reads' halt room read = λ m e. unit_cut (opened_state at (m regions.Image)) g units.Inode (inodes_most at (m regions.Image) g) [] t reads reads' room (read m e)

  pub inode_keeps : {T : Type 0} (g : ℕ) (before after : Tally) (reads reads' : ℕ) (result : Result T Halt) (j : Judged) → ((c : Contents) → told ≡ Some c → IsJudged (opened_state at (c regions.Image)) g units.Inode j) → length before.journal.entries.items < most_entries → Adds before.journal.entries.items (entries_by g units.Inode j) after.journal.entries.items result
      → ((c : Contents) → told ≡ Some c → reads' ≤ reads + inodes_most at (c regions.Image) g) → KeepsGroup at told Inodes lacks_nothing g before reads after reads' result
  unfolding most_in
  inode_keeps g before after reads reads' result j is room added read = λ m e. unit_keeps (opened_state at (m regions.Image)) g units.Inode (inodes_most at (m regions.Image) g) before after reads reads' result j (is m e) room added (read m e)

  -- ---- free space and reference counts

  module _ (g : ℕ) (agf : Agf) (mapped : TreeRead RmapRec) where
    free_read : (image : Image) (first reads reads' : ℕ) → IsMapped at image g agf mapped → reads ≤ first + mapped_reads at image g agf → reads' ≤ reads + free_reads at image g agf → reads' ≤ first + most_in at image g units.Free
    unfolding most_in
    free_read image first reads reads' is before read =
        let all : reads' ≤ first + (mapped_reads at image g agf + free_reads at image g agf) = omega (arith, before, read) in
        subst (λ (h : Agf). reads' ≤ first + (mapped_reads at image g h + free_reads at image g h)) is.named all

    counts_read : (image : Image) (reads reads' : ℕ) → IsMapped at image g agf mapped → reads' ≤ reads + shared_reads at image g agf → reads' ≤ reads + most_in at image g units.Refc
    unfolding most_in
    counts_read image reads reads' is read = subst (λ (h : Agf). reads' ≤ reads + shared_reads at image g h) is.named read

    pub free_cut : (T : Type 0) (t : Tally) (reads reads' : ℕ) (halt : Halt) → length t.journal.entries.items < most_entries → ((c : Contents) → told ≡ Some c → reads' ≤ reads + free_reads at (c regions.Image) g agf) → KeepsFree {T = T} at told g agf mapped t reads t reads' (Err halt)
    free_cut T t reads reads' halt room read = λ m e is first before.
        unit_cut (opened_state at (m regions.Image)) g units.Free (most_in at (m regions.Image) g units.Free) [] t first reads' room (free_read (m regions.Image) first reads reads' is before (read m e))

    pub free_keeps : {T : Type 0} (before after : Tally) (reads reads' : ℕ) (result : Result T Halt) (j : Judged) → ((c : Contents) → told ≡ Some c → IsMapped at (c regions.Image) g agf mapped → IsJudged (opened_state at (c regions.Image)) g units.Free j) → length before.journal.entries.items < most_entries
        → Adds before.journal.entries.items (entries_by g units.Free j) after.journal.entries.items result → ((c : Contents) → told ≡ Some c → reads' ≤ reads + free_reads at (c regions.Image) g agf) → KeepsFree at told g agf mapped before reads after reads' result
    free_keeps before after reads reads' result j judged room added read = λ m e is first so.
        unit_keeps (opened_state at (m regions.Image)) g units.Free (most_in at (m regions.Image) g units.Free) before after first reads' result j (judged m e is) room added (free_read (m regions.Image) first reads reads' is so (read m e))

    pub counts_none : (T : Type 0) (t : Tally) (reads : ℕ) (halt : Halt) → KeepsCounts {T = T} at told g agf mapped t reads t reads (Err halt)
    counts_none T t reads halt = λ m e is. none_begun (unit_kept at (m regions.Image) g units.Refc ∷ []) (come t reads)

    pub counts_cut : (T : Type 0) (t : Tally) (reads reads' : ℕ) (halt : Halt) → length t.journal.entries.items < most_entries → ((c : Contents) → told ≡ Some c → reads' ≤ reads + shared_reads at (c regions.Image) g agf) → KeepsCounts {T = T} at told g agf mapped t reads t reads' (Err halt)
    counts_cut T t reads reads' halt room read = λ m e is.
        unit_cut (opened_state at (m regions.Image)) g units.Refc (most_in at (m regions.Image) g units.Refc) [] t reads reads' room (counts_read (m regions.Image) reads reads' is (read m e))

    pub counts_keep : {T : Type 0} (before after : Tally) (reads reads' : ℕ) (result : Result T Halt) (j : Judged) → ((c : Contents) → told ≡ Some c → IsMapped at (c regions.Image) g agf mapped → IsJudged (opened_state at (c regions.Image)) g units.Refc j) → length before.journal.entries.items < most_entries
        → Adds before.journal.entries.items (entries_by g units.Refc j) after.journal.entries.items result → ((c : Contents) → told ≡ Some c → reads' ≤ reads + shared_reads at (c regions.Image) g agf) → KeepsCounts at told g agf mapped before reads after reads' result
    counts_keep before after reads reads' result j judged room added read = λ m e is.
        unit_keeps (opened_state at (m regions.Image)) g units.Refc (most_in at (m regions.Image) g units.Refc) before after reads reads' result j (judged m e is) room added (counts_read (m regions.Image) reads reads' is (read m e))

    pub free_stops : (S T : Type 0) (a b : Tally) (reads reads' : ℕ) (halt : Halt) → KeepsFree {T = S} at told g agf mapped a reads b reads' (Err halt) → KeepsBoth {T = T} at told g agf mapped a reads b reads' (Err halt)
    free_stops S T a b reads reads' halt h = λ m e is first so.
        stops_early (unit_kept at (m regions.Image) g units.Free ∷ []) (unit_kept at (m regions.Image) g units.Refc ∷ []) (come a first) (come b reads') (h m e is first so)

    pub both_keep : {T : Type 0} (S : Type 0) (done : S) (a b c : Tally) (reads reads' reads'' : ℕ) (now : Option Contents) (result : Result T Halt) → now ≡ told → KeepsFree {T = S} at told g agf mapped a reads b reads' (Ok done) → KeepsCounts at now g agf mapped b reads' c reads'' result → KeepsBoth at told g agf mapped a reads c reads'' result
    both_keep S done a b c reads reads' reads'' now result same free counts = λ m e is first so.
        then_keeps (unit_kept at (m regions.Image) g units.Free ∷ []) (unit_kept at (m regions.Image) g units.Refc ∷ []) (come a first) (come b reads') (come c reads'') result (free m e is first so) (counts m (same ∙ e) is)

  -- both as they lack this unit, or lack none
  abbrev both_lacking : ℕ → Option Place → Image → List Event
  both_lacking g lack image = kept_event (most_in at image) (opened_state at image) g lack units.Free ∷ kept_event (most_in at image) (opened_state at image) g lack units.Refc ∷ []

  pub lacking : {T : Type 0} (g : ℕ) (lacks : ℕ → Option Place) (lack : Option Place) (a b : Tally) (reads reads' : ℕ) (result : Result T Halt) → lack ≡ lacks g → KeepsTold told (both_lacking g lack) a reads b reads' result → KeepsGroup at told Space lacks g a reads b reads' result
  lacking g lacks lack a b reads reads' result is h = subst (λ (o : Option Place). KeepsTold told (both_lacking g o) a reads b reads' result) is h

  pub skipped : {T : Type 0} (g : ℕ) (needed : Place) (ps : List Bool) (a b : Tally) (reads : ℕ) (result : Result T Halt)
      → ((s : State) → Checks (unit_event s g (Some needed) units.Free ∷ unit_event s g (Some needed) units.Refc ∷ []) ps a b result) → KeepsTold told (both_lacking g (Some needed)) a reads b reads result
  skipped g needed ps a b reads result h = λ m e.
      let s = opened_state at (m regions.Image) in
      unread (unit_event s g (Some needed) units.Free ∷ unit_event s g (Some needed) units.Refc ∷ []) (both_lacking g (Some needed) (m regions.Image)) ps a b reads result (refl, (refl, tt)) (h s)

  -- the reverse mappings can't be read any more, or there was no memory before
  pub mapped_cut : (T : Type 0) (g : ℕ) (agf : Agf) (t : Tally) (reads reads' : ℕ) (halt : Halt) → ((c : Contents) → told ≡ Some c → agf ≡ (heads_of at (c regions.Image) g).agf) → length t.journal.entries.items < most_entries
      → ((c : Contents) → told ≡ Some c → reads' ≤ reads + mapped_reads at (c regions.Image) g agf) → KeepsTold {T = T} told (both_lacking g None) t reads t reads' (Err halt)
  unfolding most_in
  mapped_cut T g agf t reads reads' halt head room read = λ m e.
      let image = m regions.Image in
      let some = subst (λ (h : Agf). reads' ≤ reads + mapped_reads at image g h) (head m e) (read m e) in
      unit_cut (opened_state at image) g units.Free (most_in at image g units.Free) (unit_kept at image g units.Refc ∷ []) t reads reads' room (omega (arith, some))

-- ---- groups, one after the other

abbrev pub groups_of : (most : Image → ℕ → ScrubUnit → ℕ) → Layout → Phase → (ℕ → Option Place) → (g n : ℕ) → Image → List Event
groups_of most at phase lacks g n image = phase_kept (most image) (opened_state at image) phase lacks g n

module _ (most : Image → ℕ → ScrubUnit → ℕ) (at : Layout) (told : Option Contents) (phase : Phase) (lacks : ℕ → Option Place) where
  abbrev these : (g n : ℕ) → Image → List Event
  these g n = groups_of most at phase lacks g n

  abbrev those : ℕ → Image → List Event
  those g image = group_kept (most image) (opened_state at image) phase lacks g

  pub keep_begun : (from n : ℕ) (t : Tally) (reads : ℕ) → n ≡ 0 → KeepsTold {T = Unit {0}} told (these from n) t reads t reads (Ok tt)
  keep_begun from n t reads none = λ m e. groups_begun (most (m regions.Image)) (opened_state at (m regions.Image)) phase lacks from n (come t reads) none

  pub keep_on : (from g : ℕ) (a b c : Tally) (reads reads' reads'' : ℕ) (now : Option Contents) → now ≡ told → from ≤ g → KeepsTold {T = Unit {0}} told (these from (g - from)) a reads b reads' (Ok tt) → KeepsTold {T = Unit {0}} now (those g) b reads' c reads'' (Ok tt) → KeepsTold {T = Unit {0}} told (these from ((g + 1) - from)) a reads c reads'' (Ok tt)
  keep_on from g a b c reads reads' reads'' now same le so one = λ m e.
      groups_go_on (most (m regions.Image)) (opened_state at (m regions.Image)) phase lacks from g (come a reads) (come b reads') (come c reads'') le (so m e) (one m (same ∙ e))

  pub keep_stop : (from to g : ℕ) (a b c : Tally) (reads reads' reads'' : ℕ) (halt : Halt) (now : Option Contents) → now ≡ told → from ≤ g → g < to → KeepsTold {T = Unit {0}} told (these from (g - from)) a reads b reads' (Ok tt) → KeepsTold {T = Unit {0}} now (those g) b reads' c reads'' (Err halt) → KeepsTold {T = Unit {0}} told (these from (to - from)) a reads c reads'' (Err halt)
  keep_stop from to g a b c reads reads' reads'' halt now same le lt so one = λ m e.
      groups_stop (most (m regions.Image)) (opened_state at (m regions.Image)) phase lacks from to g (come a reads) (come b reads') (come c reads'') le lt (so m e) (one m (same ∙ e))

  pub keep_ended : (from to g : ℕ) (a b : Tally) (reads reads' : ℕ) → g - from ≡ to - from → KeepsTold {T = Unit {0}} told (these from (g - from)) a reads b reads' (Ok tt) → KeepsTold {T = Unit {0}} told (these from (to - from)) a reads b reads' (Ok tt)
  keep_ended from to g a b reads reads' same so = λ m e. groups_ended (most (m regions.Image)) (opened_state at (m regions.Image)) phase lacks from to g (come a reads) (come b reads') same (so m e)
