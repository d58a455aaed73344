-- Who has blocks of a run, by the records of reverse mappings.
use Rattle.std.specs.Prelude.{◌≡◌, ℕ, false, true, List, [], ◌∷◌, Option, Some, None, Ok}
use Rattle.blk_device.specs.Contents.{Contents}
use Rattle.blk_device.specs.declared.device.Device.{Ghosts}
use Rattle.block_reap.specs.declared.runs.LimboRun.{LimboRun}
use Rattle.geom.specs.Layout.{Layout}
use Rattle.geom.specs.Places.{layout}
use Rattle.rmap_recs.specs.Rmap.{rmap_form}
use Rattle.rmap_recs.specs.declared.records.Key.{Key}
use Rattle.rmap_recs.specs.declared.records.RmapRec.{RmapRec}
use Rattle.run_sets.specs.declared.run.Run.{Run}
use Rattle.sblock.specs.declared.kind.Kind.TheVariants.{Rmap}
use Rattle.tree_blocks.specs.Told.{OfTree}
use Rattle.tree_blocks.specs.declared.tree.TreeAt.{TreeAt}
use Rattle.tree_cover.specs.Answers.{first_meeting}
use Rattle.tree_cover.specs.Covers.{is_above, meets}
use Rattle.tree_defs.specs.Tree.{read_tree}
use Rattle.core_edit.specs.declared.owners.Over.{Over}
use Rattle.core_edit.specs.declared.owners.Over.TheVariants.{GoesOn, Known}
use Rattle.core_edit.specs.declared.owners.Owners.{Owners}
use Rattle.core_edit.specs.declared.owners.Owners.TheVariants.{Alone, Met, Other}
use Rattle.core_edit.specs.declared.place.EditPlace.{EditPlace}
use Rattle.core_edit.specs.declared.place.Reap.{Reap}
use Rattle.core_edit.specs.declared.place.Reap.TheVariants as reaps
use Rattle.core_edit.specs.declared.store.Store.{Store}

-- reverse mappings, as the kept heads name them
abbrev pub rmap_in : EditPlace → TreeAt
rmap_in place = record { kind = Rmap; group = place.group; root = place.heads.agf.rmap_root; levels = place.heads.agf.rmap_level; lsn = place.heads.agf.lsn }

abbrev pub blocks_in : LimboRun → Run
blocks_in run = record { start = run.start; count = run.count }

-- each record that has a block of the run is of the run's owner
abbrev pub AreOwn : LimboRun → List RmapRec → Type 0
AreOwn run [] = Unit {0}
AreOwn run (r ∷ rs) = (meets rmap_form (blocks_in run) r ≡ true → r.owner ≡ run.owner) × AreOwn run rs

-- the same of the records that aren't above a key
abbrev pub AreOwnBelow : LimboRun → Option Key → List RmapRec → Type 0
AreOwnBelow run after [] = Unit {0}
AreOwnBelow run after (r ∷ rs) = (is_above rmap_form after (rmap_form.key_of r) ≡ false → meets rmap_form (blocks_in run) r ≡ true → r.owner ≡ run.owner) × AreOwnBelow run after rs

-- what holds of the records of reverse mappings, where the device's content is known and their tree can be read
abbrev pub OfRecords : Layout → EditPlace → Option Contents → (List RmapRec → Type 0) → Type 0
OfRecords at place told P = OfTree at (rmap_in place) told (λ s m root levels. (recs : List RmapRec) (blocks : List ℕ) → read_tree rmap_form s m root levels ≡ Ok (recs, blocks) → P recs)

-- nobody but its owner has a block of the run
abbrev pub IsAlone : Layout → EditPlace → LimboRun → Option Contents → Type 0
IsAlone at place run told = OfRecords at place told (AreOwn run)

-- it is the first record above a key that has a block of the run
abbrev pub IsFirstOver : Layout → EditPlace → LimboRun → Option Key → Option Contents → Option RmapRec → Type 0
IsFirstOver at place run after told found = OfRecords at place told (λ recs. first_meeting rmap_form (blocks_in run) after recs ≡ found)

-- what the next record over a run, or the lack of one, shows
abbrev pub Shows : LimboRun → Over → Option RmapRec → Type 0
Shows run (Known Alone) found = found ≡ None
Shows run (Known Other) found = Unit {0}
Shows run (Known (Met cause)) found = Unit {0}
Shows run (GoesOn key) found = (r : RmapRec) × (found ≡ Some r) × (r.owner ≡ run.owner) × (key ≡ rmap_form.key_of r)

abbrev pub ShowsOver : Layout → EditPlace → LimboRun → Option Key → Option Contents → Over → Type 0
ShowsOver at place run after told over = OfRecords at place told (λ recs. Shows run over (first_meeting rmap_form (blocks_in run) after recs))

abbrev pub WhereAlone : Type 0 → Owners → Type 0
WhereAlone P Alone = P
WhereAlone P Other = Unit {0}
WhereAlone P (Met cause) = Unit {0}

-- a run of which a block could be freed
abbrev pub WhereFreed : Type 0 → Reap → Type 0
WhereFreed P (reaps.Done left is_owned) = is_owned ≡ false → P
WhereFreed P (reaps.Met cause) = Unit {0}

-- another owner was found
abbrev pub IsOwned : Reap → Type 0
IsOwned (reaps.Done left is_owned) = is_owned ≡ true
IsOwned (reaps.Met cause) = Unit {0}

-- ---- the same of the blocks that a store has

abbrev pub IsAloneIn : {D : Type 0} → Ghosts D → Store D → EditPlace → LimboRun → Type 0
IsAloneIn d s place run = IsAlone (layout s.geo) place run (d.content s.dev)

abbrev pub IsFirstIn : {D : Type 0} → Ghosts D → Store D → EditPlace → LimboRun → Option Key → Option RmapRec → Type 0
IsFirstIn d s place run after found = IsFirstOver (layout s.geo) place run after (d.content s.dev) found

abbrev pub ShowsIn : {D : Type 0} → Ghosts D → Store D → EditPlace → LimboRun → Option Key → Over → Type 0
ShowsIn d s place run after over = ShowsOver (layout s.geo) place run after (d.content s.dev) over
