-- What is tested of lists and claims before a rebuild begins with them.
use Rattle.std.specs.Prelude.{◌≡◌, ⊤, ℕ, ◌+◌, ◌*◌, ◌<◌, ◌≤◌, ◌^◌, not, true, List, [], ◌∷◌, Option, Some, None}
use Rattle.block_reap.specs.declared.runs.LimboRun.{LimboRun}
use Rattle.geom.specs.declared.geometry.Run3.{Run3}
use Rattle.ino_recs.specs.Chunks.{fino_form, ino_form}
use Rattle.rmap_recs.specs.Rmap.{rmap_form}
use Rattle.rmap_recs.specs.declared.records.RmapRec.{RmapRec}
use Rattle.run_edits.specs.Edits.{is_before}
use Rattle.run_sets.specs.declared.run.Run.{Run}
use Rattle.sblock.specs.Blocks.{AllInside, IsRising}
use Rattle.sblock.specs.Lists.{IsAhead}
use Rattle.sblock.specs.declared.block.Bounds.{Bounds}
use Rattle.sblock.specs.declared.kind.Kind.{Kind}
use Rattle.sblock.specs.declared.kind.Kind.TheVariants.{Bno, Cnt, Rmap, Refc, Ino, Fino}
use Rattle.span_recs.specs.Refcounts.{refc_form}
use Rattle.span_recs.specs.Spans.{bno_form, cnt_form}
use Rattle.span_recs.specs.declared.span.SpanRec.{SpanRec}
use Rattle.core_units.specs.declared.lists.Lists.{Lists}
use Rattle.core_units.specs.declared.lists.Lists.TheVariants as lists

-- from a block on: none is empty, begins before the end of the one in front of it, or ends behind the limit
abbrev pub ApartWithin : (limit from : ℕ) → List SpanRec → Type 0
ApartWithin limit from [] = ⊤
ApartWithin limit from (r ∷ rs) = (from ≤ r.start) × (0 < r.count) × (r.start + r.count ≤ limit) × ApartWithin limit (r.start + r.count) rs

-- free space that is taken from lies below the limit
abbrev pub SpansEnd : ℕ → List SpanRec → Type 0
SpansEnd limit [] = ⊤
SpansEnd limit (r ∷ rs) = (r.start + r.count ≤ limit) × SpansEnd limit rs

abbrev pub FreeEnds : ℕ → Lists → Type 0
FreeEnds limit (lists.Inode ino fino) = ⊤
FreeEnds limit (lists.Rmap rmap) = ⊤
FreeEnds limit (lists.Free bno cnt) = SpansEnd limit bno.items
FreeEnds limit (lists.Refc refc) = ⊤

-- the first of these doesn't come before the record
abbrev pub SortedOn : RmapRec → List RmapRec → Type 0
SortedOn rec later = IsAhead (λ a b. not (is_before b a)) rec later

-- each is in the range of the btree
abbrev pub RoomWithin : Bounds → List RmapRec → Type 0
RoomWithin bounds maps = AllInside rmap_form bounds maps

-- ---- claims

-- no run ends behind the limit
abbrev pub LimboWithin : ℕ → List LimboRun → Type 0
LimboWithin limit [] = ⊤
LimboWithin limit (r ∷ rs) = (r.start + r.count ≤ limit) × LimboWithin limit rs

abbrev pub OwnersWithin : ℕ → List RmapRec → Type 0
OwnersWithin limit [] = ⊤
OwnersWithin limit (r ∷ rs) = (r.start + r.count ≤ limit) × OwnersWithin limit rs

abbrev pub RunsWithin : ℕ → List Run → Type 0
RunsWithin limit [] = ⊤
RunsWithin limit (r ∷ rs) = (r.start + r.count ≤ limit) × RunsWithin limit rs

-- the eight blocks of each of these units lie below the limit
abbrev pub UnitsWithin : ℕ → List ℕ → Type 0
UnitsWithin limit [] = ⊤
UnitsWithin limit (u ∷ us) = (8 * u + 8 ≤ limit) × UnitsWithin limit us

abbrev pub BlocksWithin : ℕ → List ℕ → Type 0
BlocksWithin limit [] = ⊤
BlocksWithin limit (b ∷ bs) = (b + 1 ≤ limit) × BlocksWithin limit bs

-- the log doesn't reach behind the limit, if it lies in this group
abbrev pub LogWithin : ℕ → Option Run3 → ℕ → Type 0
LogWithin limit None g = ⊤
LogWithin limit (Some run) g = run.group ≡ g → run.start + run.count ≤ limit

-- all six trees
pub record TreesWithin (limit : ℕ) (blocks : Kind → List ℕ) : Type 0 where
  pub bno : BlocksWithin limit (blocks Bno)
  pub cnt : BlocksWithin limit (blocks Cnt)
  pub rmap : BlocksWithin limit (blocks Rmap)
  pub refc : BlocksWithin limit (blocks Refc)
  pub ino : BlocksWithin limit (blocks Ino)
  pub fino : BlocksWithin limit (blocks Fino)

-- ---- lists

-- each list rises
abbrev pub AreRising : Lists → Type 0
AreRising (lists.Inode ino fino) = IsRising ino_form ino.items × IsRising fino_form fino.items
AreRising (lists.Rmap rmap) = IsRising rmap_form rmap.items
AreRising (lists.Free bno cnt) = IsRising bno_form bno.items × IsRising cnt_form cnt.items
AreRising (lists.Refc refc) = IsRising refc_form refc.items
