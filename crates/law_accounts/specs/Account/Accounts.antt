-- The accounts of writers at each block of a group: what its indexes hold, and what chains still owe ("Reference Count
-- B+tree", "Reverse Mapping B+tree"; Online Fsck Design, "Eventual Consistency").
use Rattle.std.specs.Prelude.{ℕ, ◌+◌, ◌==◌, ◌&&◌, nat_le, nat_lt, Bool, true, false, List, [], ◌∷◌, flat_map, sum_by, if◌then◌else◌}
use Rattle.fs_change.specs.Chains.{most_chains}
use Rattle.fs_change.specs.Parts.{records_in}
use Rattle.fs_change.specs.Records.{count_at}
use Rattle.fs_state.specs.Claims.{Claimed}
use Rattle.fs_state.specs.Contradiction.{is_written_data}
use Rattle.fs_state.specs.Lists.{numbers}
use Rattle.fs_model.specs.declared.entry.Extent.{Extent}
use Rattle.fs_state.specs.State.{State, Group}
use Rattle.fs_state.specs.declared.intent.Intent.{Intent}
use Rattle.fs_state.specs.declared.intent.IntentKind.{IntentKind}
use Rattle.fs_state.specs.declared.intent.IntentKind.TheVariants.{RmapAdd, RmapRemove, RmapChange, RefMore, RefLess, Free}
use Rattle.rmap_recs.specs.declared.records.RmapRec.{RmapRec}
use Rattle.sblock.specs.declared.kind.Kind.TheVariants.{Bno, Rmap, Refc}
use Rattle.span_recs.specs.declared.span.SpanRec.{SpanRec}
use Rattle.law_accounts.specs.Account.Ledger.{Ledger}

-- ---- runs over a block

abbrev pub in_span : ℕ → ℕ → ℕ → Bool
in_span s n x = nat_le s x && nat_lt x (s + n)

-- 1 where the n blocks from s on have it
abbrev pub at_span : ℕ → ℕ → ℕ → ℕ
at_span s n x = if in_span s n x then 1 else 0

-- 1 where the run, in the group, has it
abbrev pub hits : ℕ → ℕ → Extent → ℕ
hits g b e = if e.group == g then at_span e.block e.count b else 0

-- how many records of free space, or of reverse mappings, have it
abbrev pub spans_at : List SpanRec → ℕ → ℕ
spans_at [] x = 0
spans_at (r ∷ rs) x = at_span r.start r.count x + spans_at rs x

abbrev pub covers_at : List RmapRec → ℕ → ℕ
covers_at [] x = 0
covers_at (r ∷ rs) x = at_span r.start r.count x + covers_at rs x

-- ---- what chains owe to a block

abbrev pub run_in : Intent → Extent
run_in i = record { group = i.group; block = i.block; count = i.count }

-- a count that rises, and one that falls
abbrev pub raises : IntentKind → Bool
raises RefMore = true
raises RmapAdd = false
raises RmapRemove = false
raises RmapChange = false
raises RefLess = false
raises Free = false

abbrev pub lowers : IntentKind → Bool
lowers RefLess = true
lowers RmapAdd = false
lowers RmapRemove = false
lowers RmapChange = false
lowers RefMore = false
lowers Free = false

-- a mapping that comes, and one that goes; one that becomes written does neither
abbrev pub adds : IntentKind → Bool
adds RmapAdd = true
adds RmapRemove = false
adds RmapChange = false
adds RefMore = false
adds RefLess = false
adds Free = false

abbrev pub removes : IntentKind → Bool
removes RmapRemove = true
removes RmapAdd = false
removes RmapChange = false
removes RefMore = false
removes RefLess = false
removes Free = false

abbrev pub frees : IntentKind → Bool
frees Free = true
frees RmapAdd = false
frees RmapRemove = false
frees RmapChange = false
frees RefMore = false
frees RefLess = false

-- 1 where an intent of such a kind has the block
abbrev pub owes : (IntentKind → Bool) → ℕ → ℕ → Intent → ℕ
owes test g b i = if test i.kind then hits g b (run_in i) else 0

-- the sum over all intents of n chains from k on
abbrev pub chains_sum : (Intent → ℕ) → (ℕ → List Intent) → ℕ → ℕ → ℕ
chains_sum f cs k n = sum_by f (flat_map cs (numbers k n))

-- over those of all chains
unfoldable pub due : (Intent → ℕ) → (ℕ → List Intent) → ℕ
due f cs = chains_sum f cs 0 most_chains

-- ---- claims on a block

abbrev pub owned_at : ℕ → List Claimed → ℕ
owned_at b cs = sum_by (λ c. if c.block == b then 1 else 0) cs

-- those that aren't written file data, and may not be shared
abbrev pub alone_at : ℕ → List Claimed → ℕ
alone_at b cs = sum_by (λ c. if (c.block == b) && (if is_written_data c then false else true) then 1 else 0) cs

-- ---- all numbers of a block, given how many claims it has, and how many of these stand alone

abbrev pub ledger_in : Group → (ℕ → List Intent) → ℕ → ℕ → ℕ → ℕ → Ledger
ledger_in p cs g b owned alone = record {
  count = count_at (records_in p Refc) b;
  more = due (owes raises g b) cs;
  goes = due (owes removes g b) cs;
  less = due (owes lowers g b) cs;
  frees = due (owes frees g b) cs;
  comes = due (owes adds g b) cs;
  spans = spans_at (records_in p Bno) b;
  covers = covers_at (records_in p Rmap) b;
  owned = owned;
  alone = alone;
}

abbrev pub ledger_of : State → ℕ → ℕ → ℕ → ℕ → Ledger
ledger_of a g b owned alone = ledger_in (a.group g) a.chains g b owned alone
