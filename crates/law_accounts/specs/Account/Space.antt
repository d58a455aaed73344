-- Runs that leave free space, or join it, keep each block sound.
use Rattle.std.specs.Prelude.{ℕ, ◌≡◌, ◌+◌, ◌<◌, ◌≤◌, true, false, List, [], ◌∷◌, is_some}
use Rattle.fs_change.specs.Chains.{most_chains}
use Rattle.fs_change.specs.Changes.{extent_of}
use Rattle.fs_change.specs.Parts.{is_edited, records_in}
use Rattle.fs_change.specs.Records.{by_start, give_span, holder_of, span, take_span}
use Rattle.fs_change.specs.Step.{Row}
use Rattle.fs_model.specs.declared.entry.Entry.TheVariants as entries
use Rattle.fs_model.specs.declared.entry.Piece.{Piece}
use Rattle.fs_state.specs.State.{State, Group, is_readable}
use Rattle.sblock.specs.declared.kind.Kind.{Kind}
use Rattle.sblock.specs.declared.kind.Kind.TheVariants.{Bno}
use Rattle.span_recs.specs.declared.span.SpanRec.{SpanRec}
use Rattle.law_accounts.specs.Account.Accounts.{at_span, hits, ledger_of, spans_at}
use Rattle.law_accounts.specs.Account.Ledger.{Sound}

-- from a place on: no run is empty, and between two there is a gap
abbrev pub AreApart : ℕ → List SpanRec → Type 0
AreApart from [] = Unit {0}
AreApart from (r ∷ rs) = (from ≤ r.start) × (0 < r.count) × AreApart (r.start + r.count + 1) rs

-- a run leaves the record that holds it, and it joins the records beside it
abbrev pub TakenSpans : Type 0
TakenSpans = (rs : List SpanRec) (run : SpanRec) (b : ℕ) → AreApart 0 rs → is_some (holder_of rs run) ≡ true
    → spans_at (take_span by_start rs run rs) b + at_span run.start run.count b ≡ spans_at rs b

abbrev pub GivenSpans : Type 0
GivenSpans = (rs : List SpanRec) (run : SpanRec) (b : ℕ) → AreApart 0 rs → 0 < run.count
    → spans_at (give_span by_start rs run rs) b ≡ spans_at rs b + at_span run.start run.count b

-- ---- entries

-- free space by start can be edited, and lists maximal runs
pub record IsListing (left : List Kind) (p : Group) : Type 0 where
  pub edited : is_edited left p Bno ≡ true
  pub readable : is_readable (p.tree Bno).reading ≡ true
  pub apart : AreApart 0 (records_in p Bno)

-- a run that is mapped was free: its blocks gain a claim that stands alone
abbrev pub MappedSound : Type 0
MappedSound = (a x : State) (left : List Kind) (m : Piece) (b owned alone : ℕ) → IsListing [] (a.group m.group) → is_some (holder_of (records_in (a.group m.group) Bno) (span m.block m.count)) ≡ true
    → Row a left (entries.Mapped m) x → Sound (ledger_of a m.group b owned alone)
    → Sound (ledger_of x m.group b (owned + hits m.group b (extent_of m)) (alone + hits m.group b (extent_of m)))

-- a run that is freed and not kept joins free space: nobody has it
abbrev pub FreedSound : Type 0
FreedSound = (a x : State) (left : List Kind) (c g at n b owned alone : ℕ) → c < most_chains → IsListing left (a.group g)
    → Row a left (entries.Freed c g at n false) x → Sound (ledger_of a g b owned alone) → Sound (ledger_of x g b owned alone)
