-- Entries of a repair from one image to another, by what is said of a spare block of a rebuild of free space.
use Rattle.std.proofs.Common.{ℕ, true, List, inl, inr}
use Rattle.std.proofs.lemmas.Bool.{cases_Bool}
use Rattle.fs_change.specs.Step.{Row}
use Rattle.fs_model.specs.declared.entry.Entry.{Entry}
use Rattle.fs_model.specs.declared.entry.Entry.TheVariants as entries
use Rattle.fs_model.specs.declared.unit.Unit.TheVariants as units
use Rattle.fs_state.specs.Read.{state_of}
use Rattle.fs_state.specs.State.{State}
use Rattle.geom.specs.Apart.{HasFitting}
use Rattle.law_repairs.specs.Letter.Known.{Letters}
use Rattle.law_repairs.specs.Order.Repairs.{Given, ImagesFollow, ImagesHaveFacts, RepairKeepsChunks, RepairKeepsMemory}
use Rattle.sblock.specs.declared.kind.Kind.{Kind}
use Rattle.law_cuts.specs.Unclaimed.Repairs.{AreKnownWell, GivenHasFacts, GivenKeepsChunks, GivenKeepsMemory, IsGiven, IsGivenBeside, KnownFollow}
use Rattle.law_cuts.specs.Unclaimed.Unclaimed.{KnownUnclaimed, ToldUnclaimed}
use Rattle.law_cuts.proofs.Unclaimed.Judged.{letters_judged}

module _ (told : ToldUnclaimed) (known : KnownUnclaimed) where
  given_of : (a x : State) (left : List Kind) (e : Entry) → HasFitting a.geometry → Row a left e x → IsGiven a e → Given a e
  given_of a x left (entries.Verdict g own verdict) fit row is = is
  given_of a x left (entries.Reserved g units.Free block true) fit row is = elim is [
    | inl tell ↦ told a x left g block row tell
    | inr hold ↦ known a x left g block fit row hold.0 hold.1
  ]
  given_of a x left e fit row is = tt

  given_beside : (a x : State) (left : List Kind) (letters : ℕ → Letters) (e : Entry) → HasFitting a.geometry → Row a left e x → ((g : ℕ) → AreKnownWell a g (letters g)) → IsGivenBeside a letters e → Given a e
  given_beside a x left letters (entries.Verdict g own verdict) fit row all is = is
  given_beside a x left letters (entries.Reserved g units.Free block true) fit row all is = elim (cases_Bool (letters g units.Rmap)) [
    | inl are ↦ known a x left g block fit row ((all g).0 units.Rmap are) ((all g).1 are)
    | inr none ↦ given_of a x left (entries.Reserved g units.Free block true) fit row (is none)
  ]
  given_beside a x left letters e fit row all is = tt

  pub given_keeps_memory : RepairKeepsMemory → GivenKeepsMemory
  given_keeps_memory law at image image' kept kept' left e h fit well repair is s = law at image image' kept kept' left e h fit well repair (given_of (state_of at image kept) s.decided left e fit s.row is) s

  pub given_keeps_chunks : RepairKeepsChunks → GivenKeepsChunks
  given_keeps_chunks law at image kept b left e fit log well repair is s = law at image kept b left e fit log well repair (given_of (state_of at image kept) s.decided left e fit s.row is) s

  pub given_has_facts : ImagesHaveFacts → GivenHasFacts
  given_has_facts law at image image' kept kept' left e fit log well firm bytes list is s = law at image image' kept kept' left e fit log well firm bytes list (given_of (state_of at image kept) s.decided left e fit s.row is) s

  pub known_follow : ImagesFollow → KnownFollow
  known_follow law at image image' kept kept' left e h letters fit log well firm bytes list is s all =
      let a : State = state_of at image kept in (
        law at image image' kept kept' left e h (letters h) fit log well firm bytes list (given_beside a s.decided left letters e fit s.row all is) s (all h).0,
        letters_judged a (state_of at image' kept') left (letters h) e h s (all h).1,
      )
