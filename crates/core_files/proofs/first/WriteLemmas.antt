-- What writes of cores leave of the desk.
use Rattle.std.proofs.Common.{◌≡◌, ◌<◌, ◌≤◌, ◌∙◌, ℕ, Bool, true, false, refl, sym, ap, subst, arith}
use Rattle.std.proofs.lemmas.Bool.{false≢true}
use Rattle.std.specs.Prelude.{List, [], ◌∷◌, Option, Some, IfSome, Result, Ok, Err, OnOk, nat_lt, is_some, ◌==◌, if◌then◌else◌}
use Rattle.blk_cache.specs.Cache.{AgreesTold}
use Rattle.blk_cache.specs.declared.cache.BlkCache.{BlkCache}
use Rattle.blk_device.specs.Causes.{HasCause, MovesOnly, Rose, any_error}
use Rattle.blk_device.specs.declared.device.Device.{Ghosts}
use Rattle.blk_device.specs.declared.device.Region.{Region}
use Rattle.blk_device.specs.declared.device.Region.TheVariants.{Image}
use Rattle.core_calls.specs.declared.answers.WriteFault.{WriteFault}
use Rattle.core_parts.proofs.common.AskLemmas.{steady_on}
use Rattle.core_parts.specs.Common.Asks.{IsUsable}
use Rattle.core_edit.specs.declared.open.OpenEdit.{OpenEdit}
use Rattle.core_parts.specs.Keeps.{IsAsked, IsSteady, failed_by}
use Rattle.core_parts.specs.declared.desk.Desk.{Desk}
use Rattle.core_chains.specs.Write.Writes.{WriteAnswers}
use Rattle.file_cores.specs.Looks.{Looks}
use Rattle.file_cores.specs.Files.{IsFile}
use Rattle.file_cores.specs.declared.files.File.{File}
use Rattle.file_cores.specs.Puts.{PutsOne}
use Rattle.core_files.specs.declared.first.writes.PlacedCore.{PlacedCore}
use Rattle.geom.specs.Places.{HasInode}
use Rattle.geom.specs.declared.geometry.Geometry.{Geometry}
use Rattle.meta_txn.specs.Joined.{AreBelow, with_block}
use Rattle.meta_txn.specs.declared.fault.TxnFault.{TxnFault}
use Rattle.redo_area.specs.Area.{Batch}

by_less : (size at : ℕ) (bytes : List ℕ) (p : ℕ × List ℕ) (ps : Batch) (less same : Bool) → at < size → p.0 < size → AreBelow size ps → AreBelow size (with_block at bytes ps)
    → AreBelow size (if less then p ∷ with_block at bytes ps else (if same then (at, bytes) ∷ ps else (at, bytes) ∷ p ∷ ps))
by_less size at bytes p ps true same inside first rest with_one = (first, with_one)
by_less size at bytes p ps false true inside first rest with_one = (inside, rest)
by_less size at bytes p ps false false inside first rest with_one = (inside, (first, rest))

pub with_below : (size at : ℕ) (bytes : List ℕ) (ps : Batch) → at < size → AreBelow size ps → AreBelow size (with_block at bytes ps)
with_below size at bytes [] inside below = (inside, tt)
with_below size at bytes (p ∷ ps) inside below = by_less size at bytes p ps (nat_lt p.0 at) (p.0 == at) inside below.0 below.1 (with_below size at bytes ps inside below.1)

-- a file of a geometry is one of an equal geometry
pub file_on : (a b : Geometry) (f : File) → b ≡ a → IsFile a f → IsFile b f
file_on a b f is file = subst (λ (x : Geometry). IsFile x f) (sym is) file

module _ {D : Type 0} (d : Ghosts D) where
  pub put_below : (size : ℕ) (old new : D) (blocks after : Batch) → d.blocks new ≡ d.blocks old → PutsOne (d.blocks old Image) blocks after → AreBelow (d.blocks old Image) blocks → AreBelow (d.blocks new Image) after
  put_below size old new blocks after sizes put below =
      subst (λ (f : Region → ℕ). AreBelow (f Image) after) (sym sizes) (subst (AreBelow (d.blocks old Image)) (sym put.put) (with_below (d.blocks old Image) put.at put.bytes blocks put.inside below))

  pub put_asked : (k : Desk D) (dev : D) (cache : BlkCache) (edit : OpenEdit) (failed : Bool) → Looks d failed k.store.dev dev cache → IsAsked d failed k (record k { store = record k.store { dev = dev; cache = cache; edit = edit } })
  put_asked k dev cache edit failed looks = record {
    geometry = refl;
    sizes = looks.sizes;
    later = looks.later;
    agreed = λ _. looks.agreed;
    rose = looks.rose;
    book = refl;
    drain = refl;
    trees = refl;
  }

  pub written_asked : (k : Desk D) (dev : D) (cache : BlkCache) (edit : OpenEdit) (result : Result (Unit {0}) TxnFault) → d.blocks dev ≡ d.blocks k.store.dev → OnOk result (AgreesTold cache (d.content dev)) → HasCause any_error (d.faults k.store.dev) (d.faults dev) result → IsAsked d (failed_by any_error result) k (record k { store = record k.store { dev = dev; cache = cache; edit = edit } })
  written_asked k dev cache edit (Ok x) sizes agrees cause = record {
    geometry = refl;
    sizes = sizes;
    later = omega (arith, cause);
    agreed = λ _. agrees;
    rose = λ told. absurd (false≢true told);
    book = refl;
    drain = refl;
    trees = refl;
  }
  written_asked k dev cache edit (Err e) sizes agrees cause = record {
    geometry = refl;
    sizes = sizes;
    later = cause.0;
    agreed = λ told. absurd (false≢true (sym told));
    rose = λ _. cause.1;
    book = refl;
    drain = refl;
    trees = refl;
  }

  -- a step without an answer, and one with it
  pub steady_answers : {T : Type 0} (old mid new : Desk D) (answer : Result T WriteFault) → IsSteady d old mid → WriteAnswers d mid new answer → WriteAnswers d old new answer
  steady_answers old mid new answer a b = record { desk = b.desk; steady = steady_on d old mid new a b.steady; reason = b.reason; unshut = b.unshut }

  -- and the other way round
  pub answers_steady : {S T : Type 0} (old mid new : Desk D) (first : Result S WriteFault) (answer : T) → WriteAnswers d old mid first → IsSteady d mid new → IsUsable d new → WriteAnswers {D = D} {T = T} d old new (Ok answer)
  answers_steady old mid new first answer a b u = record { desk = u.desk; steady = steady_on d old mid new a.steady b; reason = tt; unshut = u.unshut }

-- the second place, of an equal geometry
pub second_on : (a b : Geometry) (o : Option PlacedCore) → b ≡ a → IfSome o (λ p. HasInode a p.place) → IfSome o (λ p. HasInode b p.place)
second_on a b o is has = subst (λ (x : Geometry). IfSome o (λ p. HasInode x p.place)) (sym is) has
