-- Which entry an inode that is taken or given back adds to the journal ("Inode Allocation").
use Rattle.std.specs.Prelude.{◌≡◌, ◌++◌, ◌∷◌, [], ℕ, List, Option, None, Some}
use Rattle.core_parts.specs.declared.desk.Desk.{Desk}
use Rattle.defer_chain.specs.Owed.{owed}
use Rattle.defer_chain.specs.declared.chain.Chain.{Chain}
use Rattle.fs_model.specs.declared.entry.Entry.{Entry}
use Rattle.fs_model.specs.declared.entry.Entry.TheVariants as entries
use Rattle.intent_drain.specs.Chains.{chain_at}
use Rattle.intent_drain.specs.Drains.{chains_of}

-- one entry, with the chunk that was made or none
pub record SaysTaken (writer uid ino : ℕ) (was now : List Entry) : Type 0 where
  pub chunk : Option ℕ
  pub said : now ≡ was ++ entries.Taken writer ino uid chunk ∷ []

-- this is the chain of that number, it holds one inode and owes nothing
pub record IsLone {D : Type 0} (k : Desk D) (number : ℕ) (c : Chain) : Type 0 where
  pub there : chain_at (chains_of k.drain) number ≡ Some c
  pub lone : c.second ≡ None
  pub idle : owed c ≡ []

abbrev pub given_on : List Entry → Chain → List Entry
given_on was c = was ++ entries.Given c.writer c.first.ino ∷ []

-- one entry, of the only inode of the chain of a number
pub record HasGiven {D : Type 0} (number : ℕ) (old new : Desk D) : Type 0 where
  pub chain : Chain
  pub lone : IsLone old number chain
  pub said : new.book.journal.items ≡ given_on old.book.journal.items chain
