-- Entries that come one after the other.
use Rattle.std.proofs.Common.{◌≡◌, ◌+◌, ◌^◌, ◌∙◌, ℕ, ap, arith, subst, sym, append-nil, ltb-true}
use Rattle.std.proofs.lemmas.Bool.{and_parts}
use Rattle.std.specs.Prelude.{◌++◌, [], List, Result, Ok, Err, OnOk, nat_lt, true}
use Rattle.core_parts.specs.declared.book.Book.{Book}
use Rattle.core_parts.specs.declared.parts.Parts.{Parts}
use Rattle.core_chains.specs.Steps.Counts.{IsPart}
use Rattle.core_chains.specs.Steps.Entries.{Counted, Fate, HasSaid, IsInside, SaysFree, SaysRef, counted_on, freed_on}
use Rattle.core_chains.specs.Steps.Steps.{IsAsked}
use Rattle.core_chains.specs.declared.steps.asked.Next.{Next}
use Rattle.defer_chain.specs.Steps.{has_run}
use Rattle.fs_model.specs.declared.entry.Entry.{Entry}
use Rattle.fs_state.specs.declared.intent.Intent.{Intent}

pub none_more : (es : List Entry) → es ≡ es ++ []
none_more es = sym (append-nil es)

-- what was said on a journal that was the same before
pub freed_from : (a b : Book) (now : List Entry) (chain : ℕ) (i : Intent) (fate : Fate) → b ≡ a → now ≡ freed_on b.journal.items chain i fate → SaysFree chain i a.journal.items now
freed_from a b now chain i fate same said = (fate, said ∙ ap (λ (x : Book). freed_on x.journal.items chain i fate) same)

pub counted_from : (a b : Book) (now : List Entry) (chain : ℕ) (i : Intent) (counted : Counted) → b ≡ a → IsInside i counted → now ≡ counted_on b.journal.items chain i counted → SaysRef chain i a.journal.items now
counted_from a b now chain i counted same inside said = (counted, inside, said ∙ ap (λ (x : Book). counted_on x.journal.items chain i counted) same)

-- the whole run of an intent isn't empty
pub whole_part : (i : Intent) → has_run i ≡ true → IsPart i.count i.count
whole_part i run = record { some = ltb-true 0 i.count (and_parts (nat_lt 0 i.count) (nat_lt (i.block + i.count) (2 ^ 32)) run).0; inside = omega arith }

pub on_ok : {T E : Type 0} {P Q : Type 0} (result : Result T E) → (P → Q) → OnOk result P → OnOk result Q
on_ok (Ok x) f p = f p
on_ok (Err e) f p = tt

-- of the chain that was asked for
pub has_said : {D : Type 0} (Says : ℕ → Intent → List Entry → List Entry → Type 0) (n : Next) (chain : ℕ) (old new : Parts D) → IsAsked old.desk chain n → Says n.number n.intent old.desk.book.journal.items new.desk.book.journal.items → HasSaid Says chain old new
has_said Says n chain old new asked said = (n.intent, asked.first, subst (λ (c : ℕ). Says c n.intent old.desk.book.journal.items new.desk.book.journal.items) asked.same said)
