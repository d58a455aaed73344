use Rattle.std.proofs.Common.{◌≡◌, ℕ, ◌+◌, true, Some, refl, sym}
use Rattle.rmap_recs.specs.Runs.{goes_on}
use Rattle.rmap_recs.specs.declared.tuples.Tuple.{Tuple}
use Rattle.rmap_recs.proofs.ChainLemmas.{block_on, owner_on, word_on, goes_to}
use Rattle.rmap_recs.proofs.tuples.tuple_behind.Goals as goal

-- the block, the owner and the word make the tuple
made : (t next : Tuple) (word : ℕ) → goes_on t next ≡ true → Some word ≡ Some next.word → Some (record { block = t.block + 1; owner = t.owner; word = word }) ≡ Some next
made t next word goes same =
    let w : word ≡ next.word = cc in
    λ i. Some (record { block = sym (block_on t next goes) i; owner = sym (owner_on t next goes) i; word = w i })

pub returns-in_err-word-clause-only : goal.returns-in_err-word-clause-only
returns-in_err-word-clause-only c = λ next goes. let none = c.in_err-word.ensures.only next.word (word_on c.args.tuple.now next goes) in cc

pub returns-clause-behind : goal.returns-clause-behind
returns-clause-behind c = goes_to c.args.tuple.now (c.args.tuple.now.block + 1) c.in_ok-word.word refl c.in_ok-word.ensures.behind

pub returns-clause-only : goal.returns-clause-only
returns-clause-only c = λ next goes. made c.args.tuple.now next c.in_ok-word.word goes (c.in_ok-word.ensures.only next.word (word_on c.args.tuple.now next goes))
