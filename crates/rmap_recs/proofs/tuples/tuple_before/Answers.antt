use Rattle.std.proofs.Common.{◌≡◌, ℕ, ◌-◌, true, Some, sym, subst, arith}
use Rattle.rmap_recs.specs.Runs.{goes_on}
use Rattle.rmap_recs.specs.Words.{word_goes_on}
use Rattle.rmap_recs.specs.declared.tuples.Tuple.{Tuple}
use Rattle.rmap_recs.proofs.ChainLemmas.{block_on, owner_on, word_on, goes_to}
use Rattle.rmap_recs.proofs.tuples.tuple_before.Goals as goal

-- the word goes on to that of the tuple, whose owner is the same
word_to : (earlier t : Tuple) → goes_on earlier t ≡ true → word_goes_on t.owner earlier.word 1 t.word ≡ true
word_to earlier t goes = subst (λ (o : ℕ). word_goes_on o earlier.word 1 t.word ≡ true) (sym (owner_on earlier t goes)) (word_on earlier t goes)

made : (earlier t : Tuple) (word : ℕ) → goes_on earlier t ≡ true → Some word ≡ Some earlier.word → Some (record { block = t.block - 1; owner = t.owner; word = word }) ≡ Some earlier
made earlier t word goes same =
    let on = block_on earlier t goes in
    let b : t.block - 1 ≡ earlier.block = omega arith in
    let w : word ≡ earlier.word = cc in
    λ i. Some (record { block = b i; owner = owner_on earlier t goes i; word = w i })

pub returns-in_err-word-clause-only : goal.returns-in_err-word-clause-only
returns-in_err-word-clause-only c = λ earlier goes. let none = c.in_err-word.ensures.only earlier.word (word_to earlier c.args.tuple.now goes) in cc

pub returns-then-tuple-eq0-clause-only : goal.returns-then-tuple-eq0-clause-only
returns-then-tuple-eq0-clause-only c = λ earlier goes. absurd (omega (arith, block_on earlier c.args.tuple.now goes, c.if-tuple-eq0.true))

pub returns-clause-before : goal.returns-clause-before
returns-clause-before c =
    let t = c.args.tuple.now in
    goes_to (record { block = t.block - 1; owner = t.owner; word = c.in_ok-word.word }) t.block t.word (omega arith) c.in_ok-word.ensures.before

pub returns-clause-only : goal.returns-clause-only
returns-clause-only c = λ earlier goes. made earlier c.args.tuple.now c.in_ok-word.word goes (c.in_ok-word.ensures.only earlier.word (word_to earlier c.args.tuple.now goes))
