use Rattle.std.proofs.Common.{ap, sym, ◌∙◌, ◌≡◌, ℕ, List, [], length, eq-eqb, nat_eq, false}
use Rattle.byte_fields.specs.declared.block.Block.{Block}
use Rattle.redo_area.specs.Area.{Batch, bytes_of, with_batch}
use Rattle.meta_txn.proofs.ListLemmas.{length_bytes_of}
use Rattle.meta_txn.proofs.WholeLemmas.{ended_but, no_block, still}
use Rattle.redo_area.proofs.ToldLemmas.{told_self}
use Rattle.meta_txn.proofs.commits.write_batch.Goals as goal

-- a batch that isn't empty has a block
some_block : (xs : List (ℕ × Block)) → false ≡ nat_eq (length xs) 0 → bytes_of xs ≡ [] → ⊥
some_block xs isnt none = let none_there : length xs ≡ 0 = sym (length_bytes_of xs) ∙ ap (λ (ps : Batch). length ps) none in cc (eq-eqb (length xs) 0 none_there, isnt)

pub returns-clause-nothing : goal.returns-clause-nothing
returns-clause-nothing g c = λ none. absurd (some_block c.args.batch.now c.if-is_empty.ensures none)

pub returns-in_err-write_some-clause-nothing : goal.returns-in_err-write_some-clause-nothing
returns-in_err-write_some-clause-nothing g c = λ none. absurd (some_block c.args.batch.now c.if-is_empty.ensures none)

pub returns-then-is_empty-clause-done_but : goal.returns-then-is_empty-clause-done_but
returns-then-is_empty-clause-done_but g c = λ K some. absurd (no_block c.args.batch.now c.if-is_empty.ensures some)

pub returns-then-is_empty-clause-rest_but : goal.returns-then-is_empty-clause-rest_but
returns-then-is_empty-clause-rest_but g c =
    let d = g.D.Device in
    λ K rest. still K (d.may_hold_now c.args.dev.now) c.args.batch.now (d.content c.args.dev.now) c.if-is_empty.ensures rest

pub returns-clause-rest_but : goal.returns-clause-rest_but
returns-clause-rest_but g c =
    let d = g.D.Device in
    let new = c.write_some.new.dev in
    λ K rest. ended_but K (d.may_hold_now new) (with_batch (bytes_of c.args.batch.now)) (d.content c.args.dev.now) (d.content new) (c.in_ok-write_some.ensures.done_but K rest)

pub returns-then-is_empty-clause-told : goal.returns-then-is_empty-clause-told
returns-then-is_empty-clause-told g c = told_self (g.D.Device.content c.args.dev.now)
