use Rattle.std.proofs.Common.{◌≡◌, ◌<◌, ◌+◌, ◌^◌, ℕ, Bool, true, List, length, sym, ◌∙◌, ap, arith, subst, IfSome, OnOk}
use Rattle.std.specs.Prelude.{unwrap_or}
use Rattle.byte_fields.specs.declared.block.Block.{Block}
use Rattle.byte_fields.specs.Steps.{StepCount}
use Rattle.blk_device.specs.Contents.{Becomes}
use Rattle.blk_device.specs.Crash.{LeavesOnly}
use Rattle.blk_device.specs.declared.device.Region.TheVariants.{Image}
use Rattle.redo_area.specs.Area.{Blocks, bytes_of, with_batch}
use Rattle.redo_area.specs.Stages.{AtRest, AtRestBut, Ends, EndsBut, StandsForEither, StandsForEitherBut}
use Rattle.redo_area.specs.Table.{places, rises}
use Rattle.redo_area.proofs.AreaLaws.{homes_of_bytes}
use Rattle.meta_txn.specs.Joined.{Joined, bytes_at, written, AreBelow}
use Rattle.meta_txn.proofs.ListLemmas.{length_bytes_of, rises_within, with_batch_is}
use Rattle.meta_txn.proofs.BatchLemmas.{is_batch}
use Rattle.meta_txn.proofs.txn.Txn.commit.Goals as goal

pub write_batch-answer-requires-clause-rise : goal.write_batch-answer-requires-clause-rise
write_batch-answer-requires-clause-rise g c =
    let size = g.D.Device.blocks c.args.dev.now Image in
    let items = c.self.inside.blocks.items in
    ap (λ (xs : List (ℕ × Block)). rises 0 size (places xs)) c.deref.ensures.value
    ∙ rises_within 0 (2 ^ 64) size items c.self.invariant.0.rise (subst (λ (t : Joined). AreBelow size t.blocks) (sym c.self.view_is) c.requires.inside)

-- as many blocks as are joined
count : (items deref : List (ℕ × Block)) (txn : Joined) → deref ≡ items → bytes_of items ≡ txn.blocks → length deref ≡ length txn.blocks
count items deref txn is blocks = ap (λ (xs : List (ℕ × Block)). length xs) is ∙ sym (length_bytes_of items) ∙ ap (λ (ps : List (ℕ × List ℕ)). length ps) blocks

counted : (items deref : List (ℕ × Block)) (txn : Joined) (old new : StepCount) → deref ≡ items → bytes_of items ≡ txn.blocks → new ≡ record old { writes = old.writes + length deref } → new ≡ record old { writes = old.writes + length txn.blocks }
counted items deref txn old new is blocks ticks = ticks ∙ ap (λ (n : ℕ). record old { writes = old.writes + n }) (count items deref txn is blocks)

pub returns-clause-ticks : goal.returns-clause-ticks
returns-clause-ticks g c = counted c.self.inside.blocks.items c.deref.result.now c.args.self.now c.args.steps.now c.write_batch-answer.new.steps c.deref.ensures.value (ap (λ (t : Joined). t.blocks) c.self.view_is) c.write_batch-answer.ensures.ticks

-- the image with the batch that was written is the image with the joined blocks
image_is : (big : ℕ) (items deref : List (ℕ × Block)) (txn : Joined) → rises 0 big (places items) ≡ true → deref ≡ items → bytes_of items ≡ txn.blocks → with_batch (bytes_of deref) ≡ (λ image. written image txn)
image_is big items deref txn rise is blocks = λ j image b.
    (ap (λ (xs : List (ℕ × Block)). with_batch (bytes_of xs) image b) is
    ∙ with_batch_is 0 big b (bytes_of items) image (ap (rises 0 big) (homes_of_bytes items) ∙ rise)
    ∙ ap (λ (ps : List (ℕ × List ℕ)). unwrap_or (bytes_at b ps) (image b)) blocks) j

pub returns-clause-image : goal.returns-clause-image
returns-clause-image g c =
    let d = g.D.Device in
    let new = c.write_batch-answer.new.dev in
    subst (λ (F : Blocks → Blocks). OnOk c.write_batch-answer.result (Becomes (d.content c.args.dev.now) (d.content new) (λ m n. n Image ≡ F (m Image))))
    (image_is (2 ^ 64) c.self.inside.blocks.items c.deref.result.now c.args.self.now c.self.invariant.0.rise c.deref.ensures.value (ap (λ (t : Joined). t.blocks) c.self.view_is))
    c.write_batch-answer.ensures.image

pub returns-clause-done : goal.returns-clause-done
returns-clause-done g c =
    let d = g.D.Device in
    let old = c.args.dev.now in
    let new = c.write_batch-answer.new.dev in
    subst (λ (F : Blocks → Blocks). IfSome (d.content old) (AtRest (d.may_hold_now old)) → OnOk c.write_batch-answer.result (Becomes (d.content old) (d.content new) (λ m. Ends (F (m Image)) (d.may_hold_now new))))
    (image_is (2 ^ 64) c.self.inside.blocks.items c.deref.result.now c.args.self.now c.self.invariant.0.rise c.deref.ensures.value (ap (λ (t : Joined). t.blocks) c.self.view_is))
    c.write_batch-answer.ensures.done

pub returns-clause-any_moment : goal.returns-clause-any_moment
returns-clause-any_moment g c =
    let d = g.D.Device in
    let old = c.args.dev.now in
    let new = c.write_batch-answer.new.dev in
    subst (λ (F : Blocks → Blocks). IfSome (d.content old) (λ m. AtRest (d.may_hold_now old) m → LeavesOnly d.clock d.may_have_held_since old new (StandsForEither (d.blocks old Image) (m Image) (F (m Image)))))
    (image_is (2 ^ 64) c.self.inside.blocks.items c.deref.result.now c.args.self.now c.self.invariant.0.rise c.deref.ensures.value (ap (λ (t : Joined). t.blocks) c.self.view_is))
    c.write_batch-answer.ensures.any_moment

pub returns-clause-rest_but : goal.returns-clause-rest_but
returns-clause-rest_but g c =
    let d = g.D.Device in
    let old = c.args.dev.now in
    let new = c.write_batch-answer.new.dev in
    subst (λ (F : Blocks → Blocks). (K : ℕ → Bool) → IfSome (d.content old) (AtRestBut K (d.may_hold_now old)) → OnOk c.write_batch-answer.result (Becomes (d.content old) (d.content new) (λ m. EndsBut K (F (m Image)) (d.may_hold_now new))))
    (image_is (2 ^ 64) c.self.inside.blocks.items c.deref.result.now c.args.self.now c.self.invariant.0.rise c.deref.ensures.value (ap (λ (t : Joined). t.blocks) c.self.view_is))
    c.write_batch-answer.ensures.rest_but

pub returns-clause-done_but : goal.returns-clause-done_but
returns-clause-done_but g c =
    let d = g.D.Device in
    let old = c.args.dev.now in
    let new = c.write_batch-answer.new.dev in
    let same = count c.self.inside.blocks.items c.deref.result.now c.args.self.now c.deref.ensures.value (ap (λ (t : Joined). t.blocks) c.self.view_is) in
    λ K some. subst (λ (F : Blocks → Blocks). IfSome (d.content old) (AtRestBut K (d.may_hold_now old)) → OnOk c.write_batch-answer.result (Becomes (d.content old) (d.content new) (λ m. Ends (F (m Image)) (d.may_hold_now new))))
    (image_is (2 ^ 64) c.self.inside.blocks.items c.deref.result.now c.args.self.now c.self.invariant.0.rise c.deref.ensures.value (ap (λ (t : Joined). t.blocks) c.self.view_is))
    (c.write_batch-answer.ensures.done_but K (subst (λ (n : ℕ). 0 < n) (sym same) some))

pub returns-clause-any_moment_but : goal.returns-clause-any_moment_but
returns-clause-any_moment_but g c =
    let d = g.D.Device in
    let old = c.args.dev.now in
    let new = c.write_batch-answer.new.dev in
    subst (λ (F : Blocks → Blocks). (K : ℕ → Bool) → IfSome (d.content old) (λ m. AtRestBut K (d.may_hold_now old) m → LeavesOnly d.clock d.may_have_held_since old new (StandsForEitherBut K (d.blocks old Image) (m Image) (F (m Image)))))
    (image_is (2 ^ 64) c.self.inside.blocks.items c.deref.result.now c.args.self.now c.self.invariant.0.rise c.deref.ensures.value (ap (λ (t : Joined). t.blocks) c.self.view_is))
    c.write_batch-answer.ensures.any_moment_but

pub returns-clause-batch : goal.returns-clause-batch
returns-clause-batch g c = is_batch c.self.inside.blocks.items c.args.self.now.blocks (ap (λ (t : Joined). t.blocks) c.self.view_is) (omega (arith, c.self.invariant.0.few, c.self.inside.blocks.ok.0)) c.self.invariant.0.rise
