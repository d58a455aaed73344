use Rattle.std.proofs.Common.{◌≡◌, arith, ap, ◌∙◌}
use Rattle.byte_fields.specs.Checksum.{checksum, blanked}
use Rattle.dinode_core.specs.Core.{core_fault, core_of}
use Rattle.dinode_core.specs.Encoded.{filled}
use Rattle.dinode_core.proofs.EncodedLemmas.{Fits, written, core_again, sound_again, spare_stays}
use Rattle.dinode_core.proofs.encode.encode_core.Goals as goal

pub returns-clause-sound : goal.returns-clause-sound
returns-clause-sound c =
    let core = c.args.core.now in
    let fit : Fits core = record { kinds = c.put_fields.ensures.kinds; counts = c.put_fields.ensures.counts; changes = c.put_fields.ensures.changes; names = c.put_fields.ensures.names } in
    let done = written core c.args.bytes.now c.put_fields.new.bytes c.put_sum.new.bytes c.sum_at-sum.result c.put_fields.ensures.bytes c.sum_at-sum.ensures c.put_sum.ensures in
    let whole : c.sum_at-sum.result ≡ checksum (blanked (filled core c.args.bytes.now) 100) = c.sum_at-sum.ensures ∙ ap (λ xs. checksum (blanked xs 100)) c.put_fields.ensures.bytes in
    ap (λ xs. core_fault xs core.ino core.uuid) done ∙ sound_again core c.args.bytes.now c.requires fit (omega (arith, whole))

pub returns-clause-again : goal.returns-clause-again
returns-clause-again c =
    let core = c.args.core.now in
    let fit : Fits core = record { kinds = c.put_fields.ensures.kinds; counts = c.put_fields.ensures.counts; changes = c.put_fields.ensures.changes; names = c.put_fields.ensures.names } in
    let done = written core c.args.bytes.now c.put_fields.new.bytes c.put_sum.new.bytes c.sum_at-sum.result c.put_fields.ensures.bytes c.sum_at-sum.ensures c.put_sum.ensures in
    ap core_of done ∙ core_again core c.args.bytes.now c.requires fit

pub returns-clause-spare : goal.returns-clause-spare
returns-clause-spare c =
    let core = c.args.core.now in
    let done = written core c.args.bytes.now c.put_fields.new.bytes c.put_sum.new.bytes c.sum_at-sum.result c.put_fields.ensures.bytes c.sum_at-sum.ensures c.put_sum.ensures in
    λ i h. rw done (spare_stays core c.args.bytes.now c.requires c.put_fields.ensures.names i h)
