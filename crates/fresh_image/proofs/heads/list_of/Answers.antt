use Rattle.std.proofs.Common.{◌≡◌, ◌-◌, ◌∙◌, ap, arith}
use Rattle.ag_headers.specs.Ring.{FreeRing}
use Rattle.ag_headers.proofs.RingLemmas.{length_of_entries}
use Rattle.fresh_image.proofs.HeadLemmas.{listed_count, list_done}
use Rattle.fresh_image.proofs.heads.list_of.Goals as goal

pub put_last-requires : goal.put_last-requires
put_last-requires c =
    let count : c.loop-block.list.count ≡ c.loop-block.block - 7 = ap (λ (r : FreeRing). r.count) c.loop-block.invariant.1 ∙ listed_count c.args.g (c.loop-block.block - 7) in
    omega (arith, length_of_entries c.loop-block.list, count)

pub returns : goal.returns
returns c = list_done c.args.g c.loop-block.block c.loop-block.list (omega arith) (omega arith) c.loop-block.invariant.1
