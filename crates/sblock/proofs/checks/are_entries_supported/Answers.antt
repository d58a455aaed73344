use Rattle.std.proofs.Common.{◌≡◌, true, false, refl, arith}
use Rattle.byte_fields.proofs.BelowLemmas.{one_fails}
use Rattle.byte_fields.specs.Below.{all_below}
use Rattle.sblock.specs.Blocks.{are_supported, is_supported_at}
use Rattle.sblock.proofs.checks.are_entries_supported.Goals as goal

pub returns-then-not-is_record_supported : goal.returns-then-not-is_record_supported
unfolding are_supported
returns-then-not-is_record_supported g c =
    let test = is_supported_at g.K.RecKind.form c.args.area.now in
    let leaf : c.args.leaf ≡ true = cc in
    let here : test c.loop-i.i ≡ false = cc (c.is_record_supported.ensures, c.if-not-is_record_supported.true) in
    let fails : all_below c.args.count test ≡ false = one_fails test c.args.count c.loop-i.i (omega arith) here in
    rw (leaf, fails) refl
