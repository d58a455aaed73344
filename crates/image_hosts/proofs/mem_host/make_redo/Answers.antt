use Rattle.std.proofs.Common.{arith, ◌≡◌, None, false, sym}
use Rattle.std.specs.BTreeMap.{get_by_text}
use Rattle.std.proofs.lemmas.Map.Text.{text_keys}
use Rattle.blk_device.specs.Stored.{stored}
use Rattle.image_hosts.proofs.DueLemmas.{empty_zeros, made_named, not_some, zeros_held}
use Rattle.image_hosts.proofs.mem_host.make_redo.Goals as goal

pub returns-clause-same : goal.returns-clause-same
returns-clause-same c =
    let none : get_by_text c.args.redos.now c.args.name.now ≡ None = not_some (get_by_text c.args.redos.now c.args.name.now) (sym (rw c.if-contains_key.false at c.contains_key.ensures)) in
    made_named c.args.name.now c.args.redos.now c.insert.new.self (record { size = 162; blocks = c.new.result; is_lost = false })
    (λ n. grind (arith, text_keys)) none (zeros_held (stored c.new.result) (empty_zeros c.new.result c.new.ensures.empty))
