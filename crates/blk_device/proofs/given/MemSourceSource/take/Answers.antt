use Rattle.std.proofs.Common.{◌≡◌, ℕ, List, ap, drop, sym, take, ◌∙◌}
use Rattle.std.proofs.lemmas.List.{take_rest}
use Rattle.blk_device.proofs.TakenLemmas.{gives_front}
use Rattle.blk_device.proofs.given.MemSourceSource.take.Goals as goal

pub returns-clause-bytes : goal.returns-clause-bytes
returns-clause-bytes c =
    let old = c.args.self.now in
    let asked = c.ask.new.self in
    let n = c.copy_some-n.result in
    let front = take n c.copy_some-n.new.into in
    let same : asked.bytes.items ≡ old.bytes.items = cc c.ask.ensures.bytes.0 in
    let here : asked.at ≡ old.at = c.ask.ensures.bytes.1 in
    let is : front ≡ take n (drop asked.at asked.bytes.items) = rw (take_rest, c.deref.ensures.value) at c.copy_some-n.ensures.bytes in
    ap (λ (l : List ℕ). drop old.at l) (sym same) ∙ ap (λ (k : ℕ). drop k asked.bytes.items) (sym here) ∙ gives_front asked.bytes.items front asked.at n is
