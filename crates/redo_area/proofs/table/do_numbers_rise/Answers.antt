use Rattle.std.proofs.Common.{◌≡◌, ◌+◌, ◌-◌, ◌∙◌, ℕ, ◌∷◌, ap, sym, drop, arith}
use Rattle.redo_area.specs.Table.{numbers}
use Rattle.redo_area.proofs.TableLemmas.{numbers_more, rises_more, rises_no_more}
use Rattle.redo_area.proofs.table.do_numbers_rise.Goals as goal

pub returns-then-not-is_placed : goal.returns-then-not-is_placed
returns-then-not-is_placed c =
    let s = c.loop-left in
    let bytes = c.args.bytes.now in
    let ns = numbers (s.left - 1) (drop (s.at + 8) bytes) in
    let xs = numbers s.left (drop s.at bytes) in
    let n = c.get_u64-number.result in
    let is : xs ≡ n ∷ ns = numbers_more s.left s.at bytes (omega arith) ∙ ap (λ (k : ℕ). k ∷ ns) (sym c.get_u64-number.ensures) in
    sym (rises_no_more s.least c.args.size n ns xs is (sym c.is_placed.ensures ∙ c.if-not-is_placed.true)) ∙ s.invariant.same

pub loop-left-preserved : goal.loop-left-preserved
loop-left-preserved c =
    let s = c.loop-left in
    let bytes = c.args.bytes.now in
    let ns = numbers (s.left - 1) (drop (s.at + 8) bytes) in
    let xs = numbers s.left (drop s.at bytes) in
    let n = c.get_u64-number.result in
    let is : xs ≡ n ∷ ns = numbers_more s.left s.at bytes (omega arith) ∙ ap (λ (k : ℕ). k ∷ ns) (sym c.get_u64-number.ensures) in
    record {
      room = omega arith;
      same = sym (rises_more s.least c.args.size n ns xs is (sym c.is_placed.ensures ∙ c.if-not-is_placed.false)) ∙ s.invariant.same;
    }
