use Rattle.std.proofs.Common.{◌≡◌, ◌≤◌, ◌+◌, ◌%◌, ◌^◌, ℕ, true, false, Some, sym, ap, ◌∙◌, arith}
use Rattle.rmap_recs.specs.Words.{is_fork_data}
use Rattle.run_edits.proofs.PieceLemmas.{behind_is, none_behind}
use Rattle.unit_plan.proofs.runs.word_behind.Goals as goal

pub returns-then-not-is_fork_data : goal.returns-then-not-is_fork_data
returns-then-not-is_fork_data c =
    let r = c.args.run.now in
    let sort : is_fork_data r.owner r.word ≡ false = sym c.is_fork_data.ensures ∙ c.if-not-is_fork_data.true in
    λ next goes. ap Some (sym (behind_is r.owner r.word r.count next false sort goes))

pub returns-then-run-from-ge-OFFSETS : goal.returns-then-run-from-ge-OFFSETS
returns-then-run-from-ge-OFFSETS c =
    let r = c.args.run.now in
    let sort : is_fork_data r.owner r.word ≡ true = sym c.is_fork_data.ensures ∙ c.if-not-is_fork_data.false in
    let far : 2 ^ 54 ≤ r.word % 2 ^ 54 + r.count = omega arith in
    λ next goes. absurd (none_behind r.owner r.word r.count next sort far goes)

pub returns : goal.returns
returns c =
    let r = c.args.run.now in
    let sort : is_fork_data r.owner r.word ≡ true = sym c.is_fork_data.ensures ∙ c.if-not-is_fork_data.false in
    let count : c.from-2.result ≡ r.count = omega arith in
    λ next goes. ap Some (ap (λ (n : ℕ). r.word + n) count ∙ sym (behind_is r.owner r.word r.count next true sort goes))
