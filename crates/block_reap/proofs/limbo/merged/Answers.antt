use Rattle.std.proofs.Common.{◌≡◌, ap, sym, subst, ◌∙◌, arith}
use Rattle.std.specs.Prelude.{◌||◌}
use Rattle.block_reap.specs.Limbo.{IsLimbo, has}
use Rattle.block_reap.proofs.PutLemmas.{runs_of}
use Rattle.block_reap.proofs.limbo.merged.Goals as goal

pub loop-run-init : goal.loop-run-init
loop-run-init c =
    let e : c.reserve.new.self.items ≡ c.args.first.now = c.reserve.ensures.items ∙ c.in_ok-limbo.ensures.items in (
      subst IsLimbo (sym e) c.requires.first,
      runs_of c.args.second.now c.requires.second,
      λ b o. ap (λ xs. has xs b o || has c.args.second.now b o) e,
      omega (arith, c.in_ok-reserve.ensures.ok, c.reserve.ensures.len),
    )
