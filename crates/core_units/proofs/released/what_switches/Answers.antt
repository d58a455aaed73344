use Rattle.std.proofs.Common.{◌≡◌, ◌∙◌, ℕ, Bool, List, ap, rules, sym, subst}
use Rattle.std.specs.Prelude.{◌||◌, drop}
use Rattle.block_reap.specs.Limbo.{has}
use Rattle.run_sets.specs.declared.run.Run.{Run}
use Rattle.core_units.specs.Released.{BlocksEnd, lost_runs, owner_in}
use Rattle.core_units.specs.Tested.{RunsWithin}
use Rattle.core_units.proofs.RebuildLemmas.{after_is, blocks_end, runs_short}
use Rattle.core_units.proofs.released.what_switches.Goals as goal

pub limbo_with-requires-clause-within : goal.limbo_with-requires-clause-within
limbo_with-requires-clause-within c =
    let r = c.args.rebuild.now in
    let s = c.requires.ready.steady in
    subst (λ (l : List Run). RunsWithin 268435456 l) (sym c.as_slice.ensures.value) (runs_short r.length r.lost.items s.short s.lost.1)

pub put_blocks-requires-clause-blocks : goal.put_blocks-requires-clause-blocks
put_blocks-requires-clause-blocks c =
    let r = c.args.rebuild.now in
    let s = c.requires.ready.steady in
    c.last_of-left.ensures.ends (subst (λ (l : List ℕ). BlocksEnd l) (sym c.as_slice-reserve.ensures.value) (blocks_end r.length r.building.reserve.items s.short s.inside))

pub returns-clause-exact : goal.returns-clause-exact
returns-clause-exact c =
    let r = c.args.rebuild.now in
    let limbo = c.args.limbo.now in
    let d = c.last_of-left.ensures.drops in
    let owner = c.number-owner.result in
    let own : owner ≡ owner_in r = search rules in
    let is : c.last_of-left.result.now ≡ drop d.0 r.building.reserve.items = d.1 ∙ ap (λ (l : List ℕ). drop d.0 l) c.as_slice-reserve.ensures.value in (
      d.0,
      after_is r d.0 limbo c.in_ok-after.after.items c.put_blocks.new.limbo.items owner c.last_of-left.result.now own is
          (λ b o. c.in_ok-after.ensures.exact b o ∙ ap (λ (l : List Run). has limbo b o || has (lost_runs owner l) b o) c.as_slice.ensures.value)
          (c.put_blocks.ensures.exact (search rules)),
    )
