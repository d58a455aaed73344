use Rattle.std.proofs.Common.{◌≡◌, List, Option, length, drop, refl, sym, subst, ◌∙◌, arith}
use Rattle.blk_device.specs.declared.device.Region.TheVariants.{Image}
use Rattle.fs_model.specs.declared.claim.Evidence.{Evidence}
use Rattle.geom.specs.Places.{layout}
use Rattle.inode_pass.specs.Units.{opened_state}
use Rattle.unit_plan.specs.declared.claims.ClaimSet.{ClaimSet}
use Rattle.fork_pass.specs.Passed.{AreForkClaims, InodesPassed, inodes_from}
use Rattle.fork_pass.specs.Sets.{AreFresh}
use Rattle.fork_pass.proofs.PassLemmas.{claims_put, given_up, whole_pass}
use Rattle.fork_pass.proofs.SetLemmas.{whole_sets}
use Rattle.fork_pass.proofs.pass.read_forks.Goals as goal

pub returns-in-Some-clause-exact : goal.returns-in-Some-clause-exact
returns-in-Some-clause-exact g c = λ m e p n.
    let a = opened_state (layout c.args.geo.now) (m Image) in
    let inos = inodes_from (layout c.args.geo.now) c.args.inodes.now 0 c.args.geo.now.agcount in
    let passed = subst (λ (o : Option Evidence). InodesPassed a inos c.deref_mut.result.now c.pass_groups.new.sets o) c.in-Some.is (c.in_ok-evidence.ensures.exact m e p n) in
    given_up a inos c.deref_mut.result.now c.pass_groups.new.sets c.in-Some.evidence (whole_pass (layout c.args.geo.now) a c.args.inodes.now refl p) passed

pub returns-in-None-clause-exact : goal.returns-in-None-clause-exact
returns-in-None-clause-exact g c = λ m e p n.
    let a = opened_state (layout c.args.geo.now) (m Image) in
    let inos = inodes_from (layout c.args.geo.now) c.args.inodes.now 0 c.args.geo.now.agcount in
    let passed = subst (λ (o : Option Evidence). InodesPassed a inos c.deref_mut.result.now c.pass_groups.new.sets o) c.in-None.is (c.in_ok-evidence.ensures.exact m e p n) in
    let fresh = subst (λ (xs : List ClaimSet). AreFresh c.args.geo.now.agcount xs) (sym c.deref_mut.ensures.value) c.in_ok-sets.ensures.fresh in
    let claims = claims_put a c.args.geo.now.agcount inos c.deref_mut.result.now c.pass_groups.new.sets (whole_pass (layout c.args.geo.now) a c.args.inodes.now refl p) fresh refl passed in
    let long : length c.pass_groups.new.sets ≡ c.in_ok-sets.sets.len = omega (arith, c.pass_groups.ensures.groups, c.deref_mut.ensures.len) in
    subst (λ (xs : List ClaimSet). AreForkClaims a xs) (sym (whole_sets c.in_ok-sets.sets.len c.pass_groups.new.sets (drop (length c.pass_groups.new.sets) c.in_ok-sets.sets.items) long)) claims

pub returns-in-None-clause-groups : goal.returns-in-None-clause-groups
returns-in-None-clause-groups g c =
    let fresh = subst (λ (xs : List ClaimSet). AreFresh c.args.geo.now.agcount xs) (sym c.deref_mut.ensures.value) c.in_ok-sets.ensures.fresh in
    let long : length c.pass_groups.new.sets ≡ c.in_ok-sets.sets.len = omega (arith, c.pass_groups.ensures.groups, c.deref_mut.ensures.len) in
    subst (λ (xs : List ClaimSet). length xs ≡ c.args.geo.now.agcount) (sym (whole_sets c.in_ok-sets.sets.len c.pass_groups.new.sets (drop (length c.pass_groups.new.sets) c.in_ok-sets.sets.items) long)) (c.pass_groups.ensures.groups ∙ fresh.long)

pub returns-in_err-sets-clause-each : goal.returns-in_err-sets-clause-each
returns-in_err-sets-clause-each g c = λ m e. omega arith
