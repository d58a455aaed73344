use Rattle.std.proofs.Common.{◌∙◌, ◌/◌, [], sym, subst}
use Rattle.derive_defs.specs.Mappings.{StartsRise, EndWithin as MappingsEndWithin}
use Rattle.index_derive.specs.Units.{is_listed_by}
use Rattle.run_sets.specs.Runs.{most, runs_below}
use Rattle.quiet_check.proofs.units.list_units.Goals as goal

pub listed_units-requires-clause-rising : goal.listed_units-requires-clause-rising
listed_units-requires-clause-rising c = subst StartsRise (sym c.recs_of-rmap.ensures) c.requires.rising

pub listed_units-requires-clause-within : goal.listed_units-requires-clause-within
listed_units-requires-clause-within c = subst (MappingsEndWithin most) (sym c.recs_of-rmap.ensures) c.requires.within

pub listed_units-requires-3-clause-rising : goal.listed_units-requires-3-clause-rising
listed_units-requires-3-clause-rising c = subst StartsRise (sym c.recs_of-rmap.ensures) c.requires.rising

pub listed_units-requires-3-clause-within : goal.listed_units-requires-3-clause-within
listed_units-requires-3-clause-within c = subst (MappingsEndWithin most) (sym c.recs_of-rmap.ensures) c.requires.within

pub returns : goal.returns
returns c = record {
  either = c.in_ok-either.ensures.value ∙ (λ i. runs_below (is_listed_by (c.recs_of-ino.ensures i) (c.recs_of-rmap.ensures i)) (c.args.length / 8));
  by_inodes = c.in_ok-by_inodes.ensures.value ∙ (λ i. runs_below (is_listed_by (c.recs_of-ino.ensures i) []) (c.args.length / 8));
  by_owners = c.in_ok-by_owners.ensures.value ∙ (λ i. runs_below (is_listed_by [] (c.recs_of-rmap.ensures i)) (c.args.length / 8));
}
