use Rattle.std.proofs.Common.{◌∙◌, ap, refl}
use Rattle.std.proofs.lemmas.Option.{get_or_from_slice_get, slice_get_read}
use Rattle.core_begin.proofs.BeginLemmas.{trees_set}
use Rattle.core_parts.specs.declared.groups.GroupKept.{GroupKept}
use Rattle.core_begin.proofs.starts.end_pass.Goals as goal
use Rattle.std.specs.Prelude.{length}

pub returns-clause-trees : goal.returns-clause-trees
returns-clause-trees c =
    trees_set 0 c.args.groups.now.items c.args.g c.clear_pass.new.kept (λ x there.
    c.clear_pass.ensures.heads ∙ ap (λ (k : GroupKept). k.heads) (c.index_mut.ensures.value ∙ get_or_from_slice_get c.args.groups.now.items c.args.g x c.index_mut.result.now there))

pub returns-clause-cleared : goal.returns-clause-cleared
returns-clause-cleared c = record {
  before = c.index_mut.result.now;
  after = c.clear_pass.new.kept;
  kept = slice_get_read c.args.groups.now.items (length c.args.groups.now.items) c.args.g c.index_mut.result.now refl c.requires c.index_mut.ensures.value;
  left = refl;
  trust = c.clear_pass.ensures.trust;
  passed = c.clear_pass.ensures.passed;
}
