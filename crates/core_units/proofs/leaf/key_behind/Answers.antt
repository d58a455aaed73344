use Rattle.std.proofs.Common.{◌∙◌, ap, sym, Some}
use Rattle.std.specs.Option.{option_map}
use Rattle.core_units.proofs.FrontLemmas.{last_key}
use Rattle.core_units.proofs.leaf.key_behind.Goals as goal

pub returns : goal.returns
returns g c = ap Some (c.key_of.ensures) ∙ ap (option_map g.K.RecKind.form.key_of) c.in_ok-last.ensures.value ∙ last_key g.K.RecKind.form c.args.recs.now
