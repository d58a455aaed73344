use Rattle.std.proofs.Common.{◌∙◌, sym}
use Rattle.geom.specs.Places.{layout}
use Rattle.core_chains.proofs.write.FitLemmas.{ino_fits}
use Rattle.core_chains.proofs.write.indexes.fit_ino.Goals as goal

pub returns : goal.returns
returns c = record { fits = ino_fits (layout c.args.geo.now) c.args.g c.of_group-site.result c.args.rec.now c.of_group-site.ensures.exact (sym c.is_in_range.ensures ∙ c.if-not-is_in_range.false) (sym c.is_supported.ensures ∙ c.if-not-is_supported.false) }
