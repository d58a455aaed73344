use Rattle.std.proofs.Common.{List, ◌∙◌, sym, subst}
use Rattle.std.proofs.lemmas.Result.{IfErr-weaker, IfOk-weaker}
use Rattle.blk_device.specs.ReadingLaws.{read_on}
use Rattle.blk_device.specs.declared.device.Region.TheVariants.{Image}
use Rattle.geom.specs.Places.{layout}
use Rattle.core_parts.specs.Opens.Heads.{Each, IsHeadsOf}
use Rattle.core_edit.specs.declared.heads.EditHeads.{EditHeads}
use Rattle.core_parts.proofs.opens.Each.{outside_refused}
use Rattle.core_parts.proofs.opens.open.read_all.Goals as goal

pub read_groups-requires-clause-told : goal.read_groups-requires-clause-told
read_groups-requires-clause-told g c = λ m e.
    subst (λ (hs : List EditHeads). Each (IsHeadsOf (layout c.args.geo.now) (m Image)) 0 hs) (sym c.as_slice.ensures.value) (c.in_ok-all.ensures.told m (sym c.in_ok-all.ensures.reading.same ∙ e))

pub returns-clause-told : goal.returns-clause-told
returns-clause-told g c = IfOk-weaker c.read_groups.result _ _ (λ groups are m e. are m (c.in_ok-all.ensures.reading.same ∙ e)) c.read_groups.ensures.told

pub returns-clause-passed : goal.returns-clause-passed
returns-clause-passed g c = IfOk-weaker c.read_groups.result _ _ (λ groups are. c.in_ok-all.ensures.passed) c.read_groups.ensures.all

pub returns-clause-refused : goal.returns-clause-refused
returns-clause-refused g c = IfErr-weaker c.read_groups.result _ _ (λ stop out m e. outside_refused (layout c.args.geo.now) (m Image) stop out) c.read_groups.ensures.outside

pub returns-clause-reading : goal.returns-clause-reading
returns-clause-reading g c =
    read_on g.D.Device g.met.D.Device.only_now g.met.D.Device.counts_now c.args.dev.now c.read_all_heads.new.dev c.read_groups.new.dev c.args.steps.now c.read_all_heads.new.steps c.read_groups.new.steps c.in_ok-all.ensures.reading c.read_groups.ensures.reading
