use Rattle.std.proofs.Common.{◌∙◌, ap, sym}
use Rattle.std.proofs.lemmas.Option.{slice_get_read}
use Rattle.fs_model.specs.declared.unit.Unit.{Unit as ScrubUnit}
use Rattle.unit_trust.specs.Trusts.{lacks}
use Rattle.core_begin.proofs.StartLemmas.{lacks_free, lacks_inode, lacks_refc, lacks_rmap}
use Rattle.core_begin.proofs.needs.first_needed.Goals as goal

pub returns-in-Inode : goal.returns-in-Inode
returns-in-Inode c =
    sym (ap (λ (u : ScrubUnit). lacks c.args.groups.now c.args.count c.args.g u) c.in-Inode.is ∙ lacks_inode c.args.groups.now c.args.count c.args.g)

pub returns-in-Rmap : goal.returns-in-Rmap
returns-in-Rmap c =
    c.first_fallen.ensures ∙ sym (ap (λ (u : ScrubUnit). lacks c.args.groups.now c.args.count c.args.g u) c.in-Rmap.is ∙ lacks_rmap c.args.groups.now c.args.count c.args.g)

pub returns-in-Free : goal.returns-in-Free
returns-in-Free c =
    let there = slice_get_read c.args.groups.now c.args.count c.args.g c.index-groups-g.result (sym c.requires.all) c.requires.group c.index-groups-g.is in
    c.fallen_rmap.ensures ∙ sym (ap (λ (u : ScrubUnit). lacks c.args.groups.now c.args.count c.args.g u) c.in-Free.is ∙ lacks_free c.args.groups.now c.args.count c.args.g c.index-groups-g.result there)

pub returns-in-Refc : goal.returns-in-Refc
returns-in-Refc c =
    let there = slice_get_read c.args.groups.now c.args.count c.args.g c.index-groups-g-in-Refc.result (sym c.requires.all) c.requires.group c.index-groups-g-in-Refc.is in
    c.fallen_rmap-in-Refc.ensures ∙ sym (ap (λ (u : ScrubUnit). lacks c.args.groups.now c.args.count c.args.g u) c.in-Refc.is ∙ lacks_refc c.args.groups.now c.args.count c.args.g c.index-groups-g-in-Refc.result there)
