use Rattle.std.proofs.Common.{◌∙◌, ℕ, ap}
use Rattle.std.specs.List.{insert}
use Rattle.script_defs.specs.Texts.{parts_of}
use Rattle.script_read.specs.Sections.{leading}
use Rattle.script_read.proofs.SectionLemmas.{put_at}
use Rattle.script_read.proofs.sections.put_section.Goals as goal

pub returns-clause-exact : goal.returns-clause-exact
returns-clause-exact c =
    let p = c.args.section in
    let xs = c.args.sections.now.items in
    let place = c.place_for-place.ensures.exact ∙ ap (leading p.writer) c.deref.ensures.value in
    ap parts_of (c.in_ok-insert.ensures.items ∙ ap (λ (i : ℕ). insert xs i p) place) ∙ put_at p xs
