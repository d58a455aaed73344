use Rattle.std.proofs.Common.{◌≡◌, ◌∙◌, ◌/◌, ℕ, List, ◌++◌, ap, sym, subst, arith}
use Rattle.std.proofs.lemmas.Result.{IfOk-weaker}
use Rattle.blk_device.specs.declared.device.Region.TheVariants.{Image}
use Rattle.fs_state.specs.Faults.{faults}
use Rattle.fs_model.specs.declared.unit.Unit.TheVariants as units
use Rattle.fs_state.specs.Kinds.{Image as ImageOf}
use Rattle.fs_state.specs.State.{recs_of}
use Rattle.geom.specs.Layout.{group_len_of}
use Rattle.geom.specs.Places.{layout}
use Rattle.index_derive.specs.Units.{is_listed_by}
use Rattle.inode_pass.specs.Units.{AreSeen, opened_state, unit_numbers, units_in}
use Rattle.inode_pass.specs.Notes.{notes_of}
use Rattle.inode_pass.specs.declared.note.ForkNote.{ForkNote}
use Rattle.tree_defs.specs.Sites.{bounds_of}
use Rattle.quiet_check.specs.Judged.{Decided, Gathered, later_evidence}
use Rattle.quiet_check.specs.Kept.{IsKeptAs}
use Rattle.group_trees.specs.Trees.{reading_of}
use Rattle.quiet_check.specs.Units.{AreListed}
use Rattle.quiet_check.proofs.ChunkLemmas.{cores_few, ends_below}
use Rattle.quiet_check.proofs.JudgeLemmas.{maps_end, maps_rise, own_cause}
use Rattle.quiet_check.proofs.KeptLemmas.{nothing_fits}
use Rattle.group_trees.proofs.ReadLemmas.{group_short}
use Rattle.quiet_check.proofs.judge.judge_cores.Goals as goal

pub list_units-requires-clause-rising : goal.list_units-requires-clause-rising
list_units-requires-clause-rising g c = maps_rise (bounds_of (layout c.args.geo.now) c.args.g) c.args.trees.now.rmap c.requires.trees.rmap

pub list_units-requires-clause-within : goal.list_units-requires-clause-within
list_units-requires-clause-within g c =
    maps_end (bounds_of (layout c.args.geo.now) c.args.g) c.args.trees.now.rmap (let k = group_short (layout c.args.geo.now) c.args.g c.args.geo.now.fitting in omega (arith, k)) c.requires.trees.rmap

pub see_units-requires-clause-inside : goal.see_units-requires-clause-inside
see_units-requires-clause-inside g c =
    let listed = subst (λ (n : ℕ). AreListed n c.args.trees.now c.in_ok-listed.listed) c.group_len.ensures c.in_ok-listed.ensures in
    ends_below (is_listed_by (recs_of (reading_of c.args.trees.now.ino)) (recs_of (reading_of c.args.trees.now.rmap))) (group_len_of (layout c.args.geo.now) c.args.g / 8) c.as_slice-units.result.now (c.as_slice-units.ensures.value ∙ listed.either)

pub judge_gathered-requires-clause-listed : goal.judge_gathered-requires-clause-listed
judge_gathered-requires-clause-listed g c = subst (λ (n : ℕ). AreListed n c.args.trees.now c.in_ok-listed.listed) c.group_len.ensures c.in_ok-listed.ensures

pub judge_gathered-requires-clause-units : goal.judge_gathered-requires-clause-units
judge_gathered-requires-clause-units g c =
    let listed = subst (λ (n : ℕ). AreListed n c.args.trees.now c.in_ok-listed.listed) c.group_len.ensures c.in_ok-listed.ensures in
    ap unit_numbers c.as_slice.ensures.value ∙ c.in_ok-seen.ensures.units ∙ ap units_in (c.as_slice-units.ensures.value ∙ listed.either)

pub returns-clause-exact : goal.returns-clause-exact
returns-clause-exact g c =
    let at = layout c.args.geo.now in
    IfOk-weaker c.judge_gathered.result (λ found. (image : ImageOf) → Gathered at image c.args.g c.args.heads.now c.args.trees.now c.as_slice.result.now → Decided (later_evidence (opened_state at image) c.args.g) (faults (opened_state at image) c.args.g units.Inode) found.judged) _
    (λ found decided m e named are. decided (m Image) (record {
      named = named;
      trees_are = are;
      cores_are = subst (AreSeen at (m Image) c.args.g) (sym c.as_slice.ensures.value) (c.in_ok-seen.ensures.exact m e);
    }))
    c.judge_gathered.ensures.exact

pub returns-clause-cause : goal.returns-clause-cause
returns-clause-cause g c = own_cause (g.D.Device.faults c.args.dev.now) (g.D.Device.faults c.see_units.new.dev) c.judge_gathered.result c.in_ok-seen.ensures.cause c.judge_gathered.ensures.own

pub returns-in_err-seen-clause-few : goal.returns-in_err-seen-clause-few
returns-in_err-seen-clause-few g c =
    let listed = subst (λ (n : ℕ). AreListed n c.args.trees.now c.in_ok-listed.listed) c.group_len.ensures c.in_ok-listed.ensures in
    cores_few (is_listed_by (recs_of (reading_of c.args.trees.now.ino)) (recs_of (reading_of c.args.trees.now.rmap))) (group_len_of (layout c.args.geo.now) c.args.g) c.as_slice-units.result.now c.args.steps.now.reads c.see_units.new.steps.reads (c.as_slice-units.ensures.value ∙ listed.either) c.in_err-seen.ensures.few

pub returns-clause-few : goal.returns-clause-few
returns-clause-few g c =
    let listed = subst (λ (n : ℕ). AreListed n c.args.trees.now c.in_ok-listed.listed) c.group_len.ensures c.in_ok-listed.ensures in
    cores_few (is_listed_by (recs_of (reading_of c.args.trees.now.ino)) (recs_of (reading_of c.args.trees.now.rmap))) (group_len_of (layout c.args.geo.now) c.args.g) c.as_slice-units.result.now c.args.steps.now.reads c.see_units.new.steps.reads (c.as_slice-units.ensures.value ∙ listed.either) c.in_ok-seen.ensures.few

pub judge_gathered-requires-clause-fit : goal.judge_gathered-requires-clause-fit
judge_gathered-requires-clause-fit g c = c.in_ok-seen.ensures.fit (nothing_fits (layout c.args.geo.now) c.args.g c.new-notes.result.items c.new-notes.ensures.items)

pub returns-clause-kept : goal.returns-clause-kept
returns-clause-kept g c =
    let at = layout c.args.geo.now in
    IfOk-weaker c.judge_gathered.result (λ found. (image : ImageOf) → Gathered at image c.args.g c.args.heads.now c.args.trees.now c.as_slice.result.now → c.see_units.new.notes.items ≡ notes_of at image c.args.g (unit_numbers c.as_slice.result.now) → IsKeptAs at image c.args.g found) _
    (λ found kept m e named are. kept (m Image)
    (record {
      named = named;
      trees_are = are;
      cores_are = subst (AreSeen at (m Image) c.args.g) (sym c.as_slice.ensures.value) (c.in_ok-seen.ensures.exact m e);
    })
    (c.in_ok-seen.ensures.noted m e ∙ ap (λ (ns : List ForkNote). ns ++ notes_of at (m Image) c.args.g (units_in c.as_slice-units.result.now)) c.new-notes.ensures.items
    ∙ ap (notes_of at (m Image) c.args.g) (sym (ap unit_numbers c.as_slice.ensures.value ∙ c.in_ok-seen.ensures.units))))
    c.judge_gathered.ensures.kept
