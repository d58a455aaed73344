use Rattle.std.proofs.Common.{◌≡◌, ◌++◌, ◌/◌, ◌∙◌, Bool, List, [], ap, refl, subst, sym, true}
use Rattle.geom.specs.Layout.{group_len_of}
use Rattle.geom.specs.Places.{layout}
use Rattle.inode_pass.specs.Units.{unit_numbers}
use Rattle.inode_pass.specs.declared.unit.UnitSeen.{UnitSeen}
use Rattle.run_sets.specs.Runs.{EndWithin}
use Rattle.run_sets.specs.declared.run.Run.{Run}
use Rattle.core_units.specs.Cores.{units_left}
use Rattle.core_units.specs.Orderly.{IsWholeIf}
use Rattle.core_units.specs.declared.cores.UnitPlace.{UnitPlace}
use Rattle.core_units.specs.declared.gather.Gathered.{Gathered}
use Rattle.core_units.specs.declared.gather.Gathering.{Gathering}
use Rattle.core_units.proofs.OrderlyLemmas.{listed_inside, seen_more, whole_seen}
use Rattle.core_units.proofs.gather.gather_units.Goals as goal

pub gather_cores-requires-clause-inside : goal.gather_cores-requires-clause-inside
gather_cores-requires-clause-inside g c = subst (EndWithin (group_len_of (layout c.args.geo.now) c.args.g / 8)) (sym c.as_slice-units.ensures.value) (listed_inside (layout c.args.geo.now) c.args.g c.gather_listed.new.gathered c.in-Some.listed c.in_ok-gather_listed.ensures.orderly c.in-Some.is)

pub returns-in_err-is_done-clause-orderly : goal.returns-in_err-is_done-clause-orderly
returns-in_err-is_done-clause-orderly g c =
    let old = c.gather_listed.new.gathered in
    let new : Gathered = record old { at = c.gather_cores.new.at; seen = c.gather_cores.new.seen } in
    seen_more (layout c.args.geo.now) c.args.g old new c.in-Some.listed c.in_ok-gather_listed.ensures.orderly c.in-Some.is refl refl refl
    (ap (λ (l : List UnitSeen). unit_numbers l ++ units_left c.in-Some.listed.either.items c.gather_cores.new.at) c.in_err-is_done.ensures.kept ∙ ap (λ (p : UnitPlace). unit_numbers old.seen.items ++ units_left c.in-Some.listed.either.items p) c.in_err-is_done.ensures.place)

pub returns-clause-orderly : goal.returns-clause-orderly
returns-clause-orderly g c =
    let old = c.gather_listed.new.gathered in
    let new : Gathered = record old { at = c.gather_cores.new.at; seen = c.gather_cores.new.seen } in
    let left = subst (λ (us : List Run). unit_numbers new.seen.items ++ units_left us new.at ≡ unit_numbers old.seen.items ++ units_left us old.at) c.as_slice-units.ensures.value c.in_ok-is_done.ensures.left in
    seen_more (layout c.args.geo.now) c.args.g old new c.in-Some.listed c.in_ok-gather_listed.ensures.orderly c.in-Some.is refl refl refl left

pub returns-clause-whole : goal.returns-clause-whole
returns-clause-whole g c =
    let old = c.gather_listed.new.gathered in
    let new : Gathered = record old { at = c.gather_cores.new.at; seen = c.gather_cores.new.seen } in
    let left = subst (λ (us : List Run). unit_numbers new.seen.items ++ units_left us new.at ≡ unit_numbers old.seen.items ++ units_left us old.at) c.as_slice-units.ensures.value c.in_ok-is_done.ensures.left in
    let orderly = seen_more (layout c.args.geo.now) c.args.g old new c.in-Some.listed c.in_ok-gather_listed.ensures.orderly c.in-Some.is refl refl refl left in
    subst (IsWholeIf (layout c.args.geo.now) c.args.g new) (sym c.whole_if.ensures)
    (whole_seen (layout c.args.geo.now) c.args.g new c.in-Some.listed c.in_ok-is_done.is_done orderly c.in-Some.is (λ e. subst (λ (us : List Run). units_left us new.at ≡ []) c.as_slice-units.ensures.value (c.in_ok-is_done.ensures.done e)))
