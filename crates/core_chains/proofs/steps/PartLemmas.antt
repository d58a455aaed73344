-- What a step keeps of all parts, with the unit that heard of it.
use Rattle.std.proofs.Common.{◌≡◌, ◌<◌, ◌∙◌, ℕ, refl, sym, ap, subst, length-set}
use Rattle.std.proofs.lemmas.Option.{slice_get_read}
use Rattle.std.specs.Global.{Vec}
use Rattle.std.specs.Prelude.{List, Option, None, Some, Result, get_or, length, slice_set}
use Rattle.std.specs.List.{slice_get}
use Rattle.blk_device.specs.declared.device.Device.{Ghosts}
use Rattle.core_calls.specs.declared.answers.WriteFault.{WriteFault}
use Rattle.core_parts.specs.Safe.{AreUnits, IsSafe, IsUnit, IsWork}
use Rattle.core_parts.specs.declared.desk.Desk.{Desk}
use Rattle.core_parts.specs.declared.groups.GroupKept.{GroupKept}
use Rattle.core_parts.specs.declared.parts.Parts.{Parts}
use Rattle.core_parts.specs.declared.units.UnitState.{UnitState}
use Rattle.core_chains.specs.Steps.Hears.{IsPlace, StaysPlace, StaysUnit}
use Rattle.core_chains.proofs.write.PartLemmas.{worked_parts}
use Rattle.core_chains.proofs.write.Places.{set_units}
use Rattle.core_chains.specs.Write.Writes.{IsLeftAll, WriteParts, WritesWell}
use Rattle.geom.specs.Layout.{Layout}
use Rattle.geom.specs.Places.{layout}

-- ---- a place of the list of open units

place_stays : (u v : UnitState) → StaysUnit u v → StaysPlace (Some u) (Some v)
place_stays u v stays at g holds w is =
    let same : v ≡ w = cc in
    let was = holds u refl in
    subst (λ (x : UnitState). (x.group ≡ g) × IsUnit at x) same
    (stays.group ∙ was.0, record { inside = subst (λ (n : ℕ). n < at.agcount) (sym stays.group) was.1.inside; work = subst (λ (n : ℕ). IsWork at n v.work) (sym stays.group) (stays.work at was.1.work) })

pub unit_stays : (x : Option UnitState) (u v : UnitState) → x ≡ Some u → StaysUnit u v → StaysPlace x (Some v)
unit_stays x u v is stays = subst (λ (y : Option UnitState). StaysPlace y (Some v)) (sym is) (place_stays u v stays)

pub place_on : (x y z : Option UnitState) → StaysPlace x y → StaysPlace y z → StaysPlace x z
place_on x y z a b at g holds = b at g (a at g holds)

-- what stood in the place
is_place : (at : Layout) (us : List (Option UnitState)) (g : ℕ) (x : Option UnitState) → AreUnits at us → slice_get us g ≡ Some x → IsPlace at g x
is_place at us g x are here u is = are g u (here ∙ ap (λ (y : Option UnitState). Some y) is)

module _ {D : Type 0} (d : Ghosts D) where
  pub heard_parts : {T : Type 0} (p : Parts D) (k : Desk D) (ks : Vec GroupKept) (us : Vec (Option UnitState)) (g : ℕ) (shown : List (Option UnitState)) (was now : Option UnitState) (answer : Result T WriteFault) → IsSafe d p → p.desk.book.shut ≡ None → IsLeftAll d p.desk k p.groups.items ks.items → WritesWell k answer
      → shown ≡ p.units.items → g < length shown → was ≡ get_or p.units.items g was → StaysPlace was now → us.items ≡ slice_set p.units.items g now → WriteParts d p (record { desk = k; groups = ks; units = us }) answer
  heard_parts p k ks us g shown was now answer s unshut left well same inside read stays is =
      let at : Layout = layout p.desk.store.geo in
      let here : slice_get p.units.items g ≡ Some was = slice_get_read p.units.items (length shown) g was (ap length same) inside read in
      worked_parts d p k ks us answer s unshut left (ap length is ∙ length-set p.units.items g now)
      (subst (AreUnits at) (sym is) (set_units at p.units.items g now s.works (stays at g (is_place at p.units.items g was s.works here)))) well
