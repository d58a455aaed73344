-- What is known of the btrees and units of a group.
use Rattle.std.specs.Prelude.{Bool, true, false, ◌||◌}
use Rattle.fs_model.specs.declared.unit.Trust.{Trust}
use Rattle.fs_model.specs.declared.unit.Trust.TheVariants as trusts
use Rattle.fs_model.specs.declared.unit.Unit.{Unit as ScrubUnit}
use Rattle.fs_model.specs.declared.unit.Unit.TheVariants as units
use Rattle.sblock.specs.declared.kind.Kind.{Kind}
use Rattle.sblock.specs.declared.kind.Kind.TheVariants.{Bno, Cnt, Rmap, Refc, Ino, Fino}
use Rattle.core_parts.specs.declared.groups.Passed.{Passed}
use Rattle.core_parts.specs.declared.groups.Trusts.{Trusts}

abbrev pub trust_in : Trusts → Kind → Trust
trust_in t Bno = t.bno
trust_in t Cnt = t.cnt
trust_in t Rmap = t.rmap
trust_in t Refc = t.refc
trust_in t Ino = t.ino
trust_in t Fino = t.fino

abbrev pub with_trust : Trusts → Kind → Trust → Trusts
with_trust t Bno v = record t { bno = v }
with_trust t Cnt v = record t { cnt = v }
with_trust t Rmap v = record t { rmap = v }
with_trust t Refc v = record t { refc = v }
with_trust t Ino v = record t { ino = v }
with_trust t Fino v = record t { fino = v }

-- the unit's own btrees are trusted so
abbrev pub with_unit : Trusts → ScrubUnit → Trust → Trusts
with_unit t units.Inode v = record t { ino = v; fino = v }
with_unit t units.Rmap v = record t { rmap = v }
with_unit t units.Free v = record t { bno = v; cnt = v }
with_unit t units.Refc v = record t { refc = v }

abbrev pub is_sick : Trust → Bool
is_sick trusts.Unknown = false
is_sick trusts.Good = false
is_sick trusts.Sick = true

abbrev pub is_good : Trust → Bool
is_good trusts.Unknown = false
is_good trusts.Good = true
is_good trusts.Sick = false

-- one of the unit's btrees is sick
abbrev pub is_unit_sick : Trusts → ScrubUnit → Bool
is_unit_sick t units.Inode = is_sick t.ino || is_sick t.fino
is_unit_sick t units.Rmap = is_sick t.rmap
is_unit_sick t units.Free = is_sick t.bno || is_sick t.cnt
is_unit_sick t units.Refc = is_sick t.refc

abbrev pub has_passed : Passed → ScrubUnit → Bool
has_passed p units.Inode = p.inode
has_passed p units.Rmap = p.rmap
has_passed p units.Free = p.free
has_passed p units.Refc = p.refc

abbrev pub with_pass : Passed → ScrubUnit → Bool → Passed
with_pass p units.Inode v = record p { inode = v }
with_pass p units.Rmap v = record p { rmap = v }
with_pass p units.Free v = record p { free = v }
with_pass p units.Refc v = record p { refc = v }
