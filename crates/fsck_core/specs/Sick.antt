-- Whether a btree is sick.
use Rattle.std.specs.Prelude.{◌||◌, Bool, List}
use Rattle.std.specs.List.{list_any}
use Rattle.core_parts.specs.Common.Kinds.{is_sick}
use Rattle.core_parts.specs.declared.groups.GroupKept.{GroupKept}
use Rattle.core_parts.specs.declared.groups.Trusts.{Trusts}

-- one of the six btrees of a group
abbrev pub is_one_sick : Trusts → Bool
is_one_sick t = is_sick t.bno || is_sick t.cnt || is_sick t.rmap || is_sick t.refc || is_sick t.ino || is_sick t.fino

abbrev pub are_some_sick : List GroupKept → Bool
are_some_sick ks = list_any (λ k. is_one_sick k.trust) ks
