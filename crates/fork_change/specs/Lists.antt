-- A fork's list of mappings with one more, or without a piece of one ("Data Extents").
use Rattle.std.specs.Prelude.{◌<◌, ◌≤◌, ℕ, ◌+◌, ◌-◌, ◌/◌, ◌^◌, ◌==◌, ◌&&◌, ◌||◌, nat_lt, nat_le, min, Bool, true, false, not, List, [], ◌∷◌, ◌++◌, filter, find, Option, Some, None, option_to_list, if◌then◌else◌}
use Rattle.std.specs.List.{flat_map}
use Rattle.dinode_core.specs.declared.mapping.Mapping.{Mapping}

-- it has blocks, ends at the greatest offset or before, and its numbers have room in a packed mapping
pub record Fits (m : Mapping) : Type 0 where
  pub some : 0 < m.count
  pub count : m.count < 2 ^ 21
  pub offset : m.offset + m.count ≤ 2 ^ 54
  pub block : m.block + m.count ≤ 2 ^ 52

abbrev pub AllFit : List Mapping → Type 0
AllFit [] = Unit {0}
AllFit (m ∷ ms) = Fits m × AllFit ms

-- the greatest number of blocks of a mapping
abbrev pub most_mapped : ℕ
most_mapped = 2097151

abbrev pub is_same_flag : Bool → Bool → Bool
is_same_flag true b = b
is_same_flag false b = not b

-- the second goes on where the first ends, in one group, both written or both not, and together they are one mapping
abbrev pub meets : ℕ → Mapping → Mapping → Bool
meets agblklog p q = (p.offset + p.count == q.offset) && ((p.block + p.count == q.block) && ((p.block / 2 ^ agblklog == q.block / 2 ^ agblklog) && (is_same_flag p.unwritten q.unwritten && nat_le (p.count + q.count) most_mapped)))

abbrev pub joined : Mapping → Mapping → Mapping
joined p q = record p { count = p.count + q.count }

abbrev pub joined_before : Option Mapping → Mapping → Mapping
joined_before None m = m
joined_before (Some p) m = joined p m

abbrev pub joined_after : Mapping → Option Mapping → Mapping
joined_after m None = m
joined_after m (Some q) = joined m q

-- the mapping with the one that it goes on from, and with the one that goes on from it
abbrev pub with_before : ℕ → Mapping → List Mapping → Mapping
with_before l m ms = joined_before (find (λ p. meets l p m) ms) m

abbrev pub with_after : ℕ → Mapping → List Mapping → Mapping
with_after l m ms = joined_after m (find (λ q. meets l m q) ms)

abbrev pub on_side : Bool → Mapping → Mapping → Bool
on_side true x p = nat_lt p.offset x.offset
on_side false x p = not (nat_lt p.offset x.offset)

-- the mapping is joined with neither, and lies before what was made of the added one, or behind it
abbrev pub is_side : ℕ → Mapping → Mapping → Bool → Mapping → Bool
is_side l m grown before p = not (meets l p m || meets l grown p) && on_side before grown p

-- What is a fork after a mapping was added? Those that lie before it, it with its neighbours where they meet, and those
-- behind it.
unfoldable pub added : ℕ → Mapping → List Mapping → List Mapping
added l m ms =
    let grown = with_before l m ms in
    filter (is_side l m grown true) ms ++ (with_after l grown ms ∷ filter (is_side l m grown false) ms)

abbrev pub overlaps : Mapping → Mapping → Bool
overlaps m p = nat_lt m.offset (p.offset + p.count) && nat_lt p.offset (m.offset + m.count)

-- ---- a piece

abbrev pub maps : ℕ → Mapping → Bool
maps offset m = nat_le m.offset offset && nat_lt offset (m.offset + m.count)

-- what the mapping has from the offset on, n blocks at most
abbrev pub piece_in : ℕ → ℕ → Mapping → Mapping
piece_in offset n m = record m { offset = offset; block = m.block + (offset - m.offset); count = min n (m.count - (offset - m.offset)) }

-- what of the mapping lies before the offset, and behind n blocks from there on
abbrev pub front_of : ℕ → Mapping → Option Mapping
front_of offset m = if nat_lt m.offset offset then Some (record m { count = offset - m.offset }) else None

abbrev pub back_of : ℕ → ℕ → Mapping → Option Mapping
back_of offset n m =
    if nat_lt (offset + n) (m.offset + m.count)
    then Some (record m { offset = offset + n; block = m.block + (offset + n - m.offset); count = m.offset + m.count - (offset + n) })
    else None

abbrev pub rest_of : ℕ → ℕ → Mapping → List Mapping
rest_of offset n m = if maps offset m then option_to_list (front_of offset m) ++ option_to_list (back_of offset n m) else m ∷ []

-- What is a fork without n blocks of a mapping, from an offset on? What is left of that mapping stays.
unfoldable pub taken : ℕ → ℕ → List Mapping → List Mapping
taken offset n ms = flat_map (rest_of offset n) ms
