-- The free list of a group as a ring of 119 places.
use Rattle.std.specs.Prelude.{◌≡◌, ℕ, ◌+◌, ◌-◌, ◌%◌, ◌<◌, ◌≤◌, ◌≢◌, ◌==◌, nat_lt, nat_le, not, Bool, ◌&&◌, ◌||◌, if◌then◌else◌, List, map, slice_index, slice_set}
use Rattle.std.specs.List.{range_with_len, All, AllPairs}
use Rattle.byte_fields.specs.Below.{all_below}

-- an AGFL with what its AGF says of it: the numbers at all places, the places of the first and of the last
-- entry, and how many entries there are
pub record FreeRing : Type 0 where
  pub seqno : ℕ
  pub uuid : List ℕ
  pub lsn : ℕ
  pub numbers : List ℕ
  pub first : ℕ
  pub last : ℕ
  pub count : ℕ

-- the place of entry i: place 118 is followed by place 0
abbrev pub place_at : ℕ → ℕ → ℕ
place_at first i = (first + i) % 119

-- the entries, in the order of the ring
unfoldable pub entries : FreeRing → List ℕ
entries ring = map (λ i. slice_index ring.numbers (place_at ring.first i)) (range_with_len 0 ring.count)

-- the places are places, and where there are entries the last one stands count - 1 places behind the first
pub record IsRing (first last count : ℕ) : Type 0 where
  pub first_inside : first < 119
  pub last_inside : last < 119
  pub fits : count ≤ 119
  pub joined : 0 < count → last ≡ (first + count + 118) % 119

unfoldable pub ring_fits : ℕ → ℕ → ℕ → Bool
ring_fits first last count =
    nat_lt first 119 && nat_lt last 119 && nat_le count 119 && ((count == 0) || (last == (first + count + 118) % 119))

unfoldable pub differ : List ℕ → ℕ → ℕ → Bool
differ blocks i j = not (slice_index blocks j == slice_index blocks i)

-- entry i isn't one of those before it
unfoldable pub is_new : List ℕ → ℕ → Bool
is_new blocks i = all_below i (differ blocks i)

-- entry i is a block of a group of this many blocks, not its block 0, and not one of the entries before it
unfoldable pub entry_fits : ℕ → List ℕ → ℕ → Bool
entry_fits length blocks i = nat_le 1 (slice_index blocks i) && nat_lt (slice_index blocks i) length && is_new blocks i

-- each entry is a block of the group and not its block 0, and none is listed twice
pub record IsFreeList (length : ℕ) (ring : FreeRing) : Type 0 where
  pub inside : All (λ block. (1 ≤ block) × (block < length)) (entries ring)
  pub distinct : AllPairs (λ a b. a ≢ b) (entries ring)

-- the ring without its first entry, which stays in its place as one that isn't in use
abbrev pub without_first : FreeRing → FreeRing
without_first ring =
    if ring.count == 0 then ring
    else record ring { first = (ring.first + 1) % 119; count = ring.count - 1 }

-- the ring with one entry more behind its last; an empty ring begins there
abbrev pub with_last : FreeRing → ℕ → FreeRing
with_last ring block =
    let place = (ring.last + 1) % 119 in
    record ring {
      numbers = slice_set ring.numbers place block;
      first = if ring.count == 0 then place else ring.first;
      last = place;
      count = ring.count + 1;
    }
