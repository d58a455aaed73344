-- Which blocks does whom own? And the reverse mappings that say so ("Reverse Mapping B+tree").
use Rattle.std.specs.Prelude.{ℕ, nat_lt, Bool, List, [], ◌∷◌, map, if◌then◌else◌}
use Rattle.rmap_recs.specs.Rmap.{is_first}
use Rattle.rmap_recs.specs.Runs.{runs_of, is_same}
use Rattle.rmap_recs.specs.Words.{key_word}
use Rattle.rmap_recs.specs.declared.records.RmapRec.{RmapRec}
use Rattle.rmap_recs.specs.declared.tuples.Tuple.{Tuple}
use Rattle.fs_state.specs.State.{State}
use Rattle.fs_state.specs.Claims.{Claimed, claims}

abbrev pub tuple_of : Claimed → Tuple
tuple_of c = record { block = c.block; owner = c.owner; word = c.word }

-- by block, owner and offset word without its unwritten flag, which decides last
unfoldable pub comes_before : Tuple → Tuple → Bool
comes_before t u =
    is_first t.block u.block (is_first t.owner u.owner (is_first (key_word t.word) (key_word u.word) (nat_lt t.word u.word)))

-- a tuple in its place, unless it is there
abbrev pub put_once : Tuple → List Tuple → List Tuple
put_once t [] = t ∷ []
put_once t (u ∷ us) = if comes_before t u then t ∷ u ∷ us else if is_same t u then u ∷ us else u ∷ put_once t us

-- a set of tuples, as the one list that rises
abbrev pub set_of : List Tuple → List Tuple
set_of [] = []
set_of (t ∷ ts) = put_once t (set_of ts)

-- Which blocks of a group does whom own, at which offset and with which flags?
unfoldable pub own : State → ℕ → List Tuple
own a g = set_of (map tuple_of (claims a g))

-- What should the reverse mapping btree of a group hold? The maximal runs of its owners.
unfoldable pub rmap_of : State → ℕ → List RmapRec
rmap_of a g = runs_of (own a g)
