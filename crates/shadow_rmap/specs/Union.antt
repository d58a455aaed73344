-- What a record put to a list of maximal runs makes of it, and one taken out, whatever of the record is there.
use Rattle.std.specs.Prelude.{◌≡◌, ◌+◌, ◌-◌, ◌==◌, nat_lt, nat_le, Bool, true, false, not, ◌&&◌, List, [], ◌∷◌, Contains, filter, if◌then◌else◌, ◌⊎◌}
use Rattle.rmap_recs.specs.Words.{word_goes_on}
use Rattle.rmap_recs.specs.declared.records.RmapRec.{RmapRec}
use Rattle.rmap_recs.specs.declared.tuples.Tuple.{Tuple}
use Rattle.run_edits.specs.EditLaws.{IsOf}
use Rattle.run_edits.specs.Edits.{give_run, front_of, back_of}

-- the second list has the tuples of the first and those of the record, and no others
pub record AreUnion (ts us : List Tuple) (r : RmapRec) : Type 0 where
  pub kept : (t : Tuple) → Contains ts t → Contains us t
  pub given : (t : Tuple) → IsOf r t → Contains us t
  pub only : (t : Tuple) → Contains us t → Contains ts t ⊎ IsOf r t

-- the second list has the tuples of the first that aren't the record's, and no others
pub record AreLeft (ts us : List Tuple) (r : RmapRec) : Type 0 where
  pub kept : (t : Tuple) → Contains ts t → (IsOf r t → ⊥) → Contains us t
  pub only : (t : Tuple) → Contains us t → Contains ts t × (IsOf r t → ⊥)

-- ---- the runs that have tuples of a record

-- the second begins in the first: with its owner and flags, at the offset that comes there
abbrev pub is_along : RmapRec → RmapRec → Bool
is_along a b = nat_lt b.start (a.start + a.count) && (b.owner == a.owner) && word_goes_on a.owner a.word (b.start - a.start) b.word

-- they have a common tuple
abbrev pub meets : RmapRec → RmapRec → Bool
meets a b = if nat_le a.start b.start then is_along a b else is_along b a

-- the first, as far as the later of the two ends
abbrev pub wider : RmapRec → RmapRec → RmapRec
wider a b = record {
  start = a.start;
  count = if nat_lt (a.start + a.count) (b.start + b.count) then (b.start + b.count) - a.start else a.count;
  owner = a.owner;
  word = a.word;
}

-- two that have a common tuple, as one
abbrev pub widened : RmapRec → RmapRec → RmapRec
widened a b = if nat_le a.start b.start then wider a b else wider b a

-- the first with all of the list that meet the second
unfoldable pub hull_from : RmapRec → RmapRec → List RmapRec → RmapRec
hull_from h r [] = h
hull_from h r (q ∷ qs) = hull_from (if meets q r then widened h q else h) r qs

-- a record with all runs that it meets, and the other runs
abbrev pub hull : RmapRec → List RmapRec → RmapRec
hull r recs = hull_from r r recs

abbrev pub apart : RmapRec → List RmapRec → List RmapRec
apart r recs = filter (λ q. not (meets q r)) recs

-- ---- the lists

unfoldable pub add_run : RmapRec → List RmapRec → List RmapRec
add_run r recs = give_run (hull r recs) (apart r recs)

abbrev pub give_if : Bool → RmapRec → List RmapRec → List RmapRec
give_if true r recs = give_run r recs
give_if false r recs = recs

-- what of x lies beside r
abbrev pub give_front : RmapRec → RmapRec → List RmapRec → List RmapRec
give_front x r recs = give_if (nat_lt x.start r.start) (front_of x r) recs

abbrev pub give_back : RmapRec → RmapRec → List RmapRec → List RmapRec
give_back x r recs = give_if (nat_lt (r.start + r.count) (x.start + x.count)) (back_of x r) recs

unfoldable pub remove_run : RmapRec → List RmapRec → List RmapRec
remove_run r recs = give_back (hull r recs) r (give_front (hull r recs) r (apart r recs))
