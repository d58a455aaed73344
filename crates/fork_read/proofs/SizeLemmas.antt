-- How many mappings a piece has.
use Rattle.std.proofs.Common.{◌≡◌, ℕ, zero, suc, ◌-◌, ◌<◌, ◌≤◌, Bool, true, List, [], ◌∷◌, length, drop, filter, Option, Some, None, Result, Ok, Err, refl, ap, sym, subst, ◌∙◌, inl, inr, arith}
use Rattle.std.specs.Prelude.{IfOk, nat_le, nat_lt, ◌&&◌, ◌+◌}
use Rattle.std.specs.List.{slice_get, list_all}
use Rattle.std.proofs.lemmas.Bool.{and_parts, cases_Bool, false≢true}
use Rattle.std.proofs.lemmas.Bool.Decides.{nat_tests}
use Rattle.std.proofs.lemmas.Option.{slice_get_within}
use Rattle.geom.specs.Layout.{Layout}
use Rattle.dinode_core.specs.declared.inode.Core3.{Core3}
use Rattle.dinode_core.specs.declared.mapping.Fork.{Fork}
use Rattle.dinode_core.specs.declared.mapping.Fork.TheVariants.{Data, Attr}
use Rattle.dinode_core.specs.declared.mapping.Mapping.{Mapping}
use Rattle.dinode_core.specs.declared.mapping.ForkFault.{ForkFault}
use Rattle.dinode_core.specs.declared.mapping.ForkFault.TheVariants as faults
use Rattle.dinode_core.specs.ForkTree.{Trail}
use Rattle.dinode_core.specs.Inline.{first_bad, or_else, inline_fault, inline_mappings, is_extents, mappings_in}
use Rattle.dinode_core.specs.Shape.{area_of, count_of, format_of, is_absent, size_of}
use Rattle.dinode_core.proofs.InlineLemmas.{room_enough}
use Rattle.fork_read.specs.declared.fault.ForkPiece.{ForkPiece}
use Rattle.fork_read.specs.declared.fault.ReadFault.{ReadFault}
use Rattle.fork_read.specs.declared.tasks.Task.{Task}
use Rattle.fork_read.specs.declared.walk.Stop.{Stop}
use Rattle.fork_read.specs.declared.walk.Stop.TheVariants.{Bad, Whole, Left, Long, Fallen}
use Rattle.fork_read.specs.Answers.{IsPiece, MayLeave, judged, last_clears, may_stop, next_of}
use Rattle.fork_read.specs.Pieces.{IsSized}
use Rattle.fork_read.proofs.PieceLemmas.{form_none}
use Rattle.fork_read.proofs.WholeLemmas.{else_parts, some_none}

filter_few : (p : Mapping → Bool) (ms : List Mapping) → length (filter p ms) ≤ length ms
filter_few p [] = omega arith
filter_few p (m ∷ ms) =
    let rest = filter_few p ms in
    elim (cases_Bool (p m)) [ inl kept ↦ rw kept (omega (arith, rest)) | inr out ↦ rw out (omega (arith, rest)) ]

filter_some : (p : Mapping → Bool) (ms : List Mapping) (k : ℕ) (m : Mapping) → slice_get ms k ≡ Some m → p m ≡ true → 0 < length (filter p ms)
filter_some p [] k m h t = let within = slice_get_within [] k m h in absurd (omega (arith, within))
filter_some p (x ∷ ms) zero m h t =
    let same : x ≡ m = cc in
    let yes : p x ≡ true = ap p same ∙ t in
    rw yes (omega arith)
filter_some p (x ∷ ms) (suc k) m h t =
    let rest = filter_some p ms k m h t in
    elim (cases_Bool (p x)) [ inl kept ↦ rw kept (omega arith) | inr out ↦ rw out rest ]

last_from : (from key k : ℕ) (ms : List Mapping) (o : Option Mapping) → slice_get ms k ≡ o → last_clears from key o ≡ true → 0 < length (filter (λ m. nat_le from m.offset) ms)
last_from from key k ms None e h = absurd (false≢true h)
last_from from key k ms (Some m) e h =
    let front = (and_parts (nat_le from m.offset && nat_lt m.offset key) (nat_le (m.offset + m.count) key) h).0 in
    filter_some (λ x. nat_le from x.offset) ms k m e (and_parts (nat_le from m.offset) (nat_lt m.offset key) front).0

-- the last mapping is one of the piece, so that what comes next is behind the offset
last_behind : (from key : ℕ) (o : Option Mapping) → last_clears from key o ≡ true → from < key
last_behind from key None h = absurd (false≢true h)
last_behind from key (Some m) h =
    let front = (and_parts (nat_le from m.offset && nat_lt m.offset key) (nat_le (m.offset + m.count) key) h).0 in
    let two = and_parts (nat_le from m.offset) (nat_lt m.offset key) front in
    grind (arith, nat_tests, two.0, two.1)

clears_at : (from : ℕ) (ms : List Mapping) (task : Task) (tasks : List Task) → may_stop from ms task tasks ≡ true → last_clears from task.key (slice_get ms (length ms - 1)) ≡ true
unfolding may_stop
clears_at from ms task tasks h = (and_parts (last_clears from task.key (slice_get ms (length ms - 1))) (list_all (λ t. nat_le task.key t.key) tasks) h).0

key_some : (n m : ℕ) → ◌≡◌ {A = Option ℕ} (Some n) (Some m) → n ≡ m
key_some n m e = cc

-- a place where no piece can begin leaves no piece
pub none_given : (o : Option ForkFault) → or_else o (Some faults.Order) ≡ None → ⊥
none_given None h = some_none faults.Order h
none_given (Some f) h = some_none f h

module _ (at : Layout) (fork : Fork) (levels from : ℕ) (t : Trail) (blocks : List ℕ) (tasks : List Task) (piece : ForkPiece) where
  by_way : (stop : Stop) → judged at fork levels stop t ≡ None → MayLeave from t.mappings tasks stop → IsPiece from t.mappings blocks (next_of stop) piece → IsSized from piece
  by_way Bad good leaves given = absurd (some_none faults.Block (else_parts (first_bad at fork t.mappings) (Some faults.Block) good).1)
  by_way Whole good leaves given = record {
    most = omega (arith, leaves, ap length given.mappings);
    some = λ offset e. absurd (none_some offset (sym given.next ∙ e));
    behind = λ offset e. absurd (none_some offset (sym given.next ∙ e));
  }
    where
      none_some : (n : ℕ) → ◌≡◌ {A = Option ℕ} None (Some n) → ⊥
      none_some n h = cc
  by_way (Left task) good leaves given =
      let clears = clears_at from t.mappings task tasks leaves.1 in
      record {
        most = omega (arith, leaves.0, ap length given.mappings);
        some = λ offset e. rw (given.mappings) (last_from from task.key (length t.mappings - 1) t.mappings (slice_get t.mappings (length t.mappings - 1)) refl clears);
        behind = λ offset e. subst (λ n. from < n) (key_some task.key offset (sym given.next ∙ e)) (last_behind from task.key (slice_get t.mappings (length t.mappings - 1)) clears);
      }
  by_way (Long task) good leaves given = absurd (none_given (first_bad at fork t.mappings) good)
  by_way Fallen good leaves given = absurd (none_given (first_bad at fork t.mappings) good)

pub sized : (at : Layout) (fork : Fork) (levels from : ℕ) (t : Trail) (blocks : List ℕ) (tasks : List Task) (stop : Stop) (result : Result ForkPiece ReadFault) → IfOk result (λ _. judged at fork levels stop t ≡ None) → MayLeave from t.mappings tasks stop → IfOk result (λ piece. IsPiece from t.mappings blocks (next_of stop) piece) → IfOk result (IsSized from)
sized at fork levels from t blocks tasks stop (Ok piece) good leaves given = by_way at fork levels from t blocks tasks piece stop good leaves given
sized at fork levels from t blocks tasks stop (Err error) good leaves given = tt

length_in : (n : ℕ) (bytes : List ℕ) → length (mappings_in n bytes) ≤ n
unfolding mappings_in
length_in zero bytes = omega arith
length_in (suc n) bytes = let rest = length_in n (drop 16 bytes) in omega (arith, rest)

size_few : (core : Core3) (fork : Fork) → core.forkoff < 42 → size_of core fork ≤ 336
size_few core Data h = grind (arith, nat_tests)
size_few core Attr h = omega arith

inline_few : (at : Layout) (core : Core3) (fork : Fork) → inline_fault at core fork ≡ None → length (inline_mappings core fork) ≤ 512
unfolding inline_mappings
inline_few at core fork good =
    elim (cases_Bool (is_absent core fork)) [
      | inl absent ↦ rw absent (omega arith)
      | inr present ↦ rw present (elim (cases_Bool (is_extents (format_of core fork))) [
        | inr none ↦ rw none (omega arith)
        | inl extents ↦
            let room = room_enough core fork (form_none at core fork good) present extents in
            let few = size_few core fork room.inside in
            let count = length_in (count_of core fork) (area_of core fork) in
            rw extents (omega (arith, room.room, few, count))
      ])
    ]

pub inline_sized : (at : Layout) (core : Core3) (fork : Fork) (from : ℕ) (ms items : List Mapping) (blocks : List ℕ) (result : Result ForkPiece ReadFault) → inline_fault at core fork ≡ None → items ≡ inline_mappings core fork → ms ≡ items → IfOk result (λ piece. IsPiece from ms blocks None piece) → IfOk result (IsSized from)
inline_sized at core fork from ms items blocks (Ok piece) good e f given =
    let few = inline_few at core fork good in
    let all = filter_few (λ m. nat_le from m.offset) ms in
    record {
      most = omega (arith, few, all, ap length given.mappings, ap length (f ∙ e));
      some = λ offset h. absurd (none_left offset (sym given.next ∙ h));
      behind = λ offset h. absurd (none_left offset (sym given.next ∙ h));
    }
  where
    none_left : (n : ℕ) → ◌≡◌ {A = Option ℕ} None (Some n) → ⊥
    none_left n h = cc
inline_sized at core fork from ms items blocks (Err error) good e f given = tt
