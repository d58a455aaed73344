-- The records that edits find.
use Rattle.std.proofs.Common.{◌≡◌, ◌+◌, ◌||◌, Bool, true, false, not, cond, List, [], ◌∷◌, filter, find, Some, is_some, refl, sym, ap, subst, ◌∙◌}
use Rattle.std.specs.Prelude.{if◌then◌else◌}
use Rattle.std.specs.List.{list_all, list_any}
use Rattle.std.proofs.lemmas.Bool.{false≢true, true≢false, and_parts}
use Rattle.law_accounts.specs.Account.Steps.{NextIsThere}
use Rattle.fs_change.specs.Chains.{is_change, run_of, takes, word_taken}
use Rattle.fs_change.specs.Changes.{plain_run}
use Rattle.fs_change.specs.Edited.{leaves_faults, met_by, met_by_next}
use Rattle.fs_change.specs.Met.{is_fault, met_losing, met_mapping, met_taking}
use Rattle.fs_change.specs.Parts.{is_edited, records_in, sick_in}
use Rattle.fs_change.specs.Records.{holder_of, span}
use Rattle.fs_change.specs.Step.{group_of_inode}
use Rattle.fs_state.specs.Claims.{unwritten}
use Rattle.fs_model.specs.declared.entry.Entry.{Entry}
use Rattle.fs_model.specs.declared.entry.Entry.TheVariants as entries
use Rattle.fs_state.specs.Group.{is_among}
use Rattle.fs_state.specs.State.{Group, State}
use Rattle.fs_state.specs.declared.intent.Intent.{Intent}
use Rattle.fs_state.specs.declared.intent.IntentKind.{IntentKind}
use Rattle.fs_state.specs.declared.intent.IntentKind.TheVariants.{Free, RefLess, RefMore, RmapAdd, RmapChange, RmapRemove}
use Rattle.rmap_recs.specs.Owners.{number_of}
use Rattle.rmap_recs.specs.declared.owner.Owner.TheVariants.{Ag}
use Rattle.rmap_recs.specs.declared.records.RmapRec.{RmapRec}
use Rattle.run_edits.specs.Edits.{holds}
use Rattle.sblock.specs.declared.kind.Kind.{Kind}
use Rattle.sblock.specs.declared.kind.Kind.TheVariants.{Bno, Cnt, Fino, Ino, Rmap}
use Rattle.span_recs.specs.declared.span.SpanRec.{SpanRec}
use Rattle.law_writers.specs.Run.Found.{ChunkFound, IntentFound, IsMade, ListedFound, MappedFound, RefilledFound}

-- ---- tests of lists

none_left : (left : List Kind) → list_all (λ k. is_among k []) left ≡ true → left ≡ []
none_left [] h = refl
none_left (k ∷ left) h = absurd (false≢true h)

all_behind : (T P : Kind → Bool) (k : Kind) (ks : List Kind) → list_all T (filter P (k ∷ ks)) ≡ true → list_all T (filter P ks) ≡ true
all_behind T P k ks h = (elim (P k) as (λ b. list_all T (cond b (k ∷ filter P ks) (filter P ks)) ≡ true → list_all T (filter P ks) ≡ true) [
  | true ↦ λ e. (and_parts (T k) (list_all T (filter P ks)) e).1
  | false ↦ λ e. e
]) h

first_passes : (T P : Kind → Bool) (k : Kind) (ks : List Kind) → list_all T (filter P (k ∷ ks)) ≡ true → P k ≡ true → T k ≡ true
first_passes T P k ks h p = (and_parts (T k) (list_all T (filter P ks)) (subst (λ b. list_all T (cond b (k ∷ filter P ks) (filter P ks)) ≡ true) p h)).0

not_true : (b : Bool) → not b ≡ true → b ≡ false
not_true true h = absurd (false≢true h)
not_true false h = refl

is_there : (b : Bool) → not b ≡ false → b ≡ true
is_there true h = refl
is_there false h = absurd (true≢false h)

found_any : (p : RmapRec → Bool) (rs : List RmapRec) → is_some (find p rs) ≡ list_any p rs
found_any p [] = refl
found_any p (r ∷ rs) = elim (p r) as (λ b. is_some (cond b (Some r) (find p rs)) ≡ (b || list_any p rs)) [ true ↦ refl | false ↦ found_any p rs ]

first_false : (x y : Bool) → (x || y) ≡ false → x ≡ false
first_false true y h = absurd (true≢false h)
first_false false y h = refl

-- what an edit takes out is there where nothing is met
losing_found : (r : RmapRec) (rs : List RmapRec) → is_fault (met_losing r rs) ≡ false → list_any (λ p. holds p r) rs ≡ true
losing_found r rs h = sym (found_any (λ p. holds p r) rs) ∙ is_there (is_some (find (λ p. holds p r) rs)) (first_false (met_losing r rs).lacks (met_losing r rs).meets h)

-- ---- an intent's record

there_by_kind : (k : IntentKind) (i : Intent) (recs : List RmapRec) → i.kind ≡ k → is_fault (met_mapping k i recs) ≡ false → takes k ≡ true → list_any (λ p. holds p (run_of i (word_taken i))) recs ≡ true
there_by_kind RmapRemove i recs e h t =
    subst (λ (j : IntentKind). list_any (λ p. holds p (run_of i (if is_change j then i.word + unwritten else i.word))) recs ≡ true) (sym e) (losing_found (run_of i i.word) recs h)
there_by_kind RmapChange i recs e h t =
    sym (found_any (λ p. holds p (run_of i (word_taken i))) recs) ∙ is_there (is_some (find (λ p. holds p (run_of i (word_taken i))) recs)) (first_false (met_mapping RmapChange i recs).lacks (met_mapping RmapChange i recs).meets h)
there_by_kind RmapAdd i recs e h t = absurd (false≢true t)
there_by_kind RefMore i recs e h t = absurd (false≢true t)
there_by_kind RefLess i recs e h t = absurd (false≢true t)
there_by_kind Free i recs e h t = absurd (false≢true t)

next_there : (is : List Intent) (recs : List RmapRec) → is_fault (met_by_next is recs) ≡ false → NextIsThere recs is
next_there [] recs h = tt
next_there (i ∷ is) recs h = λ t. there_by_kind i.kind i recs refl h t

edited_parts : (s o : Bool) → (if s then false else if o then false else true) ≡ true → (s ≡ false) × (o ≡ false)
edited_parts true o h = absurd (false≢true h)
edited_parts false true h = absurd (false≢true h)
edited_parts false false h = (refl, refl)

pub intent_found : IntentFound
unfolding leaves_faults
intent_found a x left c ino g at n m e =
    let f : Entry = entries.RmapDone c ino g at n in
    let p : Group = a.group g in
    let v = edited_parts (sick_in p Rmap) (is_among Rmap left) e in
    let edits : is_edited [] p Rmap ≡ true = ap (λ s. if s then false else true) v.0 in
    let passes : (is_among Rmap left || not (is_fault (met_by a f Rmap))) ≡ true = first_passes (λ k. is_among k left || not (is_fault (met_by a f k))) (is_edited [] p) Rmap [] m.met edits in
    next_there (a.chains c) (records_in p Rmap) (not_true (is_fault (met_by a f Rmap)) (sym (ap (λ o. o || not (is_fault (met_by a f Rmap))) v.1) ∙ passes))

-- ---- entries that leave no tree

met_all : (a x : State) (left : List Kind) (e : Entry) → IsMade a x left e → left ≡ [] → leaves_faults a [] e ≡ true
met_all a x left e m none = subst (λ ks. leaves_faults a ks e ≡ true) none m.met

held_there : (rs : List SpanRec) (run : SpanRec) → is_fault (met_taking rs run) ≡ false → is_some (holder_of rs run) ≡ true
held_there rs run h = is_there (is_some (holder_of rs run)) (first_false (met_taking rs run).lacks (met_taking rs run).meets h)

pub mapped_found : MappedFound
unfolding leaves_faults
mapped_found a x left m made e =
    let f : Entry = entries.Mapped m in
    let met : leaves_faults a [] f ≡ true = met_all a x left f made (none_left left made.leaves) in
    held_there (records_in (a.group m.group) Bno) (span m.block m.count) (not_true (is_fault (met_by a f Bno)) (first_passes (λ k. is_among k [] || not (is_fault (met_by a f k))) (is_edited [] (a.group m.group)) Bno (Cnt ∷ []) met e))

pub refilled_found : RefilledFound
unfolding leaves_faults
refilled_found a x left run made e =
    let f : Entry = entries.Refilled run in
    let met : leaves_faults a [] f ≡ true = met_all a x left f made (none_left left made.leaves) in
    held_there (records_in (a.group run.group) Bno) (span run.block run.count) (not_true (is_fault (met_by a f Bno)) (first_passes (λ k. is_among k [] || not (is_fault (met_by a f k))) (is_edited [] (a.group run.group)) Bno (Cnt ∷ Rmap ∷ []) met e))

pub chunk_found : ChunkFound
unfolding leaves_faults
chunk_found a x left writer ino uid c made e =
    let f : Entry = entries.Taken writer ino uid (Some c) in
    let p : Group = a.group (group_of_inode a ino) in
    let met : leaves_faults a [] f ≡ true = met_all a x left f made (none_left left made.leaves) in
    held_there (records_in p Bno) (span c 8) (not_true (is_fault (met_by a f Bno)) (first_passes (λ k. is_among k [] || not (is_fault (met_by a f k))) (is_edited [] p) Bno (Cnt ∷ Rmap ∷ Ino ∷ Fino ∷ []) met e))

pub listed_found : ListedFound
unfolding leaves_faults
listed_found a x left run made e =
    let f : Entry = entries.Trimmed run in
    let p : Group = a.group run.group in
    let T : Kind → Bool = λ k. is_among k [] || not (is_fault (met_by a f k)) in
    let met : leaves_faults a [] f ≡ true = met_all a x left f made (none_left left made.leaves) in
    losing_found (plain_run (number_of Ag) run) (records_in p Rmap)
    (not_true (is_fault (met_by a f Rmap)) (first_passes T (is_edited [] p) Rmap [] (all_behind T (is_edited [] p) Cnt (Rmap ∷ []) (all_behind T (is_edited [] p) Bno (Cnt ∷ Rmap ∷ []) met)) e))
