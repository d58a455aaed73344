-- A finished step of reverse mappings: they follow the settled owners.
use Rattle.std.proofs.Common.{◌≡◌, ℕ, zero, suc, ◌+◌, ◌<◌, ◌≤◌, ◌==◌, ◌&&◌, ◌||◌, Bool, true, false, cond, not, List, [], ◌∷◌, ◌++◌, filter, map, Contains, refl, ap, ap₂, sym, subst, ◌∙◌, inl, inr, arith}
use Rattle.std.specs.Prelude.{◌⊎◌, if◌then◌else◌}
use Rattle.std.proofs.lemmas.Bool.{cases_Bool, cases_order, eq-eqb, eqb-true, true≢false}
use Rattle.fs_change.proofs.Sets.{has_both, has_of, has_passing, has_set, of_has, same_is, same_self}
use Rattle.fs_change.proofs.Trees.{in_itself}
use Rattle.fs_change.specs.Chains.{given_by, gives, is_change, run_of, settled_forks, settled_own, taken_by, takes, tuples_in, tuples_of, word_taken}
use Rattle.fs_change.specs.Changes.{do_mapping, rmap_done}
use Rattle.fs_change.specs.Parts.{edit, is_edited, records_in, with_recs}
use Rattle.fs_change.specs.Records.{give_mapping, take_mapping}
use Rattle.fs_change.specs.Step.{Row}
use Rattle.fs_state.specs.Claims.{Claimed, metadata_claims, unwritten}
use Rattle.fs_state.specs.Derive.{mappings}
use Rattle.fs_state.specs.Lists.{numbers}
use Rattle.fs_state.specs.Own.{set_of, tuple_of}
use Rattle.fs_model.specs.declared.entry.Entry.TheVariants as entries
use Rattle.fs_state.specs.State.{State, Group, Readable, Reading, Unreadable, is_readable, recs_of}
use Rattle.fs_state.specs.declared.intent.Intent.{Intent}
use Rattle.fs_state.specs.declared.intent.IntentKind.{IntentKind}
use Rattle.fs_state.specs.declared.intent.IntentKind.TheVariants.{RmapAdd, RmapRemove, RmapChange, RefMore, RefLess, Free}
use Rattle.rmap_recs.specs.Rmap.{has_end}
use Rattle.rmap_recs.specs.Runs.{AreRuns, has, is_same, tuple_at}
use Rattle.rmap_recs.specs.declared.records.RmapRec.{RmapRec}
use Rattle.rmap_recs.specs.declared.tuples.Tuple.{Tuple}
use Rattle.run_edits.specs.EditLaws.{AreGiven, AreTaken, AreUntied, IsOf}
use Rattle.sblock.specs.declared.kind.Kind.{Kind}
use Rattle.sblock.specs.declared.kind.Kind.TheVariants.{Rmap}
use Rattle.law_accounts.specs.Account.Stated.{ChunksStay}
use Rattle.law_accounts.specs.Account.Steps.{IsWritten}
use Rattle.law_accounts.proofs.Account.Framed.{SameParts, edit_parts}
use Rattle.law_accounts.proofs.Account.Mappings.{edited_recs}
use Rattle.law_accounts.proofs.Edit.Mappings.{mapping_given, mapping_taken}
use Rattle.law_accounts.specs.Owner.Kept.{FinishedKeepsTold, ForksFollow, IsOwed, IsOwedNext}
use Rattle.law_accounts.specs.Owner.Told.{AreTold}
use Rattle.law_accounts.proofs.Owner.Members.{has_metadata, metadata_same, settled_is}

-- ---- the tuples of a run

in_numbers : (r : RmapRec) (from n : ℕ) (t : Tuple) → has (map (tuple_at r) (numbers from n)) t ≡ true → (i : ℕ) × (from ≤ i) × (i < from + n) × (tuple_at r i ≡ t)
in_numbers r from zero t h = absurd (true≢false (sym h))
in_numbers r from (suc n) t h = (elim (is_same t (tuple_at r from)) as (λ b. is_same t (tuple_at r from) ≡ b → (b || has (map (tuple_at r) (numbers (from + 1) n)) t) ≡ true → (i : ℕ) × (from ≤ i) × (i < from + suc n) × (tuple_at r i ≡ t)) [
  | true ↦ λ e i. (from, omega arith, omega arith, sym (same_is t (tuple_at r from) e))
  | false ↦ λ e i. let on = in_numbers r (from + 1) n t i in let low = on.1 in let high = on.2 in (on.0, omega (arith, low), omega (arith, high), on.3)
]) refl h

numbers_have : (r : RmapRec) (from n i : ℕ) → from ≤ i → i < from + n → has (map (tuple_at r) (numbers from n)) (tuple_at r i) ≡ true
numbers_have r from zero i low high = absurd (omega (arith, low, high))
numbers_have r from (suc n) i low high = by (cases_order i from) (λ behind. numbers_have r (from + 1) n i behind (omega (arith, high)))
  where
    or_true : (x y : Bool) → y ≡ true → (x || y) ≡ true
    or_true true y e = refl
    or_true false y e = e

    by : (i ≡ from) ⊎ ((i < from) ⊎ (from < i)) → (from + 1 ≤ i → has (map (tuple_at r) (numbers (from + 1) n)) (tuple_at r i) ≡ true) → has (map (tuple_at r) (numbers from (suc n))) (tuple_at r i) ≡ true
    by (inl same) again = ap (λ (b : Bool). b || has (map (tuple_at r) (numbers (from + 1) n)) (tuple_at r i)) (ap (λ (j : ℕ). is_same (tuple_at r i) (tuple_at r j)) (sym same) ∙ same_self (tuple_at r i))
    by (inr (inl less)) again = absurd (omega (arith, less, low))
    by (inr (inr more)) again = or_true (is_same (tuple_at r i) (tuple_at r from)) (has (map (tuple_at r) (numbers (from + 1) n)) (tuple_at r i)) (again (omega (arith, more)))

pub run_of_has : (r : RmapRec) (t : Tuple) → has (tuples_of r) t ≡ true → IsOf r t
run_of_has r t h = let on = in_numbers r 0 r.count t h in let high = on.2 in (on.0, omega (arith, high), on.3)

pub has_run : (r : RmapRec) (t : Tuple) → IsOf r t → has (tuples_of r) t ≡ true
has_run r t of = let low = of.1 in subst (λ (u : Tuple). has (tuples_of r) u ≡ true) of.2 (numbers_have r 0 r.count of.0 (omega arith) (omega (arith, low)))

-- ---- sets that gain a run, and that lose one

module _ (ts us : List Tuple) (r : RmapRec) where
  pub run_given : ((t : Tuple) → has (tuples_of r) t ≡ true → has ts t ≡ false) → ((t : Tuple) → has us t ≡ (has ts t || has (tuples_of r) t)) → AreGiven ts us r
  run_given new each = record {
    new = λ t of c. true≢false (sym (has_of ts t c) ∙ new t (has_run r t of));
    kept = λ t c. of_has us t (each t ∙ ap (λ (b : Bool). b || has (tuples_of r) t) (has_of ts t c));
    given = λ t of. of_has us t (each t ∙ or_true (has ts t) (has (tuples_of r) t) (has_run r t of));
    only = λ t c. either t (sym (each t) ∙ has_of us t c);
  }
    where
      or_true : (x y : Bool) → y ≡ true → (x || y) ≡ true
      or_true true y e = refl
      or_true false y e = e

      either : (t : Tuple) → (has ts t || has (tuples_of r) t) ≡ true → Contains ts t ⊎ IsOf r t
      either t h = elim (cases_Bool (has ts t)) [
        | inl old ↦ inl (of_has ts t old)
        | inr no_old ↦ inr (run_of_has r t (sym (ap (λ (b : Bool). b || has (tuples_of r) t) no_old) ∙ h))
      ]

  pub run_taken : ((t : Tuple) → has (tuples_of r) t ≡ true → has ts t ≡ true) → ((t : Tuple) → has us t ≡ (has ts t && not (has (tuples_of r) t))) → AreTaken ts us r
  run_taken there each = record {
    there = λ t of. of_has ts t (there t (has_run r t of));
    kept = λ t c out. of_has us t (each t ∙ ap₂ (λ (x y : Bool). x && not y) (has_of ts t c) (none (has (tuples_of r) t) (λ h. out (run_of_has r t h))));
    only = λ t c.
        let p = parts (has ts t) (has (tuples_of r) t) (sym (each t) ∙ has_of us t c) in
        (of_has ts t p.0, λ of. true≢false (sym (has_run r t of) ∙ p.1));
  }
    where
      none : (b : Bool) → (b ≡ true → ⊥) → b ≡ false
      none true f = absurd (f refl)
      none false f = refl

      parts : (x y : Bool) → (x && not y) ≡ true → (x ≡ true) × (y ≡ false)
      parts true true h = absurd (true≢false (sym h))
      parts true false h = (refl, refl)
      parts false y h = absurd (true≢false (sym h))

-- ---- what an intent gives and takes in its group

own_tuples : (i : Intent) (word : ℕ) → tuples_in i.group i word ≡ tuples_of (run_of i word)
own_tuples i word = ap (λ (b : Bool). if b then tuples_of (run_of i word) else []) (eq-eqb i.group i.group refl)

gives_own : (i : Intent) (b : Bool) → gives i.kind ≡ b → given_by i.group i ≡ (if b then tuples_of (run_of i i.word) else [])
gives_own i b h = ap (λ (k : Bool). if k then tuples_in i.group i i.word else []) h ∙ ap (λ (ts : List Tuple). if b then ts else []) (own_tuples i i.word)

takes_own : (i : Intent) (b : Bool) → takes i.kind ≡ b → taken_by i.group i ≡ (if b then tuples_of (run_of i (word_taken i)) else [])
takes_own i b h = ap (λ (k : Bool). if k then tuples_in i.group i (word_taken i) else []) h ∙ ap (λ (ts : List Tuple). if b then ts else []) (own_tuples i (word_taken i))

run_owner : (i : Intent) (word : ℕ) (t : Tuple) → has (tuples_of (run_of i word)) t ≡ true → t.owner ≡ i.ino
run_owner i word t h = let of = run_of_has (run_of i word) t h in ap (λ (u : Tuple). u.owner) (sym of.2)

-- ---- one intent

module _ (a b : State) (i : Intent) (owed : IsOwed a b i.group i) (metadata : (t : Tuple) → has_metadata b i.group t ≡ has_metadata a i.group t)
    (follow : settled_forks b i.group ≡ set_of (filter (λ t. not (has (taken_by i.group i) t)) (settled_forks a i.group) ++ given_by i.group i)) (told : AreTold a i.group) where
  abbrev g : ℕ
  g = i.group

  abbrev ts : List Tuple
  ts = settled_own a i.group

  abbrev us : List Tuple
  us = settled_own b i.group

  abbrev m : Tuple → Bool
  m t = has_metadata a i.group t

  abbrev f : Tuple → Bool
  f t = has (settled_forks a i.group) t

  was : (t : Tuple) → has ts t ≡ (has_metadata a i.group t || has (settled_forks a i.group) t)
  was t = settled_is a i.group t

  is_now : (t : Tuple) → has us t ≡ (has_metadata a i.group t || ((has (settled_forks a i.group) t && not (has (taken_by i.group i) t)) || has (given_by i.group i) t))
  is_now t =
      settled_is b i.group t
      ∙ ap₂ (λ (x y : Bool). x || y) (metadata t)
      (ap (λ (xs : List Tuple). has xs t) follow ∙ has_set (filter (λ u. not (has (taken_by i.group i) u)) (settled_forks a i.group) ++ given_by i.group i) t
      ∙ has_both (filter (λ u. not (has (taken_by i.group i) u)) (settled_forks a i.group)) (given_by i.group i) t
      ∙ ap (λ (x : Bool). x || has (given_by i.group i) t) (has_passing (λ u. not (has (taken_by i.group i) u)) (settled_forks a i.group) t))

  no_metadata : (word : ℕ) (t : Tuple) → has (tuples_of (run_of i word)) t ≡ true → has_metadata a i.group t ≡ false
  no_metadata word t h = owed.alien t (run_owner i word t h)

  -- a gift alone
  only_gives : gives i.kind ≡ true → takes i.kind ≡ false → AreRuns us (give_mapping (run_of i i.word) (mappings a i.group))
  only_gives gi ta =
      let new : List Tuple = tuples_of (run_of i i.word) in
      let given_is : given_by i.group i ≡ new = gives_own i true gi in
      let taken_is : taken_by i.group i ≡ [] = takes_own i false ta in
      mapping_given ts us (mappings a i.group) (run_of i i.word) owed.given_end owed.untied
      (run_given ts us (run_of i i.word)
      (λ t h. was t ∙ ap₂ (λ (x y : Bool). x || y) (no_metadata i.word t h) (owed.fresh t (ap (λ (xs : List Tuple). has xs t) given_is ∙ h)))
      (λ t. is_now t ∙ ap₂ (λ (xs ys : List Tuple). has_metadata a i.group t || ((has (settled_forks a i.group) t && not (has xs t)) || has ys t)) taken_is given_is
      ∙ plain (has_metadata a i.group t) (has (settled_forks a i.group) t) (has new t) ∙ ap (λ (x : Bool). x || has new t) (sym (was t)))) told
    where
      plain : (x y z : Bool) → (x || ((y && not false) || z)) ≡ ((x || y) || z)
      plain true y z = refl
      plain false true z = refl
      plain false false z = refl

  -- a loss alone
  only_takes : gives i.kind ≡ false → takes i.kind ≡ true → AreRuns us (take_mapping (run_of i (word_taken i)) (mappings a i.group))
  only_takes gi ta =
      let old : List Tuple = tuples_of (run_of i (word_taken i)) in
      let given_is : given_by i.group i ≡ [] = gives_own i false gi in
      let taken_is : taken_by i.group i ≡ old = takes_own i true ta in
      mapping_taken ts us (mappings a i.group) (run_of i (word_taken i)) owed.taken_end owed.untied
      (run_taken ts us (run_of i (word_taken i))
      (λ t h. was t ∙ or_true (has_metadata a i.group t) (has (settled_forks a i.group) t) (owed.there t (ap (λ (xs : List Tuple). has xs t) taken_is ∙ h)))
      (λ t. is_now t ∙ ap₂ (λ (xs ys : List Tuple). has_metadata a i.group t || ((has (settled_forks a i.group) t && not (has xs t)) || has ys t)) taken_is given_is
      ∙ left_over (has_metadata a i.group t) (has (settled_forks a i.group) t) (has old t) (no_metadata (word_taken i) t) ∙ ap (λ (x : Bool). x && not (has old t)) (sym (was t)))) told
    where
      or_true : (x y : Bool) → y ≡ true → (x || y) ≡ true
      or_true true y e = refl
      or_true false y e = e

      left_over : (x y z : Bool) → (z ≡ true → x ≡ false) → (x || ((y && not z) || false)) ≡ ((x || y) && not z)
      left_over true y true h = absurd (true≢false (h refl))
      left_over true y false h = refl
      left_over false true true h = refl
      left_over false true false h = refl
      left_over false false true h = refl
      left_over false false false h = refl

  -- both: the old ones go first
  abbrev middle : List Tuple
  middle = filter (λ t. not (has (tuples_of (run_of i (word_taken i))) t)) (settled_own a i.group)

  takes_then_gives : gives i.kind ≡ true → takes i.kind ≡ true → AreRuns us (give_mapping (run_of i i.word) (take_mapping (run_of i (word_taken i)) (mappings a i.group)))
  takes_then_gives gi ta =
      let old : List Tuple = tuples_of (run_of i (word_taken i)) in
      let new : List Tuple = tuples_of (run_of i i.word) in
      let given_is : given_by i.group i ≡ new = gives_own i true gi in
      let taken_is : taken_by i.group i ≡ old = takes_own i true ta in
      let mid : (t : Tuple) → has middle t ≡ (has ts t && not (has old t)) = λ t. has_passing (λ u. not (has old u)) ts t in
      let gift : AreGiven middle us (run_of i i.word) = run_given middle us (run_of i i.word)
      (λ t h. mid t ∙ ap (λ (x : Bool). x && not (has old t)) (was t ∙ ap₂ (λ (x y : Bool). x || y) (no_metadata i.word t h) (owed.fresh t (ap (λ (xs : List Tuple). has xs t) given_is ∙ h))))
      (λ t. is_now t ∙ ap₂ (λ (xs ys : List Tuple). has_metadata a i.group t || ((has (settled_forks a i.group) t && not (has xs t)) || has ys t)) taken_is given_is
      ∙ both (has_metadata a i.group t) (has (settled_forks a i.group) t) (has old t) (has new t) (no_metadata (word_taken i) t)
      ∙ ap (λ (x : Bool). x || has new t) (sym (mid t ∙ ap (λ (x : Bool). x && not (has old t)) (was t)))) in
      mapping_given middle us (take_mapping (run_of i (word_taken i)) (mappings a i.group)) (run_of i i.word) owed.given_end owed.untied gift
      (mapping_taken ts middle (mappings a i.group) (run_of i (word_taken i)) owed.taken_end (λ t u c d. owed.untied t u (gift.kept t c) (gift.kept u d))
      (run_taken ts middle (run_of i (word_taken i)) (λ t h. was t ∙ or_true (has_metadata a i.group t) (has (settled_forks a i.group) t) (owed.there t (ap (λ (xs : List Tuple). has xs t) taken_is ∙ h))) mid) told)
    where
      or_true : (x y : Bool) → y ≡ true → (x || y) ≡ true
      or_true true y e = refl
      or_true false y e = e

      both : (x y z w : Bool) → (z ≡ true → x ≡ false) → (x || ((y && not z) || w)) ≡ (((x || y) && not z) || w)
      both true y true w h = absurd (true≢false (h refl))
      both true y false w h = refl
      both false true true w h = refl
      both false true false w h = refl
      both false false true w h = refl
      both false false false w h = refl

  by_kind : (k : IntentKind) → i.kind ≡ k → (gives k || takes k) ≡ true → AreRuns us (do_mapping k i (mappings a i.group))
  by_kind RmapAdd e h = only_gives (ap gives e) (ap takes e)
  by_kind RmapRemove e h = subst (λ (w : ℕ). AreRuns us (take_mapping (run_of i w) (mappings a i.group))) (ap (λ (t : Bool). if t then i.word + unwritten else i.word) (ap is_change e)) (only_takes (ap gives e) (ap takes e))
  by_kind RmapChange e h = takes_then_gives (ap gives e) (ap takes e)
  by_kind RefMore e h = absurd (true≢false (sym h))
  by_kind RefLess e h = absurd (true≢false (sym h))
  by_kind Free e h = absurd (true≢false (sym h))

-- ---- the entry

done_group : (left : List Kind) (c : ℕ) (i : Intent) (rest : List Intent) (a : State) → (rmap_done left c i rest a).group i.group ≡ edit left Rmap (do_mapping i.kind i) (a.group i.group)
unfolding rmap_done
done_group left c i rest a = in_itself i.group (edit left Rmap (do_mapping i.kind i)) a

done_at : (left : List Kind) (c : ℕ) (i : Intent) (rest : List Intent) (a : State) → (rmap_done left c i rest a).geometry ≡ a.geometry
unfolding rmap_done
done_at left c i rest a = refl

done_told : (a : State) (left : List Kind) (c : ℕ) (i : Intent) (rest : List Intent) (g : ℕ) → i.group ≡ g → (gives i.kind || takes i.kind) ≡ true → ChunksStay a (rmap_done left c i rest a) → IsWritten left (a.group g)
    → IsOwed a (rmap_done left c i rest a) g i → settled_forks (rmap_done left c i rest a) g ≡ set_of (filter (λ t. not (has (taken_by g i) t)) (settled_forks a g) ++ given_by g i) → AreTold a g → AreTold (rmap_done left c i rest a) g
done_told a left c i rest g same kind stay w owed follow told =
    subst (λ (m : ℕ). IsWritten left (a.group m) → IsOwed a x m i → settled_forks x m ≡ set_of (filter (λ t. not (has (taken_by m i) t)) (settled_forks a m) ++ given_by m i) → AreTold a m → AreTold x m) same own_told w owed follow told
  where
    x : State
    x = rmap_done left c i rest a

    own_told : IsWritten left (a.group i.group) → IsOwed a x i.group i → settled_forks x i.group ≡ set_of (filter (λ t. not (has (taken_by i.group i) t)) (settled_forks a i.group) ++ given_by i.group i) → AreTold a i.group → AreTold x i.group
    own_told v o f t =
        let now : x.group i.group ≡ edit left Rmap (do_mapping i.kind i) (a.group i.group) = done_group left c i rest a in
        let parts : SameParts (a.group i.group) (x.group i.group) = subst (SameParts (a.group i.group)) (sym now) (edit_parts left Rmap (do_mapping i.kind i) (a.group i.group)) in
        let metadata : (u : Tuple) → has_metadata x i.group u ≡ has_metadata a i.group u = λ u. ap (λ (cs : List Claimed). has (map tuple_of cs) u) (metadata_same a x i.group (done_at left c i rest a) stay parts) in
        let maps : mappings x i.group ≡ do_mapping i.kind i (mappings a i.group) = ap (λ (p : Group). records_in p Rmap) now ∙ edited_recs left (do_mapping i.kind i) (a.group i.group) v in
        subst (AreRuns (settled_own x i.group)) (sym maps) (by_kind a x i o metadata f t i.kind refl kind)

pub finished_keeps : FinishedKeepsTold
finished_keeps a x left c ino g block n row stay w owed follow told =
    let i : Intent = row.0 in
    let rest : List Intent = row.1 in
    let next = row.2 in
    let y : State = rmap_done left c i rest a in
    let is : x ≡ y = row.6 in
    subst (λ (z : State). AreTold z g) (sym is)
    (done_told a left c i rest g next.group row.3 (subst (ChunksStay a) is stay) w
    (subst (λ (z : State). IsOwed a z g i) is (subst (IsOwedNext a x g) next.next owed))
    (subst (λ (z : State). settled_forks z g ≡ set_of (filter (λ t. not (has (taken_by g i) t)) (settled_forks a g) ++ given_by g i)) is (subst (ForksFollow a x g) next.next follow))
    told)
