-- Both inode btrees follow each entry of a writer.
use Rattle.std.proofs.Common.{◌≡◌, ℕ, ◌+◌, ◌*◌, ◌^◌, ◌<◌, ◌==◌, ◌&&◌, ◌||◌, Bool, true, false, not, cond, nat_le, nat_lt, List, [], ◌∷◌, map, filter, Option, Some, None, refl, sym, ap, ap₂, subst, ◌∙◌, arith, eqb-true, eq-eqb}
use Rattle.std.specs.Prelude.{◌/◌, ◌%◌, find, length, option_map, if◌then◌else◌}
use Rattle.std.specs.Option.{option_or}
use Rattle.std.proofs.lemmas.Bool.{false≢true, true≢false, and_parts}
use Rattle.std.proofs.lemmas.Bool.Decides.{nat_tests}
use Rattle.law_writers.proofs.Change.Made.{MadeAt, chunk_is_made, made_at}
use Rattle.law_writers.proofs.Change.Newly.{none_before}
use Rattle.law_writers.proofs.Change.Rows.{step_keeps_chunks}
use Rattle.fs_change.proofs.Alike.{recs_at}
use Rattle.fs_change.proofs.Beside as beside
use Rattle.fs_change.proofs.Inodes as inodes
use Rattle.fs_change.proofs.Trees.{edited, given_owner, in_itself, spaced}
use Rattle.fs_change.proofs.Trees as trees
use Rattle.fs_change.specs.Changes.{changes_count, chunk_extent, converted, core_with, data_of, file_mode, free_chunk, freed_core, give_owner, given, inodes_follow, list_chunk, make_chunk, mapped, marked, shared, shares_blocks, take_free, taken, turn, unmapped}
use Rattle.fs_change.specs.Choice.{chunk_run, extent, first_free, first_in, free_inode, group_or_first, inode_kinds, inode_of, is_free_unit, is_usable, none_sick}
use Rattle.fs_change.specs.Laws.{StaysBeside, with_owners}
use Rattle.fs_change.specs.Parts.{at_only, change_tree, edit, in_group, is_place, is_sick, records_in, set_trust, sick_in, stands_in, with_recs}
use Rattle.fs_change.specs.Records.{follow_inode, is_unwritten_at, put_chunk, turn_inode}
use Rattle.fs_change.specs.Step.{HasSame, Row, Step, edited_in, group_of_entry, group_of_inode, is_allocated}
use Rattle.fs_state.specs.Chunks.{chunks, inode_in}
use Rattle.fs_state.specs.Derive.{fino_of, ino_of, is_free}
use Rattle.fs_state.specs.Lists.{numbers}
use Rattle.fs_model.specs.declared.entry.Entry.{Entry}
use Rattle.fs_model.specs.declared.entry.Entry.TheVariants as entries
use Rattle.fs_model.specs.declared.entry.Extent.{Extent}
use Rattle.fs_model.specs.declared.entry.Piece.{Piece}
use Rattle.fs_model.specs.declared.entry.SharedPiece.{SharedPiece}
use Rattle.fs_model.specs.declared.unit.Trust.TheVariants.{Sick}
use Rattle.fs_state.specs.Group.{is_among}
use Rattle.fs_state.specs.Apart.{is_chunk, is_inode, verifies}
use Rattle.fs_state.specs.State.{Broken, CoreState, Group, Readable, Reading, State, Unreadable, Whole, is_readable, recs_of}
use Rattle.geom.specs.Apart.{HasFitting}
use Rattle.geom.specs.Layout.{Layout, group_len_of, inode_at, split_of}
use Rattle.ino_recs.specs.declared.chunk.InoRec.{InoRec}
use Rattle.rmap_recs.specs.Owners.{number_of}
use Rattle.rmap_recs.specs.declared.owner.Owner.TheVariants.{Inodes}
use Rattle.sblock.specs.declared.kind.Kind.{Kind}
use Rattle.sblock.specs.declared.kind.Kind.TheVariants.{Bno, Cnt, Rmap, Refc, Ino, Fino}
use Rattle.law_writers.proofs.Inode.Cores.{chunk_inode, chunk_put, chunk_verifies, chunks_by, fino_is, free_in, ino_is, leads, open_records, own_chunks, rise_filter, turned_filter, unit_number}
use Rattle.law_writers.proofs.Inode.Turned.{AreTurned, IsTurned, Rise, follows, over, rec_of, sum_same, turn_all}
use Rattle.law_writers.specs.Inode.Listed.{AreListed, ChunkListed, GivenListed, LeavesInodes, OthersListed, TakenListed}

abbrev has_free : InoRec → Bool
has_free r = nat_lt 0 r.freecount

no_true : (b : Bool) → (b ≡ true → ⊥) → b ≡ false
no_true true h = absurd (h refl)
no_true false h = refl

-- ---- edits of both inode btrees

recs_with : (new : List InoRec) (r : Reading InoRec) → is_readable r ≡ true → recs_of (with_recs new r) ≡ new
recs_with new (Readable old blocks) h = refl
recs_with new (Unreadable block fault claims) h = absurd (false≢true h)

still_read : (new : List InoRec) (r : Reading InoRec) → is_readable r ≡ true → is_readable (with_recs new r) ≡ true
still_read new (Readable old blocks) h = refl
still_read new (Unreadable block fault claims) h = absurd (false≢true h)

abbrev both_sound : Group → Type 0
both_sound p = (sick_in p Ino ≡ false) × (sick_in p Fino ≡ false) × (is_readable (p.tree Ino).reading ≡ true) × (is_readable (p.tree Fino).reading ≡ true)

abbrev with_inos : (List InoRec → List InoRec) → Group → Group
with_inos f p = change_tree Ino (λ i. record i { reading = with_recs (f (recs_of i.reading)) i.reading }) p

abbrev with_finos : (List InoRec → List InoRec) → Group → Group
with_finos f p = change_tree Fino (λ i. record i { reading = with_recs (f (recs_of i.reading)) i.reading }) p

-- where both are sound, both edits are made
module _ (f k : List InoRec → List InoRec) (p : Group) (w : both_sound p) where
  abbrev both_edited : Group
  both_edited = edit [] Fino k (edit [] Ino f p)

  both_are : both_edited ≡ with_finos k (with_inos f p)
  both_are =
      ap (λ t. edit [] Fino k (if (if t then false else true) then with_inos f p else p)) w.0
      ∙ ap (λ t. if (if t then false else true) then with_finos k (with_inos f p) else with_inos f p) w.1

  inos_are : records_in both_edited Ino ≡ f (records_in p Ino)
  inos_are = ap (λ (q : Group). records_in q Ino) both_are ∙ recs_with (f (records_in p Ino)) (p.tree Ino).reading w.2

  finos_are : records_in both_edited Fino ≡ k (records_in p Fino)
  finos_are = ap (λ (q : Group). records_in q Fino) both_are ∙ recs_with (k (records_in p Fino)) (p.tree Fino).reading w.3

  still_sound : both_sound both_edited
  still_sound = subst both_sound (sym both_are) (w.0, w.1, still_read (f (records_in p Ino)) (p.tree Ino).reading w.2, still_read (k (records_in p Fino)) (p.tree Fino).reading w.3)

-- ---- what is behind an entry

behind_inos : (a b : State) (g : ℕ) (us : List ℕ) → b.geometry ≡ a.geometry → chunks b g ≡ us → ino_of b g ≡ map (rec_of 64 (free_in b.core a.geometry.agblklog g)) us
behind_inos a b g us at cs = ino_is b g ∙ (λ i. map (rec_of 64 (free_in b.core (at i).agblklog g)) (cs i))

behind_finos : (a b : State) (g : ℕ) (us : List ℕ) → b.geometry ≡ a.geometry → chunks b g ≡ us → fino_of b g ≡ filter has_free (map (rec_of 64 (free_in b.core a.geometry.agblklog g)) us)
behind_finos a b g us at cs = fino_is b g ∙ (λ i. filter has_free (map (rec_of 64 (free_in b.core (at i).agblklog g)) (cs i)))

-- the inode is one of b, by its number in a
inode_behind : (a b : State) (g u j : ℕ) → HasFitting a.geometry → b.geometry ≡ a.geometry → is_chunk b g u ≡ true → j < 64 → is_inode b (inode_in a g u j) ≡ true
inode_behind a b g u j fit at c l = subst (λ (x : Layout). is_inode b (inode_at x g (8 * u + j / 8) (j % 8)) ≡ true) at (chunk_inode b g u j (subst HasFitting (sym at) fit) c l)

leads_behind : (a b : State) (g u j : ℕ) → HasFitting a.geometry → b.geometry ≡ a.geometry → is_chunk b g u ≡ true → j < 64 → split_of a.geometry (inode_in a g u j / 8) ≡ Some (g, 8 * u + j / 8)
leads_behind a b g u j fit at c l = subst (λ (x : Layout). split_of x (inode_at x g (8 * u + j / 8) (j % 8) / 8) ≡ Some (g, 8 * u + j / 8)) at (leads b g u j (subst HasFitting (sym at) fit) c l)

-- ---- groups whose chunks and inodes stay

unit_same : (f k : ℕ → Bool) (u : ℕ) → ((j : ℕ) → j < 64 → k (64 * u + j) ≡ f (64 * u + j)) → rec_of 64 k u ≡ rec_of 64 f u
unit_same f k u e =
    let each : (w : ℕ → ℕ) → over 64 k w u ≡ over 64 f w u = λ w. sum_same _ _ 0 64 (λ j l m. ap (λ b. if b then w j else 0) (e j m)) in
    λ p. record { startino = 64 * u; holemask = 0; count = 64; freecount = each (λ j. 1) p; free = each (λ j. 2 ^ j) p }

units_same : (f k : ℕ → InoRec) (p : ℕ → Bool) (us : List ℕ) → ((u : ℕ) → p u ≡ true → k u ≡ f u) → map k (filter p us) ≡ map f (filter p us)
units_same f k p [] e = refl
units_same f k p (u ∷ us) e = (elim (p u) as (λ b. p u ≡ b → map k (cond b (u ∷ filter p us) (filter p us)) ≡ map f (cond b (u ∷ filter p us) (filter p us))) [
  | true ↦ λ h. ap₂ (λ (x : InoRec) (xs : List InoRec). x ∷ xs) (e u h) (units_same f k p us e)
  | false ↦ λ h. units_same f k p us e
]) refl

pub listed_stay : (a b : State) (h : ℕ) → b.geometry ≡ a.geometry → ((u : ℕ) → is_chunk b h u ≡ is_chunk a h u)
    → ((u j : ℕ) → is_chunk a h u ≡ true → j < 64 → is_free (b.core (inode_in a h u j)) ≡ is_free (a.core (inode_in a h u j)))
    → records_in (b.group h) Ino ≡ records_in (a.group h) Ino → records_in (b.group h) Fino ≡ records_in (a.group h) Fino → AreListed a h → AreListed b h
listed_stay a b h at cs free inos finos l =
    let old : ℕ → InoRec = rec_of 64 (free_in a.core a.geometry.agblklog h) in
    let new : ℕ → InoRec = rec_of 64 (free_in b.core a.geometry.agblklog h) in
    let here : chunks b h ≡ chunks a h = chunks_by a b h (is_chunk a h) at cs ∙ sym (own_chunks a h) in
    let now : map new (chunks a h) ≡ map old (chunks a h) =
    ap (map new) (own_chunks a h)
    ∙ units_same old new (is_chunk a h) (numbers 0 (group_len_of a.geometry h / 8)) (λ u c.
    unit_same (free_in a.core a.geometry.agblklog h) (free_in b.core a.geometry.agblklog h) u (λ j m. subst (λ n. is_free (b.core n) ≡ is_free (a.core n)) (unit_number a h u j) (free u j c m)))
    ∙ ap (map old) (sym (own_chunks a h)) in
    record {
      inodes = inos ∙ l.inodes ∙ ino_is a h ∙ sym now ∙ sym (behind_inos a b h (chunks a h) at here);
      free = finos ∙ l.free ∙ fino_is a h ∙ ap (filter has_free) (sym now) ∙ sym (behind_finos a b h (chunks a h) at here);
    }

-- ---- one inode of a chunk that is there turns

record TurnsOne (a b : State) (g i own : ℕ) (to_free : Bool) : Type 0 where
  pub geometry : b.geometry ≡ a.geometry
  pub chunks : (h u : ℕ) → is_chunk b h u ≡ is_chunk a h u
  pub group : group_of_inode a own ≡ g
  pub number : own ≡ inode_of a g i
  pub others : (n : ℕ) → (n == own) ≡ false → is_inode b n ≡ true → b.core n ≡ a.core n
  pub before : is_free (a.core own) ≡ not to_free
  pub behind : is_inode b own ≡ true → verifies (a.core own) ≡ true → is_free (b.core own) ≡ to_free
  pub inos : records_in (b.group g) Ino ≡ turn_inode to_free i (records_in (a.group g) Ino)
  pub finos : records_in (b.group g) Fino ≡ follow_inode i (turn_inode to_free i (records_in (a.group g) Ino)) (records_in (a.group g) Fino)
  pub away : (h : ℕ) → (h == g) ≡ false → b.group h ≡ a.group h

own_number : (a : State) (g i : ℕ) → inode_of a g i ≡ g * 2 ^ a.geometry.agblklog * 8 + i
own_number a g i = by (g * 2 ^ a.geometry.agblklog) i
  where
    by : (x i : ℕ) → (x + i / 8) * 8 + i % 8 ≡ x * 8 + i
    by x i = omega arith

differ : (x m i n own : ℕ) → n ≡ x + m → own ≡ x + i → (m == i) ≡ false → (n == own) ≡ false
differ x m i n own e f h = grind (arith, nat_tests)

-- inodes of other groups are others
in_other : (a : State) (h g u j own : ℕ) → split_of a.geometry (inode_in a h u j / 8) ≡ Some (h, 8 * u + j / 8) → group_of_inode a own ≡ g → (h == g) ≡ false → (inode_in a h u j == own) ≡ false
in_other a h g u j own place is out = no_true (inode_in a h u j == own) (λ e.
    let same : inode_in a h u j ≡ own = eqb-true (inode_in a h u j) own e in
    let there : h ≡ g = ap group_or_first (sym place) ∙ ap (λ n. group_or_first (split_of a.geometry (n / 8))) same ∙ is in
    true≢false (sym (eq-eqb h g there) ∙ out))

-- what both btrees hold of a group whose one inode turned
finish : (b : State) (g i l : ℕ) (to_free : Bool) (f : ℕ → Bool) (us : List ℕ) (inos finos : List InoRec) → inos ≡ map (rec_of 64 f) us → finos ≡ filter has_free (map (rec_of 64 f) us) → Rise 0 us
    → AreTurned 64 refl to_free i f (free_in b.core l g) us → records_in (b.group g) Ino ≡ turn_inode to_free i inos → records_in (b.group g) Fino ≡ follow_inode i (turn_inode to_free i inos) finos
    → ino_of b g ≡ map (rec_of 64 (free_in b.core l g)) us → fino_of b g ≡ filter has_free (map (rec_of 64 (free_in b.core l g)) us) → AreListed b g
finish b g i l to_free f us inos finos is fs rise t e k now fnow =
    let turned : turn_inode to_free i inos ≡ map (rec_of 64 (free_in b.core l g)) us = ap (turn_inode to_free i) is ∙ turn_all 64 refl to_free i f (free_in b.core l g) us t in
    record {
      inodes = e ∙ turned ∙ sym now;
      free = k ∙ ap₂ (λ (xs ys : List InoRec). follow_inode i xs ys) turned fs ∙ follows 64 refl to_free i f (free_in b.core l g) us rise t ∙ sym fnow;
    }

one_turned : (a b : State) (g i own h : ℕ) (to_free : Bool) → HasFitting a.geometry → TurnsOne a b g i own to_free → AreListed a h → AreListed b h
one_turned a b g i own h to_free fit t l = by (h == g) refl
  where
    chunk_now : (u : ℕ) → is_chunk a g u ≡ true → is_chunk b g u ≡ true
    chunk_now u c = t.chunks g u ∙ c

    each : (u : ℕ) → is_chunk a g u ≡ true → IsTurned to_free i (free_in a.core a.geometry.agblklog g) (free_in b.core a.geometry.agblklog g) u
    each u c = record {
      others = λ j m out.
          let n : ℕ = inode_in a g u j in
          let away : (n == own) ≡ false = differ (g * 2 ^ a.geometry.agblklog * 8) (64 * u + j) i n own (unit_number a g u j) (t.number ∙ own_number a g i) out in
          subst (λ k. is_free (b.core k) ≡ is_free (a.core k)) (unit_number a g u j) (ap is_free (t.others n away (inode_behind a b g u j fit t.geometry (chunk_now u c) m)));
      before = λ j m e. ap (λ k. is_free (a.core (g * 2 ^ a.geometry.agblklog * 8 + k))) e ∙ ap (λ k. is_free (a.core k)) (sym (t.number ∙ own_number a g i)) ∙ t.before;
      behind = λ j m e.
          let same : inode_in a g u j ≡ own = unit_number a g u j ∙ ap (λ k. g * 2 ^ a.geometry.agblklog * 8 + k) e ∙ sym (t.number ∙ own_number a g i) in
          ap (λ k. is_free (b.core k)) (sym (unit_number a g u j) ∙ same)
          ∙ t.behind (subst (λ k. is_inode b k ≡ true) same (inode_behind a b g u j fit t.geometry (chunk_now u c) m)) (subst (λ k. verifies (a.core k) ≡ true) same (chunk_verifies a g u j c m));
    }

    here : chunks b g ≡ filter (is_chunk a g) (numbers 0 (group_len_of a.geometry g / 8))
    here = chunks_by a b g (is_chunk a g) t.geometry (t.chunks g)

    own_group : AreListed a g → AreListed b g
    own_group k =
        finish b g i a.geometry.agblklog to_free (free_in a.core a.geometry.agblklog g) (filter (is_chunk a g) (numbers 0 (group_len_of a.geometry g / 8))) (records_in (a.group g) Ino) (records_in (a.group g) Fino)
        (k.inodes ∙ ino_is a g ∙ ap (map (rec_of 64 (free_in a.core a.geometry.agblklog g))) (own_chunks a g))
        (k.free ∙ fino_is a g ∙ ap (λ vs. filter has_free (map (rec_of 64 (free_in a.core a.geometry.agblklog g)) vs)) (own_chunks a g))
        (rise_filter (is_chunk a g) 0 (group_len_of a.geometry g / 8))
        (turned_filter to_free i (free_in a.core a.geometry.agblklog g) (free_in b.core a.geometry.agblklog g) (is_chunk a g) (numbers 0 (group_len_of a.geometry g / 8)) each)
        t.inos t.finos (behind_inos a b g _ t.geometry here) (behind_finos a b g _ t.geometry here)

    by : (c : Bool) → (h == g) ≡ c → AreListed b h
    by true e = let same : h ≡ g = eqb-true h g e in subst (AreListed b) (sym same) (own_group (subst (AreListed a) same l))
    by false e = listed_stay a b h t.geometry (t.chunks h)
        (λ u j c m. ap is_free (t.others (inode_in a h u j) (in_other a h g u j own (leads a h u j fit c m) t.group e) (inode_behind a b h u j fit t.geometry (t.chunks h u ∙ c) m)))
        (ap (λ (p : Group). records_in p Ino) (t.away h e)) (ap (λ (p : Group). records_in p Fino) (t.away h e)) l

-- ---- which group has a free inode, or room for a chunk

nothing : {X : Type 0} (x : X) → None ≡ Some x → ⊥
nothing x h = false≢true (ap (λ o. (elim o [ None ↦ false | Some y ↦ true ])) h)

passing : (X : Type 0) (f : ℕ → Option X) (p : ℕ → Bool) (gs : List ℕ) (x : X) → first_in f (filter p gs) ≡ Some x → (m : ℕ) × (p m ≡ true) × (f m ≡ Some x)
passing X f p [] x h = absurd (nothing x h)
passing X f p (g ∷ gs) x h = by (p g) refl h (λ k. passing X f p gs x k)
  where
    by : (b : Bool) → p g ≡ b → first_in f (if b then g ∷ filter p gs else filter p gs) ≡ Some x → (first_in f (filter p gs) ≡ Some x → (m : ℕ) × (p m ≡ true) × (f m ≡ Some x)) → (m : ℕ) × (p m ≡ true) × (f m ≡ Some x)
    by false e k rest = rest k
    by true e k rest = one (f g) refl k
      where
        one : (o : Option X) → f g ≡ o → option_or o (first_in f (filter p gs)) ≡ Some x → (m : ℕ) × (p m ≡ true) × (f m ≡ Some x)
        one (Some y) i j = (g, e, i ∙ j)
        one None i j = rest j

both_kinds : (x y : Bool) → not (x || (y || false)) ≡ true → (x ≡ false) × (y ≡ false)
both_kinds true y h = absurd (false≢true h)
both_kinds false true h = absurd (false≢true h)
both_kinds false false h = (refl, refl)

five_kinds : (v w x y z : Bool) → not (v || (w || (x || (y || (z || false))))) ≡ true → (y ≡ false) × (z ≡ false)
five_kinds true w x y z h = absurd (false≢true h)
five_kinds false true x y z h = absurd (false≢true h)
five_kinds false false true y z h = absurd (false≢true h)
five_kinds false false false y z h = both_kinds y z h

place_group : (m : ℕ) (o : Option ℕ) (g i : ℕ) → option_map {U = ℕ × ℕ} (λ k. (m, k)) o ≡ Some (g, i) → m ≡ g
place_group m None g i h = absurd (nothing (g, i) h)
place_group m (Some k) g i h = ap (λ o. (elim o [ None ↦ m | Some p ↦ p.0 ])) h

unit_group : (m : ℕ) (o : Option ℕ) (e : Extent) → option_map (λ u. extent m (8 * u) 8) o ≡ Some e → m ≡ e.group
unit_group m None e h = absurd (nothing e h)
unit_group m (Some u) e h = ap (λ o. (elim o [ None ↦ m | Some x ↦ x.group ])) h

not_sick_there : (a : State) (gates : ℕ → Bool) (g i : ℕ) → free_inode a gates ≡ Some (g, i) → (sick_in (a.group g) Ino ≡ false) × (sick_in (a.group g) Fino ≡ false)
unfolding free_inode
not_sick_there a gates g i h =
    let w = passing (ℕ × ℕ) (λ m. option_map {U = ℕ × ℕ} (λ k. (m, k)) (first_free (records_in (a.group m) Fino))) (is_usable a gates inode_kinds) (numbers 0 a.geometry.agcount) (g, i) h in
    let same : w.0 ≡ g = place_group w.0 (first_free (records_in (a.group w.0) Fino)) g i w.2 in
    let sound = (and_parts (gates w.0) (none_sick inode_kinds (a.group w.0)) w.1).1 in
    subst (λ m. (sick_in (a.group m) Ino ≡ false) × (sick_in (a.group m) Fino ≡ false)) same (both_kinds (sick_in (a.group w.0) Ino) (sick_in (a.group w.0) Fino) sound)

not_sick_made : (a : State) (gates : ℕ → Bool) (e : Extent) → chunk_run a gates ≡ Some e → (sick_in (a.group e.group) Ino ≡ false) × (sick_in (a.group e.group) Fino ≡ false)
unfolding chunk_run
not_sick_made a gates e h =
    let w = passing Extent (λ m. option_map (λ u. extent m (8 * u) 8) (find (is_free_unit (records_in (a.group m) Bno)) (numbers 0 (group_len_of a.geometry m / 8)))) (is_usable a gates (Bno ∷ Cnt ∷ Rmap ∷ Ino ∷ Fino ∷ [])) (numbers 0 a.geometry.agcount) e h in
    let same : w.0 ≡ e.group = unit_group w.0 (find (is_free_unit (records_in (a.group w.0) Bno)) (numbers 0 (group_len_of a.geometry w.0 / 8))) e w.2 in
    let sound = (and_parts (gates w.0) (none_sick (Bno ∷ Cnt ∷ Rmap ∷ Ino ∷ Fino ∷ []) (a.group w.0)) w.1).1 in
    subst (λ m. (sick_in (a.group m) Ino ≡ false) × (sick_in (a.group m) Fino ≡ false)) same (five_kinds (sick_in (a.group w.0) Bno) (sick_in (a.group w.0) Cnt) (sick_in (a.group w.0) Rmap) (sick_in (a.group w.0) Ino) (sick_in (a.group w.0) Fino) sound)

read_finos : (inos : List InoRec) (r : Reading InoRec) → HasSame inos (recs_of r) → is_readable r ≡ true
read_finos inos (Readable recs blocks) h = refl
read_finos inos (Unreadable block fault claims) h = absurd h

some_listed : (inos finos : List InoRec) → HasSame inos finos → 0 < length inos
some_listed inos [] h = absurd h
some_listed inos (r ∷ rs) h = omega (arith, h.1)

read_inos : (r : Reading InoRec) → 0 < length (recs_of r) → is_readable r ≡ true
read_inos (Readable recs blocks) h = refl
read_inos (Unreadable block fault claims) h = absurd (omega (arith, h))

read_allocated : (i : ℕ) (r : Reading InoRec) → is_allocated i (recs_of r) ≡ true → is_readable r ≡ true
read_allocated i (Readable recs blocks) h = refl
read_allocated i (Unreadable block fault claims) h = absurd (false≢true h)

-- ---- an inode is taken

taken_group : (a : State) (g i ino uid : ℕ) → (taken g i ino uid None a).group g ≡ inodes_follow (a.group g) (turn false i (a.group g))
unfolding taken
taken_group a g i ino uid = in_itself g (λ q. inodes_follow (a.group g) (turn false i q)) a

at_own : {X : Type 0} (k : ℕ) (x : X) (f : ℕ → X) → at_only k x f k ≡ x
at_own k x f = ap (λ b. cond b x (f k)) (eq-eqb k k refl)

taken_core : (a : State) (g i ino uid : ℕ) (chunk : Option ℕ) → (taken g i ino uid chunk a).core ino ≡ Some (core_with file_mode uid)
unfolding taken
taken_core a g i ino uid chunk = at_own ino (Some (core_with file_mode uid)) (in_group g (λ q. inodes_follow (a.group g) (turn false i q)) (make_chunk g chunk a)).core

-- a core of an inode behind the step is what the row decides
core_behind : (a b : State) (left : List Kind) (e : Entry) (s : Step a left e b) (ino : ℕ) → is_inode b ino ≡ true → b.core ino ≡ s.decided.core ino
core_behind a b left e s ino is = s.loosely.inodes.cores ino (sym (inodes.same_inodes _ left _ a s.decided b ino s.loosely) ∙ is)

recs_behind : (a b : State) (left : List Kind) (e : Entry) (s : Step a left e b) (k : Kind) → trees.Not k Rmap → records_in (b.group (group_of_entry a e)) k ≡ records_in (s.decided.group (group_of_entry a e)) k
recs_behind a b left e s k other = open_records a.geometry.inobtcount left (edited_in a left e) (s.decided.group (group_of_entry a e)) (b.group (group_of_entry a e)) k other s.loosely.inside

pub taken_listed : TakenListed
taken_listed a b left writer ino uid h fit s l =
    let e : Entry = entries.Taken writer ino uid None in
    let g : ℕ = group_of_inode a ino in
    let i : ℕ = s.row.0 in
    let p : Group = a.group g in
    let sick = not_sick_there a s.row.1.0 g i s.row.1.1 in
    let finos = read_finos (records_in p Ino) (p.tree Fino).reading s.row.1.2 in
    let inos = read_inos (p.tree Ino).reading (some_listed (records_in p Ino) (records_in p Fino) s.row.1.2) in
    let w : both_sound p = (sick.0, sick.1, inos, finos) in
    let around = beside.changes_one_group a b left e s in
    let is : s.decided.group g ≡ inodes_follow p (turn false i p) = ap (λ (x : State). x.group g) s.row.3 ∙ taken_group a g i ino uid in
    one_turned a b g i ino h false fit (record {
      geometry = around.geometry;
      chunks = step_keeps_chunks a b left e fit s tt;
      group = refl;
      number = s.row.2;
      others = λ n out there. (inodes.keeps_other_inodes a b left e s n out there).0;
      before = ap (λ n. is_free (a.core n)) s.row.2 ∙ s.row.1.4;
      behind = λ there v. ap is_free (core_behind a b left e s ino there ∙ ap (λ (x : State). x.core ino) s.row.3 ∙ taken_core a g i ino uid None);
      inos = recs_behind a b left e s Ino refl ∙ ap (λ (q : Group). records_in q Ino) is ∙ inos_are (turn_inode false i) (follow_inode i (turn_inode false i (records_in p Ino))) p w;
      finos = recs_behind a b left e s Fino refl ∙ ap (λ (q : Group). records_in q Fino) is ∙ finos_are (turn_inode false i) (follow_inode i (turn_inode false i (records_in p Ino))) p w;
      away = λ k out. around.groups k out;
    }) l

-- ---- or given back

given_group : (a : State) (g i ino : ℕ) → (given g i ino a).group g ≡ inodes_follow (a.group g) (turn true i (a.group g))
unfolding given
given_group a g i ino = in_itself g (λ p. inodes_follow p (turn true i p)) a

given_core : (a : State) (g i ino : ℕ) → (given g i ino a).core ino ≡ freed_core (a.core ino)
unfolding given
given_core a g i ino = at_own ino (freed_core (a.core ino)) a.core

freed_is_free : (c : Option CoreState) → verifies c ≡ true → is_free (freed_core c) ≡ true
freed_is_free None v = absurd (false≢true v)
freed_is_free (Some (Broken fault)) v = absurd (false≢true v)
freed_is_free (Some (Whole inode)) v = refl

pub given_listed : GivenListed
given_listed a b left writer ino h fit s finos l =
    let e : Entry = entries.Given writer ino in
    let g : ℕ = group_of_inode a ino in
    let i : ℕ = s.row.0 in
    let p : Group = a.group g in
    let sick = both_kinds (sick_in p Ino) (sick_in p Fino) s.row.1.sound in
    let inos = read_allocated i (p.tree Ino).reading s.row.2 in
    let w : both_sound p = (sick.0, sick.1, inos, finos) in
    let around = beside.changes_one_group a b left e s in
    let is : s.decided.group g ≡ inodes_follow p (turn true i p) = ap (λ (x : State). x.group g) s.row.4 ∙ given_group a g i ino in
    one_turned a b g i ino h true fit (record {
      geometry = around.geometry;
      chunks = step_keeps_chunks a b left e fit s tt;
      group = refl;
      number = s.row.3;
      others = λ n out there. (inodes.keeps_other_inodes a b left e s n out there).0;
      before = s.row.1.allocated;
      behind = λ there v. ap is_free (core_behind a b left e s ino there ∙ ap (λ (x : State). x.core ino) s.row.4 ∙ given_core a g i ino) ∙ freed_is_free (a.core ino) v;
      inos = recs_behind a b left e s Ino refl ∙ ap (λ (q : Group). records_in q Ino) is ∙ inos_are (turn_inode true i) (follow_inode i (turn_inode true i (records_in p Ino))) p w;
      finos = recs_behind a b left e s Fino refl ∙ ap (λ (q : Group). records_in q Fino) is ∙ finos_are (turn_inode true i) (follow_inode i (turn_inode true i (records_in p Ino))) p w;
      away = λ k out. around.groups k out;
    }) l

-- ---- the first of a new chunk is taken

-- the group with the chunk, before one of its inodes is taken
abbrev owned_chunk : ℕ → ℕ → Group → Group
owned_chunk g c p = give_owner [] (number_of Inodes) (chunk_extent g c) (take_free [] (chunk_extent g c) p)

owned_ino : (g c : ℕ) (p : Group) → (owned_chunk g c p).tree Ino ≡ p.tree Ino
owned_ino g c p = given_owner [] (number_of Inodes) (chunk_extent g c) Ino (take_free [] (chunk_extent g c) p) refl ∙ spaced [] Ino (chunk_extent g c) p refl refl

owned_fino : (g c : ℕ) (p : Group) → (owned_chunk g c p).tree Fino ≡ p.tree Fino
owned_fino g c p = given_owner [] (number_of Inodes) (chunk_extent g c) Fino (take_free [] (chunk_extent g c) p) refl ∙ spaced [] Fino (chunk_extent g c) p refl refl

made_group : (a : State) (g i ino uid c : ℕ) → (taken g i ino uid (Some c) a).group g ≡ inodes_follow (a.group g) (turn false i (list_chunk c (owned_chunk g c (a.group g))))
unfolding taken
made_group a g i ino uid c =
    in_itself g (λ q. inodes_follow (a.group g) (turn false i q)) (make_chunk g (Some c) a) ∙ ap (λ (q : Group). inodes_follow (a.group g) (turn false i q)) (in_itself g (λ p. list_chunk c (owned_chunk g c p)) a)

-- a core of the chunk's other inodes
made_core : (a : State) (g i ino uid c n : ℕ) → (n == ino) ≡ false → stands_in a g c 8 n ≡ true → (taken g i ino uid (Some c) a).core n ≡ Some (core_with 0 0)
unfolding taken
made_core a g i ino uid c n out there = ap (λ b. cond b (Some (core_with file_mode uid)) (if stands_in a g c 8 n then Some (core_with 0 0) else a.core n)) out ∙ ap (λ b. if b then Some (core_with 0 0) else a.core n) there

-- all inodes of the unit from v on are free, and all others as they were
abbrev in_new : ℕ → (ℕ → Bool) → ℕ → Bool
in_new v f n = (nat_le (64 * v) n && nat_lt n (64 * v + 64)) || f n

new_place : (v j : ℕ) → j < 64 → (nat_le (64 * v) (64 * v + j) && nat_lt (64 * v + j) (64 * v + 64)) ≡ true
new_place v j m = grind (arith, nat_tests)

other_place : (v u j : ℕ) → (u == v) ≡ false → j < 64 → (nat_le (64 * v) (64 * u + j) && nat_lt (64 * u + j) (64 * v + 64)) ≡ false
other_place v u j out m = grind (arith, nat_tests)

new_free : (v : ℕ) (f : ℕ → Bool) (j : ℕ) → j < 64 → in_new v f (64 * v + j) ≡ true
new_free v f j m = ap (λ b. b || f (64 * v + j)) (new_place v j m)

other_free : (v : ℕ) (f : ℕ → Bool) (u j : ℕ) → (u == v) ≡ false → j < 64 → in_new v f (64 * u + j) ≡ f (64 * u + j)
other_free v f u j out m = ap (λ b. b || f (64 * u + j)) (other_place v u j out m)

new_record : (v c : ℕ) (f : ℕ → Bool) → 8 * v ≡ c → free_chunk c ≡ rec_of 64 (in_new v f) v
new_record v c f e =
    let each : (w : ℕ → ℕ) → over 64 (in_new v f) w v ≡ over 64 (λ n. true) w v = λ w. sum_same _ _ 0 64 (λ j l m. ap (λ b. if b then w j else 0) (new_free v f j m)) in
    let start : 8 * c ≡ 64 * v = omega (arith, e) in
    λ p. record { startino = start p; holemask = 0; count = 64; freecount = sym (each (λ j. 1)) p; free = sym (each (λ j. 2 ^ j)) p }

keep_all : (rs : List InoRec) → filter (λ r. true) rs ≡ rs
keep_all [] = refl
keep_all (r ∷ rs) = ap (λ (xs : List InoRec). r ∷ xs) (keep_all rs)

module _ (a b : State) (left : List Kind) (writer ino uid c : ℕ) (fit : HasFitting a.geometry) (s : Step a left (entries.Taken writer ino uid (Some c)) b)
    (can_ino : is_readable ((a.group (group_of_inode a ino)).tree Ino).reading ≡ true) (can_fino : is_readable ((a.group (group_of_inode a ino)).tree Fino).reading ≡ true) where
  abbrev g : ℕ
  g = group_of_inode a ino

  abbrev i : ℕ
  i = s.row.0

  abbrev p : Group
  p = a.group g

  abbrev e : Entry
  e = entries.Taken writer ino uid (Some c)

  m : MadeAt a g c
  m = made_at a s.row.1.0 g c s.row.1.2

  abbrev around : StaysBeside a e b
  around = beside.changes_one_group a b left e s

  abbrev f : ℕ → Bool
  f = free_in a.core a.geometry.agblklog g

  abbrev k : ℕ → Bool
  k = in_new m.unit f

  abbrev was : ℕ → Bool
  was = is_chunk a g

  abbrev is_now : ℕ → Bool
  is_now = is_chunk b g

  abbrev units : List ℕ
  units = numbers 0 (group_len_of a.geometry g / 8)

  made : (h u : ℕ) → is_chunk b h u ≡ (is_chunk a h u || ((h == g) && (8 * u == c)))
  made = chunk_is_made a b left writer ino uid c fit s can_ino

  or_none : (x : Bool) → (x || false) ≡ x
  or_none true = refl
  or_none false = refl

  or_one : (x : Bool) → (x || true) ≡ true
  or_one true = refl
  or_one false = refl

  eighth : (u v n : ℕ) → 8 * v ≡ n → (u == v) ≡ false → (8 * u == n) ≡ false
  eighth u v n d out = grind (arith, nat_tests)

  only_new : (u : ℕ) → (u == m.unit) ≡ false → is_now u ≡ was u
  only_new u out = made g u ∙ ap₂ (λ x y. was u || (x && y)) (eq-eqb g g refl) (eighth u m.unit c m.block out) ∙ or_none (was u)

  now_there : is_now m.unit ≡ true
  now_there = made g m.unit ∙ ap₂ (λ x y. was m.unit || (x && y)) (eq-eqb g g refl) (eq-eqb (8 * m.unit) c m.block) ∙ or_one (was m.unit)

  abbrev with_new : (InoRec → Bool) → Type 0
  with_new keep = put_chunk (free_chunk c) (filter keep (map (rec_of 64 f) (filter was units))) ≡ filter keep (map (rec_of 64 k) (filter is_now units))

  put_new : (keep : InoRec → Bool) → keep (free_chunk c) ≡ true → with_new keep
  put_new keep new =
      let same : free_chunk c ≡ rec_of 64 k m.unit = new_record m.unit c f m.block in
      ap (λ (r : InoRec). put_chunk r (filter keep (map (rec_of 64 f) (filter was units)))) same
      ∙ chunk_put f k m.unit (other_free m.unit f) was is_now keep (ap keep (sym same) ∙ new) (none_before a b left writer ino uid c s m) now_there only_new 0 (group_len_of a.geometry g / 8) (omega arith) (inside m.unit (group_len_of a.geometry g / 8) m.inside)
    where
      inside : (v n : ℕ) → v < n → v < 0 + n
      inside v n l = omega (arith, l)

  -- the cores behind it
  place : (u j : ℕ) → is_now u ≡ true → j < 64 → split_of a.geometry (inode_in a g u j / 8) ≡ Some (g, 8 * u + j / 8)
  place u j d l = leads_behind a b g u j fit around.geometry d l

  in_chunk_there : (u j v n : ℕ) → 8 * v ≡ n → (u == v) ≡ true → j < 64 → (nat_le n (8 * u + j / 8) && nat_lt (8 * u + j / 8) (n + 8)) ≡ true
  in_chunk_there u j v n d q l = grind (arith, nat_tests)

  not_there : (u j v n : ℕ) → 8 * v ≡ n → (u == v) ≡ false → j < 64 → (nat_le n (8 * u + j / 8) && nat_lt (8 * u + j / 8) (n + 8)) ≡ false
  not_there u j v n d q l = grind (arith, nat_tests)

  stands : (u j : ℕ) (t : Bool) → is_now u ≡ true → j < 64 → (nat_le c (8 * u + j / 8) && nat_lt (8 * u + j / 8) (c + 8)) ≡ t → stands_in a g c 8 (inode_in a g u j) ≡ t
  stands u j t d l q = ap (is_place g c 8) (place u j d l) ∙ ap₂ (λ x y. x && y) (eq-eqb g g refl) q

  own_is : ino ≡ g * 2 ^ a.geometry.agblklog * 8 + i
  own_is = s.row.2 ∙ own_number a g i

  others_there : (u j : ℕ) → is_now u ≡ true → j < 64 → (64 * u + j == i) ≡ false → free_in b.core a.geometry.agblklog g (64 * u + j) ≡ k (64 * u + j)
  others_there u j d l out =
      let n : ℕ = inode_in a g u j in
      let away : (n == ino) ≡ false = differ (g * 2 ^ a.geometry.agblklog * 8) (64 * u + j) i n ino (unit_number a g u j) own_is out in
      let there : is_inode b n ≡ true = inode_behind a b g u j fit around.geometry d l in
      by (u == m.unit) refl n away there
    where
      by : (t : Bool) → (u == m.unit) ≡ t → (n : ℕ) → (inode_in a g u j == ino) ≡ false → is_inode b (inode_in a g u j) ≡ true → free_in b.core a.geometry.agblklog g (64 * u + j) ≡ k (64 * u + j)
      by true q n away there =
          ap (λ x. is_free (b.core x)) (sym (unit_number a g u j))
          ∙ ap is_free (core_behind a b left e s (inode_in a g u j) there ∙ ap (λ (x : State). x.core (inode_in a g u j)) s.row.3
          ∙ made_core a g i ino uid c (inode_in a g u j) away (stands u j true d l (in_chunk_there u j m.unit c m.block q l)))
          ∙ sym (ap (λ x. k (64 * x + j)) (eqb-true u m.unit q) ∙ new_free m.unit f j l)
      by false q n away there =
          ap (λ x. is_free (b.core x)) (sym (unit_number a g u j))
          ∙ ap is_free (inodes.keeps_other_inodes a b left e s (inode_in a g u j) (ap₂ (λ x y. x || y) away (stands u j false d l (not_there u j m.unit c m.block q l))) there).0
          ∙ ap (λ x. is_free (a.core x)) (unit_number a g u j)
          ∙ sym (other_free m.unit f u j q l)

  first_place : (v n x : ℕ) → 8 * v ≡ n → x ≡ 8 * n → (nat_le (64 * v) x && nat_lt x (64 * v + 64)) ≡ true
  first_place v n x d q = grind (arith, nat_tests)

  each : (u : ℕ) → is_now u ≡ true → IsTurned false i k (free_in b.core a.geometry.agblklog g) u
  each u d = record {
    others = λ j l out. others_there u j d l out;
    before = λ j l q. ap k q ∙ ap (λ t. t || f i) (first_place m.unit c i m.block s.row.1.3);
    behind = λ j l q.
        let same : inode_in a g u j ≡ ino = unit_number a g u j ∙ ap (λ x. g * 2 ^ a.geometry.agblklog * 8 + x) q ∙ sym own_is in
        ap (λ x. is_free (b.core x)) (sym (unit_number a g u j) ∙ same)
        ∙ ap is_free (core_behind a b left e s ino (subst (λ x. is_inode b x ≡ true) same (inode_behind a b g u j fit around.geometry d l)) ∙ ap (λ (x : State). x.core ino) s.row.3 ∙ taken_core a g i ino uid (Some c));
  }

  sick : (sick_in p Ino ≡ false) × (sick_in p Fino ≡ false)
  sick = not_sick_made a s.row.1.0 (record { group = g; block = c; count = 8 }) s.row.1.2

  owned_sound : both_sound (owned_chunk g c p)
  owned_sound = (
    ap (λ t. is_sick t.trust) (owned_ino g c p) ∙ sick.0,
    ap (λ t. is_sick t.trust) (owned_fino g c p) ∙ sick.1,
    ap (λ t. is_readable t.reading) (owned_ino g c p) ∙ can_ino,
    ap (λ t. is_readable t.reading) (owned_fino g c p) ∙ can_fino,
  )

  abbrev listed_group : Group
  listed_group = list_chunk c (owned_chunk g c p)

  listed_sound : both_sound listed_group
  listed_sound = still_sound (put_chunk (free_chunk c)) (put_chunk (free_chunk c)) (owned_chunk g c p) owned_sound

  listed_inos : records_in listed_group Ino ≡ put_chunk (free_chunk c) (records_in p Ino)
  listed_inos = inos_are (put_chunk (free_chunk c)) (put_chunk (free_chunk c)) (owned_chunk g c p) owned_sound ∙ ap (λ t. put_chunk (free_chunk c) (recs_of t.reading)) (owned_ino g c p)

  listed_finos : records_in listed_group Fino ≡ put_chunk (free_chunk c) (records_in p Fino)
  listed_finos = finos_are (put_chunk (free_chunk c)) (put_chunk (free_chunk c)) (owned_chunk g c p) owned_sound ∙ ap (λ t. put_chunk (free_chunk c) (recs_of t.reading)) (owned_fino g c p)

  is_group : s.decided.group g ≡ inodes_follow p (turn false i listed_group)
  is_group = ap (λ (x : State). x.group g) s.row.3 ∙ made_group a g i ino uid c

  here : chunks b g ≡ filter is_now units
  here = chunks_by a b g is_now around.geometry (λ u. refl)

  own_made : AreListed a g → AreListed b g
  own_made l =
      finish b g i a.geometry.agblklog false k (filter is_now units) (records_in listed_group Ino) (records_in listed_group Fino)
      (listed_inos ∙ ap (put_chunk (free_chunk c)) (l.inodes ∙ ino_is a g ∙ ap (map (rec_of 64 f)) (own_chunks a g) ∙ sym (keep_all (map (rec_of 64 f) (filter was units)))) ∙ put_new (λ r. true) refl ∙ keep_all (map (rec_of 64 k) (filter is_now units)))
      (listed_finos ∙ ap (put_chunk (free_chunk c)) (l.free ∙ fino_is a g ∙ ap (λ us. filter has_free (map (rec_of 64 f) us)) (own_chunks a g)) ∙ put_new has_free refl)
      (rise_filter is_now 0 (group_len_of a.geometry g / 8))
      (turned_filter false i k (free_in b.core a.geometry.agblklog g) is_now units each)
      (recs_behind a b left e s Ino refl ∙ ap (λ (q : Group). records_in q Ino) is_group ∙ inos_are (turn_inode false i) (follow_inode i (turn_inode false i (records_in listed_group Ino))) listed_group listed_sound)
      (recs_behind a b left e s Fino refl ∙ ap (λ (q : Group). records_in q Fino) is_group ∙ finos_are (turn_inode false i) (follow_inode i (turn_inode false i (records_in listed_group Ino))) listed_group listed_sound)
      (behind_inos a b g (filter is_now units) around.geometry here) (behind_finos a b g (filter is_now units) around.geometry here)

  other_chunks : (h : ℕ) → (h == g) ≡ false → (u : ℕ) → is_chunk b h u ≡ is_chunk a h u
  other_chunks h out u = made h u ∙ ap (λ t. is_chunk a h u || (t && (8 * u == c))) out ∙ or_none (is_chunk a h u)

  not_stands : (h u j : ℕ) → (h == g) ≡ false → is_chunk a h u ≡ true → j < 64 → stands_in a g c 8 (inode_in a h u j) ≡ false
  not_stands h u j out d l = ap (is_place g c 8) (leads a h u j fit d l) ∙ ap (λ t. t && (nat_le c (8 * u + j / 8) && nat_lt (8 * u + j / 8) (c + 8))) out

  made_listed : (h : ℕ) → AreListed a h → AreListed b h
  made_listed h l = by (h == g) refl
    where
      by : (t : Bool) → (h == g) ≡ t → AreListed b h
      by true q = let same : h ≡ g = eqb-true h g q in subst (AreListed b) (sym same) (own_made (subst (AreListed a) same l))
      by false q = listed_stay a b h around.geometry (other_chunks h q)
          (λ u j d n. ap is_free (inodes.keeps_other_inodes a b left e s (inode_in a h u j) (ap₂ (λ x y. x || y) (in_other a h g u j ino (leads a h u j fit d n) refl q) (not_stands h u j q d n)) (inode_behind a b h u j fit around.geometry (other_chunks h q u ∙ d) n)).0)
          (ap (λ (r : Group). records_in r Ino) (around.groups h q)) (ap (λ (r : Group). records_in r Fino) (around.groups h q)) l

pub chunk_listed : ChunkListed
chunk_listed a b left writer ino uid c h fit s can_ino can_fino l = made_listed a b left writer ino uid c fit s can_ino can_fino h l

-- ---- other entries

-- a core that shares blocks is free where it was
free_shared : (core : Option CoreState) → is_free (shares_blocks core) ≡ is_free core
free_shared None = refl
free_shared (Some (Broken fault)) = refl
free_shared (Some (Whole inode)) = refl

shared_core : (own : ℕ) (core : ℕ → Option CoreState) (n : ℕ) → is_free (at_only own (shares_blocks (core own)) core n) ≡ is_free (core n)
shared_core own core n = by (n == own) refl
  where
    by : (t : Bool) → (n == own) ≡ t → is_free (cond t (shares_blocks (core own)) (core n)) ≡ is_free (core n)
    by true e = free_shared (core own) ∙ ap (λ k. is_free (core k)) (sym (eqb-true n own e))
    by false e = refl

mapped_core : (m : Piece) (a : State) (n : ℕ) → (mapped m a).core n ≡ a.core n
unfolding mapped
mapped_core m a n = refl

unmapped_core : (m : Piece) (a : State) (n : ℕ) → (unmapped m a).core n ≡ a.core n
unfolding unmapped
unmapped_core m a n = refl

converted_core : (m : Piece) (a : State) (n : ℕ) → (converted m a).core n ≡ a.core n
unfolding converted
converted_core m a n = beside.either (λ s. s.core n ≡ a.core n) (is_unwritten_at m.offset (data_of a m.ino)) _ a refl refl

shared_cores : (m : SharedPiece) (a : State) (n : ℕ) → is_free ((shared m a).core n) ≡ is_free (a.core n)
unfolding shared
shared_cores m a n = shared_core m.from (at_only m.to (shares_blocks (a.core m.to)) a.core) n ∙ shared_core m.to a.core n

free_decided : (a x : State) (left : List Kind) (e : Entry) → Row a left e x → LeavesInodes e → (n : ℕ) → is_free (x.core n) ≡ is_free (a.core n)
free_decided a x left (entries.Mapped m) r l n = ap (λ (s : State). is_free (s.core n)) r.1 ∙ ap is_free (mapped_core m a n)
free_decided a x left (entries.Unmapped m) r l n = ap (λ (s : State). is_free (s.core n)) r.1 ∙ ap is_free (unmapped_core m a n)
free_decided a x left (entries.Converted m) r l n = ap (λ (s : State). is_free (s.core n)) r.1 ∙ ap is_free (converted_core m a n)
free_decided a x left (entries.Shared m) r l n = ap (λ (s : State). is_free (s.core n)) r.1 ∙ shared_cores m a n
free_decided a x left (entries.RmapDone c ino g b k) r l n = ap is_free (inodes.decided a x left (entries.RmapDone c ino g b k) r n refl).core
free_decided a x left (entries.RefDone c g b k more) r l n = ap is_free (inodes.decided a x left (entries.RefDone c g b k more) r n refl).core
free_decided a x left (entries.Freed c g b k kept) r l n = ap is_free (inodes.decided a x left (entries.Freed c g b k kept) r n refl).core
free_decided a x left (entries.Refilled e) r l n = ap is_free (inodes.decided a x left (entries.Refilled e) r n refl).core
free_decided a x left (entries.Trimmed e) r l n = ap is_free (inodes.decided a x left (entries.Trimmed e) r n refl).core
free_decided a x left (entries.Marked g k cause) r l n = ap is_free (inodes.decided a x left (entries.Marked g k cause) r n refl).core
free_decided a x left (entries.Reply writer line code done refused begun) r l n = ap (λ (s : State). is_free (s.core n)) r
free_decided a x left e r l n = absurd l

marked_recs : (g : ℕ) (j k : Kind) (a : State) → records_in ((marked g j a).group g) k ≡ records_in (a.group g) k
unfolding marked
marked_recs g j k a = ap (λ (p : Group). records_in p k) (in_itself g (set_trust Sick j) a) ∙ recs_at j k (record ((a.group g).tree j) { trust = Sick }) (a.group g).tree refl

by_counts : (t : Bool) (k : Kind) → is_among k (Rmap ∷ Refc ∷ Rmap ∷ []) ≡ false → is_among k (with_owners (if t then Refc ∷ Rmap ∷ [] else [])) ≡ false
by_counts true k out = out
by_counts false k out = refl

-- the records of an inode btree stay
recs_stay : (a b : State) (left : List Kind) (e : Entry) (k : Kind) → Step a left e b → LeavesInodes e → is_among k (Rmap ∷ Bno ∷ Cnt ∷ Rmap ∷ []) ≡ false → is_among k (Rmap ∷ Refc ∷ Rmap ∷ []) ≡ false → is_among k (Rmap ∷ Bno ∷ Cnt ∷ []) ≡ false → is_among k (Rmap ∷ Rmap ∷ []) ≡ false
    → trees.Not k Rmap → records_in (b.group (group_of_entry a e)) k ≡ records_in (a.group (group_of_entry a e)) k
recs_stay a b left (entries.Mapped m) k s l x y z w other = ap (λ t. recs_of t.reading) (trees.keeps_other_trees a b left (entries.Mapped m) s k z)
recs_stay a b left (entries.Unmapped m) k s l x y z w other = ap (λ t. recs_of t.reading) (trees.keeps_other_trees a b left (entries.Unmapped m) s k refl)
recs_stay a b left (entries.Converted m) k s l x y z w other = ap (λ t. recs_of t.reading) (trees.keeps_other_trees a b left (entries.Converted m) s k refl)
recs_stay a b left (entries.Shared m) k s l x y z w other = ap (λ t. recs_of t.reading) (trees.keeps_other_trees a b left (entries.Shared m) s k refl)
recs_stay a b left (entries.RmapDone c ino g n o) k s l x y z w other = ap (λ t. recs_of t.reading) (trees.keeps_other_trees a b left (entries.RmapDone c ino g n o) s k w)
recs_stay a b left (entries.RefDone c g n o more) k s l x y z w other =
    ap (λ t. recs_of t.reading) (trees.keeps_other_trees a b left (entries.RefDone c g n o more) s k (by_counts (changes_count more (records_in (a.group g) Refc) n && not (sick_in (a.group g) Refc)) k y))
recs_stay a b left (entries.Freed c g n o true) k s l x y z w other = ap (λ t. recs_of t.reading) (trees.keeps_other_trees a b left (entries.Freed c g n o true) s k refl)
recs_stay a b left (entries.Freed c g n o false) k s l x y z w other = ap (λ t. recs_of t.reading) (trees.keeps_other_trees a b left (entries.Freed c g n o false) s k z)
recs_stay a b left (entries.Refilled e) k s l x y z w other = ap (λ t. recs_of t.reading) (trees.keeps_other_trees a b left (entries.Refilled e) s k x)
recs_stay a b left (entries.Trimmed e) k s l x y z w other = ap (λ t. recs_of t.reading) (trees.keeps_other_trees a b left (entries.Trimmed e) s k x)
recs_stay a b left (entries.Marked g j cause) k s l x y z w other = recs_behind a b left (entries.Marked g j cause) s k other ∙ ap (λ (r : State). records_in (r.group g) k) s.row.2 ∙ marked_recs g j k a
recs_stay a b left (entries.Reply writer line code done refused begun) k s l x y z w other = ap (λ t. recs_of t.reading) (trees.keeps_other_trees a b left (entries.Reply writer line code done refused begun) s k refl)
recs_stay a b left e k s l x y z w other = absurd l

pub others_listed : OthersListed
others_listed a b left e h fit s leaves keeps l =
    let around = beside.changes_one_group a b left e s in
    let same = step_keeps_chunks a b left e fit s keeps in
    listed_stay a b h around.geometry (same h)
    (λ u j c m.
    ap is_free (core_behind a b left e s (inode_in a h u j) (inode_behind a b h u j fit around.geometry (same h u ∙ c) m)) ∙ free_decided a s.decided left e s.row leaves (inode_in a h u j))
    (by Ino (h == group_of_entry a e) refl (recs_stay a b left e Ino s leaves refl refl refl refl refl)) (by Fino (h == group_of_entry a e) refl (recs_stay a b left e Fino s leaves refl refl refl refl refl)) l
  where
    by : (k : Kind) (t : Bool) → (h == group_of_entry a e) ≡ t → records_in (b.group (group_of_entry a e)) k ≡ records_in (a.group (group_of_entry a e)) k → records_in (b.group h) k ≡ records_in (a.group h) k
    by k true q is = subst (λ n. records_in (b.group n) k ≡ records_in (a.group n) k) (sym (eqb-true h (group_of_entry a e) q)) is
    by k false q is = ap (λ (p : Group). records_in p k) ((beside.changes_one_group a b left e s).groups h q)
