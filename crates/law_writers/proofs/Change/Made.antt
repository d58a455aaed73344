-- Which chunks there are behind an entry that makes one.
use Rattle.std.proofs.Common.{◌≡◌, ℕ, ◌+◌, ◌*◌, ◌<◌, ◌==◌, ◌&&◌, ◌||◌, zero, suc, Bool, true, false, not, cond, nat_lt, nat_le, List, [], ◌∷◌, ◌++◌, filter, find, Option, Some, None, refl, sym, ap, ap₂, subst, ◌∙◌, arith, eqb-true, eq-eqb}
use Rattle.std.specs.Prelude.{◌/◌, ◌%◌, option_map, if◌then◌else◌}
use Rattle.std.specs.List.{list_any}
use Rattle.std.specs.Option.{option_or}
use Rattle.std.proofs.lemmas.Bool.{false≢true, true≢false, and_parts, ltb-true, lt-ltb}
use Rattle.std.proofs.lemmas.Bool.Decides.{nat_tests}
use Rattle.byte_fields.specs.Below.{all_below}
use Rattle.fs_model.specs.declared.entry.Extent.{Extent}
use Rattle.geom.specs.Apart.{HasFitting}
use Rattle.geom.specs.Layout.{Layout, group_len_of, split_of, inode_at}
use Rattle.ino_recs.specs.declared.chunk.InoRec.{InoRec}
use Rattle.rmap_recs.specs.Owners.{number_of}
use Rattle.rmap_recs.specs.declared.owner.Owner.TheVariants.{Inodes}
use Rattle.rmap_recs.specs.declared.records.RmapRec.{RmapRec}
use Rattle.sblock.specs.declared.kind.Kind.TheVariants.{Bno, Cnt, Rmap, Ino, Fino}
use Rattle.fs_state.specs.Apart.{verifies, ino_lists, rmap_lists, has_unit, is_listed, block_verifies, unit_verifies, is_chunk}
use Rattle.fs_state.specs.State.{State, Group, CoreState, Reading, Readable, Unreadable, recs_of, is_readable}
use Rattle.fs_state.specs.Lists.{numbers}
use Rattle.fs_change.proofs.Alike.{gives_unit, lists_unit}
use Rattle.fs_change.proofs.Beside as beside
use Rattle.fs_change.proofs.Trees.{in_itself, spaced, edited, given_owner}
use Rattle.fs_change.specs.Changes.{taken, turn, inodes_follow, make_chunk, list_chunk, free_chunk, chunk_extent, take_free, give_owner, plain_run, core_with, file_mode}
use Rattle.fs_change.specs.Choice.{is_usable, none_sick, space_kinds, inode_kinds, chunk_run, first_in, is_free_unit, extent, inode_of}
use Rattle.fs_change.specs.Parts.{is_place, with_recs, change_tree, is_edited, edit, is_sick, sick_in, records_in}
use Rattle.fs_change.specs.Records.{put_by, put_chunk, give_mapping}
use Rattle.fs_change.specs.Step.{group_of_inode}
use Rattle.law_writers.proofs.Change.Chunks.{SameLists, gives_block, any_gives, unit_by}
use Rattle.law_writers.proofs.Change.Making.{gift_gives}
use Rattle.law_writers.proofs.Change.Members.{any_filter, which_below, leads_back}
use Rattle.law_writers.proofs.Change.Rows.{bit_turned, same_up_to}
use Rattle.law_writers.specs.Change.Chunks.{ChunkIsMade}

-- ---- what the choice of a run says

nothing : {X : Type 0} (x : X) → None ≡ Some x → ⊥
nothing x h = false≢true (ap (λ o. (elim o [ None ↦ false | Some y ↦ true ])) h)

picked : (f : ℕ → Option Extent) (gs : List ℕ) (e : Extent) → first_in f gs ≡ Some e → (m : ℕ) × (f m ≡ Some e) × (list_any (λ n. n == m) gs ≡ true)
picked f [] e h = absurd (nothing e h)
picked f (g ∷ gs) e h = by (f g) refl h (λ k. picked f gs e k)
  where
    here : (x : ℕ) (b : Bool) → ((x == x) || b) ≡ true
    here x b = ap (λ t. t || b) (eq-eqb x x refl)

    later : (x y : Bool) → y ≡ true → (x || y) ≡ true
    later true y k = refl
    later false y k = k

    by : (o : Option Extent) → f g ≡ o → option_or o (first_in f gs) ≡ Some e → (first_in f gs ≡ Some e → (m : ℕ) × (f m ≡ Some e) × (list_any (λ n. n == m) gs ≡ true)) → (m : ℕ) × (f m ≡ Some e) × (list_any (λ n. n == m) (g ∷ gs) ≡ true)
    by (Some x) k i more = (g, k ∙ i, here g (list_any (λ n. n == g) gs))
    by None k i more = let w = more i in (w.0, w.1, later (g == w.0) (list_any (λ n. n == w.0) gs) w.2)

found_low : (p : ℕ → Bool) (k n u : ℕ) → find p (numbers k n) ≡ Some u → u < k + n
found_low p k zero u h = absurd (nothing u h)
found_low p k (suc n) u h = (elim (p k) as (λ b. p k ≡ b → cond b (Some k) (find p (numbers (k + 1) n)) ≡ Some u → u < k + suc n) [
  | true ↦ λ e i. let same : k ≡ u = ap (λ o. (elim o [ None ↦ k | Some y ↦ y ])) i in subst (λ y. y < k + suc n) same (omega arith)
  | false ↦ λ e i. let l = found_low p (k + 1) n u i in omega (arith, l)
]) refl h

unit_of_extent : (g len : ℕ) (o : Option ℕ) (e : Extent) → ((u : ℕ) → o ≡ Some u → u < len) → option_map (λ u. extent g (8 * u) 8) o ≡ Some e → (u : ℕ) × (u < len) × (g ≡ e.group) × (8 * u ≡ e.block)
unit_of_extent g len None e f h = absurd (nothing e h)
unit_of_extent g len (Some u) e f h = (u, f u refl, ap (λ o. (elim o [ None ↦ g | Some x ↦ x.group ])) h, ap (λ o. (elim o [ None ↦ 8 * u | Some x ↦ x.block ])) h)

pub record MadeAt (a : State) (g b : ℕ) : Type 0 where
  pub unit : ℕ
  pub inside : unit < group_len_of a.geometry g / 8
  pub block : 8 * unit ≡ b
  pub group : g < a.geometry.agcount
  pub sound : sick_in (a.group g) Ino ≡ false

low_part : (len u : ℕ) → u < 0 + len → u < len
low_part len u h = omega (arith, h)

fourth : (v w x y z : Bool) → not (v || (w || (x || (y || (z || false))))) ≡ true → y ≡ false
fourth false false false false z h = refl
fourth true w x y z h = absurd (false≢true h)
fourth false true x y z h = absurd (false≢true h)
fourth false false true y z h = absurd (false≢true h)
fourth false false false true z h = absurd (false≢true h)

pub made_at : (a : State) (gates : ℕ → Bool) (g b : ℕ) → chunk_run a gates ≡ Some (record { group = g; block = b; count = 8 }) → MadeAt a g b
unfolding chunk_run
made_at a gates g b h =
    let e : Extent = record { group = g; block = b; count = 8 } in
    let w = picked (λ m. option_map (λ u. extent m (8 * u) 8) (find (is_free_unit (records_in (a.group m) Bno)) (numbers 0 (group_len_of a.geometry m / 8)))) (filter (is_usable a gates (space_kinds ++ inode_kinds)) (numbers 0 a.geometry.agcount)) e h in
    let u = unit_of_extent w.0 (group_len_of a.geometry w.0 / 8) (find (is_free_unit (records_in (a.group w.0) Bno)) (numbers 0 (group_len_of a.geometry w.0 / 8))) e (λ n k. low_part (group_len_of a.geometry w.0 / 8) n (found_low (is_free_unit (records_in (a.group w.0) Bno)) 0 (group_len_of a.geometry w.0 / 8) n k)) w.1 in
    let v = which_below (λ n. is_usable a gates (space_kinds ++ inode_kinds) n && (n == w.0)) a.geometry.agcount (sym (any_filter (λ n. n == w.0) (is_usable a gates (space_kinds ++ inode_kinds)) (numbers 0 a.geometry.agcount)) ∙ w.2) in
    let usable = and_parts (is_usable a gates (space_kinds ++ inode_kinds) v.0) (v.0 == w.0) v.2 in
    let same : v.0 ≡ g = eqb-true v.0 w.0 usable.1 ∙ u.2 in
    let good = and_parts (gates v.0) (none_sick (space_kinds ++ inode_kinds) (a.group v.0)) usable.0 in
    record {
      unit = u.0;
      inside = subst (λ n. u.0 < group_len_of a.geometry n / 8) u.2 u.1;
      block = u.3;
      group = subst (λ n. n < a.geometry.agcount) same v.1;
      sound = subst (λ n. sick_in (a.group n) Ino ≡ false) same (fourth (sick_in (a.group v.0) Bno) (sick_in (a.group v.0) Cnt) (sick_in (a.group v.0) Rmap) (sick_in (a.group v.0) Ino) (sick_in (a.group v.0) Fino) good.1);
    }

-- ---- lists of the group

put_lists : (T : InoRec → Bool) (key : InoRec → ℕ) (x : InoRec) (ys : List InoRec) → list_any T (put_by key x ys) ≡ (T x || list_any T ys)
put_lists T key x [] = refl
put_lists T key x (y ∷ ys) = elim (nat_lt (key y) (key x)) as (λ b. list_any T (cond b (y ∷ put_by key x ys) (x ∷ y ∷ ys)) ≡ (T x || (T y || list_any T ys))) [
  | true ↦ ap (λ b. T y || b) (put_lists T key x ys) ∙ swap (T y) (T x) (list_any T ys)
  | false ↦ refl
]
  where
    swap : (x y z : Bool) → (x || (y || z)) ≡ (y || (x || z))
    swap true true z = refl
    swap true false z = refl
    swap false true z = refl
    swap false false z = refl

put_read : (T : InoRec → Bool) (x : InoRec) (r : Reading InoRec) → is_readable r ≡ true → list_any T (recs_of (with_recs (put_chunk x (recs_of r)) r)) ≡ (T x || list_any T (recs_of r))
put_read T x (Readable recs blocks) h = put_lists T (λ s. s.startino) x recs
put_read T x (Unreadable block fault claims) h = absurd (false≢true h)

-- the group that gets the new chunk
abbrev owned_by_inodes : ℕ → ℕ → Group → Group
owned_by_inodes g b p = give_owner [] (number_of Inodes) (chunk_extent g b) (take_free [] (chunk_extent g b) p)

owned_ino : (g b : ℕ) (p : Group) → (owned_by_inodes g b p).tree Ino ≡ p.tree Ino
owned_ino g b p = given_owner [] (number_of Inodes) (chunk_extent g b) Ino (take_free [] (chunk_extent g b) p) refl ∙ spaced [] Ino (chunk_extent g b) p refl refl

abbrev listed_ino : ℕ → ℕ → Group → Group
listed_ino g b p = edit [] Ino (put_chunk (free_chunk b)) (owned_by_inodes g b p)

-- a tree that isn't sick is edited
edit_inos : (b u : ℕ) (q : Group) → sick_in q Ino ≡ false → is_readable (q.tree Ino).reading ≡ true → lists_unit u (records_in (edit [] Ino (put_chunk (free_chunk b)) q) Ino) ≡ ((8 * b == 64 * u) || lists_unit u (records_in q Ino))
edit_inos b u q sound readable =
    ap (λ s. lists_unit u (records_in (if (if s then false else true) then change_tree Ino (λ i. record i { reading = with_recs (put_chunk (free_chunk b) (recs_of i.reading)) i.reading }) q else q) Ino)) sound
    ∙ put_read (λ r. r.startino == 64 * u) (free_chunk b) (q.tree Ino).reading readable

made_inos : (g b u : ℕ) (p : Group) → sick_in p Ino ≡ false → is_readable (p.tree Ino).reading ≡ true → lists_unit u (records_in (list_chunk b (owned_by_inodes g b p)) Ino) ≡ ((8 * b == 64 * u) || lists_unit u (records_in p Ino))
made_inos g b u p sound readable =
    ap (λ t. lists_unit u (recs_of t.reading)) (edited [] Fino Ino (put_chunk (free_chunk b)) (listed_ino g b p) refl)
    ∙ edit_inos b u (owned_by_inodes g b p) (ap (λ t. is_sick t.trust) (owned_ino g b p) ∙ sound) (ap (λ t. is_readable t.reading) (owned_ino g b p) ∙ readable)
    ∙ ap (λ t. (8 * b == 64 * u) || lists_unit u (recs_of t.reading)) (owned_ino g b p)

-- reverse mappings give inodes the chunk's blocks more, and no others
with_gift : (c : ℕ) (r : RmapRec) (x : Reading RmapRec) → 0 < r.count → gives_block c r ≡ false → any_gives c (recs_of (with_recs (give_mapping r (recs_of x)) x)) ≡ any_gives c (recs_of x)
with_gift c r (Readable recs blocks) some out = gift_gives c r recs some ∙ ap (λ b. any_gives c recs || b) out ∙ none (any_gives c recs)
  where
    none : (b : Bool) → (b || false) ≡ b
    none true = refl
    none false = refl
with_gift c r (Unreadable block fault claims) some out = refl

edit_gift : (t : Bool) (c : ℕ) (r : RmapRec) (q : Group) → 0 < r.count → gives_block c r ≡ false
    → any_gives c (records_in (if t then change_tree Rmap (λ i. record i { reading = with_recs (give_mapping r (recs_of i.reading)) i.reading }) q else q) Rmap) ≡ any_gives c (records_in q Rmap)
edit_gift true c r q some out = with_gift c r (q.tree Rmap).reading some out
edit_gift false c r q some out = refl

made_rmaps : (g b c : ℕ) (p : Group) → gives_block c (plain_run (number_of Inodes) (chunk_extent g b)) ≡ false → any_gives c (records_in (list_chunk b (owned_by_inodes g b p)) Rmap) ≡ any_gives c (records_in p Rmap)
made_rmaps g b c p out =
    let q : Group = take_free [] (chunk_extent g b) p in
    ap (λ t. any_gives c (recs_of t.reading)) (edited [] Fino Rmap (put_chunk (free_chunk b)) (listed_ino g b p) refl ∙ edited [] Ino Rmap (put_chunk (free_chunk b)) (owned_by_inodes g b p) refl)
    ∙ edit_gift (is_edited [] q Rmap) c (plain_run (number_of Inodes) (chunk_extent g b)) q (omega arith) out
    ∙ ap (λ t. any_gives c (recs_of t.reading)) (spaced [] Rmap (chunk_extent g b) p refl refl)

-- ---- cores

all_pass : (n : ℕ) (f : ℕ → Bool) → ((j : ℕ) → j < n → f j ≡ true) → all_below n f ≡ true
unfolding all_below
all_pass zero f e = refl
all_pass (suc n) f e = ap₂ (λ x y. x && y) (all_pass n f (λ j l. e j (omega (arith, l)))) (e n (omega arith))

file_verifies : (ino uid n : ℕ) (c : Option CoreState) → verifies c ≡ true → verifies (if n == ino then Some (core_with file_mode uid) else c) ≡ true
file_verifies ino uid n c e = by (n == ino)
  where
    by : (t : Bool) → verifies (if t then Some (core_with file_mode uid) else c) ≡ true
    by true = refl
    by false = e

-- the core at a place behind the entry
abbrev core_behind : State → ℕ → ℕ → ℕ → ℕ → ℕ → Option CoreState
core_behind a g b ino uid n = if n == ino then Some (core_with file_mode uid) else (if is_place g b 8 (split_of a.geometry (n / 8)) then Some (core_with 0 0) else a.core n)

taken_core : (a : State) (g i ino uid b n : ℕ) → (taken g i ino uid (Some b) a).core n ≡ core_behind a g b ino uid n
unfolding taken
taken_core a g i ino uid b n = refl

taken_geometry : (a : State) (g i ino uid b : ℕ) → (taken g i ino uid (Some b) a).geometry ≡ a.geometry
unfolding taken
taken_geometry a g i ino uid b = refl

in_new : (g v b j : ℕ) → 8 * v ≡ b → j < 8 → ((g == g) && (nat_le b (8 * v + j) && nat_lt (8 * v + j) (b + 8))) ≡ true
in_new g v b j e l = grind (arith, nat_tests)

not_new : (h g u v b j : ℕ) → 8 * v ≡ b → j < 8 → ((h == g) && (8 * u == b)) ≡ false → ((h == g) && (nat_le b (8 * u + j) && nat_lt (8 * u + j) (b + 8))) ≡ false
not_new h g u v b j e l out = grind (arith, nat_tests)

in_len : (u j len : ℕ) → u < len / 8 → j < 8 → 8 * u + j < len
in_len u j len h l = omega (arith, h, l)

new_verifies : (a : State) (g i ino uid b : ℕ) → HasFitting a.geometry → (m : MadeAt a g b) → unit_verifies a.geometry (taken g i ino uid (Some b) a).core g m.unit ≡ true
unfolding unit_verifies block_verifies
new_verifies a g i ino uid b fit m = all_pass 8 _ (λ j jl. all_pass 8 _ (λ s sl.
    let n : ℕ = inode_at a.geometry g (8 * m.unit + j) s in
    ap verifies (taken_core a g i ino uid b n)
    ∙ file_verifies ino uid n _ (ap (λ t. verifies (if t then Some (core_with 0 0) else a.core n)) (ap (is_place g b 8) (leads_back a.geometry g (8 * m.unit + j) s fit sl m.group (in_len m.unit j (group_len_of a.geometry g) m.inside jl)) ∙ in_new g m.unit b j m.block jl))))

unit_lies : (at : Layout) (h u : ℕ) → has_unit at h u ≡ true → (h < at.agcount) × (8 * u + 7 < group_len_of at h)
unfolding has_unit
unit_lies at h u e = let v = and_parts (nat_lt h at.agcount) (nat_lt (8 * u + 7) (group_len_of at h)) e in (ltb-true h at.agcount v.0, ltb-true (8 * u + 7) (group_len_of at h) v.1)

old_verifies : (a : State) (g i ino uid b h u : ℕ) → HasFitting a.geometry → (m : MadeAt a g b) → split_of a.geometry (ino / 8) ≡ Some (g, b) → ((h == g) && (8 * u == b)) ≡ false → has_unit a.geometry h u ≡ true
    → unit_verifies a.geometry (taken g i ino uid (Some b) a).core h u ≡ unit_verifies a.geometry a.core h u
unfolding unit_verifies block_verifies
old_verifies a g i ino uid b h u fit m own out lies =
    let l = unit_lies a.geometry h u lies in
    same_up_to _ _ 8 (λ j jl. same_up_to _ _ 8 (λ s sl.
    let n : ℕ = inode_at a.geometry h (8 * u + j) s in
    let place : split_of a.geometry (n / 8) ≡ Some (h, 8 * u + j) = leads_back a.geometry h (8 * u + j) s fit sl l.0 (in_unit u j (group_len_of a.geometry h) l.1 jl) in
    let away : is_place g b 8 (split_of a.geometry (n / 8)) ≡ false = ap (is_place g b 8) place ∙ not_new h g u m.unit b j m.block jl out in
    ap verifies (taken_core a g i ino uid b n)
    ∙ ap (λ t. verifies (if n == ino then Some (core_with file_mode uid) else (if t then Some (core_with 0 0) else a.core n))) away
    ∙ ap (λ t. verifies (if t then Some (core_with file_mode uid) else a.core n)) (other n (n == ino) refl away)))
  where
    in_unit : (u j len : ℕ) → 8 * u + 7 < len → j < 8 → 8 * u + j < len
    in_unit u j len h l = omega (arith, h, l)

    there : ((g == g) && (nat_le b b && nat_lt b (b + 8))) ≡ true
    there = grind (arith, nat_tests)

    other : (n : ℕ) (t : Bool) → (n == ino) ≡ t → is_place g b 8 (split_of a.geometry (n / 8)) ≡ false → (n == ino) ≡ false
    other n false e away = e
    other n true e away = absurd (true≢false (sym (ap (λ k. is_place g b 8 (split_of a.geometry (k / 8))) (eqb-true n ino e) ∙ ap (is_place g b 8) own ∙ there) ∙ away))

-- ---- the law

new_listed : (x : State) (h u : ℕ) → has_unit x.geometry h u ≡ true → lists_unit u (records_in (x.group h) Ino) ≡ true → unit_verifies x.geometry x.core h u ≡ true → is_chunk x h u ≡ true
unfolding is_chunk is_listed ino_lists
new_listed x h u i l v = ap₂ (λ p q. p && q) (ap₂ (λ p q. p && q) i (ap (λ b. b || rmap_lists x h u) l)) v

is_unit : (at : Layout) (g v : ℕ) → g < at.agcount → v < group_len_of at g / 8 → has_unit at g v ≡ true
unfolding has_unit
is_unit at g v gl vl = ap₂ (λ x y. x && y) (lt-ltb g at.agcount gl) (lt-ltb (8 * v + 7) (group_len_of at g) (ends v (group_len_of at g) vl))
  where
    ends : (v len : ℕ) → v < len / 8 → 8 * v + 7 < len
    ends v len h = omega (arith, h)

-- the group behind the entry lists what the one with the chunk does
taken_group : (a : State) (g i ino uid b : ℕ) → SameLists (list_chunk b (owned_by_inodes g b (a.group g))) ((taken g i ino uid (Some b) a).group g)
unfolding taken
taken_group a g i ino uid b =
    let q : Group = list_chunk b (owned_by_inodes g b (a.group g)) in
    let s : State = make_chunk g (Some b) a in
    let t = bit_turned false i q in
    subst (SameLists q) (sym (in_itself g (λ p. inodes_follow (a.group g) (turn false i p)) s ∙ ap (λ (p : Group). inodes_follow (a.group g) (turn false i p)) (in_itself g (λ p. list_chunk b (owned_by_inodes g b p)) a))) (record { ino = t.ino; rmap = t.rmap })

taken_other : (a : State) (g i ino uid b h : ℕ) → (h == g) ≡ false → (taken g i ino uid (Some b) a).group h ≡ a.group h
unfolding taken
taken_other a g i ino uid b h out =
    beside.in_other g (λ p. inodes_follow (a.group g) (turn false i p)) (make_chunk g (Some b) a) h out ∙ beside.in_other g (λ p. list_chunk b (owned_by_inodes g b p)) a h out

far_block : (o : Bool) (b u j : ℕ) (v : ℕ) → 8 * v ≡ b → j < 8 → (8 * u == b) ≡ false → (o && nat_le b (8 * u + j) && nat_lt (8 * u + j) (b + 8)) ≡ false
far_block true b u j v e l out = grind (arith, nat_tests)
far_block false b u j v e l out = refl

other_lists : (a : State) (g i ino uid b h u : ℕ) → (m : MadeAt a g b) → is_readable ((a.group g).tree Ino).reading ≡ true → ((h == g) && (8 * u == b)) ≡ false
    → (lists_unit u (records_in ((taken g i ino uid (Some b) a).group h) Ino) ≡ lists_unit u (records_in (a.group h) Ino)) × (gives_unit u (records_in ((taken g i ino uid (Some b) a).group h) Rmap) ≡ gives_unit u (records_in (a.group h) Rmap))
other_lists a g i ino uid b h u m readable out = by (h == g) refl out
  where
    eighths : (x y : ℕ) → (8 * x == y) ≡ false → (8 * y == 64 * x) ≡ false
    eighths x y h = grind (arith, nat_tests)

    by : (t : Bool) → (h == g) ≡ t → (t && (8 * u == b)) ≡ false
        → (lists_unit u (records_in ((taken g i ino uid (Some b) a).group h) Ino) ≡ lists_unit u (records_in (a.group h) Ino)) × (gives_unit u (records_in ((taken g i ino uid (Some b) a).group h) Rmap) ≡ gives_unit u (records_in (a.group h) Rmap))
    by false e o = (ap (λ (p : Group). lists_unit u (records_in p Ino)) (taken_other a g i ino uid b h e), ap (λ (p : Group). gives_unit u (records_in p Rmap)) (taken_other a g i ino uid b h e))
    by true e o =
        let s = taken_group a g i ino uid b in
        let same : h ≡ g = eqb-true h g e in (
          ap (λ n. lists_unit u (records_in ((taken g i ino uid (Some b) a).group n) Ino)) same ∙ s.ino u ∙ made_inos g b u (a.group g) m.sound readable ∙ ap (λ t. t || lists_unit u (records_in (a.group g) Ino)) (eighths u b o) ∙ ap (λ n. lists_unit u (records_in (a.group n) Ino)) (sym same),
          ap (λ n. gives_unit u (records_in ((taken g i ino uid (Some b) a).group n) Rmap)) same ∙ s.rmap u
              ∙ same_up_to (λ j. any_gives (8 * u + j) (records_in (list_chunk b (owned_by_inodes g b (a.group g))) Rmap)) (λ j. any_gives (8 * u + j) (records_in (a.group g) Rmap)) 8 (λ j l. made_rmaps g b (8 * u + j) (a.group g) (far_block (number_of Inodes == 0xffff_ffff_ffff_fff9) b u j m.unit m.block l o))
              ∙ ap (λ n. gives_unit u (records_in (a.group n) Rmap)) (sym same),
        )

row_makes : (a : State) (g i ino uid b h u : ℕ) → HasFitting a.geometry → (m : MadeAt a g b) → is_readable ((a.group g).tree Ino).reading ≡ true → split_of a.geometry (ino / 8) ≡ Some (g, b)
    → is_chunk (taken g i ino uid (Some b) a) h u ≡ (is_chunk a h u || ((h == g) && (8 * u == b)))
row_makes a g i ino uid b h u fit m readable own = by ((h == g) && (8 * u == b)) refl
  where
    abbrev_free : (x : Bool) → x ≡ (x || false)
    abbrev_free true = refl
    abbrev_free false = refl

    always : (x : Bool) → true ≡ (x || true)
    always true = refl
    always false = refl

    eighth : (u v b : ℕ) → 8 * u ≡ b → 8 * v ≡ b → u ≡ v
    eighth u v b e f = omega (arith, e, f)

    times : (v b : ℕ) → 8 * v ≡ b → (8 * b == 64 * v) ≡ true
    times v b e = grind (arith, nat_tests)

    made : is_chunk (taken g i ino uid (Some b) a) g m.unit ≡ true
    made =
        let x : State = taken g i ino uid (Some b) a in
        new_listed x g m.unit (ap (λ (at : Layout). has_unit at g m.unit) (taken_geometry a g i ino uid b) ∙ is_unit a.geometry g m.unit m.group m.inside)
        ((taken_group a g i ino uid b).ino m.unit ∙ made_inos g b m.unit (a.group g) m.sound readable ∙ ap (λ t. t || lists_unit m.unit (records_in (a.group g) Ino)) (times m.unit b m.block))
        (ap (λ (at : Layout). unit_verifies at x.core g m.unit) (taken_geometry a g i ino uid b) ∙ new_verifies a g i ino uid b fit m)

    by : (t : Bool) → ((h == g) && (8 * u == b)) ≡ t → is_chunk (taken g i ino uid (Some b) a) h u ≡ (is_chunk a h u || t)
    by true e =
        let v = and_parts (h == g) (8 * u == b) e in
        ap₂ (is_chunk (taken g i ino uid (Some b) a)) (eqb-true h g v.0) (eighth u m.unit b (eqb-true (8 * u) b v.1) m.block) ∙ made ∙ always (is_chunk a h u)
    by false e =
        let l = other_lists a g i ino uid b h u m readable e in
        unit_by a (taken g i ino uid (Some b) a) h u (taken_geometry a g i ino uid b) l.0 l.1 (old_verifies a g i ino uid b h u fit m own e) ∙ abbrev_free (is_chunk a h u)

own_place : (a : State) (g b i ino : ℕ) → HasFitting a.geometry → (m : MadeAt a g b) → i ≡ 8 * b → ino ≡ inode_of a g i → split_of a.geometry (ino / 8) ≡ Some (g, b)
own_place a g b i ino fit m at is =
    ap (λ n. split_of a.geometry (n / 8)) (is ∙ ap (inode_of a g) at)
    ∙ leads_back a.geometry g (8 * b / 8) (8 * b % 8) fit (low b) m.group (inside m.unit b (group_len_of a.geometry g) m.block m.inside)
    ∙ ap (λ n. Some (g, n)) (eighth b)
  where
    low : (b : ℕ) → 8 * b % 8 < 8
    low b = omega arith

    eighth : (b : ℕ) → 8 * b / 8 ≡ b
    eighth b = omega arith

    inside : (v b len : ℕ) → 8 * v ≡ b → v < len / 8 → 8 * b / 8 < len
    inside v b len e h = omega (arith, e, h)

pub chunk_is_made : ChunkIsMade
chunk_is_made a b left writer ino uid block fit s readable h u =
    let g : ℕ = group_of_inode a ino in
    let m : MadeAt a g block = made_at a s.row.1.0 g block s.row.1.2 in
    s.loosely.inodes.chunks h u
    ∙ ap (λ (x : State). is_chunk x h u) s.row.3
    ∙ row_makes a g s.row.0 ino uid block h u fit m readable (own_place a g block s.row.0 ino fit m s.row.1.3 s.row.2)
