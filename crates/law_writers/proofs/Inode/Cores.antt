-- What an entry does to the cores of a group, and what both inode btrees should hold behind it.
use Rattle.std.proofs.Common.{◌≡◌, ℕ, zero, suc, ◌+◌, ◌*◌, ◌^◌, ◌<◌, ◌≤◌, ◌==◌, ◌&&◌, ◌||◌, Bool, true, false, cond, nat_lt, List, [], ◌∷◌, ◌++◌, drop, map, filter, Option, Some, refl, sym, ap, ap₂, ◌∙◌, inl, inr, arith}
use Rattle.std.specs.Prelude.{◌/◌, ◌%◌, sum_by, if◌then◌else◌}
use Rattle.std.proofs.lemmas.Bool.{cases_lt, and_parts, ltb-true}
use Rattle.std.proofs.lemmas.Bool.Decides.{nat_tests}
use Rattle.byte_fields.proofs.BelowLemmas.{each_below}
use Rattle.law_writers.proofs.Change.Members.{leads_back}
use Rattle.fs_change.proofs.Alike.{recs_at}
use Rattle.fs_change.proofs.Trees.{edited}
use Rattle.fs_change.specs.Loose.{Inside, count_used, lost_in}
use Rattle.fs_change.specs.Met.{give_each, take_each}
use Rattle.fs_change.specs.Parts.{in_blocks, in_trees, records_in}
use Rattle.fs_change.specs.Records.{put_chunk}
use Rattle.fs_state.specs.Chunks.{chunks, inode_in}
use Rattle.fs_state.specs.Derive.{chunk_record, fino_of, ino_of, is_free}
use Rattle.fs_state.specs.Lists.{numbers}
use Rattle.fs_state.specs.Apart.{block_verifies, has_unit, in_chunk, ino_lists, is_chunk, is_inode, is_listed, rmap_lists, unit_verifies, verifies}
use Rattle.fs_state.specs.Edits.{number_of as kind_number}
use Rattle.fs_state.specs.State.{CoreState, Group, Reading, Readable, State, Unreadable, recs_of}
use Rattle.geom.specs.Apart.{HasFitting}
use Rattle.geom.specs.Layout.{group_len_of, split_of}
use Rattle.ino_recs.specs.declared.chunk.InoRec.{InoRec}
use Rattle.sblock.specs.declared.kind.Kind.{Kind}
use Rattle.sblock.specs.declared.kind.Kind.TheVariants.{Rmap}
use Rattle.law_writers.proofs.Inode.Turned.{AreTurned, IsTurned, Rise, above_all, above_filter, is_ahead, over, put_front, rec_of, sum_same}

-- ---- which inodes of a group are free, by their numbers in it

abbrev pub free_in : (ℕ → Option CoreState) → ℕ → ℕ → ℕ → Bool
free_in core l g n = is_free (core (g * 2 ^ l * 8 + n))

pub unit_number : (a : State) (g u j : ℕ) → inode_in a g u j ≡ g * 2 ^ a.geometry.agblklog * 8 + (64 * u + j)
unit_number a g u j = by (g * 2 ^ a.geometry.agblklog) u j
  where
    by : (x u j : ℕ) → (x + (8 * u + j / 8)) * 8 + j % 8 ≡ x * 8 + (64 * u + j)
    by x u j = omega arith

recs_by : (a : State) (g u : ℕ) → chunk_record a g u ≡ rec_of 64 (free_in a.core a.geometry.agblklog g) u
recs_by a g u =
    λ p. record { startino = 64 * u; holemask = 0; count = 64; freecount = sum_by (λ j. if is_free (a.core (unit_number a g u j p)) then 1 else 0) (numbers 0 64); free = sum_by (λ j. if is_free (a.core (unit_number a g u j p)) then 2 ^ j else 0) (numbers 0 64) }

pub ino_is : (a : State) (g : ℕ) → ino_of a g ≡ map (rec_of 64 (free_in a.core a.geometry.agblklog g)) (chunks a g)
unfolding ino_of
ino_is a g = λ p. map (λ u. recs_by a g u p) (chunks a g)

pub fino_is : (a : State) (g : ℕ) → fino_of a g ≡ filter (λ r. nat_lt 0 r.freecount) (map (rec_of 64 (free_in a.core a.geometry.agblklog g)) (chunks a g))
unfolding fino_of
fino_is a g = ap (filter (λ (r : InoRec). nat_lt 0 r.freecount)) (ino_is a g)

-- ---- chunks

pub chunks_by : (a b : State) (g : ℕ) (p : ℕ → Bool) → b.geometry ≡ a.geometry → ((u : ℕ) → is_chunk b g u ≡ p u) → chunks b g ≡ filter p (numbers 0 (group_len_of a.geometry g / 8))
unfolding chunks
chunks_by a b g p at same = λ i. filter (λ u. same u i) (numbers 0 (group_len_of (at i) g / 8))

pub own_chunks : (a : State) (g : ℕ) → chunks a g ≡ filter (is_chunk a g) (numbers 0 (group_len_of a.geometry g / 8))
unfolding chunks
own_chunks a g = refl

pub rise_filter : (p : ℕ → Bool) (from n : ℕ) → Rise from (filter p (numbers from n))
rise_filter p from zero = tt
rise_filter p from (suc n) = elim (p from) as (λ b. Rise from (cond b (from ∷ filter p (numbers (from + 1) n)) (filter p (numbers (from + 1) n)))) [
  | true ↦ (omega arith, rise_filter p (from + 1) n)
  | false ↦ weaker (filter p (numbers (from + 1) n)) (rise_filter p (from + 1) n)
]
  where
    weaker : (us : List ℕ) → Rise (from + 1) us → Rise from us
    weaker [] r = tt
    weaker (u ∷ us) r = (omega (arith, r.0), r.1)

pub turned_filter : (to_free : Bool) (i : ℕ) (f h : ℕ → Bool) (p : ℕ → Bool) (us : List ℕ) → ((u : ℕ) → p u ≡ true → IsTurned to_free i f h u) → AreTurned 64 refl to_free i f h (filter p us)
turned_filter to_free i f h p [] t = tt
turned_filter to_free i f h p (u ∷ us) t = (elim (p u) as (λ b. p u ≡ b → AreTurned 64 refl to_free i f h (cond b (u ∷ filter p us) (filter p us))) [
  | true ↦ λ e. (t u e, turned_filter to_free i f h p us t)
  | false ↦ λ e. turned_filter to_free i f h p us t
]) refl

-- ---- the inodes of a chunk

record OfChunk (a : State) (g u : ℕ) : Type 0 where
  pub group : g < a.geometry.agcount
  pub ends : 8 * u + 7 < group_len_of a.geometry g
  pub cores : unit_verifies a.geometry a.core g u ≡ true

of_chunk : (a : State) (g u : ℕ) → is_chunk a g u ≡ true → OfChunk a g u
unfolding is_chunk is_listed has_unit
of_chunk a g u h =
    let listed = and_parts (has_unit a.geometry g u && (ino_lists a g u || rmap_lists a g u)) (unit_verifies a.geometry a.core g u) h in
    let lies = and_parts (has_unit a.geometry g u) (ino_lists a g u || rmap_lists a g u) listed.0 in
    let ends = and_parts (nat_lt g a.geometry.agcount) (nat_lt (8 * u + 7) (group_len_of a.geometry g)) lies.0 in
    record { group = ltb-true g a.geometry.agcount ends.0; ends = ltb-true (8 * u + 7) (group_len_of a.geometry g) ends.1; cores = listed.1 }

pub leads : (a : State) (g u j : ℕ) → HasFitting a.geometry → is_chunk a g u ≡ true → j < 64 → split_of a.geometry (inode_in a g u j / 8) ≡ Some (g, 8 * u + j / 8)
leads a g u j fit h l =
    let c = of_chunk a g u h in
    leads_back a.geometry g (8 * u + j / 8) (j % 8) fit (slot j) c.group (inside u j (group_len_of a.geometry g) c.ends l)
  where
    slot : (j : ℕ) → j % 8 < 8
    slot j = omega arith

    inside : (u j len : ℕ) → 8 * u + 7 < len → j < 64 → 8 * u + j / 8 < len
    inside u j len h l = omega (arith, h, l)

its_unit : (u j : ℕ) → j < 64 → (8 * u + j / 8) / 8 ≡ u
its_unit u j l = omega (arith, l)

pub chunk_inode : (a : State) (g u j : ℕ) → HasFitting a.geometry → is_chunk a g u ≡ true → j < 64 → is_inode a (inode_in a g u j) ≡ true
unfolding is_inode
chunk_inode a g u j fit h l = ap (in_chunk a) (leads a g u j fit h l) ∙ ap (is_chunk a g) (its_unit u j l) ∙ h

pub chunk_verifies : (a : State) (g u j : ℕ) → is_chunk a g u ≡ true → j < 64 → verifies (a.core (inode_in a g u j)) ≡ true
unfolding unit_verifies block_verifies
chunk_verifies a g u j h l =
    each_below _ 8 (j % 8) (each_below _ 8 (j / 8) (of_chunk a g u h).cores (eighth j l)) (slot j)
  where
    slot : (j : ℕ) → j % 8 < 8
    slot j = omega arith

    eighth : (j : ℕ) → j < 64 → j / 8 < 8
    eighth j l = omega (arith, l)

-- ---- blocks that move leave records

put_blocks : {R : Type 0} (blocks : List ℕ) (r : Reading R) → recs_of (in_blocks blocks r) ≡ recs_of r
put_blocks blocks (Readable recs old) = refl
put_blocks blocks (Unreadable block fault claims) = refl

in_place : (blocks : Kind → List ℕ) (ks : List Kind) (p : Group) (k : Kind) → records_in (in_trees blocks ks p) k ≡ records_in p k
in_place blocks [] p k = refl
in_place blocks (j ∷ ks) p k =
    let q : Group = in_trees blocks ks p in
    recs_at j k (record (q.tree j) { reading = in_blocks (blocks j) (q.tree j).reading }) q.tree (put_blocks (blocks j) (q.tree j).reading) ∙ in_place blocks ks p k

pub open_records : (kept : Bool) (left ks : List Kind) (p q : Group) (k : Kind) → (kind_number Rmap == kind_number k) ≡ false → Inside kept left ks p q → records_in q k ≡ records_in p k
open_records kept left [] p q k other m = ap (λ (r : Group). records_in r k) m
open_records kept left (j ∷ ks) p q k other m =
    let r : Group = record (in_trees m.blocks (j ∷ ks) p) { free_list = drop (count_used p.free_list q.free_list) p.free_list ++ m.freed; limbo = m.limbo } in
    ap (λ (s : Group). records_in s k) m.is
    ∙ ap (λ t. recs_of t.reading) (edited left Rmap k (λ recs. give_each (lost_in r p) (take_each (lost_in p r) recs)) r other)
    ∙ in_place m.blocks (j ∷ ks) p k

-- ---- a chunk that is new: from v on, 64 free inodes

module _ (f k : ℕ → Bool) (v : ℕ) (beside : (u j : ℕ) → (u == v) ≡ false → j < 64 → k (64 * u + j) ≡ f (64 * u + j)) where
  others_same : (u : ℕ) → (u == v) ≡ false → rec_of 64 f u ≡ rec_of 64 k u
  others_same u out =
      let each : (w : ℕ → ℕ) → over 64 f w u ≡ over 64 k w u = λ w. sum_same _ _ 0 64 (λ j l m. ap (λ b. if b then w j else 0) (sym (beside u j out m))) in
      λ p. record { startino = 64 * u; holemask = 0; count = 64; freecount = each (λ j. 1) p; free = each (λ j. 2 ^ j) p }

  later : (v u from : ℕ) → v < from → from ≤ u → (u == v) ≡ false
  later v u from l m = grind (arith, nat_tests)

  later_same : (from : ℕ) (us : List ℕ) → Rise from us → v < from → map (rec_of 64 f) us ≡ map (rec_of 64 k) us
  later_same from [] r l = refl
  later_same from (u ∷ us) r l = ap₂ (λ (x : InoRec) (xs : List InoRec). x ∷ xs) (others_same u (later v u from l r.0)) (later_same (u + 1) us r.1 (omega (arith, l, r.0)))

  module _ (p q : ℕ → Bool) (keep : InoRec → Bool) (new : keep (rec_of 64 k v) ≡ true) (absent : p v ≡ false) (there : q v ≡ true) (same : (u : ℕ) → (u == v) ≡ false → q u ≡ p u) where
    no_self : (from n : ℕ) → v < from → filter q (numbers from n) ≡ filter p (numbers from n)
    no_self from zero l = refl
    no_self from (suc n) l = ap₂ (λ b (xs : List ℕ). if b then from ∷ xs else xs) (same from (later v from from l (omega arith))) (no_self (from + 1) n (omega (arith, l)))

    abbrev had : ℕ → ℕ → List InoRec
    had from n = filter keep (map (rec_of 64 f) (filter p (numbers from n)))

    abbrev has_now : ℕ → ℕ → List InoRec
    has_now from n = filter keep (map (rec_of 64 k) (filter q (numbers from n)))

    at_front : (from n : ℕ) → v < from → put_chunk (rec_of 64 k v) (had from n) ≡ rec_of 64 k v ∷ has_now from n
    at_front from n l =
        put_front (rec_of 64 k v) (had from n) (above_filter (64 * v) keep (map (rec_of 64 f) (filter p (numbers from n))) (above_all 64 (64 * v) from f (filter p (numbers from n)) (rise_filter p from n) (omega (arith, l))))
        ∙ ap (λ (xs : List InoRec). rec_of 64 k v ∷ filter keep xs) (later_same from (filter p (numbers from n)) (rise_filter p from n) l ∙ ap (map (rec_of 64 k)) (sym (no_self from n l)))

    apart : (x y : ℕ) → x < y → (x == y) ≡ false
    apart x y l = grind (arith, nat_tests)

    pub chunk_put : (from n : ℕ) → from ≤ v → v < from + n → put_chunk (rec_of 64 k v) (had from n) ≡ has_now from n
    chunk_put from zero l m = absurd (omega (arith, l, m))
    chunk_put from (suc n) l m = elim (cases_lt from v) [
      | inl before ↦
          let rest = chunk_put (from + 1) n (omega (arith, before)) (omega (arith, m)) in
          by_unit from n before rest (p from)
          ∙ ap (λ b. filter keep (map (rec_of 64 k) (if b then from ∷ filter q (numbers (from + 1) n) else filter q (numbers (from + 1) n)))) (sym (same from (apart from v before)))
      | inr now ↦
          let here : from ≡ v = omega (arith, l, now) in
          ap (λ b. put_chunk (rec_of 64 k v) (filter keep (map (rec_of 64 f) (if b then from ∷ filter p (numbers (from + 1) n) else filter p (numbers (from + 1) n))))) (ap p here ∙ absent)
          ∙ at_front (from + 1) n (omega (arith, here))
          ∙ ap (λ b. if b then rec_of 64 k v ∷ has_now (from + 1) n else has_now (from + 1) n) (sym new)
          ∙ ap (λ u. filter keep (rec_of 64 k u ∷ map (rec_of 64 k) (filter q (numbers (from + 1) n)))) (sym here)
          ∙ ap (λ b. filter keep (map (rec_of 64 k) (if b then from ∷ filter q (numbers (from + 1) n) else filter q (numbers (from + 1) n)))) (sym (ap q here ∙ there))
    ]
      where
        past : (from n : ℕ) → from < v → put_chunk (rec_of 64 k v) (had (from + 1) n) ≡ has_now (from + 1) n → (b : Bool)
            → put_chunk (rec_of 64 k v) (if b then rec_of 64 f from ∷ had (from + 1) n else had (from + 1) n) ≡ (if b then rec_of 64 f from ∷ has_now (from + 1) n else has_now (from + 1) n)
        past from n l rest true =
            ap (λ b. if b then rec_of 64 f from ∷ put_chunk (rec_of 64 k v) (had (from + 1) n) else rec_of 64 k v ∷ rec_of 64 f from ∷ had (from + 1) n) (is_ahead (64 * from) (64 * v) (omega (arith, l)))
            ∙ ap (λ (xs : List InoRec). rec_of 64 f from ∷ xs) rest
        past from n l rest false = rest

        by_unit : (from n : ℕ) → from < v → put_chunk (rec_of 64 k v) (had (from + 1) n) ≡ has_now (from + 1) n → (b : Bool)
            → put_chunk (rec_of 64 k v) (filter keep (map (rec_of 64 f) (if b then from ∷ filter p (numbers (from + 1) n) else filter p (numbers (from + 1) n))))
            ≡ filter keep (map (rec_of 64 k) (if b then from ∷ filter q (numbers (from + 1) n) else filter q (numbers (from + 1) n)))
        by_unit from n l rest true =
            past from n l rest (keep (rec_of 64 f from))
            ∙ ap (λ (x : InoRec). if keep x then x ∷ has_now (from + 1) n else has_now (from + 1) n) (others_same from (apart from v l))
        by_unit from n l rest false = rest
