-- How many claims on a block there are once a chunk is made.
use Rattle.std.proofs.Common.{◌≡◌, ℕ, zero, suc, ◌+◌, ◌*◌, ◌<◌, ◌≤◌, ◌==◌, ◌&&◌, ◌||◌, Bool, true, false, cond, nat_le, nat_lt, List, [], ◌∷◌, ◌++◌, map, filter, flat_map, Some, refl, sym, ap, ap₂, subst, ◌∙◌, arith, eqb-true, eq-eqb}
use Rattle.std.specs.Prelude.{◌/◌, ◌%◌, Result, sum_by, if◌then◌else◌}
use Rattle.std.proofs.lemmas.Bool.{true≢false}
use Rattle.std.proofs.lemmas.Bool.Decides.{nat_tests}
use Rattle.std.proofs.lemmas.List.Sums.{sum_by-append, sum_by-cons}
use Rattle.law_accounts.specs.Account.Accounts.{alone_at, at_span, hits, owned_at}
use Rattle.law_accounts.proofs.Account.Framed.{SameParts, both_parts, edit_parts}
use Rattle.law_writers.proofs.Change.Made.{MadeAt, chunk_is_made, made_at}
use Rattle.law_writers.proofs.Change.Members.{leads_back}
use Rattle.law_writers.proofs.Change.Newly.{NewAt, forks_behind, new_at, none_before}
use Rattle.dinode_core.specs.declared.mapping.Fork.{Fork}
use Rattle.dinode_core.specs.declared.mapping.Fork.TheVariants as forks
use Rattle.dinode_core.specs.declared.mapping.ForkFault.{ForkFault}
use Rattle.fs_change.proofs.Beside as beside
use Rattle.fs_change.proofs.Stays.{stays}
use Rattle.fs_change.proofs.Trees.{in_itself}
use Rattle.fs_change.specs.Changes.{chunk_extent, free_chunk, give_owner, inodes_follow, list_chunk, make_chunk, plain_run, take_free, taken, turn}
use Rattle.fs_change.specs.Edited.{edited_in, group_of_entry}
use Rattle.fs_change.specs.Laws.{AreWords}
use Rattle.fs_change.specs.Parts.{edit, is_place, no_forks, records_in, stands_in}
use Rattle.fs_change.specs.Records.{follow_inode, give_mapping, put_chunk, turn_inode}
use Rattle.fs_change.specs.Step.{Step, group_of_inode}
use Rattle.fs_state.specs.Chunks.{chunks, inode_in, inodes, inodes_in}
use Rattle.fs_state.specs.Claims.{Claimed, attribute, attribute_claims, claimed_by, claims, data_claims, fork_claims, fork_tree_claims, log_claims, mapping_claims, read_fork, tree_claims}
use Rattle.fs_state.specs.Contradiction.{is_written_data}
use Rattle.fs_state.specs.Records.{all_kinds, tree_owner}
use Rattle.fs_state.specs.Lists.{numbers}
use Rattle.fs_model.specs.declared.claim.Claim.TheVariants.{Attr, Chunk, Data, Heads, Limbo, Reserve, Tree}
use Rattle.fs_model.specs.declared.entry.Entry.{Entry}
use Rattle.fs_model.specs.declared.entry.Entry.TheVariants as entries
use Rattle.fs_model.specs.declared.entry.Extent.{Extent}
use Rattle.fs_state.specs.Apart.{is_chunk, is_inode}
use Rattle.fs_state.specs.State.{ForkList, Group, Owned, State, is_readable}
use Rattle.geom.specs.Apart.{HasFitting}
use Rattle.geom.specs.Layout.{group_len_of, inode_at, split_of}
use Rattle.law_writers.proofs.Inode.Cores.{chunk_inode, own_chunks}
use Rattle.rmap_recs.specs.Owners.{number_of}
use Rattle.rmap_recs.specs.declared.owner.Owner.TheVariants.{Fs, Inodes}
use Rattle.sblock.specs.declared.kind.Kind.{Kind}
use Rattle.sblock.specs.declared.kind.Kind.TheVariants.{Fino, Ino, Rmap}
use Rattle.tree_defs.specs.Lists.{times}
use Rattle.law_writers.proofs.Fork.Forks.{flat_sum}
use Rattle.law_writers.proofs.Run.Listed.{all_sum, chunk_part, limbo_part, list_part, lone, metadata_sum, reserve_part, times_numbers, tree_part}
use Rattle.law_writers.proofs.Fork.Rows.{taken_parts}
use Rattle.law_writers.specs.Fork.Counted.{Gains}
use Rattle.law_writers.specs.Run.Runs.{ChunkClaims}
use Rattle.law_writers.specs.Run.Found.{IsMade}

-- ---- sums over units of which one is new

-- one more passes, and of the others each counts as before
module _ (U V : ℕ → ℕ) (p q : ℕ → Bool) (v : ℕ) (absent : p v ≡ false) (there : q v ≡ true) (same : (u : ℕ) → (u == v) ≡ false → q u ≡ p u) (alike : (u : ℕ) → p u ≡ true → V u ≡ U u) where
  none_new : (from n : ℕ) → v < from → sum_by V (filter q (numbers from n)) ≡ sum_by U (filter p (numbers from n))
  none_new from zero l = refl
  none_new from (suc n) l = by (p from) refl (none_new (from + 1) n (omega (arith, l)))
    where
      later : (from : ℕ) → v < from → (from == v) ≡ false
      later from l = grind (arith, nat_tests)

      by : (b : Bool) → p from ≡ b → sum_by V (filter q (numbers (from + 1) n)) ≡ sum_by U (filter p (numbers (from + 1) n))
          → sum_by V (cond (q from) (from ∷ filter q (numbers (from + 1) n)) (filter q (numbers (from + 1) n))) ≡ sum_by U (cond b (from ∷ filter p (numbers (from + 1) n)) (filter p (numbers (from + 1) n)))
      by true e rest =
          ap (λ t. sum_by V (cond t (from ∷ filter q (numbers (from + 1) n)) (filter q (numbers (from + 1) n)))) (same from (later from l) ∙ e)
          ∙ sum_by-cons V from (filter q (numbers (from + 1) n)) ∙ ap₂ (λ x y. x + y) (alike from e) rest ∙ sym (sum_by-cons U from (filter p (numbers (from + 1) n)))
      by false e rest = ap (λ t. sum_by V (cond t (from ∷ filter q (numbers (from + 1) n)) (filter q (numbers (from + 1) n)))) (same from (later from l) ∙ e) ∙ rest

  pub one_new : (from n : ℕ) → from ≤ v → v < from + n → sum_by V (filter q (numbers from n)) ≡ sum_by U (filter p (numbers from n)) + V v
  one_new from zero l m = absurd (omega (arith, l, m))
  one_new from (suc n) l m = by_place (from == v) refl (λ o. one_new (from + 1) n (further from l o) (omega (arith, m)))
    where
      further : (from : ℕ) → from ≤ v → (from == v) ≡ false → from + 1 ≤ v
      further from l o = grind (arith, nat_tests)

      turn : (x y : ℕ) → x + y ≡ y + x
      turn x y = omega arith

      along : (x y z w : ℕ) → w ≡ y + z → x + w ≡ x + y + z
      along x y z w e = omega (arith, e)

      by : (b : Bool) → p from ≡ b → (from == v) ≡ false → sum_by V (filter q (numbers (from + 1) n)) ≡ sum_by U (filter p (numbers (from + 1) n)) + V v
          → sum_by V (cond (q from) (from ∷ filter q (numbers (from + 1) n)) (filter q (numbers (from + 1) n))) ≡ sum_by U (cond b (from ∷ filter p (numbers (from + 1) n)) (filter p (numbers (from + 1) n))) + V v
      by true e o rest =
          ap (λ t. sum_by V (cond t (from ∷ filter q (numbers (from + 1) n)) (filter q (numbers (from + 1) n)))) (same from o ∙ e)
          ∙ sum_by-cons V from (filter q (numbers (from + 1) n)) ∙ ap (λ x. x + sum_by V (filter q (numbers (from + 1) n))) (alike from e)
          ∙ along (U from) (sum_by U (filter p (numbers (from + 1) n))) (V v) _ rest ∙ ap (λ x. x + V v) (sym (sum_by-cons U from (filter p (numbers (from + 1) n))))
      by false e o rest = ap (λ t. sum_by V (cond t (from ∷ filter q (numbers (from + 1) n)) (filter q (numbers (from + 1) n)))) (same from o ∙ e) ∙ rest

      by_place : (t : Bool) → (from == v) ≡ t → ((from == v) ≡ false → sum_by V (filter q (numbers (from + 1) n)) ≡ sum_by U (filter p (numbers (from + 1) n)) + V v)
          → sum_by V (cond (q from) (from ∷ filter q (numbers (from + 1) n)) (filter q (numbers (from + 1) n))) ≡ sum_by U (cond (p from) (from ∷ filter p (numbers (from + 1) n)) (filter p (numbers (from + 1) n))) + V v
      by_place true o rest =
          let here : from ≡ v = eqb-true from v o in
          ap (λ t. sum_by V (cond t (from ∷ filter q (numbers (from + 1) n)) (filter q (numbers (from + 1) n)))) (ap q here ∙ there)
          ∙ sum_by-cons V from (filter q (numbers (from + 1) n)) ∙ ap₂ (λ x y. V x + y) here (none_new (from + 1) n (omega (arith, here))) ∙ turn (V v) (sum_by U (filter p (numbers (from + 1) n)))
          ∙ ap (λ t. sum_by U (cond t (from ∷ filter p (numbers (from + 1) n)) (filter p (numbers (from + 1) n))) + V v) (sym (ap p here ∙ absent))
      by_place false o rest = by (p from) refl o (rest o)

-- the same units, each of which counts as before
same_units : (U V : ℕ → ℕ) (p : ℕ → Bool) (us : List ℕ) → ((u : ℕ) → p u ≡ true → V u ≡ U u) → sum_by V (filter p us) ≡ sum_by U (filter p us)
same_units U V p [] e = refl
same_units U V p (u ∷ us) e = (elim (p u) as (λ b. p u ≡ b → sum_by V (cond b (u ∷ filter p us) (filter p us)) ≡ sum_by U (cond b (u ∷ filter p us) (filter p us))) [
  | true ↦ λ h. sum_by-cons V u (filter p us) ∙ ap₂ (λ x y. x + y) (e u h) (same_units U V p us e) ∙ sym (sum_by-cons U u (filter p us))
  | false ↦ λ h. same_units U V p us e
]) refl

-- ---- blocks of a unit

owned_unit : (b : ℕ) (bs : List ℕ) → owned_at b (map (claimed_by Chunk (number_of Inodes)) bs) ≡ times b bs
owned_unit b [] = refl
owned_unit b (c ∷ bs) = sum_by-cons (λ (x : Claimed). if x.block == b then 1 else 0) (claimed_by Chunk (number_of Inodes) c) (map (claimed_by Chunk (number_of Inodes)) bs) ∙ ap (λ z. (if c == b then 1 else 0) + z) (owned_unit b bs)

lone_one : (b c : ℕ) → lone b (claimed_by Chunk (number_of Inodes) c) ≡ (if c == b then 1 else 0)
unfolding is_written_data
lone_one b c = by (c == b)
  where
    by : (x : Bool) → ◌≡◌ {A = ℕ} (if x && true then 1 else 0) (if x then 1 else 0)
    by true = refl
    by false = refl

lone_unit : (b : ℕ) (bs : List ℕ) → alone_at b (map (claimed_by Chunk (number_of Inodes)) bs) ≡ times b bs
lone_unit b [] = refl
lone_unit b (c ∷ bs) = sum_by-cons (lone b) (claimed_by Chunk (number_of Inodes) c) (map (claimed_by Chunk (number_of Inodes)) bs) ∙ ap₂ (λ x y. x + y) (lone_one b c) (lone_unit b bs)

-- ---- inodes by groups, units and numbers

number_sum : (W : ℕ → ℕ) (f : ℕ → List ℕ) (xs : List ℕ) → sum_by W (flat_map f xs) ≡ sum_by (λ y. sum_by W (f y)) xs
number_sum W f [] = refl
number_sum W f (y ∷ ys) = sum_by-append W (f y) (flat_map f ys) ∙ ap (λ z. sum_by W (f y) + z) (number_sum W f ys) ∙ sym (sum_by-cons (λ z. sum_by W (f z)) y ys)

abbrev of_unit : State → (ℕ → ℕ) → ℕ → ℕ → ℕ
of_unit a W h u = sum_by W (map (inode_in a h u) (numbers 0 64))

abbrev of_group : State → (ℕ → ℕ) → ℕ → ℕ
of_group a W h = sum_by (of_unit a W h) (chunks a h)

by_groups : (W : ℕ → ℕ) (a : State) → sum_by W (inodes a) ≡ sum_by (of_group a W) (numbers 0 a.geometry.agcount)
unfolding inodes inodes_in
by_groups W a = number_sum W (λ h. flat_map (λ u. map (inode_in a h u) (numbers 0 64)) (chunks a h)) (numbers 0 a.geometry.agcount) ∙ (λ i. sum_by (λ h. number_sum W (λ u. map (inode_in a h u) (numbers 0 64)) (chunks a h) i) (numbers 0 a.geometry.agcount))

each_number : (W V : ℕ → ℕ) (f : ℕ → ℕ) (j n : ℕ) → ((k : ℕ) → k < j + n → V (f k) ≡ W (f k)) → sum_by V (map f (numbers j n)) ≡ sum_by W (map f (numbers j n))
each_number W V f j zero e = refl
each_number W V f j (suc n) e =
    sum_by-cons V (f j) (map f (numbers (j + 1) n)) ∙ ap₂ (λ x y. x + y) (e j (omega arith)) (each_number W V f (j + 1) n (λ k l. e k (omega (arith, l)))) ∙ sym (sum_by-cons W (f j) (map f (numbers (j + 1) n)))

all_zero : (W : ℕ → ℕ) (f : ℕ → ℕ) (j n : ℕ) → ((k : ℕ) → k < j + n → W (f k) ≡ 0) → sum_by W (map f (numbers j n)) ≡ 0
all_zero W f j zero e = refl
all_zero W f j (suc n) e = sum_by-cons W (f j) (map f (numbers (j + 1) n)) ∙ ap₂ (λ x y. x + y) (e j (omega arith)) (all_zero W f (j + 1) n (λ k l. e k (omega (arith, l))))

sums_alike : (U V : ℕ → ℕ) (xs : List ℕ) → ((x : ℕ) → V x ≡ U x) → sum_by V xs ≡ sum_by U xs
sums_alike U V xs e = λ i. sum_by (λ x. e x i) xs

-- ---- an entry that makes a chunk

pub made_group : (a : State) (g i ino uid c : ℕ) → (taken g i ino uid (Some c) a).group g ≡ inodes_follow (a.group g) (turn false i (list_chunk c (give_owner [] (number_of Inodes) (chunk_extent g c) (take_free [] (chunk_extent g c) (a.group g)))))
unfolding taken
made_group a g i ino uid c =
    in_itself g (λ q. inodes_follow (a.group g) (turn false i q)) (make_chunk g (Some c) a)
    ∙ ap (λ (q : Group). inodes_follow (a.group g) (turn false i q)) (in_itself g (λ p. list_chunk c (give_owner [] (number_of Inodes) (chunk_extent g c) (take_free [] (chunk_extent g c) p))) a)

pub made_parts : (g i c : ℕ) (p : Group) → SameParts p (inodes_follow p (turn false i (list_chunk c (give_owner [] (number_of Inodes) (chunk_extent g c) (take_free [] (chunk_extent g c) p)))))
made_parts g i c p =
    let e : Extent = chunk_extent g c in
    let q : Group = take_free [] e p in
    let r : Group = give_owner [] (number_of Inodes) e q in
    let s : Group = edit [] Ino (put_chunk (free_chunk c)) r in
    let t : Group = list_chunk c r in
    let u : Group = edit [] Ino (turn_inode false i) t in
    let one = both_parts p q r (taken_parts [] e p) (edit_parts [] Rmap (give_mapping (plain_run (number_of Inodes) e)) q) in
    let two = both_parts p r t one (both_parts r s t (edit_parts [] Ino (put_chunk (free_chunk c)) r) (edit_parts [] Fino (put_chunk (free_chunk c)) s)) in
    let three = both_parts p t (turn false i t) two (both_parts t u (turn false i t) (edit_parts [] Ino (turn_inode false i) t) (edit_parts [] Fino (follow_inode i (turn_inode false i (records_in t Ino))) u)) in
    record { list = three.list; blocks = λ k. three.blocks k; reserve = three.reserve; limbo = three.limbo }

module _ (a x : State) (left : List Kind) (writer ino uid c : ℕ) (fit : HasFitting a.geometry) (s : Step a left (entries.Taken writer ino uid (Some c)) x) (is : x ≡ taken (group_of_inode a ino) s.row.0 ino uid (Some c) a) (at : x.geometry ≡ a.geometry)
    (readable : is_readable ((a.group (group_of_inode a ino)).tree Ino).reading ≡ true) where
  abbrev g : ℕ
  g = group_of_inode a ino

  m : MadeAt a g c
  m = made_at a s.row.1.0 g c s.row.1.2

  made : (h u : ℕ) → is_chunk x h u ≡ (is_chunk a h u || ((h == g) && (8 * u == c)))
  made = chunk_is_made a x left writer ino uid c fit s readable

  or_none : (y : Bool) → (y || false) ≡ y
  or_none true = refl
  or_none false = refl

  or_one : (y : Bool) → (y || true) ≡ true
  or_one true = refl
  or_one false = refl

  eighth : (u v n : ℕ) → 8 * v ≡ n → (u == v) ≡ false → (8 * u == n) ≡ false
  eighth u v n d out = grind (arith, nat_tests)

  only_new : (u : ℕ) → (u == m.unit) ≡ false → is_chunk x g u ≡ is_chunk a g u
  only_new u out = made g u ∙ ap₂ (λ y z. is_chunk a g u || (y && z)) (eq-eqb g g refl) (eighth u m.unit c m.block out) ∙ or_none (is_chunk a g u)

  now_there : is_chunk x g m.unit ≡ true
  now_there = made g m.unit ∙ ap₂ (λ y z. is_chunk a g m.unit || (y && z)) (eq-eqb g g refl) (eq-eqb (8 * m.unit) c m.block) ∙ or_one (is_chunk a g m.unit)

  absent : is_chunk a g m.unit ≡ false
  absent = none_before a x left writer ino uid c s m

  others : (h : ℕ) → (h == g) ≡ false → (u : ℕ) → is_chunk x h u ≡ is_chunk a h u
  others h out u = made h u ∙ ap (λ t. is_chunk a h u || (t && (8 * u == c))) out ∙ or_none (is_chunk a h u)

  -- the units of a group
  chunks_then : (h : ℕ) → chunks x h ≡ filter (is_chunk x h) (numbers 0 (group_len_of a.geometry h / 8))
  chunks_then h = own_chunks x h ∙ (λ i. filter (is_chunk x h) (numbers 0 (group_len_of (at i) h / 8)))

  -- what counts of units of metadata
  units_more : (F : Claimed → ℕ) → sum_by F (chunk_part (chunks x g)) ≡ sum_by F (chunk_part (chunks a g)) + sum_by F (map (claimed_by Chunk (number_of Inodes)) (numbers (8 * m.unit) 8))
  units_more F =
      let D : ℕ → List Claimed = λ u. map (claimed_by Chunk (number_of Inodes)) (numbers (8 * u) 8) in
      flat_sum F D (chunks x g) ∙ ap (sum_by (λ u. sum_by F (D u))) (chunks_then g)
      ∙ one_new (λ u. sum_by F (D u)) (λ u. sum_by F (D u)) (is_chunk a g) (is_chunk x g) m.unit absent now_there only_new (λ u d. refl) 0 (group_len_of a.geometry g / 8) (omega arith) (low m.unit (group_len_of a.geometry g / 8) m.inside)
      ∙ ap (λ us. sum_by (λ u. sum_by F (D u)) us + sum_by F (D m.unit)) (sym (own_chunks a g))
      ∙ ap (λ z. z + sum_by F (D m.unit)) (sym (flat_sum F D (chunks a g)))
    where
      low : (v n : ℕ) → v < n → v < 0 + n
      low v n l = omega (arith, l)

  -- ---- forks

  fork_then : (n : ℕ) → x.fork n ≡ (if stands_in a g c 8 n then no_forks else a.fork n)
  fork_then n = ap (λ (y : State). y.fork n) is ∙ forks_behind a g s.row.0 ino uid c n

  -- an inode that was there has its forks
  old_fork : (n : ℕ) → is_inode a n ≡ true → x.fork n ≡ a.fork n
  old_fork n there = by (stands_in a g c 8 n) refl
    where
      by : (t : Bool) → stands_in a g c 8 n ≡ t → x.fork n ≡ a.fork n
      by true e = absurd (true≢false (sym there ∙ (new_at a x left writer ino uid c n fit s readable).gone e))
      by false e = fork_then n ∙ ap (λ t. if t then no_forks else a.fork n) e

  -- one of the chunk has none
  new_fork : (j : ℕ) → j < 64 → x.fork (inode_in a g m.unit j) ≡ no_forks
  new_fork j l =
      let place : split_of a.geometry (inode_in a g m.unit j / 8) ≡ Some (g, 8 * m.unit + j / 8) = leads_back a.geometry g (8 * m.unit + j / 8) (j % 8) fit (slot j) m.group (inside m.unit j (group_len_of a.geometry g) m.inside l) in
      fork_then (inode_in a g m.unit j)
      ∙ ap (λ t. if t then no_forks else a.fork (inode_in a g m.unit j)) (ap (is_place g c 8) place ∙ ap₂ (λ y z. y && z) (eq-eqb g g refl) (in_it m.unit j c m.block l))
    where
      slot : (j : ℕ) → j % 8 < 8
      slot j = omega arith

      inside : (v j len : ℕ) → v < len / 8 → j < 64 → 8 * v + j / 8 < len
      inside v j len h k = omega (arith, h, k)

      in_it : (v j n : ℕ) → 8 * v ≡ n → j < 64 → (nat_le n (8 * v + j / 8) && nat_lt (8 * v + j / 8) (n + 8)) ≡ true
      in_it v j n d k = grind (arith, nat_tests)

  -- a sum over inodes that is read off their forks, and is 0 where there are none
  module _ (W : (Fork → Result ForkList ForkFault) → ℕ → ℕ) (none : (n : ℕ) → W no_forks n ≡ 0) where
    abbrev was : ℕ → ℕ
    was n = W (a.fork n) n

    abbrev now : ℕ → ℕ
    now n = W (x.fork n) n

    numbers_alike : (h u : ℕ) → is_chunk a h u ≡ true → of_unit x now h u ≡ of_unit a was h u
    numbers_alike h u d =
        (λ i. sum_by now (map (λ j. inode_at (at i) h (8 * u + j / 8) (j % 8)) (numbers 0 64)))
        ∙ each_number was now (inode_in a h u) 0 64 (λ j l. ap (λ (f : Fork → Result ForkList ForkFault). W f (inode_in a h u j)) (old_fork (inode_in a h u j) (chunk_inode a h u j fit d l)))

    new_none : of_unit x now g m.unit ≡ 0
    new_none =
        (λ i. sum_by now (map (λ j. inode_at (at i) g (8 * m.unit + j / 8) (j % 8)) (numbers 0 64)))
        ∙ all_zero now (inode_in a g m.unit) 0 64 (λ j l. ap (λ (f : Fork → Result ForkList ForkFault). W f (inode_in a g m.unit j)) (new_fork j l) ∙ none (inode_in a g m.unit j))

    group_alike : (h : ℕ) → of_group x now h ≡ of_group a was h
    group_alike h = ap (sum_by (of_unit x now h)) (chunks_then h) ∙ by (h == g) refl ∙ ap (sum_by (of_unit a was h)) (sym (own_chunks a h))
      where
        low : (v n : ℕ) → v < n → v < 0 + n
        low v n l = omega (arith, l)

        plain : (k z : ℕ) → z ≡ 0 → k + z ≡ k
        plain k z e = omega (arith, e)

        own : sum_by (of_unit x now g) (filter (is_chunk x g) (numbers 0 (group_len_of a.geometry g / 8))) ≡ sum_by (of_unit a was g) (filter (is_chunk a g) (numbers 0 (group_len_of a.geometry g / 8)))
        own =
            one_new (of_unit a was g) (of_unit x now g) (is_chunk a g) (is_chunk x g) m.unit absent now_there only_new (λ u d. numbers_alike g u d) 0 (group_len_of a.geometry g / 8) (omega arith) (low m.unit (group_len_of a.geometry g / 8) m.inside)
            ∙ plain _ _ new_none

        by : (t : Bool) → (h == g) ≡ t → sum_by (of_unit x now h) (filter (is_chunk x h) (numbers 0 (group_len_of a.geometry h / 8))) ≡ sum_by (of_unit a was h) (filter (is_chunk a h) (numbers 0 (group_len_of a.geometry h / 8)))
        by true e =
            subst (λ k. sum_by (of_unit x now k) (filter (is_chunk x k) (numbers 0 (group_len_of a.geometry k / 8))) ≡ sum_by (of_unit a was k) (filter (is_chunk a k) (numbers 0 (group_len_of a.geometry k / 8)))) (sym (eqb-true h g e)) own
        by false e =
            (λ i. sum_by (of_unit x now h) (filter (λ u. others h e u i) (numbers 0 (group_len_of a.geometry h / 8))))
            ∙ same_units (of_unit a was h) (of_unit x now h) (is_chunk a h) (numbers 0 (group_len_of a.geometry h / 8)) (λ u d. numbers_alike h u d)

    pub inodes_alike : sum_by now (inodes x) ≡ sum_by was (inodes a)
    inodes_alike =
        by_groups now x ∙ (λ i. sum_by (of_group x now) (numbers 0 (at i).agcount)) ∙ sums_alike (of_group a was) (of_group x now) (numbers 0 a.geometry.agcount) group_alike ∙ sym (by_groups was a)

  -- ---- all claims of its group

  forks_sum : (F : Claimed → ℕ) (h : ℕ) → sum_by F (fork_claims x h) ≡ sum_by F (fork_claims a h)
  unfolding fork_claims
  forks_sum F h =
      sum_by-append F (flat_map (data_claims x h) (inodes x) ++ flat_map (attribute_claims x h) (inodes x)) (flat_map (tree_claims x h) (inodes x))
      ∙ ap₂ (λ y z. y + z)
      (sum_by-append F (flat_map (data_claims x h) (inodes x)) (flat_map (attribute_claims x h) (inodes x))
      ∙ ap₂ (λ y z. y + z)
      (flat_sum F (data_claims x h) (inodes x) ∙ (λ i. sum_by (λ n. sum_by F (mapping_claims (at i) h (Data n) n 0 (read_fork (x.fork n forks.Data)).mappings)) (inodes x))
      ∙ inodes_alike (λ f n. sum_by F (mapping_claims a.geometry h (Data n) n 0 (read_fork (f forks.Data)).mappings)) (λ n. refl) ∙ sym (flat_sum F (data_claims a h) (inodes a)))
      (flat_sum F (attribute_claims x h) (inodes x) ∙ (λ i. sum_by (λ n. sum_by F (mapping_claims (at i) h (Attr n) n attribute (read_fork (x.fork n forks.Attr)).mappings)) (inodes x))
      ∙ inodes_alike (λ f n. sum_by F (mapping_claims a.geometry h (Attr n) n attribute (read_fork (f forks.Attr)).mappings)) (λ n. refl) ∙ sym (flat_sum F (attribute_claims a h) (inodes a)))
      ∙ sym (sum_by-append F (flat_map (data_claims a h) (inodes a)) (flat_map (attribute_claims a h) (inodes a))))
      (flat_sum F (tree_claims x h) (inodes x)
      ∙ (λ i. sum_by (λ n. sum_by F (fork_tree_claims (at i) h n 0 (read_fork (x.fork n forks.Data)).blocks ++ fork_tree_claims (at i) h n attribute (read_fork (x.fork n forks.Attr)).blocks)) (inodes x))
      ∙ inodes_alike (λ f n. sum_by F (fork_tree_claims a.geometry h n 0 (read_fork (f forks.Data)).blocks ++ fork_tree_claims a.geometry h n attribute (read_fork (f forks.Attr)).blocks)) (λ n. refl)
      ∙ sym (flat_sum F (tree_claims a h) (inodes a)))
      ∙ sym (sum_by-append F (flat_map (data_claims a h) (inodes a) ++ flat_map (attribute_claims a h) (inodes a)) (flat_map (tree_claims a h) (inodes a)))

  parts : SameParts (a.group g) (x.group g)
  parts = subst (SameParts (a.group g)) (sym (ap (λ (y : State). y.group g) is ∙ made_group a g s.row.0 ino uid c)) (made_parts g s.row.0 c (a.group g))

  all_more : (F : Claimed → ℕ) (d : ℕ) → sum_by F (map (claimed_by Chunk (number_of Inodes)) (numbers (8 * m.unit) 8)) ≡ d → sum_by F (claims x g) ≡ sum_by F (claims a g) + d
  all_more F d e =
      sums _ _ _ _ _ _ _ _ _ _ _ d
      (all_sum F x g ∙ ap₂ (λ y z. y + z)
      (metadata_sum F x g
      ∙ (λ i. ((((sum_by F (claimed_by Heads (number_of Fs) 0 ∷ log_claims (at i).log g) + sum_by F (list_part (parts.list i))) + sum_by F (flat_map (λ k. map (claimed_by (Tree k) (tree_owner k)) (parts.blocks k i)) all_kinds))
      + sum_by F (map (λ (o : Owned). claimed_by Reserve o.owner o.block) (parts.reserve i))) + sum_by F (map (λ (o : Owned). claimed_by Limbo o.owner o.block) (parts.limbo i))) + sum_by F (chunk_part (chunks x g))))
      (forks_sum F g))
      (all_sum F a g ∙ ap (λ z. z + sum_by F (fork_claims a g)) (metadata_sum F a g)) (units_more F) e
    where
      sums : (y z h l t r o c k f n d : ℕ) → y ≡ (((((h + l) + t) + r) + o) + c) + f → z ≡ (((((h + l) + t) + r) + o) + k) + f → c ≡ k + n → n ≡ d → y ≡ z + d
      sums y z h l t r o c k f n d p q i j = omega (arith, p, q, i, j)

  -- and of another group
  group_then : (h : ℕ) → (h == g) ≡ false → x.group h ≡ a.group h
  group_then h out = (beside.changes_one_group a x left (entries.Taken writer ino uid (Some c)) s).groups h out

  units_then : (h : ℕ) → (h == g) ≡ false → chunks x h ≡ chunks a h
  units_then h out = chunks_then h ∙ (λ i. filter (λ u. others h out u i) (numbers 0 (group_len_of a.geometry h / 8))) ∙ sym (own_chunks a h)

  all_same : (F : Claimed → ℕ) (h : ℕ) → (h == g) ≡ false → sum_by F (claims x h) ≡ sum_by F (claims a h)
  all_same F h out =
      all_sum F x h
      ∙ ap₂ (λ y z. y + z)
      (metadata_sum F x h
      ∙ (λ i. ((((sum_by F (claimed_by Heads (number_of Fs) 0 ∷ log_claims (at i).log h) + sum_by F (list_part (group_then h out i).free_list)) + sum_by F (tree_part (group_then h out i))) + sum_by F (reserve_part (group_then h out i)))
      + sum_by F (limbo_part (group_then h out i))) + sum_by F (chunk_part (units_then h out i)))
      ∙ sym (metadata_sum F a h))
      (forks_sum F h)
      ∙ sym (all_sum F a h)

  pub others_gain : (h b : ℕ) → (h == g) ≡ false → Gains a x h b 0 0
  others_gain h b out = record { owned_then = all_same (λ (k : Claimed). if k.block == b then 1 else 0) h out ∙ none (owned_at b (claims a h)); alone_then = all_same (lone b) h out ∙ none (alone_at b (claims a h)) }
    where
      none : (n : ℕ) → n ≡ n + 0
      none n = omega arith

  its_hits : (b : ℕ) → times b (numbers (8 * m.unit) 8) ≡ hits g b (chunk_extent g c)
  its_hits b = ap (λ n. times b (numbers n 8)) m.block ∙ times_numbers b c 8 ∙ ap (λ t. if t then at_span c 8 b else 0) (sym (eq-eqb g g refl))

  gains : (b : ℕ) → Gains a x g b (hits g b (chunk_extent g c)) (hits g b (chunk_extent g c))
  gains b = record {
    owned_then = all_more (λ (k : Claimed). if k.block == b then 1 else 0) (hits g b (chunk_extent g c)) (owned_unit b (numbers (8 * m.unit) 8) ∙ its_hits b);
    alone_then = all_more (lone b) (hits g b (chunk_extent g c)) (lone_unit b (numbers (8 * m.unit) 8) ∙ its_hits b);
  }

-- what each inode that was there maps, and that it is one still
pub record KeepsInodes (a x : State) : Type 0 where
  pub geometry : x.geometry ≡ a.geometry
  pub inodes : (n : ℕ) → is_inode a n ≡ true → is_inode x n ≡ true
  pub forks : (n : ℕ) → is_inode a n ≡ true → x.fork n ≡ a.fork n

pub chunk_keeps : (a x : State) (left : List Kind) (writer ino uid c : ℕ) → HasFitting a.geometry → IsMade a x left (entries.Taken writer ino uid (Some c)) → AreWords (x.group (group_of_inode a ino))
    → is_readable ((a.group (group_of_inode a ino)).tree Ino).reading ≡ true → KeepsInodes a x
chunk_keeps a x left writer ino uid c fit made words readable =
    let e : Entry = entries.Taken writer ino uid (Some c) in
    let s : Step a left e x = record { decided = x; row = made.row; leaves = made.leaves; met = made.met; uncut = λ asked same. refl; loosely = stays (group_of_entry a e) left (edited_in a left e) a x words } in
    let at : x.geometry ≡ a.geometry = (beside.changes_one_group a x left e s).geometry in
    record {
      geometry = at;
      inodes = λ n is. by n is (stands_in a (group_of_inode a ino) c 8 n) refl (new_at a x left writer ino uid c n fit s readable);
      forks = λ n is. old_fork a x left writer ino uid c fit s made.row.3 at readable n is;
    }
  where
    by : (n : ℕ) → is_inode a n ≡ true → (t : Bool) → stands_in a (group_of_inode a ino) c 8 n ≡ t → NewAt a x (group_of_inode a ino) c n → is_inode x n ≡ true
    by n is true q k = absurd (true≢false (sym is ∙ k.gone q))
    by n is false q k = k.stay q ∙ is

-- no other group gains a claim
pub chunk_elsewhere : (a x : State) (left : List Kind) (writer ino uid c h b : ℕ) → HasFitting a.geometry → IsMade a x left (entries.Taken writer ino uid (Some c)) → AreWords (x.group (group_of_inode a ino))
    → is_readable ((a.group (group_of_inode a ino)).tree Ino).reading ≡ true → (h == group_of_inode a ino) ≡ false → Gains a x h b 0 0
chunk_elsewhere a x left writer ino uid c h b fit made words readable out =
    let e : Entry = entries.Taken writer ino uid (Some c) in
    let s : Step a left e x = record { decided = x; row = made.row; leaves = made.leaves; met = made.met; uncut = λ asked same. refl; loosely = stays (group_of_entry a e) left (edited_in a left e) a x words } in
    others_gain a x left writer ino uid c fit s made.row.3 ((beside.changes_one_group a x left e s).geometry) readable h b out

pub chunk_claims : ChunkClaims
chunk_claims a x left writer ino uid c b fit made words readable =
    let e : Entry = entries.Taken writer ino uid (Some c) in
    let s : Step a left e x = record { decided = x; row = made.row; leaves = made.leaves; met = made.met; uncut = λ asked same. refl; loosely = stays (group_of_entry a e) left (edited_in a left e) a x words } in
    gains a x left writer ino uid c fit s made.row.3 ((beside.changes_one_group a x left e s).geometry) readable b
