-- A switch leaves its group tidy: the new trees have the reserve's blocks, and what is lost was in no other part.
use Rattle.std.proofs.Common.{◌≡◌, ℕ, zero, suc, ◌+◌, ◌<◌, ◌≤◌, ◌==◌, ◌&&◌, Bool, true, false, cond, not, List, [], ◌∷◌, ◌++◌, drop, filter, map, take, refl, ap, sym, subst, ◌∙◌, inl, inr, arith}
use Rattle.std.specs.Prelude.{sum_by, if◌then◌else◌}
use Rattle.std.specs.List.{list_any}
use Rattle.std.proofs.lemmas.Bool.{and_parts, cases_eq, cases_lt, eq-eqb, false≢true, ne_eqb, not-true}
use Rattle.std.proofs.lemmas.List.{drop-drop}
use Rattle.std.proofs.lemmas.List.Sums.{sum_by-cons}
use Rattle.fs_change.proofs.Trees.{in_itself}
use Rattle.fs_change.specs.Parts.{sick_in}
use Rattle.fs_change.specs.Switch.{AreLaid, derived_in, empty_trees, exact_counters, hold, is_reserve_of, join_limbo, kind_need, limbo_of, lost_blocks, lost_owned, move_blocks, moved, need, owned_by, readable_blocks, switched, unclaimed, unit_owner, without_trees}
use Rattle.fs_state.specs.Claims.{claims}
use Rattle.fs_state.specs.Derive.{derive}
use Rattle.fs_state.specs.Records.{kinds_of}
use Rattle.fs_state.specs.Lists.{numbers}
use Rattle.fs_model.specs.declared.unit.Unit.{Unit as ScrubUnit}
use Rattle.fs_model.specs.declared.unit.Unit.TheVariants as units
use Rattle.fs_state.specs.Kinds.{RecOf}
use Rattle.fs_state.specs.State.{Group, Owned, Reading, Readable, State, Unreadable, blocks_in, blocks_of, is_readable}
use Rattle.geom.specs.Layout.{group_len_of}
use Rattle.law_repairs.proofs.Repair.Same.{in_numbers, passes}
use Rattle.law_repairs.proofs.Reserve.Reserved.{plain_owner}
use Rattle.rmap_recs.specs.Owners.{is_inode}
use Rattle.sblock.specs.declared.kind.Kind.{Kind}
use Rattle.sblock.specs.declared.kind.Kind.TheVariants.{Bno, Cnt, Rmap, Refc, Ino, Fino}
use Rattle.tree_defs.proofs.Counts.{times_append}
use Rattle.tree_defs.specs.Lists.{In, times}
use Rattle.law_repairs.proofs.Order.Entries.{reserve_owned, tidy_same, unit_is_other}
use Rattle.law_repairs.proofs.Order.Lists.{Every, every_both, every_map, every_of, times_in, times_of}
use Rattle.law_repairs.proofs.Order.Switching.{every_drop, every_pairs, in_new_blocks}
use Rattle.law_repairs.proofs.Order.Tidy.{IsTidy, IsTreeOwner, blocks_times, fewer_inside, fewer_once, held_of, held_times, none_claimed, pairs_less}

-- ---- lists

halves : (b n : ℕ) (xs : List ℕ) → times b (take n xs) + times b (drop n xs) ≡ times b xs
halves b zero xs = omega arith
halves b (suc n) [] = refl
halves b (suc n) (x ∷ xs) = let more = halves b n xs in omega (arith, more)

drop_blocks : (n : ℕ) (os : List Owned) → blocks_in (drop n os) ≡ drop n (blocks_in os)
drop_blocks zero os = refl
drop_blocks (suc n) [] = refl
drop_blocks (suc n) (o ∷ os) = drop_blocks n os

none_in_numbers : (b from n : ℕ) → b < from → times b (numbers from n) ≡ 0
none_in_numbers b from zero lt = refl
none_in_numbers b from (suc n) lt = let rest = none_in_numbers b (from + 1) n (omega (arith, lt)) in rw (ne_eqb from b (λ e. omega (arith, e, lt))) (omega (arith, rest))

numbers_once : (b from n : ℕ) → times b (numbers from n) ≤ 1
numbers_once b from zero = omega arith
numbers_once b from (suc n) = elim (cases_eq from b) [
  | inl e ↦ let none = none_in_numbers b (from + 1) n (omega (arith, e)) in rw (eq-eqb from b e) (omega (arith, none))
  | inr ne ↦ let rest = numbers_once b (from + 1) n in rw (ne_eqb from b ne) (omega (arith, rest))
]

passing_less : (t : ℕ → Bool) (b : ℕ) (xs : List ℕ) → times b (filter t xs) ≤ times b xs
passing_less t b [] = omega arith
passing_less t b (x ∷ xs) = let rest = passing_less t b xs in elim (t x) as (λ c. times b (cond c (x ∷ filter t xs) (filter t xs)) ≤ times b (x ∷ xs)) [ true ↦ omega (arith, rest) | false ↦ omega (arith, rest) ]

lost_times : (b w : ℕ) (bs : List ℕ) → times b (blocks_in (map (owned_by w) bs)) ≡ times b bs
lost_times b w [] = refl
lost_times b w (x ∷ xs) = ap (λ (n : ℕ). (if x == b then 1 else 0) + n) (lost_times b w xs)

-- ---- what is lost

-- these blocks differ, lie in the group, and none is among so many of others
record AreNew (len : ℕ) (base : ℕ → ℕ) (lost : List ℕ) : Type 0 where
  once : (b : ℕ) → times b lost ≤ 1
  other : (b : ℕ) → 1 ≤ times b lost → base b ≡ 0
  inside : (b : ℕ) → 1 ≤ times b lost → b < len

module _ (a : State) (g : ℕ) where
  -- the group, the unit's old trees aside
  others_are : (unit : ScrubUnit) → (without_trees a g unit).group g ≡ empty_trees (kinds_of unit) (a.group g)
  unfolding without_trees
  others_are unit = in_itself g (empty_trees (kinds_of unit)) a

  unclaimed_new : (unit : ScrubUnit) (test : ℕ → Bool) → AreNew (group_len_of a.geometry g) (λ b. times b (held_of (empty_trees (kinds_of unit) (a.group g)))) (unclaimed a g unit test)
  unclaimed_new unit test =
      let passing : ℕ → Bool = λ b. test b && not (list_any (λ c. c.block == b) (claims (without_trees a g unit) g)) in
      let all : List ℕ = numbers 0 (group_len_of a.geometry g) in
      let found : (b : ℕ) → 1 ≤ times b (unclaimed a g unit test) → (passing b ≡ true) × In b all = λ b some. passes passing all b (times_in b (unclaimed a g unit test) some) in
      record {
        once = λ b. (let less = passing_less passing b all in let one = numbers_once b 0 (group_len_of a.geometry g) in omega (arith, less, one));
        other = λ b some.
            let free = not-true (list_any (λ c. c.block == b) (claims (without_trees a g unit) g)) (and_parts (test b) (not (list_any (λ c. c.block == b) (claims (without_trees a g unit) g))) (found b some).0).1 in
            ap (λ (p : Group). times b (held_of p)) (sym (others_are unit)) ∙ none_claimed (without_trees a g unit) g b free;
        inside = λ b some. (let lt = in_numbers 0 (group_len_of a.geometry g) b (found b some).1 in omega (arith, lt));
      }

none_new : (len : ℕ) (base : ℕ → ℕ) → AreNew len base []
none_new len base = record { once = λ b. omega arith; other = λ b some. absurd (omega (arith, some)); inside = λ b some. absurd (omega (arith, some)) }

if_new : (len : ℕ) (base : ℕ → ℕ) (t : Bool) (lost : List ℕ) → AreNew len base lost → AreNew len base (if t then lost else [])
if_new len base true lost new = new
if_new len base false lost new = none_new len base

-- a group with these blocks more than a part of a tidy one
tidy_more : (len : ℕ) (p q : Group) (base : ℕ → ℕ) (lost : List ℕ) → AreNew len base lost → ((b : ℕ) → base b ≤ times b (held_of p)) → ((b : ℕ) → times b (held_of q) ≤ base b + times b lost)
    → ((k : Kind) → is_readable (q.tree k).reading ≡ false → sick_in q k ≡ true) → Every (λ (o : Owned). is_inode o.owner ≡ false) q.reserve → Every IsTreeOwner q.limbo → IsTidy len p → IsTidy len q
tidy_more len p q base lost new part less bad reserve limbo tidy = record {
  once = λ b. (let le = less b in let of = part b in let one = tidy.once b in let few = new.once b in elim (cases_lt (times b lost) 1) [
    | inl none ↦ omega (arith, le, of, one, none)
    | inr some ↦ (let zero_base = new.other b some in omega (arith, le, zero_base, few))
  ]);
  inside = λ b i. (let le = less b in let of = part b in let some = times_of b (held_of q) i in elim (cases_lt (times b lost) 1) [
    | inl none ↦ tidy.inside b (times_in b (held_of p) (omega (arith, le, of, some, none)))
    | inr there ↦ new.inside b there
  ]);
  bad = bad;
  reserve = reserve;
  limbo = limbo;
}

-- ---- the new trees

readable_less : {R : Type 0} (b : ℕ) (r : Reading R) → times b (readable_blocks r) ≤ times b (blocks_of r)
readable_less b (Readable recs blocks) = omega arith
readable_less b (Unreadable block fault claims) = omega arith

module _ (a : State) (g : ℕ) (unit : ScrubUnit) (blocks : Kind → List ℕ) where
  -- limbo has no more than what is lost, the rest of the reserve, and what was there
  joined_less : (b : ℕ) → times b (blocks_in (join_limbo (limbo_of a g unit) (a.group g).limbo)) ≤ (times b (lost_blocks a g unit) + times b (drop (need a g unit) (blocks_in (a.group g).reserve))) + times b (blocks_in (a.group g).limbo)
  unfolding limbo_of
  joined_less b =
      let rest = drop (need a g unit) (a.group g).reserve in
      let outer = pairs_less b (limbo_of a g unit ++ (a.group g).limbo) in
      let both = blocks_times b (limbo_of a g unit) (a.group g).limbo in
      let inner = pairs_less b (lost_owned a g unit ++ rest) in
      let two = blocks_times b (lost_owned a g unit) rest in
      let lost = lost_times b (unit_owner unit) (lost_blocks a g unit) in
      let dropped = ap (times b) (drop_blocks (need a g unit) (a.group g).reserve) in
      omega (arith, outer, both, inner, two, lost, dropped)

  joined_owned : is_reserve_of unit (a.group g) ≡ true → Every IsTreeOwner (a.group g).limbo → Every IsTreeOwner (join_limbo (limbo_of a g unit) (a.group g).limbo)
  unfolding limbo_of
  joined_owned own limbo =
      let rest = drop (need a g unit) (a.group g).reserve in
      every_pairs IsTreeOwner (limbo_of a g unit ++ (a.group g).limbo) (every_both IsTreeOwner (limbo_of a g unit) (a.group g).limbo
      (every_pairs IsTreeOwner (lost_owned a g unit ++ rest) (every_both IsTreeOwner (lost_owned a g unit) rest
      (every_map IsTreeOwner (owned_by (unit_owner unit)) (lost_blocks a g unit) (every_of (λ (b : ℕ). IsTreeOwner (owned_by (unit_owner unit) b)) (λ b. (plain_owner unit, unit_is_other unit)) (lost_blocks a g unit)))
      (every_drop IsTreeOwner (need a g unit) (a.group g).reserve (reserve_owned unit (a.group g) own)))) limbo)

one_need : (a : State) (g : ℕ) (unit : ScrubUnit) (k : Kind) → kinds_of unit ≡ k ∷ [] → need a g unit ≡ kind_need a g unit k
unfolding need
one_need a g unit k is = ap (sum_by (kind_need a g unit)) is ∙ (sum_by-cons (kind_need a g unit) k [] ∙ omega arith)

two_need : (a : State) (g : ℕ) (unit : ScrubUnit) (k j : Kind) → kinds_of unit ≡ k ∷ j ∷ [] → need a g unit ≡ kind_need a g unit k + kind_need a g unit j
unfolding need
two_need a g unit k j is =
    let one = sum_by-cons (kind_need a g unit) k (j ∷ []) in
    let two = sum_by-cons (kind_need a g unit) j [] in
    ap (sum_by (kind_need a g unit)) is ∙ (one ∙ (ap (λ (n : ℕ). kind_need a g unit k + n) two ∙ omega arith))

-- the blocks of one new tree, and of two, with what is left of the reserve
laid_one : (b : ℕ) (claimed new : List ℕ) (n m : ℕ) → m ≡ n → times b new ≡ times b (take n claimed) → times b new + times b (drop m claimed) ≡ times b claimed
laid_one b claimed new n m is same = let parts = halves b n claimed in let rest = ap (λ (x : ℕ). times b (drop x claimed)) is in omega (arith, parts, rest, same)

laid_two : (b : ℕ) (claimed new more : List ℕ) (n l m : ℕ) → m ≡ n + l → times b new ≡ times b (take n claimed) → times b more ≡ times b (take l (drop n claimed)) → (times b new + times b more) + times b (drop m claimed) ≡ times b claimed
laid_two b claimed new more n l m is same also =
    let first = halves b n claimed in
    let second = halves b l (drop n claimed) in
    let rest = ap (λ (x : ℕ). times b (drop x claimed)) is in
    let twice = ap (times b) (drop-drop l n claimed) in
    omega (arith, first, second, rest, twice, same, also)

-- ---- unit by unit

module _ (a : State) (g : ℕ) (blocks : Kind → List ℕ) (recs : (k : Kind) → List (RecOf k)) (tidy : IsTidy (group_len_of a.geometry g) (a.group g)) where
  one_kind : (unit : ScrubUnit) (k : Kind) → kinds_of unit ≡ k ∷ [] → AreLaid (kind_need a g unit) (kinds_of unit) (blocks_in (a.group g).reserve) blocks → (b : ℕ) → times b (blocks k) + times b (drop (need a g unit) (blocks_in (a.group g).reserve)) ≡ times b (blocks_in (a.group g).reserve)
  one_kind unit k is laid b =
      let here : AreLaid (kind_need a g unit) (k ∷ []) (blocks_in (a.group g).reserve) blocks = subst (λ (ks : List Kind). AreLaid (kind_need a g unit) ks (blocks_in (a.group g).reserve) blocks) is laid in
      laid_one b (blocks_in (a.group g).reserve) (blocks k) (kind_need a g unit k) (need a g unit) (one_need a g unit k is) (here.0.same b)

  two_kinds : (unit : ScrubUnit) (k j : Kind) → kinds_of unit ≡ k ∷ j ∷ [] → AreLaid (kind_need a g unit) (kinds_of unit) (blocks_in (a.group g).reserve) blocks → (b : ℕ) → (times b (blocks k) + times b (blocks j)) + times b (drop (need a g unit) (blocks_in (a.group g).reserve)) ≡ times b (blocks_in (a.group g).reserve)
  two_kinds unit k j is laid b =
      let here : AreLaid (kind_need a g unit) (k ∷ j ∷ []) (blocks_in (a.group g).reserve) blocks = subst (λ (ks : List Kind). AreLaid (kind_need a g unit) ks (blocks_in (a.group g).reserve) blocks) is laid in
      laid_two b (blocks_in (a.group g).reserve) (blocks k) (blocks j) (kind_need a g unit k) (kind_need a g unit j) (need a g unit) (two_need a g unit k j is) (here.0.same b) (here.1.0.same b)

  -- a readable tree isn't bad
  never_bad : {t : Bool} → true ≡ false → t ≡ true
  never_bad h = absurd (false≢true (sym h))

  bad_left : (unit : ScrubUnit) (k : Kind) → is_readable ((hold recs (kinds_of unit) (move_blocks a g unit blocks (a.group g))).tree k).reading ≡ false → sick_in (hold recs (kinds_of unit) (move_blocks a g unit blocks (a.group g))) k ≡ true
  bad_left units.Rmap Rmap h = never_bad h
  bad_left units.Rmap Bno h = tidy.bad Bno h
  bad_left units.Rmap Cnt h = tidy.bad Cnt h
  bad_left units.Rmap Refc h = tidy.bad Refc h
  bad_left units.Rmap Ino h = tidy.bad Ino h
  bad_left units.Rmap Fino h = tidy.bad Fino h
  bad_left units.Refc Refc h = never_bad h
  bad_left units.Refc Bno h = tidy.bad Bno h
  bad_left units.Refc Cnt h = tidy.bad Cnt h
  bad_left units.Refc Rmap h = tidy.bad Rmap h
  bad_left units.Refc Ino h = tidy.bad Ino h
  bad_left units.Refc Fino h = tidy.bad Fino h
  bad_left units.Free Bno h = never_bad h
  bad_left units.Free Cnt h = never_bad h
  bad_left units.Free Rmap h = tidy.bad Rmap h
  bad_left units.Free Refc h = tidy.bad Refc h
  bad_left units.Free Ino h = tidy.bad Ino h
  bad_left units.Free Fino h = tidy.bad Fino h
  bad_left units.Inode Ino h = never_bad h
  bad_left units.Inode Fino h = never_bad h
  bad_left units.Inode Bno h = tidy.bad Bno h
  bad_left units.Inode Cnt h = tidy.bad Cnt h
  bad_left units.Inode Rmap h = tidy.bad Rmap h
  bad_left units.Inode Refc h = tidy.bad Refc h

  part_rmap : (b : ℕ) → times b (held_of (empty_trees (kinds_of units.Rmap) (a.group g))) ≤ times b (held_of (a.group g))
  part_rmap b =
      let now = held_times b (empty_trees (kinds_of units.Rmap) (a.group g)) in
      let was = held_times b (a.group g) in
      let none_0 = ap (times b) (in_new_blocks [] ((a.group g).tree Rmap).reading) in
      omega (arith, now, was, none_0)

  less_rmap : AreLaid (kind_need a g units.Rmap) (kinds_of units.Rmap) (blocks_in (a.group g).reserve) blocks → (b : ℕ) → times b (held_of (hold recs (kinds_of units.Rmap) (move_blocks a g units.Rmap blocks (a.group g)))) ≤ times b (held_of (empty_trees (kinds_of units.Rmap) (a.group g))) + times b (lost_blocks a g units.Rmap)
  less_rmap laid b =
      let now = held_times b (hold recs (kinds_of units.Rmap) (move_blocks a g units.Rmap blocks (a.group g))) in
      let was = held_times b (empty_trees (kinds_of units.Rmap) (a.group g)) in
      let limbo = joined_less a g units.Rmap blocks b in
      let sum = one_kind units.Rmap Rmap refl laid b in
      let none_0 = ap (times b) (in_new_blocks [] ((a.group g).tree Rmap).reading) in
      let new_0 = ap (times b) (in_new_blocks (blocks Rmap) ((a.group g).tree Rmap).reading) in
      omega (arith, now, was, limbo, sum, none_0, new_0)

  part_refc : (b : ℕ) → times b (held_of (empty_trees (kinds_of units.Refc) (a.group g))) ≤ times b (held_of (a.group g))
  part_refc b =
      let now = held_times b (empty_trees (kinds_of units.Refc) (a.group g)) in
      let was = held_times b (a.group g) in
      let none_0 = ap (times b) (in_new_blocks [] ((a.group g).tree Refc).reading) in
      omega (arith, now, was, none_0)

  less_refc : AreLaid (kind_need a g units.Refc) (kinds_of units.Refc) (blocks_in (a.group g).reserve) blocks → (b : ℕ) → times b (held_of (hold recs (kinds_of units.Refc) (move_blocks a g units.Refc blocks (a.group g)))) ≤ times b (held_of (empty_trees (kinds_of units.Refc) (a.group g))) + times b (lost_blocks a g units.Refc)
  less_refc laid b =
      let now = held_times b (hold recs (kinds_of units.Refc) (move_blocks a g units.Refc blocks (a.group g))) in
      let was = held_times b (empty_trees (kinds_of units.Refc) (a.group g)) in
      let limbo = joined_less a g units.Refc blocks b in
      let sum = one_kind units.Refc Refc refl laid b in
      let none_0 = ap (times b) (in_new_blocks [] ((a.group g).tree Refc).reading) in
      let new_0 = ap (times b) (in_new_blocks (blocks Refc) ((a.group g).tree Refc).reading) in
      omega (arith, now, was, limbo, sum, none_0, new_0)

  part_free : (b : ℕ) → times b (held_of (empty_trees (kinds_of units.Free) (a.group g))) ≤ times b (held_of (a.group g))
  part_free b =
      let now = held_times b (empty_trees (kinds_of units.Free) (a.group g)) in
      let was = held_times b (a.group g) in
      let none_0 = ap (times b) (in_new_blocks [] ((a.group g).tree Bno).reading) in
      let none_1 = ap (times b) (in_new_blocks [] ((a.group g).tree Cnt).reading) in
      omega (arith, now, was, none_0, none_1)

  less_free : AreLaid (kind_need a g units.Free) (kinds_of units.Free) (blocks_in (a.group g).reserve) blocks → (b : ℕ) → times b (held_of (hold recs (kinds_of units.Free) (move_blocks a g units.Free blocks (a.group g)))) ≤ times b (held_of (empty_trees (kinds_of units.Free) (a.group g))) + times b (lost_blocks a g units.Free)
  less_free laid b =
      let now = held_times b (hold recs (kinds_of units.Free) (move_blocks a g units.Free blocks (a.group g))) in
      let was = held_times b (empty_trees (kinds_of units.Free) (a.group g)) in
      let limbo = joined_less a g units.Free blocks b in
      let sum = two_kinds units.Free Bno Cnt refl laid b in
      let none_0 = ap (times b) (in_new_blocks [] ((a.group g).tree Bno).reading) in
      let new_0 = ap (times b) (in_new_blocks (blocks Bno) ((a.group g).tree Bno).reading) in
      let none_1 = ap (times b) (in_new_blocks [] ((a.group g).tree Cnt).reading) in
      let new_1 = ap (times b) (in_new_blocks (blocks Cnt) ((a.group g).tree Cnt).reading) in
      omega (arith, now, was, limbo, sum, none_0, new_0, none_1, new_1)

  less_inode : AreLaid (kind_need a g units.Inode) (kinds_of units.Inode) (blocks_in (a.group g).reserve) blocks → (b : ℕ) → times b (held_of (hold recs (kinds_of units.Inode) (move_blocks a g units.Inode blocks (a.group g)))) ≤ times b (held_of (empty_trees (kinds_of units.Inode) (a.group g))) + times b (lost_blocks a g units.Inode)
  less_inode laid b =
      let now = held_times b (hold recs (kinds_of units.Inode) (move_blocks a g units.Inode blocks (a.group g))) in
      let was = held_times b (empty_trees (kinds_of units.Inode) (a.group g)) in
      let limbo = joined_less a g units.Inode blocks b in
      let sum = two_kinds units.Inode Ino Fino refl laid b in
      let none_0 = ap (times b) (in_new_blocks [] ((a.group g).tree Ino).reading) in
      let new_0 = ap (times b) (in_new_blocks (blocks Ino) ((a.group g).tree Ino).reading) in
      let none_1 = ap (times b) (in_new_blocks [] ((a.group g).tree Fino).reading) in
      let new_1 = ap (times b) (in_new_blocks (blocks Fino) ((a.group g).tree Fino).reading) in
      omega (arith, now, was, limbo, sum, none_0, new_0, none_1, new_1)

  -- the inode btrees' old blocks are theirs
  old_inodes : (b : ℕ) → times b (held_of (empty_trees (kinds_of units.Inode) (a.group g))) + times b (lost_blocks a g units.Inode) ≤ times b (held_of (a.group g))
  unfolding lost_blocks
  old_inodes b =
      let now = held_times b (empty_trees (kinds_of units.Inode) (a.group g)) in
      let was = held_times b (a.group g) in
      let none_0 = ap (times b) (in_new_blocks [] ((a.group g).tree Ino).reading) in
      let none_1 = ap (times b) (in_new_blocks [] ((a.group g).tree Fino).reading) in
      let first = times_append b (readable_blocks ((a.group g).tree Ino).reading) (readable_blocks ((a.group g).tree Fino).reading ++ []) in
      let second = times_append b (readable_blocks ((a.group g).tree Fino).reading) [] in
      let one = readable_less b ((a.group g).tree Ino).reading in
      let two = readable_less b ((a.group g).tree Fino).reading in
      omega (arith, now, was, none_0, none_1, first, second, one, two)

  lost_rmap : AreNew (group_len_of a.geometry g) (λ b. times b (held_of (empty_trees (kinds_of units.Rmap) (a.group g)))) (lost_blocks a g units.Rmap)
  unfolding lost_blocks
  lost_rmap = if_new (group_len_of a.geometry g) (λ b. times b (held_of (empty_trees (kinds_of units.Rmap) (a.group g)))) (is_readable ((a.group g).tree Bno).reading) _ (unclaimed_new a g units.Rmap _)

  lost_free : AreNew (group_len_of a.geometry g) (λ b. times b (held_of (empty_trees (kinds_of units.Free) (a.group g)))) (lost_blocks a g units.Free)
  unfolding lost_blocks
  lost_free = unclaimed_new a g units.Free _

  lost_refc : AreNew (group_len_of a.geometry g) (λ b. times b (held_of (empty_trees (kinds_of units.Refc) (a.group g)))) (lost_blocks a g units.Refc)
  unfolding lost_blocks
  lost_refc = unclaimed_new a g units.Refc _

  tidy_turned : (unit : ScrubUnit) → is_reserve_of unit (a.group g) ≡ true → AreLaid (kind_need a g unit) (kinds_of unit) (blocks_in (a.group g).reserve) blocks → IsTidy (group_len_of a.geometry g) (hold recs (kinds_of unit) (move_blocks a g unit blocks (a.group g)))
  tidy_turned units.Rmap own laid = tidy_more (group_len_of a.geometry g) (a.group g) (hold recs (kinds_of units.Rmap) (move_blocks a g units.Rmap blocks (a.group g))) (λ b. times b (held_of (empty_trees (kinds_of units.Rmap) (a.group g)))) (lost_blocks a g units.Rmap) lost_rmap part_rmap (less_rmap laid) (bad_left units.Rmap) tt (joined_owned a g units.Rmap blocks own tidy.limbo) tidy
  tidy_turned units.Refc own laid = tidy_more (group_len_of a.geometry g) (a.group g) (hold recs (kinds_of units.Refc) (move_blocks a g units.Refc blocks (a.group g))) (λ b. times b (held_of (empty_trees (kinds_of units.Refc) (a.group g)))) (lost_blocks a g units.Refc) lost_refc part_refc (less_refc laid) (bad_left units.Refc) tt (joined_owned a g units.Refc blocks own tidy.limbo) tidy
  tidy_turned units.Free own laid = tidy_more (group_len_of a.geometry g) (a.group g) (hold recs (kinds_of units.Free) (move_blocks a g units.Free blocks (a.group g))) (λ b. times b (held_of (empty_trees (kinds_of units.Free) (a.group g)))) (lost_blocks a g units.Free) lost_free part_free (less_free laid) (bad_left units.Free) tt (joined_owned a g units.Free blocks own tidy.limbo) tidy
  tidy_turned units.Inode own laid =
      let less : (b : ℕ) → times b (held_of (hold recs (kinds_of units.Inode) (move_blocks a g units.Inode blocks (a.group g)))) ≤ times b (held_of (a.group g)) = λ b. (let one = less_inode laid b in let two = old_inodes b in omega (arith, one, two)) in
      record {
        once = fewer_once (held_of (a.group g)) (held_of (hold recs (kinds_of units.Inode) (move_blocks a g units.Inode blocks (a.group g)))) less tidy.once;
        inside = fewer_inside (group_len_of a.geometry g) (held_of (a.group g)) (held_of (hold recs (kinds_of units.Inode) (move_blocks a g units.Inode blocks (a.group g)))) less tidy.inside;
        bad = bad_left units.Inode;
        reserve = tt;
        limbo = joined_owned a g units.Inode blocks own tidy.limbo;
      }

-- counters aside the switched group is that
switched_group : (a : State) (g : ℕ) (unit : ScrubUnit) (blocks : Kind → List ℕ) → (switched a g unit blocks).group g ≡ record (hold (derive (moved a g unit blocks) g) (kinds_of unit) (move_blocks a g unit blocks (a.group g))) { counters = exact_counters (derived_in (moved a g unit blocks) g unit) g unit }
unfolding switched moved
switched_group a g unit blocks =
    let m : State = moved a g unit blocks in
    let d : State = derived_in m g unit in
    in_itself g (λ p. record p { counters = exact_counters d g unit }) d
    ∙ ap (λ (p : Group). record p { counters = exact_counters d g unit }) (in_itself g (hold (derive m g) (kinds_of unit)) m ∙ ap (hold (derive m g) (kinds_of unit)) (in_itself g (move_blocks a g unit blocks) a))

pub tidy_switched : (a : State) (g : ℕ) (unit : ScrubUnit) (blocks : Kind → List ℕ) → is_reserve_of unit (a.group g) ≡ true → AreLaid (kind_need a g unit) (kinds_of unit) (blocks_in (a.group g).reserve) blocks → IsTidy (group_len_of a.geometry g) (a.group g)
    → IsTidy (group_len_of a.geometry g) ((switched a g unit blocks).group g)
tidy_switched a g unit blocks own laid tidy =
    let recs = derive (moved a g unit blocks) g in
    let turned : Group = hold recs (kinds_of unit) (move_blocks a g unit blocks (a.group g)) in
    let t = tidy_turned a g blocks recs tidy unit own laid in
    subst (IsTidy (group_len_of a.geometry g)) (sym (switched_group a g unit blocks))
    (tidy_same (group_len_of a.geometry g) turned (record turned { counters = exact_counters (derived_in (moved a g unit blocks) g unit) g unit }) refl (λ k. refl) refl refl t.bad t)
