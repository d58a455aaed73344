-- A bit of a chunk's mask that turns, in both btrees, and cores.
use Rattle.std.proofs.Common.{◌≡◌, ℕ, zero, suc, ◌+◌, ◌-◌, ◌^◌, ◌<◌, ◌≤◌, Bool, true, false, cond, not, ◌&&◌, ◌||◌, List, [], ◌∷◌, ◌++◌, Option, Some, None, refl, sym, ap, ◌∙◌, arith, inl, inr}
use Rattle.std.specs.Prelude.{◌==◌, nat_lt, filter, find, map, option_map, if◌then◌else◌}
use Rattle.std.specs.Int.{bit_at}
use Rattle.std.specs.List.{list_any}
use Rattle.std.proofs.lemmas.Bool.{cases_lt, true≢false}
use Rattle.std.proofs.lemmas.Bool.Decides.{nat_tests}
use Rattle.dinode_core.specs.declared.inode.Core3.{Core3}
use Rattle.ino_recs.specs.declared.chunk.InoRec.{InoRec}
use Rattle.inode_table.specs.Cores.{fresh_file, free_core, given_back}
use Rattle.inode_table.specs.Masks.{fino_of}
use Rattle.inode_table.proofs.MaskLemmas.{sum_more}
use Rattle.fs_state.specs.Lists.{numbers}
use Rattle.fs_change.specs.Choice.{is_bit}
use Rattle.fs_change.specs.Records.{follow_inode, has_inode, put_all, put_chunk, turn_inode, turned}
use Rattle.rule_laws.specs.Inodes.{CoresAlike, FindsLowest, FindsNone, GivesInode, MakesAlike, TakesInode, TurnsAlike, with_listed}

-- ---- a chunk's record

place_is : (start slot : ℕ) → start + slot - start ≡ slot
place_is start slot = omega arith

less : (a b p : ℕ) → a ≡ b + p → b ≡ a - p
less a b p h = omega (arith, h)

pub takes_inode : TakesInode
takes_inode r new slot free h =
    let more : r.free ≡ new.free + 2 ^ slot = sum_more new.free r.free slot (record { clear = h.turned; set = free.set; others = λ i other. sym (h.others i other) }) in
    h.only
    ∙ ap (λ (m : ℕ). record r { freecount = r.freecount - 1; free = m }) (less r.free new.free (2 ^ slot) more ∙ ap (λ (k : ℕ). r.free - 2 ^ k) (sym (place_is r.startino slot)))

pub gives_inode : GivesInode
gives_inode r new slot clear h =
    let more : new.free ≡ r.free + 2 ^ slot = sum_more r.free new.free slot (record { clear = clear; set = h.turned; others = h.others }) in
    h.only
    ∙ ap (λ (m : ℕ). record r { freecount = r.freecount + 1; free = m }) (more ∙ ap (λ (k : ℕ). r.free + 2 ^ k) (sym (place_is r.startino slot)))

-- ---- the lowest free inode

pub find_none : (p : ℕ → Bool) (a n : ℕ) → ((b : ℕ) → p b ≡ false) → find p (numbers a n) ≡ None
find_none p a zero h = refl
find_none p a (suc n) h = ap (λ (t : Bool). cond t (Some a) (find p (numbers (a + 1) n))) (h a) ∙ find_none p (a + 1) n h

pub find_lowest : (p : ℕ → Bool) (a n x : ℕ) → a ≤ x → x < a + n → p x ≡ true → ((b : ℕ) → b < x → p b ≡ false) → find p (numbers a n) ≡ Some x
find_lowest p a zero x low high here before = absurd (omega (arith, low, high))
find_lowest p a (suc n) x low high here before = elim (cases_lt a x) [
  | inl later ↦ ap (λ (t : Bool). cond t (Some a) (find p (numbers (a + 1) n))) (before a later) ∙ find_lowest p (a + 1) n x (omega (arith, later)) (omega (arith, high)) here before
  | inr now ↦
      let same : a ≡ x = omega (arith, low, now) in
      ap (λ (t : Bool). cond t (Some a) (find p (numbers (a + 1) n))) (ap p same ∙ here) ∙ ap Some same
]

set_test : (n : ℕ) → n ≡ 1 → (n == 1) ≡ true
set_test n h = grind (arith, nat_tests)

clear_test : (n : ℕ) → n ≡ 0 → (n == 1) ≡ false
clear_test n h = grind (arith, nat_tests)

pub finds_lowest : FindsLowest
finds_lowest r slot free lowest =
    ap (λ (o : Option ℕ). option_map (λ (i : ℕ). r.startino + i) o)
    (find_lowest (is_bit r.free) 0 64 slot (omega arith) (omega (arith, free.inside)) (set_test (bit_at r.free slot) free.set) (λ i before. clear_test (bit_at r.free i) (lowest i before)))

none_set : (i : ℕ) → is_bit 0 i ≡ false
none_set i = clear_test (bit_at 0 i) (omega arith)

pub finds_none : FindsNone
finds_none r none = ap (λ (o : Option ℕ). option_map (λ (i : ℕ). r.startino + i) o) (ap (λ (m : ℕ). find (is_bit m) (numbers 0 64)) none ∙ find_none (is_bit 0) 0 64 none_set)

-- ---- both btrees

first_false : (a b : Bool) → (a || b) ≡ false → a ≡ false
first_false true b h = h
first_false false b h = refl

rest_false : (a b : Bool) → (a || b) ≡ false → b ≡ false
rest_false true b h = absurd (true≢false h)
rest_false false b h = h

module _ (to_free : Bool) (i : ℕ) where
  abbrev turned_in : InoRec → InoRec
  turned_in r = if has_inode i r then turned to_free i r else r

  -- chunks that haven't the inode stay
  others_stay : (rs : List InoRec) → list_any (has_inode i) rs ≡ false → map turned_in rs ≡ rs
  others_stay [] h = refl
  others_stay (r ∷ rs) h =
      ap (λ (t : Bool). (if t then turned to_free i r else r) ∷ map turned_in rs) (first_false (has_inode i r) (list_any (has_inode i) rs) h)
      ∙ ap (λ (xs : List InoRec). r ∷ xs) (others_stay rs (rest_false (has_inode i r) (list_any (has_inode i) rs) h))

  one_turns : (before : List InoRec) (r : InoRec) (behind : List InoRec) → has_inode i r ≡ true → list_any (has_inode i) before ≡ false → list_any (has_inode i) behind ≡ false → map turned_in (before ++ r ∷ behind) ≡ before ++ turned to_free i r ∷ behind
  one_turns [] r behind here low high =
      ap (λ (t : Bool). (if t then turned to_free i r else r) ∷ map turned_in behind) here ∙ ap (λ (xs : List InoRec). turned to_free i r ∷ xs) (others_stay behind high)
  one_turns (s ∷ ss) r behind here low high =
      ap (λ (t : Bool). (if t then turned to_free i s else s) ∷ map turned_in (ss ++ r ∷ behind)) (first_false (has_inode i s) (list_any (has_inode i) ss) low)
      ∙ ap (λ (xs : List InoRec). s ∷ xs) (one_turns ss r behind here (rest_false (has_inode i s) (list_any (has_inode i) ss) low) high)

  abbrev is_listed : InoRec → Bool
  is_listed r = has_inode i r && nat_lt 0 r.freecount

  none_listed : (rs : List InoRec) → list_any (has_inode i) rs ≡ false → filter is_listed rs ≡ []
  none_listed [] h = refl
  none_listed (r ∷ rs) h =
      ap (λ (t : Bool). if t && nat_lt 0 r.freecount then r ∷ filter is_listed rs else filter is_listed rs) (first_false (has_inode i r) (list_any (has_inode i) rs) h)
      ∙ none_listed rs (rest_false (has_inode i r) (list_any (has_inode i) rs) h)

  one_listed : (before : List InoRec) (r : InoRec) (behind : List InoRec) → has_inode i r ≡ true → list_any (has_inode i) before ≡ false → list_any (has_inode i) behind ≡ false → filter is_listed (before ++ r ∷ behind) ≡ (if nat_lt 0 r.freecount then r ∷ [] else [])
  one_listed [] r behind here low high =
      ap (λ (t : Bool). if t && nat_lt 0 r.freecount then r ∷ filter is_listed behind else filter is_listed behind) here
      ∙ ap (λ (xs : List InoRec). if nat_lt 0 r.freecount then r ∷ xs else xs) (none_listed behind high)
  one_listed (s ∷ ss) r behind here low high =
      ap (λ (t : Bool). if t && nat_lt 0 s.freecount then s ∷ filter is_listed (ss ++ r ∷ behind) else filter is_listed (ss ++ r ∷ behind)) (first_false (has_inode i s) (list_any (has_inode i) ss) low)
      ∙ one_listed ss r behind here (rest_false (has_inode i s) (list_any (has_inode i) ss) low) high

still_there : (to_free : Bool) (i : ℕ) (r : InoRec) → has_inode i (turned to_free i r) ≡ has_inode i r
still_there true i r = refl
still_there false i r = refl

some_test : (n : ℕ) → nat_lt 0 n ≡ not (n == 0)
some_test n = grind (arith, nat_tests)

put_listed : (r : InoRec) (finos : List InoRec) → put_all put_chunk (if nat_lt 0 r.freecount then r ∷ [] else []) finos ≡ with_listed (fino_of r) finos
put_listed r finos = by_test (r.freecount == 0) (some_test r.freecount)
  where
    by_test : (t : Bool) → nat_lt 0 r.freecount ≡ not t → put_all put_chunk (if nat_lt 0 r.freecount then r ∷ [] else []) finos ≡ with_listed (if t then None else Some r) finos
    by_test true h = ap (λ (t : Bool). put_all put_chunk (if t then r ∷ [] else []) finos) h
    by_test false h = ap (λ (t : Bool). put_all put_chunk (if t then r ∷ [] else []) finos) h

pub turns_alike : TurnsAlike
unfolding turn_inode follow_inode
turns_alike to_free i before r behind finos here low high = record {
  ino = one_turns to_free i before r behind here low high;
  fino =
      ap (λ (rs : List InoRec). put_all put_chunk (filter (is_listed to_free i) rs) (filter (λ s. not (has_inode i s)) finos)) (one_turns to_free i before r behind here low high)
      ∙ ap (λ (rs : List InoRec). put_all put_chunk rs (filter (λ s. not (has_inode i s)) finos)) (one_listed to_free i before (turned to_free i r) behind (still_there to_free i r ∙ here) low high)
      ∙ put_listed (turned to_free i r) (filter (λ s. not (has_inode i s)) finos);
}

-- ---- a chunk that is made, and cores

pub makes_alike : MakesAlike
makes_alike block = refl

pub cores_alike : (core : Core3) (uid ino : ℕ) (uuid : List ℕ) → CoresAlike core uid ino uuid
unfolding fresh_file given_back free_core
cores_alike core uid ino uuid = record { file = refl; back = refl; never = refl }
