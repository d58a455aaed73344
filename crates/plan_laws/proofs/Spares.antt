-- Which blocks are spare, and the lowest of them.
use Rattle.std.proofs.Common.{◌≡◌, ℕ, zero, suc, ◌+◌, ◌<◌, ◌≤◌, Bool, true, false, not, ◌&&◌, ◌||◌, cond, List, [], ◌∷◌, Some, None, find, refl, ap, sym, ◌∙◌, inl, inr, arith}
use Rattle.std.specs.Prelude.{nat_lt, nat_le}
use Rattle.std.specs.List.{list_any}
use Rattle.std.proofs.lemmas.Bool.{cases_lt, false≢true, lt-ltb, le-ltb, le-leb, lt-leb}
use Rattle.derive_defs.specs.Mappings.{covers}
use Rattle.fs_change.specs.Choice.{is_guarded, is_spare, is_unowned, spare_block}
use Rattle.fs_change.specs.Parts.{is_sick as is_sick_change}
use Rattle.fs_state.specs.Claims.{claims, metadata_claims}
use Rattle.fs_state.specs.Derive.{bno_of, mappings}
use Rattle.fs_state.specs.Lists.{numbers}
use Rattle.fs_model.specs.declared.unit.Trust.{Trust}
use Rattle.fs_model.specs.declared.unit.Trust.TheVariants.{Unknown, Good, Sick}
use Rattle.fs_model.specs.declared.unit.Unit.TheVariants as units
use Rattle.fs_state.specs.Apart.{is_free, listed_free}
use Rattle.fs_state.specs.State.{State, Reading, Readable, Unreadable, recs_of, is_readable}
use Rattle.geom.specs.Layout.{group_len_of}
use Rattle.rmap_recs.specs.declared.records.RmapRec.{RmapRec}
use Rattle.sblock.specs.declared.kind.Kind.TheVariants.{Bno, Cnt, Rmap}
use Rattle.span_recs.specs.declared.span.SpanRec.{SpanRec}
use Rattle.unit_plan.specs.Laws.{is_in, is_spare_in, trust_of}
use Rattle.unit_plan.specs.Spare.{is_listed, is_sick}
use Rattle.plan_laws.specs.Agreed.{LowestAgrees, SpareAgrees}

same_sick : (t : Trust) → is_sick t ≡ is_sick_change t
same_sick Unknown = refl
same_sick Good = refl
same_sick Sick = refl

same_free : (recs : List SpanRec) (b : ℕ) → is_listed recs b ≡ is_free recs b
unfolding is_free
same_free recs b = refl

readable : (reading : Reading SpanRec) (b : ℕ) → is_listed (recs_of reading) b ≡ true → is_readable reading ≡ true
readable (Readable recs blocks) b h = refl
readable (Unreadable block fault claims) b h = absurd (false≢true h)

-- ---- a record covers a block

begins_there : (s n b : ℕ) → (nat_lt 0 n && (nat_lt s (b + 1) && nat_lt b (s + n))) ≡ (nat_le s b && nat_lt b (s + n))
begins_there s n b = elim (cases_lt b s) [
  | inl front ↦ rw (lt-leb s b front, le-ltb s (b + 1) (omega (arith, front))) (nothing (nat_lt 0 n))
  | inr on ↦ rw (le-leb s b on, lt-ltb s (b + 1) (omega (arith, on))) (elim (cases_lt b (s + n)) [
    | inl inside ↦ rw (lt-ltb b (s + n) inside, lt-ltb 0 n (omega (arith, on, inside))) refl
    | inr behind ↦ rw (le-ltb b (s + n) behind) (nothing (nat_lt 0 n))
  ])
]
  where
    nothing : (x : Bool) → (x && false) ≡ false
    nothing true = refl
    nothing false = refl

same_guard : (recs : List RmapRec) (b : ℕ) → list_any (λ r. nat_lt 0 r.count && (nat_lt r.start (b + 1) && nat_lt b (r.start + r.count))) recs ≡ list_any (covers b) recs
same_guard [] b = refl
same_guard (r ∷ rs) b =
    ap (λ (t : Bool). t || list_any (λ x. nat_lt 0 x.count && (nat_lt x.start (b + 1) && nat_lt b (x.start + x.count))) rs) (begins_there r.start r.count b)
    ∙ ap (λ (t : Bool). covers b r || t) (same_guard rs b)

guarded : (recs : List RmapRec) (b : ℕ) → is_guarded recs b 1 ≡ list_any (covers b) recs
unfolding is_guarded
guarded recs b = same_guard recs b

-- ---- the tests in another order

listed_first : (r s l c : Bool) → (l ≡ true → r ≡ true) → (not s && (l && not c)) ≡ (r && not s && l && not c)
listed_first true true l c h = refl
listed_first true false l c h = refl
listed_first false true true c h = absurd (false≢true (h refl))
listed_first false false true c h = absurd (false≢true (h refl))
listed_first false true false c h = refl
listed_first false false false c h = refl

none_of : (s t u l v c : Bool) → (not (s || (t || u)) && (l && not (v || c))) ≡ (not (s || (t || (u || false))) && l && not v && not c)
none_of true t u l v c = refl
none_of false true u l v c = refl
none_of false false true l v c = refl
none_of false false false false v c = refl
none_of false false false true true c = refl
none_of false false false true false c = refl

module _ (a : State) (g b : ℕ) where
  for_free : is_spare_in a g units.Free b ≡ is_spare a g units.Free b
  unfolding is_spare_in is_spare
  for_free = rw (same_sick (trust_of a g Rmap), same_free (bno_of a g) b) refl

  for_mappings : is_spare_in a g units.Rmap b ≡ is_spare a g units.Rmap b
  unfolding is_spare_in is_spare
  for_mappings =
      listed_first (is_readable ((a.group g).tree Bno).reading) (is_sick (trust_of a g Bno)) (is_listed (listed_free a g) b) (is_in (claims a g) b) (readable ((a.group g).tree Bno).reading b)
      ∙ ap (λ (s : Bool). is_readable ((a.group g).tree Bno).reading && not s && is_listed (listed_free a g) b && not (is_in (claims a g) b)) (same_sick (trust_of a g Bno))
      ∙ ap (λ (l : Bool). is_readable ((a.group g).tree Bno).reading && not (is_sick_change (trust_of a g Bno)) && l && not (is_in (claims a g) b)) (same_free (listed_free a g) b)

  abbrev planned : Bool
  planned =
      not (is_sick (trust_of a g Bno) || (is_sick (trust_of a g Cnt) || is_sick (trust_of a g Rmap)))
      && (is_listed (listed_free a g) b && not (list_any (covers b) (mappings a g) || is_in (metadata_claims a g) b))

  unowned : planned ≡ is_unowned a g b
  unowned =
      none_of (is_sick (trust_of a g Bno)) (is_sick (trust_of a g Cnt)) (is_sick (trust_of a g Rmap)) (is_listed (listed_free a g) b) (list_any (covers b) (mappings a g)) (is_in (metadata_claims a g) b)
      ∙ (λ i.
      not (same_sick (trust_of a g Bno) i || (same_sick (trust_of a g Cnt) i || (same_sick (trust_of a g Rmap) i || false)))
      && same_free (listed_free a g) b i && not (sym (guarded (mappings a g) b) i) && not (is_in (metadata_claims a g) b))

  for_inodes : is_spare_in a g units.Inode b ≡ is_spare a g units.Inode b
  unfolding is_spare_in is_spare
  for_inodes = unowned

  for_counts : is_spare_in a g units.Refc b ≡ is_spare a g units.Refc b
  unfolding is_spare_in is_spare
  for_counts = unowned

pub spare_agrees_lem : SpareAgrees
spare_agrees_lem a g units.Free b = for_free a g b
spare_agrees_lem a g units.Rmap b = for_mappings a g b
spare_agrees_lem a g units.Inode b = for_inodes a g b
spare_agrees_lem a g units.Refc b = for_counts a g b

-- ---- the lowest

find_none : (p : ℕ → Bool) (a n : ℕ) → ((b : ℕ) → p b ≡ false) → find p (numbers a n) ≡ None
find_none p a zero h = refl
find_none p a (suc n) h = ap (λ (t : Bool). cond t (Some a) (find p (numbers (a + 1) n))) (h a) ∙ find_none p (a + 1) n h

find_lowest : (p : ℕ → Bool) (a n x : ℕ) → a ≤ x → x < a + n → p x ≡ true → ((b : ℕ) → b < x → p b ≡ false) → find p (numbers a n) ≡ Some x
find_lowest p a zero x low high here before = absurd (omega (arith, low, high))
find_lowest p a (suc n) x low high here before = elim (cases_lt a x) [
  | inl later ↦ ap (λ (t : Bool). cond t (Some a) (find p (numbers (a + 1) n))) (before a later) ∙ find_lowest p (a + 1) n x (omega (arith, later)) (omega (arith, high)) here before
  | inr now ↦
      let same : a ≡ x = omega (arith, low, now) in
      ap (λ (t : Bool). cond t (Some a) (find p (numbers (a + 1) n))) (ap p same ∙ here) ∙ ap Some same
]

pub lowest_agrees_lem : LowestAgrees
unfolding spare_block
lowest_agrees_lem a g unit None none within = sym (find_none (is_spare a g unit) 0 (group_len_of a.geometry g) (λ b. sym (spare_agrees_lem a g unit b) ∙ none b))
lowest_agrees_lem a g unit (Some x) found within =
    sym (find_lowest (is_spare a g unit) 0 (group_len_of a.geometry g) x (omega arith) (omega (arith, within)) (sym (spare_agrees_lem a g unit x) ∙ found.0) (λ b lt. sym (spare_agrees_lem a g unit b) ∙ found.1 b lt))
