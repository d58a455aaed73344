-- The laws of the reverse mapping btree: its order is one, a high key is the greatest of a record,
-- and pointers leave keys alone.
use Rattle.std.proofs.Common.{◌≡◌, ◌<◌, ◌≤◌, ℕ, ◌+◌, ◌-◌, ◌*◌, ◌^◌, List, length, Bool, true, false, not, arith, refl, subst, inl, inr, add-zero, true≢false}
use Rattle.std.specs.Prelude.{nat_lt, nat_le, ◌⊎◌, ◌&&◌, ◌||◌, ◌↔◌, if◌then◌else◌}
use Rattle.std.proofs.lemmas.Bool.{false≢true, cases_eq, and_parts, eqb-true, eq-eqb}
use Rattle.std.proofs.lemmas.Bool.Decides.{nat_tests}
use Rattle.sblock.specs.Area.{with_child}
use Rattle.sblock.specs.Form.{IsLawful}
use Rattle.sblock.specs.declared.block.Bounds.{Bounds}
use Rattle.sblock.specs.declared.kind.Kind.TheVariants.{Rmap}
use Rattle.sblock.specs.AreaLaws.{field_stays}
use Rattle.rmap_recs.specs.Owners.{is_inode}
use Rattle.rmap_recs.specs.Words.{key_word, is_word_right, is_fork_data, is_fork_tree, offset_of}
use Rattle.rmap_recs.specs.Rmap.{rmap_form, is_first, is_key_before, key_in, high_key_of, key_of, offset_growth, has_end, is_owner_right, is_rec_in_range, is_same_rec}
use Rattle.rmap_recs.specs.declared.records.RmapRec.{RmapRec}
use Rattle.rmap_recs.specs.declared.records.Key.{Key}

strict_nat : (a : ℕ) → nat_lt a a ≡ false
strict_nat a = grind (arith, nat_tests)

along_nat : (a b c : ℕ) → nat_lt a b ≡ true → nat_lt b c ≡ true → nat_lt a c ≡ true
along_nat a b c h i = grind (arith, nat_tests)

total_nat : (a b c : ℕ) → nat_lt a c ≡ true → (nat_lt a b ≡ true) ⊎ (nat_lt b c ≡ true)
total_nat a b c h = grind (arith, nat_tests)

strict_first : (a : ℕ) (rest : Bool) → rest ≡ false → is_first a a rest ≡ false
strict_first a rest h = grind (arith, nat_tests)

-- the order goes through where that of the rest does
along_first : (a b c : ℕ) (p q r : Bool) → (p ≡ true → q ≡ true → r ≡ true) → is_first a b p ≡ true → is_first b c q ≡ true → is_first a c r ≡ true
along_first a b c true true true f h i = grind (arith, nat_tests)
along_first a b c true true false f h i = let bad : false ≡ true = f refl refl in absurd (false≢true bad)
along_first a b c true false r f h i = grind (arith, nat_tests)
along_first a b c false q r f h i = grind (arith, nat_tests)

-- and has a key between two others beside one of them where that of the rest has
total_first : (a b c : ℕ) (p q r : Bool) → (r ≡ true → (p ≡ true) ⊎ (q ≡ true)) → is_first a c r ≡ true → (is_first a b p ≡ true) ⊎ (is_first b c q ≡ true)
total_first a b c true q r f h = grind (arith, nat_tests)
total_first a b c false true r f h = grind (arith, nat_tests)
total_first a b c false false true f h = grind (arith, nat_tests)
total_first a b c false false false f h = grind (arith, nat_tests)

strict_key : (a : Key) → is_key_before a a ≡ false
unfolding is_key_before
strict_key a = strict_first a.start _ (strict_first a.owner _ (strict_nat (key_word a.word)))

along_key : (a b c : Key) → is_key_before a b ≡ true → is_key_before b c ≡ true → is_key_before a c ≡ true
unfolding is_key_before
along_key a b c h i =
    along_first a.start b.start c.start _ _ _
    (λ j k. along_first a.owner b.owner c.owner _ _ _ (λ m n. along_nat (key_word a.word) (key_word b.word) (key_word c.word) m n) j k) h i

total_key : (a b c : Key) → is_key_before a c ≡ true → (is_key_before a b ≡ true) ⊎ (is_key_before b c ≡ true)
unfolding is_key_before
total_key a b c h =
    total_first a.start b.start c.start _ _ _
    (λ j. total_first a.owner b.owner c.owner _ _ _ (λ m. total_nat (key_word a.word) (key_word b.word) (key_word c.word) m) j) h

starts_first : (a b : ℕ) (rest : Bool) → is_first a b rest ≡ false → b ≤ a
starts_first a b rest h = grind (arith, nat_tests)

starts_key : (a b : Key) → is_key_before a b ≡ false → b.start ≤ a.start
unfolding is_key_before
starts_key a b h = starts_first a.start b.start _ h

-- a high key comes later by its start, or it is the key itself
above_first : (s n : ℕ) (rest : Bool) → (n ≡ 0 → rest ≡ false) → is_first (s + n) s rest ≡ false
above_first s n true h = elim (cases_eq n 0) [
  | inl none ↦ let bad : true ≡ false = h none in absurd (true≢false bad)
  | inr some ↦ grind (arith, nat_tests)
]
above_first s n false h = grind (arith, nat_tests)

no_growth : (t : Bool) (n : ℕ) → n ≡ 0 → (if t then n else 0) ≡ 0
no_growth true n h = h
no_growth false n h = refl

same_word : (w g : ℕ) → g ≡ 0 → nat_lt (key_word (key_word (w + g))) (key_word (key_word w)) ≡ false
same_word w g h = rw (h, add-zero) (strict_nat (key_word (key_word w)))

above_key : (r : RmapRec) → has_end r ≡ true → is_key_before (high_key_of r) (key_of r) ≡ false
unfolding is_key_before
above_key r h =
    above_first r.start (r.count - 1) _
    (λ none. strict_first r.owner _ (same_word r.word (offset_growth r) (no_growth (is_fork_data r.owner r.word) (r.count - 1) none)))

first_of : (a b c : Bool) → (a && b && c) ≡ true → a ≡ true
first_of true b c h = refl
first_of false b c h = h

counts : (a b : ℕ) → nat_le a b ≡ true → a ≤ b
counts a b h = grind (arith, nat_tests)

ends_key : (r : RmapRec) → has_end r ≡ true → (r.start + (r.count - 1)) + 1 ≡ r.start + r.count
unfolding has_end
ends_key r h = let some = counts 1 r.count (first_of (nat_le 1 r.count) _ _ h) in omega (arith, some)

-- a record in range has its end in range: with a inode's offsets where they count up
ranged : (a b b' inode in_tree place m c q : Bool) → (b ≡ true → b' ≡ true) → (a && b && (if inode then place && (m && c) else q)) ≡ true → (a && b' && (not (inode && not in_tree) || c)) ≡ true
ranged false b b' inode in_tree place m c q keep h = absurd (false≢true h)
ranged true false b' inode in_tree place m c q keep h = absurd (false≢true h)
ranged true true b' false in_tree place m c q keep h = rw (keep refl) refl
ranged true true b' true true place m c q keep h = rw (keep refl) refl
ranged true true b' true false false m c q keep h = absurd (false≢true h)
ranged true true b' true false true false c q keep h = absurd (false≢true h)
ranged true true b' true false true true c q keep h = rw (keep refl, h) refl

longer : (a n : ℕ) → n < 2 ^ 32 → nat_le a n ≡ true → nat_le a (2 ^ 32) ≡ true
longer a n small h = grind (arith, nat_tests)

reaches_key : (bounds : Bounds) (r : RmapRec) → bounds.length < 2 ^ 32 → is_rec_in_range bounds r ≡ true → has_end r ≡ true
unfolding has_end is_owner_right is_word_right is_fork_data
reaches_key bounds r small h =
    ranged (nat_le 1 r.count) (nat_le (r.start + r.count) bounds.length) (nat_le (r.start + r.count) (2 ^ 32)) (is_inode r.owner) (is_fork_tree r.word) _ _ (nat_le (offset_of r.word + r.count) (2 ^ 54)) _
    (longer (r.start + r.count) bounds.length small) h

key_stays : (area : List ℕ) (i child place : ℕ) → length area ≡ 4040 → i < 91 → place + 20 ≤ 3640 → key_in (with_child Rmap area i child) place ≡ key_in area place
unfolding key_in
key_stays area i child place whole room here = λ n. record {
  start = field_stays Rmap area i child 4 place whole room (omega (arith, here)) n;
  owner = field_stays Rmap area i child 8 (place + 4) whole room (omega (arith, here)) n;
  word = key_word (field_stays Rmap area i child 8 (place + 12) whole room (omega (arith, here)) n);
}

same_rec : (r s : RmapRec) → (is_same_rec r s ≡ true) ↔ (r ≡ s)
same_rec r s = (
  λ h. (let all = and_parts _ _ h in let three = and_parts _ _ all.0 in let two = and_parts _ _ three.0 in λ i. record { start = eqb-true r.start s.start two.0 i; count = eqb-true r.count s.count two.1 i; owner = eqb-true r.owner s.owner three.1 i; word = eqb-true r.word s.word all.1 i }),
  λ e. subst (λ (x : RmapRec). is_same_rec r x ≡ true) e (rw (eq-eqb r.start r.start refl, eq-eqb r.count r.count refl, eq-eqb r.owner r.owner refl, eq-eqb r.word r.word refl) refl),
)

pub lawful_rmap : IsLawful rmap_form
lawful_rmap = record {
  strict = strict_key;
  along = along_key;
  total = total_key;
  reaches = reaches_key;
  above = above_key;
  same = same_rec;
  starts = λ other a b h. starts_key a b h;
  ends = λ high r h. ends_key r h;
  keys_stay = λ area i j child whole room here. key_stays area i child (40 * j) whole room (omega (arith, here));
  high_keys_stay = λ area i j child whole room here. key_stays area i child (40 * j + 20) whole room (omega (arith, here));
}
