-- Offset words: their parts, and what two with the same flags share.
use Rattle.std.proofs.Common.{◌≡◌, ◌<◌, ◌≤◌, ℕ, ◌+◌, ◌-◌, ◌*◌, ◌/◌, ◌%◌, ◌^◌, Bool, true, false, not, ◌&&◌, ◌==◌, Some, arith, refl, sym, ◌∙◌, ap, bit_and, add-zero, eqb-true, eq-eqb, lit<}
use Rattle.std.specs.Prelude.{nat_lt, if◌then◌else◌}
use Rattle.std.proofs.Math.Pow.{pow_mono}
use Rattle.std.proofs.Math.Nat.{div-eq_of_lt, mod-eq_of_lt}
use Rattle.std.proofs.lemmas.Bool.{false≢true}
use Rattle.std.proofs.lemmas.Nat.{and_le_l, and_assoc, and_block, shr_split, mod_below}
use Rattle.std.specs.Int.Bits.{and_self, and_zero_r}
use Rattle.rmap_recs.specs.Owners.{is_inode}
use Rattle.rmap_recs.specs.Words.{key_word, is_fork_data, word_goes_on, flags_of, offset_of}

pub key_word_fits : (word : ℕ) → word < 2 ^ 64 → key_word word < 2 ^ 64
unfolding key_word
key_word_fits word fits = omega (arith, and_le_l word (2 ^ 64 - 1 - 2 ^ 61), fits)

pub key_word_twice : (word : ℕ) → key_word (key_word word) ≡ key_word word
unfolding key_word
key_word_twice word = and_assoc (2 ^ 64 - 1 - 2 ^ 61) word (2 ^ 64 - 1 - 2 ^ 61) ∙ ap (bit_and word) (and_self (2 ^ 64 - 1 - 2 ^ 61))

-- a number of 64 bits lies in the first group, where groups are longer than that
below : (n k : ℕ) → n < 2 ^ 64 → 64 ≤ k → n < 2 ^ k
below n k h i = let p : 2 ^ 64 ≤ 2 ^ k = pow_mono {i = 64} {j = k} i in omega arith

pub no_group : (n k : ℕ) → n < 2 ^ 64 → 64 ≤ k → n / 2 ^ k ≡ 0
no_group n k h i = div-eq_of_lt (below n k h i)

pub same_block : (n k : ℕ) → n < 2 ^ 64 → 64 ≤ k → n % 2 ^ k ≡ n
same_block n k h i = mod-eq_of_lt (below n k h i)

-- ---- words that go on

both : (a b : Bool) → (a && b) ≡ true → (a ≡ true) × (b ≡ true)
both true b h = (refl, h)
both false b h = absurd (false≢true h)

-- a word is its flags and its offset
same_parts : (a b : ℕ) → a / 2 ^ 54 ≡ b / 2 ^ 54 → a % 2 ^ 54 ≡ b % 2 ^ 54 → a ≡ b
same_parts a b flags offset = omega arith

bit_of_flags : (word : ℕ) → bit_and word (2 ^ 62) ≡ bit_and (word / 2 ^ 54) (2 ^ 8) * 2 ^ 54
bit_of_flags word =
    let parts : (word / 2 ^ 54) * 2 ^ 54 + word % 2 ^ 54 ≡ word = shr_split word 54 in
    ap (λ (w : ℕ). bit_and w (2 ^ 62)) (sym parts)
    ∙ and_block 54 (word / 2 ^ 54) (2 ^ 8) (word % 2 ^ 54) 0 (mod_below word (2 ^ 54) (lit< tt)) (lit< tt)
    ∙ ap (λ (n : ℕ). bit_and (word / 2 ^ 54) (2 ^ 8) * 2 ^ 54 + n) (and_zero_r (word % 2 ^ 54))
    ∙ add-zero (bit_and (word / 2 ^ 54) (2 ^ 8) * 2 ^ 54)

-- words with the same flags are of the same sort
pub same_sort : (owner a b : ℕ) → flags_of a ≡ flags_of b → is_fork_data owner a ≡ is_fork_data owner b
unfolding is_fork_data
same_sort owner a b flags =
    ap (λ (n : ℕ). is_inode owner && not (nat_lt 0 n))
    (bit_of_flags a ∙ ap (λ (f : ℕ). bit_and f (2 ^ 8) * 2 ^ 54) flags ∙ sym (bit_of_flags b))

module _ (owner word count next : ℕ) (goes : word_goes_on owner word count next ≡ true) where
  pub same_flags : flags_of next ≡ flags_of word
  unfolding word_goes_on
  same_flags = eqb-true (flags_of next) (flags_of word) (both (flags_of next == flags_of word) _ goes).0

  offset_on : offset_of next ≡ (if is_fork_data owner word then offset_of word + count else offset_of word)
  unfolding word_goes_on
  offset_on = eqb-true (offset_of next) _ (both (flags_of next == flags_of word) _ goes).1

  pub offset_grows : is_fork_data owner word ≡ true → offset_of next ≡ offset_of word + count
  offset_grows sort = offset_on ∙ ap (λ (t : Bool). if t then offset_of word + count else offset_of word) sort

  pub offset_stays : is_fork_data owner word ≡ false → offset_of next ≡ offset_of word
  offset_stays sort = offset_on ∙ ap (λ (t : Bool). if t then offset_of word + count else offset_of word) sort

-- a word with these flags and the offset that is wanted goes on
pub goes_by : (owner word count next : ℕ) → flags_of next ≡ flags_of word → offset_of next ≡ (if is_fork_data owner word then offset_of word + count else offset_of word) → word_goes_on owner word count next ≡ true
unfolding word_goes_on
goes_by owner word count next flags offset = rw (eq-eqb (flags_of next) (flags_of word) flags, eq-eqb (offset_of next) _ offset) refl

one_more : (word next : ℕ) → next / 2 ^ 54 ≡ word / 2 ^ 54 → next % 2 ^ 54 ≡ word % 2 ^ 54 + 1 → next ≡ word + 1
one_more word next flags offset = omega arith

flags_stay : (word : ℕ) → (word % 2 ^ 54 + 1 ≡ 2 ^ 54 → ⊥) → ((word + 1) / 2 ^ 54 ≡ word / 2 ^ 54) × ((word + 1) % 2 ^ 54 ≡ word % 2 ^ 54 + 1)
flags_stay word room = (omega arith, omega arith)

-- where offsets don't count up, the same word goes on and no other
pub same_goes : (owner word : ℕ) → is_fork_data owner word ≡ false → word_goes_on owner word 1 word ≡ true
same_goes owner word sort = goes_by owner word 1 word refl (sym (ap (λ (t : Bool). if t then offset_of word + 1 else offset_of word) sort))

pub only_same : (owner word next : ℕ) → is_fork_data owner word ≡ false → word_goes_on owner word 1 next ≡ true → Some word ≡ Some next
only_same owner word next sort goes = ap Some (sym (same_parts next word (same_flags owner word 1 next goes) (offset_stays owner word 1 next goes sort)))

-- where they do, the word with the next offset
pub next_goes : (owner word : ℕ) → is_fork_data owner word ≡ true → (word % 2 ^ 54 + 1 ≡ 2 ^ 54 → ⊥) → word_goes_on owner word 1 (word + 1) ≡ true
next_goes owner word sort room =
    let stay = flags_stay word room in
    goes_by owner word 1 (word + 1) stay.0 (stay.1 ∙ sym (ap (λ (t : Bool). if t then offset_of word + 1 else offset_of word) sort))

pub only_next : (owner word next : ℕ) → is_fork_data owner word ≡ true → word_goes_on owner word 1 next ≡ true → Some (word + 1) ≡ Some next
only_next owner word next sort goes = ap Some (sym (one_more word next (same_flags owner word 1 next goes) (offset_grows owner word 1 next goes sort)))

-- and none behind the greatest offset
pub none_next : (owner word next : ℕ) → is_fork_data owner word ≡ true → word % 2 ^ 54 + 1 ≡ 2 ^ 54 → word_goes_on owner word 1 next ≡ true → ⊥
none_next owner word next sort full goes = let grows = offset_grows owner word 1 next goes sort in let small = mod_below next (2 ^ 54) (lit< tt) in omega (arith, grows, small, full)

-- the same from behind
earlier_sort : (owner earlier word : ℕ) → word_goes_on owner earlier 1 word ≡ true → is_fork_data owner earlier ≡ is_fork_data owner word
earlier_sort owner earlier word goes = same_sort owner earlier word (sym (same_flags owner earlier 1 word goes))

pub only_same_before : (owner word earlier : ℕ) → is_fork_data owner word ≡ false → word_goes_on owner earlier 1 word ≡ true → Some word ≡ Some earlier
only_same_before owner word earlier sort goes =
    ap Some (same_parts word earlier (same_flags owner earlier 1 word goes) (offset_stays owner earlier 1 word goes (earlier_sort owner earlier word goes ∙ sort)))

less_flags : (word : ℕ) → (word % 2 ^ 54 ≡ 0 → ⊥) → (word / 2 ^ 54 ≡ (word - 1) / 2 ^ 54) × (word % 2 ^ 54 ≡ (word - 1) % 2 ^ 54 + 1)
less_flags word some = (omega arith, omega arith)

pub before_goes : (owner word : ℕ) → is_fork_data owner word ≡ true → (word % 2 ^ 54 ≡ 0 → ⊥) → word_goes_on owner (word - 1) 1 word ≡ true
before_goes owner word sort some =
    let stay = less_flags word some in
    let earlier : is_fork_data owner (word - 1) ≡ true = same_sort owner (word - 1) word (sym stay.0) ∙ sort in
    goes_by owner (word - 1) 1 word stay.0 (stay.1 ∙ sym (ap (λ (t : Bool). if t then offset_of (word - 1) + 1 else offset_of (word - 1)) earlier))

one_less : (word earlier : ℕ) → word / 2 ^ 54 ≡ earlier / 2 ^ 54 → word % 2 ^ 54 ≡ earlier % 2 ^ 54 + 1 → word - 1 ≡ earlier
one_less word earlier flags offset = omega arith

pub only_before : (owner word earlier : ℕ) → is_fork_data owner word ≡ true → word_goes_on owner earlier 1 word ≡ true → Some (word - 1) ≡ Some earlier
only_before owner word earlier sort goes =
    ap Some (one_less word earlier (same_flags owner earlier 1 word goes) (offset_grows owner earlier 1 word goes (earlier_sort owner earlier word goes ∙ sort)))

pub none_before : (owner word earlier : ℕ) → is_fork_data owner word ≡ true → word % 2 ^ 54 ≡ 0 → word_goes_on owner earlier 1 word ≡ true → ⊥
none_before owner word earlier sort zero_is goes =
    let grows = offset_grows owner earlier 1 word goes (earlier_sort owner earlier word goes ∙ sort) in omega (arith, grows, zero_is)

sort_cases : (owner word next : ℕ) (t : Bool) → is_fork_data owner word ≡ t → word_goes_on owner word 1 next ≡ true → next ≡ (if t then word + 1 else word)
sort_cases owner word next true sort goes = one_more word next (same_flags owner word 1 next goes) (offset_grows owner word 1 next goes sort)
sort_cases owner word next false sort goes = same_parts next word (same_flags owner word 1 next goes) (offset_stays owner word 1 next goes sort)

-- a word that goes on is the next one, or the same one
pub next_is : (owner word next : ℕ) → word_goes_on owner word 1 next ≡ true → next ≡ (if is_fork_data owner word then word + 1 else word)
next_is owner word next = sort_cases owner word next (is_fork_data owner word) refl

-- and of the same sort
pub next_sort : (owner word next : ℕ) → word_goes_on owner word 1 next ≡ true → is_fork_data owner next ≡ is_fork_data owner word
next_sort owner word next goes = same_sort owner next word (same_flags owner word 1 next goes)
