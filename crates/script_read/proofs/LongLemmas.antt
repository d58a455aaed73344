-- No line that says something has more than 86 bytes.
use Rattle.std.proofs.Common.{◌≡◌, ◌≤◌, ◌<◌, ◌+◌, ◌-◌, ◌*◌, ◌^◌, ℕ, zero, suc, Bool, true, false, List, [], ◌∷◌, Option, Some, None, refl, ap, length, arith}
use Rattle.std.proofs.lemmas.Bool.Decides.{nat_tests}
use Rattle.std.proofs.lemmas.Slice.Eq.{bytes_eq-Decides}
use Rattle.std.specs.Prelude.{◌==◌, ◌&&◌, nat_le, nat_lt, IfSome, option_map, option_and_then, codes, if◌then◌else◌}
use Rattle.std.specs.Str.{bytes_eq}
use Rattle.script_defs.specs.declared.operation.Op.TheVariants as ops
use Rattle.script_defs.specs.declared.operation.Said.TheVariants.{Header, Asks}
use Rattle.script_defs.specs.Numbers.{is_digit, with_digit, value_from, number_of, zero_alone}
use Rattle.script_defs.specs.Words.{Text, words, in_front, is_name, named, name_of}
use Rattle.script_defs.specs.Operations.{is_range, ino_of, count_of, offset_of, range_of, open_of, create_of, only_range, map_of, unmap_of, convert_of, share_of, remove_of, op_by, a_writer, writer_of, said_by, said_in, said_of}

-- ---- what stands in an option says something of what made it

chained : {A B : Type 0} (x : Option A) (f : A → Option B) (Q P : Type 0) → IfSome x (λ a. Q) → ((a : A) → Q → IfSome (f a) (λ b. P)) → IfSome (option_and_then f x) (λ b. P)
chained None f Q P q h = tt
chained (Some a) f Q P q h = h a q

mapped : {A B : Type 0} (x : Option A) (f : A → B) (Q P : Type 0) → IfSome x (λ a. Q) → (Q → P) → IfSome (option_map f x) (λ b. P)
mapped None f Q P q h = tt
mapped (Some a) f Q P q h = h q

either : {A : Type 0} (t : Bool) (x y : Option A) (P : Type 0) → (t ≡ true → IfSome x (λ a. P)) → (t ≡ false → IfSome y (λ a. P)) → IfSome (if t then x else y) (λ a. P)
either true x y P h k = h refl
either false x y P h k = k refl

only_then : {A : Type 0} (t : Bool) (x : Option A) (P : Type 0) → (t ≡ true → IfSome x (λ a. P)) → IfSome (if t then x else None) (λ a. P)
only_then t x P h = either t x None P h (λ f. tt)

weaker : {A : Type 0} (x : Option A) (Q P : Type 0) → IfSome x (λ a. Q) → (Q → P) → IfSome x (λ a. P)
weaker None Q P q h = tt
weaker (Some a) Q P q h = h q

none_of : {A : Type 0} (x : Option A) (P : Type 0) → IfSome x (λ a. P) → (P → ⊥) → x ≡ None
none_of None P p never = refl
none_of (Some a) P p never = absurd (never p)

-- ---- numbers

-- n with d digits more, all of them zero
reach : ℕ → ℕ → ℕ
reach n zero = n
reach n (suc d) = reach (10 * n) d

more_reach : (d n m : ℕ) → n ≤ m → reach n d ≤ reach m d
unfolding reach
more_reach zero n m h = h
more_reach (suc d) n m h = more_reach d (10 * n) (10 * m) (omega (arith, h))

is_below : (n b most : ℕ) → (is_digit b && nat_le (with_digit n b) most) ≡ true → with_digit n b ≤ most
is_below n b most h = grind (arith, nat_tests)

value_size : (ds : Text) (most n d : ℕ) → n ≤ most → most < reach n d → IfSome (value_from most n ds) (λ v. length ds < d)
unfolding value_from reach
value_size [] most n zero h k = absurd (omega (arith, h, k))
value_size [] most n (suc d) h k = omega arith
value_size (b ∷ bs) most n zero h k = absurd (omega (arith, h, k))
value_size (b ∷ bs) most n (suc d) h k = only_then (is_digit b && nat_le (with_digit n b) most) (value_from most (with_digit n b) bs) (suc (length bs) < suc d) (λ t.
    let below = is_below n b most t in
    let far = more_reach d (10 * n) (with_digit n b) (omega arith) in
    weaker (value_from most (with_digit n b) bs) (length bs < d) (suc (length bs) < suc d) (value_size bs most (with_digit n b) d below (omega (arith, far, k))) (λ l. omega (arith, l)))

zero_size : (bs : Text) (d : ℕ) → 0 < d → IfSome (zero_alone bs) (λ v. suc (length bs) ≤ d)
zero_size [] d h = omega (arith, h)
zero_size (x ∷ xs) d h = tt

not_zero : (b : ℕ) → (b == 48) ≡ false → is_digit b ≡ true → 1 ≤ with_digit 0 b
not_zero b h k = grind (arith, nat_tests)

both : (b most : ℕ) → (is_digit b && nat_le (with_digit 0 b) most) ≡ true → is_digit b ≡ true
both b most h = grind (arith, nat_tests)

number_size : (w : Text) (most d : ℕ) → 0 < d → most < reach 1 d → IfSome (number_of most w) (λ v. length w ≤ d)
unfolding number_of value_from
number_size [] most d h k = tt
number_size (b ∷ bs) most d h k = either (b == 48) (zero_alone bs) (if is_digit b && nat_le (with_digit 0 b) most then value_from most (with_digit 0 b) bs else None) (suc (length bs) ≤ d) (λ t. zero_size bs d h) (λ f.
    only_then (is_digit b && nat_le (with_digit 0 b) most) (value_from most (with_digit 0 b) bs) (suc (length bs) ≤ d) (λ t.
    let below = is_below 0 b most t in
    let far = more_reach d 1 (with_digit 0 b) (not_zero b f (both b most t)) in
    weaker (value_from most (with_digit 0 b) bs) (length bs < d) (suc (length bs) ≤ d) (value_size bs most (with_digit 0 b) d below (omega (arith, far, k))) (λ l. omega (arith, l))))

ino_size : (w : Text) → IfSome (ino_of w) (λ v. length w ≤ 20)
unfolding reach
ino_size w = number_size w (2 ^ 64 - 1) 20 (omega arith) (omega arith)

offset_size : (w : Text) → IfSome (offset_of w) (λ v. length w ≤ 17)
unfolding reach
offset_size w = number_size w (2 ^ 54) 17 (omega arith) (omega arith)

count_size : (w : Text) → IfSome (count_of w) (λ v. length w ≤ 10)
unfolding reach
count_size w = number_size w (2 ^ 32 - 1) 10 (omega arith) (omega arith)

writer_size : (w : Text) → IfSome (number_of 16 w) (λ v. length w ≤ 2)
unfolding reach
writer_size w = number_size w 16 2 (omega arith) (omega arith)

-- ---- names and ranges

short_name : (w : Text) → is_name w ≡ true → length w ≤ 16
unfolding is_name
short_name w h = grind (arith, nat_tests)

name_size : (w : Text) → IfSome (name_of w) (λ n. length w ≤ 16)
unfolding name_of
name_size w = only_then (is_name w) (Some (named w)) (length w ≤ 16) (short_name w)

range_size : (name offset count : Text) → IfSome (range_of name offset count) (λ r. length name + length offset + length count ≤ 43)
unfolding range_of
range_size name offset count = chained (name_of name) _ (length name ≤ 16) (length name + length offset + length count ≤ 43) (name_size name) (λ n a.
    chained (offset_of offset) _ (length offset ≤ 17) (length name + length offset + length count ≤ 43) (offset_size offset) (λ o b.
    chained (count_of count) _ (length count ≤ 10) (length name + length offset + length count ≤ 43) (count_size count) (λ c d.
    only_then (is_range o c) _ (length name + length offset + length count ≤ 43) (λ t. omega (arith, a, b, d)))))

-- ---- operations

-- the bytes of words, and one more for each
text_size : List Text → ℕ
text_size [] = 0
text_size (w ∷ ws) = length w + 1 + text_size ws

front_size : (b : ℕ) (ws : List Text) → 1 ≤ text_size ws → text_size (in_front b ws) ≡ text_size ws + 1
unfolding text_size
front_size b [] h = absurd (omega (arith, h))
front_size b (w ∷ ws) h = omega arith

size_words : (bs : Text) → text_size (words bs) ≡ length bs + 1
unfolding words text_size
size_words [] = refl
size_words (b ∷ bs) = elim (b == 32) as (λ t. text_size (if t then [] ∷ words bs else in_front b (words bs)) ≡ suc (length bs) + 1) [
  | true ↦ omega (arith, size_words bs)
  | false ↦ omega (arith, size_words bs, front_size b (words bs) (omega (arith, size_words bs)))
]

open_size : (ws : List Text) → IfSome (open_of ws) (λ o. text_size ws ≤ 38)
unfolding open_of text_size
open_size [] = tt
open_size (name ∷ []) = tt
open_size (name ∷ ino ∷ []) = chained (name_of name) _ (length name ≤ 16) (length name + 1 + (length ino + 1 + 0) ≤ 38) (name_size name) (λ n a. mapped (ino_of ino) _ (length ino ≤ 20) (length name + 1 + (length ino + 1 + 0) ≤ 38) (ino_size ino) (λ b. omega (arith, a, b)))
open_size (name ∷ ino ∷ x ∷ xs) = tt

create_size : (ws : List Text) → IfSome (create_of ws) (λ o. text_size ws ≤ 28)
unfolding create_of text_size
create_size [] = tt
create_size (name ∷ []) = tt
create_size (name ∷ uid ∷ []) = chained (name_of name) _ (length name ≤ 16) (length name + 1 + (length uid + 1 + 0) ≤ 28) (name_size name) (λ n a. mapped (count_of uid) _ (length uid ≤ 10) (length name + 1 + (length uid + 1 + 0) ≤ 28) (count_size uid) (λ b. omega (arith, a, b)))
create_size (name ∷ uid ∷ x ∷ xs) = tt

only_range_size : (ws : List Text) → IfSome (only_range ws) (λ o. text_size ws ≤ 46)
unfolding only_range text_size
only_range_size [] = tt
only_range_size (name ∷ []) = tt
only_range_size (name ∷ offset ∷ []) = tt
only_range_size (name ∷ offset ∷ count ∷ []) = weaker (range_of name offset count) _ (length name + 1 + (length offset + 1 + (length count + 1 + 0)) ≤ 46) (range_size name offset count) (λ h. omega (arith, h))
only_range_size (name ∷ offset ∷ count ∷ x ∷ xs) = tt

share_size : (ws : List Text) → IfSome (share_of ws) (λ o. text_size ws ≤ 81)
unfolding share_of text_size
share_size [] = tt
share_size (name ∷ []) = tt
share_size (name ∷ offset ∷ []) = tt
share_size (name ∷ offset ∷ count ∷ []) = tt
share_size (name ∷ offset ∷ count ∷ to ∷ []) = tt
share_size (name ∷ offset ∷ count ∷ to ∷ place ∷ []) = chained (range_of name offset count) _ (length name + length offset + length count ≤ 43) (text_size (name ∷ offset ∷ count ∷ to ∷ place ∷ []) ≤ 81) (range_size name offset count) (λ r a.
    chained (name_of to) _ (length to ≤ 16) (text_size (name ∷ offset ∷ count ∷ to ∷ place ∷ []) ≤ 81) (name_size to) (λ t b.
    chained (offset_of place) _ (length place ≤ 17) (text_size (name ∷ offset ∷ count ∷ to ∷ place ∷ []) ≤ 81) (offset_size place) (λ p d.
    only_then (is_range p r.count) _ (text_size (name ∷ offset ∷ count ∷ to ∷ place ∷ []) ≤ 81) (λ k. omega (arith, a, b, d)))))
share_size (name ∷ offset ∷ count ∷ to ∷ place ∷ x ∷ xs) = tt

remove_size : (ws : List Text) → IfSome (remove_of ws) (λ o. text_size ws ≤ 17)
unfolding remove_of text_size
remove_size [] = tt
remove_size (name ∷ []) = mapped (name_of name) _ (length name ≤ 16) (length name + 1 + 0 ≤ 17) (name_size name) (λ a. omega (arith, a))
remove_size (name ∷ x ∷ xs) = tt

header_size : (ws : List Text) → IfSome (writer_of ws) (λ o. text_size ws ≤ 3)
unfolding writer_of text_size
header_size [] = tt
header_size (word ∷ []) = chained (number_of 16 word) a_writer (length word ≤ 2) (length word + 1 + 0 ≤ 3) (writer_size word) (λ w a. only_then (nat_lt 0 w) (Some w) (length word + 1 + 0 ≤ 3) (λ t. omega (arith, a)))
header_size (word ∷ x ∷ xs) = tt

-- ---- lines

key_size : (key k : Text) → bytes_eq key k ≡ true → length key ≡ length k
key_size key k h = ap length ((bytes_eq-Decides key k).0 h)

op_size : (key : Text) (ws : List Text) → IfSome (op_by key ws) (λ o. length key + 1 + text_size ws ≤ 87)
unfolding op_by
op_size key ws =
    let P = length key + 1 + text_size ws ≤ 87 in
    either (bytes_eq key (codes "open")) _ _ P (λ t. weaker (open_of ws) _ P (open_size ws) (λ h. omega (arith, h, key_size key (codes "open") t))) (λ f.
    either (bytes_eq key (codes "create")) _ _ P (λ t. weaker (create_of ws) _ P (create_size ws) (λ h. omega (arith, h, key_size key (codes "create") t))) (λ f.
    either (bytes_eq key (codes "map")) _ _ P (λ t. mapped (only_range ws) map_of _ P (only_range_size ws) (λ h. omega (arith, h, key_size key (codes "map") t))) (λ f.
    either (bytes_eq key (codes "unmap")) _ _ P (λ t. mapped (only_range ws) unmap_of _ P (only_range_size ws) (λ h. omega (arith, h, key_size key (codes "unmap") t))) (λ f.
    either (bytes_eq key (codes "convert")) _ _ P (λ t. mapped (only_range ws) convert_of _ P (only_range_size ws) (λ h. omega (arith, h, key_size key (codes "convert") t))) (λ f.
    either (bytes_eq key (codes "share")) _ _ P (λ t. weaker (share_of ws) _ P (share_size ws) (λ h. omega (arith, h, key_size key (codes "share") t))) (λ f.
    only_then (bytes_eq key (codes "remove")) (remove_of ws) P (λ t. weaker (remove_of ws) _ P (remove_size ws) (λ h. omega (arith, h, key_size key (codes "remove") t)))))))))

said_size : (ws : List Text) → IfSome (said_in ws) (λ s. text_size ws ≤ 87)
unfolding said_by text_size
said_size [] = tt
said_size (key ∷ ws) = either (bytes_eq key (codes "writer")) (option_map Header (writer_of ws)) (option_map Asks (op_by key ws)) (length key + 1 + text_size ws ≤ 87)
    (λ t. mapped (writer_of ws) Header _ (length key + 1 + text_size ws ≤ 87) (header_size ws) (λ h. omega (arith, h, key_size key (codes "writer") t)))
    (λ f. mapped (op_by key ws) Asks _ (length key + 1 + text_size ws ≤ 87) (op_size key ws) (λ h. h))

pub long_says_nothing : (line : Text) → 87 ≤ length line → said_of line ≡ None
unfolding said_of
long_says_nothing line h = none_of (said_in (words line)) (text_size (words line) ≤ 87) (said_size (words line)) (λ k. omega (arith, h, k, size_words line))
