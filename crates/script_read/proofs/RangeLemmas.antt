-- What a line says is in range.
use Rattle.std.proofs.Common.{◌≡◌, ◌≤◌, ◌<◌, ◌+◌, ◌-◌, ◌^◌, ◌∙◌, ℕ, Bool, true, false, List, [], ◌∷◌, Option, Some, None, refl, ap, length, arith}
use Rattle.std.proofs.lemmas.Bool.Decides.{nat_tests}
use Rattle.std.proofs.Math.Seq.{take-append_seam}
use Rattle.std.specs.Prelude.{◌&&◌, ◌==◌, nat_le, nat_lt, IfSome, option_map, option_and_then, codes, replicate, if◌then◌else◌}
use Rattle.std.specs.Str.{bytes_eq}
use Rattle.script_defs.specs.declared.operation.Op.TheVariants as ops
use Rattle.script_defs.specs.declared.operation.Range.{Range}
use Rattle.script_defs.specs.declared.operation.Said.{Said}
use Rattle.script_defs.specs.declared.operation.Said.TheVariants.{Header, Asks}
use Rattle.script_defs.specs.Numbers.{is_digit, with_digit, value_from, number_of, zero_alone}
use Rattle.script_defs.specs.Words.{Text, words, is_name, named, name_of, text_of}
use Rattle.script_defs.specs.Operations.{is_range, ino_of, count_of, offset_of, range_of, open_of, create_of, only_range, map_of, unmap_of, convert_of, share_of, remove_of, op_by, a_writer, writer_of, said_by, said_in, said_of}
use Rattle.script_defs.specs.Shape.{IsName, AreBlocks, IsInRange}

-- ---- what holds of what stands in an option

chained : {A B : Type 0} (x : Option A) (f : A → Option B) (Q : A → Type 0) (P : B → Type 0) → IfSome x Q → ((a : A) → Q a → IfSome (f a) P) → IfSome (option_and_then f x) P
chained None f Q P q h = tt
chained (Some a) f Q P q h = h a q

mapped : {A B : Type 0} (x : Option A) (f : A → B) (Q : A → Type 0) (P : B → Type 0) → IfSome x Q → ((a : A) → Q a → P (f a)) → IfSome (option_map f x) P
mapped None f Q P q h = tt
mapped (Some a) f Q P q h = h a q

either : {A : Type 0} (t : Bool) (x y : Option A) (P : A → Type 0) → IfSome x P → IfSome y P → IfSome (if t then x else y) P
either true x y P h k = h
either false x y P h k = k

only_then : {A : Type 0} (t : Bool) (x : Option A) (P : A → Type 0) → (t ≡ true → IfSome x P) → IfSome (if t then x else None) P
only_then true x P h = h refl
only_then false x P h = tt

-- ---- numbers and names

is_within : (n b most : ℕ) → (is_digit b && nat_le (with_digit n b) most) ≡ true → with_digit n b ≤ most
is_within n b most h = grind (arith, nat_tests)

value_within : (ds : Text) (most n : ℕ) → n ≤ most → IfSome (value_from most n ds) (λ v. v ≤ most)
unfolding value_from
value_within [] most n h = h
value_within (b ∷ bs) most n h = only_then (is_digit b && nat_le (with_digit n b) most) (value_from most (with_digit n b) bs) (λ v. v ≤ most) (λ t. value_within bs most (with_digit n b) (is_within n b most t))

zero_within : (bs : Text) (most : ℕ) → IfSome (zero_alone bs) (λ v. v ≤ most)
zero_within [] most = omega arith
zero_within (b ∷ bs) most = tt

number_within : (most : ℕ) (w : Text) → IfSome (number_of most w) (λ v. v ≤ most)
unfolding number_of
number_within most [] = tt
number_within most (b ∷ bs) = either (b == 48) (zero_alone bs) (value_from most 0 (b ∷ bs)) (λ v. v ≤ most) (zero_within bs most) (value_within (b ∷ bs) most 0 (omega arith))

weaker : {A : Type 0} (x : Option A) (Q P : A → Type 0) → IfSome x Q → ((a : A) → Q a → P a) → IfSome x P
weaker None Q P q h = tt
weaker (Some a) Q P q h = h a q

ino_within : (w : Text) → IfSome (ino_of w) (λ v. v < 2 ^ 64)
ino_within w = weaker (ino_of w) _ (λ v. v < 2 ^ 64) (number_within (2 ^ 64 - 1) w) (λ v h. omega (arith, h))

count_within : (w : Text) → IfSome (count_of w) (λ v. v < 2 ^ 32)
count_within w = weaker (count_of w) _ (λ v. v < 2 ^ 32) (number_within (2 ^ 32 - 1) w) (λ v h. omega (arith, h))

text_of_named : (w : Text) → text_of (named w) ≡ w
unfolding named
text_of_named w = take-append_seam w (replicate (16 - length w) 0)

name_of_named : (w : Text) → is_name w ≡ true → name_of w ≡ Some (named w)
unfolding name_of
name_of_named w h = ap (λ (t : Bool). if t then Some (named w) else None) h

name_known : (w : Text) → IfSome (name_of w) IsName
unfolding name_of
name_known w = only_then (is_name w) (Some (named w)) IsName (λ t. ap name_of (text_of_named w) ∙ name_of_named w t)

-- ---- ranges

is_range_known : (offset count : ℕ) → is_range offset count ≡ true → (0 < count) × (offset + count ≤ 2 ^ 54)
unfolding is_range
is_range_known offset count h = (grind (arith, nat_tests), grind (arith, nat_tests))

blocks_known : (offset count : ℕ) → count < 2 ^ 32 → is_range offset count ≡ true → AreBlocks offset count
blocks_known offset count h t = let k = is_range_known offset count t in (k.0, h, k.1)

IsOfFork : Range → Type 0
IsOfFork r = IsName r.name × AreBlocks r.offset r.count

range_known : (name offset count : Text) → IfSome (range_of name offset count) IsOfFork
unfolding range_of IsOfFork
range_known name offset count = chained (name_of name) _ IsName IsOfFork (name_known name) (λ n a.
    chained (offset_of offset) _ (λ o. o ≤ 2 ^ 54) IsOfFork (number_within (2 ^ 54) offset) (λ o b.
    chained (count_of count) _ (λ c. c < 2 ^ 32) IsOfFork (count_within count) (λ c d.
    only_then (is_range o c) _ IsOfFork (λ t. (a, blocks_known o c d t)))))

-- ---- operations

open_known : (ws : List Text) → IfSome (open_of ws) IsInRange
unfolding open_of
open_known [] = tt
open_known (name ∷ []) = tt
open_known (name ∷ ino ∷ []) = chained (name_of name) _ IsName IsInRange (name_known name) (λ n a. mapped (ino_of ino) _ (λ v. v < 2 ^ 64) IsInRange (ino_within ino) (λ v b. (a, b)))
open_known (name ∷ ino ∷ x ∷ xs) = tt

create_known : (ws : List Text) → IfSome (create_of ws) IsInRange
unfolding create_of
create_known [] = tt
create_known (name ∷ []) = tt
create_known (name ∷ uid ∷ []) = chained (name_of name) _ IsName IsInRange (name_known name) (λ n a. mapped (count_of uid) _ (λ v. v < 2 ^ 32) IsInRange (count_within uid) (λ v b. (a, b)))
create_known (name ∷ uid ∷ x ∷ xs) = tt

only_range_known : (ws : List Text) → IfSome (only_range ws) IsOfFork
unfolding only_range
only_range_known [] = tt
only_range_known (name ∷ []) = tt
only_range_known (name ∷ offset ∷ []) = tt
only_range_known (name ∷ offset ∷ count ∷ []) = range_known name offset count
only_range_known (name ∷ offset ∷ count ∷ x ∷ xs) = tt

share_known : (ws : List Text) → IfSome (share_of ws) IsInRange
unfolding share_of IsOfFork
share_known [] = tt
share_known (name ∷ []) = tt
share_known (name ∷ offset ∷ []) = tt
share_known (name ∷ offset ∷ count ∷ []) = tt
share_known (name ∷ offset ∷ count ∷ to ∷ []) = tt
share_known (name ∷ offset ∷ count ∷ to ∷ place ∷ []) = chained (range_of name offset count) _ IsOfFork IsInRange (range_known name offset count) (λ r a.
    chained (name_of to) _ IsName IsInRange (name_known to) (λ t b.
    chained (offset_of place) _ (λ p. p ≤ 2 ^ 54) IsInRange (number_within (2 ^ 54) place) (λ p d.
    only_then (is_range p r.count) _ IsInRange (λ k. (a.0, a.1, b, blocks_known p r.count a.1.1 k)))))
share_known (name ∷ offset ∷ count ∷ to ∷ place ∷ x ∷ xs) = tt

remove_known : (ws : List Text) → IfSome (remove_of ws) IsInRange
unfolding remove_of
remove_known [] = tt
remove_known (name ∷ []) = mapped (name_of name) _ IsName IsInRange (name_known name) (λ n a. a)
remove_known (name ∷ x ∷ xs) = tt

op_known : (key : Text) (ws : List Text) → IfSome (op_by key ws) IsInRange
unfolding op_by IsOfFork
op_known key ws =
    either (bytes_eq key (codes "open")) _ _ IsInRange (open_known ws) (
    either (bytes_eq key (codes "create")) _ _ IsInRange (create_known ws) (
    either (bytes_eq key (codes "map")) _ _ IsInRange (mapped (only_range ws) map_of IsOfFork IsInRange (only_range_known ws) (λ r h. h)) (
    either (bytes_eq key (codes "unmap")) _ _ IsInRange (mapped (only_range ws) unmap_of IsOfFork IsInRange (only_range_known ws) (λ r h. h)) (
    either (bytes_eq key (codes "convert")) _ _ IsInRange (mapped (only_range ws) convert_of IsOfFork IsInRange (only_range_known ws) (λ r h. h)) (
    either (bytes_eq key (codes "share")) _ _ IsInRange (share_known ws) (
    either (bytes_eq key (codes "remove")) _ _ IsInRange (remove_known ws) tt))))))

-- ---- lines

-- a header's writer is 1 to 16, and an operation is in range
abbrev pub IsSaid : Said → Type 0
IsSaid (Header w) = (0 < w) × (w ≤ 16)
IsSaid (Asks op) = IsInRange op

writer_above : (w : ℕ) → nat_lt 0 w ≡ true → 0 < w
writer_above w h = grind (arith, nat_tests)

header_known : (ws : List Text) → IfSome (writer_of ws) (λ w. (0 < w) × (w ≤ 16))
unfolding writer_of
header_known [] = tt
header_known (word ∷ []) = chained (number_of 16 word) a_writer (λ w. w ≤ 16) (λ w. (0 < w) × (w ≤ 16)) (number_within 16 word) (λ w a. only_then (nat_lt 0 w) (Some w) (λ v. (0 < v) × (v ≤ 16)) (λ t. (writer_above w t, a)))
header_known (word ∷ x ∷ xs) = tt

said_known : (ws : List Text) → IfSome (said_in ws) IsSaid
unfolding said_by
said_known [] = tt
said_known (key ∷ ws) = either (bytes_eq key (codes "writer")) (option_map Header (writer_of ws)) (option_map Asks (op_by key ws)) IsSaid
    (mapped (writer_of ws) Header (λ w. (0 < w) × (w ≤ 16)) IsSaid (header_known ws) (λ w h. h))
    (mapped (op_by key ws) Asks IsInRange IsSaid (op_known key ws) (λ op h. h))

pub line_known : (line : Text) → IfSome (said_of line) IsSaid
unfolding said_of
line_known line = said_known (words line)
