-- A list of mappings laid into an inode reads as exactly that list.
use Rattle.std.proofs.Common.{◌≡◌, ℕ, suc, ◌+◌, ◌-◌, ◌*◌, ◌<◌, ◌≤◌, Bool, true, false, List, [], ◌∷◌, ◌++◌, length, take, drop, Some, None, refl, sym, ap, ◌∙◌, subst, arith}
use Rattle.std.proofs.lemmas.Bool.Decides.{nat_tests}
use Rattle.std.proofs.lemmas.List.{drop-drop, length-append, length-drop}
use Rattle.std.specs.Prelude.{nat_lt, nat_le}
use Rattle.byteorder.specs.Numbers.{big_number-reads_back, length-bytes_high_first}
use Rattle.geom.specs.Layout.{Layout}
use Rattle.dinode_core.specs.declared.inode.Core3.{Core3}
use Rattle.dinode_core.specs.declared.mapping.Fork.TheVariants.{Data, Attr}
use Rattle.dinode_core.specs.declared.mapping.Mapping.{Mapping}
use Rattle.dinode_core.specs.declared.shape.Format.TheVariants.{Extents}
use Rattle.dinode_core.specs.Frame.{OwnParts}
use Rattle.dinode_core.specs.Inline.{form_fault, inline_fault, inline_mappings, first_bad, mappings_fit, mappings_in}
use Rattle.dinode_core.specs.Packed.{FitsPacked, bits_of, mapping_of, packed, unpacked}
use Rattle.dinode_core.specs.Shape.{area_of, count_of, data_size, format_of, has_large_counts, room_of}
use Rattle.dinode_core.proofs.PackedLemmas.{bits_fit, mapping_again}
use Rattle.fork_change.specs.Lists.{AllFit, Fits}
use Rattle.fork_change.specs.Written.{ReadsAs, laid, numbered, with_list}

-- ---- bytes

pub is_packed : (m : Mapping) → Fits m → FitsPacked m
is_packed m f =
    let some = f.some in let o = f.offset in let b = f.block in
    record { offset = omega (arith, some, o); block = omega (arith, some, b); count = f.count }

pub packed_long : (m : Mapping) → length (packed m) ≡ 16
unfolding packed
packed_long m = length-bytes_high_first 16 (bits_of m)

unpacks_front : (m : Mapping) (rest : List ℕ) → FitsPacked m → unpacked (packed m ++ rest) ≡ m
unfolding packed unpacked
unpacks_front m rest fit = ap mapping_of (big_number-reads_back 16 (bits_of m) rest (bits_fit m fit)) ∙ mapping_again m fit

take_past : (n : ℕ) (xs ys : List ℕ) → take (length xs + n) (xs ++ ys) ≡ xs ++ take n ys
take_past n [] ys = let e : 0 + n ≡ n = omega arith in rw e refl
take_past n (x ∷ xs) ys = let e : suc (length xs) + n ≡ suc (length xs + n) = omega arith in rw e (ap (λ zs. x ∷ zs) (take_past n xs ys))

drop_past : (n : ℕ) (xs ys : List ℕ) → drop (length xs + n) (xs ++ ys) ≡ drop n ys
drop_past n [] ys = let e : 0 + n ≡ n = omega arith in rw e refl
drop_past n (x ∷ xs) ys = let e : suc (length xs) + n ≡ suc (length xs + n) = omega arith in rw e (drop_past n xs ys)

take_packed : (m : Mapping) (n : ℕ) (rest : List ℕ) → take (16 + n) (packed m ++ rest) ≡ packed m ++ take n rest
take_packed m n rest = subst (λ (k : ℕ). take (k + n) (packed m ++ rest) ≡ packed m ++ take n rest) (packed_long m) (take_past n (packed m) rest)

drop_packed : (m : Mapping) (n : ℕ) (rest : List ℕ) → drop (16 + n) (packed m ++ rest) ≡ drop n rest
drop_packed m n rest = subst (λ (k : ℕ). drop (k + n) (packed m ++ rest) ≡ drop n rest) (packed_long m) (drop_past n (packed m) rest)

-- the packed mappings in the first bytes are the list
reads_list : (ms : List Mapping) (bytes : List ℕ) (size n : ℕ) → AllFit ms → n ≡ size - 16 * length ms → 16 * length ms ≤ size → mappings_in (length ms) (take size (laid ms bytes)) ≡ ms
unfolding mappings_in laid
reads_list [] bytes size n fits e room = refl
reads_list (m ∷ ms) bytes size n fits e room =
    let rest = laid ms (drop 16 bytes) in
    let left : 16 * length ms ≤ size - 16 = omega (arith, room) in
    let whole : 16 + (size - 16) ≡ size = omega (arith, room) in
    let front : take size (packed m ++ rest) ≡ packed m ++ take (size - 16) rest = subst (λ (k : ℕ). take k (packed m ++ rest) ≡ packed m ++ take (size - 16) rest) whole (take_packed m (size - 16) rest) in
    let later = reads_list ms (drop 16 bytes) (size - 16) (size - 16 - 16 * length ms) fits.1 refl left in
    let first : unpacked (take size (packed m ++ rest)) ≡ m = ap unpacked front ∙ unpacks_front m (take (size - 16) rest) (is_packed m fits.0) in
    let others : drop 16 (take size (packed m ++ rest)) ≡ take (size - 16) rest = ap (drop 16) front ∙ drop_packed m 0 (take (size - 16) rest) in
    ap (λ x. x ∷ mappings_in (length ms) (drop 16 (take size (packed m ++ rest)))) first ∙ ap (λ xs. m ∷ mappings_in (length ms) xs) others ∙ ap (λ xs. m ∷ xs) later

-- and the bytes behind it are as they were
leaves_rest : (ms : List Mapping) (bytes : List ℕ) (k : ℕ) → 16 * length ms ≤ k → drop k (laid ms bytes) ≡ drop k bytes
unfolding laid
leaves_rest [] bytes k room = refl
leaves_rest (m ∷ ms) bytes k room =
    let rest = laid ms (drop 16 bytes) in
    let whole : 16 + (k - 16) ≡ k = omega (arith, room) in
    subst (λ (n : ℕ). drop n (packed m ++ rest) ≡ drop n bytes) whole
    (drop_packed m (k - 16) rest ∙ leaves_rest ms (drop 16 bytes) (k - 16) (omega (arith, room)) ∙ drop-drop (k - 16) 16 bytes)

pub laid_long : (ms : List Mapping) (bytes : List ℕ) → 16 * length ms ≤ length bytes → length (laid ms bytes) ≡ length bytes
unfolding laid
laid_long [] bytes room = refl
laid_long (m ∷ ms) bytes room =
    let cut = length-drop 16 bytes in
    let rest = laid_long ms (drop 16 bytes) (omega (arith, cut, room)) in
    let both = length-append (packed m) (laid ms (drop 16 bytes)) in
    let p = packed_long m in
    omega (arith, cut, rest, both, p, room)

-- ---- cores

pub room_bound : (core : Core3) (n : ℕ) → core.forkoff < 42 → n ≤ room_of core Data → 16 * n ≤ 336
room_bound core n inside h = grind (arith, nat_tests)

form_none : (core : Core3) → nat_lt core.forkoff 42 ≡ true → format_of core Data ≡ Some Extents → mappings_fit core Data ≡ true → form_fault core Data ≡ None
unfolding form_fault
form_none core a f r = rw (a, f, r) refl

inline_is : (core : Core3) (ms : List Mapping) → format_of core Data ≡ Some Extents → mappings_in (count_of core Data) (area_of core Data) ≡ ms → inline_mappings core Data ≡ ms
unfolding inline_mappings
inline_is core ms f h = rw f h

fault_is : (at : Layout) (core : Core3) (ms : List Mapping) → form_fault core Data ≡ None → inline_mappings core Data ≡ ms → inline_fault at core Data ≡ first_bad at Data ms
unfolding inline_fault
fault_is at core ms f h = rw (f, h) refl

below_test : (n k : ℕ) → n < k → nat_lt n k ≡ true
below_test n k h = grind (arith, nat_tests)

most_test : (n k : ℕ) → n ≤ k → nat_le n k ≡ true
most_test n k h = grind (arith, nat_tests)

fit_is : (core : Core3) (n : ℕ) → count_of core Data ≡ n → n ≤ room_of core Data → mappings_fit core Data ≡ true
unfolding mappings_fit
fit_is core n e h = rw e (most_test n (room_of core Data) h)

count_is : (b : Bool) (n : ℕ) (core : Core3) (bytes : List ℕ) → has_large_counts core ≡ b → count_of (record (numbered b n core) { literal = bytes }) Data ≡ n
unfolding count_of
count_is true n core bytes h = rw h refl
count_is false n core bytes h = rw h refl

other_count : (b : Bool) (n : ℕ) (core : Core3) (bytes : List ℕ) → has_large_counts core ≡ b → count_of (record (numbered b n core) { literal = bytes }) Attr ≡ count_of core Attr
unfolding count_of
other_count true n core bytes h = rw h refl
other_count false n core bytes h = rw h refl

same_form : (b : Bool) (n : ℕ) (core : Core3) (bytes : List ℕ) → format_of core Data ≡ Some Extents → format_of (record (numbered b n core) { literal = bytes }) Data ≡ Some Extents
unfolding format_of
same_form true n core bytes h = h
same_form false n core bytes h = h

other_form : (b : Bool) (n : ℕ) (core : Core3) (bytes : List ℕ) → format_of (record (numbered b n core) { literal = bytes }) Attr ≡ format_of core Attr
unfolding format_of
other_form true n core bytes = refl
other_form false n core bytes = refl

same_start : (b : Bool) (n : ℕ) (core : Core3) (bytes : List ℕ) → (record (numbered b n core) { literal = bytes }).forkoff ≡ core.forkoff
same_start true n core bytes = refl
same_start false n core bytes = refl

same_ino : (b : Bool) (n : ℕ) (core : Core3) (bytes : List ℕ) → (record (numbered b n core) { literal = bytes }).ino ≡ core.ino
same_ino true n core bytes = refl
same_ino false n core bytes = refl

packed_room : (core : Core3) (n : ℕ) → n ≤ room_of core Data → 16 * n ≤ data_size core
packed_room core n h = omega (arith, h)

from_parts : (core : Core3) (ms : List Mapping) → nat_lt core.forkoff 42 ≡ true → format_of core Data ≡ Some Extents → count_of core Data ≡ length ms → length ms ≤ room_of core Data → mappings_in (length ms) (area_of core Data) ≡ ms → ReadsAs core ms
from_parts core ms inside format count room read =
    let form = form_none core inside format (fit_is core (length ms) count room) in
    let list = inline_is core ms format (ap (λ (n : ℕ). mappings_in n (area_of core Data)) count ∙ read) in
    record { form = form; mappings = list; fault = λ at. fault_is at core ms form list }

reads_by : (b : Bool) (ms : List Mapping) (core : Core3) → has_large_counts core ≡ b → format_of core Data ≡ Some Extents → core.forkoff < 42 → AllFit ms → length ms ≤ room_of core Data → ReadsAs (record (numbered b (length ms) core) { literal = laid ms core.literal }) ms
reads_by true ms core large format inside fits room =
    from_parts (record (numbered true (length ms) core) { literal = laid ms core.literal }) ms (below_test core.forkoff 42 inside) (same_form true (length ms) core (laid ms core.literal) format)
    (count_is true (length ms) core (laid ms core.literal) large) room (reads_list ms core.literal (data_size core) (data_size core - 16 * length ms) fits refl (packed_room core (length ms) room))
reads_by false ms core large format inside fits room =
    from_parts (record (numbered false (length ms) core) { literal = laid ms core.literal }) ms (below_test core.forkoff 42 inside) (same_form false (length ms) core (laid ms core.literal) format)
    (count_is false (length ms) core (laid ms core.literal) large) room (reads_list ms core.literal (data_size core) (data_size core - 16 * length ms) fits refl (packed_room core (length ms) room))

pub reads_as : (ms : List Mapping) (old new : Core3) → new ≡ with_list ms old → format_of old Data ≡ Some Extents → old.forkoff < 42 → AllFit ms → length ms ≤ room_of old Data → ReadsAs new ms
reads_as ms old new e format inside fits room = subst (λ (c : Core3). ReadsAs c ms) (sym e) (reads_by (has_large_counts old) ms old refl format inside fits room)

parts_by : (b : Bool) (ms : List Mapping) (core : Core3) → has_large_counts core ≡ b → length ms ≤ room_of core Data → OwnParts Attr core (record (numbered b (length ms) core) { literal = laid ms core.literal })
parts_by true ms core large room = record {
  ino = refl;
  forkoff = refl;
  size = refl;
  absent = refl;
  area = leaves_rest ms core.literal (data_size core) (packed_room core (length ms) room);
  count = other_count true (length ms) core (laid ms core.literal) large;
  format = other_form true (length ms) core (laid ms core.literal);
}
parts_by false ms core large room = record {
  ino = refl;
  forkoff = refl;
  size = refl;
  absent = refl;
  area = leaves_rest ms core.literal (data_size core) (packed_room core (length ms) room);
  count = other_count false (length ms) core (laid ms core.literal) large;
  format = other_form false (length ms) core (laid ms core.literal);
}

pub keeps_attributes : (ms : List Mapping) (old new : Core3) → new ≡ with_list ms old → length ms ≤ room_of old Data → OwnParts Attr old new
keeps_attributes ms old new e room = subst (λ (c : Core3). OwnParts Attr old c) (sym e) (parts_by (has_large_counts old) ms old refl room)
