-- Mappings and their 128 bits.
use Rattle.std.proofs.Common.{◌≡◌, ℕ, ◌+◌, ◌*◌, ◌/◌, ◌%◌, ◌^◌, ◌<◌, Bool, true, false, List, [], length, get_or, refl, sym, ap, ◌∙◌, arith}
use Rattle.std.proofs.lemmas.Bool.Decides.{nat_tests}
use Rattle.byteorder.specs.Endian.{big_number, big_bytes}
use Rattle.byteorder.specs.Numbers.{big_number-reads_back, big_from-lt}
use Rattle.std.proofs.lemmas.List.{append-nil}
use Rattle.std.specs.Prelude.{if◌then◌else◌, ◌==◌}
use Rattle.dinode_core.specs.declared.mapping.Mapping.{Mapping}
use Rattle.dinode_core.specs.Packed.{FitsPacked, bits_of, mapping_of, packed, unpacked}
use Rattle.dinode_core.proofs.NumberLemmas.{bytes_again}

fits_128 : (f o b c : ℕ) → f < 2 → o < 2 ^ 54 → b < 2 ^ 52 → c < 2 ^ 21 → f * 2 ^ 127 + o * 2 ^ 73 + b * 2 ^ 21 + c < 2 ^ 128
fits_128 f o b c hf ho hb hc = omega arith

offset_in : (f o b c : ℕ) → f < 2 → o < 2 ^ 54 → b < 2 ^ 52 → c < 2 ^ 21 → (f * 2 ^ 127 + o * 2 ^ 73 + b * 2 ^ 21 + c) / 2 ^ 73 % 2 ^ 54 ≡ o
offset_in f o b c hf ho hb hc = omega arith

block_in : (f o b c : ℕ) → f < 2 → o < 2 ^ 54 → b < 2 ^ 52 → c < 2 ^ 21 → (f * 2 ^ 127 + o * 2 ^ 73 + b * 2 ^ 21 + c) / 2 ^ 21 % 2 ^ 52 ≡ b
block_in f o b c hf ho hb hc = omega arith

count_in : (f o b c : ℕ) → c < 2 ^ 21 → (f * 2 ^ 127 + o * 2 ^ 73 + b * 2 ^ 21 + c) % 2 ^ 21 ≡ c
count_in f o b c hc = omega arith

flag_in : (f o b c : ℕ) → f < 2 → o < 2 ^ 54 → b < 2 ^ 52 → c < 2 ^ 21 → (f * 2 ^ 127 + o * 2 ^ 73 + b * 2 ^ 21 + c) / 2 ^ 127 ≡ f
flag_in f o b c hf ho hb hc = omega arith

flag_small : (b : Bool) → (if b then 1 else 0) < 2
flag_small true = omega arith
flag_small false = omega arith

flag_test : (b : Bool) → ((if b then 1 else 0) == 1) ≡ b
flag_test true = refl
flag_test false = refl

test_flag : (f : ℕ) → f < 2 → (if f == 1 then 1 else 0) ≡ f
test_flag f h = grind (arith, nat_tests)

pub bits_fit : (m : Mapping) → FitsPacked m → bits_of m < 2 ^ 128
bits_fit m fit = fits_128 (if m.unwritten then 1 else 0) m.offset m.block m.count (flag_small m.unwritten) fit.offset fit.block fit.count

pub mapping_again : (m : Mapping) → FitsPacked m → mapping_of (bits_of m) ≡ m
mapping_again m fit =
    let f = if m.unwritten then 1 else 0 in
    let flag = flag_small m.unwritten in
    let o = offset_in f m.offset m.block m.count flag fit.offset fit.block fit.count in
    let b = block_in f m.offset m.block m.count flag fit.offset fit.block fit.count in
    let c = count_in f m.offset m.block m.count fit.count in
    let u = ap (λ n. n == 1) (flag_in f m.offset m.block m.count flag fit.offset fit.block fit.count) ∙ flag_test m.unwritten in
    λ i. record { offset = o i; block = b i; count = c i; unwritten = u i }

parts_join : (n : ℕ) → n < 2 ^ 128 → n / 2 ^ 127 * 2 ^ 127 + n / 2 ^ 73 % 2 ^ 54 * 2 ^ 73 + n / 2 ^ 21 % 2 ^ 52 * 2 ^ 21 + n % 2 ^ 21 ≡ n
parts_join n h = omega arith

high_flag : (n : ℕ) → n < 2 ^ 128 → n / 2 ^ 127 < 2
high_flag n h = omega arith

pub bits_again : (n : ℕ) → n < 2 ^ 128 → bits_of (mapping_of n) ≡ n
bits_again n h =
    ap (λ f. f * 2 ^ 127 + n / 2 ^ 73 % 2 ^ 54 * 2 ^ 73 + n / 2 ^ 21 % 2 ^ 52 * 2 ^ 21 + n % 2 ^ 21) (test_flag (n / 2 ^ 127) (high_flag n h)) ∙ parts_join n h

pub unpacks_again : (m : Mapping) → FitsPacked m → unpacked (packed m) ≡ m
unfolding packed unpacked
unpacks_again m fit =
    ap (λ xs. mapping_of (big_number 16 xs)) (sym (append-nil (big_bytes 16 (bits_of m))))
    ∙ ap mapping_of (big_number-reads_back 16 (bits_of m) [] (bits_fit m fit))
    ∙ mapping_again m fit

pub packs_again : (bytes : List ℕ) → length bytes ≡ 16 → ((k : ℕ) → get_or bytes k 0 < 256) → packed (unpacked bytes) ≡ bytes
unfolding packed unpacked
packs_again bytes len small =
    ap (big_bytes 16) (bits_again (big_number 16 bytes) (big_from-lt 0 16 bytes small)) ∙ bytes_again 16 bytes len small

-- the bytes of the mapping's bits unpack to the mapping
pub unpacks_bytes : (m : Mapping) (bytes : List ℕ) (bits : ℕ) → FitsPacked m → bits ≡ bits_of m → bytes ≡ big_bytes 16 bits → unpacked bytes ≡ m
unfolding packed
unpacks_bytes m bytes bits fit e f = ap unpacked (f ∙ ap (big_bytes 16) e) ∙ unpacks_again m fit
