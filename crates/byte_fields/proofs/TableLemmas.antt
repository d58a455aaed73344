-- The remainder is linear, and a byte's part of it stands in a table.
use Rattle.std.proofs.Common.{◌≡◌, ℕ, zero, suc, ◌+◌, ◌*◌, ◌/◌, ◌%◌, ◌^◌, ◌<◌, ◌⊎◌, inl, inr, Bool, true, false, ◌&&◌, List, [], ◌∷◌, length, get_or, replicate, ◌-◌, refl, sym, ◌∙◌, ap, arith}
use Rattle.std.specs.Prelude.{IsTrue, eqb}
use Rattle.std.proofs.Math.Nat.{pow-succ'}
use Rattle.std.proofs.lemmas.Bool.{eqb-true, cases_lt}
use Rattle.std.proofs.lemmas.Nat.{xor_comm}
use Rattle.std.proofs.lemmas.List.{length-append, get_or_append_left, get_or-append_right}
use Rattle.std.specs.Int.Bits.{bit_xor, xor_assoc, xor_zero_r, xor_zero_l, xor_self}
use Rattle.std.specs.Int.{bit_at}
use Rattle.std.proofs.lemmas.Nat.Bits.{same_from_bits, bit_at_xor, bit_at-suc, bit_at_lowest}
use Rattle.byte_fields.specs.Tables.{after_zeros, next_zeros, laid_over, table, are_same, is_table}
use Rattle.byte_fields.specs.Checksum.{after_bit, after_bits, after_byte, after_bytes}

half-xor : (k l : ℕ) → bit_xor k l / 2 ≡ bit_xor (k / 2) (l / 2)
half-xor k l =
    same_from_bits (bit_xor k l / 2) (bit_xor (k / 2) (l / 2))
    (λ i. let both : bit_at k (suc i) + bit_at l (suc i) ≡ bit_at (k / 2) i + bit_at (l / 2) i = ap (λ (n : ℕ). n + bit_at l (suc i)) (bit_at-suc k i) ∙ ap (λ (n : ℕ). bit_at (k / 2) i + n) (bit_at-suc l i) in
    sym (bit_at-suc (bit_xor k l) i) ∙ bit_at_xor k l (suc i) ∙ ap (λ (n : ℕ). n % 2) both ∙ sym (bit_at_xor (k / 2) (l / 2) i))

parity-xor : (k l : ℕ) → bit_xor k l % 2 ≡ (k % 2 + l % 2) % 2
parity-xor k l =
    sym (bit_at_lowest (bit_xor k l)) ∙ bit_at_xor k l 0 ∙ (ap (λ (n : ℕ). (n + bit_at l 0) % 2) (bit_at_lowest k) ∙ ap (λ (n : ℕ). (k % 2 + n) % 2) (bit_at_lowest l))

parity : (k : ℕ) → (k % 2 ≡ 0) ⊎ (k % 2 ≡ 1)
parity k =
    elim (cases_lt (k % 2) 1) [
      | inl below ↦ inl (omega arith)
      | inr above ↦ inr (omega arith)
    ]

-- (x ^ p) ^ (y ^ p) is x ^ y, and the like
both-odd : (x y p : ℕ) → bit_xor x y ≡ bit_xor (bit_xor x p) (bit_xor y p)
both-odd x y p = rw (xor_comm y p, xor_assoc x p (bit_xor p y), ← xor_assoc p p y, xor_self p, xor_zero_l y) refl

first-odd : (x y p : ℕ) → bit_xor (bit_xor x y) p ≡ bit_xor (bit_xor x p) y
first-odd x y p = xor_assoc x y p ∙ (ap (bit_xor x) (xor_comm y p) ∙ sym (xor_assoc x p y))

add-bit : (k l : ℕ) → after_bit (bit_xor k l) ≡ bit_xor (after_bit k) (after_bit l)
unfolding after_bit
add-bit k l =
    elim (parity k) [
      | inl p ↦ elim (parity l) [
        | inl q ↦ rw (parity-xor k l, half-xor k l, p, q) refl
        | inr q ↦ rw (parity-xor k l, half-xor k l, p, q) (xor_assoc (k / 2) (l / 2) 2197175160)
      ]
      | inr p ↦ elim (parity l) [
        | inl q ↦ rw (parity-xor k l, half-xor k l, p, q) (first-odd (k / 2) (l / 2) 2197175160)
        | inr q ↦ rw (parity-xor k l, half-xor k l, p, q) (both-odd (k / 2) (l / 2) 2197175160)
      ]
    ]

pub add-bits : (n k l : ℕ) → after_bits n (bit_xor k l) ≡ bit_xor (after_bits n k) (after_bits n l)
unfolding after_bits
add-bits zero k l = refl
add-bits (suc n) k l = ap (after_bits n) (add-bit k l) ∙ add-bits n (after_bit k) (after_bit l)

after-none : (n : ℕ) → after_bits n 0 ≡ 0
unfolding after_bits after_bit
after-none zero = refl
after-none (suc n) = after-none n

half : (k : ℕ) → 2 * k / 2 ≡ k
half k = omega arith

-- the lowest bit of an even number is lost
after-double : (k : ℕ) → after_bit (2 * k) ≡ k
unfolding after_bit
after-double k =
    let even : 2 * k % 2 ≡ 0 = omega arith in
    rw (even, half k) refl

double : (n h : ℕ) → 2 ^ suc n * h ≡ 2 * (2 ^ n * h)
double n h = rw (pow-succ' 2 n) (omega arith)

after-high : (n h : ℕ) → after_bits n (2 ^ n * h) ≡ h
unfolding after_bits
after-high zero h = omega arith
after-high (suc n) h = rw (double n h, after-double (2 ^ n * h)) (after-high n h)

joined : (n h l : ℕ) → l < 2 ^ n → bit_xor (2 ^ n * h) l ≡ 2 ^ n * h + l
joined zero h l lt = let z : l ≡ 0 = omega arith in rw (z, xor_zero_r) (omega arith)
joined (suc n) h l lt =
    let e : 2 ^ suc n * h ≡ 2 * (2 ^ n * h) = double n h in
    let k = 2 ^ n * h in
    let low : bit_xor (2 * k) l % 2 ≡ (2 * k % 2 + l % 2) % 2 = parity-xor (2 * k) l in
    let high : bit_xor (2 * k) l / 2 ≡ k + l / 2 = half-xor (2 * k) l ∙ (ap (λ (m : ℕ). bit_xor m (l / 2)) (half k) ∙ joined n h (l / 2) (omega arith)) in
    rw e (omega (arith, low, high))

-- the high bits move down, and the low byte's remainder is laid over them
in-parts : (x : ℕ) → after_bits 8 x ≡ bit_xor (x / 256) (after_bits 8 (x % 256))
in-parts x =
    let e : bit_xor (2 ^ 8 * (x / 256)) (x % 256) ≡ x = joined 8 (x / 256) (x % 256) (omega arith) ∙ omega arith in
    ap (after_bits 8) (sym e) ∙ (add-bits 8 (2 ^ 8 * (x / 256)) (x % 256) ∙ ap (λ (m : ℕ). bit_xor m (after_bits 8 (x % 256))) (after-high 8 (x / 256)))

-- one byte more, where h is still to be shifted out and r is not
one-more : (h r b : ℕ) → after_byte (bit_xor h r) b ≡ bit_xor (h / 256) (bit_xor (after_bits 8 r) (after_bits 8 (bit_xor (h % 256) b)))
unfolding after_byte
one-more h r b =
    let x = h / 256 in
    let y = after_bits 8 (h % 256) in
    let z = after_bits 8 r in
    let w = after_bits 8 b in
    let split : after_bits 8 (bit_xor (bit_xor h r) b) ≡ bit_xor (bit_xor (bit_xor x y) z) w =
    add-bits 8 (bit_xor h r) b ∙ ap (λ (m : ℕ). bit_xor m w) (add-bits 8 h r ∙ ap (λ (m : ℕ). bit_xor m z) (in-parts h)) in
    let order : bit_xor (bit_xor (bit_xor x y) z) w ≡ bit_xor x (bit_xor z (bit_xor y w)) =
    ap (λ (m : ℕ). bit_xor m w) (xor_assoc x y z ∙ ap (bit_xor x) (xor_comm y z)) ∙ (xor_assoc x (bit_xor z y) w ∙ ap (bit_xor x) (xor_assoc z y w)) in
    split ∙ (order ∙ ap (λ (m : ℕ). bit_xor x (bit_xor z m)) (sym (add-bits 8 (h % 256) b)))

first_one : (h b : ℕ) → after_byte h b ≡ bit_xor (h / 256) (after_bits 8 (bit_xor (h % 256) b))
first_one h b =
    let e : after_byte (bit_xor h 0) b ≡ bit_xor (h / 256) (bit_xor 0 (after_bits 8 (bit_xor (h % 256) b))) =
    one-more h 0 b ∙ ap (λ (m : ℕ). bit_xor (h / 256) (bit_xor m (after_bits 8 (bit_xor (h % 256) b)))) (after-none 8) in
    rw (xor_zero_r h, xor_zero_l (after_bits 8 (bit_xor (h % 256) b))) at e

pub by_table : (h b : ℕ) → after_byte h b ≡ bit_xor (h / 256) (after_zeros 1 (bit_xor (h % 256) b))
unfolding after_zeros
by_table h b = first_one h b

last-one : (r b : ℕ) → after_byte r b ≡ bit_xor (after_bits 8 r) (after_bits 8 b)
unfolding after_byte
last-one r b = add-bits 8 r b

-- four bytes take the place of all bits that stood before
pub after-four : (c a b d e : ℕ) → c < 2 ^ 32 → after_bytes c (a ∷ b ∷ d ∷ e ∷ []) ≡ bit_xor (after_bits 8 (bit_xor (after_bits 8 (bit_xor (after_bits 8 (after_bits 8 (bit_xor (c % 256) a))) (after_bits 8 (bit_xor (c / 256 % 256) b)))) (after_bits 8 (bit_xor (c / 65536 % 256) d)))) (after_bits 8 (bit_xor (c / 16777216) e))
unfolding after_bytes
after-four c a b d e lt =
    let t1 = after_bits 8 (bit_xor (c % 256) a) in
    let t2 = after_bits 8 (bit_xor (c / 256 % 256) b) in
    let t3 = after_bits 8 (bit_xor (c / 65536 % 256) d) in
    let t4 = after_bits 8 (bit_xor (c / 16777216) e) in
    let h2 : c / 256 / 256 ≡ c / 65536 = omega arith in
    let h3 : c / 65536 / 256 ≡ c / 16777216 = omega arith in
    let h4 : c / 16777216 / 256 ≡ 0 = omega arith in
    let l4 : c / 16777216 % 256 ≡ c / 16777216 = omega arith in
    let s1 : after_byte c a ≡ bit_xor (c / 256) t1 = first_one c a in
    let s2 : after_byte (bit_xor (c / 256) t1) b ≡ bit_xor (c / 256 / 256) (bit_xor (after_bits 8 t1) t2) = one-more (c / 256) t1 b in
    let r2 = bit_xor (after_bits 8 t1) t2 in
    let s3 : after_byte (bit_xor (c / 65536) r2) d ≡ bit_xor (c / 65536 / 256) (bit_xor (after_bits 8 r2) t3) = one-more (c / 65536) r2 d in
    let r3 = bit_xor (after_bits 8 r2) t3 in
    let s4 : after_byte (bit_xor (c / 16777216) r3) e ≡ bit_xor (c / 16777216 / 256) (bit_xor (after_bits 8 r3) (after_bits 8 (bit_xor (c / 16777216 % 256) e))) = one-more (c / 16777216) r3 e in
    rw (s1, s2, h2, s3, h3, s4, h4, l4) (xor_zero_l (bit_xor (after_bits 8 r3) t4))

add-eight : (k l : ℕ) → after_bits 8 (bit_xor k l) ≡ bit_xor (after_bits 8 k) (after_bits 8 l)
add-eight k l = add-bits 8 k l

-- bytes of zero
pub zeros-are : (n c : ℕ) → after_bytes c (replicate n 0) ≡ after_zeros n c
unfolding after_bytes after_byte after_zeros
zeros-are zero c = refl
zeros-are (suc n) c = ap (λ (m : ℕ). after_bytes (after_bits 8 m) (replicate n 0)) (xor_zero_r c) ∙ zeros-are n (after_bits 8 c)

pub add-zeros : (n k l : ℕ) → after_zeros n (bit_xor k l) ≡ bit_xor (after_zeros n k) (after_zeros n l)
unfolding after_zeros
add-zeros zero k l = refl
add-zeros (suc n) k l = ap (after_zeros n) (add-bits 8 k l) ∙ add-zeros n (after_bits 8 k) (after_bits 8 l)

pub zeros-on : (m n c : ℕ) → after_zeros n (after_zeros m c) ≡ after_zeros (m + n) c
unfolding after_zeros
zeros-on zero n c = let e : n ≡ 0 + n = omega arith in ap (λ (k : ℕ). after_zeros k c) e
zeros-on (suc m) n c = let e : suc (m + n) ≡ suc m + n = omega arith in zeros-on m n (after_bits 8 c) ∙ ap (λ (k : ℕ). after_zeros k c) e

pub spread-four : (a b c d : ℕ) → bit_xor (after_bits 8 (bit_xor (after_bits 8 (bit_xor (after_bits 8 (after_bits 8 a)) (after_bits 8 b))) (after_bits 8 c))) (after_bits 8 d) ≡ bit_xor (bit_xor (bit_xor (after_zeros 4 a) (after_zeros 3 b)) (after_zeros 2 c)) (after_zeros 1 d)
unfolding after_zeros
spread-four a b c d = simp add-eight

-- four bytes of zero take the place of the remainder, byte for byte
pub four-empty : (c : ℕ) → c < 2 ^ 32 → after_zeros 4 c ≡ bit_xor (bit_xor (after_zeros 4 (c % 256)) (after_zeros 3 (c / 256 % 256))) (bit_xor (after_zeros 2 (c / 65536 % 256)) (after_zeros 1 (c / 16777216)))
four-empty c lt =
    let four : after_zeros 4 c ≡ bit_xor (after_bits 8 (bit_xor (after_bits 8 (bit_xor (after_bits 8 (after_bits 8 (c % 256))) (after_bits 8 (c / 256 % 256)))) (after_bits 8 (c / 65536 % 256)))) (after_bits 8 (c / 16777216)) =
    sym (zeros-are 4 c) ∙ (after-four c 0 0 0 0 lt
    ∙ (λ i. bit_xor (after_bits 8 (bit_xor (after_bits 8 (bit_xor (after_bits 8 (after_bits 8 (xor_zero_r (c % 256) i))) (after_bits 8 (xor_zero_r (c / 256 % 256) i)))) (after_bits 8 (xor_zero_r (c / 65536 % 256) i)))) (after_bits 8 (xor_zero_r (c / 16777216) i)))) in
    four ∙ (spread-four (c % 256) (c / 256 % 256) (c / 65536 % 256) (c / 16777216) ∙ xor_assoc (bit_xor (after_zeros 4 (c % 256)) (after_zeros 3 (c / 256 % 256))) (after_zeros 2 (c / 65536 % 256)) (after_zeros 1 (c / 16777216)))

split_and : (a b : Bool) → (a && b) ≡ true → (a ≡ true) × (b ≡ true)
split_and true b h = (refl, h)
split_and false b h = absurd cc

next-is : (n c : ℕ) → next_zeros n c ≡ after_zeros n c
unfolding after_zeros after_bits after_bit
next-is zero c = refl
next-is (suc n) c = next-is n _

length-laid : (r : ℕ) (xs : List ℕ) → length (laid_over r xs) ≡ length xs
length-laid r [] = refl
length-laid r (x ∷ xs) = ap suc (length-laid r xs)

laid-at : (r : ℕ) (xs : List ℕ) (k : ℕ) → k < length xs → get_or (laid_over r xs) k 0 ≡ bit_xor r (get_or xs k 0)
laid-at r [] k lt = absurd (omega arith)
laid-at r (x ∷ xs) zero lt = refl
laid-at r (x ∷ xs) (suc k) lt = laid-at r xs k (omega arith)

length-table : (n k : ℕ) → length (table n k) ≡ 2 ^ k
length-table n zero = refl
length-table n (suc k) =
    let laid = laid_over (next_zeros n (2 ^ k)) (table n k) in
    length-append (table n k) laid ∙ (ap (λ (m : ℕ). length (table n k) + m) (length-laid _ (table n k)) ∙ (ap (λ (m : ℕ). m + m) (length-table n k) ∙ (omega arith ∙ sym (pow-succ' 2 k))))

none-on : (n : ℕ) → after_zeros n 0 ≡ 0
unfolding after_zeros
none-on zero = refl
none-on (suc n) = ap (after_zeros n) (after-none 8) ∙ none-on n

-- a highest bit and the others
with-bit : (k j : ℕ) → j < 2 ^ k → bit_xor (2 ^ k) j ≡ 2 ^ k + j
with-bit k j lt =
    let one : 2 ^ k * 1 ≡ 2 ^ k = omega arith in
    rw one at (joined k 1 j lt)

table-at : (n k i : ℕ) → i < 2 ^ k → get_or (table n k) i 0 ≡ after_zeros n i
table-at n zero i lt = let z : i ≡ 0 = omega arith in rw z (sym (none-on n))
table-at n (suc k) i lt =
    let r = next_zeros n (2 ^ k) in
    let low = table n k in
    let long : length low ≡ 2 ^ k = length-table n k in
    let twice : 2 ^ suc k ≡ 2 * 2 ^ k = pow-succ' 2 k ∙ omega arith in
    elim (cases_lt i (2 ^ k)) [
      | inl below ↦ get_or_append_left low (laid_over r low) 0 i (omega (arith, long)) ∙ table-at n k i (omega arith)
      | inr above ↦
          let j = i - 2 ^ k in
          let within : j < 2 ^ k = omega (arith, twice) in
          get_or-append_right low (laid_over r low) (2 ^ k) i 0 long (omega arith)
          ∙ (laid-at r low j (omega (arith, long))
          ∙ (ap (bit_xor r) (table-at n k j within)
          ∙ (ap (λ (m : ℕ). bit_xor m (after_zeros n j)) (next-is n (2 ^ k))
          ∙ (sym (add-zeros n (2 ^ k) j)
          ∙ ap (after_zeros n) (with-bit k j within ∙ omega arith)))))
    ]

same-at : (xs ys : List ℕ) → IsTrue (are_same xs ys) → xs ≡ ys
same-at [] [] h = refl
same-at [] (y ∷ ys) h = absurd cc
same-at (x ∷ xs) [] h = absurd cc
same-at (x ∷ xs) (y ∷ ys) h =
    let p : (eqb x y ≡ true) × IsTrue (are_same xs ys) = split_and _ _ h in
    (λ i. eqb-true x y p.0 i ∷ same-at xs ys p.1 i)

pub entry : (n : ℕ) (xs : List ℕ) (k : ℕ) → IsTrue (is_table n xs) → k < length xs → get_or xs k 0 ≡ after_zeros n k
entry n xs k h lt =
    let e : xs ≡ table n 8 = same-at xs (table n 8) h in
    let long : length xs ≡ 2 ^ 8 = ap length e ∙ length-table n 8 in
    ap (λ (t : List ℕ). get_or t k 0) e ∙ table-at n 8 k (omega (arith, long))
