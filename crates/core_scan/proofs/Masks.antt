-- The inode btrees list the allocated inodes.
use Rattle.std.proofs.Common.{◌≡◌, ℕ, zero, suc, ◌+◌, ◌*◌, ◌^◌, ◌<◌, ◌≤◌, ◌==◌, ◌&&◌, ◌||◌, nat_lt, inl, inr, Bool, true, false, not, map, Contains, Option, Some, None, refl, sym, ap, ap₂, subst, ◌∙◌, arith, eqb-true}
use Rattle.std.specs.Prelude.{◌/◌, ◌%◌, sum_by, if◌then◌else◌}
use Rattle.std.proofs.Math.Nat.{div-div-eq-div-mul, div-one, mul-suc, mul_assoc, pow-suc, pow-succ'}
use Rattle.std.proofs.lemmas.Bool.{false≢true, true≢false, and_parts, cases_Bool, ltb-true}
use Rattle.std.proofs.lemmas.Bool.Decides.{nat_tests}
use Rattle.std.proofs.lemmas.List.Sums.{sum_by-cons}
use Rattle.geom.specs.Layout.{group_len_of, inode_at, split_of}
use Rattle.ino_recs.specs.declared.chunk.InoRec.{InoRec}
use Rattle.inode_scan.specs.Chunk.{is_free as is_bit_free}
use Rattle.inode_scan.specs.Cursor.{first_number}
use Rattle.inode_scan.specs.NextInode.{IsAllocated}
use Rattle.rmap_recs.proofs.RisingLemmas.{filtered, in_front, in_rest, kept_by_filter, kept_by_map, mapped}
use Rattle.fs_state.specs.Apart.{has_unit, in_chunk, ino_lists, is_chunk, is_inode, is_listed, rmap_lists, unit_verifies}
use Rattle.fs_state.specs.State.{State}
use Rattle.fs_state.specs.Chunks.{chunks, inode_in}
use Rattle.fs_state.specs.Derive.{is_free}
use Rattle.fs_state.specs.Lists.{numbers}
use Rattle.law_writers.proofs.Change.Members.{split_parts}
use Rattle.law_writers.proofs.Inode.Cores.{chunk_inode, free_in, ino_is, own_chunks, unit_number}
use Rattle.core_scan.specs.Equation.{AreMasks, MasksTell, recorded}
use Rattle.core_scan.specs.Seen.{is_allocated}

-- ---- the bits of a mask

abbrev over : ℕ → (ℕ → Bool) → (ℕ → ℕ) → ℕ → ℕ
over n free f u = sum_by (λ j. if free (64 * u + j) then f j else 0) (numbers 0 n)

-- the record of a unit of which these are free
abbrev rec_of : ℕ → (ℕ → Bool) → ℕ → InoRec
rec_of n free u = record { startino = 64 * u; holemask = 0; count = 64; freecount = over n free (λ j. 1) u; free = over n free (λ j. 2 ^ j) u }

abbrev bit_of : (ℕ → Bool) → ℕ → ℕ
bit_of p j = if p j then 2 ^ j else 0

value : (ℕ → Bool) → ℕ → ℕ → ℕ
value p a zero = 0
value p a (suc n) = (if p a then 1 else 0) + 2 * value p (a + 1) n

added : (x s t u : ℕ) → s ≡ t → u ≡ t + x → x + s ≡ u
added x s t u a b = omega (arith, a, b)

bits_value : (p : ℕ → Bool) (a n : ℕ) → sum_by (bit_of p) (numbers a n) ≡ 2 ^ a * value p a n
unfolding value
bits_value p a zero = omega arith
bits_value p a (suc n) =
    let rest : sum_by (bit_of p) (numbers (a + 1) n) ≡ 2 ^ (a + 1) * value p (a + 1) n = bits_value p (a + 1) n in
    let next : a + 1 ≡ suc a = omega arith in
    let twice : 2 ^ (a + 1) ≡ 2 ^ a * 2 = ap (λ (k : ℕ). 2 ^ k) next ∙ pow-suc 2 a in
    sum_by-cons (bit_of p) a (numbers (a + 1) n) ∙ first (p a) (2 ^ a) (2 ^ (a + 1)) (value p (a + 1) n) (sum_by (bit_of p) (numbers (a + 1) n)) twice rest
  where
    first : (b : Bool) (x y m s : ℕ) → y ≡ x * 2 → s ≡ y * m → (if b then x else 0) + s ≡ x * ((if b then 1 else 0) + 2 * m)
    first true x y m s e f =
        let a : s ≡ x * (2 * m) = f ∙ ap (λ (k : ℕ). k * m) e ∙ mul_assoc x 2 m in
        let z : 1 + 2 * m ≡ suc (2 * m) = omega arith in
        let b : x * (1 + 2 * m) ≡ x * (2 * m) + x = ap (λ (k : ℕ). x * k) z ∙ mul-suc x (2 * m) in
        added x s (x * (2 * m)) (x * (1 + 2 * m)) a b
    first false x y m s e f =
        let a : s ≡ x * (2 * m) = f ∙ ap (λ (k : ℕ). k * m) e ∙ mul_assoc x 2 m in
        let z : 0 + 2 * m ≡ 2 * m = omega arith in
        let y : 0 + s ≡ s = omega arith in
        y ∙ a ∙ ap (λ (k : ℕ). x * k) (sym z)

low : (b : Bool) (w : ℕ) → ((if b then 1 else 0) + 2 * w) % 2 ≡ (if b then 1 else 0)
low true w = omega arith
low false w = omega arith

half : (b : Bool) (w : ℕ) → ((if b then 1 else 0) + 2 * w) / 2 ≡ w
half true w = omega arith
half false w = omega arith

value_bit : (p : ℕ → Bool) (a n s : ℕ) → s < n → (value p a n / 2 ^ s) % 2 ≡ (if p (a + s) then 1 else 0)
unfolding value
value_bit p a zero s h = absurd (omega (arith, h))
value_bit p a (suc n) zero h =
    ap (λ x. x % 2) (div-one ((if p a then 1 else 0) + 2 * value p (a + 1) n)) ∙ low (p a) (value p (a + 1) n)
    ∙ ap (λ k. if p k then 1 else 0) (let e : a ≡ a + 0 = omega arith in e)
value_bit p a (suc n) (suc s) h =
    let v : ℕ = (if p a then 1 else 0) + 2 * value p (a + 1) n in
    ap (λ x. (v / x) % 2) (pow-succ' 2 s)
    ∙ ap (λ x. x % 2) (sym (div-div-eq-div-mul v 2 (2 ^ s)))
    ∙ ap (λ x. (x / 2 ^ s) % 2) (half (p a) (value p (a + 1) n))
    ∙ value_bit p (a + 1) n s (omega (arith, h))
    ∙ ap (λ k. if p k then 1 else 0) (let e : a + 1 + s ≡ a + suc s = omega arith in e)

-- the bit of an inode is set where it is free
bit_is : (k : ℕ → Bool) (u s : ℕ) → s < 64 → is_bit_free (rec_of 64 k u) s ≡ k (64 * u + s)
unfolding is_bit_free
bit_is k u s h =
    let p : ℕ → Bool = λ j. k (64 * u + j) in
    ap (λ x. x / 2 ^ s % 2 == 1) (bits_value p 0 64 ∙ one (value p 0 64))
    ∙ ap (λ x. x == 1) (value_bit p 0 64 s h ∙ ap (λ j. if k (64 * u + j) then 1 else 0) (let e : 0 + s ≡ s = omega arith in e))
    ∙ test (k (64 * u + s))
  where
    one : (v : ℕ) → 2 ^ 0 * v ≡ v
    one v = omega arith

    test : (b : Bool) → ((if b then 1 else 0) == 1) ≡ b
    test true = refl
    test false = refl

-- ---- records and inodes

in_list : (a n m : ℕ) → a ≤ m → m < a + n → Contains (numbers a n) m
in_list a zero m h k = absurd (omega (arith, h, k))
in_list a (suc n) m h k = elim (cases_Bool (a == m)) [
  | inl same ↦ subst (λ x. Contains (numbers a (suc n)) x) (eqb-true a m same) (in_front a (numbers (a + 1) n))
  | inr other ↦ in_rest a (numbers (a + 1) n) m (in_list (a + 1) n m (grind (arith, nat_tests, h, other)) (omega (arith, k)))
]

module _ (a : State) (g : ℕ) (masks : AreMasks a) (group : g < a.geometry.agcount) where
  abbrev free : ℕ → Bool
  free = free_in a.core a.geometry.agblklog g

  records : recorded a g ≡ map (rec_of 64 free) (chunks a g)
  records = masks g group ∙ ino_is a g

  has_record : (u : ℕ) → is_chunk a g u ≡ true → u < group_len_of a.geometry g / 8 → Contains (recorded a g) (rec_of 64 free u)
  has_record u chunk lies = subst (λ rs. Contains rs (rec_of 64 free u)) (sym records) (kept_by_map (rec_of 64 free) (chunks a g) u (subst (λ us. Contains us u) (sym (own_chunks a g)) (kept_by_filter (is_chunk a g) (numbers 0 (group_len_of a.geometry g / 8)) u (in_list 0 (group_len_of a.geometry g / 8) u (omega arith) (omega (arith, lies))) chunk)))

  of_record : (r : InoRec) → Contains (recorded a g) r → (u : ℕ) × (is_chunk a g u ≡ true) × (rec_of 64 free u ≡ r)
  of_record r c =
      let at = mapped (rec_of 64 free) (chunks a g) r (subst (λ rs. Contains rs r) records c) in
      let chunk = filtered (is_chunk a g) (numbers 0 (group_len_of a.geometry g / 8)) at.0 (subst (λ us. Contains us at.0) (own_chunks a g) at.1) in
      (at.0, chunk.1, at.2)

-- the number of an inode of a unit
number_in : (a : State) (g u j : ℕ) → inode_in a g u j ≡ first_number a.geometry g + (64 * u + j)
unfolding first_number
number_in a g u j = unit_number a g u j

pub record Place (a : State) (ino : ℕ) : Type 0 where
  pub group : ℕ
  pub unit : ℕ
  pub nth : ℕ
  pub there : group < a.geometry.agcount
  pub chunk : is_chunk a group unit ≡ true
  pub lies : unit < group_len_of a.geometry group / 8
  pub few : nth < 64
  pub number : inode_in a group unit nth ≡ ino

its_block : (b o : ℕ) → 8 * (b / 8) + (8 * (b % 8) + o % 8) / 8 ≡ b
its_block b o = omega arith

its_slot : (b o : ℕ) → (8 * (b % 8) + o % 8) % 8 ≡ o % 8
its_slot b o = omega arith

few_slots : (b o : ℕ) → 8 * (b % 8) + o % 8 < 64
few_slots b o = omega arith

whole : (o : ℕ) → o / 8 * 8 + o % 8 ≡ o
whole o = omega arith

in_whole_unit : (b len : ℕ) → b < len → 8 * (b / 8) + 7 < len → b / 8 < len / 8
in_whole_unit b len k h = omega (arith, h)

chunk_ends : (a : State) (g u : ℕ) → is_chunk a g u ≡ true → 8 * u + 7 < group_len_of a.geometry g
unfolding is_chunk is_listed has_unit
chunk_ends a g u h =
    let listed = and_parts (has_unit a.geometry g u && (ino_lists a g u || rmap_lists a g u)) (unit_verifies a.geometry a.core g u) h in
    let lies = and_parts (has_unit a.geometry g u) (ino_lists a g u || rmap_lists a g u) listed.0 in
    ltb-true (8 * u + 7) (group_len_of a.geometry g) (and_parts (nat_lt g a.geometry.agcount) (nat_lt (8 * u + 7) (group_len_of a.geometry g)) lies.0).1

pub place_of : (a : State) (ino : ℕ) → is_inode a ino ≡ true → Place a ino
unfolding is_inode
place_of a ino h = by (split_of a.geometry (ino / 8)) refl h
  where
    by : (p : Option (ℕ × ℕ)) → split_of a.geometry (ino / 8) ≡ p → in_chunk a p ≡ true → Place a ino
    by None e h = absurd (false≢true h)
    by (Some p) e h =
        let parts = split_parts a.geometry (ino / 8) p.0 p.1 e in
        let j : ℕ = 8 * (p.1 % 8) + ino % 8 in
        record {
          group = p.0;
          unit = p.1 / 8;
          nth = j;
          there = parts.group;
          chunk = h;
          lies = in_whole_unit p.1 (group_len_of a.geometry p.0) parts.block (chunk_ends a p.0 (p.1 / 8) h);
          few = few_slots p.1 ino;
          number = ap₂ (λ m s. inode_at a.geometry p.0 m s) (its_block p.1 ino) (its_slot p.1 ino) ∙ ap (λ n. n * 8 + ino % 8) parts.number ∙ whole ino;
        }

low_number : (u j len : ℕ) → u < len / 8 → j < 64 → 64 * u + j < len * 8
low_number u j len h k = omega (arith, h, k)

core_is : (a : State) (g u j : ℕ) → free_in a.core a.geometry.agblklog g (64 * u + j) ≡ is_free (a.core (inode_in a g u j))
core_is a g u j = ap (λ n. is_free (a.core n)) (sym (unit_number a g u j))

is_used : (x y : Bool) → (x && not y) ≡ true → y ≡ false
is_used true true h = absurd (false≢true h)
is_used true false h = refl
is_used false y h = absurd (false≢true h)

both : (x y : Bool) → x ≡ true → y ≡ false → (x && not y) ≡ true
both true false h k = refl
both true true h k = absurd (true≢false k)
both false y h k = absurd (false≢true h)

pub masks_tell : MasksTell
masks_tell a ino fit masks = (λ h. tells h, λ h. told h)
  where
    tells : is_allocated a ino ≡ true → IsAllocated a.geometry (recorded a) ino
    tells h =
        let p = place_of a ino (and_parts (is_inode a ino) (not (is_free (a.core ino))) h).0 in
        let used : is_free (a.core ino) ≡ false = is_used (is_inode a ino) (is_free (a.core ino)) h in
        let bit : is_bit_free (rec_of 64 (free_in a.core a.geometry.agblklog p.group) p.unit) p.nth ≡ false = bit_is (free_in a.core a.geometry.agblklog p.group) p.unit p.nth p.few ∙ core_is a p.group p.unit p.nth ∙ ap (λ n. is_free (a.core n)) p.number ∙ used in (
          p.group,
          64 * p.unit + p.nth,
          p.there,
          low_number p.unit p.nth (group_len_of a.geometry p.group) p.lies p.few,
          (rec_of 64 (free_in a.core a.geometry.agblklog p.group) p.unit, p.nth, has_record a p.group masks p.there p.unit p.chunk p.lies, p.few, bit, refl),
          sym (number_in a p.group p.unit p.nth) ∙ p.number,
        )

    told : IsAllocated a.geometry (recorded a) ino → is_allocated a ino ≡ true
    told h =
        let g : ℕ = h.0 in
        let own = h.4 in
        let r = of_record a g masks h.2 own.0 own.2 in
        let s : ℕ = own.1 in
        let few : s < 64 = own.3 in
        let start : own.0.startino ≡ 64 * r.0 = ap (λ (x : InoRec). x.startino) (sym r.2) in
        let number : inode_in a g r.0 s ≡ ino = number_in a g r.0 s ∙ ap (λ x. first_number a.geometry g + (x + s)) (sym start) ∙ ap (λ x. first_number a.geometry g + x) own.5 ∙ h.5 in
        let used : is_free (a.core ino) ≡ false = ap (λ n. is_free (a.core n)) (sym number) ∙ sym (core_is a g r.0 s) ∙ sym (bit_is (free_in a.core a.geometry.agblklog g) r.0 s few) ∙ ap (λ (x : InoRec). is_bit_free x s) r.2 ∙ own.4 in
        both (is_inode a ino) (is_free (a.core ino)) (ap (is_inode a) (sym number) ∙ chunk_inode a g r.0 s fit r.1 few) used
