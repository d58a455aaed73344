-- What stands in the offset word of a claim: no two of one owner's differ in the unwritten flag alone.
use Rattle.std.proofs.Common.{◌≡◌, ℕ, ◌+◌, ◌-◌, ◌*◌, ◌%◌, ◌^◌, ◌<◌, ◌≤◌, Bool, true, false, not, ◌&&◌, List, [], ◌∷◌, Option, Some, None, Ok, Err, bit_and, refl, ap, sym, subst, ◌∙◌, inl, inr, arith, lit<}
use Rattle.std.specs.Prelude.{◌⊎◌, nat_le, if◌then◌else◌}
use Rattle.std.proofs.lemmas.Bool.{and_parts, false≢true, leb-true}
use Rattle.std.proofs.lemmas.Nat.{and_block, and_mask}
use Rattle.byte_fields.specs.FirstFailing.{first_failing}
use Rattle.dinode_core.specs.Inline.{clears, ends_in_group, first_bad, in_range, is_attr, mapping_fault, or_else, rises}
use Rattle.dinode_core.specs.declared.mapping.Fork.{Fork}
use Rattle.dinode_core.specs.declared.mapping.Fork.TheVariants.{Data, Attr}
use Rattle.dinode_core.specs.declared.mapping.ForkFault.{ForkFault}
use Rattle.dinode_core.specs.declared.mapping.ForkFault.TheVariants as faults
use Rattle.dinode_core.specs.declared.mapping.Mapping.{Mapping}
use Rattle.fs_state.specs.Claims.{attribute, fork_of, fork_tree, read_fork, unwritten, word_of}
use Rattle.fs_state.specs.State.{State}
use Rattle.geom.specs.Layout.{Layout, split_of}
use Rattle.rmap_recs.specs.Owners.{is_inode}
use Rattle.rmap_recs.specs.Words.{key_word}
use Rattle.unit_plan.specs.Group.{AreGoodForks}

-- ---- mappings without a fault

some_none : (f : ForkFault) → ◌≡◌ {A = Option ForkFault} (Some f) None → ⊥
some_none f h = cc

tests_pass : (r c i : Bool) (rest : Option ForkFault) → or_else (first_failing ((r, faults.Order) ∷ (c, faults.Overlap) ∷ (i, faults.Range) ∷ [])) rest ≡ None → (c ≡ true) × (i ≡ true) × (rest ≡ None)
tests_pass true true true rest h = (refl, refl, h)
tests_pass true true false rest h = absurd (some_none faults.Range h)
tests_pass true false i rest h = absurd (some_none faults.Overlap h)
tests_pass false c i rest h = absurd (some_none faults.Order h)

-- it ends in the group where it lies, and its offsets have room
pub record IsFit (at : Layout) (m : Mapping) : Type 0 where
  pub inside : ends_in_group at (split_of at m.block) m.count ≡ true
  pub offsets : m.offset + m.count ≤ 2 ^ 54

abbrev pub Good : Layout → List Mapping → Type 0
Good at [] = Unit {0}
Good at (m ∷ ms) = (clears m ms ≡ true) × IsFit at m × Good at ms

fit_from : (at : Layout) (f : Fork) (m : Mapping) → in_range at f m ≡ true → IsFit at m
unfolding in_range
fit_from at f m h =
    let one = and_parts (nat_le 1 m.count && ends_in_group at (split_of at m.block) m.count && nat_le (m.offset + m.count) (2 ^ 54)) (not (m.unwritten && is_attr f)) h in
    let two = and_parts (nat_le 1 m.count && ends_in_group at (split_of at m.block) m.count) (nat_le (m.offset + m.count) (2 ^ 54)) one.0 in
    record { inside = (and_parts (nat_le 1 m.count) (ends_in_group at (split_of at m.block) m.count) two.0).1; offsets = leb-true (m.offset + m.count) (2 ^ 54) two.1 }

good_from : (at : Layout) (f : Fork) (ms : List Mapping) → first_bad at f ms ≡ None → Good at ms
unfolding first_bad mapping_fault
good_from at f [] h = tt
good_from at f (m ∷ ms) h =
    let k = tests_pass (rises m ms) (clears m ms) (in_range at f m) (first_bad at f ms) h in
    (k.0, fit_from at f m k.1, good_from at f ms k.2)

-- a fork that can't be read has none
pub fork_good : (a : State) → AreGoodForks a → (ino : ℕ) (f : Fork) → Good a.geometry (fork_of a ino f).mappings
fork_good a good ino f = (elim (a.fork ino f) as (λ r. a.fork ino f ≡ r → Good a.geometry (read_fork r).mappings) [
  | Ok list ↦ λ e. good_from a.geometry f list.mappings (good ino f list e)
  | Err fault ↦ λ e. tt
]) refl

-- ---- an offset is mapped once

abbrev pub Among : Mapping → List Mapping → Type 0
Among m [] = ⊥
Among m (n ∷ ns) = (n ≡ m) ⊎ Among m ns

fit_of : (at : Layout) (ms : List Mapping) (m : Mapping) → Good at ms → Among m ms → IsFit at m
fit_of at [] m good i = absurd i
fit_of at (n ∷ ns) m good (inl e) = subst (IsFit at) e good.1
fit_of at (n ∷ ns) m good (inr i) = fit_of at ns m good.2 i

behind : (at : Layout) (m : Mapping) (ms : List Mapping) (n : Mapping) → Good at (m ∷ ms) → Among n ms → m.offset + m.count ≤ n.offset
unfolding clears
behind at m [] n good i = absurd i
behind at m (x ∷ xs) n good (inl e) = subst (λ (y : Mapping). m.offset + m.count ≤ y.offset) e (leb-true (m.offset + m.count) x.offset good.0)
behind at m (x ∷ xs) n good (inr i) =
    let first = leb-true (m.offset + m.count) x.offset good.0 in
    let more = behind at x xs n good.2 i in
    omega (arith, first, more)

one_mapping : (at : Layout) (ms : List Mapping) (m n : Mapping) (i j : ℕ) → Good at ms → Among m ms → Among n ms → i < m.count → j < n.count → m.offset + i ≡ n.offset + j → m ≡ n
one_mapping at [] m n i j good im jn li lj e = absurd im
one_mapping at (x ∷ xs) m n i j good (inl p) (inl q) li lj e = sym p ∙ q
one_mapping at (x ∷ xs) m n i j good (inl p) (inr q) li lj e =
    let far = subst (λ (y : Mapping). y.offset + y.count ≤ n.offset) p (behind at x xs n good q) in
    absurd (omega (arith, far, li, e))
one_mapping at (x ∷ xs) m n i j good (inr p) (inl q) li lj e =
    let far = subst (λ (y : Mapping). y.offset + y.count ≤ m.offset) q (behind at x xs m good p) in
    absurd (omega (arith, far, lj, e))
one_mapping at (x ∷ xs) m n i j good (inr p) (inr q) li lj e = one_mapping at xs m n i j good.2 p q li lj e

-- ---- words without the unwritten flag

key_block : (k x : ℕ) → x < 2 ^ 54 → key_word (k * 2 ^ 54 + x) ≡ bit_and k 895 * 2 ^ 54 + x
unfolding key_word
key_block k x lt =
    let small : x % 2 ^ 54 ≡ x = omega (arith, lt) in
    and_block 54 k 895 x (2 ^ 54 - 1) lt (lit< tt) ∙ ap (λ (n : ℕ). bit_and k 895 * 2 ^ 54 + n) (and_mask x 54 ∙ small)

-- of a fork's two flags
abbrev pub flag_of : Fork → ℕ
flag_of Data = 0
flag_of Attr = attribute

mapped_key : (f : Fork) (o : ℕ) (b : Bool) (i : ℕ) → o + i < 2 ^ 54 → key_word (o + flag_of f + (if b then unwritten else 0) + i) ≡ flag_of f + (o + i)
mapped_key Data o true i lt = let w : o + 0 + 2 ^ 61 + i ≡ 128 * 2 ^ 54 + (o + i) = omega arith in ap key_word w ∙ key_block 128 (o + i) lt ∙ omega arith
mapped_key Data o false i lt = let w : o + 0 + 0 + i ≡ 0 * 2 ^ 54 + (o + i) = omega arith in ap key_word w ∙ key_block 0 (o + i) lt ∙ omega arith
mapped_key Attr o true i lt = let w : o + 2 ^ 63 + 2 ^ 61 + i ≡ 640 * 2 ^ 54 + (o + i) = omega arith in ap key_word w ∙ key_block 640 (o + i) lt ∙ omega arith
mapped_key Attr o false i lt = let w : o + 2 ^ 63 + 0 + i ≡ 512 * 2 ^ 54 + (o + i) = omega arith in ap key_word w ∙ key_block 512 (o + i) lt ∙ omega arith

tree_key : (f : Fork) → key_word (fork_tree + flag_of f) ≡ fork_tree + flag_of f
unfolding key_word
tree_key Data = refl
tree_key Attr = refl

-- flags and offset are told from their sum
flags_differ : (f h : Fork) (x y : ℕ) → x < 2 ^ 54 → y < 2 ^ 54 → flag_of f + x ≡ flag_of h + y → (f ≡ h) × (x ≡ y)
flags_differ Data Data x y p q e = (refl, omega (arith, e))
flags_differ Attr Attr x y p q e = (refl, omega (arith, e))
flags_differ Data Attr x y p q e = absurd (omega (arith, p, e))
flags_differ Attr Data x y p q e = absurd (omega (arith, q, e))

never_tree : (f h : Fork) (x : ℕ) → x < 2 ^ 54 → flag_of f + x ≡ fork_tree + flag_of h → ⊥
never_tree Data Data x lt e = omega (arith, lt, e)
never_tree Data Attr x lt e = omega (arith, lt, e)
never_tree Attr Data x lt e = omega (arith, lt, e)
never_tree Attr Attr x lt e = omega (arith, lt, e)

-- ---- whose a word is

-- nothing stands in the word of an owner that is no inode
abbrev pub IsPlain : ℕ → ℕ → Type 0
IsPlain owner word = (is_inode owner ≡ false) × (word ≡ 0)

-- a block that one of the inode's forks maps
pub record IsMapped (a : State) (owner word : ℕ) : Type 0 where
  pub file : is_inode owner ≡ true
  pub fork : Fork
  pub mapping : Mapping
  pub there : Among mapping (fork_of a owner fork).mappings
  pub nth : ℕ
  pub one_of : nth < mapping.count
  pub word_is : word ≡ word_of (flag_of fork) mapping + nth

-- a block of such a fork's btree
pub record IsOfTree (owner word : ℕ) : Type 0 where
  pub file : is_inode owner ≡ true
  pub fork : Fork
  pub word_is : word ≡ fork_tree + flag_of fork

abbrev pub IsTold : State → ℕ → ℕ → Type 0
IsTold a owner word = IsPlain owner word ⊎ (IsMapped a owner word ⊎ IsOfTree owner word)

module _ (a : State) (good : AreGoodForks a) where
  short : (o w : ℕ) (m : IsMapped a o w) → m.mapping.offset + m.nth < 2 ^ 54
  short o w m =
      let fit = fit_of a.geometry (fork_of a o m.fork).mappings m.mapping (fork_good a good o m.fork) m.there in
      let room = fit.offsets in
      let lt = m.one_of in
      omega (arith, room, lt)

  key_of_mapped : (o w : ℕ) (m : IsMapped a o w) → key_word w ≡ flag_of m.fork + (m.mapping.offset + m.nth)
  key_of_mapped o w m = ap key_word m.word_is ∙ mapped_key m.fork m.mapping.offset m.mapping.unwritten m.nth (short o w m)

  key_of_tree : (o w : ℕ) (t : IsOfTree o w) → key_word w ≡ w
  key_of_tree o w t = ap key_word t.word_is ∙ (tree_key t.fork ∙ sym t.word_is)

  both_mapped : (o w p x : ℕ) → IsMapped a o w → IsMapped a p x → o ≡ p → key_word w ≡ key_word x → w ≡ x
  both_mapped o w p x m n same keys =
      let parts = flags_differ m.fork n.fork (m.mapping.offset + m.nth) (n.mapping.offset + n.nth) (short o w m) (short p x n) (sym (key_of_mapped o w m) ∙ (keys ∙ key_of_mapped p x n)) in
      let there : Among n.mapping (fork_of a o m.fork).mappings = subst (λ (f : Fork). Among n.mapping (fork_of a o f).mappings) (sym parts.0) (subst (λ (q : ℕ). Among n.mapping (fork_of a q n.fork).mappings) (sym same) n.there) in
      let one = one_mapping a.geometry (fork_of a o m.fork).mappings m.mapping n.mapping m.nth n.nth (fork_good a good o m.fork) m.there there m.one_of n.one_of parts.1 in
      let offsets : m.mapping.offset ≡ n.mapping.offset = ap (λ (y : Mapping). y.offset) one in
      let sums = parts.1 in
      let places : m.nth ≡ n.nth = omega (arith, offsets, sums) in
      m.word_is ∙ ((λ i. word_of (flag_of (parts.0 i)) (one i) + places i) ∙ sym n.word_is)

  pub told_apart : (o w p x : ℕ) → IsTold a o w → IsTold a p x → o ≡ p → key_word w ≡ key_word x → w ≡ x
  told_apart o w p x (inl h) (inl k) same keys = h.1 ∙ sym k.1
  told_apart o w p x (inl h) (inr (inl n)) same keys = absurd (false≢true (sym h.0 ∙ (ap is_inode same ∙ n.file)))
  told_apart o w p x (inl h) (inr (inr t)) same keys = absurd (false≢true (sym h.0 ∙ (ap is_inode same ∙ t.file)))
  told_apart o w p x (inr (inl m)) (inl k) same keys = absurd (false≢true (sym k.0 ∙ (ap is_inode (sym same) ∙ m.file)))
  told_apart o w p x (inr (inr t)) (inl k) same keys = absurd (false≢true (sym k.0 ∙ (ap is_inode (sym same) ∙ t.file)))
  told_apart o w p x (inr (inl m)) (inr (inl n)) same keys = both_mapped o w p x m n same keys
  told_apart o w p x (inr (inl m)) (inr (inr t)) same keys = absurd (never_tree m.fork t.fork (m.mapping.offset + m.nth) (short o w m) (sym (key_of_mapped o w m) ∙ (keys ∙ (key_of_tree p x t ∙ t.word_is))))
  told_apart o w p x (inr (inr t)) (inr (inl n)) same keys = absurd (never_tree n.fork t.fork (n.mapping.offset + n.nth) (short p x n) (sym (key_of_mapped p x n) ∙ (sym keys ∙ (key_of_tree o w t ∙ t.word_is))))
  told_apart o w p x (inr (inr t)) (inr (inr u)) same keys = sym (key_of_tree o w t) ∙ (keys ∙ key_of_tree p x u)
