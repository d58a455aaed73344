-- The reverse mapping of what a fork maps, and what a shadow gains by it.
use Rattle.std.proofs.Common.{◌≡◌, ◌⊎◌, inl, inr, ℕ, zero, suc, ◌+◌, ◌^◌, ◌<◌, ◌≤◌, ◌==◌, ◌&&◌, ◌||◌, nat_le, Bool, true, false, not, cond, List, [], ◌∷◌, map, Contains, Option, Some, refl, sym, ap, ap₂, subst, ◌∙◌, arith, add-zero, eqb-true, eq-eqb}
use Rattle.std.specs.Prelude.{if◌then◌else◌}
use Rattle.std.proofs.lemmas.Bool.{false≢true, true≢false, and_parts, cases_Bool, cases_order, leb-true, le-leb}
use Rattle.core_scan.proofs.Words.{IsFlag, fork_data_at, offset_at}
use Rattle.law_writers.proofs.Change.Covers.{has_record, has_run}
use Rattle.dinode_core.specs.Inline.{ends_in_group, in_range, is_attr}
use Rattle.dinode_core.specs.declared.mapping.Fork.{Fork}
use Rattle.dinode_core.specs.declared.mapping.Fork.TheVariants as forks
use Rattle.dinode_core.specs.declared.mapping.Mapping.{Mapping}
use Rattle.fs_model.specs.declared.claim.Claim.TheVariants.{ForkTree}
use Rattle.geom.specs.Layout.{Layout, group_len_of, split_of}
use Rattle.rmap_recs.specs.Owners.{is_inode}
use Rattle.rmap_recs.specs.Rmap.{has_end}
use Rattle.rmap_recs.specs.Runs.{has, is_same, tuple_at}
use Rattle.rmap_recs.specs.Words.{is_fork_data, offset_of}
use Rattle.rmap_recs.specs.declared.records.RmapRec.{RmapRec}
use Rattle.rmap_recs.specs.declared.tuples.Tuple.{Tuple}
use Rattle.run_edits.specs.EditLaws.{AreUntied, IsOf}
use Rattle.run_edits.specs.Edits.{HasRoom}
use Rattle.shadow_rmap.specs.Kept.{KeepsTuples, ShadowState}
use Rattle.shadow_rmap.specs.Union.{AreLeft, AreUnion}
use Rattle.fs_state.specs.Claims.{blocks_at, fork_tree, mapped_blocks, tree_block_at, word_of}
use Rattle.fs_state.specs.Lists.{numbers, only_if}
use Rattle.law_writers.proofs.Change.Members.{hasc}
use Rattle.fs_change.proofs.Sets.{has_of, of_has, same_is, same_self}
use Rattle.core_scan.specs.Gains.{Gains, claim_of, flag_of}

-- ---- the tuples of a record, by tests

abbrev pub tuples : RmapRec → List Tuple
tuples r = map (tuple_at r) (numbers 0 r.count)

in_numbers : (r : RmapRec) (from n : ℕ) (t : Tuple) → has (map (tuple_at r) (numbers from n)) t ≡ true → (i : ℕ) × (from ≤ i) × (i < from + n) × (tuple_at r i ≡ t)
in_numbers r from zero t h = absurd (true≢false (sym h))
in_numbers r from (suc n) t h = (elim (is_same t (tuple_at r from)) as (λ b. is_same t (tuple_at r from) ≡ b → (b || has (map (tuple_at r) (numbers (from + 1) n)) t) ≡ true → (i : ℕ) × (from ≤ i) × (i < from + suc n) × (tuple_at r i ≡ t)) [
  | true ↦ λ e i. (from, omega arith, omega arith, sym (same_is t (tuple_at r from) e))
  | false ↦ λ e i. let on = in_numbers r (from + 1) n t i in let low = on.1 in let high = on.2 in (on.0, omega (arith, low), omega (arith, high), on.3)
]) refl h

numbers_have : (r : RmapRec) (from n i : ℕ) → from ≤ i → i < from + n → has (map (tuple_at r) (numbers from n)) (tuple_at r i) ≡ true
numbers_have r from zero i low high = absurd (omega (arith, low, high))
numbers_have r from (suc n) i low high = by (cases_order i from) (λ behind. numbers_have r (from + 1) n i behind (omega (arith, high)))
  where
    or_true : (x y : Bool) → y ≡ true → (x || y) ≡ true
    or_true true y e = refl
    or_true false y e = e

    by : (i ≡ from) ⊎ ((i < from) ⊎ (from < i)) → (from + 1 ≤ i → has (map (tuple_at r) (numbers (from + 1) n)) (tuple_at r i) ≡ true) → has (map (tuple_at r) (numbers from (suc n))) (tuple_at r i) ≡ true
    by (inl same) again = ap (λ (b : Bool). b || has (map (tuple_at r) (numbers (from + 1) n)) (tuple_at r i)) (ap (λ (j : ℕ). is_same (tuple_at r i) (tuple_at r j)) (sym same) ∙ same_self (tuple_at r i))
    by (inr (inl less)) again = absurd (omega (arith, less, low))
    by (inr (inr more)) again = or_true (is_same (tuple_at r i) (tuple_at r from)) (has (map (tuple_at r) (numbers (from + 1) n)) (tuple_at r i)) (again (omega (arith, more)))

pub run_of_has : (r : RmapRec) (t : Tuple) → has (tuples r) t ≡ true → IsOf r t
run_of_has r t h = let on = in_numbers r 0 r.count t h in let high = on.2 in (on.0, omega (arith, high), on.3)

pub run_has : (r : RmapRec) (t : Tuple) → IsOf r t → has (tuples r) t ≡ true
run_has r t of = let low = of.1 in subst (λ (u : Tuple). has (tuples r) u ≡ true) of.2 (numbers_have r 0 r.count of.0 (omega arith) (omega (arith, low)))

pub union_by : (ts us : List Tuple) (r : RmapRec) → ((t : Tuple) → has us t ≡ (has ts t || has (tuples r) t)) → AreUnion ts us r
union_by ts us r each = record {
  kept = λ t c. of_has us t (each t ∙ ap (λ (b : Bool). b || has (tuples r) t) (has_of ts t c));
  given = λ t of. of_has us t (each t ∙ or_true (has ts t) (has (tuples r) t) (run_has r t of));
  only = λ t c. either t (sym (each t) ∙ has_of us t c);
}
  where
    or_true : (x y : Bool) → y ≡ true → (x || y) ≡ true
    or_true true y e = refl
    or_true false y e = e

    either : (t : Tuple) → (has ts t || has (tuples r) t) ≡ true → Contains ts t ⊎ IsOf r t
    either t h = elim (cases_Bool (has ts t)) [
      | inl old ↦ inl (of_has ts t old)
      | inr no_old ↦ inr (run_of_has r t (sym (ap (λ (b : Bool). b || has (tuples r) t) no_old) ∙ h))
    ]

pub left_by : (ts us : List Tuple) (r : RmapRec) → ((t : Tuple) → has us t ≡ (has ts t && not (has (tuples r) t))) → AreLeft ts us r
left_by ts us r each = record {
  kept = λ t c out. of_has us t (each t ∙ both (has ts t) (has (tuples r) t) (has_of ts t c) (λ h. out (run_of_has r t h)));
  only = λ t c.
      let p = parts (has ts t) (has (tuples r) t) (sym (each t) ∙ has_of us t c) in
      (of_has ts t p.0, λ of. true≢false (sym (run_has r t of) ∙ p.1));
}
  where
    both : (x y : Bool) → x ≡ true → (y ≡ true → ⊥) → (x && not y) ≡ true
    both true true e f = absurd (f refl)
    both true false e f = refl
    both false y e f = absurd (false≢true e)

    parts : (x y : Bool) → (x && not y) ≡ true → (x ≡ true) × (y ≡ false)
    parts true true h = absurd (false≢true h)
    parts true false h = (refl, refl)
    parts false y h = absurd (false≢true h)

-- ---- records of forks

flag_right : (f : Fork) → IsFlag (flag_of f)
flag_right forks.Data = inl refl
flag_right forks.Attr = inr refl

pub record IsFit (at : Layout) (f : Fork) (m : Mapping) : Type 0 where
  pub some : 1 ≤ m.count
  pub inside : ends_in_group at (split_of at m.block) m.count ≡ true
  pub offsets : m.offset + m.count ≤ 2 ^ 54

pub fit_from : (at : Layout) (f : Fork) (m : Mapping) → in_range at f m ≡ true → IsFit at f m
unfolding in_range
fit_from at f m h =
    let three = and_parts (nat_le 1 m.count && ends_in_group at (split_of at m.block) m.count && nat_le (m.offset + m.count) (2 ^ 54)) (not (m.unwritten && is_attr f)) h in
    let two = and_parts (nat_le 1 m.count && ends_in_group at (split_of at m.block) m.count) (nat_le (m.offset + m.count) (2 ^ 54)) three.0 in
    let one = and_parts (nat_le 1 m.count) (ends_in_group at (split_of at m.block) m.count) two.0 in
    record { some = leb-true 1 m.count one.0; inside = one.1; offsets = leb-true (m.offset + m.count) (2 ^ 54) two.1 }

pub offset_low : (at : Layout) (f : Fork) (m : Mapping) → in_range at f m ≡ true → m.offset ≤ 2 ^ 54
offset_low at f m h = let end = (fit_from at f m h).offsets in omega (arith, end)

and_all : (a b c : Bool) → a ≡ true → b ≡ true → c ≡ true → (a && b && c) ≡ true
and_all true true c h i j = j
and_all true false c h i j = i
and_all false b c h i j = h

or_last : (a b : Bool) → b ≡ true → (a || b) ≡ true
or_last true b h = refl
or_last false b h = h

pub record_at : Fork → ℕ → Mapping → ℕ → RmapRec
record_at f ino m b = record { start = b; count = m.count; owner = ino; word = word_of (flag_of f) m }

mapping_offset : (f : Fork) (m : Mapping) → m.offset < 2 ^ 54 → offset_of (word_of (flag_of f) m) ≡ m.offset
mapping_offset f m low = ap offset_of (sym (add-zero (word_of (flag_of f) m))) ∙ (offset_at m.offset (flag_of f) m.unwritten 0 (flag_right f) (omega (arith, low)) ∙ add-zero m.offset)

ends_at : (at : Layout) (m : Mapping) (p : ℕ × ℕ) (len : ℕ) → ends_in_group at (split_of at m.block) m.count ≡ true → split_of at m.block ≡ Some p → len ≡ group_len_of at p.0 → p.1 + m.count ≤ len
ends_at at m p len h e l =
    let test : nat_le (p.1 + m.count) (group_len_of at p.0) ≡ true = subst (λ (o : Option (ℕ × ℕ)). ends_in_group at o m.count ≡ true) e h in
    let low = leb-true (p.1 + m.count) (group_len_of at p.0) test in
    omega (arith, low, l)

pub mapping_room : (at : Layout) (f : Fork) (ino : ℕ) (m : Mapping) (p : ℕ × ℕ) (len : ℕ) (r : RmapRec) → in_range at f m ≡ true → split_of at m.block ≡ Some p → len ≡ group_len_of at p.0 → len < 2 ^ 32 → r ≡ record { start = p.1; count = m.count; owner = ino; word = word_of (flag_of f) m } → HasRoom r
unfolding has_end
mapping_room at f ino m p len r h e l short same =
    let fit = fit_from at f m h in
    let some = fit.some in
    let end = fit.offsets in
    let low = ends_at at m p len fit.inside e l in
    let word = mapping_offset f m (omega (arith, some, end)) in
    let last : nat_le (offset_of (word_of (flag_of f) m) + m.count) (2 ^ 54) ≡ true = ap (λ (o : ℕ). nat_le (o + m.count) (2 ^ 54)) word ∙ le-leb (m.offset + m.count) (2 ^ 54) end in
    let own : HasRoom (record { start = p.1; count = m.count; owner = ino; word = word_of (flag_of f) m }) = (
      and_all (nat_le 1 m.count) (nat_le (p.1 + m.count) (2 ^ 32)) (not (is_fork_data ino (word_of (flag_of f) m)) || nat_le (offset_of (word_of (flag_of f) m) + m.count) (2 ^ 54))
          (le-leb 1 m.count some) (le-leb (p.1 + m.count) (2 ^ 32) (omega (arith, low, short)))
          (or_last (not (is_fork_data ino (word_of (flag_of f) m))) (nat_le (offset_of (word_of (flag_of f) m) + m.count) (2 ^ 54)) last),
      omega (arith, low, short),
    ) in
    subst HasRoom (sym same) own

no_offset : (f : Fork) → offset_of (fork_tree + flag_of f) ≡ 0
no_offset forks.Data = refl
no_offset forks.Attr = refl

pub block_room : (f : Fork) (ino b len : ℕ) → b < len → len < 2 ^ 32 → HasRoom (record { start = b; count = 1; owner = ino; word = fork_tree + flag_of f })
unfolding has_end
block_room f ino b len low short =
    let last : nat_le (offset_of (fork_tree + flag_of f) + 1) (2 ^ 54) ≡ true = ap (λ (o : ℕ). nat_le (o + 1) (2 ^ 54)) (no_offset f) in (
      and_all (nat_le 1 1) (nat_le (b + 1) (2 ^ 32)) (not (is_fork_data ino (fork_tree + flag_of f)) || nat_le (offset_of (fork_tree + flag_of f) + 1) (2 ^ 54))
          refl (le-leb (b + 1) (2 ^ 32) (omega (arith, low, short)))
          (or_last (not (is_fork_data ino (fork_tree + flag_of f))) (nat_le (offset_of (fork_tree + flag_of f) + 1) (2 ^ 54)) last),
      omega (arith, low, short),
    )

-- ---- their tuples are the claims

mapping_tuples : (g : ℕ) (f : Fork) (ino : ℕ) (m : Mapping) (p : ℕ × ℕ) (t : Tuple) → is_inode ino ≡ true → m.offset < 2 ^ 54 → p.0 ≡ g → hasc (blocks_at g (claim_of f ino) ino (flag_of f) m (Some p)) t ≡ has (tuples (record { start = p.1; count = m.count; owner = ino; word = word_of (flag_of f) m })) t
mapping_tuples g f ino m p t inode low own =
    ap (λ b. hasc (cond b (mapped_blocks (claim_of f ino) ino p.1 (word_of (flag_of f) m) m.count) []) t) (eq-eqb p.0 g own)
    ∙ has_run (claim_of f ino) ino p.1 (word_of (flag_of f) m) m.count t
    ∙ sym (has_record (record { start = p.1; count = m.count; owner = ino; word = word_of (flag_of f) m }) t (fork_data_at ino m.offset (flag_of f) m.unwritten inode (flag_right f) low))

pub mapping_gains : (at : Layout) (f : Fork) (ino : ℕ) (m : Mapping) (p : ℕ × ℕ) (s s' : ShadowState) (r : RmapRec) → is_inode ino ≡ true → in_range at f m ≡ true → split_of at m.block ≡ Some p → p.0 ≡ s.group → r ≡ record { start = p.1; count = m.count; owner = ino; word = word_of (flag_of f) m } → s'.group ≡ s.group
    → ((ts us : List Tuple) → AreUntied us → AreUnion ts us r → KeepsTuples ts s → KeepsTuples us s') → Gains s s' (λ g. blocks_at g (claim_of f ino) ino (flag_of f) m (split_of at m.block))
mapping_gains at f ino m p s s' r inode h e own same group kept =
    let fit = fit_from at f m h in
    let some = fit.some in
    let end = fit.offsets in
    let low : m.offset < 2 ^ 54 = omega (arith, some, end) in
    record {
      own = group;
      kept = λ ts us untied each k. kept ts us untied (union_by ts us r (λ t.
          each t ∙ ap (λ (o : Option (ℕ × ℕ)). has ts t || hasc (blocks_at s.group (claim_of f ino) ino (flag_of f) m o) t) e
          ∙ ap (λ b. has ts t || b) (mapping_tuples s.group f ino m p t inode low own ∙ ap (λ (x : RmapRec). has (tuples x) t) (sym same)))) k;
    }

-- what lies in another group, or nowhere, isn't gained
pub mapping_elsewhere : (f : Fork) (ino : ℕ) (m : Mapping) (g : ℕ) (o : Option (ℕ × ℕ)) (p : ℕ × ℕ) → o ≡ Some p → (p.0 ≡ g → ⊥) → blocks_at g (claim_of f ino) ino (flag_of f) m o ≡ []
mapping_elsewhere f ino m g o p e out = ap (blocks_at g (claim_of f ino) ino (flag_of f) m) e ∙ ap (λ b. cond b (mapped_blocks (claim_of f ino) ino p.1 (word_of (flag_of f) m) m.count) []) (other p.0 g out)
  where
    other : (x y : ℕ) → (x ≡ y → ⊥) → (x == y) ≡ false
    other x y out = elim (cases_Bool (x == y)) [ inl e ↦ absurd (out (eqb-true x y e)) | inr e ↦ e ]

pub block_elsewhere : (f : Fork) (ino g : ℕ) (o : Option (ℕ × ℕ)) (p : ℕ × ℕ) → o ≡ Some p → (p.0 ≡ g → ⊥) → tree_block_at g ino (flag_of f) o ≡ []
block_elsewhere f ino g o p e out = ap (tree_block_at g ino (flag_of f)) e ∙ ap (λ b. only_if b (record { block = p.1; claim = ForkTree ino; owner = ino; word = fork_tree + flag_of f })) (other p.0 g out)
  where
    other : (x y : ℕ) → (x ≡ y → ⊥) → (x == y) ≡ false
    other x y out = elim (cases_Bool (x == y)) [ inl e ↦ absurd (out (eqb-true x y e)) | inr e ↦ e ]

one_tuple : (f : Fork) (ino b : ℕ) (t : Tuple) → hasc (record { block = b; claim = ForkTree ino; owner = ino; word = fork_tree + flag_of f } ∷ []) t ≡ has (tuples (record { start = b; count = 1; owner = ino; word = fork_tree + flag_of f })) t
one_tuple f ino b t = ap₂ (λ x y. (((t.block == x) && (t.owner == ino)) && (t.word == y)) || false) (sym (add-zero b)) (sym (word (is_fork_data ino (fork_tree + flag_of f))))
  where
    word : (z : Bool) → (if z then fork_tree + flag_of f + 0 else fork_tree + flag_of f) ≡ fork_tree + flag_of f
    word true = add-zero (fork_tree + flag_of f)
    word false = refl

pub block_gains : (at : Layout) (f : Fork) (ino b : ℕ) (p : ℕ × ℕ) (s s' : ShadowState) (r : RmapRec) → split_of at b ≡ Some p → p.0 ≡ s.group → r ≡ record { start = p.1; count = 1; owner = ino; word = fork_tree + flag_of f } → s'.group ≡ s.group
    → ((ts us : List Tuple) → AreUntied us → AreUnion ts us r → KeepsTuples ts s → KeepsTuples us s') → Gains s s' (λ g. tree_block_at g ino (flag_of f) (split_of at b))
block_gains at f ino b p s s' r e own same group kept = record {
  own = group;
  kept = λ ts us untied each k. kept ts us untied (union_by ts us r (λ t.
      each t ∙ ap (λ (o : Option (ℕ × ℕ)). has ts t || hasc (tree_block_at s.group ino (flag_of f) o) t) e
      ∙ ap (λ x. has ts t || hasc (only_if x (record { block = p.1; claim = ForkTree ino; owner = ino; word = fork_tree + flag_of f })) t) (eq-eqb p.0 s.group own)
      ∙ ap (λ x. has ts t || x) (one_tuple f ino p.1 t ∙ ap (λ (x : RmapRec). has (tuples x) t) (sym same)))) k;
}

-- a block that is there has one behind it with a number
pub block_room_of : (at : Layout) (f : Fork) (ino b : ℕ) (p : ℕ × ℕ) (len word : ℕ) → split_of at b ≡ Some p → len ≡ group_len_of at p.0 → len < 2 ^ 32 → p.1 < group_len_of at p.0 → word ≡ fork_tree + flag_of f → HasRoom (record { start = p.1; count = 1; owner = ino; word = word })
block_room_of at f ino b p len word e l short low same = subst (λ w. HasRoom (record { start = p.1; count = 1; owner = ino; word = w })) (sym same) (block_room f ino p.1 len (omega (arith, low, l)) short)
