-- Which owners a mapping has: of one, of two that are joined, and of one that is cut.
use Rattle.std.proofs.Common.{◌≡◌, ℕ, ◌+◌, ◌-◌, ◌*◌, ◌^◌, ◌<◌, ◌≤◌, ◌==◌, ◌&&◌, ◌||◌, zero, suc, Bool, true, false, cond, nat_le, nat_lt, [], map, Option, Some, None, refl, sym, ap, ap₂, subst, ◌∙◌, arith, eqb-true}
use Rattle.std.specs.Prelude.{◌/◌, if◌then◌else◌}
use Rattle.std.proofs.lemmas.Bool.{false≢true, and_parts, lt-ltb}
use Rattle.std.proofs.lemmas.Bool.Decides.{nat_tests}
use Rattle.dinode_core.specs.declared.mapping.Mapping.{Mapping}
use Rattle.fs_model.specs.declared.claim.Claim.{Claim}
use Rattle.geom.specs.Layout.{Layout, group_len_of, split_of}
use Rattle.rmap_recs.proofs.WordLemmas.{same_sort}
use Rattle.rmap_recs.specs.Runs.{has, tuple_at}
use Rattle.rmap_recs.specs.Words.{is_fork_data, flags_of}
use Rattle.rmap_recs.specs.declared.records.RmapRec.{RmapRec}
use Rattle.rmap_recs.specs.declared.tuples.Tuple.{Tuple}
use Rattle.fs_state.specs.Claims.{mapped_blocks, blocks_at, word_of, unwritten}
use Rattle.fs_state.specs.Lists.{numbers}
use Rattle.fs_change.specs.Records.{meets, is_same_flag}
use Rattle.law_writers.proofs.Change.Members.{hasc, IsSplit, split_parts}
use Rattle.law_writers.specs.Change.Forks.{LieFrom, IsPlaced}

-- the tuple is one of the n blocks from b on, of this owner, with words from w on
abbrev pub covers : Tuple → ℕ → ℕ → ℕ → ℕ → Bool
covers t ino b w n = (t.owner == ino) && ((nat_le b t.block && nat_lt t.block (b + n)) && (t.word + b == w + t.block))

none_yet : (o : Bool) (tb tw b w : ℕ) → false ≡ (o && ((nat_le b tb && nat_lt tb (b + 0)) && (tw + b == w + tb)))
none_yet true tb tw b w = grind (arith, nat_tests)
none_yet false tb tw b w = refl

one_more : (o : Bool) (tb tw b w n : ℕ) → (((tb == b) && o) && (tw == w) || (o && ((nat_le (b + 1) tb && nat_lt tb (b + 1 + n)) && (tw + (b + 1) == w + 1 + tb)))) ≡ (o && ((nat_le b tb && nat_lt tb (b + suc n)) && (tw + b == w + tb)))
one_more true tb tw b w n = grind (arith, nat_tests)
one_more false tb tw b w n = none (tb == b) (tw == w)
  where
    none : (x y : Bool) → (((x && false) && y) || false) ≡ false
    none true y = refl
    none false y = refl

pub has_run : (c : Claim) (ino b w n : ℕ) (t : Tuple) → hasc (mapped_blocks c ino b w n) t ≡ covers t ino b w n
has_run c ino b w zero t = none_yet (t.owner == ino) t.block t.word b w
has_run c ino b w (suc n) t = ap (λ x. ((t.block == b) && (t.owner == ino)) && (t.word == w) || x) (has_run c ino (b + 1) (w + 1) n t) ∙ one_more (t.owner == ino) t.block t.word b w n

-- the same of a record of reverse mappings whose word counts up
run_from : (r : RmapRec) (k n : ℕ) (t : Tuple) → is_fork_data r.owner r.word ≡ true → has (map (tuple_at r) (numbers k n)) t ≡ covers t r.owner (r.start + k) (r.word + k) n
run_from r k zero t h = none_yet (t.owner == r.owner) t.block t.word (r.start + k) (r.word + k)
run_from r k (suc n) t h =
    ap₂ (λ w x. ((t.block == r.start + k) && (t.owner == r.owner)) && (t.word == (if w then r.word + k else r.word)) || x) h
    (run_from r (k + 1) n t h ∙ ap₂ (λ x y. covers t r.owner x y n) (along r.start k) (along r.word k))
    ∙ one_more (t.owner == r.owner) t.block t.word (r.start + k) (r.word + k) n
  where
    along : (x k : ℕ) → x + (k + 1) ≡ x + k + 1
    along x k = omega arith

pub has_record : (r : RmapRec) (t : Tuple) → is_fork_data r.owner r.word ≡ true → has (map (tuple_at r) (numbers 0 r.count)) t ≡ covers t r.owner r.start r.word r.count
has_record r t h = run_from r 0 r.count t h ∙ ap₂ (λ x y. covers t r.owner x y r.count) (none r.start) (none r.word)
  where
    none : (x : ℕ) → x + 0 ≡ x
    none x = omega arith

abbrev pub flag_word : Bool → ℕ
flag_word flag = if flag then unwritten else 0

-- words of a data fork count up
sort_of : (flag : Bool) (ino : ℕ) → ino < 2 ^ 64 - 9 → is_fork_data ino (flag_word flag) ≡ true
unfolding is_fork_data
sort_of true ino h = ap (λ b. b && true) (lt-ltb ino (2 ^ 64 - 9) h)
sort_of false ino h = ap (λ b. b && true) (lt-ltb ino (2 ^ 64 - 9) h)

same_flags : (flag : Bool) (offset : ℕ) → offset < 2 ^ 54 → flags_of (offset + flag_word flag) ≡ flags_of (flag_word flag)
same_flags true offset h = omega (arith, h)
same_flags false offset h = omega (arith, h)

pub counts_up : (flag : Bool) (ino offset : ℕ) → ino < 2 ^ 64 - 9 → offset < 2 ^ 54 → is_fork_data ino (offset + flag_word flag) ≡ true
counts_up flag ino offset h l = same_sort ino (offset + flag_word flag) (flag_word flag) (same_flags flag offset l) ∙ sort_of flag ino h

-- ---- places

-- a placed mapping has a place, with its blocks behind it in the group
pub record Place (at : Layout) (m : Mapping) : Type 0 where
  pub group : ℕ
  pub block : ℕ
  pub split : split_of at m.block ≡ Some (group, block)
  pub parts : IsSplit at m.block group block
  pub ends : block + m.count ≤ group_len_of at group

place_by : (at : Layout) (m : Mapping) (o : Option (ℕ × ℕ)) → split_of at m.block ≡ o → LieFrom at o m.count → Place at m
place_by at m None e l = absurd l
place_by at m (Some p) e l = record { group = p.0; block = p.1; split = e; parts = split_parts at m.block p.0 p.1 e; ends = l }

pub place_of : (at : Layout) (m : Mapping) → IsPlaced at m → Place at m
place_of at m p = place_by at m (split_of at m.block) refl p.lies

-- the mapping has the tuple
abbrev pub maps_it : Layout → ℕ → Claim → ℕ → ℕ → Tuple → Mapping → Bool
maps_it at h c ino flag t m = hasc (blocks_at h c ino flag m (split_of at m.block)) t

here_or_not : (b : Bool) (c : Claim) (ino p w n : ℕ) (t : Tuple) → hasc (cond b (mapped_blocks c ino p w n) []) t ≡ (b && covers t ino p w n)
here_or_not true c ino p w n t = has_run c ino p w n t
here_or_not false c ino p w n t = refl

pub maps_at : (at : Layout) (h : ℕ) (c : Claim) (ino flag : ℕ) (t : Tuple) (m : Mapping) (g b : ℕ) → split_of at m.block ≡ Some (g, b) → maps_it at h c ino flag t m ≡ ((g == h) && covers t ino b (word_of flag m) m.count)
maps_at at h c ino flag t m g b e = ap (λ o. hasc (blocks_at h c ino flag m o) t) e ∙ here_or_not (g == h) c ino b (word_of flag m) m.count t

pub maps_placed : (at : Layout) (h : ℕ) (c : Claim) (ino flag : ℕ) (t : Tuple) (m : Mapping) (p : Place at m) → maps_it at h c ino flag t m ≡ ((p.group == h) && covers t ino p.block (word_of flag m) m.count)
maps_placed at h c ino flag t m p = maps_at at h c ino flag t m p.group p.block p.split

-- ---- two mappings that meet

pub record Meeting (l : ℕ) (p q : Mapping) : Type 0 where
  pub offsets : p.offset + p.count ≡ q.offset
  pub blocks : p.block + p.count ≡ q.block
  pub groups : p.block / 2 ^ l ≡ q.block / 2 ^ l
  pub flags : p.unwritten ≡ q.unwritten

same_flag : (x y : Bool) → is_same_flag x y ≡ true → x ≡ y
same_flag true true h = refl
same_flag false false h = refl
same_flag true false h = absurd (false≢true h)
same_flag false true h = absurd (false≢true h)

pub meeting : (l : ℕ) (p q : Mapping) → meets l p q ≡ true → Meeting l p q
meeting l p q h =
    let a : Bool = p.offset + p.count == q.offset in
    let b : Bool = p.block + p.count == q.block in
    let c : Bool = p.block / 2 ^ l == q.block / 2 ^ l in
    let d : Bool = is_same_flag p.unwritten q.unwritten in
    let v = and_parts (((a && b) && c) && d) _ h in
    let w = and_parts ((a && b) && c) d v.0 in
    let x = and_parts (a && b) c w.0 in
    let y = and_parts a b x.0 in
    record {
      offsets = eqb-true (p.offset + p.count) q.offset y.0;
      blocks = eqb-true (p.block + p.count) q.block y.1;
      groups = eqb-true (p.block / 2 ^ l) (q.block / 2 ^ l) x.1;
      flags = same_flag p.unwritten q.unwritten w.1;
    }

abbrev pub as_one : Mapping → Mapping → Mapping
as_one p q = record p { count = p.count + q.count }

-- the second's place is that behind the first
pub behind_place : (at : Layout) (p q : Mapping) (P : Place at p) (Q : Place at q) → Meeting at.agblklog p q → (Q.group ≡ P.group) × (Q.block ≡ P.block + p.count)
behind_place at p q P Q m =
    let same : Q.group ≡ P.group = sym Q.parts.high ∙ sym m.groups ∙ P.parts.high in
    (same, behind (P.group * 2 ^ at.agblklog) P.block Q.block p.count (ap (λ n. n * 2 ^ at.agblklog + Q.block) (sym same) ∙ Q.parts.number ∙ sym m.blocks ∙ ap (λ n. n + p.count) (sym P.parts.number)))
  where
    behind : (x b c n : ℕ) → x + c ≡ x + b + n → c ≡ b + n
    behind x b c n h = omega (arith, h)

two_runs : (o : Bool) (tb tw b w m n : ℕ) → (o && ((nat_le b tb && nat_lt tb (b + (m + n))) && (tw + b == w + tb))) ≡ ((o && ((nat_le b tb && nat_lt tb (b + m)) && (tw + b == w + tb))) || (o && ((nat_le (b + m) tb && nat_lt tb (b + m + n)) && (tw + (b + m) == w + m + tb))))
two_runs true tb tw b w m n = grind (arith, nat_tests)
two_runs false tb tw b w m n = refl

in_group : (g x y z : Bool) → x ≡ (y || z) → (g && x) ≡ ((g && y) || (g && z))
in_group true x y z e = e
in_group false x y z e = refl

next_word : (p q : Mapping) (flag : ℕ) → p.offset + p.count ≡ q.offset → p.unwritten ≡ q.unwritten → word_of flag q ≡ word_of flag p + p.count
next_word p q flag h f = ap (λ u. q.offset + flag + (if u then unwritten else 0)) (sym f) ∙ along p.offset p.count q.offset flag (if p.unwritten then unwritten else 0) h
  where
    along : (x n y f u : ℕ) → x + n ≡ y → y + f + u ≡ x + f + u + n
    along x n y f u h = omega (arith, h)

-- joined they have what both have
pub joined_has : (at : Layout) (h : ℕ) (c : Claim) (ino flag : ℕ) (t : Tuple) (p q : Mapping) → IsPlaced at p → IsPlaced at q → Meeting at.agblklog p q
    → maps_it at h c ino flag t (as_one p q) ≡ (maps_it at h c ino flag t p || maps_it at h c ino flag t q)
joined_has at h c ino flag t p q pp qp m =
    let P = place_of at p pp in
    let Q = place_of at q qp in
    let b = behind_place at p q P Q m in
    maps_at at h c ino flag t (as_one p q) P.group P.block P.split
    ∙ in_group (P.group == h) (covers t ino P.block (word_of flag p) (p.count + q.count)) (covers t ino P.block (word_of flag p) p.count) (covers t ino (P.block + p.count) (word_of flag p + p.count) q.count)
    (two_runs (t.owner == ino) t.block t.word P.block (word_of flag p) p.count q.count)
    ∙ ap₂ (λ x y. x || y) (sym (maps_placed at h c ino flag t p P))
    ((λ i. (sym b.0 i == h) && covers t ino (sym b.1 i) (sym (next_word p q flag m.offsets m.flags) i) q.count) ∙ sym (maps_placed at h c ino flag t q Q))

-- and are placed as one
pub joined_placed : (at : Layout) (p q : Mapping) → IsPlaced at p → IsPlaced at q → Meeting at.agblklog p q → IsPlaced at (as_one p q)
joined_placed at p q pp qp m =
    let P = place_of at p pp in
    let Q = place_of at q qp in
    let b = behind_place at p q P Q m in
    let ends : Q.block + q.count ≤ group_len_of at P.group = subst (λ n. Q.block + q.count ≤ group_len_of at n) b.0 Q.ends in
    record {
      some = more p.count q.count pp.some;
      offsets = on p.offset p.count q.offset q.count m.offsets qp.offsets;
      lies = subst (λ o. LieFrom at o (p.count + q.count)) (sym P.split) (behind P.block Q.block p.count q.count (group_len_of at P.group) b.1 ends);
    }
  where
    more : (m n : ℕ) → 0 < m → 0 < m + n
    more m n h = omega (arith, h)

    on : (x m y n : ℕ) → x + m ≡ y → y + n ≤ 2 ^ 54 → x + (m + n) ≤ 2 ^ 54
    on x m y n e h = omega (arith, e, h)

    behind : (b c m n len : ℕ) → c ≡ b + m → c + n ≤ len → b + (m + n) ≤ len
    behind b c m n len e h = omega (arith, e, h)
