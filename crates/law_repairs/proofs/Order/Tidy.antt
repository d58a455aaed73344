-- The blocks of a group's list, trees, limbo and reserve are each there once, and so they are where they move among these.
use Rattle.std.proofs.Common.{◌≡◌, ℕ, ◌+◌, ◌≤◌, ◌==◌, Bool, true, false, List, [], ◌∷◌, ◌++◌, flat_map, refl, ap, sym, subst, ◌∙◌, inl, inr, arith}
use Rattle.law_writers.proofs.Change.Members.{any_both}
use Rattle.std.specs.Prelude.{◌||◌, if◌then◌else◌}
use Rattle.std.specs.List.{list_all}
use Rattle.std.proofs.lemmas.Bool.{true≢false}
use Rattle.fs_change.specs.Loose.{Inside, MovesBlocks, owners_in, pool_of, tree_blocks}
use Rattle.fs_change.specs.Choice.{has_claim}
use Rattle.fs_change.specs.Parts.{is_sick, sick_in}
use Rattle.fs_state.specs.Claims.{claims, fork_claims, metadata_claims}
use Rattle.fs_state.specs.Records.{all_kinds, tree_owner}
use Rattle.fs_state.specs.State.{Group, Owned, State, blocks_in, comes_first, is_readable, pairs_of, put_pair}
use Rattle.law_repairs.proofs.Move.Claiming.{metadata_is, owned_plain, owned_times}
use Rattle.law_repairs.proofs.Move.Moving.{Moved, blocks_moved}
use Rattle.law_repairs.proofs.Move.Pairs.{Among, among_by, blocks_are, lies_of}
use Rattle.law_repairs.specs.Move.Moving.{is_own}
use Rattle.law_repairs.proofs.Repair.Owners.{claimed_none}
use Rattle.law_repairs.proofs.Repair.Totals.{owned_by, weigh}
use Rattle.rmap_recs.specs.Owners.{is_inode}
use Rattle.sblock.specs.declared.kind.Kind.{Kind}
use Rattle.sblock.specs.declared.kind.Kind.TheVariants.{Bno, Cnt, Rmap, Refc, Ino, Fino}
use Rattle.tree_defs.proofs.Counts.{times_append}
use Rattle.tree_defs.specs.Lists.{AllDiffer, times}
use Rattle.law_repairs.specs.Order.Kept.{LieBelow}
use Rattle.law_repairs.proofs.Order.Claims.{tree_is_plain}
use Rattle.law_repairs.proofs.Order.Lists.{Every, times_in, times_of}
use Rattle.law_repairs.proofs.Order.Switching.{not_chunks, tree_is_other}

-- ---- how often a block is there

abbrev pub held_of : Group → List ℕ
held_of p = pool_of p ++ blocks_in p.reserve

abbrev pub tree_times : ℕ → (Kind → List ℕ) → ℕ
tree_times b f = times b (f Bno) + (times b (f Cnt) + (times b (f Rmap) + (times b (f Refc) + (times b (f Ino) + times b (f Fino)))))

trees_times : (b : ℕ) (f : Kind → List ℕ) → times b (flat_map f all_kinds) ≡ tree_times b f
trees_times b f =
    let one = times_append b (f Bno) (f Cnt ++ (f Rmap ++ (f Refc ++ (f Ino ++ (f Fino ++ []))))) in
    let two = times_append b (f Cnt) (f Rmap ++ (f Refc ++ (f Ino ++ (f Fino ++ [])))) in
    let three = times_append b (f Rmap) (f Refc ++ (f Ino ++ (f Fino ++ []))) in
    let four = times_append b (f Refc) (f Ino ++ (f Fino ++ [])) in
    let five = times_append b (f Ino) (f Fino ++ []) in
    let six = times_append b (f Fino) [] in
    omega (arith, one, two, three, four, five, six)

pub held_times : (b : ℕ) (p : Group) → times b (held_of p) ≡ ((times b p.free_list + tree_times b (tree_blocks p)) + times b (blocks_in p.limbo)) + times b (blocks_in p.reserve)
held_times b p =
    let all = times_append b (pool_of p) (blocks_in p.reserve) in
    let pool = times_append b (p.free_list ++ flat_map (tree_blocks p) all_kinds) (blocks_in p.limbo) in
    let front = times_append b p.free_list (flat_map (tree_blocks p) all_kinds) in
    let trees = trees_times b (tree_blocks p) in
    omega (arith, all, pool, front, trees)

pub tree_less : (b : ℕ) (k : Kind) (f : Kind → List ℕ) → times b (f k) ≤ tree_times b f
tree_less b Bno f = omega arith
tree_less b Cnt f = omega arith
tree_less b Rmap f = omega arith
tree_less b Refc f = omega arith
tree_less b Ino f = omega arith
tree_less b Fino f = omega arith

-- what claims have that have no claim on a block
unclaimed_by : (b : ℕ) (s : State) (g m : ℕ) → m ≡ 0 → (f o r c : ℕ) → m ≡ f + o + r + c → o ≡ times b (pool_of (s.group g)) → r ≡ times b (blocks_in (s.group g).reserve) → times b (held_of (s.group g)) ≡ 0
unclaimed_by b s g m none f o r c sum pool reserve = let all = times_append b (pool_of (s.group g)) (blocks_in (s.group g).reserve) in omega (arith, none, sum, pool, reserve, all)

pub none_held : (s : State) (g b : ℕ) → has_claim (metadata_claims s g) b ≡ false → times b (held_of (s.group g)) ≡ 0
none_held s g b h =
    unclaimed_by b s g (weigh (owned_by b) (metadata_claims s g)) (claimed_none b (metadata_claims s g) h) _ _ _ _ (metadata_is (owned_by b) (owned_plain b) s g)
    (owned_times b (owners_in (s.group g)) ∙ ap (times b) (blocks_are (s.group g))) (owned_times b (s.group g).reserve)

pub none_claimed : (s : State) (g b : ℕ) → has_claim (claims s g) b ≡ false → times b (held_of (s.group g)) ≡ 0
unfolding claims
none_claimed s g b h = none_held s g b (first_false (has_claim (metadata_claims s g) b) (has_claim (fork_claims s g) b) (sym (any_both (λ c. c.block == b) (metadata_claims s g) (fork_claims s g)) ∙ h))
  where
    first_false : (x y : Bool) → (x || y) ≡ false → x ≡ false
    first_false true y e = absurd (true≢false e)
    first_false false y e = refl

-- ---- pairs

pub blocks_times : (b : ℕ) (xs ys : List Owned) → times b (blocks_in (xs ++ ys)) ≡ times b (blocks_in xs) + times b (blocks_in ys)
blocks_times b [] ys = omega arith
blocks_times b (x ∷ xs) ys = let more = blocks_times b xs ys in omega (arith, more)

put_less : (b : ℕ) (o : Owned) (ps : List Owned) → times b (blocks_in (put_pair o ps)) ≤ times b (blocks_in (o ∷ ps))
put_less b o [] = omega arith
put_less b o (p ∷ ps) = elim (comes_first o p) as (λ t. times b (blocks_in (if t then o ∷ p ∷ ps else (if comes_first p o then p ∷ put_pair o ps else p ∷ ps))) ≤ times b (blocks_in (o ∷ p ∷ ps))) [
  | true ↦ omega arith
  | false ↦ elim (comes_first p o) as (λ t. times b (blocks_in (if t then p ∷ put_pair o ps else p ∷ ps)) ≤ times b (blocks_in (o ∷ p ∷ ps))) [
    | true ↦ (let more = put_less b o ps in omega (arith, more))
    | false ↦ omega arith
  ]
]

pub pairs_less : (b : ℕ) (os : List Owned) → times b (blocks_in (pairs_of os)) ≤ times b (blocks_in os)
pairs_less b [] = omega arith
pairs_less b (o ∷ os) = let one = put_less b o (pairs_of os) in let more = pairs_less b os in omega (arith, one, more)

pub every_among : (P : Owned → Type 0) (os : List Owned) → ((o : Owned) → Among o os → P o) → Every P os
every_among P [] h = tt
every_among P (o ∷ os) h = (h o (inl refl), every_among P os (λ p i. h p (inr i)))

pub among_every : (P : Owned → Type 0) (os : List Owned) → Every P os → (o : Owned) → Among o os → P o
among_every P [] h o i = absurd i
among_every P (p ∷ ps) h o (inl e) = subst P e h.0
among_every P (p ∷ ps) h o (inr i) = among_every P ps h.1 o i

-- ---- a group

abbrev pub IsTreeOwner : Owned → Type 0
IsTreeOwner o = (is_inode o.owner ≡ false) × not_chunks o.owner

-- Is a group tidy? No block is there twice, and all lie in the group; a tree that can't be read is sick; and owners in limbo
-- and reserve are no inodes.
pub record IsTidy (len : ℕ) (p : Group) : Type 0 where
  pub once : AllDiffer (held_of p)
  pub inside : LieBelow len (held_of p)
  pub bad : (k : Kind) → is_readable (p.tree k).reading ≡ false → sick_in p k ≡ true
  pub reserve : Every (λ (o : Owned). is_inode o.owner ≡ false) p.reserve
  pub limbo : Every IsTreeOwner p.limbo

-- where no block is there more often
pub fewer_inside : (len : ℕ) (ps qs : List ℕ) → ((b : ℕ) → times b qs ≤ times b ps) → LieBelow len ps → LieBelow len qs
fewer_inside len ps qs less inside b i = inside b (times_in b ps (let one = times_of b qs i in let le = less b in omega (arith, one, le)))

pub fewer_once : (ps qs : List ℕ) → ((b : ℕ) → times b qs ≤ times b ps) → AllDiffer ps → AllDiffer qs
fewer_once ps qs less once b = let le = less b in let one = once b in omega (arith, le, one)

-- ---- blocks that edits move

tree_owned : (k : Kind) (o : Owned) → o.owner ≡ tree_owner k → IsTreeOwner o
tree_owned k o e = (ap is_inode e ∙ tree_is_plain k, λ is. tree_is_other k (sym e ∙ is))

came_owned : (p : Group) → Every IsTreeOwner p.limbo → (o : Owned) → Among o (owners_in p) → IsTreeOwner o
came_owned p limbo o i = elim (lies_of p o i) [
  | inl list ↦ tree_owned Bno o list.0
  | inr rest ↦ elim rest [ inl tree ↦ tree_owned tree.0 o tree.1 | inr there ↦ among_every IsTreeOwner p.limbo limbo o there ]
]

tidy_moved : (len : ℕ) (kept : Bool) (left ks : List Kind) (p q : Group) → MovesBlocks kept left ks p q → list_all is_own ks ≡ true → IsTidy len p → IsTidy len q
tidy_moved len kept left ks p q moves own tidy =
    let pool : AllDiffer (pool_of p) = λ b. let all = times_append b (pool_of p) (blocks_in p.reserve) in let one = tidy.once b in omega (arith, all, one) in
    let m : Moved kept p q = blocks_moved kept left ks p q moves own pool in
    let same : (b : ℕ) → times b (held_of q) ≤ times b (held_of p) = λ b.
    let now = times_append b (pool_of q) (blocks_in q.reserve) in
    let was = times_append b (pool_of p) (blocks_in p.reserve) in
    let moved = m.times_same b in
    let stays : times b (blocks_in q.reserve) ≡ times b (blocks_in p.reserve) = ap (λ (os : List Owned). times b (blocks_in os)) m.reserve in
    omega (arith, now, was, moved, stays) in
    record {
      once = fewer_once (held_of p) (held_of q) same tidy.once;
      inside = fewer_inside len (held_of p) (held_of q) same tidy.inside;
      bad = λ k h. ap is_sick (m.trees k).trust ∙ tidy.bad k (sym (m.trees k).readable ∙ h);
      reserve = subst (Every (λ (o : Owned). is_inode o.owner ≡ false)) (sym m.reserve) tidy.reserve;
      limbo = every_among IsTreeOwner q.limbo (λ o i. came_owned p tidy.limbo o (m.came o (among_by q o (inr (inr i)))));
    }

pub inside_tidy : (len : ℕ) (kept : Bool) (left ks : List Kind) (p q : Group) → list_all is_own ks ≡ true → Inside kept left ks p q → IsTidy len p → IsTidy len q
inside_tidy len kept left [] p q own inside tidy = subst (IsTidy len) (sym inside) tidy
inside_tidy len kept left (k ∷ ks) p q own inside tidy = tidy_moved len kept left (k ∷ ks) p q inside own tidy
