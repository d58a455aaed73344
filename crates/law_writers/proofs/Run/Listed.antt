-- How many claims on a block there are once a run filled the free list, or left it.
use Rattle.std.proofs.Common.{◌≡◌, ℕ, zero, suc, ◌+◌, ◌*◌, ◌==◌, ◌&&◌, Bool, true, false, not, nat_le, nat_lt, List, [], ◌∷◌, ◌++◌, map, filter, flat_map, refl, sym, ap, ap₂, subst, ◌∙◌, arith, eqb-true, eq-eqb}
use Rattle.std.specs.Prelude.{sum_by, if◌then◌else◌}
use Rattle.std.proofs.lemmas.Bool.{true≢false}
use Rattle.std.proofs.lemmas.Bool.Decides.{nat_tests}
use Rattle.std.proofs.lemmas.List.Sums.{sum_by-append, sum_by-cons}
use Rattle.law_accounts.specs.Account.Accounts.{alone_at, at_span, hits, owned_at}
use Rattle.law_accounts.specs.Account.Stated.{ChunksStay}
use Rattle.law_accounts.proofs.Account.Framed.{SameParts, claims_same, edit_parts, given_parts, same_parts}
use Rattle.law_writers.proofs.Change.Rows as chunk_rows
use Rattle.dinode_core.specs.declared.mapping.Fork.TheVariants as forks
use Rattle.fs_change.proofs.Beside.{in_other}
use Rattle.fs_change.proofs.Trees.{in_itself}
use Rattle.fs_change.specs.Changes.{give_free, give_owner, is_in_extent, plain_run, refilled, take_free, take_owner, trimmed}
use Rattle.fs_change.specs.Records.{give_mapping, take_mapping}
use Rattle.fs_state.specs.Chunks.{chunks, inodes}
use Rattle.fs_state.specs.Claims.{Claimed, attribute, claimed_by, claims, fork_claims, fork_tree_claims, log_claims, mapping_claims, metadata_claims, read_fork}
use Rattle.fs_state.specs.Contradiction.{is_written_data}
use Rattle.fs_state.specs.Records.{all_kinds, tree_owner}
use Rattle.fs_state.specs.Lists.{numbers}
use Rattle.fs_model.specs.declared.claim.Claim.TheVariants.{Attr, Chunk, Data, Heads, Limbo, List as FreeList, Reserve, Tree}
use Rattle.fs_model.specs.declared.entry.Entry.TheVariants as entries
use Rattle.fs_model.specs.declared.entry.Extent.{Extent}
use Rattle.fs_state.specs.State.{Group, Owned, State, blocks_of}
use Rattle.law_accounts.proofs.Owner.Members.{same_chunks}
use Rattle.rmap_recs.specs.Owners.{number_of}
use Rattle.rmap_recs.specs.declared.owner.Owner.TheVariants.{Ag, Fs, Inodes}
use Rattle.sblock.specs.declared.kind.Kind.TheVariants.{Rmap}
use Rattle.tree_defs.specs.Lists.{times}
use Rattle.law_writers.proofs.Fork.Rows.{inodes_same, taken_parts}
use Rattle.law_writers.specs.Fork.Counted.{Gains}
use Rattle.law_writers.specs.Run.Runs.{RefilledClaims, TrimmedClaims}

-- ---- metadata, part by part

abbrev pub head_part : State → ℕ → List Claimed
head_part a g = claimed_by Heads (number_of Fs) 0 ∷ log_claims a.geometry.log g

abbrev pub list_part : List ℕ → List Claimed
list_part bs = map (claimed_by FreeList (number_of Ag)) bs

abbrev pub tree_part : Group → List Claimed
tree_part p = flat_map (λ k. map (claimed_by (Tree k) (tree_owner k)) (blocks_of (p.tree k).reading)) all_kinds

abbrev pub reserve_part : Group → List Claimed
reserve_part p = map (λ (o : Owned). claimed_by Reserve o.owner o.block) p.reserve

abbrev pub limbo_part : Group → List Claimed
limbo_part p = map (λ (o : Owned). claimed_by Limbo o.owner o.block) p.limbo

abbrev pub chunk_part : List ℕ → List Claimed
chunk_part us = flat_map (λ u. map (claimed_by Chunk (number_of Inodes)) (numbers (8 * u) 8)) us

pub metadata_sum : (F : Claimed → ℕ) (a : State) (g : ℕ) → sum_by F (metadata_claims a g)
    ≡ ((((sum_by F (head_part a g) + sum_by F (list_part (a.group g).free_list)) + sum_by F (tree_part (a.group g))) + sum_by F (reserve_part (a.group g))) + sum_by F (limbo_part (a.group g))) + sum_by F (chunk_part (chunks a g))
unfolding metadata_claims
metadata_sum F a g =
    sum_by-append F ((((head_part a g ++ list_part (a.group g).free_list) ++ tree_part (a.group g)) ++ reserve_part (a.group g)) ++ limbo_part (a.group g)) (chunk_part (chunks a g))
    ∙ ap (λ z. z + sum_by F (chunk_part (chunks a g)))
    (sum_by-append F (((head_part a g ++ list_part (a.group g).free_list) ++ tree_part (a.group g)) ++ reserve_part (a.group g)) (limbo_part (a.group g))
    ∙ ap (λ z. z + sum_by F (limbo_part (a.group g)))
    (sum_by-append F ((head_part a g ++ list_part (a.group g).free_list) ++ tree_part (a.group g)) (reserve_part (a.group g))
    ∙ ap (λ z. z + sum_by F (reserve_part (a.group g)))
    (sum_by-append F (head_part a g ++ list_part (a.group g).free_list) (tree_part (a.group g))
    ∙ ap (λ z. z + sum_by F (tree_part (a.group g))) (sum_by-append F (head_part a g) (list_part (a.group g).free_list)))))

pub all_sum : (F : Claimed → ℕ) (a : State) (g : ℕ) → sum_by F (claims a g) ≡ sum_by F (metadata_claims a g) + sum_by F (fork_claims a g)
unfolding claims
all_sum F a g = sum_by-append F (metadata_claims a g) (fork_claims a g)

-- ---- blocks of the list

abbrev pub lone : ℕ → Claimed → ℕ
lone b c = if (c.block == b) && (if is_written_data c then false else true) then 1 else 0

pub owned_list : (b : ℕ) (bs : List ℕ) → owned_at b (list_part bs) ≡ times b bs
owned_list b [] = refl
owned_list b (c ∷ bs) = sum_by-cons (λ (x : Claimed). if x.block == b then 1 else 0) (claimed_by FreeList (number_of Ag) c) (list_part bs) ∙ ap (λ z. (if c == b then 1 else 0) + z) (owned_list b bs)

lone_one : (b c : ℕ) → lone b (claimed_by FreeList (number_of Ag) c) ≡ (if c == b then 1 else 0)
unfolding is_written_data
lone_one b c = by (c == b)
  where
    by : (x : Bool) → ◌≡◌ {A = ℕ} (if x && true then 1 else 0) (if x then 1 else 0)
    by true = refl
    by false = refl

pub lone_list : (b : ℕ) (bs : List ℕ) → alone_at b (list_part bs) ≡ times b bs
lone_list b [] = refl
lone_list b (c ∷ bs) = sum_by-cons (lone b) (claimed_by FreeList (number_of Ag) c) (list_part bs) ∙ ap₂ (λ x y. x + y) (lone_one b c) (lone_list b bs)

pub times_both : (b : ℕ) (xs ys : List ℕ) → times b (xs ++ ys) ≡ times b xs + times b ys
times_both b [] ys = none (times b ys)
  where
    none : (n : ℕ) → n ≡ 0 + n
    none n = omega arith
times_both b (x ∷ xs) ys = further (if x == b then 1 else 0) (times b xs) (times b ys) (times b (xs ++ ys)) (times_both b xs ys)
  where
    further : (k m n s : ℕ) → s ≡ m + n → k + s ≡ k + m + n
    further k m n s e = omega (arith, e)

abbrev bit : Bool → ℕ
bit k = if k then 1 else 0

pub times_numbers : (b s n : ℕ) → times b (numbers s n) ≡ at_span s n b
times_numbers b s zero = ap (λ t. if t then 1 else 0) (none s b)
  where
    none : (s b : ℕ) → false ≡ (nat_le s b && nat_lt b (s + 0))
    none s b = grind (arith, nat_tests)
times_numbers b s (suc n) = ap (λ z. (if s == b then 1 else 0) + z) (times_numbers b (s + 1) n) ∙ by (s == b) refl (nat_le (s + 1) b && nat_lt b (s + 1 + n)) refl (nat_le s b && nat_lt b (s + suc n)) refl
  where
    none : (n : ℕ) → 0 + n ≡ n
    none n = omega arith

    apart : (s b n : ℕ) → (s == b) ≡ true → (nat_le (s + 1) b && nat_lt b (s + 1 + n)) ≡ true → ⊥
    apart s b n e f = grind (arith, nat_tests)

    first : (s b n : ℕ) → (s == b) ≡ true → (nat_le s b && nat_lt b (s + suc n)) ≡ true
    first s b n e = grind (arith, nat_tests)

    next : (s b n : ℕ) → (s == b) ≡ false → (nat_le s b && nat_lt b (s + suc n)) ≡ (nat_le (s + 1) b && nat_lt b (s + 1 + n))
    next s b n e = grind (arith, nat_tests)

    by : (x : Bool) → (s == b) ≡ x → (y : Bool) → (nat_le (s + 1) b && nat_lt b (s + 1 + n)) ≡ y → (z : Bool) → (nat_le s b && nat_lt b (s + suc n)) ≡ z → bit x + bit y ≡ bit z
    by true p true q z r = absurd (apart s b n p q)
    by true p false q z r = ap bit (sym (first s b n p) ∙ r)
    by false p y q z r = none (bit y) ∙ ap bit (sym q ∙ sym (next s b n p) ∙ r)

times_left : (e : Extent) (b : ℕ) (bs : List ℕ) → times b (filter (λ c. not (is_in_extent e c)) bs) + (if is_in_extent e b then times b bs else 0) ≡ times b bs
times_left e b [] = by (is_in_extent e b)
  where
    by : (t : Bool) → 0 + (if t then 0 else 0) ≡ 0
    by true = refl
    by false = refl
times_left e b (c ∷ bs) = by (c == b) refl (is_in_extent e c) refl (is_in_extent e b) refl (times_left e b bs)
  where
    gone : (r n k : ℕ) → r + n ≡ n → r + (k + n) ≡ k + n
    gone r n k h = omega (arith, h)

    by : (x : Bool) → (c == b) ≡ x → (y : Bool) → is_in_extent e c ≡ y → (z : Bool) → is_in_extent e b ≡ z → times b (filter (λ d. not (is_in_extent e d)) bs) + (if z then times b bs else 0) ≡ times b bs
        → times b (if not y then c ∷ filter (λ d. not (is_in_extent e d)) bs else filter (λ d. not (is_in_extent e d)) bs) + (if z then (if x then 1 else 0) + times b bs else 0) ≡ (if x then 1 else 0) + times b bs
    by true p true q true r rest = gone (times b (filter (λ d. not (is_in_extent e d)) bs)) (times b bs) 1 rest
    by true p true q false r rest = absurd (true≢false (sym q ∙ ap (is_in_extent e) (eqb-true c b p) ∙ r))
    by true p false q true r rest = absurd (true≢false (sym r ∙ ap (is_in_extent e) (sym (eqb-true c b p)) ∙ q))
    by true p false q false r rest = ap (λ t. (if t then 1 else 0) + times b (filter (λ d. not (is_in_extent e d)) bs) + 0) p ∙ kept _ _ rest
      where
        kept : (r n : ℕ) → r + 0 ≡ n → 1 + r + 0 ≡ 1 + n
        kept r n h = omega (arith, h)
    by false p true q true r rest = gone (times b (filter (λ d. not (is_in_extent e d)) bs)) (times b bs) 0 rest
    by false p true q false r rest = plain _ _ rest
      where
        plain : (r n : ℕ) → r + 0 ≡ n → r + 0 ≡ 0 + n
        plain r n h = omega (arith, h)
    by false p false q true r rest = ap (λ t. (if t then 1 else 0) + times b (filter (λ d. not (is_in_extent e d)) bs) + (0 + times b bs)) p ∙ plain _ _ rest
      where
        plain : (r n : ℕ) → r + n ≡ n → 0 + r + (0 + n) ≡ 0 + n
        plain r n h = omega (arith, h)
    by false p false q false r rest = ap (λ t. (if t then 1 else 0) + times b (filter (λ d. not (is_in_extent e d)) bs) + 0) p ∙ plain _ _ rest
      where
        plain : (r n : ℕ) → r + 0 ≡ n → 0 + r + 0 ≡ 0 + n
        plain r n h = omega (arith, h)

-- ---- a group whose list alone changes

-- all but the list is as it was
pub record OneList (a x : State) (g : ℕ) : Type 0 where
  pub heads : head_part x g ≡ head_part a g
  pub trees : tree_part (x.group g) ≡ tree_part (a.group g)
  pub reserve : (x.group g).reserve ≡ (a.group g).reserve
  pub limbo : (x.group g).limbo ≡ (a.group g).limbo
  pub chunks : chunks x g ≡ chunks a g
  pub forks : fork_claims x g ≡ fork_claims a g

module _ (F : Claimed → ℕ) (a x : State) (g : ℕ) (k : OneList a x g) where
  behind : sum_by F (claims x g) ≡ (((((sum_by F (head_part a g) + sum_by F (list_part (x.group g).free_list)) + sum_by F (tree_part (a.group g))) + sum_by F (reserve_part (a.group g))) + sum_by F (limbo_part (a.group g))) + sum_by F (chunk_part (chunks a g))) + sum_by F (fork_claims a g)
  behind =
      all_sum F x g ∙ ap (λ z. z + sum_by F (fork_claims x g)) (metadata_sum F x g)
      ∙ (λ i. (((((sum_by F (k.heads i) + sum_by F (list_part (x.group g).free_list)) + sum_by F (k.trees i)) + sum_by F (map (λ (o : Owned). claimed_by Reserve o.owner o.block) (k.reserve i))) + sum_by F (map (λ (o : Owned). claimed_by Limbo o.owner o.block) (k.limbo i))) + sum_by F (chunk_part (k.chunks i))) + sum_by F (k.forks i))

  was : sum_by F (claims a g) ≡ (((((sum_by F (head_part a g) + sum_by F (list_part (a.group g).free_list)) + sum_by F (tree_part (a.group g))) + sum_by F (reserve_part (a.group g))) + sum_by F (limbo_part (a.group g))) + sum_by F (chunk_part (chunks a g))) + sum_by F (fork_claims a g)
  was = all_sum F a g ∙ ap (λ z. z + sum_by F (fork_claims a g)) (metadata_sum F a g)

  pub list_more : (d : ℕ) → sum_by F (list_part (x.group g).free_list) ≡ sum_by F (list_part (a.group g).free_list) + d → sum_by F (claims x g) ≡ sum_by F (claims a g) + d
  list_more d e = sums _ _ _ _ _ _ _ _ _ _ d behind was e
    where
      sums : (x a h m n t r l c f d : ℕ) → x ≡ (((((h + n) + t) + r) + l) + c) + f → a ≡ (((((h + m) + t) + r) + l) + c) + f → n ≡ m + d → x ≡ a + d
      sums x a h m n t r l c f d p q s = omega (arith, p, q, s)

  pub list_less : (d : ℕ) → sum_by F (list_part (x.group g).free_list) + d ≡ sum_by F (list_part (a.group g).free_list) → sum_by F (claims x g) + d ≡ sum_by F (claims a g)
  list_less d e = sums _ _ _ _ _ _ _ _ _ _ d behind was e
    where
      sums : (x a h m n t r l c f d : ℕ) → x ≡ (((((h + n) + t) + r) + l) + c) + f → a ≡ (((((h + m) + t) + r) + l) + c) + f → n + d ≡ m → x + d ≡ a
      sums x a h m n t r l c f d p q s = omega (arith, p, q, s)

pub forks_same : (a x : State) (g : ℕ) → x.geometry ≡ a.geometry → x.fork ≡ a.fork → inodes x ≡ inodes a → fork_claims x g ≡ fork_claims a g
unfolding fork_claims
forks_same a x g at fork same =
    λ i. flat_map (λ ino. mapping_claims (at i) g (Data ino) ino 0 (read_fork (fork i ino forks.Data)).mappings) (same i)
    ++ flat_map (λ ino. mapping_claims (at i) g (Attr ino) ino attribute (read_fork (fork i ino forks.Attr)).mappings) (same i)
    ++ flat_map (λ ino. fork_tree_claims (at i) g ino 0 (read_fork (fork i ino forks.Data)).blocks ++ fork_tree_claims (at i) g ino attribute (read_fork (fork i ino forks.Attr)).blocks) (same i)

one_list : (a x : State) (g : ℕ) (list : List ℕ) → x.geometry ≡ a.geometry → x.fork ≡ a.fork → ChunksStay a x → SameParts (record (a.group g) { free_list = list }) (x.group g) → OneList a x g
one_list a x g list at fork stay s = record {
  heads = λ i. claimed_by Heads (number_of Fs) 0 ∷ log_claims (at i).log g;
  trees = λ i. flat_map (λ k. map (claimed_by (Tree k) (tree_owner k)) (s.blocks k i)) all_kinds;
  reserve = s.reserve;
  limbo = s.limbo;
  chunks = same_chunks a x at stay g;
  forks = forks_same a x g at fork (inodes_same a x at stay);
}

-- what an entry makes of the list and of nothing else that claims
pub record NewList (a x : State) (g : ℕ) (list : List ℕ) : Type 0 where
  pub geometry : x.geometry ≡ a.geometry
  pub forks : x.fork ≡ a.fork
  pub parts : SameParts (record (a.group g) { free_list = list }) (x.group g)

follow_parts : (p q r : Group) → SameParts p q → SameParts q r → SameParts p r
follow_parts p q r s t = record { list = t.list ∙ s.list; blocks = λ k. t.blocks k ∙ s.blocks k; reserve = t.reserve ∙ s.reserve; limbo = t.limbo ∙ s.limbo }

pub refilled_list : (e : Extent) (a : State) → NewList a (refilled e a) e.group ((a.group e.group).free_list ++ numbers e.block e.count)
unfolding refilled
refilled_list e a =
    let p : Group = record (a.group e.group) { free_list = (a.group e.group).free_list ++ numbers e.block e.count } in
    record {
      geometry = refl;
      forks = refl;
      parts = subst (SameParts p) (sym (in_itself e.group (λ q. give_owner [] (number_of Ag) e (take_free [] e (record q { free_list = q.free_list ++ numbers e.block e.count }))) a))
          (follow_parts p (take_free [] e p) (give_owner [] (number_of Ag) e (take_free [] e p)) (taken_parts [] e p) (edit_parts [] Rmap (give_mapping (plain_run (number_of Ag) e)) (take_free [] e p)));
    }

refilled_beside : (e : Extent) (a : State) (h : ℕ) → (h == e.group) ≡ false → (refilled e a).group h ≡ a.group h
unfolding refilled
refilled_beside e a h out = in_other e.group (λ q. give_owner [] (number_of Ag) e (take_free [] e (record q { free_list = q.free_list ++ numbers e.block e.count }))) a h out

pub refilled_claims : RefilledClaims
refilled_claims a x left e h b fit row = by (h == e.group) refl
  where
    new : NewList a x e.group ((a.group e.group).free_list ++ numbers e.block e.count)
    new = subst (λ (s : State). NewList a s e.group ((a.group e.group).free_list ++ numbers e.block e.count)) (sym row.1) (refilled_list e a)

    stay : ChunksStay a x
    stay = chunk_rows.decided a x left (entries.Refilled e) fit row tt

    counted : times b ((x.group e.group).free_list) ≡ times b (a.group e.group).free_list + hits e.group b e
    counted =
        ap (times b) new.parts.list ∙ times_both b (a.group e.group).free_list (numbers e.block e.count)
        ∙ ap (λ z. times b (a.group e.group).free_list + z) (times_numbers b e.block e.count ∙ ap (λ t. if t then at_span e.block e.count b else 0) (sym (eq-eqb e.group e.group refl)))

    own : Gains a x e.group b (hits e.group b e) (hits e.group b e)
    own =
        let k : OneList a x e.group = one_list a x e.group ((a.group e.group).free_list ++ numbers e.block e.count) new.geometry new.forks stay new.parts in
        record {
          owned_then = list_more (λ (c : Claimed). if c.block == b then 1 else 0) a x e.group k (hits e.group b e) (owned_list b (x.group e.group).free_list ∙ counted ∙ ap (λ z. z + hits e.group b e) (sym (owned_list b (a.group e.group).free_list)));
          alone_then = list_more (lone b) a x e.group k (hits e.group b e) (lone_list b (x.group e.group).free_list ∙ counted ∙ ap (λ z. z + hits e.group b e) (sym (lone_list b (a.group e.group).free_list)));
        }

    turned : (m n : ℕ) → (m == n) ≡ false → (n == m) ≡ false
    turned m n o = grind (arith, nat_tests)

    none : (n : ℕ) → n ≡ n + 0
    none n = omega arith

    by : (t : Bool) → (h == e.group) ≡ t → Gains a x h b (hits h b e) (hits h b e)
    by true q = subst (λ n. Gains a x n b (hits n b e) (hits n b e)) (sym (eqb-true h e.group q)) own
    by false q =
        let same : claims x h ≡ claims a h = claims_same a x h new.geometry new.forks stay (subst (SameParts (a.group h)) (sym (ap (λ (s : State). s.group h) row.1 ∙ refilled_beside e a h q)) (same_parts (a.group h))) in
        let zero_hits : hits h b e ≡ 0 = ap (λ t. if t then at_span e.block e.count b else 0) (turned h e.group q) in
        record {
          owned_then = ap (owned_at b) same ∙ none (owned_at b (claims a h)) ∙ ap (λ z. owned_at b (claims a h) + z) (sym zero_hits);
          alone_then = ap (alone_at b) same ∙ none (alone_at b (claims a h)) ∙ ap (λ z. alone_at b (claims a h) + z) (sym zero_hits);
        }

pub trimmed_list : (e : Extent) (a : State) → NewList a (trimmed e a) e.group (filter (λ c. not (is_in_extent e c)) (a.group e.group).free_list)
unfolding trimmed
trimmed_list e a =
    let p : Group = record (a.group e.group) { free_list = filter (λ c. not (is_in_extent e c)) (a.group e.group).free_list } in
    record {
      geometry = refl;
      forks = refl;
      parts = subst (SameParts p) (sym (in_itself e.group (λ q. give_free [] e (take_owner [] (number_of Ag) e (record q { free_list = filter (λ c. not (is_in_extent e c)) q.free_list }))) a))
          (follow_parts p (take_owner [] (number_of Ag) e p) (give_free [] e (take_owner [] (number_of Ag) e p)) (edit_parts [] Rmap (take_mapping (plain_run (number_of Ag) e)) p) (given_parts [] e (take_owner [] (number_of Ag) e p)));
    }

pub trimmed_claims : TrimmedClaims
trimmed_claims a x left e b n fit row is =
    record {
      owned_then = list_less (λ (c : Claimed). if c.block == b then 1 else 0) a x e.group k n (ap (λ z. z + n) (owned_list b (x.group e.group).free_list) ∙ counted ∙ sym (owned_list b (a.group e.group).free_list));
      alone_then = list_less (lone b) a x e.group k n (ap (λ z. z + n) (lone_list b (x.group e.group).free_list) ∙ counted ∙ sym (lone_list b (a.group e.group).free_list));
    }
  where
    new : NewList a x e.group (filter (λ c. not (is_in_extent e c)) (a.group e.group).free_list)
    new = subst (λ (s : State). NewList a s e.group (filter (λ c. not (is_in_extent e c)) (a.group e.group).free_list)) (sym row.1) (trimmed_list e a)

    k : OneList a x e.group
    k = one_list a x e.group (filter (λ c. not (is_in_extent e c)) (a.group e.group).free_list) new.geometry new.forks (chunk_rows.decided a x left (entries.Trimmed e) fit row tt) new.parts

    as_hit : (t : Bool) (m : ℕ) → (if t then m else 0) ≡ (if (if t then 1 else 0) == 1 then m else 0)
    as_hit true m = refl
    as_hit false m = refl

    in_it : (if is_in_extent e b then times b (a.group e.group).free_list else 0) ≡ n
    in_it =
        as_hit (is_in_extent e b) (times b (a.group e.group).free_list)
        ∙ ap (λ t. if (if t then at_span e.block e.count b else 0) == 1 then times b (a.group e.group).free_list else 0) (sym (eq-eqb e.group e.group refl))
        ∙ sym is

    counted : times b ((x.group e.group).free_list) + n ≡ times b (a.group e.group).free_list
    counted = ap (λ z. z + n) (ap (times b) new.parts.list) ∙ ap (λ z. times b (filter (λ c. not (is_in_extent e c)) (a.group e.group).free_list) + z) (sym in_it) ∙ times_left e b (a.group e.group).free_list
