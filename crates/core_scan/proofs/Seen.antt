-- Settled owners are allocated inodes, and what a scan was given of an inode is settled.
use Rattle.std.proofs.Common.{◌≡◌, ℕ, zero, suc, ◌+◌, ◌-◌, ◌<◌, ◌==◌, ◌&&◌, ◌||◌, nat_lt, Bool, true, false, not, cond, List, [], ◌∷◌, ◌++◌, length, map, filter, flat_map, take, Some, refl, sym, ap, ap₂, ◌∙◌, inl, inr, arith, eqb-true, eq-eqb}
use Rattle.std.specs.Prelude.{◌⊎◌, if◌then◌else◌}
use Rattle.std.specs.List.{list_any, list_all}
use Rattle.std.proofs.lemmas.Bool.{false≢true, true≢false, and_parts, cases_Bool}
use Rattle.std.proofs.lemmas.Bool.Decides.{nat_tests}
use Rattle.dinode_core.specs.ForkTree.{TreeBlock}
use Rattle.dinode_core.specs.declared.mapping.Fork.{Fork}
use Rattle.dinode_core.specs.declared.mapping.Fork.TheVariants as forks
use Rattle.fork_read.specs.Parts.{Each}
use Rattle.fs_model.specs.declared.claim.Claim.TheVariants.{Data, Attr}
use Rattle.rmap_recs.specs.Runs.{is_same, has, tuple_at}
use Rattle.rmap_recs.specs.declared.records.RmapRec.{RmapRec}
use Rattle.rmap_recs.specs.declared.tuples.Tuple.{Tuple}
use Rattle.fs_state.specs.Apart.{is_inode}
use Rattle.fs_state.specs.State.{State, ForkList}
use Rattle.fs_state.specs.declared.intent.Intent.{Intent}
use Rattle.fs_state.specs.Claims.{Claimed, fork_of, mapping_claims, fork_tree_claims, attribute}
use Rattle.fs_state.specs.Derive.{is_free}
use Rattle.fs_state.specs.Lists.{numbers}
use Rattle.fs_state.specs.Own.{tuple_of}
use Rattle.law_writers.proofs.Change.Members.{hasc, hasc_both}
use Rattle.fs_change.proofs.Sets.{has_set}
use Rattle.fs_change.proofs.Settled.{in_settled}
use Rattle.fs_change.proofs.Shadow.{cursor_passes, hold_ends}
use Rattle.fs_change.specs.Chains.{pending, gives, takes, tuples_of, tuples_in, run_of, word_taken, given_by, taken_by, owed_gifts, owed_takings, settled_forks}
use Rattle.fs_change.specs.Laws.{fork_owners}
use Rattle.fs_change.specs.Scan.{first_mappings, held_tuples}
use Rattle.fs_change.specs.Step.{is_mapping_of}
use Rattle.law_writers.proofs.Change.Members.{any_flat, other_mappings, other_tree, owners_by_inode, parts_of}
use Rattle.law_writers.proofs.Change.Newly.{no_claims}
use Rattle.law_writers.specs.Change.Owners.{has_claim_of}
use Rattle.core_scan.specs.Seen.{IsCalm, IsIdle, OwnersAreAllocated, PassesFree, HeldIsSettled, HasBelow, WholeIsVisited, all_of, is_allocated, is_owed_there}

-- ---- whose a run's tuples are

tuple_owner : (r : RmapRec) (k n : ℕ) (t : Tuple) → has (map (tuple_at r) (numbers k n)) t ≡ true → t.owner ≡ r.owner
tuple_owner r k zero t e = absurd (false≢true e)
tuple_owner r k (suc n) t e = (elim (is_same t (tuple_at r k)) as (λ b. is_same t (tuple_at r k) ≡ b → (b || has (map (tuple_at r) (numbers (k + 1) n)) t) ≡ true → t.owner ≡ r.owner) [
  | true ↦ λ s i. eqb-true t.owner r.owner (and_parts (t.block == r.start + k) (t.owner == r.owner) (and_parts ((t.block == r.start + k) && (t.owner == r.owner)) (t.word == (tuple_at r k).word) s).0).1
  | false ↦ λ s i. tuple_owner r (k + 1) n t i
]) refl e

-- of an intent's, in whatever group
pub run_owner : (g word : ℕ) (i : Intent) (t : Tuple) → has (tuples_in g i word) t ≡ true → t.owner ≡ i.ino
run_owner g word i t h = by (i.group == g) h
  where
    by : (b : Bool) → has (if b then tuples_of (run_of i word) else []) t ≡ true → t.owner ≡ i.ino
    by true e = tuple_owner (run_of i word) 0 i.count t e
    by false e = absurd (false≢true e)

pub taken_owner : (g : ℕ) (i : Intent) (t : Tuple) → has (taken_by g i) t ≡ true → (takes i.kind ≡ true) × (t.owner ≡ i.ino)
taken_owner g i t h = by (takes i.kind) h
  where
    by : (b : Bool) → has (if b then tuples_in g i (word_taken i) else []) t ≡ true → (b ≡ true) × (t.owner ≡ i.ino)
    by true e = (refl, run_owner g (word_taken i) i t e)
    by false e = absurd (false≢true e)

pub given_owner : (g : ℕ) (i : Intent) (t : Tuple) → has (given_by g i) t ≡ true → (gives i.kind ≡ true) × (t.owner ≡ i.ino)
given_owner g i t h = by (gives i.kind) h
  where
    by : (b : Bool) → has (if b then tuples_in g i i.word else []) t ≡ true → (b ≡ true) × (t.owner ≡ i.ino)
    by true e = (refl, run_owner g i.word i t e)
    by false e = absurd (false≢true e)

-- ---- allocated owners

or_cases : (x y : Bool) → (x || y) ≡ true → (x ≡ true) ⊎ (y ≡ true)
or_cases true y h = inl refl
or_cases false y h = inr h

taken_there : (a : State) (g : ℕ) (t : Tuple) (is : List Intent) → list_all (is_owed_there a) is ≡ true → list_any (λ i. has (taken_by g i) t) is ≡ true → is_allocated a t.owner ≡ true
taken_there a g t [] all h = absurd (false≢true h)
taken_there a g t (i ∷ is) all h =
    let both = and_parts (is_owed_there a i) (list_all (is_owed_there a) is) all in
    elim (or_cases (has (taken_by g i) t) (list_any (λ j. has (taken_by g j) t) is) h) [
      | inl here ↦
          let own = taken_owner g i t here in
          ap (is_allocated a) own.1 ∙ known (takes i.kind) (is_allocated a i.ino) own.0 both.0
      | inr later ↦ taken_there a g t is both.1 later
    ]
  where
    known : (x y : Bool) → x ≡ true → (not x || y) ≡ true → y ≡ true
    known true y e k = k
    known false y e k = absurd (false≢true e)

both_true : (x y : Bool) → x ≡ true → y ≡ false → (x && not y) ≡ true
both_true true false h k = refl
both_true true true h k = absurd (true≢false k)
both_true false y h k = absurd (false≢true h)

fork_there : (a : State) (g : ℕ) (t : Tuple) → IsCalm a → has (fork_owners a g) t ≡ true → is_allocated a t.owner ≡ true
fork_there a g t calm h =
    let parts = and_parts (is_inode a t.owner) (has_claim_of a g t.owner t) (sym (owners_by_inode a g t calm.fitting) ∙ h) in
    elim (cases_Bool (is_free (a.core t.owner))) [
      | inl free ↦ absurd (true≢false (sym parts.1 ∙ no_claims a g t.owner t (calm.free t.owner free)))
      | inr used ↦ both_true (is_inode a t.owner) (is_free (a.core t.owner)) parts.0 used
    ]

pub in_settled_forks : (a : State) (g : ℕ) (t : Tuple) → has (settled_forks a g) t ≡ ((has (fork_owners a g) t && not (has (owed_gifts a g) t)) || has (owed_takings a g) t)
unfolding settled_forks
in_settled_forks a g t = has_set (filter (λ u. not (has (owed_gifts a g) u)) (fork_owners a g) ++ owed_takings a g) t ∙ in_settled (owed_gifts a g) (owed_takings a g) (fork_owners a g) t

pub owners_allocated : OwnersAreAllocated
owners_allocated a g t calm h =
    elim (or_cases (has (fork_owners a g) t && not (has (owed_gifts a g) t)) (has (owed_takings a g) t) (sym (in_settled_forks a g t) ∙ h)) [
      | inl fork ↦ fork_there a g t calm (and_parts (has (fork_owners a g) t) (not (has (owed_gifts a g) t)) fork).0
      | inr taken ↦ taken_there a g t (pending a) calm.owed (sym (any_flat (is_same t) (taken_by g) (pending a)) ∙ taken)
    ]

pub passes_free : PassesFree
passes_free a g c d calm same = cursor_passes a g c d (λ t h. same t.owner (owners_allocated a g t calm h))

-- ---- an inode of which nothing is owed

none_of : (F : Intent → List Tuple) (ino : ℕ) (t : Tuple) → ((i : Intent) → has (F i) t ≡ true → ((gives i.kind || takes i.kind) ≡ true) × (t.owner ≡ i.ino)) → t.owner ≡ ino → (is : List Intent) → list_any (is_mapping_of ino) is ≡ false → list_any (λ i. has (F i) t) is ≡ false
none_of F ino t owns own [] none = refl
none_of F ino t owns own (i ∷ is) none =
    let parts = or_false (is_mapping_of ino i) (list_any (is_mapping_of ino) is) none in
    ap₂ (λ x y. x || y) (not_its (has (F i) t) refl parts.0) (none_of F ino t owns own is parts.1)
  where
    or_false : (x y : Bool) → (x || y) ≡ false → (x ≡ false) × (y ≡ false)
    or_false true y h = absurd (true≢false h)
    or_false false y h = (refl, h)

    both : (x y : Bool) → x ≡ true → y ≡ true → (x && y) ≡ true
    both true y e k = k
    both false y e k = absurd (false≢true e)

    not_its : (b : Bool) → has (F i) t ≡ b → is_mapping_of ino i ≡ false → b ≡ false
    not_its false e out = refl
    not_its true e out =
        let is_its = owns i e in
        absurd (true≢false (sym (both (gives i.kind || takes i.kind) (i.ino == ino) is_its.0 (eq-eqb i.ino ino (sym is_its.1 ∙ own))) ∙ out))

gives_or : (i : Intent) → gives i.kind ≡ true → (gives i.kind || takes i.kind) ≡ true
gives_or i h = ap (λ b. b || takes i.kind) h

takes_or : (i : Intent) → takes i.kind ≡ true → (gives i.kind || takes i.kind) ≡ true
takes_or i h = by (gives i.kind) (takes i.kind) h
  where
    by : (x y : Bool) → y ≡ true → (x || y) ≡ true
    by true y e = refl
    by false y e = e

pub no_gift : (a : State) (g ino : ℕ) (t : Tuple) → IsIdle a ino → t.owner ≡ ino → has (owed_gifts a g) t ≡ false
no_gift a g ino t idle own = any_flat (is_same t) (given_by g) (pending a) ∙ none_of (given_by g) ino t (λ i h. let w = given_owner g i t h in (gives_or i w.0, w.1)) own (pending a) idle

pub no_taking : (a : State) (g ino : ℕ) (t : Tuple) → IsIdle a ino → t.owner ≡ ino → has (owed_takings a g) t ≡ false
no_taking a g ino t idle own = any_flat (is_same t) (taken_by g) (pending a) ∙ none_of (taken_by g) ino t (λ i h. let w = taken_owner g i t h in (takes_or i w.0, w.1)) own (pending a) idle

-- it owns what its forks have
pub settled_of : (a : State) (g ino : ℕ) (t : Tuple) → IsCalm a → IsIdle a ino → is_inode a ino ≡ true → t.owner ≡ ino → has (settled_forks a g) t ≡ has_claim_of a g ino t
settled_of a g ino t calm idle is own =
    in_settled_forks a g t
    ∙ ap₂ (λ x y. (has (fork_owners a g) t && not x) || y) (no_gift a g ino t idle own) (no_taking a g ino t idle own)
    ∙ all_in (has (fork_owners a g) t)
    ∙ owners_by_inode a g t calm.fitting
    ∙ ap (λ n. is_inode a n && has_claim_of a g n t) own
    ∙ ap (λ b. b && has_claim_of a g ino t) is
  where
    all_in : (x : Bool) → ((x && true) || false) ≡ x
    all_in true = refl
    all_in false = refl

-- ---- what was given of it

-- a first part of a list has no more than the list
some_of : {X : Type 0} (f : X → List Claimed) (k : ℕ) (xs : List X) (t : Tuple) → hasc (flat_map f (take k xs)) t ≡ true → hasc (flat_map f xs) t ≡ true
some_of f zero xs t h = absurd (false≢true h)
some_of f (suc k) [] t h = absurd (false≢true h)
some_of f (suc k) (x ∷ xs) t h =
    hasc_both (f x) (flat_map f xs) t ∙ by (hasc (f x) t) (hasc (flat_map f (take k xs)) t) (hasc (flat_map f xs) t) (some_of f k xs t) (sym (hasc_both (f x) (flat_map f (take k xs)) t) ∙ h)
  where
    by : (b c d : Bool) → (c ≡ true → d ≡ true) → (b || c) ≡ true → (b || d) ≡ true
    by true c d m e = refl
    by false c d m e = m e

or_right : (b c : Bool) → c ≡ true → (b || c) ≡ true
or_right true c e = refl
or_right false c e = e

or_more : (b c d : Bool) → (c ≡ true → d ≡ true) → (b || c) ≡ true → (b || d) ≡ true
or_more true c d m e = refl
or_more false c d m e = m e

passing_on : {X : Type 0} (f : X → List Claimed) (x : X) (xs ys : List X) (t : Tuple) → (hasc (flat_map f ys) t ≡ true → hasc (flat_map f xs) t ≡ true) → (b : Bool) → hasc (flat_map f (cond b (x ∷ ys) ys)) t ≡ true → (hasc (f x) t || hasc (flat_map f xs) t) ≡ true
passing_on f x xs ys t m true e = or_more (hasc (f x) t) (hasc (flat_map f ys) t) (hasc (flat_map f xs) t) m (sym (hasc_both (f x) (flat_map f ys) t) ∙ e)
passing_on f x xs ys t m false e = or_right (hasc (f x) t) (hasc (flat_map f xs) t) (m e)

some_passing : {X : Type 0} (f : X → List Claimed) (p : X → Bool) (xs : List X) (t : Tuple) → hasc (flat_map f (filter p xs)) t ≡ true → hasc (flat_map f xs) t ≡ true
some_passing f p [] t h = h
some_passing f p (x ∷ xs) t h = hasc_both (f x) (flat_map f xs) t ∙ passing_on f x xs (filter p xs) t (some_passing f p xs t) (p x) h

four : (ds es bs cs : List Claimed) (t : Tuple) → hasc (ds ++ es ++ bs ++ cs) t ≡ (((hasc ds t || hasc es t) || hasc bs t) || hasc cs t)
four ds es bs cs t =
    hasc_both ((ds ++ es) ++ bs) cs t
    ∙ ap (λ x. x || hasc cs t) (hasc_both (ds ++ es) bs t ∙ ap (λ x. x || hasc bs t) (hasc_both ds es t))

each_more : (d e b c d' e' b' c' : Bool) → (d ≡ true → d' ≡ true) → (e ≡ true → e' ≡ true) → (b ≡ true → b' ≡ true) → (c ≡ true → c' ≡ true) → (((d || e) || b) || c) ≡ true → (((d' || e') || b') || c') ≡ true
each_more true e b c d' e' b' c' f g h k x = ap (λ y. ((y || e') || b') || c') (f refl)
each_more false true b c d' e' b' c' f g h k x = ap (λ y. ((d' || y) || b') || c') (g refl) ∙ ap (λ y. (y || b') || c') (or_true d')
  where
    or_true : (y : Bool) → (y || true) ≡ true
    or_true true = refl
    or_true false = refl
each_more false false true c d' e' b' c' f g h k x = ap (λ y. ((d' || e') || y) || c') (h refl) ∙ ap (λ y. y || c') (or_true (d' || e'))
  where
    or_true : (y : Bool) → (y || true) ≡ true
    or_true true = refl
    or_true false = refl
each_more false false false true d' e' b' c' f g h k x = ap (λ y. ((d' || e') || b') || y) (k refl) ∙ or_true ((d' || e') || b')
  where
    or_true : (y : Bool) → (y || true) ≡ true
    or_true true = refl
    or_true false = refl
each_more false false false false d' e' b' c' f g h k x = absurd (false≢true x)

-- all claims of an inode, in the four parts of a piece
claims_four : (a : State) (g ino : ℕ) (t : Tuple) → has_claim_of a g ino t ≡ (((hasc (mapping_claims a.geometry g (Data ino) ino 0 (fork_of a ino forks.Data).mappings) t || hasc (mapping_claims a.geometry g (Attr ino) ino attribute (fork_of a ino forks.Attr).mappings) t)
    || hasc (fork_tree_claims a.geometry g ino 0 (fork_of a ino forks.Data).blocks) t) || hasc (fork_tree_claims a.geometry g ino attribute (fork_of a ino forks.Attr).blocks) t)
claims_four a g ino t =
    let d : Bool = hasc (mapping_claims a.geometry g (Data ino) ino 0 (fork_of a ino forks.Data).mappings) t in
    let e : Bool = hasc (mapping_claims a.geometry g (Attr ino) ino attribute (fork_of a ino forks.Attr).mappings) t in
    let bs : List Claimed = fork_tree_claims a.geometry g ino 0 (fork_of a ino forks.Data).blocks in
    let cs : List Claimed = fork_tree_claims a.geometry g ino attribute (fork_of a ino forks.Attr).blocks in
    parts_of a g ino t ∙ ap (λ y. (d || e) || y) (hasc_both bs cs t) ∙ or_again (d || e) (hasc bs t) (hasc cs t)
  where
    or_again : (x y z : Bool) → (x || (y || z)) ≡ ((x || y) || z)
    or_again true y z = refl
    or_again false y z = refl

given_is_claim : (a : State) (g ino k : ℕ) (t : Tuple) → has (held_tuples a g (Some ino) k) t ≡ true → has_claim_of a g ino t ≡ true
given_is_claim a g ino k t h =
    let dl : ForkList = fork_of a ino forks.Data in
    let al : ForkList = fork_of a ino forks.Attr in
    let j : ℕ = k - length dl.mappings in
    let ds : List Claimed = mapping_claims a.geometry g (Data ino) ino 0 (first_mappings k dl).mappings in
    let es : List Claimed = mapping_claims a.geometry g (Attr ino) ino attribute (first_mappings j al).mappings in
    let bs : List Claimed = fork_tree_claims a.geometry g ino 0 (first_mappings k dl).blocks in
    let cs : List Claimed = fork_tree_claims a.geometry g ino attribute (first_mappings j al).blocks in
    claims_four a g ino t
    ∙ each_more (hasc ds t) (hasc es t) (hasc bs t) (hasc cs t) (hasc (mapping_claims a.geometry g (Data ino) ino 0 dl.mappings) t) (hasc (mapping_claims a.geometry g (Attr ino) ino attribute al.mappings) t) (hasc (fork_tree_claims a.geometry g ino 0 dl.blocks) t) (hasc (fork_tree_claims a.geometry g ino attribute al.blocks) t)
    (some_of _ k dl.mappings t) (some_of _ j al.mappings t) (some_passing _ (λ (b : TreeBlock). nat_lt b.before k) dl.blocks t) (some_passing _ (λ (b : TreeBlock). nat_lt b.before j) al.blocks t)
    (sym (four ds es bs cs t) ∙ h)

-- a claim is its inode's
not_its : (a : State) (g ino : ℕ) (t : Tuple) → (t.owner == ino) ≡ false → has_claim_of a g ino t ≡ false
not_its a g ino t e =
    claims_four a g ino t
    ∙ ap₂ (λ x y. x || y) (ap₂ (λ x y. x || y) (ap₂ (λ x y. x || y) (other_mappings a.geometry g (Data ino) ino 0 (fork_of a ino forks.Data).mappings t e) (other_mappings a.geometry g (Attr ino) ino attribute (fork_of a ino forks.Attr).mappings t e))
    (other_tree a.geometry g ino 0 (fork_of a ino forks.Data).blocks t e)) (other_tree a.geometry g ino attribute (fork_of a ino forks.Attr).blocks t e)

claim_owner : (a : State) (g ino : ℕ) (t : Tuple) → has_claim_of a g ino t ≡ true → t.owner ≡ ino
claim_owner a g ino t h = by (t.owner == ino) refl
  where
    by : (b : Bool) → (t.owner == ino) ≡ b → t.owner ≡ ino
    by true e = eqb-true t.owner ino e
    by false e = absurd (true≢false (sym h ∙ none))
      where
        none : has_claim_of a g ino t ≡ false
        none = not_its a g ino t e

pub held_settled : HeldIsSettled
held_settled a g ino k t calm idle is h =
    let claim = given_is_claim a g ino k t h in
    let own = claim_owner a g ino t claim in
    both (has (settled_forks a g) t) (t.owner == ino) (settled_of a g ino t calm idle is own ∙ claim) (eq-eqb t.owner ino own)
  where
    both : (x y : Bool) → x ≡ true → y ≡ true → (x && y) ≡ true
    both true y e k = k
    both false y e k = absurd (false≢true e)

-- ---- and all of it

take_none : {X : Type 0} (n : ℕ) → take {A = X} n [] ≡ []
take_none zero = refl
take_none (suc n) = refl

take_enough : {X : Type 0} (k : ℕ) (xs : List X) → take (length xs + k) xs ≡ xs
take_enough k [] = take_none (0 + k)
take_enough k (x ∷ xs) = ap (λ n. take n (x ∷ xs)) (shift (length xs) k) ∙ ap (λ ys. x ∷ ys) (take_enough k xs)
  where
    shift : (n k : ℕ) → suc n + k ≡ suc (n + k)
    shift n k = omega arith

all_before : (k n : ℕ) (bs : List TreeBlock) → Each (λ (b : TreeBlock). b.before < n) bs → filter (λ (b : TreeBlock). nat_lt b.before (n + k)) bs ≡ bs
all_before k n [] h = refl
all_before k n (b ∷ bs) h = ap (λ t. cond t (b ∷ filter (λ (x : TreeBlock). nat_lt x.before (n + k)) bs) (filter (λ (x : TreeBlock). nat_lt x.before (n + k)) bs)) (low b.before n k h.0) ∙ ap (λ ys. b ∷ ys) (all_before k n bs h.1)
  where
    low : (x n k : ℕ) → x < n → nat_lt x (n + k) ≡ true
    low x n k h = grind (arith, nat_tests)

first_all : (k : ℕ) (list : ForkList) → Each (λ (b : TreeBlock). b.before < length list.mappings) list.blocks → first_mappings (length list.mappings + k) list ≡ list
first_all k list h = λ i. record { mappings = take_enough k list.mappings i; blocks = all_before k (length list.mappings) list.blocks h i }

whole_given : (a : State) (g ino : ℕ) (t : Tuple) → ((f : Fork) → HasBelow a ino f) → has (held_tuples a g (Some ino) (all_of a ino)) t ≡ has_claim_of a g ino t
whole_given a g ino t below =
    let dl : ForkList = fork_of a ino forks.Data in
    let al : ForkList = fork_of a ino forks.Attr in
    let by : ForkList → ForkList → List Claimed = λ (d : ForkList) (e : ForkList). mapping_claims a.geometry g (Data ino) ino 0 d.mappings ++ mapping_claims a.geometry g (Attr ino) ino attribute e.mappings ++ fork_tree_claims a.geometry g ino 0 d.blocks ++ fork_tree_claims a.geometry g ino attribute e.blocks in
    let first : first_mappings (all_of a ino) dl ≡ dl = first_all (length al.mappings) dl (below forks.Data) in
    let attr : first_mappings (all_of a ino - length dl.mappings) al ≡ al = ap (λ n. first_mappings n al) (behind (length dl.mappings) (length al.mappings)) ∙ first_all 0 al (below forks.Attr) in
    (λ i. has (map tuple_of (by (first i) (attr i))) t)
    ∙ four (mapping_claims a.geometry g (Data ino) ino 0 dl.mappings) (mapping_claims a.geometry g (Attr ino) ino attribute al.mappings) (fork_tree_claims a.geometry g ino 0 dl.blocks) (fork_tree_claims a.geometry g ino attribute al.blocks) t
    ∙ sym (claims_four a g ino t)
  where
    behind : (x y : ℕ) → (x + y) - x ≡ y + 0
    behind x y = omega arith

pub whole_visited : WholeIsVisited
whole_visited a g c calm idle is below = hold_ends a g c (all_of a (c + 1)) (λ t. whole_given a g (c + 1) t below ∙ by t (t.owner == c + 1) refl)
  where
    no : (x : Bool) → (x && false) ≡ false
    no true = refl
    no false = refl

    yes : (x : Bool) → x ≡ (x && true)
    yes true = refl
    yes false = refl

    none : (t : Tuple) → (t.owner == c + 1) ≡ false → has_claim_of a g (c + 1) t ≡ false
    none t e = elim (cases_Bool (has_claim_of a g (c + 1) t)) [
      | inl h ↦ absurd (true≢false (sym (eq-eqb t.owner (c + 1) (claim_owner a g (c + 1) t h)) ∙ e))
      | inr h ↦ h
    ]

    by : (t : Tuple) (b : Bool) → (t.owner == c + 1) ≡ b → has_claim_of a g (c + 1) t ≡ (has (settled_forks a g) t && (t.owner == c + 1))
    by t true e = sym (settled_of a g (c + 1) t calm idle is (eqb-true t.owner (c + 1) e)) ∙ yes (has (settled_forks a g) t) ∙ ap (λ b. has (settled_forks a g) t && b) (sym e)
    by t false e = none t e ∙ sym (no (has (settled_forks a g) t)) ∙ ap (λ b. has (settled_forks a g) t && b) (sym e)
