-- What a scan has seen, by one step of it or of a writer.
use Rattle.std.proofs.Common.{◌≡◌, ℕ, ◌+◌, ◌-◌, ◌==◌, ◌&&◌, ◌||◌, nat_lt, Bool, true, false, not, cond, List, [], ◌∷◌, ◌++◌, map, filter, length, Option, Some, None, refl, sym, ap, ◌∙◌, arith}
use Rattle.std.proofs.lemmas.Bool.{true≢false}
use Rattle.std.proofs.lemmas.Bool.Decides.{nat_tests}
use Rattle.dinode_core.specs.ForkTree.{TreeBlock}
use Rattle.dinode_core.specs.declared.mapping.Fork.TheVariants as forks
use Rattle.fs_model.specs.declared.claim.Claim.TheVariants.{Data, Attr}
use Rattle.rmap_recs.specs.Runs.{has}
use Rattle.rmap_recs.specs.declared.tuples.Tuple.{Tuple}
use Rattle.fs_state.specs.State.{State, ForkList}
use Rattle.fs_state.specs.Claims.{Claimed, mapping_claims, fork_tree_claims, fork_of, attribute}
use Rattle.fs_state.specs.Own.{tuple_of, set_of}
use Rattle.fs_change.proofs.Sets.{one_set, has_set, has_both, has_passing}
use Rattle.fs_change.specs.Chains.{settled_forks}
use Rattle.fs_change.specs.Laws.{CursorPasses, HoldBegins, HoldEnds, ShadowGains, ShadowLoses, is_seen}
use Rattle.fs_change.specs.Scan.{visited, held_tuples, shadow_of, first_mappings, attribute_piece, piece_claims}

in_shadow_list : (a : State) (g c : ℕ) (held : Option ℕ) (k : ℕ) (t : Tuple) → has (filter (λ u. visited c u.owner) (settled_forks a g) ++ held_tuples a g held k) t ≡ ((has (settled_forks a g) t && visited c t.owner) || has (held_tuples a g held k) t)
in_shadow_list a g c held k t =
    has_both (filter (λ u. visited c u.owner) (settled_forks a g)) (held_tuples a g held k) t
    ∙ ap (λ b. b || has (held_tuples a g held k) t) (has_passing (λ u. visited c u.owner) (settled_forks a g) t)

in_shadow : (a : State) (g c : ℕ) (held : Option ℕ) (k : ℕ) (t : Tuple) → has (shadow_of a g c held k) t ≡ ((has (settled_forks a g) t && visited c t.owner) || has (held_tuples a g held k) t)
unfolding shadow_of
in_shadow a g c held k t = has_set (filter (λ u. visited c u.owner) (settled_forks a g) ++ held_tuples a g held k) t ∙ in_shadow_list a g c held k t

where_there : (s v w : Bool) → (s ≡ true → v ≡ w) → ((s && v) || false) ≡ ((s && w) || false)
where_there true v w h = ap (λ b. b || false) (h refl)
where_there false v w h = refl

pub cursor_passes : CursorPasses
unfolding shadow_of
cursor_passes a g c d same = one_set (filter (λ t. visited d t.owner) (settled_forks a g) ++ []) (filter (λ t. visited c t.owner) (settled_forks a g) ++ []) (λ t.
    in_shadow_list a g d None 0 t
    ∙ where_there (has (settled_forks a g) t) (visited d t.owner) (visited c t.owner) (same t)
    ∙ sym (in_shadow_list a g c None 0 t))

-- ---- an inode of which nothing was given

below_none : (n : ℕ) → nat_lt n 0 ≡ false
below_none n = grind (arith, nat_tests)

no_blocks : (bs : List TreeBlock) → filter (λ t. nat_lt t.before 0) bs ≡ []
no_blocks [] = refl
no_blocks (b ∷ bs) = ap (λ x. cond x (b ∷ filter (λ t. nat_lt t.before 0) bs) (filter (λ t. nat_lt t.before 0) bs)) (below_none b.before) ∙ no_blocks bs

abbrev no_mappings : ForkList
no_mappings = record { mappings = []; blocks = [] }

none_first : (n : ℕ) (list : ForkList) → n ≡ 0 → first_mappings n list ≡ no_mappings
none_first n list e = ap (λ m. first_mappings m list) e ∙ (λ i. record { mappings = []; blocks = no_blocks list.blocks i })

-- the claims of these two pieces
abbrev claims_by : State → ℕ → ℕ → ForkList → ForkList → List Claimed
claims_by a g ino d t =
    mapping_claims a.geometry g (Data ino) ino 0 d.mappings ++ mapping_claims a.geometry g (Attr ino) ino attribute t.mappings
    ++ fork_tree_claims a.geometry g ino 0 d.blocks ++ fork_tree_claims a.geometry g ino attribute t.blocks

none_before : (n : ℕ) → 0 - n ≡ 0
none_before n = omega arith

nothing_claimed : (a : State) (g ino : ℕ) → piece_claims a g ino 0 ≡ []
nothing_claimed a g ino =
    ap (λ d. claims_by a g ino d (attribute_piece a ino 0)) (none_first 0 (fork_of a ino forks.Data) refl)
    ∙ ap (claims_by a g ino no_mappings) (none_first (0 - length (fork_of a ino forks.Data).mappings) (fork_of a ino forks.Attr) (none_before (length (fork_of a ino forks.Data).mappings)))

pub hold_begins : HoldBegins
unfolding shadow_of
hold_begins a g c ino = ap (λ cs. set_of (filter (λ t. visited c t.owner) (settled_forks a g) ++ map tuple_of cs)) (nothing_claimed a g ino)

-- ---- an inode that was given whole

one_more : (s : Bool) (c o : ℕ) → ((s && visited c o) || (s && (o == c + 1))) ≡ ((s && visited (c + 1) o) || false)
unfolding visited
one_more true c o = grind (arith, nat_tests)
one_more false c o = refl

pub hold_ends : HoldEnds
unfolding shadow_of
hold_ends a g c k whole = one_set (filter (λ t. visited c t.owner) (settled_forks a g) ++ held_tuples a g (Some (c + 1)) k) (filter (λ t. visited (c + 1) t.owner) (settled_forks a g) ++ []) (λ t.
    in_shadow_list a g c (Some (c + 1)) k t
    ∙ ap (λ b. (has (settled_forks a g) t && visited c t.owner) || b) (whole t)
    ∙ one_more (has (settled_forks a g) t) c t.owner
    ∙ sym (in_shadow_list a g (c + 1) None 0 t))

-- ---- a writer's finished step

gained : (s n v h : Bool) → (((s || n) && v) || h) ≡ (((s && v) || h) || (n && v))
gained true true true h = refl
gained true true false true = refl
gained true true false false = refl
gained true false true h = refl
gained true false false true = refl
gained true false false false = refl
gained false true true true = refl
gained false true true false = refl
gained false true false true = refl
gained false true false false = refl
gained false false v true = refl
gained false false v false = refl

pub shadow_gains : ShadowGains
unfolding shadow_of
shadow_gains a b g c k held new settled same = one_set (filter (λ t. visited c t.owner) (settled_forks b g) ++ held_tuples b g held k) (shadow_of a g c held k ++ filter (is_seen c) new) (λ t.
    in_shadow_list b g c held k t
    ∙ ap (λ x. (x && visited c t.owner) || has (held_tuples b g held k) t) (ap (λ ts. has ts t) settled ∙ has_set (settled_forks a g ++ new) t ∙ has_both (settled_forks a g) new t)
    ∙ ap (λ ts. ((has (settled_forks a g) t || has new t) && visited c t.owner) || has ts t) same
    ∙ gained (has (settled_forks a g) t) (has new t) (visited c t.owner) (has (held_tuples a g held k) t)
    ∙ ap (λ x. x || (has new t && visited c t.owner)) (sym (in_shadow a g c held k t))
    ∙ ap (λ x. has (shadow_of a g c held k) t || x) (sym (has_passing (is_seen c) new t))
    ∙ sym (has_both (shadow_of a g c held k) (filter (is_seen c) new) t))

lost : (s o v h : Bool) → (o ≡ true → h ≡ false) → (((s && not o) && v) || h) ≡ (((s && v) || h) && not (o && v))
lost s true v true apart = absurd (true≢false (apart refl))
lost true true true false apart = refl
lost true true false false apart = refl
lost false true true false apart = refl
lost false true false false apart = refl
lost true false true h apart = refl
lost true false false true apart = refl
lost true false false false apart = refl
lost false false v true apart = refl
lost false false v false apart = refl

pub shadow_loses : ShadowLoses
unfolding shadow_of
shadow_loses a b g c k held old settled same apart = one_set (filter (λ t. visited c t.owner) (settled_forks b g) ++ held_tuples b g held k) (filter (λ t. not (has old t && is_seen c t)) (shadow_of a g c held k)) (λ t.
    in_shadow_list b g c held k t
    ∙ ap (λ x. (x && visited c t.owner) || has (held_tuples b g held k) t) (ap (λ ts. has ts t) settled ∙ has_set (filter (λ u. not (has old u)) (settled_forks a g)) t ∙ has_passing (λ u. not (has old u)) (settled_forks a g) t)
    ∙ ap (λ ts. ((has (settled_forks a g) t && not (has old t)) && visited c t.owner) || has ts t) same
    ∙ lost (has (settled_forks a g) t) (has old t) (visited c t.owner) (has (held_tuples a g held k) t) (apart t)
    ∙ ap (λ x. x && not (has old t && visited c t.owner)) (sym (in_shadow a g c held k t))
    ∙ sym (has_passing (λ u. not (has old u && is_seen c u)) (shadow_of a g c held k) t))
