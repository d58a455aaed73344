-- The first overlap doesn't depend on the order of the pieces, and only on the claims that they stand for.
use Rattle.std.proofs.Common.{◌≡◌, ℕ, ◌+◌, Bool, not, List, [], ◌∷◌, length, map, Option, Some, None, refl, ap, sym, ◌∙◌, inl, inr, arith}
use Rattle.std.specs.Prelude.{◌==◌, ◌&&◌, ◌||◌, nat_lt, if◌then◌else◌}
use Rattle.std.specs.List.{filter, list_any}
use Rattle.std.specs.List.Sorted.{IsPermutation}
use Rattle.std.proofs.lemmas.Bool.{cases_lt, cond-false, le-ltb, lt-ltb, cond-true}
use Rattle.std.proofs.lemmas.List.Sorted.{IsPermutation-refl}
use Rattle.fs_model.specs.declared.claim.Claim.{Claim}
use Rattle.fs_model.specs.declared.claim.Evidence.{Evidence}
use Rattle.fs_model.specs.declared.claim.Evidence.TheVariants.{Overlap}
use Rattle.geom.specs.Layout.{group_len_of}
use Rattle.fs_state.specs.Claims.{Claimed}
use Rattle.fs_state.specs.Contradiction.{is_written_data, overlap_in, overlap_among, first_overlap}
use Rattle.fs_state.specs.Lists.{numbers, first_of_all}
use Rattle.unit_plan.specs.declared.piece.Among.{Among}
use Rattle.unit_plan.specs.declared.piece.Piece.{Piece}
use Rattle.derive_defs.specs.Mappings.{covers}
use Rattle.fs_model.specs.declared.unit.Unit.TheVariants as units
use Rattle.unit_plan.specs.Laws.{AnyOrder, InGroup, SpareInGroup, is_spare_in, seen}
use Rattle.unit_plan.specs.Spare.{is_listed, is_sick, is_spare}
use Rattle.unit_plan.specs.Pieces.{claimed, claimed_blocks}
use Rattle.unit_plan.specs.Sets.{LieBelow, IsFirstOverlap}
use Rattle.unit_plan.proofs.Counting.{many, permuted, any_none, any_some}
use Rattle.unit_plan.proofs.FoundLemmas.{shown, blocks_shown, length_shown, hard_shown, claims_shown}

-- ---- block by block

same_map : (f g : ℕ → Option Evidence) → ((b : ℕ) → f b ≡ g b) → (bs : List ℕ) → map f bs ≡ map g bs
same_map f g h [] = refl
same_map f g h (b ∷ bs) = ap (λ (o : Option Evidence). o ∷ map f bs) (h b) ∙ ap (λ (os : List (Option Evidence)). g b ∷ os) (same_map f g h bs)

same_among : (cs ds : List Claimed) (bs : List ℕ) → ((b : ℕ) → overlap_in (filter (λ c. c.block == b) cs) ≡ overlap_in (filter (λ c. c.block == b) ds)) → overlap_among cs bs ≡ overlap_among ds bs
same_among cs ds bs h = ap first_of_all (same_map (λ b. overlap_in (filter (λ c. c.block == b) cs)) (λ b. overlap_in (filter (λ c. c.block == b) ds)) h bs)

-- ---- another order

abbrev hard : Claimed → Bool
hard c = not (is_written_data c)

same_any : (xs ys : List Claimed) → many hard xs ≡ many hard ys → list_any hard xs ≡ list_any hard ys
same_any xs ys e = elim (cases_lt 0 (many hard xs)) [
  | inl some ↦ any_some hard xs some ∙ sym (any_some hard ys (omega (arith, some, e)))
  | inr none ↦ any_none hard xs (omega (arith, none)) ∙ sym (any_none hard ys (omega (arith, none, e)))
]

both : (c d x y : Claim) (cs xs : List Claim) → ◌≡◌ {A = List Claim} (c ∷ d ∷ cs) (x ∷ y ∷ xs) → (c ≡ x) × (d ≡ y)
both c d x y cs xs e = ((cc), (cc))

abbrev on_one : ℕ → List Piece → List Claimed
on_one b ps = map (λ p. claimed p b) ps

same_shown : (b : ℕ) (ps qs : List Piece) → length ps ≡ length qs → many hard (on_one b ps) ≡ many hard (on_one b qs) → map (λ p. p.claim) ps ≡ map (λ p. p.claim) qs → overlap_in (on_one b ps) ≡ overlap_in (on_one b qs)
same_shown b [] [] n h c = refl
same_shown b [] (q ∷ qs) n h c = absurd (omega (arith, n))
same_shown b (p ∷ ps) [] n h c = absurd (omega (arith, n))
same_shown b (p ∷ []) (q ∷ []) n h c = refl
same_shown b (p ∷ []) (q ∷ r ∷ qs) n h c = absurd (omega (arith, n))
same_shown b (p ∷ r ∷ ps) (q ∷ []) n h c = absurd (omega (arith, n))
same_shown b (p ∷ r ∷ ps) (q ∷ s ∷ qs) n h c =
    let e = both p.claim r.claim q.claim s.claim (map (λ x. x.claim) ps) (map (λ x. x.claim) qs) c in
    ap (λ (t : Bool). if t then Some (Overlap b p.claim r.claim) else None) (same_any (on_one b (p ∷ r ∷ ps)) (on_one b (q ∷ s ∷ qs)) h)
    ∙ ap (λ (x : Claim). if list_any hard (on_one b (q ∷ s ∷ qs)) then Some (Overlap b x r.claim) else None) e.0
    ∙ ap (λ (x : Claim). if list_any hard (on_one b (q ∷ s ∷ qs)) then Some (Overlap b q.claim x) else None) e.1

same_block : (among : Among) (ps qs : List Piece) → IsPermutation ps qs → (b : ℕ) → overlap_in (filter (λ c. c.block == b) (claimed_blocks among ps)) ≡ overlap_in (filter (λ c. c.block == b) (claimed_blocks among qs))
same_block among ps qs same b =
    let itself = IsPermutation-refl qs in
    ap overlap_in (blocks_shown among ps qs same b)
    ∙ same_shown b (shown among ps qs same b) (shown among qs qs itself b)
    (length_shown among ps qs same b ∙ sym (length_shown among qs qs itself b))
    (hard_shown among ps qs same b ∙ sym (hard_shown among qs qs itself b))
    (claims_shown among ps qs same b ∙ sym (claims_shown among qs qs itself b))
    ∙ sym (ap overlap_in (blocks_shown among qs qs itself b))

abbrev beyond : ℕ → Piece → Bool
beyond length p = nat_lt length (p.run.start + p.run.count)

none_beyond : (length : ℕ) (ps : List Piece) → LieBelow length ps → many (beyond length) ps ≡ 0
none_beyond length [] below = refl
none_beyond length (p ∷ ps) below =
    cond-false (beyond length p) (1 + many (beyond length) ps) (many (beyond length) ps) (le-ltb length (p.run.start + p.run.count) below.0) ∙ none_beyond length ps below.1

lie_below : (length : ℕ) (ps : List Piece) → many (beyond length) ps ≡ 0 → LieBelow length ps
lie_below length [] none = tt
lie_below length (p ∷ ps) none = elim (cases_lt length (p.run.start + p.run.count)) [
  | inl out ↦ absurd (let more = sym (cond-true (beyond length p) (1 + many (beyond length) ps) (many (beyond length) ps) (lt-ltb length (p.run.start + p.run.count) out)) ∙ none in omega (arith, more))
  | inr within ↦
      let rest = sym (cond-false (beyond length p) (1 + many (beyond length) ps) (many (beyond length) ps) (le-ltb length (p.run.start + p.run.count) within)) ∙ none in
      (within, lie_below length ps rest)
]

pub any_order_lem : AnyOrder
unfolding IsFirstOverlap
any_order_lem among ps qs e same first = λ length below.
    let lies : LieBelow length ps = lie_below length ps (permuted ps qs same (beyond length) ∙ none_beyond length qs below) in
    first length lies ∙ same_among (claimed_blocks among ps) (claimed_blocks among qs) (numbers 0 length) (same_block among ps qs same)

-- ---- other claims that look the same

any_seen : (xs : List Claimed) → list_any hard xs ≡ list_any (λ (s : ℕ × (Claim × Bool)). not s.1.1) (map seen xs)
any_seen [] = refl
any_seen (x ∷ xs) = ap (λ (t : Bool). hard x || t) (any_seen xs)

heads : (c d x y : ℕ × (Claim × Bool)) (cs xs : List (ℕ × (Claim × Bool))) → ◌≡◌ {A = List (ℕ × (Claim × Bool))} (c ∷ d ∷ cs) (x ∷ y ∷ xs) → (c ≡ x) × (d ≡ y)
heads c d x y cs xs e = ((cc), (cc))

none_some : (x : ℕ × (Claim × Bool)) (xs : List (ℕ × (Claim × Bool))) → ◌≡◌ {A = List (ℕ × (Claim × Bool))} [] (x ∷ xs) → ⊥
none_some x xs e = cc

one_two : (c x y : ℕ × (Claim × Bool)) (xs : List (ℕ × (Claim × Bool))) → ◌≡◌ {A = List (ℕ × (Claim × Bool))} (c ∷ []) (x ∷ y ∷ xs) → ⊥
one_two c x y xs e = cc

same_seen : (xs ys : List Claimed) → map seen xs ≡ map seen ys → overlap_in xs ≡ overlap_in ys
same_seen [] [] e = refl
same_seen [] (y ∷ ys) e = absurd (none_some (seen y) (map seen ys) e)
same_seen (x ∷ xs) [] e = absurd (none_some (seen x) (map seen xs) (sym e))
same_seen (x ∷ []) (y ∷ []) e = refl
same_seen (x ∷ []) (y ∷ z ∷ ys) e = absurd (one_two (seen x) (seen y) (seen z) (map seen ys) e)
same_seen (x ∷ w ∷ xs) (y ∷ []) e = absurd (one_two (seen y) (seen x) (seen w) (map seen xs) (sym e))
same_seen (x ∷ w ∷ xs) (y ∷ z ∷ ys) e =
    let h = heads (seen x) (seen w) (seen y) (seen z) (map seen xs) (map seen ys) e in
    let any : list_any hard (x ∷ w ∷ xs) ≡ list_any hard (y ∷ z ∷ ys) = any_seen (x ∷ w ∷ xs) ∙ ap (λ (ss : List (ℕ × (Claim × Bool))). list_any (λ (s : ℕ × (Claim × Bool)). not s.1.1) ss) e ∙ sym (any_seen (y ∷ z ∷ ys)) in
    ap (λ (t : Bool). if t then Some (Overlap x.block x.claim w.claim) else None) any
    ∙ ap (λ (s : ℕ × (Claim × Bool)). if list_any hard (y ∷ z ∷ ys) then Some (Overlap s.0 s.1.0 w.claim) else None) h.0
    ∙ ap (λ (s : ℕ × (Claim × Bool)). if list_any hard (y ∷ z ∷ ys) then Some (Overlap y.block y.claim s.1.0) else None) h.1

pub in_group_lem : InGroup
unfolding IsFirstOverlap first_overlap
in_group_lem among ps e a g cs below stand first =
    first (group_len_of a.geometry g) below
    ∙ same_among (claimed_blocks among ps) cs (numbers 0 (group_len_of a.geometry g)) (λ b. same_seen (filter (λ c. c.block == b) (claimed_blocks among ps)) (filter (λ c. c.block == b) cs) (sym (stand b)))

-- ---- spare blocks

pub spare_in_group_lem : SpareInGroup
unfolding is_spare is_spare_in
spare_in_group_lem a g units.Free t free recs ps b s = λ i. not (is_sick (s.rmap i)) && is_listed (s.free_is i) b
spare_in_group_lem a g units.Rmap t free recs ps b s = λ i. not (is_sick (s.bno i)) && (is_listed (s.free_is i) b && not (s.all b i))
spare_in_group_lem a g units.Inode t free recs ps b s =
    λ i. not (is_sick (s.bno i) || (is_sick (s.cnt i) || is_sick (s.rmap i))) && (is_listed (s.free_is i) b && not (list_any (covers b) (s.mappings_are i) || s.own b i))
spare_in_group_lem a g units.Refc t free recs ps b s =
    λ i. not (is_sick (s.bno i) || (is_sick (s.cnt i) || is_sick (s.rmap i))) && (is_listed (s.free_is i) b && not (list_any (covers b) (s.mappings_are i) || s.own b i))
