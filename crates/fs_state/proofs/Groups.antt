-- Any event of one group.
use Rattle.std.proofs.Common.{◌≡◌, ℕ, ◌<◌, Bool, true, false, List, [], ◌∷◌, None, is_ok, refl, ap, sym, subst, ◌∙◌, inl, inr}
use Rattle.std.specs.List.{list_any}
use Rattle.byte_fields.specs.Below.{all_below}
use Rattle.sblock.specs.declared.kind.Kind.TheVariants.{Rmap, Ino}
use Rattle.std.specs.Prelude.{◌*◌, ◌+◌, nat_le, nat_lt, ◌⊎◌, ◌==◌, ◌&&◌, ◌||◌}
use Rattle.std.proofs.lemmas.Bool.{and_right, ltb-true, false≢true, cases_Bool, and_parts, and_from, and_left, or_cases, eqb-true, eq-eqb}
use Rattle.geom.specs.Apart.{Splits}
use Rattle.geom.specs.Layout.{Layout, group_len_of, device_block_of}
use Rattle.sblock.specs.declared.kind.Kind.{Kind}
use Rattle.fs_state.specs.Apart.{is_chunk, is_listed, has_unit, ino_lists, rmap_lists, unit_verifies, Part, HeadsOf, LogPart, ListOf, TreeOf, ReserveOf, LimboOf, ChunkAt, ForkTreeOf, Has, In, InOwned}
use Rattle.fs_state.specs.Edits.{number_of, Among}
use Rattle.fs_state.specs.Frame.{UnitStays, Plain, is_chunk_part, Fate, Stays, Touched, Free, Frame, Rest, Firm}
use Rattle.fs_state.specs.Group.{is_among, touched_in, tree_shares, shares_of, GroupEvent, GroupDone, GroupLaw}
use Rattle.fs_state.specs.Kinds.{Image, Heads, heads_of, heads_in, root_of, level_of}
use Rattle.fs_state.specs.Pool.{Share, total, ShareOf}
use Rattle.fs_state.specs.Read.{core_of_ino, state_of, walked, group_of}
use Rattle.fs_state.specs.State.{recs_of, State, Kept, Owned, blocks_of, blocks_in}
use Rattle.fs_state.proofs.Again.{firm_again}
use Rattle.fs_state.proofs.Claims.{claim_before}
use Rattle.fs_state.proofs.EditSteps.{kind_named, named_back}
use Rattle.fs_state.proofs.GroupParts.{group_ext, owned_list}
use Rattle.fs_state.proofs.Frames.{frame_law_lem}
use Rattle.fs_state.proofs.Pools.{share_from, share_in, times_in}
use Rattle.fs_state.proofs.Untouched.{untouched}

list_owned : (p : ℕ) (os : List Owned) → In p (blocks_in os) → InOwned p os
list_owned p [] h = absurd h
list_owned p (o ∷ os) (inl e) = inl e
list_owned p (o ∷ os) (inr h) = inr (list_owned p os h)

to_among : (k : Kind) (ks : List Kind) → is_among k ks ≡ true → Among k ks
to_among k [] h = absurd (false≢true h)
to_among k (j ∷ js) h =
    elim (or_cases (number_of j == number_of k) (is_among k js) h) [
      | inl e ↦ inl (sym (named_back j) ∙ ap kind_named (eqb-true (number_of j) (number_of k) e) ∙ named_back k)
      | inr r ↦ inr (to_among k js r)
    ]

or_right : (x y : Bool) → y ≡ true → (x || y) ≡ true
or_right true y h = refl
or_right false y h = h

from_among : (k : Kind) (ks : List Kind) → Among k ks → is_among k ks ≡ true
from_among k [] h = absurd h
from_among k (j ∷ js) (inl e) = rw (eq-eqb (number_of j) (number_of k) (ap (λ x. number_of x) e)) refl
from_among k (j ∷ js) (inr h) = or_right (number_of j == number_of k) (is_among k js) (from_among k js h)

share_tree : (g : ℕ) (blocks : Kind → List ℕ) (ks : List Kind) (tail : List Share) (k : Kind) (p : ℕ) → Among k ks → In p (blocks k) → ShareOf (tree_shares g blocks ks tail) (TreeOf g k) p
share_tree g blocks [] tail k p i h = absurd i
share_tree g blocks (j ∷ js) tail k p (inl e) h = inl (ap (TreeOf g) e, subst (λ x. In p (blocks x)) (sym e) h)
share_tree g blocks (j ∷ js) tail k p (inr i) h = inr (share_tree g blocks js tail k p i h)

share_tail : (g : ℕ) (blocks : Kind → List ℕ) (ks : List Kind) (tail : List Share) (c : Part) (p : ℕ) → ShareOf tail c p → ShareOf (tree_shares g blocks ks tail) c p
share_tail g blocks [] tail c p h = h
share_tail g blocks (k ∷ ks) tail c p h = inr (share_tail g blocks ks tail c p h)

share_cases : (g : ℕ) (blocks : Kind → List ℕ) (ks : List Kind) (tail : List Share) (c : Part) (p : ℕ) → ShareOf (tree_shares g blocks ks tail) c p → ((k : Kind) × Among k ks × (TreeOf g k ≡ c) × In p (blocks k)) ⊎ ShareOf tail c p
share_cases g blocks [] tail c p h = inr h
share_cases g blocks (k ∷ ks) tail c p (inl h) = inl (k, inl refl, h.0, h.1)
share_cases g blocks (k ∷ ks) tail c p (inr h) =
    elim (share_cases g blocks ks tail c p h) [ inl x ↦ inl (x.0, inr x.1, x.2, x.3) | inr t ↦ inr t ]

-- the parts between which blocks move
pooled_in : ℕ → List Kind → (ℕ → Bool) → Part → Bool
pooled_in g ks made (HeadsOf h) = false
pooled_in g ks made LogPart = false
pooled_in g ks made (ListOf h) = h == g
pooled_in g ks made (TreeOf h k) = (h == g) && is_among k ks
pooled_in g ks made (ReserveOf h) = h == g
pooled_in g ks made (LimboOf h) = h == g
pooled_in g ks made (ChunkAt d) = made d
pooled_in g ks made (ForkTreeOf ino f) = false

module _ (at : Layout) (image image' : Image) (kept kept' : Kept) (g : ℕ) (ks : List Kind) (chunk edits : ℕ → Bool) (fresh : ℕ → ℕ → Bool) (made : ℕ → Bool) (extra : List Share) (splits : Splits at) (firm : Firm at image kept) (e : GroupEvent at image image' kept kept' g ks chunk edits fresh made extra) where
  self_same : (g == g) ≡ true
  self_same = eq-eqb g g refl

  tail : State → List Share → List Share
  tail a more = (ListOf g, (a.group g).free_list) ∷ (ReserveOf g, blocks_in (a.group g).reserve) ∷ (LimboOf g, blocks_in (a.group g).limbo) ∷ more

  Held : Part → ℕ → Type 0
  Held c p = (pooled_in g ks made c ≡ true) × (is_chunk_part c ≡ false) × (touched_in g ks chunk c ≡ true) × Has (state_of at image kept) c (device_block_of at g p)

  tail_has : (c : Part) (p : ℕ) → ShareOf (tail (state_of at image kept) []) c p → Held c p
  unfolding Held tail pooled_in
  tail_has c p (inl h) = subst (λ x. Held x p) h.0 (self_same, refl, self_same, record { inside = e.inside; block = p; holds = h.1; place = refl })
  tail_has c p (inr (inl h)) = subst (λ x. Held x p) h.0 (self_same, refl, self_same, record { inside = e.inside; block = p; holds = list_owned p ((state_of at image kept).group g).reserve h.1; place = refl })
  tail_has c p (inr (inr (inl h))) = subst (λ x. Held x p) h.0 (self_same, refl, self_same, record { inside = e.inside; block = p; holds = list_owned p ((state_of at image kept).group g).limbo h.1; place = refl })
  tail_has c p (inr (inr (inr h))) = absurd h

  share_has : (c : Part) (p : ℕ) → ShareOf (shares_of (state_of at image kept) g ks []) c p → Held c p
  unfolding Held tail pooled_in
  share_has c p h =
      elim (share_cases g (λ k. blocks_of (((state_of at image kept).group g).tree k).reading) ks (tail (state_of at image kept) []) c p h) [
        | inl x ↦
            let on : ((g == g) && is_among x.0 ks) ≡ true = and_from (g == g) (is_among x.0 ks) self_same (from_among x.0 ks x.1) in
            subst (λ y. Held y p) x.2 (on, refl, on, record { inside = e.inside; block = p; holds = x.3; place = refl })
        | inr t ↦ tail_has c p t
      ]

  Written : ℕ → Type 0
  Written d = ((p : ℕ) × ((p ≡ 0) ⊎ (In p (total (shares_of (state_of at image kept) g ks [])) ⊎ ((c : Part) → Has (state_of at image kept) c (device_block_of at g p) → ⊥))) × (device_block_of at g p ≡ d)) ⊎ (chunk d ≡ true)

  fate_of : (d : ℕ) → Written d → Fate (state_of at image kept) image image' (touched_in g ks chunk) d
  unfolding Written Held
  fate_of d (inr on) = elim (e.blocks.chunks d on) [ inl has ↦ Touched (ChunkAt d) on has | inr none ↦ Free none ]
  fate_of d (inl w) =
      subst (Fate (state_of at image kept) image image' (touched_in g ks chunk)) w.2 (elim w.1 [
        | inl zero_is ↦ Touched (HeadsOf g) self_same (record { inside = e.inside; block = w.0; holds = zero_is; place = refl })
        | inr i ↦ elim i [
          | inl here ↦
              let s = share_from (shares_of (state_of at image kept) g ks []) w.0 here in
              let h = share_has s.0 w.0 s.1 in
              Touched s.0 h.2 h.3
          | inr none ↦ Free none
        ]
      ])

  fates : (d : ℕ) → Fate (state_of at image kept) image image' (touched_in g ks chunk) d
  unfolding Written
  fates d = elim (e.blocks.writes d) [ inl same ↦ Stays same | inr w ↦ fate_of d w.0 ]

  other_heads : (h : ℕ) → h < at.agcount → (h == g) ≡ false → heads_of at image' h ≡ heads_of at image h
  other_heads h lt off =
      ap heads_in (untouched (state_of at image kept) image image' (touched_in g ks chunk) firm.apart fates (HeadsOf h) off (device_block_of at h 0) (record { inside = lt; block = 0; holds = refl; place = refl }))

  not_among : (h : ℕ) (k : Kind) → ((h == g) && is_among k ks) ≡ false → h ≡ g → is_among k ks ≡ false
  not_among h k off s = let x : (h == g) ≡ true = eq-eqb h g s in rw x at off

  roots_stay : (h : ℕ) (k : Kind) → h < at.agcount → ((h == g) && is_among k ks) ≡ false → (root_of (heads_of at image' h) k ≡ root_of (heads_of at image h) k) × (level_of (heads_of at image' h) k ≡ level_of (heads_of at image h) k)
  roots_stay h k lt off =
      elim (cases_Bool (h == g)) [
        | inl same ↦
            let s : h ≡ g = eqb-true h g same in
            subst (λ x. (root_of (heads_of at image' x) k ≡ root_of (heads_of at image x) k) × (level_of (heads_of at image' x) k ≡ level_of (heads_of at image x) k)) (sym s) (e.keeps.roots k (not_among h k off s))
        | inr other ↦
            let s = other_heads h lt other in
            (ap (λ (x : Heads). root_of x k) s, ap (λ (x : Heads). level_of x k) s)
      ]

  -- a pooled claim now
  Claims : Part → ℕ → Type 0
  Claims c d = Has (state_of at image' kept') c d → (p : ℕ) × ShareOf (shares_of (state_of at image' kept') g ks extra) c p × (device_block_of at g p ≡ d)

  claims_tail : (c : Part) (p d : ℕ) → ShareOf (tail (state_of at image' kept') extra) c p → device_block_of at g p ≡ d → (q : ℕ) × ShareOf (shares_of (state_of at image' kept') g ks extra) c q × (device_block_of at g q ≡ d)
  unfolding tail
  claims_tail c p d h place = (p, share_tail g (λ k. blocks_of (((state_of at image' kept').group g).tree k).reading) ks (tail (state_of at image' kept') extra) c p h, place)

  list_claims : (d : ℕ) → Claims (ListOf g) d
  unfolding Claims tail
  list_claims d has = claims_tail (ListOf g) has.block d (inl (refl, has.holds)) has.place

  reserve_claims : (d : ℕ) → Claims (ReserveOf g) d
  unfolding Claims tail
  reserve_claims d has = claims_tail (ReserveOf g) has.block d (inr (inl (refl, owned_list has.block ((state_of at image' kept').group g).reserve has.holds))) has.place

  limbo_claims : (d : ℕ) → Claims (LimboOf g) d
  unfolding Claims tail
  limbo_claims d has = claims_tail (LimboOf g) has.block d (inr (inr (inl (refl, owned_list has.block ((state_of at image' kept').group g).limbo has.holds)))) has.place

  tree_claims : (k : Kind) → Among k ks → (d : ℕ) → Claims (TreeOf g k) d
  unfolding Claims tail
  tree_claims k i d has =
      (has.block, share_tree g (λ j. blocks_of (((state_of at image' kept').group g).tree j).reading) ks (tail (state_of at image' kept') extra) k has.block i has.holds, has.place)

  chunk_claims : (x d : ℕ) → made x ≡ true → Claims (ChunkAt x) d
  unfolding Claims tail
  chunk_claims x d on has =
      let m = e.inodes.made_shares x d on has in
      claims_tail (ChunkAt x) m.0 d (inr (inr (inr m.1))) m.2

  claims_now : (c : Part) → pooled_in g ks made c ≡ true → (d : ℕ) → Claims c d
  unfolding pooled_in
  claims_now (HeadsOf h) on d = absurd (false≢true on)
  claims_now LogPart on d = absurd (false≢true on)
  claims_now (ListOf h) on d = subst (λ x. Claims (ListOf x) d) (sym (eqb-true h g on)) (list_claims d)
  claims_now (TreeOf h k) on d =
      let x = and_parts (h == g) (is_among k ks) on in
      subst (λ x. Claims (TreeOf x k) d) (sym (eqb-true h g x.0)) (tree_claims k (to_among k ks x.1) d)
  claims_now (ReserveOf h) on d = subst (λ x. Claims (ReserveOf x) d) (sym (eqb-true h g on)) (reserve_claims d)
  claims_now (LimboOf h) on d = subst (λ x. Claims (LimboOf x) d) (sym (eqb-true h g on)) (limbo_claims d)
  claims_now (ChunkAt x) on d = chunk_claims x d on
  claims_now (ForkTreeOf i f) on d = absurd (false≢true on)

  From : ℕ → Type 0
  From p = ((c : Part) × (pooled_in g ks made c ≡ true) × (is_chunk_part c ≡ false) × Has (state_of at image kept) c (device_block_of at g p)) ⊎ ((c : Part) → Has (state_of at image kept) c (device_block_of at g p) → ⊥)

  came : (p : ℕ) → In p (total (shares_of (state_of at image' kept') g ks extra)) → From p
  unfolding Held From
  came p i =
      elim (e.blocks.came p i) [
        | inl before ↦
            let s = share_from (shares_of (state_of at image kept) g ks []) p before in
            let h = share_has s.0 p s.1 in
            inl (s.0, h.0, h.1, h.3)
        | inr none ↦ inr none
      ]

  Comes : ℕ → ℕ → Type 0
  Comes h p = ((c : Part) × (is_chunk_part c ≡ false) × Has (state_of at image kept) c (device_block_of at h p)) ⊎ ((c : Part) → Has (state_of at image kept) c (device_block_of at h p) → ⊥)

  reserve_here : (p : ℕ) → InOwned p (kept'.reserve g) → Comes g p
  unfolding Comes From tail group_of
  reserve_here p i =
      elim (came p (times_in p (total (shares_of (state_of at image' kept') g ks extra)) (share_in (shares_of (state_of at image' kept') g ks extra) (ReserveOf g) p (share_tail g (λ k. blocks_of (((state_of at image' kept').group g).tree k).reading) ks (tail (state_of at image' kept') extra) (ReserveOf g) p (inr (inl (refl, owned_list p (kept'.reserve g) i))))))) [
        | inl z ↦ inl (z.0, z.2, z.3)
        | inr none ↦ inr none
      ]

  reserve_came : (h p : ℕ) → h < at.agcount → InOwned p (kept'.reserve h) → Comes h p
  unfolding Comes group_of
  reserve_came h p lt i =
      elim (cases_Bool (h == g)) [
        | inl same ↦ let s : h ≡ g = eqb-true h g same in subst (λ x. Comes x p) (sym s) (reserve_here p (subst (λ x. InOwned p (kept'.reserve x)) s i))
        | inr other ↦ inl (ReserveOf h, refl, record { inside = lt; block = p; holds = subst (InOwned p) (e.keeps.reserve h other) i; place = refl })
      ]

  frame : Frame at image image' kept kept' (touched_in g ks chunk) edits
  unfolding Comes
  frame = record {
    fates = fates;
    alien = λ d. elim (e.blocks.writes d) [ inl same ↦ inl same | inr w ↦ inr w.1 ];
    kept_stays = record { trust = e.keeps.trust; bad = e.keeps.bad; reserve = e.keeps.reserve; limbo = e.keeps.limbo; came = reserve_came };
    slots = e.inodes.slots;
    edited = e.inodes.edited;
    roots = roots_stay;
    lists = λ h lt off. ap (λ (x : Heads). x.list) (other_heads h lt off);
  }

  rest : Rest at (state_of at image kept) (state_of at image' kept') image image' kept kept' (touched_in g ks chunk) edits
  rest = frame_law_lem at image image' kept kept' (touched_in g ks chunk) edits splits firm frame

  reads : (h : ℕ) (k : Kind) → h < at.agcount → touched_in g ks chunk (TreeOf h k) ≡ true → kept'.bad h k ≡ None → is_ok (walked at image' h k) ≡ true
  reads h k lt on none =
      let x = and_parts (h == g) (is_among k ks) on in
      subst (λ x. is_ok (walked at image' x k) ≡ true) (sym (eqb-true h g x.0)) (rw (e.after k (to_among k ks x.1)) refl)

  lies_in : (h u : ℕ) → has_unit at h u ≡ true → h < at.agcount
  unfolding has_unit
  lies_in h u on = ltb-true h at.agcount (and_parts (nat_lt h at.agcount) (nat_lt (8 * u + 7) (group_len_of at h)) on).0

  listed : is_among Ino ks ≡ false → is_among Rmap ks ≡ false → (h u : ℕ) → is_listed (state_of at image' kept') h u ≡ is_listed (state_of at image kept) h u
  unfolding is_listed ino_lists rmap_lists
  listed ni nr h u =
      elim (cases_Bool (has_unit at h u)) [
        | inl on ↦
            let i = rest.trees h Ino (lies_in h u on) (and_right (h == g) (is_among Ino ks) ni) in
            let r = rest.trees h Rmap (lies_in h u on) (and_right (h == g) (is_among Rmap ks) nr) in
            (λ z. has_unit at h u && (list_any (λ x. x.startino == 64 * u) (recs_of (i z).reading) || all_below 8 (λ j. list_any (λ x. (x.owner == 0xffff_ffff_ffff_fff9) && nat_le x.start (8 * u + j) && nat_lt (8 * u + j) (x.start + x.count)) (recs_of (r z).reading))))
        | inr off ↦ rw off refl
      ]

  chunk_listed : (h u : ℕ) → is_chunk (state_of at image kept) h u ≡ true → is_listed (state_of at image kept) h u ≡ true
  unfolding is_chunk
  chunk_listed h u c = (and_parts (is_listed (state_of at image kept) h u) (unit_verifies at (core_of_ino at image kept) h u) c).0

  plain_units : is_among Ino ks ≡ false → is_among Rmap ks ≡ false → ((d : ℕ) → chunk d ≡ false) → (h u : ℕ) → UnitStays (state_of at image kept) (state_of at image' kept') (touched_in g ks chunk) h u
  plain_units ni nr none h u =
      record {
        before = λ l. sym (listed ni nr h u) ∙ l;
        after = λ c. listed ni nr h u ∙ chunk_listed h u c;
        known = λ j jl unit on. absurd (false≢true (sym (none (device_block_of at h (8 * u + j))) ∙ on));
      }

  came_from : (p : ℕ) → In p (total (shares_of (state_of at image' kept') g ks extra)) → ((c : Part) × (pooled_in g ks made c ≡ true) × Has (state_of at image kept) c (device_block_of at g p)) ⊎ ((c : Part) → Has (state_of at image kept) c (device_block_of at g p) → ⊥)
  unfolding From
  came_from p i = elim (came p i) [ inl z ↦ inl (z.0, z.1, z.3) | inr none ↦ inr none ]

  module _ (units : (h u : ℕ) → fresh h u ≡ false → UnitStays (state_of at image kept) (state_of at image' kept') (touched_in g ks chunk) h u) (fresh_chunks : (h u : ℕ) → fresh h u ≡ true → is_chunk (state_of at image' kept') h u ≡ true) where
    before : (c : Part) → Plain at (touched_in g ks chunk) edits fresh c → (d : ℕ) → Has (state_of at image' kept') c d → Has (state_of at image kept) c d
    before c plain d has = claim_before at image image' kept kept' (touched_in g ks chunk) edits rest fresh units c plain d has

    outside : (c : Part) → pooled_in g ks made c ≡ false → (d : ℕ) → Has (state_of at image' kept') c d → Has (state_of at image kept) c d
    unfolding pooled_in
    outside (HeadsOf h) off d has = before (HeadsOf h) tt d has
    outside LogPart off d has = has
    outside (ListOf h) off d has = before (ListOf h) off d has
    outside (TreeOf h k) off d has = before (TreeOf h k) off d has
    outside (ReserveOf h) off d has = before (ReserveOf h) off d has
    outside (LimboOf h) off d has = before (LimboOf h) off d has
    outside (ChunkAt x) off d has = before (ChunkAt x) (λ h u j on jl z. false≢true (sym off ∙ ap made (sym z) ∙ e.inodes.fresh_made h u j on jl)) d has
    outside (ForkTreeOf i f) off d has =
        elim (cases_Bool (edits i)) [
          | inl on ↦ e.inodes.own_forks i f d on has
          | inr other ↦ before (ForkTreeOf i f) (other, refl, e.inodes.fresh_inodes i other) d has
        ]

    firm_now : Firm at image' kept'
    unfolding Claims From
    firm_now =
        firm_again at image image' kept kept' (touched_in g ks chunk) edits splits firm frame fresh units g (pooled_in g ks made) (shares_of (state_of at image' kept') g ks extra) (record { outside = outside; now = claims_now; once = e.blocks.once; bare = λ h u on l raw. fresh_chunks h u on; came = came_from; reads = reads })

  done : GroupDone at image image' kept kept' g ks chunk edits fresh made extra
  done = record {
    rest = rest;
    other_groups = λ h lt other. group_ext (group_of at image' kept' h) (group_of at image kept h) (rest.lists h lt other) (rest.counters h lt other) (λ k. rest.trees h k lt (and_left (h == g) (is_among k ks) other)) (rest.reserves h other) (rest.limbos h other);
    units = plain_units;
    firm = firm_now;
  }

pub group_law_lem : GroupLaw
group_law_lem at image image' kept kept' g ks chunk edits fresh made extra splits firm e = done at image image' kept kept' g ks chunk edits fresh made extra splits firm e
