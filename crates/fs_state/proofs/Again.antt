-- What always holds holds again, where blocks move among some parts of one group only.
use Rattle.std.proofs.Common.{◌≡◌, ℕ, ◌<◌, ◌≤◌, Bool, true, false, List, Option, Some, None, Ok, Err, is_ok, refl, ap, sym, subst, ◌∙◌, inl, inr, arith}
use Rattle.std.specs.Prelude.{◌⊎◌}
use Rattle.std.proofs.lemmas.Bool.{false≢true, cases_Bool}
use Rattle.geom.specs.Apart.{Splits}
use Rattle.geom.specs.Layout.{Layout, device_block_of}
use Rattle.sblock.specs.declared.kind.Kind.{Kind}
use Rattle.tree_defs.specs.Lists.{times}
use Rattle.fs_state.specs.Apart.{is_chunk, is_listed, unit_verifies, Part, TreeOf, Has, In}
use Rattle.fs_state.specs.Frame.{Frame, Rest, Firm, UnitStays}
use Rattle.fs_state.specs.Kinds.{RecOf, Image}
use Rattle.fs_state.specs.Pool.{Share, total, ShareOf}
use Rattle.fs_state.specs.Read.{raw_of, state_of, walked, claimed, known, Read, reading_of, group_of}
use Rattle.fs_state.specs.State.{Kept, Bad, Index}
use Rattle.fs_state.proofs.Claims.{apart_again}
use Rattle.fs_state.proofs.Frames.{frame_law_lem}
use Rattle.fs_state.proofs.Pools.{share_in, one_share, times_in}

known_ok : {R : Type 0} (bad bad' : Option Bad) (read read' : Read R) (cs cs' : List ℕ) → bad' ≡ bad → bad ≡ None → is_ok read ≡ true → known bad' read' cs' ≡ known bad read cs → is_ok read' ≡ true
known_ok (Some b) bad' read read' cs cs' e none ok same = cc
known_ok None (Some b) read read' cs cs' e none ok same = cc
known_ok None None read (Ok x) cs cs' e none ok same = refl
known_ok None None (Ok y) (Err f) cs cs' e none ok same = cc
known_ok None None (Err y) (Err f) cs cs' e none ok same = absurd (false≢true ok)

module _ (at : Layout) (image image' : Image) (kept kept' : Kept) (touches : Part → Bool) (edits : ℕ → Bool) (splits : Splits at) (firm : Firm at image kept) (frame : Frame at image image' kept kept' touches edits) (fresh : ℕ → ℕ → Bool) (units : (g u : ℕ) → fresh g u ≡ false → UnitStays (state_of at image kept) (state_of at image' kept') touches g u) where
  pub rest : Rest at (state_of at image kept) (state_of at image' kept') image image' kept kept' touches edits
  rest = frame_law_lem at image image' kept kept' touches edits splits firm frame

  readings : (h : ℕ) (k : Kind) → h < at.agcount → touches (TreeOf h k) ≡ false → reading_of at image' kept' h k ≡ reading_of at image kept h k
  unfolding group_of
  readings h k lt off = ap (λ (t : Index (RecOf k)). t.reading) (rest.trees h k lt off)

  keeps_other : (h : ℕ) (k : Kind) → h < at.agcount → kept'.bad h k ≡ None → touches (TreeOf h k) ≡ false → is_ok (walked at image' h k) ≡ true
  unfolding reading_of
  keeps_other h k lt none off =
      let before : kept.bad h k ≡ None = sym (frame.kept_stays.bad h k off) ∙ none in
      known_ok (kept.bad h k) (kept'.bad h k) (walked at image h k) (walked at image' h k) (claimed at image h k) (claimed at image' h k) (frame.kept_stays.bad h k off) before (firm.keeps h k lt before) (readings h k lt off)

  -- of the parts among which blocks move: each claim now is of a share, no block is in two shares, and each
  -- was of such a part or of none
  pub record Moves (g : ℕ) (pooled : Part → Bool) (shares : List Share) : Type 0 where
    pub outside : (c : Part) → pooled c ≡ false → (d : ℕ) → Has (state_of at image' kept') c d → Has (state_of at image kept) c d
    pub now : (c : Part) → pooled c ≡ true → (d : ℕ) → Has (state_of at image' kept') c d → (p : ℕ) × ShareOf shares c p × (device_block_of at g p ≡ d)
    pub once : (p : ℕ) → times p (total shares) ≤ 1
    pub came : (p : ℕ) → In p (total shares) → ((e : Part) × (pooled e ≡ true) × Has (state_of at image kept) e (device_block_of at g p)) ⊎ ((e : Part) → Has (state_of at image kept) e (device_block_of at g p) → ⊥)
    pub bare : (h u : ℕ) → fresh h u ≡ true → is_listed (state_of at image' kept') h u ≡ true → unit_verifies at (raw_of at image') h u ≡ true → is_chunk (state_of at image' kept') h u ≡ true
    pub reads : (h : ℕ) (k : Kind) → h < at.agcount → touches (TreeOf h k) ≡ true → kept'.bad h k ≡ None → is_ok (walked at image' h k) ≡ true

  module _ (g : ℕ) (pooled : Part → Bool) (shares : List Share) (moves : Moves g pooled shares) where
    inside : (c : Part) → pooled c ≡ true → (d : ℕ) → Has (state_of at image' kept') c d → ((e : Part) × (pooled e ≡ true) × Has (state_of at image kept) e d) ⊎ ((e : Part) → Has (state_of at image kept) e d → ⊥)
    inside c on d has =
        let x = moves.now c on d has in
        subst (λ y. ((e : Part) × (pooled e ≡ true) × Has (state_of at image kept) e y) ⊎ ((e : Part) → Has (state_of at image kept) e y → ⊥)) x.2 (moves.came x.0 (times_in x.0 (total shares) (share_in shares c x.0 x.1)))

    within : (c e : Part) → pooled c ≡ true → pooled e ≡ true → (d : ℕ) → Has (state_of at image' kept') c d → Has (state_of at image' kept') e d → c ≡ e
    within c e onc one d hc he =
        let x = moves.now c onc d hc in
        let y = moves.now e one d he in
        let z = x.2 in
        let w = y.2 in
        let same : y.0 ≡ x.0 = omega (arith, z, w) in
        one_share shares x.0 (moves.once x.0) c e x.1 (subst (ShareOf shares e) same y.1)

    pub firm_again : Firm at image' kept'
    firm_again = record {
      keeps = λ h k lt none. elim (cases_Bool (touches (TreeOf h k))) [ inl on ↦ moves.reads h k lt on none | inr off ↦ keeps_other h k lt none off ];
      apart = apart_again (state_of at image kept) (state_of at image' kept') pooled firm.apart moves.outside inside within;
      bare = λ h u l raw. elim (cases_Bool (fresh h u)) [ inl on ↦ moves.bare h u on l raw | inr off ↦ rest.bare h u (units h u off) l raw ];
    }
