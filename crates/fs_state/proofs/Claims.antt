-- A claim of a part that isn't touched was there before; and blocks that move leave all claims apart.
use Rattle.std.proofs.Common.{◌≡◌, ℕ, ◌<◌, Bool, true, false, Option, Some, None, Result, Ok, Err, refl, ap, sym, subst, ◌∙◌, inl, inr}
use Rattle.std.specs.Prelude.{◌⊎◌, ◌/◌}
use Rattle.std.proofs.lemmas.Bool.{false≢true, cases_Bool}
use Rattle.geom.specs.Layout.{Layout, split_of}
use Rattle.dinode_core.specs.declared.mapping.Fork.{Fork}
use Rattle.dinode_core.specs.declared.mapping.ForkFault.{ForkFault}
use Rattle.fs_state.specs.Apart.{Part, HeadsOf, LogPart, ListOf, TreeOf, ReserveOf, LimboOf, ChunkAt, ForkTreeOf, InData, InMapped, Has, Apart, In, InOwned, InGroup, InFork, is_chunk, is_inode, in_chunk}
use Rattle.fs_state.specs.Frame.{Rest, SameFork, UnitStays, Plain, fresh_at}
use Rattle.fs_state.specs.Read.{state_of}
use Rattle.fs_state.specs.Kinds.{Image, RecOf}
use Rattle.fs_state.specs.State.{Kept, State, ForkList, Index, blocks_of}

-- a fork's blocks now are those before
pub fork_before : (r now : Result ForkList ForkFault) (at : Layout) (d : ℕ) → SameFork r now → InFork at now d → InFork at r d
fork_before (Ok list) now at d same h = rw same at h
fork_before (Err e) (Ok list) at d same h = absurd (false≢true (sym same))
fork_before (Err e) (Err f) at d same h = h

data_before : (r now : Result ForkList ForkFault) (at : Layout) (d : ℕ) → SameFork r now → InData at now d → InData at r d
data_before (Ok list) now at d same h = rw same at h
data_before (Err e) (Ok list) at d same h = absurd (false≢true (sym same))
data_before (Err e) (Err f) at d same h = h

in_chunk_same : (a b : State) (fresh : ℕ → ℕ → Bool) (o : Option (ℕ × ℕ)) → ((g u : ℕ) → fresh g u ≡ false → is_chunk b g u ≡ is_chunk a g u) → fresh_at fresh o ≡ false → in_chunk b o ≡ in_chunk a o
in_chunk_same a b fresh None h off = refl
in_chunk_same a b fresh (Some p) h off = h p.0 (p.1 / 8) off

pub never_fresh : (o : Option (ℕ × ℕ)) → fresh_at (λ g u. false) o ≡ false
never_fresh None = refl
never_fresh (Some p) = refl

module _ (at : Layout) (image image' : Image) (kept kept' : Kept) (touches : Part → Bool) (edits : ℕ → Bool) (rest : Rest at (state_of at image kept) (state_of at image' kept') image image' kept kept' touches edits) (fresh : ℕ → ℕ → Bool) (units : (g u : ℕ) → fresh g u ≡ false → UnitStays (state_of at image kept) (state_of at image' kept') touches g u) where
  pub inode_stays : (ino : ℕ) → fresh_at fresh (split_of at (ino / 8)) ≡ false → is_inode (state_of at image' kept') ino ≡ is_inode (state_of at image kept) ino
  unfolding is_inode
  inode_stays ino old = in_chunk_same (state_of at image kept) (state_of at image' kept') fresh (split_of at (ino / 8)) (λ g u off. rest.chunks g u (units g u off)) old

  in_group : (g d : ℕ) (H K : ℕ → Type 0) → ((p : ℕ) → g < at.agcount → H p → K p) → InGroup (state_of at image' kept') g H d → InGroup (state_of at image kept) g K d
  in_group g d H K step has = record { inside = has.inside; block = has.block; holds = step has.block has.inside has.holds; place = has.place }

  pub claim_before : (c : Part) → Plain at touches edits fresh c → (d : ℕ) → Has (state_of at image' kept') c d → Has (state_of at image kept) c d
  claim_before (HeadsOf g) off d has = in_group g d (λ p. p ≡ 0) (λ p. p ≡ 0) (λ p lt h. h) has
  claim_before LogPart off d has = has
  claim_before (ListOf g) off d has =
      in_group g d (λ p. In p ((state_of at image' kept').group g).free_list) (λ p. In p ((state_of at image kept).group g).free_list) (λ p lt h. subst (λ l. In p l) (rest.lists g lt off) h) has
  claim_before (TreeOf g k) off d has =
      in_group g d (λ p. In p (blocks_of (((state_of at image' kept').group g).tree k).reading)) (λ p. In p (blocks_of (((state_of at image kept).group g).tree k).reading)) (λ p lt h. subst (λ (t : Index (RecOf k)). In p (blocks_of t.reading)) (rest.trees g k lt off) h) has
  claim_before (ReserveOf g) off d has =
      in_group g d (λ p. InOwned p ((state_of at image' kept').group g).reserve) (λ p. InOwned p ((state_of at image kept).group g).reserve) (λ p lt h. subst (InOwned p) (rest.reserves g off) h) has
  claim_before (LimboOf g) off d has =
      in_group g d (λ p. InOwned p ((state_of at image' kept').group g).limbo) (λ p. InOwned p ((state_of at image kept).group g).limbo) (λ p lt h. subst (InOwned p) (rest.limbos g off) h) has
  claim_before (ChunkAt e) plain d has =
      let old : fresh has.group has.unit ≡ false = elim (cases_Bool (fresh has.group has.unit)) [ inl on ↦ absurd (plain has.group has.unit has.nth on has.one_of (has.place ∙ sym has.same)) | inr off ↦ off ] in
      record { same = has.same; group = has.group; unit = has.unit; nth = has.nth; one_of = has.one_of; chunk = sym (rest.chunks has.group has.unit (units has.group has.unit old)) ∙ has.chunk; place = has.place }
  claim_before (ForkTreeOf ino f) plain d has =
      let h : is_inode (state_of at image kept) ino ≡ true = sym (inode_stays ino plain.2) ∙ has.inode in
      record { inode = h; block = fork_before ((state_of at image kept).fork ino f) ((state_of at image' kept').fork ino f) at d (rest.forks ino f h has.inode plain.0 plain.1) has.block }

  pub mapped_before : (ino : ℕ) (f : Fork) → edits ino ≡ false → touches (ForkTreeOf ino f) ≡ false → fresh_at fresh (split_of at (ino / 8)) ≡ false → (d : ℕ) → InMapped (state_of at image' kept') ino f d → InMapped (state_of at image kept) ino f d
  mapped_before ino f kept_as off old d has =
      let h : is_inode (state_of at image kept) ino ≡ true = sym (inode_stays ino old) ∙ has.inode in
      record { inode = h; block = data_before ((state_of at image kept).fork ino f) ((state_of at image' kept').fork ino f) at d (rest.forks ino f h has.inode kept_as off) has.block }

-- Claims stay apart where blocks move among some parts only, and to those from no part.
pub apart_again : (a b : State) (pooled : Part → Bool) → Apart a → ((c : Part) → pooled c ≡ false → (d : ℕ) → Has b c d → Has a c d) → ((c : Part) → pooled c ≡ true → (d : ℕ) → Has b c d → ((e : Part) × (pooled e ≡ true) × Has a e d) ⊎ ((e : Part) → Has a e d → ⊥)) → ((c e : Part) → pooled c ≡ true → pooled e ≡ true → (d : ℕ) → Has b c d → Has b e d → c ≡ e) → Apart b
apart_again a b pooled apart outside inside within c e d hc he =
    elim (cases_Bool (pooled c)) [
      | inl pc ↦ elim (cases_Bool (pooled e)) [
        | inl pe ↦ within c e pc pe d hc he
        | inr qe ↦ absurd (mixed c e pc qe hc he)
      ]
      | inr qc ↦ elim (cases_Bool (pooled e)) [
        | inl pe ↦ absurd (mixed e c pe qc he hc)
        | inr qe ↦ apart c e d (outside c qc d hc) (outside e qe d he)
      ]
    ]
  where
    mixed : (x y : Part) → pooled x ≡ true → pooled y ≡ false → Has b x d → Has b y d → ⊥
    mixed x y px qy hx hy =
        elim (inside x px d hx) [
          | inl z ↦ false≢true (sym qy ∙ ap pooled (apart y z.0 d (outside y qy d hy) z.2) ∙ z.1)
          | inr none ↦ none y (outside y qy d hy)
        ]
