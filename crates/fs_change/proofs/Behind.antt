-- Groups behind the last one: no block of theirs is written, so that they read as before.
use Rattle.std.proofs.Common.{◌≡◌, ℕ, ◌+◌, ◌*◌, ◌≤◌, ◌<◌, ◌==◌, Bool, false, List, Ok, Err, sym, subst, ap, ap₂, refl, ◌∙◌, arith, inl, inr}
use Rattle.std.proofs.Math.Nat.{mul-le-mul_right}
use Rattle.std.proofs.lemmas.Bool.{and_left, cases_lt, cases_Bool, eqb-true}
use Rattle.geom.specs.Layout.{Layout, device_block_of}
use Rattle.sblock.specs.declared.kind.Kind.{Kind}
use Rattle.tree_defs.specs.Claims.{claims_of}
use Rattle.tree_defs.specs.Sites.{site_of, group_blocks}
use Rattle.tree_defs.specs.Tree.{read_tree}
use Rattle.fs_state.specs.Group.{GroupEvent, GroupDone, is_among}
use Rattle.fs_state.specs.Kinds.{Image, Heads, form_of, heads_in, heads_of, root_of, level_of}
use Rattle.fs_state.specs.Pool.{Share}
use Rattle.fs_state.specs.Read.{Read, state_of, opened, group_of, reading_of, walked, claimed, known, bad_in, trust_in, counter_in}
use Rattle.fs_state.specs.State.{Kept}
use Rattle.fs_change.specs.Behind.{AreAlikeBehind, KeepsBehind, GroupsBehind}
use Rattle.fs_change.specs.Forget.{GroupForgets, found_in, fresh_trust}
use Rattle.fs_change.proofs.Compose.{same_reading}

-- a block of such a group lies there
lies_behind : (at : Layout) (h p : ℕ) → at.agcount ≤ h → at.agcount * at.agblocks ≤ device_block_of at h p
lies_behind at h p le = omega (arith, mul-le-mul_right at.agblocks le)

module _ (at : Layout) (image image' : Image) (alike : AreAlikeBehind at image image') (h : ℕ) (le : at.agcount ≤ h) where
  blocks_same : group_blocks (site_of at h) image' ≡ group_blocks (site_of at h) image
  unfolding site_of
  blocks_same = λ i p. alike (device_block_of at h 0 + p) (omega (arith, lies_behind at h p le)) i

  heads_same : heads_of at image' h ≡ heads_of at image h
  heads_same = ap heads_in (alike (device_block_of at h 0) (lies_behind at h 0 le))

  walked_same : (k : Kind) → walked at image' h k ≡ walked at image h k
  unfolding walked
  walked_same k = ap₂ (λ (m : ℕ → List ℕ) (x : Heads). read_tree (form_of k) (site_of at h) m (root_of x k) (level_of x k)) blocks_same heads_same

  claimed_same : (k : Kind) → claimed at image' h k ≡ claimed at image h k
  unfolding claimed
  claimed_same k = ap₂ (λ (m : ℕ → List ℕ) (x : Heads). claims_of (form_of k) (site_of at h) m (root_of x k) (level_of x k)) blocks_same heads_same

  module _ (kept kept' : Kept) (keeps : KeepsBehind at kept kept') where
    reading_same : (k : Kind) → reading_of at image' kept' h k ≡ reading_of at image kept h k
    unfolding reading_of
    reading_same k = λ i. known (keeps.bad h k le i) (walked_same k i) (claimed_same k i)

    group_same : group_of at image' kept' h ≡ group_of at image kept h
    unfolding group_of
    group_same = λ i. record {
      free_list = (heads_same i).list;
      counters = counter_in (heads_same i);
      tree = λ k. record { reading = reading_same k i; trust = keeps.trust h k le i };
      reserve = keeps.reserve h le i;
      limbo = keeps.limbo h le i;
    }

stay : (at : Layout) (image image' : Image) (kept kept' : Kept) → AreAlikeBehind at image image' → KeepsBehind at kept kept' → (h : ℕ) → at.agcount ≤ h
    → (state_of at image' kept').group h ≡ (state_of at image kept).group h
stay at image image' kept kept' alike keeps h le = group_same at image image' alike h le kept kept' keeps

-- ---- an event of one group

is_other : (h g : ℕ) → (h ≡ g → ⊥) → (h == g) ≡ false
is_other h g ne = elim (cases_Bool (h == g)) [ inl same ↦ absurd (ne (eqb-true h g same)) | inr other ↦ other ]

behind_is_other : (n h g : ℕ) → g < n → n ≤ h → h ≡ g → ⊥
behind_is_other n h g lt le e = omega (arith, lt, le, e)

module _ (at : Layout) (image image' : Image) (kept kept' : Kept) (g : ℕ) (ks : List Kind) (chunk edits : ℕ → Bool) (fresh : ℕ → ℕ → Bool) (made : ℕ → Bool) (extra : List Share) (e : GroupEvent at image image' kept kept' g ks chunk edits fresh made extra) (d : GroupDone at image image' kept kept' g ks chunk edits fresh made extra) (alike : AreAlikeBehind at image image') where
  beside : (h : ℕ) → at.agcount ≤ h → (h == g) ≡ false
  beside h le = is_other h g (behind_is_other at.agcount h g e.inside le)

  keeps_behind : KeepsBehind at kept kept'
  keeps_behind = record {
    trust = λ h k le. e.keeps.trust h k (and_left (h == g) (is_among k ks) (beside h le));
    bad = λ h k le. e.keeps.bad h k (and_left (h == g) (is_among k ks) (beside h le));
    reserve = λ h le. e.keeps.reserve h (beside h le);
    limbo = λ h le. e.keeps.limbo h (beside h le);
  }

  others : (h : ℕ) → (h ≡ g → ⊥) → (state_of at image' kept').group h ≡ (state_of at image kept).group h
  others h ne = elim (cases_lt h at.agcount) [
    | inl lt ↦ d.other_groups h lt (is_other h g ne)
    | inr le ↦ stay at image image' kept kept' alike keeps_behind h (omega (arith, le))
  ]

-- ---- a new session

trust_is_fresh : {R : Type 0} (read : Read R) (claims : List ℕ) → trust_in read ≡ fresh_trust (known (bad_in read claims) read claims)
trust_is_fresh (Ok read) claims = refl
trust_is_fresh (Err fault) claims = refl

-- of a group as an opening finds it nothing is forgotten
found_again : (at : Layout) (image : Image) (h : ℕ) → GroupForgets ((found_in at image).group h) ((found_in at image).group h)
unfolding group_of opened reading_of
found_again at image h = record {
  list = refl;
  counters = refl;
  trees = λ k. record { reading = same_reading (reading_of at image (opened at image) h k); trust = trust_is_fresh (walked at image h k) (claimed at image h k) };
  reserve = refl;
  limbo = refl;
}

-- what the opening found is what one of this image finds
opened_alike : (at : Layout) (origin image : Image) (kept : Kept) → AreAlikeBehind at origin image → KeepsBehind at (opened at origin) kept → KeepsBehind at kept (opened at image)
unfolding opened
opened_alike at origin image kept alike keeps = record {
  trust = λ h k le. ap trust_in (walked_same at origin image alike h le k) ∙ sym (keeps.trust h k le);
  bad = λ h k le. (λ i. bad_in (walked_same at origin image alike h le k i) (claimed_same at origin image alike h le k i)) ∙ sym (keeps.bad h k le);
  reserve = λ h le. sym (keeps.reserve h le);
  limbo = λ h le. sym (keeps.limbo h le);
}

found : (at : Layout) (origin image : Image) (kept : Kept) → AreAlikeBehind at origin image → KeepsBehind at (opened at origin) kept → (h : ℕ) → at.agcount ≤ h
    → GroupForgets ((state_of at image kept).group h) ((found_in at image).group h)
found at origin image kept alike keeps h le =
    subst (λ p. GroupForgets p ((found_in at image).group h)) (stay at image image kept (opened at image) (λ d b. refl) (opened_alike at origin image kept alike keeps) h le) (found_again at image h)

pub groups_behind : GroupsBehind
groups_behind = record { stay = stay; others = others; found = found }
