-- What holds at opening, and that a pool has each block once.
use Rattle.std.proofs.Common.{◌≡◌, ℕ, ◌≤◌, false, List, [], ◌∷◌, Option, Some, None, Ok, Err, is_ok, true, refl, ap, subst, ◌∙◌, inl, inr, arith}
use Rattle.std.specs.Prelude.{◌/◌}
use Rattle.std.proofs.lemmas.Bool.{cases_lt, and_from}
use Rattle.geom.specs.Layout.{Layout, device_block_of, split_of}
use Rattle.sblock.specs.declared.kind.Kind.{Kind}
use Rattle.tree_defs.specs.Sites.{site_of, group_blocks}
use Rattle.sblock.specs.Headers.{no_block}
use Rattle.tree_defs.proofs.Trees.{reads_trees_lem}
use Rattle.tree_defs.specs.Lists.{times}
use Rattle.tree_defs.proofs.Rows.{blocks_differ_lem}
use Rattle.fs_state.specs.Apart.{Part, Has, Apart, In, is_chunk, is_listed, unit_verifies}
use Rattle.fs_state.specs.Frame.{Firm, OpeningLaw}
use Rattle.fs_state.specs.Inodes.{bytes_at}
use Rattle.fs_state.specs.Kinds.{RecOf, form_of, Image, heads_of, root_of, level_of}
use Rattle.fs_state.specs.Pool.{Share, total, ShareOf}
use Rattle.fs_state.specs.Read.{Read, state_of, KeepsBad, walked, claimed, bad_in, opened, core_or, reserved, core_of_ino, raw_of}
use Rattle.fs_state.specs.State.{State, Kept, Bad, CoreState}
use Rattle.fs_state.proofs.Pools.{times_append, times_in, share_from}
use Rattle.fs_state.proofs.Trees.{lawful_of}

-- ---- opening

bare_or : (at : Layout) (image : Image) (kept : Kept) (ino : ℕ) (place : Option (ℕ × ℕ)) → ((g : ℕ) → kept.reserve g ≡ []) → core_or at ino (reserved kept place) (bytes_at at image ino place) ≡ core_or at ino false (bytes_at at image ino place)
bare_or at image kept ino None none = refl
bare_or at image kept ino (Some p) none = rw (none p.0) refl

core_is_raw : (at : Layout) (image : Image) (kept : Kept) → ((g : ℕ) → kept.reserve g ≡ []) → (ino : ℕ) → core_of_ino at image kept ino ≡ raw_of at image ino
unfolding core_of_ino raw_of
core_is_raw at image kept none ino = bare_or at image kept ino (split_of at (ino / 8)) none

pub opening_firm : (at : Layout) (image : Image) (kept : Kept) → ((g : ℕ) → kept.reserve g ≡ []) → KeepsBad at image kept → Apart (state_of at image kept) → Firm at image kept
unfolding is_chunk
opening_firm at image kept none keeps apart = record {
  keeps = keeps;
  apart = apart;
  bare = λ g u listed raw. and_from (is_listed (state_of at image kept) g u) (unit_verifies at (core_of_ino at image kept) g u) listed (ap (λ (c : ℕ → Option CoreState). unit_verifies at c g u) (λ i ino. core_is_raw at image kept none ino i) ∙ raw);
}

read_again : {R : Type 0} (read : Read R) (claims : List ℕ) → bad_in read claims ≡ None → is_ok read ≡ true
read_again (Ok read) claims none = refl
read_again (Err fault) claims none = absurd (some_none none)
  where
    some_none : {x : Bad} → ◌≡◌ {A = Option Bad} (Some x) None → ⊥
    some_none e = cc

pub opening : OpeningLaw
unfolding opened
opening at image apart =
    opening_firm at image (opened at image) (λ g. refl) (λ g k lt none. read_again (walked at image g k) (claimed at image g k) none) apart

-- ---- pools

-- each share has each of its blocks once, and its part has them
abbrev pub Sharing : State → ℕ → List Share → Type 0
Sharing a g [] = Unit {0}
Sharing a g (s ∷ ss) = ((p : ℕ) → times p s.1 ≤ 1) × ((p : ℕ) → In p s.1 → Has a s.0 (device_block_of a.geometry g p)) × ((c : Part) (p : ℕ) → ShareOf ss c p → s.0 ≡ c → ⊥) × Sharing a g ss

has_share : (a : State) (g : ℕ) (ss : List Share) → Sharing a g ss → (c : Part) (p : ℕ) → ShareOf ss c p → Has a c (device_block_of a.geometry g p)
has_share a g [] h c p i = absurd i
has_share a g (s ∷ ss) h c p (inl i) = subst (λ e. Has a e (device_block_of a.geometry g p)) i.0 (h.1 p i.1)
has_share a g (s ∷ ss) h c p (inr i) = has_share a g ss h.3 c p i

pub pool_once : (a : State) → Apart a → (g : ℕ) (ss : List Share) → Sharing a g ss → (p : ℕ) → times p (total ss) ≤ 1
pool_once a apart g [] h p = omega arith
pool_once a apart g (s ∷ ss) h p =
    let t = times_append p s.1 (total ss) in
    let one = h.0 p in
    let rest = pool_once a apart g ss h.3 p in
    elim (cases_lt (times p s.1) 1) [
      | inl none ↦ omega (arith, t, none, rest)
      | inr some ↦ elim (cases_lt (times p (total ss)) 1) [
        | inl none ↦ omega (arith, t, none, one)
        | inr more ↦
            let f = share_from ss p (times_in p (total ss) more) in
            absurd (h.2 f.0 p f.1 (apart s.0 f.0 (device_block_of a.geometry g p) (h.1 p (times_in p s.1 some)) (has_share a g ss h.3 f.0 p f.1)))
      ]
    ]

-- a readable tree has each of its blocks once
pub tree_once : (at : Layout) (image : Image) (g : ℕ) (k : Kind) (x : List (RecOf k) × List ℕ) → (site_of at g).bounds.length ≤ no_block → walked at image g k ≡ Ok x → (p : ℕ) → times p x.1 ≤ 1
unfolding walked
tree_once at image g k x short read p =
    let root = root_of (heads_of at image g) k in
    let level = level_of (heads_of at image g) k in
    let m = group_blocks (site_of at g) image in
    (blocks_differ_lem (form_of k) (site_of at g) m root level x.0 x.1 short ((reads_trees_lem (form_of k) (lawful_of k) (site_of at g) m root level x.0 x.1).0 read)).0 p
