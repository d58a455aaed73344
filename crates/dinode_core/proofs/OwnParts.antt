-- A fork is read alike by two cores that have its own parts in common.
use Rattle.std.proofs.Common.{◌≡◌, ℕ, zero, suc, ◌-◌, Bool, true, false, List, [], ◌∷◌, Option, Some, None, Result, refl, ap, sym, ◌∙◌}
use Rattle.std.specs.Prelude.{nat_lt, nat_le, ◌&&◌, ◌+◌, ◌*◌, ◌/◌, ◌==◌, length, if◌then◌else◌}
use Rattle.byte_fields.specs.FirstFailing.{first_failing}
use Rattle.dinode_core.specs.declared.mapping.ForkFault.TheVariants as faults
use Rattle.geom.specs.Layout.{Layout, split_of}
use Rattle.dinode_core.specs.declared.inode.Core3.{Core3}
use Rattle.dinode_core.specs.declared.mapping.Fork.{Fork}
use Rattle.dinode_core.specs.declared.mapping.ForkFault.{ForkFault}
use Rattle.dinode_core.specs.declared.shape.Format.{Format}
use Rattle.dinode_core.specs.declared.shape.Format.TheVariants.{Dev, Local, Extents, Btree}
use Rattle.dinode_core.specs.Inline.{root_keys, key_room, is_extents, mappings_in, first_bad, or_else, root_level, form_fault, has_form, has_room, mappings_fit, keys_fit, inline_mappings}
use Rattle.dinode_core.specs.Shape.{area_of, size_of, count_of, is_absent, format_of}
use Rattle.dinode_core.specs.ForkTree.{entries, node_entries, passed, start, has_tree, met_in, block_fault, Image, Trail, Entry, Last, is_right, sound_at, block_at, walk_each, walk_in, walk_block, walk_tree, met_of, is_tree, walk_fault, fork_fault}
use Rattle.dinode_core.specs.Frame.{OwnParts, fork_in, list_or}

room_by : Option Format → ℕ → ℕ → List ℕ → Bool
room_by None count size area = true
room_by (Some Dev) count size area = true
room_by (Some Local) count size area = true
room_by (Some Extents) count size area = nat_le count (size / 16)
room_by (Some Btree) count size area = nat_le (root_keys area) (key_room size)

room_is : (x : Option Format) (core : Core3) (f : Fork) → has_room x core f ≡ room_by x (count_of core f) (size_of core f) (area_of core f)
unfolding mappings_fit keys_fit room_by
room_is None core f = refl
room_is (Some Dev) core f = refl
room_is (Some Local) core f = refl
room_is (Some Extents) core f = refl
room_is (Some Btree) core f = refl

form_by : Bool → ℕ → Option Format → List ℕ → ℕ → ℕ → Option ForkFault
form_by absent forkoff format area count size =
    if absent then None else first_failing ((nat_lt forkoff 42 && has_form format area, faults.Format) ∷ (room_by format count size area, faults.Count) ∷ [])

form_is : (core : Core3) (f : Fork) → form_fault core f ≡ form_by (is_absent core f) core.forkoff (format_of core f) (area_of core f) (count_of core f) (size_of core f)
unfolding form_fault form_by
form_is core f =
    ap (λ b. if is_absent core f then None else first_failing ((nat_lt core.forkoff 42 && has_form (format_of core f) (area_of core f), faults.Format) ∷ (b, faults.Count) ∷ [])) (room_is (format_of core f) core f)

module _ (at : Layout) (m : Image) (f : Fork) (a b : Core3) (own : OwnParts f a b) where
  sound_same : (level : ℕ) (last : Option Last) (e : Entry) (place : Option (ℕ × ℕ)) → sound_at at m b level last e place ≡ sound_at at m a level last e place
  unfolding is_right
  sound_same level last e None = refl
  sound_same level last e (Some p) = rw (own.ino) refl

  each_same : (x y : Trail → Entry → Result Trail Trail) → ((t : Trail) (e : Entry) → y t e ≡ x t e) → (es : List Entry) (t : Trail) → walk_each y es t ≡ walk_each x es t
  each_same x y h es t = ap (λ (w : Trail → Entry → Result Trail Trail). walk_each w es t) (λ i u e. h u e i)

  block_same : (level : ℕ) (t : Trail) (e : Entry) → walk_block at m b level t e ≡ walk_block at m a level t e
  unfolding walk_block block_at
  block_same zero t e = rw (sound_same zero (t.last zero) e (split_of at e.block)) refl
  block_same (suc level) t e =
      rw (sound_same (suc level) (t.last (suc level)) e (split_of at e.block)) (λ i. walk_in (sound_at at m a (suc level) (t.last (suc level)) e (split_of at e.block)) t (λ bytes. walk_each (λ u x. block_same level u x i) (node_entries bytes) (passed (suc level) e bytes t)))

  tree_same : walk_tree at m b f ≡ walk_tree at m a f
  unfolding walk_tree
  tree_same =
      λ i. walk_each (λ u x. block_same_at (root_level (own.area i) - 1) u x i) (entries (root_keys (own.area i)) 4 (4 + 8 * key_room (own.size i)) (own.area i)) start
    where
      block_same_at : (level : ℕ) (t : Trail) (e : Entry) → walk_block at m b level t e ≡ walk_block at m a level t e
      block_same_at level t e = block_same level t e

  is_tree_same : is_tree b f ≡ is_tree a f
  unfolding is_tree
  is_tree_same = λ i. if own.absent i then false else has_tree (own.format i)

  form_same : form_fault b f ≡ form_fault a f
  form_same = form_is b f ∙ (λ i. form_by (own.absent i) (own.forkoff i) (own.format i) (own.area i) (own.count i) (own.size i)) ∙ sym (form_is a f)

  inline_same : inline_mappings b f ≡ inline_mappings a f
  unfolding inline_mappings
  inline_same = λ i. if own.absent i then [] else (if is_extents (own.format i) then mappings_in (own.count i) (own.area i) else [])

  met_same : met_of at m b f ≡ met_of at m a f
  unfolding met_of
  met_same =
      λ i. if is_tree_same i then met_in (root_level (own.area i)) (tree_same i) else record { mappings = inline_same i; blocks = []; whole = true }

  pub own_parts : fork_in at m b f ≡ fork_in at m a f
  unfolding fork_in fork_fault walk_fault
  own_parts =
      λ i. list_or (or_else (or_else (form_same i) (or_else (first_bad at f (met_same i).mappings) (block_fault (met_same i).whole))) (if (if is_tree_same i then length (met_same i).mappings == own.count i else true) then None else Some faults.Count)) (record { mappings = (met_same i).mappings; blocks = (met_same i).blocks })
