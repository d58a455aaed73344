-- One piece, where it lies in a group.
use Rattle.std.proofs.Common.{◌≡◌, ℕ, ◌+◌, ◌^◌, ◌≤◌, true, List, [], Option, Some, None, ap, sym, ◌∙◌, arith}
use Rattle.std.specs.Prelude.{nat_le, not, ◌&&◌, ◌==◌}
use Rattle.std.proofs.lemmas.Bool.{and_parts, leb-true}
use Rattle.dinode_core.specs.Inline.{ends_in_group, in_range, is_attr}
use Rattle.dinode_core.specs.declared.mapping.Fork.{Fork}
use Rattle.dinode_core.specs.declared.mapping.Mapping.{Mapping}
use Rattle.fs_state.specs.Lists.{only_if}
use Rattle.geom.specs.Layout.{Layout, split_of}
use Rattle.unit_plan.specs.declared.claims.ClaimSet.{ClaimSet}
use Rattle.unit_plan.specs.declared.piece.Piece.{Piece}
use Rattle.fork_pass.specs.Pieces.{piece_where}
use Rattle.fork_pass.specs.Sets.{Adds}
use Rattle.fork_pass.proofs.SetLemmas.{adds_none, adds_same}

pub offset_low : (at : Layout) (f : Fork) (m : Mapping) → in_range at f m ≡ true → m.offset ≤ 2 ^ 54
unfolding in_range
offset_low at f m h =
    let three = (and_parts (nat_le 1 m.count && ends_in_group at (split_of at m.block) m.count && nat_le (m.offset + m.count) (2 ^ 54)) (not (m.unwritten && is_attr f)) h).0 in
    let low = leb-true (m.offset + m.count) (2 ^ 54) (and_parts (nat_le 1 m.count && ends_in_group at (split_of at m.block) m.count) (nat_le (m.offset + m.count) (2 ^ 54)) three).1 in
    omega (arith, low)

pub none_put : (sets : List ClaimSet) (piece : ℕ → Piece) (o : Option (ℕ × ℕ)) → o ≡ None → Adds sets sets (λ g. piece_where g piece o)
none_put sets piece o is = adds_same sets sets (λ g. []) (λ g. piece_where g piece o) (λ g. sym (ap (λ (x : Option (ℕ × ℕ)). piece_where g piece x) is)) (adds_none sets)

pub one_put : (old new : List ClaimSet) (piece : ℕ → Piece) (o : Option (ℕ × ℕ)) (p : ℕ × ℕ) (own : Piece) → o ≡ Some p → own ≡ piece p.1 → Adds old new (λ h. only_if (p.0 == h) own) → Adds old new (λ g. piece_where g piece o)
one_put old new piece o p own is same adds =
    adds_same old new (λ h. only_if (p.0 == h) own) (λ g. piece_where g piece o) (λ g. ap (λ (x : Piece). only_if (p.0 == g) x) same ∙ sym (ap (λ (x : Option (ℕ × ℕ)). piece_where g piece x) is)) adds
