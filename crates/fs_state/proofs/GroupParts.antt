-- A group is its parts, and a block with an owner stands in the list of blocks.
use Rattle.std.proofs.Common.{◌≡◌, ℕ, List, [], ◌∷◌, inl, inr}
use Rattle.sblock.specs.declared.kind.Kind.{Kind}
use Rattle.fs_state.specs.Apart.{In, InOwned}
use Rattle.fs_state.specs.State.{Group, Owned, blocks_in}

pub group_ext : (x y : Group) → x.free_list ≡ y.free_list → x.counters ≡ y.counters → ((k : Kind) → x.tree k ≡ y.tree k) → x.reserve ≡ y.reserve → x.limbo ≡ y.limbo → x ≡ y
group_ext x y l c t r m = λ i. record { free_list = l i; counters = c i; tree = λ k. t k i; reserve = r i; limbo = m i }

pub owned_list : (p : ℕ) (os : List Owned) → InOwned p os → In p (blocks_in os)
owned_list p [] h = absurd h
owned_list p (o ∷ os) (inl h) = inl h
owned_list p (o ∷ os) (inr h) = inr (owned_list p os h)
