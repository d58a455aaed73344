-- What a walk keeps of its levels, and of the blocks that it has read.
use Rattle.std.proofs.Common.{◌≡◌, ℕ, ◌<◌, ◌++◌, List, [], ◌∷◌, length, Option, Some, ap, inl, inr}
use Rattle.std.specs.Prelude.{◌==◌, if◌then◌else◌, slice_set}
use Rattle.std.proofs.lemmas.List.{get_or-set_same, get_or-set_other}
use Rattle.std.proofs.lemmas.Bool.Decides.{eqb_tells}
use Rattle.byte_fields.specs.Fields.{field}
use Rattle.dinode_core.specs.declared.mapping.Mapping.{Mapping}
use Rattle.dinode_core.specs.ForkTree.{Trail, TreeBlock, Last}
use Rattle.fork_read.specs.declared.seen.LastRead.{LastRead}
use Rattle.fork_read.specs.Walk.{is_resumed, last_in, last_or, passed_from, unread}

pub last_set : (lasts : List LastRead) (level l : ℕ) (r : LastRead) → level < length lasts → last_in (slice_set lasts level r) l ≡ (if l == level then last_or r else last_in lasts l)
last_set lasts level l r fits =
    elim (eqb_tells l level) as (λ _. last_in (slice_set lasts level r) l ≡ (if l == level then last_or r else last_in lasts l)) [
      | inl same ↦ rw same.0 (rw same.1 (ap last_or (get_or-set_same lasts level r unread fits)))
      | inr other ↦ rw other.0 (ap last_or (get_or-set_other lasts level l r unread other.1))
    ]

pub noted : (from level key block right : ℕ) (bytes : List ℕ) (before after : ℕ → Option Last) (old new : List Mapping) (met given : List TreeBlock) → right ≡ field 8 bytes 16 → new ≡ old → given ≡ (if is_resumed from (before level) key then met else met ++ record { block = block; before = length old } ∷ []) → ((l : ℕ) → after l ≡ (if l == level then Some (record { block = block; right = right }) else before l)) → ◌≡◌ {A = Trail} (record { mappings = new; blocks = given; last = after }) (passed_from from level (record { key = key; block = block }) bytes (record { mappings = old; blocks = met; last = before }))
unfolding passed_from
noted from level key block right bytes before after old new met given r m g l =
    let lasts : (n : ℕ) → after n ≡ (if n == level then Some (record { block = block; right = field 8 bytes 16 }) else before n) = λ n. rw (← r) (l n) in
    λ i. record { mappings = m i; blocks = g i; last = λ n. lasts n i }
