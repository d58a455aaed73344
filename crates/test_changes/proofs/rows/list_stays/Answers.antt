use Rattle.test_changes.proofs.Computing.{computing}
use Rattle.std.proofs.Common.{◌≡◌, ℕ, ◌+◌, ◌||◌, true, nat_le, List, [], ◌∷◌, ◌++◌, length, drop, sym, ap, subst}
use Rattle.std.specs.List.{list_all}
use Rattle.std.proofs.lemmas.Bool.{false≢true}
use Rattle.fs_state.specs.State.{Group, Owned}
use Rattle.fs_change.specs.Loose.{count_used, is_limbo_due}
use Rattle.fs_change.specs.Switch.{has_owned, owned_by}
use Rattle.test_states.specs.Images.{inobt}
use Rattle.test_changes.specs.Bounds.{sixty}
use Rattle.test_changes.proofs.rows.list_stays.Goals as goal

none_behind : (xs ys : List ℕ) → xs ≡ xs ++ ys → length ys ≡ 0
none_behind [] ys h = sym (ap length h)
none_behind (x ∷ xs) ys h = none_behind xs ys (ap (drop 1) h)

not_due : (freed : List ℕ) (limbo : List Owned) → length freed ≡ 0 → owned_by inobt 3 ∷ [] ≡ limbo → is_limbo_due sixty freed limbo ≡ true → ⊥
not_due freed limbo n l h =
    false≢true (subst (λ os. (list_all (has_owned sixty.limbo) os || nat_le 119 (length sixty.free_list + 0)) ≡ true) (sym l)
    (subst (λ m. (list_all (has_owned sixty.limbo) limbo || nat_le 119 (length sixty.free_list + m)) ≡ true) n h))

pub returns : goal.returns
unfolding computing count_used
returns c = λ m. not_due m.freed m.limbo (none_behind sixty.free_list m.freed (ap (λ (q : Group). q.free_list) m.is)) (ap (λ (q : Group). q.limbo) m.is) m.limbo_due
