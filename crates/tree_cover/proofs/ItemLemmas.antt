-- Records and entries counted off one by one.
use Rattle.std.proofs.Common.{◌≡◌, ℕ, suc, ◌+◌, ◌-◌, ◌<◌, ◌≤◌, true, false, [], ◌∷◌, Option, Some, None, refl, arith}
use Rattle.run_sets.specs.declared.run.Run.{Run}
use Rattle.sblock.specs.Form.{Form}
use Rattle.sblock.specs.Lists.{items_from}
use Rattle.tree_defs.specs.Tree.{Entry}
use Rattle.tree_cover.specs.Covers.{is_first_met, first_met}
use Rattle.tree_cover.specs.Covering.{may_hold, first_in, choice_in}

pub no_more_items : {A : Type 0} (item : ℕ → A) (n i : ℕ) → n ≤ i → items_from item (n - i) i ≡ []
no_more_items item n i h = let e : n - i ≡ 0 = omega arith in rw e refl

pub more_items : {A : Type 0} (item : ℕ → A) (n i : ℕ) → i < n → items_from item (n - i) i ≡ item i ∷ items_from item (n - (i + 1)) (i + 1)
more_items item n i h = let e : n - i ≡ suc (n - (i + 1)) = omega arith in rw e refl

module _ {R K : Type 0} (form : Form R K) (run : Run) (after : Option K) (item : ℕ → R) (n i : ℕ) where
  pub met_here : i < n → is_first_met form run after (item i) (items_from item (n - (i + 1)) (i + 1)) ≡ true → first_met form run after (items_from item (n - i) i) ≡ Some (item i)
  unfolding first_met
  met_here lt h = rw (more_items item n i lt) (rw h refl)

  pub met_later : i < n → is_first_met form run after (item i) (items_from item (n - (i + 1)) (i + 1)) ≡ false → first_met form run after (items_from item (n - i) i) ≡ first_met form run after (items_from item (n - (i + 1)) (i + 1))
  unfolding first_met
  met_later lt h = rw (more_items item n i lt) (rw h refl)

  pub met_nowhere : n ≤ i → first_met form run after (items_from item (n - i) i) ≡ None
  unfolding first_met
  met_nowhere le = rw (no_more_items item n i le) refl

module _ {R K : Type 0} (form : Form R K) (run : Run) (after : Option K) (item : ℕ → Entry K) (n i : ℕ) where
  pub first_here : i < n → may_hold form run after (item i) (items_from item (n - (i + 1)) (i + 1)) ≡ true → first_in form run after (items_from item (n - i) i) ≡ Some (item i).child
  unfolding first_in
  first_here lt h = rw (more_items item n i lt) (rw h refl)

  pub first_later : i < n → may_hold form run after (item i) (items_from item (n - (i + 1)) (i + 1)) ≡ false → first_in form run after (items_from item (n - i) i) ≡ first_in form run after (items_from item (n - (i + 1)) (i + 1))
  unfolding first_in
  first_later lt h = rw (more_items item n i lt) (rw h refl)

  pub first_nowhere : n ≤ i → first_in form run after (items_from item (n - i) i) ≡ None
  unfolding first_in
  first_nowhere le = rw (no_more_items item n i le) refl

  pub choice_here : i < n → may_hold form run after (item i) (items_from item (n - (i + 1)) (i + 1)) ≡ true → choice_in form run after (items_from item (n - i) i) ≡ Some (record { first = (item i).child; next = first_in form run after (items_from item (n - (i + 1)) (i + 1)) })
  unfolding choice_in
  choice_here lt h = rw (more_items item n i lt) (rw h refl)

  pub choice_later : i < n → may_hold form run after (item i) (items_from item (n - (i + 1)) (i + 1)) ≡ false → choice_in form run after (items_from item (n - i) i) ≡ choice_in form run after (items_from item (n - (i + 1)) (i + 1))
  unfolding choice_in
  choice_later lt h = rw (more_items item n i lt) (rw h refl)

  pub choice_nowhere : n ≤ i → choice_in form run after (items_from item (n - i) i) ≡ None
  unfolding choice_in
  choice_nowhere le = rw (no_more_items item n i le) refl
