use Rattle.test_changes.proofs.Computing.{computing}
use Rattle.std.specs.Prelude.{ℕ, length, List, [], ◌∷◌}
use Rattle.std.proofs.Common.{arith, subst, refl, ◌≡◌, ◌<◌}
use Rattle.std.proofs.lemmas.Bool.{true≢false}
use Rattle.fs_model.specs.declared.entry.Entry.{Entry}
use Rattle.fs_model.specs.declared.entry.Entry.TheVariants as entries
use Rattle.fs_model.specs.declared.entry.Extent.{Extent}
use Rattle.fs_model.specs.declared.fault.Cause.TheVariants.{Short}
use Rattle.sblock.specs.declared.kind.Kind.TheVariants.{Bno}
use Rattle.fs_change.specs.Edited.{group_of_entry, met_by}
use Rattle.fs_change.specs.Marks.{Explains, IsWanted, IsWantedBehind, most_alone, trimmed_each, whole_tree}
use Rattle.test_states.specs.Images.{image_a}
use Rattle.test_changes.proofs.rows.not_to_be_marked.Goals as goal

no_less : 1 < 1 → ⊥
no_less h = omega arith

no_longer : 64 < 12 → ⊥
no_longer h = omega arith

-- of the entries that put in more records, a trimming, none is wanted of a list of 12 blocks
not_trimmed : (e : Extent) → e.group ≡ 0 → 64 < length (image_a.group e.group).free_list → ⊥
unfolding computing
not_trimmed e g long = no_longer (subst (λ (h : ℕ). 64 < length (image_a.group h).free_list) g long)

three_put : (e : Entry) → group_of_entry image_a e ≡ 0 → IsWanted image_a e → most_alone image_a e ≡ 3
unfolding computing
three_put (entries.Trimmed e) g w = absurd (not_trimmed e g w.0)
three_put e g w = refl

none_needed : (g most : ℕ) → g ≡ 0 → most ≡ 3 → 1 < whole_tree (image_a.group g) Bno most → ⊥
unfolding computing
none_needed g most e f h =
    no_less (subst (λ (n : ℕ). 1 < whole_tree (image_a.group 0) Bno n) f (subst (λ (x : ℕ). 1 < whole_tree (image_a.group x) Bno most) e h))

-- so none behind others either
too_short : (before : List Extent) (e : Entry) → group_of_entry image_a e ≡ 0 → IsWantedBehind image_a before e
    → Explains (trimmed_each before image_a) e Bno (met_by (trimmed_each before image_a) e Bno) (most_alone image_a e) (Short 0 1) → ⊥
too_short [] e g w h = none_needed (group_of_entry image_a e) (most_alone image_a e) g (three_put e g w) h.1
too_short (r ∷ rs) (entries.Trimmed e) g w h = not_trimmed e g w.0
too_short (r ∷ rs) e g w h = w

pub returns : goal.returns
unfolding computing
returns c = (
  λ l. true≢false l.0,
  λ l. too_short l.before l.entry l.group l.wanted l.explains,
)
