-- A chunk's record that can stand in its tree.
use Rattle.std.proofs.Common.{◌≡◌, ℕ, true, subst}
use Rattle.core_edit.specs.One.{Fits}
use Rattle.fs_model.specs.declared.record.AnyRec.TheVariants as recs
use Rattle.fs_state.specs.Kinds.{form_of}
use Rattle.geom.specs.Layout.{Layout}
use Rattle.ino_recs.specs.Chunks.{fino_form, ino_form}
use Rattle.ino_recs.specs.declared.chunk.InoRec.{InoRec}
use Rattle.list_edit.specs.declared.edits.Edit.TheVariants.{Insert}
use Rattle.tree_defs.specs.Sites.{site_of}
use Rattle.tree_defs.specs.declared.site.Site.{Site}

pub ino_fits : (at : Layout) (g : ℕ) (s : Site) (r : InoRec) → s ≡ site_of at g → ino_form.is_in_range s.bounds r ≡ true → ino_form.is_supported r ≡ true → Fits at g Insert (recs.Ino r)
unfolding form_of
ino_fits at g s r is range form = ((λ _. (subst (λ (x : Site). ino_form.is_in_range x.bounds r ≡ true) is range, form)), tt)

pub fino_fits : (at : Layout) (g : ℕ) (s : Site) (r : InoRec) → s ≡ site_of at g → fino_form.is_in_range s.bounds r ≡ true → fino_form.is_supported r ≡ true → Fits at g Insert (recs.Fino r)
unfolding form_of
fino_fits at g s r is range form = ((λ _. (subst (λ (x : Site). fino_form.is_in_range x.bounds r ≡ true) is range, form)), tt)
