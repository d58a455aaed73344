-- When a block that was made passes its tests.
use Rattle.std.proofs.Common.{◌≡◌, ℕ, ◌+◌, ◌*◌, ◌≤◌, Bool, true, List, refl, sym, ap, subst, ◌∙◌, arith}
use Rattle.std.specs.Prelude.{◌==◌, ◌&&◌, nat_le}
use Rattle.std.proofs.lemmas.Bool.Decides.{nat_tests}
use Rattle.byte_fields.specs.Fields.{field, has_uuid}
use Rattle.byte_fields.proofs.TestLemmas.{none_fails}
use Rattle.block_head.specs.Head.{IsHeaded}
use Rattle.sblock.specs.Blocks.{numrecs, level_fits, block_tests, block_fault}
use Rattle.sblock.specs.Form.{Form}
use Rattle.sblock.specs.Headers.{left_of}
use Rattle.sblock.specs.declared.block.Frame.{Frame}
use Rattle.sblock.specs.declared.block.Header.{Header}
use Rattle.tree_defs.specs.Levels.{IsRight}
use Rattle.tree_defs.specs.Tree.{want_of}
use Rattle.tree_defs.specs.declared.site.Site.{Site}
use Rattle.place_laws.specs.Passes.{IsFrameOf, IsFilled, HeadedPass}

is_same : (a b : ℕ) → a ≡ b → (a == b) ≡ true
is_same a b h = grind (arith, nat_tests)

low_level : (wanted level : ℕ) → wanted ≤ 8 → level ≡ wanted → level_fits wanted level ≡ true
unfolding level_fits
low_level wanted level low is = grind (arith, nat_tests)

pub headed_pass_lem : {R K : Type 0} (form : Form R K) → HeadedPass form
unfolding block_fault
headed_pass_lem form site m root p header frame low of head filled =
    none_fails (block_tests form (m p) (want_of form.kind site header.level root (left_of (m p)) p)) (
      is_same _ _ head.magic,
      (
        low_level header.level _ low head.level,
        (
          filled.fits,
          (
            is_same (left_of (m p)) (left_of (m p)) refl,
            (
              is_same _ (8 * (site.first + p)) (head.place ∙ ap (λ (f : ℕ). 8 * (f + p)) of.first),
              (
                is_same _ site.group (head.owner ∙ of.group),
                (
                  subst (λ (u : List ℕ). has_uuid (m p) 32 u ≡ true) of.uuid head.uuid,
                  (
                    head.sum,
                    (
                      filled.rises,
                      (
                        filled.inside,
                        (filled.supported, tt),
                      ),
                    ),
                  ),
                ),
              ),
            ),
          ),
        ),
      ),
    )
