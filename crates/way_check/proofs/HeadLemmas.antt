-- The header of a block that passes by itself.
use Rattle.std.proofs.Common.{◌≡◌, ℕ, ◌+◌, ◌*◌, ◌≤◌, Bool, true, List, None, refl, sym, ap, subst, ◌∙◌}
use Rattle.std.specs.Prelude.{◌==◌}
use Rattle.std.proofs.lemmas.Bool.{eqb-true}
use Rattle.byte_fields.specs.Fields.{field}
use Rattle.byte_fields.proofs.TestLemmas.{all_pass}
use Rattle.block_head.specs.Head.{IsHeaded}
use Rattle.sblock.specs.Blocks.{numrecs, block_tests, block_fault}
use Rattle.sblock.specs.Form.{Form}
use Rattle.sblock.specs.Headers.{left_of, right_of}
use Rattle.sblock.specs.declared.block.Header.{Header}
use Rattle.sblock.proofs.BlockLemmas.{has_level}
use Rattle.tree_defs.specs.Claims.{lone_fault}
use Rattle.tree_defs.specs.Tree.{want_of}
use Rattle.tree_defs.specs.declared.site.Site.{Site}
use Rattle.way_check.specs.Checks.{frame_of}

abbrev pub header_in : ℕ → List ℕ → Header
header_in level bytes = record { level = level; numrecs = numrecs bytes; left = left_of bytes; right = right_of bytes; lsn = field 8 bytes 24 }

pub headed_of : {R K : Type 0} (form : Form R K) (site : Site) (level : ℕ) (root : Bool) (p : ℕ) (bytes : List ℕ) → lone_fault form site level root p bytes ≡ None → IsHeaded form.kind (header_in level bytes) (frame_of site) p bytes
unfolding lone_fault block_fault
headed_of form site level root p bytes h =
    let all = all_pass (block_tests form bytes (want_of form.kind site level root (left_of bytes) p)) h in
    let place = all.1.1.1.1 in
    record {
      magic = eqb-true _ _ all.0;
      level = (has_level form bytes (want_of form.kind site level root (left_of bytes) p) h).0;
      count = refl;
      left = refl;
      right = refl;
      place = eqb-true _ _ place.0;
      lsn = refl;
      uuid = place.1.1.0;
      owner = eqb-true _ _ place.1.0;
      sum = place.1.1.1.0;
    }
