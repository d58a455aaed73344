use Rattle.std.proofs.Common.{◌∙◌, ℕ, List, ap, length, sym}
use Rattle.byte_fields.specs.Fields.{with_field}
use Rattle.byte_fields.specs.Zeros.{zeros}
use Rattle.redo_area.specs.Table.{places, put_numbers, table_bytes}
use Rattle.redo_area.proofs.TableLemmas.{length_places}
use Rattle.redo_area.proofs.table.table_block.Goals as goal

pub returns : goal.returns
unfolding table_bytes
returns c =
    let ns = places c.args.batch.now in
    let sized = c.put_u64.ensures ∙ ap (λ (x : List ℕ). with_field 8 x 0 c.args.size) c.zeroed-block.ensures in
    let counted = c.put_u32.ensures ∙ ap (λ (x : List ℕ). with_field 4 x 8 (length c.args.batch.now)) sized ∙ ap (λ (n : ℕ). with_field 4 (with_field 8 zeros 0 c.args.size) 8 n) (sym (length_places c.args.batch.now)) in
    c.write_numbers.ensures ∙ ap (put_numbers ns 16) counted
