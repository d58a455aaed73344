use Rattle.std.proofs.Common.{◌≡◌, ap, ◌∙◌, rules}
use Rattle.ag_headers.specs.Agi.{agi_form, agi_in, agi_table, agi_written}
use Rattle.ag_headers.specs.Fields.{with_table, with_numbers, stamped}
use Rattle.ag_headers.proofs.AgiLemmas.{Fits, agi_again, agi_accepted}
use Rattle.ag_headers.proofs.agi.put_agi.Goals as goal

pub returns : goal.returns
unfolding agi_written
returns c =
    let agi = c.args.agi.now in
    let fits : Fits agi = record { sixteen = search rules; table = c.put_table.ensures.fits; lists = c.put_numbers.ensures.len; inodes = c.put_numbers.ensures.fits; lsn = c.put_stamp.ensures.fits } in
    let lists : c.put_numbers.new.bytes ≡ with_numbers 64 (with_table (agi_table agi) c.args.sector.now) 40 agi.unlinked = c.put_numbers.ensures.bytes ∙ ap (λ b. with_numbers 64 b 40 agi.unlinked) c.put_table.ensures.bytes in
    let is : c.put_stamp.new.sector ≡ agi_written agi c.args.sector.now = c.put_stamp.ensures.bytes ∙ ap (stamped agi_form agi.uuid agi.lsn) lists in
    record {
      bytes = is;
      again = ap agi_in is ∙ agi_again agi c.args.sector.now c.requires fits;
      accepted = agi_accepted agi c.args.sector.now c.put_stamp.new.sector is c.requires fits c.put_stamp.ensures.summed;
    }
