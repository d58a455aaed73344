use Rattle.std.proofs.Common.{◌≡◌, ℕ, List, ap, ◌∙◌, rules}
use Rattle.ag_headers.specs.Agfl.{agfl_form, agfl_table, agfl_written}
use Rattle.ag_headers.specs.Fields.{with_table, with_numbers, stamped}
use Rattle.ag_headers.specs.Ring.{FreeRing}
use Rattle.ag_headers.proofs.ListLemmas.{Fits, ring_again, own_accepted}
use Rattle.ag_headers.proofs.agfl.put_agfl.Goals as goal

pub returns : goal.returns
unfolding agfl_written
returns c =
    let ring = c.args.list.now in
    let inside = c.list.inside in
    let numbers : inside.numbers ≡ ring.numbers = ap (λ (r : FreeRing). r.numbers) c.list.view_is in
    let uuid : inside.uuid ≡ ring.uuid = ap (λ (r : FreeRing). r.uuid) c.list.view_is in
    let lsn : inside.lsn ≡ ring.lsn = ap (λ (r : FreeRing). r.lsn) c.list.view_is in
    let fits : Fits ring = record {
      sixteen = rw (← uuid) (search rules);
      table = c.put_own.ensures.fits;
      places = rw (← numbers) c.put_numbers.ensures.len;
      blocks = rw (← numbers) c.put_numbers.ensures.fits;
      lsn = rw (← lsn) c.put_stamp.ensures.fits;
    } in
    let row : c.put_numbers.new.bytes ≡ with_numbers 119 (with_table (agfl_table ring) c.args.sector.now) 36 ring.numbers =
    c.put_numbers.ensures.bytes ∙ (ap (λ (b : List ℕ). with_numbers 119 b 36 inside.numbers) c.put_own.ensures.bytes ∙ ap (with_numbers 119 (with_table (agfl_table ring) c.args.sector.now) 36) numbers) in
    let is : c.put_stamp.new.sector ≡ agfl_written ring c.args.sector.now =
    c.put_stamp.ensures.bytes ∙ (ap (stamped agfl_form inside.uuid inside.lsn) row
    ∙ (ap (λ (u : List ℕ). stamped agfl_form u inside.lsn (with_numbers 119 (with_table (agfl_table ring) c.args.sector.now) 36 ring.numbers)) uuid
    ∙ ap (λ (n : ℕ). stamped agfl_form ring.uuid n (with_numbers 119 (with_table (agfl_table ring) c.args.sector.now) 36 ring.numbers)) lsn)) in
    record {
      bytes = is;
      again = ring_again ring c.args.sector.now c.put_stamp.new.sector is c.requires fits;
      accepted = own_accepted ring c.args.sector.now c.put_stamp.new.sector is c.requires fits c.put_stamp.ensures.summed;
      ring = search rules;
    }
