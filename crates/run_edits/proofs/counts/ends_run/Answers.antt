use Rattle.std.proofs.Common.{get_or, refl}
use Rattle.rmap_recs.specs.declared.records.RmapRec.{RmapRec}
use Rattle.rmap_recs.proofs.RisingLemmas.{at_place}
use Rattle.run_edits.proofs.CountLemmas.{last_by, not_last}
use Rattle.run_edits.proofs.counts.ends_run.Goals as goal

-- what a place past the end reads as
abbrev none : RmapRec
none = record { start = 0; count = 0; owner = 0; word = 0 }

pub returns-in-Some : goal.returns-in-Some
returns-in-Some c =
    let found = c.in-Some.ensures.found in
    not_last c.args.pieces.now c.args.piece.now (get_or c.args.pieces.now c.in-Some.field-0 none) (at_place c.args.pieces.now c.in-Some.field-0 none found.0) (found.1 none)

pub returns-in-None : goal.returns-in-None
returns-in-None c = last_by c.args.pieces.now c.args.piece.now (c.in-None.ensures.none refl)
