use Rattle.std.proofs.Common.{arith}
use Rattle.derive_defs.specs.Mappings.{blocks_of}
use Rattle.rmap_recs.specs.declared.records.RmapRec.{RmapRec}
use Rattle.unit_plan.proofs.SpanLemmas.{past_begun, past_later}
use Rattle.unit_plan.proofs.spare.past_mapping.Goals as goal

-- what a place past the end reads as
abbrev none : RmapRec
none = record { start = 0; count = 0; owner = 0; word = 0 }

pub returns-then-from-at-clause-end : goal.returns-then-from-at-clause-end
returns-then-from-at-clause-end c = past_later blocks_of c.args.mappings.now c.args.at.mapping c.args.at.from none c.if-at-mappings.false (let e = c.from.ensures in let t = c.if-from-at.true in omega (arith, e, t))

pub returns-clause-end : goal.returns-clause-end
returns-clause-end c = past_begun blocks_of c.args.mappings.now c.args.at.mapping c.args.at.from c.max.result none c.if-at-mappings.false (let e = c.from.ensures in let t = c.if-from-at.false in omega (arith, e, t))
    (let m = c.max.ensures in let e = c.end_of.ensures in omega (arith, m, e))
