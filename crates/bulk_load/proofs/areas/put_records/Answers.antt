use Rattle.std.proofs.Common.{◌≡◌, true, arith, sym, ◌∙◌}
use Rattle.bulk_load.proofs.AreaLemmas.{records_more, record_taken, one_more_put, all_put}
use Rattle.sblock.specs.Kinds.{leaf_most_of}
use Rattle.bulk_load.proofs.areas.put_records.Goals as goal

pub loop-i-preserved : goal.loop-i-preserved
loop-i-preserved g c = record {
  whole = omega (arith, c.put_record.auto.area, c.loop-i.invariant.whole);
  within = omega (arith, c.loop-i-test.true);
  has = λ written.
      records_more (g.K.RecKind.form.record_at c.loop-i.area) (g.K.RecKind.form.record_at c.put_record.new.area) c.args.recs.now c.loop-i.i (leaf_most_of g.K.RecKind.form.kind) c.index-recs-i.result c.loop-i-test.true (omega (arith, c.loop-i-test.true, c.requires.room))
      c.put_record.ensures.others (c.put_record.ensures.taken (record_taken (λ r. g.K.RecKind.form.is_written r ≡ true) c.args.recs.now c.loop-i.i c.index-recs-i.result written c.loop-i-test.true c.index-recs-i.is)) c.index-recs-i.is (c.loop-i.invariant.has written);
  exact = one_more_put g.K.RecKind.form c.args.recs.now c.loop-i.i c.index-recs-i.result c.loop-i.area c.put_record.new.area c.loop-i-test.true c.index-recs-i.is c.put_record.ensures.written ∙ c.loop-i.invariant.exact;
}

pub returns-clause-exact : goal.returns-clause-exact
returns-clause-exact g c = sym (all_put g.K.RecKind.form c.args.recs.now c.loop-i.i c.loop-i.area (omega arith)) ∙ c.loop-i.invariant.exact
