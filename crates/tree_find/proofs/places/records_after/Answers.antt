use Rattle.std.proofs.Common.{◌≡◌, ◌≤◌, true, sym}
use Rattle.sblock.specs.Area.{area_of}
use Rattle.sblock.specs.Blocks.{numrecs, records_of}
use Rattle.tree_find.specs.Next.{place_above, records_above}
use Rattle.tree_find.proofs.AboveLemmas.{above_from, take_one}
use Rattle.tree_find.proofs.places.records_after.Goals as goal

pub loop-i-init : goal.loop-i-init
loop-i-init g c =
    let form = g.K.RecKind.form in
    let placed : c.place_after-i.result ≡ place_above form c.args.after.now true (area_of c.args.block.now.bytes) (numrecs c.args.block.now.bytes) = rw (c.data_area-area.ensures.shows, c.count_of-n.ensures) at c.place_after-i.ensures.place in
    let within : c.place_after-i.result ≤ numrecs c.args.block.now.bytes = rw (c.count_of-n.ensures) at c.place_after-i.ensures.within in
    record {
      whole = rw (c.new-recs.ensures.items, c.data_area-area.ensures.shows, c.count_of-n.ensures) (sym (above_from form g.met.K.RecKind.lawful c.args.block.now.bytes c.requires.rising c.args.after.now c.place_after-i.result placed within));
      room = rw (c.count_of-n.ensures) c.requires.room;
    }

pub loop-i-preserved : goal.loop-i-preserved
loop-i-preserved g c =
    let form = g.K.RecKind.form in
    record {
      whole = take_one (form.record_at c.data_area-area.result.now) c.loop-i.recs.items c.push.new.self.items (records_above form c.args.after.now (records_of form c.args.block.now.bytes)) c.record_at.result c.count_of-n.result c.loop-i.i c.loop-i.invariant.whole c.loop-i-test.true c.record_at.ensures c.in_ok-push.ensures.items;
      room = c.loop-i.invariant.room;
    }
