use Rattle.std.proofs.Common.{◌∙◌, take, arith}
use Rattle.script_read.specs.Reading.{sheet_of}
use Rattle.script_read.proofs.ReadLemmas.{begun, by_wrong, ended, spent_on, took, was_put}
use Rattle.script_read.proofs.ShapeLemmas.{answers_rightly, blank_reads, goes_on}
use Rattle.script_read.proofs.read.read_script.Goals as goal

pub returns-in-Err-clause-exact : goal.returns-in-Err-clause-exact
returns-in-Err-clause-exact g c =
    by_wrong c.in-Err.fault (take c.loop-n.n c.loop-n.piece) (sheet_of c.loop-n.reader) (sheet_of c.put.new.self) (g.S.Source.bytes_left c.args.src.now) (g.S.Source.bytes_left c.loop-n.src) c.in-Err.ensures.exact c.loop-n.invariant.read

pub loop-n-init : goal.loop-n-init
loop-n-init g c =
    let old = g.S.Source.bytes_left c.args.src.now in
    let new = g.S.Source.bytes_left c.take_piece.new.src in
    let s = sheet_of c.new-reader.result in
    let n = c.in_ok-n.n in
    let piece = c.take_piece.new.piece in
    record {
      inside = c.new-reader.ensures.inside;
      size = c.in_ok-n.ensures.size;
      bound = omega (arith, c.in_ok-n.ensures.bound, c.room.ensures.piece);
      room = omega (arith, c.in_ok-n.ensures.bound, c.room.ensures.most, c.taken.ensures);
      read = took (take n piece) s old old new (begun old s c.new-reader.ensures.blank) c.in_ok-n.ensures.bytes;
      shape = blank_reads s c.new-reader.ensures.blank;
      end = λ e. spent_on piece n old new e c.in_ok-n.ensures.bytes (c.in_ok-n.ensures.end e);
      faults = c.in_ok-n.ensures.cause;
    }

pub loop-n-preserved : goal.loop-n-preserved
loop-n-preserved g c =
    let old = g.S.Source.bytes_left c.args.src.now in
    let mid = g.S.Source.bytes_left c.loop-n.src in
    let new = g.S.Source.bytes_left c.take_piece-in-loop-n.new.src in
    let n = c.in_ok-n-2.n in
    let piece = c.take_piece-in-loop-n.new.piece in
    let now = sheet_of c.put.new.self in
    let put = was_put (take c.loop-n.n c.loop-n.piece) (sheet_of c.loop-n.reader) now old mid c.loop-n.invariant.read c.in_default.ensures.exact c.in_default.ensures.counted in
    record {
      inside = c.in_default.ensures.inside;
      size = c.in_ok-n-2.ensures.size;
      bound = omega (arith, c.in_ok-n-2.ensures.bound, c.room-in-loop-n.ensures.piece);
      room = omega (arith, c.in_ok-n-2.ensures.bound, c.room-in-loop-n.ensures.most, c.taken-in-loop-n.ensures);
      read = took (take n piece) now old mid new put c.in_ok-n-2.ensures.bytes;
      shape = goes_on (take c.loop-n.n c.loop-n.piece) (sheet_of c.loop-n.reader) now c.loop-n.invariant.shape c.in_default.ensures.exact;
      end = λ e. spent_on piece n mid new e c.in_ok-n-2.ensures.bytes (c.in_ok-n-2.ensures.end e);
      faults = c.in_ok-n-2.ensures.cause ∙ c.loop-n.invariant.faults;
    }

pub returns-clause-exact : goal.returns-clause-exact
returns-clause-exact g c =
    ended c.finish.result c.loop-n.piece c.loop-n.n (sheet_of c.loop-n.reader) (g.S.Source.bytes_left c.args.src.now) (g.S.Source.bytes_left c.loop-n.src) c.loop-n.invariant.read (omega (arith, c.loop-n-test.false)) (c.loop-n.invariant.end (omega (arith, c.loop-n-test.false))) c.finish.ensures.exact

pub returns-clause-shape : goal.returns-clause-shape
returns-clause-shape g c =
    answers_rightly c.finish.result (sheet_of c.loop-n.reader) c.loop-n.invariant.shape c.finish.ensures.exact
