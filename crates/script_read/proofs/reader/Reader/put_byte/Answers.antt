use Rattle.std.proofs.Common.{arith}
use Rattle.script_defs.specs.Operations.{said_of}
use Rattle.script_defs.specs.Texts.{with_said}
use Rattle.script_read.specs.Reading.{sheet_of}
use Rattle.script_read.proofs.StepLemmas.{put_feed, steps_put}
use Rattle.script_read.proofs.WrongLemmas.{not_past, past, past_lines, is_past_wrong}
use Rattle.script_read.proofs.reader.Reader.put_byte.Goals as goal

pub returns-then-self-ge-MOST_BYTES-clause-exact : goal.returns-then-self-ge-MOST_BYTES-clause-exact
returns-then-self-ge-MOST_BYTES-clause-exact c =
    let s = sheet_of c.args.self.now in
    (is_past_wrong c.args.byte s (past s (omega (arith, c.if-self-ge-MOST_BYTES.true))), c.requires.inside.first, c.requires.inside.number)

pub returns-then-self-gt-MOST_LINES-clause-exact : goal.returns-then-self-gt-MOST_LINES-clause-exact
returns-then-self-gt-MOST_LINES-clause-exact c =
    let s = sheet_of c.args.self.now in
    (is_past_wrong c.args.byte s (past_lines s (omega (arith, c.if-self-gt-MOST_LINES.true))), c.requires.inside.first, c.requires.inside.number)

pub returns-clause-exact : goal.returns-clause-exact
returns-clause-exact c =
    let s = sheet_of c.args.self.now in
    let within = not_past s (omega (arith, c.if-self-ge-MOST_BYTES.false)) (omega (arith, c.if-self-gt-MOST_LINES.false)) in
    steps_put c.end_line.result c.args.byte s (sheet_of c.end_line.new.self) (with_said s (said_of s.text)) (put_feed c.args.byte s (omega (arith, c.if-byte-ne10.false)) within) c.end_line.ensures.exact c.requires.inside.first c.requires.inside.number
