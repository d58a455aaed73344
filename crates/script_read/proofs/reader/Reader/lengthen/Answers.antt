use Rattle.std.proofs.Common.{arith}
use Rattle.std.proofs.lemmas.List.{take_more_set}
use Rattle.script_read.specs.Reading.{sheet_of}
use Rattle.script_read.proofs.WrongLemmas.{too_long, added, not_past, taken_size}
use Rattle.script_read.proofs.reader.Reader.lengthen.Goals as goal

pub returns-then-self-ge-LONGEST_LINE-clause-exact : goal.returns-then-self-ge-LONGEST_LINE-clause-exact
returns-then-self-ge-LONGEST_LINE-clause-exact c =
    let r = c.args.self.now in
    let s = sheet_of r in
    (too_long c.args.byte s (taken_size r.text r.length 86 (omega (arith, c.if-self-ge-LONGEST_LINE.true)) (omega (arith, c.requires.inside.size))) c.requires.other (not_past s c.requires.bytes c.requires.number), c.requires.inside.first, c.requires.inside.number)

pub returns-clause-exact : goal.returns-clause-exact
returns-clause-exact c =
    let r = c.args.self.now in
    let s = sheet_of r in
    added c.args.byte s _ c.requires.other (not_past s c.requires.bytes c.requires.number) (take_more_set r.text r.length c.args.byte (omega (arith, c.requires.inside.size, c.requires.inside.length)))
