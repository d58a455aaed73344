use Rattle.std.proofs.Common.{arith}
use Rattle.script_read.proofs.CutLemmas.{whole, cut_at}
use Rattle.script_read.proofs.words.first_word.Goals as goal

pub returns-then-length-text : goal.returns-then-length-text
returns-then-length-text c = whole c.args.text.now (omega (arith, c.word_length-length.ensures.exact, c.if-length-text.true))

pub returns : goal.returns
returns c = cut_at c.args.text.now c.word_length-length.result c.word_length-length.ensures.exact c.if-length-text.false
