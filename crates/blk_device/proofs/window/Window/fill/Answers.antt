use Rattle.std.proofs.Common.{◌∙◌}
use Rattle.blk_device.proofs.WindowLemmas.{all_written, holds_read}
use Rattle.blk_device.proofs.window.Window.fill.Goals as goal

pub returns-clause-bytes : goal.returns-clause-bytes
returns-clause-bytes g c =
    let told = g.F.Read.remaining c.args.file.now in
    let len = c.read_front.ensures.len ∙ c.deref_mut.ensures.len in
    holds_read told c.args.at c.in_ok-read.read _ _ c.keep.new.self c.in_ok-read.ensures.bytes c.keep.ensures.held (all_written _ _ _ len)
