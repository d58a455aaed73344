use Rattle.std.proofs.Common.{refl}
use Rattle.fsck_core.proofs.SafeLemmas.{left_acts}
use Rattle.fsck_core.proofs.ToldLemmas.{done_well}
use Rattle.fsck_core.proofs.groups.reopen_taken.Goals as goal

pub returns : goal.returns
returns g c = record {
  acted =
      left_acts g.D.Device c.args.parts.now c.reopen_among.new.desk c.reopen_among.new.groups c.tell_done.result c.requires.safe c.requires.unshut c.reopen_among.ensures.left
      (done_well c.reopen_among.new.desk c.reopen_among.result c.tell_done.result c.tell_done.ensures c.reopen_among.ensures.reason);
  says = (c.reopen_among.result, c.tell_done.ensures, c.reopen_among.ensures.says);
  units = refl;
  known = c.reopen_among.ensures.known;
}
