use Rattle.std.proofs.Common.{ℕ, List, ◌∷◌, [], ◌≡◌, length, refl, ap, arith}
use Rattle.xscrub.specs.Command.{job_of}
use Rattle.xscrub.specs.Ending.{told_outcome}
use Rattle.fs_model.specs.declared.entry.Entry.{Entry}
use Rattle.xscrub.proofs.AloneLemmas.{told_alone}
use Rattle.xscrub.proofs.DoorLemmas.{told_door}
use Rattle.xscrub.proofs.EndingLemmas.{told_cause, told_decided, told_by_words, told_units, asked_so}
use Rattle.xscrub.proofs.LoanLemmas.{told_by, told_redos, told_stored}
use Rattle.xscrub.proofs.SoundLemmas.{told_sound}
use Rattle.xscrub.proofs.top.fsck_main.Goals as goal

pub returns : goal.returns
returns g c =
    let kept = g.met.H.Host.report_keeps c.find-finding.new.host c.tell-told.new.sink c.tell-told.ensures.rest in
    let ends = rw c.find-finding.ensures.sink at c.tell-told.ensures.told in record {
      run = (
        told_outcome c.tell-told.result,
        told_by _ _ _ _ _ _ _ _ _ _ _ c.find-finding.result _ _ _ c.find-finding.ensures.device kept.4 kept.3 kept.5 c.find-finding.ensures.words ends,
        record {
          status = c.code.ensures;
          journal = refl {A = List Entry};
          starts = let len : c.len-end.result ≡ length c.tell-told.result.journal.items = omega (arith, c.len-end.ensures, c.tell-told.result.journal.ok.0) in ap (λ (n : ℕ). 0 ∷ n ∷ n ∷ []) len;
          words = told_by_words _ c.find-finding.result _ _ _ c.find-finding.ensures.words ends;
          decided = told_decided _ c.find-finding.result _ _ _ c.find-finding.ensures.found.decides ends;
          cause = rw (kept.0, kept.1) (told_cause _ c.find-finding.result _ _ _ _ _ _ _ c.find-finding.ensures.words c.find-finding.ensures.found.cause ends);
          units = told_units _ c.find-finding.result _ _ _ c.find-finding.ensures.words ends;
          shown = rw (c.find-finding.ensures.sink, c.find-finding.ensures.report) at c.tell-told.ensures.shown;
          stored = told_stored _ _ c.find-finding.result _ _ _ _ _ _ c.find-finding.ensures.words ends c.find-finding.ensures.stored kept.3;
          redo_files = told_redos _ _ _ _ c.find-finding.ensures.redo kept.5;
          refused = told_door (job_of c.args.words.now) c.find-finding.result _ _ _ (g.H.Host.stored c.args.host.now) (g.H.Host.redo_files c.args.host.now) _ _ c.find-finding.ensures.refused ends kept.3;
          alone = told_alone (job_of c.args.words.now) c.find-finding.result _ _ _ (g.H.Host.stored c.args.host.now) (g.H.Host.redo_files c.args.host.now) _ _ c.find-finding.ensures.alone ends kept.3;
          sound = told_sound _ c.find-finding.result _ _ _ _ _ _ _ c.find-finding.ensures.sound ends kept.3 kept.5;
          asked_for = asked_so _ _ c.find-finding.result _ _ _ _ _ ends kept.2 c.find-finding.ensures.asked;
        },
      );
    }
