use Rattle.std.proofs.Common.{refl}
use Rattle.xscrub.specs.Command.{job_of}
use Rattle.xscrub.specs.Ending.{decided_by}
use Rattle.xscrub.specs.declared.ending.Finding.TheVariants.{Memory}
use Rattle.xscrub.proofs.AloneLemmas.{lost_alone}
use Rattle.xscrub.proofs.DoorLemmas.{lost_door}
use Rattle.xscrub.proofs.EndingLemmas.{short_worded}
use Rattle.xscrub.proofs.JudgedLemmas.{front_before}
use Rattle.xscrub.proofs.LoanLemmas.{all_redos, short_finds, short_leaves}
use Rattle.xscrub.specs.Repairs.{IsClean}
use Rattle.xscrub.proofs.SoundLemmas.{memory_not_clean, unclean_sound}
use Rattle.xscrub.proofs.top.find.Goals as goal

pub returns-in_default-clause-found : goal.returns-in_default-clause-found
returns-in_default-clause-found g c = record {
  decides = front_before (decided_by (job_of c.args.words.now) (g.H.Host.stored c.args.host.now) (g.H.Host.redo_files c.args.host.now)) c.new.result.items c.new.ensures.items;
  cause = tt;
}

pub returns-in_default-clause-words : goal.returns-in_default-clause-words
returns-in_default-clause-words g c = short_worded (job_of c.args.words.now) (Memory c.new.result) c.new.ensures.items

pub returns-in_default-clause-stored : goal.returns-in_default-clause-stored
returns-in_default-clause-stored g c = short_leaves (job_of c.args.words.now) _ c.new.result _ (g.H.Host.stored c.args.host.now)

pub returns-in_default-clause-device : goal.returns-in_default-clause-device
returns-in_default-clause-device g c =
    short_finds g.H.Dev.Device (job_of c.args.words.now) (g.H.Host.stored c.args.host.now) (g.H.Host.redo_files c.args.host.now) (g.H.Host.loans c.args.host.now) (g.H.Host.loans c.args.host.now)
    (Memory c.new.result) c.new.ensures.items refl

pub returns-in_default-clause-redo : goal.returns-in_default-clause-redo
returns-in_default-clause-redo g c = all_redos (job_of c.args.words.now) (g.H.Host.redo_files c.args.host.now) (g.H.Host.redo_files c.args.host.now) (λ n. refl)

pub returns-in_default-clause-sound : goal.returns-in_default-clause-sound
returns-in_default-clause-sound g c = unclean_sound (job_of c.args.words.now) (IsClean (Memory c.new.result)) (g.H.Host.stored c.args.host.now) (g.H.Host.redo_files c.args.host.now) memory_not_clean

pub returns-in_default-clause-refused : goal.returns-in_default-clause-refused
returns-in_default-clause-refused g c = lost_door (job_of c.args.words.now) (Memory c.new.result) (g.H.Host.stored c.args.host.now) (g.H.Host.redo_files c.args.host.now) (g.H.Host.stored c.args.host.now) (λ decided m left. tt)

pub returns-in_default-clause-alone : goal.returns-in_default-clause-alone
returns-in_default-clause-alone g c = lost_alone (job_of c.args.words.now) (Memory c.new.result) (g.H.Host.stored c.args.host.now) (g.H.Host.redo_files c.args.host.now) (g.H.Host.stored c.args.host.now) (λ journal file left. tt)
