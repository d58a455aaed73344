use Rattle.geom.specs.Places.{layout}
use Rattle.inode_pass.specs.declared.note.GroupInodes.{GroupInodes}
use Rattle.test_fork_pass.proofs.ListLemmas.{kept_fits, one_more}
use Rattle.test_fork_pass.proofs.forks.kept.Goals as goal

pub returns-clause-fit : goal.returns-clause-fit
returns-clause-fit g c =
    let kept : GroupInodes = record { chunks = c.push.new.self; notes = c.see_units.new.notes } in
    kept_fits (layout c.args.geo.now) c.new-notes.result.items c.push-2.new.self.items kept c.new-notes.ensures.items (one_more c.new-inodes.result.items c.push-2.new.self.items kept c.new-inodes.ensures.items c.in_ok-push-2.ensures.items) c.in_ok-_seen.ensures.fit
