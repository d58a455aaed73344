use Rattle.std.proofs.Common.{refl}
use Rattle.geom.specs.Places.{layout}
use Rattle.quiet_check.specs.Chunks.{chunk_numbers}
use Rattle.quiet_check.proofs.JudgeLemmas.{chunk_inside}
use Rattle.quiet_check.proofs.KeptLemmas.{chunks_inside, faults_kept}
use Rattle.quiet_check.proofs.judge.judge_kept.Goals as goal

pub returns-clause-kept : goal.returns-clause-kept
returns-clause-kept c = λ image so noted.
    faults_kept (layout c.args.geo.now) image c.args.g c.args.heads.now c.args.trees.now c.args.seen.now (record { judged = c.in_ok-judged.judged; inodes = c.args.inodes }) c.args.inodes c.requires.group c.requires.units c.requires.chunks refl (c.in_ok-judged.ensures.exact image so) so noted

pub returns-clause-inside : goal.returns-clause-inside
returns-clause-inside c = chunks_inside (layout c.args.geo.now) c.args.g c.args.inodes (chunk_numbers c.args.seen.now) c.requires.chunks (chunk_inside (layout c.args.geo.now) c.args.g c.args.trees.now c.args.seen.now c.requires.units) c.requires.fit
