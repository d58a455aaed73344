use Rattle.std.proofs.Common.{◌≡◌, ◌<◌, ◌≤◌, length, take}
use Rattle.run_text.specs.Report.{report_of}
use Rattle.xscrub.specs.Shown.{Gathers}
use Rattle.xscrub.proofs.telling.put_journal.Given as goal

-- the lines of the entries so far were taken, but for those that are gathered
abbrev pub invariant-loop-told : goal.invariant-loop-told
invariant-loop-told g l = record {
  kept : g.K.Sink.kept l.fn.sink l.sink;
  calm : g.K.Sink.sink_faults l.sink ≡ g.K.Sink.sink_faults l.fn.sink;
  few : length l.gathered.items ≤ 65536;
  some : 0 < length l.gathered.items → 0 < length l.journal;
  so_far : Gathers (report_of (take l.told l.journal)) l.gathered.items (g.K.Sink.taken l.fn.sink) (g.K.Sink.taken l.sink);
}
