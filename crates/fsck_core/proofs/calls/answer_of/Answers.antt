use Rattle.core_calls.specs.declared.asks.Ask.TheVariants as asks
use Rattle.fsck_core.proofs.SayLemmas.{says_as, writer_says}
use Rattle.fsck_core.proofs.calls.answer_of.Goals as goal
use Rattle.fsck_core.specs.Entries.{Says}

pub returns-in-Start-clause-says : goal.returns-in-Start-clause-says
unfolding Says
returns-in-Start-clause-says g c =
    says_as c.args.ask (asks.Start c.in-Start.group c.in-Start.unit c.in-Start.plan c.in-Start.turns) c.args.parts.now c.start_in.new.parts c.start_in.result c.in-Start.is c.start_in.ensures.says

pub returns-in-Advance-clause-says : goal.returns-in-Advance-clause-says
unfolding Says
returns-in-Advance-clause-says g c = says_as c.args.ask (asks.Advance c.in-Advance.group) c.args.parts.now c.run_in.new.parts c.run_in.result c.in-Advance.is c.run_in.ensures.says

pub returns-in-ScanPiece-clause-says : goal.returns-in-ScanPiece-clause-says
unfolding Says
returns-in-ScanPiece-clause-says g c = says_as c.args.ask (asks.ScanPiece c.in-ScanPiece.group) c.args.parts.now c.run_in-in-ScanPiece.new.parts c.run_in-in-ScanPiece.result c.in-ScanPiece.is c.run_in-in-ScanPiece.ensures.says

pub returns-in-Close-clause-says : goal.returns-in-Close-clause-says
unfolding Says
returns-in-Close-clause-says g c = says_as c.args.ask (asks.Close c.in-Close.group) c.args.parts.now c.run_in-in-Close.new.parts c.run_in-in-Close.result c.in-Close.is c.run_in-in-Close.ensures.says

pub returns-in-GatherPiece-clause-says : goal.returns-in-GatherPiece-clause-says
unfolding Says
returns-in-GatherPiece-clause-says g c = says_as c.args.ask (asks.GatherPiece c.in-GatherPiece.group) c.args.parts.now c.run_in-in-GatherPiece.new.parts c.run_in-in-GatherPiece.result c.in-GatherPiece.is c.run_in-in-GatherPiece.ensures.says

pub returns-in-ComparePiece-clause-says : goal.returns-in-ComparePiece-clause-says
unfolding Says
returns-in-ComparePiece-clause-says g c = says_as c.args.ask (asks.ComparePiece c.in-ComparePiece.group) c.args.parts.now c.run_in-in-ComparePiece.new.parts c.run_in-in-ComparePiece.result c.in-ComparePiece.is c.run_in-in-ComparePiece.ensures.says

pub returns-in-ReservePiece-clause-says : goal.returns-in-ReservePiece-clause-says
unfolding Says
returns-in-ReservePiece-clause-says g c = says_as c.args.ask (asks.ReservePiece c.in-ReservePiece.group) c.args.parts.now c.run_in-in-ReservePiece.new.parts c.run_in-in-ReservePiece.result c.in-ReservePiece.is c.run_in-in-ReservePiece.ensures.says

pub returns-in-StagePiece-clause-says : goal.returns-in-StagePiece-clause-says
unfolding Says
returns-in-StagePiece-clause-says g c = says_as c.args.ask (asks.StagePiece c.in-StagePiece.group) c.args.parts.now c.run_in-in-StagePiece.new.parts c.run_in-in-StagePiece.result c.in-StagePiece.is c.run_in-in-StagePiece.ensures.says

pub returns-in-Switch-clause-says : goal.returns-in-Switch-clause-says
unfolding Says
returns-in-Switch-clause-says g c = says_as c.args.ask (asks.Switch c.in-Switch.group) c.args.parts.now c.run_in-in-Switch.new.parts c.run_in-in-Switch.result c.in-Switch.is c.run_in-in-Switch.ensures.says

pub returns-in-ReapPiece-clause-says : goal.returns-in-ReapPiece-clause-says
unfolding Says
returns-in-ReapPiece-clause-says g c = says_as c.args.ask (asks.ReapPiece c.in-ReapPiece.group) c.args.parts.now c.run_in-in-ReapPiece.new.parts c.run_in-in-ReapPiece.result c.in-ReapPiece.is c.run_in-in-ReapPiece.ensures.says

pub returns-in-Reopen-clause-says : goal.returns-in-Reopen-clause-says
unfolding Says
returns-in-Reopen-clause-says g c = says_as c.args.ask (asks.Reopen c.in-Reopen.group) c.args.parts.now c.reopen_in.new.parts c.reopen_in.result c.in-Reopen.is c.reopen_in.ensures.says

pub returns-in_default-clause-says : goal.returns-in_default-clause-says
returns-in_default-clause-says g c =
    writer_says c.args.ask c.args.parts.now c.write_in.new.parts c.write_in.result c.in_default.not-Start
    c.in_default.not-Advance c.in_default.not-ScanPiece c.in_default.not-Close c.in_default.not-GatherPiece c.in_default.not-ComparePiece c.in_default.not-ReservePiece c.in_default.not-StagePiece c.in_default.not-Switch c.in_default.not-ReapPiece c.in_default.not-Reopen
