use Rattle.xscrub.proofs.repairing.begun.Goals as goal

pub returns-clause-alone : goal.returns-clause-alone
returns-clause-alone c = λ told nothing. c.ended.ensures.alone told nothing.checked nothing.whole nothing.well
