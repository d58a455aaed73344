use Rattle.xscrub.proofs.EndingLemmas.{shown_none}
use Rattle.xscrub.proofs.telling.tell.Goals as goal

pub returns-in-Made-clause-shown : goal.returns-in-Made-clause-shown
returns-in-Made-clause-shown g c = shown_none c.new.result.items _ _ c.new.ensures.items
