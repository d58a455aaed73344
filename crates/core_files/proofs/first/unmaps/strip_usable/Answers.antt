use Rattle.core_files.proofs.first.SaidLemmas.{held_stripped}
use Rattle.core_files.proofs.first.unmaps.strip_usable.Goals as goal

-- it says of the chain that was asked for
pub returns-clause-said : goal.returns-clause-said
returns-clause-said g c = held_stripped c.args.desk.now c.held_file.new.desk c.strip_file.new.desk c.in_ok-of.of.held c.args.chain c.strip_file.result
    c.strip_file.ensures.said c.in_ok-of.ensures.held c.in_ok-of.ensures.geometry c.in_ok-of.ensures.items
