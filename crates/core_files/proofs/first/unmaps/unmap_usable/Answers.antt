use Rattle.core_files.proofs.first.SaidLemmas.{held_piece}
use Rattle.fs_model.specs.declared.entry.Entry.TheVariants as entries
use Rattle.core_files.proofs.first.unmaps.unmap_usable.Goals as goal

-- it says of the chain that was asked for
pub returns-clause-said : goal.returns-clause-said
returns-clause-said g c = held_piece (λ x. entries.Unmapped x) c.args.desk.now c.held_file.new.desk c.unmap_file.new.desk c.in_ok-of.of.held c.args.chain c.args.range.offset c.unmap_file.result
    c.unmap_file.ensures.said c.in_ok-of.ensures.held c.in_ok-of.ensures.geometry c.in_ok-of.ensures.items
