use Rattle.core_files.proofs.first.SaidLemmas.{held_piece}
use Rattle.fs_model.specs.declared.entry.Entry.TheVariants as entries
use Rattle.core_files.proofs.maps.maps.map_usable.Goals as goal

-- it says of the chain that was asked for
pub returns-in-Ok-clause-said : goal.returns-in-Ok-clause-said
returns-in-Ok-clause-said g c = held_piece (λ x. entries.Mapped x) c.args.desk.now c.held_file.new.desk c.map_file.new.desk c.in-Ok.of.held c.args.chain c.args.range.offset c.map_file.result
    c.map_file.ensures.said c.in-Ok.ensures.held c.in-Ok.ensures.geometry c.in-Ok.ensures.items
