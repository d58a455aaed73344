use Rattle.core_build.proofs.block_notes.note_unnoted.Goals as goal

pub returns-clause-unnoted : goal.returns-clause-unnoted
returns-clause-unnoted g c = record { cause = c.args.cause; entries = c.mark.ensures.more; trust = c.mark.ensures.trust }
