use Rattle.bulk_load.proofs.keys.+first_record.Given as goal

abbrev pub decreases-first_record : goal.decreases-first_record
decreases-first_record l = l.level
