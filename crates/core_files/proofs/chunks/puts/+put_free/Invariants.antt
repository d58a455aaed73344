use Rattle.core_files.proofs.chunks.puts.+put_free.Given as goal

abbrev pub decreases-put_free : goal.decreases-put_free
decreases-put_free g l = l.left
