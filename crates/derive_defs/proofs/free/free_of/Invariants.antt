use Rattle.std.proofs.Common.{◌≡◌, ℕ, ◌+◌, ◌-◌, ◌<◌, ◌≤◌, ◌++◌, get_or, map}
use Rattle.rmap_recs.specs.declared.records.RmapRec.{RmapRec}
use Rattle.run_sets.specs.Runs.{runs_from, runs_below}
use Rattle.derive_defs.specs.Free.{is_free, run_of}
use Rattle.derive_defs.proofs.free.free_of.Given as goal

-- what was found, and the runs of the blocks that aren't passed yet, are all
abbrev pub invariant-loop-mapping : goal.invariant-loop-mapping
invariant-loop-mapping l = record {
  inside : l.from ≤ l.length;
  passed : (k : ℕ) (d : RmapRec) → k < l.mapping-index → 0 < (get_or l.mappings k d).count → (get_or l.mappings k d).start + (get_or l.mappings k d).count ≤ l.from;
  found : map run_of l.free.items ++ runs_from (is_free l.mappings) l.from (l.length - l.from) ≡ runs_below (is_free l.mappings) l.length;
}
