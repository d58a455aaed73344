-- The faults of reference counts, whose runs are found below the group's length.
use Rattle.std.proofs.Common.{◌≡◌, ℕ, ◌+◌, ◌≤◌, Bool, true, List, [], ◌∷◌, ◌++◌, map, ap}
use Rattle.std.specs.Prelude.{◌&&◌, nat_le, flat_map}
use Rattle.std.proofs.lemmas.Bool.{and_parts, leb-true}
use Rattle.derive_defs.specs.Mappings.{EndWithin}
use Rattle.derive_defs.specs.Shared.{sharers, refc_of as record_of}
use Rattle.fs_state.proofs.SharedWithin.{shared_within}
use Rattle.fs_state.specs.Derive.{mappings, refc_of, derive}
use Rattle.fs_state.specs.Faults.{index_faults, faults_of_counter, faults}
use Rattle.fs_model.specs.declared.fault.Counter.TheVariants.{RefcountBlocks}
use Rattle.fs_model.specs.declared.fault.Fault.{Fault}
use Rattle.fs_model.specs.declared.unit.Unit.TheVariants as units
use Rattle.fs_state.specs.State.{State}
use Rattle.rmap_recs.specs.declared.records.RmapRec.{RmapRec}
use Rattle.run_sets.specs.Runs.{most}
use Rattle.run_sets.specs.Stretches.{stretches}
use Rattle.sblock.specs.declared.kind.Kind.TheVariants.{Refc}
use Rattle.span_recs.specs.declared.refcount.RefcRec.{RefcRec}

abbrev pub end_within : ℕ → List RmapRec → Bool
end_within len [] = true
end_within len (r ∷ rs) = nat_le (r.start + r.count) len && end_within len rs

ends : (len : ℕ) (rs : List RmapRec) → end_within len rs ≡ true → EndWithin len rs
ends len [] h = tt
ends len (r ∷ rs) h =
    let parts = and_parts (nat_le (r.start + r.count) len) (end_within len rs) h in
    (leb-true (r.start + r.count) len parts.0, ends len rs parts.1)

abbrev pub faults_by : State → ℕ → List RefcRec → List Fault
faults_by a g derived =
    (index_faults Refc derived ((a.group g).tree Refc).reading ++ []) ++ flat_map (faults_of_counter a g) (RefcountBlocks ∷ [])

pub refc_faults : (a : State) (g len : ℕ) → end_within len (mappings a g) ≡ true → len ≤ most → faults a g units.Refc ≡ faults_by a g (map record_of (stretches (sharers (mappings a g)) 2 len))
unfolding faults derive refc_of
refc_faults a g len h short = ap (faults_by a g) (shared_within len (mappings a g) (ends len (mappings a g) h) short)
