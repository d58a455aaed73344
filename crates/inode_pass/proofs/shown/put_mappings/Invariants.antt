use Rattle.std.proofs.Common.{◌≡◌, ◌++◌, map, take}
use Rattle.inode_pass.specs.declared.note.ForkNote.TheVariants.{Mapping as MappingNote}
use Rattle.inode_pass.proofs.shown.put_mappings.Given as goal

-- the mappings so far were put
abbrev pub invariant-loop-mapping : goal.invariant-loop-mapping
invariant-loop-mapping l = l.notes.items ≡ l.fn.notes.items ++ map (λ m. MappingNote l.ino l.fork m) (take l.mapping-index l.mappings)
