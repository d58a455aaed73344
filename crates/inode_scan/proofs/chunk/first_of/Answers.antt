use Rattle.std.proofs.Common.{arith, refl, sym, ◌∙◌}
use Rattle.inode_scan.specs.Chunk.{first_of}
use Rattle.inode_scan.proofs.ChunkLemmas.{slot_here, slot_later, slot_nowhere, sought_in}
use Rattle.inode_scan.proofs.chunk.first_of.Goals as goal

pub loop-slot-init : goal.loop-slot-init
unfolding first_of
loop-slot-init c = refl

pub overflow_cast-result : goal.overflow_cast-result
overflow_cast-result c = let low = sought_in c.args.from c.args.end c.args.rec.now c.loop-slot.slot (sym c.is_sought.ensures ∙ c.if-is_sought.true) in omega (arith, low.1)

pub returns-then-is_sought-clause-value : goal.returns-then-is_sought-clause-value
returns-then-is_sought-clause-value c = rw (c.from.ensures, c.from-then-is_sought.ensures) (sym (slot_here c.args.from c.args.end c.args.rec.now c.loop-slot.slot (omega arith) (sym c.is_sought.ensures ∙ c.if-is_sought.true)) ∙ c.loop-slot.invariant)

pub returns-then-is_sought-clause-range : goal.returns-then-is_sought-clause-range
returns-then-is_sought-clause-range c = rw (c.from.ensures, c.from-then-is_sought.ensures) (sought_in c.args.from c.args.end c.args.rec.now c.loop-slot.slot (sym c.is_sought.ensures ∙ c.if-is_sought.true))

pub loop-slot-preserved : goal.loop-slot-preserved
loop-slot-preserved c = sym (slot_later c.args.from c.args.end c.args.rec.now c.loop-slot.slot (omega arith) (sym c.is_sought.ensures ∙ c.if-is_sought.false)) ∙ c.loop-slot.invariant

pub returns-clause-value : goal.returns-clause-value
returns-clause-value c = sym (slot_nowhere c.args.from c.args.end c.args.rec.now c.loop-slot.slot (omega arith)) ∙ c.loop-slot.invariant
