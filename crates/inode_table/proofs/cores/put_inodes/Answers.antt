use Rattle.std.proofs.Common.{◌≡◌, None, ap, sym, ◌∙◌, arith, ℕ}
use Rattle.dinode_core.specs.Core.{core_fault, core_of}
use Rattle.geom.specs.Layout.{inode_at}
use Rattle.geom.specs.Places.{layout}
use Rattle.inode_table.specs.Cores.{free_bytes, free_core, slot_of}
use Rattle.inode_table.proofs.SlotLemmas.{slots_more}
use Rattle.inode_table.proofs.cores.put_inodes.Goals as goal

pub loop-slot-preserved : goal.loop-slot-preserved
loop-slot-preserved c =
    let geo = c.args.geo.now in
    let n = c.loop-slot.slot in
    let ino : c.inode_number-ino.result ≡ inode_at (layout geo) c.args.group c.args.block n = c.inode_number-ino.ensures in
    let place : c.from.result ≡ n = c.from.ensures in
    let there : slot_of c.put_slot.new.bytes n ≡ c.free_inode.result = ap (slot_of c.put_slot.new.bytes) (sym place) ∙ c.put_slot.ensures.there in
    let others : (s : ℕ) → (s ≡ n → ⊥) → slot_of c.put_slot.new.bytes s ≡ slot_of c.loop-slot.bytes s = λ s other. c.put_slot.ensures.others s (λ e. other (e ∙ place)) in (
      omega (arith, c.loop-slot.invariant.0, c.put_slot.auto.bytes),
      slots_more (λ s x. x ≡ free_bytes (inode_at (layout geo) c.args.group c.args.block s) geo.uuid) n c.loop-slot.bytes c.put_slot.new.bytes c.loop-slot.invariant.1 (there ∙ c.free_inode.ensures.bytes ∙ ap (λ x. free_bytes x geo.uuid) ino) others,
      slots_more (λ s x. core_of x ≡ free_core (inode_at (layout geo) c.args.group c.args.block s) geo.uuid) n c.loop-slot.bytes c.put_slot.new.bytes c.loop-slot.invariant.2 (ap core_of there ∙ c.free_inode.ensures.core ∙ ap (λ x. free_core x geo.uuid) ino) others,
      slots_more (λ s x. core_fault x (inode_at (layout geo) c.args.group c.args.block s) geo.uuid ≡ None) n c.loop-slot.bytes c.put_slot.new.bytes c.loop-slot.invariant.3 (ap (λ x. core_fault x (inode_at (layout geo) c.args.group c.args.block n) geo.uuid) there ∙ ap (λ x. core_fault c.free_inode.result x geo.uuid) (sym ino) ∙ c.free_inode.ensures.sound) others,
    )
