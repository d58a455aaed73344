use Rattle.std.proofs.Common.{List, ℕ, Option, Some, IfOk, ap, sym, subst, ◌∙◌}
use Rattle.std.specs.Borrow.{Bor}
use Rattle.std.specs.Option.{option_map}
use Rattle.blk_device.specs.contracts.memory.MemDeviceDevice.TheImpl.{ghosts}
use Rattle.image_hosts.specs.MemFiles.{file_of, redo_file_named, redo_or_none}
use Rattle.image_hosts.specs.Stored.{Stored, IsOpened, redo_named}
use Rattle.image_hosts.proofs.mem_host.open_stored.Goals as goal

pub returns-in-Some-get-clause-told : goal.returns-in-Some-get-clause-told
returns-in-Some-get-clause-told c =
    subst (λ (r : Option Stored). IfOk c.open_kept.result (λ d. IsOpened (Some (file_of c.args.image.now)) r (ghosts.content d) (ghosts.blocks d)))
    (ap redo_or_none c.in-Some-get.ensures.value
    ∙ ap (λ (r : Option (Bor (List ℕ))). redo_named (redo_file_named c.args.redos.now) (option_map (λ (s : Bor (List ℕ)). s.now) r)) (sym c.in-Some.is))
    c.open_kept.ensures.told

pub returns-in-None-clause-told : goal.returns-in-None-clause-told
returns-in-None-clause-told c =
    subst (λ (r : Option Stored). IfOk c.open_copy-in-None.result (λ d. IsOpened (Some (file_of c.args.image.now)) r (ghosts.content d) (ghosts.blocks d)))
    (ap redo_or_none c.in-None.ensures.value
    ∙ ap (λ (r : Option (Bor (List ℕ))). redo_named (redo_file_named c.args.redos.now) (option_map (λ (s : Bor (List ℕ)). s.now) r)) (sym c.in-Some.is))
    c.open_copy-in-None.ensures.told
