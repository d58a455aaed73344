use Rattle.std.proofs.Common.{rules, ◌≡◌, ◌∙◌, List, ℕ, Bool, is_some, inr, refl, sym, subst}
use Rattle.std.specs.Borrow.{Bor}
use Rattle.std.specs.Option.{option_map}
use Rattle.xscrub.specs.Ending.{stored_outcome}
use Rattle.xscrub.specs.Judged.{ReadsForDevice, journal_in}
use Rattle.image_hosts.specs.Stored.{redo_named}
use Rattle.xscrub.specs.Units.{HasFirstUnits}
use Rattle.xscrub.proofs.UnitLemmas.{no_units}
use Rattle.xscrub.proofs.JudgedLemmas.{front_before}
use Rattle.xscrub.proofs.LoanLemmas.{came_back, given_same, put_back_stored}
use Rattle.image_hosts.specs.Stored.{asks, name_of}
use Rattle.image_hosts.specs.declared.host.OpenFault.TheVariants.{Memory}
use Rattle.image_hosts.specs.declared.host.Purpose.TheVariants.{Check as ForCheck}
use Rattle.xscrub.proofs.RepairLemmas.{asked_whole, redos_kept}
use Rattle.xscrub.proofs.top.check.Goals as goal

pub returns-in-Err-Memory-clause-found : goal.returns-in-Err-Memory-clause-found
returns-in-Err-Memory-clause-found g c = record {
  decides = front_before
      (stored_outcome (is_some c.args.redo) (g.H.Host.stored c.args.host.now c.args.image.now) (redo_named (g.H.Host.redo_files c.args.host.now) (option_map (λ (s : Bor (List ℕ)). s.now) c.args.redo)))
      c.new.result.items c.new.ensures.items;
  cause = tt;
}

pub returns-in-Err-Memory-clause-image : goal.returns-in-Err-Memory-clause-image
returns-in-Err-Memory-clause-image g c = subst HasFirstUnits (sym c.new.ensures.items) no_units

pub returns-in-Ok-Judged-clause-device : goal.returns-in-Ok-Judged-clause-device
returns-in-Ok-Judged-clause-device g c =
    let journal : journal_in c.judge_device-found.result ≡ c.in-Ok-Judged.journal.items = search rules in
    inr (came_back g.H.Dev.Device (is_some (option_map (λ (s : Bor (List ℕ)). s.now) c.args.redo)) _ _ _ _ _ c.in-Ok.dev c.judge_device-found.new.dev c.judge_device-found.result _
    c.in-Ok.ensures.lent c.put_back.ensures.lent c.in-Ok.ensures.told c.judge_device-found.ensures.same c.judge_device-found.ensures.crash
    (subst (λ (b : Bool). ReadsForDevice b (g.H.Dev.Device.content c.in-Ok.dev) (g.H.Dev.Device.blocks c.in-Ok.dev) (g.H.Dev.Device.reads c.in-Ok.dev) (g.H.Dev.Device.reads c.judge_device-found.new.dev) c.judge_device-found.result)
    (c.is_some.ensures ∙ sym (given_same c.args.redo)) c.judge_device-found.ensures.kept) journal)

pub returns-in-Ok-Judged-clause-stored : goal.returns-in-Ok-Judged-clause-stored
returns-in-Ok-Judged-clause-stored g c =
    put_back_stored c.args.image.now (g.H.Host.stored c.args.host.now) (g.H.Host.stored c.device.new.self) (g.H.Host.stored c.put_back.new.self)
    _ _ _ _ _ c.in-Ok.ensures.told c.judge_device-found.ensures.same c.judge_device-found.ensures.sizes c.device.ensures.others c.put_back.ensures.image

pub returns-in-Ok-Full-clause-stored : goal.returns-in-Ok-Full-clause-stored
returns-in-Ok-Full-clause-stored g c =
    put_back_stored c.args.image.now (g.H.Host.stored c.args.host.now) (g.H.Host.stored c.device.new.self) (g.H.Host.stored c.put_back.new.self)
    _ _ _ _ _ c.in-Ok.ensures.told c.judge_device-found.ensures.same c.judge_device-found.ensures.sizes c.device.ensures.others c.put_back.ensures.image

pub returns-in-Ok-Full-clause-device : goal.returns-in-Ok-Full-clause-device
returns-in-Ok-Full-clause-device g c =
    let journal : journal_in c.judge_device-found.result ≡ c.in-Ok-Full.journal.items = search rules in
    inr (came_back g.H.Dev.Device (is_some (option_map (λ (s : Bor (List ℕ)). s.now) c.args.redo)) _ _ _ _ _ c.in-Ok.dev c.judge_device-found.new.dev c.judge_device-found.result _
    c.in-Ok.ensures.lent c.put_back.ensures.lent c.in-Ok.ensures.told c.judge_device-found.ensures.same c.judge_device-found.ensures.crash
    (subst (λ (b : Bool). ReadsForDevice b (g.H.Dev.Device.content c.in-Ok.dev) (g.H.Dev.Device.blocks c.in-Ok.dev) (g.H.Dev.Device.reads c.in-Ok.dev) (g.H.Dev.Device.reads c.judge_device-found.new.dev) c.judge_device-found.result)
    (c.is_some.ensures ∙ sym (given_same c.args.redo)) c.judge_device-found.ensures.kept) journal)

pub returns-in-Ok-Refused-clause-stored : goal.returns-in-Ok-Refused-clause-stored
returns-in-Ok-Refused-clause-stored g c =
    put_back_stored c.args.image.now (g.H.Host.stored c.args.host.now) (g.H.Host.stored c.device.new.self) (g.H.Host.stored c.put_back.new.self)
    _ _ _ _ _ c.in-Ok.ensures.told c.judge_device-found.ensures.same c.judge_device-found.ensures.sizes c.device.ensures.others c.put_back.ensures.image

pub returns-in-Err-Device-clause-stored : goal.returns-in-Err-Device-clause-stored
returns-in-Err-Device-clause-stored g c =
    put_back_stored c.args.image.now (g.H.Host.stored c.args.host.now) (g.H.Host.stored c.device.new.self) (g.H.Host.stored c.put_back.new.self)
    _ _ _ _ _ c.in-Ok.ensures.told c.judge_device-found.ensures.same c.judge_device-found.ensures.sizes c.device.ensures.others c.put_back.ensures.image

pub returns-in-Err-Device-clause-device : goal.returns-in-Err-Device-clause-device
returns-in-Err-Device-clause-device g c =
    let journal : journal_in c.judge_device-found.result ≡ c.in-Err-Device.journal.items = search rules in
    inr (came_back g.H.Dev.Device (is_some (option_map (λ (s : Bor (List ℕ)). s.now) c.args.redo)) _ _ _ _ _ c.in-Ok.dev c.judge_device-found.new.dev c.judge_device-found.result _
    c.in-Ok.ensures.lent c.put_back.ensures.lent c.in-Ok.ensures.told c.judge_device-found.ensures.same c.judge_device-found.ensures.crash
    (subst (λ (b : Bool). ReadsForDevice b (g.H.Dev.Device.content c.in-Ok.dev) (g.H.Dev.Device.blocks c.in-Ok.dev) (g.H.Dev.Device.reads c.in-Ok.dev) (g.H.Dev.Device.reads c.judge_device-found.new.dev) c.judge_device-found.result)
    (c.is_some.ensures ∙ sym (given_same c.args.redo)) c.judge_device-found.ensures.kept) journal)

pub returns-in-Err-Memory-found-clause-stored : goal.returns-in-Err-Memory-found-clause-stored
returns-in-Err-Memory-found-clause-stored g c =
    put_back_stored c.args.image.now (g.H.Host.stored c.args.host.now) (g.H.Host.stored c.device.new.self) (g.H.Host.stored c.put_back.new.self)
    _ _ _ _ _ c.in-Ok.ensures.told c.judge_device-found.ensures.same c.judge_device-found.ensures.sizes c.device.ensures.others c.put_back.ensures.image

pub returns-in-Err-Memory-found-clause-device : goal.returns-in-Err-Memory-found-clause-device
returns-in-Err-Memory-found-clause-device g c =
    let journal : journal_in c.judge_device-found.result ≡ c.in-Err-Memory-found.journal.items = search rules in
    inr (came_back g.H.Dev.Device (is_some (option_map (λ (s : Bor (List ℕ)). s.now) c.args.redo)) _ _ _ _ _ c.in-Ok.dev c.judge_device-found.new.dev c.judge_device-found.result _
    c.in-Ok.ensures.lent c.put_back.ensures.lent c.in-Ok.ensures.told c.judge_device-found.ensures.same c.judge_device-found.ensures.crash
    (subst (λ (b : Bool). ReadsForDevice b (g.H.Dev.Device.content c.in-Ok.dev) (g.H.Dev.Device.blocks c.in-Ok.dev) (g.H.Dev.Device.reads c.in-Ok.dev) (g.H.Dev.Device.reads c.judge_device-found.new.dev) c.judge_device-found.result)
    (c.is_some.ensures ∙ sym (given_same c.args.redo)) c.judge_device-found.ensures.kept) journal)

pub returns-in-Ok-Judged-clause-redo : goal.returns-in-Ok-Judged-clause-redo
returns-in-Ok-Judged-clause-redo g c =
    redos_kept _ _ (asks c.args.image.now (name_of c.args.redo) ForCheck) _ (g.H.Host.redo_files c.args.host.now) (g.H.Host.redo_files c.device.new.self) (g.H.Host.redo_files c.put_back.new.self)
    (asked_whole c.in-Ok.dev Memory (asks c.args.image.now (name_of c.args.redo) ForCheck) (g.H.Host.asked c.args.host.now) (g.H.Host.asked c.device.new.self) c.in-Ok.ensures.asked) refl c.put_back.ensures.redo c.device.ensures.redo

pub returns-in-Ok-Full-clause-redo : goal.returns-in-Ok-Full-clause-redo
returns-in-Ok-Full-clause-redo g c =
    redos_kept _ _ (asks c.args.image.now (name_of c.args.redo) ForCheck) _ (g.H.Host.redo_files c.args.host.now) (g.H.Host.redo_files c.device.new.self) (g.H.Host.redo_files c.put_back.new.self)
    (asked_whole c.in-Ok.dev Memory (asks c.args.image.now (name_of c.args.redo) ForCheck) (g.H.Host.asked c.args.host.now) (g.H.Host.asked c.device.new.self) c.in-Ok.ensures.asked) refl c.put_back.ensures.redo c.device.ensures.redo

pub returns-in-Ok-Refused-clause-redo : goal.returns-in-Ok-Refused-clause-redo
returns-in-Ok-Refused-clause-redo g c =
    redos_kept _ _ (asks c.args.image.now (name_of c.args.redo) ForCheck) _ (g.H.Host.redo_files c.args.host.now) (g.H.Host.redo_files c.device.new.self) (g.H.Host.redo_files c.put_back.new.self)
    (asked_whole c.in-Ok.dev Memory (asks c.args.image.now (name_of c.args.redo) ForCheck) (g.H.Host.asked c.args.host.now) (g.H.Host.asked c.device.new.self) c.in-Ok.ensures.asked) refl c.put_back.ensures.redo c.device.ensures.redo

pub returns-in-Err-Device-clause-redo : goal.returns-in-Err-Device-clause-redo
returns-in-Err-Device-clause-redo g c =
    redos_kept _ _ (asks c.args.image.now (name_of c.args.redo) ForCheck) _ (g.H.Host.redo_files c.args.host.now) (g.H.Host.redo_files c.device.new.self) (g.H.Host.redo_files c.put_back.new.self)
    (asked_whole c.in-Ok.dev Memory (asks c.args.image.now (name_of c.args.redo) ForCheck) (g.H.Host.asked c.args.host.now) (g.H.Host.asked c.device.new.self) c.in-Ok.ensures.asked) refl c.put_back.ensures.redo c.device.ensures.redo

pub returns-in-Err-Memory-found-clause-redo : goal.returns-in-Err-Memory-found-clause-redo
returns-in-Err-Memory-found-clause-redo g c =
    redos_kept _ _ (asks c.args.image.now (name_of c.args.redo) ForCheck) _ (g.H.Host.redo_files c.args.host.now) (g.H.Host.redo_files c.device.new.self) (g.H.Host.redo_files c.put_back.new.self)
    (asked_whole c.in-Ok.dev Memory (asks c.args.image.now (name_of c.args.redo) ForCheck) (g.H.Host.asked c.args.host.now) (g.H.Host.asked c.device.new.self) c.in-Ok.ensures.asked) refl c.put_back.ensures.redo c.device.ensures.redo
