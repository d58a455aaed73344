use Rattle.std.proofs.Common.{rules, ◌∙◌, sym}
use Rattle.image_hosts.specs.MemHost.{asked_of}
use Rattle.image_hosts.specs.Stored.{asks, name_of}
use Rattle.image_hosts.proofs.DueLemmas.{due_last}
use Rattle.image_hosts.proofs.mem_host.MemHostHost.device.Goals as goal

pub returns-clause-place : goal.returns-clause-place
returns-clause-place c = record {
  image = search rules;
  due = due_last (asked_of c.args.self.now) _ (asks c.args.image.now (name_of c.args.redo) c.args.purpose) c.in_ok-keep_request.ensures.ok ∙ sym c.in_ok-due.ensures;
  redo = c.in_ok-make_due.ensures.there;
}
