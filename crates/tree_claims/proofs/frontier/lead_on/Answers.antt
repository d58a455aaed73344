use Rattle.std.proofs.Common.{sym, arith}
use Rattle.std.proofs.lemmas.Result.{on_ok_weaker}
use Rattle.tree_defs.proofs.LoneFacts.{node_room}
use Rattle.tree_claims.specs.Lists.{lists}
use Rattle.tree_claims.proofs.LookLemmas.{leaf_leads, refused_leads, opened_leads, leads_below}
use Rattle.tree_claims.proofs.frontier.lead_on.Goals as goal

pub returns-then-level-eq0-clause-exact : goal.returns-then-level-eq0-clause-exact
returns-then-level-eq0-clause-exact g c = leaf_leads g.K.RecKind.form c.args.site.now c.args.level c.args.root c.args.p c.args.block.now.bytes (lists c.args.next.now.items) c.if-level-eq0.true

pub returns-in-Some-clause-exact : goal.returns-in-Some-clause-exact
returns-in-Some-clause-exact g c = refused_leads g.K.RecKind.form c.args.site.now c.args.level c.args.root c.args.p c.args.block.now.bytes (lists c.args.next.now.items) c.in-Some.field-0 (sym c.in-Some.ensures)

pub put_children-requires : goal.put_children-requires
put_children-requires g c = record {
  room = rw c.kind.ensures (node_room g.K.RecKind.form c.args.site.now c.args.level c.args.root c.args.p c.args.block.now.bytes (sym c.in-None.ensures) (omega (arith, c.if-level-eq0.false)));
}

pub returns-in-None-clause-exact : goal.returns-in-None-clause-exact
returns-in-None-clause-exact g c =
    on_ok_weaker c.put_children.result
    (λ h. opened_leads g.K.RecKind.form c.args.site.now c.args.level c.args.root c.args.p c.args.block.now.bytes (lists c.args.next.now.items) (lists c.put_children.new.list.items) (omega (arith, c.if-level-eq0.false)) (sym c.in-None.ensures) (rw c.kind.ensures at h))
    c.put_children.ensures.exact

pub returns-in-None-clause-lies : goal.returns-in-None-clause-lies
returns-in-None-clause-lies g c = λ before.
    let form = g.K.RecKind.form in
    let bytes = c.args.block.now.bytes in
    on_ok_weaker c.put_children.result
    (λ h. leads_below form c.args.site.now c.args.level c.args.root c.args.p bytes (lists c.args.next.now.items) (lists c.put_children.new.list.items)
    (opened_leads form c.args.site.now c.args.level c.args.root c.args.p bytes (lists c.args.next.now.items) (lists c.put_children.new.list.items) (omega (arith, c.if-level-eq0.false)) (sym c.in-None.ensures) (rw c.kind.ensures at h))
    before)
    c.put_children.ensures.exact
