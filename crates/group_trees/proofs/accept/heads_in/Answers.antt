use Rattle.std.proofs.Common.{◌≡◌, IfOk}
use Rattle.std.proofs.lemmas.Result.{IfOk-weaker}
use Rattle.ag_headers.specs.Agf.{agf_fault, agf_of}
use Rattle.ag_headers.specs.Agfl.{IsListOf, agfl_fault, agfl_of}
use Rattle.ag_headers.specs.Agi.{agi_fault, agi_of}
use Rattle.ag_headers.specs.Ring.{entries}
use Rattle.byte_fields.specs.FirstFailing.{Decodes}
use Rattle.geom.specs.Places.{layout}
use Rattle.group_trees.specs.Heads.{heads_seen}
use Rattle.group_trees.specs.declared.accept.HeadsStop.{HeadsStop}
use Rattle.group_trees.proofs.HeadLemmas.{answered, heads_same, inside_list}
use Rattle.group_trees.proofs.accept.heads_in.Goals as goal

pub returns-clause-exact : goal.returns-clause-exact
returns-clause-exact c =
    let at = layout c.args.geo.now in
    let bytes = c.args.block.now.bytes in
    let agf = answered HeadsStop (Decodes (agf_fault at c.args.g bytes) (λ agf. agf ≡ agf_of bytes)) c.decode_agf.result c.in_ok-agf.agf c.in_ok-agf.ensures.cases c.decode_agf.ensures.exact in
    let agi = answered HeadsStop (Decodes (agi_fault at c.args.g bytes) (λ agi. agi ≡ agi_of bytes)) c.decode_agi.result c.in_ok-agi.agi c.in_ok-agi.ensures.cases c.decode_agi.ensures.exact in
    let list = answered HeadsStop (Decodes (agfl_fault at c.args.g bytes) (λ list. list ≡ agfl_of bytes)) c.decode_agfl.result c.in_ok-list.list c.in_ok-list.ensures.cases c.decode_agfl.ensures.exact in
    IfOk-weaker c.with_list.result (λ heads. heads_seen heads ≡ record { agf = c.in_ok-agf.agf; agi = c.in_ok-agi.agi; list = entries c.in_ok-list.list }) _
    (λ heads is. heads_same bytes (heads_seen heads) c.in_ok-agf.agf c.in_ok-agi.agi c.in_ok-list.list is agf.1 agi.1 list.1) c.with_list.ensures.exact

pub returns-clause-list : goal.returns-clause-list
returns-clause-list c =
    let of = answered HeadsStop (λ r. IfOk r (IsListOf (layout c.args.geo.now) c.args.g)) c.decode_agfl.result c.in_ok-list.list c.in_ok-list.ensures.cases c.decode_agfl.ensures.of_group in
    IfOk-weaker c.with_list.result (λ heads. heads_seen heads ≡ record { agf = c.in_ok-agf.agf; agi = c.in_ok-agi.agi; list = entries c.in_ok-list.list }) _
    (λ heads is. inside_list (layout c.args.geo.now) c.args.g (heads_seen heads) c.in_ok-agf.agf c.in_ok-agi.agi c.in_ok-list.list is of) c.with_list.ensures.exact
