use Rattle.std.proofs.Common.{◌≡◌, IfOk, refl}
use Rattle.ag_headers.specs.Agf.{agf_fault, agf_of}
use Rattle.ag_headers.specs.Agfl.{IsListOf, agfl_fault, agfl_of}
use Rattle.ag_headers.specs.Agi.{agi_fault, agi_of}
use Rattle.ag_headers.specs.Ring.{entries}
use Rattle.ag_headers.specs.Tests.{IsOfGroup}
use Rattle.byte_fields.specs.FirstFailing.{Decodes}
use Rattle.geom.specs.Places.{layout}
use Rattle.group_trees.proofs.HeadLemmas.{answered, heads_same}
use Rattle.core_calls.specs.declared.answers.OpenRefused.{OpenRefused}
use Rattle.core_parts.proofs.opens.heads.heads_in.Goals as goal

pub returns-clause-exact : goal.returns-clause-exact
returns-clause-exact c =
    let at = layout c.args.geo.now in
    let bytes = c.args.block.now.bytes in
    let agf = answered OpenRefused (Decodes (agf_fault at c.args.g bytes) (λ agf. agf ≡ agf_of bytes)) c.decode_agf.result c.in_ok-agf.agf c.in_ok-agf.ensures.cases c.decode_agf.ensures.exact in
    let agi = answered OpenRefused (Decodes (agi_fault at c.args.g bytes) (λ agi. agi ≡ agi_of bytes)) c.decode_agi.result c.in_ok-agi.agi c.in_ok-agi.ensures.cases c.decode_agi.ensures.exact in
    let list = answered OpenRefused (Decodes (agfl_fault at c.args.g bytes) (λ list. list ≡ agfl_of bytes)) c.decode_agfl.result c.in_ok-list.list c.in_ok-list.ensures.cases c.decode_agfl.ensures.exact in
    heads_same bytes (record { agf = c.in_ok-agf.agf; agi = c.in_ok-agi.agi; list = entries c.in_ok-list.list }) c.in_ok-agf.agf c.in_ok-agi.agi c.in_ok-list.list refl agf.1 agi.1 list.1

pub returns-clause-of_group : goal.returns-clause-of_group
returns-clause-of_group c =
    let at = layout c.args.geo.now in
    let list = answered OpenRefused (λ r. IfOk r (IsListOf at c.args.g)) c.decode_agfl.result c.in_ok-list.list c.in_ok-list.ensures.cases c.decode_agfl.ensures.of_group in
    record {
      agf = answered OpenRefused (λ r. IfOk r (λ agf. IsOfGroup at c.args.g agf.seqno agf.length agf.uuid)) c.decode_agf.result c.in_ok-agf.agf c.in_ok-agf.ensures.cases c.decode_agf.ensures.of_group;
      agi = answered OpenRefused (λ r. IfOk r (λ agi. IsOfGroup at c.args.g agi.seqno agi.length agi.uuid)) c.decode_agi.result c.in_ok-agi.agi c.in_ok-agi.ensures.cases c.decode_agi.ensures.of_group;
      list = list.group;
      image = list.image;
    }
