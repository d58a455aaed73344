use Rattle.std.proofs.Common.{false, refl, drop, ◌∙◌, ◌+◌, arith}
use Rattle.geom.specs.Layout.{split_of}
use Rattle.geom.specs.Places.{layout}
use Rattle.dinode_core.specs.declared.mapping.Mapping.{Mapping}
use Rattle.fork_pass.specs.Pieces.{mapping_piece, mapping_pieces, piece_where}
use Rattle.fork_pass.proofs.ForkLemmas.{more_first, none_more}
use Rattle.fork_pass.proofs.SetLemmas.{leaves_all, leaves_first, leaves_on}
use Rattle.fork_pass.proofs.pieces.put_mappings.Goals as goal

abbrev none : Mapping
none = (record { offset = 0; block = 0; count = 0; unwritten = false })

pub loop-m-init : goal.loop-m-init
loop-m-init c = leaves_first c.args.sets.now (mapping_pieces (layout c.args.geo.now) c.args.fork c.args.ino c.args.mappings.now) (mapping_pieces (layout c.args.geo.now) c.args.fork c.args.ino c.args.mappings.now) (λ g. refl)

pub put_mapping-requires-clause-groups : goal.put_mapping-requires-clause-groups
put_mapping-requires-clause-groups c = c.loop-m.invariant.long ∙ c.requires.groups

pub loop-m-preserved : goal.loop-m-preserved
loop-m-preserved c =
    leaves_on c.args.sets.now c.loop-m.sets c.put_mapping.new.sets (mapping_pieces (layout c.args.geo.now) c.args.fork c.args.ino c.args.mappings.now) (mapping_pieces (layout c.args.geo.now) c.args.fork c.args.ino (drop c.loop-m.m-index c.args.mappings.now)) (mapping_pieces (layout c.args.geo.now) c.args.fork c.args.ino (drop (c.loop-m.m-index + 1) c.args.mappings.now)) _ (λ g. more_first (λ m. piece_where g (mapping_piece c.args.fork c.args.ino m) (split_of (layout c.args.geo.now) m.block)) c.args.mappings.now c.loop-m.m-index none c.loop-m-test.true) c.loop-m.invariant c.in_ok-put_mapping.ensures.put

pub returns-clause-put : goal.returns-clause-put
returns-clause-put c =
    leaves_all c.args.sets.now c.loop-m.sets (mapping_pieces (layout c.args.geo.now) c.args.fork c.args.ino c.args.mappings.now) (mapping_pieces (layout c.args.geo.now) c.args.fork c.args.ino (drop c.loop-m.m-index c.args.mappings.now)) (λ g. none_more (λ m. piece_where g (mapping_piece c.args.fork c.args.ino m) (split_of (layout c.args.geo.now) m.block)) c.args.mappings.now c.loop-m.m-index (omega (arith, c.loop-m-test.false))) c.loop-m.invariant
