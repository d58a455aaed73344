use Rattle.std.proofs.Common.{rules}
use Rattle.sblock.specs.Blocks.{AllInside}
use Rattle.load_trees.proofs.GivenLemmas.{all_end}
use Rattle.load_trees.proofs.whole.tested.Goals as goal

pub returns-clause-ends : goal.returns-clause-ends
returns-clause-ends g c =
    let inside : AllInside g.K.RecKind.form c.args.site.now.bounds c.args.list.now = search rules in
    all_end g.K.RecKind.form g.met.K.RecKind.lawful c.args.site.now.bounds c.args.list.now c.are_claims.ensures.fits inside
