use Rattle.place_made.proofs.TreeLemmas.{tree_stays_lem, tree_grows_lem, tree_shrinks_lem}
use Rattle.place_made.proofs.laws.trees_done.Goals as goal

pub returns : goal.returns
returns g c = record {
  stays = tree_stays_lem g.K.RecKind.form g.met.K.RecKind.lawful c.args.site.now c.args.frame.now;
  grows = tree_grows_lem g.K.RecKind.form g.met.K.RecKind.lawful c.args.site.now c.args.frame.now;
  shrinks = tree_shrinks_lem g.K.RecKind.form g.met.K.RecKind.lawful c.args.site.now c.args.frame.now;
}
