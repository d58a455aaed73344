use Rattle.std.proofs.Common.{◌||◌, Bool, List, get_or, ap, sym, ◌∙◌, arith}
use Rattle.std.specs.List.{list_any}
use Rattle.std.proofs.lemmas.List.{take_all}
use Rattle.std.proofs.lemmas.List.Folds.{list_any_more}
use Rattle.rmap_recs.specs.Rmap.{can_join}
use Rattle.rmap_recs.specs.declared.records.RmapRec.{RmapRec}
use Rattle.run_edits.proofs.pieces.followed.Goals as goal

pub loop-piece-preserved : goal.loop-piece-preserved
loop-piece-preserved c =
    let pieces = c.args.pieces.now in
    let zero_rec : RmapRec = record { start = 0; count = 0; owner = 0; word = 0 } in
    let piece = get_or pieces c.loop-piece.piece-index zero_rec in
    record {
      all = c.mark_follower.ensures.all;
      exact = λ j d below.
          let q = get_or pieces j d in
          c.mark_follower.ensures.exact j d below ∙ ap (λ (b : Bool). b || can_join piece q) (c.loop-piece.invariant.exact j d below)
          ∙ sym (list_any_more (λ p. can_join p q) pieces c.loop-piece.piece-index zero_rec (omega arith));
    }

pub returns-clause-exact : goal.returns-clause-exact
returns-clause-exact c = λ j d below.
    let pieces = c.args.pieces.now in
    c.loop-piece.invariant.exact j d below ∙ ap (λ (some : List RmapRec). list_any (λ p. can_join p (get_or pieces j d)) some) (take_all c.loop-piece.piece-index pieces c.loop-piece-test.false)
