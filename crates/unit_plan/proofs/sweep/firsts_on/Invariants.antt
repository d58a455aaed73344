use Rattle.std.proofs.Common.{◌≡◌, [], map, drop}
use Rattle.std.specs.List.{filter}
use Rattle.unit_plan.specs.Firsts.{listed, firsts_from}
use Rattle.unit_plan.specs.Pieces.{has_block}
use Rattle.unit_plan.proofs.sweep.firsts_on.Given as goal

-- the claims that are left, taken to those that are kept, give the first two of all
abbrev pub invariant-loop-piece : goal.invariant-loop-piece
invariant-loop-piece l =
    firsts_from (listed l.firsts) (map (λ p. p.claim) (filter (has_block l.among l.block) (drop l.piece-index l.pieces)))
    ≡ firsts_from [] (map (λ p. p.claim) (filter (has_block l.among l.block) l.pieces))
