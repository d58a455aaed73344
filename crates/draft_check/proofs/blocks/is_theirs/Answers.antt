use Rattle.std.proofs.Common.{◌∙◌, inl, inr, sym}
use Rattle.draft_check.proofs.ListLemmas.{stands}
use Rattle.draft_check.proofs.blocks.is_theirs.Goals as goal

pub returns-then-is_among : goal.returns-then-is_among
returns-then-is_among c = λ yes. inr (stands c.args.block c.args.taken.now (sym c.is_among.ensures ∙ yes))

pub returns-else-is_among : goal.returns-else-is_among
returns-else-is_among c = λ yes. inl (stands c.args.block c.args.before.now (sym c.is_among-else-is_among.ensures ∙ yes))
