use Rattle.edit_blocks.proofs.ChoiceLemmas.{each_once, taken_are_first, given_are_all}
use Rattle.edit_blocks.proofs.laws.each_block_once.Goals as goal

pub returns : goal.returns
returns c = record { once = each_once; first = taken_are_first; given = given_are_all }
