-- One such reading after the other.
use Rattle.std.proofs.Common.{ℕ, List, refl, ◌∙◌}
use Rattle.std.specs.Borrow.{MutBor}
use Rattle.byte_fields.specs.declared.block.Block.{Block}
use Rattle.tree_blocks.specs.declared.blocks.Blocks.{Ghosts}
use Rattle.tree_blocks.proofs.ReadingLemmas.{reads_on, reads_none}
use Rattle.over_blocks.specs.Lasts.{Lasts}

module _ {B : Type 0} (g : Ghosts B) where
  pub lasts_self : ((b : B) → g.follows b b) → (under : MutBor B) (placed : List (ℕ × Block)) → Lasts g under under placed placed
  lasts_self self under placed = record { same_name = refl; reading = reads_none g self under.now; placed = refl }

  pub lasts_on : ((a b c : B) → g.follows a b → g.follows b c → g.follows a c) → (under under' under'' : MutBor B) (placed placed' placed'' : List (ℕ × Block)) → Lasts g under under' placed placed' → Lasts g under' under'' placed' placed'' → Lasts g under under'' placed placed''
  lasts_on on under under' under'' placed placed' placed'' first second = record {
    same_name = second.same_name ∙ first.same_name;
    reading = reads_on g on under.now under'.now under''.now first.reading second.reading;
    placed = second.placed ∙ first.placed;
  }
