-- A block of the way, as the walk finds it.
use Rattle.std.proofs.Common.{◌≡◌, ℕ, suc, ◌-◌, ◌≤◌, List, [], ◌∷◌, ◌++◌, Option, subst, arith}
use Rattle.byte_fields.specs.declared.block.Block.{Block}
use Rattle.sblock.specs.Form.{Form}
use Rattle.sblock.specs.Headers.{no_block}
use Rattle.tree_blocks.specs.Told.{WhereTold}
use Rattle.tree_blocks.specs.declared.tree.TreeAt.{TreeAt}
use Rattle.over_blocks.specs.declared.draft.Draft.{Draft}
use Rattle.place_plan.specs.declared.ask.Ask.{Ask}
use Rattle.place_turns.specs.Edits.{MayStand}
use Rattle.way_check.specs.Checks.{HasChild, IsMade, IsPlain, IsStep, IsStill, IsWay, LeadsOn, root_spot}

-- a node over the block that was made last below it
pub step_is : {R K : Type 0} (form : Form R K) (ask : Ask R) (level : ℕ) (old new : List ℕ) (lower front : List (ℕ × Block)) (top : ℕ × Block) (at child : ℕ) → LeadsOn form ask old at child → lower ≡ front ++ top ∷ [] → top.0 ≡ child → HasChild form level old new top.1.bytes at → IsStep form ask level old new lower child
step_is form ask level old new lower front top at child leads are number has = record {
  front = front;
  top = top;
  are = are;
  number = number;
  has = subst (HasChild form level old new top.1.bytes) leads.way has;
  child_is = leads.child_is;
  some = leads.some;
  inside = leads.lies;
}

-- the whole edit, by what the tests say of it
pub made_is : {R K : Type 0} (form : Form R K) (ask : Ask R) (tree : TreeAt) (told : Option (ℕ → List ℕ)) (draft : Draft) (placed : List (ℕ × Block)) → placed ≡ draft.placed.items → IsStill tree draft → 1 ≤ tree.levels → ask.site.bounds.length ≤ no_block → IsPlain form ask.how → MayStand form ask.site ask.how ask.rec
    → WhereTold told (λ m. IsWay form ask placed m (root_spot form (tree.levels - 1) tree.root)) → IsMade form ask tree told draft
made_is form ask tree told draft placed are still some short plain stand way = record {
  still = still;
  level = tree.levels - 1;
  tall = omega (arith, some);
  short = short;
  plain = plain;
  stand = stand;
  way = subst (λ (es : List (ℕ × Block)). WhereTold told (λ m. IsWay form ask es m (root_spot form (tree.levels - 1) tree.root))) are way;
}
