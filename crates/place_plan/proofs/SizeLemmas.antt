-- How much a block holds at most, for all kinds.
use Rattle.std.proofs.Common.{◌≡◌, ℕ, zero, suc, ◌+◌, ◌<◌, ◌≤◌, Bool, true, false, List, refl, sym, subst, arith}
use Rattle.std.specs.Prelude.{◌==◌, ◌-◌, ◌*◌, nat_lt, if◌then◌else◌}
use Rattle.std.proofs.lemmas.Bool.Decides.{nat_tests}
use Rattle.sblock.specs.Area.{area_of, child_of}
use Rattle.sblock.specs.Blocks.{most_of, numrecs}
use Rattle.sblock.specs.Form.{Form}
use Rattle.sblock.specs.Kinds.{leaf_most_of, node_most_of, leaf_least_of, node_least_of}
use Rattle.sblock.specs.declared.kind.Kind.{Kind}
use Rattle.sblock.specs.declared.kind.Kind.TheVariants.{Bno, Cnt, Rmap, Refc, Ino, Fino}
use Rattle.place_plan.specs.Counts.{most_at, LeadsInside}

pub leaf_small : (kind : Kind) → leaf_most_of kind ≤ 505
leaf_small Bno = omega arith
leaf_small Cnt = omega arith
leaf_small Rmap = omega arith
leaf_small Refc = omega arith
leaf_small Ino = omega arith
leaf_small Fino = omega arith

pub node_small : (kind : Kind) → node_most_of kind ≤ 505
node_small Bno = omega arith
node_small Cnt = omega arith
node_small Rmap = omega arith
node_small Refc = omega arith
node_small Ino = omega arith
node_small Fino = omega arith

either_small : (kind : Kind) (leaf : Bool) → most_of kind leaf ≤ 505
either_small kind true = leaf_small kind
either_small kind false = node_small kind

pub most_small : (kind : Kind) (level : ℕ) → most_at kind level ≤ 505
most_small kind level = either_small kind (level == 0)

-- and at least two
pub leaf_some : (kind : Kind) → 2 ≤ leaf_most_of kind
leaf_some Bno = omega arith
leaf_some Cnt = omega arith
leaf_some Rmap = omega arith
leaf_some Refc = omega arith
leaf_some Ino = omega arith
leaf_some Fino = omega arith

pub node_some : (kind : Kind) → 2 ≤ node_most_of kind
node_some Bno = omega arith
node_some Cnt = omega arith
node_some Rmap = omega arith
node_some Refc = omega arith
node_some Ino = omega arith
node_some Fino = omega arith

pub leaf_least_small : (kind : Kind) → leaf_least_of kind ≤ 252
leaf_least_small Bno = omega arith
leaf_least_small Cnt = omega arith
leaf_least_small Rmap = omega arith
leaf_least_small Refc = omega arith
leaf_least_small Ino = omega arith
leaf_least_small Fino = omega arith

pub node_least_small : (kind : Kind) → node_least_of kind ≤ 252
node_least_small Bno = omega arith
node_least_small Cnt = omega arith
node_least_small Rmap = omega arith
node_least_small Refc = omega arith
node_least_small Ino = omega arith
node_least_small Fino = omega arith

-- an entry's child, by its number
pub leads_in : {R K : Type 0} (form : Form R K) (size : ℕ) (bytes : List ℕ) (i p : ℕ) → LeadsInside form size bytes → i < numrecs bytes → p ≡ child_of form.kind (area_of bytes) i → p < size
leads_in form size bytes i p leads lt e = subst (λ (x : ℕ). x < size) (sym e) (leads i lt)

-- how many blocks are noted on the way, after one level more
pub many_on : (a b : Bool) (old child node full level : ℕ) → 0 < level → child ≤ (old + 1) + 3 * (level - 1) + (if a then 2 else 1) → node ≤ child + (if a then 0 else 2) → full ≤ node + (if b then 1 else 0) → (a ≡ false → b ≡ false) → full ≤ old + 3 * level + (if b then 2 else 1)
many_on true true old child node full level pos c n f only = omega (arith, pos, c, n, f)
many_on true false old child node full level pos c n f only = omega (arith, pos, c, n, f)
many_on false true old child node full level pos c n f only = let no_way : true ≡ false = only refl in absurd cc
many_on false false old child node full level pos c n f only = omega (arith, pos, c, n, f)

pub one_at_most : (b : Bool) → (if b then 1 else 0) ≤ 1
one_at_most true = omega arith
one_at_most false = omega arith

-- a node is too full only after its child was cut in two
pub full_after : (a : Bool) (count most after : ℕ) → count ≤ most → after ≤ count + (if a then 1 else 0) → a ≡ false → nat_lt most after ≡ false
full_after true count most after room le e = absurd cc
full_after false count most after room le e = grind (arith, nat_tests)
