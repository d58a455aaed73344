-- What looks at the blocks of one level add to the claimed blocks, and to those of the next level.
use Rattle.std.specs.Prelude.{◌≡◌, ℕ, ◌+◌, ◌<◌, ◌⊎◌, ◌↔◌, Bool, true, false, ◌&&◌, ◌||◌, List, [], ◌∷◌, Option, Some, Result, IfOk, OnOk}
use Rattle.std.specs.Global.{Vec}
use Rattle.run_sets.specs.declared.run.Run.{Run}
use Rattle.sblock.specs.Area.{area_of, child_of}
use Rattle.sblock.specs.Blocks.{numrecs}
use Rattle.sblock.specs.declared.kind.Kind.{Kind}
use Rattle.sblock.specs.Form.{Form}
use Rattle.tree_defs.specs.Claims.{Leads, is_named}
use Rattle.tree_defs.specs.declared.site.Site.{Site}
use Rattle.tree_claims.specs.Lists.{lists}
use Rattle.tree_blocks.specs.declared.tree.WalkFault.{WalkFault}
use Rattle.tree_blocks.specs.declared.tree.WalkFault.TheVariants.{Bad, Failed, Memory}

-- no block of the tree is refused
abbrev pub IsOutside : WalkFault → Type 0
IsOutside (Bad block fault) = ⊥
IsOutside Failed = Unit {0}
IsOutside Memory = Unit {0}

-- how many blocks the runs have
abbrev pub blocks_in : List Run → ℕ
blocks_in [] = 0
blocks_in (r ∷ rs) = r.count + blocks_in rs

-- all that pass are below the length
abbrev pub LieBelow : ℕ → (ℕ → Bool) → Type 0
LieBelow len p = (b : ℕ) → p b ≡ true → b < len

-- those that pass now passed before, or were added
abbrev pub Grows : (ℕ → Bool) → (ℕ → Bool) → (ℕ → Type 0) → Type 0
Grows before now Added = (b : ℕ) → (now b ≡ true) ↔ ((before b ≡ true) ⊎ Added b)

-- Blocks of this level that pass the test were looked at: those that are named are claimed
-- besides, and the children of those that lead on are reached besides.
pub record Looks {R K : Type 0} (form : Form R K) (site : Site) (m : ℕ → List ℕ) (level : ℕ) (root : Bool) (looked claimed claimed' next next' : ℕ → Bool) : Type 0 where
  pub claims : (b : ℕ) → claimed' b ≡ (claimed b || (looked b && is_named form.kind site b (m b)))
  pub leads : Grows next next' (λ b. (q : ℕ) × (looked q ≡ true) × Leads form site level root q (m q) b)

-- The same of lists that grow, where the blocks are known and the look succeeds ..
abbrev pub LooksOn : {A R K : Type 0} → Form R K → Site → Option (ℕ → List ℕ) → ℕ → Bool → (ℕ → Bool) → List ℕ → List ℕ → List ℕ → List ℕ → Result A WalkFault → Type 0
LooksOn form site told level root looked claimed claimed' next next' result =
    (m : ℕ → List ℕ) → told ≡ Some m → OnOk result (Looks form site m level root looked (lists claimed) (lists claimed') (lists next) (lists next'))

-- .. and of a new list of those that are reached
abbrev pub FindsNext : {R K : Type 0} → Form R K → Site → Option (ℕ → List ℕ) → ℕ → Bool → (ℕ → Bool) → List ℕ → List ℕ → Result (Vec ℕ) WalkFault → Type 0
FindsNext form site told level root looked claimed claimed' result =
    (m : ℕ → List ℕ) → told ≡ Some m → IfOk result (λ next. Looks form site m level root looked (lists claimed) (lists claimed') (λ b. false) (lists next.items))

-- the children of a node, counted off
abbrev pub IsChildOf : Kind → List ℕ → ℕ → Type 0
IsChildOf kind bytes b = (i : ℕ) × (i < numrecs bytes) × (child_of kind (area_of bytes) i ≡ b)
