-- What is reached at each depth of a tree, and how often it is read.
use Rattle.std.specs.Prelude.{◌≡◌, ℕ, zero, suc, ◌+◌, ◌<◌, ◌≤◌, ◌↔◌, Bool, true, List}
use Rattle.run_sets.specs.declared.run.Run.{Run}
use Rattle.run_sets.specs.Runs.{holds, AreMaximal}
use Rattle.sblock.specs.Form.{Form}
use Rattle.tree_defs.specs.Claims.{IsReached, IsClaimed}
use Rattle.tree_defs.specs.declared.site.Site.{Site}
use Rattle.tree_claims.specs.Looks.{blocks_in}

-- how many blocks the first n rows have
abbrev pub rows_in : (ℕ → List Run) → ℕ → ℕ
rows_in rows zero = 0
rows_in rows (suc n) = rows_in rows n + blocks_in (rows n)

-- the blocks that are reached at this depth, each once
pub record IsRow {R K : Type 0} (form : Form R K) (site : Site) (m : ℕ → List ℕ) (root levels depth : ℕ) (row : List Run) : Type 0 where
  pub maximal : AreMaximal 0 row
  pub exact : (b : ℕ) → (holds row b ≡ true) ↔ IsReached form site m root levels depth b

-- There were as many reads as blocks are reached, at nine depths at most: a block is read once for
-- each depth at which it is reached.
pub record ReadsRows {R K : Type 0} (form : Form R K) (site : Site) (m : ℕ → List ℕ) (root levels before now : ℕ) : Type 0 where
  pub rows : ℕ → List Run
  pub exact : (depth : ℕ) → IsRow form site m root levels depth (rows depth)
  pub count : now ≡ before + rows_in rows 9

-- the blocks that a tree claims, by a test
abbrev pub AreClaims : {R K : Type 0} → Form R K → Site → (ℕ → List ℕ) → ℕ → ℕ → (ℕ → Bool) → Type 0
AreClaims form site m root levels has = (b : ℕ) → (has b ≡ true) ↔ IsClaimed form site m root levels b

-- the reads of a tree whose root lies in the group
abbrev pub ReadsInGroup : {R K : Type 0} → Form R K → Site → (ℕ → List ℕ) → ℕ → ℕ → ℕ → ℕ → Type 0
ReadsInGroup form site m root levels before now = 1 ≤ root → root < site.bounds.length → ReadsRows form site m root levels before now
