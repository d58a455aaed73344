-- What a search from the root meets.
use Rattle.std.proofs.Common.{◌≡◌, ℕ, ◌-◌, ◌<◌, ◌≤◌, Bool, true, false, List, Option, None, Result, Err, refl, ◌∙◌, arith}
use Rattle.std.specs.Prelude.{◌&&◌, nat_le, nat_lt}
use Rattle.std.proofs.lemmas.Bool.Decides.{nat_tests}
use Rattle.run_sets.specs.declared.run.Run.{Run}
use Rattle.sblock.specs.Form.{Form}
use Rattle.sblock.specs.declared.block.BlockFault.TheVariants.{Range}
use Rattle.sblock.proofs.BlockLemmas.{has_level}
use Rattle.tree_defs.specs.Claims.{lone_fault}
use Rattle.sblock.specs.Headers.{left_of}
use Rattle.tree_defs.specs.Tree.{top_of, want_of}
use Rattle.tree_defs.specs.declared.site.Site.{Site}
use Rattle.tree_blocks.specs.Meets.{Refuses, RefusesBlock}
use Rattle.tree_blocks.specs.declared.tree.WalkFault.{WalkFault}
use Rattle.tree_blocks.specs.declared.tree.WalkFault.TheVariants.{Bad, Failed, Memory}
use Rattle.tree_cover.specs.Covering.{Search, cover_in, covering_in}
use Rattle.tree_cover.specs.Found.{MeetsSearch}
use Rattle.tree_cover.proofs.SearchLemmas.{cover_refused}

lies_not : (root len : ℕ) → (1 ≤ root → root < len → ⊥) → (nat_le 1 root && nat_lt root len) ≡ false
lies_not root len h = grind (arith, nat_tests)

pub does_lie : (root len : ℕ) → 1 ≤ root → root < len → (nat_le 1 root && nat_lt root len) ≡ true
does_lie root len a b = grind (arith, nat_tests)

no_level : (levels : ℕ) → (1 ≤ levels → levels ≤ 9 → ⊥) → top_of levels ≡ 9
no_level levels h = let e : (nat_le 1 levels && nat_le levels 9) ≡ false = grind (arith, nat_tests) in rw e refl

pub is_level : (levels : ℕ) → 1 ≤ levels → levels ≤ 9 → top_of levels ≡ levels - 1
is_level levels a b = let e : (nat_le 1 levels && nat_le levels 9) ≡ true = grind (arith, nat_tests) in rw e refl

module _ {R K : Type 0} (form : Form R K) (site : Site) where
  -- a block is never wanted on level 9
  pub none_there : (root : Bool) (p : ℕ) (bytes : List ℕ) → lone_fault form site 9 root p bytes ≡ None → ⊥
  unfolding lone_fault
  none_there root p bytes h = let a = (has_level form bytes (want_of form.kind site 9 root (left_of bytes) p) h).1 in absurd (omega (arith, a))

  module _ (m : ℕ → List ℕ) (run : Run) (after : Option K) where
    pub outside : (root levels : ℕ) → (1 ≤ root → root < site.bounds.length → ⊥) → covering_in form site m run after root levels ≡ Err (root, Range)
    unfolding covering_in
    outside root levels h = rw (lies_not root site.bounds.length h) refl

    at_ninth : (root levels : ℕ) → 1 ≤ root → root < site.bounds.length → (1 ≤ levels → levels ≤ 9 → ⊥) → covering_in form site m run after root levels ≡ cover_in form site m run after 9 true root None
    unfolding covering_in
    at_ninth root levels some below none = rw (does_lie root site.bounds.length some below, no_level levels none) refl

    same_refused : (search other : Search R) (fault : WalkFault) → search ≡ other → Refuses other fault → Refuses search fault
    same_refused search other (Bad p f) e h = e ∙ h
    same_refused search other Failed e h = tt
    same_refused search other Memory e h = tt

    pub levels_refused : (root levels : ℕ) (fault : WalkFault) → 1 ≤ root → root < site.bounds.length → (1 ≤ levels → levels ≤ 9 → ⊥) → RefusesBlock root (lone_fault form site 9 true root (m root)) fault → Refuses (covering_in form site m run after root levels) fault
    levels_refused root levels fault some below none h =
        same_refused (covering_in form site m run after root levels) (cover_in form site m run after 9 true root None) fault (at_ninth root levels some below none) (cover_refused form site m run after 9 true root None fault h)

    pub searched : (root levels : ℕ) (result : Result (Option R) WalkFault) → 1 ≤ root → root < site.bounds.length → 1 ≤ levels → levels ≤ 9 → MeetsSearch (cover_in form site m run after (levels - 1) true root None) result → MeetsSearch (covering_in form site m run after root levels) result
    unfolding covering_in
    searched root levels result some below least most h = rw (does_lie root site.bounds.length some below, is_level levels least most) h
