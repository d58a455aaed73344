-- A tree that was walked, as it is read.
use Rattle.std.proofs.Common.{◌≡◌, ℕ, ◌<◌, ◌≤◌, ◌+◌, ◌*◌, ◌^◌, Bool, true, false, length, arith, List, Result, Ok, Err, IfOk, sym, ap, ◌∙◌}
use Rattle.std.specs.Prelude.{◌-◌, ◌==◌, if◌then◌else◌}
use Rattle.fs_state.specs.Kinds.{Heads, Image, heads_of, level_of, root_of}
use Rattle.fs_state.specs.Read.{Read}
use Rattle.fs_state.specs.State.{Readable, Unreadable}
use Rattle.geom.specs.Apart.{HasFitting}
use Rattle.geom.specs.Layout.{Layout, group_len_of}
use Rattle.inode_pass.specs.declared.stop.PassStop.{PassStop}
use Rattle.group_trees.specs.Trees.{IsBad, IsFewRead, IsInsideRead, IsRead, IsSoundRead, read_as, tree_by, tree_claimed, tree_in, tree_walked}
use Rattle.group_trees.specs.declared.reads.Walked.{Walked}
use Rattle.group_trees.specs.declared.reads.Walked.TheVariants as walks
use Rattle.sblock.specs.Form.{Form, IsLawful}
use Rattle.sblock.specs.Headers.{no_block}
use Rattle.sblock.specs.declared.kind.Kind.{Kind}
use Rattle.sblock.specs.declared.block.BlockFault.{BlockFault}
use Rattle.sblock.specs.declared.block.Bounds.{Bounds}
use Rattle.tree_blocks.specs.Meets.{Refuses}
use Rattle.tree_blocks.specs.declared.tree.TreeRead.{TreeRead}
use Rattle.tree_blocks.specs.declared.tree.WalkFault.{WalkFault}
use Rattle.tree_defs.proofs.Rows.{blocks_differ_lem}
use Rattle.tree_defs.proofs.Trees.{reads_trees_lem}
use Rattle.tree_defs.specs.Sites.{site_of, group_blocks}
use Rattle.tree_defs.specs.Tree.{read_tree}
use Rattle.tree_walk.specs.Meets.{MeetsTree}

module _ {R K : Type 0} (form : Form R K) (at : Layout) (image : Image) (g root levels : ℕ) where
  pub whole_read : (read : TreeRead R) → MeetsTree (read_tree form (site_of at g) (group_blocks (site_of at g) image) root levels) (Ok read) → IsRead (tree_walked form at image g root levels) (Ok (walks.Whole read))
  unfolding tree_walked
  whole_read read h = h

  pub not_read : (fault : WalkFault) (result : Result (Walked R) PassStop) → Refuses (read_tree form (site_of at g) (group_blocks (site_of at g) image) root levels) fault → ((read : Read R) → Refuses read fault → IsRead read result) → IsRead (tree_walked form at image g root levels) result
  unfolding tree_walked
  not_read fault result h so = so _ h

  pub read_whole : (recs : List R) (blocks : List ℕ) → tree_walked form at image g root levels ≡ Ok (recs, blocks) → Readable recs blocks ≡ tree_in form at image g root levels
  read_whole recs blocks is = ap (λ r. read_as r (tree_claimed form at image g root levels)) (sym is)

  pub read_bad : (block : ℕ) (fault : BlockFault) (claims : List ℕ) → tree_walked form at image g root levels ≡ Err (block, fault) → claims ≡ tree_claimed form at image g root levels → Unreadable block fault claims ≡ tree_in form at image g root levels
  read_bad block fault claims is same =
      let r : Read R = Err (block, fault) in
      ap (λ (bs : List ℕ). read_as r bs) same ∙ ap (λ r. read_as r (tree_claimed form at image g root levels)) (sym is)

pub bad_is_sound : {R K : Type 0} (form : Form R K) (bounds : Bounds) (result : Result (Walked R) PassStop) → IfOk result IsBad → IfOk result (IsSoundRead form bounds)
bad_is_sound form bounds (Ok (walks.Whole read)) bad = absurd bad
bad_is_sound form bounds (Ok (walks.Bad block fault)) bad = tt
bad_is_sound form bounds (Err stop) bad = tt

pub bad_is_few : {R : Type 0} (len : ℕ) (result : Result (Walked R) PassStop) → IfOk result IsBad → IfOk result (IsFewRead len)
bad_is_few len (Ok (walks.Whole read)) bad = absurd bad
bad_is_few len (Ok (walks.Bad block fault)) bad = tt
bad_is_few len (Err stop) bad = tt

len_or : (b : Bool) (x y m : ℕ) → x ≤ y → y ≤ m → (if b then x else y) ≤ m
len_or true x y m p q = omega (arith, p, q)
len_or false x y m p q = q

pub group_short : (at : Layout) (g : ℕ) → HasFitting at → group_len_of at g ≤ 268435456
group_short at g fit = len_or (g + 1 == at.agcount) (at.dblocks - (at.agcount - 1) * at.agblocks) at.agblocks 268435456 fit.last_short fit.short_groups

pub whole_few : {R K : Type 0} (form : Form R K) (at : Layout) (image : Image) (g root levels : ℕ) (read : TreeRead R) → IsLawful form → HasFitting at → MeetsTree (read_tree form (site_of at g) (group_blocks (site_of at g) image) root levels) (Ok read) → length read.blocks.items < group_len_of at g
unfolding site_of
whole_few form at image g root levels read law fit is =
    let site = site_of at g in
    let short = group_short at g fit in
    let bound : site.bounds.length ≤ no_block = omega (arith, short) in
    (blocks_differ_lem form site (group_blocks site image) root levels read.recs.items read.blocks.items bound ((reads_trees_lem form law site (group_blocks site image) root levels read.recs.items read.blocks.items).0 is)).1

-- so few that heads can count them
pub few_of_group : {R : Type 0} (len : ℕ) (recs : List R) (blocks : List ℕ) → len ≤ 268435456 → length blocks < len → length blocks < 2 ^ 32
few_of_group len recs blocks short few = omega (arith, short, few)

pub bad_is_inside : {R : Type 0} (len : ℕ) (result : Result (Walked R) PassStop) → IfOk result IsBad → IfOk result (IsInsideRead len)
bad_is_inside len (Ok (walks.Whole read)) bad = absurd bad
bad_is_inside len (Ok (walks.Bad block fault)) bad = tt
bad_is_inside len (Err stop) bad = tt

-- a tree that stands where the heads name it
pub tree_named : {R K : Type 0} (form : Form R K) (at : Layout) (image : Image) (g group root levels : ℕ) (kind : Kind) (h : Heads) → kind ≡ form.kind → group ≡ g → root ≡ root_of h kind → levels ≡ level_of h kind → h ≡ heads_of at image g → tree_in form at image group root levels ≡ tree_by form at image g
unfolding tree_by
tree_named form at image g group root levels kind h ki gi ri li hi =
    let rooted : root ≡ root_of (heads_of at image g) form.kind = ri ∙ ap (λ k. root_of h k) ki ∙ ap (λ x. root_of x form.kind) hi in
    let levelled : levels ≡ level_of (heads_of at image g) form.kind = li ∙ ap (λ k. level_of h k) ki ∙ ap (λ x. level_of x form.kind) hi in
    ap (λ x. tree_in form at image x root levels) gi
    ∙ ap (λ x. tree_in form at image g x levels) rooted
    ∙ ap (λ x. tree_in form at image g (root_of (heads_of at image g) form.kind) x) levelled
