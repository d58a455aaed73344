-- Of a readable tree a walk reads each block once.
use Rattle.std.proofs.Common.{◌≡◌, ℕ, zero, suc, ◌+◌, ◌<◌, Bool, true, false, List, [], ◌∷◌, ◌++◌, length, length-append, Option, Some, None, Ok, Err, refl, sym, subst, ◌∙◌, ap, arith}
use Rattle.std.specs.Prelude.{nat_le, nat_lt, ◌&&◌}
use Rattle.sblock.specs.Form.{Form, IsLawful}
use Rattle.sblock.specs.declared.block.BlockFault.{BlockFault}
use Rattle.sblock.specs.declared.block.BlockFault.TheVariants.{Key}
use Rattle.tree_defs.specs.Levels.{over, entries, blocks_of, IsTree}
use Rattle.sblock.specs.Spans.{join}
use Rattle.tree_defs.specs.Tree.{Trail, Entry, Read, agrees, noted, fresh, fault_here, top_of, read_children, read_node, read_tree}
use Rattle.tree_defs.specs.Walked.{unless_fault, walked_children, walked_node, walked, CountsBlocks}
use Rattle.sblock.specs.declared.spans.Span.{Span}
use Rattle.tree_defs.specs.declared.site.Site.{Site}
use Rattle.tree_defs.proofs.Parts.{bool_ok, tested_ok, child_ok}
use Rattle.tree_defs.proofs.Trees.{closed_ok, is_level, reads_trees_lem}

module _ {R K : Type 0} (form : Form R K) (site : Site) (m : ℕ → List ℕ) where
  all_counted : (level : ℕ) → ((q : ℕ) (t : Trail R) (x : Trail R × Option (Span K)) → read_node form site m level false q t ≡ Ok x → walked_node form site m level false q t ≡ length (blocks_of form m level q)) → (p : ℕ) (es : List (Entry K)) (t : Trail R) (first : Option (Span K)) (x : Trail R × Option (Span K)) → read_children form (read_node form site m level false) p es t first ≡ Ok x → walked_children form (read_node form site m level false) (walked_node form site m level false) es t ≡ length (over (blocks_of form m level) es)
  unfolding read_children walked_children
  all_counted level below p [] t first x h = refl
  all_counted level below p (e ∷ es) t first x h =
      let c = child_ok form (read_node form site m level false e.child t) e (λ y. read_children form (read_node form site m level false) p es y.0 (join form first y.1)) (p, Key) x h in
      let mine = below e.child t c.0 c.1 in
      let others = all_counted level below p es c.0.0 (join form first c.0.1) x c.3 in
      rw (c.1, c.2) (omega (arith, mine, others, length-append (blocks_of form m level e.child) (over (blocks_of form m level) es)))

  node_counted : (level : ℕ) (root : Bool) (p : ℕ) (t : Trail R) (x : Trail R × Option (Span K)) → read_node form site m level root p t ≡ Ok x → walked_node form site m level root p t ≡ length (blocks_of form m level p)
  unfolding read_node walked_node blocks_of
  node_counted zero root p t x h = refl
  node_counted (suc level) root p t x h =
      let a = tested_ok (fault_here form site t (suc level) root p (m p)) p _ x h in
      rw (a.0) (ap suc (all_counted level (λ q v y hv. node_counted level false q v y hv) p (entries form m p) (noted t (suc level) p (m p)) None x a.1))

pub counts_blocks_lem : {R K : Type 0} (form : Form R K) → IsLawful form → CountsBlocks form
unfolding read_tree walked
counts_blocks_lem form law site m root levels recs blocks h =
    let t = (reads_trees_lem form law site m root levels recs blocks).0 h in
    let a = bool_ok (nat_le 1 root && nat_lt root site.bounds.length) _ _ (recs, blocks) h in
    let c = closed_ok levels (read_node form site m (top_of levels) true root fresh) recs blocks a.1 in
    let same = is_level levels t.has_levels in
    let n = node_counted form site m (top_of levels) true root fresh c.0 c.1 in
    rw (a.0) (n ∙ ap (λ (l : ℕ). length (blocks_of form m l root)) same ∙ sym (ap length t.blocks_are))
