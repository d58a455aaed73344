-- Images that agree in the blocks below a root are read alike.
use Rattle.std.proofs.Common.{◌≡◌, ℕ, zero, suc, Bool, true, false, List, [], ◌∷◌, ◌++◌, Option, None, Ok, Err, refl, ap, sym}
use Rattle.std.specs.Prelude.{if◌then◌else◌}
use Rattle.sblock.specs.Form.{Form}
use Rattle.sblock.specs.declared.block.BlockFault.TheVariants.{Key}
use Rattle.tree_defs.specs.Frame.{SameAt, ReadsOwnBlocks}
use Rattle.tree_defs.specs.Levels.{over, entries, blocks_of}
use Rattle.sblock.specs.Spans.{join}
use Rattle.tree_defs.specs.Tree.{Trail, Entry, Read, agrees, noted, fault_here, tested, fresh, top_of, read_children, read_node, read_tree}
use Rattle.sblock.specs.declared.spans.Span.{Span}
use Rattle.tree_defs.specs.declared.site.Site.{Site}

same_left : (m n : ℕ → List ℕ) (xs ys : List ℕ) → SameAt m n (xs ++ ys) → SameAt m n xs
same_left m n [] ys h = tt
same_left m n (x ∷ xs) ys h = (h.0, same_left m n xs ys h.1)

same_right : (m n : ℕ → List ℕ) (xs ys : List ℕ) → SameAt m n (xs ++ ys) → SameAt m n ys
same_right m n [] ys h = h
same_right m n (x ∷ xs) ys h = same_right m n xs ys h.1

same_if : {A : Type 0} (b : Bool) (x y z : A) → x ≡ y → (if b then x else z) ≡ (if b then y else z)
same_if true x y z h = h
same_if false x y z h = refl

module _ {R K : Type 0} (form : Form R K) where
  same_step : (p : ℕ) (e : Entry K) (read : Read R K) (go more : Trail R × Option (Span K) → Read R K) → ((y : Trail R × Option (Span K)) → go y ≡ more y) → ◌≡◌ {A = Read R K} (elim read as (λ v. Read R K) [ Err f ↦ Err f | Ok y ↦ if agrees form e y.1 then go y else Err (p, Key) ]) (elim read as (λ v. Read R K) [ Err f ↦ Err f | Ok y ↦ if agrees form e y.1 then more y else Err (p, Key) ])
  same_step p e (Err f) go more h = refl
  same_step p e (Ok y) go more h = same_if (agrees form e y.1) (go y) (more y) (Err (p, Key)) (h y)

  abbrev AllAlike : (ℕ → Trail R → Read R K) → (ℕ → Trail R → Read R K) → List (Entry K) → Type 0
  AllAlike below other [] = Unit {0}
  AllAlike below other (e ∷ es) = ((t : Trail R) → other e.child t ≡ below e.child t) × AllAlike below other es

  same_children : (below other : ℕ → Trail R → Read R K) (p : ℕ) (es : List (Entry K)) → AllAlike below other es → (t : Trail R) (span : Option (Span K)) → read_children form other p es t span ≡ read_children form below p es t span
  unfolding read_children
  same_children below other p [] h t span = refl
  same_children below other p (e ∷ es) h t span =
      rw (h.0 t, read_children) (same_step p e (below e.child t) (λ y. read_children form other p es y.0 (join form span y.1)) (λ y. read_children form below p es y.0 (join form span y.1)) (λ y. same_children below other p es h.1 y.0 (join form span y.1)))

  module _ (site : Site) (m n : ℕ → List ℕ) where
    all_alike : (level : ℕ) → ((q : ℕ) → SameAt m n (blocks_of form m level q) → (t : Trail R) → read_node form site n level false q t ≡ read_node form site m level false q t) → (es : List (Entry K)) → SameAt m n (over (blocks_of form m level) es) → AllAlike (read_node form site m level false) (read_node form site n level false) es
    all_alike level below [] h = tt
    all_alike level below (e ∷ es) h =
        (λ t. below e.child (same_left m n (blocks_of form m level e.child) (over (blocks_of form m level) es) h) t, all_alike level below es (same_right m n (blocks_of form m level e.child) (over (blocks_of form m level) es) h))

    same_node : (level : ℕ) (root : Bool) (p : ℕ) → SameAt m n (blocks_of form m level p) → (t : Trail R) → read_node form site n level root p t ≡ read_node form site m level root p t
    unfolding read_node blocks_of
    same_node zero root p h t = let e : n p ≡ m p = sym h.0 in rw e refl
    same_node (suc level) root p h t =
        let e : n p ≡ m p = sym h.0 in
        let a = all_alike level (λ q hq v. same_node level false q hq v) (entries form m p) h.1 in
        rw e (ap (tested (fault_here form site t (suc level) root p (m p)) p) (same_children (read_node form site m level false) (read_node form site n level false) p (entries form m p) a (noted t (suc level) p (m p)) None))

    same_tree : (root levels : ℕ) → SameAt m n (blocks_of form m (top_of levels) root) → read_tree form site n root levels ≡ read_tree form site m root levels
    unfolding read_tree
    same_tree root levels h = rw (same_node (top_of levels) true root h fresh) refl

pub reads_own_blocks_lem : {R K : Type 0} (form : Form R K) → ReadsOwnBlocks form
reads_own_blocks_lem form site m n root levels h = same_tree form site m n root levels h
