-- A draft that was compared and joined is an edit of the tree.
use Rattle.std.proofs.Common.{◌++◌, ◌≡◌, ℕ, ◌+◌, ◌≤◌, List, take, drop, Ok, refl, sym, ap, subst, ◌∙◌, inl, inr, arith, take-append-drop}
use Rattle.std.specs.Prelude.{◌⊎◌, Option, Result, IfSome, unwrap_or}
use Rattle.ag_headers.specs.Ring.{FreeRing}
use Rattle.edit_blocks.specs.Choice.{for_list, for_limbo}
use Rattle.blk_device.specs.Contents.{Contents}
use Rattle.blk_device.specs.declared.device.Region.TheVariants.{Image}
use Rattle.byte_fields.specs.declared.block.Block.{Block}
use Rattle.redo_area.specs.Area.{Batch}
use Rattle.meta_txn.specs.Joined.{Joined, bytes_at, written, AreBelow}
use Rattle.sblock.specs.Form.{Form}
use Rattle.sblock.specs.declared.block.BlockFault.{BlockFault}
use Rattle.tree_defs.specs.Lists.{In, times}
use Rattle.tree_defs.specs.Sites.{group_blocks}
use Rattle.tree_defs.specs.Tree.{read_tree}
use Rattle.tree_defs.specs.declared.site.Site.{Site}
use Rattle.tree_blocks.specs.declared.tree.TreeAt.{TreeAt}
use Rattle.tree_walk.specs.Trails.{LieInside}
use Rattle.tree_blocks.proofs.ReadingLemmas.{told as is_told}
use Rattle.join_blocks.specs.Joins.{is_joined, placed_in}
use Rattle.join_blocks.proofs.PutLemmas.{puts_others}
use Rattle.over_blocks.specs.declared.draft.Draft.{Draft}
use Rattle.place_plan.specs.declared.ask.Ask.{Ask}
use Rattle.txn_blocks.specs.Through.{changed}
use Rattle.draft_check.specs.Drafts.{AreStamped}
use Rattle.draft_check.proofs.DraftLemmas.{keeps_joined, puts_stamped, read_joined}
use Rattle.tree_edit.specs.Prepared.{Held, held}
use Rattle.tree_edit.proofs.EditLemmas.{put_below}
use Rattle.tree_edit.proofs.BlockLemmas.{lie_of_inside}
use Rattle.edit_place.specs.Changed.{IsChanged, IsSettled}
use Rattle.edit_place.specs.Checked.{HasBlocks, IsChecked}
use Rattle.edit_place.specs.Placed.{IsPlaced}
use Rattle.edit_place.proofs.NumberLemmas.{in_or_not, moved}

-- a tree is read alike with the same root and levels
same_read : {R K : Type 0} (form : Form R K) (site : Site) (m : ℕ → List ℕ) (root root' levels levels' : ℕ) (read : Result (List R × List ℕ) (ℕ × BlockFault)) → root' ≡ root → levels' ≡ levels → read_tree form site m root levels ≡ read → read_tree form site m root' levels' ≡ read
same_read form site m root root' levels levels' read at tall is =
    ap (λ (r : ℕ). read_tree form site m r levels') at
    ∙ ap (λ (l : ℕ). read_tree form site m root l) tall
    ∙ is

module _ (site : Site) (draft : Draft) (old new : Held) (p : IsPlaced site.first draft old new) where
  -- what is joined is below the image's size, where it was
  pub place_is_below : LieInside site.bounds.length (placed_in draft.placed.items) → (size : ℕ) → site.first + site.bounds.length ≤ size → AreBelow size old.joined.blocks → AreBelow size new.joined.blocks
  place_is_below inside size room below =
      subst (AreBelow size) (sym p.joined) (put_below size site.first draft.placed.items old.joined.blocks below (lie_of_inside size site.first site.bounds.length (placed_in draft.placed.items) room inside))

  pub place_is_settled : IsSettled old new
  place_is_settled = record {
    taken = take draft.taken old.listed;
    kept = drop draft.taken old.listed;
    left = draft.freed.items;
    front = sym (take-append-drop draft.taken old.listed);
    list = p.list;
    limbo = p.limbo;
    marked = p.marked;
    stay = λ at was. ap (λ (ps : Batch). is_joined ps at) p.joined ∙ keeps_joined site.first at draft.placed.items old.joined.blocks was;
    room = p.room;
  }

module _ {R K : Type 0} (form : Form R K) (ask : Ask R) (tree : TreeAt) (txn : Joined) (listed limbo : List ℕ) (about : Option Contents) (draft : Draft) where
  abbrev old_held : Held
  old_held = record { root = tree.root; levels = tree.levels; joined = txn; listed = listed; limbo = limbo }

  module _ (k : IsChecked form ask tree (changed ask.site txn about) listed draft) (new : Held) (p : IsPlaced ask.site.first draft old_held new) where
    -- a block that isn't made has the bytes that it had
    same_bytes : (b : ℕ) → (In b (placed_in draft.placed.items) → ⊥) → bytes_at (ask.site.first + b) new.joined.blocks ≡ bytes_at (ask.site.first + b) txn.blocks
    same_bytes b none =
        ap (bytes_at (ask.site.first + b)) p.joined
        ∙ puts_others ask.site.first (ask.site.first + b) draft.placed.items txn.blocks (λ x there same. none (subst (λ (n : ℕ). In n (placed_in draft.placed.items)) (same_number x b same) there))
      where
        same_number : (x y : ℕ) → ask.site.first + x ≡ ask.site.first + y → x ≡ y
        same_number x y e = omega (arith, e)

    same_written : (b : ℕ) → (In b (placed_in draft.placed.items) → ⊥) → IfSome about (λ c. written (c Image) new.joined (ask.site.first + b) ≡ written (c Image) txn (ask.site.first + b))
    same_written b none = is_told about _ (λ c e. ap (λ (o : Option (List ℕ)). unwrap_or o (c Image (ask.site.first + b))) (same_bytes b none))

    -- a block of the tree that isn't made was one of it before
    was_before : (b : ℕ) → In b k.after → (In b (placed_in draft.placed.items) → ⊥) → In b k.before
    was_before b there none =
        elim (moved b k.after draft.freed.items k.before (take draft.taken listed) (k.has.once b) there) [
          | inl before ↦ before
          | inr taken ↦ absurd (none (k.has.all b taken))
        ]

    pub place_is_changed : IsChanged form ask.site ask.how ask.rec tree.lsn about old_held new
    unfolding place_is_settled
    place_is_changed = record {
      settled = place_is_settled ask.site draft old_held new p;
      recs = k.recs;
      records = k.records;
      before = k.before;
      after = k.after;
      edits = k.edits;
      was = is_told about _ (λ c e. k.was (group_blocks ask.site (written (c Image) txn)) (ap (changed ask.site txn) e));
      is = is_told about _ (λ c e all_written.
          let m = group_blocks ask.site (written (c Image) txn) in
          let read = k.is m (ap (changed ask.site txn) e) in
          let joined = read_joined form ask.site (c Image) draft.placed.items txn new.joined draft.root draft.levels (Ok (k.records, k.after)) p.joined read in
          (k.after, same_read form ask.site (group_blocks ask.site (written (c Image) new.joined)) draft.root new.root draft.levels new.levels (Ok (k.records, k.after)) p.root p.levels joined, λ b. refl));
      once = k.has.once;
      others = λ at none. ap (bytes_at at) p.joined ∙ puts_others ask.site.first at draft.placed.items txn.blocks (λ b there same. none b (k.has.own b there) same);
      stamped = λ b there. elim (in_or_not b (placed_in draft.placed.items)) [
        | inl made ↦ inl (
            let s = puts_stamped ask.site.first tree.lsn draft.placed.items txn.blocks b k.has.stamped made in
            (s.0, ap (bytes_at (ask.site.first + b)) p.joined ∙ s.1, s.2))
        | inr none ↦ inr (was_before b there none, same_written b none)
      ];
      left_stays = λ b there. same_written b (k.has.apart b there);
    }

-- what the comparisons say of the draft's blocks
pub has_all : (lsn : ℕ) (before taken after : List ℕ) (draft : Draft) (own_of all_of apart_of stamped_of : List (ℕ × Block)) (apart_from left : List ℕ) → own_of ≡ draft.placed.items → all_of ≡ draft.placed.items → apart_of ≡ draft.placed.items → stamped_of ≡ draft.placed.items → apart_from ≡ draft.freed.items → left ≡ draft.freed.items
    → ((b : ℕ) → In b (placed_in own_of) → In b before ⊎ In b taken) → ((b : ℕ) → In b taken → In b (placed_in all_of)) → ((b : ℕ) → In b apart_from → In b (placed_in apart_of) → ⊥) → AreStamped lsn stamped_of → ((b : ℕ) → times b after + times b left ≡ times b before + times b taken) → HasBlocks lsn before taken after draft
has_all lsn before taken after draft own_of all_of apart_of stamped_of apart_from left o a n s f l own all apart stamped once = record {
  once = λ b. sym (ap (λ (bs : List ℕ). times b after + times b bs) l) ∙ once b;
  own = λ b there. own b (subst (λ (es : List (ℕ × Block)). In b (placed_in es)) (sym o) there);
  apart = λ b free made. apart b (subst (In b) (sym f) free) (subst (λ (es : List (ℕ × Block)). In b (placed_in es)) (sym n) made);
  all = λ b there. subst (λ (es : List (ℕ × Block)). In b (placed_in es)) a (all b there);
  stamped = subst (AreStamped lsn) s stamped;
}

-- what was joined and is in limbo may have other names
pub placed_in_same : (first : ℕ) (draft : Draft) (tree : TreeAt) (txn txn' : Joined) (list : FreeRing) (limbo limbo' : List ℕ) (new : Held) → txn' ≡ txn → limbo' ≡ limbo → IsPlaced first draft (held tree txn' list limbo') new → IsPlaced first draft (held tree txn list limbo) new
placed_in_same first draft tree txn txn' list limbo limbo' new t l p =
    subst (λ (x : List ℕ). IsPlaced first draft (held tree txn list x) new) l (subst (λ (x : Joined). IsPlaced first draft (held tree x list limbo') new) t p)

-- the list and limbo, by what was taken off the list before and what was given back
pub listed_so : (now mid rest left freed : List ℕ) → now ≡ mid ++ for_list mid left → mid ≡ rest → left ≡ freed → now ≡ rest ++ for_list rest freed
listed_so now mid rest left freed is m l = is ∙ ap (λ (xs : List ℕ). xs ++ for_list xs left) m ∙ ap (λ (bs : List ℕ). rest ++ for_list rest bs) l

pub limbo_so : (now limbo mid rest left freed : List ℕ) → now ≡ limbo ++ for_limbo mid left → mid ≡ rest → left ≡ freed → now ≡ limbo ++ for_limbo rest freed
limbo_so now limbo mid rest left freed is m l = is ∙ ap (λ (xs : List ℕ). limbo ++ for_limbo xs left) m ∙ ap (λ (bs : List ℕ). limbo ++ for_limbo rest bs) l
