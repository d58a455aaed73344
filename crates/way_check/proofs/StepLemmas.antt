-- One block of the way upon those below it.
use Rattle.std.proofs.Common.{◌≡◌, ◌≢◌, ℕ, zero, suc, ◌+◌, ◌-◌, ◌<◌, ◌≤◌, Bool, true, false, List, [], ◌∷◌, ◌++◌, None, refl, sym, ap, subst, ◌∙◌, inl, inr, arith}
use Rattle.std.specs.Prelude.{◌⊎◌, ◌==◌, ◌||◌}
use Rattle.byte_fields.specs.Fields.{field}
use Rattle.byte_fields.specs.declared.block.Block.{Block}
use Rattle.block_head.specs.Head.{IsHeaded}
use Rattle.sblock.specs.Area.{area_of, child_of}
use Rattle.sblock.specs.Blocks.{numrecs}
use Rattle.sblock.specs.Form.{Form, IsLawful}
use Rattle.sblock.specs.Headers.{left_of, right_of}
use Rattle.sblock.specs.Lists.{items_from}
use Rattle.sblock.specs.declared.block.Header.{Header}
use Rattle.tree_defs.specs.Claims.{lone_fault}
use Rattle.tree_defs.specs.Levels.{AllEntries, IsRight, entries, blocks_of, over as over_entries}
use Rattle.tree_defs.specs.Lists.{In}
use Rattle.tree_defs.specs.Tree.{Entry, agrees, entry_at, entries_from}
use Rattle.tree_defs.specs.declared.site.Site.{Site}
use Rattle.tree_defs.proofs.LoneFacts.{leaf_room, node_room}
use Rattle.tree_find.proofs.OpenLemmas.{node_some}
use Rattle.list_edit.specs.declared.edits.Edit.{Edit}
use Rattle.over_blocks.specs.Over.{over}
use Rattle.place_laws.specs.Forest.{AllBlocks}
use Rattle.place_plan.specs.declared.ask.Ask.{Ask}
use Rattle.place_plan.specs.declared.ask.Spot.{Spot}
use Rattle.place_ways.specs.Fills.{LiesInside}
use Rattle.place_ways.specs.Ways.{way_in, entry_on, front_on, back_on}
use Rattle.place_turns.specs.Edits.{many_after, edited_record}
use Rattle.place_turns.specs.Leaves.{IsLeafOf}
use Rattle.place_turns.specs.Nodes.{IsNodeOf}
use Rattle.place_made.specs.Made.{IsLeafOver, IsNodeOver}
use Rattle.way_check.specs.Checks.{frame_of, is_placed, HasEdit, HasChild, IsStep, IsWay, Passes}
use Rattle.way_check.specs.Way.{block_span, IsKeyedBy, AreEntriesBy, WayFrom}
use Rattle.way_check.proofs.HeadLemmas.{header_in, headed_of}
use Rattle.way_check.proofs.NodeLemmas.{entries_are}
use Rattle.way_check.proofs.OverLemmas.{over_last, over_others, over_stays, placed_last}

in_first : (b : ℕ) (xs ys : List ℕ) → In b xs → In b (xs ++ ys)
in_first b [] ys h = absurd h
in_first b (x ∷ xs) ys h = elim h [ inl is ↦ inl is | inr there ↦ inr (in_first b xs ys there) ]

in_rest : (b : ℕ) (xs ys : List ℕ) → In b ys → In b (xs ++ ys)
in_rest b [] ys h = h
in_rest b (x ∷ xs) ys h = inr (in_rest b xs ys h)

-- what one of the items leads to is among what all of them lead to
in_over : {K : Type 0} (f : ℕ → List ℕ) (item : ℕ → Entry K) (b n i k : ℕ) → k < n → In b (f (item (i + k)).child) → In b (over_entries f (items_from item n i))
in_over f item b zero i k lt h = absurd (omega (arith, lt))
in_over f item b (suc n) i zero lt h = let z : i + 0 ≡ i = omega arith in in_first b (f (item i).child) (over_entries f (items_from item n (i + 1))) (subst (λ (j : ℕ). In b (f (item j).child)) z h)
in_over f item b (suc n) i (suc k) lt h =
    let z : i + suc k ≡ (i + 1) + k = omega arith in
    in_rest b (f (item i).child) (over_entries f (items_from item n (i + 1)))
    (in_over f item b n (i + 1) k (omega (arith, lt)) (subst (λ (j : ℕ). In b (f (item j).child)) z h))

first_at : (k : ℕ) → 0 + k ≡ k
first_at k = omega arith

module _ {R K : Type 0} (form : Form R K) (site : Site) where
  -- the header of a block that passes, with these siblings
  headed_beside : (level : ℕ) (root : Bool) (p left right : ℕ) (bytes : List ℕ) → lone_fault form site level root p bytes ≡ None → left_of bytes ≡ left → right_of bytes ≡ right
      → IsHeaded form.kind (record { level = level; numrecs = numrecs bytes; left = left; right = right; lsn = field 8 bytes 24 }) (frame_of site) p bytes
  headed_beside level root p left right bytes h l r =
      subst (λ (x : ℕ). IsHeaded form.kind (record { level = level; numrecs = numrecs bytes; left = x; right = right; lsn = field 8 bytes 24 }) (frame_of site) p bytes) l
      (subst (λ (x : ℕ). IsHeaded form.kind (record { level = level; numrecs = numrecs bytes; left = left_of bytes; right = x; lsn = field 8 bytes 24 }) (frame_of site) p bytes) r (headed_of form site level root p bytes h))

  right_is : (n : ℕ → List ℕ) (level : ℕ) (root : Bool) (p : ℕ) (bytes : List ℕ) → n p ≡ bytes → lone_fault form site level root p bytes ≡ None → IsRight form n site level root p
  unfolding lone_fault
  right_is n level root p bytes is h = rw is h

module _ {R K : Type 0} (form : Form R K) (law : IsLawful form) (ask : Ask R) (m : ℕ → List ℕ) (root : Bool) (p : ℕ) (new : Block) where
  abbrev spot_at : ℕ → Spot
  spot_at level = record { level = level; root = root; block = p }

  -- ---- a leaf

  module _ (pass : Passes form ask.site (spot_at 0) (m p) new.bytes) (edit : HasEdit form ask.how ask.rec (m p) new.bytes) where
    abbrev leaf_now : ℕ → List ℕ
    leaf_now = over ((p, new) ∷ []) m

    abbrev leaf_recs : List R
    leaf_recs = items_from (edited_record form ask.how ask.rec (m p) edit.at) (many_after ask.how (numrecs (m p))) 0

    leaf_bytes : leaf_now p ≡ new.bytes
    leaf_bytes = over_last [] (p, new) m p refl

    leaf_of : IsLeafOf form ask.site (frame_of ask.site) p (left_of (m p)) (right_of (m p)) leaf_recs new.bytes
    leaf_of = record {
      count = numrecs new.bytes;
      lsn = field 8 new.bytes 24;
      head = headed_beside form ask.site 0 root p (left_of (m p)) (right_of (m p)) new.bytes pass.lone pass.left pass.right;
      room = leaf_room form ask.site 0 root p new.bytes pass.lone refl;
      recs_are = edit.recs_are;
    }

    leaf_own : (b : ℕ) → is_placed b ((p, new) ∷ []) ≡ true → In b (blocks_of form m 0 p)
    unfolding blocks_of
    leaf_own b h = elim (placed_last [] (p, new) b h) [ inl is ↦ inl is | inr there ↦ let z : false ≡ true = there in absurd cc ]

    pub leaf_way : IsWay form ask ((p, new) ∷ []) m (spot_at 0)
    unfolding over
    leaf_way = record {
      way = inl (
        refl,
        refl,
        record {
          at = edit.at;
          place = edit.place;
          leaf = subst (IsLeafOf form ask.site (frame_of ask.site) p (left_of (m p)) (right_of (m p)) leaf_recs) (sym leaf_bytes) leaf_of;
          others = λ b other. over_others [] (p, new) m p b refl other;
        },
      );
      right = right_is form ask.site leaf_now 0 root p new.bytes leaf_bytes pass.lone;
      own = leaf_own;
    }

  -- ---- a node

  module _ (level : ℕ) (lower : List (ℕ × Block)) (child : ℕ) (pass : Passes form ask.site (spot_at (suc level)) (m p) new.bytes) (step : IsStep form ask level (m p) new.bytes lower child) (none : is_placed p lower ≡ false)
      (below : IsWay form ask lower m (record { level = level; root = false; block = child })) where
    abbrev low : ℕ → List ℕ
    low = over lower m

    abbrev now : ℕ → List ℕ
    now = over (lower ++ (p, new) ∷ []) m

    abbrev at : ℕ
    at = way_in form ask.rec (m p)

    abbrev entry : Entry K
    entry = entry_at form (area_of new.bytes) at

    abbrev all_entries : List (Entry K)
    all_entries = front_on form ask.rec (m p) ++ ((entry ∷ []) ++ back_on form ask.rec (m p))

    now_bytes : now p ≡ new.bytes
    now_bytes = over_last lower (p, new) m p refl

    low_bytes : low p ≡ m p
    low_bytes = over_stays lower m p none

    child_bytes : low child ≡ step.top.1.bytes
    child_bytes = ap (λ (es : List (ℕ × Block)). over es m child) step.are ∙ over_last step.front step.top m child step.number

    entry_child : entry.child ≡ child
    entry_child = step.has.child ∙ step.child_is

    node_of : IsNodeOf form ask.site (frame_of ask.site) level p (left_of (m p)) (right_of (m p)) all_entries new.bytes
    node_of = record {
      count = numrecs new.bytes;
      lsn = field 8 new.bytes 24;
      head = headed_beside form ask.site (suc level) root p (left_of (m p)) (right_of (m p)) new.bytes pass.lone pass.left pass.right;
      some = node_some form ask.site (suc level) root p new.bytes pass.lone (omega arith);
      room = node_room form ask.site (suc level) root p new.bytes pass.lone (omega arith);
      same = entries_are form law ask.site level ask.rec (m p) new.bytes step.top.1.bytes step.has;
    }

    node_over : IsNodeOver form ask.site (frame_of ask.site) ask.how ask.rec m low now level p (entry ∷ [])
    node_over = record {
      node =
          subst (λ (b : List ℕ). IsNodeOf form ask.site (frame_of ask.site) level p (left_of b) (right_of b) all_entries (now p)) (sym low_bytes)
          (subst (IsNodeOf form ask.site (frame_of ask.site) level p (left_of (m p)) (right_of (m p)) all_entries) (sym now_bytes) node_of);
      others = λ b other. over_others lower (p, new) m p b refl other;
    }

    keyed : IsKeyedBy form low level entry
    keyed = subst (λ (b : List ℕ). agrees form entry (block_span form level b) ≡ true) (sym (ap low entry_child ∙ child_bytes)) step.has.keyed

    lies : LiesInside ask.site entry
    lies = subst (λ (c : ℕ). (1 ≤ c) × (c < ask.site.bounds.length)) (sym entry_child) (step.some, step.inside)

    entries_by : AreEntriesBy form ask.site (frame_of ask.site) ask.how ask.rec low level (child ∷ []) (entry ∷ [])
    entries_by = record {
      lead = ap (λ (c : ℕ). c ∷ []) entry_child;
      keyed = (keyed, tt);
      inside = (lies, tt);
      full = (below.right, tt);
    }

    way_below : WayFrom form ask.site (frame_of ask.site) ask.how ask.rec m low level (entry_on form ask.rec (m p)).child (child ∷ []) []
    way_below = subst (λ (c : ℕ). WayFrom form ask.site (frame_of ask.site) ask.how ask.rec m low level c (child ∷ []) []) (sym step.child_is) below.way

    own_below : (b : ℕ) → In b (blocks_of form m level child) → In b (over_entries (blocks_of form m level) (entries form m p))
    unfolding entries_from
    own_below b h =
        in_over (blocks_of form m level) (entry_at form (area_of (m p))) b (numrecs (m p)) 0 at step.has.inside
        (subst (λ (c : ℕ). In b (blocks_of form m level c)) (sym (ap (child_of form.kind (area_of (m p))) (first_at at) ∙ step.child_is)) h)

    node_own : (b : ℕ) → is_placed b (lower ++ (p, new) ∷ []) ≡ true → In b (blocks_of form m (suc level) p)
    unfolding blocks_of
    node_own b h = elim (placed_last lower (p, new) b h) [ inl is ↦ inl is | inr there ↦ inr (own_below b (below.own b there)) ]

    pub node_way : IsWay form ask (lower ++ (p, new) ∷ []) m (spot_at (suc level))
    node_way = record {
      way = (low, child ∷ [], [], [], entry ∷ [], way_below, entries_by, refl, inl (refl, refl, node_over));
      right = right_is form ask.site now (suc level) root p new.bytes now_bytes pass.lone;
      own = node_own;
    }

-- ---- as the blocks are compared

module _ {R K : Type 0} (form : Form R K) (law : IsLawful form) (ask : Ask R) (m : ℕ → List ℕ) (spot : Spot) (placed lower : List (ℕ × Block)) (last : ℕ × Block) (old : List ℕ) (are : placed ≡ lower ++ last ∷ []) (number : last.0 ≡ spot.block) (reads : old ≡ m spot.block)
    (pass : Passes form ask.site spot old last.1.bytes) where
  abbrev spot_of : ℕ → Spot
  spot_of level = record { level = level; root = spot.root; block = spot.block }

  -- of the last of the blocks that were made
  as_placed : (level : ℕ) → spot.level ≡ level → IsWay form ask (lower ++ (spot.block, last.1) ∷ []) m (spot_of level) → IsWay form ask placed m spot
  as_placed level tall way =
      subst (λ (ps : List (ℕ × Block)). IsWay form ask ps m spot) (sym are)
      (subst (λ (b : ℕ). IsWay form ask (lower ++ (b, last.1) ∷ []) m spot) (sym number)
      (subst (λ (l : ℕ). IsWay form ask (lower ++ (spot.block, last.1) ∷ []) m (spot_of l)) (sym tall) way))

  passes_at : (level : ℕ) → spot.level ≡ level → Passes form ask.site (spot_of level) (m spot.block) last.1.bytes
  passes_at level tall =
      subst (λ (b : List ℕ). Passes form ask.site (spot_of level) b last.1.bytes) reads
      (subst (λ (l : ℕ). Passes form ask.site (spot_of l) old last.1.bytes) tall pass)

  pub leaf_up : spot.level ≡ 0 → lower ≡ [] → HasEdit form ask.how ask.rec old last.1.bytes → IsWay form ask placed m spot
  leaf_up tall none edit =
      as_placed 0 tall
      (subst (λ (ps : List (ℕ × Block)). IsWay form ask (ps ++ (spot.block, last.1) ∷ []) m (spot_of 0)) (sym none)
      (leaf_way form law ask m spot.root spot.block last.1 (passes_at 0 tall) (subst (λ (b : List ℕ). HasEdit form ask.how ask.rec b last.1.bytes) reads edit)))

  pub node_up : (level child : ℕ) → spot.level ≡ suc level → is_placed spot.block lower ≡ false → IsStep form ask level old last.1.bytes lower child → IsWay form ask lower m (record { level = level; root = false; block = child }) → IsWay form ask placed m spot
  node_up level child tall none step below =
      as_placed (suc level) tall
      (node_way form law ask m spot.root spot.block last.1 level lower child (passes_at (suc level) tall) (subst (λ (b : List ℕ). IsStep form ask level b last.1.bytes lower child) reads step) none below)
