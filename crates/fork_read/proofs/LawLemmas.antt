-- Pieces one after another are the whole fork, or end in its first fault.
use Rattle.std.proofs.Common.{◌≡◌, ℕ, zero, suc, ◌+◌, ◌-◌, ◌<◌, ◌≤◌, Bool, true, false, List, [], ◌∷◌, ◌++◌, length, map, Option, Some, None, Result, Ok, Err, refl, ap, sym, subst, ◌∙◌, inl, inr, append-nil, arith}
use Rattle.std.specs.Prelude.{◌⊎◌, ◌&&◌, nat_le}
use Rattle.std.proofs.lemmas.Bool.{cases_Bool, false≢true}
use Rattle.std.proofs.lemmas.Bool.Decides.{nat_tests}
use Rattle.std.proofs.lemmas.List.{append_assoc}
use Rattle.geom.specs.Layout.{Layout}
use Rattle.dinode_core.specs.declared.inode.Core3.{Core3}
use Rattle.dinode_core.specs.declared.mapping.Mapping.{Mapping}
use Rattle.dinode_core.specs.declared.mapping.Fork.{Fork}
use Rattle.dinode_core.specs.declared.mapping.ForkFault.{ForkFault}
use Rattle.dinode_core.specs.declared.mapping.ForkFault.TheVariants as faults
use Rattle.dinode_core.specs.Inline.{first_bad, form_fault, inline_fault, inline_mappings, or_else, root_level}
use Rattle.dinode_core.specs.Shape.{area_of}
use Rattle.dinode_core.specs.ForkTree.{Image, Trail, TreeBlock, block_fault, ends, ends_at, is_tree, met_of, start, walk_fault, walk_tree}
use Rattle.fork_read.specs.declared.fault.ForkPiece.{ForkPiece}
use Rattle.fork_read.specs.declared.tasks.Task.{Task}
use Rattle.fork_read.specs.declared.walk.Stop.{Stop as Way}
use Rattle.fork_read.specs.declared.walk.Stop.TheVariants.{Bad, Whole, Left, Long, Fallen}
use Rattle.fork_read.specs.Answers.{IsPiece, given_of, judged, may_stop, next_of}
use Rattle.fork_read.specs.Parts.{Each}
use Rattle.fork_read.specs.Pieces.{Ends, IsForkFault, IsTreeFault, IsTreePiece}
use Rattle.fork_read.specs.Stuck.{EndsLeaf, IsBehind, IsBorder, IsStuck}
use Rattle.fork_read.specs.Walk.{Leaves, first_tasks, walk_all, walk_tasks}
use Rattle.fork_read.specs.Whole.{Follow, IsCut, IsUnseen, IsWhole, LastBad, all_blocks, all_mappings}
use Rattle.fork_read.proofs.BadLemmas.{last_of, may_end_here}
use Rattle.fork_read.proofs.FirstLemmas.{or_none, shown_first}
use Rattle.fork_read.proofs.JoinLemmas.{Come, Edge, View, bad_there, edge, edge_first, goes_there, leaf_adds, none_before, stops, view, view_first}
use Rattle.fork_read.proofs.PieceLemmas.{form_none}
use Rattle.fork_read.proofs.RestLemmas.{FromKey, met_by, rest_adds, tasks_add}
use Rattle.fork_read.proofs.RiseLemmas.{Clears, all_before, bad_stays, cancel, good_front, inner_or_last, none_bad, none_kept}
use Rattle.fork_read.proofs.RootLemmas.{root_facts}
use Rattle.fork_read.proofs.RunLemmas.{walked}
use Rattle.fork_read.proofs.StandLemmas.{each_back}
use Rattle.fork_read.proofs.NextLemmas.{Begins}
use Rattle.fork_read.proofs.WalkLemmas.{bad_block, border_leaves, leaves_join, none_popped}
use Rattle.fork_read.proofs.WholeLemmas.{all_kept, else_parts, some_none, tree_same}

-- the same last blocks end alike
ends_alike : (n : ℕ) (t u : Trail) → ((l : ℕ) → l < n → t.last l ≡ u.last l) → ends n t ≡ ends n u
ends_alike zero t u h = refl
ends_alike (suc n) t u h = λ i. ends_alike n t u (λ l low. h l (omega (arith, low))) i && ends_at (h n (omega arith) i)

none_left : (n : ℕ) → ◌≡◌ {A = Option ℕ} None (Some n) → ⊥
none_left n e = cc

module _ (at : Layout) (image : Image) (core : Core3) (fork : Fork) where
  abbrev top : ℕ
  top = root_level (area_of core fork) - 1

  abbrev pub from_there : ℕ → List Mapping → List ℕ → Type 0
  from_there from ms bs = Come at image core fork from ms bs ⊎ ((from ≡ 0) × (ms ≡ []) × (bs ≡ []))

  -- what is known once pieces have these mappings and blocks
  abbrev pub EndOf : Option ℕ → List Mapping → List ℕ → Type 0
  EndOf None ms bs = IsWhole at image core fork ms bs
  EndOf (Some from) ms bs = from_there from ms bs

  pub whole_walk : (r : Result Trail Trail) (ys : List Task) (t : Trail) (n : ℕ) → Leaves at image core 0 (first_tasks core fork 0) start n ys t → walk_tasks at image core 0 ys t ≡ r → walk_tree at image core fork ≡ r
  unfolding walk_all
  whole_walk r ys t n h e = sym (tree_same at image core fork) ∙ walked at image core 0 (first_tasks core fork 0) ys start t n h ∙ e

  pub any_view : (from : ℕ) (ms : List Mapping) (bs : List ℕ) (ys : List Task) (v : Trail) (n : ℕ) → (c : from_there from ms bs) → ((c : Come at image core fork from ms bs) → suc top ≤ n) → Leaves at image core from (first_tasks core fork from) start n ys v → View at image core fork from ms bs ys v
  any_view from ms bs ys v n (inl c) far h = view at image core fork from ms bs c ys v n (far c) h
  any_view from ms bs ys v n (inr e) far h =
      let first = view_first at image core fork ys v n (subst (λ k. Leaves at image core k (first_tasks core fork k) start n ys v) e.0 h) in
      as_view e first
    where
      as_view : (from ≡ 0) × (ms ≡ []) × (bs ≡ []) → View at image core fork 0 [] [] ys v → View at image core fork from ms bs ys v
      as_view e w = subst (λ k. View at image core fork k ms bs ys v) (sym e.0) (subst (λ xs. View at image core fork 0 xs bs ys v) (sym e.1) (subst (λ xs. View at image core fork 0 [] xs ys v) (sym e.2) w))

  -- a piece that ends has come behind the place where it began
  pub past : (from : ℕ) (ms : List Mapping) (bs : List ℕ) (c : Come at image core fork from ms bs) (task : Task) (rest : List Task) (v : Trail) (n : ℕ) → Leaves at image core from (first_tasks core fork from) start n (task ∷ rest) v → may_stop from v.mappings task rest ≡ true → suc top < n
  past from ms bs c task rest v n h may =
      elim (cases_Bool (nat_le n (suc top))) [
        | inl early ↦
            let few : n ≤ suc top = grind (arith, nat_tests, early) in
            let none = none_before at image core fork from ms bs c (task ∷ rest) v n few h in
            let s = (stops from v.mappings task rest may).clears in
            let last = each_back (λ (m : Mapping). m.offset < from) s.front (s.last ∷ []) (subst (Each (λ (m : Mapping). m.offset < from)) s.split none) in
            absurd (omega (arith, last.0, s.own))
        | inr late ↦ grind (arith, nat_tests, late)
      ]

  pub any_edge : (from : ℕ) (ms : List Mapping) (bs : List ℕ) (task : Task) (rest : List Task) (v : Trail) → from_there from ms bs → (b : EndsLeaf at image core from (first_tasks core fork from) start (task ∷ rest) v) → ((c : Come at image core fork from ms bs) → suc top < b.count) → Edge at image core fork from ms bs (task ∷ rest) v
  any_edge from ms bs task rest v (inl c) b far = edge at image core fork from ms bs c (task ∷ rest) v b.count (far c) b.border
  any_edge from ms bs task rest v (inr e) b far =
      let first = edge_first at image core fork (task ∷ rest) v b.count (subst (λ k. IsBorder at image core k (first_tasks core fork k) start b.count (task ∷ rest) v) e.0 b.border) in
      subst (λ k. Edge at image core fork k ms bs (task ∷ rest) v) (sym e.0) (subst (λ xs. Edge at image core fork 0 xs bs (task ∷ rest) v) (sym e.1) (subst (λ xs. Edge at image core fork 0 [] xs (task ∷ rest) v) (sym e.2) first))

  -- a piece that leaves something leads to where the next one begins
  left_come : (from : ℕ) (ms : List Mapping) (bs : List ℕ) (task : Task) (rest : List Task) (v : Trail) (piece : ForkPiece) → Edge at image core fork from ms bs (task ∷ rest) v → may_stop from v.mappings task rest ≡ true → first_bad at fork v.mappings ≡ None → IsPiece from v.mappings (map (λ (b : TreeBlock). b.block) v.blocks) (Some task.key) piece → Come at image core fork task.key (ms ++ piece.mappings.items) (bs ++ piece.tree_blocks.items)
  left_come from ms bs task rest v piece d may good given =
      let s = stops from v.mappings task rest may in
      let w = d.view in
      record {
        task = task;
        rest = rest;
        trail = w.trail;
        count = w.count;
        border = d.border;
        key = refl;
        mappings = w.given good ∙ ap (λ zs. ms ++ zs) (sym given.mappings);
        blocks = w.same.blocks ∙ (λ i. w.known_blocks i ++ sym given.tree_blocks i);
        good = w.bad ∙ good;
        first = from;
        clears = record {
          front = w.front ++ s.clears.front;
          last = s.clears.last;
          split = w.same.mappings ∙ ap (λ zs. w.front ++ zs) s.clears.split ∙ sym (append_assoc w.front s.clears.front (s.clears.last ∷ []));
          own = s.clears.own;
          below = s.clears.below;
          ended = s.clears.ended;
        };
        behind = s.behind;
      }

  module _ (form : form_fault core fork ≡ None) (tree : is_tree core fork ≡ true) where
    -- the whole walk's end, by the piece's
    ends_here : (front : List Mapping) (own : List ℕ) (t v : Trail) → ((l : ℕ) → l ≤ top → t.last l ≡ v.last l) → ends (root_level (area_of core fork)) t ≡ ends (root_level (area_of core fork)) v
    ends_here front own t v same =
        let root = root_facts core fork form tree in
        ends_alike (root_level (area_of core fork)) t v (λ l low. same l (omega (arith, low, root.low)))

    fault_at : (t : Trail) (o : Option ForkFault) → walk_tree at image core fork ≡ Ok t → or_else (first_bad at fork t.mappings) (block_fault (ends (root_level (area_of core fork)) t)) ≡ o → walk_fault at image core fork ≡ o
    unfolding walk_fault met_of
    fault_at t o h e = rw (form, tree, h) e

    fault_bad : (t : Trail) (o : Option ForkFault) → walk_tree at image core fork ≡ Err t → or_else (first_bad at fork t.mappings) (Some faults.Block) ≡ o → walk_fault at image core fork ≡ o
    unfolding walk_fault met_of
    fault_bad t o h e = rw (form, tree, h) e

    found_first : (o x : Option ForkFault) (fault : ForkFault) → o ≡ Some fault → or_else o x ≡ Some fault
    found_first None x fault h = cc
    found_first (Some f) x fault h = h

    met_fault : (r : Result Trail Trail) (fault : ForkFault) → walk_tree at image core fork ≡ r → first_bad at fork (met_by r) ≡ Some fault → walk_fault at image core fork ≡ Some fault
    met_fault (Ok t) fault h e = fault_at t (Some fault) h (found_first (first_bad at fork t.mappings) (block_fault (ends (root_level (area_of core fork)) t)) fault e)
    met_fault (Err t) fault h e = fault_bad t (Some fault) h (found_first (first_bad at fork t.mappings) (Some faults.Block) fault e)

    whole_lists : (t : Trail) (ms : List Mapping) (bs : List ℕ) → walk_tree at image core fork ≡ Ok t → walk_fault at image core fork ≡ None → ms ≡ t.mappings → bs ≡ map (λ (b : TreeBlock). b.block) t.blocks → IsWhole at image core fork ms bs
    unfolding met_of
    whole_lists t ms bs h good m b = record { good = good; mappings_are = rw (tree, h) m; blocks_are = rw (tree, h) b }

    -- the way to an end that leaves nothing
    whole_end : (from : ℕ) (ms : List Mapping) (bs : List ℕ) (v : Trail) (o : Option ForkFault) (w : View at image core fork from ms bs [] v) → or_else (first_bad at fork v.mappings) (block_fault (ends (root_level (area_of core fork)) v)) ≡ o → (walk_tree at image core fork ≡ Ok w.trail) × (walk_fault at image core fork ≡ o)
    whole_end from ms bs v o w h =
        let tree_walk = whole_walk (Ok w.trail) [] w.trail w.count w.leaves (none_popped at image core 0 [] w.trail refl) in
        (tree_walk, fault_at w.trail o tree_walk ((λ i. or_else (w.bad i) (block_fault (ends_here w.front w.own w.trail v w.same.last i))) ∙ h))

    -- a piece leads on
    pub piece_on : (from : ℕ) (ms : List Mapping) (bs : List ℕ) (piece : ForkPiece) → from_there from ms bs → IsTreePiece at image core fork from piece → EndOf piece.next (ms ++ piece.mappings.items) (bs ++ piece.tree_blocks.items)
    piece_on from ms bs piece c p = by_way p.stop p.walked p.good p.given
      where
        by_way : (stop : Way) → Ends at image core fork from stop p.trail → judged at fork (root_level (area_of core fork)) stop p.trail ≡ None → IsPiece from p.trail.mappings (map (λ (b : TreeBlock). b.block) p.trail.blocks) (next_of stop) piece → EndOf piece.next (ms ++ piece.mappings.items) (bs ++ piece.tree_blocks.items)
        by_way Bad e good given = absurd (some_none faults.Block (else_parts (first_bad at fork p.trail.mappings) (Some faults.Block) good).1)
        by_way Whole e good given =
            let w = any_view from ms bs [] p.trail e.reached.count c (λ k. goes_there at image core fork from ms bs k p.trail e.reached.count e.reached.leaves) e.reached.leaves in
            let fine = (else_parts (first_bad at fork p.trail.mappings) (block_fault (ends (root_level (area_of core fork)) p.trail)) good).0 in
            let found = whole_end from ms bs p.trail None w good in
            subst (λ o. EndOf o (ms ++ piece.mappings.items) (bs ++ piece.tree_blocks.items)) (sym given.next) (whole_lists w.trail (ms ++ piece.mappings.items) (bs ++ piece.tree_blocks.items) found.0 found.1 (ap (λ zs. ms ++ zs) given.mappings ∙ sym (w.given fine)) ((λ i. sym w.known_blocks i ++ given.tree_blocks i) ∙ sym w.same.blocks))
        by_way (Left task) e good given =
            let may = e.stopped.1 in
            let fine = (else_parts (first_bad at fork p.trail.mappings) None good).0 in
            let d = any_edge from ms bs task e.rest p.trail c e.reached (λ k. past from ms bs k task e.rest p.trail e.reached.count (border_leaves at image core from (first_tasks core fork from) (task ∷ e.rest) start p.trail e.reached.count e.reached.border) may) in
            subst (λ o. EndOf o (ms ++ piece.mappings.items) (bs ++ piece.tree_blocks.items)) (sym given.next) (inl (left_come from ms bs task e.rest p.trail piece d may fine given))
        by_way (Long task) e good given = absurd (some_none faults.Order (else_parts (first_bad at fork p.trail.mappings) (Some faults.Order) good).1)
        by_way Fallen e good given = absurd (some_none faults.Order (else_parts (first_bad at fork p.trail.mappings) (Some faults.Order) good).1)

    pub follow_on : (pieces : List ForkPiece) (next left : Option ℕ) (ms : List Mapping) (bs : List ℕ) → EndOf next ms bs → Follow at image core fork next pieces left → EndOf left (ms ++ all_mappings pieces) (bs ++ all_blocks pieces)
    follow_on [] next left ms bs e h =
        subst (λ xs. EndOf left (ms ++ []) xs) (sym (append-nil bs)) (subst (λ xs. EndOf left xs bs) (sym (append-nil ms)) (subst (λ o. EndOf o ms bs) h e))
    follow_on (piece ∷ pieces) None left ms bs e h = absurd h
    follow_on (piece ∷ pieces) (Some from) left ms bs e h =
        let on = piece_on from ms bs piece e (h.0.2 tree) in
        let rest = follow_on pieces piece.next left (ms ++ piece.mappings.items) (bs ++ piece.tree_blocks.items) on h.1 in
        subst (λ xs. EndOf left (ms ++ all_mappings (piece ∷ pieces)) xs) (append_assoc bs piece.tree_blocks.items (all_blocks pieces)) (subst (λ xs. EndOf left xs ((bs ++ piece.tree_blocks.items) ++ all_blocks pieces)) (append_assoc ms piece.mappings.items (all_mappings pieces)) rest)

    -- the fault of the mappings before a subtree that they clear
    left_fault : (task : Task) (rest : List Task) (t : Trail) (n : ℕ) (first : ℕ) (fault : ForkFault) → Leaves at image core 0 (first_tasks core fork 0) start n (task ∷ rest) t → Clears first task.key t.mappings → first_bad at fork t.mappings ≡ Some fault → walk_fault at image core fork ≡ Some fault
    left_fault task rest t n first fault h s bad =
        let r = walk_tasks at image core 0 (task ∷ rest) t in
        let more = rest_adds at image core task rest t in
        let own = subst (λ zs. first_bad at fork zs ≡ Some fault) s.split bad in
        met_fault r fault (whole_walk r (task ∷ rest) t n h refl) (by_more r more.more (more.split ∙ ap (λ zs. zs ++ more.more) s.split) own more.from_key)
      where
        key_begins : (f : List Mapping) (last : Mapping) (front : List Mapping) → Begins task.key f → last.offset < task.key → last.offset + last.count ≤ task.key → first_bad at fork (front ++ last ∷ []) ≡ Some fault → first_bad at fork ((front ++ last ∷ []) ++ f) ≡ Some fault
        key_begins [] last front b low clear own = absurd b
        key_begins (f ∷ more) last front b low clear own =
            subst (λ zs. first_bad at fork zs ≡ Some fault) (sym (append_assoc front (last ∷ []) (f ∷ more))) (bad_stays at fork front last f more fault (omega (arith, b, low)) (omega (arith, b, clear)) own)

        by_more : (r : Result Trail Trail) (more : List Mapping) → met_by r ≡ (s.front ++ s.last ∷ []) ++ more → first_bad at fork (s.front ++ s.last ∷ []) ≡ Some fault → FromKey task.key r more → first_bad at fork (met_by r) ≡ Some fault
        by_more (Ok u) more e own b = subst (λ zs. first_bad at fork zs ≡ Some fault) (sym e) (key_begins more s.last s.front b s.below s.ended own)
        by_more (Err u) more e own (inl none) = subst (λ zs. first_bad at fork zs ≡ Some fault) (sym (e ∙ ap (λ zs. (s.front ++ s.last ∷ []) ++ zs) none ∙ append-nil (s.front ++ s.last ∷ []))) own
        by_more (Err u) more e own (inr b) = subst (λ zs. first_bad at fork zs ≡ Some fault) (sym e) (key_begins more s.last s.front b s.below s.ended own)

    pub good_walk : (r : Result Trail Trail) → walk_tree at image core fork ≡ r → walk_fault at image core fork ≡ None → (w : Trail) × (r ≡ Ok w) × (first_bad at fork w.mappings ≡ None)
    good_walk (Ok t) h good = (t, refl, (else_parts (first_bad at fork t.mappings) (block_fault (ends (root_level (area_of core fork)) t)) (sym (fault_at t (or_else (first_bad at fork t.mappings) (block_fault (ends (root_level (area_of core fork)) t))) h refl) ∙ good)).0)
    good_walk (Err t) h good = absurd (some_none faults.Block (else_parts (first_bad at fork t.mappings) (Some faults.Block) (sym (fault_bad t (or_else (first_bad at fork t.mappings) (Some faults.Block)) h refl) ∙ good)).1)

    -- a piece that is stuck has come behind the place where it began
    stuck_past : (from : ℕ) (ms : List Mapping) (bs : List ℕ) (c : Come at image core fork from ms bs) (ys : List Task) (v : Trail) (n : ℕ) → Leaves at image core from (first_tasks core fork from) start n ys v → (90 ≤ n) ⊎ (261 < given_of from v.mappings) → suc top < n
    stuck_past from ms bs c ys v n h (inl many) = let root = root_facts core fork form tree in omega (arith, many, root.high)
    stuck_past from ms bs c ys v n h (inr enough) =
        elim (cases_Bool (nat_le n (suc top))) [
          | inl early ↦
              let few : n ≤ suc top = grind (arith, nat_tests, early) in
              let none = ap length (none_kept from v.mappings (none_before at image core fork from ms bs c ys v n few h)) in
              absurd (omega (arith, none, enough))
          | inr late ↦ grind (arith, nat_tests, late)
        ]

    not_none : (before after : List Mapping) (m : Mapping) → before ++ m ∷ after ≡ [] → ⊥
    not_none [] after m e = cc
    not_none (x ∷ before) after m e = cc

    -- the last mapping is one of the piece
    last_own : (from : ℕ) (ms : List Mapping) (bs : List ℕ) (ys : List Task) (v : Trail) (d : Edge at image core fork from ms bs ys v) (front : List Mapping) (last : Mapping) → v.mappings ≡ front ++ last ∷ [] → first_bad at fork v.mappings ≡ None → from ≤ last.offset
    last_own from ms bs ys v d front last split good =
        elim (cases_Bool (nat_le from last.offset)) [
          | inl above ↦ grind (arith, nat_tests, above)
          | inr before ↦
              let low : last.offset < from = grind (arith, nat_tests, before) in
              let all = subst (Each (λ (m : Mapping). m.offset < from)) (sym split) (all_before at fork from front last (subst (λ zs. first_bad at fork zs ≡ None) split good) low) in
              let none = d.view.given good ∙ ap (λ zs. ms ++ zs) (none_kept from v.mappings all) in
              absurd (not_none d.before d.after d.first (cancel ms (d.before ++ d.first ∷ d.after) [] (sym d.grown ∙ none)))
        ]

    -- where no piece can begin, the walk meets a bad block or a bad mapping
    stuck_clash : (from : ℕ) (ms : List Mapping) (bs : List ℕ) (ys : List Task) (v : Trail) → from_there from ms bs → IsStuck at image core from (first_tasks core fork from) start ys v → (u : Trail) → walk_tree at image core fork ≡ Ok u → first_bad at fork u.mappings ≡ None → ⊥
    stuck_clash from ms bs [] v c s u walk good = absurd (false≢true (sym s.stays))
    stuck_clash from ms bs (x ∷ xs) v c s u walk good =
        let h = border_leaves at image core from (first_tasks core fork from) (x ∷ xs) start v s.count s.border in
        let d = any_edge from ms bs x xs v c (record { count = s.count; border = s.border; late = s.late }) (λ k. stuck_past from ms bs k (x ∷ xs) v s.count h s.late) in
        let w = d.view in
        let r = walk_tasks at image core 0 (x ∷ xs) w.trail in
        let same : r ≡ Ok u = sym (whole_walk r (x ∷ xs) w.trail w.count w.leaves refl) ∙ walk in
        let y = s.border.read.task in
        let adds = leaf_adds at image core fork from y.level y.key y.block s.border.read.rest (x ∷ xs) s.border.read.trail v s.border.leaf s.border.read.read in
        let last = last_of s.border.read.trail.mappings adds.1 adds.0 in
        let split = adds.2 ∙ last.2 in
        let met = w.same.mappings ∙ ap (λ zs. w.front ++ zs) split ∙ sym (append_assoc w.front last.0 (last.1 ∷ [])) in
        let more = rest_adds at image core x xs w.trail in
        let fine = good_front at fork w.trail.mappings more.more (subst (λ zs. first_bad at fork zs ≡ None) (ap met_by (sym same) ∙ more.split) good) in
        false≢true (sym s.stays ∙ may_end_here at fork image core from x xs w.trail u v.mappings last.0 (w.front ++ last.0) last.1 split met (last_own from ms bs (x ∷ xs) v d last.0 last.1 split (sym w.bad ∙ fine)) same good)

    stuck_bad : (from : ℕ) (ms : List Mapping) (bs : List ℕ) (ys : List Task) (v : Trail) → from_there from ms bs → IsStuck at image core from (first_tasks core fork from) start ys v → walk_fault at image core fork ≡ None → ⊥
    stuck_bad from ms bs ys v c s good =
        let whole = good_walk (walk_tree at image core fork) refl good in
        stuck_clash from ms bs ys v c s whole.0 whole.1 whole.2

    -- what is met behind a place where no piece can begin
    behind_view : (from : ℕ) (ms : List Mapping) (bs : List ℕ) (ys zs : List Task) (v w : Trail) (n : ℕ) → from_there from ms bs → IsStuck at image core from (first_tasks core fork from) start ys v → Leaves at image core from ys v n zs w → View at image core fork from ms bs zs w
    behind_view from ms bs ys zs v w n c s h =
        let first = border_leaves at image core from (first_tasks core fork from) ys start v s.count s.border in
        let all = leaves_join at image core from (first_tasks core fork from) ys zs start v w s.count n first h in
        any_view from ms bs zs w (s.count + n) c (λ k. let far = stuck_past from ms bs k ys v s.count first s.late in omega (arith, far)) all

    none_clash : (o : Option ForkFault) (fault : ForkFault) → (o ≡ None → ⊥) → or_else o (Some faults.Order) ≡ Some fault → o ≡ Some fault
    none_clash None fault n h = absurd (n refl)
    none_clash (Some f) fault n h = h

    -- the end behind such a place shows the fork's first fault
    fallen_first : (from : ℕ) (ms : List Mapping) (bs : List ℕ) (ys : List Task) (v w : Trail) (n : ℕ) (fault : ForkFault) → from_there from ms bs → IsStuck at image core from (first_tasks core fork from) start ys v → Leaves at image core from ys v n [] w → or_else (first_bad at fork w.mappings) (Some faults.Order) ≡ Some fault → walk_fault at image core fork ≡ Some fault
    fallen_first from ms bs ys v w n fault c s h found =
        let d = behind_view from ms bs ys [] v w n c s h in
        let tree_walk = whole_walk (Ok d.trail) [] d.trail d.count d.leaves (none_popped at image core 0 [] d.trail refl) in
        let own = none_clash (first_bad at fork w.mappings) fault (λ none. stuck_clash from ms bs ys v c s d.trail tree_walk (d.bad ∙ none)) found in
        met_fault (Ok d.trail) fault tree_walk (d.bad ∙ own)

    -- a bad mapping that was met there, the last one aside, is the fork's first fault
    inner_first : (from : ℕ) (ms : List Mapping) (bs : List ℕ) (ys zs : List Task) (v w : Trail) (n : ℕ) (fault : ForkFault) (front : List Mapping) (last : Mapping) → from_there from ms bs → IsStuck at image core from (first_tasks core fork from) start ys v → Leaves at image core from ys v n zs w → w.mappings ≡ front ++ last ∷ [] → first_bad at fork w.mappings ≡ Some fault → (walk_fault at image core fork ≡ Some fault) ⊎ LastBad at fork w.mappings fault
    inner_first from ms bs ys zs v w n fault front last c s h split found =
        let d = behind_view from ms bs ys zs v w n c s h in
        let r = walk_tasks at image core 0 zs d.trail in
        let more = tasks_add at image core zs d.trail in
        let met = d.same.mappings ∙ ap (λ xs. d.front ++ xs) split ∙ sym (append_assoc d.front front (last ∷ [])) in
        let own = subst (λ xs. first_bad at fork xs ≡ Some fault) met (d.bad ∙ found) in
        let whole = more.split ∙ ap (λ xs. xs ++ more.more) met ∙ append_assoc (d.front ++ front) (last ∷ []) more.more in
        elim (inner_or_last at fork (d.front ++ front) last fault own) [
          | inl inner ↦ inl (met_fault r fault (whole_walk r zs d.trail d.count d.leaves refl) (subst (λ xs. first_bad at fork xs ≡ Some fault) (sym whole) (inner more.more)))
          | inr alone ↦ inr (record { front = front; last = last; split = split; own = alone })
        ]

    long_first : (from : ℕ) (ms : List Mapping) (bs : List ℕ) (ys zs : List Task) (v w : Trail) (n : ℕ) (fault : ForkFault) → from_there from ms bs → IsStuck at image core from (first_tasks core fork from) start ys v → Leaves at image core from ys v n zs w → (o : Option ForkFault) → first_bad at fork w.mappings ≡ o → or_else o (Some faults.Order) ≡ Some fault → (walk_fault at image core fork ≡ Some fault) ⊎ IsUnseen at fork w.mappings fault
    long_first from ms bs ys zs v w n fault c s h None e found =
        let order : fault ≡ faults.Order = cc in
        inr (inl (e, order))
    long_first from ms bs ys zs v w n fault c s h (Some f) e found = by_list w.mappings refl
      where
        as_unseen : (walk_fault at image core fork ≡ Some fault) ⊎ LastBad at fork w.mappings fault → (walk_fault at image core fork ≡ Some fault) ⊎ IsUnseen at fork w.mappings fault
        as_unseen (inl x) = inl x
        as_unseen (inr x) = inr (inr x)

        by_list : (xs : List Mapping) → w.mappings ≡ xs → (walk_fault at image core fork ≡ Some fault) ⊎ IsUnseen at fork w.mappings fault
        by_list [] same =
            let none = sym (none_bad at fork) ∙ ap (first_bad at fork) (sym same) ∙ e in
            absurd (some_none f (sym none))
        by_list (m ∷ rest) same =
            let last = last_of [] rest m in
            as_unseen (inner_first from ms bs ys zs v w n fault last.0 last.1 c s h (same ∙ last.2) (e ∙ found))

    -- a refusal is the fork's first fault, or no piece can begin there
    fault_on : (from : ℕ) (ms : List Mapping) (bs : List ℕ) (fault : ForkFault) → from_there from ms bs → IsTreeFault at image core fork from fault → (walk_fault at image core fork ≡ Some fault) ⊎ IsCut at image core fork from fault
    fault_on from ms bs fault c p = by_way p.stop p.walked p.found
      where
        by_way : (stop : Way) → Ends at image core fork from stop p.trail → judged at fork (root_level (area_of core fork)) stop p.trail ≡ Some fault → (walk_fault at image core fork ≡ Some fault) ⊎ IsCut at image core fork from fault
        by_way Bad e found =
            let b = e.reached in
            let w = any_view from ms bs (b.task ∷ b.rest) p.trail b.reached.count c (λ k. bad_there at image core fork from ms bs k b.task b.rest p.trail b.reached.count b.reached.leaves b.bad) b.reached.leaves in
            let none = w.alike b.task b.rest refl b.bad in
            let tree_walk = whole_walk (Err w.trail) (b.task ∷ b.rest) w.trail w.count w.leaves (bad_block at image core 0 b.task b.rest w.trail none) in
            inl (fault_bad w.trail (Some fault) tree_walk (ap (λ o. or_else o (Some faults.Block)) w.bad ∙ found))
        by_way Whole e found =
            let w = any_view from ms bs [] p.trail e.reached.count c (λ k. goes_there at image core fork from ms bs k p.trail e.reached.count e.reached.leaves) e.reached.leaves in
            inl (whole_end from ms bs p.trail (Some fault) w found).1
        by_way (Left task) e found =
            let may = e.stopped.1 in
            let d = any_edge from ms bs task e.rest p.trail c e.reached (λ k. past from ms bs k task e.rest p.trail e.reached.count (border_leaves at image core from (first_tasks core fork from) (task ∷ e.rest) start p.trail e.reached.count e.reached.border) may) in
            let s = (stops from p.trail.mappings task e.rest may).clears in
            let own = clears_in d.view s in
            inl (left_fault task e.rest d.view.trail d.view.count from fault d.view.leaves own (d.view.bad ∙ sym (or_none (first_bad at fork p.trail.mappings)) ∙ found))
          where
            clears_in : (w : View at image core fork from ms bs (task ∷ e.rest) p.trail) → Clears from task.key p.trail.mappings → Clears from task.key w.trail.mappings
            clears_in w s = record {
              front = w.front ++ s.front;
              last = s.last;
              split = w.same.mappings ∙ ap (λ zs. w.front ++ zs) s.split ∙ sym (append_assoc w.front s.front (s.last ∷ []));
              own = s.own;
              below = s.below;
              ended = s.ended;
            }
        by_way (Long task) e found =
            let b = e.reached in
            as_cut b (long_first from ms bs b.rest (task ∷ e.rest) b.met p.trail 28 fault c b.stuck b.read (first_bad at fork p.trail.mappings) refl found)
          where
            as_cut : (b : IsBehind at image core from (first_tasks core fork from) start (task ∷ e.rest) p.trail) → (walk_fault at image core fork ≡ Some fault) ⊎ IsUnseen at fork p.trail.mappings fault → (walk_fault at image core fork ≡ Some fault) ⊎ IsCut at image core fork from fault
            as_cut b (inl x) = inl x
            as_cut b (inr x) = inr (record { left = task ∷ e.rest; after = p.trail; behind = b; unseen = x; bad = stuck_bad from ms bs b.rest b.met c b.stuck })
        by_way Fallen e found = inl (fallen_first from ms bs e.reached.rest e.reached.met p.trail e.reached.read.count fault c e.reached.stuck e.reached.read.leaves found)

  inline_whole : (piece : ForkPiece) → inline_fault at core fork ≡ None → is_tree core fork ≡ false → IsPiece 0 (inline_mappings core fork) [] None piece → IsWhole at image core fork piece.mappings.items piece.tree_blocks.items
  unfolding walk_fault met_of inline_fault
  inline_whole piece good off given =
      let parts = else_parts (form_fault core fork) (first_bad at fork (inline_mappings core fork)) good in
      record {
        good = rw (off, parts.0, parts.1) refl;
        mappings_are = rw off (given.mappings ∙ all_kept (inline_mappings core fork));
        blocks_are = rw off given.tree_blocks;
      }

  pub first_end : from_there 0 [] []
  first_end = inr (refl, refl, refl)

  off_whole : (pieces : List ForkPiece) → is_tree core fork ≡ false → Follow at image core fork (Some 0) pieces None → IsWhole at image core fork (all_mappings pieces) (all_blocks pieces)
  off_whole [] off h = cc
  off_whole (piece ∷ []) off h =
      let whole = inline_whole piece h.0.0 off (h.0.1 off) in
      subst (λ xs. IsWhole at image core fork xs (piece.tree_blocks.items ++ [])) (sym (append-nil piece.mappings.items)) (subst (λ xs. IsWhole at image core fork piece.mappings.items xs) (sym (append-nil piece.tree_blocks.items)) whole)
  off_whole (piece ∷ other ∷ pieces) off h =
      let none = (h.0.1 off).next in
      absurd (subst (λ o. Follow at image core fork o (other ∷ pieces) None) none h.1)

  pub form_first : (pieces : List ForkPiece) (left : Option ℕ) → Follow at image core fork (Some 0) pieces left → (left ≡ Some 0) ⊎ (form_fault core fork ≡ None)
  form_first [] left h = inl (sym h)
  form_first (piece ∷ pieces) left h = inr (form_none at core fork h.0.0)

  pub pieces_whole : (pieces : List ForkPiece) → Follow at image core fork (Some 0) pieces None → IsWhole at image core fork (all_mappings pieces) (all_blocks pieces)
  pieces_whole pieces h = by_form (is_tree core fork) refl (form_first pieces None h)
    where
      by_form : (b : Bool) → is_tree core fork ≡ b → (◌≡◌ {A = Option ℕ} None (Some 0)) ⊎ (form_fault core fork ≡ None) → IsWhole at image core fork (all_mappings pieces) (all_blocks pieces)
      by_form b e (inl none) = absurd (none_left 0 none)
      by_form true tree (inr form) = follow_on form tree pieces (Some 0) None [] [] first_end h
      by_form false off (inr form) = off_whole pieces off h

  pub refused_first : (pieces : List ForkPiece) (from : ℕ) (fault : ForkFault) → Follow at image core fork (Some 0) pieces (Some from) → IsForkFault at image core fork from fault → (walk_fault at image core fork ≡ Some fault) ⊎ IsCut at image core fork from fault
  refused_first pieces from fault h (inl shown) = inl (shown_first at image core fork fault shown)
  refused_first pieces from fault h (inr found) =
      let form = form_none at core fork found.0 in
      let there = follow_on form found.1 pieces (Some 0) (Some from) [] [] first_end h in
      fault_on form found.1 from (all_mappings pieces) (all_blocks pieces) fault there found.2
