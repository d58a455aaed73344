-- The equation of a scan, step by step.
use Rattle.std.proofs.Common.{◌≡◌, inl, inr, ℕ, zero, suc, ◌+◌, ◌-◌, ◌<◌, ◌≤◌, ◌==◌, ◌&&◌, ◌||◌, nat_le, nat_lt, Bool, true, false, not, cond, List, [], ◌∷◌, ◌++◌, length, map, filter, take, drop, Option, Some, None, Result, Ok, Err, refl, sym, ap, subst, ◌∙◌, append-nil, arith, eq-eqb}
use Rattle.std.specs.Prelude.{is_ok, if◌then◌else◌}
use Rattle.std.proofs.lemmas.Bool.{false≢true, true≢false, and_parts, cases_Bool}
use Rattle.std.proofs.lemmas.Bool.Decides.{nat_tests}
use Rattle.dinode_core.specs.Core.{core_of}
use Rattle.dinode_core.specs.ForkTree.{Image, TreeBlock, is_tree, met_of}
use Rattle.dinode_core.specs.Frame.{ForkList, fork_in, list_of}
use Rattle.dinode_core.specs.Shape.{count_of}
use Rattle.dinode_core.specs.declared.inode.Core3.{Core3}
use Rattle.dinode_core.specs.declared.mapping.Fork.{Fork}
use Rattle.dinode_core.specs.declared.mapping.Fork.TheVariants as forks
use Rattle.dinode_core.specs.declared.mapping.ForkFault.{ForkFault}
use Rattle.fork_read.proofs.LawLemmas.{pieces_whole}
use Rattle.fork_read.specs.declared.fault.ForkPiece.{ForkPiece}
use Rattle.fork_read.specs.Parts.{Each}
use Rattle.fork_read.specs.Pieces.{IsForkPiece}
use Rattle.fork_read.specs.Whole.{Follow, all_mappings}
use Rattle.fs_model.specs.declared.claim.Claim.TheVariants.{Data, Attr}
use Rattle.geom.specs.Layout.{Layout, split_of}
use Rattle.rmap_recs.specs.Runs.{has}
use Rattle.rmap_recs.specs.declared.tuples.Tuple.{Tuple}
use Rattle.run_edits.specs.EditLaws.{AreUntied}
use Rattle.shadow_rmap.specs.Kept.{KeepsTuples, ShadowState}
use Rattle.fs_state.specs.Frame.{SameFork}
use Rattle.fs_state.specs.Apart.{is_inode}
use Rattle.fs_state.specs.State.{State}
use Rattle.fs_state.specs.Claims.{Claimed, attribute, fork_of, fork_tree_claims, mapping_claims, read_fork, tree_block_at}
use Rattle.fs_state.specs.Derive.{is_free}
use Rattle.fs_state.specs.Own.{tuple_of}
use Rattle.law_writers.proofs.Change.Members.{hasc}
use Rattle.fs_change.proofs.Sets.{has_both, has_passing, has_set}
use Rattle.fs_change.proofs.Shadow.{hold_begins}
use Rattle.fs_change.specs.Chains.{settled_forks}
use Rattle.fs_change.specs.Laws.{PieceGives}
use Rattle.fs_change.specs.Scan.{visited, held_tuples, next_claims, next_mappings, shadow_of}
use Rattle.piece_laws.proofs.Back.{was_there}
use Rattle.core_scan.proofs.Gained.{untied_part}
use Rattle.piece_laws.proofs.Next.{good_is, list_below, next_is_given, snoc_count, snoc_follow}
use Rattle.core_scan.proofs.Seen.{held_settled, passes_free, whole_visited}
use Rattle.piece_laws.specs.Forks.{Comes, IsNextPiece}
use Rattle.core_scan.specs.Gains.{Gains, block_claims, claims_of}
use Rattle.core_scan.specs.Equation.{ComesTo, IsOf, IsReadable, IsScan, IsUntied, core_at}
use Rattle.core_scan.specs.Seen.{HasBelow, IsCalm, IsIdle, all_of, is_allocated}
use Rattle.core_scan.specs.declared.held.Held.{Held}

-- ---- forks that stay

pub readable : (x y : Result ForkList ForkFault) → SameFork x y → is_ok y ≡ true → (list : ForkList) × (x ≡ Ok list) × (y ≡ Ok list)
readable (Ok list) y h k = (list, refl, h)
readable (Err fault) y h k = absurd (true≢false (sym k ∙ h))

pub same_self : (x : Result ForkList ForkFault) → SameFork x x
same_self (Ok list) = refl
same_self (Err fault) = refl

pub same_then : (x y z : Result ForkList ForkFault) → SameFork x y → SameFork y z → SameFork x z
same_then (Ok list) y z h k = subst (λ w. SameFork w z) h k
same_then (Err fault) (Ok list) z h k = absurd (true≢false h)
same_then (Err fault) (Err other) z h k = k

same_ok : (x y : Result ForkList ForkFault) (list : ForkList) → x ≡ Ok list → SameFork x y → y ≡ Ok list
same_ok x y list e h = subst (λ w. SameFork w y) e h

ok_is : (x : Result ForkList ForkFault) (list : ForkList) → x ≡ Ok list → is_ok x ≡ true
ok_is x list e = ap is_ok e

is_inode_of : (a : State) (ino : ℕ) → is_allocated a ino ≡ true → is_inode a ino ≡ true
is_inode_of a ino h = (and_parts (is_inode a ino) (not (is_free (a.core ino))) h).0

-- ---- what a shadow has is settled

pub in_shadow : (a : State) (g c : ℕ) (held : Option ℕ) (k : ℕ) (t : Tuple) → has (shadow_of a g c held k) t ≡ ((has (settled_forks a g) t && visited c t.owner) || has (held_tuples a g held k) t)
unfolding shadow_of
in_shadow a g c held k t =
    has_set (filter (λ u. visited c u.owner) (settled_forks a g) ++ held_tuples a g held k) t
    ∙ has_both (filter (λ u. visited c u.owner) (settled_forks a g)) (held_tuples a g held k) t
    ∙ ap (λ b. b || has (held_tuples a g held k) t) (has_passing (λ u. visited c u.owner) (settled_forks a g) t)

abbrev pub AtRest : State → Option ℕ → Type 0
AtRest a None = Unit {0}
AtRest a (Some ino) = IsIdle a ino × (is_inode a ino ≡ true)

either : (s v k : Bool) → (k ≡ true → s ≡ true) → ((s && v) || k) ≡ true → s ≡ true
either true v k h e = refl
either false v true h e = h refl
either false v false h e = e

held_part : (a : State) (g : ℕ) (held : Option ℕ) (k : ℕ) (t : Tuple) → IsCalm a → AtRest a held → has (held_tuples a g held k) t ≡ true → has (settled_forks a g) t ≡ true
held_part a g None k t calm rest h = absurd (false≢true h)
held_part a g (Some ino) k t calm rest h = (and_parts (has (settled_forks a g) t) (t.owner == ino) (held_settled a g ino k t calm rest.0 rest.1 h)).0

pub shadow_untied : (a : State) (g c : ℕ) (held : Option ℕ) (k : ℕ) → IsCalm a → AtRest a held → IsUntied a g → AreUntied (shadow_of a g c held k)
shadow_untied a g c held k calm rest untied =
    untied_part (settled_forks a g) (shadow_of a g c held k) (λ t h. either (has (settled_forks a g) t) (visited c t.owner) (has (held_tuples a g held k) t) (held_part a g held k t calm rest) (sym (in_shadow a g c held k t) ∙ h)) untied

-- ---- a hold begins, and the scan ends

abbrev pub fresh : ℕ → ℕ → Held
fresh ino uid = record { ino = ino; uid = uid; fork = forks.Data; next = 0; own = 0; given = 0 }

nothing_came : (at : Layout) (first : Image) (core : Core3) (f : Fork) → Comes at first core f 0 0
nothing_came at first core f = record { pieces = []; follow = refl; count = refl; begun = inl refl }

beyond : (c d ino : ℕ) → c ≤ d → (c < ino → d < ino) → nat_le ino d ≡ nat_le ino c
beyond c d ino le h = elim (cases_Bool (nat_lt c ino)) [
  | inl above ↦
      let high : c < ino = grind (arith, nat_tests, above) in
      let more = h high in
      grind (arith, nat_tests, above, more)
  | inr below ↦ grind (arith, nat_tests, below, le)
]

passes : (a : State) (c d : ℕ) → c ≤ d → ((j : ℕ) → is_allocated a j ≡ true → c < j → d < j) → (ino : ℕ) → is_allocated a ino ≡ true → visited d ino ≡ visited c ino
unfolding visited
passes a c d le least ino there = beyond c d ino le (least ino there)

pub hold_starts : (a : State) (n : Image) (g c i uid : ℕ) (s : ShadowState) → IsCalm a → IsOf a n → is_allocated a i ≡ true → c < i → ((j : ℕ) → is_allocated a j ≡ true → c < j → i ≤ j) → IsIdle a i → IsScan a n g c None s → IsScan a n g (i - 1) (Some (fresh i uid)) s
hold_starts a n g c i uid s calm of there above least idle scan =
    let before : c ≤ i - 1 = omega (arith, above) in
    let same : shadow_of a g (i - 1) (Some i) 0 ≡ shadow_of a g c None 0 =
    hold_begins a g (i - 1) i ∙ passes_free a g c (i - 1) calm (passes a c (i - 1) before (λ j k l. let m = least j k l in omega (arith, m, above, l))) in
    record {
      own = scan.own;
      holds = record {
        next = omega (arith, above);
        there = there;
        idle = idle;
        first = n;
        alike = λ d. inl refl;
        bytes = refl;
        same = λ f. subst (SameFork (fork_in a.geometry n (core_at a.geometry n i) f)) (sym (of i there f)) (same_self (fork_in a.geometry n (core_at a.geometry n i) f));
        come = (nothing_came a.geometry n (core_at a.geometry n i) forks.Data, refl);
      };
      equation = λ r. subst (λ ts. KeepsTuples ts s) (sym same) (scan.equation tt);
    }

pub scan_ends : (a : State) (n : Image) (g c d : ℕ) (s : ShadowState) → IsCalm a → c ≤ d → ((j : ℕ) → is_allocated a j ≡ true → c < j → ⊥) → IsScan a n g c None s → IsScan a n g d None s
scan_ends a n g c d s calm le none scan = record {
  own = scan.own;
  holds = tt;
  equation = λ r. subst (λ ts. KeepsTuples ts s) (sym (passes_free a g c d calm (passes a c d le (λ j k l. absurd (none j k l))))) (scan.equation tt);
}

-- ---- what a piece claims

blocks_numbered : (at : Layout) (g ino flag : ℕ) (bs : List TreeBlock) → fork_tree_claims at g ino flag bs ≡ block_claims at g ino flag (map (λ (b : TreeBlock). b.block) bs)
blocks_numbered at g ino flag [] = refl
blocks_numbered at g ino flag (b ∷ bs) = ap (λ cs. tree_block_at g ino flag (split_of at b.block) ++ cs) (blocks_numbered at g ino flag bs)

abbrev no_list : ForkList
no_list = record { mappings = []; blocks = [] }

passed_by : (p : TreeBlock → Bool) (b : TreeBlock) (bs : List TreeBlock) → p b ≡ false → filter p bs ≡ [] → filter p (b ∷ bs) ≡ []
passed_by p b bs e h = ap (λ t. cond t (b ∷ filter p bs) (filter p bs)) e ∙ h

none_chosen : (k x : ℕ) → (nat_le k x && nat_lt x (k + 0)) ≡ false
none_chosen k x = grind (arith, nat_tests)

no_blocks : (k : ℕ) (bs : List TreeBlock) → filter (λ (b : TreeBlock). nat_le k b.before && nat_lt b.before (k + 0)) bs ≡ []
no_blocks k [] = refl
no_blocks k (b ∷ bs) = passed_by (λ (x : TreeBlock). nat_le k x.before && nat_lt x.before (k + 0)) b bs (none_chosen k b.before) (no_blocks k bs)

next_none : (k n : ℕ) (list : ForkList) → n ≡ 0 → next_mappings k n list ≡ no_list
next_none k n list e = ap (λ m. next_mappings k m list) e ∙ (λ i. record { mappings = []; blocks = no_blocks k list.blocks i })

drop_past : {X : Type 0} (k : ℕ) (xs : List X) → length xs ≤ k → drop k xs ≡ []
drop_past zero [] h = refl
drop_past zero (x ∷ xs) h = absurd (omega (arith, h))
drop_past (suc k) [] h = refl
drop_past (suc k) (x ∷ xs) h = drop_past k xs (omega (arith, h))

take_nothing : {X : Type 0} (n : ℕ) → take {A = X} n [] ≡ []
take_nothing zero = refl
take_nothing (suc n) = refl

none_behind : (k n l x : ℕ) → x < l → l ≤ k → (nat_le k x && nat_lt x (k + n)) ≡ false
none_behind k n l x h m = grind (arith, nat_tests)

past_blocks : (k n l : ℕ) (bs : List TreeBlock) → l ≤ k → Each (λ (b : TreeBlock). b.before < l) bs → filter (λ (b : TreeBlock). nat_le k b.before && nat_lt b.before (k + n)) bs ≡ []
past_blocks k n l [] m h = refl
past_blocks k n l (b ∷ bs) m h = passed_by (λ (x : TreeBlock). nat_le k x.before && nat_lt x.before (k + n)) b bs (none_behind k n l b.before h.0 m) (past_blocks k n l bs m h.1)

next_past : (k n : ℕ) (list : ForkList) → length list.mappings ≤ k → Each (λ (b : TreeBlock). b.before < length list.mappings) list.blocks → next_mappings k n list ≡ no_list
next_past k n list m h = λ i. record { mappings = (ap (take n) (drop_past k list.mappings m) ∙ take_nothing n) i; blocks = past_blocks k n (length list.mappings) list.blocks m h i }

abbrev four_claims : Layout → ℕ → ℕ → ForkList → ForkList → List Claimed
four_claims at g ino d t =
    mapping_claims at g (Data ino) ino 0 d.mappings ++ mapping_claims at g (Attr ino) ino attribute t.mappings
    ++ fork_tree_claims at g ino 0 d.blocks ++ fork_tree_claims at g ino attribute t.blocks

drop_nils : (xs ys : List Claimed) → ((xs ++ []) ++ ys) ++ [] ≡ xs ++ ys
drop_nils xs ys = append-nil ((xs ++ []) ++ ys) ∙ ap (λ zs. zs ++ ys) (append-nil xs)

drop_nil : (xs ys : List Claimed) → (xs ++ []) ++ ys ≡ xs ++ ys
drop_nil xs ys = ap (λ zs. zs ++ ys) (append-nil xs)

data_next : (a : State) (g ino k : ℕ) (piece : ForkPiece) → IsNextPiece (fork_of a ino forks.Data) k piece → next_claims a g ino k (length piece.mappings.items) ≡ claims_of a.geometry forks.Data ino piece g
data_next a g ino k piece p =
    let n : ℕ = length piece.mappings.items in
    let behind : ℕ = length (fork_of a ino forks.Data).mappings in
    let d : ForkList = next_mappings k n (fork_of a ino forks.Data) in
    let inside = p.inside in
    let none : (k + n - behind) - (k - behind) ≡ 0 = omega (arith, inside) in
    ap (four_claims a.geometry g ino d) (next_none (k - behind) ((k + n - behind) - (k - behind)) (fork_of a ino forks.Attr) none)
    ∙ drop_nils (mapping_claims a.geometry g (Data ino) ino 0 d.mappings) (fork_tree_claims a.geometry g ino 0 d.blocks)
    ∙ (λ i. mapping_claims a.geometry g (Data ino) ino 0 (p.mappings i) ++ (blocks_numbered a.geometry g ino 0 d.blocks ∙ ap (block_claims a.geometry g ino 0) p.blocks) i)

attr_next : (a : State) (g ino k : ℕ) (piece : ForkPiece) → HasBelow a ino forks.Data → IsNextPiece (fork_of a ino forks.Attr) k piece → next_claims a g ino (length (fork_of a ino forks.Data).mappings + k) (length piece.mappings.items) ≡ claims_of a.geometry forks.Attr ino piece g
attr_next a g ino k piece below p =
    let n : ℕ = length piece.mappings.items in
    let behind : ℕ = length (fork_of a ino forks.Data).mappings in
    let al : ForkList = fork_of a ino forks.Attr in
    let t : ForkList = next_mappings k n al in
    let start : (behind + k) - behind ≡ k = omega arith in
    let count : (behind + k + n - behind) - ((behind + k) - behind) ≡ n = omega arith in
    (λ i. four_claims a.geometry g ino (next_past (behind + k) n (fork_of a ino forks.Data) (omega arith) below i) (next_mappings (start i) (count i) al))
    ∙ drop_nil (mapping_claims a.geometry g (Attr ino) ino attribute t.mappings) (fork_tree_claims a.geometry g ino attribute t.blocks)
    ∙ (λ i. mapping_claims a.geometry g (Attr ino) ino attribute (p.mappings i) ++ (blocks_numbered a.geometry g ino attribute t.blocks ∙ ap (block_claims a.geometry g ino attribute) p.blocks) i)

-- ---- a shadow gains it

piece_gained : PieceGives → (a : State) (g c ino k n : ℕ) (cs : ℕ → List Claimed) (s s' : ShadowState) → IsCalm a → IsUntied a g → AtRest a (Some ino) → s.group ≡ g → next_claims a g ino k n ≡ cs g → Gains s s' cs
    → KeepsTuples (shadow_of a g c (Some ino) k) s → KeepsTuples (shadow_of a g c (Some ino) (k + n)) s'
piece_gained gives a g c ino k n cs s s' calm untied rest own e gains keeps =
    gains.kept (shadow_of a g c (Some ino) k) (shadow_of a g c (Some ino) (k + n)) (shadow_untied a g c (Some ino) (k + n) calm rest untied) (λ t.
    ap (λ ts. has ts t) (gives a g c ino k n)
    ∙ has_set (shadow_of a g c (Some ino) k ++ map tuple_of (next_claims a g ino k n)) t
    ∙ has_both (shadow_of a g c (Some ino) k) (map tuple_of (next_claims a g ino k n)) t
    ∙ ap (λ xs. has (shadow_of a g c (Some ino) k) t || hasc xs t) (e ∙ ap cs (sym own))) keeps

comes_of : (at : Layout) (first : Image) (core : Core3) (f : Fork) (next own given : ℕ) → ComesTo at first core f next own given → Comes at first core f next own
comes_of at first core forks.Data next own given h = h.0
comes_of at first core forks.Attr next own given h = h.0

number_right : (b : Bool) (length count : ℕ) → (b ≡ true → length ≡ count) → (if b then length == count else true) ≡ true
number_right true length count h = eq-eqb length count (h refl)
number_right false length count h = refl

-- all pieces of a fork with the right number are the fork
whole_fork : (at : Layout) (image : Image) (core : Core3) (f : Fork) (pieces : List ForkPiece) → Follow at image core f (Some 0) pieces None → (is_tree core f ≡ true → length (all_mappings pieces) ≡ count_of core f) → (list : ForkList) × (fork_in at image core f ≡ Ok list) × (length (all_mappings pieces) ≡ length list.mappings)
whole_fork at image core f pieces h number =
    let whole = pieces_whole at image core f pieces h in
    let maps = whole.mappings_are in
    (list_of (met_of at image core f), good_is at image core f whole.good (number_right (is_tree core f) (length (met_of at image core f).mappings) (count_of core f) (λ tree. ap length (sym maps) ∙ number tree)), ap length maps)

module _ (gives : PieceGives) (a : State) (n : Image) (g c : ℕ) (h : Held) (s s' : ShadowState) (piece : ForkPiece) (calm : IsCalm a) (untied : IsUntied a g) (scan : IsScan a n g c (Some h) s)
    (p : IsForkPiece a.geometry n (core_at a.geometry n h.ino) h.fork h.next piece) (sized : (o : ℕ) → piece.next ≡ Some o → h.next < o) (gained : Gains s s' (claims_of a.geometry h.fork h.ino piece)) where
  abbrev first : Image
  first = scan.holds.first

  abbrev core : Core3
  core = core_at a.geometry first h.ino

  abbrev count : ℕ
  count = length piece.mappings.items

  comes : Comes a.geometry first core h.fork h.next h.own
  comes = comes_of a.geometry first core h.fork h.next h.own h.given scan.holds.come

  old : IsForkPiece a.geometry first core h.fork h.next piece
  old = was_there a.geometry core h.fork first n h.next piece scan.holds.alike (subst (λ (bs : List ℕ). IsForkPiece a.geometry n (core_of bs) h.fork h.next piece) scan.holds.bytes p)

  followed : Follow a.geometry first core h.fork (Some 0) (comes.pieces ++ piece ∷ []) piece.next
  followed = snoc_follow a.geometry first core h.fork comes.pieces (Some 0) h.next piece comes.follow old

  -- a fork that can be read is as it was
  list_of_fork : IsReadable a (Some h) → (f : Fork) → (list : ForkList) × (fork_in a.geometry first core f ≡ Ok list) × (a.fork h.ino f ≡ Ok list)
  list_of_fork r f = readable (fork_in a.geometry first core f) (a.fork h.ino f) (scan.holds.same f) (r f)

  below : (list : ForkList) (f : Fork) → fork_in a.geometry first core f ≡ Ok list → a.fork h.ino f ≡ Ok list → HasBelow a h.ino f
  below list f e k = subst (λ (l : ForkList). Each (λ (b : TreeBlock). b.before < length l.mappings) l.blocks) (sym (ap read_fork k)) (list_below a.geometry first core f list e)

  is_next : (r : IsReadable a (Some h)) → IsNextPiece (fork_of a h.ino h.fork) h.own piece
  is_next r =
      let l = list_of_fork r h.fork in
      subst (λ (x : ForkList). IsNextPiece x h.own piece) (sym (ap read_fork l.2)) (next_is_given a.geometry core h.fork first l.0 h.next h.own piece l.1 comes sized old)

  by_fork : (f : Fork) (next own given : ℕ) → IsReadable a (Some h) → ComesTo a.geometry first core f next own given → IsNextPiece (fork_of a h.ino f) own piece → next_claims a g h.ino given count ≡ claims_of a.geometry f h.ino piece g
  by_fork forks.Data next own given r come q = ap (λ k. next_claims a g h.ino k count) come.1 ∙ data_next a g h.ino own piece q
  by_fork forks.Attr next own given r come q =
      let l = list_of_fork r forks.Data in
      let same : l.0 ≡ come.1.0 = ok_same l.0 come.1.0 (sym l.1 ∙ come.1.1) in
      let long : given ≡ length (fork_of a h.ino forks.Data).mappings + own = come.1.2 ∙ ap (λ (x : ForkList). length x.mappings + own) (sym (ap read_fork l.2 ∙ same)) in
      ap (λ k. next_claims a g h.ino k count) long ∙ attr_next a g h.ino own piece (below l.0 forks.Data l.1 l.2) q
    where
      ok_same : (x y : ForkList) → ◌≡◌ {A = Result ForkList ForkFault} (Ok x) (Ok y) → x ≡ y
      ok_same x y e = cc

  equation : IsReadable a (Some h) → KeepsTuples (shadow_of a g c (Some h.ino) (h.given + count)) s'
  equation r =
      piece_gained gives a g c h.ino h.given count (claims_of a.geometry h.fork h.ino piece) s s' calm untied (scan.holds.idle, is_inode_of a h.ino scan.holds.there) scan.own
      (by_fork h.fork h.next h.own h.given r scan.holds.come (is_next r)) gained (scan.equation r)

  counted : length (all_mappings (comes.pieces ++ piece ∷ [])) ≡ h.own + count
  counted = snoc_count comes.pieces piece ∙ ap (λ x. x + count) (sym comes.count)

  on : (o : ℕ) → piece.next ≡ Some o → Comes a.geometry first core h.fork o (h.own + count)
  on o e =
      let late = sized o e in
      record { pieces = comes.pieces ++ piece ∷ []; follow = subst (Follow a.geometry first core h.fork (Some 0) (comes.pieces ++ piece ∷ [])) e followed; count = sym counted; begun = inr (omega (arith, late)) }

  come_on : (f : Fork) (o next own given : ℕ) → Comes a.geometry first core f o (own + count) → ComesTo a.geometry first core f next own given → ComesTo a.geometry first core f o (own + count) (given + count)
  come_on forks.Data o next own given k come = (k, ap (λ x. x + count) come.1)
  come_on forks.Attr o next own given k come = (k, (come.1.0, come.1.1, by (length come.1.0.mappings) own given come.1.2))
    where
      by : (l own given : ℕ) → given ≡ l + own → given + count ≡ l + (own + count)
      by l own given e = omega (arith, e)

  -- more of the fork is left
  pub goes_on : (o : ℕ) → piece.next ≡ Some o → IsScan a n g c (Some (record h { next = o; own = h.own + count; given = h.given + count })) s'
  goes_on o e = record {
    own = gained.own ∙ scan.own;
    holds = record {
      next = scan.holds.next;
      there = scan.holds.there;
      idle = scan.holds.idle;
      first = first;
      alike = scan.holds.alike;
      bytes = scan.holds.bytes;
      same = scan.holds.same;
      come = come_on h.fork o h.next h.own h.given (on o e) scan.holds.come;
    };
    equation = equation;
  }

  -- the number of mappings that the core says, where the fork is a btree
  abbrev pub HasNumber : Type 0
  HasNumber = is_tree (core_at a.geometry n h.ino) h.fork ≡ true → h.own + count ≡ count_of (core_at a.geometry n h.ino) h.fork

  number_first : HasNumber → is_tree core h.fork ≡ true → length (all_mappings (comes.pieces ++ piece ∷ [])) ≡ count_of core h.fork
  number_first number = subst (λ (bs : List ℕ). is_tree (core_of bs) h.fork ≡ true → length (all_mappings (comes.pieces ++ piece ∷ [])) ≡ count_of (core_of bs) h.fork) scan.holds.bytes (λ tree. counted ∙ number tree)

  whole : piece.next ≡ None → HasNumber → (list : ForkList) × (fork_in a.geometry first core h.fork ≡ Ok list) × (length (all_mappings (comes.pieces ++ piece ∷ [])) ≡ length list.mappings)
  whole e number = whole_fork a.geometry first core h.fork (comes.pieces ++ piece ∷ []) (subst (Follow a.geometry first core h.fork (Some 0) (comes.pieces ++ piece ∷ [])) e followed) (number_first number)

  -- the data fork was given whole
  pub data_done : h.fork ≡ forks.Data → piece.next ≡ None → HasNumber → IsScan a n g c (Some (record h { fork = forks.Attr; next = 0; own = 0; given = h.given + count })) s'
  data_done f e number =
      let w = whole e number in
      let given : h.given ≡ h.own = (subst (λ (x : Fork). ComesTo a.geometry first core x h.next h.own h.given) f scan.holds.come).1 in
      let here : fork_in a.geometry first core forks.Data ≡ Ok w.0 = subst (λ (x : Fork). fork_in a.geometry first core x ≡ Ok w.0) f w.1 in
      record {
        own = gained.own ∙ scan.own;
        holds = record {
          next = scan.holds.next;
          there = scan.holds.there;
          idle = scan.holds.idle;
          first = first;
          alike = scan.holds.alike;
          bytes = scan.holds.bytes;
          same = scan.holds.same;
          come = (nothing_came a.geometry first core forks.Attr, (w.0, here, by h.given h.own count (length w.0.mappings) given (sym counted ∙ w.2)));
        };
        equation = equation;
      }
    where
      by : (given own count l : ℕ) → given ≡ own → own + count ≡ l → given + count ≡ l + 0
      by given own count l e f = omega (arith, e, f)

  -- so was the attribute fork
  pub both_done : h.fork ≡ forks.Attr → piece.next ≡ None → HasNumber → IsScan a n g h.ino None s'
  both_done f e number =
      let w = whole e number in
      let come = subst (λ (x : Fork). ComesTo a.geometry first core x h.next h.own h.given) f scan.holds.come in
      let here : fork_in a.geometry first core forks.Attr ≡ Ok w.0 = subst (λ (x : Fork). fork_in a.geometry first core x ≡ Ok w.0) f w.1 in
      let data_now : a.fork h.ino forks.Data ≡ Ok come.1.0 = same_ok (fork_in a.geometry first core forks.Data) (a.fork h.ino forks.Data) come.1.0 come.1.1 (scan.holds.same forks.Data) in
      let attr_now : a.fork h.ino forks.Attr ≡ Ok w.0 = same_ok (fork_in a.geometry first core forks.Attr) (a.fork h.ino forks.Attr) w.0 here (scan.holds.same forks.Attr) in
      let read : IsReadable a (Some h) = λ x. by_both x data_now attr_now in
      let all : h.given + count ≡ all_of a h.ino = total (length come.1.0.mappings) h.own h.given count (length w.0.mappings) come.1.2 (sym counted ∙ w.2) ∙ (λ i. length (read_fork (sym data_now i)).mappings + length (read_fork (sym attr_now i)).mappings) in
      record {
        own = gained.own ∙ scan.own;
        holds = tt;
        equation = λ r. visited_now h.ino scan.holds.next scan.holds.idle (is_inode_of a h.ino scan.holds.there) (λ x. by_below x come.1.0 w.0 come.1.1 here data_now attr_now) (subst (λ k. KeepsTuples (shadow_of a g c (Some h.ino) k) s') all (equation read));
      }
    where
      by_both : {x y : ForkList} (f : Fork) → a.fork h.ino forks.Data ≡ Ok x → a.fork h.ino forks.Attr ≡ Ok y → is_ok (a.fork h.ino f) ≡ true
      by_both forks.Data d e = ap is_ok d
      by_both forks.Attr d e = ap is_ok e

      by_below : (f : Fork) (x y : ForkList) → fork_in a.geometry first core forks.Data ≡ Ok x → fork_in a.geometry first core forks.Attr ≡ Ok y → a.fork h.ino forks.Data ≡ Ok x → a.fork h.ino forks.Attr ≡ Ok y → HasBelow a h.ino f
      by_below forks.Data x y d e k l = below x forks.Data d k
      by_below forks.Attr x y d e k l = below y forks.Attr e l

      total : (l own given count m : ℕ) → given ≡ l + own → own + count ≡ m → given + count ≡ l + m
      total l own given count m e f = omega (arith, e, f)

      visited_now : (ino : ℕ) → c + 1 ≡ ino → IsIdle a ino → is_inode a ino ≡ true → ((f : Fork) → HasBelow a ino f) → KeepsTuples (shadow_of a g c (Some ino) (all_of a ino)) s' → KeepsTuples (shadow_of a g ino None 0) s'
      visited_now ino e idle is low k =
          subst (λ x. KeepsTuples (shadow_of a g x None 0) s') e
          (subst (λ ts. KeepsTuples ts s') (whole_visited a g c calm (subst (IsIdle a) (sym e) idle) (subst (λ x. is_inode a x ≡ true) (sym e) is) (λ f. subst (λ x. HasBelow a x f) (sym e) (low f)))
          (subst (λ x. KeepsTuples (shadow_of a g c (Some x) (all_of a x)) s') (sym e) k))
