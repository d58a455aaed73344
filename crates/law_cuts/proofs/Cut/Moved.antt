-- Blocks that move between trees, the list and limbo: each has one owner before and one then, and mappings follow it.
use Rattle.std.proofs.Common.{◌≡◌, ℕ, ◌+◌, ◌≤◌, ◌==◌, ◌&&◌, ◌||◌, Bool, true, false, not, cond, nat_le, nat_lt, List, [], ◌∷◌, ◌++◌, drop, filter, find, flat_map, map, Some, is_some, refl, sym, ap, subst, ◌∙◌, inl, inr, arith, eq-eqb}
use Rattle.std.specs.Prelude.{◌⊎◌, if◌then◌else◌}
use Rattle.std.specs.List.{list_any}
use Rattle.std.proofs.lemmas.Bool.{cases_order, true≢false}
use Rattle.std.proofs.lemmas.Bool.Decides.{nat_tests}
use Rattle.law_accounts.proofs.Account.Covers.{given_covers, taken_covers}
use Rattle.law_accounts.proofs.Account.Framed.{SameParts, edit_parts}
use Rattle.law_accounts.proofs.Account.Mappings.{edited_recs}
use Rattle.law_accounts.specs.Account.Steps.{IsWritten}
use Rattle.law_accounts.specs.Account.Accounts.{at_span, covers_at}
use Rattle.law_writers.proofs.Change.Members.{both_ways}
use Rattle.fs_change.specs.Loose.{MovesBlocks, count_used, lost_in, lost_to, met_by_moves, owners_follow, owners_in, tree_blocks}
use Rattle.fs_change.specs.Met.{Met, give_each, is_fault, met_gaining_each, met_losing, met_losing_each, one_block, take_each}
use Rattle.fs_change.specs.Parts.{change_tree, edit, in_blocks, in_trees, is_edited, is_sick, records_in, with_recs}
use Rattle.fs_change.specs.Switch.{has_owned}
use Rattle.fs_state.specs.Records.{all_kinds, tree_owner}
use Rattle.fs_model.specs.declared.unit.Trust.{Trust}
use Rattle.fs_state.specs.Group.{is_among}
use Rattle.fs_state.specs.Kinds.{RecOf}
use Rattle.fs_state.specs.State.{Group, Owned, Index, Readable, Reading, Unreadable, blocks_in, is_readable, pairs_of, recs_of}
use Rattle.law_repairs.proofs.Move.Claiming.{owned_times}
use Rattle.law_repairs.proofs.Move.Pairs.{Among, among_of, block_in, blocks_are, has_of, with_block}
use Rattle.law_repairs.proofs.Repair.Totals.{limbo_weight, owned_by, pairs_weight}
use Rattle.rmap_recs.specs.Owners.{number_of}
use Rattle.rmap_recs.specs.declared.owner.Owner.TheVariants.{Ag}
use Rattle.rmap_recs.specs.declared.records.RmapRec.{RmapRec}
use Rattle.run_edits.specs.Edits.{holds}
use Rattle.sblock.specs.declared.kind.Kind.{Kind}
use Rattle.sblock.specs.declared.kind.Kind.TheVariants.{Bno, Cnt, Rmap, Refc, Ino, Fino}
use Rattle.tree_defs.specs.Lists.{times}

-- ---- pairs of a block that has one

pub fewer : (f : Owned → Bool) (k : ℕ) (os : List Owned) → times k (blocks_in (filter f os)) ≤ times k (blocks_in os)
fewer f k [] = omega arith
fewer f k (o ∷ os) = by (f o) (fewer f k os)
  where
    by : (t : Bool) → times k (blocks_in (filter f os)) ≤ times k (blocks_in os) → times k (blocks_in (cond t (o ∷ filter f os) (filter f os))) ≤ times k (blocks_in (o ∷ os))
    by true h = omega (arith, h)
    by false h = omega (arith, h)

-- a filter keeps that one, or none
one_kept : (f : Owned → Bool) (k : ℕ) (os : List Owned) (o : Owned) → times k (blocks_in os) ≡ 1 → Among o os → o.block ≡ k → times k (blocks_in (filter f os)) ≡ (if f o then 1 else 0)
one_kept f k [] o once c e = absurd c
one_kept f k (p ∷ ps) o once c e = elim c [
  | inl same ↦
      let here : ◌≡◌ {A = ℕ} (if p.block == k then 1 else 0) 1 = ap (λ (t : Bool). if t then 1 else 0) (eq-eqb p.block k (ap (λ (q : Owned). q.block) same ∙ e)) in
      let few = fewer f k ps in
      first (f p) here (omega (arith, few, once, here)) ∙ ap (λ (q : Owned). if f q then 1 else 0) same
  | inr later ↦
      let some : 1 ≤ times k (blocks_in ps) = subst (λ n. 1 ≤ times n (blocks_in ps)) e (block_in o ps later) in
      next (f p) (f o) (omega (arith, once, some)) (one_kept f k ps o (omega (arith, once, some)) later e)
]
  where
    first : (t : Bool) → ◌≡◌ {A = ℕ} (if p.block == k then 1 else 0) 1 → times k (blocks_in (filter f ps)) ≡ 0 → times k (blocks_in (cond t (p ∷ filter f ps) (filter f ps))) ≡ (if t then 1 else 0)
    first true here none = omega (arith, here, none)
    first false here none = none

    next : (t u : Bool) → ◌≡◌ {A = ℕ} (if p.block == k then 1 else 0) 0 → times k (blocks_in (filter f ps)) ≡ (if u then 1 else 0) → times k (blocks_in (cond t (p ∷ filter f ps) (filter f ps))) ≡ (if u then 1 else 0)
    next true u none rest = omega (arith, none, rest)
    next false u none rest = rest

bit_true : (t : Bool) → ◌≡◌ {A = ℕ} (if t then 1 else 0) 1 → t ≡ true
bit_true true e = refl
bit_true false e = absurd (omega (arith, e))

pub same_at : (k : ℕ) (os : List Owned) (o p : Owned) → times k (blocks_in os) ≡ 1 → Among o os → Among p os → o.block ≡ k → p.block ≡ k → o ≡ p
same_at k os o p once c d e f =
    let one : ◌≡◌ {A = ℕ} (if has_owned (p ∷ []) o then 1 else 0) 1 =
    sym (one_kept (λ r. has_owned (r ∷ []) o) k os p once d f) ∙ one_kept (λ r. has_owned (r ∷ []) o) k os o once c e ∙ ap (λ (t : Bool). if t then 1 else 0) (has_of o (o ∷ []) (inl refl)) in
    elim (among_of o (p ∷ []) (bit_true (has_owned (p ∷ []) o) one)) [ inl same ↦ sym same | inr none ↦ absurd none ]

-- a block that stands once in both lists is lost as often as it is gained
pub lost_alike : (k : ℕ) (os ps : List Owned) → times k (blocks_in ps) ≡ times k (blocks_in os) → times k (blocks_in os) ≤ 1 → times k (blocks_in (lost_to ps os)) ≡ times k (blocks_in (lost_to os ps))
lost_alike k os ps same most = elim (cases_order (times k (blocks_in os)) 0) [
  | inl none ↦
      let x = fewer (λ r. not (has_owned ps r)) k os in
      let y = fewer (λ r. not (has_owned os r)) k ps in
      omega (arith, x, y, none, same)
  | inr (inl less) ↦ absurd (omega (arith, less))
  | inr (inr some) ↦
      let o = with_block k os (omega (arith, some)) in
      let p = with_block k ps (omega (arith, some, same)) in
      let once : times k (blocks_in os) ≡ 1 = omega (arith, some, most) in
      let again : times k (blocks_in ps) ≡ 1 = omega (arith, once, same) in
      one_kept (λ r. not (has_owned os r)) k ps p.0 again p.1 p.2
      ∙ ap (λ (t : Bool). if not t then 1 else 0) (both_ways (has_owned os p.0) (has_owned ps o.0)
      (λ h. has_of o.0 ps (subst (λ (r : Owned). Among r ps) (sym (same_at k os o.0 p.0 once o.1 (among_of p.0 os h) o.2 p.2)) p.1))
      (λ h. has_of p.0 os (subst (λ (r : Owned). Among r os) (same_at k ps o.0 p.0 again (among_of o.0 ps h) p.1 o.2 p.2) o.1)))
      ∙ sym (one_kept (λ r. not (has_owned ps r)) k os o.0 once o.1 o.2)
]

-- a set has a block as often as a list that has it once
pub once_in_set : (k : ℕ) (os : List Owned) → times k (blocks_in os) ≤ 1 → times k (blocks_in (pairs_of os)) ≡ times k (blocks_in os)
once_in_set k os most =
    let listed = owned_times k os in
    let set = owned_times k (pairs_of os) in
    let less = (pairs_weight (limbo_weight (owned_by k)) os).0 in
    elim (cases_order (times k (blocks_in os)) 0) [
      | inl none ↦ omega (arith, less, listed, set, none)
      | inr (inl below) ↦ absurd (omega (arith, below))
      | inr (inr some) ↦
          let more = (pairs_weight (limbo_weight (owned_by k)) os).1 (omega (arith, some, listed)) in
          omega (arith, less, more, listed, set, some, most)
    ]

-- so it is lost as often as it is gained in the order of blocks too
alike_in_order : (k : ℕ) (os ps : List Owned) → times k (blocks_in ps) ≡ times k (blocks_in os) → times k (blocks_in os) ≤ 1
    → times k (blocks_in (pairs_of (lost_to ps os))) ≡ times k (blocks_in (pairs_of (lost_to os ps)))
alike_in_order k os ps same most =
    let new = fewer (λ r. not (has_owned os r)) k ps in
    let old = fewer (λ r. not (has_owned ps r)) k os in
    once_in_set k (lost_to ps os) (omega (arith, new, same, most)) ∙ lost_alike k os ps same most ∙ sym (once_in_set k (lost_to os ps) (omega (arith, old, most)))

-- ---- mappings that follow

unit_span : (x k : ℕ) → at_span x 1 k ≡ (if x == k then 1 else 0)
unit_span x k = ap (λ (t : Bool). if t then 1 else 0) (at x k)
  where
    at : (x k : ℕ) → (nat_le x k && nat_lt k (x + 1)) ≡ (x == k)
    at x k = grind (arith, nat_tests)

given_each : (os : List Owned) (recs : List RmapRec) (k : ℕ) → covers_at (give_each os recs) k ≡ covers_at recs k + times k (blocks_in os)
given_each [] recs k = omega arith
given_each (o ∷ os) recs k =
    let one = given_covers (one_block o) (give_each os recs) k (omega arith) in
    let rest = given_each os recs k in
    let at = unit_span o.block k in
    omega (arith, one, rest, at)

found_any : (p : RmapRec → Bool) (rs : List RmapRec) → is_some (find p rs) ≡ list_any p rs
found_any p [] = refl
found_any p (r ∷ rs) = elim (p r) as (λ b. is_some (cond b (Some r) (find p rs)) ≡ (b || list_any p rs)) [ true ↦ refl | false ↦ found_any p rs ]

both_false : (x y : Bool) → (x || y) ≡ false → (x ≡ false) × (y ≡ false)
both_false true y h = absurd (true≢false h)
both_false false y h = (refl, h)

is_there : (b : Bool) → not b ≡ false → b ≡ true
is_there true h = refl
is_there false h = absurd (true≢false h)

pub holder_there : (r : RmapRec) (rs : List RmapRec) → (met_losing r rs).lacks ≡ false → list_any (λ p. holds p r) rs ≡ true
holder_there r rs h = sym (found_any (λ p. holds p r) rs) ∙ is_there (is_some (find (λ p. holds p r) rs)) h

taken_each : (os : List Owned) (recs : List RmapRec) (k : ℕ) → (met_losing_each os recs).lacks ≡ false → covers_at (take_each os recs) k + times k (blocks_in os) ≡ covers_at recs k
taken_each [] recs k h = omega arith
taken_each (o ∷ os) recs k h =
    let none = both_false (met_losing_each os recs).lacks (met_losing (one_block o) (take_each os recs)).lacks h in
    let one = taken_covers (one_block o) (take_each os recs) k (omega arith) (holder_there (one_block o) (take_each os recs) none.1) in
    let rest = taken_each os recs k none.0 in
    let at = unit_span o.block k in
    omega (arith, one, rest, at)

-- ---- an edit of mappings

put_cases : {R : Type 0} (new : List R) (r : Reading R) → (recs_of (with_recs new r) ≡ new) ⊎ (recs_of (with_recs new r) ≡ recs_of r)
put_cases new (Readable recs blocks) = inl refl
put_cases new (Unreadable block fault claims) = inr refl

-- it is made, or leaves them
edit_cases : (left : List Kind) (f : List RmapRec → List RmapRec) (p : Group)
    → ((is_edited left p Rmap ≡ true) × (records_in (edit left Rmap f p) Rmap ≡ f (records_in p Rmap))) ⊎ (records_in (edit left Rmap f p) Rmap ≡ records_in p Rmap)
edit_cases left f p = by (is_edited left p Rmap) refl
  where
    by : (t : Bool) → is_edited left p Rmap ≡ t
        → ((is_edited left p Rmap ≡ true) × (records_in (cond t (change_tree Rmap (λ i. record i { reading = with_recs (f (recs_of i.reading)) i.reading }) p) p) Rmap ≡ f (records_in p Rmap)))
        ⊎ (records_in (cond t (change_tree Rmap (λ i. record i { reading = with_recs (f (recs_of i.reading)) i.reading }) p) p) Rmap ≡ records_in p Rmap)
    by true e = elim (put_cases (f (recs_of (p.tree Rmap).reading)) (p.tree Rmap).reading) [ inl made ↦ inl (e, made) | inr none ↦ inr none ]
    by false e = inr refl

-- ---- trees in other blocks

put_again : {R : Type 0} (blocks : List ℕ) (r : Reading R) → recs_of (in_blocks blocks r) ≡ recs_of r
put_again blocks (Readable recs old) = refl
put_again blocks (Unreadable block fault claims) = refl

read_again : {R : Type 0} (blocks : List ℕ) (r : Reading R) → is_readable (in_blocks blocks r) ≡ is_readable r
read_again blocks (Readable recs old) = refl
read_again blocks (Unreadable block fault claims) = refl

-- mappings stay, their trust, and whether they can be read
record MapsStay (p q : Group) : Type 0 where
  pub recs : records_in q Rmap ≡ records_in p Rmap
  pub trust : (q.tree Rmap).trust ≡ (p.tree Rmap).trust
  pub readable : is_readable (q.tree Rmap).reading ≡ is_readable (p.tree Rmap).reading

placed : (blocks : Kind → List ℕ) (ks : List Kind) (p : Group) → MapsStay p (in_trees blocks ks p)
placed blocks [] p = record { recs = refl; trust = refl; readable = refl }
placed blocks (k ∷ ks) p = by k (placed blocks ks p)
  where
    same : (j : Kind) → MapsStay p (in_trees blocks ks p) → (in_trees blocks (j ∷ ks) p).tree Rmap ≡ (in_trees blocks ks p).tree Rmap → MapsStay p (in_trees blocks (j ∷ ks) p)
    same j r e = record {
      recs = ap (λ (t : Index (RecOf Rmap)). recs_of t.reading) e ∙ r.recs;
      trust = ap (λ (t : Index (RecOf Rmap)). t.trust) e ∙ r.trust;
      readable = ap (λ (t : Index (RecOf Rmap)). is_readable t.reading) e ∙ r.readable;
    }

    by : (j : Kind) → MapsStay p (in_trees blocks ks p) → MapsStay p (in_trees blocks (j ∷ ks) p)
    by Rmap r =
        let old : Index (RecOf Rmap) = (in_trees blocks ks p).tree Rmap in
        record { recs = put_again (blocks Rmap) old.reading ∙ r.recs; trust = r.trust; readable = read_again (blocks Rmap) old.reading ∙ r.readable }
    by Bno r = same Bno r refl
    by Cnt r = same Cnt r refl
    by Refc r = same Refc r refl
    by Ino r = same Ino r refl
    by Fino r = same Fino r refl

-- ---- a group whose blocks moved

module _ (kept : Bool) (left ks : List Kind) (p q : Group) (m : MovesBlocks kept left ks p q) where
  abbrev laid : Group
  laid = record (in_trees m.blocks ks p) { free_list = drop (count_used p.free_list q.free_list) p.free_list ++ m.freed; limbo = m.limbo }

  abbrev follow_in : Group → List RmapRec → List RmapRec
  follow_in r recs = give_each (lost_in r p) (take_each (lost_in p r) recs)

  parts : SameParts laid (owners_follow left p laid)
  parts = edit_parts left Rmap (follow_in laid) laid

  pub owners_now : owners_in q ≡ owners_in laid
  owners_now =
      let list : q.free_list ≡ laid.free_list = ap (λ (r : Group). r.free_list) m.is ∙ parts.list in
      let blocks : (k : Kind) → tree_blocks q k ≡ tree_blocks laid k = λ k. ap (λ (r : Group). tree_blocks r k) m.is ∙ parts.blocks k in
      let limbo : q.limbo ≡ laid.limbo = ap (λ (r : Group). r.limbo) m.is ∙ parts.limbo in
      λ i. map (λ b. record { block = b; owner = number_of Ag }) (list i) ++ flat_map (λ k. map (λ b. record { block = b; owner = tree_owner k }) (blocks k i)) all_kinds ++ limbo i

  pub reserve_now : q.reserve ≡ p.reserve
  reserve_now = ap (λ (r : Group). r.reserve) m.is ∙ parts.reserve ∙ placed_reserve ks
    where
      placed_reserve : (js : List Kind) → (in_trees m.blocks js p).reserve ≡ p.reserve
      placed_reserve [] = refl
      placed_reserve (k ∷ js) = placed_reserve js

  pub times_now : (k : ℕ) → times k (blocks_in (owners_in q)) ≡ times k (blocks_in (owners_in p))
  times_now k = ap (times k) (blocks_are q) ∙ m.none_lost k ∙ sym (ap (times k) (blocks_are p))

  abbrev pub gone : List Owned
  gone = lost_in p q

  abbrev pub came : List Owned
  came = lost_in q p

  -- mappings stay, or what is gone leaves them, which they had, and what came joins them
  pub maps_now : (((is_edited left p Rmap ≡ true) × ((met_losing_each gone (records_in p Rmap)).lacks ≡ false)) × (records_in q Rmap ≡ give_each came (take_each gone (records_in p Rmap)))) ⊎ (records_in q Rmap ≡ records_in p Rmap)
  maps_now =
      let same : records_in laid Rmap ≡ records_in p Rmap = (placed m.blocks ks p).recs in
      let trust : (laid.tree Rmap).trust ≡ (p.tree Rmap).trust = (placed m.blocks ks p).trust in
      let now : records_in q Rmap ≡ records_in (edit left Rmap (follow_in laid) laid) Rmap = ap (λ (r : Group). records_in r Rmap) m.is in
      elim (edit_cases left (follow_in laid) laid) [
        | inl made ↦
            let edited : is_edited left p Rmap ≡ true = ap (λ (t : Trust). if is_sick t then false else if is_among Rmap left then false else true) (sym trust) ∙ made.0 in
            inl ((edited, lacking edited), now ∙ made.1 ∙ ap (follow_in laid) same ∙ (λ i. give_each (pairs_of (lost_to (sym owners_now i) (owners_in p))) (take_each (pairs_of (lost_to (owners_in p) (sym owners_now i))) (records_in p Rmap))))
        | inr none ↦ inr (now ∙ none ∙ same)
      ]
    where
      lacking : is_edited left p Rmap ≡ true → (met_losing_each gone (records_in p Rmap)).lacks ≡ false
      lacking e =
          let fault : is_fault (met_by_moves p q) ≡ false = ap (λ (t : Bool). t && is_fault (met_by_moves p q)) (sym e) ∙ m.owners_met in
          let losing : Met = met_losing_each gone (records_in p Rmap) in
          let gaining : Met = met_gaining_each came (take_each gone (records_in p Rmap)) in
          (both_false losing.lacks gaining.lacks (both_false (losing.lacks || gaining.lacks) (losing.meets || gaining.meets) fault).0).0

  -- a block that stands once in them is covered as often as before
  pub covers_now : (k : ℕ) → times k (blocks_in (owners_in p)) ≤ 1 → covers_at (records_in q Rmap) k ≡ covers_at (records_in p Rmap) k
  covers_now k most = elim maps_now [
    | inr none ↦ ap (λ rs. covers_at rs k) none
    | inl made ↦
        let moved = alike_in_order k (owners_in p) (owners_in q) (times_now k) most in
        let less = taken_each gone (records_in p Rmap) k made.0.1 in
        let more = given_each came (take_each gone (records_in p Rmap)) k in
        ap (λ rs. covers_at rs k) made.1 ∙ back _ _ _ _ _ more less moved
  ]
    where
      back : (x y z l g : ℕ) → x ≡ y + g → y + l ≡ z → g ≡ l → x ≡ z
      back x y z l g e f h = omega (arith, e, f, h)

  -- where they can be edited
  pub maps_written : IsWritten left p → records_in q Rmap ≡ give_each came (take_each gone (records_in p Rmap))
  maps_written w =
      let stay : MapsStay p (in_trees m.blocks ks p) = placed m.blocks ks p in
      let written : IsWritten left laid = record { edited = ap (λ (t : Trust). if is_sick t then false else if is_among Rmap left then false else true) stay.trust ∙ w.edited; readable = stay.readable ∙ w.readable } in
      ap (λ (r : Group). records_in r Rmap) m.is ∙ edited_recs left (follow_in laid) laid written ∙ ap (follow_in laid) stay.recs
      ∙ (λ i. give_each (pairs_of (lost_to (sym owners_now i) (owners_in p))) (take_each (pairs_of (lost_to (owners_in p) (sym owners_now i))) (records_in p Rmap)))
