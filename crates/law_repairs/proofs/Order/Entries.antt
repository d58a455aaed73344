-- Each entry of a repair leaves its group tidy.
use Rattle.std.proofs.Common.{◌≡◌, ℕ, ◌+◌, ◌<◌, ◌≤◌, ◌==◌, Bool, true, false, cond, not, List, [], ◌∷◌, ◌++◌, filter, Option, Some, refl, ap, sym, subst, ◌∙◌, inl, inr, arith, eqb-true}
use Rattle.std.specs.Prelude.{slice_get, if◌then◌else◌}
use Rattle.std.proofs.lemmas.Bool.{cases_Bool, false≢true}
use Rattle.fs_change.specs.Changes.{give_free, is_of_run, joins_no_space, judge, leave_limbo, plain_run, reap_in, take_owner}
use Rattle.fs_change.specs.Loose.{tree_blocks}
use Rattle.fs_change.specs.Parts.{is_sick, set_trusts, sick_in}
use Rattle.fs_change.specs.Records.{give_span, take_mapping}
use Rattle.fs_change.specs.Switch.{is_reserve_of, join_limbo, owned_by, unit_owner}
use Rattle.fs_state.specs.Records.{kinds_of}
use Rattle.fs_state.specs.Laws.{EachTree, IsGoodTree}
use Rattle.fs_model.specs.declared.entry.Extent.{Extent}
use Rattle.fs_model.specs.declared.unit.Trust.{Trust}
use Rattle.fs_model.specs.declared.unit.Trust.TheVariants.{Good}
use Rattle.fs_model.specs.declared.unit.Unit.{Unit as ScrubUnit}
use Rattle.fs_model.specs.declared.unit.Unit.TheVariants as units
use Rattle.fs_model.specs.declared.verdict.Verdict.{Verdict}
use Rattle.fs_model.specs.declared.verdict.Verdict.TheVariants as verdicts
use Rattle.fs_state.specs.Kinds.{RecOf}
use Rattle.fs_state.specs.State.{Group, Index, Owned, State, blocks_in, blocks_of, is_readable}
use Rattle.law_repairs.proofs.Move.Moving.{by_tree}
use Rattle.law_repairs.proofs.Move.Steps.{Steady, both_steady, edit_steady, space_steady}
use Rattle.law_repairs.specs.Repair.Kept.{IsTrue}
use Rattle.law_repairs.specs.Repair.Letters.{Holds}
use Rattle.law_repairs.proofs.Reserve.Reserved.{plain_owner}
use Rattle.law_repairs.proofs.Reserve.Reserving.{off_list, with_reserve}
use Rattle.law_repairs.proofs.Reserve.Turning.{first_is}
use Rattle.rmap_recs.specs.Owners.{is_inode}
use Rattle.sblock.specs.declared.kind.Kind.{Kind}
use Rattle.sblock.specs.declared.kind.Kind.TheVariants.{Rmap}
use Rattle.tree_defs.specs.Lists.{times}
use Rattle.law_repairs.proofs.Order.Lists.{Every, every_both, every_weaker, test_every, times_in, times_of}
use Rattle.law_repairs.proofs.Order.Switching.{every_pairs, not_chunks}
use Rattle.law_repairs.proofs.Order.Tidy.{IsTidy, IsTreeOwner, blocks_times, fewer_inside, fewer_once, held_of, held_times, pairs_less, tree_times}

-- ---- groups that hold the same blocks

same_trees : (b : ℕ) (f h : Kind → List ℕ) → ((k : Kind) → h k ≡ f k) → tree_times b h ≡ tree_times b f
same_trees b f h same = λ i. tree_times b (λ k. same k i)

-- list, trees, limbo and reserve are the same; a tree that can't be read is sick still
pub tidy_same : (len : ℕ) (p q : Group) → q.free_list ≡ p.free_list → ((k : Kind) → tree_blocks q k ≡ tree_blocks p k) → q.limbo ≡ p.limbo → q.reserve ≡ p.reserve → ((k : Kind) → is_readable (q.tree k).reading ≡ false → sick_in q k ≡ true) → IsTidy len p → IsTidy len q
tidy_same len p q list trees limbo reserve bad tidy =
    let same : (b : ℕ) → times b (held_of q) ≤ times b (held_of p) = λ b.
    let now = held_times b q in
    let was = held_times b p in
    let one = ap (times b) list in
    let two = same_trees b (tree_blocks p) (tree_blocks q) trees in
    let three = ap (λ (os : List Owned). times b (blocks_in os)) limbo in
    let four = ap (λ (os : List Owned). times b (blocks_in os)) reserve in
    omega (arith, now, was, one, two, three, four) in
    record {
      once = fewer_once (held_of p) (held_of q) same tidy.once;
      inside = fewer_inside len (held_of p) (held_of q) same tidy.inside;
      bad = bad;
      reserve = subst (Every (λ (o : Owned). is_inode o.owner ≡ false)) (sym reserve) tidy.reserve;
      limbo = subst (Every IsTreeOwner) (sym limbo) tidy.limbo;
    }

-- ---- what is known of trees

-- a tree is read as before, and is sick where it can't be read
abbrev StaysBad : Group → (k : Kind) → Index (RecOf k) → Type 0
StaysBad p k i = (i.reading ≡ (p.tree k).reading) × (is_readable (p.tree k).reading ≡ false → is_sick i.trust ≡ true)

trusts_stay : (t : Trust) (ks : List Kind) (p : Group) → ((k : Kind) → is_readable (p.tree k).reading ≡ false → sick_in p k ≡ true) → EachTree (λ k. is_readable (p.tree k).reading ≡ false → is_sick t ≡ true) ks → (k : Kind) → StaysBad p k ((set_trusts t ks p).tree k)
trusts_stay t [] p bad new k = (refl, bad k)
trusts_stay t (j ∷ ks) p bad new k =
    by_tree (StaysBad p) j k (record ((set_trusts t ks p).tree j) { trust = t }) (set_trusts t ks p).tree ((trusts_stay t ks p bad new.1 j).0, new.0) (λ l. trusts_stay t ks p bad new.1 l)

list_same : (t : Trust) (ks : List Kind) (p : Group) → ((set_trusts t ks p).free_list ≡ p.free_list) × ((set_trusts t ks p).limbo ≡ p.limbo) × ((set_trusts t ks p).reserve ≡ p.reserve)
list_same t [] p = (refl, refl, refl)
list_same t (k ∷ ks) p = list_same t ks p

pub tidy_trusts : (len : ℕ) (t : Trust) (ks : List Kind) (p : Group) → EachTree (λ k. is_readable (p.tree k).reading ≡ false → is_sick t ≡ true) ks → IsTidy len p → IsTidy len (set_trusts t ks p)
tidy_trusts len t ks p new tidy =
    let stays = trusts_stay t ks p tidy.bad new in
    let lists = list_same t ks p in
    tidy_same len p (set_trusts t ks p) lists.0 (λ k. ap blocks_of (stays k).0) lists.1 lists.2 (λ k h. (stays k).1 (ap is_readable (sym (stays k).0) ∙ h)) tidy

-- a tree that is good can be read
good_reads : (a : State) (g : ℕ) (ks : List Kind) → EachTree (IsGoodTree a g) ks → EachTree (λ k. is_readable ((a.group g).tree k).reading ≡ false → is_sick Good ≡ true) ks
good_reads a g [] good = tt
good_reads a g (k ∷ ks) good = ((λ h. absurd (false≢true (sym h ∙ ap is_readable good.0.1))), good_reads a g ks good.1)

good_trees : (a : State) (g : ℕ) (unit : ScrubUnit) → Holds a g unit → EachTree (IsGoodTree a g) (kinds_of unit)
good_trees a g units.Inode h = h.0
good_trees a g units.Free h = h.0
good_trees a g units.Refc h = h.0
good_trees a g units.Rmap h = h.0.0

pub tidy_judged : (a : State) (len g : ℕ) (unit : ScrubUnit) (v : Verdict) → IsTrue a g unit v → IsTidy len (a.group g) → IsTidy len (judge v unit (a.group g))
tidy_judged a len g unit verdicts.Good true_one tidy = tidy_trusts len Good (kinds_of unit) (a.group g) (good_reads a g (kinds_of unit) (good_trees a g unit true_one)) tidy
tidy_judged a len g unit v true_one tidy = tidy

-- ---- blocks that are released

pub unit_is_other : (unit : ScrubUnit) → not_chunks (unit_owner unit)
unit_is_other units.Inode e = omega (arith, e)
unit_is_other units.Rmap e = omega (arith, e)
unit_is_other units.Free e = omega (arith, e)
unit_is_other units.Refc e = omega (arith, e)

pub reserve_owned : (unit : ScrubUnit) (p : Group) → is_reserve_of unit p ≡ true → Every IsTreeOwner p.reserve
reserve_owned unit p own = every_weaker (λ (o : Owned). (o.owner == unit_owner unit) ≡ true) IsTreeOwner (λ o h. let is = eqb-true o.owner (unit_owner unit) h in (ap is_inode is ∙ plain_owner unit, λ e. unit_is_other unit (sym is ∙ e))) p.reserve (test_every (λ (o : Owned). o.owner == unit_owner unit) p.reserve own)

pub tidy_released : (len : ℕ) (unit : ScrubUnit) (p : Group) → is_reserve_of unit p ≡ true → IsTidy len p → IsTidy len (record p { reserve = []; limbo = join_limbo p.reserve p.limbo })
tidy_released len unit p own tidy =
    let q : Group = record p { reserve = []; limbo = join_limbo p.reserve p.limbo } in
    let less : (b : ℕ) → times b (held_of q) ≤ times b (held_of p) = λ b.
    let now = held_times b q in
    let was = held_times b p in
    let set = pairs_less b (p.reserve ++ p.limbo) in
    let both = blocks_times b p.reserve p.limbo in
    omega (arith, now, was, set, both) in
    record {
      once = fewer_once (held_of p) (held_of q) less tidy.once;
      inside = fewer_inside len (held_of p) (held_of q) less tidy.inside;
      bad = tidy.bad;
      reserve = tt;
      limbo = every_pairs IsTreeOwner (p.reserve ++ p.limbo) (every_both IsTreeOwner p.reserve p.limbo (reserve_owned unit p own) tidy.limbo);
    }

-- ---- a group whose records alone change

pub tidy_steady : (len : ℕ) (p q : Group) → Steady p q → IsTidy len p → IsTidy len q
tidy_steady len p q s tidy = tidy_same len p q s.parts.list s.parts.blocks s.parts.limbo s.parts.reserve (λ k h. ap is_sick (s.trust k) ∙ tidy.bad k (sym (s.readable k) ∙ h)) tidy

-- ---- a block that is reserved

added : (unit : ScrubUnit) (p : Group) (b : ℕ) → Every (λ (o : Owned). is_inode o.owner ≡ false) p.reserve → Every (λ (o : Owned). is_inode o.owner ≡ false) (with_reserve unit b p).reserve
added unit p b h = every_both (λ (o : Owned). is_inode o.owner ≡ false) p.reserve (owned_by (unit_owner unit) b ∷ []) h (plain_owner unit, tt)

pub tidy_listed : (len : ℕ) (unit : ScrubUnit) (p : Group) (b : ℕ) → ◌≡◌ {A = Option ℕ} (slice_get p.free_list 0) (Some b) → IsTidy len p → IsTidy len (off_list unit b p)
tidy_listed len unit p b first tidy =
    let q : Group = off_list unit b p in
    let less : (c : ℕ) → times c (held_of q) ≤ times c (held_of p) = λ c.
    let now = held_times c q in
    let was = held_times c p in
    let more = blocks_times c p.reserve (owned_by (unit_owner unit) b ∷ []) in
    let list = ap (times c) (first_is p.free_list b first) in
    omega (arith, now, was, more, list) in
    record {
      once = fewer_once (held_of p) (held_of q) less tidy.once;
      inside = fewer_inside len (held_of p) (held_of q) less tidy.inside;
      bad = tidy.bad;
      reserve = added unit p b tidy.reserve;
      limbo = tidy.limbo;
    }

pub tidy_spare : (len : ℕ) (unit : ScrubUnit) (p : Group) (b : ℕ) → b < len → times b (held_of p) ≡ 0 → IsTidy len p → IsTidy len (with_reserve unit b p)
tidy_spare len unit p b lt none tidy =
    let q : Group = with_reserve unit b p in
    let sum : (c : ℕ) → times c (held_of q) ≡ times c (held_of p) + (if b == c then 1 else 0) = λ c.
    let now = held_times c q in
    let was = held_times c p in
    let more = blocks_times c p.reserve (owned_by (unit_owner unit) b ∷ []) in
    omega (arith, now, was, more) in
    record {
      once = λ c. elim (cases_Bool (b == c)) [
        | inl same ↦
            let none_there : times c (held_of p) ≡ 0 = ap (λ (x : ℕ). times x (held_of p)) (sym (eqb-true b c same)) ∙ none in
            let one : ◌≡◌ {A = ℕ} (if b == c then 1 else 0) 1 = rw same refl in
            let all = sum c in
            omega (arith, all, one, none_there)
        | inr other ↦
            let zero_one : ◌≡◌ {A = ℕ} (if b == c then 1 else 0) 0 = rw other refl in
            let all = sum c in
            let once = tidy.once c in
            omega (arith, all, zero_one, once)
      ];
      inside = λ c i. elim (cases_Bool (b == c)) [
        | inl same ↦ subst (λ (x : ℕ). x < len) (eqb-true b c same) lt
        | inr other ↦
            let zero_one : ◌≡◌ {A = ℕ} (if b == c then 1 else 0) 0 = rw other refl in
            let all = sum c in
            let some = times_of c (held_of q) i in
            tidy.inside c (times_in c (held_of p) (omega (arith, all, zero_one, some)))
      ];
      bad = tidy.bad;
      reserve = added unit p b tidy.reserve;
      limbo = tidy.limbo;
    }

-- ---- a run that is reaped

filter_less : (test : Owned → Bool) (os : List Owned) (b : ℕ) → times b (blocks_in (filter test os)) ≤ times b (blocks_in os)
filter_less test [] b = omega arith
filter_less test (o ∷ os) b = let rest = filter_less test os b in elim (test o) as (λ t. times b (blocks_in (cond t (o ∷ filter test os) (filter test os))) ≤ (if o.block == b then 1 else 0) + times b (blocks_in os)) [
  | true ↦ omega (arith, rest)
  | false ↦ omega (arith, rest)
]

every_filter : (P : Owned → Type 0) (test : Owned → Bool) (os : List Owned) → Every P os → Every P (filter test os)
every_filter P test [] h = tt
every_filter P test (o ∷ os) h = elim (test o) as (λ t. Every P (cond t (o ∷ filter test os) (filter test os))) [
  | true ↦ (h.0, every_filter P test os h.1)
  | false ↦ every_filter P test os h.1
]

pub tidy_reaped : (len : ℕ) (left : List Kind) (owner : ℕ) (e : Extent) (p : Group) → IsTidy len p → IsTidy len (reap_in left owner e p)
tidy_reaped len left owner e p tidy = tidy_steady len (leave_limbo owner e p) (reap_in left owner e p) (by (joins_no_space owner e p)) tidy_off
  where
    by : (t : Bool) → Steady (leave_limbo owner e p) (cond t (take_owner left owner e (leave_limbo owner e p)) (give_free left e (take_owner left owner e (leave_limbo owner e p))))
    by true = edit_steady left Rmap (take_mapping (plain_run owner e)) (leave_limbo owner e p) refl
    by false =
        both_steady (leave_limbo owner e p) (take_owner left owner e (leave_limbo owner e p)) (give_free left e (take_owner left owner e (leave_limbo owner e p)))
        (edit_steady left Rmap (take_mapping (plain_run owner e)) (leave_limbo owner e p) refl) (space_steady give_span left e (take_owner left owner e (leave_limbo owner e p)))

    less : (b : ℕ) → times b (held_of (leave_limbo owner e p)) ≤ times b (held_of p)
    less b =
        let now = held_times b (leave_limbo owner e p) in
        let was = held_times b p in
        let fewer = filter_less (λ o. not (is_of_run owner e o)) p.limbo b in
        omega (arith, now, was, fewer)

    tidy_off : IsTidy len (leave_limbo owner e p)
    tidy_off = record {
      once = fewer_once (held_of p) (held_of (leave_limbo owner e p)) less tidy.once;
      inside = fewer_inside len (held_of p) (held_of (leave_limbo owner e p)) less tidy.inside;
      bad = tidy.bad;
      reserve = tidy.reserve;
      limbo = every_filter IsTreeOwner (λ o. not (is_of_run owner e o)) p.limbo tidy.limbo;
    }
