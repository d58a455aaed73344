-- Reverse mappings that were judged stay so behind an entry of a repair.
use Rattle.std.proofs.Common.{◌≡◌, ℕ, ◌++◌, ◌==◌, ◌&&◌, Bool, true, false, cond, not, List, [], ◌∷◌, drop, refl, ap, sym, subst, ◌∙◌, inl, inr, eqb-true}
use Rattle.std.specs.Prelude.{if◌then◌else◌}
use Rattle.std.proofs.lemmas.Bool.{and_parts, cases_Bool, false≢true}
use Rattle.fs_change.proofs.Beside.{changes_one_group}
use Rattle.fs_change.proofs.Trees.{in_itself}
use Rattle.fs_change.specs.Changes.{give_free, joins_no_space, judge, judged, leave_limbo, marked, owner_of_run, plain_run, reap_in, reaped, released, take_owner}
use Rattle.fs_change.specs.Edited.{edited_in, group_of_entry}
use Rattle.fs_change.specs.Loose.{Inside, MovesBlocks, count_used, lost_in}
use Rattle.fs_change.specs.Met.{give_each, take_each}
use Rattle.fs_change.specs.Parts.{in_trees, set_blocks, set_trust, set_trusts}
use Rattle.fs_change.specs.Records.{give_span, take_mapping}
use Rattle.fs_change.specs.Step.{Row, Step}
use Rattle.fs_change.specs.Switch.{derived_in, exact_counters, hold, join_limbo, move_blocks, moved, switched}
use Rattle.fs_state.specs.Derive.{derive}
use Rattle.fs_state.specs.Faults.{kind_of_fault}
use Rattle.fs_state.specs.Records.{kinds_of}
use Rattle.fs_model.specs.declared.entry.Entry.{Entry}
use Rattle.fs_model.specs.declared.entry.Entry.TheVariants as entries
use Rattle.fs_model.specs.declared.entry.Extent.{Extent}
use Rattle.fs_model.specs.declared.unit.Trust.{Trust}
use Rattle.fs_model.specs.declared.unit.Trust.TheVariants.{Good, Sick, Unknown}
use Rattle.fs_model.specs.declared.unit.Unit.{Unit as ScrubUnit}
use Rattle.fs_model.specs.declared.unit.Unit.TheVariants as units
use Rattle.fs_model.specs.declared.verdict.Verdict.{Verdict}
use Rattle.fs_model.specs.declared.verdict.Verdict.TheVariants as verdicts
use Rattle.fs_state.specs.Kinds.{RecOf}
use Rattle.fs_state.specs.State.{Group, State}
use Rattle.law_repairs.specs.Letter.Known.{Letters, are_made, is_of_repair, letters_after, outlasts, own_letters, rests}
use Rattle.law_repairs.proofs.Move.Edits.{edit_trust, space_trust}
use Rattle.law_repairs.proofs.Reserve.Reserving.{reserved_group, reserved_in, trust_stays}
use Rattle.law_repairs.specs.Reserve.Reserving.{ends_known}
use Rattle.sblock.specs.declared.kind.Kind.{Kind}
use Rattle.sblock.specs.declared.kind.Kind.TheVariants.{Rmap}
use Rattle.law_cuts.specs.Unclaimed.Unclaimed.{JudgedStay, WereJudged}

abbrev IsJudged : Group → Type 0
IsJudged p = (p.tree Rmap).trust ≡ Unknown → ⊥

same_trust : (p q : Group) → (q.tree Rmap).trust ≡ (p.tree Rmap).trust → IsJudged p → IsJudged q
same_trust p q same known e = known (sym same ∙ e)

good_known : ◌≡◌ {A = Trust} Good Unknown → ⊥
good_known e = cc

sick_known : ◌≡◌ {A = Trust} Sick Unknown → ⊥
sick_known e = cc

-- ---- trust that is set

set_one : (t : Trust) → (t ≡ Unknown → ⊥) → (k : Kind) (p : Group) → IsJudged p → IsJudged (set_trust t k p)
set_one t new Rmap p known = new
set_one t new k p known = known

set_all : (t : Trust) → (t ≡ Unknown → ⊥) → (ks : List Kind) (p : Group) → IsJudged p → IsJudged (set_trusts t ks p)
set_all t new [] p known = known
set_all t new (k ∷ ks) p known = set_one t new k (set_trusts t ks p) (set_all t new ks p known)

judge_group : (v : Verdict) (unit : ScrubUnit) (p : Group) → IsJudged p → IsJudged (judge v unit p)
judge_group verdicts.Good unit p known = set_all Good good_known (kinds_of unit) p known
judge_group v unit p known = known

-- ---- trees that are put elsewhere, and new ones

placed_one : (blocks : List ℕ) (k : Kind) (p : Group) → ((set_blocks k blocks p).tree Rmap).trust ≡ (p.tree Rmap).trust
placed_one blocks Rmap p = refl
placed_one blocks k p = refl

placed : (blocks : Kind → List ℕ) (ks : List Kind) (p : Group) → ((in_trees blocks ks p).tree Rmap).trust ≡ (p.tree Rmap).trust
placed blocks [] p = refl
placed blocks (k ∷ ks) p = placed_one (blocks k) k (in_trees blocks ks p) ∙ placed blocks ks p

new_one : (recs : (k : Kind) → List (RecOf k)) (k : Kind) (p : Group) → IsJudged p → IsJudged (hold recs (k ∷ []) p)
new_one recs Rmap p known = good_known
new_one recs k p known = known

new_trees : (recs : (k : Kind) → List (RecOf k)) (ks : List Kind) (p : Group) → IsJudged p → IsJudged (hold recs ks p)
new_trees recs [] p known = known
new_trees recs (k ∷ ks) p known = new_one recs k (hold recs ks p) (new_trees recs ks p known)

switched_group : (a : State) (g : ℕ) (unit : ScrubUnit) (blocks : Kind → List ℕ) → IsJudged (a.group g) → IsJudged ((switched a g unit blocks).group g)
unfolding switched moved
switched_group a g unit blocks known =
    let m : State = moved a g unit blocks in
    let d : State = derived_in m g unit in
    let put : IsJudged (m.group g) = subst IsJudged (sym (in_itself g (move_blocks a g unit blocks) a)) (same_trust (a.group g) (move_blocks a g unit blocks (a.group g)) (placed blocks (kinds_of unit) (a.group g)) known) in
    let held : IsJudged (d.group g) = subst IsJudged (sym (in_itself g (hold (derive m g) (kinds_of unit)) m)) (new_trees (derive m g) (kinds_of unit) (m.group g) put) in
    subst IsJudged (sym (in_itself g (λ p. record p { counters = exact_counters d g unit }) d)) held

-- ---- records that change

reaped_group : (left : List Kind) (owner : ℕ) (e : Extent) (p : Group) → ((reap_in left owner e p).tree Rmap).trust ≡ (p.tree Rmap).trust
reaped_group left owner e p = by (joins_no_space owner e p)
  where
    lost : ((take_owner left owner e (leave_limbo owner e p)).tree Rmap).trust ≡ (p.tree Rmap).trust
    lost = edit_trust left Rmap Rmap (take_mapping (plain_run owner e)) (leave_limbo owner e p)

    by : (t : Bool) → ((cond t (take_owner left owner e (leave_limbo owner e p)) (give_free left e (take_owner left owner e (leave_limbo owner e p)))).tree Rmap).trust ≡ (p.tree Rmap).trust
    by true = lost
    by false = space_trust give_span left e (take_owner left owner e (leave_limbo owner e p)) Rmap ∙ lost

-- ---- what the row decides, and what is left open

row_group : (a x : State) (left : List Kind) (e : Entry) → is_of_repair e ≡ true → Row a left e x → IsJudged (a.group (group_of_entry a e)) → IsJudged (x.group (group_of_entry a e))
unfolding marked judged released reaped
row_group a x left (entries.Marked g k cause) repair row known = subst IsJudged (sym (ap (λ (y : State). y.group g) row.2 ∙ in_itself g (set_trust Sick k) a)) (set_one Sick sick_known k (a.group g) known)
row_group a x left (entries.Fault g unit fault) repair row known = subst IsJudged (sym (ap (λ (y : State). y.group g) row.2 ∙ in_itself g (set_trust Sick (kind_of_fault fault)) a)) (set_one Sick sick_known (kind_of_fault fault) (a.group g) known)
row_group a x left (entries.Verdict g unit verdict) repair row known = subst IsJudged (sym (ap (λ (y : State). y.group g) row.1 ∙ in_itself g (judge verdict unit) a)) (judge_group verdict unit (a.group g) known)
row_group a x left (entries.Reply writer line code done refused begun) repair row known = subst (λ (y : State). IsJudged (y.group 0)) (sym row) known
row_group a x left (entries.Released g unit) repair row known = subst IsJudged (sym (ap (λ (y : State). y.group g) row.1 ∙ in_itself g (λ (p : Group). record p { reserve = []; limbo = join_limbo p.reserve p.limbo }) a)) known
row_group a x left (entries.Reserved g unit block spare) repair row known =
    subst IsJudged (sym (ap (λ (y : State). y.group g) row.1 ∙ reserved_in left g unit block spare a))
    (same_trust (a.group g) (reserved_group left g unit block spare (a.group g)) (trust_stays left g block (a.group g) unit spare Rmap) known)
row_group a x left (entries.Switched g unit root second) repair row known = subst (λ (y : State). IsJudged (y.group g)) (sym row.4) (switched_group a g unit row.0 known)
row_group a x left (entries.Reaped e) repair row known =
    let owner : ℕ = owner_of_run (a.group e.group) e in
    subst IsJudged (sym (ap (λ (y : State). y.group e.group) row.1 ∙ in_itself e.group (reap_in left owner e) a))
    (same_trust (a.group e.group) (reap_in left owner e (a.group e.group)) (reaped_group left owner e (a.group e.group)) known)
row_group a x left e repair row known = absurd (false≢true repair)

moved_trust : (kept : Bool) (left ks : List Kind) (p q : Group) → MovesBlocks kept left ks p q → (q.tree Rmap).trust ≡ (p.tree Rmap).trust
moved_trust kept left ks p q m =
    let r : Group = record (in_trees m.blocks ks p) { free_list = drop (count_used p.free_list q.free_list) p.free_list ++ m.freed; limbo = m.limbo } in
    ap (λ (s : Group). (s.tree Rmap).trust) m.is
    ∙ edit_trust left Rmap Rmap (λ recs. give_each (lost_in r p) (take_each (lost_in p r) recs)) r
    ∙ placed m.blocks ks p

inside_trust : (kept : Bool) (left ks : List Kind) (p q : Group) → Inside kept left ks p q → (q.tree Rmap).trust ≡ (p.tree Rmap).trust
inside_trust kept left [] p q inside = ap (λ (s : Group). (s.tree Rmap).trust) inside
inside_trust kept left (k ∷ ks) p q inside = moved_trust kept left (k ∷ ks) p q inside

behind : (a b : State) (left : List Kind) (e : Entry) → (s : Step a left e b) → IsJudged (s.decided.group (group_of_entry a e)) → IsJudged (b.group (group_of_entry a e))
behind a b left e s known =
    let g : ℕ = group_of_entry a e in
    same_trust (s.decided.group g) (b.group g) (inside_trust a.geometry.inobtcount left (edited_in a left e) (s.decided.group g) (b.group g) s.loosely.inside) known

pub judged_stay : JudgedStay
judged_stay a b left e g s repair known = elim (cases_Bool (g == group_of_entry a e)) [
  | inl same ↦
      let is = eqb-true g (group_of_entry a e) same in
      subst (λ (h : ℕ). IsJudged (b.group h)) (sym is) (behind a b left e s (row_group a s.decided left e repair s.row (subst (λ (h : ℕ). IsJudged (a.group h)) is known)))
  | inr other ↦ subst IsJudged (sym ((changes_one_group a b left e s).groups g other)) known
]

-- ---- a good verdict and a switch judge them

verdict_judges : (a b : State) (left : List Kind) (g : ℕ) → Step a left (entries.Verdict g units.Rmap verdicts.Good) b → IsJudged (b.group g)
unfolding judged
verdict_judges a b left g s =
    behind a b left (entries.Verdict g units.Rmap verdicts.Good) s
    (subst IsJudged (sym (ap (λ (y : State). y.group g) s.row.1 ∙ in_itself g (judge verdicts.Good units.Rmap) a)) good_known)

switch_judges : (a b : State) (left : List Kind) (g root second : ℕ) → Step a left (entries.Switched g units.Rmap root second) b → IsJudged (b.group g)
unfolding switched moved
switch_judges a b left g root second s =
    let m : State = moved a g units.Rmap s.row.0 in
    let d : State = derived_in m g units.Rmap in
    behind a b left (entries.Switched g units.Rmap root second) s
    (subst (λ (y : State). IsJudged (y.group g)) (sym s.row.4)
    (subst IsJudged (sym (in_itself g (λ p. record p { counters = exact_counters d g units.Rmap }) d))
    (subst IsJudged (sym (in_itself g (hold (derive m g) (kinds_of units.Rmap)) m)) good_known)))

module _ (a b : State) (left : List Kind) (letters : Letters) where
  own_judged : (e : Entry) → Step a left e b → (letters units.Rmap ≡ true → WereJudged a (group_of_entry a e)) → own_letters a left e letters units.Rmap ≡ true → WereJudged b (group_of_entry a e)
  own_judged (entries.Marked g k cause) s known is = judged_stay a b left (entries.Marked g k cause) g s refl (known is)
  own_judged (entries.Fault g own fault) s known is = judged_stay a b left (entries.Fault g own fault) g s refl (known is)
  own_judged (entries.Verdict g units.Rmap verdicts.Good) s known is = verdict_judges a b left g s
  own_judged (entries.Verdict g own verdicts.Good) s known is = judged_stay a b left (entries.Verdict g own verdicts.Good) g s refl (known is)
  own_judged (entries.Verdict g own verdict) s known is = judged_stay a b left (entries.Verdict g own verdict) g s refl (known is)
  own_judged (entries.Reply writer line code done refused begun) s known is = judged_stay a b left (entries.Reply writer line code done refused begun) 0 s refl (known is)
  own_judged (entries.Released g own) s known is = judged_stay a b left (entries.Released g own) g s refl (known is)
  own_judged (entries.Reserved g own block spare) s known is =
      judged_stay a b left (entries.Reserved g own block spare) g s refl (known (and_parts (letters units.Rmap) (not (ends_known own spare units.Rmap) && are_made left units.Rmap) is).0)
  own_judged (entries.Switched g units.Rmap root second) s known is = switch_judges a b left g root second s
  own_judged (entries.Switched g own root second) s known is =
      judged_stay a b left (entries.Switched g own root second) g s refl (known (and_parts (letters units.Rmap) (outlasts (a.group g) own units.Rmap) is).0)
  own_judged (entries.Reaped e) s known is = judged_stay a b left (entries.Reaped e) e.group s refl (known (and_parts (letters units.Rmap) (rests letters units.Rmap && are_made left units.Rmap) is).0)
  own_judged e s known is = absurd (false≢true is)

  -- so those that letters know behind an entry were judged
  pub letters_judged : (e : Entry) (h : ℕ) → Step a left e b → (letters units.Rmap ≡ true → WereJudged a h) → letters_after a left e h letters units.Rmap ≡ true → WereJudged b h
  letters_judged e h s known is = elim (cases_Bool (h == group_of_entry a e)) [
    | inl here ↦
        let same = eqb-true h (group_of_entry a e) here in
        subst (λ (n : ℕ). IsJudged (b.group n)) (sym same)
        (own_judged e s (λ are. subst (λ (n : ℕ). IsJudged (a.group n)) same (known are))
        (sym (ap (λ (t : Bool). if t then own_letters a left e letters units.Rmap else is_of_repair e && letters units.Rmap) here) ∙ is))
    | inr away ↦
        let parts = and_parts (is_of_repair e) (letters units.Rmap) (sym (ap (λ (t : Bool). if t then own_letters a left e letters units.Rmap else is_of_repair e && letters units.Rmap) away) ∙ is) in
        judged_stay a b left e h s parts.0 (known parts.1)
  ]
