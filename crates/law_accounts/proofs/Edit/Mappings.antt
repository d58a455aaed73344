-- In maximal runs one record at most holds a run, goes on to it, or goes on from it: so to leave out the first is to leave out
-- all.
use Rattle.std.proofs.Common.{◌≡◌, ◌<◌, ◌+◌, ◌-◌, ℕ, Bool, true, false, cond, not, ◌||◌, List, [], ◌∷◌, Contains, refl, sym, ap, ◌∙◌, subst, arith}
use Rattle.std.specs.List.{filter, find}
use Rattle.std.proofs.lemmas.Bool.{false≢true}
use Rattle.fs_change.specs.Records.{give_mapping, take_mapping, without_first}
use Rattle.rmap_recs.specs.Rmap.{can_join, has_end, key_of}
use Rattle.rmap_recs.specs.RmapLaws.{lawful_rmap}
use Rattle.rmap_recs.specs.Runs.{AreRuns, IsRun, goes_on, tuple_at}
use Rattle.rmap_recs.specs.declared.records.RmapRec.{RmapRec}
use Rattle.rmap_recs.specs.declared.tuples.Tuple.{Tuple}
use Rattle.rmap_recs.proofs.ChainLemmas.{only_behind}
use Rattle.rmap_recs.proofs.EndLemmas.{some_blocks}
use Rattle.rmap_recs.proofs.RisingLemmas.{before_rest, false_by, filter_rises, filtered, in_front, in_rest}
use Rattle.run_edits.specs.EditLaws.{AreGiven, AreTaken, AreUntied}
use Rattle.run_edits.specs.Edits.{give_run, grown, holds, is_before, is_beside, put_rec, rest_put, take_run}
use Rattle.run_edits.proofs.ChainLemmas.{AreInRow, in_row, join_is, only_ahead, share}
use Rattle.run_edits.proofs.GiveLemmas.{give_exact}
use Rattle.run_edits.proofs.TakeLemmas.{held, take_exact}
use Rattle.sblock.specs.Lists.{Rises}
use Rattle.law_accounts.specs.Edit.Mappings.{MappingGiven, MappingTaken}

along : (a b c : RmapRec) → is_before a b ≡ true → is_before b c ≡ true → is_before a c ≡ true
along a b c = lawful_rmap.along (key_of a) (key_of b) (key_of c)

never : (a : RmapRec) → is_before a a ≡ true → ⊥
never a h = false≢true (sym (lawful_rmap.strict (key_of a)) ∙ h)

-- two that pass are one
abbrev AtMostOne : (RmapRec → Bool) → List RmapRec → Type 0
AtMostOne test rs = (x y : RmapRec) → Contains rs x → Contains rs y → test x ≡ true → test y ≡ true → x ≡ y

all_stay : (test : RmapRec → Bool) (rs : List RmapRec) → ((x : RmapRec) → Contains rs x → test x ≡ false) → filter (λ p. not (test p)) rs ≡ rs
all_stay test [] h = refl
all_stay test (x ∷ rs) h = rw (h x (in_front x rs)) (ap (λ (ys : List RmapRec). x ∷ ys) (all_stay test rs (λ y c. h y (in_rest x rs y c))))

without_one : (test : RmapRec → Bool) (rs : List RmapRec) → Rises is_before rs → AtMostOne test rs → without_first test rs ≡ filter (λ p. not (test p)) rs
without_one test [] rises one = refl
without_one test (x ∷ rs) rises one = (elim (test x) as (λ b. test x ≡ b → cond b rs (x ∷ without_first test rs) ≡ cond (not b) (x ∷ filter (λ p. not (test p)) rs) (filter (λ p. not (test p)) rs)) [
  | true ↦ λ h. sym (all_stay test rs (λ y c. false_by (test y) (λ passes.
      never x (subst (λ (z : RmapRec). is_before x z ≡ true) (sym (one x y (in_front x rs) (in_rest x rs y c) h passes)) (before_rest is_before along x rs rises y c)))))
  | false ↦ λ h. ap (λ (ys : List RmapRec). x ∷ ys) (without_one test rs rises.1 (λ y z c d. one y z (in_rest x rs y c) (in_rest x rs z d)))
]) refl

filter_both : (p q : RmapRec → Bool) (rs : List RmapRec) → filter (λ x. not (p x)) (filter (λ x. not (q x)) rs) ≡ filter (λ x. not (p x || q x)) rs
filter_both p q [] = refl
filter_both p q (x ∷ rs) =
    let left : RmapRec → Bool = λ y. not (p y) in
    let inner : List RmapRec = filter (λ y. not (q y)) rs in
    let both : List RmapRec = filter (λ y. not (p y || q y)) rs in
    let again : filter left inner ≡ both = filter_both p q rs in
    elim (q x) as (λ k. filter left (cond (not k) (x ∷ inner) inner) ≡ cond (not (p x || k)) (x ∷ both) both) [
      | true ↦ elim (p x) as (λ m. filter left inner ≡ cond (not (m || true)) (x ∷ both) both) [
        | true ↦ again
        | false ↦ again
      ]
      | false ↦ elim (p x) as (λ m. cond (not m) (x ∷ filter left inner) (filter left inner) ≡ cond (not (m || false)) (x ∷ both) both) [
        | true ↦ again
        | false ↦ ap (λ (ys : List RmapRec). x ∷ ys) again
      ]
    ]

module _ (ts : List Tuple) (recs : List RmapRec) (r : RmapRec) (end : has_end r ≡ true) (runs : AreRuns ts recs) where
  some : 0 < r.count
  some = omega (arith, some_blocks r end)

  row : AreInRow r
  row = in_row r end

  one_behind : AtMostOne (can_join r) recs
  one_behind x y c d goes also =
      let a = runs.maximal x c in
      let b = runs.maximal y d in
      share ts x y a b 0 0 a.some b.some
      (only_behind (tuple_at r (r.count - 1)) (tuple_at x 0) (tuple_at y 0) (sym (join_is r x row some) ∙ goes) (sym (join_is r y row some) ∙ also))

  one_before : AtMostOne (λ p. can_join p r) recs
  one_before x y c d goes also =
      let a = runs.maximal x c in
      let b = runs.maximal y d in
      let m = a.some in
      let n = b.some in
      share ts x y a b (x.count - 1) (y.count - 1) (omega (arith, m)) (omega (arith, n))
      (only_ahead (tuple_at x (x.count - 1)) (tuple_at y (y.count - 1)) (tuple_at r 0) (sym (join_is x r a.consecutive m) ∙ goes) (sym (join_is y r b.consecutive n) ∙ also))

  one_holder : AtMostOne (λ p. holds p r) recs
  one_holder x y c d goes also =
      let a = runs.maximal x c in
      let b = runs.maximal y d in
      let h = held x r a.consecutive some goes in
      let k = held y r b.consecutive some also in
      let h0 = h.starts in
      let h1 = h.ends in
      let k0 = k.starts in
      let k1 = k.ends in
      share ts x y a b ((r.start - x.start) + 0) ((r.start - y.start) + 0) (omega (arith, h0, h1, some)) (omega (arith, k0, k1, some)) (sym (h.tuples 0) ∙ k.tuples 0)

  two_left : without_first (λ p. can_join p r) (without_first (can_join r) recs) ≡ filter (is_beside r) recs
  two_left =
      let stays : RmapRec → Bool = λ p. not (can_join r p) in
      ap (without_first (λ p. can_join p r)) (without_one (can_join r) recs runs.rising one_behind)
      ∙ without_one (λ p. can_join p r) (filter stays recs) (filter_rises is_before along stays recs runs.rising)
      (λ x y c d. one_before x y (filtered stays recs x c).0 (filtered stays recs y d).0)
      ∙ filter_both (λ p. can_join p r) (can_join r) recs

  -- so these are the runs of those laws
  pub give_alike : give_mapping r recs ≡ give_run r recs
  unfolding give_mapping give_run
  give_alike = ap (put_rec (grown r recs)) two_left

  pub take_alike : take_mapping r recs ≡ take_run r recs
  unfolding take_mapping take_run
  take_alike = ap (rest_put (find (λ p. holds p r) recs) r) (without_one (λ p. holds p r) recs runs.rising one_holder)

pub mapping_given : MappingGiven
mapping_given ts us recs r end untied gave runs = subst (AreRuns us) (sym (give_alike ts recs r end runs)) (give_exact ts us recs r end untied gave runs)

pub mapping_taken : MappingTaken
mapping_taken ts us recs r end untied taken runs = subst (AreRuns us) (sym (take_alike ts recs r end runs)) (take_exact ts us recs r end untied taken runs)
