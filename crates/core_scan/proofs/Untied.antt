-- No two settled owners of forks differ in the unwritten flag alone.
use Rattle.std.proofs.Common.{◌≡◌, ◌⊎◌, inl, inr, ℕ, ◌<◌, ◌==◌, ◌&&◌, ◌||◌, nat_lt, Bool, true, false, not, List, ◌∷◌, ◌++◌, filter, refl, sym, ap, ◌∙◌, arith, eqb-true, eq-eqb}
use Rattle.std.proofs.lemmas.Bool.{true≢false}
use Rattle.std.proofs.lemmas.Bool.Decides.{nat_tests}
use Rattle.fs_model.specs.declared.entry.Entry.TheVariants as entries
use Rattle.rmap_recs.specs.Rmap.{is_first, is_key_before}
use Rattle.rmap_recs.specs.Runs.{has, is_tuple_before}
use Rattle.rmap_recs.specs.declared.tuples.Tuple.{Tuple}
use Rattle.run_edits.specs.EditLaws.{AreUntied}
use Rattle.sblock.specs.declared.kind.Kind.{Kind}
use Rattle.fs_state.specs.Apart.{is_inode}
use Rattle.fs_state.specs.State.{State}
use Rattle.fs_state.specs.declared.intent.Intent.{Intent}
use Rattle.fs_change.proofs.Sets.{has_both, has_of, has_passing, has_set, of_has, order}
use Rattle.fs_change.specs.Chains.{given_by, most_chains, settled_forks, taken_by}
use Rattle.fs_change.specs.Laws.{fork_owners}
use Rattle.fs_change.specs.Step.{Step}
use Rattle.law_writers.proofs.Change.Members.{owners_by_inode}
use Rattle.law_writers.proofs.Change.Settled.{finished_step_moves}
use Rattle.law_writers.specs.Change.Chunks.{LeavesChunks}
use Rattle.law_writers.specs.Change.Owners.{has_claim_of}
use Rattle.law_writers.specs.Change.Settled.{IsNextOnce, given_next, taken_next}
use Rattle.core_scan.proofs.Gained.{untied_part}
use Rattle.core_scan.proofs.Seen.{given_owner, no_gift, no_taking, settled_of, taken_owner}
use Rattle.core_scan.proofs.Whole.{quiet_settled}
use Rattle.core_scan.specs.Equation.{IsUntied}
use Rattle.core_scan.specs.Seen.{IsCalm, IsIdle}
use Rattle.core_scan.specs.Untied.{OwedOnceByIdle, UntiedFollows, UntiedQuiet}

pub untied_quiet : UntiedQuiet
untied_quiet a g quiet untied = untied_part (fork_owners a g) (settled_forks a g) (λ t h. sym (quiet_settled a g t quiet) ∙ h) untied

-- different owners are ordered
first_before : (a b : ℕ) (p : Bool) → nat_lt a b ≡ true → is_first a b p ≡ true
first_before a b p h = grind (arith, nat_tests)

first_same : (a b : ℕ) (p : Bool) → a ≡ b → p ≡ true → is_first a b p ≡ true
first_same a b p h i = grind (arith, nat_tests)

by_owner : (tb ub to uo : ℕ) (p q : Bool) → (to ≡ uo → ⊥) → (is_first tb ub (is_first to uo p) ≡ true) ⊎ (is_first ub tb (is_first uo to q) ≡ true)
by_owner tb ub to uo p q other = elim (order tb ub) [
  | inl h ↦ inl (first_before tb ub (is_first to uo p) h)
  | inr h ↦ elim h [
    | inl i ↦ inr (first_before ub tb (is_first uo to q) i)
    | inr same ↦ elim (order to uo) [
      | inl j ↦ inl (first_same tb ub (is_first to uo p) same (first_before to uo p j))
      | inr j ↦ elim j [
        | inl k ↦ inr (first_same ub tb (is_first uo to q) (sym same) (first_before uo to q k))
        | inr e ↦ absurd (other e)
      ]
    ]
  ]
]

others_ordered : (t u : Tuple) → (t.owner ≡ u.owner → ⊥) → (is_tuple_before t u ≡ true) ⊎ (is_tuple_before u t ≡ true)
unfolding is_key_before
others_ordered t u other = by_owner t.block u.block t.owner u.owner _ _ other

not_its : (x y : ℕ) → (x == y) ≡ false → x ≡ y → ⊥
not_its x y h e = true≢false (sym (eq-eqb x y e) ∙ h)

module _ (a b : State) (left : List Kind) (chain at count g : ℕ) (i : Intent) (rest : List Intent) (calm : IsCalm a) (after : IsCalm b) (below : chain < most_chains) (next : a.chains chain ≡ i ∷ rest) (step : Step a left (entries.RmapDone chain i.ino i.group at count) b)
    (leaves : LeavesChunks a (entries.RmapDone chain i.ino i.group at count)) (once : IsNextOnce a b g (a.chains chain)) (is : is_inode b i.ino ≡ true) (idle : IsIdle b i.ino) (forks : AreUntied (fork_owners b g)) (untied : IsUntied a g) where
  moves : (t : Tuple) → has (settled_forks b g) t ≡ ((has (settled_forks a g) t && not (has (taken_by g i) t)) || has (given_by g i) t)
  moves t =
      ap (λ ts. has ts t) (finished_step_moves a b left chain i.ino i.group at count g calm.fitting below step leaves once)
      ∙ has_set (filter (λ u. not (has (taken_next g (a.chains chain)) u)) (settled_forks a g) ++ given_next g (a.chains chain)) t
      ∙ has_both (filter (λ u. not (has (taken_next g (a.chains chain)) u)) (settled_forks a g)) (given_next g (a.chains chain)) t
      ∙ ap (λ x. x || has (given_next g (a.chains chain)) t) (has_passing (λ u. not (has (taken_next g (a.chains chain)) u)) (settled_forks a g) t)
      ∙ ap (λ is. (has (settled_forks a g) t && not (has (taken_next g is) t)) || has (given_next g is) t) next

  -- of another inode it was settled before
  was_settled : (t : Tuple) → (t.owner == i.ino) ≡ false → has (settled_forks b g) t ≡ true → has (settled_forks a g) t ≡ true
  was_settled t other h = by (has (settled_forks a g) t) (has (taken_by g i) t) (has (given_by g i) t) (λ e. absurd (not_its t.owner i.ino other (given_owner g i t e).1)) (sym (moves t) ∙ h)
    where
      by : (s o n : Bool) → (n ≡ true → s ≡ true) → ((s && not o) || n) ≡ true → s ≡ true
      by true o n f e = refl
      by false o true f e = f refl
      by false o false f e = e

  -- of the step's inode it is one of its forks'
  is_fork : (t : Tuple) → t.owner ≡ i.ino → has (settled_forks b g) t ≡ true → has (fork_owners b g) t ≡ true
  is_fork t own h =
      owners_by_inode b g t after.fitting ∙ ap (λ n. is_inode b n && has_claim_of b g n t) own ∙ ap (λ x. x && has_claim_of b g i.ino t) is
      ∙ sym (settled_of b g i.ino t after idle is own) ∙ h

  ordered : (t u : Tuple) (x y : Bool) → (t.owner == i.ino) ≡ x → (u.owner == i.ino) ≡ y → has (settled_forks b g) t ≡ true → has (settled_forks b g) u ≡ true → (t ≡ u) ⊎ ((is_tuple_before t u ≡ true) ⊎ (is_tuple_before u t ≡ true))
  ordered t u true true e f h k = forks t u (of_has (fork_owners b g) t (is_fork t (eqb-true t.owner i.ino e) h)) (of_has (fork_owners b g) u (is_fork u (eqb-true u.owner i.ino f) k))
  ordered t u false false e f h k = untied t u (of_has (settled_forks a g) t (was_settled t e h)) (of_has (settled_forks a g) u (was_settled u f k))
  ordered t u true false e f h k = inr (others_ordered t u (λ s. not_its u.owner i.ino f (sym s ∙ eqb-true t.owner i.ino e)))
  ordered t u false true e f h k = inr (others_ordered t u (λ s. not_its t.owner i.ino e (s ∙ eqb-true u.owner i.ino f)))

pub untied_follows : UntiedFollows
untied_follows a b left chain at count g i rest calm after below next step leaves once is idle forks untied t u c d =
    ordered a b left chain at count g i rest calm after below next step leaves once is idle forks untied t u (t.owner == i.ino) (u.owner == i.ino) refl refl (has_of (settled_forks b g) t c) (has_of (settled_forks b g) u d)

pub owed_once : OwedOnceByIdle
owed_once a b g i idle there gone = record {
  there = there;
  given_once = λ t h. no_gift b g i.ino t idle (given_owner g i t h).1;
  gone = gone;
  taken_once = λ t h. no_taking b g i.ino t idle (taken_owner g i t h).1;
}
