-- A run that fills the list has no block that waits in limbo, where its blocks are sound, and where mappings cover metadata.
use Rattle.std.proofs.Common.{◌≡◌, ℕ, ◌+◌, ◌<◌, ◌≤◌, ◌==◌, ◌&&◌, ◌||◌, Bool, true, false, not, List, [], ◌∷◌, ◌++◌, reverse, Option, Some, None, is_some, refl, ap, sym, ◌∙◌, inl, inr, arith}
use Rattle.std.specs.Prelude.{nat_le, nat_lt, if◌then◌else◌}
use Rattle.std.specs.List.{list_any}
use Rattle.std.proofs.lemmas.Bool.{cases_lt, false≢true, not-true, or_cases, or_left, or_right, true≢false}
use Rattle.std.proofs.lemmas.Bool.Decides.{nat_tests}
use Rattle.std.proofs.lemmas.List.Sums.{sum_by-cons}
use Rattle.law_accounts.specs.Account.Accounts.{in_span, owned_at, spans_at}
use Rattle.fs_change.specs.Changes.{is_in_extent}
use Rattle.fs_change.specs.Choice.{is_guarded}
use Rattle.fs_change.specs.Loose.{owners_in, pool_of}
use Rattle.fs_change.specs.Parts.{records_in, sick_in}
use Rattle.fs_change.specs.Records.{end_of, holder_of, last_at, only_where, span}
use Rattle.fs_change.specs.Step.{Step}
use Rattle.fs_state.specs.Claims.{Claimed, claims, fork_claims, metadata_claims}
use Rattle.fs_model.specs.declared.entry.Entry.TheVariants as entries
use Rattle.fs_model.specs.declared.entry.Extent.{Extent}
use Rattle.fs_state.specs.Apart.{Has, InOwned, LimboOf, is_covered, is_free}
use Rattle.fs_state.specs.Read.{group_of, state_of}
use Rattle.fs_state.specs.State.{Owned, State, blocks_in}
use Rattle.geom.specs.Layout.{device_block_of, group_len_of}
use Rattle.law_repairs.proofs.Move.Claiming.{metadata_is, owned_plain, owned_times}
use Rattle.law_repairs.proofs.Move.Edits.{well_edited}
use Rattle.law_repairs.proofs.Move.Pairs.{Among, block_in, blocks_are}
use Rattle.law_repairs.proofs.Order.Lists.{times_in}
use Rattle.law_repairs.proofs.Repair.Totals.{owned_by, weigh, weigh_both}
use Rattle.rmap_recs.specs.declared.records.RmapRec.{RmapRec}
use Rattle.law_writers.specs.Run.Found.{RefilledFound}
use Rattle.sblock.specs.Lists.{Each}
use Rattle.sblock.specs.declared.kind.Kind.{Kind}
use Rattle.sblock.specs.declared.kind.Kind.TheVariants.{Bno, Cnt, Rmap}
use Rattle.span_recs.specs.declared.span.SpanRec.{SpanRec}
use Rattle.tree_defs.specs.Lists.{times}
use Rattle.law_repairs.specs.Memory.Memory.{CoveredRefillIsNew, SoundRefillIsNew}
use Rattle.law_repairs.proofs.Memory.Memory.{pool_times}
use Rattle.law_repairs.proofs.Memory.Runs.{each_reversed, found_each}

-- ---- free space lists the run

module _ (b : ℕ) where
  abbrev is_beside : SpanRec → Bool
  is_beside r = not (in_span r.start r.count b)

  none_spans : (rs : List SpanRec) → spans_at rs b ≡ 0 → Each is_beside rs
  none_spans [] h = tt
  none_spans (r ∷ rs) h = (by (in_span r.start r.count b) (omega (arith, h)), none_spans rs (omega (arith, h)))
    where
      by : (t : Bool) → ◌≡◌ {A = ℕ} (if t then 1 else 0) 0 → not t ≡ true
      by true e = absurd (omega (arith, e))
      by false e = refl

  -- a record that begins at the run's first block or before, and ends at its last or behind, has the block
  record_has : (r run : SpanRec) → nat_le r.start run.start ≡ true → nat_le (end_of run) (end_of r) ≡ true → in_span run.start run.count b ≡ true → is_beside r ≡ true → ⊥
  record_has r run low high within beside = grind (arith, nat_tests)

  holder_has : (rs : List SpanRec) (run : SpanRec) → is_some (holder_of rs run) ≡ true → in_span run.start run.count b ≡ true → 1 ≤ spans_at rs b
  holder_has rs run h within = elim (cases_lt (spans_at rs b) 1) [
    | inl none ↦ absurd (by (last_at (λ r. r.start) run.start rs) refl h (each_reversed is_beside rs (none_spans rs (omega (arith, none)))))
    | inr some ↦ some
  ]
    where
      by_end : (r : SpanRec) (t : Bool) → nat_le (end_of run) (end_of r) ≡ t → is_some (if t then Some r else None) ≡ true → nat_le (end_of run) (end_of r) ≡ true
      by_end r true e i = e
      by_end r false e i = absurd (false≢true i)

      by : (o : Option SpanRec) → last_at (λ r. r.start) run.start rs ≡ o → is_some (only_where (λ r. nat_le (end_of run) (end_of r)) o) ≡ true → Each is_beside (reverse rs) → ⊥
      by None e i each = false≢true i
      by (Some r) e i each =
          let found = found_each is_beside (λ s. nat_le s.start run.start) (reverse rs) r each e in
          record_has r run found.1 (by_end r (nat_le (end_of run) (end_of r)) refl i) within found.0

-- ---- what waits in limbo is claimed

owned_weigh : (b : ℕ) (cs : List Claimed) → owned_at b cs ≡ weigh (owned_by b) cs
owned_weigh b [] = refl
owned_weigh b (c ∷ cs) = sum_by-cons (λ (x : Claimed). if x.block == b then 1 else 0) c cs ∙ ap (λ (n : ℕ). (if c.block == b then 1 else 0) + n) (owned_weigh b cs)

limbo_claimed : (a : State) (g b : ℕ) → times b (blocks_in (a.group g).limbo) ≤ owned_at b (claims a g)
unfolding claims
limbo_claimed a g b =
    let all = owned_weigh b (metadata_claims a g ++ fork_claims a g) in
    let both = weigh_both (owned_by b) (metadata_claims a g) (fork_claims a g) in
    let part = in_metadata (weigh (owned_by b) (metadata_claims a g)) _ _ _ _ (metadata_is (owned_by b) (owned_plain b) a g) (owned_times b (owners_in (a.group g)) ∙ ap (times b) (blocks_are (a.group g))) in
    omega (arith, all, both, part)
  where
    in_metadata : (m f o r c : ℕ) → m ≡ f + o + r + c → o ≡ times b (pool_of (a.group g)) → times b (blocks_in (a.group g).limbo) ≤ m
    in_metadata m f o r c sum pool = let parts = pool_times b (a.group g) in omega (arith, sum, pool, parts)

-- ---- so none waits

any_none : (test : Owned → Bool) (os : List Owned) → ((o : Owned) → Among o os → test o ≡ true → ⊥) → list_any test os ≡ false
any_none test [] h = refl
any_none test (o ∷ os) h = (elim (test o) as (λ t. test o ≡ t → (t || list_any test os) ≡ false) [
  | true ↦ λ e. absurd (h o (inl refl) e)
  | false ↦ λ e. any_none test os (λ p there. h p (inr there))
]) refl

-- an index that isn't sick is edited, so free space lists the whole run
listed : RefilledFound → (a b : State) (left : List Kind) (e : Extent) → Step a left (entries.Refilled e) b → (p : ℕ) → is_in_extent e p ≡ true → 1 ≤ spans_at (records_in (a.group e.group) Bno) p
listed found a b left e s p within =
    let sick : sick_in (a.group e.group) Bno ≡ false = first (sick_in (a.group e.group) Bno) (list_any (sick_in (a.group e.group)) (Cnt ∷ Rmap ∷ [])) (not-true (list_any (sick_in (a.group e.group)) (Bno ∷ Cnt ∷ Rmap ∷ [])) s.row.0.sound) in
    holder_has p (records_in (a.group e.group) Bno) (span e.block e.count) (found a s.decided left e (record { row = s.row; leaves = s.leaves; met = s.met }) (well_edited [] (a.group e.group) Bno sick refl)) within
  where
    first : (x y : Bool) → (x || y) ≡ false → x ≡ false
    first true y i = absurd (true≢false i)
    first false y i = refl

pub sound_refill_is_new : RefilledFound → SoundRefillIsNew
sound_refill_is_new found a b left e s sound = any_none (λ o. is_in_extent e o.block) (a.group e.group).limbo (λ o there within.
    let spans = listed found a b left e s o.block within in
    let nobody = ((sound o.block within).loose (omega (arith, spans))).0 in
    let claimed = limbo_claimed a e.group o.block in
    let waits = block_in o (a.group e.group).limbo there in
    omega (arith, nobody, claimed, waits))

-- ---- nor where metadata that free space lists has reverse mappings

free_by : (rs : List SpanRec) (b : ℕ) → 1 ≤ spans_at rs b → is_free rs b ≡ true
unfolding is_free
free_by [] b h = absurd (omega (arith, h))
free_by (r ∷ rs) b h = (elim (in_span r.start r.count b) as (λ t. 1 ≤ (if t then 1 else 0) + spans_at rs b → (t || is_free rs b) ≡ true) [ true ↦ λ i. refl | false ↦ λ i. free_by rs b (omega (arith, i)) ]) h

-- a mapping that covers a block of the run meets the run
meets : (start count b n p : ℕ) → (nat_le b p && nat_lt p (b + n)) ≡ true → (nat_le start p && nat_lt p (start + count)) ≡ true → (nat_lt 0 count && (nat_lt start (b + n) && nat_lt b (start + count))) ≡ true
meets start count b n p within covers = grind (arith, nat_tests)

guarded_by : (recs : List RmapRec) (b n p : ℕ) → (nat_le b p && nat_lt p (b + n)) ≡ true → is_covered recs p ≡ true → is_guarded recs b n ≡ true
unfolding is_covered is_guarded
guarded_by recs b n p within covered = weaker recs covered
  where
    weaker : (rs : List RmapRec) → list_any (λ r. nat_le r.start p && nat_lt p (r.start + r.count)) rs ≡ true → list_any (λ r. nat_lt 0 r.count && (nat_lt r.start (b + n) && nat_lt b (r.start + r.count))) rs ≡ true
    weaker [] h = absurd (false≢true h)
    weaker (r ∷ rs) h = elim (or_cases (nat_le r.start p && nat_lt p (r.start + r.count)) (list_any (λ r. nat_le r.start p && nat_lt p (r.start + r.count)) rs) h) [
      | inl here ↦ or_left (nat_lt 0 r.count && (nat_lt r.start (b + n) && nat_lt b (r.start + r.count))) (list_any (λ r. nat_lt 0 r.count && (nat_lt r.start (b + n) && nat_lt b (r.start + r.count))) rs) (meets r.start r.count b n p within here)
      | inr later ↦ or_right (nat_lt 0 r.count && (nat_lt r.start (b + n) && nat_lt b (r.start + r.count))) (list_any (λ r. nat_lt 0 r.count && (nat_lt r.start (b + n) && nat_lt b (r.start + r.count))) rs) (weaker rs later)
    ]

among_owned : (o : Owned) (os : List Owned) → Among o os → InOwned o.block os
among_owned o [] i = absurd i
among_owned o (p ∷ ps) (inl e) = inl (ap (λ (q : Owned). q.block) e)
among_owned o (p ∷ ps) (inr i) = inr (among_owned o ps i)

pub covered_refill_is_new : RefilledFound → CoveredRefillIsNew
unfolding group_of
covered_refill_is_new found at image kept b left e well covered s =
    let a : State = state_of at image kept in
    any_none (λ o. is_in_extent e o.block) (a.group e.group).limbo (λ o there within.
    let free = free_by (records_in (a.group e.group) Bno) o.block (listed found a b left e s o.block within) in
    let below : o.block < group_len_of at e.group = well.order.limbo_inside o.block (times_in o.block (blocks_in (a.group e.group).limbo) (block_in o (a.group e.group).limbo there)) in
    let has : Has a (LimboOf e.group) (device_block_of at e.group o.block) = record { inside = well.group; block = o.block; holds = among_owned o (a.group e.group).limbo there; place = refl } in
    let mapped = covered.listed e.group o.block well.group below free (LimboOf e.group) has in
    true≢false (sym (guarded_by (records_in (a.group e.group) Rmap) e.block e.count o.block within mapped) ∙ s.row.0.unowned))
