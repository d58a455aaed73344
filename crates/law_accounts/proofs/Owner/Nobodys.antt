-- What reverse mappings don't cover no settled owner has.
use Rattle.std.proofs.Common.{◌≡◌, ℕ, ◌+◌, ◌-◌, ◌<◌, ◌≤◌, ◌==◌, ◌&&◌, ◌||◌, Bool, true, false, not, List, [], ◌∷◌, filter, Contains, refl, ap, sym, subst, ◌∙◌, inl, inr, arith, Option, Some, None, eqb-true}
use Rattle.std.specs.Prelude.{nat_le, nat_lt}
use Rattle.std.specs.List.{list_any}
use Rattle.std.proofs.lemmas.Bool.{and_parts, cases_Bool, true≢false}
use Rattle.std.proofs.lemmas.Bool.Decides.{nat_tests}
use Rattle.fs_change.proofs.Sets.{of_has}
use Rattle.fs_change.specs.Chains.{settled_own}
use Rattle.fs_change.specs.Changes.{block_extent, is_anothers, owner_of_run}
use Rattle.fs_change.specs.Choice.{has_claim, in_spans, is_guarded, is_spare, none_sick, space_kinds, spare_block}
use Rattle.fs_change.specs.Parts.{records_in, sick_in}
use Rattle.fs_state.specs.Claims.{metadata_claims}
use Rattle.fs_state.specs.Derive.{mappings}
use Rattle.fs_state.specs.Lists.{numbers}
use Rattle.fs_model.specs.declared.entry.Entry.TheVariants as entries
use Rattle.fs_model.specs.declared.entry.Extent.{Extent}
use Rattle.fs_model.specs.declared.unit.Unit.TheVariants as units
use Rattle.fs_state.specs.State.{State}
use Rattle.geom.specs.Layout.{group_len_of}
use Rattle.rmap_recs.proofs.RisingLemmas.{any_here, found_by_find, kept_by_filter}
use Rattle.rmap_recs.specs.Runs.{AreRuns, has, tuple_at}
use Rattle.rmap_recs.specs.declared.records.RmapRec.{RmapRec}
use Rattle.rmap_recs.specs.declared.tuples.Tuple.{Tuple}
use Rattle.sblock.specs.declared.kind.Kind.TheVariants.{Bno, Cnt, Rmap}
use Rattle.law_accounts.proofs.Account.Spans.{span_out}
use Rattle.law_accounts.specs.Account.Accounts.{in_span}
use Rattle.law_accounts.specs.Owner.Nobodys.{FreesNobodys, IsNobodys, ReapsNobodys, TakesNobodys}
use Rattle.law_accounts.specs.Owner.Told.{AreTold}

-- the record of an owner covers its block
module _ (ts : List Tuple) (recs : List RmapRec) (runs : AreRuns ts recs) (b n : ℕ) where
  abbrev guards : RmapRec → Bool
  guards r = nat_lt 0 r.count && (nat_lt r.start (b + n) && nat_lt b (r.start + r.count))

  guarded : (r : RmapRec) (c : ℕ) → r.start ≤ c → c < r.start + r.count → in_span b n c ≡ true → guards r ≡ true
  guarded r c low high h =
      let o = span_out b n c h in
      let first = o.0 in
      let last = o.1 in
      let x : nat_lt 0 r.count ≡ true = grind (arith, nat_tests) in
      let y : nat_lt r.start (b + n) ≡ true = grind (arith, nat_tests) in
      let z : nat_lt b (r.start + r.count) ≡ true = grind (arith, nat_tests) in
      rw (x, y, z) refl

  hit : (t : Tuple) → Contains ts t → in_span b n t.block ≡ true → (r : RmapRec) × Contains recs r × (r.owner ≡ t.owner) × (guards r ≡ true)
  hit t c h =
      let found = runs.all t c in
      let r : RmapRec = found.0 in
      let at : r.start + found.1 ≡ t.block = ap (λ (u : Tuple). u.block) found.4 in
      let below = found.3 in
      (r, found.2, ap (λ (u : Tuple). u.owner) found.4, guarded r t.block (omega (arith, at)) (omega (arith, at, below)) h)

  pub unguarded : is_guarded recs b n ≡ false → (t : Tuple) → has ts t ≡ true → in_span b n t.block ≡ false
  unfolding is_guarded
  unguarded none t c = elim (cases_Bool (in_span b n t.block)) [
    | inr out ↦ out
    | inl is ↦ let r = hit t (of_has ts t c) is in absurd (true≢false (sym (any_here guards recs r.0 r.1 r.3) ∙ none))
  ]

  pub others_unguarded : (owner : ℕ) → is_guarded (filter (λ r. not (r.owner == owner)) recs) b n ≡ false → (t : Tuple) → has ts t ≡ true → in_span b n t.block ≡ true → t.owner ≡ owner
  unfolding is_guarded
  others_unguarded owner none t c is =
      let r = hit t (of_has ts t c) is in
      elim (cases_Bool (r.0.owner == owner)) [
        | inl same ↦ sym r.2 ∙ eqb-true r.0.owner owner same
        | inr other ↦ absurd (true≢false (sym (any_here guards (filter (λ s. not (s.owner == owner)) recs) r.0 (kept_by_filter (λ s. not (s.owner == owner)) recs r.0 r.1 (ap not other)) r.3) ∙ none))
      ]

nobodys : (a : State) (e : Extent) → AreTold a e.group → is_guarded (mappings a e.group) e.block e.count ≡ false → IsNobodys a e
nobodys a e told none = unguarded (settled_own a e.group) (mappings a e.group) told e.block e.count none

either_false : (x y : Bool) → (x || y) ≡ false → (x ≡ false) × (y ≡ false)
either_false true y h = absurd (true≢false h)
either_false false y h = (refl, h)

third_of : (p q r s : Bool) → (p && q && r && s) ≡ true → r ≡ true
third_of true true true s h = refl
third_of true true false s h = absurd (true≢false (sym h))
third_of true false r s h = absurd (true≢false (sym h))
third_of false q r s h = absurd (true≢false (sym h))

not_true : (k : Bool) → not k ≡ true → k ≡ false
not_true true h = absurd (true≢false (sym h))
not_true false h = refl

spare_inode : (a : State) (g b : ℕ) → spare_block a g units.Inode ≡ Some b → is_guarded (mappings a g) b 1 ≡ false
unfolding spare_block is_spare
spare_inode a g b h =
    not_true (is_guarded (mappings a g) b 1)
    (third_of (none_sick space_kinds (a.group g)) (in_spans (records_in (a.group g) Bno) b) (not (is_guarded (records_in (a.group g) Rmap) b 1)) (not (has_claim (metadata_claims a g) b))
    (found_by_find (is_spare a g units.Inode) (numbers 0 (group_len_of a.geometry g)) b h).1)

spare_refc : (a : State) (g b : ℕ) → spare_block a g units.Refc ≡ Some b → is_guarded (mappings a g) b 1 ≡ false
unfolding spare_block is_spare
spare_refc a g b h =
    not_true (is_guarded (mappings a g) b 1)
    (third_of (none_sick space_kinds (a.group g)) (in_spans (records_in (a.group g) Bno) b) (not (is_guarded (records_in (a.group g) Rmap) b 1)) (not (has_claim (metadata_claims a g) b))
    (found_by_find (is_spare a g units.Refc) (numbers 0 (group_len_of a.geometry g)) b h).1)

pub takes_nobodys : TakesNobodys
takes_nobodys a x left (entries.Mapped m) row told = (nobodys a (record { group = m.group; block = m.block; count = m.count }) (told m.group) row.0.unowned, tt)
takes_nobodys a x left (entries.Taken writer ino uid (Some b)) row told = (nobodys a _ (told _) row.1.4, tt)
takes_nobodys a x left (entries.Refilled e) row told = (nobodys a e (told e.group) row.0.unowned, tt)
takes_nobodys a x left (entries.Reserved g units.Inode b true) row told = (nobodys a (block_extent g b) (told g) (spare_inode a g b row.0.2), tt)
takes_nobodys a x left (entries.Reserved g units.Refc b true) row told = (nobodys a (block_extent g b) (told g) (spare_refc a g b row.0.2), tt)
takes_nobodys a x left (entries.Taken writer ino uid None) row told = tt
takes_nobodys a x left (entries.Reserved g units.Inode b false) row told = tt
takes_nobodys a x left (entries.Reserved g units.Refc b false) row told = tt
takes_nobodys a x left (entries.Reserved g units.Free b spare) row told = tt
takes_nobodys a x left (entries.Reserved g units.Rmap b spare) row told = tt
takes_nobodys a x left (entries.Unmapped m) row told = tt
takes_nobodys a x left (entries.Converted m) row told = tt
takes_nobodys a x left (entries.Shared m) row told = tt
takes_nobodys a x left (entries.RmapDone c ino g b n) row told = tt
takes_nobodys a x left (entries.RefDone c g b n more) row told = tt
takes_nobodys a x left (entries.Freed c g b n kept) row told = tt
takes_nobodys a x left (entries.Given writer ino) row told = tt
takes_nobodys a x left (entries.Trimmed e) row told = tt
takes_nobodys a x left (entries.Marked g k cause) row told = tt
takes_nobodys a x left (entries.Released g unit) row told = tt
takes_nobodys a x left (entries.Fault g unit fault) row told = tt
takes_nobodys a x left (entries.Verdict g unit verdict) row told = tt
takes_nobodys a x left (entries.Switched g unit root second) row told = tt
takes_nobodys a x left (entries.Reaped e) row told = tt
takes_nobodys a x left (entries.Reply writer line code done refused begun) row told = tt

pub frees_nobodys : FreesNobodys
frees_nobodys a x left c g at n row told = nobodys a (record { group = g; block = at; count = n }) told (either_false (sick_in (a.group g) Rmap) (is_guarded (mappings a g) at n) (sym row.5)).1

pub reaps_nobodys : ReapsNobodys
reaps_nobodys a x left e row joins told =
    others_unguarded (settled_own a e.group) (mappings a e.group) told e.block e.count (owner_of_run (a.group e.group) e)
    (either_false (sick_in (a.group e.group) Bno || sick_in (a.group e.group) Cnt) (is_anothers (owner_of_run (a.group e.group) e) e (records_in (a.group e.group) Rmap)) joins).1
