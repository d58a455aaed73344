-- What a shadow hears of its own group goes into its set, and what it hears of others doesn't.
use Rattle.std.proofs.Common.{◌≡◌, ℕ, ◌<◌, ◌+◌, ◌⊎◌, Bool, true, false, List, [], ◌∷◌, ◌++◌, Contains, Result, Ok, Err, sym, ap, ◌∙◌, subst, inl, inr, arith}
use Rattle.std.specs.Prelude.{OnOk, OnErr}
use Rattle.std.proofs.lemmas.Bool.{false≢true, cases_order}
use Rattle.std.proofs.lemmas.Bool.Decides.{nat_tests}
use Rattle.std.proofs.lemmas.List.Elements.{Contains-append_left, Contains-append_right, Contains-append_cases}
use Rattle.std.proofs.lemmas.List.Sorted.{Contains-permutation, IsPermutation-sym}
use Rattle.rmap_recs.specs.Rmap.{is_first, is_key_before}
use Rattle.rmap_recs.specs.RmapLaws.{lawful_rmap}
use Rattle.rmap_recs.specs.Runs.{AreRuns, is_tuple_before, tuple_key, tuple_at}
use Rattle.rmap_recs.specs.declared.records.RmapRec.{RmapRec}
use Rattle.rmap_recs.specs.declared.tuples.Tuple.{Tuple}
use Rattle.rmap_recs.proofs.RisingLemmas.{nothing_in, in_front, in_either, mapped, kept_by_map}
use Rattle.run_edits.specs.EditLaws.{IsOf, AreUntied}
use Rattle.run_edits.specs.Pieces.{tuples_of}
use Rattle.run_edits.proofs.TupleLemmas.{have_tuples}
use Rattle.live_hooks.specs.Heard.{Inode, Owned, owned_at, owned_by, tuples_in, AreOrdered, AreAdded}
use Rattle.live_hooks.specs.Meaning.{Stays, MovesOwned}
use Rattle.live_hooks.specs.declared.records.GroupRec.{GroupRec}
use Rattle.shadow_rmap.specs.Kept.{KeepsTuples, ShadowState}
use Rattle.shadow_rmap.specs.Told.{KeepsOwn}
use Rattle.shadow_rmap.specs.ToldLaws.{from_tuples, in_tuples, own_alike, untied_alike}
use Rattle.shadow_rmap.specs.Union.{AreUnion, AreLeft}

-- a record's blocks are those of its tuples
pub in_record : (v : Inode) (r : GroupRec) (t : Tuple) → IsOf r.rec t → Contains (owned_by v r) (owned_at v r.group t)
unfolding owned_by
in_record v r t of = kept_by_map (owned_at v r.group) (tuples_of (r.rec ∷ [])) t ((have_tuples (r.rec ∷ [])).has r.rec (in_front r.rec []) t of)

pub of_record : (v : Inode) (r : GroupRec) (o : Owned) → Contains (owned_by v r) o → (o.group ≡ r.group) × IsOf r.rec o.tuple
unfolding owned_by
of_record v r o c =
    let at = mapped (owned_at v r.group) (tuples_of (r.rec ∷ [])) o c in
    let of = (have_tuples (r.rec ∷ [])).only at.0 at.1 in
    let same : r.rec ≡ of.0 = elim (in_either r.rec [] of.0 of.1) [ inl is ↦ is | inr none ↦ absurd (nothing_in of.0 none) ] in (
      sym (ap (λ (x : Owned). x.group) at.2),
      subst (λ (x : Owned). IsOf r.rec x.tuple) at.2 (subst (λ (x : RmapRec). IsOf x at.0) (sym same) of.2),
    )

never_ordered : (t : Tuple) → AreOrdered t t → ⊥
never_ordered t (inl h) = false≢true (sym (lawful_rmap.strict (tuple_key t)) ∙ h)
never_ordered t (inr h) = false≢true (sym (lawful_rmap.strict (tuple_key t)) ∙ h)

first_by : (a b : ℕ) (rest : Bool) → a < b → is_first a b rest ≡ true
first_by a b rest h = grind (arith, nat_tests)

by_block : (t u : Tuple) → t.block < u.block → is_tuple_before t u ≡ true
unfolding is_key_before
by_block t u h = first_by t.block u.block _ h

-- no two tuples of a record tie
of_one : (r : RmapRec) (t u : Tuple) → IsOf r t → IsOf r u → (t ≡ u) ⊎ AreOrdered t u
of_one r t u (i, below, is) (j, less, at) = elim (cases_order i j) [
  | inl same ↦ inl (sym is ∙ ap (tuple_at r) same ∙ at)
  | inr rest ↦ elim rest [
    | inl first ↦
        let s : r.start + i ≡ t.block = ap (λ (x : Tuple). x.block) is in
        let e : r.start + j ≡ u.block = ap (λ (x : Tuple). x.block) at in
        inr (inl (by_block t u (omega (arith, first, s, e))))
    | inr later ↦
        let s : r.start + i ≡ t.block = ap (λ (x : Tuple). x.block) is in
        let e : r.start + j ≡ u.block = ap (λ (x : Tuple). x.block) at in
        inr (inr (by_block u t (omega (arith, later, s, e))))
  ]
]

module _ (v : Inode) (r : GroupRec) (os ps : List Owned) (added : AreAdded (owned_by v r) os ps) where
  abbrev new : List Owned
  new = owned_by v r

  from_old : (o : Owned) → Contains os o → Contains ps o
  from_old o c = Contains-permutation (new ++ os) ps o added.all (Contains-append_right new os o c)

  from_new : (o : Owned) → Contains new o → Contains ps o
  from_new o c = Contains-permutation (new ++ os) ps o added.all (Contains-append_left new os o c)

  from_both : (o : Owned) → Contains ps o → Contains new o ⊎ Contains os o
  from_both o c = Contains-append_cases new os o (Contains-permutation ps (new ++ os) o (IsPermutation-sym (new ++ os) ps added.all) c)

  -- ---- of the shadow's own group

  module _ (g : ℕ) (own : r.group ≡ g) where
    never_both : (t : Tuple) → IsOf r.rec t → Contains (tuples_in g os) t → ⊥
    never_both t of c =
        let at = from_tuples g os t c in
        never_ordered t (subst (AreOrdered t) at.3 (added.apart (owned_at v r.group t) at.0 (in_record v r t of) at.1 (own ∙ sym at.2)))

    is_kept : (t : Tuple) → Contains (tuples_in g os) t → Contains (tuples_in g ps) t
    is_kept t c = let at = from_tuples g os t c in subst (Contains (tuples_in g ps)) at.3 (in_tuples g ps at.0 (from_old at.0 at.1) at.2)

    is_given : (t : Tuple) → IsOf r.rec t → Contains (tuples_in g ps) t
    is_given t of = in_tuples g ps (owned_at v r.group t) (from_new (owned_at v r.group t) (in_record v r t of)) own

    is_only : (t : Tuple) → Contains (tuples_in g ps) t → Contains (tuples_in g os) t ⊎ IsOf r.rec t
    is_only t c =
        let at = from_tuples g ps t c in
        elim (from_both at.0 at.1) [
          | inl fresh ↦ inr (subst (IsOf r.rec) at.3 (of_record v r at.0 fresh).1)
          | inr old ↦ inl (subst (Contains (tuples_in g os)) at.3 (in_tuples g os at.0 old at.2))
        ]

    pub are_given : AreUnion (tuples_in g os) (tuples_in g ps) r.rec
    are_given = record { kept = is_kept; given = is_given; only = is_only }

    pub are_taken : AreLeft (tuples_in g ps) (tuples_in g os) r.rec
    are_taken = record {
      kept = λ t c other. elim (is_only t c) [ inl old ↦ old | inr of ↦ absurd (other of) ];
      only = λ t c. (is_kept t c, λ of. never_both t of c);
    }

    beside : (t u : Tuple) → IsOf r.rec t → Contains (tuples_in g os) u → AreOrdered t u
    beside t u of c = let at = from_tuples g os u c in subst (AreOrdered t) at.3 (added.apart (owned_at v r.group t) at.0 (in_record v r t of) at.1 (own ∙ sym at.2))

    turned : (t u : Tuple) → AreOrdered t u → AreOrdered u t
    turned t u (inl h) = inr h
    turned t u (inr h) = inl h

    pub still_untied : AreUntied (tuples_in g os) → AreUntied (tuples_in g ps)
    still_untied untied t u c d = elim (is_only t c) [
      | inl old ↦ elim (is_only u d) [
        | inl also ↦ untied t u old also
        | inr of ↦ inr (turned u t (beside u t of old))
      ]
      | inr of ↦ elim (is_only u d) [
        | inl also ↦ inr (beside t u of also)
        | inr too ↦ of_one r.rec t u of too
      ]
    ]

    pub untied_before : AreUntied (tuples_in g ps) → AreUntied (tuples_in g os)
    untied_before untied = untied_alike (tuples_in g ps) (tuples_in g os) is_kept untied

  -- ---- of another group

  module _ (g : ℕ) (other : r.group ≡ g → ⊥) where
    on : (t : Tuple) → Contains (tuples_in g os) t → Contains (tuples_in g ps) t
    on t c = let at = from_tuples g os t c in subst (Contains (tuples_in g ps)) at.3 (in_tuples g ps at.0 (from_old at.0 at.1) at.2)

    back : (t : Tuple) → Contains (tuples_in g ps) t → Contains (tuples_in g os) t
    back t c =
        let at = from_tuples g ps t c in
        elim (from_both at.0 at.1) [
          | inl fresh ↦ absurd (other (sym (of_record v r at.0 fresh).0 ∙ at.2))
          | inr old ↦ subst (Contains (tuples_in g os)) at.3 (in_tuples g os at.0 old at.2)
        ]

abbrev pub Gives : ShadowState → ShadowState → RmapRec → Type 0
Gives old new r = (ts us : List Tuple) → AreUntied us → AreUnion ts us r → KeepsTuples ts old → KeepsTuples us new

abbrev pub Takes : ShadowState → ShadowState → RmapRec → Type 0
Takes old new r = (ts us : List Tuple) → AreUntied us → AreLeft ts us r → KeepsTuples ts old → KeepsTuples us new

moved_in : (g : ℕ) (s : ShadowState) → s.group ≡ g → (os : List Owned) → AreUntied (tuples_in g os) → KeepsTuples (tuples_in g os) s → KeepsOwn s os
moved_in g s is os untied keeps = record {
  untied = subst (λ (h : ℕ). AreUntied (tuples_in h os)) (sym is) untied;
  keeps = subst (λ (h : ℕ). AreRuns (tuples_in h os) s.runs) (sym is) keeps;
}

module _ {T E : Type 0} (old new : ShadowState) (same : new.group ≡ old.group) (v : Inode) (r : GroupRec) (own : r.group ≡ old.group) where
  pub told_given : (result : Result T E) → OnOk result (Gives old new r.rec) → OnOk result (MovesOwned (λ vs os. KeepsOwn old os) (λ vs os. KeepsOwn new os) true (owned_by v r))
  told_given (Ok x) gives = λ vs os ps added kept.
      let untied = still_untied v r os ps added old.group own kept.untied in
      moved_in old.group new same ps untied (gives (tuples_in old.group os) (tuples_in old.group ps) untied (are_given v r os ps added old.group own) kept.keeps)
  told_given (Err e) gives = tt

  pub told_taken : (result : Result T E) → OnOk result (Takes old new r.rec) → OnOk result (MovesOwned (λ vs os. KeepsOwn old os) (λ vs os. KeepsOwn new os) false (owned_by v r))
  told_taken (Ok x) takes = λ vs os ps added kept.
      let untied = untied_before v r ps os added old.group own kept.untied in
      moved_in old.group new same ps untied (takes (tuples_in old.group os) (tuples_in old.group ps) untied (are_taken v r ps os added old.group own) kept.keeps)
  told_taken (Err e) takes = tt

-- nothing changes by what is another group's
pub told_other : (s : ShadowState) (v : Inode) (r : GroupRec) → (r.group ≡ s.group → ⊥) → (add : Bool) → MovesOwned (λ vs os. KeepsOwn s os) (λ vs os. KeepsOwn s os) add (owned_by v r)
told_other s v r other true = λ vs os ps added kept. own_alike s os ps (on v r os ps added s.group other) (back v r os ps added s.group other) kept
told_other s v r other false = λ vs os ps added kept. own_alike s os ps (back v r ps os added s.group other) (on v r ps os added s.group other) kept

-- the same runs stand for the same
pub told_same : (old new : ShadowState) → new.group ≡ old.group → new.runs ≡ old.runs → Stays (λ vs os. KeepsOwn old os) (λ vs os. KeepsOwn new os)
told_same old new same runs = λ vs os kept. record {
  untied = subst (λ (g : ℕ). AreUntied (tuples_in g os)) (sym same) kept.untied;
  keeps = subst (λ (g : ℕ). AreRuns (tuples_in g os) new.runs) (sym same) (subst (AreRuns (tuples_in old.group os)) (sym runs) kept.keeps);
}

pub told_refused : {T E : Type 0} (old new : ShadowState) → new.group ≡ old.group → (result : Result T E) → OnErr result (new.runs ≡ old.runs) → OnErr result (Stays (λ vs os. KeepsOwn old os) (λ vs os. KeepsOwn new os))
told_refused old after same (Ok x) runs = tt
told_refused old after same (Err e) runs = told_same old after same runs

pub told_none : (s : ShadowState) → KeepsTuples [] s → KeepsOwn s []
told_none s keeps = record { untied = λ t u c d. absurd (nothing_in t c); keeps = keeps }
