-- Records of reference counts that are as few as can be stay so.
use Rattle.std.specs.Prelude.{ℕ, Bool, true, false, not, List, [], ◌∷◌, find, reverse, Option, Some, None, ◌≡◌, ◌==◌, ◌&&◌, ◌+◌, ◌<◌, ◌≤◌, nat_lt, refl}
use Rattle.std.specs.List.{list_any}
use Rattle.std.specs.Option.{option_or}
use Rattle.std.proofs.Common.{sym, ap, ap₂, subst, ◌∙◌, arith, cond, inl, inr}
use Rattle.std.proofs.lemmas.Bool.{cases_Bool, cases_order, eq-eqb, eqb-true, lt-ltb, ltb-true, true≢false}
use Rattle.std.proofs.lemmas.List.{reverse-append}
use Rattle.fs_change.specs.Records.{count_before, count_behind, counted, cut_counts, is_same_count, join_counts, only_where, put_by, refc_end, set_count, stretch}
use Rattle.span_recs.specs.declared.refcount.RefcRec.{RefcRec}
use Rattle.law_accounts.specs.Count.Counted.{AreCounts, AreShown, ShownStay}
use Rattle.law_accounts.proofs.Count.Counts.{Beside, IsBefore, IsBehind, begins_at, cut_is, ends_at, is_before, is_behind, joined, kept_counts, one_or_beside, out, put_has, stands_from}
use Rattle.law_accounts.proofs.Count.Lists.{Stands, find_both, found, kept, none_found, nothing, reversed, some_found}

-- ---- two by two

abbrev AreSeveral : List RefcRec → Type 0
AreSeveral rs = (r : RefcRec) → Stands r rs → 2 ≤ r.refcount

abbrev AreParted : List RefcRec → Type 0
AreParted rs = (r s : RefcRec) → Stands r rs → Stands s rs → refc_end r ≡ s.start → r.refcount ≡ s.refcount → ⊥

several : (rs : List RefcRec) → AreShown rs → AreSeveral rs
several [] w r c = absurd c
several (x ∷ []) w r c = elim c [
  | inl same ↦ subst (λ (y : RefcRec). 2 ≤ y.refcount) same w
  | inr none ↦ absurd none
]
several (x ∷ y ∷ ys) w r c = elim c [
  | inl same ↦ subst (λ (z : RefcRec). 2 ≤ z.refcount) same w.0
  | inr later ↦ several (y ∷ ys) w.2 r later
]

parted : (from : ℕ) (rs : List RefcRec) → AreCounts from rs → AreShown rs → AreParted rs
parted from [] h w r s c d at same = absurd c
parted from (x ∷ []) h w r s c d at same = elim c [
  | inl a ↦ elim d [
    | inl e ↦
        let one : refc_end x ≡ refc_end r = ap (λ (q : RefcRec). refc_end q) a in
        let two : x.start ≡ s.start = ap (λ (q : RefcRec). q.start) e in
        let some = h.1 in
        omega (arith, one, two, at, some)
    | inr none ↦ absurd none
  ]
  | inr none ↦ absurd none
]
parted from (x ∷ y ∷ ys) h w r s c d at same = elim c [
  | inl a ↦
      let one : refc_end x ≡ refc_end r = ap (λ (q : RefcRec). refc_end q) a in
      let some = h.1 in
      elim d [
        | inl e ↦ let two : x.start ≡ s.start = ap (λ (q : RefcRec). q.start) e in omega (arith, one, two, at, some)
        | inr (inl is_y) ↦
            let two : y.start ≡ s.start = ap (λ (q : RefcRec). q.start) is_y in
            let three : y.refcount ≡ s.refcount = ap (λ (q : RefcRec). q.refcount) is_y in
            let four : x.refcount ≡ r.refcount = ap (λ (q : RefcRec). q.refcount) a in
            w.1 (two ∙ sym at ∙ sym one) (three ∙ sym same ∙ sym four)
        | inr (inr later) ↦
            let low = (stands_from (y.start + y.count) ys s h.2.2 later).0 in
            let next = h.2.0 in
            let more = h.2.1 in
            omega (arith, one, at, low, next, more)
      ]
  | inr behind ↦ elim d [
    | inl e ↦
        let two : x.start ≡ s.start = ap (λ (q : RefcRec). q.start) e in
        let on = stands_from (x.start + x.count) (y ∷ ys) r h.2 behind in
        let low = on.0 in
        let some = on.1 in
        omega (arith, two, at, low, some)
    | inr both ↦ parted (x.start + x.count) (y ∷ ys) h.2 w.2 r s behind both at same
  ]
]

shown : (rs : List RefcRec) → AreSeveral rs → AreParted rs → AreShown rs
shown [] a p = tt
shown (x ∷ []) a p = a x (inl refl)
shown (x ∷ y ∷ ys) a p = (a x (inl refl), λ at same. p x y (inl refl) (inr (inl refl)) (sym at) (sym same), shown (y ∷ ys) (λ r c. a r (inr c)) (λ r s c d. p r s (inr c) (inr d)))

-- ---- beside the stretch

-- the last that begins before the end of a record is that record
last_before : (from b : ℕ) (rs : List RefcRec) (r : RefcRec) → AreCounts from rs → Stands r rs → refc_end r ≡ b → find (λ x. nat_lt x.start b) (reverse rs) ≡ Some r
last_before from b [] r h c e = absurd c
last_before from b (y ∷ ys) r h c e =
    ap (find (λ x. nat_lt x.start b)) (reverse-append (y ∷ []) ys) ∙ find_both (λ x. nat_lt x.start b) (reverse ys) (y ∷ [])
    ∙ (elim c [
      | inl same ↦
          let ends : refc_end y ≡ b = ap (λ (q : RefcRec). refc_end q) same ∙ e in
          let some = h.1 in
          ap (λ (o : Option RefcRec). option_or o (find (λ x. nat_lt x.start b) (y ∷ [])))
          (none_found (λ x. nat_lt x.start b) (reverse ys) (λ x i. let f = (stands_from (y.start + y.count) ys x h.2 (reversed ys x i)).0 in not_below x.start b (omega (arith, f, ends))))
          ∙ ap (λ (k : Bool). cond k (Some y) None) (lt-ltb y.start b (omega (arith, ends, some)))
          ∙ ap Some same
      | inr more ↦ ap (λ (o : Option RefcRec). option_or o (find (λ x. nat_lt x.start b) (y ∷ []))) (last_before (y.start + y.count) b ys r h.2 more e)
    ])
  where
    not_below : (m n : ℕ) → n ≤ m → nat_lt m n ≡ false
    not_below m n le = elim (cases_Bool (nat_lt m n)) [
      | inl is ↦ let lt = ltb-true m n is in absurd (omega (arith, lt, le))
      | inr isnt ↦ isnt
    ]

module _ (cut : List RefcRec) (b n v : ℕ) (h : AreCounts 0 cut) (pos : 0 < n) (free : (r : RefcRec) → Stands r cut → Beside (counted b n v) r) (apart : AreParted cut) where
  same_start : (r t : RefcRec) → Stands r cut → Stands t cut → r.start ≡ t.start → r ≡ t
  same_start r t c d e =
      let some = (stands_from 0 cut r h c).1 in
      let more = (stands_from 0 cut t h d).1 in
      elim (one_or_beside 0 cut r t h c d) [
        | inl same ↦ same
        | inr (inl before) ↦ absurd (omega (arith, before, e, some))
        | inr (inr behind) ↦ absurd (omega (arith, behind, e, more))
      ]

  none_before : count_before cut b v ≡ None → (r : RefcRec) → Stands r cut → refc_end r ≡ b → r.refcount ≡ v → ⊥
  none_before none r c e same =
      nothing r (sym none ∙ ap (only_where (λ x. (refc_end x == b) && (x.refcount == v))) (last_before 0 b cut r h c e) ∙ ap (λ (k : Bool). cond k (Some r) None) (ap₂ (λ (x y : Bool). x && y) (eq-eqb (refc_end r) b e) (eq-eqb r.refcount v same)))

  none_behind : count_behind cut (b + n) v ≡ None → (s : RefcRec) → Stands s cut → s.start ≡ b + n → s.refcount ≡ v → ⊥
  none_behind none s c e same =
      let f = some_found (λ x. x.start == b + n) cut s c (eq-eqb s.start (b + n) e) in
      let on = found (λ x. x.start == b + n) cut f.0 f.1 in
      let is : f.0 ≡ s = same_start f.0 s on.0 c (eqb-true f.0.start (b + n) on.1 ∙ sym e) in
      nothing f.0 (sym none ∙ ap (only_where (λ x. x.refcount == v)) f.1 ∙ ap (λ (k : Bool). cond k (Some f.0) None) (eq-eqb f.0.refcount v (ap (λ (q : RefcRec). q.refcount) is ∙ same)))

  before_j : (o p : Option RefcRec) → count_before cut b v ≡ o → IsBefore cut b n v h pos free o → (r : RefcRec) → Stands r cut → refc_end r ≡ (joined cut b n v h pos free o p).start → r.refcount ≡ v → ⊥
  before_j None p e i r c at same = none_before e r c at same
  before_j (Some u) p e i r c at same = apart r u c i.0 at (same ∙ sym i.2)

  behind_j : (o p : Option RefcRec) → count_behind cut (b + n) v ≡ p → IsBefore cut b n v h pos free o → IsBehind cut b n v h pos free p → (s : RefcRec) → Stands s cut → refc_end (joined cut b n v h pos free o p) ≡ s.start → v ≡ s.refcount → ⊥
  behind_j o None e i j s c at same =
      let ends = ends_at cut b n v h pos free o None i in
      none_behind e s c (omega (arith, ends, at)) (sym same)
  behind_j o (Some t) e i j s c at same =
      let ends = ends_at cut b n v h pos free o (Some t) i in
      let starts = j.1 in
      apart t s j.0 c (omega (arith, ends, at, starts)) (j.2 ∙ same)

  module _ (o p : Option RefcRec) (eo : count_before cut b v ≡ o) (ep : count_behind cut (b + n) v ≡ p) (i : IsBefore cut b n v h pos free o) (j : IsBehind cut b n v h pos free p) where
    abbrev one : RefcRec
    one = joined cut b n v h pos free o p

    abbrev rest : List RefcRec
    rest = kept_counts cut b n v h pos free o p

    in_cut : (r : RefcRec) → Stands r rest → Stands r cut
    in_cut r c = (kept (λ x. not (list_any (is_same_count x) (out cut b n v h pos free o p))) cut r c).0

    new_parted : AreParted (put_by (λ r. r.start) one rest)
    new_parted r s c d at same = elim (put_has one rest r c) [
      | inl is_one ↦
          let ends : refc_end one ≡ refc_end r = ap (λ (q : RefcRec). refc_end q) is_one in
          let count : v ≡ r.refcount = ap (λ (q : RefcRec). q.refcount) is_one in
          elim (put_has one rest s d) [
            | inl also ↦
                let starts : one.start ≡ s.start = ap (λ (q : RefcRec). q.start) also in
                let last = ends_at cut b n v h pos free o p i in
                let first = begins_at cut b n v h pos free o p i in
                omega (arith, ends, starts, at, last, first, pos)
            | inr other ↦ behind_j o p ep i j s (in_cut s other) (ends ∙ at) (count ∙ same)
          ]
      | inr old ↦ elim (put_has one rest s d) [
        | inl is_one ↦ before_j o p eo i r (in_cut r old) (at ∙ sym (ap (λ (q : RefcRec). q.start) is_one)) (same ∙ sym (ap (λ (q : RefcRec). q.refcount) is_one))
        | inr other ↦ apart r s (in_cut r old) (in_cut s other) at same
      ]
    ]

    new_several : 2 ≤ v → AreSeveral cut → AreSeveral (put_by (λ r. r.start) one rest)
    new_several two each r c = elim (put_has one rest r c) [
      | inl is_one ↦ subst (λ (m : ℕ). 2 ≤ m) (ap (λ (q : RefcRec). q.refcount) is_one) two
      | inr old ↦ each r (in_cut r old)
    ]

  joined_shown : 2 ≤ v → AreSeveral cut → AreShown (join_counts cut b n v)
  joined_shown two each =
      let o : Option RefcRec = count_before cut b v in
      let p : Option RefcRec = count_behind cut (b + n) v in
      let i = is_before cut b n v h pos free o refl in
      let j = is_behind cut b n v h pos free p refl in
      shown (join_counts cut b n v) (new_several o p refl refl i j two each) (new_parted o p refl refl i j)

-- ---- both

module _ (rs : List RefcRec) (b n m v : ℕ) (h : AreCounts 0 rs) (w : AreShown rs) (pos : 0 < n) (is : n ≡ stretch rs b m) where
  cut_several : AreSeveral (cut_counts rs b n)
  cut_several r c = let p = (cut_is rs b n m h pos is).part r c in subst (λ (k : ℕ). 2 ≤ k) (sym p.2.2) (several rs w p.0 p.1)

  cut_parted : AreParted (cut_counts rs b n)
  cut_parted r s c d at same = let t = (cut_is rs b n m h pos is).touch r s c d at in parted 0 rs h w t.0 t.1 t.2 t.3 t.4 (t.5 ∙ same ∙ sym t.6)

  new_shown : AreShown (set_count b n v rs)
  unfolding set_count
  new_shown = (elim (nat_lt v 2) as (λ t. nat_lt v 2 ≡ t → AreShown (cond t (cut_counts rs b n) (join_counts (cut_counts rs b n) b n v))) [
    | true ↦ λ e. shown (cut_counts rs b n) cut_several cut_parted
    | false ↦ λ e. joined_shown (cut_counts rs b n) b n v (cut_is rs b n m h pos is).counts pos (λ r c. (cut_is rs b n m h pos is).free r v c) cut_parted (at_least e) cut_several
  ]) refl
    where
      at_least : nat_lt v 2 ≡ false → 2 ≤ v
      at_least e = elim (cases_order v 2) [
        | inl same ↦ omega (arith, same)
        | inr (inl less) ↦ absurd (true≢false (sym (lt-ltb v 2 less) ∙ e))
        | inr (inr more) ↦ omega (arith, more)
      ]

pub shown_stay : ShownStay
shown_stay rs b n m v h w pos is = new_shown rs b n m v h w pos is
