-- A finished step of reference counts, block by block.
use Rattle.std.specs.Prelude.{ℕ, zero, suc, Bool, true, false, not, List, [], ◌∷◌, ◌++◌, ◌≡◌, ◌==◌, ◌&&◌, ◌||◌, ◌+◌, ◌-◌, ◌<◌, ◌≤◌, nat_lt, flat_map, sum_by, is_some, Option, Some, None, refl, if◌then◌else◌}
use Rattle.std.specs.Option.{option_map_or}
use Rattle.std.proofs.Common.{sym, ap, ap₂, subst, ◌∙◌, arith, cond, inl, inr}
use Rattle.std.proofs.lemmas.Bool.{cases_Bool, cases_order, eq-eqb, eqb-true, lt-ltb, ltb-true, true≢false}
use Rattle.std.proofs.lemmas.List.Sums.{sum_by-append, sum_by-cons}
use Rattle.fs_change.proofs.Trees.{in_itself}
use Rattle.fs_change.specs.Chains.{most_chains}
use Rattle.fs_change.specs.Changes.{behind, change_count, changes_count, intent, new_count, ref_done, to_free}
use Rattle.fs_change.specs.Parts.{at_only, change_tree, edit, records_in, sick_in, with_recs}
use Rattle.fs_change.specs.Records.{count_at, counter_of, set_count, stretch}
use Rattle.fs_change.specs.Step.{is_ref}
use Rattle.fs_state.specs.Lists.{numbers, only_if}
use Rattle.fs_model.specs.declared.entry.Extent.{Extent}
use Rattle.fs_state.specs.Group.{is_among}
use Rattle.fs_state.specs.State.{State, Group, Readable, Reading, Unreadable, is_readable, recs_of}
use Rattle.fs_state.specs.declared.intent.Intent.{Intent}
use Rattle.fs_state.specs.declared.intent.IntentKind.{IntentKind}
use Rattle.fs_state.specs.declared.intent.IntentKind.TheVariants.{RmapAdd, RmapRemove, RmapChange, RefMore, RefLess, Free}
use Rattle.sblock.specs.declared.kind.Kind.{Kind}
use Rattle.sblock.specs.declared.kind.Kind.TheVariants.{Bno, Rmap, Refc}
use Rattle.span_recs.specs.declared.refcount.RefcRec.{RefcRec}
use Rattle.law_accounts.specs.Account.Accounts.{adds, at_span, chains_sum, covers_at, due, frees, hits, in_span, ledger_in, ledger_of, lowers, owes, raises, removes, run_in, spans_at}
use Rattle.law_accounts.specs.Account.Chained.{IsChain, IsShape, kinds}
use Rattle.law_accounts.specs.Account.Ledger.{Ledger, Sound}
use Rattle.law_accounts.proofs.Account.Blocks.{carry, count_falls, count_rises, last_one}
use Rattle.law_accounts.proofs.Account.Follow.{chains_follow}
use Rattle.law_accounts.proofs.Account.Shapes.{none_behind}
use Rattle.law_accounts.proofs.Account.Spans.{span_not}
use Rattle.law_accounts.proofs.Account.Sums.{at_split, due_changes}
use Rattle.law_accounts.specs.Count.Counted.{shown_count}
use Rattle.law_accounts.specs.Ref.Steps.{AreCounting, RefDoneSound}
use Rattle.law_accounts.proofs.Count.Counts.{one_count, stretch_counted}

-- ---- sums over chains

sum_less : (f h : Intent → ℕ) (ds : ℕ → List Intent) (k n : ℕ) → ((j : ℕ) → k ≤ j → j < k + n → sum_by f (ds j) ≤ sum_by h (ds j)) → chains_sum f ds k n ≤ chains_sum h ds k n
sum_less f h ds k zero each = omega arith
sum_less f h ds k (suc n) each =
    let one = sum_by-append f (ds k) (flat_map ds (numbers (k + 1) n)) in
    let two = sum_by-append h (ds k) (flat_map ds (numbers (k + 1) n)) in
    let first = each k (omega arith) (omega arith) in
    let rest = sum_less f h ds (k + 1) n (λ j low high. each j (omega (arith, low)) (omega (arith, high))) in
    omega (arith, one, two, first, rest)

-- mappings that go have counts that fall, in all chains
goes_fall : (g b : ℕ) (ds : ℕ → List Intent) → ((k : ℕ) → k < most_chains → IsChain (ds k)) → due (owes removes g b) ds ≤ due (owes lowers g b) ds
unfolding due
goes_fall g b ds each = sum_less (owes removes g b) (owes lowers g b) ds 0 most_chains (λ j low high. chains_follow (ds j) g b (each j (omega (arith, high))))

-- ---- what a stretch leaves of an intent

span_none : (s b : ℕ) → at_span s 0 b ≡ 0
span_none s b = ap (λ (k : Bool). if k then 1 else 0) (span_not s 0 b (λ l u. omega (arith, l, u)))

module _ (test : IntentKind → Bool) (b n : ℕ) (i : Intent) where
  owed_by : owes test i.group b i ≡ (if test i.kind then at_span i.block i.count b else 0)
  owed_by = ap (λ (k : Bool). if test i.kind then (if k then at_span i.block i.count b else 0) else 0) (eq-eqb i.group i.group refl)

  rest_owed : n ≤ i.count → sum_by (owes test i.group b) (behind n i) ≡ (if test i.kind then at_span (i.block + n) (i.count - n) b else 0)
  rest_owed le = (elim (nat_lt n i.count) as (λ t. nat_lt n i.count ≡ t → sum_by (owes test i.group b) (only_if t (record i { block = i.block + n; count = i.count - n })) ≡ (if test i.kind then at_span (i.block + n) (i.count - n) b else 0)) [
    | true ↦ λ e.
        sum_by-cons (owes test i.group b) (record i { block = i.block + n; count = i.count - n }) []
        ∙ no_more _ ∙ ap (λ (k : Bool). if test i.kind then (if k then at_span (i.block + n) (i.count - n) b else 0) else 0) (eq-eqb i.group i.group refl)
    | false ↦ λ e.
        let all : i.count - n ≡ 0 = none_left n i.count le e in
        zero_by (test i.kind) (ap (λ (m : ℕ). at_span (i.block + n) m b) all ∙ span_none (i.block + n) b)
  ]) refl
    where
      no_more : (x : ℕ) → x + 0 ≡ x
      no_more x = omega arith

      none_left : (m k : ℕ) → m ≤ k → nat_lt m k ≡ false → k - m ≡ 0
      none_left m k le e = elim (cases_order m k) [
        | inl same ↦ omega (arith, same)
        | inr (inl less) ↦ absurd (true≢false (sym (lt-ltb m k less) ∙ e))
        | inr (inr more) ↦ absurd (omega (arith, more, le))
      ]

      zero_by : (t : Bool) → at_span (i.block + n) (i.count - n) b ≡ 0 → 0 ≡ (if t then at_span (i.block + n) (i.count - n) b else 0)
      zero_by true z = sym z
      zero_by false z = refl

  -- the intent is its first blocks and the rest
  split_owed : n ≤ i.count → owes test i.group b i ≡ (if test i.kind then at_span i.block n b else 0) + sum_by (owes test i.group b) (behind n i)
  split_owed le =
      owed_by ∙ by (test i.kind) ∙ ap (λ (m : ℕ). (if test i.kind then at_span i.block n b else 0) + m) (sym (rest_owed le))
    where
      by : (t : Bool) → (if t then at_span i.block i.count b else 0) ≡ (if t then at_span i.block n b else 0) + (if t then at_span (i.block + n) (i.count - n) b else 0)
      by true = at_split i.block n (i.count - n) i.count b (omega (arith, le))
      by false = refl

-- ---- one block

module _ (left : List Kind) (p : Group) (cs : ℕ → List Intent) (c n : ℕ) (more : Bool) (b owned alone : ℕ) (i : Intent) (rest : List Intent) (lt : c < most_chains) (next : cs c ≡ i ∷ rest) (kind : is_ref more i.kind ≡ true) (pos : 0 < n) (le : n ≤ i.count)
    (w : AreCounting left p) (each : (k : ℕ) → k < most_chains → IsChain (cs k)) (h : Sound (ledger_in p cs i.group b owned alone)) where
  abbrev g : ℕ
  g = i.group

  abbrev e : Extent
  e = record { group = i.group; block = i.block; count = n }

  abbrev recs : List RefcRec
  recs = records_in p Refc

  abbrev new_chain : List Intent
  new_chain = to_free more p e ++ behind n i ++ rest

  abbrev now : ℕ → List Intent
  now = at_only c new_chain cs

  abbrev q : Group
  q = change_count left more e p

  abbrev l : Ledger
  l = ledger_in p cs i.group b owned alone

  abbrev m : Ledger
  m = ledger_in q now i.group b owned alone

  abbrev hit : ℕ
  hit = at_span i.block n b

  -- what is due then
  due_then : (test : IntentKind → Bool) → due (owes test g b) now + (if test i.kind then at_span i.block n b else 0) ≡ due (owes test g b) cs + sum_by (owes test g b) (to_free more p e)
  due_then test =
      let changed = due_changes (owes test g b) c new_chain cs lt in
      let was : sum_by (owes test g b) (cs c) ≡ owes test g b i + sum_by (owes test g b) rest = ap (sum_by (owes test g b)) next ∙ sum_by-cons (owes test g b) i rest in
      let one = sum_by-append (owes test g b) (to_free more p e ++ behind n i) rest in
      let two = sum_by-append (owes test g b) (to_free more p e) (behind n i) in
      let split = split_owed test b n i le in
      sums (due (owes test g b) now) (due (owes test g b) cs) (sum_by (owes test g b) (cs c)) (sum_by (owes test g b) new_chain) (owes test g b i) (sum_by (owes test g b) rest) (sum_by (owes test g b) (to_free more p e ++ behind n i)) (sum_by (owes test g b) (to_free more p e)) (sum_by (owes test g b) (behind n i))
      (if test i.kind then at_span i.block n b else 0) changed was one two split
    where
      sums : (d c o k i r t f s x : ℕ) → d + o ≡ c + k → o ≡ i + r → k ≡ t + r → t ≡ f + s → i ≡ x + s → d + x ≡ c + f
      sums d c o k i r t f s x e1 e2 e3 e4 e5 = omega (arith, e1, e2, e3, e4, e5)

  -- where nothing is set free
  due_plain : (test : IntentKind → Bool) → to_free more p e ≡ [] → due (owes test g b) now + (if test i.kind then at_span i.block n b else 0) ≡ due (owes test g b) cs
  due_plain test none = due_then test ∙ ap (λ (is : List Intent). due (owes test g b) cs + sum_by (owes test g b) is) none ∙ no_more (due (owes test g b) cs)
    where
      no_more : (x : ℕ) → x + 0 ≡ x
      no_more x = omega arith

  -- a run that is to be free counts as such alone
  free_owed : (test : IntentKind → Bool) → sum_by (owes test g b) (intent Free 0 0 e ∷ []) ≡ (if test Free then at_span i.block n b else 0)
  free_owed test =
      sum_by-cons (owes test g b) (intent Free 0 0 e) [] ∙ no_more _
      ∙ ap (λ (k : Bool). if test Free then (if k then at_span i.block n b else 0) else 0) (eq-eqb i.group i.group refl)
    where
      no_more : (x : ℕ) → x + 0 ≡ x
      no_more x = omega arith

  none_of : (test : IntentKind → Bool) (k : IntentKind) → i.kind ≡ k → test k ≡ false → (if test i.kind then at_span i.block n b else 0) ≡ 0
  none_of test k s f = ap (λ (t : Bool). if t then at_span i.block n b else 0) (ap test s ∙ f)

  all_of : (test : IntentKind → Bool) (k : IntentKind) → i.kind ≡ k → test k ≡ true → (if test i.kind then at_span i.block n b else 0) ≡ at_span i.block n b
  all_of test k s f = ap (λ (t : Bool). if t then at_span i.block n b else 0) (ap test s ∙ f)

  -- ---- the count

  abbrev changed_recs : List RefcRec
  changed_recs = set_count i.block n (new_count more (records_in p Refc) i.block) (records_in p Refc)

  with_read : (r : Reading RefcRec) (new : List RefcRec) → is_readable r ≡ true → recs_of (with_recs new r) ≡ new
  with_read (Readable old blocks) new r = refl
  with_read (Unreadable block fault claims) new r = absurd (true≢false (sym r))

  abbrev change : Group
  change = edit left Refc (set_count i.block n (new_count more recs i.block)) p

  change_is : change ≡ change_tree Refc (λ j. record j { reading = with_recs (set_count i.block n (new_count more recs i.block) (recs_of j.reading)) j.reading }) p
  change_is = ap (λ t. cond t (change_tree Refc (λ j. record j { reading = with_recs (set_count i.block n (new_count more recs i.block) (recs_of j.reading)) j.reading }) p) p) w.edited

  spans_stay : (t : Bool) → records_in (cond t change p) Bno ≡ records_in p Bno
  spans_stay true = ap (λ (r : Group). records_in r Bno) change_is
  spans_stay false = refl

  maps_stay : (t : Bool) → records_in (cond t change p) Rmap ≡ records_in p Rmap
  maps_stay true = ap (λ (r : Group). records_in r Rmap) change_is
  maps_stay false = refl

  spans_same : l.spans ≡ m.spans
  spans_same = ap (λ rs. spans_at rs b) (sym (spans_stay (changes_count more recs i.block)))

  covers_same : l.covers ≡ m.covers
  covers_same = ap (λ rs. covers_at rs b) (sym (maps_stay (changes_count more recs i.block)))

  changed_is : records_in change Refc ≡ set_count i.block n (new_count more recs i.block) recs
  changed_is = ap (λ (r : Group). records_in r Refc) change_is ∙ with_read (p.tree Refc).reading (set_count i.block n (new_count more recs i.block) recs) w.readable

  module _ (is : n ≡ stretch recs i.block i.count) where
    counted : (t : Bool) → changes_count more recs i.block ≡ t → m.count ≡ (if t then (if in_span i.block n b then shown_count (new_count more recs i.block) else count_at recs b) else count_at recs b)
    counted true f =
        ap (λ (t : Bool). count_at (records_in (cond t change p) Refc) b) f ∙ ap (λ rs. count_at rs b) changed_is
        ∙ stretch_counted recs i.block n i.count (new_count more recs i.block) b w.apart pos is
    counted false f = ap (λ (t : Bool). count_at (records_in (cond t change p) Refc) b) f

    one_of : in_span i.block n b ≡ true → count_at recs b ≡ count_at recs i.block
    one_of t = one_count recs i.block n i.count b w.apart pos is t

    -- a block beside the stretch
    out_counted : in_span i.block n b ≡ false → m.count ≡ l.count
    out_counted out = by (changes_count more recs i.block) refl
      where
        by : (t : Bool) → changes_count more recs i.block ≡ t → m.count ≡ l.count
        by true f = counted true f ∙ ap (λ (k : Bool). if k then shown_count (new_count more recs i.block) else count_at recs b) out
        by false f = counted false f

    keep : (x y z : ℕ) → x + y ≡ z → y ≡ 0 → z ≡ x
    keep x y z s t = omega (arith, s, t)

    out_bit : in_span i.block n b ≡ false → at_span i.block n b ≡ 0
    out_bit out = ap (λ (k : Bool). if k then 1 else 0) out

    zero_if : (t : Bool) → at_span i.block n b ≡ 0 → (if t then at_span i.block n b else 0) ≡ 0
    zero_if true z = z
    zero_if false z = refl

    free_none : in_span i.block n b ≡ false → (test : IntentKind → Bool) → sum_by (owes test g b) (to_free more p e) ≡ 0
    free_none out test = by (not more && not (sick_in p Refc) && (count_at recs i.block == 1))
      where
        by : (t : Bool) → sum_by (owes test g b) (only_if t (intent Free 0 0 e)) ≡ 0
        by true = free_owed test ∙ zero_if (test Free) (out_bit out)
        by false = refl

    beside : in_span i.block n b ≡ false → Sound m
    beside out =
        let same : (test : IntentKind → Bool) → due (owes test g b) cs ≡ due (owes test g b) now = λ test.
        let d = due_then test in let z = zero_if (test i.kind) (out_bit out) in let f = free_none out test in
        both (due (owes test g b) now) (if test i.kind then at_span i.block n b else 0) (due (owes test g b) cs) (sum_by (owes test g b) (to_free more p e)) d z f in
        carry l m (sym (out_counted out)) (same raises) (same removes) (same lowers) (same frees) (same adds) spans_same covers_same refl refl h
      where
        both : (x y z f : ℕ) → x + y ≡ z + f → y ≡ 0 → f ≡ 0 → z ≡ x
        both x y z f s t u = omega (arith, s, t, u)

    in_bit : in_span i.block n b ≡ true → at_span i.block n b ≡ 1
    in_bit t = ap (λ (k : Bool). if k then 1 else 0) t

    -- what goes has counts that fall, beside the chain's own
    goes_less : i.kind ≡ RefLess → in_span i.block n b ≡ true → l.goes + 1 ≤ l.less
    goes_less k t =
        let shape : IsShape (i.kind ∷ kinds rest) = subst (λ (is : List Intent). IsShape (kinds is)) next (each c lt).shape in
        let alone_is : rest ≡ [] = none_behind false i.kind rest (ap (is_ref false) k) shape in
        let whole : cs c ≡ i ∷ [] = next ∙ ap (λ (is : List Intent). i ∷ is) alone_is in
        let ds : ℕ → List Intent = at_only c [] cs in
        let less = goes_fall g b ds (λ j j_lt. others j j_lt) in
        let goes = due_changes (owes removes g b) c [] cs lt in
        let falls = due_changes (owes lowers g b) c [] cs lt in
        let own_goes : sum_by (owes removes g b) (cs c) ≡ 0 = ap (sum_by (owes removes g b)) whole ∙ sum_by-cons (owes removes g b) i [] ∙ plus_none (owes removes g b i) (ap (λ (u : IntentKind). if removes u then hits g b (run_in i) else 0) k) in
        let own_falls : sum_by (owes lowers g b) (cs c) ≡ owes lowers g b i + 0 = ap (sum_by (owes lowers g b)) whole ∙ sum_by-cons (owes lowers g b) i [] in
        let split = split_owed lowers b n i le in
        let first : (if lowers i.kind then at_span i.block n b else 0) ≡ 1 = all_of lowers RefLess k refl ∙ in_bit t in
        sums (due (owes removes g b) ds) (due (owes lowers g b) ds) (due (owes removes g b) cs) (due (owes lowers g b) cs) (sum_by (owes removes g b) (cs c)) (sum_by (owes lowers g b) (cs c)) (owes lowers g b i) (if lowers i.kind then at_span i.block n b else 0) (sum_by (owes lowers g b) (behind n i)) less goes falls own_goes own_falls split first
      where
        plus_none : (x : ℕ) → x ≡ 0 → x + 0 ≡ 0
        plus_none x z = omega (arith, z)

        others : (j : ℕ) → j < most_chains → IsChain (at_only c [] cs j)
        others j j_lt = elim (cases_Bool (j == c)) [
          | inl here ↦ subst IsChain (sym (ap (λ (u : Bool). if u then [] else cs j) here)) (record { shape = tt; one_run = tt })
          | inr away ↦ subst IsChain (sym (ap (λ (u : Bool). if u then [] else cs j) away)) (each j j_lt)
        ]

        sums : (x y r s u v w f k : ℕ) → x ≤ y → x + u ≡ r + 0 → y + v ≡ s + 0 → u ≡ 0 → v ≡ w + 0 → w ≡ f + k → f ≡ 1 → r + 1 ≤ s
        sums x y r s u v w f k e1 e2 e3 e4 e5 e6 e7 = omega (arith, e1, e2, e3, e4, e5, e6, e7)

    -- a count that rises
    rises : more ≡ true → i.kind ≡ RefMore → in_span i.block n b ≡ true → Sound m
    rises up k t =
        let none : to_free more p e ≡ [] = ap (λ (u : Bool). only_if (not u && not (sick_in p Refc) && (count_at recs i.block == 1)) (intent Free 0 0 e)) up in
        let plain : (test : IntentKind → Bool) → test RefMore ≡ false → due (owes test g b) cs ≡ due (owes test g b) now = λ test f. keep (due (owes test g b) now) (if test i.kind then at_span i.block n b else 0) (due (owes test g b) cs) (due_plain test none) (none_of test RefMore k f) in
        let fewer : l.more ≡ m.more + 1 = less_one m.more (if raises i.kind then at_span i.block n b else 0) l.more (due_plain raises none) (all_of raises RefMore k refl ∙ in_bit t) in
        let least = h.least in
        let count : l.count + 1 ≡ m.count =
        sym (counted true (ap (λ (u : Bool). u || is_some (counter_of recs i.block)) up) ∙ ap (λ (u : Bool). if u then shown_count (new_count more recs i.block) else count_at recs b) t
        ∙ ap (λ (u : Bool). shown_count (new_count u recs i.block)) up ∙ ap (λ (z : ℕ). shown_count (z + 1)) (sym (one_of t)) ∙ shown_more (count_at recs b) least) in
        carry (record l { count = l.count + 1; more = m.more }) m count refl (plain removes refl) (plain lowers refl) (plain frees refl) (plain adds refl) spans_same covers_same refl refl (count_rises l h m.more fewer)
      where
        less_one : (x s y : ℕ) → x + s ≡ y → s ≡ 1 → y ≡ x + 1
        less_one x s y a c = omega (arith, a, c)

        shown_more : (z : ℕ) → 1 ≤ z → shown_count (z + 1) ≡ z + 1
        shown_more z low = ap (λ (u : Bool). if u then 1 else z + 1) (not_below (z + 1) 2 (omega (arith, low)))
          where
            not_below : (x y : ℕ) → y ≤ x → nat_lt x y ≡ false
            not_below x y up = elim (cases_Bool (nat_lt x y)) [
              | inl is_less ↦ let q = ltb-true x y is_less in absurd (omega (arith, q, up))
              | inr isnt ↦ isnt
            ]

    -- a count other than one has a record
    has_counter : (count_at recs i.block == 1) ≡ false → is_some (counter_of recs i.block) ≡ true
    unfolding count_at
    has_counter shared = by (counter_of recs i.block) shared
      where
        by : (o : Option RefcRec) → (option_map_or (λ r. r.refcount) o 1 == 1) ≡ false → is_some o ≡ true
        by None s = absurd (true≢false s)
        by (Some r) s = refl

    -- a count that falls
    falls : more ≡ false → i.kind ≡ RefLess → in_span i.block n b ≡ true → (count_at recs i.block == 1) ≡ false → Sound m
    falls down k t shared =
        let none : to_free more p e ≡ [] = ap (λ (u : Bool). only_if (not more && not (sick_in p Refc) && u) (intent Free 0 0 e)) shared ∙ ap (λ (u : Bool). only_if u (intent Free 0 0 e)) (and_none (not more && not (sick_in p Refc))) in
        let plain : (test : IntentKind → Bool) → test RefLess ≡ false → due (owes test g b) cs ≡ due (owes test g b) now = λ test f. keep (due (owes test g b) now) (if test i.kind then at_span i.block n b else 0) (due (owes test g b) cs) (due_plain test none) (none_of test RefLess k f) in
        let fewer : l.less ≡ m.less + 1 = less_one m.less (if lowers i.kind then at_span i.block n b else 0) l.less (due_plain lowers none) (all_of lowers RefLess k refl ∙ in_bit t) in
        let least : 1 ≤ count_at recs b = h.least in
        let two : 2 ≤ count_at recs i.block = at_least (count_at recs i.block) (subst (λ (z : ℕ). 1 ≤ z) (one_of t) least) shared in
        let count : m.count ≡ count_at recs i.block - 1 =
        counted true (ap (λ (u : Bool). u || is_some (counter_of recs i.block)) down ∙ has_counter shared) ∙ ap (λ (u : Bool). if u then shown_count (new_count more recs i.block) else count_at recs b) t
        ∙ ap (λ (u : Bool). shown_count (new_count u recs i.block)) down ∙ shown_less (count_at recs i.block) two in
        let goes = goes_less k t in
        let same : l.count ≡ count_at recs i.block = one_of t in
        carry (record l { count = m.count; less = m.less }) m refl (plain raises refl) (plain removes refl) refl (plain frees refl) (plain adds refl) spans_same covers_same refl refl
        (count_falls l h m.less m.count (omega (arith, same, count, two)) (omega (arith, count, two)) fewer (omega (arith, goes, fewer)))
      where
        less_one : (x s y : ℕ) → x + s ≡ y → s ≡ 1 → y ≡ x + 1
        less_one x s y a c = omega (arith, a, c)

        and_none : (u : Bool) → (u && false) ≡ false
        and_none true = refl
        and_none false = refl

        at_least : (z : ℕ) → 1 ≤ z → (z == 1) ≡ false → 2 ≤ z
        at_least z low other = elim (cases_order z 1) [
          | inl one ↦ absurd (true≢false (sym (eq-eqb z 1 one) ∙ other))
          | inr (inl less) ↦ absurd (omega (arith, less, low))
          | inr (inr above) ↦ omega (arith, above)
        ]

        shown_less : (z : ℕ) → 2 ≤ z → shown_count (z - 1) ≡ z - 1
        shown_less z low = elim (cases_Bool (nat_lt (z - 1) 2)) [
          | inl is_less ↦ let q = ltb-true (z - 1) 2 is_less in ap (λ (u : Bool). if u then 1 else z - 1) is_less ∙ (let r : 1 ≡ z - 1 = omega (arith, q, low) in r)
          | inr isnt ↦ ap (λ (u : Bool). if u then 1 else z - 1) isnt
        ]

    -- the last count: the stretch is to be free
    ends : more ≡ false → i.kind ≡ RefLess → in_span i.block n b ≡ true → (count_at recs i.block == 1) ≡ true → Sound m
    ends down k t one =
        let goes = goes_less k t in
        let was : l.count ≡ 1 = one_of t ∙ eqb-true (count_at recs i.block) 1 one in
        let z = last_one l h was goes in
        let sick : sick_in p Refc ≡ false = not_sick (sick_in p Refc) (is_among Refc left) w.edited in
        let freed_is : to_free more p e ≡ intent Free 0 0 e ∷ [] = (λ j. only_if (not (down j) && not (sick j) && one j) (intent Free 0 0 e)) in
        let due_freed : (test : IntentKind → Bool) → due (owes test g b) now + (if test i.kind then at_span i.block n b else 0) ≡ due (owes test g b) cs + (if test Free then at_span i.block n b else 0) = λ test. due_then test ∙ ap (λ (is : List Intent). due (owes test g b) cs + sum_by (owes test g b) is) freed_is ∙ ap (λ (x : ℕ). due (owes test g b) cs + x) (free_owed test) in
        let plain : (test : IntentKind → Bool) → test RefLess ≡ false → test Free ≡ false → due (owes test g b) cs ≡ due (owes test g b) now = λ test f u. same_due (due (owes test g b) now) (if test i.kind then at_span i.block n b else 0) (due (owes test g b) cs) (if test Free then at_span i.block n b else 0) (due_freed test) (none_of test RefLess k f) (ap (λ (y : Bool). if y then at_span i.block n b else 0) u) in
        let bit = in_bit t in
        let lowered = due_freed lowers in
        let own : (if lowers i.kind then at_span i.block n b else 0) ≡ at_span i.block n b = all_of lowers RefLess k refl in
        let no_less : 0 ≡ m.less = none_more m.less (if lowers i.kind then at_span i.block n b else 0) l.less (at_span i.block n b) lowered own bit z.1 in
        let fred = due_freed frees in
        let none_own : (if frees i.kind then at_span i.block n b else 0) ≡ 0 = none_of frees RefLess k refl in
        let one_free : 1 ≡ m.frees = one_more m.frees (if frees i.kind then at_span i.block n b else 0) l.frees (at_span i.block n b) fred none_own bit z.2 in
        carry (record l { less = 0; frees = 1 }) m (sym (stays_one was)) (plain raises refl refl) (plain removes refl refl) no_less one_free (plain adds refl refl) spans_same covers_same refl refl z.4
      where
        not_sick : (s o : Bool) → (if s then false else if o then false else true) ≡ true → s ≡ false
        not_sick true o q = absurd (true≢false (sym q))
        not_sick false o q = refl

        same_due : (x y c f : ℕ) → x + y ≡ c + f → y ≡ 0 → f ≡ 0 → c ≡ x
        same_due x y c f a d u = omega (arith, a, d, u)

        none_more : (x y c f : ℕ) → x + y ≡ c + 0 → y ≡ f → f ≡ 1 → c ≡ 1 → 0 ≡ x
        none_more x y c f a d u v = omega (arith, a, d, u, v)

        one_more : (x y c f : ℕ) → x + y ≡ c + f → y ≡ 0 → f ≡ 1 → c ≡ 0 → 1 ≡ x
        one_more x y c f a d u v = omega (arith, a, d, u, v)

        stays_one : l.count ≡ 1 → m.count ≡ l.count
        stays_one was = by (changes_count more recs i.block) refl
          where
            by : (u : Bool) → changes_count more recs i.block ≡ u → m.count ≡ l.count
            by true f =
                counted true f ∙ ap (λ (y : Bool). if y then shown_count (new_count more recs i.block) else count_at recs b) t
                ∙ ap (λ (y : Bool). shown_count (new_count y recs i.block)) down ∙ ap (λ (z : ℕ). shown_count (z - 1)) (eqb-true (count_at recs i.block) 1 one) ∙ sym was
            by false f = counted false f

    step : Sound m
    step = elim (cases_Bool (in_span i.block n b)) [
      | inr out ↦ beside out
      | inl t ↦ by_way more refl i.kind refl kind t
    ]
      where
        by_way : (way : Bool) → more ≡ way → (k : IntentKind) → i.kind ≡ k → is_ref more i.kind ≡ true → in_span i.block n b ≡ true → Sound m
        by_way true up RefMore k r t = rises up k t
        by_way false down RefLess k r t = elim (cases_Bool (count_at recs i.block == 1)) [
          | inl one ↦ ends down k t one
          | inr shared ↦ falls down k t shared
        ]
        by_way true up RmapAdd k r t = absurd (true≢false (sym r ∙ ap₂ is_ref up k))
        by_way true up RmapRemove k r t = absurd (true≢false (sym r ∙ ap₂ is_ref up k))
        by_way true up RmapChange k r t = absurd (true≢false (sym r ∙ ap₂ is_ref up k))
        by_way true up RefLess k r t = absurd (true≢false (sym r ∙ ap₂ is_ref up k))
        by_way true up Free k r t = absurd (true≢false (sym r ∙ ap₂ is_ref up k))
        by_way false up RmapAdd k r t = absurd (true≢false (sym r ∙ ap₂ is_ref up k))
        by_way false up RmapRemove k r t = absurd (true≢false (sym r ∙ ap₂ is_ref up k))
        by_way false up RmapChange k r t = absurd (true≢false (sym r ∙ ap₂ is_ref up k))
        by_way false up RefMore k r t = absurd (true≢false (sym r ∙ ap₂ is_ref up k))
        by_way false up Free k r t = absurd (true≢false (sym r ∙ ap₂ is_ref up k))

-- ---- the entry

done_in : (a : State) (left : List Kind) (c n : ℕ) (more : Bool) (i : Intent) (rest : List Intent) (b owned alone : ℕ) → c < most_chains → a.chains c ≡ i ∷ rest → is_ref more i.kind ≡ true → 0 < n → n ≤ i.count → AreCounting left (a.group i.group) → ((k : ℕ) → k < most_chains → IsChain (a.chains k))
    → n ≡ stretch (records_in (a.group i.group) Refc) i.block i.count → Sound (ledger_of a i.group b owned alone) → Sound (ledger_of (ref_done left c more (record { group = i.group; block = i.block; count = n }) i rest a) i.group b owned alone)
unfolding ref_done
done_in a left c n more i rest b owned alone lt next kind pos le w each is h =
    subst (λ (p : Group). Sound (ledger_in p (at_only c (to_free more (a.group i.group) (record { group = i.group; block = i.block; count = n }) ++ behind n i ++ rest) a.chains) i.group b owned alone)) (sym (in_itself i.group (change_count left more (record { group = i.group; block = i.block; count = n })) a))
    (step left (a.group i.group) a.chains c n more b owned alone i rest lt next kind pos le w each h is)

pub ref_done_sound : RefDoneSound
ref_done_sound a x left c g at n more b owned alone lt w each row h =
    let i : Intent = row.0 in
    let rest : List Intent = row.1 in
    let is = row.2 in
    let same : i.group ≡ g = is.group in
    let begins : i.block ≡ at = is.block in
    let w' : AreCounting left (a.group i.group) = subst (λ (z : ℕ). AreCounting left (a.group z)) (sym same) w in
    let sound : sick_in (a.group g) Refc ≡ false = not_sick (sick_in (a.group g) Refc) (is_among Refc left) w.edited in
    let reach : n ≡ stretch (records_in (a.group i.group) Refc) i.block i.count =
    row.4 ∙ ap (λ (t : Bool). if t then i.count else stretch (records_in (a.group g) Refc) at i.count) sound ∙ (λ j. stretch (records_in (a.group (sym same j)) Refc) (sym begins j) i.count) in
    let run : record { group = i.group; block = i.block; count = n } ≡ record { group = g; block = at; count = n } = λ j. record { group = same j; block = begins j; count = n } in
    subst (λ (y : State). Sound (ledger_of y g b owned alone)) (sym row.5)
    (subst (λ (e : Extent). Sound (ledger_of (ref_done left c more e i rest a) g b owned alone)) run
    (subst (λ (z : ℕ). Sound (ledger_of (ref_done left c more (record { group = i.group; block = i.block; count = n }) i rest a) z b owned alone)) same
    (done_in a left c n more i rest b owned alone lt is.next row.3 is.some is.count w' each reach (subst (λ (z : ℕ). Sound (ledger_of a z b owned alone)) (sym same) h))))
  where
    not_sick : (s o : Bool) → (if s then false else if o then false else true) ≡ true → s ≡ false
    not_sick true o q = absurd (true≢false (sym q))
    not_sick false o q = refl
