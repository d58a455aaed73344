-- Reference counts that count each block as its mappings do are what mappings say, as a list.
use Rattle.std.proofs.Common.{◌≡◌, ℕ, ◌+◌, ◌<◌, ◌≤◌, ◌&&◌, Bool, true, false, cond, List, [], ◌∷◌, map, Contains, Option, Some, None, refl, ap, ap₂, sym, subst, ◌∙◌, inl, inr, arith}
use Rattle.std.specs.Prelude.{nat_le, nat_lt, count_by, ◌⊎◌, if◌then◌else◌}
use Rattle.std.proofs.lemmas.Bool.{cases_order, lt-ltb, true≢false}
use Rattle.std.proofs.lemmas.Bool.Decides.{nat_tests}
use Rattle.std.proofs.lemmas.List.Sums.{sum_by-cons}
use Rattle.derive_defs.proofs.SharedLemmas.{only_shared}
use Rattle.derive_defs.specs.Mappings.{covers}
use Rattle.derive_defs.specs.Shared.{shared_space, sharers, shares, stretch_of}
use Rattle.fs_change.specs.Records.{count_at}
use Rattle.rmap_recs.proofs.RisingLemmas.{in_front, in_rest}
use Rattle.rmap_recs.specs.Rmap.{is_shareable}
use Rattle.rmap_recs.specs.declared.records.RmapRec.{RmapRec}
use Rattle.run_sets.specs.Runs.{most}
use Rattle.run_sets.specs.Stretches.{AreMaximalStretches, at_least, value_at}
use Rattle.span_recs.specs.declared.refcount.RefcRec.{RefcRec}
use Rattle.law_accounts.specs.Account.Accounts.{covers_at, in_span}
use Rattle.law_accounts.proofs.Account.Spans.{span_not, span_out}
use Rattle.law_accounts.specs.Count.Counted.{AreCounts, AreShown}
use Rattle.law_accounts.proofs.Count.Counts.{at_none, at_some, stands_from, which}
use Rattle.law_accounts.proofs.Count.Lists.{Stands}

-- ---- how many mappings share a block

sharers_most : (ms : List RmapRec) (b : ℕ) → count_by (shares b) ms ≤ covers_at ms b
sharers_most [] b = omega arith
sharers_most (r ∷ ms) b =
    let one = sum_by-cons (λ x. cond (shares b x) 1 0) r ms in
    let rest = sharers_most ms b in
    let first = fewer (is_shareable r) (covers b r) in
    omega (arith, one, rest, first)
  where
    fewer : (s c : Bool) → cond {A = ℕ} (s && c) 1 0 ≤ (if c then 1 else 0)
    fewer true true = omega arith
    fewer true false = omega arith
    fewer false true = omega arith
    fewer false false = omega arith

sharers_all : (ms : List RmapRec) (b : ℕ) → ((r : RmapRec) → Contains ms r → covers b r ≡ true → is_shareable r ≡ true) → count_by (shares b) ms ≡ covers_at ms b
sharers_all [] b each = refl
sharers_all (r ∷ ms) b each =
    sum_by-cons (λ x. cond (shares b x) 1 0) r ms
    ∙ ap₂ (λ (m n : ℕ). m + n) (alike (is_shareable r) (covers b r) (each r (in_front r ms))) (sharers_all ms b (λ s c. each s (in_rest r ms s c)))
  where
    alike : (s c : Bool) → (c ≡ true → s ≡ true) → cond {A = ℕ} (s && c) 1 0 ≡ (if c then 1 else 0)
    alike true true h = refl
    alike true false h = refl
    alike false true h = absurd (true≢false (sym (h refl)))
    alike false false h = refl

-- ---- which count a block has by the list

-- no record where there are less than two
abbrev counted_as : ℕ → Option ℕ
counted_as n = if nat_le 2 n then Some n else None

one_is_none : (n : ℕ) → n ≤ 1 → counted_as n ≡ None
one_is_none n le = let f : nat_le 2 n ≡ false = grind (arith, nat_tests) in ap (λ (k : Bool). if k then Some n else None) f

module _ (b : ℕ) where
  value_some : (from : ℕ) (rs : List RefcRec) (r : RefcRec) → AreCounts from rs → Stands r rs → in_span r.start r.count b ≡ true → value_at (map stretch_of rs) b ≡ Some r.refcount
  value_some from [] r h c i = absurd c
  value_some from (x ∷ xs) r h c i = elim c [
    | inl same ↦
        ap (λ (k : Bool). if k then Some x.refcount else value_at (map stretch_of xs) b) (ap (λ (y : RefcRec). in_span y.start y.count b) same ∙ i)
        ∙ ap (λ (y : RefcRec). Some y.refcount) same
    | inr later ↦
        let low = (stands_from (x.start + x.count) xs r h.2 later).0 in
        let first = (span_out r.start r.count b i).0 in
        ap (λ (k : Bool). if k then Some x.refcount else value_at (map stretch_of xs) b) (span_not x.start x.count b (λ l u. omega (arith, low, first, u)))
        ∙ value_some (x.start + x.count) xs r h.2 later i
  ]

  value_none : (rs : List RefcRec) → ((r : RefcRec) → Stands r rs → in_span r.start r.count b ≡ false) → value_at (map stretch_of rs) b ≡ None
  value_none [] none = refl
  value_none (x ∷ xs) none =
      ap (λ (k : Bool). if k then Some x.refcount else value_at (map stretch_of xs) b) (none x (inl refl))
      ∙ value_none xs (λ r c. none r (inr c))

  value_is : (rs : List RefcRec) → AreCounts 0 rs → ((r : RefcRec) → Stands r rs → 2 ≤ r.refcount) → value_at (map stretch_of rs) b ≡ counted_as (count_at rs b)
  value_is rs h each = elim (which rs b) [
    | inl has ↦
        let two = each has.0 has.1 in
        let is : nat_le 2 has.0.refcount ≡ true = grind (arith, nat_tests) in
        value_some 0 rs has.0 h has.1 has.2 ∙ ap (λ (k : Bool). if k then Some has.0.refcount else None) (sym is) ∙ ap counted_as (sym (at_some rs b has.0 h has.1 has.2))
    | inr none ↦ value_none rs none ∙ ap counted_as (sym (at_none rs b none))
  ]

several : (rs : List RefcRec) → AreShown rs → (r : RefcRec) → Stands r rs → 2 ≤ r.refcount
several [] w r c = absurd c
several (x ∷ []) w r c = elim c [
  | inl same ↦ subst (λ (y : RefcRec). 2 ≤ y.refcount) same w
  | inr none ↦ absurd none
]
several (x ∷ y ∷ ys) w r c = elim c [
  | inl same ↦ subst (λ (z : RefcRec). 2 ≤ z.refcount) same w.0
  | inr later ↦ several (y ∷ ys) w.2 r later
]

maximal : (from : ℕ) (rs : List RefcRec) → AreCounts from rs → AreShown rs → AreMaximalStretches from (map stretch_of rs)
maximal from [] h w = tt
maximal from (r ∷ []) h w = (h.0, h.1, tt, tt)
maximal from (r ∷ s ∷ rs) h w = (h.0, h.1, w.1, maximal (r.start + r.count) (s ∷ rs) h.2 w.2)

-- ---- both

-- What is known of a block? Its count is that of its mappings, where these are two or more, which are all of shared data.
abbrev pub Agrees : List RmapRec → ℕ → ℕ → Type 0
Agrees ms b n = ((covers_at ms b ≤ 1) × (n ≡ 1)) ⊎ ((2 ≤ covers_at ms b) × (n ≡ covers_at ms b) × ((r : RmapRec) → Contains ms r → covers b r ≡ true → is_shareable r ≡ true))

few_share : (ms : List RmapRec) (b n : ℕ) → covers_at ms b ≤ n → sharers ms b ≤ n
unfolding sharers
few_share ms b n le = let m = sharers_most ms b in omega (arith, m, le)

all_share : (ms : List RmapRec) (b : ℕ) → covers_at ms b ≤ most → ((r : RmapRec) → Contains ms r → covers b r ≡ true → is_shareable r ≡ true) → sharers ms b ≡ covers_at ms b
unfolding sharers
all_share ms b le shared = let e = sharers_all ms b shared in omega (arith, e, le)

pub counts_whole : (ms : List RmapRec) (rs : List RefcRec) (len : ℕ) → AreCounts 0 rs → AreShown rs → len ≤ most → ((b : ℕ) → covers_at ms b ≤ most) → ((b : ℕ) → len ≤ b → covers_at ms b ≡ 0) → ((b : ℕ) → Agrees ms b (count_at rs b)) → rs ≡ shared_space ms
counts_whole ms rs len h w fits few outside each = only_shared ms rs (record { maximal = maximal 0 rs h w; exact = λ b. value_is b rs h (several rs w) ∙ exact b (each b) })
  where
    none_there : (k : Bool) (n : ℕ) → n ≤ 1 → None ≡ (if k then counted_as n else None)
    none_there true n le = sym (one_is_none n le)
    none_there false n le = refl

    below : (b : ℕ) → 2 ≤ covers_at ms b → b < most
    below b some = elim (cases_order b len) [
      | inl same ↦ absurd (let z = outside b (omega (arith, same)) in omega (arith, z, some))
      | inr (inl less) ↦ omega (arith, less, fits)
      | inr (inr more) ↦ absurd (let z = outside b (omega (arith, more)) in omega (arith, z, some))
    ]

    exact : (b : ℕ) → Agrees ms b (count_at rs b) → counted_as (count_at rs b) ≡ (if nat_lt b most then at_least 2 (sharers ms) b else None)
    exact b (inl one) = one_is_none (count_at rs b) (let e = one.1 in omega (arith, e)) ∙ none_there (nat_lt b most) (sharers ms b) (few_share ms b 1 one.0)
    exact b (inr two) =
        ap counted_as (two.1 ∙ sym (all_share ms b (few b) two.2))
        ∙ ap (λ (k : Bool). if k then counted_as (sharers ms b) else None) (sym (lt-ltb b most (below b two.0)))
