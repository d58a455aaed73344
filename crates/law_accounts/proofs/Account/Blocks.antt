-- A block stays sound.
use Rattle.std.specs.Prelude.{ℕ, ◌≡◌, ◌+◌, ◌*◌, ◌≤◌, ◌⊎◌, refl}
use Rattle.std.proofs.Common.{subst, inl, inr, arith}
use Rattle.std.proofs.lemmas.Bool.{cases_order}
use Rattle.law_accounts.specs.Account.Ledger.{Bare, IsDerived, IsSettled, Ledger, Sound}

-- zero or more
some : (n : ℕ) → (n ≡ 0) ⊎ (1 ≤ n)
some n = elim (cases_order n 0) [ inl e ↦ inl e | inr (inl l) ↦ absurd (omega (arith, l)) | inr (inr l) ↦ inr (omega (arith, l)) ]

module _ (l : Ledger) (h : Sound l) where
  -- a block with a claim, or a count that will fall, is neither free nor to be freed
  held : 1 ≤ l.owned → l.spans + l.frees ≡ 0
  held o = elim (some (l.spans + l.frees)) [ inl z ↦ z | inr s ↦ let z = (h.loose s).0 in absurd (omega (arith, o, z)) ]

  falling : 1 ≤ l.less → l.spans + l.frees ≡ 0
  falling o = elim (some (l.spans + l.frees)) [ inl z ↦ z | inr s ↦ let z = (h.loose s).1 in absurd (omega (arith, o, z)) ]

  shared_by : 1 ≤ l.less → l.alone ≡ 0
  shared_by o = elim (some l.alone) [ inl z ↦ z | inr s ↦ let z = (h.single s).1 in absurd (omega (arith, o, z)) ]

  pub last_one : l.count ≡ 1 → l.goes + 1 ≤ l.less → Bare l × (l.less ≡ 1) × (l.frees ≡ 0) × (l.spans ≡ 0) × Sound (record l { less = 0; frees = 1 })
  last_one one last =
      let z = falling (omega (arith, last)) in
      let more : l.more ≡ 0 = omega (arith, h.balance, h.owns, h.pairs, one, last, z) in
      let less : l.less ≡ 1 = omega (arith, h.balance, h.owns, h.pairs, one, last, z) in
      let owned : l.owned ≡ 0 = omega (arith, h.balance, h.owns, h.pairs, one, last, z) in
      let goes : l.goes ≡ 0 = omega (arith, last, less) in
      let comes : l.comes ≡ 0 = omega (arith, h.owns, owned, goes) in
      let covers : l.covers ≡ 0 = omega (arith, h.owns, owned, goes) in
      let frees : l.frees ≡ 0 = omega (arith, z) in
      let spans : l.spans ≡ 0 = omega (arith, z) in
      let alone : l.alone ≡ 0 = shared_by (omega (arith, less)) in (
        record { more = more; goes = goes; comes = comes; covers = covers; owned = owned },
        less,
        frees,
        spans,
        record { balance = omega (arith, one, more, goes, comes, spans, covers); owns = h.owns; pairs = h.pairs; falls = omega (arith, goes); loose = λ s. (owned, refl, omega (arith, spans)); single = λ s. absurd (omega (arith, s, alone)); least = h.least },
      )

  pub free_one : 1 ≤ l.frees → Bare l × (l.count ≡ 1) × (l.frees ≡ 1) × (l.spans ≡ 0) × Sound (record l { frees = 0; spans = 1 })
  free_one f =
      let z = h.loose (omega (arith, f)) in
      let owned : l.owned ≡ 0 = z.0 in
      let less : l.less ≡ 0 = z.1 in
      let more : l.more ≡ 0 = omega (arith, h.pairs, owned) in
      let goes : l.goes ≡ 0 = omega (arith, h.falls, less) in
      let comes : l.comes ≡ 0 = omega (arith, h.owns, owned, goes) in
      let covers : l.covers ≡ 0 = omega (arith, h.owns, owned, goes) in
      let frees : l.frees ≡ 1 = omega (arith, f, z.2) in
      let spans : l.spans ≡ 0 = omega (arith, f, z.2) in
      let count : l.count ≡ 1 = omega (arith, h.balance, more, goes, less, comes, covers, frees, spans) in (
        record { more = more; goes = goes; comes = comes; covers = covers; owned = owned },
        count,
        frees,
        spans,
        record { balance = omega (arith, count, more, goes, less, comes, covers); owns = h.owns; pairs = h.pairs; falls = h.falls; loose = λ s. (owned, less, omega arith); single = h.single; least = h.least },
      )

  pub count_falls : (n k : ℕ) → l.count ≡ k + 1 → 1 ≤ k → l.less ≡ n + 1 → l.goes ≤ n → Sound (record l { count = k; less = n })
  count_falls n k c pos e g =
      let z = falling (omega (arith, e)) in
      let alone : l.alone ≡ 0 = shared_by (omega (arith, e)) in
      record { balance = omega (arith, h.balance, c, e); owns = h.owns; pairs = h.pairs; falls = g; loose = λ s. absurd (omega (arith, s, z)); single = λ s. absurd (omega (arith, s, alone)); least = pos }

  pub count_rises : (n : ℕ) → l.more ≡ n + 1 → Sound (record l { count = l.count + 1; more = n })
  count_rises n e = record { balance = omega (arith, h.balance, e); owns = h.owns; pairs = omega (arith, h.pairs, e); falls = h.falls; loose = h.loose; single = h.single; least = omega arith }

  pub record_comes : (n : ℕ) → l.comes ≡ n + 1 → Sound (record l { comes = n; covers = l.covers + 1 })
  record_comes n e = record { balance = omega (arith, h.balance, e); owns = omega (arith, h.owns, e); pairs = h.pairs; falls = h.falls; loose = h.loose; single = h.single; least = h.least }

  pub record_goes : (n c : ℕ) → l.goes ≡ n + 1 → l.covers ≡ c + 1 → Sound (record l { goes = n; covers = c })
  record_goes n c e f = record { balance = omega (arith, h.balance, e, f); owns = omega (arith, h.owns, e, f); pairs = h.pairs; falls = omega (arith, h.falls, e); loose = h.loose; single = h.single; least = h.least }

  pub piece_goes : (n m : ℕ) → l.owned ≡ n + 1 → m ≤ l.alone → (1 ≤ m → n ≡ 0 → ⊥) → 2 * l.more ≤ n → Sound (record l { goes = l.goes + 1; less = l.less + 1; owned = n; alone = m })
  piece_goes n m e le f p =
      let z = held (omega (arith, e)) in
      record { balance = omega (arith, h.balance); owns = omega (arith, h.owns, e); pairs = p; falls = omega (arith, h.falls); loose = λ s. absurd (omega (arith, s, z)); single = λ s. absurd (f s (let o = (h.single (omega (arith, s, le))).0 in omega (arith, o, e))); least = h.least }

  pub piece_shared : 1 ≤ l.owned → l.alone ≡ 0 → 2 * (l.more + 1) ≤ l.owned + 1 → Sound (record l { comes = l.comes + 1; more = l.more + 1; owned = l.owned + 1 })
  piece_shared o a p =
      let z = held o in
      record { balance = omega (arith, h.balance); owns = omega (arith, h.owns); pairs = p; falls = h.falls; loose = λ s. absurd (omega (arith, s, z)); single = λ s. absurd (omega (arith, s, a)); least = h.least }

  pub run_taken : (n : ℕ) → l.spans ≡ n + 1 → Sound (record l { spans = n; comes = l.comes + 1; owned = l.owned + 1; alone = l.alone + 1 })
  run_taken n e =
      let z = h.loose (omega (arith, e)) in
      record { balance = omega (arith, h.balance, e); owns = omega (arith, h.owns); pairs = omega (arith, h.pairs); falls = h.falls; loose = λ s. absurd (omega (arith, s, z.2, e)); single = λ s. (omega (arith, z.0), z.1); least = h.least }

  pub becomes_written : (n : ℕ) → l.alone ≡ n + 1 → Sound (record l { alone = n })
  becomes_written n e = record { balance = h.balance; owns = h.owns; pairs = h.pairs; falls = h.falls; loose = h.loose; single = λ s. h.single (omega (arith, e)); least = h.least }

  pub block_trimmed : (n c : ℕ) → l.alone ≡ n + 1 → l.covers ≡ c + 1 → l.goes ≡ 0 → l.owned ≡ 1 → Sound (record l { alone = 0; covers = c; owned = 0; spans = l.spans + 1 })
  block_trimmed n c e f g o =
      let z = held (omega (arith, o)) in
      let s = h.single (omega (arith, e)) in
      let more : l.more ≡ 0 = omega (arith, h.pairs, o) in
      record { balance = omega (arith, h.balance, f); owns = omega (arith, h.owns, f, o, g); pairs = omega (arith, more); falls = h.falls; loose = λ t. (refl, s.1, omega (arith, z)); single = λ t. absurd (omega (arith, t)); least = h.least }

  pub run_listed : (n : ℕ) → l.spans ≡ n + 1 → Sound (record l { spans = n; covers = l.covers + 1; owned = l.owned + 1; alone = l.alone + 1 })
  run_listed n e =
      let z = h.loose (omega (arith, e)) in
      record { balance = omega (arith, h.balance, e); owns = omega (arith, h.owns); pairs = omega (arith, h.pairs); falls = h.falls; loose = λ s. absurd (omega (arith, s, z.2, e)); single = λ s. (omega (arith, z.0), z.1); least = h.least }

pub carry : (l m : Ledger) → l.count ≡ m.count → l.more ≡ m.more → l.goes ≡ m.goes → l.less ≡ m.less → l.frees ≡ m.frees → l.comes ≡ m.comes → l.spans ≡ m.spans → l.covers ≡ m.covers → l.owned ≡ m.owned → l.alone ≡ m.alone → Sound l → Sound m
carry l m e0 e1 e2 e3 e4 e5 e6 e7 e8 e9 h = subst Sound (λ i. record { count = e0 i; more = e1 i; goes = e2 i; less = e3 i; frees = e4 i; comes = e5 i; spans = e6 i; covers = e7 i; owned = e8 i; alone = e9 i }) h

pub settled_is_derived : (l : Ledger) → Sound l → IsSettled l → IsDerived l
settled_is_derived l h s =
    let balance : l.count ≡ l.spans + l.covers = omega (arith, h.balance, s.more, s.goes, s.less, s.frees, s.comes) in
    let owns : l.covers ≡ l.owned = omega (arith, h.owns, s.goes, s.comes) in
    record {
      free = λ none.
          let some_free : 1 ≤ l.spans = omega (arith, balance, none, h.least) in
          let once = (h.loose (omega (arith, some_free))).2 in
          (omega (arith, once, some_free, s.frees), omega (arith, balance, none, once, some_free, s.frees));
      counted = λ covered.
          let none : l.spans ≡ 0 = elim (some l.spans) [ inl z ↦ z | inr free ↦ let z = (h.loose (omega (arith, free))).0 in absurd (omega (arith, z, owns, covered)) ] in
          (none, omega (arith, balance, none));
      owners = owns;
    }
