-- At a quiet moment each index is what is derived.
use Rattle.std.proofs.Common.{◌≡◌, ℕ, ◌<◌, ◌≤◌, ◌&&◌, Bool, false, not, refl, ap, sym, ◌∙◌, inl, inr, arith}
use Rattle.std.specs.Prelude.{nat_lt, ◌⊎◌}
use Rattle.std.proofs.lemmas.Bool.{cases_Bool, cases_order, lt-ltb, ltb-true, true≢false}
use Rattle.derive_defs.proofs.SpaceLemmas.{only_free}
use Rattle.derive_defs.specs.ByCount.{ordered_by_count}
use Rattle.derive_defs.specs.Free.{free_space}
use Rattle.fs_change.specs.Chains.{Quiet}
use Rattle.fs_change.specs.Parts.{records_in}
use Rattle.fs_change.specs.Records.{count_at}
use Rattle.fs_state.specs.Claims.{claims}
use Rattle.fs_state.specs.Derive.{bno_of, cnt_of, derive, mappings, refc_of}
use Rattle.fs_state.specs.State.{State}
use Rattle.geom.specs.Layout.{group_len_of}
use Rattle.sblock.specs.declared.kind.Kind.TheVariants.{Bno, Cnt, Rmap, Refc, Ino, Fino}
use Rattle.law_accounts.specs.Account.Accounts.{alone_at, covers_at, spans_at}
use Rattle.law_accounts.specs.Account.Ledger.{IsDerived}
use Rattle.law_accounts.specs.Account.Stated.{ledger_at}
use Rattle.law_accounts.proofs.Account.Stated.{quiet_is_derived}
use Rattle.law_accounts.proofs.Edit.Spaces.{apart_maximal, free_covers, has_spans}
use Rattle.law_accounts.specs.Quiet.Whole.{Fits, IsBalanced, QuietIsWhole}
use Rattle.law_accounts.proofs.Quiet.Counts.{Agrees, counts_whole}
use Rattle.law_accounts.proofs.Quiet.Owners.{mappings_whole}

some_or_none : (n : ℕ) → (n ≡ 0) ⊎ (1 ≤ n)
some_or_none n = elim (cases_order n 0) [
  | inl z ↦ inl z
  | inr (inl less) ↦ absurd (omega (arith, less))
  | inr (inr more) ↦ inr (omega (arith, more))
]

module _ (a : State) (g : ℕ) (quiet : Quiet a g) (kept : IsBalanced a g) (fits : Fits a g) where
  abbrev len : ℕ
  len = group_len_of a.geometry g

  agreed : (b : ℕ) → b < len → IsDerived (ledger_at a g b)
  agreed b lt = quiet_is_derived a g b quiet (kept.sound b lt)

  -- ---- free space

  listed : (b : ℕ) → b < len → nat_lt 0 (spans_at (records_in (a.group g) Bno) b) ≡ not (nat_lt 0 (covers_at (mappings a g) b))
  listed b lt =
      let d = agreed b lt in
      elim (some_or_none (covers_at (mappings a g) b)) [
        | inl none ↦ ap (nat_lt 0) (d.free none).0 ∙ ap (λ (n : ℕ). not (nat_lt 0 n)) (sym none)
        | inr some ↦ ap (nat_lt 0) (d.counted some).0 ∙ ap not (sym (lt-ltb 0 (covers_at (mappings a g) b) (omega (arith, some))))
      ]

  by_place : (b : ℕ) → nat_lt 0 (spans_at (records_in (a.group g) Bno) b) ≡ (nat_lt b len && not (nat_lt 0 (covers_at (mappings a g) b)))
  by_place b = elim (cases_Bool (nat_lt b len)) [
    | inl inside ↦ listed b (ltb-true b len inside) ∙ ap (λ (k : Bool). k && not (nat_lt 0 (covers_at (mappings a g) b))) (sym inside)
    | inr beyond ↦ ap (nat_lt 0) (kept.outside b (not_below b beyond)).spans ∙ ap (λ (k : Bool). k && not (nat_lt 0 (covers_at (mappings a g) b))) (sym beyond)
  ]
    where
      not_below : (m : ℕ) → nat_lt m len ≡ false → len ≤ m
      not_below m e = elim (cases_order m len) [
        | inl same ↦ omega (arith, same)
        | inr (inl less) ↦ absurd (true≢false (sym (lt-ltb m len less) ∙ e))
        | inr (inr more) ↦ omega (arith, more)
      ]

  free_whole : records_in (a.group g) Bno ≡ free_space len (mappings a g)
  free_whole = only_free len (mappings a g) (records_in (a.group g) Bno) (record {
    maximal = apart_maximal 0 (records_in (a.group g) Bno) kept.free;
    exact = λ b. has_spans b (records_in (a.group g) Bno) ∙ by_place b ∙ ap (λ (k : Bool). nat_lt b len && k) (sym (free_covers b (mappings a g)));
  })

  -- ---- reference counts

  shared : (b : ℕ) → b < len → 2 ≤ covers_at (mappings a g) b → alone_at b (claims a g) ≡ 0
  shared b lt two = elim (some_or_none (alone_at b (claims a g))) [
    | inl none ↦ none
    | inr some ↦
        let one = ((kept.sound b lt).single some).0 in
        let all = (agreed b lt).owners in
        absurd (omega (arith, one, all, two))
  ]

  agrees : (b : ℕ) → Agrees (mappings a g) b (count_at (records_in (a.group g) Refc) b)
  agrees b = elim (cases_order b len) [
    | inl same ↦ beyond (omega (arith, same))
    | inr (inl less) ↦ within less
    | inr (inr more) ↦ beyond (omega (arith, more))
  ]
    where
      beyond : len ≤ b → Agrees (mappings a g) b (count_at (records_in (a.group g) Refc) b)
      beyond le = let o = kept.outside b le in let z = o.covers in inl (omega (arith, z), o.count)

      covered : b < len → (n : ℕ) → covers_at (mappings a g) b ≡ n → Agrees (mappings a g) b (count_at (records_in (a.group g) Refc) b)
      covered lt n e =
          let d = agreed b lt in
          elim (cases_order n 1) [
            | inl one ↦ inl (omega (arith, e, one), (d.counted (omega (arith, e, one))).1 ∙ e ∙ one)
            | inr (inl none) ↦ let z : covers_at (mappings a g) b ≡ 0 = omega (arith, e, none) in inl (omega (arith, z), (d.free z).1)
            | inr (inr more) ↦ let two : 2 ≤ covers_at (mappings a g) b = omega (arith, e, more) in let all = d.owners in inr (two, (d.counted (omega (arith, two))).1, λ r c i. fits.of_data b r (omega (arith, all, two)) (shared b lt two) c i)
          ]

      within : b < len → Agrees (mappings a g) b (count_at (records_in (a.group g) Refc) b)
      within lt = covered lt (covers_at (mappings a g) b) refl

-- ---- each

pub quiet_is_whole : QuietIsWhole
unfolding derive bno_of cnt_of refc_of
quiet_is_whole a g Bno quiet kept fits = free_whole a g quiet kept fits
quiet_is_whole a g Cnt quiet kept fits = kept.ordered ∙ ap ordered_by_count (free_whole a g quiet kept fits)
quiet_is_whole a g Rmap quiet kept fits = mappings_whole a g quiet kept.told fits.runs
quiet_is_whole a g Refc quiet kept fits =
    counts_whole (mappings a g) (records_in (a.group g) Refc) (group_len_of a.geometry g) kept.counts kept.shown fits.length fits.few (λ b le. (kept.outside b le).covers) (agrees a g quiet kept fits)
quiet_is_whole a g Ino quiet kept fits = kept.inodes
quiet_is_whole a g Fino quiet kept fits = kept.free_inodes
