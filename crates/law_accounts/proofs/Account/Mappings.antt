-- A finished step of reverse mappings keeps each block sound.
use Rattle.std.specs.Prelude.{ℕ, Bool, true, false, List, ◌∷◌, ◌≡◌, ◌||◌, ◌+◌, ◌<◌, refl, if◌then◌else◌}
use Rattle.std.specs.List.{list_any}
use Rattle.std.proofs.Common.{sym, ap, subst, inl, inr, ◌∙◌, arith, cond}
use Rattle.std.proofs.lemmas.Bool.{eq-eqb, true≢false}
use Rattle.fs_change.specs.Chains.{gives, is_change, most_chains, run_of, takes, word_taken}
use Rattle.fs_change.specs.Changes.{do_mapping, rmap_done}
use Rattle.fs_change.specs.Parts.{at_only, change_tree, edit, records_in, with_recs}
use Rattle.fs_change.specs.Records.{count_at, take_mapping}
use Rattle.fs_state.specs.Claims.{unwritten}
use Rattle.fs_state.specs.State.{State, Group, Readable, Reading, Unreadable, is_readable, recs_of}
use Rattle.fs_state.specs.declared.intent.Intent.{Intent}
use Rattle.fs_state.specs.declared.intent.IntentKind.{IntentKind}
use Rattle.fs_state.specs.declared.intent.IntentKind.TheVariants.{RmapAdd, RmapRemove, RmapChange, RefMore, RefLess, Free}
use Rattle.rmap_recs.specs.declared.records.RmapRec.{RmapRec}
use Rattle.run_edits.specs.Edits.{holds}
use Rattle.sblock.specs.declared.kind.Kind.{Kind}
use Rattle.sblock.specs.declared.kind.Kind.TheVariants.{Bno, Rmap, Refc}
use Rattle.law_accounts.specs.Account.Accounts.{adds, at_span, covers_at, due, frees, hits, ledger_in, ledger_of, lowers, owes, raises, removes, run_in, spans_at}
use Rattle.law_accounts.specs.Account.Ledger.{Ledger, Sound}
use Rattle.law_accounts.specs.Account.Steps.{IsThere, IsWritten, NextIsThere, RmapDoneSound}
use Rattle.law_accounts.proofs.Account.Blocks.{carry, record_comes, record_goes}
use Rattle.law_accounts.proofs.Account.Covers.{given_covers, taken_covers}
use Rattle.law_accounts.proofs.Account.Sums.{hit_bit, hits_own, left_chain}

-- ---- an edit of reverse mappings

with_read : (recs : List RmapRec) (r : Reading RmapRec) → is_readable r ≡ true → recs_of (with_recs recs r) ≡ recs
with_read recs (Readable old blocks) h = refl
with_read recs (Unreadable block fault claims) h = absurd (true≢false (sym h))

module _ (left : List Kind) (f : List RmapRec → List RmapRec) (p : Group) (w : IsWritten left p) where
  abbrev changed : Group
  changed = change_tree Rmap (λ i. record i { reading = with_recs (f (recs_of i.reading)) i.reading }) p

  edited : edit left Rmap f p ≡ changed
  edited = ap (λ t. cond t changed p) w.edited

  pub edited_recs : records_in (edit left Rmap f p) Rmap ≡ f (records_in p Rmap)
  edited_recs = ap (λ (q : Group). records_in q Rmap) edited ∙ with_read (f (records_in p Rmap)) (p.tree Rmap).reading w.readable

  pub spans_stay : records_in (edit left Rmap f p) Bno ≡ records_in p Bno
  spans_stay = ap (λ (q : Group). records_in q Bno) edited

  pub counts_stay : records_in (edit left Rmap f p) Refc ≡ records_in p Refc
  counts_stay = ap (λ (q : Group). records_in q Refc) edited

-- ---- the intent leaves, and its mapping comes or goes

same_now : (x y : ℕ) → x + 0 ≡ y → y ≡ x
same_now x y e = omega (arith, e)

plain : (x y s : ℕ) → x ≡ y + s → s ≡ 0 → y ≡ x
plain x y s e f = omega (arith, e, f)

more : (x y s : ℕ) → x ≡ y + s → s ≡ 1 → y + 1 ≡ x
more x y s e f = omega (arith, e, f)

less : (x s y : ℕ) → x + s ≡ y → s ≡ 1 → y ≡ x + 1
less x s y e f = omega (arith, e, f)

less_plain : (x y s : ℕ) → x + s ≡ y → s ≡ 0 → y ≡ x
less_plain x y s e f = omega (arith, e, f)

module _ (left : List Kind) (p : Group) (cs : ℕ → List Intent) (c g b owned alone : ℕ) (i : Intent) (rest : List Intent) (lt : c < most_chains) (next : cs c ≡ i ∷ rest) (own : i.group ≡ g) (pos : 0 < i.count)
    (w : IsWritten left p) (h : Sound (ledger_in p cs g b owned alone)) where
  abbrev l : Ledger
  l = ledger_in p cs g b owned alone

  abbrev now : ℕ → List Intent
  now = at_only c rest cs

  abbrev q : Group
  q = edit left Rmap (do_mapping i.kind i) p

  abbrev m : Ledger
  m = ledger_in q now g b owned alone

  gone : (test : IntentKind → Bool) → due (owes test g b) now + owes test g b i ≡ due (owes test g b) cs
  gone test = left_chain (owes test g b) cs c i rest lt next

  none_of : (test : IntentKind → Bool) (k : IntentKind) → i.kind ≡ k → test k ≡ false → owes test g b i ≡ 0
  none_of test k e f = ap (λ (t : Bool). if t then hits g b (run_in i) else 0) (ap test e ∙ f)

  one_of : (test : IntentKind → Bool) (k : IntentKind) → i.kind ≡ k → test k ≡ true → owes test g b i ≡ hits g b (run_in i)
  one_of test k e f = ap (λ (t : Bool). if t then hits g b (run_in i) else 0) (ap test e ∙ f)

  still : (test : IntentKind → Bool) → owes test g b i ≡ 0 → due (owes test g b) cs ≡ due (owes test g b) now
  still test z = same_now (due (owes test g b) now) (due (owes test g b) cs) (ap (λ (n : ℕ). due (owes test g b) now + n) (sym z) ∙ gone test)

  over : hits g b (run_in i) ≡ at_span i.block i.count b
  over = ap (λ (n : ℕ). hits n b (run_in i)) (sym own) ∙ hits_own b (run_in i)

  counts : l.count ≡ m.count
  counts = ap (λ rs. count_at rs b) (sym (counts_stay left (do_mapping i.kind i) p w))

  spans : l.spans ≡ m.spans
  spans = ap (λ rs. spans_at rs b) (sym (spans_stay left (do_mapping i.kind i) p w))

  covered : (k : IntentKind) → i.kind ≡ k → m.covers ≡ covers_at (do_mapping k i (records_in p Rmap)) b
  covered k e = ap (λ rs. covers_at rs b) (edited_recs left (do_mapping i.kind i) p w) ∙ ap (λ (x : IntentKind). covers_at (do_mapping x i (records_in p Rmap)) b) e

  comes : i.kind ≡ RmapAdd → Sound m
  comes e =
      let cov : m.covers ≡ l.covers + hits g b (run_in i) = covered RmapAdd e ∙ given_covers (run_of i i.word) (records_in p Rmap) b pos ∙ ap (λ (n : ℕ). l.covers + n) (sym over) in
      let none : (test : IntentKind → Bool) → test RmapAdd ≡ false → due (owes test g b) cs ≡ due (owes test g b) now = λ test f. still test (none_of test RmapAdd e f) in
      let is : owes adds g b i ≡ hits g b (run_in i) = one_of adds RmapAdd e refl in
      elim (hit_bit g b (run_in i)) [
        | inl z ↦ carry l m counts (none raises refl) (none removes refl) (none lowers refl) (none frees refl) (still adds (is ∙ z)) spans (plain m.covers l.covers (hits g b (run_in i)) cov z) refl refl h
        | inr z ↦ carry (record l { comes = m.comes; covers = l.covers + 1 }) m counts (none raises refl) (none removes refl) (none lowers refl) (none frees refl) refl spans (more m.covers l.covers (hits g b (run_in i)) cov z) refl refl
            (record_comes l h m.comes (less m.comes (owes adds g b i) l.comes (gone adds) (is ∙ z)))
      ]

  goes : i.kind ≡ RmapRemove → list_any (λ p. holds p (run_of i i.word)) (records_in p Rmap) ≡ true → Sound m
  goes e there =
      let cov : m.covers + hits g b (run_in i) ≡ l.covers = ap (λ (n : ℕ). n + hits g b (run_in i)) (covered RmapRemove e) ∙ ap (λ (n : ℕ). covers_at (take_mapping (run_of i i.word) (records_in p Rmap)) b + n) over ∙ taken_covers (run_of i i.word) (records_in p Rmap) b pos there in
      let none : (test : IntentKind → Bool) → test RmapRemove ≡ false → due (owes test g b) cs ≡ due (owes test g b) now = λ test f. still test (none_of test RmapRemove e f) in
      let is : owes removes g b i ≡ hits g b (run_in i) = one_of removes RmapRemove e refl in
      elim (hit_bit g b (run_in i)) [
        | inl z ↦ carry l m counts (none raises refl) (still removes (is ∙ z)) (none lowers refl) (none frees refl) (none adds refl) spans (less_plain m.covers l.covers (hits g b (run_in i)) cov z) refl refl h
        | inr z ↦ carry (record l { goes = m.goes; covers = m.covers }) m counts (none raises refl) refl (none lowers refl) (none frees refl) (none adds refl) spans refl refl refl
            (record_goes l h m.goes m.covers (less m.goes (owes removes g b i) l.goes (gone removes) (is ∙ z)) (less m.covers (hits g b (run_in i)) l.covers cov z))
      ]

  turns : i.kind ≡ RmapChange → list_any (λ p. holds p (run_of i (word_taken i))) (records_in p Rmap) ≡ true → Sound m
  turns e there =
      let taken = taken_covers (run_of i (word_taken i)) (records_in p Rmap) b pos there in
      let given = covered RmapChange e ∙ given_covers (run_of i i.word) (take_mapping (run_of i (word_taken i)) (records_in p Rmap)) b pos in
      let none : (test : IntentKind → Bool) → test RmapChange ≡ false → due (owes test g b) cs ≡ due (owes test g b) now = λ test f. still test (none_of test RmapChange e f) in
      carry l m counts (none raises refl) (none removes refl) (none lowers refl) (none frees refl) (none adds refl) spans
      (back m.covers (covers_at (take_mapping (run_of i (word_taken i)) (records_in p Rmap)) b) (at_span i.block i.count b) l.covers given taken) refl refl h
    where
      back : (x y s z : ℕ) → x ≡ y + s → y + s ≡ z → z ≡ x
      back x y s z e f = omega (arith, e, f)

  pub by_kind : (k : IntentKind) → i.kind ≡ k → (gives k || takes k) ≡ true → IsThere (records_in p Rmap) i → Sound m
  by_kind RmapAdd e t there = comes e
  by_kind RmapRemove e t there = goes e (subst (λ (x : ℕ). list_any (λ p. holds p (run_of i x)) (records_in p Rmap) ≡ true) (same_word e) (there (ap takes e)))
    where
      same_word : i.kind ≡ RmapRemove → word_taken i ≡ i.word
      same_word e = ap (λ (t : Bool). if t then i.word + unwritten else i.word) (ap is_change e)
  by_kind RmapChange e t there = turns e (there (ap takes e))
  by_kind RefMore e t there = absurd (true≢false (sym t))
  by_kind RefLess e t there = absurd (true≢false (sym t))
  by_kind Free e t there = absurd (true≢false (sym t))

done_in : (a : State) (left : List Kind) (c : ℕ) (i : Intent) (rest : List Intent) (b owned alone : ℕ) → c < most_chains → a.chains c ≡ i ∷ rest → 0 < i.count → (gives i.kind || takes i.kind) ≡ true
    → IsWritten left (a.group i.group) → IsThere (records_in (a.group i.group) Rmap) i → Sound (ledger_of a i.group b owned alone) → Sound (ledger_of (rmap_done left c i rest a) i.group b owned alone)
unfolding rmap_done
done_in a left c i rest b owned alone lt next pos kind w there h =
    subst (λ (p : Group). Sound (ledger_in p (at_only c rest a.chains) i.group b owned alone)) (sym (ap (λ t. cond t (edit left Rmap (do_mapping i.kind i) (a.group i.group)) (a.group i.group)) (eq-eqb i.group i.group refl)))
    (by_kind left (a.group i.group) a.chains c i.group b owned alone i rest lt next refl pos w h i.kind refl kind there)

first_there : (recs : List RmapRec) (is : List Intent) (i : Intent) (rest : List Intent) → is ≡ i ∷ rest → NextIsThere recs is → IsThere recs i
first_there recs is i rest e n = subst (NextIsThere recs) e n

pub rmap_done_sound : RmapDoneSound
rmap_done_sound a x left c ino g at n b owned alone lt w there row h =
    let i : Intent = row.0 in
    let rest : List Intent = row.1 in
    let is = row.2 in
    let pos : 0 < i.count = let some = is.some in let most = is.count in omega (arith, some, most) in
    let same : i.group ≡ g = is.group in
    let then_ : IsThere (records_in (a.group g) Rmap) i = first_there (records_in (a.group g) Rmap) (a.chains c) i rest is.next there in
    subst (λ (y : State). Sound (ledger_of y g b owned alone)) (sym row.6)
    (subst (λ (z : ℕ). Sound (ledger_of (rmap_done left c i rest a) z b owned alone)) same
    (done_in a left c i rest b owned alone lt is.next pos row.3
    (subst (λ (z : ℕ). IsWritten left (a.group z)) (sym same) w)
    (subst (λ (z : ℕ). IsThere (records_in (a.group z) Rmap) i) (sym same) then_)
    (subst (λ (z : ℕ). Sound (ledger_of a z b owned alone)) (sym same) h)))
