-- A mapped run leaves free space, and a freed one joins it.
use Rattle.std.specs.Prelude.{ℕ, Bool, true, false, List, [], ◌∷◌, ◌≡◌, ◌+◌, ◌<◌, is_some, refl, if◌then◌else◌}
use Rattle.std.proofs.Common.{sym, ap, subst, inl, inr, ◌∙◌, arith, cond}
use Rattle.std.proofs.lemmas.Bool.{eq-eqb, true≢false}
use Rattle.fs_change.specs.Chains.{most_chains}
use Rattle.fs_change.specs.Changes.{data_word, extent_of, freed, give_free, intent, known_spans, mapped, by_count, take_free}
use Rattle.fs_change.specs.Parts.{at_only, change_tree, edit, in_group, is_edited, records_in, with_recs}
use Rattle.fs_change.specs.Records.{by_start, count_at, give_span, holder_of, span, take_span}
use Rattle.fs_model.specs.declared.entry.Extent.{Extent}
use Rattle.fs_model.specs.declared.entry.Piece.{Piece}
use Rattle.fs_state.specs.State.{State, Group, Readable, Reading, Unreadable, is_readable, recs_of}
use Rattle.fs_state.specs.declared.intent.Intent.{Intent}
use Rattle.fs_state.specs.declared.intent.IntentKind.{IntentKind}
use Rattle.fs_state.specs.declared.intent.IntentKind.TheVariants.{RmapAdd, Free}
use Rattle.sblock.specs.declared.kind.Kind.{Kind}
use Rattle.sblock.specs.declared.kind.Kind.TheVariants.{Bno, Cnt, Rmap, Refc}
use Rattle.span_recs.specs.declared.span.SpanRec.{SpanRec}
use Rattle.law_accounts.specs.Account.Accounts.{adds, at_span, covers_at, due, frees, hits, ledger_in, ledger_of, lowers, owes, raises, removes, run_in, spans_at}
use Rattle.law_accounts.specs.Account.Ledger.{Ledger, Sound}
use Rattle.law_accounts.specs.Account.Space.{FreedSound, IsListing, MappedSound}
use Rattle.law_accounts.proofs.Account.Blocks.{carry, free_one, run_taken}
use Rattle.law_accounts.proofs.Account.Free.{given_spans, taken_spans}
use Rattle.law_accounts.proofs.Account.Sums.{came_one, hit_bit, hits_own, left_chain}

-- ---- edits of free space

with_read : (recs : List SpanRec) (r : Reading SpanRec) → is_readable r ≡ true → recs_of (with_recs recs r) ≡ recs
with_read recs (Readable old blocks) h = refl
with_read recs (Unreadable block fault claims) h = absurd (true≢false (sym h))

-- an edit of another index leaves these three
module _ (left : List Kind) (f : List SpanRec → List SpanRec) (p : Group) where
  abbrev by_test : Bool → Group
  by_test t = cond t (change_tree Cnt (λ i. record i { reading = with_recs (f (recs_of i.reading)) i.reading }) p) p

  spans_beside : (t : Bool) → records_in (by_test t) Bno ≡ records_in p Bno
  spans_beside true = refl
  spans_beside false = refl

  maps_beside : (t : Bool) → records_in (by_test t) Rmap ≡ records_in p Rmap
  maps_beside true = refl
  maps_beside false = refl

  counts_beside : (t : Bool) → records_in (by_test t) Refc ≡ records_in p Refc
  counts_beside true = refl
  counts_beside false = refl

module _ (left : List Kind) (f : List SpanRec → List SpanRec) (p : Group) (w : IsListing left p) where
  abbrev changed : Group
  changed = change_tree Bno (λ i. record i { reading = with_recs (f (recs_of i.reading)) i.reading }) p

  edited : edit left Bno f p ≡ changed
  edited = ap (λ t. cond t changed p) w.edited

  new_spans : records_in (edit left Bno f p) Bno ≡ f (records_in p Bno)
  new_spans = ap (λ (q : Group). records_in q Bno) edited ∙ with_read (f (records_in p Bno)) (p.tree Bno).reading w.readable

  old_maps : records_in (edit left Bno f p) Rmap ≡ records_in p Rmap
  old_maps = ap (λ (q : Group). records_in q Rmap) edited

  old_counts : records_in (edit left Bno f p) Refc ≡ records_in p Refc
  old_counts = ap (λ (q : Group). records_in q Refc) edited

module _ (left : List Kind) (e : Extent) (p : Group) (w : IsListing left p) where
  abbrev run : SpanRec
  run = span e.block e.count

  abbrev mid_take : Group
  mid_take = edit left Bno (take_span by_start (records_in p Bno) run) p

  abbrev mid_give : Group
  mid_give = edit left Bno (give_span by_start (records_in p Bno) run) p

  pub take_spans : records_in (take_free left e p) Bno ≡ take_span by_start (records_in p Bno) run (records_in p Bno)
  take_spans = spans_beside left (take_span by_count (known_spans p) run) mid_take (is_edited left mid_take Cnt) ∙ new_spans left (take_span by_start (records_in p Bno) run) p w

  pub take_maps : records_in (take_free left e p) Rmap ≡ records_in p Rmap
  take_maps = maps_beside left (take_span by_count (known_spans p) run) mid_take (is_edited left mid_take Cnt) ∙ old_maps left (take_span by_start (records_in p Bno) run) p w

  pub take_counts : records_in (take_free left e p) Refc ≡ records_in p Refc
  take_counts = counts_beside left (take_span by_count (known_spans p) run) mid_take (is_edited left mid_take Cnt) ∙ old_counts left (take_span by_start (records_in p Bno) run) p w

  pub give_spans : records_in (give_free left e p) Bno ≡ give_span by_start (records_in p Bno) run (records_in p Bno)
  give_spans = spans_beside left (give_span by_count (known_spans p) run) mid_give (is_edited left mid_give Cnt) ∙ new_spans left (give_span by_start (records_in p Bno) run) p w

  pub give_maps : records_in (give_free left e p) Rmap ≡ records_in p Rmap
  give_maps = maps_beside left (give_span by_count (known_spans p) run) mid_give (is_edited left mid_give Cnt) ∙ old_maps left (give_span by_start (records_in p Bno) run) p w

  pub give_counts : records_in (give_free left e p) Refc ≡ records_in p Refc
  give_counts = counts_beside left (give_span by_count (known_spans p) run) mid_give (is_edited left mid_give Cnt) ∙ old_counts left (give_span by_start (records_in p Bno) run) p w

-- ---- a mapped run

keep_one : (x y : ℕ) → x ≡ y + 0 → y ≡ x
keep_one x y e = omega (arith, e)

pub stay : (x y s : ℕ) → x ≡ y + s → s ≡ 0 → y ≡ x
stay x y s e f = omega (arith, e, f)

pub more : (x y s : ℕ) → x ≡ y + s → s ≡ 1 → y + 1 ≡ x
more x y s e f = omega (arith, e, f)

pub none_left : (x y s : ℕ) → x + s ≡ y → s ≡ 0 → y ≡ x
none_left x y s e f = omega (arith, e, f)

pub one_less : (x s y : ℕ) → x + s ≡ y → s ≡ 1 → y ≡ x + 1
one_less x s y e f = omega (arith, e, f)

plus_none : (x s : ℕ) → s ≡ 0 → x ≡ x + s
plus_none x s f = omega (arith, f)

plus_one : (x s : ℕ) → s ≡ 1 → x + 1 ≡ x + s
plus_one x s f = omega (arith, f)

module _ (p : Group) (cs : ℕ → List Intent) (c ino word : ℕ) (e : Extent) (b owned alone : ℕ) (lt : c < most_chains) (empty : cs c ≡ []) (w : IsListing [] p)
    (free : is_some (holder_of (records_in p Bno) (span e.block e.count)) ≡ true) (h : Sound (ledger_in p cs e.group b owned alone)) where
  abbrev now : ℕ → List Intent
  now = at_only c (intent RmapAdd ino word e ∷ []) cs

  abbrev q : Group
  q = take_free [] e p

  news : (f : Intent → ℕ) → due f now ≡ due f cs + f (intent RmapAdd ino word e)
  news f = came_one f cs c (intent RmapAdd ino word e) lt empty

  abbrev l : Ledger
  l = ledger_in p cs e.group b owned alone

  abbrev m : Ledger
  m = ledger_in q now e.group b (owned + hits e.group b e) (alone + hits e.group b e)

  counts : l.count ≡ m.count
  counts = ap (λ rs. count_at rs b) (sym (take_counts [] e p w))

  covers : l.covers ≡ m.covers
  covers = ap (λ rs. covers_at rs b) (sym (take_maps [] e p w))

  spans : m.spans + hits e.group b e ≡ l.spans
  spans =
      ap (λ (n : ℕ). m.spans + n) (hits_own b e)
      ∙ ap (λ rs. spans_at rs b + at_span e.block e.count b) (take_spans [] e p w)
      ∙ taken_spans (records_in p Bno) (span e.block e.count) b w.apart free

  run_is_mapped : Sound m
  run_is_mapped = elim (hit_bit e.group b e) [
    | inl z ↦ carry l m counts (keep_one _ _ (news (owes raises e.group b))) (keep_one _ _ (news (owes removes e.group b))) (keep_one _ _ (news (owes lowers e.group b))) (keep_one _ _ (news (owes frees e.group b)))
        (stay _ _ (hits e.group b e) (news (owes adds e.group b)) z) (none_left m.spans l.spans (hits e.group b e) spans z) covers (plus_none owned (hits e.group b e) z) (plus_none alone (hits e.group b e) z) h
    | inr z ↦ carry (record l { spans = m.spans; comes = l.comes + 1; owned = l.owned + 1; alone = l.alone + 1 }) m counts (keep_one _ _ (news (owes raises e.group b))) (keep_one _ _ (news (owes removes e.group b))) (keep_one _ _ (news (owes lowers e.group b))) (keep_one _ _ (news (owes frees e.group b)))
        (more _ _ (hits e.group b e) (news (owes adds e.group b)) z) refl covers (plus_one owned (hits e.group b e) z) (plus_one alone (hits e.group b e) z)
        (run_taken l h m.spans (one_less m.spans (hits e.group b e) l.spans spans z))
  ]

pub own_group : (g : ℕ) (f : Group → Group) (a : State) → (in_group g f a).group g ≡ f (a.group g)
own_group g f a = ap (λ t. cond t (f (a.group g)) (a.group g)) (eq-eqb g g refl)

mapped_in : (a : State) (m : Piece) (b owned alone : ℕ) → m.chain < most_chains → a.chains m.chain ≡ [] → IsListing [] (a.group m.group) → is_some (holder_of (records_in (a.group m.group) Bno) (span m.block m.count)) ≡ true
    → Sound (ledger_of a m.group b owned alone) → Sound (ledger_of (mapped m a) m.group b (owned + hits m.group b (extent_of m)) (alone + hits m.group b (extent_of m)))
unfolding mapped
mapped_in a m b owned alone lt empty w free h =
    subst (λ (p : Group). Sound (ledger_in p (at_only m.chain (intent RmapAdd m.ino (data_word true m.offset) (extent_of m) ∷ []) a.chains) m.group b (owned + hits m.group b (extent_of m)) (alone + hits m.group b (extent_of m)))) (sym (own_group m.group (take_free [] (extent_of m)) a))
    (run_is_mapped (a.group m.group) a.chains m.chain m.ino (data_word true m.offset) (extent_of m) b owned alone lt empty w free h)

pub mapped_sound : MappedSound
mapped_sound a x left m b owned alone w free row h =
    subst (λ (y : State). Sound (ledger_of y m.group b (owned + hits m.group b (extent_of m)) (alone + hits m.group b (extent_of m)))) (sym row.1)
    (mapped_in a m b owned alone row.0.first.open_chain row.0.first.owes_nothing w free h)

-- ---- a freed run

same_now : (x y : ℕ) → x + 0 ≡ y → y ≡ x
same_now x y e = omega (arith, e)

module _ (left : List Kind) (p : Group) (cs : ℕ → List Intent) (c b owned alone : ℕ) (i : Intent) (rest : List Intent) (lt : c < most_chains) (next : cs c ≡ i ∷ rest) (kind : i.kind ≡ Free) (pos : 0 < i.count) (w : IsListing left p)
    (h : Sound (ledger_in p cs i.group b owned alone)) where
  abbrev later : ℕ → List Intent
  later = at_only c rest cs

  abbrev given : Group
  given = give_free left (run_in i) p

  abbrev before : Ledger
  before = ledger_in p cs i.group b owned alone

  abbrev behind : Ledger
  behind = ledger_in given later i.group b owned alone

  gone : (test : IntentKind → Bool) → due (owes test i.group b) later + owes test i.group b i ≡ due (owes test i.group b) cs
  gone test = left_chain (owes test i.group b) cs c i rest lt next

  still : (test : IntentKind → Bool) → test Free ≡ false → due (owes test i.group b) cs ≡ due (owes test i.group b) later
  still test f = same_now (due (owes test i.group b) later) (due (owes test i.group b) cs) (ap (λ (n : ℕ). due (owes test i.group b) later + n) (sym (ap (λ (t : Bool). if t then hits i.group b (run_in i) else 0) (ap test kind ∙ f))) ∙ gone test)

  is : owes frees i.group b i ≡ hits i.group b (run_in i)
  is = ap (λ (t : Bool). if t then hits i.group b (run_in i) else 0) (ap frees kind)

  counts_same : before.count ≡ behind.count
  counts_same = ap (λ rs. count_at rs b) (sym (give_counts left (run_in i) p w))

  covers_same : before.covers ≡ behind.covers
  covers_same = ap (λ rs. covers_at rs b) (sym (give_maps left (run_in i) p w))

  spans_more : behind.spans ≡ before.spans + hits i.group b (run_in i)
  spans_more =
      ap (λ rs. spans_at rs b) (give_spans left (run_in i) p w)
      ∙ given_spans (records_in p Bno) (span i.block i.count) b w.apart pos
      ∙ ap (λ (n : ℕ). before.spans + n) (sym (hits_own b (run_in i)))

  run_is_freed : Sound behind
  run_is_freed = elim (hit_bit i.group b (run_in i)) [
    | inl z ↦ carry before behind counts_same (still raises refl) (still removes refl) (still lowers refl) (same_now behind.frees before.frees (ap (λ (n : ℕ). behind.frees + n) (sym (is ∙ z)) ∙ gone frees)) (still adds refl)
        (stay behind.spans before.spans (hits i.group b (run_in i)) spans_more z) covers_same refl refl h
    | inr z ↦
        let fewer : before.frees ≡ behind.frees + 1 = one_less behind.frees (owes frees i.group b i) before.frees (gone frees) (is ∙ z) in
        let f = free_one before h (omega (arith, fewer)) in
        let once : before.frees ≡ 1 = f.2 in
        let none : before.spans ≡ 0 = f.3 in
        let extra : before.spans + 1 ≡ behind.spans = more behind.spans before.spans (hits i.group b (run_in i)) spans_more z in
        carry (record before { frees = 0; spans = 1 }) behind counts_same (still raises refl) (still removes refl) (still lowers refl) (omega (arith, fewer, once)) (still adds refl) (omega (arith, extra, none)) covers_same refl refl f.4
  ]

freed_in : (a : State) (left : List Kind) (c : ℕ) (i : Intent) (rest : List Intent) (b owned alone : ℕ) → c < most_chains → a.chains c ≡ i ∷ rest → i.kind ≡ Free → 0 < i.count → IsListing left (a.group i.group)
    → Sound (ledger_of a i.group b owned alone) → Sound (ledger_of (freed left c false (run_in i) rest a) i.group b owned alone)
unfolding freed
freed_in a left c i rest b owned alone lt next kind pos w h =
    subst (λ (p : Group). Sound (ledger_in p (at_only c rest a.chains) i.group b owned alone)) (sym (own_group i.group (give_free left (run_in i)) a))
    (run_is_freed left (a.group i.group) a.chains c b owned alone i rest lt next kind pos w h)

pub freed_sound : FreedSound
freed_sound a x left c g at n b owned alone lt w row h =
    let i : Intent = row.0 in
    let is = row.2 in
    let pos : 0 < i.count = let some = is.some in let most = is.count in omega (arith, some, most) in
    let same : i.group ≡ g = is.group in
    let run : run_in i ≡ record { group = g; block = at; count = n } = λ t. record { group = same t; block = is.block t; count = row.4 t } in
    subst (λ (y : State). Sound (ledger_of y g b owned alone)) (sym row.6)
    (subst (λ (e : Extent). Sound (ledger_of (freed left c false e row.1 a) g b owned alone)) run
    (subst (λ (z : ℕ). Sound (ledger_of (freed left c false (run_in i) row.1 a) z b owned alone)) same
    (freed_in a left c i row.1 b owned alone lt is.next row.3 pos (subst (λ (z : ℕ). IsListing left (a.group z)) (sym same) w)
    (subst (λ (z : ℕ). Sound (ledger_of a z b owned alone)) (sym same) h))))
