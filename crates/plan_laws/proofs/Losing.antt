-- The lost blocks of a switch lie in the runs.
use Rattle.std.proofs.Common.{◌≡◌, ℕ, zero, suc, ◌+◌, ◌<◌, ◌≤◌, Bool, true, false, not, ◌&&◌, ◌||◌, ◌==◌, List, [], ◌∷◌, ◌++◌, filter, refl, ap, sym, ◌∙◌, inl, inr, arith}
use Rattle.std.specs.Prelude.{◌⊎◌, nat_le, if◌then◌else◌}
use Rattle.std.proofs.lemmas.List.{append-nil}
use Rattle.std.proofs.lemmas.List.Folds.{list_any-append}
use Rattle.std.specs.List.{list_any}
use Rattle.std.proofs.lemmas.Bool.{cases_lt, eq-eqb, ne_eqb, lt-ltb, le-ltb}
use Rattle.fs_change.specs.Parts.{records_in}
use Rattle.fs_change.specs.Switch.{gives_to, lost_blocks, readable_blocks, unclaimed, unit_owner, without_trees}
use Rattle.fs_state.specs.Claims.{claims}
use Rattle.fs_state.specs.Derive.{mappings}
use Rattle.fs_state.specs.Lists.{numbers}
use Rattle.fs_model.specs.declared.unit.Unit.{Unit as ScrubUnit}
use Rattle.fs_model.specs.declared.unit.Unit.TheVariants as units
use Rattle.fs_state.specs.Apart.{is_free, listed_free}
use Rattle.fs_model.specs.declared.claim.Claim.{Claim}
use Rattle.fs_model.specs.declared.claim.Claim.TheVariants.{Heads, Log, List as FreeList, Tree, Reserve, Limbo, Chunk, Data, Attr, ForkTree, Staging}
use Rattle.fs_state.specs.State.{State, Reading, Readable, Unreadable, blocks_of, is_readable}
use Rattle.geom.specs.Layout.{group_len_of}
use Rattle.run_sets.specs.Runs.{holds, is_within, AreRunsBelow}
use Rattle.run_sets.specs.declared.run.Run.{Run}
use Rattle.sblock.specs.declared.kind.Kind.{Kind}
use Rattle.sblock.specs.declared.kind.Kind.TheVariants.{Bno, Cnt, Rmap, Refc, Ino, Fino}
use Rattle.span_recs.specs.declared.span.SpanRec.{SpanRec}
use Rattle.unit_plan.specs.Laws.{is_in}
use Rattle.unit_plan.specs.Lost.{is_given, is_of_old, is_read, is_read_kind, is_unclaimed, is_unlisted}
use Rattle.unit_plan.specs.Sets.{LieBelow}
use Rattle.unit_plan.specs.Spare.{is_listed}
use Rattle.unit_plan.specs.declared.piece.Piece.{Piece}
use Rattle.plan_laws.specs.Losing.{HoldLost, LostNothing, LostOld, LostUnclaimed, LostUnlisted, StillClaim}

-- ---- numbers that pass a test

abbrev among : (ℕ → Bool) → ℕ → ℕ → ℕ → Bool
among p a n b = list_any (λ x. x == b) (filter p (numbers a n))

step : (p : ℕ → Bool) (a n b : ℕ) → among p a (suc n) b ≡ ((p a && (a == b)) || among p (a + 1) n b)
step p a n b = elim (p a) as (λ t. list_any (λ x. x == b) (if t then a ∷ filter p (numbers (a + 1) n) else filter p (numbers (a + 1) n)) ≡ ((t && (a == b)) || among p (a + 1) n b)) [
  | true ↦ refl
  | false ↦ refl
]

none : (x : Bool) → (x && false) ≡ false
none true = refl
none false = refl

beyond : (p : ℕ → Bool) (a n b : ℕ) → (b < a) ⊎ (a + n ≤ b) → among p a n b ≡ false
beyond p a zero b out = refl
beyond p a (suc n) b out =
    let other : (a == b) ≡ false = ne_eqb a b (λ e. elim out [ inl low ↦ absurd (omega (arith, low, e)) | inr high ↦ absurd (omega (arith, high, e)) ]) in
    let rest : among p (a + 1) n b ≡ false = beyond p (a + 1) n b (elim out [ inl low ↦ inl (omega (arith, low)) | inr high ↦ inr (omega (arith, high)) ]) in
    step p a n b ∙ ap (λ (t : Bool). (p a && t) || among p (a + 1) n b) other ∙ ap (λ (t : Bool). t || among p (a + 1) n b) (none (p a)) ∙ rest

or_none : (x : Bool) → (x || false) ≡ x
or_none true = refl
or_none false = refl

and_all : (x : Bool) → (x && true) ≡ x
and_all true = refl
and_all false = refl

within : (p : ℕ → Bool) (a n b : ℕ) → a ≤ b → b < a + n → among p a n b ≡ p b
within p a zero b low high = absurd (omega (arith, low, high))
within p a (suc n) b low high = elim (cases_lt a b) [
  | inl later ↦
      let other : (a == b) ≡ false = ne_eqb a b (λ e. omega (arith, later, e)) in
      step p a n b ∙ ap (λ (t : Bool). (p a && t) || among p (a + 1) n b) other ∙ ap (λ (t : Bool). t || among p (a + 1) n b) (none (p a)) ∙ within p (a + 1) n b (omega (arith, later)) (omega (arith, high))
  | inr now ↦
      let same : a ≡ b = omega (arith, now, low) in
      let here : (a == b) ≡ true = eq-eqb a b same in
      step p a n b ∙ ap (λ (t : Bool). (p a && t) || among p (a + 1) n b) here ∙ ap (λ (t : Bool). t || among p (a + 1) n b) (and_all (p a))
      ∙ ap (λ (t : Bool). p a || t) (beyond p (a + 1) n b (inl (omega (arith, same)))) ∙ or_none (p a) ∙ ap p same
]

-- runs of the blocks below a length that pass, and the list of those that pass
listed : (p q : ℕ → Bool) (len : ℕ) (runs : List Run) → ((b : ℕ) → p b ≡ q b) → AreRunsBelow p len runs → (b : ℕ) → holds runs b ≡ list_any (λ x. x == b) (filter q (numbers 0 len))
listed p q len runs same are b = elim (cases_lt b len) [
  | inl low ↦ are.exact b ∙ ap (λ (t : Bool). t && p b) (lt-ltb b len low) ∙ same b ∙ sym (within q 0 len b (omega arith) (omega (arith, low)))
  | inr high ↦ are.exact b ∙ ap (λ (t : Bool). t && p b) (le-ltb b len high) ∙ sym (beyond q 0 len b (inr (omega (arith, high))))
]

-- ---- of each unit

same_free : (recs : List SpanRec) (b : ℕ) → is_listed recs b ≡ is_free recs b
unfolding is_free
same_free recs b = refl

abbrev of_mappings : State → ℕ → List ℕ
of_mappings a g = unclaimed a g units.Rmap (λ b. not (is_free (records_in (a.group g) Bno) b))

rmap_lost : (a : State) (g : ℕ) → is_readable ((a.group g).tree Bno).reading ≡ true → lost_blocks a g units.Rmap ≡ of_mappings a g
unfolding lost_blocks
rmap_lost a g readable = ap (λ (t : Bool). if t then of_mappings a g else []) readable

pub lost_nothing_lem : LostNothing
unfolding lost_blocks
lost_nothing_lem a g unreadable = ap (λ (t : Bool). if t then of_mappings a g else []) unreadable

pub lost_unlisted_lem : LostUnlisted
lost_unlisted_lem a g ps runs readable still are b =
    listed (is_unlisted (listed_free a g) ps) (λ x. not (is_free (records_in (a.group g) Bno) x) && not (is_in (claims (without_trees a g units.Rmap) g) x)) (group_len_of a.geometry g) runs
    (λ x i. not (same_free (listed_free a g) x i) && not (still x i)) are b
    ∙ ap (λ (xs : List ℕ). list_any (λ x. x == b) xs) (sym (rmap_lost a g readable))

abbrev of_owner : State → ℕ → ScrubUnit → List ℕ
of_owner a g unit = unclaimed a g unit (gives_to (unit_owner unit) (records_in (a.group g) Rmap))

hold_owned : (unit : ScrubUnit) (a : State) (g : ℕ) (ps : List Piece) (runs : List Run) → StillClaim a g unit ps → AreRunsBelow (is_unclaimed unit (unit_owner unit) (mappings a g) ps) (group_len_of a.geometry g) runs
    → lost_blocks a g unit ≡ of_owner a g unit → HoldLost a g unit runs
hold_owned unit a g ps runs still are is b =
    listed (is_unclaimed unit (unit_owner unit) (mappings a g) ps) (λ x. gives_to (unit_owner unit) (records_in (a.group g) Rmap) x && not (is_in (claims (without_trees a g unit) g) x)) (group_len_of a.geometry g) runs
    (λ x i. is_given (unit_owner unit) (mappings a g) x && not (still x i)) are b
    ∙ ap (λ (xs : List ℕ). list_any (λ x. x == b) xs) (sym is)

free_lost : (a : State) (g : ℕ) → lost_blocks a g units.Free ≡ of_owner a g units.Free
unfolding lost_blocks
free_lost a g = refl

refc_lost : (a : State) (g : ℕ) → lost_blocks a g units.Refc ≡ of_owner a g units.Refc
unfolding lost_blocks
refc_lost a g = refl

pub lost_free_lem : LostUnclaimed units.Free
lost_free_lem a g ps runs still are = hold_owned units.Free a g ps runs still are (free_lost a g)

pub lost_refc_lem : LostUnclaimed units.Refc
lost_refc_lem a g ps runs still are = hold_owned units.Refc a g ps runs still are (refc_lost a g)

-- ---- of inodes

neither : (x y : Bool) → false ≡ ((x && false) || (y && false))
neither true true = refl
neither true false = refl
neither false true = refl
neither false false = refl

first : (x y : Bool) → x ≡ ((x && true) || (y && false))
first true y = refl
first false true = refl
first false false = refl

second : (x y : Bool) → y ≡ ((x && false) || (y && true))
second true true = refl
second true false = refl
second false true = refl
second false false = refl

mixed : (x y s t w m n : Bool) → ((((x && s) || (y && t)) && w) || ((x && m) || (y && n))) ≡ ((x && ((s && w) || m)) || (y && ((t && w) || n)))
mixed true true true true true m n = refl
mixed true true true true false m n = refl
mixed true true true false true m n = refl
mixed true true true false false m n = refl
mixed true true false true true true n = refl
mixed true true false true true false n = refl
mixed true true false true false m n = refl
mixed true true false false w m n = refl
mixed true false true t true m n = refl
mixed true false true t false m n = refl
mixed true false false t w m n = refl
mixed false true s true w m n = refl
mixed false true s false w m n = refl
mixed false false s t w m n = refl

-- blocks of the two btrees, each where it could be read
both_old : (ino fino : Bool) (ps : List Piece) (b : ℕ) → is_of_old ino fino ps b ≡ ((ino && is_of_old true false ps b) || (fino && is_of_old false true ps b))
both_old ino fino [] b = neither ino fino
both_old ino fino (p ∷ ps) b =
    (λ i. of_claim p.claim i && is_within b p.run || both_old ino fino ps b i)
    ∙ mixed ino fino (is_read true false p.claim) (is_read false true p.claim) (is_within b p.run) (is_of_old true false ps b) (is_of_old false true ps b)
  where
    of_kind : (k : Kind) → is_read_kind ino fino k ≡ ((ino && is_read_kind true false k) || (fino && is_read_kind false true k))
    of_kind Bno = neither ino fino
    of_kind Cnt = neither ino fino
    of_kind Rmap = neither ino fino
    of_kind Refc = neither ino fino
    of_kind Ino = first ino fino
    of_kind Fino = second ino fino

    of_claim : (c : Claim) → is_read ino fino c ≡ ((ino && is_read true false c) || (fino && is_read false true c))
    of_claim (Tree kind) = of_kind kind
    of_claim Heads = neither ino fino
    of_claim Log = neither ino fino
    of_claim FreeList = neither ino fino
    of_claim Reserve = neither ino fino
    of_claim Limbo = neither ino fino
    of_claim Chunk = neither ino fino
    of_claim (Data n) = neither ino fino
    of_claim (Attr n) = neither ino fino
    of_claim (ForkTree n) = neither ino fino
    of_claim Staging = neither ino fino

in_readable : {R : Type 0} (r : Reading R) (b : ℕ) → (is_readable r && list_any (λ x. x == b) (blocks_of r)) ≡ list_any (λ x. x == b) (readable_blocks r)
in_readable (Readable recs blocks) b = refl
in_readable (Unreadable block fault claims) b = refl

past_all : (len : ℕ) (ino fino : Bool) (ps : List Piece) (b : ℕ) → LieBelow len ps → len ≤ b → is_of_old ino fino ps b ≡ false
past_all len ino fino [] b below le = refl
past_all len ino fino (p ∷ ps) b below le =
    let end = below.0 in
    let out : is_within b p.run ≡ false = behind p.run end in
    (λ i. is_read ino fino p.claim && out i || past_all len ino fino ps b below.1 le i) ∙ ap (λ (t : Bool). t || false) (none (is_read ino fino p.claim))
  where
    behind : (r : Run) → r.start + r.count ≤ len → is_within b r ≡ false
    behind r end = ap (λ (t : Bool). nat_le r.start b && t) (le-ltb b (r.start + r.count) (omega (arith, end, le))) ∙ none (nat_le r.start b)

pub lost_old_lem : LostOld
unfolding lost_blocks
lost_old_lem a g ino fino ps runs old below are b =
    whole ∙ (both_old ino fino ps b ∙ ((λ i. (old.first i && old.blocks b i) || (old.second i && old.others b i)) ∙ ((λ i. in_readable ((a.group g).tree Ino).reading b i || in_readable ((a.group g).tree Fino).reading b i) ∙ sym joined)))
  where
    whole : holds runs b ≡ is_of_old ino fino ps b
    whole = elim (cases_lt b (group_len_of a.geometry g)) [
      | inl low ↦ are.exact b ∙ ap (λ (t : Bool). t && is_of_old ino fino ps b) (lt-ltb b (group_len_of a.geometry g) low)
      | inr high ↦ are.exact b ∙ (ap (λ (t : Bool). t && is_of_old ino fino ps b) (le-ltb b (group_len_of a.geometry g) high) ∙ sym (past_all (group_len_of a.geometry g) ino fino ps b below high))
    ]

    joined : list_any (λ x. x == b) (readable_blocks ((a.group g).tree Ino).reading ++ (readable_blocks ((a.group g).tree Fino).reading ++ [])) ≡ (list_any (λ x. x == b) (readable_blocks ((a.group g).tree Ino).reading) || list_any (λ x. x == b) (readable_blocks ((a.group g).tree Fino).reading))
    joined =
        list_any-append (λ x. x == b) (readable_blocks ((a.group g).tree Ino).reading) (readable_blocks ((a.group g).tree Fino).reading ++ [])
        ∙ ap (λ (xs : List ℕ). list_any (λ x. x == b) (readable_blocks ((a.group g).tree Ino).reading) || list_any (λ x. x == b) xs) (append-nil (readable_blocks ((a.group g).tree Fino).reading))
