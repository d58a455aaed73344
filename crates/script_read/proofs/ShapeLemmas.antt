-- A text that is a script has sections of rising writers, whose lines rise and are in range.
use Rattle.std.proofs.Common.{◌≡◌, ◌≤◌, ◌<◌, ◌+◌, ℕ, Bool, true, false, List, [], ◌∷◌, ◌++◌, Option, Some, None, Result, Ok, Err, refl, sym, subst, length, arith}
use Rattle.std.proofs.lemmas.Bool.Decides.{nat_tests}
use Rattle.std.specs.Prelude.{◌==◌, ◌||◌, nat_lt, IfSome, IfOk, if◌then◌else◌}
use Rattle.std.specs.List.{list_any}
use Rattle.script_defs.specs.Words.{Text}
use Rattle.script_defs.specs.Operations.{said_of}
use Rattle.script_defs.specs.Shape.{AreParts, IsInRange, IsScript, LinesRise, WritersRise}
use Rattle.script_defs.specs.Texts.{Part, Sheet, all_parts, at_end, blank, by_end, is_begun, is_past, next_line, open_part, put, read_from, then_read, with_byte, with_header, with_op, with_part, with_said}
use Rattle.script_defs.specs.declared.operation.Op.{Op}
use Rattle.script_defs.specs.declared.operation.Said.{Said}
use Rattle.script_defs.specs.declared.operation.Said.TheVariants.{Header, Asks}
use Rattle.script_defs.specs.declared.section.Line.{Line}
use Rattle.script_defs.specs.declared.section.Script.{Script}
use Rattle.script_read.specs.Reading.{IsReading}
use Rattle.script_read.specs.declared.fault.ScriptFault.{ScriptFault}
use Rattle.script_read.proofs.RangeLemmas.{IsSaid, line_known}

-- ---- lines of the open section

-- the lines' numbers rise from a number on, below another
RiseBelow : ℕ → ℕ → List Line → Type 0
RiseBelow least end [] = least ≤ end
RiseBelow least end (l ∷ ls) = (least ≤ l.number) × IsInRange l.op × RiseBelow (l.number + 1) end ls

below_end : (ls : List Line) (least end : ℕ) → RiseBelow least end ls → least ≤ end
unfolding RiseBelow
below_end [] least end h = h
below_end (l ∷ ls) least end h = omega (arith, h.0, below_end ls (l.number + 1) end h.2)

one_behind : (ls : List Line) (least end : ℕ) (op : Op) → RiseBelow least end ls → IsInRange op → RiseBelow least (end + 1) (ls ++ (record { number = end; op = op } ∷ []))
unfolding RiseBelow
one_behind [] least end op h r = (h, r, omega arith)
one_behind (l ∷ ls) least end op h r = (h.0, h.1, one_behind ls (l.number + 1) end op h.2 r)

lines_rise : (ls : List Line) (least end : ℕ) → end ≤ 65537 → RiseBelow least end ls → LinesRise least ls
unfolding RiseBelow
lines_rise [] least end e h = tt
lines_rise (l ∷ ls) least end e h = (h.0, omega (arith, e, below_end ls (l.number + 1) end h.2), h.1, lines_rise ls (l.number + 1) end e h.2)

-- ---- one section more

is_below : (m n : ℕ) → nat_lt m n ≡ true → m + 1 ≤ n
is_below m n h = grind (arith, nat_tests)

is_above : (m n : ℕ) → nat_lt m n ≡ false → (m == n) ≡ false → n + 1 ≤ m
is_above m n h k = grind (arith, nat_tests)

no_first : (a b : Bool) → (a || b) ≡ false → a ≡ false
no_first true b h = h
no_first false b h = refl

no_later : (a b : Bool) → (a || b) ≡ false → b ≡ false
no_later true b h = absurd (cc)
no_later false b h = h

neither : (a b : Bool) → a ≡ false → b ≡ false → (a || b) ≡ false
neither true b h k = h
neither false b h k = k

put_between : (p : Part) (qs : List Part) (least : ℕ) → least ≤ p.writer → p.writer ≤ 16 → LinesRise 1 p.lines → WritersRise least qs → list_any (λ q. q.writer == p.writer) qs ≡ false → WritersRise least (with_part p qs)
unfolding with_part
put_between p [] least h m l w n = (h, m, l, tt)
put_between p (q ∷ qs) least h m l w n = (elim (nat_lt q.writer p.writer) as (λ t. nat_lt q.writer p.writer ≡ t → WritersRise least (if t then q ∷ with_part p qs else p ∷ q ∷ qs)) [
  | true ↦ λ e. (w.0, w.1, w.2, put_between p qs (q.writer + 1) (is_below q.writer p.writer e) m l w.3 (no_later (q.writer == p.writer) _ n))
  | false ↦ λ e. (h, m, l, (is_above q.writer p.writer e (no_first (q.writer == p.writer) _ n), w.1, w.2, w.3))
]) refl

none_behind : (f : Part → Bool) (p : Part) (qs : List Part) → f p ≡ false → list_any f qs ≡ false → list_any f (with_part p qs) ≡ false
unfolding with_part
none_behind f p [] h n = neither (f p) _ h n
none_behind f p (q ∷ qs) h n = elim (nat_lt q.writer p.writer) as (λ t. list_any f (if t then q ∷ with_part p qs else p ∷ q ∷ qs) ≡ false) [
  | true ↦ neither (f q) _ (no_first (f q) _ n) (none_behind f p qs h (no_later (f q) _ n))
  | false ↦ neither (f p) _ h n
]

some_part : (p : Part) (qs : List Part) → 0 < length (with_part p qs)
unfolding with_part
some_part p [] = omega arith
some_part p (q ∷ qs) = elim (nat_lt q.writer p.writer) as (λ t. 0 < length (if t then q ∷ with_part p qs else p ∷ q ∷ qs)) [
  | true ↦ omega arith
  | false ↦ omega arith
]

-- ---- sheets

-- closed sections rise, and the open one is of another writer
record IsSheet (s : Sheet) : Type 0 where
  closed : WritersRise 1 s.closed
  apart : list_any (λ p. p.writer == s.writer) s.closed ≡ false
  writer : s.writer ≤ 16
  lines : RiseBelow 1 s.number s.lines
  number : s.number ≤ 65537

not_none : (w : ℕ) → (w == 0) ≡ false → 1 ≤ w
not_none w h = grind (arith, nat_tests)

closed_rise : (s : Sheet) → IsSheet s → WritersRise 1 (all_parts s)
unfolding all_parts
closed_rise s h = (elim (s.writer == 0) as (λ t. (s.writer == 0) ≡ t → WritersRise 1 (if t then s.closed else with_part (open_part s) s.closed)) [
  | true ↦ λ e. h.closed
  | false ↦ λ e. put_between (open_part s) s.closed 1 (not_none s.writer e) h.writer (lines_rise s.lines 1 s.number h.number h.lines) h.closed h.apart
]) refl

closed_apart : (w : ℕ) (s : Sheet) → is_begun w s ≡ false → list_any (λ p. p.writer == w) (all_parts s) ≡ false
unfolding all_parts is_begun
closed_apart w s h = elim (s.writer == 0) as (λ t. list_any (λ p. p.writer == w) (if t then s.closed else with_part (open_part s) s.closed) ≡ false) [
  | true ↦ no_later (s.writer == w) _ h
  | false ↦ none_behind (λ p. p.writer == w) (open_part s) s.closed (no_first (s.writer == w) _ h) (no_later (s.writer == w) _ h)
]

header_kept : (w : ℕ) (s : Sheet) → IsSheet s → s.number ≤ 65536 → (0 < w) × (w ≤ 16) → IfSome (with_header w s) IsSheet
unfolding RiseBelow
header_kept w s h n r = (elim (is_begun w s) as (λ t. is_begun w s ≡ t → IfSome (if t then None else Some (next_line (record s { closed = all_parts s; writer = w; lines = [] }))) IsSheet) [
  | true ↦ λ e. tt
  | false ↦ λ e. record { closed = closed_rise s h; apart = closed_apart w s e; writer = r.1; lines = omega arith; number = omega (arith, n) }
]) refl

op_kept : (op : Op) (s : Sheet) → IsSheet s → s.number ≤ 65536 → IsInRange op → IfSome (with_op op s) IsSheet
op_kept op s h n r = elim (s.writer == 0) as (λ t. IfSome (if t then None else Some (next_line (record s { lines = s.lines ++ (record { number = s.number; op = op } ∷ []) }))) IsSheet) [
  | true ↦ tt
  | false ↦ record { closed = h.closed; apart = h.apart; writer = h.writer; lines = one_behind s.lines 1 s.number op h.lines r; number = omega (arith, n) }
]

said_kept : (s : Sheet) (x : Option Said) → IsSheet s → s.number ≤ 65536 → IfSome x IsSaid → IfSome (with_said s x) IsSheet
said_kept s None h n r = tt
said_kept s (Some (Header w)) h n r = header_kept w s h n r
said_kept s (Some (Asks op)) h n r = op_kept op s h n r

number_in : (s : Sheet) → is_past s ≡ false → s.number ≤ 65536
unfolding is_past
number_in s h = grind (arith, nat_tests)

put_kept : (b : ℕ) (s : Sheet) → IsSheet s → IfSome (put b s) IsSheet
unfolding put
put_kept b s h = (elim (is_past s) as (λ t. is_past s ≡ t → IfSome (if t then None else (if b == 10 then with_said s (said_of s.text) else Some (with_byte b s))) IsSheet) [
  | true ↦ λ e. tt
  | false ↦ λ e. elim (b == 10) as (λ t. IfSome (if t then with_said s (said_of s.text) else Some (with_byte b s)) IsSheet) [
    | true ↦ said_kept s (said_of s.text) h (number_in s e) (line_known s.text)
    | false ↦ record { closed = h.closed; apart = h.apart; writer = h.writer; lines = h.lines; number = h.number }
  ]
]) refl

-- ---- texts

ends_rightly : (s : Sheet) (t : Text) → IsSheet s → IfOk (by_end s t) AreParts
unfolding all_parts
ends_rightly s [] h = (elim (s.writer == 0) as (λ t. all_parts s ≡ (if t then s.closed else with_part (open_part s) s.closed) → IfOk (if t then Err s.number else Ok (all_parts s)) AreParts) [
  | true ↦ λ e. tt
  | false ↦ λ e. (subst (λ (ps : List Part). 0 < length ps) (sym e) (some_part (open_part s) s.closed), closed_rise s h)
]) refl
ends_rightly s (b ∷ bs) h = tt

then_rightly : (n : ℕ) (go : Sheet → Result (List Part) ℕ) (x : Option Sheet) → IfSome x IsSheet → ((t : Sheet) → IsSheet t → IfOk (go t) AreParts) → IfOk (then_read n go x) AreParts
then_rightly n go None h k = tt
then_rightly n go (Some t) h k = k t h

reads_rightly : (bs : Text) (s : Sheet) → IsSheet s → IfOk (read_from bs s) AreParts
unfolding read_from at_end
reads_rightly [] s h = ends_rightly s s.text h
reads_rightly (b ∷ bs) s h = then_rightly s.number (read_from bs) (put b s) (put_kept b s h) (reads_rightly bs)

-- whatever follows this sheet, what is read of it is in range
abbrev pub ReadsRightly : Sheet → Type 0
ReadsRightly s = (more : Text) → IfOk (read_from more s) AreParts

pub blank_reads : (s : Sheet) → s ≡ blank → ReadsRightly s
unfolding RiseBelow
blank_reads s e = subst ReadsRightly (sym e) (λ more. reads_rightly more blank (record { closed = tt; apart = refl; writer = omega arith; lines = omega arith; number = omega arith }))

pub goes_on : (bytes : Text) (s now : Sheet) → ReadsRightly s → ((more : Text) → read_from (bytes ++ more) s ≡ read_from more now) → ReadsRightly now
goes_on bytes s now h e = λ more. subst (λ r. IfOk r AreParts) (e more) (h (bytes ++ more))

ends : (s : Sheet) → ReadsRightly s → IfOk (at_end s) AreParts
unfolding read_from
ends s h = h []

pub answers_rightly : (answer : Result Script ScriptFault) (s : Sheet) → ReadsRightly s → IsReading answer (at_end s) → IfOk answer IsScript
answers_rightly (Ok script) s h r = subst (λ (x : Result (List Part) ℕ). IfOk x AreParts) r (ends s h)
answers_rightly (Err fault) s h r = tt
