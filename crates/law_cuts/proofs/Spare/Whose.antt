-- A spare block: whose it was, and that it is of no chunk.
use Rattle.std.proofs.Common.{◌≡◌, ℕ, ◌+◌, ◌*◌, ◌^◌, ◌<◌, ◌≤◌, ◌==◌, ◌&&◌, ◌||◌, Bool, true, false, not, nat_lt, List, [], ◌∷◌, ◌++◌, filter, map, Contains, Some, refl, sym, ap, ap₂, ◌∙◌, arith, eqb-true, eq-eqb}
use Rattle.std.specs.Prelude.{◌-◌, ◌/◌, if◌then◌else◌}
use Rattle.std.specs.List.{list_any}
use Rattle.std.proofs.lemmas.Bool.{and_parts, false≢true, true≢false}
use Rattle.std.proofs.lemmas.Bool.Decides.{nat_tests}
use Rattle.law_accounts.proofs.Account.Spans.{no_true, span_out}
use Rattle.law_accounts.specs.Account.Accounts.{covers_at, in_span, spans_at}
use Rattle.law_accounts.specs.Account.Ledger.{Ledger, Sound}
use Rattle.law_accounts.specs.Account.Stated.{ledger_at}
use Rattle.law_writers.proofs.Change.Members.{any_filter, any_map, found, found_below, hasc, hasc_any, hasc_both, hasc_flat, which_below}
use Rattle.derive_defs.specs.Mappings.{covers}
use Rattle.fs_change.proofs.Sets.{has_set, of_has, same_is, same_self}
use Rattle.fs_change.proofs.Settled.{in_settled}
use Rattle.fs_change.specs.Chains.{owed_gifts, owed_takings, settled_forks, settled_own}
use Rattle.fs_change.specs.Changes.{block_extent}
use Rattle.fs_change.specs.Choice.{has_claim, in_spans, is_guarded, is_spare, is_unowned, none_sick, space_kinds, spare_block}
use Rattle.fs_change.specs.Laws.{fork_owners}
use Rattle.fs_change.specs.Parts.{records_in, sick_in}
use Rattle.fs_state.specs.Chunks.{chunks}
use Rattle.fs_state.specs.Claims.{Claimed, claimed_by, claims, fork_claims, log_claims, metadata_claims}
use Rattle.fs_state.specs.Derive.{mappings}
use Rattle.fs_state.specs.Lists.{numbers}
use Rattle.fs_state.specs.Own.{own, tuple_of}
use Rattle.fs_model.specs.declared.claim.Claim.TheVariants.{Chunk, Heads}
use Rattle.fs_model.specs.declared.unit.Unit.{Unit as ScrubUnit}
use Rattle.fs_model.specs.declared.unit.Unit.TheVariants as units
use Rattle.fs_state.specs.Apart.{has_unit, ino_lists, is_chunk, is_free, is_listed, rmap_lists, unit_verifies}
use Rattle.fs_state.specs.State.{Readable, Reading, State, Unreadable, is_readable, recs_of}
use Rattle.geom.specs.Apart.{HasFitting}
use Rattle.geom.specs.Layout.{group_len_of}
use Rattle.law_repairs.proofs.Move.Claiming.{metadata_is, owner_plain}
use Rattle.law_accounts.proofs.Owner.Members.{has_metadata, settled_is}
use Rattle.law_accounts.specs.Owner.Nobodys.{IsNobodys}
use Rattle.law_accounts.specs.Owner.Told.{AreTold}
use Rattle.law_repairs.proofs.Repair.Totals.{chunk_part, front_part, has_weight, is_owner, limbo_weight, weigh}
use Rattle.fs_change.specs.Loose.{owners_in}
use Rattle.rmap_recs.proofs.RisingLemmas.{any_here, found_by_find, nothing_in}
use Rattle.rmap_recs.specs.Owners.{number_of}
use Rattle.rmap_recs.specs.Runs.{AreRuns, has, is_same}
use Rattle.rmap_recs.specs.declared.owner.Owner.TheVariants.{Fs, Inodes}
use Rattle.rmap_recs.specs.declared.records.RmapRec.{RmapRec}
use Rattle.rmap_recs.specs.declared.tuples.Tuple.{Tuple}
use Rattle.sblock.specs.declared.kind.Kind.TheVariants.{Bno, Rmap}
use Rattle.span_recs.specs.declared.span.SpanRec.{SpanRec}
use Rattle.law_cuts.specs.Spare.Cut.{ToldWritten}
use Rattle.law_cuts.specs.Spare.Spare.{OwesNoTaking}

-- a tuple of a block that stands in its run of one
one_block : (b k : ℕ) → in_span b 1 k ≡ true → k ≡ b
one_block b k h = let o = span_out b 1 k h in let low = o.0 in let high = o.1 in omega (arith, low, high)

-- ---- one that no mapping covers

pub no_owner : (ts : List Tuple) (recs : List RmapRec) (b : ℕ) → AreRuns ts recs → list_any (covers b) recs ≡ false → (t : Tuple) → has ts t ≡ true → in_span b 1 t.block ≡ false
no_owner ts recs b runs none t h = no_true (in_span b 1 t.block) (λ is.
    let hit = runs.all t (of_has ts t h) in
    let r : RmapRec = hit.0 in
    let at : r.start + hit.1 ≡ b = ap (λ (u : Tuple). u.block) hit.4 ∙ one_block b t.block is in
    let below = hit.3 in
    true≢false (sym (any_here (covers b) recs r hit.2 (is_covered r b (omega (arith, at)) (omega (arith, at, below)))) ∙ none))
  where
    is_covered : (r : RmapRec) (b : ℕ) → r.start ≤ b → b < r.start + r.count → covers b r ≡ true
    is_covered r b low high = grind (arith, nat_tests)

-- ---- one that nothing claims

claimed_block : (cs : List Claimed) (t : Tuple) (b : ℕ) → has (map tuple_of cs) t ≡ true → t.block ≡ b → has_claim cs b ≡ true
claimed_block [] t b h at = absurd (false≢true h)
claimed_block (c ∷ cs) t b h at = by (is_same t (tuple_of c)) refl h (λ k. claimed_block cs t b k at)
  where
    or_right : (x y : Bool) → y ≡ true → (x || y) ≡ true
    or_right true y e = refl
    or_right false y e = e

    by : (s : Bool) → is_same t (tuple_of c) ≡ s → (s || has (map tuple_of cs) t) ≡ true → (has (map tuple_of cs) t ≡ true → has_claim cs b ≡ true) → ((c.block == b) || has_claim cs b) ≡ true
    by true e k more = ap (λ (z : Bool). z || has_claim cs b) (eq-eqb c.block b (ap (λ (u : Tuple). u.block) (sym (same_is t (tuple_of c) e)) ∙ at))
    by false e k more = or_right (c.block == b) (has_claim cs b) (more k)

last_false : (p q r s : Bool) → (p && q && r && not s) ≡ true → s ≡ false
last_false true true true true h = absurd (false≢true h)
last_false p q r false h = refl
last_false true true false true h = absurd (false≢true h)
last_false true false r true h = absurd (false≢true h)
last_false false q r true h = absurd (false≢true h)

pub row_unclaimed : (a : State) (g b : ℕ) → is_spare a g units.Rmap b ≡ true → has_claim (claims a g) b ≡ false
unfolding is_spare
row_unclaimed a g b h = last_false (is_readable ((a.group g).tree Bno).reading) (not (sick_in (a.group g) Bno)) (in_spans (records_in (a.group g) Bno) b) (has_claim (claims a g) b) h

no_claim : (a : State) (g b : ℕ) → has_claim (claims a g) b ≡ false → (t : Tuple) → t.block ≡ b → hasc (claims a g) t ≡ false
no_claim a g b none t at = no_true (hasc (claims a g) t) (λ h. true≢false (sym (claimed_block (claims a g) t b h at) ∙ none))

own_claims : (a : State) (g : ℕ) (t : Tuple) → has (own a g) t ≡ hasc (claims a g) t
unfolding own
own_claims a g t = has_set (map tuple_of (claims a g)) t

pub unowned : (a : State) (g b : ℕ) → has_claim (claims a g) b ≡ false → (t : Tuple) → has (own a g) t ≡ true → (t.block == b) ≡ false
unowned a g b none t h = no_true (t.block == b) (λ e. true≢false (sym h ∙ own_claims a g t ∙ no_claim a g b none t (eqb-true t.block b e)))

either_false : (x y : Bool) → (x || y) ≡ false → (x ≡ false) × (y ≡ false)
either_false true y h = absurd (true≢false h)
either_false false y h = (refl, h)

two_parts : (a : State) (g : ℕ) → claims a g ≡ metadata_claims a g ++ fork_claims a g
unfolding claims
two_parts a g = refl

-- neither metadata nor a fork
pub unclaimed_parts : (a : State) (g b : ℕ) → has_claim (claims a g) b ≡ false → (t : Tuple) → t.block ≡ b → (has_metadata a g t ≡ false) × (has (fork_owners a g) t ≡ false)
unclaimed_parts a g b none t at =
    either_false (has_metadata a g t) (has (fork_owners a g) t)
    (sym (hasc_both (metadata_claims a g) (fork_claims a g) t) ∙ ap (λ (cs : List Claimed). hasc cs t) (sym (two_parts a g)) ∙ no_claim a g b none t at)

settled_by_forks : (a : State) (g : ℕ) (t : Tuple) → has (settled_forks a g) t ≡ ((has (fork_owners a g) t && not (has (owed_gifts a g) t)) || has (owed_takings a g) t)
unfolding settled_forks
settled_by_forks a g t = has_set (filter (λ u. not (has (owed_gifts a g) u)) (fork_owners a g) ++ owed_takings a g) t ∙ in_settled (owed_gifts a g) (owed_takings a g) (fork_owners a g) t

pub unclaimed_nobodys : (a : State) (g b : ℕ) → has_claim (claims a g) b ≡ false → OwesNoTaking a g b → IsNobodys a (block_extent g b)
unclaimed_nobodys a g b none owes t h = no_true (in_span b 1 t.block) (λ is.
    let at : t.block ≡ b = one_block b t.block is in
    let parts = unclaimed_parts a g b none t at in
    let taking : has (owed_takings a g) t ≡ false = no_true (has (owed_takings a g) t) (λ k. true≢false (sym (eq-eqb t.block b at) ∙ owes t k)) in
    true≢false
    (sym h ∙ settled_is a g t ∙ ap₂ (λ (y z : Bool). y || z) parts.0 (settled_by_forks a g t ∙ ap₂ (λ (y z : Bool). (y && not (has (owed_gifts a g) t)) || z) parts.1 taking)))

-- ---- one that free space lists, and that is sound

row_listed : (a : State) (g b : ℕ) → is_spare a g units.Rmap b ≡ true → in_spans (records_in (a.group g) Bno) b ≡ true
unfolding is_spare
row_listed a g b h = third (is_readable ((a.group g).tree Bno).reading) (not (sick_in (a.group g) Bno)) (in_spans (records_in (a.group g) Bno) b) (not (has_claim (claims a g) b)) h
  where
    third : (p q r s : Bool) → (p && q && r && s) ≡ true → r ≡ true
    third true true true s h = refl
    third true true false s h = absurd (false≢true h)
    third true false r s h = absurd (false≢true h)
    third false q r s h = absurd (false≢true h)

listed_once : (rs : List SpanRec) (b : ℕ) → is_free rs b ≡ true → 1 ≤ spans_at rs b
unfolding is_free
listed_once [] b h = absurd (false≢true h)
listed_once (r ∷ rs) b h = by (in_span r.start r.count b) h (listed_once rs b)
  where
    by : (t : Bool) → (t || is_free rs b) ≡ true → (is_free rs b ≡ true → 1 ≤ spans_at rs b) → 1 ≤ (if t then 1 else 0) + spans_at rs b
    by true k more = omega arith
    by false k more = let l = more k in omega (arith, l)

uncovered : (rs : List RmapRec) (b : ℕ) → covers_at rs b ≡ 0 → list_any (covers b) rs ≡ false
uncovered [] b h = refl
uncovered (r ∷ rs) b h = by (in_span r.start r.count b) h (uncovered rs b)
  where
    by : (t : Bool) → (if t then 1 else 0) + covers_at rs b ≡ 0 → (covers_at rs b ≡ 0 → list_any (covers b) rs ≡ false) → (t || list_any (covers b) rs) ≡ false
    by true e more = absurd (omega (arith, e))
    by false e more = more (omega (arith, e))

-- no mapping covers it
pub sound_uncovered : (a : State) (g b : ℕ) → is_spare a g units.Rmap b ≡ true → Sound (ledger_at a g b) → list_any (covers b) (mappings a g) ≡ false
sound_uncovered a g b h s =
    let listed = listed_once (records_in (a.group g) Bno) b (row_listed a g b h) in
    let l : Ledger = ledger_at a g b in
    let loose = s.loose (some l.spans l.frees listed) in
    uncovered (mappings a g) b (none l.covers l.comes l.owned l.goes l.less s.owns loose.0 loose.1 s.falls)
  where
    some : (m n : ℕ) → 1 ≤ m → 1 ≤ m + n
    some m n l = omega (arith, l)

    none : (c d o g l : ℕ) → c + d ≡ o + g → o ≡ 0 → l ≡ 0 → g ≤ l → c ≡ 0
    none c d o g l e f h i = omega (arith, e, f, h, i)

-- a taking that is owed is a settled owner
pub owed_settled : (a : State) (g : ℕ) (t : Tuple) → has (owed_takings a g) t ≡ true → has (settled_own a g) t ≡ true
owed_settled a g t h =
    settled_is a g t ∙ ap (λ (y : Bool). has_metadata a g t || y) (settled_by_forks a g t ∙ ap (λ (y : Bool). (has (fork_owners a g) t && not (has (owed_gifts a g) t)) || y) h ∙ last (has (fork_owners a g) t && not (has (owed_gifts a g) t)))
    ∙ last (has_metadata a g t)
  where
    last : (y : Bool) → (y || true) ≡ true
    last true = refl
    last false = refl

-- ---- no chunk has a block that no metadata has

abbrev chunk_tuple : ℕ → Tuple
chunk_tuple b = record { block = b; owner = number_of Inodes; word = 0 }

abbrev unit_claims : ℕ → List Claimed
unit_claims u = map (claimed_by Chunk (number_of Inodes)) (numbers (8 * u) 8)

unit_has : (b : ℕ) → hasc (unit_claims (b / 8)) (chunk_tuple b) ≡ true
unit_has b =
    hasc_any (unit_claims (b / 8)) (chunk_tuple b)
    ∙ any_map (λ c. is_same (chunk_tuple b) (tuple_of c)) (claimed_by Chunk (number_of Inodes)) (numbers (8 * (b / 8)) 8)
    ∙ found (λ k. is_same (chunk_tuple b) (chunk_tuple k)) (8 * (b / 8)) 8 b (omega arith) (omega arith) (same_self (chunk_tuple b))

lies_inside : (a : State) (g u : ℕ) → is_chunk a g u ≡ true → u < group_len_of a.geometry g / 8
unfolding is_chunk is_listed has_unit
lies_inside a g u is =
    let listed = and_parts (is_listed a g u) (unit_verifies a.geometry a.core g u) is in
    let unit = and_parts (has_unit a.geometry g u) (ino_lists a g u || rmap_lists a g u) listed.0 in
    eighth u (group_len_of a.geometry g) (and_parts (nat_lt g a.geometry.agcount) (nat_lt (8 * u + 7) (group_len_of a.geometry g)) unit.0).1
  where
    room : (m n : ℕ) → nat_lt m n ≡ true → m < n
    room m n h = grind (arith, nat_tests)

    eighth : (u len : ℕ) → nat_lt (8 * u + 7) len ≡ true → u < len / 8
    eighth u len h = let l = room (8 * u + 7) len h in omega (arith, l)

chunks_have : (a : State) (g b : ℕ) → is_chunk a g (b / 8) ≡ true → hasc (chunk_part (chunks a g)) (chunk_tuple b) ≡ true
unfolding chunks
chunks_have a g b is =
    hasc_flat unit_claims (chunks a g) (chunk_tuple b)
    ∙ any_filter (λ u. hasc (unit_claims u) (chunk_tuple b)) (is_chunk a g) (numbers 0 (group_len_of a.geometry g / 8))
    ∙ found_below (λ u. is_chunk a g u && hasc (unit_claims u) (chunk_tuple b)) (group_len_of a.geometry g / 8) (b / 8) (lies_inside a g (b / 8) is)
    (ap₂ (λ (x y : Bool). x && y) is (unit_has b))

pub no_chunk : (a : State) (g b : ℕ) → ((t : Tuple) → t.block ≡ b → has_metadata a g t ≡ false) → is_chunk a g (b / 8) ≡ false
no_chunk a g b none = no_true (is_chunk a g (b / 8)) (λ is.
    let t : Tuple = chunk_tuple b in
    let some : nat_lt 0 (weigh (is_owner t) (chunk_part (chunks a g))) ≡ true = sym (has_weight (chunk_part (chunks a g)) t) ∙ chunks_have a g b is in
    let all : has_metadata a g t ≡ true =
    has_weight (metadata_claims a g) t ∙ ap (nat_lt 0) (metadata_is (is_owner t) (owner_plain t) a g)
    ∙ more (weigh (is_owner t) (front_part a.geometry g)) (weigh (limbo_weight (is_owner t)) (owners_in (a.group g))) (weigh (limbo_weight (is_owner t)) (a.group g).reserve) (weigh (is_owner t) (chunk_part (chunks a g))) some in
    true≢false (sym all ∙ none t refl))
  where
    more : (f o r c : ℕ) → nat_lt 0 c ≡ true → nat_lt 0 (f + o + r + c) ≡ true
    more f o r c h = grind (arith, nat_tests)

-- nor has one of a block that metadata doesn't claim
pub unclaimed_chunk : (a : State) (g b : ℕ) → has_claim (metadata_claims a g) b ≡ false → is_chunk a g (b / 8) ≡ false
unclaimed_chunk a g b none = no_chunk a g b (λ t at. no_true (has_metadata a g t) (λ h. true≢false (sym (claimed_block (metadata_claims a g) t b h at) ∙ none)))

pub row_unowned : (a : State) (g b : ℕ) → is_unowned a g b ≡ true → has_claim (metadata_claims a g) b ≡ false
row_unowned a g b h = last_false (none_sick space_kinds (a.group g)) (in_spans (records_in (a.group g) Bno) b) (not (is_guarded (records_in (a.group g) Rmap) b 1)) (has_claim (metadata_claims a g) b) h

pub beside_unowned : (a : State) (g b : ℕ) → (is_spare a g units.Inode b ≡ is_unowned a g b) × (is_spare a g units.Refc b ≡ is_unowned a g b)
unfolding is_spare
beside_unowned a g b = (refl, refl)

-- or that no settled owner has
pub nobodys_chunk : (a : State) (g b : ℕ) → IsNobodys a (block_extent g b) → is_chunk a g (b / 8) ≡ false
nobodys_chunk a g b nobody = no_chunk a g b (λ t at. no_true (has_metadata a g t) (λ h.
    true≢false (sym (inside b t.block at) ∙ nobody t (settled_is a g t ∙ ap (λ (z : Bool). z || has (settled_forks a g) t) h))))
  where
    inside : (b k : ℕ) → k ≡ b → in_span b 1 k ≡ true
    inside b k e = grind (arith, nat_tests)

-- ---- what else the row and the mappings say

-- it lies in the group, so it has a next number
pub has_next : (a : State) (g b : ℕ) (unit : ScrubUnit) → HasFitting a.geometry → spare_block a g unit ≡ Some b → b < 2 ^ 32
unfolding spare_block
has_next a g b unit fit h =
    let in_it : Contains (numbers 0 (group_len_of a.geometry g)) b = (found_by_find (is_spare a g unit) (numbers 0 (group_len_of a.geometry g)) b h).0 in
    let w = which_below (λ n. n == b) (group_len_of a.geometry g) (any_here (λ n. n == b) (numbers 0 (group_len_of a.geometry g)) b in_it (eq-eqb b b refl)) in
    let same = eqb-true w.0 b w.2 in
    let short = length_short (g + 1 == a.geometry.agcount) in
    let low = w.1 in
    omega (arith, same, short, low)
  where
    length_short : (t : Bool) → (if t then a.geometry.dblocks - (a.geometry.agcount - 1) * a.geometry.agblocks else a.geometry.agblocks) ≤ 268435456
    length_short true = let l = fit.last_short in let m = fit.short_groups in omega (arith, l, m)
    length_short false = fit.short_groups

-- heads have a block, so mappings that tell it can be read
abbrev heads_tuple : Tuple
heads_tuple = record { block = 0; owner = number_of Fs; word = 0 }

heads_owned : (a : State) (g : ℕ) → has (settled_own a g) heads_tuple ≡ true
heads_owned a g =
    settled_is a g heads_tuple
    ∙ ap (λ (y : Bool). y || has (settled_forks a g) heads_tuple)
    (has_weight (metadata_claims a g) heads_tuple ∙ ap (nat_lt 0) (metadata_is (is_owner heads_tuple) (owner_plain heads_tuple) a g)
    ∙ some (is_owner heads_tuple (claimed_by Heads (number_of Fs) 0)) (weigh (is_owner heads_tuple) (log_claims a.geometry.log g)) (weigh (limbo_weight (is_owner heads_tuple)) (owners_in (a.group g)))
    (weigh (limbo_weight (is_owner heads_tuple)) (a.group g).reserve) (weigh (is_owner heads_tuple) (chunk_part (chunks a g))) (ap (λ (k : Bool). if k then 1 else 0) (same_self heads_tuple)))
  where
    some : (h l o r c : ℕ) → h ≡ 1 → nat_lt 0 (h + l + o + r + c) ≡ true
    some h l o r c e = grind (arith, nat_tests)

read_by : (r : Reading RmapRec) (rec : RmapRec) → Contains (recs_of r) rec → is_readable r ≡ true
read_by (Readable recs blocks) rec c = refl
read_by (Unreadable block fault held) rec c = absurd (nothing_in rec c)

told_reads : (a : State) (g : ℕ) → AreTold a g → is_readable ((a.group g).tree Rmap).reading ≡ true
told_reads a g told = let hit = told.all heads_tuple (of_has (settled_own a g) heads_tuple (heads_owned a g)) in read_by ((a.group g).tree Rmap).reading hit.0 hit.2

pub told_written : ToldWritten
told_written a left g told sick kept = record {
  edited = ap₂ (λ (y w : Bool). if y then false else if w then false else true) sick kept;
  readable = told_reads a g told;
}
