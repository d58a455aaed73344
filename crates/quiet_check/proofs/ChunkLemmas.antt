-- The units that were seen, and the chunks among them, are those of the state.
use Rattle.std.proofs.Common.{◌≡◌, ℕ, zero, suc, ◌+◌, ◌*◌, ◌/◌, ◌<◌, ◌≤◌, Bool, true, false, List, [], ◌∷◌, ◌++◌, map, refl, ap, sym, subst, ◌∙◌, arith, Option, Some, None}
use Rattle.std.specs.Prelude.{◌==◌, ◌&&◌, ◌||◌, ◌^◌, nat_le, nat_lt, if◌then◌else◌}
use Rattle.std.specs.List.{filter, list_any}
use Rattle.std.specs.Option.{is_some}
use Rattle.std.proofs.lemmas.Bool.{eqb-true, lt-ltb, false≢true}
use Rattle.byte_fields.specs.Below.{all_below}
use Rattle.fs_state.specs.Chunks.{chunks}
use Rattle.fs_state.specs.Contradiction.{bad_chunk, bad_in_unit}
use Rattle.fs_state.specs.Derive.{over_free}
use Rattle.fs_state.specs.Lists.{first_of_all, numbers}
use Rattle.fs_model.specs.declared.claim.Evidence.{Evidence}
use Rattle.fs_state.specs.Apart.{has_unit, ino_lists, is_chunk, is_listed, rmap_lists, unit_verifies}
use Rattle.fs_state.specs.Kinds.{Image}
use Rattle.fs_state.specs.State.{recs_of}
use Rattle.geom.specs.Layout.{Layout, group_len_of}
use Rattle.ino_recs.specs.declared.chunk.InoRec.{InoRec}
use Rattle.index_derive.specs.Units.{is_listed_by}
use Rattle.rmap_recs.specs.declared.records.RmapRec.{RmapRec}
use Rattle.run_sets.proofs.SetLemmas.{holds_below}
use Rattle.sblock.specs.declared.kind.Kind.TheVariants.{Rmap, Ino}
use Rattle.inode_pass.specs.Units.{AreSeen, opened_state, unit_count, unit_numbers, units_in}
use Rattle.inode_pass.specs.declared.unit.UnitSeen.{UnitSeen}
use Rattle.quiet_check.specs.Chunks.{bad_where, chunk_numbers}
use Rattle.run_sets.specs.Runs.{EndWithin, holds, in_front, runs_below, runs_from}
use Rattle.run_sets.specs.declared.run.Run.{Run}

-- ---- the units of runs

front_units : (a : ℕ) (rs : List Run) → units_in (in_front a rs) ≡ a ∷ units_in rs
front_units a [] = refl
front_units a (r ∷ rs) = joined (r.start == a + 1) (λ is. eqb-true r.start (a + 1) is) where
  joined : (b : Bool) → (b ≡ true → r.start ≡ a + 1) → units_in (if b then record { start = a; count = r.count + 1 } ∷ rs else record { start = a; count = 1 } ∷ r ∷ rs) ≡ a ∷ (numbers r.start r.count ++ units_in rs)
  joined true at =
      let next : r.count + 1 ≡ suc r.count = omega arith in
      ap (λ (n : ℕ). numbers a n ++ units_in rs) next ∙ ap (λ (s : ℕ). a ∷ (numbers s r.count ++ units_in rs)) (sym (at refl))
  joined false at = refl

kept_units : (b : Bool) (a : ℕ) (rs : List Run) (us : List ℕ) → units_in rs ≡ us → units_in (if b then in_front a rs else rs) ≡ (if b then a ∷ us else us)
kept_units true a rs us is = front_units a rs ∙ ap (λ (xs : List ℕ). a ∷ xs) is
kept_units false a rs us is = is

units_from : (p : ℕ → Bool) (a n : ℕ) → units_in (runs_from p a n) ≡ filter p (numbers a n)
units_from p a zero = refl
units_from p a (suc n) = kept_units (p a) a (runs_from p (a + 1) n) (filter p (numbers (a + 1) n)) (units_from p (a + 1) n)

-- the units of the maximal runs of those that pass
pub units_below : (p : ℕ → Bool) (n : ℕ) (runs : List Run) → runs ≡ runs_below p n → units_in runs ≡ filter p (numbers 0 n)
unfolding runs_below
units_below p n runs is = ap units_in is ∙ units_from p 0 n

front_count : (a : ℕ) (rs : List Run) → unit_count (in_front a rs) ≡ 1 + unit_count rs
front_count a [] = refl
front_count a (r ∷ rs) = joined (r.start == a + 1) where
  joined : (b : Bool) → unit_count (if b then record { start = a; count = r.count + 1 } ∷ rs else record { start = a; count = 1 } ∷ r ∷ rs) ≡ 1 + (r.count + unit_count rs)
  joined true = omega arith
  joined false = refl

kept_count : (b : Bool) (a n : ℕ) (rs : List Run) → unit_count rs ≤ n → unit_count (if b then in_front a rs else rs) ≤ suc n
kept_count true a n rs le = let f = front_count a rs in omega (arith, f, le)
kept_count false a n rs le = omega (arith, le)

count_from : (p : ℕ → Bool) (a n : ℕ) → unit_count (runs_from p a n) ≤ n
count_from p a zero = omega arith
count_from p a (suc n) = kept_count (p a) a n (runs_from p (a + 1) n) (count_from p (a + 1) n)

-- the blocks of the units below a length, each read once, are no more than it
pub cores_few : (p : ℕ → Bool) (length : ℕ) (runs : List Run) (before after : ℕ) → runs ≡ runs_below p (length / 8) → after ≤ before + 8 * unit_count runs → after ≤ before + length
unfolding runs_below
cores_few p length runs before after is read =
    let same = ap unit_count is in
    let few = count_from p 0 (length / 8) in
    omega (arith, same, few, read)

front_ends : (a len : ℕ) (rs : List Run) → a + 1 ≤ len → EndWithin len rs → EndWithin len (in_front a rs)
front_ends a len [] le h = (le, tt)
front_ends a len (r ∷ rs) le h = joined (r.start == a + 1) (λ is. eqb-true r.start (a + 1) is) where
  joined : (b : Bool) → (b ≡ true → r.start ≡ a + 1) → EndWithin len (if b then record { start = a; count = r.count + 1 } ∷ rs else record { start = a; count = 1 } ∷ r ∷ rs)
  joined true at = (let s = at refl in let e = h.0 in omega (arith, s, e), h.1)
  joined false at = (le, h)

kept_ends : (b : Bool) (a len : ℕ) (rs : List Run) → a + 1 ≤ len → EndWithin len rs → EndWithin len (if b then in_front a rs else rs)
kept_ends true a len rs le h = front_ends a len rs le h
kept_ends false a len rs le h = h

ends_from : (p : ℕ → Bool) (a n len : ℕ) → a + n ≤ len → EndWithin len (runs_from p a n)
ends_from p a zero len le = tt
ends_from p a (suc n) len le = kept_ends (p a) a len (runs_from p (a + 1) n) (omega (arith, le)) (ends_from p (a + 1) n len (omega (arith, le)))

pub ends_below : (p : ℕ → Bool) (n : ℕ) (runs : List Run) → runs ≡ runs_below p n → EndWithin n runs
unfolding runs_below
ends_below p n runs is = subst (EndWithin n) (sym is) (ends_from p 0 n n (omega arith))

-- ---- chunks among the units

some_mask : (b : Bool) (m : ℕ) → is_some (if b then Some m else None) ≡ b
some_mask true m = refl
some_mask false m = refl

keep_unit : (b c : Bool) (u : ℕ) (us vs : List ℕ) → b ≡ c → us ≡ vs → (if b then u ∷ [] else []) ++ us ≡ (if c then u ∷ vs else vs)
keep_unit true true u us vs is rest = ap (λ (xs : List ℕ). u ∷ xs) rest
keep_unit true false u us vs is rest = absurd (false≢true (sym is))
keep_unit false true u us vs is rest = absurd (false≢true is)
keep_unit false false u us vs is rest = rest

counts_if : (o : Option Evidence) (b c : Bool) → (if (is_some o && b) && c then o else None) ≡ (if b && c then o else None)
counts_if (Some e) b c = refl
counts_if None true true = refl
counts_if None true false = refl
counts_if None false c = refl

filter_if : (q : ℕ → Bool) (b : Bool) (u : ℕ) (rest : List ℕ) → filter q (if b then u ∷ rest else rest) ≡ (if b && q u then u ∷ filter q rest else filter q rest)
filter_if q true u rest = refl
filter_if q false u rest = refl

pub twice : (p q : ℕ → Bool) (us : List ℕ) → filter q (filter p us) ≡ filter (λ u. p u && q u) us
twice p q [] = refl
twice p q (u ∷ us) = filter_if q (p u) u (filter p us) ∙ ap (λ (rest : List ℕ). if p u && q u then u ∷ rest else rest) (twice p q us)

filter_same : (p q : ℕ → Bool) (a n : ℕ) → ((u : ℕ) → u < a + n → p u ≡ q u) → filter p (numbers a n) ≡ filter q (numbers a n)
filter_same p q a zero same = refl
filter_same p q a (suc n) same =
    let rest = filter_same p q (a + 1) n (λ u lt. same u (omega (arith, lt))) in
    let one = same a (omega arith) in
    λ i. if one i then a ∷ rest i else rest i

first_after : (e : Option Evidence) (os qs : List (Option Evidence)) → first_of_all os ≡ first_of_all qs → first_of_all (e ∷ os) ≡ first_of_all (e ∷ qs)
first_after None os qs h = h
first_after (Some e) os qs h = refl

first_on : (b : ℕ → Option Evidence) (c : Bool) (u : ℕ) (os : List (Option Evidence)) (vs : List ℕ) → first_of_all os ≡ first_of_all (map b vs) → first_of_all ((if c then b u else None) ∷ os) ≡ first_of_all (map b (if c then u ∷ vs else vs))
first_on b true u os vs h = first_after (b u) os (map b vs) h
first_on b false u os vs h = h

-- the first of those that pass
first_if : (p : ℕ → Bool) (b : ℕ → Option Evidence) (us : List ℕ) → first_of_all (map (λ u. if p u then b u else None) us) ≡ first_of_all (map b (filter p us))
first_if p b [] = refl
first_if p b (u ∷ us) = first_on b (p u) u (map (λ x. if p x then b x else None) us) (filter p us) (first_if p b us)

abbrev pub BelowNumbers : ℕ → List ℕ → Type 0
BelowNumbers n [] = Unit {0}
BelowNumbers n (u ∷ us) = (u < n) × BelowNumbers n us

below_kept : (b : Bool) (n u : ℕ) (us : List ℕ) → u < n → BelowNumbers n us → BelowNumbers n (if b then u ∷ us else us)
below_kept true n u us lt h = (lt, h)
below_kept false n u us lt h = h

pub below_filter : (p : ℕ → Bool) (a n len : ℕ) → a + n ≤ len → BelowNumbers len (filter p (numbers a n))
below_filter p a zero len le = tt
below_filter p a (suc n) len le = below_kept (p a) len a (filter p (numbers (a + 1) n)) (omega (arith, le)) (below_filter p (a + 1) n len (omega (arith, le)))

or_none : (b : Bool) → (b || false) ≡ b
or_none true = refl
or_none false = refl

none_below : (n : ℕ) → n ≡ 8 → all_below n (λ j. false) ≡ false
unfolding all_below
none_below zero e = absurd (omega (arith, e))
none_below (suc n) e = and_false (all_below n (λ j. false)) where
  and_false : (b : Bool) → (b && false) ≡ false
  and_false true = refl
  and_false false = refl

-- one of two btrees by itself
alone_ino : (ino : List InoRec) (u : ℕ) → is_listed_by ino [] u ≡ list_any (λ r. r.startino == 64 * u) ino
unfolding is_listed_by
alone_ino ino u = ap (λ (b : Bool). list_any (λ r. r.startino == 64 * u) ino || b) (none_below 8 refl) ∙ or_none (list_any (λ r. r.startino == 64 * u) ino)

listed_too : (a b x y : Bool) → a ≡ true → b ≡ true → (((a && b) && (x || y)) && (x && y)) ≡ (x && y)
listed_too true true true y p q = refl
listed_too true true false y p q = and_off y where
  and_off : (c : Bool) → (c && false) ≡ false
  and_off true = refl
  and_off false = refl
listed_too false b x y p q = absurd (false≢true p)
listed_too true false x y p q = absurd (false≢true q)

held : (p : ℕ → Bool) (n : ℕ) (runs : List Run) (u : ℕ) → runs ≡ runs_below p n → u < n → holds runs u ≡ p u
held p n runs u is lt = holds_below p n runs u is ∙ ap (λ (b : Bool). b && p u) (lt-ltb u n lt)

module _ (at : Layout) (image : Image) (g : ℕ) where
  verifying : (seen : List UnitSeen) → AreSeen at image g seen → chunk_numbers seen ≡ filter (unit_verifies at (opened_state at image).core g) (unit_numbers seen)
  verifying [] h = refl
  verifying (s ∷ ss) h =
      keep_unit (is_some s.cores.free) (unit_verifies at (opened_state at image).core g s.cores.unit) s.cores.unit (chunk_numbers ss) (filter (unit_verifies at (opened_state at image).core g) (unit_numbers ss))
      (ap is_some h.0.mask ∙ some_mask (unit_verifies at (opened_state at image).core g s.cores.unit) (over_free (opened_state at image) g s.cores.unit (λ i. 2 ^ i)))
      (verifying ss h.1)

  -- the chunks among the units that are listed
  pub chunks_said : (seen : List UnitSeen) → AreSeen at image g seen → unit_numbers seen ≡ filter (is_listed (opened_state at image) g) (numbers 0 (group_len_of at g / 8)) → chunk_numbers seen ≡ chunks (opened_state at image) g
  unfolding chunks is_chunk
  chunks_said seen h listed =
      verifying seen h ∙ ap (filter (unit_verifies at (opened_state at image).core g)) listed ∙ twice (is_listed (opened_state at image) g) (unit_verifies at (opened_state at image).core g) (numbers 0 (group_len_of at g / 8))

  both_list : ℕ → Bool
  both_list u = ino_lists (opened_state at image) g u && rmap_lists (opened_state at image) g u

  -- by the runs, as by the two trees
  Agree : List Run → List Run → ℕ → Type 0
  Agree by_inodes by_owners n = (u : ℕ) → u < n → (holds by_inodes u && holds by_owners u) ≡ both_list u

  BelowAll : ℕ → List UnitSeen → Type 0
  BelowAll n [] = Unit {0}
  BelowAll n (s ∷ ss) = (s.cores.unit < n) × BelowAll n ss

  bad_units : (by_inodes by_owners : List Run) (n : ℕ) (seen : List UnitSeen) → Agree by_inodes by_owners n → AreSeen at image g seen → BelowAll n seen → map (bad_where by_inodes by_owners) seen ≡ map (λ u. if both_list u then bad_in_unit (opened_state at image) g u else None) (unit_numbers seen)
  unfolding Agree BelowAll bad_where
  bad_units by_inodes by_owners n [] agree h below = refl
  bad_units by_inodes by_owners n (s ∷ ss) agree h below =
      let one = agree s.cores.unit below.0 in
      let broken = h.0.broken in
      let rest = bad_units by_inodes by_owners n ss agree h.1 below.1 in
      let shown = counts_if s.broken (holds by_inodes s.cores.unit) (holds by_owners s.cores.unit) in
      λ i. (shown ∙ (λ j. if one j then broken j else None)) i ∷ rest i

  -- each of these is below n
  below_seen : (n : ℕ) (seen : List UnitSeen) → BelowNumbers n (unit_numbers seen) → BelowAll n seen
  unfolding BelowAll
  below_seen n [] h = tt
  below_seen n (s ∷ ss) h = (h.0, below_seen n ss h.1)

  owners_alone : (maps : List RmapRec) (u : ℕ) → recs_of (((opened_state at image).group g).tree Rmap).reading ≡ maps → is_listed_by [] maps u ≡ rmap_lists (opened_state at image) g u
  unfolding is_listed_by rmap_lists
  owners_alone maps u is = ap (λ (rs : List RmapRec). all_below 8 (λ j. list_any (λ r. (r.owner == 0xffff_ffff_ffff_fff9) && nat_le r.start (8 * u + j) && nat_lt (8 * u + j) (r.start + r.count)) rs)) (sym is)

  inodes_alone : (ino : List InoRec) (u : ℕ) → recs_of (((opened_state at image).group g).tree Ino).reading ≡ ino → is_listed_by ino [] u ≡ ino_lists (opened_state at image) g u
  unfolding ino_lists
  inodes_alone ino u is = alone_ino ino u ∙ ap (λ (rs : List InoRec). list_any (λ r. r.startino == 64 * u) rs) (sym is)

  agree : (ino : List InoRec) (maps : List RmapRec) (n : ℕ) (by_inodes by_owners : List Run) → recs_of (((opened_state at image).group g).tree Ino).reading ≡ ino → recs_of (((opened_state at image).group g).tree Rmap).reading ≡ maps
      → by_inodes ≡ runs_below (is_listed_by ino []) n → by_owners ≡ runs_below (is_listed_by [] maps) n → Agree by_inodes by_owners n
  unfolding Agree both_list
  agree ino maps n by_inodes by_owners inos owners first second u lt =
      let x = held (is_listed_by ino []) n by_inodes u first lt ∙ inodes_alone ino u inos in
      let y = held (is_listed_by [] maps) n by_owners u second lt ∙ owners_alone maps u owners in
      λ i. x i && y i

  either_lists : (u : ℕ) → g < at.agcount → u < group_len_of at g / 8 → (is_listed (opened_state at image) g u && both_list u) ≡ both_list u
  unfolding is_listed has_unit both_list
  either_lists u gl ul = listed_too (nat_lt g at.agcount) (nat_lt (8 * u + 7) (group_len_of at g)) (ino_lists (opened_state at image) g u) (rmap_lists (opened_state at image) g u) (lt-ltb g at.agcount gl) (lt-ltb (8 * u + 7) (group_len_of at g) (omega (arith, ul)))

  -- the first bad core of a unit that both btrees list
  pub bad_said : (ino : List InoRec) (maps : List RmapRec) (by_inodes by_owners : List Run) (seen : List UnitSeen) → g < at.agcount
      → recs_of (((opened_state at image).group g).tree Ino).reading ≡ ino → recs_of (((opened_state at image).group g).tree Rmap).reading ≡ maps
      → by_inodes ≡ runs_below (is_listed_by ino []) (group_len_of at g / 8) → by_owners ≡ runs_below (is_listed_by [] maps) (group_len_of at g / 8)
      → AreSeen at image g seen → unit_numbers seen ≡ filter (is_listed (opened_state at image) g) (numbers 0 (group_len_of at g / 8))
      → first_of_all (map (bad_where by_inodes by_owners) seen) ≡ bad_chunk (opened_state at image) g
  unfolding bad_chunk both_list
  bad_said ino maps by_inodes by_owners seen gl inos owners first second h listed =
      let n = group_len_of at g / 8 in
      let below = below_seen n seen (subst (BelowNumbers n) (sym listed) (below_filter (is_listed (opened_state at image) g) 0 n n (omega arith))) in
      ap first_of_all (bad_units by_inodes by_owners n seen (agree ino maps n by_inodes by_owners inos owners first second) h below)
      ∙ first_if both_list (bad_in_unit (opened_state at image) g) (unit_numbers seen)
      ∙ ap (λ (us : List ℕ). first_of_all (map (bad_in_unit (opened_state at image) g) us))
      (ap (filter both_list) listed ∙ twice (is_listed (opened_state at image) g) both_list (numbers 0 n) ∙ filter_same (λ u. is_listed (opened_state at image) g u && both_list u) both_list 0 n (λ u lt. either_lists u gl (omega (arith, lt))))
