-- The sections of a script in two parts, and the passes that speak for their writers.
use Rattle.std.proofs.Common.{◌≡◌, ℕ, zero, suc, ◌+◌, ◌-◌, ◌<◌, ◌≤◌, List, [], ◌∷◌, ◌++◌, refl, sym, ap, ◌∙◌, subst, arith, length}
use Rattle.script_defs.specs.Shape.{IsScript, LinesRise, WritersRise}
use Rattle.script_defs.specs.Texts.{parts_of}
use Rattle.script_defs.specs.declared.section.Line.{Line}
use Rattle.script_defs.specs.declared.section.Script.{Script}
use Rattle.script_defs.specs.declared.section.Section.{Section}
use Rattle.live_fs.specs.Sections.{AreInRange, AreSections, SpeaksFor, first_of}
use Rattle.turn_lock.proofs.Actors.{actors_above, actors_below, actors_length}
use Rattle.turn_lock.specs.Lists.{above, actors_of, below, from_up}

-- ---- a script that was read

lines_in_range : (least : ℕ) (ls : List Line) → LinesRise least ls → AreInRange ls
lines_in_range least [] h = tt
lines_in_range least (l ∷ ls) h = (h.2, lines_in_range (l.number + 1) ls h.3)

writers_in : (least : ℕ) (ss : List Section) → WritersRise least (parts_of ss) → AreSections least 17 ss
writers_in least [] h = tt
writers_in least (s ∷ ss) h = let at : s.writer ≤ 16 = h.1 in (h.0, omega (arith, at), lines_in_range 1 s.lines.items h.2, writers_in (s.writer + 1) ss h.3)

pub script_sections : (script : Script) → IsScript script → AreSections 1 17 script.sections.items
script_sections script is = writers_in 1 script.sections.items is.1

-- ---- two parts

weaker : (a b e : ℕ) (ss : List Section) → a ≤ b → AreSections b e ss → AreSections a e ss
weaker a b e [] le h = tt
weaker a b e (s ∷ ss) le h = let at : b ≤ s.writer = h.0 in (omega (arith, le, at), h.1, h.2, h.3)

-- where those of the front come first, they end before the next
behind : (a e : ℕ) (xs : List Section) (y : Section) (ys : List Section) → AreSections a e (xs ++ y ∷ ys) → (a ≤ y.writer) × (y.writer < e) × AreSections y.writer e (y ∷ ys)
behind a e [] y ys h = (h.0, h.1, let same : y.writer ≤ y.writer = omega arith in (same, h.1, h.2, h.3))
behind a e (x ∷ xs) y ys h = let r = behind (x.writer + 1) e xs y ys h.3 in let at : a ≤ x.writer = h.0 in let le = r.0 in (omega (arith, at, le), r.1, r.2)

in_front : (a e : ℕ) (xs : List Section) (y : Section) (ys : List Section) → AreSections a e (xs ++ y ∷ ys) → AreSections a y.writer xs
in_front a e [] y ys h = tt
in_front a e (x ∷ xs) y ys h =
    let r = behind (x.writer + 1) e xs y ys h.3 in let le = r.0 in (h.0, omega (arith, le), h.2, in_front (x.writer + 1) e xs y ys h.3)

-- ---- what is kept for their writers

cut_up : (a h n : ℕ) → h ≤ n → from_up a n ≡ from_up a h ++ from_up (a + h) (n - h)
cut_up a zero n le = let e : a ≡ a + 0 = omega arith in let f : n ≡ n - 0 = omega arith in subst (λ (z : ℕ). from_up a n ≡ from_up z (n - 0)) e (ap (from_up a) f)
cut_up a (suc h) zero le = absurd (omega (arith, le))
cut_up a (suc h) (suc n) le =
    let i = cut_up (suc a) h n (omega (arith, le)) in
    let k : suc a + h ≡ a + suc h = omega arith in
    let m : n - h ≡ suc n - suc h = omega arith in
    ap (λ (l : List ℕ). a ∷ l) (subst (λ (z : ℕ). from_up (suc a) n ≡ from_up (suc a) h ++ from_up z (suc n - suc h)) k (subst (λ (z : ℕ). from_up (suc a) n ≡ from_up (suc a) h ++ from_up (suc a + h) z) m i))

module _ {K : Type 0} where
  pub actors_append : (xs ys : List (ℕ × K)) → actors_of (xs ++ ys) ≡ actors_of xs ++ actors_of ys
  actors_append [] ys = refl
  actors_append (x ∷ xs) ys = ap (λ (l : List ℕ). x.0 ∷ l) (actors_append xs ys)

  -- cut at one of them
  module _ (kept : List (ℕ × K)) (a n m : ℕ) (is : actors_of kept ≡ from_up a n) (from : a ≤ m) (to : m ≤ a + n) where
    here : a + (m - a) ≡ m
    here = omega (arith, from)

    most : m - a ≤ n
    most = omega (arith, from, to)

    actors_lower : actors_of (below m kept) ≡ from_up a (m - a)
    actors_lower = subst (λ (z : ℕ). actors_of (below z kept) ≡ from_up a (m - a)) here (actors_below kept a n (m - a) is most)

    actors_upper : actors_of (above m kept) ≡ from_up m (n - (m - a))
    actors_upper = subst (λ (z : ℕ). actors_of (above z kept) ≡ from_up z (n - (m - a))) here (actors_above kept a n (m - a) is most)

    pub actors_cut : actors_of kept ≡ actors_of (below m kept) ++ actors_of (above m kept)
    actors_cut =
        is ∙ (cut_up a (m - a) n most ∙ (subst (λ (z : ℕ). from_up a (m - a) ++ from_up (a + (m - a)) (n - (m - a)) ≡ from_up a (m - a) ++ from_up z (n - (m - a))) here refl
        ∙ sym ((λ i. actors_lower i ++ actors_upper i))))

  pub record IsCut (kept : List (ℕ × K)) (m : ℕ) (xs ys : List Section) : Type 0 where
    pub lower : 0 < length (below m kept)
    pub upper : 0 < length (above m kept)
    pub speaks_lower : SpeaksFor (below m kept) xs
    pub speaks_upper : SpeaksFor (above m kept) ys
    pub actors : actors_of kept ≡ actors_of (below m kept) ++ actors_of (above m kept)

  pub halved : (kept : List (ℕ × K)) (xs ys : List Section) → 0 < length xs → 0 < length ys → SpeaksFor kept (xs ++ ys) → IsCut kept (first_of ys) xs ys
  halved kept xs [] some more s = absurd (omega (arith, more))
  halved kept [] (y ∷ ys) some more s = absurd (omega (arith, some))
  halved kept (x ∷ xs) (y ∷ ys) some more s =
      let a = s.0 in
      let n = s.1 in
      let m = y.writer in
      let q = behind (x.writer + 1) (a + n) xs y ys s.3.3 in
      let low : a ≤ x.writer = s.3.0 in
      let next : x.writer + 1 ≤ m = q.0 in
      let high : m < a + n = q.1 in
      let from : a ≤ m = omega (arith, low, next) in
      let to : m ≤ a + n = omega (arith, high) in
      let e : a + (m - a) ≡ m = omega (arith, from) in
      let f : m + (n - (m - a)) ≡ a + n = omega (arith, from, to) in
      let l = actors_length (below m kept) a (m - a) (actors_lower kept a n m s.2 from to) in
      let u = actors_length (above m kept) m (n - (m - a)) (actors_upper kept a n m s.2 from to) in record {
        lower = omega (arith, l, low, next);
        upper = omega (arith, u, high, from);
        speaks_lower = (a, m - a, actors_lower kept a n m s.2 from to, subst (λ (z : ℕ). AreSections a z (x ∷ xs)) (sym e) (in_front a (a + n) (x ∷ xs) y ys s.3));
        speaks_upper = (m, n - (m - a), actors_upper kept a n m s.2 from to, subst (λ (z : ℕ). AreSections m z (y ∷ ys)) (sym f) q.2);
        actors = actors_cut kept a n m s.2 from to;
      }

  -- the scrubber's number is in front of all writers
  pub writers_cut : (kept : List (ℕ × K)) (ss : List Section) → actors_of kept ≡ from_up 0 17 → AreSections 1 17 ss → IsCut kept 1 [] ss
  writers_cut kept ss is among =
      let from : 0 ≤ 1 = omega arith in
      let to : 1 ≤ 0 + 17 = omega arith in
      let l = actors_length (below 1 kept) 0 1 (actors_lower kept 0 17 1 is from to) in
      let u = actors_length (above 1 kept) 1 16 (actors_upper kept 0 17 1 is from to) in record {
        lower = omega (arith, l);
        upper = omega (arith, u);
        speaks_lower = (0, 1, actors_lower kept 0 17 1 is from to, tt);
        speaks_upper = (1, 16, actors_upper kept 0 17 1 is from to, among);
        actors = actors_cut kept 0 17 1 is from to;
      }
