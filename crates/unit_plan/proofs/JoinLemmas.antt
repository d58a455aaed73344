-- Pieces that take in those behind them, from the last to the first, become the maximal runs.
use Rattle.std.proofs.Common.{◌≡◌, ◌≢◌, ◌<◌, ◌≤◌, ◌+◌, ◌-◌, ◌^◌, ℕ, zero, suc, Bool, true, false, not, cond, ◌&&◌, ◌||◌, ◌==◌, List, [], ◌∷◌, get_or, drop, length, map, set, All, Contains, Option, Some, None, find, filter, refl, sym, ap, ◌∙◌, subst, inl, inr, arith}
use Rattle.std.specs.Prelude.{if◌then◌else◌, nat_lt}
use Rattle.std.specs.List.{list_any}
use Rattle.std.specs.Option.{option_map_or}
use Rattle.std.proofs.Math.Seq.{drop-cons}
use Rattle.std.proofs.lemmas.Bool.{cases_lt, cases_order, false≢true, le-ltb, lt-ltb, ne_eqb}
use Rattle.std.proofs.Common.{length-drop}
use Rattle.std.proofs.lemmas.List.{get_or-drop, get_or-set_other, get_or-set_same}
use Rattle.fs_model.specs.declared.claim.Claim.TheVariants.{Heads}
use Rattle.sblock.specs.Lists.{Rises}
use Rattle.rmap_recs.specs.Rmap.{can_join, key_of, is_key_before}
use Rattle.rmap_recs.specs.Runs.{goes_on, tuple_at}
use Rattle.rmap_recs.specs.Words.{flags_of, is_fork_data, key_word, offset_of, word_goes_on}
use Rattle.rmap_recs.specs.declared.records.RmapRec.{RmapRec}
use Rattle.rmap_recs.proofs.RisingLemmas.{any_found, any_here, at_place, before_later, false_by, found_by_find, in_front, in_rest, none_by_find, same_default}
use Rattle.rmap_recs.proofs.WordLemmas.{same_flags, same_sort}
use Rattle.run_edits.specs.Edits.{is_before, joined}
use Rattle.run_edits.specs.Pieces.{ArePieces, chain, is_followed, joined_pieces, run_of}
use Rattle.run_edits.proofs.ChainLemmas.{in_row, join_is, offset_then, only_ahead}
use Rattle.run_edits.proofs.FitLemmas.{ends_at, has_room_at}
use Rattle.run_edits.proofs.GiveLemmas.{last_of}
use Rattle.run_edits.proofs.PieceLemmas.{parted as parted_recs}
use Rattle.run_edits.proofs.PieceLemmas.{Joins, along, joins, one_place, piece_some, run_on, run_stops, same_place}
use Rattle.std.specs.List.Sorted.{IsPartitionedBy}
use Rattle.unit_plan.specs.declared.piece.Piece.{Piece}
use Rattle.unit_plan.specs.Joined.{AreJoinedFrom, Fits, counted, emptied, settled}
use Rattle.unit_plan.specs.Lost.{of_piece}

-- ---- a word that goes on behind two runs goes on behind the second

later_offset : (t : Bool) (a o c d : ℕ) → o ≡ (if t then a + c else a) → (if t then o + d else o) ≡ (if t then a + (c + d) else a)
later_offset true a o c d e = omega (arith, e)
later_offset false a o c d e = e

goes_later : (owner word c d next s : ℕ) → word_goes_on owner word c s ≡ true → word_goes_on owner s d next ≡ word_goes_on owner word (c + d) next
unfolding word_goes_on
goes_later owner word c d next s goes =
    let flags : flags_of s ≡ flags_of word = same_flags owner word c s goes in
    let sort : is_fork_data owner s ≡ is_fork_data owner word = same_sort owner s word flags in
    let here : offset_of s ≡ (if is_fork_data owner word then offset_of word + c else offset_of word) = offset_then owner word c s (is_fork_data owner word) refl goes in
    let offset : (if is_fork_data owner s then offset_of s + d else offset_of s) ≡ (if is_fork_data owner word then offset_of word + (c + d) else offset_of word) =
    ap (λ (t : Bool). if t then offset_of s + d else offset_of s) sort ∙ later_offset (is_fork_data owner word) (offset_of word) (offset_of s) c d here in
    λ i. (flags_of next == flags i) && (offset_of next == offset i)

joined_joins : (p s x : RmapRec) → can_join p s ≡ true → can_join (joined p s) x ≡ can_join s x
joined_joins p s x h =
    let j : Joins p s = joins p s h in
    let start = j.start in
    let end : p.start + (p.count + s.count) ≡ s.start + s.count = omega (arith, start) in
    let words : word_goes_on p.owner p.word (p.count + s.count) x.word ≡ word_goes_on s.owner s.word s.count x.word =
    sym (goes_later p.owner p.word p.count s.count x.word s.word j.word) ∙ ap (λ (o : ℕ). word_goes_on o s.word s.count x.word) (sym j.owner) in
    λ i. (x.start == end i) && (x.owner == sym j.owner i) && words i

same_find : (f g : RmapRec → Bool) → ((x : RmapRec) → f x ≡ g x) → (xs : List RmapRec) → find f xs ≡ find g xs
same_find f g same [] = refl
same_find f g same (x ∷ xs) = ap (λ (t : Bool). cond t (Some x) (find f xs)) (same x) ∙ ap (λ (o : Option RmapRec). cond (g x) (Some x) o) (same_find f g same xs)

-- ---- records that differ in their counts alone

abbrev pub Same : RmapRec → RmapRec → Type 0
Same a b = (a.start ≡ b.start) × (a.owner ≡ b.owner) × (a.word ≡ b.word)

can_same : (p a b : RmapRec) → Same a b → can_join p a ≡ can_join p b
can_same p a b s = λ i. (s.0 i == p.start + p.count) && (s.1 i == p.owner) && word_goes_on p.owner p.word p.count (s.2 i)

pub counted_same : (n : ℕ) (a b : RmapRec) → Same a b → counted n a ≡ counted n b
counted_same n a b s = λ i. record { start = s.0 i; count = n; owner = s.1 i; word = s.2 i }

starts_le : (a b : RmapRec) → is_before a b ≡ true → a.start ≤ b.start
unfolding is_key_before
starts_le a b h = elim (cases_lt b.start a.start) [
  | inl past ↦ absurd (false≢true (sym (rw (le-ltb a.start b.start (omega (arith, past)), ne_eqb a.start b.start (λ e. omega (arith, past, e))) refl) ∙ h))
  | inr le ↦ le
]

pub rises_same : (xs ys : List RmapRec) → length xs ≡ length ys → ((k : ℕ) (d : RmapRec) → k < length ys → key_of (get_or xs k d) ≡ key_of (get_or ys k d)) → Rises is_before ys → Rises is_before xs
rises_same [] ys long same up = tt
rises_same (x ∷ xs) [] long same up = absurd (omega (arith, long))
rises_same (x ∷ []) (y ∷ ys) long same up = (tt, tt)
rises_same (x ∷ z ∷ xs) (y ∷ []) long same up = absurd (omega (arith, long))
rises_same (x ∷ z ∷ xs) (y ∷ w ∷ ys) long same up = (
  (λ i. is_key_before (same 0 x (omega arith) i) (same 1 x (omega arith) i)) ∙ up.0,
  rises_same (z ∷ xs) (w ∷ ys) (omega (arith, long)) (λ k d lt. same (suc k) d (omega (arith, lt))) up.1,
)

module _ (recs : List RmapRec) (are : ArePieces recs) where
  here : (k : ℕ) (d : RmapRec) → k < length recs → Contains recs (get_or recs k d)
  here k d lt = at_place recs k d lt

  some : (k : ℕ) (d : RmapRec) → k < length recs → 0 < (get_or recs k d).count
  some k d lt = piece_some recs are.rooms (get_or recs k d) (here k d lt)

  -- ---- which piece goes on from which

  behind : (i j : ℕ) (d : RmapRec) → i < length recs → j < length recs → can_join (get_or recs i d) (get_or recs j d) ≡ true → i < j
  behind i j d a b h =
      let end = ends_at (get_or recs i d) (get_or recs j d) h in
      let more = some i d a in
      elim (cases_order i j) [
        | inl is ↦ absurd (let same : (get_or recs i d).start ≡ (get_or recs j d).start = ap (λ (k : ℕ). (get_or recs k d).start) is in omega (arith, end, more, same))
        | inr (inl low) ↦ low
        | inr (inr high) ↦ absurd (let le = starts_le (get_or recs j d) (get_or recs i d) (before_later is_before along recs are.rising j i d high a) in omega (arith, end, more, le))
      ]

  ends : (i k : ℕ) (d : RmapRec) → i < length recs → can_join (get_or recs i d) (get_or recs k d) ≡ true → goes_on (last_of (get_or recs i d)) (tuple_at (get_or recs k d) 0) ≡ true
  ends i k d a h =
      let room = has_room_at recs are.rooms (get_or recs i d) (here i d a) in
      sym (join_is (get_or recs i d) (get_or recs k d) (in_row (get_or recs i d) room.0) (some i d a)) ∙ h

  one_before : (i j k : ℕ) (d : RmapRec) → i < length recs → j < length recs → can_join (get_or recs i d) (get_or recs k d) ≡ true → can_join (get_or recs j d) (get_or recs k d) ≡ true → i ≡ j
  one_before i j k d a b h l =
      let p = get_or recs i d in
      let s = get_or recs j d in
      let same : last_of p ≡ last_of s = only_ahead (last_of p) (last_of s) (tuple_at (get_or recs k d) 0) (ends i k d a h) (ends j k d b l) in
      let more = some i d a in
      let also = some j d b in
      let one : p ≡ s = are.apart p s (here i d a) (here j d b) (last_of p) (p.count - 1, omega (arith, more), refl) (s.count - 1, omega (arith, also), sym same) in
      one_place recs are.rising i j d a b (ap key_of one)

  one_behind : (i j k : ℕ) (d : RmapRec) → j < length recs → k < length recs → can_join (get_or recs i d) (get_or recs j d) ≡ true → can_join (get_or recs i d) (get_or recs k d) ≡ true → j ≡ k
  one_behind i j k d a b h l = one_place recs are.rising j k d a b (same_place (get_or recs i d) (get_or recs j d) (get_or recs k d) h l)

  -- ---- runs

  chain_joined : (n : ℕ) (p s : RmapRec) → can_join p s ≡ true → chain n recs (joined p s) ≡ joined p (chain n recs s)
  unfolding chain
  chain_joined zero p s h = refl
  chain_joined (suc n) p s h =
      ap (λ (o : Option RmapRec). option_map_or (λ q. chain n recs (joined (joined p s) q)) o (joined p s)) (same_find (can_join (joined p s)) (can_join s) (λ x. joined_joins p s x h) recs)
      ∙ (elim (find (can_join s) recs) as (λ o. option_map_or (λ q. chain n recs (joined (joined p s) q)) o (joined p s) ≡ joined p (option_map_or (λ q. chain n recs (joined s q)) o s)) [
        | None ↦ refl
        | Some q ↦
            let count : (p.count + s.count) + q.count ≡ p.count + (s.count + q.count) = omega arith in
            let one : joined (joined p s) q ≡ joined p (joined s q) = λ i. record { start = p.start; count = count i; owner = p.owner; word = p.word } in
            ap (chain n recs) one ∙ chain_joined n p (joined s q) h
      ])

  run_joined : (p q : RmapRec) → p.start + p.count < 2 ^ 32 → can_join p q ≡ true → find (can_join p) recs ≡ Some q → run_of recs p ≡ joined p (run_of recs q)
  run_joined p q room h found =
      let end = ends_at p q h in
      let fuel : p.start + (p.count + q.count) ≡ q.start + q.count = omega (arith, end) in
      run_on recs are.rooms p q room found
      ∙ (ap (λ (n : ℕ). chain (2 ^ 32 - n) recs (joined p q)) fuel ∙ chain_joined (2 ^ 32 - (q.start + q.count)) p q h)

  chain_same : (n : ℕ) (r : RmapRec) → Same (chain n recs r) r
  unfolding chain
  chain_same zero r = (refl, refl, refl)
  chain_same (suc n) r = elim (find (can_join r) recs) as (λ o. Same (option_map_or (λ q. chain n recs (joined r q)) o r) r) [
    | None ↦ (refl, refl, refl)
    | Some q ↦ chain_same n (joined r q)
  ]

  chain_more : (n : ℕ) (r : RmapRec) → r.count ≤ (chain n recs r).count
  unfolding chain
  chain_more zero r = omega arith
  chain_more (suc n) r = elim (find (can_join r) recs) as (λ o. r.count ≤ (option_map_or (λ q. chain n recs (joined r q)) o r).count) [
    | None ↦ omega arith
    | Some q ↦ (let more = chain_more n (joined r q) in omega (arith, more))
  ]

  settled_same : (i : ℕ) (r : RmapRec) → Same (settled recs i r) r
  settled_same i r = elim (list_any (λ p. can_join p r) (drop i recs)) as (λ t. Same (if t then emptied r else run_of recs r) r) [
    | true ↦ (refl, refl, refl)
    | false ↦ chain_same (2 ^ 32 - (r.start + r.count)) r
  ]

  -- ---- who goes on to a piece, from one number on

  nobody : (i j : ℕ) (d : RmapRec) → ((k : ℕ) → i ≤ k → k < length recs → can_join (get_or recs k d) (get_or recs j d) ≡ false) → list_any (λ p. can_join p (get_or recs j d)) (drop i recs) ≡ false
  nobody i j d none = false_by (list_any (λ p. can_join p (get_or recs j d)) (drop i recs)) (λ h.
      let hit = any_found (λ p. can_join p (get_or recs j d)) (drop i recs) h in
      let c = hit.1 in
      let within : i + c.0 < length recs = in_drop i c.0 c.1 in
      let is : get_or recs (i + c.0) d ≡ hit.0 = same_default recs (i + c.0) d hit.0 within ∙ (sym (get_or-drop i recs c.0 hit.0) ∙ c.2) in
      false≢true (sym (none (i + c.0) (omega arith) within) ∙ (ap (λ (p : RmapRec). can_join p (get_or recs j d)) is ∙ hit.2)))
    where
      in_drop : (i k : ℕ) → k < length (drop i recs) → i + k < length recs
      in_drop i k lt = let long = length-drop i recs in omega (arith, lt, long)

  somebody : (i j k : ℕ) (d : RmapRec) → i ≤ k → k < length recs → can_join (get_or recs k d) (get_or recs j d) ≡ true → list_any (λ p. can_join p (get_or recs j d)) (drop i recs) ≡ true
  somebody i j k d low lt h =
      let long = length-drop i recs in
      let e : i + (k - i) ≡ k = omega (arith, low) in
      let p = get_or recs k d in
      let at : get_or (drop i recs) (k - i) p ≡ p = get_or-drop i recs (k - i) p ∙ (ap (λ (n : ℕ). get_or recs n p) e ∙ same_default recs k p d lt) in
      any_here (λ x. can_join x (get_or recs j d)) (drop i recs) p (k - i, (omega (arith, long, lt, low)), at) h

  same_list : (m : ℕ) (d r : RmapRec) → m < length recs → can_join (get_or recs m d) r ≡ false → list_any (λ p. can_join p r) (drop m recs) ≡ list_any (λ p. can_join p r) (drop (m + 1) recs)
  same_list m d r lt none =
      let next : suc m ≡ m + 1 = omega arith in
      ap (list_any (λ p. can_join p r)) (drop-cons recs m d lt ∙ ap (λ (n : ℕ). get_or recs m d ∷ drop n recs) next)
      ∙ ap (λ (t : Bool). t || list_any (λ p. can_join p r) (drop (m + 1) recs)) none

  stays_settled : (m : ℕ) (d r : RmapRec) → m < length recs → can_join (get_or recs m d) r ≡ false → settled recs (m + 1) r ≡ settled recs m r
  stays_settled m d r lt none = sym (ap (λ (t : Bool). if t then emptied r else run_of recs r) (same_list m d r lt none))

  begins_here : (m : ℕ) (d : RmapRec) → m < length recs → settled recs m (get_or recs m d) ≡ run_of recs (get_or recs m d)
  begins_here m d lt =
      ap (λ (t : Bool). if t then emptied (get_or recs m d) else run_of recs (get_or recs m d))
      (nobody m m d (λ k low room. false_by (can_join (get_or recs k d) (get_or recs m d)) (λ h. let up = behind k m d room lt h in absurd (omega (arith, up, low)))))

  keys_from : (i : ℕ) (xs : List RmapRec) → AreJoinedFrom recs i xs → (k : ℕ) (d : RmapRec) → k < length recs → Same (get_or xs k d) (get_or recs k d)
  keys_from i xs so_far k d room = elim (cases_lt k i) [
    | inl low ↦ (let e = so_far.front k d low in (ap (λ (r : RmapRec). r.start) e, ap (λ (r : RmapRec). r.owner) e, ap (λ (r : RmapRec). r.word) e))
    | inr high ↦
        let e = so_far.back k d high room in
        let s = settled_same i (get_or recs k d) in
        (ap (λ (r : RmapRec). r.start) e ∙ s.0, ap (λ (r : RmapRec). r.owner) e ∙ s.1, ap (λ (r : RmapRec). r.word) e ∙ s.2)
  ]

  -- what is joined stays in order
  pub joined_rises : (i : ℕ) (xs : List RmapRec) → AreJoinedFrom recs i xs → Rises is_before xs
  joined_rises i xs so_far = rises_same xs recs so_far.long (λ k d lt. let s = keys_from i xs so_far k d lt in λ j. record { start = s.0 j; owner = s.1 j; word = key_word (s.2 j) }) are.rising

  -- ---- one piece

  module _ (m : ℕ) (xs : List RmapRec) (lt : m < length recs) (so_far : AreJoinedFrom recs (m + 1) xs) where
    keys : (k : ℕ) (d : RmapRec) → k < length recs → Same (get_or xs k d) (get_or recs k d)
    keys = keys_from (m + 1) xs so_far

    own : (d : RmapRec) → get_or xs m d ≡ get_or recs m d
    own d = so_far.front m d (omega arith)

    pub comes_later : (j : ℕ) (d : RmapRec) → j < length xs → can_join (get_or xs m d) (get_or xs j d) ≡ true → m < j
    comes_later j d room h =
        let all = so_far.long in
        let within : j < length recs = omega (arith, room, all) in
        behind m j d lt within (sym (can_same (get_or recs m d) (get_or xs j d) (get_or recs j d) (keys j d within)) ∙ (ap (λ (p : RmapRec). can_join p (get_or xs j d)) (sym (own d)) ∙ h))

    -- nothing goes on behind it
    pub alone : (d : RmapRec) → ((q : RmapRec) → Contains xs q → can_join (get_or xs m d) q ≡ false) → AreJoinedFrom recs m xs
    alone d none = record { long = so_far.long; front = λ k e low. so_far.front k e (omega (arith, low)); back = back }
      where
        never : (k : ℕ) → k < length recs → can_join (get_or recs m d) (get_or recs k d) ≡ false
        never k room =
            let long = so_far.long in
            sym (can_same (get_or recs m d) (get_or xs k d) (get_or recs k d) (keys k d room)) ∙ (ap (λ (p : RmapRec). can_join p (get_or xs k d)) (sym (own d)) ∙ none (get_or xs k d) (at_place xs k d (omega (arith, room, long))))

        stops : find (can_join (get_or recs m d)) recs ≡ None
        stops = (elim (find (can_join (get_or recs m d)) recs) as (λ o. find (can_join (get_or recs m d)) recs ≡ o → o ≡ None) [
          | None ↦ λ e. refl
          | Some y ↦ λ e.
              let hit = found_by_find (can_join (get_or recs m d)) recs y e in
              let c = hit.0 in
              absurd (false≢true (sym (never c.0 c.1) ∙ (ap (can_join (get_or recs m d)) (same_default recs c.0 d y c.1 ∙ c.2) ∙ hit.1)))
        ]) refl

        back : (k : ℕ) (e : RmapRec) → m ≤ k → k < length recs → get_or xs k e ≡ settled recs m (get_or recs k e)
        back k e low room = elim (cases_lt m k) [
          | inl above ↦
              so_far.back k e (omega (arith, above)) room
              ∙ stays_settled m d (get_or recs k e) lt (ap (can_join (get_or recs m d)) (same_default recs k e d room) ∙ never k room)
          | inr now ↦
              let is : m ≡ k = omega (arith, now, low) in
              subst (λ (n : ℕ). get_or xs n e ≡ settled recs m (get_or recs n e)) is
              (own e ∙ (ap (λ (r : RmapRec). r) (same_default recs m e d lt) ∙ (sym (run_stops recs (get_or recs m d) stops) ∙ (sym (begins_here m d lt) ∙ ap (settled recs m) (same_default recs m d e lt)))))
        ]

    -- the piece at j does
    module _ (j : ℕ) (d : RmapRec) (ys : List RmapRec) (room : j < length xs) (h : can_join (get_or xs m d) (get_or xs j d) ≡ true) (fits : (get_or recs m d).start + (get_or recs m d).count < 2 ^ 32)
        (long : length ys ≡ length xs) (grown : get_or ys m d ≡ counted ((get_or xs m d).count + (get_or xs j d).count) (get_or xs m d)) (gone : get_or ys j d ≡ counted 0 (get_or xs j d))
        (others : (k : ℕ) (e : RmapRec) → k ≢ m → k ≢ j → get_or ys k e ≡ get_or xs k e) where
      inside : j < length recs
      inside = let all = so_far.long in omega (arith, room, all)

      meets : can_join (get_or recs m d) (get_or recs j d) ≡ true
      meets = sym (can_same (get_or recs m d) (get_or xs j d) (get_or recs j d) (keys j d inside)) ∙ (ap (λ (p : RmapRec). can_join p (get_or xs j d)) (sym (own d)) ∙ h)

      above : m < j
      above = behind m j d lt inside meets

      finds : find (can_join (get_or recs m d)) recs ≡ Some (get_or recs j d)
      finds = (elim (find (can_join (get_or recs m d)) recs) as (λ o. find (can_join (get_or recs m d)) recs ≡ o → o ≡ Some (get_or recs j d)) [
        | None ↦ λ e. absurd (false≢true (sym (none_by_find (can_join (get_or recs m d)) recs (get_or recs j d) e (here j d inside)) ∙ meets))
        | Some y ↦ λ e.
            let hit = found_by_find (can_join (get_or recs m d)) recs y e in
            let c = hit.0 in
            let at : get_or recs c.0 d ≡ y = same_default recs c.0 d y c.1 ∙ c.2 in
            let is : c.0 ≡ j = one_behind m c.0 j d c.1 inside (ap (can_join (get_or recs m d)) at ∙ hit.1) meets in
            ap Some (sym at ∙ ap (λ (n : ℕ). get_or recs n d) is)
      ]) refl

      -- it was the beginning of its run
      began : get_or xs j d ≡ run_of recs (get_or recs j d)
      began =
          so_far.back j d (let up = above in omega (arith, up)) inside
          ∙ ap (λ (t : Bool). if t then emptied (get_or recs j d) else run_of recs (get_or recs j d))
          (nobody (m + 1) j d (λ k low within. false_by (can_join (get_or recs k d) (get_or recs j d)) (λ l. let is = one_before m k j d lt within meets l in absurd (omega (arith, is, low)))))

      new_own : get_or ys m d ≡ settled recs m (get_or recs m d)
      new_own =
          grown
          ∙ ((λ i. counted ((own d i).count + (began i).count) (own d i))
          ∙ (sym (run_joined (get_or recs m d) (get_or recs j d) fits meets finds) ∙ sym (begins_here m d lt)))

      new_gone : get_or ys j d ≡ settled recs m (get_or recs j d)
      new_gone =
          gone ∙ (counted_same 0 (get_or xs j d) (get_or recs j d) (keys j d inside)
          ∙ sym (ap (λ (t : Bool). if t then emptied (get_or recs j d) else run_of recs (get_or recs j d)) (somebody m j m d (omega arith) lt meets)))

      all_long : length ys ≡ length recs
      all_long = long ∙ so_far.long

      by_default : (k : ℕ) (e : RmapRec) → k < length recs → get_or ys k d ≡ settled recs m (get_or recs k d) → get_or ys k e ≡ settled recs m (get_or recs k e)
      by_default k e within is = let all = all_long in same_default ys k e d (omega (arith, within, all)) ∙ (is ∙ ap (settled recs m) (same_default recs k d e within))

      new_back : (k : ℕ) (e : RmapRec) → m ≤ k → k < length recs → get_or ys k e ≡ settled recs m (get_or recs k e)
      new_back k e low within = elim (cases_order k m) [
        | inl is ↦ subst (λ (n : ℕ). get_or ys n e ≡ settled recs m (get_or recs n e)) (sym is) (by_default m e lt new_own)
        | inr (inl under) ↦ absurd (omega (arith, under, low))
        | inr (inr over) ↦ elim (cases_order k j) [
          | inl is ↦ subst (λ (n : ℕ). get_or ys n e ≡ settled recs m (get_or recs n e)) (sym is) (by_default j e inside new_gone)
          | inr other ↦
              let apart : k ≢ j = λ is. elim other [ inl a ↦ absurd (omega (arith, a, is)) | inr b ↦ absurd (omega (arith, b, is)) ] in
              let none : can_join (get_or recs m d) (get_or recs k e) ≡ false = false_by (can_join (get_or recs m d) (get_or recs k e)) (λ l. apart (one_behind m k j d within inside (ap (can_join (get_or recs m d)) (same_default recs k d e within) ∙ l) meets)) in
              others k e (λ is. omega (arith, is, over)) apart ∙ (so_far.back k e (omega (arith, over)) within ∙ stays_settled m d (get_or recs k e) lt none)
        ]
      ]

      pub taken_in : AreJoinedFrom recs m ys
      taken_in = record {
        long = all_long;
        front = λ k e low. others k e (λ is. omega (arith, is, low)) (λ is. let up = above in omega (arith, is, low, up)) ∙ so_far.front k e (omega (arith, low));
        back = new_back;
      }

  -- ---- all of them

  pub none_yet : AreJoinedFrom recs (length recs) recs
  none_yet = record { long = refl; front = λ k d lt. refl; back = λ k d low lt. absurd (omega (arith, low, lt)) }

  same_list_by : (f : RmapRec → RmapRec) (xs ys : List RmapRec) → length xs ≡ length ys → ((k : ℕ) (d : RmapRec) → k < length ys → get_or xs k d ≡ f (get_or ys k d)) → xs ≡ map f ys
  same_list_by f [] [] long each = refl
  same_list_by f [] (y ∷ ys) long each = absurd (omega (arith, long))
  same_list_by f (x ∷ xs) [] long each = absurd (omega (arith, long))
  same_list_by f (x ∷ xs) (y ∷ ys) long each =
      ap (λ (z : RmapRec). z ∷ xs) (each 0 y (omega arith)) ∙ ap (λ (rest : List RmapRec). f y ∷ rest) (same_list_by f xs ys (omega (arith, long)) (λ k d lt. each (suc k) d (omega (arith, lt))))

  abbrev has_blocks : RmapRec → Bool
  has_blocks r = nat_lt 0 r.count

  begin_runs : (ys : List RmapRec) → ((y : RmapRec) → Contains ys y → 0 < y.count) → filter has_blocks (map (λ r. if is_followed recs r then emptied r else run_of recs r) ys) ≡ map (run_of recs) (filter (λ q. not (is_followed recs q)) ys)
  begin_runs [] some = refl
  begin_runs (y ∷ ys) some =
      let rest = begin_runs ys (λ x c. some x (in_rest y ys x c)) in
      elim (is_followed recs y) as (λ t. filter has_blocks ((if t then emptied y else run_of recs y) ∷ map (λ r. if is_followed recs r then emptied r else run_of recs r) ys) ≡ map (run_of recs) (if not t then y ∷ filter (λ q. not (is_followed recs q)) ys else filter (λ q. not (is_followed recs q)) ys)) [
        | true ↦ rest
        | false ↦
            let more = chain_more (2 ^ 32 - (y.start + y.count)) y in
            let one = some y (in_front y ys) in
            let stands : has_blocks (run_of recs y) ≡ true = lt-ltb 0 (run_of recs y).count (omega (arith, more, one)) in
            ap (λ (t : Bool). cond t (run_of recs y ∷ filter has_blocks (map (λ r. if is_followed recs r then emptied r else run_of recs r) ys)) (filter has_blocks (map (λ r. if is_followed recs r then emptied r else run_of recs r) ys))) stands
            ∙ ap (λ (rs : List RmapRec). run_of recs y ∷ rs) rest
      ]

  pub all_joined : (xs : List RmapRec) → AreJoinedFrom recs 0 xs → filter has_blocks xs ≡ joined_pieces recs
  unfolding joined_pieces
  all_joined xs done =
      ap (filter has_blocks) (same_list_by (settled recs 0) xs recs done.long (λ k d lt. done.back k d (omega arith) lt))
      ∙ begin_runs recs (λ y c. piece_some recs are.rooms y c)

-- ---- pieces as records

pub map_long : (ps : List Piece) → length (map of_piece ps) ≡ length ps
map_long [] = refl
map_long (p ∷ ps) = ap suc (map_long ps)

pub mapped_at : (ps : List Piece) (k : ℕ) (p : Piece) (d : RmapRec) → k < length ps → get_or (map of_piece ps) k d ≡ of_piece (get_or ps k p)
mapped_at [] k p d lt = absurd (omega (arith, lt))
mapped_at (x ∷ xs) zero p d lt = refl
mapped_at (x ∷ xs) (suc k) p d lt = mapped_at xs k p d (omega (arith, lt))

pub parted : (ps : List Piece) (next : RmapRec) → Rises is_before (map of_piece ps) → IsPartitionedBy (λ (u : Piece). is_before (of_piece u) next) ps
parted ps next rises i j d order within passes =
    let long = map_long ps in
    let low : i < length ps = omega (arith, order, within) in
    sym (ap (λ (r : RmapRec). is_before r next) (mapped_at ps i d (of_piece d) low))
    ∙ parted_recs (map of_piece ps) next rises i j (of_piece d) order (omega (arith, within, long)) (ap (λ (r : RmapRec). is_before r next) (mapped_at ps j d (of_piece d) within) ∙ passes)

pub some_piece : (ps : List Piece) (k : ℕ) → k < length ps → Piece
some_piece [] k lt = absurd (omega (arith, lt))
some_piece (x ∷ xs) k lt = x

-- what a place past the end reads as
abbrev pub nothing : Piece
nothing = record { claim = Heads; run = record { start = 0; count = 0 }; owner = 0; word = 0 }

-- what comes before the record as far as a piece, and what doesn't from a piece on
pub before_to : (ps : List Piece) (next : RmapRec) → Rises is_before (map of_piece ps) → (j : ℕ) → j < length ps → is_before (of_piece (get_or ps j nothing)) next ≡ true
    → (k : ℕ) (d : RmapRec) → k < j + 1 → is_before (get_or (map of_piece ps) k d) next ≡ true
before_to ps next rises j within is k d below =
    ap (λ (r : RmapRec). is_before r next) (mapped_at ps k nothing d (omega (arith, within, below))) ∙ parted ps next rises k j nothing (omega (arith, below)) within is

pub others_from : (ps : List Piece) (next : RmapRec) → Rises is_before (map of_piece ps) → (j : ℕ) → j < length ps → is_before (of_piece (get_or ps j nothing)) next ≡ false
    → (k : ℕ) (d : RmapRec) → j ≤ k → k < length ps → is_before (get_or (map of_piece ps) k d) next ≡ false
others_from ps next rises j within not_is k d low lt =
    let here = ap (λ (r : RmapRec). is_before r next) (mapped_at ps k nothing d lt) in
    false_by (is_before (get_or (map of_piece ps) k d) next) (λ is. false≢true (sym not_is ∙ parted ps next rises j k nothing low lt (sym here ∙ is)))

abbrev pub with_blocks : ℕ → Piece → Piece
with_blocks n p = record { claim = p.claim; run = record { start = p.run.start; count = n }; owner = p.owner; word = p.word }

map_set : (ps : List Piece) (k : ℕ) (p : Piece) → map of_piece (set ps k p) ≡ set (map of_piece ps) k (of_piece p)
map_set [] k p = refl
map_set (x ∷ xs) zero p = refl
map_set (x ∷ xs) (suc k) p = ap (λ (rs : List RmapRec). of_piece x ∷ rs) (map_set xs k p)

pub set_there : (ps : List Piece) (k n : ℕ) (d : RmapRec) → k < length ps → get_or (map of_piece (set ps k (with_blocks n (get_or ps k nothing)))) k d ≡ counted n (get_or (map of_piece ps) k d)
set_there ps k n d lt =
    let long = map_long ps in
    ap (λ (xs : List RmapRec). get_or xs k d) (map_set ps k (with_blocks n (get_or ps k nothing)))
    ∙ (get_or-set_same (map of_piece ps) k (of_piece (with_blocks n (get_or ps k nothing))) d (omega (arith, long, lt)) ∙ ap (counted n) (sym (mapped_at ps k nothing d lt)))

pub set_others : (ps : List Piece) (k n j : ℕ) (d : RmapRec) → j ≢ k → get_or (map of_piece (set ps k (with_blocks n (get_or ps k nothing)))) j d ≡ get_or (map of_piece ps) j d
set_others ps k n j d other = ap (λ (xs : List RmapRec). get_or xs j d) (map_set ps k (with_blocks n (get_or ps k nothing))) ∙ get_or-set_other (map of_piece ps) k j (of_piece (with_blocks n (get_or ps k nothing))) d other

pub fits_at : (ps : List Piece) (k : ℕ) → k < length ps → All Fits (map of_piece ps) → Fits (of_piece (get_or ps k nothing))
fits_at ps k lt rooms =
    let long = map_long ps in
    subst Fits (mapped_at ps k nothing (of_piece nothing) lt) (rooms k (of_piece nothing) (omega (arith, long, lt)))

-- two counts were set: that of piece m to n, and that of piece j to nothing
module _ (m j n : ℕ) (ps zs ys : List Piece) (zs_long : length zs ≡ length ps) (ys_long : length ys ≡ length zs)
    (grown : (d : RmapRec) → get_or (map of_piece zs) m d ≡ counted n (get_or (map of_piece ps) m d)) (first_others : (k : ℕ) (d : RmapRec) → k ≢ m → get_or (map of_piece zs) k d ≡ get_or (map of_piece ps) k d)
    (gone : (d : RmapRec) → get_or (map of_piece ys) j d ≡ counted 0 (get_or (map of_piece zs) j d)) (then_others : (k : ℕ) (d : RmapRec) → k ≢ j → get_or (map of_piece ys) k d ≡ get_or (map of_piece zs) k d) where
  long_all : length (map of_piece ys) ≡ length (map of_piece ps)
  long_all = map_long ys ∙ (ys_long ∙ (zs_long ∙ sym (map_long ps)))

  fit_first : (get_or ps m nothing).run.start + n < 2 ^ 32 → m < length ps → All Fits (map of_piece ps) → (k : ℕ) (d : RmapRec) → k < length (map of_piece ps) → Fits (get_or (map of_piece zs) k d)
  fit_first end lt rooms k d room = elim (cases_order k m) [
    | inl is ↦ subst (λ (x : ℕ). Fits (get_or (map of_piece zs) x d)) (sym is) (subst Fits (sym (grown d ∙ ap (counted n) (mapped_at ps m nothing d lt))) end)
    | inr other ↦ subst Fits (sym (first_others k d (λ is. elim other [ inl a ↦ absurd (omega (arith, a, is)) | inr b ↦ absurd (omega (arith, b, is)) ]))) (rooms k d room)
  ]

  keys_both : (k : ℕ) (d : RmapRec) → key_of (get_or (map of_piece ys) k d) ≡ key_of (get_or (map of_piece ps) k d)
  keys_both k d = same_then ∙ same_first where
    same_then : key_of (get_or (map of_piece ys) k d) ≡ key_of (get_or (map of_piece zs) k d)
    same_then = elim (cases_order k j) [
      | inl is ↦ subst (λ (x : ℕ). key_of (get_or (map of_piece ys) x d) ≡ key_of (get_or (map of_piece zs) x d)) (sym is) (ap key_of (gone d))
      | inr other ↦ ap key_of (then_others k d (λ is. elim other [ inl a ↦ absurd (omega (arith, a, is)) | inr b ↦ absurd (omega (arith, b, is)) ]))
    ]

    same_first : key_of (get_or (map of_piece zs) k d) ≡ key_of (get_or (map of_piece ps) k d)
    same_first = elim (cases_order k m) [
      | inl is ↦ subst (λ (x : ℕ). key_of (get_or (map of_piece zs) x d) ≡ key_of (get_or (map of_piece ps) x d)) (sym is) (ap key_of (grown d))
      | inr other ↦ ap key_of (first_others k d (λ is. elim other [ inl a ↦ absurd (omega (arith, a, is)) | inr b ↦ absurd (omega (arith, b, is)) ]))
    ]

  pub sorted_kept : Rises is_before (map of_piece ps) → Rises is_before (map of_piece ys)
  sorted_kept rises = rises_same (map of_piece ys) (map of_piece ps) long_all (λ k d lt. keys_both k d) rises

  emptied_fits : (r s : RmapRec) → s ≡ counted 0 r → Fits r → Fits s
  emptied_fits r s e fits = subst Fits (sym e) (omega (arith, fits))

  pub rooms_kept : (get_or ps m nothing).run.start + n < 2 ^ 32 → m < length ps → All Fits (map of_piece ps) → All Fits (map of_piece ys)
  rooms_kept end lt rooms k d room =
      let long = long_all in
      let fits = fit_first end lt rooms k d (omega (arith, long, room)) in
      elim (cases_order k j) [
        | inl is ↦ emptied_fits (get_or (map of_piece zs) k d) (get_or (map of_piece ys) k d) (subst (λ (x : ℕ). get_or (map of_piece ys) x d ≡ counted 0 (get_or (map of_piece zs) x d)) (sym is) (gone d)) fits
        | inr other ↦ subst Fits (sym (then_others k d (λ is. elim other [ inl a ↦ absurd (omega (arith, a, is)) | inr b ↦ absurd (omega (arith, b, is)) ]))) fits
      ]

  pub joined_some : (recs : List RmapRec) (are : ArePieces recs) → m < length ps → j < length ps → ((d : RmapRec) → can_join (of_piece (get_or ps m nothing)) (get_or (map of_piece ps) j d) ≡ true) → n ≡ (get_or ps m nothing).run.count + (get_or ps j nothing).run.count
      → AreJoinedFrom recs (m + 1) (map of_piece ps) → AreJoinedFrom recs m (map of_piece ys)
  joined_some recs are lt room h sum so_far =
      let d : RmapRec = of_piece nothing in
      let xs_long = map_long ps in
      let all = so_far.long in
      let here_lt : m < length recs = omega (arith, lt, xs_long, all) in
      let in_xs : j < length (map of_piece ps) = omega (arith, room, xs_long) in
      let at_m : get_or (map of_piece ps) m d ≡ of_piece (get_or ps m nothing) = mapped_at ps m nothing d lt in
      let at_j : get_or (map of_piece ps) j d ≡ of_piece (get_or ps j nothing) = mapped_at ps j nothing d room in
      let meets : can_join (get_or (map of_piece ps) m d) (get_or (map of_piece ps) j d) ≡ true = ap (λ (p : RmapRec). can_join p (get_or (map of_piece ps) j d)) at_m ∙ h d in
      let later = comes_later recs are m (map of_piece ps) here_lt so_far j d in_xs meets in
      let count : n ≡ (get_or (map of_piece ps) m d).count + (get_or (map of_piece ps) j d).count = sum ∙ (λ i. (sym at_m i).count + (sym at_j i).count) in
      taken_in recs are m (map of_piece ps) here_lt so_far j d (map of_piece ys) in_xs meets (has_room_at recs are.rooms (get_or recs m d) (at_place recs m d here_lt)).1 long_all
      (then_others m d (λ is. omega (arith, is, later)) ∙ (grown d ∙ ap (λ (x : ℕ). counted x (get_or (map of_piece ps) m d)) count))
      (gone d ∙ ap (counted 0) (first_others j d (λ is. omega (arith, is, later))))
      (λ k e not_m not_j. then_others k e not_j ∙ first_others k e not_m)

pub joined_none : (recs : List RmapRec) (are : ArePieces recs) (m : ℕ) (ps : List Piece) → m < length ps → ((q : RmapRec) → Contains (map of_piece ps) q → can_join (of_piece (get_or ps m nothing)) q ≡ false)
    → AreJoinedFrom recs (m + 1) (map of_piece ps) → AreJoinedFrom recs m (map of_piece ps)
joined_none recs are m ps lt none so_far =
    let d : RmapRec = of_piece nothing in
    let xs_long = map_long ps in
    let all = so_far.long in
    alone recs are m (map of_piece ps) (omega (arith, lt, xs_long, all)) so_far d (λ q c. ap (λ (p : RmapRec). can_join p q) (mapped_at ps m nothing d lt) ∙ none q c)
