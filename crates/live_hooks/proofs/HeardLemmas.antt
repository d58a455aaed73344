-- What a scan has heard follows what changes and what is given.
use Rattle.std.proofs.Common.{◌≡◌, ℕ, ◌<◌, ◌≤◌, Bool, true, false, ◌==◌, List, [], ◌∷◌, ◌++◌, Contains, Result, Ok, Err, sym, ap, ◌∙◌, subst, inl, inr, arith, append_assoc, append-nil}
use Rattle.std.specs.Prelude.{nat_le, OnOk}
use Rattle.std.specs.List.{filter}
use Rattle.std.specs.List.Sorted.{IsPermutation}
use Rattle.std.proofs.lemmas.Bool.{cases_lt}
use Rattle.std.proofs.lemmas.Bool.Decides.{nat_tests}
use Rattle.std.proofs.lemmas.List.Elements.{Contains-append_cases, filter-append}
use Rattle.std.proofs.lemmas.List.Sorted.{Contains-permutation, IsPermutation-refl, IsPermutation-trans, IsPermutation-sym, IsPermutation-cons, IsPermutation-append_left, IsPermutation-append_right}
use Rattle.rmap_recs.proofs.RisingLemmas.{in_either, filtered, mapped}
use Rattle.run_edits.specs.Pieces.{tuples_of}
use Rattle.live_hooks.specs.Heard.{Inode, Owned, owned_at, owned_by, AreApart, AreAdded, AreMoved, IsAdded, IsMoved}
use Rattle.live_hooks.specs.Meaning.{MovesInode, MovesOwned, AnyOrder}
use Rattle.live_hooks.specs.Scan.{is_visited, visited_inodes, heard, IsGiven, KeepsUp, PassesNone, HearsAll, HearsNone, GivenBack}
use Rattle.live_hooks.specs.declared.records.GroupRec.{GroupRec}
use Rattle.live_hooks.proofs.ListLemmas.{filter_permutes, all_pass, none_passes, filter_alike, Splits, split_in_two, first_in_front}

abbrev seen : ℕ → Owned → Bool
seen c o = is_visited c o.inode.ino

-- ---- whose a record's blocks are

pub owner_is : (v : Inode) (r : GroupRec) (o : Owned) → Contains (owned_by v r) o → o.inode ≡ v
unfolding owned_by
owner_is v r o c = let at = mapped (owned_at v r.group) (tuples_of (r.rec ∷ [])) o c in sym (ap (λ (x : Owned). x.inode) at.2)

seen_is : (c : ℕ) (v : Inode) (r : GroupRec) (o : Owned) → Contains (owned_by v r) o → seen c o ≡ is_visited c v.ino
seen_is c v r o h = ap (λ (w : Inode). is_visited c w.ino) (owner_is v r o h)

all_seen : (c : ℕ) (v : Inode) (r : GroupRec) → is_visited c v.ino ≡ true → filter (seen c) (owned_by v r) ≡ owned_by v r
all_seen c v r is = all_pass (seen c) (owned_by v r) (λ o h. seen_is c v r o h ∙ is)

none_seen : (c : ℕ) (v : Inode) (r : GroupRec) → is_visited c v.ino ≡ false → filter (seen c) (owned_by v r) ≡ []
none_seen c v r is = none_passes (seen c) (owned_by v r) (λ o h. seen_is c v r o h ∙ is)

-- ---- inodes that are made or given back

module _ (c : ℕ) (v : Inode) where
  visited_added : (vs ws : List Inode) → is_visited c v.ino ≡ true → IsAdded v vs ws → IsAdded v (visited_inodes c vs) (visited_inodes c ws)
  unfolding visited_inodes
  visited_added vs ws is added = record {
    new = λ w h same. added.new w (filtered (λ x. is_visited c x.ino) vs w h).0 same;
    all = rw is at (filter_permutes (λ x. is_visited c x.ino) (v ∷ vs) ws added.all);
  }

  pub visited_moved : (taken : Bool) (vs ws : List Inode) → is_visited c v.ino ≡ true → IsMoved taken v vs ws → IsMoved taken v (visited_inodes c vs) (visited_inodes c ws)
  visited_moved true vs ws is moved = visited_added vs ws is moved
  visited_moved false vs ws is moved = visited_added ws vs is moved

  unvisited_added : (vs ws : List Inode) → is_visited c v.ino ≡ false → IsAdded v vs ws → IsPermutation (visited_inodes c vs) (visited_inodes c ws)
  unfolding visited_inodes
  unvisited_added vs ws is added = rw is at (filter_permutes (λ x. is_visited c x.ino) (v ∷ vs) ws added.all)

  pub unvisited_moved : (taken : Bool) (vs ws : List Inode) → is_visited c v.ino ≡ false → IsMoved taken v vs ws → IsPermutation (visited_inodes c vs) (visited_inodes c ws)
  unvisited_moved true vs ws is moved = unvisited_added vs ws is moved
  unvisited_moved false vs ws is moved = IsPermutation-sym (visited_inodes c ws) (visited_inodes c vs) (unvisited_added ws vs is moved)

-- ---- blocks that change

module _ (c : ℕ) (v : Inode) (r : GroupRec) (given : List Owned) where
  abbrev new : List Owned
  new = owned_by v r

  heard_apart : (os : List Owned) → AreApart new os → AreApart new given → AreApart new (heard c os given)
  unfolding heard
  heard_apart os apart beside = λ o p h k same. elim (Contains-append_cases (filter (seen c) os) given p k) [
    | inl old ↦ apart o p h (filtered (seen c) os p old).0 same
    | inr held ↦ beside o p h held same
  ]

  heard_all : (os ps : List Owned) → is_visited c v.ino ≡ true → IsPermutation (new ++ os) ps → IsPermutation (new ++ heard c os given) (heard c ps given)
  unfolding heard
  heard_all os ps is all =
      let kept = subst (λ (xs : List Owned). IsPermutation xs (filter (seen c) ps)) (filter-append (seen c) new os ∙ ap (λ (xs : List Owned). xs ++ filter (seen c) os) (all_seen c v r is)) (filter_permutes (seen c) (new ++ os) ps all) in
      subst (λ (xs : List Owned). IsPermutation xs (filter (seen c) ps ++ given)) (append_assoc new (filter (seen c) os) given)
      (IsPermutation-append_left given (new ++ filter (seen c) os) (filter (seen c) ps) kept)

  heard_added : (os ps : List Owned) → is_visited c v.ino ≡ true → AreApart new given → AreAdded new os ps → AreAdded new (heard c os given) (heard c ps given)
  heard_added os ps is beside added = record { apart = heard_apart os added.apart beside; all = heard_all os ps is added.all }

  pub heard_moved : (add : Bool) (os ps : List Owned) → is_visited c v.ino ≡ true → AreApart new given → AreMoved add new os ps → AreMoved add new (heard c os given) (heard c ps given)
  heard_moved true os ps is beside moved = heard_added os ps is beside moved
  heard_moved false os ps is beside moved = heard_added ps os is beside moved

  unheard_added : (os ps : List Owned) → is_visited c v.ino ≡ false → AreAdded new os ps → IsPermutation (heard c os given) (heard c ps given)
  unfolding heard
  unheard_added os ps is added =
      IsPermutation-append_left given (filter (seen c) os) (filter (seen c) ps)
      (subst (λ (xs : List Owned). IsPermutation xs (filter (seen c) ps)) (filter-append (seen c) new os ∙ ap (λ (xs : List Owned). xs ++ filter (seen c) os) (none_seen c v r is)) (filter_permutes (seen c) (new ++ os) ps added.all))

  pub unheard_moved : (add : Bool) (os ps : List Owned) → is_visited c v.ino ≡ false → AreMoved add new os ps → IsPermutation (heard c os given) (heard c ps given)
  unheard_moved true os ps is moved = unheard_added os ps is moved
  unheard_moved false os ps is moved = IsPermutation-sym (heard c ps given) (heard c os given) (unheard_added ps os is moved)

  -- a piece of the inode that is held
  pub piece_added : (os : List Owned) → AreApart new (heard c os given) → AreAdded new (heard c os given) (heard c os (new ++ given))
  unfolding heard
  piece_added os apart = record { apart = apart; all = first_in_front new (filter (seen c) os) given }

-- ---- the cursor comes to an inode that was given whole

is_up_to : (a b : ℕ) → nat_le a b ≡ true → a ≤ b
is_up_to a b h = grind (arith, nat_tests)

up_to : (a b : ℕ) → a ≤ b → nat_le a b ≡ true
up_to a b h = grind (arith, nat_tests)

not_up_to : (a b : ℕ) → b < a → nat_le a b ≡ false
not_up_to a b h = grind (arith, nat_tests)

other_number : (a b : ℕ) → a < b → (a == b) ≡ false
other_number a b h = grind (arith, nat_tests)

number_above : (a b : ℕ) → b < a → (a == b) ≡ false
number_above a b h = grind (arith, nat_tests)

same_number : (a b : ℕ) → a ≡ b → (a == b) ≡ true
same_number a b h = grind (arith, nat_tests)

module _ (c : ℕ) (v : Inode) (vs : List Inode) (os given : List Owned) (whole : IsGiven c v vs os given) where
  splits : (o : Owned) → Contains os o → Splits (seen v.ino o) (seen c o) (o.inode.ino == v.ino)
  splits o h = elim (cases_lt c o.inode.ino) [
    | inr passed ↦
        let above = whole.above in
        inl (up_to o.inode.ino v.ino (omega (arith, passed, above)), up_to o.inode.ino c passed, other_number o.inode.ino v.ino (omega (arith, passed, above)))
    | inl later ↦ elim (cases_lt v.ino o.inode.ino) [
      | inl beyond ↦ inr (inr (not_up_to o.inode.ino v.ino beyond, not_up_to o.inode.ino c later, number_above o.inode.ino v.ino beyond))
      | inr here ↦
          let unseen = not_up_to o.inode.ino c later in
          let reached = up_to o.inode.ino v.ino here in
          inr (inl (reached, unseen, same_number o.inode.ino v.ino (whole.owners o h unseen reached)))
    ]
  ]

  pub given_heard : IsPermutation (heard c os given) (heard v.ino os [])
  unfolding heard
  given_heard =
      let own = filter (λ (o : Owned). o.inode.ino == v.ino) os in
      subst (IsPermutation (filter (seen c) os ++ given)) (sym (append-nil (filter (seen v.ino) os)))
      (IsPermutation-trans (filter (seen c) os ++ given) (filter (seen c) os ++ own) (filter (seen v.ino) os)
      (IsPermutation-append_right (filter (seen c) os) given own whole.whole)
      (split_in_two (seen v.ino) (seen c) (λ o. o.inode.ino == v.ino) os splits))

  abbrev listed : ℕ → Inode → Bool
  listed d w = is_visited d w.ino

  pub inode_added : IsAdded v (visited_inodes c vs) (visited_inodes v.ino vs)
  unfolding visited_inodes
  inode_added = record {
    new = λ w h same.
        let low = is_up_to w.ino c (filtered (listed c) vs w h).1 in
        let above = whole.above in
        omega (arith, low, above, same);
    all =
        let above = whole.above in
        let before = filter_permutes (listed c) (v ∷ whole.others) vs whole.listed in
        let after = filter_permutes (listed v.ino) (v ∷ whole.others) vs whole.listed in
        let same : filter (listed v.ino) whole.others ≡ filter (listed c) whole.others = filter_alike (listed v.ino) (listed c) whole.others whole.next in
        let first : IsPermutation (filter (listed c) whole.others) (filter (listed c) vs) = rw (not_up_to v.ino c above) at before in
        let second : IsPermutation (v ∷ filter (listed v.ino) whole.others) (filter (listed v.ino) vs) = rw (up_to v.ino v.ino (omega arith)) at after in
        IsPermutation-trans (v ∷ filter (listed c) vs) (v ∷ filter (listed c) whole.others) (filter (listed v.ino) vs)
        (IsPermutation-cons v (filter (listed c) vs) (filter (listed c) whole.others) (IsPermutation-sym (filter (listed c) whole.others) (filter (listed c) vs) first))
        (subst (λ (xs : List Inode). IsPermutation (v ∷ xs) (filter (listed v.ino) vs)) same second);
  }

-- ---- the laws

pub passes : PassesNone
unfolding visited_inodes heard
passes c d vs os given passed = (
  filter_alike (λ v. is_visited d v.ino) (λ v. is_visited c v.ino) vs passed.inodes,
  ap (λ (xs : List Owned). xs ++ given) (filter_alike (seen d) (seen c) os passed.owned),
)

pub hears_whole : HearsAll
unfolding visited_inodes heard
hears_whole c vs os inodes owned = (
  all_pass (λ v. is_visited c v.ino) vs (λ v h. up_to v.ino c (inodes v h)),
  append-nil (filter (seen c) os) ∙ all_pass (seen c) os (λ o h. up_to o.inode.ino c (owned o h)),
)

pub hears_nothing : HearsNone
unfolding visited_inodes heard
hears_nothing c vs os inodes owned = (
  none_passes (λ v. is_visited c v.ino) vs (λ v h. not_up_to v.ino c (inodes v h)),
  append-nil (filter (seen c) os) ∙ none_passes (seen c) os (λ o h. not_up_to o.inode.ino c (owned o h)),
)

pub back_given : GivenBack
back_given v vs ws os moved listed = (
  (λ none o h. elim (in_either v ws o.inode (Contains-permutation vs (v ∷ ws) o.inode (IsPermutation-sym (v ∷ ws) vs moved.all) (listed o h))) [
    | inl same ↦ absurd (none o h (ap (λ (w : Inode). w.ino) (sym same)))
    | inr there ↦ there
  ]),
  (λ others o h same. moved.new o.inode (others o h) same),
)

-- ---- what the listener stands for after a call

module _ {T E : Type 0} (before after : List Inode → List Owned → Type 0) (v : Inode) where
  pub piece_told : (r : Result T E) (rec : GroupRec) → OnOk r (MovesOwned before after true (owned_by v rec))
      → OnOk r ((c : ℕ) (vs : List Inode) (os given : List Owned) → AreApart (owned_by v rec) (heard c os given) → KeepsUp before c vs os given → KeepsUp after c vs os (owned_by v rec ++ given))
  piece_told (Ok x) rec told = λ c vs os given apart up. told (visited_inodes c vs) (heard c os given) (heard c os (owned_by v rec ++ given)) (piece_added c v rec given os apart) up
  piece_told (Err e) rec told = tt

  pub last_told : AnyOrder after → (r : Result T E) → OnOk r (MovesInode before after true v)
      → OnOk r ((c : ℕ) (vs : List Inode) (os given : List Owned) → IsGiven c v vs os given → KeepsUp before c vs os given → KeepsUp after v.ino vs os [])
  last_told any (Ok x) told = λ c vs os given whole up.
      any (visited_inodes v.ino vs) (visited_inodes v.ino vs) (heard c os given) (heard v.ino os []) (IsPermutation-refl (visited_inodes v.ino vs)) (given_heard c v vs os given whole)
      (told (visited_inodes c vs) (visited_inodes v.ino vs) (heard c os given) (inode_added c v vs os given whole) up)
  last_told any (Err e) told = tt

  pub delta_told : (c : ℕ) → is_visited c v.ino ≡ true → (r : Result T E) (rec : GroupRec) (add : Bool) → OnOk r (MovesOwned before after add (owned_by v rec))
      → OnOk r ((vs : List Inode) (os ps given : List Owned) → AreMoved add (owned_by v rec) os ps → AreApart (owned_by v rec) given → KeepsUp before c vs os given → KeepsUp after c vs ps given)
  delta_told c seen_it (Ok x) rec add told = λ vs os ps given moved apart up. told (visited_inodes c vs) (heard c os given) (heard c ps given) (heard_moved c v rec given add os ps seen_it apart moved) up
  delta_told c seen_it (Err e) rec add told = tt

  pub inode_told : (c : ℕ) → is_visited c v.ino ≡ true → (r : Result T E) (taken : Bool) → OnOk r (MovesInode before after taken v)
      → OnOk r ((vs ws : List Inode) (os given : List Owned) → IsMoved taken v vs ws → KeepsUp before c vs os given → KeepsUp after c ws os given)
  inode_told c seen_it (Ok x) taken told = λ vs ws os given moved up. told (visited_inodes c vs) (visited_inodes c ws) (heard c os given) (visited_moved c v taken vs ws seen_it moved) up
  inode_told c seen_it (Err e) taken told = tt

-- nobody hears of an inode that the scan will come to
module _ (meaning : List Inode → List Owned → Type 0) (any : AnyOrder meaning) (c : ℕ) (v : Inode) (unseen : is_visited c v.ino ≡ false) where
  pub delta_waits : (rec : GroupRec) (add : Bool) (vs : List Inode) (os ps given : List Owned) → AreMoved add (owned_by v rec) os ps → KeepsUp meaning c vs os given → KeepsUp meaning c vs ps given
  delta_waits rec add vs os ps given moved up =
      any (visited_inodes c vs) (visited_inodes c vs) (heard c os given) (heard c ps given) (IsPermutation-refl (visited_inodes c vs)) (unheard_moved c v rec given add os ps unseen moved) up

  pub inode_waits : (taken : Bool) (vs ws : List Inode) (os given : List Owned) → IsMoved taken v vs ws → KeepsUp meaning c vs os given → KeepsUp meaning c ws os given
  inode_waits taken vs ws os given moved up =
      any (visited_inodes c vs) (visited_inodes c ws) (heard c os given) (heard c os given) (unvisited_moved c v taken vs ws unseen moved) (IsPermutation-refl (heard c os given)) up
