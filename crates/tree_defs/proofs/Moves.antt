-- How a trail grows where blocks are read.
use Rattle.std.proofs.Common.{◌≡◌, ℕ, ◌<◌, Bool, true, false, List, [], ◌∷◌, ◌++◌, length, None, refl, sym, ◌∙◌, arith, append_assoc}
use Rattle.std.proofs.lemmas.List.{append-nil, get_or-set_same, get_or-set_other, length-set}
use Rattle.std.specs.Prelude.{slice_index, slice_set, ◌==◌, ◌⊎◌, if◌then◌else◌}
use Rattle.std.proofs.lemmas.Bool.{eqb-true}
use Rattle.std.proofs.lemmas.Bool.Decides.{nat_tests}
use Rattle.sblock.specs.Form.{Form}
use Rattle.tree_defs.specs.Levels.{IsChain, last_right, RisesAfter, here}
use Rattle.sblock.specs.Headers.{no_block, left_of, right_of}
use Rattle.tree_defs.specs.Tree.{Trail, noted, with_recs}
use Rattle.tree_defs.proofs.Parts.{last_block, last_rec, last_block_append, last_right_append, last_rec_append, chain_join, rising_join}

pub record Sized {R : Type 0} (t : Trail R) : Type 0 where
  pub before : length t.before ≡ 9
  pub next : length t.next ≡ 9

-- from trail t to trail u these blocks were read, level by level, with these records
pub record Moved {R K : Type 0} (form : Form R K) (m : ℕ → List ℕ) (rows : ℕ → List ℕ) (recs : List R) (blocks : List ℕ) (t u : Trail R) : Type 0 where
  pub links : (j : ℕ) → j < 9 → IsChain m (slice_index t.before j) (slice_index t.next j) (rows j)
  pub before : (j : ℕ) → j < 9 → slice_index u.before j ≡ last_block (slice_index t.before j) (rows j)
  pub next : (j : ℕ) → j < 9 → slice_index u.next j ≡ last_right m (slice_index t.next j) (rows j)
  pub recs_are : u.recs ≡ t.recs ++ recs
  pub blocks_are : u.blocks ≡ t.blocks ++ blocks
  pub rises : RisesAfter form (last_rec None t.recs) recs
  pub sized : Sized u

pub last_after : {R : Type 0} (t : Trail R) (us recs : List R) → us ≡ t.recs ++ recs → last_rec None us ≡ last_rec (last_rec None t.recs) recs
last_after t us recs e = rw e (last_rec_append None t.recs recs)

module _ {R K : Type 0} (form : Form R K) (m : ℕ → List ℕ) where
  pub moved_join : (rows more : ℕ → List ℕ) (recs others : List R) (blocks rest : List ℕ) (t u v : Trail R) → Moved form m rows recs blocks t u → Moved form m more others rest u v → Moved form m (λ j. rows j ++ more j) (recs ++ others) (blocks ++ rest) t v
  moved_join rows more recs others blocks rest t u v first second = record {
    links = λ j lt. chain_join m (slice_index t.before j) (slice_index t.next j) (rows j) (more j) (first.links j lt) (rw (← (first.before j lt), ← (first.next j lt)) (second.links j lt));
    before = λ j lt. second.before j lt ∙ rw (first.before j lt) (sym (last_block_append (slice_index t.before j) (rows j) (more j)));
    next = λ j lt. second.next j lt ∙ rw (first.next j lt) (sym (last_right_append m (slice_index t.next j) (rows j) (more j)));
    recs_are = second.recs_are ∙ rw (first.recs_are) (append_assoc t.recs recs others);
    blocks_are = second.blocks_are ∙ rw (first.blocks_are) (append_assoc t.blocks blocks rest);
    rises = rising_join form (last_rec None t.recs) recs others first.rises (rw (← (last_after t u.recs recs first.recs_are)) second.rises);
    sized = second.sized;
  }

  pub moved_none : (t : Trail R) → Sized t → Moved form m (λ j. []) [] [] t t
  moved_none t sized = record {
    links = λ j lt. tt;
    before = λ j lt. refl;
    next = λ j lt. refl;
    recs_are = sym (append-nil t.recs);
    blocks_are = sym (append-nil t.blocks);
    rises = tt;
    sized = sized;
  }

-- one block, on its own level
here_links : (b : Bool) (m : ℕ → List ℕ) (before next p : ℕ) → (b ≡ true → (left_of (m p) ≡ before) × ((before ≡ no_block) ⊎ (next ≡ p))) → IsChain m before next (if b then p ∷ [] else [])
here_links true m before next p h = let g = h refl in (g.0, g.1, tt)
here_links false m before next p h = tt

here_block : (b : Bool) (v w p : ℕ) → (b ≡ true → v ≡ p) → (b ≡ false → v ≡ w) → v ≡ last_block w (if b then p ∷ [] else [])
here_block true v w p f g = f refl
here_block false v w p f g = g refl

here_right : (b : Bool) (m : ℕ → List ℕ) (v w p : ℕ) → (b ≡ true → v ≡ right_of (m p)) → (b ≡ false → v ≡ w) → v ≡ last_right m w (if b then p ∷ [] else [])
here_right true m v w p f g = f refl
here_right false m v w p f g = g refl

not_same : (a b : ℕ) → (a == b) ≡ false → a ≡ b → ⊥
not_same a b h e = grind (arith, nat_tests)

set_here : (xs : List ℕ) (level j p : ℕ) → level < length xs → (j == level) ≡ true → slice_index (slice_set xs level p) j ≡ p
set_here xs level j p lt h = rw (eqb-true j level h) (get_or-set_same xs level p 0 lt)

set_there : (xs : List ℕ) (level j p : ℕ) → (j == level) ≡ false → slice_index (slice_set xs level p) j ≡ slice_index xs j
set_there xs level j p h = get_or-set_other xs level j p 0 (not_same j level h)

-- the block's siblings are those that the walk has met
abbrev pub FollowsOn : {R : Type 0} → (ℕ → List ℕ) → Trail R → ℕ → ℕ → Type 0
FollowsOn m t level p =
    (left_of (m p) ≡ slice_index t.before level) × ((slice_index t.before level ≡ no_block) ⊎ (slice_index t.next level ≡ p))

at_same : {R : Type 0} (m : ℕ → List ℕ) (t : Trail R) (level j p : ℕ) → (j == level) ≡ true → FollowsOn m t level p → FollowsOn m t j p
at_same m t level j p h g = rw (eqb-true j level h) g

module _ {R K : Type 0} (form : Form R K) (m : ℕ → List ℕ) where
  -- a block is read, and these records of it
  pub entered : (t : Trail R) (level p : ℕ) (rs : List R) → Sized t → level < 9 → FollowsOn m t level p → RisesAfter form (last_rec None t.recs) rs → Moved form m (λ j. here level j p) rs (p ∷ []) t (with_recs (noted t level p (m p)) rs)
  unfolding noted with_recs
  entered t level p rs sized lt follows rises =
      let in_before : level < length t.before = omega (arith, sized.before) in
      let in_next : level < length t.next = omega (arith, sized.next) in
      record {
        links = λ j w. here_links (j == level) m (slice_index t.before j) (slice_index t.next j) p (λ h. at_same m t level j p h follows);
        before = λ j w. here_block (j == level) (slice_index (slice_set t.before level p) j) (slice_index t.before j) p (set_here t.before level j p in_before) (set_there t.before level j p);
        next = λ j w. here_right (j == level) m (slice_index (slice_set t.next level (right_of (m p))) j) (slice_index t.next j) p (set_here t.next level j (right_of (m p)) in_next) (set_there t.next level j (right_of (m p)));
        recs_are = refl;
        blocks_are = refl;
        rises = rises;
        sized = record { before = length-set t.before level p ∙ sized.before; next = length-set t.next level (right_of (m p)) ∙ sized.next };
      }

  pub no_more : (t : Trail R) → with_recs t [] ≡ t
  unfolding with_recs
  no_more t = rw (append-nil t.recs) refl
