-- Lists of cores, and what they say of a unit.
use Rattle.std.proofs.Common.{◌≡◌, ℕ, zero, suc, ◌+◌, ◌*◌, ◌/◌, ◌<◌, ◌≤◌, List, [], ◌∷◌, ◌++◌, length, get_or, drop, map, refl, ap, sym, ◌∙◌, arith, append_assoc, Option, Some, None, Result, Ok, Err}
use Rattle.std.specs.Prelude.{flat_map, slice_index_or}
use Rattle.std.proofs.lemmas.List.{append-nil}
use Rattle.std.proofs.Math.Seq.{drop-cons}
use Rattle.dinode_core.specs.Core.{core_fault, core_of}
use Rattle.dinode_core.specs.declared.inode.CoreFault.{CoreFault}
use Rattle.fs_state.specs.Contradiction.{bad_core}
use Rattle.fs_state.specs.Lists.{numbers, first_of_all}
use Rattle.fs_model.specs.declared.claim.Evidence.{Evidence}
use Rattle.fs_model.specs.declared.claim.Evidence.TheVariants.{BadChunk}
use Rattle.fs_state.specs.Inodes.{core_in, slot_in}
use Rattle.fs_state.specs.Kinds.{Image}
use Rattle.fs_state.specs.State.{CoreState, Broken, Whole}
use Rattle.geom.specs.Layout.{Layout, device_block_of, inode_at}
use Rattle.geom.specs.declared.geometry.InodePlace.{InodePlace}
use Rattle.index_derive.specs.Inodes.{mode_of}
use Rattle.inode_pass.specs.Cores.{block_looks, blocks_looks, broken_from, look_in, look_of, mode_seen}

-- ---- the core of one inode

-- one that doesn't verify
pub look_bad : (at : Layout) (bytes own : List ℕ) (p : InodePlace) (ino : ℕ) (fault : CoreFault) → own ≡ slot_in bytes p.slot → ino ≡ inode_at at p.group p.block p.slot → Some fault ≡ core_fault own ino at.uuid → look_of at bytes p ≡ Err fault
unfolding look_of core_in
look_bad at bytes own p ino fault same number said = rw (sym same, sym number, sym said) refl

-- one that verifies
pub look_good : (at : Layout) (bytes own : List ℕ) (p : InodePlace) (ino : ℕ) → own ≡ slot_in bytes p.slot → ino ≡ inode_at at p.group p.block p.slot → None ≡ core_fault own ino at.uuid → look_of at bytes p ≡ Ok (core_of own).mode
unfolding look_of core_in
look_good at bytes own p ino same number said = rw (sym same, sym number, sym said) refl

-- ---- numbers in a row

pub numbers_more : (a n : ℕ) → numbers a (suc n) ≡ numbers a n ++ (a + n) ∷ []
numbers_more a zero = let e : a ≡ a + 0 = omega arith in ap (λ (k : ℕ). k ∷ []) e
numbers_more a (suc n) =
    let e : (a + 1) + n ≡ a + suc n = omega arith in
    ap (λ (ks : List ℕ). a ∷ ks) (numbers_more (a + 1) n ∙ ap (λ (k : ℕ). numbers (a + 1) n ++ k ∷ []) e)

pub map_more : {A : Type 0} (f : ℕ → A) (a n : ℕ) → map f (numbers a (suc n)) ≡ map f (numbers a n) ++ f (a + n) ∷ []
map_more f a zero = let e : a ≡ a + 0 = omega arith in ap (λ (k : ℕ). f k ∷ []) e
map_more {A = A} f a (suc n) =
    let e : (a + 1) + n ≡ a + suc n = omega arith in
    ap (λ (ks : List A). f a ∷ ks) (map_more f (a + 1) n ∙ ap (λ (k : ℕ). map f (numbers (a + 1) n) ++ f k ∷ []) e)

pub spread_more : {A : Type 0} (f : ℕ → List A) (a n : ℕ) → flat_map f (numbers a (suc n)) ≡ flat_map f (numbers a n) ++ f (a + n)
spread_more f a zero = let e : a ≡ a + 0 = omega arith in append-nil (f a) ∙ ap f e
spread_more {A = A} f a (suc n) =
    let e : (a + 1) + n ≡ a + suc n = omega arith in
    ap (λ (ks : List A). f a ++ ks) (spread_more f (a + 1) n ∙ ap (λ (k : ℕ). flat_map f (numbers (a + 1) n) ++ f k) e)
    ∙ sym (append_assoc (f a) (flat_map f (numbers (a + 1) n)) (f (a + suc n)))

-- one more of a row that is put down one by one
pub put_more : {A : Type 0} (old now new : List A) (f : ℕ → A) (n : ℕ) → now ≡ old ++ map f (numbers 0 n) → new ≡ now ++ f n ∷ [] → new ≡ old ++ map f (numbers 0 (n + 1))
put_more {A = A} old now new f n so made =
    let first : 0 + n ≡ n = omega arith in
    let next : suc n ≡ n + 1 = omega arith in
    made ∙ ap (λ (xs : List A). xs ++ f n ∷ []) so ∙ append_assoc old (map f (numbers 0 n)) (f n ∷ [])
    ∙ ap (λ (k : ℕ). old ++ (map f (numbers 0 n) ++ f k ∷ [])) (sym first)
    ∙ ap (λ (xs : List A). old ++ xs) (sym (map_more f 0 n))
    ∙ ap (λ (k : ℕ). old ++ map f (numbers 0 k)) next

-- one more of a row of lists that are put down one by one
pub spread_on : {A : Type 0} (old now new : List A) (f : ℕ → List A) (a n : ℕ) → now ≡ old ++ flat_map f (numbers a n) → new ≡ now ++ f (a + n) → new ≡ old ++ flat_map f (numbers a (n + 1))
spread_on {A = A} old now new f a n so made =
    let next : suc n ≡ n + 1 = omega arith in
    made ∙ ap (λ (xs : List A). xs ++ f (a + n)) so
    ∙ append_assoc old (flat_map f (numbers a n)) (f (a + n))
    ∙ ap (λ (xs : List A). old ++ xs) (sym (spread_more f a n))
    ∙ ap (λ (k : ℕ). old ++ flat_map f (numbers a k)) next

pub spread_first : {A : Type 0} (old now new : List A) (f : ℕ → List A) (n : ℕ) → now ≡ old ++ flat_map f (numbers 0 n) → new ≡ now ++ f n → new ≡ old ++ flat_map f (numbers 0 (n + 1))
spread_first old now new f n so made =
    let first : n ≡ 0 + n = omega arith in
    spread_on old now new f 0 n so (made ∙ ap (λ (k : ℕ). now ++ f k) first)

pub block_whole : (at : Layout) (bytes : List ℕ) (g b n : ℕ) (old now : List (Result ℕ CoreFault)) → n ≡ 8 → now ≡ old ++ map (λ s. look_in (core_in at (inode_at at g b s) (slot_in bytes s))) (numbers 0 n) → now ≡ old ++ block_looks at bytes g b
unfolding block_looks
block_whole at bytes g b n old now all so =
    so ∙ ap (λ (k : ℕ). old ++ map (λ s. look_in (core_in at (inode_at at g b s) (slot_in bytes s))) (numbers 0 k)) all

length_both : {A : Type 0} (xs ys : List A) → length (xs ++ ys) ≡ length xs + length ys
length_both [] ys = omega arith
length_both (x ∷ xs) ys = let r = length_both xs ys in omega (arith, r)

pub eight_more : (at : Layout) (bytes : List ℕ) (g b : ℕ) (old new : List (Result ℕ CoreFault)) → new ≡ old ++ block_looks at bytes g b → length new ≡ length old + 8
unfolding block_looks
eight_more at bytes g b old new made =
    let l : length new ≡ length (old ++ block_looks at bytes g b) = ap (λ (xs : List (Result ℕ CoreFault)). length xs) made in
    let e : length (block_looks at bytes g b) ≡ 8 = refl in
    omega (arith, l, length_both old (block_looks at bytes g b), e)

pub block_on : (at : Layout) (image : Image) (g b j : ℕ) (now new : List (Result ℕ CoreFault)) → now ≡ blocks_looks at image g b j → new ≡ now ++ block_looks at (image (device_block_of at g (b + j))) g (b + j) → new ≡ blocks_looks at image g b (j + 1)
unfolding blocks_looks
block_on at image g b j now new so made = spread_first [] now new (λ i. block_looks at (image (device_block_of at g (b + i))) g (b + i)) j so made

pub no_block : (at : Layout) (image : Image) (g b : ℕ) → [] ≡ blocks_looks at image g b 0
unfolding blocks_looks
no_block at image g b = refl

-- ---- the first core that doesn't verify

pub whole_on : (u i : ℕ) (looks : List (Result ℕ CoreFault)) (d : Result ℕ CoreFault) (mode : ℕ) → i < length looks → get_or looks i d ≡ Ok mode → broken_from u (i + 1) (drop (i + 1) looks) ≡ broken_from u i (drop i looks)
whole_on u i looks d mode lt here =
    let next : i + 1 ≡ suc i = omega arith in
    ap (λ (k : ℕ). broken_from u (i + 1) (drop k looks)) next
    ∙ ap (λ (look : Result ℕ CoreFault). broken_from u i (look ∷ drop (suc i) looks)) (sym here)
    ∙ ap (broken_from u i) (sym (drop-cons looks i d lt))

pub broken_here : (u i : ℕ) (looks : List (Result ℕ CoreFault)) (d : Result ℕ CoreFault) (fault : CoreFault) → i < length looks → get_or looks i d ≡ Err fault → Some (BadChunk (8 * u + i / 8) fault) ≡ broken_from u i (drop i looks)
broken_here u i looks d fault lt here = rw (drop-cons looks i d lt, here) refl

drop_all : {A : Type 0} (xs : List A) (i : ℕ) → length xs ≤ i → drop i xs ≡ []
drop_all [] zero le = refl
drop_all [] (suc i) le = refl
drop_all (x ∷ xs) zero le = absurd (omega (arith, le))
drop_all (x ∷ xs) (suc i) le = drop_all xs i (omega (arith, le))

pub none_broken : (u i : ℕ) (looks : List (Result ℕ CoreFault)) → length looks ≤ i → None ≡ broken_from u i (drop i looks)
none_broken u i looks le = rw (drop_all looks i le) refl

-- looks in a row, and the first bad core of that row
looked_bad : (b : ℕ) (core : CoreState) (u i : ℕ) (looks : List (Result ℕ CoreFault)) (os : List (Option Evidence)) → b ≡ 8 * u + i / 8 → broken_from u (i + 1) looks ≡ first_of_all os → broken_from u i (look_in core ∷ looks) ≡ first_of_all (bad_core b (Some core) ∷ os)
looked_bad b (Broken fault) u i looks os at rest = ap (λ (x : ℕ). Some (BadChunk x fault)) (sym at)
looked_bad b (Whole inode) u i looks os at rest = rest

pub first_looked : (core : ℕ → CoreState) (u i n : ℕ) → broken_from u i (map (λ k. look_in (core k)) (numbers i n)) ≡ first_of_all (map (λ k. bad_core (8 * u + k / 8) (Some (core k))) (numbers i n))
first_looked core u i zero = refl
first_looked core u i (suc n) =
    looked_bad (8 * u + i / 8) (core i) u i (map (λ k. look_in (core k)) (numbers (i + 1) n)) (map (λ k. bad_core (8 * u + k / 8) (Some (core k))) (numbers (i + 1) n)) refl (first_looked core u (i + 1) n)

-- ---- the modes of a row

pub mode_is : (core : CoreState) → mode_seen (look_in core) ≡ mode_of (Some core)
mode_is (Broken fault) = refl
mode_is (Whole inode) = refl

pub row_at : (f : ℕ → Option ℕ) (a n i : ℕ) (d : Option ℕ) → i < n → slice_index_or (map f (numbers a n)) i d ≡ f (a + i)
row_at f a zero i d lt = absurd (omega (arith, lt))
row_at f a (suc n) zero d lt = let e : a ≡ a + 0 = omega arith in ap f e
row_at f a (suc n) (suc i) d lt =
    let e : (a + 1) + i ≡ a + suc i = omega arith in
    row_at f (a + 1) n i d (omega (arith, lt)) ∙ ap f e

pub row_length : {A : Type 0} (f : ℕ → A) (a n : ℕ) → length (map f (numbers a n)) ≡ n
row_length f a zero = refl
row_length f a (suc n) = ap suc (row_length f (a + 1) n)

pub map_twice : {A B C : Type 0} (f : A → B) (h : B → C) (xs : List A) → map h (map f xs) ≡ map (λ x. h (f x)) xs
map_twice f h [] = refl
map_twice {C = C} f h (x ∷ xs) = ap (λ (ys : List C). h (f x) ∷ ys) (map_twice f h xs)
