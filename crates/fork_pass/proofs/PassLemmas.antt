-- One inode after the other.
use Rattle.std.proofs.Common.{◌≡◌, ℕ, zero, suc, ◌+◌, ◌*◌, ◌/◌, ◌%◌, ◌-◌, ◌<◌, ◌≤◌, true, List, [], ◌∷◌, ◌++◌, length, get_or, drop, map, Option, Some, None, Result, refl, ap, sym, subst, ◌∙◌, arith}
use Rattle.std.specs.Prelude.{flat_map}
use Rattle.std.specs.Option.{option_or}
use Rattle.std.proofs.Math.Seq.{drop-cons}
use Rattle.std.proofs.lemmas.Grind.{flat_map-append}
use Rattle.std.proofs.lemmas.List.{append-nil}
use Rattle.dinode_core.specs.declared.mapping.Fork.{Fork}
use Rattle.dinode_core.specs.declared.mapping.ForkFault.{ForkFault}
use Rattle.fs_state.specs.Chunks.{inode_in, inodes, inodes_in}
use Rattle.fs_state.specs.Claims.{read_fork}
use Rattle.fs_state.specs.Contradiction.{bad_fork, first_bad_fork}
use Rattle.fs_state.specs.Lists.{first_of_all, numbers}
use Rattle.fs_model.specs.declared.claim.Evidence.{Evidence}
use Rattle.fs_state.specs.Apart.{is_chunk}
use Rattle.fs_state.specs.Kinds.{Image}
use Rattle.fs_state.specs.State.{State, ForkList}
use Rattle.dinode_core.specs.Core.{core_fault}
use Rattle.fs_state.specs.Inodes.{slot_in}
use Rattle.geom.specs.Apart.{Splits}
use Rattle.geom.specs.Layout.{Layout, device_block_of, group_len_of, inode_at}
use Rattle.inode_pass.specs.Units.{opened_state}
use Rattle.inode_pass.specs.declared.note.GroupInodes.{GroupInodes}
use Rattle.unit_plan.specs.declared.claims.ClaimSet.{ClaimSet}
use Rattle.unit_plan.specs.declared.piece.Piece.{Piece}
use Rattle.fork_pass.specs.Passed.{AreChunks, AreForkClaims, AreLeft, ArePassed, InodesPassed, all_pieces, group_inodes, inodes_from, unit_inodes, units_at}
use Rattle.fork_pass.specs.Pieces.{fork_pieces, inode_pieces, pieces_for}
use Rattle.fork_pass.specs.Read.{IsSlotRead, fault_for, slot_fork}
use Rattle.fork_pass.specs.Sets.{AreFresh}
use Rattle.fork_pass.proofs.SetLemmas.{adds_same, leaves_all, leaves_first, leaves_on}
use Rattle.fork_pass.proofs.StateLemmas.{fork_there, verified}

pub first_of_one : (o : Option Evidence) → first_of_all (o ∷ []) ≡ o
first_of_one None = refl
first_of_one (Some e) = refl

some_none : (e : Evidence) → ◌≡◌ {A = Option Evidence} (Some e) None → ⊥
some_none e h = cc

-- the first evidence of two kept, one behind the other
pub first_both : {X : Type 0} (f : X → Option Evidence) (xs ys : List X) → first_of_all (map f (xs ++ ys)) ≡ option_or (first_of_all (map f xs)) (first_of_all (map f ys))
first_both f [] ys = refl
first_both f (x ∷ xs) ys = by_first (f x) (first_both f xs ys)
  where
    by_first : (o : Option Evidence) → first_of_all (map f (xs ++ ys)) ≡ option_or (first_of_all (map f xs)) (first_of_all (map f ys)) → first_of_all (o ∷ map f (xs ++ ys)) ≡ option_or (first_of_all (o ∷ map f xs)) (first_of_all (map f ys))
    by_first None rest = rest
    by_first (Some e) rest = refl

module _ {X : Type 0} (bad : X → Option Evidence) (pieces : ℕ → X → List Piece) where
  -- of two kept of which the first has none, or this one
  firsts_are : (ms next : List X) (o : Option Evidence) → o ≡ first_of_all (map bad ms) → first_of_all (map bad (ms ++ next)) ≡ option_or o (first_of_all (map bad next))
  firsts_are ms next o h = first_both bad ms next ∙ ap (λ (p : Option Evidence). option_or p (first_of_all (map bad next))) (sym h)

  pub left_first : (all rest : List X) (sets : List ClaimSet) → rest ≡ all → AreLeft bad pieces all rest sets sets
  left_first all rest sets same = record {
    first = ap (λ (xs : List X). first_of_all (map bad xs)) same;
    put = leaves_first sets (λ g. flat_map (pieces g) all) (λ g. flat_map (pieces g) rest) (λ g. ap (λ (xs : List X). flat_map (pieces g) xs) same);
  }

  pub left_on : (all rest ms next : List X) (old now new : List ClaimSet) → rest ≡ ms ++ next → AreLeft bad pieces all rest old now → ArePassed bad pieces ms now new None → AreLeft bad pieces all next old new
  left_on all rest ms next old now new parts left passed = record {
    first = sym (ap (λ (xs : List X). first_of_all (map bad xs)) parts ∙ firsts_are ms next None passed.first) ∙ left.first;
    put = leaves_on old now new (λ g. flat_map (pieces g) all) (λ g. flat_map (pieces g) rest) (λ g. flat_map (pieces g) next) (λ g. flat_map (pieces g) ms) (λ g. ap (λ (xs : List X). flat_map (pieces g) xs) parts ∙ flat_map-append (pieces g) ms next) left.put (passed.put refl);
  }

  pub left_found : (all rest ms next : List X) (old now new : List ClaimSet) (e : Evidence) → rest ≡ ms ++ next → AreLeft bad pieces all rest old now → ArePassed bad pieces ms now new (Some e) → ArePassed bad pieces all old new (Some e)
  left_found all rest ms next old now new e parts left passed = record {
    first = sym (firsts_are ms next (Some e) passed.first) ∙ ap (λ (xs : List X). first_of_all (map bad xs)) (sym parts) ∙ left.first;
    put = λ none. absurd (some_none e none);
  }

  pub left_end : (all rest : List X) (old now : List ClaimSet) → rest ≡ [] → AreLeft bad pieces all rest old now → ArePassed bad pieces all old now None
  left_end all rest old now none left = record {
    first = ap (λ (xs : List X). first_of_all (map bad xs)) (sym none) ∙ left.first;
    put = λ _. leaves_all old now (λ g. flat_map (pieces g) all) (λ g. flat_map (pieces g) rest) (λ g. ap (λ (xs : List X). flat_map (pieces g) xs) none) left.put;
  }

module _ (a : State) where
  -- one inode, with these forks
  pub one_passed : (ino : ℕ) (read : Fork → Result ForkList ForkFault) (old new : List ClaimSet) (found : Option Evidence) → ((f : Fork) → a.fork ino f ≡ read f) → IsSlotRead a.geometry ino read old new found → InodesPassed a (ino ∷ []) old new found
  one_passed ino read old new found same is = record {
    first = is.first ∙ sym (λ i. fault_for ino (λ f. same f i)) ∙ sym (first_of_one (bad_fork a ino));
    put = λ none. adds_same old new (pieces_for a.geometry ino (λ f. read_fork (read f))) (all_pieces a (ino ∷ [])) (λ g. sym (λ i. pieces_for a.geometry ino (λ f. read_fork (same f i)) g) ∙ sym (append-nil (inode_pieces a g ino))) (is.put none);
  }

-- ---- rows of numbers

pub row_first : (f : ℕ → ℕ) (i n : ℕ) → i < n → map f (numbers i (n - i)) ≡ (f i ∷ []) ++ map f (numbers (i + 1) (n - (i + 1)))
row_first f i n lt =
    let more : n - i ≡ suc (n - (i + 1)) = omega (arith, lt) in
    ap (λ (k : ℕ). map f (numbers i k)) more

pub row_end : (f : ℕ → ℕ) (i n : ℕ) → n ≤ i → map f (numbers i (n - i)) ≡ []
row_end f i n le =
    let none : n - i ≡ 0 = omega (arith, le) in
    ap (λ (k : ℕ). map f (numbers i k)) none

pub spread_first : (f : ℕ → List ℕ) (i n : ℕ) → i < n → flat_map f (numbers i (n - i)) ≡ f i ++ flat_map f (numbers (i + 1) (n - (i + 1)))
spread_first f i n lt =
    let more : n - i ≡ suc (n - (i + 1)) = omega (arith, lt) in
    ap (λ (k : ℕ). flat_map f (numbers i k)) more

pub spread_end : (f : ℕ → List ℕ) (i n : ℕ) → n ≤ i → flat_map f (numbers i (n - i)) ≡ []
spread_end f i n le =
    let none : n - i ≡ 0 = omega (arith, le) in
    ap (λ (k : ℕ). flat_map f (numbers i k)) none

pub list_first : {X : Type 0} (xs : List X) (i : ℕ) (d : X) → i < length xs → drop i xs ≡ (get_or xs i d ∷ []) ++ drop (i + 1) xs
list_first {X = X} xs i d lt =
    let next : suc i ≡ i + 1 = omega arith in
    drop-cons xs i d lt ∙ ap (λ (k : ℕ). get_or xs i d ∷ drop k xs) next

-- ---- the inodes that were kept are those of the state

unit_same : (at : Layout) (a : State) (g u : ℕ) → a.geometry ≡ at → map (inode_in a g u) (numbers 0 64) ≡ unit_inodes at g u
unit_same at a g u same = ap (λ (l : Layout). map (λ i. inode_at l g (8 * u + i / 8) (i % 8)) (numbers 0 64)) same

group_same : (at : Layout) (a : State) (g : ℕ) (units : List ℕ) → a.geometry ≡ at → flat_map (λ u. map (inode_in a g u) (numbers 0 64)) units ≡ group_inodes at g units
group_same at a g [] same = refl
group_same at a g (u ∷ us) same = λ i. unit_same at a g u same i ++ group_same at a g us same i

pub all_same : (at : Layout) (a : State) (kept : List GroupInodes) (g n : ℕ) → a.geometry ≡ at → g + n ≤ at.agcount → AreChunks a kept → flat_map (inodes_in a) (numbers g n) ≡ inodes_from at kept g n
unfolding inodes_in
all_same at a kept g zero same le are = refl
all_same at a kept g (suc n) same le are =
    let here : g < a.geometry.agcount = let e = ap (λ (l : Layout). l.agcount) same in omega (arith, le, e) in
    let first = ap (λ (us : List ℕ). flat_map (λ u. map (inode_in a g u) (numbers 0 64)) us) (sym (are g here)) ∙ group_same at a g (units_at kept g) same in
    let rest = all_same at a kept (g + 1) n same (omega (arith, le)) are in
    λ i. first i ++ rest i

pub whole_pass : (at : Layout) (a : State) (kept : List GroupInodes) → a.geometry ≡ at → AreChunks a kept → inodes a ≡ inodes_from at kept 0 at.agcount
unfolding inodes
whole_pass at a kept same are =
    ap (λ (n : ℕ). flat_map (inodes_in a) (numbers 0 n)) (ap (λ (l : Layout). l.agcount) same) ∙ all_same at a kept 0 at.agcount same (omega arith) are

pub given_up : (a : State) (inos : List ℕ) (old new : List ClaimSet) (e : Evidence) → inodes a ≡ inos → InodesPassed a inos old new (Some e) → first_bad_fork a ≡ Some e
unfolding first_bad_fork
given_up a inos old new e are passed = ap (λ (xs : List ℕ). first_of_all (map (bad_fork a) xs)) are ∙ sym passed.first

pub claims_put : (a : State) (n : ℕ) (inos : List ℕ) (old new : List ClaimSet) → inodes a ≡ inos → AreFresh n old → n ≡ a.geometry.agcount → InodesPassed a inos old new None → AreForkClaims a new
unfolding first_bad_fork fork_pieces
claims_put a n inos old new are fresh count passed =
    let put = passed.put refl in
    record {
      none = ap (λ (xs : List ℕ). first_of_all (map (bad_fork a) xs)) are ∙ sym passed.first;
      long = put.long ∙ fresh.long ∙ count;
      each = λ g. put.each g ∙ ap (λ (ps : List Piece). ps ++ all_pieces a inos g) (fresh.none g) ∙ ap (λ (xs : List ℕ). all_pieces a xs g) (sym are);
    }

-- ---- a slot of a block of a chunk

pub slot_passed : (at : Layout) (image : Image) (splits : Splits at) (g b s ino : ℕ) (bytes : List ℕ) (old new : List ClaimSet) (found : Option Evidence) → g < at.agcount → b < group_len_of at g → s < 8 → is_chunk (opened_state at image) g (b / 8) ≡ true → ino ≡ inode_at at g b s → bytes ≡ image (device_block_of at g b) → (core_fault (slot_in bytes s) ino at.uuid ≡ None → IsSlotRead at ino (slot_fork at image (slot_in bytes s)) old new found) → InodesPassed (opened_state at image) (inode_at at g b s ∷ []) old new found
slot_passed at image splits g b s ino bytes old new found gl bl sl chunk number told read =
    let here = subst (λ (n : ℕ). core_fault (slot_in bytes s) n at.uuid ≡ None → IsSlotRead at n (slot_fork at image (slot_in bytes s)) old new found) number read in
    let there = subst (λ (xs : List ℕ). core_fault (slot_in xs s) (inode_at at g b s) at.uuid ≡ None → IsSlotRead at (inode_at at g b s) (slot_fork at image (slot_in xs s)) old new found) told here in
    one_passed (opened_state at image) (inode_at at g b s) (slot_fork at image (slot_in (image (device_block_of at g b)) s)) old new found (fork_there at image splits g b s gl bl sl chunk) (there (verified at image splits g b s gl bl sl chunk))
