-- Pieces that stand in the order of the claims already.
use Rattle.std.proofs.Common.{◌≡◌, ◌<◌, ◌≤◌, ◌+◌, ℕ, suc, Bool, false, List, [], ◌∷◌, ◌++◌, refl, ap, sym, subst, ◌∙◌, arith, append_assoc}
use Rattle.std.specs.Prelude.{⊤, flat_map, if◌then◌else◌}
use Rattle.std.proofs.lemmas.Bool.Decides.{nat_tests}
use Rattle.fs_model.specs.declared.claim.Claim.{Claim}
use Rattle.unit_plan.specs.Group.{FromPlace}
use Rattle.unit_plan.specs.Order.{inode, is_first, place}
use Rattle.unit_plan.specs.Pieces.{in_order, put_piece}
use Rattle.unit_plan.specs.declared.piece.Piece.{Piece}
use Rattle.claim_laws.proofs.Inodes.{Up}

-- none comes before this place and inode, nor before the one in front of it
abbrev pub After : ℕ → ℕ → List Piece → Type 0
After n i [] = ⊤
After n i (p ∷ ps) = (is_first (place p.claim) (inode p.claim) n i ≡ false) × After (place p.claim) (inode p.claim) ps

ahead : (p : Piece) (ps : List Piece) → After (place p.claim) (inode p.claim) ps → put_piece p ps ≡ p ∷ ps
ahead p [] h = refl
ahead p (q ∷ qs) h = ap (λ (b : Bool). if b then q ∷ put_piece p qs else p ∷ q ∷ qs) h.0

pub sorted : (n i : ℕ) (ps : List Piece) → After n i ps → in_order ps ≡ ps
sorted n i [] h = refl
sorted n i (p ∷ ps) h = ap (put_piece p) (sorted (place p.claim) (inode p.claim) ps h.1) ∙ ahead p ps h.1

along : (a i b j c k : ℕ) → is_first a i b j ≡ false → is_first b j c k ≡ false → is_first a i c k ≡ false
unfolding is_first
along a i b j c k h l = grind (arith, nat_tests, h, l)

pub no_first : (a i b j : ℕ) → b ≤ a → j ≤ i → is_first a i b j ≡ false
unfolding is_first
no_first a i b j le le2 = grind (arith, nat_tests, le, le2)

past : (a i b j : ℕ) → b < a → is_first a i b j ≡ false
unfolding is_first
past a i b j lt = grind (arith, nat_tests, lt)

lower : (n i m j : ℕ) (ps : List Piece) → is_first n i m j ≡ false → After n i ps → After m j ps
lower n i m j [] h k = tt
lower n i m j (p ∷ ps) h k = (along (place p.claim) (inode p.claim) n i m j k.0 h, k.1)

pub own_after : (n : ℕ) (own rest : List Piece) → n ≤ 11 → FromPlace n own → After 12 0 rest → After n 0 (own ++ rest)
own_after n [] rest le h k = lower 12 0 n 0 rest (no_first 12 0 n 0 (omega (arith, le)) (omega arith)) k
own_after n (p ∷ ps) rest le h k =
    (no_first (place p.claim) (inode p.claim) n 0 h.0 (omega arith), subst (λ (i : ℕ). After (place p.claim) i (ps ++ rest)) (sym h.2) (own_after (place p.claim) ps rest h.1 h.3 k))

abbrev pub AllClaim : Claim → List Piece → Type 0
AllClaim c [] = ⊤
AllClaim c (p ∷ ps) = (p.claim ≡ c) × AllClaim c ps

pub claim_both : (c : Claim) (ps qs : List Piece) → AllClaim c ps → AllClaim c qs → AllClaim c (ps ++ qs)
claim_both c [] qs h k = k
claim_both c (p ∷ ps) qs h k = (h.0, claim_both c ps qs h.1 k)

same_after : (c : Claim) (n i : ℕ) (ps rest : List Piece) → is_first (place c) (inode c) n i ≡ false → AllClaim c ps → After (place c) (inode c) rest → After n i (ps ++ rest)
same_after c n i [] rest f h k = lower (place c) (inode c) n i rest f k
same_after c n i (p ∷ ps) rest f h k = (
  ap (λ (x : Claim). is_first (place x) (inode x) n i) h.0 ∙ f,
  subst (λ (x : Claim). After (place x) (inode x) (ps ++ rest)) (sym h.0) (same_after c (place c) (inode c) ps rest (no_first (place c) (inode c) (place c) (inode c) (omega arith) (omega arith)) h.1 k),
)

-- claims of one sort, inode by inode
module _ (k : ℕ) (sort : ℕ → Claim) (is_sort : (ino : ℕ) → place (sort ino) ≡ k) (is_ino : (ino : ℕ) → inode (sort ino) ≡ ino) (f : ℕ → List Piece) (each : (ino : ℕ) → AllClaim (sort ino) (f ino)) where
  pub inos_after : (n i lo hi : ℕ) (inos : List ℕ) (rest : List Piece) → Up lo hi inos → is_first k lo n i ≡ false → After (suc k) 0 rest → After n i (flat_map f inos ++ rest)
  inos_after n i lo hi [] rest up h later = lower (suc k) 0 n i rest (along (suc k) 0 k lo n i (past (suc k) 0 k lo (omega arith)) h) later
  inos_after n i lo hi (ino ∷ inos) rest up h later =
      let here : is_first k ino n i ≡ false = along k ino k lo n i (no_first k ino k lo (omega arith) up.0) h in
      let behind = inos_after k ino (ino + 1) hi inos rest up.1 (no_first k (ino + 1) k ino (omega arith) (omega arith)) later in
      let there : After (place (sort ino)) (inode (sort ino)) (flat_map f inos ++ rest) = subst (λ (x : ℕ). After x (inode (sort ino)) (flat_map f inos ++ rest)) (sym (is_sort ino)) (subst (λ (x : ℕ). After k x (flat_map f inos ++ rest)) (sym (is_ino ino)) behind) in
      let first : is_first (place (sort ino)) (inode (sort ino)) n i ≡ false = (λ j. is_first (is_sort ino j) (is_ino ino j) n i) ∙ here in
      subst (After n i) (sym (append_assoc (f ino) (flat_map f inos) rest)) (same_after (sort ino) n i (f ino) (flat_map f inos ++ rest) first each_of there)
    where
      each_of : AllClaim (sort ino) (f ino)
      each_of = each ino
