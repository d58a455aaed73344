-- What stands at each number once the blocks that were made are joined.
use Rattle.std.proofs.Common.{◌≡◌, ◌⊎◌, ℕ, ◌+◌, Bool, true, false, List, [], ◌∷◌, refl, sym, ap, subst, ◌∙◌, inl, inr, arith, eqb-true}
use Rattle.std.specs.Prelude.{◌==◌, if◌then◌else◌, is_some, unwrap_or, Option, Some, Result}
use Rattle.std.proofs.lemmas.Bool.Decides.{nat_tests}
use Rattle.byte_fields.specs.Fields.{field}
use Rattle.byte_fields.specs.declared.block.Block.{Block}
use Rattle.redo_area.specs.Area.{Batch, Blocks}
use Rattle.meta_txn.specs.Joined.{Joined, bytes_at, with_block, written}
use Rattle.meta_txn.proofs.JoinedLaws.{bytes_at_with}
use Rattle.sblock.specs.Form.{Form}
use Rattle.sblock.specs.declared.block.BlockFault.{BlockFault}
use Rattle.tree_defs.specs.Lists.{In}
use Rattle.tree_defs.specs.Sites.{group_blocks}
use Rattle.tree_defs.specs.Tree.{read_tree}
use Rattle.tree_defs.specs.declared.site.Site.{Site}
use Rattle.join_blocks.proofs.PutLemmas.{puts_others}
use Rattle.join_blocks.specs.Joins.{is_joined, placed_in, with_all}
use Rattle.over_blocks.specs.Over.{over}
use Rattle.draft_check.specs.Drafts.{AreStamped, HasBytes}
use Rattle.draft_check.specs.DraftLaws.{KeepsJoined, LeavesOthers, PutsOneOf, PutsStamped, ReadsOver}

-- a number of a group is another one's exactly where the image's are
shifted : (first a b : ℕ) → (first + a == first + b) ≡ (a == b)
shifted first a b = grind (arith, nat_tests)

module _ (first : ℕ) (image : Blocks) where
  -- the bytes of the group's block
  abbrev there : Batch → ℕ → List ℕ
  there joined p = unwrap_or (bytes_at (first + p) joined) (image (first + p))

  put_one : (e : ℕ × Block) (joined : Batch) (p : ℕ) → there (with_block (first + e.0) e.1.bytes joined) p ≡ (if p == e.0 then e.1.bytes else there joined p)
  put_one e joined p =
      ap (λ (o : Option (List ℕ)). unwrap_or o (image (first + p))) (bytes_at_with (first + p) (first + e.0) e.1.bytes joined ∙ ap (λ (t : Bool). if t then Some e.1.bytes else bytes_at (first + p) joined) (shifted first p e.0))
      ∙ (elim (p == e.0) as (λ t. unwrap_or (if t then Some e.1.bytes else bytes_at (first + p) joined) (image (first + p)) ≡ (if t then e.1.bytes else there joined p)) [ true ↦ refl | false ↦ refl ])

  reads_at : (placed : List (ℕ × Block)) (joined : Batch) (p : ℕ) → there (with_all first placed joined) p ≡ over placed (there joined) p
  unfolding with_all over
  reads_at [] joined p = refl
  reads_at (e ∷ es) joined p =
      reads_at es (with_block (first + e.0) e.1.bytes joined) p
      ∙ (λ i. over es (λ b. put_one e joined b i) p)

pub reads_over : ReadsOver
reads_over site image placed old new put =
    λ i p. (ap (λ (q : Batch). there site.first image q p) put ∙ reads_at site.first image placed old.blocks p) i

-- so a tree that is read with these blocks over the group is read through the transaction
pub read_joined : {R K : Type 0} (form : Form R K) (site : Site) (image : Blocks) (placed : List (ℕ × Block)) (old new : Joined) (root levels : ℕ) (read : Result (List R × List ℕ) (ℕ × BlockFault)) → new.blocks ≡ with_all site.first placed old.blocks → read_tree form site (over placed (group_blocks site (written image old))) root levels ≡ read → read_tree form site (group_blocks site (written image new)) root levels ≡ read
read_joined form site image placed old new root levels read put is =
    ap (λ (m : ℕ → List ℕ). read_tree form site m root levels) (reads_over site image placed old new put) ∙ is

pub leaves_others : LeavesOthers
leaves_others image first at placed old new put none =
    let same : bytes_at at new.blocks ≡ bytes_at at old.blocks = ap (bytes_at at) put ∙ puts_others first at placed old.blocks none in
    (same, ap (λ (o : Option (List ℕ)). unwrap_or o (image at)) same)

-- a number that is joined stays so
stays_joined : (at n : ℕ) (bytes : List ℕ) (q : Batch) → is_joined q n ≡ true → is_joined (with_block at bytes q) n ≡ true
stays_joined at n bytes q is =
    ap is_some (bytes_at_with n at bytes q)
    ∙ (elim (n == at) as (λ t. is_some (if t then Some bytes else bytes_at n q) ≡ true) [ true ↦ refl | false ↦ is ])

pub keeps_joined : KeepsJoined
unfolding with_all
keeps_joined first at [] joined is = is
keeps_joined first at (e ∷ es) joined is = keeps_joined first at es (with_block (first + e.0) e.1.bytes joined) (stays_joined (first + e.0) at e.1.bytes joined is)

-- the bytes of the last of these with this number, or else these
abbrev last_of : ℕ → List (ℕ × Block) → Option (List ℕ) → Option (List ℕ)
last_of b [] o = o
last_of b (e ∷ es) o = last_of b es (if b == e.0 then Some e.1.bytes else o)

joined_at : (first : ℕ) (placed : List (ℕ × Block)) (joined : Batch) (b : ℕ) → bytes_at (first + b) (with_all first placed joined) ≡ last_of b placed (bytes_at (first + b) joined)
unfolding with_all
joined_at first [] joined b = refl
joined_at first (e ∷ es) joined b =
    joined_at first es (with_block (first + e.0) e.1.bytes joined) b
    ∙ ap (last_of b es) (bytes_at_with (first + b) (first + e.0) e.1.bytes joined ∙ ap (λ (t : Bool). if t then Some e.1.bytes else bytes_at (first + b) joined) (shifted first b e.0))

-- the last of them is one of these, or what was there
pub record IsLast (b : ℕ) (x : List ℕ) (placed : List (ℕ × Block)) : Type 0 where
  pub bytes : List ℕ
  pub is : last_of b placed (Some x) ≡ Some bytes
  pub of : HasBytes b bytes placed ⊎ (x ≡ bytes)

-- a block more in front, which has this number or another one
front_is : (b : ℕ) (x : List ℕ) (e : ℕ × Block) (es : List (ℕ × Block)) → (b == e.0) ≡ true → IsLast b e.1.bytes es → IsLast b x (e ∷ es)
front_is b x e es is last = record {
  bytes = last.bytes;
  is = ap (λ (t : Bool). last_of b es (if t then Some e.1.bytes else Some x)) is ∙ last.is;
  of = inl (elim last.of [ inl later ↦ inr later | inr same ↦ inl (sym (eqb-true b e.0 is), same) ]);
}

front_isnt : (b : ℕ) (x : List ℕ) (e : ℕ × Block) (es : List (ℕ × Block)) → (b == e.0) ≡ false → IsLast b x es → IsLast b x (e ∷ es)
front_isnt b x e es isnt last = record {
  bytes = last.bytes;
  is = ap (λ (t : Bool). last_of b es (if t then Some e.1.bytes else Some x)) isnt ∙ last.is;
  of = elim last.of [ inl later ↦ inl (inr later) | inr same ↦ inr same ];
}

last_is : (b : ℕ) (x : List ℕ) (placed : List (ℕ × Block)) → IsLast b x placed
last_is b x [] = record { bytes = x; is = refl; of = inr refl }
last_is b x (e ∷ es) = (elim (b == e.0) as (λ t. (b == e.0) ≡ t → IsLast b x (e ∷ es)) [
  | true ↦ λ is. front_is b x e es is (last_is b e.1.bytes es)
  | false ↦ λ isnt. front_isnt b x e es isnt (last_is b x es)
]) refl

same_number : (a b : ℕ) → a ≡ b → (b == a) ≡ true
same_number a b e = grind (arith, nat_tests)

one_of : (b : ℕ) (placed : List (ℕ × Block)) (o : Option (List ℕ)) → In b (placed_in placed) → (bytes : List ℕ) × (last_of b placed o ≡ Some bytes) × HasBytes b bytes placed
one_of b [] o there = absurd there
one_of b (e ∷ es) o (inl same) =
    let last = last_is b e.1.bytes es in
    (last.bytes, ap (λ (t : Bool). last_of b es (if t then Some e.1.bytes else o)) (same_number e.0 b same) ∙ last.is, elim last.of [ inl later ↦ inr later | inr is ↦ inl (same, is) ])
one_of b (e ∷ es) o (inr there) =
    let found = one_of b es (if b == e.0 then Some e.1.bytes else o) there in
    (found.0, found.1, inr found.2)

pub puts_one_of : PutsOneOf
puts_one_of first placed joined b there =
    let found = one_of b placed (bytes_at (first + b) joined) there in
    (found.0, joined_at first placed joined b ∙ found.1, found.2)

has_stamp : (lsn b : ℕ) (bytes : List ℕ) (placed : List (ℕ × Block)) → AreStamped lsn placed → HasBytes b bytes placed → field 8 bytes 24 ≡ lsn
has_stamp lsn b bytes [] all has = absurd has
has_stamp lsn b bytes (e ∷ es) all (inl is) = subst (λ (l : List ℕ). field 8 l 24 ≡ lsn) is.1 all.0
has_stamp lsn b bytes (e ∷ es) all (inr later) = has_stamp lsn b bytes es all.1 later

pub puts_stamped : PutsStamped
puts_stamped first lsn placed joined b all there =
    let found = puts_one_of first placed joined b there in
    (found.0, found.1, has_stamp lsn b found.0 placed all found.2)
