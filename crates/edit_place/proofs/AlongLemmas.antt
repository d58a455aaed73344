-- An edit that was seen along its way alone, of a tree that is readable, is as good as compared.
use Rattle.std.proofs.Common.{◌≡◌, ℕ, ◌+◌, ◌≤◌, Bool, true, false, List, [], ◌∷◌, take, Option, Some, None, Ok, refl, ap, subst, ◌∙◌, inl, inr, arith}
use Rattle.std.specs.Prelude.{◌⊎◌, ◌==◌, ◌||◌, unwrap_or}
use Rattle.std.specs.List.{list_any}
use Rattle.ag_headers.specs.Ring.{FreeRing}
use Rattle.blk_device.specs.Contents.{Contents}
use Rattle.blk_device.specs.declared.device.Region.TheVariants.{Image}
use Rattle.byte_fields.specs.declared.block.Block.{Block}
use Rattle.meta_txn.specs.Joined.{Joined, written}
use Rattle.sblock.specs.Form.{Form, IsLawful}
use Rattle.tree_defs.specs.Lists.{In, times}
use Rattle.tree_defs.specs.Sites.{group_blocks}
use Rattle.tree_defs.specs.Tree.{read_tree}
use Rattle.tree_blocks.specs.declared.tree.TreeAt.{TreeAt}
use Rattle.list_edit.specs.Edits.{is_one, has_key, edited}
use Rattle.list_edit.specs.declared.edits.Edit.{Edit}
use Rattle.list_edit.specs.declared.edits.Edit.TheVariants.{Insert, Remove, Change}
use Rattle.edit_terms.specs.Made.{made}
use Rattle.join_blocks.specs.Joins.{placed_in}
use Rattle.over_blocks.specs.declared.draft.Draft.{Draft}
use Rattle.place_plan.specs.declared.ask.Ask.{Ask}
use Rattle.txn_blocks.specs.Through.{changed}
use Rattle.draft_check.specs.Drafts.{AreStamped}
use Rattle.tree_edit.specs.Prepared.{held}
use Rattle.way_check.specs.Checks.{is_placed, IsMade, IsPlain, IsStill}
use Rattle.way_check.proofs.OverLemmas.{same_test}
use Rattle.way_check.proofs.ReadLemmas.{edits_so, made_reads_lem}
use Rattle.edit_place.specs.Changed.{ReadsWhole}
use Rattle.edit_place.specs.Checked.{reads_draft, HasBlocks, IsAlong, IsChecked, IsReadable, IsWithin}

-- ---- some list has such an edit, where a record's key alone bars it

one_is : {R K : Type 0} (form : Form R K) → IsLawful form → (r : R) → list_any (is_one form r) (r ∷ []) ≡ true
unfolding is_one
one_is form law r = let e : form.is_same r r ≡ true = (law.same r r).1 refl in rw e refl

key_is : {R K : Type 0} (form : Form R K) → IsLawful form → (r : R) → list_any (has_key form r) (r ∷ []) ≡ true
unfolding has_key
key_is form law r = let e : form.is_before (form.key_of r) (form.key_of r) ≡ false = law.strict (form.key_of r) in rw e refl

some_edit : {R K : Type 0} (form : Form R K) → IsLawful form → (how : Edit) (r : R) → IsPlain form how → (recs : List R) × (edited form how r recs ≡ Ok (made form how r recs))
some_edit form law Insert r plain = ([], edits_so form Insert r [] plain refl)
some_edit form law Remove r plain = (r ∷ [], edits_so form Remove r (r ∷ []) plain (one_is form law r))
some_edit form law Change r plain = (r ∷ [], edits_so form Change r (r ∷ []) plain (key_is form law r))

-- ---- blocks that are told, and blocks that were made

some_is : (m n : ℕ → List ℕ) → Some m ≡ Some n → m ≡ n
some_is m n e = ap (λ (o : Option (ℕ → List ℕ)). unwrap_or o m) e

none_first : (xs : List ℕ) → take 0 xs ≡ []
none_first [] = refl
none_first (x ∷ xs) = refl

or_right : (a b : Bool) → b ≡ true → (a || b) ≡ true
or_right true b h = refl
or_right false b h = h

placed_is : (b : ℕ) (es : List (ℕ × Block)) → In b (placed_in es) → is_placed b es ≡ true
placed_is b [] h = absurd h
placed_is b (e ∷ es) h =
    elim h [
      | inl is ↦ let t : (e.0 == b) ≡ true = subst (λ (x : ℕ). (e.0 == x) ≡ true) is (same_test e.0) in rw t refl
      | inr there ↦ or_right (e.0 == b) (is_placed b es) (placed_is b es there)
    ]

module _ {R K : Type 0} (form : Form R K) (ask : Ask R) (tree : TreeAt) where
  -- a tree that is readable in the image is so through a transaction
  pub reads_through : (txn : Joined) (list : FreeRing) (limbo : List ℕ) (told : Option Contents) → ReadsWhole form ask.site told (held tree txn list limbo) → IsReadable form ask tree (changed ask.site txn told)
  reads_through txn list limbo None reads = λ m e. let z : ◌≡◌ {A = Option (ℕ → List ℕ)} None (Some m) = e in absurd cc
  reads_through txn list limbo (Some c) reads = λ m e.
      subst (λ (n : ℕ → List ℕ). (recs : List R) × (blocks : List ℕ) × (read_tree form ask.site n tree.root tree.levels ≡ Ok (recs, blocks))) (some_is (group_blocks ask.site (written (c Image) txn)) m e) reads

  module _ (listed : List ℕ) (draft : Draft) where
    -- as the tests tell it
    pub along_all : (told told' : Option (ℕ → List ℕ)) (stamped_of : List (ℕ × Block)) → told' ≡ told → stamped_of ≡ draft.placed.items → IsMade form ask tree told' draft → AreStamped tree.lsn stamped_of → IsWithin ask.site.bounds.length listed draft → IsAlong form ask tree told listed draft
    along_all told told' stamped_of same of made stamped within = record {
      made = subst (λ (o : Option (ℕ → List ℕ)). IsMade form ask tree o draft) same made;
      stamped = subst (AreStamped tree.lsn) of stamped;
      within = within;
    }

    -- the blocks are the same, and no others
    still_has : IsStill tree draft → AreStamped tree.lsn draft.placed.items → (before after : List ℕ) → ((b : ℕ) → times b after ≡ times b before) → ((b : ℕ) → In b (placed_in draft.placed.items) → In b before) → HasBlocks tree.lsn before (take draft.taken listed) after draft
    still_has still stamped before after same own =
        let none : take draft.taken listed ≡ [] = ap (λ (n : ℕ). take n listed) still.taken ∙ none_first listed in
        record {
          once = λ b. let f : times b draft.freed.items ≡ 0 = ap (times b) still.freed in let t : times b (take draft.taken listed) ≡ 0 = ap (times b) none in omega (arith, same b, f, t);
          own = λ b h. inl (own b h);
          apart = λ b h there. subst (In b) still.freed h;
          all = λ b h. absurd (subst (In b) none h);
          stamped = stamped;
        }

    module _ (law : IsLawful form) where
      -- where nothing is told, the blocks are those that were made
      untold : IsAlong form ask tree None listed draft → IsChecked form ask tree None listed draft
      untold k =
          let some = some_edit form law ask.how ask.rec k.made.plain in
          let blocks = placed_in draft.placed.items in
          record {
            recs = some.0;
            records = made form ask.how ask.rec some.0;
            before = blocks;
            after = blocks;
            edits = some.1;
            was = λ m e. let z : ◌≡◌ {A = Option (ℕ → List ℕ)} None (Some m) = e in absurd cc;
            is = λ m e. let z : ◌≡◌ {A = Option (ℕ → List ℕ)} None (Some m) = e in absurd cc;
            few = k.within.few;
            has = still_has k.made.still k.stamped blocks blocks (λ b. refl) (λ b h. h);
            inside = k.within.inside;
          }

      told_so : (m : ℕ → List ℕ) (recs : List R) (before : List ℕ) → IsAlong form ask tree (Some m) listed draft → read_tree form ask.site m tree.root tree.levels ≡ Ok (recs, before) → IsChecked form ask tree (Some m) listed draft
      told_so m recs before k reads =
          let now = made_reads_lem form law ask tree (Some m) draft m recs before k.made refl reads in
          record {
            recs = recs;
            records = now.records;
            before = before;
            after = now.after;
            edits = now.edits;
            was = λ n e. subst (λ (x : ℕ → List ℕ). read_tree form ask.site x tree.root tree.levels ≡ Ok (recs, before)) (some_is m n e) reads;
            is = λ n e. subst (λ (x : ℕ → List ℕ). reads_draft form ask.site draft x ≡ Ok (now.records, now.after)) (some_is m n e) now.read;
            few = k.within.few;
            has = still_has k.made.still k.stamped before now.after now.once (λ b h. now.own b (placed_is b draft.placed.items h));
            inside = k.within.inside;
          }

      pub along_is_checked : (told : Option (ℕ → List ℕ)) → IsAlong form ask tree told listed draft → IsReadable form ask tree told → IsChecked form ask tree told listed draft
      along_is_checked None k reads = untold k
      along_is_checked (Some m) k reads = let r = reads m refl in told_so m r.0 r.1 k r.2
