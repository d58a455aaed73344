-- An edit of one tree leaves the others.
use Rattle.std.proofs.Common.{◌≡◌, ℕ, ◌+◌, ◌≤◌, List, [], ◌∷◌, ◌++◌, Ok, refl, ap, sym, subst, ◌∙◌, inl, inr, arith}
use Rattle.std.specs.Prelude.{◌⊎◌, ◌==◌, if◌then◌else◌}
use Rattle.std.proofs.lemmas.Bool.{cases_eq}
use Rattle.geom.specs.Layout.{Layout, device_block_of}
use Rattle.sblock.specs.declared.kind.Kind.{Kind}
use Rattle.sblock.specs.declared.kind.Kind.TheVariants.{Bno, Cnt, Rmap, Refc, Ino, Fino}
use Rattle.tree_defs.specs.Sites.{site_of, group_blocks}
use Rattle.tree_defs.specs.Tree.{read_tree}
use Rattle.tree_defs.specs.Lists.{times}
use Rattle.fs_state.specs.Apart.{In}
use Rattle.fs_state.specs.Edits.{Now, number_of, Among, Distinct, held, Edits, EditsOne, EditLaw}
use Rattle.fs_state.specs.Kinds.{form_of, Image}
use Rattle.fs_state.proofs.Pools.{times_append, in_times}
use Rattle.fs_state.proofs.Trees.{tree_stays, lawful_of, first_is}

pub kind_named : (n : ℕ) → Kind
kind_named n = if n == 0 then Bno else (if n == 1 then Cnt else (if n == 2 then Rmap else (if n == 3 then Refc else (if n == 4 then Ino else Fino))))

pub named_back : (k : Kind) → kind_named (number_of k) ≡ k
unfolding kind_named
named_back Bno = refl
named_back Cnt = refl
named_back Rmap = refl
named_back Refc = refl
named_back Ino = refl
named_back Fino = refl

-- two kinds are one or aren't
pub kinds_eq : (j k : Kind) → (j ≡ k) ⊎ (j ≡ k → ⊥)
kinds_eq j k =
    elim (cases_eq (number_of j) (number_of k)) [
      | inl same ↦ inl (sym (named_back j) ∙ ap kind_named same ∙ named_back k)
      | inr other ↦ inr (λ e. other (ap (λ x. number_of x) e))
    ]

in_left : (p : ℕ) (xs ys : List ℕ) → In p xs → In p (xs ++ ys)
in_left p [] ys h = absurd h
in_left p (x ∷ xs) ys (inl e) = inl e
in_left p (x ∷ xs) ys (inr h) = inr (in_left p xs ys h)

module _ (k : Kind) (now now' : (j : Kind) → Now j) (list list' : List ℕ) (others : (j : Kind) → (j ≡ k → ⊥) → now' j ≡ now j) (p : ℕ) where
  -- without this kind the same blocks are held but for the list
  same_held : (ks : List Kind) → (Among k ks → ⊥) → times p (held ks now' list') + times p list ≡ times p (held ks now list) + times p list'
  same_held [] none = omega arith
  same_held (j ∷ js) none =
      let e : (now' j).blocks ≡ (now j).blocks = ap (λ (x : Now j). x.blocks) (others j (λ h. none (inl h))) in
      let t : times p (now' j).blocks ≡ times p (now j).blocks = ap (times p) e in
      let a = times_append p (now' j).blocks (held js now' list') in
      let b = times_append p (now j).blocks (held js now list) in
      let r = same_held js (λ h. none (inr h)) in
      omega (arith, t, a, b, r)

  edit_held : (ks : List Kind) → Distinct ks → Among k ks → times p ((now' k).blocks ++ list') ≡ times p ((now k).blocks ++ list) → times p (held ks now' list') ≡ times p (held ks now list)
  edit_held [] d i moved = absurd i
  edit_held (j ∷ js) d (inl e) moved =
      let none : Among k js → ⊥ = λ h. d.0 (subst (λ x. Among x js) (sym e) h) in
      let t : times p (now' j).blocks + times p list' ≡ times p (now j).blocks + times p list = subst (λ x. times p (now' x).blocks + times p list' ≡ times p (now x).blocks + times p list) (sym e) (sym (times_append p (now' k).blocks list') ∙ moved ∙ times_append p (now k).blocks list) in
      let a = times_append p (now' j).blocks (held js now' list') in
      let b = times_append p (now j).blocks (held js now list) in
      let r = same_held js none in
      omega (arith, t, a, b, r)
  edit_held (j ∷ js) d (inr i) moved =
      let other : j ≡ k → ⊥ = λ h. d.0 (subst (λ x. Among x js) (sym h) i) in
      let t : times p (now' j).blocks ≡ times p (now j).blocks = ap (λ (x : Now j). times p x.blocks) (others j other) in
      let a = times_append p (now' j).blocks (held js now' list') in
      let b = times_append p (now j).blocks (held js now list) in
      let r = edit_held js d.1 i moved in
      omega (arith, t, a, b, r)

module _ (now : (j : Kind) → Now j) (list : List ℕ) (p : ℕ) where
  list_held : (ks : List Kind) → times p list ≤ times p (held ks now list)
  list_held [] = omega arith
  list_held (j ∷ js) = let a = times_append p (now j).blocks (held js now list) in let r = list_held js in omega (arith, a, r)

  -- one tree and the list
  one_held : (ks : List Kind) (k : Kind) → Among k ks → times p (now k).blocks + times p list ≤ times p (held ks now list)
  one_held [] k i = absurd i
  one_held (j ∷ js) k (inl e) =
      let a = times_append p (now j).blocks (held js now list) in
      let r = list_held js in
      let t : times p (now j).blocks ≡ times p (now k).blocks = ap (λ x. times p (now x).blocks) e in
      omega (arith, a, r, t)
  one_held (j ∷ js) k (inr i) = let a = times_append p (now j).blocks (held js now list) in let r = one_held js k i in omega (arith, a, r)

  -- two trees and the list
  two_held : (ks : List Kind) (j k : Kind) → (j ≡ k → ⊥) → Among j ks → Among k ks → times p (now j).blocks + (times p (now k).blocks + times p list) ≤ times p (held ks now list)
  two_held [] j k other i h = absurd i
  two_held (x ∷ xs) j k other (inl e) (inl f) = absurd (other (sym e ∙ f))
  two_held (x ∷ xs) j k other (inl e) (inr h) =
      let a = times_append p (now x).blocks (held xs now list) in
      let r = one_held xs k h in
      let t : times p (now x).blocks ≡ times p (now j).blocks = ap (λ y. times p (now y).blocks) e in
      omega (arith, a, r, t)
  two_held (x ∷ xs) j k other (inr i) (inl f) =
      let a = times_append p (now x).blocks (held xs now list) in
      let r = one_held xs j i in
      let t : times p (now x).blocks ≡ times p (now k).blocks = ap (λ y. times p (now y).blocks) f in
      omega (arith, a, r, t)
  two_held (x ∷ xs) j k other (inr i) (inr h) = let a = times_append p (now x).blocks (held xs now list) in let r = two_held xs j k other i h in omega (arith, a, r)

module _ (at : Layout) (image image' : Image) (g : ℕ) (ks : List Kind) (k : Kind) (now now' : (j : Kind) → Now j) (list list' : List ℕ) (distinct : Distinct ks) (among : Among k ks) (others : (j : Kind) → (j ≡ k → ⊥) → now' j ≡ now j) (before : Edits at image g ks now list) (edit : EditsOne at image image' g k (now k) (now' k) list list') where
  -- a block of another tree isn't written
  unwritten : (j : Kind) → Among j ks → (j ≡ k → ⊥) → (p : ℕ) → In p (now j).blocks → image' (device_block_of at g p) ≡ image (device_block_of at g p)
  unwritten j i other p h =
      elim (edit.writes p) [
        | inl same ↦ same
        | inr w ↦
            let one = in_times p (now j).blocks h in
            let two = in_times p ((now k).blocks ++ list) w in
            let a = times_append p (now k).blocks list in
            let r = two_held now list p ks j k other i among in
            let most = before.once p in
            absurd (omega (arith, one, two, a, r, most))
      ]

  Reads : (j : Kind) → Now j → Type 0
  Reads j n = read_tree (form_of j) (site_of at g) (group_blocks (site_of at g) image') n.root n.levels ≡ Ok (n.recs, n.blocks)

  other_reads : (j : Kind) → Among j ks → (j ≡ k → ⊥) → Reads j (now j)
  unfolding Reads
  other_reads j i other =
      tree_stays (form_of j) (lawful_of j) (site_of at g) (group_blocks (site_of at g) image) (group_blocks (site_of at g) image') (now j).root (now j).levels ((now j).recs, (now j).blocks) (before.reads j i) (λ p h. rw (first_is at g p) (unwritten j i other p h))

  all_read : (j : Kind) → Among j ks → Reads j (now' j)
  unfolding Reads
  all_read j i =
      elim (kinds_eq j k) [
        | inl same ↦ subst (λ x. Reads x (now' x)) (sym same) edit.reads
        | inr other ↦ subst (Reads j) (sym (others j other)) (other_reads j i other)
      ]

  after : Edits at image' g ks now' list'
  unfolding Reads
  after = record { reads = all_read; once = λ p. let e = edit_held k now now' list list' others p ks distinct among (edit.moved p) in let o = before.once p in omega (arith, e, o) }

pub edit_law_lem : EditLaw
edit_law_lem at image image' g ks k now now' list list' distinct among others before edit = after at image image' g ks k now now' list list' distinct among others before edit
