-- What an edit makes of one tree, and what it leaves.
use Rattle.std.proofs.Common.{◌≡◌, ℕ, ◌+◌, ◌==◌, ◌&&◌, ◌||◌, Bool, true, false, cond, not, List, [], ◌∷◌, filter, refl, ap, sym, ◌∙◌, Option, Some, None}
use Rattle.std.specs.Prelude.{is_some, find, if◌then◌else◌, ◌⊎◌}
use Rattle.std.specs.List.{list_all, list_any}
use Rattle.std.proofs.Common.{inl, inr}
use Rattle.std.proofs.lemmas.Bool.{and_parts, true≢false}
use Rattle.fs_change.proofs.Trees.{Not, edited}
use Rattle.fs_change.specs.Changes.{by_count, follow, give_free, give_owner, known_spans, last_count, plain_run, space_edit, space_follows, span_sum, take_free, take_owner}
use Rattle.fs_change.specs.Parts.{change_tree, edit, is_edited, is_sick, records_in, sick_in, tree_only, with_recs}
use Rattle.fs_change.specs.Records.{by_start, give_mapping, give_span, span, take_mapping, take_span}
use Rattle.fs_model.specs.declared.entry.Extent.{Extent}
use Rattle.fs_model.specs.declared.fault.Counter.{Counter}
use Rattle.fs_model.specs.declared.fault.Counter.TheVariants.{Freeblks, Longest}
use Rattle.fs_model.specs.declared.unit.Trust.{Trust}
use Rattle.fs_model.specs.declared.unit.Trust.TheVariants.{Good}
use Rattle.fs_state.specs.Group.{is_among}
use Rattle.fs_state.specs.Kinds.{RecOf}
use Rattle.fs_state.specs.State.{Group, Index, Readable, Reading, recs_of}
use Rattle.sblock.specs.declared.kind.Kind.{Kind}
use Rattle.sblock.specs.declared.kind.Kind.TheVariants.{Bno, Cnt, Rmap, Refc, Ino, Fino}
use Rattle.span_recs.specs.declared.span.SpanRec.{SpanRec}
use Rattle.law_accounts.proofs.Account.Framed.{SameParts, both_parts, edit_parts}

at_tree : (k : Kind) (i : Index (RecOf k)) (f : (l : Kind) → Index (RecOf l)) → tree_only k i f k ≡ i
at_tree Bno i f = refl
at_tree Cnt i f = refl
at_tree Rmap i f = refl
at_tree Refc i f = refl
at_tree Ino i f = refl
at_tree Fino i f = refl

-- the tree's records, changed so
abbrev pub changed_index : {R : Type 0} → (List R → List R) → Index R → Index R
changed_index f i = record i { reading = with_recs (f (recs_of i.reading)) i.reading }

pub edit_at : (left : List Kind) (k : Kind) (f : List (RecOf k) → List (RecOf k)) (p : Group) → is_edited left p k ≡ true → (edit left k f p).tree k ≡ changed_index f (p.tree k)
edit_at left k f p h = ap (λ (t : Bool). (cond t (change_tree k (changed_index f) p) p).tree k) h ∙ at_tree k (changed_index f (p.tree k)) p.tree

pub edit_none : (left : List Kind) (k : Kind) (f : List (RecOf k) → List (RecOf k)) (p : Group) → is_edited left p k ≡ false → edit left k f p ≡ p
edit_none left k f p h = ap (λ (t : Bool). cond t (change_tree k (changed_index f) p) p) h

pub edit_counters : (left : List Kind) (k : Kind) (f : List (RecOf k) → List (RecOf k)) (p : Group) → (edit left k f p).counters ≡ p.counters
edit_counters left k f p = by (is_edited left p k)
  where
    by : (t : Bool) → (cond t (change_tree k (changed_index f) p) p).counters ≡ p.counters
    by true = refl
    by false = refl

changed_trust : (k j : Kind) (f : List (RecOf k) → List (RecOf k)) (p : Group) → (change_tree k (changed_index f) p).tree j ≡ (change_tree k (changed_index f) p).tree j → ((change_tree k (changed_index f) p).tree j).trust ≡ (p.tree j).trust
changed_trust Bno Bno f p e = refl
changed_trust Cnt Cnt f p e = refl
changed_trust Rmap Rmap f p e = refl
changed_trust Refc Refc f p e = refl
changed_trust Ino Ino f p e = refl
changed_trust Fino Fino f p e = refl
changed_trust k j f p e = refl

-- no edit changes what is known of a tree
pub edit_trust : (left : List Kind) (k j : Kind) (f : List (RecOf k) → List (RecOf k)) (p : Group) → ((edit left k f p).tree j).trust ≡ (p.tree j).trust
edit_trust left k j f p = by (is_edited left p k)
  where
    by : (t : Bool) → ((cond t (change_tree k (changed_index f) p) p).tree j).trust ≡ (p.tree j).trust
    by true = changed_trust k j f p refl
    by false = refl

abbrev edits_by : Trust → Bool → Bool
edits_by t out = if is_sick t then false else if out then false else true

pub same_edited : (left : List Kind) (p q : Group) (k : Kind) → (q.tree k).trust ≡ (p.tree k).trust → is_edited left q k ≡ is_edited left p k
same_edited left p q k e = ap (λ (t : Trust). edits_by t (is_among k left)) e

-- a tree that is good is edited, unless it was left
pub good_edited : (left : List Kind) (p : Group) (k : Kind) → (p.tree k).trust ≡ Good → is_among k left ≡ false → is_edited left p k ≡ true
good_edited left p k t h = ap (λ (u : Trust). edits_by u (is_among k left)) t ∙ ap (λ (b : Bool). edits_by Good b) h

pub not_sick : (left : List Kind) (p : Group) (k : Kind) → is_edited left p k ≡ true → sick_in p k ≡ false
not_sick left p k h = by (is_sick (p.tree k).trust) (is_among k left) h
  where
    by : (s t : Bool) → (if s then false else if t then false else true) ≡ true → s ≡ false
    by true t e = absurd (true≢false (sym e))
    by false t e = refl

pub well_edited : (left : List Kind) (p : Group) (k : Kind) → sick_in p k ≡ false → is_among k left ≡ false → is_edited left p k ≡ true
well_edited left p k s h = ap (λ (b : Bool). if b then false else if is_among k left then false else true) s ∙ ap (λ (b : Bool). if b then false else true) h

pub not_left : (left : List Kind) (p : Group) (k : Kind) → is_edited left p k ≡ true → is_among k left ≡ false
not_left left p k h = by (is_sick (p.tree k).trust) (is_among k left) h
  where
    by : (s t : Bool) → (if s then false else if t then false else true) ≡ true → t ≡ false
    by true t e = absurd (true≢false (sym e))
    by false true e = absurd (true≢false (sym e))
    by false false e = refl

-- ---- free space

abbrev pub SpaceEdit : Type 0
SpaceEdit = (SpanRec → List SpanRec → List SpanRec) → List SpanRec → SpanRec → List SpanRec → List SpanRec

module _ (f : SpaceEdit) (left : List Kind) (e : Extent) (p : Group) where
  abbrev run : SpanRec
  run = span e.block e.count

  abbrev mid : Group
  mid = edit left Bno (f by_start (records_in p Bno) run) p

  abbrev pub spaced_group : Group
  spaced_group = space_follows left p (space_edit f left e p)

  pub space_parts : SameParts p spaced_group
  space_parts =
      let one = edit_parts left Bno (f by_start (records_in p Bno) run) p in
      let two = edit_parts left Cnt (f by_count (known_spans p) run) mid in
      record { list = two.list ∙ one.list; blocks = λ k. two.blocks k ∙ one.blocks k; reserve = two.reserve ∙ one.reserve; limbo = two.limbo ∙ one.limbo }

  pub space_beside : (j : Kind) → Not j Bno → Not j Cnt → spaced_group.tree j ≡ p.tree j
  space_beside j b c = edited left Cnt j (f by_count (known_spans p) run) mid c ∙ edited left Bno j (f by_start (records_in p Bno) run) p b

  pub space_trust : (j : Kind) → (spaced_group.tree j).trust ≡ (p.tree j).trust
  space_trust j = edit_trust left Cnt j (f by_count (known_spans p) run) mid ∙ edit_trust left Bno j (f by_start (records_in p Bno) run) p

  module _ (eb : is_edited left p Bno ≡ true) (ec : is_edited left p Cnt ≡ true) where
    pub space_by_start : spaced_group.tree Bno ≡ changed_index (f by_start (records_in p Bno) run) (p.tree Bno)
    space_by_start = edited left Cnt Bno (f by_count (known_spans p) run) mid refl ∙ edit_at left Bno (f by_start (records_in p Bno) run) p eb

    known : known_spans p ≡ records_in p Bno
    known = ap (λ (t : Bool). if t then [] else records_in p Bno) (not_sick left p Bno eb)

    pub space_by_count : spaced_group.tree Cnt ≡ changed_index (f by_count (records_in p Bno) run) (p.tree Cnt)
    space_by_count =
        edit_at left Cnt (f by_count (known_spans p) run) mid (same_edited left p mid Cnt (edit_trust left Bno Cnt (f by_start (records_in p Bno) run) p) ∙ ec)
        ∙ ap (changed_index (f by_count (known_spans p) run)) (edited left Bno Cnt (f by_start (records_in p Bno) run) p refl)
        ∙ ap (λ (rs : List SpanRec). changed_index (f by_count rs run) (p.tree Cnt)) known

    pub longest_is : spaced_group.counters Longest ≡ last_count (records_in spaced_group Cnt)
    longest_is = ap (λ (t : Bool). if t then last_count (records_in (space_edit f left e p) Cnt) else p.counters Longest) ec

  pub freeblks_is : spaced_group.counters Freeblks ≡ follow (p.counters Freeblks) (span_sum p) (span_sum spaced_group)
  freeblks_is = refl

-- ---- what edits meet

abbrev pub IsKind : Kind → List Kind → Type 0
IsKind k [] = ⊥
IsKind k (j ∷ js) = (j ≡ k) ⊎ IsKind k js

pub each_edited : (test p : Kind → Bool) (ks : List Kind) (k : Kind) → list_all test (filter p ks) ≡ true → IsKind k ks → p k ≡ true → test k ≡ true
each_edited test p [] k h i e = absurd i
each_edited test p (j ∷ js) k h i e = (elim (p j) as (λ b. p j ≡ b → list_all test (cond b (j ∷ filter p js) (filter p js)) ≡ true → test k ≡ true) [
  | true ↦ λ g x.
      let y = and_parts (test j) (list_all test (filter p js)) x in
      elim i [
        | inl same ↦ ap test (sym same) ∙ y.0
        | inr later ↦ each_edited test p js k y.1 later e
      ]
  | false ↦ λ g x. elim i [
    | inl same ↦ absurd (true≢false (sym e ∙ ap p (sym same) ∙ g))
    | inr later ↦ each_edited test p js k x later e
  ]
]) refl h

pub not_faulty : (l f : Bool) → (l || not f) ≡ true → l ≡ false → f ≡ false
not_faulty true f h i = absurd (true≢false i)
not_faulty false true h i = absurd (true≢false (sym h))
not_faulty false false h i = refl

pub none_lacks : (s m : Bool) → (not s || m) ≡ false → s ≡ true
none_lacks true m h = refl
none_lacks false m h = absurd (true≢false h)
