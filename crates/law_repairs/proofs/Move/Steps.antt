-- What edits of the group's own trees leave.
use Rattle.std.proofs.Common.{◌≡◌, ℕ, Bool, true, false, cond, List, [], ◌∷◌, refl, ap, sym, ◌∙◌, Option, Some, None}
use Rattle.std.specs.Prelude.{◌==◌}
use Rattle.std.proofs.lemmas.Bool.{true≢false}
use Rattle.fs_change.proofs.Trees.{Not, edited}
use Rattle.fs_change.specs.Changes.{by_count, known_spans, space_edit}
use Rattle.fs_change.specs.Parts.{change_tree, edit, is_edited, records_in, tree_only, with_recs}
use Rattle.fs_change.specs.Records.{by_start, span}
use Rattle.fs_state.specs.Faults.{blocks_counted}
use Rattle.fs_model.specs.declared.entry.Extent.{Extent}
use Rattle.fs_model.specs.declared.fault.Counter.{Counter}
use Rattle.fs_model.specs.declared.fault.Counter.TheVariants.{Count, Freecount, Iblocks, Fblocks, RmapBlocks, Freeblks, Longest, Btreeblks, RefcountBlocks}
use Rattle.fs_state.specs.Kinds.{RecOf}
use Rattle.fs_state.specs.State.{Group, Index, Readable, Reading, Unreadable, is_readable, recs_of}
use Rattle.sblock.specs.declared.kind.Kind.{Kind}
use Rattle.sblock.specs.declared.kind.Kind.TheVariants.{Bno, Cnt, Rmap, Refc, Ino, Fino}
use Rattle.law_accounts.proofs.Account.Framed.{SameParts, both_parts, edit_parts, same_parts}
use Rattle.law_repairs.specs.Move.Moving.{is_own}
use Rattle.law_repairs.proofs.Move.Edits.{SpaceEdit, changed_index, edit_counters, edit_trust, space_parts, space_trust, spaced_group}

-- counters that no edit of free space changes
abbrev pub is_steady : Counter → Bool
is_steady Count = true
is_steady Freecount = true
is_steady Iblocks = true
is_steady Fblocks = true
is_steady RmapBlocks = true
is_steady Freeblks = false
is_steady Longest = false
is_steady Btreeblks = true
is_steady RefcountBlocks = true

pub record Steady (p q : Group) : Type 0 where
  pub parts : SameParts p q
  pub trust : (k : Kind) → (q.tree k).trust ≡ (p.tree k).trust
  pub counted : (k : Kind) → blocks_counted (q.tree k).reading ≡ blocks_counted (p.tree k).reading
  pub readable : (k : Kind) → is_readable (q.tree k).reading ≡ is_readable (p.tree k).reading
  pub others : (k : Kind) → is_own k ≡ false → q.tree k ≡ p.tree k
  pub counters : (name : Counter) → is_steady name ≡ true → q.counters name ≡ p.counters name

pub stays : (p : Group) → Steady p p
stays p = record { parts = same_parts p; trust = λ k. refl; counted = λ k. refl; readable = λ k. refl; others = λ k h. refl; counters = λ name h. refl }

pub both_steady : (p q r : Group) → Steady p q → Steady q r → Steady p r
both_steady p q r s t = record {
  parts = both_parts p q r s.parts t.parts;
  trust = λ k. t.trust k ∙ s.trust k;
  counted = λ k. t.counted k ∙ s.counted k;
  readable = λ k. t.readable k ∙ s.readable k;
  others = λ k h. t.others k h ∙ s.others k h;
  counters = λ name h. t.counters name h ∙ s.counters name h;
}

-- ---- one edit

counted_put : {R : Type 0} (recs : List R) (r : Reading R) → blocks_counted (with_recs recs r) ≡ blocks_counted r
counted_put recs (Readable old blocks) = refl
counted_put recs (Unreadable block fault claims) = refl

pub readable_put : {R : Type 0} (recs : List R) (r : Reading R) → is_readable (with_recs recs r) ≡ is_readable r
readable_put recs (Readable old blocks) = refl
readable_put recs (Unreadable block fault claims) = refl

abbrev Alike : {R : Type 0} → Index R → Index R → Type 0
Alike i j = (blocks_counted j.reading ≡ blocks_counted i.reading) × (is_readable j.reading ≡ is_readable i.reading)

in_tree : (k j : Kind) (i : Index (RecOf k)) (f : (l : Kind) → Index (RecOf l)) → Alike (f k) i → Alike (f j) (tree_only k i f j)
in_tree Bno Bno i f e = e
in_tree Cnt Cnt i f e = e
in_tree Rmap Rmap i f e = e
in_tree Refc Refc i f e = e
in_tree Ino Ino i f e = e
in_tree Fino Fino i f e = e
in_tree k j i f e = (refl, refl)

edit_alike : (left : List Kind) (k j : Kind) (f : List (RecOf k) → List (RecOf k)) (p : Group) → Alike (p.tree j) ((edit left k f p).tree j)
edit_alike left k j f p = by (is_edited left p k)
  where
    by : (t : Bool) → Alike (p.tree j) ((cond t (change_tree k (changed_index f) p) p).tree j)
    by true = in_tree k j (changed_index f (p.tree k)) p.tree (counted_put (f (recs_of (p.tree k).reading)) (p.tree k).reading, readable_put (f (recs_of (p.tree k).reading)) (p.tree k).reading)
    by false = (refl, refl)

not_own : (k j : Kind) → is_own k ≡ true → is_own j ≡ false → Not j k
not_own Bno Refc h i = refl
not_own Bno Ino h i = refl
not_own Bno Fino h i = refl
not_own Cnt Refc h i = refl
not_own Cnt Ino h i = refl
not_own Cnt Fino h i = refl
not_own Rmap Refc h i = refl
not_own Rmap Ino h i = refl
not_own Rmap Fino h i = refl
not_own k Bno h i = absurd (true≢false i)
not_own k Cnt h i = absurd (true≢false i)
not_own k Rmap h i = absurd (true≢false i)
not_own Refc j h i = absurd (true≢false (sym h))
not_own Ino j h i = absurd (true≢false (sym h))
not_own Fino j h i = absurd (true≢false (sym h))

pub edit_steady : (left : List Kind) (k : Kind) (f : List (RecOf k) → List (RecOf k)) (p : Group) → is_own k ≡ true → Steady p (edit left k f p)
edit_steady left k f p own = record {
  parts = edit_parts left k f p;
  trust = λ j. edit_trust left k j f p;
  counted = λ j. (edit_alike left k j f p).0;
  readable = λ j. (edit_alike left k j f p).1;
  others = λ j h. edited left k j f p (not_own k j own h);
  counters = λ name h. ap (λ (c : Counter → ℕ). c name) (edit_counters left k f p);
}

-- ---- free space

pub space_steady : (f : SpaceEdit) (left : List Kind) (e : Extent) (p : Group) → Steady p (spaced_group f left e p)
space_steady f left e p =
    let mid : Group = edit left Bno (f by_start (records_in p Bno) (span e.block e.count)) p in
    let one = edit_steady left Bno (f by_start (records_in p Bno) (span e.block e.count)) p refl in
    let two = edit_steady left Cnt (f by_count (known_spans p) (span e.block e.count)) mid refl in
    let both = both_steady p mid (space_edit f left e p) one two in
    record { parts = space_parts f left e p; trust = space_trust f left e p; counted = both.counted; readable = both.readable; others = both.others; counters = same }
  where
    same : (name : Counter) → is_steady name ≡ true → (spaced_group f left e p).counters name ≡ p.counters name
    same Count h = refl
    same Freecount h = refl
    same Iblocks h = refl
    same Fblocks h = refl
    same RmapBlocks h = refl
    same Freeblks h = absurd (true≢false (sym h))
    same Longest h = absurd (true≢false (sym h))
    same Btreeblks h = refl
    same RefcountBlocks h = refl
