-- Edits of records leave list, blocks, reserve and limbo of a group, and which of its trees can be read and are sick.
use Rattle.std.proofs.Common.{◌≡◌, ℕ, Bool, true, false, cond, List, [], refl, ◌∙◌}
use Rattle.std.specs.Prelude.{if◌then◌else◌}
use Rattle.law_accounts.proofs.Account.Framed.{SameParts, both_parts, edit_parts, same_parts}
use Rattle.fs_change.specs.Changes.{free_chunk, list_chunk, turn}
use Rattle.fs_change.specs.Parts.{change_tree, edit, is_edited, records_in}
use Rattle.fs_change.specs.Records.{follow_inode, put_chunk, turn_inode}
use Rattle.fs_model.specs.declared.entry.Extent.{Extent}
use Rattle.fs_model.specs.declared.fault.Counter.{Counter}
use Rattle.fs_state.specs.Kinds.{RecOf}
use Rattle.fs_state.specs.State.{Group, Index, is_readable, recs_of}
use Rattle.law_repairs.proofs.Move.Edits.{SpaceEdit, changed_index, edit_trust, spaced_group}
use Rattle.law_repairs.proofs.Move.Moving.{by_tree}
use Rattle.law_repairs.proofs.Move.Steps.{Steady, readable_put, space_steady}
use Rattle.sblock.specs.declared.kind.Kind.{Kind}
use Rattle.sblock.specs.declared.kind.Kind.TheVariants.{Ino, Fino}

-- what of a group stays where records alone change
pub record Stays (p q : Group) : Type 0 where
  pub parts : SameParts p q
  pub readable : (k : Kind) → is_readable (q.tree k).reading ≡ is_readable (p.tree k).reading
  pub trust : (k : Kind) → (q.tree k).trust ≡ (p.tree k).trust

pub itself : (p : Group) → Stays p p
itself p = record { parts = same_parts p; readable = λ k. refl; trust = λ k. refl }

pub both : (p q r : Group) → Stays p q → Stays q r → Stays p r
both p q r s t = record { parts = both_parts p q r s.parts t.parts; readable = λ k. t.readable k ∙ s.readable k; trust = λ k. t.trust k ∙ s.trust k }

-- other counters change nothing of that
pub recounted : (p q : Group) (counters : Counter → ℕ) → Stays p q → Stays p (record q { counters = counters })
recounted p q counters s = record {
  parts = record { list = s.parts.list; blocks = s.parts.blocks; reserve = s.parts.reserve; limbo = s.parts.limbo };
  readable = s.readable;
  trust = s.trust;
}

pub one_of : (t : Bool) (p q r : Group) → Stays p q → Stays p r → Stays p (if t then q else r)
one_of true p q r s t = s
one_of false p q r s t = t

edit_readable : (left : List Kind) (k j : Kind) (f : List (RecOf k) → List (RecOf k)) (p : Group) → is_readable ((edit left k f p).tree j).reading ≡ is_readable (p.tree j).reading
edit_readable left k j f p = by (is_edited left p k)
  where
    by : (t : Bool) → is_readable ((cond t (change_tree k (changed_index f) p) p).tree j).reading ≡ is_readable (p.tree j).reading
    by true = by_tree (λ (l : Kind) (i : Index (RecOf l)). is_readable i.reading ≡ is_readable (p.tree l).reading) k j (changed_index f (p.tree k)) p.tree (readable_put (f (recs_of (p.tree k).reading)) (p.tree k).reading) (λ l. refl)
    by false = refl

pub edit_stays : (left : List Kind) (k : Kind) (f : List (RecOf k) → List (RecOf k)) (p : Group) → Stays p (edit left k f p)
edit_stays left k f p = record { parts = edit_parts left k f p; readable = λ j. edit_readable left k j f p; trust = λ j. edit_trust left k j f p }

pub space_stays : (f : SpaceEdit) (left : List Kind) (e : Extent) (p : Group) → Stays p (spaced_group f left e p)
space_stays f left e p = let s : Steady p (spaced_group f left e p) = space_steady f left e p in record { parts = s.parts; readable = s.readable; trust = s.trust }

-- ---- inodes

pub turn_stays : (to_free : Bool) (i : ℕ) (p : Group) → Stays p (turn to_free i p)
turn_stays to_free i p =
    let q : Group = edit [] Ino (turn_inode to_free i) p in
    both p q (turn to_free i p) (edit_stays [] Ino (turn_inode to_free i) p) (edit_stays [] Fino (follow_inode i (turn_inode to_free i (records_in p Ino))) q)

pub chunk_stays : (b : ℕ) (p : Group) → Stays p (list_chunk b p)
chunk_stays b p =
    let q : Group = edit [] Ino (put_chunk (free_chunk b)) p in
    both p q (list_chunk b p) (edit_stays [] Ino (put_chunk (free_chunk b)) p) (edit_stays [] Fino (put_chunk (free_chunk b)) q)
