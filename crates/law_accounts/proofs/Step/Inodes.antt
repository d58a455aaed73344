-- Inodes that are taken or given back.
use Rattle.std.specs.Prelude.{ℕ, Bool, true, false, List, [], ◌∷◌, ◌≡◌, ◌+◌, ◌<◌, ◌≤◌, Option, Some, None, is_some, refl, if◌then◌else◌}
use Rattle.std.proofs.Common.{sym, ap, subst, inl, inr, ◌∙◌, arith, cond}
use Rattle.fs_change.proofs.Trees.{Not, edited, spaced, turned_tree}
use Rattle.fs_change.specs.Changes.{chunk_extent, free_chunk, give_owner, given, inodes_follow, list_chunk, make_chunk, plain_run, take_free, taken, turn}
use Rattle.fs_change.specs.Parts.{edit, is_edited, is_sick, records_in}
use Rattle.fs_change.specs.Records.{count_at, give_mapping, holder_of, put_chunk, span}
use Rattle.fs_change.specs.Step.{group_of_inode}
use Rattle.fs_model.specs.declared.entry.Extent.{Extent}
use Rattle.fs_state.specs.Kinds.{RecOf}
use Rattle.fs_state.specs.State.{State, Group, Index, is_readable, recs_of}
use Rattle.fs_state.specs.declared.intent.Intent.{Intent}
use Rattle.rmap_recs.specs.Owners.{number_of}
use Rattle.rmap_recs.specs.declared.owner.Owner.TheVariants.{Inodes}
use Rattle.rmap_recs.specs.declared.records.RmapRec.{RmapRec}
use Rattle.sblock.specs.declared.kind.Kind.{Kind}
use Rattle.sblock.specs.declared.kind.Kind.TheVariants.{Bno, Rmap, Refc, Ino, Fino}
use Rattle.law_accounts.specs.Account.Accounts.{at_span, covers_at, hits, ledger_in, ledger_of, spans_at}
use Rattle.law_accounts.specs.Account.Ledger.{Ledger, Sound}
use Rattle.law_accounts.specs.Account.Listed.{AreEdited}
use Rattle.law_accounts.specs.Account.Steps.{IsWritten}
use Rattle.law_accounts.proofs.Account.Blocks.{carry, run_listed}
use Rattle.law_accounts.proofs.Account.Covers.{given_covers}
use Rattle.law_accounts.proofs.Account.Free.{taken_spans}
use Rattle.law_accounts.proofs.Account.Mappings.{counts_stay, edited_recs, spans_stay}
use Rattle.law_accounts.proofs.Account.Runs.{more, none_left, one_less, own_group, stay, take_counts, take_maps, take_spans}
use Rattle.law_accounts.proofs.Account.Sums.{hit_bit, hits_own}
use Rattle.law_accounts.specs.Step.Steps.{ChunkTakenSound, GivenSound, TakenSound}

plus_none : (x s : ℕ) → s ≡ 0 → x ≡ x + s
plus_none x s f = omega (arith, f)

plus_one : (x s : ℕ) → s ≡ 1 → x + 1 ≡ x + s
plus_one x s f = omega (arith, f)

-- a group whose free space, mappings and counts are the same has the same numbers
same_trees : (p q : Group) (cs : ℕ → List Intent) (g b owned alone : ℕ) → q.tree Bno ≡ p.tree Bno → q.tree Rmap ≡ p.tree Rmap → q.tree Refc ≡ p.tree Refc → Sound (ledger_in p cs g b owned alone) → Sound (ledger_in q cs g b owned alone)
same_trees p q cs g b owned alone spans maps counts h =
    carry (ledger_in p cs g b owned alone) (ledger_in q cs g b owned alone)
    (ap (λ (i : Index (RecOf Refc)). count_at (recs_of i.reading) b) (sym counts)) refl refl refl refl refl
    (ap (λ (i : Index (RecOf Bno)). spans_at (recs_of i.reading) b) (sym spans)) (ap (λ (i : Index (RecOf Rmap)). covers_at (recs_of i.reading) b) (sym maps)) refl refl h

-- ---- a new chunk

module _ (e : Extent) (p : Group) (w : AreEdited p) (pos : 0 < e.count) where
  abbrev run : RmapRec
  run = plain_run (number_of Inodes) e

  abbrev mid : Group
  mid = take_free [] e p

  abbrev full : Group
  full = give_owner [] (number_of Inodes) e mid

  written_then : IsWritten [] mid
  written_then =
      let same : mid.tree Rmap ≡ p.tree Rmap = spaced [] Rmap e p refl refl in
      record {
        edited = ap (λ (i : Index (RecOf Rmap)). if is_sick i.trust then false else true) same ∙ w.maps.edited;
        readable = ap (λ (i : Index (RecOf Rmap)). is_readable i.reading) same ∙ w.maps.readable;
      }

  full_spans : is_some (holder_of (records_in p Bno) (span e.block e.count)) ≡ true → (b : ℕ) → spans_at (records_in full Bno) b + at_span e.block e.count b ≡ spans_at (records_in p Bno) b
  full_spans free b =
      ap (λ rs. spans_at rs b + at_span e.block e.count b) (spans_stay [] (give_mapping run) mid written_then ∙ take_spans [] e p w.spans)
      ∙ taken_spans (records_in p Bno) (span e.block e.count) b w.spans.apart free

  full_covers : (b : ℕ) → covers_at (records_in full Rmap) b ≡ covers_at (records_in p Rmap) b + at_span e.block e.count b
  full_covers b =
      ap (λ rs. covers_at rs b) (edited_recs [] (give_mapping run) mid written_then)
      ∙ ap (λ rs. covers_at (give_mapping run rs) b) (take_maps [] e p w.spans)
      ∙ given_covers run (records_in p Rmap) b pos

  full_counts : (b : ℕ) → count_at (records_in full Refc) b ≡ count_at (records_in p Refc) b
  full_counts b = ap (λ rs. count_at rs b) (counts_stay [] (give_mapping run) mid written_then ∙ take_counts [] e p w.spans)

  module _ (cs : ℕ → List Intent) (b owned alone : ℕ) (free : is_some (holder_of (records_in p Bno) (span e.block e.count)) ≡ true) (h : Sound (ledger_in p cs e.group b owned alone)) where
    abbrev l : Ledger
    l = ledger_in p cs e.group b owned alone

    abbrev m : Ledger
    m = ledger_in full cs e.group b (owned + hits e.group b e) (alone + hits e.group b e)

    chunk_is_made : Sound m
    chunk_is_made =
        let s : m.spans + hits e.group b e ≡ l.spans = ap (λ (n : ℕ). m.spans + n) (hits_own b e) ∙ full_spans free b in
        let c : m.covers ≡ l.covers + hits e.group b e = full_covers b ∙ ap (λ (n : ℕ). l.covers + n) (sym (hits_own b e)) in
        elim (hit_bit e.group b e) [
          | inl z ↦ carry l m (sym (full_counts b)) refl refl refl refl refl (none_left m.spans l.spans (hits e.group b e) s z) (stay m.covers l.covers (hits e.group b e) c z) (plus_none owned (hits e.group b e) z) (plus_none alone (hits e.group b e) z) h
          | inr z ↦ carry (record l { spans = m.spans; covers = l.covers + 1; owned = l.owned + 1; alone = l.alone + 1 }) m (sym (full_counts b)) refl refl refl refl refl refl (more m.covers l.covers (hits e.group b e) c z) (plus_one owned (hits e.group b e) z) (plus_one alone (hits e.group b e) z)
              (run_listed l h m.spans (one_less m.spans (hits e.group b e) l.spans s z))
        ]

-- ---- what both inode btrees note leaves the others

turned_in : (old : Group) (to_free : Bool) (i : ℕ) (j : Kind) (p : Group) → Not j Ino → Not j Fino → (inodes_follow old (turn to_free i p)).tree j ≡ p.tree j
turned_in old to_free i j p ino fino = turned_tree to_free i j p ino fino

listed_in : (c : ℕ) (j : Kind) (p : Group) → Not j Ino → Not j Fino → (list_chunk c p).tree j ≡ p.tree j
listed_in c j p ino fino = edited [] Fino j (put_chunk (free_chunk c)) (edit [] Ino (put_chunk (free_chunk c)) p) fino ∙ edited [] Ino j (put_chunk (free_chunk c)) p ino

-- ---- the entries

made_in : (a : State) (g i ino uid c b owned alone : ℕ) → AreEdited (a.group g) → is_some (holder_of (records_in (a.group g) Bno) (span c 8)) ≡ true → Sound (ledger_of a g b owned alone)
    → Sound (ledger_of (taken g i ino uid (Some c) a) g b (owned + hits g b (chunk_extent g c)) (alone + hits g b (chunk_extent g c)))
unfolding taken
made_in a g i ino uid c b owned alone w free h =
    let e : Extent = chunk_extent g c in
    let p : Group = full e (a.group g) w (omega arith) in
    let q : Group = inodes_follow (a.group g) (turn false i (list_chunk c p)) in
    subst (λ (r : Group). Sound (ledger_in r a.chains g b (owned + hits g b e) (alone + hits g b e)))
    (sym (own_group g (λ r. inodes_follow (a.group g) (turn false i r)) (make_chunk g (Some c) a)
    ∙ ap (λ (r : Group). inodes_follow (a.group g) (turn false i r)) (own_group g (λ r. list_chunk c (give_owner [] (number_of Inodes) e (take_free [] e r))) a)))
    (same_trees p q a.chains g b (owned + hits g b e) (alone + hits g b e)
    (turned_in (a.group g) false i Bno (list_chunk c p) refl refl ∙ listed_in c Bno p refl refl)
    (turned_in (a.group g) false i Rmap (list_chunk c p) refl refl ∙ listed_in c Rmap p refl refl)
    (turned_in (a.group g) false i Refc (list_chunk c p) refl refl ∙ listed_in c Refc p refl refl)
    (chunk_is_made e (a.group g) w (omega arith) a.chains b owned alone free h))

pub chunk_taken_sound : ChunkTakenSound
chunk_taken_sound a x left writer ino uid c b owned alone w free row h =
    let g : ℕ = group_of_inode a ino in
    let e : Extent = chunk_extent g c in
    subst (λ (y : State). Sound (ledger_of y g b (owned + hits g b e) (alone + hits g b e))) (sym row.3) (made_in a g row.0 ino uid c b owned alone w free h)

taken_in : (a : State) (g i ino uid b owned alone : ℕ) → Sound (ledger_of a g b owned alone) → Sound (ledger_of (taken g i ino uid None a) g b owned alone)
unfolding taken
taken_in a g i ino uid b owned alone h =
    let p : Group = a.group g in
    subst (λ (r : Group). Sound (ledger_in r a.chains g b owned alone)) (sym (own_group g (λ r. inodes_follow (a.group g) (turn false i r)) a))
    (same_trees p (inodes_follow p (turn false i p)) a.chains g b owned alone (turned_in p false i Bno p refl refl) (turned_in p false i Rmap p refl refl) (turned_in p false i Refc p refl refl) h)

pub taken_sound : TakenSound
taken_sound a x left writer ino uid b owned alone row h =
    let g : ℕ = group_of_inode a ino in
    subst (λ (y : State). Sound (ledger_of y g b owned alone)) (sym row.3) (taken_in a g row.0 ino uid b owned alone h)

given_in : (a : State) (g i ino b owned alone : ℕ) → Sound (ledger_of a g b owned alone) → Sound (ledger_of (given g i ino a) g b owned alone)
unfolding given
given_in a g i ino b owned alone h =
    let p : Group = a.group g in
    subst (λ (r : Group). Sound (ledger_in r a.chains g b owned alone)) (sym (own_group g (λ r. inodes_follow r (turn true i r)) a))
    (same_trees p (inodes_follow p (turn true i p)) a.chains g b owned alone (turned_in p true i Bno p refl refl) (turned_in p true i Rmap p refl refl) (turned_in p true i Refc p refl refl) h)

pub given_sound : GivenSound
given_sound a x left writer ino b owned alone row h =
    let g : ℕ = group_of_inode a ino in
    subst (λ (y : State). Sound (ledger_of y g b owned alone)) (sym row.4) (given_in a g row.0 ino b owned alone h)
