-- Runs that move between free space and the free list.
use Rattle.std.specs.Prelude.{ℕ, Bool, true, false, not, List, [], ◌++◌, filter, ◌≡◌, ◌+◌, ◌<◌, ◌≤◌, is_some, refl, if◌then◌else◌}
use Rattle.std.specs.List.{list_any}
use Rattle.std.proofs.Common.{sym, ap, subst, inl, inr, ◌∙◌, arith, cond}
use Rattle.fs_change.specs.Changes.{by_count, give_free, give_owner, is_in_extent, known_spans, plain_run, refilled, take_free, take_owner, trimmed}
use Rattle.fs_change.specs.Parts.{change_tree, edit, is_edited, is_sick, records_in, with_recs}
use Rattle.fs_change.specs.Records.{by_start, count_at, give_mapping, give_span, holder_of, span, take_mapping, take_span}
use Rattle.fs_state.specs.Lists.{numbers}
use Rattle.fs_model.specs.declared.entry.Extent.{Extent}
use Rattle.fs_state.specs.Kinds.{RecOf}
use Rattle.fs_state.specs.State.{State, Group, Index, is_readable, recs_of}
use Rattle.fs_state.specs.declared.intent.Intent.{Intent}
use Rattle.rmap_recs.specs.Owners.{number_of}
use Rattle.rmap_recs.specs.declared.owner.Owner.TheVariants.{Ag}
use Rattle.rmap_recs.specs.declared.records.RmapRec.{RmapRec}
use Rattle.run_edits.specs.Edits.{holds}
use Rattle.sblock.specs.declared.kind.Kind.TheVariants.{Bno, Cnt, Rmap, Refc}
use Rattle.law_accounts.specs.Account.Accounts.{at_span, covers_at, due, hits, ledger_in, ledger_of, owes, removes, spans_at}
use Rattle.law_accounts.specs.Account.Ledger.{Ledger, Sound}
use Rattle.law_accounts.specs.Account.Listed.{AreEdited, LeavesList, RefilledSound, TrimmedSound}
use Rattle.law_accounts.specs.Account.Space.{IsListing}
use Rattle.law_accounts.specs.Account.Steps.{IsWritten}
use Rattle.law_accounts.proofs.Account.Blocks.{block_trimmed, carry, run_listed}
use Rattle.law_accounts.proofs.Account.Covers.{given_covers, taken_covers}
use Rattle.law_accounts.proofs.Account.Free.{given_spans, taken_spans}
use Rattle.law_accounts.proofs.Account.Mappings.{counts_stay, edited_recs, spans_stay}
use Rattle.law_accounts.proofs.Account.Runs.{give_counts, give_maps, give_spans, more, none_left, one_less, own_group, stay, take_counts, take_maps, take_spans}
use Rattle.law_accounts.proofs.Account.Sums.{hit_bit, hits_own}

plus_none : (x s : ℕ) → s ≡ 0 → x ≡ x + s
plus_none x s f = omega (arith, f)

plus_one : (x s : ℕ) → s ≡ 1 → x + 1 ≡ x + s
plus_one x s f = omega (arith, f)

less_none : (x y s : ℕ) → x ≡ y + s → s ≡ 0 → x ≡ y
less_none x y s e f = omega (arith, e, f)

less_one : (x y s : ℕ) → x ≡ y + s → s ≡ 1 → x ≡ y + 1
less_one x y s e f = omega (arith, e, f)

-- an edit of reverse mappings leaves free space by start as it can be edited, and one of free space reverse mappings
maps_then : (f : List RmapRec → List RmapRec) (p : Group) (w : IsWritten [] p) → IsListing [] p → IsListing [] (edit [] Rmap f p)
maps_then f p w l = subst (IsListing []) (sym (ap (λ t. cond t (change_tree Rmap (λ i. record i { reading = with_recs (f (recs_of i.reading)) i.reading }) p) p) w.edited)) (record { edited = l.edited; readable = l.readable; apart = l.apart })

module _ (e : Extent) (p : Group) (w : AreEdited p) (pos : 0 < e.count) where
  abbrev run : RmapRec
  run = plain_run (number_of Ag) e

  -- ---- the list is filled

  abbrev filled : Group
  filled = record p { free_list = p.free_list ++ numbers e.block e.count }

  abbrev taken : Group
  taken = take_free [] e filled

  abbrev full : Group
  full = give_owner [] (number_of Ag) e taken

  maps_stay : taken.tree Rmap ≡ p.tree Rmap
  maps_stay = outer (is_edited [] (edit [] Bno (take_span by_start (records_in filled Bno) (span e.block e.count)) filled) Cnt) ∙ inner (is_edited [] filled Bno)
    where
      inner : (t : Bool) → (cond t (change_tree Bno (λ i. record i { reading = with_recs (take_span by_start (records_in filled Bno) (span e.block e.count) (recs_of i.reading)) i.reading }) filled) filled).tree Rmap ≡ p.tree Rmap
      inner true = refl
      inner false = refl

      outer : (t : Bool) → (cond t (change_tree Cnt (λ i. record i { reading = with_recs (take_span by_count (known_spans filled) (span e.block e.count) (recs_of i.reading)) i.reading }) (edit [] Bno (take_span by_start (records_in filled Bno) (span e.block e.count)) filled)) (edit [] Bno (take_span by_start (records_in filled Bno) (span e.block e.count)) filled)).tree Rmap ≡ (edit [] Bno (take_span by_start (records_in filled Bno) (span e.block e.count)) filled).tree Rmap
      outer true = refl
      outer false = refl

  written_then : IsWritten [] taken
  written_then = record {
    edited = ap (λ (i : Index (RecOf Rmap)). if is_sick i.trust then false else true) maps_stay ∙ w.maps.edited;
    readable = ap (λ (i : Index (RecOf Rmap)). is_readable i.reading) maps_stay ∙ w.maps.readable;
  }

  listing : IsListing [] filled
  listing = record { edited = w.spans.edited; readable = w.spans.readable; apart = w.spans.apart }

  full_spans : is_some (holder_of (records_in p Bno) (span e.block e.count)) ≡ true → (b : ℕ) → spans_at (records_in full Bno) b + at_span e.block e.count b ≡ spans_at (records_in p Bno) b
  full_spans free b =
      ap (λ rs. spans_at rs b + at_span e.block e.count b) (spans_stay [] (give_mapping run) taken written_then ∙ take_spans [] e filled listing)
      ∙ taken_spans (records_in p Bno) (span e.block e.count) b w.spans.apart free

  full_covers : (b : ℕ) → covers_at (records_in full Rmap) b ≡ covers_at (records_in p Rmap) b + at_span e.block e.count b
  full_covers b =
      ap (λ rs. covers_at rs b) (edited_recs [] (give_mapping run) taken written_then)
      ∙ ap (λ rs. covers_at (give_mapping run rs) b) (take_maps [] e filled listing)
      ∙ given_covers run (records_in p Rmap) b pos

  full_counts : (b : ℕ) → count_at (records_in full Refc) b ≡ count_at (records_in p Refc) b
  full_counts b = ap (λ rs. count_at rs b) (counts_stay [] (give_mapping run) taken written_then ∙ take_counts [] e filled listing)

  module _ (cs : ℕ → List Intent) (b owned alone : ℕ) (free : is_some (holder_of (records_in p Bno) (span e.block e.count)) ≡ true) (h : Sound (ledger_in p cs e.group b owned alone)) where
    abbrev l : Ledger
    l = ledger_in p cs e.group b owned alone

    abbrev m : Ledger
    m = ledger_in full cs e.group b (owned + hits e.group b e) (alone + hits e.group b e)

    list_is_filled : Sound m
    list_is_filled =
        let s : m.spans + hits e.group b e ≡ l.spans = ap (λ (n : ℕ). m.spans + n) (hits_own b e) ∙ full_spans free b in
        let c : m.covers ≡ l.covers + hits e.group b e = full_covers b ∙ ap (λ (n : ℕ). l.covers + n) (sym (hits_own b e)) in
        elim (hit_bit e.group b e) [
          | inl z ↦ carry l m (sym (full_counts b)) refl refl refl refl refl (none_left m.spans l.spans (hits e.group b e) s z) (stay m.covers l.covers (hits e.group b e) c z) (plus_none owned (hits e.group b e) z) (plus_none alone (hits e.group b e) z) h
          | inr z ↦ carry (record l { spans = m.spans; covers = l.covers + 1; owned = l.owned + 1; alone = l.alone + 1 }) m (sym (full_counts b)) refl refl refl refl refl refl (more m.covers l.covers (hits e.group b e) c z) (plus_one owned (hits e.group b e) z) (plus_one alone (hits e.group b e) z)
              (run_listed l h m.spans (one_less m.spans (hits e.group b e) l.spans s z))
        ]

  -- ---- and trimmed

  abbrev trimmed_list : Group
  trimmed_list = record p { free_list = filter (λ b. not (is_in_extent e b)) p.free_list }

  abbrev unowned : Group
  unowned = take_owner [] (number_of Ag) e trimmed_list

  abbrev back : Group
  back = give_free [] e unowned

  written : IsWritten [] trimmed_list
  written = record { edited = w.maps.edited; readable = w.maps.readable }

  listing_then : IsListing [] unowned
  listing_then = maps_then (take_mapping run) trimmed_list written (record { edited = w.spans.edited; readable = w.spans.readable; apart = w.spans.apart })

  back_spans : (b : ℕ) → spans_at (records_in back Bno) b ≡ spans_at (records_in p Bno) b + at_span e.block e.count b
  back_spans b =
      ap (λ rs. spans_at rs b) (give_spans [] e unowned listing_then)
      ∙ ap (λ rs. spans_at (give_span by_start rs (span e.block e.count) rs) b) (spans_stay [] (take_mapping run) trimmed_list written)
      ∙ given_spans (records_in p Bno) (span e.block e.count) b w.spans.apart pos

  back_covers : list_any (λ r. holds r run) (records_in p Rmap) ≡ true → (b : ℕ) → covers_at (records_in back Rmap) b + at_span e.block e.count b ≡ covers_at (records_in p Rmap) b
  back_covers there b =
      ap (λ rs. covers_at rs b + at_span e.block e.count b) (give_maps [] e unowned listing_then ∙ edited_recs [] (take_mapping run) trimmed_list written)
      ∙ taken_covers run (records_in p Rmap) b pos there

  back_counts : (b : ℕ) → count_at (records_in back Refc) b ≡ count_at (records_in p Refc) b
  back_counts b = ap (λ rs. count_at rs b) (give_counts [] e unowned listing_then ∙ counts_stay [] (take_mapping run) trimmed_list written)

  module _ (cs : ℕ → List Intent) (b owned alone still other : ℕ) (there : list_any (λ r. holds r run) (records_in p Rmap) ≡ true) (owned_then : owned ≡ still + hits e.group b e) (alone_then : alone ≡ other + hits e.group b e) (some : other ≤ still)
      (none_goes : hits e.group b e ≡ 1 → due (owes removes e.group b) cs ≡ 0) (h : Sound (ledger_in p cs e.group b owned alone)) where
    abbrev before : Ledger
    before = ledger_in p cs e.group b owned alone

    abbrev behind : Ledger
    behind = ledger_in back cs e.group b still other

    list_is_trimmed : Sound behind
    list_is_trimmed =
        let s : behind.spans ≡ before.spans + hits e.group b e = back_spans b ∙ ap (λ (n : ℕ). before.spans + n) (sym (hits_own b e)) in
        let c : behind.covers + hits e.group b e ≡ before.covers = ap (λ (n : ℕ). behind.covers + n) (hits_own b e) ∙ back_covers there b in
        elim (hit_bit e.group b e) [
          | inl z ↦ carry before behind (sym (back_counts b)) refl refl refl refl refl (stay behind.spans before.spans (hits e.group b e) s z) (none_left behind.covers before.covers (hits e.group b e) c z) (less_none owned still (hits e.group b e) owned_then z) (less_none alone other (hits e.group b e) alone_then z) h
          | inr z ↦
              let a1 : before.alone ≡ other + 1 = less_one alone other (hits e.group b e) alone_then z in
              let o1 = (h.single (omega (arith, a1))).0 in
              let none : still ≡ 0 = omega (arith, o1, owned_then, z) in
              carry (record before { alone = 0; covers = behind.covers; owned = 0; spans = before.spans + 1 }) behind (sym (back_counts b)) refl refl refl refl refl (more behind.spans before.spans (hits e.group b e) s z) refl (sym none) (omega (arith, none, some))
              (block_trimmed before h other behind.covers a1 (one_less behind.covers (hits e.group b e) before.covers c z) (none_goes z) o1)
        ]

refilled_in : (a : State) (e : Extent) (b owned alone : ℕ) → 0 < e.count → AreEdited (a.group e.group) → is_some (holder_of (records_in (a.group e.group) Bno) (span e.block e.count)) ≡ true
    → Sound (ledger_of a e.group b owned alone) → Sound (ledger_of (refilled e a) e.group b (owned + hits e.group b e) (alone + hits e.group b e))
unfolding refilled
refilled_in a e b owned alone pos w free h =
    subst (λ (q : Group). Sound (ledger_in q a.chains e.group b (owned + hits e.group b e) (alone + hits e.group b e))) (sym (own_group e.group (λ p. give_owner [] (number_of Ag) e (take_free [] e (record p { free_list = p.free_list ++ numbers e.block e.count }))) a))
    (list_is_filled e (a.group e.group) w pos a.chains b owned alone free h)

pub refilled_sound : RefilledSound
refilled_sound a x left e b owned alone w free row h =
    subst (λ (y : State). Sound (ledger_of y e.group b (owned + hits e.group b e) (alone + hits e.group b e))) (sym row.1) (refilled_in a e b owned alone row.0.some w free h)

trimmed_in : (a : State) (e : Extent) (b owned alone still other : ℕ) → 0 < e.count → AreEdited (a.group e.group) → LeavesList a e b owned alone still other
    → Sound (ledger_of a e.group b owned alone) → Sound (ledger_of (trimmed e a) e.group b still other)
unfolding trimmed
trimmed_in a e b owned alone still other pos w k h =
    subst (λ (q : Group). Sound (ledger_in q a.chains e.group b still other)) (sym (own_group e.group (λ p. give_free [] e (take_owner [] (number_of Ag) e (record p { free_list = filter (λ n. not (is_in_extent e n)) p.free_list }))) a))
    (list_is_trimmed e (a.group e.group) w pos a.chains b owned alone still other k.there k.owned_then k.alone_then k.some k.none_goes h)

pub trimmed_sound : TrimmedSound
trimmed_sound a x left e b owned alone still other w k row h =
    subst (λ (y : State). Sound (ledger_of y e.group b still other)) (sym row.1) (trimmed_in a e b owned alone still other row.0.some w k h)
