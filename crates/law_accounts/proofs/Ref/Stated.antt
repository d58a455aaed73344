-- A finished step of reference counts leaves all claims of a group, and records that don't overlap.
use Rattle.std.specs.Prelude.{ℕ, Bool, true, false, List, ◌≡◌, ◌<◌, refl, if◌then◌else◌}
use Rattle.std.proofs.Common.{sym, ap, subst, ◌∙◌, cond}
use Rattle.std.proofs.lemmas.Bool.{true≢false}
use Rattle.fs_change.specs.Changes.{change_count, changes_count, new_count, ref_done}
use Rattle.fs_change.specs.Parts.{change_tree, edit, records_in, sick_in, with_recs}
use Rattle.fs_change.specs.Records.{set_count, stretch}
use Rattle.fs_state.specs.Claims.{Claimed, claims}
use Rattle.fs_model.specs.declared.entry.Extent.{Extent}
use Rattle.fs_state.specs.Group.{is_among}
use Rattle.fs_state.specs.State.{State, Group, Readable, Reading, Unreadable, is_readable, recs_of}
use Rattle.fs_state.specs.declared.intent.Intent.{Intent}
use Rattle.sblock.specs.declared.kind.Kind.{Kind}
use Rattle.sblock.specs.declared.kind.Kind.TheVariants.{Refc}
use Rattle.span_recs.specs.declared.refcount.RefcRec.{RefcRec}
use Rattle.law_accounts.specs.Account.Accounts.{alone_at, ledger_of, owned_at}
use Rattle.law_accounts.specs.Account.Ledger.{Sound}
use Rattle.law_accounts.specs.Account.Stated.{ChunksStay}
use Rattle.law_accounts.proofs.Account.Framed.{SameParts, claims_same, edit_parts, own_group, same_parts}
use Rattle.law_accounts.proofs.Account.Runs.{own_group as group_is}
use Rattle.law_accounts.specs.Count.Counted.{AreCounts}
use Rattle.law_accounts.specs.Ref.Steps.{AreCounting, RefDoneCounts, RefDoneStated}
use Rattle.law_accounts.proofs.Count.Counts.{counts_stay}
use Rattle.law_accounts.proofs.Ref.Steps.{ref_done_sound}

-- ---- claims

counted_parts : (left : List Kind) (more : Bool) (e : Extent) (p : Group) → SameParts p (change_count left more e p)
counted_parts left more e p = by (changes_count more (records_in p Refc) e.block)
  where
    new : Group
    new = edit left Refc (λ recs. set_count e.block e.count (new_count more recs e.block) recs) p

    by : (t : Bool) → SameParts p (if t then new else p)
    by true = edit_parts left Refc (λ recs. set_count e.block e.count (new_count more recs e.block) recs) p
    by false = same_parts p

done_claims : (a : State) (left : List Kind) (c : ℕ) (more : Bool) (e : Extent) (i : Intent) (rest : List Intent) → ChunksStay a (ref_done left c more e i rest a) → claims (ref_done left c more e i rest a) e.group ≡ claims a e.group
unfolding ref_done
done_claims a left c more e i rest stay = claims_same a (ref_done left c more e i rest a) e.group refl refl stay (own_group e.group (change_count left more e) a (counted_parts left more e (a.group e.group)))

pub ref_done_stated : RefDoneStated
ref_done_stated a x left c g at n more b lt w each stay row h =
    let e : Extent = record { group = g; block = at; count = n } in
    let same : claims x g ≡ claims a g = ap (λ (z : State). claims z g) row.5 ∙ done_claims a left c more e row.0 row.1 (subst (ChunksStay a) row.5 stay) in
    subst (λ (cs : List Claimed). Sound (ledger_of x g b (owned_at b cs) (alone_at b cs))) (sym same)
    (ref_done_sound a x left c g at n more b (owned_at b (claims a g)) (alone_at b (claims a g)) lt w each row h)

-- ---- records

with_read : (new : List RefcRec) (r : Reading RefcRec) → is_readable r ≡ true → recs_of (with_recs new r) ≡ new
with_read new (Readable old blocks) h = refl
with_read new (Unreadable block fault claims) h = absurd (true≢false (sym h))

still_read : (new : List RefcRec) (r : Reading RefcRec) → is_readable r ≡ true → is_readable (with_recs new r) ≡ true
still_read new (Readable old blocks) h = refl
still_read new (Unreadable block fault claims) h = absurd (true≢false (sym h))

not_sick : (s o : Bool) → (if s then false else if o then false else true) ≡ true → s ≡ false
not_sick true o q = absurd (true≢false (sym q))
not_sick false o q = refl

counting_then : (left : List Kind) (more : Bool) (e : Extent) (m : ℕ) (p : Group) → AreCounting left p → 0 < e.count → e.count ≡ stretch (records_in p Refc) e.block m → AreCounting left (change_count left more e p)
counting_then left more e m p w some is = by (changes_count more (records_in p Refc) e.block)
  where
    new : List RefcRec
    new = set_count e.block e.count (new_count more (records_in p Refc) e.block) (records_in p Refc)

    changed : Group
    changed = change_tree Refc (λ j. record j { reading = with_recs new j.reading }) p

    in_changed : AreCounting left changed
    in_changed = record {
      edited = w.edited;
      readable = still_read new (p.tree Refc).reading w.readable;
      apart = subst (AreCounts 0) (sym (with_read new (p.tree Refc).reading w.readable)) (counts_stay (records_in p Refc) e.block e.count m (new_count more (records_in p Refc) e.block) w.apart some is);
    }

    by : (t : Bool) → AreCounting left (if t then edit left Refc (λ recs. set_count e.block e.count (new_count more recs e.block) recs) p else p)
    by true = subst (AreCounting left) (sym (ap (λ t. cond t changed p) w.edited)) in_changed
    by false = w

done_group : (left : List Kind) (c : ℕ) (more : Bool) (e : Extent) (i : Intent) (rest : List Intent) (a : State) → (ref_done left c more e i rest a).group e.group ≡ change_count left more e (a.group e.group)
unfolding ref_done
done_group left c more e i rest a = group_is e.group (change_count left more e) a

pub ref_done_counts : RefDoneCounts
ref_done_counts a x left c g at n more w row =
    let i : Intent = row.0 in
    let e : Extent = record { group = g; block = at; count = n } in
    let sound : sick_in (a.group g) Refc ≡ false = not_sick (sick_in (a.group g) Refc) (is_among Refc left) w.edited in
    let reach : n ≡ stretch (records_in (a.group g) Refc) at i.count = row.4 ∙ ap (λ (t : Bool). if t then i.count else stretch (records_in (a.group g) Refc) at i.count) sound in
    subst (AreCounting left) (sym (ap (λ (z : State). z.group g) row.5 ∙ done_group left c more e i row.1 a))
    (counting_then left more e i.count (a.group g) w row.2.some reach)
