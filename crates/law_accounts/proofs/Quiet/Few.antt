-- A finished step of reference counts leaves as few records as can be.
use Rattle.std.specs.Prelude.{ℕ, Bool, true, false, List, ◌≡◌, ◌<◌, refl, if◌then◌else◌}
use Rattle.std.proofs.Common.{sym, ap, subst, ◌∙◌, cond}
use Rattle.std.proofs.lemmas.Bool.{true≢false}
use Rattle.fs_change.specs.Changes.{change_count, changes_count, new_count, ref_done}
use Rattle.fs_change.specs.Parts.{change_tree, edit, records_in, sick_in, with_recs}
use Rattle.fs_change.specs.Records.{set_count, stretch}
use Rattle.fs_model.specs.declared.entry.Extent.{Extent}
use Rattle.fs_state.specs.Group.{is_among}
use Rattle.fs_state.specs.State.{State, Group, Readable, Reading, Unreadable, is_readable, recs_of}
use Rattle.fs_state.specs.declared.intent.Intent.{Intent}
use Rattle.sblock.specs.declared.kind.Kind.{Kind}
use Rattle.sblock.specs.declared.kind.Kind.TheVariants.{Refc}
use Rattle.span_recs.specs.declared.refcount.RefcRec.{RefcRec}
use Rattle.law_accounts.proofs.Account.Runs.{own_group}
use Rattle.law_accounts.specs.Count.Counted.{AreShown}
use Rattle.law_accounts.specs.Ref.Steps.{AreCounting}
use Rattle.law_accounts.proofs.Count.Shown.{shown_stay}
use Rattle.law_accounts.specs.Quiet.Ordered.{CountsShown}

with_read : (new : List RefcRec) (r : Reading RefcRec) → is_readable r ≡ true → recs_of (with_recs new r) ≡ new
with_read new (Readable old blocks) h = refl
with_read new (Unreadable block fault claims) h = absurd (true≢false (sym h))

not_sick : (s o : Bool) → (if s then false else if o then false else true) ≡ true → s ≡ false
not_sick true o q = absurd (true≢false (sym q))
not_sick false o q = refl

module _ (left : List Kind) (more : Bool) (e : Extent) (m : ℕ) (p : Group) (w : AreCounting left p) (some : 0 < e.count) (is : e.count ≡ stretch (records_in p Refc) e.block m) (few : AreShown (records_in p Refc)) where
  abbrev new : List RefcRec
  new = set_count e.block e.count (new_count more (records_in p Refc) e.block) (records_in p Refc)

  abbrev changed : Group
  changed = change_tree Refc (λ j. record j { reading = with_recs new j.reading }) p

  by : (t : Bool) → AreShown (records_in (if t then edit left Refc (λ recs. set_count e.block e.count (new_count more recs e.block) recs) p else p) Refc)
  by true =
      subst AreShown (sym (ap (λ t. records_in (cond t changed p) Refc) w.edited ∙ with_read new (p.tree Refc).reading w.readable))
      (shown_stay (records_in p Refc) e.block e.count m (new_count more (records_in p Refc) e.block) w.apart few some is)
  by false = few

  shown_then : AreShown (records_in (change_count left more e p) Refc)
  shown_then = by (changes_count more (records_in p Refc) e.block)

done_group : (left : List Kind) (c : ℕ) (more : Bool) (e : Extent) (i : Intent) (rest : List Intent) (a : State) → (ref_done left c more e i rest a).group e.group ≡ change_count left more e (a.group e.group)
unfolding ref_done
done_group left c more e i rest a = own_group e.group (change_count left more e) a

pub counts_shown : CountsShown
counts_shown a x left c g at n more w row few =
    let i : Intent = row.0 in
    let e : Extent = record { group = g; block = at; count = n } in
    let sound : sick_in (a.group g) Refc ≡ false = not_sick (sick_in (a.group g) Refc) (is_among Refc left) w.edited in
    let reach : n ≡ stretch (records_in (a.group g) Refc) at i.count = row.4 ∙ ap (λ (t : Bool). if t then i.count else stretch (records_in (a.group g) Refc) at i.count) sound in
    subst (λ (p : Group). AreShown (records_in p Refc)) (sym (ap (λ (z : State). z.group g) row.5 ∙ done_group left c more e i row.1 a))
    (shown_then left more e i.count (a.group g) w row.2.some reach few)
