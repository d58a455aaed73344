-- Runs that leave free space or join it leave both its indexes in order.
use Rattle.std.specs.Prelude.{ℕ, Bool, true, false, not, List, [], ◌∷◌, ◌++◌, filter, ◌≡◌, ◌<◌, Some, option_to_list, refl, if◌then◌else◌}
use Rattle.std.specs.Option.{option_map_or}
use Rattle.std.proofs.Common.{sym, ap, subst, ◌∙◌, arith, cond}
use Rattle.std.proofs.lemmas.Bool.{true≢false}
use Rattle.derive_defs.specs.ByCount.{ordered_by_count}
use Rattle.fs_change.proofs.Trees.{Not, edited, given_owner, taken_owner, turned_tree}
use Rattle.fs_change.specs.Chains.{most_chains}
use Rattle.fs_change.specs.Changes.{by_count, chunk_extent, extent_of, free_chunk, freed, give_free, give_owner, inodes_follow, is_in_extent, known_spans, list_chunk, make_chunk, mapped, refilled, space_edit, take_free, take_owner, taken, trimmed, turn}
use Rattle.fs_change.specs.Parts.{change_tree, edit, is_sick, records_in, sick_in, with_recs}
use Rattle.fs_change.specs.Records.{beside_run, by_start, give_span, holder_of, joined_run, put_chunk, rest_of, span, take_span}
use Rattle.fs_change.specs.Step.{group_of_inode}
use Rattle.fs_state.specs.Lists.{numbers}
use Rattle.fs_model.specs.declared.entry.Extent.{Extent}
use Rattle.fs_model.specs.declared.entry.Piece.{Piece}
use Rattle.fs_state.specs.Group.{is_among}
use Rattle.fs_state.specs.Kinds.{RecOf}
use Rattle.fs_state.specs.State.{State, Group, Index, Readable, Reading, Unreadable, is_readable, recs_of}
use Rattle.fs_state.specs.declared.intent.Intent.{Intent}
use Rattle.fs_state.specs.declared.intent.IntentKind.TheVariants.{Free}
use Rattle.rmap_recs.specs.Owners.{number_of}
use Rattle.rmap_recs.specs.declared.owner.Owner.TheVariants.{Ag, Inodes}
use Rattle.sblock.specs.declared.kind.Kind.{Kind}
use Rattle.sblock.specs.declared.kind.Kind.TheVariants.{Bno, Cnt, Ino, Fino}
use Rattle.span_recs.specs.declared.span.SpanRec.{SpanRec}
use Rattle.law_accounts.specs.Account.Accounts.{at_span, frees, hits, ledger_of, owes, run_in, spans_at}
use Rattle.law_accounts.specs.Account.Guard.{AreSound}
use Rattle.law_accounts.specs.Account.Space.{AreApart}
use Rattle.law_accounts.proofs.Account.Blocks.{free_one}
use Rattle.law_accounts.proofs.Account.Runs.{own_group}
use Rattle.law_accounts.proofs.Account.Sums.{hits_own, left_chain}
use Rattle.law_accounts.proofs.Edit.Orders.{sorted_swap}
use Rattle.law_accounts.proofs.Edit.Spaces.{give_apart, take_apart}
use Rattle.law_accounts.specs.Quiet.Ordered.{ChunkOrdered, FreedOrdered, IsHeld, IsOrdered, IsUnlisted, MappedOrdered, RefilledOrdered, TrimmedOrdered}

-- ---- lists

sorted_take : (rs : List SpanRec) (run : SpanRec) → take_span by_count rs run (ordered_by_count rs) ≡ ordered_by_count (take_span by_start rs run rs)
unfolding take_span
sorted_take rs run = sorted_swap (option_to_list (holder_of rs run)) (option_map_or (rest_of run) (holder_of rs run) []) rs

sorted_give : (rs : List SpanRec) (run : SpanRec) → give_span by_count rs run (ordered_by_count rs) ≡ ordered_by_count (give_span by_start rs run rs)
unfolding give_span
sorted_give rs run = sorted_swap (beside_run rs run) (joined_run rs run ∷ []) rs

-- ---- an edit of both indexes

abbrev SpaceEdit : Type 0
SpaceEdit = (SpanRec → List SpanRec → List SpanRec) → List SpanRec → SpanRec → List SpanRec → List SpanRec

with_read : (new : List SpanRec) (r : Reading SpanRec) → is_readable r ≡ true → recs_of (with_recs new r) ≡ new
with_read new (Readable old blocks) h = refl
with_read new (Unreadable block fault claims) h = absurd (true≢false (sym h))

still_read : (new : List SpanRec) (r : Reading SpanRec) → is_readable r ≡ true → is_readable (with_recs new r) ≡ true
still_read new (Readable old blocks) h = refl
still_read new (Unreadable block fault claims) h = absurd (true≢false (sym h))

not_sick : (s o : Bool) → (if s then false else if o then false else true) ≡ true → s ≡ false
not_sick true o q = absurd (true≢false (sym q))
not_sick false o q = refl

module _ (f : SpaceEdit) (left : List Kind) (e : Extent) (p : Group) (w : IsOrdered left p) where
  abbrev recs : List SpanRec
  recs = records_in p Bno

  abbrev run : SpanRec
  run = span e.block e.count

  abbrev first : Group
  first = change_tree Bno (λ i. record i { reading = with_recs (f by_start recs run (recs_of i.reading)) i.reading }) p

  abbrev second : Group
  second = change_tree Cnt (λ i. record i { reading = with_recs (f by_count recs run (recs_of i.reading)) i.reading }) first

  known : known_spans p ≡ records_in p Bno
  known = ap (λ (t : Bool). if t then [] else records_in p Bno) (not_sick (sick_in p Bno) (is_among Bno left) w.listing.edited)

  space_is : space_edit f left e p ≡ second
  space_is =
      ap (λ (t : Bool). edit left Cnt (f by_count (known_spans p) run) (cond t first p)) w.listing.edited
      ∙ ap (λ (ks : List SpanRec). edit left Cnt (f by_count ks run) first) known
      ∙ ap (λ (t : Bool). cond t second first) w.edited

  module _ (apart : AreApart 0 (f by_start recs run recs)) (sorted : f by_count recs run (ordered_by_count recs) ≡ ordered_by_count (f by_start recs run recs)) where
    by_starts : records_in second Bno ≡ f by_start recs run recs
    by_starts = with_read (f by_start recs run recs) (p.tree Bno).reading w.listing.readable

    by_counts : records_in second Cnt ≡ f by_count recs run (records_in p Cnt)
    by_counts = with_read (f by_count recs run (records_in p Cnt)) (p.tree Cnt).reading w.readable

    second_ordered : IsOrdered left second
    second_ordered = record {
      listing = record { edited = w.listing.edited; readable = still_read (f by_start recs run recs) (p.tree Bno).reading w.listing.readable; apart = subst (AreApart 0) (sym by_starts) apart };
      edited = w.edited;
      readable = still_read (f by_count recs run (records_in p Cnt)) (p.tree Cnt).reading w.readable;
      ordered = by_counts ∙ ap (f by_count recs run) w.ordered ∙ sorted ∙ ap ordered_by_count (sym by_starts);
    }

    both_ordered : IsOrdered left (space_edit f left e p)
    both_ordered = subst (IsOrdered left) (sym space_is) second_ordered

-- groups whose free space is the same are in order alike
same_space : (left : List Kind) (p q : Group) → q.tree Bno ≡ p.tree Bno → q.tree Cnt ≡ p.tree Cnt → IsOrdered left p → IsOrdered left q
same_space left p q starts counts w = record {
  listing = record {
    edited = ap (λ (i : Index (RecOf Bno)). if is_sick i.trust then false else if is_among Bno left then false else true) starts ∙ w.listing.edited;
    readable = ap (λ (i : Index (RecOf Bno)). is_readable i.reading) starts ∙ w.listing.readable;
    apart = subst (λ (i : Index (RecOf Bno)). AreApart 0 (recs_of i.reading)) (sym starts) w.listing.apart;
  };
  edited = ap (λ (i : Index (RecOf Cnt)). if is_sick i.trust then false else if is_among Cnt left then false else true) counts ∙ w.edited;
  readable = ap (λ (i : Index (RecOf Cnt)). is_readable i.reading) counts ∙ w.readable;
  ordered = ap (λ (i : Index (RecOf Cnt)). recs_of i.reading) counts ∙ w.ordered ∙ ap (λ (i : Index (RecOf Bno)). ordered_by_count (recs_of i.reading)) (sym starts);
}

take_ordered : (left : List Kind) (e : Extent) (p : Group) → 0 < e.count → IsHeld p e → IsOrdered left p → IsOrdered left (take_free left e p)
take_ordered left e p pos held w =
    same_space left (space_edit take_span left e p) (take_free left e p) refl refl
    (both_ordered take_span left e p w (take_apart (records_in p Bno) (span e.block e.count) w.listing.apart pos held) (sorted_take (records_in p Bno) (span e.block e.count)))

give_ordered : (left : List Kind) (e : Extent) (p : Group) → 0 < e.count → IsUnlisted p e → IsOrdered left p → IsOrdered left (give_free left e p)
give_ordered left e p pos none w =
    same_space left (space_edit give_span left e p) (give_free left e p) refl refl
    (both_ordered give_span left e p w (give_apart (records_in p Bno) (span e.block e.count) w.listing.apart pos none) (sorted_give (records_in p Bno) (span e.block e.count)))

-- ---- entries

mapped_in : (a : State) (m : Piece) → 0 < m.count → IsHeld (a.group m.group) (extent_of m) → IsOrdered [] (a.group m.group) → IsOrdered [] ((mapped m a).group m.group)
unfolding mapped
mapped_in a m pos held w = subst (IsOrdered []) (sym (own_group m.group (take_free [] (extent_of m)) a)) (take_ordered [] (extent_of m) (a.group m.group) pos held w)

pub mapped_ordered : MappedOrdered
mapped_ordered a x left m held row w = subst (λ (y : State). IsOrdered [] (y.group m.group)) (sym row.1) (mapped_in a m row.0.some held w)

refilled_in : (a : State) (e : Extent) → 0 < e.count → IsHeld (a.group e.group) e → IsOrdered [] (a.group e.group) → IsOrdered [] ((refilled e a).group e.group)
unfolding refilled
refilled_in a e pos held w =
    let p : Group = a.group e.group in
    let filled : Group = record p { free_list = p.free_list ++ numbers e.block e.count } in
    let mid : Group = take_free [] e filled in
    subst (IsOrdered []) (sym (own_group e.group (λ q. give_owner [] (number_of Ag) e (take_free [] e (record q { free_list = q.free_list ++ numbers e.block e.count }))) a))
    (same_space [] mid (give_owner [] (number_of Ag) e mid) (given_owner [] (number_of Ag) e Bno mid refl) (given_owner [] (number_of Ag) e Cnt mid refl)
    (take_ordered [] e filled pos held (same_space [] p filled refl refl w)))

pub refilled_ordered : RefilledOrdered
refilled_ordered a x left e held row w = subst (λ (y : State). IsOrdered [] (y.group e.group)) (sym row.1) (refilled_in a e row.0.some held w)

listed_in : (c : ℕ) (j : Kind) (p : Group) → Not j Ino → Not j Fino → (list_chunk c p).tree j ≡ p.tree j
listed_in c j p ino fino = edited [] Fino j (put_chunk (free_chunk c)) (edit [] Ino (put_chunk (free_chunk c)) p) fino ∙ edited [] Ino j (put_chunk (free_chunk c)) p ino

chunk_in : (a : State) (g i ino uid c : ℕ) → IsHeld (a.group g) (chunk_extent g c) → IsOrdered [] (a.group g) → IsOrdered [] ((taken g i ino uid (Some c) a).group g)
unfolding taken
chunk_in a g i ino uid c held w =
    let p : Group = a.group g in
    let e : Extent = chunk_extent g c in
    let mid : Group = take_free [] e p in
    let owned : Group = give_owner [] (number_of Inodes) e mid in
    let q : Group = inodes_follow p (turn false i (list_chunk c owned)) in
    subst (IsOrdered [])
    (sym (own_group g (λ r. inodes_follow (a.group g) (turn false i r)) (make_chunk g (Some c) a)
    ∙ ap (λ (r : Group). inodes_follow (a.group g) (turn false i r)) (own_group g (λ r. list_chunk c (give_owner [] (number_of Inodes) e (take_free [] e r))) a)))
    (same_space [] mid q
    (turned_tree false i Bno (list_chunk c owned) refl refl ∙ listed_in c Bno owned refl refl ∙ given_owner [] (number_of Inodes) e Bno mid refl)
    (turned_tree false i Cnt (list_chunk c owned) refl refl ∙ listed_in c Cnt owned refl refl ∙ given_owner [] (number_of Inodes) e Cnt mid refl)
    (take_ordered [] e p (omega arith) held w))

pub chunk_ordered : ChunkOrdered
chunk_ordered a x left writer ino uid c held row w =
    subst (λ (y : State). IsOrdered [] (y.group (group_of_inode a ino))) (sym row.3) (chunk_in a (group_of_inode a ino) row.0 ino uid c held w)

trimmed_in : (a : State) (e : Extent) → 0 < e.count → IsUnlisted (a.group e.group) e → IsOrdered [] (a.group e.group) → IsOrdered [] ((trimmed e a).group e.group)
unfolding trimmed
trimmed_in a e pos none w =
    let p : Group = a.group e.group in
    let cut : Group = record p { free_list = filter (λ b. not (is_in_extent e b)) p.free_list } in
    let mid : Group = take_owner [] (number_of Ag) e cut in
    let starts : mid.tree Bno ≡ p.tree Bno = taken_owner [] (number_of Ag) e Bno cut refl in
    subst (IsOrdered []) (sym (own_group e.group (λ q. give_free [] e (take_owner [] (number_of Ag) e (record q { free_list = filter (λ n. not (is_in_extent e n)) q.free_list }))) a))
    (give_ordered [] e mid pos (λ b i. ap (λ (j : Index (RecOf Bno)). spans_at (recs_of j.reading) b) starts ∙ none b i)
    (same_space [] p mid starts (taken_owner [] (number_of Ag) e Cnt cut refl) w))

pub trimmed_ordered : TrimmedOrdered
trimmed_ordered a x left e none row w = subst (λ (y : State). IsOrdered [] (y.group e.group)) (sym row.1) (trimmed_in a e row.0.some none w)

freed_in : (a : State) (left : List Kind) (c : ℕ) (kept : Bool) (e : Extent) (rest : List Intent) → 0 < e.count → IsUnlisted (a.group e.group) e → IsOrdered left (a.group e.group) → IsOrdered left ((freed left c kept e rest a).group e.group)
unfolding freed
freed_in a left c true e rest pos none w = w
freed_in a left c false e rest pos none w = subst (IsOrdered left) (sym (own_group e.group (give_free left e) a)) (give_ordered left e (a.group e.group) pos none w)

-- what is to be free isn't yet
to_be_free : (a : State) (c g at n : ℕ) (i : Intent) (rest : List Intent) → c < most_chains → a.chains c ≡ i ∷ rest → i.kind ≡ Free → i.group ≡ g → i.block ≡ at → i.count ≡ n → AreSound a g at n → IsUnlisted (a.group g) (record { group = g; block = at; count = n })
to_be_free a c g at n i rest lt next kind own begins whole sound b inside =
    let s = sound b inside in
    let gone = left_chain (owes frees g b) a.chains c i rest lt next in
    let mine : owes frees g b i ≡ hits g b (run_in i) = ap (λ (t : Bool). if t then hits g b (run_in i) else 0) (ap frees kind) in
    let over : hits g b (run_in i) ≡ at_span i.block i.count b = ap (λ (k : ℕ). hits k b (run_in i)) (sym own) ∙ hits_own b (run_in i) in
    let same : at_span i.block i.count b ≡ at_span at n b = λ j. at_span (begins j) (whole j) b in
    let here : at_span at n b ≡ 1 = ap (λ (k : Bool). if k then 1 else 0) inside in
    (free_one (ledger_of a g b s.0 s.1) s.2 (omega (arith, gone, mine, over, same, here))).3

pub freed_ordered : FreedOrdered
freed_ordered a x left c g at n kept lt sound row w =
    let e : Extent = record { group = g; block = at; count = n } in
    let is = row.2 in
    subst (λ (y : State). IsOrdered left (y.group g)) (sym row.6)
    (freed_in a left c kept e row.1 is.some (to_be_free a c g at n row.0 row.1 lt is.next row.3 is.group is.block row.4 sound) w)
