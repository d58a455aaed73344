-- An entry leaves the trees that it neither edits nor judges.
use Rattle.std.proofs.Common.{◌≡◌, ℕ, ◌==◌, ◌&&◌, ◌||◌, Bool, true, false, not, cond, List, [], ◌∷◌, ◌++◌, filter, sym, ap, subst, refl, ◌∙◌, Option, Some, None, eq-eqb, drop}
use Rattle.std.proofs.lemmas.Bool.{true≢false}
use Rattle.std.specs.Prelude.{if◌then◌else◌}
use Rattle.fs_model.specs.declared.entry.Entry.{Entry}
use Rattle.fs_model.specs.declared.entry.Entry.TheVariants as entries
use Rattle.fs_model.specs.declared.entry.Extent.{Extent}
use Rattle.fs_model.specs.declared.entry.Piece.{Piece}
use Rattle.fs_model.specs.declared.entry.SharedPiece.{SharedPiece}
use Rattle.fs_model.specs.declared.unit.Trust.{Trust}
use Rattle.fs_model.specs.declared.unit.Trust.TheVariants as trusts
use Rattle.fs_model.specs.declared.unit.Unit.{Unit as ScrubUnit}
use Rattle.fs_model.specs.declared.unit.Unit.TheVariants as units
use Rattle.fs_model.specs.declared.verdict.Verdict.{Verdict}
use Rattle.fs_model.specs.declared.verdict.Verdict.TheVariants as verdicts
use Rattle.rmap_recs.specs.Owners.{number_of}
use Rattle.rmap_recs.specs.declared.owner.Owner.TheVariants.{Ag, Inodes}
use Rattle.sblock.specs.declared.kind.Kind.{Kind}
use Rattle.sblock.specs.declared.kind.Kind.TheVariants.{Bno, Cnt, Rmap, Refc, Ino, Fino}
use Rattle.fs_state.specs.Edits.{number_of as kind_number}
use Rattle.fs_state.specs.Group.{is_among}
use Rattle.fs_state.specs.Kinds.{RecOf}
use Rattle.fs_state.specs.State.{State, Group, Index, Readable, recs_of, blocks_of}
use Rattle.fs_state.specs.declared.intent.Intent.{Intent}
use Rattle.fs_state.specs.Derive.{derive}
use Rattle.fs_state.specs.Faults.{kind_of_fault}
use Rattle.fs_state.specs.Records.{kinds_of}
use Rattle.fs_state.specs.Lists.{numbers}
use Rattle.fs_change.specs.Changes.{mapped, unmapped, converted, shared, rmap_done, ref_done, freed, taken, given, refilled, trimmed, marked, judged, judge, reserved, released, reaped, changes_count, change_count, owner_of_run, joins_no_space, take_free, give_free, give_owner, take_owner, extent_of, data_of, do_mapping, new_count, inodes_follow, turn, list_chunk, chunk_extent, make_chunk, is_in_extent, own_new, leave, block_extent, leave_limbo, reap_in, by_count, known_spans, plain_run, free_chunk}
use Rattle.fs_change.specs.Laws.{KeepsOtherTrees, changed_kinds, with_owners}
use Rattle.fs_change.specs.Loose.{Inside, MovesBlocks, count_used, lost_in, owners_follow}
use Rattle.fs_change.specs.Met.{give_each, take_each}
use Rattle.fs_change.specs.Parts.{in_group, tree_only, change_tree, in_blocks, in_trees, with_recs, set_trust, set_trusts, edit, is_edited, sick_in, records_in}
use Rattle.fs_change.specs.Records.{is_unwritten_at, set_count, span, by_start, take_span, give_span, give_mapping, take_mapping, put_chunk, turn_inode, follow_inode}
use Rattle.fs_change.specs.Step.{Row, edits_count, edits_reserve, edits_reaped, edited_kinds, group_of_entry, group_of_inode}
use Rattle.span_recs.specs.declared.refcount.RefcRec.{RefcRec}
use Rattle.fs_change.specs.Switch.{switched, moved, move_blocks, derived_in, hold, exact_counters, unit_owner, owned_by, join_limbo}

-- ---- one tree

first_false : (a b : Bool) → (a || b) ≡ false → a ≡ false
first_false true b h = h
first_false false b h = refl

rest_false : (a b : Bool) → (a || b) ≡ false → b ≡ false
rest_false true b h = absurd (true≢false h)
rest_false false b h = h

-- k isn't j
abbrev pub Not : Kind → Kind → Type 0
Not j k = (kind_number k == kind_number j) ≡ false

pub is_first : (j k : Kind) (ks : List Kind) → is_among j (k ∷ ks) ≡ false → Not j k
is_first j k ks h = first_false (kind_number k == kind_number j) (is_among j ks) h

pub in_rest : (j k : Kind) (ks : List Kind) → is_among j (k ∷ ks) ≡ false → is_among j ks ≡ false
in_rest j k ks h = rest_false (kind_number k == kind_number j) (is_among j ks) h

only : (k j : Kind) (i : Index (RecOf k)) (f : (l : Kind) → Index (RecOf l)) → Not j k → tree_only k i f j ≡ f j
only Bno Bno i f h = absurd (true≢false h)
only Cnt Cnt i f h = absurd (true≢false h)
only Rmap Rmap i f h = absurd (true≢false h)
only Refc Refc i f h = absurd (true≢false h)
only Ino Ino i f h = absurd (true≢false h)
only Fino Fino i f h = absurd (true≢false h)
only k j i f h = refl

pub changed : (k j : Kind) (g : Index (RecOf k) → Index (RecOf k)) (p : Group) → Not j k → (change_tree k g p).tree j ≡ p.tree j
changed k j g p h = only k j (g (p.tree k)) p.tree h

by_cond : (j : Kind) (b : Bool) (p q r : Group) → p.tree j ≡ r.tree j → q.tree j ≡ r.tree j → (cond b p q).tree j ≡ r.tree j
by_cond j true p q r h i = h
by_cond j false p q r h i = i

pub edited : (left : List Kind) (k j : Kind) (f : List (RecOf k) → List (RecOf k)) (p : Group) → Not j k → (edit left k f p).tree j ≡ p.tree j
edited left k j f p h = by_cond j (is_edited left p k) (change_tree k (λ i. record i { reading = with_recs (f (recs_of i.reading)) i.reading }) p) p p (changed k j (λ i. record i { reading = with_recs (f (recs_of i.reading)) i.reading }) p h) refl

-- ---- several

in_place : (j : Kind) (blocks : Kind → List ℕ) (ks : List Kind) (p : Group) → is_among j ks ≡ false → (in_trees blocks ks p).tree j ≡ p.tree j
in_place j blocks [] p h = refl
in_place j blocks (k ∷ ks) p h = changed k j (λ i. record i { reading = in_blocks (blocks k) i.reading }) (in_trees blocks ks p) (is_first j k ks h) ∙ in_place j blocks ks p (in_rest j k ks h)

pub trusted : (j : Kind) (t : Trust) (ks : List Kind) (p : Group) → is_among j ks ≡ false → (set_trusts t ks p).tree j ≡ p.tree j
trusted j t [] p h = refl
trusted j t (k ∷ ks) p h = changed k j (λ i. record i { trust = t }) (set_trusts t ks p) (is_first j k ks h) ∙ trusted j t ks p (in_rest j k ks h)

held : (j : Kind) (recs : (k : Kind) → List (RecOf k)) (ks : List Kind) (p : Group) → is_among j ks ≡ false → (hold recs ks p).tree j ≡ p.tree j
held j recs [] p h = refl
held j recs (k ∷ ks) p h = changed k j (λ i. record { reading = Readable (recs k) (blocks_of i.reading); trust = trusts.Good }) (hold recs ks p) (is_first j k ks h) ∙ held j recs ks p (in_rest j k ks h)

-- ---- free space and owners

pub spaced : (left : List Kind) (j : Kind) (e : Extent) (p : Group) → Not j Bno → Not j Cnt → (take_free left e p).tree j ≡ p.tree j
spaced left j e p b c =
    edited left Cnt j (take_span by_count (known_spans p) (span e.block e.count)) (edit left Bno (take_span by_start (records_in p Bno) (span e.block e.count)) p) c
    ∙ edited left Bno j (take_span by_start (records_in p Bno) (span e.block e.count)) p b

pub given_space : (left : List Kind) (j : Kind) (e : Extent) (p : Group) → Not j Bno → Not j Cnt → (give_free left e p).tree j ≡ p.tree j
given_space left j e p b c =
    edited left Cnt j (give_span by_count (known_spans p) (span e.block e.count)) (edit left Bno (give_span by_start (records_in p Bno) (span e.block e.count)) p) c
    ∙ edited left Bno j (give_span by_start (records_in p Bno) (span e.block e.count)) p b

pub given_owner : (left : List Kind) (owner : ℕ) (e : Extent) (j : Kind) (p : Group) → Not j Rmap → (give_owner left owner e p).tree j ≡ p.tree j
given_owner left owner e j p h = edited left Rmap j (give_mapping (plain_run owner e)) p h

pub taken_owner : (left : List Kind) (owner : ℕ) (e : Extent) (j : Kind) (p : Group) → Not j Rmap → (take_owner left owner e p).tree j ≡ p.tree j
taken_owner left owner e j p h = edited left Rmap j (take_mapping (plain_run owner e)) p h

followed : (left : List Kind) (p q : Group) (j : Kind) → Not j Rmap → (owners_follow left p q).tree j ≡ q.tree j
followed left p q j h = edited left Rmap j (λ recs. give_each (lost_in q p) (take_each (lost_in p q) recs)) q h

-- the group itself
pub in_itself : (g : ℕ) (f : Group → Group) (a : State) → (in_group g f a).group g ≡ f (a.group g)
in_itself g f a = ap (λ b. cond b (f (a.group g)) (a.group g)) (eq-eqb g g refl)

own_here : (g : ℕ) (f : Group → Group) (a : State) (j : Kind) → (f (a.group g)).tree j ≡ (a.group g).tree j → ((in_group g f a).group g).tree j ≡ (a.group g).tree j
own_here g f a j keeps = ap (λ (p : Group). p.tree j) (in_itself g f a) ∙ keeps

own : (g : ℕ) (f : Group → Group) (a : State) (j : Kind) → ((p : Group) → (f p).tree j ≡ p.tree j) → ((in_group g f a).group g).tree j ≡ (a.group g).tree j
own g f a j keeps = own_here g f a j (keeps (a.group g))

-- ---- rows

-- of the kinds of free space and reverse mappings in this order none is j
no_space : (j k : Kind) (ks : List Kind) → is_among j (k ∷ Bno ∷ Cnt ∷ ks) ≡ false → (Not j Bno) × (Not j Cnt)
no_space j k ks h = let h1 = in_rest j k (Bno ∷ Cnt ∷ ks) h in (is_first j Bno (Cnt ∷ ks) h1, is_first j Cnt ks (in_rest j Bno (Cnt ∷ ks) h1))

abbrev pub Keeps : State → State → ℕ → Kind → Type 0
Keeps a x g j = (x.group g).tree j ≡ (a.group g).tree j

by_mapped : (m : Piece) (a : State) (j : Kind) → is_among j (Rmap ∷ Bno ∷ Cnt ∷ []) ≡ false → Keeps a (mapped m a) m.group j
unfolding mapped
by_mapped m a j h = let n = no_space j Rmap [] h in own m.group (take_free [] (extent_of m)) a j (λ p. spaced [] j (extent_of m) p n.0 n.1)

by_unmapped : (m : Piece) (a : State) (j : Kind) → Keeps a (unmapped m a) m.group j
unfolding unmapped
by_unmapped m a j = refl

by_shared_tree : (m : SharedPiece) (a : State) (j : Kind) → Keeps a (shared m a) m.group j
unfolding shared
by_shared_tree m a j = refl

kept_if : (b : Bool) (x y a : State) (g : ℕ) (j : Kind) → Keeps a x g j → Keeps a y g j → Keeps a (if b then x else y) g j
kept_if true x y a g j h i = h
kept_if false x y a g j h i = i

by_converted : (m : Piece) (a : State) (j : Kind) → Keeps a (converted m a) m.group j
unfolding converted
by_converted m a j = kept_if (is_unwritten_at m.offset (data_of a m.ino)) _ a a m.group j refl refl

by_rmap : (left : List Kind) (c g : ℕ) (i : Intent) (rest : List Intent) (a : State) (j : Kind) → i.group ≡ g → Not j Rmap → Keeps a (rmap_done left c i rest a) g j
unfolding rmap_done
by_rmap left c g i rest a j at h = subst (λ (k : ℕ). Keeps a (in_group i.group (edit left Rmap (do_mapping i.kind i)) a) k j) at (own i.group (edit left Rmap (do_mapping i.kind i)) a j (λ p. edited left Rmap j (do_mapping i.kind i) p h))

-- a change that is made or not, with the trees that it edits then
changed_if : (c sick : Bool) (ks : List Kind) (p q : Group) (j : Kind) → is_among j (with_owners (if c && not sick then ks else [])) ≡ false → (sick ≡ true → q.tree j ≡ p.tree j) → (is_among j (with_owners ks) ≡ false → q.tree j ≡ p.tree j) → (if c then q else p).tree j ≡ p.tree j
changed_if true true ks p q j h stays changes = stays refl
changed_if true false ks p q j h stays changes = changes h
changed_if false sick ks p q j h stays changes = refl

-- a sick tree isn't changed
sick_stays : (left : List Kind) (f : List RefcRec → List RefcRec) (p : Group) (j : Kind) → sick_in p Refc ≡ true → (edit left Refc f p).tree j ≡ p.tree j
sick_stays left f p j sick = ap (λ b. (cond (cond b false (cond (is_among Refc left) false true)) (change_tree Refc (λ i. record i { reading = with_recs (f (recs_of i.reading)) i.reading }) p) p).tree j) sick

by_ref : (left : List Kind) (c g b n : ℕ) (more : Bool) (i : Intent) (rest : List Intent) (a : State) (j : Kind) → is_among j (with_owners (edits_count (a.group g) b more)) ≡ false → Keeps a (ref_done left c more (record { group = g; block = b; count = n }) i rest a) g j
unfolding ref_done
by_ref left c g b n more i rest a j h =
    let f : List RefcRec → List RefcRec = λ recs. set_count b n (new_count more recs b) recs in
    own_here g (change_count left more (record { group = g; block = b; count = n })) a j
    (changed_if (changes_count more (records_in (a.group g) Refc) b) (sick_in (a.group g) Refc) (Refc ∷ Rmap ∷ []) (a.group g) (edit left Refc f (a.group g)) j h (sick_stays left f (a.group g) j) (λ k. edited left Refc j f (a.group g) (is_first j Refc (Rmap ∷ []) (in_rest j Rmap (Refc ∷ Rmap ∷ []) k))))

by_freed : (left : List Kind) (c g b n : ℕ) (rest : List Intent) (a : State) (j : Kind) → Not j Bno → Not j Cnt → Keeps a (freed left c false (record { group = g; block = b; count = n }) rest a) g j
unfolding freed
by_freed left c g b n rest a j hb hc = own g (give_free left (record { group = g; block = b; count = n })) a j (λ p. given_space left j (record { group = g; block = b; count = n }) p hb hc)

by_kept : (left : List Kind) (c g b n : ℕ) (rest : List Intent) (a : State) (j : Kind) → Keeps a (freed left c true (record { group = g; block = b; count = n }) rest a) g j
unfolding freed
by_kept left c g b n rest a j = refl

by_chunk : (g : ℕ) (chunk : Option ℕ) (a : State) (j : Kind) → Not j Bno → Not j Cnt → Not j Rmap → Not j Ino → Not j Fino → Keeps a (make_chunk g chunk a) g j
by_chunk g None a j hb hc hr hi hf = refl
by_chunk g (Some b) a j hb hc hr hi hf =
    own g (λ p. list_chunk b (give_owner [] (number_of Inodes) (chunk_extent g b) (take_free [] (chunk_extent g b) p))) a j (λ p.
    edited [] Fino j (put_chunk (free_chunk b)) (edit [] Ino (put_chunk (free_chunk b)) (give_owner [] (number_of Inodes) (chunk_extent g b) (take_free [] (chunk_extent g b) p))) hf
    ∙ edited [] Ino j (put_chunk (free_chunk b)) (give_owner [] (number_of Inodes) (chunk_extent g b) (take_free [] (chunk_extent g b) p)) hi
    ∙ given_owner [] (number_of Inodes) (chunk_extent g b) j (take_free [] (chunk_extent g b) p) hr
    ∙ spaced [] j (chunk_extent g b) p hb hc)

pub turned_tree : (to_free : Bool) (i : ℕ) (j : Kind) (p : Group) → Not j Ino → Not j Fino → (turn to_free i p).tree j ≡ p.tree j
turned_tree to_free i j p hi hf = edited [] Fino j (follow_inode i (turn_inode to_free i (records_in p Ino))) (edit [] Ino (turn_inode to_free i) p) hf ∙ edited [] Ino j (turn_inode to_free i) p hi

by_taken_free : (g i ino uid : ℕ) (a : State) (j : Kind) → Not j Ino → Not j Fino → Keeps a (taken g i ino uid None a) g j
unfolding taken
by_taken_free g i ino uid a j hi hf = own g (λ q. inodes_follow (a.group g) (turn false i q)) a j (λ p. turned_tree false i j p hi hf)

by_taken : (g i ino uid : ℕ) (chunk : Option ℕ) (a : State) (j : Kind) → Not j Bno → Not j Cnt → Not j Rmap → Not j Ino → Not j Fino → Keeps a (taken g i ino uid chunk a) g j
unfolding taken
by_taken g i ino uid chunk a j hb hc hr hi hf =
    own g (λ q. inodes_follow (a.group g) (turn false i q)) (make_chunk g chunk a) j (λ p. turned_tree false i j p hi hf) ∙ by_chunk g chunk a j hb hc hr hi hf

by_given : (g i ino : ℕ) (a : State) (j : Kind) → Not j Ino → Not j Fino → Keeps a (given g i ino a) g j
unfolding given
by_given g i ino a j hi hf = own g (λ p. inodes_follow p (turn true i p)) a j (λ p. turned_tree true i j p hi hf)

by_refilled : (e : Extent) (a : State) (j : Kind) → Not j Bno → Not j Cnt → Not j Rmap → Keeps a (refilled e a) e.group j
unfolding refilled
by_refilled e a j hb hc hr =
    own e.group (λ p. give_owner [] (number_of Ag) e (take_free [] e (record p { free_list = p.free_list ++ numbers e.block e.count }))) a j (λ p.
    given_owner [] (number_of Ag) e j (take_free [] e (record p { free_list = p.free_list ++ numbers e.block e.count })) hr ∙ spaced [] j e (record p { free_list = p.free_list ++ numbers e.block e.count }) hb hc)

by_trimmed : (e : Extent) (a : State) (j : Kind) → Not j Bno → Not j Cnt → Not j Rmap → Keeps a (trimmed e a) e.group j
unfolding trimmed
by_trimmed e a j hb hc hr =
    own e.group (λ p. give_free [] e (take_owner [] (number_of Ag) e (record p { free_list = filter (λ b. not (is_in_extent e b)) p.free_list }))) a j (λ p.
    given_space [] j e (take_owner [] (number_of Ag) e (record p { free_list = filter (λ b. not (is_in_extent e b)) p.free_list })) hb hc ∙ taken_owner [] (number_of Ag) e j (record p { free_list = filter (λ b. not (is_in_extent e b)) p.free_list }) hr)

by_marked : (g : ℕ) (k : Kind) (a : State) (j : Kind) → Not j k → Keeps a (marked g k a) g j
unfolding marked
by_marked g k a j h = own g (set_trust trusts.Sick k) a j (λ p. changed k j (λ i. record i { trust = trusts.Sick }) p h)

judged_tree : (verdict : Verdict) (unit : ScrubUnit) (j : Kind) (p : Group) → is_among j (kinds_of unit) ≡ false → (judge verdict unit p).tree j ≡ p.tree j
judged_tree verdicts.Good unit j p h = trusted j trusts.Good (kinds_of unit) p h
judged_tree v unit j p h = refl

by_judged : (g : ℕ) (unit : ScrubUnit) (verdict : Verdict) (a : State) (j : Kind) → is_among j (kinds_of unit) ≡ false → Keeps a (judged g unit verdict a) g j
unfolding judged
by_judged g unit verdict a j h = own g (judge verdict unit) a j (λ p. judged_tree verdict unit j p h)

-- Rmap ∷ Bno ∷ Cnt ∷ Rmap ∷ .. : what none of these is
no_three : (j : Kind) (ks : List Kind) → is_among j (Rmap ∷ Bno ∷ Cnt ∷ ks) ≡ false → (Not j Bno) × (Not j Cnt) × (Not j Rmap)
no_three j ks h = let n = no_space j Rmap ks h in (n.0, n.1, is_first j Rmap (Bno ∷ Cnt ∷ ks) h)

pub turned_owner : (left : List Kind) (owner : ℕ) (e : Extent) (j : Kind) (p : Group) → Not j Rmap → (give_owner left owner e (take_owner left (number_of Ag) e (record p { free_list = drop 1 p.free_list }))).tree j ≡ p.tree j
turned_owner left owner e j p h =
    given_owner left owner e j (take_owner left (number_of Ag) e (record p { free_list = drop 1 p.free_list })) h ∙ taken_owner left (number_of Ag) e j (record p { free_list = drop 1 p.free_list }) h

spared_tree : (left : List Kind) (owner : ℕ) (e : Extent) (j : Kind) (p : Group) → is_among j (Rmap ∷ Bno ∷ Cnt ∷ Rmap ∷ []) ≡ false → (give_owner left owner e (take_free left e p)).tree j ≡ p.tree j
spared_tree left owner e j p h = let n = no_three j (Rmap ∷ []) h in given_owner left owner e j (take_free left e p) n.2 ∙ spaced left j e p n.0 n.1

-- a block leaves list or free space, and gets its owner
own_tree : (left : List Kind) (unit : ScrubUnit) (e : Extent) (spare : Bool) (j : Kind) (p : Group) → is_among j (with_owners (edits_reserve unit spare)) ≡ false → (own_new left unit e spare (leave left unit e spare p)).tree j ≡ p.tree j
own_tree left units.Inode e false j p h = turned_owner left (unit_owner units.Inode) e j p (is_first j Rmap (Rmap ∷ []) h)
own_tree left units.Refc e false j p h = turned_owner left (unit_owner units.Refc) e j p (is_first j Rmap (Rmap ∷ []) h)
own_tree left units.Rmap e false j p h = refl
own_tree left units.Free e false j p h = refl
own_tree left units.Free e true j p h = given_owner left (unit_owner units.Free) e j p (is_first j Rmap (Rmap ∷ []) h)
own_tree left units.Rmap e true j p h = let n = no_space j Rmap [] h in spaced left j e p n.0 n.1
own_tree left units.Inode e true j p h = spared_tree left (unit_owner units.Inode) e j p h
own_tree left units.Refc e true j p h = spared_tree left (unit_owner units.Refc) e j p h

by_reserved : (left : List Kind) (g b : ℕ) (unit : ScrubUnit) (spare : Bool) (a : State) (j : Kind) → is_among j (with_owners (edits_reserve unit spare)) ≡ false → Keeps a (reserved left g unit b spare a) g j
unfolding reserved
by_reserved left g b unit spare a j h =
    own g (λ p. own_new left unit (block_extent g b) spare (leave left unit (block_extent g b) spare (record p { reserve = p.reserve ++ owned_by (unit_owner unit) b ∷ [] }))) a j (λ p.
    own_tree left unit (block_extent g b) spare j (record p { reserve = p.reserve ++ owned_by (unit_owner unit) b ∷ [] }) h)

by_released : (g : ℕ) (a : State) (j : Kind) → Keeps a (released g a) g j
unfolding released
by_released g a j = own g (λ p. record p { reserve = []; limbo = join_limbo p.reserve p.limbo }) a j (λ p. refl)

pub by_switched : (g : ℕ) (unit : ScrubUnit) (blocks : Kind → List ℕ) (a : State) (j : Kind) → is_among j (kinds_of unit) ≡ false → Keeps a (switched a g unit blocks) g j
unfolding switched moved
by_switched g unit blocks a j h =
    let m : State = moved a g unit blocks in
    let d : State = derived_in m g unit in
    own g (λ p. record p { counters = exact_counters d g unit }) d j (λ p. refl)
    ∙ own g (hold (derive m g) (kinds_of unit)) m j (λ p. held j (derive m g) (kinds_of unit) p h)
    ∙ own g (move_blocks a g unit blocks) a j (λ p. in_place j blocks (kinds_of unit) p h)

-- a reaped run that joins free space, or doesn't
reaped_if : (c : Bool) (left : List Kind) (owner : ℕ) (e : Extent) (p : Group) (j : Kind) → is_among j (with_owners (if c then Rmap ∷ [] else Bno ∷ Cnt ∷ Rmap ∷ [])) ≡ false
    → (if c then take_owner left owner e (leave_limbo owner e p) else give_free left e (take_owner left owner e (leave_limbo owner e p))).tree j ≡ p.tree j
reaped_if true left owner e p j h = taken_owner left owner e j (leave_limbo owner e p) (is_first j Rmap (Rmap ∷ []) h)
reaped_if false left owner e p j h =
    let n = no_three j (Rmap ∷ []) h in given_space left j e (take_owner left owner e (leave_limbo owner e p)) n.0 n.1 ∙ taken_owner left owner e j (leave_limbo owner e p) n.2

by_reaped : (left : List Kind) (e : Extent) (a : State) (j : Kind) → is_among j (with_owners (edits_reaped (a.group e.group) e)) ≡ false → Keeps a (reaped left (owner_of_run (a.group e.group) e) e a) e.group j
unfolding reaped
by_reaped left e a j h =
    let owner : ℕ = owner_of_run (a.group e.group) e in
    own_here e.group (reap_in left owner e) a j (reaped_if (joins_no_space owner e (a.group e.group)) left owner e (a.group e.group) j h)

as_is : (a x y : State) (g : ℕ) (j : Kind) → x ≡ y → Keeps a y g j → Keeps a x g j
as_is a x y g j same k = subst (λ (s : State). Keeps a s g j) (sym same) k

pub decided : (a x : State) (left : List Kind) (e : Entry) → Row a left e x → (j : Kind) → is_among j (changed_kinds a e) ≡ false → Keeps a x (group_of_entry a e) j
decided a x left (entries.Mapped m) r j h = as_is a x _ _ j r.1 (by_mapped m a j h)
decided a x left (entries.Unmapped m) r j h = as_is a x _ _ j r.1 (by_unmapped m a j)
decided a x left (entries.Converted m) r j h = as_is a x _ _ j r.1 (by_converted m a j)
decided a x left (entries.Shared m) r j h = as_is a x (shared m a) m.group j r.1 (by_shared_tree m a j)
decided a x left (entries.RmapDone c ino g b n) r j h = as_is a x _ _ j r.6 (by_rmap left c g r.0 r.1 a j r.2.group (is_first j Rmap (Rmap ∷ []) h))
decided a x left (entries.RefDone c g b n more) r j h = as_is a x _ _ j r.5 (by_ref left c g b n more r.0 r.1 a j h)
decided a x left (entries.Freed c g b n true) r j h = as_is a x _ _ j r.6 (by_kept left c g b n r.1 a j)
decided a x left (entries.Freed c g b n false) r j h = let s = no_space j Rmap [] h in as_is a x _ _ j r.6 (by_freed left c g b n r.1 a j s.0 s.1)
decided a x left (entries.Taken writer ino uid None) r j h =
    let k = in_rest j Rmap (Ino ∷ Fino ∷ []) (in_rest j Rmap (Rmap ∷ Ino ∷ Fino ∷ []) h) in
    as_is a x _ _ j r.3 (by_taken_free (group_of_inode a ino) r.0 ino uid a j (is_first j Ino (Fino ∷ []) k) (is_first j Fino [] (in_rest j Ino (Fino ∷ []) k)))
decided a x left (entries.Taken writer ino uid (Some b)) r j h =
    let s = no_three j (Rmap ∷ Ino ∷ Fino ∷ []) h in
    let k = in_rest j Rmap (Ino ∷ Fino ∷ []) (in_rest j Cnt (Rmap ∷ Ino ∷ Fino ∷ []) (in_rest j Bno (Cnt ∷ Rmap ∷ Ino ∷ Fino ∷ []) (in_rest j Rmap (Bno ∷ Cnt ∷ Rmap ∷ Ino ∷ Fino ∷ []) h))) in
    as_is a x _ _ j r.3 (by_taken (group_of_inode a ino) r.0 ino uid (Some b) a j s.0 s.1 s.2 (is_first j Ino (Fino ∷ []) k) (is_first j Fino [] (in_rest j Ino (Fino ∷ []) k)))
decided a x left (entries.Given writer ino) r j h =
    let k = in_rest j Rmap (Ino ∷ Fino ∷ []) (in_rest j Rmap (Rmap ∷ Ino ∷ Fino ∷ []) h) in
    as_is a x _ _ j r.4 (by_given (group_of_inode a ino) r.0 ino a j (is_first j Ino (Fino ∷ []) k) (is_first j Fino [] (in_rest j Ino (Fino ∷ []) k)))
decided a x left (entries.Refilled e) r j h = let s = no_three j (Rmap ∷ []) h in as_is a x _ _ j r.1 (by_refilled e a j s.0 s.1 s.2)
decided a x left (entries.Trimmed e) r j h = let s = no_three j (Rmap ∷ []) h in as_is a x _ _ j r.1 (by_trimmed e a j s.0 s.1 s.2)
decided a x left (entries.Marked g k cause) r j h = as_is a x _ _ j r.2 (by_marked g k a j (is_first j k [] h))
decided a x left (entries.Reserved g unit b spare) r j h = as_is a x _ _ j r.1 (by_reserved left g b unit spare a j h)
decided a x left (entries.Released g unit) r j h = as_is a x _ _ j r.1 (by_released g a j)
decided a x left (entries.Fault g unit fault) r j h = as_is a x _ _ j r.2 (by_marked g (kind_of_fault fault) a j (is_first j (kind_of_fault fault) [] h))
decided a x left (entries.Verdict g unit verdict) r j h = as_is a x _ _ j r.1 (by_judged g unit verdict a j h)
decided a x left (entries.Switched g unit root second) r j h = as_is a x _ _ j r.4 (by_switched g unit r.0 a j h)
decided a x left (entries.Reaped e) r j h = as_is a x _ _ j r.1 (by_reaped left e a j h)
decided a x left (entries.Reply writer line code done refused begun) r j h = as_is a x _ _ j r refl

-- ---- what is left open

filtered : (j : Kind) (test : Kind → Bool) (ks : List Kind) → is_among j ks ≡ false → is_among j (filter test ks) ≡ false
filtered j test [] h = refl
filtered j test (k ∷ ks) h = elim (test k) as (λ b. is_among j (cond b (k ∷ filter test ks) (filter test ks)) ≡ false) [
  | true ↦ ap (λ b. b || is_among j (filter test ks)) (is_first j k ks h) ∙ filtered j test ks (in_rest j k ks h)
  | false ↦ filtered j test ks (in_rest j k ks h)
]

moved_tree : (kept : Bool) (left ks : List Kind) (p q : Group) (j : Kind) → MovesBlocks kept left ks p q → is_among j ks ≡ false → Not j Rmap → q.tree j ≡ p.tree j
moved_tree kept left ks p q j m h r =
    ap (λ (s : Group). s.tree j) m.is
    ∙ followed left p (record (in_trees m.blocks ks p) { free_list = drop (count_used p.free_list q.free_list) p.free_list ++ m.freed; limbo = m.limbo }) j r
    ∙ in_place j m.blocks ks p h

inside_tree : (kept : Bool) (left ks : List Kind) (p q : Group) (j : Kind) → Inside kept left ks p q → is_among j ks ≡ false → Not j Rmap → q.tree j ≡ p.tree j
inside_tree kept left [] p q j i h r = ap (λ (s : Group). s.tree j) i
inside_tree kept left (k ∷ ks) p q j i h r = moved_tree kept left (k ∷ ks) p q j i h r

-- an entry that edits trees says so of reverse mappings too
open_tree : (kept : Bool) (left : List Kind) (test : Kind → Bool) (ks : List Kind) (p q : Group) (j : Kind) → Inside kept left (filter test ks) p q → is_among j (with_owners ks) ≡ false → q.tree j ≡ p.tree j
open_tree kept left test [] p q j i h = ap (λ (s : Group). s.tree j) i
open_tree kept left test (k ∷ ks) p q j i h = inside_tree kept left (filter test (k ∷ ks)) p q j i (filtered j test (k ∷ ks) (in_rest j Rmap (k ∷ ks) h)) (is_first j Rmap (k ∷ ks) h)

edits_only : (a : State) (e : Entry) (j : Kind) → is_among j (changed_kinds a e) ≡ false → is_among j (with_owners (edited_kinds a e)) ≡ false
edits_only a (entries.Marked g k cause) j h = refl
edits_only a (entries.Fault g unit fault) j h = refl
edits_only a (entries.Verdict g unit verdict) j h = refl
edits_only a (entries.Switched g unit root second) j h = refl
edits_only a (entries.Freed c g b n true) j h = refl
edits_only a (entries.Freed c g b n false) j h = h
edits_only a (entries.Taken writer ino uid None) j h = h
edits_only a (entries.Taken writer ino uid (Some b)) j h = h
edits_only a e j h = h

pub keeps_other_trees : KeepsOtherTrees
keeps_other_trees a b left e s j h =
    let g : ℕ = group_of_entry a e in
    open_tree a.geometry.inobtcount left (is_edited left (a.group g)) (edited_kinds a e) (s.decided.group g) (b.group g) j s.loosely.inside (edits_only a e j h)
    ∙ decided a s.decided left e s.row j h
