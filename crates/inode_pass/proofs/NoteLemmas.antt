-- What cores show of their forks, as it is put down one after the other.
use Rattle.std.proofs.Common.{◌≡◌, ℕ, suc, ◌+◌, ◌*◌, ◌<◌, ◌≤◌, Bool, true, false, ◌&&◌, not, List, [], ◌∷◌, ◌++◌, length, take, drop, get_or, map, refl, ap, sym, subst, ◌∙◌, arith, append_assoc, Option, Some, None}
use Rattle.std.specs.Prelude.{flat_map, ◌==◌, if◌then◌else◌}
use Rattle.std.specs.Option.{is_some}
use Rattle.std.proofs.Math.Seq.{drop-cons, take-append_seam}
use Rattle.std.proofs.lemmas.List.{append-nil}
use Rattle.std.proofs.lemmas.List.Concat.{flat_map-append}
use Rattle.std.proofs.lemmas.List.Elements.{All-append, All-cons, All-nil, All-same, All-take}
use Rattle.byte_fields.proofs.TestLemmas.{all_pass}
use Rattle.dinode_core.specs.ForkTree.{is_tree}
use Rattle.dinode_core.specs.Inline.{first_bad, form_fault, inline_fault, inline_mappings, mapping_fault, mapping_tests, or_else}
use Rattle.dinode_core.specs.declared.inode.Core3.{Core3}
use Rattle.dinode_core.specs.declared.inode.CoreFault.{CoreFault}
use Rattle.dinode_core.specs.declared.mapping.Fork.{Fork}
use Rattle.dinode_core.specs.declared.mapping.Fork.TheVariants.{Data, Attr}
use Rattle.dinode_core.specs.declared.mapping.ForkFault.{ForkFault}
use Rattle.dinode_core.specs.declared.mapping.Mapping.{Mapping}
use Rattle.dinode_core.specs.Core.{core_fault, core_of}
use Rattle.fs_state.specs.Lists.{numbers}
use Rattle.fs_state.specs.Inodes.{slot_in}
use Rattle.fs_state.specs.Kinds.{Image}
use Rattle.geom.specs.Layout.{Layout, device_block_of, group_len_of, inode_at}
use Rattle.geom.specs.declared.geometry.InodePlace.{InodePlace}
use Rattle.run_sets.specs.declared.run.Run.{Run}
use Rattle.index_derive.specs.Inodes.{mask_in}
use Rattle.inode_pass.specs.Notes.{AreFit, IsFit, block_notes, blocks_notes, both_notes, core_notes, fork_notes, joined_notes, notes_at, notes_by, notes_if, notes_or_block, shows, slot_notes, unit_notes}
use Rattle.inode_pass.specs.Noting.{AreNoted, IsForkNoted, IsNoted, kept_notes}
use Rattle.inode_pass.specs.Units.{opened_state, units_in}
use Rattle.inode_pass.specs.declared.note.ForkNote.{ForkNote}
use Rattle.inode_pass.specs.declared.note.ForkNote.TheVariants.{Mapping as MappingNote, Block as BlockNote}
use Rattle.inode_pass.proofs.CoreLemmas.{map_more, spread_first}
use Rattle.inode_pass.proofs.UnitLemmas.{drop_all}

-- ---- a fork, and both

pub tree_unshown : (at : Layout) (core : Core3) (f : Fork) → is_tree core f ≡ true → shows at core f ≡ false
unfolding shows
tree_unshown at core f tree = rw tree refl

pub fault_unshown : (at : Layout) (core : Core3) (f : Fork) (fault : ForkFault) → inline_fault at core f ≡ Some fault → shows at core f ≡ false
unfolding shows
fault_unshown at core f fault bad = rw bad (no_more (not (is_tree core f))) where
  no_more : (b : Bool) → (b && false) ≡ false
  no_more true = refl
  no_more false = refl

pub whole_shown : (at : Layout) (core : Core3) (f : Fork) → is_tree core f ≡ false → inline_fault at core f ≡ None → shows at core f ≡ true
unfolding shows
whole_shown at core f whole good = rw (whole, good) refl

one_unshown : (at : Layout) (core : Core3) (f : Fork) → shows at core f ≡ false → core_notes at core ≡ None
unfolding core_notes
one_unshown at core Data hidden = rw hidden refl
one_unshown at core Attr hidden = rw hidden (never (shows at core Data) (fork_notes core Data ++ fork_notes core Attr)) where
  never : (b : Bool) (notes : List ForkNote) → (if b && false then Some notes else None) ≡ None
  never true notes = refl
  never false notes = refl

-- the data fork isn't shown
pub data_unshown : (at : Layout) (core : Core3) (old now : List ForkNote) → IsForkNoted at core Data old now false → IsNoted old now (core_notes at core) false
data_unshown at core old now so = subst (λ (o : Option (List ForkNote)). IsNoted old now o false) (sym (one_unshown at core Data so.0)) (refl, so.1)

-- the attribute fork isn't shown, and what the data fork shows is taken back
pub attr_unshown : (at : Layout) (core : Core3) (before : ℕ) (old now behind new : List ForkNote) → before ≡ length old → IsForkNoted at core Data old now true → IsForkNoted at core Attr now behind false → new ≡ take before behind → IsNoted old new (core_notes at core) false
attr_unshown at core before old now behind new long file so cut =
    subst (λ (o : Option (List ForkNote)). IsNoted old new o false) (sym (one_unshown at core Attr so.0)) (
      refl,
      cut ∙ ap (λ (n : ℕ). take n behind) long ∙ ap (take (length old)) (so.1 ∙ file.1) ∙ take-append_seam old (fork_notes core Data),
    )

both_is : (at : Layout) (core : Core3) → shows at core Data ≡ true → shows at core Attr ≡ true → core_notes at core ≡ Some (fork_notes core Data ++ fork_notes core Attr)
unfolding core_notes
both_is at core file attributes = rw (file, attributes) refl

-- the notes of the one fork were put behind the old ones, and those of the other behind them
pub both_shown : (at : Layout) (core : Core3) (old now new : List ForkNote) → IsForkNoted at core Data old now true → IsForkNoted at core Attr now new true → IsNoted old new (core_notes at core) true
both_shown at core old now new file attributes =
    subst (λ (o : Option (List ForkNote)). IsNoted old new o true) (sym (both_is at core file.0 attributes.0)) (
      refl,
      attributes.1 ∙ ap (λ (xs : List ForkNote). xs ++ fork_notes core Attr) file.1 ∙ append_assoc old (fork_notes core Data) (fork_notes core Attr),
    )

-- a fork is shown, and its mappings were put
pub fork_put : (at : Layout) (core : Core3) (f : Fork) (mappings : List Mapping) (old now : List ForkNote) → (shows at core f ≡ true) × (mappings ≡ inline_mappings core f) → now ≡ old ++ map (λ m. MappingNote core.ino f m) mappings → IsForkNoted at core f old now true
fork_put at core f mappings old now shown put = (shown.0, put ∙ ap (λ (ms : List Mapping). old ++ map (λ m. MappingNote core.ino f m) ms) shown.1)

-- ---- the inodes of a block

-- a core that doesn't verify shows nothing
pub slot_bad : (at : Layout) (bytes own : List ℕ) (p : InodePlace) (ino : ℕ) (fault : CoreFault) → own ≡ slot_in bytes p.slot → ino ≡ inode_at at p.group p.block p.slot → Some fault ≡ core_fault own ino at.uuid → notes_at at bytes p ≡ None
unfolding notes_at slot_notes
slot_bad at bytes own p ino fault same number said = rw (sym same, sym number, sym said) refl

-- one that verifies shows what its fields say
pub slot_good : (at : Layout) (bytes own : List ℕ) (p : InodePlace) (ino : ℕ) → own ≡ slot_in bytes p.slot → ino ≡ inode_at at p.group p.block p.slot → None ≡ core_fault own ino at.uuid → notes_at at bytes p ≡ notes_by at None (core_of own)
unfolding notes_at slot_notes
slot_good at bytes own p ino same number said = rw (sym same, sym number, sym said) refl

both_assoc : (x y z : Option (List ForkNote)) → both_notes x (both_notes y z) ≡ both_notes (both_notes x y) z
both_assoc (Some a) (Some b) (Some c) = ap Some (sym (append_assoc a b c))
both_assoc (Some a) (Some b) None = refl
both_assoc (Some a) None z = refl
both_assoc None y z = refl

joined_more : (os : List (Option (List ForkNote))) (o : Option (List ForkNote)) → joined_notes (os ++ o ∷ []) ≡ both_notes (joined_notes os) o
joined_more [] (Some notes) = ap Some (append-nil notes)
joined_more [] None = refl
joined_more (x ∷ xs) o = ap (both_notes x) (joined_more xs o) ∙ both_assoc x (joined_notes xs) o

noted_on : (o p : Option (List ForkNote)) (old now new : List ForkNote) (shown more : Bool) → AreNoted old now o shown → (shown ≡ false → (more ≡ false) × (new ≡ now)) → (shown ≡ true → IsNoted now new p more) → AreNoted old new (both_notes o p) more
noted_on (Some notes) (Some ns) old now new shown more so left on =
    let here = on so.0 in
    (here.0, here.1 ∙ ap (λ (xs : List ForkNote). xs ++ ns) so.1 ∙ append_assoc old notes ns)
noted_on (Some notes) None old now new shown more so left on =
    let here = on so.0 in
    (here.0, ap (take (length old)) (here.1 ∙ so.1) ∙ take-append_seam old notes)
noted_on None p old now new shown more so left on =
    let here = left so.0 in
    (here.0, ap (take (length old)) here.1 ∙ so.1)

-- one slot more
pub slots_more : (f : ℕ → Option (List ForkNote)) (n : ℕ) (old now new : List ForkNote) (shown more : Bool) → AreNoted old now (joined_notes (map f (numbers 0 n))) shown → (shown ≡ false → (more ≡ false) × (new ≡ now)) → (shown ≡ true → IsNoted now new (f n) more) → AreNoted old new (joined_notes (map f (numbers 0 (n + 1)))) more
slots_more f n old now new shown more so left on =
    let first : 0 + n ≡ n = omega arith in
    let next : suc n ≡ n + 1 = omega arith in
    let all : both_notes (joined_notes (map f (numbers 0 n))) (f n) ≡ joined_notes (map f (numbers 0 (n + 1))) =
    sym (joined_more (map f (numbers 0 n)) (f n)) ∙ ap (λ (k : ℕ). joined_notes (map f (numbers 0 n) ++ f k ∷ [])) (sym first)
    ∙ ap joined_notes (sym (map_more f 0 n)) ∙ ap (λ (k : ℕ). joined_notes (map f (numbers 0 k))) next in
    subst (λ (o : Option (List ForkNote)). AreNoted old new o more) all (noted_on (joined_notes (map f (numbers 0 n))) (f n) old now new shown more so left on)

settled : (b before : ℕ) (o : Option (List ForkNote)) (old now new : List ForkNote) (shown : Bool) → before ≡ length old → AreNoted old now o shown → (shown ≡ true → new ≡ now) → (shown ≡ false → new ≡ take before now ++ BlockNote b ∷ []) → new ≡ old ++ notes_or_block b o
settled b before (Some notes) old now new shown long so stay put = stay so.0 ∙ so.1
settled b before None old now new shown long so stay put = put so.0 ∙ ap (λ (n : ℕ). take n now ++ BlockNote b ∷ []) long ∙ ap (λ (xs : List ForkNote). xs ++ BlockNote b ∷ []) so.1

-- the notes of the eight slots stand, or the block in their place
pub block_put : (at : Layout) (bytes : List ℕ) (g b n before : ℕ) (old now new : List ForkNote) (shown : Bool) → n ≡ 8 → before ≡ length old → AreNoted old now (joined_notes (map (λ s. slot_notes at (inode_at at g b s) (slot_in bytes s)) (numbers 0 n))) shown → (shown ≡ true → new ≡ now) → (shown ≡ false → new ≡ take before now ++ BlockNote b ∷ []) → new ≡ old ++ block_notes at bytes g b
unfolding block_notes
block_put at bytes g b n before old now new shown all long so stay put =
    settled b before (joined_notes (map (λ s. slot_notes at (inode_at at g b s) (slot_in bytes s)) (numbers 0 n))) old now new shown long so stay put
    ∙ ap (λ (k : ℕ). old ++ notes_or_block b (joined_notes (map (λ s. slot_notes at (inode_at at g b s) (slot_in bytes s)) (numbers 0 k)))) all

-- ---- the blocks of a unit, and units one after the other

pub blocks_more : (at : Layout) (image : Image) (g b j : ℕ) (old now new : List ForkNote) → now ≡ old ++ blocks_notes at image g b j → new ≡ now ++ block_notes at (image (device_block_of at g (b + j))) g (b + j) → new ≡ old ++ blocks_notes at image g b (j + 1)
unfolding blocks_notes
blocks_more at image g b j old now new so made = spread_first old now new (λ i. block_notes at (image (device_block_of at g (b + i))) g (b + i)) j so made

pub no_blocks : (at : Layout) (image : Image) (g b : ℕ) (old : List ForkNote) → old ≡ old ++ blocks_notes at image g b 0
unfolding blocks_notes
no_blocks at image g b old = sym (append-nil old)

kept_or : (mask : Option ℕ) (old now notes : List ForkNote) → now ≡ old ++ notes → kept_notes (length old) mask now ≡ old ++ notes_if mask notes
kept_or (Some mask) old now notes so = so
kept_or None old now notes so = ap (take (length old)) so ∙ take-append_seam old notes ∙ sym (append-nil old)

pub unit_put : (at : Layout) (image : Image) (g u before : ℕ) (free : Option ℕ) (old now new : List ForkNote) → before ≡ length old → free ≡ mask_in (opened_state at image) g u → now ≡ old ++ blocks_notes at image g (8 * u) 8 → new ≡ kept_notes before free now → new ≡ old ++ unit_notes at image g u
unfolding unit_notes
unit_put at image g u before free old now new long mask so made =
    made ∙ ap (λ (n : ℕ). kept_notes n free now) long ∙ ap (λ (m : Option ℕ). kept_notes (length old) m now) mask
    ∙ kept_or (mask_in (opened_state at image) g u) old now (blocks_notes at image g (8 * u) 8) so

-- one run more
pub noted_runs_more : (f : ℕ → List ForkNote) (now new all : List ForkNote) (runs : List Run) (i : ℕ) (d : Run) → i < length runs → new ≡ now ++ flat_map f (numbers (get_or runs i d).start (get_or runs i d).count) → now ++ flat_map f (units_in (drop i runs)) ≡ all → new ++ flat_map f (units_in (drop (i + 1) runs)) ≡ all
noted_runs_more f now new all runs i d lt made left =
    let next : i + 1 ≡ suc i = omega arith in
    let r : Run = get_or runs i d in
    let front : drop i runs ≡ r ∷ drop (suc i) runs = drop-cons runs i d lt in
    ap (λ (k : ℕ). new ++ flat_map f (units_in (drop k runs))) next
    ∙ ap (λ (xs : List ForkNote). xs ++ flat_map f (units_in (drop (suc i) runs))) made
    ∙ append_assoc now (flat_map f (numbers r.start r.count)) (flat_map f (units_in (drop (suc i) runs)))
    ∙ ap (λ (xs : List ForkNote). now ++ xs) (sym (flat_map-append f (numbers r.start r.count) (units_in (drop (suc i) runs))))
    ∙ ap (λ (xs : List Run). now ++ flat_map f (units_in xs)) (sym front)
    ∙ left

pub noted_none_left : (f : ℕ → List ForkNote) (now all : List ForkNote) (runs : List Run) (i : ℕ) → length runs ≤ i → now ++ flat_map f (units_in (drop i runs)) ≡ all → now ≡ all
noted_none_left f now all runs i le left = sym (append-nil now) ∙ sym (ap (λ (rs : List Run). now ++ flat_map f (units_in rs)) (drop_all runs i le)) ∙ left

-- ---- what is fit whatever the device tells

none_in : (o x : Option ForkFault) → or_else o x ≡ None → (o ≡ None) × (x ≡ None)
none_in None x h = (refl, h)
none_in (Some f) x h = (h, absurd (cc))

fit_each : (at : Layout) (g ino : ℕ) (f : Fork) (ms : List Mapping) → first_bad at f ms ≡ None → AreFit at g (map (λ m. MappingNote ino f m) ms)
unfolding first_bad mapping_fault
fit_each at g ino f [] good = All-nil (IsFit at g)
fit_each at g ino f (m ∷ ms) good =
    let parts = none_in (mapping_fault at f m ms) (first_bad at f ms) good in
    All-cons (IsFit at g) (MappingNote ino f m) (map (λ m. MappingNote ino f m) ms) ((all_pass (mapping_tests at f m ms) parts.0).1.1.0) (fit_each at g ino f ms parts.1)

shown_right : (b : Bool) (o : Option ForkFault) → (b && not (is_some o)) ≡ true → o ≡ None
shown_right true None h = refl
shown_right true (Some f) h = absurd (cc)
shown_right false o h = absurd (cc)

fit_fork : (at : Layout) (g : ℕ) (core : Core3) (f : Fork) → shows at core f ≡ true → AreFit at g (fork_notes core f)
unfolding shows inline_fault
fit_fork at g core f shown =
    let good : or_else (form_fault core f) (first_bad at f (inline_mappings core f)) ≡ None = shown_right (not (is_tree core f)) (or_else (form_fault core f) (first_bad at f (inline_mappings core f))) shown in
    fit_each at g core.ino f (inline_mappings core f) (none_in (form_fault core f) (first_bad at f (inline_mappings core f)) good).1

abbrev MayFit : Layout → ℕ → Option (List ForkNote) → Type 0
MayFit at g (Some notes) = AreFit at g notes
MayFit at g None = Unit {0}

fit_if : (at : Layout) (g : ℕ) (core : Core3) (a b : Bool) → (a ≡ true → AreFit at g (fork_notes core Data)) → (b ≡ true → AreFit at g (fork_notes core Attr)) → MayFit at g (if a && b then Some (fork_notes core Data ++ fork_notes core Attr) else None)
fit_if at g core true true d a = All-append (IsFit at g) (fork_notes core Data) (fork_notes core Attr) (d refl) (a refl)
fit_if at g core true false d a = tt
fit_if at g core false b d a = tt

fit_core : (at : Layout) (g : ℕ) (core : Core3) → MayFit at g (core_notes at core)
unfolding core_notes
fit_core at g core = fit_if at g core (shows at core Data) (shows at core Attr) (fit_fork at g core Data) (fit_fork at g core Attr)

fit_used : (at : Layout) (g : ℕ) (free : Bool) (o : Option (List ForkNote)) → MayFit at g o → MayFit at g (if free then Some [] else o)
fit_used at g true o fit = All-nil (IsFit at g)
fit_used at g false o fit = fit

fit_by : (at : Layout) (g : ℕ) (fault : Option CoreFault) (core : Core3) → MayFit at g (notes_by at fault core)
fit_by at g (Some fault) core = tt
fit_by at g None core = fit_used at g (core.mode == 0) (core_notes at core) (fit_core at g core)

fit_slot : (at : Layout) (g ino : ℕ) (bytes : List ℕ) → MayFit at g (slot_notes at ino bytes)
unfolding slot_notes
fit_slot at g ino bytes = fit_by at g (core_fault bytes ino at.uuid) (core_of bytes)

fit_both : (at : Layout) (g : ℕ) (o p : Option (List ForkNote)) → MayFit at g o → MayFit at g p → MayFit at g (both_notes o p)
fit_both at g (Some notes) (Some more) first behind = All-append (IsFit at g) notes more first behind
fit_both at g (Some notes) None first behind = tt
fit_both at g None p first behind = tt

fit_joined : (at : Layout) (g : ℕ) (f : ℕ → Option (List ForkNote)) (ss : List ℕ) → ((s : ℕ) → MayFit at g (f s)) → MayFit at g (joined_notes (map f ss))
fit_joined at g f [] each = All-nil (IsFit at g)
fit_joined at g f (s ∷ ss) each = fit_both at g (f s) (joined_notes (map f ss)) (each s) (fit_joined at g f ss each)

fit_or_block : (at : Layout) (g b : ℕ) (o : Option (List ForkNote)) → b < group_len_of at g → MayFit at g o → AreFit at g (notes_or_block b o)
fit_or_block at g b (Some notes) inside fit = fit
fit_or_block at g b None inside fit = All-cons (IsFit at g) (BlockNote b) [] inside (All-nil (IsFit at g))

fit_block : (at : Layout) (bytes : List ℕ) (g b : ℕ) → b < group_len_of at g → AreFit at g (block_notes at bytes g b)
unfolding block_notes
fit_block at bytes g b inside =
    fit_or_block at g b (joined_notes (map (λ s. slot_notes at (inode_at at g b s) (slot_in bytes s)) (numbers 0 8))) inside
    (fit_joined at g (λ s. slot_notes at (inode_at at g b s) (slot_in bytes s)) (numbers 0 8) (λ s. fit_slot at g (inode_at at g b s) (slot_in bytes s)))

-- a block more
pub fit_more : (at : Layout) (bytes : List ℕ) (g b : ℕ) (old new : List ForkNote) → b < group_len_of at g → new ≡ old ++ block_notes at bytes g b → AreFit at g old → AreFit at g new
fit_more at bytes g b old new inside made fit =
    All-same (IsFit at g) new (old ++ block_notes at bytes g b) made (All-append (IsFit at g) old (block_notes at bytes g b) fit (fit_block at bytes g b inside))

-- some of them may be taken back
pub fit_kept : (at : Layout) (g before : ℕ) (free : Option ℕ) (now new : List ForkNote) → new ≡ kept_notes before free now → AreFit at g now → AreFit at g new
fit_kept at g before (Some mask) now new made fit = All-same (IsFit at g) new now made fit
fit_kept at g before None now new made fit = All-same (IsFit at g) new (take before now) made (All-take (IsFit at g) before now fit)
