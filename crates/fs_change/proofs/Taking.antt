-- Taking a free inode of a chunk leaves the chunks.
use Rattle.std.proofs.Common.{◌≡◌, ℕ, ◌+◌, ◌*◌, ◌==◌, ◌&&◌, ◌||◌, Bool, true, false, cond, List, [], ◌∷◌, Option, Some, None, refl, sym, ap, ap₂, ◌∙◌, eqb-true}
use Rattle.std.specs.Prelude.{if◌then◌else◌}
use Rattle.std.proofs.lemmas.Bool.{false≢true}
use Rattle.byte_fields.specs.Below.{all_below}
use Rattle.geom.specs.Layout.{Layout, inode_at}
use Rattle.ino_recs.specs.declared.chunk.InoRec.{InoRec}
use Rattle.sblock.specs.declared.kind.Kind.TheVariants.{Rmap, Ino, Fino}
use Rattle.fs_state.specs.Apart.{verifies, ino_lists, rmap_lists, has_unit, is_listed, block_verifies, unit_verifies, is_chunk}
use Rattle.fs_state.specs.State.{State, Group, CoreState, Broken, Whole, Reading, Readable, Unreadable, recs_of}
use Rattle.fs_state.specs.Derive.{is_free}
use Rattle.fs_change.proofs.Alike.{gives_unit, lists_unit, recs_in_group}
use Rattle.fs_change.proofs.Trees.{turned_tree}
use Rattle.fs_change.specs.Changes.{taken, turn, inodes_follow, core_with, file_mode}
use Rattle.fs_change.specs.Laws.{TakenKeepsChunks}
use Rattle.fs_change.specs.Parts.{at_only, in_group, with_recs, is_edited, edit, records_in}
use Rattle.fs_change.specs.Records.{has_inode, turned, turn_inode}
use Rattle.fs_change.specs.Step.{group_of_inode}

pub free_verifies : (c : Option CoreState) → is_free c ≡ true → verifies c ≡ true
free_verifies None h = absurd (false≢true h)
free_verifies (Some (Broken fault)) h = absurd (false≢true h)
free_verifies (Some (Whole inode)) h = refl

-- ---- listings

same_start : (b : Bool) (i : ℕ) (r : InoRec) → (cond b (turned false i r) r).startino ≡ r.startino
same_start true i r = refl
same_start false i r = refl

turned_lists : (u i : ℕ) (rs : List InoRec) → lists_unit u (turn_inode false i rs) ≡ lists_unit u rs
unfolding turn_inode
turned_lists u i [] = refl
turned_lists u i (r ∷ rs) = ap₂ (λ s b. (s == 64 * u) || b) (same_start (has_inode i r) i r) (turned_lists u i rs)

edited_lists : (u i : ℕ) (r : Reading InoRec) → lists_unit u (recs_of (with_recs (turn_inode false i (recs_of r)) r)) ≡ lists_unit u (recs_of r)
edited_lists u i (Readable recs blocks) = turned_lists u i recs
edited_lists u i (Unreadable block fault claims) = refl

by_edit : (b : Bool) (u i : ℕ) (p q : Group) → lists_unit u (records_in q Ino) ≡ lists_unit u (records_in p Ino) → lists_unit u (records_in (if b then q else p) Ino) ≡ lists_unit u (records_in p Ino)
by_edit true u i p q h = h
by_edit false u i p q h = refl

-- free inodes follow, which list no units
after_fino : (b : Bool) (p q : Group) → records_in q Ino ≡ records_in p Ino → records_in (if b then q else p) Ino ≡ records_in p Ino
after_fino true p q h = h
after_fino false p q h = refl

turn_lists : (u i : ℕ) (p : Group) → lists_unit u (records_in (turn false i p) Ino) ≡ lists_unit u (records_in p Ino)
turn_lists u i p =
    let q : Group = edit [] Ino (turn_inode false i) p in
    ap (lists_unit u) (after_fino (is_edited [] q Fino) q _ refl) ∙ by_edit (is_edited [] p Ino) u i p _ (edited_lists u i (p.tree Ino).reading)

in_group_lists : (u g : ℕ) (f : Group → Group) (a : State) (h : ℕ) → ((p : Group) → lists_unit u (records_in (f p) Ino) ≡ lists_unit u (records_in p Ino)) → lists_unit u (records_in ((in_group g f a).group h) Ino) ≡ lists_unit u (records_in (a.group h) Ino)
in_group_lists u g f a h keeps = (elim (h == g) as (λ b. (h == g) ≡ b → lists_unit u (records_in (cond b (f (a.group g)) (a.group h)) Ino) ≡ lists_unit u (records_in (a.group h) Ino)) [
  | true ↦ λ e. keeps (a.group g) ∙ ap (λ (n : ℕ). lists_unit u (records_in (a.group n) Ino)) (sym (eqb-true h g e))
  | false ↦ λ e. refl
]) refl

-- ---- cores

same_verifies : (ino uid : ℕ) (core : ℕ → Option CoreState) → verifies (core ino) ≡ true → (n : ℕ) → verifies (at_only ino (Some (core_with file_mode uid)) core n) ≡ verifies (core n)
same_verifies ino uid core h n = (elim (n == ino) as (λ b. (n == ino) ≡ b → verifies (cond b (Some (core_with file_mode uid)) (core n)) ≡ verifies (core n)) [
  | true ↦ λ e. sym (ap (λ m. verifies (core m)) (eqb-true n ino e) ∙ h)
  | false ↦ λ e. refl
]) refl

pub same_unit : (at : Layout) (c d : ℕ → Option CoreState) → ((n : ℕ) → verifies (d n) ≡ verifies (c n)) → (h u : ℕ) → unit_verifies at d h u ≡ unit_verifies at c h u
unfolding unit_verifies block_verifies
same_unit at c d same h u = λ i. all_below 8 (λ j. all_below 8 (λ s. same (inode_at at h (8 * u + j) s) i))

keeps : (a : State) (g i ino uid h u : ℕ) → verifies (a.core ino) ≡ true → is_chunk (taken g i ino uid None a) h u ≡ is_chunk a h u
unfolding is_chunk is_listed ino_lists rmap_lists taken
keeps a g i ino uid h u there =
    let f : Group → Group = λ q. inodes_follow (a.group g) (turn false i q) in
    let lists : lists_unit u (records_in ((in_group g f a).group h) Ino) ≡ lists_unit u (records_in (a.group h) Ino) = in_group_lists u g f a h (turn_lists u i) in
    let gives : gives_unit u (records_in ((in_group g f a).group h) Rmap) ≡ gives_unit u (records_in (a.group h) Rmap) = ap (gives_unit u) (recs_in_group g f a h Rmap (λ p. ap (λ x. recs_of x.reading) (turned_tree false i Rmap p refl refl))) in
    ap₂ (λ x y. x && y) (ap₂ (λ x y. has_unit a.geometry h u && (x || y)) lists gives)
    (same_unit a.geometry a.core (at_only ino (Some (core_with file_mode uid)) a.core) (same_verifies ino uid a.core there) h u)

pub taken_keeps_chunks : TakenKeepsChunks
taken_keeps_chunks a x left writer ino uid r h u =
    let free : is_free (a.core ino) ≡ true = ap (λ n. is_free (a.core n)) r.2 ∙ r.1.4 in
    ap (λ (s : State). is_chunk s h u) r.3 ∙ keeps a (group_of_inode a ino) r.0 ino uid h u (free_verifies (a.core ino) free)
