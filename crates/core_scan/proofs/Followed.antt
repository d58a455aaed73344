-- Writers' events beside a scan.
use Rattle.std.proofs.Common.{◌≡◌, ◌⊎◌, inl, inr, ℕ, ◌*◌, ◌<◌, ◌==◌, ◌&&◌, ◌||◌, nat_le, Bool, true, false, not, List, [], ◌∷◌, ◌++◌, filter, Option, Some, None, Result, Ok, Err, refl, sym, ap, ap₂, subst, ◌∙◌, eqb-true, eq-eqb}
use Rattle.std.specs.Prelude.{◌/◌, is_ok, if◌then◌else◌}
use Rattle.std.specs.List.{list_any}
use Rattle.std.proofs.lemmas.Bool.{false≢true, true≢false, and_parts}
use Rattle.dinode_core.specs.ForkTree.{Image, is_fork_block}
use Rattle.dinode_core.specs.Frame.{AreAlike, ForkList, fork_in}
use Rattle.dinode_core.specs.declared.mapping.Fork.{Fork}
use Rattle.dinode_core.specs.declared.mapping.ForkFault.{ForkFault}
use Rattle.fork_read.specs.Pieces.{inode_bytes}
use Rattle.fs_model.specs.declared.entry.Entry.{Entry}
use Rattle.fs_model.specs.declared.entry.Entry.TheVariants as entries
use Rattle.geom.specs.Apart.{HasFitting}
use Rattle.geom.specs.Layout.{Layout, split_of}
use Rattle.rmap_recs.specs.Runs.{has}
use Rattle.rmap_recs.specs.declared.tuples.Tuple.{Tuple}
use Rattle.run_edits.specs.EditLaws.{AreUntied}
use Rattle.sblock.specs.declared.kind.Kind.{Kind}
use Rattle.sblock.specs.declared.kind.Kind.TheVariants.{Ino}
use Rattle.shadow_rmap.specs.Kept.{KeepsTuples, ShadowState}
use Rattle.fs_state.specs.Apart.{in_chunk, is_inode}
use Rattle.fs_state.specs.Frame.{SameFork}
use Rattle.fs_state.specs.State.{State, is_readable}
use Rattle.fs_state.specs.declared.intent.Intent.{Intent}
use Rattle.fs_state.specs.Derive.{is_free}
use Rattle.fs_state.specs.Lists.{numbers}
use Rattle.fs_change.proofs.Beside as beside
use Rattle.fs_change.proofs.Inodes as inodes
use Rattle.fs_change.proofs.Sets.{has_both, has_passing, has_set}
use Rattle.fs_change.specs.Chains.{given_by, gives, most_chains, pending, run_of, settled_forks, taken_by, takes, tuples_in, tuples_of, word_taken}
use Rattle.fs_change.specs.Laws.{changes_inode, is_seen}
use Rattle.fs_change.specs.Scan.{held_tuples, shadow_of, visited}
use Rattle.fs_change.specs.Step.{Step, group_of_inode, is_mapping_of}
use Rattle.law_writers.proofs.Change.Made.{chunk_is_made}
use Rattle.law_writers.proofs.Change.Members.{any_flat, found_below}
use Rattle.law_writers.proofs.Change.Settled.{same_inodes, shadow_by_settled, shadow_follows, shadow_stays}
use Rattle.law_writers.specs.Change.Chunks.{LeavesChunks}
use Rattle.law_writers.specs.Change.Settled.{IsHeldApart, IsNextOnce, LeavesOwners, given_next, taken_next}
use Rattle.core_scan.proofs.Gained.{keeps_alike}
use Rattle.core_scan.proofs.Seen.{given_owner, held_settled, taken_owner}
use Rattle.core_scan.proofs.Steps.{AtRest, readable, same_then, shadow_untied}
use Rattle.core_scan.specs.Equation.{ComesTo, HoldsIt, IsHeld, IsReadable, IsScan, core_at, held_given, held_ino}
use Rattle.core_scan.specs.Followed.{BytesStay, FirstsKeepScan, ImageKeepsScan, IsBeside, IsFinished, LeavesHold, OthersKeepScan, Turns}
use Rattle.core_scan.specs.Moves.{Keeps}
use Rattle.core_scan.specs.Seen.{IsCalm, IsIdle, is_allocated}
use Rattle.core_scan.specs.declared.held.Held.{Held}
use Rattle.core_scan.specs.declared.scan.Scan.{Scan}

alike_one : (x y z : List ℕ) → (y ≡ x) ⊎ (is_fork_block y ≡ false) → (z ≡ y) ⊎ (is_fork_block z ≡ false) → (z ≡ x) ⊎ (is_fork_block z ≡ false)
alike_one x y z (inl e) (inl f) = inl (f ∙ e)
alike_one x y z (inr h) (inl f) = inr (ap is_fork_block f ∙ h)
alike_one x y z e (inr h) = inr h

alike_then : (l m n : Image) → AreAlike l m → AreAlike m n → AreAlike l n
alike_then l m n h k d = alike_one (l d) (m d) (n d) (h d) (k d)

parts : (a : State) (ino : ℕ) → is_allocated a ino ≡ true → (is_inode a ino ≡ true) × (not (is_free (a.core ino)) ≡ true)
parts a ino h = and_parts (is_inode a ino) (not (is_free (a.core ino))) h

both : (x y : Bool) → x ≡ true → y ≡ true → (x && y) ≡ true
both true y e k = k
both false y e k = absurd (false≢true e)

-- ---- the inode that is held

abbrev HeldBy : Layout → Image → Image → Held → (Fork → Result ForkList ForkFault) → Type 0
HeldBy at first n h forks = (inode_bytes at n h.ino ≡ inode_bytes at first h.ino) × ((f : Fork) → SameFork (fork_in at first (core_at at first h.ino) f) (forks f)) × ComesTo at first (core_at at first h.ino) h.fork h.next h.own h.given

held_stays : (a b : State) (m n : Image) (c : ℕ) (h : Held) → b.geometry ≡ a.geometry → is_allocated b h.ino ≡ true → IsIdle b h.ino → AreAlike m n → inode_bytes a.geometry n h.ino ≡ inode_bytes a.geometry m h.ino → ((f : Fork) → SameFork (a.fork h.ino f) (b.fork h.ino f)) → IsHeld a m c h → IsHeld b n c h
held_stays a b m n c h g there idle alike bytes same held =
    let first = held.first in
    let now : HeldBy a.geometry first n h (b.fork h.ino) = (bytes ∙ held.bytes, (λ f. same_then (fork_in a.geometry first (core_at a.geometry first h.ino) f) (a.fork h.ino f) (b.fork h.ino f) (held.same f) (same f)), held.come) in
    let here = subst (λ (at : Layout). HeldBy at first n h (b.fork h.ino)) (sym g) now in
    record {
      next = held.next;
      there = there;
      idle = idle;
      first = first;
      alike = alike_then first m n held.alike alike;
      bytes = here.0;
      same = here.1;
      come = here.2;
    }

-- a fork that can be read could be read before
was_readable : (x y : Result ForkList ForkFault) → SameFork x y → is_ok y ≡ true → is_ok x ≡ true
was_readable (Ok list) y h k = refl
was_readable (Err fault) y h k = absurd (true≢false (sym k ∙ h))

module _ (a b : State) (m n : Image) (left : List Kind) (e : Entry) (g c : ℕ) (held : Option Held) (s : ShadowState) (w : IsBeside a b m n left e held) (still : (ino : ℕ) → is_inode a ino ≡ true → is_inode b ino ≡ true) where
  at : b.geometry ≡ a.geometry
  at = (beside.changes_one_group a b left e w.step).geometry

  kept : (ino : ℕ) → is_inode a ino ≡ true → changes_inode a e ino ≡ false → (b.core ino ≡ a.core ino) × ((f : Fork) → SameFork (a.fork ino f) (b.fork ino f))
  kept ino is out = inodes.keeps_other_inodes a b left e w.step ino out (still ino is)

  holds_by : (o : Option Held) → LeavesHold a b m n e o → HoldsIt a m c o → HoldsIt b n c o
  holds_by None l k = tt
  holds_by (Some h) l k =
      let p = parts a h.ino k.there in
      let same = kept h.ino p.0 l.entry in
      held_stays a b m n c h at (both (is_inode b h.ino) (not (is_free (b.core h.ino))) (still h.ino p.0) (ap (λ x. not (is_free x)) same.0 ∙ p.1)) l.idle w.alike l.bytes same.1 k

  reads_by : (o : Option Held) → LeavesHold a b m n e o → HoldsIt a m c o → IsReadable b o → IsReadable a o
  reads_by None l k r = tt
  reads_by (Some h) l k r = λ f. was_readable (a.fork h.ino f) (b.fork h.ino f) ((kept h.ino (parts a h.ino k.there).0 l.entry).1 f) (r f)

  apart_by : (o : Option Held) → LeavesHold a b m n e o → HoldsIt a m c o → IsHeldApart a e (held_ino o)
  apart_by None l k = tt
  apart_by (Some h) l k = (l.entry, (parts a h.ino k.there).0)

  pub rest_by : (o : Option Held) → HoldsIt a m c o → AtRest a (held_ino o)
  rest_by None k = tt
  rest_by (Some h) k = (k.idle, (parts a h.ino k.there).0)

  pub apart : IsScan a m g c held s → IsHeldApart a e (held_ino held)
  apart scan = apart_by held w.leaves scan.holds

  -- the equation is carried over by what the event does to the shadow
  pub carried : (s' : ShadowState) → s'.group ≡ s.group → IsScan a m g c held s → (KeepsTuples (shadow_of a g c (held_ino held) (held_given held)) s → KeepsTuples (shadow_of b g c (held_ino held) (held_given held)) s') → IsScan b n g c held s'
  carried s' group scan turn = record {
    own = group ∙ scan.own;
    holds = holds_by held w.leaves scan.holds;
    equation = λ r. turn (scan.equation (reads_by held w.leaves scan.holds r));
  }

still_inodes : (a b : State) (left : List Kind) (e : Entry) → IsCalm a → Step a left e b → LeavesChunks a e → (ino : ℕ) → is_inode a ino ≡ true → is_inode b ino ≡ true
still_inodes a b left e calm s l ino is = same_inodes a b left e ino calm.fitting s l ∙ is

pub firsts_keep : FirstsKeepScan
firsts_keep a b m n left e g c held s w l same scan =
    let still = still_inodes a b left e w.before w.step l in
    carried a b m n left e g c held s w still s refl scan (λ k.
    subst (λ ts. KeepsTuples ts s) (sym (shadow_by_settled a b left e g c (held_given held) (held_ino held) w.before.fitting w.step l (apart a b m n left e g c held s w still scan) same)) k)

-- ---- entries that neither begin nor end a change of mappings

record Makes (a : State) (e : Entry) : Type 0 where
  writer : ℕ
  ino : ℕ
  uid : ℕ
  block : ℕ
  is : e ≡ entries.Taken writer ino uid (Some block)
  readable : is_readable ((a.group (group_of_inode a ino)).tree Ino).reading ≡ true

leaves_or_makes : (a : State) (e : Entry) → LeavesOwners a e → LeavesChunks a e ⊎ Makes a e
leaves_or_makes a (entries.Mapped m) l = absurd l
leaves_or_makes a (entries.Unmapped m) l = absurd l
leaves_or_makes a (entries.Converted m) l = absurd l
leaves_or_makes a (entries.Shared m) l = absurd l
leaves_or_makes a (entries.RmapDone c ino g b n) l = absurd l
leaves_or_makes a (entries.RefDone c g b n more) l = inl l
leaves_or_makes a (entries.Freed c g b n kept) l = inl l
leaves_or_makes a (entries.Taken writer ino uid None) l = inl l
leaves_or_makes a (entries.Taken writer ino uid (Some b)) l = inr (record { writer = writer; ino = ino; uid = uid; block = b; is = refl; readable = l })
leaves_or_makes a (entries.Given writer ino) l = inl l
leaves_or_makes a (entries.Refilled e) l = inl l
leaves_or_makes a (entries.Trimmed e) l = inl l
leaves_or_makes a (entries.Marked g k cause) l = inl l
leaves_or_makes a (entries.Reserved g unit b spare) l = inl l
leaves_or_makes a (entries.Released g unit) l = inl l
leaves_or_makes a (entries.Fault g unit fault) l = inl l
leaves_or_makes a (entries.Verdict g unit verdict) l = inl l
leaves_or_makes a (entries.Switched g unit root second) l = inl l
leaves_or_makes a (entries.Reaped e) l = inl l
leaves_or_makes a (entries.Reply writer line code done refused begun) l = inl l

still_made : (a b : State) (left : List Kind) (writer ino uid block : ℕ) → HasFitting a.geometry → Step a left (entries.Taken writer ino uid (Some block)) b → is_readable ((a.group (group_of_inode a ino)).tree Ino).reading ≡ true → (n : ℕ) → is_inode a n ≡ true → is_inode b n ≡ true
unfolding is_inode
still_made a b left writer ino uid block fit s readable n is =
    ap (λ (at : Layout). in_chunk b (split_of at (n / 8))) ((beside.changes_one_group a b left (entries.Taken writer ino uid (Some block)) s).geometry) ∙ by (split_of a.geometry (n / 8)) is
  where
    by : (p : Option (ℕ × ℕ)) → in_chunk a p ≡ true → in_chunk b p ≡ true
    by None h = h
    by (Some p) h = chunk_is_made a b left writer ino uid block fit s readable p.0 (p.1 / 8) ∙ ap (λ x. x || ((p.0 == group_of_inode a ino) && (8 * (p.1 / 8) == block))) h

still_by : (a b : State) (left : List Kind) (e : Entry) → IsCalm a → Step a left e b → LeavesChunks a e ⊎ Makes a e → (ino : ℕ) → is_inode a ino ≡ true → is_inode b ino ≡ true
still_by a b left e calm s (inl l) = still_inodes a b left e calm s l
still_by a b left e calm s (inr k) = still_made a b left k.writer k.ino k.uid k.block calm.fitting (subst (λ (x : Entry). Step a left x b) k.is s) k.readable

pub others_keep : OthersKeepScan
others_keep a b m n left e g c held s w l scan =
    let still = still_by a b left e w.before w.step (leaves_or_makes a e l) in
    carried a b m n left e g c held s w still s refl scan (λ k.
    subst (λ ts. KeepsTuples ts s) (sym (shadow_stays a b left e g c (held_given held) (held_ino held) w.before.fitting w.step l (apart a b m n left e g c held s w still scan))) k)

-- ---- a finished step

-- a chain's intent is pending
in_pending : (p : Intent → Bool) (a : State) (chain : ℕ) (i : Intent) (rest : List Intent) → chain < most_chains → a.chains chain ≡ i ∷ rest → p i ≡ true → list_any p (pending a) ≡ true
unfolding pending
in_pending p a chain i rest below next h =
    any_flat p a.chains (numbers 0 most_chains)
    ∙ found_below (λ d. list_any p (a.chains d)) most_chains chain below (ap (list_any p) next ∙ ap (λ b. b || list_any p rest) h)

or_left : (x y : Bool) → y ≡ true → (x || y) ≡ true
or_left true y h = refl
or_left false y h = h

module _ (a : State) (g chain : ℕ) (i : Intent) (rest : List Intent) (below : chain < most_chains) (next : a.chains chain ≡ i ∷ rest) where
  -- what it takes isn't of an inode of which nothing is owed
  not_held : (ino k : ℕ) (t : Tuple) → IsCalm a → IsIdle a ino → is_inode a ino ≡ true → has (taken_by g i) t ≡ true → has (held_tuples a g (Some ino) k) t ≡ false
  not_held ino k t calm idle is h = by (has (held_tuples a g (Some ino) k) t) refl
    where
      by : (b : Bool) → has (held_tuples a g (Some ino) k) t ≡ b → b ≡ false
      by false e = refl
      by true e =
          let own = taken_owner g i t h in
          let its : t.owner ≡ ino = eqb-true t.owner ino (and_parts (has (settled_forks a g) t) (t.owner == ino) (held_settled a g ino k t calm idle is e)).1 in
          let mapping : is_mapping_of ino i ≡ true = both (gives i.kind || takes i.kind) (i.ino == ino) (or_left (gives i.kind) (takes i.kind) own.0) (eq-eqb i.ino ino (sym own.1 ∙ its)) in
          absurd (true≢false (sym (in_pending (is_mapping_of ino) a chain i rest below next mapping) ∙ idle))

  not_held_by : (held : Option ℕ) (k : ℕ) → IsCalm a → AtRest a held → (t : Tuple) → has (taken_by g i) t ≡ true → has (held_tuples a g held k) t ≡ false
  not_held_by None k calm rest t h = refl
  not_held_by (Some ino) k calm rest t h = not_held ino k t calm rest.0 rest.1 h

-- who owns what behind it, tuple by tuple
module _ (a b : State) (left : List Kind) (chain at count g c k : ℕ) (i : Intent) (rest : List Intent) (held : Option ℕ) (below : chain < most_chains) (next : a.chains chain ≡ i ∷ rest) (calm : IsCalm a)
    (step : Step a left (entries.RmapDone chain i.ino i.group at count) b) (leaves : LeavesChunks a (entries.RmapDone chain i.ino i.group at count)) (once : IsNextOnce a b g (a.chains chain))
    (apart : IsHeldApart a (entries.RmapDone chain i.ino i.group at count) held) (at_rest : AtRest a held) where
  pub members : (t : Tuple) → has (shadow_of b g c held k) t ≡ ((has (shadow_of a g c held k) t && not (has (taken_by g i) t && is_seen c t)) || (has (given_by g i) t && is_seen c t))
  members t =
      ap (λ ts. has ts t) (shadow_follows a b left chain i.ino i.group at count g c k held calm.fitting below step leaves once apart
      (λ u h. not_held_by a g chain i rest below next held k calm at_rest u (ap (λ is. has (taken_next g is) u) (sym next) ∙ h)))
      ∙ has_set (filter (λ u. not (has (taken_next g (a.chains chain)) u && is_seen c u)) (shadow_of a g c held k) ++ filter (is_seen c) (given_next g (a.chains chain))) t
      ∙ has_both (filter (λ u. not (has (taken_next g (a.chains chain)) u && is_seen c u)) (shadow_of a g c held k)) (filter (is_seen c) (given_next g (a.chains chain))) t
      ∙ ap₂ (λ x y. x || y) (has_passing (λ u. not (has (taken_next g (a.chains chain)) u && is_seen c u)) (shadow_of a g c held k) t) (has_passing (is_seen c) (given_next g (a.chains chain)) t)
      ∙ ap (λ is. (has (shadow_of a g c held k) t && not (has (taken_next g is) t && is_seen c t)) || (has (given_next g is) t && is_seen c t)) next

  -- where the scan has been at the inode
  pub seen : nat_le i.ino c ≡ true → (t : Tuple) → has (shadow_of b g c held k) t ≡ ((has (shadow_of a g c held k) t && not (has (taken_by g i) t)) || has (given_by g i) t)
  unfolding visited
  seen h t = members t ∙ by (has (shadow_of a g c held k) t) (has (taken_by g i) t) (has (given_by g i) t) (is_seen c t) (λ e. ap (λ o. nat_le o c) (taken_owner g i t e).1 ∙ h) (λ e. ap (λ o. nat_le o c) (given_owner g i t e).1 ∙ h)
    where
      by : (s o n v : Bool) → (o ≡ true → v ≡ true) → (n ≡ true → v ≡ true) → ((s && not (o && v)) || (n && v)) ≡ ((s && not o) || n)
      by s o n true f h = ap₂ (λ x y. (s && not x) || y) (whole o) (whole n)
        where
          whole : (x : Bool) → (x && true) ≡ x
          whole true = refl
          whole false = refl
      by s true n false f h = absurd (false≢true (f refl))
      by s false true false f h = absurd (false≢true (h refl))
      by s false false false f h = refl

  -- where it hasn't
  pub unseen : nat_le i.ino c ≡ false → (t : Tuple) → has (shadow_of b g c held k) t ≡ has (shadow_of a g c held k) t
  unfolding visited
  unseen h t = members t ∙ by (has (shadow_of a g c held k) t) (has (taken_by g i) t) (has (given_by g i) t) (is_seen c t) (λ e. ap (λ o. nat_le o c) (taken_owner g i t e).1 ∙ h) (λ e. ap (λ o. nat_le o c) (given_owner g i t e).1 ∙ h)
    where
      by : (s o n v : Bool) → (o ≡ true → v ≡ false) → (n ≡ true → v ≡ false) → ((s && not (o && v)) || (n && v)) ≡ s
      by true true n true f h = absurd (true≢false (f refl))
      by false true n true f h = absurd (true≢false (f refl))
      by s false true true f h = absurd (true≢false (h refl))
      by true false false true f h = refl
      by false false false true f h = refl
      by true true true false f h = refl
      by true true false false f h = refl
      by true false true false f h = refl
      by true false false false f h = refl
      by false true true false f h = refl
      by false true false false f h = refl
      by false false true false f h = refl
      by false false false false f h = refl

  -- where its run lies in another group
  pub elsewhere : (i.group == g) ≡ false → (t : Tuple) → has (shadow_of b g c held k) t ≡ has (shadow_of a g c held k) t
  elsewhere h t = members t ∙ ap₂ (λ x y. (has (shadow_of a g c held k) t && not (x && is_seen c t)) || (y && is_seen c t)) (no_taken (takes i.kind)) (no_given (gives i.kind)) ∙ all_in (has (shadow_of a g c held k) t)
    where
      none_in : (word : ℕ) → has (tuples_in g i word) t ≡ false
      none_in word = ap (λ b. has (if b then tuples_of (run_of i word) else []) t) h

      no_taken : (b : Bool) → has (if b then tuples_in g i (word_taken i) else []) t ≡ false
      no_taken true = none_in (word_taken i)
      no_taken false = refl

      no_given : (b : Bool) → has (if b then tuples_in g i i.word else []) t ≡ false
      no_given true = none_in i.word
      no_given false = refl

      all_in : (x : Bool) → ((x && true) || false) ≡ x
      all_in true = refl
      all_in false = refl

-- ---- the law of a finished step

module _ (a b : State) (m n : Image) (left : List Kind) (chain at count : ℕ) (i : Intent) (old : Scan) (f : IsFinished a b m n left chain at count i old) (scan : Keeps a m old) where
  abbrev entry : Entry
  entry = entries.RmapDone chain i.ino i.group at count

  still : (ino : ℕ) → is_inode a ino ≡ true → is_inode b ino ≡ true
  still = still_inodes a b left entry f.beside.before f.beside.step f.leaves

  rest : AtRest a (held_ino old.held)
  rest = rest_by a b m n left entry old.group old.cursor old.held old.shadow f.beside still old.held scan.holds

  apart_now : IsHeldApart a entry (held_ino old.held)
  apart_now = apart a b m n left entry old.group old.cursor old.held old.shadow f.beside still scan

  rest_behind : (o : Option Held) → HoldsIt a m old.cursor o → LeavesHold a b m n entry o → AtRest b (held_ino o)
  rest_behind None k l = tt
  rest_behind (Some h) k l = (l.idle, still h.ino (parts a h.ino k.there).0)

  untied_before : AreUntied (shadow_of a old.group old.cursor (held_ino old.held) (held_given old.held))
  untied_before = shadow_untied a old.group old.cursor (held_ino old.held) (held_given old.held) f.beside.before rest f.untied_before

  untied_behind : AreUntied (shadow_of b old.group old.cursor (held_ino old.held) (held_given old.held))
  untied_behind = shadow_untied b old.group old.cursor (held_ino old.held) (held_given old.held) f.beside.behind (rest_behind old.held scan.holds f.beside.leaves) f.untied

  pub stays_by : ((t : Tuple) → has (shadow_of b old.group old.cursor (held_ino old.held) (held_given old.held)) t ≡ has (shadow_of a old.group old.cursor (held_ino old.held) (held_given old.held)) t) → Keeps b n old
  stays_by same = carried a b m n left entry old.group old.cursor old.held old.shadow f.beside still old.shadow refl scan (keeps_alike old.shadow (shadow_of a old.group old.cursor (held_ino old.held) (held_given old.held)) (shadow_of b old.group old.cursor (held_ino old.held) (held_given old.held)) same)

  pub other_group : (i.group == old.group) ≡ false → Keeps b n old
  other_group h = stays_by (elsewhere a b left chain at count old.group old.cursor (held_given old.held) i f.rest (held_ino old.held) f.below f.next f.beside.before f.beside.step f.leaves f.once apart_now rest h)

  pub not_reached : nat_le i.ino old.cursor ≡ false → Keeps b n old
  not_reached h = stays_by (unseen a b left chain at count old.group old.cursor (held_given old.held) i f.rest (held_ino old.held) f.below f.next f.beside.before f.beside.step f.leaves f.once apart_now rest h)

  pub reached : (s' : ShadowState) → s'.group ≡ old.shadow.group → nat_le i.ino old.cursor ≡ true → Turns i old.shadow s' → IsScan b n old.group old.cursor old.held s'
  reached s' group h turn = carried a b m n left entry old.group old.cursor old.held old.shadow f.beside still s' group scan (λ k.
      turn (shadow_of a old.group old.cursor (held_ino old.held) (held_given old.held)) (shadow_of b old.group old.cursor (held_ino old.held) (held_given old.held)) untied_before untied_behind
      (λ t. subst (λ g. has (shadow_of b old.group old.cursor (held_ino old.held) (held_given old.held)) t ≡ ((has (shadow_of a old.group old.cursor (held_ino old.held) (held_given old.held)) t && not (has (taken_by g i) t)) || has (given_by g i) t)) (sym scan.own)
      (seen a b left chain at count old.group old.cursor (held_given old.held) i f.rest (held_ino old.held) f.below f.next f.beside.before f.beside.step f.leaves f.once apart_now rest h t)) k)

-- ---- blocks that change while the state doesn't

pub image_keeps : ImageKeepsScan
image_keeps a m n g c held s alike bytes scan = record { own = scan.own; holds = by held bytes scan.holds; equation = scan.equation }
  where
    by : (o : Option Held) → BytesStay a m n o → HoldsIt a m c o → HoldsIt a n c o
    by None b k = tt
    by (Some h) b k = record { next = k.next; there = k.there; idle = k.idle; first = k.first; alike = alike_then k.first m n k.alike alike; bytes = b ∙ k.bytes; same = k.same; come = k.come }
