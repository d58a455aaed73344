-- One group changed, and what is known of it.
use Rattle.std.proofs.Common.{◌≡◌, ℕ, ◌+◌, ◌*◌, ◌==◌, ◌&&◌, ◌||◌, Bool, true, false, cond, List, [], ◌∷◌, refl, ap, sym, subst, ◌∙◌, inl, inr, Option, None, eqb-true, eq-eqb}
use Rattle.std.specs.Prelude.{map, nat_le, nat_lt, Result, Ok, Err}
use Rattle.std.specs.List.{list_any}
use Rattle.std.specs.Option.{option_or}
use Rattle.byte_fields.specs.Below.{all_below}
use Rattle.dinode_core.specs.declared.mapping.Fork.TheVariants as forks
use Rattle.dinode_core.specs.declared.mapping.ForkFault.{ForkFault}
use Rattle.fs_change.specs.Parts.{in_group}
use Rattle.fs_state.specs.Chunks.{inodes}
use Rattle.fs_state.specs.Claims.{claims}
use Rattle.fs_state.specs.Contradiction.{bad_fork, bad_fork_of, first_bad_fork, first_overlap, overlap_among}
use Rattle.fs_state.specs.Laws.{EachTree}
use Rattle.fs_state.specs.Lists.{first_of_all, numbers}
use Rattle.fs_model.specs.declared.claim.Evidence.{Evidence}
use Rattle.fs_model.specs.declared.unit.Unit.{Unit as ScrubUnit}
use Rattle.fs_model.specs.declared.unit.Unit.TheVariants as units
use Rattle.fs_state.specs.Apart.{has_unit, ino_lists, is_chunk, is_listed, rmap_lists, unit_verifies}
use Rattle.fs_state.specs.Frame.{SameFork}
use Rattle.fs_state.specs.State.{State, ForkList, Group, recs_of}
use Rattle.geom.specs.Apart.{Splits}
use Rattle.geom.specs.Layout.{group_len_of}
use Rattle.ino_recs.specs.declared.chunk.InoRec.{InoRec}
use Rattle.rmap_recs.specs.declared.records.RmapRec.{RmapRec}
use Rattle.sblock.specs.declared.kind.Kind.{Kind}
use Rattle.sblock.specs.declared.kind.Kind.TheVariants.{Ino, Rmap}
use Rattle.tree_defs.specs.Lists.{In}
use Rattle.law_repairs.specs.Repair.Alike.{Alike, AlikeGroup, AlikeInodes}
use Rattle.law_repairs.specs.Repair.Letters.{Holds}
use Rattle.law_repairs.proofs.Repair.Ending.{forks_read}
use Rattle.law_repairs.proofs.Repair.Same.{alike_law, inodes_same}

-- ---- all groups, where one was changed

pub in_each : (P : Group → Group → Type 0) (g : ℕ) (f : Group → Group) (a : State) (h : ℕ) → ((p : Group) → P p (f p)) → ((p : Group) → P p p) → P (a.group h) ((in_group g f a).group h)
in_each P g f a h new old = (elim (h == g) as (λ t. (h == g) ≡ t → P (a.group h) (cond t (f (a.group g)) (a.group h))) [
  | true ↦ λ e. subst (λ (n : ℕ). P (a.group n) (f (a.group g))) (sym (eqb-true h g e)) (new (a.group g))
  | false ↦ λ e. old (a.group h)
]) refl

pub in_other_group : (P : Group → Group → Type 0) (g : ℕ) (f : Group → Group) (a : State) (h : ℕ) → (h == g) ≡ false → ((p : Group) → P p p) → P (a.group h) ((in_group g f a).group h)
in_other_group P g f a h out old = subst (λ (t : Bool). P (a.group h) (cond t (f (a.group g)) (a.group h))) (sym out) (old (a.group h))

pub in_own_group : (g : ℕ) (f : Group → Group) (a : State) → (in_group g f a).group g ≡ f (a.group g)
in_own_group g f a = ap (λ t. cond t (f (a.group g)) (a.group g)) (eq-eqb g g refl)

-- ---- chunks

-- reverse mappings give all blocks of the unit to inodes
abbrev gives_unit : ℕ → List RmapRec → Bool
gives_unit u recs = all_below 8 (λ j. list_any (λ r. (r.owner == 0xffff_ffff_ffff_fff9) && nat_le r.start (8 * u + j) && nat_lt (8 * u + j) (r.start + r.count)) recs)

abbrev lists_unit : ℕ → List InoRec → Bool
lists_unit u recs = list_any (λ r. r.startino == 64 * u) recs

pub chunk_listed : (a b : State) → b.geometry ≡ a.geometry → b.core ≡ a.core
    → ((g : ℕ) → recs_of ((b.group g).tree Ino).reading ≡ recs_of ((a.group g).tree Ino).reading) → ((g : ℕ) → recs_of ((b.group g).tree Rmap).reading ≡ recs_of ((a.group g).tree Rmap).reading)
    → (g u : ℕ) → is_chunk b g u ≡ is_chunk a g u
unfolding is_chunk is_listed ino_lists rmap_lists
chunk_listed a b at core inos maps g u = λ i. (has_unit (at i) g u && (lists_unit u (inos g i) || gives_unit u (maps g i))) && unit_verifies (at i) (core i) g u

pub same_fork : (r : Result ForkList ForkFault) → SameFork r r
same_fork (Ok list) = refl
same_fork (Err fault) = refl

-- ---- only trust differs

pub only_same : (p : Group) → AlikeGroup p p
only_same p = record { list = refl; counters = refl; reading = λ k. refl; reserve = refl; limbo = refl }

pub alike_trust : (g : ℕ) (f : Group → Group) (a : State) → ((p : Group) → AlikeGroup p (f p)) → Alike a (in_group g f a)
alike_trust g f a only =
    let each : (h : ℕ) → AlikeGroup (a.group h) ((in_group g f a).group h) = λ h. in_each AlikeGroup g f a h only only_same in
    record {
      inodes = record {
        geometry = refl;
        chunks = chunk_listed a (in_group g f a) refl refl (λ h. ap recs_of ((each h).reading Ino)) (λ h. ap recs_of ((each h).reading Rmap));
        cores = λ ino is. refl;
        forks = λ ino fork i. same_fork (a.fork ino fork);
      };
      groups = each;
    }

-- ---- what holds in alike states

all_none : (f : ℕ → Option Evidence) (xs : List ℕ) → ((x : ℕ) → In x xs → f x ≡ None) → first_of_all (map f xs) ≡ None
all_none f [] h = refl
all_none f (x ∷ xs) h = ap (λ (o : Option Evidence). first_of_all (o ∷ map f xs)) (h x (inl refl)) ∙ all_none f xs (λ y i. h y (inr i))

pub good_fork : (b : State) (ino : ℕ) (one two : ForkList) → b.fork ino forks.Data ≡ Ok one → b.fork ino forks.Attr ≡ Ok two → bad_fork b ino ≡ None
good_fork b ino one two e h = λ i. option_or (bad_fork_of ino (e i)) (bad_fork_of ino (h i))

still_read : (r now : Result ForkList ForkFault) (list : ForkList) → r ≡ Ok list → SameFork r now → now ≡ Ok list
still_read r now list e h = subst (λ (x : Result ForkList ForkFault). SameFork x now) e h

module _ (a b : State) (splits : Splits a.geometry) (same : AlikeInodes a b) where
  pub forks_stay : first_bad_fork a ≡ None → first_bad_fork b ≡ None
  unfolding first_bad_fork
  forks_stay h = ap (λ (xs : List ℕ). first_of_all (map (bad_fork b) xs)) (inodes_same a b splits same) ∙ all_none (bad_fork b) (inodes a) (λ ino i.
      let one = forks_read a h ino forks.Data i in
      let two = forks_read a h ino forks.Attr i in
      good_fork b ino one.0 two.0
      (still_read (a.fork ino forks.Data) (b.fork ino forks.Data) one.0 one.1 (same.forks ino forks.Data i))
      (still_read (a.fork ino forks.Attr) (b.fork ino forks.Attr) two.0 two.1 (same.forks ino forks.Attr i)))

  pub apart_stays : (g : ℕ) → claims b g ≡ claims a g → first_overlap a g (claims a g) ≡ None → first_overlap b g (claims b g) ≡ None
  unfolding first_overlap
  apart_stays g e h = (λ i. overlap_among (e i) (numbers 0 (group_len_of (same.geometry i) g))) ∙ h

pub holds_group : (a b : State) (g : ℕ) (unit : ScrubUnit) → Splits a.geometry → AlikeInodes a b → AlikeGroup (a.group g) (b.group g) → Holds a g unit → Holds b g unit
holds_group a b g units.Inode splits same alike h = (alike_law a b g splits same alike).good units.Inode h
holds_group a b g units.Rmap splits same alike h = (
  (alike_law a b g splits same alike).good units.Rmap h.0,
  record {
    apart = apart_stays a b splits same g (alike_law a b g splits same alike).claimed h.1.apart;
    forks = forks_stay a b splits same h.1.forks;
  },
)
holds_group a b g units.Free splits same alike h = (alike_law a b g splits same alike).good units.Free h
holds_group a b g units.Refc splits same alike h = (alike_law a b g splits same alike).good units.Refc h

pub holds_alike : (a b : State) → Splits a.geometry → Alike a b → (g : ℕ) (unit : ScrubUnit) → Holds a g unit → Holds b g unit
holds_alike a b splits same g unit h = holds_group a b g unit splits same.inodes (same.groups g) h

pub each_is : {P Q : Kind → Type 0} → ((k : Kind) → P k → Q k) → (ks : List Kind) → EachTree P ks → EachTree Q ks
each_is f [] h = tt
each_is f (k ∷ ks) h = (f k h.0, each_is f ks h.1)
