-- At the end of a repair nothing is forgotten that faults are read from.
use Rattle.std.proofs.Common.{◌≡◌, ℕ, Bool, true, false, List, [], ◌∷◌, ◌++◌, refl, ap, sym, subst, ◌∙◌, inl, inr, Option, Some, None}
use Rattle.std.specs.Prelude.{◌+◌, ◌*◌, ◌/◌, ◌%◌, ◌^◌, ◌<◌, ◌==◌, ◌&&◌, ◌||◌, nat_le, nat_lt, map, filter, flat_map, Result, Ok, Err, Contains, if◌then◌else◌}
use Rattle.std.specs.List.{list_any}
use Rattle.std.specs.Option.{option_or}
use Rattle.std.proofs.lemmas.Bool.{and_parts, cases_Bool, eq-eqb, ltb-true, true≢false}
use Rattle.byte_fields.specs.Below.{all_below}
use Rattle.dinode_core.specs.declared.mapping.Fork.{Fork}
use Rattle.dinode_core.specs.declared.mapping.Fork.TheVariants as forks
use Rattle.dinode_core.specs.declared.mapping.ForkFault.{ForkFault}
use Rattle.fs_change.specs.Forget.{Forget, KeepsReading, is_reserved}
use Rattle.fs_state.specs.Chunks.{inodes}
use Rattle.fs_state.specs.Contradiction.{bad_fork, bad_fork_of, first_bad_fork}
use Rattle.fs_state.specs.Derive.{derive}
use Rattle.fs_state.specs.Faults.{counter_fault, faults, faults_of_counter, faults_of_kind, index_faults, wanted}
use Rattle.fs_state.specs.Records.{counters_of, kinds_of, shown_of}
use Rattle.fs_state.specs.Laws.{EachCounter, EachTree, IsGood, IsGoodCounter, IsGoodTree}
use Rattle.fs_state.specs.Lists.{first_of_all}
use Rattle.fs_model.specs.declared.claim.Evidence.{Evidence}
use Rattle.fs_model.specs.declared.fault.Counter.{Counter}
use Rattle.fs_model.specs.declared.fault.Fault.{Fault}
use Rattle.fs_model.specs.declared.unit.Unit.{Unit as ScrubUnit}
use Rattle.fs_model.specs.declared.unit.Unit.TheVariants as units
use Rattle.fs_state.proofs.Trees.{lawful_of}
use Rattle.fs_state.specs.Apart.{has_unit, ino_lists, is_chunk, is_listed, rmap_lists, unit_verifies}
use Rattle.fs_state.specs.Frame.{SameFork}
use Rattle.fs_state.specs.Kinds.{RecOf, form_of}
use Rattle.fs_state.specs.State.{State, ForkList, Owned, Readable, Reading, Unreadable, blocks_in, is_readable, recs_of}
use Rattle.geom.specs.Apart.{Splits}
use Rattle.geom.specs.Layout.{Layout, group_len_of, split_of}
use Rattle.geom.specs.Numbers.{length_of, split}
use Rattle.rmap_recs.proofs.RisingLemmas.{any_here, in_front, in_rest}
use Rattle.sblock.specs.Form.{Form, IsLawful}
use Rattle.sblock.specs.declared.kind.Kind.{Kind}
use Rattle.sblock.specs.declared.kind.Kind.TheVariants.{Ino, Rmap}
use Rattle.tree_defs.specs.Lists.{In, is_in}
use Rattle.xref_scrub.specs.Differences.{differences, lacks}
use Rattle.xref_scrub.specs.Merging.{merged}
use Rattle.xref_scrub.specs.Shown.{Shown}
use Rattle.law_repairs.specs.Repair.Alike.{AlikeInside}
use Rattle.law_repairs.specs.Repair.Ends.{EndsWithoutFaults, ForgetsNothing, IsDone}
use Rattle.law_repairs.specs.Repair.Letters.{Holds}
use Rattle.law_repairs.proofs.Repair.Same.{alike_law, is_inode_of}

-- ---- an index that holds what it should has no differences

module _ {R K : Type 0} (form : Form R K) (lawful : IsLawful form) where
  none_lacking : (list rs : List R) → ((z : R) → Contains rs z → Contains list z) → filter (lacks form list) rs ≡ []
  none_lacking list [] h = refl
  none_lacking list (r ∷ rs) h =
      let found : list_any (form.is_same r) list ≡ true = any_here (form.is_same r) list r (h r (in_front r rs)) ((lawful.same r r).1 refl) in
      rw found (none_lacking list rs (λ z c. h z (in_rest r rs z c)))

  pub no_differences : (shown : Shown R) (rs : List R) → differences form shown rs rs ≡ []
  unfolding differences merged
  no_differences shown rs = rw (none_lacking rs rs (λ z c. c)) refl

index_good : (k : Kind) (derived : List (RecOf k)) (read : Reading (RecOf k)) (blocks : List ℕ) → read ≡ Readable derived blocks → index_faults k derived read ≡ []
index_good k derived read blocks e = ap (index_faults k derived) e ∙ no_differences (form_of k) (lawful_of k) (shown_of k) derived

counter_good : (name : Counter) (found : ℕ) (number : Option ℕ) → ((n : ℕ) → number ≡ Some n → found ≡ n) → counter_fault name found number ≡ []
counter_good name found None good = refl
counter_good name found (Some m) good = rw (eq-eqb found m (good m refl)) refl

both_none : (xs ys : List Fault) → xs ≡ [] → ys ≡ [] → xs ++ ys ≡ []
both_none xs ys e f = rw (e, f) refl

module _ (a : State) (g : ℕ) where
  trees_good : (ks : List Kind) → EachTree (IsGoodTree a g) ks → flat_map (faults_of_kind a g) ks ≡ []
  trees_good [] good = refl
  trees_good (k ∷ ks) good =
      both_none (faults_of_kind a g k) (flat_map (faults_of_kind a g) ks)
      (index_good k (derive a g k) ((a.group g).tree k).reading good.0.0 good.0.1)
      (trees_good ks good.1)

  counters_good : (cs : List Counter) → EachCounter (IsGoodCounter a g) cs → flat_map (faults_of_counter a g) cs ≡ []
  counters_good [] good = refl
  counters_good (c ∷ cs) good =
      both_none (faults_of_counter a g c) (flat_map (faults_of_counter a g) cs)
      (counter_good c ((a.group g).counters c) (wanted a g c) good.0)
      (counters_good cs good.1)

  pub no_faults : (unit : ScrubUnit) → IsGood a g unit → faults a g unit ≡ []
  unfolding faults
  no_faults unit good = both_none (flat_map (faults_of_kind a g) (kinds_of unit)) (flat_map (faults_of_counter a g) (counters_of unit)) (trees_good (kinds_of unit) good.0) (counters_good (counters_of unit) good.1)

-- ---- forks that can be read

pub some_none : (e : Evidence) → ◌≡◌ {A = Option Evidence} (Some e) None → ⊥
some_none e h = cc

each_none : (f : ℕ → Option Evidence) (xs : List ℕ) → first_of_all (map f xs) ≡ None → (x : ℕ) → In x xs → f x ≡ None
each_none f [] h x i = absurd i
each_none f (y ∷ ys) h x i = (elim (f y) as (λ o. f y ≡ o → first_of_all (o ∷ map f ys) ≡ None → f x ≡ None) [
  | None ↦ λ e j. elim i [ inl same ↦ ap f (sym same) ∙ e | inr later ↦ each_none f ys j x later ]
  | Some v ↦ λ e j. absurd (some_none v j)
]) refl h

fork_read : (ino : ℕ) (r : Result ForkList ForkFault) → bad_fork_of ino r ≡ None → (list : ForkList) × (r ≡ Ok list)
fork_read ino (Ok list) h = (list, refl)
fork_read ino (Err fault) h = absurd (some_none _ h)

first_none : (o p : Option Evidence) → option_or o p ≡ None → (o ≡ None) × (p ≡ None)
first_none None p h = (refl, h)
first_none (Some e) p h = absurd (some_none e h)

pub forks_read : (a : State) → first_bad_fork a ≡ None → (ino : ℕ) (f : Fork) → In ino (inodes a) → (list : ForkList) × (a.fork ino f ≡ Ok list)
unfolding first_bad_fork
forks_read a h ino forks.Data i = fork_read ino (a.fork ino forks.Data) (first_none (bad_fork_of ino (a.fork ino forks.Data)) (bad_fork_of ino (a.fork ino forks.Attr)) (each_none (bad_fork a) (inodes a) h ino i)).0
forks_read a h ino forks.Attr i = fork_read ino (a.fork ino forks.Attr) (first_none (bad_fork_of ino (a.fork ino forks.Data)) (bad_fork_of ino (a.fork ino forks.Attr)) (each_none (bad_fork a) (inodes a) h ino i)).1

-- ---- what is forgotten

reading_kept : {R : Type 0} (r now : Reading R) → is_readable r ≡ true → KeepsReading r now → now ≡ r
reading_kept (Readable recs blocks) now h k = k
reading_kept (Unreadable block fault claims) now h k = absurd (true≢false (sym h))

abbrev NoneReserved : State → Type 0
NoneReserved a = (g : ℕ) → g < a.geometry.agcount → (a.group g).reserve ≡ []

place_unreserved : (a : State) (g b len : ℕ) (t : Bool) → NoneReserved a → (nat_lt g a.geometry.agcount && nat_lt b len) ≡ t → is_reserved a (if t then Some (g, b) else None) ≡ false
place_unreserved a g b len true h e = ap (λ (os : List Owned). is_in b (blocks_in os)) (h g (ltb-true g a.geometry.agcount (and_parts (nat_lt g a.geometry.agcount) (nat_lt b len) e).0))
place_unreserved a g b len false h e = refl

none_reserved : (a : State) → NoneReserved a → (n : ℕ) → is_reserved a (split_of a.geometry n) ≡ false
unfolding split
none_reserved a h n =
    let g : ℕ = n / 2 ^ a.geometry.agblklog in
    let b : ℕ = n % 2 ^ a.geometry.agblklog in
    let len : ℕ = length_of a.geometry.agblocks a.geometry.agcount a.geometry.dblocks g in
    place_unreserved a g b len (nat_lt g a.geometry.agcount && nat_lt b len) h refl

fork_kept : (r now : Result ForkList ForkFault) (list : ForkList) → r ≡ Ok list → now ≡ Ok list → SameFork r now
fork_kept r now list e h = subst (λ (x : Result ForkList ForkFault). SameFork x now) (sym e) h

no_chunk : (a : State) (g u : ℕ) → has_unit a.geometry g u ≡ false → is_chunk a g u ≡ false
unfolding is_chunk is_listed
no_chunk a g u h = ap (λ t. (t && (ino_lists a g u || rmap_lists a g u)) && unit_verifies a.geometry a.core g u) h

unit_inside : (a : State) (g u : ℕ) → has_unit a.geometry g u ≡ true → g < a.geometry.agcount
unfolding has_unit
unit_inside a g u h = ltb-true g a.geometry.agcount (and_parts (nat_lt g a.geometry.agcount) (nat_lt (8 * u + 7) (group_len_of a.geometry g)) h).0

module _ (a b : State) (splits : Splits a.geometry) (done : IsDone a) (forgets : Forget a b) where
  reading_same : (g : ℕ) → g < a.geometry.agcount → (k : Kind) → ((b.group g).tree k).reading ≡ ((a.group g).tree k).reading
  reading_same g lt k = reading_kept ((a.group g).tree k).reading ((b.group g).tree k).reading (done.readable g k lt) ((forgets.groups g).trees k).reading

  core_same : (ino : ℕ) → b.core ino ≡ a.core ino
  core_same ino = forgets.cores ino (none_reserved a done.reserve (ino / 8))

  ino_listed : (g u : ℕ) → g < a.geometry.agcount → ino_lists b g u ≡ ino_lists a g u
  unfolding ino_lists
  ino_listed g u lt = ap (λ (r : Reading (RecOf Ino)). list_any (λ x. x.startino == 64 * u) (recs_of r)) (reading_same g lt Ino)

  rmap_listed : (g u : ℕ) → g < a.geometry.agcount → rmap_lists b g u ≡ rmap_lists a g u
  unfolding rmap_lists
  rmap_listed g u lt = ap (λ (r : Reading (RecOf Rmap)). all_below 8 (λ j. list_any (λ x. (x.owner == 0xffff_ffff_ffff_fff9) && nat_le x.start (8 * u + j) && nat_lt (8 * u + j) (x.start + x.count)) (recs_of r))) (reading_same g lt Rmap)

  same_inside : (g u : ℕ) → g < a.geometry.agcount → is_chunk b g u ≡ is_chunk a g u
  unfolding is_chunk is_listed
  same_inside g u lt = λ i. (has_unit (forgets.geometry i) g u && (ino_listed g u lt i || rmap_listed g u lt i)) && unit_verifies (forgets.geometry i) (λ ino. core_same ino i) g u

  chunk_same : (g u : ℕ) → is_chunk b g u ≡ is_chunk a g u
  chunk_same g u = elim (cases_Bool (has_unit a.geometry g u)) [
    | inl has ↦ same_inside g u (unit_inside a g u has)
    | inr out ↦ no_chunk b g u (ap (λ (at : Layout). has_unit at g u) forgets.geometry ∙ out) ∙ sym (no_chunk a g u out)
  ]

  fork_same : (ino : ℕ) (f : Fork) → In ino (inodes a) → SameFork (a.fork ino f) (b.fork ino f)
  fork_same ino f i =
      let r = forks_read a done.forks ino f i in
      fork_kept (a.fork ino f) (b.fork ino f) r.0 r.1 (forgets.forks ino f r.0 (is_inode_of a splits ino i) r.1)

  all_kept : AlikeInside a b
  all_kept = record {
    inodes = record { geometry = forgets.geometry; chunks = chunk_same; cores = λ ino is. core_same ino; forks = fork_same };
    groups = λ g lt. record {
      list = (forgets.groups g).list;
      counters = (forgets.groups g).counters;
      reading = reading_same g lt;
      reserve = (forgets.groups g).reserve ∙ sym (done.reserve g lt);
      limbo = (forgets.groups g).limbo ∙ sym (done.limbo g lt);
    };
  }

pub forgets_nothing : ForgetsNothing
forgets_nothing a b splits done forgets = all_kept a b splits done forgets

pub good_of : (a : State) (g : ℕ) (unit : ScrubUnit) → Holds a g unit → IsGood a g unit
good_of a g units.Inode h = h
good_of a g units.Rmap h = h.0
good_of a g units.Free h = h
good_of a g units.Refc h = h

pub ends_without_faults : EndsWithoutFaults
ends_without_faults a b g unit lt splits done forgets stands trusted =
    let kept = all_kept a b splits done forgets in
    no_faults b g unit ((alike_law a b g splits kept.inodes (kept.groups g lt)).good unit (good_of a g unit (stands trusted)))
