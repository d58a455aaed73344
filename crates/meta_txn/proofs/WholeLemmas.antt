-- How the steps of a batch that is written whole go on.
use Rattle.std.proofs.Common.{◌≡◌, ◌<◌, ◌≤◌, refl, ℕ, Bool, true, List, [], ◌∷◌, length, nat_eq, arith, eqb-true, Option, Some, None, IfSome, Result, Ok, Err, is_ok, OnOk, IsErrOf, subst, sym, ◌∙◌, ap}
use Rattle.blk_cache.specs.Cache.{kept, Agrees}
use Rattle.blk_cache.specs.declared.cache.BlkCache.{BlkCache}
use Rattle.blk_device.specs.Causes.{HasCause, Rose, any_error}
use Rattle.blk_device.specs.Contents.{Contents, map_told, put, Becomes}
use Rattle.blk_device.specs.Crash.{LeavesOnly}
use Rattle.blk_device.specs.declared.device.Region.TheVariants.{Image, Redo}
use Rattle.blk_device.proofs.Moments.{chain, weaken}
use Rattle.blk_device.proofs.Told.{where_told, as_told, as_becomes, becomes_by, map_twice, then_told}
use Rattle.byte_fields.specs.declared.block.Block.{Block}
use Rattle.redo_area.specs.Area.{Batch, Blocks, bytes_of, put_homes, with_batch}
use Rattle.redo_area.specs.Stages.{AtRestBut, Ends, EndsBut}
use Rattle.redo_area.specs.declared.faults.BatchFault.{BatchFault}
use Rattle.redo_area.specs.declared.faults.BatchFault.TheVariants.{TooMany, Failed}
use Rattle.redo_area.proofs.AreaLaws.{ends_but, homes_image}
use Rattle.meta_txn.specs.Whole.{HoldsBatch}

-- the image with a batch, once its blocks are written and the gate is closed
pub image_closed : {E : Type 0} (result : Result (Unit {0}) E) (ps : Batch) (gate : List ℕ) (old mid new : Option Contents) → mid ≡ map_told (put_homes ps) old
    → OnOk result (new ≡ map_told (put Redo 0 gate) mid) → OnOk result (Becomes old new (HoldsBatch ps))
image_closed (Ok x) ps gate old mid new homes closed =
    becomes_by (λ c. put Redo 0 gate (put_homes ps c)) old new (HoldsBatch ps)
    (closed ∙ ap (map_told (put Redo 0 gate)) homes ∙ map_twice (put Redo 0 gate) (put_homes ps) old) (λ m told. homes_image ps m)
image_closed (Err e) ps gate old mid new homes closed = tt

-- a batch fault that isn't TooMany
only_failed : (fault : BatchFault) (P : Type 0) → ((n : ℕ) → IsErrOf {T = Unit {0}} (Err fault) (TooMany n) → ⊥) → (IsErrOf {T = Unit {0}} (Err fault) Failed → P) → P
only_failed (TooMany n) P few failed = absurd (few n refl)
only_failed Failed P few failed = failed refl

-- what holds on Ok, where another fault stands in for the fault
pub ok_as : {T E F : Type 0} (result : Result T E) (told : Result T F) (P : Type 0) → is_ok told ≡ is_ok result → OnOk result P → OnOk told P
ok_as (Ok x) (Ok y) P same holds = holds
ok_as (Ok x) (Err e) P same holds = tt
ok_as (Err fault) (Ok y) P same holds = cc
ok_as (Err fault) (Err e) P same holds = tt

-- a batch that isn't too large is refused by the device alone
pub by_device : {F : Type 0} (result : Result (Unit {0}) BatchFault) (told : Result (Unit {0}) F) (before now : ℕ) → is_ok told ≡ is_ok result → ((n : ℕ) → IsErrOf result (TooMany n) → ⊥)
    → (IsErrOf result Failed → Rose before now) → OnOk result (now ≡ before) → before ≤ now → HasCause any_error before now told
by_device (Ok x) (Ok y) before now same few failed calm later = calm
by_device (Ok x) (Err e) before now same few failed calm later = cc
by_device (Err fault) (Ok y) before now same few failed calm later = cc
by_device (Err fault) (Err e) before now same few failed calm later = (later, only_failed fault (Rose before now) few failed)

-- a cache agrees with the image alone
same_image : (cache : BlkCache) (c d : Contents) → c Image ≡ d Image → Agrees cache c → Agrees cache d
same_image cache c d same agrees = subst (λ (image : Blocks). (at : ℕ) → IfSome (kept cache at) (λ bytes. image at ≡ bytes)) same agrees

-- a cache that was told of the batch agrees with the image that has it
pub agrees_after : (old new : BlkCache) (ps : Batch) (told now : Option Contents) → Becomes told now (HoldsBatch ps) → IfSome told (Agrees old)
    → ((c : Contents) → Agrees old c → Agrees new (put_homes ps c)) → IfSome now (Agrees new)
agrees_after old new ps told now holds agreed noted =
    then_told told now (HoldsBatch ps) (Agrees new) holds
    (λ m n is image. same_image new (put_homes ps m) n (homes_image ps m ∙ sym image) (noted m (as_told told (Agrees old) m is agreed)))

-- one step after another, each by what the contents are before it
pub then_done : {T E : Type 0} (result : Result T E) (told now last : Option Contents) (Before Between : Contents → Type 0) (First Second Both : Contents → Contents → Type 0)
    → (IfSome told Before → Becomes told now First) → (IfSome now Between → OnOk result (Becomes now last Second))
    → ((m n : Contents) → First m n → Between n × ((o : Contents) → Second n o → Both m o)) → IfSome told Before → OnOk result (Becomes told last Both)
then_done (Err e) told now last Before Between First Second Both first second so before = tt
then_done (Ok x) None None None Before Between First Second Both first second so before = tt
then_done (Ok x) None None (Some o) Before Between First Second Both first second so before = second tt
then_done (Ok x) None (Some n) last Before Between First Second Both first second so before = absurd (first tt)
then_done (Ok x) (Some m) None last Before Between First Second Both first second so before = absurd (first before)
then_done (Ok x) (Some m) (Some n) None Before Between First Second Both first second so before = second (so m n (first before)).0
then_done (Ok x) (Some m) (Some n) (Some o) Before Between First Second Both first second so before = let next = so m n (first before) in next.1 o (second next.0)

module _ {D : Type 0} (clock : D → ℕ) (held_since : D → ℕ → Contents → Type 0) where
  pub leaves_too : (old new : D) (told : Option Contents) (Before : Contents → Type 0) (P Q : Contents → Contents → Type 0)
      → IfSome told (λ m. Before m → LeavesOnly clock held_since old new (P m)) → ((m c : Contents) → P m c → Q m c) → IfSome told (λ m. Before m → LeavesOnly clock held_since old new (Q m))
  leaves_too old new told Before P Q run so =
      where_told told (λ m is before. weaken clock held_since old new (P m) (Q m) (as_told told (λ x. Before x → LeavesOnly clock held_since old new (P x)) m is run before) (so m))

  pub then_leaves : (old mid new : D) (told now : Option Contents) (Before Between : Contents → Type 0) (First P Q : Contents → Contents → Type 0)
      → IfSome told (λ m. Before m → LeavesOnly clock held_since old mid (P m)) → (IfSome told Before → Becomes told now First)
      → IfSome now (λ n. Between n → LeavesOnly clock held_since mid new (Q n)) → ((m n : Contents) → First m n → Between n × ((c : Contents) → Q n c → P m c))
      → IfSome told (λ m. Before m → LeavesOnly clock held_since old new (P m))
  then_leaves old mid new told now Before Between First P Q first becomes second so =
      where_told told (λ m is before.
      let step = as_becomes told now First m is (becomes (subst (λ (o : Option Contents). IfSome o Before) (sym is) before)) in
      let n = step.0 in
      let next = so m n step.2 in
      chain clock held_since old mid new (P m) (as_told told (λ x. Before x → LeavesOnly clock held_since old mid (P x)) m is first before)
      (weaken clock held_since mid new (Q n) (P m) (as_told now (λ x. Between x → LeavesOnly clock held_since mid new (Q x)) n step.1 second next.0) next.1))

pub no_block : (xs : List (ℕ × Block)) → true ≡ nat_eq (length xs) 0 → 0 < length xs → ⊥
no_block xs none some = let no : length xs ≡ 0 = eqb-true (length xs) 0 (sym none) in omega (arith, no, some)

-- a batch without blocks ends where it began
pub still : (K : ℕ → Bool) (may_hold : Contents → Type 0) (xs : List (ℕ × Block)) (told : Option Contents) → true ≡ nat_eq (length xs) 0 → IfSome told (AtRestBut K may_hold)
    → Becomes told told (λ m. EndsBut K (with_batch (bytes_of xs) (m Image)) may_hold)
still K may_hold [] None none rest = tt
still K may_hold [] (Some m) none rest = record { image = refl; rest = rest }
still K may_hold (x ∷ xs) told none rest = absurd (no_block (x ∷ xs) none (omega arith))

pub ended_but : (K : ℕ → Bool) (may_hold : Contents → Type 0) (F : Blocks → Blocks) (told now : Option Contents) → Becomes told now (λ m. Ends (F (m Image)) may_hold) → Becomes told now (λ m. EndsBut K (F (m Image)) may_hold)
ended_but K may_hold F None None ends = tt
ended_but K may_hold F None (Some n) ends = ends
ended_but K may_hold F (Some m) None ends = ends
ended_but K may_hold F (Some m) (Some n) ends = ends_but K (F (m Image)) may_hold n ends
