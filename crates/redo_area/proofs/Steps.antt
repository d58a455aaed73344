-- What each step of a commit leaves, during it and at its end.
use Rattle.std.proofs.Common.{◌≡◌, Bool, true, false, ◌≤◌, ◌⊎◌, ⊎_elim, ℕ, zero, suc, ◌+◌, List, ◌∷◌, Option, Some, None, IfSome, subst, sym, Result, Ok, Err, OnOk, refl, ◌∙◌, ap, arith}
use Rattle.std.specs.Prelude.{if◌then◌else◌}
use Rattle.blk_device.specs.declared.device.Region.{Region}
use Rattle.blk_device.specs.declared.device.Region.TheVariants.{Image, Redo}
use Rattle.blk_device.specs.Contents.{Contents, put, map_told, Becomes, Holds}
use Rattle.blk_device.specs.Crash.{LeavesOnly, Reached, IsDurable}
use Rattle.blk_device.proofs.Moments.{weaken}
use Rattle.blk_device.proofs.Told.{where_told, as_told, becomes_by}
use Rattle.redo_area.specs.Table.{table_fault, table_numbers}
use Rattle.redo_area.specs.Area.{Batch, waiting_batch, with_batch, after_crash, put_waiting, homes_of, with_copies, after_recovery, closed_over, BehindGate, AllButGate, AllButHomes}
use Rattle.blk_device.specs.Causes.{one_more}
use Rattle.redo_area.specs.Counts.{raised, RaisedUpTo}
use Rattle.redo_area.specs.Recover.{IsFound, IsSeen}
use Rattle.redo_area.specs.Stages.{AtRest, AtRestBut, IsInstalled, IsInstalledBut, IsReady, IsReadyBut, IsWaiting, IsWaitingBut, StandsFor, StandsForBut}
use Rattle.redo_area.proofs.AreaLaws.{after_open, homes_of_copies, behind_law, gate_law, homes_law, behind_but, gate_but, homes_but}

-- a change that is done and durable in its region has what follows from both
pub ended : {T E : Type 0} (result : Result T E) (told now : Option Contents) (new : Contents → Type 0) (change : Contents → Contents) (r : Region) (P : Contents → Type 0) (Q : Contents → Contents → Type 0)
    → OnOk result (now ≡ map_told change told) → OnOk result (IsDurable r now new) → IfSome told P
    → ((m : Contents) → P m → ((c : Contents) → new c → (b : ℕ) → c r b ≡ change m r b) → Q m (change m)) → OnOk result (Becomes told now Q)
ended (Ok x) told now new change r P Q is durable before so =
    becomes_by change told now Q is (λ m e.
    so m (as_told told P m e before) (as_told now (λ n. (c : Contents) → new c → (b : ℕ) → c r b ≡ n r b) (change m) (is ∙ ap (map_told change) e) durable))
ended (Err x) told now new change r P Q is durable before so = tt

module _ {D : Type 0} (clock : D → ℕ) (held_since : D → ℕ → Contents → Type 0) (may_hold : D → Contents → Type 0) (size : ℕ) (old new : D) (told : Option Contents) where
  pub while_behind : LeavesOnly clock held_since old new (Reached BehindGate (may_hold old)) → IfSome told (λ m. AtRest (may_hold old) m → LeavesOnly clock held_since old new (StandsFor size (m Image)))
  while_behind run =
      where_told told (λ m is rest. weaken clock held_since old new (Reached BehindGate (may_hold old)) (StandsFor size (m Image)) run (behind_law size (may_hold old) m rest.quiet rest.shut))

  pub while_gate : (ps : Batch) → LeavesOnly clock held_since old new (Reached AllButGate (may_hold old))
      → IfSome told (λ m. IsReady size ps (may_hold old) m → LeavesOnly clock held_since old new (λ c. StandsFor size (m Image) c ⊎ StandsFor size (with_batch ps (m Image)) c))
  while_gate ps run =
      where_told told (λ m is ready.
      weaken clock held_since old new (Reached AllButGate (may_hold old)) (λ c. StandsFor size (m Image) c ⊎ StandsFor size (with_batch ps (m Image)) c) run
      (λ c from. subst (λ (l : Batch). StandsFor size (m Image) c ⊎ StandsFor size (with_batch l (m Image)) c) ready.stands (gate_law size (may_hold old) m ready.quiet ready.sound c from)))

  pub while_homes : (ps : Batch) → LeavesOnly clock held_since old new (Reached (AllButHomes (homes_of ps)) (may_hold old)) → IfSome told (λ m. IsWaiting size ps (may_hold old) m → LeavesOnly clock held_since old new (StandsFor size (with_batch ps (m Image))))
  while_homes ps run =
      where_told told (λ m is waits.
      weaken clock held_since old new (Reached (AllButHomes (homes_of ps)) (may_hold old)) (StandsFor size (with_batch ps (m Image))) run
      (homes_law size (may_hold old) m waits.ready.quiet ps waits.opened waits.ready.stands waits.ready.sound))

  pub while_closing : LeavesOnly clock held_since old new (Reached AllButGate (may_hold old)) → IfSome told (λ m. IsInstalled size (may_hold old) m → LeavesOnly clock held_since old new (StandsFor size (m Image)))
  while_closing run =
      where_told told (λ m is done.
      weaken clock held_since old new (Reached AllButGate (may_hold old)) (StandsFor size (m Image)) run
      (λ c from. ⊎_elim (λ was. was) (λ with_it. record { image = with_it.image ∙ done.same; sound = with_it.sound }) (gate_law size (may_hold old) m done.quiet done.sound c from)))

  -- the same but for the blocks in K
  pub while_behind_but : (K : ℕ → Bool) → LeavesOnly clock held_since old new (Reached BehindGate (may_hold old)) → IfSome told (λ m. AtRestBut K (may_hold old) m → LeavesOnly clock held_since old new (StandsForBut K size (m Image)))
  while_behind_but K run =
      where_told told (λ m is rest. weaken clock held_since old new (Reached BehindGate (may_hold old)) (StandsForBut K size (m Image)) run (behind_but K size (may_hold old) m rest.quiet rest.shut))

  pub while_gate_but : (K : ℕ → Bool) (ps : Batch) → LeavesOnly clock held_since old new (Reached AllButGate (may_hold old))
      → IfSome told (λ m. IsReadyBut K size ps (may_hold old) m → LeavesOnly clock held_since old new (λ c. StandsForBut K size (m Image) c ⊎ StandsForBut K size (with_batch ps (m Image)) c))
  while_gate_but K ps run =
      where_told told (λ m is ready.
      weaken clock held_since old new (Reached AllButGate (may_hold old)) (λ c. StandsForBut K size (m Image) c ⊎ StandsForBut K size (with_batch ps (m Image)) c) run
      (λ c from. subst (λ (l : Batch). StandsForBut K size (m Image) c ⊎ StandsForBut K size (with_batch l (m Image)) c) ready.stands (gate_but K size (may_hold old) m ready.quiet ready.sound c from)))

  pub while_homes_but : (K : ℕ → Bool) (ps : Batch) → LeavesOnly clock held_since old new (Reached (AllButHomes (homes_of ps)) (may_hold old))
      → IfSome told (λ m. IsWaitingBut K size ps (may_hold old) m → LeavesOnly clock held_since old new (StandsForBut K size (with_batch ps (m Image))))
  while_homes_but K ps run =
      where_told told (λ m is waits.
      weaken clock held_since old new (Reached (AllButHomes (homes_of ps)) (may_hold old)) (StandsForBut K size (with_batch ps (m Image))) run
      (homes_but K size (may_hold old) m waits.ready.quiet ps waits.opened waits.ready.stands waits.ready.sound))

  pub while_closing_but : (K : ℕ → Bool) → LeavesOnly clock held_since old new (Reached AllButGate (may_hold old)) → IfSome told (λ m. IsInstalledBut K size (may_hold old) m → LeavesOnly clock held_since old new (StandsForBut K size (m Image)))
  while_closing_but K run =
      where_told told (λ m is done.
      weaken clock held_since old new (Reached AllButGate (may_hold old)) (StandsForBut K size (m Image)) run
      (λ c from. ⊎_elim (λ was. was) (λ with_it. record { image = λ b out. with_it.image b out ∙ done.same b out; sound = with_it.sound }) (gate_but K size (may_hold old) m done.quiet done.sound c from)))

  pub while_recovering : (bytes : List ℕ) → table_fault size bytes ≡ None → IfSome told (IsFound bytes (may_hold old)) → LeavesOnly clock held_since old new (Reached (AllButHomes (table_numbers bytes)) (may_hold old))
      → IfSome told (λ m. LeavesOnly clock held_since old new (StandsFor size (after_crash m)))
  while_recovering bytes none found run =
      where_told told (λ m is.
      let s = as_told told (IsFound bytes (may_hold old)) m is found in
      let ps = with_copies (m Redo) (table_numbers bytes) 2 in
      let stands : waiting_batch m ≡ ps = ap (λ (t : List ℕ). with_copies (m Redo) (table_numbers t) 2) s.table in
      let image : with_batch ps (m Image) ≡ after_crash m = ap (λ (l : Batch). with_batch l (m Image)) (sym stands) ∙ sym (after_open m s.opened) in
      weaken clock held_since old new (Reached (AllButHomes (table_numbers bytes)) (may_hold old)) (StandsFor size (after_crash m)) run
      (λ c from.
      let there = homes_law size (may_hold old) m s.quiet ps s.opened stands (ap (table_fault size) s.table ∙ none) c (subst (λ (ns : List ℕ). Reached (AllButHomes ns) (may_hold old) c) (sym (homes_of_copies (m Redo) (table_numbers bytes) 2)) from) in
      record { image = there.image ∙ image; sound = there.sound }))

-- one copy more at its place
pub copied : (n k : ℕ) (ns xs copy : List ℕ) (told : Option Contents) → xs ≡ n ∷ ns → Holds Redo k copy told → map_told (put_waiting ns (k + 1)) (map_told (put Image n copy) told) ≡ map_told (put_waiting xs k) told
copied n k ns xs copy None is holds = refl
copied n k ns xs copy (Some c) is holds =
    ap (λ (bytes : List ℕ). Some (put_waiting ns (k + 1) (put Image n bytes c))) (sym holds) ∙ ap (λ (l : List ℕ). Some (put_waiting l k c)) (sym is)

-- what holds whatever the answer
pub always : {T E P : Type 0} (result : Result T E) → P → OnOk result P
always (Ok x) p = p
always (Err e) p = tt

-- what a sync made durable is what is told after it
pub durable_now : {T E : Type 0} (result : Result T E) (r : Region) (mid now : Option Contents) (new : Contents → Type 0) → now ≡ mid → OnOk result (IsDurable r mid new) → OnOk result (IsDurable r now new)
durable_now result r mid now new same durable = subst (λ (o : Option Contents). OnOk result (IsDurable r o new)) (sym same) durable

-- one read more
pub raised_more : (first k before now : ℕ) → before ≡ raised first k → now ≡ one_more before → now ≡ raised first (k + 1)
raised_more first k before now is more = let next : suc k ≡ k + 1 = omega arith in subst (λ (n : ℕ). now ≡ raised first n) next (more ∙ ap one_more is)

raised_sum : (n j k : ℕ) → raised (raised n j) k ≡ raised n (j + k)
raised_sum n j zero = let same : j ≡ j + 0 = omega arith in ap (raised n) same
raised_sum n j (suc k) = let next : suc (j + k) ≡ j + suc k = omega arith in subst (λ (m : ℕ). raised (raised n j) (suc k) ≡ raised n m) next (ap one_more (raised_sum n j k))

-- reads after reads
pub raised_both : (first mid last j k : ℕ) → RaisedUpTo j first mid → RaisedUpTo k mid last → RaisedUpTo (j + k) first last
raised_both first mid last j k (a, le, is) (b, few, more) = (a + b, omega (arith, le, few), more ∙ ap (λ (n : ℕ). raised n b) is ∙ raised_sum first a b)

pub raised_less : (first last j k : ℕ) → j ≤ k → RaisedUpTo j first last → RaisedUpTo k first last
raised_less first last j k le (a, few, is) = (a, omega (arith, le, few), is)

pub not_raised : (first now k : ℕ) → now ≡ first → RaisedUpTo k first now
not_raised first now k same = (0, omega arith, same)

pub raised_once : (first before now : ℕ) → before ≡ first → now ≡ one_more before → RaisedUpTo 1 first now
raised_once first before now same more = (1, omega arith, more ∙ ap one_more same)

-- what a recovery makes of the contents, by what it saw
pub seen_open : (table : List ℕ) (told : Option Contents) → IfSome told (IsSeen true table) → map_told (closed_over table) told ≡ map_told after_recovery told
seen_open table None seen = refl
seen_open table (Some m) seen =
    ap (λ (t : List ℕ). Some (closed_over t m)) (sym (seen.table refl)) ∙ ap (λ (b : Bool). Some (if b then closed_over (m Redo 1) m else m)) seen.gate

pub seen_shut : (table : List ℕ) (told : Option Contents) → IfSome told (IsSeen false table) → told ≡ map_told after_recovery told
seen_shut table None seen = refl
seen_shut table (Some m) seen = ap (λ (b : Bool). Some (if b then closed_over (m Redo 1) m else m)) seen.gate
