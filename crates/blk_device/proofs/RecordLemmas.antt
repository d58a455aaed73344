-- A record with one call more, or as it was.
use Rattle.std.proofs.Common.{◌≡◌, ℕ, Bool, true, false, List, [], ◌∷◌, ◌++◌, length, reverse, if◌then◌else◌, Some, Result, Ok, Err, is_ok, OnOk, OnErr, ⊎_elim, inl, inr, refl, sym, ap, subst, ◌∙◌, arith}
use Rattle.std.proofs.lemmas.List.{reverse-append}
use Rattle.std.specs.BTreeMap.{BTreeMap}
use Rattle.byte_fields.specs.declared.block.Block.{Block}
use Rattle.blk_device.specs.Calls.{seen_after, settle, LeavesSettled, MayHold, MayHaveHeld, fewer, put_aside, settled_all}
use Rattle.blk_device.specs.Contents.{Contents, InDoubt, put, same_region}
use Rattle.blk_device.specs.Crash.{Elapses, Follows, NoMore, IsDurable, KeepsOther, LeavesAny}
use Rattle.blk_device.specs.Recorded.{Adds, Stays, seen, left_now, left_since, moment}
use Rattle.blk_device.specs.Stored.{with_stored}
use Rattle.blk_device.specs.declared.device.Region.{Region}
use Rattle.blk_device.specs.declared.device.Region.TheVariants.{Image}
use Rattle.blk_device.specs.declared.record.Call.{Call}
use Rattle.blk_device.specs.declared.record.Call.TheVariants.{Wrote, Doubted, Synced}
use Rattle.blk_device.specs.declared.record.Record.{Record}

abbrev grown : Bool → Call → List Call → List Call
grown kept call calls = if kept then call ∷ calls else calls

reversed : (kept : Bool) (call : Call) (calls : List Call) → reverse (if kept then calls ++ call ∷ [] else calls) ≡ grown kept call (reverse calls)
reversed true call calls = reverse-append calls (call ∷ [])
reversed false call calls = refl

-- what holds of the old base and the calls with one more holds of the new record
along : (P : BTreeMap ℕ Block → List Call → Type 0) (kept : Bool) (call : Call) (old new : Record) → Adds kept call old new → P old.base (grown kept call (reverse old.calls.items)) → P new.base (reverse new.calls.items)
along P kept call old new (base, items) holds =
    subst (λ (b : BTreeMap ℕ Block). P b (reverse new.calls.items)) (sym base) (subst (P old.base) (sym (ap reverse items ∙ reversed kept call old.calls.items)) holds)

time_after : (kept : Bool) (call : Call) (first : Contents) (calls : List Call) → Elapses (length calls) (length (grown kept call calls)) (MayHaveHeld first calls) (MayHaveHeld first (grown kept call calls)) (MayHold first (grown kept call calls))
time_after true call first calls = record {
  later = omega arith;
  nothing_else = λ t c le since. ⊎_elim (λ now. inr now) (λ past. inl past.1) since;
  keeps = λ t c le past. inr (le, past);
}
time_after false call first calls = record {
  later = omega arith;
  nothing_else = λ t c le since. inl since;
  keeps = λ t c le past. past;
}

pub added_time : (kept : Bool) (call : Call) (old new : Record) → Adds kept call old new → Elapses (moment old) (moment new) (left_since old) (left_since new) (left_now new)
added_time kept call old new adds =
    along (λ b calls. Elapses (moment old) (length calls) (left_since old) (MayHaveHeld (with_stored b) calls) (MayHold (with_stored b) calls)) kept call old new adds (time_after kept call (with_stored old.base) (reverse old.calls.items))

-- a call that adds nothing
pub stays_time : (old new : Record) → Stays old new → Elapses (moment old) (moment new) (left_since old) (left_since new) (left_now new)
stays_time old new stays = added_time false (Synced Image) old new stays

pub stays_seen : (old new : Record) → Stays old new → seen new ≡ seen old
stays_seen old new stays = along (λ b calls. seen_after (with_stored b) calls ≡ seen old) false (Synced Image) old new stays refl

pub stays_crash : (old new : Record) → Stays old new → NoMore (left_now old) (left_now new)
stays_crash old new stays = along (λ b calls. NoMore (left_now old) (MayHold (with_stored b) calls)) false (Synced Image) old new stays (λ c now. now)

pub stays_follows : (r : Region) (at : ℕ) (old new : Record) → Stays old new → Follows (InDoubt r at) (left_now old) (left_now new)
stays_follows r at old new stays = along (λ b calls. Follows (InDoubt r at) (left_now old) (MayHold (with_stored b) calls)) false (Synced Image) old new stays (λ c now. (c, now, λ s b out. refl))

-- the same record adds nothing
pub is_same : (old new : Record) → new ≡ old → Stays old new
is_same old new same = (ap (λ (r : Record). r.base) same, ap (λ (r : Record). r.calls.items) same)

-- two calls that add nothing
pub stay_both : (old mid new : Record) → Stays old mid → Stays mid new → Stays old new
stay_both old mid new first second = (second.0 ∙ first.0, second.1 ∙ first.1)

crash_after_write : (kept : Bool) (r : Region) (at : ℕ) (block : Block) (first : Contents) (calls : List Call) → Follows (InDoubt r at) (MayHold first calls) (MayHold first (grown kept (Wrote r at block) calls))
crash_after_write true r at block first calls = λ c now. now
crash_after_write false r at block first calls = λ c now. (c, now, λ s b out. refl)

pub write_crash : (kept : Bool) (r : Region) (at : ℕ) (block : Block) (old new : Record) → Adds kept (Wrote r at block) old new → Follows (InDoubt r at) (left_now old) (left_now new)
write_crash kept r at block old new adds =
    along (λ b calls. Follows (InDoubt r at) (left_now old) (MayHold (with_stored b) calls)) kept (Wrote r at block) old new adds (crash_after_write kept r at block (with_stored old.base) (reverse old.calls.items))

doubt_after_write : (kept : Bool) (r : Region) (at : ℕ) (block : Block) (first : Contents) (calls : List Call) → InDoubt r at (seen_after first calls) (seen_after first (grown kept (Wrote r at block) calls))
doubt_after_write true r at block first calls = put_aside r at block.bytes (seen_after first calls)
doubt_after_write false r at block first calls = λ s b out. refl

pub write_doubt : (kept : Bool) (r : Region) (at : ℕ) (block : Block) (old new : Record) → Adds kept (Wrote r at block) old new → InDoubt r at (seen old) (seen new)
write_doubt kept r at block old new adds =
    along (λ b calls. InDoubt r at (seen old) (seen_after (with_stored b) calls)) kept (Wrote r at block) old new adds (doubt_after_write kept r at block (with_stored old.base) (reverse old.calls.items))

pub write_seen : (r : Region) (at : ℕ) (block : Block) (old new : Record) → Adds true (Wrote r at block) old new → seen new ≡ put r at block.bytes (seen old)
write_seen r at block old new adds = along (λ b calls. seen_after (with_stored b) calls ≡ put r at block.bytes (seen old)) true (Wrote r at block) old new adds refl

pub failed_seen : (call : Call) (old new : Record) → Adds false call old new → seen new ≡ seen old
failed_seen call old new adds = along (λ b calls. seen_after (with_stored b) calls ≡ seen old) false call old new adds refl

seen_after_sync : (kept : Bool) (r : Region) (first : Contents) (calls : List Call) → seen_after first (grown kept (Synced r) calls) ≡ seen_after first calls
seen_after_sync true r first calls = refl
seen_after_sync false r first calls = refl

pub sync_seen : (kept : Bool) (r : Region) (old new : Record) → Adds kept (Synced r) old new → seen new ≡ seen old
sync_seen kept r old new adds = along (λ b calls. seen_after (with_stored b) calls ≡ seen old) kept (Synced r) old new adds (seen_after_sync kept r (with_stored old.base) (reverse old.calls.items))

crash_after_sync : (kept : Bool) (r : Region) (first : Contents) (calls : List Call) → NoMore (MayHold first calls) (MayHold first (grown kept (Synced r) calls))
crash_after_sync true r first calls = fewer first calls r
crash_after_sync false r first calls = λ c now. now

pub sync_crash : (kept : Bool) (r : Region) (old new : Record) → Adds kept (Synced r) old new → NoMore (left_now old) (left_now new)
sync_crash kept r old new adds =
    along (λ b calls. NoMore (left_now old) (MayHold (with_stored b) calls)) kept (Synced r) old new adds (crash_after_sync kept r (with_stored old.base) (reverse old.calls.items))

pub sync_durable : (r : Region) (old new : Record) → Adds true (Synced r) old new → IsDurable r (Some (seen old)) (left_now new)
sync_durable r old new adds =
    along (λ b calls. IsDurable r (Some (seen old)) (MayHold (with_stored b) calls)) true (Synced r) old new adds (settled_all r (with_stored old.base) (reverse old.calls.items))

-- after a call that left the record as it was
pub from_same : (kept : Bool) (call : Call) (old mid new : Record) → mid ≡ old → Adds kept call mid new → Adds kept call old new
from_same kept call old mid new same adds = subst (λ (r : Record). Adds kept call r new) same adds

pub write_told : {T E : Type 0} (result : Result T E) (kept : Bool) (r : Region) (at : ℕ) (block : Block) (old new : Record) → is_ok result ≡ kept → Adds kept (Wrote r at block) old new → OnOk result (Some (seen new) ≡ Some (put r at block.bytes (seen old)))
write_told (Ok x) kept r at block old new exact adds = ap (λ (c : Contents). Some c) (write_seen r at block old new (subst (λ (k : Bool). Adds k (Wrote r at block) old new) (sym exact) adds))
write_told (Err e) kept r at block old new exact adds = tt

pub write_refused : {T E : Type 0} (result : Result T E) (kept : Bool) (call : Call) (old new : Record) → is_ok result ≡ kept → Adds kept call old new → OnErr result (seen new ≡ seen old)
write_refused (Ok x) kept call old new exact adds = tt
write_refused (Err e) kept call old new exact adds = failed_seen call old new (subst (λ (k : Bool). Adds k call old new) (sym exact) adds)

pub sync_told : {T E : Type 0} (result : Result T E) (kept : Bool) (r : Region) (old new : Record) → is_ok result ≡ kept → Adds kept (Synced r) old new → OnOk result (IsDurable r (Some (seen old)) (left_now new))
sync_told (Ok x) kept r old new exact adds = sync_durable r old new (subst (λ (k : Bool). Adds k (Synced r) old new) (sym exact) adds)
sync_told (Err e) kept r old new exact adds = tt

-- from a record that stayed as it was, back to the one before
pub from_stayed : (P : BTreeMap ℕ Block → List Call → Type 0) (old mid : Record) → Stays old mid → P mid.base (reverse mid.calls.items) → P old.base (reverse old.calls.items)
from_stayed P old mid (base, items) holds = along P false (Synced Image) mid old (sym base, sym items) holds

pub stayed_time : (old mid new : Record) → Stays old mid → Elapses (moment mid) (moment new) (left_since mid) (left_since new) (left_now new) → Elapses (moment old) (moment new) (left_since old) (left_since new) (left_now new)
stayed_time old mid new stays time =
    from_stayed (λ b calls. Elapses (length calls) (moment new) (MayHaveHeld (with_stored b) calls) (left_since new) (left_now new)) old mid stays time

pub stayed_follows : (r : Region) (at : ℕ) (old mid new : Record) → Stays old mid → Follows (InDoubt r at) (left_now mid) (left_now new) → Follows (InDoubt r at) (left_now old) (left_now new)
stayed_follows r at old mid new stays crash = from_stayed (λ b calls. Follows (InDoubt r at) (MayHold (with_stored b) calls) (left_now new)) old mid stays crash

pub stayed_any : (r : Region) (at : ℕ) (old mid new : Record) → Stays old mid → LeavesAny r at (left_now mid) (left_now new) → LeavesAny r at (left_now old) (left_now new)
stayed_any r at old mid new stays any = from_stayed (λ b calls. LeavesAny r at (MayHold (with_stored b) calls) (left_now new)) old mid stays any

-- a call that was done or not is one that stayed, where it wasn't
pub stays_at_err : {T E : Type 0} (result : Result T E) (call : Call) (old new : Record) (e : E) → result ≡ Err e → Adds (is_ok result) call old new → Stays old new
stays_at_err (Ok x) call old new e is adds = cc
stays_at_err (Err x) call old new e is adds = adds

crash_after_doubt : (kept : Bool) (r : Region) (at : ℕ) (block : Block) (first : Contents) (calls : List Call) → Follows (InDoubt r at) (MayHold first calls) (MayHold first (grown kept (Doubted r at block) calls))
crash_after_doubt true r at block first calls = λ c now. now
crash_after_doubt false r at block first calls = λ c now. (c, now, λ s b out. refl)

pub doubt_crash : (kept : Bool) (r : Region) (at : ℕ) (block : Block) (old new : Record) → Adds kept (Doubted r at block) old new → Follows (InDoubt r at) (left_now old) (left_now new)
doubt_crash kept r at block old new adds =
    along (λ b calls. Follows (InDoubt r at) (left_now old) (MayHold (with_stored b) calls)) kept (Doubted r at block) old new adds (crash_after_doubt kept r at block (with_stored old.base) (reverse old.calls.items))

seen_after_doubt : (kept : Bool) (r : Region) (at : ℕ) (block : Block) (first : Contents) (calls : List Call) → seen_after first (grown kept (Doubted r at block) calls) ≡ seen_after first calls
seen_after_doubt true r at block first calls = refl
seen_after_doubt false r at block first calls = refl

pub doubt_seen : (kept : Bool) (r : Region) (at : ℕ) (block : Block) (old new : Record) → Adds kept (Doubted r at block) old new → seen new ≡ seen old
doubt_seen kept r at block old new adds = along (λ b calls. seen_after (with_stored b) calls ≡ seen old) kept (Doubted r at block) old new adds (seen_after_doubt kept r at block (with_stored old.base) (reverse old.calls.items))

-- a doubt that was kept lets the block have any bytes
pub doubt_any : (kept : Bool) (r : Region) (at : ℕ) (block : Block) (old new : Record) → Adds kept (Doubted r at block) old new → kept ≡ true → LeavesAny r at (left_now old) (left_now new)
doubt_any true r at block old new adds is = along (λ b calls. LeavesAny r at (left_now old) (MayHold (with_stored b) calls)) true (Doubted r at block) old new adds (λ c bytes whole held. (c, held, put_aside r at bytes c))
doubt_any false r at block old new adds is = cc

pub write_any : (r : Region) (at : ℕ) (block : Block) (old new : Record) → Adds true (Wrote r at block) old new → LeavesAny r at (left_now old) (left_now new)
write_any r at block old new adds = along (λ b calls. LeavesAny r at (left_now old) (MayHold (with_stored b) calls)) true (Wrote r at block) old new adds (λ c bytes whole held. (c, held, put_aside r at bytes c))

pub write_any_at_ok : {T E : Type 0} (result : Result T E) (t : T) (r : Region) (at : ℕ) (block : Block) (old new : Record) → result ≡ Ok t → Adds (is_ok result) (Wrote r at block) old new → LeavesAny r at (left_now old) (left_now new)
write_any_at_ok (Ok x) t r at block old new is adds = write_any r at block old new adds
write_any_at_ok (Err x) t r at block old new is adds = cc

-- a record that stayed leaves what it left
pub stays_doubts : (old new : Record) → Stays old new → NoMore (left_now new) (left_now old)
stays_doubts old new stays = along (λ b calls. NoMore (MayHold (with_stored b) calls) (left_now old)) false (Synced Image) old new stays (λ c now. now)

pub failed_doubts : {T E : Type 0} (result : Result T E) (kept : Bool) (call : Call) (old new : Record) → is_ok result ≡ kept → Adds kept call old new → OnErr result (NoMore (left_now new) (left_now old))
failed_doubts (Ok x) kept call old new exact adds = tt
failed_doubts (Err e) kept call old new exact adds = stays_doubts old new (subst (λ (k : Bool). Adds k call old new) (sym exact) adds)

-- what isn't settled stays
unsettled : (t : Bool) (x y : List ℕ) → t ≡ false → (if t then x else y) ≡ y
unsettled true x y apart = cc
unsettled false x y apart = refl

other_after_sync : (kept : Bool) (r : Region) (first : Contents) (calls : List Call) → KeepsOther r (MayHold first calls) (MayHold first (grown kept (Synced r) calls))
other_after_sync true r first calls = λ c held. (settle r (seen_after first calls) c, (c, held, λ s b. refl), λ s apart b. unsettled (same_region s r) (seen_after first calls s b) (c s b) apart)
other_after_sync false r first calls = λ c held. (c, held, λ s apart b. refl)

pub sync_other : (kept : Bool) (r : Region) (old new : Record) → Adds kept (Synced r) old new → KeepsOther r (left_now old) (left_now new)
sync_other kept r old new adds =
    along (λ b calls. KeepsOther r (left_now old) (MayHold (with_stored b) calls)) kept (Synced r) old new adds (other_after_sync kept r (with_stored old.base) (reverse old.calls.items))

pub stays_other : (r : Region) (old new : Record) → Stays old new → KeepsOther r (left_now old) (left_now new)
stays_other r old new stays = along (λ b calls. KeepsOther r (left_now old) (MayHold (with_stored b) calls)) false (Synced Image) old new stays (λ c held. (c, held, λ s apart b. refl))

sync_settles : (r : Region) (old new : Record) → Adds true (Synced r) old new → LeavesSettled r (seen old) (left_now old) (left_now new)
sync_settles r old new adds = along (λ b calls. LeavesSettled r (seen old) (left_now old) (MayHold (with_stored b) calls)) true (Synced r) old new adds (λ c held. (c, held, λ s b. refl))

pub sync_settled : {T E : Type 0} (result : Result T E) (kept : Bool) (r : Region) (old new : Record) → is_ok result ≡ kept → Adds kept (Synced r) old new → OnOk result (LeavesSettled r (seen old) (left_now old) (left_now new))
sync_settled (Ok x) kept r old new exact adds = sync_settles r old new (subst (λ (k : Bool). Adds k (Synced r) old new) (sym exact) adds)
sync_settled (Err e) kept r old new exact adds = tt
