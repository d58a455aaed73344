-- What a crash leaves of a record, call by call.
use Rattle.std.proofs.Common.{◌≡◌, ℕ, ◌<◌, ◌≤◌, ◌+◌, Bool, true, false, List, [], ◌∷◌, ◌||◌, ◌==◌, length, take, drop, get_or, reverse, if◌then◌else◌, refl, sym, ap, subst, ◌∙◌, arith, add-one}
use Rattle.std.proofs.Math.Seq.{drop-cons}
use Rattle.std.proofs.lemmas.Bool.{eqb-true}
use Rattle.std.proofs.lemmas.List.{reverse-append, length-reverse, length-take-le, take_more, take_all, drop_all}
use Rattle.byte_fields.specs.declared.block.Block.{Block}
use Rattle.blk_device.specs.Calls.{seen_after, MayHold, put_aside}
use Rattle.blk_device.specs.Contents.{Contents, same_region}
use Rattle.blk_device.specs.Replay.{choice_of, outcome, replayed, left_by, synced_in, left_of}
use Rattle.blk_device.specs.declared.device.Region.{Region}
use Rattle.blk_device.specs.declared.device.Region.TheVariants.{Image, Redo}
use Rattle.blk_device.specs.declared.record.Call.{Call}
use Rattle.blk_device.specs.declared.record.Call.TheVariants.{Wrote, Doubted, Synced}
use Rattle.blk_device.specs.declared.unsynced.Unsynced.{Unsynced}
use Rattle.blk_device.specs.declared.unsynced.Unsynced.TheVariants.{Absent, Present}

-- what a crash leaves is one of what it may leave
pub left_may : (choices : List Unsynced) (first : Contents) (calls : List Call) → MayHold first calls (left_by choices first calls)
left_may choices first [] = refl
left_may choices first (Wrote r at block ∷ earlier) = (left_by choices first earlier, left_may choices first earlier, put_aside r at (outcome (choice_of choices (length earlier)) block.bytes (left_by choices first earlier r at)) (left_by choices first earlier))
left_may choices first (Doubted r at block ∷ earlier) = (left_by choices first earlier, left_may choices first earlier, put_aside r at (outcome (choice_of choices (length earlier)) block.bytes (left_by choices first earlier r at)) (left_by choices first earlier))
left_may choices first (Synced r ∷ earlier) = (left_by choices first earlier, left_may choices first earlier, λ s b. refl)

-- after some calls, the newest first, and before the rest: a region that is still synced is as it is read
abbrev pub mixed : List Unsynced → Contents → List Call → List Call → Contents
mixed choices first earlier rest s b = if synced_in s rest then seen_after first earlier s b else left_by choices first earlier s b

abbrev pub between : List Unsynced → Contents → List Call → List Call → Contents
between choices first done rest = mixed choices first (reverse done) rest

same_region_step : (x hit : Bool) (choice : Unsynced) (bytes seen_at left_at seen_b left_b : List ℕ)
    → (if hit then outcome (if x then Present else choice) bytes (if x then seen_at else left_at) else (if x then seen_b else left_b)) ≡ (if x then (if hit then bytes else seen_b) else (if hit then outcome choice bytes left_at else left_b))
same_region_step true hit choice bytes seen_at left_at seen_b left_b = refl
same_region_step false hit choice bytes seen_at left_at seen_b left_b = refl

wrote_step : (choices : List Unsynced) (first : Contents) (earlier rest : List Call) (r : Region) (at : ℕ) (block : Block) (s : Region) (b : ℕ)
    → replayed (left_of (Wrote r at block) rest (choice_of choices (length earlier))) (Wrote r at block) (mixed choices first earlier (Wrote r at block ∷ rest)) s b ≡ mixed choices first (Wrote r at block ∷ earlier) rest s b
wrote_step choices first earlier rest Image at block Image b = same_region_step (synced_in Image rest) (b == at) (choice_of choices (length earlier)) block.bytes _ _ _ _
wrote_step choices first earlier rest Image at block Redo b = refl
wrote_step choices first earlier rest Redo at block Image b = refl
wrote_step choices first earlier rest Redo at block Redo b = same_region_step (synced_in Redo rest) (b == at) (choice_of choices (length earlier)) block.bytes _ _ _ _

own : (hit : Bool) (x y : List ℕ) → (hit ≡ true → x ≡ y) → (if hit then x else y) ≡ y
own true x y same = same refl
own false x y same = refl

failed_step : (x hit : Bool) (choice : Unsynced) (bytes seen_at left_at seen_b left_b : List ℕ) → (hit ≡ true → seen_at ≡ seen_b)
    → (if hit then outcome (if x then Absent else choice) bytes (if x then seen_at else left_at) else (if x then seen_b else left_b)) ≡ (if x then seen_b else (if hit then outcome choice bytes left_at else left_b))
failed_step true hit choice bytes seen_at left_at seen_b left_b same = own hit seen_at seen_b same
failed_step false hit choice bytes seen_at left_at seen_b left_b same = refl

doubted_step : (choices : List Unsynced) (first : Contents) (earlier rest : List Call) (r : Region) (at : ℕ) (block : Block) (s : Region) (b : ℕ)
    → replayed (left_of (Doubted r at block) rest (choice_of choices (length earlier))) (Doubted r at block) (mixed choices first earlier (Doubted r at block ∷ rest)) s b ≡ mixed choices first (Doubted r at block ∷ earlier) rest s b
doubted_step choices first earlier rest Image at block Image b =
    failed_step (synced_in Image rest) (b == at) (choice_of choices (length earlier)) block.bytes _ _ _ _ (λ e. ap (seen_after first earlier Image) (sym (eqb-true b at e)))
doubted_step choices first earlier rest Image at block Redo b = refl
doubted_step choices first earlier rest Redo at block Image b = refl
doubted_step choices first earlier rest Redo at block Redo b =
    failed_step (synced_in Redo rest) (b == at) (choice_of choices (length earlier)) block.bytes _ _ _ _ (λ e. ap (seen_after first earlier Redo) (sym (eqb-true b at e)))

settled_step : (x y : Bool) (read left : List ℕ) → (if x || y then read else left) ≡ (if y then read else (if x then read else left))
settled_step true true read left = refl
settled_step true false read left = refl
settled_step false true read left = refl
settled_step false false read left = refl

-- one call more
mixed_step : (choices : List Unsynced) (first : Contents) (earlier rest : List Call) (call : Call) (s : Region) (b : ℕ)
    → replayed (left_of call rest (choice_of choices (length earlier))) call (mixed choices first earlier (call ∷ rest)) s b ≡ mixed choices first (call ∷ earlier) rest s b
mixed_step choices first earlier rest (Wrote r at block) s b = wrote_step choices first earlier rest r at block s b
mixed_step choices first earlier rest (Doubted r at block) s b = doubted_step choices first earlier rest r at block s b
mixed_step choices first earlier rest (Synced r) s b = settled_step (same_region s r) (synced_in s rest) _ _

from_front : (calls : List Call) (i : ℕ) (call : Call) → i < length calls → call ≡ get_or calls i call → drop i calls ≡ call ∷ drop (i + 1) calls
from_front calls i call within is = drop-cons calls i call within ∙ (rw (add-one, ← is) refl)

to_end : (calls : List Call) (i : ℕ) (call : Call) → i < length calls → call ≡ get_or calls i call → reverse (take (i + 1) calls) ≡ call ∷ reverse (take i calls)
to_end calls i call within is = ap reverse (take_more calls i call within) ∙ reverse-append (take i calls) (get_or calls i call ∷ []) ∙ ap (λ (x : Call). x ∷ reverse (take i calls)) (sym is)

done_before : (calls : List Call) (i : ℕ) → i < length calls → length (reverse (take i calls)) ≡ i
done_before calls i within = length-reverse (take i calls) ∙ length-take-le i calls (omega arith)

pub next_call : (choices : List Unsynced) (first : Contents) (calls : List Call) (i : ℕ) (call : Call) (now new : Contents) → i < length calls → call ≡ get_or calls i call
    → ((s : Region) (b : ℕ) → now s b ≡ between choices first (take i calls) (drop i calls) s b)
    → ((s : Region) (b : ℕ) → new s b ≡ replayed (left_of call (drop (i + 1) calls) (choice_of choices i)) call now s b)
    → (s : Region) (b : ℕ) → new s b ≡ between choices first (take (i + 1) calls) (drop (i + 1) calls) s b
next_call choices first calls i call now new within is before after s b =
    let earlier = reverse (take i calls) in
    let rest = drop (i + 1) calls in
    let same : now ≡ mixed choices first earlier (call ∷ rest) = subst (λ (xs : List Call). now ≡ mixed choices first earlier xs) (from_front calls i call within is) (λ j r k. before r k j) in
    let here : new s b ≡ replayed (left_of call rest (choice_of choices (length earlier))) call now s b = subst (λ (n : ℕ). new s b ≡ replayed (left_of call rest (choice_of choices n)) call now s b) (sym (done_before calls i within)) (after s b) in
    let there : new s b ≡ replayed (left_of call rest (choice_of choices (length earlier))) call (mixed choices first earlier (call ∷ rest)) s b =
    subst (λ (c : Contents). new s b ≡ replayed (left_of call rest (choice_of choices (length earlier))) call c s b) same here in
    subst (λ (xs : List Call). new s b ≡ mixed choices first xs rest s b) (sym (to_end calls i call within is)) (there ∙ mixed_step choices first earlier rest call s b)

pub all_calls : (choices : List Unsynced) (first : Contents) (calls : List Call) (i : ℕ) (now : Contents) → length calls ≤ i
    → ((s : Region) (b : ℕ) → now s b ≡ between choices first (take i calls) (drop i calls) s b) → now ≡ left_by choices first (reverse calls)
all_calls choices first calls i now past at =
    let none : now ≡ between choices first (take i calls) [] = subst (λ (xs : List Call). now ≡ between choices first (take i calls) xs) (drop_all i calls past) (λ j r k. at r k j) in
    subst (λ (xs : List Call). now ≡ left_by choices first (reverse xs)) (take_all i calls past) none
