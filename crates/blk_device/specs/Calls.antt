-- What a device in memory stands for, from its first content and its record of calls, the newest first.
use Rattle.std.specs.Prelude.{ℕ, Bool, true, false, List, [], ◌∷◌, length, ◌≡◌, ◌≤◌, ◌⊎◌, if◌then◌else◌, ◌==◌}
use Rattle.std.proofs.Common.{inl, inr, arith, refl, subst, sym, ◌∙◌}
use Rattle.std.proofs.lemmas.Bool.{eqb-true}
use Rattle.blk_device.specs.Contents.{Contents, InDoubt, put, same_region}
use Rattle.blk_device.specs.declared.device.Region.{Region}
use Rattle.blk_device.specs.declared.device.Region.TheVariants.{Image, Redo}
use Rattle.blk_device.specs.declared.record.Call.{Call}
use Rattle.blk_device.specs.declared.record.Call.TheVariants.{Wrote, Doubted, Synced}

-- what is read after these calls
abbrev pub seen_after : Contents → List Call → Contents
seen_after first [] = first
seen_after first (Wrote r at block ∷ earlier) = put r at block.bytes (seen_after first earlier)
seen_after first (Doubted r at block ∷ earlier) = seen_after first earlier
seen_after first (Synced r ∷ earlier) = seen_after first earlier

-- region r is as it is read, and the other as before
abbrev pub settle : Region → Contents → Contents → Contents
settle r read old s b = if same_region s r then read s b else old s b

abbrev pub Settles : Region → Contents → Contents → Contents → Type 0
Settles r read old new = (s : Region) (b : ℕ) → new s b ≡ settle r read old s b

-- each old outcome, with the region as it is read, is a new one
abbrev pub LeavesSettled : Region → Contents → (Contents → Type 0) → (Contents → Type 0) → Type 0
LeavesSettled r read old new = (c : Contents) → old c → new (settle r read c)

-- a crash after these calls may leave this: each block as it was last synced, or in doubt since a write that was done or failed
abbrev pub MayHold : Contents → List Call → Contents → Type 0
MayHold first [] c = c ≡ first
MayHold first (Wrote r at block ∷ earlier) c = (d : Contents) × MayHold first earlier d × InDoubt r at d c
MayHold first (Doubted r at block ∷ earlier) c = (d : Contents) × MayHold first earlier d × InDoubt r at d c
MayHold first (Synced r ∷ earlier) c = (d : Contents) × MayHold first earlier d × Settles r (seen_after first earlier) d c

-- at some moment since t
abbrev pub MayHaveHeld : Contents → List Call → ℕ → Contents → Type 0
MayHaveHeld first [] t c = MayHold first [] c
MayHaveHeld first (call ∷ earlier) t c = MayHold first (call ∷ earlier) c ⊎ ((t ≤ length earlier) × MayHaveHeld first earlier t c)

pub held_now : (first : Contents) (calls : List Call) (t : ℕ) (c : Contents) → MayHold first calls c → MayHaveHeld first calls t c
held_now first [] t c now = now
held_now first (call ∷ earlier) t c now = inl now

pub only_held : (first : Contents) (calls : List Call) (c : Contents) → MayHaveHeld first calls (length calls) c → MayHold first calls c
only_held first [] c held = held
only_held first (call ∷ earlier) c (inl now) = now
only_held first (call ∷ earlier) c (inr past) = absurd (omega (arith, past.0))

either : (t : Bool) (x y : List ℕ) → (t ≡ true → x ≡ y) → (if t then x else y) ≡ y
either true x y h = h refl
either false x y h = refl

aside : (t : Bool) (x y : List ℕ) → (t ≡ true → ⊥) → (if t then x else y) ≡ y
aside true x y h = absurd (h refl)
aside false x y h = refl

pub put_aside : (r : Region) (at : ℕ) (bytes : List ℕ) (c : Contents) → InDoubt r at c (put r at bytes c)
put_aside Image at bytes c Image b out = aside (b == at) bytes (c Image b) (λ e. out (refl, eqb-true b at e))
put_aside Image at bytes c Redo b out = refl
put_aside Redo at bytes c Image b out = refl
put_aside Redo at bytes c Redo b out = aside (b == at) bytes (c Redo b) (λ e. out (refl, eqb-true b at e))

-- to settle what is read changes nothing
settle_same : (r : Region) (c : Contents) → Settles r c c c
settle_same r c s b = sym (either (same_region s r) (c s b) (c s b) (λ e. refl))

-- what is read is one of what a crash may leave
pub seen_now : (first : Contents) (calls : List Call) → MayHold first calls (seen_after first calls)
seen_now first [] = refl
seen_now first (Wrote r at block ∷ earlier) = (seen_after first earlier, seen_now first earlier, put_aside r at block.bytes (seen_after first earlier))
seen_now first (Doubted r at block ∷ earlier) = (seen_after first earlier, seen_now first earlier, λ s b out. refl)
seen_now first (Synced r ∷ earlier) = (seen_after first earlier, seen_now first earlier, settle_same r (seen_after first earlier))

both : (t : Bool) (x y u v : List ℕ) → x ≡ u → y ≡ v → (if t then x else y) ≡ (if t then u else v)
both true x y u v p q = p
both false x y u v p q = q

swap : (t u : Bool) (x y z : List ℕ) → (if t then x else (if u then y else z)) ≡ (if u then (if t then x else y) else (if t then x else z))
swap true true x y z = refl
swap true false x y z = refl
swap false true x y z = refl
swap false false x y z = refl

-- each outcome, with a region as it is read, is an outcome
pub settled_now : (first : Contents) (calls : List Call) (r : Region) (d : Contents) → MayHold first calls d → MayHold first calls (settle r (seen_after first calls) d)
settled_now first [] r d held = subst (λ (e : Contents). settle r first e ≡ first) (sym held) (λ i s b. either (same_region s r) (first s b) (first s b) (λ e. refl) i)
settled_now first (Wrote q at block ∷ earlier) r d (c, held, doubt) = (
  settle r (seen_after first earlier) c,
  settled_now first earlier r c held,
  λ s b out. both (same_region s r) _ _ _ _ (put_aside q at block.bytes (seen_after first earlier) s b out) (doubt s b out),
)
settled_now first (Doubted q at block ∷ earlier) r d (c, held, doubt) = (
  settle r (seen_after first earlier) c,
  settled_now first earlier r c held,
  λ s b out. both (same_region s r) _ _ _ _ refl (doubt s b out),
)
settled_now first (Synced q ∷ earlier) r d (c, held, settles) = (
  settle r (seen_after first earlier) c,
  settled_now first earlier r c held,
  λ s b. both (same_region s r) _ _ _ _ refl (settles s b)
      ∙ swap (same_region s r) (same_region s q) (seen_after first earlier s b) (seen_after first earlier s b) (c s b)
      ∙ both (same_region s q) _ _ _ _ (either (same_region s r) _ _ (λ e. refl)) refl,
)

-- a sync leaves no more outcomes than there were
pub fewer : (first : Contents) (calls : List Call) (r : Region) (c : Contents) → MayHold first (Synced r ∷ calls) c → MayHold first calls c
fewer first calls r c (d, held, settles) = subst (MayHold first calls) (λ i s b. sym (settles s b) i) (settled_now first calls r d held)

-- after a sync each outcome is what is read, in that region
pub settled_all : (r : Region) (first : Contents) (calls : List Call) (c : Contents) → MayHold first (Synced r ∷ calls) c → (b : ℕ) → c r b ≡ seen_after first calls r b
settled_all Image first calls c (d, held, settles) b = settles Image b
settled_all Redo first calls c (d, held, settles) b = settles Redo b

either_whole : (t : Bool) (x y : List ℕ) → length x ≡ 4096 → length y ≡ 4096 → length (if t then x else y) ≡ 4096
either_whole true x y p q = p
either_whole false x y p q = q

-- each block that is read has 4,096 bytes, where those of the first content have
pub seen_whole : (first : Contents) → ((r : Region) (b : ℕ) → length (first r b) ≡ 4096) → (calls : List Call) (r : Region) (b : ℕ) → length (seen_after first calls r b) ≡ 4096
seen_whole first whole [] r b = whole r b
seen_whole first whole (Wrote Image at block ∷ earlier) Image b = either_whole (b == at) _ _ block.whole (seen_whole first whole earlier Image b)
seen_whole first whole (Wrote Image at block ∷ earlier) Redo b = seen_whole first whole earlier Redo b
seen_whole first whole (Wrote Redo at block ∷ earlier) Image b = seen_whole first whole earlier Image b
seen_whole first whole (Wrote Redo at block ∷ earlier) Redo b = either_whole (b == at) _ _ block.whole (seen_whole first whole earlier Redo b)
seen_whole first whole (Doubted q at block ∷ earlier) r b = seen_whole first whole earlier r b
seen_whole first whole (Synced q ∷ earlier) r b = seen_whole first whole earlier r b
