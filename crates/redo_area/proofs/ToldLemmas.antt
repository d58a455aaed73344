-- That content stays told, or untold, over the calls of a device.
use Rattle.std.proofs.Common.{◌≡◌, ℕ, Option, Some, None, IfSome, subst, sym, ◌∙◌}
use Rattle.blk_device.specs.declared.device.Region.{Region}
use Rattle.blk_device.specs.declared.device.Region.TheVariants.{Image, Redo}
use Rattle.blk_device.specs.Contents.{Contents, Doubts, map_told}
use Rattle.blk_device.specs.Crash.{IsDurable, NoMore}
use Rattle.redo_area.specs.Recover.{StaysTold}
use Rattle.redo_area.specs.Stages.{IsQuiet}

pub told_self : (told : Option Contents) → StaysTold told told
told_self None = tt
told_self (Some m) = tt

pub told_same : (old new : Option Contents) → new ≡ old → StaysTold old new
told_same old new same = subst (λ (o : Option Contents). StaysTold old o) (sym same) (told_self old)

pub told_mapped : (f h : Contents → Contents) (old new : Option Contents) → map_told f new ≡ map_told h old → StaysTold old new
told_mapped f h None None same = tt
told_mapped f h None (Some n) same = cc
told_mapped f h (Some m) None same = cc
told_mapped f h (Some m) (Some n) same = tt

pub told_doubted : (r : Region) (at : ℕ) (old new : Option Contents) → Doubts r at old new → StaysTold old new
told_doubted r at None None doubt = tt
told_doubted r at None (Some n) doubt = doubt
told_doubted r at (Some m) None doubt = doubt
told_doubted r at (Some m) (Some n) doubt = tt

pub told_on : (old mid new : Option Contents) → StaysTold old mid → StaysTold mid new → StaysTold old new
told_on None None None first second = tt
told_on None None (Some n) first second = second
told_on None (Some x) new first second = absurd first
told_on (Some m) None new first second = absurd first
told_on (Some m) (Some x) None first second = second
told_on (Some m) (Some x) (Some n) first second = tt

agrees : (m c : Contents) → ((b : ℕ) → c Image b ≡ m Image b) → ((b : ℕ) → c Redo b ≡ m Redo b) → (r : Region) (b : ℕ) → c r b ≡ m r b
agrees m c image redo Image b = image b
agrees m c image redo Redo b = redo b

both_durable : (told : Option Contents) (may_hold : Contents → Type 0) → IsDurable Image told may_hold → IsDurable Redo told may_hold → IfSome told (IsQuiet may_hold)
both_durable None may_hold image redo = tt
both_durable (Some m) may_hold image redo = λ c held i r b. agrees m c (image c held) (redo c held) r b i

durable_still : (r : Region) (told : Option Contents) (before now : Contents → Type 0) → IsDurable r told before → NoMore before now → IsDurable r told now
durable_still r None before now durable fewer = tt
durable_still r (Some m) before now durable fewer = λ c held. durable c (fewer c held)

-- after a sync of one region, then of the other, and reads
pub quiet_after : (old mid last new : Option Contents) (first second third : Contents → Type 0) → mid ≡ old → last ≡ mid → new ≡ last
    → IsDurable Image old first → NoMore first second → IsDurable Redo mid second → NoMore second third → IfSome new (IsQuiet third)
quiet_after old mid last new first second third is_mid is_last is_new image fewer redo fewer_yet =
    let both = both_durable mid third (durable_still Image mid first third (subst (λ (o : Option Contents). IsDurable Image o first) (sym is_mid) image) (λ c held. fewer c (fewer_yet c held))) (durable_still Redo mid second third redo fewer_yet) in
    subst (λ (o : Option Contents). IfSome o (IsQuiet third)) (sym (is_new ∙ is_last)) both
