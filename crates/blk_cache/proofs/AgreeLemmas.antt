-- A cache that agreed with contents agrees with them after a block was read or written.
use Rattle.std.proofs.Common.{◌≡◌, ◌⊎◌, ℕ, Bool, true, false, cond, List, nat_eq, ◌==◌, refl, sym, ap, subst, inl, inr, Option, Some, None, IfSome, eqb-true, eq-eqb}
use Rattle.std.specs.Map.{lookup}
use Rattle.byte_fields.specs.declared.block.Block.{Block}
use Rattle.blk_device.specs.Contents.{Contents, put, Holds, map_told}
use Rattle.blk_device.specs.declared.device.Region.TheVariants.{Image}
use Rattle.blk_cache.specs.Entries.{Entries, bytes_in, kept_in, in_front, KeepsIn, AgreesIn}
use Rattle.blk_cache.proofs.EntryLemmas.{found_in_front, other_in_front}

-- the bytes of a block are those that are kept, where any are
abbrev Fits : Option (List ℕ) → List ℕ → Type 0
Fits kept bytes = IfSome kept (λ b. bytes ≡ b)

apart : (at b : ℕ) → (b == at) ≡ false → (k : ℕ) → nat_eq at k ≡ true → nat_eq b k ≡ false
apart at b other k found = subst (λ (n : ℕ). nat_eq b n ≡ false) (eqb-true at k found) other

no_more : (old new : Option Block) (x y : List ℕ) → y ≡ x → Fits (bytes_in old) x → (new ≡ None) ⊎ (new ≡ old) → Fits (bytes_in new) y
no_more old new x y same fits (inl none) = subst (λ (o : Option Block). Fits (bytes_in o) y) (sym none) tt
no_more old new x y same fits (inr kept) = subst (λ (o : Option Block). Fits (bytes_in o) y) (sym kept) (subst (Fits (bytes_in old)) (sym same) fits)

module _ (at : ℕ) (block : Block) (old : Entries) (c d : Contents) (here : d Image at ≡ block.bytes) (other : (b : ℕ) → (b == at) ≡ false → d Image b ≡ c Image b) (agrees : AgreesIn old c) where
  front_agrees : (capacity : ℕ) → AgreesIn (in_front at block capacity old) d
  front_agrees capacity b = (elim (b == at) as (λ y. (b == at) ≡ y → Fits (kept_in (in_front at block capacity old) b) (d Image b)) [
    | true ↦ λ h. subst (λ (n : ℕ). Fits (kept_in (in_front at block capacity old) n) (d Image n)) (sym (eqb-true b at h))
        (subst (λ (o : Option Block). Fits (bytes_in o) (d Image at)) (sym (found_in_front at block capacity old)) here)
    | false ↦ λ h. no_more (lookup (nat_eq b) old) (lookup (nat_eq b) (in_front at block capacity old)) (c Image b) (d Image b) (other b h) (agrees b)
        (other_in_front at b block capacity old (apart at b h))
  ]) refl

  stay_agrees : kept_in old at ≡ None → AgreesIn old d
  stay_agrees none b = (elim (b == at) as (λ y. (b == at) ≡ y → Fits (kept_in old b) (d Image b)) [
    | true ↦ λ h. subst (λ (n : ℕ). Fits (kept_in old n) (d Image n)) (sym (eqb-true b at h)) (subst (λ (o : Option (List ℕ)). Fits o (d Image at)) (sym none) tt)
    | false ↦ λ h. subst (Fits (kept_in old b)) (sym (other b h)) (agrees b)
  ]) refl

  keeps_agrees : (capacity : ℕ) (new : Entries) → KeepsIn at block capacity old new → AgreesIn new d
  keeps_agrees capacity new (inl front) = subst (λ (es : Entries). AgreesIn es d) (sym front) (front_agrees capacity)
  keeps_agrees capacity new (inr stays) = subst (λ (es : Entries). AgreesIn es d) (sym stays.1) (stay_agrees stays.0)

-- after a block was read, with the contents that it was read from
pub agrees_read : (at : ℕ) (block : Block) (capacity : ℕ) (old new : Entries) (c : Contents) → KeepsIn at block capacity old new → c Image at ≡ block.bytes → AgreesIn old c → AgreesIn new c
agrees_read at block capacity old new c keeps here agrees = keeps_agrees at block old c c here (λ b h. refl) agrees capacity new keeps

-- after a block was written, with the contents that have it
pub agrees_written : (at : ℕ) (block : Block) (capacity : ℕ) (old new : Entries) (c : Contents) → KeepsIn at block capacity old new → AgreesIn old c → AgreesIn new (put Image at block.bytes c)
agrees_written at block capacity old new c keeps agrees =
    keeps_agrees at block old c (put Image at block.bytes c)
    (ap (λ (y : Bool). cond y block.bytes (c Image at)) (eq-eqb at at refl))
    (λ b h. ap (λ (y : Bool). cond y block.bytes (c Image b)) h)
    agrees capacity new keeps

-- the same of contents that may be told
pub told_read : (at : ℕ) (block : Block) (capacity : ℕ) (old new : Entries) (told : Option Contents) → KeepsIn at block capacity old new → Holds Image at block.bytes told → IfSome told (AgreesIn old) → IfSome told (AgreesIn new)
told_read at block capacity old new None keeps here agrees = tt
told_read at block capacity old new (Some c) keeps here agrees = agrees_read at block capacity old new c keeps here agrees

pub told_written : (at : ℕ) (block : Block) (capacity : ℕ) (old new : Entries) (told : Option Contents) → KeepsIn at block capacity old new → IfSome told (AgreesIn old) → IfSome (map_told (put Image at block.bytes) told) (AgreesIn new)
told_written at block capacity old new None keeps agrees = tt
told_written at block capacity old new (Some c) keeps agrees = agrees_written at block capacity old new c keeps agrees

-- a block that is kept is the one that is told
pub told_hit : (at : ℕ) (block : Block) (old : Entries) (told : Option Contents) → lookup (nat_eq at) old ≡ Some block → IfSome told (AgreesIn old) → Holds Image at block.bytes told
told_hit at block old None found agrees = tt
told_hit at block old (Some c) found agrees = subst (λ (o : Option Block). Fits (bytes_in o) (c Image at)) found (agrees at)
