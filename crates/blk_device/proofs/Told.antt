-- Contents that a device may tell.
use Rattle.std.proofs.Common.{◌≡◌, Option, Some, None, IfSome, refl, subst, sym}
use Rattle.blk_device.specs.Contents.{Contents, map_told, Becomes}

pub where_told : (told : Option Contents) {P : Contents → Type 0} → ((m : Contents) → told ≡ Some m → P m) → IfSome told P
where_told None each = tt
where_told (Some m) each = each m refl

pub as_told : (told : Option Contents) (P : Contents → Type 0) (m : Contents) → told ≡ Some m → IfSome told P → P m
as_told told P m is holds = subst (λ (o : Option Contents). IfSome o P) is holds

pub map_twice : (f g : Contents → Contents) (told : Option Contents) → map_told f (map_told g told) ≡ map_told (λ c. f (g c)) told
map_twice f g None = refl
map_twice f g (Some c) = refl

pub becomes_by : (change : Contents → Contents) (old new : Option Contents) (P : Contents → Contents → Type 0) → new ≡ map_told change old → ((m : Contents) → old ≡ Some m → P m (change m)) → Becomes old new P
becomes_by change None new P is each = subst (λ (o : Option Contents). Becomes None o P) (sym is) tt
becomes_by change (Some m) new P is each = subst (λ (o : Option Contents). Becomes (Some m) o P) (sym is) (each m refl)

pub as_becomes : (old new : Option Contents) (P : Contents → Contents → Type 0) (m : Contents) → old ≡ Some m → Becomes old new P → (n : Contents) × (new ≡ Some n) × P m n
as_becomes None new P m is becomes = cc is
as_becomes (Some c) None P m is becomes = absurd becomes
as_becomes (Some c) (Some d) P m is becomes = let same : c ≡ m = cc is in (d, refl, subst (λ (x : Contents). P x d) same becomes)

pub then_told : (old new : Option Contents) (P : Contents → Contents → Type 0) (Q : Contents → Type 0) → Becomes old new P → ((m n : Contents) → old ≡ Some m → P m n → Q n) → IfSome new Q
then_told None None P Q becomes each = tt
then_told None (Some d) P Q becomes each = absurd becomes
then_told (Some c) None P Q becomes each = absurd becomes
then_told (Some c) (Some d) P Q becomes each = each c d refl becomes

-- one change more
pub becomes_then : (change : Contents → Contents) (a b c : Option Contents) (P Q : Contents → Contents → Type 0) (R : Contents → Type 0) → Becomes a b P → c ≡ map_told change b → IfSome b R
    → ((m d : Contents) → P m d → R d → Q m (change d)) → Becomes a c Q
becomes_then change None None c P Q R was is holds so = subst (λ (o : Option Contents). Becomes None o Q) (sym is) tt
becomes_then change None (Some d) c P Q R was is holds so = absurd was
becomes_then change (Some m) None c P Q R was is holds so = absurd was
becomes_then change (Some m) (Some d) c P Q R was is holds so = subst (λ (o : Option Contents). Becomes (Some m) o Q) (sym is) (so m d was holds)
