-- A device that is handed out for a change, and comes back; and redo files that stay.
use Rattle.std.proofs.Common.{◌≡◌, ◌≤◌, ℕ, Bool, true, false, List, [], ◌∷◌, ◌++◌, Option, Some, None, Ok, Err, cond, if◌then◌else◌, inl, inr, refl, ◌∙◌, ap, arith}
use Rattle.std.specs.Prelude.{◌==◌}
use Rattle.std.proofs.lemmas.Bool.Decides.{nat_tests}
use Rattle.std.proofs.lemmas.Slice.Eq.{bytes_eq-Decides}
use Rattle.std.specs.Str.{bytes_eq}
use Rattle.blk_device.specs.Causes.{Rose, one_more}
use Rattle.blk_device.specs.declared.device.Device.{Ghosts}
use Rattle.image_hosts.proofs.DueLemmas.{none_due, one_due}
use Rattle.image_hosts.specs.Stored.{Stored, Request, Loan, Out, Back, FollowsRedo, HoldsRedo, IsAskedFor, IsOpened, Lends, due_by, due_of, stored_image, stored_redo, stored_with}
use Rattle.xscrub.proofs.LoanLemmas.{lent_both}
use Rattle.xscrub.specs.Ending.{IsFound, IsOfRepair, WasRepaired}
use Rattle.xscrub.specs.Repairs.{CountsFor, IsOfDevice}
use Rattle.xscrub.specs.declared.ending.Finding.{Finding}
use Rattle.xscrub.specs.declared.ending.Finding.TheVariants as findings

-- a request that was answered with a device was kept
pub asked_whole : {T E : Type 0} (x : T) (e : E) (request : Request) (a b : List Request) → IsAskedFor (Ok x ≡ Err e) request a b → b ≡ a ++ request ∷ []
asked_whole {T = T} {E = E} x e request a b (inl short) = absurd (clash x e short.0)
  where
    clash : (y : T) (f : E) → Ok y ≡ Err f → ⊥
    clash y f h = cc
asked_whole x e request a b (inr whole) = whole

-- ---- redo files

-- all stay where a device comes back that was asked for to be read, or to be made
pub redos_kept : (a b : List Request) (request : Request) (held : Option Stored) (old mid new : List ℕ → Option Stored) → b ≡ a ++ request ∷ [] → due_by request.purpose request.redo ≡ None
    → FollowsRedo (due_of b) held mid new → ((n : List ℕ) → mid n ≡ old n) → (n : List ℕ) → new n ≡ old n
redos_kept a b request held old mid new is none follows same n = none_due a b request held mid new is none follows n ∙ same n

-- and of one that was asked for to be changed all others do
pub redo_changed : (a b : List Request) (request : Request) (name : List ℕ) (held : Option Stored) (old mid new : List ℕ → Option Stored) → b ≡ a ++ request ∷ [] → due_by request.purpose request.redo ≡ Some name
    → FollowsRedo (due_of b) held mid new → ((n : List ℕ) → mid n ≡ old n) → HoldsRedo name held old new
redo_changed a b request name held old mid new is one follows same = record { others = λ n apart. holds.others n apart ∙ same n; one = holds.one }
  where
    holds : HoldsRedo name held mid new
    holds = one_due a b request name held mid new is one follows

-- ---- the image

pub others_stay : (name : List ℕ) (file : Option Stored) (old mid new : List ℕ → Option Stored) → ((n : List ℕ) → bytes_eq n name ≡ false → mid n ≡ old n) → ((n : List ℕ) → new n ≡ stored_with name file mid n)
    → (n : List ℕ) → bytes_eq n name ≡ false → new n ≡ old n
others_stay name file old mid new outside home n apart = home n ∙ (ap (λ (b : Bool). cond b file (mid n)) apart ∙ outside n apart)

pub image_there : (name : List ℕ) (file : Option Stored) (mid new : List ℕ → Option Stored) → ((n : List ℕ) → new n ≡ stored_with name file mid n) → new name ≡ file
image_there name file mid new home = home name ∙ ap (λ (b : Bool). cond b file (mid name)) ((bytes_eq-Decides name name).1 refl)

-- a device that was handed out for a change, and came back
pub was_repaired : {D : Type 0} (g : Ghosts D) (name redo : List ℕ) (stored mid stored' redos redos' : List ℕ → Option Stored) (a b c : Option (List (Loan D))) (dev back : D)
    → Lends (Out dev ∷ []) a b → Lends (Back back ∷ []) b c → IsOpened (stored name) (redos redo) (g.content dev) (g.blocks dev) → g.blocks back ≡ g.blocks dev → g.faults dev ≤ g.faults back
    → ((n : List ℕ) → stored' n ≡ stored_with name (stored_image (g.content back) (g.blocks back)) mid n) → HoldsRedo redo (stored_redo (g.content back) (g.blocks back)) redos redos'
    → WasRepaired g name redo stored redos stored' redos' a c
was_repaired g name redo stored mid stored' redos redos' a b c dev back out home opened sizes later kept holds = record {
  dev = dev;
  back = back;
  lent = lent_both dev back a b c out home;
  opened_so = opened;
  sizes = sizes;
  later = later;
  image = image_there name (stored_image (g.content back) (g.blocks back)) mid stored' kept;
  redo_file = holds;
}

-- ---- what is found

pub of_device : (finding : Finding) → IsOfDevice finding → IsOfRepair finding
of_device (findings.Judged journal) of = of
of_device (findings.Repaired journal sick) of = tt
of_device (findings.Full journal) of = of
of_device (findings.Refused line) of = of
of_device findings.Made of = of
of_device findings.Usage of = of
of_device (findings.DeviceFailed journal) of = tt
of_device findings.HostFailed of = tt
of_device (findings.Memory journal) of = tt

abbrev counted : ℕ → ℕ → ℕ
counted now devices = if now == 0 then devices else one_more devices

is_zero : (n : ℕ) → (n == 0) ≡ true → n ≡ 0
is_zero n h = grind (arith, nat_tests)

no_zero : (n : ℕ) → n ≡ 0 → (n == 0) ≡ true
no_zero n h = grind (arith, nat_tests)

calm : (now devices devices' : ℕ) → now ≡ 0 → devices' ≡ counted now devices → devices' ≡ devices
calm now devices devices' none is = is ∙ ap (λ (b : Bool). cond b devices (one_more devices)) (no_zero now none)

failed : (now devices devices' : ℕ) → Rose 0 now → devices' ≡ counted now devices → Rose devices devices'
failed now devices devices' rose is = by_zero (now == 0) refl
  where
    by_zero : (t : Bool) → (now == 0) ≡ t → Rose devices devices'
    by_zero true h = let none = is_zero now h in absurd (omega (arith, rose, none))
    by_zero false h = let more : devices' ≡ one_more devices = is ∙ ap (λ (b : Bool). cond b devices (one_more devices)) h in omega (arith, more)

-- of a device that counted no fault when it was handed out, and that comes back
pub repair_found : (finding : Finding) (now host host' devices devices' : ℕ) → IsOfDevice finding → CountsFor 0 now finding → host' ≡ host → devices' ≡ counted now devices → IsFound None host host' devices devices' finding
repair_found (findings.Judged journal) now host host' devices devices' of count same is = absurd of
repair_found (findings.Repaired journal sick) now host host' devices devices' of count same is = record { decides = tt; cause = (same, calm now devices devices' count is) }
repair_found (findings.Full journal) now host host' devices devices' of count same is = record { decides = tt; cause = tt }
repair_found (findings.Refused line) now host host' devices devices' of count same is = record { decides = tt; cause = tt }
repair_found findings.Made now host host' devices devices' of count same is = absurd of
repair_found findings.Usage now host host' devices devices' of count same is = absurd of
repair_found (findings.DeviceFailed journal) now host host' devices devices' of count same is = record { decides = tt; cause = failed now devices devices' count is }
repair_found findings.HostFailed now host host' devices devices' of count same is = absurd of
repair_found (findings.Memory journal) now host host' devices devices' of count same is = record { decides = tt; cause = tt }
