-- Which unit another one lacks, and what keeps it from being opened.
use Rattle.std.proofs.Common.{◌≡◌, ◌∙◌, ◌<◌, ◌-◌, ℕ, suc, ◌+◌, refl, ap, subst, arith}
use Rattle.std.specs.Prelude.{Bool, true, false, List, [], ◌∷◌, Option, Some, None, Result, Ok, Err, IfErr, OnOk, if◌then◌else◌}
use Rattle.std.specs.List.{slice_get}
use Rattle.core_begin.specs.Starts.{MayBar, inodes_from}
use Rattle.core_calls.specs.declared.answers.ScrubFault.{ScrubFault}
use Rattle.core_calls.specs.declared.answers.ScrubFault.TheVariants as faults
use Rattle.core_parts.specs.Common.Entries.{WantsRoom}
use Rattle.core_parts.specs.declared.groups.GroupKept.{GroupKept}
use Rattle.fs_model.specs.declared.unit.Unit.TheVariants as units
use Rattle.fs_state.specs.Session.{Place, needed}
use Rattle.unit_trust.specs.Trusts.{first_lacking, is_stood, lacks, stands_in}

-- the inode units of the groups from h on
abbrev pub Rest : List GroupKept → ℕ → ℕ → Option Place
Rest ks h n = first_lacking ks (inodes_from h (n - h))

rest_begins : (ks : List GroupKept) (h n : ℕ) → h < n → Rest ks h n ≡ first_lacking ks ((h, units.Inode) ∷ inodes_from (h + 1) (n - (h + 1)))
rest_begins ks h n below = let e : n - h ≡ suc (n - (h + 1)) = omega arith in ap (λ (m : ℕ). first_lacking ks (inodes_from h m)) e

at_head : (ks : List GroupKept) (p : Place) (ps : List Place) (kept : GroupKept) (b : Bool) → slice_get ks p.0 ≡ Some kept → is_stood kept p.1 ≡ b → first_lacking ks (p ∷ ps) ≡ (if b then first_lacking ks ps else Some p)
at_head ks p ps kept b there is =
    ap (λ (o : Option GroupKept). if stands_in o p.1 then first_lacking ks ps else Some p) there
    ∙ ap (λ (x : Bool). if x then first_lacking ks ps else Some p) is

-- this one stands
pub stood_on : (ks : List GroupKept) (h n : ℕ) (kept : GroupKept) → h < n → slice_get ks h ≡ Some kept → is_stood kept units.Inode ≡ true → Rest ks h n ≡ Rest ks (h + 1) n
stood_on ks h n kept below there is = rest_begins ks h n below ∙ at_head ks (h, units.Inode) (inodes_from (h + 1) (n - (h + 1))) kept true there is

-- ---- by the unit

pub lacks_inode : (ks : List GroupKept) (n g : ℕ) → lacks ks n g units.Inode ≡ None
unfolding needed
lacks_inode ks n g = refl

pub lacks_rmap : (ks : List GroupKept) (n g : ℕ) → lacks ks n g units.Rmap ≡ first_lacking ks (inodes_from 0 n)
unfolding needed
lacks_rmap ks n g = refl

pub lacks_free : (ks : List GroupKept) (n g : ℕ) (kept : GroupKept) → slice_get ks g ≡ Some kept → lacks ks n g units.Free ≡ (if is_stood kept units.Rmap then None else Some (g, units.Rmap))
unfolding needed
lacks_free ks n g kept there = at_head ks (g, units.Rmap) [] kept (is_stood kept units.Rmap) there refl

pub lacks_refc : (ks : List GroupKept) (n g : ℕ) (kept : GroupKept) → slice_get ks g ≡ Some kept → lacks ks n g units.Refc ≡ (if is_stood kept units.Rmap then None else Some (g, units.Rmap))
unfolding needed
lacks_refc ks n g kept there = at_head ks (g, units.Rmap) [] kept (is_stood kept units.Rmap) there refl

-- ---- what keeps a unit from being opened

pub room_bars : (lacking : Option Place) (fault : ScrubFault) → WantsRoom fault → MayBar lacking fault
room_bars lacking faults.JournalFull is = tt
room_bars lacking faults.Memory is = tt
room_bars lacking fault is = absurd is

pub all_room_bars : {T : Type 0} (lacking : Option Place) (r : Result T ScrubFault) → IfErr r WantsRoom → IfErr r (MayBar lacking)
all_room_bars lacking (Ok x) is = tt
all_room_bars lacking (Err fault) is = room_bars lacking fault is

-- the same is lacking
pub bars_as : {T : Type 0} (a b : Option Place) (r : Result T ScrubFault) → a ≡ b → IfErr r (MayBar a) → IfErr r (MayBar b)
bars_as a b r same bars = subst (λ (o : Option Place). IfErr r (MayBar o)) same bars

pub ready_as : {T : Type 0} (a b : Option Place) (r : Result T ScrubFault) → a ≡ b → OnOk r (a ≡ None) → OnOk r (b ≡ None)
ready_as a b r same ready = subst (λ (o : Option Place). OnOk r (o ≡ None)) same ready

pub ready_on : {T : Type 0} {P : Type 0} (r : Result T ScrubFault) → P → OnOk r P
ready_on (Ok x) p = p
ready_on (Err fault) p = tt
