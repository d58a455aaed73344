-- The group that a reserved block leaves.
use Rattle.std.proofs.Common.{◌≡◌, ℕ, Bool, true, false, List, [], ◌∷◌, ◌++◌, drop, refl}
use Rattle.fs_change.proofs.Trees.{in_itself}
use Rattle.fs_change.specs.Changes.{block_extent, give_owner, leave, own_new, plain_run, reserved, take_owner}
use Rattle.fs_change.specs.Loose.{tree_blocks}
use Rattle.fs_change.specs.Records.{give_mapping, take_mapping, take_span}
use Rattle.fs_change.specs.Switch.{owned_by as with_owner, unit_owner}
use Rattle.fs_state.specs.Faults.{blocks_counted}
use Rattle.fs_model.specs.declared.entry.Extent.{Extent}
use Rattle.fs_model.specs.declared.fault.Counter.{Counter}
use Rattle.fs_model.specs.declared.unit.Unit.{Unit as ScrubUnit}
use Rattle.fs_model.specs.declared.unit.Unit.TheVariants as units
use Rattle.fs_state.specs.State.{State, Group, is_readable}
use Rattle.rmap_recs.specs.Owners.{number_of}
use Rattle.rmap_recs.specs.declared.owner.Owner.TheVariants.{Ag}
use Rattle.sblock.specs.declared.kind.Kind.{Kind}
use Rattle.sblock.specs.declared.kind.Kind.TheVariants.{Rmap, Refc}
use Rattle.law_repairs.proofs.Move.Edits.{spaced_group}
use Rattle.law_repairs.proofs.Reserve.Owning.{SameHeld}
use Rattle.law_repairs.proofs.Move.Steps.{Steady, both_steady, edit_steady, is_steady, space_steady, stays}

abbrev pub with_reserve : ScrubUnit → ℕ → Group → Group
with_reserve unit b p = record p { reserve = p.reserve ++ with_owner (unit_owner unit) b ∷ [] }

abbrev pub off_list : ScrubUnit → ℕ → Group → Group
off_list unit b p = record (with_reserve unit b p) { free_list = drop 1 p.free_list }

abbrev pub reserved_group : List Kind → ℕ → ScrubUnit → ℕ → Bool → Group → Group
reserved_group left g unit b spare p = own_new left unit (block_extent g b) spare (leave left unit (block_extent g b) spare (with_reserve unit b p))

pub reserved_in : (left : List Kind) (g : ℕ) (unit : ScrubUnit) (b : ℕ) (spare : Bool) (a : State) → (reserved left g unit b spare a).group g ≡ reserved_group left g unit b spare (a.group g)
unfolding reserved
reserved_in left g unit b spare a = in_itself g (λ p. reserved_group left g unit b spare p) a

owner_steady : (left : List Kind) (owner : ℕ) (e : Extent) (p : Group) → Steady p (give_owner left owner e p)
owner_steady left owner e p = edit_steady left Rmap (give_mapping (plain_run owner e)) p refl

loss_steady : (left : List Kind) (owner : ℕ) (e : Extent) (p : Group) → Steady p (take_owner left owner e p)
loss_steady left owner e p = edit_steady left Rmap (take_mapping (plain_run owner e)) p refl

module _ (left : List Kind) (g b : ℕ) (p : Group) where
  abbrev e : Extent
  e = block_extent g b

  abbrev pub spared : ScrubUnit → Group
  spared unit = spaced_group take_span left e (with_reserve unit b p)

  -- a spare block
  pub spare_steady : (unit : ScrubUnit) → Steady (with_reserve unit b p) (reserved_group left g unit b true p)
  spare_steady units.Inode = both_steady (with_reserve units.Inode b p) (spared units.Inode) (reserved_group left g units.Inode b true p) (space_steady take_span left e (with_reserve units.Inode b p)) (owner_steady left (unit_owner units.Inode) e (spared units.Inode))
  spare_steady units.Refc = both_steady (with_reserve units.Refc b p) (spared units.Refc) (reserved_group left g units.Refc b true p) (space_steady take_span left e (with_reserve units.Refc b p)) (owner_steady left (unit_owner units.Refc) e (spared units.Refc))
  spare_steady units.Rmap = space_steady take_span left e (with_reserve units.Rmap b p)
  spare_steady units.Free = owner_steady left (unit_owner units.Free) e (with_reserve units.Free b p)

  -- and one of the list
  pub list_steady : (unit : ScrubUnit) → Steady (off_list unit b p) (reserved_group left g unit b false p)
  list_steady units.Inode = both_steady (off_list units.Inode b p) (take_owner left (number_of Ag) e (off_list units.Inode b p)) (reserved_group left g units.Inode b false p) (loss_steady left (number_of Ag) e (off_list units.Inode b p)) (owner_steady left (unit_owner units.Inode) e (take_owner left (number_of Ag) e (off_list units.Inode b p)))
  list_steady units.Refc = both_steady (off_list units.Refc b p) (take_owner left (number_of Ag) e (off_list units.Refc b p)) (reserved_group left g units.Refc b false p) (loss_steady left (number_of Ag) e (off_list units.Refc b p)) (owner_steady left (unit_owner units.Refc) e (take_owner left (number_of Ag) e (off_list units.Refc b p)))
  list_steady units.Rmap = stays (off_list units.Rmap b p)
  list_steady units.Free = stays (off_list units.Free b p)

  -- whatever it is, trees keep their trust, their blocks and whether they can be read
  pub trust_stays : (unit : ScrubUnit) (spare : Bool) (k : Kind) → ((reserved_group left g unit b spare p).tree k).trust ≡ (p.tree k).trust
  trust_stays unit true k = (spare_steady unit).trust k
  trust_stays unit false k = (list_steady unit).trust k

  pub reads_stay : (unit : ScrubUnit) (spare : Bool) (k : Kind) → is_readable ((reserved_group left g unit b spare p).tree k).reading ≡ is_readable (p.tree k).reading
  reads_stay unit true k = (spare_steady unit).readable k
  reads_stay unit false k = (list_steady unit).readable k

  pub counted_stay : (unit : ScrubUnit) (spare : Bool) (k : Kind) → blocks_counted ((reserved_group left g unit b spare p).tree k).reading ≡ blocks_counted (p.tree k).reading
  counted_stay unit true k = (spare_steady unit).counted k
  counted_stay unit false k = (list_steady unit).counted k

  pub refc_stays : (unit : ScrubUnit) (spare : Bool) → (reserved_group left g unit b spare p).tree Refc ≡ p.tree Refc
  refc_stays unit true = (spare_steady unit).others Refc refl
  refc_stays unit false = (list_steady unit).others Refc refl

  pub blocks_stay : (unit : ScrubUnit) (spare : Bool) (k : Kind) → tree_blocks (reserved_group left g unit b spare p) k ≡ tree_blocks p k
  blocks_stay unit true k = (spare_steady unit).parts.blocks k
  blocks_stay unit false k = (list_steady unit).parts.blocks k

  pub limbo_stays : (unit : ScrubUnit) (spare : Bool) → (reserved_group left g unit b spare p).limbo ≡ p.limbo
  limbo_stays unit true = (spare_steady unit).parts.limbo
  limbo_stays unit false = (list_steady unit).parts.limbo

  pub reserve_grows : (unit : ScrubUnit) (spare : Bool) → (reserved_group left g unit b spare p).reserve ≡ p.reserve ++ with_owner (unit_owner unit) b ∷ []
  reserve_grows unit true = (spare_steady unit).parts.reserve
  reserve_grows unit false = (list_steady unit).parts.reserve

  pub spare_held : (unit : ScrubUnit) → SameHeld p (reserved_group left g unit b true p)
  spare_held unit = record { list = (spare_steady unit).parts.list; blocks = (spare_steady unit).parts.blocks; limbo = (spare_steady unit).parts.limbo }

  pub steady_counter : (unit : ScrubUnit) (spare : Bool) (name : Counter) → is_steady name ≡ true → (reserved_group left g unit b spare p).counters name ≡ p.counters name
  steady_counter unit true name h = (spare_steady unit).counters name h
  steady_counter unit false name h = (list_steady unit).counters name h
