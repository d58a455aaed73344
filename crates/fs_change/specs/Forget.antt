-- What a new session keeps of the last state: what an image says by itself; and what a crash leaves.
use Rattle.std.specs.Prelude.{◌≡◌, ◌⊎◌, ℕ, ◌/◌, Bool, true, false, [], Option, Some, None, Ok}
use Rattle.std.specs.List.{list_all}
use Rattle.dinode_core.specs.declared.mapping.Fork.{Fork}
use Rattle.fs_model.specs.declared.unit.Trust.TheVariants.{Unknown, Sick}
use Rattle.fs_model.specs.declared.unit.Trust.{Trust}
use Rattle.geom.specs.Layout.{Layout, split_of}
use Rattle.sblock.specs.declared.kind.Kind.{Kind}
use Rattle.tree_defs.specs.Lists.{is_in}
use Rattle.dinode_core.specs.Frame.{ForkList}
use Rattle.fs_state.specs.Apart.{is_inode}
use Rattle.fs_state.specs.Kinds.{Image}
use Rattle.fs_state.specs.Read.{state_of, opened}
use Rattle.fs_state.specs.State.{State, Group, Index, Reading, Readable, Unreadable, blocks_of, blocks_in}

-- its trust says no more than whether it can be read
abbrev pub fresh_trust : {R : Type 0} → Reading R → Trust
fresh_trust (Readable recs blocks) = Unknown
fresh_trust (Unreadable block fault claims) = Sick

-- a tree that could be read is as it was; another one claims still what it claimed
abbrev pub KeepsReading : {R : Type 0} → Reading R → Reading R → Type 0
KeepsReading (Readable recs blocks) now = now ≡ Readable recs blocks
KeepsReading (Unreadable block fault claims) now = list_all (λ b. is_in b (blocks_of now)) claims ≡ true

pub record IndexForgets {R : Type 0} (old new : Index R) : Type 0 where
  pub reading : KeepsReading old.reading new.reading
  pub trust : new.trust ≡ fresh_trust new.reading

pub record GroupForgets (old new : Group) : Type 0 where
  pub list : new.free_list ≡ old.free_list
  pub counters : new.counters ≡ old.counters
  pub trees : (k : Kind) → IndexForgets (old.tree k) (new.tree k)
  pub reserve : new.reserve ≡ []
  pub limbo : new.limbo ≡ []

abbrev pub is_reserved : State → Option (ℕ × ℕ) → Bool
is_reserved a None = false
is_reserved a (Some p) = is_in p.1 (blocks_in (a.group p.0).reserve)

-- What does a new session keep? All but trust, reserve, limbo and chains. Open is what blocks of the reserve hold as
-- cores, what comes of a fork that couldn't be read, and of such a tree how it reads, and what it claims besides: a crash
-- may leave any bytes in a block of the reserve to which it leads.
pub record Forget (a b : State) : Type 0 where
  pub geometry : b.geometry ≡ a.geometry
  pub groups : (g : ℕ) → GroupForgets (a.group g) (b.group g)
  pub cores : (ino : ℕ) → is_reserved a (split_of a.geometry (ino / 8)) ≡ false → b.core ino ≡ a.core ino
  pub forks : (ino : ℕ) (f : Fork) (list : ForkList) → is_inode a ino ≡ true → a.fork ino f ≡ Ok list → b.fork ino f ≡ Ok list
  pub chains : (c : ℕ) → b.chains c ≡ []

-- The state less all that is forgotten: one that a new session may begin with.
abbrev pub forgotten_group : Group → Group
forgotten_group p = record p { tree = λ k. record (p.tree k) { trust = fresh_trust (p.tree k).reading }; reserve = []; limbo = [] }

abbrev pub forgotten : State → State
forgotten a = record a { group = λ g. forgotten_group (a.group g); chains = λ c. [] }

-- ---- after a crash

-- the state that a session finds which opens this image
abbrev pub found_in : Layout → Image → State
found_in at image = state_of at image (opened at image)

-- What may a crash in an event leave? An image that stands for the state before the event, or for the one after it, less
-- what a new session forgets.
abbrev pub IsEither : State → State → Image → Type 0
IsEither a b image = Forget a (found_in a.geometry image) ⊎ Forget b (found_in a.geometry image)
