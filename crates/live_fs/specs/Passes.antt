-- What a pass of a live file system is, and what its turns keep of it.
use Rattle.std.specs.Prelude.{◌≡◌, ◌++◌}
use Rattle.std.specs.Prelude.{Some as Just}
use Rattle.blk_device.specs.declared.device.Device.{Ghosts as DeviceGhosts}
use Rattle.blk_device.specs.declared.device.Region.TheVariants.{Image, Redo}
use Rattle.core_parts.specs.declared.parts.Parts.{Parts}
use Rattle.turn_lock.specs.Lists.{Begins, actors_of}
use Rattle.turn_lock.specs.Passes.{known, Belongs}
use Rattle.turn_lock.specs.declared.lock.TurnLock.{TurnLock}
use Rattle.turn_lock.specs.declared.pass.Pass.{Pass}
use Rattle.turn_lock.specs.declared.recorded.Recorded.{Ghosts}
use Rattle.turn_lock.specs.declared.view.View.{View}
use Rattle.live_fs.specs.declared.origin.Origin.{Origin}

-- what no turn changes of a core
abbrev pub origin_of : {D : Type 0} → DeviceGhosts D → Parts D → Origin
origin_of d p = record { geo = p.desk.store.geo; begun = p.desk.book.begun; image_blocks = d.blocks p.desk.store.dev Image; redo_blocks = d.blocks p.desk.store.dev Redo }

module _ {T E K : Type 0} {g : Ghosts T E Origin K} where
  -- the pass is one of this lock, round a core with this origin
  pub record IsPassOf (l : TurnLock T E Origin K) (o : Origin) (p : Pass T E Origin K g) : Type 0 where
    pub lock : Belongs p l
    pub origin : (known p).origin ≡ Just o

  -- it is still, and speaks for the same actors
  pub record PassOn (l : TurnLock T E Origin K) (o : Origin) (old new : Pass T E Origin K g) : Type 0 where
    pub is : IsPassOf l o new
    pub actors : actors_of (known new).kept ≡ actors_of (known old).kept
    pub seen : Begins (known old).seen (known new).seen

module _ {T E O K : Type 0} where
  -- one pass speaks for the actors of two
  abbrev pub AreActorsOf : View T E O K → View T E O K → View T E O K → Type 0
  AreActorsOf all lower upper = actors_of all.kept ≡ actors_of lower.kept ++ actors_of upper.kept
