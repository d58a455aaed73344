use Rattle.std.proofs.Common.{refl}
use Rattle.std.proofs.lemmas.Nat.{div-mul-add, mod-mul-add}
use Rattle.geom.specs.Places.{fs_block, inode_place}
use Rattle.geom.proofs.NumbersLemmas.{splits_back, within}
use Rattle.geom.proofs.geometry.Geometry.places_back.Goals as goal

pub returns : goal.returns
unfolding inode_place
returns c =
    let geo = c.args.self.now in
    let place = c.args.place in
    let n = fs_block geo place.group place.block in
    rw (
      div-mul-add n 8 place.slot c.requires.slot,
      mod-mul-add n 8 place.slot c.requires.slot,
      splits_back geo.agblocks geo.agcount geo.dblocks geo.agblklog place.group place.block (within geo.agblocks geo.agcount geo.dblocks geo.agblklog geo.fitting place.group place.block c.requires.block.block) c.requires.block.group c.requires.block.block,
    ) refl
