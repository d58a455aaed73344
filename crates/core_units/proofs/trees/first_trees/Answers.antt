use Rattle.fs_state.specs.Kinds.{level_of, root_of}
use Rattle.tree_defs.specs.Sites.{bounds_of}
use Rattle.sblock.specs.declared.kind.Kind.TheVariants.{Bno, Cnt, Rmap, Refc, Ino, Fino}
use Rattle.core_units.proofs.trees.first_trees.Goals as goal

pub returns-clause-made : goal.returns-clause-made
returns-clause-made c = λ at image kept heads n known. record {
  bno = c.in_ok-first_seen.ensures.begun at image n (root_of heads Bno) (level_of heads Bno) (kept.bad n Bno) known.bno;
  cnt = c.in_ok-first_seen-2.ensures.begun at image n (root_of heads Cnt) (level_of heads Cnt) (kept.bad n Cnt) known.cnt;
  rmap = c.in_ok-first_seen-3.ensures.begun at image n (root_of heads Rmap) (level_of heads Rmap) (kept.bad n Rmap) known.rmap;
  refc = c.in_ok-first_seen-4.ensures.begun at image n (root_of heads Refc) (level_of heads Refc) (kept.bad n Refc) known.refc;
  ino = c.in_ok-first_seen-5.ensures.begun at image n (root_of heads Ino) (level_of heads Ino) (kept.bad n Ino) known.ino;
  fino = c.in_ok-first_seen-6.ensures.begun at image n (root_of heads Fino) (level_of heads Fino) (kept.bad n Fino) known.fino;
}

pub returns-clause-sound : goal.returns-clause-sound
returns-clause-sound c = λ at n. record {
  bno = c.in_ok-first_seen.ensures.sound (bounds_of at n);
  cnt = c.in_ok-first_seen-2.ensures.sound (bounds_of at n);
  rmap = c.in_ok-first_seen-3.ensures.sound (bounds_of at n);
  refc = c.in_ok-first_seen-4.ensures.sound (bounds_of at n);
  ino = c.in_ok-first_seen-5.ensures.sound (bounds_of at n);
  fino = c.in_ok-first_seen-6.ensures.sound (bounds_of at n);
}
