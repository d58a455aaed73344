-- Answers for a fork, from what was found of it.
use Rattle.std.proofs.Common.{◌≡◌, ℕ, true, false, List, [], ◌∷◌, ◌++◌, map, Option, Some, None, Result, Ok, Err, refl, ap, sym, subst, ◌∙◌, inl, inr, append-nil}
use Rattle.std.specs.Prelude.{IfOk, IfErr, IfSome}
use Rattle.std.proofs.lemmas.Bool.{false≢true}
use Rattle.blk_cache.specs.declared.cache.BlkCache.{BlkCache}
use Rattle.geom.specs.Layout.{Layout, device_block_of}
use Rattle.dinode_core.specs.declared.inode.Core3.{Core3}
use Rattle.dinode_core.specs.declared.mapping.Fork.{Fork}
use Rattle.dinode_core.specs.declared.mapping.ForkError.{ForkError}
use Rattle.dinode_core.specs.declared.mapping.ForkError.TheVariants.{Fault, Memory as NoMemory}
use Rattle.dinode_core.specs.declared.mapping.ForkFault.{ForkFault}
use Rattle.dinode_core.specs.Core.{core_fault, core_of}
use Rattle.dinode_core.specs.Inline.{Refuses, form_fault, first_bad, inline_fault, inline_mappings, or_else, root_level}
use Rattle.dinode_core.specs.Shape.{area_of}
use Rattle.dinode_core.specs.ForkTree.{Image, Trail, is_tree, start}
use Rattle.fork_read.specs.declared.fault.ForkPiece.{ForkPiece}
use Rattle.fork_read.specs.declared.fault.ReadFault.{ReadFault}
use Rattle.fork_read.specs.declared.fault.ReadFault.TheVariants.{Fork as IsFork, Core as IsCoreFault, Failed, Memory}
use Rattle.fork_read.specs.declared.seen.BlockRead.{BlockRead}
use Rattle.fork_read.specs.declared.tasks.Task.{Task}
use Rattle.fork_read.specs.declared.walk.Stop.{Stop}
use Rattle.fork_read.specs.Answers.{IsJudgedFault, IsOutside, IsPiece, IsStopped, judged, next_of}
use Rattle.fork_read.specs.Pieces.{CachesAt, Ends, IsAnswer, IsCore, IsForkAnswer, IsRefused, IsTreeAnswer, inode_bytes}
use Rattle.fork_read.specs.Stuck.{HasCome}
use Rattle.fork_read.specs.Walk.{block_of, first_tasks, walk_all, walk_tasks}

pub numbers_same : (bs : List BlockRead) → map (λ b. b.block) (map block_of bs) ≡ map (λ b. b.block) bs
numbers_same [] = refl
numbers_same (b ∷ bs) = ap (λ xs. b.block ∷ xs) (numbers_same bs)

pub form_none : (at : Layout) (core : Core3) (fork : Fork) → inline_fault at core fork ≡ None → form_fault core fork ≡ None
unfolding inline_fault
form_none at core fork h = first_none (form_fault core fork) (first_bad at fork (inline_mappings core fork)) h
  where
    first_none : (o x : Option ForkFault) → or_else o x ≡ None → o ≡ None
    first_none None x h = refl
    first_none (Some f) x h = cc

pub caches_inode : (at : Layout) (o : Option (ℕ × ℕ)) (p : ℕ × ℕ) (d : ℕ) (old new : BlkCache) → o ≡ Some p → d ≡ device_block_of at p.0 p.1 → CachesAt d old new → IfSome o (λ place. CachesAt (device_block_of at place.0 place.1) old new)
caches_inode at o p d old new h e k =
    subst (λ (x : Option (ℕ × ℕ)). IfSome x (λ place. CachesAt (device_block_of at place.0 place.1) old new)) (sym h) (subst (λ n. CachesAt n old new) e k)

module _ (at : Layout) (image : Image) (core : Core3) (fork : Fork) (from : ℕ) where
  pub ends_of : (xs rest : List Task) (t u : Trail) (stop : Stop) → xs ≡ first_tasks core fork from ++ [] → t ≡ start → HasCome at image core from xs t stop rest u → IsStopped (walk_tasks at image core from xs t) (walk_tasks at image core from) from stop rest u → Ends at image core fork from stop u
  unfolding walk_all
  ends_of xs rest t u stop e s r h = record {
    rest = rest;
    reached = subst (λ ys. HasCome at image core from ys start stop rest u) (e ∙ append-nil (first_tasks core fork from)) (subst (λ v. HasCome at image core from xs v stop rest u) s r);
    stopped = subst (λ ys. IsStopped (walk_tasks at image core from ys start) (walk_tasks at image core from) from stop rest u) (e ∙ append-nil (first_tasks core fork from)) (subst (λ v. IsStopped (walk_tasks at image core from xs v) (walk_tasks at image core from) from stop rest u) s h);
  }

  pub tree_answered : (stop : Stop) (u : Trail) (level : ℕ) (blocks : List ℕ) (result : Result ForkPiece ReadFault) → Ends at image core fork from stop u → level ≡ root_level (area_of core fork) → map (λ b. b.block) u.blocks ≡ blocks → IfOk result (λ _. judged at fork level stop u ≡ None) → IfOk result (λ piece. IsPiece from u.mappings blocks (next_of stop) piece) → IfErr result (λ error. IsJudgedFault (judged at fork level stop u) error) → IsTreeAnswer at image core fork from result
  tree_answered stop u level blocks (Ok piece) walked l b good given fault = record {
    stop = stop;
    trail = u;
    walked = walked;
    good = subst (λ n. judged at fork n stop u ≡ None) l good;
    given = subst (λ bs. IsPiece from u.mappings bs (next_of stop) piece) (sym b) given;
  }
  tree_answered stop u level blocks (Err (IsFork found)) walked l b good given fault = record {
    stop = stop;
    trail = u;
    walked = walked;
    found = subst (λ n. judged at fork n stop u ≡ Some found) l fault;
  }
  tree_answered stop u level blocks (Err (IsCoreFault found)) walked l b good given fault = fault
  tree_answered stop u level blocks (Err Failed) walked l b good given fault = tt
  tree_answered stop u level blocks (Err Memory) walked l b good given fault = tt

  pub tree_outside : (error : ReadFault) → IsOutside error → IsTreeAnswer at image core fork from (Err error)
  tree_outside (IsFork found) h = absurd h
  tree_outside (IsCoreFault found) h = h
  tree_outside Failed h = tt
  tree_outside Memory h = tt

  pub inline_refused : (error : ForkError) (shown : ReadFault) → Refuses error (inline_fault at core fork) → IsRefused error shown → IsForkAnswer at image core fork from (Err shown)
  inline_refused (Fault found) shown h e = subst (λ r. IsForkAnswer at image core fork from (Err r)) (sym e) (inl h)
  inline_refused NoMemory shown h e = subst (λ r. IsForkAnswer at image core fork from (Err r)) (sym e) tt

  pub tree_forked : (result : Result ForkPiece ReadFault) → inline_fault at core fork ≡ None → is_tree core fork ≡ true → IsTreeAnswer at image core fork from result → IsForkAnswer at image core fork from result
  tree_forked (Ok piece) none tree h = (none, (λ off. absurd (false≢true (sym off ∙ tree))), (λ _. h))
  tree_forked (Err (IsFork found)) none tree h = inr (none, tree, h)
  tree_forked (Err (IsCoreFault found)) none tree h = h
  tree_forked (Err Failed) none tree h = tt
  tree_forked (Err Memory) none tree h = tt

  pub inline_forked : (result : Result ForkPiece ReadFault) → inline_fault at core fork ≡ None → is_tree core fork ≡ false → IfOk result (λ piece. IsPiece from (inline_mappings core fork) [] None piece) → IfErr result (λ error. error ≡ Memory) → IsForkAnswer at image core fork from result
  inline_forked (Ok piece) none off given memory = (none, (λ _. given), (λ on. absurd (false≢true (sym off ∙ on))))
  inline_forked (Err error) none off given memory = subst (λ r. IsForkAnswer at image core fork from (Err r)) (sym memory) tt

module _ (at : Layout) (image : Image) (ino : ℕ) (fork : Fork) (from : ℕ) where
  pub core_refused : (error : ReadFault) → IsCore (inode_bytes at image ino) ino at.uuid (Err error) → IsAnswer at image ino fork from (Err error)
  core_refused (IsFork found) h = absurd h
  core_refused (IsCoreFault found) h = h
  core_refused Failed h = tt
  core_refused Memory h = tt

  forked : (result : Result ForkPiece ReadFault) → core_fault (inode_bytes at image ino) ino at.uuid ≡ None → IsForkAnswer at image (core_of (inode_bytes at image ino)) fork from result → IsAnswer at image ino fork from result
  forked (Ok piece) none h = (none, h)
  forked (Err (IsFork found)) none h = (none, h)
  forked (Err (IsCoreFault found)) none h = absurd h
  forked (Err Failed) none h = tt
  forked (Err Memory) none h = tt

  pub core_forked : (core : Core3) (result : Result ForkPiece ReadFault) → IsCore (inode_bytes at image ino) ino at.uuid (Ok core) → IsForkAnswer at image core fork from result → IsAnswer at image ino fork from result
  core_forked core result h answer = forked result h.0 (subst (λ x. IsForkAnswer at image x fork from result) h.1 answer)
