-- Finished steps leave all claims of a group.
use Rattle.std.proofs.Common.{◌≡◌, ℕ, ◌+◌, ◌*◌, Bool, true, false, cond, List, ◌∷◌, ◌++◌, map, filter, flat_map, refl, ap, sym, subst, ◌∙◌, eq-eqb}
use Rattle.std.specs.Prelude.{◌/◌, ◌%◌, if◌then◌else◌}
use Rattle.dinode_core.specs.declared.mapping.Fork.TheVariants as forks
use Rattle.fs_change.specs.Changes.{by_count, do_mapping, freed, give_free, known_spans, rmap_done}
use Rattle.fs_change.specs.Parts.{change_tree, edit, in_group, is_edited, records_in, tree_only, with_recs}
use Rattle.fs_change.specs.Records.{by_start, give_span, span}
use Rattle.fs_state.specs.Chunks.{chunks, inodes, inodes_in}
use Rattle.fs_state.specs.Claims.{Claimed, attribute, claimed_by, claims, fork_claims, fork_tree_claims, log_claims, mapping_claims, metadata_claims, read_fork}
use Rattle.fs_state.specs.Records.{all_kinds, tree_owner}
use Rattle.fs_state.specs.Lists.{numbers}
use Rattle.fs_model.specs.declared.claim.Claim.TheVariants.{Heads, List as FreeList, Tree, Reserve, Limbo, Chunk, Data, Attr}
use Rattle.fs_model.specs.declared.entry.Extent.{Extent}
use Rattle.fs_state.specs.Kinds.{RecOf}
use Rattle.fs_state.specs.State.{State, Group, Index, Owned, Readable, Reading, Unreadable, blocks_of, recs_of}
use Rattle.fs_state.specs.declared.intent.Intent.{Intent}
use Rattle.geom.specs.Layout.{group_len_of, inode_at}
use Rattle.rmap_recs.specs.Owners.{number_of}
use Rattle.rmap_recs.specs.declared.owner.Owner.TheVariants.{Fs, Ag, Inodes}
use Rattle.sblock.specs.declared.kind.Kind.{Kind}
use Rattle.sblock.specs.declared.kind.Kind.TheVariants.{Bno, Cnt, Rmap, Refc, Ino, Fino}
use Rattle.law_accounts.specs.Account.Accounts.{alone_at, ledger_of, owned_at}
use Rattle.law_accounts.specs.Account.Ledger.{Sound}
use Rattle.law_accounts.specs.Account.Stated.{ChunksStay, FreedStated, RmapDoneStated}
use Rattle.law_accounts.proofs.Account.Mappings.{rmap_done_sound}
use Rattle.law_accounts.proofs.Account.Runs.{freed_sound}

-- what of a group claims blocks is the same
pub record SameParts (p q : Group) : Type 0 where
  pub list : q.free_list ≡ p.free_list
  pub blocks : (k : Kind) → blocks_of (q.tree k).reading ≡ blocks_of (p.tree k).reading
  pub reserve : q.reserve ≡ p.reserve
  pub limbo : q.limbo ≡ p.limbo

pub same_parts : (p : Group) → SameParts p p
same_parts p = record { list = refl; blocks = λ k. refl; reserve = refl; limbo = refl }

pub both_parts : (p q r : Group) → SameParts p q → SameParts q r → SameParts p r
both_parts p q r s t = record { list = t.list ∙ s.list; blocks = λ k. t.blocks k ∙ s.blocks k; reserve = t.reserve ∙ s.reserve; limbo = t.limbo ∙ s.limbo }

module _ (a x : State) (g : ℕ) (at : x.geometry ≡ a.geometry) (fork : x.fork ≡ a.fork) (stay : ChunksStay a x) (same : SameParts (a.group g) (x.group g)) where
  chunks_same : (h : ℕ) → chunks x h ≡ chunks a h
  unfolding chunks
  chunks_same h = λ i. filter (λ u. stay h u i) (numbers 0 (group_len_of (at i) h / 8))

  inodes_same : inodes x ≡ inodes a
  unfolding inodes inodes_in
  inodes_same = λ i. flat_map (λ h. flat_map (λ u. map (λ n. inode_at (at i) h (8 * u + n / 8) (n % 8)) (numbers 0 64)) (chunks_same h i)) (numbers 0 (at i).agcount)

  metadata_same : metadata_claims x g ≡ metadata_claims a g
  unfolding metadata_claims
  metadata_same = λ i. claimed_by Heads (number_of Fs) 0 ∷ log_claims (at i).log g
      ++ map (claimed_by FreeList (number_of Ag)) (same.list i)
      ++ flat_map (λ k. map (claimed_by (Tree k) (tree_owner k)) (same.blocks k i)) all_kinds
      ++ map (λ (o : Owned). claimed_by Reserve o.owner o.block) (same.reserve i)
      ++ map (λ (o : Owned). claimed_by Limbo o.owner o.block) (same.limbo i)
      ++ flat_map (λ u. map (claimed_by Chunk (number_of Inodes)) (numbers (8 * u) 8)) (chunks_same g i)

  forks_same : fork_claims x g ≡ fork_claims a g
  unfolding fork_claims
  forks_same = λ i. flat_map (λ ino. mapping_claims (at i) g (Data ino) ino 0 (read_fork (fork i ino forks.Data)).mappings) (inodes_same i)
      ++ flat_map (λ ino. mapping_claims (at i) g (Attr ino) ino attribute (read_fork (fork i ino forks.Attr)).mappings) (inodes_same i)
      ++ flat_map (λ ino. fork_tree_claims (at i) g ino 0 (read_fork (fork i ino forks.Data)).blocks ++ fork_tree_claims (at i) g ino attribute (read_fork (fork i ino forks.Attr)).blocks) (inodes_same i)

  pub claims_same : claims x g ≡ claims a g
  unfolding claims
  claims_same = λ i. metadata_same i ++ forks_same i

-- ---- edits

pub recs_put : {R : Type 0} (recs : List R) (r : Reading R) → blocks_of (with_recs recs r) ≡ blocks_of r
recs_put recs (Readable old blocks) = refl
recs_put recs (Unreadable block fault claims) = refl

blocks_in_tree : (j k : Kind) (i : Index (RecOf j)) (f : (l : Kind) → Index (RecOf l)) → blocks_of i.reading ≡ blocks_of (f j).reading → blocks_of (tree_only j i f k).reading ≡ blocks_of (f k).reading
blocks_in_tree Bno Bno i f e = e
blocks_in_tree Cnt Cnt i f e = e
blocks_in_tree Rmap Rmap i f e = e
blocks_in_tree Refc Refc i f e = e
blocks_in_tree Ino Ino i f e = e
blocks_in_tree Fino Fino i f e = e
blocks_in_tree j k i f e = refl

pub edit_parts : (left : List Kind) (k : Kind) (f : List (RecOf k) → List (RecOf k)) (p : Group) → SameParts p (edit left k f p)
edit_parts left k f p = by (is_edited left p k)
  where
    by : (t : Bool) → SameParts p (if t then change_tree k (λ i. record i { reading = with_recs (f (recs_of i.reading)) i.reading }) p else p)
    by true = record { list = refl; blocks = λ j. blocks_in_tree k j (record (p.tree k) { reading = with_recs (f (recs_of (p.tree k).reading)) (p.tree k).reading }) p.tree (recs_put (f (recs_of (p.tree k).reading)) (p.tree k).reading); reserve = refl; limbo = refl }
    by false = same_parts p

pub own_group : (g : ℕ) (f : Group → Group) (a : State) → SameParts (a.group g) (f (a.group g)) → SameParts (a.group g) ((in_group g f a).group g)
own_group g f a s = subst (SameParts (a.group g)) (sym (ap (λ t. cond t (f (a.group g)) (a.group g)) (eq-eqb g g refl))) s

-- ---- steps

done_claims : (a : State) (left : List Kind) (c : ℕ) (i : Intent) (rest : List Intent) → ChunksStay a (rmap_done left c i rest a) → claims (rmap_done left c i rest a) i.group ≡ claims a i.group
unfolding rmap_done
done_claims a left c i rest stay = claims_same a (rmap_done left c i rest a) i.group refl refl stay (own_group i.group (edit left Rmap (do_mapping i.kind i)) a (edit_parts left Rmap (do_mapping i.kind i) (a.group i.group)))

pub rmap_done_stated : RmapDoneStated
rmap_done_stated a x left c ino g at n b lt w there stay row h =
    let i : Intent = row.0 in
    let rest : List Intent = row.1 in
    let y : State = rmap_done left c i rest a in
    let same : claims x g ≡ claims a g = ap (λ (z : State). claims z g) row.6 ∙ subst (λ (m : ℕ). claims y m ≡ claims a m) row.2.group (done_claims a left c i rest (subst (ChunksStay a) row.6 stay)) in
    subst (λ (cs : List Claimed). Sound (ledger_of x g b (owned_at b cs) (alone_at b cs))) (sym same)
    (rmap_done_sound a x left c ino g at n b (owned_at b (claims a g)) (alone_at b (claims a g)) lt w there row h)

pub given_parts : (left : List Kind) (e : Extent) (p : Group) → SameParts p (give_free left e p)
given_parts left e p =
    let one = edit_parts left Bno (give_span by_start (records_in p Bno) (span e.block e.count)) p in
    let two = edit_parts left Cnt (give_span by_count (known_spans p) (span e.block e.count)) (edit left Bno (give_span by_start (records_in p Bno) (span e.block e.count)) p) in
    record { list = two.list ∙ one.list; blocks = λ k. two.blocks k ∙ one.blocks k; reserve = two.reserve ∙ one.reserve; limbo = two.limbo ∙ one.limbo }

freed_claims : (a : State) (left : List Kind) (c : ℕ) (e : Extent) (rest : List Intent) → ChunksStay a (freed left c false e rest a) → claims (freed left c false e rest a) e.group ≡ claims a e.group
unfolding freed
freed_claims a left c e rest stay = claims_same a (freed left c false e rest a) e.group refl refl stay (own_group e.group (give_free left e) a (given_parts left e (a.group e.group)))

pub freed_stated : FreedStated
freed_stated a x left c g at n b lt w stay row h =
    let e : Extent = record { group = g; block = at; count = n } in
    let same : claims x g ≡ claims a g = ap (λ (z : State). claims z g) row.6 ∙ freed_claims a left c e row.1 (subst (ChunksStay a) row.6 stay) in
    subst (λ (cs : List Claimed). Sound (ledger_of x g b (owned_at b cs) (alone_at b cs))) (sym same)
    (freed_sound a x left c g at n b (owned_at b (claims a g)) (alone_at b (claims a g)) lt w row h)
