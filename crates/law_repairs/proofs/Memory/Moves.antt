-- Edited trees are cut into blocks anew: none comes or goes, those of other trees stay, and limbo gains blocks of trees alone.
use Rattle.std.proofs.Common.{◌≡◌, ◌⊎◌, ℕ, ◌==◌, ◌&&◌, ◌||◌, Bool, true, false, List, [], ◌∷◌, ◌++◌, drop, filter, flat_map, cond, refl, ap, sym, subst, ◌∙◌, inl, inr, eqb-true}
use Rattle.std.specs.List.{list_all, list_any}
use Rattle.std.proofs.lemmas.Bool.{and_parts, true≢false}
use Rattle.law_accounts.proofs.Account.Framed.{SameParts}
use Rattle.fs_change.specs.Loose.{Inside, MovesBlocks, count_used, lost_in, may_join, owners_follow, pool_of, tree_blocks}
use Rattle.fs_change.specs.Met.{give_each, take_each}
use Rattle.fs_change.specs.Parts.{in_blocks, in_trees}
use Rattle.fs_change.specs.Switch.{has_owned}
use Rattle.fs_state.specs.Records.{all_kinds, tree_owner}
use Rattle.fs_state.specs.Edits.{number_of as kind_number}
use Rattle.fs_state.specs.Group.{is_among}
use Rattle.fs_state.specs.Kinds.{RecOf}
use Rattle.fs_state.specs.State.{Group, Index, Owned, Readable, Reading, Unreadable, blocks_in, blocks_of, is_readable}
use Rattle.law_repairs.proofs.Move.Moving.{by_tree}
use Rattle.law_repairs.proofs.Move.Pairs.{Among, among_of, each_of}
use Rattle.law_repairs.specs.Move.Moving.{is_own}
use Rattle.law_repairs.proofs.Order.Claims.{tree_is_plain}
use Rattle.law_repairs.proofs.Order.Switching.{tree_is_other}
use Rattle.law_repairs.proofs.Order.Tidy.{IsTreeOwner}
use Rattle.law_repairs.proofs.Repair.Switches.{placed_other}
use Rattle.rmap_recs.specs.Owners.{is_inode, number_of}
use Rattle.rmap_recs.specs.declared.owner.Owner.TheVariants.{Ag}
use Rattle.sblock.specs.declared.kind.Kind.{Kind}
use Rattle.sblock.specs.declared.kind.Kind.TheVariants.{Bno, Cnt, Rmap, Refc, Ino, Fino}
use Rattle.tree_defs.specs.Lists.{is_in, times}
use Rattle.law_repairs.proofs.Memory.Edits.{Stays, edit_stays}

-- ---- owners of trees

-- a pair with the owner of one of these trees
abbrev pub OwnedBy : List Kind → Owned → Type 0
OwnedBy [] o = ⊥
OwnedBy (k ∷ ks) o = (o.owner ≡ tree_owner k) ⊎ OwnedBy ks o

pub by_tree_owner : (ks : List Kind) (o : Owned) → OwnedBy ks o → IsTreeOwner o
by_tree_owner [] o h = absurd h
by_tree_owner (k ∷ ks) o (inl e) = (ap is_inode e ∙ tree_is_plain k, λ is. tree_is_other k (sym e ∙ is))
by_tree_owner (k ∷ ks) o (inr h) = by_tree_owner ks o h

own_owner : (k : Kind) → is_own k ≡ true → tree_owner k ≡ number_of Ag
own_owner Bno h = refl
own_owner Cnt h = refl
own_owner Rmap h = refl
own_owner k h = absurd (true≢false (sym h))

pub by_own : (ks : List Kind) (o : Owned) → list_all is_own ks ≡ true → OwnedBy ks o → o.owner ≡ number_of Ag
by_own [] o own h = absurd h
by_own (k ∷ ks) o own (inl e) = e ∙ own_owner k (and_parts (is_own k) (list_all is_own ks) own).0
by_own (k ∷ ks) o own (inr h) = by_own ks o (and_parts (is_own k) (list_all is_own ks) own).1 h

any_owned : (ks : List Kind) (o : Owned) (f : Kind → Bool) → list_any (λ k. (o.owner == tree_owner k) && f k) ks ≡ true → OwnedBy ks o
any_owned [] o f h = absurd (true≢false (sym h))
any_owned (k ∷ ks) o f h = (elim ((o.owner == tree_owner k) && f k) as (λ b. ((o.owner == tree_owner k) && f k) ≡ b → (b || list_any (λ l. (o.owner == tree_owner l) && f l) ks) ≡ true → OwnedBy (k ∷ ks) o) [
  | true ↦ λ here r. inl (eqb-true o.owner (tree_owner k) (and_parts (o.owner == tree_owner k) (f k) here).0)
  | false ↦ λ here r. inr (any_owned ks o f r)
]) refl h

-- limbo had the pair, or it is of an edited tree
joined : (ks : List Kind) (p : Group) (o : Owned) → may_join ks p o ≡ true → Among o p.limbo ⊎ OwnedBy ks o
joined ks p o h = (elim (has_owned p.limbo o) as (λ b. has_owned p.limbo o ≡ b → (b || list_any (λ k. (o.owner == tree_owner k) && (is_in o.block (tree_blocks p k) || is_in o.block p.free_list)) ks) ≡ true → Among o p.limbo ⊎ OwnedBy ks o) [
  | true ↦ λ there r. inl (among_of o p.limbo there)
  | false ↦ λ there r. inr (any_owned ks o (λ k. is_in o.block (tree_blocks p k) || is_in o.block p.free_list) r)
]) refl h

-- ---- trees in other blocks

readable_put : {R : Type 0} (blocks : List ℕ) (r : Reading R) → is_readable (in_blocks blocks r) ≡ is_readable r
readable_put blocks (Readable recs old) = refl
readable_put blocks (Unreadable block fault claims) = refl

-- a tree can be read as before, and is as trusted
abbrev Alike : {R S : Type 0} → Index R → Index S → Type 0
Alike i j = (is_readable j.reading ≡ is_readable i.reading) × (j.trust ≡ i.trust)

placed : (blocks : Kind → List ℕ) (ks : List Kind) (p : Group) (j : Kind) → Alike (p.tree j) ((in_trees blocks ks p).tree j)
placed blocks [] p j = (refl, refl)
placed blocks (k ∷ ks) p j =
    let q : Group = in_trees blocks ks p in
    by_tree (λ (l : Kind) (i : Index (RecOf l)). Alike (p.tree l) i) k j (record (q.tree k) { reading = in_blocks (blocks k) (q.tree k).reading }) q.tree
    (readable_put (blocks k) (q.tree k).reading ∙ (placed blocks ks p k).0, (placed blocks ks p k).1) (λ l. placed blocks ks p l)

placed_reserve : (blocks : Kind → List ℕ) (ks : List Kind) (p : Group) → (in_trees blocks ks p).reserve ≡ p.reserve
placed_reserve blocks [] p = refl
placed_reserve blocks (k ∷ ks) p = placed_reserve blocks ks p

-- ---- a group behind such edits

-- What follows for the group?
pub record Follows (ks : List Kind) (p q : Group) : Type 0 where
  pub readable : (k : Kind) → is_readable (q.tree k).reading ≡ is_readable (p.tree k).reading
  pub trust : (k : Kind) → (q.tree k).trust ≡ (p.tree k).trust
  pub others : (k : Kind) → is_among k ks ≡ false → tree_blocks q k ≡ tree_blocks p k
  pub reserve : q.reserve ≡ p.reserve
  pub limbo : (o : Owned) → Among o q.limbo → Among o p.limbo ⊎ OwnedBy ks o
  pub pool : (b : ℕ) → times b (pool_of q) ≡ times b (pool_of p)

module _ (kept : Bool) (left ks : List Kind) (p q : Group) (m : MovesBlocks kept left ks p q) where
  abbrev laid : Group
  laid = record (in_trees m.blocks ks p) { free_list = drop (count_used p.free_list q.free_list) p.free_list ++ m.freed; limbo = m.limbo }

  followed : Stays laid (owners_follow left p laid)
  followed = edit_stays left Rmap (λ recs. give_each (lost_in laid p) (take_each (lost_in p laid) recs)) laid

  limbo_is : q.limbo ≡ m.limbo
  limbo_is = ap (λ (r : Group). r.limbo) m.is ∙ followed.parts.limbo

  moved_follows : Follows ks p q
  moved_follows = record {
    readable = λ k. ap (λ (r : Group). is_readable (r.tree k).reading) m.is ∙ followed.readable k ∙ (placed m.blocks ks p k).0;
    trust = λ k. ap (λ (r : Group). (r.tree k).trust) m.is ∙ followed.trust k ∙ (placed m.blocks ks p k).1;
    others = λ k out. ap (λ (r : Group). tree_blocks r k) m.is ∙ followed.parts.blocks k ∙ ap (λ (i : Index (RecOf k)). blocks_of i.reading) (placed_other m.blocks ks p k out);
    reserve = ap (λ (r : Group). r.reserve) m.is ∙ followed.parts.reserve ∙ placed_reserve m.blocks ks p;
    limbo = λ o i. joined ks p o (each_of (may_join ks p) m.limbo o m.limbo_gains (subst (Among o) limbo_is i));
    pool = m.none_lost;
  }

pub inside_follows : (kept : Bool) (left ks : List Kind) (p q : Group) → Inside kept left ks p q → Follows ks p q
inside_follows kept left [] p q i = subst (Follows [] p) (sym i) (record { readable = λ k. refl; trust = λ k. refl; others = λ k out. refl; reserve = refl; limbo = λ o there. inl there; pool = λ b. refl })
inside_follows kept left (k ∷ ks) p q i = moved_follows kept left (k ∷ ks) p q i

-- ---- which trees are edited

apart : (test : Kind → Bool) (j k : Kind) → test j ≡ true → test k ≡ false → (kind_number j == kind_number k) ≡ false
apart test Bno Bno e h = absurd (true≢false (sym e ∙ h))
apart test Cnt Cnt e h = absurd (true≢false (sym e ∙ h))
apart test Rmap Rmap e h = absurd (true≢false (sym e ∙ h))
apart test Refc Refc e h = absurd (true≢false (sym e ∙ h))
apart test Ino Ino e h = absurd (true≢false (sym e ∙ h))
apart test Fino Fino e h = absurd (true≢false (sym e ∙ h))
apart test j k e h = refl

-- one that fails the test isn't
pub not_edited : (test : Kind → Bool) (ks : List Kind) (k : Kind) → test k ≡ false → is_among k (filter test ks) ≡ false
not_edited test [] k h = refl
not_edited test (j ∷ js) k h = (elim (test j) as (λ t. test j ≡ t → is_among k (cond t (j ∷ filter test js) (filter test js)) ≡ false) [
  | true ↦ λ e. ap (λ b. b || is_among k (filter test js)) (apart test j k e h) ∙ not_edited test js k h
  | false ↦ λ e. not_edited test js k h
]) refl

-- ---- parts that are the same

pub pool_same : (p q : Group) → SameParts p q → (b : ℕ) → times b (pool_of q) ≡ times b (pool_of p)
pool_same p q s b = λ i. times b ((s.list i ++ flat_map (λ (k : Kind). s.blocks k i) all_kinds) ++ blocks_in (s.limbo i))
