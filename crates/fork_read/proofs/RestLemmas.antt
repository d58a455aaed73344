-- What the rest of a whole btree's walk adds, down to its end or to a bad block.
use Rattle.std.proofs.Common.{◌≡◌, ℕ, zero, suc, List, [], ◌∷◌, ◌++◌, Option, Some, None, Result, Ok, Err, refl, ap, sym, subst, ◌∙◌, inl, inr, append-nil}
use Rattle.std.specs.Prelude.{◌⊎◌}
use Rattle.std.proofs.lemmas.List.{append_assoc}
use Rattle.geom.specs.Layout.{Layout, split_of}
use Rattle.dinode_core.specs.declared.inode.Core3.{Core3}
use Rattle.dinode_core.specs.declared.mapping.Mapping.{Mapping}
use Rattle.dinode_core.specs.ForkTree.{Image, Trail, Entry, ◌>>=◌, leaf_mappings, node_entries, walk_each, walk_in, with_mappings}
use Rattle.fork_read.specs.declared.tasks.Task.{Task}
use Rattle.fork_read.specs.Walk.{entry_of, passed_from, pruned, read_at, skipped_to, walk_from, walk_tasks}
use Rattle.fork_read.proofs.NextLemmas.{Begins, begins_as, begins_more}
use Rattle.fork_read.proofs.StandLemmas.{leaf_begins, node_begins, read_parts}
use Rattle.fork_read.proofs.WholeLemmas.{entries_same}

abbrev pub met_by : Result Trail Trail → List Mapping
met_by (Ok t) = t.mappings
met_by (Err t) = t.mappings

-- a walk adds these mappings
pub record Adds (t : Trail) (r : Result Trail Trail) : Type 0 where
  pub more : List Mapping
  pub split : met_by r ≡ t.mappings ++ more

-- an end at a bad block adds none, or begins at the key; each other one begins there
abbrev pub FromKey : ℕ → Result Trail Trail → List Mapping → Type 0
FromKey key (Ok t) more = Begins key more
FromKey key (Err t) more = (more ≡ []) ⊎ Begins key more

pub record AddsFrom (key : ℕ) (t : Trail) (r : Result Trail Trail) : Type 0 where
  pub more : List Mapping
  pub split : met_by r ≡ t.mappings ++ more
  pub from_key : FromKey key r more

then_adds : (t : Trail) (r : Result Trail Trail) (next : Trail → Result Trail Trail) → Adds t r → ((u : Trail) → Adds u (next u)) → Adds t (r >>= next)
then_adds t (Ok u) next h n =
    let k = n u in
    record { more = h.more ++ k.more; split = k.split ∙ ap (λ ms. ms ++ k.more) h.split ∙ append_assoc t.mappings h.more k.more }
then_adds t (Err u) next h n = record { more = h.more; split = h.split }

then_from : (key : ℕ) (t : Trail) (r : Result Trail Trail) (next : Trail → Result Trail Trail) → AddsFrom key t r → ((u : Trail) → Adds u (next u)) → AddsFrom key t (r >>= next)
then_from key t (Ok u) next h n =
    let k = n u in
    record { more = h.more ++ k.more; split = k.split ∙ ap (λ ms. ms ++ k.more) h.split ∙ append_assoc t.mappings h.more k.more; from_key = by_end (next u) }
  where
    by_end : (r : Result Trail Trail) → FromKey key r (h.more ++ (n u).more)
    by_end (Ok v) = begins_more key h.more (n u).more h.from_key
    by_end (Err v) = inr (begins_more key h.more (n u).more h.from_key)
then_from key t (Err u) next h n = h

forget : (key : ℕ) (t : Trail) (r : Result Trail Trail) → AddsFrom key t r → Adds t r
forget key t r h = record { more = h.more; split = h.split }

each_adds : (walk : Trail → Entry → Result Trail Trail) → ((t : Trail) (e : Entry) → AddsFrom e.key t (walk t e)) → (es : List Entry) (t : Trail) → Adds t (walk_each walk es t)
unfolding walk_each
each_adds walk h [] t = record { more = []; split = sym (append-nil t.mappings) }
each_adds walk h (e ∷ es) t = then_adds t (walk t e) (walk_each walk es) (forget e.key t (walk t e) (h t e)) (λ u. each_adds walk h es u)

first_adds : (walk : Trail → Entry → Result Trail Trail) → ((t : Trail) (e : Entry) → AddsFrom e.key t (walk t e)) → (e : Entry) (es : List Entry) (t : Trail) → AddsFrom e.key t (walk_each walk (e ∷ es) t)
unfolding walk_each
first_adds walk h e es t = then_from e.key t (walk t e) (walk_each walk es) (h t e) (λ u. each_adds walk h es u)

in_adds : (key : ℕ) (t : Trail) (o : Option (List ℕ)) (below : List ℕ → Result Trail Trail) → ((bytes : List ℕ) → o ≡ Some bytes → AddsFrom key t (below bytes)) → AddsFrom key t (walk_in o t below)
in_adds key t None below h = record { more = []; split = sym (append-nil t.mappings); from_key = inl refl }
in_adds key t (Some bytes) below h = h bytes refl

module _ (at : Layout) (image : Image) (core : Core3) where
  node_adds : (level : ℕ) (t u : Trail) (e f : Entry) (es all rest : List Entry) → u.mappings ≡ t.mappings → all ≡ es → es ≡ f ∷ rest → f.key ≡ e.key → ((t : Trail) (e : Entry) → AddsFrom e.key t (walk_from at image core 0 level t e)) → AddsFrom e.key t (walk_each (walk_from at image core 0 level) all u)
  node_adds level t u e f es all rest same a s k walk =
      let first = first_adds (walk_from at image core 0 level) walk f rest u in
      let here = subst (λ xs. AddsFrom f.key u (walk_each (walk_from at image core 0 level) xs u)) (sym (a ∙ s)) first in
      let keyed = subst (λ n. AddsFrom n u (walk_each (walk_from at image core 0 level) all u)) k here in
      record { more = keyed.more; split = keyed.split ∙ ap (λ ms. ms ++ keyed.more) same; from_key = keyed.from_key }

  pub block_adds : (level : ℕ) (t : Trail) (e : Entry) → AddsFrom e.key t (walk_from at image core 0 level t e)
  unfolding walk_from passed_from
  block_adds zero t e =
      in_adds e.key t (read_at at image core 0 zero (t.last zero) e (split_of at e.block)) (λ bytes. Ok (with_mappings (leaf_mappings bytes) (passed_from 0 zero e bytes t))) (λ bytes h.
      let parts = read_parts at image core 0 zero (t.last zero) e (split_of at e.block) bytes h in
      let first = leaf_begins at image core e parts.0 bytes parts.3 in
      record { more = leaf_mappings bytes; split = refl; from_key = begins_as e.key first.0 first.1 (leaf_mappings bytes) first.2 first.3 })
  block_adds (suc level) t e =
      in_adds e.key t (read_at at image core 0 (suc level) (t.last (suc level)) e (split_of at e.block)) (λ bytes. walk_each (walk_from at image core 0 level) (pruned (skipped_to 0 (t.last (suc level)) e.key) (node_entries bytes)) (passed_from 0 (suc level) e bytes t)) (λ bytes h.
      let parts = read_parts at image core 0 (suc level) (t.last (suc level)) e (split_of at e.block) bytes h in
      let first = node_begins at image core level e parts.0 bytes parts.3 in
      node_adds level t (passed_from 0 (suc level) e bytes t) e first.0 (node_entries bytes) (pruned (skipped_to 0 (t.last (suc level)) e.key) (node_entries bytes)) first.1 refl (entries_same (t.last (suc level)) e.key (node_entries bytes)) first.2 first.3 (block_adds level))

  pub tasks_add : (xs : List Task) (t : Trail) → Adds t (walk_tasks at image core 0 xs t)
  unfolding walk_tasks
  tasks_add [] t = record { more = []; split = sym (append-nil t.mappings) }
  tasks_add (x ∷ xs) t = then_adds t (walk_from at image core 0 x.level t (entry_of x)) (walk_tasks at image core 0 xs) (forget x.key t (walk_from at image core 0 x.level t (entry_of x)) (block_adds x.level t (entry_of x))) (λ u. tasks_add xs u)

  -- the rest begins at the key of the first subtree, if it adds a mapping
  pub rest_adds : (x : Task) (xs : List Task) (t : Trail) → AddsFrom x.key t (walk_tasks at image core 0 (x ∷ xs) t)
  unfolding walk_tasks
  rest_adds x xs t = then_from x.key t (walk_from at image core 0 x.level t (entry_of x)) (walk_tasks at image core 0 xs) (block_adds x.level t (entry_of x)) (λ u. tasks_add xs u)
