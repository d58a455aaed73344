-- What comes next of a whole btree's walk begins at the key of the first subtree that is left.
use Rattle.std.proofs.Common.{◌≡◌, ℕ, zero, suc, List, [], ◌∷◌, ◌++◌, refl, ap, sym, subst, ◌∙◌, inl, inr, append-nil}
use Rattle.std.specs.Prelude.{◌⊎◌}
use Rattle.std.proofs.lemmas.List.{append_assoc}
use Rattle.geom.specs.Layout.{Layout}
use Rattle.dinode_core.specs.declared.inode.Core3.{Core3}
use Rattle.dinode_core.specs.declared.mapping.Mapping.{Mapping}
use Rattle.dinode_core.specs.ForkTree.{Image, Trail, leaf_mappings, node_entries}
use Rattle.fork_read.specs.declared.tasks.Task.{Task}
use Rattle.fork_read.specs.Walk.{IsRead, Leaves, entry_of, tasks_of}
use Rattle.fork_read.proofs.StandLemmas.{leaf_begins, node_begins, own_mappings, took}
use Rattle.fork_read.proofs.WholeLemmas.{entries_same}

-- nothing came, or a mapping came first that begins at the key
abbrev pub Begins : ℕ → List Mapping → Type 0
Begins key [] = ⊥
Begins key (m ∷ ms) = m.offset ≡ key

-- no mapping came yet, and the first subtree has this key; or the first that came has it
pub record Waits (key : ℕ) (met : List Mapping) (ys : List Task) (now : List Mapping) : Type 0 where
  pub same : now ≡ met
  pub task : Task
  pub rest : List Task
  pub first : ys ≡ task ∷ rest
  pub at_key : task.key ≡ key

pub record Came (key : ℕ) (met now : List Mapping) : Type 0 where
  pub more : List Mapping
  pub split : now ≡ met ++ more
  pub begins : Begins key more

pub begins_more : (key : ℕ) (xs ys : List Mapping) → Begins key xs → Begins key (xs ++ ys)
begins_more key [] ys h = absurd h
begins_more key (x ∷ xs) ys h = h

pub begins_as : (key : ℕ) (m : Mapping) (rest ms : List Mapping) → ms ≡ m ∷ rest → m.offset ≡ key → Begins key ms
begins_as key m rest ms e h = subst (Begins key) (sym e) h

module _ (at : Layout) (image : Image) (core : Core3) where
  wait_on : (key level own block : ℕ) (met : List Mapping) (rest zs : List Task) (t u : Trail) → own ≡ key → t.mappings ≡ met → IsRead at image core 0 (record { level = level; key = own; block = block }) rest t zs u → Waits key met zs u.mappings ⊎ Came key met u.mappings
  wait_on key zero own block met rest zs t u k e r =
      let x : Task = record { level = zero; key = own; block = block } in
      let one = took at image core 0 x rest zs t u r in
      let first = leaf_begins at image core (entry_of x) one.reading.place r.bytes one.reading.right in
      inr (record { more = leaf_mappings r.bytes; split = one.mappings ∙ ap (λ ms. ms ++ leaf_mappings r.bytes) e; begins = begins_as key first.0 first.1 (leaf_mappings r.bytes) first.2 (first.3 ∙ k) })
  wait_on key (suc level) own block met rest zs t u k e r =
      let x : Task = record { level = suc level; key = own; block = block } in
      let one = took at image core 0 x rest zs t u r in
      let first = node_begins at image core level (entry_of x) one.reading.place r.bytes one.reading.right in
      let all = entries_same (t.last (suc level)) own (node_entries r.bytes) in
      inl (record {
        same = one.mappings ∙ append-nil t.mappings ∙ e;
        task = record { level = level; key = first.0.key; block = first.0.block };
        rest = tasks_of level first.1 ++ rest;
        first = r.tasks ∙ ap (λ es. tasks_of level es ++ rest) (all ∙ first.2);
        at_key = first.3 ∙ k;
      })

  came_on : (key : ℕ) (met : List Mapping) (x : Task) (rest zs : List Task) (t u : Trail) → Came key met t.mappings → IsRead at image core 0 x rest t zs u → Came key met u.mappings
  came_on key met x rest zs t u c r =
      let one = took at image core 0 x rest zs t u r in
      let own = own_mappings x.level r.bytes in
      record { more = c.more ++ own; split = one.mappings ∙ ap (λ ms. ms ++ own) c.split ∙ append_assoc met c.more own; begins = begins_more key c.more own c.begins }

  wait_one : (key : ℕ) (met : List Mapping) (y : Task) (rest zs : List Task) (t u : Trail) → Waits key met (y ∷ rest) t.mappings → IsRead at image core 0 y rest t zs u → Waits key met zs u.mappings ⊎ Came key met u.mappings
  wait_one key met y rest zs t u w r =
      let same : w.task ≡ y = cc in
      wait_on key y.level y.key y.block met rest zs t u (ap (λ (z : Task). z.key) (sym same) ∙ w.at_key) w.same r

  pub next_begins : (x : Task) (xs ys : List Task) (t u : Trail) (n : ℕ) → Leaves at image core 0 (x ∷ xs) t n ys u → Waits x.key t.mappings ys u.mappings ⊎ Came x.key t.mappings u.mappings
  unfolding Leaves
  next_begins x xs ys t u zero h = inl (record { same = ap (λ (v : Trail). v.mappings) h.1; task = x; rest = xs; first = h.0; at_key = refl })
  next_begins x xs ys t u (suc n) h =
      elim (next_begins x xs (h.task ∷ h.rest) t h.trail n h.before) [
        | inl w ↦ wait_one x.key t.mappings h.task h.rest ys h.trail u w h.read
        | inr c ↦ inr (came_on x.key t.mappings h.task h.rest ys h.trail u c h.read)
      ]
