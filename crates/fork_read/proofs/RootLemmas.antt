-- What a btree's root has room for.
use Rattle.std.proofs.Common.{◌≡◌, ℕ, ◌+◌, ◌-◌, ◌*◌, ◌<◌, ◌≤◌, Bool, true, false, List, [], ◌++◌, Option, Some, None, refl, sym, subst, arith}
use Rattle.std.specs.Prelude.{nat_le, nat_lt, if◌then◌else◌}
use Rattle.std.proofs.lemmas.Bool.{and_parts, leb-true}
use Rattle.std.proofs.lemmas.Bool.Decides.{nat_tests}
use Rattle.byte_fields.proofs.TestLemmas.{all_pass}
use Rattle.dinode_core.specs.declared.inode.Core3.{Core3}
use Rattle.dinode_core.specs.declared.mapping.Fork.{Fork}
use Rattle.dinode_core.specs.declared.shape.Format.{Format}
use Rattle.dinode_core.specs.declared.shape.Format.TheVariants.{Dev, Local, Extents, Btree}
use Rattle.dinode_core.specs.Inline.{root_level, root_keys, key_room, form_fault, form_tests, has_form, has_root_level, keys_fit}
use Rattle.dinode_core.specs.Shape.{size_of, area_of, is_absent, format_of}
use Rattle.dinode_core.specs.ForkTree.{entries, has_tree, is_tree, root_entries}
use Rattle.dinode_core.proofs.InlineLemmas.{eight_bytes}
use Rattle.fork_read.specs.declared.tasks.Task.{Task}
use Rattle.fork_read.specs.Answers.{AllLow}
use Rattle.fork_read.specs.Walk.{first_tasks, pruned, tasks_of}
use Rattle.fork_read.proofs.WalkLemmas.{low_tasks}

pub record Root (core : Core3) (fork : Fork) : Type 0 where
  pub inside : core.forkoff < 42
  pub low : 1 ≤ root_level (area_of core fork)
  pub high : root_level (area_of core fork) ≤ 9
  pub room : root_keys (area_of core fork) ≤ key_room (size_of core fork)
  pub size : 8 ≤ size_of core fork

pub is_there : (absent : Bool) (format : Option Format) → (if absent then false else has_tree format) ≡ true → (absent ≡ false) × (format ≡ Some Btree)
is_there true format h = cc
is_there false None h = cc
is_there false (Some Dev) h = cc
is_there false (Some Local) h = cc
is_there false (Some Extents) h = cc
is_there false (Some Btree) h = (refl, refl)

pub root_facts : (core : Core3) (fork : Fork) → form_fault core fork ≡ None → is_tree core fork ≡ true → Root core fork
unfolding form_fault is_tree has_root_level keys_fit
root_facts core fork form tree =
    let there = is_there (is_absent core fork) (format_of core fork) tree in
    let pass = all_pass (form_tests core fork) (rw there.0 at form) in
    let shape = and_parts (nat_lt core.forkoff 42) (has_form (format_of core fork) (area_of core fork)) pass.0 in
    let inside : core.forkoff < 42 = grind (arith, nat_tests, shape.0) in
    let level = rw there.1 at shape.1 in
    let keys = rw there.1 at pass.1.0 in
    let two = and_parts (nat_le 1 (root_level (area_of core fork))) (nat_le (root_level (area_of core fork)) 9) level in
    record {
      inside = inside;
      low = leb-true 1 (root_level (area_of core fork)) two.0;
      high = leb-true (root_level (area_of core fork)) 9 two.1;
      room = leb-true (root_keys (area_of core fork)) (key_room (size_of core fork)) keys;
      size = eight_bytes core fork inside there.0;
    }

pub first_pushed : (core : Core3) (fork : Fork) (from : ℕ) (area : List ℕ) (room : ℕ) (tasks old : List Task) → area ≡ area_of core fork → room ≡ key_room (size_of core fork) → old ≡ [] → tasks ≡ tasks_of (root_level area - 1) (pruned from (entries (root_keys area) 4 (4 + 8 * room) area)) ++ old → tasks ≡ first_tasks core fork from ++ []
first_pushed core fork from area room tasks old a r o h =
    let none = subst (λ (xs : List Task). tasks ≡ tasks_of (root_level area - 1) (pruned from (entries (root_keys area) 4 (4 + 8 * room) area)) ++ xs) o h in
    subst (λ (xs : List ℕ). tasks ≡ tasks_of (root_level xs - 1) (pruned from (entries (root_keys xs) 4 (4 + 8 * key_room (size_of core fork)) xs)) ++ []) a (subst (λ (n : ℕ). tasks ≡ tasks_of (root_level area - 1) (pruned from (entries (root_keys area) 4 (4 + 8 * n) area)) ++ []) r none)

pub low_first : (core : Core3) (fork : Fork) (from : ℕ) (area : List ℕ) (room : ℕ) (tasks old : List Task) → 1 ≤ root_level (area_of core fork) → root_level (area_of core fork) ≤ 9 → area ≡ area_of core fork → room ≡ key_room (size_of core fork) → old ≡ [] → tasks ≡ tasks_of (root_level area - 1) (pruned from (entries (root_keys area) 4 (4 + 8 * room) area)) ++ old → AllLow tasks
low_first core fork from area room tasks old low high a r o h =
    subst AllLow (sym (first_pushed core fork from area room tasks old a r o h)) (low_tasks (root_level (area_of core fork) - 1) (pruned from (root_entries core fork)) [] (omega (arith, low, high)) tt)
