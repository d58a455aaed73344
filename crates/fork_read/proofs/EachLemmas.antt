-- A whole btree, one subtree after the other, and how many blocks are read of it.
use Rattle.std.proofs.Common.{◌≡◌, ℕ, zero, suc, ◌+◌, ◌-◌, ◌*◌, ◌<◌, ◌≤◌, Bool, true, false, List, [], ◌∷◌, ◌++◌, length, Option, Some, None, Result, Ok, Err, refl, ap, sym, subst, ◌∙◌, arith}
use Rattle.byte_fields.specs.Fields.{field}
use Rattle.geom.specs.Layout.{Layout, split_of}
use Rattle.dinode_core.specs.declared.inode.Core3.{Core3}
use Rattle.dinode_core.specs.declared.mapping.Fork.{Fork}
use Rattle.dinode_core.specs.declared.mapping.ForkError.{ForkError}
use Rattle.dinode_core.specs.declared.mapping.ForkError.TheVariants.{Fault, Memory as NoMemory}
use Rattle.dinode_core.specs.declared.mapping.ForkFault.{ForkFault}
use Rattle.dinode_core.specs.Core.{core_fault, core_of}
use Rattle.dinode_core.specs.Inline.{Refuses, first_bad, form_fault, inline_fault, inline_mappings, key_room, root_keys, root_level}
use Rattle.dinode_core.specs.Shape.{area_of, size_of}
use Rattle.dinode_core.specs.ForkTree.{Image, Trail, TreeBlock, Entry, ◌>>=◌, entries, is_tree, met_in, met_of, node_entries, walk_fault, walk_each, walk_tree, root_entries, start}
use Rattle.fork_read.specs.declared.tasks.Table.{Table}
use Rattle.fork_read.specs.declared.fault.ReadFault.{ReadFault}
use Rattle.fork_read.specs.declared.fault.ReadFault.TheVariants.{Fork as IsFork, Core as IsCoreFault, Failed, Memory}
use Rattle.fork_read.specs.declared.tasks.Task.{Task}
use Rattle.fork_read.specs.Answers.{IsOutside, judged}
use Rattle.fork_read.specs.First.{IsFirst, IsFirstOf, IsShown, ended, entries_in, most_met, reads_of, walk_below, way_of}
use Rattle.fork_read.specs.Pieces.{IsCore, inode_bytes}
use Rattle.fork_read.specs.Walk.{entry_of, passed_from, read_at, taken_in, walk_from}
use Rattle.fork_read.proofs.FirstLemmas.{shown_first}
use Rattle.fork_read.proofs.WalkLemmas.{bad_level, leaf_level, node_level, taken_leaf, taken_node}
use Rattle.fork_read.proofs.WholeLemmas.{else_parts, entries_same, resumed_same, walk_same}

length_last : (bs : List TreeBlock) (b : TreeBlock) → length (bs ++ b ∷ []) ≡ length bs + 1
length_last [] b = refl
length_last (x ∷ bs) b = let rest = length_last bs b in omega (arith, rest)

-- a block that is taken in is one more
pub one_taken : (level : ℕ) (e : Entry) (bytes : List ℕ) (t : Trail) → length (taken_in 0 level e bytes t).blocks ≡ length t.blocks + 1
unfolding passed_from
one_taken zero e bytes t = rw (resumed_same (t.last zero) e.key) (length_last t.blocks (record { block = e.block; before = length t.mappings }))
one_taken (suc level) e bytes t = rw (resumed_same (t.last (suc level)) e.key) (length_last t.blocks (record { block = e.block; before = length t.mappings }))

-- the first of these entries, and the others
entries_first : (count keys pointers i : ℕ) (bytes : List ℕ) → i < count → entries (count - i) (keys + 8 * i) (pointers + 8 * i) bytes ≡ record { key = field 8 bytes (keys + 8 * i); block = field 8 bytes (pointers + 8 * i) } ∷ entries (count - (i + 1)) (keys + 8 * (i + 1)) (pointers + 8 * (i + 1)) bytes
unfolding entries
entries_first count keys pointers i bytes lt =
    let a : count - i ≡ suc (count - (i + 1)) = omega (arith, lt) in
    let k : keys + 8 * (i + 1) ≡ keys + 8 * i + 8 = omega arith in
    let p : pointers + 8 * (i + 1) ≡ pointers + 8 * i + 8 = omega arith in
    rw (a, k, p) refl

no_entries : (count keys pointers i : ℕ) (bytes : List ℕ) → count ≤ i → entries (count - i) (keys + 8 * i) (pointers + 8 * i) bytes ≡ []
unfolding entries
no_entries count keys pointers i bytes le =
    let none : count - i ≡ 0 = omega (arith, le) in
    rw none refl

-- what is left of a table's entries from number i on
pub left_in : Table → ℕ → List ℕ → List Entry
left_in table i bytes = entries (table.count - i) (table.keys + 8 * i) (table.pointers + 8 * i) bytes

-- a step, and what comes behind it
grown : (r : Result Trail Trail) (next : Trail → Result Trail Trail) (t : Trail) → length t.blocks ≤ reads_of r → ((u : Trail) → length u.blocks ≤ reads_of (next u)) → length t.blocks ≤ reads_of (r >>= next)
grown (Ok u) next t here rest = let more = rest u in omega (arith, here, more)
grown (Err u) next t here rest = here

each_grows : (f : Trail → Entry → Result Trail Trail) → ((t : Trail) (e : Entry) → length t.blocks ≤ reads_of (f t e)) → (es : List Entry) (t : Trail) → length t.blocks ≤ reads_of (walk_each f es t)
unfolding walk_each
each_grows f grows [] t = omega arith
each_grows f grows (e ∷ es) t = grown (f t e) (walk_each f es) t (grows t e) (each_grows f grows es)

module _ (at : Layout) (image : Image) (core : Core3) where
  abbrev found : ℕ → Entry → Trail → Option (List ℕ)
  found level e t = read_at at image core 0 level (t.last level) e (split_of at e.block)

  abbrev walk : ℕ → Trail → Entry → Result Trail Trail
  walk level = walk_from at image core 0 level

  as_each : (n level : ℕ) (es : List Entry) (t : Trail) → n ≡ level → walk_below at image core n es t ≡ walk_each (walk level) es t
  unfolding walk_below
  as_each n level es t same = ap (λ (k : ℕ). walk_each (walk_from at image core 0 k) es t) same

  -- a sound leaf is passed
  pub leaf_walked : (level : ℕ) (e : Entry) (t u : Trail) (bytes : List ℕ) → level ≡ 0 → found level e t ≡ Some bytes → u ≡ taken_in 0 level e bytes t → walk level t e ≡ Ok u
  leaf_walked level e t u bytes low h taken =
      let same : u ≡ _ = taken ∙ taken_leaf at image core 0 level e bytes t low in
      leaf_level at image core 0 level e t bytes low h ∙ (λ i. Ok (sym same i))

  -- a sound node is its entries' walk
  pub node_walked : (level : ℕ) (e : Entry) (t u : Trail) (bytes : List ℕ) → 0 < level → found level e t ≡ Some bytes → u ≡ taken_in 0 level e bytes t → walk level t e ≡ walk_below at image core (level - 1) (node_entries bytes) u
  unfolding walk_below
  node_walked level e t u bytes high h taken =
      let same : u ≡ _ = taken ∙ taken_node at image core 0 level e bytes t high in
      node_level at image core 0 level e t bytes high h
      ∙ (λ i. walk_each (walk_from at image core 0 (level - 1)) (entries_same (t.last level) e.key (node_entries bytes) i) (sym same i))

  -- each walk reads a block at least
  pub one_read : (level : ℕ) (t : Trail) (e : Entry) → length t.blocks + 1 ≤ reads_of (walk level t e)
  one_read zero t e = by_found (found zero e t) refl
    where
      by_found : (o : Option (List ℕ)) → found zero e t ≡ o → length t.blocks + 1 ≤ reads_of (walk zero t e)
      by_found None h = rw (bad_level at image core 0 zero e t h) (omega arith)
      by_found (Some bytes) h =
          let one = one_taken zero e bytes t in
          rw (leaf_walked zero e t (taken_in 0 zero e bytes t) bytes refl h refl) (omega (arith, one))
  one_read (suc level) t e = by_found (one_read level) (found (suc level) e t) refl
    where
      by_found : ((v : Trail) (x : Entry) → length v.blocks + 1 ≤ reads_of (walk level v x)) → (o : Option (List ℕ)) → found (suc level) e t ≡ o → length t.blocks + 1 ≤ reads_of (walk (suc level) t e)
      by_found lower None h = rw (bad_level at image core 0 (suc level) e t h) (omega arith)
      by_found lower (Some bytes) h =
          let u : Trail = taken_in 0 (suc level) e bytes t in
          let one : length u.blocks ≡ length t.blocks + 1 = one_taken (suc level) e bytes t in
          let low : suc level - 1 ≡ level = omega arith in
          let rest : length u.blocks ≤ reads_of (walk_each (walk level) (node_entries bytes) u) = each_grows (walk level) (λ v x. let some = lower v x in omega (arith, some)) (node_entries bytes) u in
          let same : walk (suc level) t e ≡ walk_each (walk level) (node_entries bytes) u = node_walked (suc level) e t u bytes (omega arith) h refl ∙ as_each (suc level - 1) level (node_entries bytes) u low in
          rw same (omega (arith, one, rest))

  pub grows : (level : ℕ) (t : Trail) (e : Entry) → length t.blocks ≤ reads_of (walk level t e)
  grows level t e = let one = one_read level t e in omega (arith, one)

  -- ---- a loop over a table's entries

  pub first_left : (level : ℕ) (table : Table) (bytes : List ℕ) (t : Trail) → walk_below at image core level (left_in table 0 bytes) t ≡ walk_below at image core level (entries_in table bytes) t
  unfolding walk_below walk_each left_in entries
  first_left level table bytes t =
      let a : table.count - 0 ≡ table.count = omega arith in
      let k : table.keys + 8 * 0 ≡ table.keys = omega arith in
      let p : table.pointers + 8 * 0 ≡ table.pointers = omega arith in
      rw (a, k, p) refl

  -- the entry of number i comes next
  pub next_left : (level : ℕ) (table : Table) (i : ℕ) (bytes : List ℕ) (t : Trail) → i < table.count → walk_below at image core level (left_in table i bytes) t ≡ (walk level t (record { key = field 8 bytes (table.keys + 8 * i); block = field 8 bytes (table.pointers + 8 * i) }) >>= walk_each (walk level) (left_in table (i + 1) bytes))
  unfolding walk_below walk_each left_in entries
  next_left level table i bytes t lt =
      let x : Entry = record { key = field 8 bytes (table.keys + 8 * i); block = field 8 bytes (table.pointers + 8 * i) } in
      ap (λ es. walk_each (walk level) es t) (entries_first table.count table.keys table.pointers i bytes lt)

  pub goes_on : (level : ℕ) (table : Table) (i : ℕ) (bytes : List ℕ) (t u : Trail) (whole : Result Trail Trail) (e : Entry) → i < table.count → e ≡ record { key = field 8 bytes (table.keys + 8 * i); block = field 8 bytes (table.pointers + 8 * i) } → walk_below at image core level (left_in table i bytes) t ≡ whole → walk level t e ≡ Ok u → walk_below at image core level (left_in table (i + 1) bytes) u ≡ whole
  unfolding walk_below
  goes_on level table i bytes t u whole e lt is left done =
      sym (next_left level table i bytes t lt ∙ ap (λ x. walk level t x >>= walk_each (walk level) (left_in table (i + 1) bytes)) (sym is) ∙ ap (λ r. r >>= walk_each (walk level) (left_in table (i + 1) bytes)) done) ∙ left

  pub ends_here : (level : ℕ) (table : Table) (i : ℕ) (bytes : List ℕ) (t u : Trail) (whole : Result Trail Trail) (e : Entry) → i < table.count → e ≡ record { key = field 8 bytes (table.keys + 8 * i); block = field 8 bytes (table.pointers + 8 * i) } → walk_below at image core level (left_in table i bytes) t ≡ whole → walk level t e ≡ Err u → whole ≡ Err u
  unfolding walk_below
  ends_here level table i bytes t u whole e lt is left done =
      sym left ∙ next_left level table i bytes t lt ∙ ap (λ x. walk level t x >>= walk_each (walk level) (left_in table (i + 1) bytes)) (sym is) ∙ ap (λ r. r >>= walk_each (walk level) (left_in table (i + 1) bytes)) done

  pub all_walked : (level : ℕ) (table : Table) (i : ℕ) (bytes : List ℕ) (t : Trail) (whole : Result Trail Trail) → table.count ≤ i → walk_below at image core level (left_in table i bytes) t ≡ whole → whole ≡ Ok t
  unfolding walk_below walk_each left_in entries
  all_walked level table i bytes t whole le left =
      sym left ∙ ap (λ es. walk_each (walk level) es t) (no_entries table.count table.keys table.pointers i bytes le)

  -- what the next entry reads is part of what all read
  pub part_read : (level : ℕ) (table : Table) (i : ℕ) (bytes : List ℕ) (t : Trail) (whole : Result Trail Trail) (e : Entry) → i < table.count → e ≡ record { key = field 8 bytes (table.keys + 8 * i); block = field 8 bytes (table.pointers + 8 * i) } → walk_below at image core level (left_in table i bytes) t ≡ whole → reads_of (walk level t e) ≤ reads_of whole
  unfolding walk_below
  part_read level table i bytes t whole e lt is left = by_end (walk level t e) refl
    where
      by_end : (r : Result Trail Trail) → walk level t e ≡ r → reads_of (walk level t e) ≤ reads_of whole
      by_end (Ok u) h =
          let on = goes_on level table i bytes t u whole e lt is left h in
          let rest = each_grows (walk level) (grows level) (left_in table (i + 1) bytes) u in
          let more : length u.blocks ≤ reads_of whole = subst (λ (r : Result Trail Trail). length u.blocks ≤ reads_of r) on rest in
          rw h more
      by_end (Err u) h =
          let over = ends_here level table i bytes t u whole e lt is left h in
          rw (h, over) (omega arith)

  -- ---- the subtree of number i, as the code has it

  abbrev entry_of_table : Table → ℕ → List ℕ → Entry
  entry_of_table table i bytes = record { key = field 8 bytes (table.keys + 8 * i); block = field 8 bytes (table.pointers + 8 * i) }

  abbrev pub IsTask : ℕ → Table → ℕ → List ℕ → Task → Type 0
  IsTask level table i bytes x = x ≡ record { level = level; key = field 8 bytes (table.keys + 8 * i); block = field 8 bytes (table.pointers + 8 * i) }

  abbrev pub read_of : Task → Trail → Option (List ℕ)
  read_of x t = read_at at image core 0 x.level (t.last x.level) (entry_of x) (split_of at x.block)

  read_there : (level : ℕ) (table : Table) (i : ℕ) (bytes : List ℕ) (x : Task) (t : Trail) (o : Option (List ℕ)) → IsTask level table i bytes x → read_of x t ≡ o → found level (entry_of_table table i bytes) t ≡ o
  read_there level table i bytes x t o is h = subst (λ (y : Task). read_at at image core 0 y.level (t.last y.level) (entry_of y) (split_of at y.block) ≡ o) is h

  taken_there : (level : ℕ) (table : Table) (i : ℕ) (bytes : List ℕ) (x : Task) (t u : Trail) (own : List ℕ) → IsTask level table i bytes x → u ≡ taken_in 0 x.level (entry_of x) own t → u ≡ taken_in 0 level (entry_of_table table i bytes) own t
  taken_there level table i bytes x t u own is h = subst (λ (y : Task). u ≡ taken_in 0 y.level (entry_of y) own t) is h

  pub bad_entry : (level : ℕ) (table : Table) (i : ℕ) (bytes : List ℕ) (x : Task) (t : Trail) (whole : Result Trail Trail) → i < table.count → IsTask level table i bytes x → walk_below at image core level (left_in table i bytes) t ≡ whole → read_of x t ≡ None → whole ≡ Err t
  bad_entry level table i bytes x t whole lt is left h =
      ends_here level table i bytes t t whole (entry_of_table table i bytes) lt refl left (bad_level at image core 0 level (entry_of_table table i bytes) t (read_there level table i bytes x t None is h))

  pub leaf_entry : (level : ℕ) (table : Table) (i : ℕ) (bytes : List ℕ) (x : Task) (t u : Trail) (own : List ℕ) (whole : Result Trail Trail) → i < table.count → IsTask level table i bytes x → walk_below at image core level (left_in table i bytes) t ≡ whole → read_of x t ≡ Some own → u ≡ taken_in 0 x.level (entry_of x) own t → level ≡ 0 → walk_below at image core level (left_in table (i + 1) bytes) u ≡ whole
  leaf_entry level table i bytes x t u own whole lt is left h taken low =
      goes_on level table i bytes t u whole (entry_of_table table i bytes) lt refl left (leaf_walked level (entry_of_table table i bytes) t u own low (read_there level table i bytes x t (Some own) is h) (taken_there level table i bytes x t u own is taken))

  node_there : (level : ℕ) (table : Table) (i : ℕ) (bytes : List ℕ) (x : Task) (t u : Trail) (own : List ℕ) (r : Result Trail Trail) → IsTask level table i bytes x → read_of x t ≡ Some own → u ≡ taken_in 0 x.level (entry_of x) own t → 0 < level → walk_below at image core (level - 1) (node_entries own) u ≡ r → walk level t (entry_of_table table i bytes) ≡ r
  node_there level table i bytes x t u own r is h taken high below =
      node_walked level (entry_of_table table i bytes) t u own high (read_there level table i bytes x t (Some own) is h) (taken_there level table i bytes x t u own is taken) ∙ below

  pub node_entry : (level : ℕ) (table : Table) (i : ℕ) (bytes : List ℕ) (x : Task) (t u v : Trail) (own : List ℕ) (whole : Result Trail Trail) → i < table.count → IsTask level table i bytes x → walk_below at image core level (left_in table i bytes) t ≡ whole → read_of x t ≡ Some own → u ≡ taken_in 0 x.level (entry_of x) own t → 0 < level → walk_below at image core (level - 1) (node_entries own) u ≡ Ok v → walk_below at image core level (left_in table (i + 1) bytes) v ≡ whole
  node_entry level table i bytes x t u v own whole lt is left h taken high below =
      goes_on level table i bytes t v whole (entry_of_table table i bytes) lt refl left (node_there level table i bytes x t u own (Ok v) is h taken high below)

  pub bad_below : (level : ℕ) (table : Table) (i : ℕ) (bytes : List ℕ) (x : Task) (t u v : Trail) (own : List ℕ) (whole : Result Trail Trail) → i < table.count → IsTask level table i bytes x → walk_below at image core level (left_in table i bytes) t ≡ whole → read_of x t ≡ Some own → u ≡ taken_in 0 x.level (entry_of x) own t → 0 < level → walk_below at image core (level - 1) (node_entries own) u ≡ Err v → whole ≡ Err v
  bad_below level table i bytes x t u v own whole lt is left h taken high below =
      ends_here level table i bytes t v whole (entry_of_table table i bytes) lt refl left (node_there level table i bytes x t u own (Err v) is h taken high below)

  -- a block more is read at least
  pub entry_reads : (level : ℕ) (table : Table) (i : ℕ) (bytes : List ℕ) (t : Trail) (whole : Result Trail Trail) → i < table.count → walk_below at image core level (left_in table i bytes) t ≡ whole → length t.blocks + 1 ≤ reads_of whole
  entry_reads level table i bytes t whole lt left =
      let one = one_read level t (entry_of_table table i bytes) in
      let part = part_read level table i bytes t whole (entry_of_table table i bytes) lt refl left in
      omega (arith, one, part)

  -- and what lies below it
  pub below_reads : (level : ℕ) (table : Table) (i : ℕ) (bytes : List ℕ) (x : Task) (t u : Trail) (own : List ℕ) (whole : Result Trail Trail) → i < table.count → IsTask level table i bytes x → walk_below at image core level (left_in table i bytes) t ≡ whole → read_of x t ≡ Some own → u ≡ taken_in 0 x.level (entry_of x) own t → 0 < level → reads_of (walk_below at image core (level - 1) (node_entries own) u) ≤ reads_of whole
  below_reads level table i bytes x t u own whole lt is left h taken high =
      let same = node_there level table i bytes x t u own (walk_below at image core (level - 1) (node_entries own) u) is h taken high refl in
      subst (λ (r : Result Trail Trail). reads_of r ≤ reads_of whole) same (part_read level table i bytes t whole (entry_of_table table i bytes) lt refl left)

  -- the whole walk of a fork's btree
  pub tree_walked : (fork : Fork) → walk_below at image core (root_level (area_of core fork) - 1) (root_entries core fork) start ≡ walk_tree at image core fork
  unfolding walk_below walk_tree
  tree_walked fork = λ i. walk_each (λ u x. walk_same at image core (root_level (area_of core fork) - 1) u x i) (root_entries core fork) start

  pub tree_started : (fork : Fork) (area : List ℕ) (table : Table) (room top : ℕ) (t : Trail) → area ≡ area_of core fork → table ≡ record { keys = 4; pointers = 4 + 8 * room; count = root_keys area } → room ≡ key_room (size_of core fork) → top ≡ root_level area - 1 → t ≡ start → walk_below at image core top (entries_in table area) t ≡ walk_tree at image core fork
  tree_started fork area table room top t a tb r tp s =
      ap (λ (v : Trail). walk_below at image core top (entries_in table area) v) s
      ∙ ap (λ (n : ℕ). walk_below at image core n (entries_in table area) start) tp
      ∙ ap (λ (x : Table). walk_below at image core (root_level area - 1) (entries_in x area) start) tb
      ∙ ap (λ (k : ℕ). walk_below at image core (root_level area - 1) (entries (root_keys area) 4 (4 + 8 * k) area) start) r
      ∙ ap (λ (xs : List ℕ). walk_below at image core (root_level xs - 1) (entries (root_keys xs) 4 (4 + 8 * key_room (size_of core fork)) xs) start) a
      ∙ tree_walked fork

-- ---- what the walk of a whole btree says of a fork

module _ (at : Layout) (image : Image) (core : Core3) (fork : Fork) where
  pub fault_found : (whole : Bool) (t : Trail) (found : Option ForkFault) → form_fault core fork ≡ None → is_tree core fork ≡ true → walk_tree at image core fork ≡ ended whole t → found ≡ judged at fork (root_level (area_of core fork)) (way_of whole) t → found ≡ walk_fault at image core fork
  unfolding walk_fault met_of
  fault_found true t found form tree walk is = rw (form, tree, walk) is
  fault_found false t found form tree walk is = rw (form, tree, walk) is

  met_reads : (r : Result Trail Trail) (levels : ℕ) → reads_of r ≤ length (met_in levels r).blocks + 1
  met_reads (Ok t) levels = omega arith
  met_reads (Err t) levels = omega arith

  pub few_met : is_tree core fork ≡ true → reads_of (walk_tree at image core fork) ≤ most_met at image core fork
  unfolding met_of
  few_met tree = rw (tree) (met_reads (walk_tree at image core fork) (root_level (area_of core fork)))

  pub none_found : inline_fault at core fork ≡ None → is_tree core fork ≡ false → None ≡ walk_fault at image core fork
  unfolding walk_fault met_of inline_fault
  none_found good off =
      let parts = else_parts (form_fault core fork) (first_bad at fork (inline_mappings core fork)) good in
      rw (off, parts.0, parts.1) refl

  pub shown_found : (error : ForkError) (result : Result (Option ForkFault) ReadFault) → Refuses error (inline_fault at core fork) → IsShown error result → IsFirstOf at image core fork result
  shown_found (Fault fault) result h is = subst (IsFirstOf at image core fork) (sym is) (sym (shown_first at image core fork fault h))
  shown_found NoMemory result h is = subst (IsFirstOf at image core fork) (sym is) tt

  pub outside_first : (error : ReadFault) → IsOutside error → IsFirstOf at image core fork (Err error)
  outside_first (IsFork found) h = h
  outside_first (IsCoreFault found) h = h
  outside_first Failed h = tt
  outside_first Memory h = tt

-- the fault of a core that was read
pub core_first : (at : Layout) (image : Image) (ino : ℕ) (fork : Fork) (core : Core3) (result : Result (Option ForkFault) ReadFault) → core_fault (inode_bytes at image ino) ino at.uuid ≡ None → core ≡ core_of (inode_bytes at image ino) → IsFirstOf at image core fork result → IsFirst at image ino fork result
core_first at image ino fork core (Ok found) none is h = (none, h ∙ ap (λ (c : Core3). walk_fault at image c fork) is)
core_first at image ino fork core (Err (IsFork found)) none is h = h
core_first at image ino fork core (Err (IsCoreFault found)) none is h = absurd h
core_first at image ino fork core (Err Failed) none is h = tt
core_first at image ino fork core (Err Memory) none is h = tt

pub core_refused : (at : Layout) (image : Image) (ino : ℕ) (fork : Fork) (fault : ReadFault) → IsCore (inode_bytes at image ino) ino at.uuid (Err fault) → IsFirst at image ino fork (Err fault)
core_refused at image ino fork (IsFork found) h = h
core_refused at image ino fork (IsCoreFault found) h = h
core_refused at image ino fork Failed h = tt
core_refused at image ino fork Memory h = absurd h
