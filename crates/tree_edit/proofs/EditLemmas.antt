-- An edit that was prepared, joined and settled is one.
use Rattle.std.proofs.Common.{◌≡◌, ◌≤◌, ◌+◌, ℕ, true, List, ◌++◌, length, drop, Ok, [], ◌∷◌, sym, ap, subst, ◌∙◌, inl, inr, arith}
use Rattle.std.proofs.lemmas.List.{length-take-le}
use Rattle.std.specs.Prelude.{◌⊎◌, nat_lt, is_some, Option}
use Rattle.blk_device.specs.Contents.{Contents}
use Rattle.blk_device.specs.declared.device.Region.TheVariants.{Image}
use Rattle.byte_fields.specs.declared.block.Block.{Block}
use Rattle.byte_fields.specs.Steps.{StepCount}
use Rattle.blk_device.specs.Reading.{EachBlock, OnlyRead}
use Rattle.blk_device.specs.ReadingLaws.{keeps_on}
use Rattle.blk_device.specs.declared.device.Device.{Ghosts}
use Rattle.redo_area.specs.Area.{Batch}
use Rattle.meta_txn.specs.Joined.{Joined, with_block, written, AreBelow}
use Rattle.meta_txn.proofs.JoinedLaws.{below_with}
use Rattle.sblock.specs.Form.{Form, IsLawful}
use Rattle.sblock.specs.Headers.{no_block}
use Rattle.tree_defs.specs.Lists.{In, times, AllDiffer}
use Rattle.tree_defs.specs.Tree.{read_tree}
use Rattle.tree_walk.specs.Trails.{LieInside}
use Rattle.tree_defs.specs.Sites.{group_blocks}
use Rattle.tree_defs.specs.declared.site.Site.{Site}
use Rattle.tree_defs.proofs.Trees.{reads_trees_lem}
use Rattle.tree_defs.proofs.Rows.{blocks_differ_lem}
use Rattle.edit_blocks.specs.Choice.{need_of, taken, untaken, for_list, for_limbo}
use Rattle.edit_blocks.proofs.ChoiceLemmas.{taken_are_first}
use Rattle.join_blocks.specs.Joins.{is_joined, count_of, placed_in, with_all, AreFound, LieBelow, OnlyThese}
use Rattle.list_edit.specs.declared.edits.Edit.{Edit}
use Rattle.load_trees.specs.Fit.{frame_of}
use Rattle.redo_area.specs.declared.TheConstants.{MAX_BATCH}
use Rattle.tree_blocks.proofs.ReadingLemmas.{told as is_told, each_told}
use Rattle.tree_edit.specs.Anew.{AreJoined}
use Rattle.tree_edit.specs.Device.{IsLeft, OnlyWrites}
use Rattle.tree_edit.specs.Edited.{IsEdited, IsCounted, IsWithin, IsStamped, RefusesEdit}
use Rattle.tree_edit.specs.Faults.{RefusesJoin}
use Rattle.tree_edit.specs.Making.{IsReady}
use Rattle.tree_edit.specs.Prepared.{Held, ReadsTo, IsPrepared, RefusesPrepared}
use Rattle.tree_edit.specs.declared.fault.EditFault.{EditFault}
use Rattle.tree_edit.specs.declared.fault.EditFault.TheVariants.{Bad, Missing, Overlap, Short, TooLarge, Failed, Memory}
use Rattle.tree_edit.specs.declared.make.Made.{Made}
use Rattle.tree_edit.proofs.BlockLemmas.{once, either, in_either, lie_of_blocks, lie_of_inside, lie_both, each_drop}
use Rattle.tree_edit.proofs.FoundLemmas.{left_as_found}
use Rattle.tree_edit.proofs.MakeLemmas.{placed_many}
use Rattle.tree_edit.proofs.StampLemmas.{AllStamped, laid_stamped, stamped_at}
use Rattle.join_blocks.proofs.PutLemmas.{puts_each, finds_keep, finds_all}
use Rattle.tree_edit.proofs.PrepareLemmas.{on_told}
use Rattle.tree_edit.proofs.ReadLemmas.{placed_are, joined_is_read, others_stay}

module _ {R K : Type 0} (form : Form R K) (site : Site) (lsn : ℕ) (records : List R) (before listed : List ℕ) (made : Made) (ready : IsReady form site lsn records before listed made) where
  -- all blocks that are touched are those that are put in, and those that are left over
  pub touched_are : made.touched.items ≡ placed_in made.placed.items ++ made.left.items
  touched_are =
      let loaded = ready.made_of.loaded in
      let numbers = ap placed_in loaded.behind ∙ placed_are form records ready.claimed (frame_of site lsn) 0 loaded.more loaded.laid loaded.many in
      ready.touched ∙ ap (λ (bs : List ℕ). bs ++ made.left.items) (sym numbers)

  -- and each of them lies in the group
  pub touched_lie : (size : ℕ) → site.first + site.bounds.length ≤ size → LieInside site.bounds.length before → LieBelow size site.first made.touched.items
  touched_lie size room lie =
      let mine = lie_of_blocks size site.first site.bounds.length ready.claimed room ready.made_of.fit.claims.lie in
      let leaves = lie_of_inside size site.first site.bounds.length made.left.items room (subst (LieInside site.bounds.length) (sym ready.chose.rest) (each_drop (λ b. nat_lt b site.bounds.length) (length ready.claimed) before lie)) in
      subst (LieBelow size site.first) (sym ready.touched) (lie_both size site.first ready.claimed made.left.items mine leaves)

-- what is touched, with the same items in other lists
pub same_touched : (placed placed' : List (ℕ × Block)) (left left' touched touched' : List ℕ) → placed' ≡ placed → left' ≡ left → touched' ≡ touched → touched ≡ placed_in placed ++ left → touched' ≡ placed_in placed' ++ left'
same_touched placed placed' left left' touched touched' p l t same = t ∙ same ∙ ap (λ (es : List (ℕ × Block)). placed_in es ++ left) (sym p) ∙ ap (λ (bs : List ℕ). placed_in placed' ++ bs) (sym l)

module _ {R K : Type 0} (form : Form R K) (law : IsLawful form) (site : Site) (how : Edit) (rec : R) (lsn root levels : ℕ) (about : Option Contents) (old : Joined) (listed limbo : List ℕ) where
  abbrev first_held : Held
  first_held = record { root = root; levels = levels; joined = old; listed = listed; limbo = [] }

  abbrev old_held : Held
  old_held = record { root = root; levels = levels; joined = old; listed = listed; limbo = limbo }

  pub prepared_refused : (fault : EditFault) → RefusesPrepared form site how rec about first_held fault → RefusesEdit form site how rec about old_held fault
  prepared_refused (Bad block fault) why = why
  prepared_refused Missing why = why
  prepared_refused Overlap why = why
  prepared_refused (Short have need) why = why
  prepared_refused (TooLarge n) why = absurd why
  prepared_refused Failed why = tt
  prepared_refused Memory why = tt

  module _ (made : Made) (start end : StepCount) (p : IsPrepared form site how rec lsn about first_held start end made) where
    pub join_refused : (count : ℕ) (fault : EditFault) → count ≡ count_of old.blocks site.first made.touched.items → RefusesJoin count fault → RefusesEdit form site how rec about old_held fault
    join_refused count (Bad block fault) e why = absurd why
    join_refused count Missing e why = absurd why
    join_refused count Overlap e why = absurd why
    join_refused count (Short have need) e why = absurd why
    join_refused count (TooLarge n) e why = on_told about p.was (λ c was. (p.recs, p.records, p.before, p.ready.claimed, made.left.items, made.levels, was, p.edits, p.ready.made_of.shape, p.ready.chose, why.0 ∙ e ∙ ap (count_of old.blocks site.first) p.ready.touched, why.1))
    join_refused count Failed e why = tt
    join_refused count Memory e why = tt

    numbers : placed_in made.placed.items ≡ p.ready.claimed
    numbers =
        let loaded = p.ready.made_of.loaded in
        ap placed_in loaded.behind ∙ placed_are form p.records p.ready.claimed (frame_of site lsn) 0 loaded.more loaded.laid loaded.many

    -- each block that is put in has the log sequence number
    stamps : (new : Joined) → AreJoined about site.first made.placed.items made.left.items old.blocks new.blocks → (b : ℕ) → In b p.ready.claimed → IsStamped lsn (site.first + b) new
    stamps new joined b mine =
        let r = p.ready in
        let loaded = r.made_of.loaded in
        let more = laid_stamped form p.records r.claimed (frame_of site lsn) made.levels r.made_of.shape 0 loaded.more loaded.laid loaded.many in
        let all = subst (AllStamped lsn) (sym loaded.behind) more in
        let put = with_all site.first made.placed.items old.blocks in
        let have = puts_each site.first made.placed.items old.blocks (subst AllDiffer (sym numbers) r.made_of.fit.claims.differ) in
        let one = stamped_at site.first lsn made.placed.items put have all b (subst (In b) (sym numbers) mine) in
        (one.0, finds_keep about site.first (site.first + b) one.0 made.left.items put new.blocks joined one.1, one.2)

    all_joined : (new : Joined) → AreJoined about site.first made.placed.items made.left.items old.blocks new.blocks → (b : ℕ) → In b p.ready.claimed ⊎ In b made.left.items → is_joined new.blocks (site.first + b) ≡ true
    all_joined new joined b (inl mine) = ap is_some (stamps new joined b mine).1
    all_joined new joined b (inr leaves) = finds_all about site.first made.left.items (with_all site.first made.placed.items old.blocks) new.blocks joined b leaves

    -- what was counted
    pub is_counted : (new : Joined) (after : StepCount) → after.reads + length old.blocks ≡ end.reads + length new.blocks → after.writes ≡ end.writes → after.moves ≡ end.moves → (joined : Held) → joined ≡ record { root = root; levels = levels; joined = old; listed = []; limbo = [] } → IsCounted form site how rec about joined new start after
    is_counted new after reads writes moves joined same =
        let r = p.ready in
        let placed = placed_many form site lsn made.levels p.records r.claimed made.placed.items r.made_of in
        subst (λ (h : Held). IsCounted form site how rec about h new start after) (sym same) (record {
          recs = p.recs;
          records = p.records;
          blocks = p.before;
          edits = p.edits;
          was = p.was;
          levels = made.levels;
          many = length r.claimed;
          size = r.made_of.shape;
          reads = omega (arith, reads, p.reads);
          writes = omega (arith, writes, p.writes, placed);
          moves = moves ∙ p.moves;
        })

    -- where joining stopped, only blocks of the tree and the list's first ones are joined
    pub stops_within : (new : Joined) → OnlyThese site.first made.touched.items old.blocks new.blocks → new.marked ≡ old.marked → IsWithin form site about first_held new
    stops_within new only marked = record {
      recs = p.recs;
      before = p.before;
      taken = taken p.before listed (length p.ready.claimed);
      kept = untaken p.before listed (length p.ready.claimed);
      was = p.was;
      front = taken_are_first p.before listed (length p.ready.claimed);
      others = λ at none. only at (λ b there same. none b (either p.before listed p.ready.claimed made.left.items p.ready.chose b (in_either b p.ready.claimed made.left.items (subst (In b) p.ready.touched there))) same);
      marked = marked;
    }

    pub is_edited : site.bounds.length ≤ no_block → (new : Joined) (listed' limbo' : List ℕ) → AreJoined about site.first made.placed.items made.left.items old.blocks new.blocks → count_of old.blocks site.first made.touched.items ≤ MAX_BATCH → length new.blocks ≡ count_of old.blocks site.first made.touched.items → new.marked ≡ old.marked
        → listed' ≡ drop made.need listed ++ for_list (drop made.need listed) made.left.items → limbo' ≡ limbo ++ for_limbo (drop made.need listed) made.left.items
        → IsEdited form site how rec lsn about old_held (record { root = made.root; levels = made.levels; joined = new; listed = listed'; limbo = limbo' })
    is_edited short new listed' limbo' joined room many marked list_is limbo_is =
        let r = p.ready in
        let left = made.left.items in
        record {
          recs = p.recs;
          records = p.records;
          before = p.before;
          after = r.claimed;
          taken = taken p.before listed (length r.claimed);
          kept = untaken p.before listed (length r.claimed);
          left = left;
          edits = p.edits;
          was = p.was;
          is = is_told about _ (λ c e all_written.
              let m = group_blocks site (written (c Image) old) in
              let was = each_told about (λ c. ReadsTo form site c first_held p.recs p.before) c p.was e in
              let tree = (reads_trees_lem form law site m root levels p.recs p.before).0 was in
              let differ = (blocks_differ_lem form site m root levels p.recs p.before short tree).0 in
              let here = subst (λ (t : Option Contents). AreJoined t site.first made.placed.items left old.blocks new.blocks) e joined in
              let read = joined_is_read form law site lsn made.levels p.records p.before listed r.claimed left made.placed.items c old new short differ r.chose r.made_of p.sound.supported all_written here in
              subst (λ (q : ℕ). (blocks : List ℕ) × (read_tree form site (group_blocks site (written (c Image) new)) q made.levels ≡ Ok (p.records, blocks)) × ((b : ℕ) → times b blocks ≡ times b r.claimed)) (sym r.root) read);
          front = taken_are_first p.before listed (length r.claimed);
          size = r.made_of.shape;
          need = length-take-le (need_of (length p.before) (length r.claimed)) listed (omega (arith, r.need, r.enough));
          list = list_is ∙ ap (λ (k : ℕ). drop k listed ++ for_list (drop k listed) left) r.need;
          limbo = limbo_is ∙ ap (λ (k : ℕ). limbo ++ for_limbo (drop k listed) left) r.need;
          once = λ b. once p.before listed r.claimed left r.chose b;
          others = others_stay form site lsn made.levels p.records p.before listed r.claimed left made.placed.items about old.blocks new.blocks r.chose r.made_of joined;
          marked = marked;
          joined = λ b there. all_joined new joined b there;
          count = many ∙ ap (count_of old.blocks site.first) r.touched;
          stamped = λ b mine. inl (stamps new joined b mine);
          left_stays = λ b there. is_told about _ (λ c e.
              let m = group_blocks site (written (c Image) old) in
              let was = each_told about (λ c. ReadsTo form site c first_held p.recs p.before) c p.was e in
              let tree = (reads_trees_lem form law site m root levels p.recs p.before).0 was in
              let differ = (blocks_differ_lem form site m root levels p.recs p.before short tree).0 in
              let here = subst (λ (t : Option Contents). AreJoined t site.first made.placed.items left old.blocks new.blocks) e joined in
              left_as_found c site.first p.before listed r.claimed left made.placed.items old.blocks new.blocks numbers r.chose differ here b there);
          room = subst (λ (bs : List ℕ). count_of old.blocks site.first bs ≤ MAX_BATCH) r.touched room;
        }

-- the same blocks joined, told with other names
pub same_joined : (about about' : Option Contents) (first : ℕ) (placed placed' : List (ℕ × Block)) (left left' : List ℕ) (old old' new : Batch) → about' ≡ about → placed' ≡ placed → left' ≡ left → old' ≡ old → AreJoined about' first placed' left' old' new → AreJoined about first placed left old new
same_joined about about' first placed placed' left left' old old' new a p l o joined =
    subst (λ (x : Option Contents). AreJoined x first placed left old new) a
    (subst (λ (x : List (ℕ × Block)). AreJoined about' first x left old new) p
    (subst (λ (x : List ℕ). AreJoined about' first placed' x old new) l
    (subst (λ (x : Batch). AreJoined about' first placed' left' x new) o joined)))

-- a device that is only read is left as it was
pub left_of_read : {D : Type 0} (g : Ghosts D) (old new : D) (before after : StepCount) → OnlyRead g old new before after → IsLeft g old new before after
left_of_read g old new before after read = record {
  same = read.same;
  sizes = read.sizes;
  later = read.later;
  crash = read.crash;
  counted = read.counted;
  writes = omega (arith, read.writes);
  moves = read.moves;
}

pub left_writes : {D : Type 0} (g : Ghosts D) (old new : D) (before mid after : StepCount) → IsLeft g old new before mid → OnlyWrites mid after → IsLeft g old new before after
left_writes g old new before mid after left wrote = record {
  same = left.same;
  sizes = left.sizes;
  later = left.later;
  crash = left.crash;
  counted = omega (arith, left.counted, wrote.reads);
  writes = omega (arith, left.writes, wrote.writes);
  moves = wrote.moves ∙ left.moves;
}

pub left_on : {D : Type 0} (g : Ghosts D) (only_now : (d : D) (c : Contents) → g.may_have_held_since d (g.clock d) c → g.may_hold_now d c) (counts_now : (d : D) (t : ℕ) (c : Contents) → t ≤ g.clock d → g.may_hold_now d c → g.may_have_held_since d t c) (old mid new : D) (start before after : StepCount) → IsLeft g old mid start before → OnlyRead g mid new before after → IsLeft g old new start after
left_on g only_now counts_now old mid new start before after left reading = record {
  same = reading.same ∙ left.same;
  sizes = reading.sizes ∙ left.sizes;
  later = omega (arith, left.later, reading.later);
  crash = keeps_on g only_now counts_now EachBlock old mid new left.crash reading.crash;
  counted = omega (arith, left.counted, reading.counted);
  writes = omega (arith, left.writes, reading.writes);
  moves = reading.moves ∙ left.moves;
}

-- numbers that are joined stay below the image's size
pub put_below : (size first : ℕ) (placed : List (ℕ × Block)) (joined : Batch) → AreBelow size joined → LieBelow size first (placed_in placed) → AreBelow size (with_all first placed joined)
unfolding with_all
put_below size first [] joined below lie = below
put_below size first (e ∷ es) joined below lie = put_below size first es (with_block (first + e.0) e.1.bytes joined) (below_with size (first + e.0) e.1.bytes joined below lie.0) lie.1

pub found_below : (size : ℕ) (about : Option Contents) (first : ℕ) (left : List ℕ) (old new : Batch) → AreBelow size old → LieBelow size first left → AreFound about first left old new → AreBelow size new
found_below size about first [] old new below lie found = subst (AreBelow size) (sym found) below
found_below size about first (b ∷ bs) old new below lie found = found_below size about first bs (with_block (first + b) found.0 old) new (below_with size (first + b) found.0 old below lie.0) lie.1 found.2
