-- What a refused edit counts of its steps.
use Rattle.std.proofs.Common.{◌≡◌, ◌≤◌, ◌-◌, ◌+◌, ◌++◌, ◌∙◌, ℕ, List, [], length, Result, Ok, Err, refl, sym, ap, subst, inl, inr, arith, length-append, length-drop}
use Rattle.std.proofs.lemmas.List.{length-map}
use Rattle.std.specs.Prelude.{Option, IfSome, IfErr}
use Rattle.byte_fields.specs.Steps.{StepCount}
use Rattle.blk_device.specs.Contents.{Contents}
use Rattle.blk_device.specs.declared.device.Region.TheVariants.{Image}
use Rattle.byte_fields.specs.declared.block.Block.{Block}
use Rattle.meta_txn.specs.Joined.{Joined, written}
use Rattle.sblock.specs.Form.{Form, IsLawful}
use Rattle.sblock.specs.declared.kind.Kind.{Kind}
use Rattle.tree_defs.specs.Sites.{group_blocks}
use Rattle.tree_defs.specs.declared.site.Site.{Site}
use Rattle.tree_defs.proofs.Counted.{counts_blocks_lem}
use Rattle.tree_walk.specs.Meets.{CountedBy}
use Rattle.tree_blocks.specs.declared.tree.WalkFault.{WalkFault}
use Rattle.tree_blocks.specs.declared.tree.WalkFault.TheVariants.{Bad as BadBlock, Failed as WalkFailed, Memory as WalkMemory}
use Rattle.join_blocks.specs.Joins.{placed_in}
use Rattle.list_edit.specs.Edits.{edited}
use Rattle.list_edit.specs.declared.edits.Edit.{Edit}
use Rattle.load_trees.specs.Fit.{WritesSome}
use Rattle.tree_edit.specs.Device.{OnlyWrites}
use Rattle.tree_edit.specs.Faults.{RefusesJoin}
use Rattle.tree_edit.specs.Making.{RefusesMaking, LaysSome, CountsLaying}
use Rattle.tree_edit.specs.Plans.{HasSize, RefusesList, RefusesBlocks}
use Rattle.tree_edit.specs.Prepared.{Held, ReadsTo, IsPrepared}
use Rattle.tree_edit.specs.Reads.{met_as, IsOfWalk, StopsWalk}
use Rattle.tree_edit.specs.Stopped.{walk_of, HasWalked, WalkedAtMost, IsLaid, CountsRefused, StopsJoin}
use Rattle.tree_edit.specs.declared.fault.EditFault.{EditFault}
use Rattle.tree_edit.specs.declared.fault.EditFault.TheVariants.{Bad, Missing, Overlap, Short, TooLarge, Failed, Memory}
use Rattle.tree_edit.specs.declared.make.Made.{Made}
use Rattle.tree_edit.proofs.MakeLemmas.{placed_many}
use Rattle.tree_edit.proofs.PrepareLemmas.{on_told}

-- the count of a walk, as an edit tells its fault
pub walk_stops : (before n after : ℕ) (fault : WalkFault) → CountedBy before n after fault → StopsWalk before n after (met_as fault)
walk_stops before n after (BadBlock block fault) h = h
walk_stops before n after WalkFailed h = h
walk_stops before n after WalkMemory h = h

-- nothing was laid for a list that is short
pub unlaid : (kind : Kind) (n before listed blocks : ℕ) (steps : StepCount) (levels : ℕ) (fault : EditFault) → HasSize kind n levels blocks → RefusesBlocks before listed blocks fault → CountsLaying kind n steps steps fault
unlaid kind n before listed blocks steps levels (Bad block fault) size why = absurd why
unlaid kind n before listed blocks steps levels Missing size why = absurd why
unlaid kind n before listed blocks steps levels Overlap size why = absurd why
unlaid kind n before listed blocks steps levels (Short have need) size why = refl
unlaid kind n before listed blocks steps levels (TooLarge m) size why = absurd why
unlaid kind n before listed blocks steps levels Failed size why = absurd why
unlaid kind n before listed blocks steps levels Memory size why = (levels, blocks, size, omega arith)

pub lays_some : (kind : Kind) (n levels many : ℕ) (before after : StepCount) → HasSize kind n levels many → WritesSome many before after → LaysSome kind n before after
lays_some kind n levels many before after size some =
    let most = some.1 in
    let is = ap (λ (s : StepCount). s.writes) some.2 in
    (levels, many, size, omega (arith, most, is))

pub lays_all : (kind : Kind) (n levels many : ℕ) (before after : StepCount) → HasSize kind n levels many → after ≡ record before { writes = before.writes + many } → LaysSome kind n before after
lays_all kind n levels many before after size same = let is = ap (λ (s : StepCount). s.writes) same in (levels, many, size, omega (arith, is))

-- both rows of blocks are counted at most once each
pub both_few : (placed : List (ℕ × Block)) (left : List ℕ) (a b c : ℕ) → b ≤ a + length placed → c ≤ b + length left → c ≤ a + length (placed_in placed ++ left)
both_few placed left a b c one two =
    let both = length-append (placed_in placed) left in
    let each = length-map placed (λ (e : ℕ × Block). e.0) in
    omega (arith, one, two, both, each)

module _ {R K : Type 0} (form : Form R K) (law : IsLawful form) (site : Site) (how : Edit) (rec : R) (told : Option Contents) (root levels : ℕ) (old : Joined) (listed : List ℕ) (start : StepCount) where
  abbrev here : Held
  here = record { root = root; levels = levels; joined = old; listed = []; limbo = [] }

  abbrev with_list : Held
  with_list = record { root = root; levels = levels; joined = old; listed = listed; limbo = [] }

  pub walk_counts : (after : StepCount) → after.writes ≡ start.writes → (fault : EditFault) → IsOfWalk fault → IfSome told (λ c. StopsWalk start.reads (walk_of form site c here) after.reads fault) → CountsRefused form site how rec told here start after fault
  walk_counts after w (Bad block fault) of stops = (stops, w)
  walk_counts after w Missing of stops = absurd of
  walk_counts after w Overlap of stops = absurd of
  walk_counts after w (Short have need) of stops = absurd of
  walk_counts after w (TooLarge n) of stops = absurd of
  walk_counts after w Failed of stops = inl (stops, w)
  walk_counts after w Memory of stops = (stops, inl w)

  module _ (recs : List R) (blocks : List ℕ) (was : IfSome told (λ c. ReadsTo form site c here recs blocks)) where
    has_walked : (after : StepCount) → after.reads ≡ start.reads + length blocks → HasWalked form site told here start after
    has_walked after each = on_told told was (λ c p.
        let n = counts_blocks_lem form law site (group_blocks site (written (c Image) old)) root levels recs blocks p in
        each ∙ ap (λ (k : ℕ). start.reads + k) (sym n))

    at_most : (after : StepCount) → after.reads ≡ start.reads + length blocks → WalkedAtMost form site told here start after
    at_most after each = on_told told (has_walked after each) (λ c e. omega (arith, e))

    pub list_counts : (after : StepCount) → after.reads ≡ start.reads + length blocks → after.writes ≡ start.writes → (fault : EditFault) → RefusesList (edited form how rec recs) fault → CountsRefused form site how rec told here start after fault
    list_counts after each w (Bad block fault) why = absurd why
    list_counts after each w Missing why = (has_walked after each, w)
    list_counts after each w Overlap why = (has_walked after each, w)
    list_counts after each w (Short have need) why = absurd why
    list_counts after each w (TooLarge n) why = absurd why
    list_counts after each w Failed why = absurd why
    list_counts after each w Memory why = (at_most after each, inl w)

    module _ (records : List R) (edits : edited form how rec recs ≡ Ok records) (mid after : StepCount) (each : mid.reads ≡ start.reads + length blocks) (w : mid.writes ≡ start.writes) (only : OnlyWrites mid after) where
      laid : LaysSome form.kind (length records) mid after → IsLaid form site how rec told here start after
      laid some = record {
        recs = recs;
        records = records;
        blocks = blocks;
        levels = some.0;
        many = some.1;
        was = was;
        edits = edits;
        size = some.2;
        reads = let r = only.reads in omega (arith, each, r);
        writes = let l = some.3 in omega (arith, l, w);
      }

      make_counts : (len : ℕ) (fault : EditFault) → RefusesMaking form len (length records) blocks listed fault → CountsLaying form.kind (length records) mid after fault → CountsRefused form site how rec told here start after fault
      make_counts len (Bad block fault) why laying = (has_walked after (only.reads ∙ each), ap (λ (s : StepCount). s.writes) laying ∙ w)
      make_counts len Missing why laying = absurd why
      make_counts len Overlap why laying = absurd why
      make_counts len (Short have need) why laying = (has_walked after (only.reads ∙ each), ap (λ (s : StepCount). s.writes) laying ∙ w)
      make_counts len (TooLarge n) why laying = absurd why
      make_counts len Failed why laying = absurd why
      make_counts len Memory why laying = (at_most after (only.reads ∙ each), inr (laid laying))

      pub make_ticks : (len : ℕ) (made_of : List R) (used : List ℕ) → made_of ≡ records → used ≡ blocks → (result : Result Made EditFault) → IfErr result (RefusesMaking form len (length made_of) used listed) → IfErr result (CountsLaying form.kind (length made_of) mid after) → IfErr result (CountsRefused form site how rec told here start after)
      make_ticks len made_of used rs bs (Ok made) why laying = tt
      make_ticks len made_of used rs bs (Err fault) why laying = make_counts len fault
          (subst (λ (xs : List ℕ). RefusesMaking form len (length records) xs listed fault) bs (subst (λ (xs : List R). RefusesMaking form len (length xs) used listed fault) rs why))
          (subst (λ (xs : List R). CountsLaying form.kind (length xs) mid after fault) rs laying)

  -- behind what was prepared
  module _ (lsn : ℕ) (made : Made) (end : StepCount) (p : IsPrepared form site how rec lsn told with_list start end made) where
    placed : length made.placed.items ≡ length p.ready.claimed
    placed = placed_many form site lsn made.levels p.records p.ready.claimed made.placed.items p.ready.made_of

    joined : (after : StepCount) → after.reads ≤ start.reads + length p.before + (length p.ready.claimed + (length p.before - length p.ready.claimed)) → after.writes ≡ end.writes → IsLaid form site how rec told here start after
    joined after reads w = record {
      recs = p.recs;
      records = p.records;
      blocks = p.before;
      levels = made.levels;
      many = length p.ready.claimed;
      was = p.was;
      edits = p.edits;
      size = p.ready.made_of.shape;
      reads = reads;
      writes = let e = p.writes in let l = placed in omega (arith, e, l, w);
    }

    -- there was no room in limbo
    pub room_counts : CountsRefused form site how rec told here start end Memory
    room_counts = (at_most p.recs p.before p.was end p.reads, inr (joined end (let e = p.reads in omega (arith, e)) refl))

    touched_many : length made.touched.items ≡ length p.ready.claimed + (length p.before - length p.ready.claimed)
    touched_many = ap length p.ready.touched ∙ length-append p.ready.claimed made.left.items ∙ ap (λ (n : ℕ). length p.ready.claimed + n) (ap length p.ready.chose.rest ∙ length-drop (length p.ready.claimed) p.before)

    pub join_counts : (after : StepCount) → after.writes ≡ end.writes → (count : ℕ) (touched : List ℕ) → touched ≡ made.touched.items → (fault : EditFault) → RefusesJoin count fault → StopsJoin (length touched) end.reads after.reads fault → CountsRefused form site how rec told here start after fault
    join_counts after w count touched same (Bad block fault) why stops = absurd why
    join_counts after w count touched same Missing why stops = absurd why
    join_counts after w count touched same Overlap why stops = absurd why
    join_counts after w count touched same (Short have need) why stops = absurd why
    join_counts after w count touched same (TooLarge n) why stops = (has_walked p.recs p.before p.was after (stops ∙ p.reads), joined after (let e = p.reads in omega (arith, e, stops)) w)
    join_counts after w count touched same Failed why stops = inr (joined after (let e = p.reads in let t = ap length same in omega (arith, e, stops, t, touched_many)) w)
    join_counts after w count touched same Memory why stops = (at_most p.recs p.before p.was after (stops ∙ p.reads), inr (joined after (let e = p.reads in omega (arith, e, stops)) w))
