-- On a readable tree the next leaf's records are the first ones above the key.
use Rattle.std.proofs.Common.{◌≡◌, ℕ, zero, suc, ◌+◌, ◌-◌, ◌<◌, ◌≤◌, Bool, true, false, List, [], ◌∷◌, ◌++◌, Option, Some, None, Result, Ok, Err, Vec, refl, sym, subst, ◌∙◌, ap, inl, inr, arith, append_assoc}
use Rattle.std.specs.Prelude.{unwrap_or}
use Rattle.std.proofs.lemmas.Bool.{cases_lt}
use Rattle.std.proofs.lemmas.List.{append-nil}
use Rattle.sblock.specs.Area.{area_of, child_of}
use Rattle.sblock.specs.Blocks.{numrecs, records_of, IsRising}
use Rattle.sblock.specs.Form.{Form, IsLawful}
use Rattle.sblock.specs.Lists.{items_from, Each}
use Rattle.tree_defs.specs.Levels.{over, AllEntries, recs_of, IsSound, IsTree}
use Rattle.sblock.specs.Spans.{span_of}
use Rattle.tree_defs.specs.Tree.{Entry, entries_from, agrees}
use Rattle.tree_defs.specs.declared.site.Site.{Site}
use Rattle.tree_defs.proofs.Trees.{reads_trees_lem}
use Rattle.tree_blocks.specs.declared.tree.WalkFault.{WalkFault}
use Rattle.tree_blocks.specs.declared.tree.WalkFault.TheVariants.{Bad, Failed, Memory}
use Rattle.tree_find.specs.Laws.{Holds, GivesNextInTrees}
use Rattle.tree_find.specs.Meets.{MeetsRecords, GivesNext}
use Rattle.tree_find.specs.Next.{some_of, or_then, records_above, start_of, first_below, leaf_behind, next_below, next_in, AreNext}
use Rattle.tree_find.specs.Places.{is_reached, place_behind}
use Rattle.tree_find.proofs.AboveLemmas.{behind_within}
use Rattle.tree_find.proofs.EntryLemmas.{none_agrees, reached_begins}
use Rattle.tree_find.proofs.Facts.{same_ok}
use Rattle.tree_find.proofs.FindLaw.{opens_right, is_level}
use Rattle.tree_find.proofs.FindLemmas.{does_lie}
use Rattle.tree_find.proofs.NextLemmas.{less, not_less}
use Rattle.tree_find.proofs.NodeLemmas.{Fits, entry, in_front, behind, low_reached, low_unreached, lies_from, fit_behind, recs_parts}
use Rattle.tree_find.proofs.OpenLemmas.{node_some}
use Rattle.tree_find.proofs.Parting.{LiesAbove, rising_front, rising_rest, all_above, filter_all, above_within}

each_left : {A : Type 0} (test : A → Bool) (xs ys : List A) → Each test (xs ++ ys) → Each test xs
each_left test [] ys h = tt
each_left test (x ∷ xs) ys h = (h.0, each_left test xs ys h.1)

-- these are the first of all, and not none; or there are none at all
abbrev FirstOf : {R : Type 0} → List R → Option (List R) → Type 0
FirstOf {R} all None = all ≡ []
FirstOf {R} all (Some rs) = (rest : List R) × (all ≡ rs ++ rest) × (rs ≡ [] → ⊥)

first_of_some : {R : Type 0} (rs : List R) → FirstOf rs (some_of rs)
first_of_some [] = refl
first_of_some (r ∷ rs) = ([], sym (append-nil (r ∷ rs)), λ e. cc)

no_records : {R : Type 0} (xs ys : List R) → xs ++ ys ≡ [] → xs ≡ []
no_records [] ys e = refl
no_records (x ∷ xs) ys e = cc

module _ {R K : Type 0} (form : Form R K) (law : IsLawful form) where
  all_kept : (rs : List R) → records_above form None rs ≡ rs
  all_kept [] = refl
  all_kept (r ∷ rs) = ap (λ rest. r ∷ rest) (all_kept rs)

  -- none of these is at or before the key
  abbrev LiesFrom : Option K → List R → Type 0
  LiesFrom None rs = Unit {0}
  LiesFrom (Some key) rs = LiesAbove form law key rs

  kept_from : (after : Option K) (rs : List R) → IsRising form rs → LiesFrom after rs → records_above form after rs ≡ rs
  kept_from None rs rising h = all_kept rs
  kept_from (Some key) rs rising h = filter_all form law key rs (all_above form law key rs rising h)

  lies_front : (after : Option K) (xs ys : List R) → (xs ≡ [] → ⊥) → LiesFrom after (xs ++ ys) → LiesFrom after xs
  lies_front None xs ys some h = tt
  lies_front (Some key) [] ys some h = tt
  lies_front (Some key) (x ∷ xs) ys some h = h

one_first : {A K : Type 0} (f : ℕ → List A) (item : ℕ → Entry K) (n k from : ℕ) → n ≡ suc k → over f (items_from item n from) ≡ f (item from).child ++ over f (items_from item k (from + 1))
one_first f item n k from e = rw e refl

pub place_within : {R K : Type 0} (form : Form R K) (key : K) (bytes : List ℕ) → 1 ≤ numrecs bytes → place_behind form key false (area_of bytes) (numrecs bytes) - 1 < numrecs bytes
unfolding place_behind
place_within form key bytes some = let le = behind_within (is_reached form key false (area_of bytes)) (numrecs bytes) in omega (arith, le, some)

module _ {R K : Type 0} (form : Form R K) (law : IsLawful form) (site : Site) (m : ℕ → List ℕ) where
  -- an entry whose keys are its subtree's leads to records
  pub has_records : (level : ℕ) (rs : List R) (i : ℕ) (bytes : List ℕ) → agrees form (entry form law site m bytes i) (span_of form rs) ≡ true → rs ≡ [] → ⊥
  has_records level rs i bytes h e = none_agrees form law (entry form law site m bytes i) (let P : List R → Type 0 = λ v. agrees form (entry form law site m bytes i) (span_of form v) ≡ true in subst P e h)

  module _ (level : ℕ) (bytes : List ℕ) where
    abbrev all_entries : List R
    all_entries = over (recs_of form m level) (items_from (entry form law site m bytes) (numrecs bytes) 0)

    abbrev at_entry : ℕ → List R
    at_entry i = recs_of form m level (entry form law site m bytes i).child

    abbrev after_entry : ℕ → List R
    after_entry i = over (recs_of form m level) (behind form law site m bytes i)

    -- from entry s on lies all that is above the key
    record Begun (after : Option K) (s : ℕ) : Type 0 where
      parts : records_above form after all_entries ≡ records_above form after (at_entry s) ++ after_entry s
      lies_on : LiesFrom form law after (after_entry s)

    module _ (fits : AllEntries (Fits form law site m level) (items_from (entry form law site m bytes) (numrecs bytes) 0)) (rising : IsRising form all_entries) (some : 1 ≤ numrecs bytes) where
      parted : (i : ℕ) → i < numrecs bytes → IsRising form (over (recs_of form m level) (in_front form law site m bytes i) ++ (at_entry i ++ after_entry i))
      parted i lt = let P : List R → Type 0 = λ v. IsRising form v in subst P (recs_parts form law site m bytes level i lt) rising

      begun_first : Begun None 0
      begun_first =
          let split = recs_parts form law site m bytes level 0 (omega (arith, some)) in
          record {
            parts = all_kept form law all_entries ∙ split ∙ ap (λ v. v ++ after_entry 0) (sym (all_kept form law (at_entry 0)));
            lies_on = tt;
          }

      begun_at : (key : K) (place : ℕ) → place_behind form key false (area_of bytes) (numrecs bytes) ≡ place → Begun (Some key) (place - 1)
      begun_at key zero e =
          let first : 0 < numrecs bytes = omega (arith, some) in
          let split = recs_parts form law site m bytes level 0 first in
          let fit = fit_behind form law site m bytes level 0 first fits in
          let lie = lies_from form law site m bytes level key (numrecs bytes) 0 fits (λ lt. low_unreached form law site m bytes key 0 (omega (arith, e)) lt) in
          let above = all_above form law key all_entries rising lie in
          let both : Each (λ r. form.is_before key (form.key_of r)) (at_entry 0 ++ after_entry 0) = let P : List R → Type 0 = λ v. Each (λ r. form.is_before key (form.key_of r)) v in subst P split above in
          let mine = filter_all form law key (at_entry 0) (each_left (λ r. form.is_before key (form.key_of r)) (at_entry 0) (after_entry 0) both) in
          record {
            parts = filter_all form law key all_entries above ∙ split ∙ ap (λ v. v ++ after_entry 0) (sym mine);
            lies_on = lies_from form law site m bytes level key (numrecs bytes - 0 - 1) 1 fit.1 (λ lt. low_unreached form law site m bytes key 1 (omega (arith, e)) (omega (arith, lt)));
          }
      begun_at key (suc i) e =
          let at = low_reached form law site m bytes key i e in
          let split = recs_parts form law site m bytes level i at.1 in
          let fit = fit_behind form law site m bytes level i at.1 fits in
          let lie = lies_from form law site m bytes level key (numrecs bytes - i - 1) (i + 1) fit.1 (λ lt. low_unreached form law site m bytes key (i + 1) (omega (arith, e)) (omega (arith, lt))) in
          let begins = reached_begins form law key (entry form law site m bytes i) (at_entry i) fit.0.1 at.0 in
          let same : suc i - 1 ≡ i = omega arith in
          rw same (record {
            parts = ap (records_above form (Some key)) split ∙ above_within form law key (over (recs_of form m level) (in_front form law site m bytes i)) (at_entry i) (after_entry i) (parted i at.1) begins lie;
            lies_on = lie;
          })

  -- an entry behind another
  next_entry : (level s : ℕ) (bytes : List ℕ) → s + 1 < numrecs bytes → after_entry level bytes s ≡ at_entry level bytes (s + 1) ++ over (recs_of form m level) (items_from (entry form law site m bytes) (numrecs bytes - s - 1 - 1) (s + 1 + 1))
  next_entry level s bytes lt = one_first (recs_of form m level) (entry form law site m bytes) (numrecs bytes - s - 1) (numrecs bytes - s - 1 - 1) (s + 1) (omega arith)

  no_entry : (level s : ℕ) (bytes : List ℕ) → numrecs bytes ≤ s + 1 → after_entry level bytes s ≡ []
  no_entry level s bytes le = let e : numrecs bytes - s - 1 ≡ 0 = omega arith in rw e refl

  module _ (after : Option K) where
    -- the first leaf below a block whose records all lie above the key
    record First (level q : ℕ) : Type 0 where
      rs : List R
      read : first_below form site m after level q ≡ Ok rs
      rest : List R
      whole : recs_of form m level q ≡ rs ++ rest
      some : rs ≡ [] → ⊥

    first_leaf : (level q : ℕ) → IsSound form m site level false q → IsRising form (recs_of form m level q) → (recs_of form m level q ≡ [] → ⊥) → LiesFrom form law after (recs_of form m level q) → First level q
    unfolding first_below recs_of IsSound entries_from
    first_leaf zero q sound rising some lie =
        let rs = records_of form (m q) in
        record {
          rs = rs;
          read = rw (opens_right form law site m 0 false q sound, kept_from form law after rs rising lie) refl;
          rest = [];
          whole = sym (append-nil rs);
          some = some;
        }
    first_leaf (suc level) q sound rising some lie =
        let n : 1 ≤ numrecs (m q) = node_some form site (suc level) false q (m q) (opens_right form law site m (suc level) false q sound.0) (omega arith) in
        let first : 0 < numrecs (m q) = omega arith in
        let split = recs_parts form law site m (m q) level 0 first in
        let fit = fit_behind form law site m (m q) level 0 first sound.1 in
        let mine = at_entry level (m q) 0 in
        let others = after_entry level (m q) 0 in
        let rises : IsRising form (mine ++ others) = let P : List R → Type 0 = λ v. IsRising form v in subst P split rising in
        let lies_all : LiesFrom form law after (mine ++ others) = let P : List R → Type 0 = λ v. LiesFrom form law after v in subst P split lie in
        let mine_some = has_records level mine 0 (m q) fit.0.1 in
        let f = first_leaf level (child_of form.kind (area_of (m q)) 0) fit.0.0 (rising_front form law mine others rises) mine_some (lies_front form law after mine others mine_some lies_all) in
        record {
          rs = f.rs;
          read = rw (opens_right form law site m (suc level) false q sound.0) (f.read);
          rest = f.rest ++ others;
          whole = split ∙ ap (λ v. v ++ others) f.whole ∙ append_assoc f.rs f.rest others;
          some = f.some;
        }

    -- the records above the key in the first leaf below a block that has some
    record Next (level : ℕ) (root : Bool) (p : ℕ) : Type 0 where
      found : Option (List R)
      read : next_below form site m after level root p ≡ Ok found
      first : FirstOf (records_above form after (recs_of form m level p)) found

    -- what lies behind entry s, where nothing above the key lies below it
    record Behind (level s : ℕ) (bytes : List ℕ) : Type 0 where
      found : Option (List R)
      read : leaf_behind form site m after level bytes (s + 1) ≡ Ok found
      first : FirstOf (after_entry level bytes s) found

    all_behind : (level s : ℕ) (bytes : List ℕ) → AllEntries (Fits form law site m level) (behind form law site m bytes s) → IsRising form (after_entry level bytes s) → LiesFrom form law after (after_entry level bytes s) → Behind level s bytes
    unfolding leaf_behind
    all_behind level s bytes fits rising lie =
        elim (cases_lt (s + 1) (numrecs bytes)) [
          | inl lt ↦ (let split = next_entry level s bytes lt in
              let mine = at_entry level bytes (s + 1) in
              let others = over (recs_of form m level) (items_from (entry form law site m bytes) (numrecs bytes - s - 1 - 1) (s + 1 + 1)) in
              let e : numrecs bytes - s - 1 ≡ suc (numrecs bytes - s - 1 - 1) = omega arith in
              let fit : AllEntries (Fits form law site m level) (items_from (entry form law site m bytes) (suc (numrecs bytes - s - 1 - 1)) (s + 1)) = let P : ℕ → Type 0 = λ v. AllEntries (Fits form law site m level) (items_from (entry form law site m bytes) v (s + 1)) in subst P e fits in
              let rises : IsRising form (mine ++ others) = let P : List R → Type 0 = λ v. IsRising form v in subst P split rising in
              let lies_all : LiesFrom form law after (mine ++ others) = let P : List R → Type 0 = λ v. LiesFrom form law after v in subst P split lie in
              let mine_some = has_records level mine (s + 1) bytes fit.0.1 in
              let f = first_leaf level (child_of form.kind (area_of bytes) (s + 1)) fit.0.0 (rising_front form law mine others rises) mine_some (lies_front form law after mine others mine_some lies_all) in
              record {
                found = Some f.rs;
                read = rw (less (s + 1) (numrecs bytes) lt, f.read) refl;
                first = (f.rest ++ others, split ∙ ap (λ v. v ++ others) f.whole ∙ append_assoc f.rs f.rest others, f.some);
              })
          | inr le ↦ record {
            found = None;
            read = rw (not_less (s + 1) (numrecs bytes) le) refl;
            first = no_entry level s bytes le;
          }
        ]

    begun : (level : ℕ) (bytes : List ℕ) (o : Option K) → AllEntries (Fits form law site m level) (items_from (entry form law site m bytes) (numrecs bytes) 0) → IsRising form (all_entries level bytes) → 1 ≤ numrecs bytes → Begun level bytes o (start_of form o bytes) × (start_of form o bytes < numrecs bytes)
    unfolding start_of
    begun level bytes None fits rising some = (begun_first level bytes fits rising some, omega (arith, some))
    begun level bytes (Some key) fits rising some = (begun_at level bytes fits rising some key (place_behind form key false (area_of bytes) (numrecs bytes)) refl, place_within form key bytes some)

    -- what lies from entry s on, where this was found below it
    from_entry : (all mine others : List R) (o : Option (List R)) (level s : ℕ) (bytes : List ℕ) → all ≡ mine ++ others → FirstOf mine o → Behind level s bytes → others ≡ after_entry level bytes s → (found : Option (List R)) × (or_then (Ok o) (leaf_behind form site m after level bytes (s + 1)) ≡ Ok found) × FirstOf all found
    from_entry all mine others None level s bytes e h b same =
        (b.found, b.read, let P : List R → Type 0 = λ v. FirstOf v b.found in subst P (sym (e ∙ rw (h, same) refl)) b.first)
    from_entry all mine others (Some rs) level s bytes e h b same =
        (Some rs, refl, (h.0 ++ others, e ∙ ap (λ v. v ++ others) h.1 ∙ append_assoc rs h.0 others, h.2))

    next_leaf : (level : ℕ) (root : Bool) (p : ℕ) → IsSound form m site level root p → IsRising form (recs_of form m level p) → Next level root p
    unfolding next_below recs_of IsSound entries_from
    next_leaf zero root p sound rising =
        let rs = records_above form after (records_of form (m p)) in
        record {
          found = some_of rs;
          read = rw (opens_right form law site m 0 root p sound) refl;
          first = first_of_some rs;
        }
    next_leaf (suc level) root p sound rising =
        let opens = opens_right form law site m (suc level) root p sound.0 in
        let n : 1 ≤ numrecs (m p) = node_some form site (suc level) root p (m p) opens (omega arith) in
        let from = begun level (m p) after sound.1 rising n in
        let s = start_of form after (m p) in
        let fit = fit_behind form law site m (m p) level s from.1 sound.1 in
        let mine = at_entry level (m p) s in
        let others = after_entry level (m p) s in
        let rises = parted level (m p) sound.1 rising n s from.1 in
        let later = rising_rest form law (over (recs_of form m level) (in_front form law site m (m p) s)) (mine ++ others) rises in
        let below = next_leaf level false (child_of form.kind (area_of (m p)) s) fit.0.0 (rising_front form law mine others later) in
        let on = all_behind level s (m p) fit.1 (rising_rest form law mine others later) from.0.lies_on in
        let both = from_entry (records_above form after (all_entries level (m p))) (records_above form after mine) others below.found level s (m p) from.0.parts below.first on refl in
        record {
          found = both.0;
          read = rw (opens, below.read) both.1;
          first = both.2;
        }

as_next : {R K : Type 0} (form : Form R K) (after : Option K) (recs : List R) (found : Option (List R)) → FirstOf (records_above form after recs) found → AreNext form after recs (unwrap_or found [])
as_next form after recs None h = record { rest = []; first = h; some = λ e. h }
as_next form after recs (Some rs) h = record { rest = h.0; first = h.1; some = λ e. absurd (h.2 e) }

-- what is answered of a readable tree
pub record Gives {R K : Type 0} (form : Form R K) (site : Site) (m : ℕ → List ℕ) (root levels : ℕ) (after : Option K) (recs : List R) : Type 0 where
  pub rs : List R
  pub read : next_in form site m root levels after ≡ Ok rs
  pub next : AreNext form after recs rs

pub next_in_tree : {R K : Type 0} (form : Form R K) → IsLawful form → (site : Site) (m : ℕ → List ℕ) (root levels : ℕ) (recs : List R) (blocks : List ℕ) (after : Option K) → IsTree form site m root levels recs blocks → Gives form site m root levels after recs
unfolding next_in
next_in_tree {R} form law site m root levels recs blocks after t =
    let rises : IsRising form (recs_of form m (levels - 1) root) = let P : List R → Type 0 = λ v. IsRising form v in subst P t.recs_are t.rises in
    let n = next_leaf form law site m after (levels - 1) true root t.sound rises in
    record {
      rs = unwrap_or n.found [];
      read = rw (does_lie root site.bounds.length t.root_lies.0 t.root_lies.1, is_level levels t.has_levels, n.read) refl;
      next = let P : List R → Type 0 = λ v. AreNext form after v (unwrap_or n.found []) in subst P (sym t.recs_are) (as_next form after (recs_of form m (levels - 1) root) n.found n.first);
    }

pub gives_next_lem : {R K : Type 0} (form : Form R K) → IsLawful form → GivesNextInTrees form
gives_next_lem form law site m root levels recs after h =
    let g = next_in_tree form law site m root levels recs h.0 after ((reads_trees_lem form law site m root levels recs h.0).0 h.1) in
    (g.rs, g.read, g.next)

given_next : {R K Z : Type 0} (form : Form R K) (after : Option K) (recs rs : List R) (result : Result (Vec R Z) WalkFault) → AreNext form after recs rs → MeetsRecords (Ok rs) result → GivesNext form after recs result
given_next {R} form after recs rs (Ok v) next met = let e : rs ≡ v.items = same_ok met in let P : List R → Type 0 = λ xs. AreNext form after recs xs in subst P e next
given_next form after recs rs (Err (Bad x f)) next met = cc
given_next form after recs rs (Err Failed) next met = tt
given_next form after recs rs (Err Memory) next met = tt

-- an answer that meets the definition is right on a readable tree
pub right_next : {R K Z : Type 0} (form : Form R K) → IsLawful form → (site : Site) (m : ℕ → List ℕ) (root levels : ℕ) (after : Option K) (result : Result (Vec R Z) WalkFault) → MeetsRecords (next_in form site m root levels after) result → (recs : List R) → Holds form site m root levels recs → GivesNext form after recs result
right_next form law site m root levels after result met recs h =
    let g = gives_next_lem form law site m root levels recs after h in
    given_next form after recs g.0 result g.2 (rw (g.1) at met)
