-- Pieces that were written, one behind the other.
use Rattle.std.proofs.Common.{◌≡◌, ℕ, suc, ◌+◌, ◌<◌, ◌≤◌, Bool, true, false, List, [], ◌∷◌, ◌++◌, length, refl, sym, ap, subst, ◌∙◌, arith, append_assoc, length-append, Result, Ok, Err}
use Rattle.std.specs.Prelude.{nat_lt, slice_index, OnErr}
use Rattle.byte_fields.specs.Steps.{StepCount}
use Rattle.byte_fields.specs.declared.block.Block.{Block}
use Rattle.sblock.specs.Form.{Form}
use Rattle.sblock.specs.declared.block.Frame.{Frame}
use Rattle.bulk_load.specs.Loaded.{at_level, IsLaid, AreLaid, IsLoaded}
use Rattle.bulk_load.specs.Shapes.{width, start}
use Rattle.bulk_load.proofs.Numbers.{lt_true, lt_false}
use Rattle.bulk_load.proofs.ShapeLemmas.{start_on, start_up}
use Rattle.load_trees.specs.Fit.{WritesSome}
use Rattle.load_trees.specs.Written.{AreWritten, StandBetween, PiecesStand, PiecesJoin, AllStand}

module _ {R K : Type 0} (form : Form R K) (list : List R) (claimed : List ℕ) (frame : Frame) where
  -- blocks from number k on that were written stand
  stands : (m : ℕ → List ℕ) (k : ℕ) (es : List (ℕ × Block)) → AreLaid form list claimed frame k es → AreWritten m es → StandBetween form list claimed frame m k (k + length es)
  stands m k [] laid written j i lt from to = absurd (omega (arith, from, to))
  stands m k (e ∷ es) laid written j i lt from to = by_place (nat_lt k (start form.kind (length list) j + i)) refl (λ low. stands m (k + 1) es laid.2 written.1 j i lt low (omega (arith, to))) where
    by_place : (c : Bool) → nat_lt k (start form.kind (length list) j + i) ≡ c → (k + 1 ≤ start form.kind (length list) j + i → IsLaid form list claimed frame j i (m (at_level form.kind (length list) claimed j i))) → IsLaid form list claimed frame j i (m (at_level form.kind (length list) claimed j i))
    by_place true h later = later (omega (arith, lt_true k (start form.kind (length list) j + i) h))
    by_place false h later =
        let at : start form.kind (length list) j + i ≡ k = omega (arith, from, lt_false k (start form.kind (length list) j + i) h) in
        let place : e.0 ≡ at_level form.kind (length list) claimed j i = laid.0 ∙ ap (slice_index claimed) (sym at) in
        subst (IsLaid form list claimed frame j i) (sym written.0 ∙ ap m place) (laid.1 j i lt at)

  -- of two parts, one behind the other
  laid_join : (k : ℕ) (es fs : List (ℕ × Block)) → AreLaid form list claimed frame k es → AreLaid form list claimed frame (k + length es) fs → AreLaid form list claimed frame k (es ++ fs)
  laid_join k [] fs laid more = let e : k + 0 ≡ k = omega arith in subst (λ (a : ℕ). AreLaid form list claimed frame a fs) e more
  laid_join k (e ∷ es) fs laid more =
      let s : k + suc (length es) ≡ (k + 1) + length es = omega arith in
      (laid.0, laid.1, laid_join (k + 1) es fs laid.2 (subst (λ (a : ℕ). AreLaid form list claimed frame a fs) s more))

  pub loaded_join : (a b c : ℕ) (old new newer : List (ℕ × Block)) → IsLoaded form list claimed frame a b old new → IsLoaded form list claimed frame b c new newer → IsLoaded form list claimed frame a c old newer
  loaded_join a b c old new newer h i = record {
    more = h.more ++ i.more;
    behind = i.behind ∙ (ap (λ (xs : List (ℕ × Block)). xs ++ i.more) h.behind ∙ append_assoc old h.more i.more);
    many = omega (arith, h.many, i.many, length-append h.more i.more);
    laid = laid_join a h.more i.more h.laid (subst (λ (n : ℕ). AreLaid form list claimed frame n i.more) (sym h.many) i.laid);
  }

  pub none_yet : IsLoaded form list claimed frame 0 0 [] []
  none_yet = record { more = []; behind = refl; many = refl; laid = tt }

module _ {R K : Type 0} (form : Form R K) where
  pub pieces_stand : PiecesStand form
  pieces_stand list claimed frame m from to old new piece written =
      subst (StandBetween form list claimed frame m from) piece.many (stands form list claimed frame m from piece.more piece.laid written)

  pub pieces_join : PiecesJoin form
  pieces_join list claimed frame m from middle to first second j i lt low high = by_place (nat_lt (start form.kind (length list) j + i) middle) refl where
    by_place : (c : Bool) → nat_lt (start form.kind (length list) j + i) middle ≡ c → IsLaid form list claimed frame j i (m (at_level form.kind (length list) claimed j i))
    by_place true h = first j i lt low (lt_true (start form.kind (length list) j + i) middle h)
    by_place false h = second j i lt (lt_false (start form.kind (length list) j + i) middle h) high

  pub all_stand : AllStand form
  all_stand list claimed frame levels m shape between j i lv lt =
      between j i lt (omega arith) (omega (arith, lt, start_on form.kind (length list) j, start_up form.kind (length list) (suc j) levels (omega (arith, lv)), shape.all))

-- some more blocks were counted
pub more_steps : (s t u : StepCount) (a b : ℕ) → t ≡ record { reads = s.reads; writes = s.writes + a; moves = s.moves } → u ≡ record { reads = t.reads; writes = t.writes + b; moves = t.moves } → u ≡ record { reads = s.reads; writes = s.writes + (a + b); moves = s.moves }
more_steps s t u a b i h =
    let r : t.reads ≡ s.reads = ap (λ (x : StepCount). x.reads) i in
    let v : t.writes ≡ s.writes + a = ap (λ (x : StepCount). x.writes) i in
    let m : t.moves ≡ s.moves = ap (λ (x : StepCount). x.moves) i in
    let w : t.writes + b ≡ s.writes + (a + b) = omega (arith, v) in
    let p : ◌≡◌ {A = StepCount} (record { reads = t.reads; writes = t.writes + b; moves = t.moves }) (record { reads = s.reads; writes = s.writes + (a + b); moves = s.moves }) = λ j. record { reads = r j; writes = w j; moves = m j } in
    h ∙ p

-- no step was counted
pub no_steps : (most : ℕ) (s : StepCount) → WritesSome most s s
no_steps most s =
    let w : s.writes ≡ s.writes + 0 = omega arith in
    (0, omega arith, (λ j. record { reads = s.reads; writes = w j; moves = s.moves }))

pub on_err : {T E : Type 0} {P : Type 0} (result : Result T E) → P → OnErr result P
on_err (Ok done) p = tt
on_err (Err fault) p = p
