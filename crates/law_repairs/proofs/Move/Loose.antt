-- What is known of the state that an entry decides, from what is known of the states before and behind it.
use Rattle.std.proofs.Common.{◌≡◌, ℕ, ◌+◌, ◌<◌, ◌==◌, Bool, true, false, cond, List, [], ◌∷◌, filter, map, refl, ap, sym, subst, ◌∙◌, inl, inr, arith}
use Rattle.std.specs.Prelude.{◌/◌, if◌then◌else◌}
use Rattle.std.specs.List.{list_all}
use Rattle.std.proofs.lemmas.Bool.{and_parts, true≢false}
use Rattle.fs_change.specs.Loose.{Loosely}
use Rattle.fs_change.specs.Parts.{stands_in}
use Rattle.fs_state.specs.Claims.{Claimed}
use Rattle.fs_state.specs.Records.{kinds_of}
use Rattle.fs_state.specs.Laws.{EachTree}
use Rattle.fs_state.specs.Own.{own, set_of, tuple_of}
use Rattle.fs_model.specs.declared.unit.Trust.TheVariants.{Good}
use Rattle.fs_model.specs.declared.unit.Unit.{Unit as ScrubUnit}
use Rattle.fs_state.specs.Apart.{is_chunk}
use Rattle.fs_state.specs.State.{State, Group}
use Rattle.geom.specs.Apart.{Splits}
use Rattle.rmap_recs.specs.Runs.{AreTuples, HaveNext}
use Rattle.rmap_recs.specs.declared.tuples.Tuple.{Tuple}
use Rattle.sblock.specs.declared.kind.Kind.{Kind}
use Rattle.law_repairs.specs.Repair.Alike.{AlikeGroup}
use Rattle.law_repairs.specs.Repair.Letters.{IsTrusted}
use Rattle.law_repairs.specs.Repair.Moves.{SameChunks}
use Rattle.law_repairs.proofs.Repair.Groups.{only_same}
use Rattle.law_repairs.proofs.Repair.Same.{alike_law}
use Rattle.law_repairs.specs.Move.Moving.{is_own}
use Rattle.law_repairs.specs.Move.Order.{AreBlocks, IsInOrder}
use Rattle.law_repairs.proofs.Move.Kept.{loose_alike, own_same}
use Rattle.law_repairs.proofs.Move.Moving.{blocks_moved}
use Rattle.law_repairs.specs.Move.Moving.{AreBlockWords}

pub filter_own : (test : Kind → Bool) (ks : List Kind) → list_all is_own ks ≡ true → list_all is_own (filter test ks) ≡ true
filter_own test [] h = refl
filter_own test (k ∷ ks) h =
    let e = and_parts (is_own k) (list_all is_own ks) h in
    let rest = filter_own test ks e.1 in
    elim (test k) as (λ b. list_all is_own (cond b (k ∷ filter test ks) (filter test ks)) ≡ true) [
      | true ↦ rw (e.0, rest) refl
      | false ↦ rest
    ]

module _ (a x b : State) (g : ℕ) (left : List Kind) where
  -- no tree's trust changes by what is left open
  pub loose_trust : (ks : List Kind) → list_all is_own ks ≡ true → AreBlocks (x.group g) → Loosely g left ks a x b → (k : Kind) → ((b.group g).tree k).trust ≡ ((x.group g).tree k).trust
  loose_trust [] own_ks blocks l k = ap (λ (p : Group). (p.tree k).trust) l.inside
  loose_trust (j ∷ js) own_ks blocks l k = ((blocks_moved a.geometry.inobtcount left (j ∷ js) (x.group g) (b.group g) l.inside own_ks blocks.once).trees k).trust

  -- and no owner
  pub loose_own : (ks : List Kind) → Splits x.geometry → list_all is_own ks ≡ true → AreBlockWords (x.group g) → AreBlocks (x.group g) → AreBlocks (b.group g) → Loosely g left ks a x b → own b g ≡ own x g
  unfolding own
  loose_own [] splits own_ks words bx bb l =
      ap (λ (cs : List Claimed). set_of (map tuple_of cs)) (alike_law x b g splits (loose_alike a x b g left [] splits l) (subst (λ (q : Group). AlikeGroup (x.group g) q) (sym l.inside) (only_same (x.group g)))).claimed
  loose_own (j ∷ js) splits own_ks words bx bb l =
      own_same x b g a.geometry.inobtcount splits (loose_alike a x b g left (j ∷ js) splits l) (blocks_moved a.geometry.inobtcount left (j ∷ js) (x.group g) (b.group g) l.inside own_ks bx.once) words bx bb

  pub loose_chunks : (ks : List Kind) → Loosely g left ks a x b → SameChunks a b → SameChunks a x
  loose_chunks ks l stay h u = sym (l.inodes.chunks h u) ∙ stay h u

pub was_trusted : (a b : State) (g : ℕ) (unit : ScrubUnit) → ((k : Kind) → ((b.group g).tree k).trust ≡ ((a.group g).tree k).trust) → IsTrusted b g unit → IsTrusted a g unit
was_trusted a b g unit same trusted = each (kinds_of unit) trusted
  where
    each : (ks : List Kind) → EachTree (λ k. ((b.group g).tree k).trust ≡ Good) ks → EachTree (λ k. ((a.group g).tree k).trust ≡ Good) ks
    each [] t = tt
    each (k ∷ ks) t = (sym (same k) ∙ t.0, each ks t.1)
