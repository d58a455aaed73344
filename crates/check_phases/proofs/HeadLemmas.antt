-- The heads of all groups, group by group, and the first of them that is refused.
use Rattle.std.proofs.Common.{◌≡◌, ℕ, ◌+◌, List, [], ◌∷◌, ◌++◌, length, Some, None, Result, Ok, Err, IfErr, IfOk, IsErrAnd, MatchResult, refl, sym, subst, arith}
use Rattle.ag_headers.specs.Agfl.{agfl_fault}
use Rattle.ag_headers.specs.Agi.{agi_fault}
use Rattle.ag_headers.specs.declared.fault.HeadFault.{HeadFault}
use Rattle.fs_model.specs.declared.unit.Head.{Head}
use Rattle.fs_model.specs.declared.unit.Head.TheVariants.{Agf, Agi, Agfl}
use Rattle.fs_state.specs.Kinds.{Image}
use Rattle.geom.specs.Layout.{Layout, group_len_of}
use Rattle.group_trees.specs.Heads.{IsRefusedIn, PassIn}
use Rattle.group_trees.specs.declared.accept.HeadsStop.{HeadsStop}
use Rattle.group_trees.specs.declared.accept.HeadsStop.TheVariants as stops
use Rattle.group_trees.specs.declared.heads.GroupHeads.{GroupHeads}
use Rattle.space_check.specs.Checked.{bad_head, heads_at, of_head, or_else}
use Rattle.space_check.specs.Progress.{MeetsHead}
use Rattle.space_check.proofs.HeadLemmas.{outside_heads}
use Rattle.space_check.specs.declared.halt.Halt.{Halt}
use Rattle.tree_walk.specs.Trails.{LieInside}
use Rattle.check_phases.specs.Checks.{AreAccepted, AreHeads, IsHeadsOf}
use Rattle.check_phases.specs.Heads.{StopsAtHead}

module _ (at : Layout) (image : Image) (g : ℕ) where
  pub none_bad : PassIn at image g → bad_head at g (heads_at at image g) ≡ None
  unfolding bad_head
  none_bad pass = λ i. or_else (of_head Agf (pass.0 i)) (or_else (of_head Agi (pass.1 i)) (of_head Agfl (pass.2 i)))

  bad_is : (head : Head) (fault : HeadFault) → IsRefusedIn at image g (stops.Refused head fault) → bad_head at g (heads_at at image g) ≡ Some (head, fault)
  unfolding bad_head
  bad_is Agf fault is = λ i. or_else (of_head Agf (is i)) (or_else (of_head Agi (agi_fault at g (heads_at at image g))) (of_head Agfl (agfl_fault at g (heads_at at image g))))
  bad_is Agi fault is = λ i. or_else (of_head Agf (is.0 i)) (or_else (of_head Agi (is.1 i)) (of_head Agfl (agfl_fault at g (heads_at at image g))))
  bad_is Agfl fault is = λ i. or_else (of_head Agf (is.0 i)) (or_else (of_head Agi (is.1 i)) (of_head Agfl (is.2 i)))

  pub stop_meets : (T : Type 0) (stop : HeadsStop) (halt : Halt) → IsRefusedIn at image g stop → StopsAtHead g stop halt → MeetsHead {T = T} g (bad_head at g (heads_at at image g)) (Err halt)
  stop_meets T (stops.Refused head fault) halt is said = subst (λ (h : Halt). MeetsHead {T = T} g (bad_head at g (heads_at at image g)) (Err h)) (sym said) (refl, bad_is head fault is)
  stop_meets T stops.Failed halt is said = outside_heads T g (bad_head at g (heads_at at image g)) halt said
  stop_meets T stops.Memory halt is said = outside_heads T g (bad_head at g (heads_at at image g)) halt said

  -- the heads of a group end it as this, where each refusal is told as the check's
  pub heads_met : (P : HeadsStop → Halt → Type 0) → ((stop : HeadsStop) (halt : Halt) → P stop halt → StopsAtHead g stop halt)
      → (r : Result GroupHeads HeadsStop) (result : Result GroupHeads Halt) → MatchResult r (λ heads. result ≡ Ok heads) (λ stop. IsErrAnd result (P stop))
      → IfOk r (λ heads. PassIn at image g) → IfErr r (IsRefusedIn at image g) → MeetsHead g (bad_head at g (heads_at at image g)) result
  heads_met P says (Ok heads) result is passed refused = subst (MeetsHead g (bad_head at g (heads_at at image g))) (sym is) (none_bad passed)
  heads_met P says (Err stop) (Ok heads) is passed refused = absurd is
  heads_met P says (Err stop) (Err halt) is passed refused = stop_meets GroupHeads stop halt refused (says stop halt is)

  pub heads_behind : (k : ℕ) (hs : List GroupHeads) (h : GroupHeads) → k + length hs ≡ g → AreHeads at image k hs → IsHeadsOf at image g h → AreHeads at image k (hs ++ h ∷ [])
  heads_behind k [] h here are is = let e : g ≡ k = omega (arith, here) in (subst (λ x. IsHeadsOf at image x h) e is, tt)
  heads_behind k (x ∷ xs) h here are is = (are.0, heads_behind (k + 1) xs h (omega (arith, here)) are.1 is)

pub accepted_behind : (at : Layout) (g k : ℕ) (hs : List GroupHeads) (h : GroupHeads) → k + length hs ≡ g → AreAccepted at k hs → LieInside (group_len_of at g) h.list.items → AreAccepted at k (hs ++ h ∷ [])
accepted_behind at g k [] h here are is = let e : g ≡ k = omega (arith, here) in (subst (λ x. LieInside (group_len_of at x) h.list.items) e is, tt)
accepted_behind at g k (x ∷ xs) h here are is = (are.0, accepted_behind at g (k + 1) xs h (omega (arith, here)) are.1 is)
