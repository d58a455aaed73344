-- The heads of a group, as they were decoded.
use Rattle.std.proofs.Common.{◌≡◌, ℕ, ◌<◌, ◌≤◌, List, [], ◌∷◌, Result, Ok, Err, MatchResult, ap, sym, subst, ◌∙◌}
use Rattle.std.proofs.lemmas.Bool.{lt-ltb}
use Rattle.std.proofs.lemmas.Result.{IfOk-at_ok}
use Rattle.std.specs.List.{AllByRecursion}
use Rattle.std.proofs.lemmas.List.Elements.{recursion_from_All}
use Rattle.ag_headers.specs.Agf.{agf_of}
use Rattle.ag_headers.specs.Agfl.{IsListOf, agfl_of}
use Rattle.ag_headers.specs.Agi.{agi_of}
use Rattle.ag_headers.specs.Ring.{FreeRing, entries}
use Rattle.ag_headers.specs.declared.agf.Agf.{Agf}
use Rattle.ag_headers.specs.declared.agi.Agi.{Agi}
use Rattle.fs_state.specs.Kinds.{Heads, heads_in}
use Rattle.geom.specs.Layout.{Layout, group_len_of}
use Rattle.tree_walk.specs.Trails.{LieInside}

pub heads_same : (bytes : List ℕ) (h : Heads) (agf : Agf) (agi : Agi) (ring : FreeRing) → h ≡ record { agf = agf; agi = agi; list = entries ring } → agf ≡ agf_of bytes → agi ≡ agi_of bytes → ring ≡ agfl_of bytes → h ≡ heads_in bytes
unfolding heads_in
heads_same bytes h agf agi ring is p q r = is ∙ (λ i. record { agf = p i; agi = q i; list = entries (r i) })

inside_each : (len : ℕ) (xs : List ℕ) → AllByRecursion (λ b. (1 ≤ b) × (b < len)) xs → LieInside len xs
inside_each len [] h = tt
inside_each len (x ∷ xs) h = (lt-ltb x len h.0.1, inside_each len xs h.1)

pub inside_list : (at : Layout) (g : ℕ) (h : Heads) (agf : Agf) (agi : Agi) (ring : FreeRing) → h ≡ record { agf = agf; agi = agi; list = entries ring } → IsListOf at g ring → LieInside (group_len_of at g) h.list
inside_list at g h agf agi ring is of =
    subst (LieInside (group_len_of at g)) (sym (ap (λ x. x.list) is))
    (inside_each (group_len_of at g) (entries ring) (recursion_from_All (λ b. (1 ≤ b) × (b < group_len_of at g)) (entries ring) of.blocks.inside))

-- an answer that `map_err` leaves is the call's, so it has what the call ensures
pub answered : {T E : Type 0} (D : Type 0) (S : Result T E → Type 0) (r : Result T E) (x : T) → MatchResult r (λ y. ◌≡◌ {A = Result T D} (Ok x) (Ok y)) (λ e. ⊥) → S r → S (Ok x)
answered D S (Ok y) x is s = IfOk-at_ok (λ v. S (Ok v)) (sym is) s
answered D S (Err e) x is s = absurd is
