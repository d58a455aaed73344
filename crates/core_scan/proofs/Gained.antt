-- A shadow that gains claims, some after the others.
use Rattle.std.proofs.Common.{◌≡◌, ℕ, zero, suc, ◌+◌, ◌<◌, ◌≤◌, ◌||◌, Bool, true, false, List, [], ◌∷◌, ◌++◌, length, drop, get_or, drop-cons, map, flat_map, refl, sym, ap, ◌∙◌, arith}
use Rattle.rmap_recs.specs.Runs.{has}
use Rattle.rmap_recs.specs.declared.tuples.Tuple.{Tuple}
use Rattle.run_edits.specs.EditLaws.{AreUntied}
use Rattle.shadow_rmap.specs.Kept.{KeepsTuples, ShadowState}
use Rattle.shadow_rmap.specs.ToldLaws.{runs_alike, untied_alike}
use Rattle.fs_state.specs.Claims.{Claimed}
use Rattle.fs_state.specs.Own.{tuple_of}
use Rattle.law_writers.proofs.Change.Members.{hasc, hasc_both}
use Rattle.fs_change.proofs.Sets.{has_both, has_of, of_has}
use Rattle.core_scan.specs.Gains.{Gains, Lacks}

pub keeps_alike : (s : ShadowState) (ts us : List Tuple) → ((t : Tuple) → has us t ≡ has ts t) → KeepsTuples ts s → KeepsTuples us s
keeps_alike s ts us same k = runs_alike ts us s.runs (λ t c. of_has us t (same t ∙ has_of ts t c)) (λ t c. of_has ts t (sym (same t) ∙ has_of us t c)) k

pub untied_part : (ts us : List Tuple) → ((t : Tuple) → has us t ≡ true → has ts t ≡ true) → AreUntied ts → AreUntied us
untied_part ts us part h = untied_alike ts us (λ t c. of_has ts t (part t (has_of us t c))) h

or_none : (x : Bool) → (x || false) ≡ x
or_none true = refl
or_none false = refl

or_again : (x y z : Bool) → (x || (y || z)) ≡ ((x || y) || z)
or_again true y z = refl
or_again false y z = refl

-- nothing more
pub gains_none : (s : ShadowState) (cs : ℕ → List Claimed) → cs s.group ≡ [] → Gains s s cs
gains_none s cs none = record {
  own = refl;
  kept = λ ts us untied same k. keeps_alike s ts us (λ t. same t ∙ ap (λ c. has ts t || hasc c t) none ∙ or_none (has ts t)) k;
}

-- some, and then others
pub gains_both : (r s u : ShadowState) (cs ds : ℕ → List Claimed) → Gains r s cs → Gains s u ds → Gains r u (λ g. cs g ++ ds g)
gains_both r s u cs ds first second = record {
  own = second.own ∙ first.own;
  kept = λ ts us untied same k.
      let mid : List Tuple = ts ++ map tuple_of (cs r.group) in
      let all : (t : Tuple) → has us t ≡ (has mid t || hasc (ds s.group) t) = λ t.
      same t
      ∙ ap (λ b. has ts t || b) (hasc_both (cs r.group) (ds r.group) t)
      ∙ or_again (has ts t) (hasc (cs r.group) t) (hasc (ds r.group) t)
      ∙ ap (λ b. b || hasc (ds r.group) t) (sym (has_both ts (map tuple_of (cs r.group)) t))
      ∙ ap (λ g. has mid t || hasc (ds g) t) (sym first.own) in
      second.kept mid us untied all (first.kept ts mid (untied_part us mid (λ t h. all t ∙ ap (λ b. b || hasc (ds s.group) t) h) untied) (λ t. has_both ts (map tuple_of (cs r.group)) t) k);
}

pub lacks_all : (s : ShadowState) (cs ds : ℕ → List Claimed) → ((g : ℕ) → ds g ≡ cs g) → Lacks s s ds cs
lacks_all s cs ds same u h = record { own = h.own; kept = λ ts us untied e k. h.kept ts us untied (λ t. e t ∙ ap (λ c. has ts t || hasc c t) (same s.group)) k }

-- the first of what is lacking is gained
pub lacks_on : (r s u : ShadowState) (all rest later one : ℕ → List Claimed) → ((g : ℕ) → rest g ≡ one g ++ later g) → Lacks r s all rest → Gains s u one → Lacks r u all later
lacks_on r s u all rest later one split l h v k = l v (lacks_all s (λ g. one g ++ later g) rest split v (gains_both s u v one later h k))

pub lacks_none : (r s : ShadowState) (all rest : ℕ → List Claimed) → ((g : ℕ) → rest g ≡ []) → Lacks r s all rest → Gains r s all
lacks_none r s all rest none l = l s (gains_none s rest (none s.group))

pub more_first : {X : Type 0} (f : X → List Claimed) (xs : List X) (i : ℕ) (d : X) → i < length xs → flat_map f (drop i xs) ≡ f (get_or xs i d) ++ flat_map f (drop (i + 1) xs)
more_first {X = X} f xs i d lt =
    let next : suc i ≡ i + 1 = omega arith in
    ap (λ (ys : List X). flat_map f ys) (drop-cons xs i d lt) ∙ ap (λ (k : ℕ). f (get_or xs i d) ++ flat_map f (drop k xs)) next

drop_all : {X : Type 0} (i : ℕ) (xs : List X) → length xs ≤ i → drop i xs ≡ []
drop_all zero [] h = refl
drop_all zero (x ∷ xs) h = absurd (omega (arith, h))
drop_all (suc i) [] h = refl
drop_all (suc i) (x ∷ xs) h = drop_all i xs (omega (arith, h))

pub none_more : {X : Type 0} (f : X → List Claimed) (xs : List X) (i : ℕ) → length xs ≤ i → flat_map f (drop i xs) ≡ []
none_more {X = X} f xs i le = ap (λ (ys : List X). flat_map f ys) (drop_all i xs le)
