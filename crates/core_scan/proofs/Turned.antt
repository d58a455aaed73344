-- What a step of an intent does to a shadow of its group.
use Rattle.std.proofs.Common.{◌≡◌, ℕ, ◌+◌, ◌&&◌, ◌||◌, Bool, true, false, not, List, [], filter, refl, sym, ap, ap₂, ◌∙◌, eq-eqb}
use Rattle.std.specs.Prelude.{if◌then◌else◌}
use Rattle.std.proofs.lemmas.Bool.{and_parts}
use Rattle.rmap_recs.specs.Runs.{has}
use Rattle.rmap_recs.specs.declared.records.RmapRec.{RmapRec}
use Rattle.rmap_recs.specs.declared.tuples.Tuple.{Tuple}
use Rattle.run_edits.specs.EditLaws.{AreUntied}
use Rattle.shadow_rmap.specs.Kept.{KeepsTuples, ShadowState}
use Rattle.shadow_rmap.specs.Union.{AreLeft, AreUnion}
use Rattle.fs_state.specs.declared.intent.Intent.{Intent}
use Rattle.fs_state.specs.declared.intent.IntentKind.{IntentKind}
use Rattle.fs_state.specs.declared.intent.IntentKind.TheVariants.{RmapAdd, RmapRemove, RmapChange}
use Rattle.fs_state.specs.Claims.{unwritten}
use Rattle.fs_change.proofs.Sets.{has_passing}
use Rattle.fs_change.specs.Chains.{given_by, gives, is_change, run_of, taken_by, takes, tuples_in, tuples_of, word_taken}
use Rattle.core_scan.proofs.Gained.{keeps_alike, untied_part}
use Rattle.core_scan.proofs.Given.{left_by, tuples, union_by}
use Rattle.core_scan.specs.Followed.{Turns}

none_taken : (g : ℕ) (i : Intent) (t : Tuple) → takes i.kind ≡ false → has (taken_by g i) t ≡ false
none_taken g i t h = ap (λ b. has (if b then tuples_in g i (word_taken i) else []) t) h

none_given : (g : ℕ) (i : Intent) (t : Tuple) → gives i.kind ≡ false → has (given_by g i) t ≡ false
none_given g i t h = ap (λ b. has (if b then tuples_in g i i.word else []) t) h

all_in : (g word : ℕ) (i : Intent) (t : Tuple) → i.group ≡ g → has (tuples_in g i word) t ≡ has (tuples (run_of i word)) t
all_in g word i t h = ap (λ b. has (if b then tuples_of (run_of i word) else []) t) (eq-eqb i.group g h)

is_taken : (g : ℕ) (i : Intent) (t : Tuple) → takes i.kind ≡ true → i.group ≡ g → has (taken_by g i) t ≡ has (tuples (run_of i (word_taken i))) t
is_taken g i t h own = ap (λ b. has (if b then tuples_in g i (word_taken i) else []) t) h ∙ all_in g (word_taken i) i t own

is_given : (g : ℕ) (i : Intent) (t : Tuple) → gives i.kind ≡ true → i.group ≡ g → has (given_by g i) t ≡ has (tuples (run_of i i.word)) t
is_given g i t h own = ap (λ b. has (if b then tuples_in g i i.word else []) t) h ∙ all_in g i.word i t own

with_all : (x y : Bool) → ((x && true) || y) ≡ (x || y)
with_all true y = refl
with_all false y = refl

without_more : (x y : Bool) → ((x && not y) || false) ≡ (x && not y)
without_more true true = refl
without_more true false = refl
without_more false y = refl

abbrev Puts : RmapRec → ShadowState → ShadowState → Type 0
Puts r s s' = (ts us : List Tuple) → AreUntied us → AreUnion ts us r → KeepsTuples ts s → KeepsTuples us s'

abbrev Cuts : RmapRec → ShadowState → ShadowState → Type 0
Cuts r s s' = (ts us : List Tuple) → AreUntied us → AreLeft ts us r → KeepsTuples ts s → KeepsTuples us s'

pub turn_add : (i : Intent) (s s' : ShadowState) (r : RmapRec) → i.kind ≡ RmapAdd → i.group ≡ s.group → r ≡ run_of i i.word → Puts r s s' → Turns i s s'
turn_add i s s' r kind own same puts ts us before behind each k = puts ts us behind (union_by ts us r (λ t.
    each t
    ∙ ap₂ (λ x y. (has ts t && not x) || y) (none_taken s.group i t (ap takes kind)) (is_given s.group i t (ap gives kind) own)
    ∙ with_all (has ts t) (has (tuples (run_of i i.word)) t)
    ∙ ap (λ (x : RmapRec). has ts t || has (tuples x) t) (sym same))) k

pub turn_remove : (i : Intent) (s s' : ShadowState) (r : RmapRec) → i.kind ≡ RmapRemove → i.group ≡ s.group → r ≡ run_of i i.word → Cuts r s s' → Turns i s s'
turn_remove i s s' r kind own same cuts ts us before behind each k = cuts ts us behind (left_by ts us r (λ t.
    each t
    ∙ ap₂ (λ x y. (has ts t && not x) || y) (is_taken s.group i t (ap takes kind) own ∙ ap (λ w. has (tuples (run_of i w)) t) (plain i.kind kind)) (none_given s.group i t (ap gives kind))
    ∙ without_more (has ts t) (has (tuples (run_of i i.word)) t)
    ∙ ap (λ (x : RmapRec). has ts t && not (has (tuples x) t)) (sym same))) k
  where
    plain : (kind : IntentKind) → kind ≡ RmapRemove → (if is_change kind then i.word + unwritten else i.word) ≡ i.word
    plain kind h = ap (λ (x : IntentKind). if is_change x then i.word + unwritten else i.word) h

pub turn_change : (i : Intent) (s m s' : ShadowState) (r q : RmapRec) → i.kind ≡ RmapChange → i.group ≡ s.group → r ≡ run_of i (i.word + unwritten) → q ≡ run_of i i.word → Cuts r s m → Puts q m s' → Turns i s s'
turn_change i s m s' r q kind own old new cuts puts ts us before behind each k =
    let mid : List Tuple = filter (λ t. not (has (tuples r) t)) ts in
    puts mid us behind (union_by mid us q (λ t.
    each t
    ∙ ap₂ (λ x y. (has ts t && not x) || y) (is_taken s.group i t (ap takes kind) own ∙ ap (λ w. has (tuples (run_of i w)) t) (changed i.kind kind) ∙ ap (λ (x : RmapRec). has (tuples x) t) (sym old)) (is_given s.group i t (ap gives kind) own ∙ ap (λ (x : RmapRec). has (tuples x) t) (sym new))
    ∙ ap (λ b. b || has (tuples q) t) (sym (has_passing (λ u. not (has (tuples r) u)) ts t))))
    (cuts ts mid (untied_part ts mid (λ t h. (and_parts (has ts t) (not (has (tuples r) t)) (sym (has_passing (λ u. not (has (tuples r) u)) ts t) ∙ h)).0) before) (left_by ts mid r (λ t. has_passing (λ u. not (has (tuples r) u)) ts t)) k)
  where
    changed : (kind : IntentKind) → kind ≡ RmapChange → (if is_change kind then i.word + unwritten else i.word) ≡ i.word + unwritten
    changed kind h = ap (λ (x : IntentKind). if is_change x then i.word + unwritten else i.word) h

pub turn_none : (i : Intent) (s : ShadowState) → takes i.kind ≡ false → gives i.kind ≡ false → Turns i s s
turn_none i s no_taking no_giving ts us before behind each k = keeps_alike s ts us (λ t.
    each t ∙ ap₂ (λ x y. (has ts t && not x) || y) (none_taken s.group i t no_taking) (none_given s.group i t no_giving) ∙ same (has ts t)) k
  where
    same : (x : Bool) → ((x && true) || false) ≡ x
    same true = refl
    same false = refl
