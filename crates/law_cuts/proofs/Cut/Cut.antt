-- The state that a row decides and the state behind the entry: what of them is the same.
use Rattle.std.proofs.Common.{◌≡◌, ℕ, zero, suc, ◌+◌, ◌*◌, ◌<◌, ◌≤◌, ◌==◌, ◌&&◌, ◌||◌, Bool, true, false, List, [], ◌∷◌, ◌++◌, flat_map, refl, sym, ap, ap₂, subst, ◌∙◌, inl, inr, arith, eqb-true, eq-eqb, Result, Ok, Err}
use Rattle.std.specs.Prelude.{sum_by, if◌then◌else◌}
use Rattle.std.proofs.lemmas.Bool.{cases_order, false≢true, true≢false}
use Rattle.std.proofs.lemmas.Bool.Decides.{nat_tests}
use Rattle.std.proofs.lemmas.List.Sums.{sum_by-cons}
use Rattle.law_accounts.specs.Account.Accounts.{adds, alone_at, due, frees, ledger_in, lowers, owes, owned_at, raises, removes, spans_at}
use Rattle.law_accounts.specs.Account.Ledger.{Sound}
use Rattle.law_accounts.specs.Account.Stated.{ledger_at}
use Rattle.dinode_core.specs.declared.mapping.Fork.TheVariants as forks
use Rattle.dinode_core.specs.declared.mapping.ForkFault.{ForkFault}
use Rattle.fs_change.proofs.Beside as beside
use Rattle.fs_change.specs.Chains.{most_chains}
use Rattle.fs_change.specs.Edited.{edited_in, group_of_entry}
use Rattle.fs_change.specs.Loose.{Inside, Loosely, MovesBlocks, owners_in}
use Rattle.fs_change.specs.Records.{count_at}
use Rattle.fs_change.specs.Step.{Step}
use Rattle.fs_state.specs.Chunks.{inodes}
use Rattle.fs_state.specs.Claims.{Claimed, claims, mapping_claims, read_fork}
use Rattle.fs_state.specs.Contradiction.{is_written_data}
use Rattle.fs_state.specs.Lists.{numbers}
use Rattle.fs_model.specs.declared.claim.Claim.TheVariants.{Data}
use Rattle.fs_model.specs.declared.entry.Entry.{Entry}
use Rattle.fs_state.specs.Frame.{SameFork}
use Rattle.fs_state.specs.State.{ForkList, State, blocks_in}
use Rattle.geom.proofs.ApartLemmas.{splits_in}
use Rattle.geom.specs.Apart.{HasFitting, Splits}
use Rattle.law_writers.proofs.Held.Held.{sum_same}
use Rattle.law_writers.specs.Held.Held.{AreHolders, weight_at}
use Rattle.law_writers.proofs.Inode.Cores.{open_records}
use Rattle.law_repairs.proofs.Move.Claiming.{IsPlain, alone_plain, alone_times, owned_plain, owned_times, total_is}
use Rattle.law_repairs.proofs.Move.Kept.{loose_alike}
use Rattle.law_repairs.proofs.Move.Pairs.{in_of}
use Rattle.law_repairs.proofs.Repair.Groups.{only_same}
use Rattle.law_repairs.proofs.Repair.Same.{alike_law, chunks_same, forks_same, inodes_same}
use Rattle.law_repairs.proofs.Repair.Totals.{alone_by, chunk_part, front_part, limbo_weight, owned_by, weigh}
use Rattle.law_repairs.specs.Repair.Alike.{AlikeGroup, AlikeInodes}
use Rattle.sblock.specs.declared.kind.Kind.{Kind}
use Rattle.sblock.specs.declared.kind.Kind.TheVariants.{Bno, Refc}
use Rattle.tree_defs.specs.Lists.{is_in, times}
use Rattle.law_cuts.specs.Cut.Cut.{HeldBehind, SoundBehind}
use Rattle.law_cuts.proofs.Cut.Moved.{covers_now, reserve_now, times_now}

-- ---- one sum, by two names

pub owned_sum : (k : ℕ) (cs : List Claimed) → owned_at k cs ≡ weigh (owned_by k) cs
owned_sum k [] = refl
owned_sum k (c ∷ cs) = sum_by-cons (λ (x : Claimed). if x.block == k then 1 else 0) c cs ∙ ap (λ (n : ℕ). (if c.block == k then 1 else 0) + n) (owned_sum k cs)

alone_sum : (k : ℕ) (cs : List Claimed) → alone_at k cs ≡ weigh (alone_by k) cs
alone_sum k [] = refl
alone_sum k (c ∷ cs) =
    sum_by-cons (λ (x : Claimed). if (x.block == k) && (if is_written_data x then false else true) then 1 else 0) c cs
    ∙ ap₂ (λ (m n : ℕ). m + n) (one (c.block == k) (is_written_data c)) (alone_sum k cs)
  where
    one : (s t : Bool) → ◌≡◌ {A = ℕ} (if s && (if t then false else true) then 1 else 0) (if s then (if t then 0 else 1) else 0)
    one true true = refl
    one true false = refl
    one false t = refl

-- ---- a group whose blocks moved

module _ (x b : State) (g : ℕ) (kept : Bool) (left ks : List Kind) (splits : Splits x.geometry) (alike : AlikeInodes x b) (m : MovesBlocks kept left ks (x.group g) (b.group g)) where
  same_total : (w : Claimed → ℕ) → IsPlain w → weigh (limbo_weight w) (owners_in (b.group g)) ≡ weigh (limbo_weight w) (owners_in (x.group g)) → weigh w (claims b g) ≡ weigh w (claims x g)
  same_total w plain e =
      total_is w plain b g
      ∙ (λ i. weigh w (front_part (alike.geometry i) g) + e i + weigh (limbo_weight w) (reserve_now kept left ks (x.group g) (b.group g) m i) + weigh w (chunk_part (chunks_same x b splits alike g i)) + weigh w (forks_same x b splits alike g i))
      ∙ sym (total_is w plain x g)

  pub owned_same : (k : ℕ) → owned_at k (claims b g) ≡ owned_at k (claims x g)
  owned_same k =
      owned_sum k (claims b g)
      ∙ same_total (owned_by k) (owned_plain k) (owned_times k (owners_in (b.group g)) ∙ times_now kept left ks (x.group g) (b.group g) m k ∙ sym (owned_times k (owners_in (x.group g))))
      ∙ sym (owned_sum k (claims x g))

  pub alone_same : (k : ℕ) → alone_at k (claims b g) ≡ alone_at k (claims x g)
  alone_same k =
      alone_sum k (claims b g)
      ∙ same_total (alone_by k) (alone_plain k) (alone_times k (owners_in (b.group g)) ∙ times_now kept left ks (x.group g) (b.group g) m k ∙ sym (alone_times k (owners_in (x.group g))))
      ∙ sym (alone_sum k (claims x g))

-- a sound block of metadata stands there once
pub stands_once : (x : State) (g k : ℕ) → Sound (ledger_at x g k) → times k (blocks_in (owners_in (x.group g))) ≤ 1
stands_once x g k s = elim (cases_order (times k (blocks_in (owners_in (x.group g)))) 0) [
  | inl none ↦ omega (arith, none)
  | inr (inl less) ↦ absurd (omega (arith, less))
  | inr (inr some) ↦
      let alone = alone_sum k (claims x g) in
      let lone = total_is (alone_by k) (alone_plain k) x g in
      let among = alone_times k (owners_in (x.group g)) in
      let owned = owned_sum k (claims x g) in
      let all = total_is (owned_by k) (owned_plain k) x g in
      let those = owned_times k (owners_in (x.group g)) in
      let one = (s.single (least _ _ _ _ _ _ _ _ alone lone among some)).0 in
      most _ _ _ _ _ _ _ _ owned all those one
]
  where
    least : (n w f o r c k t : ℕ) → n ≡ w → w ≡ f + o + r + c + k → o ≡ t → 0 < t → 1 ≤ n
    least n w f o r c k t d e h l = omega (arith, d, e, h, l)

    most : (n w f o r c k t : ℕ) → n ≡ w → w ≡ f + o + r + c + k → o ≡ t → n ≡ 1 → t ≤ 1
    most n w f o r c k t d e h l = omega (arith, d, e, h, l)

-- and is claimed by nobody else
pub stands_alone : (x : State) (g k : ℕ) → Sound (ledger_at x g k) → 1 ≤ times k (blocks_in (owners_in (x.group g))) → owned_at k (claims x g) ≡ 1
stands_alone x g k s some =
    let alone = alone_sum k (claims x g) in
    let lone = total_is (alone_by k) (alone_plain k) x g in
    let among = alone_times k (owners_in (x.group g)) in
    (s.single (least _ _ _ _ _ _ _ _ alone lone among some)).0
  where
    least : (n w f o r c k t : ℕ) → n ≡ w → w ≡ f + o + r + c + k → o ≡ t → 1 ≤ t → 1 ≤ n
    least n w f o r c k t d e h l = omega (arith, d, e, h, l)

-- ---- the ledger of a block

module _ (a x b : State) (g : ℕ) (left ks : List Kind) (splits : Splits x.geometry) (l : Loosely g left ks a x b) where
  alike : AlikeInodes x b
  alike = loose_alike a x b g left ks splits l

  -- of a group that is the same
  still : (h k : ℕ) → b.group h ≡ x.group h → ledger_at b h k ≡ ledger_at x h k
  still h k e =
      let same : claims b h ≡ claims x h = (alike_law x b h splits alike (subst (AlikeGroup (x.group h)) (sym e) (only_same (x.group h)))).claimed in
      λ i. ledger_in (e i) (l.chains i) h k (owned_at k (same i)) (alone_at k (same i))

  -- of one whose trees were edited
  moved : (k : ℕ) → Sound (ledger_at x g k) → MovesBlocks a.geometry.inobtcount left ks (x.group g) (b.group g) → Inside a.geometry.inobtcount left ks (x.group g) (b.group g) → ledger_at b g k ≡ ledger_at x g k
  moved k s m inside =
      let owned = owned_same x b g a.geometry.inobtcount left ks splits alike m k in
      let alone = alone_same x b g a.geometry.inobtcount left ks splits alike m k in
      let spans = open_records a.geometry.inobtcount left ks (x.group g) (b.group g) Bno refl inside in
      let counts = open_records a.geometry.inobtcount left ks (x.group g) (b.group g) Refc refl inside in
      let covers = covers_now a.geometry.inobtcount left ks (x.group g) (b.group g) m k (stands_once x g k s) in
      λ i. record {
        count = count_at (counts i) k;
        more = due (owes raises g k) (l.chains i);
        goes = due (owes removes g k) (l.chains i);
        less = due (owes lowers g k) (l.chains i);
        frees = due (owes frees g k) (l.chains i);
        comes = due (owes adds g k) (l.chains i);
        spans = spans_at (spans i) k;
        covers = covers i;
        owned = owned i;
        alone = alone i;
      }

  inside_sound : (js : List Kind) → js ≡ ks → (k : ℕ) → Inside a.geometry.inobtcount left js (x.group g) (b.group g) → Sound (ledger_at x g k) → Sound (ledger_at b g k)
  inside_sound [] e k m s = subst Sound (sym (still g k m)) s
  inside_sound (j ∷ js) e k m s =
      subst Sound (sym (moved k s (subst (λ is. MovesBlocks a.geometry.inobtcount left is (x.group g) (b.group g)) e m) (subst (λ is. Inside a.geometry.inobtcount left is (x.group g) (b.group g)) e m))) s

  pub loose_sound : (h k : ℕ) → Sound (ledger_at x h k) → Sound (ledger_at b h k)
  loose_sound h k s = by (h == g) refl
    where
      by : (t : Bool) → (h == g) ≡ t → Sound (ledger_at b h k)
      by true e = let same : h ≡ g = eqb-true h g e in subst (λ n. Sound (ledger_at b n k)) (sym same) (inside_sound ks refl k l.inside (subst (λ n. Sound (ledger_at x n k)) same s))
      by false e = subst Sound (sym (still h k (l.others h (λ same. false≢true (sym e ∙ eq-eqb h g same))))) s

-- ---- what chains hold

same_read : (r s : Result ForkList ForkFault) → SameFork r s → read_fork s ≡ read_fork r
same_read (Ok list) s e = ap read_fork e
same_read (Err fault) (Err other) e = refl
same_read (Err fault) (Ok list) e = absurd (true≢false e)

in_both : (i : ℕ) (xs ys : List ℕ) → is_in i (xs ++ ys) ≡ (is_in i xs || is_in i ys)
in_both i [] ys = refl
in_both i (x ∷ xs) ys = ap (λ b. (x == i) || b) (in_both i xs ys) ∙ again (x == i) (is_in i xs) (is_in i ys)
  where
    again : (p q r : Bool) → (p || (q || r)) ≡ ((p || q) || r)
    again true q r = refl
    again false q r = refl

in_flat : (held : ℕ → List ℕ) (i c k n : ℕ) → k ≤ c → c < k + n → is_in i (held c) ≡ true → is_in i (flat_map held (numbers k n)) ≡ true
in_flat held i c k zero l m h = absurd (omega (arith, l, m))
in_flat held i c k (suc n) l m h = in_both i (held k) (flat_map held (numbers (k + 1) n)) ∙ by (k == c) refl (λ o. in_flat held i c (k + 1) n (further k c l o) (omega (arith, m)) h)
  where
    further : (k c : ℕ) → k ≤ c → (k == c) ≡ false → k + 1 ≤ c
    further k c l o = grind (arith, nat_tests)

    or_right : (p q : Bool) → q ≡ true → (p || q) ≡ true
    or_right true q e = refl
    or_right false q e = e

    by : (t : Bool) → (k == c) ≡ t → ((k == c) ≡ false → is_in i (flat_map held (numbers (k + 1) n)) ≡ true) → (is_in i (held k) || is_in i (flat_map held (numbers (k + 1) n))) ≡ true
    by true e later = ap (λ b. b || is_in i (flat_map held (numbers (k + 1) n))) (ap (λ d. is_in i (held d)) (eqb-true k c e) ∙ h)
    by false e later = or_right (is_in i (held k)) _ (later e)

loose_holds : (x b : State) (held : ℕ → List ℕ) → Splits x.geometry → AlikeInodes x b → b.chains ≡ x.chains → AreHolders x held → AreHolders b held
loose_holds x b held splits alike chains h =
    let same : inodes b ≡ inodes x = inodes_same x b splits alike in
    record {
      apart = record { distinct = h.apart.distinct; listed = λ i k. ap (is_in i) same ∙ h.apart.listed i k };
      paired = λ g k c lc.
          let sums : sum_by (weight_at b g k) (held c) ≡ sum_by (weight_at x g k) (held c) =
          sum_same (weight_at x g k) (weight_at b g k) (held c) (λ n i. weights g k n (h.apart.listed n (in_flat held n c 0 most_chains (omega arith) (omega (arith, lc)) i))) in
          let most = h.paired g k c lc in
          subst (λ s. 2 * sum_by (owes raises g k) (b.chains c) ≤ s) (sym sums) (subst (λ cs. 2 * sum_by (owes raises g k) (cs c) ≤ sum_by (weight_at x g k) (held c)) (sym chains) most);
    }
  where
    weights : (g k n : ℕ) → is_in n (inodes x) ≡ true → weight_at b g k n ≡ weight_at x g k n
    weights g k n i =
        let read = same_read (x.fork n forks.Data) (b.fork n forks.Data) (alike.forks n forks.Data (in_of n (inodes x) i)) in
        λ j. owned_at k (mapping_claims (alike.geometry j) g (Data n) n 0 (read j).mappings)

-- ---- behind an entry

pub decided_splits : (a b : State) (left : List Kind) (e : Entry) → HasFitting a.geometry → (s : Step a left e b) → Splits s.decided.geometry
decided_splits a b left e fit s = splits_in s.decided.geometry (subst HasFitting (sym (beside.decided a s.decided left e s.row).geometry) fit)

pub sound_behind : SoundBehind
sound_behind a b left e h k fit s sound = loose_sound a s.decided b (group_of_entry a e) left (edited_in a left e) (decided_splits a b left e fit s) s.loosely h k sound

pub held_behind : HeldBehind
held_behind a b left e held fit s h =
    let splits = decided_splits a b left e fit s in
    loose_holds s.decided b held splits (loose_alike a s.decided b (group_of_entry a e) left (edited_in a left e) splits s.loosely) s.loosely.chains h
