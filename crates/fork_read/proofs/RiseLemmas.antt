-- Mappings without a fault rise, and two lists of them that overlap are one.
use Rattle.std.proofs.Common.{◌≡◌, ℕ, suc, ◌+◌, ◌-◌, ◌<◌, ◌≤◌, Bool, true, false, List, [], ◌∷◌, ◌++◌, filter, length, Option, Some, None, refl, ap, sym, subst, ◌∙◌, inl, inr, arith}
use Rattle.std.specs.Prelude.{◌⊎◌, ◌&&◌, nat_le, nat_lt}
use Rattle.std.specs.List.{slice_get}
use Rattle.std.proofs.lemmas.Bool.{and_parts, cases_Bool, false≢true}
use Rattle.std.proofs.lemmas.Bool.Decides.{nat_tests}
use Rattle.byte_fields.proofs.TestLemmas.{all_pass, none_fails}
use Rattle.geom.specs.Layout.{Layout}
use Rattle.dinode_core.specs.declared.mapping.Mapping.{Mapping}
use Rattle.dinode_core.specs.declared.mapping.Fork.{Fork}
use Rattle.dinode_core.specs.declared.mapping.ForkFault.{ForkFault}
use Rattle.dinode_core.specs.Inline.{clears, first_bad, mapping_fault, mapping_tests, or_else, rises}
use Rattle.fork_read.specs.Answers.{last_clears}
use Rattle.fork_read.specs.Parts.{Each}
use Rattle.fork_read.proofs.WholeLemmas.{else_parts}

-- the last of a list
pub last_split : (ms : List Mapping) (m : Mapping) → slice_get ms (length ms - 1) ≡ Some m → (front : List Mapping) × (ms ≡ front ++ m ∷ [])
last_split [] m h = cc
last_split (x ∷ []) m h =
    let same : x ≡ m = cc in
    ([], ap (λ y. y ∷ []) same)
last_split (x ∷ y ∷ ms) m h =
    let e : length (x ∷ y ∷ ms) - 1 ≡ suc (length (y ∷ ms) - 1) = omega arith in
    let rest = last_split (y ∷ ms) m (subst (λ k. slice_get (x ∷ y ∷ ms) k ≡ Some m) e h) in
    (x ∷ rest.0, ap (λ zs. x ∷ zs) rest.1)

pub record Clears (from key : ℕ) (ms : List Mapping) : Type 0 where
  pub front : List Mapping
  pub last : Mapping
  pub split : ms ≡ front ++ last ∷ []
  pub own : from ≤ last.offset
  pub below : last.offset < key
  pub ended : last.offset + last.count ≤ key

clears_by : (from key : ℕ) (ms : List Mapping) (o : Option Mapping) → slice_get ms (length ms - 1) ≡ o → last_clears from key o ≡ true → Clears from key ms
clears_by from key ms None e h = absurd (false≢true h)
clears_by from key ms (Some m) e h =
    let two = and_parts (nat_le from m.offset && nat_lt m.offset key) (nat_le (m.offset + m.count) key) h in
    let one = and_parts (nat_le from m.offset) (nat_lt m.offset key) two.0 in
    let split = last_split ms m e in
    record {
      front = split.0;
      last = m;
      split = split.1;
      own = grind (arith, nat_tests, one.0);
      below = grind (arith, nat_tests, one.1);
      ended = grind (arith, nat_tests, two.1);
    }

pub clears_of : (from key : ℕ) (ms : List Mapping) → last_clears from key (slice_get ms (length ms - 1)) ≡ true → Clears from key ms
clears_of from key ms h = clears_by from key ms (slice_get ms (length ms - 1)) refl h

module _ (at : Layout) (fork : Fork) where
  -- a good list's parts
  good_parts : (m : Mapping) (ms : List Mapping) → first_bad at fork (m ∷ ms) ≡ None → (mapping_fault at fork m ms ≡ None) × (first_bad at fork ms ≡ None)
  unfolding first_bad
  good_parts m ms h = else_parts (mapping_fault at fork m ms) (first_bad at fork ms) h

  pub good_two : (m n : Mapping) (ms : List Mapping) → first_bad at fork (m ∷ n ∷ ms) ≡ None → m.offset < n.offset
  unfolding mapping_fault rises
  good_two m n ms h =
      let pass = all_pass (mapping_tests at fork m (n ∷ ms)) (good_parts m (n ∷ ms) h).0 in
      let test : nat_lt m.offset n.offset ≡ true = pass.0 in
      grind (arith, nat_tests, test)

  pub good_rest : (m : Mapping) (ms : List Mapping) → first_bad at fork (m ∷ ms) ≡ None → first_bad at fork ms ≡ None
  good_rest m ms h = (good_parts m ms h).1

  pub good_back : (xs ys : List Mapping) → first_bad at fork (xs ++ ys) ≡ None → first_bad at fork ys ≡ None
  good_back [] ys h = h
  good_back (x ∷ xs) ys h = good_back xs ys (good_rest x (xs ++ ys) h)

  -- none begins before the first
  pub all_behind : (k : ℕ) (m : Mapping) (ms : List Mapping) → first_bad at fork (m ∷ ms) ≡ None → k ≤ m.offset → Each (λ (x : Mapping). k ≤ x.offset) (m ∷ ms)
  all_behind k m [] h e = (e, tt)
  all_behind k m (n ∷ ms) h e =
      let less = good_two m n ms h in
      (e, all_behind k n ms (good_rest m (n ∷ ms) h) (omega (arith, e, less)))

  -- none begins behind the last
  pub all_before : (k : ℕ) (front : List Mapping) (last : Mapping) → first_bad at fork (front ++ last ∷ []) ≡ None → last.offset < k → Each (λ (x : Mapping). x.offset < k) (front ++ last ∷ [])
  all_before k [] last h e = (e, tt)
  all_before k (m ∷ []) last h e =
      let less = good_two m last [] h in
      (omega (arith, e, less), (e, tt))
  all_before k (m ∷ n ∷ front) last h e =
      let rest = all_before k (n ∷ front) last (good_rest m ((n ∷ front) ++ last ∷ []) h) e in
      let less = good_two m n (front ++ last ∷ []) h in
      (omega (arith, rest.0, less), rest)

  same_fault : (m n : Mapping) (xs ys : List Mapping) → mapping_fault at fork m (n ∷ xs) ≡ mapping_fault at fork m (n ∷ ys)
  unfolding mapping_fault rises clears
  same_fault m n xs ys = refl

  -- behind good mappings the first bad one is that of the rest, where one of the rest was judged with them
  pub bad_behind : (xs : List Mapping) (m : Mapping) (ms more : List Mapping) → first_bad at fork (xs ++ m ∷ ms) ≡ None → first_bad at fork (xs ++ m ∷ more) ≡ first_bad at fork (m ∷ more)
  unfolding first_bad
  bad_behind [] m ms more h = refl
  bad_behind (x ∷ []) m ms more h =
      let own = good_parts x (m ∷ ms) h in
      rw (sym (same_fault x m ms more) ∙ own.0) refl
  bad_behind (x ∷ y ∷ xs) m ms more h =
      let own = good_parts x (y ∷ xs ++ m ∷ ms) h in
      rw (sym (same_fault x y (xs ++ m ∷ ms) (xs ++ m ∷ more)) ∙ own.0) (bad_behind (y ∷ xs) m ms more own.1)

  alone : (m n : Mapping) (ms : List Mapping) → mapping_fault at fork m (n ∷ ms) ≡ None → mapping_fault at fork m [] ≡ None
  unfolding mapping_fault rises clears
  alone m n ms h =
      let pass = all_pass (mapping_tests at fork m (n ∷ ms)) h in
      none_fails (mapping_tests at fork m []) (refl, (refl, (pass.1.1.0, tt)))

  -- the front of good mappings is good
  pub good_front : (xs more : List Mapping) → first_bad at fork (xs ++ more) ≡ None → first_bad at fork xs ≡ None
  unfolding first_bad
  good_front [] more h = refl
  good_front (m ∷ []) [] h = h
  good_front (m ∷ []) (n ∷ more) h = rw (alone m n more (good_parts m (n ∷ more) h).0) refl
  good_front (m ∷ n ∷ xs) more h =
      let parts = good_parts m (n ∷ xs ++ more) h in
      rw (sym (same_fault m n (xs ++ more) xs) ∙ parts.0) (good_front (n ∷ xs) more parts.1)

  clear_fault : (m n : Mapping) (ms : List Mapping) → m.offset < n.offset → m.offset + m.count ≤ n.offset → mapping_fault at fork m (n ∷ ms) ≡ mapping_fault at fork m []
  unfolding mapping_fault rises clears
  clear_fault m n ms r c =
      let a : nat_lt m.offset n.offset ≡ true = grind (arith, nat_tests) in
      let b : nat_le (m.offset + m.count) n.offset ≡ true = grind (arith, nat_tests) in
      rw (a, b) refl

  or_first : (a b : Option ForkFault) (fault : ForkFault) → or_else a None ≡ Some fault → or_else a b ≡ Some fault
  or_first None b fault h = cc
  or_first (Some f) b fault h = h

  or_more : (a b c : Option ForkFault) (fault : ForkFault) → (b ≡ Some fault → c ≡ Some fault) → or_else a b ≡ Some fault → or_else a c ≡ Some fault
  or_more None b c fault f h = f h
  or_more (Some x) b c fault f h = h

  -- the fault of mappings that end before the next one begins stays the first
  pub bad_stays : (front : List Mapping) (last n : Mapping) (more : List Mapping) (fault : ForkFault) → last.offset < n.offset → last.offset + last.count ≤ n.offset → first_bad at fork (front ++ last ∷ []) ≡ Some fault → first_bad at fork (front ++ last ∷ n ∷ more) ≡ Some fault
  unfolding first_bad
  bad_stays [] last n more fault r c h = or_first (mapping_fault at fork last (n ∷ more)) (first_bad at fork (n ∷ more)) fault (rw (clear_fault last n more r c) h)
  bad_stays (x ∷ []) last n more fault r c h =
      or_more (mapping_fault at fork x (last ∷ n ∷ more)) (first_bad at fork (last ∷ [])) (first_bad at fork (last ∷ n ∷ more)) fault (bad_stays [] last n more fault r c) (rw (same_fault x last (n ∷ more) []) h)
  bad_stays (x ∷ y ∷ front) last n more fault r c h =
      or_more (mapping_fault at fork x (y ∷ front ++ last ∷ n ∷ more)) (first_bad at fork (y ∷ front ++ last ∷ [])) (first_bad at fork (y ∷ front ++ last ∷ n ∷ more)) fault (bad_stays (y ∷ front) last n more fault r c) (rw (same_fault x y (front ++ last ∷ n ∷ more) (front ++ last ∷ [])) h)

  bad_cons : (m : Mapping) (ms : List Mapping) (f : ForkFault) → mapping_fault at fork m ms ≡ Some f → first_bad at fork (m ∷ ms) ≡ Some f
  unfolding first_bad
  bad_cons m ms f e = rw e refl

  bad_skip : (m : Mapping) (ms : List Mapping) → mapping_fault at fork m ms ≡ None → first_bad at fork (m ∷ ms) ≡ first_bad at fork ms
  unfolding first_bad
  bad_skip m ms e = rw e refl

  pub none_bad : first_bad at fork [] ≡ None
  unfolding first_bad
  none_bad = refl

  -- the fault is that of a mapping before the last one, and stays whatever follows, or the last one's own
  pub inner_or_last : (front : List Mapping) (last : Mapping) (fault : ForkFault) → first_bad at fork (front ++ last ∷ []) ≡ Some fault → ((more : List Mapping) → first_bad at fork (front ++ last ∷ more) ≡ Some fault) ⊎ (first_bad at fork (last ∷ []) ≡ Some fault)
  inner_or_last [] last fault h = inr h
  inner_or_last (x ∷ []) last fault h = by_own (mapping_fault at fork x (last ∷ [])) refl
    where
      by_own : (o : Option ForkFault) → mapping_fault at fork x (last ∷ []) ≡ o → ((more : List Mapping) → first_bad at fork (x ∷ last ∷ more) ≡ Some fault) ⊎ (first_bad at fork (last ∷ []) ≡ Some fault)
      by_own (Some f) e = inl (λ more. bad_cons x (last ∷ more) f (same_fault x last more [] ∙ e) ∙ (sym (bad_cons x (last ∷ []) f e) ∙ h))
      by_own None e = inr (sym (bad_skip x (last ∷ []) e) ∙ h)
  inner_or_last (x ∷ y ∷ front) last fault h = by_own (mapping_fault at fork x (y ∷ front ++ last ∷ [])) refl (inner_or_last (y ∷ front) last fault)
    where
      by_own : (o : Option ForkFault) → mapping_fault at fork x (y ∷ front ++ last ∷ []) ≡ o → (first_bad at fork (y ∷ front ++ last ∷ []) ≡ Some fault → ((more : List Mapping) → first_bad at fork (y ∷ front ++ last ∷ more) ≡ Some fault) ⊎ (first_bad at fork (last ∷ []) ≡ Some fault)) → ((more : List Mapping) → first_bad at fork (x ∷ y ∷ front ++ last ∷ more) ≡ Some fault) ⊎ (first_bad at fork (last ∷ []) ≡ Some fault)
      by_own (Some f) e rest = inl (λ more. bad_cons x (y ∷ front ++ last ∷ more) f (same_fault x y (front ++ last ∷ more) (front ++ last ∷ []) ∙ e) ∙ (sym (bad_cons x (y ∷ front ++ last ∷ []) f e) ∙ h))
      by_own None e rest =
          elim (rest (sym (bad_skip x (y ∷ front ++ last ∷ []) e) ∙ h)) [
            | inl g ↦ inl (λ more. bad_skip x (y ∷ front ++ last ∷ more) (same_fault x y (front ++ last ∷ more) (front ++ last ∷ []) ∙ e) ∙ g more)
            | inr l ↦ inr l
          ]

-- what the piece gives of these mappings
pub none_kept : (from : ℕ) (ms : List Mapping) → Each (λ (m : Mapping). m.offset < from) ms → filter (λ m. nat_le from m.offset) ms ≡ []
none_kept from [] h = refl
none_kept from (m ∷ ms) h =
    let before = h.0 in
    let test : nat_le from m.offset ≡ false = grind (arith, nat_tests, before) in
    rw test (none_kept from ms h.1)

pub each_kept : (from : ℕ) (ms : List Mapping) → Each (λ (m : Mapping). from ≤ m.offset) ms → filter (λ m. nat_le from m.offset) ms ≡ ms
each_kept from [] h = refl
each_kept from (m ∷ ms) h =
    let behind = h.0 in
    let test : nat_le from m.offset ≡ true = grind (arith, nat_tests, behind) in
    rw test (ap (λ xs. m ∷ xs) (each_kept from ms h.1))

pub filter_both : (p : Mapping → Bool) (xs ys : List Mapping) → filter p (xs ++ ys) ≡ filter p xs ++ filter p ys
filter_both p [] ys = refl
filter_both p (x ∷ xs) ys =
    let rest = filter_both p xs ys in
    elim (cases_Bool (p x)) [ inl kept ↦ rw kept (ap (λ zs. x ∷ zs) rest) | inr out ↦ rw out rest ]

pub cancel : (xs ys zs : List Mapping) → xs ++ ys ≡ xs ++ zs → ys ≡ zs
cancel [] ys zs h = h
cancel (x ∷ xs) ys zs h = cancel xs ys zs (cc)
