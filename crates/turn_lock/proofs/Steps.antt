-- Each step of the lock keeps its rule.
use Rattle.std.proofs.Common.{◌≡◌, ℕ, ◌+◌, ◌≤◌, ◌<◌, ◌%◌, ◌^◌, List, [], ◌∷◌, ◌++◌, refl, sym, ap, ◌-◌, ◌∙◌, subst, inl, inr, arith, map, length}
use Rattle.std.specs.Prelude.{◌≢◌, slice_set, slice_index}
use Rattle.std.specs.Prelude.{Option as Maybe, Some as Just, None as Nothing}
use mathlib.Core.Option.{none, some, some-injective, some-ne-none}
use lib.ListN.{get_elem?}
use Rattle.atomic_table.specs.Table.{State, Me, opening, Allows, Splits, Joins, keeps, takes, gives, stepped}
use Rattle.atomic_table.proofs.Lists.{at_set, set_again, set_here, set_else, one_turn, at_longer}
use Rattle.turn_lock.specs.Lists.{Begins, Has, Owns, Apart, Below, total, from_up, below, longer}
use Rattle.turn_lock.specs.Views.{Agrees, Extends, kept_now, kept_for, first_view, kept_below, kept_from, joining, settled, spent}
use Rattle.turn_lock.specs.Rule.{LockHolds, Sound, one}
use Rattle.turn_lock.specs.Steps.{number, with_ticket, taking, passed, telling, appended_to, Draws, Looks, Publishes, Serves, Settles}
use Rattle.turn_lock.specs.declared.view.View.{View}
use Rattle.turn_lock.specs.declared.recorded.TheConstants.{ACTORS}
use Rattle.turn_lock.proofs.Sets.{within, all_set, pairs_set, total_set, total_le, next_mod, at_map_back, begins_same, begins_trans, total_snoc, below_has, above_has, cut_length, has_append, all_snoc, pairs_snoc, all_set_two, pairs_set_two, total_at}
use Rattle.turn_lock.proofs.Positions.{begins_length, begins_whole, nested, longer_begins, longer_length, owns_append, distinct_append, below_weaken, below_append, distinct_new, below_new, from_up_range}
use Rattle.std.proofs.lemmas.List.{set-get_or, length-map, length-append}
use native.Mathlib.Decide.{ℕ_discrete}

pub just_injective : {A : Type 0} (a b : A) → Just a ≡ Just b → a ≡ b
just_injective a b e = cc

just_nothing : {A : Type 0} (a : A) (m : Maybe A) → m ≡ Nothing → m ≡ Just a → ⊥
just_nothing a m e f = let g : Nothing ≡ Just a = sym e ∙ f in cc

module _ {T E O K : Type 0} (journal : T → List E) (origin : T → O) (kept : T → ℕ → K) (start : ℕ) where
  few : (s : State (Maybe T) (View T E O K)) → (h : LockHolds journal origin kept start s) → h.drawn ≤ h.served + ACTORS
  few s h = let a = total_le (λ v. one v.ticket) (λ v. length v.kept) s.views h.each in let b = h.count in let c = h.actors in omega (arith, a, b, c)

  -- a telling view, in a list where another view changed
  still : (s : State (Maybe T) (View T E O K)) (id : ℕ) (v w : View T E O K) (x : T) (t : ℕ) → get_elem? s.views id ≡ some v → v.told ≡ Nothing
      → ((i : ℕ) × (u : View T E O K) × (get_elem? s.views i ≡ some u) × (u.told ≡ Just x) × (u.ticket ≡ Just t))
      → (i : ℕ) × (u : View T E O K) × (get_elem? (slice_set s.views id w) i ≡ some u) × (u.told ≡ Just x) × (u.ticket ≡ Just t)
  still s id v w x t at quiet a =
      let ne : a.0 ≢ id = λ e. just_nothing x v.told quiet (ap (λ z. z.told) (some-injective v a.1 (sym at ∙ (ap (get_elem? s.views) (sym e) ∙ a.2))) ∙ a.3) in
      (a.0, a.1, set_else s.views id a.0 w ne ∙ a.2, a.3, a.4)

  module _ (s : State (Maybe T) (View T E O K)) (h : LockHolds journal origin kept start s) (id : ℕ) (v w : View T E O K) (at : get_elem? s.views id ≡ some v) where
    -- where the view has no new ticket
    once_kept : ((t : ℕ) → w.ticket ≡ Just t → v.ticket ≡ Just t) → (i j : ℕ) (u q : View T E O K) (t : ℕ) → i ≢ j → get_elem? (slice_set s.views id w) i ≡ some u → get_elem? (slice_set s.views id w) j ≡ some q → u.ticket ≡ Just t → q.ticket ≡ Just t → ⊥
    once_kept sub i j u q t ne a b = pairs_set (λ u q. (t : ℕ) → u.ticket ≡ Just t → q.ticket ≡ Just t → ⊥) s.views id w
        (λ j u ne there. ((λ t a b. h.once id j v u t (λ e. ne (sym e)) at there (sub t a) b), (λ t b a. h.once j id u v t ne there at b (sub t a))))
        (λ i j u q _ _ ne a b t. h.once i j u q t ne a b) i j u q ne a b t

    -- where the view has no new actor
    apart_kept : ((a : ℕ) (k : K) → Has w.kept a k → (l : K) × Has v.kept a l) → (i j : ℕ) (u q : View T E O K) (a : ℕ) (k l : K) → i ≢ j → get_elem? (slice_set s.views id w) i ≡ some u → get_elem? (slice_set s.views id w) j ≡ some q → Has u.kept a k → Has q.kept a l → ⊥
    apart_kept sub i j u q a k l ne x y = pairs_set (λ u q. (a : ℕ) (k l : K) → Has u.kept a k → Has q.kept a l → ⊥) s.views id w
        (λ j u ne there. ((λ a k l x y. let z = sub a k x in h.apart id j v u a z.0 l (λ e. ne (sym e)) at there z.1 y), (λ a k l y x. let z = sub a l x in h.apart j id u v a k z.0 ne there at y z.1)))
        (λ i j u q _ _ ne a b x k l. h.apart i j u q x k l ne a b) i j u q ne x y a k l

    -- where the view has no new position
    separate_kept : ((p : ℕ) → Owns w.own p → Owns v.own p) → (i j : ℕ) (u q : View T E O K) → i ≢ j → get_elem? (slice_set s.views id w) i ≡ some u → get_elem? (slice_set s.views id w) j ≡ some q → Apart u.own q.own
    separate_kept sub = pairs_set (λ u q. Apart u.own q.own) s.views id w
        (λ j u ne there. ((λ p a b. h.separate id j v u (λ e. ne (sym e)) at there p (sub p a) b), (λ p b a. h.separate j id u v ne there at p b (sub p a))))
        (λ i j u q _ _ ne a b. h.separate i j u q ne a b)

    -- where the view has seen the same, and has an actor if it had one
    whole_kept : (0 < length v.kept → 0 < length w.kept) → w.seen ≡ v.seen → (i : ℕ) × (u : View T E O K) × (get_elem? (slice_set s.views id w) i ≡ some u) × (0 < length u.kept) × (u.seen ≡ journal h.current)
    whole_kept more same =
        let a = h.whole in elim (ℕ_discrete a.0 id) [
          | yes e ↦
              let is : v ≡ a.1 = some-injective v a.1 (sym at ∙ (ap (get_elem? s.views) (sym e) ∙ a.2)) in
              (id, w, set_here s.views id w (within s.views id v at), more (subst (λ z. 0 < length z.kept) (sym is) a.3), same ∙ (ap (λ z. z.seen) is ∙ a.4))
          | no ne ↦ (a.0, a.1, set_else s.views id a.0 w ne ∙ a.2, a.3, a.4)
        ]

    -- a view that speaks for all actors has seen the whole journal
    all_seen : length v.kept ≡ ACTORS → v.seen ≡ journal h.current
    all_seen all =
        let a = h.whole in elim (ℕ_discrete a.0 id) [
          | yes e ↦
              let is : v ≡ a.1 = some-injective v a.1 (sym at ∙ (ap (get_elem? s.views) (sym e) ∙ a.2)) in
              ap (λ z. z.seen) is ∙ a.4
          | no ne ↦
              let f : View T E O K → ℕ = λ v. length v.kept in
              let z : View T E O K = spent in
              let d : total f (slice_set s.views id z) + length v.kept ≡ total f s.views + 0 = total_set f s.views id v z at in
              let b : length a.1.kept ≤ total f (slice_set s.views id z) = total_at f (slice_set s.views id z) a.0 a.1 (set_else s.views id a.0 z ne ∙ a.2) in
              let c = h.actors in
              let p = a.3 in
              absurd (omega (arith, d, b, c, p, all))
        ]

    sound_kept : Sound w.own w.seen w.other → (i : ℕ) (u : View T E O K) → get_elem? (slice_set s.views id w) i ≡ some u → Sound u.own u.seen u.other
    sound_kept here = all_set (λ i u. Sound u.own u.seen u.other) s.views id w here (λ j u ne. h.sound j u)

    out_kept : ((t : ℕ) → w.ticket ≡ Just t → v.ticket ≡ Just t) → (i : ℕ) (u : View T E O K) → get_elem? (slice_set s.views id w) i ≡ some u → (t : ℕ) → u.ticket ≡ Just t → (h.served ≤ t) × (t < h.drawn)
    out_kept sub = all_set (λ i u. (t : ℕ) → u.ticket ≡ Just t → (h.served ≤ t) × (t < h.drawn)) s.views id w (λ t e. h.out id v at t (sub t e)) (λ j u ne. h.out j u)

    count_kept : w.ticket ≡ v.ticket → h.drawn ≡ h.served + total (λ v. one v.ticket) (slice_set s.views id w)
    count_kept same = let c = h.count in let f : View T E O K → ℕ = λ v. one v.ticket in let e : total f (slice_set s.views id w) + one v.ticket ≡ total f s.views + one w.ticket = total_set f s.views id v w at in let z : one w.ticket ≡ one v.ticket = ap one same in omega (arith, c, e, z)

    turns_kept : w.turns ≡ v.turns → h.served ≡ start + total (λ v. v.turns) (slice_set s.views id w)
    turns_kept same = let a = h.turns in let f : View T E O K → ℕ = λ v. v.turns in let e : total f (slice_set s.views id w) + v.turns ≡ total f s.views + w.turns = total_set f s.views id v w at in omega (arith, a, e, same)

    actors_kept : length w.kept ≡ length v.kept → total (λ v. length v.kept) (slice_set s.views id w) ≡ ACTORS
    actors_kept same = let a = h.actors in let f : View T E O K → ℕ = λ v. length v.kept in let e : total f (slice_set s.views id w) + length v.kept ≡ total f s.views + length w.kept = total_set f s.views id v w at in omega (arith, a, e, same)

    -- no other view has the ticket that is served
    alone : v.ticket ≡ Just h.served → (j : ℕ) (u : View T E O K) → j ≢ id → get_elem? s.views j ≡ some u → u.ticket ≡ Just h.served → ⊥
    alone mine j u ne there e = h.once j id u v h.served ne there at e mine

  pub draw_allows : (slots id : ℕ) (me : Me (Maybe T) (View T E O K)) → me.0.ticket ≡ Nothing → me.0.told ≡ Nothing → 0 < length me.0.kept → Allows (LockHolds journal origin kept start) slots id me 0 (λ n. (n + 1) % 2 ^ 64) (Draws me)
  draw_allows slots id me idle quiet speaks s h homes at small =
      let v = me.0 in
      let w = with_ticket me.0 h.drawn in
      let le : h.served ≤ h.drawn = let c = h.count in omega (arith, c) in (
        w,
        keeps,
        tt,
        record {
          drawn = h.drawn + 1;
          served = h.served;
          current = h.current;
          words = ap (λ ws. slice_set ws 0 ((slice_index ws 0 + 1) % 2 ^ 64)) h.words ∙ ap (λ n. n ∷ h.served % 2 ^ 64 ∷ length (journal h.current) ∷ []) (next_mod h.drawn);
          out = all_set (λ i u. (t : ℕ) → u.ticket ≡ Just t → (h.served ≤ t) × (t < h.drawn + 1)) s.views id w
              (λ t e. let q = just_injective h.drawn t e in (omega (arith, q, le), omega (arith, q)))
              (λ j u ne there t e. let q = h.out j u there t e in let q1 = q.1 in (q.0, omega (arith, q1)));
          once = λ i j u q t ne a b. pairs_set (λ u q. (t : ℕ) → u.ticket ≡ Just t → q.ticket ≡ Just t → ⊥) s.views id w
              (λ j u ne there. ((λ t a b. let e = just_injective h.drawn t a in let l = (h.out j u there t b).1 in omega (arith, e, l)), (λ t b a. let e = just_injective h.drawn t a in let l = (h.out j u there t b).1 in omega (arith, e, l))))
              (λ i j u q _ _ ne a b t. h.once i j u q t ne a b) i j u q ne a b t;
          count = let c = h.count in let f : View T E O K → ℕ = λ v. one v.ticket in let e : total f (slice_set s.views id w) + one v.ticket ≡ total f s.views + 1 = total_set f s.views id v w at in let z : one v.ticket ≡ 0 = ap one idle in omega (arith, c, e, z);
          turns = turns_kept s h id v w at refl;
          actors = actors_kept s h id v w at refl;
          each = all_set (λ i u. one u.ticket ≤ length u.kept) s.views id w speaks (λ j u ne. h.each j u);
          apart = apart_kept s h id v w at (λ a k x. (k, x));
          agrees = all_set (λ i u. Agrees journal origin kept h.current u) s.views id w (let g = h.agrees id v at in record { seen = g.seen; kept_is = g.kept_is; origin_is = g.origin_is }) (λ j u ne. h.agrees j u);
          whole = whole_kept s h id v w at (λ k. k) refl;
          sound = sound_kept s h id v w at (h.sound id v at);
          separate = separate_kept s h id v w at (λ p o. o);
          told = all_set (λ i u. (x : T) → u.told ≡ Just x → (x ≡ h.current) × (u.ticket ≡ Just h.served) × (s.homes ≡ none ∷ [])) s.views id w (λ x e. absurd (just_nothing x v.told quiet e)) (λ j u ne. h.told j u);
          home = elim h.home [
            | inl e ↦ inl e
            | inr e ↦ inr (e.0, still s id v w h.current h.served at quiet e.1)
          ];
        },
        (h.drawn, ap (λ ws. slice_index ws 0) h.words, refl),
      )

  -- a load that changes nothing
  stays : (s : State (Maybe T) (View T E O K)) (id word : ℕ) (v : View T E O K) (c : List (ℕ × Maybe T)) → LockHolds journal origin kept start s → get_elem? s.views id ≡ some v → LockHolds journal origin kept start (stepped s word (slice_index s.words word) id c v keeps)
  stays s id word v c h at =
      let H : State (Maybe T) (View T E O K) → Type 0 = LockHolds journal origin kept start in
      let there = subst (λ (xs : List (View T E O K)). H (record { words = s.words; homes = s.homes; views = xs })) (sym (set_again s.views id v at)) h in
      subst (λ (ws : List ℕ). H (record { words = ws; homes = s.homes; views = slice_set s.views id v })) (sym (set-get_or s.words word 0)) there

  pub look_allows : (slots id : ℕ) (me : Me (Maybe T) (View T E O K)) (t : ℕ) → me.0.ticket ≡ Just t → me.0.told ≡ Nothing → Allows (LockHolds journal origin kept start) slots id me 1 (λ n. n) (Looks journal origin kept me)
  look_allows slots id me t ticket quiet s h homes at small = elim (ℕ_discrete (slice_index s.words 1) (number me.0.ticket % 2 ^ 64)) [
    | no ne ↦ (me.0, keeps, tt, stays s id 1 me.0 me.1 h at, inr (ne, refl))
    | yes is ↦
        let v = me.0 in
        let w = taking me.0 h.current in
        let q = h.out id v at t ticket in
        let now : h.served ≡ t = let f = few s h in let q0 = q.0 in let q1 = q.1 in one_turn h.served t (2 ^ 64) q0 (omega (arith, f, q1)) (sym (ap (λ ws. slice_index ws 1) h.words) ∙ (is ∙ ap (λ m. number m % 2 ^ 64) ticket)) in
        let mine : v.ticket ≡ Just h.served = ticket ∙ ap (λ n. Just n) (sym now) in
        let e : s.homes ≡ some (Just h.current) ∷ [] = elim h.home [
          | inl e ↦ e
          | inr a ↦
              let i = a.1.0 in
              let other : (i ≢ id) → ⊥ = λ ne. alone s h id v w at mine i a.1.1 ne a.1.2 a.1.4 in
              absurd (other (λ eq. just_nothing h.current v.told quiet (ap (λ z. z.told) (some-injective v a.1.1 (sym at ∙ (ap (get_elem? s.views) (sym eq) ∙ a.1.2))) ∙ a.1.3)))
        ] in
        let gone : slice_set s.homes 0 none ≡ none ∷ [] = ap (λ hs. slice_set hs 0 none) e in
        let g = h.agrees id v at in (
          w,
          takes 0 (Just h.current),
          ap (λ hs. get_elem? hs 0) e,
          record {
            drawn = h.drawn;
            served = h.served;
            current = h.current;
            words = ap (λ ws. slice_set ws 1 (slice_index ws 1)) h.words;
            out = out_kept s h id v w at (λ t e. e);
            once = once_kept s h id v w at (λ t e. e);
            count = count_kept s h id v w at refl;
            turns = turns_kept s h id v w at refl;
            actors = actors_kept s h id v w at refl;
            each = all_set (λ i u. one u.ticket ≤ length u.kept) s.views id w (h.each id v at) (λ j u ne. h.each j u);
            apart = apart_kept s h id v w at (λ a k x. (k, x));
            agrees = all_set (λ i u. Agrees journal origin kept h.current u) s.views id w (record { seen = g.seen; kept_is = g.kept_is; origin_is = g.origin_is }) (λ j u ne. h.agrees j u);
            whole = whole_kept s h id v w at (λ k. k) refl;
            sound = sound_kept s h id v w at (h.sound id v at);
            separate = separate_kept s h id v w at (λ p o. o);
            told = all_set (λ i u. (x : T) → u.told ≡ Just x → (x ≡ h.current) × (u.ticket ≡ Just h.served) × (slice_set s.homes 0 none ≡ none ∷ [])) s.views id w
                (λ x e. (sym (just_injective h.current x e), mine, gone))
                (λ j u ne there x e. absurd (alone s h id v w at mine j u ne there (h.told j u there x e).1));
            home = inr (gone, (id, w, set_here s.views id w (within s.views id v at), refl, mine));
          },
          inl (is, (h.current, g, all_seen s h id v w at, refl)),
        )
  ]

  pub publish_core : (id n : ℕ) (v : View T E O K) (x y : T) (c : List (ℕ × Maybe T)) → v.told ≡ Just x → Extends journal origin kept v x y → n ≡ length (journal y)
      → (s : State (Maybe T) (View T E O K)) → LockHolds journal origin kept start s → get_elem? s.views id ≡ some v → LockHolds journal origin kept start (stepped s 2 n id c (telling journal origin kept v y) keeps)
  publish_core id n v x y c tells ext len s h at =
      let w = telling journal origin kept v y in
      let q = h.told id v at x tells in
      let g = h.agrees id v at in
      let m : ℕ = length (journal x) in
      let more : ℕ = length (journal y) - m in
      let own_is : w.own ≡ v.own ++ from_up m more = ap (λ z. v.own ++ appended_to journal origin kept z y) tells in
      let p = h.sound id v at in
      let begun : Begins v.seen (journal x) = subst (λ z. Begins v.seen (journal z)) (sym q.0) g.seen in
      let lower : Below v.own m = below_weaken v.own (length v.seen) m (begins_length v.seen (journal x) begun) p.within in
      let ends : Sound (v.own ++ from_up m more) (journal y) v.other = record {
        distinct = distinct_new v.own m more p.distinct lower;
        within = below_new v.own m (length (journal y)) (begins_length (journal x) (journal y) ext.longer) lower;
        grown = begins_trans v.other v.seen (journal y) p.grown (begins_trans v.seen (journal x) (journal y) begun ext.longer);
      } in
      let alone_in : (j : ℕ) (u : View T E O K) → j ≢ id → get_elem? s.views j ≡ some u → Apart w.own u.own = λ j u ne there k a b. elim (owns_append v.own (from_up m more) k (subst (λ ps. Owns ps k) own_is a)) [
        | inl o ↦ h.separate id j v u (λ e. ne (sym e)) at there k o b
        | inr o ↦
            let l = (from_up_range m more k o).0 in
            let i = (h.sound j u there).within k b in
            let c = begins_length u.seen (journal h.current) (h.agrees j u there).seen in
            let e : m ≡ length (journal h.current) = ap (λ z. length (journal z)) q.0 in
            omega (arith, l, i, c, e)
      ] in
      let old : (a : ℕ) (k : K) → Has w.kept a k → (l : K) × Has v.kept a l × (kept y a ≡ k) = λ a k x.
      let p = at_map_back (kept_now journal origin kept y) v.kept x.0 (a, k) x.1 in
      let e0 : p.0.0 ≡ a = ap (λ z. z.0) p.2 in
      let e1 : kept y p.0.0 ≡ k = ap (λ z. z.1) p.2 in
      (p.0.1, (x.0, p.1 ∙ ap (λ z. some (z, p.0.1)) e0), ap (kept y) (sym e0) ∙ e1) in
      let long : length w.kept ≡ length v.kept = length-map v.kept (kept_now journal origin kept y) in record {
        drawn = h.drawn;
        served = h.served;
        current = y;
        words = ap (λ ws. slice_set ws 2 n) h.words ∙ ap (λ k. h.drawn % 2 ^ 64 ∷ h.served % 2 ^ 64 ∷ k ∷ []) len;
        out = out_kept s h id v w at (λ t e. e);
        once = once_kept s h id v w at (λ t e. e);
        count = count_kept s h id v w at refl;
        turns = turns_kept s h id v w at refl;
        actors = actors_kept s h id v w at long;
        each = all_set (λ i u. one u.ticket ≤ length u.kept) s.views id w (let b = h.each id v at in omega (arith, b, long)) (λ j u ne. h.each j u);
        apart = apart_kept s h id v w at (λ a k x. let z = old a k x in (z.0, z.1));
        agrees = all_set (λ i u. Agrees journal origin kept y u) s.views id w
            (record { seen = begins_same (journal y); kept_is = λ a k x. (old a k x).2; origin_is = λ o e. ext.same ∙ (ap origin q.0 ∙ g.origin_is o e) })
            (λ j u ne there. let f = h.agrees j u there in record {
              seen = begins_trans u.seen (journal h.current) (journal y) f.seen (subst (λ z. Begins (journal z) (journal y)) q.0 ext.longer);
              kept_is = λ a k x. ext.others a (λ l z. h.apart j id u v a k l ne there at x z) ∙ (ap (λ z. kept z a) q.0 ∙ f.kept_is a k x);
              origin_is = λ o e. ext.same ∙ (ap origin q.0 ∙ f.origin_is o e);
            });
        whole = (id, w, set_here s.views id w (within s.views id v at), (let t : one v.ticket ≡ 1 = ap one q.1 in let b = h.each id v at in omega (arith, t, b, long)), refl);
        sound = sound_kept s h id v w at (subst (λ ps. Sound ps (journal y) v.other) (sym own_is) ends);
        separate = pairs_set (λ u q. Apart u.own q.own) s.views id w (λ j u ne there. (alone_in j u ne there, (λ k b a. alone_in j u ne there k a b))) (λ i j u q _ _ ne a b. h.separate i j u q ne a b);
        told = all_set (λ i u. (x : T) → u.told ≡ Just x → (x ≡ y) × (u.ticket ≡ Just h.served) × (s.homes ≡ none ∷ [])) s.views id w
            (λ z e. (sym (just_injective y z e), q.1, q.2))
            (λ j u ne there z e. absurd (alone s h id v w at q.1 j u ne there (h.told j u there z e).1));
        home = inr (q.2, (id, w, set_here s.views id w (within s.views id v at), refl, q.1));
      }

  serve_plain : (slots id : ℕ) (v : View T E O K) (y : T) (r : List (ℕ × Maybe T)) → v.told ≡ Just y
      → Allows (LockHolds journal origin kept start) slots id (v, (0, Just y) ∷ r) 1 (λ n. (n + 1) % 2 ^ 64) (Serves (v, (0, Just y) ∷ r))
  serve_plain slots id v y r tells s h homes at small =
      let w = passed v in
      let q = h.told id v at y tells in
      let g = h.agrees id v at in (
        w,
        gives,
        tt,
        record {
          drawn = h.drawn;
          served = h.served + 1;
          current = h.current;
          words = ap (λ ws. slice_set ws 1 ((slice_index ws 1 + 1) % 2 ^ 64)) h.words ∙ ap (λ n. h.drawn % 2 ^ 64 ∷ n ∷ length (journal h.current) ∷ []) (next_mod h.served);
          out = all_set (λ i u. (t : ℕ) → u.ticket ≡ Just t → (h.served + 1 ≤ t) × (t < h.drawn)) s.views id w
              (λ t e. absurd (just_nothing t Nothing refl e))
              (λ j u ne there t e. let b = h.out j u there t e in let b0 = b.0 in let other : t ≢ h.served = λ eq. alone s h id v w at q.1 j u ne there (e ∙ ap (λ n. Just n) eq) in (omega (arith, b0, other), b.1));
          once = once_kept s h id v w at (λ t e. absurd (just_nothing t Nothing refl e));
          count = let c = h.count in let f : View T E O K → ℕ = λ v. one v.ticket in let e : total f (slice_set s.views id w) + one v.ticket ≡ total f s.views + 0 = total_set f s.views id v w at in let z : one v.ticket ≡ 1 = ap one q.1 in omega (arith, c, e, z);
          turns = let c = h.turns in let f : View T E O K → ℕ = λ v. v.turns in let e : total f (slice_set s.views id w) + v.turns ≡ total f s.views + (v.turns + 1) = total_set f s.views id v w at in omega (arith, c, e);
          actors = actors_kept s h id v w at refl;
          each = all_set (λ i u. one u.ticket ≤ length u.kept) s.views id w (omega arith) (λ j u ne. h.each j u);
          apart = apart_kept s h id v w at (λ a k x. (k, x));
          agrees = all_set (λ i u. Agrees journal origin kept h.current u) s.views id w (record { seen = g.seen; kept_is = g.kept_is; origin_is = g.origin_is }) (λ j u ne. h.agrees j u);
          whole = whole_kept s h id v w at (λ k. k) refl;
          sound = sound_kept s h id v w at (h.sound id v at);
          separate = separate_kept s h id v w at (λ p o. o);
          told = all_set (λ i u. (x : T) → u.told ≡ Just x → (x ≡ h.current) × (u.ticket ≡ Just (h.served + 1)) × (slice_set s.homes 0 (some (Just y)) ≡ none ∷ [])) s.views id w
              (λ x e. absurd (just_nothing x Nothing refl e))
              (λ j u ne there z e. absurd (alone s h id v w at q.1 j u ne there (h.told j u there z e).1));
          home = inl (ap (λ hs. slice_set hs 0 (some (Just y))) q.2 ∙ ap (λ z. some (Just z) ∷ []) q.0);
        },
        refl,
      )

  pub serve_allows : (slots id : ℕ) (me : Me (Maybe T) (View T E O K)) (y : T) (r : List (ℕ × Maybe T)) → me.1 ≡ (0, Just y) ∷ r → me.0.told ≡ Just y
      → Allows (LockHolds journal origin kept start) slots id me 1 (λ n. (n + 1) % 2 ^ 64) (Serves me)
  serve_allows slots id me y r carried tells =
      subst (λ c. Allows (LockHolds journal origin kept start) slots id (me.0, c) 1 (λ n. (n + 1) % 2 ^ 64) (Serves (me.0, c))) (sym carried) (serve_plain slots id me.0 y r tells)

  pub settle_allows : (slots id : ℕ) (me : Me (Maybe T) (View T E O K)) → me.0.told ≡ Nothing → Allows (LockHolds journal origin kept start) slots id me 1 (λ n. n) (Settles me)
  settle_allows slots id me quiet s h homes at small =
      let v = me.0 in
      let w = settled v in
      let q = h.sound id v at in
      let g = h.agrees id v at in (
        w,
        keeps,
        tt,
        record {
          drawn = h.drawn;
          served = h.served;
          current = h.current;
          words = ap (λ ws. slice_set ws 1 (slice_index ws 1)) h.words;
          out = out_kept s h id v w at (λ t e. e);
          once = once_kept s h id v w at (λ t e. e);
          count = count_kept s h id v w at refl;
          turns = turns_kept s h id v w at refl;
          actors = actors_kept s h id v w at refl;
          each = all_set (λ i u. one u.ticket ≤ length u.kept) s.views id w (h.each id v at) (λ j u ne. h.each j u);
          apart = apart_kept s h id v w at (λ a k x. (k, x));
          agrees = all_set (λ i u. Agrees journal origin kept h.current u) s.views id w (record { seen = g.seen; kept_is = g.kept_is; origin_is = g.origin_is }) (λ j u ne. h.agrees j u);
          whole = whole_kept s h id v w at (λ k. k) refl;
          sound = sound_kept s h id v w at (record { distinct = q.distinct; within = q.within; grown = (v.seen, refl) });
          separate = separate_kept s h id v w at (λ p o. o);
          told = all_set (λ i u. (x : T) → u.told ≡ Just x → (x ≡ h.current) × (u.ticket ≡ Just h.served) × (s.homes ≡ none ∷ [])) s.views id w (λ x e. absurd (just_nothing x v.told quiet e)) (λ j u ne. h.told j u);
          home = elim h.home [
            | inl e ↦ inl e
            | inr e ↦ inr (e.0, still s id v w h.current h.served at quiet e.1)
          ];
        },
        (q, refl),
      )

  pub split_allows : (n id : ℕ) (v : View T E O K) → v.ticket ≡ Nothing → v.told ≡ Nothing → 0 < length (below n v.kept) → Splits (LockHolds journal origin kept start) id v (kept_below n v) (kept_from n v)
  split_allows n id v idle quiet lower' s h at =
      let w = kept_below n v in
      let r = kept_from n v in
      let l : List (View T E O K) = slice_set s.views id w in
      let g = h.agrees id v at in
      let lower : (a : ℕ) (k : K) → Has w.kept a k → Has v.kept a k × (a < n) = below_has n v.kept in
      let upper : (a : ℕ) (k : K) → Has r.kept a k → Has v.kept a k × (n ≤ a) = above_has n v.kept in
      record {
        drawn = h.drawn;
        served = h.served;
        current = h.current;
        words = h.words;
        out = all_snoc (λ u. (t : ℕ) → u.ticket ≡ Just t → (h.served ≤ t) × (t < h.drawn)) l r (out_kept s h id v w at (λ t e. e)) (λ t e. absurd (just_nothing t Nothing refl e));
        once = λ i j u q t ne a b. pairs_snoc (λ u q. (t : ℕ) → u.ticket ≡ Just t → q.ticket ≡ Just t → ⊥) l r
            (λ j u there. ((λ t e f. just_nothing t Nothing refl e), (λ t e f. just_nothing t Nothing refl f)))
            (λ i j u q ne a b t. once_kept s h id v w at (λ t e. e) i j u q t ne a b) i j u q ne a b t;
        count = let c = count_kept s h id v w at refl in let f : View T E O K → ℕ = λ v. one v.ticket in let e : total f (l ++ r ∷ []) ≡ total f l + 0 = total_snoc f l r in omega (arith, c, e);
        turns = let c = turns_kept s h id v w at refl in let f : View T E O K → ℕ = λ v. v.turns in let e : total f (l ++ r ∷ []) ≡ total f l + 0 = total_snoc f l r in omega (arith, c, e);
        actors = let a = h.actors in let f : View T E O K → ℕ = λ v. length v.kept in let e : total f (l ++ r ∷ []) ≡ total f l + length r.kept = total_snoc f l r in
            let d : total f l + length v.kept ≡ total f s.views + length w.kept = total_set f s.views id v w at in let c : length w.kept + length r.kept ≡ length v.kept = cut_length n v.kept in omega (arith, a, e, d, c);
        each = all_snoc (λ u. one u.ticket ≤ length u.kept) l r (all_set (λ i u. one u.ticket ≤ length u.kept) s.views id w (let z : one v.ticket ≡ 0 = ap one idle in omega (arith, z)) (λ j u ne. h.each j u)) (omega arith);
        apart = λ i j u q a k m ne x y. pairs_snoc (λ u q. (a : ℕ) (k m : K) → Has u.kept a k → Has q.kept a m → ⊥) l r
            (λ j u there. elim (at_set s.views id j w u there) [
              | inl e ↦ subst (λ z. ((a : ℕ) (k m : K) → Has r.kept a k → Has z.kept a m → ⊥) × ((a : ℕ) (k m : K) → Has z.kept a k → Has r.kept a m → ⊥)) e.1
                  ((λ a k m x y. let lo = (lower a m y).1 in let hi = (upper a k x).1 in omega (arith, lo, hi)), (λ a k m x y. let lo = (lower a k x).1 in let hi = (upper a m y).1 in omega (arith, lo, hi)))
              | inr e ↦ ((λ a k m x y. h.apart id j v u a k m (λ z. e.0 (sym z)) at e.1 (upper a k x).0 y), (λ a k m x y. h.apart j id u v a k m e.0 e.1 at x (upper a m y).0))
            ])
            (λ i j u q ne x y a k m. apart_kept s h id v w at (λ a k x. (k, (lower a k x).0)) i j u q a k m ne x y) i j u q ne x y a k m;
        agrees = all_snoc (Agrees journal origin kept h.current) l r
            (all_set (λ i u. Agrees journal origin kept h.current u) s.views id w (record { seen = g.seen; kept_is = λ a k x. g.kept_is a k (lower a k x).0; origin_is = g.origin_is }) (λ j u ne. h.agrees j u))
            (record { seen = g.seen; kept_is = λ a k x. g.kept_is a k (upper a k x).0; origin_is = g.origin_is });
        whole = let a = whole_kept s h id v w at (λ k. lower') refl in (a.0, a.1, at_longer l (r ∷ []) a.0 a.1 a.2, a.3, a.4);
        sound = all_snoc (λ u. Sound u.own u.seen u.other) l r (sound_kept s h id v w at (h.sound id v at)) (record { distinct = λ i j p x y. absurd (some-ne-none p (sym x)); within = λ p o. absurd (some-ne-none p (sym o.1)); grown = (v.seen, refl) });
        separate = pairs_snoc (λ u q. Apart u.own q.own) l r (λ j u there. ((λ p a b. some-ne-none p (sym a.1)), (λ p a b. some-ne-none p (sym b.1)))) (separate_kept s h id v w at (λ p o. o));
        told = all_snoc (λ u. (x : T) → u.told ≡ Just x → (x ≡ h.current) × (u.ticket ≡ Just h.served) × (s.homes ≡ none ∷ [])) l r
            (all_set (λ i u. (x : T) → u.told ≡ Just x → (x ≡ h.current) × (u.ticket ≡ Just h.served) × (s.homes ≡ none ∷ [])) s.views id w (λ x e. absurd (just_nothing x v.told quiet e)) (λ j u ne. h.told j u))
            (λ x e. absurd (just_nothing x Nothing refl e));
        home = elim h.home [
          | inl e ↦ inl e
          | inr e ↦ let a = still s id v w h.current h.served at quiet e.1 in inr (e.0, (a.0, a.1, at_longer l (r ∷ []) a.0 a.1 a.2, a.3, a.4))
        ];
      }

  -- of two views that become one, the one has seen the whole journal if one of the two had
  whole_joined : (s : State (Maybe T) (View T E O K)) → (h : LockHolds journal origin kept start s) → (id other : ℕ) (v w : View T E O K) → get_elem? s.views id ≡ some v → get_elem? s.views other ≡ some w → ¬ (other ≡ id)
      → (i : ℕ) × (u : View T E O K) × (get_elem? (slice_set (slice_set s.views id (joining v w)) other spent) i ≡ some u) × (0 < length u.kept) × (u.seen ≡ journal h.current)
  whole_joined s h id other v w at there ne =
      let b = joining v w in
      let t : View T E O K = spent in
      let l : List (View T E O K) = slice_set s.views id b in
      let a = h.whole in
      let here : get_elem? (slice_set l other t) id ≡ some b = set_else l other id t (λ e. ne (sym e)) ∙ set_here s.views id b (within s.views id v at) in
      let count : length b.kept ≡ length v.kept + length w.kept = length-append v.kept w.kept in
      let most = longer_length v.seen w.seen in
      let begun = longer_begins v.seen w.seen (journal h.current) (h.agrees id v at).seen (h.agrees other w there).seen in
      let whole : length (journal h.current) ≤ length b.seen → b.seen ≡ journal h.current = begins_whole b.seen (journal h.current) begun in
      elim (ℕ_discrete a.0 id) [
        | yes e ↦
            let is : v ≡ a.1 = some-injective v a.1 (sym at ∙ (ap (get_elem? s.views) (sym e) ∙ a.2)) in
            let n : length v.seen ≡ length (journal h.current) = ap (λ z. length z.seen) is ∙ ap (λ z. length z) a.4 in
            let k : 0 < length v.kept = subst (λ z. 0 < length z.kept) (sym is) a.3 in
            let m = most.0 in
            (id, b, here, omega (arith, count, k), whole (omega (arith, n, m)))
        | no no_id ↦ elim (ℕ_discrete a.0 other) [
          | yes e ↦
              let is : w ≡ a.1 = some-injective w a.1 (sym there ∙ (ap (get_elem? s.views) (sym e) ∙ a.2)) in
              let n : length w.seen ≡ length (journal h.current) = ap (λ z. length z.seen) is ∙ ap (λ z. length z) a.4 in
              let k : 0 < length w.kept = subst (λ z. 0 < length z.kept) (sym is) a.3 in
              let m = most.1 in
              (id, b, here, omega (arith, count, k), whole (omega (arith, n, m)))
          | no no_other ↦ (a.0, a.1, set_else l other a.0 t no_other ∙ (set_else s.views id a.0 b no_id ∙ a.2), a.3, a.4)
        ]
      ]

  pub join_allows : (id other : ℕ) (v w : View T E O K) → v.ticket ≡ Nothing → v.told ≡ Nothing → w.ticket ≡ Nothing → w.told ≡ Nothing
      → Joins (LockHolds journal origin kept start) id v other w (joining v w) (spent)
  join_allows id other v w idle quiet idle' quiet' s h at ne there =
      let b = joining v w in
      let t : View T E O K = spent in
      let there' : get_elem? s.views other ≡ some w = sym (set_else s.views id other b ne) ∙ there in
      let g = h.agrees id v at in
      let p = h.sound id v at in
      let p' = h.sound other w there' in
      let g' = h.agrees other w there' in
      let s' : State (Maybe T) (View T E O K) = record { words = s.words; homes = s.homes; views = slice_set s.views id b } in
      record {
        drawn = h.drawn;
        served = h.served;
        current = h.current;
        words = h.words;
        out = all_set_two s.views id other b t (λ u. (t : ℕ) → u.ticket ≡ Just t → (h.served ≤ t) × (t < h.drawn)) (h.out id v at) (λ n e. absurd (just_nothing n Nothing refl e)) (λ j u _ _. h.out j u);
        once = λ i j u q n ni x y. pairs_set_two s.views id other b t (λ u q. (n : ℕ) → u.ticket ≡ Just n → q.ticket ≡ Just n → ⊥)
            (λ u. ((λ n e f. just_nothing n Nothing refl e), (λ n e f. just_nothing n Nothing refl f)))
            (λ j u _ _ _. ((λ n e f. just_nothing n v.ticket idle e), (λ n e f. just_nothing n v.ticket idle f)))
            (λ i j u q ne x y n. h.once i j u q n ne x y) i j u q ni x y n;
        count = let c = h.count in let f : View T E O K → ℕ = λ v. one v.ticket in let e : total f (slice_set s.views id b) + one v.ticket ≡ total f s.views + one v.ticket = total_set f s.views id v b at in
            let d : total f (slice_set (slice_set s.views id b) other t) + one w.ticket ≡ total f (slice_set s.views id b) + 0 = total_set f (slice_set s.views id b) other w t there in let z : one w.ticket ≡ 0 = ap one idle' in omega (arith, c, e, d, z);
        turns = let c = h.turns in let f : View T E O K → ℕ = λ v. v.turns in let e : total f (slice_set s.views id b) + v.turns ≡ total f s.views + (v.turns + w.turns) = total_set f s.views id v b at in
            let d : total f (slice_set (slice_set s.views id b) other t) + w.turns ≡ total f (slice_set s.views id b) + 0 = total_set f (slice_set s.views id b) other w t there in omega (arith, c, e, d);
        actors = let c = h.actors in let f : View T E O K → ℕ = λ v. length v.kept in let e : total f (slice_set s.views id b) + length v.kept ≡ total f s.views + length b.kept = total_set f s.views id v b at in
            let d : total f (slice_set (slice_set s.views id b) other t) + length w.kept ≡ total f (slice_set s.views id b) + 0 = total_set f (slice_set s.views id b) other w t there in
            let z : length b.kept ≡ length v.kept + length w.kept = length-append v.kept w.kept in omega (arith, c, e, d, z);
        each = all_set_two s.views id other b t (λ u. one u.ticket ≤ length u.kept) (let z : one v.ticket ≡ 0 = ap one idle in omega (arith, z)) (omega arith) (λ j u _ _. h.each j u);
        apart = λ i j u q a k m ni x y. pairs_set_two s.views id other b t (λ u q. (a : ℕ) (k m : K) → Has u.kept a k → Has q.kept a m → ⊥)
            (λ u. ((λ a k m x y. some-ne-none (a, k) (sym x.1)), (λ a k m x y. some-ne-none (a, m) (sym y.1))))
            (λ j u n1 n2 here. (
              (λ a k m x y. elim (has_append v.kept w.kept a k x) [ inl p ↦ h.apart id j v u a k m (λ z. n1 (sym z)) at here p y | inr p ↦ h.apart other j w u a k m (λ z. n2 (sym z)) there' here p y ]),
              (λ a k m x y. elim (has_append v.kept w.kept a m y) [ inl p ↦ h.apart j id u v a k m n1 here at x p | inr p ↦ h.apart j other u w a k m n2 here there' x p ]),
            ))
            (λ i j u q ne x y a k m. h.apart i j u q a k m ne x y) i j u q ni x y a k m;
        agrees = all_set_two s.views id other b t (Agrees journal origin kept h.current)
            (record {
              seen = longer_begins v.seen w.seen (journal h.current) g.seen g'.seen;
              kept_is = λ a k x. elim (has_append v.kept w.kept a k x) [ inl p ↦ g.kept_is a k p | inr p ↦ g'.kept_is a k p ];
              origin_is = g.origin_is;
            })
            (record { seen = (journal h.current, refl); kept_is = λ a k x. absurd (some-ne-none (a, k) (sym x.1)); origin_is = λ o e. absurd (just_nothing o Nothing refl e) })
            (λ j u _ _. h.agrees j u);
        whole = whole_joined s h id other v w at there' ne;
        sound = all_set_two s.views id other b t (λ u. Sound u.own u.seen u.other)
            (record {
              distinct = distinct_append v.own w.own p.distinct p'.distinct (h.separate id other v w (λ e. ne (sym e)) at there');
              within = below_append v.own w.own (length (longer v.seen w.seen)) (below_weaken v.own (length v.seen) (length (longer v.seen w.seen)) (longer_length v.seen w.seen).0 p.within) (below_weaken w.own (length w.seen) (length (longer v.seen w.seen)) (longer_length v.seen w.seen).1 p'.within);
              grown = nested v.seen w.seen (journal h.current) g.seen g'.seen;
            })
            (record { distinct = λ i j p x y. absurd (some-ne-none p (sym x)); within = λ p o. absurd (some-ne-none p (sym o.1)); grown = ([], refl) })
            (λ j u _ _. h.sound j u);
        separate = pairs_set_two s.views id other b t (λ u q. Apart u.own q.own)
            (λ u. ((λ p x y. some-ne-none p (sym x.1)), (λ p x y. some-ne-none p (sym y.1))))
            (λ j u n1 n2 here. (
              (λ k x y. elim (owns_append v.own w.own k x) [ inl o ↦ h.separate id j v u (λ z. n1 (sym z)) at here k o y | inr o ↦ h.separate other j w u (λ z. n2 (sym z)) there' here k o y ]),
              (λ k x y. elim (owns_append v.own w.own k y) [ inl o ↦ h.separate j id u v n1 here at k x o | inr o ↦ h.separate j other u w n2 here there' k x o ]),
            ))
            h.separate;
        told = all_set_two s.views id other b t (λ u. (x : T) → u.told ≡ Just x → (x ≡ h.current) × (u.ticket ≡ Just h.served) × (s.homes ≡ none ∷ [])) (λ x e. absurd (just_nothing x v.told quiet e)) (λ x e. absurd (just_nothing x Nothing refl e)) (λ j u _ _. h.told j u);
        home = elim h.home [
          | inl e ↦ inl e
          | inr e ↦ inr (e.0, still s' other w t h.current h.served there quiet' (still s id v b h.current h.served at quiet e.1))
        ];
      }

  pub opening_holds : (n : ℕ) (x : T) → start < 2 ^ 64 → n ≡ length (journal x) → LockHolds journal origin kept start (opening (start ∷ start ∷ n ∷ []) (Just x ∷ []) (first_view journal origin kept x))
  opening_holds n x small len =
      let v = first_view journal origin kept x in
      let m : start % 2 ^ 64 ≡ start = omega (arith, small) in record {
        drawn = start;
        served = start;
        current = x;
        words = ap (λ k. start ∷ start ∷ k ∷ []) len ∙ ap (λ k. k ∷ k ∷ length (journal x) ∷ []) (sym m);
        out = all_snoc (λ u. (k : ℕ) → u.ticket ≡ Just k → (start ≤ k) × (k < start)) [] v (λ j u e. absurd (some-ne-none u (sym e))) (λ k e. absurd (just_nothing k Nothing refl e));
        once = λ i j u q k ne a b. pairs_snoc (λ u q. (k : ℕ) → u.ticket ≡ Just k → q.ticket ≡ Just k → ⊥) [] v (λ j u e. absurd (some-ne-none u (sym e))) (λ i j u q ne e. absurd (some-ne-none u (sym e))) i j u q ne a b k;
        count = omega arith;
        turns = omega arith;
        actors = refl;
        each = all_snoc (λ u. one u.ticket ≤ length u.kept) [] v (λ j u e. absurd (some-ne-none u (sym e))) (omega arith);
        apart = λ i j u q a k l ne x y. pairs_snoc (λ u q. (a : ℕ) (k l : K) → Has u.kept a k → Has q.kept a l → ⊥) [] v (λ j u e. absurd (some-ne-none u (sym e))) (λ i j u q ne e. absurd (some-ne-none u (sym e))) i j u q ne x y a k l;
        agrees = all_snoc (Agrees journal origin kept x) [] v (λ j u e. absurd (some-ne-none u (sym e))) (record {
          seen = begins_same (journal x);
          kept_is = λ a k h. let p = at_map_back (kept_for journal origin kept x) (from_up 0 17) h.0 (a, k) h.1 in let e0 : p.0 ≡ a = ap (λ z. z.0) p.2 in let e1 : kept x p.0 ≡ k = ap (λ z. z.1) p.2 in ap (kept x) (sym e0) ∙ e1;
          origin_is = λ o e. just_injective (origin x) o e;
        });
        whole = (0, v, refl, omega arith, refl);
        sound = all_snoc (λ u. Sound u.own u.seen u.other) [] v (λ j u e. absurd (some-ne-none u (sym e))) (record { distinct = λ i j p x y. absurd (some-ne-none p (sym x)); within = λ p o. absurd (some-ne-none p (sym o.1)); grown = (journal x, refl) });
        separate = pairs_snoc (λ u q. Apart u.own q.own) [] v (λ j u e. absurd (some-ne-none u (sym e))) (λ i j u q ne e. absurd (some-ne-none u (sym e)));
        told = all_snoc (λ u. (y : T) → u.told ≡ Just y → (y ≡ x) × (u.ticket ≡ Just start) × (map some (Just x ∷ []) ≡ none ∷ [])) [] v (λ j u e. absurd (some-ne-none u (sym e))) (λ y e. absurd (just_nothing y Nothing refl e));
        home = inl refl;
      }

  pub publish_allows : (slots id n : ℕ) (me : Me (Maybe T) (View T E O K)) (x y : T) → me.0.told ≡ Just x → Extends journal origin kept me.0 x y → n ≡ length (journal y)
      → Allows (LockHolds journal origin kept start) slots id me 2 (λ _. n) (λ _. Publishes journal origin kept (Just y) me)
  publish_allows slots id n me x y tells ext len s h homes at small =
      (telling journal origin kept me.0 y, keeps, tt, publish_core id n me.0 x y me.1 tells ext len s h at, refl)

  -- where as many tickets were served as were drawn, the value is at home
  pub served_home : (s : State (Maybe T) (View T E O K)) (a : ℕ) → (h : LockHolds journal origin kept start s) → get_elem? s.words 0 ≡ some a → get_elem? s.words 1 ≡ some a → s.homes ≡ some (Just h.current) ∷ []
  served_home s a h zeroth first =
      let f : View T E O K → ℕ = λ v. one v.ticket in
      let d : a ≡ h.drawn % 2 ^ 64 = some-injective a (h.drawn % 2 ^ 64) (sym zeroth ∙ ap (λ ws. get_elem? ws 0) h.words) in
      let e : a ≡ h.served % 2 ^ 64 = some-injective a (h.served % 2 ^ 64) (sym first ∙ ap (λ ws. get_elem? ws 1) h.words) in
      let c : h.drawn ≡ h.served + total f s.views = h.count in
      let same : h.served ≡ h.drawn = let l = few s h in one_turn h.served h.drawn (2 ^ 64) (omega (arith, c)) (omega (arith, l)) (sym e ∙ d) in
      elim h.home [
        | inl e ↦ e
        | inr a ↦
            let l : one a.1.1.ticket ≤ total f s.views = total_at f s.views a.1.0 a.1.1 a.1.2 in
            let z : one a.1.1.ticket ≡ 1 = ap one a.1.4 in
            absurd (omega (arith, l, z, c, same))
      ]

  -- where one view speaks for all actors and has no ticket, as many were served as were drawn
  pub all_served : (id : ℕ) (v : View T E O K) (s : State (Maybe T) (View T E O K)) (a b : ℕ) → LockHolds journal origin kept start s → get_elem? s.views id ≡ some v → v.ticket ≡ Nothing → length v.kept ≡ ACTORS
      → get_elem? s.words 0 ≡ some a → get_elem? s.words 1 ≡ some b → a ≡ b
  all_served id v s a b h at idle all zeroth first =
      let f : View T E O K → ℕ = λ v. one v.ticket in
      let k : View T E O K → ℕ = λ v. length v.kept in
      let w : View T E O K = spent in
      let l : List (View T E O K) = slice_set s.views id w in
      let d : a ≡ h.drawn % 2 ^ 64 = some-injective a (h.drawn % 2 ^ 64) (sym zeroth ∙ ap (λ ws. get_elem? ws 0) h.words) in
      let e : b ≡ h.served % 2 ^ 64 = some-injective b (h.served % 2 ^ 64) (sym first ∙ ap (λ ws. get_elem? ws 1) h.words) in
      let none_left : total k l + length v.kept ≡ total k s.views + 0 = total_set k s.views id v w at in
      let tickets : total f l + one v.ticket ≡ total f s.views + 0 = total_set f s.views id v w at in
      let least : total f l ≤ total k l = total_le f k l (all_set (λ i u. one u.ticket ≤ length u.kept) s.views id w (omega arith) (λ j u ne. h.each j u)) in
      let z : one v.ticket ≡ 0 = ap one idle in
      let c : h.drawn ≡ h.served + total f s.views = h.count in
      let n : total k s.views ≡ ACTORS = h.actors in
      let same : h.drawn ≡ h.served = omega (arith, none_left, tickets, least, z, c, n, all) in
      d ∙ (ap (λ n. n % 2 ^ 64) same ∙ sym e)

  -- what lies in the slot of a lock that is closed, by the numbers that its words have
  module _ (id : ℕ) (v : View T E O K) (s : State (Maybe T) (View T E O K)) (a b : ℕ) (h : LockHolds journal origin kept start s) (at : get_elem? s.views id ≡ some v)
      (zeroth : get_elem? s.words 0 ≡ some a) (first : get_elem? s.words 1 ≡ some b)
      (xs : List (Maybe T)) (known : (k : ℕ) (y : Maybe T) → get_elem? s.homes k ≡ some (some y) → get_elem? xs k ≡ some y) (m : Maybe T) (taken : get_elem? xs 0 ≡ some m) where
    pub lies_there : a ≡ b → m ≡ Just h.current
    lies_there same =
        let e : s.homes ≡ some (Just h.current) ∷ [] = served_home s a h zeroth (first ∙ ap (λ n. some n) (sym same)) in
        some-injective m (Just h.current) (sym taken ∙ known 0 (Just h.current) (ap (λ hs. get_elem? hs 0) e))

    pub is_as_known : a ≡ b → (x : T) → m ≡ Just x → Agrees journal origin kept x v
    is_as_known same x is = subst (λ z. Agrees journal origin kept z v) (just_injective h.current x (sym (lies_there same) ∙ is)) (h.agrees id v at)

    pub has_no_more : a ≡ b → (x : T) → m ≡ Just x → length v.kept ≡ ACTORS → v.seen ≡ journal x
    has_no_more same x is all = all_seen s h id v v at all ∙ ap (λ z. journal z) (just_injective h.current x (sym (lies_there same) ∙ is))
