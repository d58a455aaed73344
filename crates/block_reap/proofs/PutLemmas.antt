-- A run put into limbo.
use Rattle.std.proofs.Common.{◌≡◌, ℕ, suc, ◌+◌, Bool, true, false, List, [], ◌∷◌, ◌++◌, take, drop, refl, sym, ap, ◌∙◌, arith, subst}
use Rattle.std.specs.Prelude.{◌||◌, not, filter, if◌then◌else◌}
use Rattle.block_reap.specs.declared.runs.LimboRun.{LimboRun}
use Rattle.block_reap.specs.Limbo.{covers, has, before, touches, union, HasRun, AllHaveRuns, Follows, AllFollow, IsLimbo, hull_of, is_beside, place_in, put_run}
use Rattle.block_reap.proofs.RunLemmas.{touches_sym, later_first, before_along, Wide, wide_self, wide_union, wide_touches, covers_union, apart_union}

-- none of these touches the run
abbrev pub AllApart : LimboRun → List LimboRun → Type 0
AllApart m [] = Unit {0}
AllApart m (r ∷ rs) = (touches m r ≡ false) × AllApart m rs

pub runs_of : (rs : List LimboRun) → IsLimbo rs → AllHaveRuns rs
runs_of [] h = tt
runs_of (r ∷ rs) h = (h.0, runs_of rs h.2)

-- ---- in its place

pub put_first : (m r : LimboRun) (rs : List LimboRun) → before r m ≡ true → put_run m (r ∷ rs) ≡ r ∷ put_run m rs
unfolding put_run
put_first m r rs h = ap (λ (b : Bool). if b then r ∷ put_run m rs else m ∷ r ∷ rs) h

pub put_here : (m r : LimboRun) (rs : List LimboRun) → before r m ≡ false → put_run m (r ∷ rs) ≡ m ∷ r ∷ rs
unfolding put_run
put_here m r rs h = ap (λ (b : Bool). if b then r ∷ put_run m rs else m ∷ r ∷ rs) h

put_none : (m : LimboRun) → put_run m [] ≡ m ∷ []
unfolding put_run
put_none m = refl

-- the place of a record is where it is put
pub put_at : (m : LimboRun) (rs : List LimboRun) → take (place_in m rs) rs ++ m ∷ drop (place_in m rs) rs ≡ put_run m rs
put_at m [] = sym (put_none m)
put_at m (r ∷ rs) = by_test (before r m) refl (put_at m rs)
  where
    by_test : (b : Bool) → before r m ≡ b → take (place_in m rs) rs ++ m ∷ drop (place_in m rs) rs ≡ put_run m rs → take (if b then 1 + place_in m rs else 0) (r ∷ rs) ++ m ∷ drop (if b then 1 + place_in m rs else 0) (r ∷ rs) ≡ put_run m (r ∷ rs)
    by_test true h on =
        let e : 1 + place_in m rs ≡ suc (place_in m rs) = omega arith in
        ap (λ n. take n (r ∷ rs) ++ m ∷ drop n (r ∷ rs)) e ∙ ap (λ xs. r ∷ xs) on ∙ sym (put_first m r rs h)
    by_test false h on = sym (put_here m r rs h)

follow_put : (r m : LimboRun) (rs : List LimboRun) → Follows r m → AllFollow r rs → AllFollow r (put_run m rs)
follow_put r m [] f all = subst (AllFollow r) (sym (put_none m)) (f, tt)
follow_put r m (s ∷ ss) f all = by_test (before s m) refl (follow_put r m ss f all.1)
  where
    by_test : (b : Bool) → before s m ≡ b → AllFollow r (put_run m ss) → AllFollow r (put_run m (s ∷ ss))
    by_test true h later = subst (AllFollow r) (sym (put_first m s ss h)) (all.0, later)
    by_test false h later = subst (AllFollow r) (sym (put_here m s ss h)) (f, all)

all_follow : (m r : LimboRun) (rs : List LimboRun) → before m r ≡ true → AllFollow r rs → AllApart m rs → AllFollow m rs
all_follow m r [] h all apart = tt
all_follow m r (s ∷ ss) h all apart = (record { later = before_along m r s h all.0.later; apart = apart.0 }, all_follow m r ss h all.1 apart.1)

pub put_limbo : (m : LimboRun) (rs : List LimboRun) → HasRun m → IsLimbo rs → AllApart m rs → IsLimbo (put_run m rs)
put_limbo m [] run limbo apart = subst IsLimbo (sym (put_none m)) (run, tt, tt)
put_limbo m (r ∷ rs) run limbo apart = by_test (before r m) refl (put_limbo m rs run limbo.2 apart.1)
  where
    by_test : (b : Bool) → before r m ≡ b → IsLimbo (put_run m rs) → IsLimbo (put_run m (r ∷ rs))
    by_test true h later = subst IsLimbo (sym (put_first m r rs h)) (limbo.0, follow_put r m rs (record { later = h; apart = touches_sym m r apart.0 }) limbo.1, later)
    by_test false h later =
        let first = later_first m r apart.0 h in
        subst IsLimbo (sym (put_here m r rs h)) (run, (record { later = first; apart = apart.0 }, all_follow m r rs first limbo.1 apart.1), limbo)

or_swap : (a b c : Bool) → (a || (b || c)) ≡ (b || (a || c))
or_swap true true c = refl
or_swap true false c = refl
or_swap false b c = refl

pub has_put : (m : LimboRun) (rs : List LimboRun) (b o : ℕ) → has (put_run m rs) b o ≡ (covers m b o || has rs b o)
has_put m [] b o = ap (λ xs. has xs b o) (put_none m)
has_put m (r ∷ rs) b o = by_test (before r m) refl (has_put m rs b o)
  where
    by_test : (t : Bool) → before r m ≡ t → has (put_run m rs) b o ≡ (covers m b o || has rs b o) → has (put_run m (r ∷ rs)) b o ≡ (covers m b o || (covers r b o || has rs b o))
    by_test true h later = ap (λ xs. has xs b o) (put_first m r rs h) ∙ ap (λ t. covers r b o || t) later ∙ or_swap (covers r b o) (covers m b o) (has rs b o)
    by_test false h later = ap (λ xs. has xs b o) (put_here m r rs h)

-- ---- those that don't touch

follow_kept : (r run : LimboRun) (rs : List LimboRun) → AllFollow r rs → AllFollow r (filter (is_beside run) rs)
follow_kept r run [] all = tt
follow_kept r run (s ∷ ss) all = by_test (touches run s) (follow_kept r run ss all.1)
  where
    by_test : (b : Bool) → AllFollow r (filter (is_beside run) ss) → AllFollow r (if not b then s ∷ filter (is_beside run) ss else filter (is_beside run) ss)
    by_test true later = later
    by_test false later = (all.0, later)

pub kept_limbo : (run : LimboRun) (rs : List LimboRun) → IsLimbo rs → IsLimbo (filter (is_beside run) rs)
kept_limbo run [] limbo = tt
kept_limbo run (r ∷ rs) limbo = by_test (touches run r) (kept_limbo run rs limbo.2)
  where
    by_test : (b : Bool) → IsLimbo (filter (is_beside run) rs) → IsLimbo (if not b then r ∷ filter (is_beside run) rs else filter (is_beside run) rs)
    by_test true later = later
    by_test false later = (limbo.0, follow_kept r run rs limbo.1, later)

-- ---- the hull

-- a run that touches none of those which touch the first doesn't touch the hull
hull_apart : (run whole x : LimboRun) (rs : List LimboRun) → HasRun x → Wide run whole → touches whole x ≡ false → AllApart x rs → touches (hull_of run whole rs) x ≡ false
hull_apart run whole x [] some wide apart all = apart
hull_apart run whole x (r ∷ rs) some wide apart all = by_test (touches run r) refl (λ w v t. hull_apart run w x rs some v t all.1)
  where
    by_test : (b : Bool) → touches run r ≡ b → ((w : LimboRun) → Wide run w → touches w x ≡ false → touches (hull_of run w rs) x ≡ false) → touches (hull_of run (if b then union whole r else whole) rs) x ≡ false
    by_test true h on = on (union whole r) (wide_union run whole r wide) (apart_union whole r x some (wide_touches run whole r wide h) apart (touches_sym x r all.0))
    by_test false h on = on whole wide apart

apart_all : (r : LimboRun) (rs : List LimboRun) → AllFollow r rs → AllApart r rs
apart_all r [] all = tt
apart_all r (s ∷ ss) all = (all.0.apart, apart_all r ss all.1)

-- what doesn't touch the first run doesn't touch the one so far
abbrev pub AllLike : LimboRun → LimboRun → List LimboRun → Type 0
AllLike run whole [] = Unit {0}
AllLike run whole (r ∷ rs) = (touches run r ≡ false → touches whole r ≡ false) × AllLike run whole rs

pub like_self : (run : LimboRun) (rs : List LimboRun) → AllLike run run rs
like_self run [] = tt
like_self run (r ∷ rs) = (λ h. h, like_self run rs)

like_union : (run whole r : LimboRun) (rs : List LimboRun) → touches whole r ≡ true → AllHaveRuns rs → AllFollow r rs → AllLike run whole rs → AllLike run (union whole r) rs
like_union run whole r [] h some all like = tt
like_union run whole r (s ∷ ss) h some all like = (λ t. apart_union whole r s some.0 h (like.0 t) all.0.apart, like_union run whole r ss h some.1 all.1 like.1)

-- no run that is kept touches the hull
pub hull_kept : (run whole : LimboRun) (rs : List LimboRun) → IsLimbo rs → Wide run whole → AllLike run whole rs → AllApart (hull_of run whole rs) (filter (is_beside run) rs)
hull_kept run whole [] limbo wide like = tt
hull_kept run whole (r ∷ rs) limbo wide like = by_test (touches run r) refl (λ w v l. hull_kept run w rs limbo.2 v l)
  where
    by_test : (b : Bool) → touches run r ≡ b → ((w : LimboRun) → Wide run w → AllLike run w rs → AllApart (hull_of run w rs) (filter (is_beside run) rs)) → AllApart (hull_of run (if b then union whole r else whole) rs) (if not b then r ∷ filter (is_beside run) rs else filter (is_beside run) rs)
    by_test true h on = on (union whole r) (wide_union run whole r wide) (like_union run whole r rs (wide_touches run whole r wide h) (runs_of rs limbo.2) limbo.1 like.1)
    by_test false h on = (hull_apart run whole r rs limbo.0 wide (like.0 h) (apart_all r rs limbo.1), on whole wide like.1)

or_assoc : (a b c : Bool) → ((a || b) || c) ≡ (a || (b || c))
or_assoc true b c = refl
or_assoc false b c = refl

or_comm : (a b : Bool) → (a || b) ≡ (b || a)
or_comm true true = refl
or_comm true false = refl
or_comm false true = refl
or_comm false false = refl

-- the hull and what is kept have the blocks of the run and of all
pub has_hull : (run whole : LimboRun) (rs : List LimboRun) (b o : ℕ) → Wide run whole → (covers (hull_of run whole rs) b o || has (filter (is_beside run) rs) b o) ≡ (covers whole b o || has rs b o)
has_hull run whole [] b o wide = refl
has_hull run whole (r ∷ rs) b o wide = by_test (touches run r) refl (λ w v. has_hull run w rs b o v)
  where
    by_test : (t : Bool) → touches run r ≡ t → ((w : LimboRun) → Wide run w → (covers (hull_of run w rs) b o || has (filter (is_beside run) rs) b o) ≡ (covers w b o || has rs b o)) → (covers (hull_of run (if t then union whole r else whole) rs) b o || has (if not t then r ∷ filter (is_beside run) rs else filter (is_beside run) rs) b o) ≡ (covers whole b o || (covers r b o || has rs b o))
    by_test true h on = on (union whole r) (wide_union run whole r wide) ∙ ap (λ t. t || has rs b o) (covers_union whole r b o (wide_touches run whole r wide h)) ∙ or_assoc (covers whole b o) (covers r b o) (has rs b o)
    by_test false h on = or_swap (covers (hull_of run whole rs) b o) (covers r b o) (has (filter (is_beside run) rs) b o) ∙ ap (λ t. covers r b o || t) (on whole wide) ∙ or_swap (covers r b o) (covers whole b o) (has rs b o)

-- ---- a run put in

pub put_keeps : (run : LimboRun) (rs : List LimboRun) → HasRun (hull_of run run rs) → IsLimbo rs → IsLimbo (put_run (hull_of run run rs) (filter (is_beside run) rs))
put_keeps run rs some limbo = put_limbo (hull_of run run rs) (filter (is_beside run) rs) some (kept_limbo run rs limbo) (hull_kept run run rs limbo (wide_self run) (like_self run rs))

pub put_has : (run : LimboRun) (rs : List LimboRun) (b o : ℕ) → has (put_run (hull_of run run rs) (filter (is_beside run) rs)) b o ≡ (has rs b o || covers run b o)
put_has run rs b o = has_put (hull_of run run rs) (filter (is_beside run) rs) b o ∙ has_hull run run rs b o (wide_self run) ∙ or_comm (covers run b o) (has rs b o)
