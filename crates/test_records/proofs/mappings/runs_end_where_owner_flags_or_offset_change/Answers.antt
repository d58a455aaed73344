use Rattle.std.proofs.Common.{◌≡◌, ◌-◌, ◌^◌, zero, suc, Bool, true, false, ◌&&◌, List, [], ◌∷◌, refl, arith, ltb-true}
use Rattle.std.specs.Prelude.{nat_lt}
use Rattle.std.specs.List.{list_all}
use Rattle.std.proofs.lemmas.Bool.{false≢true}
use Rattle.rmap_recs.specs.Rmap.{is_key_before}
use Rattle.rmap_recs.specs.Words.{key_word}
use Rattle.rmap_recs.specs.Runs.{HaveNext}
use Rattle.rmap_recs.specs.declared.tuples.Tuple.{Tuple}
use Rattle.test_records.proofs.mappings.runs_end_where_owner_flags_or_offset_change.Goals as goal

abbrev small : Tuple → Bool
small t = nat_lt t.block (2 ^ 32 - 1)

both : (a b : Bool) → (a && b) ≡ true → (a ≡ true) × (b ≡ true)
both true b h = (refl, h)
both false b h = absurd (false≢true h)

all_small : (ts : List Tuple) → list_all small ts ≡ true → HaveNext ts
all_small [] h k d within = absurd (omega arith)
all_small (t ∷ ts) h zero d within = ltb-true t.block (2 ^ 32 - 1) (both (small t) (list_all small ts) h).0
all_small (t ∷ ts) h (suc k) d within = all_small ts (both (small t) (list_all small ts) h).1 k d (omega arith)

-- the tuples of the test
abbrev table : List Tuple
table =
    record { block = 4; owner = 195; word = 0 }
    ∷ record { block = 4; owner = 196; word = 10 }
    ∷ record { block = 5; owner = 195; word = 1 }
    ∷ record { block = 5; owner = 196; word = 0x2000_0000_0000_000b }
    ∷ record { block = 6; owner = 195; word = 3 }
    ∷ record { block = 6; owner = 196; word = 0x2000_0000_0000_000c }
    ∷ record { block = 6; owner = 0xffff_ffff_ffff_fffb; word = 0 }
    ∷ record { block = 7; owner = 196; word = 0x4000_0000_0000_0000 }
    ∷ record { block = 7; owner = 0xffff_ffff_ffff_fffb; word = 0 }
    ∷ record { block = 8; owner = 196; word = 0x4000_0000_0000_0000 }
    ∷ record { block = 9; owner = 0xffff_ffff_ffff_fffb; word = 0 }
    ∷ []

pub runs-requires-clause-sorted : goal.runs-requires-clause-sorted
unfolding is_key_before key_word
runs-requires-clause-sorted g c = (refl, (refl, (refl, (refl, (refl, (refl, (refl, (refl, (refl, (refl, (tt, tt)))))))))))

pub runs-requires-clause-blocks : goal.runs-requires-clause-blocks
runs-requires-clause-blocks g c = all_small table refl
