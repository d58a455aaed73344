use Rattle.std.specs.Prelude.{◌≡◌, ℕ, ◌==◌, refl, [], ◌∷◌, List, Result, Ok, Err, None, true}
use Rattle.std.proofs.Common.{arith, inl, inr, sym, subst}
use Rattle.std.proofs.lemmas.Bool.{cases_Bool, eqb-true, ltb-true}
use Rattle.dinode_core.specs.declared.mapping.ForkFault.{ForkFault}
use Rattle.fs_model.specs.declared.entry.Entry.TheVariants as entries
use Rattle.sblock.specs.declared.kind.Kind.TheVariants.{Rmap, Ino, Fino}
use Rattle.fs_state.specs.Apart.{is_chunk}
use Rattle.fs_state.specs.Frame.{SameFork}
use Rattle.fs_state.specs.State.{ForkList, Owned}
use Rattle.fs_change.specs.Loose.{InodesStay, MovesBlocks, count_used, used_blocks}
use Rattle.fs_change.specs.Step.{Step}
use Rattle.test_changes.proofs.Computing.{computing}
use Rattle.test_changes.specs.Meets.{spread, spread_taken, in_one, gathered}
use Rattle.test_changes.proofs.rows.moves_by_block.Goals as goal

-- the other groups are as they were
others : (h : ℕ) → (h ≡ 0 → ⊥) → gathered.group h ≡ spread_taken.group h
others h apart = elim (cases_Bool (h == 0)) [ inl same ↦ absurd (apart (eqb-true h 0 same)) | inr other ↦ rw other refl ]

-- and so are the chunks: reverse mappings give the same blocks to inodes
chunks_stay : (h u : ℕ) → is_chunk gathered h u ≡ is_chunk spread_taken h u
unfolding computing count_used
chunks_stay h u = elim (cases_Bool (h == 0)) [
  | inl same ↦ subst (λ (n : ℕ). is_chunk gathered n u ≡ is_chunk spread_taken n u) (sym (eqb-true h 0 same)) refl
  | inr other ↦ rw other refl
]

same_fork : (r : Result ForkList ForkFault) → SameFork r r
same_fork (Ok list) = refl
same_fork (Err fault) = refl

stay : InodesStay 0 (used_blocks (spread_taken.group 0) (gathered.group 0)) spread spread_taken gathered
stay = record { untouched = λ ino out. refl; chunks = chunks_stay; cores = λ ino is. refl; forks = λ ino f is. same_fork (spread_taken.fork ino f) }

moves : MovesBlocks true [] (Rmap ∷ Ino ∷ Fino ∷ []) (spread_taken.group 0) (gathered.group 0)
unfolding computing count_used
moves = record {
  blocks = in_one;
  freed = 41 ∷ 40 ∷ [];
  limbo = [];
  is = refl;
  limbo_keeps = refl;
  limbo_gains = refl;
  limbo_due = refl;
  -- a block stands as often in list, trees and limbo
  none_lost = λ b. omega arith;
  owners_met = refl;
}

no_list : (o : Owned) (os : List Owned) → ◌≡◌ {A = List Owned} (o ∷ os) [] → ⊥
no_list o os e = cc

step : Step spread [] (entries.Taken 1 195 7 None) gathered
unfolding computing
step = record {
  decided = spread_taken;
  row = (195, (λ g. true, refl, (0, ltb-true 0 1 refl, refl), refl, refl), refl, refl);
  leaves = refl;
  met = refl;
  uncut = λ asked same. absurd (no_list _ _ same);
  loosely = record { geometry = refl; chains = refl; others = others; inside = moves; inodes = stay };
}

pub returns : goal.returns
unfolding computing count_used
returns c = (([], gathered, step, tt, refl), refl, refl, refl, refl)
