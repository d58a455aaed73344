-- What a chain's intents can be, and what follows for a block.
use Rattle.std.specs.Prelude.{ℕ, ◌≡◌, ◌*◌, ◌<◌, ◌≤◌, ◌||◌, Bool, true, List, [], ◌∷◌, ◌++◌, flat_map, sum_by}
use Rattle.fs_change.specs.Chains.{gives, most_chains, takes}
use Rattle.fs_change.specs.Changes.{behind, intent, to_free}
use Rattle.fs_change.specs.Step.{is_ref}
use Rattle.fs_state.specs.Lists.{numbers}
use Rattle.fs_model.specs.declared.entry.Extent.{Extent}
use Rattle.fs_state.specs.State.{Group}
use Rattle.fs_state.specs.declared.intent.Intent.{Intent}
use Rattle.fs_state.specs.declared.intent.IntentKind.{IntentKind}
use Rattle.fs_state.specs.declared.intent.IntentKind.TheVariants.{RmapAdd, RmapRemove, RmapChange, RefMore, RefLess, Free}
use Rattle.tree_defs.specs.Lists.{AllDiffer, is_in}
use Rattle.law_accounts.specs.Account.Accounts.{due, lowers, owes, raises, removes, run_in, frees as is_freeing}

-- the kinds of a chain's intents, the next first: a mapping that comes, and then perhaps a count that rises; one that
-- becomes written; one that goes, and then a count that falls, which may first free a run
abbrev pub IsShape : List IntentKind → Type 0
IsShape [] = Unit {0}
IsShape (RmapAdd ∷ []) = Unit {0}
IsShape (RmapAdd ∷ RefMore ∷ []) = Unit {0}
IsShape (RmapChange ∷ []) = Unit {0}
IsShape (RmapRemove ∷ RefLess ∷ []) = Unit {0}
IsShape (RefMore ∷ []) = Unit {0}
IsShape (RefLess ∷ []) = Unit {0}
IsShape (Free ∷ []) = Unit {0}
IsShape (Free ∷ RefLess ∷ []) = Unit {0}
IsShape ks = ⊥

abbrev pub kinds : List Intent → List IntentKind
kinds [] = []
kinds (i ∷ is) = i.kind ∷ kinds is

-- a mapping that goes and the count that falls behind it are of one run
abbrev pub AreOfOneRun : List Intent → Type 0
AreOfOneRun [] = Unit {0}
AreOfOneRun (i ∷ []) = Unit {0}
AreOfOneRun (i ∷ j ∷ is) = i.kind ≡ RmapRemove → run_in i ≡ run_in j

pub record IsChain (is : List Intent) : Type 0 where
  pub shape : IsShape (kinds is)
  pub one_run : AreOfOneRun is

-- in such a chain each mapping of a block that goes has a count that falls
abbrev pub ChainsFollow : Type 0
ChainsFollow = (is : List Intent) (g b : ℕ) → IsChain is → sum_by (owes removes g b) is ≤ sum_by (owes lowers g b) is

-- ---- each step leaves such a chain

-- what an intent of reverse mappings, and one that frees, leave
abbrev pub RestStays : Type 0
RestStays = (i : Intent) (rest : List Intent) → IsChain (i ∷ rest) → ((gives i.kind || takes i.kind) || is_freeing i.kind) ≡ true → IsChain rest

-- what a stretch of a count leaves: what it frees, and what is behind it
abbrev pub StretchStays : Type 0
StretchStays = (more : Bool) (p : Group) (e : Extent) (i : Intent) (rest : List Intent) → IsChain (i ∷ rest) → is_ref more i.kind ≡ true → IsChain (to_free more p e ++ behind e.count i ++ rest)

-- ---- and a first event begins one

pub record FirstsBegin : Type 0 where
  pub mapped : (ino word : ℕ) (e : Extent) → IsChain (intent RmapAdd ino word e ∷ [])
  pub converted : (ino word : ℕ) (e : Extent) → IsChain (intent RmapChange ino word e ∷ [])
  pub unmapped : (ino word : ℕ) (e : Extent) → IsChain (intent RmapRemove ino word e ∷ intent RefLess 0 0 e ∷ [])
  pub shared : (ino word : ℕ) (e : Extent) → IsChain (intent RmapAdd ino word e ∷ intent RefMore 0 0 e ∷ [])

-- at most one count of a block rises in a chain, so at most 15 where one chain owes nothing
abbrev pub FewRise : Type 0
FewRise = (cs : ℕ → List Intent) (g b c : ℕ) → c < most_chains → cs c ≡ [] → ((k : ℕ) → k < most_chains → IsChain (cs k)) → due (owes raises g b) cs ≤ 15

-- ---- pairs, by the holds

-- Inodes that chains hold: each once, by one chain, and each is one of these inodes.
pub record AreHeld (all : List ℕ) (held : ℕ → List ℕ) : Type 0 where
  pub distinct : AllDiffer (flat_map held (numbers 0 most_chains))
  pub listed : (i : ℕ) → is_in i (flat_map held (numbers 0 most_chains)) ≡ true → is_in i all ≡ true

-- in each chain the inodes that it holds map the block twice for each count that will rise; `weight` tells how often an
-- inode maps it
abbrev pub ArePaired : (ℕ → List Intent) → (ℕ → List ℕ) → (ℕ → ℕ) → ℕ → ℕ → Type 0
ArePaired cs held weight g b = (c : ℕ) → c < most_chains → 2 * sum_by (owes raises g b) (cs c) ≤ sum_by weight (held c)

-- so do all inodes for all counts
abbrev pub PairsFound : Type 0
PairsFound = (all : List ℕ) (cs : ℕ → List Intent) (held : ℕ → List ℕ) (weight : ℕ → ℕ) (g b : ℕ) → AreHeld all held → ArePaired cs held weight g b → 2 * due (owes raises g b) cs ≤ sum_by weight all
