-- A verdict that is said to be good is true.
use Rattle.std.proofs.Common.{◌≡◌, ℕ, [], ◌∷◌, refl, Option, Some, None}
use Rattle.std.specs.Option.{option_or}
use Rattle.fs_state.specs.Claims.{claims}
use Rattle.fs_state.specs.Contradiction.{evidence, first_bad_fork, first_contradiction, first_later, first_overlap}
use Rattle.fs_state.specs.Laws.{IsGood, NoFaultsExactly}
use Rattle.fs_state.specs.Lists.{first_of_all}
use Rattle.fs_model.specs.declared.claim.Evidence.{Evidence}
use Rattle.fs_model.specs.declared.unit.Unit.{Unit as ScrubUnit}
use Rattle.fs_model.specs.declared.unit.Unit.TheVariants as units
use Rattle.fs_model.specs.declared.verdict.Verdict.TheVariants as verdicts
use Rattle.fs_state.specs.Read.{state_of}
use Rattle.fs_state.specs.State.{State}
use Rattle.law_repairs.specs.Order.Ordered.{GroupIsInOrder}
use Rattle.law_repairs.specs.Repair.Letters.{Holds, IsClear}
use Rattle.law_said.specs.Truth.{ImagesRise, SaidIsTrue, SaidOfImages}

some_none : (e : Evidence) → ◌≡◌ {A = Option Evidence} (Some e) None → ⊥
some_none e h = cc

or_none : (o p : Option Evidence) → option_or o p ≡ None → (o ≡ None) × (p ≡ None)
or_none None p h = (refl, h)
or_none (Some e) p h = absurd (some_none e h)

second_none : (o p : Option Evidence) → first_of_all (o ∷ p ∷ []) ≡ None → p ≡ None
second_none None None h = refl
second_none None (Some e) h = absurd (some_none e h)
second_none (Some e) p h = absurd (some_none e h)

-- of reverse mappings it is also said that claims are clear
clear : (a : State) (g : ℕ) → evidence a g units.Rmap ≡ None → IsClear a g
unfolding evidence first_contradiction
clear a g none =
    let parts = or_none (first_bad_fork a) (first_of_all (first_later a g units.Rmap ∷ first_overlap a g (claims a g) ∷ [])) none in
    record { apart = second_none (first_later a g units.Rmap) (first_overlap a g (claims a g)) parts.1; forks = parts.0 }

holds : (a : State) (g : ℕ) (unit : ScrubUnit) → IsGood a g unit → evidence a g unit ≡ None → Holds a g unit
holds a g units.Inode good none = good
holds a g units.Rmap good none = (good, clear a g none)
holds a g units.Free good none = good
holds a g units.Refc good none = good

pub said_is_true : NoFaultsExactly → SaidIsTrue
said_is_true law plan a t g unit verdicts.Good rise said = holds a g unit ((law a g unit rise).0 said.so.2) said.so.1
said_is_true law plan a t g unit verdict rise said = tt

pub said_of_images : NoFaultsExactly → ImagesRise → GroupIsInOrder → SaidOfImages
said_of_images law rise order plan at image kept t g unit verdict fit log well said =
    said_is_true law plan (state_of at image kept) t g unit verdict
    (rise at image kept g unit fit (order at image kept g fit log well.group well.firm well.order well.bytes well.list)) said
