-- What the command's own contract says of the words, over plain values.
use Rattle.std.proofs.Common.{List, [], ◌∷◌, true, false, ◌≡◌, ◌∙◌, ap, sym, subst, refl, arith, ◌≢◌, inl, inr}
use Rattle.clap.specs.Words.{App, HasKind, IsAmong, Kinds, kind_of, Row, fault_of, is_simple, is_simple_and_free, matches_of}
use Rattle.std.proofs.lemmas.Bool.Decides.{nat_tests}
use Rattle.clap.specs.Walk.{is_empty}
use Rattle.clap.specs.declared.error.kind.ErrorKind.{ErrorKind}
use Rattle.clap.specs.declared.error.Error.{Error}
use Rattle.clap.specs.declared.error.kind.ErrorKind.TheVariants.{OutOfMemory}
use Rattle.clap.proofs.OnLiterals.{clap_on_literals}
use Rattle.command_line.specs.Requests.{Text, matches_for, refusals, xscrub_app}

-- no argument of the command has a rule on another one
is_free : is_simple_and_free xscrub_app ≡ true
unfolding clap_on_literals
is_free = refl

is_plain : is_simple xscrub_app ≡ true
unfolding clap_on_literals
is_plain = refl

pub app_is_free : (a : App) → a ≡ xscrub_app → is_simple_and_free a ≡ true
app_is_free a e = ap is_simple_and_free e ∙ is_free

pub app_is_plain : (a : App) → a ≡ xscrub_app → is_simple a ≡ true
app_is_plain a e = ap is_simple e ∙ is_plain

some_kind : (k : ErrorKind) (ks : Kinds) → IsAmong k ks → is_empty ks ≡ false
some_kind k [] among = absurd among
some_kind k (j ∷ ks) among = grind (arith, nat_tests)

-- a kind of refusal that comes is one of the words' own
pub refused : (a : App) (words : List Text) → a ≡ xscrub_app → (k : ErrorKind) → IsAmong k (fault_of a words) → is_empty (refusals words) ≡ false
unfolding refusals
refused a words e k among = some_kind k _ (subst (λ (b : App). IsAmong k (fault_of b words)) e among)

pub granted : (a : App) (words : List Text) → a ≡ xscrub_app → fault_of a words ≡ [] → refusals words ≡ []
unfolding refusals
granted a words e none = sym (ap (λ (b : App). fault_of b words) e) ∙ none

pub matched : (a : App) (words : List Text) (rows : List Row) → a ≡ xscrub_app → rows ≡ matches_of a words → rows ≡ matches_for words
unfolding matches_for
matched a words rows e same = same ∙ ap (λ (b : App). matches_of b words) e

-- of a refusal that isn't for want of memory
pub refused_by : (a : App) (words : List Text) → a ≡ xscrub_app → (e : Error) → HasKind (fault_of a words) e → kind_of e ≢ OutOfMemory → is_empty (refusals words) ≡ false
refused_by a words is e (inl memory) other = absurd (other memory)
refused_by a words is e (inr among) other = refused a words is _ among
