-- Which run of free space these groups give, in the order in which they are tried ("AG Free Space B+trees").
use Rattle.std.specs.Prelude.{◌≡◌, ℕ, Bool, true, false, not, ◌&&◌, ◌||◌, nat_lt, List, [], ◌∷◌, ◌++◌, Option, Some, None, Result, Ok, Err, is_none, is_some, option_map, if◌then◌else◌}
use Rattle.std.specs.List.{list_any}
use Rattle.std.specs.Option.{option_or}
use Rattle.fs_model.specs.declared.entry.Extent.{Extent}
use Rattle.span_recs.specs.declared.span.SpanRec.{SpanRec}
use Rattle.free_space.specs.declared.choice.GroupSpace.{GroupSpace}
use Rattle.free_space.specs.declared.choice.SickGroup.{SickGroup}
use Rattle.free_space.specs.declared.choice.Search.{Search}
use Rattle.free_space.specs.declared.choice.NoRun.{NoRun}
use Rattle.free_space.specs.declared.choice.NoRun.TheVariants.{Closing, Sick, TooLarge, NoSpace}
use Rattle.free_space.specs.Spans.{front_of}

-- the gate is open, none of the asked trees is sick, and none is too large to be edited
abbrev pub is_usable : GroupSpace → Bool
is_usable s = s.is_open && is_none s.sick && not s.is_large

-- the front of a record of the group
abbrev pub extent_of : GroupSpace → ℕ → SpanRec → Extent
extent_of s wanted r = record { group = s.group; block = (front_of r wanted).start; count = (front_of r wanted).count }

-- what a usable group gives of its first record that is long enough, and of its last one
abbrev pub fit_in : ℕ → GroupSpace → Option Extent
fit_in wanted s = if is_usable s then option_map (extent_of s wanted) s.fit else None

abbrev pub last_in : ℕ → GroupSpace → Option Extent
last_in wanted s = if is_usable s then option_map (extent_of s wanted) s.last else None

-- what the first group gives that gives anything
abbrev pub first_in : (GroupSpace → Option Extent) → List GroupSpace → Option Extent
first_in f [] = None
first_in f (s ∷ ss) = option_or (f s) (first_in f ss)

-- the lower of two by a number, and the lowest that the groups have
abbrev pub lower_by : {X : Type 0} → (X → ℕ) → Option X → Option X → Option X
lower_by key None o = o
lower_by key (Some x) None = Some x
lower_by key (Some x) (Some y) = if nat_lt (key y) (key x) then Some y else Some x

abbrev pub lowest : {X : Type 0} → (X → ℕ) → (GroupSpace → Option X) → List GroupSpace → Option X
lowest key f [] = None
lowest key f (s ∷ ss) = lower_by key (f s) (lowest key f ss)

abbrev pub closed_in : GroupSpace → Option ℕ
closed_in s = if s.is_open then None else Some s.group

abbrev pub sick_in : GroupSpace → Option SickGroup
sick_in s = option_map (λ k. record { group = s.group; kind = k }) s.sick

abbrev pub lowest_closed : List GroupSpace → Option ℕ
lowest_closed gs = lowest (λ g. g) closed_in gs

abbrev pub lowest_sick : List GroupSpace → Option SickGroup
lowest_sick gs = lowest (λ s. s.group) sick_in gs

-- it has a record, but trees that are too large to be edited
abbrev pub has_large : GroupSpace → Bool
has_large s = s.is_large && (is_some s.fit || is_some s.last)

-- why no group gives a run
abbrev pub refusal : Option ℕ → Option SickGroup → Bool → NoRun
refusal (Some g) sick large = Closing g
refusal None (Some s) large = Sick s
refusal None None true = TooLarge
refusal None None false = NoSpace

abbrev pub chosen : Option Extent → NoRun → Result Extent NoRun
chosen (Some e) why = Ok e
chosen None why = Err why

-- Which run do the groups give? The front of the first record that is long enough, in the first usable group that has
-- one; else the front of the last record of the first usable group with any.
unfoldable pub choice : ℕ → List GroupSpace → Result Extent NoRun
choice wanted gs =
    chosen (option_or (first_in (fit_in wanted) gs) (first_in (last_in wanted) gs))
    (refusal (lowest_closed gs) (lowest_sick gs) (list_any has_large gs))

-- where a group fits, or one before it, its last record isn't asked for
abbrev pub LastUnasked : Type 0
LastUnasked = (wanted : ℕ) (before behind : List GroupSpace) (s : GroupSpace) (last : Option SpanRec) → is_some (first_in (fit_in wanted) (before ++ s ∷ [])) ≡ true
    → choice wanted (before ++ record s { last = last } ∷ behind) ≡ choice wanted (before ++ s ∷ behind)

-- the search has looked at these groups
pub record StandsFor (wanted : ℕ) (gs : List GroupSpace) (s : Search) : Type 0 where
  pub wants : s.wanted ≡ wanted
  pub fit : s.fit ≡ first_in (fit_in wanted) gs
  pub last : s.last ≡ first_in (last_in wanted) gs
  pub closed : s.closed ≡ lowest_closed gs
  pub sick : s.sick ≡ lowest_sick gs
  pub large : s.is_large ≡ list_any has_large gs
