-- What the words of a command line ask for: the command as it is told to `clap`, and the table of
-- which job takes which option.
use Rattle.std.specs.Prelude.{◌≡◌, ℕ, List, [], ◌∷◌, Option, Some, None, Bool, true, false, not, ◌&&◌, ◌==◌, is_some, codes, option_map, option_and_then, if◌then◌else◌}
use Rattle.std.specs.Borrow.{Bor}
use Rattle.std.specs.Str.{bytes_eq}
use Rattle.clap.specs.Words.{App, Kinds, Row, Rule, fault_of, first_of, found_of, matches_of, new_app, new_rule, rows_of, with_rule}
use Rattle.clap.specs.Walk.{is_empty}
use Rattle.clap.specs.declared.parser.matches.ArgMatches.{ArgMatches}
use Rattle.clap.specs.Simple.{on_top}
use Rattle.clap.specs.declared.builder.action.ArgAction.TheVariants.{SetTrue}
use Rattle.command_line.specs.Numbers.{number_of}
use Rattle.command_line.specs.declared.request.Job.{Job}
use Rattle.command_line.specs.declared.request.Job.TheVariants.{Check, Repair, Run, Drill, Make}
use Rattle.command_line.specs.declared.request.Request.{Request}

abbrev pub Text : Type 0
Text = List ℕ

-- the bytes of a word that may be there
abbrev pub bytes : Option (Bor Text) → Option Text
bytes word = option_map (λ s. s.now) word

-- ---- the command

abbrev pub positional : Text → Rule
positional id = record (new_rule id) { required = true }

abbrev pub option : Text → Rule
option id = record (new_rule id) { long = Some id }

abbrev pub flag : Text → Rule
flag id = record (option id) { action = Some SetTrue }

-- job and target, three options and a flag; the words begin behind the program's name
abbrev pub xscrub_app : App
xscrub_app = with_rule (with_rule (with_rule (with_rule (with_rule (with_rule (on_top (λ s. record s { no_binary_name = true }) (new_app (codes "xscrub"))) (positional (codes "job"))) (positional (codes "target"))) (option (codes "redo"))) (option (codes "script"))) (option (codes "turns"))) (flag (codes "rebuild"))

-- ---- the table

unfoldable pub job_named : Text → Option Job
job_named word = if bytes_eq word (codes "check") then Some Check
    else (if bytes_eq word (codes "repair") then Some Repair
    else (if bytes_eq word (codes "run") then Some Run
    else (if bytes_eq word (codes "drill") then Some Drill
    else (if bytes_eq word (codes "make") then Some Make
    else None))))

-- whether a job may have what is given, or lack it: check may have a redo file, repair and run want one
abbrev pub redo_fits : Job → Bool → Bool
redo_fits Check given = true
redo_fits Repair given = given
redo_fits Run given = given
redo_fits Drill given = not given
redo_fits Make given = not given

-- run alone has a script, and wants it
abbrev pub script_fits : Job → Bool → Bool
script_fits Run given = given
script_fits other given = not given

abbrev pub rebuild_fits : Job → Bool → Bool
rebuild_fits Repair given = true
rebuild_fits Run given = true
rebuild_fits other given = not given

abbrev pub turns_fit : Job → Bool → Bool
turns_fit Drill given = not given
turns_fit Make given = not given
turns_fit other given = true

-- the target of a drill is its number, that of every other job a name
abbrev pub target_fits : Job → Text → Bool
target_fits Drill target = is_some (number_of target)
target_fits other target = true

-- 1 to 2^32 - 1, or a million where none is given
unfoldable pub turns_of : Option Text → Option ℕ
turns_of None = Some 1000000
turns_of (Some text) = option_and_then (λ n. if n == 0 then None else Some n) (number_of text)

-- ---- what is asked for

pub record Asked : Type 0 where
  pub job : Job
  pub target : Text
  pub redo : Option Text
  pub script : Option Text
  pub rebuild : Bool
  pub turns : ℕ

abbrev pub all_fit : Job → Text → Option Text → Option Text → Bool → Option Text → Bool
all_fit job target redo script rebuild turns = redo_fits job (is_some redo) && (script_fits job (is_some script) && (rebuild_fits job rebuild && (turns_fit job (is_some turns) && target_fits job target)))

unfoldable pub asked_of : Option Text → Option Text → Option Text → Option Text → Bool → Option Text → Option Asked
asked_of job target redo script rebuild turns =
    option_and_then (λ j. option_and_then (λ t. option_and_then (λ n.
    if all_fit j t redo script rebuild turns
    then Some (record { job = j; target = t; redo = redo; script = script; rebuild = rebuild; turns = n })
    else None) (turns_of turns)) target) (option_and_then job_named job)

abbrev pub is_text : Option Text → Text → Bool
is_text None wanted = false
is_text (Some text) wanted = bytes_eq text wanted

-- what the command's matches ask for
abbrev pub asked_in : List Row → Option Asked
asked_in rows = asked_of (first_of (codes "job") rows) (first_of (codes "target") rows)
    (first_of (codes "redo") rows) (first_of (codes "script") rows)
    (is_text (first_of (codes "rebuild") rows) (codes "true")) (first_of (codes "turns") rows)

abbrev pub asked_without : Kinds → List Row → Option Asked
asked_without [] rows = asked_in rows
asked_without (k ∷ ks) rows = None

-- the kinds of refusal that the command has of the words: none where it takes them
unfoldable pub refusals : List Text → Kinds
refusals words = fault_of xscrub_app words

unfoldable pub matches_for : List Text → List Row
matches_for words = matches_of xscrub_app words

-- what the words ask for: nothing where the command refuses them, or where they don't fit the table
abbrev pub asked_by : List Text → Option Asked
asked_by words = asked_without (refusals words) (matches_for words)

-- the matches are those of the words, or the words are refused
abbrev pub IsParse : List Text → Option ArgMatches → Type 0
IsParse words (Some m) = (refusals words ≡ []) × (rows_of (found_of m) ≡ matches_for words)
IsParse words None = is_empty (refusals words) ≡ false

-- the request is what is asked for
abbrev pub told : Request → Asked
told r = record { job = r.job; target = r.target.now; redo = option_map (λ s. s.now) r.redo; script = option_map (λ s. s.now) r.script; rebuild = r.is_rebuild; turns = r.turns }
