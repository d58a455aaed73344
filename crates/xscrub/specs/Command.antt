-- What the words of a command line ask for, as far as it is built.
use Rattle.std.specs.Prelude.{◌≡◌, ℕ, Bool, if◌then◌else◌, List, Option, Some, None, map, option_map, string_bytes}
use Rattle.std.specs.declared.string.String.{String}
use Rattle.std.specs.declared.alloc.Global.{Global}
use Rattle.command_line.specs.Requests.{Asked, Text, asked_by}
use Rattle.fs_state.specs.declared.plan.Plan.{Plan}
use Rattle.fs_state.specs.declared.plan.Plan.TheVariants as plans
use Rattle.command_line.specs.declared.request.Job.{Job as Named}
use Rattle.command_line.specs.declared.request.Job.TheVariants as names
use Rattle.xscrub.specs.declared.command.Command.{Command}
use Rattle.xscrub.specs.declared.command.Command.TheVariants.{Check, Repair, Make, Unbuilt, Usage}

-- the job that is asked for, with the names as bytes: a check, perhaps beside a redo file; a repair beside one, with
-- its plan and its number of turns; a new image; one that isn't built yet; or no job
pub data Job : Type 0 where
  check_of : List ℕ → Option (List ℕ) → Job
  repair_of : List ℕ → List ℕ → Plan → ℕ → Job
  make_of : List ℕ → Job
  unbuilt : Job
  usage : Job

abbrev pub plan_of : (rebuild : Bool) → Plan
plan_of rebuild = if rebuild then plans.Rebuild else plans.Repair

-- words for a repair name a redo file
abbrev pub repair_in : (target : Text) → (redo : Option Text) → (rebuild : Bool) → (turns : ℕ) → Job
repair_in target None rebuild turns = usage
repair_in target (Some redo) rebuild turns = repair_of target redo (plan_of rebuild) turns

-- a check is built, a repair, and a new image
abbrev pub job_for : Named → Asked → Job
job_for names.Check asked = check_of asked.target asked.redo
job_for names.Repair asked = repair_in asked.target asked.redo asked.rebuild asked.turns
job_for names.Make asked = make_of asked.target
job_for other asked = unbuilt

abbrev pub job_in : Option Asked → Job
job_in None = usage
job_in (Some asked) = job_for asked.job asked

unfoldable pub command_of : List Text → Job
command_of words = job_in (asked_by words)

-- of words as they are handed in
abbrev pub job_of : List (String Global) → Job
job_of words = command_of (map string_bytes words)

-- the command is what is asked for
abbrev pub SaysCommand : Command → Job → Type 0
SaysCommand (Check name redo) asked = check_of name.now (option_map (λ s. s.now) redo) ≡ asked
SaysCommand (Repair name redo plan turns) asked = repair_of name.now redo.now plan turns ≡ asked
SaysCommand (Make name) asked = make_of name.now ≡ asked
SaysCommand Unbuilt asked = unbuilt ≡ asked
SaysCommand Usage asked = usage ≡ asked
