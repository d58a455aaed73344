-- Words that ask for a job in which writers run ask the quiet top call for nothing that it has built.
use Rattle.std.specs.Prelude.{◌≡◌, ⊤}
use Rattle.live_jobs.specs.declared.words.LiveCommand.{LiveCommand}
use Rattle.live_jobs.specs.declared.words.LiveCommand.TheVariants as commands
use Rattle.xscrub.specs.Command.{Job, unbuilt}

abbrev pub IsFor : LiveCommand → Job → Type 0
IsFor (commands.Run names plan turns) job = job ≡ unbuilt
IsFor (commands.Drill number) job = job ≡ unbuilt
IsFor commands.Other job = ⊤
