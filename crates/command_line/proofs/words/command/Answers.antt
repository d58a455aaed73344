use Rattle.std.proofs.Common.{ap, ap₂, codes, true, ◌≡◌, ◌∙◌}
use Rattle.std.proofs.lemmas.Result.{IfOk-weaker}
use Rattle.clap.specs.Words.{App, app_of, new_app, with_rule}
use Rattle.clap.specs.Simple.{app_of_fields, on_top}
use Rattle.command_line.proofs.words.command.Goals as goal

abbrev without_program : App → App
without_program = on_top (λ s. record s { no_binary_name = true })

-- each argument that is added is a rule more
pub returns : goal.returns
returns c =
    let none : app_of c.no_binary_name.result ≡ without_program (new_app (codes "xscrub")) = ap app_of_fields c.no_binary_name.ensures ∙ ap without_program c.new.ensures.app in
    let one = c.in_ok-arg.ensures.shape c.positional.ensures.local ∙ ap₂ with_rule none c.positional.ensures.rule in
    let two = c.in_ok-arg-2.ensures.shape c.positional-2.ensures.local ∙ ap₂ with_rule one c.positional-2.ensures.rule in
    let three = c.in_ok-arg-3.ensures.shape c.option.ensures.local ∙ ap₂ with_rule two c.option.ensures.rule in
    let four = c.in_ok-arg-4.ensures.shape c.option-2.ensures.local ∙ ap₂ with_rule three c.option-2.ensures.rule in
    let five = c.in_ok-arg-5.ensures.shape c.option-3.ensures.local ∙ ap₂ with_rule four c.option-3.ensures.rule in
    IfOk-weaker c.arg-6.result _ _ (λ r adds. adds.shape c.flag.ensures.local ∙ ap₂ with_rule five c.flag.ensures.rule) c.arg-6.ensures
