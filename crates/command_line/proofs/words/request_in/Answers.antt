use Rattle.std.proofs.Common.{codes, ◌∙◌, ap}
use Rattle.clap.specs.Words.{found_of}
use Rattle.clap.proofs.WalkLemmas.{first_value-rows}
use Rattle.command_line.specs.Requests.{asked_of, is_text}
use Rattle.command_line.proofs.words.request_in.Goals as goal

-- the command's own readers give the first value of each row
pub returns : goal.returns
returns c =
    let found = found_of c.args.matches.now in
    let job = c.get_str.ensures ∙ first_value-rows found (codes "job") in
    let target = c.get_str-2.ensures ∙ first_value-rows found (codes "target") in
    let redo = c.get_str-3.ensures ∙ first_value-rows found (codes "redo") in
    let script = c.get_str-4.ensures ∙ first_value-rows found (codes "script") in
    let rebuild = c.is_word.ensures ∙ ap (λ t. is_text t (codes "true")) (c.get_str-5.ensures ∙ first_value-rows found (codes "rebuild")) in
    let turns = c.get_str-6.ensures ∙ first_value-rows found (codes "turns") in
    c.fitting.ensures ∙ (λ i. asked_of (job i) (target i) (redo i) (script i) (rebuild i) (turns i))
