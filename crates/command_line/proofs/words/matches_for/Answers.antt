use Rattle.std.proofs.Common.{map, string_bytes, Option, subst, sym, ◌∙◌}
use Rattle.std.proofs.lemmas.Result.{IfOk-weaker}
use Rattle.clap.specs.declared.parser.matches.ArgMatches.{ArgMatches}
use Rattle.command_line.specs.Requests.{IsParse}
use Rattle.command_line.proofs.ParseLemmas.{app_is_free, app_is_plain, granted, matched, refused_by}
use Rattle.command_line.proofs.words.matches_for.Goals as goal

pub returns-in-Ok : goal.returns-in-Ok
returns-in-Ok c =
    let is = c.in_ok-command.ensures in
    let words = map string_bytes c.args.words.now in
    (granted _ words is (c.in-Ok.ensures.kinds (app_is_free _ is)), matched _ words _ is (c.in-Ok.ensures.matches (app_is_plain _ is)).0)

pub returns-in-Err : goal.returns-in-Err
returns-in-Err c =
    let is = c.in_ok-command.ensures in
    let words = map string_bytes c.args.words.now in
    IfOk-weaker c.refusal_of.result _ _ (λ found h. subst (λ (o : Option ArgMatches). IsParse words o) (sym h.0) (refused_by _ words is c.in-Err.fault (c.in-Err.ensures.kinds (app_is_free _ is)) (λ e. h.1 (c.kind.ensures ∙ e)))) c.refusal_of.ensures
