use Rattle.std.proofs.Common.{refl, ap, ◌∙◌}
use Rattle.std.specs.Option.{option_or}
use Rattle.free_space.specs.Choice.{lower_by}
use Rattle.free_space.proofs.ChoiceLemmas.{stands_for_more}
use Rattle.free_space.proofs.choice.Search.look.Goals as goal

pub returns : goal.returns
returns c = λ wanted gs h. stands_for_more wanted gs c.args.space.now c.args.self.now _ (record {
  wants = refl;
  fit = c.or-self.ensures ∙ ap (λ o. option_or c.args.self.now.fit o) c.fit_of-fit.ensures;
  last = c.or-self-2.ensures ∙ ap (λ o. option_or c.args.self.now.last o) c.last_of-last.ensures;
  closed = c.lower-self.ensures ∙ ap (λ o. lower_by (λ g. g) c.args.self.now.closed o) c.closed_of.ensures;
  sick = c.lower_sick-self.ensures ∙ ap (λ o. lower_by (λ s. s.group) c.args.self.now.sick o) c.sick_of.ensures;
  large = c.is_large_met-self.ensures;
}) h
