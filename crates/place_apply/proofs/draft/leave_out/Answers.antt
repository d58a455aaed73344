use Rattle.std.proofs.Common.{◌≡◌, ℕ, rules, sym, subst}
use Rattle.std.specs.Prelude.{◌==◌, not, filter}
use Rattle.std.proofs.lemmas.Fn.{filter_same}
use Rattle.byte_fields.specs.declared.block.Block.{Block}
use Rattle.place_apply.specs.Drafts.{ArePlacedInside}
use Rattle.place_apply.proofs.DraftLemmas.{left_inside}
use Rattle.place_apply.proofs.draft.leave_out.Goals as goal

pub returns-clause-inside : goal.returns-clause-inside
returns-clause-inside c = λ len all.
    let other = λ (e : ℕ × Block). not (e.0 == c.args.p) in
    let left : c.retain.new.self.items ≡ filter other c.args.draft.now.placed.items = filter_same _ other _ (λ x b f' k. search rules) c.args.draft.now.placed.items c.retain.new.self.items c.retain.ensures.filtered in
    subst (ArePlacedInside len) (sym left) (left_inside len other c.args.draft.now.placed.items all)
