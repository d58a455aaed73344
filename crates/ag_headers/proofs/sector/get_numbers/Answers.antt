use Rattle.std.proofs.Common.{◌≡◌, ◌+◌, ◌-◌, ◌*◌, take, drop, ◌∙◌, arith}
use Rattle.std.proofs.lemmas.List.{length-replicate}
use Rattle.std.proofs.lemmas.List.FromFn.{fill_by_all}
use Rattle.byte_fields.specs.Fields.{field}
use Rattle.ag_headers.specs.Fields.{numbers_in}
use Rattle.ag_headers.proofs.sector.get_numbers.Goals as goal

pub returns : goal.returns
unfolding numbers_in
returns g c =
    let wide : (c.args.at + 4 * g.row.N) - c.args.at ≡ 4 * g.row.N = omega arith in
    let source = take (4 * g.row.N) (drop c.args.at c.args.bytes.now) in
    let whole = c.read_u32_into.auto.dst ∙ length-replicate g.row.N 0 in
    fill_by_all (λ i. field 4 source (4 * i)) c.read_u32_into.new.dst g.row.N 0 whole (λ k below. rw wide at (c.read_u32_into.ensures k (omega arith)))
