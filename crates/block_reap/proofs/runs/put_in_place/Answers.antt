use Rattle.std.proofs.Common.{◌≡◌, ◌++◌, ◌∷◌, Bool, if◌then◌else◌, ℕ, take, drop, ap, ◌∙◌}
use Rattle.block_reap.specs.Limbo.{place_in}
use Rattle.block_reap.proofs.PutLemmas.{put_at}
use Rattle.block_reap.proofs.runs.put_in_place.Goals as goal

pub returns-clause-items : goal.returns-clause-items
returns-clause-items c =
    let xs = c.args.runs.now.items in
    let m = c.args.run in
    let e : c.place_of-place.result ≡ place_in m xs = c.place_of-place.ensures.value ∙ ap (place_in m) c.deref.ensures.value in
    c.insert.ensures.items
    ∙ ap (λ (b : Bool). if b then take c.place_of-place.result xs ++ m ∷ drop c.place_of-place.result xs else xs) (c.insert.ensures.succeeds c.requires)
    ∙ ap (λ (n : ℕ). take n xs ++ m ∷ drop n xs) e
    ∙ put_at m xs
