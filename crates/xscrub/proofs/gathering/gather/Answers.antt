use Rattle.std.proofs.Common.{◌≡◌, ◌++◌, ℕ, List, subst, sym}
use Rattle.blk_device.proofs.TakenLemmas.{front_of_more, on_err, then, then_front}
use Rattle.xscrub.specs.Shown.{Gathers}
use Rattle.xscrub.proofs.ShownLemmas.{gathers_front, gathers_front_more, gathers_none, gathers_then}
use Rattle.xscrub.proofs.gathering.gather.Goals as goal

pub returns-in_err-put_gathered-clause-front : goal.returns-in_err-put_gathered-clause-front
returns-in_err-put_gathered-clause-front g c =
    let same : c.keep.new.gathered.items ≡ c.make_room.new.gathered.items = rw c.if-keep.false at c.keep.ensures.items in
    let front = rw same at c.in_err-put_gathered.ensures.front in
    on_err c.from_residual-in_err-put_gathered.result
    (front_of_more c.args.gathered.now.items c.args.line.now _ _
    (gathers_front c.args.gathered.now.items c.make_room.new.gathered.items _ (g.K.Sink.taken c.make_room.new.sink) _ c.in_ok-make_room.ensures.bytes front))

pub returns-in_err-put_all-clause-front : goal.returns-in_err-put_all-clause-front
returns-in_err-put_all-clause-front g c =
    let same : c.keep.new.gathered.items ≡ c.make_room.new.gathered.items = rw c.if-keep.false at c.keep.ensures.items in
    let put = rw same at c.in_ok-put_gathered.ensures.bytes in
    on_err c.from_residual-in_err-put_all.result
    (gathers_front_more c.args.gathered.now.items c.args.line.now c.make_room.new.gathered.items _ (g.K.Sink.taken c.make_room.new.sink) _ c.in_ok-make_room.ensures.bytes
    (then_front c.make_room.new.gathered.items c.args.line.now _ (g.K.Sink.taken c.put_gathered.new.sink) _ put c.in_err-put_all.ensures.front))

pub returns-clause-bytes : goal.returns-clause-bytes
returns-clause-bytes g c =
    let same : c.keep.new.gathered.items ≡ c.make_room.new.gathered.items = rw c.if-keep.false at c.keep.ensures.items in
    let put = rw same at c.in_ok-put_gathered.ensures.bytes in
    let both = then c.make_room.new.gathered.items c.args.line.now (g.K.Sink.taken c.make_room.new.sink) (g.K.Sink.taken c.put_gathered.new.sink) (g.K.Sink.taken c.put_all.new.sink) put c.in_ok-put_all.ensures.bytes in
    subst (λ (l : List ℕ). Gathers (c.args.gathered.now.items ++ c.args.line.now) l (g.K.Sink.taken c.args.sink.now) (g.K.Sink.taken c.put_all.new.sink)) (sym c.in_ok-put_gathered.ensures.empty)
    (gathers_then c.args.gathered.now.items c.args.line.now c.make_room.new.gathered.items _ _ (g.K.Sink.taken c.make_room.new.sink) _ c.in_ok-make_room.ensures.bytes (gathers_none _ _ _ both))
