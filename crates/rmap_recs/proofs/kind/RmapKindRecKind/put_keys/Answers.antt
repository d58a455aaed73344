use Rattle.std.proofs.Common.{◌≡◌, ℕ, ◌+◌, ◌*◌, List, length, ◌∙◌, ap, arith}
use Rattle.sblock.specs.Area.{child_of}
use Rattle.sblock.specs.declared.kind.Kind.TheVariants.{Rmap}
use Rattle.rmap_recs.specs.Rmap.{key_in, with_key, with_keys, low_key_at, high_key_at}
use Rattle.rmap_recs.specs.declared.records.Key.{Key}
use Rattle.rmap_recs.proofs.KeyLemmas.{read_same, low_stays, low_others, high_others, pointers_stay}
use Rattle.rmap_recs.proofs.kind.RmapKindRecKind.put_keys.Goals as goal

both : (area mid new : List ℕ) (i : ℕ) (low high : Key) → mid ≡ with_key area (40 * i) low → new ≡ with_key mid (40 * i + 20) high → new ≡ with_keys area i low high
both area mid new i low high first second = second ∙ ap (λ (a : List ℕ). with_key a (40 * i + 20) high) first

pub returns-clause-taken : goal.returns-clause-taken
returns-clause-taken c =
    let mid = c.put_key.new.area in
    let whole : length mid ≡ 4040 = omega (arith, c.put_key.auto.area, c.requires.whole) in
    read_same _ c.args.low.now
    (ap (λ (a : List ℕ). key_in a (40 * c.args.i)) c.put_key-2.ensures.written
    ∙ low_stays mid c.args.i c.args.high.now whole c.requires.room
    ∙ c.put_key.ensures.taken)

pub returns-clause-high_taken : goal.returns-clause-high_taken
returns-clause-high_taken c = λ here. read_same _ c.args.high.now c.put_key-2.ensures.taken

pub returns-clause-others : goal.returns-clause-others
returns-clause-others c =
    let area = c.args.area.now in
    let e = both area c.put_key.new.area c.put_key-2.new.area c.args.i c.args.low.now c.args.high.now c.put_key.ensures.written c.put_key-2.ensures.written in
    λ j room other. ap (λ (a : List ℕ). low_key_at a j) e ∙ low_others area c.args.i c.args.low.now c.args.high.now c.requires.whole c.requires.room j other

pub returns-clause-high_others : goal.returns-clause-high_others
returns-clause-high_others c =
    let area = c.args.area.now in
    let e = both area c.put_key.new.area c.put_key-2.new.area c.args.i c.args.low.now c.args.high.now c.put_key.ensures.written c.put_key-2.ensures.written in
    λ j room other. ap (λ (a : List ℕ). high_key_at a j) e ∙ high_others area c.args.i c.args.low.now c.args.high.now c.requires.whole c.requires.room j other

pub returns-clause-pointers : goal.returns-clause-pointers
returns-clause-pointers c =
    let area = c.args.area.now in
    let e = both area c.put_key.new.area c.put_key-2.new.area c.args.i c.args.low.now c.args.high.now c.put_key.ensures.written c.put_key-2.ensures.written in
    λ j room. ap (λ (a : List ℕ). child_of Rmap a j) e ∙ pointers_stay area c.args.i c.args.low.now c.args.high.now c.requires.whole c.requires.room j
