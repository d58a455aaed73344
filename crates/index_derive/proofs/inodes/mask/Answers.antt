use Rattle.std.proofs.Common.{◌<◌, arith, None}
use Rattle.index_derive.proofs.InodeLemmas.{bits_none, fit_so_far, mask_found, mask_none, next_bits, next_some}
use Rattle.index_derive.proofs.inodes.mask.Goals as goal

pub loop-i-init : goal.loop-i-init
loop-i-init c = record { some = λ k d lt. absurd (omega (arith, lt)); bits = bits_none c.args.modes.now }

pub with_bit-free-requires-clause-front : goal.with_bit-free-requires-clause-front
with_bit-free-requires-clause-front c = fit_so_far c.loop-i.i c.loop-i.free c.args.modes.now c.loop-i.invariant.bits

pub returns-in_default : goal.returns-in_default
returns-in_default c = mask_none c.args.modes.now c.loop-i.i None (let w = c.requires in let t = c.loop-i-test.true in omega (arith, w, t)) c.in_default.is

pub loop-i-preserved : goal.loop-i-preserved
loop-i-preserved c =
    let within = (let w = c.requires in let t = c.loop-i-test.true in let lt : c.loop-i.i < 64 = t in lt) in record {
      some = next_some c.args.modes.now c.loop-i.i None c.in-Some.mode (let w = c.requires in omega (arith, w, within)) c.in-Some.is c.loop-i.invariant.some;
      bits = next_bits c.args.modes.now c.loop-i.i None c.in-Some.mode _ _ (let w = c.requires in omega (arith, w, within)) c.in-Some.is c.loop-i.invariant.bits c.with_bit-free.ensures;
    }

pub returns : goal.returns
returns c = mask_found c.args.modes.now c.loop-i.free c.loop-i.i c.requires (let a = c.loop-i-test.false in let b = c.loop-i.auto.i-end in omega (arith, a, b)) c.loop-i.invariant.some c.loop-i.invariant.bits
