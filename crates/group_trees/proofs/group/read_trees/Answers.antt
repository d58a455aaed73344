use Rattle.std.proofs.Common.{◌∙◌, sym, arith}
use Rattle.blk_device.specs.ReadingLaws.{read_on}
use Rattle.blk_device.specs.declared.device.Region.TheVariants.{Image}
use Rattle.geom.specs.Places.{layout}
use Rattle.group_trees.specs.Counted.{trees_most}
use Rattle.group_trees.proofs.StateLemmas.{bno_said, cnt_said, fino_said, ino_said, refc_said, rmap_said}
use Rattle.group_trees.proofs.group.read_trees.Goals as goal

pub returns-in_err-cnt-clause-reading : goal.returns-in_err-cnt-clause-reading
returns-in_err-cnt-clause-reading g c =
    let r1 = c.in_ok-bno.ensures.reading in
    read_on g.D.Device g.met.D.Device.only_now g.met.D.Device.counts_now c.args.dev.now c.read_kind.new.dev c.read_kind-2.new.dev c.args.steps.now c.read_kind.new.steps c.read_kind-2.new.steps r1 c.in_err-cnt.ensures.reading

pub returns-in_err-rmap-clause-reading : goal.returns-in_err-rmap-clause-reading
returns-in_err-rmap-clause-reading g c =
    let r1 = c.in_ok-bno.ensures.reading in
    let r2 = read_on g.D.Device g.met.D.Device.only_now g.met.D.Device.counts_now c.args.dev.now c.read_kind.new.dev c.read_kind-2.new.dev c.args.steps.now c.read_kind.new.steps c.read_kind-2.new.steps r1 c.in_ok-cnt.ensures.reading in
    read_on g.D.Device g.met.D.Device.only_now g.met.D.Device.counts_now c.args.dev.now c.read_kind-2.new.dev c.read_kind-3.new.dev c.args.steps.now c.read_kind-2.new.steps c.read_kind-3.new.steps r2 c.in_err-rmap.ensures.reading

pub returns-in_err-refc-clause-reading : goal.returns-in_err-refc-clause-reading
returns-in_err-refc-clause-reading g c =
    let r1 = c.in_ok-bno.ensures.reading in
    let r2 = read_on g.D.Device g.met.D.Device.only_now g.met.D.Device.counts_now c.args.dev.now c.read_kind.new.dev c.read_kind-2.new.dev c.args.steps.now c.read_kind.new.steps c.read_kind-2.new.steps r1 c.in_ok-cnt.ensures.reading in
    let r3 = read_on g.D.Device g.met.D.Device.only_now g.met.D.Device.counts_now c.args.dev.now c.read_kind-2.new.dev c.read_kind-3.new.dev c.args.steps.now c.read_kind-2.new.steps c.read_kind-3.new.steps r2 c.in_ok-rmap.ensures.reading in
    read_on g.D.Device g.met.D.Device.only_now g.met.D.Device.counts_now c.args.dev.now c.read_kind-3.new.dev c.read_kind-4.new.dev c.args.steps.now c.read_kind-3.new.steps c.read_kind-4.new.steps r3 c.in_err-refc.ensures.reading

pub returns-in_err-ino-clause-reading : goal.returns-in_err-ino-clause-reading
returns-in_err-ino-clause-reading g c =
    let r1 = c.in_ok-bno.ensures.reading in
    let r2 = read_on g.D.Device g.met.D.Device.only_now g.met.D.Device.counts_now c.args.dev.now c.read_kind.new.dev c.read_kind-2.new.dev c.args.steps.now c.read_kind.new.steps c.read_kind-2.new.steps r1 c.in_ok-cnt.ensures.reading in
    let r3 = read_on g.D.Device g.met.D.Device.only_now g.met.D.Device.counts_now c.args.dev.now c.read_kind-2.new.dev c.read_kind-3.new.dev c.args.steps.now c.read_kind-2.new.steps c.read_kind-3.new.steps r2 c.in_ok-rmap.ensures.reading in
    let r4 = read_on g.D.Device g.met.D.Device.only_now g.met.D.Device.counts_now c.args.dev.now c.read_kind-3.new.dev c.read_kind-4.new.dev c.args.steps.now c.read_kind-3.new.steps c.read_kind-4.new.steps r3 c.in_ok-refc.ensures.reading in
    read_on g.D.Device g.met.D.Device.only_now g.met.D.Device.counts_now c.args.dev.now c.read_kind-4.new.dev c.read_kind-5.new.dev c.args.steps.now c.read_kind-4.new.steps c.read_kind-5.new.steps r4 c.in_err-ino.ensures.reading

pub returns-in_err-fino-clause-reading : goal.returns-in_err-fino-clause-reading
returns-in_err-fino-clause-reading g c =
    let r1 = c.in_ok-bno.ensures.reading in
    let r2 = read_on g.D.Device g.met.D.Device.only_now g.met.D.Device.counts_now c.args.dev.now c.read_kind.new.dev c.read_kind-2.new.dev c.args.steps.now c.read_kind.new.steps c.read_kind-2.new.steps r1 c.in_ok-cnt.ensures.reading in
    let r3 = read_on g.D.Device g.met.D.Device.only_now g.met.D.Device.counts_now c.args.dev.now c.read_kind-2.new.dev c.read_kind-3.new.dev c.args.steps.now c.read_kind-2.new.steps c.read_kind-3.new.steps r2 c.in_ok-rmap.ensures.reading in
    let r4 = read_on g.D.Device g.met.D.Device.only_now g.met.D.Device.counts_now c.args.dev.now c.read_kind-3.new.dev c.read_kind-4.new.dev c.args.steps.now c.read_kind-3.new.steps c.read_kind-4.new.steps r3 c.in_ok-refc.ensures.reading in
    let r5 = read_on g.D.Device g.met.D.Device.only_now g.met.D.Device.counts_now c.args.dev.now c.read_kind-4.new.dev c.read_kind-5.new.dev c.args.steps.now c.read_kind-4.new.steps c.read_kind-5.new.steps r4 c.in_ok-ino.ensures.reading in
    read_on g.D.Device g.met.D.Device.only_now g.met.D.Device.counts_now c.args.dev.now c.read_kind-5.new.dev c.read_kind-6.new.dev c.args.steps.now c.read_kind-5.new.steps c.read_kind-6.new.steps r5 c.in_err-fino.ensures.reading

pub returns-clause-reading : goal.returns-clause-reading
returns-clause-reading g c =
    let r1 = c.in_ok-bno.ensures.reading in
    let r2 = read_on g.D.Device g.met.D.Device.only_now g.met.D.Device.counts_now c.args.dev.now c.read_kind.new.dev c.read_kind-2.new.dev c.args.steps.now c.read_kind.new.steps c.read_kind-2.new.steps r1 c.in_ok-cnt.ensures.reading in
    let r3 = read_on g.D.Device g.met.D.Device.only_now g.met.D.Device.counts_now c.args.dev.now c.read_kind-2.new.dev c.read_kind-3.new.dev c.args.steps.now c.read_kind-2.new.steps c.read_kind-3.new.steps r2 c.in_ok-rmap.ensures.reading in
    let r4 = read_on g.D.Device g.met.D.Device.only_now g.met.D.Device.counts_now c.args.dev.now c.read_kind-3.new.dev c.read_kind-4.new.dev c.args.steps.now c.read_kind-3.new.steps c.read_kind-4.new.steps r3 c.in_ok-refc.ensures.reading in
    let r5 = read_on g.D.Device g.met.D.Device.only_now g.met.D.Device.counts_now c.args.dev.now c.read_kind-4.new.dev c.read_kind-5.new.dev c.args.steps.now c.read_kind-4.new.steps c.read_kind-5.new.steps r4 c.in_ok-ino.ensures.reading in
    read_on g.D.Device g.met.D.Device.only_now g.met.D.Device.counts_now c.args.dev.now c.read_kind-5.new.dev c.read_kind-6.new.dev c.args.steps.now c.read_kind-5.new.steps c.read_kind-6.new.steps r5 c.in_ok-fino.ensures.reading

pub returns-clause-exact : goal.returns-clause-exact
returns-clause-exact g c = λ m e.
    let r1 = c.in_ok-bno.ensures.reading in
    let r2 = read_on g.D.Device g.met.D.Device.only_now g.met.D.Device.counts_now c.args.dev.now c.read_kind.new.dev c.read_kind-2.new.dev c.args.steps.now c.read_kind.new.steps c.read_kind-2.new.steps r1 c.in_ok-cnt.ensures.reading in
    let r3 = read_on g.D.Device g.met.D.Device.only_now g.met.D.Device.counts_now c.args.dev.now c.read_kind-2.new.dev c.read_kind-3.new.dev c.args.steps.now c.read_kind-2.new.steps c.read_kind-3.new.steps r2 c.in_ok-rmap.ensures.reading in
    let r4 = read_on g.D.Device g.met.D.Device.only_now g.met.D.Device.counts_now c.args.dev.now c.read_kind-3.new.dev c.read_kind-4.new.dev c.args.steps.now c.read_kind-3.new.steps c.read_kind-4.new.steps r3 c.in_ok-refc.ensures.reading in
    let r5 = read_on g.D.Device g.met.D.Device.only_now g.met.D.Device.counts_now c.args.dev.now c.read_kind-4.new.dev c.read_kind-5.new.dev c.args.steps.now c.read_kind-4.new.steps c.read_kind-5.new.steps r4 c.in_ok-ino.ensures.reading in
    record {
      bno = bno_said (layout c.args.geo.now) (m Image) c.args.g ∙ sym (c.in_ok-bno.ensures.exact m e);
      cnt = cnt_said (layout c.args.geo.now) (m Image) c.args.g ∙ sym (c.in_ok-cnt.ensures.exact m (r1.same ∙ e));
      rmap = rmap_said (layout c.args.geo.now) (m Image) c.args.g ∙ sym (c.in_ok-rmap.ensures.exact m (r2.same ∙ e));
      refc = refc_said (layout c.args.geo.now) (m Image) c.args.g ∙ sym (c.in_ok-refc.ensures.exact m (r3.same ∙ e));
      ino = ino_said (layout c.args.geo.now) (m Image) c.args.g ∙ sym (c.in_ok-ino.ensures.exact m (r4.same ∙ e));
      fino = fino_said (layout c.args.geo.now) (m Image) c.args.g ∙ sym (c.in_ok-fino.ensures.exact m (r5.same ∙ e));
      few_rmap = c.in_ok-rmap.ensures.few m (r2.same ∙ e);
      few_ino = c.in_ok-ino.ensures.few m (r4.same ∙ e);
      few_fino = c.in_ok-fino.ensures.few m (r5.same ∙ e);
    }

pub returns-in_err-bno-clause-counted : goal.returns-in_err-bno-clause-counted
unfolding trees_most
returns-in_err-bno-clause-counted g c = λ m e.
    let k1 = c.in_err-bno.ensures.counted m e in
    omega (arith, k1)

pub returns-in_err-cnt-clause-counted : goal.returns-in_err-cnt-clause-counted
unfolding trees_most
returns-in_err-cnt-clause-counted g c = λ m e.
    let k1 = c.in_ok-bno.ensures.counted m e in
    let e1 = c.in_ok-bno.ensures.reading.same ∙ e in
    let k2 = c.in_err-cnt.ensures.counted m e1 in
    omega (arith, k1, k2)

pub returns-in_err-rmap-clause-counted : goal.returns-in_err-rmap-clause-counted
unfolding trees_most
returns-in_err-rmap-clause-counted g c = λ m e.
    let k1 = c.in_ok-bno.ensures.counted m e in
    let e1 = c.in_ok-bno.ensures.reading.same ∙ e in
    let k2 = c.in_ok-cnt.ensures.counted m e1 in
    let e2 = c.in_ok-cnt.ensures.reading.same ∙ e1 in
    let k3 = c.in_err-rmap.ensures.counted m e2 in
    omega (arith, k1, k2, k3)

pub returns-in_err-refc-clause-counted : goal.returns-in_err-refc-clause-counted
unfolding trees_most
returns-in_err-refc-clause-counted g c = λ m e.
    let k1 = c.in_ok-bno.ensures.counted m e in
    let e1 = c.in_ok-bno.ensures.reading.same ∙ e in
    let k2 = c.in_ok-cnt.ensures.counted m e1 in
    let e2 = c.in_ok-cnt.ensures.reading.same ∙ e1 in
    let k3 = c.in_ok-rmap.ensures.counted m e2 in
    let e3 = c.in_ok-rmap.ensures.reading.same ∙ e2 in
    let k4 = c.in_err-refc.ensures.counted m e3 in
    omega (arith, k1, k2, k3, k4)

pub returns-in_err-ino-clause-counted : goal.returns-in_err-ino-clause-counted
unfolding trees_most
returns-in_err-ino-clause-counted g c = λ m e.
    let k1 = c.in_ok-bno.ensures.counted m e in
    let e1 = c.in_ok-bno.ensures.reading.same ∙ e in
    let k2 = c.in_ok-cnt.ensures.counted m e1 in
    let e2 = c.in_ok-cnt.ensures.reading.same ∙ e1 in
    let k3 = c.in_ok-rmap.ensures.counted m e2 in
    let e3 = c.in_ok-rmap.ensures.reading.same ∙ e2 in
    let k4 = c.in_ok-refc.ensures.counted m e3 in
    let e4 = c.in_ok-refc.ensures.reading.same ∙ e3 in
    let k5 = c.in_err-ino.ensures.counted m e4 in
    omega (arith, k1, k2, k3, k4, k5)

pub returns-in_err-fino-clause-counted : goal.returns-in_err-fino-clause-counted
unfolding trees_most
returns-in_err-fino-clause-counted g c = λ m e.
    let k1 = c.in_ok-bno.ensures.counted m e in
    let e1 = c.in_ok-bno.ensures.reading.same ∙ e in
    let k2 = c.in_ok-cnt.ensures.counted m e1 in
    let e2 = c.in_ok-cnt.ensures.reading.same ∙ e1 in
    let k3 = c.in_ok-rmap.ensures.counted m e2 in
    let e3 = c.in_ok-rmap.ensures.reading.same ∙ e2 in
    let k4 = c.in_ok-refc.ensures.counted m e3 in
    let e4 = c.in_ok-refc.ensures.reading.same ∙ e3 in
    let k5 = c.in_ok-ino.ensures.counted m e4 in
    let e5 = c.in_ok-ino.ensures.reading.same ∙ e4 in
    let k6 = c.in_err-fino.ensures.counted m e5 in
    omega (arith, k1, k2, k3, k4, k5, k6)

pub returns-clause-counted : goal.returns-clause-counted
unfolding trees_most
returns-clause-counted g c = λ m e.
    let k1 = c.in_ok-bno.ensures.counted m e in
    let e1 = c.in_ok-bno.ensures.reading.same ∙ e in
    let k2 = c.in_ok-cnt.ensures.counted m e1 in
    let e2 = c.in_ok-cnt.ensures.reading.same ∙ e1 in
    let k3 = c.in_ok-rmap.ensures.counted m e2 in
    let e3 = c.in_ok-rmap.ensures.reading.same ∙ e2 in
    let k4 = c.in_ok-refc.ensures.counted m e3 in
    let e4 = c.in_ok-refc.ensures.reading.same ∙ e3 in
    let k5 = c.in_ok-ino.ensures.counted m e4 in
    let e5 = c.in_ok-ino.ensures.reading.same ∙ e4 in
    let k6 = c.in_ok-fino.ensures.counted m e5 in
    omega (arith, k1, k2, k3, k4, k5, k6)
