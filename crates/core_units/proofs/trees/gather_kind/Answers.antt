use Rattle.std.proofs.Common.{◌≡◌, Some, subst, sym}
use Rattle.std.specs.Prelude.{IfOk}
use Rattle.std.proofs.lemmas.Result.{IfOk-weaker}
use Rattle.blk_device.specs.declared.device.Region.TheVariants.{Image}
use Rattle.geom.specs.Places.{layout}
use Rattle.group_trees.specs.Heads.{heads_seen}
use Rattle.group_trees.specs.declared.group.GroupTrees.{GroupTrees}
use Rattle.sblock.specs.declared.kind.Kind.{Kind}
use Rattle.sblock.specs.declared.kind.Kind.TheVariants.{Bno, Cnt, Rmap, Refc, Ino, Fino}
use Rattle.core_units.specs.Trees.{AreMade, reading_behind}
use Rattle.core_units.proofs.TreesLemmas.{put_bno, put_cnt, put_rmap, put_refc, put_ino, put_fino}
use Rattle.core_units.proofs.trees.gather_kind.Goals as goal

pub returns-in-Bno-clause-exact : goal.returns-in-Bno-clause-exact
returns-in-Bno-clause-exact g c = λ m e kept firm made.
    let at = layout c.args.geo.now in
    let heads = heads_seen c.args.heads.now in
    let here = subst (λ (k : Kind). AreMade at (m Image) kept heads c.args.g (Some k) c.args.trees.now) c.in-Bno.is made in
    let new : GroupTrees = record c.args.trees.now { bno = c.gather_tree.new.seen } in
    subst (λ (k : Kind). IfOk c.gather_tree.result (λ done. AreMade at (m Image) kept heads c.args.g (reading_behind k done) new)) (sym c.in-Bno.is)
    (IfOk-weaker c.gather_tree.result _ (λ done. AreMade at (m Image) kept heads c.args.g (reading_behind Bno done) new) (λ done t. put_bno at (m Image) kept heads c.args.g c.args.trees.now c.gather_tree.new.seen done here t) (c.gather_tree.ensures.exact m e (kept.bad c.args.g Bno) firm.bno here.bno))

pub returns-in-Cnt-clause-exact : goal.returns-in-Cnt-clause-exact
returns-in-Cnt-clause-exact g c = λ m e kept firm made.
    let at = layout c.args.geo.now in
    let heads = heads_seen c.args.heads.now in
    let here = subst (λ (k : Kind). AreMade at (m Image) kept heads c.args.g (Some k) c.args.trees.now) c.in-Cnt.is made in
    let new : GroupTrees = record c.args.trees.now { cnt = c.gather_tree-in-Cnt.new.seen } in
    subst (λ (k : Kind). IfOk c.gather_tree-in-Cnt.result (λ done. AreMade at (m Image) kept heads c.args.g (reading_behind k done) new)) (sym c.in-Cnt.is)
    (IfOk-weaker c.gather_tree-in-Cnt.result _ (λ done. AreMade at (m Image) kept heads c.args.g (reading_behind Cnt done) new) (λ done t. put_cnt at (m Image) kept heads c.args.g c.args.trees.now c.gather_tree-in-Cnt.new.seen done here t) (c.gather_tree-in-Cnt.ensures.exact m e (kept.bad c.args.g Cnt) firm.cnt here.cnt))

pub returns-in-Rmap-clause-exact : goal.returns-in-Rmap-clause-exact
returns-in-Rmap-clause-exact g c = λ m e kept firm made.
    let at = layout c.args.geo.now in
    let heads = heads_seen c.args.heads.now in
    let here = subst (λ (k : Kind). AreMade at (m Image) kept heads c.args.g (Some k) c.args.trees.now) c.in-Rmap.is made in
    let new : GroupTrees = record c.args.trees.now { rmap = c.gather_tree-in-Rmap.new.seen } in
    subst (λ (k : Kind). IfOk c.gather_tree-in-Rmap.result (λ done. AreMade at (m Image) kept heads c.args.g (reading_behind k done) new)) (sym c.in-Rmap.is)
    (IfOk-weaker c.gather_tree-in-Rmap.result _ (λ done. AreMade at (m Image) kept heads c.args.g (reading_behind Rmap done) new) (λ done t. put_rmap at (m Image) kept heads c.args.g c.args.trees.now c.gather_tree-in-Rmap.new.seen done here t) (c.gather_tree-in-Rmap.ensures.exact m e (kept.bad c.args.g Rmap) firm.rmap here.rmap))

pub returns-in-Refc-clause-exact : goal.returns-in-Refc-clause-exact
returns-in-Refc-clause-exact g c = λ m e kept firm made.
    let at = layout c.args.geo.now in
    let heads = heads_seen c.args.heads.now in
    let here = subst (λ (k : Kind). AreMade at (m Image) kept heads c.args.g (Some k) c.args.trees.now) c.in-Refc.is made in
    let new : GroupTrees = record c.args.trees.now { refc = c.gather_tree-in-Refc.new.seen } in
    subst (λ (k : Kind). IfOk c.gather_tree-in-Refc.result (λ done. AreMade at (m Image) kept heads c.args.g (reading_behind k done) new)) (sym c.in-Refc.is)
    (IfOk-weaker c.gather_tree-in-Refc.result _ (λ done. AreMade at (m Image) kept heads c.args.g (reading_behind Refc done) new) (λ done t. put_refc at (m Image) kept heads c.args.g c.args.trees.now c.gather_tree-in-Refc.new.seen done here t) (c.gather_tree-in-Refc.ensures.exact m e (kept.bad c.args.g Refc) firm.refc here.refc))

pub returns-in-Ino-clause-exact : goal.returns-in-Ino-clause-exact
returns-in-Ino-clause-exact g c = λ m e kept firm made.
    let at = layout c.args.geo.now in
    let heads = heads_seen c.args.heads.now in
    let here = subst (λ (k : Kind). AreMade at (m Image) kept heads c.args.g (Some k) c.args.trees.now) c.in-Ino.is made in
    let new : GroupTrees = record c.args.trees.now { ino = c.gather_tree-in-Ino.new.seen } in
    subst (λ (k : Kind). IfOk c.gather_tree-in-Ino.result (λ done. AreMade at (m Image) kept heads c.args.g (reading_behind k done) new)) (sym c.in-Ino.is)
    (IfOk-weaker c.gather_tree-in-Ino.result _ (λ done. AreMade at (m Image) kept heads c.args.g (reading_behind Ino done) new) (λ done t. put_ino at (m Image) kept heads c.args.g c.args.trees.now c.gather_tree-in-Ino.new.seen done here t) (c.gather_tree-in-Ino.ensures.exact m e (kept.bad c.args.g Ino) firm.ino here.ino))

pub returns-in-Fino-clause-exact : goal.returns-in-Fino-clause-exact
returns-in-Fino-clause-exact g c = λ m e kept firm made.
    let at = layout c.args.geo.now in
    let heads = heads_seen c.args.heads.now in
    let here = subst (λ (k : Kind). AreMade at (m Image) kept heads c.args.g (Some k) c.args.trees.now) c.in-Fino.is made in
    let new : GroupTrees = record c.args.trees.now { fino = c.gather_tree-in-Fino.new.seen } in
    subst (λ (k : Kind). IfOk c.gather_tree-in-Fino.result (λ done. AreMade at (m Image) kept heads c.args.g (reading_behind k done) new)) (sym c.in-Fino.is)
    (IfOk-weaker c.gather_tree-in-Fino.result _ (λ done. AreMade at (m Image) kept heads c.args.g (reading_behind Fino done) new) (λ done t. put_fino at (m Image) kept heads c.args.g c.args.trees.now c.gather_tree-in-Fino.new.seen done here t) (c.gather_tree-in-Fino.ensures.exact m e (kept.bad c.args.g Fino) firm.fino here.fino))

pub returns-in-Bno-clause-sound : goal.returns-in-Bno-clause-sound
returns-in-Bno-clause-sound g c = λ s. record { bno = c.gather_tree.ensures.sound s.bno; cnt = s.cnt; rmap = s.rmap; refc = s.refc; ino = s.ino; fino = s.fino }

pub returns-in-Cnt-clause-sound : goal.returns-in-Cnt-clause-sound
returns-in-Cnt-clause-sound g c = λ s. record { bno = s.bno; cnt = c.gather_tree-in-Cnt.ensures.sound s.cnt; rmap = s.rmap; refc = s.refc; ino = s.ino; fino = s.fino }

pub returns-in-Rmap-clause-sound : goal.returns-in-Rmap-clause-sound
returns-in-Rmap-clause-sound g c = λ s. record { bno = s.bno; cnt = s.cnt; rmap = c.gather_tree-in-Rmap.ensures.sound s.rmap; refc = s.refc; ino = s.ino; fino = s.fino }

pub returns-in-Refc-clause-sound : goal.returns-in-Refc-clause-sound
returns-in-Refc-clause-sound g c = λ s. record { bno = s.bno; cnt = s.cnt; rmap = s.rmap; refc = c.gather_tree-in-Refc.ensures.sound s.refc; ino = s.ino; fino = s.fino }

pub returns-in-Ino-clause-sound : goal.returns-in-Ino-clause-sound
returns-in-Ino-clause-sound g c = λ s. record { bno = s.bno; cnt = s.cnt; rmap = s.rmap; refc = s.refc; ino = c.gather_tree-in-Ino.ensures.sound s.ino; fino = s.fino }

pub returns-in-Fino-clause-sound : goal.returns-in-Fino-clause-sound
returns-in-Fino-clause-sound g c = λ s. record { bno = s.bno; cnt = s.cnt; rmap = s.rmap; refc = s.refc; ino = s.ino; fino = c.gather_tree-in-Fino.ensures.sound s.fino }
