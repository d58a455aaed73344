use Rattle.std.proofs.Common.{◌≡◌, List, false, subst, sym}
use Rattle.fs_model.specs.declared.entry.Entry.{Entry}
use Rattle.geom.specs.Places.{layout}
use Rattle.sblock.specs.Lists.{Each}
use Rattle.quiet_repair.specs.Sound.{is_good_entry}
use Rattle.std.specs.List.{list_all}
use Rattle.quiet_repair.proofs.AloneLemmas.{each_of_all, none_sound, some_sound}
use Rattle.quiet_repair.proofs.SoundLemmas.{sound_order}
use Rattle.quiet_repair.proofs.sound.sound_journal.Goals as goal

pub returns-then-are_all_good-clause-order : goal.returns-then-are_all_good-clause-order
returns-then-are_all_good-clause-order g c =
    sound_order c.args.geo.now.agcount c.in-Ok.journal c.in-Ok.ensures.session (subst (λ (js : List Entry). Each is_good_entry js) c.as_slice.ensures.value (each_of_all _ (sym c.if-are_all_good.ensures)))

pub returns-then-are_all_good-clause-sound : goal.returns-then-are_all_good-clause-sound
returns-then-are_all_good-clause-sound g c =
    some_sound (g.D.Device.content c.args.dev.now) (layout c.args.geo.now) c.in-Ok.journal c.in-Ok.ensures.exact (subst (λ (js : List Entry). Each is_good_entry js) c.as_slice.ensures.value (each_of_all _ (sym c.if-are_all_good.ensures)))

pub returns-else-are_all_good-clause-sound : goal.returns-else-are_all_good-clause-sound
returns-else-are_all_good-clause-sound g c =
    none_sound (g.D.Device.content c.args.dev.now) (layout c.args.geo.now) c.in-Ok.journal c.in-Ok.ensures.exact (subst (λ (js : List Entry). list_all is_good_entry js ≡ false) c.as_slice.ensures.value (sym c.if-are_all_good.ensures))
