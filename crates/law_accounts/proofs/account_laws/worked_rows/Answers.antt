use Rattle.law_accounts.proofs.account_laws.worked_rows.Goals as goal
use Rattle.byte_fields.specs.Below.{all_below}
use Rattle.derive_defs.specs.ByCount.{ordered_by_count}
use Rattle.fs_change.specs.Chains.{is_quiet, pending}
use Rattle.fs_change.specs.Changes.{freed, intent, ref_done, rmap_done, shared, unmapped}
use Rattle.fs_change.specs.Choice.{is_guarded}
use Rattle.fs_change.specs.Records.{add_mapping, count_at, give_mapping, give_span, set_count, stretch, take_mapping, take_piece, take_span}
use Rattle.fs_state.specs.Apart.{block_verifies, has_unit, ino_lists, is_chunk, is_inode, is_listed, rmap_lists, unit_verifies}
use Rattle.fs_state.specs.declared.intent.IntentKind.TheVariants.{RmapAdd, RmapRemove, RefMore, RefLess, Free}
use Rattle.geom.specs.Numbers.{split}
use Rattle.rmap_recs.specs.Rmap.{is_key_before, is_shareable}
use Rattle.rmap_recs.specs.Words.{is_fork_data, key_word, word_goes_on}
use Rattle.run_edits.specs.Edits.{put_rec}
use Rattle.span_recs.specs.Spans.{is_before_by_count}
use Rattle.std.proofs.Common.{refl, arith, [], ◌∷◌}
use Rattle.law_accounts.specs.Account.Rows.{run}

pub returns : goal.returns
unfolding all_below ordered_by_count is_quiet pending freed ref_done rmap_done shared unmapped is_guarded add_mapping count_at give_mapping give_span set_count stretch take_mapping take_piece take_span block_verifies has_unit ino_lists is_chunk is_inode is_listed rmap_lists unit_verifies split is_key_before is_shareable is_fork_data key_word word_goes_on put_rec is_before_by_count
returns c = record {
  holds = record {
    first = (
      record {
        some = omega arith;
        most = omega arith;
        from_first = record { file = record { inode = refl; allocated = refl; readable = refl }; open_chain = omega arith; owes_nothing = refl; none_pending = refl };
        to_first = record { file = record { inode = refl; allocated = refl; readable = refl }; open_chain = omega arith; owes_nothing = refl; none_pending = refl };
        sound = refl;
        below = refl;
        piece = refl;
        written = refl;
        unmapped = refl;
      },
      refl,
    );
    second = (
      record {
        some = omega arith;
        most = omega arith;
        first = record { file = record { inode = refl; allocated = refl; readable = refl }; open_chain = omega arith; owes_nothing = refl; none_pending = refl };
        sound = refl;
        piece = refl;
      },
      refl,
    );
    third = (intent RmapRemove 64 0 run, intent RefLess 0 0 run ∷ [], record { next = refl; group = refl; block = refl; some = omega arith; count = omega arith }, refl, refl, refl, refl);
    fourth = (intent RefLess 0 0 run, [], record { next = refl; group = refl; block = refl; some = omega arith; count = omega arith }, refl, refl, refl);
    fifth = (intent Free 0 0 run, [], record { next = refl; group = refl; block = refl; some = omega arith; count = omega arith }, refl, refl, refl, refl);
    sixth = (intent RmapAdd 65 0 run, intent RefMore 0 0 run ∷ [], record { next = refl; group = refl; block = refl; some = omega arith; count = omega arith }, refl, refl, refl, refl);
    seventh = (intent RefMore 0 0 run, [], record { next = refl; group = refl; block = refl; some = omega arith; count = omega arith }, refl, refl, refl);
    counted = refl;
    owned_once = refl;
    quiet = refl;
    free = refl;
  };
  joins = refl;
}
