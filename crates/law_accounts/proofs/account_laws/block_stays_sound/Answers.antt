use Rattle.law_accounts.proofs.Account.Blocks.{becomes_written, block_trimmed, count_falls, count_rises, free_one, last_one, piece_goes, piece_shared, record_comes, record_goes, run_listed, run_taken, settled_is_derived}
use Rattle.law_accounts.proofs.account_laws.block_stays_sound.Goals as goal

pub returns-clause-entries : goal.returns-clause-entries
returns-clause-entries c = record {
  last_one = last_one;
  free_one = free_one;
  count_falls = λ l n k h. count_falls l h n k;
  count_rises = λ l n h. count_rises l h n;
  record_comes = λ l n h. record_comes l h n;
  record_goes = λ l n k h. record_goes l h n k;
  piece_goes = λ l n m h. piece_goes l h n m;
  piece_shared = piece_shared;
  run_taken = λ l n h. run_taken l h n;
  becomes_written = λ l n h. becomes_written l h n;
  block_trimmed = λ l n k h. block_trimmed l h n k;
  run_listed = λ l n h. run_listed l h n;
}

pub returns-clause-settled : goal.returns-clause-settled
returns-clause-settled c = settled_is_derived
