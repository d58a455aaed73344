-- A word in front of a record's numbers.
use Rattle.std.proofs.Common.{◌≡◌, ℕ, List, ◌∷◌, ◌++◌, refl}
use Rattle.fs_model.specs.declared.record.AnyRec.{AnyRec}
use Rattle.fs_model.specs.declared.record.AnyRec.TheVariants as recs
use Rattle.run_text.specs.Lines.{line_from}
use Rattle.run_text.specs.Report.{rec_words}

pub in_front : (word : List ℕ) (rec : AnyRec) → line_from (word ∷ rec_words rec) ≡ word ++ (32 ∷ line_from (rec_words rec))
in_front word (recs.Bno rec) = refl
in_front word (recs.Cnt rec) = refl
in_front word (recs.Rmap rec) = refl
in_front word (recs.Refc rec) = refl
in_front word (recs.Ino rec) = refl
in_front word (recs.Fino rec) = refl
