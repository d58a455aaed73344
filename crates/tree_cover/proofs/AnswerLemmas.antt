-- What the search of a readable tree answers, beside the definition of the search.
use Rattle.std.proofs.Common.{◌≡◌, ℕ, ◌^◌, ◌<◌, List, Option, Some, None, Result, Ok, refl, sym, ap}
use Rattle.std.specs.Prelude.{IfSome}
use Rattle.run_sets.specs.declared.run.Run.{Run}
use Rattle.blk_device.specs.Contents.{Contents}
use Rattle.blk_device.specs.declared.device.Region.TheVariants.{Image}
use Rattle.sblock.specs.Form.{Form, IsLawful}
use Rattle.tree_defs.specs.Sites.{group_blocks}
use Rattle.tree_defs.specs.declared.site.Site.{Site}
use Rattle.tree_blocks.specs.declared.tree.WalkFault.{WalkFault}
use Rattle.tree_cover.specs.Answers.{AnswersReadable}
use Rattle.tree_cover.specs.Covers.{CoversBlocks, first_met}
use Rattle.tree_cover.specs.Covering.{covering_in}
use Rattle.tree_cover.specs.Found.{MeetsSearch}
use Rattle.tree_cover.proofs.ExactLemmas.{searches_trees_lem}
use Rattle.tree_cover.proofs.LookLemmas.{looks_at_all_lem}
use Rattle.tree_cover.proofs.SearchLemmas.{meets_same}

module _ {R K : Type 0} (form : Form R K) (law : IsLawful form) (covers : CoversBlocks form) (site : Site) (short : site.bounds.length < 2 ^ 32) (run : Run) (after : Option K) (root levels : ℕ) (result : Result (Option R) WalkFault) where
  answers : (m : ℕ → List ℕ) → MeetsSearch (covering_in form site m run after root levels) result → AnswersReadable form site m run after root levels result
  answers m h = λ recs blocks read.
      let e = searches_trees_lem form law covers site m run after root levels recs blocks short read in
      let first = meets_same (Ok (first_met form run after recs)) (covering_in form site m run after root levels) result (sym e) h in
      record {
        looked_at = first;
        first = λ all. meets_same _ (Ok (first_met form run after recs)) result (ap (λ (v : Option R). Ok v) (sym (looks_at_all_lem form run after recs all))) first;
      }

  pub all_answers : (told : Option Contents) → ((c : Contents) → told ≡ Some c → MeetsSearch (covering_in form site (group_blocks site (c Image)) run after root levels) result) → IfSome told (λ c. AnswersReadable form site (group_blocks site (c Image)) run after root levels result)
  all_answers None h = tt
  all_answers (Some c) h = answers (group_blocks site (c Image)) (h c refl)
