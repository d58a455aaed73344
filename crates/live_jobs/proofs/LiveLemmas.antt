-- What becomes of a host whose script was read first.
use Rattle.std.proofs.Common.{◌≡◌, ℕ, List, Option, inl, refl, sym, ◌∙◌, subst}
use Rattle.blk_device.specs.declared.device.Device.{Ghosts}
use Rattle.image_hosts.specs.Stored.{Loan, Stored}
use Rattle.xscrub.specs.Ending.{AllStay}
use Rattle.live_jobs.specs.Runs.{IsLiveBy, NotRun}
use Rattle.live_jobs.specs.declared.ending.LiveFinding.{LiveFinding}
use Rattle.live_jobs.specs.declared.ending.LiveFinding.TheVariants as lives

module _ {D : Type 0} (g : Ghosts D) (name redo : List ℕ) where
  -- nothing was handed out where nothing was run
  pub not_run : (stored redos stored' redos' : List ℕ → Option Stored) (loans loans' : Option (List (Loan D))) (finding : LiveFinding) → NotRun finding → loans' ≡ loans → ((n : List ℕ) → stored' n ≡ stored n) → ((n : List ℕ) → redos' n ≡ redos n)
      → IsLiveBy g name redo stored redos stored' redos' loans loans' finding
  not_run stored redos stored' redos' loans loans' (lives.Found finding) none same images files = inl (none, same, record { images = images; redo_files = files })
  not_run stored redos stored' redos' loans loans' (lives.ScriptWrong line) none same images files = (same, record { images = images; redo_files = files })
  not_run stored redos stored' redos' loans loans' lives.ScriptFailed none same images files = (same, record { images = images; redo_files = files })

  -- a host that is as it was
  pub as_it_was : (stored redos mid mid_redos stored' redos' : List ℕ → Option Stored) (loans mid_loans loans' : Option (List (Loan D))) (finding : LiveFinding) → ((n : List ℕ) → mid n ≡ stored n) → ((n : List ℕ) → mid_redos n ≡ redos n) → mid_loans ≡ loans
      → IsLiveBy g name redo mid mid_redos stored' redos' mid_loans loans' finding → IsLiveBy g name redo stored redos stored' redos' loans loans' finding
  as_it_was stored redos mid mid_redos stored' redos' loans mid_loans loans' finding images files same h =
      subst (λ (l : Option (List (Loan D))). IsLiveBy g name redo stored redos stored' redos' l loans' finding) same
      (subst (λ (r : List ℕ → Option Stored). IsLiveBy g name redo stored r stored' redos' mid_loans loans' finding) (λ i n. files n i)
      (subst (λ (s : List ℕ → Option Stored). IsLiveBy g name redo s mid_redos stored' redos' mid_loans loans' finding) (λ i n. images n i) h))
