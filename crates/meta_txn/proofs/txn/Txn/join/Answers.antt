use Rattle.std.proofs.Common.{ℕ, List, sym, ap, subst, inl, inr}
use Rattle.std.proofs.lemmas.Result.{err_from_is_err_and}
use Rattle.meta_txn.specs.Joined.{Joined, Finds}
use Rattle.meta_txn.proofs.EnterLemmas.{fault_of}
use Rattle.meta_txn.proofs.txn.Txn.join.Goals as goal

pub returns : goal.returns
returns g c =
    let d = g.D.Device in
    let old = c.args.self.now in
    let all = c.in_ok-i.ensures in
    let entered = all.entered in (
      λ j. inl (c.block_in.result.ghost_name, λ left. record { blocks = entered.left left.bytes j; marked = entered.marked j }),
      record {
        lends = tt;
        bytes = subst (λ (b : List ℕ). Finds c.args.at old.blocks (d.content c.args.dev.now) b) (sym c.block_in.ensures.value) entered.bytes;
        too_many = λ n. (λ e. cc e, λ would. cc ((all.too_many n).1 would));
        untouched = all.untouched;
        ticks = all.ticks;
        reads = all.reads;
        same = all.same;
        crash = all.crash;
        time = all.time;
        sizes = all.sizes;
        failed = λ e. cc e;
        calm = λ none. all.calm (λ e. cc e);
        later = all.later;
        agrees = all.agrees;
      },
    )

pub returns-in_err-i : goal.returns-in_err-i
returns-in_err-i g c =
    let all = c.in_err-i.ensures in
    let fault = c.in_err-i.field-0.0 in
    let p = err_from_is_err_and c.from_residual.result c.from_residual.ensures.1 in (
      rw (p.1) (ap (λ (t : Joined). inr t) all.refused),
      rw (p.1, p.2) (record {
        lends = tt;
        bytes = tt;
        too_many = λ n. (λ e. (all.too_many n).0 (fault_of fault _ e), λ would. fault_of fault _ ((all.too_many n).1 would));
        untouched = all.untouched;
        ticks = all.ticks;
        reads = all.reads;
        same = all.same;
        crash = all.crash;
        time = all.time;
        sizes = all.sizes;
        failed = λ e. all.failed (fault_of fault _ e);
        calm = λ none. all.calm (λ e. none (fault_of fault _ e));
        later = all.later;
        agrees = all.agrees;
      }),
    )
