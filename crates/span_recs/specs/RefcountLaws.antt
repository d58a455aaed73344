-- The order of reference counts is one, and a pointer leaves the keys of a node.
use Rattle.std.proofs.Common.{◌≡◌, ℕ, ◌<◌, ◌*◌, List, length, true, arith, refl, subst}
use Rattle.std.proofs.lemmas.Bool.{false≢true, and_parts, eqb-true, eq-eqb}
use Rattle.std.specs.Prelude.{◌↔◌}
use Rattle.sblock.specs.Area.{with_child}
use Rattle.sblock.specs.Form.{IsLawful}
use Rattle.sblock.specs.declared.kind.Kind.TheVariants.{Refc}
use Rattle.sblock.specs.AreaLaws.{field_stays}
use Rattle.span_recs.specs.Refcounts.{refc_form, refc_key_at, key_start_at, is_same_refc}
use Rattle.span_recs.specs.declared.refcount.RefcRec.{RefcRec}
use Rattle.span_recs.specs.SpanLaws.{strict_nat, along_nat, total_nat, not_less}

keys_stay : (area : List ℕ) (i j child : ℕ) → length area ≡ 4040 → i < 505 → j < 505 → refc_key_at (with_child Refc area i child) j ≡ refc_key_at area j
unfolding key_start_at
keys_stay area i j child whole room here = rw (field_stays Refc area i child 4 (4 * j) whole room (omega (arith, here))) refl

same_refc : (r s : RefcRec) → (is_same_refc r s ≡ true) ↔ (r ≡ s)
same_refc r s = (
  λ h. (let parts = and_parts _ _ h in let front = and_parts _ _ parts.0 in λ i. record { start = eqb-true r.start s.start front.0 i; count = eqb-true r.count s.count front.1 i; refcount = eqb-true r.refcount s.refcount parts.1 i }),
  λ e. subst (λ (x : RefcRec). is_same_refc r x ≡ true) e (rw (eq-eqb r.start r.start refl, eq-eqb r.count r.count refl, eq-eqb r.refcount r.refcount refl) refl),
)

pub lawful_refc : IsLawful refc_form
lawful_refc = record {
  strict = λ a. strict_nat a.start;
  along = λ a b c h i. along_nat a.start b.start c.start h i;
  total = λ a b c h. total_nat a.start b.start c.start h;
  reaches = λ bounds r small h. refl;
  above = λ r h. strict_nat r.start;
  same = same_refc;
  starts = λ other a b h. not_less a.start b.start h;
  ends = λ high r h. absurd (false≢true high);
  keys_stay = keys_stay;
  high_keys_stay = keys_stay;
}
