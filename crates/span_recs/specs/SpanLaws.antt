-- Both orders of free space are orders, and a pointer leaves the keys of a node.
use Rattle.std.proofs.Common.{◌≡◌, ℕ, ◌<◌, ◌≤◌, ◌+◌, ◌*◌, List, length, true, false, arith, refl, subst}
use Rattle.std.specs.Prelude.{nat_lt, ◌⊎◌, ◌↔◌}
use Rattle.std.proofs.lemmas.Bool.{false≢true, and_parts, eqb-true, eq-eqb}
use Rattle.std.proofs.lemmas.Bool.Decides.{nat_tests}
use Rattle.sblock.specs.Area.{with_child}
use Rattle.sblock.specs.Form.{IsLawful}
use Rattle.sblock.specs.declared.kind.Kind.TheVariants.{Bno, Cnt}
use Rattle.sblock.specs.AreaLaws.{field_stays}
use Rattle.span_recs.specs.Spans.{bno_form, cnt_form, span_at, start_at, count_at, is_same_span, is_before_by_count}
use Rattle.span_recs.specs.declared.span.SpanRec.{SpanRec}

pub strict_nat : (a : ℕ) → nat_lt a a ≡ false
strict_nat a = grind (arith, nat_tests)

pub along_nat : (a b c : ℕ) → nat_lt a b ≡ true → nat_lt b c ≡ true → nat_lt a c ≡ true
along_nat a b c h i = grind (arith, nat_tests)

pub total_nat : (a b c : ℕ) → nat_lt a c ≡ true → (nat_lt a b ≡ true) ⊎ (nat_lt b c ≡ true)
total_nat a b c h = grind (arith, nat_tests)

pub not_less : (a b : ℕ) → nat_lt a b ≡ false → b ≤ a
not_less a b h = grind (arith, nat_tests)

strict_by_count : (a : SpanRec) → is_before_by_count a a ≡ false
unfolding is_before_by_count
strict_by_count a = grind (arith, nat_tests)

along_by_count : (a b c : SpanRec) → is_before_by_count a b ≡ true → is_before_by_count b c ≡ true → is_before_by_count a c ≡ true
unfolding is_before_by_count
along_by_count a b c h i = grind (arith, nat_tests)

total_by_count : (a b c : SpanRec) → is_before_by_count a c ≡ true → (is_before_by_count a b ≡ true) ⊎ (is_before_by_count b c ≡ true)
unfolding is_before_by_count
total_by_count a b c h = grind (arith, nat_tests)

same_span : (r s : SpanRec) → (is_same_span r s ≡ true) ↔ (r ≡ s)
same_span r s = (
  λ h. (let parts = and_parts _ _ h in λ i. record { start = eqb-true r.start s.start parts.0 i; count = eqb-true r.count s.count parts.1 i }),
  λ e. subst (λ (x : SpanRec). is_same_span r x ≡ true) e (rw (eq-eqb r.start r.start refl, eq-eqb r.count r.count refl) refl),
)

bno_keys_stay : (area : List ℕ) (i j child : ℕ) → length area ≡ 4040 → i < 336 → j < 336 → span_at (with_child Bno area i child) j ≡ span_at area j
unfolding start_at count_at
bno_keys_stay area i j child whole room here =
    rw (field_stays Bno area i child 4 (8 * j) whole room (omega (arith, here)), field_stays Bno area i child 4 (8 * j + 4) whole room (omega (arith, here))) refl

cnt_keys_stay : (area : List ℕ) (i j child : ℕ) → length area ≡ 4040 → i < 336 → j < 336 → span_at (with_child Cnt area i child) j ≡ span_at area j
unfolding start_at count_at
cnt_keys_stay area i j child whole room here =
    rw (field_stays Cnt area i child 4 (8 * j) whole room (omega (arith, here)), field_stays Cnt area i child 4 (8 * j + 4) whole room (omega (arith, here))) refl

pub lawful_bno : IsLawful bno_form
lawful_bno = record {
  strict = λ a. strict_nat a.start;
  along = λ a b c h i. along_nat a.start b.start c.start h i;
  total = λ a b c h. total_nat a.start b.start c.start h;
  reaches = λ bounds r small h. refl;
  above = λ r h. strict_nat r.start;
  same = same_span;
  starts = λ other a b h. not_less a.start b.start h;
  ends = λ high r h. absurd (false≢true high);
  keys_stay = bno_keys_stay;
  high_keys_stay = bno_keys_stay;
}

pub lawful_cnt : IsLawful cnt_form
lawful_cnt = record {
  strict = strict_by_count;
  along = along_by_count;
  total = total_by_count;
  reaches = λ bounds r small h. refl;
  above = λ r h. strict_by_count r;
  same = same_span;
  starts = λ other a b h. absurd (other refl);
  ends = λ high r h. absurd (false≢true high);
  keys_stay = cnt_keys_stay;
  high_keys_stay = cnt_keys_stay;
}
