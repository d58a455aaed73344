-- The laws of the kind that the tests read.
use Rattle.std.proofs.Common.{◌≡◌, ℕ, ◌*◌, ◌<◌, ◌≤◌, true, false, List, length, refl, arith}
use Rattle.std.specs.Prelude.{nat_lt, ◌⊎◌, ◌==◌, ◌↔◌}
use Rattle.std.proofs.lemmas.Bool.{false≢true, eqb-true, eq-eqb}
use Rattle.std.proofs.lemmas.Bool.Decides.{nat_tests}
use Rattle.sblock.specs.Area.{with_child}
use Rattle.test_records.specs.Counted.{counted, number_at}
use Rattle.sblock.specs.Form.{IsLawful}
use Rattle.sblock.specs.declared.kind.Kind.TheVariants.{Ino}
use Rattle.sblock.specs.AreaLaws.{field_stays}

not_before : (n : ℕ) → nat_lt n n ≡ false
not_before n = grind (arith, nat_tests)

along : (a b c : ℕ) → nat_lt a b ≡ true → nat_lt b c ≡ true → nat_lt a c ≡ true
along a b c h i = grind (arith, nat_tests)

total : (a b c : ℕ) → nat_lt a c ≡ true → (nat_lt a b ≡ true) ⊎ (nat_lt b c ≡ true)
total a b c h = grind (arith, nat_tests)

not_less : (a b : ℕ) → nat_lt a b ≡ false → b ≤ a
not_less a b h = grind (arith, nat_tests)

same_numbers : (a b : ℕ) → ((a == b) ≡ true) ↔ (a ≡ b)
same_numbers a b = (λ h. eqb-true a b h, λ e. eq-eqb a b e)

stays : (area : List ℕ) (i j child : ℕ) → length area ≡ 4040 → i < 505 → j < 505 → number_at (with_child Ino area i child) (4 * j) ≡ number_at area (4 * j)
unfolding number_at
stays area i j child whole room here = field_stays Ino area i child 4 (4 * j) whole room (omega (arith, here))

pub lawful_counted : IsLawful counted
lawful_counted = record {
  strict = not_before;
  along = along;
  total = total;
  reaches = λ bounds n small h. refl;
  above = λ n h. not_before n;
  same = same_numbers;
  starts = λ other a b h. not_less a b h;
  ends = λ high n h. absurd (false≢true high);
  keys_stay = stays;
  high_keys_stay = stays;
}
