-- The order of inode chunks is one, and a pointer leaves the keys of a node.
use Rattle.std.proofs.Common.{◌≡◌, ℕ, ◌<◌, ◌≤◌, ◌*◌, ◌/◌, List, length, true, false, arith, refl, subst}
use Rattle.std.specs.Prelude.{nat_lt, ◌⊎◌, ◌↔◌}
use Rattle.std.proofs.lemmas.Bool.{false≢true, and_parts, eqb-true, eq-eqb}
use Rattle.std.proofs.lemmas.Bool.Decides.{nat_tests}
use Rattle.sblock.specs.Area.{with_child}
use Rattle.sblock.specs.Form.{IsLawful}
use Rattle.sblock.specs.declared.kind.Kind.TheVariants.{Ino, Fino}
use Rattle.sblock.specs.AreaLaws.{field_stays}
use Rattle.ino_recs.specs.Chunks.{ino_form, fino_form, ino_key_at, key_startino_at, is_same_chunk}
use Rattle.ino_recs.specs.declared.chunk.InoRec.{InoRec}

pub strict_nat : (a : ℕ) → nat_lt a a ≡ false
strict_nat a = grind (arith, nat_tests)

along_nat : (a b c : ℕ) → nat_lt a b ≡ true → nat_lt b c ≡ true → nat_lt a c ≡ true
along_nat a b c h i = grind (arith, nat_tests)

total_nat : (a b c : ℕ) → nat_lt a c ≡ true → (nat_lt a b ≡ true) ⊎ (nat_lt b c ≡ true)
total_nat a b c h = grind (arith, nat_tests)

not_less : (a b : ℕ) → nat_lt a b ≡ false → b ≤ a
not_less a b h = grind (arith, nat_tests)

-- a later inode lies in a later block or the same
later_block : (a b : ℕ) → nat_lt a b ≡ false → b / 8 ≤ a / 8
later_block a b h = let le = not_less a b h in omega (arith, le)

ino_keys_stay : (area : List ℕ) (i j child : ℕ) → length area ≡ 4040 → i < 505 → j < 505 → ino_key_at (with_child Ino area i child) j ≡ ino_key_at area j
unfolding key_startino_at
ino_keys_stay area i j child whole room here = rw (field_stays Ino area i child 4 (4 * j) whole room (omega (arith, here))) refl

fino_keys_stay : (area : List ℕ) (i j child : ℕ) → length area ≡ 4040 → i < 505 → j < 505 → ino_key_at (with_child Fino area i child) j ≡ ino_key_at area j
unfolding key_startino_at
fino_keys_stay area i j child whole room here = rw (field_stays Fino area i child 4 (4 * j) whole room (omega (arith, here))) refl

same_chunk : (r s : InoRec) → (is_same_chunk r s ≡ true) ↔ (r ≡ s)
same_chunk r s = (
  λ h. (let all = and_parts _ _ h in let four = and_parts _ _ all.0 in let three = and_parts _ _ four.0 in let two = and_parts _ _ three.0 in λ i. record { startino = eqb-true r.startino s.startino two.0 i; holemask = eqb-true r.holemask s.holemask two.1 i; count = eqb-true r.count s.count three.1 i; freecount = eqb-true r.freecount s.freecount four.1 i; free = eqb-true r.free s.free all.1 i }),
  λ e. subst (λ (x : InoRec). is_same_chunk r x ≡ true) e (rw (eq-eqb r.startino r.startino refl, eq-eqb r.holemask r.holemask refl, eq-eqb r.count r.count refl, eq-eqb r.freecount r.freecount refl, eq-eqb r.free r.free refl) refl),
)

pub lawful_ino : IsLawful ino_form
lawful_ino = record {
  strict = λ a. strict_nat a.startino;
  along = λ a b c h i. along_nat a.startino b.startino c.startino h i;
  total = λ a b c h. total_nat a.startino b.startino c.startino h;
  reaches = λ bounds r small h. refl;
  above = λ r h. strict_nat r.startino;
  same = same_chunk;
  starts = λ other a b h. later_block a.startino b.startino h;
  ends = λ high r h. absurd (false≢true high);
  keys_stay = ino_keys_stay;
  high_keys_stay = ino_keys_stay;
}

pub lawful_fino : IsLawful fino_form
lawful_fino = record {
  strict = λ a. strict_nat a.startino;
  along = λ a b c h i. along_nat a.startino b.startino c.startino h i;
  total = λ a b c h. total_nat a.startino b.startino c.startino h;
  reaches = λ bounds r small h. refl;
  above = λ r h. strict_nat r.startino;
  same = same_chunk;
  starts = λ other a b h. later_block a.startino b.startino h;
  ends = λ high r h. absurd (false≢true high);
  keys_stay = fino_keys_stay;
  high_keys_stay = fino_keys_stay;
}
