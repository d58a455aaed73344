-- Each of the six kinds, and what its records have.
use Rattle.std.proofs.Common.{◌≡◌, ◌≤◌, ◌+◌, ℕ, Bool, true, false, List, [], ◌∷◌, refl, sym, ap, ◌∙◌, arith}
use Rattle.std.specs.Prelude.{◌&&◌, ◌||◌, not, nat_le, nat_lt}
use Rattle.std.specs.List.{list_any}
use Rattle.std.proofs.lemmas.Bool.Decides.{nat_tests}
use Rattle.sblock.specs.Blocks.{AllInside}
use Rattle.sblock.specs.Form.{Form}
use Rattle.sblock.specs.Meets.{meets, share_block, both_cover, first_of}
use Rattle.sblock.specs.declared.block.Bounds.{Bounds}
use Rattle.list_edit.specs.Edits.{bars, has_key}
use Rattle.span_recs.specs.Spans.{bno_form, cnt_form, is_span_in_range}
use Rattle.span_recs.specs.Refcounts.{refc_form, is_refc_in_range}
use Rattle.rmap_recs.specs.Rmap.{rmap_form}
use Rattle.ino_recs.specs.Chunks.{ino_form, fino_form}
use Rattle.kind_laws.specs.Laws.{CoversOne, BarsAsItMeets}

-- ---- a record covers a block

pub bno_covers : CoversOne bno_form
unfolding is_span_in_range
bno_covers bounds r h = grind (arith, nat_tests)

pub cnt_covers : CoversOne cnt_form
unfolding is_span_in_range
cnt_covers bounds r h = grind (arith, nat_tests)

pub refc_covers : CoversOne refc_form
unfolding is_refc_in_range
refc_covers bounds r h = grind (arith, nat_tests)

pub rmap_covers : CoversOne rmap_form
rmap_covers bounds r h = grind (arith, nat_tests)

-- ---- what can't be beside a record

-- one test adds nothing to another that it implies
adds_nothing : (x k : Bool) → (k ≡ true → x ≡ true) → (x || k) ≡ x
adds_nothing true k f = refl
adds_nothing false true f = sym (f refl)
adds_nothing false false f = refl

module _ {R K : Type 0} (form : Form R K) (bounds : Bounds) (r : R) (one : (s : R) → form.is_in_range bounds s ≡ true → has_key form r s ≡ true → meets form s r ≡ true) where
  bar : (s : R) → form.is_in_range bounds s ≡ true → bars form r s ≡ meets form s r
  unfolding bars
  bar s inside = adds_nothing (meets form s r) (has_key form r s) (one s inside)

  pub any_bars : (list : List R) → AllInside form bounds list → list_any (bars form r) list ≡ list_any (λ s. meets form s r) list
  any_bars [] all = refl
  any_bars (s ∷ ss) all = (λ j. bar s all.0 j || list_any (bars form r) ss) ∙ ap (λ (t : Bool). meets form s r || t) (any_bars ss all.1)

-- two runs of blocks that begin at one block have it in common
same_start : (a b n m : ℕ) → (not (nat_lt a b) && not (nat_lt b a)) ≡ true → 1 ≤ n → 1 ≤ m → ((nat_le a a && nat_lt a (a + n)) && (nat_le b a && nat_lt a (b + m))) ≡ true
same_start a b n m same some more = grind (arith, nat_tests)

pub bno_bars : BarsAsItMeets bno_form
unfolding has_key share_block
bno_bars bounds r list inside all = any_bars bno_form bounds r (λ s within same. ap (λ (t : Bool). t || both_cover bno_form s r (first_of bno_form r)) (same_start s.start r.start s.count r.count same (bno_covers bounds s within) (bno_covers bounds r inside))) list all

pub refc_bars : BarsAsItMeets refc_form
unfolding has_key share_block
refc_bars bounds r list inside all = any_bars refc_form bounds r (λ s within same. ap (λ (t : Bool). t || both_cover refc_form s r (first_of refc_form r)) (same_start s.start r.start s.count r.count same (refc_covers bounds s within) (refc_covers bounds r inside))) list all

pub cnt_bars : BarsAsItMeets cnt_form
unfolding has_key
cnt_bars bounds r list inside all = any_bars cnt_form bounds r (λ s within same. same) list all

pub rmap_bars : BarsAsItMeets rmap_form
unfolding has_key
rmap_bars bounds r list inside all = any_bars rmap_form bounds r (λ s within same. same) list all

pub ino_bars : BarsAsItMeets ino_form
unfolding has_key
ino_bars bounds r list inside all = any_bars ino_form bounds r (λ s within same. same) list all

pub fino_bars : BarsAsItMeets fino_form
unfolding has_key
fino_bars bounds r list inside all = any_bars fino_form bounds r (λ s within same. same) list all
