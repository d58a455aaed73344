-- The first head that is refused, group by group.
use Rattle.std.proofs.Common.{◌≡◌, ℕ, zero, suc, ◌+◌, ◌-◌, ◌<◌, ◌≤◌, List, Option, Some, None, Err, refl, sym, ◌∙◌, ap, arith}
use Rattle.ag_headers.specs.declared.fault.HeadFault.{HeadFault}
use Rattle.fs_model.specs.declared.unit.Head.{Head}
use Rattle.geom.specs.Layout.{Layout}
use Rattle.space_check.specs.Checked.{bad_head, bad_head_from, heads_at, looked_at, HaltsInHeads}
use Rattle.space_check.specs.Progress.{IsOutside, MeetsHead}
use Rattle.space_check.specs.declared.halt.Halt.{Halt}
use Rattle.space_check.specs.declared.halt.Halt.TheVariants as halts

pub outside_heads : (T : Type 0) (g : ℕ) (first : Option (Head × HeadFault)) (halt : Halt) → IsOutside halt → MeetsHead {T = T} g first (Err halt)
outside_heads T g first (halts.Head h head fault) out = absurd out
outside_heads T g first halts.Full out = out
outside_heads T g first halts.Failed out = tt
outside_heads T g first halts.Memory out = tt

module _ (at : Layout) (image : ℕ → List ℕ) where
  passes_on : (g n : ℕ) → bad_head at g (heads_at at image g) ≡ None → bad_head_from at image g (suc n) ≡ bad_head_from at image (g + 1) n
  unfolding bad_head_from
  passes_on g n h = rw (h, bad_head_from) refl

  refuses : (g n : ℕ) (bad : Head × HeadFault) → bad_head at g (heads_at at image g) ≡ Some bad → bad_head_from at image g (suc n) ≡ Some (g, bad)
  unfolding bad_head_from
  refuses g n bad h = rw (h, bad_head_from) refl

  pub none_left : (g n : ℕ) → n ≤ g → bad_head_from at image g (n - g) ≡ None
  unfolding bad_head_from
  none_left g n le = let e : n - g ≡ 0 = omega arith in rw e refl

  module _ (g n : ℕ) (whole : Option (ℕ × (Head × HeadFault))) (lt : g < n) (left : bad_head_from at image g (n - g) ≡ whole) where
    one_more : n - g ≡ suc (n - (g + 1))
    one_more = omega (arith, lt)

    pub next_group : bad_head at g (heads_at at image g) ≡ None → bad_head_from at image (g + 1) (n - (g + 1)) ≡ whole
    next_group h = sym (passes_on g (n - (g + 1)) h) ∙ (ap (bad_head_from at image g) (sym one_more) ∙ left)

    refused_here : (head : Head) (fault : HeadFault) → bad_head at g (heads_at at image g) ≡ Some (head, fault) → whole ≡ Some (g, (head, fault))
    refused_here head fault m = sym left ∙ (ap (bad_head_from at image g) one_more ∙ refuses g (n - (g + 1)) (head, fault) m)

  -- ---- how many groups' heads are looked at

  abbrev place : ℕ → Option (ℕ × (Head × HeadFault)) → ℕ
  place none None = none
  place none (Some bad) = bad.0

  looked_none : bad_head_from at image 0 at.agcount ≡ None → looked_at at image ≡ at.agcount
  unfolding looked_at
  looked_none h = rw (h, looked_at) refl

  looked_some : (bad : ℕ × (Head × HeadFault)) → bad_head_from at image 0 at.agcount ≡ Some bad → looked_at at image ≡ bad.0 + 1
  unfolding looked_at
  looked_some bad h = rw (h, looked_at) refl

  no_group : (g : ℕ) → bad_head_from at image g zero ≡ None
  unfolding bad_head_from
  no_group g = refl

  -- a head that is refused is one of those that are asked
  not_before : (n g : ℕ) (bad : ℕ × (Head × HeadFault)) → bad_head_from at image g n ≡ Some bad → g ≤ bad.0
  not_before zero g bad h = let clash : Some bad ≡ None = sym h ∙ no_group g in absurd (some_none clash)
    where
      some_none : {A : Type 0} {x : A} → Some x ≡ None → ⊥
      some_none e = cc
  not_before (suc n) g bad h = by_first (bad_head at g (heads_at at image g)) refl (not_before n (g + 1) bad)
    where
      by_first : (first : Option (Head × HeadFault)) → bad_head at g (heads_at at image g) ≡ first → (bad_head_from at image (g + 1) n ≡ Some bad → g + 1 ≤ bad.0) → g ≤ bad.0
      by_first None e later =
          let on : g + 1 ≤ bad.0 = later (sym (passes_on g n e) ∙ h) in
          omega (arith, on)
      by_first (Some b) e later =
          let same : bad.0 ≡ g = ap (place 0) (sym h ∙ refuses g n b e) in
          omega (arith, same)

  looked_more : (g : ℕ) → g < at.agcount → bad_head_from at image g (at.agcount - g) ≡ bad_head_from at image 0 at.agcount → g < looked_at at image
  looked_more g lt left = by_first (bad_head_from at image 0 at.agcount) refl
    where
      by_first : (first : Option (ℕ × (Head × HeadFault))) → bad_head_from at image 0 at.agcount ≡ first → g < looked_at at image
      by_first None e = omega (arith, lt, looked_none e)
      by_first (Some bad) e = omega (arith, looked_some bad e, not_before (at.agcount - g) g bad (left ∙ e))

  -- the heads of group g ended it
  pub heads_stop : (S : Type 0) (g before after : ℕ) (halt : Halt) → g < at.agcount → bad_head_from at image g (at.agcount - g) ≡ bad_head_from at image 0 at.agcount
      → MeetsHead {T = S} g (bad_head at g (heads_at at image g)) (Err halt) → after ≡ before + (g + 1) → HaltsInHeads at image before after halt
  heads_stop S g before after (halts.Head h head fault) lt left m read =
      let first : bad_head_from at image 0 at.agcount ≡ Some (h, (head, fault)) =
      refused_here g at.agcount (bad_head_from at image 0 at.agcount) lt left head fault m.1 ∙ ap (λ (i : ℕ). Some (i, (head, fault))) (sym m.0) in
      (first, read ∙ ap (λ (i : ℕ). before + (i + 1)) (sym m.0))
  heads_stop S g before after halts.Full lt left m read = m
  heads_stop S g before after halts.Failed lt left m read = (g, looked_more g lt left, read)
  heads_stop S g before after halts.Memory lt left m read = (g, looked_more g lt left, read)
