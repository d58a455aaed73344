-- What looks at blocks add, one look after the other.
use Rattle.std.proofs.Common.{◌≡◌, ℕ, ◌<◌, Bool, true, false, ◌&&◌, ◌||◌, List, Option, Some, None, refl, sym, ◌∙◌, ap, subst, inl, inr, arith}
use Rattle.std.specs.Prelude.{is_none}
use Rattle.std.proofs.lemmas.Bool.{or_cases, or_left, or_right, true≢false}
use Rattle.sblock.specs.Area.{area_of, child_of}
use Rattle.sblock.specs.Blocks.{numrecs}
use Rattle.sblock.specs.Form.{Form}
use Rattle.sblock.specs.declared.block.BlockFault.{BlockFault}
use Rattle.tree_defs.specs.Claims.{Leads, is_named, lone_fault, opens}
use Rattle.tree_defs.specs.declared.site.Site.{Site}
use Rattle.tree_defs.proofs.LoneFacts.{child_inside}
use Rattle.tree_claims.specs.Looks.{Grows, LieBelow, Looks}
use Rattle.tree_claims.proofs.RunLemmas.{or_none}
use Rattle.tree_claims.proofs.GrowLemmas.{grows_not, grows_on, grows_as, lie_on}

some_opens : (o : Option BlockFault) (fault : BlockFault) → o ≡ Some fault → is_none o ≡ true → ⊥
some_opens None fault e h = cc
some_opens (Some f) fault e h = cc

none_opens : (o : Option BlockFault) → o ≡ None → is_none o ≡ true
none_opens None e = refl
none_opens (Some f) e = cc

pub opens_none : (o : Option BlockFault) → is_none o ≡ true → o ≡ None
opens_none None e = refl
opens_none (Some f) e = cc

module _ {R K : Type 0} (form : Form R K) (site : Site) (level : ℕ) (root : Bool) (p : ℕ) (bytes : List ℕ) where
  pub leaf_leads : (s : ℕ → Bool) → level ≡ 0 → Grows s s (Leads form site level root p bytes)
  leaf_leads s leaf = grows_not s (Leads form site level root p bytes) (λ b l. omega (arith, l.above, leaf))

  pub refused_leads : (s : ℕ → Bool) (fault : BlockFault) → lone_fault form site level root p bytes ≡ Some fault → Grows s s (Leads form site level root p bytes)
  unfolding opens
  refused_leads s fault e = grows_not s (Leads form site level root p bytes) (λ b l. some_opens (lone_fault form site level root p bytes) fault e l.passes)

  pub opened_leads : (s t : ℕ → Bool) → 0 < level → lone_fault form site level root p bytes ≡ None → Grows s t (λ b. (i : ℕ) × (i < numrecs bytes) × (child_of form.kind (area_of bytes) i ≡ b)) → Grows s t (Leads form site level root p bytes)
  unfolding opens
  opened_leads s t above pass h =
      grows_as s t (λ b. (i : ℕ) × (i < numrecs bytes) × (child_of form.kind (area_of bytes) i ≡ b)) (Leads form site level root p bytes) h
      (λ b a. record { above = above; passes = none_opens (lone_fault form site level root p bytes) pass; entry = a.0; within = a.1; child = a.2 })
      (λ b l. (l.entry, l.within, l.child))

  -- what a node leads to lies in the group
  pub led_inside : (b : ℕ) → Leads form site level root p bytes b → b < site.bounds.length
  unfolding opens
  led_inside b l =
      let pass = opens_none (lone_fault form site level root p bytes) l.passes in
      let P : ℕ → Type 0 = λ x. x < site.bounds.length in
      subst P l.child (child_inside form site level root p bytes pass l.above l.entry l.within)

  pub leads_below : (s t : ℕ → Bool) → Grows s t (Leads form site level root p bytes) → LieBelow site.bounds.length s → LieBelow site.bounds.length t
  leads_below s t h = lie_on site.bounds.length s t (Leads form site level root p bytes) h led_inside

glued : (x p q n : Bool) → ((x || (p && n)) || (q && n)) ≡ (x || ((p || q) && n))
glued true p q n = refl
glued false true true true = refl
glued false true true false = refl
glued false true false true = refl
glued false true false false = refl
glued false false q n = refl

module _ {R K : Type 0} (form : Form R K) (site : Site) (m : ℕ → List ℕ) (level : ℕ) (root : Bool) where
  abbrev Led : (ℕ → Bool) → ℕ → Type 0
  Led looked b = (q : ℕ) × (looked q ≡ true) × Leads form site level root q (m q) b

  -- one look after the other
  pub looked_on : (p q r c0 c1 c2 n0 n1 n2 : ℕ → Bool) → Looks form site m level root p c0 c1 n0 n1 → Looks form site m level root q c1 c2 n1 n2 → ((b : ℕ) → r b ≡ (p b || q b)) → Looks form site m level root r c0 c2 n0 n2
  looked_on p q r c0 c1 c2 n0 n1 n2 first second both = record {
    claims = λ b.
        let named = is_named form.kind site b (m b) in
        second.claims b
        ∙ (ap (λ (t : Bool). t || (q b && named)) (first.claims b)
        ∙ (glued (c0 b) (p b) (q b) named
        ∙ ap (λ (t : Bool). c0 b || (t && named)) (sym (both b))));
    leads = grows_on n0 n1 n2 (Led p) (Led q) (Led r) first.leads second.leads
        (λ b a. (a.0, both a.0 ∙ or_left (p a.0) (q a.0) a.1, a.2))
        (λ b a. (a.0, both a.0 ∙ or_right (p a.0) (q a.0) a.1, a.2))
        (λ b a. elim (or_cases (p a.0) (q a.0) (sym (both a.0) ∙ a.1)) [ inl is ↦ inl (a.0, is, a.2) | inr is ↦ inr (a.0, is, a.2) ]);
  }

  -- the same blocks, said otherwise
  pub looked_as : (p r c0 c1 n0 n1 : ℕ → Bool) → Looks form site m level root p c0 c1 n0 n1 → ((b : ℕ) → r b ≡ p b) → Looks form site m level root r c0 c1 n0 n1
  looked_as p r c0 c1 n0 n1 h same = record {
    claims = λ b. h.claims b ∙ ap (λ (t : Bool). c0 b || (t && is_named form.kind site b (m b))) (sym (same b));
    leads = grows_as n0 n1 (Led p) (Led r) h.leads (λ b a. (a.0, same a.0 ∙ a.1, a.2)) (λ b a. (a.0, sym (same a.0) ∙ a.1, a.2));
  }

  -- no block was looked at
  pub none_looked : (p c n1 : ℕ → Bool) → ((b : ℕ) → p b ≡ false) → ((b : ℕ) → n1 b ≡ false) → Looks form site m level root p c c (λ b. false) n1
  none_looked p c n1 none empty = record {
    claims = λ b. or_none (c b) ∙ ap (λ (t : Bool). c b || (t && is_named form.kind site b (m b))) (sym (none b));
    leads = λ b. (
      λ now. absurd (true≢false (sym now ∙ empty b)),
      λ h. elim h [ inl never ↦ absurd (true≢false (sym never)) | inr a ↦ absurd (true≢false (sym a.1 ∙ none a.0)) ],
    );
  }
