-- Items counted off one by one.
use Rattle.std.proofs.Common.{◌≡◌, ℕ, zero, suc, ◌+◌, ◌<◌, ◌≤◌, Bool, true, [], ◌∷◌, ◌++◌, refl, arith, add-one, ap, add-zero, zero-add}
use Rattle.sblock.specs.Lists.{items_from, IsAhead, Rises, Each}

pub no_items : {A : Type 0} (item : ℕ → A) → items_from item 0 0 ≡ []
no_items item = refl

more_from : {A : Type 0} (item : ℕ → A) (n i : ℕ) → items_from item (n + 1) i ≡ items_from item n i ++ item (i + n) ∷ []
more_from item zero i = rw add-zero refl
more_from item (suc n) i =
    let e : (i + 1) + n ≡ i + suc n = omega arith in
    rw add-one (ap (λ rest. item i ∷ rest) (rw add-one at (rw e at (more_from item n (i + 1)))))

pub one_more_item : {A : Type 0} (item : ℕ → A) (n : ℕ) → items_from item (n + 1) 0 ≡ items_from item n 0 ++ item n ∷ []
one_more_item item n = rw zero-add at (more_from item n 0)

ahead : {A : Type 0} (before : A → A → Bool) (item : ℕ → A) (n i : ℕ) → (0 < n → before (item i) (item (i + 1)) ≡ true) → IsAhead before (item i) (items_from item n (i + 1))
ahead before item zero i h = tt
ahead before item (suc n) i h = h (omega arith)

-- items rise where each comes before the next
pub items_rise : {A : Type 0} (before : A → A → Bool) (item : ℕ → A) (n i : ℕ) → ((k : ℕ) → i ≤ k → k + 1 < i + n → before (item k) (item (k + 1)) ≡ true) → Rises before (items_from item n i)
items_rise before item zero i h = tt
items_rise before item (suc n) i h =
    (ahead before item n i (λ some. h i (omega arith) (omega arith)), items_rise before item n (i + 1) (λ k low high. h k (omega arith) (omega arith)))

pub items_each : {A : Type 0} (test : A → Bool) (item : ℕ → A) (n i : ℕ) → ((k : ℕ) → i ≤ k → k < i + n → test (item k) ≡ true) → Each test (items_from item n i)
items_each test item zero i h = tt
items_each test item (suc n) i h =
    (h i (omega arith) (omega arith), items_each test item n (i + 1) (λ k low high. h k (omega arith) (omega arith)))
