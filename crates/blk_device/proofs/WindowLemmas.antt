-- Blocks that were read at once are those of the file.
use Rattle.std.proofs.Common.{◌≡◌, ◌≤◌, ◌<◌, ℕ, ◌+◌, ◌-◌, ◌*◌, ◌/◌, ◌&&◌, Bool, true, false, List, take, drop, Option, Some, None, IfSome, if◌then◌else◌, nat_le, nat_lt, ◌++◌, length, refl, sym, ap, ◌∙◌, arith, subst}
use Rattle.std.proofs.lemmas.Bool.Decides.{nat_tests}
use Rattle.std.proofs.lemmas.List.{drop-take, take-append-le, take-take, take_all}
use Rattle.blk_device.specs.Window.{block_among, block_in, HoldsOf}
use Rattle.blk_device.specs.declared.window.Window.{Window}

-- a piece of two lists whose fronts are the same
same_piece : (n k m : ℕ) (a b : List ℕ) → k + m ≤ n → take n a ≡ take n b → take m (drop k a) ≡ take m (drop k b)
same_piece n k m a b h e =
    let front : take (k + m) a ≡ take (k + m) b = sym (take-take (k + m) n a h) ∙ ap (λ (l : List ℕ). take (k + m) l) e ∙ take-take (k + m) n b h in
    sym (drop-take k m a) ∙ ap (λ (l : List ℕ). drop k l) front ∙ drop-take k m b

where_held : (t : Bool) (at b : ℕ) (x y : List ℕ) → (t ≡ true → (at ≤ b) × (x ≡ y)) → IfSome (if t then Some x else None) (λ bytes. (at ≤ b) × (bytes ≡ y))
where_held true at b x y same = same refl
where_held false at b x y same = tt

block_is_read : (at n : ℕ) (bytes left : List ℕ) → take n bytes ≡ take n left → (b : ℕ) → IfSome (block_among at (n / 4096) bytes b) (λ block. (at ≤ b) × (block ≡ take 4096 (drop ((b - at) * 4096) left)))
block_is_read at n bytes left same b = where_held (nat_le at b && nat_lt (b - at) (n / 4096)) at b _ _ (λ t.
    let from : at ≤ b = grind (arith, nat_tests) in
    let before : b - at < n / 4096 = grind (arith, nat_tests) in
    (from, same_piece n ((b - at) * 4096) 4096 bytes left (omega arith) same))

-- what a slice of all of a vector leaves in it
pub all_written : (n : ℕ) (written rest : List ℕ) → length written ≡ n → take n (written ++ rest) ≡ written
all_written n written rest e = let h : n ≤ length written = omega arith in take-append-le n written rest h ∙ take_all n written (omega arith)

-- the blocks that stand whole in what one read gave are the file's
pub holds_read : (told : Option (List ℕ)) (at n : ℕ) (read bytes : List ℕ) (w : Window) → IfSome told (λ left. take n read ≡ take n left)
    → ((b : ℕ) → block_in w b ≡ block_among at (n / 4096) bytes b) → bytes ≡ read → IfSome told (λ left. HoldsOf at left w)
holds_read None at n read bytes w same held e = tt
holds_read (Some left) at n read bytes w same held e = λ b.
    let here : take n bytes ≡ take n left = ap (λ (l : List ℕ). take n l) e ∙ same in
    subst (λ (o : Option (List ℕ)). IfSome o (λ block. (at ≤ b) × (block ≡ take 4096 (drop ((b - at) * 4096) left)))) (sym (held b)) (block_is_read at n bytes left here b)
