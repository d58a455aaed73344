-- Inodes that were written one after the other.
use Rattle.std.proofs.Common.{◌≡◌, ℕ, suc, ◌+◌, ◌*◌, ◌≤◌, List, refl, sym, ap, ◌∙◌, arith}
use Rattle.std.specs.Prelude.{replicate}
use Rattle.std.specs.List.{splice}
use Rattle.dinode_core.specs.Encoded.{encoded}
use Rattle.fresh_image.specs.Fresh.{fresh_core, with_inodes}

pub no_inodes : (first : ℕ) (block : List ℕ) → with_inodes 0 first block ≡ block
unfolding with_inodes
no_inodes first block = refl

one_more : (k first : ℕ) (block : List ℕ) → splice (with_inodes k first block) (512 * k) (512 * k + 512) (encoded (fresh_core (first + k)) (replicate 512 0)) ≡ with_inodes (suc k) first block
unfolding with_inodes
one_more k first block = refl

pub inode_more : (k first at ino : ℕ) (block b c : List ℕ) → at ≡ 512 * k → ino ≡ first + k → b ≡ with_inodes k first block → c ≡ splice b at (at + 512) (encoded (fresh_core ino) (replicate 512 0)) → c ≡ with_inodes (k + 1) first block
inode_more k first at ino block b c place number so_far put =
    let next : suc k ≡ k + 1 = omega arith in
    put ∙ (ap (λ (x : ℕ). splice b x (x + 512) (encoded (fresh_core ino) (replicate 512 0))) place
    ∙ (ap (λ (x : ℕ). splice b (512 * k) (512 * k + 512) (encoded (fresh_core x) (replicate 512 0))) number
    ∙ (ap (λ (xs : List ℕ). splice xs (512 * k) (512 * k + 512) (encoded (fresh_core (first + k)) (replicate 512 0))) so_far ∙ (one_more k first block ∙ ap (λ (x : ℕ). with_inodes x first block) next))))

pub inodes_done : (k first : ℕ) (block b : List ℕ) → 8 ≤ k → k ≤ 8 → b ≡ with_inodes k first block → b ≡ with_inodes 8 first block
inodes_done k first block b low high is = let e : k ≡ 8 = omega (arith, low, high) in is ∙ ap (λ (x : ℕ). with_inodes x first block) e
