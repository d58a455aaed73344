-- The redo file in which a device is kept that comes back.
use Rattle.std.proofs.Common.{◌≡◌, ◌<◌, ◌⊎◌, ℕ, List, [], ◌∷◌, ◌++◌, Bool, true, false, cond, Option, Some, None, is_some, IfSome, inl, inr, refl, sym, ◌∙◌, ap, subst, arith}
use Rattle.std.specs.Prelude.{nat_lt, ◌==◌, ◌+◌, IsNone, if◌then◌else◌}
use Rattle.std.proofs.lemmas.Bool.Decides.{nat_tests}
use Rattle.std.proofs.lemmas.Slice.Eq.{bytes_eq-Decides}
use Rattle.std.specs.BTreeMap.{BTreeMap, Updates, get, get_by_text, is_at}
use Rattle.std.specs.Cmp.{unsigned_tied}
use Rattle.std.specs.List.{last_or}
use Rattle.std.specs.Map.{lookup}
use Rattle.std.specs.Ordering.{nat_cmp}
use Rattle.std.specs.Str.{bytes_eq}
use Rattle.std.specs.declared.alloc.Global.{Global}
use Rattle.std.specs.declared.string.String.{String}
use Rattle.blk_device.specs.Contents.{Contents}
use Rattle.blk_device.specs.Stored.{bytes_or_zeros, stored}
use Rattle.blk_device.specs.declared.device.Region.{Region}
use Rattle.blk_device.specs.declared.device.Region.TheVariants.{Redo}
use Rattle.byte_fields.specs.Zeros.{zeros}
use Rattle.byte_fields.specs.declared.block.Block.{Block}
use Rattle.image_hosts.specs.MemFiles.{redo_file_named, redo_or_none, redo_told}
use Rattle.image_hosts.specs.declared.mem_host.MemRedo.{MemRedo}
use Rattle.image_hosts.specs.Stored.{Stored, Request, FollowsRedo, HoldsRedo, due_by, due_in, due_of, no_redo, redo_held, stored_redo, stored_with}

pub last_of : (o : Option Request) (asked : List Request) (request : Request) → last_or o (asked ++ request ∷ []) ≡ Some request
last_of o [] request = refl
last_of o (r ∷ rs) request = last_of (Some r) rs request

-- of the request that came last
pub due_last : (asked asked' : List Request) (request : Request) → asked' ≡ asked ++ request ∷ [] → due_of asked' ≡ due_by request.purpose request.redo
due_last asked asked' request is = ap due_of is ∙ ap due_in (last_of None asked request)

-- no redo file changes but for a device that was asked for to be changed
pub none_due : (asked asked' : List Request) (request : Request) (held : Option Stored) (old new : List ℕ → Option Stored) → asked' ≡ asked ++ request ∷ [] → due_by request.purpose request.redo ≡ None
    → FollowsRedo (due_of asked') held old new → (n : List ℕ) → new n ≡ old n
none_due asked asked' request held old new is none follows =
    subst (λ (due : Option (List ℕ)). FollowsRedo due held old new) (due_last asked asked' request is ∙ none) follows

-- the one that such a device was asked for with holds its redo region
pub one_due : (asked asked' : List Request) (request : Request) (name : List ℕ) (held : Option Stored) (old new : List ℕ → Option Stored) → asked' ≡ asked ++ request ∷ [] → due_by request.purpose request.redo ≡ Some name
    → FollowsRedo (due_of asked') held old new → HoldsRedo name held old new
one_due asked asked' request name held old new is one follows =
    subst (λ (due : Option (List ℕ)). FollowsRedo due held old new) (due_last asked asked' request is ∙ one) follows

-- a host that tells no redo file
pub silent : (due : Option (List ℕ)) (held : Option Stored) → FollowsRedo due held (λ n. None) (λ n. None)
silent None held = λ n. refl
silent (Some name) held = record { others = λ n apart. refl; one = inr refl }

-- ---- blocks of a redo file

-- zeros alone
pub zeros_held : (at : ℕ → List ℕ) → ((b : ℕ) → at b ≡ zeros) → Some (redo_held 162 at) ≡ Some no_redo
zeros_held at none = λ i. Some (record { size = 162; at = λ b. by_end b (nat_lt b 162) i })
  where
    by_end : (b : ℕ) (t : Bool) → (if t then at b else zeros) ≡ zeros
    by_end b true = none b
    by_end b false = refl

is_below : (n most : ℕ) → nat_lt n most ≡ true → n < most
is_below n most h = grind (arith, nat_tests)

-- blocks that read the same up to the end
pub same_held : (size : ℕ) (at at' : ℕ → List ℕ) → ((b : ℕ) → b < size → at' b ≡ at b) → Some (redo_held size at') ≡ Some (redo_held size at)
same_held size at at' same = λ i. Some (record { size = size; at = λ b. by_end b (nat_lt b size) refl i })
  where
    by_end : (b : ℕ) (t : Bool) → nat_lt b size ≡ t → (if t then at' b else zeros) ≡ (if t then at b else zeros)
    by_end b true low = same b (is_below b size low)
    by_end b false high = refl

-- a redo file in its place
pub held_with : (name : List ℕ) (held told : Option Stored) (old new : List ℕ → Option Stored) → ((n : List ℕ) → new n ≡ stored_with name told old n) → (told ≡ held) ⊎ (told ≡ None) → HoldsRedo name held old new
held_with name held told old new is or_none = record {
  others = λ n apart. is n ∙ ap (λ (b : Bool). cond b told (old n)) apart;
  one = by_told or_none;
}
  where
    there : new name ≡ told
    there = is name ∙ ap (λ (b : Bool). cond b told (old name)) ((bytes_eq-Decides name name).1 refl)

    by_told : (told ≡ held) ⊎ (told ≡ None) → (new name ≡ held) ⊎ (new name ≡ None)
    by_told (inl same) = inl (there ∙ same)
    by_told (inr none) = inr (there ∙ none)

-- no block is kept
pub empty_zeros : (m : BTreeMap ℕ Block) → m.entries ≡ [] → (b : ℕ) → stored m b ≡ zeros
empty_zeros m none b = ap (λ (es : List (ℕ × Block)). bytes_or_zeros (lookup (is_at (nat_cmp b)) es)) none

eq_true : (a b : ℕ) → (a == b) ≡ true → a ≡ b
eq_true a b h = grind (arith, nat_tests)

eq_false : (a b : ℕ) → (a == b) ≡ false → a ≡ b → ⊥
eq_false a b h e = grind (arith, nat_tests)

below_again : (a b : ℕ) → b < a + 1 → (a ≡ b → ⊥) → b < a
below_again a b low ne = omega (arith, low, ne)

-- one block more was read
pub put_next : (m n : BTreeMap ℕ Block) (at : ℕ) (block : Block) (held : ℕ → List ℕ) → Updates nat_cmp m n at (Some block) → block.bytes ≡ held at → ((b : ℕ) → b < at → stored m b ≡ held b) → (b : ℕ) → b < at + 1 → stored n b ≡ held b
put_next m n at block held up is before b low =
    ap bytes_or_zeros (up.0 b ∙ ap (λ (t : Bool). cond t (Some block) (get nat_cmp m b)) (unsigned_tied at b)) ∙ by_place (at == b) refl
  where
    by_place : (t : Bool) → (at == b) ≡ t → bytes_or_zeros (cond t (Some block) (get nat_cmp m b)) ≡ held b
    by_place true same = is ∙ ap held (eq_true at b same)
    by_place false other = before b (below_again at b low (eq_false at b other))

-- ---- redo files by name

-- one in the place of another
pub named_with : (name : List ℕ) (old new : BTreeMap (String Global) MemRedo) (redo : MemRedo) → ((n : List ℕ) → get_by_text new n ≡ (if bytes_eq n name then Some redo else get_by_text old n))
    → (n : List ℕ) → redo_file_named new n ≡ stored_with name (redo_told redo) (redo_file_named old) n
named_with name old new redo is n = ap redo_or_none (is n) ∙ by_name (bytes_eq n name)
  where
    by_name : (t : Bool) → redo_or_none (if t then Some redo else get_by_text old n) ≡ (if t then redo_told redo else redo_or_none (get_by_text old n))
    by_name true = refl
    by_name false = refl

-- one of zeros where there was none
pub made_named : (name : List ℕ) (old new : BTreeMap (String Global) MemRedo) (redo : MemRedo) → ((n : List ℕ) → get_by_text new n ≡ (if bytes_eq n name then Some redo else get_by_text old n)) → get_by_text old name ≡ None
    → redo_told redo ≡ Some no_redo → (n : List ℕ) → redo_file_named new n ≡ redo_file_named old n
made_named name old new redo is none zero n = ap redo_or_none (is n) ∙ by_name (bytes_eq n name) refl
  where
    by_name : (t : Bool) → bytes_eq n name ≡ t → redo_or_none (if t then Some redo else get_by_text old n) ≡ redo_or_none (get_by_text old n)
    by_name true same = zero ∙ sym (ap redo_or_none (ap (get_by_text old) ((bytes_eq-Decides n name).0 same) ∙ none))
    by_name false other = refl

pub not_some : (o : Option MemRedo) → is_some o ≡ false → o ≡ None
not_some None h = refl
not_some (Some redo) h = absurd (clash h)
  where
    clash : true ≡ false → ⊥
    clash e = cc

-- bytes that a device holds which holds the same as at first
pub same_seen : (bytes : List ℕ) (now first : Contents) (region : Region) (at : ℕ) → Some now ≡ Some first → now region at ≡ bytes → bytes ≡ first region at
same_seen bytes now first region at same is = sym is ∙ ap (λ (m : Contents). m region at) (some_same now first same)
  where
    some_same : (a b : Contents) → Some a ≡ Some b → a ≡ b
    some_same a b e = cc

-- what was read of a redo region, or that it was lost
pub told_or_lost : (read : Option (BTreeMap ℕ Block)) (told : Option Stored) (size : ℕ) (c : Contents) (blocks : Region → ℕ) → size ≡ blocks Redo → (IsNone read → told ≡ None)
    → IfSome read (λ m. told ≡ Some (redo_held size (stored m))) → IfSome read (λ m. (b : ℕ) → b < blocks Redo → stored m b ≡ c Redo b) → (told ≡ stored_redo (Some c) blocks) ⊎ (told ≡ None)
told_or_lost None told size c blocks same lost held read = inr (lost refl)
told_or_lost (Some m) told size c blocks same lost held read =
    inl (held ∙ (same_held size (c Redo) (stored m) (λ b low. read b (omega (arith, low, same))) ∙ ap (λ (n : ℕ). Some (redo_held n (c Redo))) same))
