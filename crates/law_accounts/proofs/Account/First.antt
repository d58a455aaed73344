-- First events keep each block sound.
use Rattle.std.specs.Prelude.{ℕ, Bool, true, false, List, [], ◌∷◌, ◌≡◌, ◌==◌, ◌+◌, ◌*◌, ◌<◌, ◌≤◌, refl, if◌then◌else◌}
use Rattle.std.proofs.Common.{sym, ap, subst, inl, inr, ◌∙◌, arith}
use Rattle.std.proofs.lemmas.Bool.{cases_Bool, eqb-true, eq-eqb, true≢false}
use Rattle.fs_change.specs.Chains.{most_chains}
use Rattle.fs_change.specs.Changes.{converted, data_of, data_word, extent_of, intent, mapping_of, shared, unmapped}
use Rattle.fs_change.specs.Loose.{Loosely}
use Rattle.fs_change.specs.Parts.{at_only, set_chain}
use Rattle.fs_change.specs.Records.{add_mapping, is_unwritten_at, take_piece}
use Rattle.fs_change.specs.Changes.{change_data}
use Rattle.fs_model.specs.declared.entry.Extent.{Extent}
use Rattle.fs_model.specs.declared.entry.Piece.{Piece}
use Rattle.fs_model.specs.declared.entry.SharedPiece.{SharedPiece}
use Rattle.fs_state.specs.State.{State, Group}
use Rattle.fs_state.specs.declared.intent.Intent.{Intent}
use Rattle.fs_state.specs.declared.intent.IntentKind.TheVariants.{RmapAdd, RmapRemove, RmapChange, RefMore, RefLess}
use Rattle.sblock.specs.declared.kind.Kind.{Kind}
use Rattle.law_accounts.specs.Account.Accounts.{adds, due, frees, hits, ledger_in, ledger_of, lowers, owes, raises, removes}
use Rattle.law_accounts.specs.Account.Firsts.{ConvertedSound, ConvertedStays, GainsOwner, LosesPiece, SharedSound, UnmappedSound, run_shared}
use Rattle.law_accounts.specs.Account.Ledger.{Ledger, Sound}
use Rattle.law_accounts.proofs.Account.Blocks.{becomes_written, carry, piece_goes, piece_shared}
use Rattle.law_accounts.proofs.Account.Sums.{came, came_one, hit_bit}

-- ---- what is open after a first event moves no block

module _ (a x c : State) (g : ℕ) (left : List Kind) (l : Loosely g left [] a x c) where
  same_group : (h : ℕ) → x.group h ≡ c.group h
  same_group h = elim (cases_Bool (h == g)) [
    | inl same ↦ let e : h ≡ g = eqb-true h g same in sym (ap c.group e ∙ l.inside ∙ ap x.group (sym e))
    | inr other ↦ sym (l.others h (λ e. true≢false (sym (eq-eqb h g e) ∙ other)))
  ]

  pub still_sound : (h b owned alone : ℕ) → Sound (ledger_of x h b owned alone) → Sound (ledger_of c h b owned alone)
  still_sound h b owned alone s = subst Sound (λ i. ledger_in (same_group h i) (sym l.chains i) h b owned alone) s

-- ---- sums of two intents, or one

keep : (x y : ℕ) → x ≡ y + (0 + 0) → y ≡ x
keep x y e = omega (arith, e)

keep_one : (x y : ℕ) → x ≡ y + 0 → y ≡ x
keep_one x y e = omega (arith, e)

first_more : (x y s : ℕ) → x ≡ y + (s + 0) → s ≡ 1 → y + 1 ≡ x
first_more x y s e f = omega (arith, e, f)

second_more : (x y s : ℕ) → x ≡ y + (0 + s) → s ≡ 1 → y + 1 ≡ x
second_more x y s e f = omega (arith, e, f)

first_none : (x y s : ℕ) → x ≡ y + (s + 0) → s ≡ 0 → y ≡ x
first_none x y s e f = omega (arith, e, f)

second_none : (x y s : ℕ) → x ≡ y + (0 + s) → s ≡ 0 → y ≡ x
second_none x y s e f = omega (arith, e, f)

less_none : (x y s : ℕ) → x ≡ y + s → s ≡ 0 → x ≡ y
less_none x y s e f = omega (arith, e, f)

less_one : (x y s : ℕ) → x ≡ y + s → s ≡ 1 → x ≡ y + 1
less_one x y s e f = omega (arith, e, f)

plus_none : (x s : ℕ) → s ≡ 0 → x ≡ x + s
plus_none x s f = omega (arith, f)

plus_one : (x s : ℕ) → s ≡ 1 → x + 1 ≡ x + s
plus_one x s f = omega (arith, f)

-- ---- a piece leaves its file

module _ (p : Group) (cs : ℕ → List Intent) (c ino word : ℕ) (e : Extent) (g b owned alone still other : ℕ) (lt : c < most_chains) (empty : cs c ≡ [])
    (owned_then : owned ≡ still + hits g b e) (fewer : other ≤ alone) (elsewhere : hits g b e ≡ 0 → other ≡ alone) (nobody : 1 ≤ other → still ≡ 0 → ⊥)
    (holders : 2 * due (owes raises g b) cs ≤ still) (h : Sound (ledger_in p cs g b owned alone)) where
  abbrev leaving : ℕ → List Intent
  leaving = at_only c (intent RmapRemove ino word e ∷ intent RefLess 0 0 e ∷ []) cs

  news : (f : Intent → ℕ) → due f leaving ≡ due f cs + (f (intent RmapRemove ino word e) + f (intent RefLess 0 0 e))
  news f = came f cs c (intent RmapRemove ino word e) (intent RefLess 0 0 e) lt empty

  pub piece_leaves : Sound (ledger_in p leaving g b still other)
  piece_leaves = elim (hit_bit g b e) [
    | inl z ↦ carry (ledger_in p cs g b owned alone) _ refl (keep _ _ (news (owes raises g b))) (first_none _ _ (hits g b e) (news (owes removes g b)) z) (second_none _ _ (hits g b e) (news (owes lowers g b)) z)
        (keep _ _ (news (owes frees g b))) (keep _ _ (news (owes adds g b))) refl refl (less_none owned still (hits g b e) owned_then z) (sym (elsewhere z)) h
    | inr z ↦
        let l : Ledger = ledger_in p cs g b owned alone in
        carry (record l { goes = l.goes + 1; less = l.less + 1; owned = still; alone = other }) _ refl (keep _ _ (news (owes raises g b))) (first_more _ _ (hits g b e) (news (owes removes g b)) z) (second_more _ _ (hits g b e) (news (owes lowers g b)) z)
        (keep _ _ (news (owes frees g b))) (keep _ _ (news (owes adds g b))) refl refl refl refl
        (piece_goes l h still other (less_one owned still (hits g b e) owned_then z) fewer nobody holders)
  ]

unmapped_in : (a : State) (m : Piece) (g b owned alone still other : ℕ) → m.chain < most_chains → a.chains m.chain ≡ [] → LosesPiece a m g b owned alone still other
    → Sound (ledger_of a g b owned alone) → Sound (ledger_of (unmapped m a) g b still other)
unfolding unmapped
unmapped_in a m g b owned alone still other lt empty k h =
    piece_leaves (a.group g) a.chains m.chain m.ino (data_word (is_unwritten_at m.offset (data_of a m.ino)) m.offset) (extent_of m) g b owned alone still other lt empty k.owned_then k.fewer k.elsewhere k.nobody_alone k.holders h

pub unmapped_sound : UnmappedSound
unmapped_sound a c left m g b owned alone still other s k h =
    still_sound a s.decided c m.group left s.loosely g b still other
    (subst (λ (y : State). Sound (ledger_of y g b still other)) (sym s.row.1) (unmapped_in a m g b owned alone still other s.row.0.first.open_chain s.row.0.first.owes_nothing k h))

-- ---- a written piece is mapped twice

module _ (p : Group) (cs : ℕ → List Intent) (c ino word : ℕ) (e : Extent) (g b owned alone : ℕ) (lt : c < most_chains) (empty : cs c ≡ [])
    (twice : hits g b e ≡ 1 → (1 ≤ owned) × (alone ≡ 0) × (2 * (due (owes raises g b) cs + 1) ≤ owned + 1)) (h : Sound (ledger_in p cs g b owned alone)) where
  abbrev sharing : ℕ → List Intent
  sharing = at_only c (intent RmapAdd ino word e ∷ intent RefMore 0 0 e ∷ []) cs

  adding : (f : Intent → ℕ) → due f sharing ≡ due f cs + (f (intent RmapAdd ino word e) + f (intent RefMore 0 0 e))
  adding f = came f cs c (intent RmapAdd ino word e) (intent RefMore 0 0 e) lt empty

  pub piece_is_shared : Sound (ledger_in p sharing g b (owned + hits g b e) alone)
  piece_is_shared = elim (hit_bit g b e) [
    | inl z ↦ carry (ledger_in p cs g b owned alone) _ refl (second_none _ _ (hits g b e) (adding (owes raises g b)) z) (keep _ _ (adding (owes removes g b))) (keep _ _ (adding (owes lowers g b)))
        (keep _ _ (adding (owes frees g b))) (first_none _ _ (hits g b e) (adding (owes adds g b)) z) refl refl (plus_none owned (hits g b e) z) refl h
    | inr z ↦
        let l : Ledger = ledger_in p cs g b owned alone in
        let k = twice z in
        carry (record l { comes = l.comes + 1; more = l.more + 1; owned = l.owned + 1 }) _ refl (second_more _ _ (hits g b e) (adding (owes raises g b)) z) (keep _ _ (adding (owes removes g b))) (keep _ _ (adding (owes lowers g b)))
        (keep _ _ (adding (owes frees g b))) (first_more _ _ (hits g b e) (adding (owes adds g b)) z) refl refl (plus_one owned (hits g b e) z) refl
        (piece_shared l h k.0 k.1 k.2)
  ]

shared_in : (a : State) (m : SharedPiece) (g b owned alone : ℕ) → m.chain < most_chains → a.chains m.chain ≡ [] → GainsOwner a m g b owned alone
    → Sound (ledger_of a g b owned alone) → Sound (ledger_of (shared m a) g b (owned + hits g b (run_shared m)) alone)
unfolding shared
shared_in a m g b owned alone lt empty k h =
    piece_is_shared (a.group g) a.chains m.chain m.to m.to_offset (run_shared m) g b owned alone lt empty k h

pub shared_sound : SharedSound
shared_sound a c left m g b owned alone s k h =
    still_sound a s.decided c m.group left s.loosely g b (owned + hits g b (run_shared m)) alone
    (subst (λ (y : State). Sound (ledger_of y g b (owned + hits g b (run_shared m)) alone)) (sym s.row.1) (shared_in a m g b owned alone s.row.0.to_first.open_chain s.row.0.to_first.owes_nothing k h))

-- ---- an unwritten piece becomes written

module _ (p : Group) (cs : ℕ → List Intent) (c ino word : ℕ) (e : Extent) (g b owned alone other : ℕ) (lt : c < most_chains) (empty : cs c ≡ [])
    (fewer : alone ≡ other + hits g b e) (h : Sound (ledger_in p cs g b owned alone)) where
  abbrev changing : ℕ → List Intent
  changing = at_only c (intent RmapChange ino word e ∷ []) cs

  turning : (f : Intent → ℕ) → due f changing ≡ due f cs + f (intent RmapChange ino word e)
  turning f = came_one f cs c (intent RmapChange ino word e) lt empty

  carried : Sound (ledger_in p cs g b owned other) → Sound (ledger_in p changing g b owned other)
  carried s = carry (ledger_in p cs g b owned other) _ refl (keep_one _ _ (turning (owes raises g b))) (keep_one _ _ (turning (owes removes g b))) (keep_one _ _ (turning (owes lowers g b)))
      (keep_one _ _ (turning (owes frees g b))) (keep_one _ _ (turning (owes adds g b))) refl refl refl refl s

  pub piece_is_written : Sound (ledger_in p changing g b owned other)
  piece_is_written = elim (hit_bit g b e) [
    | inl z ↦ carried (subst (λ k. Sound (ledger_in p cs g b owned k)) (less_none alone other (hits g b e) fewer z) h)
    | inr z ↦ carried (becomes_written (ledger_in p cs g b owned alone) h other (less_one alone other (hits g b e) fewer z))
  ]

abbrev written_state : State → Piece → State
written_state a m =
    set_chain m.chain (intent RmapChange m.ino m.offset (extent_of m) ∷ [])
    (change_data m.ino (λ ms. add_mapping a.geometry.agblklog (mapping_of a m.offset m.group m.block m.count false) (take_piece m.offset m.count ms)) a)

converted_in : (a : State) (m : Piece) (g b owned alone other : ℕ) → m.chain < most_chains → a.chains m.chain ≡ [] → is_unwritten_at m.offset (data_of a m.ino) ≡ true → alone ≡ other + hits g b (extent_of m)
    → Sound (ledger_of a g b owned alone) → Sound (ledger_of (converted m a) g b owned other)
unfolding converted
converted_in a m g b owned alone other lt empty new fewer h =
    subst (λ (k : Bool). Sound (ledger_of (if k then written_state a m else a) g b owned other)) (sym new)
    (piece_is_written (a.group g) a.chains m.chain m.ino m.offset (extent_of m) g b owned alone other lt empty fewer h)

pub converted_sound : ConvertedSound
converted_sound a c left m g b owned alone other s new fewer h =
    still_sound a s.decided c m.group left s.loosely g b owned other
    (subst (λ (y : State). Sound (ledger_of y g b owned other)) (sym s.row.1) (converted_in a m g b owned alone other s.row.0.first.open_chain s.row.0.first.owes_nothing new fewer h))

stays_in : (a : State) (m : Piece) (g b owned alone : ℕ) → is_unwritten_at m.offset (data_of a m.ino) ≡ false → Sound (ledger_of a g b owned alone) → Sound (ledger_of (converted m a) g b owned alone)
unfolding converted
stays_in a m g b owned alone old h = subst (λ (k : Bool). Sound (ledger_of (if k then written_state a m else a) g b owned alone)) (sym old) h

pub converted_stays : ConvertedStays
converted_stays a c left m g b owned alone s old h =
    still_sound a s.decided c m.group left s.loosely g b owned alone
    (subst (λ (y : State). Sound (ledger_of y g b owned alone)) (sym s.row.1) (stays_in a m g b owned alone old h))
