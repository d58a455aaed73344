-- An entry changes its own group and its own chain alone.
use Rattle.std.proofs.Common.{◌≡◌, ℕ, ◌==◌, ◌++◌, Bool, true, false, not, cond, List, [], ◌∷◌, filter, sym, ap, subst, refl, ◌∙◌, Option, Some, None, eq-eqb}
use Rattle.std.proofs.lemmas.Bool.{true≢false}
use Rattle.std.specs.Prelude.{if◌then◌else◌}
use Rattle.fs_model.specs.declared.entry.Entry.{Entry}
use Rattle.fs_model.specs.declared.entry.Entry.TheVariants as entries
use Rattle.fs_model.specs.declared.entry.Extent.{Extent}
use Rattle.fs_model.specs.declared.entry.Piece.{Piece}
use Rattle.fs_model.specs.declared.entry.SharedPiece.{SharedPiece}
use Rattle.fs_model.specs.declared.unit.Trust.TheVariants as trusts
use Rattle.fs_model.specs.declared.unit.Unit.{Unit as ScrubUnit}
use Rattle.fs_model.specs.declared.verdict.Verdict.{Verdict}
use Rattle.rmap_recs.specs.Owners.{number_of}
use Rattle.rmap_recs.specs.declared.owner.Owner.TheVariants.{Ag, Inodes}
use Rattle.sblock.specs.declared.kind.Kind.{Kind}
use Rattle.sblock.specs.declared.kind.Kind.TheVariants.{Rmap}
use Rattle.fs_state.specs.State.{State, Group}
use Rattle.fs_state.specs.declared.intent.Intent.{Intent}
use Rattle.fs_state.specs.declared.intent.IntentKind.TheVariants.{RmapAdd, RmapRemove, RmapChange, RefMore, RefLess}
use Rattle.fs_state.specs.Derive.{derive}
use Rattle.fs_state.specs.Records.{kinds_of}
use Rattle.fs_state.specs.Lists.{numbers}
use Rattle.fs_change.specs.Changes.{mapped, unmapped, converted, shared, rmap_done, ref_done, freed, taken, given, refilled, trimmed, marked, judged, judge, reserved, released, reaped, take_free, give_free, give_owner, take_owner, intent, data_word, extent_of, data_of, do_mapping, change_count, to_free, behind, inodes_follow, turn, list_chunk, chunk_extent, make_chunk, is_in_extent, own_new, leave, block_extent, owner_of_run, reap_in}
use Rattle.fs_change.specs.Laws.{ChangesOneGroup, StaysBeside, chain_of}
use Rattle.fs_change.specs.Parts.{at_only, in_group, edit, set_trust}
use Rattle.fs_change.specs.Records.{is_unwritten_at}
use Rattle.fs_change.specs.Step.{Row, group_of_entry, group_of_inode}
use Rattle.fs_change.specs.Switch.{switched, moved, move_blocks, derived_in, hold, exact_counters, unit_owner, owned_by, join_limbo}

-- the function, but x at k, elsewhere
pub elsewhere : {X : Type 0} (k : ℕ) (x : X) (f : ℕ → X) (i : ℕ) → (i == k) ≡ false → at_only k x f i ≡ f i
elsewhere k x f i h = ap (λ b. cond b x (f i)) h

-- what one group becomes leaves the others
pub in_other : (g : ℕ) (f : Group → Group) (a : State) (h : ℕ) → (h == g) ≡ false → (in_group g f a).group h ≡ a.group h
in_other g f a h out = elsewhere g (f (a.group g)) a.group h out

pub either : (P : State → Type 0) (b : Bool) (x y : State) → P x → P y → P (if b then x else y)
either P true x y p q = p
either P false x y p q = q

by_mapped : (m : Piece) (a : State) → StaysBeside a (entries.Mapped m) (mapped m a)
unfolding mapped
by_mapped m a = record {
  geometry = refl;
  groups = λ h out. in_other m.group (take_free [] (extent_of m)) a h out;
  chains = λ c out. elsewhere m.chain (intent RmapAdd m.ino (data_word true m.offset) (extent_of m) ∷ []) a.chains c out;
}

by_unmapped : (m : Piece) (a : State) → StaysBeside a (entries.Unmapped m) (unmapped m a)
unfolding unmapped
by_unmapped m a = record {
  geometry = refl;
  groups = λ h out. refl;
  chains = λ c out. elsewhere m.chain (intent RmapRemove m.ino (data_word (is_unwritten_at m.offset (data_of a m.ino)) m.offset) (extent_of m) ∷ intent RefLess 0 0 (extent_of m) ∷ []) a.chains c out;
}

by_converted : (m : Piece) (a : State) → StaysBeside a (entries.Converted m) (converted m a)
unfolding converted
by_converted m a = either (StaysBeside a (entries.Converted m)) (is_unwritten_at m.offset (data_of a m.ino)) _ a
    (record {
      geometry = refl;
      groups = λ h out. refl;
      chains = λ c out. elsewhere m.chain (intent RmapChange m.ino m.offset (extent_of m) ∷ []) a.chains c out;
    })
    (record { geometry = refl; groups = λ h out. refl; chains = λ c out. refl })

by_shared : (m : SharedPiece) (a : State) → StaysBeside a (entries.Shared m) (shared m a)
unfolding shared
by_shared m a =
    let e : Extent = record { group = m.group; block = m.block; count = m.count } in
    record {
      geometry = refl;
      groups = λ h out. refl;
      chains = λ c out. elsewhere m.chain (intent RmapAdd m.to m.to_offset e ∷ intent RefMore 0 0 e ∷ []) a.chains c out;
    }

by_rmap : (left : List Kind) (c ino g b n : ℕ) (i : Intent) (rest : List Intent) (a : State) → i.group ≡ g → StaysBeside a (entries.RmapDone c ino g b n) (rmap_done left c i rest a)
unfolding rmap_done
by_rmap left c ino g b n i rest a at = record {
  geometry = refl;
  groups = λ h out. in_other i.group (edit left Rmap (do_mapping i.kind i)) a h (ap (λ k. h == k) at ∙ out);
  chains = λ d out. elsewhere c rest a.chains d out;
}

by_ref : (left : List Kind) (c g b n : ℕ) (more : Bool) (i : Intent) (rest : List Intent) (a : State) → StaysBeside a (entries.RefDone c g b n more) (ref_done left c more (record { group = g; block = b; count = n }) i rest a)
unfolding ref_done
by_ref left c g b n more i rest a =
    let e : Extent = record { group = g; block = b; count = n } in
    record {
      geometry = refl;
      groups = λ h out. in_other g (change_count left more e) a h out;
      chains = λ d out. elsewhere c (to_free more (a.group g) e ++ behind n i ++ rest) a.chains d out;
    }

by_freed : (left : List Kind) (c g b n : ℕ) (kept : Bool) (rest : List Intent) (a : State) → StaysBeside a (entries.Freed c g b n kept) (freed left c kept (record { group = g; block = b; count = n }) rest a)
unfolding freed
by_freed left c g b n true rest a = record { geometry = refl; groups = λ h out. refl; chains = λ d out. elsewhere c rest a.chains d out }
by_freed left c g b n false rest a = record {
  geometry = refl;
  groups = λ h out. in_other g (give_free left (record { group = g; block = b; count = n })) a h out;
  chains = λ d out. elsewhere c rest a.chains d out;
}

made_beside : (g : ℕ) (chunk : Option ℕ) (a : State) (h : ℕ) → (h == g) ≡ false → (make_chunk g chunk a).group h ≡ a.group h
made_beside g None a h out = refl
made_beside g (Some b) a h out = in_other g (λ p. list_chunk b (give_owner [] (number_of Inodes) (chunk_extent g b) (take_free [] (chunk_extent g b) p))) a h out

made_geometry : (g : ℕ) (chunk : Option ℕ) (a : State) → (make_chunk g chunk a).geometry ≡ a.geometry
made_geometry g None a = refl
made_geometry g (Some b) a = refl

made_chains : (g : ℕ) (chunk : Option ℕ) (a : State) → (make_chunk g chunk a).chains ≡ a.chains
made_chains g None a = refl
made_chains g (Some b) a = refl

by_taken : (writer ino uid i : ℕ) (chunk : Option ℕ) (a : State) → StaysBeside a (entries.Taken writer ino uid chunk) (taken (group_of_inode a ino) i ino uid chunk a)
unfolding taken
by_taken writer ino uid i chunk a =
    let g : ℕ = group_of_inode a ino in
    record {
      geometry = made_geometry g chunk a;
      groups = λ h out. in_other g (λ q. inodes_follow (a.group g) (turn false i q)) (make_chunk g chunk a) h out ∙ made_beside g chunk a h out;
      chains = λ c out. ap (λ (f : ℕ → List Intent). f c) (made_chains g chunk a);
    }

by_given : (writer ino i : ℕ) (a : State) → StaysBeside a (entries.Given writer ino) (given (group_of_inode a ino) i ino a)
unfolding given
by_given writer ino i a = record {
  geometry = refl;
  groups = λ h out. in_other (group_of_inode a ino) (λ p. inodes_follow p (turn true i p)) a h out;
  chains = λ c out. refl;
}

by_refilled : (e : Extent) (a : State) → StaysBeside a (entries.Refilled e) (refilled e a)
unfolding refilled
by_refilled e a = record {
  geometry = refl;
  groups = λ h out. in_other e.group (λ p. give_owner [] (number_of Ag) e (take_free [] e (record p { free_list = p.free_list ++ numbers e.block e.count }))) a h out;
  chains = λ c out. refl;
}

by_trimmed : (e : Extent) (a : State) → StaysBeside a (entries.Trimmed e) (trimmed e a)
unfolding trimmed
by_trimmed e a = record {
  geometry = refl;
  groups = λ h out. in_other e.group (λ p. give_free [] e (take_owner [] (number_of Ag) e (record p { free_list = filter (λ b. not (is_in_extent e b)) p.free_list }))) a h out;
  chains = λ c out. refl;
}

by_marked : (g : ℕ) (k : Kind) (e : Entry) (a : State) → group_of_entry a e ≡ g → chain_of e ≡ None → StaysBeside a e (marked g k a)
unfolding marked
by_marked g k e a at none = record {
  geometry = refl;
  groups = λ h out. in_other g (set_trust trusts.Sick k) a h (ap (λ j. h == j) (sym at) ∙ out);
  chains = λ c out. refl;
}

by_reserved : (left : List Kind) (g b : ℕ) (unit : ScrubUnit) (spare : Bool) (a : State) → StaysBeside a (entries.Reserved g unit b spare) (reserved left g unit b spare a)
unfolding reserved
by_reserved left g b unit spare a = record {
  geometry = refl;
  groups = λ h out. in_other g (λ p. own_new left unit (block_extent g b) spare (leave left unit (block_extent g b) spare (record p { reserve = p.reserve ++ owned_by (unit_owner unit) b ∷ [] }))) a h out;
  chains = λ c out. refl;
}

by_released : (g : ℕ) (unit : ScrubUnit) (a : State) → StaysBeside a (entries.Released g unit) (released g a)
unfolding released
by_released g unit a = record {
  geometry = refl;
  groups = λ h out. in_other g (λ p. record p { reserve = []; limbo = join_limbo p.reserve p.limbo }) a h out;
  chains = λ c out. refl;
}

by_judged : (g : ℕ) (unit : ScrubUnit) (verdict : Verdict) (a : State) → StaysBeside a (entries.Verdict g unit verdict) (judged g unit verdict a)
unfolding judged
by_judged g unit verdict a = record { geometry = refl; groups = λ h out. in_other g (judge verdict unit) a h out; chains = λ c out. refl }

by_switched : (g root second : ℕ) (unit : ScrubUnit) (blocks : Kind → List ℕ) (a : State) → StaysBeside a (entries.Switched g unit root second) (switched a g unit blocks)
unfolding switched moved
by_switched g root second unit blocks a =
    let m : State = moved a g unit blocks in
    let d : State = derived_in m g unit in
    record {
      geometry = refl;
      groups = λ h out. in_other g (λ p. record p { counters = exact_counters d g unit }) d h out ∙ in_other g (hold (derive m g) (kinds_of unit)) m h out ∙ in_other g (move_blocks a g unit blocks) a h out;
      chains = λ c out. refl;
    }

by_reaped : (left : List Kind) (owner : ℕ) (e : Extent) (a : State) → StaysBeside a (entries.Reaped e) (reaped left owner e a)
unfolding reaped
by_reaped left owner e a = record {
  geometry = refl;
  groups = λ h out. in_other e.group (reap_in left owner e) a h out;
  chains = λ c out. refl;
}

-- what is equal to such a state is one
as_is : (a : State) (e : Entry) (x y : State) → x ≡ y → StaysBeside a e y → StaysBeside a e x
as_is a e x y same s = subst (StaysBeside a e) (sym same) s

pub decided : (a x : State) (left : List Kind) (e : Entry) → Row a left e x → StaysBeside a e x
decided a x left (entries.Mapped m) r = as_is a _ x _ r.1 (by_mapped m a)
decided a x left (entries.Unmapped m) r = as_is a _ x _ r.1 (by_unmapped m a)
decided a x left (entries.Converted m) r = as_is a _ x _ r.1 (by_converted m a)
decided a x left (entries.Shared m) r = as_is a _ x _ r.1 (by_shared m a)
decided a x left (entries.RmapDone c ino g b n) r = as_is a _ x _ r.6 (by_rmap left c ino g b n r.0 r.1 a r.2.group)
decided a x left (entries.RefDone c g b n more) r = as_is a _ x _ r.5 (by_ref left c g b n more r.0 r.1 a)
decided a x left (entries.Freed c g b n kept) r = as_is a _ x _ r.6 (by_freed left c g b n kept r.1 a)
decided a x left (entries.Taken writer ino uid chunk) r = as_is a _ x _ r.3 (by_taken writer ino uid r.0 chunk a)
decided a x left (entries.Given writer ino) r = as_is a _ x _ r.4 (by_given writer ino r.0 a)
decided a x left (entries.Refilled e) r = as_is a _ x _ r.1 (by_refilled e a)
decided a x left (entries.Trimmed e) r = as_is a _ x _ r.1 (by_trimmed e a)
decided a x left (entries.Marked g k cause) r = as_is a _ x _ r.2 (by_marked g k (entries.Marked g k cause) a refl refl)
decided a x left (entries.Reserved g unit b spare) r = as_is a _ x _ r.1 (by_reserved left g b unit spare a)
decided a x left (entries.Released g unit) r = as_is a _ x _ r.1 (by_released g unit a)
decided a x left (entries.Fault g unit fault) r = as_is a _ x _ r.2 (by_marked g _ (entries.Fault g unit fault) a refl refl)
decided a x left (entries.Verdict g unit verdict) r = as_is a _ x _ r.1 (by_judged g unit verdict a)
decided a x left (entries.Switched g unit root second) r = as_is a _ x _ r.4 (by_switched g root second unit r.0 a)
decided a x left (entries.Reaped e) r = as_is a _ x _ r.1 (by_reaped left (owner_of_run (a.group e.group) e) e a)
decided a x left (entries.Reply writer line code done refused begun) r = as_is a _ x _ r (record { geometry = refl; groups = λ h out. refl; chains = λ c out. refl })

not_same : (h g : ℕ) → (h == g) ≡ false → h ≡ g → ⊥
not_same h g out same = true≢false (sym (eq-eqb h g same) ∙ out)

pub changes_one_group : ChangesOneGroup
changes_one_group a b left e s =
    let d : StaysBeside a e s.decided = decided a s.decided left e s.row in
    record {
      geometry = s.loosely.geometry ∙ d.geometry;
      groups = λ h out. s.loosely.others h (not_same h (group_of_entry a e) out) ∙ d.groups h out;
      chains = λ c out. ap (λ (f : ℕ → List Intent). f c) s.loosely.chains ∙ d.chains c out;
    }
