-- Forks that an entry changes, and the claims then.
use Rattle.std.proofs.Common.{◌≡◌, ℕ, ◌+◌, ◌*◌, ◌<◌, ◌≤◌, ◌==◌, ◌&&◌, Bool, true, false, cond, List, [], ◌++◌, map, flat_map, Some, refl, sym, ap, ap₂, subst, ◌∙◌, arith, eqb-true, eq-eqb}
use Rattle.std.specs.Prelude.{◌/◌, ◌%◌, Result, Ok, sum_by, if◌then◌else◌}
use Rattle.std.proofs.lemmas.Bool.{false≢true}
use Rattle.law_accounts.specs.Account.Accounts.{alone_at, at_span, hits, owned_at}
use Rattle.law_accounts.specs.Account.Firsts.{run_shared}
use Rattle.law_accounts.specs.Account.Stated.{ChunksStay}
use Rattle.law_accounts.proofs.Account.Framed.{SameParts, edit_parts, same_parts}
use Rattle.law_writers.proofs.Change.Convert.{left_apart, left_placed}
use Rattle.law_writers.proofs.Change.Pieces.{cut_by}
use Rattle.law_writers.proofs.Change.Rows as chunk_rows
use Rattle.law_writers.specs.Change.Forks.{AreApart, Each, IsPlaced, IsRunAt, IsSound, LieFrom}
use Rattle.dinode_core.specs.declared.mapping.Fork.{Fork}
use Rattle.dinode_core.specs.declared.mapping.Fork.TheVariants as forks
use Rattle.dinode_core.specs.declared.mapping.ForkFault.{ForkFault}
use Rattle.dinode_core.specs.declared.mapping.Mapping.{Mapping}
use Rattle.fs_change.proofs.Inodes.{data_beside}
use Rattle.fs_change.specs.Changes.{by_count, change_data, changed_fork, converted, data_of, extent_of, known_spans, mapped, mapping_of, shared, take_free, unmapped}
use Rattle.fs_change.specs.Parts.{data_only, edit, in_group, records_in}
use Rattle.fs_change.specs.Records.{add_mapping, by_start, is_piece, is_unwritten_at, span, take_piece, take_span}
use Rattle.fs_change.specs.Step.{Row}
use Rattle.fs_state.specs.Chunks.{inodes, inodes_in}
use Rattle.fs_state.specs.Claims.{Claimed, attribute, data_claims, fork_of, fork_tree_claims, mapping_claims, read_fork}
use Rattle.fs_state.specs.Contradiction.{is_written_data}
use Rattle.fs_state.specs.Lists.{numbers}
use Rattle.fs_model.specs.declared.claim.Claim.TheVariants.{Attr, Data}
use Rattle.fs_model.specs.declared.entry.Entry.TheVariants as entries
use Rattle.fs_model.specs.declared.entry.Extent.{Extent}
use Rattle.fs_model.specs.declared.entry.Piece.{Piece}
use Rattle.fs_model.specs.declared.entry.SharedPiece.{SharedPiece}
use Rattle.fs_state.specs.Apart.{is_inode}
use Rattle.fs_state.specs.State.{ForkList, Group, State}
use Rattle.geom.proofs.ApartLemmas.{splits_in}
use Rattle.geom.specs.Apart.{HasFitting}
use Rattle.geom.specs.Layout.{Layout, fs_block_of, group_len_of, inode_at, split_of}
use Rattle.law_accounts.proofs.Owner.Members.{metadata_same, same_chunks}
use Rattle.sblock.specs.declared.kind.Kind.{Kind}
use Rattle.sblock.specs.declared.kind.Kind.TheVariants.{Bno, Cnt}
use Rattle.law_writers.proofs.Fork.Forks.{OneFile, added_placed, alone_data, claims_less, claims_more, owned_data}
use Rattle.law_writers.proofs.Fork.Shares.{added_weighs, lost_weighs, share, weigh, weigh_at}
use Rattle.law_writers.specs.Fork.Counted.{ConvertedClaims, MappedClaims, SharedClaims, UnmappedClaims}

-- ---- one data fork changes

pub inodes_same : (a x : State) → x.geometry ≡ a.geometry → ChunksStay a x → inodes x ≡ inodes a
unfolding inodes inodes_in
inodes_same a x at stay = λ i. flat_map (λ h. flat_map (λ u. map (λ n. inode_at (at i) h (8 * u + n / 8) (n % 8)) (numbers 0 64)) (same_chunks a x at stay h i)) (numbers 0 (at i).agcount)

module _ (a x : State) (ino : ℕ) (f : List Mapping → List Mapping) (at : x.geometry ≡ a.geometry) (forks_are : x.fork ≡ (change_data ino f a).fork) where
  other_fork : (o : ℕ) → (o == ino) ≡ false → x.fork o ≡ a.fork o
  other_fork o out = ap (λ (F : ℕ → Fork → Result ForkList ForkFault). F o) forks_are ∙ data_beside ino f a o out

  own_fork : x.fork ino ≡ data_only (Ok (changed_fork f (fork_of a ino forks.Data))) (a.fork ino)
  own_fork = ap (λ (F : ℕ → Fork → Result ForkList ForkFault). F ino) forks_are ∙ ap (λ b. cond b (data_only (Ok (changed_fork f (fork_of a ino forks.Data))) (a.fork ino)) (a.fork ino)) (eq-eqb ino ino refl)

  pub data_is : data_of x ino ≡ f (data_of a ino)
  data_is = ap (λ (F : Fork → Result ForkList ForkFault). (read_fork (F forks.Data)).mappings) own_fork

  attr_same : (o : ℕ) → fork_of x o forks.Attr ≡ fork_of a o forks.Attr
  attr_same o = by (o == ino) refl
    where
      by : (t : Bool) → (o == ino) ≡ t → fork_of x o forks.Attr ≡ fork_of a o forks.Attr
      by true e = subst (λ n. fork_of x n forks.Attr ≡ fork_of a n forks.Attr) (sym (eqb-true o ino e)) (ap (λ (F : Fork → Result ForkList ForkFault). read_fork (F forks.Attr)) own_fork)
      by false e = ap (λ (F : Fork → Result ForkList ForkFault). read_fork (F forks.Attr)) (other_fork o e)

  blocks_same : (o : ℕ) → (fork_of x o forks.Data).blocks ≡ (fork_of a o forks.Data).blocks
  blocks_same o = by (o == ino) refl
    where
      by : (t : Bool) → (o == ino) ≡ t → (fork_of x o forks.Data).blocks ≡ (fork_of a o forks.Data).blocks
      by true e = subst (λ n. (fork_of x n forks.Data).blocks ≡ (fork_of a n forks.Data).blocks) (sym (eqb-true o ino e)) (ap (λ (F : Fork → Result ForkList ForkFault). (read_fork (F forks.Data)).blocks) own_fork)
      by false e = ap (λ (F : Fork → Result ForkList ForkFault). (read_fork (F forks.Data)).blocks) (other_fork o e)

  pub one_file : (h : ℕ) → is_inode a ino ≡ true → ChunksStay a x → SameParts (a.group h) (x.group h) → OneFile a x h ino
  one_file h is stay same = record {
    inode = is;
    metadata = metadata_same a x h at stay same;
    inodes = inodes_same a x at stay;
    data_beside = λ o out i. mapping_claims (at i) h (Data o) o 0 (read_fork (other_fork o out i forks.Data)).mappings;
    attributes = λ o i. mapping_claims (at i) h (Attr o) o attribute (attr_same o i).mappings;
    trees = λ o i. fork_tree_claims (at i) h o 0 (blocks_same o i) ++ fork_tree_claims (at i) h o attribute (attr_same o i).blocks;
  }

  -- how often the file has the block then
  weighed : (h b : ℕ) (t : Bool → Bool) → sum_by (weigh x.geometry h b t) (data_of x ino) ≡ sum_by (weigh a.geometry h b t) (f (data_of a ino))
  weighed h b t = λ i. sum_by (weigh (at i) h b t) (data_is i)

  pub owned_then : (h b : ℕ) → owned_at b (data_claims x h ino) ≡ sum_by (weigh a.geometry h b (λ u. true)) (f (data_of a ino))
  owned_then h b = owned_data x h ino b ∙ weighed h b (λ u. true)

  pub alone_then : (h b : ℕ) → Each (IsPlaced a.geometry) (f (data_of a ino)) → alone_at b (data_claims x h ino) ≡ sum_by (weigh a.geometry h b (λ u. u)) (f (data_of a ino))
  alone_then h b placed = alone_data x h ino b (subst (λ (s : Layout). Each (IsPlaced s) (data_of x ino)) (sym at) (subst (Each (IsPlaced a.geometry)) (sym data_is) placed)) ∙ weighed h b (λ u. u)

-- ---- runs that are mapped

module _ (a : State) (ino g c n offset : ℕ) (flag : Bool) (fit : HasFitting a.geometry) (some : 0 < n) (run : IsRunAt a (record { group = g; block = c; count = n }) offset) where
  abbrev pub new_mapping : Mapping
  new_mapping = mapping_of a offset g c n flag

  below : (c n len : ℕ) → 0 < n → c + n ≤ len → c < len
  below c n len h i = omega (arith, h, i)

  pub its_place : split_of a.geometry (fs_block_of a.geometry g c) ≡ Some (g, c)
  its_place = splits_in a.geometry fit g c run.group (below c n (group_len_of a.geometry g) some run.ends)

  pub new_placed : IsPlaced a.geometry new_mapping
  new_placed = record { some = some; offsets = run.offsets; lies = subst (λ o. LieFrom a.geometry o n) (sym its_place) run.ends }

  pub new_weighs : (h b : ℕ) (t : Bool → Bool) → weigh a.geometry h b t new_mapping ≡ share (g == h) (t flag) (at_span c n b)
  new_weighs h b t = weigh_at a.geometry h b t new_mapping g c its_place

-- the group where an edit is, and the others
pub parts_in : (g : ℕ) (f : Group → Group) (a : State) (h : ℕ) → SameParts (a.group g) (f (a.group g)) → SameParts (a.group h) ((in_group g f a).group h)
parts_in g f a h s = by (h == g) refl
  where
    by : (t : Bool) → (h == g) ≡ t → SameParts (a.group h) (cond t (f (a.group g)) (a.group h))
    by true e = subst (λ n. SameParts (a.group n) (f (a.group g))) (sym (eqb-true h g e)) s
    by false e = same_parts (a.group h)

pub taken_parts : (left : List Kind) (e : Extent) (p : Group) → SameParts p (take_free left e p)
taken_parts left e p =
    let one = edit_parts left Bno (take_span by_start (records_in p Bno) (span e.block e.count)) p in
    let two = edit_parts left Cnt (take_span by_count (known_spans p) (span e.block e.count)) (edit left Bno (take_span by_start (records_in p Bno) (span e.block e.count)) p) in
    record { list = two.list ∙ one.list; blocks = λ k. two.blocks k ∙ one.blocks k; reserve = two.reserve ∙ one.reserve; limbo = two.limbo ∙ one.limbo }

-- ---- the rows

mapped_fork : (m : Piece) (a : State) → (mapped m a).fork ≡ (change_data m.ino (add_mapping a.geometry.agblklog (mapping_of a m.offset m.group m.block m.count true)) a).fork
unfolding mapped
mapped_fork m a = refl

mapped_at : (m : Piece) (a : State) → (mapped m a).geometry ≡ a.geometry
unfolding mapped
mapped_at m a = refl

mapped_parts : (m : Piece) (a : State) (h : ℕ) → SameParts (a.group h) ((mapped m a).group h)
unfolding mapped
mapped_parts m a h = parts_in m.group (take_free [] (extent_of m)) a h (taken_parts [] (extent_of m) (a.group m.group))

pub mapped_file : (a x : State) (left : List Kind) (m : Piece) (h : ℕ) → HasFitting a.geometry → Row a left (entries.Mapped m) x → OneFile a x h m.ino
mapped_file a x left m h fit row =
    let at : x.geometry ≡ a.geometry = ap (λ (s : State). s.geometry) row.1 ∙ mapped_at m a in
    let fork : x.fork ≡ (change_data m.ino (add_mapping a.geometry.agblklog (mapping_of a m.offset m.group m.block m.count true)) a).fork = ap (λ (s : State). s.fork) row.1 ∙ mapped_fork m a in
    let same : SameParts (a.group h) (x.group h) = subst (λ (s : State). SameParts (a.group h) (s.group h)) (sym row.1) (mapped_parts m a h) in
    one_file a x m.ino (add_mapping a.geometry.agblklog (mapping_of a m.offset m.group m.block m.count true)) at fork h row.0.first.file.inode (chunk_rows.decided a x left (entries.Mapped m) fit row tt) same

pub mapped_claims : MappedClaims
mapped_claims a x left m h b fit row sound run =
    let f : List Mapping → List Mapping = add_mapping a.geometry.agblklog (mapping_of a m.offset m.group m.block m.count true) in
    let at : x.geometry ≡ a.geometry = ap (λ (s : State). s.geometry) row.1 ∙ mapped_at m a in
    let fork : x.fork ≡ (change_data m.ino f a).fork = ap (λ (s : State). s.fork) row.1 ∙ mapped_fork m a in
    let k : OneFile a x h m.ino = mapped_file a x left m h fit row in
    let new : IsPlaced a.geometry (mapping_of a m.offset m.group m.block m.count true) = new_placed a m.ino m.group m.block m.count m.offset true fit row.0.some run in
    record {
      owned_then = claims_more (λ (c : Claimed). if c.block == b then 1 else 0) a x h m.ino fit k (hits h b (extent_of m))
          (owned_then a x m.ino f at fork h b ∙ added_weighs a.geometry h b (λ u. true) _ (data_of a m.ino) new sound.placed sound.apart
          ∙ ap₂ (λ p q. p + q) (sym (owned_data a h m.ino b)) (new_weighs a m.ino m.group m.block m.count m.offset true fit row.0.some run h b (λ u. true)));
      alone_then = claims_more (λ (c : Claimed). if (c.block == b) && (if is_written_data c then false else true) then 1 else 0) a x h m.ino fit k (hits h b (extent_of m))
          (alone_then a x m.ino f at fork h b (added_placed a.geometry _ (data_of a m.ino) new sound.placed) ∙ added_weighs a.geometry h b (λ u. u) _ (data_of a m.ino) new sound.placed sound.apart
          ∙ ap₂ (λ p q. p + q) (sym (alone_data a h m.ino b sound.placed)) (new_weighs a m.ino m.group m.block m.count m.offset true fit row.0.some run h b (λ u. u)));
    }

share_off : (x : Bool) (n : ℕ) → share x false n ≡ 0
share_off true n = refl
share_off false n = refl

shared_fork : (m : SharedPiece) (a : State) → (shared m a).fork ≡ (change_data m.to (add_mapping a.geometry.agblklog (mapping_of a m.to_offset m.group m.block m.count false)) a).fork
unfolding shared
shared_fork m a = refl

shared_at : (m : SharedPiece) (a : State) → (shared m a).geometry ≡ a.geometry
unfolding shared
shared_at m a = refl

shared_groups : (m : SharedPiece) (a : State) → (shared m a).group ≡ a.group
unfolding shared
shared_groups m a = refl

pub shared_file : (a x : State) (left : List Kind) (m : SharedPiece) (h : ℕ) → HasFitting a.geometry → Row a left (entries.Shared m) x → OneFile a x h m.to
shared_file a x left m h fit row =
    let at : x.geometry ≡ a.geometry = ap (λ (s : State). s.geometry) row.1 ∙ shared_at m a in
    let fork : x.fork ≡ (change_data m.to (add_mapping a.geometry.agblklog (mapping_of a m.to_offset m.group m.block m.count false)) a).fork = ap (λ (s : State). s.fork) row.1 ∙ shared_fork m a in
    let same : SameParts (a.group h) (x.group h) = subst (λ (G : ℕ → Group). SameParts (a.group h) (G h)) (sym (ap (λ (s : State). s.group) row.1 ∙ shared_groups m a)) (same_parts (a.group h)) in
    one_file a x m.to (add_mapping a.geometry.agblklog (mapping_of a m.to_offset m.group m.block m.count false)) at fork h row.0.to_first.file.inode (chunk_rows.decided a x left (entries.Shared m) fit row tt) same

-- the target has the piece once more
pub shared_weight : (a x : State) (left : List Kind) (m : SharedPiece) (h b : ℕ) → HasFitting a.geometry → Row a left (entries.Shared m) x → IsSound a m.to → IsRunAt a (run_shared m) m.to_offset
    → owned_at b (data_claims x h m.to) ≡ owned_at b (data_claims a h m.to) + hits h b (run_shared m)
shared_weight a x left m h b fit row sound run =
    let f : List Mapping → List Mapping = add_mapping a.geometry.agblklog (mapping_of a m.to_offset m.group m.block m.count false) in
    let at : x.geometry ≡ a.geometry = ap (λ (s : State). s.geometry) row.1 ∙ shared_at m a in
    let fork : x.fork ≡ (change_data m.to f a).fork = ap (λ (s : State). s.fork) row.1 ∙ shared_fork m a in
    let new : IsPlaced a.geometry (mapping_of a m.to_offset m.group m.block m.count false) = new_placed a m.to m.group m.block m.count m.to_offset false fit row.0.some run in
    owned_then a x m.to f at fork h b ∙ added_weighs a.geometry h b (λ u. true) _ (data_of a m.to) new sound.placed sound.apart
    ∙ ap₂ (λ p q. p + q) (sym (owned_data a h m.to b)) (new_weighs a m.to m.group m.block m.count m.to_offset false fit row.0.some run h b (λ u. true))

pub shared_claims : SharedClaims
shared_claims a x left m h b fit row sound run =
    let f : List Mapping → List Mapping = add_mapping a.geometry.agblklog (mapping_of a m.to_offset m.group m.block m.count false) in
    let at : x.geometry ≡ a.geometry = ap (λ (s : State). s.geometry) row.1 ∙ shared_at m a in
    let fork : x.fork ≡ (change_data m.to f a).fork = ap (λ (s : State). s.fork) row.1 ∙ shared_fork m a in
    let k : OneFile a x h m.to = shared_file a x left m h fit row in
    let new : IsPlaced a.geometry (mapping_of a m.to_offset m.group m.block m.count false) = new_placed a m.to m.group m.block m.count m.to_offset false fit row.0.some run in
    record {
      owned_then = claims_more (λ (c : Claimed). if c.block == b then 1 else 0) a x h m.to fit k (hits h b (run_shared m)) (shared_weight a x left m h b fit row sound run);
      alone_then = claims_more (λ (c : Claimed). if (c.block == b) && (if is_written_data c then false else true) then 1 else 0) a x h m.to fit k 0
          (alone_then a x m.to f at fork h b (added_placed a.geometry _ (data_of a m.to) new sound.placed) ∙ added_weighs a.geometry h b (λ u. u) _ (data_of a m.to) new sound.placed sound.apart
          ∙ ap₂ (λ p q. p + q) (sym (alone_data a h m.to b sound.placed)) (new_weighs a m.to m.group m.block m.count m.to_offset false fit row.0.some run h b (λ u. u) ∙ share_off (m.group == h) (at_span m.block m.count b)));
    }

-- ---- a piece leaves

unmapped_fork : (m : Piece) (a : State) → (unmapped m a).fork ≡ (change_data m.ino (take_piece m.offset m.count) a).fork
unfolding unmapped
unmapped_fork m a = refl

unmapped_at : (m : Piece) (a : State) → (unmapped m a).geometry ≡ a.geometry
unfolding unmapped
unmapped_at m a = refl

unmapped_groups : (m : Piece) (a : State) → (unmapped m a).group ≡ a.group
unfolding unmapped
unmapped_groups m a = refl

-- how often what is left has the block
pub left_weighs : (a : State) (ino g c n offset h b : ℕ) (t : Bool → Bool) → HasFitting a.geometry → 0 < n → IsSound a ino → IsRunAt a (record { group = g; block = c; count = n }) offset → is_piece offset (fs_block_of a.geometry g c) n (data_of a ino) ≡ true
    → sum_by (weigh a.geometry h b t) (take_piece offset n (data_of a ino)) + share (g == h) (t (is_unwritten_at offset (data_of a ino))) (at_span c n b) ≡ sum_by (weigh a.geometry h b t) (data_of a ino)
left_weighs a ino g c n offset h b t fit some sound run piece =
    lost_weighs a.geometry h b t offset n g c (data_of a ino) fit some run.group run.ends sound.placed sound.apart piece (λ q e k. cut_by a.geometry fit h (Data ino) ino (record { block = 0; owner = 0; word = 0 }) q offset n e k)

share_if : (x y : Bool) (n : ℕ) → share x y n ≡ (if y then (if x then n else 0) else 0)
share_if true true n = refl
share_if true false n = refl
share_if false true n = refl
share_if false false n = refl

pub unmapped_file : (a x : State) (left : List Kind) (m : Piece) (h : ℕ) → HasFitting a.geometry → Row a left (entries.Unmapped m) x → OneFile a x h m.ino
unmapped_file a x left m h fit row =
    let at : x.geometry ≡ a.geometry = ap (λ (s : State). s.geometry) row.1 ∙ unmapped_at m a in
    let fork : x.fork ≡ (change_data m.ino (take_piece m.offset m.count) a).fork = ap (λ (s : State). s.fork) row.1 ∙ unmapped_fork m a in
    let same : SameParts (a.group h) (x.group h) = subst (λ (G : ℕ → Group). SameParts (a.group h) (G h)) (sym (ap (λ (s : State). s.group) row.1 ∙ unmapped_groups m a)) (same_parts (a.group h)) in
    one_file a x m.ino (take_piece m.offset m.count) at fork h row.0.first.file.inode (chunk_rows.decided a x left (entries.Unmapped m) fit row tt) same

pub unmapped_claims : UnmappedClaims
unmapped_claims a x left m h b fit row sound run =
    let f : List Mapping → List Mapping = take_piece m.offset m.count in
    let at : x.geometry ≡ a.geometry = ap (λ (s : State). s.geometry) row.1 ∙ unmapped_at m a in
    let fork : x.fork ≡ (change_data m.ino f a).fork = ap (λ (s : State). s.fork) row.1 ∙ unmapped_fork m a in
    let k : OneFile a x h m.ino = unmapped_file a x left m h fit row in
    let flag : Bool = is_unwritten_at m.offset (data_of a m.ino) in
    record {
      owned_then = claims_less (λ (c : Claimed). if c.block == b then 1 else 0) a x h m.ino fit k (hits h b (extent_of m))
          (ap (λ z. z + hits h b (extent_of m)) (owned_then a x m.ino f at fork h b) ∙ left_weighs a m.ino m.group m.block m.count m.offset h b (λ u. true) fit row.0.some sound run row.0.piece ∙ sym (owned_data a h m.ino b));
      alone_then = claims_less (λ (c : Claimed). if (c.block == b) && (if is_written_data c then false else true) then 1 else 0) a x h m.ino fit k (if flag then hits h b (extent_of m) else 0)
          (ap₂ (λ y z. y + z) (alone_then a x m.ino f at fork h b (left_placed a.geometry m.offset m.count fit (data_of a m.ino) sound.placed)) (sym (share_if (m.group == h) flag (at_span m.block m.count b)))
          ∙ left_weighs a m.ino m.group m.block m.count m.offset h b (λ u. u) fit row.0.some sound run row.0.piece ∙ sym (alone_data a h m.ino b sound.placed));
    }

-- ---- a piece becomes written

abbrev turned : State → Piece → List Mapping → List Mapping
turned a m ms = add_mapping a.geometry.agblklog (mapping_of a m.offset m.group m.block m.count false) (take_piece m.offset m.count ms)

-- what the row decides of an unwritten piece
pub record Turns (a x : State) (m : Piece) : Type 0 where
  pub geometry : x.geometry ≡ a.geometry
  pub groups : x.group ≡ a.group
  pub forks : x.fork ≡ (change_data m.ino (turned a m) a).fork

turns_if : (b : Bool) (y a : State) (m : Piece) → b ≡ true → Turns a y m → Turns a (if b then y else a) m
turns_if true y a m e t = t
turns_if false y a m e t = absurd (false≢true e)

pub it_turns : (m : Piece) (a : State) → is_unwritten_at m.offset (data_of a m.ino) ≡ true → Turns a (converted m a) m
unfolding converted
it_turns m a e = turns_if (is_unwritten_at m.offset (data_of a m.ino)) _ a m e (record { geometry = refl; groups = refl; forks = refl })

pub turned_file : (a x : State) (left : List Kind) (m : Piece) (h : ℕ) → HasFitting a.geometry → Row a left (entries.Converted m) x → is_unwritten_at m.offset (data_of a m.ino) ≡ true → OneFile a x h m.ino
turned_file a x left m h fit row old =
    let turn : Turns a x m = subst (λ (s : State). Turns a s m) (sym row.1) (it_turns m a old) in
    let same : SameParts (a.group h) (x.group h) = subst (λ (G : ℕ → Group). SameParts (a.group h) (G h)) (sym turn.groups) (same_parts (a.group h)) in
    one_file a x m.ino (turned a m) turn.geometry turn.forks h row.0.first.file.inode (chunk_rows.decided a x left (entries.Converted m) fit row tt) same

pub converted_claims : ConvertedClaims
converted_claims a x left m h b fit row old sound run =
    let f : List Mapping → List Mapping = turned a m in
    let turn : Turns a x m = subst (λ (s : State). Turns a s m) (sym row.1) (it_turns m a old) in
    let k : OneFile a x h m.ino = turned_file a x left m h fit row old in
    let new : IsPlaced a.geometry (mapping_of a m.offset m.group m.block m.count false) = new_placed a m.ino m.group m.block m.count m.offset false fit row.0.some run in
    let rest : List Mapping = take_piece m.offset m.count (data_of a m.ino) in
    let placed : Each (IsPlaced a.geometry) rest = left_placed a.geometry m.offset m.count fit (data_of a m.ino) sound.placed in
    let apart : AreApart rest = left_apart m.offset m.count (data_of a m.ino) sound.apart in
    let all = left_weighs a m.ino m.group m.block m.count m.offset h b (λ u. true) fit row.0.some sound run row.0.piece in
    let lone = left_weighs a m.ino m.group m.block m.count m.offset h b (λ u. u) fit row.0.some sound run row.0.piece in
    record {
      owned_then = claims_less (λ (c : Claimed). if c.block == b then 1 else 0) a x h m.ino fit k 0
          (ap (λ z. z + 0) (owned_then a x m.ino f turn.geometry turn.forks h b ∙ added_weighs a.geometry h b (λ u. true) _ rest new placed apart)
          ∙ kept _ _ _ _ (new_weighs a m.ino m.group m.block m.count m.offset false fit row.0.some run h b (λ u. true)) all ∙ sym (owned_data a h m.ino b));
      alone_then = claims_less (λ (c : Claimed). if (c.block == b) && (if is_written_data c then false else true) then 1 else 0) a x h m.ino fit k (hits h b (extent_of m))
          (ap (λ z. z + hits h b (extent_of m)) (alone_then a x m.ino f turn.geometry turn.forks h b (added_placed a.geometry _ rest new placed) ∙ added_weighs a.geometry h b (λ u. u) _ rest new placed apart)
          ∙ lost _ _ _ _ _ (new_weighs a m.ino m.group m.block m.count m.offset false fit row.0.some run h b (λ u. u) ∙ share_off (m.group == h) (at_span m.block m.count b))
          lone (ap (λ y. share (m.group == h) y (at_span m.block m.count b)) old) ∙ sym (alone_data a h m.ino b sound.placed));
    }
  where
    kept : (r w s all : ℕ) → w ≡ s → r + s ≡ all → r + w + 0 ≡ all
    kept r w s all e f = omega (arith, e, f)

    lost : (r w s d all : ℕ) → w ≡ 0 → r + s ≡ all → s ≡ d → r + w + d ≡ all
    lost r w s d all e f g = omega (arith, e, f, g)
