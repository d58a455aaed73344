-- What a crash leaves of a batch, over definitions alone.
use Rattle.std.proofs.Common.{◌≡◌, ◌≤◌, ◌<◌, ◌⊎◌, ⊎_elim, inl, inr, ℕ, ◌+◌, Bool, true, false, List, [], ◌∷◌, None, refl, sym, ◌∙◌, ap, subst, arith}
use Rattle.std.specs.Prelude.{if◌then◌else◌, ◌==◌, slice_index}
use Rattle.std.proofs.lemmas.Bool.{eqb-true, eq-eqb}
use Rattle.byte_fields.specs.declared.block.Block.{Block}
use Rattle.blk_device.specs.declared.device.Region.{Region}
use Rattle.blk_device.specs.declared.device.Region.TheVariants.{Image, Redo}
use Rattle.blk_device.specs.Contents.{Contents, put}
use Rattle.blk_device.specs.Crash.{Reached}
use Rattle.redo_area.specs.Table.{places, table_bytes, table_fault, table_numbers}
use Rattle.redo_area.specs.Area.{Blocks, Batch, is_open, with_copies, waiting_batch, with_batch, after_crash, bytes_of, put_copies, put_homes, put_waiting, homes_of, staged, Misses, BehindGate, AllButGate, AllButHomes}
use Rattle.redo_area.specs.Stages.{AtRest, AtRestBut, Ends, EndsBut, Installs, IsInstalled, IsQuiet, IsQuietBut, IsReady, IsReadyBut, IsSound, Opens, OpensBut, Prepares, PreparesBut, StandsFor, StandsForBut}

either_way : (t : Bool) (z x y : List ℕ) → (t ≡ false → x ≡ y) → (if t then z else x) ≡ (if t then z else y)
either_way true z x y h = refl
either_way false z x y h = h refl

when : (t : Bool) (x y : List ℕ) → t ≡ true → (if t then x else y) ≡ x
when true x y e = refl
when false x y e = absurd (cc e)

unless : (t : Bool) (x y : List ℕ) → (t ≡ true → ⊥) → (if t then x else y) ≡ y
unless true x y e = absurd (e refl)
unless false x y e = refl

pub same_contents : (c d : Contents) → ((b : ℕ) → c Image b ≡ d Image b) → ((b : ℕ) → c Redo b ≡ d Redo b) → c ≡ d
same_contents c d image redo = λ i r b. both r b i
  where
    both : (r : Region) (b : ℕ) → c r b ≡ d r b
    both Image b = image b
    both Redo b = redo b

-- copies that agree from k on
same_copies : (xs ys : Blocks) (ns : List ℕ) (k : ℕ) → ((b : ℕ) → k ≤ b → xs b ≡ ys b) → with_copies xs ns k ≡ with_copies ys ns k
same_copies xs ys [] k h = refl
same_copies xs ys (n ∷ ns) k h = λ i. (n, h k (omega arith) i) ∷ same_copies xs ys ns (k + 1) (λ b le. h b (omega (arith, le))) i

-- the blocks below k stay, and so does the image
copies_aside : (ps : List (ℕ × Block)) (k : ℕ) (c : Contents) (b : ℕ) → b < k → put_copies ps k c Redo b ≡ c Redo b
copies_aside [] k c b lt = refl
copies_aside (p ∷ ps) k c b lt =
    copies_aside ps (k + 1) (put Redo k p.1.bytes c) b (omega (arith, lt)) ∙ unless (b == k) p.1.bytes (c Redo b) (λ e. absurd (omega (arith, lt, eqb-true b k e)))

pub copies_image : (ps : List (ℕ × Block)) (k : ℕ) (c : Contents) → put_copies ps k c Image ≡ c Image
copies_image [] k c = refl
copies_image (p ∷ ps) k c = copies_image ps (k + 1) (put Redo k p.1.bytes c)

-- what was written is what stands there
copies_stand : (ps : List (ℕ × Block)) (k : ℕ) (c : Contents) → with_copies (put_copies ps k c Redo) (places ps) k ≡ bytes_of ps
copies_stand [] k c = refl
copies_stand (p ∷ ps) k c =
    let next = put Redo k p.1.bytes c in
    let first : put_copies ps (k + 1) next Redo k ≡ p.1.bytes = copies_aside ps (k + 1) next k (omega arith) ∙ when (k == k) p.1.bytes (c Redo k) (eq-eqb k k refl) in
    λ i. (p.0, first i) ∷ copies_stand ps (k + 1) next i

pub homes_image : (ps : Batch) (c : Contents) → put_homes ps c Image ≡ with_batch ps (c Image)
homes_image [] c = refl
homes_image (p ∷ ps) c = homes_image ps (put Image p.0 p.1 c)

homes_redo : (ps : Batch) (c : Contents) → put_homes ps c Redo ≡ c Redo
homes_redo [] c = refl
homes_redo (p ∷ ps) c = homes_redo ps (put Image p.0 p.1 c)

pub homes_of_copies : (copies : Blocks) (ns : List ℕ) (k : ℕ) → homes_of (with_copies copies ns k) ≡ ns
homes_of_copies copies [] k = refl
homes_of_copies copies (n ∷ ns) k = ap (λ (l : List ℕ). n ∷ l) (homes_of_copies copies ns (k + 1))

pub homes_of_bytes : (ps : List (ℕ × Block)) → homes_of (bytes_of ps) ≡ places ps
homes_of_bytes [] = refl
homes_of_bytes (p ∷ ps) = ap (λ (l : List ℕ). p.0 ∷ l) (homes_of_bytes ps)

-- what a batch puts in hides what was there
hidden_at : (ps : Batch) (i j : Blocks) (b : ℕ) → (Misses (homes_of ps) b → i b ≡ j b) → with_batch ps i b ≡ with_batch ps j b
hidden_at [] i j b same = same tt
hidden_at (p ∷ ps) i j b same =
    hidden_at ps (λ x. if x == p.0 then p.1 else i x) (λ x. if x == p.0 then p.1 else j x) b (λ missed. either_way (b == p.0) p.1 (i b) (j b) (λ e. same (e, missed)))

hidden : (ps : Batch) (i j : Blocks) → ((b : ℕ) → Misses (homes_of ps) b → i b ≡ j b) → with_batch ps i ≡ with_batch ps j
hidden ps i j same = λ x b. hidden_at ps i j b (same b) x

-- what it misses stays
aside : (ps : Batch) (i : Blocks) (b : ℕ) → Misses (homes_of ps) b → with_batch ps i b ≡ i b
aside [] i b missed = refl
aside (p ∷ ps) i b missed =
    aside ps (λ x. if x == p.0 then p.1 else i x) b missed.1 ∙ unless (b == p.0) p.1 (i b) (λ e. cc (e, missed.0))

twice : (ps : Batch) (i : Blocks) → with_batch ps (with_batch ps i) ≡ with_batch ps i
twice ps i = hidden ps (with_batch ps i) i (aside ps i)

-- what the contents stand for, by the gate
pub after_shut : (c : Contents) → is_open c ≡ false → after_crash c ≡ c Image
after_shut c shut = ap (λ (t : Bool). if t then with_batch (waiting_batch c) (c Image) else c Image) shut

pub after_open : (c : Contents) → is_open c ≡ true → after_crash c ≡ with_batch (waiting_batch c) (c Image)
after_open c opened = ap (λ (t : Bool). if t then with_batch (waiting_batch c) (c Image) else c Image) opened

by_gate : (t : Bool) (x y : Blocks) → ((if t then x else y) ≡ y) ⊎ ((if t then x else y) ≡ x)
by_gate true x y = inr refl
by_gate false x y = inl refl

-- the same gate
pub same_gate : (c m : Contents) → c Redo 0 ≡ m Redo 0 → is_open c ≡ is_open m
same_gate c m same = ap (λ (bytes : List ℕ). slice_index bytes 0 == 1) same

-- the same table
same_sound : (size : ℕ) (c m : Contents) → c Redo 1 ≡ m Redo 1 → IsSound size m → IsSound size c
same_sound size c m same sound = ap (table_fault size) same ∙ sound

-- the same batch behind the gate
same_batch : (c m : Contents) → ((b : ℕ) → 0 < b → c Redo b ≡ m Redo b) → waiting_batch c ≡ waiting_batch m
same_batch c m same =
    same_copies (c Redo) (m Redo) (table_numbers (c Redo 1)) 2 (λ b le. same b (omega (arith, le))) ∙ ap (λ (t : List ℕ). with_copies (m Redo) (table_numbers t) 2) (same 1 (omega arith))

same_redo : (c m : Contents) → c Redo ≡ m Redo → waiting_batch c ≡ waiting_batch m
same_redo c m same = ap (λ (r : Blocks). with_copies r (table_numbers (r 1)) 2) same

-- a batch makes the same of the same block
pub same_at : (ps : Batch) (i j : Blocks) (b : ℕ) → i b ≡ j b → with_batch ps i b ≡ with_batch ps j b
same_at ps i j b same = hidden_at ps i j b (λ missed. same)

pub at_block : (i j : Blocks) (b : ℕ) → i ≡ j → i b ≡ j b
at_block i j b same = ap (λ (x : Blocks). x b) same

-- what stands for the whole image stands for it but for K
pub stands_but : (K : ℕ → Bool) (size k : ℕ) (blocks whole : Blocks) (c : Contents) → k ≡ size → whole ≡ blocks → StandsFor k whole c → StandsForBut K size blocks c
stands_but K size k blocks whole c same is stands = record {
  image = λ b out. at_block (after_crash c) whole b stands.image ∙ at_block whole blocks b is;
  sound = λ opened. subst (λ (n : ℕ). IsSound n c) same (stands.sound opened);
}

-- the whole form of each is the one but for no block
abbrev none : ℕ → Bool
none b = false

quiet_but : (K : ℕ → Bool) (may_hold : Contents → Type 0) (m : Contents) → IsQuiet may_hold m → IsQuietBut K may_hold m
quiet_but K may_hold m quiet = record { redo = λ c now. ap (λ (d : Contents). d Redo) (quiet c now); image = λ c now b out. ap (λ (d : Contents). d Image b) (quiet c now) }

quiet_whole : (may_hold : Contents → Type 0) (m : Contents) → IsQuietBut none may_hold m → IsQuiet may_hold m
quiet_whole may_hold m quiet = λ c now. same_contents c m (λ b. quiet.image c now b refl) (λ b. at_block (c Redo) (m Redo) b (quiet.redo c now))

stands_whole : (size : ℕ) (blocks : Blocks) (c : Contents) → StandsForBut none size blocks c → StandsFor size blocks c
stands_whole size blocks c stands = record { image = λ i b. stands.image b refl i; sound = stands.sound }

ready_whole : (size : ℕ) (ps : Batch) (may_hold : Contents → Type 0) (m : Contents) → IsReadyBut none size ps may_hold m → IsReady size ps may_hold m
ready_whole size ps may_hold m ready = record { quiet = quiet_whole may_hold m ready.quiet; stands = ready.stands; sound = ready.sound }

-- what is at rest whole is at rest but for any blocks
pub rest_but : (K : ℕ → Bool) (may_hold : Contents → Type 0) (m : Contents) → AtRest may_hold m → AtRestBut K may_hold m
rest_but K may_hold m rest = record {
  quiet = quiet_but K may_hold m rest.quiet;
  shut = rest.shut;
}

-- and with more blocks in K
pub more_but : (K L : ℕ → Bool) (may_hold : Contents → Type 0) (m : Contents) → ((b : ℕ) → L b ≡ false → K b ≡ false) → AtRestBut K may_hold m → AtRestBut L may_hold m
more_but K L may_hold m more rest = record { quiet = record { redo = rest.quiet.redo; image = λ c now b out. rest.quiet.image c now b (more b out) }; shut = rest.shut }

pub ends_but : (K : ℕ → Bool) (blocks : Blocks) (may_hold : Contents → Type 0) (n : Contents) → Ends blocks may_hold n → EndsBut K blocks may_hold n
ends_but K blocks may_hold n ends = record { image = ends.image; rest = rest_but K may_hold n ends.rest }

module _ (K : ℕ → Bool) (size : ℕ) (may_hold : Contents → Type 0) (m : Contents) (quiet : IsQuietBut K may_hold m) where
  kept_redo : (S : Region → ℕ → Type 0) (c : Contents) → Reached S may_hold c → (b : ℕ) → S Redo b → c Redo b ≡ m Redo b
  kept_redo S c from b in_s = from.2 Redo b in_s ∙ at_block (from.0 Redo) (m Redo) b (quiet.redo from.0 from.1)

  kept_image : (S : Region → ℕ → Type 0) (c : Contents) → Reached S may_hold c → (b : ℕ) → S Image b → K b ≡ false → c Image b ≡ m Image b
  kept_image S c from b in_s out = from.2 Image b in_s ∙ quiet.image from.0 from.1 b out

  pub behind_but : is_open m ≡ false → (c : Contents) → Reached BehindGate may_hold c → StandsForBut K size (m Image) c
  behind_but shut c from =
      let closed : is_open c ≡ false = same_gate c m (kept_redo BehindGate c from 0 refl) ∙ shut in
      record { image = λ b out. at_block (after_crash c) (c Image) b (after_shut c closed) ∙ kept_image BehindGate c from b tt out; sound = λ opened. cc (closed, opened) }

  pub gate_but : IsSound size m → (c : Contents) → Reached AllButGate may_hold c → StandsForBut K size (m Image) c ⊎ StandsForBut K size (with_batch (waiting_batch m) (m Image)) c
  gate_but sound c from =
      let batch = same_batch c m (λ b pos. kept_redo AllButGate c from b pos) in
      let table = same_sound size c m (kept_redo AllButGate c from 1 (omega arith)) sound in
      elim (by_gate (is_open c) (with_batch (waiting_batch c) (c Image)) (c Image)) [
        | inl old ↦ inl (record { image = λ b out. at_block (after_crash c) (c Image) b old ∙ kept_image AllButGate c from b tt out; sound = λ opened. table })
        | inr new ↦ inr (record {
          image = λ b out. at_block (after_crash c) (with_batch (waiting_batch c) (c Image)) b new
              ∙ ap (λ (l : Batch). with_batch l (c Image) b) batch
              ∙ same_at (waiting_batch m) (c Image) (m Image) b (kept_image AllButGate c from b tt out);
          sound = λ opened. table;
        })
      ]

  pub homes_but : (ps : Batch) → is_open m ≡ true → waiting_batch m ≡ ps → IsSound size m → (c : Contents) → Reached (AllButHomes (homes_of ps)) may_hold c → StandsForBut K size (with_batch ps (m Image)) c
  homes_but ps opened stands sound c from =
      let redo : c Redo ≡ m Redo = λ i b. kept_redo (AllButHomes (homes_of ps)) c from b tt i in
      record {
        image = λ b out. at_block (after_crash c) (with_batch (waiting_batch c) (c Image)) b (after_open c (same_gate c m (ap (λ (r : Blocks). r 0) redo) ∙ opened))
            ∙ ap (λ (l : Batch). with_batch l (c Image) b) (same_redo c m redo ∙ stands)
            ∙ hidden_at ps (c Image) (m Image) b (λ missed. kept_image (AllButHomes (homes_of ps)) c from b missed out);
        sound = λ open_now. same_sound size c m (ap (λ (r : Blocks). r 1) redo) sound;
      }

  -- while blocks of K are written
  pub inside_but : (ns : List ℕ) → ((b : ℕ) → K b ≡ false → Misses ns b) → is_open m ≡ false → (c : Contents) → Reached (AllButHomes ns) may_hold c → StandsForBut K size (m Image) c
  inside_but ns inside shut c from =
      let closed : is_open c ≡ false = same_gate c m (kept_redo (AllButHomes ns) c from 0 tt) ∙ shut in
      record { image = λ b out. at_block (after_crash c) (c Image) b (after_shut c closed) ∙ kept_image (AllButHomes ns) c from b (inside b out) out; sound = λ opened. cc (closed, opened) }

  module _ (new : Contents → Type 0) where
    pub staged_but : (ps : List (ℕ × Block)) → is_open m ≡ false → table_numbers (table_bytes size (places ps)) ≡ places ps → table_fault size (table_bytes size (places ps)) ≡ None
        → ((c : Contents) → new c → Reached BehindGate may_hold c) → ((c : Contents) → new c → (b : ℕ) → c Redo b ≡ staged size ps m Redo b) → PreparesBut K size (bytes_of ps) new m (staged size ps m)
    staged_but ps shut reads sound from durable =
        let table = table_bytes size (places ps) in
        let n = staged size ps m in
        let image : n Image ≡ m Image = copies_image ps 2 (put Redo 1 table m) in
        let first : n Redo 1 ≡ table = copies_aside ps 2 (put Redo 1 table m) 1 (omega arith) in
        record {
          image = image;
          shut = same_gate n m (copies_aside ps 2 (put Redo 1 table m) 0 (omega arith)) ∙ shut;
          ready = record {
            quiet = record {
              redo = λ c now. λ i b. durable c now b i;
              image = λ c now b out. kept_image BehindGate c (from c now) b tt out ∙ sym (at_block (n Image) (m Image) b image);
            };
            stands = ap (λ (t : List ℕ). with_copies (n Redo) (table_numbers t) 2) first ∙ ap (λ (ns : List ℕ). with_copies (n Redo) ns 2) reads ∙ copies_stand ps 2 (put Redo 1 table m);
            sound = ap (table_fault size) first ∙ sound;
          };
        }

    -- the contents with another gate
    gate_quiet : (gate : List ℕ) → ((c : Contents) → new c → Reached AllButGate may_hold c) → ((c : Contents) → new c → (b : ℕ) → c Redo b ≡ put Redo 0 gate m Redo b) → IsQuietBut K new (put Redo 0 gate m)
    gate_quiet gate from durable = record { redo = λ c now. λ i b. durable c now b i; image = λ c now b out. kept_image AllButGate c (from c now) b tt out }

    pub opened_but : (ps : Batch) (gate : List ℕ) → slice_index gate 0 ≡ 1 → waiting_batch m ≡ ps → IsSound size m
        → ((c : Contents) → new c → Reached AllButGate may_hold c) → ((c : Contents) → new c → (b : ℕ) → c Redo b ≡ put Redo 0 gate m Redo b) → OpensBut K size ps new m (put Redo 0 gate m)
    opened_but ps gate one stands sound from durable = record {
      image = refl;
      waits = record {
        ready = record {
          quiet = gate_quiet gate from durable;
          stands = same_batch (put Redo 0 gate m) m (λ b pos. unless (b == 0) gate (m Redo b) (λ e. absurd (omega (arith, pos, eqb-true b 0 e)))) ∙ stands;
          sound = sound;
        };
        opened = eq-eqb (slice_index gate 0) 1 one;
      };
    }

    pub closed_but : (gate : List ℕ) → slice_index gate 0 ≡ 0 → ((c : Contents) → new c → Reached AllButGate may_hold c) → ((c : Contents) → new c → (b : ℕ) → c Redo b ≡ put Redo 0 gate m Redo b)
        → EndsBut K (m Image) new (put Redo 0 gate m)
    closed_but gate none from durable = record { image = refl; rest = record { quiet = gate_quiet gate from durable; shut = ap (λ (n : ℕ). n == 1) none } }

    -- the sync of the image settles the blocks in K too
    pub installed_but : (ps : Batch) → waiting_batch m ≡ ps → IsSound size m → ((c : Contents) → new c → Reached (AllButHomes (homes_of ps)) may_hold c)
        → ((c : Contents) → new c → (b : ℕ) → c Image b ≡ put_homes ps m Image b) → Installs size ps new m (put_homes ps m)
    installed_but ps stands sound from durable =
        let redo : put_homes ps m Redo ≡ m Redo = homes_redo ps m in
        record {
          image = homes_image ps m;
          installed = record {
            quiet = λ c now. same_contents c (put_homes ps m) (durable c now) (λ b. kept_redo (AllButHomes (homes_of ps)) c (from c now) b tt ∙ sym (at_block (put_homes ps m Redo) (m Redo) b redo));
            same = (λ i. with_batch ((same_redo (put_homes ps m) m redo ∙ stands) i) (homes_image ps m i)) ∙ twice ps (m Image) ∙ sym (homes_image ps m);
            sound = same_sound size (put_homes ps m) m (ap (λ (r : Blocks). r 1) redo) sound;
          };
        }

module _ (size : ℕ) (may_hold : Contents → Type 0) (m : Contents) (quiet : IsQuiet may_hold m) where
  -- while table and copies are written
  pub behind_law : is_open m ≡ false → (c : Contents) → Reached BehindGate may_hold c → StandsFor size (m Image) c
  behind_law shut c from = stands_whole size (m Image) c (behind_but none size may_hold m (quiet_but none may_hold m quiet) shut c from)

  -- whatever a crash makes of the gate
  pub gate_law : IsSound size m → (c : Contents) → Reached AllButGate may_hold c → StandsFor size (m Image) c ⊎ StandsFor size (with_batch (waiting_batch m) (m Image)) c
  gate_law sound c from =
      ⊎_elim (λ was. inl (stands_whole size (m Image) c was)) (λ has. inr (stands_whole size (with_batch (waiting_batch m) (m Image)) c has)) (gate_but none size may_hold m (quiet_but none may_hold m quiet) sound c from)

  -- whatever a crash makes of the blocks of the batch, behind an open gate
  pub homes_law : (ps : Batch) → is_open m ≡ true → waiting_batch m ≡ ps → IsSound size m → (c : Contents) → Reached (AllButHomes (homes_of ps)) may_hold c → StandsFor size (with_batch ps (m Image)) c
  homes_law ps opened stands sound c from = stands_whole size (with_batch ps (m Image)) c (homes_but none size may_hold m (quiet_but none may_hold m quiet) ps opened stands sound c from)

  module _ (new : Contents → Type 0) where
    -- what stands after the sync of each step
    pub staged_law : (ps : List (ℕ × Block)) → is_open m ≡ false → table_numbers (table_bytes size (places ps)) ≡ places ps → table_fault size (table_bytes size (places ps)) ≡ None
        → ((c : Contents) → new c → Reached BehindGate may_hold c) → ((c : Contents) → new c → (b : ℕ) → c Redo b ≡ staged size ps m Redo b) → Prepares size (bytes_of ps) new m (staged size ps m)
    staged_law ps shut reads sound from durable =
        let done = staged_but none size may_hold m (quiet_but none may_hold m quiet) new ps shut reads sound from durable in
        record { image = done.image; shut = done.shut; ready = ready_whole size (bytes_of ps) new (staged size ps m) done.ready }

    pub opened_law : (ps : Batch) (gate : List ℕ) → slice_index gate 0 ≡ 1 → waiting_batch m ≡ ps → IsSound size m
        → ((c : Contents) → new c → Reached AllButGate may_hold c) → ((c : Contents) → new c → (b : ℕ) → c Redo b ≡ put Redo 0 gate m Redo b) → Opens size ps new m (put Redo 0 gate m)
    opened_law ps gate one stands sound from durable =
        let done = opened_but none size may_hold m (quiet_but none may_hold m quiet) new ps gate one stands sound from durable in
        record { image = done.image; waits = record { ready = ready_whole size ps new (put Redo 0 gate m) done.waits.ready; opened = done.waits.opened } }

    pub closed_law : (gate : List ℕ) → slice_index gate 0 ≡ 0 → ((c : Contents) → new c → Reached AllButGate may_hold c) → ((c : Contents) → new c → (b : ℕ) → c Redo b ≡ put Redo 0 gate m Redo b)
        → Ends (m Image) new (put Redo 0 gate m)
    closed_law gate zero from durable =
        let done = closed_but none size may_hold m (quiet_but none may_hold m quiet) new gate zero from durable in
        record { image = done.image; rest = record { quiet = quiet_whole new (put Redo 0 gate m) done.rest.quiet; shut = done.rest.shut } }

    pub installed_law : (ps : Batch) → waiting_batch m ≡ ps → IsSound size m → ((c : Contents) → new c → Reached (AllButHomes (homes_of ps)) may_hold c)
        → ((c : Contents) → new c → (b : ℕ) → c Image b ≡ put_homes ps m Image b) → Installs size ps new m (put_homes ps m)
    installed_law = installed_but none size may_hold m (quiet_but none may_hold m quiet) new

    -- the same of the batch that stands there by its table
    pub recovered_law : (bytes : List ℕ) → is_open m ≡ true → m Redo 1 ≡ bytes → table_fault size bytes ≡ None → ((c : Contents) → new c → Reached (AllButHomes (table_numbers bytes)) may_hold c)
        → ((c : Contents) → new c → (b : ℕ) → c Image b ≡ put_waiting (table_numbers bytes) 2 m Image b)
        → (put_waiting (table_numbers bytes) 2 m Image ≡ after_crash m) × IsInstalled size new (put_waiting (table_numbers bytes) 2 m)
    recovered_law bytes opened table none from durable =
        let ps = with_copies (m Redo) (table_numbers bytes) 2 in
        let stands : waiting_batch m ≡ ps = ap (λ (t : List ℕ). with_copies (m Redo) (table_numbers t) 2) table in
        let done = installed_law ps stands (ap (table_fault size) table ∙ none) (λ c now. subst (λ (ns : List ℕ). Reached (AllButHomes ns) may_hold c) (sym (homes_of_copies (m Redo) (table_numbers bytes) 2)) (from c now)) durable in
        (done.image ∙ ap (λ (l : Batch). with_batch l (m Image)) (sym stands) ∙ sym (after_open m opened), done.installed)
