-- The lines of a journal, one after the other.
use Rattle.std.proofs.Common.{◌≡◌, ℕ, suc, ◌+◌, ◌<◌, List, [], ◌∷◌, ◌++◌, length, get_or, take, drop, Option, refl, sym, ◌∙◌, ap, subst, append_assoc, append-nil, drop-cons}
use Rattle.std.proofs.lemmas.List.{take_more, take-append-drop}
use Rattle.std.proofs.lemmas.Grind.{flat_map-append}
use Rattle.std.proofs.lemmas.List.Concat.{flat_map-cons}
use Rattle.blk_device.specs.Taken.{Takes, TakesFront}
use Rattle.blk_device.proofs.TakenLemmas.{then, then_front, front_of_more, takes_nothing}
use Rattle.xscrub.specs.Shown.{Gathers}
use Rattle.run_text.specs.Report.{line_of, report_of}
use Rattle.fs_model.specs.declared.entry.Entry.{Entry}

-- the journal's lines are those of its front, that of the next entry, and those of the rest
report_parts : (journal : List Entry) (i : ℕ) (d : Entry) → i < length journal
    → report_of journal ≡ (report_of (take i journal) ++ line_of (get_or journal i d)) ++ report_of (drop (suc i) journal)
unfolding report_of
report_parts journal i d h =
    ap report_of (sym (take-append-drop i journal)) ∙ flat_map-append line_of (take i journal) (drop i journal)
    ∙ ap (λ (xs : List Entry). report_of (take i journal) ++ report_of xs) (drop-cons journal i d h)
    ∙ ap (λ (text : List ℕ). report_of (take i journal) ++ text) (flat_map-cons line_of (get_or journal i d) (drop (suc i) journal))
    ∙ sym (append_assoc (report_of (take i journal)) (line_of (get_or journal i d)) (report_of (drop (suc i) journal)))

report_more : (journal : List Entry) (i : ℕ) (d : Entry) → i < length journal
    → report_of (take (i + 1) journal) ≡ report_of (take i journal) ++ line_of (get_or journal i d)
unfolding report_of
report_more journal i d h =
    ap report_of (take_more journal i d h) ∙ flat_map-append line_of (take i journal) (get_or journal i d ∷ [])
    ∙ ap (λ (text : List ℕ). report_of (take i journal) ++ text) (flat_map-cons line_of (get_or journal i d) [] ∙ append-nil (line_of (get_or journal i d)))

-- nothing of it was told yet
pub told_nothing : (a b : Option (List ℕ)) → b ≡ a → Takes (report_of []) a b
unfolding report_of
told_nothing a b e = takes_nothing a b e

-- ---- lines that are gathered before the sink is given them

-- all of it is gathered, or the sink took all of it
pub gathers_all : (bytes : List ℕ) (a : Option (List ℕ)) → Gathers bytes bytes a a
gathers_all bytes a = ([], refl, takes_nothing a a refl)

pub gathers_none : (bytes : List ℕ) (a b : Option (List ℕ)) → Takes bytes a b → Gathers bytes [] a b
gathers_none bytes a b takes = (bytes, sym (append-nil bytes), takes)

-- more is gathered behind it
front_and_more : (xs front gathered more : List ℕ) → xs ≡ front ++ gathered → xs ++ more ≡ front ++ (gathered ++ more)
front_and_more xs front gathered more e = ap (λ (l : List ℕ). l ++ more) e ∙ append_assoc front gathered more

pub gathers_more : (xs more gathered : List ℕ) (a b : Option (List ℕ)) → Gathers xs gathered a b → Gathers (xs ++ more) (gathered ++ more) a b
gathers_more xs more gathered a b (front, e, takes) = (front, front_and_more xs front gathered more e, takes)

-- and then the sink is given some of that
pub gathers_then : (xs more gathered after : List ℕ) (a b c : Option (List ℕ)) → Gathers xs gathered a b → Gathers (gathered ++ more) after b c → Gathers (xs ++ more) after a c
gathers_then xs more gathered after a b c (front, e, takes) (next, f, takes_next) =
    (front ++ next, front_and_more xs front gathered more e ∙ ap (λ (l : List ℕ). front ++ l) f ∙ sym (append_assoc front next after), then front next a b c takes takes_next)

-- or all of it
pub gathers_end : (xs gathered : List ℕ) (a b c : Option (List ℕ)) → Gathers xs gathered a b → Takes gathered b c → Takes xs a c
gathers_end xs gathered a b c (front, e, takes) rest = subst (λ (l : List ℕ). Takes l a c) (sym e) (then front gathered a b c takes rest)

-- or a front of it
pub gathers_front : (xs gathered : List ℕ) (a b c : Option (List ℕ)) → Gathers xs gathered a b → TakesFront gathered b c → TakesFront xs a c
gathers_front xs gathered a b c (front, e, takes) rest =
    subst (λ (l : List ℕ). TakesFront l a c) (sym e) (then_front front gathered a b c takes rest)

pub gathers_front_more : (xs more gathered : List ℕ) (a b c : Option (List ℕ)) → Gathers xs gathered a b → TakesFront (gathered ++ more) b c → TakesFront (xs ++ more) a c
gathers_front_more xs more gathered a b c given rest = gathers_front (xs ++ more) (gathered ++ more) a b c (gathers_more xs more gathered a b given) rest

-- no line was gathered
pub told_none : (gathered : List ℕ) (a : Option (List ℕ)) → gathered ≡ [] → Gathers (report_of []) gathered a a
unfolding report_of
told_none gathered a none = subst (λ (l : List ℕ). Gathers [] l a a) (sym none) (gathers_all [] a)

-- one more line was gathered
pub told_more : (journal : List Entry) (i : ℕ) (d : Entry) (text gathered after : List ℕ) (a b c : Option (List ℕ)) → i < length journal → text ≡ line_of (get_or journal i d)
    → Gathers (report_of (take i journal)) gathered a b → Gathers (gathered ++ text) after b c → Gathers (report_of (take (i + 1) journal)) after a c
told_more journal i d text gathered after a b c h e first second =
    subst (λ (xs : List ℕ). Gathers xs after a c) (ap (λ (line : List ℕ). report_of (take i journal) ++ line) e ∙ sym (report_more journal i d h))
    (gathers_then (report_of (take i journal)) text gathered after a b c first second)

-- some was told of what was gathered, and of the next line
pub told_some : (journal : List Entry) (i : ℕ) (d : Entry) (text gathered : List ℕ) (a b c : Option (List ℕ)) → i < length journal → text ≡ line_of (get_or journal i d)
    → Gathers (report_of (take i journal)) gathered a b → TakesFront (gathered ++ text) b c → TakesFront (report_of journal) a c
told_some journal i d text gathered a b c h e first second =
    subst (λ (xs : List ℕ). TakesFront xs a c) (ap (λ (line : List ℕ). (report_of (take i journal) ++ line) ++ report_of (drop (suc i) journal)) e ∙ sym (report_parts journal i d h))
    (front_of_more _ (report_of (drop (suc i) journal)) a c
    (gathers_front_more (report_of (take i journal)) text gathered a b c first second))

-- some was told of what was gathered
pub told_front : (journal : List Entry) (i : ℕ) (gathered : List ℕ) (a b c : Option (List ℕ)) → Gathers (report_of (take i journal)) gathered a b
    → TakesFront gathered b c → TakesFront (report_of journal) a c
unfolding report_of
told_front journal i gathered a b c first rest =
    subst (λ (xs : List ℕ). TakesFront xs a c) (sym (ap report_of (sym (take-append-drop i journal)) ∙ flat_map-append line_of (take i journal) (drop i journal)))
    (front_of_more (report_of (take i journal)) (report_of (drop i journal)) a c (gathers_front (report_of (take i journal)) gathered a b c first rest))
