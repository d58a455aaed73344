-- A section that is put at its place, as parts.
use Rattle.std.proofs.Common.{◌≡◌, zero, suc, true, false, List, [], ◌∷◌, refl, ap}
use Rattle.std.specs.Prelude.{nat_lt, if◌then◌else◌}
use Rattle.std.specs.List.{insert}
use Rattle.script_defs.specs.Texts.{Part, part_of, parts_of, with_part}
use Rattle.script_defs.specs.declared.section.Section.{Section}
use Rattle.script_read.specs.Sections.{leading}

pub put_at : (p : Section) (ss : List Section) → parts_of (insert ss (leading p.writer ss) p) ≡ with_part (part_of p) (parts_of ss)
unfolding with_part leading
put_at p [] = refl
put_at p (s ∷ ss) = elim (nat_lt s.writer p.writer) as (λ t. parts_of (insert (s ∷ ss) (if t then suc (leading p.writer ss) else zero) p) ≡ (if t then part_of s ∷ with_part (part_of p) (parts_of ss) else part_of p ∷ part_of s ∷ parts_of ss)) [
  | true ↦ ap (λ (ps : List Part). part_of s ∷ ps) (put_at p ss)
  | false ↦ refl
]
