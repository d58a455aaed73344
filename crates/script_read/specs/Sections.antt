-- Where a section stands among others, and answers that may want memory.
use Rattle.std.specs.Prelude.{◌≡◌, ℕ, zero, suc, List, [], ◌∷◌, Result, Ok, Err, nat_lt, if◌then◌else◌, ⊤}
use Rattle.script_defs.specs.declared.section.Section.{Section}
use Rattle.script_read.specs.declared.fault.ScriptFault.{ScriptFault}
use Rattle.script_read.specs.declared.fault.ScriptFault.TheVariants.{Memory}

-- how many sections of lower writers stand in front
unfoldable pub leading : ℕ → List Section → ℕ
leading w [] = zero
leading w (s ∷ ss) = if nat_lt s.writer w then suc (leading w ss) else zero

-- the one refusal is want of memory
abbrev pub OnlyMemory : {T : Type 0} → Result T ScriptFault → Type 0
OnlyMemory (Ok answer) = ⊤
OnlyMemory (Err fault) = fault ≡ Memory
