-- How the report names the owner and the flags of a reverse mapping.
use Rattle.std.specs.Prelude.{ℕ, Bool, not, ◌&&◌, List, [], ◌++◌, codes, Option, Some, None, if◌then◌else◌}
use Rattle.std.specs.Fmt.{decimal}
use Rattle.rmap_recs.specs.Owners.{owner_of, owner_text}
use Rattle.rmap_recs.specs.Words.{is_attribute, is_fork_tree, is_unwritten}
use Rattle.rmap_recs.specs.declared.owner.Owner.{Owner}

-- the owner's word, or the number where nobody has it
abbrev pub text_of : ℕ → Option Owner → List ℕ
text_of number None = decimal number
text_of number (Some owner) = owner_text owner

unfoldable pub owner_name : ℕ → List ℕ
owner_name number = text_of number (owner_of number)

-- the letter where the flag is set
abbrev pub letter : Bool → List ℕ → List ℕ
letter is_set name = if is_set then name else []

-- attribute fork, fork-tree block, unwritten; a dash for none of them
abbrev pub letters_of : Bool → Bool → Bool → List ℕ
letters_of attribute tree unwritten =
    if not attribute && (not tree && not unwritten) then codes "-"
    else letter attribute (codes "a") ++ (letter tree (codes "t") ++ letter unwritten (codes "u"))

unfoldable pub flag_letters : ℕ → List ℕ
flag_letters word = letters_of (is_attribute word) (is_fork_tree word) (is_unwritten word)
