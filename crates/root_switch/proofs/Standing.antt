-- Heads that name their group.
use Rattle.std.proofs.Common.{ℕ, Bool, true, false, refl}
use Rattle.ag_headers.proofs.AgfLemmas.{agf_is_of_group}
use Rattle.ag_headers.proofs.AgiLemmas.{agi_is_of_group}
use Rattle.ag_headers.specs.Agf.{agf_of}
use Rattle.ag_headers.specs.Agi.{agi_of}
use Rattle.ag_headers.specs.Fields.{sector}
use Rattle.ag_headers.specs.declared.agi.Agi.{Agi}
use Rattle.geom.specs.Layout.{Layout}
use Rattle.root_switch.specs.Rooted.{IsAgfOf, IsAgiOf, rooted_heads, with_counted}
use Rattle.root_switch.specs.Standing.{HeadsStand}
use Rattle.root_switch.specs.declared.heads.Heads.{Heads}
use Rattle.root_switch.specs.declared.heads.NewTree.{NewTree}
use Rattle.root_switch.specs.declared.heads.Switch.{Switch}
use Rattle.root_switch.specs.declared.heads.Switch.TheVariants.{Inode, Rmap, Free, Refc}

agf_switched : (at : Layout) (g : ℕ) (switch : Switch) (h : Heads) → IsAgfOf at g h.agf → IsAgfOf at g (rooted_heads switch h).agf
agf_switched at g (Inode ino fino count freecount counts) h own = own
agf_switched at g (Rmap t btreeblks) h own = record { group = own.group; blocks = own.blocks; image = own.image }
agf_switched at g (Free bno cnt freeblks longest btreeblks) h own = record { group = own.group; blocks = own.blocks; image = own.image }
agf_switched at g (Refc t) h own = record { group = own.group; blocks = own.blocks; image = own.image }

counted : (at : Layout) (g : ℕ) (counts : Bool) (ino fino : NewTree) (a : Agi) → IsAgiOf at g a → IsAgiOf at g (with_counted counts ino fino a)
counted at g true ino fino a own = record { group = own.group; blocks = own.blocks; image = own.image }
counted at g false ino fino a own = own

agi_switched : (at : Layout) (g : ℕ) (switch : Switch) (h : Heads) → IsAgiOf at g h.agi → IsAgiOf at g (rooted_heads switch h).agi
agi_switched at g (Inode ino fino count freecount counts) h own =
    let made = counted at g counts ino fino (record h.agi { root = ino.root; level = ino.levels; free_root = fino.root; free_level = fino.levels }) (record { group = own.group; blocks = own.blocks; image = own.image }) in
    record { group = made.group; blocks = made.blocks; image = made.image }
agi_switched at g (Rmap t btreeblks) h own = own
agi_switched at g (Free bno cnt freeblks longest btreeblks) h own = own
agi_switched at g (Refc t) h own = own

pub heads_stand : HeadsStand
heads_stand = record {
  agf = λ at g block passed. agf_is_of_group at g (agf_of block) (sector 1 block) passed refl;
  agi = λ at g block passed. agi_is_of_group at g (agi_of block) (sector 2 block) passed refl;
  agf_switched = agf_switched;
  agi_switched = agi_switched;
}
