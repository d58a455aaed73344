-- Heads that were accepted name their group, and go on to name it: so what put_heads writes of them is accepted.
use Rattle.std.specs.Prelude.{◌≡◌, ℕ, List, None}
use Rattle.ag_headers.specs.Agf.{agf_fault, agf_of}
use Rattle.ag_headers.specs.Agi.{agi_fault, agi_of}
use Rattle.geom.specs.Layout.{Layout}
use Rattle.root_switch.specs.Rooted.{IsAgfOf, IsAgiOf, rooted_heads}
use Rattle.root_switch.specs.declared.heads.Heads.{Heads}
use Rattle.root_switch.specs.declared.heads.Switch.{Switch}

pub record HeadsStand : Type 0 where
  pub agf : (at : Layout) (g : ℕ) (block : List ℕ) → agf_fault at g block ≡ None → IsAgfOf at g (agf_of block)
  pub agi : (at : Layout) (g : ℕ) (block : List ℕ) → agi_fault at g block ≡ None → IsAgiOf at g (agi_of block)
  -- a switch leaves whose they are
  pub agf_switched : (at : Layout) (g : ℕ) (switch : Switch) (h : Heads) → IsAgfOf at g h.agf → IsAgfOf at g (rooted_heads switch h).agf
  pub agi_switched : (at : Layout) (g : ℕ) (switch : Switch) (h : Heads) → IsAgiOf at g h.agi → IsAgiOf at g (rooted_heads switch h).agi
