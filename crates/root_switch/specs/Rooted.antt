-- What a switch makes of the heads of its group ("AG Free Space Block", "AG Inode Management").
use Rattle.std.specs.Prelude.{ℕ, List, Bool, true, false, Option, unwrap_or}
use Rattle.ag_headers.specs.Agf.{agf_written}
use Rattle.ag_headers.specs.Agi.{agi_written}
use Rattle.ag_headers.specs.Fields.{sector, with_sector}
use Rattle.ag_headers.specs.Tests.{IsOfGroup}
use Rattle.geom.specs.Layout.{Layout}
use Rattle.ag_headers.specs.declared.agf.Agf.{Agf}
use Rattle.ag_headers.specs.declared.agi.Agi.{Agi}
use Rattle.root_switch.specs.declared.heads.Heads.{Heads}
use Rattle.root_switch.specs.declared.heads.NewTree.{NewTree}
use Rattle.root_switch.specs.declared.heads.Switch.{Switch}
use Rattle.root_switch.specs.declared.heads.Switch.TheVariants.{Inode, Rmap, Free, Refc}

abbrev pub with_counted : Bool → NewTree → NewTree → Agi → Agi
with_counted true ino fino a = record a { iblocks = ino.blocks; fblocks = fino.blocks }
with_counted false ino fino a = a

-- new roots of the inode btrees, and their blocks where these are counted
abbrev pub with_inodes : NewTree → NewTree → Bool → Agi → Agi
with_inodes ino fino counts a = with_counted counts ino fino (record a { root = ino.root; level = ino.levels; free_root = fino.root; free_level = fino.levels })

abbrev pub with_rmap : NewTree → Option ℕ → Agf → Agf
with_rmap t btreeblks a = record a { rmap_root = t.root; rmap_level = t.levels; rmap_blocks = t.blocks; btreeblks = unwrap_or btreeblks a.btreeblks }

abbrev pub with_free : NewTree → NewTree → Option ℕ → Agf → Agf
with_free bno cnt btreeblks a = record a { bno_root = bno.root; bno_level = bno.levels; cnt_root = cnt.root; cnt_level = cnt.levels; btreeblks = unwrap_or btreeblks a.btreeblks }

abbrev pub with_refc : NewTree → Agf → Agf
with_refc t a = record a { refcount_root = t.root; refcount_level = t.levels; refcount_blocks = t.blocks }

-- What are the heads after a switch? The unit's roots, levels and counters are new, and all else is as it was.
abbrev pub rooted_heads : Switch → Heads → Heads
rooted_heads (Inode ino fino count freecount counts) h = record h { agi = record (with_inodes ino fino counts h.agi) { count = count; freecount = freecount } }
rooted_heads (Rmap t btreeblks) h = record h { agf = with_rmap t btreeblks h.agf }
rooted_heads (Free bno cnt freeblks longest btreeblks) h = record h { agf = record (with_free bno cnt btreeblks h.agf) { freeblks = freeblks; longest = longest } }
rooted_heads (Refc t) h = record h { agf = with_refc t h.agf }

-- What is block 0 with both heads? Each in its sector, over the bytes that are there.
abbrev pub heads_put : Heads → List ℕ → List ℕ
heads_put h block = with_sector 2 (with_sector 1 block (agf_written h.agf (sector 1 block))) (agi_written h.agi (sector 2 block))

-- a head is one of this group
abbrev pub IsAgfOf : Layout → ℕ → Agf → Type 0
IsAgfOf at g a = IsOfGroup at g a.seqno a.length a.uuid

abbrev pub IsAgiOf : Layout → ℕ → Agi → Type 0
IsAgiOf at g a = IsOfGroup at g a.seqno a.length a.uuid
