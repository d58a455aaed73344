use Rattle.std.proofs.Common.{refl}
use Rattle.ag_headers.specs.Agi.{agi_in}
use Rattle.ag_headers.proofs.agi.agi_at.Goals as goal

pub returns : goal.returns
unfolding agi_in
returns c =
    rw (
      c.get_u32.ensures,
      c.get_u32-2.ensures,
      c.get_u32-3.ensures,
      c.get_u32-4.ensures,
      c.get_u32-5.ensures,
      c.get_u32-6.ensures,
      c.get_u32-7.ensures,
      c.get_u32-8.ensures,
      c.get_numbers.ensures,
      c.get_uuid.ensures,
      c.get_u64.ensures,
      c.get_u32-9.ensures,
      c.get_u32-10.ensures,
      c.get_u32-11.ensures,
      c.get_u32-12.ensures,
    ) refl
