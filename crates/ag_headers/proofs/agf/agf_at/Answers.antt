use Rattle.std.proofs.Common.{refl}
use Rattle.ag_headers.specs.Agf.{agf_in}
use Rattle.ag_headers.proofs.agf.agf_at.Goals as goal

pub returns : goal.returns
unfolding agf_in
returns c =
    rw (
      c.get_u32.ensures,
      c.get_u32-2.ensures,
      c.get_u32-3.ensures,
      c.get_u32-4.ensures,
      c.get_u32-5.ensures,
      c.get_u32-6.ensures,
      c.get_u32-7.ensures,
      c.get_u32-8.ensures,
      c.get_u32-9.ensures,
      c.get_u32-10.ensures,
      c.get_u32-11.ensures,
      c.get_u32-12.ensures,
      c.get_u32-13.ensures,
      c.get_u32-14.ensures,
      c.get_uuid.ensures,
      c.get_u32-15.ensures,
      c.get_u32-16.ensures,
      c.get_u32-17.ensures,
      c.get_u32-18.ensures,
      c.get_u64.ensures,
    ) refl
