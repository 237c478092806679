-- The numbers that are written one after the other are those of the header.
use Rattle.std.proofs.Common.{append_assoc}
use Rattle.rv_image.proofs.writing.put_sizes.Goals as goal

pub returns : goal.returns
returns c =
    rw (
      c.in_ok-put_u32-4.ensures,
      c.in_ok-put_u32-3.ensures,
      c.in_ok-put_u32-2.ensures,
      c.in_ok-put_u32.ensures,
      c.as_slice.ensures,
      c.as_slice-2.ensures,
    ) (simp append_assoc)
