-- What is written one after the other is the header.
use Rattle.std.proofs.Common.{append_assoc}
use Rattle.rv_image.specs.Text.{header_text}
use Rattle.rv_image.proofs.writing.put_header.Goals as goal

pub returns : goal.returns
unfolding header_text
returns c =
    rw (c.in_ok-put_counts.ensures, c.in_ok-put_sizes.ensures, c.in_ok-put_front.ensures) (simp append_assoc)
