use Rattle.std.proofs.Common.{refl}
use Rattle.rv_asm_lines.proofs.labels.add_label.Goals as goal

pub returns : goal.returns
returns c = rw (c.in_ok-put_label.ensures, c.in_ok-push.ensures.items, c.label.ensures, c.next_place-place.ensures) refl
