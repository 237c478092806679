use Rattle.std.proofs.Common.{rules, append_assoc}
use Rattle.rvmc_starts.proofs.Hexes.{hex_step}
use Rattle.rvmc_starts.proofs.hex.+put_hex.Goals as goal

pub returns : goal.returns
returns depth c =
    rw (hex_step c.args.digits c.args.number (search rules), c.in_ok-push.ensures.items, c.in_ok-put_hex.ensures, c.hex_digit.ensures)
    (append_assoc c.args.text.now.items _ _)
