use Rattle.rvmc_starts.specs.Starts.{start_text}
use Rattle.rvmc_starts.proofs.Shapes.{colons}
use Rattle.rvmc_starts.proofs.starts.put_start.Goals as goal

pub returns : goal.returns
unfolding start_text
returns c =
    rw (
      c.in_ok-put_turns.ensures,
      c.in_ok-push-4.ensures.items,
      c.in_ok-put_numbers.ensures,
      c.in_ok-push-3.ensures.items,
      c.in_ok-put_word.ensures,
      c.in_ok-push-2.ensures.items,
      c.in_ok-put_sum.ensures,
      c.in_ok-push.ensures.items,
      c.in_ok-put_place.ensures,
      c.as_slice.ensures,
      c.as_slice-2.ensures,
    )
    (colons c.args.text.now.items _ _ _ _ _)
