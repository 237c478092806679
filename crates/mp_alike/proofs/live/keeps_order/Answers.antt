use Rattle.std.proofs.Common.{sym, subst}
use Rattle.mp_alike.specs.InnerAlike.{KeepsSends}
use Rattle.mp_alike.proofs.live.keeps_order.Goals as goal

pub returns-then-keeps_ranks : goal.returns-then-keeps_ranks
returns-then-keeps_ranks c = (
  λ is. record {
    ranks = c.keeps_ranks.ensures.0 c.if-keeps_ranks.true;
    sends = subst (λ xs. KeepsSends c.args.to.now xs) c.lines.ensures.lines (c.keeps_sends.ensures.0 is);
  },
  λ keeps.
      c.keeps_sends.ensures.1 (subst (λ xs. KeepsSends c.args.to.now xs) (sym c.lines.ensures.lines) keeps.sends),
)
