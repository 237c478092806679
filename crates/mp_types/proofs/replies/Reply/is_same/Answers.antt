use Rattle.std.proofs.Common.{sym, ap, ◌∙◌}
use Rattle.mp_types.specs.contracts.replies.ReplyEq.TheImpl.Laws as reply_laws
use Rattle.mp_types.proofs.Same.{reply_eq, reply_same}
use Rattle.mp_types.proofs.replies.Reply.is_same.Goals as goal

pub returns : goal.returns
returns c = (
  λ h. reply_same c.args.self.now c.args.other.now (sym c.eq.ensures ∙ h),
  λ e. c.eq.ensures ∙ ap (reply_eq c.args.self.now) (sym e) ∙ (reply_laws.laws-law).refl c.args.self.now,
)
