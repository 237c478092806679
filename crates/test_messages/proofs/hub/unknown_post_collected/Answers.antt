use Rattle.std.proofs.Common.{[], refl}
use Rattle.mp_types.specs.declared.codes.Code.TheVariants.{BadRequest}
use Rattle.mp_types.specs.declared.replies.Reply.TheVariants as reply
use Rattle.test_messages.proofs.Exact.{exact}
use Rattle.test_messages.proofs.hub.unknown_post_collected.Goals as goal

pub returns : goal.returns
returns c = exact c.answer.result (reply.Code BadRequest) (c.answer.ensures.spared [] [] c.requires refl)
    (c.answer.ensures.reply [] [] c.requires)
