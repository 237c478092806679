use Rattle.std.proofs.Common.{◌≡◌, false, [], ap, subst}
use Rattle.std.specs.Prelude.{IfOk}
use Rattle.mp_types.specs.declared.codes.Code.TheVariants.{BadRequest}
use Rattle.mp_types.specs.declared.replies.Reply.{Reply}
use Rattle.mp_types.specs.declared.replies.Reply.TheVariants as reply
use Rattle.mp_types.specs.declared.requests.Request.{Request}
use Rattle.mp_hub.specs.Hub.{reply_of}
use Rattle.mp_hub.specs.Made.{makes}
use Rattle.test_messages.proofs.Exact.{exact}
use Rattle.test_messages.proofs.hub.unknown_post_among_several.Goals as goal

pub returns : goal.returns
returns c =
    let unmade : makes c.args.request.now (reply_of [] [] c.args.rank c.args.request.now) ≡ false =
    ap (λ (q : Request). makes q (reply_of [] [] c.args.rank q)) c.requires.all in
    exact c.answer.result (reply.Code BadRequest) (c.answer.ensures.spared [] [] c.requires.new unmade)
    (subst (λ (q : Request). IfOk c.answer.result (λ (r : Reply). r ≡ reply_of [] [] c.args.rank q)) c.requires.all
    (c.answer.ensures.reply [] [] c.requires.new))
