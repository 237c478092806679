use Rattle.std.proofs.Common.{◌≡◌, [], refl, ap, Result, Ok, Err, IsOk, IfOk}
use Rattle.mp_types.specs.declared.codes.Code.TheVariants.{BadRequest}
use Rattle.mp_types.specs.declared.replies.Reply.{Reply}
use Rattle.mp_types.specs.declared.replies.Reply.TheVariants as reply
use Rattle.mp_hub.specs.declared.state.CallFault.{CallFault}
use Rattle.test_messages.proofs.memory.unknown_post_told.Goals as goal

exact : (told : Result Reply CallFault) (one : Reply) → IsOk told → IfOk told (λ r. r ≡ one) → told ≡ Ok one
exact (Ok r) one answered same = ap (λ (x : Reply). Ok x) same
exact (Err fault) one answered same = absurd (cc)

pub returns : goal.returns
returns c =
    exact c.answer_with.result (reply.Code BadRequest) (c.answer_with.ensures.spared [] [] c.requires (refl, refl))
    (c.answer_with.ensures.reply [] [] c.requires)
