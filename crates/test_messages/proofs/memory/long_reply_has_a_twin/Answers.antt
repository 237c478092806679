use Rattle.std.proofs.Common.{◌≡◌, sym, Option, None, Some, Result, Ok, Err, IfOk}
use Rattle.mp_types.specs.Carried.{IsInPlace}
use Rattle.mp_types.specs.declared.replies.Reply.{Reply}
use Rattle.mp_hub.specs.Twins.{HasTwin}
use Rattle.mp_hub.specs.declared.state.CallFault.{CallFault}
use Rattle.test_messages.proofs.memory.long_reply_has_a_twin.Goals as goal

there : (told : Result Reply CallFault) (twin : Option Reply) → IfOk told (λ r. HasTwin r twin)
    → IfOk told (λ r. ¬ (IsInPlace r) → twin ≡ Some r)
there (Err fault) twin has = tt
there (Ok r) None has = λ long. absurd (long has)
there (Ok r) (Some other) has = λ long i. Some (has i)

pub returns : goal.returns
returns c = there c.answer_with.result c.answer_with.new.twin c.answer_with.ensures.twin
