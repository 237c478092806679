-- An answer that can't be refused.
use Rattle.std.proofs.Common.{◌≡◌, Result, Ok, Err, IsOk, IfOk, ap}
use Rattle.mp_types.specs.declared.replies.Reply.{Reply}
use Rattle.mp_hub.specs.declared.state.CallFault.{CallFault}

pub exact : (told : Result Reply CallFault) (reply : Reply) → IsOk told → IfOk told (λ r. r ≡ reply) → told ≡ Ok reply
exact (Ok r) reply answered same = ap (λ (x : Reply). Ok x) same
exact (Err fault) reply answered same = absurd (cc)
