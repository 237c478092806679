-- The link that a reply of the hub names.
use Rattle.std.specs.Prelude.{ℕ}
use Rattle.mp_types.specs.declared.replies.Reply.{Reply}
use Rattle.mp_types.specs.declared.replies.Reply.TheVariants as reply
use Rattle.mp_types.specs.declared.requests.Request.{Request}
use Rattle.mp_types.specs.declared.requests.Request.TheVariants as request

-- a reply gives a link its shape, or its cut; any other changes no side
abbrev pub named_link : Request → Reply → ℕ
named_link r (reply.Link link) = link
named_link (request.Cut link) _ = link
named_link _ _ = 0
