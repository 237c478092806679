-- The lists that requests and replies carry. A copy takes memory for the elements, and for nothing else.
use Rattle.std.specs.Prelude.{ℕ, ◌≡◌, ◌≤◌, [], length, Option, Some, None}
use Rattle.mp_types.specs.declared.messages.Message.{Message}
use Rattle.mp_types.specs.declared.requests.Request.{Request}
use Rattle.mp_types.specs.declared.requests.Request.TheVariants.{Send, All}
use Rattle.mp_types.specs.declared.replies.Reply.{Reply}
use Rattle.mp_types.specs.declared.replies.Reply.TheVariants.{Got, AllGot}

-- how many elements the list has that a request carries: the bytes of a send, or the numbers of posts
abbrev pub carried_by_request : Request → ℕ
carried_by_request (Send sync comm dest tag bytes) = length bytes
carried_by_request (All posts) = length posts
carried_by_request _ = 0

-- how many elements the list has that a reply carries: the bytes of its message, or what several posts gave
abbrev pub carried_by_reply : Reply → ℕ
carried_by_reply (Got message) = length message.bytes
carried_by_reply (AllGot gots) = length gots
carried_by_reply _ = 0

-- a reply all of which stands in place: its message has at most 16 bytes, and its list is that of no posts
abbrev pub IsInPlace : Reply → Type 0
IsInPlace (Got message) = length message.bytes ≤ 16
IsInPlace (AllGot gots) = gots ≡ []
IsInPlace _ = Unit {0}

-- how many bytes a message has, where there is one
abbrev pub carried_by_message : Option Message → ℕ
carried_by_message None = 0
carried_by_message (Some message) = length message.bytes
