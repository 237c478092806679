-- The lemmas behind the answers: of packets, of requests, and of what is typed.
pub mod Grammar
pub mod Kept
pub mod Payloads
pub mod Numbers
pub mod Spelled
pub mod Utf8
