-- Messages that are looked for: from a rank, and to some ranks or to any.
use Rattle.std.specs.Prelude.{ℕ, ◌==◌, ◌&&◌, not, option_map, Bool, true, List, Option, Some, None}
use Rattle.mp_match.specs.declared.posts.Sent.{Sent}
use Rattle.mp_request.specs.Table.{Table, request_at}
use Rattle.cl_calls.specs.declared.calls.Sending.{Sending}
use Rattle.cl_calls.specs.declared.sites.Site.{Site}
use Rattle.cl_deadlock_laws.specs.Stuck.{is_among}
use Rattle.cl_rest_laws.specs.Rests.{is_open_post, is_sent_with, post_of_send}
use Rattle.cl_rests.specs.declared.sought.Sought.{Sought}

-- the message is one to these ranks, or to any if none are given
abbrev pub is_to : Option (List ℕ) → Sent → Bool
is_to None m = true
is_to (Some ranks) m = is_among ranks m.dest

-- one that is looked for
abbrev pub is_sought : Sought → Sent → Bool
is_sought s m = is_to (option_map (λ ranks. ranks.now) s.to) m

-- and is sent by a SEND with these arguments
abbrev pub is_sought_by : Sought → Site → Sending → Sent → Bool
is_sought_by s site sending m = is_sent_with site s.from sending m && is_sought s m

-- or by a standard send of the rank
abbrev pub is_sought_standard : Sought → Sent → Bool
is_sought_standard s m = ((m.envelope.source == s.from) && not m.sync) && is_sought s m

-- the handle names a standard send of such a message, which nobody received
abbrev pub is_sought_handle : Sought → Table → ℕ → Bool
is_sought_handle s requests handle =
    is_open_post (is_sought s) s.hub.now s.from (post_of_send (request_at requests handle))
