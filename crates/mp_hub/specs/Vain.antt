-- Calls that would be answered NotYet, told without making them.
use Rattle.std.specs.Prelude.{ℕ, ◌&&◌, not, Bool, false}
use Rattle.std.specs.List.{list_all}
use Rattle.std.specs.Option.{is_some}
use Rattle.mp_types.specs.declared.requests.Request.{Request}
use Rattle.mp_types.specs.declared.requests.Request.TheVariants as request
use Rattle.mp_match.specs.declared.posts.Post.TheVariants.{Receive, Claim}
use Rattle.mp_match.specs.Board.{is_send_of, line_of, partner_of, probed}
use Rattle.mp_transfers.specs.Inits.{is_receiver, sender_over}
use Rattle.mp_hub.specs.Hub.{HubView, are_distinct, is_complete, is_known, is_ready, may_collect, selecting}

-- the rank's receive has no message, its send isn't complete, no message is there for it, one of its posts isn't ready,
-- or the sender of its link isn't known
abbrev pub asks_in_vain : HubView → ℕ → Request → Bool
asks_in_vain h rank (request.Collect post) = may_collect h rank post && not (is_some (partner_of h.board post))
asks_in_vain h rank (request.Finished post) = is_send_of rank (line_of h.board post) && not (is_complete h post)
asks_in_vain h rank (request.Probe comm source tag) =
    not (is_some (probed h.board (Receive (selecting rank comm source tag))))
asks_in_vain h rank (request.Claim comm source tag) =
    not (is_some (probed h.board (Claim (selecting rank comm source tag))))
asks_in_vain h rank (request.All posts) =
    are_distinct posts && list_all (λ n. is_known h rank n) posts && not (list_all (λ n. is_ready h rank n) posts)
asks_in_vain h rank (request.Cut link) = is_receiver h.links rank link && not (is_some (sender_over h.sides link))
asks_in_vain h rank _ = false
