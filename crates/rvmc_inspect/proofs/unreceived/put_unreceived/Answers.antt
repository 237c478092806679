use Rattle.std.proofs.Common.{ℕ, List, ◌≡◌, ◌∙◌, ◌++◌, ap, rules}
use Rattle.mp_match.specs.declared.posts.Sent.{Sent}
use Rattle.rvmc_inspect.specs.Unreceived.{messages_text, sent_to, tag_count, unreceived}
use Rattle.rvmc_inspect.proofs.Lines.{line_more}
use Rattle.rvmc_inspect.proofs.unreceived.put_unreceived.Goals as goal

pub loop-rank-preserved : goal.loop-rank-preserved
loop-rank-preserved c =
    let lines = c.args.hub.now.board.lines in
    let rank = c.loop-rank.rank in
    let ranks = c.args.ranks in
    let tags = c.tag_count-tags.result in
    let own = c.in_ok-own.own.items in
    let own_is : own ≡ sent_to rank (unreceived lines) = search rules in
    let given : c.as_slice-in-loop-rank.result.now ≡ own = c.as_slice-in-loop-rank.ensures.value in
    let added : c.put_messages.new.text.items ≡ c.loop-rank.text.items ++ messages_text tags ranks rank c.as_slice-in-loop-rank.result.now = c.in_ok-put_messages.ensures in
    let same : messages_text tags ranks rank own ≡ messages_text tag_count ranks rank (sent_to rank (unreceived lines)) =
    ap (λ (t : ℕ). messages_text t ranks rank own) c.tag_count-tags.ensures.count
    ∙ ap (λ (s : List Sent). messages_text tag_count ranks rank s) own_is in
    line_more (λ (r : ℕ). messages_text tag_count ranks r (sent_to r (unreceived lines))) c.args.text.now.items
    c.loop-rank.text.items (messages_text tags ranks rank own) _ rank c.loop-rank.invariant same
    (added ∙ ap (λ (s : List Sent). c.loop-rank.text.items ++ messages_text tags ranks rank s) given)
