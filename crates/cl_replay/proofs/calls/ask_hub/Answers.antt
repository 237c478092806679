use Rattle.std.proofs.Common.{refl, sym, ap, ◌∙◌, arith, length, subst, ◌++◌, ◌∷◌, []}
use Rattle.mp_hub.specs.Hub.{HubView, reply_of}
use Rattle.mp_hub.specs.Outcomes.{StandsFor}
use Rattle.mp_hub.proofs.BoardKept.{board_law}
use Rattle.cl_state.specs.declared.asking.Answer.TheVariants as answer
use Rattle.cl_state.specs.declared.asking.Ask.TheVariants as ask
use Rattle.cl_state.specs.Room.{rank_of}
use Rattle.cl_state.specs.Told.{told}
use Rattle.cl_replay.proofs.Asks.{nothing_out, told_same}
use Rattle.cl_replay.proofs.calls.ask_hub.Goals as goal

pub returns-then-posts-ge18446744073709551615-clause-fault : goal.returns-then-posts-ge18446744073709551615-clause-fault
returns-then-posts-ge18446744073709551615-clause-fault c = λ links calls has is.
    let few = (board_law links calls).few in
    let lines = ap (λ (h : HubView). length h.board.lines) has.0 in
    omega (arith, few, lines, has.1, is.stamp, c.posts.ensures, c.requires.low, c.if-posts-ge18446744073709551615.true)

pub room-requires-clause-nothing_out : goal.room-requires-clause-nothing_out
room-requires-clause-nothing_out c =
    nothing_out (rank_of c.args.state.now) c.args.step.now.hart c.args.doing.now c.requires.next.spelled
    (ask.Hub c.args.request.now) c.requires.asks refl

pub returns-clause-calls : goal.returns-clause-calls
returns-clause-calls c = λ links calls has. record {
  call = record {
    request = c.args.request.now;
    asks = c.requires.asks;
    stamp = sym c.stamp.ensures ∙ c.follows_both.ensures.0 c.if-not-follows_both.false;
    gives = sym (c.is_same.ensures.0 c.if-not-is_same.false) ∙ c.in-Ok.ensures.reply links calls has.0
        ∙ ap (λ r. reply_of links calls r c.args.request.now) c.rank.ensures;
  };
  told = c.tell_next.ensures.told
      ∙ told_same _ _ _ _ (answer.Reply c.in-Ok.given) _ _ c.room.ensures.same c.hart.ensures c.stamp-2.ensures
      ∙ ap (λ r. told (rank_of c.args.state.now) c.args.step.now.hart (answer.Reply r) c.args.step.now.stamp)
      (c.is_same.ensures.0 c.if-not-is_same.false);
  stands = subst (λ r. StandsFor c.answer.new.self links (calls ++ (r, c.args.request.now) ∷ [])) c.rank.ensures
      (c.in-Ok.ensures.stands links calls has.0);
}
