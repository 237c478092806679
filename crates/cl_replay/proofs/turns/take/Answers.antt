use Rattle.std.proofs.Common.{refl, sym, ap, ◌∙◌, subst}
use Rattle.cl_machine.specs.Boxes.{box_number}
use Rattle.cl_replay.specs.Boxes.{ChangesBox, settled_at, vacant}
use Rattle.cl_state.specs.declared.asking.Answer.TheVariants as answer
use Rattle.cl_state.specs.declared.asking.Ask.TheVariants as ask
use Rattle.cl_state.specs.Asked.{asked}
use Rattle.cl_state.specs.Room.{rank_of}
use Rattle.cl_state.specs.Told.{told}
use Rattle.cl_replay.proofs.Asks.{nothing_out}
use Rattle.cl_replay.proofs.turns.take.Goals as goal

pub tell-requires-clause-nothing_out : goal.tell-requires-clause-nothing_out
tell-requires-clause-nothing_out c =
    nothing_out (rank_of c.args.state.now) c.hart-hart.result c.next-doing.result c.next-doing.ensures.spelled
    (ask.Look c.in-Look.link c.in-Look.part) (sym c.in-Ok.ensures ∙ c.in-Look.is) refl

pub returns-clause-goes : goal.returns-clause-goes
returns-clause-goes c = record {
  take = record {
    link = c.in-Look.link;
    part = c.in-Look.part;
    settled = c.in-Some.settled;
    asks = ap (asked (rank_of c.args.state.now)) (sym c.hart-hart.ensures) ∙ sym c.in-Ok.ensures ∙ c.in-Look.is;
    there = sym (sym c.in-Some.is ∙ c.get.ensures ∙ ap (settled_at c.args.boxes.now) c.number_of-number.ensures);
    full = c.if-not-settled.false;
    stamp = sym c.stamp.ensures ∙ c.follows_both.ensures.0 c.if-not-follows_both.false;
  };
  told = c.in_ok-tell.ensures.told
      ∙ ap (λ bytes. told (rank_of c.args.state.now) c.args.step.now.hart (answer.Taken bytes) c.args.step.now.stamp)
      c.contents.ensures;
  changes = subst (λ t. ChangesBox c.args.boxes.now (box_number c.in-Look.link c.in-Look.part) (vacant t)
      c.set.new.boxes)
      c.stamp-stamp.ensures (subst (λ n. ChangesBox c.args.boxes.now n (vacant c.stamp-stamp.result) c.set.new.boxes)
      c.number_of-number.ensures c.set.ensures);
}
