use Rattle.std.proofs.Common.{◌≡◌, ◌≤◌, ◌%◌, length, refl, sym, ap, ◌∙◌, subst}
use Rattle.cl_state.specs.declared.asking.Ask.TheVariants as ask
use Rattle.cl_state.specs.Asked.{asked}
use Rattle.cl_state.specs.Room.{rank_of}
use Rattle.cl_machine.specs.Boxes.{box_number}
use Rattle.cl_replay.specs.Boxes.{ChangesBox, filled, settled_at}
use Rattle.cl_replay.proofs.Asks.{nothing_out}
use Rattle.cl_replay.proofs.Spells.{ready_fits, ready_spelled, ready_whole}
use Rattle.cl_replay.proofs.turns.ready.Goals as goal

pub tell-requires-clause-nothing_out : goal.tell-requires-clause-nothing_out
tell-requires-clause-nothing_out c =
    nothing_out (rank_of c.args.state.now) c.hart-hart.result c.next-doing.result c.next-doing.ensures.spelled
    (ask.Ready c.in-Ready.link c.in-Ready.part c.in-Ready.bytes) (sym c.in-Ok.ensures ∙ c.in-Ready.is) refl

pub to_words-words-requires-clause-whole : goal.to_words-words-requires-clause-whole
to_words-words-requires-clause-whole c =
    subst (λ bytes. length bytes % 8 ≡ 0) (sym c.as_slice.ensures)
    (ready_whole (rank_of c.args.state.now) c.hart-hart.result _ _ _ (sym c.in-Ok.ensures ∙ c.in-Ready.is))

pub to_words-words-requires-clause-fits : goal.to_words-words-requires-clause-fits
to_words-words-requires-clause-fits c =
    subst (λ bytes. length bytes ≤ 128) (sym c.as_slice.ensures)
    (ready_fits (rank_of c.args.state.now) c.hart-hart.result _ _ _ (sym c.in-Ok.ensures ∙ c.in-Ready.is))

pub returns-clause-goes : goal.returns-clause-goes
returns-clause-goes c = record {
  ready = record {
    link = c.in-Ready.link;
    part = c.in-Ready.part;
    bytes = c.in-Ready.bytes;
    settled = c.in-Some.settled;
    asks = (
      ap (asked (rank_of c.args.state.now)) (sym c.hart-hart.ensures) ∙ sym c.in-Ok.ensures ∙ c.in-Ready.is,
      sym c.stamp.ensures ∙ c.follows.ensures.0 c.if-not-follows.false,
    );
    there = sym (sym c.in-Some.is ∙ c.get.ensures ∙ ap (settled_at c.args.boxes.now) c.number_of-number.ensures);
    empty = c.if-settled.false;
  };
  words = c.to_words-words.result;
  spelled = ready_spelled (rank_of c.args.state.now) c.hart-hart.result _ _ _ (sym c.in-Ok.ensures ∙ c.in-Ready.is)
      c.to_words-words.result c.as_slice.result.now c.as_slice.ensures c.to_words-words.ensures;
  told = c.in_ok-tell.ensures.told;
  changes = subst (λ t. ChangesBox c.args.boxes.now (box_number c.in-Ready.link c.in-Ready.part)
      (filled t c.to_words-words.result)
      c.set.new.boxes) c.stamp-stamp.ensures
      (subst (λ n. ChangesBox c.args.boxes.now n (filled c.stamp-stamp.result c.to_words-words.result) c.set.new.boxes)
      c.number_of-number.ensures c.set.ensures);
}
