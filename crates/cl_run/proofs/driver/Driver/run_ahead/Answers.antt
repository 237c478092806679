use Rattle.std.proofs.Common.{inr, refl, arith}
use Rattle.std.proofs.lemmas.Option.{slice_get_read}
use Rattle.cl_run.proofs.driver.Driver.run_ahead.Goals as goal

pub returns : goal.returns
returns c =
    let seats = c.args.self.now.seats in
    let seat = c.index_mut.result.now in
    let there = slice_get_read seats.items _ c.args.rank seat seats.ok.0 c.requires.there c.index_mut.ensures.value in
    inr (record {
      n = c.run_plain.result;
      seat = seat;
      later = c.run_plain.new.self;
      there = there;
      runs = c.may_run_ahead.ensures.runs c.if-not-may_run_ahead.false seat there;
      inside = omega (arith, c.if-place-ahead.false);
      at_slot = c.if-ahead-place-ne0.false;
      goes = c.run_plain.ensures.turns;
      plan_stays = c.run_plain.ensures.plan;
      own = c.run_plain.ensures.channels;
      seats_are = refl;
      hub_stays = refl;
      channels_stay = refl;
      more_is = refl;
    })
