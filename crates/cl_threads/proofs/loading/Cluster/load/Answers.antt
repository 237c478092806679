use Rattle.std.proofs.Common.{◌∙◌, sym, ap, subst, arith, length}
use Rattle.cl_record.specs.Leaving.{HaveRoom}
use Rattle.cl_record.specs.Seats.{AreAt, AreFresh}
use Rattle.cl_threads.proofs.loading.Cluster.load.Goals as goal

pub load_seats-requires-clause-ends : goal.load_seats-requires-clause-ends
load_seats-requires-clause-ends c = (c.in_ok-channels.field-0.channels.items, c.in_ok-channels.ensures.each)

pub returns : goal.returns
returns c =
    let image = c.args.image.now in
    let channels = c.in_ok-channels.field-0.channels.items in
    let seats = c.in_ok-seats.ensures in
    let queued = c.from.ensures.0 in
    let made = c.in_ok-hub.ensures in
    record {
      count = ap length queued ∙ seats.count;
      plans_are = subst (AreAt c.args.plans.now) (sym queued) seats.plans;
      loaded = subst (AreFresh image channels) (sym queued) (seats.fresh channels c.in_ok-channels.ensures.each);
      few_links = c.parts-parts.ensures.limits.few_links;
      joined = c.parts-parts.ensures.limits.links;
      one_each = c.in_ok-channels.ensures.channels_count;
      links_are = made.links;
      no_calls = made.no_calls;
      done_empty = made.none_done;
      done_room = omega (arith, made.done_room, c.requires.one_each);
      room = subst (λ n. HaveRoom n (length image.links) c.in_ok-hub.lists) c.requires.one_each made.room;
    }
