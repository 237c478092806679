use Rattle.cl_run.proofs.driver.Driver.load.Goals as goal

pub load_seats-requires-clause-ends : goal.load_seats-requires-clause-ends
load_seats-requires-clause-ends c = (c.in_ok-channels.field-0.channels.items, c.in_ok-channels.ensures.each)

pub returns : goal.returns
returns c = record {
  count_is = c.in_ok-seats.ensures.count;
  ranks_are = c.in_ok-seats.ensures.ranks;
  plans_are = c.in_ok-seats.ensures.plans;
  fresh = c.in_ok-seats.ensures.fresh c.in_ok-channels.field-0.channels.items c.in_ok-channels.ensures.each;
  channels_are = c.in_ok-channels.ensures.channels_count;
  few_links = c.parts-parts.ensures.limits.few_links;
  joined = c.parts-parts.ensures.limits.links;
  links_are = c.in_ok-hub.ensures.links;
  no_calls = c.in_ok-hub.ensures.empty;
}
