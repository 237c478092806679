use Rattle.std.proofs.Common.{◌∙◌, ◌∷◌, ◌++◌, [], ap, arith, length, refl}
use Rattle.std.proofs.lemmas.List.{length-map}
use Rattle.cl_record.specs.Leaving.{ends_of, state_of, stop_of, trace_of}
use Rattle.cl_record.proofs.Left.{one_more}
use Rattle.cl_record.proofs.lists.Lists.add.Goals as goal

pub push_reserved-requires : goal.push_reserved-requires
push_reserved-requires c =
    let left = c.requires.4 in
    let long = c.args.self.now.traces.ok.0 ∙ ap length left.traces_are ∙ length-map c.requires.2 trace_of in
    omega (arith, long, c.requires.3, left.traces_room)

pub push_reserved-requires-2 : goal.push_reserved-requires-2
push_reserved-requires-2 c =
    let left = c.requires.4 in
    let long = c.args.self.now.ranks.ok.0 ∙ ap length left.ranks_are ∙ length-map c.requires.2 state_of in
    omega (arith, long, c.requires.3, left.ranks_room)

pub push_reserved-requires-3 : goal.push_reserved-requires-3
push_reserved-requires-3 c =
    let left = c.requires.4 in
    let long = c.args.self.now.stops.ok.0 ∙ ap length left.stops_are ∙ length-map c.requires.2 stop_of in
    omega (arith, long, c.requires.3, left.stops_room)

pub push_reserved-requires-4 : goal.push_reserved-requires-4
push_reserved-requires-4 c =
    let left = c.requires.4 in
    let long = c.args.self.now.ends.ok.0 ∙ ap length left.ends_are ∙ length-map c.requires.2 ends_of in
    omega (arith, long, c.requires.3, left.ends_room)

pub returns : goal.returns
returns c = λ count links before left.
    let old = c.args.self.now in
    let parts = c.into_parts-state.ensures in
    one_more c.args.done old _ count links before (record {
      traces_are = c.push_reserved.ensures.items ∙ ap (λ x. old.traces.items ++ x ∷ []) parts.trace;
      ranks_are = c.push_reserved-2.ensures.items ∙ ap (λ x. old.ranks.items ++ x ∷ []) parts.state;
      stops_are = c.push_reserved-3.ensures.items;
      ends_are = c.push_reserved-4.ensures.items
          ∙ (λ i. old.ends.items ++ record { sends = parts.sends i; recvs = parts.recvs i } ∷ []);
      boxes_are = refl;
      traces_room = c.push_reserved.ensures.capacity;
      ranks_room = c.push_reserved-2.ensures.capacity;
      stops_room = c.push_reserved-3.ensures.capacity;
      ends_room = c.push_reserved-4.ensures.capacity;
    }) left
