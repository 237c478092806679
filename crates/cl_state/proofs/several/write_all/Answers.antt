use Rattle.std.proofs.Common.{◌∙◌, ◌∷◌, ◌++◌, ℕ, List, ap, append_assoc, sym, subst, arith, rules, length}
use Rattle.std.proofs.lemmas.Grind.{common_steps}
use Rattle.cl_state.specs.Several.{Given, bytes_of_status, given, pendings, statuses_of, with_all_bytes}
use Rattle.cl_state.specs.Writes.{IsEnough, bytes_from, messages_then, statuses_from}
use Rattle.cl_state.specs.Written.{written}
use Rattle.cl_state.proofs.Dealt.{given_next}
use Rattle.cl_state.proofs.Enough.{given_enough, given_left, enough_next}
use Rattle.cl_state.proofs.several.write_all.Goals as goal

pub write_where_right-requires : goal.write_where_right-requires
write_where_right-requires c =
    let last = statuses_from c.args.deal.now.address (length c.args.deal.now.handles.now) in
    let enough = enough_next c.loop-handle.memory.pages c.loop-handle.spares c.args.requests.now c.loop-handle.rest.now
    c.in-Some.handle.now c.in-Some.after.now last c.pending-pending.result c.in-Some.ensures.cases.0
    c.pending-pending.ensures c.loop-handle.invariant.enough in
    subst (λ (g : Given). IsEnough c.loop-handle.memory.pages c.loop-handle.spares
    (bytes_from g.buffer (length g.bytes) ∷ List.[]))
    (sym c.one-given.ensures)
    (given_enough c.args.deal.now.site.now c.pending-pending.result _ c.loop-handle.memory.pages c.loop-handle.spares
    (messages_then c.args.requests.now c.in-Some.after.now last) enough)

pub loop-handle-preserved : goal.loop-handle-preserved
loop-handle-preserved c =
    let last = statuses_from c.args.deal.now.address (length c.args.deal.now.handles.now) in
    let enough = enough_next c.loop-handle.memory.pages c.loop-handle.spares c.args.requests.now c.loop-handle.rest.now
    c.in-Some.handle.now c.in-Some.after.now last c.pending-pending.result c.in-Some.ensures.cases.0
    c.pending-pending.ensures c.loop-handle.invariant.enough in
    let next = given_next c.args.deal.now.site.now c.args.requests.now c.loop-handle.rest.now c.in-Some.handle.now
    c.in-Some.after.now c.pending-pending.result c.loop-handle.behind.now c.left-behind.result.now c.in-Some.ensures.cases.0
    c.pending-pending.ensures c.left-behind.ensures in
    let after = given c.args.deal.now.site.now (pendings c.args.requests.now c.in-Some.after.now) c.left-behind.result.now in
    let wrote = c.write_where_right.ensures.written
    ∙ ap (λ (g : Given). written c.loop-handle.memory g.buffer g.bytes) c.one-given.ensures in
    record {
      memory = c.loop-handle.invariant.memory ∙ ap (with_all_bytes c.loop-handle.memory) next
          ∙ ap (λ m. with_all_bytes m after) (sym wrote);
      statuses = ap (λ xs. xs ++ statuses_of after) (c.in-Ok.ensures.ok
          ∙ ap (λ (bytes : List ℕ). c.loop-handle.statuses.items ++ bytes)
          (c.status.ensures ∙ ap bytes_of_status c.one-given.ensures))
          ∙ append_assoc c.loop-handle.statuses.items _ (statuses_of after)
          ∙ ap (λ gs. c.loop-handle.statuses.items ++ statuses_of gs) (sym next) ∙ c.loop-handle.invariant.statuses;
      pages = c.write_where_right.ensures.pages ∙ c.loop-handle.invariant.pages;
      enough =
          given_left c.args.deal.now.site.now c.pending-pending.result _ c.loop-handle.memory
          c.write_where_right.new.memory c.loop-handle.spares c.write_where_right.new.spares
          (messages_then c.args.requests.now c.in-Some.after.now last) enough wrote c.write_where_right.ensures.pages;
      room = grind (arith, common_steps);
      truncated = search rules;
    }
