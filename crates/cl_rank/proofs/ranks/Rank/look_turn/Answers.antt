use Rattle.std.proofs.Common.{◌∙◌, ap, refl}
use Rattle.rv_hart.specs.State.{read}
use Rattle.cl_calls.specs.declared.calls.Call.TheVariants as call
use Rattle.cl_state.specs.declared.asking.Ask.TheVariants as ask
use Rattle.cl_state.specs.declared.asking.Doing.TheVariants.{Go}
use Rattle.cl_state.specs.declared.row.Row.TheVariants.{OnBox}
use Rattle.cl_state.specs.declared.row.Visit.TheVariants.{Sees}
use Rattle.cl_state.specs.declared.state.RankState.{RankState}
use Rattle.cl_rank.specs.Known.{IsKnown}
use Rattle.cl_rank.specs.declared.turning.Turn.{Turn}
use Rattle.cl_rank.proofs.Known.{has_room}
use Rattle.cl_rank.proofs.QuickParts.{known_arrived}
use Rattle.cl_rank.proofs.ranks.Rank.look_turn.Goals as goal

pub look-requires-clause-may : goal.look-requires-clause-may
look-requires-clause-may c =
    let has = c.requires.has in
    let it = c.in-Some in
    let old : RankState = c.args.self.now.state in
    let new : RankState = record old { fresh = c.new-3.result } in
    let turn : Turn = record {
      hart = c.args.hart;
      doing = Go (call.Parrived c.get-handle.result c.get-number.result);
      row = OnBox (Sees it.side it.part it.asked);
    } in
    let was = known_arrived old c.args.hart c.index-at.result.now c.get-handle.result c.get-number.result it.asked it.side it.part
    c.index-at.ensures has.there (c.if-not-is_at.ensures.running refl) (c.if-not-is_at.ensures.ecall refl)
    (c.if-not-is_at.ensures.number refl) (c.get-handle.ensures ∙ ap (read c.index-at.result.now) c.new.ensures)
    (c.get-number.ensures ∙ ap (read c.index-at.result.now) c.new-2.ensures) (it.ensures.awaits) it.ensures.part in
    let at = was.next in
    let known : IsKnown new turn (ask.Look it.side.link it.part) = record {
      next = record { there = at.there; spelled = at.spelled; right = at.right; running = at.running };
      row = was.row;
      asks_for = was.asks_for;
      quiet = was.quiet;
      pages = was.pages;
    } in
    record {
      has = record { there = at.there; low = has.low; left = has.left; few = has.few; space = has.space };
      next = known.next;
      row = known.row;
      room = has_room new turn (ask.Look it.side.link it.part) known c.new-3.ensures.items;
    }

pub look-requires-clause-asked : goal.look-requires-clause-asked
look-requires-clause-asked c =
    let has = c.requires.has in
    let it = c.in-Some in
    let old : RankState = c.args.self.now.state in
    let was = known_arrived old c.args.hart c.index-at.result.now c.get-handle.result c.get-number.result it.asked it.side it.part
    c.index-at.ensures has.there (c.if-not-is_at.ensures.running refl) (c.if-not-is_at.ensures.ecall refl)
    (c.if-not-is_at.ensures.number refl) (c.get-handle.ensures ∙ ap (read c.index-at.result.now) c.new.ensures)
    (c.get-number.ensures ∙ ap (read c.index-at.result.now) c.new-2.ensures) (it.ensures.awaits) it.ensures.part in
    was.asks_for
