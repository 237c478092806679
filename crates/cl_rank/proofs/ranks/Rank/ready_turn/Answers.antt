use Rattle.std.proofs.Common.{◌∙◌, ap, refl}
use Rattle.rv_hart.specs.State.{read}
use Rattle.cl_calls.specs.declared.calls.Call.TheVariants as call
use Rattle.cl_state.specs.declared.asking.Ask.TheVariants as ask
use Rattle.cl_state.specs.declared.asking.Doing.TheVariants.{Go}
use Rattle.cl_state.specs.declared.row.Row.TheVariants.{OnBox}
use Rattle.cl_state.specs.declared.row.Visit.TheVariants.{Readies}
use Rattle.cl_state.specs.declared.state.RankState.{RankState}
use Rattle.cl_rank.specs.Known.{IsKnown}
use Rattle.cl_rank.specs.declared.turning.Turn.{Turn}
use Rattle.cl_rank.proofs.Known.{has_room}
use Rattle.cl_rank.proofs.QuickParts.{known_ready}
use Rattle.cl_rank.proofs.ranks.Rank.ready_turn.Goals as goal

pub make_ready-requires-clause-may : goal.make_ready-requires-clause-may
make_ready-requires-clause-may c =
    let has = c.requires.has in
    let it = c.in-Some in
    let old : RankState = c.args.self.now.state in
    let new : RankState = record old { fresh = c.new-3.result } in
    let turn : Turn = record {
      hart = c.args.hart;
      doing = Go (call.Pready c.get-handle.result c.get-number.result);
      row = OnBox (Readies it.side.link it.part);
    } in
    let was = known_ready old c.args.hart c.index-at.result.now c.get-handle.result c.get-number.result it.part it.side c.part_contents-bytes.result
    c.index-at.ensures has.there (c.if-not-is_at.ensures.running refl) (c.if-not-is_at.ensures.ecall refl)
    (c.if-not-is_at.ensures.number refl) (c.get-handle.ensures ∙ ap (read c.index-at.result.now) c.new.ensures)
    (c.get-number.ensures ∙ ap (read c.index-at.result.now) c.new-2.ensures) (it.ensures.may) it.ensures.part c.part_contents-bytes.ensures in
    let at = was.next in
    let known : IsKnown new turn (ask.Ready it.side.link it.part c.part_contents-bytes.result) = record {
      next = record { there = at.there; spelled = at.spelled; right = at.right; running = at.running };
      row = was.row;
      asks_for = was.asks_for;
      quiet = was.quiet;
      pages = was.pages;
    } in
    record {
      has = record { there = at.there; low = has.low; left = has.left; few = has.few; space = has.space };
      next = known.next;
      row = known.row;
      room = has_room new turn (ask.Ready it.side.link it.part c.part_contents-bytes.result) known c.new-3.ensures.items;
    }

pub make_ready-requires-clause-asked : goal.make_ready-requires-clause-asked
make_ready-requires-clause-asked c =
    let has = c.requires.has in
    let it = c.in-Some in
    let old : RankState = c.args.self.now.state in
    let was = known_ready old c.args.hart c.index-at.result.now c.get-handle.result c.get-number.result it.part it.side c.part_contents-bytes.result
    c.index-at.ensures has.there (c.if-not-is_at.ensures.running refl) (c.if-not-is_at.ensures.ecall refl)
    (c.if-not-is_at.ensures.number refl) (c.get-handle.ensures ∙ ap (read c.index-at.result.now) c.new.ensures)
    (c.get-number.ensures ∙ ap (read c.index-at.result.now) c.new-2.ensures) (it.ensures.may) it.ensures.part c.part_contents-bytes.ensures in
    was.asks_for
