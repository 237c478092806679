-- Between phases a phase may begin, and no box is taken.
use Rattle.std.proofs.Common.{◌≡◌, Bool, true, false, sym, ap, ◌∙◌, subst}
use Rattle.part_channel.specs.Sending.{none_marked}
use Rattle.part_channel.specs.Receiving.{RecvView, AreRecvLanes, round_of, awaited}
use Rattle.part_channel.proofs.Received.{keeps_start, idle_unmarked}
use Rattle.part_channel.proofs.receiving.RecvSide.start.Goals as goal

pub invariant_of-self : goal.invariant_of-self
invariant_of-self c =
    let side = c.self.inside in
    record {
      shape = c.self.invariant.shape;
      cut = c.self.invariant.cut;
      kept = keeps_start side.keys.items side.boxes side.active side.taken c.self.invariant.kept;
    }

pub returns-clause-begun : goal.returns-clause-begun
returns-clause-begun c =
    let side = c.self.inside in
    let idle : side.active ≡ false = c.if-self.false in
    let none : side.taken ≡ none_marked =
    idle_unmarked side.keys.items side.boxes side.taken
    (subst (λ (b : Bool). AreRecvLanes side.keys.items side.boxes b side.taken) idle c.self.invariant.kept) in (
      sym (ap (λ (s : RecvView). s.active) c.self.view_is) ∙ idle,
      (λ i. record {
        keys = side.keys.items;
        parts = side.parts;
        size = side.size;
        boxes = side.boxes;
        bytes = side.bytes;
        phase = round_of side.keys.items side.taken;
        active = true;
        taken = none i;
      })
          ∙ ap awaited c.self.view_is,
    )
