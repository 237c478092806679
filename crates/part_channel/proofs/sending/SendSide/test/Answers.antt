-- The key is the box's own and has made a thing, and what was loaded decides the answer.
use Rattle.std.proofs.Common.{◌≡◌, ◌+◌, ◌≤◌, List, length, map, set, get_or, Bool, true, false, refl, sym, ap, ◌∙◌}
use Rattle.std.proofs.Common.{subst, arith}
use Rattle.std.specs.Prelude.{◌==◌}
use Rattle.part_box.specs.Keys.{Sender, after_freed}
use Rattle.part_channel.specs.Channels.{ChannelView, sender_box}
use Rattle.part_channel.specs.declared.progress.Progress.TheVariants.{Freed}
use Rattle.part_channel.specs.Sending.{SendView, AreSendLanes, one_if, phase_of, tested, test_progress}
use Rattle.part_channel.proofs.Lists.{read_at, set_modified}
use Rattle.part_channel.proofs.Sent.{key_read, own_at, phase_same, send_view, phase_freed, keeps_missed, keeps_freed, boxes_set, opened_by}
use Rattle.part_channel.proofs.Sent.{tested_none, tested_some, progress_none, progress_some}
use Rattle.part_channel.proofs.sending.SendSide.test.Goals as goal

pub freed-requires-clause-own : goal.freed-requires-clause-own
freed-requires-clause-own c =
    let side = c.self.inside in
    let boxes = c.channel.inside.boxes.items in
    let wides : length boxes ≡ 16 = c.channel.invariant.long in
    let most : side.parts ≤ 16 = c.self.invariant.kept.most in
    let key =
    key_read side.keys.items side.parts side.freed side.ready side.freed c.index_mut.result.now c.self.invariant.kept (omega arith)
    c.index_mut.ensures.value in
    let place = read_at boxes side.freed c.index.result.now (omega arith) c.index.ensures in
    own_at side.keys.items boxes c.args.channel.now.boxes side.freed c.index_mut.result.now c.index.result.now
    (ap (λ (v : ChannelView). v.boxes) c.channel.view_is)
    (ap (λ (s : SendView). map sender_box s.keys) c.self.view_is ∙ c.requires.own) key place

pub freed-requires-clause-made : goal.freed-requires-clause-made
freed-requires-clause-made c =
    let side = c.self.inside in
    let key =
    key_read side.keys.items side.parts side.freed side.ready side.freed c.index_mut.result.now c.self.invariant.kept (omega arith)
    c.index_mut.ensures.value in
    let on : get_or side.ready side.freed false ≡ true = grind (arith, c.if-not-self-at.false) in
    let count : length c.index_mut.result.now.view.made ≡ phase_of side.keys.items side.ready + 1 =
    (c.self.invariant.kept.lanes side.freed c.index_mut.result.now key).made (omega arith)
    ∙ ap (λ (b : Bool). phase_of side.keys.items side.ready + one_if b) on in
    omega (arith, count)

pub invariant_of-self : goal.invariant_of-self
invariant_of-self c =
    let side = c.self.inside in
    let old = c.index_mut.result.now in
    let key =
    key_read side.keys.items side.parts side.freed side.ready side.freed old c.self.invariant.kept (omega arith)
    c.index_mut.ensures.value in
    let on : get_or side.ready side.freed false ≡ true = grind (arith, c.if-not-self-at.false) in
    let new = c.freed.ensures.loaded.1 in
    record {
      shape = c.self.invariant.shape;
      kept = keeps_missed side.keys.items side.parts side.freed side.ready old c.freed.new.key c.self.invariant.kept key
          (omega arith) on
          (ap (λ (k : Sender). k.view.filled) new ∙ (c.self.invariant.kept.lanes side.freed old key).filled)
          (ap (λ (k : Sender). k.view.made) new);
    }

pub invariant_of-self-in-Some : goal.invariant_of-self-in-Some
invariant_of-self-in-Some c =
    let side = c.self.inside in
    let old = c.index_mut.result.now in
    let key =
    key_read side.keys.items side.parts side.freed side.ready side.freed old c.self.invariant.kept (omega arith)
    c.index_mut.ensures.value in
    let on : get_or side.ready side.freed false ≡ true = grind (arith, c.if-not-self-at.false) in
    let load = c.freed.ensures.loaded in
    let new = load.1 in
    let shows = sym load.2 ∙ c.in-Some.is in
    record {
      shape = c.self.invariant.shape;
      kept = subst
          (λ (l : List Bool).
          AreSendLanes (set side.keys.items side.freed c.freed.new.key) side.parts (side.freed + 1) l)
          (sym c.left-self-inside.ensures)
          (keeps_freed side.keys.items side.parts side.freed side.ready old c.freed.new.key c.self.invariant.kept key
          (omega arith) on
          (ap (λ (k : Sender). k.view.filled) new ∙ (c.self.invariant.kept.lanes side.freed old key).filled)
          (ap (λ (k : Sender). k.view.made) new)
          (ap (λ (k : Sender). k.view.is_open) new ∙ opened_by old load.0 c.in-Some.taken shows)
          (side.freed + 1 == side.parts) refl);
    }

pub returns-in-None-clause-tested : goal.returns-in-None-clause-tested
returns-in-None-clause-tested c =
    let side = c.self.inside in
    let old = c.index_mut.result.now in
    let key =
    key_read side.keys.items side.parts side.freed side.ready side.freed old c.self.invariant.kept (omega arith)
    c.index_mut.ensures.value in
    let on : get_or side.ready side.freed false ≡ true = grind (arith, c.if-not-self-at.false) in
    let load = c.freed.ensures.loaded in
    let gate = load.0 in
    let shows = sym load.2 ∙ c.in-None.is in
    let was = send_view side.keys.items side.parts side.size side.freed side.ready in
    let keys =
    ap (set side.keys.items side.freed) load.1
    ∙ set_modified side.keys.items side.freed (λ (k : Sender). after_freed k gate) old key in
    let phase =
    phase_same side.keys.items side.ready side.freed old c.freed.new.key key
    (ap (λ (k : Sender). k.view.made) load.1) in (
      gate,
      (λ i. record {
        keys = keys i;
        parts = side.parts;
        size = side.size;
        phase = phase i;
        ready = side.ready;
        freed = side.freed;
      })
          ∙ (sym (tested_none was gate (omega arith) on shows) ∙ ap (λ (s : SendView). tested s gate) c.self.view_is),
      sym (progress_none was gate (omega arith) on c.args.clock shows)
          ∙ ap (λ (s : SendView). test_progress s c.args.clock gate) c.self.view_is,
    )

pub returns-in-Some-clause-tested : goal.returns-in-Some-clause-tested
returns-in-Some-clause-tested c =
    let side = c.self.inside in
    let old = c.index_mut.result.now in
    let key =
    key_read side.keys.items side.parts side.freed side.ready side.freed old c.self.invariant.kept (omega arith)
    c.index_mut.ensures.value in
    let on : get_or side.ready side.freed false ≡ true = grind (arith, c.if-not-self-at.false) in
    let load = c.freed.ensures.loaded in
    let gate = load.0 in
    let shows = sym load.2 ∙ c.in-Some.is in
    let was = send_view side.keys.items side.parts side.size side.freed side.ready in
    let keys =
    ap (set side.keys.items side.freed) load.1
    ∙ set_modified side.keys.items side.freed (λ (k : Sender). after_freed k gate) old key in
    let phase = ap (phase_of (set side.keys.items side.freed c.freed.new.key)) c.left-self-inside.ensures
    ∙ phase_freed side.keys.items side.parts side.freed side.ready old c.freed.new.key c.self.invariant.kept key on
    (ap (λ (k : Sender). k.view.made) load.1) (side.freed + 1 == side.parts) refl in (
      gate,
      (λ i. record {
        keys = keys i;
        parts = side.parts;
        size = side.size;
        phase = phase i;
        ready = c.left-self-inside.ensures i;
        freed = side.freed + 1;
      })
          ∙ (sym (tested_some was gate (omega arith) on c.in-Some.taken shows)
          ∙ ap (λ (s : SendView). tested s gate) c.self.view_is),
      ap Freed c.above.ensures
          ∙ (sym (progress_some was gate (omega arith) on c.args.clock c.in-Some.taken shows)
          ∙ ap (λ (s : SendView). test_progress s c.args.clock gate) c.self.view_is),
    )

pub returns-in-None-clause-own : goal.returns-in-None-clause-own
returns-in-None-clause-own c =
    let side = c.self.inside in
    let old = c.index_mut.result.now in
    let key =
    key_read side.keys.items side.parts side.freed side.ready side.freed old c.self.invariant.kept (omega arith)
    c.index_mut.ensures.value in
    boxes_set side.keys.items c.args.channel.now.boxes side.freed old c.freed.new.key key
    (ap (λ (k : Sender). k.at) c.freed.ensures.loaded.1)
    (ap (λ (s : SendView). map sender_box s.keys) c.self.view_is ∙ c.requires.own)

pub returns-in-Some-clause-own : goal.returns-in-Some-clause-own
returns-in-Some-clause-own c =
    let side = c.self.inside in
    let old = c.index_mut.result.now in
    let key =
    key_read side.keys.items side.parts side.freed side.ready side.freed old c.self.invariant.kept (omega arith)
    c.index_mut.ensures.value in
    boxes_set side.keys.items c.args.channel.now.boxes side.freed old c.freed.new.key key
    (ap (λ (k : Sender). k.at) c.freed.ensures.loaded.1)
    (ap (λ (s : SendView). map sender_box s.keys) c.self.view_is ∙ c.requires.own)
