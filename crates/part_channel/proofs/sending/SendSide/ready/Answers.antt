-- The key is the box's own and open, and the side keeps its fields.
use Rattle.std.proofs.Common.{◌≡◌, ℕ, ◌+◌, ◌≤◌, length, map, set, Bool, true, ap, ◌∙◌, arith, length-append}
use Rattle.std.specs.Prelude.{slice_get}
use Rattle.part_box.specs.Keys.{Sender}
use Rattle.part_channel.specs.Channels.{ChannelView, sender_box}
use Rattle.part_channel.specs.BoxWords.{words_of}
use Rattle.part_channel.specs.Sending.{SendView, phase_of, one_if, made_of, readied}
use Rattle.part_channel.proofs.Lists.{read_at, set_modified, at_set, at_end}
use Rattle.part_channel.proofs.Sent.{key_read, own_at, phase_ready, keeps_ready, boxes_set}
use Rattle.part_channel.proofs.sending.SendSide.ready.Goals as goal

pub put-requires-clause-own : goal.put-requires-clause-own
put-requires-clause-own c =
    let side = c.self.inside in
    let boxes = c.channel.inside.boxes.items in
    let wides : length boxes ≡ 16 = c.channel.invariant.long in
    let most : side.parts ≤ 16 = c.self.invariant.kept.most in
    let key =
    key_read side.keys.items side.parts side.freed side.ready c.args.part c.index_mut.result.now c.self.invariant.kept (omega arith)
    c.index_mut.ensures.value in
    let place = read_at boxes c.args.part c.index.result.now (omega arith) c.index.ensures in
    own_at side.keys.items boxes c.args.channel.now.boxes c.args.part c.index_mut.result.now c.index.result.now
    (ap (λ (v : ChannelView). v.boxes) c.channel.view_is)
    (ap (λ (s : SendView). map sender_box s.keys) c.self.view_is ∙ c.requires.own) key place

pub put-requires-clause-open : goal.put-requires-clause-open
put-requires-clause-open c =
    let side = c.self.inside in
    let key =
    key_read side.keys.items side.parts side.freed side.ready c.args.part c.index_mut.result.now c.self.invariant.kept (omega arith)
    c.index_mut.ensures.value in
    let lane = c.self.invariant.kept.lanes c.args.part c.index_mut.result.now key in
    (lane.waiting c.if-self-at.false, lane.filled)

pub invariant_of-self : goal.invariant_of-self
invariant_of-self c =
    let side = c.self.inside in
    let old = c.index_mut.result.now in
    let key =
    key_read side.keys.items side.parts side.freed side.ready c.args.part old c.self.invariant.kept (omega arith)
    c.index_mut.ensures.value in
    record {
      shape = c.self.invariant.shape;
      kept = keeps_ready side.keys.items side.parts side.freed side.ready c.args.part old c.put.new.key
          c.self.invariant.kept key (omega arith) (omega arith) c.if-self-at.false
          (ap (λ (k : Sender). k.view.filled) c.put.ensures)
          (ap (λ (k : Sender). length k.view.made) c.put.ensures ∙ length-append old.view.made _);
    }

pub returns-clause-made : goal.returns-clause-made
returns-clause-made c =
    let side = c.self.inside in
    let old = c.index_mut.result.now in
    let key =
    key_read side.keys.items side.parts side.freed side.ready c.args.part old c.self.invariant.kept (omega arith)
    c.index_mut.ensures.value in
    let stamp : ℕ = c.args.clock + 1 in
    let words = words_of c.args.bytes.now c.args.channel.now.width in
    let made =
    c.put.ensures
    ∙ ap (λ n. made_of (words_of c.args.bytes.now n) stamp old)
    (ap (λ (v : ChannelView). v.width) c.channel.view_is) in
    let keys =
    ap (set side.keys.items c.args.part) made
    ∙ set_modified side.keys.items c.args.part (made_of words stamp) old key in
    let phase =
    phase_ready side.keys.items side.parts side.freed side.ready c.args.part old c.put.new.key c.self.invariant.kept
    key (omega arith) c.if-self-at.false
    (ap (λ (k : Sender). length k.view.made) c.put.ensures ∙ length-append old.view.made _) in
    (λ i. record {
      keys = keys i;
      parts = side.parts;
      size = side.size;
      phase = phase i;
      ready = set side.ready c.args.part true;
      freed = side.freed;
    })
    ∙ ap (λ (s : SendView). readied s c.args.part words stamp) c.self.view_is

pub returns-clause-phase : goal.returns-clause-phase
returns-clause-phase c =
    let side = c.self.inside in
    let old = c.index_mut.result.now in
    let key =
    key_read side.keys.items side.parts side.freed side.ready c.args.part old c.self.invariant.kept (omega arith)
    c.index_mut.ensures.value in
    let stamp : ℕ = c.args.clock + 1 in
    let words = words_of c.args.bytes.now c.args.channel.now.width in
    let made =
    c.put.ensures
    ∙ ap (λ n. made_of (words_of c.args.bytes.now n) stamp old)
    (ap (λ (v : ChannelView). v.width) c.channel.view_is) in
    let less : phase_of side.keys.items side.ready + 0 ≡ phase_of side.keys.items side.ready = omega arith in
    let phase = c.args.self.now.phase in
    let count : length old.view.made ≡ phase =
    (c.self.invariant.kept.lanes c.args.part old key).made (omega arith)
    ∙ (ap (λ (b : Bool). phase_of side.keys.items side.ready + one_if b) c.if-self-at.false
    ∙ (less ∙ ap (λ (s : SendView). s.phase) c.self.view_is)) in (
      c.put.new.key,
      at_set side.keys.items c.args.part old c.put.new.key key,
      ap (λ (k : Sender). slice_get k.view.made phase) made
          ∙ at_end old.view.made (record { stamp = stamp; words = words }) phase count,
    )

pub returns-clause-own : goal.returns-clause-own
returns-clause-own c =
    let side = c.self.inside in
    let old = c.index_mut.result.now in
    let key =
    key_read side.keys.items side.parts side.freed side.ready c.args.part old c.self.invariant.kept (omega arith)
    c.index_mut.ensures.value in
    boxes_set side.keys.items c.args.channel.now.boxes c.args.part old c.put.new.key key
    (ap (λ (k : Sender). k.at) c.put.ensures)
    (ap (λ (s : SendView). map sender_box s.keys) c.self.view_is ∙ c.requires.own)
