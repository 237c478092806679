-- The key is the box's own and fresh, and what was loaded decides the answer.
use Rattle.std.proofs.Common.{◌≡◌, ℕ, ◌+◌, ◌≤◌, List, length, map, set, Bool, true, refl, sym, ap, ◌∙◌, subst, arith}
use Rattle.std.proofs.Common.{length-append}
use Rattle.std.specs.Prelude.{slice_get, is_some, unwrap_or, max, if◌then◌else◌}
use Rattle.part_box.specs.Gate.{ready_stamp}
use Rattle.part_box.specs.Keys.{Receiver, after_look}
use Rattle.part_channel.specs.Channels.{ChannelView, receiver_box}
use Rattle.part_channel.specs.Sending.{modified, one_if, none_marked}
use Rattle.part_channel.specs.declared.progress.Take.{Take}
use Rattle.part_box.specs.declared.view.Got.{Got}
use Rattle.part_channel.specs.Receiving.{HasGot, round_of, shown_take, RecvView, AreRecvLanes, are_left, marked, took}
use Rattle.part_channel.specs.Receiving.{lane_shown, lane_took, got_of}
use Rattle.part_channel.proofs.Lists.{read_at, set_modified, at_set, at_end}
use Rattle.part_channel.proofs.Received.{key_read, own_at, missed, taken, round_missed, round_taken, keeps_missed, keeps_taken}
use Rattle.part_channel.proofs.Received.{boxes_set, at_took, recv_view}
use Rattle.part_channel.proofs.receiving.RecvSide.take.Goals as goal

pub try_take-take-requires-clause-own : goal.try_take-take-requires-clause-own
try_take-take-requires-clause-own c =
    let side = c.self.inside in
    let boxes = c.channel.inside.boxes.items in
    let wides : length boxes ≡ 16 = c.channel.invariant.long in
    let most : side.boxes ≤ 16 = c.self.invariant.kept.most in
    let key =
    key_read side.keys.items side.boxes side.active side.taken c.args.part c.index_mut.result.now c.self.invariant.kept (omega arith)
    c.index_mut.ensures.value in
    let place = read_at boxes c.args.part c.index.result.now (omega arith) c.index.ensures in
    own_at side.keys.items boxes c.args.channel.now.boxes c.args.part c.index_mut.result.now c.index.result.now
    (ap (λ (v : ChannelView). v.boxes) c.channel.view_is)
    (ap (λ (s : RecvView). map receiver_box s.keys) c.self.view_is ∙ c.requires.own) key place

pub try_take-take-requires-clause-fresh : goal.try_take-take-requires-clause-fresh
try_take-take-requires-clause-fresh c =
    let side = c.self.inside in
    let key =
    key_read side.keys.items side.boxes side.active side.taken c.args.part c.index_mut.result.now c.self.invariant.kept (omega arith)
    c.index_mut.ensures.value in
    let lane = c.self.invariant.kept.lanes c.args.part c.index_mut.result.now key in
    (lane.seen, lane.copied)

pub invariant_of-self : goal.invariant_of-self
invariant_of-self c =
    let side = c.self.inside in
    let old = c.index_mut.result.now in
    let key =
    key_read side.keys.items side.boxes side.active side.taken c.args.part old c.self.invariant.kept (omega arith)
    c.index_mut.ensures.value in
    let t = c.try_take-take.ensures in
    let none = missed c.args.clock t.1 (ready_stamp t.0) c.in-Missed.field-0 (sym c.in-Missed.is ∙ t.4) in
    let is = t.3 ∙ ap (lane_shown t.0 t.1 c.args.clock old) none in
    record {
      shape = c.self.invariant.shape;
      cut = c.self.invariant.cut;
      kept = keeps_missed side.keys.items side.boxes side.active side.taken c.args.part old c.try_take-take.new.key
          c.self.invariant.kept key
          (ap (λ (k : Receiver). k.view.seen) is ∙ none)
          (ap (λ (k : Receiver). k.view.copied) is ∙ (c.self.invariant.kept.lanes c.args.part old key).copied)
          (ap (λ (k : Receiver). k.view.got) is);
    }

pub invariant_of-self-in-Taken : goal.invariant_of-self-in-Taken
invariant_of-self-in-Taken c =
    let side = c.self.inside in
    let old = c.index_mut.result.now in
    let key =
    key_read side.keys.items side.boxes side.active side.taken c.args.part old c.self.invariant.kept (omega arith)
    c.index_mut.ensures.value in
    let t = c.try_take-take.ensures in
    let some =
    taken c.args.clock t.1 (ready_stamp t.0) c.in-Taken.field-0 c.in-Taken.field-1 (sym c.in-Taken.is ∙ t.4) in
    let is = t.3 ∙ ap (lane_shown t.0 t.1 c.args.clock old) some.1 in
    let now : List Bool = set side.taken c.args.part true in
    let active_is : c.is_some-self-inside.result ≡ are_left now side.boxes =
    c.is_some-self-inside.ensures ∙ ap is_some c.lowest.ensures in
    let taken_is : c.kept-self-inside.result ≡ (if are_left now side.boxes then now else none_marked) =
    c.kept-self-inside.ensures ∙ ap (λ (b : Bool). if b then now else none_marked) active_is in
    record {
      shape = c.self.invariant.shape;
      cut = c.self.invariant.cut;
      kept = subst
          (λ (x : Bool × List Bool).
          AreRecvLanes (set side.keys.items c.args.part c.try_take-take.new.key) side.boxes x.0 x.1)
          (λ i. (sym active_is i, sym taken_is i))
          (keeps_taken side.keys.items side.boxes side.taken c.args.part old c.try_take-take.new.key
          (subst (λ (b : Bool). AreRecvLanes side.keys.items side.boxes b side.taken) c.if-not-self.false
          c.self.invariant.kept) key (omega arith) c.if-self-at.false
          (ap (λ (k : Receiver). k.view.seen) is) (ap (λ (k : Receiver). k.view.copied) is)
          (ap (λ (k : Receiver). length k.view.got) is ∙ length-append old.view.got _));
    }

pub returns-in-Missed-clause-took : goal.returns-in-Missed-clause-took
returns-in-Missed-clause-took c =
    let side = c.self.inside in
    let old = c.index_mut.result.now in
    let key =
    key_read side.keys.items side.boxes side.active side.taken c.args.part old c.self.invariant.kept (omega arith)
    c.index_mut.ensures.value in
    let t = c.try_take-take.ensures in
    let none = missed c.args.clock t.1 (ready_stamp t.0) c.in-Missed.field-0 (sym c.in-Missed.is ∙ t.4) in
    let is = t.3 ∙ ap (lane_shown t.0 t.1 c.args.clock old) none in
    let step = lane_took t.0 t.1 c.args.clock in
    let keys = ap (set side.keys.items c.args.part) t.3 ∙ set_modified side.keys.items c.args.part step old key in
    let round : ℕ = round_of side.keys.items side.taken in
    let next =
    recv_view (modified side.keys.items c.args.part step) side.parts side.size side.boxes side.bytes round side.active
    side.taken in
    let same =
    round_missed side.keys.items side.taken c.args.part old c.try_take-take.new.key key
    (ap (λ (k : Receiver). k.view.got) is) in (
      t.0,
      t.1,
      t.2 ∙ ap (λ (v : ChannelView). v.width) c.channel.view_is,
      (λ i. recv_view (keys i) side.parts side.size side.boxes side.bytes (same i) side.active side.taken)
          ∙ (sym (ap (marked next c.args.part) none)
          ∙ ap (λ (s : RecvView). took s c.args.part t.0 t.1 c.args.clock) c.self.view_is),
      t.4,
    )

pub returns-in-Taken-clause-took : goal.returns-in-Taken-clause-took
returns-in-Taken-clause-took c =
    let side = c.self.inside in
    let old = c.index_mut.result.now in
    let key =
    key_read side.keys.items side.boxes side.active side.taken c.args.part old c.self.invariant.kept (omega arith)
    c.index_mut.ensures.value in
    let t = c.try_take-take.ensures in
    let some =
    taken c.args.clock t.1 (ready_stamp t.0) c.in-Taken.field-0 c.in-Taken.field-1 (sym c.in-Taken.is ∙ t.4) in
    let is = t.3 ∙ ap (lane_shown t.0 t.1 c.args.clock old) some.1 in
    let step = lane_took t.0 t.1 c.args.clock in
    let keys = ap (set side.keys.items c.args.part) t.3 ∙ set_modified side.keys.items c.args.part step old key in
    let round : ℕ = round_of side.keys.items side.taken in
    let next =
    recv_view (modified side.keys.items c.args.part step) side.parts side.size side.boxes side.bytes round side.active
    side.taken in
    let now : List Bool = set side.taken c.args.part true in
    let active_is : c.is_some-self-inside.result ≡ are_left now side.boxes =
    c.is_some-self-inside.ensures ∙ ap is_some c.lowest.ensures in
    let taken_is : c.kept-self-inside.result ≡ (if are_left now side.boxes then now else none_marked) =
    c.kept-self-inside.ensures ∙ ap (λ (b : Bool). if b then now else none_marked) active_is in
    let phase : round_of (set side.keys.items c.args.part c.try_take-take.new.key) c.kept-self-inside.result
    ≡ (if are_left now side.boxes then round else round + 1) =
    ap (round_of (set side.keys.items c.args.part c.try_take-take.new.key)) taken_is
    ∙ round_taken side.keys.items side.boxes side.taken c.args.part old c.try_take-take.new.key
    (subst (λ (b : Bool). AreRecvLanes side.keys.items side.boxes b side.taken) c.if-not-self.false
    c.self.invariant.kept) key (omega arith) c.if-self-at.false
    (ap (λ (k : Receiver). k.view.seen) is) (ap (λ (k : Receiver). k.view.copied) is)
    (ap (λ (k : Receiver). length k.view.got) is ∙ length-append old.view.got _) in (
      t.0,
      t.1,
      t.2 ∙ ap (λ (v : ChannelView). v.width) c.channel.view_is,
      (λ i. recv_view (keys i) side.parts side.size side.boxes side.bytes (phase i) (active_is i) (taken_is i))
          ∙ (sym (ap (marked next c.args.part) some.1)
          ∙ ap (λ (s : RecvView). took s c.args.part t.0 t.1 c.args.clock) c.self.view_is),
      t.4,
    )

pub returns-in-Taken-clause-phase : goal.returns-in-Taken-clause-phase
returns-in-Taken-clause-phase c =
    let side = c.self.inside in
    let old = c.index_mut.result.now in
    let key =
    key_read side.keys.items side.boxes side.active side.taken c.args.part old c.self.invariant.kept (omega arith)
    c.index_mut.ensures.value in
    let t = c.try_take-take.ensures in
    let some =
    taken c.args.clock t.1 (ready_stamp t.0) c.in-Taken.field-0 c.in-Taken.field-1 (sym c.in-Taken.is ∙ t.4) in
    let stamp : ℕ = max c.args.clock some.0 + 1 in
    let is : c.try_take-take.new.key ≡ got_of t.1 stamp (after_look old t.0) =
    t.3 ∙ ap (lane_shown t.0 t.1 c.args.clock old) some.1 in
    let less : round_of side.keys.items side.taken + 0 ≡ round_of side.keys.items side.taken = omega arith in
    let phase = c.args.self.now.phase in
    let count : length old.view.got ≡ phase =
    (c.self.invariant.kept.lanes c.args.part old key).got (omega arith)
    ∙ (ap (λ (b : Bool). round_of side.keys.items side.taken + one_if b) c.if-self-at.false
    ∙ (less ∙ ap (λ (s : RecvView). s.phase) c.self.view_is)) in
    let got : Got = record { stamp = unwrap_or (ready_stamp t.0) 0; words = t.1; taken = stamp } in
    let keys = set side.keys.items c.args.part c.try_take-take.new.key in
    let next =
    recv_view keys side.parts side.size side.boxes side.bytes (round_of keys c.kept-self-inside.result)
    c.is_some-self-inside.result c.kept-self-inside.result in
    subst (λ (x : Take). HasGot c.args.self.now next c.args.part x)
    (sym (t.4 ∙ ap (shown_take c.args.clock t.1) some.1)) (
      c.try_take-take.new.key,
      got,
      at_set side.keys.items c.args.part old c.try_take-take.new.key key,
      ap (λ (k : Receiver). slice_get k.view.got phase) is ∙ at_end old.view.got got phase count,
      refl,
      refl,
    )

pub returns-in-Missed-clause-own : goal.returns-in-Missed-clause-own
returns-in-Missed-clause-own c =
    let side = c.self.inside in
    let old = c.index_mut.result.now in
    let key =
    key_read side.keys.items side.boxes side.active side.taken c.args.part old c.self.invariant.kept (omega arith)
    c.index_mut.ensures.value in
    let t = c.try_take-take.ensures in
    boxes_set side.keys.items c.args.channel.now.boxes c.args.part old c.try_take-take.new.key key
    (ap (λ (k : Receiver). k.at) t.3 ∙ at_took t.0 t.1 c.args.clock old)
    (ap (λ (s : RecvView). map receiver_box s.keys) c.self.view_is ∙ c.requires.own)

pub returns-in-Taken-clause-own : goal.returns-in-Taken-clause-own
returns-in-Taken-clause-own c =
    let side = c.self.inside in
    let old = c.index_mut.result.now in
    let key =
    key_read side.keys.items side.boxes side.active side.taken c.args.part old c.self.invariant.kept (omega arith)
    c.index_mut.ensures.value in
    let t = c.try_take-take.ensures in
    boxes_set side.keys.items c.args.channel.now.boxes c.args.part old c.try_take-take.new.key key
    (ap (λ (k : Receiver). k.at) t.3 ∙ at_took t.0 t.1 c.args.clock old)
    (ap (λ (s : RecvView). map receiver_box s.keys) c.self.view_is ∙ c.requires.own)
