-- The two keys are the box's own, and the box has the channel's width.
use Rattle.std.proofs.Common.{◌≡◌, ℕ, List, length, map, set, get_or, sym, ap, ◌∙◌, subst, arith}
use Rattle.std.specs.Prelude.{slice_get}
use Rattle.std.proofs.lemmas.List.{set-get_or}
use Rattle.part_box.specs.Keys.{Place, Sender, Receiver}
use Rattle.part_box.specs.Rule.{GateRule}
use Rattle.part_channel.specs.Channels.{ChannelView, sender_box, receiver_box}
use Rattle.part_channel.specs.Sending.{SendView, IsSendSide}
use Rattle.part_channel.specs.Receiving.{RecvView, IsRecvSide, round_of}
use Rattle.part_channel.proofs.Lists.{some_same, read_at}
use Rattle.part_channel.proofs.Leaves.{wide_at}
use Rattle.part_channel.proofs.Sent as sent
use Rattle.part_channel.proofs.Received as received
use Rattle.part_channel.proofs.channel.Channel.agree.Goals as goal

-- a key that is put back as it was
put_back : {A : Type 0} (keys : List A) (i : ℕ) (lent back : A) → lent ≡ get_or keys i lent → back ≡ lent
    → set keys i back ≡ keys
put_back keys i lent back read same = ap (set keys i) (same ∙ read) ∙ set-get_or keys i lent

pub agree-requires-clause-sender : goal.agree-requires-clause-sender
agree-requires-clause-sender c =
    let boxes = c.self.inside.boxes.items in
    let keys = c.send.inside.keys.items in
    let longs : length keys ≡ 16 = c.send.invariant.kept.long in
    let wides : length boxes ≡ 16 = c.self.invariant.long in
    let key = read_at keys c.args.part c.index_mut.result.now (omega arith) c.index_mut.ensures.value in
    let place = read_at boxes c.args.part c.index.result.now (omega arith) c.index.ensures in
    let own = ap (λ (s : SendView). map sender_box s.keys) c.send.view_is ∙ c.requires.sender in
    sent.own_at keys boxes c.args.self.now.boxes c.args.part c.index_mut.result.now c.index.result.now
    (ap (λ (v : ChannelView). v.boxes) c.self.view_is) own key place

pub agree-requires-clause-receiver : goal.agree-requires-clause-receiver
agree-requires-clause-receiver c =
    let boxes = c.self.inside.boxes.items in
    let keys = c.recv.inside.keys.items in
    let longs : length keys ≡ 16 = c.recv.invariant.kept.long in
    let wides : length boxes ≡ 16 = c.self.invariant.long in
    let key = read_at keys c.args.part c.index_mut-2.result.now (omega arith) c.index_mut-2.ensures.value in
    let place = read_at boxes c.args.part c.index.result.now (omega arith) c.index.ensures in
    let own = ap (λ (s : RecvView). map receiver_box s.keys) c.recv.view_is ∙ c.requires.receiver in
    received.own_at keys boxes c.args.self.now.boxes c.args.part c.index_mut-2.result.now c.index.result.now
    (ap (λ (v : ChannelView). v.boxes) c.self.view_is) own key place

pub returns-clause-agreed : goal.returns-clause-agreed
returns-clause-agreed c s r at_s at_r =
    let boxes = c.self.inside.boxes.items in
    let sends = c.send.inside.keys.items in
    let recvs = c.recv.inside.keys.items in
    let part = c.args.part in
    let place = c.index.result.now in
    let long_p : length boxes ≡ 16 = c.self.invariant.long in
    let long_s : length sends ≡ 16 = c.send.invariant.kept.long in
    let long_r : length recvs ≡ 16 = c.recv.invariant.kept.long in
    let mine = read_at sends part c.index_mut.result.now (omega arith) c.index_mut.ensures.value in
    let theirs = read_at recvs part c.index_mut-2.result.now (omega arith) c.index_mut-2.ensures.value in
    let there = read_at boxes part place (omega arith) c.index.ensures in
    -- the keys that were lent are those that the sides show
    let keys_s = ap (λ (v : SendView). slice_get v.keys part) c.send.view_is in
    let keys_r = ap (λ (v : RecvView). slice_get v.keys part) c.recv.view_is in
    let same_s = some_same c.index_mut.result.now s (sym mine ∙ (keys_s ∙ at_s)) in
    let same_r = some_same c.index_mut-2.result.now r (sym theirs ∙ (keys_r ∙ at_r)) in
    let wide : place.width ≡ c.args.self.now.width =
    wide_at (λ (p : Place). p.width ≡ c.self.inside.width) boxes part place c.self.invariant.wide there
    ∙ ap (λ (v : ChannelView). v.width) c.self.view_is in
    let told = c.agree.ensures.agreed in
    let words = told.0 in (
      words,
      subst (λ n. GateRule n words s.view r.view) wide
          (subst (λ k. GateRule place.width words k.view r.view) same_s
          (subst (λ k. GateRule place.width words c.index_mut.result.now.view k.view) same_r told.1)),
    )

pub invariant_of-send : goal.invariant_of-send
invariant_of-send c =
    let side = c.send.inside in
    let keys =
    put_back side.keys.items c.args.part c.index_mut.result.now c.agree.new.send c.index_mut.ensures.value
    c.agree.ensures.sender in
    subst (λ (l : List Sender). IsSendSide l side.parts side.size side.freed side.ready) (sym keys) c.send.invariant

pub invariant_of-recv : goal.invariant_of-recv
invariant_of-recv c =
    let side = c.recv.inside in
    let keys =
    put_back side.keys.items c.args.part c.index_mut-2.result.now c.agree.new.recv c.index_mut-2.ensures.value
    c.agree.ensures.receiver in
    subst
    (λ (l : List Receiver). IsRecvSide l side.parts side.size side.boxes side.bytes side.active side.taken)
    (sym keys) c.recv.invariant

pub returns-clause-sender : goal.returns-clause-sender
returns-clause-sender c =
    let side = c.send.inside in
    let keys =
    put_back side.keys.items c.args.part c.index_mut.result.now c.agree.new.send c.index_mut.ensures.value
    c.agree.ensures.sender in
    ap (λ (l : List Sender). sent.send_view l side.parts side.size side.freed side.ready) keys ∙ c.send.view_is

pub returns-clause-receiver : goal.returns-clause-receiver
returns-clause-receiver c =
    let side = c.recv.inside in
    let keys =
    put_back side.keys.items c.args.part c.index_mut-2.result.now c.agree.new.recv c.index_mut-2.ensures.value
    c.agree.ensures.receiver in
    ap
    (λ (l : List Receiver).
    received.recv_view l side.parts side.size side.boxes side.bytes (round_of l side.taken) side.active side.taken)
    keys ∙ c.recv.view_is
