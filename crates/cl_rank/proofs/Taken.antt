-- What a turn that takes from a box makes of a rank.
use Rattle.std.proofs.Common.{◌≡◌, ℕ, zero, suc, ◌<◌, ◌≤◌, ◌+◌, ◌-◌, ◌*◌, List, [], ◌∷◌, ◌++◌, length, Bool, true}
use Rattle.std.proofs.Common.{false, Option, Some, None, get_or, set, replicate, take, inl, inr, refl, sym, ap, subst}
use Rattle.std.proofs.Common.{◌∙◌, rules, arith, ⊎_elim, length-append}
use Rattle.std.proofs.lemmas.List.{append-nil}
use Rattle.std.specs.List.{flat_map}
use Rattle.std.specs.Prelude.{◌&&◌, map, max, not, slice_get, nat_le, is_some, ◌^◌, if◌then◌else◌}
use Rattle.rv_image_types.specs.declared.images.ImageVersion.{ImageVersion}
use Rattle.part_box.specs.Gate.{ready_stamp}
use Rattle.part_box.specs.declared.view.Receiving.{Receiving as ReceivingKey}
use Rattle.part_box.specs.Keys.{Receiver}
use Rattle.part_box.specs.Steps.{with_got, with_look}
use Rattle.part_channel.specs.Channels.{ChannelView, receiver_box}
use Rattle.part_channel.specs.declared.progress.Take.{Take}
use Rattle.part_channel.specs.declared.progress.Take.TheVariants as found
use Rattle.part_channel.specs.Receiving.{RecvView, lane_shown, lane_took, lowest_from, marked, one_taken, shown_take}
use Rattle.part_channel.specs.Receiving.{take_refusal, take_stamp, took}
use Rattle.part_channel.specs.Sending.{SendView, modified}
use Rattle.part_channel.specs.Words.{bytes_of_words, bytes_of_word}
use Rattle.part_channel.proofs.Words.{length-bytes}
use Rattle.part_phase.specs.Limits.{box_bytes, box_words, padded}
use Rattle.part_phase.specs.declared.phases.Phase.{Phase}
use Rattle.part_phase.specs.declared.phases.Phase.TheVariants.{Apart, Sending, Receiving}
use Rattle.part_phase.specs.declared.receiving.RecvPhase.{RecvPhase}
use Rattle.part_phase.specs.Phases.{changed_at, on_receiving, receiving_at, receiving_in, sending_at}
use Rattle.part_phase.specs.Receiving.{is_left, next_box, next_box_of, overlaps}
use Rattle.part_phase.specs.Receiving.{lowest_from as lowest_in, one_taken as taken_in}
use Rattle.part_phase.specs.Sending.{none_marked}
use Rattle.cl_state.specs.declared.asking.Answer.TheVariants as answer
use Rattle.cl_state.specs.declared.asking.Ask.TheVariants as ask
use Rattle.cl_state.specs.declared.row.Row.{Row}
use Rattle.cl_state.specs.declared.row.Row.TheVariants.{AtOnce, OnReply, OnBox}
use Rattle.cl_state.specs.declared.row.Visit.TheVariants.{Readies, Frees, Takes, Sees}
use Rattle.cl_state.specs.Asked.{asked, part_of}
use Rattle.cl_state.specs.declared.state.RankState.{RankState}
use Rattle.cl_state.specs.Rank.{Rank}
use Rattle.cl_state.specs.Room.{rank_of}
use Rattle.cl_state.specs.Told.{told}
use Rattle.cl_trace.specs.declared.events.Kind.TheVariants as kind
use Rattle.cl_rank.specs.declared.ranks.Rank.{Rank as Running}
use Rattle.cl_rank.specs.declared.turning.Turn.{Turn}
use Rattle.cl_deeds.specs.Deeds.{Act}
use Rattle.cl_rank.specs.Fitting.{RequestsFit}
use Rattle.cl_rank.specs.Sides.{ReceiverActs, SenderActs, is_place, box_id_of}
use Rattle.cl_sides.specs.Sides.{AreChannelsOf, AreSides, HasReceiver, PhaseFits}
use Rattle.cl_rank.specs.RankSides.{HasKey, KeyMoves}
use Rattle.cl_sides.specs.Sides.{phase_of_receiver, receiver_key, receiver_of}
use Rattle.cl_sides.specs.Sides.{receiver_view, sender_key, side_of, sides_in}
use Rattle.cl_sides.specs.Steps.{IsTaken, MayTake, ReceiverAt, changed_side}
use Rattle.cl_rank.proofs.Answered.{taken_becomes, untaken_stays}
use Rattle.cl_rank.specs.Tidings.{TakeTells, Tidings}
use Rattle.cl_rank.proofs.Asks.{BoxTurn}
use Rattle.cl_rank.proofs.Boxes.{box_limits, length_first}
use Rattle.cl_rank.proofs.Kept.{kept, owned, past_later, receiver_fits}
use Rattle.cl_rank.proofs.Keys.{receivers_move, senders_apart}
use Rattle.cl_sides.proofs.Lists.{same_changed, same_side}
use Rattle.cl_rank.proofs.Moves.{Moved, SameShape, fit_kept, fits_at, own_told, receiving_shapes, row_at, shapes_stay}
use Rattle.cl_rank.proofs.Moves.{sides_told, started_at, told_by}
use Rattle.cl_rank.proofs.Rows.{CanTake, RowFits, TakesAt}
use Rattle.cl_rank.proofs.Tables.{Keeps}

-- the receiver's side of a link and its phase change, by an act on one box
pub record ReceiverMoves (old new : Rank) (stamp : ℕ) (act : Act) (link part : ℕ) (sends : List (ℕ × SendView))
    (recvs got : List (ℕ × RecvView)) (f : RecvView → RecvView) (g : RecvPhase → RecvPhase)
    (change : Receiver → Receiver) : Type 0 where
  pub side : RecvView
  pub there : side_of link recvs ≡ Some side
  pub alone : side_of link sends ≡ None
  pub made : got ≡ changed_side link f recvs
  pub phases : new.phases ≡ changed_at link (on_receiving g) old.phases
  pub keeps : Keeps old.requests new.requests
  pub site : new.site ≡ old.site
  pub clock : new.clock ≡ stamp
  pub low : old.clock ≤ stamp
  pub same : g (phase_of_receiver side) ≡ phase_of_receiver (f side)
  pub parts : (f side).parts ≡ side.parts
  pub cut : (f side).boxes ≡ side.boxes
  pub keys : (f side).keys ≡ modified side.keys part change
  pub boxes : map receiver_box (f side).keys ≡ map receiver_box side.keys
  pub place : box_id_of act ≡ Some (link, part)
  pub has : HasKey (sides_in sends recvs) act
  pub acts : (k : Receiver) → slice_get side.keys part ≡ Some k
      → ReceiverActs old.site.version stamp act k.view (change k).view

pub receiver_moved : (old new : Rank) (stamp : ℕ) (act : Act) (link part : ℕ) (sends : List (ℕ × SendView))
    (recvs got : List (ℕ × RecvView)) (f : RecvView → RecvView) (g : RecvPhase → RecvPhase)
    (change : Receiver → Receiver)
    → AreSides old.site.version old.phases old.clock (sides_in sends recvs) → RequestsFit old.requests old.phases
    → ReceiverMoves old new stamp act link part sends recvs got f g change
    → Moved old new (sides_in sends recvs) (sides_in sends got) stamp act
receiver_moved old new stamp act link part sends recvs got f g change sides fit m =
    let same_sends : changed_side link (λ s. s) sends ≡ sends = same_changed link (λ s. s) sends (λ s h. refl) in
    let all : sides_in (changed_side link (λ s. s) sends) (changed_side link f recvs) ≡ sides_in sends got =
    ap (λ ss. sides_in ss (changed_side link f recvs)) same_sends ∙ ap (λ rs. sides_in sends rs) (sym m.made) in
    let only : (r : RecvView) → side_of link recvs ≡ Some r → r ≡ m.side =
    λ r h. same_side link recvs r m.side h m.there in
    record {
      sides = sides_told old.site.version old new _ stamp _ refl m.site m.clock m.phases
          (subst (λ w. AreSides old.site.version (changed_at link (on_receiving g) old.phases) stamp w) all
          (kept old.site.version old.phases old.clock stamp sends recvs link (on_receiving g) (λ s. s) f sides m.low
          (record {
            fit = receiver_fits g f (slice_get old.phases link) _ _ (sides.fit link)
                (λ r h. subst (λ x. g (phase_of_receiver x) ≡ phase_of_receiver (f x)) (sym (only r h)) m.same);
            size = λ s h. sides.sizes link s h;
            past = λ s h. past_later s.keys old.clock stamp m.low (sides.past link s h);
            uncut = λ r h. subst (λ (x : RecvView). (f x).parts ≡ 0 → (f x).boxes ≡ 0) (sym (only r h))
                (λ none. m.cut ∙ sides.uncut link m.side m.there (sym m.parts ∙ none));
          })));
      fit = fit_kept old.requests new.requests old.phases new.phases fit m.keeps
          (λ l. subst (λ ps. SameShape (sending_at ps l) (sending_at old.phases l)) (sym m.phases)
          (shapes_stay (on_receiving g) (receiving_shapes g) old.phases link l));
      keys = record {
        there = m.has;
        sends = λ l p. subst (λ o. KeyMoves (is_place l p o) (SenderActs old.site.version stamp act)
            (sender_key (side_of l sends) p) (sender_key (side_of l sends) p)) (sym m.place)
            (senders_apart link part sends (SenderActs old.site.version stamp act) m.alone l p);
        recvs = λ l p. subst (λ o. KeyMoves (is_place l p o) (ReceiverActs old.site.version stamp act)
            (receiver_key (side_of l recvs) p) (receiver_key (side_of l got) p)) (sym m.place)
            (subst (λ rs. KeyMoves (is_place l p (Some (link, part))) (ReceiverActs old.site.version stamp act)
            (receiver_key (side_of l recvs) p) (receiver_key (side_of l rs) p)) (sym m.made)
            (receivers_move link part f change recvs (ReceiverActs old.site.version stamp act)
            (λ r h. subst (λ (x : RecvView). (f x).keys ≡ modified x.keys part change) (sym (only r h)) m.keys)
            (λ r k h at. m.acts k (subst (λ (x : RecvView). slice_get x.keys part ≡ Some k) (only r h) at)) l p));
      };
      own = λ chs own. own_told old new chs _ m.site (subst (λ w. AreChannelsOf old.site.version chs w) all
          (owned old.site.version old.phases old.clock stamp sends recvs link (on_receiving g) (λ s. s) f chs own
          (λ s h. refl)
          (λ r h. subst (λ (x : RecvView). map receiver_box (f x).keys ≡ map receiver_box x.keys) (sym (only r h))
          m.boxes)));
    }

-- ---- which box is left

some_some : (a b : ℕ) → Some a ≡ Some b → a ≡ b
some_some a b h = cc

none_some : (a : ℕ) → None ≡ Some a → ⊥
none_some a h = cc

-- the lowest that passes is one of them
lowest_passes : (passes : ℕ → Bool) (first n box : ℕ) → lowest_in passes first n ≡ Some box
    → (passes box ≡ true) × (box < first + n)
lowest_passes passes first zero box h = absurd (none_some box h)
lowest_passes passes first (suc n) box h =
    go (passes first) refl h (λ later. lowest_passes passes (first + 1) n box later)
  where
    go : (b : Bool) → passes first ≡ b → (if b then Some first else lowest_in passes (first + 1) n) ≡ Some box
        → (lowest_in passes (first + 1) n ≡ Some box → (passes box ≡ true) × (box < first + 1 + n))
        → (passes box ≡ true) × (box < first + suc n)
    go true is h later =
        let same : first ≡ box = some_some first box h in
        (subst (λ k. passes k ≡ true) same is, omega (arith, same))
    go false is h later =
        let low : box < first + 1 + n = (later h).1 in
        ((later h).0, omega (arith, low))

-- a side looks for it as its phase does
lowest_same : (passes : ℕ → Bool) (first n : ℕ) → lowest_in passes first n ≡ lowest_from passes first n
lowest_same passes first zero = refl
lowest_same passes first (suc n) =
    ap (λ o. if passes first then Some first else o) (lowest_same passes (first + 1) n)

not_true : (b : Bool) → not b ≡ true → b ≡ false
not_true true h = sym h
not_true false h = refl

and_left : (a b : Bool) → (a && b) ≡ true → a ≡ true
and_left true b h = refl
and_left false b h = h

abbrev LeftIn : RecvPhase → ℕ → Type 0
LeftIn p box = (get_or p.taken box false ≡ false) × (box < p.boxes)

left_next : (p : RecvPhase) (box : ℕ) → p.active ≡ true → next_box p ≡ Some box → LeftIn p box
left_next p box on is =
    let lowest : lowest_in (is_left p.taken) 0 p.boxes ≡ Some box =
    subst (λ b. (if b then lowest_in (is_left p.taken) 0 p.boxes else None) ≡ Some box) on is in
    let found = lowest_passes (is_left p.taken) 0 p.boxes box lowest in
    let low : box < 0 + p.boxes = found.1 in
    (not_true _ found.0, omega (arith, low))

left_of : (p : RecvPhase) (part box : ℕ) → p.active ≡ true → next_box_of p part ≡ Some box → LeftIn p box
left_of p part box on is =
    let lowest : lowest_in (λ k. is_left p.taken k && overlaps p part k) 0 p.boxes ≡ Some box =
    subst (λ b. (if b then lowest_in (λ k. is_left p.taken k && overlaps p part k) 0 p.boxes else None) ≡ Some box) on
    is in
    let found = lowest_passes (λ k. is_left p.taken k && overlaps p part k) 0 p.boxes box lowest in
    let low : box < 0 + p.boxes = found.1 in
    (not_true _ (and_left _ _ found.0), omega (arith, low))

left_at : (p : RecvPhase) (box : ℕ) → CanTake p box → LeftIn p box
left_at p box can =
    ⊎_elim (λ (h : next_box p ≡ Some box). left_next p box can.active h)
    (λ (h : (part : ℕ) × (next_box_of p part ≡ Some box)). left_of p h.0 box can.active h.1) can.next

takes_can : (ps : List Phase) (link part : ℕ) (row : Row) → TakesAt ps link part row
    → CanTake (receiving_at ps link) part
takes_can ps link part (AtOnce o) h = absurd h
takes_can ps link part (OnReply m w) h = absurd h
takes_can ps link part (OnBox (Readies at ready)) h = absurd h
takes_can ps link part (OnBox (Frees m at target)) h = absurd h
takes_can ps link part (OnBox (Takes m side at target)) h = h.2
takes_can ps link part (OnBox (Sees side at other)) h = h.2

-- ---- sides that are there

idle : false ≡ true → ⊥
idle h = cc

-- a receiver whose phase is going on
receiver_there : (P : Option Phase) (S : Option SendView) (R : Option RecvView) → PhaseFits P S R
    → (receiving_in P).active ≡ true
    → (r : RecvView) × (R ≡ Some r) × (receiving_in P ≡ phase_of_receiver r) × (S ≡ None)
receiver_there None None None fit on = absurd (idle on)
receiver_there None None (Some r) fit on = absurd fit
receiver_there None (Some s) None fit on = absurd fit
receiver_there None (Some s) (Some r) fit on = absurd fit
receiver_there (Some Apart) None None fit on = absurd (idle on)
receiver_there (Some Apart) None (Some r) fit on = absurd fit
receiver_there (Some Apart) (Some s) None fit on = absurd fit
receiver_there (Some Apart) (Some s) (Some r) fit on = absurd fit
receiver_there (Some (Sending p)) None None fit on = absurd fit
receiver_there (Some (Sending p)) None (Some r) fit on = absurd fit
receiver_there (Some (Sending p)) (Some s) None fit on = absurd (idle on)
receiver_there (Some (Sending p)) (Some s) (Some r) fit on = absurd fit
receiver_there (Some (Receiving p)) None None fit on = absurd fit
receiver_there (Some (Receiving p)) None (Some r) fit on = (r, refl, fit, refl)
receiver_there (Some (Receiving p)) (Some s) None fit on = absurd fit
receiver_there (Some (Receiving p)) (Some s) (Some r) fit on = absurd fit

-- the channel of a receiver's side
receiver_at : (v : ImageVersion) (channels : List ChannelView) (link : ℕ) (recvs : List (ℕ × RecvView)) (r : RecvView)
    → side_of link recvs ≡ Some r → (c : Option ChannelView) → slice_get channels link ≡ c → HasReceiver v c r
    → (at : ReceiverAt channels link recvs) × (at.side ≡ r) × (at.channel.width ≡ box_words v)
receiver_at v channels link recvs r there None joins has = absurd has
receiver_at v channels link recvs r there (Some c) joins has =
    (record { side = r; there = there; channel = c; joins = joins; own = has.1 }, refl, has.0)

key_at : (keys : List Receiver) (i : ℕ) → i < length keys → (k : Receiver) × (slice_get keys i ≡ Some k)
key_at [] i low = absurd (omega (arith, low))
key_at (k ∷ keys) zero low = (k, refl)
key_at (k ∷ keys) (suc i) low = key_at keys i (omega (arith, low))

not_past : (boxes box : ℕ) → box < boxes → nat_le boxes box ≡ false
not_past boxes box h = search (rules, h)

below_max : (a b stamp : ℕ) → stamp ≡ max a b + 1 → a ≤ stamp
below_max a b stamp h = search (rules, h)

none_changed_at : (link : ℕ) (ps : List Phase) → changed_at link (on_receiving (λ p. p)) ps ≡ ps
none_changed_at link [] = refl
none_changed_at zero (Apart ∷ ps) = refl
none_changed_at zero (Sending p ∷ ps) = refl
none_changed_at zero (Receiving p ∷ ps) = refl
none_changed_at (suc link) (p ∷ ps) = ap (λ l. p ∷ l) (none_changed_at link ps)

-- ---- what a take makes of a side

-- a side and its phase mark a box alike
marks_alike : (r : RecvView) (box : ℕ) → taken_in box (phase_of_receiver r) ≡ phase_of_receiver (one_taken r box)
marks_alike r box =
    ap (λ o. with_left (is_some o)) (lowest_same (is_left (set r.taken box true)) 0 r.boxes)
  where
    with_left : Bool → RecvPhase
    with_left b = record {
      parts = r.parts;
      size = r.size;
      boxes = r.boxes;
      bytes = r.bytes;
      active = b;
      taken = if b then set r.taken box true else none_marked;
    }

-- ---- bytes of a box

abbrev zeros : ℕ → List ℕ
zeros n = replicate n 0

length_zeros : (n : ℕ) → length (zeros n) ≡ n
length_zeros zero = refl
length_zeros (suc n) = ap suc (length_zeros n)

-- a whole box has nothing behind its bytes
pub whole_box : (v : ImageVersion) (words : List ℕ)
    → padded v (take (box_bytes v) (bytes_of_words words)) ≡ take (box_bytes v) (bytes_of_words words)
whole_box v words =
    let behind : length (zeros (128 - 8 * length words)) ≡ 128 - 8 * length words = length_zeros _ in
    let front : length (flat_map bytes_of_word words) ≡ 8 * length words = length-bytes words in
    let both : length (bytes_of_words words)
    ≡ length (flat_map bytes_of_word words) + length (zeros (128 - 8 * length words)) =
    length-append (flat_map bytes_of_word words) _ in
    let most : box_bytes v ≤ 128 = (box_limits v).0 in
    let long : box_bytes v ≤ length (bytes_of_words words) = omega (arith, behind, front, both, most) in
    let count : length (take (box_bytes v) (bytes_of_words words)) ≡ box_bytes v =
    length_first (box_bytes v) (bytes_of_words words) long in
    let none : box_bytes v - length (take (box_bytes v) (bytes_of_words words)) ≡ 0 = omega (arith, count) in
    ap (λ n. take (box_bytes v) (bytes_of_words words) ++ zeros n) none ∙ append-nil _

-- ---- a receiver looks whether a box is ready

same_bytes : (xs ys : List ℕ) (a b : ℕ) → found.Taken xs a ≡ found.Taken ys b → xs ≡ ys
same_bytes xs ys a b h = cc

same_taken : (xs ys : List ℕ) (a b : ℕ) → found.Taken xs a ≡ found.Taken ys b → a ≡ b
same_taken xs ys a b h = cc

same_missed : (a b : ℕ) → found.Missed a ≡ found.Missed b → a ≡ b
same_missed a b h = cc

module _ (old : Rank) (hart link part : ℕ) (channels : List ChannelView)
    (sends : List (ℕ × SendView)) (recvs : List (ℕ × RecvView))
    (sides : AreSides old.site.version old.phases old.clock (sides_in sends recvs))
    (fit : RequestsFit old.requests old.phases)
    (own : AreChannelsOf old.site.version channels (sides_in sends recvs))
    (asks : asked old hart ≡ ask.Look link part) where
  pub taking : TakesAt old.phases link part (row_at old hart)
  taking = subst (λ a. RowFits old.site.version old.requests old.phases (started_at old hart) a (row_at old hart)) asks
      (fits_at old hart)

  pub can : CanTake (receiving_at old.phases link) part
  can = takes_can old.phases link part (row_at old hart) taking

  pub there : (r : RecvView) × (side_of link recvs ≡ Some r) × (receiving_at old.phases link ≡ phase_of_receiver r)
      × (side_of link sends ≡ None)
  there = receiver_there (slice_get old.phases link) _ _ (sides.fit link) can.active

  left : LeftIn (phase_of_receiver there.0) part
  left = subst (λ p. LeftIn p part) there.2 (left_at (receiving_at old.phases link) part can)

  on : there.0.active ≡ true
  on = subst (λ (p : RecvPhase). p.active ≡ true) there.2 can.active

  pub may_take : MayTake channels link part recvs
  may_take =
      let at = receiver_at old.site.version channels link recvs there.0 there.1 (slice_get channels link) refl
      (own.recvs link there.0 there.1) in
      record {
        at = at.0;
        allowed = subst (λ r. take_refusal r part ≡ None) (sym at.1)
            (rw (not_past there.0.boxes part left.1, on, left.0) refl);
      }

  -- what was found
  module _ (stamp : ℕ) (take_is : Take) (got : List (ℕ × RecvView))
      (done : IsTaken channels link part old.clock take_is recvs got) where
    same : done.at.side ≡ there.0
    same = same_side link recvs done.at.side there.0 done.at.there there.1

    left_here : LeftIn (phase_of_receiver done.at.side) part
    left_here = subst (λ r. LeftIn (phase_of_receiver r) part) (sym same) left

    wide : done.at.channel.width ≡ box_words old.site.version
    wide = (subst (λ c. HasReceiver old.site.version c done.at.side) done.at.joins
        (own.recvs link done.at.side done.at.there)).0

    part_there : (k : Receiver) × (slice_get done.at.side.keys part ≡ Some k)
    part_there =
        let low : part < done.at.side.boxes = left_here.1 in
        let most = done.kept.kept.most in
        let long = done.kept.kept.long in
        key_at done.at.side.keys part (omega (arith, low, most, long))

    has_key : (r : ReceivingKey) × (receiver_of (sides_in sends recvs) link part ≡ Some r)
    has_key = (part_there.0.view, ap (λ o. receiver_key o part) done.at.there ∙ ap receiver_view part_there.1)

    abbrev change : Receiver → Receiver
    change = lane_took done.gate done.words old.clock

    abbrev looked : RecvView
    looked = record done.at.side { keys = modified done.at.side.keys part change }

    becomes_shown : (o : Option ℕ) → ready_stamp done.gate ≡ o
        → took done.at.side part done.gate done.words old.clock ≡ marked looked part o
    becomes_shown o is = ap (marked looked part) is

    lane_is : (o : Option ℕ) → ready_stamp done.gate ≡ o → (k : Receiver)
        → change k ≡ lane_shown done.gate done.words old.clock k o
    lane_is o is k = ap (lane_shown done.gate done.words old.clock k) is

    pub taken_moved : (new : Rank) (raw full : List ℕ) → take_is ≡ found.Taken raw stamp
        → full ≡ padded old.site.version (take (box_bytes old.site.version) raw)
        → new ≡ told old hart (answer.Taken full) stamp
        → (n : ℕ) × (stamp ≡ max old.clock n + 1) × (stamp < 2 ^ 62)
        × Moved old new (sides_in sends recvs) (sides_in sends got) stamp (Act.Take link part n full)
    taken_moved new raw full is filled tells = go (ready_stamp done.gate) refl (sym done.shown ∙ is)
      where
        go : (o : Option ℕ) → ready_stamp done.gate ≡ o → shown_take old.clock done.words o ≡ found.Taken raw stamp
            → (n : ℕ) × (stamp ≡ max old.clock n + 1) × (stamp < 2 ^ 62)
            × Moved old new (sides_in sends recvs) (sides_in sends got) stamp (Act.Take link part n full)
        go None shown h = absurd (cc)
        go (Some n) shown h =
            let stamps : stamp ≡ max old.clock n + 1 = sym (same_taken (bytes_of_words done.words) raw _ stamp h) in
            let bytes : bytes_of_words done.words ≡ raw = same_bytes (bytes_of_words done.words) raw _ stamp h in
            let whole : full ≡ take (box_bytes old.site.version) (bytes_of_words done.words) =
            filled ∙ (ap (λ xs. padded old.site.version (take (box_bytes old.site.version) xs)) (sym bytes)
            ∙ whole_box old.site.version done.words) in
            let by = told_by old hart (answer.Taken full) stamp new tells in
            let becomes = taken_becomes old.site (part_of old hart) link part (row_at old hart) full taking in
            let is_shown = becomes_shown (Some n) shown in
            let told_so = subst (λ t. (old.clock < take_stamp t) × (take_stamp t < 2 ^ 62)) is done.stamp in (
              n,
              stamps,
              told_so.1,
              receiver_moved old new stamp (Act.Take link part n full) link part sends recvs got
                  (λ r. took r part done.gate done.words old.clock) (taken_in part) change sides fit (record {
                    side = done.at.side;
                    there = done.at.there;
                    alone = there.3;
                    made = done.moved;
                    phases = by.phases ∙ becomes.phases;
                    keeps = subst (λ t. Keeps old.requests t) (sym by.requests) becomes.keeps;
                    site = by.site;
                    clock = by.clock;
                    low = below_max old.clock n stamp stamps;
                    same = marks_alike done.at.side part ∙ ap phase_of_receiver (sym is_shown);
                    parts = ap (λ (r : RecvView). r.parts) is_shown;
                    cut = ap (λ (r : RecvView). r.boxes) is_shown;
                    keys = ap (λ (r : RecvView). r.keys) is_shown;
                    boxes = done.own ∙ sym done.at.own;
                    place = refl;
                    has = has_key;
                    acts = λ k h. (
                      done.gate,
                      done.words,
                      shown,
                      done.long ∙ wide,
                      whole,
                      ap (λ (x : Receiver). x.view) (lane_is (Some n) shown k)
                          ∙ ap (with_got (record (with_look k.view done.gate) { copied = done.words })) (sym stamps),
                    );
                  }),
            )

    pub untaken_moved : (new : Rank) → take_is ≡ found.Missed stamp → new ≡ told old hart answer.Missed stamp
        → (stamp ≡ old.clock + 1) × (stamp < 2 ^ 62)
        × Moved old new (sides_in sends recvs) (sides_in sends got) stamp (Act.Miss link part)
    untaken_moved new is tells = go (ready_stamp done.gate) refl (sym done.shown ∙ is)
      where
        go : (o : Option ℕ) → ready_stamp done.gate ≡ o → shown_take old.clock done.words o ≡ found.Missed stamp
            → (stamp ≡ old.clock + 1) × (stamp < 2 ^ 62)
            × Moved old new (sides_in sends recvs) (sides_in sends got) stamp (Act.Miss link part)
        go (Some n) shown h = absurd (cc)
        go None shown h =
            let stamps : stamp ≡ old.clock + 1 = same_missed stamp (old.clock + 1) (sym h) in
            let by = told_by old hart answer.Missed stamp new tells in
            let stays = untaken_stays old.site (part_of old hart) link part (row_at old hart) taking in
            let is_shown = becomes_shown None shown in
            let told_so = subst (λ t. (old.clock < take_stamp t) × (take_stamp t < 2 ^ 62)) is done.stamp in (
              stamps,
              told_so.1,
              receiver_moved old new stamp (Act.Miss link part) link part sends recvs got
                  (λ r. took r part done.gate done.words old.clock) (λ p. p) change sides fit (record {
                    side = done.at.side;
                    there = done.at.there;
                    alone = there.3;
                    made = done.moved;
                    phases = by.phases ∙ (stays.phases ∙ sym (none_changed_at link old.phases));
                    keeps = subst (λ t. Keeps old.requests t) (sym by.requests) stays.keeps;
                    site = by.site;
                    clock = by.clock;
                    low = omega (arith, stamps);
                    same = ap phase_of_receiver (sym is_shown);
                    parts = ap (λ (r : RecvView). r.parts) is_shown;
                    cut = ap (λ (r : RecvView). r.boxes) is_shown;
                    keys = ap (λ (r : RecvView). r.keys) is_shown;
                    boxes = done.own ∙ sym done.at.own;
                    place = refl;
                    has = inr has_key;
                    acts = λ k h. (done.gate, shown, ap (λ (x : Receiver). x.view) (lane_is None shown k));
                  }),
            )

-- ---- the turn of a running rank

module _ (r : Running) (t : Turn) {link part : ℕ} {channels : List ChannelView}
    (own : AreChannelsOf r.state.site.version channels (sides_in r.sends.items r.recvs.items))
    (asks : asked (rank_of r.state) t.hart ≡ ask.Look link part)
    {take_is : Take} {got : List (ℕ × RecvView)}
    (done : IsTaken channels link part r.state.clock take_is r.recvs.items got) where
  -- a thing was found, and the rank is told all bytes of its box
  record FoundTaken (x : Tidings) : Type 0 where
    pub raw : List ℕ
    pub stamp : ℕ
    pub is : take_is ≡ found.Taken raw stamp
    pub full : List ℕ
    pub filled : full ≡ padded r.state.site.version (take (box_bytes r.state.site.version) raw)
    pub tells : x ≡ (answer.Taken full, kind.Take, stamp)

  record FoundMissed (x : Tidings) : Type 0 where
    pub stamp : ℕ
    pub is : take_is ≡ found.Missed stamp
    pub tells : x ≡ (answer.Missed, kind.Miss, stamp)

  taken_turn : (new : RankState) (x : Tidings) → FoundTaken x
      → rank_of new ≡ told (rank_of r.state) t.hart x.0 x.2 → BoxTurn r t link part new r.sends.items got x
  taken_turn new x f is = subst (BoxTurn r t link part new r.sends.items got) (sym f.tells)
      (by_stamp (subst (λ (y : Tidings). rank_of new ≡ told (rank_of r.state) t.hart y.0 y.2) f.tells is))
    where
      by_stamp : rank_of new ≡ told (rank_of r.state) t.hart (answer.Taken f.full) f.stamp
          → BoxTurn r t link part new r.sends.items got (answer.Taken f.full, kind.Take, f.stamp)
      by_stamp is =
          let m = taken_moved (rank_of r.state) t.hart link part channels r.sends.items r.recvs.items r.sides r.fit
          own asks f.stamp take_is got done (rank_of new) f.raw f.full f.is f.filled is in
          record {
            act = Act.Take link part m.0 f.full;
            answers = asks;
            stamp = m.1;
            tells = refl;
            kinds = refl;
            quiet = refl;
            place = refl;
            low = m.2;
            moved = m.3;
          }

  untaken_turn : (new : RankState) (x : Tidings) → FoundMissed x
      → rank_of new ≡ told (rank_of r.state) t.hart x.0 x.2 → BoxTurn r t link part new r.sends.items got x
  untaken_turn new x f is = subst (BoxTurn r t link part new r.sends.items got) (sym f.tells)
      (by_stamp (subst (λ (y : Tidings). rank_of new ≡ told (rank_of r.state) t.hart y.0 y.2) f.tells is))
    where
      by_stamp : rank_of new ≡ told (rank_of r.state) t.hart answer.Missed f.stamp
          → BoxTurn r t link part new r.sends.items got (answer.Missed, kind.Miss, f.stamp)
      by_stamp is =
          let m = untaken_moved (rank_of r.state) t.hart link part channels r.sends.items r.recvs.items r.sides r.fit
          own asks f.stamp take_is got done (rank_of new) f.is is in
          record {
            act = Act.Miss link part;
            answers = inl asks;
            stamp = m.0;
            tells = refl;
            kinds = refl;
            quiet = refl;
            place = refl;
            low = m.1;
            moved = m.2;
          }

  pub look_turn : (new : RankState) (x : Tidings) → TakeTells r.state.site.version take_is x
      → rank_of new ≡ told (rank_of r.state) t.hart x.0 x.2 → BoxTurn r t link part new r.sends.items got x
  look_turn new x tells is = go take_is refl tells
    where
      go : (p : Take) → take_is ≡ p → TakeTells r.state.site.version p x → BoxTurn r t link part new r.sends.items got x
      go (found.Taken raw stamp) at so =
          taken_turn new x (record { raw = raw; stamp = stamp; is = at; full = _; filled = refl; tells = so }) is
      go (found.Missed stamp) at so = untaken_turn new x (record { stamp = stamp; is = at; tells = so }) is
