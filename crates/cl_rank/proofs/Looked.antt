-- What a turn that looks at a box makes of a rank.
use Rattle.std.proofs.Common.{◌≡◌, ℕ, zero, suc, ◌<◌, ◌≤◌, ◌+◌, List, [], ◌∷◌, length, Bool, true, false, Option, Some, None}
use Rattle.std.proofs.Common.{get_or, inl, refl, sym, ap, subst, ◌∙◌, rules, arith}
use Rattle.std.specs.Prelude.{map, max, slice_get, nat_le, nat_lt, ◌^◌, if◌then◌else◌}
use Rattle.part_box.specs.Gate.{taken_stamp}
use Rattle.part_box.specs.declared.view.Sending.{Sending as SendingKey}
use Rattle.part_box.specs.Keys.{Sender, after_freed}
use Rattle.part_channel.specs.Channels.{ChannelView, sender_box}
use Rattle.part_channel.specs.declared.progress.Progress.{Progress}
use Rattle.part_channel.specs.declared.progress.Progress.TheVariants as progress
use Rattle.part_channel.specs.Receiving.{RecvView}
use Rattle.part_channel.specs.Sending.{IsPast, IsTold, SendView, looked, looks_at, modified, one_if, shown, shown_progress, tested}
use Rattle.part_phase.specs.Limits.{box_bytes}
use Rattle.part_phase.specs.declared.phases.Phase.{Phase}
use Rattle.part_phase.specs.declared.phases.Phase.TheVariants.{Apart, Sending, Receiving}
use Rattle.part_phase.specs.declared.sending.SendPhase.{SendPhase}
use Rattle.part_phase.specs.Phases.{changed_at, on_sending, sending_at}
use Rattle.part_phase.specs.Sending.{all_freed, is_part_ready, one_freed}
use Rattle.cl_state.specs.declared.asking.Answer.TheVariants as answer
use Rattle.cl_state.specs.declared.asking.Ask.TheVariants as ask
use Rattle.cl_state.specs.declared.row.Row.{Row}
use Rattle.cl_state.specs.declared.row.Row.TheVariants.{AtOnce, OnReply, OnBox}
use Rattle.cl_state.specs.declared.row.Visit.TheVariants.{Readies, Frees, Takes, Sees}
use Rattle.cl_state.specs.Asked.{asked, part_of}
use Rattle.cl_state.specs.Rank.{Rank}
use Rattle.cl_state.specs.Told.{told}
use Rattle.cl_deeds.specs.Deeds.{Act}
use Rattle.cl_rank.specs.Fitting.{RequestsFit}
use Rattle.cl_rank.specs.Sides.{ReceiverActs, SenderActs, is_place, box_id_of}
use Rattle.cl_sides.specs.Sides.{AreChannelsOf, AreSides}
use Rattle.cl_rank.specs.RankSides.{HasKey, KeyMoves}
use Rattle.cl_sides.specs.Sides.{phase_of_sender, receiver_key, sender_key, sender_of, sender_view, side_of}
use Rattle.cl_sides.specs.Sides.{sides_in}
use Rattle.cl_sides.specs.Steps.{IsTested, MayTest, changed_side}
use Rattle.cl_rank.proofs.Answered.{freed_becomes, unfreed_stays}
use Rattle.cl_rank.proofs.Boxes.{key_at, sender_at, sender_there}
use Rattle.cl_rank.proofs.Kept.{kept, owned, sender_fits}
use Rattle.cl_rank.proofs.Keys.{receivers_apart, senders_move}
use Rattle.cl_sides.proofs.Lists.{same_changed, same_side}
use Rattle.cl_rank.proofs.Moves.{Moved, SameShape, fit_kept, fits_at, own_told, row_at, sending_shapes, shapes_stay}
use Rattle.cl_rank.proofs.Moves.{sides_told, started_at, told_by}
use Rattle.cl_rank.proofs.Rows.{CanFree, FreesAt, RowFits}
use Rattle.cl_rank.proofs.Tables.{Keeps}

-- the sender's side of a link and its phase change, by an act on one box
pub record SenderMoves (old new : Rank) (stamp : ℕ) (act : Act) (link part : ℕ) (sends sent : List (ℕ × SendView))
    (recvs : List (ℕ × RecvView)) (f : SendView → SendView) (g : SendPhase → SendPhase) (change : Sender → Sender)
    : Type 0 where
  pub side : SendView
  pub there : side_of link sends ≡ Some side
  pub alone : side_of link recvs ≡ None
  pub made : sent ≡ changed_side link f sends
  pub phases : new.phases ≡ changed_at link (on_sending g) old.phases
  pub keeps : Keeps old.requests new.requests
  pub site : new.site ≡ old.site
  pub clock : new.clock ≡ stamp
  pub low : old.clock ≤ stamp
  pub shape : (p : SendPhase) → SameShape (g p) p
  pub same : g (phase_of_sender side) ≡ phase_of_sender (f side)
  pub size : (f side).size ≡ side.size
  pub past : IsPast (f side) stamp
  pub keys : (f side).keys ≡ modified side.keys part change
  pub boxes : map sender_box (f side).keys ≡ map sender_box side.keys
  pub place : box_id_of act ≡ Some (link, part)
  pub has : HasKey (sides_in sends recvs) act
  pub acts : (k : Sender) → slice_get side.keys part ≡ Some k
      → SenderActs old.site.version stamp act k.view (change k).view

pub sender_moved : (old new : Rank) (stamp : ℕ) (act : Act) (link part : ℕ) (sends sent : List (ℕ × SendView))
    (recvs : List (ℕ × RecvView)) (f : SendView → SendView) (g : SendPhase → SendPhase) (change : Sender → Sender)
    → AreSides old.site.version old.phases old.clock (sides_in sends recvs) → RequestsFit old.requests old.phases
    → SenderMoves old new stamp act link part sends sent recvs f g change
    → Moved old new (sides_in sends recvs) (sides_in sent recvs) stamp act
sender_moved old new stamp act link part sends sent recvs f g change sides fit m =
    let same_recvs : changed_side link (λ r. r) recvs ≡ recvs = same_changed link (λ r. r) recvs (λ r h. refl) in
    let all : sides_in (changed_side link f sends) (changed_side link (λ r. r) recvs) ≡ sides_in sent recvs =
    ap (λ rs. sides_in (changed_side link f sends) rs) same_recvs ∙ ap (λ ss. sides_in ss recvs) (sym m.made) in
    let only : (s : SendView) → side_of link sends ≡ Some s → s ≡ m.side =
    λ s h. same_side link sends s m.side h m.there in
    record {
      sides = sides_told old.site.version old new _ stamp _ refl m.site m.clock m.phases
          (subst (λ w. AreSides old.site.version (changed_at link (on_sending g) old.phases) stamp w) all
          (kept old.site.version old.phases old.clock stamp sends recvs link (on_sending g) f (λ r. r) sides m.low (record {
            fit = sender_fits g f (slice_get old.phases link) _ _ (sides.fit link)
                (λ s h. subst (λ x. g (phase_of_sender x) ≡ phase_of_sender (f x)) (sym (only s h)) m.same);
            size = λ s h. subst (λ (x : SendView). (f x).size ≤ box_bytes old.site.version) (sym (only s h))
                (subst (λ n. n ≤ box_bytes old.site.version) (sym m.size) (sides.sizes link m.side m.there));
            past = λ s h. subst (λ x. IsPast (f x) stamp) (sym (only s h)) m.past;
            uncut = λ r h. sides.uncut link r h;
          })));
      fit = fit_kept old.requests new.requests old.phases new.phases fit m.keeps
          (λ l. subst (λ ps. SameShape (sending_at ps l) (sending_at old.phases l)) (sym m.phases)
          (shapes_stay (on_sending g) (sending_shapes g m.shape) old.phases link l));
      keys = record {
        there = m.has;
        sends = λ l p. subst (λ o. KeyMoves (is_place l p o) (SenderActs old.site.version stamp act)
            (sender_key (side_of l sends) p) (sender_key (side_of l sent) p)) (sym m.place)
            (subst (λ ss. KeyMoves (is_place l p (Some (link, part))) (SenderActs old.site.version stamp act)
            (sender_key (side_of l sends) p) (sender_key (side_of l ss) p)) (sym m.made)
            (senders_move link part f change sends (SenderActs old.site.version stamp act)
            (λ s h. subst (λ (x : SendView). (f x).keys ≡ modified x.keys part change) (sym (only s h)) m.keys)
            (λ s k h at. m.acts k (subst (λ (x : SendView). slice_get x.keys part ≡ Some k) (only s h) at)) l p));
        recvs = λ l p. subst (λ o. KeyMoves (is_place l p o) (ReceiverActs old.site.version stamp act)
            (receiver_key (side_of l recvs) p) (receiver_key (side_of l recvs) p)) (sym m.place)
            (receivers_apart link part recvs (ReceiverActs old.site.version stamp act) m.alone l p);
      };
      own = λ chs own. own_told old new chs _ m.site (subst (λ w. AreChannelsOf old.site.version chs w) all
          (owned old.site.version old.phases old.clock stamp sends recvs link (on_sending g) f (λ r. r) chs own
          (λ s h. subst (λ (x : SendView). map sender_box (f x).keys ≡ map sender_box x.keys) (sym (only s h)) m.boxes)
          (λ r h. refl)));
    }

-- ---- a sender looks whether a partition was taken

some_some : (a b : ℕ) → Some a ≡ Some b → a ≡ b
some_some a b h = cc

none_some : (a : ℕ) → None ≡ Some a → ⊥
none_some a h = cc

free_going : (p : SendPhase) (part : ℕ) (b : Bool) → all_freed p ≡ b → (if b then None else Some p.freed) ≡ Some part
    → (all_freed p ≡ false) × (p.freed ≡ part)
free_going p part true is h = absurd (none_some part h)
free_going p part false is h = (is, some_some p.freed part h)

less : (a b : ℕ) → nat_le b a ≡ false → nat_lt a b ≡ true
less a b h = search (rules, h)

frees_can : (ps : List Phase) (link part : ℕ) (row : Row) → FreesAt ps link part row → CanFree (sending_at ps link) part
frees_can ps link part (AtOnce o) h = absurd h
frees_can ps link part (OnReply m w) h = absurd h
frees_can ps link part (OnBox (Readies at ready)) h = absurd h
frees_can ps link part (OnBox (Frees m at target)) h = h.1
frees_can ps link part (OnBox (Takes m side at target)) h = absurd h
frees_can ps link part (OnBox (Sees side at asked)) h = absurd h

not_past : (a b : ℕ) → nat_le a b ≡ false → b < a
not_past a b h = grind (arith, h)

same_freed : (a b : ℕ) → progress.Freed a ≡ progress.Freed b → a ≡ b
same_freed a b h = cc

same_missed : (a b : ℕ) → progress.Missed a ≡ progress.Missed b → a ≡ b
same_missed a b h = cc

below_max : (a b stamp : ℕ) → stamp ≡ max a b + 1 → a ≤ stamp
below_max a b stamp h = search (rules, h)

none_changed_at : (link : ℕ) (ps : List Phase) → changed_at link (on_sending (λ p. p)) ps ≡ ps
none_changed_at link [] = refl
none_changed_at zero (Apart ∷ ps) = refl
none_changed_at zero (Sending p ∷ ps) = refl
none_changed_at zero (Receiving p ∷ ps) = refl
none_changed_at (suc link) (p ∷ ps) = ap (λ l. p ∷ l) (none_changed_at link ps)

module _ (old : Rank) (hart link part : ℕ) (channels : List ChannelView)
    (sends : List (ℕ × SendView)) (recvs : List (ℕ × RecvView))
    (sides : AreSides old.site.version old.phases old.clock (sides_in sends recvs))
    (fit : RequestsFit old.requests old.phases)
    (own : AreChannelsOf old.site.version channels (sides_in sends recvs))
    (asks : asked old hart ≡ ask.Freed link part) where
  pub freeing : FreesAt old.phases link part (row_at old hart)
  freeing = subst (λ a. RowFits old.site.version old.requests old.phases (started_at old hart) a (row_at old hart)) asks
      (fits_at old hart)

  pub can : CanFree (sending_at old.phases link) part
  can = frees_can old.phases link part (row_at old hart) freeing

  pub going : (all_freed (sending_at old.phases link) ≡ false) × ((sending_at old.phases link).freed ≡ part)
  going = free_going (sending_at old.phases link) part _ refl can.0

  pub there : (s : SendView) × (side_of link sends ≡ Some s) × (sending_at old.phases link ≡ phase_of_sender s)
      × (side_of link recvs ≡ None)
  there = sender_there (slice_get old.phases link) _ _ (sending_at old.phases link).freed (sides.fit link)
      (less (sending_at old.phases link).freed (sending_at old.phases link).parts going.0)

  pub looks : looks_at there.0 ≡ true
  looks =
      let phase = there.2 in
      let freed : there.0.freed ≡ part = ap (λ (p : SendPhase). p.freed) (sym phase) ∙ going.1 in
      let off : nat_le there.0.parts there.0.freed ≡ false = subst (λ p. all_freed p ≡ false) phase going.0 in
      let ready : get_or there.0.ready part false ≡ true = subst (λ p. is_part_ready p part ≡ true) phase can.1 in
      rw (off, freed) ready

  pub may_test : MayTest channels link old.clock sends
  may_test =
      let at = sender_at old.site.version channels link sends there.0 there.1 (slice_get channels link) refl
      (own.sends link there.0 there.1) in
      record {
        at = at.0;
        looks = subst (λ s. looks_at s ≡ true) (sym at.1) looks;
        past = subst (λ s. IsPast s old.clock) (sym at.1) (sides.past link there.0 there.1);
      }

  -- what was found
  module _ (stamp : ℕ) (found : Progress) (sent : List (ℕ × SendView)) (done : IsTested channels link old.clock found sends sent) where
    same : done.at.side ≡ there.0
    same = same_side link sends done.at.side there.0 done.at.there there.1

    side_looks : looks_at done.at.side ≡ true
    side_looks = subst (λ s. looks_at s ≡ true) (sym same) looks

    freed_is : done.at.side.freed ≡ part
    freed_is = ap (λ (s : SendView). s.freed) same ∙ (ap (λ (p : SendPhase). p.freed) (sym there.2) ∙ going.1)

    off : nat_le done.at.side.parts done.at.side.freed ≡ false
    off = subst (λ (s : SendView). nat_le s.parts s.freed ≡ false) (sym same)
        (subst (λ p. all_freed p ≡ false) there.2 going.0)

    ready : get_or done.at.side.ready done.at.side.freed false ≡ true
    ready = rw freed_is (subst (λ (s : SendView). get_or s.ready part false ≡ true) (sym same)
        (subst (λ p. is_part_ready p part ≡ true) there.2 can.1))

    shows : found ≡ shown_progress old.clock (taken_stamp done.gate)
    shows = done.found ∙ rw (off, ready) refl

    becomes_shown : (o : Option ℕ) → taken_stamp done.gate ≡ o
        → tested done.at.side done.gate ≡ shown (looked done.at.side done.gate) o
    becomes_shown o is = rw (side_looks, is) refl

    part_there : (k : Sender) × (slice_get done.at.side.keys part ≡ Some k)
    part_there =
        let below : done.at.side.freed < done.at.side.parts = not_past done.at.side.parts done.at.side.freed off in
        key_at done.at.side.keys part
        (let e = freed_is in let most = done.kept.kept.most in let long = done.kept.kept.long in
        omega (arith, below, e, most, long))

    has_key : (s : SendingKey) × (sender_of (sides_in sends recvs) link part ≡ Some s)
    has_key = (part_there.0.view, ap (λ o. sender_key o part) done.at.there ∙ ap sender_view part_there.1)

    pub never_all : found ≡ progress.AllFreed → ⊥
    never_all h = no (taken_stamp done.gate) (sym shows ∙ h)
      where
        no : (o : Option ℕ) → shown_progress old.clock o ≡ progress.AllFreed → ⊥
        no None h = cc
        no (Some n) h = cc

    pub never_unready : found ≡ progress.NotReady → ⊥
    never_unready h = no (taken_stamp done.gate) (sym shows ∙ h)
      where
        no : (o : Option ℕ) → shown_progress old.clock o ≡ progress.NotReady → ⊥
        no None h = cc
        no (Some n) h = cc

    one_made : (k : Sender) → slice_get done.at.side.keys part ≡ Some k → 0 < length k.view.made
    one_made k h =
        let below : done.at.side.freed < done.at.side.parts = not_past done.at.side.parts done.at.side.freed off in
        let e = freed_is in
        let count : length k.view.made ≡ _ + one_if (get_or done.at.side.ready part false) =
        (done.kept.kept.lanes part k h).made (omega (arith, below, e)) in
        let here : get_or done.at.side.ready part false ≡ true = subst (λ n. get_or done.at.side.ready n false ≡ true) e ready in
        let one : one_if (get_or done.at.side.ready part false) ≡ 1 = ap one_if here in
        omega (arith, count, one)

    pub freed_moved : (new : Rank) → found ≡ progress.Freed stamp → new ≡ told old hart answer.Freed stamp
        → (n : ℕ) × (stamp ≡ max old.clock n + 1) × (stamp < 2 ^ 62)
        × Moved old new (sides_in sends recvs) (sides_in sent recvs) stamp (Act.Freed link part n)
    freed_moved new is tells = go (taken_stamp done.gate) refl (sym shows ∙ is)
      where
        go : (o : Option ℕ) → taken_stamp done.gate ≡ o → shown_progress old.clock o ≡ progress.Freed stamp
            → (n : ℕ) × (stamp ≡ max old.clock n + 1) × (stamp < 2 ^ 62)
            × Moved old new (sides_in sends recvs) (sides_in sent recvs) stamp (Act.Freed link part n)
        go None shown_none h = absurd (cc)
        go (Some n) shown_some h =
            let stamps : stamp ≡ max old.clock n + 1 = same_freed stamp (max old.clock n + 1) (sym h) in
            let by = told_by old hart answer.Freed stamp new tells in
            let becomes = freed_becomes old.site (part_of old hart) link part (row_at old hart) freeing in
            let is_shown = becomes_shown (Some n) shown_some in
            let told_so = subst (IsTold (tested done.at.side done.gate)) is done.told in (
              n,
              stamps,
              told_so.0,
              sender_moved old new stamp (Act.Freed link part n) link part sends sent recvs
                  (λ s. tested s done.gate) one_freed (λ k. after_freed k done.gate) sides fit (record {
                    side = done.at.side;
                    there = done.at.there;
                    alone = there.3;
                    made = done.moved;
                    phases = by.phases ∙ becomes.phases;
                    keeps = subst (λ t. Keeps old.requests t) (sym by.requests) becomes.keeps;
                    site = by.site;
                    clock = by.clock;
                    low = below_max old.clock n stamp stamps;
                    shape = λ p. (refl, refl);
                    same = ap phase_of_sender (sym is_shown);
                    size = ap (λ (s : SendView). s.size) is_shown;
                    past = told_so.1;
                    keys = ap (λ (s : SendView). s.keys) is_shown
                        ∙ ap (λ i. modified done.at.side.keys i (λ k. after_freed k done.gate)) freed_is;
                    boxes = done.own ∙ sym done.at.own;
                    place = refl;
                    has = has_key;
                    acts = λ k h. (done.gate, shown_some, one_made k h, refl);
                  }),
            )

    pub missed_moved : (new : Rank) → found ≡ progress.Missed stamp → new ≡ told old hart answer.Missed stamp
        → (stamp ≡ old.clock + 1) × (stamp < 2 ^ 62)
        × Moved old new (sides_in sends recvs) (sides_in sent recvs) stamp (Act.Miss link part)
    missed_moved new is tells = go (taken_stamp done.gate) refl (sym shows ∙ is)
      where
        go : (o : Option ℕ) → taken_stamp done.gate ≡ o → shown_progress old.clock o ≡ progress.Missed stamp
            → (stamp ≡ old.clock + 1) × (stamp < 2 ^ 62)
            × Moved old new (sides_in sends recvs) (sides_in sent recvs) stamp (Act.Miss link part)
        go (Some n) shown_some h = absurd (cc)
        go None shown_none h =
            let stamps : stamp ≡ old.clock + 1 = same_missed stamp (old.clock + 1) (sym h) in
            let by = told_by old hart answer.Missed stamp new tells in
            let stays = unfreed_stays old.site (part_of old hart) link part (row_at old hart) freeing in
            let is_shown = becomes_shown None shown_none in
            let told_so = subst (IsTold (tested done.at.side done.gate)) is done.told in (
              stamps,
              told_so.0,
              sender_moved old new stamp (Act.Miss link part) link part sends sent recvs
                  (λ s. tested s done.gate) (λ p. p) (λ k. after_freed k done.gate) sides fit (record {
                    side = done.at.side;
                    there = done.at.there;
                    alone = there.3;
                    made = done.moved;
                    phases = by.phases ∙ (stays.phases ∙ sym (none_changed_at link old.phases));
                    keeps = subst (λ t. Keeps old.requests t) (sym by.requests) stays.keeps;
                    site = by.site;
                    clock = by.clock;
                    low = omega (arith, stamps);
                    shape = λ p. (refl, refl);
                    same = ap phase_of_sender (sym is_shown);
                    size = ap (λ (s : SendView). s.size) is_shown;
                    past = told_so.1;
                    keys = ap (λ (s : SendView). s.keys) is_shown
                        ∙ ap (λ i. modified done.at.side.keys i (λ k. after_freed k done.gate)) freed_is;
                    boxes = done.own ∙ sym done.at.own;
                    place = refl;
                    has = inl has_key;
                    acts = λ k h. (done.gate, shown_none, refl);
                  }),
            )
