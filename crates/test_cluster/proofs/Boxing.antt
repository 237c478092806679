-- What turns make of the keys of boxes, by the acts that their events name.
use Rattle.std.specs.Prelude.{ℕ, ◌≡◌, ◌==◌, ◌&&◌, Bool, true, false, List, [], ◌∷◌, ◌++◌, Option, Some, None}
use Rattle.std.proofs.Common.{refl, sym, ap, ◌∙◌, subst}
use Rattle.std.proofs.lemmas.List.{append_cancel_left}
use mathlib.Core.Logic.{inl, inr}
use Rattle.rv_image_types.specs.declared.images.ImageVersion.{ImageVersion}
use Rattle.part_box.specs.declared.view.Receiving.{Receiving}
use Rattle.part_box.specs.declared.view.Sending.{Sending}
use Rattle.cl_journal.specs.Replaying.{HubHistory}
use Rattle.cl_trace.specs.declared.events.Event.{Event}
use Rattle.cl_trace.specs.declared.events.Kind.{Kind}
use Rattle.cl_rank.proofs.Lists.{itself}
use Rattle.cl_deeds.specs.Deeds.{Act, IsStamp, event_of, kind_of}
use Rattle.cl_rank.specs.Sides.{ReceiverActs, SenderActs, is_place, box_id_of}
use Rattle.cl_rank.specs.RankSides.{KeyMoves, KeysMove, Sides, receiver_of, sender_of}
use Rattle.cl_rank.specs.Turning.{Answered, IsTurn, RankView}
use Rattle.test_cluster.specs.Boxes.{KeepsKeys, KeepsOthers, LooksInVain, MakesOne, ReceiverMisses, SenderMisses}
use Rattle.test_cluster.specs.Turns.{EndsWith}

-- where the act is elsewhere a key stays
stays : {K : Type 0} (here : Bool) (Acts : K → K → Type 0) (old new : Option K)
    → here ≡ false → KeyMoves here Acts old new → new ≡ old
stays here Acts None None e moves = refl
stays true Acts (Some x) (Some y) e moves = absurd (cc)
stays false Acts (Some x) (Some y) e moves = ap Some moves
stays here Acts None (Some y) e moves = absurd moves
stays true Acts (Some x) None e moves = absurd moves
stays false Acts (Some x) None e moves = absurd moves

-- and where it is here the key goes by it
goes : {K : Type 0} (here : Bool) (Acts : K → K → Type 0) (old new : Option K) (key : K)
    → here ≡ true → old ≡ Some key → KeyMoves here Acts old new → (moved : K) × (new ≡ Some moved) × Acts key moved
goes here Acts None new key e there moves = absurd (cc)
goes true Acts (Some x) (Some y) key e there moves =
    let same : x ≡ key = cc in (y, refl, subst (λ k. Acts k y) same moves)
goes false Acts (Some x) (Some y) key e there moves = absurd (cc)
goes true Acts (Some x) None key e there moves = absurd moves
goes false Acts (Some x) None key e there moves = absurd moves

same_place : (link part : ℕ) → is_place link part (Some (link, part)) ≡ true
same_place link part = ap (λ b. b && (part == part)) (itself link) ∙ itself part

module _ (version : ImageVersion) (stamp link part : ℕ) (old new : Sides) where
  sender_misses : (key : Sending) → sender_of old link part ≡ Some key
      → KeysMove version stamp (Act.Miss link part) old new → SenderMisses link part old new
  sender_misses key there keys =
      let moved = goes (is_place link part (Some (link, part))) (SenderActs version stamp (Act.Miss link part))
      (sender_of old link part) (sender_of new link part) key (same_place link part) there (keys.sends link part) in
      record {
        before = key;
        after = moved.0;
        word = moved.2.0;
        before_is = there;
        after_is = moved.1;
        shows_none = moved.2.1;
        loaded = ap (λ (s : Sending). s.loads) moved.2.2;
        made_stays = ap (λ (s : Sending). s.made) moved.2.2;
      }

  receiver_misses : (key : Receiving) → receiver_of old link part ≡ Some key
      → KeysMove version stamp (Act.Miss link part) old new → ReceiverMisses link part old new
  receiver_misses key there keys =
      let moved = goes (is_place link part (Some (link, part))) (ReceiverActs version stamp (Act.Miss link part))
      (receiver_of old link part) (receiver_of new link part) key (same_place link part) there
      (keys.recvs link part) in
      record {
        before = key;
        after = moved.0;
        word = moved.2.0;
        before_is = there;
        after_is = moved.1;
        shows_none = moved.2.1;
        loaded = ap (λ (r : Receiving). r.loads) moved.2.2;
        got_stays = ap (λ (r : Receiving). r.got) moved.2.2;
      }

by_miss : (stamp : ℕ) (act : Act) (old new : RankView) → kind_of act ≡ Kind.Miss
    → KeysMove old.rank.site.version stamp act old.sides new.sides → new.asked_box ≡ box_id_of act
    → LooksInVain old new
by_miss stamp Act.Plain old new e keys box = absurd (cc)
by_miss stamp Act.Local old new e keys box = absurd (cc)
by_miss stamp (Act.Hub clock request reply) old new e keys box = absurd (cc)
by_miss stamp (Act.Ready link part bytes) old new e keys box = absurd (cc)
by_miss stamp (Act.Take link part gate bytes) old new e keys box = absurd (cc)
by_miss stamp (Act.Miss link part) old new e keys box = record {
  link = link;
  part = part;
  asked = box;
  looks = elim keys.there [
    | inl sender ↦ inl (sender_misses old.rank.site.version stamp link part old.sides new.sides sender.0 sender.1 keys)
    | inr recv ↦ inr (receiver_misses old.rank.site.version stamp link part old.sides new.sides recv.0 recv.1 keys)
  ];
}
by_miss stamp (Act.Freed link part gate) old new e keys box = absurd (cc)
by_miss stamp Act.Held old new e keys box = absurd (cc)
by_miss stamp Act.Idle old new e keys box = absurd (cc)

by_ready : (stamp : ℕ) (act : Act) (old new : RankView) → kind_of act ≡ Kind.Ready → IsStamp old.rank.clock act stamp
    → KeysMove old.rank.site.version stamp act old.sides new.sides → new.asked_box ≡ box_id_of act → MakesOne old new
by_ready stamp Act.Plain old new e at keys box = absurd (cc)
by_ready stamp Act.Local old new e at keys box = absurd (cc)
by_ready stamp (Act.Hub clock request reply) old new e at keys box = absurd (cc)
by_ready stamp (Act.Ready link part bytes) old new e at keys box =
    let moved = goes (is_place link part (Some (link, part)))
    (SenderActs old.rank.site.version stamp (Act.Ready link part bytes)) (sender_of old.sides link part)
    (sender_of new.sides link part) keys.there.0 (same_place link part) keys.there.1 (keys.sends link part) in
    let before : Sending = keys.there.0 in
    record {
      link = link;
      part = part;
      asked = box;
      before = before;
      after = moved.0;
      words = moved.2.0;
      before_is = keys.there.1;
      after_is = moved.1;
      was_open = moved.2.3;
      full = moved.2.1;
      made = ap (λ (s : Sending). s.made) moved.2.5
          ∙ ap (λ (n : ℕ). before.made ++ record { stamp = n; words = moved.2.0 } ∷ []) at;
      loads_stay = ap (λ (s : Sending). s.loads) moved.2.5;
    }
by_ready stamp (Act.Take link part gate bytes) old new e at keys box = absurd (cc)
by_ready stamp (Act.Miss link part) old new e at keys box = absurd (cc)
by_ready stamp (Act.Freed link part gate) old new e at keys box = absurd (cc)
by_ready stamp Act.Held old new e at keys box = absurd (cc)
by_ready stamp Act.Idle old new e at keys box = absurd (cc)

-- the event that stands behind is the last
kind_behind : (kind : Kind) (before after : List Event) (last : Event)
    → after ≡ before ++ last ∷ [] → EndsWith kind before after → last.kind ≡ kind
kind_behind kind before after last behind ends =
    let lists : last ∷ [] ≡ ends.event ∷ [] =
    append_cancel_left before (last ∷ []) (ends.event ∷ []) (sym behind ∙ ends.behind) in
    let same : last ≡ ends.event = cc in
    ap (λ (e : Event). e.kind) same ∙ ends.kind_is

module _ (hart : ℕ) (old new : RankView) (hub left : HubHistory) (turn : IsTurn Answered hart old new hub left) where
  pub keeps_others : KeepsOthers old new
  keeps_others = record {
    sends = λ link part away. stays (is_place link part (box_id_of turn.deed.act))
        (SenderActs old.rank.site.version turn.deed.stamp turn.deed.act) (sender_of old.sides link part)
        (sender_of new.sides link part) (subst (λ place. is_place link part place ≡ false) turn.box away)
        (turn.keys.sends link part);
    recvs = λ link part away. stays (is_place link part (box_id_of turn.deed.act))
        (ReceiverActs old.rank.site.version turn.deed.stamp turn.deed.act) (receiver_of old.sides link part)
        (receiver_of new.sides link part) (subst (λ place. is_place link part place ≡ false) turn.box away)
        (turn.keys.recvs link part);
  }

  pub keeps_keys : new.asked_box ≡ None → KeepsKeys old.sides new.sides
  keeps_keys none = record {
    sends = λ link part. keeps_others.sends link part (ap (is_place link part) none);
    recvs = λ link part. keeps_others.recvs link part (ap (is_place link part) none);
  }

  pub looks_in_vain : EndsWith Kind.Miss old.events new.events → LooksInVain old new
  looks_in_vain ends =
      by_miss turn.deed.stamp turn.deed.act old new
      (kind_behind Kind.Miss old.events new.events (event_of turn.deed) turn.event ends) turn.keys turn.box

  pub makes_one : EndsWith Kind.Ready old.events new.events → MakesOne old new
  makes_one ends =
      by_ready turn.deed.stamp turn.deed.act old new
      (kind_behind Kind.Ready old.events new.events (event_of turn.deed) turn.event ends) turn.moves.3 turn.keys
      turn.box
