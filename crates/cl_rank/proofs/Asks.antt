-- The turns of a running rank that look at a box.
use Rattle.std.proofs.Common.{◌≡◌, ℕ, ◌<◌, ◌^◌, List, Some, None, refl, sym, ap, subst, ◌∙◌, inr}
use Rattle.part_channel.specs.Channels.{ChannelView}
use Rattle.part_channel.specs.declared.progress.Progress.{Progress}
use Rattle.part_channel.specs.declared.progress.Progress.TheVariants as progress
use Rattle.part_channel.specs.Receiving.{RecvView}
use Rattle.part_channel.specs.Sending.{SendView}
use Rattle.cl_state.specs.declared.asking.Answer.TheVariants as answer
use Rattle.cl_state.specs.declared.asking.Ask.TheVariants as ask
use Rattle.cl_state.specs.declared.state.RankState.{RankState}
use Rattle.cl_state.specs.Asked.{asked}
use Rattle.cl_state.specs.Room.{rank_of}
use Rattle.cl_state.specs.Told.{told}
use Rattle.cl_trace.specs.declared.events.Kind.TheVariants as kind
use Rattle.cl_state.specs.Rank.{Rank}
use Rattle.cl_rank.specs.declared.ranks.Rank.{Rank as Running}
use Rattle.cl_rank.specs.declared.turning.Turn.{Turn}
use Rattle.cl_deeds.specs.Deeds.{Act, Suits, IsStamp, answer_of, kind_of, request_of}
use Rattle.cl_rank.specs.Sides.{box_id_of}
use Rattle.cl_sides.specs.Sides.{AreChannelsOf, sides_in}
use Rattle.cl_sides.specs.Steps.{IsTested}
use Rattle.cl_rank.specs.Tidings.{HasLooked, TestTells, Tidings}
use Rattle.cl_rank.specs.Views.{AsksNobody, MayTurn}
use Rattle.cl_rank.proofs.Looked.{freed_moved, missed_moved, never_all, never_unready}
use Rattle.cl_rank.proofs.Moves.{Moved}
use Rattle.cl_rank.proofs.Went.{Went}

-- an act on this box answers what was asked, and moves the rank
pub record BoxTurn (r : Running) (t : Turn) (link part : ℕ) (new : RankState) (sends : List (ℕ × SendView))
    (recvs : List (ℕ × RecvView)) (x : Tidings) : Type 0 where
  pub act : Act
  pub answers : Suits (asked (rank_of r.state) t.hart) act
  pub stamp : IsStamp r.state.clock act x.2
  pub tells : x.0 ≡ answer_of act
  pub kinds : x.1 ≡ kind_of act
  pub quiet : request_of act ≡ None
  pub place : box_id_of act ≡ Some (link, part)
  pub low : x.2 < 2 ^ 62
  pub moved : Moved (rank_of r.state) (rank_of new) (sides_in r.sends.items r.recvs.items) (sides_in sends recvs) x.2 act

-- and the rank went by it
pub went_box : {r : Running} {t : Turn} {link part : ℕ} {new : RankState} {sends : List (ℕ × SendView)}
    {recvs : List (ℕ × RecvView)} {x : Tidings} (turn : BoxTurn r t link part new sends recvs x) → MayTurn r t
    → rank_of new ≡ told (rank_of r.state) t.hart x.0 x.2 → Went r t.hart x.2 turn.act new (sides_in sends recvs)
went_box {r} {t} {link} {part} {new} {sends} {recvs} {x} turn may is = record {
  there = may.has.there;
  low = turn.low;
  answers = turn.answers;
  stamps = turn.stamp;
  tells = is ∙ ap (λ a. told (rank_of r.state) t.hart a x.2) turn.tells;
  moved = turn.moved;
}

module _ (r : Running) (t : Turn) {link part : ℕ} {channels : List ChannelView}
    (own : AreChannelsOf r.state.site.version channels (sides_in r.sends.items r.recvs.items))
    (asks : asked (rank_of r.state) t.hart ≡ ask.Freed link part)
    {found : Progress} {sent : List (ℕ × SendView)}
    (done : IsTested channels link r.state.clock found r.sends.items sent) where
  abbrev FoundFreed : Tidings → Type 0
  FoundFreed x = (stamp : ℕ) × (found ≡ progress.Freed stamp) × (x ≡ (answer.Freed, kind.Freed, stamp))

  abbrev FoundMissed : Tidings → Type 0
  FoundMissed x = (stamp : ℕ) × (found ≡ progress.Missed stamp) × (x ≡ (answer.Missed, kind.Miss, stamp))

  not_all : found ≡ progress.AllFreed → ⊥
  not_all = never_all (rank_of r.state) t.hart link part channels r.sends.items r.recvs.items r.sides r.fit own asks 0 found
      sent done

  not_unready : found ≡ progress.NotReady → ⊥
  not_unready = never_unready (rank_of r.state) t.hart link part channels r.sends.items r.recvs.items r.sides r.fit own asks
      0 found sent done

  -- it looked at a box
  pub has_looked : HasLooked found
  has_looked = go found refl
    where
      go : (p : Progress) → found ≡ p → HasLooked p
      go (progress.Freed stamp) is = tt
      go (progress.Missed stamp) is = tt
      go progress.AllFreed is = absurd (not_all is)
      go progress.NotReady is = absurd (not_unready is)

  freed_turn : (new : RankState) (x : Tidings) → FoundFreed x
      → rank_of new ≡ told (rank_of r.state) t.hart x.0 x.2 → BoxTurn r t link part new sent r.recvs.items x
  freed_turn new x f is = subst (BoxTurn r t link part new sent r.recvs.items) (sym f.2)
      (by_stamp (subst (λ (y : Tidings). rank_of new ≡ told (rank_of r.state) t.hart y.0 y.2) f.2 is))
    where
      by_stamp : rank_of new ≡ told (rank_of r.state) t.hart answer.Freed f.0
          → BoxTurn r t link part new sent r.recvs.items (answer.Freed, kind.Freed, f.0)
      by_stamp is =
          let m = freed_moved (rank_of r.state) t.hart link part channels r.sends.items r.recvs.items r.sides r.fit own
          asks f.0 found sent done (rank_of new) f.1 is in
          record {
            act = Act.Freed link part m.0;
            answers = asks;
            stamp = m.1;
            tells = refl;
            kinds = refl;
            quiet = refl;
            place = refl;
            low = m.2;
            moved = m.3;
          }

  missed_turn : (new : RankState) (x : Tidings) → FoundMissed x
      → rank_of new ≡ told (rank_of r.state) t.hart x.0 x.2 → BoxTurn r t link part new sent r.recvs.items x
  missed_turn new x f is = subst (BoxTurn r t link part new sent r.recvs.items) (sym f.2)
      (by_stamp (subst (λ (y : Tidings). rank_of new ≡ told (rank_of r.state) t.hart y.0 y.2) f.2 is))
    where
      by_stamp : rank_of new ≡ told (rank_of r.state) t.hart answer.Missed f.0
          → BoxTurn r t link part new sent r.recvs.items (answer.Missed, kind.Miss, f.0)
      by_stamp is =
          let m = missed_moved (rank_of r.state) t.hart link part channels r.sends.items r.recvs.items r.sides r.fit own
          asks f.0 found sent done (rank_of new) f.1 is in
          record {
            act = Act.Miss link part;
            answers = inr asks;
            stamp = m.0;
            tells = refl;
            kinds = refl;
            quiet = refl;
            place = refl;
            low = m.1;
            moved = m.2;
          }

  pub test_turn : (new : RankState) (x : Tidings) → TestTells found x
      → rank_of new ≡ told (rank_of r.state) t.hart x.0 x.2 → BoxTurn r t link part new sent r.recvs.items x
  test_turn new x tells is = go found refl tells
    where
      go : (p : Progress) → found ≡ p → TestTells p x → BoxTurn r t link part new sent r.recvs.items x
      go (progress.Freed stamp) at so = freed_turn new x (stamp, at, so) is
      go (progress.Missed stamp) at so = missed_turn new x (stamp, at, so) is
      go progress.AllFreed at so = absurd so
      go progress.NotReady at so = absurd so

pub asks_nothing_plain : (old new : Rank) (hart : ℕ) → new ≡ old → asked old hart ≡ ask.Plain
    → AsksNobody (asked new hart) kind.Plain
asks_nothing_plain old new hart same is = record {
  act = Act.Plain;
  answers = ap (λ r. asked r hart) same ∙ is;
  alone = refl;
  quiet = refl;
  nowhere = refl;
  kind = refl;
}

pub asks_nothing_local : (old new : Rank) (hart : ℕ) → new ≡ old → asked old hart ≡ ask.Local
    → AsksNobody (asked new hart) kind.Local
asks_nothing_local old new hart same is = record {
  act = Act.Local;
  answers = ap (λ r. asked r hart) same ∙ is;
  alone = refl;
  quiet = refl;
  nowhere = refl;
  kind = refl;
}

pub asks_nothing_held : (old new : Rank) (hart : ℕ) → new ≡ old → asked old hart ≡ ask.Held
    → AsksNobody (asked new hart) kind.Held
asks_nothing_held old new hart same is = record {
  act = Act.Held;
  answers = ap (λ r. asked r hart) same ∙ is;
  alone = refl;
  quiet = refl;
  nowhere = refl;
  kind = refl;
}

pub asks_nothing_idle : (old new : Rank) (hart : ℕ) → new ≡ old → asked old hart ≡ ask.Idle
    → AsksNobody (asked new hart) kind.Idle
asks_nothing_idle old new hart same is = record {
  act = Act.Idle;
  answers = ap (λ r. asked r hart) same ∙ is;
  alone = refl;
  quiet = refl;
  nowhere = refl;
  kind = refl;
}
