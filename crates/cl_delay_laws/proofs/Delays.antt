-- Each run of a network is matched by one of its machine.
use Rattle.std.proofs.Common.{◌≡◌, ℕ, List, [], ◌∷◌, ◌++◌, refl, sym, subst}
use Rattle.cl_schedule_laws.specs.Machines.{GoesOn, IsMachine, Machine}
use Rattle.cl_schedule_laws.specs.Laws.{holds_of, machine_of}
use Rattle.cl_schedule_laws.proofs.Walks.{snoc}
use Rattle.cl_delay_laws.specs.Networks.{ArePollsSure, Event, HappenOn, IsNetwork, IsTurn, Network, arrival, in_vain, same, turn, waits}
use Rattle.cl_delay_laws.specs.Laws.{AreMatched, DelayLaw, IsMatched, Lasts, PollsOn, StaysWithin, network_of}
use Rattle.cl_delay_laws.proofs.Polls.{Met, along, goes_too, meet, room_before, was_polled, within_before}

module _ (m : Machine) (n : Network m) (is : IsMachine m) (sure : ArePollsSure m) (net : IsNetwork m n)
    (P : m.State → Type 0) (lasts : Lasts m P) (start : m.State) (within : StaysWithin m start) where
  -- turns of the machine, and polls from where all has arrived, lead to what is alike
  pub record Sim (here : m.State) : Type 0 where
    pub ranks : List ℕ
    pub end : m.State
    pub walk : GoesOn m ranks start end
    pub polls : List ℕ
    pub there : m.State
    pub polled : PollsOn m polls here there
    pub alike : m.Alike there end

  moved : (a b : m.State) → m.Alike a b → Sim a → Sim b
  moved a b alike s =
      let f = along m is sure s.polls a b s.there alike s.polled in
      record {
        ranks = s.ranks;
        end = s.end;
        walk = s.walk;
        polls = s.polls;
        there = f.last;
        polled = f.polls;
        alike = is.on f.last s.there s.end (is.back s.there f.last f.alike) s.alike;
      }

  -- behind a turn of the machine
  met : (r : ℕ) (c : m.State) (a : m.State) (s : Sim a) → Met m is sure r c s.there → Sim c
  met r c a s (was_polled rs last polls alike) = record {
    ranks = s.ranks;
    end = s.end;
    walk = s.walk;
    polls = rs;
    there = last;
    polled = polls;
    alike = is.on last s.there s.end alike s.alike;
  }
  met r c a s (goes_too rs last next polls its goes alike) =
      let f = is.follows r s.there s.end next s.alike its goes in
      record {
        ranks = s.ranks ++ r ∷ [];
        end = f.0;
        walk = (snoc m is s.ranks r start s.end f.0 s.walk f.1).walk;
        polls = rs;
        there = last;
        polled = polls;
        alike = is.on last next f.0 alike f.2;
      }

  goes_on : (r : ℕ) (a c : m.State) → Sim a → m.IsWithin a r → m.Goes r a c → Sim c
  goes_on r a c s its goes =
      let room = is.room s.end s.there (is.back s.there s.end s.alike) (within s.ranks s.end s.walk).1 in
      met r c a s (meet m is sure s.polls r a c s.there s.polled its room goes)

  polls_first : (r : ℕ) (a c d : m.State) → m.IsReady c r → m.Goes r c d → Sim d → Sim c
  polls_first r a c d ready goes s = record {
    ranks = s.ranks;
    end = s.end;
    walk = s.walk;
    polls = r ∷ s.polls;
    there = s.there;
    polled = (ready, d, goes, s.polled);
    alike = s.alike;
  }

  turned : (r : ℕ) (a b : m.State) → Sim a → m.IsWithin a r → IsTurn m r a b → Sim b
  turned r a b s its (in_vain alike) = moved a b alike s
  turned r a b s its (same next goes alike) = moved next b alike (goes_on r a next s its goes)
  turned r a b s its (waits next goes ready leads) =
      let poll = is.polls r b ready in
      polls_first r a b poll.0 ready poll.1
      (moved next poll.0 (is.back poll.0 next (leads poll.0 poll.1)) (goes_on r a next s its goes))

  all_within : (a : m.State) → Sim a → (r : ℕ) → m.IsWithin a r
  all_within a s = within_before m is sure s.polls a s.there s.polled
      (λ r. is.within r s.end s.there (is.back s.there s.end s.alike) ((within s.ranks s.end s.walk).0 r))

  has_room : (a : m.State) → Sim a → m.HasRoom a
  has_room a s = room_before m is sure s.polls a s.there s.polled
      (is.room s.end s.there (is.back s.there s.end s.alike) (within s.ranks s.end s.walk).1)

  happened : (es : List Event) (a b : n.State) → Sim (n.arrived a) → HappenOn m n es a b → Sim (n.arrived b)
  happened [] a b s run = subst (λ x. Sim (n.arrived x)) (sym run) s
  happened (turn r ∷ es) a b s run =
      happened es run.0 b
      (turned r (n.arrived a) (n.arrived run.0) s (all_within (n.arrived a) s r)
      (net.goes r a run.0 (all_within (n.arrived a) s r) (has_room (n.arrived a) s) run.1))
      run.2
  happened (arrival ∷ es) a b s run =
      happened es run.0 b (moved (n.arrived a) (n.arrived run.0) (net.arrives a run.0 run.1) s) run.2

  lasting : (rs : List ℕ) (a c : m.State) → PollsOn m rs a c → P a → P c
  lasting [] a c polls p = subst P (sym polls) p
  lasting (r ∷ rs) a c polls p = lasting rs polls.1 c polls.3 (lasts.ready r a polls.1 polls.0 polls.2 p)

  idle : (rs : List ℕ) (a c : m.State) → PollsOn m rs a c → ((r : ℕ) → ¬ m.IsReady a r) → c ≡ a
  idle [] a c polls none = polls
  idle (r ∷ rs) a c polls none = absurd (none r polls.0)

  pub matched : (here : n.State) → Sim (n.arrived here) → IsMatched m n P start here
  matched here s = record {
    ranks = s.ranks;
    end = s.end;
    walk = s.walk;
    polls = s.polls;
    there = s.there;
    polled = s.polled;
    alike = s.alike;
    keeps = λ p. lasts.alike s.there s.end s.alike (lasting s.polls (n.arrived here) s.there s.polled p);
    idle = λ none. subst (λ x. m.Alike x s.end) (idle s.polls (n.arrived here) s.there s.polled none) s.alike;
  }

  pub starts : Sim start
  starts = record {
    ranks = [];
    end = start;
    walk = refl;
    polls = [];
    there = start;
    polled = refl;
    alike = is.itself start;
  }

  pub run : (es : List Event) (a b : n.State) → n.arrived a ≡ start → HappenOn m n es a b → IsMatched m n P start b
  run es a b at events = matched b (happened es a b (subst Sim (sym at) starts) events)

pub are_matched : (m : Machine) (n : Network m) → IsMachine m → ArePollsSure m → IsNetwork m n → (P : m.State → Type 0)
    → Lasts m P
    → AreMatched m n P
are_matched m n is sure net P lasts start end es within events =
    run m n is sure net P lasts (n.arrived start) within es start end refl events

pub delay_law : DelayLaw
delay_law m n is sure net lasts = are_matched (machine_of m) (network_of m n) is sure net (holds_of m) lasts
