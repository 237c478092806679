-- Polls of what is there: along likeness, and past a turn of any rank.
use Rattle.std.proofs.Common.{◌≡◌, ℕ, inl, inr, List, [], ◌∷◌, refl, sym, subst}
use Rattle.std.proofs.lemmas.Bool.{cases_eq}
use Rattle.cl_schedule_laws.specs.Machines.{IsMachine, Machine}
use Rattle.cl_delay_laws.specs.Networks.{ArePollsSure}
use Rattle.cl_delay_laws.specs.Laws.{PollsOn}

module _ (m : Machine) (is : IsMachine m) (sure : ArePollsSure m) where
  abbrev pub State : Type 0
  State = m.State

  -- ---- along likeness

  pub record Along (rs : List ℕ) (b c : State) : Type 0 where
    pub last : State
    pub polls : PollsOn m rs b last
    pub alike : m.Alike c last

  pub along : (rs : List ℕ) (a b c : State) → m.Alike a b → PollsOn m rs a c → Along rs b c
  along [] a b c alike polls = record { last = b; polls = refl; alike = subst (λ x. m.Alike x b) (sym polls) alike }
  along (r ∷ rs) a b c alike polls =
      let f = is.follows r a b polls.1 alike (is.asks_for r a polls.0) polls.2 in
      let t = along rs polls.1 f.0 c f.2 polls.3 in
      record { last = t.last; polls = (sure.alike r a b alike polls.0, f.0, f.1, t.polls); alike = t.alike }

  -- ---- what holds behind them held before

  pub room_before : (rs : List ℕ) (a c : State) → PollsOn m rs a c → m.HasRoom c → m.HasRoom a
  room_before [] a c polls room = subst (λ x. m.HasRoom x) polls room
  room_before (r ∷ rs) a c polls room = is.grows r a polls.1 polls.2 (room_before rs polls.1 c polls.3 room)

  pub within_before : (rs : List ℕ) (a c : State) → PollsOn m rs a c → ((r : ℕ) → m.IsWithin c r) → (r : ℕ) → m.IsWithin a r
  within_before [] a c polls within r = subst (λ x. m.IsWithin x r) polls (within r)
  within_before (p ∷ ps) a c polls within r = elim (cases_eq r p) [
    | inl same ↦ subst (λ k. m.IsWithin a k) (sym same) (is.asks_for p a polls.0)
    | inr apart ↦ (is.own p r a polls.1 apart polls.2).1 (within_before ps polls.1 c polls.3 within r)
  ]

  -- ---- past a turn

  -- turns of r lead from what the polls began at to c: the poll of r was among them, or r goes from where they led
  pub data Met (r : ℕ) (c t : State) : Type 0 where
    was_polled : (rs : List ℕ) (last : State) → PollsOn m rs c last → m.Alike last t → Met r c t
    goes_too : (rs : List ℕ) (last next : State) → PollsOn m rs c last → m.IsWithin t r → m.Goes r t next
        → m.Alike last next
        → Met r c t

  -- a poll more before them
  one_more : (p r : ℕ) (c d e t : State) → m.IsReady c p → m.Goes p c d → m.Alike e d → Met r e t → Met r c t
  one_more p r c d e t ready goes alike (was_polled rs last polls same) =
      let f = along rs e d last alike polls in
      was_polled (p ∷ rs) f.last (ready, d, goes, f.polls) (is.on f.last last t (is.back last f.last f.alike) same)
  one_more p r c d e t ready goes alike (goes_too rs last next polls within turn same) =
      let f = along rs e d last alike polls in
      goes_too (p ∷ rs) f.last next (ready, d, goes, f.polls) within turn
      (is.on f.last last next (is.back last f.last f.alike) same)

  pub meet : (rs : List ℕ) (r : ℕ) (a c t : State) → PollsOn m rs a t → m.IsWithin a r → m.HasRoom t → m.Goes r a c
      → Met r c t
  meet [] r a c t polls within room goes =
      goes_too [] c c refl (subst (λ x. m.IsWithin x r) (sym polls) within) (subst (λ x. m.Goes r x c) (sym polls) goes)
      (is.itself c)
  meet (p ∷ ps) r a c t polls within room goes = elim (cases_eq r p) [
    | inl same ↦
        let its = subst (λ k. m.Goes k a c) same goes in
        let f = along ps polls.1 c t (sure.one p a polls.1 c polls.0 polls.2 its) polls.3 in
        was_polled ps f.last f.polls (is.back t f.last f.alike)
    | inr apart ↦
        let mid = polls.1 in
        let space = is.now a (is.grows p a mid polls.2 (room_before ps mid t polls.3 room)) in
        let stays = is.ready p r a c apart polls.0 within space goes in
        let poll = is.polls p c stays.0 in
        let x = stays.1 poll.0 poll.1 in
        let alike = sure.one p a x.0 mid polls.0 x.2 polls.2 in
        let there = (is.own p r a mid apart polls.2).0 within in
        let f = is.follows r x.0 mid x.1 alike (is.within r mid x.0 (is.back x.0 mid alike) there) x.3 in
        let near = is.on poll.0 x.1 f.0 x.4 f.2 in
        one_more p r c poll.0 f.0 t stays.0 poll.1 (is.back poll.0 f.0 near)
        (meet ps r mid f.0 t polls.3 there room f.1)
  ]
