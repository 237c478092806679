-- Two turns that post, exchanged.
use Rattle.std.proofs.Common.{◌≡◌, ℕ, ◌+◌, ◌<◌, inl, inr, List, length, true, false, Some, refl, sym, ap, ◌∙◌, subst}
use Rattle.std.specs.Prelude.{◌≢◌, max}
use Rattle.std.specs.List.{slice_get, slice_set}
use Rattle.mp_types.specs.declared.replies.Reply.{Reply}
use Rattle.mp_types.specs.declared.replies.Reply.TheVariants as reply
use Rattle.mp_types.specs.declared.requests.Request.{Request}
use Rattle.mp_types.specs.declared.requests.Request.TheVariants as request
use Rattle.mp_hub.specs.Hub.{HubView, outcome}
use Rattle.mp_wait_laws.proofs.Sets.{get-set_other}
use Rattle.mp_alike_laws.specs.Renaming.{Renaming}
use Rattle.mp_source_laws.specs.Alike.{AlikeHubs, Wild}
use Rattle.mp_clash_laws.specs.Exchanges.{CollectsLater, KeepsOld, MayExchange, behind, next_of, reply_by}
use Rattle.mp_clash_laws.proofs.Later.{posts_law}
use Rattle.cl_journal.specs.Journal.{calls_of}
use Rattle.cl_journal.specs.declared.entries.Entry.{Entry}
use Rattle.cl_state.specs.declared.asking.Answer.{Answer}
use Rattle.cl_state.specs.declared.asking.Ask.{Ask}
use Rattle.cl_state.specs.Asked.{asked}
use Rattle.cl_state.specs.Rank.{Rank}
use Rattle.cl_state.specs.Told.{told}
use Rattle.cl_state_laws.specs.Vain.{mode_of}
use Rattle.cl_state_laws.specs.VainLaws.{at_clock}
use Rattle.cl_names_laws.specs.Named.{rank_by}
use Rattle.cl_post_laws.proofs.Renamed.{renamed}
use Rattle.cl_trace.specs.declared.events.Kind.{Kind}
use Rattle.cl_machine.specs.declared.steps.Step.{Step}
use Rattle.cl_machine.specs.Cluster.{Cluster}
use Rattle.cl_machine.specs.Journal.{reply_in}
use Rattle.cl_order_laws.specs.Alike.{AlikeBoxes, AlikeRanks, AreEach, hub_of}
use Rattle.cl_order_laws.specs.Turns.{IsTurn, called}
use Rattle.cl_order_laws.proofs.Commuting.{set_apart}
use Rattle.cl_order_laws.proofs.Each.{each_set, set_here, set_set}
use Rattle.cl_order_laws.proofs.Ranks.{told_stamped}
use Rattle.cl_order_laws.proofs.SureAlone.{IsLive, has_hart}
use Rattle.cl_order_laws.proofs.SureHub.{reply_is}
use Rattle.cl_order_laws.proofs.Turns.{turns_law}
use Rattle.cl_order_laws.proofs.Walks.{hub_entry}
use Rattle.cl_source_laws.specs.Alike.{AreAlike}
use Rattle.cl_source_laws.proofs.Likeness.{likeness_law}
use Rattle.cl_post_laws.proofs.Later as later_source
use Rattle.cl_first_laws.specs.Laws.{ExchangeLaw, IsCalm, Polls, Turn, at_once, r_polls, s_polls}

-- ---- a call of a hart

abbrev pub step_of : Cluster → ℕ → ℕ → Rank → Request → Step
step_of c r hart rank q = record {
  rank = r;
  hart = hart;
  stamp = max rank.clock c.journal.clock + 1;
  kind = Kind.Hub (reply_in c.journal r q);
}

abbrev pub next : Cluster → ℕ → ℕ → Rank → Request → Cluster
next c r hart rank q = called c (step_of c r hart rank q) rank q

pub turn_of : (c : Cluster) (r hart : ℕ) (rank : Rank) (q : Request) → slice_get c.ranks r ≡ Some rank
    → asked rank hart ≡ Ask.Hub q
    → Turn r hart c (next c r hart rank q)
turn_of c r hart rank q there asks = record {
  step = step_of c r hart rank q;
  rank = refl;
  hart = refl;
  leads = (rank, there, has_hart rank hart (subst IsLive (sym asks) tt), (q, asks, refl, refl, refl));
}

-- where a turn of a hart that asks the hub leads
pub record Called (r hart : ℕ) (c new : Cluster) (rank : Rank) (q : Request) : Type 0 where
  pub stamp : ℕ
  pub ranks : new.ranks ≡ slice_set c.ranks r (told rank hart (Answer.Reply (outcome (hub_of c.journal) r q).0) stamp)
  pub hubs : hub_of new.journal ≡ (outcome (hub_of c.journal) r q).1
  pub boxes : new.boxes ≡ c.boxes

pub call_of : (r hart : ℕ) (c new : Cluster) (rank : Rank) (q : Request) → slice_get c.ranks r ≡ Some rank
    → asked rank hart ≡ Ask.Hub q → Turn r hart c new
    → Called r hart c new rank q
call_of r hart c new rank q there asks turn =
    let e = turn.step in
    let here : slice_get c.ranks e.rank ≡ Some rank = ap (slice_get c.ranks) turn.rank ∙ there in
    let is : new ≡ called c e rank q =
    (subst (λ a. IsTurn c e rank a new) (ap (asked rank) turn.hart ∙ asks) (turns_law c new e rank here turn.leads)).1 in
    let replied : reply_in c.journal e.rank q ≡ (outcome (hub_of c.journal) r q).0 =
    ap (λ k. reply_in c.journal k q) turn.rank ∙ reply_is c.journal r q in
    let mine : Entry = record {
      rank = e.rank;
      hart = e.hart;
      clock = rank.clock;
      stamp = e.stamp;
      request = q;
      reply = reply_in c.journal e.rank q;
    } in
    record {
      stamp = e.stamp;
      ranks = ap (λ (k : Cluster). k.ranks) is
          ∙ ap (λ k. slice_set c.ranks k (told rank e.hart (Answer.Reply (reply_in c.journal e.rank q)) e.stamp)) turn.rank
          ∙ ap (λ h. slice_set c.ranks r (told rank h (Answer.Reply (reply_in c.journal e.rank q)) e.stamp)) turn.hart
          ∙ ap (λ a. slice_set c.ranks r (told rank hart (Answer.Reply a) e.stamp)) replied;
      hubs = ap (λ (k : Cluster). hub_of k.journal) is ∙ hub_entry c.journal mine
          ∙ ap (λ k. (outcome (hub_of c.journal) k q).1) turn.rank;
      boxes = ap (λ (k : Cluster). k.boxes) is;
    }

-- ---- ranks by names that move no old post

module _ (wild : Wild) (c : Cluster) (calm : IsCalm wild c) (names : Renaming) (old : KeepsOld names (hub_of c.journal)) where
  each_same : AreEach (AlikeRanks names) c.ranks c.ranks
  each_same = record {
    many = refl;
    each = λ i z here. (
      z,
      here,
      (z.clock, ap (λ w. at_clock w z.clock) (sym (calm.names i z here names old))),
    );
  }

  boxes_same : AreEach AlikeBoxes c.boxes c.boxes
  boxes_same = record { many = refl; each = λ i box here. (box, here, calm.boxes i box here) }

  told_same : (r hart : ℕ) (x : Rank) → slice_get c.ranks r ≡ Some x → (a b : Reply) → b ≡ reply_by names a
      → (stamp other : ℕ)
      → AlikeRanks names (told x hart (Answer.Reply a) stamp) (told x hart (Answer.Reply b) other)
  told_same r hart x here a b same stamp other = (
    other,
    ap (λ z. told x hart (Answer.Reply z) other) same
        ∙ ap (λ w. told w hart (Answer.Reply (reply_by names a)) other) (sym (calm.names r x here names old))
        ∙ renamed names x hart a other
        ∙ ap (rank_by names) (told_stamped x hart (Answer.Reply a) stamp other),
  )

  -- two ranks were told, in one order and in the other
  pub two_told : (r s : ℕ) → r ≢ s → (u v x y : Rank) → AlikeRanks names u x → AlikeRanks names v y
      → AreEach (AlikeRanks names) (slice_set (slice_set c.ranks s u) r v) (slice_set (slice_set c.ranks r y) s x)
  two_told r s apart u v x y one two =
      subst (λ ys. AreEach (AlikeRanks names) (slice_set (slice_set c.ranks s u) r v) ys)
      (set_apart c.ranks s r x y (λ e. apart (sym e)))
      (each_set (AlikeRanks names) (slice_set c.ranks s u) (slice_set c.ranks s x) r v y
      (each_set (AlikeRanks names) c.ranks c.ranks s u x each_same one) two)

-- ---- behind two calls

-- first a call of s, then one of r
pub record Both (s theirs : ℕ) (x : Rank) (p : Request) (r mine : ℕ) (y : Rank) (q : Request) (old new : Cluster)
    : Type 0 where
  early : ℕ
  late : ℕ
  ranks : new.ranks
      ≡ slice_set (slice_set old.ranks s (told x theirs (Answer.Reply (outcome (hub_of old.journal) s p).0) early)) r
      (told y mine (Answer.Reply (outcome (outcome (hub_of old.journal) s p).1 r q).0) late)
  hubs : hub_of new.journal ≡ behind (hub_of old.journal) s p r q
  boxes : new.boxes ≡ old.boxes

module _ (s theirs : ℕ) (x : Rank) (p : Request) (r mine : ℕ) (y : Rank) (q : Request) (old mid new : Cluster)
    (apart : s ≢ r) (hx : slice_get old.ranks s ≡ Some x) (ax : asked x theirs ≡ Ask.Hub p)
    (hy : slice_get old.ranks r ≡ Some y) (ay : asked y mine ≡ Ask.Hub q) (one : Turn s theirs old mid) where
  first_call : Called s theirs old mid x p
  first_call = call_of s theirs old mid x p hx ax one

  pub still : slice_get mid.ranks r ≡ Some y
  still =
      ap (λ xs. slice_get xs r) first_call.ranks
      ∙ get-set_other old.ranks s r (told x theirs (Answer.Reply (outcome (hub_of old.journal) s p).0) first_call.stamp) apart
      ∙ hy

  pub both : Turn r mine mid new → Both s theirs x p r mine y q old new
  both two =
      let c = first_call in
      let d = call_of r mine mid new y q still ay two in
      record {
        early = c.stamp;
        late = d.stamp;
        ranks = d.ranks
            ∙ ap (λ h. slice_set mid.ranks r (told y mine (Answer.Reply (outcome h r q).0) d.stamp)) c.hubs
            ∙ ap (λ xs. slice_set xs r (told y mine (Answer.Reply
            (outcome (outcome (hub_of old.journal) s p).1 r q).0) d.stamp)) c.ranks;
        hubs = d.hubs ∙ ap (λ h. (outcome h r q).1) c.hubs;
        boxes = d.boxes ∙ c.boxes;
      }

module _ (wild : Wild) (r mine s theirs : ℕ) (x y : Rank) (q p : Request) (old : Cluster) (calm : IsCalm wild old)
    (apart : r ≢ s) (hy : slice_get old.ranks r ≡ Some y) (ay : asked y mine ≡ Ask.Hub q)
    (hx : slice_get old.ranks s ≡ Some x) (ax : asked x theirs ≡ Ask.Hub p) where
  abbrev h : HubView
  h = hub_of old.journal

  alike_of : (names : Renaming) → KeepsOld names h → (a b : Cluster) (us vs : List Rank) (k l : HubView) → a.ranks ≡ us
      → b.ranks ≡ vs → AreEach (AlikeRanks names) us vs → hub_of a.journal ≡ k → hub_of b.journal ≡ l
      → AlikeHubs wild names k l → a.boxes ≡ old.boxes → b.boxes ≡ old.boxes
      → AreAlike wild a b
  alike_of names keeps a b us vs k l ea eb ranks ha hb hubs ba bb = (
    names,
    record {
      ranks = subst (λ xs. AreEach (AlikeRanks names) xs b.ranks) (sym ea)
          (subst (λ ys. AreEach (AlikeRanks names) us ys) (sym eb) ranks);
      hubs = subst (λ j. AlikeHubs wild names j (hub_of b.journal)) (sym ha)
          (subst (λ j. AlikeHubs wild names k j) (sym hb) hubs);
      boxes = subst (λ xs. AreEach AlikeBoxes xs b.boxes) (sym ba)
          (subst (λ ys. AreEach AlikeBoxes old.boxes ys) (sym bb) (boxes_same wild old calm names keeps));
    },
  )

  -- both are told the same
  pub plain : (k : MayExchange wild h r q s p) (new second : Cluster) → Both s theirs x p r mine y q old new
      → Both r mine y q s theirs x p old second
      → AreAlike wild new second
  plain k new second b c =
      alike_of k.names k.old new second _ _ _ _ b.ranks c.ranks
      (two_told wild old calm k.names k.old r s apart _ _ _ _
      (told_same wild old calm k.names k.old s theirs x hx _ _ (k.told).theirs b.early c.late)
      (told_same wild old calm k.names k.old r mine y hy _ _ (k.told).mine b.late c.early))
      b.hubs c.hubs k.hubs b.boxes c.boxes

  -- the receive of r is polled behind both
  record Polled (new second : Cluster) : Type 0 where
    last : Cluster
    polls : Polls r mine second
    turn : Turn r mine second last
    alike : AreAlike wild new last

  polled : (k : CollectsLater wild h r q s p) (new second : Cluster) → Both s theirs x p r mine y q old new
      → Both r mine y q s theirs x p old second
      → Polled new second
  polled k new second b c =
      record {
        last = next second r mine waiting (request.Collect (next_of h));
        polls = record {
          rank = waiting;
          there = here;
          post = next_of h;
          waits = ap (λ z. mode_of z mine) waiting_is
              ∙ later_source.waits y mine k.comm k.source k.tag there now (next_of h) c.early;
          asks = asks;
          message = k.message;
          gets = reply_is second.journal r (request.Collect (next_of h))
              ∙ ap (λ j. (outcome j r (request.Collect (next_of h))).0) c.hubs ∙ k.later;
        };
        turn = then;
        alike = alike_of k.names k.old new (next second r mine waiting (request.Collect (next_of h))) _ _ _ _ b.ranks
            ranks_last
            (two_told wild old calm k.names k.old r s apart _ _ _ _
            (told_same wild old calm k.names k.old s theirs x hx _ _ k.theirs b.early c.late)
            (told_same wild old calm k.names k.old r mine y hy (outcome (outcome h s p).1 r q).0 (reply.Got k.message)
            (ap (reply_by k.names) (sym k.at_once)) b.late d.stamp))
            b.hubs (d.hubs ∙ ap (λ j. (outcome j r (request.Collect (next_of h))).1) c.hubs) k.hubs b.boxes
            (d.boxes ∙ c.boxes);
      }
    where
      there : mine < length y.harts
      there = has_hart y mine (subst IsLive (sym ay) tt)

      now : asked y mine ≡ Ask.Hub (request.Recv true k.comm k.source k.tag)
      now = ay ∙ ap Ask.Hub k.asks

      -- the rank that has posted its receive
      waiting : Rank
      waiting = told y mine (Answer.Reply (outcome h r q).0) c.early

      waiting_is : waiting ≡ told y mine (Answer.Reply (reply.Posted (next_of h) false)) c.early
      waiting_is = ap (λ a. told y mine (Answer.Reply a) c.early) k.posted

      asks : asked waiting mine ≡ Ask.Hub (request.Collect (next_of h))
      asks =
          ap (λ z. asked z mine) waiting_is
          ∙ later_source.polls y mine k.comm k.source k.tag there now (next_of h) c.early

      here : slice_get second.ranks r ≡ Some waiting
      here =
          ap (λ xs. slice_get xs r) c.ranks
          ∙ get-set_other (slice_set old.ranks r waiting) s r _ (λ e. apart (sym e))
          ∙ set_here old.ranks r waiting y hy

      then : Turn r mine second (next second r mine waiting (request.Collect (next_of h)))
      then = turn_of second r mine waiting (request.Collect (next_of h)) here asks

      d : Called r mine second (next second r mine waiting (request.Collect (next_of h))) waiting (request.Collect (next_of h))
      d = call_of r mine second _ waiting (request.Collect (next_of h)) here asks then

      got : told waiting mine (Answer.Reply (outcome (hub_of second.journal) r (request.Collect (next_of h))).0) d.stamp
          ≡ told y mine (Answer.Reply (reply.Got k.message)) d.stamp
      got =
          ap (λ j. told waiting mine (Answer.Reply (outcome j r (request.Collect (next_of h))).0) d.stamp) c.hubs
          ∙ ap (λ a. told waiting mine (Answer.Reply a) d.stamp) k.later
          ∙ ap (λ z. told z mine (Answer.Reply (reply.Got k.message)) d.stamp) waiting_is
          ∙ later_source.later y mine k.comm k.source k.tag there now (next_of h) c.early d.stamp k.message

      sent : Rank
      sent = told x theirs (Answer.Reply (outcome (outcome h r q).1 s p).0) c.late

      gets : Rank
      gets = told y mine (Answer.Reply (reply.Got k.message)) d.stamp

      ranks_last : (next second r mine waiting (request.Collect (next_of h))).ranks
          ≡ slice_set (slice_set old.ranks r gets) s sent
      ranks_last =
          d.ranks ∙ ap (slice_set second.ranks r) got
          ∙ ap (λ xs. slice_set xs r gets) c.ranks
          ∙ ap (λ xs. slice_set xs r gets) (set_apart old.ranks r s waiting sent apart)
          ∙ set_set (slice_set old.ranks s sent) r waiting gets
          ∙ set_apart old.ranks s r sent gets (λ e. apart (sym e))

pub exchange_law : ExchangeLaw
exchange_law wild r mine s theirs old mid new x y q p calm apart hy ay posts hx ax also race sync one two =
    let first = next old r mine y q in
    let goes = turn_of old r mine y q hy ay in
    let there = still r mine y q s theirs x p old first first apart hy ay hx ax goes in
    let second = next first s theirs x p in
    let then = turn_of first s theirs x p there ax in
    let b = both s theirs x p r mine y q old mid new (λ e. apart (sym e)) hx ax hy ay one two in
    let c = both r mine y q s theirs x p old first second apart hy ay hx ax goes then in
    record {
      first = first;
      goes = goes;
      second = second;
      then = then;
      reordered = elim (posts_law wild old.journal.links (calls_of old.journal.entries) r s q p apart posts also calm.few
          calm.waits race sync) [
            | inl k ↦ at_once (plain wild r mine s theirs x y q p old calm apart hy ay hx ax k new second b c)
            | inr more ↦ elim more [
              | inl k ↦
                  let l = polled wild r mine s theirs x y q p old calm apart hy ay hx ax k new second b c in
                  r_polls l.last l.polls l.turn l.alike
              | inr k ↦
                  let l = polled wild s theirs r mine y x p q old calm (λ e. apart (sym e)) hx ax hy ay k second new c b in
                  s_polls l.last l.polls l.turn (likeness_law.back wild second l.last l.alike)
            ]
          ];
    }
