-- What may go first goes before a turn of another rank.
use Rattle.std.proofs.Common.{◌≡◌, ◌∙◌, ℕ, zero, suc, ◌*◌, ◌<◌, ◌⊎◌, inl, inr, refl, sym, ap, subst, Bool, true, false, List, length, Option, Some, None}
use Rattle.std.specs.Prelude.{◌≢◌, ◌&&◌, cond}
use Rattle.std.specs.List.{list_all}
use Rattle.rv_hart.specs.declared.state.Mode.{Mode}
use Rattle.rv_hart.specs.declared.state.Mode.TheVariants.{Running, Waiting, Ended, Trapped}
use Rattle.rv_hart.specs.declared.state.Wait.TheVariants.{Post, Again}
use Rattle.mp_types.specs.declared.codes.Code.TheVariants as code
use Rattle.mp_types.specs.declared.messages.Envelope.{Envelope}
use Rattle.mp_types.specs.declared.messages.Message.{Message}
use Rattle.mp_types.specs.declared.replies.Reply.{Reply}
use Rattle.mp_types.specs.declared.replies.Reply.TheVariants as reply
use Rattle.mp_types.specs.declared.requests.Request.{Request}
use Rattle.mp_types.specs.declared.requests.Request.TheVariants as request
use Rattle.mp_match.specs.Board.{Board, collect, is_send_of, line_of}
use Rattle.mp_transfers.specs.declared.sides.Side.{Side}
use Rattle.mp_hub.specs.Hub.{HubView, all_collected, all_got, are_distinct, got_or, is_complete, is_known, is_ready, may_collect, outcome, seen, with_sides}
use Rattle.mp_wait_laws.proofs.Fresh.{Laid}
use Rattle.mp_wait_laws.proofs.Waits.{laid_after}
use Rattle.mp_alike_laws.specs.Renaming.{no_renaming}
use Rattle.mp_alike_laws.proofs.Sides.{SameSides}
use Rattle.mp_source_laws.specs.Alike.{AlikeHubs, Wild}
use Rattle.mp_source_laws.proofs.Likeness.{itself as hub_itself}
use Rattle.mp_clash_laws.specs.Exchanges.{BringsNothing, IsLook, IsPosting, IsRefused, MayExchange, behind, reply_by}
use Rattle.mp_clash_laws.proofs.Looks.{vain_look_law}
use Rattle.mp_clash_laws.proofs.Refused.{refused_law}
use Rattle.cl_journal.specs.Journal.{calls_of}
use Rattle.cl_state.specs.declared.asking.Ask.{Ask}
use Rattle.cl_state.specs.Asked.{asked, asked_in, asked_poll, doing, doing_in, part_of}
use Rattle.cl_calls.specs.declared.calls.Call.{Call}
use Rattle.cl_calls.specs.declared.calls.Call.TheVariants as call
use Rattle.cl_state.specs.Rank.{Rank}
use Rattle.cl_state_laws.specs.Vain.{mode_of, waits_on}
use Rattle.cl_machine.specs.Cluster.{Cluster}
use Rattle.cl_order_laws.specs.Alike.{hub_of}
use Rattle.cl_order_laws.specs.SureAsks.{IsReady}
use Rattle.cl_order_laws.proofs.Ready.{exchanged, ready_from}
use Rattle.cl_reduction_laws.specs.Clusters.{weight_in}
use Rattle.cl_reduction_laws.specs.Patterns.{AreEnds}
use Rattle.cl_reduction_laws.proofs.Initialisations.{both_begin}
use Rattle.cl_reduction_laws.proofs.Transfers.{IsOther, IsTransfer, asks_cut, both_ways, cut_kept}

-- ---- a hart that polls asks for its post

-- what posts is no poll
pub no_poll : (rank : Rank) (hart : ℕ) (q : Request) → asked rank hart ≡ Ask.Hub q → IsPosting q → weight_in (mode_of rank hart) ≡ 1
unfolding asked doing
no_poll rank hart q asks posts = go (mode_of rank hart) asks
  where
    same : (p q : Request) → Ask.Hub p ≡ Ask.Hub q → p ≡ q
    same p q e = cc

    polls : (c : Call) (post : ℕ) → asked_poll c post ≡ Ask.Hub q → ⊥
    polls (call.Ssend s) post e = absurd (subst IsPosting (sym (same (request.Finished post) q e)) posts)
    polls _ post e = absurd (subst IsPosting (sym (same (request.Collect post) q e)) posts)

    go : (m : Mode) → asked_in rank.site rank.memory rank.requests rank.phases (doing_in m rank.site (part_of rank hart)) ≡ Ask.Hub q
        → weight_in m ≡ 1
    go Running e = refl
    go (Waiting Again) e = refl
    go (Waiting (Post post)) e = absurd (polls _ post e)
    go (Ended value) e = refl
    go (Trapped cause pc) e = refl

-- and a hart that polls waits on
pub polls_on : (rank : Rank) (hart post : ℕ) → mode_of rank hart ≡ Waiting (Post post)
    → waits_on (doing rank.site (part_of rank hart)) ≡ true
unfolding doing
polls_on rank hart post is = ap (λ m. waits_on (doing_in m rank.site (part_of rank hart))) is

-- ---- what a call that collects or looks is told

pub data IsTold (h : HubView) (s : ℕ) (p : Request) : Type 0 where
  is_there : IsReady p (outcome h s p).0 → IsTold h s p
  not_yet : (outcome h s p).0 ≡ reply.NotYet → IsTold h s p
  refused : IsRefused h s p → IsTold h s p

pub is_told : (h : HubView) (s : ℕ) (p : Request) → IsLook p → IsTold h s p
is_told h s (request.Collect n) is = go (may_collect h s n) refl (collect h.board n).0 (collect h.board n).1 refl
  where
    bad : Reply × HubView
    bad = (reply.Code code.BadRequest, h)

    go : (b : Bool) → may_collect h s n ≡ b → (o : Option Message) (c : Board) → collect h.board n ≡ (o, c)
        → IsTold h s (request.Collect n)
    go false e o c f = refused e
    go true e None c f =
        not_yet (ap (λ (x : Bool). (cond x (got_or h reply.NotYet (collect h.board n)) bad).0) e
        ∙ ap (λ g. (got_or h reply.NotYet g).0) f)
    go true e (Some m) c f =
        is_there (subst (IsReady (request.Collect n))
        (sym (ap (λ (x : Bool). (cond x (got_or h reply.NotYet (collect h.board n)) bad).0) e
        ∙ ap (λ g. (got_or h reply.NotYet g).0) f)) tt)
is_told h s (request.Finished n) is = go (is_send_of s (line_of h.board n)) refl (is_complete h n) refl
  where
    bad : Reply × HubView
    bad = (reply.Code code.BadRequest, h)

    at : (b c : Bool) → Reply
    at b c = (let o : Reply × HubView = cond b (cond c reply.Done reply.NotYet, h) bad in o).0

    go : (b : Bool) → is_send_of s (line_of h.board n) ≡ b → (c : Bool) → is_complete h n ≡ c → IsTold h s (request.Finished n)
    go false e c f = refused e
    go true e true f = is_there (subst (IsReady (request.Finished n)) (sym (ap (λ x. at x (is_complete h n)) e ∙ ap (at true) f)) tt)
    go true e false f = not_yet (ap (λ x. at x (is_complete h n)) e ∙ ap (at true) f)
is_told h s (request.All ns) is =
    go (are_distinct ns && list_all (λ n. is_known h s n) ns) refl (list_all (λ n. is_ready h s n) ns) refl
  where
    bad : Reply × HubView
    bad = (reply.Code code.BadRequest, h)

    at : (b c : Bool) → Reply
    at b c = (let o : Reply × HubView = cond b (cond c (all_collected h (all_got s h.board ns)) (reply.NotYet, h)) bad in o).0

    go : (b : Bool) → (are_distinct ns && list_all (λ n. is_known h s n) ns) ≡ b → (c : Bool)
        → list_all (λ n. is_ready h s n) ns ≡ c → IsTold h s (request.All ns)
    go false e c f = refused e
    go true e true f = is_there (subst (IsReady (request.All ns)) (sym (ap (λ x. at x (list_all (λ n. is_ready h s n) ns)) e ∙ ap (at true) f)) tt)
    go true e false f = not_yet (ap (λ x. at x (list_all (λ n. is_ready h s n) ns)) e ∙ ap (at true) f)
is_told h s (request.Probe comm source tag) is = go _ refl
  where
    go : (o : Option Envelope) → (outcome h s (request.Probe comm source tag)).0 ≡ seen o → IsTold h s (request.Probe comm source tag)
    go None e = not_yet e
    go (Some x) e = is_there (subst (IsReady (request.Probe comm source tag)) (sym e) tt)
is_told h s _ is = absurd is

-- ---- calls that may be exchanged whatever the other is

reply_fixed : (r : Reply) → reply_by no_renaming r ≡ r
reply_fixed (reply.Posted zero done) = refl
reply_fixed (reply.Posted (suc n) done) = refl
reply_fixed (reply.Code c) = refl
reply_fixed (reply.Got m) = refl
reply_fixed reply.NotYet = refl
reply_fixed reply.Done = refl
reply_fixed (reply.Seen e) = refl
reply_fixed (reply.Held n e) = refl
reply_fixed (reply.AllGot gots) = refl
reply_fixed (reply.Link link) = refl
reply_fixed (reply.Cut parts size) = refl

-- the replies are the same, and the hubs are alike
exchange_alike : (wild : Wild) (h : HubView) (r : ℕ) (q : Request) (s : ℕ) (p : Request)
    → (outcome h r q).0 ≡ (outcome (outcome h s p).1 r q).0
    → (outcome (outcome h r q).1 s p).0 ≡ (outcome h s p).0
    → AlikeHubs wild no_renaming (behind h s p r q) (behind h r q s p)
    → MayExchange wild h r q s p
exchange_alike wild h r q s p mine theirs alike = record {
  names = no_renaming;
  old = λ place below. refl;
  told = record { mine = mine ∙ sym (reply_fixed _); theirs = theirs ∙ sym (reply_fixed _) };
  hubs = alike;
}

-- or the hub is the same
exchange_of : (wild : Wild) (h : HubView) (r : ℕ) (q : Request) (s : ℕ) (p : Request)
    → (outcome h r q).0 ≡ (outcome (outcome h s p).1 r q).0
    → (outcome (outcome h r q).1 s p).0 ≡ (outcome h s p).0
    → behind h s p r q ≡ behind h r q s p
    → MayExchange wild h r q s p
exchange_of wild h r q s p mine theirs hubs =
    exchange_alike wild h r q s p mine theirs
    (subst (λ k. AlikeHubs wild no_renaming (behind h s p r q) k) hubs (hub_itself (behind h s p r q)))

-- hubs are alike that differ in the order of sides alone
other_order : (wild : Wild) (h : HubView) (ss ts : List Side) → SameSides ss ts
    → AlikeHubs wild no_renaming (with_sides h ss) (with_sides h ts)
other_order wild h ss ts same = record {
  links = refl;
  board = (hub_itself {wild = wild} h).board;
  claims = refl;
  sides = same.sides;
  reserved = same.reserved;
  senders = same.senders;
}

module _ (wild : Wild) (c : Cluster) (r s : ℕ) (q p : Request) (apart : r ≢ s) (few : length (hub_of c.journal).board.lines < 65536) where
  abbrev h : HubView
  h = hub_of c.journal

  laid : Laid h
  laid = laid_after c.journal.links (calls_of c.journal.entries)

  -- what is there stays there
  pub of_ready : Laid (outcome h r q).1 → IsReady p (outcome h s p).0 → MayExchange wild h r q s p
  of_ready laid_then ready =
      let k = exchanged s r (λ e. apart e) q h p laid laid_then few (ready_from h s p ready) in
      exchange_of wild h r q s p (sym (ap (λ (o : Reply × HubView). o.0) k.call)) k.reply
      (ap (λ (o : Reply × HubView). o.1) k.call)

  -- partitioned transfers have nothing to do with all else, whichever is first
  pub of_transfers : IsOther q → IsTransfer p → MayExchange wild h r q s p
  of_transfers other is =
      let k = both_ways h r s q p other is in
      exchange_of wild h r q s p k.mine k.theirs k.hubs

  pub of_other : IsTransfer q → IsOther p → MayExchange wild h r q s p
  of_other is other =
      let k = both_ways h s r p q other is in
      exchange_of wild h r q s p (sym k.theirs) (sym k.mine) (sym k.hubs)

  pub of_refused : IsPosting q → IsRefused h s p → MayExchange wild h r q s p
  of_refused posts is =
      let k = refused_law c.journal.links (calls_of c.journal.entries) r s q p apart posts few is in
      exchange_of wild h r q s p (ap (λ (o : Reply × HubView). (outcome o.1 r q).0) (sym k.0))
      (ap (λ (o : Reply × HubView). o.0) k.1 ∙ sym (ap (λ (o : Reply × HubView). o.0) k.0))
      (ap (λ (o : Reply × HubView). (outcome o.1 r q).1) k.0 ∙ sym (ap (λ (o : Reply × HubView). o.1) k.1))

  -- what isn't there isn't there either way
  pub of_vain : IsPosting q → IsLook p → BringsNothing q s p → (outcome h s p).0 ≡ reply.NotYet → MayExchange wild h r q s p
  of_vain posts look nothing is =
      let k = vain_look_law c.journal.links (calls_of c.journal.entries) r s q p apart posts look nothing is in
      exchange_of wild h r q s p (ap (λ (o : Reply × HubView). (outcome o.1 r q).0) (sym k.0))
      (ap (λ (o : Reply × HubView). o.0) k.1 ∙ sym (ap (λ (o : Reply × HubView). o.0) k.0))
      (ap (λ (o : Reply × HubView). (outcome o.1 r q).1) k.0 ∙ sym (ap (λ (o : Reply × HubView). o.1) k.1))

-- ---- initialisations

pub is_not_yet : (o : Reply) → (o ≡ reply.NotYet) ⊎ (o ≢ reply.NotYet)
is_not_yet reply.NotYet = inl refl
is_not_yet _ = inr (λ e. absurd (cc))

module _ (wild : Wild) (c : Cluster) (r s : ℕ) (sends : Bool) (comm peer tag parts size : ℕ) where
  abbrev hub : HubView
  hub = hub_of c.journal

  abbrev mine : Request
  mine = request.Init sends comm peer tag parts size

  -- how a sender cut its transfer isn't made known by a receiver, and stays known
  pub of_cut : (link : ℕ) → (sends ≡ false) ⊎ ((outcome hub s (request.Cut link)).0 ≢ reply.NotYet)
      → MayExchange wild hub r mine s (request.Cut link)
  of_cut link why =
      let left = asks_cut hub s link in
      exchange_of wild hub r mine s (request.Cut link) (ap (λ k. (outcome k r mine).0) (sym left))
      (cut_kept hub r sends comm peer tag parts size s link why)
      (ap (λ k. (outcome k r mine).1) left ∙ sym (asks_cut (outcome hub r mine).1 s link))

  -- two that take the links of two pairs of ranks, or begin the two sides of one transfer
  pub of_two : (gives : Bool) (other whom label cuts each : ℕ) → r ≢ s
      → (AreEnds r sends peer s gives whom → (comm ≡ other) × (tag ≡ label) × (parts * size ≡ cuts * each))
      → MayExchange wild hub r mine s (request.Init gives other whom label cuts each)
  of_two gives other whom label cuts each apart may =
      let its : Request = request.Init gives other whom label cuts each in
      let k = both_begin c.journal.links (calls_of c.journal.entries) r s apart sends comm peer tag parts size gives other
      whom label cuts each may in
      exchange_alike wild hub r mine s its k.mine_told k.its_told
      (subst (λ z. AlikeHubs wild no_renaming z (behind hub r mine s its)) (sym k.its_first)
      (subst (λ z. AlikeHubs wild no_renaming (with_sides hub k.sides) z) (sym k.mine_first)
      (other_order wild hub k.sides k.others k.same)))

-- ---- polls that a send or a receive brings nothing, of the very calls

pub no_collect : (q : Request) (s n : ℕ) → IsPosting q → BringsNothing q s (request.Collect 0)
    → BringsNothing q s (request.Collect n)
no_collect (request.Send sync comm dest tag bytes) s n is may = may
no_collect (request.Recv now comm source tag) s n is may = tt
no_collect _ s n is may = absurd is

pub no_probe : (q : Request) (s comm : ℕ) (source tag : Option ℕ) → IsPosting q → BringsNothing q s (request.Collect 0)
    → BringsNothing q s (request.Probe comm source tag)
no_probe (request.Send sync k dest t bytes) s comm source tag is may = may
no_probe (request.Recv now k from t) s comm source tag is may = tt
no_probe _ s comm source tag is may = absurd is

pub no_finish : (q : Request) (s n : ℕ) → IsPosting q → BringsNothing q s (request.Finished 0)
    → BringsNothing q s (request.Finished n)
no_finish (request.Send sync comm dest tag bytes) s n is may = may
no_finish (request.Recv now comm source tag) s n is may = absurd may
no_finish _ s n is may = absurd is

pub no_several : (q : Request) (s : ℕ) (ns : List ℕ) → IsPosting q → BringsNothing q s (request.Finished 0)
    → BringsNothing q s (request.All ns)
no_several (request.Send sync comm dest tag bytes) s ns is may = may
no_several (request.Recv now comm source tag) s ns is may = absurd may
no_several _ s ns is may = absurd is
