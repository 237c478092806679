-- What the hub tells of a post, where two hubs are alike: the same of the post that corresponds.
use Rattle.std.proofs.Common.{◌≡◌, ℕ, zero, suc, ◌+◌, inl, inr, List, [], ◌∷◌, map, Bool, true, false, cond, not, Option, Some, None, refl, sym, ap, ◌∙◌, subst, arith}
use Rattle.std.specs.Prelude.{◌&&◌, ◌||◌, ◌==◌}
use Rattle.std.specs.List.{list_all, list_any, slice_get}
use Rattle.std.specs.Option.{is_some, option_map}
use Rattle.std.proofs.lemmas.Bool.{and_parts, cases_Bool, eq-eqb, eqb-false, eqb-true, false_from_ne_true, ne_eqb}
use Rattle.mp_types.specs.declared.messages.Envelope.{Envelope}
use Rattle.mp_match.specs.declared.posts.Line.{Line}
use Rattle.mp_match.specs.declared.posts.Post.{Post}
use Rattle.mp_match.specs.declared.posts.Post.TheVariants.{Send, Receive, Claim}
use Rattle.mp_match.specs.Board.{Board, claim_at, claim_in, claim_of, envelope_at, envelope_in, is_collected, is_finished, is_gone, is_held, is_receive, is_receive_at, is_receive_of, is_send_of, is_standard, line_of, message_at, message_in, partner_of}
use Rattle.mp_match.specs.Pairs.{partner_of_line}
use Rattle.mp_probe.specs.Claims.{is_waiting}
use Rattle.mp_hub.specs.Hub.{HubView, are_distinct, is_complete, is_known, is_ready, may_collect, was_received}
use Rattle.mp_wait_laws.proofs.Owned.{AreOwned, somebody's}
use Rattle.mp_alike_laws.specs.Renaming.{Renaming, line_by, number_by}
use Rattle.mp_source_laws.specs.Alike.{AlikeBoards, AlikeHubs, IsAlikeAt, IsOverReceive, IsOverSend, IsSameAt, Wild, is_same, over_receives, over_sends}
use Rattle.mp_source_laws.specs.Laws.{IsNoOverSend}

module _ (names : Renaming) where
  sends_by : (rank : ℕ) (o : Option Line) → is_send_of rank (option_map (line_by names) o) ≡ is_send_of rank o
  sends_by rank None = refl
  sends_by rank (Some line) = refl

  receives_by : (rank : ℕ) (o : Option Line)
      → is_receive_of rank (option_map (line_by names) o) ≡ is_receive_of rank o
  receives_by rank None = refl
  receives_by rank (Some line) = refl

  standard_by : (o : Option Line) → is_standard (option_map (line_by names) o) ≡ is_standard o
  standard_by None = refl
  standard_by (Some line) = refl

  receive_by : (o : Option Line) → is_receive (option_map (line_by names) o) ≡ is_receive o
  receive_by None = refl
  receive_by (Some line) = refl

  envelope_by : (o : Option Line) → envelope_in (option_map (line_by names) o) ≡ envelope_in o
  envelope_by None = refl
  envelope_by (Some line) = refl

  partner_by : (o : Option Line) → partner_of_line (option_map (line_by names) o) ≡ option_map names.to (partner_of_line o)
  partner_by None = refl
  partner_by (Some line) = refl

  pub some_by : (o : Option ℕ) → is_some (option_map names.to o) ≡ is_some o
  some_by None = refl
  some_by (Some p) = refl

-- the post of this number is the same in both; 0 is no post's number
abbrev pub IsSame : Renaming → Board → Board → ℕ → Type 0
IsSame names a b zero = Unit {0}
IsSame names a b (suc place) = IsSameAt names a b place

abbrev pub AreSame : Renaming → Board → Board → List ℕ → Type 0
AreSame names a b [] = Unit {0}
AreSame names a b (n ∷ ns) = IsSame names a b n × AreSame names a b ns

-- ---- a post that is over

module _ (b : Board) where
  pub over_sends_no_receive : (rank place : ℕ) → IsOverSend b place → is_receive_of rank (line_of b (suc place)) ≡ false
  over_sends_no_receive rank place o = ap (is_receive_of rank) o.there

  pub over_receives_no_send : (rank place : ℕ) → IsOverReceive b place → is_send_of rank (line_of b (suc place)) ≡ false
  over_receives_no_send rank place o = ap (is_send_of rank) o.there

  pub over_is_collected : (place : ℕ) → IsOverReceive b place → is_collected b (suc place) ≡ true
  over_is_collected place o = ap (λ (l : Option Line). is_gone b (partner_of_line l)) o.there ∙ ap (λ x. not (is_held x)) o.gone

  pub over_has_partner : (place : ℕ) → IsOverReceive b place → is_some (partner_of b (suc place)) ≡ true
  over_has_partner place o = ap (λ (l : Option Line). is_some (partner_of_line l)) o.there

module _ {wild : Wild} (names : Renaming) (a b : Board) (alike : AlikeBoards wild names a b) where
  pub line_named : (n : ℕ) → IsSame names a b n → line_of b (number_by names n) ≡ option_map (line_by names) (line_of a n)
  line_named zero same = refl
  line_named (suc place) same = same

  pub send_same : (rank n : ℕ) → IsSame names a b n
      → is_send_of rank (line_of b (number_by names n)) ≡ is_send_of rank (line_of a n)
  send_same rank n same = ap (is_send_of rank) (line_named n same) ∙ sends_by names rank (line_of a n)

  pub send_named : (rank n : ℕ) → IsNoOverSend a n
      → is_send_of rank (line_of b (number_by names n)) ≡ is_send_of rank (line_of a n)
  send_named rank zero live = refl
  send_named rank (suc place) live = go (alike.lines place)
    where
      go : IsAlikeAt names a b place
          → is_send_of rank (line_of b (suc (names.to place))) ≡ is_send_of rank (line_of a (suc place))
      go (is_same same) = send_same rank (suc place) same
      go (over_sends mine theirs) = absurd (live mine)
      go (over_receives mine theirs) =
          over_receives_no_send b rank (names.to place) theirs ∙ sym (over_receives_no_send a rank place mine)

  -- a send of a rank that isn't over is the same in both
  pub sent_same : (rank n : ℕ) → IsNoOverSend a n → is_send_of rank (line_of a n) ≡ true → IsSame names a b n
  sent_same rank zero live sends = tt
  sent_same rank (suc place) live sends = go (alike.lines place)
    where
      go : IsAlikeAt names a b place → IsSameAt names a b place
      go (is_same same) = same
      go (over_sends mine theirs) = absurd (live mine)
      go (over_receives mine theirs) = (let no = over_receives_no_send a rank place mine in absurd (cc))

  pub receive_named : (rank n : ℕ) → IsSame names a b n
      → is_receive_of rank (line_of b (number_by names n)) ≡ is_receive_of rank (line_of a n)
  receive_named rank n same = ap (is_receive_of rank) (line_named n same) ∙ receives_by names rank (line_of a n)

  pub partner_named : (n : ℕ) → IsSame names a b n → partner_of b (number_by names n) ≡ option_map names.to (partner_of a n)
  partner_named zero same = refl
  partner_named (suc place) same = ap partner_of_line same ∙ partner_by names (slice_get a.lines place)

  pub envelope_same : (place : ℕ) → IsSameAt names a b place → envelope_at b (Some (names.to place)) ≡ envelope_at a (Some place)
  envelope_same place same = ap envelope_in same ∙ envelope_by names (slice_get a.lines place)

  no_message : (o : Option Envelope) → message_in o (Some None) ≡ None
  no_message None = refl
  no_message (Some envelope) = refl

  no_envelope : (o : Option (Option (List ℕ))) → message_in None o ≡ None
  no_envelope None = refl
  no_envelope (Some None) = refl
  no_envelope (Some (Some bytes)) = refl

  pub message_named : (place : ℕ) → message_at b (names.to place) ≡ message_at a place
  message_named place = go (alike.lines place)
    where
      -- a message that was collected isn't there
      gone : (c : Board) (i : ℕ) → slice_get c.bodies i ≡ Some None → message_at c i ≡ None
      gone c i none = ap (message_in (envelope_at c (Some i))) none ∙ no_message (envelope_at c (Some i))

      -- a receive has none
      none : (c : Board) (i : ℕ) → IsOverReceive c i → message_at c i ≡ None
      none c i o =
          ap (λ (l : Option Line). message_in (envelope_in l) (slice_get c.bodies i)) o.there
          ∙ no_envelope (slice_get c.bodies i)

      go : IsAlikeAt names a b place → message_at b (names.to place) ≡ message_at a place
      go (is_same same) =
          ap (λ e. message_in e (slice_get b.bodies (names.to place))) (envelope_same place same)
          ∙ ap (message_in (envelope_at a (Some place))) (alike.bodies place)
      go (over_sends mine theirs) = gone b (names.to place) theirs.gone ∙ sym (gone a place mine.gone)
      go (over_receives mine theirs) = none b (names.to place) theirs ∙ sym (none a place mine)

  gone_named : (o : Option ℕ) → is_gone b (option_map names.to o) ≡ is_gone a o
  gone_named None = refl
  gone_named (Some p) = ap (λ x. not (is_held x)) (alike.bodies p)

  pub collected_named : (n : ℕ) → IsSame names a b n → is_collected b (number_by names n) ≡ is_collected a n
  collected_named n same = ap (is_gone b) (partner_named n same) ∙ gone_named (partner_of a n)

  received_named : (o : Option ℕ) → is_receive_at b (option_map names.to o) ≡ is_receive_at a o
  received_named None = refl
  received_named (Some p) = go (alike.lines p)
    where
      go : IsAlikeAt names a b p → is_receive_at b (Some (names.to p)) ≡ is_receive_at a (Some p)
      go (is_same same) = ap is_receive same ∙ receive_by names (slice_get a.lines p)
      go (over_sends mine theirs) = ap is_receive theirs.there ∙ sym (ap is_receive mine.there)
      go (over_receives mine theirs) = ap is_receive theirs.there ∙ sym (ap is_receive mine.there)

  pub finished_named : (n : ℕ) → IsSame names a b n → is_finished b (number_by names n) ≡ is_finished a n
  finished_named n same =
      ap (λ x. is_standard x || is_receive_at b (partner_of b (number_by names n))) (line_named n same)
      ∙ ap (λ x. x || is_receive_at b (partner_of b (number_by names n))) (standard_by names (line_of a n))
      ∙ ap (λ x. is_standard (line_of a n) || x)
      (ap (is_receive_at b) (partner_named n same) ∙ received_named (partner_of a n))

  -- the claim that has a message has the same number in both
  claims_named : (o : Option ℕ) → claim_at b (option_map names.to o) ≡ claim_at a o
  claims_named None = refl
  claims_named (Some p) = one (alike.lines p)
    where
      go : (o : Option Line) → slice_get a.lines p ≡ o
          → claim_in (names.to p) (option_map (line_by names) o) ≡ claim_in p o
      go None e = refl
      go (Some line) e = by line.post refl
        where
          by : (q : Post) → line.post ≡ q
              → claim_in (names.to p) (Some (line_by names line)) ≡ claim_in p (Some line)
          by (Send s) is =
              subst (λ (x : Post). (let m : Line = record { post = x; partner = option_map names.to line.partner } in
              let n : Line = record { post = x; partner = line.partner } in
              claim_in (names.to p) (Some m) ≡ claim_in p (Some n))) (sym is) refl
          by (Receive c) is =
              subst (λ (x : Post). (let m : Line = record { post = x; partner = option_map names.to line.partner } in
              let n : Line = record { post = x; partner = line.partner } in
              claim_in (names.to p) (Some m) ≡ claim_in p (Some n))) (sym is) refl
          by (Claim c) is = ap (λ k. claim_in k (Some line)) (alike.claims p line c e is)

      one : IsAlikeAt names a b p → claim_at b (Some (names.to p)) ≡ claim_at a (Some p)
      one (is_same same) = ap (claim_in (names.to p)) same ∙ go (slice_get a.lines p) refl
      one (over_sends mine theirs) = ap (claim_in (names.to p)) theirs.there ∙ sym (ap (claim_in p) mine.there)
      one (over_receives mine theirs) = ap (claim_in (names.to p)) theirs.there ∙ sym (ap (claim_in p) mine.there)

  pub claim_named : (n : ℕ) → IsSame names a b n → claim_of b (number_by names n) ≡ claim_of a n
  claim_named n same = ap (claim_at b) (partner_named n same) ∙ claims_named (partner_of a n)

-- ---- two hubs

module _ {wild : Wild} (names : Renaming) (h k : HubView) (alike : AlikeHubs wild names h k) (owned : AreOwned h) where
  one_more : (n : ℕ) → n + 1 ≡ suc n
  one_more n = omega arith

  -- a message that waits under a number was claimed under it, and so has the same number in both
  pub kept : (n : ℕ) → is_waiting h.claims n ≡ true → number_by names n ≡ n
  kept n waits =
      let s = somebody's h.claims n waits in
      let c = owned s.0 n s.1 in
      let place : n ≡ suc c.place = c.numbered ∙ one_more c.place in
      ap (number_by names) place
      ∙ ap suc ((alike.board).claims c.place c.line c.what c.here c.claims) ∙ sym place

  back_number : (n m : ℕ) → number_by names n ≡ number_by names m → n ≡ m
  back_number zero zero e = refl
  back_number zero (suc m) e = absurd (omega (arith, e))
  back_number (suc n) zero e = absurd (omega (arith, e))
  back_number (suc n) (suc m) e =
      let f : names.to n ≡ names.to m = omega (arith, e) in
      ap suc (sym (names.there n) ∙ ap names.back f ∙ names.there m)

  pub waiting_named : (n : ℕ) → is_waiting k.claims (number_by names n) ≡ is_waiting h.claims n
  waiting_named n = ap (λ ws. is_waiting ws (number_by names n)) alike.claims ∙ go
    where
      go : is_waiting h.claims (number_by names n) ≡ is_waiting h.claims n
      go = elim (cases_Bool (is_waiting h.claims n)) [
        | inl waits ↦ ap (is_waiting h.claims) (kept n waits)
        | inr none ↦
            false_from_ne_true (is_waiting h.claims (number_by names n)) (λ waits.
            let same : number_by names n ≡ n = back_number (number_by names n) n (kept (number_by names n) waits) in
            let also : is_waiting h.claims n ≡ true = subst (λ m. is_waiting h.claims m ≡ true) same waits in
            absurd (cc))
            ∙ sym none
      ]

  was_named : (o : Option ℕ) → was_received k o ≡ was_received h o
  was_named None = refl
  was_named (Some claim) = ap (λ ws. not (is_waiting ws claim)) alike.claims

  abbrev pub Same : ℕ → Type 0
  Same n = IsSame names h.board k.board n

  pub complete_named : (n : ℕ) → Same n → is_complete k (number_by names n) ≡ is_complete h n
  complete_named n same =
      ap (λ x. x || was_received k (claim_of k.board (number_by names n)))
      (finished_named names h.board k.board alike.board n same)
      ∙ ap (λ x. is_finished h.board n || x)
      (ap (was_received k) (claim_named names h.board k.board alike.board n same) ∙ was_named (claim_of h.board n))

  -- ---- what may be collected

  not_now : (x y : Bool) → (x && y && not true) ≡ false
  not_now true true = refl
  not_now true false = refl
  not_now false y = refl

  -- neither a send that is over nor a receive that is
  no_send : (g : HubView) (rank place : ℕ) → IsOverSend g.board place → may_collect g rank (suc place) ≡ false
  no_send g rank place o =
      ap (λ x. x && not (is_waiting g.claims (suc place)) && not (is_collected g.board (suc place)))
      (over_sends_no_receive g.board rank place o)

  no_receive : (g : HubView) (rank place : ℕ) → IsOverReceive g.board place → may_collect g rank (suc place) ≡ false
  no_receive g rank place o =
      ap (λ x. is_receive_of rank (line_of g.board (suc place)) && not (is_waiting g.claims (suc place)) && not x)
      (over_is_collected g.board place o)
      ∙ not_now (is_receive_of rank (line_of g.board (suc place))) (not (is_waiting g.claims (suc place)))

  -- so what may be collected is the same in both
  pub collects_same : (rank n : ℕ) → may_collect h rank n ≡ true → Same n
  collects_same rank zero may = tt
  collects_same rank (suc place) may = go ((alike.board).lines place)
    where
      go : IsAlikeAt names h.board k.board place → IsSameAt names h.board k.board place
      go (is_same same) = same
      go (over_sends mine theirs) = (let no = no_send h rank place mine in absurd (cc))
      go (over_receives mine theirs) = (let no = no_receive h rank place mine in absurd (cc))

  may_same : (rank n : ℕ) → Same n → may_collect k rank (number_by names n) ≡ may_collect h rank n
  may_same rank n same =
      let r = receive_named names h.board k.board alike.board rank n same in
      let w = waiting_named n in
      let c = collected_named names h.board k.board alike.board n same in
      ap (λ x. x && not (is_waiting k.claims (number_by names n)) && not (is_collected k.board (number_by names n))) r
      ∙ ap (λ x. is_receive_of rank (line_of h.board n) && not x && not (is_collected k.board (number_by names n))) w
      ∙ ap (λ x. is_receive_of rank (line_of h.board n) && not (is_waiting h.claims n) && not x) c

  pub may_named : (rank n : ℕ) → may_collect k rank (number_by names n) ≡ may_collect h rank n
  may_named rank zero = may_same rank zero tt
  may_named rank (suc place) = go ((alike.board).lines place)
    where
      go : IsAlikeAt names h.board k.board place
          → may_collect k rank (suc (names.to place)) ≡ may_collect h rank (suc place)
      go (is_same same) = may_same rank (suc place) same
      go (over_sends mine theirs) = no_send k rank (names.to place) theirs ∙ sym (no_send h rank place mine)
      go (over_receives mine theirs) = no_receive k rank (names.to place) theirs ∙ sym (no_receive h rank place mine)

  -- ---- several posts, of which none is a send that is over

  abbrev pub Live : ℕ → Type 0
  Live n = IsNoOverSend h.board n

  abbrev pub AllLive : List ℕ → Type 0
  AllLive ns = (i n : ℕ) → slice_get ns i ≡ Some n → Live n

  pub known_named : (rank n : ℕ) → Live n → is_known k rank (number_by names n) ≡ is_known h rank n
  known_named rank n live =
      ap (λ x. x || is_send_of rank (line_of k.board (number_by names n))) (may_named rank n)
      ∙ ap (λ x. may_collect h rank n || x) (send_named names h.board k.board alike.board rank n live)

  -- what a rank may ask after is the same in both
  pub known_same : (rank n : ℕ) → Live n → is_known h rank n ≡ true → Same n
  known_same rank n live known = go (may_collect h rank n) refl
    where
      go : (x : Bool) → may_collect h rank n ≡ x → Same n
      go true may = collects_same rank n may
      go false may =
          sent_same names h.board k.board alike.board rank n live
          (sym (ap (λ x. x || is_send_of rank (line_of h.board n)) may) ∙ known)

  ready_same : (rank n : ℕ) → Same n → is_ready k rank (number_by names n) ≡ is_ready h rank n
  ready_same rank n same =
      ap (λ x. cond x (is_complete k (number_by names n)) (is_some (partner_of k.board (number_by names n))))
      (send_same names h.board k.board alike.board rank n same)
      ∙ ap (λ x. cond (is_send_of rank (line_of h.board n)) x (is_some (partner_of k.board (number_by names n))))
      (complete_named n same)
      ∙ ap (λ x. cond (is_send_of rank (line_of h.board n)) (is_complete h n) x)
      (ap is_some (partner_named names h.board k.board alike.board n same) ∙ some_by names (partner_of h.board n))

  pub ready_named : (rank n : ℕ) → Live n → is_ready k rank (number_by names n) ≡ is_ready h rank n
  ready_named rank zero live = ready_same rank zero tt
  ready_named rank (suc place) live = go ((alike.board).lines place)
    where
      over : (g : HubView) (i : ℕ) → IsOverReceive g.board i → is_ready g rank (suc i) ≡ true
      over g i o =
          ap (λ x. cond x (is_complete g (suc i)) (is_some (partner_of g.board (suc i))))
          (over_receives_no_send g.board rank i o)
          ∙ over_has_partner g.board i o

      go : IsAlikeAt names h.board k.board place → is_ready k rank (suc (names.to place)) ≡ is_ready h rank (suc place)
      go (is_same same) = ready_same rank (suc place) same
      go (over_sends mine theirs) = absurd (live mine)
      go (over_receives mine theirs) = over k (names.to place) theirs ∙ sym (over h place mine)

  pub all_known_named : (rank : ℕ) (ns : List ℕ) → AllLive ns
      → list_all (λ n. is_known k rank n) (map (number_by names) ns) ≡ list_all (λ n. is_known h rank n) ns
  all_known_named rank [] live = refl
  all_known_named rank (n ∷ ns) live =
      ap (λ x. x && list_all (λ m. is_known k rank m) (map (number_by names) ns)) (known_named rank n (live 0 n refl))
      ∙ ap (λ x. is_known h rank n && x) (all_known_named rank ns (λ i. live (suc i)))

  pub all_known_same : (rank : ℕ) (ns : List ℕ) → AllLive ns → list_all (λ n. is_known h rank n) ns ≡ true
      → AreSame names h.board k.board ns
  all_known_same rank [] live known = tt
  all_known_same rank (n ∷ ns) live known =
      let both = and_parts (is_known h rank n) (list_all (λ m. is_known h rank m) ns) known in
      (known_same rank n (live 0 n refl) both.0, all_known_same rank ns (λ i. live (suc i)) both.1)

  pub all_ready_named : (rank : ℕ) (ns : List ℕ) → AllLive ns
      → list_all (λ n. is_ready k rank n) (map (number_by names) ns) ≡ list_all (λ n. is_ready h rank n) ns
  all_ready_named rank [] live = refl
  all_ready_named rank (n ∷ ns) live =
      ap (λ x. x && list_all (λ m. is_ready k rank m) (map (number_by names) ns)) (ready_named rank n (live 0 n refl))
      ∙ ap (λ x. is_ready h rank n && x) (all_ready_named rank ns (λ i. live (suc i)))

  same_named : (m n : ℕ) → (number_by names m == number_by names n) ≡ (m == n)
  same_named m n = elim (cases_Bool (m == n)) [
    | inl same ↦ eq-eqb (number_by names m) (number_by names n) (ap (number_by names) (eqb-true m n same)) ∙ sym same
    | inr other ↦
        ne_eqb (number_by names m) (number_by names n) (λ e. eqb-false m n other (back_number m n e)) ∙ sym other
  ]

  any_named : (n : ℕ) (ns : List ℕ)
      → list_any (λ m. m == number_by names n) (map (number_by names) ns) ≡ list_any (λ m. m == n) ns
  any_named n [] = refl
  any_named n (m ∷ ns) =
      ap (λ x. x || list_any (λ m. m == number_by names n) (map (number_by names) ns)) (same_named m n)
      ∙ ap (λ x. (m == n) || x) (any_named n ns)

  pub distinct_named : (ns : List ℕ) → are_distinct (map (number_by names) ns) ≡ are_distinct ns
  distinct_named [] = refl
  distinct_named (n ∷ ns) =
      ap (λ x. not x && are_distinct (map (number_by names) ns)) (any_named n ns)
      ∙ ap (λ x. not (list_any (λ m. m == n) ns) && x) (distinct_named ns)
