-- Which posts ranks may name: those that were made. And which they may await: those of them that are no standard sends.
use Rattle.std.proofs.Common.{◌≡◌, ◌∙◌, ℕ, zero, suc, ◌<◌, ◌⊎◌, inl, inr, refl, sym, ap, true, false, not, List, length, Option, Some, None}
use Rattle.std.specs.Prelude.{◌&&◌}
use Rattle.std.specs.List.{slice_get}
use Rattle.std.specs.Option.{is_some}
use Rattle.std.proofs.lemmas.Bool.{and_parts, cases_eq}
use Rattle.std.proofs.lemmas.Option.{same_Some}
use Rattle.mp_types.specs.declared.replies.Reply.TheVariants as reply
use Rattle.mp_types.specs.declared.requests.Request.{Request}
use Rattle.mp_types.specs.declared.requests.Request.TheVariants as request
use Rattle.mp_match.specs.declared.posts.Line.{Line}
use Rattle.mp_match.specs.declared.posts.Post.{Post}
use Rattle.mp_match.specs.declared.posts.Post.TheVariants as post
use Rattle.mp_match.specs.Board.{Board, is_standard}
use Rattle.mp_match.specs.Pairs.{add, partner_for}
use Rattle.mp_match.proofs.Lines.{add_given, add_new, add_old, given}
use Rattle.mp_match.proofs.Places.{get_within}
use Rattle.mp_source_laws.specs.Laws.{AsksOfLive, IsNoOverSend}
use Rattle.cl_first_laws.specs.Below.{AsksOnly, IsNamed, NamesBelow, TellsOnly}
use Rattle.cl_first_laws.proofs.Below.{awaits_only, forgets, names_only}
use Rattle.cl_state.specs.declared.asking.Answer.{Answer}
use Rattle.cl_state.specs.declared.asking.Answer.TheVariants as answer
use Rattle.cl_state.specs.declared.asking.Ask.TheVariants as ask
use Rattle.cl_state.specs.Asked.{asked}
use Rattle.cl_state.specs.Rank.{Rank}
use Rattle.cl_state.specs.Told.{told}
use Rattle.cl_reduction_laws.specs.Clusters.{NamesRightly, may_be_awaited, was_made}

-- ---- posts that were made, and those that may be awaited

pub made_inside : (lines : List Line) (place : ℕ) → was_made lines place ≡ true → place < length lines
made_inside lines place made = go (slice_get lines place) refl
  where
    go : (o : Option Line) → slice_get lines place ≡ o → place < length lines
    go None e = (let no = ap is_some e in absurd (cc))
    go (Some line) e = get_within lines place line e

pub awaited_made : (lines : List Line) (place : ℕ) → may_be_awaited lines place ≡ true → was_made lines place ≡ true
awaited_made lines place awaited = (and_parts (was_made lines place) _ awaited).0

pub awaited_inside : (lines : List Line) (place : ℕ) → may_be_awaited lines place ≡ true → place < length lines
awaited_inside lines place awaited = made_inside lines place (awaited_made lines place awaited)

pub awaited_line : (lines : List Line) (place : ℕ) (line : Line) → slice_get lines place ≡ Some line
    → may_be_awaited lines place ≡ not (is_standard (Some line))
awaited_line lines place line here = ap (λ o. is_some o && not (is_standard o)) here

-- ---- one post more

-- what was made or awaited stays so
pub record Grows (lines more : List Line) : Type 0 where
  pub made : (place : ℕ) → was_made lines place ≡ true → was_made more place ≡ true
  pub awaited : (place : ℕ) → may_be_awaited lines place ≡ true → may_be_awaited more place ≡ true

pub grows_same : (lines more : List Line) → more ≡ lines → Grows lines more
grows_same lines more same = record {
  made = λ place is. ap (λ ms. was_made ms place) same ∙ is;
  awaited = λ place is. ap (λ ms. may_be_awaited ms place) same ∙ is;
}

module _ (lines : List Line) (p : Post) where
  -- the line is as it was, or got the new post for a partner
  after : (place : ℕ) (line : Line) → slice_get lines place ≡ Some line
      → (other : Line) × (slice_get (add lines p) place ≡ Some other) × (is_standard (Some other) ≡ is_standard (Some line))
  after place line here = elim (is_partner (partner_for lines p)) [
    | inl is ↦ (given line (length lines), add_given lines p place line here is, refl)
    | inr not_it ↦ (line, add_old lines p place line here not_it, refl)
  ]
    where
      is_partner : (o : Option ℕ) → (o ≡ Some place) ⊎ (o ≡ Some place → ⊥)
      is_partner None = inr (λ e. absurd (cc))
      is_partner (Some k) = elim (cases_eq k place) [
        | inl same ↦ inl (ap (λ z. Some z) same)
        | inr other ↦ inr (λ e. other (same_Some k place e))
      ]

  made_added : (place : ℕ) → was_made lines place ≡ true → was_made (add lines p) place ≡ true
  made_added place made = go (slice_get lines place) refl
    where
      go : (o : Option Line) → slice_get lines place ≡ o → was_made (add lines p) place ≡ true
      go None e = (let no = ap is_some e in absurd (cc))
      go (Some line) e = (let a = after place line e in ap is_some a.1)

  awaited_added : (place : ℕ) → may_be_awaited lines place ≡ true → may_be_awaited (add lines p) place ≡ true
  awaited_added place awaited = go (slice_get lines place) refl
    where
      go : (o : Option Line) → slice_get lines place ≡ o → may_be_awaited (add lines p) place ≡ true
      go None e = (let no = ap is_some e in let made = awaited_made lines place awaited in absurd (cc))
      go (Some line) e =
          let a = after place line e in
          awaited_line (add lines p) place a.0 a.1 ∙ ap not a.2 ∙ sym (awaited_line lines place line e) ∙ awaited

  pub grows_added : Grows lines (add lines p)
  grows_added = record { made = made_added; awaited = awaited_added }

  -- the new one was made, and may be awaited if it is no standard send
  pub made_new : was_made (add lines p) (length lines) ≡ true
  made_new = ap is_some (add_new lines p)

  pub awaited_new : is_standard (Some (record { post = p; partner = None })) ≡ false
      → may_be_awaited (add lines p) (length lines) ≡ true
  awaited_new sync = awaited_line (add lines p) (length lines) _ (add_new lines p) ∙ ap not sync

-- ---- ranks

pub below_if_right : (lines : List Line) (rank : Rank) → NamesRightly lines rank → NamesBelow (length lines) rank
below_if_right lines rank right names fixed =
    right.names names (λ place made. fixed place (made_inside lines place made))

pub rightly_more : (lines more : List Line) (rank : Rank) → Grows lines more → NamesRightly lines rank
    → NamesRightly more rank
rightly_more lines more rank grows right = record {
  names = λ names keeps. right.names names (λ place is. keeps place (grows.made place is));
  awaits = λ names keeps. right.awaits names (λ place is. keeps place (grows.awaited place is));
}

tells_made : (lines : List Line) (a : Answer) → TellsOnly (may_be_awaited lines) a → TellsOnly (was_made lines) a
tells_made lines (answer.Reply (reply.Posted n done)) tells = named n tells
  where
    named : (n : ℕ) → IsNamed (may_be_awaited lines) n → IsNamed (was_made lines) n
    named zero is = tt
    named (suc place) is = awaited_made lines place is
tells_made lines _ tells = tt

-- a rank that is told of posts that may be awaited
pub rightly_told : (lines more : List Line) (rank : Rank) (hart : ℕ) (a : Answer) (stamp : ℕ) → Grows lines more
    → NamesRightly lines rank → TellsOnly (may_be_awaited more) a → NamesRightly more (told rank hart a stamp)
rightly_told lines more rank hart a stamp grows right tells = record {
  names = names_only (was_made lines) (was_made more) rank hart a stamp grows.made right.names (tells_made more a tells);
  awaits = awaits_only (may_be_awaited lines) (may_be_awaited more) rank hart a stamp grows.awaited right.awaits tells;
}

-- and one that is told of its standard send
pub rightly_sent : (lines more : List Line) (rank : Rank) (hart comm dest tag : ℕ) (bytes : List ℕ) (n stamp : ℕ)
    → asked rank hart ≡ ask.Hub (request.Send false comm dest tag bytes) → Grows lines more → NamesRightly lines rank
    → IsNamed (was_made more) n → NamesRightly more (told rank hart (answer.Reply (reply.Posted n true)) stamp)
rightly_sent lines more rank hart comm dest tag bytes n stamp asks grows right made = record {
  names = names_only (was_made lines) (was_made more) rank hart (answer.Reply (reply.Posted n true)) stamp grows.made
      right.names made;
  awaits = forgets (may_be_awaited more) rank hart comm dest tag bytes n stamp asks
      (rightly_more lines more rank grows right).awaits;
}

-- ---- requests

-- no standard send is awaited
no_over_send : (b : Board) (n : ℕ) → IsNamed (may_be_awaited b.lines) n → IsNoOverSend b n
no_over_send b zero named = tt
no_over_send b (suc place) named = λ over.
    let e : may_be_awaited b.lines place ≡ not (not (over.sent).sync) =
    awaited_line b.lines place (record { post = post.Send over.sent; partner = Some over.partner }) over.there in
    let f : not (not (over.sent).sync) ≡ false = ap (λ x. not (not x)) over.standard in
    absurd (cc)

pub asks_of_live : (b : Board) (q : Request) → AsksOnly (may_be_awaited b.lines) q → AsksOfLive b q
asks_of_live b (request.Send sync comm dest tag bytes) only = tt
asks_of_live b (request.Recv now comm source tag) only = tt
asks_of_live b (request.Collect n) only = tt
asks_of_live b (request.Finished n) only = no_over_send b n only
asks_of_live b (request.Probe comm source tag) only = tt
asks_of_live b (request.Claim comm source tag) only = tt
asks_of_live b (request.Claimed now n) only = tt
asks_of_live b (request.All ns) only = λ i n here. no_over_send b n (only i n here)
asks_of_live b (request.Init sends comm peer tag parts size) only = tt
asks_of_live b (request.Cut link) only = tt
