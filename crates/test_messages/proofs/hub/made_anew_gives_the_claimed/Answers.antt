use Rattle.std.specs.Prelude.{ℕ, zero, suc, ◌≡◌, true, [], Some, None}
use Rattle.std.specs.List.{All, slice_get}
use Rattle.std.proofs.Common.{refl, sym, ap, ◌∙◌, subst, arith}
use Rattle.mp_match.specs.declared.posts.Sent.{Sent}
use Rattle.mp_match.specs.declared.posts.Post.TheVariants.{Send}
use Rattle.mp_match.specs.Pairs.{partner_of_line}
use Rattle.mp_match.specs.Board.{is_held}
use Rattle.mp_hub.specs.Hub.{HubView}
use Rattle.mp_hub.specs.Held.{IsHeldFor, AreHeld}
use Rattle.test_messages.specs.Anew.{claimed_board, claimed_lines, claiming_calls, one_waiting}
use Rattle.test_messages.specs.Boards.{any}
use Rattle.test_messages.proofs.hub.made_anew_gives_the_claimed.Goals as goal

apart : (place : ℕ) → Some place ≡ None → ⊥
apart place h = absurd (cc)

-- the one send has a partner
none_waits : (place : ℕ) (s : Sent) → slice_get claimed_lines place ≡ Some (record { post = Send s; partner = None })
    → is_held (slice_get claimed_board.bodies place) ≡ true
none_waits zero s h = absurd (apart 1 (ap partner_of_line h))
none_waits (suc zero) s h = absurd (apart 0 (ap partner_of_line h))
none_waits (suc (suc place)) s h = absurd (cc)

claim_is_held : All (IsHeldFor claimed_board) one_waiting
claim_is_held zero w h = record {
  place = 1;
  claim = any;
  number = refl;
  posted = refl;
  rank = refl;
  send = 0;
  has = refl;
  held = refl;
}
claim_is_held (suc k) w h = absurd (omega arith)

are_held : AreHeld claimed_board one_waiting
are_held = record { paired = refl; even = refl; sends = none_waits; claims = claim_is_held }

pub of-requires-clause-held : goal.of-requires-clause-held
of-requires-clause-held c = subst (λ (h : HubView). AreHeld h.board h.claims) (sym c.requires) are_held

pub returns : goal.returns
returns c = c.answer.ensures.reply [] claiming_calls (c.in-Ok.ensures ∙ c.requires)
