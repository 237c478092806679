-- What is asked in vain of one hub is asked in vain of an alike one.
use Rattle.std.proofs.Common.{◌≡◌, ℕ, zero, suc, List, [], ◌∷◌, map, Bool, true, false, not, Option, Some, None, refl, sym, ap, ◌∙◌, subst}
use Rattle.std.specs.Prelude.{◌&&◌}
use Rattle.std.specs.List.{list_all, slice_get}
use Rattle.std.specs.Option.{is_some, option_map}
use Rattle.std.proofs.lemmas.Bool.{and_parts}
use Rattle.std.proofs.lemmas.Option.{same_Some, slice_get-map}
use Rattle.mp_types.specs.declared.messages.Envelope.{Envelope}
use Rattle.mp_types.specs.declared.requests.Request.{Request}
use Rattle.mp_types.specs.declared.requests.Request.TheVariants as request
use Rattle.mp_match.specs.declared.posts.Line.{Line}
use Rattle.mp_match.specs.declared.posts.Post.{Post}
use Rattle.mp_match.specs.declared.posts.Post.TheVariants.{Send, Receive, Claim}
use Rattle.mp_match.specs.Board.{Board, envelope_at, envelope_in, is_send_of, line_of, partner_of, probed}
use Rattle.mp_match.specs.Pairs.{fits, is_free, may_pair, partner_for}
use Rattle.mp_match.proofs.Places.{found_first, found_none}
use Rattle.mp_transfers.specs.Inits.{is_receiver, sender_over}
use Rattle.mp_hub.specs.Hub.{HubView, are_distinct, hub_after, is_complete, is_known, is_ready, may_collect}
use Rattle.mp_hub.specs.Vain.{asks_in_vain}
use Rattle.mp_wait_laws.specs.Waits.{IsUpTo, OnlyOf, could_pair, sends_over}
use Rattle.mp_wait_laws.proofs.Owned.{AreOwned, owned_after}
use Rattle.mp_wait_laws.proofs.Vain.{vain_law}
use Rattle.mp_alike_laws.specs.Renaming.{Renaming, line_by, number_by, request_by, turned}
use Rattle.mp_source_laws.specs.Alike.{AlikeBoards, AlikeHubs, Wild}
use Rattle.mp_source_laws.specs.Laws.{AsksOfLive}
use Rattle.mp_source_laws.proofs.Likeness.{hub_back}
use Rattle.mp_source_laws.proofs.Named.{AreSame, IsSame, all_known_named, all_known_same, all_ready_named, collects_same, complete_named, distinct_named, line_named, may_named, partner_named, ready_named, send_named, sent_same, some_by}
use Rattle.mp_source_laws.proofs.Over.{same_or_over}
use Rattle.mp_source_laws.proofs.Partners.{live}
use Rattle.cl_verdict_laws.specs.Asking.{AskingLaw}

-- ---- a message is there for a selection in both hubs, or in neither

-- the post is that of a receive or of a claim
abbrev Takes : Post → Type 0
Takes (Send s) = ⊥
Takes _ = Unit {0}

abbrev envelope_of : Post → Option Envelope
envelope_of x = elim x [ Send s ↦ Some s.envelope | Receive a ↦ None | Claim a ↦ None ]

-- what such a post may have is a send, with an envelope
envelope_there : (p q : Post) (line : Line) → Takes p → line.post ≡ q → may_pair p q ≡ true
    → is_some (envelope_in (Some line)) ≡ true
envelope_there (Send s) q line takes e pair = absurd takes
envelope_there (Receive a) (Send s) line takes e pair = ap (λ (x : Post). is_some (envelope_of x)) e
envelope_there (Receive a) (Receive c) line takes e pair = absurd (cc)
envelope_there (Receive a) (Claim c) line takes e pair = absurd (cc)
envelope_there (Claim a) (Send s) line takes e pair = ap (λ (x : Post). is_some (envelope_of x)) e
envelope_there (Claim a) (Receive c) line takes e pair = absurd (cc)
envelope_there (Claim a) (Claim c) line takes e pair = absurd (cc)

fits_by : (names : Renaming) (p : Post) (line : Line) → fits p (line_by names line) ≡ fits p line
fits_by names p line = ap (λ x. x && may_pair p line.post) (go line.partner)
  where
    go : (o : Option ℕ) → is_free (option_map names.to o) ≡ is_free o
    go None = refl
    go (Some k) = refl

-- a message is probed exactly where a line fits
probed_some : (b : Board) (p : Post) → Takes p → (i : ℕ) → partner_for b.lines p ≡ Some i → is_some (probed b p) ≡ true
probed_some b p takes i found =
    let f = found_first (fits p) b.lines i found in
    ap (λ o. is_some (envelope_at b o)) found
    ∙ ap (λ o. is_some (envelope_in o)) f.1
    ∙ envelope_there p (f.0).post f.0 takes refl (and_parts (is_free (f.0).partner) (may_pair p (f.0).post) f.2).1

probed_none : (b : Board) (p : Post) → partner_for b.lines p ≡ None → is_some (probed b p) ≡ false
probed_none b p none = ap (λ o. is_some (envelope_at b o)) none

module _ {wild : Wild} (names : Renaming) (a b : Board) (alike : AlikeBoards wild names a b) (p : Post) (takes : Takes p) where
  probed_too : is_some (probed a p) ≡ true → is_some (probed b p) ≡ true
  probed_too is = go (partner_for a.lines p) refl (partner_for b.lines p) refl
    where
      go : (o : Option ℕ) → partner_for a.lines p ≡ o → (q : Option ℕ) → partner_for b.lines p ≡ q
          → is_some (probed b p) ≡ true
      go None e q f = (let none = probed_none a p e in absurd (cc))
      go (Some i) e (Some j) f = probed_some b p takes j f
      go (Some i) e None f =
          let t = found_first (fits p) a.lines i e in
          let there =
          same_or_over names a b i (alike.lines i) (live a p i t.0 t.1 t.2) ∙ ap (option_map (line_by names)) t.1 in
          let no = found_none (fits p) 0 b.lines f (names.to i) (line_by names t.0) there in
          let yes = fits_by names p t.0 ∙ t.2 in
          absurd (cc)

same_bools : (x y : Bool) → (x ≡ true → y ≡ true) → (y ≡ true → x ≡ true) → y ≡ x
same_bools true y there back = there refl
same_bools false true there back = sym (back refl)
same_bools false false there back = refl

-- ---- what is asked in vain

module _ {wild : Wild} (names : Renaming) (h k : HubView) (alike : AlikeHubs wild names h k) (owned : AreOwned h) where
  probed_same : (p : Post) → Takes p → is_some (probed k.board p) ≡ is_some (probed h.board p)
  probed_same p takes =
      same_bools (is_some (probed h.board p)) (is_some (probed k.board p))
      (probed_too names h.board k.board alike.board p takes)
      (probed_too (turned names) k.board h.board (hub_back names h k alike).board p takes)

  -- the second test counts only where the first one passes
  both : (x y u v : Bool) → y ≡ x → (x ≡ true → v ≡ u) → (y && v) ≡ (x && u)
  both true true u v e f = f refl
  both false false u v e f = refl
  both true false u v e f = absurd (cc)
  both false true u v e f = absurd (cc)

  vain_named : (rank : ℕ) (q : Request) → AsksOfLive h.board q
      → asks_in_vain k rank (request_by names q) ≡ asks_in_vain h rank q
  vain_named rank (request.Collect n) of_live =
      both (may_collect h rank n) (may_collect k rank (number_by names n)) (not (is_some (partner_of h.board n)))
      (not (is_some (partner_of k.board (number_by names n)))) (may_named names h k alike owned rank n)
      (λ may. ap (λ o. not (is_some o))
      (partner_named names h.board k.board alike.board n (collects_same names h k alike owned rank n may))
      ∙ ap not (some_by names (partner_of h.board n)))
  vain_named rank (request.Finished n) of_live =
      both (is_send_of rank (line_of h.board n)) (is_send_of rank (line_of k.board (number_by names n)))
      (not (is_complete h n)) (not (is_complete k (number_by names n)))
      (send_named names h.board k.board alike.board rank n of_live)
      (λ sends. ap not (complete_named names h k alike owned n
      (sent_same names h.board k.board alike.board rank n of_live sends)))
  vain_named rank (request.Probe comm source tag) of_live =
      ap not (probed_same (Receive (record { rank = rank; comm = comm; source = source; tag = tag })) tt)
  vain_named rank (request.Claim comm source tag) of_live =
      ap not (probed_same (Claim (record { rank = rank; comm = comm; source = source; tag = tag })) tt)
  vain_named rank (request.All ns) of_live =
      let known = λ (g : HubView) (ms : List ℕ). list_all (λ n. is_known g rank n) ms in
      both (are_distinct ns && known h ns)
      (are_distinct (map (number_by names) ns) && known k (map (number_by names) ns))
      (not (list_all (λ n. is_ready h rank n) ns)) (not (list_all (λ n. is_ready k rank n) (map (number_by names) ns)))
      (ap (λ x. x && known k (map (number_by names) ns)) (distinct_named names h k alike owned ns)
      ∙ ap (λ x. are_distinct ns && x) (all_known_named names h k alike owned rank ns of_live))
      (λ known. ap not (all_ready_named names h k alike owned rank ns of_live))
  vain_named rank (request.Cut link) of_live =
      ap (λ ls. is_receiver ls rank link && not (is_some (sender_over k.sides link))) alike.links
      ∙ ap (λ o. is_receiver h.links rank link && not (is_some o)) (alike.senders link)
  vain_named rank (request.Send sync comm dest tag bytes) of_live = refl
  vain_named rank (request.Recv now comm source tag) of_live = refl
  vain_named rank (request.Claimed now message) of_live = refl
  vain_named rank (request.Init sends comm peer tag parts size) of_live = refl

-- ---- who could bring it

module _ (member : ℕ → ℕ → Bool) (among : ℕ → Bool) {wild : Wild} (names : Renaming) (h k : HubView)
    (alike : AlikeHubs wild names h k) (owned : AreOwned h) where
  pair_by : (o : Option Line) (r : ℕ) → could_pair member (option_map (line_by names) o) r ≡ could_pair member o r
  pair_by None r = refl
  pair_by (Some line) r = refl

  only_pair : (n : ℕ) → IsSame names h.board k.board n → OnlyOf among (could_pair member (line_of h.board n))
      → OnlyOf among (could_pair member (line_of k.board (number_by names n)))
  only_pair n same only r could =
      only r (sym (ap (λ o. could_pair member o r) (line_named names h.board k.board alike.board n same)
      ∙ pair_by (line_of h.board n) r) ∙ could)

  same_in : (ns : List ℕ) (i n : ℕ) → AreSame names h.board k.board ns → slice_get ns i ≡ Some n
      → IsSame names h.board k.board n
  same_in [] i n same here = absurd (cc)
  same_in (m ∷ ns) zero n same here = subst (IsSame names h.board k.board) (same_Some m n here) same.0
  same_in (m ∷ ns) (suc i) n same here = same_in ns i n same.1 here

  -- where it is asked in vain it isn't refused
  up_to_named : (rank : ℕ) (q : Request) → AsksOfLive h.board q → asks_in_vain h rank q ≡ true
      → IsUpTo member among h rank q
      → IsUpTo member among k rank (request_by names q)
  up_to_named rank (request.Collect n) of_live vain up_to =
      only_pair n (collects_same names h k alike owned rank n
      (and_parts (may_collect h rank n) (not (is_some (partner_of h.board n))) vain).0) up_to
  up_to_named rank (request.Finished n) of_live vain up_to =
      only_pair n (sent_same names h.board k.board alike.board rank n of_live
      (and_parts (is_send_of rank (line_of h.board n)) (not (is_complete h n)) vain).0) up_to
  up_to_named rank (request.Probe comm source tag) of_live vain up_to = up_to
  up_to_named rank (request.Claim comm source tag) of_live vain up_to = up_to
  up_to_named rank (request.All ns) of_live vain up_to =
      let asked =
      and_parts (are_distinct ns && list_all (λ n. is_known h rank n) ns) (not (list_all (λ n. is_ready h rank n) ns)) vain in
      let known = and_parts (are_distinct ns) (list_all (λ n. is_known h rank n) ns) asked.0 in
      let same = all_known_same names h k alike owned rank ns of_live known.1 in (
        up_to.0,
        number_by names up_to.1,
        slice_get-map (number_by names) ns up_to.0 ∙ ap (option_map (number_by names)) up_to.2,
        ready_named names h k alike owned rank up_to.1 (of_live up_to.0 up_to.1 up_to.2) ∙ up_to.3,
        only_pair up_to.1 (same_in ns up_to.0 up_to.1 same up_to.2) up_to.4,
      )
  up_to_named rank (request.Cut link) of_live vain up_to =
      λ r could. up_to r (ap (λ ls. sends_over ls link r) (sym alike.links) ∙ could)
  up_to_named rank _ of_live vain up_to = absurd up_to

pub asking_law : AskingLaw
asking_law = record {
  vain = λ wild names links others calls theirs rank q of_live alike.
      vain_named names (hub_after links calls) (hub_after others theirs) alike (owned_after links calls) rank q of_live;
  waits = λ member among wild names links others calls theirs rank q of_live alike waits.
      let owned = owned_after links calls in
      let vain : asks_in_vain (hub_after links calls) rank q ≡ true = (vain_law links calls rank q).1 waits.0 in (
        (vain_law others theirs rank (request_by names q)).0
            (vain_named names (hub_after links calls) (hub_after others theirs) alike owned rank q of_live ∙ vain),
        up_to_named member among names (hub_after links calls) (hub_after others theirs) alike owned rank q of_live vain
            waits.1,
      );
}
