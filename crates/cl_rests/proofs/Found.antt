-- Whether a rank rests, by the send behind which it stands; and of a rank of a standing.
use Rattle.std.specs.Prelude.{ℕ, ◌≡◌, ◌<◌, ◌≤◌, ◌&&◌, ◌||◌, cond, Bool, true, false, List, [], ◌∷◌, length, get_or}
use Rattle.std.specs.Prelude.{option_map, Option, Some, None}
use Rattle.std.specs.List.{list_any, slice_get}
use Rattle.std.proofs.Common.{refl, sym, ap, subst, ◌∙◌, arith}
use Rattle.std.proofs.lemmas.Option.{slice_get-map, slice_get_past, slice_get_read}
use Rattle.rv_image_types.specs.declared.images.ImageParts.{ImageParts}
use Rattle.rv_hart.specs.State.{State}
use Rattle.mp_match.specs.declared.posts.Line.{Line}
use Rattle.mp_match.specs.declared.posts.Post.{Post}
use Rattle.mp_match.specs.declared.posts.Post.TheVariants.{Send, Receive, Claim}
use Rattle.mp_match.specs.declared.posts.Sent.{Sent}
use Rattle.mp_hub.specs.Hub.{HubView}
use Rattle.cl_calls.specs.declared.calls.Call.{Call}
use Rattle.cl_calls.specs.declared.calls.Call.TheVariants as call
use Rattle.cl_calls.specs.declared.calls.Sending.{Sending}
use Rattle.cl_calls.specs.declared.sites.Site.{Site}
use Rattle.cl_state.specs.declared.state.RankState.{RankState}
use Rattle.cl_state.specs.declared.asking.Ask.{Ask}
use Rattle.cl_state.specs.Asked.{asked, doing}
use Rattle.cl_state.specs.Rank.{Rank}
use Rattle.cl_state.specs.Room.{rank_of}
use Rattle.cl_rest_laws.specs.Rests.{handles_ahead, is_message_of, is_sent_with}
use Rattle.cl_rest_laws.specs.Rests.{rests, rests_behind, rests_if, rests_in, spelled, stands_behind_call}
use Rattle.cl_rest_laws.specs.Unpaired.{is_send}
use Rattle.cl_rest_laws.specs.Unreceived.{lacks_receive, is_unreceived}
use Rattle.cl_machine.specs.Cluster.{Cluster}
use Rattle.cl_order_laws.specs.Alike.{hub_of}
use Rattle.cl_order_laws.specs.Closed.{Node}
use Rattle.cl_moves.specs.Standing.{StandsAt}
use Rattle.cl_moves.specs.declared.standing.Standing.{Standing}
use Rattle.cl_rests.specs.declared.sought.Sought.{Sought}
use Rattle.cl_rests.specs.Found.{sent_behind, sent_by}
use Rattle.cl_rests.specs.Sought.{is_sought}

-- ---- lines of which none is such a message

module _ (p : Sent → Bool) (never : (m : Sent) → p m ≡ false) (hub : HubView) where
  not_one : (post : Post) (b : Bool) → (is_send p (Some post) && b) ≡ false
  not_one (Send s) b = ap (λ x. x && b) (never s)
  not_one (Receive a) b = refl
  not_one (Claim a) b = refl

  none_unreceived : (lines : List Line) → list_any (is_unreceived p hub) lines ≡ false
  none_unreceived [] = refl
  none_unreceived (l ∷ ls) =
      ap (λ b. b || list_any (is_unreceived p hub) ls) (not_one l.post (lacks_receive hub l)) ∙ none_unreceived ls

-- ---- behind a SEND

-- nobody received a message of it, of which this holds
abbrev pub unreceived : (Sent → Bool) → HubView → ℕ → Site → Option Sending → Bool
unreceived p hub r site None = false
unreceived p hub r site (Some s) = list_any (is_unreceived (λ m. is_sent_with site r s m && p m) hub) hub.board.lines

module _ (p : Sent → Bool) (hub : HubView) (r : ℕ) (site : Site) where
  by_call : (b : Bool) (x : Call)
      → (b && list_any (is_unreceived (λ m. is_message_of site r x m && p m) hub) hub.board.lines)
      ≡ unreceived p hub r site (cond b (sent_by x) None)
  by_call false x = refl
  by_call true (call.Send s) = refl
  by_call true x = none_unreceived (λ m. is_message_of site r x m && p m) (λ m. refl) hub hub.board.lines

pub behind_is : (s : Sought) (rank : Rank)
    → rests_behind (is_sought s) s.hub.now s.from rank 0
    ≡ unreceived (is_sought s) s.hub.now s.from rank.site (sent_behind rank)
behind_is s rank =
    by_call (is_sought s) s.hub.now s.from rank.site (stands_behind_call rank 0) (spelled rank 0)

-- ---- a rank without harts

no_items : (hs : List State) → length hs ≡ 0 → hs ≡ []
no_items [] none = refl
no_items (h ∷ hs) none = absurd (omega (arith, none))

module _ (rank : Rank) (none : length rank.harts ≡ 0) where
  pub none_ahead : handles_ahead rank 0 ≡ []
  unfolding doing
  none_ahead =
      subst (λ hs. handles_ahead (record rank { harts = hs }) 0 ≡ []) (sym (no_items rank.harts none)) refl

  pub none_rests : (p : Sent → Bool) (hub : HubView) (r : ℕ) → rests_in p hub r rank 0 ≡ false
  unfolding doing
  none_rests p hub r =
      subst (λ hs. rests_in p hub r (record rank { harts = hs }) 0 ≡ false) (sym (no_items rank.harts none)) refl

  pub none_asked : asked rank 0 ≡ Ask.Idle
  unfolding asked doing
  none_asked = subst (λ hs. asked (record rank { harts = hs }) 0 ≡ Ask.Idle) (sym (no_items rank.harts none)) refl

-- ---- a rank that isn't there

pub past_rests : (c : Cluster) → length c.ranks ≤ 8 → (r : ℕ) → 8 ≤ r → rests c r 0 ≡ false
past_rests c few r past =
    ap (λ o. rests_if (λ m. true) (hub_of c.journal) r o 0) (slice_get_past c.ranks r (omega (arith, few, past)))

-- ---- of a rank of a standing

-- what was read at its place
pub own_read : (xs : List RankState) (count place rank : ℕ) (own : RankState) → count ≡ length xs → place < count
    → own ≡ get_or xs place own → place ≡ rank → slice_get xs rank ≡ Some own
own_read xs count place rank own many inside read is =
    subst (λ r. slice_get xs r ≡ Some own) is (slice_get_read xs count place own many inside read)

module _ (image : ImageParts) (standing : Standing) (here : Node) (stands : StandsAt image standing here) (r : ℕ) where
  pub own_at : (own : RankState) → slice_get standing.cluster.ranks.items r ≡ Some own
      → slice_get here.cluster.ranks r ≡ Some (rank_of own)
  own_at own at =
      ap (λ (rs : List Rank). slice_get rs r) stands.stands.ranks_are
      ∙ (slice_get-map rank_of standing.cluster.ranks.items r ∙ ap (option_map rank_of) at)

  pub rests_is : (p : Sent → Bool) (own : RankState) → slice_get standing.cluster.ranks.items r ≡ Some own
      → rests_if p (hub_of here.cluster.journal) r (slice_get here.cluster.ranks r) 0
      ≡ rests_in p standing.whole r (rank_of own) 0
  rests_is p own at =
      ap (λ o. rests_if p (hub_of here.cluster.journal) r o 0) (own_at own at)
      ∙ ap (λ h. rests_in p h r (rank_of own) 0) (sym stands.whole)
