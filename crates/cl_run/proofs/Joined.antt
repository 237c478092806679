-- What a turn keeps of a rank's keys.
use Rattle.std.specs.Prelude.{ℕ, ◌≡◌, ◌<◌, List, length, Bool, true, false, Option, Some, None}
use Rattle.std.proofs.Common.{refl, sym, ap, ◌∙◌, subst, inl, inr, ⊎_elim}
use Rattle.std.proofs.lemmas.Option.{same_Some, slice_get_within}
use Rattle.rv_image_types.specs.declared.images.ImageVersion.{ImageVersion}
use Rattle.rv_image_types.specs.declared.images.Link.{Link}
use Rattle.part_box.specs.declared.view.Receiving.{Receiving}
use Rattle.part_box.specs.declared.view.Sending.{Sending}
use Rattle.part_channel.specs.Channels.{ChannelView}
use Rattle.cl_calls.specs.declared.sites.Site.{Site}
use Rattle.cl_journal.specs.Replaying.{HubHistory}
use Rattle.cl_state.proofs.Moves.{told_at}
use Rattle.cl_state.specs.Rank.{Rank}
use Rattle.cl_deeds.specs.Deeds.{Act, answer_of}
use Rattle.cl_rank.specs.Turning.{Answered}
use Rattle.cl_rank.specs.Sides.{box_id_of}
use Rattle.cl_rank.specs.RankSides.{AreChannelsOf, HasKey, KeyMoves, KeysMove, Sides, receiver_of, sender_of}
use Rattle.cl_record.specs.Seats.{GoesOn, Station, Stops, TakesTurn}
use Rattle.cl_run.specs.Driver.{IsJoined}
use Rattle.cl_record.specs.BoxKeys.{HasKeysOf}
use Rattle.cl_record.specs.declared.plans.Plan.{Plan}
use Rattle.cl_run.proofs.Hubs.{hub_part, hub_stays}

key_later : {K : Type 0} (here : Bool) (Acts : K → K → Type 0) (old new : Option K) (k : K)
    → KeyMoves here Acts old new → old ≡ Some k → (l : K) × (new ≡ Some l)
key_later true Acts (Some x) (Some y) k h e = (y, refl)
key_later false Acts (Some x) (Some y) k h e = (y, refl)
key_later true Acts (Some x) None k h e = absurd h
key_later false Acts (Some x) None k h e = absurd h
key_later here Acts None new k h e = absurd (cc)

key_before : {K : Type 0} (here : Bool) (Acts : K → K → Type 0) (old new : Option K) (l : K)
    → KeyMoves here Acts old new → new ≡ Some l → (k : K) × (old ≡ Some k)
key_before true Acts (Some x) (Some y) l h e = (x, refl)
key_before false Acts (Some x) (Some y) l h e = (x, refl)
key_before true Acts None (Some y) l h e = absurd h
key_before false Acts None (Some y) l h e = absurd h
key_before here Acts old None l h e = absurd (cc)

-- a rank keeps its keys
pub keys_kept : (links : List Link) (r : ℕ) (version : ImageVersion) (stamp : ℕ) (act : Act) (old new : Sides)
    → KeysMove version stamp act old new → HasKeysOf links r old → HasKeysOf links r new
keys_kept links r version stamp act old new moves h = record {
  sends = λ link part l at low is.
      let k = h.sends link part l at low is in key_later _ _ _ _ k.0 (moves.sends link part) k.1;
  receives = λ link part l at low is.
      let k = h.receives link part l at low is in key_later _ _ _ _ k.0 (moves.recvs link part) k.1;
  sends_own = λ link part s e.
      let k = key_before _ _ _ _ s (moves.sends link part) e in h.sends_own link part k.0 k.1;
  receives_own = λ link part s e.
      let k = key_before _ _ _ _ s (moves.recvs link part) e in h.receives_own link part k.0 k.1;
}

-- the box that an act asks is one of a link
pub place_there : (links : List Link) (r : ℕ) (sides : Sides) (a : Act) (place : ℕ × ℕ) → HasKeysOf links r sides
    → HasKey sides a → box_id_of a ≡ Some place → (place.0 < length links) × (place.1 < 16)
place_there links r sides a place h has e = go a has e
  where
    sending : (link part : ℕ) → (s : Sending) × (sender_of sides link part ≡ Some s) → (link < length links)
        × (part < 16)
    sending link part k = let l = h.sends_own link part k.0 k.1 in (slice_get_within links link l.0 l.1, l.2)

    receiving : (link part : ℕ) → (s : Receiving) × (receiver_of sides link part ≡ Some s)
        → (link < length links) × (part < 16)
    receiving link part k = let l = h.receives_own link part k.0 k.1 in (slice_get_within links link l.0 l.1, l.2)

    at : (link part : ℕ) → Some (link, part) ≡ Some place → (link < length links) × (part < 16)
        → (place.0 < length links) × (place.1 < 16)
    at link part e both = subst (λ (p : ℕ × ℕ). (p.0 < length links) × (p.1 < 16)) (same_Some (link, part) place e) both

    go : (a : Act) → HasKey sides a → box_id_of a ≡ Some place → (place.0 < length links) × (place.1 < 16)
    go Act.Plain has e = absurd (cc)
    go Act.Local has e = absurd (cc)
    go (Act.Hub clock request reply) has e = absurd (cc)
    go (Act.Ready link part bytes) has e = at link part e (sending link part has)
    go (Act.Take link part gate bytes) has e = at link part e (receiving link part has)
    go (Act.Miss link part) has e = at link part e (⊎_elim (sending link part) (receiving link part) has)
    go (Act.Freed link part gate) has e = at link part e (sending link part has)
    go Act.Held has e = absurd (cc)
    go Act.Idle has e = absurd (cc)

-- the hub's links stay
pub links_stay : (plan : Plan) (s t : Station) (before after : HubHistory) → GoesOn Answered plan s before t after
    → after.links ≡ before.links
links_stay plan s t before after h = elim h [
  | inl turn ↦ (hub_part before after turn.deed turn.tells).links_stay
  | inr stops ↦ ap (λ (j : HubHistory). j.links) (hub_stays plan s t before after stops)
]

-- a rank that goes on has the keys of its links
module _ (links : List Link) (channels : List ChannelView) (r : ℕ) (plan : Plan) (s t : Station)
    (before after : HubHistory) (j : IsJoined links channels r s)
    (over : AreChannelsOf t.rank.site.version channels t.sides) where
  taken : TakesTurn Answered plan s before t after → IsJoined links channels r t
  taken turn =
      let site_is : t.rank.site ≡ s.rank.site =
      ap (λ (x : Rank). x.site) turn.moves.4
      ∙ (told_at s.rank turn.deed.hart (answer_of turn.deed.act) turn.deed.stamp).site in
      record {
        number_is = ap (λ (x : Site). x.number) site_is ∙ j.number_is;
        links_are = ap (λ (x : Site). x.links) site_is ∙ j.links_are;
        keys = keys_kept links r _ _ _ _ _ turn.keys j.keys;
        over = over;
        asked = λ place e. place_there links r s.sides turn.deed.act place j.keys turn.keys.there (sym turn.asked_is
            ∙ e);
      }

  stopped : Stops Answered plan s before t after → IsJoined links channels r t
  stopped h = record {
    number_is = ap (λ (x : Rank). x.site.number) h.rank_stays ∙ j.number_is;
    links_are = ap (λ (x : Rank). x.site.links) h.rank_stays ∙ j.links_are;
    keys = subst (HasKeysOf links r) (sym h.sides_stay) j.keys;
    over = over;
    asked = λ place e. j.asked place (sym h.asked_stays ∙ e);
  }

  pub goes_joined : GoesOn Answered plan s before t after → IsJoined links channels r t
  goes_joined h = ⊎_elim taken stopped h
