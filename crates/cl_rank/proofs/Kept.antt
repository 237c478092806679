-- What the sides of a rank keep when the side of one link and its phase change.
use Rattle.std.proofs.Common.{◌≡◌, ◌≢◌, ℕ, ◌≤◌, ◌==◌, List, Bool, true, false, Option, Some, None}
use Rattle.std.proofs.Common.{refl, sym, ap, subst, ◌∙◌, get_or, rules, arith}
use Rattle.std.specs.Prelude.{All, map, option_map, slice_get}
use Rattle.part_box.specs.Keys.{Sender}
use Rattle.part_channel.specs.Channels.{ChannelView, sender_box, receiver_box}
use Rattle.part_channel.specs.Receiving.{RecvView}
use Rattle.part_channel.specs.Sending.{IsPast, SendView}
use Rattle.part_phase.specs.declared.phases.Phase.{Phase}
use Rattle.part_phase.specs.declared.receiving.RecvPhase.{RecvPhase}
use Rattle.part_phase.specs.declared.sending.SendPhase.{SendPhase}
use Rattle.part_phase.specs.declared.phases.Phase.TheVariants.{Apart, Sending, Receiving}
use Rattle.part_phase.specs.Limits.{box_bytes}
use Rattle.part_phase.specs.Phases.{changed_at, on_receiving, on_sending}
use Rattle.rv_image_types.specs.declared.images.ImageVersion.{ImageVersion}
use Rattle.cl_sides.specs.Sides.{AreChannelsOf, AreSides, HasReceiver, HasSender, PhaseFits, phase_of_receiver}
use Rattle.cl_sides.specs.Sides.{phase_of_sender, side_of, sides_in}
use Rattle.cl_sides.specs.Steps.{changed_side}
use Rattle.cl_sides.proofs.Lists.{at_changed, beside, is_equal}
use Rattle.cl_rank.proofs.Lists.{phase_beside, phase_changed}

-- of this link, and of any other
pub each_link : (P : ℕ → Type 0) (link : ℕ) → P link → ((l : ℕ) → l ≢ link → P l) → (l : ℕ) → P l
each_link P link here there l = go (l == link) refl
  where
    go : (b : Bool) → (l == link) ≡ b → P l
    go true e = subst P (sym (is_equal l link e)) here
    go false e = there l (λ k. search (rules, e, k))

-- what became of a side came of one
module _ {S : Type 0} where
  nothing : (t : S) → None ≡ Some t → ⊥
  nothing t h = cc

  unwrapped : (t u : S) → Some u ≡ Some t → t ≡ u
  unwrapped t u h = cc

  pub came_of : (f : S → S) (o : Option S) (t : S) → option_map f o ≡ Some t → (s : S) × (o ≡ Some s) × (t ≡ f s)
  came_of f None t h = absurd (nothing t h)
  came_of f (Some s) t h = (s, refl, unwrapped t (f s) h)

pub past_later : (keys : List Sender) (clock later : ℕ) → clock ≤ later → All (λ key. key.view.front ≤ clock) keys
    → All (λ key. key.view.front ≤ later) keys
past_later keys clock later low past = λ k d there.
    let before : (get_or keys k d).view.front ≤ clock = past k d there in omega (arith, low, before)

module _ (v : ImageVersion) (ps : List Phase) (clock later : ℕ) (sends : List (ℕ × SendView)) (recvs : List (ℕ × RecvView))
    (link : ℕ) (g : Phase → Phase) (f : SendView → SendView) (h : RecvView → RecvView) where
  -- the side of the link and its phase fit again, and the side keeps what it has to
  pub record SideKept : Type 0 where
    pub fit : PhaseFits (option_map g (slice_get ps link)) (option_map f (side_of link sends))
        (option_map h (side_of link recvs))
    pub size : (s : SendView) → side_of link sends ≡ Some s → (f s).size ≤ box_bytes v
    pub past : (s : SendView) → side_of link sends ≡ Some s → IsPast (f s) later
    pub uncut : (r : RecvView) → side_of link recvs ≡ Some r → (h r).parts ≡ 0 → (h r).boxes ≡ 0

  New : List (ℕ × SendView)
  New = changed_side link f sends

  pub kept : AreSides v ps clock (sides_in sends recvs) → clock ≤ later → SideKept
      → AreSides v (changed_at link g ps) later (sides_in (changed_side link f sends) (changed_side link h recvs))
  kept old low k = record {
    fit = each_link
        (λ l. PhaseFits (slice_get (changed_at link g ps) l) (side_of l (changed_side link f sends))
        (side_of l (changed_side link h recvs)))
        link
        (rw (phase_changed link g ps, at_changed link f sends, at_changed link h recvs) k.fit)
        (λ l other. rw (phase_beside l link g ps other, beside l link f sends other, beside l link h recvs other) (old.fit l));
    sizes = each_link (λ l. (s : SendView) → side_of l (changed_side link f sends) ≡ Some s → s.size ≤ box_bytes v) link
        (λ s is. let c = came_of f (side_of link sends) s (sym (at_changed link f sends) ∙ is) in
        subst (λ (x : SendView). x.size ≤ box_bytes v) (sym c.2) (k.size c.0 c.1))
        (λ l other s is. old.sizes l s (sym (beside l link f sends other) ∙ is));
    past = each_link (λ l. (s : SendView) → side_of l (changed_side link f sends) ≡ Some s → IsPast s later) link
        (λ s is. let c = came_of f (side_of link sends) s (sym (at_changed link f sends) ∙ is) in
        subst (λ x. IsPast x later) (sym c.2) (k.past c.0 c.1))
        (λ l other s is.
        past_later s.keys clock later low (old.past l s (sym (beside l link f sends other) ∙ is)));
    uncut = each_link
        (λ l. (r : RecvView) → side_of l (changed_side link h recvs) ≡ Some r → r.parts ≡ 0 → r.boxes ≡ 0) link
        (λ r is. let c = came_of h (side_of link recvs) r (sym (at_changed link h recvs) ∙ is) in
        subst (λ (x : RecvView). x.parts ≡ 0 → x.boxes ≡ 0) (sym c.2) (k.uncut c.0 c.1))
        (λ l other r is. old.uncut l r (sym (beside l link h recvs other) ∙ is));
  }

  -- the channels are those of the sides still, where the side of the link has its keys of them
  pub owned : (channels : List ChannelView) → AreChannelsOf v channels (sides_in sends recvs)
      → ((s : SendView) → side_of link sends ≡ Some s → map sender_box (f s).keys ≡ map sender_box s.keys)
      → ((r : RecvView) → side_of link recvs ≡ Some r → map receiver_box (h r).keys ≡ map receiver_box r.keys)
      → AreChannelsOf v channels (sides_in (changed_side link f sends) (changed_side link h recvs))
  owned channels old sent got = record {
    sends = each_link
        (λ l. (s : SendView) → side_of l (changed_side link f sends) ≡ Some s → HasSender v (slice_get channels l) s) link
        (λ s is. let c = came_of f (side_of link sends) s (sym (at_changed link f sends) ∙ is) in
        subst (HasSender v (slice_get channels link)) (sym c.2)
        (has_sender (slice_get channels link) c.0 (f c.0) (sent c.0 c.1) (old.sends link c.0 c.1)))
        (λ l other s is. old.sends l s (sym (beside l link f sends other) ∙ is));
    recvs = each_link
        (λ l. (r : RecvView) → side_of l (changed_side link h recvs) ≡ Some r → HasReceiver v (slice_get channels l) r) link
        (λ r is. let c = came_of h (side_of link recvs) r (sym (at_changed link h recvs) ∙ is) in
        subst (HasReceiver v (slice_get channels link)) (sym c.2)
        (has_receiver (slice_get channels link) c.0 (h c.0) (got c.0 c.1) (old.recvs link c.0 c.1)))
        (λ l other r is. old.recvs l r (sym (beside l link h recvs other) ∙ is));
  }
    where
      has_sender : (c : Option ChannelView) (s t : SendView) → map sender_box t.keys ≡ map sender_box s.keys
          → HasSender v c s → HasSender v c t
      has_sender None s t same has = has
      has_sender (Some c) s t same has = (has.0, same ∙ has.1)

      has_receiver : (c : Option ChannelView) (s t : RecvView) → map receiver_box t.keys ≡ map receiver_box s.keys
          → HasReceiver v c s → HasReceiver v c t
      has_receiver None s t same has = has
      has_receiver (Some c) s t same has = (has.0, same ∙ has.1)

-- a sender's side and its phase change alike
pub sender_fits : (g : SendPhase → SendPhase) (f : SendView → SendView) (P : Option Phase) (S : Option SendView)
    (R : Option RecvView) → PhaseFits P S R
    → ((s : SendView) → S ≡ Some s → g (phase_of_sender s) ≡ phase_of_sender (f s))
    → PhaseFits (option_map (on_sending g) P) (option_map f S) (option_map (λ r. r) R)
sender_fits g f None None None fit same = fit
sender_fits g f None None (Some r) fit same = fit
sender_fits g f None (Some s) None fit same = fit
sender_fits g f None (Some s) (Some r) fit same = fit
sender_fits g f (Some Apart) None None fit same = fit
sender_fits g f (Some Apart) None (Some r) fit same = fit
sender_fits g f (Some Apart) (Some s) None fit same = fit
sender_fits g f (Some Apart) (Some s) (Some r) fit same = fit
sender_fits g f (Some (Sending p)) None None fit same = fit
sender_fits g f (Some (Sending p)) None (Some r) fit same = fit
sender_fits g f (Some (Sending p)) (Some s) None fit same = ap g fit ∙ same s refl
sender_fits g f (Some (Sending p)) (Some s) (Some r) fit same = fit
sender_fits g f (Some (Receiving p)) None None fit same = fit
sender_fits g f (Some (Receiving p)) None (Some r) fit same = fit
sender_fits g f (Some (Receiving p)) (Some s) None fit same = fit
sender_fits g f (Some (Receiving p)) (Some s) (Some r) fit same = fit

-- and a receiver's
pub receiver_fits : (g : RecvPhase → RecvPhase) (h : RecvView → RecvView) (P : Option Phase) (S : Option SendView)
    (R : Option RecvView) → PhaseFits P S R
    → ((r : RecvView) → R ≡ Some r → g (phase_of_receiver r) ≡ phase_of_receiver (h r))
    → PhaseFits (option_map (on_receiving g) P) (option_map (λ s. s) S) (option_map h R)
receiver_fits g h None None None fit same = fit
receiver_fits g h None None (Some r) fit same = fit
receiver_fits g h None (Some s) None fit same = fit
receiver_fits g h None (Some s) (Some r) fit same = fit
receiver_fits g h (Some Apart) None None fit same = fit
receiver_fits g h (Some Apart) None (Some r) fit same = fit
receiver_fits g h (Some Apart) (Some s) None fit same = fit
receiver_fits g h (Some Apart) (Some s) (Some r) fit same = fit
receiver_fits g h (Some (Sending p)) None None fit same = fit
receiver_fits g h (Some (Sending p)) None (Some r) fit same = fit
receiver_fits g h (Some (Sending p)) (Some s) None fit same = fit
receiver_fits g h (Some (Sending p)) (Some s) (Some r) fit same = fit
receiver_fits g h (Some (Receiving p)) None None fit same = fit
receiver_fits g h (Some (Receiving p)) None (Some r) fit same = ap g fit ∙ same r refl
receiver_fits g h (Some (Receiving p)) (Some s) None fit same = fit
receiver_fits g h (Some (Receiving p)) (Some s) (Some r) fit same = fit
