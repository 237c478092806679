-- What the hub's reply makes of a rank: the side of one link gets the shape or the cut that its phase got, if it did.
use Rattle.std.proofs.Common.{◌≡◌, ℕ, zero, suc, ◌<◌, ◌≤◌, ◌*◌, ◌%◌, ◌==◌, List, [], ◌∷◌, ◌++◌, Bool, true, false}
use Rattle.std.proofs.Common.{Option, Some, None, refl, sym, ap, subst, ◌∙◌, inl, inr, ⊎_elim, rules, arith}
use Rattle.std.specs.Prelude.{◌&&◌, ◌^◌, map, not, nat_le, option_map, slice_get, vec_len, IfSome, if◌then◌else◌}
use Rattle.rv_image_types.specs.declared.images.ImageVersion.{ImageVersion}
use Rattle.mp_types.specs.declared.replies.Reply.{Reply}
use Rattle.mp_types.specs.declared.requests.Request.{Request}
use Rattle.mp_request.specs.declared.entries.OpenRequest.{OpenRequest}
use Rattle.mp_request.specs.declared.entries.Partitions.{Partitions}
use Rattle.mp_request.specs.declared.entries.State.TheVariants.{Inactive}
use Rattle.mp_request.specs.declared.entries.Transfer.TheVariants.{SendPartitions}
use Rattle.mp_request.specs.Table.{Table, request_at, with_request}
use Rattle.part_channel.specs.Channels.{receiver_box, sender_box}
use Rattle.part_channel.specs.Receiving.{RecvView}
use Rattle.part_channel.specs.Sending.{IsPast, SendView, shaped}
use Rattle.part_phase.specs.declared.phases.Phase.{Phase}
use Rattle.part_phase.specs.declared.phases.Phase.TheVariants.{Apart, Sending, Receiving}
use Rattle.part_phase.specs.declared.receiving.RecvPhase.{RecvPhase}
use Rattle.part_phase.specs.declared.sending.SendPhase.{SendPhase}
use Rattle.part_phase.specs.Limits.{are_parts, box_bytes, is_size}
use Rattle.part_phase.specs.Phases.{changed_at, is_unshaped_receiving, is_unshaped_sending, on_receiving, on_sending}
use Rattle.part_phase.specs.Phases.{receiving_at, receiving_in, sending_at, sending_in}
use Rattle.part_phase.specs.Receiving.{cut_into, is_cut, shaped_receiving}
use Rattle.part_phase.specs.Sending.{shaped_sending}
use Rattle.cl_calls.specs.Checks.{sending_side}
use Rattle.cl_state.specs.declared.asking.Answer.TheVariants as answer
use Rattle.cl_state.specs.declared.asking.Ask.TheVariants as ask
use Rattle.cl_state.specs.declared.state.RankState.{RankState}
use Rattle.cl_state.specs.Asked.{Part, asked, part_of}
use Rattle.cl_state.specs.Rank.{Rank}
use Rattle.cl_state.specs.Room.{rank_of}
use Rattle.cl_state.specs.Told.{told, told_row}
use Rattle.cl_rank.specs.declared.ranks.Rank.{Rank as Running}
use Rattle.cl_trace.specs.declared.events.Event.{Event}
use Rattle.cl_trace.specs.declared.events.Kind.TheVariants as kind
use Rattle.cl_deeds.specs.Deeds.{Act}
use Rattle.cl_rank.specs.Fitting.{RequestsFit}
use Rattle.cl_rank.specs.Follows.{named_link}
use Rattle.cl_sides.specs.Sides.{AreSides, PhaseFits, phase_of_receiver, phase_of_sender, side_of, sides_in}
use Rattle.cl_sides.specs.Steps.{InLimits, ReceivingMay, SendingMay, changed_side, cut_receiver, followed_receiver}
use Rattle.cl_sides.specs.Steps.{followed_sender, gets, shaped_receiver}
use Rattle.cl_rank.proofs.Answered.{Becomes, GotCut, GotReceiving, GotSending, Replied, Stays, reply_becomes}
use Rattle.cl_rank.proofs.Boxes.{box_limits}
use Rattle.cl_rank.proofs.Kept.{each_link, kept, owned, past_later}
use Rattle.cl_rank.proofs.Keys.{keys_stay, receivers_stay, senders_stay}
use Rattle.cl_rank.proofs.Lists.{phase_beside, phase_changed}
use Rattle.cl_rank.proofs.Moves.{Moved, SameShape, fit_kept, fits_at, own_told, receiving_shapes, row_at, shapes_stay}
use Rattle.cl_rank.proofs.Moves.{sides_told, started_at, told_by}
use Rattle.cl_rank.proofs.Rows.{HubRow, RowFits}
use Rattle.cl_rank.proofs.Tables.{at_handle}
use Rattle.cl_rank.proofs.Went.{Went, event}

-- ---- limits of shapes

both_true : (a b : Bool) → (a && b) ≡ true → (a ≡ true) × (b ≡ true)
both_true true b e = (refl, e)
both_true false b e = absurd (cc)

at_most : (a b : ℕ) → nat_le a b ≡ true → a ≤ b
at_most a b e = grind arith

same_number : (a b : ℕ) → (a == b) ≡ true → a ≡ b
same_number a b e = grind arith

positive : (n : ℕ) → 0 < n → (n == 0) ≡ false
positive n low = search (rules, low)

limits_of : (v : ImageVersion) (parts size : ℕ) → are_parts parts ≡ true → is_size v size ≡ true
    → InLimits parts size × (size ≤ box_bytes v)
limits_of v parts size are is =
    let few = both_true (nat_le 1 parts) (nat_le parts 16) are in
    let words = both_true (nat_le 8 size && nat_le size (box_bytes v)) (size % 8 == 0) is in
    let range = both_true (nat_le 8 size) (nat_le size (box_bytes v)) words.0 in
    let least = at_most 1 parts few.0 in
    let low = at_most 8 size range.0 in
    let high = at_most size (box_bytes v) range.1 in (
      (
        (omega (arith, least), at_most parts 16 few.1),
        (omega (arith, low), within size (box_bytes v) high (box_limits v).0, same_number (size % 8) 0 words.1),
      ),
      high,
    )
  where
    within : (a b : ℕ) → a ≤ b → b ≤ 128 → a ≤ 128
    within a b p q = omega (arith, p, q)

gets_nothing : (n : ℕ) → gets n n ≡ false
gets_nothing n = both (n == 0)
  where
    both : (b : Bool) → (b && not b) ≡ false
    both true = refl
    both false = refl

gets_now : (was now : ℕ) → (was == 0) ≡ true → 0 < now → gets was now ≡ true
gets_now was now none low = rw (none, positive now low) refl

not_both : (b : Bool) → b ≡ true → b ≡ false → ⊥
not_both b p q = cc

no_product : (a b c d : ℕ) → 0 < a → 0 < b → a * b ≡ c * d → c ≡ 0 → ⊥
no_product zero b c d low wide same none = absurd (omega (arith, low))
no_product (suc a) zero c d low wide same none = absurd (omega (arith, wide))
no_product (suc a) (suc b) c d low wide same none = some (same ∙ (ap (λ n. n * d) none ∙ nothing d))
  where
    nothing : (n : ℕ) → 0 * n ≡ 0
    nothing n = search rules

    some : suc a * suc b ≡ 0 → ⊥
    some e = grind (arith, e)

-- ---- a side and its phase, at a reply

module _ {S : Type 0} where
  same_some : (s t : S) → Some s ≡ Some t → s ≡ t
  same_some s t h = cc

  only : (Q : S → Type 0) (s : S) → Q s → (t : S) → Some s ≡ Some t → Q t
  only Q s q t is = subst Q (same_some s t is) q

  none_some : (t : S) → None ≡ Some t → ⊥
  none_some t h = cc

  map_same : (f : S → S) → ((s : S) → f s ≡ s) → (o : Option S) → option_map f o ≡ o
  map_same f same None = refl
  map_same f same (Some s) = ap Some (same s)

abbrev sent_on : Option Phase → Option Phase → SendView → SendView
sent_on P Q s = followed_sender (sending_in P) (sending_in Q) s

abbrev got_on : Option Phase → Option Phase → RecvView → RecvView
got_on P Q r = followed_receiver (receiving_in P) (receiving_in Q) r

-- the sides follow their phase from the one to the other
pub record Followed (v : ImageVersion) (P Q : Option Phase) (S : Option SendView) (R : Option RecvView) : Type 0 where
  pub fit : PhaseFits Q (option_map (sent_on P Q) S) (option_map (got_on P Q) R)
  pub sent : (s : SendView) → S ≡ Some s → SendingMay (sending_in P) (sending_in Q) s
  pub got : (r : RecvView) → R ≡ Some r → ReceivingMay (receiving_in P) (receiving_in Q) r
  pub size : (s : SendView) → S ≡ Some s → (sent_on P Q s).size ≤ box_bytes v
  pub uncut : (r : RecvView) → R ≡ Some r → (got_on P Q r).parts ≡ 0 → (got_on P Q r).boxes ≡ 0

-- what the sides kept before
record Before (v : ImageVersion) (P : Option Phase) (S : Option SendView) (R : Option RecvView) : Type 0 where
  fit : PhaseFits P S R
  size : (s : SendView) → S ≡ Some s → s.size ≤ box_bytes v
  uncut : (r : RecvView) → R ≡ Some r → r.parts ≡ 0 → r.boxes ≡ 0

sender_same : (p : SendPhase) (s : SendView) → followed_sender p p s ≡ s
sender_same p s = ap (λ b. if b then shaped s p.parts p.size else s) (gets_nothing p.parts)

receiver_same : (p : RecvPhase) (r : RecvView) → followed_receiver p p r ≡ r
receiver_same p r =
    ap (λ b. if b then shaped_receiver p.parts p.size r else
    if gets p.boxes p.boxes then cut_receiver p.boxes p.bytes r else r) (gets_nothing p.parts)
    ∙ ap (λ b. if b then cut_receiver p.boxes p.bytes r else r) (gets_nothing p.boxes)

-- a phase that stays
stays_followed : (v : ImageVersion) (P : Option Phase) (S : Option SendView) (R : Option RecvView) → Before v P S R
    → Followed v P P S R
stays_followed v P S R old = record {
  fit = subst (λ o. PhaseFits P o (option_map (got_on P P) R))
      (sym (map_same (sent_on P P) (sender_same (sending_in P)) S))
      (subst (λ o. PhaseFits P S o) (sym (map_same (got_on P P) (receiver_same (receiving_in P)) R)) old.fit);
  sent = λ s is e. absurd (not_both _ e (gets_nothing (sending_in P).parts));
  got = λ r is. record {
    shape = λ e. absurd (not_both _ e (gets_nothing (receiving_in P).parts));
    cut = λ n e. absurd (not_both _ e (gets_nothing (receiving_in P).boxes));
  };
  size = λ s is. subst (λ (x : SendView). x.size ≤ box_bytes v) (sym (sender_same (sending_in P) s)) (old.size s is);
  uncut = λ r is. subst (λ (x : RecvView). x.parts ≡ 0 → x.boxes ≡ 0) (sym (receiver_same (receiving_in P) r))
      (old.uncut r is);
}

-- a sender's phase that gets its shape
module _ (v : ImageVersion) (parts size : ℕ) (limits : InLimits parts size × (size ≤ box_bytes v)) where
  abbrev shaping : Phase → Phase
  shaping p = on_sending (shaped_sending parts size) p

  sender_shaped : (s : SendView) → (s.parts == 0) ≡ true
      → Followed v (Some (Sending (phase_of_sender s))) (Some (Sending (shaped_sending parts size (phase_of_sender s))))
      (Some s) None
  sender_shaped s none =
      let was = phase_of_sender s in
      let now = shaped_sending parts size (phase_of_sender s) in
      let is : followed_sender was now s ≡ shaped s parts size =
      ap (λ b. if b then shaped s parts size else s) (gets_now s.parts parts none limits.0.0.0) in
      record {
        fit = ap phase_of_sender (sym is);
        sent = only (SendingMay was now) s (λ e. (same_number s.parts 0 none, limits.0));
        got = λ r there. absurd (none_some r there);
        size = only (λ t. (followed_sender was now t).size ≤ box_bytes v) s
            (subst (λ (x : SendView). x.size ≤ box_bytes v) (sym is) limits.1);
        uncut = λ r there. absurd (none_some r there);
      }

  shape_followed : (P : Option Phase) (S : Option SendView) (R : Option RecvView) → PhaseFits P S R
      → is_unshaped_sending P ≡ true → Followed v P (option_map shaping P) S R
  shape_followed None S R fit none = absurd (cc)
  shape_followed (Some Apart) S R fit none = absurd (cc)
  shape_followed (Some (Receiving p)) S R fit none = absurd (cc)
  shape_followed (Some (Sending p)) None None fit none = absurd fit
  shape_followed (Some (Sending p)) None (Some r) fit none = absurd fit
  shape_followed (Some (Sending p)) (Some s) (Some r) fit none = absurd fit
  shape_followed (Some (Sending p)) (Some s) None fit none =
      subst (λ (q : SendPhase). (q.parts == 0) ≡ true
      → Followed v (Some (Sending q)) (Some (Sending (shaped_sending parts size q))) (Some s) None) (sym fit)
      (sender_shaped s) none

  -- and a receiver's
  abbrev awaiting : Phase → Phase
  awaiting p = on_receiving (shaped_receiving parts size) p

  receiver_shaped : (r : RecvView) → r.boxes ≡ 0 → (r.parts == 0) ≡ true
      → Followed v (Some (Receiving (phase_of_receiver r)))
      (Some (Receiving (shaped_receiving parts size (phase_of_receiver r)))) None (Some r)
  receiver_shaped r uncut none =
      let was = phase_of_receiver r in
      let now = shaped_receiving parts size (phase_of_receiver r) in
      let got_shape = gets_now r.parts parts none limits.0.0.0 in
      let is : followed_receiver was now r ≡ shaped_receiver parts size r =
      ap (λ b. if b then shaped_receiver parts size r else
      if gets r.boxes r.boxes then cut_receiver r.boxes r.bytes r else r) got_shape in
      record {
        fit = ap phase_of_receiver (sym is);
        sent = λ s there. absurd (none_some s there);
        got = only (ReceivingMay was now) r (record {
          shape = λ e. ((same_number r.parts 0 none, uncut), limits.0);
          cut = λ n e. absurd (not_both _ got_shape n);
        });
        size = λ s there. absurd (none_some s there);
        uncut = only (λ t. (followed_receiver was now t).parts ≡ 0 → (followed_receiver was now t).boxes ≡ 0) r
            (subst (λ (x : RecvView). x.parts ≡ 0 → x.boxes ≡ 0) (sym is) (λ n. uncut));
      }

  receiving_followed : (P : Option Phase) (S : Option SendView) (R : Option RecvView) → Before v P S R
      → is_unshaped_receiving P ≡ true → Followed v P (option_map awaiting P) S R
  receiving_followed None S R old none = absurd (cc)
  receiving_followed (Some Apart) S R old none = absurd (cc)
  receiving_followed (Some (Sending p)) S R old none = absurd (cc)
  receiving_followed (Some (Receiving p)) None None old none = absurd old.fit
  receiving_followed (Some (Receiving p)) (Some s) None old none = absurd old.fit
  receiving_followed (Some (Receiving p)) (Some s) (Some r) old none = absurd old.fit
  receiving_followed (Some (Receiving p)) None (Some r) old none =
      subst (λ (q : RecvPhase). (q.parts == 0) ≡ true
      → Followed v (Some (Receiving q)) (Some (Receiving (shaped_receiving parts size q))) None (Some r)) (sym old.fit)
      (λ n. receiver_shaped r (old.uncut r refl (same_number r.parts 0 n)) n) none

-- a receiver's phase that gets the sender's cut
module _ (v : ImageVersion) (boxes bytes : ℕ) where
  abbrev cutting : Phase → Phase
  cutting p = on_receiving (cut_into boxes bytes) p

  receiver_cut : (r : RecvView) → is_cut v (phase_of_receiver r) boxes bytes ≡ true
      → Followed v (Some (Receiving (phase_of_receiver r)))
      (Some (Receiving (cut_into boxes bytes (phase_of_receiver r)))) None (Some r)
  receiver_cut r fits =
      let was = phase_of_receiver r in
      let now = cut_into boxes bytes (phase_of_receiver r) in
      let same_total = boxes * bytes == r.parts * r.size in
      let known = both_true (are_parts boxes && is_size v bytes && same_total) (r.boxes == 0) fits in
      let total = both_true (are_parts boxes && is_size v bytes) same_total known.0 in
      let passed = both_true (are_parts boxes) (is_size v bytes) total.0 in
      let limits = limits_of v boxes bytes passed.0 passed.1 in
      let same = same_number (boxes * bytes) (r.parts * r.size) total.1 in
      let is : followed_receiver was now r ≡ cut_receiver boxes bytes r =
      ap (λ b. if b then shaped_receiver r.parts r.size r else
      if gets r.boxes boxes then cut_receiver boxes bytes r else r) (gets_nothing r.parts)
      ∙ ap (λ b. if b then cut_receiver boxes bytes r else r) (gets_now r.boxes boxes known.1 limits.0.0.0) in
      record {
        fit = ap phase_of_receiver (sym is);
        sent = λ s there. absurd (none_some s there);
        got = only (ReceivingMay was now) r (record {
          shape = λ e. absurd (not_both _ e (gets_nothing r.parts));
          cut = λ n e. ((same_number r.boxes 0 known.1, same), limits.0);
        });
        size = λ s there. absurd (none_some s there);
        uncut = only (λ t. (followed_receiver was now t).parts ≡ 0 → (followed_receiver was now t).boxes ≡ 0) r
            (subst (λ (x : RecvView). x.parts ≡ 0 → x.boxes ≡ 0) (sym is)
            (λ n. absurd (no_product boxes bytes r.parts r.size limits.0.0.0 limits.0.1.0 same n)));
      }

  cut_followed : (P : Option Phase) (S : Option SendView) (R : Option RecvView) → Before v P S R
      → is_cut v (receiving_in P) boxes bytes ≡ true → Followed v P (option_map cutting P) S R
  cut_followed None S R old fits = stays_followed v None S R old
  cut_followed (Some Apart) S R old fits = stays_followed v (Some Apart) S R old
  cut_followed (Some (Sending p)) S R old fits = stays_followed v (Some (Sending p)) S R old
  cut_followed (Some (Receiving p)) None None old fits = absurd old.fit
  cut_followed (Some (Receiving p)) (Some s) None old fits = absurd old.fit
  cut_followed (Some (Receiving p)) (Some s) (Some r) old fits = absurd old.fit
  cut_followed (Some (Receiving p)) None (Some r) old fits =
      subst (λ (q : RecvPhase). is_cut v q boxes bytes ≡ true
      → Followed v (Some (Receiving q)) (Some (Receiving (cut_into boxes bytes q))) None (Some r)) (sym old.fit)
      (receiver_cut r) fits

-- ---- requests

abbrev FitsSize : ℕ → SendPhase → Type 0
FitsSize size p = (0 < p.parts) × (p.size ≡ size)

-- a request has the shape that the side of its link got; the others have those of other links
module _ (table : Table) (ps : List Phase) (link parts size handle : ℕ) (side : Partitions) (fit : RequestsFit table ps)
    (none : is_unshaped_sending (slice_get ps link) ≡ true) (low : 0 < parts)
    (of : (side.link ≡ link) × (side.size ≡ size)) where
  abbrev shaping_it : Phase → Phase
  shaping_it p = on_sending (shaped_sending parts size) p

  abbrev made : Option OpenRequest
  made = Some (record { transfer = SendPartitions side; state = Inactive })

  abbrev become : List Phase
  become = changed_at link shaping_it ps

  shaped_now : (P : Option Phase) → is_unshaped_sending P ≡ true
      → FitsSize size (sending_in (option_map shaping_it P))
  shaped_now None e = absurd (cc)
  shaped_now (Some Apart) e = absurd (cc)
  shaped_now (Some (Sending p)) e = (low, refl)
  shaped_now (Some (Receiving p)) e = absurd (cc)

  unshaped_then : (P : Option Phase) → is_unshaped_sending P ≡ true → 0 < (sending_in P).parts → ⊥
  unshaped_then None e some = cc
  unshaped_then (Some Apart) e some = cc
  unshaped_then (Some (Sending p)) e some = not_both _ e (positive p.parts some)
  unshaped_then (Some (Receiving p)) e some = cc

  new_size : FitsSize side.size (sending_at become side.link)
  new_size =
      let is : sending_at become side.link ≡ sending_in (option_map shaping_it (slice_get ps link)) =
      ap (λ l. sending_at become l) of.0 ∙ ap sending_in (phase_changed link shaping_it ps) in
      let now = shaped_now (slice_get ps link) none in
      subst (FitsSize side.size) (sym is) (now.0, now.1 ∙ sym of.1)

  old_size : (n l : ℕ) → FitsSize n (sending_at ps l) → FitsSize n (sending_at become l)
  old_size n = each_link (λ l. FitsSize n (sending_at ps l) → FitsSize n (sending_at become l)) link
      (λ had. absurd (unshaped_then (slice_get ps link) none had.0))
      (λ l other had. subst (FitsSize n) (sym (ap sending_in (phase_beside l link shaping_it ps other))) had)

  fit_shaped : RequestsFit (with_request table handle made) become
  fit_shaped = record {
    size = λ h s is. ⊎_elim
        (λ (k : request_at (with_request table handle made) h ≡ request_at table h).
        old_size s.size s.link (fit.size h s (subst (λ r. sending_side r ≡ Some s) k is)))
        (λ (k : (h ≡ handle) × (request_at (with_request table handle made) h ≡ made)).
        only (λ (t : Partitions). FitsSize t.size (sending_at become t.link)) side new_size s
        (subst (λ r. sending_side r ≡ Some s) k.1 is))
        (at_handle table handle h made);
  }

-- ---- a reply

same_phases : (link : ℕ) (ps : List Phase) → changed_at link (λ p. p) ps ≡ ps
same_phases link [] = refl
same_phases zero (p ∷ ps) = refl
same_phases (suc link) (p ∷ ps) = ap (λ l. p ∷ l) (same_phases link ps)

-- the phase of one link changes, and its sides follow; the requests fit again
pub record Follows (v : ImageVersion) (link : ℕ) (old new : Part) (sends : List (ℕ × SendView))
    (recvs : List (ℕ × RecvView)) : Type 0 where
  pub change : Phase → Phase
  pub phases : new.phases ≡ changed_at link change old.phases
  pub at : Followed v (slice_get old.phases link) (option_map change (slice_get old.phases link)) (side_of link sends)
      (side_of link recvs)
  pub fit : RequestsFit new.requests new.phases

module _ (v : ImageVersion) (clock link : ℕ) (old new : Part) (sends : List (ℕ × SendView))
    (recvs : List (ℕ × RecvView)) (sides : AreSides v old.phases clock (sides_in sends recvs))
    (fit : RequestsFit old.requests old.phases) where
  before : Before v (slice_get old.phases link) (side_of link sends) (side_of link recvs)
  before = record { fit = sides.fit link; size = sides.sizes link; uncut = sides.uncut link }

  fit_again : (change : Phase → Phase)
      → ((p : Phase) → SameShape (sending_in (Some (change p))) (sending_in (Some p)))
      → Becomes old (changed_at link change old.phases) new → RequestsFit new.requests new.phases
  fit_again change same becomes =
      fit_kept old.requests new.requests old.phases new.phases fit becomes.keeps
      (λ l. subst (λ ps. SameShape (sending_at ps l) (sending_at old.phases l)) (sym becomes.phases)
      (shapes_stay change same old.phases link l))

  by_staying : Stays old new → Follows v link old new sends recvs
  by_staying stays =
      let phases = stays.phases ∙ sym (same_phases link old.phases) in
      record {
        change = λ p. p;
        phases = phases;
        at = subst (λ Q. Followed v (slice_get old.phases link) Q (side_of link sends) (side_of link recvs))
            (sym (map_same (λ p. p) (λ p. refl) (slice_get old.phases link)))
            (stays_followed v _ _ _ before);
        fit = fit_again (λ p. p) (λ p. (refl, refl)) (record { phases = phases; keeps = stays.keeps });
      }

  by_sending : GotSending v link old new → Follows v link old new sends recvs
  by_sending g =
      let limits = limits_of v g.parts g.size g.limits.0 g.limits.1 in
      record {
        change = on_sending (shaped_sending g.parts g.size);
        phases = g.phases;
        at = shape_followed v g.parts g.size limits _ _ _ (sides.fit link) g.unshaped;
        fit = subst (λ t. RequestsFit t new.phases) (sym g.requests)
            (subst (λ ps. RequestsFit (with_request old.requests g.handle
            (Some (record { transfer = SendPartitions g.side; state = Inactive }))) ps) (sym g.phases)
            (fit_shaped old.requests old.phases link g.parts g.size g.handle g.side fit g.unshaped limits.0.0.0 g.of));
      }

  by_receiving : GotReceiving v link old new → Follows v link old new sends recvs
  by_receiving g = record {
    change = on_receiving (shaped_receiving g.parts g.size);
    phases = g.becomes.phases;
    at = receiving_followed v g.parts g.size (limits_of v g.parts g.size g.limits.0 g.limits.1) _ _ _ before g.unshaped;
    fit = fit_again _ (receiving_shapes (shaped_receiving g.parts g.size)) g.becomes;
  }

  by_cutting : GotCut v link old new → Follows v link old new sends recvs
  by_cutting g = record {
    change = on_receiving (cut_into g.boxes g.bytes);
    phases = g.becomes.phases;
    at = cut_followed v g.boxes g.bytes _ _ _ before g.fits;
    fit = fit_again _ (receiving_shapes (cut_into g.boxes g.bytes)) g.becomes;
  }

  follows : Replied v link old new → Follows v link old new sends recvs
  follows (inl stays) = by_staying stays
  follows (inr (inl got)) = by_sending got
  follows (inr (inr (inl got))) = by_receiving got
  follows (inr (inr (inr got))) = by_cutting got

-- ---- a turn that the hub replied to

if_there : {S : Type 0} (Q : S → Type 0) (o : Option S) → ((s : S) → o ≡ Some s → Q s) → IfSome o Q
if_there Q None each = tt
if_there Q (Some s) each = each s refl

shaped_keys : (b : Bool) (p : SendPhase) (s : SendView) → (if b then shaped s p.parts p.size else s).keys ≡ s.keys
shaped_keys true p s = refl
shaped_keys false p s = refl

cut_keys : (b c : Bool) (p : RecvPhase) (r : RecvView)
    → (if b then shaped_receiver p.parts p.size r else if c then cut_receiver p.boxes p.bytes r else r).keys ≡ r.keys
cut_keys true c p r = refl
cut_keys false true p r = refl
cut_keys false false p r = refl

abbrev sent_between : List Phase → List Phase → ℕ → SendView → SendView
sent_between old new link s = followed_sender (sending_at old link) (sending_at new link) s

abbrev got_between : List Phase → List Phase → ℕ → RecvView → RecvView
got_between old new link r = followed_receiver (receiving_at old link) (receiving_at new link) r

sent_keys : (old new : List Phase) (link : ℕ) (s : SendView) → (sent_between old new link s).keys ≡ s.keys
sent_keys old new link s =
    shaped_keys (gets (sending_at old link).parts (sending_at new link).parts) (sending_at new link) s

got_keys : (old new : List Phase) (link : ℕ) (r : RecvView) → (got_between old new link r).keys ≡ r.keys
got_keys old new link r =
    cut_keys (gets (receiving_at old link).parts (receiving_at new link).parts)
    (gets (receiving_at old link).boxes (receiving_at new link).boxes) (receiving_at new link) r

module _ (old new : Rank) (hart stamp : ℕ) (request : Request) (reply : Reply) (sends : List (ℕ × SendView))
    (recvs : List (ℕ × RecvView)) (sides : AreSides old.site.version old.phases old.clock (sides_in sends recvs))
    (fit : RequestsFit old.requests old.phases) (asks : asked old hart ≡ ask.Hub request)
    (is : new ≡ told old hart (answer.Reply reply) stamp) where
  abbrev link : ℕ
  link = named_link request reply

  abbrev after : Part
  after = told_row old.site (row_at old hart) (answer.Reply reply) (part_of old hart)

  row_is : HubRow old.site.version request (row_at old hart)
  row_is = subst (λ a. RowFits old.site.version old.requests old.phases (started_at old hart) a (row_at old hart)) asks
      (fits_at old hart)

  become_so : Follows old.site.version link (part_of old hart) after sends recvs
  become_so =
      follows old.site.version old.clock link (part_of old hart) after sends recvs sides fit
      (reply_becomes old.site request (part_of old hart) (row_at old hart) reply row_is)

  phases_now : new.phases ≡ changed_at link become_so.change old.phases
  phases_now = (told_by old hart (answer.Reply reply) stamp new is).phases ∙ become_so.phases

  here : slice_get new.phases link ≡ option_map become_so.change (slice_get old.phases link)
  here = ap (λ ps. slice_get ps link) phases_now ∙ phase_changed link become_so.change old.phases

  at : Followed old.site.version (slice_get old.phases link) (slice_get new.phases link) (side_of link sends)
      (side_of link recvs)
  at = subst (λ Q. Followed old.site.version (slice_get old.phases link) Q (side_of link sends) (side_of link recvs))
      (sym here) become_so.at

  may_send : IfSome (side_of link sends) (SendingMay (sending_at old.phases link) (sending_at new.phases link))
  may_send =
      if_there (SendingMay (sending_at old.phases link) (sending_at new.phases link)) (side_of link sends) at.sent

  may_get : IfSome (side_of link recvs) (ReceivingMay (receiving_at old.phases link) (receiving_at new.phases link))
  may_get =
      if_there (ReceivingMay (receiving_at old.phases link) (receiving_at new.phases link)) (side_of link recvs) at.got

  sides_now : old.clock ≤ stamp
      → AreSides old.site.version (changed_at link become_so.change old.phases) stamp
      (sides_in (changed_side link (sent_between old.phases new.phases link) sends)
      (changed_side link (got_between old.phases new.phases link) recvs))
  sides_now low =
      kept old.site.version old.phases old.clock stamp sends recvs link become_so.change
      (sent_between old.phases new.phases link) (got_between old.phases new.phases link) sides low (record {
        fit = subst (λ Q. PhaseFits Q (option_map (sent_between old.phases new.phases link) (side_of link sends))
            (option_map (got_between old.phases new.phases link) (side_of link recvs))) here at.fit;
        size = at.size;
        past = λ s there.
            subst (λ keys. IsPast (record s { keys = keys }) stamp) (sym (sent_keys old.phases new.phases link s))
            (past_later s.keys old.clock stamp low (sides.past link s there));
        uncut = at.uncut;
      })

  reply_moved : old.clock ≤ stamp
      → Moved old new (sides_in sends recvs)
      (sides_in (changed_side link (sent_between old.phases new.phases link) sends)
      (changed_side link (got_between old.phases new.phases link) recvs)) stamp (Act.Hub old.clock request reply)
  reply_moved low =
      let by = told_by old hart (answer.Reply reply) stamp new is in
      record {
        sides = sides_told old.site.version old new _ stamp _ refl by.site by.clock phases_now (sides_now low);
        fit = subst (λ t. RequestsFit t new.phases) (sym by.requests)
            (subst (λ ps. RequestsFit after.requests ps) (sym by.phases) become_so.fit);
        keys = keys_stay old.site.version stamp (Act.Hub old.clock request reply) _ _ refl
            (senders_stay link (sent_between old.phases new.phases link) sends
            (λ s there. sent_keys old.phases new.phases link s))
            (receivers_stay link (got_between old.phases new.phases link) recvs
            (λ r there. got_keys old.phases new.phases link r));
        own = λ channels own. own_told old new channels _ by.site
            (owned old.site.version old.phases 0 0 sends recvs link become_so.change
            (sent_between old.phases new.phases link) (got_between old.phases new.phases link) channels own
            (λ s there. ap (map sender_box) (sent_keys old.phases new.phases link s))
            (λ r there. ap (map receiver_box) (got_keys old.phases new.phases link r)));
      }

-- the same, as a running rank's turn meets it
module _ (r : Running) (new : RankState) (hart stamp : ℕ) {request : Request} (reply : Reply) {link : ℕ}
    (asks : asked (rank_of r.state) hart ≡ ask.Hub request)
    (is : rank_of new ≡ told (rank_of r.state) hart (answer.Reply reply) stamp)
    (named : link ≡ named_link request reply) where
  pub may_follow_sender : {was now : SendPhase} → was ≡ sending_at r.state.phases link
      → now ≡ sending_at new.phases link → IfSome (side_of link r.sends.items) (SendingMay was now)
  may_follow_sender {was} {now} p q =
      subst (λ w. IfSome (side_of link r.sends.items) (SendingMay w now)) (sym p)
      (subst (λ n. IfSome (side_of link r.sends.items) (SendingMay (sending_at r.state.phases link) n)) (sym q)
      (subst (λ l. IfSome (side_of l r.sends.items)
      (SendingMay (sending_at r.state.phases l) (sending_at new.phases l))) (sym named)
      (may_send (rank_of r.state) (rank_of new) hart stamp request reply r.sends.items r.recvs.items r.sides r.fit asks
      is)))

  pub may_follow_receiver : {was now : RecvPhase} → was ≡ receiving_at r.state.phases link
      → now ≡ receiving_at new.phases link → IfSome (side_of link r.recvs.items) (ReceivingMay was now)
  may_follow_receiver {was} {now} p q =
      subst (λ w. IfSome (side_of link r.recvs.items) (ReceivingMay w now)) (sym p)
      (subst (λ n. IfSome (side_of link r.recvs.items) (ReceivingMay (receiving_at r.state.phases link) n)) (sym q)
      (subst (λ l. IfSome (side_of l r.recvs.items)
      (ReceivingMay (receiving_at r.state.phases l) (receiving_at new.phases l))) (sym named)
      (may_get (rank_of r.state) (rank_of new) hart stamp request reply r.sends.items r.recvs.items r.sides r.fit asks
      is)))

  sent_so : (was now : SendPhase) (sends : List (ℕ × SendView)) → was ≡ sending_at r.state.phases link
      → now ≡ sending_at new.phases link → sends ≡ changed_side link (followed_sender was now) r.sends.items
      → sends ≡ changed_side (named_link request reply)
      (sent_between r.state.phases new.phases (named_link request reply)) r.sends.items
  sent_so was now sends p q sent =
      sent ∙ (ap (λ w. changed_side link (followed_sender w now) r.sends.items) p
      ∙ (ap (λ n. changed_side link (followed_sender (sending_at r.state.phases link) n) r.sends.items) q
      ∙ ap (λ l. changed_side l (sent_between r.state.phases new.phases l) r.sends.items) named))

  got_so : (was now : RecvPhase) (recvs : List (ℕ × RecvView)) → was ≡ receiving_at r.state.phases link
      → now ≡ receiving_at new.phases link → recvs ≡ changed_side link (followed_receiver was now) r.recvs.items
      → recvs ≡ changed_side (named_link request reply)
      (got_between r.state.phases new.phases (named_link request reply)) r.recvs.items
  got_so was now recvs p q got =
      got ∙ (ap (λ w. changed_side link (followed_receiver w now) r.recvs.items) p
      ∙ (ap (λ n. changed_side link (followed_receiver (receiving_at r.state.phases link) n) r.recvs.items) q
      ∙ ap (λ l. changed_side l (got_between r.state.phases new.phases l) r.recvs.items) named))

  pub went_reply : {was now : SendPhase} {had has : RecvPhase} {sends : List (ℕ × SendView)}
      {recvs : List (ℕ × RecvView)}
      → hart < vec_len r.state.harts → (r.state.clock < stamp) × (stamp < 2 ^ 62)
      → was ≡ sending_at r.state.phases link → now ≡ sending_at new.phases link
      → had ≡ receiving_at r.state.phases link → has ≡ receiving_at new.phases link
      → sends ≡ changed_side link (followed_sender was now) r.sends.items
      → recvs ≡ changed_side link (followed_receiver had has) r.recvs.items
      → Went r hart stamp (Act.Hub r.state.clock request reply) new (sides_in sends recvs)
  went_reply {was} {now} {had} {has} {sends} {recvs} there stamps p q a b sent got = record {
    there = there;
    low = stamps.1;
    answers = asks;
    stamps = (refl, stamps.0);
    tells = is;
    moved = subst (λ ss. Moved (rank_of r.state) (rank_of new) (sides_in r.sends.items r.recvs.items) (sides_in ss recvs)
        stamp (Act.Hub r.state.clock request reply)) (sym (sent_so was now sends p q sent))
        (subst (λ rs. Moved (rank_of r.state) (rank_of new) (sides_in r.sends.items r.recvs.items)
        (sides_in (changed_side (named_link request reply)
        (sent_between r.state.phases new.phases (named_link request reply)) r.sends.items) rs) stamp
        (Act.Hub r.state.clock request reply)) (sym (got_so had has recvs a b got))
        (reply_moved (rank_of r.state) (rank_of new) hart stamp request reply r.sends.items r.recvs.items r.sides r.fit
        asks is (omega (arith, stamps.0))));
  }

same_reply : (told read : Reply) → answer.Reply told ≡ answer.Reply read → read ≡ told
same_reply told read h = cc

-- the event of a call
pub called_event : {reply read : Reply} {new : List Event} (hart stamp : ℕ) (request : Request) (events : List Event)
    (e : Event) → answer.Reply reply ≡ answer.Reply read → e ≡ event hart stamp (kind.Hub read) (Some request)
    → new ≡ events ++ e ∷ [] → new ≡ events ++ event hart stamp (kind.Hub reply) (Some request) ∷ []
called_event {reply} {read} hart stamp request events e same is noted =
    noted ∙ ap (λ x. events ++ x ∷ [])
    (is ∙ ap (λ r. event hart stamp (kind.Hub r) (Some request)) (same_reply reply read same))
