-- A rank's turn as a step of the boxes: its deed moves the keys of one box at most, and these agree before and after.
use Rattle.std.specs.Prelude.{ℕ, ◌≡◌, ◌≢◌, ◌<◌, ◌==◌, ◌&&◌, List, slice_get, slice_set, Bool}
use Rattle.std.specs.Prelude.{true, false}
use Rattle.std.specs.Prelude.{Option, Some, None}
use Rattle.std.proofs.Common.{refl, sym, ap, ◌∙◌, subst, arith, inl, inr, ⊎_elim}
use Rattle.std.proofs.lemmas.Bool.{eq-eqb}
use Rattle.std.proofs.lemmas.Bool.Decides.{eqb_tells}
use Rattle.std.proofs.lemmas.Option.{same_Some}
use Rattle.rv_image_types.specs.declared.images.ImageParts.{ImageParts}
use Rattle.rv_image_types.specs.declared.images.Link.{Link}
use Rattle.part_box.specs.declared.view.Receiving.{Receiving}
use Rattle.part_box.specs.declared.view.Sending.{Sending}
use Rattle.cl_deeds.specs.Deeds.{Act}
use Rattle.cl_rank.specs.Sides.{ReceiverActs, SenderActs, is_place, box_id_of}
use Rattle.cl_rank.specs.RankSides.{HasKey, KeyMoves, KeysMove, Sides, receiver_of, sender_of}
use Rattle.cl_machine.specs.Boxes.{Box, Holds, box_number, with_made}
use Rattle.cl_machine.specs.PartRuns.{PartsMove, PartsMoveAt}
use Rattle.cl_machine.specs.Product.{box_at, box_for}
use Rattle.cl_machine.specs.ProductSteps.{BoxMoves}
use Rattle.cl_machine.proofs.Lists.{get-set_other, get-set_same}
use Rattle.cl_record.specs.Seats.{Station}
use Rattle.cl_run.specs.Driver.{Agree}
use Rattle.cl_record.specs.BoxKeys.{AgreeOn, HasKeysOf, IsBoxOf, box_of}
use Rattle.cl_run.specs.UnderWay.{AreBoxes}
use Rattle.cl_record.proofs.Keys.{freed_empty, freed_stamp, ready_box, ready_empty, take_box, take_holds, take_stamp}

-- boxes have numbers of their own
box_apart : (a b c d : ℕ) → b < 16 → d < 16 → box_number a b ≡ box_number c d → (a ≡ c) × (b ≡ d)
box_apart a b c d low low' e = (omega (arith, low, low', e), omega (arith, low, low', e))

at_place : (link part : ℕ) → is_place link part (Some (link, part)) ≡ true
at_place link part = (λ i. eq-eqb link link refl i && eq-eqb part part refl i)

pick : (a b : Bool) → (a && b) ≡ true → (a ≡ true) × (b ≡ true)
pick true true e = (refl, refl)
pick true false e = absurd (cc)
pick false b e = absurd (cc)

-- a key that the act isn't on stays
key_stays : {K : Type 0} (here : Bool) (Acts : K → K → Type 0) (old new : Option K) → here ≡ false
    → KeyMoves here Acts old new → new ≡ old
key_stays true Acts old new e h = absurd (cc)
key_stays false Acts None None e h = refl
key_stays false Acts (Some k) (Some l) e h = ap Some h
key_stays false Acts None (Some l) e h = absurd h
key_stays false Acts (Some k) None e h = absurd h

-- one that it is on goes by it
key_goes : {K : Type 0} (here : Bool) (Acts : K → K → Type 0) (old new : Option K) (k : K) → here ≡ true → old ≡ Some k
    → KeyMoves here Acts old new → (l : K) × (new ≡ Some l) × Acts k l
key_goes false Acts old new k e is h = absurd (cc)
key_goes true Acts None new k e is h = absurd (cc)
key_goes true Acts (Some x) None k e is h = absurd h
key_goes true Acts (Some x) (Some l) k e is h = (l, refl, subst (λ z. Acts z l) (same_Some x k is) h)

module _ (image : ImageParts) (joined : (link : ℕ) (l : Link) → slice_get image.links link ≡ Some l → l.to ≢ l.from)
    (ss : List Station) (r : ℕ) (s t : Station) (there : slice_get ss r ≡ Some s)
    (versions : (q : ℕ) (x : Station) → slice_get (slice_set ss r t) q ≡ Some x → x.rank.site.version ≡ image.version)
    (own : HasKeysOf image.links r s.sides) (boxes : List Box) (are : AreBoxes image ss boxes)
    (act : Act) (stamp : ℕ) (keys : KeysMove image.version stamp act s.sides t.sides) where
  -- what became of a station: it is the one that took its turn, or as before
  record Later (q : ℕ) (x : Station) : Type 0 where
    now : Station
    now_there : slice_get (slice_set ss r t) q ≡ Some now
    sends : (link part : ℕ) → is_place link part (box_id_of act) ≡ false
        → sender_of now.sides link part ≡ sender_of x.sides link part
    receives : (link part : ℕ) → is_place link part (box_id_of act) ≡ false
        → receiver_of now.sides link part ≡ receiver_of x.sides link part

  stays : (q : ℕ) (x : Station) → slice_get ss q ≡ Some x → r ≢ q → Later q x
  stays q x at ne = record {
    now = x;
    now_there = get-set_other ss r q t ne ∙ at;
    sends = λ link part e. refl;
    receives = λ link part e. refl;
  }

  later : (q : ℕ) (x : Station) → slice_get ss q ≡ Some x → Later q x
  later q x at = elim (eqb_tells r q) [
    | inl same ↦
        let x_is : s ≡ x = same_Some s x (sym there ∙ ap (slice_get ss) same.1 ∙ at) in
        subst (Later q) x_is (record {
          now = t;
          now_there = ap (slice_get (slice_set ss r t)) (sym same.1) ∙ get-set_same ss r s t there;
          sends = λ link part e. key_stays _ _ _ _ e (keys.sends link part);
          receives = λ link part e. key_stays _ _ _ _ e (keys.recvs link part);
        })
    | inr other ↦ stays q x at other.1
  ]

  -- a box that the act isn't on stays as it was
  elsewhere : (link part : ℕ) (l : Link) → slice_get image.links link ≡ Some l → part < 16
      → is_place link part (box_id_of act) ≡ false → (box : Option Box) → box ≡ slice_get boxes (box_number link part)
      → (from : Station) × (to : Station) × (slice_get (slice_set ss r t) l.from ≡ Some from)
      × (slice_get (slice_set ss r t) l.to ≡ Some to) × IsBoxOf image.version from.sides to.sides link part box
  elsewhere link part l at low away box same =
      let old = are link part l at low in
      let from = later l.from old.0 old.2 in
      let to = later l.to old.1 old.3 in
      let b = old.4 in (
        from.now,
        to.now,
        from.now_there,
        to.now_there,
        record {
          sender = b.sender;
          receiver = b.receiver;
          sends = from.sends link part away ∙ b.sends;
          receives = to.receives link part away ∙ b.receives;
          agree = b.agree;
          box_is = same ∙ b.box_is;
        },
      )

  -- what becomes of the boxes, where the keys of one box are these now
  record Here (link part : ℕ) (s1 : Sending) (r1 : Receiving) : Type 0 where
    l : Link
    link_there : slice_get image.links link ≡ Some l
    low : part < 16
    from : Station
    to : Station
    from_there : slice_get (slice_set ss r t) l.from ≡ Some from
    to_there : slice_get (slice_set ss r t) l.to ≡ Some to
    sends : sender_of from.sides link part ≡ Some s1
    receives : receiver_of to.sides link part ≡ Some r1
    place : box_id_of act ≡ Some (link, part)

  agree_here : (link part : ℕ) (s1 : Sending) (r1 : Receiving) → Here link part s1 r1
      → Agree image.links (slice_set ss r t) (box_id_of act) → AgreeOn image.version s1 r1
  agree_here link part s1 r1 h agree =
      let now = subst (Agree image.links (slice_set ss r t)) h.place agree in
      subst (λ v. AgreeOn v s1 r1) (versions h.l.from h.from h.from_there)
      (now h.l h.link_there h.from h.to s1 r1 h.from_there h.to_there h.sends h.receives)

  boxes_then : (link part : ℕ) (s1 : Sending) (r1 : Receiving) → Here link part s1 r1 → AgreeOn image.version s1 r1
      → (later_boxes : List Box) → slice_get later_boxes (box_number link part) ≡ Some (box_of image.version s1 r1)
      → ((n : ℕ) → box_number link part ≢ n → slice_get later_boxes n ≡ slice_get boxes n)
      → AreBoxes image (slice_set ss r t) later_boxes
  boxes_then link part s1 r1 h agree later_boxes here others link' part' l' at low' =
      by_place (is_place link' part' (Some (link, part))) refl
    where
      by_place : (b : Bool) → is_place link' part' (Some (link, part)) ≡ b
          → (from : Station) × (to : Station) × (slice_get (slice_set ss r t) l'.from ≡ Some from)
          × (slice_get (slice_set ss r t) l'.to ≡ Some to)
          × IsBoxOf image.version from.sides to.sides link' part' (slice_get later_boxes (box_number link' part'))
      by_place false e =
          elsewhere link' part' l' at low' (ap (is_place link' part') h.place ∙ e)
          (slice_get later_boxes (box_number link' part')) (others (box_number link' part') apart)
        where
          apart : box_number link part ≢ box_number link' part'
          apart same =
              let both = box_apart link part link' part' h.low low' same in
              let here' = sym e ∙ (λ i. is_place link' part' (Some (both.0 i, both.1 i))) ∙ at_place link' part' in (cc)
      by_place true e =
          let both = pick (link == link') (part == part') e in
          elim (eqb_tells link link') [
            | inr apart ↦ absurd (let bad = sym both.0 ∙ apart.0 in (cc))
            | inl equal ↦ elim (eqb_tells part part') [
              | inr apart ↦ absurd (let bad = sym both.1 ∙ apart.0 in (cc))
              | inl is ↦
                  let l_is : h.l ≡ l' = same_Some h.l l' (sym h.link_there ∙ ap (slice_get image.links) equal.1
                  ∙ at) in (
                    h.from,
                    h.to,
                    ap (λ (x : Link). slice_get (slice_set ss r t) x.from) (sym l_is) ∙ h.from_there,
                    ap (λ (x : Link). slice_get (slice_set ss r t) x.to) (sym l_is) ∙ h.to_there,
                    record {
                      sender = s1;
                      receiver = r1;
                      sends = (λ i. sender_of h.from.sides (sym equal.1 i) (sym is.1 i)) ∙ h.sends;
                      receives = (λ i. receiver_of h.to.sides (sym equal.1 i) (sym is.1 i)) ∙ h.receives;
                      agree = agree;
                      box_is = (λ i. slice_get later_boxes (box_number (sym equal.1 i) (sym is.1 i))) ∙ here;
                    },
                  )
            ]
          ]

  boxes_stay : box_id_of act ≡ None → AreBoxes image (slice_set ss r t) boxes
  boxes_stay none link part l at low =
      elsewhere link part l at low (ap (is_place link part) none) (slice_get boxes (box_number link part)) refl

  -- the sender's key of a box went on, and the receiver's is another rank's
  record SenderWent (link part : ℕ) (s1 : Sending) : Type 0 where
    s0 : Sending
    r0 : Receiving
    before : AgreeOn image.version s0 r0
    box_there : slice_get boxes (box_number link part) ≡ Some (box_of image.version s0 r0)
    went : SenderActs image.version stamp act s0 s1
    here : Here link part s1 r0

  sender_went : (link part : ℕ) (k : Sending) → box_id_of act ≡ Some (link, part) → sender_of s.sides link part ≡ Some k
      → (s1 : Sending) × SenderWent link part s1
  sender_went link part k place was =
      let mine = own.sends_own link part k was in
      let l = mine.0 in
      let from_r : l.from ≡ r = mine.3 in
      let old = are link part l mine.1 mine.2 in
      let b = old.4 in
      let from_is : s ≡ old.0 = same_Some s old.0 (sym there ∙ ap (slice_get ss) (sym from_r) ∙ old.2) in
      let moved =
      key_goes _ _ _ _ k (ap (is_place link part) place ∙ at_place link part) was (keys.sends link part) in
      let k_is : k ≡ b.sender =
      same_Some k b.sender (sym was ∙ ap (λ (x : Station). sender_of x.sides link part) from_is ∙ b.sends) in
      let to_ne : r ≢ l.to = λ e. joined link l mine.1 (sym e ∙ sym from_r) in (
        moved.0,
        record {
          s0 = k;
          r0 = b.receiver;
          before = subst (λ z. AgreeOn image.version z b.receiver) (sym k_is) b.agree;
          box_there = b.box_is ∙ ap (λ z. Some (box_of image.version z b.receiver)) (sym k_is);
          went = moved.2;
          here = record {
            l = l;
            link_there = mine.1;
            low = mine.2;
            from = t;
            to = old.1;
            from_there = ap (slice_get (slice_set ss r t)) from_r ∙ get-set_same ss r s t there;
            to_there = get-set_other ss r l.to t to_ne ∙ old.3;
            sends = moved.1;
            receives = b.receives;
            place = place;
          };
        },
      )

  -- the receiver's key of a box went on, and the sender's is another rank's
  record ReceiverWent (link part : ℕ) (r1 : Receiving) : Type 0 where
    s0 : Sending
    r0 : Receiving
    before : AgreeOn image.version s0 r0
    box_there : slice_get boxes (box_number link part) ≡ Some (box_of image.version s0 r0)
    went : ReceiverActs image.version stamp act r0 r1
    here : Here link part s0 r1

  receiver_went : (link part : ℕ) (k : Receiving) → box_id_of act ≡ Some (link, part)
      → receiver_of s.sides link part ≡ Some k → (r1 : Receiving) × ReceiverWent link part r1
  receiver_went link part k place was =
      let mine = own.receives_own link part k was in
      let l = mine.0 in
      let to_r : l.to ≡ r = mine.3 in
      let old = are link part l mine.1 mine.2 in
      let b = old.4 in
      let to_is : s ≡ old.1 = same_Some s old.1 (sym there ∙ ap (slice_get ss) (sym to_r) ∙ old.3) in
      let moved =
      key_goes _ _ _ _ k (ap (is_place link part) place ∙ at_place link part) was (keys.recvs link part) in
      let k_is : k ≡ b.receiver =
      same_Some k b.receiver (sym was ∙ ap (λ (x : Station). receiver_of x.sides link part) to_is ∙ b.receives) in
      let from_ne : r ≢ l.from = λ e. joined link l mine.1 (to_r ∙ e) in (
        moved.0,
        record {
          s0 = b.sender;
          r0 = k;
          before = subst (λ z. AgreeOn image.version b.sender z) (sym k_is) b.agree;
          box_there = b.box_is ∙ ap (λ z. Some (box_of image.version b.sender z)) (sym k_is);
          went = moved.2;
          here = record {
            l = l;
            link_there = mine.1;
            low = mine.2;
            from = old.0;
            to = t;
            from_there = get-set_other ss r l.from t from_ne ∙ old.2;
            to_there = ap (slice_get (slice_set ss r t)) to_r ∙ get-set_same ss r s t there;
            sends = b.sends;
            receives = moved.1;
            place = place;
          };
        },
      )

  -- one box is put in place of another
  put : (link part : ℕ) (s0 s1 : Sending) (r0 r1 : Receiving) → Here link part s1 r1 → AgreeOn image.version s1 r1
      → slice_get boxes (box_number link part) ≡ Some (box_of image.version s0 r0)
      → AreBoxes image (slice_set ss r t) (slice_set boxes (box_number link part) (box_of image.version s1 r1))
  put link part s0 s1 r0 r1 h agree was =
      boxes_then link part s1 r1 h agree (slice_set boxes (box_number link part) (box_of image.version s1 r1))
      (get-set_same boxes (box_number link part) _ _ was)
      (λ n ne. get-set_other boxes (box_number link part) n _ ne)

  -- the boxes go by the deed, and each is still that of its two keys
  pub boxes_go : (rank hart : ℕ) → Agree image.links (slice_set ss r t) (box_id_of act)
      → (later_boxes : List Box)
      × PartsMove BoxMoves box_at boxes (record { rank = rank; hart = hart; stamp = stamp; act = act }) later_boxes
      × AreBoxes image (slice_set ss r t) later_boxes
  boxes_go rank hart agree = go act refl
    where
      missed_sending : (link part : ℕ) → act ≡ Act.Miss link part
          → (k : Sending) × (sender_of s.sides link part ≡ Some k) → AreBoxes image (slice_set ss r t) boxes
      missed_sending link part e has =
          let one = sender_went link part has.0 (ap box_id_of e) has.1 in
          let w = one.1 in
          let acts = subst (λ x. SenderActs image.version stamp x w.s0 one.0) e w.went in
          boxes_then link part one.0 w.r0 w.here (agree_here link part one.0 w.r0 w.here agree) boxes
          (w.box_there ∙ ap (λ z. Some (box_of image.version z w.r0)) (sym acts.2))
          (λ n ne. refl)

      missed_receiving : (link part : ℕ) → act ≡ Act.Miss link part
          → (k : Receiving) × (receiver_of s.sides link part ≡ Some k) → AreBoxes image (slice_set ss r t) boxes
      missed_receiving link part e has =
          let one = receiver_went link part has.0 (ap box_id_of e) has.1 in
          let w = one.1 in
          let acts = subst (λ x. ReceiverActs image.version stamp x w.r0 one.0) e w.went in
          boxes_then link part w.s0 one.0 w.here (agree_here link part w.s0 one.0 w.here agree) boxes
          (w.box_there ∙ ap (λ z. Some (box_of image.version w.s0 z)) (sym acts.2))
          (λ n ne. refl)

      go : (a : Act) → act ≡ a
          → (later_boxes : List Box)
          × PartsMoveAt BoxMoves (box_for a) boxes (record { rank = rank; hart = hart; stamp = stamp; act = a }) later_boxes
          × AreBoxes image (slice_set ss r t) later_boxes
      go Act.Plain e = (boxes, refl, boxes_stay (ap box_id_of e))
      go Act.Local e = (boxes, refl, boxes_stay (ap box_id_of e))
      go (Act.Hub clock request reply) e = (boxes, refl, boxes_stay (ap box_id_of e))
      go Act.Held e = (boxes, refl, boxes_stay (ap box_id_of e))
      go Act.Idle e = (boxes, refl, boxes_stay (ap box_id_of e))
      go (Act.Miss link part) e = (
        boxes,
        refl,
        ⊎_elim (missed_sending link part e) (missed_receiving link part e) (subst (HasKey s.sides) e keys.there),
      )
      go (Act.Ready link part bytes) e =
          let has = subst (HasKey s.sides) e keys.there in
          let one = sender_went link part has.0 (ap box_id_of e) has.1 in
          let w = one.1 in
          let acts = subst (λ x. SenderActs image.version stamp x w.s0 one.0) e w.went in
          let now = agree_here link part one.0 w.r0 w.here agree in (
            slice_set boxes (box_number link part) (box_of image.version one.0 w.r0),
            (
              box_of image.version w.s0 w.r0,
              box_of image.version one.0 w.r0,
              w.box_there,
              (
                ready_empty image.version w.s0 w.r0 acts.0 stamp w.before acts.3,
                ap (λ z. box_of image.version z w.r0) acts.5
                    ∙ ready_box image.version w.s0 w.r0 acts.0 stamp w.before acts.3
                    ∙ ap (with_made (box_of image.version w.s0 w.r0) stamp) (sym acts.2),
              ),
              refl,
            ),
            put link part w.s0 one.0 w.r0 w.r0 w.here now w.box_there,
          )
      go (Act.Take link part gate bytes) e =
          let has = subst (HasKey s.sides) e keys.there in
          let one = receiver_went link part has.0 (ap box_id_of e) has.1 in
          let w = one.1 in
          let acts = subst (λ x. ReceiverActs image.version stamp x w.r0 one.0) e w.went in
          let now = agree_here link part w.s0 one.0 w.here agree in
          let after = subst (λ z. AgreeOn image.version w.s0 z) acts.5 now in (
            slice_set boxes (box_number link part) (box_of image.version w.s0 one.0),
            (
              box_of image.version w.s0 w.r0,
              box_of image.version w.s0 one.0,
              w.box_there,
              (
                subst (Holds (box_of image.version w.s0 w.r0)) (sym acts.4)
                    (take_holds image.version w.s0 w.r0 acts.0 gate stamp acts.1 w.before after acts.2),
                take_stamp image.version w.s0 w.r0 acts.0 gate stamp acts.1 w.before after acts.2,
                ap (λ z. box_of image.version w.s0 z) acts.5
                    ∙ take_box image.version w.s0 w.r0 acts.0 gate stamp acts.1 w.before after acts.2,
              ),
              refl,
            ),
            put link part w.s0 w.s0 w.r0 one.0 w.here now w.box_there,
          )
      go (Act.Freed link part gate) e =
          let has = subst (HasKey s.sides) e keys.there in
          let one = sender_went link part has.0 (ap box_id_of e) has.1 in
          let w = one.1 in
          let acts = subst (λ x. SenderActs image.version stamp x w.s0 one.0) e w.went in
          let now = agree_here link part one.0 w.r0 w.here agree in
          let after = subst (λ z. AgreeOn image.version z w.r0) acts.3 now in (
            slice_set boxes (box_number link part) (box_of image.version one.0 w.r0),
            (
              box_of image.version w.s0 w.r0,
              box_of image.version one.0 w.r0,
              w.box_there,
              (
                freed_empty image.version w.s0 w.r0 acts.0 gate after acts.1,
                freed_stamp image.version w.s0 w.r0 acts.0 gate after acts.1,
                ap (λ z. box_of image.version z w.r0) acts.3,
              ),
              refl,
            ),
            put link part w.s0 one.0 w.r0 w.r0 w.here now w.box_there,
          )

-- where a rank's sides stay the boxes do
pub boxes_same : (image : ImageParts) (ss : List Station) (r : ℕ) (s t : Station) (boxes : List Box)
    → slice_get ss r ≡ Some s → t.sides ≡ s.sides → AreBoxes image ss boxes → AreBoxes image (slice_set ss r t) boxes
boxes_same image ss r s t boxes there same are link part l at low =
    let old = are link part l at low in
    let from = later l.from old.0 old.2 in
    let to = later l.to old.1 old.3 in
    let b = old.4 in (
      from.0,
      to.0,
      from.1,
      to.1,
      record {
        sender = b.sender;
        receiver = b.receiver;
        sends = ap (λ (z : Sides). sender_of z link part) from.2 ∙ b.sends;
        receives = ap (λ (z : Sides). receiver_of z link part) to.2 ∙ b.receives;
        agree = b.agree;
        box_is = b.box_is;
      },
    )
  where
    later : (q : ℕ) (x : Station) → slice_get ss q ≡ Some x
        → (y : Station) × (slice_get (slice_set ss r t) q ≡ Some y) × (y.sides ≡ x.sides)
    later q x at = elim (eqb_tells r q) [
      | inl here ↦ (
        t,
        ap (slice_get (slice_set ss r t)) (sym here.1) ∙ get-set_same ss r s t there,
        same ∙ ap (λ (z : Station). z.sides) (same_Some s x (sym there ∙ ap (slice_get ss) here.1 ∙ at)),
      )
      | inr other ↦ (x, get-set_other ss r q t other.1 ∙ at, refl)
    ]
