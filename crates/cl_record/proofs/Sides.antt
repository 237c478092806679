-- Sides that are taken out of their ranks' lists.
use Rattle.std.specs.Prelude.{ℕ, zero, suc, ◌≡◌, ◌≢◌, ◌<◌, ◌+◌, ◌==◌, List, [], ◌∷◌, ◌++◌, length, remove}
use Rattle.std.specs.Prelude.{slice_get, slice_set}
use Rattle.std.specs.Prelude.{Bool, Some, None, get_or, if◌then◌else◌}
use Rattle.std.proofs.Common.{refl, sym, ap, ◌∙◌, subst, arith, inl, inr}
use Rattle.std.proofs.lemmas.Bool.{eq-eqb, ne_eqb}
use Rattle.std.proofs.lemmas.Bool.Decides.{eqb_tells}
use Rattle.std.proofs.lemmas.Option.{get_or_from_slice_get, same_Some, slice_get_within}
use Rattle.rv_image_types.specs.declared.images.Link.{Link}
use Rattle.part_channel.specs.Channels.{ChannelView}
use Rattle.part_channel.specs.Receiving.{RecvView}
use Rattle.part_channel.specs.Sending.{SendView}
use Rattle.cl_rank.specs.RankSides.{side_of}
use Rattle.cl_machine.proofs.Lists.{get-set_other, get-set_same}
use Rattle.part_box.specs.declared.settled.Settled.{Settled}
use Rattle.cl_record.specs.Settling.{AreSettled, AreSidesOf, HasReceiverOf, HasSenderOf, IsLinkSettled, Kept}
use Rattle.cl_record.specs.declared.wiring.Ends.{Ends}
use Rattle.cl_record.proofs.Elements.{last_or_before}

side_here : {S : Type 0} (side : ℕ × S) (sides : List (ℕ × S)) (link : ℕ) → side.0 ≡ link
    → side_of link (side ∷ sides) ≡ Some side.1
side_here side sides link e =
    ap (λ (b : Bool). if b then Some side.1 else side_of link sides) (eq-eqb side.0 link e)

side_past : {S : Type 0} (side : ℕ × S) (sides : List (ℕ × S)) (link : ℕ) → side.0 ≢ link
    → side_of link (side ∷ sides) ≡ side_of link sides
side_past side sides link e =
    ap (λ (b : Bool). if b then Some side.1 else side_of link sides) (ne_eqb side.0 link e)

-- where no side is one of the link there is none
pub none_of : {S : Type 0} (sides : List (ℕ × S)) (link : ℕ)
    → ((k : ℕ) (other : ℕ × S) → k < length sides → slice_get sides k ≡ Some other → other.0 ≢ link)
    → side_of link sides ≡ None
none_of [] link h = refl
none_of (side ∷ sides) link h =
    side_past side sides link (h 0 side (omega arith) refl)
    ∙ none_of sides link (λ k other below at. h (suc k) other (omega (arith, below)) at)

-- the first side of a link is its side
pub first_of : {S : Type 0} (sides : List (ℕ × S)) (place link : ℕ) (s : S) → slice_get sides place ≡ Some (link, s)
    → ((k : ℕ) (other : ℕ × S) → k < place → slice_get sides k ≡ Some other → other.0 ≢ link)
    → side_of link sides ≡ Some s
first_of [] place link s at first = absurd (cc)
first_of (side ∷ sides) zero link s at first =
    let is : side ≡ (link, s) = same_Some side (link, s) at in
    side_here side sides link (ap (λ (x : ℕ × _). x.0) is) ∙ ap (λ (x : ℕ × _). Some x.1) is
first_of (side ∷ sides) (suc place) link s at first =
    side_past side sides link (first 0 side (omega arith) refl)
    ∙ first_of sides place link s at (λ k other below e. first (suc k) other (omega (arith, below)) e)

-- the others stay where it is taken out
pub others_of : {S : Type 0} (sides : List (ℕ × S)) (place link other : ℕ) (s : S)
    → slice_get sides place ≡ Some (link, s) → other ≢ link
    → side_of other (remove sides place) ≡ side_of other sides
others_of [] place link other s at ne = absurd (cc)
others_of (side ∷ sides) zero link other s at ne =
    let is : side ≡ (link, s) = same_Some side (link, s) at in
    sym (side_past side sides other (λ e. ne (sym e ∙ ap (λ (x : ℕ × _). x.0) is)))
others_of (side ∷ sides) (suc place) link other s at ne =
    ap (λ rest. if side.0 == other then Some side.1 else rest) (others_of sides place link other s at ne)

-- all are left at first
pub all_kept : (ends : List Ends) (sends recvs : ℕ) → Kept ends ends sends recvs
all_kept ends sends recvs r was at = (was, at, (λ link low. refl), (λ link low. refl))

-- a sender's side is taken
pub kept_sends : (were now : List Ends) (link recvs f : ℕ) (x y : Ends) → slice_get now f ≡ Some x
    → ((other : ℕ) → other ≢ link → side_of other y.sends.items ≡ side_of other x.sends.items)
    → y.recvs.items ≡ x.recvs.items → Kept were now link recvs → Kept were (slice_set now f y) (link + 1) recvs
kept_sends were now link recvs f x y at others same kept r was at_was =
    let h = kept r was at_was in
    elim (eqb_tells f r) [
      | inl here ↦
          let is : x ≡ h.0 = same_Some x h.0 (sym at ∙ ap (slice_get now) here.1 ∙ h.1) in (
            y,
            ap (slice_get (slice_set now f y)) (sym here.1) ∙ get-set_same now f x y at,
            (λ k low. others k (λ e. omega (arith, low, e)) ∙ ap (λ (z : Ends). side_of k z.sends.items) is
                ∙ h.2 k (omega (arith, low))),
            (λ k low. ap (side_of k) same ∙ ap (λ (z : Ends). side_of k z.recvs.items) is ∙ h.3 k low),
          )
      | inr other ↦ (h.0, get-set_other now f r y other.1 ∙ h.1, (λ k low. h.2 k (omega (arith, low))), h.3)
    ]

-- a receiver's side is taken
pub kept_recvs : (were now : List Ends) (sends link f : ℕ) (x y : Ends) → slice_get now f ≡ Some x
    → ((other : ℕ) → other ≢ link → side_of other y.recvs.items ≡ side_of other x.recvs.items)
    → y.sends.items ≡ x.sends.items → Kept were now sends link → Kept were (slice_set now f y) sends (link + 1)
kept_recvs were now sends link f x y at others same kept r was at_was =
    let h = kept r was at_was in
    elim (eqb_tells f r) [
      | inl here ↦
          let is : x ≡ h.0 = same_Some x h.0 (sym at ∙ ap (slice_get now) here.1 ∙ h.1) in (
            y,
            ap (slice_get (slice_set now f y)) (sym here.1) ∙ get-set_same now f x y at,
            (λ k low. ap (side_of k) same ∙ ap (λ (z : Ends). side_of k z.sends.items) is ∙ h.2 k low),
            (λ k low. others k (λ e. omega (arith, low, e)) ∙ ap (λ (z : Ends). side_of k z.recvs.items) is
                ∙ h.3 k (omega (arith, low))),
          )
      | inr other ↦ (h.0, get-set_other now f r y other.1 ∙ h.1, h.2, (λ k low. h.3 k (omega (arith, low))))
    ]

-- what comes next of a list that is gone through
pub seam : {X : Type 0} (yielded rest all : List X) (next : X) (after : List X) → yielded ++ rest ≡ all
    → rest ≡ next ∷ after → slice_get all (length yielded) ≡ Some next
seam [] rest all next after whole is = ap (λ xs. slice_get xs 0) (sym whole ∙ is)
seam (y ∷ yielded) rest all next after whole is =
    ap (λ xs. slice_get xs (length (y ∷ yielded))) (sym whole) ∙ seam yielded rest (yielded ++ rest) next after refl is

-- and with it gone through
pub seam_more : {X : Type 0} (yielded rest all : List X) (next : X) (after : List X) → yielded ++ rest ≡ all
    → rest ≡ next ∷ after → (yielded ++ next ∷ []) ++ after ≡ all
seam_more [] rest all next after whole is = sym is ∙ whole
seam_more (y ∷ yielded) rest all next after whole is =
    ap (λ xs. y ∷ xs) (seam_more yielded rest (yielded ++ rest) next after refl is) ∙ whole

-- where one follows not all are gone through
pub fewer : {X : Type 0} (yielded rest all : List X) (next : X) (after : List X) → yielded ++ rest ≡ all
    → rest ≡ next ∷ after → length yielded < length all
fewer yielded rest all next after whole is =
    slice_get_within all (length yielded) next (seam yielded rest all next after whole is)

pub next_at : {X : Type 0} (yielded rest all : List X) (n : ℕ) (next : X) (after : List X) → yielded ++ rest ≡ all
    → rest ≡ next ∷ after → n ≡ length yielded → slice_get all n ≡ Some next
next_at yielded rest all n next after whole is e = ap (slice_get all) e ∙ seam yielded rest all next after whole is

-- the two sides of a link are there where they were kept
module _ (links : List Link) (were now : List Ends) (n : ℕ) (channel : ChannelView) (own : AreSidesOf links were n channel) where
  link_is : (none : Link) → own.l ≡ get_or links n none
  link_is none = sym (get_or_from_slice_get links n own.l none own.link_there)

  pub sender_there : (none : Link) → HasSenderOf n were (get_or links n none).from
  sender_there none = (
    own.from,
    own.sends,
    ap (λ (l : Link). slice_get were l.from) (sym (link_is none)) ∙ own.from_there,
    own.sends_are,
  )

  pub receiver_there : (sends : ℕ) → Kept were now sends n → (none : Link) → HasReceiverOf n now (get_or links n none).to
  receiver_there sends kept none =
      let to = kept own.l.to own.to own.to_there in (
        to.0,
        own.receives,
        ap (λ (l : Link). slice_get now l.to) (sym (link_is none)) ∙ to.1,
        to.3 n (omega arith) ∙ own.receives_are,
      )

  -- what is taken is the link's
  pub sender_is : (none : Link) (send : SendView)
      → ((x : Ends) → slice_get were (get_or links n none).from ≡ Some x → side_of n x.sends.items ≡ Some send)
      → own.sends ≡ send
  sender_is none send side =
      same_Some own.sends send
      (sym own.sends_are
      ∙ side own.from (ap (λ (l : Link). slice_get were l.from) (sym (link_is none)) ∙ own.from_there))

  pub receiver_is : (sends : ℕ) → Kept were now sends n → (none : Link) (recv : RecvView)
      → ((x : Ends) → slice_get now (get_or links n none).to ≡ Some x → side_of n x.recvs.items ≡ Some recv)
      → own.receives ≡ recv
  receiver_is sends kept none recv side =
      let to = kept own.l.to own.to own.to_there in
      same_Some own.receives recv
      (sym (to.3 n (omega arith) ∙ own.receives_are)
      ∙ side to.0 (ap (λ (l : Link). slice_get now l.to) (sym (link_is none)) ∙ to.1))

  pub sides_now : Kept were now n n → AreSidesOf links now n channel
  sides_now kept =
      let from = kept own.l.from own.from own.from_there in
      let to = kept own.l.to own.to own.to_there in
      record {
        l = own.l;
        link_there = own.link_there;
        from = from.0;
        to = to.0;
        from_there = from.1;
        to_there = to.1;
        sends = own.sends;
        receives = own.receives;
        sends_are = from.2 n (omega arith) ∙ own.sends_are;
        receives_are = to.3 n (omega arith) ∙ own.receives_are;
        sends_own = own.sends_own;
        receives_own = own.receives_own;
      }

  -- what is left by the sides that are there is left by those that were
  pub settled_before : Kept were now n n → (left : List Settled) → IsLinkSettled links now n channel left
      → IsLinkSettled links were n channel left
  settled_before kept left settled =
      let is = settled.0 in
      let l_is : own.l ≡ is.l = same_Some own.l is.l (sym own.link_there ∙ is.link_there) in
      let from = kept own.l.from own.from own.from_there in
      let to = kept own.l.to own.to own.to_there in
      let from_is : from.0 ≡ is.from =
      same_Some from.0 is.from (sym from.1 ∙ ap (λ (l : Link). slice_get now l.from) l_is ∙ is.from_there) in
      let to_is : to.0 ≡ is.to =
      same_Some to.0 is.to (sym to.1 ∙ ap (λ (l : Link). slice_get now l.to) l_is ∙ is.to_there) in (
        record {
          l = own.l;
          link_there = own.link_there;
          from = own.from;
          to = own.to;
          from_there = own.from_there;
          to_there = own.to_there;
          sends = is.sends;
          receives = is.receives;
          sends_are = sym (from.2 n (omega arith)) ∙ ap (λ (e : Ends). side_of n e.sends.items) from_is ∙ is.sends_are;
          receives_are = sym (to.3 n (omega arith)) ∙ ap (λ (e : Ends). side_of n e.recvs.items) to_is ∙ is.receives_are;
          sends_own = is.sends_own;
          receives_own = is.receives_own;
        },
        settled.1,
      )

-- one link more is settled
pub settled_more : (links : List Link) (channels : List ChannelView) (ends : List Ends) (n : ℕ) (channel : ChannelView)
    (boxes : List (List Settled)) (left : List Settled) → slice_get channels n ≡ Some channel → n ≡ length boxes
    → IsLinkSettled links ends n channel left → AreSettled links channels ends boxes
    → AreSettled links channels ends (boxes ++ left ∷ [])
settled_more links channels ends n channel boxes left at count is settled link ch lf at_ch at_left =
    elim (last_or_before boxes left lf link at_left) [
      | inl before ↦ settled link ch lf at_ch before
      | inr last ↦
          let here : n ≡ link = count ∙ sym last.0 in
          let ch_is : channel ≡ ch = same_Some channel ch (sym at ∙ ap (slice_get channels) here ∙ at_ch) in
          subst (λ k. IsLinkSettled links ends k ch lf) here
          (subst (λ c. IsLinkSettled links ends n c lf) ch_is (subst (IsLinkSettled links ends n channel) last.1 is))
    ]
