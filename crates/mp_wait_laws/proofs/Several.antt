-- Several posts, of which one isn't ready.
use Rattle.std.proofs.Common.{◌≡◌, ℕ, zero, suc, ◌⊎◌, inl, inr, List, [], ◌∷◌, Bool, true, false, cond, not, Option, Some, None, refl, sym, ap, ◌∙◌, subst}
use Rattle.std.specs.Prelude.{◌&&◌}
use Rattle.std.specs.List.{slice_get, list_all}
use Rattle.std.specs.Option.{is_some}
use Rattle.std.proofs.lemmas.Bool.{and_from, and_left, and_parts, and_right, cases_Bool, cond-true, cond-false, not_from_false, or_cases, or_left, or_right}
use Rattle.std.proofs.lemmas.Option.{same_Some}
use Rattle.mp_types.specs.declared.codes.Code.TheVariants.{BadRequest}
use Rattle.mp_types.specs.declared.replies.Reply.{Reply}
use Rattle.mp_types.specs.declared.replies.Reply.TheVariants as reply
use Rattle.mp_types.specs.declared.requests.Request.{Request}
use Rattle.mp_types.specs.declared.requests.Request.TheVariants.{All}
use Rattle.mp_match.specs.declared.posts.Selection.{Selection}
use Rattle.mp_match.specs.declared.posts.Post.{Post}
use Rattle.mp_match.specs.declared.posts.Line.{Line}
use Rattle.mp_match.specs.Pairs.{partner_of_line}
use Rattle.mp_match.specs.Board.{Board, is_gone, is_held, is_receive_of, is_send_of, line_of, partner_of}
use Rattle.mp_match.proofs.OrderKept.{Takes}
use Rattle.mp_match.proofs.Places.{get_within}
use Rattle.mp_probe.specs.Claims.{is_waiting}
use Rattle.mp_hub.specs.Hub.{HubView, all_collected, all_got, are_distinct, is_complete, is_known, is_ready, may_collect, outcome}
use Rattle.mp_wait_laws.specs.Waits.{OnlyOf, could_pair}
use Rattle.mp_wait_laws.specs.Laws.{SendsAsMember}
use Rattle.mp_wait_laws.proofs.Lines.{post_stays}
use Rattle.mp_wait_laws.proofs.Moves.{GrowsBy, all, fits_all, moves}
use Rattle.mp_wait_laws.proofs.Collects.{NoMessage, mine_at, no_message_stays, no_message_up_to, none_waits, not_false, not_true, sources_at, taken_at}
use Rattle.mp_wait_laws.proofs.Fresh.{Fresh, HasBody, Laid, fresh_stays}
use Rattle.mp_wait_laws.proofs.Sends.{Unmatched, incomplete, is_its_send, unmatched_made, unmatched_stays, unmatched_up_to}

-- ---- tests of all

all_at : (t : ℕ → Bool) (ns : List ℕ) → list_all t ns ≡ true → (i n : ℕ) → slice_get ns i ≡ Some n → t n ≡ true
all_at t [] all i n here = absurd (cc)
all_at t (m ∷ ns) all zero n here = subst (λ k. t k ≡ true) (same_Some m n here) (and_parts (t m) (list_all t ns) all).0
all_at t (m ∷ ns) all (suc i) n here = all_at t ns (and_parts (t m) (list_all t ns) all).1 i n here

all_from : (t : ℕ → Bool) (ns : List ℕ) → ((i n : ℕ) → slice_get ns i ≡ Some n → t n ≡ true) → list_all t ns ≡ true
all_from t [] each = refl
all_from t (m ∷ ns) each =
    and_from (t m) (list_all t ns) (each 0 m refl) (all_from t ns (λ i n here. each (suc i) n here))

one_not : (t : ℕ → Bool) (ns : List ℕ) (i n : ℕ) → slice_get ns i ≡ Some n → t n ≡ false → list_all t ns ≡ false
one_not t [] i n here off = absurd (cc)
one_not t (m ∷ ns) zero n here off =
    and_left (t m) (list_all t ns) (subst (λ k. t k ≡ false) (sym (same_Some m n here)) off)
one_not t (m ∷ ns) (suc i) n here off = and_right (t m) (list_all t ns) (one_not t ns i n here off)

-- ---- a post that a rank may ask for

-- its send, or its receive that it didn't collect
pub data Known (h : HubView) (r number : ℕ) : Type 0 where
  sends : is_send_of r (line_of h.board number) ≡ true → Known h r number
  takes : (place : ℕ) → number ≡ suc place → Fresh h.board r place → is_waiting h.claims (suc place) ≡ false
      → Known h r number

body_from : (b : Board) (o : Option ℕ) → is_gone b o ≡ false → HasBody b o
body_from b None gone j e = absurd (cc)
body_from b (Some k) gone j e = subst (λ i. is_held (slice_get b.bodies i) ≡ true) (same_Some k j e) (not_false _ gone)

gone_from : (b : Board) (o : Option ℕ) → HasBody b o → is_gone b o ≡ false
gone_from b None body = refl
gone_from b (Some k) body = ap not (body k refl)

some_line : (r : ℕ) (o : Option Line) → is_receive_of r o ≡ true → (line : Line) × (o ≡ Some line)
some_line r None h = absurd (cc)
some_line r (Some line) h = (line, refl)

known_from : (h : HubView) (r number : ℕ) → is_known h r number ≡ true → Known h r number
known_from h r zero known = absurd (cc)
known_from h r (suc place) known =
    elim (or_cases (may_collect h r (suc place)) (is_send_of r (line_of h.board (suc place))) known) [
      | inl may ↦ receive may
      | inr its ↦ sends its
    ]
  where
    receive : may_collect h r (suc place) ≡ true → Known h r (suc place)
    receive may =
        let parts =
        and_parts (is_receive_of r (line_of h.board (suc place)) && not (is_waiting h.claims (suc place)))
        (not (is_gone h.board (partner_of h.board (suc place)))) may in
        let two =
        and_parts (is_receive_of r (line_of h.board (suc place))) (not (is_waiting h.claims (suc place)))
        parts.0 in
        let l = some_line r (line_of h.board (suc place)) two.0 in
        let t = taken_at (l.0).post (l.0).partner r (sym (ap (is_receive_of r) l.1) ∙ two.0) in
        takes place refl
        (record {
          line = l.0;
          here = l.1;
          what = t.0;
          takes = t.1;
          mine = t.2;
          body =
              body_from h.board (l.0).partner
              (subst (λ o. is_gone h.board o ≡ false) (ap partner_of_line l.1) (not_true _ parts.1));
        })
        (not_true _ two.1)

is_its_receive : (h : HubView) (r place : ℕ) → Fresh h.board r place
    → is_receive_of r (line_of h.board (suc place)) ≡ true
is_its_receive h r place f =
    ap (is_receive_of r) f.here ∙ mine_at (f.line).post (f.line).partner f.what r f.takes f.mine

is_known_again : (h : HubView) (r number : ℕ) → Known h r number → is_known h r number ≡ true
is_known_again h r number (sends its) = or_right (may_collect h r number) _ its
is_known_again h r number (takes place e f idle) =
    subst (λ n. is_known h r n ≡ true) (sym e)
    (or_left (may_collect h r (suc place)) _
    (and_from _ _ (and_from _ _ (is_its_receive h r place f) (not_from_false _ idle))
    (not_from_false _ (ap (λ (o : Option ℕ). is_gone h.board o) (ap partner_of_line f.here)
    ∙ gone_from h.board (f.line).partner f.body))))

send_line_stays : (r other : ℕ) (h k : HubView) (number : ℕ) → GrowsBy all other h.board.lines k.board.lines
    → is_send_of r (line_of h.board number) ≡ true → is_send_of r (line_of k.board number) ≡ true
send_line_stays r other h k zero g its = absurd (cc)
send_line_stays r other h k (suc place) (inl same) its =
    subst (λ ms. is_send_of r (slice_get ms place) ≡ true) (sym same) its
send_line_stays r other h k (suc place) (inr g) its =
    let l = line (slice_get h.board.lines place) its in
    let n = post_stays h.board.lines g.0 place l.0 l.1 in
    subst (λ ms. is_send_of r (slice_get ms place) ≡ true) (sym g.2)
    (ap (is_send_of r) n.1
    ∙ ap (λ (p : Post). is_send_of r (Some (record { post = p; partner = (n.0).partner }))) n.2
    ∙ sym (ap (is_send_of r) l.1) ∙ its)
  where
    line : (o : Option Line) → is_send_of r o ≡ true → (x : Line) × (o ≡ Some x)
    line None h = absurd (cc)
    line (Some x) h = (x, refl)

known_stays : (r other : ℕ) → (other ≡ r → ⊥) → (h : HubView) (q : Request) → Laid h → (number : ℕ)
    → Known h r number → Known (outcome h other q).1 r number
known_stays r other apart h q laid number (sends its) =
    sends (send_line_stays r other h (outcome h other q).1 number (moves all h other q (fits_all other q)).lines its)
known_stays r other apart h q laid number (takes place e f idle) =
    takes place e (fresh_stays r other place apart h q laid f)
    (none_waits other h (outcome h other q).1 place (moves all h other q (fits_all other q)).claims
    (get_within h.board.lines place f.line f.here) idle)

-- ---- all of them

-- this post isn't ready, and could be by these ranks alone
abbrev pub Missing : (ℕ → ℕ → Bool) → (ℕ → Bool) → HubView → ℕ → ℕ → Type 0
Missing member among h r place = NoMessage member among h r place ⊎ Unmatched member among h r place

pub record NotAll (member : ℕ → ℕ → Bool) (among : ℕ → Bool) (h : HubView) (r : ℕ) (numbers : List ℕ) : Type 0 where
  pub distinct : are_distinct numbers ≡ true
  pub known : (i number : ℕ) → slice_get numbers i ≡ Some number → Known h r number
  pub at : ℕ
  pub place : ℕ
  pub here : slice_get numbers at ≡ Some (suc place)
  pub missing : Missing member among h r place

taken_no_send : (p : Post) (o : Option ℕ) (a : Selection) (r : ℕ) → Takes p a
    → is_send_of r (Some (record { post = p; partner = o })) ≡ false
taken_no_send p o a r (inl e) = ap (λ (x : Post). is_send_of r (Some (record { post = x; partner = o }))) e
taken_no_send p o a r (inr e) = ap (λ (x : Post). is_send_of r (Some (record { post = x; partner = o }))) e

module _ (member : ℕ → ℕ → Bool) (among : ℕ → Bool) where
  unready : (h : HubView) (r place : ℕ) → Missing member among h r place → is_ready h r (suc place) ≡ false
  unready h r place (inl n) =
      cond-false (is_send_of r (line_of h.board (suc place))) (is_complete h (suc place))
      (is_some (partner_of h.board (suc place)))
      (ap (is_send_of r) n.here ∙ taken_no_send (n.line).post (n.line).partner n.what r n.takes)
      ∙ ap is_some (ap partner_of_line n.here ∙ n.free)
  unready h r place (inr n) =
      cond-true (is_send_of r (line_of h.board (suc place))) (is_complete h (suc place))
      (is_some (partner_of h.board (suc place)))
      (is_its_send member among h r place n)
      ∙ incomplete member among h r place n

  pub not_all_waits : (h : HubView) (r : ℕ) (ns : List ℕ) → NotAll member among h r ns
      → outcome h r (All ns) ≡ (reply.NotYet, h)
  not_all_waits h r ns w =
      cond-true (are_distinct ns && list_all (λ n. is_known h r n) ns)
      (cond (list_all (λ n. is_ready h r n) ns) (all_collected h (all_got r h.board ns)) (reply.NotYet, h))
      (reply.Code BadRequest, h)
      (and_from (are_distinct ns) _ w.distinct
      (all_from (λ n. is_known h r n) ns (λ i n here. is_known_again h r n (w.known i n here))))
      ∙ cond-false (list_all (λ n. is_ready h r n) ns) (all_collected h (all_got r h.board ns)) (reply.NotYet, h)
      (one_not (λ n. is_ready h r n) ns w.at (suc w.place) w.here (unready h r w.place w.missing))

  missing_stays : (h : HubView) (r other place : ℕ) (q : Request) → SendsAsMember member other q
      → among other ≡ false → Missing member among h r place → Missing member among (outcome h other q).1 r place
  missing_stays h r other place q fits out (inl n) =
      inl (no_message_stays member among h (outcome h other q).1 r place other (moves member h other q fits) out n)
  missing_stays h r other place q fits out (inr n) =
      inr (unmatched_stays member among h (outcome h other q).1 r place other (moves member h other q fits) out n)

  pub not_all_stays : (h : HubView) (r other : ℕ) (q : Request) (ns : List ℕ) → Laid h → SendsAsMember member other q
      → among other ≡ false → among r ≡ true → NotAll member among h r ns
      → NotAll member among (outcome h other q).1 r ns
  not_all_stays h r other q ns laid fits out inside w = record {
    distinct = w.distinct;
    known = λ i n here. known_stays r other apart h q laid n (w.known i n here);
    at = w.at;
    place = w.place;
    here = w.here;
    missing = missing_stays h r other w.place q fits out w.missing;
  }
    where
      apart : other ≡ r → ⊥
      apart same = (let in_too : among other ≡ true = subst (λ k. among k ≡ true) (sym same) inside in absurd (cc))

  missing_up_to : (h : HubView) (r place : ℕ) → Missing member among h r place
      → OnlyOf among (could_pair member (line_of h.board (suc place)))
  missing_up_to h r place (inl n) = no_message_up_to member among h r place n
  missing_up_to h r place (inr n) = unmatched_up_to member among h r place n

  -- one of the posts isn't ready, and could be by these ranks alone
  abbrev pub OneMissing : HubView → ℕ → List ℕ → Type 0
  OneMissing h r ns =
      (i : ℕ) × (post : ℕ) × (slice_get ns i ≡ Some post) × (is_ready h r post ≡ false) × OnlyOf among
      (could_pair member (line_of h.board post))

  pub not_all_up_to : (h : HubView) (r : ℕ) (ns : List ℕ) → NotAll member among h r ns → OneMissing h r ns
  not_all_up_to h r ns w =
      (w.at, suc w.place, w.here, unready h r w.place w.missing, missing_up_to h r w.place w.missing)

  missing_from : (h : HubView) (r number : ℕ) → Laid h → Known h r number → is_ready h r number ≡ false
      → OnlyOf among (could_pair member (line_of h.board number))
      → (place : ℕ) × (number ≡ suc place) × Missing member among h r place
  missing_from h r zero laid (sends its) off only = absurd (cc)
  missing_from h r (suc place) laid (sends its) off only = (
    place,
    refl,
    inr (unmatched_made member among h r place laid.good laid.owned its
        (sym (cond-true (is_send_of r (line_of h.board (suc place))) (is_complete h (suc place))
        (is_some (partner_of h.board (suc place))) its) ∙ off) only),
  )
  missing_from h r number laid (takes place e f idle) off only = (
    place,
    e,
    inl (record {
      line = f.line;
      here = f.here;
      what = f.what;
      takes = f.takes;
      mine = f.mine;
      free = no_partner (f.line).partner
          (ap is_some (sym (ap partner_of_line f.here))
          ∙ sym (cond-false (is_send_of r (line_of h.board (suc place))) (is_complete h (suc place))
          (is_some (partner_of h.board (suc place)))
          (ap (is_send_of r) f.here ∙ taken_no_send (f.line).post (f.line).partner f.what r f.takes))
          ∙ subst (λ n. is_ready h r n ≡ false) e off);
      idle = idle;
      only = sources_at member among (f.line).post (f.line).partner f.what f.takes
          (subst (λ (o : Option Line). OnlyOf among (could_pair member o)) f.here
          (subst (λ n. OnlyOf among (could_pair member (line_of h.board n))) e only));
    }),
  )
    where
      no_partner : (o : Option ℕ) → is_some o ≡ false → o ≡ None
      no_partner None e = refl
      no_partner (Some k) e = absurd (cc)

  pub not_all_from : (h : HubView) (r : ℕ) (ns : List ℕ) → Laid h → (outcome h r (All ns)).0 ≡ reply.NotYet
      → OneMissing h r ns → NotAll member among h r ns
  not_all_from h r ns laid answer one = elim (cases_Bool (are_distinct ns && list_all (λ n. is_known h r n) ns)) [
    | inl fine ↦
        let parts = and_parts (are_distinct ns) (list_all (λ n. is_known h r n) ns) fine in
        let known : (i n : ℕ) → slice_get ns i ≡ Some n → Known h r n =
        λ i n here. known_from h r n (all_at (λ n. is_known h r n) ns parts.1 i n here) in
        let m = missing_from h r one.1 laid (known one.0 one.1 one.2) one.3 one.4 in
        record {
          distinct = parts.0;
          known = known;
          at = one.0;
          place = m.0;
          here = one.2 ∙ ap (λ k. Some k) m.1;
          missing = m.2;
        }
    | inr refused ↦
        let told : reply.Code BadRequest ≡ reply.NotYet =
        ap (λ (o : Reply × HubView). o.0) (sym (cond-false (are_distinct ns && list_all (λ n. is_known h r n) ns)
        (cond (list_all (λ n. is_ready h r n) ns) (all_collected h (all_got r h.board ns)) (reply.NotYet, h))
        (reply.Code BadRequest, h) refused)) ∙ answer in
        absurd (cc)
  ]
