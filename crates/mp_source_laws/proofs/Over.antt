-- Posts that are over, in one hub and in an alike one.
use Rattle.std.proofs.Common.{◌≡◌, ℕ, inl, inr, Option, Some, None, refl, sym, ap, ◌∙◌}
use Rattle.std.specs.List.{slice_get}
use Rattle.std.specs.Option.{option_map}
use Rattle.std.proofs.lemmas.Option.{same_Some}
use Rattle.mp_match.specs.declared.posts.Line.{Line}
use Rattle.mp_match.specs.declared.posts.Post.{Post}
use Rattle.mp_match.specs.declared.posts.Post.TheVariants.{Send, Receive, Claim}
use Rattle.mp_match.specs.declared.posts.Selection.{Selection}
use Rattle.mp_match.specs.Board.{Board}
use Rattle.mp_alike_laws.specs.Renaming.{Renaming, line_by}
use Rattle.mp_source_laws.specs.Alike.{IsAlikeAt, IsOver, IsOverReceive, IsOverSend, IsSameAt, is_same, over_receives, over_sends}

-- ---- what is over has a partner, and is no claim

abbrev pub paired : Post → ℕ → Line
paired post partner = record { post = post; partner = Some partner }

pub send_paired : (b : Board) (place : ℕ) (line : Line) → IsOverSend b place → slice_get b.lines place ≡ Some line
    → line.partner ≡ None → ⊥
send_paired b place line o here free =
    let e : line ≡ paired (Send o.sent) o.partner = same_Some line (paired (Send o.sent) o.partner) (sym here ∙ o.there) in
    let f : None ≡ Some o.partner = sym free ∙ ap (λ (z : Line). z.partner) e in
    absurd (cc)

pub receive_paired : (b : Board) (place : ℕ) (line : Line) → IsOverReceive b place → slice_get b.lines place ≡ Some line
    → line.partner ≡ None → ⊥
receive_paired b place line o here free =
    let e : line ≡ paired (Receive o.what) o.partner = same_Some line (paired (Receive o.what) o.partner) (sym here ∙ o.there) in
    let f : None ≡ Some o.partner = sym free ∙ ap (λ (z : Line). z.partner) e in
    absurd (cc)

pub free_is_live : (b : Board) (place : ℕ) (line : Line) → slice_get b.lines place ≡ Some line → line.partner ≡ None
    → IsOver b place → ⊥
free_is_live b place line here free (inl o) = send_paired b place line o here free
free_is_live b place line here free (inr o) = receive_paired b place line o here free

pub claim_is_live : (b : Board) (place : ℕ) (line : Line) (what : Selection) → slice_get b.lines place ≡ Some line
    → line.post ≡ Claim what → IsOver b place → ⊥
claim_is_live b place line what here is (inl o) =
    let e : line ≡ paired (Send o.sent) o.partner = same_Some line (paired (Send o.sent) o.partner) (sym here ∙ o.there) in
    let f : Claim what ≡ Send o.sent = sym is ∙ ap (λ (z : Line). z.post) e in
    absurd (cc)
claim_is_live b place line what here is (inr o) =
    let e : line ≡ paired (Receive o.what) o.partner = same_Some line (paired (Receive o.what) o.partner) (sym here ∙ o.there) in
    let f : Claim what ≡ Receive o.what = sym is ∙ ap (λ (z : Line). z.post) e in
    absurd (cc)

-- one post isn't over in both ways
pub one_way : (b : Board) (place : ℕ) → IsOverSend b place → IsOverReceive b place → ⊥
one_way b place s r =
    let e : paired (Send s.sent) s.partner ≡ paired (Receive r.what) r.partner =
    same_Some (paired (Send s.sent) s.partner) (paired (Receive r.what) r.partner) (sym s.there ∙ r.there) in
    let f : Send s.sent ≡ Receive r.what = ap (λ (z : Line). z.post) e in
    absurd (cc)

-- ---- in two boards

module _ (names : Renaming) (a b : Board) where
  pub same_or_over : (place : ℕ) → IsAlikeAt names a b place → (IsOver a place → ⊥) → IsSameAt names a b place
  same_or_over place (is_same same) live = same
  same_or_over place (over_sends mine theirs) live = absurd (live (inl mine))
  same_or_over place (over_receives mine theirs) live = absurd (live (inr mine))

  module _ (bodies : (place : ℕ) → slice_get b.bodies (names.to place) ≡ slice_get a.bodies place) (place : ℕ)
      (same : IsSameAt names a b place) where
    pub send_there : IsOverSend a place → IsOverSend b (names.to place)
    send_there o = record {
      sent = o.sent;
      partner = names.to o.partner;
      there = same ∙ ap (option_map (line_by names)) o.there;
      standard = o.standard;
      gone = bodies place ∙ o.gone;
    }

    pub receive_there : IsOverReceive a place → IsOverReceive b (names.to place)
    receive_there o = record {
      what = o.what;
      partner = names.to o.partner;
      there = same ∙ ap (option_map (line_by names)) o.there;
      gone = bodies o.partner ∙ o.gone;
    }

    -- the line of which this one is the renamed
    record From (post : Post) (partner : ℕ) : Type 0 where
      before : ℕ
      there : slice_get a.lines place ≡ Some (paired post before)
      goes : names.to before ≡ partner

    from : (post : Post) (partner : ℕ) → slice_get b.lines (names.to place) ≡ Some (paired post partner) → From post partner
    from post partner here = go (slice_get a.lines place) refl (sym same ∙ here)
      where
        go : (o : Option Line) → slice_get a.lines place ≡ o → option_map (line_by names) o ≡ Some (paired post partner)
            → From post partner
        go None e h = absurd (cc)
        go (Some m) e h =
            let is : line_by names m ≡ paired post partner = same_Some (line_by names m) (paired post partner) h in
            by m.partner refl (ap (λ (z : Line). z.post) is) (ap (λ (z : Line). z.partner) is)
          where
            by : (q : Option ℕ) → m.partner ≡ q → m.post ≡ post → option_map names.to q ≡ Some partner → From post partner
            by None p same' h' = absurd (cc)
            by (Some k) p same' h' = record {
              before = k;
              there = e ∙ ap (λ z. Some z) (λ i. record { post = same' i; partner = p i });
              goes = same_Some (names.to k) partner h';
            }

    pub send_here : IsOverSend b (names.to place) → IsOverSend a place
    send_here o =
        let f = from (Send o.sent) o.partner o.there in
        record {
          sent = o.sent;
          partner = f.before;
          there = f.there;
          standard = o.standard;
          gone = sym (bodies place) ∙ o.gone;
        }

    pub receive_here : IsOverReceive b (names.to place) → IsOverReceive a place
    receive_here o =
        let f = from (Receive o.what) o.partner o.there in
        record {
          what = o.what;
          partner = f.before;
          there = f.there;
          gone = sym (bodies f.before) ∙ ap (slice_get b.bodies) f.goes ∙ o.gone;
        }

  -- a post is over in both or in neither
  pub over_here : ((place : ℕ) → slice_get b.bodies (names.to place) ≡ slice_get a.bodies place) → (place : ℕ)
      → IsAlikeAt names a b place → IsOver b (names.to place) → IsOver a place
  over_here bodies place (is_same same) (inl o) = inl (send_here bodies place same o)
  over_here bodies place (is_same same) (inr o) = inr (receive_here bodies place same o)
  over_here bodies place (over_sends mine theirs) o = inl mine
  over_here bodies place (over_receives mine theirs) o = inr mine

  pub over_there : ((place : ℕ) → slice_get b.bodies (names.to place) ≡ slice_get a.bodies place) → (place : ℕ)
      → IsAlikeAt names a b place → IsOver a place → IsOver b (names.to place)
  over_there bodies place (is_same same) (inl o) = inl (send_there bodies place same o)
  over_there bodies place (is_same same) (inr o) = inr (receive_there bodies place same o)
  over_there bodies place (over_sends mine theirs) o = inl theirs
  over_there bodies place (over_receives mine theirs) o = inr theirs
