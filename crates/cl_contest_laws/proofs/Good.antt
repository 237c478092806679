-- What is alike a good cluster is good, where its harts stand at the calls that they are to make anew.
use Rattle.std.proofs.Common.{◌≡◌, ◌∙◌, ℕ, zero, suc, refl, sym, ap, subst, Bool, true, false, not, List, [], ◌∷◌, Option, Some, None}
use Rattle.std.specs.Prelude.{◌&&◌, map}
use Rattle.std.specs.List.{slice_get}
use Rattle.std.specs.Option.{is_some, option_map}
use Rattle.std.proofs.lemmas.Option.{same_Some}
use Rattle.rv_hart.specs.State.{State as Hart, in_mode}
use Rattle.rv_hart.specs.declared.state.Mode.{Mode}
use Rattle.rv_hart.specs.declared.state.Mode.TheVariants.{Running, Waiting, Ended, Trapped}
use Rattle.rv_hart.specs.declared.state.Wait.TheVariants.{Post, Again}
use Rattle.mp_match.specs.declared.posts.Line.{Line}
use Rattle.mp_match.specs.declared.posts.Post.TheVariants as post
use Rattle.mp_match.specs.Board.{Board, is_standard}
use Rattle.mp_hub.specs.Hub.{HubView}
use Rattle.mp_alike_laws.specs.Renaming.{Renaming, followed_by, line_by, number_by, turned}
use Rattle.mp_source_laws.specs.Alike.{AlikeBoards, AlikeHubs, IsAlikeAt, Wild, is_same, over_receives, over_sends}
use Rattle.mp_source_laws.proofs.Over.{free_is_live, same_or_over}
use Rattle.mp_source_laws.proofs.Likeness.{live_back}
use Rattle.mp_source_laws.specs.Laws.{AsksFrom}
use Rattle.mp_clash_laws.specs.Exchanges.{WaitsWithin}
use Rattle.cl_names_laws.specs.Named.{hart_by, mode_by, rank_by, rank_with, table_with}
use Rattle.cl_state.specs.Rank.{Rank}
use Rattle.cl_state_laws.specs.Awake.{StandsAtCall, awake, awake_hart, woken}
use Rattle.cl_state_laws.specs.VainLaws.{at_clock}
use Rattle.cl_reduction_laws.specs.Below.{IsSameBy, as_before}
use Rattle.cl_machine.specs.Boxes.{Box}
use Rattle.cl_machine.specs.Cluster.{Cluster}
use Rattle.cl_order_laws.specs.Alike.{AlikeBoxes, both_empty, both_full, hub_of}
use Rattle.cl_order_laws.proofs.Ahead.{rank_on, with_on}
use Rattle.cl_order_laws.proofs.Likeness.{each_from, rank_fixed}
use Rattle.cl_reduction_laws.specs.Below.{AreAlike}
use Rattle.cl_reduction_laws.specs.Clusters.{IsGood, NamesRightly, Search, awake_cluster, may_be_awaited, was_made}
use Rattle.cl_reduction_laws.proofs.Awake.{with_same}
use Rattle.cl_reduction_laws.proofs.Follows.{pair_from}

-- ---- receives of any source

none_before : (names : Renaming) (o : Option ℕ) → option_map names.to o ≡ None → o ≡ None
none_before names None e = refl
none_before names (Some place) e = absurd (cc)

module _ (wild : Wild) (names : Renaming) (h k : HubView) (alike : AlikeHubs wild names h k) where
  waits_alike : WaitsWithin wild h → WaitsWithin wild k
  waits_alike waits place a here =
      go (slice_get h.board.lines (names.back place)) refl
      (sym (same_or_over names h.board k.board (names.back place) ((alike.board).lines (names.back place))
      (live_back names h.board k.board alike.board place (free_is_live k.board place wanted here refl)))
      ∙ ap (slice_get k.board.lines) (names.again place) ∙ here)
    where
      wanted : Line
      wanted = record { post = post.Receive a; partner = None }

      go : (o : Option Line) → slice_get h.board.lines (names.back place) ≡ o → option_map (line_by names) o ≡ Some wanted
          → AsksFrom wild a.rank a.comm a.source
      go None is e = absurd (cc)
      go (Some line) is e =
          let same = same_Some (line_by names line) wanted e in
          let partner = none_before names line.partner (ap (λ (m : Line). m.partner) same) in
          let posts = ap (λ (m : Line). m.post) same in
          let line_is : line ≡ wanted = (λ i. record { post = posts i; partner = partner i }) in
          waits (names.back place) a (is ∙ ap (λ (m : Line). Some m) line_is)

-- ---- the posts that a rank names

-- names under which the posts of a set are again in a set, and numbers of standard sends that come back after these names
module _ (names : Renaming) (set others : ℕ → Bool) (go : (place : ℕ) → set place ≡ true → others (names.to place) ≡ true)
    (sends : Renaming → ℕ → ℕ)
    (back : (more : Renaming) (n : ℕ)
    → number_by (turned names) (sends more (number_by names n)) ≡ sends (followed_by (followed_by names more) (turned names)) n)
  where
    turned_back : (k : ℕ) → number_by (followed_by (turned names) names) k ≡ k
    turned_back zero = refl
    turned_back (suc place) = ap suc (names.again place)

    only_renamed : (x : Rank) → IsSameBy sends set x → IsSameBy sends others (rank_by names x)
    only_renamed x only more keeps =
        let on = followed_by names more in
        let round = followed_by on (turned names) in
        let y = rank_with more (sends more) (rank_by names x) in
        let home : rank_by (turned names) y ≡ x =
        ap (rank_by (turned names)) (with_on names more (number_by names) (sends more) x)
        ∙ with_on on (turned names) (λ n. sends more (number_by names n)) (number_by (turned names)) x
        ∙ ap (λ numbers. rank_with round numbers x) (λ k n. back more n k)
        ∙ only round (λ place is. ap names.back (keeps (names.to place) (go place is)) ∙ names.there place) in
        sym (rank_fixed (followed_by (turned names) names) turned_back y)
        ∙ sym (rank_on (turned names) names y)
        ∙ ap (rank_by names) home

module _ (sends : Renaming → ℕ → ℕ) (set : ℕ → Bool) where
  only_clock : (x : Rank) (clock : ℕ) → IsSameBy sends set x → IsSameBy sends set (at_clock x clock)
  only_clock x clock only names keeps = ap (λ z. at_clock z clock) (only names keeps)

  -- ---- and awake

  only_awake : (x : Rank) → IsSameBy sends set x → IsSameBy sends set (awake x)
  only_awake x only names keeps = sym (with_same names (sends names) x) ∙ ap awake (only names keeps)

asleep_mode : (names : Renaming) (m : Mode) → mode_by names (woken m) ≡ woken m → mode_by names m ≡ m
asleep_mode names Running e = refl
asleep_mode names (Waiting Again) e = refl
asleep_mode names (Waiting (Post n)) e = e
asleep_mode names (Ended value) e = refl
asleep_mode names (Trapped cause pc) e = refl

same_head : (x y : Hart) (xs ys : List Hart) → (x ∷ xs) ≡ (y ∷ ys) → x ≡ y
same_head x y xs ys e = cc

same_tail : (x y : Hart) (xs ys : List Hart) → (x ∷ xs) ≡ (y ∷ ys) → xs ≡ ys
same_tail x y xs ys e = cc

asleep_hart : (names : Renaming) (h : Hart) → hart_by names (awake_hart h) ≡ awake_hart h → hart_by names h ≡ h
asleep_hart names h e = ap (in_mode h) (asleep_mode names h.mode (ap (λ (s : Hart). s.mode) e))

asleep_harts : (names : Renaming) (hs : List Hart) → map (hart_by names) (map awake_hart hs) ≡ map awake_hart hs
    → map (hart_by names) hs ≡ hs
asleep_harts names [] e = refl
asleep_harts names (h ∷ hs) e =
    let one = asleep_hart names h (same_head (hart_by names (awake_hart h)) (awake_hart h) _ _ e) in
    let rest = asleep_harts names hs (same_tail (hart_by names (awake_hart h)) (awake_hart h) _ _ e) in
    (λ i. one i ∷ rest i)

only_asleep : (sends : Renaming → ℕ → ℕ) (set : ℕ → Bool) (x : Rank) → IsSameBy sends set (awake x)
    → IsSameBy sends set x
only_asleep sends set x only names keeps =
    let e = only names keeps in
    let harts = asleep_harts names x.harts (ap (λ (z : Rank). z.harts) e) in
    let table : table_with names (sends names) x.requests ≡ x.requests = ap (λ (z : Rank). z.requests) e in
    (λ i. record x { harts = harts i; requests = table i })

-- ---- a cluster

sound_after : (u v : Box) → AlikeBoxes u v → AlikeBoxes v v
sound_after u v (both_empty e f) = both_empty f f
sound_after u v (both_full bytes f g) = both_full bytes g g

-- what was made or may be awaited is again so
module _ {wild : Wild} (names : Renaming) (a b : Board) (alike : AlikeBoards wild names a b) where
  made_alike : (place : ℕ) → was_made a.lines place ≡ true → was_made b.lines (names.to place) ≡ true
  made_alike place made = go (alike.lines place)
    where
      by_line : (o : Option Line) → is_some (option_map (line_by names) o) ≡ is_some o
      by_line None = refl
      by_line (Some line) = refl

      go : IsAlikeAt names a b place → was_made b.lines (names.to place) ≡ true
      go (is_same same) = ap is_some same ∙ by_line (slice_get a.lines place) ∙ made
      go (over_sends mine theirs) = ap is_some theirs.there
      go (over_receives mine theirs) = ap is_some theirs.there

  awaited_alike : (place : ℕ) → may_be_awaited a.lines place ≡ true → may_be_awaited b.lines (names.to place) ≡ true
  awaited_alike place awaited = go (alike.lines place)
    where
      -- the test of a line doesn't see its partner
      by_line : (o : Option Line)
          → (is_some (option_map (line_by names) o) && not (is_standard (option_map (line_by names) o)))
          ≡ (is_some o && not (is_standard o))
      by_line None = refl
      by_line (Some line) = refl

      go : IsAlikeAt names a b place → may_be_awaited b.lines (names.to place) ≡ true
      go (is_same same) = ap (λ o. is_some o && not (is_standard o)) same ∙ by_line (slice_get a.lines place) ∙ awaited
      go (over_sends mine theirs) =
          let e : may_be_awaited a.lines place ≡ not (not (mine.sent).sync) =
          ap (λ o. is_some o && not (is_standard o)) mine.there in
          let f : not (not (mine.sent).sync) ≡ false = ap (λ x. not (not x)) mine.standard in
          absurd (cc)
      go (over_receives mine theirs) = ap (λ o. is_some o && not (is_standard o)) theirs.there

-- there and back by all numbers, and by none
back_named : (names more : Renaming) (n : ℕ)
    → number_by (turned names) (number_by more (number_by names n))
    ≡ number_by (followed_by (followed_by names more) (turned names)) n
back_named names more zero = refl
back_named names more (suc place) = refl

back_as_before : (names more : Renaming) (n : ℕ) → number_by (turned names) (number_by names n) ≡ n
back_as_before names more zero = refl
back_as_before names more (suc place) = ap suc (names.there place)

rightly_alike : {wild : Wild} (names : Renaming) (a b : Board) → AlikeBoards wild names a b → (x y : Rank) (clock : ℕ)
    → awake y ≡ at_clock (rank_by names (awake x)) clock → NamesRightly a.lines x → NamesRightly b.lines y
rightly_alike names a b alike x y clock is right = record {
  names = by number_by (was_made a.lines) (was_made b.lines) (made_alike names a b alike) (back_named names) right.names;
  awaits = by as_before (may_be_awaited a.lines) (may_be_awaited b.lines) (awaited_alike names a b alike)
      (back_as_before names) right.awaits;
}
  where
    by : (sends : Renaming → ℕ → ℕ) (set others : ℕ → Bool)
        → ((place : ℕ) → set place ≡ true → others (names.to place) ≡ true)
        → ((more : Renaming) (n : ℕ)
        → number_by (turned names) (sends more (number_by names n))
        ≡ sends (followed_by (followed_by names more) (turned names)) n)
        → IsSameBy sends set x → IsSameBy sends others y
    by sends set others go back only =
        only_asleep sends others y
        (subst (IsSameBy sends others) (sym is)
        (only_clock sends others (rank_by names (awake x)) clock
        (only_renamed names set others go sends back (awake x) (only_awake sends set x only))))

pub good_alike : (search : Search) (a b : Cluster) → AreAlike search.wild (awake_cluster a) (awake_cluster b) → IsGood search a
    → ((r : ℕ) (rank : Rank) → slice_get b.ranks r ≡ Some rank → StandsAtCall rank (search.harts r))
    → IsGood search b
good_alike search a b k good stands = record {
  waits = waits_alike search.wild k.0 (hub_of a.journal) (hub_of b.journal) (k.1).hubs good.waits;
  names = λ r y there.
      let f = pair_from search r a b k y there in
      rightly_alike k.0 (hub_of a.journal).board (hub_of b.journal).board ((k.1).hubs).board f.0 y (f.2).0 (f.2).1
      (good.names r f.0 f.1);
  boxes = λ i box there. (let f = each_from (k.1).boxes i box there in sound_after f.0 box f.2);
  stands = stands;
}
