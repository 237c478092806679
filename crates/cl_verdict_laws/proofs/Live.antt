-- Wherever a run leads, ranks ask only about posts that aren't over.
use Rattle.std.proofs.Common.{◌≡◌, ◌∙◌, ℕ, zero, suc, inl, inr, refl, sym, ap, subst, Bool, List, [], ◌∷◌, ◌++◌, length, Option, Some, None}
use Rattle.std.specs.Prelude.{map, replicate}
use Rattle.std.specs.List.{slice_get, slice_set}
use Rattle.std.specs.Option.{option_map}
use Rattle.std.proofs.lemmas.Bool.{cases_eq}
use Rattle.std.proofs.lemmas.List.{map-append}
use Rattle.std.proofs.lemmas.Option.{same_Some, slice_get-map}
use Rattle.rv_image_types.specs.declared.images.ImageParts.{ImageParts}
use Rattle.rv_hart.specs.State.{start_state}
use Rattle.mp_hub.specs.Hub.{HubView, outcome}
use Rattle.mp_match.specs.Board.{Board}
use Rattle.mp_request.specs.declared.entries.OpenRequest.{OpenRequest}
use Rattle.mp_wait_laws.proofs.Sets.{get-set_other}
use Rattle.mp_wait_laws.proofs.Waits.{laid_after}
use Rattle.mp_alike_laws.specs.Renaming.{Renaming, number_by}
use Rattle.cl_names_laws.specs.Named.{hart_by, rank_with, table_with}
use Rattle.cl_journal.specs.Journal.{calls_of}
use Rattle.cl_state.specs.declared.asking.Answer.{Answer}
use Rattle.cl_state.specs.declared.asking.Answer.TheVariants as answer
use Rattle.cl_state.specs.declared.asking.Ask.{Ask}
use Rattle.cl_state.specs.Asked.{asked}
use Rattle.cl_state.specs.Rank.{Rank, below, loaded, start_harts}
use Rattle.cl_state.specs.Told.{told}
use Rattle.cl_deeds.specs.Deeds.{Act, Deed, answer_of, Suits}
use Rattle.cl_machine.specs.Cluster.{Cluster, IsRun, loaded_cluster}
use Rattle.cl_machine.specs.Journal.{Journal}
use Rattle.cl_machine.specs.Product.{entry_for}
use Rattle.cl_machine.specs.ProductSteps.{Goes, JournalMoves}
use Rattle.cl_machine.specs.declared.steps.Step.{Step}
use Rattle.cl_order_laws.specs.Alike.{hub_of}
use Rattle.cl_order_laws.proofs.Each.{was_there}
use Rattle.cl_order_laws.proofs.SureHub.{reply_is}
use Rattle.cl_order_laws.proofs.Walks.{hub_entry}
use Rattle.cl_deadlock_laws.proofs.Reached.{deed_of}
use Rattle.cl_post_laws.specs.Laws.{TellsOnly}
use Rattle.cl_post_laws.specs.Names.{IsSameBy, as_before}
use Rattle.cl_post_laws.proofs.Asking.{asks as asks_of_named}
use Rattle.cl_reduction_laws.specs.Below.{AskOfLive}
use Rattle.cl_reduction_laws.specs.Clusters.{NamesRightly, may_be_awaited}
use Rattle.cl_reduction_laws.proofs.Naming.{Grows, asks_of_live, awaited_inside, grows_same, rightly_more, rightly_told}
use Rattle.cl_verdict_laws.specs.Live.{LiveLaw, NamesLaw, NamesLive}
use Rattle.cl_verdict_laws.proofs.Naming.{grown_by, names_on}

-- ---- the loaded cluster names none

module _ (names : Renaming) (sends : ℕ → ℕ) where
  no_open : (n : ℕ) → (let none : List (Option OpenRequest) = replicate n None in table_with names sends none ≡ none)
  no_open zero = refl
  no_open (suc n) =
      ap (λ (os : List (Option OpenRequest)). (let more : List (Option OpenRequest) = None ∷ os in more)) (no_open n)

  start_same : (image : ImageParts) (rank n : ℕ)
      → map (hart_by names) (start_harts image rank n) ≡ start_harts image rank n
  start_same image rank zero = refl
  start_same image rank (suc n) =
      map-append (hart_by names) (start_harts image rank n) (start_state image.entry image.memory n rank ∷ [])
      ∙ ap (λ hs. hs ++ start_state image.entry image.memory n rank ∷ []) (start_same image rank n)

  loaded_same : (image : ImageParts) (k : ℕ) → rank_with names sends (loaded image k) ≡ loaded image k
  loaded_same image k =
      let harts = start_same image k image.harts in
      let table = no_open 255 in
      (λ i. record (loaded image k) { harts = harts i; requests = table i })

none_of : (sends : Renaming → ℕ → ℕ) (set : ℕ → Bool) (image : ImageParts) (r : ℕ) (rank : Rank)
    → slice_get (loaded_cluster image).ranks r ≡ Some rank → IsSameBy sends set rank
none_of sends set image r rank there names keeps =
    go (slice_get (below image.ranks) r) (sym (slice_get-map (loaded image) (below image.ranks) r) ∙ there)
  where
    go : (o : Option ℕ) → option_map (loaded image) o ≡ Some rank → rank_with names (sends names) rank ≡ rank
    go None e = absurd (cc)
    go (Some k) e =
        subst (λ x. rank_with names (sends names) x ≡ x) (same_Some (loaded image k) rank e)
        (loaded_same names (sends names) image k)

names_none : (image : ImageParts) → NamesLive (loaded_cluster image)
names_none image r rank there = record {
  names = none_of number_by _ image r rank there;
  awaits = none_of as_before _ image r rank there;
}

-- ---- a step

-- what is left of a rank and of the hub by a deed of the rank
module _ (r hart stamp : ℕ) (old : Journal) (rank : Rank) (names : NamesRightly (hub_of old).board.lines rank) where
  abbrev Left : Journal → Answer → Type 0
  Left new a =
      Grows (hub_of old).board.lines (hub_of new).board.lines
      × NamesRightly (hub_of new).board.lines (told rank hart a stamp)

  -- the hub stays, and the answer tells of no post
  alone : (new : Journal) (a : Answer) → new ≡ old
      → NamesRightly (hub_of old).board.lines (told rank hart a stamp) → Left new a
  alone new a same named = (
    grows_same (hub_of old).board.lines (hub_of new).board.lines (ap (λ j. (hub_of j).board.lines) same),
    subst (λ j. NamesRightly (hub_of j).board.lines (told rank hart a stamp)) (sym same) named,
  )

  stays : (a : Answer) → TellsOnly (may_be_awaited (hub_of old).board.lines) a
      → NamesRightly (hub_of old).board.lines (told rank hart a stamp)
  stays a tells =
      rightly_told (hub_of old).board.lines (hub_of old).board.lines rank hart a stamp
      (grows_same (hub_of old).board.lines (hub_of old).board.lines refl) names tells

  left : (d : Deed) → d.rank ≡ r → (act : Act) (new : Journal) → Suits (asked rank hart) act
      → JournalMoves old (entry_for d act) new → Left new (answer_of act)
  left d is Act.Plain new suits moves = alone new answer.Alone moves (stays answer.Alone tt)
  left d is Act.Local new suits moves = alone new answer.Alone moves (stays answer.Alone tt)
  left d is Act.Held new suits moves = alone new answer.Alone moves (stays answer.Alone tt)
  left d is Act.Idle new suits moves = alone new answer.Alone moves (stays answer.Alone tt)
  left d is (Act.Ready link part bytes) new suits moves = alone new answer.Alone moves (stays answer.Alone tt)
  left d is (Act.Take link part gate bytes) new suits moves =
      alone new (answer.Taken bytes) moves (stays (answer.Taken bytes) tt)
  left d is (Act.Miss link part) new suits moves = alone new answer.Missed moves (stays answer.Missed tt)
  left d is (Act.Freed link part gate) new suits moves = alone new answer.Freed moves (stays answer.Freed tt)
  left d is (Act.Hub clock q x) new suits moves =
      let h = hub_of old in
      let k = outcome h d.rank q in
      let hubs : hub_of new ≡ k.1 = ap hub_of moves.2 ∙ hub_entry old _ in
      let replied : x ≡ k.0 = moves.0 ∙ reply_is old d.rank q in (
        subst (λ (g : HubView). Grows h.board.lines g.board.lines) (sym hubs) (grown_by h d.rank q),
        subst (λ (g : HubView). NamesRightly g.board.lines (told rank hart (answer.Reply x) stamp)) (sym hubs)
            (subst (λ y. NamesRightly k.1.board.lines (told rank hart (answer.Reply y) stamp)) (sym replied)
            (names_on h (laid_after old.links (calls_of old.entries)) d.rank q rank hart stamp suits names)),
      )

names_goes : (old new : Cluster) (d : Deed) → NamesLive old → Goes old d new → NamesLive new
names_goes old new d names goes r rank there =
    by_rank (sym (ap (λ rs. slice_get rs r) (goes.0).4) ∙ there)
  where
    x : Rank
    x = (goes.0).0

    after : Left d.rank d.hart d.stamp old.journal x (names d.rank x (goes.0).2) new.journal (answer_of d.act)
    after = left d.rank d.hart d.stamp old.journal x (names d.rank x (goes.0).2) d refl d.act new.journal
        (goes.0).3.2 goes.1

    by_rank : slice_get (slice_set old.ranks d.rank (goes.0).1) r ≡ Some rank
        → NamesRightly (hub_of new.journal).board.lines rank
    by_rank here = elim (cases_eq d.rank r) [
      | inl same ↦
          let w = was_there old.ranks d.rank (goes.0).1 rank
          (subst (λ k. slice_get (slice_set old.ranks d.rank (goes.0).1) k ≡ Some rank) (sym same) here) in
          subst (NamesRightly (hub_of new.journal).board.lines) (sym (goes.0).3.4 ∙ w.0) after.1
      | inr other ↦
          rightly_more (hub_of old.journal).board.lines (hub_of new.journal).board.lines rank after.0
          (names r rank (sym (get-set_other old.ranks d.rank r (goes.0).1 other) ∙ here))
    ]

names_run : (steps : List Step) (old new : Cluster) → NamesLive old → IsRun old steps new → NamesLive new
names_run [] old new names run = subst NamesLive (sym run) names
names_run (e ∷ steps) old new names run =
    let p = deed_of old e run.0 run.1 in
    names_run steps run.0 new (names_goes old run.0 p.0 names p.2) run.2

pub names_law : NamesLaw
names_law image c reached = names_run reached.0 (loaded_cluster image) c (names_none image) reached.1

-- ---- what ranks ask

pub live_law : LiveLaw
live_law image c reached r rank hart there = go (asked rank hart) refl
  where
    board : Board
    board = (hub_of c.journal).board

    names : NamesRightly board.lines rank
    names = names_law image c reached r rank there

    go : (q : Ask) → asked rank hart ≡ q → AskOfLive c q
    go (Ask.Hub q) is =
        asks_of_live board q
        (asks_of_named (may_be_awaited board.lines) (length board.lines) (awaited_inside board.lines) rank hart q
        names.awaits is)
    go Ask.Plain is = tt
    go Ask.Local is = tt
    go Ask.Held is = tt
    go Ask.Idle is = tt
    go (Ask.Ready link part bytes) is = tt
    go (Ask.Look link part) is = tt
    go (Ask.Freed link part) is = tt
