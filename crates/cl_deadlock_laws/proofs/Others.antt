-- A step of a rank that isn't one of those that are stuck brings them nothing.
use Rattle.std.specs.Prelude.{ℕ, ◌≡◌, true, false, List, [], ◌∷◌, Some, is_some}
use Rattle.std.proofs.Common.{sym, ap, ◌∙◌, subst}
use Rattle.rv_image_types.specs.declared.images.ImageParts.{ImageParts}
use Rattle.mp_transfers.specs.Inits.{is_receiver}
use Rattle.mp_types.specs.declared.requests.Request.{Request}
use Rattle.mp_types.specs.declared.requests.Request.TheVariants as request
use Rattle.mp_wait_laws.specs.Waits.{OnlyOf, WaitsFor, sends_over}
use Rattle.mp_wait_laws.specs.Laws.{SendsAsMember}
use Rattle.mp_wait_laws.proofs.Waits.{waits_law}
use Rattle.cl_calls.specs.Checks.{is_comm}
use Rattle.cl_calls.specs.declared.sites.Site.{Site}
use Rattle.cl_calls.specs.Site.{members, position_of}
use Rattle.cl_state.specs.declared.asking.Ask.{Ask}
use Rattle.cl_state.specs.declared.asking.Ask.TheVariants as ask
use Rattle.cl_state.specs.Asked.{asked}
use Rattle.cl_state.specs.Rank.{Rank, loaded}
use Rattle.cl_state_laws.specs.Members.{AreInside}
use Rattle.cl_state_laws.proofs.Members.{members_law}
use Rattle.cl_state.specs.Told.{told}
use Rattle.cl_state.proofs.Moves.{told_at}
use Rattle.cl_deeds.specs.Deeds.{Act, Suits, Deed, answer_of}
use Rattle.cl_deeds.specs.Alone.{IsAlone}
use Rattle.cl_machine.specs.Cluster.{Cluster}
use Rattle.cl_machine.specs.Journal.{Journal}
use Rattle.cl_journal.specs.Journal.{calls_of}
use Rattle.cl_machine.specs.Product.{entry_for}
use Rattle.cl_machine.specs.ProductSteps.{JournalMoves}
use Rattle.cl_deadlock_laws.specs.Stuck.{AsksInVain, is_among, is_member}
use Rattle.cl_deadlock_laws.proofs.Boxes.{BoxesMove, freed_low, look_low, stays_empty, stays_full}
use Rattle.cl_deadlock_laws.proofs.Own.{calls-snoc}
use Rattle.cl_deadlock_laws.proofs.Reached.{same_site}

-- ---- where a rank sends

inside_from : (image : ImageParts) (r : ℕ) (ds : List Deed) (old new : Rank) → IsAlone old ds new
    → AreInside old.site old.requests → AreInside new.site new.requests
inside_from image r [] old new run inside = subst (λ (x : Rank). AreInside x.site x.requests) (sym run) inside
inside_from image r (d ∷ ds) old new run inside =
    inside_from image r ds run.0 new run.2
    (subst (λ (x : Rank). AreInside x.site x.requests) (sym (run.1).4)
    (subst (λ (site : Site). AreInside site (told old d.hart (answer_of d.act) d.stamp).requests)
    (sym (told_at old d.hart (answer_of d.act) d.stamp).site)
    ((members_law.kept) old d.hart d.stamp (answer_of d.act) inside)))

module _ (image : ImageParts) (r : ℕ) (ds : List Deed) (rank : Rank) (run : IsAlone (loaded image r) ds rank) where
  -- a rank that came alone sends where it is a member, by the communicators that each rank has
  pub sends_as_member : (other : ℕ) (es : List Deed) (x : Rank) → IsAlone (loaded image other) es x
      → (hart : ℕ) (q : Request) → asked rank hart ≡ ask.Hub q → SendsAsMember (is_member x.site) r q
  sends_as_member other es x its hart q asks = go q asks
    where
      go : (q : Request) → asked rank hart ≡ ask.Hub q → SendsAsMember (is_member x.site) r q
      go (request.Send sync comm dest tag bytes) asks =
          let inside = inside_from image r ds (loaded image r) rank run ((members_law.first) (loaded image r).site) in
          let comm_is : is_comm rank.site (Some comm) ≡ true =
          (members_law.sends) rank hart comm dest tag sync bytes inside asks in
          ap (λ (s : Site). is_some (position_of r (members s comm))) (same_site image other es x its)
          ∙ sym (ap (λ (s : Site). is_comm s (Some comm)) (same_site image r ds rank run)) ∙ comm_is
      go (request.Recv now comm source tag) asks = tt
      go (request.Collect post) asks = tt
      go (request.Finished post) asks = tt
      go (request.Probe comm source tag) asks = tt
      go (request.Claim comm source tag) asks = tt
      go (request.Claimed now message) asks = tt
      go (request.All posts) asks = tt
      go (request.Init sends comm peer tag parts size) asks = tt
      go (request.Cut link) asks = tt

-- ---- what those that are stuck ask for

-- rank r, which is among them, beside a deed of rank d.rank, which isn't; both came alone
module _ (ranks : List ℕ) (image : ImageParts) (old new : Cluster) (d : Deed) (s : Rank) (ds : List Deed)
    (ran : IsAlone (loaded image d.rank) ds s) (out : is_among ranks d.rank ≡ false)
    (r : ℕ) (x : Rank) (es : List Deed) (its : IsAlone (loaded image r) es x) (inside : is_among ranks r ≡ true)
    (links : old.journal.links ≡ image.links) where
  abbrev Waits : Journal → Request → Type 0
  Waits journal q = WaitsFor (is_member x.site) (is_among ranks) journal.links (calls_of journal.entries) r q

  -- at the hub
  waits_still : (q : Request) (act : Act) → Suits (asked s d.hart) act
      → JournalMoves old.journal (entry_for d act) new.journal → Waits old.journal q → Waits new.journal q
  waits_still q act answers moves waits = go act answers moves
    where
      same : new.journal ≡ old.journal → Waits new.journal q
      same is = subst (λ (j : Journal). Waits j q) (sym is) waits

      go : (act : Act) → Suits (asked s d.hart) act → JournalMoves old.journal (entry_for d act) new.journal
          → Waits new.journal q
      go (Act.Hub clock call answer) asks moves =
          subst (λ (j : Journal). Waits j q) (sym moves.2)
          (subst (λ cs. WaitsFor (is_member x.site) (is_among ranks) old.journal.links cs r q)
          (sym (calls-snoc old.journal.entries _))
          ((waits_law.others) (is_member x.site) (is_among ranks) old.journal.links (calls_of old.journal.entries)
          r d.rank q call inside out (sends_as_member image d.rank ds s ran r es x its d.hart call asks) waits))
      go Act.Plain asks moves = same moves
      go Act.Local asks moves = same moves
      go (Act.Ready link part bytes) asks moves = same moves
      go (Act.Take link part gate bytes) asks moves = same moves
      go (Act.Miss link part) asks moves = same moves
      go (Act.Freed link part gate) asks moves = same moves
      go Act.Held asks moves = same moves
      go Act.Idle asks moves = same moves

  pub in_vain_still : (hart : ℕ) (a : Ask) → asked x hart ≡ a → (act : Act) → Suits (asked s d.hart) act
      → JournalMoves old.journal (entry_for d act) new.journal → BoxesMove old.boxes d act new.boxes
      → new.journal.links ≡ old.journal.links
      → AsksInVain ranks old r x.site a → AsksInVain ranks new r x.site a
  in_vain_still hart (ask.Hub q) asks act answers journal boxes same vain = waits_still q act answers journal vain
  in_vain_still hart (ask.Look link part) asks act answers journal boxes same vain =
      let only = subst (λ ls. OnlyOf (is_among ranks) (sends_over ls link)) links vain.1 in
      let low = look_low image r es x hart its link part asks in
      let is = stays_empty image d.rank ds s ran (is_among ranks) out d old.boxes new.boxes link part low act answers
      boxes only vain.0 in (
        λ box there. vain.0 box (sym is ∙ there),
        subst (λ ls. OnlyOf (is_among ranks) (sends_over ls link)) (sym same) vain.1,
      )
  in_vain_still hart (ask.Freed link part) asks act answers journal boxes same vain =
      let only = subst (λ ls. OnlyOf (is_among ranks) (λ k. is_receiver ls k link)) links vain.1 in
      let low = freed_low image r es x hart its link part asks in
      let is = stays_full image d.rank ds s ran (is_among ranks) out d old.boxes new.boxes link part low act answers
      boxes only vain.0 in (
        λ box there. vain.0 box (sym is ∙ there),
        subst (λ ls. OnlyOf (is_among ranks) (λ k. is_receiver ls k link)) (sym same) vain.1,
      )
  in_vain_still hart ask.Held asks act answers journal boxes same vain = tt
  in_vain_still hart _ asks act answers journal boxes same vain = absurd vain
