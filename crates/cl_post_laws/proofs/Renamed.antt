-- What a rank is told of a post by another number.
use Rattle.std.proofs.Common.{◌≡◌, ◌∙◌, ℕ, zero, suc, ◌≤◌, refl, sym, ap, arith, Bool, true, false, List, Option, Some, None}
use Rattle.std.specs.Option.{option_map}
use Rattle.std.proofs.lemmas.List.{map-set}
use Rattle.rv_memory.specs.Memory.{Memory}
use Rattle.rv_hart.specs.State.{State}
use Rattle.mp_types.specs.declared.codes.Code.{Code}
use Rattle.mp_types.specs.declared.codes.Code.TheVariants as code
use Rattle.mp_types.specs.declared.replies.Reply.{Reply}
use Rattle.mp_types.specs.declared.replies.Reply.TheVariants as reply
use Rattle.mp_request.specs.declared.entries.OpenRequest.{OpenRequest}
use Rattle.mp_request.specs.declared.entries.Progress.{Progress}
use Rattle.mp_request.specs.declared.entries.Progress.TheVariants as progress
use Rattle.mp_request.specs.declared.entries.State.TheVariants as state
use Rattle.mp_request.specs.declared.entries.Transfer.{Transfer}
use Rattle.mp_request.specs.declared.entries.Transfer.TheVariants as transfer
use Rattle.mp_request.specs.Entries.{active_with}
use Rattle.mp_request.specs.Table.{Table, lowest_free, request_at, started, with_request}
use Rattle.part_phase.specs.declared.phases.Phase.{Phase}
use Rattle.cl_calls.specs.declared.sites.Site.{Site}
use Rattle.cl_state.specs.declared.asking.Answer.{Answer}
use Rattle.cl_state.specs.declared.asking.Answer.TheVariants as answer
use Rattle.cl_state.specs.declared.row.Purpose.{Purpose}
use Rattle.cl_state.specs.declared.row.Purpose.TheVariants as purpose
use Rattle.cl_state.specs.declared.row.Row.{Row}
use Rattle.cl_state.specs.declared.row.Row.TheVariants.{AtOnce, OnReply, OnBox}
use Rattle.cl_state.specs.declared.row.Visit.{Visit}
use Rattle.cl_state.specs.declared.row.Visit.TheVariants as visit
use Rattle.cl_state.specs.declared.row.Wanted.{Wanted}
use Rattle.cl_state.specs.declared.row.Wanted.TheVariants as wanted
use Rattle.cl_state.specs.Asked.{Part, doing, part_of}
use Rattle.cl_state.specs.Rank.{Rank}
use Rattle.cl_state.specs.Table.{begun_outcome, row_in}
use Rattle.cl_state.specs.Told.{done, ended, opened, opened_at, replied, returned, told, told_row, visited, waiting, with_part}
use Rattle.cl_state.specs.Transfers.{posted}
use Rattle.mp_alike_laws.specs.Renaming.{Renaming, number_by}
use Rattle.mp_clash_laws.specs.Exchanges.{reply_by}
use Rattle.cl_names_laws.specs.Named.{IsSameNamed, hart_by, open_by, progress_by, rank_by, table_by}
use Rattle.cl_names_laws.proofs.Asks.{doing_named, part_by, part_named}
use Rattle.cl_names_laws.proofs.Rows.{row_named}
use Rattle.cl_names_laws.proofs.Tables.{free_named, request_named, with_named}
use Rattle.cl_names_laws.proofs.Told.{IsSameAt, IsSamePost, names_law, row_at, tells_at}
use Rattle.cl_post_laws.specs.Laws.{IsNamed, NamesBelow, TellsBelow, TellsOnly}
use Rattle.cl_post_laws.specs.Names.{AwaitsOnly, IsSameBy, Keeps, NamesOnly, as_before}

-- ---- a turn by its row

abbrev pub told_as : Rank → ℕ → Part → ℕ → Rank
told_as rank hart part stamp = with_part rank hart part stamp

pub by_row : (rank : Rank) (hart : ℕ) (a : Answer) (stamp : ℕ)
    → told rank hart a stamp ≡ with_part rank hart (told_row rank.site (row_at rank hart) a (part_of rank hart)) stamp
unfolding told
by_row rank hart a stamp = refl

module _ (names : Renaming) where
  abbrev numbers : ℕ → ℕ
  numbers = number_by names

  row_same : (rank : Rank) (hart : ℕ) → row_at (rank_by names rank) hart ≡ row_at rank hart
  row_same rank hart =
      ap (λ p. row_in rank.site hart rank.memory (table_by names rank.requests) rank.phases (doing rank.site p))
      (part_named names numbers rank hart)
      ∙ ap (row_in rank.site hart rank.memory (table_by names rank.requests) rank.phases)
      (doing_named names numbers rank.site (part_of rank hart))
      ∙ row_named names numbers rank.site hart rank.memory rank.requests rank.phases (doing rank.site (part_of rank hart))

  -- ---- where the number of the post is told

  Named : (Part → Part) → (Part → Part) → Part → Type 0
  Named f g part = f (part_by names numbers part) ≡ part_by names numbers (g part)

  part_with : State → Memory → Table → List Phase → List ℕ → Part
  part_with hart memory requests phases out =
      record { hart = hart; memory = memory; requests = requests; phases = phases; out = out }

  ended_with : (c : Code) (v : ℕ) (part : Part) (t u : Table) → t ≡ table_by names u
      → ended c v (record (part_by names numbers part) { requests = t }) ≡ part_by names numbers (ended c v (record part { requests = u }))
  unfolding returned
  ended_with c v part t u same =
      ap (λ x. ended c v (record (part_by names numbers part) { requests = x })) same

  waits_by : (post : ℕ) (part : Part) → waiting (number_by names post) (part_by names numbers part) ≡ part_by names numbers (waiting post part)
  waits_by post part = refl

  opened_by : (r : OpenRequest) (part : Part) → opened (open_by names r) (part_by names numbers part) ≡ part_by names numbers (opened r part)
  opened_by r part =
      ap (λ o. opened_at o (open_by names r) (part_by names numbers part)) (free_named names numbers part.requests)
      ∙ go (lowest_free part.requests)
    where
      go : (o : Option ℕ) → opened_at o (open_by names r) (part_by names numbers part) ≡ part_by names numbers (opened_at o r part)
      go None = ended_with code.Full 0 part _ part.requests refl
      go (Some handle) = ended_with code.Ok handle part _ _ (with_named names numbers part.requests handle (Some r))

  active_by : (p : Progress) (o : Option OpenRequest)
      → option_map (active_with (progress_by names p)) (option_map (open_by names) o)
      ≡ option_map (open_by names) (option_map (active_with p) o)
  active_by p None = refl
  active_by p (Some r) = refl

  started_by : (p : Progress) (handle : ℕ) (table : Table)
      → started (table_by names table) handle (progress_by names p) ≡ table_by names (started table handle p)
  started_by p handle table =
      ap (λ o. with_request (table_by names table) handle (option_map (active_with (progress_by names p)) o))
      (request_named names numbers table handle)
      ∙ ap (with_request (table_by names table) handle) (active_by p (request_at table handle))
      ∙ with_named names numbers table handle (option_map (active_with p) (request_at table handle))

  begun_by : (site : Site) (why : Purpose) (t : Transfer) (p : Progress) (part : Part)
      → done site (begun_outcome why t (progress_by names p)) (part_by names numbers part)
      ≡ part_by names numbers (done site (begun_outcome why t p) part)
  begun_by site purpose.Send t progress.Finished part = ended_with code.Ok 0 part _ part.requests refl
  begun_by site purpose.Send t (progress.Sent post) part = ended_with code.Ok 0 part _ part.requests refl
  begun_by site purpose.Send t (progress.OnPost post) part = waits_by post part
  begun_by site purpose.Send t progress.InPhase part = ended_with code.BadRequest 0 part _ part.requests refl
  begun_by site purpose.Open t p part = opened_by (record { transfer = t; state = state.Ordinary p }) part
  begun_by site (purpose.Start handle) t p part =
      ended_with code.Ok 0 part _ _ (started_by p handle part.requests)

  posted_by : (t : Transfer) (post : ℕ) (paired : Bool)
      → posted t (number_by names post) paired ≡ progress_by names (posted t post paired)
  posted_by (transfer.Send true buffer count dest tag comm) post true = refl
  posted_by (transfer.Send true buffer count dest tag comm) post false = refl
  posted_by (transfer.Send false buffer count dest tag comm) post true = refl
  posted_by (transfer.Send false buffer count dest tag comm) post false = refl
  posted_by transfer.SendToNull post paired = refl
  posted_by transfer.ReceiveFromNull post paired = refl
  posted_by (transfer.Receive buffer capacity source tag comm) post paired = refl
  posted_by (transfer.ReceiveClaimed buffer capacity) post paired = refl
  posted_by (transfer.SendPartitions side) post paired = refl
  posted_by (transfer.ReceivePartitions side) post paired = refl

  visited_as : (site : Site) (v : Visit) (post : ℕ) (paired : Bool) (part : Part)
      → visited site v (answer.Reply (reply.Posted post paired)) part ≡ ended code.BadRequest 0 part
  visited_as site (visit.Readies link ready) post paired part = refl
  visited_as site (visit.Frees m link target) post paired part = refl
  visited_as site (visit.Takes m side box target) post paired part = refl
  visited_as site (visit.Sees side box which) post paired part = refl

  unfit : (part : Part) → ended code.BadRequest 0 (part_by names numbers part) ≡ part_by names numbers (ended code.BadRequest 0 part)
  unfit part = ended_with code.BadRequest 0 part _ part.requests refl

  replied_by : (site : Site) (w : Wanted) (post : ℕ) (paired : Bool) (part : Part)
      → replied site w (reply.Posted (number_by names post) paired) (part_by names numbers part)
      ≡ part_by names numbers (replied site w (reply.Posted post paired) part)
  replied_by site (wanted.Post why t) post paired part =
      ap (λ p. done site (begun_outcome why t p) (part_by names numbers part)) (posted_by t post paired)
      ∙ begun_by site why t (posted t post paired) part
  replied_by site (wanted.MessageOrPost target) post paired part = waits_by post part
  replied_by site (wanted.Message target) post paired part = unfit part
  replied_by site (wanted.Word target) post paired part = unfit part
  replied_by site wanted.Sent post paired part = unfit part
  replied_by site (wanted.All value s) post paired part = unfit part
  replied_by site (wanted.Sight value status) post paired part = unfit part
  replied_by site (wanted.Claim status) post paired part = unfit part
  replied_by site (wanted.SendingLink t) post paired part = unfit part
  replied_by site (wanted.ReceivingLink t) post paired part = unfit part
  replied_by site (wanted.Cut m link) post paired part = unfit part
  replied_by site wanted.Nothing post paired part = unfit part

  with_by : (rank : Rank) (hart : ℕ) (part : Part) (stamp : ℕ)
      → with_part (rank_by names rank) hart (part_by names numbers part) stamp ≡ rank_by names (with_part rank hart part stamp)
  with_by rank hart part stamp =
      ap (λ hs. record (rank_by names rank) {
        memory = part.memory;
        harts = hs;
        requests = table_by names part.requests;
        phases = part.phases;
        out = part.out;
        clock = stamp;
      }) (sym (map-set (hart_by names) rank.harts hart part.hart))

  posted_told : (rank : Rank) (hart post : ℕ) (paired : Bool) (stamp : ℕ)
      → told (rank_by names rank) hart (answer.Reply (reply.Posted (number_by names post) paired)) stamp
      ≡ rank_by names (told rank hart (answer.Reply (reply.Posted post paired)) stamp)
  posted_told rank hart post paired stamp = go (row_at rank hart) refl
    where
      mine : Answer
      mine = answer.Reply (reply.Posted post paired)

      theirs : Answer
      theirs = answer.Reply (reply.Posted (number_by names post) paired)

      -- where the row says what a turn does by itself
      from : (row : Row) → row_at rank hart ≡ row
          → told_row rank.site row theirs (part_by names numbers (part_of rank hart))
          ≡ part_by names numbers (told_row rank.site row mine (part_of rank hart))
          → told (rank_by names rank) hart theirs stamp ≡ rank_by names (told rank hart mine stamp)
      from row is same =
          by_row (rank_by names rank) hart theirs stamp
          ∙ ap (λ x. with_part (rank_by names rank) hart (told_row rank.site x theirs (part_of (rank_by names rank) hart)) stamp)
          (row_same rank hart ∙ is)
          ∙ ap (λ p. with_part (rank_by names rank) hart (told_row rank.site row theirs p) stamp) (part_named names numbers rank hart)
          ∙ ap (λ p. with_part (rank_by names rank) hart p stamp) same
          ∙ with_by rank hart (told_row rank.site row mine (part_of rank hart)) stamp
          ∙ ap (rank_by names)
          (sym (by_row rank hart mine stamp
          ∙ ap (λ x. with_part rank hart (told_row rank.site x mine (part_of rank hart)) stamp) is))

      go : (row : Row) → row_at rank hart ≡ row
          → told (rank_by names rank) hart theirs stamp ≡ rank_by names (told rank hart mine stamp)
      go (AtOnce o) is =
          by_row (rank_by names rank) hart theirs stamp
          ∙ ap (λ x. with_part (rank_by names rank) hart (told_row rank.site x theirs (part_of (rank_by names rank) hart)) stamp)
          (row_same rank hart ∙ is)
          ∙ sym (by_row (rank_by names rank) hart (answer.Reply reply.Done) stamp
          ∙ ap (λ x. with_part (rank_by names rank) hart
          (told_row rank.site x (answer.Reply reply.Done) (part_of (rank_by names rank) hart)) stamp) (row_same rank hart ∙ is))
          ∙ (names_law.tells) names rank hart (answer.Reply reply.Done) stamp tt
          ∙ ap (rank_by names)
          (by_row rank hart (answer.Reply reply.Done) stamp
          ∙ ap (λ x. with_part rank hart (told_row rank.site x (answer.Reply reply.Done) (part_of rank hart)) stamp) is
          ∙ sym (by_row rank hart mine stamp
          ∙ ap (λ x. with_part rank hart (told_row rank.site x mine (part_of rank hart)) stamp) is))
      go (OnReply m w) is = from (OnReply m w) is (replied_by rank.site w post paired (part_of rank hart))
      go (OnBox v) is =
          from (OnBox v) is
          (visited_as rank.site v (number_by names post) paired (part_by names numbers (part_of rank hart))
          ∙ unfit (part_of rank hart)
          ∙ ap (part_by names numbers) (sym (visited_as rank.site v post paired (part_of rank hart))))

  pub renamed : (rank : Rank) (hart : ℕ) (r : Reply) (stamp : ℕ)
      → told (rank_by names rank) hart (answer.Reply (reply_by names r)) stamp
      ≡ rank_by names (told rank hart (answer.Reply r) stamp)
  renamed rank hart (reply.Posted post paired) stamp = posted_told rank hart post paired stamp
  renamed rank hart (reply.Code c) stamp = (names_law.tells) names rank hart _ stamp tt
  renamed rank hart (reply.Got m) stamp = (names_law.tells) names rank hart _ stamp tt
  renamed rank hart reply.NotYet stamp = (names_law.tells) names rank hart _ stamp tt
  renamed rank hart reply.Done stamp = (names_law.tells) names rank hart _ stamp tt
  renamed rank hart (reply.Seen e) stamp = (names_law.tells) names rank hart _ stamp tt
  renamed rank hart (reply.Held n e) stamp = (names_law.tells) names rank hart _ stamp tt
  renamed rank hart (reply.AllGot gots) stamp = (names_law.tells) names rank hart _ stamp tt
  renamed rank hart (reply.Link link) stamp = (names_law.tells) names rank hart _ stamp tt
  renamed rank hart (reply.Cut parts size) stamp = (names_law.tells) names rank hart _ stamp tt

-- ---- a rank names posts that it was told of alone

-- by names under which a rank and what it is told are the same, it goes on to the same
goes_on : (names : Renaming) (rank : Rank) (hart : ℕ) (a : Answer) (stamp : ℕ) → rank_by names rank ≡ rank
    → IsSameNamed names a → rank_by names (told rank hart a stamp) ≡ told rank hart a stamp
goes_on names rank hart a stamp old same =
    sym ((names_law.tells) names rank hart a stamp same) ∙ ap (λ x. told x hart a stamp) old

pub below : (n m : ℕ) (rank : Rank) (hart : ℕ) (a : Answer) (stamp : ℕ) → n ≤ m → NamesBelow n rank → TellsBelow m a
    → NamesBelow m (told rank hart a stamp)
below n m rank hart a stamp more old tells names fixed =
    goes_on names rank hart a stamp (old names (λ place h. fixed place (omega (arith, h, more)))) (same a tells)
  where
    number : (post : ℕ) → post ≤ m → number_by names post ≡ post
    number zero h = refl
    number (suc place) h = ap suc (fixed place (omega (arith, h)))

    same : (a : Answer) → TellsBelow m a → IsSameNamed names a
    same (answer.Reply (reply.Posted post done)) h = number post h
    same _ h = tt

-- what the names keep has the same number
kept : (set : ℕ → Bool) (names : Renaming) → Keeps set names → (post : ℕ) → IsNamed set post → number_by names post ≡ post
kept set names keeps zero is = refl
kept set names keeps (suc place) is = ap suc (keeps place is)

-- where these numbers keep it too
module _ (sends : Renaming → ℕ → ℕ) (more : ℕ → Bool)
    (also : (names : Renaming) → Keeps more names → (post : ℕ) → IsNamed more post → sends names post ≡ post) where
  same_post : (names : Renaming) → Keeps more names → (w : Wanted) (r : Reply) → TellsOnly more (answer.Reply r)
      → IsSamePost names (sends names) w r
  same_post names keeps (wanted.Post why (transfer.Send false buffer count dest tag comm)) (reply.Posted post paired) h =
      also names keeps post h
  same_post names keeps (wanted.Post why t) (reply.Posted post paired) h = kept more names keeps post h
  same_post names keeps (wanted.MessageOrPost target) (reply.Posted post paired) h = kept more names keeps post h
  same_post names keeps _ _ h = tt

  same_at : (names : Renaming) → Keeps more names → (row : Row) (a : Answer) → TellsOnly more a
      → IsSameAt names (sends names) row a
  same_at names keeps (OnReply m w) (answer.Reply r) h = same_post names keeps w r h
  same_at names keeps _ _ h = tt

  pub only : (set : ℕ → Bool) (rank : Rank) (hart : ℕ) (a : Answer) (stamp : ℕ)
      → ((place : ℕ) → set place ≡ true → more place ≡ true) → IsSameBy sends set rank → TellsOnly more a
      → IsSameBy sends more (told rank hart a stamp)
  only set rank hart a stamp within old tells names keeps =
      sym (tells_at names (sends names) rank hart a stamp (same_at names keeps (row_at rank hart) a tells))
      ∙ ap (λ x. told x hart a stamp) (old names (λ place h. keeps place (within place h)))

pub names_only : (set more : ℕ → Bool) (rank : Rank) (hart : ℕ) (a : Answer) (stamp : ℕ)
    → ((place : ℕ) → set place ≡ true → more place ≡ true) → NamesOnly set rank → TellsOnly more a
    → NamesOnly more (told rank hart a stamp)
names_only set more = only number_by more (kept more) set

pub awaits_only : (set more : ℕ → Bool) (rank : Rank) (hart : ℕ) (a : Answer) (stamp : ℕ)
    → ((place : ℕ) → set place ≡ true → more place ≡ true) → AwaitsOnly set rank → TellsOnly more a
    → AwaitsOnly more (told rank hart a stamp)
awaits_only set more = only as_before more (λ names keeps post is. refl) set
