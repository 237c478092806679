-- A cluster of an image stays inside the limits, and so does each step from it.
use Rattle.std.specs.Prelude.{ℕ, zero, suc, ◌<◌, ◌≤◌, ◌≡◌, ◌^◌, List, [], ◌∷◌, length, slice_get, option_map, Option}
use Rattle.std.specs.Prelude.{Some, None}
use Rattle.std.proofs.Common.{refl, sym, subst, ◌∙◌, arith}
use Rattle.std.proofs.lemmas.List.{length-append, length-map, length-set, map-append}
use Rattle.std.proofs.lemmas.Option.{same_Some, slice_get-map, slice_get_within}
use Rattle.rv_hart.specs.State.{start_state}
use Rattle.rv_image_types.specs.Image.{IsImage}
use Rattle.rv_image_types.specs.declared.images.ImageParts.{ImageParts}
use Rattle.rv_image_types.specs.declared.images.Link.{Link}
use Rattle.mp_types.specs.declared.requests.Request.{Request}
use Rattle.cl_journal.specs.declared.entries.Entry.{Entry}
use Rattle.cl_state.specs.declared.asking.Answer.{Answer}
use Rattle.cl_state.specs.Rank.{Rank, below, loaded, start_harts}
use Rattle.cl_state.specs.Told.{told}
use Rattle.cl_state.proofs.Moves.{told_at}
use Rattle.cl_trace.specs.declared.events.Kind.{Kind}
use Rattle.cl_machine.specs.Boxes.{Box}
use Rattle.cl_machine.specs.Cluster.{CaseOf, Cluster, IsStep, loaded_cluster, ranks_told}
use Rattle.cl_machine.specs.Journal.{Journal, reply_in, with_entry}
use Rattle.cl_journal.specs.Journal.{call_of, calls_of}
use Rattle.cl_machine.specs.declared.steps.Step.{Step}
use Rattle.cl_text.specs.Limits.{FitsKind, FitsReply, FitsStep}
use Rattle.cl_text_laws.proofs.Hub.{AreRight, reply_fits}
use Rattle.cl_text_laws.proofs.Lists.{all-append, all-replicate, each-set}
use Rattle.cl_text_laws.proofs.Requests.{HasFewComms, asked_right}
use Rattle.cl_text_laws.proofs.Right.{IsRight, IsRightCall, IsRightOpen, IsRightTable}
use Rattle.cl_text_laws.proofs.Told.{told_right}

-- a rank of the image, with requests inside the limits
pub record IsRankOf (image : ImageParts) (rank : Rank) : Type 0 where
  pub comms : HasFewComms rank.site
  pub harts : length rank.harts ≡ image.harts
  pub requests : IsRightTable rank.requests

abbrev pub AreRanksOf : ImageParts → List Rank → Type 0
AreRanksOf image ranks = (r : ℕ) (rank : Rank) → slice_get ranks r ≡ Some rank → IsRankOf image rank

-- the calls are inside the limits, and no more than the hub's clock tells
pub record IsJournalOf (image : ImageParts) (journal : Journal) : Type 0 where
  pub links : journal.links ≡ image.links
  pub calls : AreRight (calls_of journal.entries)
  pub few : length journal.entries ≤ journal.clock
  pub low : journal.clock < 2 ^ 62

-- a cluster of the image, wherever a run of it has come
pub record IsWithin (image : ImageParts) (cluster : Cluster) : Type 0 where
  pub count : length cluster.ranks ≡ image.ranks
  pub ranks : AreRanksOf image cluster.ranks
  pub journal : IsJournalOf image cluster.journal

-- ---- as it is loaded

length-below : (n : ℕ) → length (below n) ≡ n
length-below zero = refl
length-below (suc n) =
    (let less = length-below n in omega (arith, less, length-append (below n) (n ∷ [])))

length-start_harts : (image : ImageParts) (rank n : ℕ) → length (start_harts image rank n) ≡ n
length-start_harts image rank zero = refl
length-start_harts image rank (suc n) =
    let less = length-start_harts image rank n in
    omega (arith, less, length-append (start_harts image rank n) (start_state image.entry image.memory n rank ∷ []))

loaded_within : (image : ImageParts) (r : ℕ) → IsImage image → IsRankOf image (loaded image r)
loaded_within image r is = record {
  comms = (let few = is.few_comms in omega (arith, few));
  harts = length-start_harts image r image.harts;
  requests = all-replicate IsRightOpen 255 None tt;
}

pub first_within : (image : ImageParts) → IsImage image → IsWithin image (loaded_cluster image)
first_within image is = record {
  count = length-map (below image.ranks) (loaded image) ∙ length-below image.ranks;
  ranks = λ r rank at.
      go rank (slice_get (below image.ranks) r) (sym (slice_get-map (loaded image) (below image.ranks) r) ∙ at);
  journal = record { links = refl; calls = tt; few = omega arith; low = omega arith };
}
  where
    go : (rank : Rank) (o : Option ℕ) → option_map (loaded image) o ≡ Some rank → IsRankOf image rank
    go rank None at = absurd (cc)
    go rank (Some k) at = subst (IsRankOf image) (same_Some (loaded image k) rank at) (loaded_within image k is)

-- ---- one step

module _ (image : ImageParts) (is : IsImage image) (old : Cluster) (e : Step) (rank : Rank)
    (within : IsWithin image old) (there : slice_get old.ranks e.rank ≡ Some rank) (below_2_62 : e.stamp < 2 ^ 62) where
  own : IsRankOf image rank
  own = within.ranks e.rank rank there

  told_within : (answer : Answer) → IsRankOf image (told rank e.hart answer e.stamp)
  told_within answer =
      let at = told_at rank e.hart answer e.stamp in
      record {
        comms = subst HasFewComms (sym at.site) own.comms;
        harts = at.harts ∙ own.harts;
        requests = told_right rank e.hart answer e.stamp own.comms own.requests;
      }

  -- the rank was told this, and the journal is one of the image
  next : (answer : Answer) (journal : Journal) (boxes : List Box) → IsJournalOf image journal
      → IsWithin image (record { ranks = ranks_told old e rank answer; journal = journal; boxes = boxes })
  next answer journal boxes of = record {
    count = length-set old.ranks e.rank (told rank e.hart answer e.stamp) ∙ within.count;
    ranks = each-set (IsRankOf image) old.ranks e.rank rank (told rank e.hart answer e.stamp) within.ranks there
        (told_within answer);
    journal = of;
  }

  same : (answer : Answer) (boxes : List Box)
      → IsWithin image (record { ranks = ranks_told old e rank answer; journal = old.journal; boxes = boxes })
  same answer boxes = next answer old.journal boxes within.journal

  rank_low : e.rank < image.ranks
  rank_low = subst (λ n. e.rank < n) within.count (slice_get_within old.ranks e.rank rank there)

  rank_of_8 : e.rank < 8
  rank_of_8 = (let low = rank_low in let few = is.few_ranks in omega (arith, low, few))

  call_fits : (q : Request) → IsRight q → FitsReply (reply_in old.journal e.rank q)
  unfolding reply_in
  call_fits q right =
      let j = within.journal in
      reply_fits old.journal.links (calls_of old.journal.entries) j.calls
      (subst (λ (links : List Link). length links ≤ 32) (sym j.links) is.few_links)
      (let count = length-map old.journal.entries call_of in let few = j.few in let low = j.low in
      omega (arith, count, few, low))
      e.rank q right

  journal_next : (entry : Entry) → entry.rank ≡ e.rank → IsRight entry.request → entry.stamp ≡ e.stamp
      → old.journal.clock < e.stamp → IsJournalOf image (with_entry old.journal entry)
  journal_next entry by right stamp later = record {
    links = (within.journal).links;
    calls = subst AreRight (sym (map-append call_of old.journal.entries (entry ∷ [])))
        (all-append IsRightCall (calls_of old.journal.entries) (call_of entry) (within.journal).calls (record {
          rank = subst (λ n. n < 8) (sym by) rank_of_8;
          request = right;
        }));
    few = (let few = (within.journal).few in
        omega (arith, few, later, stamp, length-append old.journal.entries (entry ∷ [])));
    low = omega (arith, stamp, below_2_62);
  }

  -- what a step of this kind comes to
  abbrev Comes : Kind → Cluster → Type 0
  Comes kind new = (0 < e.stamp) × FitsKind kind × IsWithin image new

  by_kind : (kind : Kind) (new : Cluster) → CaseOf old e rank kind new → Comes kind new
  by_kind Kind.Plain new c =
      (omega (arith, c.1), tt, subst (IsWithin image) (sym c.2) (same Answer.Alone old.boxes))
  by_kind Kind.Local new c =
      (omega (arith, c.1), tt, subst (IsWithin image) (sym c.2) (same Answer.Alone old.boxes))
  by_kind Kind.Held new c =
      (omega (arith, c.1), tt, subst (IsWithin image) (sym c.2) (same Answer.Alone old.boxes))
  by_kind Kind.Idle new c =
      (omega (arith, c.1), tt, subst (IsWithin image) (sym c.2) (same Answer.Alone old.boxes))
  by_kind (Kind.Hub reply) new c =
      let q : Request = c.0 in
      let right : IsRight q = asked_right rank e.hart q own.comms own.requests c.1 in
      let entry : Entry = record {
        rank = e.rank;
        hart = e.hart;
        clock = rank.clock;
        stamp = e.stamp;
        request = q;
        reply = reply;
      } in (
        omega (arith, c.3),
        subst FitsReply (sym c.2) (call_fits q right),
        subst (IsWithin image) (sym c.4)
            (next (Answer.Reply reply) (with_entry old.journal entry) old.boxes
            (journal_next entry refl right refl (omega (arith, c.3)))),
      )
  by_kind Kind.Ready new c =
      (omega (arith, c.7), tt, subst (IsWithin image) (sym c.8) (same Answer.Alone _))
  by_kind Kind.Take new c =
      (omega (arith, c.7), tt, subst (IsWithin image) (sym c.8) (same (Answer.Taken c.2) _))
  by_kind Kind.Miss new c =
      (omega (arith, c.3), tt, subst (IsWithin image) (sym c.4) (same Answer.Missed old.boxes))
  by_kind Kind.Freed new c =
      (omega (arith, c.6), tt, subst (IsWithin image) (sym c.7) (same Answer.Freed old.boxes))

-- a step is inside the limits, and leads to a cluster that is
pub step_within : (image : ImageParts) (old new : Cluster) (e : Step) → IsImage image → IsWithin image old
    → IsStep old e new → FitsStep image e × IsWithin image new
step_within image old new e is within step =
    let c = by_kind image is old e step.0 within step.1 step.3 e.kind new step.4 in (
      record {
        rank = rank_low image is old e step.0 within step.1 step.3;
        hart = (let here = step.2 in let count = (within.ranks e.rank step.0 step.1).harts in
            omega (arith, here, count));
        stamped = c.0;
        below = step.3;
        kind = c.1;
      },
      c.2,
    )
