-- Alike clusters go alike, kind by kind.
use Rattle.std.proofs.Common.{◌≡◌, ℕ, ◌+◌, ◌<◌, ◌⊎◌, inl, inr, [], ◌∷◌, ◌++◌, length, Bool, Some, refl, sym, ap, ◌∙◌, subst, arith}
use Rattle.std.specs.Prelude.{max}
use Rattle.std.specs.List.{slice_get, slice_set}
use Rattle.std.proofs.lemmas.Option.{same_Some}
use Rattle.mp_types.specs.declared.replies.Reply.{Reply}
use Rattle.mp_types.specs.declared.replies.Reply.TheVariants as reply
use Rattle.mp_types.specs.declared.requests.Request.{Request}
use Rattle.mp_hub.specs.Hub.{hub_after}
use Rattle.mp_alike_laws.specs.Renaming.{Renaming, number_by, request_by}
use Rattle.mp_source_laws.specs.Alike.{AlikeHubs, Wild}
use Rattle.mp_source_laws.specs.Laws.{AsksOfLive, AsksWithin}
use Rattle.mp_source_laws.proofs.Answers.{answers_law}
use Rattle.cl_journal.specs.declared.entries.Entry.{Entry}
use Rattle.cl_journal.specs.Journal.{calls_of, call_of}
use Rattle.cl_journal.proofs.History.{calls_of-snoc}
use Rattle.cl_state.specs.declared.asking.Answer.{Answer}
use Rattle.cl_state.specs.declared.asking.Ask.{Ask}
use Rattle.cl_state.specs.Asked.{asked}
use Rattle.cl_state.specs.Rank.{Rank}
use Rattle.cl_state.specs.Told.{told}
use Rattle.cl_names_laws.specs.Named.{IsSameNamed, ask_by}
use Rattle.cl_trace.specs.declared.events.Kind.{Kind}
use Rattle.cl_machine.specs.declared.steps.Step.{Step}
use Rattle.cl_machine.specs.Boxes.{Box, box_number, with_made, with_taken}
use Rattle.cl_machine.specs.Cluster.{CaseOf, Cluster, only_told, ranks_told, with_box}
use Rattle.cl_machine.specs.Journal.{Journal, reply_in, with_entry}
use Rattle.cl_order_laws.specs.Alike.{AlikeBoxes, AlikeRanks, AreEach, Leads, at_stamp, hub_of}
use Rattle.cl_source_laws.specs.Alike.{AskWithin}
use Rattle.cl_source_laws.specs.Laws.{AskOfLive, GoAlikeLaw}
use Rattle.cl_order_laws.proofs.Boxes.{empty_too, holds_too, made_alike, taken_alike}
use Rattle.cl_order_laws.proofs.Each.{each_set}
use Rattle.cl_order_laws.proofs.Ranks.{asked_alike, harts_alike, told_alike}
use Rattle.cl_source_laws.proofs.Replies.{posted_named}

pub same_reply : (a : Journal) (rank : ℕ) (q : Request) (b : Journal) (p : Request)
    → (wild : Wild) (names : Renaming) → AsksWithin wild rank q → AsksOfLive (hub_of a).board q
    → AlikeHubs wild names (hub_of a) (hub_of b)
    → p ≡ request_by names q
    → reply_in b rank p ≡ reply_in a rank q
unfolding reply_in
same_reply a rank q b p wild names may live alike is =
    ap (λ x. reply_in b rank x) is
    ∙ answers_law.reply wild names a.links b.links (calls_of a.entries) (calls_of b.entries) rank q may live alike

same_number : {wild : Wild} → (a b : Journal) (names : Renaming) → AlikeHubs wild names (hub_of a) (hub_of b) → (rank : ℕ) (q : Request)
    (number : ℕ) (done : Bool) → reply_in a rank q ≡ reply.Posted number done → number_by names number ≡ number
unfolding reply_in
same_number a b names alike rank q number done told =
    posted_named names a.links (calls_of a.entries) (hub_of b) alike rank q number done told

hub_entered : (wild : Wild) (a b : Journal) (names : Renaming) → AlikeHubs wild names (hub_of a) (hub_of b) → (e f : Entry)
    → AsksWithin wild e.rank e.request → AsksOfLive (hub_of a).board e.request → f.rank ≡ e.rank → f.request ≡ request_by names e.request
    → AlikeHubs wild names (hub_of (with_entry a e)) (hub_of (with_entry b f))
hub_entered wild a b names alike e f may live rank request =
    let more =
    answers_law.stays wild names a.links b.links (calls_of a.entries) (calls_of b.entries) e.rank e.request may live alike in
    subst (λ cs. AlikeHubs wild names (hub_after a.links cs) (hub_of (with_entry b f))) (sym (calls_of-snoc a.entries e))
    (subst (λ cs. AlikeHubs wild names (hub_after a.links (calls_of a.entries ++ call_of e ∷ [])) (hub_after b.links cs))
    (ap (λ r. calls_of b.entries ++ (r, request_by names e.request) ∷ []) (sym rank)
    ∙ ap (λ q. calls_of b.entries ++ (f.rank, q) ∷ []) (sym request) ∙ sym (calls_of-snoc b.entries f)) more)

-- where the same turn of one rank leads from both: that rank is told alike, and the hubs and the boxes stay alike
pub record Went (wild : Wild) (names : Renaming) (a b new : Cluster) (e : Step) : Type 0 where
  pub stamp : ℕ
  pub then : Cluster
  pub leads : Leads b (at_stamp e stamp) then
  pub left : Rank
  pub right : Rank
  pub ranks : new.ranks ≡ slice_set a.ranks e.rank left
  pub others : then.ranks ≡ slice_set b.ranks e.rank right
  pub alike : AlikeRanks names left right
  pub hubs : AlikeHubs wild names (hub_of new.journal) (hub_of then.journal)
  pub boxes : AreEach AlikeBoxes new.boxes then.boxes

module _ (wild : Wild) (names : Renaming) (a b : Cluster) (e : Step) (hubs : AlikeHubs wild names (hub_of a.journal) (hub_of b.journal))
    (boxes : AreEach AlikeBoxes a.boxes b.boxes) (x y : Rank)
    (there : slice_get b.ranks e.rank ≡ Some y) (both : AlikeRanks names x y)
    (hart : e.hart < length x.harts) (may : AskWithin wild e.rank (asked x e.hart)) (live : AskOfLive a (asked x e.hart)) where
  hart_too : e.hart < length y.harts
  hart_too = (let h = harts_alike names x y both in omega (arith, hart, h))

  asks : (q : Ask) → asked x e.hart ≡ q → asked y e.hart ≡ ask_by names q
  asks q is = asked_alike names x y both e.hart ∙ ap (ask_by names) is

  only : (kind : Kind) → e.kind ≡ kind → (answer : Answer) (stamp : ℕ) → IsSameNamed names answer
      → CaseOf b (at_stamp e stamp) y kind (only_told b (at_stamp e stamp) y answer)
      → Went wild names a b (only_told a e x answer) e
  only kind is answer stamp same c = record {
    stamp = stamp;
    then = only_told b (at_stamp e stamp) y answer;
    leads = (y, there, hart_too, subst (λ k. CaseOf b (at_stamp e stamp) y k (only_told b (at_stamp e stamp) y answer)) (sym is) c);
    left = told x e.hart answer e.stamp;
    right = told y e.hart answer stamp;
    ranks = refl;
    others = refl;
    alike = told_alike names x y both e.hart answer e.stamp stamp same;
    hubs = hubs;
    boxes = boxes;
  }

  boxed : (kind : Kind) → e.kind ≡ kind → (answer : Answer) (stamp number : ℕ) (u v : Box) → IsSameNamed names answer
      → AlikeBoxes u v
      → CaseOf b (at_stamp e stamp) y kind (with_box b (at_stamp e stamp) y answer number v)
      → Went wild names a b (with_box a e x answer number u) e
  boxed kind is answer stamp number u v same alike c = record {
    stamp = stamp;
    then = with_box b (at_stamp e stamp) y answer number v;
    leads = (y, there, hart_too, subst (λ k. CaseOf b (at_stamp e stamp) y k (with_box b (at_stamp e stamp) y answer number v)) (sym is) c);
    left = told x e.hart answer e.stamp;
    right = told y e.hart answer stamp;
    ranks = refl;
    others = refl;
    alike = told_alike names x y both e.hart answer e.stamp stamp same;
    hubs = hubs;
    boxes = each_set AlikeBoxes a.boxes b.boxes number u v boxes alike;
  }

  to : (new then : Cluster) → new ≡ then → Went wild names a b then e → Went wild names a b new e
  to new then same went = subst (λ n. Went wild names a b n e) (sym same) went

  pub goes : (kind : Kind) → e.kind ≡ kind → (new : Cluster) → CaseOf a e x kind new → Went wild names a b new e
  goes Kind.Plain is new c =
      to new _ c.2 (only Kind.Plain is Answer.Alone (y.clock + 1) tt (asks Ask.Plain c.0, refl, refl))
  goes Kind.Local is new c =
      to new _ c.2 (only Kind.Local is Answer.Alone (y.clock + 1) tt (asks Ask.Local c.0, refl, refl))
  goes Kind.Held is new c =
      to new _ c.2 (only Kind.Held is Answer.Alone (y.clock + 1) tt (asks Ask.Held c.0, refl, refl))
  goes Kind.Idle is new c =
      to new _ c.2 (only Kind.Idle is Answer.Alone (y.clock + 1) tt (asks Ask.Idle c.0, refl, refl))
  goes Kind.Miss is new c =
      to new _ c.4 (only Kind.Miss is Answer.Missed (y.clock + 1) tt (c.0, c.1, looks c.2, refl, refl))
    where
      looks : ((asked x e.hart ≡ Ask.Look c.0 c.1) ⊎ (asked x e.hart ≡ Ask.Freed c.0 c.1))
          → ((asked y e.hart ≡ Ask.Look c.0 c.1) ⊎ (asked y e.hart ≡ Ask.Freed c.0 c.1))
      looks (inl look) = inl (asks (Ask.Look c.0 c.1) look)
      looks (inr freed) = inr (asks (Ask.Freed c.0 c.1) freed)
  goes Kind.Freed is new c =
      let v = boxes.each (box_number c.0 c.1) c.2 c.4 in
      let stamp = max y.clock (v.0).stamp + 1 in
      to new _ c.7 (only Kind.Freed is Answer.Freed stamp tt
      (c.0, c.1, v.0, asks (Ask.Freed c.0 c.1) c.3, v.1, empty_too c.2 v.0 v.2 c.5, refl, refl))
  goes Kind.Ready is new c =
      let number = box_number c.0 c.1 in
      let v = boxes.each number c.3 c.5 in
      let stamp = y.clock + 1 in
      let empty = empty_too c.3 v.0 v.2 c.6 in
      to new _ c.8 (boxed Kind.Ready is Answer.Alone stamp number (with_made c.3 e.stamp c.2) (with_made v.0 stamp c.2) tt
      (made_alike c.3 v.0 c.2 e.stamp stamp c.6 empty)
      (c.0, c.1, c.2, v.0, asks (Ask.Ready c.0 c.1 c.2) c.4, v.1, empty, refl, refl))
  goes Kind.Take is new c =
      let number = box_number c.0 c.1 in
      let v = boxes.each number c.3 c.5 in
      let stamp = max y.clock (v.0).stamp + 1 in
      let full = holds_too c.3 v.0 c.2 v.2 c.6 in
      to new _ c.8 (boxed Kind.Take is (Answer.Taken c.2) stamp number (with_taken c.3 e.stamp) (with_taken v.0 stamp) tt
      (taken_alike c.3 v.0 c.2 e.stamp stamp full.0 full.1)
      (c.0, c.1, c.2, v.0, asks (Ask.Look c.0 c.1) c.4, v.1, (full.1).holds, refl, refl))
  goes (Kind.Hub r) is new c =
      let stamp = max y.clock (b.journal).clock + 1 in
      let q = request_by names c.0 in
      let mine : Entry = record { rank = e.rank; hart = e.hart; clock = x.clock; stamp = e.stamp; request = c.0; reply = r } in
      let entry : Entry = record { rank = e.rank; hart = e.hart; clock = y.clock; stamp = stamp; request = q; reply = r } in
      let then : Cluster = record {
        ranks = ranks_told b (at_stamp e stamp) y (Answer.Reply r);
        journal = with_entry b.journal entry;
        boxes = b.boxes;
      } in
      let within : AsksWithin wild e.rank c.0 = subst (AskWithin wild e.rank) c.1 may in
      let of_live : AsksOfLive (hub_of a.journal).board c.0 = subst (AskOfLive a) c.1 live in
      let replied : r ≡ reply_in b.journal e.rank q =
      c.2 ∙ sym (same_reply a.journal e.rank c.0 b.journal q wild names within of_live hubs refl) in
      to new _ c.4 (record {
        stamp = stamp;
        then = then;
        leads = (
          y,
          there,
          hart_too,
          subst (λ k. CaseOf b (at_stamp e stamp) y k then) (sym is)
              (q, asks (Ask.Hub c.0) c.1, replied, refl, refl),
        );
        left = told x e.hart (Answer.Reply r) e.stamp;
        right = told y e.hart (Answer.Reply r) stamp;
        ranks = refl;
        others = refl;
        alike = told_alike names x y both e.hart (Answer.Reply r) e.stamp stamp (named r (sym c.2));
        hubs = hub_entered wild a.journal b.journal names hubs mine entry within of_live refl refl;
        boxes = boxes;
      })
    where
      named : (r : Reply) → reply_in a.journal e.rank c.0 ≡ r → IsSameNamed names (Answer.Reply r)
      named (reply.Posted number done) told =
          same_number a.journal b.journal names hubs e.rank c.0 number done told
      named _ told = tt

pub go_alike_law : GoAlikeLaw
go_alike_law wild names a b new e rank alike here may live leads =
    let v = (alike.ranks).each e.rank leads.0 leads.1 in
    let same : leads.0 ≡ rank = same_Some leads.0 rank (sym leads.1 ∙ here) in
    let went =
    goes wild names a b e alike.hubs alike.boxes leads.0 v.0 v.1 v.2 leads.2
    (subst (λ (x : Rank). AskWithin wild e.rank (asked x e.hart)) (sym same) may)
    (subst (λ (x : Rank). AskOfLive a (asked x e.hart)) (sym same) live) e.kind refl new leads.3 in (
      went.stamp,
      went.then,
      went.leads,
      record {
        ranks = subst (λ xs. AreEach (AlikeRanks names) xs (went.then).ranks) (sym went.ranks)
            (subst (λ ys. AreEach (AlikeRanks names) (slice_set a.ranks e.rank went.left) ys) (sym went.others)
            (each_set (AlikeRanks names) a.ranks b.ranks e.rank went.left went.right alike.ranks went.alike));
        hubs = went.hubs;
        boxes = went.boxes;
      },
    )
