-- What a hub's journal shows, and what a deed does to it.
use Rattle.std.specs.Prelude.{ℕ, ◌≡◌, ◌<◌, ◌≤◌, ◌+◌, ◌^◌, ◌⊎◌, false, cond, List, [], ◌∷◌, ◌++◌, length, map, eqb}
use Rattle.std.specs.Prelude.{Option, None}
use Rattle.std.specs.List.{cons_option}
use Rattle.std.proofs.lemmas.Bool.{eq-eqb}
use Rattle.cl_machine.proofs.Lists.{filter-keeps, filter-skips}
use Rattle.std.proofs.Common.{refl, sym, ap, ◌∙◌, subst, arith}
use Rattle.std.proofs.lemmas.List.{append-nil}
use mathlib.Core.Logic.{inl, inr}
use Rattle.mp_types.specs.declared.requests.Request.{Request}
use Rattle.mp_types.specs.declared.replies.Reply.{Reply}
use Rattle.cl_journal.specs.Calls.{Calls, entry}
use Rattle.cl_journal.specs.Journal.{entries_by, is_by, stamp_after}
use Rattle.cl_journal.specs.Replaying.{HubHistory, clock_of}
use Rattle.cl_journal.specs.declared.entries.Entry.{Entry}
use Rattle.cl_journal.proofs.History.{stamp_after-snoc}
use Rattle.cl_deeds.specs.Deeds.{Act, Deed, event_of, kind_of, request_of}
use Rattle.cl_rank.specs.Turning.{Answered, Tells, TellsAct}
use Rattle.cl_machine.specs.Journal.{Enters, reply_in}
use Rattle.cl_machine.specs.Product.{entry_of}
use Rattle.cl_machine.specs.ProductSteps.{JournalMoves}
use Rattle.cl_record.specs.Records.{is_hub}
use Rattle.cl_record.specs.Seats.{Station, Stops}
use Rattle.cl_record.specs.declared.plans.Plan.{Plan}
use Rattle.cl_run.specs.UnderWay.{shown}

-- a call of the hub enters one entry of the cluster's journal
pub enters : (before after : HubHistory) (rank hart clock : ℕ) (request : Request) (told : Reply × ℕ)
    → Calls before after rank hart clock request told
    → Enters (shown before) (entry rank hart clock request told) (shown after)
unfolding reply_in
enters before after rank hart clock request told c = (
  c.reply,
  c.stamp,
  λ i. record {
    links = c.links i;
    entries = c.entries i;
    clock = (ap (stamp_after 0) c.entries ∙ stamp_after-snoc 0 before.entries (entry rank hart clock request told)) i;
  },
)

-- one entry or none, as a list
abbrev pub listed : {X : Type 0} → Option X → List X
listed o = cons_option o []

-- what the hub's part of a deed comes to: the entry of a call, or nothing
pub record HubPart (before after : HubHistory) (d : Deed) : Type 0 where
  pub journal_moves : JournalMoves (shown before) (entry_of d) (shown after)
  pub links_stay : after.links ≡ before.links
  pub entries_are : after.entries ≡ before.entries ++ listed (entry_of d)
  pub own : entries_by d.rank (listed (entry_of d)) ≡ listed (entry_of d)
  pub of_others : (r : ℕ) → eqb d.rank r ≡ false → entries_by r (listed (entry_of d)) ≡ []
  pub requests_are : map (λ (e : Entry). e.request) (listed (entry_of d)) ≡ listed (request_of d.act)
  pub count_is : length (cond (is_hub (kind_of d.act)) (event_of d ∷ []) []) ≡ length (listed (entry_of d))
  pub few : length (entries_by d.rank before.entries) ≤ 1048576
      → length (entries_by d.rank before.entries) + length (listed (entry_of d)) ≤ 1048576
  pub low : clock_of before < 2 ^ 62 → clock_of after < 2 ^ 62
  -- the clock rises where a call was made
  pub rises : (after ≡ before) ⊎ (clock_of before < clock_of after)

quiet : (before after : HubHistory) (d : Deed) → after ≡ before → entry_of d ≡ None → request_of d.act ≡ None
    → is_hub (kind_of d.act) ≡ false
    → HubPart before after d
quiet before after d same none nothing no_hub = record {
  journal_moves = subst (λ o. JournalMoves (shown before) o (shown after)) (sym none) (ap shown same);
  links_stay = ap (λ (j : HubHistory). j.links) same;
  entries_are = ap (λ (j : HubHistory). j.entries) same ∙ sym (append-nil before.entries)
      ∙ ap (λ (o : Option Entry). before.entries ++ listed o) (sym none);
  own = ap (λ (o : Option Entry). entries_by d.rank (listed o)) none ∙ ap (λ (o : Option Entry). listed o) (sym none);
  of_others = λ r _. ap (λ (o : Option Entry). entries_by r (listed o)) none;
  requests_are = ap (λ (o : Option Entry). map (λ (e : Entry). e.request) (listed o)) none
      ∙ ap (λ (o : Option Request). listed o) (sym nothing);
  count_is = ap (λ b. length (cond b (event_of d ∷ []) [])) no_hub
      ∙ ap (λ (o : Option Entry). length (listed o)) (sym none);
  few = λ h. subst (λ (o : Option Entry). length (entries_by d.rank before.entries) + length (listed o) ≤ 1048576) (sym none) (omega (arith, h));
  low = λ h. subst (λ j. clock_of j < 2 ^ 62) (sym same) h;
  rises = inl same;
}

called : (before after : HubHistory) (rank hart stamp clock : ℕ) (request : Request) (reply : Reply)
    → Calls before after rank hart clock request (reply, stamp)
    → HubPart before after (record { rank = rank; hart = hart; stamp = stamp; act = Act.Hub clock request reply })
called before after rank hart stamp clock request reply c =
    let e : Entry = entry rank hart clock request (reply, stamp) in
    let last : clock_of after ≡ stamp = ap (stamp_after 0) c.entries ∙ stamp_after-snoc 0 before.entries e in
    record {
      journal_moves = enters before after rank hart clock request (reply, stamp) c;
      links_stay = c.links;
      entries_are = c.entries;
      own = filter-keeps (is_by rank) e [] (eq-eqb rank rank refl);
      of_others = λ r other. filter-skips (is_by r) e [] other;
      requests_are = refl;
      count_is = refl;
      few = λ _. omega (arith, c.few);
      low = λ _. subst (λ n. n < 2 ^ 62) (sym last) c.below;
      rises = inr (omega (arith, c.stamp, last));
    }

pub hub_part : (before after : HubHistory) (d : Deed) → Tells Answered before after d → HubPart before after d
hub_part before after d h = by_act d.act h
  where
    by_act : (a : Act) → TellsAct Answered d.rank d.hart d.stamp before after a
        → HubPart before after (record { rank = d.rank; hart = d.hart; stamp = d.stamp; act = a })
    by_act Act.Plain h = quiet before after _ h refl refl refl
    by_act Act.Local h = quiet before after _ h refl refl refl
    by_act (Act.Hub clock request reply) h = called before after d.rank d.hart d.stamp clock request reply h
    by_act (Act.Ready link part bytes) h = quiet before after _ h refl refl refl
    by_act (Act.Take link part gate bytes) h = quiet before after _ h refl refl refl
    by_act (Act.Miss link part) h = quiet before after _ h refl refl refl
    by_act (Act.Freed link part gate) h = quiet before after _ h refl refl refl
    by_act Act.Held h = quiet before after _ h refl refl refl
    by_act Act.Idle h = quiet before after _ h refl refl refl

-- a rank that stops leaves the hub as it was
pub hub_stays : (plan : Plan) (s t : Station) (before after : HubHistory) → Stops Answered plan s before t after
    → after ≡ before
hub_stays plan s t before after h = elim h.holds [ inl own ↦ own.1 | inr refused ↦ refused.1.3.2.1 ]
