-- A step of a rank that is stuck: its clock changes, and nothing else of the cluster that anybody waits for.
use Rattle.std.specs.Prelude.{ℕ, ◌≡◌, ◌⊎◌, List, [], ◌∷◌, ◌++◌, Some, slice_get}
use Rattle.std.proofs.Common.{refl, sym, ap, ◌∙◌, subst, inl, inr}
use Rattle.mp_types.specs.declared.replies.Reply.{Reply}
use Rattle.mp_types.specs.declared.replies.Reply.TheVariants as reply
use Rattle.mp_types.specs.declared.requests.Request.{Request}
use Rattle.mp_hub.specs.Hub.{HubView, hub_after}
use Rattle.mp_wait_laws.specs.Waits.{WaitsFor}
use Rattle.mp_wait_laws.proofs.Waits.{waits_law}
use Rattle.cl_journal.specs.declared.entries.Entry.{Entry}
use Rattle.cl_state.specs.declared.asking.Answer.TheVariants as answer
use Rattle.cl_state.specs.declared.asking.Ask.{Ask}
use Rattle.cl_state.specs.declared.asking.Ask.TheVariants as ask
use Rattle.cl_state.specs.Asked.{asked}
use Rattle.cl_state.specs.Rank.{Rank}
use Rattle.cl_state.specs.Told.{told}
use Rattle.cl_state_laws.specs.Laws.{IsLook}
use Rattle.cl_state_laws.specs.Vain.{IsPatient, IsStopped, mode_of}
use Rattle.cl_state_laws.specs.VainLaws.{at_clock}
use Rattle.cl_state_laws.proofs.Vain.{vain_law}
use Rattle.cl_deeds.specs.Deeds.{Act, Suits, Deed, answer_of}
use Rattle.cl_machine.specs.Boxes.{box_number}
use Rattle.cl_machine.specs.Cluster.{Cluster}
use Rattle.cl_machine.specs.Journal.{Journal, reply_in}
use Rattle.cl_journal.specs.Journal.{calls_of, call_of}
use Rattle.cl_machine.specs.Product.{entry_for}
use Rattle.cl_machine.specs.ProductSteps.{JournalMoves}
use Rattle.cl_deadlock_laws.specs.Stuck.{AsksInVain, IsEmptyAt, IsFullAt, IsStuckHart, is_among, is_member}
use Rattle.cl_deadlock_laws.proofs.Boxes.{BoxesMove, not_held}

-- ---- the hub of a journal

abbrev pub hub_of : Journal → HubView
hub_of journal = hub_after journal.links (calls_of journal.entries)

pub calls-snoc : (es : List Entry) (e : Entry) → calls_of (es ++ e ∷ []) ≡ calls_of es ++ call_of e ∷ []
calls-snoc [] e = refl
calls-snoc (x ∷ es) e = ap (λ cs. call_of x ∷ cs) (calls-snoc es e)

-- ---- what changes

-- the rank has another clock; links, hub and boxes are as they were
pub record Passed (old new : Cluster) (stamp : ℕ) (s t : Rank) : Type 0 where
  pub rank : t ≡ at_clock s stamp
  pub links : new.journal.links ≡ old.journal.links
  pub hub : hub_of new.journal ≡ hub_of old.journal
  pub boxes : new.boxes ≡ old.boxes

module _ (ranks : List ℕ) (old new : Cluster) (d : Deed) (s t : Rank) where
  abbrev Does : Act → Type 0
  Does act =
      (t ≡ told s d.hart (answer_of act) d.stamp)
      × JournalMoves old.journal (entry_for d act) new.journal
      × BoxesMove old.boxes d act new.boxes

  -- nothing but the rank changes
  alone : t ≡ at_clock s d.stamp → new.journal ≡ old.journal → new.boxes ≡ old.boxes → Passed old new d.stamp s t
  alone rank journal boxes = record {
    rank = rank;
    links = ap (λ (j : Journal). j.links) journal;
    hub = ap hub_of journal;
    boxes = boxes;
  }

  stopped : IsStopped (mode_of s d.hart) → (act : Act) → Suits ask.Idle act → Does act → Passed old new d.stamp s t
  stopped is Act.Idle answers does = alone (does.0 ∙ ((vain_law.stopped) s d.hart d.stamp _ is).1) does.1 does.2
  stopped is Act.Plain answers does = absurd (cc)
  stopped is Act.Local answers does = absurd (cc)
  stopped is (Act.Hub clock request reply) answers does = absurd (cc)
  stopped is (Act.Ready link part bytes) answers does = absurd (cc)
  stopped is (Act.Take link part gate bytes) answers does = absurd (cc)
  stopped is (Act.Miss link part) answers does = elim answers [ inl e ↦ absurd (cc) | inr e ↦ absurd (cc) ]
  stopped is (Act.Freed link part gate) answers does = absurd (cc)
  stopped is Act.Held answers does = absurd (cc)

  -- a call that isn't answered yet
  called : (q : Request) (clock : ℕ) (a : Reply) → IsPatient s d.hart → asked s d.hart ≡ ask.Hub q
      → WaitsFor (is_member s.site) (is_among ranks) old.journal.links (calls_of old.journal.entries) d.rank q
      → Does (Act.Hub clock q a) → Passed old new d.stamp s t
  unfolding reply_in
  called q clock a patient asks waits does =
      let not_yet : a ≡ reply.NotYet = (does.1).0 ∙ waits.0 in
      record {
        rank = does.0 ∙ ap (λ x. told s d.hart (answer.Reply x) d.stamp) not_yet
            ∙ (vain_law.not_yet) s d.hart d.stamp q patient asks;
        links = ap (λ (j : Journal). j.links) (does.1).2;
        hub = ap hub_of (does.1).2
            ∙ ap (hub_after old.journal.links) (calls-snoc old.journal.entries _)
            ∙ (waits_law.own) (is_member s.site) (is_among ranks) old.journal.links
            (calls_of old.journal.entries) d.rank q waits;
        boxes = does.2;
      }

  looked : (a : Ask) → asked s d.hart ≡ a → IsLook a → IsPatient s d.hart → (link part : ℕ) → Does (Act.Miss link part)
      → Passed old new d.stamp s t
  looked a asks look patient link part does =
      alone (does.0 ∙ (vain_law.missed) s d.hart d.stamp patient (subst IsLook (sym asks) look)) does.1 does.2

  hub_held : (q : Request) → asked s d.hart ≡ ask.Hub q → IsPatient s d.hart
      → WaitsFor (is_member s.site) (is_among ranks) old.journal.links (calls_of old.journal.entries) d.rank q
      → (act : Act) → Suits (ask.Hub q) act → Does act → Passed old new d.stamp s t
  hub_held q asks patient waits (Act.Hub clock request reply) answers does =
      let same : request ≡ q = (cc) in
      called q clock reply patient asks waits (subst (λ x. Does (Act.Hub clock x reply)) same does)
  hub_held q asks patient waits Act.Plain answers does = absurd (cc)
  hub_held q asks patient waits Act.Local answers does = absurd (cc)
  hub_held q asks patient waits (Act.Ready link part bytes) answers does = absurd (cc)
  hub_held q asks patient waits (Act.Take link part gate bytes) answers does = absurd (cc)
  hub_held q asks patient waits (Act.Miss link part) answers does =
      elim answers [ inl e ↦ absurd (cc) | inr e ↦ absurd (cc) ]
  hub_held q asks patient waits (Act.Freed link part gate) answers does = absurd (cc)
  hub_held q asks patient waits Act.Held answers does = absurd (cc)
  hub_held q asks patient waits Act.Idle answers does = absurd (cc)

  look_held : (link part : ℕ) → asked s d.hart ≡ ask.Look link part → IsPatient s d.hart
      → IsEmptyAt old.boxes (box_number link part)
      → (act : Act) → Suits (ask.Look link part) act → Does act → Passed old new d.stamp s t
  look_held link part asks patient empty (Act.Miss link2 part2) answers does =
      looked (ask.Look link part) asks tt patient link2 part2 does
  look_held link part asks patient empty (Act.Take link2 part2 gate bytes) answers does =
      let same : box_number link2 part2 ≡ box_number link part =
      (let l : link2 ≡ link = (cc) in let p : part2 ≡ part = (cc) in λ i. box_number (l i) (p i)) in
      absurd (not_held (does.2).0 bytes
      (empty (does.2).0 (subst (λ n. slice_get old.boxes n ≡ Some (does.2).0) same (does.2).2)) ((does.2).3).0)
  look_held link part asks patient empty Act.Plain answers does = absurd (cc)
  look_held link part asks patient empty Act.Local answers does = absurd (cc)
  look_held link part asks patient empty (Act.Hub clock request reply) answers does = absurd (cc)
  look_held link part asks patient empty (Act.Ready link2 part2 bytes) answers does = absurd (cc)
  look_held link part asks patient empty (Act.Freed link2 part2 gate) answers does = absurd (cc)
  look_held link part asks patient empty Act.Held answers does = absurd (cc)
  look_held link part asks patient empty Act.Idle answers does = absurd (cc)

  freed_held : (link part : ℕ) → asked s d.hart ≡ ask.Freed link part → IsPatient s d.hart
      → IsFullAt old.boxes (box_number link part)
      → (act : Act) → Suits (ask.Freed link part) act → Does act → Passed old new d.stamp s t
  freed_held link part asks patient full (Act.Miss link2 part2) answers does =
      looked (ask.Freed link part) asks tt patient link2 part2 does
  freed_held link part asks patient full (Act.Freed link2 part2 gate) answers does =
      let same : box_number link2 part2 ≡ box_number link part =
      (let l : link2 ≡ link = (cc) in let p : part2 ≡ part = (cc) in λ i. box_number (l i) (p i)) in
      absurd (full (does.2).0 (subst (λ n. slice_get old.boxes n ≡ Some (does.2).0) same (does.2).2) ((does.2).3).0)
  freed_held link part asks patient full Act.Plain answers does = absurd (cc)
  freed_held link part asks patient full Act.Local answers does = absurd (cc)
  freed_held link part asks patient full (Act.Hub clock request reply) answers does = absurd (cc)
  freed_held link part asks patient full (Act.Ready link2 part2 bytes) answers does = absurd (cc)
  freed_held link part asks patient full (Act.Take link2 part2 gate bytes) answers does = absurd (cc)
  freed_held link part asks patient full Act.Held answers does = absurd (cc)
  freed_held link part asks patient full Act.Idle answers does = absurd (cc)

  held_held : asked s d.hart ≡ ask.Held → IsPatient s d.hart → (act : Act) → Suits ask.Held act → Does act
      → Passed old new d.stamp s t
  held_held asks patient Act.Held answers does =
      alone (does.0 ∙ (vain_law.held) s d.hart d.stamp patient asks) does.1 does.2
  held_held asks patient Act.Plain answers does = absurd (cc)
  held_held asks patient Act.Local answers does = absurd (cc)
  held_held asks patient (Act.Hub clock request reply) answers does = absurd (cc)
  held_held asks patient (Act.Ready link part bytes) answers does = absurd (cc)
  held_held asks patient (Act.Take link part gate bytes) answers does = absurd (cc)
  held_held asks patient (Act.Miss link part) answers does = elim answers [ inl e ↦ absurd (cc) | inr e ↦ absurd (cc) ]
  held_held asks patient (Act.Freed link part gate) answers does = absurd (cc)
  held_held asks patient Act.Idle answers does = absurd (cc)

  held : IsStuckHart ranks old d.rank s d.hart → (act : Act) → Suits (asked s d.hart) act → Does act
      → Passed old new d.stamp s t
  held is act answers does = go (asked s d.hart) refl is.in_vain answers
    where
      go : (a : Ask) → asked s d.hart ≡ a → AsksInVain ranks old d.rank s.site a → Suits a act
          → Passed old new d.stamp s t
      go (ask.Hub q) asks vain answers = hub_held q asks is.patient vain act answers does
      go (ask.Look link part) asks vain answers = look_held link part asks is.patient vain.0 act answers does
      go (ask.Freed link part) asks vain answers = freed_held link part asks is.patient vain.0 act answers does
      go ask.Held asks vain answers = held_held asks is.patient act answers does
      go _ asks vain answers = absurd vain

  pub passed : (IsStopped (mode_of s d.hart) ⊎ IsStuckHart ranks old d.rank s d.hart) → (act : Act)
      → Suits (asked s d.hart) act → Does act → Passed old new d.stamp s t
  passed (inl is) act answers does =
      stopped is act
      (subst (λ (a : Ask). Suits a act) ((vain_law.stopped) s d.hart d.stamp answer.Alone is).0 answers) does
  passed (inr is) act answers does = held is act answers does
