-- What a session writes is what is answered to the messages of its stream.
use Rattle.std.specs.Prelude.{ℕ, ◌≡◌, Bool, true, List, [], ◌∷◌, ◌++◌, Option, Some, None}
use Rattle.std.specs.Option.{option_to_list}
use Rattle.std.proofs.Common.{refl, sym, ap, subst, ◌∙◌}
use Rattle.rvmc_protocol.proofs.Grammar.{held_is_told}
use Rattle.rvmc_protocol.specs.Packets.Reading.{Place, all_told, next_place, told}
use Rattle.rvmc_protocol.specs.declared.packets.reader.Message.{Message}
use Rattle.rvmc_gdb.specs.Answers.{most}
use Rattle.rvmc_gdb.specs.Laws.{HeardLaw, LeftLaw, PiecesLaw}
use Rattle.rvmc_gdb.specs.Talks.{Connection, Converses, MeetsTold, MeetsUnless, Serves, Takes, Talk, talk_begun, connected}
use Rattle.rvmc_gdb.proofs.Walks.{cut, joined}

-- what one byte tells, and then what the others do
step_told : (told : Option Message) (old next new : Talk) (more : List Message) (first rest : List ℕ)
    → MeetsTold old told next first → Converses next more new rest
    → Converses old (option_to_list told ++ more) new (first ++ rest)
step_told None old next new more first rest meets after =
    subst (λ (t : List ℕ). Converses old more new (t ++ rest)) (sym meets.1)
    (subst (λ (s : Talk). Converses s more new rest) meets.0 after)
step_told (Some message) old next new more first rest meets after = (next, first, rest, meets, after, refl)

pub heard : (old new : Connection) (bytes text : List ℕ) → Serves old bytes new text
    → Converses old.talk (all_told old.place bytes) new.talk text
heard old new [] text a = (ap (λ (s : Connection). s.talk) a.0, a.1)
heard old new (byte ∷ bytes) text a =
    let next = a.0 in
    let after : Converses next.talk (all_told (next_place old.place byte) bytes) new.talk a.2 =
    subst (λ (p : Place). Converses next.talk (all_told p bytes) new.talk a.2) a.3.read (heard next new bytes a.2 a.4) in
    subst (λ (t : List ℕ). Converses old.talk (all_told old.place (byte ∷ bytes)) new.talk t) (sym a.5)
    (step_told (told old.place byte) old.talk next.talk new.talk (all_told (next_place old.place byte) bytes) a.1 a.2 a.3.meets
    after)

-- ---- where the client has left

left_message : (ended : Bool) (old new : Talk) (message : Message) (text : List ℕ) → ended ≡ true
    → MeetsUnless ended old message new text → (new ≡ old) × (text ≡ [])
left_message ended old new message text is meets =
    subst (λ (b : Bool). MeetsUnless b old message new text) is meets

left_told : (told : Option Message) (old new : Talk) (text : List ℕ) → old.ended ≡ true → MeetsTold old told new text
    → (new ≡ old) × (text ≡ [])
left_told None old new text is meets = meets
left_told (Some message) old new text is meets = left_message old.ended old new message text is meets

pub left : (old new : Connection) (bytes text : List ℕ) → old.talk.ended ≡ true → Serves old bytes new text
    → (new.talk ≡ old.talk) × (text ≡ [])
left old new [] text is a = (ap (λ (s : Connection). s.talk) a.0, a.1)
left old new (byte ∷ bytes) text is a =
    let one = left_told (told old.place byte) old.talk a.0.talk a.1 is a.3.meets in
    let more = left a.0 new bytes a.2 (ap (λ (t : Talk). t.ended) one.0 ∙ is) a.4 in
    (more.0 ∙ one.0, a.5 ∙ ap (λ (t : List ℕ). t ++ a.2) one.1 ∙ more.1)

pub heard_law : HeardLaw
heard_law serving bytes messages new text holds serves =
    subst (λ (all : List Message). Converses (talk_begun serving) all new.talk text) (held_is_told most holds)
    (heard (connected serving) new bytes text serves)

pub left_law : LeftLaw
left_law = left

pub pieces_law : PiecesLaw
pieces_law old new first second text = (
  (λ whole. cut Takes old first second new text whole),
  (λ (between, one, other, a, b, is).
      subst (λ (t : List ℕ). Serves old (first ++ second) new t) (sym is) (joined Takes old first second between new one other a b)),
)
