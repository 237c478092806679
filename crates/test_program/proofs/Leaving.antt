-- A client that leaves.
use Rattle.std.specs.Prelude.{ℕ, ◌≡◌, true, List, [], ◌∷◌, ◌++◌, codes, None, Ok, Option}
use Rattle.std.proofs.Common.{refl, sym, ap, ◌∙◌, subst, arith}
use Rattle.std.proofs.lemmas.List.{append-nil}
use Rattle.cl_machine.specs.declared.steps.Step.{Step}
use Rattle.cl_text.specs.Reading.{reading_record}
use Rattle.rv_image_types.specs.declared.images.ImageParts.{ImageParts}
use Rattle.rvmc_protocol.specs.Packets.Frames.{Holds, message_of, nothing, packet, packet_of}
use Rattle.rvmc_protocol.specs.Packets.Texts.{payload_in}
use Rattle.rvmc_protocol.specs.declared.packets.reader.Message.{Message}
use Rattle.rvmc_protocol.specs.declared.packets.reader.Message.TheVariants.{Packet}
use Rattle.rvmc_protocol.specs.Requests.{lone_question, lone_word, plain_in, request_in}
use Rattle.rvmc_protocol.specs.declared.requests.Request.TheVariants.{Detach}
use Rattle.rvmc_tool.specs.Below.{AnswersLaw, Connection, Converses, HeardLaw, Hears, IsSession, Serves, Serving, Talk}
use Rattle.rvmc_tool.specs.Below.{connected, most, talk_begun}

-- what the client sends, `$D#44`, holds this message
is_message : message_of (68 ∷ []) 52 52 ≡ Packet (68 ∷ [])
unfolding message_of payload_in
is_message = refl

held : Holds most (codes "$D#44") (Packet (68 ∷ []) ∷ [])
held =
    packet {rest = []} {more = []} (68 ∷ []) 52 52 refl (omega arith) refl (ap (λ (message : Message). message ∷ []) (sym is_message)) nothing

is_detach : request_in (68 ∷ []) ≡ Detach
unfolding request_in plain_in lone_question lone_word
is_detach = refl

record Left (talk : Talk) (text : List ℕ) : Type 0 where
  ended : talk.ended ≡ true
  told : text ≡ 43 ∷ packet_of (codes "OK")

left : (serving : Serving) (talk : Talk) (text : List ℕ)
    → Converses (talk_begun serving) (Packet (68 ∷ []) ∷ []) talk text → Left talk text
left serving talk text talks =
    let met = talks.3 in
    let heard : Hears (talk_begun serving) (68 ∷ []) Detach talks.0 met.reply
    = subst (λ request. Hears (talk_begun serving) (68 ∷ []) request talks.0 met.reply) is_detach met.replies in
    record {
      ended = ap (λ (t : Talk). t.ended) (talks.4.0 ∙ heard.stands);
      told = talks.5
          ∙ ap (λ l. talks.1 ++ l) talks.4.1
          ∙ append-nil talks.1
          ∙ met.is
          ∙ ap (λ l. 43 ∷ l) (heard.is ∙ ap packet_of heard.answers.1);
    }

pub ends : HeardLaw → (serving : Serving) (new : Connection) (text : List ℕ)
    → Serves (connected serving) (codes "$D#44") new text → new.talk.ended ≡ true
ends law serving new text serves =
    (left serving new.talk text (law serving (codes "$D#44") (Packet (68 ∷ []) ∷ []) new text held serves)).ended

pub answered : AnswersLaw → (rank : Option ℕ) (spelled text : List ℕ) (image : ImageParts) (steps : List Step)
    → reading_record spelled ≡ Ok (image, steps) → IsSession rank (spelled ++ codes "$D#44") text None
    → text ≡ 43 ∷ packet_of (codes "OK")
answered law rank spelled text image steps read session =
    let talked = law rank spelled (codes "$D#44") text image steps (Packet (68 ∷ []) ∷ []) read held session in
    (left _ talked.0 text talked.1).told
