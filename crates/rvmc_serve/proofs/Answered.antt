-- What stands on the output is what is answered to the messages behind the record.
use Rattle.std.specs.Prelude.{ℕ, ◌≡◌, true, Bool, List, [], ◌∷◌, ◌++◌, length, take, drop, Option, Some, None, Ok}
use Rattle.std.proofs.Common.{refl, sym, ap, subst, ◌∙◌, inl, inr}
use Rattle.std.proofs.Math.Seq.{drop-append_seam, take-append_seam}
use Rattle.std.proofs.lemmas.List.{append-nil}
use Rattle.cl_machine.specs.declared.steps.Step.{Step}
use Rattle.cl_text.specs.Reading.{reading_record}
use Rattle.rv_image_types.specs.declared.images.ImageParts.{ImageParts}
use Rattle.rvmc_gdb.proofs.Heard.{heard_law}
use Rattle.rvmc_gdb.proofs.Walks.{joined}
use Rattle.rvmc_gdb.specs.Serving.{Serving, opened}
use Rattle.rvmc_gdb.specs.Talks.{Connection, MeetsTold, MeetsUnless, Serves, Takes, Talk, connected}
use Rattle.rvmc_protocol.specs.Packets.Reading.{next_place, told}
use Rattle.rvmc_protocol.specs.declared.packets.reader.Message.{Message}
use Rattle.rvmc_serve.proofs.Ends.{end_law}
use Rattle.rvmc_serve.specs.Laws.{AnswersLaw, QuietLaw}
use Rattle.rvmc_serve.specs.Sessions.{DecidesAt, HearsAll, IsSession, IsStream, IsWhole, Reading}

-- ---- where the client has left, nothing more is written

met : (told : Option Message) (old : Talk) → old.ended ≡ true → MeetsTold old told old []
met None old is = (refl, refl)
met (Some message) old is = subst (λ (b : Bool). MeetsUnless b old message old []) (sym is) (refl, refl)

gone : (old : Connection) (bytes : List ℕ) → old.talk.ended ≡ true → (new : Connection) × Serves old bytes new []
gone old [] is = (old, (refl, refl))
gone old (byte ∷ bytes) is =
    let next : Connection = record { place = next_place old.place byte; talk = old.talk } in
    let rest = gone next bytes is in
    (rest.0, (next, [], [], record { read = refl; meets = met (told old.place byte) old.talk is }, rest.1, refl))

-- so what was heard is all that there is
all_heard : (old : Connection) (behind text : List ℕ) → HearsAll old behind text
    → (new : Connection) × Serves old behind new text
all_heard old behind text (unheard, new, hears, inl none) = (
  new,
  subst (λ (bytes : List ℕ). Serves old bytes new text)
      (sym (hears.all ∙ ap (λ (t : List ℕ). hears.heard ++ t) none ∙ append-nil hears.heard)) hears.serves,
)
all_heard old behind text (unheard, new, hears, inr left) =
    let rest = gone new unheard left in (
      rest.0,
      subst (λ (bytes : List ℕ). Serves old bytes rest.0 text) (sym hears.all)
          (subst (λ (t : List ℕ). Serves old (hears.heard ++ unheard) rest.0 t) (append-nil text)
          (joined Takes old hears.heard unheard new rest.0 text [] hears.serves rest.1)),
    )

-- ---- a stream that begins with a record

front_is : (spelled packets front behind : List ℕ) → length spelled ≡ length front
    → spelled ++ packets ≡ front ++ behind → (front ≡ spelled) × (behind ≡ packets)
front_is spelled packets front behind size all = (
  sym (take-append_seam front behind) ∙ ap (take (length front)) (sym all)
      ∙ ap (λ (n : ℕ). take n (spelled ++ packets)) (sym size) ∙ take-append_seam spelled packets,
  sym (drop-append_seam front behind) ∙ ap (drop (length front)) (sym all)
      ∙ ap (λ (n : ℕ). drop n (spelled ++ packets)) (sym size) ∙ drop-append_seam spelled packets,
)

-- the record is the front
pub front_of : (spelled packets front behind : List ℕ) (image : ImageParts) (steps : List Step)
    → reading_record spelled ≡ Ok (image, steps) → IsStream (spelled ++ packets) front behind
    → (front ≡ spelled) × (behind ≡ packets)
front_of spelled packets front behind image steps read stream =
    let ends : DecidesAt front behind (Some (length spelled)) =
    subst (DecidesAt front behind) (end_law.whole spelled packets (image, steps) read) stream.decides in
    front_is spelled packets front behind ends stream.all

-- of which this session is
session_of : (rank : Option ℕ) (spelled packets text : List ℕ) (image : ImageParts) (steps : List Step)
    → reading_record spelled ≡ Ok (image, steps) → IsSession rank (spelled ++ packets) text None
    → (new : Connection)
    × Serves (connected (opened (record { image = image; steps = steps; place = 0; breaks = [] }) rank)) packets new text
session_of rank spelled packets text image steps read session =
    let same = front_of spelled packets session.front session.behind image steps read session.stream in
    let reads : reading_record session.front ≡ Ok (image, steps) = ap reading_record same.0 ∙ read in
    let whole : IsWhole rank (Ok (image, steps)) packets text =
    subst (λ (bytes : List ℕ). IsWhole rank (Ok (image, steps)) bytes text) same.1
    (subst (λ (r : Reading). IsWhole rank r session.behind text) reads session.writes) in
    all_heard (connected (opened (record { image = image; steps = steps; place = 0; breaks = [] }) rank)) packets text
    (subst (λ (s : Serving). HearsAll (connected s) packets text) whole.1.is whole.2)

pub answers_law : AnswersLaw
answers_law rank spelled packets text image steps messages read holds session =
    let all = session_of rank spelled packets text image steps read session in (
      all.0.talk,
      heard_law (opened (record { image = image; steps = steps; place = 0; breaks = [] }) rank) packets messages all.0 text
          holds all.1,
    )

pub quiet_law : QuietLaw
quiet_law rank spelled text image steps read session =
    (session_of rank spelled [] text image steps read
    (subst (λ (bytes : List ℕ). IsSession rank bytes text None) (sym (append-nil spelled)) session)).1.1
