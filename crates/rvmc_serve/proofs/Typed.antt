-- A session of lines, from all the bytes of an input to what is written.
use Rattle.std.specs.Prelude.{ℕ, ◌≡◌, ◌≢◌, List, [], ◌++◌, Option, Some, None, Ok, length}
use Rattle.std.proofs.Common.{refl, sym, subst, inl, inr}
use Rattle.std.specs.Io.KnownBytes.{Appends, Consumes}
use Rattle.cl_debug.specs.Debugging.{Debugging}
use Rattle.cl_text.specs.Front.Input.{IsFront}
use Rattle.cl_machine.specs.declared.steps.Step.{Step}
use Rattle.cl_text.specs.Reading.{reading_record}
use Rattle.rv_image_types.specs.declared.images.ImageParts.{ImageParts}
use Rattle.rvmc_gdb.specs.Below.{Fault, IsRunUpTo}
use Rattle.rvmc_gdb.specs.Below.faults
use Rattle.rvmc_serve.proofs.Ends.{end_law}
use Rattle.rvmc_serve.proofs.Hearing.{appended_none, kept, left_behind}
use Rattle.rvmc_serve.proofs.Lines.{all_lines, some_lines}
use Rattle.rvmc_serve.proofs.Streams.{stream_of, stream_read}
use Rattle.rvmc_serve.specs.Lines.{IsBegun, IsWordSession, WritesTyped}
use Rattle.rvmc_serve.specs.Serving.{CutsShort, IsFaultOf, IsOfFront}
use Rattle.rvmc_serve.specs.Sessions.{Reading}
use Rattle.rvmc_serve.specs.Typing.{HearsAll, HearsSome, IsBegunAs, Typed, begun}

-- a record that was opened
pub is_begun : (read : Reading) (image : ImageParts) (steps : List Step) (debugger : Debugging) (typed : Typed)
    → read ≡ Ok (image, steps) → IsRunUpTo image steps (length steps)
    → debugger ≡ record { image = image; steps = steps; place = 0; breaks = [] } → typed ≡ begun debugger → IsBegunAs read typed
is_begun read image steps debugger typed is run starts joined =
    (debugger, subst (λ (r : Reading). IsBegun r debugger) (sym is) (record { run = run; is = starts }), joined)

-- ---- what is written

abbrev Wrote : Reading → List ℕ → Option Fault → Option (List ℕ) → Option (List ℕ) → Type 0
Wrote read behind ended w v = (text : List ℕ) × WritesTyped read behind text ended × Appends w v text

whole_writes : (read : Reading) (typed : Typed) (behind : List ℕ) (w v : Option (List ℕ)) → IsBegunAs read typed
    → (text : List ℕ) × HearsAll typed behind text × Appends w v text → Wrote read behind None w v
whole_writes read typed behind w v (debugging, begins, is) (said, all, writes) =
    (said, (debugging, begins, all_lines debugging behind said (subst (λ (t : Typed). HearsAll t behind said) is all)), writes)

cut_writes : (read : Reading) (typed : Typed) (behind : List ℕ) (fault : Fault) (w v : Option (List ℕ)) → IsBegunAs read typed
    → CutsShort fault ((text : List ℕ) × HearsSome typed behind text × Appends w v text) → fault ≢ faults.Write
    → Wrote read behind (Some fault) w v
cut_writes read typed behind faults.Memory w v (debugging, begins, is) (said, some, writes) loud = (
  said,
  inr (debugging, begins, some_lines debugging behind said (subst (λ (t : Typed). HearsSome t behind said) is some)),
  writes,
)
cut_writes read typed behind faults.Read w v (debugging, begins, is) (said, some, writes) loud = (
  said,
  inr (debugging, begins, some_lines debugging behind said (subst (λ (t : Typed). HearsSome t behind said) is some)),
  writes,
)
cut_writes read typed behind faults.Write w v begins cut loud = absurd (loud refl)
cut_writes read typed behind other w v begins cut loud = absurd cut

refused_writes : (read : Reading) (behind : List ℕ) (fault : Fault) → IsFaultOf None read fault → fault ≢ faults.Write
    → WritesTyped read behind [] (Some fault)
refused_writes read behind faults.Memory is loud = inl refl
refused_writes read behind faults.Read is loud = inl refl
refused_writes read behind faults.Write is loud = absurd (loud refl)
refused_writes read behind fault is loud = (is, refl)

-- ---- the whole of it

abbrev pub Served : List ℕ → Option Fault → Option (List ℕ) → Option (List ℕ) → Type 0
Served bytes ended w v = (text : List ℕ) × IsWordSession bytes text ended × Appends w v text

-- there is no front
pub no_front : (bytes : List ℕ) (fault : Fault) (w : Option (List ℕ)) → IsOfFront fault → Served bytes (Some fault) w w
no_front bytes fault w which =
    let parts = stream_of end_law bytes in
    ([], record { front = parts.0; behind = parts.1; stream = parts.2; writes = by_fault parts.0 parts.1 which }, appended_none w w (kept w))
  where
    by_fault : (front behind : List ℕ) → IsOfFront fault → WritesTyped (reading_record front) behind [] (Some fault)
    by_fault front behind (inl is) =
        subst (λ (f : Fault). WritesTyped (reading_record front) behind [] (Some f)) (sym is) (inl refl)
    by_fault front behind (inr is) =
        subst (λ (f : Fault). WritesTyped (reading_record front) behind [] (Some f)) (sym is) (inl refl)

module _ (a b : Option (List ℕ)) (bytes front behind : List ℕ) (known : a ≡ Some bytes) (takes : Consumes a b (front ++ behind))
    (is : IsFront front behind b) where
  -- what is left is behind the front too
  of_stream : (ended : Option Fault) (w v : Option (List ℕ))
      → ((rest : List ℕ) → b ≡ Some rest → Wrote (reading_record front) (behind ++ rest) ended w v) → Served bytes ended w v
  of_stream ended w v wrote =
      let left = left_behind a b bytes (front ++ behind) known takes in
      let said = wrote left.0 left.1 in (
        said.0,
        record {
          front = front;
          behind = behind ++ left.0;
          stream = stream_read end_law a b bytes front behind left.0 known left.1 left.2 is;
          writes = said.1;
        },
        said.2,
      )

  -- there is no session
  pub not_begun : (fault : Fault) (w : Option (List ℕ)) → IsFaultOf None (reading_record front) fault → fault ≢ faults.Write
      → Served bytes (Some fault) w w
  not_begun fault w refuses loud =
      of_stream (Some fault) w w
      (λ rest _. ([], refused_writes (reading_record front) (behind ++ rest) fault refuses loud, appended_none w w (kept w)))

  -- there is one, to its end
  pub served : (first : List ℕ) (typed : Typed) (w v : Option (List ℕ)) → first ≡ behind
      → IsBegunAs (reading_record front) typed
      → ((rest : List ℕ) → b ≡ Some rest → (text : List ℕ) × HearsAll typed (first ++ rest) text × Appends w v text)
      → Served bytes None w v
  served first typed w v same begins whole =
      of_stream None w v
      (λ rest left. whole_writes (reading_record front) typed (behind ++ rest) w v begins
      (subst (λ (t : List ℕ). (text : List ℕ) × HearsAll typed (t ++ rest) text × Appends w v text) same (whole rest left)))

  -- or one that is cut short
  pub cut_off : (first : List ℕ) (typed : Typed) (w v : Option (List ℕ)) (fault : Fault) → first ≡ behind
      → IsBegunAs (reading_record front) typed
      → ((rest : List ℕ) → b ≡ Some rest
      → CutsShort fault ((text : List ℕ) × HearsSome typed (first ++ rest) text × Appends w v text))
      → fault ≢ faults.Write → Served bytes (Some fault) w v
  cut_off first typed w v fault same begins cut loud =
      of_stream (Some fault) w v
      (λ rest left. cut_writes (reading_record front) typed (behind ++ rest) fault w v begins
      (subst (λ (t : List ℕ). CutsShort fault ((text : List ℕ) × HearsSome typed (t ++ rest) text × Appends w v text)) same
      (cut rest left)) loud)
