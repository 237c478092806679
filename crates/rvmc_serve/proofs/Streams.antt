-- All the bytes of an input as a record and what is behind it.
use Rattle.std.specs.Prelude.{ℕ, ◌≡◌, ◌≢◌, ◌⊎◌, List, [], ◌++◌, length, take, drop, Option, Some, None, Result, Ok, Err, IfOk, IfErr}
use Rattle.std.proofs.Common.{refl, sym, ap, subst, ◌∙◌, append_assoc, inl, inr, take-append-drop}
use Rattle.std.proofs.lemmas.List.{append-nil, length-take-le}
use Rattle.std.specs.Io.KnownBytes.{Appends, Consumes, IsAtEnd}
use Rattle.cl_text.specs.Front.End.{record_end}
use Rattle.cl_text.specs.Front.Input.{IsFront}
use Rattle.cl_text.specs.Front.Laws.{EndLaw}
use Rattle.cl_text.specs.Reading.{reading_record}
use Rattle.rvmc_gdb.specs.Talks.{Connection}
use Rattle.rvmc_gdb.specs.Below.{Fault}
use Rattle.rvmc_gdb.specs.Below.faults
use Rattle.rvmc_serve.specs.Serving.{CutsShort, IsFaultOf, IsOpenedAs, IsOfFront}
use Rattle.rvmc_serve.specs.Sessions.{DecidesAt, HearsAll, HearsSome, IsSession, IsStream, Reading, Writes}
use Rattle.rvmc_serve.proofs.Ends.{end_law}
use Rattle.rvmc_serve.proofs.Hearing.{appended_none, kept, left_behind}

-- any bytes are such
pub stream_of : EndLaw → (bytes : List ℕ) → (front : List ℕ) × (behind : List ℕ) × IsStream bytes front behind
stream_of law bytes = by_end (record_end bytes) refl
  where
    by_end : (end : Option ℕ) → record_end bytes ≡ end → (front : List ℕ) × (behind : List ℕ) × IsStream bytes front behind
    by_end None is = (
      bytes,
      [],
      record {
        all = sym (append-nil bytes);
        decides = subst (DecidesAt bytes []) (sym is) refl;
      },
    )
    by_end (Some n) is = (
      take n bytes,
      drop n bytes,
      record {
        all = sym (take-append-drop n bytes);
        decides = subst (DecidesAt (take n bytes) (drop n bytes)) (sym is)
            (sym (length-take-le n bytes (law.decided bytes n is).there));
      },
    )

-- and those that were read so far, with the rest
pub stream_read : EndLaw → (a b : Option (List ℕ)) (bytes front behind rest : List ℕ) → a ≡ Some bytes → b ≡ Some rest
    → bytes ≡ (front ++ behind) ++ rest → IsFront front behind b → IsStream bytes front (behind ++ rest)
stream_read law a b bytes front behind rest known left all (inl decides) = record {
  all = all ∙ append_assoc front behind rest;
  decides = subst (DecidesAt front (behind ++ rest))
      (sym (ap record_end all ∙ (law.decided (front ++ behind) (length front) decides).stays rest)) refl;
}
stream_read law a b bytes front behind rest known left all (inr there) =
    let none : rest ≡ [] = subst IsAtEnd left there.end in
    let same : bytes ≡ front =
    all ∙ ap (λ (t : List ℕ). (front ++ behind) ++ t) none ∙ append-nil (front ++ behind)
    ∙ ap (λ (t : List ℕ). front ++ t) there.alone ∙ append-nil front in
    record {
      all = all ∙ append_assoc front behind rest;
      decides = subst (DecidesAt front (behind ++ rest)) (sym (ap record_end same ∙ there.undecided))
          (ap (λ (t : List ℕ). t ++ rest) there.alone ∙ none);
    }

-- ---- how a session ends

-- before there is a front
pub cut_before : EndLaw → (rank : Option ℕ) (bytes : List ℕ) (fault : Fault) → (fault ≡ faults.Memory) ⊎ (fault ≡ faults.Read)
    → IsSession rank bytes [] (Some fault)
cut_before law rank bytes fault which =
    let parts = stream_of law bytes in
    record { front = parts.0; behind = parts.1; stream = parts.2; writes = by_fault parts.0 parts.1 which }
  where
    by_fault : (front behind : List ℕ) → (fault ≡ faults.Memory) ⊎ (fault ≡ faults.Read)
        → Writes rank (reading_record front) behind [] (Some fault)
    by_fault front behind (inl is) =
        subst (λ (f : Fault). Writes rank (reading_record front) behind [] (Some f)) (sym is) (inl refl)
    by_fault front behind (inr is) =
        subst (λ (f : Fault). Writes rank (reading_record front) behind [] (Some f)) (sym is) (inl refl)

-- for a fault of the record
pub refused_writes : (rank : Option ℕ) (read : Reading) (behind : List ℕ) (fault : Fault) → IsFaultOf rank read fault
    → fault ≢ faults.Write → Writes rank read behind [] (Some fault)
refused_writes rank read behind faults.Memory is loud = inl refl
refused_writes rank read behind faults.Read is loud = inl refl
refused_writes rank read behind faults.Write is loud = absurd (loud refl)
refused_writes rank read behind fault is loud = (is, refl)

-- behind a record that was opened
pub cut_writes : (rank : Option ℕ) (read : Reading) (server : Connection) (behind text : List ℕ) (fault : Fault)
    → IsOpenedAs rank read server → (w v : Option (List ℕ))
    → CutsShort fault ((text : List ℕ) × HearsSome server behind text × Appends w v text) → fault ≢ faults.Write
    → (text : List ℕ) × Writes rank read behind text (Some fault) × Appends w v text
cut_writes rank read server behind text faults.Memory (serving, opens, is) w v (said, some, writes) loud =
    (said, inr (serving, opens, subst (λ (c : Connection). HearsSome c behind said) is some), writes)
cut_writes rank read server behind text faults.Read (serving, opens, is) w v (said, some, writes) loud =
    (said, inr (serving, opens, subst (λ (c : Connection). HearsSome c behind said) is some), writes)
cut_writes rank read server behind text faults.Write opened w v cut loud = absurd (loud refl)
cut_writes rank read server behind text other opened w v cut loud = absurd cut

pub whole_writes : (rank : Option ℕ) (read : Reading) (server : Connection) (behind : List ℕ) (w v : Option (List ℕ))
    → IsOpenedAs rank read server → (text : List ℕ) × HearsAll server behind text × Appends w v text
    → (text : List ℕ) × Writes rank read behind text None × Appends w v text
whole_writes rank read server behind w v (serving, opens, is) (said, all, writes) =
    (said, (serving, opens, subst (λ (c : Connection). HearsAll c behind said) is all), writes)

pub of_cut : (rank : Option ℕ) (read : Reading) (fault : Fault) → CutsShort fault (Unit {0}) → IsFaultOf rank read fault
of_cut rank read faults.Memory cut = tt
of_cut rank read faults.Read cut = tt
of_cut rank read faults.Write cut = tt
of_cut rank read other cut = absurd cut

-- ---- the whole of it

-- what holds of what is left, where it is known, makes a whole
pub whole_if : {A E : Type 0} (r : Result A E) (Known All : List ℕ → Type 0) (Whole : Type 0)
    → (((rest : List ℕ) → Known rest → All rest) → Whole)
    → ((rest : List ℕ) → Known rest → IfOk r (λ _. All rest)) → IfOk r (λ _. Whole)
whole_if (Ok x) Known All Whole makes all = makes all
whole_if (Err e) Known All Whole makes all = tt

pub cut_if : {A E : Type 0} (r : Result A E) (Known : List ℕ → Type 0) (Heard : E → List ℕ → Type 0) (Cut : E → Type 0)
    → ((e : E) → ((rest : List ℕ) → Known rest → Heard e rest) → Cut e)
    → ((rest : List ℕ) → Known rest → IfErr r (λ e. Heard e rest)) → IfErr r Cut
cut_if (Ok x) Known Heard Cut makes heard = tt
cut_if (Err e) Known Heard Cut makes heard = makes e heard

pub no_front : (rank : Option ℕ) (bytes : List ℕ) (fault : Fault) (w : Option (List ℕ)) → IsOfFront fault
    → (text : List ℕ) × IsSession rank bytes text (Some fault) × Appends w w text
no_front rank bytes fault w is = ([], cut_before end_law rank bytes fault is, appended_none w w (kept w))

pub not_opened : (rank : Option ℕ) (a b : Option (List ℕ)) (bytes front behind : List ℕ) (fault : Fault) (w : Option (List ℕ))
    → a ≡ Some bytes → Consumes a b (front ++ behind) → IsFront front behind b
    → IsFaultOf rank (reading_record front) fault → fault ≢ faults.Write
    → (text : List ℕ) × IsSession rank bytes text (Some fault) × Appends w w text
not_opened rank a b bytes front behind fault w known takes is refuses loud =
    let left = left_behind a b bytes (front ++ behind) known takes in (
      [],
      record {
        front = front;
        behind = behind ++ left.0;
        stream = stream_read end_law a b bytes front behind left.0 known left.1 left.2 is;
        writes = refused_writes rank (reading_record front) (behind ++ left.0) fault refuses loud;
      },
      appended_none w w (kept w),
    )

pub served : (rank : Option ℕ) (a b : Option (List ℕ)) (bytes front behind first : List ℕ) (server : Connection)
    (w v : Option (List ℕ)) → a ≡ Some bytes → Consumes a b (front ++ behind) → IsFront front behind b → first ≡ behind
    → IsOpenedAs rank (reading_record front) server
    → ((rest : List ℕ) → b ≡ Some rest → (text : List ℕ) × HearsAll server (first ++ rest) text × Appends w v text)
    → (text : List ℕ) × IsSession rank bytes text None × Appends w v text
served rank a b bytes front behind first server w v known takes is same opened whole =
    let left = left_behind a b bytes (front ++ behind) known takes in
    let all = whole left.0 left.1 in
    let said = whole_writes rank (reading_record front) server (behind ++ left.0) w v opened
    (all.0, subst (λ (t : List ℕ). HearsAll server (t ++ left.0) all.0) same all.1, all.2) in (
      said.0,
      record {
        front = front;
        behind = behind ++ left.0;
        stream = stream_read end_law a b bytes front behind left.0 known left.1 left.2 is;
        writes = said.1;
      },
      said.2,
    )

pub cut_off : (rank : Option ℕ) (a b : Option (List ℕ)) (bytes front behind first : List ℕ) (server : Connection)
    (w v : Option (List ℕ)) (fault : Fault) → a ≡ Some bytes → Consumes a b (front ++ behind) → IsFront front behind b
    → first ≡ behind → IsOpenedAs rank (reading_record front) server
    → ((rest : List ℕ) → b ≡ Some rest
    → CutsShort fault ((text : List ℕ) × HearsSome server (first ++ rest) text × Appends w v text))
    → fault ≢ faults.Write → (text : List ℕ) × IsSession rank bytes text (Some fault) × Appends w v text
cut_off rank a b bytes front behind first server w v fault known takes is same opened cut loud =
    let left = left_behind a b bytes (front ++ behind) known takes in
    let said = cut_writes rank (reading_record front) server (behind ++ left.0) [] fault opened w v
    (subst (λ (t : List ℕ). CutsShort fault ((text : List ℕ) × HearsSome server (t ++ left.0) text × Appends w v text)) same
    (cut left.0 left.1)) loud in (
      said.0,
      record {
        front = front;
        behind = behind ++ left.0;
        stream = stream_read end_law a b bytes front behind left.0 known left.1 left.2 is;
        writes = said.1;
      },
      said.2,
    )
