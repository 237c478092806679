-- What is told byte by byte is what the stream holds.
use Rattle.std.specs.Prelude.{nat_lt, ◌==◌, ◌||◌, if◌then◌else◌}
use Rattle.std.specs.Option.{option_to_list}
use Rattle.std.proofs.Common.{◌≡◌, ◌∙◌, ◌<◌, ◌≤◌, ◌+◌, ℕ, Bool, true, false, not, refl, sym, ap, arith, subst, List, [], ◌∷◌, ◌++◌, length, length-append, append_assoc, lt-ltb, ltb-true}
use Rattle.std.proofs.lemmas.Bool.{and_parts, eqb-true, ltb-false}
use Rattle.std.proofs.lemmas.List.{append-nil}
use Rattle.std.proofs.lemmas.List.Folds.{list_all-append}
use Rattle.rvmc_protocol.specs.declared.packets.reader.Message.{Message}
use Rattle.rvmc_protocol.specs.declared.packets.reader.Stage.{Stage}
use Rattle.rvmc_protocol.specs.declared.packets.reader.Stage.TheVariants.{Outside, Text, Beyond, Sum, Digit}
use Rattle.rvmc_protocol.specs.Packets.Frames.{Holds, nothing, outside, packet, long, broken, unended, unsummed, is_text, message_of, asked}
use Rattle.rvmc_protocol.specs.Packets.Reading.{Place, all_told, begun, outside_of}

abbrev at : ℕ → Stage → List ℕ → Place
at most stage text = record { most = most; stage = stage; text = text }

no_mark : (a b : Bool) → not (a || b) ≡ true → (a ≡ false) × (b ≡ false)
no_mark true b e = absurd (cc)
no_mark false true e = absurd (cc)
no_mark false false e = (refl, refl)

is_text_more : (text : List ℕ) (byte : ℕ) → is_text text ≡ true → (byte == 36) ≡ false → (byte == 35) ≡ false
    → is_text (text ++ byte ∷ []) ≡ true
is_text_more text byte t dollar hash =
    list_all-append (λ b. not (b == 36 || b == 35)) text (byte ∷ []) ∙ simp (t, dollar, hash) refl

-- ---- all that is told is held

record Found (most : ℕ) (bytes : List ℕ) : Type 0 where
  at_start : Holds most bytes (all_told (at most Outside []) bytes)
  at_text : (text : List ℕ) → is_text text ≡ true → length text ≤ most
      → Holds most (36 ∷ text ++ bytes) (all_told (at most Text text) bytes)
  at_beyond : (text : List ℕ) → is_text text ≡ true → most < length text
      → Holds most (36 ∷ text ++ bytes) (all_told (at most Beyond []) bytes)
  at_sum : (text : List ℕ) → is_text text ≡ true → length text ≤ most
      → Holds most (36 ∷ text ++ 35 ∷ bytes) (all_told (at most Sum text) bytes)
  at_digit : (text : List ℕ) (high : ℕ) → is_text text ≡ true → length text ≤ most
      → Holds most (36 ∷ text ++ 35 ∷ high ∷ bytes) (all_told (at most (Digit high) text) bytes)

module _ (most byte : ℕ) (rest : List ℕ) (found : Found most rest) where
  start_step : Holds most (byte ∷ rest) (all_told (at most Outside []) (byte ∷ rest))
  start_step = go (byte == 36) refl
    where
      go : (a : Bool) → (byte == 36) ≡ a
          → Holds most (byte ∷ rest) (option_to_list (asked byte) ++ all_told (if a then begun most else outside_of most) rest)
      go true e =
          let is : byte ≡ 36 = eqb-true byte 36 e in
          subst (λ (b : ℕ). Holds most (b ∷ rest) (option_to_list (asked b) ++ all_told (begun most) rest)) (sym is)
          (found.at_text [] refl (omega arith))
      go false e = outside byte e refl refl found.at_start

  longer_text : (text : List ℕ) → is_text text ≡ true → (byte == 36) ≡ false → (byte == 35) ≡ false → length text < most
      → Holds most (36 ∷ text ++ byte ∷ rest) (all_told (at most Text (text ++ byte ∷ [])) rest)
  longer_text text t dollar hash room =
      subst (λ (bytes : List ℕ). Holds most (36 ∷ bytes) (all_told (at most Text (text ++ byte ∷ [])) rest))
      (append_assoc text (byte ∷ []) rest)
      (found.at_text (text ++ byte ∷ []) (is_text_more text byte t dollar hash) (omega (arith, length-append text (byte ∷ []))))

  too_long : (text : List ℕ) → is_text text ≡ true → (byte == 36) ≡ false → (byte == 35) ≡ false → most ≤ length text
      → Holds most (36 ∷ text ++ byte ∷ rest) (all_told (at most Beyond []) rest)
  too_long text t dollar hash full =
      subst (λ (bytes : List ℕ). Holds most (36 ∷ bytes) (all_told (at most Beyond []) rest))
      (append_assoc text (byte ∷ []) rest)
      (found.at_beyond (text ++ byte ∷ []) (is_text_more text byte t dollar hash) (omega (arith, length-append text (byte ∷ []))))

  again : (text : List ℕ) → is_text text ≡ true → byte ≡ 36
      → Holds most (36 ∷ text ++ byte ∷ rest) (all_told (begun most) rest)
  again text t is =
      broken text t (ap (λ (b : ℕ). 36 ∷ text ++ b ∷ rest) is) (found.at_text [] refl (omega arith))

  text_step : (text : List ℕ) → is_text text ≡ true → length text ≤ most
      → Holds most (36 ∷ text ++ byte ∷ rest) (all_told (at most Text text) (byte ∷ rest))
  text_step text t fits = go (byte == 36) (byte == 35) (nat_lt (length text) most) refl refl refl
    where
      go : (a b c : Bool) → (byte == 36) ≡ a → (byte == 35) ≡ b → nat_lt (length text) most ≡ c
          → Holds most (36 ∷ text ++ byte ∷ rest) (all_told (if a then begun most else if b then at most Sum text else if c then at most Text (text ++ byte ∷ []) else at most Beyond []) rest)
      go true b c ea eb ec = again text t (eqb-true byte 36 ea)
      go false true c ea eb ec =
          subst (λ (n : ℕ). Holds most (36 ∷ text ++ n ∷ rest) (all_told (at most Sum text) rest)) (sym (eqb-true byte 35 eb))
          (found.at_sum text t fits)
      go false false true ea eb ec = longer_text text t ea eb (ltb-true (length text) most ec)
      go false false false ea eb ec = too_long text t ea eb (ltb-false (length text) most ec)

  beyond_step : (text : List ℕ) → is_text text ≡ true → most < length text
      → Holds most (36 ∷ text ++ byte ∷ rest) (all_told (at most Beyond []) (byte ∷ rest))
  beyond_step text t more = go (byte == 36) (byte == 35) refl refl
    where
      go : (a b : Bool) → (byte == 36) ≡ a → (byte == 35) ≡ b
          → Holds most (36 ∷ text ++ byte ∷ rest) (all_told (if a then begun most else if b then outside_of most else at most Beyond []) rest)
      go true b ea eb = again text t (eqb-true byte 36 ea)
      go false true ea eb = long text t more (ap (λ (n : ℕ). 36 ∷ text ++ n ∷ rest) (eqb-true byte 35 eb)) found.at_start
      go false false ea eb = too_long text t ea eb (omega arith)

found_all : (most : ℕ) (bytes : List ℕ) → Found most bytes
found_all most [] = record {
  at_start = nothing;
  at_text = λ text t fits. unended text t (ap (λ (bytes : List ℕ). 36 ∷ bytes) (append-nil text));
  at_beyond = λ text t more. unended text t (ap (λ (bytes : List ℕ). 36 ∷ bytes) (append-nil text));
  at_sum = λ text t fits. unsummed text [] t fits (omega arith) refl;
  at_digit = λ text high t fits. unsummed text (high ∷ []) t fits (omega arith) refl;
}
found_all most (byte ∷ rest) =
    let more = found_all most rest in record {
      at_start = start_step most byte rest more;
      at_text = text_step most byte rest more;
      at_beyond = beyond_step most byte rest more;
      at_sum = λ text t fits. more.at_digit text byte t fits;
      at_digit = λ text high t fits. packet text high byte t fits refl refl more.at_start;
    }

pub all_told_is_held : (most : ℕ) (bytes : List ℕ) → Holds most bytes (all_told (outside_of most) bytes)
all_told_is_held most bytes = (found_all most bytes).at_start

-- ---- what is held is all that is told

through_text : (most : ℕ) (done text rest : List ℕ) → is_text text ≡ true → length done + length text ≤ most
    → all_told (at most Text done) (text ++ rest) ≡ all_told (at most Text (done ++ text)) rest
through_text most done [] rest t fits = ap (λ (text : List ℕ). all_told (at most Text text) rest) (sym (append-nil done))
through_text most done (byte ∷ text) rest t fits =
    let parts = and_parts (not (byte == 36 || byte == 35)) (is_text text) t in
    let marks = no_mark (byte == 36) (byte == 35) parts.0 in
    let room : nat_lt (length done) most ≡ true = lt-ltb (length done) most (omega arith) in
    rw (marks.0, marks.1, room)
    (through_text most (done ++ byte ∷ []) text rest parts.1 (omega (arith, length-append done (byte ∷ [])))
    ∙ ap (λ (text : List ℕ). all_told (at most Text text) rest) (append_assoc done (byte ∷ []) text))

through_beyond : (most : ℕ) (text rest : List ℕ) → is_text text ≡ true
    → all_told (at most Beyond []) (text ++ rest) ≡ all_told (at most Beyond []) rest
through_beyond most [] rest t = refl
through_beyond most (byte ∷ text) rest t =
    let parts = and_parts (not (byte == 36 || byte == 35)) (is_text text) t in
    let marks = no_mark (byte == 36) (byte == 35) parts.0 in
    rw (marks.0, marks.1) (through_beyond most text rest parts.1)

through_long : (most : ℕ) (done text rest : List ℕ) → is_text text ≡ true → length done ≤ most
    → most < length done + length text
    → all_told (at most Text done) (text ++ rest) ≡ all_told (at most Beyond []) rest
through_long most done [] rest t fits more = absurd (omega arith)
through_long most done (byte ∷ text) rest t fits more =
    let parts = and_parts (not (byte == 36 || byte == 35)) (is_text text) t in
    let marks = no_mark (byte == 36) (byte == 35) parts.0 in
    rw (marks.0, marks.1) (go (nat_lt (length done) most) refl parts.1 (λ room. through_long most (done ++ byte ∷ []) text rest parts.1
    (omega (arith, length-append done (byte ∷ []))) (omega (arith, length-append done (byte ∷ [])))))
  where
    go : (c : Bool) → nat_lt (length done) most ≡ c → is_text text ≡ true
        → (length done < most → all_told (at most Text (done ++ byte ∷ [])) (text ++ rest) ≡ all_told (at most Beyond []) rest)
        → all_told (if c then at most Text (done ++ byte ∷ []) else at most Beyond []) (text ++ rest) ≡ all_told (at most Beyond []) rest
    go true e u further = further (ltb-true (length done) most e)
    go false e u further = through_beyond most text rest u

-- behind a text of any length
behind_text : (most : ℕ) (text rest : List ℕ) (messages : List Message) → is_text text ≡ true
    → all_told (at most Text text) rest ≡ messages → all_told (at most Beyond []) rest ≡ messages
    → all_told (outside_of most) (36 ∷ text ++ rest) ≡ messages
behind_text most text rest messages t short beyond = go (nat_lt most (length text)) refl
  where
    go : (c : Bool) → nat_lt most (length text) ≡ c → all_told (at most Text []) (text ++ rest) ≡ messages
    go true e = through_long most [] text rest t (omega arith) (omega (arith, ltb-true most (length text) e)) ∙ beyond
    go false e = through_text most [] text rest t (omega (arith, ltb-false most (length text) e)) ∙ short

unsummed_tells_nothing : (most : ℕ) (text rest : List ℕ) → length rest ≤ 1 → all_told (at most Text text) (35 ∷ rest) ≡ []
unsummed_tells_nothing most text [] h = refl
unsummed_tells_nothing most text (high ∷ []) h = refl
unsummed_tells_nothing most text (high ∷ low ∷ rest) h = absurd (omega arith)

pub held_is_told : (most : ℕ) {bytes : List ℕ} {messages : List Message} → Holds most bytes messages
    → all_told (outside_of most) bytes ≡ messages
held_is_told most nothing = refl
held_is_told most (outside {rest} {more} {bytes} {messages} byte other is told held) =
    let step : all_told (outside_of most) (byte ∷ rest) ≡ option_to_list (asked byte) ++ more =
    rw other (ap (λ (ms : List Message). option_to_list (asked byte) ++ ms) (held_is_told most held)) in
    ap (all_told (outside_of most)) is ∙ (step ∙ sym told)
held_is_told most (packet {rest} {more} {bytes} {messages} text high low t fits is told held) =
    ap (all_told (outside_of most)) is
    ∙ (through_text most [] text (35 ∷ high ∷ low ∷ rest) t (omega arith)
    ∙ (ap (λ (ms : List Message). message_of text high low ∷ ms) (held_is_told most held) ∙ sym told))
held_is_told most (long {rest} {bytes} {messages} text t more is held) =
    ap (all_told (outside_of most)) is
    ∙ (through_long most [] text (35 ∷ rest) t (omega arith) (omega arith) ∙ held_is_told most held)
held_is_told most (broken {rest} {bytes} {messages} text t is held) =
    ap (all_told (outside_of most)) is
    ∙ behind_text most text (36 ∷ rest) messages t (held_is_told most held) (held_is_told most held)
held_is_told most (unended {bytes} text t is) =
    ap (all_told (outside_of most)) (is ∙ ap (λ (text : List ℕ). 36 ∷ text) (sym (append-nil text)))
    ∙ behind_text most text [] [] t refl refl
held_is_told most (unsummed {bytes} text rest t fits small is) =
    ap (all_told (outside_of most)) is
    ∙ (through_text most [] text (35 ∷ rest) t (omega arith) ∙ unsummed_tells_nothing most text rest small)
