-- Each instruction and each directive's bytes stand at their place.
use Rattle.std.proofs.Common.{◌≡◌, ℕ, ◌+◌, List, [], ◌∷◌, ◌++◌, length, map, take, drop, true, Result, Ok, Err, refl, sym, ap, subst, ◌∙◌, append_assoc, length-append}
use Rattle.std.proofs.Math.Seq.{drop-append_seam, take-append_seam}
use Rattle.std.proofs.lemmas.Nat.{from_le_bytes-to_le_bytes_4}
use Rattle.std.specs.Int.{w32, to_le_bytes, from_le_bytes}
use Rattle.rv_decode.specs.declared.instruction.Instr.{Instr}
use Rattle.rv_decode.specs.Decoded.{decoded}
use Rattle.rv_decode.specs.Table.{written_word}
use Rattle.rv_asm_tokens.specs.declared.fault.AsmFaultKind.{AsmFaultKind}
use Rattle.rv_asm_tokens.specs.Fault.{◌>>=◌}
use Rattle.rv_asm_statements.specs.declared.directives.Directive.{Directive}
use Rattle.rv_asm_statements.specs.declared.directives.Directive.TheVariants as directive
use Rattle.rv_asm_statements.specs.declared.mnemonics.Use.{Use}
use Rattle.rv_asm_statements.specs.declared.statements.Statement.{Statement}
use Rattle.rv_asm_statements.specs.declared.statements.Statement.TheVariants.{Label, Instruction, Directive as Directed}
use Rattle.rv_asm_lines.specs.Item.{Item}
use Rattle.rv_asm_lines.specs.declared.parts.Part.{Part}
use Rattle.rv_asm_lines.specs.declared.parts.Part.TheVariants.{Text, Data}
use Rattle.rv_asm_lines.specs.declared.parts.Place.{Place}
use Rattle.rv_asm_lines.specs.Data.{directive_bytes}
use Rattle.rv_asm_lines.specs.Resolved.{instrs_of}
use Rattle.rv_asm_lines.specs.Layout.{Layout, addresses, end_of}
use Rattle.rv_asm_lines.specs.Output.{Output, items_from, directive_step, stated_step, with_part_bytes, with_use, word_bytes}
use Rattle.rv_asm_lines.specs.Parts.{may_stand}
use Rattle.rv_asm_lines.specs.Places.{AllWritten, AreSound, Decodes, Follow, HoldCode, IfRight, IsSound, StandsIn, length_in, part_of}
use Rattle.rv_asm.proofs.Grown.{in_text, items_from-grows, longer_length, stated_step-grows}
use Rattle.rv_asm.proofs.Right.{at_line_ok, bind_ok, ok, ok_is}

pub AreSound-push : (labels : List (List ℕ × ℕ)) (xs : List Item) (x : Item) → AreSound labels xs → IsSound labels x.place.at x.statement → AreSound labels (xs ++ x ∷ [])
AreSound-push labels [] x all one = (one, tt)
AreSound-push labels (y ∷ ys) x all one = (all.0, AreSound-push labels ys x all.1 one)

-- what is written behind a text decodes there, whatever follows
pub Decodes-written : (old : List ℕ) (is : List Instr) (after : List ℕ) → AllWritten is → Decodes (old ++ (word_bytes (map written_word is) ++ after)) (length old) is
Decodes-written old [] after h = tt
Decodes-written old (i ∷ is) after h =
    let here = to_le_bytes w32 (written_word i) in
    let others = word_bytes (map written_word is) in
    let seam : drop (length old) (old ++ ((here ++ others) ++ after)) ≡ (here ++ others) ++ after = drop-append_seam old ((here ++ others) ++ after) in
    let first : take 4 (drop (length old) (old ++ ((here ++ others) ++ after))) ≡ here = ap (take 4) seam in
    let split : old ++ ((here ++ others) ++ after) ≡ (old ++ here) ++ (others ++ after) = ap (λ (xs : List ℕ). old ++ xs) (append_assoc here others after) ∙ sym (append_assoc old here (others ++ after)) in
    let longer : length (old ++ here) ≡ length old + 4 = length-append old here in
    let next = Decodes-written (old ++ here) is after h.1 in (
      ap decoded (ap (from_le_bytes w32) first ∙ from_le_bytes-to_le_bytes_4 (written_word i) h.0.word) ∙ h.0.decodes,
      subst (λ (at : ℕ). Decodes (old ++ ((here ++ others) ++ after)) at is) longer (subst (λ (xs : List ℕ). Decodes xs (length (old ++ here)) is) (sym split) next),
    )

-- a statement's instructions, behind a text that ends at its address
written_use : (labels : List (List ℕ × ℕ)) (at : ℕ) (u : Use) (old made after : List ℕ) → length old ≡ at → with_use labels at u old ≡ Ok made → IfRight (instrs_of labels at u.template u.filled) AllWritten
    → IfRight (instrs_of labels at u.template u.filled) (Decodes (made ++ after) at)
unfolding with_use
written_use labels at u old made after same h sound = go (instrs_of labels at u.template u.filled) h sound
  where
    go : (r : Result (List Instr) AsmFaultKind) → (r >>= (λ is. ok (map written_word is)) >>= (λ words. ok (old ++ word_bytes words))) ≡ Ok made → IfRight r AllWritten → IfRight r (Decodes (made ++ after) at)
    go (Ok is) h sound =
        let e : old ++ word_bytes (map written_word is) ≡ made = ok_is (old ++ word_bytes (map written_word is)) made h in
        let there : Decodes (old ++ (word_bytes (map written_word is) ++ after)) (length old) is = Decodes-written old is after sound in
        let regrouped : Decodes ((old ++ word_bytes (map written_word is)) ++ after) (length old) is = subst (λ (xs : List ℕ). Decodes xs (length old) is) (sym (append_assoc old (word_bytes (map written_word is)) after)) there in
        subst (λ (k : ℕ). Decodes (made ++ after) k is) same (subst (λ (xs : List ℕ). Decodes (xs ++ after) (length old) is) e regrouped)
    go (Err e) h sound = tt

-- bytes stand behind a part that ends at their place
bytes_stand : (old bytes after : List ℕ) (at : ℕ) → length old ≡ at → take (length bytes) (drop at ((old ++ bytes) ++ after)) ≡ bytes
bytes_stand old bytes after at same =
    let e : drop at ((old ++ bytes) ++ after) ≡ bytes ++ after = ap (λ k. drop k ((old ++ bytes) ++ after)) (sym same) ∙ ap (drop (length old)) (append_assoc old bytes after) ∙ drop-append_seam old (bytes ++ after) in
    ap (take (length bytes)) e ∙ take-append_seam bytes after

-- where the parts of an output end
abbrev EndsAt : Part → Output → ℕ → Type 0
EndsAt part o at = at ≡ end_of part (length o.text) (length o.init)

bytes_placed : (labels : List (List ℕ × ℕ)) (p : Place) (d : Directive) (o q : Output) (text_after init_after : List ℕ) → EndsAt p.part o p.at → (directive_bytes labels p.at d >>= λ bytes. ok (with_part_bytes p.part bytes o)) ≡ Ok q
    → StandsIn labels (q.text ++ text_after) (q.init ++ init_after) p (Directed d)
bytes_placed labels p d o q text_after init_after same h = go p.part (directive_bytes labels p.at d) same h
  where
    go : (part : Part) (r : Result (List ℕ) AsmFaultKind) → EndsAt part o p.at → (r >>= λ bytes. ok (with_part_bytes part bytes o)) ≡ Ok q
        → IfRight r (λ bytes. take (length bytes) (drop p.at (part_of part (q.text ++ text_after) (q.init ++ init_after))) ≡ bytes)
    go Text (Ok bytes) same h = subst (λ (r : Output). take (length bytes) (drop p.at (r.text ++ text_after)) ≡ bytes) (ok_is (with_part_bytes Text bytes o) q h) (bytes_stand o.text bytes text_after p.at (sym same))
    go Data (Ok bytes) same h = subst (λ (r : Output). take (length bytes) (drop p.at (r.init ++ init_after)) ≡ bytes) (ok_is (with_part_bytes Data bytes o) q h) (bytes_stand o.init bytes init_after p.at (sym same))
    go part (Err e) same h = tt

directive_stands : (s : Layout) (p : Place) (d : Directive) (o q : Output) (text_after init_after : List ℕ) → EndsAt p.part o p.at → directive_step s p d o ≡ Ok q → StandsIn (addresses s.text s.labels) (q.text ++ text_after) (q.init ++ init_after) p (Directed d)
unfolding directive_step directive_bytes
directive_stands s p (directive.Entry w) o q text_after init_after same h = refl
directive_stands s p (directive.Comm zs) o q text_after init_after same h = refl
directive_stands s p (directive.Link from to) o q text_after init_after same h = refl
directive_stands s p (directive.Ranks n) o q text_after init_after same h = refl
directive_stands s p (directive.Harts n) o q text_after init_after same h = refl
directive_stands s p (directive.Memory n) o q text_after init_after same h = refl
directive_stands s p directive.Text o q text_after init_after same h = refl
directive_stands s p directive.Data o q text_after init_after same h = refl
directive_stands s p (directive.Global w) o q text_after init_after same h = refl
directive_stands s p (directive.Items w xs) o q text_after init_after same h = bytes_placed (addresses s.text s.labels) p (directive.Items w xs) o q text_after init_after same h
directive_stands s p (directive.Bytes bs) o q text_after init_after same h = bytes_placed (addresses s.text s.labels) p (directive.Bytes bs) o q text_after init_after same h
directive_stands s p (directive.Zero n) o q text_after init_after same h = bytes_placed (addresses s.text s.labels) p (directive.Zero n) o q text_after init_after same h
directive_stands s p (directive.Align n) o q text_after init_after same h = bytes_placed (addresses s.text s.labels) p (directive.Align n) o q text_after init_after same h

text_ends : (part : Part) (o : Output) (at : ℕ) → part ≡ Text → EndsAt part o at → length o.text ≡ at
text_ends Text o at is same = sym same
text_ends Data o at is same = absurd cc

step_stands : (s : Layout) (p : Place) (stated : Statement) (o q : Output) (text_after init_after : List ℕ) → EndsAt p.part o p.at → may_stand p.part stated ≡ true → stated_step s p stated o ≡ Ok q → IsSound (addresses s.text s.labels) p.at stated
    → StandsIn (addresses s.text s.labels) (q.text ++ text_after) (q.init ++ init_after) p stated
unfolding stated_step
step_stands s p (Label w) o q text_after init_after same may h sound = tt
step_stands s p (Instruction u) o q text_after init_after same may h sound =
    let a = bind_ok (with_use (addresses s.text s.labels) p.at u o.text) (λ t. ok (record o { text = t })) q h in
    let e : a.value ≡ q.text = ap (λ (r : Output). r.text) (ok_is (record o { text = a.value }) q a.second) in
    let ends : length o.text ≡ p.at = text_ends p.part o p.at (in_text p.part u may) same in
    subst (λ (xs : List ℕ). IfRight (instrs_of (addresses s.text s.labels) p.at u.template u.filled) (Decodes (xs ++ text_after) p.at)) e (written_use (addresses s.text s.labels) p.at u o.text a.value text_after ends a.first sound)
step_stands s p (Directed d) o q text_after init_after same may h sound = directive_stands s p d o q text_after init_after same h

-- every item stands at its place in what the second pass ends with
pub items_stand : (s : Layout) (o q : Output) (xs : List Item) → items_from s o xs ≡ Ok q → Follow (length o.text) (length o.init) xs → AreSound (addresses s.text s.labels) xs → HoldCode (addresses s.text s.labels) q.text q.init xs
unfolding items_from
items_stand s o q [] h follow sound = tt
items_stand s o q (x ∷ others) h follow sound =
    let labels = addresses s.text s.labels in
    let a = at_line_ok x.line (stated_step s x.place x.statement o) (λ p. items_from s p others) q h in
    let first = stated_step-grows s x.place x.statement o a.value follow.1 a.first in
    let texts = longer_length o.text a.value.text (length_in Text x) first.text in
    let inits = longer_length o.init a.value.init (length_in Data x) first.init in
    let next : Follow (length a.value.text) (length a.value.init) others = subst (λ (k : ℕ). Follow k (length a.value.init) others) (sym texts) (subst (λ (k : ℕ). Follow (length o.text + length_in Text x) k others) (sym inits) follow.2) in
    let rest = items_from-grows s a.value q others (length a.value.text) (length a.value.init) next a.second in
    let here = step_stands s x.place x.statement o a.value rest.text.more rest.init.more follow.0 follow.1 a.first sound.0 in (
      subst (λ (xs : List ℕ). StandsIn labels xs q.init x.place x.statement) (sym rest.text.grown) (subst (λ (xs : List ℕ). StandsIn labels (a.value.text ++ rest.text.more) xs x.place x.statement) (sym rest.init.grown) here),
      items_stand s a.value q others a.second next sound.1,
    )
