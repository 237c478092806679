-- The tokens of a line, the first ones apart.
use Rattle.std.proofs.Common.{◌≡◌, ◌≤◌, ◌<◌, ◌+◌, ◌-◌, ◌==◌, ℕ, zero, suc, false, List, [], ◌∷◌, ◌++◌, length, map, take, drop, get_or, Some, Result, Ok, Err, refl, sym, ap, ◌∙◌, add-one, arith}
use Rattle.std.specs.Prelude.{slice_get, slice_set}
use Rattle.std.proofs.Math.Seq.{drop-cons}
use Rattle.std.proofs.lemmas.Bool.{ne_eqb}
use Rattle.std.proofs.lemmas.List.{append_assoc, map-append, take_more_set}
use Rattle.rv_asm_tokens.specs.declared.fault.AsmFaultKind.{AsmFaultKind}
use Rattle.rv_asm_tokens.specs.declared.token.Token.{Token}
use Rattle.rv_asm_tokens.specs.Fault.{◌>>=◌}
use Rattle.rv_asm_tokens.specs.Kept.{tokens_left}
use Rattle.rv_asm_tokens.specs.Lexeme.{Lexeme}
use Rattle.rv_asm_tokens.specs.TokenView.{lexeme_of}

-- ---- those that are kept

pub first_kept : (kept : List Token) (at end : ℕ) (bytes : List ℕ) (d : Token) → at < end → end ≤ length kept → tokens_left kept at end bytes ≡ lexeme_of (get_or kept at d) ∷ tokens_left kept (at + 1) end bytes
first_kept kept at end bytes d lt le =
    let here : drop at kept ≡ get_or kept at d ∷ drop (at + 1) kept = rw (add-one, drop-cons kept at d (omega arith)) refl in
    let more : end - at ≡ suc (end - (at + 1)) = omega arith in
    rw (here, more) refl

pub kept_behind : (kept : List Token) (at end k : ℕ) (bytes : List ℕ) (d : Token) → at + k < end → end ≤ length kept → slice_get (tokens_left kept at end bytes) k ≡ Some (lexeme_of (get_or kept (at + k) d))
kept_behind kept at end zero bytes d lt le =
    let here : at + 0 ≡ at = omega arith in
    rw (first_kept kept at end bytes d (omega arith) le, here) refl
kept_behind kept at end (suc k) bytes d lt le =
    let there : at + suc k ≡ at + 1 + k = omega arith in
    rw (first_kept kept at end bytes d (omega arith) le, there) (kept_behind kept (at + 1) end k bytes d (omega arith) le)

pub some_kept : (kept : List Token) (at end : ℕ) (bytes : List ℕ) (d : Token) → at < end → end ≤ length kept → false ≡ (length (tokens_left kept at end bytes) == 0)
some_kept kept at end bytes d lt le = rw (first_kept kept at end bytes d lt le) (sym (ne_eqb (suc (length (tokens_left kept (at + 1) end bytes))) 0 (λ z. omega arith)))

-- ---- tokens that are done before those that bytes come to

abbrev Whole : Type 0
Whole = Result (List Lexeme) AsmFaultKind

abbrev pub behind : List Lexeme → Whole → Whole
behind done r = r >>= λ ts. Ok (done ++ ts)

pub behind_none : (r : Whole) → r ≡ behind [] r
behind_none (Ok ts) = refl
behind_none (Err e) = refl

pub behind_more : (done : List Lexeme) (t : Lexeme) (whole here more : Whole) → whole ≡ behind done here → here ≡ (more >>= λ ts. Ok (t ∷ ts)) → whole ≡ behind (done ++ t ∷ []) more
behind_more done t whole here (Err e) all first = rw (all, first) refl
behind_more done t whole here (Ok ts) all first = rw (all, first) (ap Ok (sym (append_assoc done (t ∷ []) ts)))

-- one more token is kept
pub one_more : (kept : List Token) (end : ℕ) (t : Token) → end < length kept → map lexeme_of (take (end + 1) (slice_set kept end t)) ≡ map lexeme_of (take end kept) ++ lexeme_of t ∷ []
one_more kept end t lt = rw (take_more_set kept end t lt) (map-append lexeme_of (take end kept) (t ∷ []))
