-- Every part of the reader follows its tests, so reading answers the first failing row of the whole table.
use Rattle.std.proofs.Common.{◌≡◌, ℕ, ◌+◌, ◌-◌, ◌*◌, ◌<◌, ◌≤◌, Bool, cond, not, ◌&&◌, ltb, leb, eqb, List, [], ◌∷◌, ◌++◌, length, get_or, take, drop, Result, Ok, Err, refl, sym, ap, subst, ◌∙◌, arith, add-one, flat_map}
use Rattle.std.specs.List.{range_with_len}
use Rattle.std.proofs.lemmas.Bool.{leb-true}
use Rattle.std.proofs.lemmas.List.{take_more, get_or-drop, length-drop, length_push}
use Rattle.rv_image.specs.declared.faults.ImageFault.{ImageFault}
use Rattle.rv_image.specs.declared.faults.ImageFault.TheVariants as faults
use Rattle.rv_image.specs.declared.header.Header.{Header}
use Rattle.rv_image_types.specs.declared.images.Link.{Link}
use Rattle.rv_image_types.specs.declared.images.Symbol.{Symbol}
use Rattle.rv_image_types.specs.declared.images.ImageParts.{ImageParts}
use Rattle.rv_image.specs.Reading.{◌>>=◌, byte_at, header_at, header_tests, first_fault, is_within, is_new_rank, next_byte, next_bytes, repeated, next_member, comm_at, next_comm, second_rank, link_at, next_link, next_symbol, body_at, reading}
use Rattle.rv_image.specs.Order.{is_there, member_tests, comm_tests, comm_start, comms_tests, link_tests, links_tests, symbol_tests, symbol_start, name_ahead, symbols_tests, end_tests, rest_tests, body_tests, image_tests, FirstFaultLaw}
use Rattle.rv_image.proofs.Numbers.{tested}
use Rattle.rv_image.proofs.OrderSymbols.{AreSymbols, next_symbol_follows}
use Rattle.rv_image.proofs.OrderFollows.{Follows, IsLeft, IsByteAt, IsAt, follows_fault, follows_then, follows_map, follows_as, follows_unless, follows_test, byte_follows, bytes_follow, end_test, end_at, repeated_follows}

-- ---- members

-- the members before k
abbrev AreMembers : List ℕ → ℕ → ℕ → List ℕ → Type 0
AreMembers bytes first k named = named ≡ take k (drop first bytes)

-- with member k there is one more
one_more : (bytes : List ℕ) (first k : ℕ) (named : List ℕ) (x : ℕ × List ℕ) → AreMembers bytes first k named → IsByteAt bytes (first + k) x → AreMembers bytes first (k + 1) (named ++ x.0 ∷ [])
one_more bytes first k named x are at =
    let there : k < length (drop first bytes) = omega (arith, length-drop first bytes, at.left.there) in
    let member : get_or (drop first bytes) k 0 ≡ byte_at (first + k) bytes = get_or-drop first bytes k 0 in
    ap (λ (named : List ℕ). named ++ x.0 ∷ []) are
    ∙ ap (λ (r : ℕ). take k (drop first bytes) ++ r ∷ []) (at.byte ∙ sym member)
    ∙ sym (take_more (drop first bytes) k 0 there)

member_follows : (bytes : List ℕ) (ranks n first k : ℕ) (named : List ℕ) → AreMembers bytes first k named
    → Follows (member_tests bytes ranks n first k) (IsAt bytes (λ i. first + i) (AreMembers bytes first) (k + 1)) (next_member (length bytes) ranks n named (drop (first + k) bytes))
member_follows bytes ranks n first k named are =
    let Good : List ℕ × List ℕ → Type 0 = IsAt bytes (λ i. first + i) (AreMembers bytes first) (k + 1) in
    let test : Bool = is_new_rank ranks (take k (drop first bytes)) (byte_at (first + k) bytes) in
    follows_then (is_there bytes (first + k) ∷ []) ((test, faults.Comm n) ∷ []) (IsByteAt bytes (first + k)) Good (next_byte (length bytes) (drop (first + k) bytes))
    (λ rank. cond (is_new_rank ranks named rank.0) (Ok (named ++ rank.0 ∷ [], rank.1)) (Err (faults.Comm n)))
    (byte_follows bytes (first + k))
    (λ rank at.
    let same : is_new_rank ranks named rank.0 ≡ test = ap (λ (named : List ℕ). is_new_rank ranks named rank.0) are ∙ ap (is_new_rank ranks (take k (drop first bytes))) at.byte in
    let next : first + k + 1 ≡ first + (k + 1) = omega arith in
    let good : Good (named ++ rank.0 ∷ [], rank.1) = record { done = one_more bytes first k named rank are at; left = subst (λ (o : ℕ). IsLeft bytes o rank.1) next at.left } in
    follows_test (is_new_rank ranks named rank.0) test (faults.Comm n) [] Good (Ok (named ++ rank.0 ∷ [], rank.1)) same (refl, good))

-- ---- communicators

comm_follows : (bytes : List ℕ) (ranks n start : ℕ)
    → Follows (comm_tests bytes ranks n start) (λ (x : List ℕ × List ℕ). IsLeft bytes (start + 1 + byte_at start bytes) x.1) (comm_at (length bytes) ranks n (drop start bytes))
unfolding comm_at
comm_follows bytes ranks n start =
    let Good : List ℕ × List ℕ → Type 0 = λ x. IsLeft bytes (start + 1 + byte_at start bytes) x.1 in
    let first = start + 1 in
    let members = member_tests bytes ranks n first in
    let all = flat_map members (range_with_len 0 (byte_at start bytes)) in
    let test : Bool = is_within 1 8 (byte_at start bytes) in
    let read : ℕ → List ℕ → Result (List ℕ × List ℕ) ImageFault = λ count rest. repeated (next_member (length bytes) ranks n) count [] rest in
    follows_then (is_there bytes start ∷ []) ((test, faults.Comm n) ∷ all) (IsByteAt bytes start) Good (next_byte (length bytes) (drop start bytes))
    (λ count. cond (is_within 1 8 count.0) (read count.0 count.1) (Err (faults.Comm n)))
    (byte_follows bytes start)
    (λ count at.
    let begins : first ≡ first + 0 = omega arith in
    let left : IsLeft bytes (first + 0) count.1 = subst (λ (o : ℕ). IsLeft bytes o count.1) begins at.left in
    let followed = repeated_follows (next_member (length bytes) ranks n) bytes members (λ i. first + i) (AreMembers bytes first) (member_follows bytes ranks n first) (byte_at start bytes) 0 (byte_at start bytes) [] count.1 (omega arith) refl left in
    let behind : Follows all Good (read (byte_at start bytes) count.1) = follows_as all (IsAt bytes (λ i. first + i) (AreMembers bytes first) (byte_at start bytes)) Good (read (byte_at start bytes) count.1) followed (λ x good. good.left) in
    let counted : Follows all Good (read count.0 count.1) = subst (λ (c : ℕ). Follows all Good (read c count.1)) (sym at.byte) behind in
    follows_test (is_within 1 8 count.0) test (faults.Comm n) all Good (read count.0 count.1) (ap (is_within 1 8) at.byte) counted)

-- so many items were read
abbrev AreSoMany : {A : Type 0} → ℕ → List A → Type 0
AreSoMany k done = length done ≡ k

next_comm_follows : (bytes : List ℕ) (ranks k : ℕ) (done : List (List ℕ)) → AreSoMany k done
    → Follows (comm_tests bytes ranks (k + 1) (comm_start bytes k)) (IsAt bytes (comm_start bytes) AreSoMany (k + 1)) (next_comm (length bytes) ranks done (drop (comm_start bytes k) bytes))
next_comm_follows bytes ranks k done are =
    let start = comm_start bytes k in
    let Good : List (List ℕ) × List ℕ → Type 0 = IsAt bytes (comm_start bytes) AreSoMany (k + 1) in
    let Left : List ℕ × List ℕ → Type 0 = λ x. IsLeft bytes (start + 1 + byte_at start bytes) x.1 in
    let next : start + 1 + byte_at start bytes ≡ comm_start bytes (k + 1) = ap (comm_start bytes) (sym (add-one k)) in
    let numbered = comm_follows bytes ranks (k + 1) start in
    let read : Follows (comm_tests bytes ranks (k + 1) start) Left (comm_at (length bytes) ranks (length done + 1) (drop start bytes)) =
    subst (λ (m : ℕ). Follows (comm_tests bytes ranks (k + 1) start) Left (comm_at (length bytes) ranks (m + 1) (drop start bytes))) (sym are) numbered in
    follows_map (comm_tests bytes ranks (k + 1) start) Left Good (comm_at (length bytes) ranks (length done + 1) (drop start bytes)) (λ comm. (done ++ comm.0 ∷ [], comm.1)) read
    (λ comm left. record { done = length_push done comm.0 ∙ ap (λ (m : ℕ). m + 1) are; left = subst (λ (o : ℕ). IsLeft bytes o comm.1) next left })

-- ---- links

link_follows : (bytes : List ℕ) (ranks n start : ℕ)
    → Follows (link_tests bytes ranks n start) (λ (x : Link × List ℕ). IsLeft bytes (start + 1 + 1) x.1) (link_at (length bytes) ranks n (drop start bytes))
unfolding link_at
link_follows bytes ranks n start =
    let Good : Link × List ℕ → Type 0 = λ x. IsLeft bytes (start + 1 + 1) x.1 in
    let first : Bool = ltb (byte_at start bytes) ranks in
    let second : Bool = ltb (byte_at (start + 1) bytes) ranks && not (eqb (byte_at (start + 1) bytes) (byte_at start bytes)) in
    let made : ℕ → ℕ → Link = λ from to. record { from = from; to = to } in
    follows_then (is_there bytes start ∷ []) ((first, faults.Link n) ∷ is_there bytes (start + 1) ∷ (second, faults.Link n) ∷ []) (IsByteAt bytes start) Good (next_byte (length bytes) (drop start bytes))
    (λ from. cond (ltb from.0 ranks) (second_rank (length bytes) ranks n from.0 from.1) (Err (faults.Link n)))
    (byte_follows bytes start)
    (λ from at.
    let there : Follows (is_there bytes (start + 1) ∷ []) (IsByteAt bytes (start + 1)) (next_byte (length bytes) from.1) =
    subst (λ (r : List ℕ). Follows (is_there bytes (start + 1) ∷ []) (IsByteAt bytes (start + 1)) (next_byte (length bytes) r)) (sym at.left.is) (byte_follows bytes (start + 1)) in
    let read : Follows (is_there bytes (start + 1) ∷ (second, faults.Link n) ∷ []) Good (second_rank (length bytes) ranks n from.0 from.1) =
    follows_then (is_there bytes (start + 1) ∷ []) ((second, faults.Link n) ∷ []) (IsByteAt bytes (start + 1)) Good (next_byte (length bytes) from.1)
    (λ to. cond (ltb to.0 ranks && not (eqb to.0 from.0)) (Ok (made from.0 to.0, to.1)) (Err (faults.Link n)))
    there
    (λ to to_at.
    let same : (ltb to.0 ranks && not (eqb to.0 from.0)) ≡ second = ap (λ (t : ℕ). ltb t ranks && not (eqb t from.0)) to_at.byte ∙ ap (λ (f : ℕ). ltb (byte_at (start + 1) bytes) ranks && not (eqb (byte_at (start + 1) bytes) f)) at.byte in
    follows_test (ltb to.0 ranks && not (eqb to.0 from.0)) second (faults.Link n) [] Good (Ok (made from.0 to.0, to.1)) same (refl, to_at.left)) in
    follows_test (ltb from.0 ranks) first (faults.Link n) (is_there bytes (start + 1) ∷ (second, faults.Link n) ∷ []) Good (second_rank (length bytes) ranks n from.0 from.1) (ap (λ (f : ℕ). ltb f ranks) at.byte) read)

next_link_follows : (bytes : List ℕ) (ranks start k : ℕ) (done : List Link) → AreSoMany k done
    → Follows (link_tests bytes ranks k (start + 2 * k)) (IsAt bytes (λ i. start + 2 * i) AreSoMany (k + 1)) (next_link (length bytes) ranks done (drop (start + 2 * k) bytes))
next_link_follows bytes ranks start k done are =
    let here = start + 2 * k in
    let Good : List Link × List ℕ → Type 0 = IsAt bytes (λ i. start + 2 * i) AreSoMany (k + 1) in
    let Left : Link × List ℕ → Type 0 = λ x. IsLeft bytes (here + 1 + 1) x.1 in
    let next : start + 2 * k + 1 + 1 ≡ start + 2 * (k + 1) = omega arith in
    let read : Follows (link_tests bytes ranks k here) Left (link_at (length bytes) ranks (length done) (drop here bytes)) =
    subst (λ (m : ℕ). Follows (link_tests bytes ranks k here) Left (link_at (length bytes) ranks m (drop here bytes))) (sym are) (link_follows bytes ranks k here) in
    follows_map (link_tests bytes ranks k here) Left Good (link_at (length bytes) ranks (length done) (drop here bytes)) (λ link. (done ++ link.0 ∷ [], link.1)) read
    (λ link left. record { done = length_push done link.0 ∙ ap (λ (m : ℕ). m + 1) are; left = subst (λ (o : ℕ). IsLeft bytes o link.1) next left })

-- ---- the end, and all of it

-- where nothing is left there is an image, else the input is too long
closed_follows : (bytes : List ℕ) (end : ℕ) (image : ImageParts) (rest : List ℕ) → IsLeft bytes end rest
    → Follows ((leb (length bytes) end, faults.Long end) ∷ []) (λ (i : ImageParts). Unit {0}) (cond (eqb (length rest) 0) (Ok image) (Err (faults.Long (length bytes - length rest))))
closed_follows bytes end image rest left =
    let Any : ImageParts → Type 0 = λ i. Unit {0} in
    subst (λ (e : ℕ). Follows ((leb (length bytes) end, faults.Long end) ∷ []) Any (cond (eqb (length rest) 0) (Ok image) (Err (faults.Long e)))) (sym (end_at bytes end rest left))
    (follows_test (eqb (length rest) 0) (leb (length bytes) end) (faults.Long end) [] Any (Ok image) (end_test bytes end rest left) (refl, tt))

symbols_follow : (bytes : List ℕ) (h : Header) (first : ℕ) (rest : List ℕ) → IsLeft bytes first rest
    → Follows (symbols_tests bytes h first) (IsAt bytes (symbol_start bytes first) (AreSymbols bytes first) h.symbols) (repeated (next_symbol (length bytes) h.memory) h.symbols [] rest)
symbols_follow bytes h first rest left =
    repeated_follows (next_symbol (length bytes) h.memory) bytes (λ n. symbol_tests bytes h.memory n (name_ahead bytes first n) (symbol_start bytes first n)) (symbol_start bytes first) (AreSymbols bytes first)
    (next_symbol_follows bytes h.memory first) h.symbols 0 h.symbols [] rest (omega arith) (record { count = refl; last = refl }) left

-- the symbols, and nothing behind them
abbrev ended : List ℕ → Header → List (List ℕ) → List Link → List ℕ → List ℕ → List ℕ → Result ImageParts ImageFault
ended bytes h comms links text init rest =
    repeated (next_symbol (length bytes) h.memory) h.symbols [] rest >>= λ symbols.
    cond (eqb (length symbols.1) 0) (Ok (record { version = h.version; ranks = h.ranks; harts = h.harts; memory = h.memory; entry = h.entry; text = text; init = init; comms = comms; links = links; symbols = symbols.0 })) (Err (faults.Long (length bytes - length symbols.1)))

-- the text and the data, and the rest
abbrev parted : List ℕ → Header → List (List ℕ) → List Link → List ℕ → Result ImageParts ImageFault
parted bytes h comms links rest =
    next_bytes h.text_length (length bytes) rest >>= λ text. next_bytes h.init_length (length bytes) text.1 >>= λ init. ended bytes h comms links text.0 init.0 init.1

ended_follows : (bytes : List ℕ) (h : Header) (comms : List (List ℕ)) (links : List Link) (text init : List ℕ) (first : ℕ) (rest : List ℕ) → IsLeft bytes first rest
    → Follows (symbols_tests bytes h first ++ end_tests bytes (symbol_start bytes first h.symbols)) (λ (i : ImageParts). Unit {0}) (ended bytes h comms links text init rest)
ended_follows bytes h comms links text init first rest left =
    let Any : ImageParts → Type 0 = λ i. Unit {0} in
    let end = symbol_start bytes first h.symbols in
    let made : List Symbol → ImageParts = λ symbols. record { version = h.version; ranks = h.ranks; harts = h.harts; memory = h.memory; entry = h.entry; text = text; init = init; comms = comms; links = links; symbols = symbols } in
    follows_then (symbols_tests bytes h first) (end_tests bytes end) (IsAt bytes (symbol_start bytes first) (AreSymbols bytes first) h.symbols) Any (repeated (next_symbol (length bytes) h.memory) h.symbols [] rest)
    (λ symbols. cond (eqb (length symbols.1) 0) (Ok (made symbols.0)) (Err (faults.Long (length bytes - length symbols.1))))
    (symbols_follow bytes h first rest left)
    (λ symbols behind. closed_follows bytes end (made symbols.0) symbols.1 behind.left)

rest_follows : (bytes : List ℕ) (h : Header) (comms : List (List ℕ)) (links : List Link) (start : ℕ) (rest : List ℕ) → IsLeft bytes start rest
    → Follows (rest_tests bytes h start) (λ (i : ImageParts). Unit {0}) (parted bytes h comms links rest)
rest_follows bytes h comms links start rest left =
    let Any : ImageParts → Type 0 = λ i. Unit {0} in
    let middle = start + h.text_length in
    let end = start + h.text_length + h.init_length in
    let short = faults.Short (length bytes) in
    let last : List (Bool × ImageFault) = symbols_tests bytes h end ++ end_tests bytes (symbol_start bytes end h.symbols) in
    follows_then ((leb middle (length bytes), short) ∷ []) ((leb end (length bytes), short) ∷ last) (λ (x : List ℕ × List ℕ). IsLeft bytes middle x.1) Any (next_bytes h.text_length (length bytes) rest)
    (λ text. next_bytes h.init_length (length bytes) text.1 >>= λ init. ended bytes h comms links text.0 init.0 init.1)
    (bytes_follow bytes start h.text_length rest left)
    (λ text behind_text.
    follows_then ((leb end (length bytes), short) ∷ []) last (λ (x : List ℕ × List ℕ). IsLeft bytes end x.1) Any (next_bytes h.init_length (length bytes) text.1)
    (λ init. ended bytes h comms links text.0 init.0 init.1)
    (bytes_follow bytes middle h.init_length text.1 behind_text)
    (λ init behind_init. ended_follows bytes h comms links text.0 init.0 end init.1 behind_init))

comms_follow : (bytes : List ℕ) (h : Header) → 28 ≤ length bytes → Follows (comms_tests bytes h) (IsAt bytes (comm_start bytes) AreSoMany h.comms) (repeated (next_comm (length bytes) h.ranks) h.comms [] (drop 28 bytes))
comms_follow bytes h there =
    repeated_follows (next_comm (length bytes) h.ranks) bytes (λ before. comm_tests bytes h.ranks (before + 1) (comm_start bytes before)) (comm_start bytes) AreSoMany
    (next_comm_follows bytes h.ranks) h.comms 0 h.comms [] (drop 28 bytes) (omega arith) refl (record { is = refl; there = there })

links_follow : (bytes : List ℕ) (h : Header) (start : ℕ) (rest : List ℕ) → IsLeft bytes start rest
    → Follows (links_tests bytes h start) (IsAt bytes (λ i. start + 2 * i) AreSoMany h.links) (repeated (next_link (length bytes) h.ranks) h.links [] rest)
links_follow bytes h start rest left =
    let begins : start ≡ start + 2 * 0 = omega arith in
    repeated_follows (next_link (length bytes) h.ranks) bytes (λ n. link_tests bytes h.ranks n (start + 2 * n)) (λ i. start + 2 * i) AreSoMany
    (next_link_follows bytes h.ranks start) h.links 0 h.links [] rest (omega arith) refl (subst (λ (o : ℕ). IsLeft bytes o rest) begins left)

body_follows : (bytes : List ℕ) (h : Header) → 28 ≤ length bytes → Follows (body_tests bytes h) (λ (i : ImageParts). Unit {0}) (body_at (length bytes) h (drop 28 bytes))
unfolding body_at body_tests
body_follows bytes h there =
    let Any : ImageParts → Type 0 = λ i. Unit {0} in
    let start = comm_start bytes h.comms in
    let end = start + 2 * h.links in
    follows_then (comms_tests bytes h) (links_tests bytes h start ++ rest_tests bytes h end) (IsAt bytes (comm_start bytes) AreSoMany h.comms) Any (repeated (next_comm (length bytes) h.ranks) h.comms [] (drop 28 bytes))
    (λ comms. repeated (next_link (length bytes) h.ranks) h.links [] comms.1 >>= λ links. parted bytes h comms.0 links.0 links.1)
    (comms_follow bytes h there)
    (λ comms behind_comms.
    follows_then (links_tests bytes h start) (rest_tests bytes h end) (IsAt bytes (λ i. start + 2 * i) AreSoMany h.links) Any (repeated (next_link (length bytes) h.ranks) h.links [] comms.1)
    (λ links. parted bytes h comms.0 links.0 links.1)
    (links_follow bytes h start comms.1 behind_comms.left)
    (λ links behind_links. rest_follows bytes h comms.0 links.0 end links.1 behind_links.left))

pub first_fault_law : FirstFaultLaw
unfolding reading image_tests
first_fault_law bytes =
    let Any : ImageParts → Type 0 = λ i. Unit {0} in
    let h = header_at bytes in
    let body = body_at (length bytes) h (drop 28 bytes) in
    let all = follows_unless (header_tests bytes) (body_tests bytes h) Any body (first_fault (header_tests bytes)) refl (λ none. body_follows bytes h (leb-true 28 (length bytes) (tested bytes none).there)) in
    follows_fault (header_tests bytes ++ body_tests bytes h) Any (reading bytes) all
