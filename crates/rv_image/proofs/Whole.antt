-- What is read is spelled so, and what is spelled so is read.
use Rattle.std.proofs.Common.{◌≡◌, ℕ, ◌-◌, ◌&&◌, ltb, leb, eqb, ◌+◌, ◌*◌, ◌%◌, ◌^◌, ◌<◌, List, [], ◌++◌, length, drop, Result, Ok, Err, refl, sym, ap, subst, ◌∙◌, All, arith}
use Rattle.std.specs.Prelude.{IfOk}
use Rattle.std.specs.Global.{Vec}
use Rattle.std.specs.declared.alloc.AllocError.{AllocError}
use Rattle.std.specs.List.{flat_map}
use Rattle.std.proofs.lemmas.Bool.{and_parts, leb-true, ltb-true, eqb-true}
use Rattle.std.proofs.lemmas.List.{append-nil, nil_from_length}
use Rattle.rv_image.specs.declared.faults.ImageFault.TheVariants as faults
use Rattle.rv_image.specs.declared.header.Header.{Header}
use Rattle.rv_image_types.specs.declared.images.Link.{Link}
use Rattle.rv_image_types.specs.declared.images.Symbol.{Symbol}
use Rattle.rv_image_types.specs.declared.images.ImageParts.{ImageParts}
use Rattle.rv_image_types.specs.Image.{IsCommunicator, IsLink, IsSymbol, IsImage, data_start, most_symbols, symbol_names}
use Rattle.rv_image_types.specs.Names.{RisingNames}
use Rattle.rv_image.specs.Text.{comm_text, link_text, symbol_text, header_text, body_text, image_text}
use Rattle.rv_image.specs.Reading.{header_at, is_within, header_tests, first_fault, repeated, next_bytes, next_comm, next_link, next_symbol, body_at, reading}
use Rattle.rv_image.proofs.Takes.{IsBytes, IsBytes-drop, bind_ok, want_ok, unless_ok, ok_is, bytes_take, bytes_again}
use Rattle.rv_image.proofs.Distinct.{AllAfter, AllAfter-alone, alone-AllAfter}
use Rattle.rv_image.proofs.Steps.{repeated_takes, repeated_again, comm_takes, comm_again, link_takes, link_again, is_within-true}
use Rattle.rv_image.proofs.Rising.{IsNextSymbol, AllAfter-rising, AllAfter-symbols, rising-AllAfter}
use Rattle.rv_image.proofs.SymbolSteps.{symbol_takes, symbol_again}
use Rattle.rv_image.proofs.Numbers.{IsHeaderOf, IsTested, tested, header_takes, header_for, header_again, tests_again}

-- ---- the body

-- parts that a body makes: those of the header, and lists of its lengths
record IsBodyOf (image : ImageParts) (h : Header) : Type 0 where
  version : image.version ≡ h.version
  ranks : image.ranks ≡ h.ranks
  harts : image.harts ≡ h.harts
  memory : image.memory ≡ h.memory
  entry : image.entry ≡ h.entry
  text_length : length image.text ≡ h.text_length
  init_length : length image.init ≡ h.init_length
  comms_length : length image.comms ≡ h.comms
  links_length : length image.links ≡ h.links
  comms : All (IsCommunicator h.ranks) image.comms
  links : All (IsLink h.ranks) image.links
  symbols_length : length image.symbols ≡ h.symbols
  symbols : All (IsSymbol h.memory) image.symbols
  rising : RisingNames (symbol_names image.symbols)

body_takes : (total : ℕ) (h : Header) (bytes : List ℕ) (image : ImageParts) → IsBytes bytes → body_at total h bytes ≡ Ok image → (bytes ≡ body_text image) × IsBodyOf image h
unfolding body_at
body_takes total h bytes image fits e =
    let a = bind_ok (repeated (next_comm total h.ranks) h.comms [] bytes) _ image e in
    let b = bind_ok (repeated (next_link total h.ranks) h.links [] a.0.1) _ image a.2 in
    let c = bind_ok (next_bytes h.text_length total b.0.1) _ image b.2 in
    let d = bind_ok (next_bytes h.init_length total c.0.1) _ image c.2 in
    let s = bind_ok (repeated (next_symbol total h.memory) h.symbols [] d.0.1) _ image d.2 in
    let made : ImageParts = record { version = h.version; ranks = h.ranks; harts = h.harts; memory = h.memory; entry = h.entry; text = c.0.0; init = d.0.0; comms = a.0.0; links = b.0.0; symbols = s.0.0 } in
    let g = want_ok (eqb (length s.0.1) 0) (faults.Long (total - length s.0.1)) (Ok made) image s.2 in
    let ta = repeated_takes (next_comm total h.ranks) comm_text (λ _ c. IsCommunicator h.ranks c) (comm_takes total h.ranks) h.comms [] bytes a.0 fits a.1 in
    let tb = repeated_takes (next_link total h.ranks) link_text (λ _ l. IsLink h.ranks l) (link_takes total h.ranks) h.links [] a.0.1 b.0 ta.takes.rest_fits b.1 in
    let tc = bytes_take h.text_length total b.0.1 c.0.0 c.0.1 tb.takes.rest_fits c.1 in
    let td = bytes_take h.init_length total c.0.1 d.0.0 d.0.1 tc.0.rest_fits d.1 in
    let ts = repeated_takes (next_symbol total h.memory) symbol_text (IsNextSymbol h.memory) (symbol_takes total h.memory) h.symbols [] d.0.1 s.0 td.0.rest_fits s.1 in
    let nothing : s.0.1 ≡ [] = nil_from_length s.0.1 (eqb-true (length s.0.1) 0 g.0) in
    let from_symbols : d.0.1 ≡ flat_map symbol_text s.0.0 =
    ts.takes.parts ∙ ap (λ (r : List ℕ). flat_map symbol_text ts.items ++ r) nothing ∙ append-nil (flat_map symbol_text ts.items) ∙ ap (λ (ss : List Symbol). flat_map symbol_text ss) (sym ts.is) in
    let last : List ℕ = flat_map symbol_text s.0.0 in
    let from_init : c.0.1 ≡ d.0.0 ++ last = td.0.parts ∙ ap (λ (r : List ℕ). d.0.0 ++ r) from_symbols in
    let from_text : b.0.1 ≡ c.0.0 ++ (d.0.0 ++ last) = tc.0.parts ∙ ap (λ (r : List ℕ). c.0.0 ++ r) from_init in
    let from_links : a.0.1 ≡ flat_map link_text b.0.0 ++ (c.0.0 ++ (d.0.0 ++ last)) = tb.takes.parts ∙ ap (λ (r : List ℕ). flat_map link_text tb.items ++ r) from_text ∙ ap (λ (ls : List Link). flat_map link_text ls ++ (c.0.0 ++ (d.0.0 ++ last))) (sym tb.is) in
    let from_comms : bytes ≡ body_text made = ta.takes.parts ∙ ap (λ (r : List ℕ). flat_map comm_text ta.items ++ r) from_links ∙ ap (λ (cs : List (List ℕ)). flat_map comm_text cs ++ (flat_map link_text b.0.0 ++ (c.0.0 ++ (d.0.0 ++ last)))) (sym ta.is) in
    let symbols : AllAfter (IsNextSymbol h.memory) [] s.0.0 = subst (λ (ss : List Symbol). AllAfter (IsNextSymbol h.memory) [] ss) (sym ts.is) ts.right in
    let comms = AllAfter-alone (IsCommunicator h.ranks) [] a.0.0 (subst (λ (cs : List (List ℕ)). AllAfter (λ _ c. IsCommunicator h.ranks c) [] cs) (sym ta.is) ta.right) in
    let links = AllAfter-alone (IsLink h.ranks) [] b.0.0 (subst (λ (ls : List Link). AllAfter (λ _ l. IsLink h.ranks l) [] ls) (sym tb.is) tb.right) in
    let body : IsBodyOf made h = record { version = refl; ranks = refl; harts = refl; memory = refl; entry = refl; text_length = tc.1; init_length = td.1; comms_length = ap length ta.is ∙ ta.len; links_length = ap length tb.is ∙ tb.len; comms = comms; links = links; symbols_length = ap length ts.is ∙ ts.len; symbols = AllAfter-symbols h.memory [] s.0.0 symbols; rising = AllAfter-rising h.memory [] s.0.0 symbols } in
    subst (λ (i : ImageParts). (bytes ≡ body_text i) × IsBodyOf i h) (ok_is made image g.1) (from_comms, body)

body_again : (total : ℕ) (image : ImageParts) → IsImage image → body_at total (header_for image) (body_text image) ≡ Ok image
unfolding body_at
body_again total image is =
    let comms = alone-AllAfter (IsCommunicator image.ranks) [] image.comms is.comms in
    let links = alone-AllAfter (IsLink image.ranks) [] image.links is.links in
    let symbols = rising-AllAfter image.memory image.symbols is.symbols is.rising in
    let last : List ℕ = flat_map symbol_text image.symbols in
    let a = repeated_again (next_comm total image.ranks) comm_text (λ _ c. IsCommunicator image.ranks c) (comm_again total image.ranks) image.comms [] (flat_map link_text image.links ++ (image.text ++ (image.init ++ last))) comms in
    let b = repeated_again (next_link total image.ranks) link_text (λ _ l. IsLink image.ranks l) (link_again total image.ranks) image.links [] (image.text ++ (image.init ++ last)) links in
    let c = bytes_again image.text (image.init ++ last) total in
    let d = bytes_again image.init last total in
    let small : image.memory < 2 ^ 32 = omega (arith, is.most_memory) in
    let s : repeated (next_symbol total image.memory) (length image.symbols) [] last ≡ Ok (image.symbols, []) =
    ap (repeated (next_symbol total image.memory) (length image.symbols) []) (sym (append-nil last)) ∙ repeated_again (next_symbol total image.memory) symbol_text (IsNextSymbol image.memory) (symbol_again total image.memory small) image.symbols [] [] symbols in
    rw (a, b, c, d, s) refl

-- ---- an image

-- a header that passes its tests, with a body of its lengths, is an image
image_from : (bytes : List ℕ) (h : Header) (image : ImageParts) → IsTested bytes h → IsBodyOf image h → IsImage image
image_from bytes h image t b =
    let ranks = is_within-true 1 8 h.ranks t.ranks in
    let harts = is_within-true 1 4 h.harts t.harts in
    let m = and_parts (is_within 4096 1048576 h.memory) (eqb (h.memory % 4096) 0 && leb (4096 * h.harts) h.memory) t.memory in
    let memory = is_within-true 4096 1048576 h.memory m.0 in
    let n = and_parts (eqb (h.memory % 4096) 0) (leb (4096 * h.harts) h.memory) m.1 in
    let p = and_parts (ltb 0 h.text_length) (eqb (h.text_length % 4) 0 && leb h.text_length h.memory) t.text in
    let q = and_parts (eqb (h.text_length % 4) 0) (leb h.text_length h.memory) p.1 in
    let r = and_parts (eqb (h.entry % 4) 0) (ltb h.entry h.text_length) t.entry in
    record {
      has_ranks = rw b.ranks ranks.0;
      few_ranks = rw b.ranks ranks.1;
      has_harts = rw b.harts harts.0;
      few_harts = rw b.harts harts.1;
      least_memory = rw b.memory memory.0;
      most_memory = rw b.memory memory.1;
      whole_pages = rw b.memory (eqb-true (h.memory % 4096) 0 n.0);
      stacks_fit = rw (b.harts, b.memory) (leb-true (4096 * h.harts) h.memory n.1);
      has_text = rw b.text_length (ltb-true 0 h.text_length p.0);
      whole_words = rw b.text_length (eqb-true (h.text_length % 4) 0 q.0);
      text_fits = rw (b.text_length, b.memory) (leb-true h.text_length h.memory q.1);
      init_fits = rw (b.text_length, b.init_length, b.memory) (leb-true (data_start h.text_length + h.init_length) h.memory t.init);
      entry_aligned = rw b.entry (eqb-true (h.entry % 4) 0 r.0);
      entry_in_text = rw (b.entry, b.text_length) (ltb-true h.entry h.text_length r.1);
      few_comms = rw b.comms_length (leb-true h.comms 7 t.comms);
      comms = rw b.ranks b.comms;
      few_links = rw b.links_length (leb-true h.links 32 t.links);
      links = rw b.ranks b.links;
      few_symbols = rw (b.symbols_length, b.version) (leb-true h.symbols (most_symbols h.version) t.symbols);
      symbols = rw b.memory b.symbols;
      rising = b.rising;
    }

-- what is read is an image, and the bytes are its text
pub reading_takes : (bytes : List ℕ) (image : ImageParts) → IsBytes bytes → reading bytes ≡ Ok image → IsImage image × (bytes ≡ image_text image)
unfolding reading image_text
reading_takes bytes image fits e =
    let h = header_at bytes in
    let g = unless_ok (first_fault (header_tests bytes)) (body_at (length bytes) h (drop 28 bytes)) image e in
    let t = tested bytes g.0 in
    let b = body_takes (length bytes) h (drop 28 bytes) image (IsBytes-drop 28 bytes fits) g.1 in
    let header : IsHeaderOf image h = record { version = b.1.version; ranks = b.1.ranks; harts = b.1.harts; memory = b.1.memory; entry = b.1.entry; text_length = b.1.text_length; init_length = b.1.init_length; comms = b.1.comms_length; links = b.1.links_length; symbols = b.1.symbols_length } in
    let front = header_takes bytes image fits (leb-true 28 (length bytes) t.there) t.magic t.version header in
    (image_from bytes h image t b.1, front ∙ ap (λ (rest : List ℕ). header_text image ++ rest) b.0)

behind_header : (image : ImageParts) (rest : List ℕ) → drop 28 (header_text image ++ rest) ≡ rest
unfolding header_text
behind_header image rest = refl

-- the text of an image is read as that image
pub reading_again : (image : ImageParts) → IsImage image → reading (image_text image) ≡ Ok image
unfolding reading image_text
reading_again image is =
    rw (tests_again image (body_text image) is, header_again image (body_text image) is, behind_header image (body_text image)) (body_again (length (image_text image)) image is)

-- what was written is read as the same image
pub written_again : (image : ImageParts) (written : Result (Vec ℕ) AllocError) → IsImage image → IfOk written (λ bytes. bytes.items ≡ image_text image) → IfOk written (λ bytes. reading bytes.items ≡ Ok image)
written_again image (Ok bytes) is text = ap reading text ∙ reading_again image is
written_again image (Err _) is text = tt
