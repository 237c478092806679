-- The symbols of a source: each name of `.globl` has a label, which stands in the text or the data or at their ends.
use Rattle.std.proofs.Common.{◌≡◌, ℕ, ◌+◌, ◌≤◌, ◌<◌, ◌^◌, List, [], ◌∷◌, length, get_or, Option, Some, None, Ok, Bool, true, false, cond, is_some, refl, sym, ap, subst, ◌∙◌, arith}
use Rattle.std.proofs.lemmas.Bool.{ltb-false}
use Rattle.std.proofs.lemmas.List.{length-map}
use Rattle.std.proofs.lemmas.List.Elements.{All-append, All-cons, All-head, All-nil, All-tail}
use Rattle.std.specs.Prelude.{All, IfSome, ◌||◌}
use Rattle.std.specs.Cmp.Lexicographic.{bytes_decides}
use Rattle.std.specs.List.{cons_option}
use Rattle.std.specs.Option.{option_map}
use Rattle.std.specs.Str.{bytes_eq}
use Rattle.std.specs.Str.Lines.{lines}
use Rattle.rv_image_types.specs.declared.images.Symbol.{Symbol}
use Rattle.rv_image_types.specs.Image.{IsSymbol, data_start, symbol_names}
use Rattle.rv_image_types.specs.Names.{RisingNames, is_symbol_name}
use Rattle.rv_asm_tokens.specs.declared.fault.AsmFaultKind.TheVariants as kinds
use Rattle.rv_asm_tokens.specs.Fault.{◌>>=◌, wanted}
use Rattle.rv_asm_statements.specs.declared.directives.Directive.TheVariants as directive
use Rattle.rv_asm_statements.specs.declared.statements.Statement.{Statement}
use Rattle.rv_asm_statements.specs.declared.statements.Statement.TheVariants.{Directive as Directed}
use Rattle.rv_asm_lines.specs.Item.{Item}
use Rattle.rv_asm_lines.specs.declared.parts.Part.{Part}
use Rattle.rv_asm_lines.specs.declared.parts.Part.TheVariants.{Text, Data}
use Rattle.rv_asm_lines.specs.declared.parts.Place.{Place}
use Rattle.rv_asm_lines.specs.Globals.{global_of, is_global, most_globals, symbols_of}
use Rattle.rv_asm_lines.specs.GlobalNames.{globals_in}
use Rattle.rv_asm_lines.specs.Layout.{Labels, Layout, added, addresses, at_end, empty_layout, end_of, layout_of, most_bytes, next_place}
use Rattle.rv_asm_lines.specs.Output.{Output, directive_step, empty_output, items_from, stated_step}
use Rattle.rv_asm_lines.specs.Parts.{address, length_of}
use Rattle.rv_asm_lines.specs.Resolved.{address_in}
use Rattle.rv_asm.specs.Source.{symbols_in}
use Rattle.rv_asm.specs.Made.{AreGlobals}
use Rattle.rv_asm.proofs.Globals.{HasGlobals, globals_kept, nothing_named, same_name}
use Rattle.rv_asm.proofs.Kept.{IsKept, lines_from-keeps}
use Rattle.rv_asm.proofs.Right.{at_line_ok, ok}

-- ---- where labels stand

-- neither part is too long, and labels stand in their part or at its end
record AreWithin (s : Layout) : Type 0 where
  text : s.text ≤ most_bytes
  init : s.init ≤ most_bytes
  labels : All (λ l. l.1.at ≤ end_of l.1.part s.text s.init) s.labels

ends_grow : (part : Part) (text init a b : ℕ) → end_of part text init ≤ end_of part (text + a) (init + b)
ends_grow Text text init a b = omega arith
ends_grow Data text init a b = omega arith

parts_fit : (part : Part) (text init k : ℕ) → text ≤ most_bytes → init ≤ most_bytes → end_of part text init + k ≤ most_bytes → (text + added Text part k ≤ most_bytes) × (init + added Data part k ≤ most_bytes)
parts_fit Text text init k t i h = (h, omega (arith, i))
parts_fit Data text init k t i h = (omega (arith, t), h)

within_kept : IsKept AreWithin
within_kept = record {
  label = λ n s w p. record {
    text = p.text;
    init = p.init;
    labels = All-append (λ (l : List ℕ × Place). l.1.at ≤ end_of l.1.part s.text s.init) s.labels ((w, next_place s) ∷ []) p.labels (All-cons (λ (l : List ℕ × Place). l.1.at ≤ end_of l.1.part s.text s.init) (w, next_place s) [] (omega arith) (All-nil (λ (l : List ℕ × Place). l.1.at ≤ end_of l.1.part s.text s.init)));
  };
  statement = λ n s stated f names room is may behind named p.
      let k = length_of (at_end s) stated in
      let fit = parts_fit s.part s.text s.init k p.text p.init (ltb-false most_bytes (at_end s + k) room) in
      record {
        text = fit.0;
        init = fit.1;
        labels = λ i d lt. let l = get_or s.labels i d in omega (arith, p.labels i d lt, ends_grow l.1.part s.text s.init (added Text s.part k) (added Data s.part k));
      };
}

layout_within : (source : List ℕ) (s : Layout) → layout_of source ≡ Ok s → AreWithin s
layout_within source s laid = lines_from-keeps AreWithin within_kept 1 empty_layout s (lines source) laid (record { text = omega arith; init = omega arith; labels = All-nil (λ (l : List ℕ × Place). l.1.at ≤ end_of l.1.part 0 0) })

-- a place in a part is an address at the end of the data at most
address_within : (text init : ℕ) (part : Part) (at : ℕ) → at ≤ end_of part text init → address text part at ≤ data_start text + init
address_within text init Text at h = omega (arith, h)
address_within text init Data at h = omega (arith, h)

found_within : (w : List ℕ) (text init : ℕ) (ls : Labels) → All (λ l. l.1.at ≤ end_of l.1.part text init) ls → IfSome (address_in w (addresses text ls)) (λ at. at ≤ data_start text + init)
found_within w text init [] all = tt
found_within w text init (l ∷ ls) all = go (bytes_eq w l.0) (found_within w text init ls (All-tail (λ (k : List ℕ × Place). k.1.at ≤ end_of k.1.part text init) l ls all))
  where
    go : (b : Bool) → IfSome (address_in w (addresses text ls)) (λ at. at ≤ data_start text + init) → IfSome (cond b (Some (address text l.1.part l.1.at)) (address_in w (addresses text ls))) (λ at. at ≤ data_start text + init)
    go true h = address_within text init l.1.part l.1.at (All-head (λ (k : List ℕ × Place). k.1.at ≤ end_of k.1.part text init) l ls all)
    go false h = h

-- an address of a label is a small number
pub small_address : (source : List ℕ) (s : Layout) → layout_of source ≡ Ok s → (w : List ℕ) → IfSome (address_in w (addresses s.text s.labels)) (λ at. at < 2 ^ 32)
small_address source s laid w =
    let p = layout_within source s laid in
    go (address_in w (addresses s.text s.labels)) p.text p.init (found_within w s.text s.init s.labels p.labels)
  where
    go : (o : Option ℕ) → s.text ≤ most_bytes → s.init ≤ most_bytes → IfSome o (λ at. at ≤ data_start s.text + s.init) → IfSome o (λ at. at < 2 ^ 32)
    go None t i h = tt
    go (Some at) t i h = omega (arith, t, i, h)

-- ---- which names have labels

abbrev HasAddress : List (List ℕ × ℕ) → List ℕ → Type 0
HasAddress labels w = is_some (address_in w labels) ≡ true

stated_addressed : (s : Layout) (p : Place) (stated : Statement) (o q : Output) (w : List ℕ) → stated_step s p stated o ≡ Ok q → global_of stated ≡ Some w → HasAddress (addresses s.text s.labels) w
unfolding stated_step directive_step
stated_addressed s p (Directed (directive.Global v)) o q w h e = subst (HasAddress (addresses s.text s.labels)) (some_is v w e) (found (address_in v (addresses s.text s.labels)) h)
  where
    some_is : (v w : List ℕ) → let l : Option (List ℕ) = Some v in let r : Option (List ℕ) = Some w in l ≡ r → v ≡ w
    some_is v w h = cc

    found : (a : Option ℕ) → (wanted a kinds.LabelMissing >>= λ at. ok o) ≡ Ok q → is_some a ≡ true
    found None h = absurd cc
    found (Some at) h = refl
stated_addressed s p stated o q w h e = absurd cc

items_addressed : (s : Layout) (o q : Output) (xs : List Item) → items_from s o xs ≡ Ok q → All (HasAddress (addresses s.text s.labels)) (globals_in xs)
unfolding items_from
items_addressed s o q [] h = All-nil (HasAddress (addresses s.text s.labels))
items_addressed s o q (x ∷ others) h =
    let labels = addresses s.text s.labels in
    let a = at_line_ok x.line (stated_step s x.place x.statement o) (λ p. items_from s p others) q h in
    go (global_of x.statement) (λ w e. stated_addressed s x.place x.statement o a.value w a.first e) (items_addressed s a.value q others a.second)
  where
    go : (g : Option (List ℕ)) → ((w : List ℕ) → g ≡ Some w → HasAddress (addresses s.text s.labels) w) → All (HasAddress (addresses s.text s.labels)) (globals_in others) → All (HasAddress (addresses s.text s.labels)) (cons_option g (globals_in others))
    go None here rest = rest
    go (Some w) here rest = All-cons (HasAddress (addresses s.text s.labels)) w (globals_in others) (here w refl) rest

-- what holds of all names holds of each that stands among them
among_all : (P : List ℕ → Type 0) (w : List ℕ) (xs : List (List ℕ)) → is_global w xs ≡ true → All P xs → P w
among_all P w [] h all = absurd cc
among_all P w (x ∷ xs) h all = go (bytes_eq w x) refl h (λ g. among_all P w xs g (All-tail P x xs all))
  where
    go : (b : Bool) → bytes_eq w x ≡ b → (b || is_global w xs) ≡ true → (is_global w xs ≡ true → P w) → P w
    go true e h rest = subst P (sym (same_name w x e)) (All-head P x xs all)
    go false e h rest = rest h

among_itself : (xs : List (List ℕ)) → All (λ w. is_global w xs ≡ true) xs
among_itself [] = All-nil (λ w. is_global w [] ≡ true)
among_itself (x ∷ xs) =
    All-cons (λ w. is_global w (x ∷ xs) ≡ true) x xs (rw ((bytes_decides x x).1 refl) refl) (λ k d lt. let w = get_or xs k d in behind (bytes_eq w x) (is_global w xs) (among_itself xs k d lt))
  where
    behind : (a b : Bool) → b ≡ true → (a || b) ≡ true
    behind true b h = refl
    behind false b h = h

all_addressed : (s : Layout) → HasGlobals s → All (HasAddress (addresses s.text s.labels)) (globals_in s.items) → All (HasAddress (addresses s.text s.labels)) s.globals
all_addressed s g all k d lt =
    let w = get_or s.globals k d in
    among_all (HasAddress (addresses s.text s.labels)) w (globals_in s.items) (sym (g.same w) ∙ among_itself s.globals k d lt) all

-- ---- the symbols

abbrev named_at : List ℕ → ℕ → Symbol
named_at w at = record { name = w; address = at }

symbols_named : (labels : List (List ℕ × ℕ)) (names : List (List ℕ)) → All (HasAddress labels) names → symbol_names (symbols_of labels names) ≡ names
symbols_named labels [] all = refl
symbols_named labels (w ∷ ws) all = go (address_in w labels) (All-head (HasAddress labels) w ws all) (symbols_named labels ws (All-tail (HasAddress labels) w ws all))
  where
    go : (a : Option ℕ) → is_some a ≡ true → symbol_names (symbols_of labels ws) ≡ ws → symbol_names (cons_option (option_map (named_at w) a) (symbols_of labels ws)) ≡ w ∷ ws
    go None h rest = absurd cc
    go (Some at) h rest = ap (λ (vs : List (List ℕ)). w ∷ vs) rest

symbols_all : (labels : List (List ℕ × ℕ)) (names : List (List ℕ)) (P : List ℕ → Type 0) (Q : Symbol → Type 0) → ((w : List ℕ) (at : ℕ) → P w → address_in w labels ≡ Some at → Q (named_at w at)) → All P names → All Q (symbols_of labels names)
symbols_all labels [] P Q f all = All-nil Q
symbols_all labels (w ∷ ws) P Q f all = go (address_in w labels) refl (symbols_all labels ws P Q f (All-tail P w ws all))
  where
    go : (a : Option ℕ) → address_in w labels ≡ a → All Q (symbols_of labels ws) → All Q (cons_option (option_map (named_at w) a) (symbols_of labels ws))
    go None e rest = rest
    go (Some at) e rest = All-cons Q (named_at w at) (symbols_of labels ws) (f w at (All-head P w ws all) e) rest

-- what an image asks of the symbols of a source, and what they are
pub record AreWhole (s : Layout) : Type 0 where
  pub few : length (symbols_in s) ≤ most_globals
  pub symbols : All (IsSymbol (data_start s.text + s.init)) (symbols_in s)
  pub rising : RisingNames (symbol_names (symbols_in s))
  pub globals : AreGlobals s (symbols_in s)

pub whole_symbols : (source : List ℕ) (s : Layout) (o : Output) → layout_of source ≡ Ok s → items_from s empty_output s.items ≡ Ok o → AreWhole s
whole_symbols source s o laid made =
    let labels = addresses s.text s.labels in
    let within = layout_within source s laid in
    let g : HasGlobals s = lines_from-keeps HasGlobals globals_kept 1 empty_layout s (lines source) laid (record { names = nothing_named; same = λ w. refl }) in
    let same : symbol_names (symbols_in s) ≡ s.globals = symbols_named labels s.globals (all_addressed s g (items_addressed s empty_output o s.items made)) in
    let rising : RisingNames (symbol_names (symbols_in s)) = subst RisingNames (sym same) g.names.rising in
    record {
      few = omega (arith, g.names.few, length-map (symbols_in s) (λ (x : Symbol). x.name), ap length same);
      symbols = symbols_all labels s.globals (λ w. is_symbol_name w ≡ true) (IsSymbol (data_start s.text + s.init)) (λ w at named e. record { named = named; in_memory = placed w at e (found_within w s.text s.init s.labels within.labels) }) g.names.named;
      rising = rising;
      globals = record {
        rising = rising;
        named = λ w. ap (is_global w) same ∙ g.same w;
        addresses = symbols_all labels s.globals (λ w. is_symbol_name w ≡ true) (λ x. address_in x.name labels ≡ Some x.address) (λ w at named e. e) g.names.named;
      };
    }
  where
    placed : (w : List ℕ) (at : ℕ) → address_in w (addresses s.text s.labels) ≡ Some at → IfSome (address_in w (addresses s.text s.labels)) (λ a. a ≤ data_start s.text + s.init) → at ≤ data_start s.text + s.init
    placed w at e h = subst (λ (a : Option ℕ). IfSome a (λ b. b ≤ data_start s.text + s.init)) e h
