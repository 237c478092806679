-- The layout that the code keeps.
use Rattle.std.specs.Prelude.{ℕ, List, ◌∷◌, map, Option, Some, None}
use Rattle.rv_asm_tokens.specs.Lexeme.{Lexeme, name, colon}
use Rattle.std.specs.Borrow.{Bor}
use Rattle.std.specs.BTreeSet.{BTreeSet}
use Rattle.std.specs.Global.{Vec}
use Rattle.rv_asm_lines.specs.declared.layout.Layout.{Layout as Kept}
use Rattle.rv_asm_lines.specs.declared.parts.Place.{Place}
use Rattle.rv_asm_lines.specs.Layout.{Labels, Layout, addresses}

abbrev pub labels_view : List (Bor (List ℕ) × Place) → Labels
labels_view entries = map (λ e. (e.0.now, e.1)) entries

-- the names of `.globl`
abbrev pub names_view : BTreeSet (Vec ℕ) → List (List ℕ)
names_view names = map (λ w. w.items) names.keys

abbrev pub layout_view : Kept → Layout
layout_view s =
    record {
      text = s.text;
      init = s.init;
      part = s.part;
      fields = s.fields;
      globals = names_view s.globals;
      labels = labels_view s.labels.entries;
      items = s.items.items;
    }

-- the labels of the code with their addresses
abbrev pub addresses_view : Kept → List (List ℕ × ℕ)
addresses_view s = addresses s.text (labels_view s.labels.entries)

-- the name and the rest of tokens that begin with a name and a colon
abbrev pub front_label : List Lexeme → Option (List ℕ × List Lexeme)
front_label (name w ∷ colon ∷ rest) = Some (w, rest)
front_label _ = None
