-- One word or two, as a list.
use Rattle.std.specs.Prelude.{ℕ, List, ◌∷◌, option_to_list}
use Rattle.rv_asm_lines.specs.declared.words.Words.{Words}

abbrev pub words_list : Words → List ℕ
words_list w = w.first ∷ option_to_list w.second
