-- The rows of ranks that go alone.
use Rattle.std.specs.List.Sorted.{IsStrictlySortedBy}
use Rattle.std.specs.Prelude.{All, ℕ, ◌≡◌, ◌+◌, ◌%◌, ◌<◌, ◌≤◌, List, [], ◌∷◌, length}
use Rattle.std.proofs.Common.{refl, arith}
use Rattle.std.proofs.lemmas.List.Elements.{All-nil, All-cons}
use mathlib.Core.Logic.{inr}
use Rattle.rv_image_types.specs.Image.{IsImage, IsLink, data_start}
use Rattle.rv_decode.specs.Decoded.{decoded}
use Rattle.rv_hart.specs.Effect.{gives}
use Rattle.rv_hart.specs.Results.{imm_result}
use Rattle.rv_hart.specs.Stepped.{stepped}
use Rattle.cl_state.specs.Asked.{asked, doing}
use Rattle.cl_state.specs.Told.{arrived, part_readied, phase_begun, returned, seen_one, taken_one, told}
use Rattle.cl_arrival_laws.specs.AloneRows.{ReadyRow, TakeRow, WaitRow, linked, receiving_words, sending_words}
use Rattle.cl_arrival_laws.specs.AloneRows.{waiting_words}

one_link : All (IsLink 2) (record { from = 0; to = 1 } ∷ [])
one_link =
    All-cons (IsLink 2) _ [] (record { from_there = omega arith; to_there = omega arith; differ = λ e. omega (arith, e) })
    (All-nil (IsLink 2))

-- an image of these words: there are some, and they fit
linked_is_image : (words : List ℕ) → 0 < length (linked words).text → length (linked words).text % 4 ≡ 0
    → length (linked words).text ≤ 4096 → data_start (length (linked words).text) + 0 ≤ 4096 → IsImage (linked words)
unfolding IsStrictlySortedBy
linked_is_image words some whole few fit = record {
  has_ranks = omega arith;
  few_ranks = omega arith;
  has_harts = omega arith;
  few_harts = omega arith;
  least_memory = omega arith;
  most_memory = omega arith;
  whole_pages = refl;
  stacks_fit = omega arith;
  has_text = some;
  whole_words = whole;
  text_fits = few;
  init_fits = fit;
  entry_aligned = refl;
  entry_in_text = some;
  few_comms = omega arith;
  comms = All-nil _;
  few_links = omega arith;
  links = one_link;
  few_symbols = omega arith;
  symbols = All-nil _;
  rising = tt;
}

sending_is_image : IsImage (linked sending_words)
sending_is_image = linked_is_image sending_words (omega arith) refl (omega arith) (omega arith)

receiving_is_image : IsImage (linked receiving_words)
receiving_is_image = linked_is_image receiving_words (omega arith) refl (omega arith) (omega arith)

waiting_is_image : IsImage (linked waiting_words)
waiting_is_image = linked_is_image waiting_words (omega arith) refl (omega arith) (omega arith)

pub ready : ReadyRow
unfolding asked told doing returned stepped decoded gives imm_result phase_begun part_readied
ready = (
  sending_is_image,
  (
    _,
    _,
    (
      _,
      (omega arith, omega arith, refl, refl, refl),
      (
        _,
        (omega arith, omega arith, refl, refl, refl),
        (
          _,
          (omega arith, omega arith, refl, refl, refl),
          (
            _,
            (omega arith, omega arith, refl, refl, refl),
            (
              _,
              (omega arith, omega arith, refl, refl, refl),
              (
                _,
                (omega arith, omega arith, refl, (refl, omega arith), refl),
                (
                  _,
                  (omega arith, omega arith, refl, refl, refl),
                  (
                    _,
                    (omega arith, omega arith, refl, refl, refl),
                    (
                      _,
                      (omega arith, omega arith, refl, refl, refl),
                      (
                        _,
                        (omega arith, omega arith, refl, refl, refl),
                        (
                          _,
                          (omega arith, omega arith, refl, refl, refl),
                          (
                            _,
                            (omega arith, omega arith, refl, refl, refl),
                            refl,
                          ),
                        ),
                      ),
                    ),
                  ),
                ),
              ),
            ),
          ),
        ),
      ),
    ),
    (omega arith, omega arith, refl, refl, refl),
  ),
)

pub take : TakeRow
unfolding asked told doing returned stepped decoded gives imm_result phase_begun arrived taken_one seen_one
take = (
  receiving_is_image,
  (
    _,
    _,
    (
      _,
      (omega arith, omega arith, refl, refl, refl),
      (
        _,
        (omega arith, omega arith, refl, refl, refl),
        (
          _,
          (omega arith, omega arith, refl, refl, refl),
          (
            _,
            (omega arith, omega arith, refl, refl, refl),
            (
              _,
              (omega arith, omega arith, refl, (refl, omega arith), refl),
              (
                _,
                (omega arith, omega arith, refl, refl, refl),
                (
                  _,
                  (omega arith, omega arith, refl, refl, refl),
                  (
                    _,
                    (omega arith, omega arith, refl, refl, refl),
                    (
                      _,
                      (omega arith, omega arith, refl, refl, refl),
                      (
                        _,
                        (omega arith, omega arith, refl, refl, refl),
                        (
                          _,
                          (omega arith, omega arith, refl, refl, refl),
                          (
                            _,
                            (omega arith, omega arith, refl, (refl, omega arith), refl),
                            (
                              _,
                              (omega arith, omega arith, refl, refl, refl),
                              (
                                _,
                                (omega arith, omega arith, refl, refl, refl),
                                refl,
                              ),
                            ),
                          ),
                        ),
                      ),
                    ),
                  ),
                ),
              ),
            ),
          ),
        ),
      ),
    ),
    (omega arith, omega arith, refl, refl, refl),
    record { handle = 1; side = _; calls = refl; names = refl; on = refl; flag = refl },
    refl,
  ),
)

pub wait : WaitRow
unfolding asked told doing returned stepped decoded gives imm_result phase_begun arrived taken_one
wait = (
  waiting_is_image,
  (
    _,
    _,
    (
      _,
      (omega arith, omega arith, refl, refl, refl),
      (
        _,
        (omega arith, omega arith, refl, refl, refl),
        (
          _,
          (omega arith, omega arith, refl, refl, refl),
          (
            _,
            (omega arith, omega arith, refl, refl, refl),
            (
              _,
              (omega arith, omega arith, refl, (refl, omega arith), refl),
              (
                _,
                (omega arith, omega arith, refl, refl, refl),
                (
                  _,
                  (omega arith, omega arith, refl, refl, refl),
                  (
                    _,
                    (omega arith, omega arith, refl, refl, refl),
                    (
                      _,
                      (omega arith, omega arith, refl, refl, refl),
                      (
                        _,
                        (omega arith, omega arith, refl, refl, refl),
                        (
                          _,
                          (omega arith, omega arith, refl, refl, refl),
                          (
                            _,
                            (omega arith, omega arith, refl, (refl, omega arith), refl),
                            refl,
                          ),
                        ),
                      ),
                    ),
                  ),
                ),
              ),
            ),
          ),
        ),
      ),
    ),
    (omega arith, omega arith, refl, refl, refl),
    record { completing = _; side = _; calls = inr refl; names = refl; on = refl; going = refl; complete = refl },
    refl,
  ),
)
