-- What the fields of a box and of its keys keep.
use Rattle.std.specs.Prelude.{◌≡◌, ℕ, ◌+◌, ◌<◌, ◌≤◌, [], length, true}
use Rattle.atomic_table.specs.Seated.{TableId}
use Rattle.atomic_table.specs.Table.{Me}
use Rattle.part_box.specs.declared.view.View.{View}

-- a box of this width, over the table `at` with this key
pub record IsBox (at : TableId) (key width : ℕ) : Type 0 where
  -- the gate, the data words, and no slot
  pub words : at.words ≡ width + 1
  pub slots : at.slots ≡ 0
  -- the rule reads the width off the key
  pub keyed : key ≡ width
  -- a thing has at least one word, and what is settled has room for 16
  pub least : 0 < width
  pub most : width ≤ 16

-- a seat that sends, and the number of words that it has filled
pub record IsSender (me : Me Unit View) (filled : ℕ) : Type 0 where
  pub sends : me.0.sends ≡ true
  pub no_slot : me.1 ≡ []
  pub counted : filled ≡ length me.0.sending.filled

-- a seat that receives, and the number of words that it has copied
pub record IsReceiver (me : Me Unit View) (copied : ℕ) : Type 0 where
  pub receives : me.0.receives ≡ true
  pub no_slot : me.1 ≡ []
  pub counted : copied ≡ length me.0.receiving.copied
