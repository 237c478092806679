-- What is written as it is made.
use Rattle.std.proofs.Common.{ℕ, List, inl, inr}
use Rattle.std.specs.Prelude.{Option}
use Rattle.std.specs.Io.KnownBytes.{Keeps}
use Rattle.std.proofs.KnownBytes.{Appends-kept, Keeps-refl, Keeps-trans}
use Rattle.rvmc_line.specs.declared.line.RecordCommand.{RecordCommand}
use Rattle.rvmc_answers.specs.Below.{Fault}
use Rattle.rvmc_answers.specs.Below.faults
use Rattle.rvmc_views.specs.Pieces.{IsMade, LeavesPieces}

-- a fault of the record leaves nothing
pub unread_left : (command : RecordCommand) (bytes : List ℕ) (fault : Fault) (known : Option (List ℕ))
    → LeavesPieces command bytes fault known known
unread_left command bytes faults.Memory known = inl (Keeps-refl known)
unread_left command bytes other known = Keeps-refl known

-- what stands at a writer stays there when it is flushed
module _ (command : RecordCommand) (bytes : List ℕ) (before old new : Option (List ℕ)) (keeps : Keeps old new) where
  pub made_stays : IsMade command bytes before old → IsMade command bytes before new
  made_stays made = record {
    text = made.text;
    says = made.says;
    there = Appends-kept before old new made.text made.there keeps;
  }

  pub left_stays : (fault : Fault) → LeavesPieces command bytes fault before old → LeavesPieces command bytes fault before new
  left_stays faults.Memory (inl stays) = inl (Keeps-trans before old new stays keeps)
  left_stays faults.Memory (inr begun) = inr (record {
    text = begun.text;
    says = begun.says;
    front = begun.front;
    begins = begun.begins;
    there = Appends-kept before old new begun.front begun.there keeps;
  })
  left_stays other stays = Keeps-trans before old new stays keeps
