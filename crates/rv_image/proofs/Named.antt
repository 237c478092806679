-- One more member of a communicator, where those before it are the first bytes.
use Rattle.std.proofs.Common.{◌≡◌, ℕ, ◌+◌, ◌<◌, ◌≤◌, List, length, get_or, take, drop, true, false, Ok, Err, refl, take-suc, drop-cons, add-one}
use Rattle.std.proofs.Math.ListN.{drop_of_length-le}
use Rattle.rv_image.specs.declared.faults.ImageFault.TheVariants as faults
use Rattle.rv_image.specs.Reading.{next_member, is_new_rank}

pub member_missing : (total ranks n k : ℕ) (bytes : List ℕ) → length bytes ≤ k → next_member total ranks n (take k bytes) (drop k bytes) ≡ Err (faults.Short total)
member_missing total ranks n k bytes le = rw (drop_of_length-le bytes le) refl

pub member_refused : (total ranks n k : ℕ) (bytes : List ℕ) → k < length bytes → is_new_rank ranks (take k bytes) (get_or bytes k 0) ≡ false → next_member total ranks n (take k bytes) (drop k bytes) ≡ Err (faults.Comm n)
member_refused total ranks n k bytes lt h = rw (drop-cons bytes k 0 lt, h) refl

pub member_taken : (total ranks n k : ℕ) (bytes : List ℕ) → k < length bytes → is_new_rank ranks (take k bytes) (get_or bytes k 0) ≡ true → next_member total ranks n (take k bytes) (drop k bytes) ≡ Ok (take (k + 1) bytes, drop (k + 1) bytes)
member_taken total ranks n k bytes lt h = rw (add-one, take-suc bytes k 0 lt, drop-cons bytes k 0 lt, h) refl
