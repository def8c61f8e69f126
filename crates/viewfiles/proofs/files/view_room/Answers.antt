-- `view_room`: as many zeros as it says.
use Rattle.std.specs.Prelude.{◌≡◌, ℕ, length, replicate}
use Rattle.std.proofs.Common.{sym}
use lib.ListN.{length-replicate}
use Rattle.viewfiles.proofs.files.view_room.Goals as goal

zeros : (n x : ℕ) → n ≡ length (replicate n x)
zeros n x = sym (length-replicate n x)

pub returns : goal.returns
returns c = zeros 1048576 0
