use Prim.Native.Nat.{◌/◌, ◌^◌}
use lib.Bits.{and_mask}
use Rattle.board.proofs.pattern.pattern_bit.Goals as goal

pub returns : goal.returns
returns c = and_mask (c.args.pattern / 2 ^ c.args.j) 1
