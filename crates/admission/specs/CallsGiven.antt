-- What a call is given, as the definitions speak of it.
use Rattle.board.specs.Given.{list_of, board_of}
use Rattle.likelihood.specs.Given.{likelihoods_of}
use Rattle.admission.specs.declared.call.HardCall.{HardCall as HardGiven}
use Rattle.admission.specs.declared.call.SoftCall.{SoftCall as SoftGiven}
use Rattle.admission.specs.Calls.{HardCall, SoftCall, hard_call, soft_call}

-- a hard call
abbrev pub hard_call_of : HardGiven → HardCall
hard_call_of c = hard_call (list_of c.logical) (list_of c.physical) c.transforms.now (board_of c.tables) c.error_limit

-- a soft call
abbrev pub soft_call_of : SoftGiven → SoftCall
soft_call_of c =
    soft_call (list_of c.hard.logical) (list_of c.hard.physical) (likelihoods_of c.likelihoods) c.hard.transforms.now (board_of c.hard.tables) c.hard.error_limit c.soft_margin
