use mathlib.Core.Path.{◌≡◌, ap₂, ◌∙◌}
use lib.IntN.{ℤ}
use mir.Syntax.{w32}
use mir.Val.{to_z, of_z}
use Rattle.stats.specs.Stats.{stats_answer}
use Rattle.tally_checks.specs.Judged.{alone}
use Rattle.tally_checks.proofs.JudgedLaws.{judged-refused, judged-counted}
use borrow.Author.Rules.{rules}
use Rattle.tally_checks.proofs.judge_edge.Goals as goal
use Rattle.board.specs.Given.{board_of}

pub returns-in-Err : goal.returns-in-Err
returns-in-Err c =
    let row_back : to_z w32 (of_z w32 c.args.edge.row) ≡ c.args.edge.row = search rules in
    let col-back : to_z w32 (of_z w32 c.args.edge.col) ≡ c.args.edge.col = search rules in
    let answered : let a = c.args in c.match_stats-answer.result ≡ stats_answer (alone a.edge a.confidence) a.square.transform a.square.row a.square.col (board_of a.tables) = let a = c.args in
    c.match_stats-answer.ensures
    ∙ ap₂ (λ (x y : ℤ). stats_answer (alone (record { row = x; col = y; orientation = a.edge.orientation; bit = a.edge.bit }) a.confidence) a.square.transform a.square.row a.square.col (board_of a.tables)) (row_back) (col-back) in
    judged-refused c.args.edge _ _ _ _ c.match_stats-answer.result (answered) _ _ c.in-Err.is c.moved.ensures

pub returns-in-Ok : goal.returns-in-Ok
returns-in-Ok c =
    let row_back : to_z w32 (of_z w32 c.args.edge.row) ≡ c.args.edge.row = search rules in
    let col-back : to_z w32 (of_z w32 c.args.edge.col) ≡ c.args.edge.col = search rules in
    let answered : let a = c.args in c.match_stats-answer.result ≡ stats_answer (alone a.edge a.confidence) a.square.transform a.square.row a.square.col (board_of a.tables) = let a = c.args in
    c.match_stats-answer.ensures
    ∙ ap₂ (λ (x y : ℤ). stats_answer (alone (record { row = x; col = y; orientation = a.edge.orientation; bit = a.edge.bit }) a.confidence) a.square.transform a.square.row a.square.col (board_of a.tables)) (row_back) (col-back) in
    judged-counted c.args.edge _ c.args.position _ _ c.match_stats-answer.result (answered) _ c.in-Ok.is
