-- One edge more of match statistics, and the two ways in which they end.
use Rattle.std.specs.Prelude.{◌≡◌, Bool, Err, Ok}
use Rattle.std.proofs.Math.Path.{refl, sym, ap, ap₂}
use Rattle.std.proofs.Common.{◌∙◌}
use Prim.Native.Nat.{ℕ, ◌+◌, ◌≤◌}
use Rattle.std.proofs.Math.ListN.{get_or}
use Rattle.std.specs.Float.Ieee.{Float, add}
use Rattle.std.specs.Float.{nan, binary32}
use Rattle.laws.specs.Words.{one, count, zero_f}
use Rattle.laws.specs.Fold.{fold_more, fold-zero}
use Rattle.laws.specs.Counting.{count-le}
use Rattle.board.specs.Hits.{EdgeList, Board, size, hit, hits}
use Rattle.figures.specs.Figures.{mean_of}
use Rattle.refusals.specs.declared.Refusal.{Refusal}
use Rattle.refusals.specs.Admission.{Admission, accepted}
use Rattle.answer.specs.declared.MatchStats.{MatchStats}
use Rattle.figures.specs.declared.Fit.{Fit}
use Rattle.admission.specs.Refusals.{stats_admission}
use Rattle.stats.specs.Stats.{stats_rate, hit_weight, stats_of, stats_answer, or_counted, added, hits_and_weight}

module _ (E : EdgeList) (t row col : ℕ) (B : Board) where
  -- after n edges
  unfoldable pub so_far : ℕ → Fit
  so_far n = record { hits = count n (hit B E t row col); weight = hit_weight B E t row col n }

  pub so-far-none : record { hits = 0; weight = zero_f } ≡ so_far 0
  unfolding so_far hit_weight
  so-far-none = sym (ap₂ pair (fold-zero ◌+◌ 0 (hit B E t row col) one) (fold-zero (add binary32) zero_f (hit B E t row col) (λ i. get_or E.confidences i nan)))
    where
      pair : ℕ → Float → Fit
      pair h w = record { hits = h; weight = w }

  pub so_far_more : (n : ℕ) (s r : Fit) (b : Bool) → s ≡ so_far n → b ≡ hit B E t row col n → r ≡ added s b (get_or E.confidences n nan) → r ≡ so_far (n + 1)
  unfolding so_far hit_weight
  so_far_more n s r b e h k =
      k ∙ ap₂ (λ (x : Fit) (y : Bool). added x y (get_or E.confidences n nan)) e h
      ∙ sym (ap₂ pair (fold_more ◌+◌ 0 (hit B E t row col) one n) (fold_more (add binary32) zero_f (hit B E t row col) (λ i. get_or E.confidences i nan) n))
    where
      pair : ℕ → Float → Fit
      pair h w = record { hits = h; weight = w }

  pub so-far-few : (n : ℕ) → (so_far n).hits ≤ n
  unfolding so_far
  so-far-few n = count-le (hit B E t row col) n

  pub so-far-all : so_far (size E) ≡ hits_and_weight E t row col B
  unfolding so_far hits_and_weight hits
  so-far-all = refl

  -- ---- the two ends
  module _ (a : Admission) (e : a ≡ stats_admission E t row col B) where
    pub stats-refused : (r : Refusal) → a ≡ Err r → Err r ≡ stats_answer E t row col B
    unfolding stats_answer
    stats-refused r n = ap (λ (x : Admission). or_counted x (stats_of E t row col B)) (sym n ∙ e)

    pub stats-counted : (c : Fit) (s : MatchStats) → a ≡ accepted → c ≡ hits_and_weight E t row col B
        → s ≡ record { edges = size E; hits = c.hits; error_rate = stats_rate (size E) c.hits; mean_confidence = mean_of c.hits c.weight } → Ok s ≡ stats_answer E t row col B
    unfolding stats_answer stats_of hits_and_weight
    stats-counted c s z k d =
        ap Ok (d ∙ ap (λ (x : Fit). record { edges = size E; hits = x.hits; error_rate = stats_rate (size E) x.hits; mean_confidence = mean_of x.hits x.weight }) k)
        ∙ ap (λ (x : Admission). or_counted x (stats_of E t row col B)) (sym z ∙ e)
