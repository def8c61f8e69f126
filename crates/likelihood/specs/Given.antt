-- What a call is given of likelihoods, as the definitions speak of it.
use Rattle.likelihood.specs.declared.Likelihoods.{Likelihoods as Columns}
use Rattle.likelihood.specs.Likelihood.{Likelihoods, likelihoods}

-- two columns as the likelihoods of a list
abbrev pub likelihoods_of : Columns → Likelihoods
likelihoods_of l = likelihoods l.matches.now l.mismatches.now
